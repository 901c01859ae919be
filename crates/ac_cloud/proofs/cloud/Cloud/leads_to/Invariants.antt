use Rattle.ac_cloud.proofs.Common.{◌≡◌, ◌<◌, ◌-◌, length, is_in_chain, id_at, parent_of, providers_of}
use Rattle.ac_cloud.proofs.cloud.Cloud.leads_to.Given as goal

-- from where it stands the rest of the chain decides
abbrev pub invariant-loop-step : goal.invariant-loop-step
invariant-loop-step l =
    (l.at < length (providers_of l.self))
    × (is_in_chain (parent_of (providers_of l.self)) (length (providers_of l.self) - l._step) (id_at (providers_of l.self) l.a) (id_at (providers_of l.self) l.at)
    ≡ is_in_chain (parent_of (providers_of l.self)) (length (providers_of l.self)) (id_at (providers_of l.self) l.a) (id_at (providers_of l.self) l.b))
