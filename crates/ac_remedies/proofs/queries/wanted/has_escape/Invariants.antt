use Rattle.std.proofs.Common.{◌≡◌, ◌-◌, ℕ, codes, drop, length, nat_eq}
use Rattle.std.specs.List.{list_any, range_with_len, starts_with}
use Rattle.ac_remedies.specs.Queries.Wanted.{has_escape}
use Rattle.ac_remedies.proofs.queries.wanted.has_escape.Given as goal

abbrev pub invariant-loop-at : goal.invariant-loop-at
invariant-loop-at l =
    list_any (λ (at : ℕ). starts_with nat_eq (drop at l.value) (codes "\\u0026")) (range_with_len l.at (length l.value - l.at)) ≡ has_escape l.value
