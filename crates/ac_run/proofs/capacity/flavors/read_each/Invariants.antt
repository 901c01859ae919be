use Rattle.std.proofs.Common.{◌≡◌, ◌+◌, ◌++◌, All, drop, map, true}
use Rattle.ac_fill.specs.Filled.{asks_units}
use Rattle.ac_query.specs.Shown.Queries.{asked_of}
use Rattle.ac_run.specs.Flavors.{first_refused, plan_of, plan_shown}
use Rattle.ac_tables.specs.Flavors.{flavor_shown}
use Rattle.ac_run.proofs.capacity.flavors.read_each.Given as goal

abbrev pub invariant-loop-flavor : goal.invariant-loop-flavor
invariant-loop-flavor l =
    record {
      plans : map plan_shown l.plans.items ++ map (plan_of l.version) (map flavor_shown (drop l.flavor-index l.flavors)) ≡ map (plan_of l.version) (map flavor_shown l.flavors);
      refused : first_refused l.version l.row (map flavor_shown (drop l.flavor-index l.flavors)) ≡ first_refused l.version 2 (map flavor_shown l.flavors);
      units : All (λ plan. asks_units (asked_of plan.query) ≡ true) l.plans.items;
      row : l.row ≡ l.flavor-index + 2;
    }
