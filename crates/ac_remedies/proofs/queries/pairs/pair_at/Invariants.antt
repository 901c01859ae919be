use Rattle.std.proofs.Common.{◌≡◌, ◌-◌, map}
use Rattle.std.specs.List.{slice_get}
use Rattle.form_urlencoded.specs.Parse.{owned_pairs_left}
use Rattle.ac_query.specs.Pairs.{pair_text}
use Rattle.ac_remedies.specs.Queries.{pair_at}
use Rattle.ac_remedies.proofs.queries.pairs.pair_at.Given as goal

abbrev pub invariant-loop-pair : goal.invariant-loop-pair
invariant-loop-pair l = slice_get (map pair_text (owned_pairs_left l.pair-iterator)) (l.left - 1) ≡ pair_at l.fn.text l.fn.number
