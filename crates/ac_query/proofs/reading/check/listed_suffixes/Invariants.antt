use Rattle.std.proofs.Common.{◌≡◌, map, drop}
use Rattle.std.specs.List.{flat_map}
use Rattle.ac_query.specs.Texts.{in_order_with}
use Rattle.ac_query.specs.Faults.{listed_suffixes}
use Rattle.ac_query.specs.Shown.{suffixes_shown}
use Rattle.ac_query.specs.Shown.Draft.{draft_asked}
use Rattle.ac_query.proofs.reading.check.listed_suffixes.Given as goal

abbrev pub invariant-loop-names : goal.invariant-loop-names
invariant-loop-names l =
    in_order_with (suffixes_shown l.listed) (flat_map (λ names. names) (map suffixes_shown (drop l.names-index l.draft.subtrees.items)))
    ≡ listed_suffixes (draft_asked l.draft)
