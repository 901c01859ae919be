use Rattle.std.proofs.Common.{◌∙◌, ◌+◌, inl, inr, ap, arith}
use Rattle.std.proofs.lemmas.Bool.{cases_Bool}
use Rattle.std.proofs.lemmas.Map.Text.{btree_map_updates_str}
use Rattle.std.proofs.lemmas.Slice.Eq.{bytes_eq-Decides}
use Rattle.std.specs.Option.{unwrap_or}
use Rattle.std.specs.Str.{bytes_eq}
use Rattle.ac_find.specs.Shown.Audit.{count_in}
use Rattle.ac_find.proofs.audit.names.count_name.Goals as goal

pub returns : goal.returns
returns c q =
    let name = c.args.name.now in
    let after = btree_map_updates_str name c.args.counts c.insert.new.self _ c.in_ok-insert.ensures.updates q in
    elim (cases_Bool (bytes_eq name q)) [
      | inl same ↦ ap (λ found. unwrap_or found 0) after ∙ rw same (ap (λ n. n + 1) (c.count_in-before.ensures ∙ ap (count_in c.args.counts) ((bytes_eq-Decides name q).0 same)))
      | inr other ↦ ap (λ found. unwrap_or found 0) after ∙ rw other (omega arith)
    ]
