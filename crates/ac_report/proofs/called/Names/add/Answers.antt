use Rattle.std.proofs.Common.{◌∙◌, ℕ, List, Some, true, false, ap, inl, inr, refl, sym, append-nil}
use Rattle.std.proofs.lemmas.Bool.{cases_Bool}
use Rattle.std.proofs.lemmas.Map.Text.{btree_map_updates_str}
use Rattle.std.proofs.lemmas.Slice.Eq.{bytes_eq-Decides}
use Rattle.std.specs.Str.{bytes_eq}
use Rattle.ac_report.specs.Called.{ids_called, joined, known_by, known_of}
use Rattle.ac_report.proofs.OneCalled.{ids_behind, known_behind}
use Rattle.ac_report.proofs.called.Names.add.Goals as goal

pub returns : goal.returns
returns c called were q =
    let name = c.args.name.now in
    let known = c.args.self.now.known in
    let one : ℕ × List ℕ = (c.args.id, name) in
    let after = btree_map_updates_str name known c.insert.new.self _ c.in_ok-insert.ensures.updates q in
    elim (cases_Bool (bytes_eq name q)) [
      | inl same ↦
          let only = ap (λ k. Some (joined k c.args.id)) (ap (known_of known) ((bytes_eq-Decides name q).0 same) ∙ were q) in
          after ∙ rw (same, c.joined-only.ensures, c.known_of.ensures, c.as_u128.ensures) only
          ∙ sym (known_behind (ids_called called q) c.args.id)
          ∙ ap known_by (sym (ids_behind called one q true (rw (sym c.is_empty.ensures ∙ c.if-is_empty.false, same) refl)))
      | inr other ↦
          after ∙ rw other (were q)
          ∙ ap known_by (sym (ids_behind called one q false (rw (sym c.is_empty.ensures ∙ c.if-is_empty.false, other) refl) ∙ append-nil (ids_called called q)))
    ]
