use Rattle.std.proofs.Common.{◌≡◌, ◌∙◌, ◌<◌, ◌+◌, ℕ, List, ◌∷◌, ◌++◌, [], IfOk, length, drop, option_map, ap, sym, append_assoc, append-nil, arith, subst}
use Rattle.std.specs.List.{flat_map}
use Rattle.std.proofs.lemmas.List.{drop_all, drop_more}
use Rattle.csv.specs.Writing.{default_writer, row_text}
use Rattle.ac_cloud.specs.Cloud.CloudWorld.{providers_of}
use Rattle.ac_cloud.specs.World.{id_at, no_provider, provider_at}
use Rattle.ac_session.specs.LeftRows.{left_columns, left_rows, left_text}
use Rattle.ac_session.proofs.left.left_text.Goals as goal

pub loop-ix-preserved : goal.loop-ix-preserved
loop-ix-preserved c =
    let all = providers_of c.args.cloud.now in
    let told = left_rows all (option_map (id_at all) c.args.root) in
    let ix = c.loop-ix.ix in
    let so = c.loop-ix.invariant in
    let low : ix < length all = omega (arith, c.loop-ix-test.true, c.len-ix-end.ensures) in (
      so.0 ++ told (provider_at all ix),
      c.in_ok-write_told.ensures so.0 so.1,
      append_assoc so.0 (told (provider_at all ix)) (flat_map told (drop (ix + 1) all))
          ∙ ap (λ l. so.0 ++ flat_map told l) (sym (drop_more all ix no_provider low))
          ∙ so.2,
    )

pub returns : goal.returns
unfolding left_text
returns c =
    let all = providers_of c.args.cloud.now in
    let told = left_rows all (option_map (id_at all) c.args.root) in
    let so = c.loop-ix.invariant in
    let none : drop c.loop-ix.ix all ≡ [] = drop_all c.loop-ix.ix all (omega (arith, c.loop-ix-test.false, c.len-ix-end.ensures)) in
    let rows : so.0 ≡ left_columns ∷ flat_map told all = sym (append-nil so.0) ∙ ap (λ l. so.0 ++ flat_map told l) (sym none) ∙ so.2 in
    subst (λ (l : List (List (List ℕ))). IfOk c.end_rows.result (λ text. text.items ≡ flat_map (row_text default_writer) l)) rows (c.end_rows.ensures so.0 so.1)
