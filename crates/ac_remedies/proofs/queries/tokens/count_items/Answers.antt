use Rattle.std.proofs.Common.{◌≡◌, arith, rules}
use Rattle.std.specs.Prelude.{count_by}
use Rattle.std.proofs.lemmas.List.Splits.{length-slice_split}
use Rattle.ac_query.specs.Texts.{is_comma}
use Rattle.ac_remedies.proofs.queries.tokens.count_items.Goals as goal

pub returns : goal.returns
returns c =
    let commas : c.count.result ≡ count_by is_comma c.args.list.now = search rules in
    omega (arith, length-slice_split is_comma c.args.list.now)
