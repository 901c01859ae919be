use Rattle.ac_tables.proofs.Common.{◌≡◌, ◌∙◌, ◌-◌, ◌<◌, ℕ, List, length, get_or, sym, ap, subst, arith, drop, take, IsSpan, own_rows, TableRow}
use Rattle.ac_tables.specs.declared.reader.provider_rows.ProviderRows.{ProviderRows}
use Rattle.ac_tables.specs.declared.reader.provider_rows.Span.{Span}
use Rattle.ac_tables.proofs.Gathered.OwnRows.{own_size}
use Rattle.ac_tables.proofs.Gathered.RowSlices.{span_kept}
use Rattle.ac_tables.proofs.reader.provider_rows.ProviderRows.of.Goals as goal

module _ {K X : Type 0} (own : ProviderRows K X) (place : ℕ) (inside : place < length (own_rows own)) (span : Span) (is : span ≡ get_or own.spans.items place span) where
  at_place : IsSpan own.rows.items place span.from span.end
  at_place = subst (λ (s : Span). IsSpan own.rows.items place s.from s.end) (sym is) (own.spanned place span (omega (arith, inside, own_size own)))

pub rows_at-requires-clause-order : goal.rows_at-requires-clause-order
rows_at-requires-clause-order g c = (at_place c.args.self.now c.args.place c.requires c.index.result.now c.index.ensures).order

pub rows_at-requires-clause-inside : goal.rows_at-requires-clause-inside
rows_at-requires-clause-inside g c = rw c.deref.ensures.value (at_place c.args.self.now c.args.place c.requires c.index.result.now c.index.ensures).inside

pub returns : goal.returns
returns g c =
    let span = c.index.result.now in
    c.rows_at.ensures ∙ ap (λ (l : List (TableRow _ _)). take (span.end - span.from) (drop span.from l)) c.deref.ensures.value
    ∙ span_kept c.args.self.now.rows.items c.args.place _ _ (at_place c.args.self.now c.args.place c.requires c.index.result.now c.index.ensures)
