use Rattle.ac_tables.proofs.Common.{◌∙◌, get_or_default, ap, arith, TableRow}
use Rattle.std.proofs.Common.{length-set}
use Rattle.ac_tables.proofs.Gathered.RowSlices.{edge_here, span_set, whole_span}
use Rattle.ac_tables.proofs.reader.provider_rows.find_spans.Goals as goal

pub runs-preserved : goal.runs-preserved
runs-preserved g c =
    let rows = c.args.rows.now in
    let run = c.run_end-end.ensures in
    record {
      within = run.inside;
      sized = length-set c.runs.spans.items _ _ ∙ c.runs.invariant.sized;
      edge = edge_here rows c.runs.from c.run_end-end.result run.after run.same run.apart;
      spans = span_set rows c.runs.from c.run_end-end.result run.after run.same c.runs.spans.items _
          (λ d. ap (λ (r : TableRow _ _). r.place) (get_or_default rows c.runs.from d c.index-rows-from.result (omega arith)))
          c.requires.grouped c.runs.invariant.edge run.inside c.runs.invariant.spans;
    }

pub returns-clause-spans : goal.returns-clause-spans
returns-clause-spans g c = λ p d inside.
    whole_span c.args.rows.now p _ _ c.runs.from (omega (arith, c.runs.invariant.within)) (c.runs.invariant.spans p d inside)
