use Rattle.std.proofs.Common.{refl}
use Rattle.ac_base.proofs.rows.no_rows.Goals as goal

pub returns : goal.returns
returns c =
    let from = c.from_writer.ensures in
    record {
      setup = from.cfg;
      fields = from.fields;
      clean = from.wrote;
      text = rw (from.wtr, from.empty, c.new.ensures.items) refl;
    }
