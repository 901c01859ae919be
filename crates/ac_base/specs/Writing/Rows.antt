-- The rows that a `csv` writer has written into a vector.
use Rattle.std.specs.Prelude.{◌≡◌, ℕ, false, List, Some}
use Rattle.std.specs.Global.{Vec}
use Rattle.std.specs.List.{flat_map}
use Rattle.csv.specs.Writing.{default_writer, fields_written, has_written, row_text, text_written, writer_setup}
use Rattle.csv.specs.declared.writer.Writer.{Writer}

-- it has written these, and the next is to begin
pub record HasRows (w : Writer (Vec ℕ)) (rows : List (List (List ℕ))) : Type 0 where
  pub setup : writer_setup w ≡ default_writer
  pub fields : fields_written w ≡ 0
  pub clean : has_written w ≡ false
  pub text : text_written (λ (v : Vec ℕ). Some v.items) w ≡ Some (flat_map (row_text default_writer) rows)
