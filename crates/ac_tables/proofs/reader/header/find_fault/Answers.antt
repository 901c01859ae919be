use Rattle.ac_tables.proofs.Common.{◌∙◌, sym}
use Rattle.ac_tables.proofs.Gathered.Header.{lacks, doubles, fine}
use Rattle.ac_tables.proofs.reader.header.find_fault.Goals as goal

pub returns-then-lacks_one : goal.returns-then-lacks_one
returns-then-lacks_one c = lacks _ _ (sym c.lacks_one.ensures ∙ c.if-lacks_one.true)

pub returns-then-doubles_one : goal.returns-then-doubles_one
returns-then-doubles_one c = doubles _ _ (sym c.lacks_one.ensures ∙ c.if-lacks_one.false) (sym c.doubles_one.ensures ∙ c.if-doubles_one.true)

pub returns : goal.returns
returns c = fine _ _ (sym c.lacks_one.ensures ∙ c.if-lacks_one.false) (sym c.doubles_one.ensures ∙ c.if-doubles_one.false)
