use Rattle.std.proofs.Common.{[], None, Some, codes, false, arith, refl}
use Rattle.clap.proofs.OnLiterals.{clap_on_literals}
use Rattle.ac_query.specs.declared.version.Version.TheVariants.{V136}
use Rattle.ac_run.specs.Tasks.{check}
use Rattle.ac_tables.specs.Tables.Names.{table_name}
use Rattle.ac_words.specs.Names.{name_read}
use Rattle.ac_words.specs.Words.{call_of, faults, job, named, paths_in}
use Rattle.ac_words.specs.declared.form.Form.TheVariants.{Csv}
use Rattle.ac_cli.proofs.memory.words_ask.Goals as goal

pub returns : goal.returns
unfolding clap_on_literals name_read named faults call_of table_name
returns c = λ files b has.
    record {
      over = record {
        some = omega arith;
        fine = refl;
        line = record { call = job check []; version = V136; tries = None; form = Csv; changes = None; names = false; aggregate_names = Some (codes "cloud/aggregate-names.csv"); detail = false; paths = paths_in (codes "cloud") };
        says = record { call = refl; version = refl; tries = refl; form = refl; changes = refl; names = refl; aggregate_names = refl; detail = refl; paths = refl };
        file = [];
        changes = None;
        names = None;
        there = record { tables = has; own = refl; few = refl; changed = tt; few_changes = refl; named = refl; few_names = refl };
      };
      formed = refl;
      asks = refl;
    }
