use Rattle.std.proofs.Common.{◌≡◌, [], map, take}
use Rattle.csv.specs.Records.{fields_of, partial_of}
use Rattle.ac_cloud.specs.Cloud.CloudWorld.{providers_of}
use Rattle.ac_report.specs.Called.{named_text}
use Rattle.ac_report.proofs.named.named_row.Given as goal

abbrev pub invariant-loop-ix : goal.invariant-loop-ix
invariant-loop-ix l =
    record {
      fields : fields_of l.row ≡ map (named_text (providers_of l.cloud)) (take l.ix-index l.list);
      whole : partial_of l.row ≡ [];
    }
