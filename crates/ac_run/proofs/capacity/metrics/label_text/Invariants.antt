use Rattle.std.proofs.Common.{◌≡◌, ◌++◌, drop}
use Rattle.std.specs.List.{flat_map}
use Rattle.ac_run.specs.Capacity.{label_byte, label_text}
use Rattle.ac_run.proofs.capacity.metrics.label_text.Given as goal

abbrev pub invariant-loop-byte : goal.invariant-loop-byte
invariant-loop-byte l = l.label.items ++ flat_map label_byte (drop l.byte-index l.byte-items) ≡ label_text l.name
