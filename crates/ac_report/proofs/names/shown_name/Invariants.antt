use Rattle.std.proofs.Common.{◌≡◌, ◌≤◌, ◌++◌, ℕ, length}
use Rattle.std.specs.Str.Chunks.{utf8_chunks_rest}
use Rattle.ac_report.specs.Names.{shown_name, shown_within}
use Rattle.ac_report.proofs.names.shown_name.Given as goal

-- what was made, with what is written of the runs that are left, is what is written of all
abbrev pub invariant-loop-chunk : goal.invariant-loop-chunk
invariant-loop-chunk l =
    (k : ℕ) × (length (utf8_chunks_rest l.chunk-iterator) ≤ k) × (l.shown.items ++ shown_within k (utf8_chunks_rest l.chunk-iterator) ≡ shown_name l.name)
