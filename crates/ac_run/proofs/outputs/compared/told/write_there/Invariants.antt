use Rattle.std.proofs.Common.{◌≡◌, ℕ, Result, map, max, string_bytes}
use Rattle.ac_report.specs.declared.fault.PageFault.{PageFault}
use Rattle.ac_report.specs.Outcomes.{WritesEach}
use Rattle.ac_run.specs.Compared.{is_among, lines_there, status_of}
use Rattle.ac_run.proofs.outputs.compared.told.write_there.Given as goal

-- what ends it well from here does all
abbrev pub invariant-loop-text : goal.invariant-loop-text
invariant-loop-text g l =
    let ours = is_among (map string_bytes l.met.keys) in
    record {
      status : max l.status (status_of (lines_there ours (map (λ t. t.now) l.text-iterator))) ≡ status_of (lines_there ours (map (λ t. t.now) l.texts.keys));
      writes : (r : Result ℕ PageFault) (new : g.row.W.Denot)
          → WritesEach g.W.Sink.taken g.W.Sink.failures ⊥ l.out new r (λ t. t) (lines_there ours (map (λ t. t.now) l.text-iterator))
          → WritesEach g.W.Sink.taken g.W.Sink.failures ⊥ l.fn.out new r (λ t. t) (lines_there ours (map (λ t. t.now) l.texts.keys));
    }
