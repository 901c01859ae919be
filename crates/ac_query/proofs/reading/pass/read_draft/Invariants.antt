use Rattle.std.proofs.Common.{◌≡◌, ◌≤◌, ◌+◌, length, map}
use Rattle.form_urlencoded.specs.Parse.{owned_pairs_left}
use Rattle.ac_query.specs.Pairs.{given, pair_text, pairs_of}
use Rattle.ac_query.specs.Laws.Gathered.{with_given, gathered}
use Rattle.ac_query.specs.Faults.{first_fault, pairs_conditions, text_conditions}
use Rattle.ac_query.specs.Shown.{texts_shown}
use Rattle.std.specs.List.{fold}
use Rattle.ac_query.specs.Shown.Draft.{draft_shown}
use Rattle.ac_query.proofs.reading.pass.read_draft.Given as goal

abbrev pub invariant-loop-pair : goal.invariant-loop-pair
invariant-loop-pair l =
    record {
      fits : l.number + length (owned_pairs_left l.pair-iterator) ≤ 65536;
      faults : first_fault (pairs_conditions l.fn.version (l.number + 1) (texts_shown l.earlier) (map pair_text (owned_pairs_left l.pair-iterator)))
          ≡ first_fault (text_conditions l.fn.version l.fn.text);
      asked : fold with_given (draft_shown l.draft) (given l.fn.version (map pair_text (owned_pairs_left l.pair-iterator))) ≡ gathered l.fn.version (pairs_of l.fn.text);
    }
