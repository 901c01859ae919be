-- No rule is broken exactly at the candidates.
use Rattle.std.proofs.Common.{◌≡◌, ℕ, true, List, [], ◌∷◌, refl, false, sym, ◌∙◌, arith}
use Rattle.std.proofs.lemmas.Bool.{false_from_ne_true}
use Rattle.ac_query.specs.Asked.{Asked}
use Rattle.ac_cloud.specs.World.{Provider}
use Rattle.ac_rules.specs.Placed.{assigned}
use Rattle.ac_rules.specs.Judge.{Test, tests, first_broken, all_hold, judge, is_candidate}
use Rattle.ac_rules.specs.Laws.{JudgesCandidates}
use Rattle.ac_rules.specs.declared.verdict.Rule.{Rule}
use Rattle.ac_rules.specs.declared.verdict.Verdict.TheVariants.{Candidate, Broken}

broken : (rule : Rule) → Broken rule ≡ Candidate → ⊥
broken rule h = cc

none_broken : (ts : List Test) → first_broken ts ≡ Candidate → all_hold ts ≡ true
none_broken [] h = refl
none_broken (t ∷ ts) h = grind (arith, none_broken ts, broken t.rule)

none_breaks : (ts : List Test) → all_hold ts ≡ true → first_broken ts ≡ Candidate
none_breaks [] h = refl
none_breaks (t ∷ ts) h = grind (arith, none_breaks ts)

pub judged_candidate : (all : List Provider) (asked : Asked) (list : List ℕ) → judge all asked list ≡ Candidate → is_candidate all asked list ≡ true
unfolding judge is_candidate
judged_candidate all asked list h = none_broken (tests all asked (assigned asked list)) h

pub candidate_judged : (all : List Provider) (asked : Asked) (list : List ℕ) → is_candidate all asked list ≡ true → judge all asked list ≡ Candidate
unfolding judge is_candidate
candidate_judged all asked list h = none_breaks (tests all asked (assigned asked list)) h

pub judged_broken : (all : List Provider) (asked : Asked) (list : List ℕ) (rule : Rule) → judge all asked list ≡ Broken rule → is_candidate all asked list ≡ false
judged_broken all asked list rule h =
    false_from_ne_true _ (λ e. broken rule (sym h ∙ candidate_judged all asked list e))

pub judges_candidates : JudgesCandidates
judges_candidates all asked list = (judged_candidate all asked list, candidate_judged all asked list)
