-- Where a walk begins in the list of a slot, so that it leaves out nothing after x and tries nothing before x.
use Rattle.std.proofs.Common.{◌≡◌, ℕ, Bool, ◌<◌, ◌≤◌, suc, true, false, List, [], ◌∷◌, ◌++◌, inl, inr, length, take, get_or, sym, ap, ◌∙◌, subst, arith, length-append, length-take, take_all, get_or-take}
use Rattle.std.specs.List.{slice_index, AllByRecursion as Each}
use Rattle.std.proofs.Math.Seq.{take-suc}
use Rattle.std.proofs.lemmas.Bool.{cases_Bool, cases_lt, lt-ltb, le-ltb, false≢true}
use Rattle.std.proofs.lemmas.Bool.Decides.{nat_tests}
use Rattle.std.proofs.lemmas.List.{get_or_default, get_or_push}
use Rattle.ac_rules.specs.Lists.{lex_lt}
use Rattle.ac_prune.specs.Search.{Search, sought, choices_at, next_at}
use Rattle.ac_search.specs.Search.{next_front, least_at, HasAt, IsStart, Enters, IsSound}
use Rattle.ac_rules.proofs.Elements.{Among, each_weaker}
use Rattle.ac_rules.proofs.Lists.OrderLemmas.{lex_asym, lex_trans, lex_total}
use Rattle.ac_search.proofs.Search.FrontOrder.{lex_append, lex_one, lex_longer, lex_lt_le, lex_take, lex_uncut, lex_after_cut}
use Rattle.ac_prune.proofs.Search.SoughtLemmas.{IsSearch, IsSought, each_sought, choice_in, least_from}

module _ {m : Search} (laws : IsSearch m) (x q : List ℕ) (d : ℕ) (long : length q ≡ d) (within : d < m.width) where
  -- no wanted list from x on goes on from q by a choice before the start
  least_of : (j v : ℕ) → IsStart (choices_at m d) v j → ((t s : List ℕ) (r : ℕ) → IsSought m x t → t ≡ q ++ r ∷ s → v ≤ r)
      → Each (λ t. (r : ℕ) (s : List ℕ) → t ≡ q ++ r ∷ s → next_at m d j ≤ r) (sought m x)
  least_of j v start above = each_weaker (IsSought m x) _ (sought m x) (λ t h r s e.
      let choice = choice_in m laws x t q s r h e in
      least_from (choices_at m d) j v m.count r (laws.rising d within)
      (λ i b l. rw (get_or_default (choices_at m d) i m.count 0 l) (start.before i b))
      choice.low (subst (λ (i : ℕ). Among (choices_at m i) r) long choice.among) (above t s r h e)) (each_sought m x)

  -- after x there is nothing to seek
  enter_passed : lex_lt x q ≡ true → Enters m x q d 0 false
  enter_passed h =
      let c = next_front m q d 0 in
      let past : lex_lt x c ≡ true = lex_trans x q c h (lex_longer q (next_at m d 0) []) in
      record {
        place = omega arith;
        reached = λ l. lex_asym (take (suc d) x) c (lex_after_cut x c (suc d) past);
        seeks = λ e. absurd (false≢true e);
        passed = λ e. past;
        least = least_of 0 0 (record { within = omega arith; before = λ i b. omega arith; here = λ l. omega arith }) (λ t s r h e. omega arith);
      }

  -- while q is a front of x, the choices begin at the item of x
  pub enter_seeking : (j : ℕ) → q ≡ take d x → IsStart (choices_at m d) (least_at x d) j → Enters m x q d j true
  enter_seeking j is start = elim (cases_lt d (length x)) [ inl l ↦ along l | inr g ↦ beyond g ]
    where
      along : d < length x → Enters m x q d j true
      along l =
          let a = get_or x d 0 in
          let cut : take (suc d) x ≡ q ++ a ∷ [] = take-suc x d 0 l ∙ ap (λ (u : List ℕ). u ++ a ∷ []) (sym is) in
          let begins : IsStart (choices_at m d) a j = rw (lt-ltb d (length x) l) at start in
          record {
            place = start.within;
            reached = λ w. let here = begins.here w in let same = get_or_default (choices_at m d) j m.count 0 w in rw (cut, lex_append, lex_one) (grind (arith, nat_tests));
            seeks = λ e. is;
            passed = λ e. absurd (false≢true (sym e));
            least = least_of j a begins (λ t s r h e. elim (cases_lt r a) [
              | inl w ↦ absurd (false≢true (sym h.after ∙ lex_lt_le t (take (suc d) x) x (rw (e, cut, lex_append, lex_one) (lt-ltb r a w)) (lex_take x (suc d))))
              | inr g ↦ g
            ]);
          }

      beyond : length x ≤ d → Enters m x q d j true
      beyond g =
          let c = next_front m q d j in
          let past : lex_lt x c ≡ true = subst (λ (u : List ℕ). lex_lt u c ≡ true) (is ∙ take_all d x g) (lex_longer q (next_at m d j) []) in
          record {
            place = start.within;
            reached = λ l. lex_asym (take (suc d) x) c (lex_after_cut x c (suc d) past);
            seeks = λ e. is;
            passed = λ e. past;
            least = least_of j 0 (rw (le-ltb d (length x) g) at start) (λ t s r h e. omega arith);
          }

module _ {m : Search} (laws : IsSearch m) {x q used : List ℕ} {d j : ℕ} {seeking : Bool} {probes : ℕ} (s : IsSound m x q used d j seeking probes) (short : suc d < m.width) where
  front_long : length (next_front m q d j) ≡ suc d
  front_long = length-append q (next_at m d j ∷ []) ∙ omega (arith, s.long)

  -- the path stays a front of x
  pub enter_along : (k : ℕ) → seeking ≡ true → HasAt x d (next_at m d j) → IsStart (choices_at m (suc d)) (least_at x (suc d)) k → Enters m x (next_front m q d j) (suc d) k true
  enter_along k b has start = enter_seeking laws x (next_front m q d j) (suc d) front_long short k
      (ap (λ (u : List ℕ). u ++ next_at m d j ∷ []) (s.seeks b) ∙ ap (λ (r : ℕ). take d x ++ r ∷ []) (sym has.1) ∙ sym (take-suc x d 0 has.0)) start

  -- the path goes past x
  pub enter_beside : j < length (choices_at m d) → (seeking ≡ true → HasAt x d (next_at m d j) → ⊥) → Enters m x (next_front m q d j) (suc d) 0 false
  enter_beside l other = enter_passed laws x (next_front m q d j) (suc d) front_long short (elim (cases_Bool seeking) [
    | inl b ↦ elim (cases_Bool (lex_lt (take (suc d) x) (next_front m q d j))) [
      | inl e ↦ lex_uncut x (next_front m q d j) (rw front_long e)
      | inr e ↦ absurd (other b (has (lex_total (next_front m q d j) (take (suc d) x) (s.reached l) e)))
    ]
    | inr b ↦ s.passed b
  ])
    where
      has : next_front m q d j ≡ take (suc d) x → HasAt x d (next_at m d j)
      has e = (
        omega (arith, ap length e, front_long, length-take (suc d) x),
        sym (get_or-take (suc d) x d 0 (omega arith)) ∙ (ap (λ (u : List ℕ). slice_index u d) (sym e) ∙ get_or_push q (next_at m d j) 0 d s.long),
      )
