use Rattle.std.proofs.Common.{◌≡◌, ◌∙◌, ◌&&◌, ℕ, true, false, inl, inr, arith, slice_index_or, subst, sym}
use Rattle.std.specs.List.{list_any}
use Rattle.std.specs.Option.{is_none}
use Rattle.std.proofs.lemmas.Bool.{and_from, cases_lt, false≢true}
use Rattle.ac_rules.specs.Placed.{slot_at}
use Rattle.ac_prune.specs.Left.Accounts.{asked_in}
use Rattle.ac_prune.specs.Loads.{choice_in}
use Rattle.ac_prune.proofs.Roots.TreeLemmas.{any_there}
use Rattle.ac_prune.proofs.collective.last_giving.Goals as goal
use Rattle.ac_prune.proofs.collective.last_giving.Goals.{then-may_give, else-may_give}

pub loop-s-preserved : goal.loop-s-preserved
loop-s-preserved c = λ s p h plain there gives.
    let l = c.args.choices.now.ledger.now in
    let test = λ (q : ℕ). slice_index_or c.args.gives.now q false in
    elim c.if-may_give.branch [
      | then-may_give w ↦ omega (arith, w.last-is, h)
      | else-may_give w ↦ elim (cases_lt s c.loop-s.s) [
        | inl less ↦ omega (arith, w.last-is, c.loop-s.invariant s p less plain there gives)
        | inr more ↦
            let is : s ≡ c.loop-s.s = omega (arith, h, more) in
            let may : (is_none (slot_at (asked_in l) c.loop-s.s).suffix && list_any test (choice_in l c.loop-s.s)) ≡ true =
            subst (λ (i : ℕ). (is_none (slot_at (asked_in l) i).suffix && list_any test (choice_in l i)) ≡ true) is (and_from _ _ plain (any_there test (choice_in l s) p there gives)) in
            absurd (false≢true (sym w.if-may_give.false ∙ (c.may_give.ensures ∙ may)))
      ]
    ]
