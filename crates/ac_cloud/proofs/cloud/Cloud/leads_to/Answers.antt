use Rattle.ac_cloud.proofs.Common.{◌≡◌, ◌∙◌, ◌<◌, ◌+◌, ◌-◌, ℕ, suc, false, length, sym, ap, arith, rules, None, ◌==◌, get_or_read, is_in_chain, id_at, parent_of, providers_of}
use Rattle.ac_cloud.proofs.Places.CloudFacts.{size, inside, parent_is, parts}
use Rattle.ac_cloud.proofs.Trees.AncestorFacts.{chain_goes, same_test, some_name, some_inside}
use Rattle.ac_cloud.proofs.cloud.Cloud.leads_to.Goals as goal

pub loop-step-preserved : goal.loop-step-preserved
loop-step-preserved c =
    let all = providers_of c.args.self.now in
    let h = inside c.args.self.now c.loop-step.at c.loop-step.invariant.0 in
    let k : c.loop-step.at < length c.args.self.now.parents.items = omega (arith, h, (parts c.args.self.now).forest.with_parents) in
    let p = parent_is c.args.self.now c.loop-step.at c.index.result.now h (get_or_read c.args.self.now.parents.items _ _ k c.index.ensures None) in
    let apart : (c.loop-step.at == c.args.a) ≡ false = search (arith, rules, c.if-at-a.false) in
    let left : length all - c.loop-step._step ≡ suc (length all - (c.loop-step._step + 1)) = omega (arith, c.loop-step-test.true, c.len-step-end.ensures.value, size c.args.self.now) in (
      some_inside (length all) c.index.result.now c.in-Some.parent c.in-Some.is p.1,
      sym (chain_goes (parent_of all) (length all - (c.loop-step._step + 1)) (id_at all c.args.a) (id_at all c.loop-step.at) (id_at all c.in-Some.parent)
          (same_test c.args.self.now c.loop-step.at c.args.a h (inside c.args.self.now c.args.a c.requires.a) ∙ apart)
          (some_name (id_at all) c.index.result.now c.in-Some.parent _ c.in-Some.is p.0))
          ∙ ap (λ (n : ℕ). is_in_chain (parent_of all) n (id_at all c.args.a) (id_at all c.loop-step.at)) (sym left) ∙ c.loop-step.invariant.1,
    )
