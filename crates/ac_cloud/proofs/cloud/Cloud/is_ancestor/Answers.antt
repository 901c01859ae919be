use Rattle.ac_cloud.proofs.Common.{◌≡◌, ◌∙◌, ℕ, length, sym, ap, arith, is_in_chain, id_at, parent_of, providers_of}
use Rattle.ac_cloud.proofs.Places.CloudFacts.{size, inside, parts}
use Rattle.ac_cloud.proofs.Trees.AncestorFacts.{chain_places}
use Rattle.ac_cloud.proofs.cloud.Cloud.is_ancestor.Goals as goal

pub enclose-requires : goal.enclose-requires
enclose-requires c =
    let cloud = c.args.self.now in
    let visited = rw c.in-Some.is at (parts cloud).visited in
    let sized = (parts cloud).forest.with_parents in
    record {
      entered = omega (arith, inside cloud c.args.a c.requires.a, sized, visited.0);
      left = omega (arith, inside cloud c.args.a c.requires.a, sized, visited.1);
      b = omega (arith, inside cloud c.args.b c.requires.b, sized, visited.0);
    }

pub returns-in-Some : goal.returns-in-Some
returns-in-Some c =
    let cloud = c.args.self.now in
    let all = providers_of cloud in
    let visited = rw c.in-Some.is at (parts cloud).visited in
    let ha = inside cloud c.args.a c.requires.a in
    let hb = inside cloud c.args.b c.requires.b in
    let sized : length cloud.parents.items ≡ length all = (parts cloud).forest.with_parents ∙ sym (size cloud) in
    c.enclose.ensures
    ∙ visited.2 c.args.a c.args.b (omega (arith, ha, (parts cloud).forest.with_parents)) (omega (arith, hb, (parts cloud).forest.with_parents))
    ∙ sym (chain_places cloud (length cloud.parents.items) c.args.a c.args.b ha hb)
    ∙ ap (λ (n : ℕ). is_in_chain (parent_of all) n (id_at all c.args.a) (id_at all c.args.b)) sized
