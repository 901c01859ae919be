use Rattle.std.proofs.Common.{◌≡◌, ◌∙◌, ◌∷◌, Bool, List, true, false, not, ap, map, sym}
use Rattle.std.specs.List.{list_any}
use Rattle.std.specs.Map.Iter.{deref}
use Rattle.std.proofs.lemmas.Map.Iter.{rest_more}
use Rattle.ac_base.specs.Names.{suffix_bytes}
use Rattle.ac_base.specs.declared.name.Suffix.{Suffix}
use Rattle.ac_query.specs.Faults.{first_fault, is_of, suffix_condition, unknown_suffix}
use Rattle.ac_query.specs.Shown.Draft.{suffixed_shown}
use Rattle.ac_query.proofs.Checks.{group_there}
use Rattle.ac_query.proofs.reading.check.find_unknown.Goals as goal

pub returns-then-not-contains_key : goal.returns-then-not-contains_key
returns-then-not-contains_key c =
    let groups = suffixed_shown c.args.groups.now in
    let s = suffix_bytes c.in-Some.suffix.now in
    let rest = map (suffix_condition groups) (map suffix_bytes c.next.new.self) in
    let turn = rest_more deref c.loop-suffix.suffix-iterator c.next.new.self c.next.result c.in-Some.suffix c.in-Some.is c.next.ensures.steps in
    let away : false ≡ list_any (is_of s) groups =
    sym c.if-not-contains_key.true ∙ (c.contains_key.ensures ∙ group_there c.args.groups.now.entries c.in-Some.suffix.now) in
    ap (λ (b : Bool). first_fault ((not b, unknown_suffix s) ∷ rest)) away
    ∙ (ap (λ (l : List Suffix). first_fault (map (suffix_condition groups) (map suffix_bytes l))) (sym turn) ∙ c.loop-suffix.invariant)

pub loop-suffix-preserved : goal.loop-suffix-preserved
loop-suffix-preserved c =
    let groups = suffixed_shown c.args.groups.now in
    let s = suffix_bytes c.in-Some.suffix.now in
    let rest = map (suffix_condition groups) (map suffix_bytes c.next.new.self) in
    let turn = rest_more deref c.loop-suffix.suffix-iterator c.next.new.self c.next.result c.in-Some.suffix c.in-Some.is c.next.ensures.steps in
    let here : true ≡ list_any (is_of s) groups =
    sym c.if-not-contains_key.false ∙ (c.contains_key.ensures ∙ group_there c.args.groups.now.entries c.in-Some.suffix.now) in
    ap (λ (b : Bool). first_fault ((not b, unknown_suffix s) ∷ rest)) here
    ∙ (ap (λ (l : List Suffix). first_fault (map (suffix_condition groups) (map suffix_bytes l))) (sym turn) ∙ c.loop-suffix.invariant)
