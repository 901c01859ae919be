use Rattle.std.proofs.Common.{◌∙◌, ◌≤◌, sym, arith}
use Rattle.std.proofs.lemmas.Bool.{eq-eqb, false≢true}
use Rattle.std.proofs.lemmas.Bool.Decides.{nat_tests}
use Rattle.std.proofs.lemmas.List.{get_or_default}
use Rattle.ac_prune.proofs.Roots.FamilyLemmas.{first_part, elsewhere_leads_nowhere, partless_leads_nowhere}
use Rattle.ac_prune.proofs.families.FamilyLookAhead.may_follow.Goals as goal

pub returns-then-self-s : goal.returns-then-self-s
returns-then-self-s c = record {
  dead = λ h.
      let family = c.args.self.now in
      let f = c.args.front.now in
      let is = c.requires.of in
      let other = first_part f family c.index-other.result.now is c.if-self-s.true c.index-other.ensures in
      let part = c.index-part.ensures ∙ get_or_default family.parts.items c.args.provider c.index-part.result.now 0 (omega (arith, is.count, c.requires.provider)) in
      elsewhere_leads_nowhere f family c.args.provider c.index.result.now is c.index.ensures c.if-not-index.false c.if-self-s.true
      (λ same. false≢true (sym h ∙ eq-eqb c.index-part.result.now c.index-other.result.now (part ∙ (same ∙ sym other))));
}

pub returns : goal.returns
returns c = record {
  dead = λ h.
      let family = c.args.self.now in
      let is = c.requires.of in
      let part = c.index-part.ensures ∙ get_or_default family.parts.items c.args.provider c.index-part.result.now 0 (omega (arith, is.count, c.requires.provider)) in
      let none : c.len.result ≤ c.index-part.result.now = grind (arith, nat_tests) in
      partless_leads_nowhere c.args.front.now family c.args.provider c.index.result.now is c.index.ensures c.if-not-index.false
      (omega (arith, part, none, c.len.ensures, is.count, family.parts.ok));
}
