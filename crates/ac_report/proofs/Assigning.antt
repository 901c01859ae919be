-- Assignments with one request are the same.
use Rattle.std.proofs.Common.{◌≡◌, ◌∙◌, ℕ, ◌+◌, ◌<◌, List, [], ◌∷◌, drop, length, length-append, map, refl, sym, ap, Option, Some, None, nat_cmp, arith}
use Rattle.std.specs.List.{AllByRecursion}
use Rattle.std.proofs.lemmas.List.{length-drop, length-map}
use Rattle.std.proofs.lemmas.List.Elements.{recursion_from_All}
use Rattle.ac_base.specs.Sorted.{rising}
use Rattle.ac_base.specs.Texts.{id_value}
use Rattle.ac_cloud.specs.Laws.{AreProviders}
use Rattle.ac_cloud.specs.World.{Provider, id_at}
use Rattle.ac_query.specs.Asked.{Group, slots_from, class_slot}
use Rattle.ac_query.specs.Laws.InOrder.{AreNeeds, IsFirstPlain}
use Rattle.ac_query.proofs.WrittenIds.{id_reads}
use Rattle.ac_rules.specs.Placed.{placed}
use Rattle.ac_rules.specs.Together.{sum_on}
use Rattle.ac_report.specs.Laws.{RequestsDiffer}
use Rattle.ac_report.specs.Trees.{hosts}
use Rattle.ac_report.proofs.Differing.{classes_agree, classes_hosts, suffixed_agree}
use Rattle.ac_report.proofs.Trees.Finding.{AreTold, hosts_agree}
use Rattle.ac_report.proofs.Trees.FindingSums.{sums_agree}
use Rattle.ac_find.proofs.Service.MarkLemmas.{same_places}

-- hosts and sums tell assignments
agree : (gs : List (Option (List ℕ) × Group)) (n : ℕ) (t u : List ℕ) → IsFirstPlain gs → AllByRecursion (λ g. AreNeeds g.1.needs) gs → length t ≡ length (slots_from 0 gs) → length u ≡ length (slots_from 0 gs)
    → AllByRecursion (λ p. p < n) t → ((k : ℕ) → k < length gs → rising nat_cmp (hosts (placed (slots_from 0 gs) t) k) ≡ rising nat_cmp (hosts (placed (slots_from 0 gs) u) k))
    → ((ix : ℕ) (c : List ℕ) → ix < n → sum_on (placed (slots_from 0 gs) t) ix c ≡ sum_on (placed (slots_from 0 gs) u) ix c) → t ≡ u
agree [] n t u first needs l m a h s = suffixed_agree 0 [] t u tt l m (λ k low below. h k (omega (arith, below)))
agree ((Some name, g) ∷ gs) n t u first needs l m a h s = suffixed_agree 0 ((Some name, g) ∷ gs) t u (refl, first) l m (λ k low below. h k (omega (arith, below)))
agree ((None, g) ∷ gs) n t u first needs l m a h s =
    let size = length g.needs in
    let later = slots_from 1 gs in
    let whole : length (slots_from 0 ((None, g) ∷ gs)) ≡ size + length later = length-append (map (class_slot 0 g) g.needs) later ∙ ap (λ n. n + length later) (length-map g.needs (class_slot 0 g)) in
    let rest = suffixed_agree 1 gs (drop size t) (drop size u) first (omega (arith, length-drop size t, l, whole)) (omega (arith, length-drop size u, m, whole))
    (λ k low below. sym (ap (rising nat_cmp) (classes_hosts g later g.needs t k (omega (arith, low)))) ∙ h k (omega (arith, below)) ∙ ap (rising nat_cmp) (classes_hosts g later g.needs u k (omega (arith, low)))) in
    classes_agree g later g.needs t u needs.0.positive needs.0.once (omega (arith, l, whole)) (omega (arith, m, whole)) rest n a s

are_told : (all : List Provider) → AreProviders all → AreTold all
are_told all are p q h k e = same_places all are.order p q h k (let same : Some (id_at all p) ≡ Some (id_at all q) = sym (id_reads _ (are.fit p h)) ∙ ap id_value e ∙ id_reads _ (are.fit q k) in cc)

pub requests_differ : RequestsDiffer
requests_differ all asked t u are order at au e =
    agree asked.groups (length all) t u order.first order.needs at.long au.long (recursion_from_All _ _ at.below)
    (hosts_agree all (are_told all are) asked order.names t u at.below au.below e)
    (sums_agree all (are_told all are) asked t u at au e)
