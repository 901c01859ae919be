-- Members by their names, and what a request says of its hosts.
use Rattle.std.proofs.lemmas.Grind.{common_steps}
use Rattle.std.proofs.Common.{◌≡◌, ◌⊎◌, inl, inr, ℕ, ◌+◌, ◌<◌, ◌≤◌, List, [], ◌∷◌, map, length, refl, sym, ap, ap₂, ◌∙◌, true, false, Option, Some, None, if◌then◌else◌, Equal, nat_cmp, arith}
use Rattle.std.specs.Prelude.{bytes_eq}
use Rattle.std.specs.List.{All, AllByRecursion, list_any}
use Rattle.std.proofs.Math.Nat.{eq-or-lt_of_le}
use Rattle.std.specs.Ordering.{is_eq}
use Rattle.std.proofs.lemmas.List.Elements.{recursion_from_All}
use Rattle.std.proofs.lemmas.Map.Text.{is_eq-slice_cmp}
use Rattle.std.proofs.lemmas.Slice.Eq.{bytes_eq-Decides}
use Rattle.serde_json.specs.Data.{Data, Items, item, array, object, Members, no_members, member, put, string}
use Rattle.serde_json.specs.Find.{get_member}
use Rattle.serde_json.proofs.Views.{get_member-put, get_member-put_other}
use Rattle.ac_base.specs.Sorted.{rising}
use Rattle.ac_base.specs.Texts.{text_cmp}
use Rattle.ac_query.specs.Asked.{Asked, Group, slots_of}
use Rattle.ac_query.specs.Laws.InOrder.{group_name, AreApart}
use Rattle.ac_rules.specs.Placed.{Placed, assigned}
use Rattle.ac_cloud.specs.World.{Provider}
use Rattle.ac_report.specs.Parts.{gathered_onto}
use Rattle.ac_report.specs.Trees.{hosts, mapping, mappings, mappings_from, provider_text, request, texts}
use Rattle.ac_report.proofs.SlotLemmas.{all_hosts, all_rising}
use Rattle.ac_report.proofs.Trees.Gathering.{Named, bytes_eq_refl}

pub same_text : (k l : List ℕ) → text_cmp k l ≡ Equal → k ≡ l
same_text k l e = (bytes_eq-Decides k l).0 (sym (is_eq-slice_cmp k l) ∙ ap is_eq e)

-- one member more
find_put : (q k : List ℕ) (d : Data) (ms : Members) → get_member q (put k d ms) ≡ (if bytes_eq q k then Some d else get_member q ms)
find_put q k d ms = grind (arith, common_steps, bytes_eq-Decides, get_member-put, get_member-put_other)

-- what stands at a name that has one value
pub found : (q : List ℕ) (d : Data) (ms : List Named) (done : Members) → AllByRecursion (λ m. bytes_eq q m.0 ≡ true → m.1 ≡ d) ms
    → get_member q (gathered_onto done ms) ≡ (if list_any (λ m. bytes_eq q m.0) ms then Some d else get_member q done)
found q d [] done h = refl
found q d (m ∷ ms) done h = grind (arith, common_steps, find_put, found q d ms (put m.0 m.1 done) h.1)

-- ---- hosts of groups

abbrev pub hosts_tree : List Provider → List Placed → ℕ → Data
hosts_tree all xs k = texts (map (provider_text all) (rising nat_cmp (hosts xs k)))

others : (q : List ℕ) (d : Data) (all : List Provider) (xs : List Placed) (place : ℕ) (gs : List (Option (List ℕ) × Group)) → AllByRecursion (λ s. bytes_eq q s ≡ false) (map group_name gs)
    → AllByRecursion (λ m. bytes_eq q m.0 ≡ true → m.1 ≡ d) (mappings_from all xs place gs)
unfolding mapping
others q d all xs place [] h = tt
others q d all xs place (g ∷ gs) h = (λ e. absurd (cc (e, h.0)), others q d all xs (place + 1) gs h.1)

-- each group has a name at which its hosts stand
named : (all : List Provider) (place : ℕ) (gs : List (Option (List ℕ) × Group)) → AreApart (map group_name gs) → (k : ℕ) → place ≤ k → k < place + length gs
    → (name : List ℕ) × ((xs : List Placed) (done : Members) → get_member name (gathered_onto done (mappings_from all xs place gs)) ≡ Some (hosts_tree all xs k))
unfolding mapping
named all place [] apart k low below = absurd (omega (arith, low, below))
named all place (g ∷ gs) apart k low below = by (eq-or-lt_of_le low) (λ l. named all (place + 1) gs apart.1 k (omega (arith, l)) (omega (arith, below)))
  where
    by : (place ≡ k) ⊎ (place < k)
        → (place < k → (name : List ℕ) × ((xs : List Placed) (done : Members) → get_member name (gathered_onto done (mappings_from all xs (place + 1) gs)) ≡ Some (hosts_tree all xs k)))
        → (name : List ℕ) × ((xs : List Placed) (done : Members) → get_member name (gathered_onto done (mappings_from all xs place (g ∷ gs))) ≡ Some (hosts_tree all xs k))
    by (inl s) later = (
      group_name g,
      λ xs done.
          found (group_name g) (hosts_tree all xs place) (mappings_from all xs place (g ∷ gs)) done (λ _. refl, others (group_name g) _ all xs (place + 1) gs apart.0)
          ∙ rw (bytes_eq_refl (group_name g)) (ap (λ p. Some (hosts_tree all xs p)) s),
    )
    by (inr l) later = let more = later l in (more.0, λ xs done. more.1 xs (put (mapping all xs place g).0 (mapping all xs place g).1 done))

-- what a request says of the group of a name
abbrev pub mappings_in : List ℕ → Data → Option Data
mappings_in name (object (member k taken (member l (object ms) rest))) = get_member name ms
mappings_in name _ = None

request_hosts : (all : List Provider) (asked : Asked) → AreApart (map group_name asked.groups) → (k : ℕ) → k < length asked.groups
    → (name : List ℕ) × ((list : List ℕ) → mappings_in name (request all asked list) ≡ Some (hosts_tree all (assigned asked list) k))
unfolding request mappings
request_hosts all asked apart k low = let name = named all 0 asked.groups apart k (omega arith) (omega (arith, low)) in (name.0, λ list. name.1 (assigned asked list) no_members)

-- ---- back from texts to providers

abbrev items_texts : Items → List (List ℕ)
items_texts (item (string t) ds) = t ∷ items_texts ds
items_texts _ = []

abbrev texts_in : Option Data → List (List ℕ)
texts_in (Some (array ds)) = items_texts ds
texts_in _ = []

texts_read : (ts : List (List ℕ)) → texts_in (Some (texts ts)) ≡ ts
unfolding texts
texts_read [] = refl
texts_read (t ∷ ts) = ap (λ l. t ∷ l) (texts_read ts)

-- places whose texts differ
abbrev pub AreTold : List Provider → Type 0
AreTold all = (p q : ℕ) → p < length all → q < length all → provider_text all p ≡ provider_text all q → p ≡ q

places_agree : (all : List Provider) → AreTold all → (ps qs : List ℕ) → AllByRecursion (λ p. p < length all) ps → AllByRecursion (λ q. q < length all) qs → map (provider_text all) ps ≡ map (provider_text all) qs → ps ≡ qs
places_agree all told [] [] a b e = refl
places_agree all told [] (q ∷ qs) a b e = absurd (cc)
places_agree all told (p ∷ ps) [] a b e = absurd (cc)
places_agree all told (p ∷ ps) (q ∷ qs) a b e = ap₂ (λ x l. x ∷ l) (told p q a.0 b.0 (cc)) (places_agree all told ps qs a.1 b.1 (cc))

-- equal requests are of equal hosts
pub hosts_agree : (all : List Provider) → AreTold all → (asked : Asked) → AreApart (map group_name asked.groups) → (t u : List ℕ) → All (λ p. p < length all) t → All (λ p. p < length all) u
    → request all asked t ≡ request all asked u → (k : ℕ) → k < length asked.groups → rising nat_cmp (hosts (assigned asked t) k) ≡ rising nat_cmp (hosts (assigned asked u) k)
hosts_agree all told asked apart t u a b e k low =
    let name = request_hosts all asked apart k low in
    places_agree all told _ _ (below t a) (below u b)
    (sym (texts_read _) ∙ ap texts_in (sym (name.1 t) ∙ ap (mappings_in name.0) e ∙ name.1 u) ∙ texts_read _)
  where
    below : (list : List ℕ) → All (λ p. p < length all) list → AllByRecursion (λ p. p < length all) (rising nat_cmp (hosts (assigned asked list) k))
    below list h = let Below : ℕ → Type 0 = λ p. p < length all in recursion_from_All Below _ (all_rising Below (hosts (assigned asked list) k) (all_hosts Below (slots_of asked) list k h))
