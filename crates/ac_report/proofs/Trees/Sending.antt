-- Trees as they are sent.
use Rattle.std.proofs.Common.{◌≡◌, ◌∙◌, ℕ, suc, List, [], ◌∷◌, Some, map, length, refl, sym, ap, subst}
use Rattle.std.proofs.lemmas.Simd.{map-map}
use Rattle.std.specs.List.Sorted.{IsStrictlySortedBy}
use Rattle.std.specs.Map.{keys_of}
use Rattle.serde.specs.Event.{Log, Logs, seq_begins, map_begins}
use Rattle.serde_json.specs.Data.{Data, array, object}
use Rattle.serde_json.specs.Events.{SendsItems, SendsMembers, SendsValue, items_len, members_len}
use Rattle.serde_json.specs.View.{items_of}
use Rattle.ac_base.specs.Texts.{text_cmp}
use Rattle.ac_cloud.specs.World.{UsedInventory}
use Rattle.ac_report.specs.Parts.{listed}
use Rattle.ac_report.specs.Trees.{holding, holdings}
use Rattle.ac_report.proofs.Trees.Gathering.{Named}
use Rattle.ac_report.proofs.Trees.Listed.{gathered_listed}

-- ---- what stands at the start of an array and of an object

items_length : (ds : List Data) → items_len (items_of ds) ≡ length ds
items_length [] = refl
items_length (d ∷ ds) = ap suc (items_length ds)

members_length : (ms : List Named) → members_len (listed ms) ≡ length ms
members_length [] = refl
members_length (m ∷ ms) = ap suc (members_length ms)

pub begin_items : (ds : List Data) (n : ℕ) (old first : Log) → n ≡ length ds → Logs old first (seq_begins (Some n)) → (end : Log) → SendsItems (items_of ds) first end → SendsValue (array (items_of ds)) old end
begin_items ds n old first e h end rest = (first, subst (λ n. Logs old first (seq_begins (Some n))) (e ∙ sym (items_length ds)) h, rest)

pub begin_members : (ms : List Named) (n : ℕ) (old first : Log) → n ≡ length ms → Logs old first (map_begins (Some n)) → (end : Log) → SendsMembers (listed ms) first end → SendsValue (object (listed ms)) old end
begin_members ms n old first e h end rest = (first, subst (λ n. Logs old first (map_begins (Some n))) (e ∙ sym (members_length ms)) h, rest)

-- ---- what a provider has

pub holdings_listed : (hs : List (List ℕ × UsedInventory)) → IsStrictlySortedBy text_cmp (keys_of hs) → holdings hs ≡ object (listed (map holding hs))
unfolding holdings holding
holdings_listed hs h = ap object (gathered_listed (map holding hs) (subst (IsStrictlySortedBy text_cmp) (sym (map-map (λ (m : Named). m.0) holding hs)) h))
