use Rattle.std.proofs.Common.{◌≡◌, ◌≢◌, Bool, true, false, ◌&&◌, [], Option, None, Some, refl, subst}
use Rattle.std.proofs.lemmas.Bool.{false≢true}
use Rattle.ac_cloud.specs.World.{provider_at}
use Rattle.ac_find.specs.Explained.{has_inventories, meets_aggregates, meets_room, meets_traits, meets_tree, meets_units}
use Rattle.ac_find.specs.Lacking.{if_failed}
use Rattle.ac_find.specs.declared.lacks.Stage.{Stage}
use Rattle.ac_find.specs.declared.lacks.Stage.TheVariants as stage
use Rattle.ac_find.proofs.ToldLemmas.{aggregates_there, inventory_there, room_there, some_same, traits_there, tree_there, units_there}
use Rattle.ac_prune.specs.QuerySearch.{has_room_alone}
use Rattle.ac_rules.specs.Own.{units_fit}
use Rattle.ac_report.specs.Findings.SlotDetails.{detail_of}
use Rattle.ac_report.specs.Laws.{StageIsTold}
use Rattle.ac_report.proofs.laws.stage_is_told.Goals as goal

-- what holds where a test fails, and behind it where it doesn't, holds of the first that fails
of_failed : (P : Stage → Type 0) (passes : Bool) (here : Stage) (rest : Option Stage) → (passes ≡ false → P here) → (passes ≡ true → (s : Stage) → rest ≡ Some s → P s)
    → (s : Stage) → if_failed passes here rest ≡ Some s → P s
of_failed P true here rest fails later s h = later refl s h
of_failed P false here rest fails later s h = subst P (some_same here s h) (fails refl)

last : (a b : Bool) → (a && b) ≡ false → a ≡ true → b ≡ false
last true b h on = h
last false b h on = absurd (false≢true on)

none_left : (P : Stage → Type 0) (s : Stage) → None ≡ Some s → P s
none_left P s h = cc

told : StageIsTold
unfolding units_fit has_room_alone
told all x = let P = λ (s : Stage). detail_of all x (Some s) ≢ [] in let p = provider_at all x.provider in
    of_failed P (has_inventories all x) stage.Inventory _ (λ off. inventory_there p x.slot.needs off) (λ inventories.
    of_failed P (meets_units all x) stage.Units _ (λ off. units_there p x.slot.needs off) (λ units.
    of_failed P (meets_traits all x) stage.Traits _ (λ off. traits_there all x (last _ _ off units)) (λ traits.
    of_failed P (meets_aggregates all x) stage.Aggregates _ (λ off. aggregates_there all x (last _ _ off traits)) (λ aggregates.
    of_failed P (meets_tree all x) stage.Tree _ (λ off. tree_there all x (last _ _ off aggregates)) (λ tree.
    of_failed P (meets_room all x) stage.Room None (λ off. room_there p x.slot.needs (last _ _ off tree)) (λ room. none_left P))))))

pub returns : goal.returns
returns c = told
