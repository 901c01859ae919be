-- Traits and aggregates looked up from either side.
use Rattle.std.proofs.Common.{◌≡◌, ◌∙◌, ◌&&◌, ◌||◌, ℕ, Bool, true, false, not, List, [], ◌∷◌, refl, sym, arith}
use Rattle.std.specs.List.{list_any, list_all}
use Rattle.std.specs.Str.{bytes_eq}
use Rattle.std.proofs.lemmas.Cmp.{nat_list_eq_equiv}
use Rattle.std.proofs.Math.Bool.{or-false}
use Rattle.std.specs.Option.{is_none}
use Rattle.ac_cloud.specs.World.{Provider, provider_at, root_provider, is_member}
use Rattle.ac_rules.specs.Own.{counts_in}
use Rattle.ac_rules.specs.Placed.{Placed}
use Rattle.ac_base.proofs.Sorted.SearchFacts.{any_or, any_swap}
use Rattle.ac_base.proofs.Sorted.SearchFacts.{any_same}

-- one of the first is among the second, or one of the second among the first
pub either_way : (ts ns : List (List ℕ)) → list_any (λ t. list_any (bytes_eq t) ns) ts ≡ list_any (λ n. list_any (bytes_eq n) ts) ns
either_way ts ns =
    any_swap (λ t. true) bytes_eq ts ns
    ∙ any_same (λ n. list_any (λ t. bytes_eq t n) ts) (λ n. list_any (bytes_eq n) ts) (λ n. any_same (λ t. bytes_eq t n) (bytes_eq n) (λ t. nat_list_eq_equiv.symm t n) ts) ns

-- all fail a test where none passes it
pub all_fail : {X : Type 0} (f : X → Bool) (xs : List X) → list_all (λ x. not (f x)) xs ≡ not (list_any f xs)
all_fail f [] = refl
all_fail f (x ∷ xs) = grind (arith, all_fail f xs)

-- one passes a test or another, that may not be asked
any_either : {X : Type 0} (b : Bool) (f g : X → Bool) (xs : List X) → list_any (λ x. f x || (b && g x)) xs ≡ (list_any f xs || (b && list_any g xs))
any_either true f g xs = any_or f g xs
any_either false f g xs = any_same (λ x. f x || false) f (λ x. or-false (f x)) xs ∙ sym (or-false (list_any f xs))

-- an aggregate counts that is the provider's own, or its root's where the group has no suffix
pub counted_either : (all : List Provider) (x : Placed) (ids : List ℕ) → list_any (λ a. counts_in all x a) ids
    ≡ (list_any (is_member (provider_at all x.provider)) ids || (is_none x.slot.suffix && list_any (is_member (root_provider all (provider_at all x.provider))) ids))
counted_either all x ids = any_either (is_none x.slot.suffix) (is_member (provider_at all x.provider)) (is_member (root_provider all (provider_at all x.provider))) ids
