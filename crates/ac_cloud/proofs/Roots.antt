-- Roots: a provider is available in its own tree exactly where it is a root.
use Rattle.std.proofs.Common.{◌≡◌, ℕ, zero, suc, true, List, length, Option, None, refl}
use Rattle.std.specs.Option.{is_some, is_none}
use Rattle.std.proofs.lemmas.Bool.{cases_Bool, and_parts, eq-eqb}
use Rattle.ac_cloud.specs.Trees.{up, climb}
use Rattle.ac_cloud.specs.World.{Provider, id_at, place_of, parent_of, root_of, is_root, is_available_at}
use Rattle.std.proofs.Common.{arith}
use Rattle.std.proofs.lemmas.Grind.{common_steps}

-- who has no parent stays
pub stays : (parent : ℕ → Option ℕ) (k p : ℕ) → parent p ≡ None → climb (up parent) k p ≡ p
stays parent zero p h = refl
stays parent (suc k) p h = rw h (stays parent k p h)

none_is : (o : Option ℕ) → is_none o ≡ true → o ≡ None
none_is o h = grind (arith, common_steps)

own_root : (all : List Provider) (id : ℕ) → is_root all id ≡ true → root_of all id ≡ id
own_root all id h =
    stays (parent_of all) (length all) id (none_is (parent_of all id) (and_parts (is_some (place_of all id)) (is_none (parent_of all id)) h).1)

pub available_itself : (all : List Provider) (r : ℕ) → is_available_at all r r ≡ is_root all (id_at all r)
available_itself all r = grind (arith, common_steps, cases_Bool, eq-eqb, own_root)
