-- A root is told by its place, and is known by having no parent.
use Rattle.ac_cloud.proofs.Common.{◌≡◌, ◌<◌, ◌∙◌, ℕ, true, false, length, Option, sym, ap, ◌==◌, is_some, is_none, option_map, id_at, place_of, parent_of, root_of, is_root, providers_of, Cloud}
use Rattle.std.proofs.lemmas.Bool.{and_from}
use Rattle.ac_base.proofs.Small.{none_is}
use Rattle.ac_cloud.proofs.Rising.{rank_at}
use Rattle.ac_cloud.proofs.Places.CloudFacts.{id_here, place_here}
use Rattle.ac_cloud.proofs.Trees.AncestorFacts.{same_test}

-- a root is told by its place
pub root_test : (c : Cloud) (ix r root : ℕ) → r < length c.ids.ids.items → root < length c.ids.ids.items → id_at (providers_of c) r ≡ root_of (providers_of c) (id_at (providers_of c) ix)
    → (root_of (providers_of c) (id_at (providers_of c) ix) == id_at (providers_of c) root) ≡ (r == root)
root_test c ix r root hr h e = ap (λ (x : ℕ). x == id_at (providers_of c) root) (sym e) ∙ same_test c r root hr h

pub root_here : (c : Cloud) (ix : ℕ) (o : Option ℕ) → ix < length c.ids.ids.items → option_map (id_at (providers_of c)) o ≡ parent_of (providers_of c) (id_at (providers_of c) ix) → is_some o ≡ false
    → is_root (providers_of c) (id_at (providers_of c) ix) ≡ true
root_here c ix o h e none =
    and_from (is_some (place_of (providers_of c) (id_at (providers_of c) ix))) (is_none (parent_of (providers_of c) (id_at (providers_of c) ix)))
    (ap is_some (place_here c (id_at (providers_of c) ix) ∙ rank_at c.ids.ids.items (id_at (providers_of c) ix) ix c.ids.rising h (sym (id_here c ix h))))
    (ap is_none (sym e ∙ ap (option_map (id_at (providers_of c))) (none_is o none)))
