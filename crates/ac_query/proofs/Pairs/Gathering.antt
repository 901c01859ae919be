-- What is gathered pair by pair is what the pairs give together.
use Rattle.std.proofs.Common.{arith}
use Rattle.std.proofs.lemmas.Grind.{common_steps}
use Rattle.std.proofs.Common.{◌≡◌, arith, ℕ, Bool, true, false, List, [], ◌∷◌, ◌++◌, Option, Some, None, refl, sym, ap, ap₂, ◌∙◌, subst, append-nil, append_assoc, if◌then◌else◌}
use Rattle.std.specs.List.{fold, filter_map, flat_map, cons_option}
use Rattle.std.specs.Map.{lookup, keys_of}
use Rattle.std.specs.BTreeMap.{is_at}
use Rattle.std.specs.BTreeSet.{insert_key}
use Rattle.std.specs.Str.{bytes_eq}
use Rattle.std.specs.Cmp.Lexicographic.{texts_ties, same_text}
use Rattle.std.proofs.lemmas.Cmp.{nat_list_cmp_total}
use Rattle.std.proofs.lemmas.List.Sums.{fold-append}
use Rattle.ac_base.specs.Texts.{text_cmp}
use Rattle.ac_base.proofs.Sorted.SameItems.{value_after}
use Rattle.ac_query.specs.Texts.{in_order_with}
use Rattle.ac_query.specs.Pairs.Values.{Part, Given}
use Rattle.ac_query.specs.Asked.{Group}
use Rattle.ac_query.specs.Asks.{IsTold, needs_in, required_in, forbidden_in, any_of_in, rule_in, tree_in, AsksOfGroup, group_part, group_parts, part_for, root_required_in, root_forbidden_in, policy_in, subtree_in, limit_in}
use Rattle.ac_query.specs.Laws.Gathered.{Gathered, empty_group, nothing, with_some, later, with_last, with_part, grown, with_suffixed, add_plain, add_suffixed, with_given}
use Rattle.ac_query.proofs.Pairs.Once.{IsShort}
use Rattle.ac_query.proofs.Values.Inserts.{keys_with}

-- ---- a field to which each item adds what is read of it
module _ {A X Y : Type 0} (add : A → Y → A) where
  pub fold_some : (f : X → Option Y) (a : A) (xs : List X) → fold (λ b x. with_some add b (f x)) a xs ≡ fold add a (filter_map f xs)
  fold_some f a [] = refl
  fold_some f a (x ∷ xs) = grind (arith, common_steps, fold_some f (with_some add a (f x)) xs)

  pub fold_lists : (f : X → List Y) (a : A) (xs : List X) → fold (λ b x. fold add b (f x)) a xs ≡ fold add a (flat_map f xs)
  fold_lists f a [] = refl
  fold_lists f a (x ∷ xs) = fold_lists f (fold add a (f x)) xs ∙ sym (fold-append add a (f x) (flat_map f xs))

pub fold_last : {A : Type 0} (xs ys : List A) → fold with_last xs ys ≡ xs ++ ys
fold_last xs [] = sym (append-nil xs)
fold_last xs (y ∷ ys) = fold_last (with_last xs y) ys ∙ append_assoc xs (y ∷ []) ys

-- what is given once at most is the last that is given
pub told_once : {A X : Type 0} (f : X → Option A) (a : A) (xs : List X) → IsShort (filter_map f xs) → IsTold a (fold (λ b x. with_some later b (f x)) a xs) (filter_map f xs)
told_once {A = A} f a xs short = subst (λ b. IsTold a b (filter_map f xs)) (sym (fold_some later f a xs)) (of (filter_map f xs) short)
  where
    of : (ys : List A) → IsShort ys → IsTold a (fold later a ys) ys
    of ys short = grind (arith, common_steps)

pub all_read : {X : Type 0} (f : X → List (List ℕ)) (texts : List (List ℕ)) (xs : List X) → fold (λ b x. in_order_with b (f x)) texts xs ≡ in_order_with texts (flat_map f xs)
all_read f texts xs = fold_lists (insert_key text_cmp) f texts xs

pub all_listed : {A X : Type 0} (f : X → Option A) (xs : List X) → fold (λ b x. with_some with_last b (f x)) [] xs ≡ filter_map f xs
all_listed f xs = fold_some with_last f [] xs ∙ fold_last [] (filter_map f xs)

-- ---- a group, and the whole, field by field
group_fields : (g : Group) (ps : List Part)
    → fold with_part g ps ≡ record {
      needs = fold (λ v p. with_some later v (needs_in p)) g.needs ps;
      required = fold (λ v p. in_order_with v (required_in p)) g.required ps;
      forbidden = fold (λ v p. in_order_with v (forbidden_in p)) g.forbidden ps;
      any_of = fold (λ v p. with_some with_last v (any_of_in p)) g.any_of ps;
      member_of = fold (λ v p. with_some with_last v (rule_in p)) g.member_of ps;
      in_tree = fold (λ v p. with_some later v (tree_in p)) g.in_tree ps;
    }
group_fields g [] = refl
group_fields g (p ∷ ps) = group_fields (with_part g p) ps

-- all that is gathered, with these groups
abbrev with_groups : Gathered → List Given → Option Group → List (List ℕ × Group) → Gathered
with_groups d gs plain suffixed = record {
  plain = plain;
  suffixed = suffixed;
  policy = fold (λ v x. with_some later v (policy_in x)) d.policy gs;
  subtrees = fold (λ v x. with_some with_last v (subtree_in x)) d.subtrees gs;
  root = record {
    required = fold (λ v x. in_order_with v (root_required_in x)) d.root.required gs;
    forbidden = fold (λ v x. in_order_with v (root_forbidden_in x)) d.root.forbidden gs;
  };
  limit = fold (λ v x. with_some later v (limit_in x)) d.limit gs;
}

given_fields : (d : Gathered) (gs : List Given)
    → fold with_given d gs ≡ with_groups d gs (fold (λ v x. with_some add_plain v (group_part x)) d.plain gs) (fold (λ v x. with_some add_suffixed v (group_part x)) d.suffixed gs)
given_fields d [] = refl
given_fields d (v ∷ gs) = given_fields (with_given d v) gs

pub gathered_is : (gs : List Given) → fold with_given nothing gs ≡ with_groups nothing gs (fold add_plain None (group_parts gs)) (fold add_suffixed [] (group_parts gs))
gathered_is gs = given_fields nothing gs ∙ ap₂ (with_groups nothing gs) (fold_some add_plain group_part None gs) (fold_some add_suffixed group_part [] gs)

-- a group of all its parts
pub group_asks : (ps : List Part) → IsShort (filter_map needs_in ps) → IsShort (filter_map tree_in ps) → AsksOfGroup ps (fold with_part empty_group ps)
group_asks ps needs_short tree_short = subst (AsksOfGroup ps) (sym (group_fields empty_group ps)) record {
  needs = told_once needs_in [] ps needs_short;
  required = all_read required_in [] ps;
  forbidden = all_read forbidden_in [] ps;
  any_of = all_listed any_of_in ps;
  member_of = all_listed rule_in ps;
  in_tree = told_once tree_in None ps tree_short;
}

-- ---- the groups
-- a group that is perhaps there, with all these parts
abbrev pub grown_all : Option Group → List Part → Option Group
grown_all o ps = fold (λ g p. Some (grown g p)) o ps

pub grown_there : (g : Group) (ps : List Part) → grown_all (Some g) ps ≡ Some (fold with_part g ps)
grown_there g [] = refl
grown_there g (p ∷ ps) = grown_there (with_part g p) ps

pub plain_grown : (o : Option Group) (es : List (Option (List ℕ) × Part)) → fold add_plain o es ≡ grown_all o (filter_map (part_for None) es)
plain_grown o [] = refl
plain_grown o ((None, p) ∷ es) = plain_grown (Some (grown o p)) es
plain_grown o ((Some s, p) ∷ es) = plain_grown o es

pub suffixes_all : (m : List (List ℕ × Group)) (es : List (Option (List ℕ) × Part)) → keys_of (fold add_suffixed m es) ≡ in_order_with (keys_of m) (filter_map (λ e. e.0) es)
suffixes_all m [] = refl
suffixes_all m ((None, p) ∷ es) = suffixes_all m es
suffixes_all m ((Some s, p) ∷ es) = suffixes_all (with_suffixed m s p) es ∙ ap (λ ks. in_order_with ks (filter_map (λ e. e.0) es)) (keys_with m s _)

one_more : (s t : List ℕ) (m : List (List ℕ × Group)) (p : Part) (ps : List Part)
    → grown_all (lookup (is_at (text_cmp s)) (with_suffixed m t p)) ps ≡ grown_all (lookup (is_at (text_cmp s)) m) (cons_option (if bytes_eq s t then Some p else None) ps)
one_more s t m p ps =
    ap (λ o. grown_all o ps) (value_after nat_list_cmp_total s m t _ ∙ ap (λ b. if b then Some (grown (lookup (is_at (text_cmp t)) m) p) else lookup (is_at (text_cmp s)) m) (sym (texts_ties s t)))
    ∙ by_test (bytes_eq s t) refl
  where
    by_test : (b : Bool) → bytes_eq s t ≡ b
        → grown_all (if b then Some (grown (lookup (is_at (text_cmp t)) m) p) else lookup (is_at (text_cmp s)) m) ps
        ≡ grown_all (lookup (is_at (text_cmp s)) m) (cons_option (if b then Some p else None) ps)
    by_test true is = ap (λ x. grown_all (Some (grown (lookup (is_at (text_cmp x)) m) p)) ps) (sym (same_text s t (sym is)))
    by_test false is = refl

pub found_grown : (s : List ℕ) (m : List (List ℕ × Group)) (es : List (Option (List ℕ) × Part))
    → lookup (is_at (text_cmp s)) (fold add_suffixed m es) ≡ grown_all (lookup (is_at (text_cmp s)) m) (filter_map (part_for (Some s)) es)
found_grown s m [] = refl
found_grown s m ((None, p) ∷ es) = found_grown s m es
found_grown s m ((Some t, p) ∷ es) = found_grown s (with_suffixed m t p) es ∙ one_more s t m p (filter_map (part_for (Some s)) es)
