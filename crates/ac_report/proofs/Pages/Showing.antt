-- Providers without their traits: a page tells the same of them, but for the traits.
use Rattle.std.proofs.Common.{◌≡◌, ◌∙◌, ◌==◌, ℕ, zero, suc, ◌+◌, Bool, true, false, List, [], ◌∷◌, ◌++◌, codes, map, length, nat_cmp, Option, Some, refl, sym, ap, ap₂, arith, if◌then◌else◌}
use Rattle.std.proofs.lemmas.List.{length-map}
use Rattle.std.proofs.Math.Path.{fun_ext}
use Rattle.std.specs.List.{filter, list_any, position_from, range_with_len}
use Rattle.std.specs.Option.{option_and_then}
use Rattle.serde_json.specs.Data.{object, string, no_members, member}
use Rattle.serde_json.specs.Written.{compact_text}
use Rattle.ac_base.specs.Texts.{id_text}
use Rattle.ac_base.specs.Sorted.{rising}
use Rattle.ac_cloud.specs.Laws.{AreProviders}
use Rattle.ac_cloud.specs.Trees.{top}
use Rattle.ac_cloud.specs.World.{Provider, id_at, is_provider, parent_of, place_of, provider_at, root_of}
use Rattle.ac_cloud.specs.declared.cloud.Cloud.{Cloud}
use Rattle.ac_cloud.specs.Cloud.CloudWorld.{providers_of}
use Rattle.ac_cloud.proofs.InOrder.{cloud_in_order}
use Rattle.ac_query.specs.Asked.{Asked, Group}
use Rattle.ac_query.specs.Laws.InOrder.{group_name}
use Rattle.ac_rules.specs.Placed.{Placed, assigned}
use Rattle.ac_report.specs.Marks.{body_pieces, requests, summaries}
use Rattle.ac_report.specs.Texts.{body, head_text, joined, middle_text, pieces, request_text, shown_providers, summarized, tail_text, with_commas, without_traits}
use Rattle.ac_report.specs.Trees.{allocation, allocations, gathered, gives, holdings, hosts, id_or_null, mapping, mappings, mappings_from, request, summary, texts}
use Rattle.ac_report.proofs.Pages.Joining.{body_is, pieces_joined}

-- ---- without traits

bare_at : (all : List Provider) (ix : ℕ) → provider_at (map without_traits all) ix ≡ without_traits (provider_at all ix)
bare_at [] ix = refl
bare_at (p ∷ all) zero = refl
bare_at (p ∷ all) (suc ix) = bare_at all ix

bare_places : (id k : ℕ) (all : List Provider) → position_from (is_provider id) k (map without_traits all) ≡ position_from (is_provider id) k all
bare_places id k [] = refl
bare_places id k (p ∷ all) = ap (λ o. if p.id == id then Some k else o) (bare_places id (k + 1) all)

pub none_shown : (all : List Provider) (ix : ℕ) → (provider_at (shown_providers false all) ix).traits ≡ []
none_shown all ix = ap (λ p. p.traits) (bare_at all ix)

-- ---- what is told of providers, be their traits shown or not

module _ (all : List Provider) where
  pub size : (traits : Bool) → length (shown_providers traits all) ≡ length all
  size true = refl
  size false = length-map all without_traits

  -- what is told of a provider beside its traits
  same_at : {X : Type 0} (tell : Provider → X) → ((p : Provider) → tell (without_traits p) ≡ tell p) → (traits : Bool) (ix : ℕ) → tell (provider_at (shown_providers traits all) ix) ≡ tell (provider_at all ix)
  same_at tell same true ix = refl
  same_at tell same false ix = ap tell (bare_at all ix) ∙ same (provider_at all ix)

  pub ids : (traits : Bool) (ix : ℕ) → id_at (shown_providers traits all) ix ≡ id_at all ix
  ids = same_at (λ p. p.id) (λ p. refl)

  pub names : (traits : Bool) (ix : ℕ) → (provider_at (shown_providers traits all) ix).name ≡ (provider_at all ix).name
  names = same_at (λ p. p.name) (λ p. refl)

  pub entries : (traits : Bool) (ix : ℕ) → (provider_at (shown_providers traits all) ix).entries ≡ (provider_at all ix).entries
  entries = same_at (λ p. p.entries) (λ p. refl)

  places : (traits : Bool) (id : ℕ) → place_of (shown_providers traits all) id ≡ place_of all id
  places true id = refl
  places false id = bare_places id 0 all

  parents : (traits : Bool) (id : ℕ) → parent_of (shown_providers traits all) id ≡ parent_of all id
  parents traits id = ap₂ option_and_then (fun_ext (λ (ix : ℕ). same_at (λ p. p.parent) (λ p. refl) traits ix)) (places traits id)

  roots : (traits : Bool) (id : ℕ) → root_of (shown_providers traits all) id ≡ root_of all id
  roots traits id = ap₂ (λ (parent : ℕ → Option ℕ) (n : ℕ). top parent n id) (fun_ext (parents traits)) (size traits)

  root_at : (traits : Bool) (ix : ℕ) → root_of (shown_providers traits all) (id_at (shown_providers traits all) ix) ≡ root_of all (id_at all ix)
  root_at traits ix = ap (root_of (shown_providers traits all)) (ids traits ix) ∙ roots traits (id_at all ix)

  in_order : AreProviders all → (traits : Bool) → AreProviders (shown_providers traits all)
  in_order are traits = record {
    order = λ p q less inside. rw (ids traits p, ids traits q) (are.order p q less (omega (arith, inside, size traits)));
    fit = λ ix inside. rw (ids traits ix) (are.fit ix (omega (arith, inside, size traits)));
  }

  -- ---- summaries

  pub summary_shown : (traits : Bool) (ix : ℕ) → summary (shown_providers traits all) ix
      ≡ object (member (codes "parent_provider_uuid") (id_or_null (parent_of all (id_at all ix)))
      (member (codes "resources") (holdings (provider_at all ix).entries)
      (member (codes "root_provider_uuid") (string (id_text (root_of all (id_at all ix))))
      (member (codes "traits") (texts (provider_at (shown_providers traits all) ix).traits) no_members))))
  unfolding summary
  summary_shown traits ix =
      let parent = ap (parent_of (shown_providers traits all)) (ids traits ix) ∙ parents traits (id_at all ix) in
      rw (parent, entries traits ix, root_at traits ix) refl

  -- which providers are summarized, by their roots
  abbrev by_roots : (ℕ → ℕ) → ℕ → List (List ℕ) → List ℕ
  by_roots root n lists = filter (λ ix. list_any (λ list. list_any (λ p. root p == root ix) list) lists) (range_with_len 0 n)

  same_summarized : (traits : Bool) (lists : List (List ℕ)) → summarized (shown_providers traits all) lists ≡ summarized all lists
  same_summarized traits lists = ap₂ (λ root n. by_roots root n lists) (fun_ext (root_at traits)) (size traits)

  -- ---- requests

  module _ (asked : Asked) where
    same_mappings : (xs : List Placed) (place : ℕ) (gs : List (Option (List ℕ) × Group)) (traits : Bool) → mappings_from (shown_providers traits all) xs place gs ≡ mappings_from all xs place gs
    unfolding mapping
    same_mappings xs place [] traits = refl
    same_mappings xs place (g ∷ gs) traits =
        ap₂ (λ (id : ℕ → ℕ) ms. (group_name g, texts (map (λ ix. id_text (id ix)) (rising nat_cmp (hosts xs place)))) ∷ ms) (fun_ext (ids traits)) (same_mappings xs (place + 1) gs traits)

    same_request : (traits : Bool) (list : List ℕ) → request (shown_providers traits all) asked list ≡ request all asked list
    unfolding request allocations mappings
    same_request traits list =
        let xs = assigned asked list in
        ap₂ (λ (id : ℕ → ℕ) ms. object (member (codes "allocations")
        (object (gathered (map (λ ix. (id_text (id ix), allocation xs ix)) (filter (λ ix. gives xs ix) (rising nat_cmp list)))))
        (member (codes "mappings") (object (gathered ms)) no_members))) (fun_ext (ids traits)) (same_mappings xs 0 asked.groups traits)

    same_requests : (traits : Bool) (lists : List (List ℕ)) → requests (shown_providers traits all) asked false lists ≡ requests all asked false lists
    unfolding request_text
    same_requests traits lists =
        ap (λ (f : List ℕ → List ℕ). with_commas false (map f lists)) (fun_ext (λ (list : List ℕ). ap compact_text (same_request traits list)))

    -- the pieces of a body
    pub pieces_shown : (traits : Bool) (lists : List (List ℕ)) → body_pieces traits all asked lists ≡ pieces (shown_providers traits all) asked lists
    pieces_shown traits lists =
        ap₂ (λ rs places. head_text ∷ (rs ++ middle_text ∷ (summaries (shown_providers traits all) false places ++ tail_text ∷ [])))
        (sym (same_requests traits lists)) (sym (same_summarized traits lists))

-- the body that is written of a cloud
pub is_shown_body : (cloud : Cloud) (asked : Asked) (traits : Bool) (lists : List (List ℕ)) → joined (body_pieces traits (providers_of cloud) asked lists) ≡ body (shown_providers traits (providers_of cloud)) asked lists
is_shown_body cloud asked traits lists =
    let all = providers_of cloud in
    let shown = shown_providers traits all in
    ap joined (pieces_shown all asked traits lists) ∙ pieces_joined shown asked lists ∙ sym (body_is shown (in_order all (cloud_in_order cloud) traits) asked lists)
