-- A cloud's fields and the world that it stands for.
use Rattle.ac_cloud.proofs.Common.{◌≡◌, ◌<◌, ◌∙◌, ℕ, List, [], map, length, get_or, Option, Some, None, refl, sym, ap, subst, arith, IfSome, option_map, get_or-map, parent_in, rank, provider_at, id_at, place_of, parent_of, root_of, trait_bytes, entry_pair, lists_of, numbered_at, Cloud}
use Rattle.ac_cloud.specs.Cloud.CloudParts.{AreParts, BelongTogether}
use Rattle.ac_cloud.specs.Cloud.CloudWorld.{providers_of}
use Rattle.ac_cloud.proofs.Places.WorldFacts.{numbered_size, numbered_here, numbered_place, numbered_parent, numbered_root}

module _ (c : Cloud) where
  abbrev ids : List ℕ
  ids = c.ids.ids.items

  pub parts : AreParts ids c.parents.items c.roots.items (lists_of c.entries) (lists_of c.traits) (lists_of c.aggregates) (lists_of c.names) c.sharing.items c.anchors c.visits
  unfolding BelongTogether
  parts = c.whole

  pub size : length (providers_of c) ≡ length c.ids.ids.items
  unfolding providers_of
  size = numbered_size ids c.parents.items (map (map entry_pair) (lists_of c.entries)) (map (map trait_bytes) (lists_of c.traits)) (lists_of c.aggregates) (lists_of c.names)

  pub inside : (ix : ℕ) → ix < length (providers_of c) → ix < length c.ids.ids.items
  inside ix h = omega (arith, h, size)

  pub outside : (ix : ℕ) → ix < length c.ids.ids.items → ix < length (providers_of c)
  outside ix h = omega (arith, h, size)

  pub id_here : (ix : ℕ) → ix < length c.ids.ids.items → id_at (providers_of c) ix ≡ get_or c.ids.ids.items ix 0
  unfolding providers_of
  id_here ix h = ap (λ p. p.id) (numbered_here ids c.parents.items (map (map entry_pair) (lists_of c.entries)) (map (map trait_bytes) (lists_of c.traits)) (lists_of c.aggregates) (lists_of c.names) ix h)

  pub place_here : (id : ℕ) → place_of (providers_of c) id ≡ rank c.ids.ids.items id
  unfolding providers_of
  place_here id = numbered_place ids c.parents.items (map (map entry_pair) (lists_of c.entries)) (map (map trait_bytes) (lists_of c.traits)) (lists_of c.aggregates) (lists_of c.names) id

  pub parent_here : (ix : ℕ) → ix < length c.ids.ids.items → parent_of (providers_of c) (id_at (providers_of c) ix) ≡ option_map (λ j. get_or c.ids.ids.items j 0) (parent_in c.parents.items ix)
  unfolding providers_of
  parent_here ix h =
      ap (parent_of (providers_of c)) (id_here ix h)
      ∙ numbered_parent ids c.parents.items (map (map entry_pair) (lists_of c.entries)) (map (map trait_bytes) (lists_of c.traits)) (lists_of c.aggregates) (lists_of c.names) c.ids.rising ix h

  pub root_inside : (ix : ℕ) → ix < length c.ids.ids.items → get_or c.roots.items ix 0 < length c.ids.ids.items
  root_inside ix h =
      let r = numbered_root ids c.parents.items (map (map entry_pair) (lists_of c.entries)) (map (map trait_bytes) (lists_of c.traits)) (lists_of c.aggregates) (lists_of c.names) c.ids.rising parts.forest.within ix h in
      subst (λ (j : ℕ). j < length ids) (sym (parts.forest.rooted ix h)) r.0

  pub root_here : (ix : ℕ) → ix < length c.ids.ids.items → id_at (providers_of c) (get_or c.roots.items ix 0) ≡ root_of (providers_of c) (id_at (providers_of c) ix)
  unfolding providers_of
  root_here ix h =
      let r = numbered_root ids c.parents.items (map (map entry_pair) (lists_of c.entries)) (map (map trait_bytes) (lists_of c.traits)) (lists_of c.aggregates) (lists_of c.names) c.ids.rising parts.forest.within ix h in
      id_here (get_or c.roots.items ix 0) (root_inside ix h)
      ∙ ap (λ (j : ℕ). get_or ids j 0) (parts.forest.rooted ix h) ∙ sym r.1 ∙ ap (root_of (providers_of c)) (sym (id_here ix h))

  at_place : (ix : ℕ) → ix < length c.ids.ids.items → provider_at (providers_of c) ix ≡ numbered_at ids c.parents.items (map (map entry_pair) (lists_of c.entries)) (map (map trait_bytes) (lists_of c.traits)) (lists_of c.aggregates) (lists_of c.names) ix
  unfolding providers_of
  at_place ix h = numbered_here ids c.parents.items (map (map entry_pair) (lists_of c.entries)) (map (map trait_bytes) (lists_of c.traits)) (lists_of c.aggregates) (lists_of c.names) ix h

  pub inventory_records_here : (ix : ℕ) → ix < length c.ids.ids.items → map entry_pair (get_or (lists_of c.entries) ix []) ≡ (provider_at (providers_of c) ix).entries
  inventory_records_here ix h =
      sym (get_or-map (map entry_pair) (lists_of c.entries) ix [] [] (omega (arith, h, parts.with_entries))) ∙ sym (ap (λ p. p.entries) (at_place ix h))

  pub traits_here : (ix : ℕ) → ix < length c.ids.ids.items → map trait_bytes (get_or (lists_of c.traits) ix []) ≡ (provider_at (providers_of c) ix).traits
  traits_here ix h =
      sym (get_or-map (map trait_bytes) (lists_of c.traits) ix [] [] (omega (arith, h, parts.with_traits))) ∙ sym (ap (λ p. p.traits) (at_place ix h))

  pub aggregates_here : (ix : ℕ) → ix < length c.ids.ids.items → get_or (lists_of c.aggregates) ix [] ≡ (provider_at (providers_of c) ix).aggregates
  aggregates_here ix h = sym (ap (λ p. p.aggregates) (at_place ix h))

  pub name_here : (ix : ℕ) → ix < length c.ids.ids.items → get_or (lists_of c.names) ix [] ≡ (provider_at (providers_of c) ix).name
  name_here ix h = sym (ap (λ p. p.name) (at_place ix h))

  names_same : (ix : ℕ) (o : Option ℕ) → ix < length c.ids.ids.items → parent_in c.parents.items ix ≡ o
      → (option_map (id_at (providers_of c)) o ≡ option_map (λ j. get_or c.ids.ids.items j 0) o) × IfSome o (λ j. j < length (providers_of c))
  names_same ix None h e = (refl, tt)
  names_same ix (Some j) h e = let k = parts.forest.within ix j h e in (ap (λ (x : ℕ). Some x) (id_here j k), outside j k)

  pub parent_is : (ix : ℕ) (o : Option ℕ) → ix < length c.ids.ids.items → o ≡ parent_in c.parents.items ix
      → (option_map (id_at (providers_of c)) o ≡ parent_of (providers_of c) (id_at (providers_of c) ix)) × IfSome o (λ j. j < length (providers_of c))
  parent_is ix o h e =
      let same = names_same ix o h (sym e) in
      (same.0 ∙ ap (option_map (λ j. get_or c.ids.ids.items j 0)) e ∙ sym (parent_here ix h), same.1)
