use Rattle.std.proofs.Common.{◌≡◌, ◌∙◌, ℕ, List, [], ◌∷◌, ◌++◌, IfOk, map, ap, ap₂, subst, sym}
use Rattle.ac_base.specs.Texts.{id_text}
use Rattle.ac_cloud.specs.Cloud.CloudWorld.{providers_of}
use Rattle.ac_query.specs.Shown.Queries.{asked_of}
use Rattle.ac_rules.specs.Placed.{assigned}
use Rattle.ac_report.specs.ListRows.{allocation_cell, amount_text, inventory_cell, joined_by_commas, traits_cell}
use Rattle.ac_report.specs.Names.{shown_name}
use Rattle.ac_base.specs.Writing.Rows.{HasRows}
use Rattle.ac_report.specs.Texts.{shown_providers}
use Rattle.ac_report.proofs.Pages.Showing.{entries, ids, names}
use Rattle.ac_report.proofs.list_rows.write_provider.Goals as goal

-- six cells that are equal
cells : (a b c d e f p q r s t u : List ℕ) → a ≡ p → b ≡ q → c ≡ r → d ≡ s → e ≡ t → f ≡ u → a ∷ b ∷ c ∷ d ∷ e ∷ f ∷ [] ≡ p ∷ q ∷ r ∷ s ∷ t ∷ u ∷ []
cells a b c d e f p q r s t u g h i j k l =
    let put : List ℕ → List (List ℕ) → List (List ℕ) = λ x rest. x ∷ rest in
    ap₂ put g (ap₂ put h (ap₂ put i (ap₂ put j (ap₂ put k (ap (λ x. put x []) l)))))

pub returns : goal.returns
unfolding allocation_cell
returns c =
    let all = providers_of c.args.listed.now.cloud.now in
    let shown = shown_providers c.args.listed.now.traits all in
    let xs = assigned (asked_of c.args.listed.now.query.now) c.args.listed.now.list.now in
    let ix = c.args.provider in
    let row = cells _ _ _ _ _ _ _ _ _ _ _ _ (c.as_bytes.ensures.value ∙ c.in_ok-number.ensures.ok)
    (c.as_bytes-2.ensures.value ∙ (c.in_ok-allocation.ensures ∙ ap (λ (ks : List (List ℕ)). joined_by_commas (map (amount_text xs ix) ks)) c.requires.classes))
    (c.text.ensures ∙ ap id_text (c.id.ensures ∙ sym (ids all c.args.listed.now.traits ix)))
    (c.as_bytes-3.ensures.value ∙ (c.in_ok-inventory.ensures ∙ ap inventory_cell (c.entries.ensures ∙ sym (entries all c.args.listed.now.traits ix))))
    (c.as_bytes-4.ensures.value ∙ (c.in_ok-traits.ensures ∙ ap traits_cell c.shown_traits.ensures))
    (c.deref.ensures.value ∙ (c.in_ok-name.ensures ∙ ap shown_name (c.name.ensures ∙ sym (names all c.args.listed.now.traits ix)))) in
    subst (λ (fields : List (List ℕ)). IfOk c.write_row.result (λ x. (before : List (List (List ℕ))) → HasRows c.args.rows.now before → HasRows c.write_row.new.rows (before ++ fields ∷ [])))
    row c.write_row.ensures
