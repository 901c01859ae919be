-- The body of lists, piece by piece.
use Rattle.std.proofs.Common.{arith}
use Rattle.std.proofs.lemmas.Grind.{common_steps}
use Rattle.std.proofs.Common.{◌≡◌, ℕ, List, [], ◌∷◌, ◌++◌, refl, ap, ap₂, ◌∙◌, Bool, true, false, map, length, append_assoc, append-nil, codes}
use Rattle.std.proofs.lemmas.Grind.{flat_map-append}
use Rattle.serde_json.specs.Data.{Data, Items, array, object, string, Members, no_members, member}
use Rattle.serde_json.specs.View.{items_of}
use Rattle.serde_json.specs.Written.{compact_text, items_text, members_text, comma_if}
use Rattle.serde_json.proofs.OnLiterals.{serde_json_on_literals}
use Rattle.ac_cloud.specs.Laws.{AreProviders}
use Rattle.ac_cloud.specs.World.{Provider}
use Rattle.ac_query.specs.Asked.{Asked}
use Rattle.ac_report.specs.Trees.{gathered, provider_text, request, summary}
use Rattle.ac_report.specs.Texts.{request_text, summary_text, summarized, body_tree, body, with_commas, summary_piece, head_text, middle_text, tail_text, pieces, joined}
use Rattle.ac_report.specs.Marks.{is_summarized, requests, summaries}
use Rattle.ac_report.proofs.Trees.Gathering.{Named}
use Rattle.ac_report.specs.Parts.{listed}
use Rattle.ac_report.proofs.Trees.Listed.{kept_listed, range_below, range_rises}

-- ---- the parts of the pieces

abbrev pub page_text : List Provider → Asked → List (List ℕ) → List ℕ
page_text all asked lists = head_text ++ (joined (requests all asked false lists) ++ (middle_text ++ (joined (summaries all false (summarized all lists)) ++ tail_text)))

-- the items of an array
items_joined : {X : Type 0} (g : X → Data) (later : Bool) (xs : List X) → items_text later (items_of (map g xs)) ≡ joined (with_commas later (map (λ x. compact_text (g x)) xs)) ++ 93 ∷ []
items_joined g later [] = refl
items_joined g later (x ∷ xs) = rw (items_joined g true xs) (simp append_assoc)

-- the members of an object
member_text : (later : Bool) (k : List ℕ) (d : Data) (ms : Members) → members_text later (member k d ms) ≡ (comma_if later ++ (compact_text (string k) ++ 58 ∷ compact_text d)) ++ members_text true ms
member_text later k d ms = grind (arith, common_steps, append_assoc)

members_joined : {X : Type 0} (g : X → Named) (later : Bool) (xs : List X) → members_text later (listed (map g xs)) ≡ joined (with_commas later (map (λ x. compact_text (string (g x).0) ++ 58 ∷ compact_text (g x).1) xs)) ++ 125 ∷ []
members_joined g later [] = refl
members_joined g later (x ∷ xs) = grind (arith, common_steps, member_text, append_assoc, members_joined g true xs)

pub pieces_joined : (all : List Provider) (asked : Asked) (lists : List (List ℕ)) → joined (pieces all asked lists) ≡ page_text all asked lists
pieces_joined all asked lists = grind (arith, common_steps, flat_map-append, append-nil)

-- the fixed texts, by the names of the members
abbrev requests_name : List ℕ
requests_name = compact_text (string (codes "allocation_requests"))

abbrev summaries_name : List ℕ
summaries_name = compact_text (string (codes "provider_summaries"))

shape : (q1 q2 r s : List ℕ) → (123 ∷ (q1 ++ 58 ∷ 91 ∷ ((r ++ 93 ∷ []) ++ 44 ∷ (q2 ++ 58 ∷ 123 ∷ ((s ++ 125 ∷ []) ++ 125 ∷ []))))) ++ 10 ∷ []
    ≡ (123 ∷ (q1 ++ 58 ∷ 91 ∷ [])) ++ (r ++ ((93 ∷ 44 ∷ (q2 ++ 58 ∷ 123 ∷ [])) ++ (s ++ 125 ∷ 125 ∷ 10 ∷ [])))
shape q1 q2 r s = simp append_assoc

two_members : (requests : Items) (summaries : Members) →
    compact_text (object (member (codes "allocation_requests") (array requests) (member (codes "provider_summaries") (object summaries) no_members)))
    ≡ 123 ∷ (requests_name ++ 58 ∷ 91 ∷ (items_text false requests ++ 44 ∷ (summaries_name ++ 58 ∷ 123 ∷ (members_text false summaries ++ 125 ∷ []))))
two_members requests summaries = refl

pub body_is : (all : List Provider) → AreProviders all → (asked : Asked) (lists : List (List ℕ)) → body all asked lists ≡ page_text all asked lists
unfolding body body_tree request_text summary_piece summary_text head_text middle_text tail_text serde_json_on_literals
body_is all are asked lists =
    let named : ℕ → Named = λ ix. (provider_text all ix, summary all ix) in
    let places = summarized all lists in
    let ordered = kept_listed all are (summary all) (is_summarized all lists) _ (range_rises 0 (length all)) (range_below (length all)) in
    ap (λ l. l ++ 10 ∷ []) (two_members (items_of (map (request all asked) lists)) (gathered (map named places))
    ∙ ap₂ (λ i m. 123 ∷ (requests_name ++ 58 ∷ 91 ∷ (i ++ 44 ∷ (summaries_name ++ 58 ∷ 123 ∷ (m ++ 125 ∷ [])))))
    (items_joined (request all asked) false lists) (ap (members_text false) ordered ∙ members_joined named false places))
    ∙ shape requests_name summaries_name (joined (requests all asked false lists)) (joined (summaries all false places))
