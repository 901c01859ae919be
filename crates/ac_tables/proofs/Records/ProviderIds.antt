-- The ids of providers are numbers of 128 bits.
use Rattle.ac_tables.proofs.Common.{◌<◌, ◌^◌, ℕ, suc, List, [], ◌∷◌, map, arith, All, fold, nat_cmp, insert_key, Row, text_in, ProviderRecord, uuid_name, providers_said, rising}
use Rattle.std.proofs.lemmas.List.Elements.{All-map, All-nil}
use Rattle.std.proofs.lemmas.Map.Views.{All-insert_key}
use Rattle.ac_tables.specs.Tables.ProviderTable.{provider_said}
use Rattle.ac_tables.proofs.Records.IdsFit.{id_fits}

abbrev pub Fits : ℕ → Type 0
Fits id = id < 2 ^ 128

abbrev pub AreFit : List ProviderRecord → Type 0
AreFit rows = All (λ p. p.id < 2 ^ 128) rows

pub id_fit : (header row : Row) → Fits (provider_said header row).id
unfolding provider_said
id_fit header row = id_fits (text_in header uuid_name row)

pub said_fit : (rows : List Row) → AreFit (providers_said rows)
said_fit [] = All-nil (λ p. Fits p.id)
said_fit (header ∷ rows) = All-map (λ p. Fits p.id) (provider_said header) rows (λ i d h. id_fit header _)

set_fit : (ks xs : List ℕ) → All Fits ks → All Fits xs → All Fits (fold (insert_key nat_cmp) ks xs)
set_fit ks [] h all = h
set_fit ks (x ∷ xs) h all =
    set_fit (insert_key nat_cmp ks x) xs (All-insert_key nat_cmp x Fits ks h (all 0 0 (omega arith))) (λ i d k. all (suc i) d (omega (arith, k)))

pub ids_fit : (rows : List ProviderRecord) → AreFit rows → All Fits (rising nat_cmp (map (λ p. p.id) rows))
ids_fit rows h = set_fit [] (map (λ p. p.id) rows) (All-nil Fits) (All-map Fits (λ p. p.id) rows h)
