-- The objects of rows hold texts alone: no number, so `serde_json` states what it writes of them.
use Rattle.std.proofs.Common.{◌≡◌, ℕ, List, [], ◌∷◌, Bool, true, false, String, Global, get_or, refl, rules, string_bytes}
use Rattle.std.specs.Prelude.{◌||◌}
use Rattle.std.specs.Ordering.{nat_cmp, match_ordering}
use Rattle.std.specs.Cmp.Lexicographic.{slice_cmp}
use Rattle.std.specs.declared.cmp.Ordering.{Ordering}
use Rattle.std.specs.declared.cmp.Ordering.TheVariants.{Less, Equal, Greater}
use Rattle.serde_json.specs.Data.{Members, member, no_members, put, string}
use Rattle.serde_json.specs.View.{view}
use Rattle.serde_json.specs.Written.{has_float, members_have_float}
use Rattle.serde_json.specs.declared.value.Value as value
use Rattle.serde_json.specs.declared.value.Value.{the_lemmas}
use Rattle.ac_cli.specs.Forms.Json.{with_members}

pub view_text : (s : String Global) → view (value.String s) ≡ string (string_bytes s)
view_text s = search (rules, the_lemmas)

second : (a b : Bool) → (a || b) ≡ false → b ≡ false
second false b e = e
second true b e = absurd (cc e)

behind : (a b c : Bool) → (a || b) ≡ false → (b ≡ false → c ≡ false) → (a || c) ≡ false
behind false b c e h = h e
behind true b c e h = absurd (cc e)

plain_put : (k s : List ℕ) (ms : Members) → members_have_float ms ≡ false → members_have_float (put k (string s) ms) ≡ false
plain_put k s no_members e = refl
plain_put k s (member l d ms) e = at_key (plain_put k s ms) (slice_cmp nat_cmp k l)
  where
    at_key : (members_have_float ms ≡ false → members_have_float (put k (string s) ms) ≡ false) → (o : Ordering)
        → members_have_float (match_ordering o (member k (string s) (member l d ms)) (member l (string s) ms) (member l d (put k (string s) ms))) ≡ false
    at_key more Less = e
    at_key more Equal = second (has_float d) (members_have_float ms) e
    at_key more Greater = behind (has_float d) (members_have_float ms) _ e more

pub plain_members : (header row : List (List ℕ)) (is : List ℕ) (ms : Members) → members_have_float ms ≡ false → members_have_float (with_members header row is ms) ≡ false
plain_members header row [] ms e = e
plain_members header row (i ∷ is) ms e = plain_members header row is _ (plain_put (get_or header i []) (get_or row i []) ms e)
