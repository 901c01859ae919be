-- What a session holds between its questions: the cloud as it stands, the claims that have a name, and what was marked.
use Rattle.std.specs.Prelude.{ℕ, List, [], Option, None, map, reverse, if◌then◌else◌}
use Rattle.std.specs.Option.{option_map}
use Rattle.std.specs.BTreeMap.{get_by_text}
use Rattle.std.specs.String.{string_bytes}
use Rattle.std.specs.Str.{bytes_eq}
use Rattle.ac_cloud.specs.Cloud.CloudWorld.{world_of}
use Rattle.ac_cloud.specs.World.{World}
use Rattle.ac_session.specs.Marks.{Kept, kept_of, kept_shown}
use Rattle.ac_session.specs.declared.turns.held.Held as rust
use Rattle.ac_session.specs.declared.turns.marks.Mark as rust_mark
use Rattle.ac_session.specs.declared.turns.names.Claim as rust_claim
use Rattle.ac_session.specs.declared.turns.names.Names as rust_names

-- a claim that has a name: the query and the token by which it was made
pub record Claim : Type 0 where
  pub query : List ℕ
  pub token : List ℕ

-- the claim that each name stands for, if it stands for one
abbrev pub Named : Type 0
Named = List ℕ → Option Claim

-- a mark: what was used then, and what each name stood for
pub record Mark : Type 0 where
  pub used : List Kept
  pub named : Named

-- the cloud as it stands, what each name stands for, and the marks, of which the last is the first
pub record Held : Type 0 where
  pub world : World
  pub named : Named
  pub marks : List Mark

-- all three
abbrev pub holding : World → Named → List Mark → Held
holding world named marks = record { world = world; named = named; marks = marks }

-- a session begins without names and marks
abbrev pub unnamed : World → Held
unnamed world = holding world (λ name. None) []

-- a name stands for this, and each other for what it stood for
abbrev pub standing : List ℕ → Option Claim → Named → Named
standing name made named other = if bytes_eq name other then made else named other

-- a mark of what there is
abbrev pub marked : World → Named → Mark
marked world named = record { used = kept_of world.providers; named = named }

-- ---- as the structs of it show

abbrev pub claim_shown : rust_claim.Claim → Claim
claim_shown c = record { query = string_bytes c.query; token = string_bytes c.token }

abbrev pub named_in : rust_names.Names → Named
named_in names name = option_map claim_shown (get_by_text names.claims name)

abbrev pub mark_shown : rust_mark.Mark → Mark
mark_shown m = record { used = map kept_shown m.used.items; named = named_in m.names }

abbrev pub held_of : rust.Held → Held
held_of held = holding (world_of held.cloud) (named_in held.names) (reverse (map mark_shown held.marks.items))
