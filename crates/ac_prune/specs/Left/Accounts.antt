-- What a ledger keeps is what the front of a path takes.
use Rattle.std.specs.Prelude.{◌≡◌, ℕ, ◌+◌, ◌*◌, List, map, length, slice_index}
use Rattle.ac_base.specs.Names.{class_bytes}
use Rattle.ac_query.specs.Asked.{Asked}
use Rattle.ac_query.specs.Shown.Queries.{asked_of}
use Rattle.ac_cloud.specs.World.{Provider}
use Rattle.ac_cloud.specs.Cloud.CloudWorld.{providers_of}
use Rattle.ac_rules.specs.Placed.{assigned}
use Rattle.ac_prune.specs.Left.{AreLeft}
use Rattle.ac_prune.specs.Marks.{AreMarks, AreHits, AreWithFronts}
use Rattle.ac_prune.specs.declared.ledger.Ledger.{Ledger}

abbrev pub providers_in : Ledger → List Provider
providers_in l = providers_of l.cloud.now

abbrev pub asked_in : Ledger → Asked
asked_in l = asked_of l.query.now

-- the texts of its classes
abbrev pub texts_in : Ledger → List (List ℕ)
texts_in l = map (λ c. class_bytes c.now) l.classes.items

-- what is left at a provider of the class of a number
abbrev pub left_in : Ledger → ℕ → ℕ → ℕ
left_in l p k = slice_index l.rooms.items (p * length l.classes.items + k)

-- It accounts for a front: each room less what the front asks of it, who is taken, where how many are available, and who is
-- available wherever all are.
pub record Accounts (l : Ledger) (q : List ℕ) : Type 0 where
  pub left : AreLeft (providers_in l) (texts_in l) (left_in l) (assigned (asked_in l) q)
  pub marks : AreMarks (providers_in l) (asked_in l) l.marks.items (assigned (asked_in l) q)
  pub hits : AreHits (providers_in l) l.hits.items q
  pub narrowest : AreWithFronts (providers_in l) l.narrowest.items q

-- it is of the same cloud and query
pub record IsSameLedger (old new : Ledger) : Type 0 where
  pub cloud : new.cloud ≡ old.cloud
  pub query : new.query ≡ old.query
