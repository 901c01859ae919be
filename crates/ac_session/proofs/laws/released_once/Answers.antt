use Rattle.std.proofs.Common.{◌≡◌, ◌∙◌, ℕ, Bool, true, false, List, Option, Some, None, refl, ap, if◌then◌else◌}
use Rattle.std.proofs.lemmas.Slice.Eq.{bytes_eq-Decides}
use Rattle.ac_query.specs.declared.version.Version.{Version}
use Rattle.ac_session.specs.Held.{Claim, Held, Named, standing}
use Rattle.ac_session.specs.Turns.{answers, is_done, named_release_turn, release_said, release_turn, released_as, status_of, with_name}
use Rattle.ac_session.proofs.laws.released_once.Goals as goal

-- a name that stands for nothing
gone : (name : List ℕ) (named : Named) → standing name None named name ≡ None
gone name named = ap (λ (b : Bool). if b then None else named name) ((bytes_eq-Decides name name).1 refl)

module _ (version : Version) (name : List ℕ) (held : Held) where
  by : (found : Option Claim) → held.named name ≡ found → is_done (status_of (released_as version name held found).answer) ≡ true
      → named_release_turn version name (released_as version name held found).state ≡ answers (released_as version name held found).state (release_said false)
  unfolding named_release_turn
  by None none done = absurd cc
  by (Some claim) some done =
      let turn = release_turn version claim.query claim.token held.world in
      let stands : (with_name name None held turn).state.named name ≡ None = ap (λ (b : Bool). (if b then standing name None held.named else held.named) name) done ∙ gone name held.named in
      ap (released_as version name (with_name name None held turn).state) stands

pub returns : goal.returns
unfolding named_release_turn
returns c = λ version name held done. by version name held (held.named name) refl done
