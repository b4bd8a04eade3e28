-- What an image stands for: the history, and some of the commits that are in flight.
use Rattle.std.specs.Prelude.{◌⊎◌, ℕ, ◌<◌, ◌≤◌, Bool, false, ◌==◌, ◌&&◌, ◌||◌, if◌then◌else◌, List, [], ◌∷◌, ◌++◌}
use Rattle.persist_model.specs.Region.{Words}
use Rattle.persist_model.specs.Kinds.{COMMITTED, END}
use Rattle.persist_model.specs.Records.{Record, Log}
use Rattle.persist_model.specs.Order.{is_kind_of}
use Rattle.persist_model.specs.Shape.{shape_of, IsHeapWord, IsShape}
use Rattle.persist_model.specs.Standing.{Stands}
use Rattle.persist_model.specs.State.{State, IsSoundState}
use Rattle.persist_model.specs.Sound.{HasState}
use Rattle.history_laws.specs.Histories.{Entry, fold}

-- r is a committed end of t
abbrev pub is_commit_of : ℕ → Record → Bool
is_commit_of t r = is_kind_of t END r && (r.outcome == COMMITTED)

-- a committed end of t is in the log
abbrev pub has_commit : ℕ → Log → Bool
has_commit t [] = false
has_commit t (r ∷ log) = is_commit_of t r || has_commit t log

-- those of the flight whose transaction is committed in the log, in their order
abbrev pub kept_of : Log → List Entry → List Entry
kept_of log [] = []
kept_of log (e ∷ flight) = if has_commit e.transaction log then e ∷ kept_of log flight else kept_of log flight

-- The image stands for the history and some of the flight: it is sound, and each heap word stands at its value behind the history and the
-- commits in flight that the image has.
pub record StandsFor (size : ℕ) (start : Words) (history flight : List Entry) (i : Words) : Type 0 where
  pub shape : IsShape size i
  pub state : State
  pub has : HasState (shape_of i) i state
  pub sound : IsSoundState (shape_of i) state
  pub standing : (a : ℕ) → IsHeapWord (shape_of i) a → Stands (i 1) state.log state.words a (fold start (history ++ kept_of state.log flight) a)

-- a word of the header that is no list word, whatever the partitions
abbrev pub IsHeader : ℕ → Type 0
IsHeader a = (a < 8) ⊎ ((13 ≤ a) × (a ≤ 20))
