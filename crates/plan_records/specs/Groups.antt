-- Updates that come at once, each at the place of its number: newer records of other partitions may be there before them.
use Rattle.std.specs.Prelude.{◌≢◌, ℕ, ◌≤◌, List, [], ◌∷◌, length}
use Rattle.persist_model.specs.Records.{Record}
use Rattle.persist_model.specs.Shape.{Shape}
use Rattle.persist_model.specs.State.{State, IsSoundState}
use Rattle.log_laws.specs.Groups.{MayCome, HasRoomBehind}
use Rattle.log_laws.specs.Recovery.{KeepsStanding}
use Rattle.plan_records.specs.Passing.{inserted, renumbered, Passes}

-- s with u at the place of its number, and this room
abbrev pub with_one : State → Record → (ℕ → ℕ) → State
with_one s u room = record { log = inserted u s.log; words = s.words; room = room }

abbrev pub with_all : State → List Record → (ℕ → ℕ) → State
with_all s [] room = record { log = s.log; words = s.words; room = room }
with_all s (u ∷ us) room = with_all (with_one s u room) us room

-- the newer records that are there may be there before u, and as the last one, with the number top, it might come
pub record MayComeAt (shape : Shape) (t q top : ℕ) (s : State) (u : Record) : Type 0 where
  pub gate : u.lsn ≢ 0
  pub within : u.lsn ≤ top
  pub passes : Passes s.log u
  pub comes : MayCome shape t q top s (renumbered top u)

-- Each of them may where those before it are there. The list has the one that comes first at its head, and top is above all numbers.
abbrev pub MayAllComeAt : Shape → ℕ → ℕ → ℕ → (ℕ → ℕ) → State → List Record → Type 0
MayAllComeAt shape t q top room s [] = Unit {0}
MayAllComeAt shape t q top room s (u ∷ us) = MayComeAt shape t q top s u × MayAllComeAt shape t q top room (with_one s u room) us

-- The state with all of them is sound, with the standing values before, where the room that is left is enough.
abbrev pub UpdatesComeAtOnce : Type 0
UpdatesComeAtOnce = (shape : Shape) (t q top : ℕ) (s : State) (u : Record) (us : List Record) (room : ℕ → ℕ) → IsSoundState shape s →
    MayAllComeAt shape t q top room s (u ∷ us) → HasRoomBehind shape t q top s (length (u ∷ us)) room →
    IsSoundState shape (with_all s (u ∷ us) room) × KeepsStanding shape.policy s (with_all s (u ∷ us) room)
