-- Updates of a transaction that come at once, as those of a bucket that comes into the chain with all its records: an image has all of them or none.
use Rattle.std.specs.Prelude.{◌≡◌, ◌≢◌, ℕ, ◌+◌, ◌<◌, ◌≤◌, ◌^◌, if◌then◌else◌, List, [], ◌∷◌, length}
use Rattle.persist_model.specs.Records.{Record, Log, IsAmong, IsUpdate}
use Rattle.persist_model.specs.Shape.{Shape, part_of}
use Rattle.persist_model.specs.ImageRecords.{IsWellFormed}
use Rattle.persist_model.specs.Need.{has_of, need_in}
use Rattle.persist_model.specs.State.{State, total_need, IsSoundState}
use Rattle.log_laws.specs.Moves.{IsOfRunning, MayName, MayUpdate}
use Rattle.log_laws.specs.Recovery.{grown, KeepsStanding}

-- The update u of the transaction t may come in the part q, with a number above all but not above top; of room and of the numbers that are
-- left nothing is said.
pub record MayCome (shape : Shape) (t q top : ℕ) (s : State) (u : Record) : Type 0 where
  pub is : IsUpdate u
  pub own : u.transaction ≡ t
  pub here : part_of shape u.at ≡ q
  pub formed : IsWellFormed shape u
  pub gate : u.lsn ≢ 0
  pub above : (x : Record) → IsAmong s.log x → x.lsn < u.lsn
  pub within : u.lsn ≤ top
  pub running : IsOfRunning shape s.log u
  pub free : MayName s.log u
  pub may : MayUpdate shape.policy s u

-- Each of them may where those before it are there. The list has the one that comes first at its head.
abbrev pub MayComeAll : Shape → ℕ → ℕ → ℕ → (ℕ → ℕ) → State → List Record → Type 0
MayComeAll shape t q top room s [] = Unit {0}
MayComeAll shape t q top room s (u ∷ us) = MayCome shape t q top s u × MayComeAll shape t q top room (grown s u room) us

-- s with all of them, and this room
abbrev pub grown_all : State → List Record → (ℕ → ℕ) → State
grown_all s [] room = record { log = s.log; words = s.words; room = room }
grown_all s (u ∷ us) room = grown_all (grown s u room) us room

-- Each of n updates wants a cell for its compensation behind it, and the first record of a transaction 2 more.
abbrev pub cells_behind : ℕ → Log → ℕ → ℕ
cells_behind t log n = if has_of t log then n else n + 2

-- The room that is left behind n updates is enough, and so are the numbers above top. The room may have fallen in the part q by more than their number, as where a chain's last bucket had cells left.
pub record HasRoomBehind (shape : Shape) (t q top : ℕ) (s : State) (n : ℕ) (room : ℕ → ℕ) : Type 0 where
  pub inside : q < shape.partitions
  pub here : need_in (part_of shape) q s.log + cells_behind t s.log n ≤ room q
  pub checkpoint_here : shape.policy ≡ 2 → q ≡ 0 → need_in (part_of shape) q s.log + cells_behind t s.log n + 1 ≤ room q
  pub checkpoint_elsewhere : shape.policy ≡ 2 → q ≢ 0 → need_in (part_of shape) 0 s.log + 1 ≤ room 0
  pub elsewhere : (p : ℕ) → p ≢ q → s.room p ≤ room p
  pub numbers : top + total_need (part_of shape) shape.partitions s.log + cells_behind t s.log n + 1 ≤ 2 ^ 63

-- Then the state with all of them is sound, with the standing values before.
abbrev pub GroupsKeep : Type 0
GroupsKeep = (shape : Shape) (t q top : ℕ) (s : State) (u : Record) (us : List Record) (room : ℕ → ℕ) → IsSoundState shape s → MayComeAll shape t q top room s (u ∷ us) →
    HasRoomBehind shape t q top s (length (u ∷ us)) room → IsSoundState shape (grown_all s (u ∷ us) room) × KeepsStanding shape.policy s (grown_all s (u ∷ us) room)
