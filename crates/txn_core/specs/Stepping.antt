-- What a step of one lane does to the faces, to the device's counts, and to the state that a world keeps.
use Rattle.std.specs.Prelude.{◌≡◌, ◌≢◌, ◌⊎◌, ℕ, ◌%◌, true, length, Option, Some}
use Rattle.persist_model.specs.Region.{Region, newest}
use Rattle.lane_traits.specs.Device.{Counts, counted}
use Rattle.region_layout.specs.declared.layout.Layout.{Layout}
use Rattle.region_layout.specs.Layout.{layout_shape, IsDataWord}
use Rattle.lane_types.specs.declared.call.Stepped.{Stepped}
use Rattle.lane_types.specs.declared.call.Stepped.TheVariants.{Moved, Answered, Waiting, Stopped, Idle}
use Rattle.lane_types.specs.Deeds.{Deeds}
use Rattle.lane_types.specs.Faces.{Base}
use Rattle.lane_book.specs.declared.book.Book.{Book}
use Rattle.lane_book.specs.Steps.{IsStep}
use Rattle.lane_book.specs.FacesOf.{faces_of, lane_at}
use Rattle.lane_book.specs.Locks.{IsLeastHeld}
use Rattle.lane_book.specs.declared.lane.Doing.TheVariants as Doing
use Rattle.lane_types.specs.declared.call.What.TheVariants as What
use Rattle.log_keeper.specs.declared.slots.TheConstants.{NOBODY}
use Rattle.log_keeper.specs.Keeper.{keeping_of}
use Rattle.log_keeper.specs.declared.keeper.LogKeeper.{LogKeeper}
use Rattle.txn_core.specs.Latched.{Latches}
use Rattle.txn_core.specs.Running.{one_made}
use Rattle.txn_core.specs.Phases.{ArePhased}
use Rattle.txn_core.specs.States.{IsKept}

-- The events that come with an answer: one with Moved, one at most with the answer to a call, and none else. A stop is counted once at most.
abbrev pub HasMade : Stepped → Counts → Counts → Type 0
HasMade Moved counts later = later ≡ one_made counts
HasMade (Answered reply) counts later = (later ≡ counts) ⊎ (later ≡ one_made counts)
HasMade (Waiting what holder) counts later = later ≡ counts
HasMade Stopped counts later = (later ≡ counts) ⊎ (later ≡ record counts { stopped = counted counts.stopped })
HasMade Idle counts later = later ≡ counts

-- The partition's latch is another lane's.
pub record IsLatched (layout : Layout) (keeper : LogKeeper) (l p holder : ℕ) : Type 0 where
  pub part : p ≡ l % layout.partitions
  pub held : (keeping_of keeper).holder (l % layout.partitions) ≡ holder
  pub some : holder ≢ NOBODY
  pub other : holder ≢ l

-- The lane would begin with structures of which this is the least that is held, by that lane.
pub record WaitsForStructure {E : Type 0} (book : Book E) (l s holder : ℕ) : Type 0 where
  pub set : ℕ
  pub call : (lane_at book l).doing ≡ Doing.Begin set
  pub least : IsLeastHeld book set s holder

-- Why it is answered so: it waits for what another lane holds; the device is at its budget, or a step was told so before; no call is in progress.
abbrev pub IsCause : {E : Type 0} → Layout → Book E → LogKeeper → Counts → ℕ → Stepped → Type 0
IsCause layout book keeper counts l Moved = Unit {0}
IsCause layout book keeper counts l (Answered reply) = Unit {0}
IsCause layout book keeper counts l (Waiting (What.Latch p) holder) = IsLatched layout keeper l p holder
IsCause layout book keeper counts l (Waiting (What.Structure s) holder) = WaitsForStructure book l s holder
IsCause layout book keeper counts l Stopped = (counts.events ≡ counts.budget) ⊎ (book.stopped ≡ true)
IsCause layout book keeper counts l Idle = (lane_at book l).doing ≡ Doing.Nothing

-- What becomes of the words that a read finds: the touched word is a data word of the heap that has another value, and every other data word stays.
pub record TouchesWord (layout : Layout) (region behind : Region) (touched : Option ℕ) : Type 0 where
  pub size : behind.size ≡ region.size
  pub data_word : (a : ℕ) → touched ≡ Some a → IsDataWord (layout_shape layout) a
  pub changed : (a : ℕ) → touched ≡ Some a → newest (behind.at a) ≢ newest (region.at a)
  pub others : (a : ℕ) → IsDataWord (layout_shape layout) a → touched ≢ Some a → newest (behind.at a) ≡ newest (region.at a)

-- From one state to the next: it is kept, whatever stood where the world began; the lane's face changes by the row of the answer and no other does;
-- so many events are made; the phases stay those of the calls; the answer has its cause; lanes are as many; at most the touched one of the heap's data
-- words has another value; and of the latches at most the one of the lane's partition is another.
pub record StepsWorld {E : Type 0} (deeds : Deeds E) (layout : Layout) (book later : Book E) (keeper kept : LogKeeper) (region behind : Region) (spare left : ℕ) (counts after : Counts) (lane : ℕ) (answer : Stepped) : Type 0 where
  pub stays : (base : Base) → IsKept deeds layout base book keeper region spare counts → IsKept deeds layout base later kept behind left after
  pub face : (base : Base) → IsKept deeds layout base book keeper region spare counts → IsStep deeds (faces_of base book) (faces_of base later) lane answer
  pub made : HasMade answer counts after
  pub phased : ArePhased book → ArePhased later
  pub cause : IsCause layout book keeper counts lane answer
  pub count : length later.lanes.items ≡ length book.lanes.items
  pub touches : (base : Base) → IsKept deeds layout base book keeper region spare counts → TouchesWord layout region behind later.touched
  pub latches : Latches layout book later keeper kept lane
