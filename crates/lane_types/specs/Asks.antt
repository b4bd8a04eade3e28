-- What an ask does to the lane's whole face, and why it is refused.
use Rattle.std.specs.Prelude.{◌≡◌, ◌≢◌, ℕ, ◌+◌, ◌*◌, ◌<◌, Bool, true, false, ◌&&◌, List, [], ◌∷◌, length, Option, Some, None}
use Rattle.lane_traits.specs.declared.draft.WordWrite.{WordWrite}
use Rattle.lane_types.specs.declared.call.Call.{Call}
use Rattle.lane_types.specs.declared.call.Call.TheVariants.{Begin, Read, Write, Take, Give, Commit, Abort, Checkpoint, Batch, Savepoint, RollbackTo}
use Rattle.lane_types.specs.declared.call.Phase.{Phase}
use Rattle.lane_types.specs.declared.call.Phase.TheVariants.{Out, In, Calling}
use Rattle.lane_types.specs.declared.call.Refusal.{Refusal}
use Rattle.lane_types.specs.declared.call.Refusal.TheVariants.{WrongPhase, NotHeld, LogFull, HeapFull, NoMemory}
use Rattle.lane_types.specs.declared.face.Tally.{Tally}
use Rattle.lane_types.specs.Heaps.{Holding, has_bit}
use Rattle.lane_types.specs.Faces.{WholeFace, more, with_tally}

-- the phase that the call asks for
abbrev pub wanted : {E : Type 0} → Call E → Phase
wanted (Begin set) = Out
wanted (Read a) = In
wanted (Write a v) = In
wanted (Take s) = In
wanted (Give b) = In
wanted (Commit deed) = In
wanted Abort = In
wanted Checkpoint = Out
wanted (Batch writes) = In
wanted Savepoint = In
wanted (RollbackTo n) = In

abbrev pub is_there : Option ℕ → Bool
is_there None = false
is_there (Some n) = true

abbrev pub has_word : Holding → ℕ → Bool
has_word held a = is_there (held.word a)

abbrev pub has_all : Holding → List WordWrite → Bool
has_all held [] = true
has_all held (w ∷ writes) = has_word held w.address && has_all held writes

-- what the call names is held
abbrev pub holds : {E : Type 0} → WholeFace E → Call E → Bool
holds f (Begin set) = true
holds f (Read a) = has_word f.words a
holds f (Write a v) = has_word f.words a
holds f (Take s) = has_bit f.face.held s
holds f (Give b) = is_there (f.words.owner b)
holds f (Commit deed) = true
holds f Abort = true
holds f Checkpoint = true
holds f (Batch writes) = has_all f.words writes
holds f Savepoint = true
holds f (RollbackTo n) = true

-- The call is asked in its phase and names nothing that isn't held.
pub record Fits {E : Type 0} (f : WholeFace E) (call : Call E) : Type 0 where
  pub phase : f.face.phase ≡ wanted call
  pub held : holds f call ≡ true

-- what the call adds to the tally's cells
abbrev pub cells_of : {E : Type 0} → Call E → ℕ
cells_of (Begin set) = 2
cells_of (Read a) = 0
cells_of (Write a v) = 2
cells_of (Take s) = 2
cells_of (Give b) = 1
cells_of (Commit deed) = 0
cells_of Abort = 0
cells_of Checkpoint = 0
cells_of (Batch writes) = 2 * length writes + 16
cells_of Savepoint = 0
cells_of (RollbackTo n) = 0

abbrev pub checkpoints_of : {E : Type 0} → Call E → ℕ
checkpoints_of Checkpoint = 1
checkpoints_of _ = 0

abbrev pub takes_of : {E : Type 0} → Call E → ℕ
takes_of (Take s) = 1
takes_of _ = 0

abbrev pub accepted_tally : {E : Type 0} → Call E → Tally → Tally
accepted_tally call tally = record tally {
  cells = more tally.cells (cells_of call);
  checkpoints = more tally.checkpoints (checkpoints_of call);
  takes = more tally.takes (takes_of call);
}

abbrev pub refused_tally : {E : Type 0} → Call E → Refusal → Tally → Tally
refused_tally call (WrongPhase phase) tally = tally
refused_tally call (NotHeld owner) tally = tally
refused_tally call (LogFull room need) tally = record tally { cells = more tally.cells (cells_of call); full = true }
refused_tally call HeapFull tally = record tally { cells = more tally.cells (cells_of call); takes = more tally.takes 1; heap = true }
refused_tally call NoMemory tally = tally

-- the call is in progress
abbrev pub asked : {E : Type 0} → Call E → WholeFace E → WholeFace E
asked call f = record f { face = record f.face { phase = Calling; tally = accepted_tally call f.face.tally }; call = Some call }

-- only the tally changes
abbrev pub refused : {E : Type 0} → Call E → Refusal → WholeFace E → WholeFace E
refused call refusal f = with_tally (refused_tally call refusal f.face.tally) f

-- the calls that may find the log full
abbrev pub is_logged : {E : Type 0} → Call E → Bool
is_logged (Write a v) = true
is_logged (Take s) = true
is_logged (Give b) = true
is_logged (Batch writes) = true
is_logged _ = false

abbrev pub is_take : {E : Type 0} → Call E → Bool
is_take (Take s) = true
is_take _ = false

pub record WhyPhase {E : Type 0} (phase : Phase) (f : WholeFace E) (call : Call E) : Type 0 where
  pub is : f.face.phase ≡ phase
  pub other : phase ≢ wanted call

pub record WhyNotHeld {E : Type 0} (f : WholeFace E) (call : Call E) : Type 0 where
  pub phase : f.face.phase ≡ wanted call
  pub not_held : holds f call ≡ false

pub record WhyFull {E : Type 0} (room need : ℕ) (f : WholeFace E) (call : Call E) : Type 0 where
  pub fits : Fits f call
  pub logged : is_logged call ≡ true
  pub short : room < need

pub record WhyHeapFull {E : Type 0} (f : WholeFace E) (call : Call E) : Type 0 where
  pub fits : Fits f call
  pub takes : is_take call ≡ true

-- why the call was refused so
abbrev pub Why : {E : Type 0} → Refusal → WholeFace E → Call E → Type 0
Why (WrongPhase phase) f call = WhyPhase phase f call
Why (NotHeld owner) f call = WhyNotHeld f call
Why (LogFull room need) f call = WhyFull room need f call
Why HeapFull f call = WhyHeapFull f call
Why NoMemory f call = Fits f call
