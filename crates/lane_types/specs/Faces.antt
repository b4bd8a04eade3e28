-- The whole face of a lane: what a program can read of it, and what contracts alone see.
use Rattle.std.specs.Prelude.{ℕ, ◌+◌, ◌-◌, ◌^◌, min, Bool, true, false, ◌||◌, List, [], ◌++◌, ◌∷◌, Option, Some, None}
use Rattle.lane_types.specs.declared.call.Call.{Call}
use Rattle.lane_types.specs.declared.call.Phase.{Phase}
use Rattle.lane_types.specs.declared.call.Phase.TheVariants.{Out, In}
use Rattle.lane_types.specs.declared.call.Reply.{Reply}
use Rattle.lane_types.specs.declared.call.Reply.TheVariants.{Begun, Word, Written, Block, Given, Committed, Aborted, Checkpointed, Saved, RolledBack}
use Rattle.lane_types.specs.declared.call.Stepped.{Stepped}
use Rattle.lane_types.specs.declared.call.Stepped.TheVariants.{Moved, Answered, Waiting, Stopped, Idle}
use Rattle.lane_types.specs.declared.face.Tally.{Tally}
use Rattle.lane_types.specs.declared.face.Face.{Face}
use Rattle.lane_types.specs.declared.face.Entry.{Entry}
use Rattle.lane_traits.specs.Device.{Counts}
use Rattle.lane_types.specs.Heaps.{Heap, Holding, nothing_held}

-- What stood at the start. No ask and no step changes it.
pub record Base : Type 0 where
  pub sorts : List ℕ
  pub structures : ℕ
  -- words 0 to 31 of the region
  pub header : List ℕ
  pub heap : Heap
  pub counts : Counts

pub record WholeFace (E : Type 0) : Type 0 where
  pub face : Face
  pub base : Base
  -- what the held structures own: now, at the begin, and at each savepoint
  pub words : Holding
  pub first : Holding
  pub points : List Holding
  -- the lane's entries in the history
  pub mine : List (Entry E)
  -- the call in progress, and whether it is a commit whose entry is among these
  pub call : Option (Call E)
  pub entered : Bool

-- so much more, and at the largest number of 64 bits no more
abbrev pub more : ℕ → ℕ → ℕ
more n k = min (n + k) (2 ^ 64 - 1)

abbrev pub is_stopped : Stepped → Bool
is_stopped Moved = false
is_stopped (Answered reply) = false
is_stopped (Waiting what holder) = false
is_stopped Stopped = true
is_stopped Idle = false

-- the tally after a step
abbrev pub stepped_tally : Stepped → Tally → Tally
stepped_tally answer tally = record tally { steps = more tally.steps 1; last = Some answer; stopped = tally.stopped || is_stopped answer }

abbrev pub with_tally : {E : Type 0} → Tally → WholeFace E → WholeFace E
with_tally tally f = record f { face = record f.face { tally = tally } }

-- only the tally changes
abbrev pub stepped : {E : Type 0} → Stepped → WholeFace E → WholeFace E
stepped answer f = with_tally (stepped_tally answer f.face.tally) f

abbrev pub phase_after : Reply → Phase
phase_after (Begun n) = In
phase_after (Word v) = In
phase_after Written = In
phase_after (Block b) = In
phase_after Given = In
phase_after Committed = Out
phase_after Aborted = Out
phase_after Checkpointed = Out
phase_after (Saved n) = In
phase_after RolledBack = In

-- the call ends with this reply
abbrev pub answered : {E : Type 0} → Reply → WholeFace E → WholeFace E
answered reply f = record f {
  face = record f.face { phase = phase_after reply; answer = Some reply; tally = stepped_tally (Answered reply) f.face.tally };
  call = None;
  entered = false;
}

abbrev pub with_words : {E : Type 0} → Holding → WholeFace E → WholeFace E
with_words held f = record f { words = held }

-- nothing is held any more
abbrev pub let_go : {E : Type 0} → WholeFace E → WholeFace E
let_go f = record f { face = record f.face { held = 0; live = 0 }; words = nothing_held; first = nothing_held; points = [] }

-- the entry joins the lane's
abbrev pub entering : {E : Type 0} → Entry E → WholeFace E → WholeFace E
entering e f = record f { face = record f.face { commits = f.face.commits + 1 }; mine = f.mine ++ e ∷ []; entered = true }
