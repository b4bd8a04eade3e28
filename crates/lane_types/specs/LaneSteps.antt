-- What a step does to the lane's whole face, row by row of its answer.
use Rattle.std.specs.Prelude.{◌≡◌, ℕ, ◌+◌, ◌<◌, Bool, true, false, ◌&&◌, ◌==◌, if◌then◌else◌, List, [], ◌∷◌, ◌++◌, Option, Some, None}
use Rattle.lane_traits.specs.declared.draft.WordWrite.{WordWrite}
use Rattle.lane_types.specs.declared.call.Call.{Call}
use Rattle.lane_types.specs.declared.call.Call.TheVariants.{Begin, Read, Write, Take, Give, Commit, Abort, Checkpoint, Batch, Savepoint, RollbackTo}
use Rattle.lane_types.specs.declared.call.Phase.TheVariants.{Calling}
use Rattle.lane_types.specs.declared.call.Reply.{Reply}
use Rattle.lane_types.specs.declared.call.Reply.TheVariants.{Begun, Word, Written, Block, Given, Committed, Aborted, Checkpointed, Saved, RolledBack}
use Rattle.lane_types.specs.declared.call.Stepped.{Stepped}
use Rattle.lane_types.specs.declared.call.Stepped.TheVariants.{Moved, Answered, Waiting, Stopped, Idle}
use Rattle.lane_types.specs.declared.face.Entry.{Entry}
use Rattle.lane_types.specs.Deeds.{Deeds}
use Rattle.lane_types.specs.Heaps.{Heap, Holding, is_data, block_of, holding_of}
use Rattle.lane_types.specs.Histories.{Lawful, HaveSorts, fold}
use Rattle.lane_types.specs.Faces.{WholeFace, stepped, answered, with_words, let_go, entering}
use Rattle.lane_types.specs.Asks.{has_word}

-- ---- changes of what is held

-- one word has another value
abbrev pub put_held : ℕ → ℕ → Holding → Holding
put_held a v held = record held { word = λ b. if b == a then Some v else held.word b }

abbrev pub put_all_held : List WordWrite → Holding → Holding
put_all_held [] held = held
put_all_held (w ∷ writes) held = put_all_held writes (put_held w.address w.value held)

abbrev pub is_in_block : Heap → ℕ → ℕ → Bool
is_in_block heap block a = is_data heap a && (block_of heap a == block)

-- the block's data words are there in addition
abbrev pub with_block : Heap → ℕ → ℕ → (ℕ → ℕ) → Holding → Holding
with_block heap s block values held = record held {
  word = λ a. if is_in_block heap block a then Some (values a) else held.word a;
  owner = λ b. if b == block then Some s else held.owner b;
}

-- the block's data words are gone, and it is listed as given
abbrev pub without_block : Heap → ℕ → Holding → Holding
without_block heap block held = record {
  word = λ a. if is_in_block heap block a then None else held.word a;
  owner = λ b. if b == block then None else held.owner b;
  given = λ b. if b == block then true else held.given b;
}

-- the same words, with any values
pub record HasSamePlaces (held other : Holding) : Type 0 where
  pub words : (a : ℕ) → has_word other a ≡ has_word held a
  pub owner : other.owner ≡ held.owner
  pub given : other.given ≡ held.given

-- ---- the rows of an answer

abbrev pub begun_face : {E : Type 0} → ℕ → ℕ → Holding → WholeFace E → WholeFace E
begun_face n set held f = record (answered (Begun n) f) {
  face = record (answered (Begun n) f).face { held = set; begun = f.face.begun + 1 };
  words = held;
  first = held;
}

-- The transaction's words are those of a lawful history.
pub record BeginStep {E : Type 0} (deeds : Deeds E) (n : ℕ) (f g : WholeFace E) : Type 0 where
  pub set : ℕ
  pub call : f.call ≡ Some (Begin set)
  pub history : List (Entry E)
  pub lawful : ∥ Lawful deeds f.base.heap history ∥₁
  pub sorts : HaveSorts deeds f.base.sorts history
  pub next : g ≡ begun_face n set (holding_of set (fold f.base.heap history)) f

pub record ReadStep {E : Type 0} (v : ℕ) (f g : WholeFace E) : Type 0 where
  pub at : ℕ
  pub call : f.call ≡ Some (Read at)
  pub word : f.words.word at ≡ Some v
  pub next : g ≡ answered (Word v) f

-- what a Write or a Batch writes
pub data IsWriting {E : Type 0} : Option (Call E) → List WordWrite → Type 0 where
  one : {a v : ℕ} → IsWriting (Some (Write a v)) (record { address = a; value = v } ∷ [])
  many : {writes : List WordWrite} → IsWriting (Some (Batch writes)) writes

pub record WriteStep {E : Type 0} (f g : WholeFace E) : Type 0 where
  pub writes : List WordWrite
  pub call : IsWriting f.call writes
  pub next : g ≡ with_words (put_all_held writes f.words) (answered Written f)

-- The block is one that the words neither had nor listed as given.
pub record TakeStep {E : Type 0} (block : ℕ) (f g : WholeFace E) : Type 0 where
  pub structure : ℕ
  pub call : f.call ≡ Some (Take structure)
  pub inside : block < f.base.heap.blocks
  pub new : f.words.owner block ≡ None
  pub not_given : f.words.given block ≡ false
  pub values : ℕ → ℕ
  pub next : g ≡ with_words (with_block f.base.heap structure block values f.words) (answered (Block block) f)

pub record GiveStep {E : Type 0} (f g : WholeFace E) : Type 0 where
  pub block : ℕ
  pub call : f.call ≡ Some (Give block)
  pub next : g ≡ with_words (without_block f.base.heap block f.words) (answered Given f)

-- the entry of the commit in progress
pub record IsEntryOf {E : Type 0} (f : WholeFace E) (e : Entry E) : Type 0 where
  pub lane : e.lane ≡ f.face.lane
  pub number : f.face.begun ≡ e.number + 1
  pub call : f.call ≡ Some (Commit e.deed)
  pub new : f.entered ≡ false

-- The entry joined before, or it does now.
pub data CommitStep {E : Type 0} (f g : WholeFace E) : Type 0 where
  after_entering : (deed : E) → f.call ≡ Some (Commit deed) → f.entered ≡ true → g ≡ let_go (answered Committed f) → CommitStep f g
  entering_now : (e : Entry E) → IsEntryOf f e → g ≡ let_go (answered Committed (entering e f)) → CommitStep f g

pub record AbortStep {E : Type 0} (f g : WholeFace E) : Type 0 where
  pub call : f.call ≡ Some Abort
  pub next : g ≡ let_go (answered Aborted f)

pub record CheckpointStep {E : Type 0} (f g : WholeFace E) : Type 0 where
  pub call : f.call ≡ Some Checkpoint
  pub next : g ≡ answered Checkpointed f

-- the words as they are become a savepoint
abbrev pub saved_face : {E : Type 0} → ℕ → WholeFace E → WholeFace E
saved_face n f = record (answered (Saved n) f) {
  face = record (answered (Saved n) f).face { live = n + 1 };
  points = f.points ++ f.words ∷ [];
}

pub record SaveStep {E : Type 0} (n : ℕ) (f g : WholeFace E) : Type 0 where
  pub call : f.call ≡ Some Savepoint
  pub number : n ≡ f.face.live
  pub next : g ≡ saved_face n f

abbrev pub rolled_back_face : {E : Type 0} → ℕ → Holding → List Holding → WholeFace E → WholeFace E
rolled_back_face n held points f = record (answered RolledBack f) {
  face = record (answered RolledBack f).face { live = n + 1 };
  words = held;
  points = points;
}

-- The words are as at the savepoint, and the savepoints above it are gone.
pub record RollbackStep {E : Type 0} (f g : WholeFace E) : Type 0 where
  pub point : ℕ
  pub below : List Holding
  pub here : Holding
  pub above : List Holding
  pub call : f.call ≡ Some (RollbackTo point)
  pub points : f.points ≡ below ++ here ∷ above
  pub next : g ≡ rolled_back_face point here (below ++ here ∷ []) f

abbrev pub Answers : {E : Type 0} → Deeds E → Reply → WholeFace E → WholeFace E → Type 0
Answers deeds (Begun n) f g = BeginStep deeds n f g
Answers deeds (Word v) f g = ReadStep v f g
Answers deeds Written f g = WriteStep f g
Answers deeds (Block b) f g = TakeStep b f g
Answers deeds Given f g = GiveStep f g
Answers deeds Committed f g = CommitStep f g
Answers deeds Aborted f g = AbortStep f g
Answers deeds Checkpointed f g = CheckpointStep f g
Answers deeds (Saved n) f g = SaveStep n f g
Answers deeds RolledBack f g = RollbackStep f g

-- ---- the rows of a step without an answer

-- the calls that take back what the transaction wrote
abbrev pub takes_back : {E : Type 0} → Option (Call E) → Bool
takes_back (Some Abort) = true
takes_back (Some (RollbackTo n)) = true
takes_back _ = false

-- The call goes on, and the face stays; or the entry of a commit joins; or a word of a batch has its value; or an abort or
-- a way back to a savepoint leaves the values open.
pub data Moves {E : Type 0} (f g : WholeFace E) : Type 0 where
  going_on : g ≡ stepped Moved f → Moves f g
  entering_on : (e : Entry E) → IsEntryOf f e → g ≡ stepped Moved (entering e f) → Moves f g
  writing_on : (before after : List WordWrite) (w : WordWrite) → f.call ≡ Some (Batch (before ++ w ∷ after)) →
      g ≡ with_words (put_held w.address w.value f.words) (stepped Moved f) → Moves f g
  taking_back : (held : Holding) → takes_back f.call ≡ true → HasSamePlaces f.words held → g ≡ with_words held (stepped Moved f) → Moves f g

-- the answer leaves the face of a call in progress
pub record StepsOn {E : Type 0} (answer : Stepped) (f g : WholeFace E) : Type 0 where
  pub calling : f.face.phase ≡ Calling
  pub next : g ≡ stepped answer f

pub record AnswersCall {E : Type 0} (deeds : Deeds E) (reply : Reply) (f g : WholeFace E) : Type 0 where
  pub calling : f.face.phase ≡ Calling
  pub row : Answers deeds reply f g

pub record MovesCall {E : Type 0} (f g : WholeFace E) : Type 0 where
  pub calling : f.face.phase ≡ Calling
  pub row : Moves f g

pub record Idles {E : Type 0} (f g : WholeFace E) : Type 0 where
  pub call : f.call ≡ None
  pub next : g ≡ stepped Idle f

abbrev pub LaneStep : {E : Type 0} → Deeds E → Stepped → WholeFace E → WholeFace E → Type 0
LaneStep deeds Idle f g = Idles f g
LaneStep deeds Stopped f g = g ≡ stepped Stopped f
LaneStep deeds (Waiting what holder) f g = StepsOn (Waiting what holder) f g
LaneStep deeds Moved f g = MovesCall f g
LaneStep deeds (Answered reply) f g = AnswersCall deeds reply f g
