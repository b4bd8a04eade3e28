-- How the keeper goes on, as laws of its plain data.
use Rattle.std.specs.Prelude.{◌≡◌, ◌≢◌, ℕ, ◌+◌, ◌<◌, ◌≤◌, List, [], ◌∷◌, length, Some, slice_get}
use Rattle.persist_model.specs.declared.event.Event.{Event}
use Rattle.persist_model.specs.declared.event.Event.TheVariants.{Store, PStore, WriteBack, Fence}
use Rattle.persist_model.specs.Region.{Words, Region, MayStand, after}
use Rattle.persist_model.specs.Progress.{AreSettledAt}
use Rattle.persist_model.specs.Records.{Record, Log, IsAmong}
use Rattle.persist_model.specs.Shape.{Shape, heap, heap_words, log_words, words_of_shape}
use Rattle.persist_model.specs.Chain.{view}
use Rattle.persist_model.specs.State.{State, IsSoundState}
use Rattle.persist_model.specs.Sound.{HasState, room_of}
use Rattle.log_laws.specs.Closing.{MayClear}
use Rattle.log_laws.specs.Recovering.{with_heap}
use Rattle.atomic_list.specs.declared.plans.Remove.{Remove}
use Rattle.atomic_list.specs.Rules.{IsAtRest}
use Rattle.region_layout.specs.Layout.{IsAllowed}
use Rattle.bucket_log.specs.declared.append.Place.{Place}
use Rattle.bucket_log.specs.Words.{IsPartWord}
use Rattle.bucket_log.specs.Plans.{place_address}
use Rattle.bucket_log.specs.Places.{IsNextPlace}
use Rattle.bucket_log.specs.Appends.{chain_behind}
use Rattle.log_clearing.specs.Closed.{AreGroups, IsListed}
use Rattle.log_clearing.specs.Clearing.{AreDeferred}
use Rattle.log_clearing.specs.Removals.{CanDrop, with_room, more_room}
use Rattle.plan_records.specs.Appends.{with_record}
use Rattle.plan_records.specs.Passing.{inserted}
use Rattle.log_keeper.specs.declared.slots.TheConstants.{NOBODY}
use Rattle.log_keeper.specs.Parts.{LogPart, rests, appends, closes, takes_back, drops, Running, words_behind, CanRun}
use Rattle.log_keeper.specs.Ledger.{Stage, Drawn, Stored, Settled, Noted, AreNewestFirst, IsUnsettled, settled_log, with_stage, left_open, without}
use Rattle.log_keeper.specs.Making.{settled_by, made_part}
use Rattle.log_keeper.specs.Logged.{Keeping, with_chain, advanced, ended, beginning, latched, waiting, plan_in, AreTracked, IsReached, IsLoggedAt, IsPassing, IsAlone}

-- ---- events

-- an event elsewhere
abbrev pub EventsPass : Type 0
EventsPass = (shape : Shape) (base : Words) (s : State) (chains : ℕ → List ℕ) (k : Keeping) (region : Region) (by : ℕ) (e : Event) →
    IsPassing shape k by e → IsLoggedAt shape base s chains k region → IsLoggedAt shape base s chains k (after region by e)

-- a word of the heap
abbrev pub IsBehindLog : Shape → Event → Type 0
IsBehindLog shape (Store a v) = heap shape ≤ a
IsBehindLog shape (PStore a v) = heap shape ≤ a
IsBehindLog shape (WriteBack a) = heap shape ≤ a
IsBehindLog shape Fence = ⊥

-- A store or a write back in the heap passes, and so does a fence of a lane that no partition waits for.
abbrev pub HeapEventsPass : Type 0
HeapEventsPass = (shape : Shape) (k : Keeping) (by : ℕ) (e : Event) → IsAllowed shape → IsBehindLog shape e → IsPassing shape k by e

abbrev pub FencesPass : Type 0
FencesPass = (shape : Shape) (k : Keeping) (by : ℕ) → by < NOBODY → ((p : ℕ) → p < shape.partitions → waiting k p ≢ by) → IsPassing shape k by Fence

-- the next event of a part, by its holder
abbrev pub PartsGoOn : Type 0
PartsGoOn = (shape : Shape) (base : Words) (s : State) (chains : ℕ → List ℕ) (k : Keeping) (region : Region) (p : ℕ) (e : Event) →
    p < shape.partitions → k.holder p < NOBODY → IsAlone shape k p → slice_get (plan_in shape k p) (k.runs p).made ≡ Some e →
    IsLoggedAt shape base s chains k region → IsLoggedAt shape base s chains (advanced p k) (after region (k.holder p) e)

-- ---- parts

-- A part begins in a partition where nothing is under way. The ledger may have records more that aren't settled.
abbrev pub PartsBegin : Type 0
PartsBegin = (shape : Shape) (base : Words) (s : State) (chains : ℕ → List ℕ) (k : Keeping) (region : Region) (p lane : ℕ) (part : LogPart) (ledger : List Noted) →
    p < shape.partitions → (k.runs p).part ≡ rests → CanRun shape p base s (chains p) part → settled_log ledger ≡ settled_log k.ledger →
    IsLoggedAt shape base s chains k region → IsLoggedAt shape base s chains (beginning p lane part ledger k) region

-- A latch is taken or let go where nothing is under way.
abbrev pub LatchesPass : Type 0
LatchesPass = (shape : Shape) (base : Words) (s : State) (chains : ℕ → List ℕ) (k : Keeping) (region : Region) (p lane : ℕ) →
    (k.runs p).part ≡ rests → IsLoggedAt shape base s chains k region → IsLoggedAt shape base s chains (latched p lane k) region

-- Behind a part's last event, which is made as any other, its words settle, and so the keeper's one step does both.
pub record LastEventEnds (shape : Shape) (k : Keeping) (p : ℕ) : Type 0 where
  pub part : ((advanced p k).runs p).part ≡ (k.runs p).part
  pub whole : ((advanced p k).runs p).made ≡ length (plan_in shape (advanced p k) p)
  pub kept : made_part shape p k ≡ ended p (settled_by (k.runs p).part k.ledger) (advanced p k)

abbrev pub LastEventsEnd : Type 0
LastEventsEnd = (shape : Shape) (k : Keeping) (p : ℕ) → (k.runs p).made + 1 ≡ length (plan_in shape k p) → LastEventEnds shape k p

-- Where all events of an append are made, its words are settled, with the record, and the chain behind it.
abbrev pub AppendsSettle : Type 0
AppendsSettle = (shape : Shape) (base : Words) (s : State) (chains : ℕ → List ℕ) (k : Keeping) (region : Region) (p : ℕ) (place : Place) (r : Record) (ledger : List Noted) →
    p < shape.partitions → (k.runs p).part ≡ appends place r → (k.runs p).made ≡ length (plan_in shape k p) →
    ((x : Record) → IsAmong s.log x → x.lsn ≢ r.lsn) → settled_log ledger ≡ inserted r (settled_log k.ledger) →
    IsLoggedAt shape base s chains k region →
    let later = words_behind shape p (appends place r) base in
    IsLoggedAt shape later (with_heap (with_record p s r) (heap_words shape later)) (with_chain p (chain_behind place (chains p)) chains) (ended p ledger k) region

-- Where all events of a group of a closing are made, its words are settled, without the listed records, and with no less room.
pub record HasClosed (shape : Shape) (base : Words) (s : State) (chains : ℕ → List ℕ) (k : Keeping) (region : Region) (log : Log) : Type 0 where
  pub state : State
  pub log_is : state.log ≡ log
  pub no_less : (p : ℕ) → s.room p ≤ state.room p
  pub logged : IsLoggedAt shape base state chains k region

abbrev pub GroupsSettle : Type 0
GroupsSettle = (shape : Shape) (base : Words) (s : State) (chains : ℕ → List ℕ) (k : Keeping) (region : Region) (p : ℕ) (gates ends checkpoints : List ℕ) (ledger : List Noted) →
    p < shape.partitions → (k.runs p).part ≡ closes gates ends checkpoints → (k.runs p).made ≡ length (plan_in shape k p) →
    settled_log ledger ≡ left_open gates ends checkpoints (settled_log k.ledger) → IsLoggedAt shape base s chains k region →
    HasClosed shape (words_behind shape p (closes gates ends checkpoints) base) s chains (ended p ledger k) region (left_open gates ends checkpoints s.log)

-- So it is where all events of a closing of deletions that are taken back are made.
abbrev pub TakingsBackSettle : Type 0
TakingsBackSettle = (shape : Shape) (base : Words) (s : State) (chains : ℕ → List ℕ) (k : Keeping) (region : Region) (p : ℕ) (gates : List ℕ) (ledger : List Noted) →
    p < shape.partitions → (k.runs p).part ≡ takes_back gates → (k.runs p).made ≡ length (plan_in shape k p) →
    settled_log ledger ≡ left_open gates [] [] (settled_log k.ledger) → IsLoggedAt shape base s chains k region →
    HasClosed shape (words_behind shape p (takes_back gates) base) s chains (ended p ledger k) region (left_open gates [] [] s.log)

-- The state behind a group is sound, where its records may be cleared with some heap words, as those of an image.
abbrev pub GroupsStaySound : Type 0
GroupsStaySound = (shape : Shape) (p : ℕ) (base h : Words) (s x : State) (gates ends checkpoints : List ℕ) → shape.partitions ≤ 3 → HasState shape base s → IsSoundState shape s →
    AreGroups s.log gates ends checkpoints → MayClear shape.policy s.log (heap_words shape h) (IsListed gates ends checkpoints) →
    HasState shape (words_behind shape p (closes gates ends checkpoints) base) x → IsSoundState shape x

-- Nothing is asked of words where deletions are taken back.
abbrev pub TakingsBackStaySound : Type 0
TakingsBackStaySound = (shape : Shape) (p : ℕ) (base : Words) (s x : State) (gates : List ℕ) → shape.partitions ≤ 3 → HasState shape base s → IsSoundState shape s →
    AreDeferred s.log gates → HasState shape (words_behind shape p (takes_back gates) base) x → IsSoundState shape x

-- Where all events of a removal are made, its words are settled, with the cells of a bucket more room, and a chain without the bucket.
pub record HasDropped (shape : Shape) (base : Words) (s : State) (chains : ℕ → List ℕ) (k : Keeping) (region : Region) (p : ℕ) : Type 0 where
  pub chain : List ℕ
  pub logged : IsLoggedAt shape base s (with_chain p chain chains) k region

abbrev pub RemovalsSettle : Type 0
RemovalsSettle = (shape : Shape) (base : Words) (s : State) (chains : ℕ → List ℕ) (k : Keeping) (region : Region) (p : ℕ) (r : Remove) →
    p < shape.partitions → (k.runs p).part ≡ drops r → (k.runs p).made ≡ length (plan_in shape k p) → IsLoggedAt shape base s chains k region →
    let later = words_behind shape p (drops r) base in
    HasDropped shape later (with_room s (more_room p shape.cells s.room) (heap_words shape later)) chains (ended p k.ledger k) region p

-- ---- the beginning

-- a region whose log is settled and at rest, with all records in the ledger settled, and nothing under way
abbrev pub RegionsStart : Type 0
RegionsStart = (shape : Shape) (base : Words) (s : State) (chains : ℕ → List ℕ) (k : Keeping) (region : Region) → region.size ≡ words_of_shape shape → IsAllowed shape →
    HasState shape base s → s.log ≡ settled_log k.ledger → ((p : ℕ) → p < shape.partitions → IsAtRest shape p (view p (log_words shape base)) (chains p)) →
    AreSettledAt (λ a. a < heap shape) base region → ((p : ℕ) → p < shape.partitions → (k.runs p).part ≡ rests) → IsLoggedAt shape base s chains k region

-- ---- what a stop leaves

-- The keeper's region is tracked, for its own runs or others that are the same.
abbrev pub KeepersTrack : Type 0
KeepersTrack = (shape : Shape) (base : Words) (s : State) (chains : ℕ → List ℕ) (k : Keeping) (region : Region) (runs : ℕ → Running) →
    ((p : ℕ) → p < shape.partitions → k.runs p ≡ runs p) → IsLoggedAt shape base s chains k region → AreTracked shape base runs (waiting k) region

-- What a stop leaves of a tracked region is, in each partition, what its part has reached,
abbrev pub TrackedImagesReach : Type 0
TrackedImagesReach = (shape : Shape) (base : Words) (runs : ℕ → Running) (holder : ℕ → ℕ) (region : Region) (i : Words) → IsAllowed shape →
    AreTracked shape base runs holder region → MayStand i region → IsReached shape base runs i

-- and so what it leaves of the keeper's region.
abbrev pub ImagesAreReached : Type 0
ImagesAreReached = (shape : Shape) (base : Words) (s : State) (chains : ℕ → List ℕ) (k : Keeping) (region : Region) (i : Words) →
    IsLoggedAt shape base s chains k region → MayStand i region → IsReached shape base k.runs i

-- So whatever a stop leaves of a partition where nothing is under way is settled, and its list is at rest.
pub record IsAtRestIn (shape : Shape) (base : Words) (chains : ℕ → List ℕ) (p : ℕ) (i : Words) : Type 0 where
  pub words : (a : ℕ) → IsPartWord shape p a → i a ≡ base a
  pub list : IsAtRest shape p (view p (log_words shape i)) (chains p)

abbrev pub RestingPartsAreSettled : Type 0
RestingPartsAreSettled = (shape : Shape) (base : Words) (s : State) (chains : ℕ → List ℕ) (k : Keeping) (region : Region) (i : Words) (p : ℕ) → p < shape.partitions →
    (k.runs p).part ≡ rests → IsLoggedAt shape base s chains k region → MayStand i region → IsAtRestIn shape base chains p i

-- What is read in the words that a stop may leave, as in the newest ones, of a partition where nothing is under way: the next place takes a record,
-- a bucket may be dropped, and the room is that of the settled state, whatever other partitions are in.
pub record ReadsServe (shape : Shape) (base : Words) (s : State) (chain : List ℕ) (p : ℕ) (i : Words) : Type 0 where
  pub append : (place : Place) (r : Record) → IsNextPlace shape p (view p (log_words shape i)) chain place → r.at ≡ place_address place → r.lsn ≢ 0 →
      CanRun shape p base s chain (appends place r)
  pub removal : (r : Remove) → CanDrop shape p (view p (log_words shape i)) r → CanRun shape p base s chain (drops r)
  pub room : room_of shape (log_words shape i) p chain ≡ s.room p

abbrev pub RestingPartsAreRead : Type 0
RestingPartsAreRead = (shape : Shape) (base : Words) (s : State) (chains : ℕ → List ℕ) (k : Keeping) (region : Region) (i : Words) (p : ℕ) → p < shape.partitions →
    (k.runs p).part ≡ rests → IsLoggedAt shape base s chains k region → MayStand i region → ReadsServe shape base s (chains p) p i

-- ---- the ledger

-- What becomes of the settled records as records are drawn, stored, settled and closed.
pub record LedgersKeep : Type 0 where
  pub draws : (lane : ℕ) (r : Record) (ledger : List Noted) → settled_log (record { lane = lane; entry = r; stage = Drawn } ∷ ledger) ≡ settled_log ledger
  pub stores : (r : Record) (ledger : List Noted) → AreNewestFirst ledger → IsUnsettled ledger r → settled_log (with_stage r.lsn Stored ledger) ≡ settled_log ledger
  pub settles : (r : Record) (ledger : List Noted) → AreNewestFirst ledger → IsUnsettled ledger r →
      settled_log (with_stage r.lsn Settled ledger) ≡ inserted r (settled_log ledger)
  pub closes : (gates ends checkpoints : List ℕ) (ledger : List Noted) →
      settled_log (without gates ends checkpoints ledger) ≡ left_open gates ends checkpoints (settled_log ledger)
  pub fresh : (r : Record) (ledger : List Noted) → AreNewestFirst ledger → IsUnsettled ledger r → (x : Record) → IsAmong (settled_log ledger) x → x.lsn ≢ r.lsn
  pub staged_first : (n : ℕ) (stage : Stage) (ledger : List Noted) → AreNewestFirst ledger → AreNewestFirst (with_stage n stage ledger)
  pub closed_first : (gates ends checkpoints : List ℕ) (ledger : List Noted) → AreNewestFirst ledger → AreNewestFirst (without gates ends checkpoints ledger)
