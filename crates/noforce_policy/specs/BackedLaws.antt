-- The laws of words that the log backs: an update's OLD and a checkpoint's sweep meet what their appends ask of an image's heap words.
use Rattle.std.specs.Prelude.{◌≡◌, ◌≢◌, ◌⊎◌, ℕ, Bool, IsTrue, List, [], ◌∷◌, ◌++◌, Option, Some, None}
use Rattle.persist_model.specs.declared.event.Event.{Event}
use Rattle.persist_model.specs.Kinds.{CHECKPOINT, END}
use Rattle.persist_model.specs.declared.event.Event.TheVariants.{Store, PStore, WriteBack, Fence}
use Rattle.persist_model.specs.Region.{Words, Region, IsCandidate, newest, after, MayStand}
use Rattle.persist_model.specs.Law.{after_all}
use Rattle.persist_model.specs.Records.{Record, Log, IsAmong, Has, HasNo, IsOf, IsChange, IsEnd, IsCheckpoint, IsRunning}
use Rattle.persist_model.specs.Shape.{Shape, IsHeapWord, words_of_shape, heap_words}
use Rattle.persist_model.specs.Standing.{IsToUndo, IsToDelete, IsLatest}
use Rattle.persist_model.specs.Order.{undo_point}
use Rattle.persist_model.specs.State.{State, IsSoundState}
use Rattle.log_laws.specs.Closing.{IsClosing}
use Rattle.log_laws.specs.Moves.{MayName, IsChangeBy}
use Rattle.log_laws.specs.Recovering.{IsOnLog}
use Rattle.bucket_log.specs.declared.append.Place.{Place}
use Rattle.plan_records.specs.declared.parts.Update.{Update}
use Rattle.plan_records.specs.declared.parts.Giving.{Giving}
use Rattle.plan_records.specs.declared.parts.Closing.{Closing}
use Rattle.plan_records.specs.declared.parts.Undoing.{Undoing}
use Rattle.bucket_log.specs.Appends.{region_append}
use Rattle.log_clearing.specs.Plans.{closing_plan}
use Rattle.log_clearing.specs.Clearing.{IsClearing}
use Rattle.plan_records.specs.Cells.{cell_of_update, appended}
use Rattle.region_layout.specs.RecordCells.{cell_of_checkpoint}
use Rattle.plan_records.specs.Passing.{inserted, Passes}
use Rattle.plan_records.specs.Appends.{MayAppend, MayStandAt}
use Rattle.plan_records.specs.Conditions.{CanUpdate, CanCheckpoint, IsUpdateOf, AreSweptIn}
use Rattle.plan_records.specs.Courses.{own_records, IsAboveOwn}
use Rattle.plan_records.specs.HeapImages.{LeavesKept}
use Rattle.plan_records.specs.HeapCourses.{IsChanged}
use Rattle.noforce_policy.specs.Plans.{write_plan, give_plan, commit_plan, abort_plan}
use Rattle.noforce_policy.specs.Laws.{AreAllDeletions, MayCloseEnded}
use Rattle.noforce_policy.specs.Backed.{HasOneValue, IsBacked, AreBacked, AreOwnBacked, AreAllSwept, IsNoStoreTo, AreNoStoresTo, IsWrittenBack, IsBesideSweep, AreBesideSweep, TellsDirty, StoresChanges}

-- ---- the sweep of one word

pub record SweepsSettle : Type 0 where
  pub written_back : (region : Region) (lane a v : ℕ) → IsCandidate (region.at a) v → IsWrittenBack lane (after region lane (WriteBack a)) a
  -- a durable store is as good as a store and a write back
  pub stored : (region : Region) (lane a v : ℕ) → IsWrittenBack lane (after region lane (PStore a v)) a
  pub beside : (region : Region) (lane a by : ℕ) (e : Event) → IsBesideSweep lane a by e → IsWrittenBack lane region a → IsWrittenBack lane (after region by e) a
  pub fenced : (region : Region) (lane a : ℕ) → IsWrittenBack lane region a → HasOneValue (after region lane Fence) a
  pub stays : (region : Region) (by a : ℕ) (e : Event) → IsNoStoreTo a e → HasOneValue region a → HasOneValue (after region by e) a
  pub same : (region : Region) (by a : ℕ) (e : Event) → IsNoStoreTo a e → newest ((after region by e).at a) ≡ newest (region.at a)

-- A word that a lane wrote back, and that then nobody stored to and nobody else wrote back, has one value behind that lane's next fence, the
-- newest one, and keeps it until it is stored to again, whatever is done to other words meanwhile.
abbrev pub SweptWordsSettle : Type 0
SweptWordsSettle = (region : Region) (lane a v : ℕ) (until rest : List (ℕ × Event)) → IsCandidate (region.at a) v → AreBesideSweep lane a until → AreNoStoresTo a rest →
    let later = after_all region ((lane, WriteBack a) ∷ (until ++ (lane, Fence) ∷ rest)) in
    HasOneValue later a × (newest (later.at a) ≡ newest (region.at a))

-- ---- the sweep of all words

pub record SweepsTell : Type 0 where
  -- where each word that isn't dirty has one value any lane may begin to sweep
  pub begins : (shape : Shape) (dirty : ℕ → Bool) (lane : ℕ) (region : Region) → ((a : ℕ) → IsHeapWord shape a → IsTrue (dirty a) ⊎ HasOneValue region a) → TellsDirty shape dirty lane region
  -- a store by any lane makes its word dirty
  pub stores : (shape : Shape) (dirty later : ℕ → Bool) (lane by b v : ℕ) (region : Region) → ((a : ℕ) → IsTrue (dirty a) → IsTrue (later a)) → IsTrue (later b) →
      TellsDirty shape dirty lane region → TellsDirty shape later lane (after region by (Store b v))
  -- the lane's write back makes it clean
  pub writes_back : (shape : Shape) (dirty later : ℕ → Bool) (lane b v : ℕ) (region : Region) → ((a : ℕ) → IsTrue (dirty a) → (a ≡ b) ⊎ IsTrue (later a)) → IsCandidate (region.at b) v →
      TellsDirty shape dirty lane region → TellsDirty shape later lane (after region lane (WriteBack b))
  -- its durable store leaves it written back
  pub stores_durably : (shape : Shape) (dirty : ℕ → Bool) (lane b v : ℕ) (region : Region) → TellsDirty shape dirty lane region → TellsDirty shape dirty lane (after region lane (PStore b v))
  -- what others do, and the lane's own events on the log, keep what the test tells
  pub beside : (shape : Shape) (dirty : ℕ → Bool) (lane by : ℕ) (e : Event) (region : Region) → ((a : ℕ) → IsHeapWord shape a → IsBesideSweep lane a by e) →
      TellsDirty shape dirty lane region → TellsDirty shape dirty lane (after region by e)
  -- Behind the lane's fence each word that isn't dirty has one value.
  pub fences : (shape : Shape) (dirty : ℕ → Bool) (lane : ℕ) (region : Region) → TellsDirty shape dirty lane region →
      (a : ℕ) → IsHeapWord shape a → IsTrue (dirty a) ⊎ HasOneValue (after region lane Fence) a
  -- So all are swept where each dirty word is to be undone: others store to such words meanwhile.
  pub swept : (shape : Shape) (dirty : ℕ → Bool) (lane : ℕ) (region : Region) (log : Log) → ((a : ℕ) → IsHeapWord shape a → IsTrue (dirty a) → Has (IsToUndo log a) log) →
      TellsDirty shape dirty lane region → AreAllSwept shape log (after region lane Fence)
  -- and stay so while no other heap word is stored to
  pub kept : (shape : Shape) (region : Region) (log : Log) (by : ℕ) (e : Event) → ((a : ℕ) → IsHeapWord shape a → IsNoStoreTo a e ⊎ Has (IsToUndo log a) log) →
      AreAllSwept shape log region → AreAllSwept shape log (after region by e)

-- Events on the log's words, as those of an append and of a closing, are no stores to heap words, and are beside a sweep but for the lane's own fences.
pub record LogEventsAreBeside : Type 0 where
  pub stores : (shape : Shape) (a : ℕ) (e : Event) → IsHeapWord shape a → IsOnLog shape e → IsNoStoreTo a e
  pub sweeps : (shape : Shape) (lane a by : ℕ) (e : Event) → IsHeapWord shape a → IsOnLog shape e → (e ≡ Fence → by ≢ lane) → IsBesideSweep lane a by e

-- ---- what keeps words backed

pub record EventsKeepBacked : Type 0 where
  pub word : (log : Log) (region : Region) (by a : ℕ) (e : Event) → IsNoStoreTo a e → IsBacked log region a → IsBacked log (after region by e) a
  -- each store to a heap word is to one that is to be undone or deleted
  pub each : (shape : Shape) (log : Log) (region : Region) (by : ℕ) (e : Event) →
      ((a : ℕ) → IsHeapWord shape a → IsNoStoreTo a e ⊎ Has (IsToUndo log a) log ⊎ Has (IsToDelete log a) log) →
      AreBacked shape log region → AreBacked shape log (after region by e)
  -- what isn't a store to a word of t
  pub own : (log : Log) (region : Region) (t by : ℕ) (waiting : Option ℕ) (e : Event) → ((a : ℕ) → IsChanged log t a → IsNoStoreTo a e) →
      AreOwnBacked t waiting log region → AreOwnBacked t waiting log (after region by e)
  -- the store of the NEW of the last change by a running transaction
  pub store : (shape : Shape) (x : State) (region : Region) (lane t a : ℕ) (r : Record) → IsSoundState shape x → IsRunning x.log t → IsLatest (IsChangeBy t a) x.log r →
      IsBacked x.log (after region lane (Store a r.after)) a

-- what a record keeps backed of the committed words
pub record RecordsKeepBacked : Type 0 where
  -- a record that is no checkpoint record and doesn't change the word
  pub word : (log : Log) (region : Region) (r : Record) (a : ℕ) → Passes log r → r.kind ≢ CHECKPOINT → (IsChange r → r.word ≢ a) → IsBacked log region a → IsBacked (inserted r log) region a
  -- a record of a running transaction, but its end
  pub running : (shape : Shape) (s x : State) (region : Region) (r : Record) → Passes s.log r → r.kind ≢ END → r.kind ≢ CHECKPOINT → IsRunning s.log r.transaction →
      x.log ≡ inserted r s.log → IsSoundState shape x → AreBacked shape s.log region → AreBacked shape x.log region
  -- the end of a transaction whose words are backed
  pub ends : (shape : Shape) (log : Log) (region : Region) (e : Record) → Passes log e → IsEnd e → AreOwnBacked e.transaction None log region →
      AreBacked shape log region → AreBacked shape (inserted e log) region
  -- a checkpoint record behind its sweep; a running transaction's words aren't asked to be swept
  pub checkpoints : (shape : Shape) (s : State) (region : Region) (c : Record) → shape.policy ≡ 2 → IsSoundState shape s → IsCheckpoint c → Passes s.log c →
      AreBacked shape s.log region → AreAllSwept shape s.log region → AreBacked shape (inserted c s.log) region
  -- a closing, where the words of the blocks that are deleted have one value
  pub closings : (shape : Shape) (s : State) (region : Region) (w : Words) (later : Log) → shape.policy ≡ 2 → IsSoundState shape s → IsClosing shape.policy s.log w later →
      ((a : ℕ) → IsHeapWord shape a → Has (IsToDelete s.log a) s.log → HasOneValue region a) → AreBacked shape s.log region → AreBacked shape later region

-- and of the words that a running transaction changed
pub record RecordsKeepOwn : Type 0 where
  pub none : (log : Log) (region : Region) (t : ℕ) → HasNo (IsOf t) log → AreOwnBacked t None log region
  -- a record of a running transaction that is no change by t
  pub others : (shape : Shape) (s x : State) (region : Region) (r : Record) (t : ℕ) (waiting : Option ℕ) → Passes s.log r → r.kind ≢ CHECKPOINT → (IsChange r → r.transaction ≢ t) →
      IsRunning s.log r.transaction → IsRunning s.log t → x.log ≡ inserted r s.log → IsSoundState shape x → AreOwnBacked t waiting s.log region → AreOwnBacked t waiting x.log region
  pub checkpoints : (shape : Shape) (s : State) (region : Region) (c : Record) (t : ℕ) (waiting : Option ℕ) → IsSoundState shape s → IsCheckpoint c → IsRunning s.log t →
      AreOwnBacked t waiting s.log region → AreOwnBacked t waiting (inserted c s.log) region
  pub closings : (shape : Shape) (s : State) (region : Region) (w : Words) (later : Log) (t : ℕ) (waiting : Option ℕ) → IsSoundState shape s →
      IsClosing shape.policy s.log w later → IsRunning s.log t → AreOwnBacked t waiting s.log region → AreOwnBacked t waiting later region

-- A word that a running transaction changed is to be undone, and no other running one changed it.
pub record ChangedWordsAreOwn : Type 0 where
  pub undone : (shape : Shape) (x : State) (t a : ℕ) → IsSoundState shape x → IsRunning x.log t → IsChanged x.log t a → Has (IsToUndo x.log a) x.log
  pub one : (shape : Shape) (x : State) (t u a : ℕ) → IsSoundState shape x → IsRunning x.log t → IsRunning x.log u → IsChanged x.log t a → IsChanged x.log u a → t ≡ u

-- A change by a running transaction is recorded, and then stored: a write's parts, and each undo of an abort.
pub record ChangesAreBacked : Type 0 where
  -- behind its record its word waits, whose last change it is
  pub recorded : (shape : Shape) (s : State) (region : Region) (r : Record) → Passes s.log r → IsChange r → AreOwnBacked r.transaction None s.log region →
      AreOwnBacked r.transaction (Some r.word) (inserted r s.log) region
  pub last : (log : Log) (r : Record) → IsChange r → IsAboveOwn r.transaction log r.lsn → IsLatest (IsChangeBy r.transaction r.word) (inserted r log) r
  -- it stays the last one while others go on
  pub waits : (log later : Log) (t a : ℕ) (r : Record) → own_records t later ≡ own_records t log → IsLatest (IsChangeBy t a) log r → IsLatest (IsChangeBy t a) later r
  -- Behind the store of its NEW no word waits.
  pub stored : (shape : Shape) (x : State) (region : Region) (lane t a : ℕ) (r : Record) → IsSoundState shape x → IsRunning x.log t → IsLatest (IsChangeBy t a) x.log r →
      AreOwnBacked t (Some a) x.log region → AreOwnBacked t None x.log (after region lane (Store a r.after))

-- The plans of transactions store no other values.
pub record PlansStoreChanges : Type 0 where
  pub writes : (u : Update) → StoresChanges (write_plan u)
  pub gives : (g : Giving) → StoresChanges (give_plan g)
  pub commits : (c : Closing) → StoresChanges (commit_plan c)
  pub aborts : (u : Undoing) → StoresChanges (abort_plan u)

-- where no records are each word has one value
abbrev pub EmptyLogsBack : Type 0
EmptyLogsBack = (shape : Shape) (region : Region) → ((a : ℕ) → IsHeapWord shape a → HasOneValue region a) → AreBacked shape [] region

-- ---- what the appends ask of an image

-- an update whose OLD is the newest value of its word, in each image
abbrev pub BackedUpdatesMeet : Type 0
BackedUpdatesMeet = (shape : Shape) (x : State) (u : Record) (region : Region) (i : Words) → shape.policy ≡ 2 → IsSoundState shape x → IsHeapWord shape u.word →
    IsRunning x.log u.transaction → MayName x.log u → u.undo_next ≡ undo_point u.transaction x.log → region.size ≡ words_of_shape shape → MayStand i region →
    AreBacked shape x.log region → AreOwnBacked u.transaction None x.log region → u.before ≡ newest (region.at u.word) → IsUpdateOf shape x u (heap_words shape i)

-- a checkpoint behind its sweep
abbrev pub SweptWordsMeet : Type 0
SweptWordsMeet = (shape : Shape) (s : State) (region : Region) (i : Words) → shape.policy ≡ 2 → IsSoundState shape s → region.size ≡ words_of_shape shape → MayStand i region →
    AreBacked shape s.log region → AreAllSwept shape s.log region → AreSweptIn shape s (heap_words shape i)

-- So what their appends leave to a stop hangs on no image's heap words.
abbrev pub UpdatesLeave : Type 0
UpdatesLeave = (shape : Shape) (p : ℕ) (w : Words) (x : State) (u : Update) (chain : List ℕ) (place : Place) (number k : ℕ) (region : Region) (i : Words) →
    let r = appended place number (cell_of_update u) in
    shape.policy ≡ 2 → MayAppend shape p w x chain place r → CanUpdate shape x r → u.undo_next ≡ undo_point u.transaction x.log →
    region.size ≡ words_of_shape shape → MayStand i region → AreBacked shape x.log region → AreOwnBacked u.transaction None x.log region → u.before ≡ newest (region.at u.word) →
    MayStandAt shape w (region_append shape p place r) k i → LeavesKept shape p x place r k i

abbrev pub CheckpointsLeave : Type 0
CheckpointsLeave = (shape : Shape) (w : Words) (s : State) (chain : List ℕ) (place : Place) (number k : ℕ) (region : Region) (i : Words) →
    let c = appended place number cell_of_checkpoint in
    shape.policy ≡ 2 → MayAppend shape 0 w s chain place c → CanCheckpoint shape s c → region.size ≡ words_of_shape shape → MayStand i region →
    AreBacked shape s.log region → AreAllSwept shape s.log region → MayStandAt shape w (region_append shape 0 place c) k i → LeavesKept shape 0 s place c k i

-- The clearing behind a checkpoint record, where each owner word of a deleted block is 0 and nothing else is left of it.
abbrev pub ClearsLeave : Type 0
ClearsLeave = (shape : Shape) (w : Words) (s : State) (chain : List ℕ) (place : Place) (number : ℕ) (owners : List ℕ) (z v : Words) (x : State) (gates ends checkpoints : List ℕ)
    (k : ℕ) (region : Region) →
    let c = appended place number cell_of_checkpoint in
    MayAppend shape 0 w s chain place c → CanCheckpoint shape s c → AreAllDeletions s.log owners → x.log ≡ inserted c s.log → MayCloseEnded shape c z x gates ends checkpoints →
    region.size ≡ words_of_shape shape → MayStand v region → ((a : ℕ) → IsAmong owners a → HasOneValue region a × (newest (region.at a) ≡ 0)) →
    MayStandAt shape z (closing_plan gates ends checkpoints) k v → IsClearing shape v x gates ends checkpoints
