-- What is asked at a moment: of the settled log, of what is under way in each partition, and of the image's words. All of it is said of the
-- settled state, though other partitions may have made more of theirs in an image.
use Rattle.std.specs.Prelude.{◌≡◌, ◌≢◌, ◌⊎◌, ℕ, ◌+◌, ◌*◌, ◌<◌, ◌≤◌, ◌^◌, List, [], ◌∷◌, ◌++◌}
use Rattle.persist_model.specs.Region.{Words}
use Rattle.persist_model.specs.Kinds.{CHECKPOINT}
use Rattle.persist_model.specs.Progress.{latest}
use Rattle.persist_model.specs.Records.{Record, Log, IsAmong, Has, HasNo, IsOf, IsEnd, IsDeletion, NamesWord, IsRunning, IsEnded, IsCommitted}
use Rattle.persist_model.specs.Standing.{IsLatest, Stands}
use Rattle.persist_model.specs.Order.{undo_point}
use Rattle.persist_model.specs.Need.{need_in}
use Rattle.persist_model.specs.Shape.{Shape, part_of, log_words, IsHeapWord}
use Rattle.persist_model.specs.Chain.{view}
use Rattle.persist_model.specs.State.{State, IsSoundState}
use Rattle.persist_model.specs.Sound.{HasState}
use Rattle.log_laws.specs.Moves.{IsDeletionBy, IsChangeBy}
use Rattle.region_layout.specs.Layout.{IsAllowed}
use Rattle.bucket_log.specs.Appends.{CanAppend}
use Rattle.log_clearing.specs.Clearing.{AreDeferred}
use Rattle.log_clearing.specs.Closed.{AreGroups, IsListed}
use Rattle.log_clearing.specs.Removals.{CanDrop}
use Rattle.plan_records.specs.Cells.{IsCellOf}
use Rattle.plan_records.specs.Passing.{Passes}
use Rattle.plan_records.specs.Conditions.{CanUpdate, CanDelete, CanRollBack, CanCompensate, CanEndUndone, IsOfOpen, AreLast, AreWritten}
use Rattle.history_laws.specs.Histories.{Entry, LeavesWord}
use Rattle.history_laws.specs.UnderWay.{Added, an_update, a_deletion, a_rollback, a_compensation, an_undone_end, a_commit_end, Adding, record_of_adding, UnderWay, nothing, appends, closes, takes_back, drops, IsStored, IsAddedIn}

-- ---- an append whose gate is stored

-- The OLD of the update u is the last NEW of its transaction, or else the history's value of the word, which no commit in flight writes.
pub record IsOldOf (s : State) (h : Words) (flight : List Entry) (u : Record) : Type 0 where
  pub undo_next : u.undo_next ≡ undo_point u.transaction s.log
  pub own : (r : Record) → IsLatest (IsChangeBy u.transaction u.word) s.log r → u.before ≡ r.after
  pub plain : HasNo (IsChangeBy u.transaction u.word) s.log → u.before ≡ h u.word
  pub alone : (e : Entry) → IsAmong flight e → LeavesWord e u.word

-- From the history's heap h the entry makes what t wrote: 0 of the owner words that it deletes, and the last NEW of each other word that it
-- changed, which is h's own where the change was taken back. It leaves all other words as they are, whatever they are.
pub record IsEntryOf (log : Log) (h : Words) (t : ℕ) (e : Entry) : Type 0 where
  pub deleted : (a : ℕ) → Has (IsDeletionBy t a) log → latest e.writes a (h a) ≡ 0
  pub changed : (a : ℕ) (r : Record) → HasNo (IsDeletionBy t a) log → IsLatest (IsChangeBy t a) log r → latest e.writes a (h a) ≡ r.after
  pub others : (a : ℕ) → HasNo (IsDeletionBy t a) log → HasNo (IsChangeBy t a) log → LeavesWord e a

-- t is in flight once, with such an entry, and no other commit in flight writes a word that t names.
pub record IsInFlight (log : Log) (h : Words) (flight : List Entry) (t : ℕ) : Type 0 where
  pub front : List Entry
  pub entry : Entry
  pub rest : List Entry
  pub split : flight ≡ front ++ entry ∷ rest
  pub own : entry.transaction ≡ t
  pub writes : IsEntryOf log h t entry
  pub apart : (e : Entry) → IsAmong front e ⊎ IsAmong rest e → e.transaction ≢ t
  pub alone : (e : Entry) → IsAmong front e ⊎ IsAmong rest e → (a : ℕ) → Has (IsDeletionBy t a) log ⊎ Has (IsChangeBy t a) log → LeavesWord e a

-- what each kind of record asks of the state
abbrev pub CanAdd : Shape → State → Record → Added → Type 0
CanAdd shape x r (an_update u) = CanUpdate shape x r
CanAdd shape x r (a_deletion g) = CanDelete shape x r
CanAdd shape x r (a_rollback t) = CanRollBack shape x r
CanAdd shape x r (a_compensation u cell) = IsCellOf cell u × CanCompensate shape x r u
CanAdd shape x r (an_undone_end t) = CanEndUndone shape x r
CanAdd shape x r (a_commit_end t) = IsOfOpen shape x r 1

-- and of the image's heap words and the history
abbrev pub Serves : Shape → State → Words → List Entry → Words → Record → Added → Type 0
Serves shape s h flight heap r (an_update u) = IsOldOf s h flight r
Serves shape s h flight heap r (a_deletion g) = Unit {0}
Serves shape s h flight heap r (a_rollback t) = Unit {0}
Serves shape s h flight heap r (a_compensation u cell) = Unit {0}
Serves shape s h flight heap r (an_undone_end t) = AreLast shape s t heap
Serves shape s h flight heap r (a_commit_end t) = AreWritten shape s t heap × IsInFlight s.log h flight t

pub record IsReady (shape : Shape) (s : State) (h : Words) (flight : List Entry) (heap : Words) (x : Adding) : Type 0 where
  pub passes : Passes s.log (record_of_adding x)
  pub can : CanAdd shape s (record_of_adding x) x.added
  pub serves : Serves shape s h flight heap (record_of_adding x) x.added

-- ---- what is under way in a partition

-- The append may be made in the partition's settled words; once its gate is stored it is ready.
pub record IsAppending (shape : Shape) (base : Words) (s : State) (h : Words) (flight : List Entry) (heap : Words) (p : ℕ) (x : Adding) (made : ℕ) : Type 0 where
  pub chain : List ℕ
  pub can : CanAppend shape p (view p (log_words shape base)) chain x.place (record_of_adding x)
  pub ready : IsStored shape p x made → IsReady shape s h flight heap x

-- Under force some of an ended transaction's records are closed, which stand in the partition, with its end all; the owner words that it gave
-- back are 0.
pub record IsClosingGroup (shape : Shape) (s : State) (heap : Words) (p : ℕ) (gates ends : List ℕ) : Type 0 where
  pub force : shape.policy ≢ 2
  pub groups : AreGroups s.log gates ends []
  pub here : (r : Record) → IsAmong s.log r → IsListed gates ends [] r → part_of shape r.at ≡ p
  pub ended : (r : Record) → IsAmong s.log r → IsListed gates ends [] r → (r.kind ≢ CHECKPOINT) × IsEnded s.log r.transaction
  pub whole : (e : Record) → IsAmong s.log e → IsListed gates ends [] e → IsEnd e → (r : Record) → IsAmong s.log r → IsOf e.transaction r → IsListed gates ends [] r
  pub zero : (r : Record) → IsAmong s.log r → IsListed gates ends [] r → IsDeletion r → IsCommitted s.log r.transaction → heap r.word ≡ 0

-- Deletions of running transactions are closed, which stand in the partition. Nothing is asked of words.
pub record IsTakingBack (shape : Shape) (s : State) (p : ℕ) (gates : List ℕ) : Type 0 where
  pub deferred : AreDeferred s.log gates
  pub here : (d : Record) → IsAmong s.log d → IsAmong gates d.at → part_of shape d.at ≡ p

abbrev pub IsRunningIn : Shape → Words → State → Words → List Entry → Words → ℕ → UnderWay → Type 0
IsRunningIn shape base s h flight heap p nothing = Unit {0}
IsRunningIn shape base s h flight heap p (appends x made) = IsAppending shape base s h flight heap p x made
IsRunningIn shape base s h flight heap p (closes gates ends made) = IsClosingGroup shape s heap p gates ends
IsRunningIn shape base s h flight heap p (takes_back gates made) = IsTakingBack shape s p gates
IsRunningIn shape base s h flight heap p (drops r made) = CanDrop shape p (view p (log_words shape base)) r

-- ---- all partitions

-- the records of two appends under way are of different transactions, and name different words
pub record AreTogether (r x : Record) : Type 0 where
  pub transactions : x.transaction ≢ r.transaction
  pub numbers : x.lsn ≢ r.lsn
  pub words : NamesWord r → NamesWord x → x.word ≢ r.word

-- base has the settled log s, which is sound, and h is the history's heap; what runs in the partitions may run, and fits together; and the
-- settled log, with these heap words, stands for the history. top is above all numbers.
pub record IsMoment (shape : Shape) (base : Words) (s : State) (h : Words) (flight : List Entry) (under : ℕ → UnderWay) (heap : Words) : Type 0 where
  pub allowed : IsAllowed shape
  pub has : HasState shape base s
  pub sound : IsSoundState shape s
  pub runs : (p : ℕ) → p < shape.partitions → IsRunningIn shape base s h flight heap p (under p)
  pub together : (p q : ℕ) (r x : Record) → p < shape.partitions → q < shape.partitions → q ≢ p → IsAddedIn shape p (under p) r → IsAddedIn shape q (under q) x → AreTogether r x
  pub in_flight : (e : Entry) → IsAmong flight e → IsRunning s.log e.transaction
  pub spare : shape.policy ≡ 2 → need_in (part_of shape) 0 s.log + 1 ≤ s.room 0
  pub top : ℕ
  pub above : (r : Record) → IsAmong s.log r → r.lsn < top
  pub drawn : (p : ℕ) (r : Record) → p < shape.partitions → IsAddedIn shape p (under p) r → r.lsn < top
  pub numbers : top + shape.cells * (shape.buckets + shape.partitions) + 1 ≤ 2 ^ 63
  pub standing : (a : ℕ) → IsHeapWord shape a → Stands shape.policy s.log heap a (h a)
