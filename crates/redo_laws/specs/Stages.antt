-- What holds at each stage of a checkpoint, and where there is none.
use Rattle.std.specs.Prelude.{◌≡◌, ◌≢◌, ◌⊎◌, ℕ, ◌<◌, ◌≤◌, Bool, true, false, List, [], length}
use Rattle.persist_model.specs.Region.{Words, Region, IsCandidate, newest}
use Rattle.persist_model.specs.Records.{Record, Log, IsAmong, Has, HasNo, IsOf, IsEnd, IsEnded, IsCheckpoint, IsSkipped}
use Rattle.persist_model.specs.Standing.{IsToUndo, IsToDelete}
use Rattle.persist_model.specs.Shape.{Shape, IsHeapWord}
use Rattle.persist_model.specs.State.{State}
use Rattle.bucket_log.specs.declared.append.Place.{Place}
use Rattle.log_clearing.specs.Closed.{IsListed}
use Rattle.plan_records.specs.Conditions.{CanCheckpoint}
use Rattle.plan_records.specs.Passing.{Passes}
use Rattle.noforce_policy.specs.Backed.{HasOneValue, TellsDirty}
use Rattle.log_keeper.specs.Logged.{resting}
use Rattle.history_laws.specs.UnderWay.{UnderWay, nothing, appends, closes, takes_back, drops}
use Rattle.txn_laws.specs.Txns.{txn_at}
use Rattle.txn_laws.specs.Flights.{is_flying}
use Rattle.txn_laws.specs.PartsOf.{IsPartIn}
use Rattle.txn_laws.specs.Worlds.{World}
use Rattle.redo_laws.specs.Checkpoints.{other_gates, end_gates, checkpoint_gates, Group, Checkpoint, none, sweeps, swept, notes, noted, zeroed, shuts, checkpoint_record, noting_run, shutting_run, in_a_row}

-- ---- words

-- each heap word is dirty, or has one value
abbrev pub AreTold : Shape → (ℕ → Bool) → Region → Type 0
AreTold shape dirty region = (a : ℕ) → IsHeapWord shape a → (dirty a ≡ true) ⊎ HasOneValue region a

-- Below the place each dirty word is to be undone: lanes store to such words behind a sweep, whose updates they had appended before it.
abbrev pub IsSweptTo : Shape → Log → (ℕ → Bool) → ℕ → Type 0
IsSweptTo shape log dirty place = (a : ℕ) → IsHeapWord shape a → a < place → dirty a ≡ true → Has (IsToUndo log a) log

-- so it is of all words
abbrev pub IsAllSwept : Shape → Log → (ℕ → Bool) → Type 0
IsAllSwept shape log dirty = (a : ℕ) → IsHeapWord shape a → dirty a ≡ true → Has (IsToUndo log a) log

-- the owner words of blocks that commits gave back are 0, whatever a stop leaves
abbrev pub AreZero : Log → Region → Type 0
AreZero log region = (a u : ℕ) → Has (IsToDelete log a) log → IsCandidate (region.at a) u → u ≡ 0

-- ---- records

-- no checkpoint record
abbrev pub IsUnmarked : Log → Type 0
IsUnmarked log = HasNo IsCheckpoint log

-- each end is older than a checkpoint record
abbrev pub AreSkipped : Log → Type 0
AreSkipped log = (e : Record) → IsAmong log e → IsEnd e → IsSkipped log e.transaction

-- ---- partitions

-- no lane closes records of transactions that have ended: a checkpoint does
abbrev pub IsNoClosing : UnderWay → Type 0
IsNoClosing nothing = Unit {0}
IsNoClosing (appends adding made) = Unit {0}
IsNoClosing (closes gates ends made) = ⊥
IsNoClosing (takes_back gates made) = Unit {0}
IsNoClosing (drops r made) = Unit {0}

-- nothing, or a removal
abbrev pub IsIdle : UnderWay → Type 0
IsIdle nothing = Unit {0}
IsIdle (appends adding made) = ⊥
IsIdle (closes gates ends made) = ⊥
IsIdle (takes_back gates made) = ⊥
IsIdle (drops r made) = Unit {0}

-- The lane has all latches, and no commit is in flight.
pub record IsAllHeld (shape : Shape) (w : World) (l : ℕ) : Type 0 where
  pub holder : (p : ℕ) → p < shape.partitions → w.keeping.holder p ≡ l
  pub landed : (k : ℕ) → is_flying (txn_at w.lanes k) ≡ false

-- and nothing is under way
pub record IsHeldAtRest (shape : Shape) (w : World) (l : ℕ) : Type 0 where
  pub held : IsAllHeld shape w l
  pub run : (p : ℕ) → p < shape.partitions → w.keeping.runs p ≡ resting
  pub under : (p : ℕ) → p < shape.partitions → w.under p ≡ nothing

-- ---- the stages

pub record IsAtNone (shape : Shape) (s : State) (h : Words) (w : World) (dirty : ℕ → Bool) (region : Region) : Type 0 where
  pub told : AreTold shape dirty region
  pub unmarked : IsUnmarked s.log
  pub parts : (p : ℕ) → p < shape.partitions → IsPartIn shape s h w.keeping w.lanes p (w.under p)
  pub no_closing : (p : ℕ) → p < shape.partitions → IsNoClosing (w.under p)

pub record IsSweeping (shape : Shape) (s : State) (w : World) (dirty : ℕ → Bool) (l place : ℕ) (region : Region) : Type 0 where
  pub tells : TellsDirty shape dirty l region
  pub swept_to : IsSweptTo shape s.log dirty place
  pub unmarked : IsUnmarked s.log
  pub at_rest : IsHeldAtRest shape w l

pub record IsSwept (shape : Shape) (s : State) (w : World) (dirty : ℕ → Bool) (l : ℕ) (region : Region) : Type 0 where
  pub told : AreTold shape dirty region
  pub all_swept : IsAllSwept shape s.log dirty
  pub unmarked : IsUnmarked s.log
  pub at_rest : IsHeldAtRest shape w l

-- its record takes a place in the first partition, and is the newest
pub record IsNoting (shape : Shape) (s : State) (w : World) (dirty : ℕ → Bool) (l : ℕ) (place : Place) (number made : ℕ) (region : Region) : Type 0 where
  pub told : AreTold shape dirty region
  pub all_swept : IsAllSwept shape s.log dirty
  pub unmarked : IsUnmarked s.log
  pub held : IsAllHeld shape w l
  pub run : w.keeping.runs 0 ≡ noting_run place number made
  pub others : (p : ℕ) → p < shape.partitions → p ≢ 0 → w.keeping.runs p ≡ resting
  pub under : (p : ℕ) → p < shape.partitions → w.under p ≡ nothing
  pub can : CanCheckpoint shape s (checkpoint_record place number)
  pub passes : Passes s.log (checkpoint_record place number)

-- behind it 0 is stored to these owner words, which waits for a fence
pub record IsNoted (shape : Shape) (s : State) (w : World) (dirty : ℕ → Bool) (l : ℕ) (words : List ℕ) (region : Region) : Type 0 where
  pub tells : TellsDirty shape dirty l region
  pub told : words ≡ [] → AreTold shape dirty region
  pub all_swept : IsAllSwept shape s.log dirty
  pub skipped : AreSkipped s.log
  pub at_rest : IsHeldAtRest shape w l
  pub deleted : (a : ℕ) → IsAmong words a → IsHeapWord shape a × Has (IsToDelete s.log a) s.log
  pub zero : (a : ℕ) → IsAmong words a → newest (region.at a) ≡ 0

pub record IsZeroed (shape : Shape) (s : State) (h : Words) (w : World) (dirty : ℕ → Bool) (l : ℕ) (region : Region) : Type 0 where
  pub told : AreTold shape dirty region
  pub skipped : AreSkipped s.log
  pub zero : AreZero s.log region
  pub held : IsAllHeld shape w l
  pub parts : (p : ℕ) → p < shape.partitions → IsPartIn shape s h w.keeping w.lanes p (w.under p)
  pub idle : (p : ℕ) → p < shape.partitions → IsIdle (w.under p)

-- The records with these gates may be closed at once: a group has with an end all that is left of its transaction, and with a checkpoint record
-- all that is left of each transaction that it skips.
pub record IsGroup (log : Log) (S : Record → Type 0) : Type 0 where
  pub ended : (r : Record) → IsAmong log r → S r → IsCheckpoint r ⊎ IsEnded log r.transaction
  pub whole : (e : Record) → IsAmong log e → S e → IsEnd e → (r : Record) → IsAmong log r → IsOf e.transaction r → S r
  pub skips : (c : Record) → IsAmong log c → S c → IsCheckpoint c → (e : Record) → IsAmong log e → IsEnd e → e.lsn < c.lsn →
      (r : Record) → IsAmong log r → IsOf e.transaction r → S r

-- the gates of a group over all partitions, and its records
abbrev pub all_gates : Shape → Group → List ℕ
all_gates shape g = in_a_row g.gates shape.partitions

abbrev pub IsInGroup : Shape → Group → Record → Type 0
IsInGroup shape g = IsListed (other_gates g.kind (all_gates shape g)) (end_gates g.kind (all_gates shape g)) (checkpoint_gates g.kind (all_gates shape g))

pub record IsShutting (shape : Shape) (s : State) (w : World) (dirty : ℕ → Bool) (l : ℕ) (g : Group) (region : Region) : Type 0 where
  pub told : AreTold shape dirty region
  pub skipped : AreSkipped s.log
  pub zero : AreZero s.log region
  pub held : IsAllHeld shape w l
  pub run : (p : ℕ) → p < shape.partitions → w.keeping.runs p ≡ shutting_run g p
  pub under : (p : ℕ) → p < shape.partitions → w.under p ≡ nothing
  pub unfenced : (p : ℕ) → p < shape.partitions → g.made p ≤ length (g.gates p)
  pub group : IsGroup s.log (IsInGroup shape g)

abbrev pub IsAtStage : Shape → State → Words → World → (ℕ → Bool) → Checkpoint → Region → Type 0
IsAtStage shape s h w dirty none region = IsAtNone shape s h w dirty region
IsAtStage shape s h w dirty (sweeps l place) region = IsSweeping shape s w dirty l place region
IsAtStage shape s h w dirty (swept l) region = IsSwept shape s w dirty l region
IsAtStage shape s h w dirty (notes l place number made) region = IsNoting shape s w dirty l place number made region
IsAtStage shape s h w dirty (noted l words) region = IsNoted shape s w dirty l words region
IsAtStage shape s h w dirty (zeroed l) region = IsZeroed shape s h w dirty l region
IsAtStage shape s h w dirty (shuts l g) region = IsShutting shape s w dirty l g region
