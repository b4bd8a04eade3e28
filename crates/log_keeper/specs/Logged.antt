-- The words of the log in a region: those that were settled when the latest part of each partition began, and what was made of it.
use Rattle.std.specs.Prelude.{◌≡◌, ◌≢◌, ℕ, suc, ◌<◌, ◌==◌, if◌then◌else◌, List}
use Rattle.persist_model.specs.declared.event.Event.{Event}
use Rattle.persist_model.specs.Region.{Words, Region}
use Rattle.persist_model.specs.Progress.{Reaches, Tracks, AreSettledAt, IsAside}
use Rattle.persist_model.specs.Runs.{progress_at}
use Rattle.persist_model.specs.Shape.{Shape, log_words, words_of_shape}
use Rattle.persist_model.specs.Chain.{view}
use Rattle.persist_model.specs.State.{State, IsSoundState}
use Rattle.persist_model.specs.Sound.{HasState}
use Rattle.atomic_list.specs.Rules.{IsAtRest}
use Rattle.region_layout.specs.Layout.{IsAllowed}
use Rattle.bucket_log.specs.Words.{IsPartWord}
use Rattle.log_keeper.specs.declared.slots.TheConstants.{NOBODY}
use Rattle.log_keeper.specs.Parts.{LogPart, rests, Running, plan_of, waits_for, CanRun}
use Rattle.log_keeper.specs.Ledger.{Noted, settled_log}

-- The keeper's plain data: the records, newest first, and for each partition what is under way and the lane that holds its latch, NOBODY where it is free.
pub record Keeping : Type 0 where
  pub ledger : List Noted
  pub runs : ℕ → Running
  pub holder : ℕ → ℕ

-- another run in a partition
abbrev pub with_run : ℕ → Running → (ℕ → Running) → ℕ → Running
with_run p run runs q = if q == p then run else runs q

-- another holder of a partition
abbrev pub with_holder : ℕ → ℕ → (ℕ → ℕ) → ℕ → ℕ
with_holder p lane holder q = if q == p then lane else holder q

-- a chain of its own for a partition
abbrev pub with_chain : ℕ → List ℕ → (ℕ → List ℕ) → ℕ → List ℕ
with_chain p chain chains q = if q == p then chain else chains q

-- one event more is made of the partition's part
abbrev pub one_more : Running → Running
one_more run = record { part = run.part; made = suc run.made }

abbrev pub resting : Running
resting = record { part = rests; made = 0 }

abbrev pub begun : LogPart → Running
begun part = record { part = part; made = 0 }

abbrev pub advanced : ℕ → Keeping → Keeping
advanced p k = record { ledger = k.ledger; runs = with_run p (one_more (k.runs p)) k.runs; holder = k.holder }

-- the part is whole: the ledger is as it leaves it, and nothing is under way in the partition
abbrev pub ended : ℕ → List Noted → Keeping → Keeping
ended p ledger k = record { ledger = ledger; runs = with_run p resting k.runs; holder = k.holder }

-- a lane begins a part
abbrev pub beginning : ℕ → ℕ → LogPart → List Noted → Keeping → Keeping
beginning p lane part ledger k = record { ledger = ledger; runs = with_run p (begun part) k.runs; holder = with_holder p lane k.holder }

-- another holder of the partition's latch, NOBODY where it is let go
abbrev pub latched : ℕ → ℕ → Keeping → Keeping
latched p lane k = record { ledger = k.ledger; runs = k.runs; holder = with_holder p lane k.holder }

-- a is a word of the header that no partition has
abbrev pub IsNone's : Shape → ℕ → Type 0
IsNone's shape a = (a < 32) × ((p : ℕ) → p < shape.partitions → IsPartWord shape p a → ⊥)

-- the lane whose fences a partition waits for
abbrev pub waiting : Keeping → ℕ → ℕ
waiting k p = waits_for (k.runs p).part (k.holder p)

-- how far a partition's part has come
abbrev pub plan_in : Shape → Keeping → ℕ → List Event
plan_in shape k p = plan_of shape p (k.runs p).part

-- ---- a region and its images, for any runs

-- A region in which the holder of each partition has made so much of its part, and others nothing in its words.
pub record AreTracked (shape : Shape) (base : Words) (runs : ℕ → Running) (holder : ℕ → ℕ) (region : Region) : Type 0 where
  pub size : region.size ≡ words_of_shape shape
  pub header : AreSettledAt (IsNone's shape) base region
  pub parts : (p : ℕ) → p < shape.partitions → Tracks (IsPartWord shape p) (holder p) (progress_at base (plan_of shape p (runs p).part) (runs p).made) region

-- Words that may be found: those of the header that no partition has are base's, and of each partition's words those that its part has reached.
pub record IsReached (shape : Shape) (base : Words) (runs : ℕ → Running) (i : Words) : Type 0 where
  pub header : (a : ℕ) → a < 32 → ((p : ℕ) → p < shape.partitions → IsPartWord shape p a → ⊥) → i a ≡ base a
  pub parts : (p : ℕ) → p < shape.partitions → Reaches (IsPartWord shape p) (progress_at base (plan_of shape p (runs p).part) (runs p).made) i

-- ---- the keeper's region

-- base is settled, with the state s, which has the settled records, and these chains. In the region each partition's holder has made so much of its
-- part, and others nothing in its words.
pub record IsLoggedAt (shape : Shape) (base : Words) (s : State) (chains : ℕ → List ℕ) (k : Keeping) (region : Region) : Type 0 where
  pub size : region.size ≡ words_of_shape shape
  pub allowed : IsAllowed shape
  pub has : HasState shape base s
  pub records : s.log ≡ settled_log k.ledger
  pub rest : (p : ℕ) → p < shape.partitions → IsAtRest shape p (view p (log_words shape base)) (chains p)
  pub header : AreSettledAt (IsNone's shape) base region
  pub parts : (p : ℕ) → p < shape.partitions → Tracks (IsPartWord shape p) (waiting k p) (progress_at base (plan_in shape k p) (k.runs p).made) region
  pub can : (p : ℕ) → p < shape.partitions → CanRun shape p base s (chains p) (k.runs p).part

-- so it is for some settled words, and their state is sound
pub record IsLogged (shape : Shape) (k : Keeping) (region : Region) : Type 0 where
  pub base : Words
  pub state : State
  pub chains : ℕ → List ℕ
  pub logged : IsLoggedAt shape base state chains k region
  pub sound : IsSoundState shape state

-- The event names no word of the log, and is no fence of a lane that a partition waits for.
pub record IsPassing (shape : Shape) (k : Keeping) (by : ℕ) (e : Event) : Type 0 where
  pub parts : (p : ℕ) → p < shape.partitions → IsAside (IsPartWord shape p) (waiting k p) by e
  pub header : IsAside (IsNone's shape) NOBODY by e

-- in no other partition is a part of this one's holder under way
abbrev pub IsAlone : Shape → Keeping → ℕ → Type 0
IsAlone shape k p = (q : ℕ) → q < shape.partitions → q ≢ p → waiting k q ≢ k.holder p
