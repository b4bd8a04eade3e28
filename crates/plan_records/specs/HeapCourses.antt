-- What a lane's own stores and fences settle, while it follows the plans of its transaction: the heap words beside a course.
use Rattle.std.specs.Prelude.{◌≡◌, ℕ, Bool, IsTrue, ◌≤◌, ◌==◌, ◌||◌, if◌then◌else◌, List, [], ◌∷◌, take}
use Rattle.persist_model.specs.declared.event.Event.{Event}
use Rattle.persist_model.specs.declared.event.Event.TheVariants.{Fence}
use Rattle.persist_model.specs.Region.{Words, Region, MayStand, AreInside}
use Rattle.persist_model.specs.Progress.{Progress, Wrote, latest, advance, advance_all, Reaches, Tracks, AreSettledAt}
use Rattle.persist_model.specs.Records.{Record, Log, IsAmong, Has, HasNo, IsOf}
use Rattle.persist_model.specs.Shape.{Shape, heap, IsHeapWord, heap_words, part_of}
use Rattle.persist_model.specs.Standing.{IsLatest}
use Rattle.persist_model.specs.Order.{undo_point}
use Rattle.persist_model.specs.State.{State, IsSoundState}
use Rattle.log_laws.specs.Moves.{IsChangeBy}
use Rattle.log_laws.specs.Recovering.{AreOnLog}
use Rattle.log_laws.specs.Parts.{AreDurable}
use Rattle.region_layout.specs.declared.cell.Cell.{Cell}
use Rattle.region_layout.specs.declared.layout.Policy.TheVariants.{Force}
use Rattle.bucket_log.specs.declared.append.Place.{Place}
use Rattle.plan_records.specs.declared.parts.Update.{Update}
use Rattle.plan_records.specs.declared.parts.Giving.{Giving}
use Rattle.plan_records.specs.declared.parts.Part.{Part}
use Rattle.plan_records.specs.declared.parts.Part.TheVariants.{Append, Word, Fence as Wait}
use Rattle.bucket_log.specs.Plans.{place_address}
use Rattle.bucket_log.specs.Appends.{region_append}
use Rattle.log_clearing.specs.Plans.{closing_plan}
use Rattle.persist_model.specs.declared.kinds.Outcome.TheVariants.{Committed, RolledBack}
use Rattle.plan_records.specs.Cells.{appended}
use Rattle.region_layout.specs.RecordCells.{cell_of_end}
use Rattle.plan_records.specs.Appends.{MayAppend, with_record}
use Rattle.plan_records.specs.Conditions.{AreWritten, AreLast}
use Rattle.plan_records.specs.Courses.{own_records, IsAboveOwn, Course, MayCloseOwn, AreGiven, CanAbort, write_parts, give_parts, commit_parts, abort_parts}

-- the lane's newest value of a, which is durable once the lane fences
abbrev pub newest : Progress → ℕ → ℕ
newest q a = latest q.pending a (q.durable a)

-- t changed the word
abbrev pub IsChanged : Log → ℕ → ℕ → Type 0
IsChanged log t a = Has (IsChangeBy t a) log

-- what the lane has stored last to each word that t changed is the last NEW
abbrev pub AreNewest : Log → ℕ → Progress → Type 0
AreNewest log t q = (a : ℕ) (r : Record) → IsLatest (IsChangeBy t a) log r → newest q a ≡ r.after

-- The lane is in step with t's records: the newest values are the last NEWs, and nothing is pending for a heap word that t hasn't changed.
pub record IsInStep (shape : Shape) (log : Log) (t : ℕ) (q : Progress) : Type 0 where
  pub newest_values : AreNewest log t q
  pub no_other : (a v : ℕ) → heap shape ≤ a → Wrote q.pending a v → IsChanged log t a

-- the progress with one word more, whose value is v
abbrev pub taking : ℕ → ℕ → Progress → Progress
taking a v q = record { durable = λ b. if b == a then v else q.durable b; pending = q.pending }

-- A course with the progress of its lane: it began with the progress q, and has come to z. An append makes its events, which are on the
-- log's words, and its fences are the lane's. What others do keeps the progress, since they don't store to t's words.
pub data Goes (shape : Shape) (p t : ℕ) (s : State) (plan : List Part) (q : Progress) : List Part → State → Progress → Type 0 where
  begins : Goes shape p t s plan q plan s q
  appends : {rest : List Part} {x : State} {z : Progress} (cell : Cell) (place : Place) (number : ℕ) → Goes shape p t s plan q (Append cell ∷ rest) x z →
      part_of shape (place_address place) ≡ p → IsAboveOwn t x.log number → AreOnLog shape (region_append shape p place (appended place number cell)) →
      Goes shape p t s plan q rest (with_record p x (appended place number cell)) (advance_all z (region_append shape p place (appended place number cell)))
  stores : {rest : List Part} {x : State} {z : Progress} (e : Event) → Goes shape p t s plan q (Word e ∷ rest) x z → Goes shape p t s plan q rest x (advance z e)
  waits : {rest : List Part} {x : State} {z : Progress} → Goes shape p t s plan q (Wait ∷ rest) x z → Goes shape p t s plan q rest x (advance z Fence)
  meanwhile : {rest : List Part} {x : State} {z : Progress} (y : State) → Goes shape p t s plan q rest x z → own_records t y.log ≡ own_records t x.log →
      Goes shape p t s plan q rest y z

-- The lane had the progress z, has made events on the log's words since, and the words of A are as they may be found then.
abbrev pub MayReach : Shape → (ℕ → Type 0) → Progress → Words → Type 0
MayReach shape A z h = (events : List Event) × AreOnLog shape events × Reaches A (advance_all z events) h

-- The region tracks the lane's progress on the words of the test, in which the lane has made these events since z, and i is an image of it.
-- A clause can't range over facts of words, so the words are given by a test.
pub record IsTrackedImage (test : ℕ → Bool) (lane : ℕ) (z : Progress) (events : List Event) (region : Region) (i : Words) : Type 0 where
  pub inside : AreInside (λ a. IsTrue (test a)) region
  pub image : MayStand i region
  pub tracks : Tracks (λ a. IsTrue (test a)) lane (advance_all z events) region

-- ---- the laws

abbrev pub GoesAreCourses : Type 0
GoesAreCourses = (shape : Shape) (p t : ℕ) (s : State) (plan : List Part) (q : Progress) (rest : List Part) (x : State) (z : Progress) →
    Goes shape p t s plan q rest x z → Course shape p t s plan rest x

-- The events of each prefix of an append and of a closing are on the log's words. An append's are durable stores and fences.
pub record LogPlansAreOnLog : Type 0 where
  pub appends : (shape : Shape) (p : ℕ) (w : Words) (s : State) (chain : List ℕ) (place : Place) (r : Record) (k : ℕ) → MayAppend shape p w s chain place r →
      AreOnLog shape (take k (region_append shape p place r))
  pub whole : (shape : Shape) (p : ℕ) (w : Words) (s : State) (chain : List ℕ) (place : Place) (r : Record) → MayAppend shape p w s chain place r →
      AreOnLog shape (region_append shape p place r)
  pub closings : (shape : Shape) (t : ℕ) (w : Words) (s : State) (gates ends checkpoints : List ℕ) (k : ℕ) → MayCloseOwn shape t w s gates ends checkpoints →
      AreOnLog shape (take k (closing_plan gates ends checkpoints))
  pub durable : (shape : Shape) (p : ℕ) (place : Place) (r : Record) → AreDurable (region_append shape p place r)

-- A lane with nothing pending is in step with a transaction without records, and what others do keeps it in step, and the undo point.
pub record StepsStay : Type 0 where
  pub none : (shape : Shape) (log : Log) (t : ℕ) (q : Progress) → HasNo (IsOf t) log → q.pending ≡ [] → IsInStep shape log t q
  pub others : (shape : Shape) (log later : Log) (t : ℕ) (q : Progress) → own_records t later ≡ own_records t log → IsInStep shape log t q → IsInStep shape later t q
  pub point : (log later : Log) (t : ℕ) → own_records t later ≡ own_records t log → undo_point t later ≡ undo_point t log

-- A heap word that t hasn't changed, and that is settled at v, may be taken up: the lane stays in step, v is its newest value, and the region
-- tracks this word beside the others.
pub record WordsAreTaken : Type 0 where
  pub in_step : (shape : Shape) (log : Log) (t a v : ℕ) (q : Progress) → (IsChanged log t a → ⊥) → IsInStep shape log t q → IsInStep shape log t (taking a v q)
  pub value : (shape : Shape) (log : Log) (t a v : ℕ) (q : Progress) → heap shape ≤ a → (IsChanged log t a → ⊥) → IsInStep shape log t q → newest (taking a v q) a ≡ v
  pub tracks : (shape : Shape) (log : Log) (t a v : ℕ) (q : Progress) (test : ℕ → Bool) (lane : ℕ) (region : Region) → heap shape ≤ a → (IsChanged log t a → ⊥) →
      IsInStep shape log t q → AreSettledAt (λ b. b ≡ a) (λ b. v) region → Tracks (λ b. IsTrue (test b)) lane q region →
      Tracks (λ b. IsTrue ((b == a) || test b)) lane (taking a v q) region

-- A write under force: up to its append the lane's progress is as it was, and in step; behind the store it is in step again.
pub record WritesSettle : Type 0 where
  pub same : (shape : Shape) (p : ℕ) (s : State) (u : Update) (q : Progress) (x : State) (z : Progress) →
      Goes shape p u.transaction s (write_parts Force u) q (write_parts Force u) x z → z ≡ q
  pub before : (shape : Shape) (p : ℕ) (s : State) (u : Update) (q : Progress) (x : State) (z : Progress) → IsSoundState shape s → heap shape ≤ u.word →
      IsInStep shape s.log u.transaction q → Goes shape p u.transaction s (write_parts Force u) q (write_parts Force u) x z → IsInStep shape x.log u.transaction z
  pub behind : (shape : Shape) (p : ℕ) (s : State) (u : Update) (q : Progress) (x : State) (z : Progress) → IsSoundState shape s → heap shape ≤ u.word →
      IsInStep shape s.log u.transaction q → Goes shape p u.transaction s (write_parts Force u) q [] x z → IsInStep shape x.log u.transaction z

-- wherever a lane has come in the giving back of a block
abbrev pub GivesSettle : Type 0
GivesSettle = (shape : Shape) (p : ℕ) (s : State) (g : Giving) (q : Progress) (rest : List Part) (x : State) (z : Progress) → IsSoundState shape s →
    IsInStep shape s.log g.transaction q → Goes shape p g.transaction s (give_parts g) q rest x z → IsInStep shape x.log g.transaction z

-- At the end of a commit under force each word that t changed has the last NEW, at each prefix of the append.
abbrev pub CommitsMeet : Type 0
CommitsMeet = (shape : Shape) (p t : ℕ) (s : State) (owners : List ℕ) (q : Progress) (rest : List Part) (x : State) (z : Progress) (h : Words) →
    IsSoundState shape s → AreNewest s.log t q → Goes shape p t s (commit_parts Force t owners) q (Append (cell_of_end t Committed) ∷ rest) x z →
    MayReach shape (IsChanged x.log t) z h → AreWritten shape x t h

-- So it is at the end of an undo.
abbrev pub AbortsMeet : Type 0
AbortsMeet = (shape : Shape) (p t : ℕ) (s : State) (updates : List Cell) (q : Progress) (rest : List Part) (x : State) (z : Progress) (h : Words) →
    IsSoundState shape s → CanAbort shape p t s.log updates → AreNewest s.log t q →
    Goes shape p t s (abort_parts Force t updates) q (Append (cell_of_end t RolledBack) ∷ rest) x z →
    MayReach shape (IsChanged x.log t) z h → AreLast shape x t h

-- under no-force both hold in any words
pub record NoForceMeets : Type 0 where
  pub written : (shape : Shape) (x : State) (t : ℕ) (h : Words) → shape.policy ≡ 2 → AreWritten shape x t h
  pub last : (shape : Shape) (x : State) (t : ℕ) (h : Words) → shape.policy ≡ 2 → AreLast shape x t h

-- Each image's own heap words are as they may be found: those that t changed, the owner words of blocks that it gave back, and any one word.
pub record HeapImagesReach : Type 0 where
  pub changed : (shape : Shape) (t : ℕ) (x : State) (test : ℕ → Bool) (lane : ℕ) (z : Progress) (events : List Event) (region : Region) (i : Words) →
      IsSoundState shape x → ((a : ℕ) → IsChanged x.log t a → IsTrue (test a)) → AreOnLog shape events → IsTrackedImage test lane z events region i →
      MayReach shape (IsChanged x.log t) z (heap_words shape i)
  pub owners : (shape : Shape) (t : ℕ) (s : State) (owners : List ℕ) (test : ℕ → Bool) (lane : ℕ) (z : Progress) (events : List Event) (region : Region) (i : Words) →
      IsSoundState shape s → AreGiven t s.log owners → ((a : ℕ) → IsAmong owners a → IsTrue (test a)) → AreOnLog shape events → IsTrackedImage test lane z events region i →
      MayReach shape (IsAmong owners) z (heap_words shape i)
  pub word : (shape : Shape) (a : ℕ) (test : ℕ → Bool) (lane : ℕ) (z : Progress) (events : List Event) (region : Region) (i : Words) →
      IsHeapWord shape a → IsTrue (test a) → AreOnLog shape events → IsTrackedImage test lane z events region i → MayReach shape (λ b. b ≡ a) z (heap_words shape i)
