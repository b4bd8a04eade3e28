-- What stands where no record decides, and how the history grows.
use Rattle.std.specs.Prelude.{◌≡◌, ℕ, List, [], ◌∷◌, ◌++◌, length}
use Rattle.persist_model.specs.Region.{Words, Region, MayStand}
use Rattle.persist_model.specs.Progress.{AreSettledAt}
use Rattle.persist_model.specs.Records.{Log}
use Rattle.persist_model.specs.Standing.{Stands}
use Rattle.persist_model.specs.Shape.{Shape, heap_words, words_of_shape, IsHeapWord}
use Rattle.persist_model.specs.State.{State}
use Rattle.log_laws.specs.Recovery.{HasDecidingRecord}
use Rattle.bucket_log.specs.declared.append.Place.{Place}
use Rattle.bucket_log.specs.Appends.{region_append}
use Rattle.persist_model.specs.declared.kinds.Outcome.TheVariants.{Committed}
use Rattle.plan_records.specs.Cells.{appended}
use Rattle.region_layout.specs.RecordCells.{cell_of_end}
use Rattle.plan_records.specs.Appends.{MayAppend, MayStandAt, with_record}
use Rattle.plan_records.specs.Conditions.{IsOfOpen, AreWritten}
use Rattle.history_laws.specs.Histories.{Entry, fold}
use Rattle.history_laws.specs.Moments.{IsEntryOf}

-- whatever a stop leaves in the heap, by these records it stands for the history, whose heap is h
abbrev pub StandsForHistory : Shape → Log → Words → Region → Type 0
StandsForHistory shape log h region =
    (i : Words) → MayStand i region → (a : ℕ) → IsHeapWord shape a → Stands shape.policy log (heap_words shape i) a (h a)

-- a word of the heap whose standing value no record decides
abbrev pub IsUncovered : Shape → Log → ℕ → Type 0
IsUncovered shape log a = IsHeapWord shape a × (HasDecidingRecord shape.policy log a → ⊥)

-- Such words are settled, at their values in the history's heap. w are any words that a stop may leave.
abbrev pub UncoveredAreSettled : Type 0
UncoveredAreSettled = (shape : Shape) (log : Log) (h w : Words) (region : Region) → region.size ≡ words_of_shape shape → MayStand w region →
    StandsForHistory shape log h region → AreSettledAt (IsUncovered shape log) h region

-- Behind the last event of the append of a commit's end the words stand for the history with the transaction's entry, which has what its
-- records say. So the history grows at the fence behind the end.
abbrev pub HistoryGrows : Type 0
HistoryGrows = (shape : Shape) (p : ℕ) (base v : Words) (s : State) (chain : List ℕ) (place : Place) (number transaction : ℕ) (start : Words) (history : List Entry) (entry : Entry) →
    let e = appended place number (cell_of_end transaction Committed) in
    MayAppend shape p base s chain place e → IsOfOpen shape s e 1 → AreWritten shape s transaction (heap_words shape v) → IsEntryOf s.log (fold start history) transaction entry →
    MayStandAt shape base (region_append shape p place e) (length (region_append shape p place e)) v →
    ((a : ℕ) → IsHeapWord shape a → Stands shape.policy s.log (heap_words shape v) a (fold start history a)) →
    (a : ℕ) → IsHeapWord shape a → Stands shape.policy (with_record p s e).log (heap_words shape v) a (fold start (history ++ entry ∷ []) a)
