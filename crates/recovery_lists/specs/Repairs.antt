-- The repair of the list of one partition, in the form of states.
use Rattle.std.specs.Prelude.{◌≡◌, ℕ, ◌<◌, List, length, map}
use Rattle.persist_model.specs.declared.event.Event.{Event}
use Rattle.persist_model.specs.Region.{Words}
use Rattle.persist_model.specs.Progress.{Reaches}
use Rattle.persist_model.specs.Runs.{progress_at}
use Rattle.persist_model.specs.Shape.{Shape, heap, heap_words, log_words}
use Rattle.persist_model.specs.Chain.{view, out_event}
use Rattle.persist_model.specs.State.{State}
use Rattle.persist_model.specs.Sound.{HasChain, HasState}
use Rattle.log_laws.specs.Parts.{AreDurable}
use Rattle.log_laws.specs.Recovering.{with_heap, AreOnLog}
use Rattle.atomic_list.specs.declared.repairing.Repair.{Repair}
use Rattle.atomic_list.specs.Plans.{repair_plan, repair_asked}
use Rattle.region_layout.specs.Layout.{IsAllowed}
use Rattle.bucket_log.specs.Words.{IsPartWord}
use Rattle.recovery_run.specs.Reached.{IsQuiet}

-- the log words as partition p sees them
abbrev pub seen : Shape → ℕ → Words → Words
seen shape p w = view p (log_words shape w)

-- what the partition's recovery words ask for
abbrev pub asked_in : Shape → ℕ → Words → Repair
asked_in shape p w = repair_asked (seen shape p w)

-- the events of a repair on the region
abbrev pub region_repair : ℕ → Repair → List Event
region_repair p r = map (out_event p) (repair_plan r)

-- Each image of each prefix has the state as it was, with the heap words of the image, the same chain in the partition, and the same
-- words outside it. In the last no recovery word of the partition asks for a repair.
pub record IsRepair (shape : Shape) (p : ℕ) (w : Words) (s : State) (plan : List Event) : Type 0 where
  pub on_log : AreOnLog shape plan
  pub durable : AreDurable plan
  pub images : (k : ℕ) (v : Words) → Reaches (λ a. a < heap shape) (progress_at w plan k) v → HasState shape v (with_heap s (heap_words shape v))
  pub chain : (k : ℕ) (v : Words) → Reaches (λ a. a < heap shape) (progress_at w plan k) v → (xs : List ℕ) → HasChain shape w p xs → HasChain shape v p xs
  pub others : (k : ℕ) (v : Words) → Reaches (λ a. a < heap shape) (progress_at w plan k) v → (a : ℕ) → a < heap shape → (IsPartWord shape p a → ⊥) → v a ≡ w a
  pub last : (v : Words) → Reaches (λ a. a < heap shape) (progress_at w plan (length plan)) v → IsQuiet p v

-- ---- the law

-- the repair that a partition's recovery words ask for keeps the state, and leaves the partition quiet
abbrev pub RepairsAreStates : Type 0
RepairsAreStates = (shape : Shape) (p : ℕ) (w : Words) (s : State) → IsAllowed shape → p < shape.partitions → HasState shape w s →
    IsRepair shape p w s (region_repair p (asked_in shape p w))
