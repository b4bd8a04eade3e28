use Rattle.std.specs.Prelude.{slice_index}
use Rattle.persist_model.specs.Region.{Words}
use Rattle.persist_model.specs.Shape.{log_words}
use Rattle.persist_model.specs.State.{State}
use Rattle.persist_model.specs.Sound.{HasState}
use Rattle.atomic_list.specs.Reads.{SameLog}
use Rattle.region_layout.specs.Layout.{layout_shape}
use Rattle.log_partition.proofs.Merged.{IsGathered}
use Rattle.log_partition.proofs.gathering.merge.Given as goal

abbrev pub invariant-loop-p : goal.invariant-loop-p
invariant-loop-p g l = (v : Words) (s : State) → SameLog (slice_index (g.W.Look.words l.words)) v → (has : HasState (layout_shape l.layout) v s)
    → IsGathered (layout_shape l.layout) (log_words (layout_shape l.layout) v) has.chains l.p l.found.items
