use Rattle.std.specs.Prelude.{slice_index}
use Rattle.std.proofs.Common.{suc, ◌-◌, length}
use Rattle.persist_model.specs.Shape.{IsBucketOf, count_buckets}
use Rattle.region_layout.specs.Layout.{layout_shape}
use Rattle.log_laws.proofs.Visiting.{IsGoing}
use Rattle.sound_check.specs.Walks.{AreMarks}
use Rattle.sound_check.proofs.walk.visit.Given as goal

abbrev pub invariant-loop-b : goal.invariant-loop-b
invariant-loop-b g l = record {
  going : IsGoing (IsBucketOf (layout_shape l.layout) l.p) (slice_index (g.W.Look.words l.words)) l.visited.items;
  marks : AreMarks l.marks l.visited.items;
}

abbrev pub decreases-loop-b : goal.decreases-loop-b
decreases-loop-b g l = suc (count_buckets (layout_shape l.layout) l.p) - length l.visited.items
