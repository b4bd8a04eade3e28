use Rattle.std.specs.Prelude.{slice_index}
use Rattle.std.proofs.Common.{sym, subst, refl}
use Rattle.persist_model.specs.Shape.{IsBucketOf}
use Rattle.persist_model.specs.Chain.{AreBuckets}
use Rattle.region_layout.specs.Layout.{layout_shape}
use Rattle.log_laws.proofs.Visiting.{IsGoing, going_begins, going_ends}
use Rattle.sound_check.specs.Walks.{GoesTo, HasStopped, AreMarks}
use Rattle.sound_check.proofs.Going.{going_push, going_falls}
use Rattle.sound_check.proofs.walk.visit.Goals as goal

pub loop-b-init : goal.loop-b-init
loop-b-init g c = record {
  going = subst (IsGoing (IsBucketOf (layout_shape c.args.layout) c.args.p) (slice_index (g.W.Look.words c.args.words.now))) (sym c.new-visited.ensures.items) (going_begins _ _);
  marks = subst (AreMarks c.new-marks.result) (sym c.new-visited.ensures.items) (λ b. rw c.new-marks.ensures.empty refl);
}

pub next_visit-requires-clause-buckets : goal.next_visit-requires-clause-buckets
next_visit-requires-clause-buckets g c = subst (AreBuckets (IsBucketOf (layout_shape c.args.layout) c.args.p)) (sym c.as_slice.ensures.value) c.loop-b.invariant.going.buckets

pub loop-b-preserved : goal.loop-b-preserved
loop-b-preserved g c = record {
  going = going_push (layout_shape c.args.layout) c.args.p (slice_index (g.W.Look.words c.args.words.now)) c.loop-b.visited.items c.push.new.buckets.items c.in-Some.b c.loop-b.invariant.going
      (subst (λ xs. GoesTo (IsBucketOf (layout_shape c.args.layout) c.args.p) (slice_index (g.W.Look.words c.args.words.now)) xs c.in-Some.b) c.as_slice.ensures.value c.in-Some.ensures) c.in_ok-push.ensures;
  marks = subst (AreMarks c.mark.new.marks) (sym c.in_ok-push.ensures) (c.in_ok-mark.ensures c.loop-b.visited.items c.loop-b.invariant.marks);
}

pub next_visit-requires-clause-marks : goal.next_visit-requires-clause-marks
next_visit-requires-clause-marks g c = subst (AreMarks c.loop-b.marks) (sym c.as_slice.ensures.value) c.loop-b.invariant.marks

pub loop-b-smaller : goal.loop-b-smaller
loop-b-smaller g c = going_falls (layout_shape c.args.layout) c.args.p (slice_index (g.W.Look.words c.args.words.now)) c.loop-b.visited.items c.push.new.buckets.items c.in-Some.b c.loop-b.invariant.going
    (subst (λ xs. GoesTo (IsBucketOf (layout_shape c.args.layout) c.args.p) (slice_index (g.W.Look.words c.args.words.now)) xs c.in-Some.b) c.as_slice.ensures.value c.in-Some.ensures) c.in_ok-push.ensures

pub returns : goal.returns
returns g c = going_ends _ _ _ c.loop-b.invariant.going
    (subst (HasStopped (IsBucketOf (layout_shape c.args.layout) c.args.p) (slice_index (g.W.Look.words c.args.words.now))) c.as_slice.ensures.value c.in_default.ensures)
