use Rattle.std.specs.Prelude.{slice_index, length}
use Rattle.std.proofs.Common.{refl, inl, inr, ap, ◌+◌, ◌∙◌}
use Rattle.persist_model.specs.Shape.{list_words}
use Rattle.region_layout.specs.Layout.{layout_shape}
use Rattle.sound_check.specs.Rules.{IsWrongChange}
use Rattle.sound_check.proofs.Left.{fault_at}
use Rattle.sound_check.proofs.Readable.{can_read}
use Rattle.sound_check.proofs.points.try_changes.Goals as goal

pub is_single-requires : goal.is_single-requires
is_single-requires g c = record { long = (can_read c.args.layout c.args.p (length (g.W.Look.words c.args.words.now)) (slice_index (g.W.Look.words c.args.words.now)) c.args.visited.now c.args.chain.now c.requires).long }

pub has_arrived-requires-clause-last : goal.has_arrived-requires-clause-last
has_arrived-requires-clause-last g c = (can_read c.args.layout c.args.p (length (g.W.Look.words c.args.words.now)) (slice_index (g.W.Look.words c.args.words.now)) c.args.visited.now c.args.chain.now c.requires).last

pub may_append-requires-clause-node : goal.may_append-requires-clause-node
may_append-requires-clause-node g c = (can_read c.args.layout c.args.p (length (g.W.Look.words c.args.words.now)) (slice_index (g.W.Look.words c.args.words.now)) c.args.visited.now c.args.chain.now c.requires).appended

pub may_append-requires-clause-last : goal.may_append-requires-clause-last
may_append-requires-clause-last g c = (can_read c.args.layout c.args.p (length (g.W.Look.words c.args.words.now)) (slice_index (g.W.Look.words c.args.words.now)) c.args.visited.now c.args.chain.now c.requires).last_tail

pub returns-then-not-is_single-clause-fault : goal.returns-then-not-is_single-clause-fault
returns-then-not-is_single-clause-fault g c =
    fault_at (IsWrongChange (layout_shape c.args.layout) (list_words c.args.p) (slice_index (g.W.Look.words c.args.words.now)) c.args.visited.now c.args.chain.now) _ _ _ _ c.list_fault.ensures.0 (c.list_fault.ensures.1 ∙ ap (λ n. n + 4) c.list_words-base.ensures)
    (inl ((λ h. let e = c.is_single.ensures.1 h in cc), refl, refl))

pub returns-then-not-has_arrived-clause-fault : goal.returns-then-not-has_arrived-clause-fault
returns-then-not-has_arrived-clause-fault g c =
    fault_at (IsWrongChange (layout_shape c.args.layout) (list_words c.args.p) (slice_index (g.W.Look.words c.args.words.now)) c.args.visited.now c.args.chain.now) _ _ _ _ c.list_fault-then-not-has_arrived.ensures.0 (c.list_fault-then-not-has_arrived.ensures.1 ∙ c.list_words-base.ensures)
    (inr (c.if-not-is_single.ensures.0 refl, inl ((λ h. let e = c.has_arrived.ensures.1 h in cc), refl, refl)))

pub returns-then-not-may_append-clause-fault : goal.returns-then-not-may_append-clause-fault
returns-then-not-may_append-clause-fault g c =
    fault_at (IsWrongChange (layout_shape c.args.layout) (list_words c.args.p) (slice_index (g.W.Look.words c.args.words.now)) c.args.visited.now c.args.chain.now) _ _ _ _ c.list_fault-then-not-may_append.ensures.0 (c.list_fault-then-not-may_append.ensures.1 ∙ ap (λ n. n + 2) c.list_words-base.ensures)
    (inr (c.if-not-is_single.ensures.0 refl, inr (c.if-not-has_arrived.ensures.0 refl, inl ((λ h. let e = c.may_append.ensures.1 h in cc), refl, refl))))

pub returns-then-not-may_remove-clause-fault : goal.returns-then-not-may_remove-clause-fault
returns-then-not-may_remove-clause-fault g c =
    fault_at (IsWrongChange (layout_shape c.args.layout) (list_words c.args.p) (slice_index (g.W.Look.words c.args.words.now)) c.args.visited.now c.args.chain.now) _ _ _ _ c.list_fault-then-not-may_remove.ensures.0 (c.list_fault-then-not-may_remove.ensures.1 ∙ ap (λ n. n + 4) c.list_words-base.ensures)
    (inr (c.if-not-is_single.ensures.0 refl, inr (c.if-not-has_arrived.ensures.0 refl, inr (c.if-not-may_append.ensures.0 refl, inl ((λ h. let e = c.may_remove.ensures.1 h in cc), refl, refl)))))

pub returns-clause-ok : goal.returns-clause-ok
returns-clause-ok g c = record {
  single = c.if-not-is_single.ensures.0 refl;
  arrived = c.if-not-has_arrived.ensures.0 refl;
  appending = c.if-not-may_append.ensures.0 refl;
  removing = c.if-not-may_remove.ensures.0 refl;
}
