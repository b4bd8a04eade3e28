use Rattle.std.proofs.Common.{refl}
use Rattle.persist_model.specs.Shape.{part_of}
use Rattle.region_layout.specs.Layout.{layout_shape}
use Rattle.bucket_log.specs.Scans.{record_of_placed}
use Rattle.sound_check.proofs.Ordering.{follows_alone, follows_by, follows_no_end}
use Rattle.sound_check.proofs.Asking.{told_none}
use Rattle.sound_check.proofs.order.follows.Goals as goal

pub returns-then-has_number : goal.returns-then-has_number
returns-then-has_number c = λ log earlier whole past. (
  (λ t. cc),
  (λ f. let k = (c.has_number.ensures _ _ earlier past).0 c.if-has_number.true in absurd (f.fresh k.0 k.1 k.2)),
)

pub returns-then-r-eq-CHECKPOINT : goal.returns-then-r-eq-CHECKPOINT
returns-then-r-eq-CHECKPOINT c = λ log earlier whole past. (
  (λ t. follows_alone (part_of (layout_shape c.args.layout)) log earlier (record_of_placed c.args.r.now) c.if-r-eq-CHECKPOINT.true (told_none _ earlier c.has_number.result (c.has_number.ensures _ _ earlier past) c.if-has_number.false)),
  (λ f. refl),
)

pub returns-then-is_scattered : goal.returns-then-is_scattered
returns-then-is_scattered c = λ log earlier whole past. (
  (λ t. cc),
  (λ f. let k = (c.is_scattered.ensures earlier (c.of-own.ensures _ _ earlier past)).0 c.if-is_scattered.true in absurd (f.one_part k.0 k.1 (k.2.0, c.if-r-eq-CHECKPOINT.false, k.2.1))),
)

pub returns-then-has_end : goal.returns-then-has_end
returns-then-has_end c = λ log earlier whole past. (
  (λ t. cc),
  (λ f. absurd (follows_no_end _ _ _ (record_of_placed c.args.r.now) c.if-r-eq-CHECKPOINT.false ((c.has_end.ensures _ _ earlier (c.of-own.ensures _ _ earlier past)).0 c.if-has_end.true) f)),
)

pub returns-then-is_barred : goal.returns-then-is_barred
returns-then-is_barred c = λ log earlier whole past. (
  (λ t. cc),
  (λ f. let k = (c.is_barred.ensures _ log earlier past).0 c.if-is_barred.true in absurd (f.word k.0 k.1.0 k.1.1 k.1.2)),
)

pub returns-then-has_end-2 : goal.returns-then-has_end-2
returns-then-has_end-2 c = λ log earlier whole past. (
  (λ t. follows_by (part_of (layout_shape c.args.layout)) log earlier (record_of_placed c.args.r.now)
      (told_none _ earlier c.has_number.result (c.has_number.ensures _ _ earlier past) c.if-has_number.false)
      (told_none _ earlier c.is_scattered.result (c.is_scattered.ensures earlier (c.of-own.ensures _ _ earlier past)) c.if-is_scattered.false)
      (λ h. let e = (c.has_end.ensures _ _ earlier (c.of-own.ensures _ _ earlier past)).1 h in cc)
      (λ k s m p. let e = (c.is_barred.ensures _ log earlier past).1 (k, (s, m, p)) in cc)
      (λ running. let h = (c.has_end-2.ensures _ _ log (c.of.ensures.summary _ log whole)).0 c.if-has_end-2.true in absurd (running h.0 h.1 h.2))),
  (λ f. refl),
)

pub returns : goal.returns
returns c = λ log earlier whole past. (
  (λ t. follows_by (part_of (layout_shape c.args.layout)) log earlier (record_of_placed c.args.r.now)
      (told_none _ earlier c.has_number.result (c.has_number.ensures _ _ earlier past) c.if-has_number.false)
      (told_none _ earlier c.is_scattered.result (c.is_scattered.ensures earlier (c.of-own.ensures _ _ earlier past)) c.if-is_scattered.false)
      (λ h. let e = (c.has_end.ensures _ _ earlier (c.of-own.ensures _ _ earlier past)).1 h in cc)
      (λ k s m p. let e = (c.is_barred.ensures _ log earlier past).1 (k, (s, m, p)) in cc)
      (λ running. (c.undoes_well.ensures _ _ earlier past (c.of-own.ensures _ _ earlier past)).0 t)),
  (λ f. (c.undoes_well.ensures _ _ earlier past (c.of-own.ensures _ _ earlier past)).1 (f.undo c.if-r-eq-CHECKPOINT.false
      (told_none _ log c.has_end-2.result (c.has_end-2.ensures _ _ log (c.of.ensures.summary _ log whole)) c.if-has_end-2.false))),
)
