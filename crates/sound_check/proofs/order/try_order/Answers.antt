use Rattle.std.proofs.Common.{take, sym, subst, arith}
use Rattle.std.proofs.lemmas.List.{take_all}
use Rattle.persist_model.specs.Shape.{part_of}
use Rattle.persist_model.specs.Order.{Follows}
use Rattle.log_laws.proofs.LogFaults.{all_follow}
use Rattle.log_laws.proofs.Tries.{AllGood}
use Rattle.region_layout.specs.Layout.{layout_shape}
use Rattle.log_tables.specs.Rows.{log_of_rows}
use Rattle.log_tables.specs.Passed.{IsPast}
use Rattle.sound_check.specs.Barring.{is_barring}
use Rattle.log_tables.proofs.Rows.{log_next, log_short}
use Rattle.sound_check.proofs.Oldest.{good_next, first_bad}
use Rattle.sound_check.proofs.order.try_order.Goals as goal

pub loop-i-init : goal.loop-i-init
loop-i-init c = record {
  good = tt;
  past = c.new-past.ensures (part_of (layout_shape c.args.layout)) (is_barring (log_of_rows c.args.rows.now));
}

pub add-requires : goal.add-requires
add-requires c = (
  is_barring (log_of_rows c.args.rows.now),
  log_of_rows (take c.loop-i.i c.args.rows.now),
  c.loop-i.invariant.past,
  (let short = log_short c.loop-i.i c.args.rows.now in omega (arith, short)),
  ((c.follows.ensures (log_of_rows c.args.rows.now) (log_of_rows (take c.loop-i.i c.args.rows.now)) c.requires c.loop-i.invariant.past).0 c.if-not-follows.false).fresh,
)

pub loop-i-preserved : goal.loop-i-preserved
loop-i-preserved c = record {
  good = good_next (Follows (part_of (layout_shape c.args.layout)) (log_of_rows c.args.rows.now)) c.args.rows.now c.loop-i.i _ (omega arith) c.loop-i.invariant.good
      ((c.follows.ensures (log_of_rows c.args.rows.now) (log_of_rows (take c.loop-i.i c.args.rows.now)) c.requires c.loop-i.invariant.past).0 c.if-not-follows.false);
  past = subst (IsPast (part_of (layout_shape c.args.layout)) (is_barring (log_of_rows c.args.rows.now)) c.add.new.self) (sym (log_next c.args.rows.now c.loop-i.i _ (omega arith)))
      (c.in_ok-add.ensures (is_barring (log_of_rows c.args.rows.now)) (log_of_rows (take c.loop-i.i c.args.rows.now)) (c.is_barring.ensures _ (log_of_rows c.args.rows.now) c.requires) c.loop-i.invariant.past);
}

pub returns-then-not-follows-clause-fault : goal.returns-then-not-follows-clause-fault
returns-then-not-follows-clause-fault c = first_bad (Follows (part_of (layout_shape c.args.layout)) (log_of_rows c.args.rows.now)) 8 c.args.rows.now c.loop-i.i _ (omega arith) c.loop-i.invariant.good
    (λ h. let e = (c.follows.ensures (log_of_rows c.args.rows.now) (log_of_rows (take c.loop-i.i c.args.rows.now)) c.requires c.loop-i.invariant.past).1 h in cc)

pub returns-clause-ok : goal.returns-clause-ok
returns-clause-ok c = all_follow (part_of (layout_shape c.args.layout)) (log_of_rows c.args.rows.now) (log_of_rows c.args.rows.now)
    (subst (λ rows. AllGood (Follows (part_of (layout_shape c.args.layout)) (log_of_rows c.args.rows.now)) (log_of_rows rows)) (take_all c.loop-i.i c.args.rows.now (omega arith)) c.loop-i.invariant.good)
