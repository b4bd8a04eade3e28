use Rattle.std.proofs.Common.{refl, sym, subst, ◌+◌, arith}
use Rattle.persist_model.specs.State.{HasRoom}
use Rattle.persist_model.specs.Shape.{list_words}
use Rattle.persist_model.specs.Faults.{TriedEach, NoFault, parts}
use Rattle.region_layout.specs.Layout.{layout_shape}
use Rattle.log_tables.specs.Rows.{log_of_rows}
use Rattle.sound_check.proofs.LogTried.{room_more, room_here}
use Rattle.sound_check.proofs.log_rules.try_room.Goals as goal

pub loop-p-preserved : goal.loop-p-preserved
loop-p-preserved g c = λ s has q lt. room_more (layout_shape c.args.layout) (log_of_rows c.args.rows.now) s c.loop-p.p q (c.loop-p.invariant s has)
    (subst (HasRoom (layout_shape c.args.layout) (log_of_rows c.args.rows.now) c.loop-p.p) (c.room_of_part.ensures.room s has) (c.if-not-has_room.ensures.0 refl)) lt

pub returns-then-not-has_room-clause-fault : goal.returns-then-not-has_room-clause-fault
returns-then-not-has_room-clause-fault g c = λ s has.
    subst (λ n. TriedEach (λ q. HasRoom (layout_shape c.args.layout) (log_of_rows c.args.rows.now) q (s.room q)) 9 (λ q. list_words q + 1) (parts (layout_shape c.args.layout)) NoFault 9 (n + 1)) (sym c.list_words.ensures)
    (room_here (layout_shape c.args.layout) (log_of_rows c.args.rows.now) s c.loop-p.p c.loop-p-test.true (c.loop-p.invariant s has)
    (λ h. let e = c.has_room.ensures.1 (subst (HasRoom (layout_shape c.args.layout) (log_of_rows c.args.rows.now) c.loop-p.p) (sym (c.room_of_part.ensures.room s has)) h) in cc))

pub returns-clause-ok : goal.returns-clause-ok
returns-clause-ok g c = λ s has p lt. c.loop-p.invariant s has p (omega (arith, lt))
