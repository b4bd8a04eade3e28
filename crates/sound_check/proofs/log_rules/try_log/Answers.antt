use Rattle.std.specs.Prelude.{slice_index}
use Rattle.std.proofs.Common.{refl}
use Rattle.std.proofs.lemmas.Result.{err_from_is_err_and}
use Rattle.region_layout.specs.Layout.{layout_shape}
use Rattle.log_tables.specs.Rows.{log_of_rows}
use Rattle.sound_check.proofs.PartsTried.{unsound_as}
use Rattle.sound_check.proofs.LogTried.{record_fault, order_fault, room_fault, numbers_fault, log_holds}
use Rattle.sound_check.proofs.log_rules.try_log.Goals as goal

pub returns-in_err-try_records-clause-fault : goal.returns-in_err-try_records-clause-fault
returns-in_err-try_records-clause-fault g c =
    let p = err_from_is_err_and c.from_residual.result c.from_residual.ensures.1 in
    rw (p.1, p.2) (record_fault (layout_shape c.args.layout) (slice_index (g.W.Look.words c.args.words.now)) (log_of_rows c.args.rows.now) _ _ c.in_err-try_records.ensures.fault)

pub returns-in_err-try_order-clause-fault : goal.returns-in_err-try_order-clause-fault
returns-in_err-try_order-clause-fault g c =
    let p = err_from_is_err_and c.from_residual-in_err-try_order.result c.from_residual-in_err-try_order.ensures.1 in
    rw (p.1, p.2) (unsound_as c.in_err-try_order.field-0.0 _ _ (λ i a f. order_fault (layout_shape c.args.layout) (slice_index (g.W.Look.words c.args.words.now)) (log_of_rows c.args.rows.now) i a c.in_ok-try_records.ensures.ok f) c.in_err-try_order.ensures.fault)

pub returns-in_err-try_room-clause-fault : goal.returns-in_err-try_room-clause-fault
returns-in_err-try_room-clause-fault g c =
    let p = err_from_is_err_and c.from_residual-in_err-try_room.result c.from_residual-in_err-try_room.ensures.1 in
    rw (p.1, p.2) (room_fault (layout_shape c.args.layout) (slice_index (g.W.Look.words c.args.words.now)) (log_of_rows c.args.rows.now) _ _ c.in_ok-try_records.ensures.ok c.in_ok-try_order.ensures.ok c.in_err-try_room.ensures.fault)

pub returns-then-not-keeps_numbers-clause-fault : goal.returns-then-not-keeps_numbers-clause-fault
returns-then-not-keeps_numbers-clause-fault g c =
    numbers_fault (layout_shape c.args.layout) (slice_index (g.W.Look.words c.args.words.now)) (log_of_rows c.args.rows.now) c.in_ok-try_records.ensures.ok c.in_ok-try_order.ensures.ok c.in_ok-try_room.ensures.ok (λ h. let e = c.keeps_numbers.ensures.1 h in cc)

pub returns-clause-ok : goal.returns-clause-ok
returns-clause-ok g c = log_holds (layout_shape c.args.layout) (slice_index (g.W.Look.words c.args.words.now)) (log_of_rows c.args.rows.now) c.in_ok-try_records.ensures.ok c.in_ok-try_order.ensures.ok c.in_ok-try_room.ensures.ok (c.if-not-keeps_numbers.ensures.0 refl)
