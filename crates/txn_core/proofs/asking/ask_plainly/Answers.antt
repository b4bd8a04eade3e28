use Rattle.lane_book.proofs.Asking.{on_ok}
use Rattle.std.proofs.Common.{sym, subst}
use Rattle.lane_book.specs.declared.lane.Doing.TheVariants as Doing
use Rattle.txn_core.specs.Asking.{AppendsNothing, IsAsked}
use Rattle.txn_core.specs.Asking as asking
use Rattle.txn_core.proofs.AskedCalls.{quietly_asked, quietly_lacks}
use Rattle.txn_core.proofs.AskedFaces.{on_ok_two}
use Rattle.txn_core.proofs.Facts.{is_book}
use Rattle.txn_core.proofs.AskedWriting.{on_err_two}
use Rattle.txn_core.proofs.AskedExactly.{quiet_may}
use Rattle.txn_core.specs.Exact.{MayMake}
use Rattle.std.specs.Prelude.{OnOk}
use Rattle.lane_book.proofs.Asking.{on_err}
use Rattle.txn_core.proofs.asking.ask_plainly.Goals as goal

pub ask_quiet-requires-clause-quiet : goal.ask_quiet-requires-clause-quiet
ask_quiet-requires-clause-quiet g c = subst (λ call. AppendsNothing call (Doing.Begin c.in-Begin.set)) (sym c.in-Begin.is) asking.begin

pub ask_quiet-requires-clause-book : goal.ask_quiet-requires-clause-book
ask_quiet-requires-clause-book g c = is_book g.E.Deed.meaning c.args.layout c.args.book.now c.args.log.now (g.D.Device.cells c.args.device.now) (g.D.Device.spare c.args.device.now)
    (g.D.Device.counts c.args.device.now) c.requires.world

pub returns-in-Begin-clause-asked : goal.returns-in-Begin-clause-asked
returns-in-Begin-clause-asked g c = on_ok_two c.ask_quiet.result
    (quietly_asked g.E.Deed.meaning c.args.layout c.args.call.now c.args.book.now c.ask_quiet.new.book c.args.log.now (g.D.Device.cells c.args.device.now) (g.D.Device.spare c.args.device.now)
    (g.D.Device.counts c.args.device.now) c.args.lane c.ask_quiet.ensures.phased) c.ask_quiet.ensures.stays c.ask_quiet.ensures.face

pub returns-in-Begin-clause-lacks : goal.returns-in-Begin-clause-lacks
returns-in-Begin-clause-lacks g c = on_err_two c.ask_quiet.result
    (quietly_lacks g.E.Deed.meaning c.args.layout c.args.call.now c.args.book.now c.ask_quiet.new.book c.args.log.now (g.D.Device.cells c.args.device.now) (g.D.Device.spare c.args.device.now)
    (g.D.Device.counts c.args.device.now) c.args.lane c.ask_quiet.ensures.phased) c.ask_quiet.ensures.still c.ask_quiet.ensures.same_face

pub ask_quiet-requires-in-Read-clause-quiet : goal.ask_quiet-requires-in-Read-clause-quiet
ask_quiet-requires-in-Read-clause-quiet g c = subst (λ call. AppendsNothing call (Doing.Read c.in-Read.a)) (sym c.in-Read.is) asking.read

pub ask_quiet-requires-in-Read-clause-book : goal.ask_quiet-requires-in-Read-clause-book
ask_quiet-requires-in-Read-clause-book g c = is_book g.E.Deed.meaning c.args.layout c.args.book.now c.args.log.now (g.D.Device.cells c.args.device.now) (g.D.Device.spare c.args.device.now)
    (g.D.Device.counts c.args.device.now) c.requires.world

pub returns-in-Read-clause-asked : goal.returns-in-Read-clause-asked
returns-in-Read-clause-asked g c = on_ok_two c.ask_quiet-in-Read.result
    (quietly_asked g.E.Deed.meaning c.args.layout c.args.call.now c.args.book.now c.ask_quiet-in-Read.new.book c.args.log.now (g.D.Device.cells c.args.device.now) (g.D.Device.spare c.args.device.now)
    (g.D.Device.counts c.args.device.now) c.args.lane c.ask_quiet-in-Read.ensures.phased) c.ask_quiet-in-Read.ensures.stays c.ask_quiet-in-Read.ensures.face

pub returns-in-Read-clause-lacks : goal.returns-in-Read-clause-lacks
returns-in-Read-clause-lacks g c = on_err_two c.ask_quiet-in-Read.result
    (quietly_lacks g.E.Deed.meaning c.args.layout c.args.call.now c.args.book.now c.ask_quiet-in-Read.new.book c.args.log.now (g.D.Device.cells c.args.device.now) (g.D.Device.spare c.args.device.now)
    (g.D.Device.counts c.args.device.now) c.args.lane c.ask_quiet-in-Read.ensures.phased) c.ask_quiet-in-Read.ensures.still c.ask_quiet-in-Read.ensures.same_face

pub ask_quiet-requires-in-Checkpoint-clause-quiet : goal.ask_quiet-requires-in-Checkpoint-clause-quiet
ask_quiet-requires-in-Checkpoint-clause-quiet g c = subst (λ call. AppendsNothing call Doing.Checkpoint) (sym c.in-Checkpoint.is) asking.checkpoint

pub ask_quiet-requires-in-Checkpoint-clause-book : goal.ask_quiet-requires-in-Checkpoint-clause-book
ask_quiet-requires-in-Checkpoint-clause-book g c = is_book g.E.Deed.meaning c.args.layout c.args.book.now c.args.log.now (g.D.Device.cells c.args.device.now) (g.D.Device.spare c.args.device.now)
    (g.D.Device.counts c.args.device.now) c.requires.world

pub returns-in-Checkpoint-clause-asked : goal.returns-in-Checkpoint-clause-asked
returns-in-Checkpoint-clause-asked g c = on_ok_two c.ask_quiet-in-Checkpoint.result
    (quietly_asked g.E.Deed.meaning c.args.layout c.args.call.now c.args.book.now c.ask_quiet-in-Checkpoint.new.book c.args.log.now (g.D.Device.cells c.args.device.now) (g.D.Device.spare c.args.device.now)
    (g.D.Device.counts c.args.device.now) c.args.lane c.ask_quiet-in-Checkpoint.ensures.phased) c.ask_quiet-in-Checkpoint.ensures.stays c.ask_quiet-in-Checkpoint.ensures.face

pub returns-in-Checkpoint-clause-lacks : goal.returns-in-Checkpoint-clause-lacks
returns-in-Checkpoint-clause-lacks g c = on_err_two c.ask_quiet-in-Checkpoint.result
    (quietly_lacks g.E.Deed.meaning c.args.layout c.args.call.now c.args.book.now c.ask_quiet-in-Checkpoint.new.book c.args.log.now (g.D.Device.cells c.args.device.now) (g.D.Device.spare c.args.device.now)
    (g.D.Device.counts c.args.device.now) c.args.lane c.ask_quiet-in-Checkpoint.ensures.phased) c.ask_quiet-in-Checkpoint.ensures.still c.ask_quiet-in-Checkpoint.ensures.same_face

pub returns-in-Begin-clause-owes : goal.returns-in-Begin-clause-owes
returns-in-Begin-clause-owes g c = on_ok c.ask_quiet.result
    (quiet_may c.args.layout c.args.call.now c.args.book.now c.ask_quiet.new.book c.args.lane) c.ask_quiet.ensures.owes

pub returns-in-Read-clause-owes : goal.returns-in-Read-clause-owes
returns-in-Read-clause-owes g c = on_ok c.ask_quiet-in-Read.result
    (quiet_may c.args.layout c.args.call.now c.args.book.now c.ask_quiet-in-Read.new.book c.args.lane) c.ask_quiet-in-Read.ensures.owes

pub returns-in-Checkpoint-clause-owes : goal.returns-in-Checkpoint-clause-owes
returns-in-Checkpoint-clause-owes g c = on_ok c.ask_quiet-in-Checkpoint.result
    (quiet_may c.args.layout c.args.call.now c.args.book.now c.ask_quiet-in-Checkpoint.new.book c.args.lane) c.ask_quiet-in-Checkpoint.ensures.owes

pub returns-in-Write-clause-owes : goal.returns-in-Write-clause-owes
returns-in-Write-clause-owes g c = subst (λ call. OnOk c.ask_write.result (MayMake c.args.layout call c.args.book.now c.ask_write.new.book c.args.lane)) (sym c.in-Write.is) c.ask_write.ensures.owes

pub returns-in-Abort-clause-owes : goal.returns-in-Abort-clause-owes
returns-in-Abort-clause-owes g c = subst (λ call. OnOk c.ask_abort.result (MayMake c.args.layout call c.args.book.now c.ask_abort.new.book c.args.lane)) (sym c.in-Abort.is) c.ask_abort.ensures.owes

pub returns-in-Abort-clause-asked : goal.returns-in-Abort-clause-asked
returns-in-Abort-clause-asked g c =
    subst (λ call. OnOk c.ask_abort.result (IsAsked g.E.Deed.meaning c.args.layout call c.args.book.now c.ask_abort.new.book c.args.log.now c.ask_abort.new.log
    (g.D.Device.cells c.args.device.now) (g.D.Device.spare c.args.device.now) (g.D.Device.spare c.ask_abort.new.device) (g.D.Device.counts c.args.device.now) c.args.lane)) (sym c.in-Abort.is)
    (on_ok_two c.ask_abort.result (λ face stays. record { stays = stays; face = face; phased = c.ask_abort.ensures.phased }) c.ask_abort.ensures.face c.ask_abort.ensures.stays)

pub returns-in-Begin-clause-unasked : goal.returns-in-Begin-clause-unasked
returns-in-Begin-clause-unasked g c = on_err c.ask_quiet.result (λ quiet. quiet c.args.log.now (g.D.Device.spare c.args.device.now)) c.ask_quiet.ensures.unasked

pub returns-in-Read-clause-unasked : goal.returns-in-Read-clause-unasked
returns-in-Read-clause-unasked g c = on_err c.ask_quiet-in-Read.result (λ quiet. quiet c.args.log.now (g.D.Device.spare c.args.device.now)) c.ask_quiet-in-Read.ensures.unasked

pub returns-in-Checkpoint-clause-unasked : goal.returns-in-Checkpoint-clause-unasked
returns-in-Checkpoint-clause-unasked g c = on_err c.ask_quiet-in-Checkpoint.result (λ quiet. quiet c.args.log.now (g.D.Device.spare c.args.device.now)) c.ask_quiet-in-Checkpoint.ensures.unasked
