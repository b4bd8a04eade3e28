use Rattle.std.proofs.Common.{refl, sym, ◌∙◌}
use Rattle.lane_book.specs.declared.lane.Doing.TheVariants as Doing
use Rattle.txn_core.proofs.Unbuilt.{unbuilt_never, give_never}
use Rattle.txn_core.proofs.Exactly.{goes_on_exactly}
use Rattle.txn_core.proofs.WorldLatches.{begins_keep}
use Rattle.txn_core.proofs.stepping.step.Goals as goal

pub stop-requires-in-Give-clause-stopped : goal.stop-requires-in-Give-clause-stopped
stop-requires-in-Give-clause-stopped g c = absurd (give_never _ _ _ _ _ _ (g.D.Device.counts c.args.device.now) c.args.lane c.in-Give.field-0 c.requires.lane (sym c.doing.ensures ∙ c.in-Give.is)
    c.requires.world)

pub stop-requires-in-Batch-clause-stopped : goal.stop-requires-in-Batch-clause-stopped
stop-requires-in-Batch-clause-stopped g c = absurd (unbuilt_never _ _ _ _ _ _ (g.D.Device.counts c.args.device.now) c.args.lane (Doing.Batch c.in-Batch.field-0) c.requires.lane (sym c.doing.ensures ∙ c.in-Batch.is) refl
    c.requires.world)

pub stop-requires-in-Savepoint-clause-stopped : goal.stop-requires-in-Savepoint-clause-stopped
stop-requires-in-Savepoint-clause-stopped g c = absurd (unbuilt_never _ _ _ _ _ _ (g.D.Device.counts c.args.device.now) c.args.lane (Doing.Savepoint) c.requires.lane (sym c.doing.ensures ∙ c.in-Savepoint.is) refl
    c.requires.world)

pub stop-requires-in-RollbackTo-clause-stopped : goal.stop-requires-in-RollbackTo-clause-stopped
stop-requires-in-RollbackTo-clause-stopped g c = absurd (unbuilt_never _ _ _ _ _ _ (g.D.Device.counts c.args.device.now) c.args.lane (Doing.RollbackTo c.in-RollbackTo.field-0) c.requires.lane (sym c.doing.ensures ∙ c.in-RollbackTo.is) refl
    c.requires.world)

pub returns-in-Begin-clause-exact : goal.returns-in-Begin-clause-exact
returns-in-Begin-clause-exact g c = goes_on_exactly c.args.layout c.args.book.now c.begin_transaction.new.book c.args.log.now (g.D.Device.counts c.args.device.now) (g.D.Device.counts c.args.device.now) c.args.lane _ (Doing.Begin c.in-Begin.set) c.if-book.false
    (sym c.doing.ensures ∙ c.in-Begin.is) tt c.begin_transaction.ensures.exact

pub returns-in-Read-clause-exact : goal.returns-in-Read-clause-exact
returns-in-Read-clause-exact g c = goes_on_exactly c.args.layout c.args.book.now c.read_word.new.book c.args.log.now (g.D.Device.counts c.args.device.now) (g.D.Device.counts c.args.device.now) c.args.lane _ (Doing.Read c.in-Read.a) c.if-book.false
    (sym c.doing.ensures ∙ c.in-Read.is) tt c.read_word.ensures.exact

pub returns-in-Write-clause-exact : goal.returns-in-Write-clause-exact
returns-in-Write-clause-exact g c = goes_on_exactly c.args.layout c.args.book.now c.step_write.new.book c.args.log.now (g.D.Device.counts c.args.device.now) (g.D.Device.counts c.step_write.new.device) c.args.lane _ (Doing.Write c.in-Write.a c.in-Write.v) c.if-book.false
    (sym c.doing.ensures ∙ c.in-Write.is) tt c.step_write.ensures.exact

pub returns-in-Commit-clause-exact : goal.returns-in-Commit-clause-exact
returns-in-Commit-clause-exact g c = goes_on_exactly c.args.layout c.args.book.now c.step_commit.new.book c.args.log.now (g.D.Device.counts c.args.device.now) (g.D.Device.counts c.step_commit.new.device) c.args.lane _ Doing.Commit c.if-book.false
    (sym c.doing.ensures ∙ c.in-Commit.is) tt c.step_commit.ensures.exact

pub returns-in-Abort-clause-exact : goal.returns-in-Abort-clause-exact
returns-in-Abort-clause-exact g c = goes_on_exactly c.args.layout c.args.book.now c.step_abort.new.book c.args.log.now (g.D.Device.counts c.args.device.now) (g.D.Device.counts c.step_abort.new.device) c.args.lane _ Doing.Abort c.if-book.false
    (sym c.doing.ensures ∙ c.in-Abort.is) tt c.step_abort.ensures.exact

pub returns-in-Checkpoint-clause-exact : goal.returns-in-Checkpoint-clause-exact
returns-in-Checkpoint-clause-exact g c = goes_on_exactly c.args.layout c.args.book.now c.checkpoint.new.book c.args.log.now (g.D.Device.counts c.args.device.now) (g.D.Device.counts c.args.device.now) c.args.lane _ Doing.Checkpoint c.if-book.false
    (sym c.doing.ensures ∙ c.in-Checkpoint.is) tt c.checkpoint.ensures.exact

pub returns-in-Nothing-clause-begins : goal.returns-in-Nothing-clause-begins
returns-in-Nothing-clause-begins g c was = begins_keep g.E.Deed.meaning c.args.layout c.args.book.now c.idle.new.book c.args.log.now c.args.log.now (g.D.Device.cells c.args.device.now)
    (g.D.Device.spare c.args.device.now) (g.D.Device.counts c.args.device.now) c.args.lane c.requires.world c.idle.ensures.steps.count c.idle.ensures.exact.others c.if-book.false was c.idle.ensures.steps.latches

pub returns-in-Begin-clause-begins : goal.returns-in-Begin-clause-begins
returns-in-Begin-clause-begins g c was = begins_keep g.E.Deed.meaning c.args.layout c.args.book.now c.begin_transaction.new.book c.args.log.now c.args.log.now (g.D.Device.cells c.args.device.now)
    (g.D.Device.spare c.args.device.now) (g.D.Device.counts c.args.device.now) c.args.lane c.requires.world c.begin_transaction.ensures.steps.count c.begin_transaction.ensures.exact.others c.if-book.false was c.begin_transaction.ensures.steps.latches

pub returns-in-Read-clause-begins : goal.returns-in-Read-clause-begins
returns-in-Read-clause-begins g c was = begins_keep g.E.Deed.meaning c.args.layout c.args.book.now c.read_word.new.book c.args.log.now c.args.log.now (g.D.Device.cells c.args.device.now)
    (g.D.Device.spare c.args.device.now) (g.D.Device.counts c.args.device.now) c.args.lane c.requires.world c.read_word.ensures.steps.count c.read_word.ensures.exact.others c.if-book.false was c.read_word.ensures.steps.latches

pub returns-in-Write-clause-begins : goal.returns-in-Write-clause-begins
returns-in-Write-clause-begins g c was = begins_keep g.E.Deed.meaning c.args.layout c.args.book.now c.step_write.new.book c.args.log.now c.step_write.new.log (g.D.Device.cells c.args.device.now)
    (g.D.Device.spare c.args.device.now) (g.D.Device.counts c.args.device.now) c.args.lane c.requires.world c.step_write.ensures.steps.count c.step_write.ensures.exact.others c.if-book.false was c.step_write.ensures.steps.latches

pub returns-in-Commit-clause-begins : goal.returns-in-Commit-clause-begins
returns-in-Commit-clause-begins g c was = begins_keep g.E.Deed.meaning c.args.layout c.args.book.now c.step_commit.new.book c.args.log.now c.step_commit.new.log (g.D.Device.cells c.args.device.now)
    (g.D.Device.spare c.args.device.now) (g.D.Device.counts c.args.device.now) c.args.lane c.requires.world c.step_commit.ensures.steps.count c.step_commit.ensures.exact.others c.if-book.false was c.step_commit.ensures.steps.latches

pub returns-in-Abort-clause-begins : goal.returns-in-Abort-clause-begins
returns-in-Abort-clause-begins g c was = begins_keep g.E.Deed.meaning c.args.layout c.args.book.now c.step_abort.new.book c.args.log.now c.step_abort.new.log (g.D.Device.cells c.args.device.now)
    (g.D.Device.spare c.args.device.now) (g.D.Device.counts c.args.device.now) c.args.lane c.requires.world c.step_abort.ensures.steps.count c.step_abort.ensures.exact.others c.if-book.false was c.step_abort.ensures.steps.latches

pub returns-in-Checkpoint-clause-begins : goal.returns-in-Checkpoint-clause-begins
returns-in-Checkpoint-clause-begins g c was = begins_keep g.E.Deed.meaning c.args.layout c.args.book.now c.checkpoint.new.book c.args.log.now c.args.log.now (g.D.Device.cells c.args.device.now)
    (g.D.Device.spare c.args.device.now) (g.D.Device.counts c.args.device.now) c.args.lane c.requires.world c.checkpoint.ensures.steps.count c.checkpoint.ensures.exact.others c.if-book.false was c.checkpoint.ensures.steps.latches

pub returns-in-Take-clause-exact : goal.returns-in-Take-clause-exact
returns-in-Take-clause-exact g c = goes_on_exactly c.args.layout c.args.book.now c.step_take.new.book c.args.log.now (g.D.Device.counts c.args.device.now) (g.D.Device.counts c.step_take.new.device) c.args.lane _ (Doing.Take c.in-Take.structure c.in-Take.block) c.if-book.false
    (sym c.doing.ensures ∙ c.in-Take.is) tt c.step_take.ensures.exact

pub returns-in-Take-clause-begins : goal.returns-in-Take-clause-begins
returns-in-Take-clause-begins g c was = begins_keep g.E.Deed.meaning c.args.layout c.args.book.now c.step_take.new.book c.args.log.now c.step_take.new.log (g.D.Device.cells c.args.device.now)
    (g.D.Device.spare c.args.device.now) (g.D.Device.counts c.args.device.now) c.args.lane c.requires.world c.step_take.ensures.steps.count c.step_take.ensures.exact.others c.if-book.false was c.step_take.ensures.steps.latches
