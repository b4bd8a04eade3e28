use Rattle.std.proofs.Common.{◌∙◌, sym}
use Rattle.lane_book.specs.FacesOf.{lane_at}
use Rattle.txn_core.proofs.Stagings.{abort_leaving, abort_calls}
use Rattle.txn_core.proofs.stepping.step_abort.Goals as goal

pub step_undo-requires-clause-recorded : goal.step_undo-requires-clause-recorded
step_undo-requires-clause-recorded g c = sym c.has_records-recorded.ensures ∙ c.if-recorded.true

pub abort_unrecorded-requires-clause-calling : goal.abort_unrecorded-requires-clause-calling
abort_unrecorded-requires-clause-calling g c = abort_calls (lane_at c.args.book.now c.args.lane) c.requires.doing c.requires.phased

pub abort_unrecorded-requires-clause-stage : goal.abort_unrecorded-requires-clause-stage
abort_unrecorded-requires-clause-stage g c = abort_leaving (lane_at c.args.book.now c.args.lane) c.requires.doing (sym c.has_records-recorded.ensures ∙ c.if-recorded.false)
