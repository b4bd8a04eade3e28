use Rattle.std.proofs.Common.{◌∙◌, sym, inr}
use Rattle.lane_book.specs.FacesOf.{lane_at}
use Rattle.txn_core.proofs.Stagings.{opening, taking_back, undoing, keeping, abort_ends, ending}
use Rattle.txn_core.proofs.stepping.step_undo.Goals as goal

pub append_rollback-requires-clause-stage : goal.append_rollback-requires-clause-stage
append_rollback-requires-clause-stage g c = opening (lane_at c.args.book.now c.args.lane) c.requires.doing c.requires.recorded (sym c.part-part.ensures ∙ c.if-part-eq-FIRST.true)

pub take_word_back-requires-clause-stage : goal.take_word_back-requires-clause-stage
take_word_back-requires-clause-stage g c = taking_back (lane_at c.args.book.now c.args.lane) c.requires.doing c.requires.recorded (λ is. c.if-part-eq-FIRST.false (c.part-part.ensures ∙ is)) (sym c.part-part.ensures ∙ c.if-part-eq-STORE.true)

pub append_compensation-requires-clause-stage : goal.append_compensation-requires-clause-stage
append_compensation-requires-clause-stage g c = undoing (lane_at c.args.book.now c.args.lane) c.requires.doing c.requires.recorded (λ is. c.if-part-eq-FIRST.false (c.part-part.ensures ∙ is)) (λ is. c.if-part-eq-STORE.false (c.part-part.ensures ∙ is)) (sym c.part-part.ensures ∙ c.if-part-eq-UNDO.true)

pub fence-requires-clause-stage : goal.fence-requires-clause-stage
fence-requires-clause-stage g c = inr (keeping (lane_at c.args.book.now c.args.lane) c.requires.doing c.requires.recorded (λ is. c.if-part-eq-FIRST.false (c.part-part.ensures ∙ is)) (λ is. c.if-part-eq-STORE.false (c.part-part.ensures ∙ is)) (λ is. c.if-part-eq-UNDO.false (c.part-part.ensures ∙ is)) (sym c.part-part.ensures ∙ c.if-part-eq-KEEP.true))

pub append_undone-requires-clause-stage : goal.append_undone-requires-clause-stage
append_undone-requires-clause-stage g c = ending (lane_at c.args.book.now c.args.lane) (abort_ends (lane_at c.args.book.now c.args.lane) c.requires.doing c.requires.recorded (λ is. c.if-part-eq-FIRST.false (c.part-part.ensures ∙ is)) (λ is. c.if-part-eq-STORE.false (c.part-part.ensures ∙ is)) (λ is. c.if-part-eq-UNDO.false (c.part-part.ensures ∙ is)) (λ is. c.if-part-eq-KEEP.false (c.part-part.ensures ∙ is))) (sym c.part-part.ensures ∙ c.if-part-eq-END.true)

pub step_clearing-requires-clause-stage : goal.step_clearing-requires-clause-stage
step_clearing-requires-clause-stage g c = abort_ends (lane_at c.args.book.now c.args.lane) c.requires.doing c.requires.recorded (λ is. c.if-part-eq-FIRST.false (c.part-part.ensures ∙ is)) (λ is. c.if-part-eq-STORE.false (c.part-part.ensures ∙ is)) (λ is. c.if-part-eq-UNDO.false (c.part-part.ensures ∙ is)) (λ is. c.if-part-eq-KEEP.false (c.part-part.ensures ∙ is))

pub step_clearing-requires-clause-behind : goal.step_clearing-requires-clause-behind
step_clearing-requires-clause-behind g c = (λ is. c.if-part-eq-END.false (c.part-part.ensures ∙ is))
