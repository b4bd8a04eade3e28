use Rattle.std.proofs.Common.{◌∙◌, refl, sym, inl}
use Rattle.lane_book.specs.FacesOf.{lane_at}
use Rattle.txn_state.specs.Stages.{Leaving}
use Rattle.txn_core.proofs.Stagings.{commit_leaving, securing, commit_ends, ending, unjoined, commit_calls}
use Rattle.txn_core.proofs.stepping.step_commit.Goals as goal

pub commit_unrecorded-requires-clause-calling : goal.commit_unrecorded-requires-clause-calling
commit_unrecorded-requires-clause-calling g c = commit_calls (lane_at c.args.book.now c.args.lane) c.requires.doing c.requires.phased

pub commit_unrecorded-requires-clause-unjoined : goal.commit_unrecorded-requires-clause-unjoined
commit_unrecorded-requires-clause-unjoined g c = unjoined (lane_at c.args.book.now c.args.lane) Leaving (commit_leaving (lane_at c.args.book.now c.args.lane) c.requires.doing (sym c.has_records-recorded.ensures ∙ c.if-not-recorded.true)) refl c.requires.phased

pub commit_unrecorded-requires-clause-stage : goal.commit_unrecorded-requires-clause-stage
commit_unrecorded-requires-clause-stage g c = commit_leaving (lane_at c.args.book.now c.args.lane) c.requires.doing (sym c.has_records-recorded.ensures ∙ c.if-not-recorded.true)

pub fence-requires-clause-stage : goal.fence-requires-clause-stage
fence-requires-clause-stage g c = inl (securing (lane_at c.args.book.now c.args.lane) c.requires.doing (sym c.has_records-recorded.ensures ∙ c.if-not-recorded.false) (sym c.part-part.ensures ∙ c.if-part-eq-FIRST.true))

pub append_commit-requires-clause-stage : goal.append_commit-requires-clause-stage
append_commit-requires-clause-stage g c = ending (lane_at c.args.book.now c.args.lane) (commit_ends (lane_at c.args.book.now c.args.lane) c.requires.doing (sym c.has_records-recorded.ensures ∙ c.if-not-recorded.false) (λ is. c.if-part-eq-FIRST.false (c.part-part.ensures ∙ is))) (sym c.part-part.ensures ∙ c.if-part-eq-END.true)

pub step_clearing-requires-clause-stage : goal.step_clearing-requires-clause-stage
step_clearing-requires-clause-stage g c = commit_ends (lane_at c.args.book.now c.args.lane) c.requires.doing (sym c.has_records-recorded.ensures ∙ c.if-not-recorded.false) (λ is. c.if-part-eq-FIRST.false (c.part-part.ensures ∙ is))

pub step_clearing-requires-clause-behind : goal.step_clearing-requires-clause-behind
step_clearing-requires-clause-behind g c = (λ is. c.if-part-eq-END.false (c.part-part.ensures ∙ is))
