use Rattle.std.proofs.Common.{◌++◌, map, length, sym, ap, ◌∙◌, subst, arith}
use Rattle.std.specs.List.{filter}
use Rattle.region_layout.specs.Layout.{policy_number}
use Rattle.recovery_analysis.specs.Grouping.{IsAscending, AreTransactionsOf}
use Rattle.recovery_analysis.specs.Changes.{is_redone, is_deleted, new_value, given_back}
use Rattle.recovery_analysis.specs.Needs.{AreSmall}
use Rattle.recovery_analysis.specs.Works.{HasSpare}
use Rattle.recovery_analysis.proofs.Whole.{log_of, redone_bounded, deleted_bounded, gate_bounded, undo_small, needed_is, needed_small, appends_small, work_done}
use Rattle.recovery_analysis.proofs.working.work_of.Goals as goal

pub redo_of-requires-clause-unskipped : goal.redo_of-requires-clause-unskipped
redo_of-requires-clause-unskipped c =
    subst IsAscending (sym c.as_slice-4.ensures)
    (c.in_ok-unskipped.ensures (log_of c.args.merged.now) (subst (AreTransactionsOf (log_of c.args.merged.now)) (sym c.as_slice-3.ensures) c.in_ok-all.ensures) c.newest_checkpoint-newest.ensures).ascending

pub redo_of-requires-clause-winners : goal.redo_of-requires-clause-winners
redo_of-requires-clause-winners c =
    subst IsAscending (sym c.as_slice-5.ensures)
    (c.in_ok-winners.ensures (log_of c.args.merged.now) (subst (AreTransactionsOf (log_of c.args.merged.now)) (sym c.as_slice.ensures) c.in_ok-all.ensures)).ascending

pub redo_of-requires-clause-redone : goal.redo_of-requires-clause-redone
redo_of-requires-clause-redone c = λ x m on.
    redone_bounded c.args.layout c.args.merged.now c.requires c.in_ok-unskipped.unskipped x
    (c.in_ok-unskipped.ensures (log_of c.args.merged.now) (subst (AreTransactionsOf (log_of c.args.merged.now)) (sym c.as_slice-3.ensures) c.in_ok-all.ensures) c.newest_checkpoint-newest.ensures)
    m (ap (λ ns. is_redone (policy_number c.args.layout.policy) ns x) (sym c.as_slice-4.ensures) ∙ on)

pub redo_of-requires-clause-deleted : goal.redo_of-requires-clause-deleted
redo_of-requires-clause-deleted c = λ x m on.
    deleted_bounded c.args.layout c.args.merged.now c.requires c.in_ok-winners.winners x
    (c.in_ok-winners.ensures (log_of c.args.merged.now) (subst (AreTransactionsOf (log_of c.args.merged.now)) (sym c.as_slice.ensures) c.in_ok-all.ensures))
    m (ap (λ ns. is_deleted ns x) (sym c.as_slice-5.ensures) ∙ on)

pub total_need-needed-requires : goal.total_need-needed-requires
total_need-needed-requires c = (
  log_of c.args.merged.now,
  subst (AreSmall (log_of c.args.merged.now)) (sym c.as_slice-7.ensures)
      (undo_small c.args.layout c.args.merged.now c.requires c.in_ok-all.all c.running_of-undo.result c.in_ok-all.ensures c.running_of-undo.ensures),
)

pub gates_of-requires-clause-more : goal.gates_of-requires-clause-more
gates_of-requires-clause-more c =
    let small = needed_small c.args.layout c.args.merged.now c.requires c.in_ok-all.all c.running_of-undo.result c.as_slice-7.result.now c.total_need-needed.result c.in_ok-all.ensures c.running_of-undo.ensures
    c.as_slice-7.ensures c.total_need-needed.ensures in omega (arith, small)

pub gates_of-requires-clause-ends : goal.gates_of-requires-clause-ends
gates_of-requires-clause-ends c = omega (arith, c.as_slice-8.type_inv)

pub appends_with-appends-requires : goal.appends_with-appends-requires
appends_with-appends-requires c =
    let small = needed_small c.args.layout c.args.merged.now c.requires c.in_ok-all.all c.running_of-undo.result c.as_slice-7.result.now c.total_need-needed.result c.in_ok-all.ensures c.running_of-undo.ensures
    c.as_slice-7.ensures c.total_need-needed.ensures in omega (arith, small)

pub next_number-requires : goal.next_number-requires
next_number-requires c = gate_bounded c.args.layout c.args.merged.now c.requires

pub most_events-requires-clause-appends : goal.most_events-requires-clause-appends
most_events-requires-clause-appends c =
    appends_small c.args.layout c.args.merged.now c.requires c.total_need-needed.result c.appends_with-appends.result c.has_checkpoint-checkpoint.result
    (needed_small c.args.layout c.args.merged.now c.requires c.in_ok-all.all c.running_of-undo.result c.as_slice-7.result.now c.total_need-needed.result c.in_ok-all.ensures c.running_of-undo.ensures
    c.as_slice-7.ensures c.total_need-needed.ensures) c.appends_with-appends.ensures

pub returns : goal.returns
returns c =
    let log = log_of c.args.merged.now in
    let merged = c.args.merged.now in
    let policy = policy_number c.args.layout.policy in
    let whole = c.in_ok-all.ensures in
    work_done c.args.layout merged c.requires c.in_ok-all.all c.in_ok-unskipped.unskipped c.total_need-needed.result c.appends_with-appends.result _ whole
    (c.in_ok-winners.ensures log (subst (AreTransactionsOf log) (sym c.as_slice.ensures) whole))
    (c.in_ok-losers.ensures log (subst (AreTransactionsOf log) (sym c.as_slice-2.ensures) whole))
    (c.in_ok-unskipped.ensures log (subst (AreTransactionsOf log) (sym c.as_slice-3.ensures) whole) c.newest_checkpoint-newest.ensures)
    (c.in_ok-redo.ensures
    ∙ ap (λ ns. map new_value (filter (is_redone policy ns) merged) ++ map given_back (filter (is_deleted c.as_slice-5.result.now) merged)) c.as_slice-4.ensures
    ∙ ap (λ ns. map new_value (filter (is_redone policy c.in_ok-unskipped.unskipped) merged) ++ map given_back (filter (is_deleted ns) merged)) c.as_slice-5.ensures)
    c.running_of-undo.ensures
    (c.has_checkpoint-checkpoint.ensures log (subst (AreTransactionsOf log) (sym c.as_slice-6.ensures) whole) c.newest_checkpoint-newest.ensures)
    c.in_ok-gates.ensures.lists
    (subst (λ ts. HasSpare c.in_ok-gates.gates c.total_need-needed.result (length ts) 1) c.as_slice-8.ensures c.in_ok-gates.ensures.spare) c.in_ok-gates.ensures.count
    (needed_is c.args.layout merged c.requires c.in_ok-all.all c.running_of-undo.result c.as_slice-7.result.now c.total_need-needed.result whole c.running_of-undo.ensures
    c.as_slice-7.ensures c.total_need-needed.ensures)
    c.next_number.ensures c.appends_with-appends.ensures c.most_events.ensures
