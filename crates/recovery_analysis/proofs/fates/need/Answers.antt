use Rattle.std.proofs.Common.{◌≡◌, Bool, ◌==◌, if◌then◌else◌, ap, sym, ◌∙◌}
use Rattle.std.specs.List.{list_any}
use Rattle.bucket_log.specs.declared.scanning.Placed.{Placed}
use Rattle.recovery_analysis.proofs.Fated.{need_ended, need_running}
use Rattle.recovery_analysis.proofs.fates.need.Goals as goal
use Rattle.recovery_analysis.proofs.fates.need.Goals.{then-has_kind-2, else-has_kind-2}

pub returns-then-has_kind-clause-need : goal.returns-then-has_kind-clause-need
returns-then-has_kind-clause-need c = λ log h. need_ended log c.args.transaction.now h
    (ap (list_any (λ (x : Placed). x.cell.kind == 4)) (sym c.as_slice-records.ensures) ∙ sym c.if-has_kind.ensures)

pub returns-clause-need : goal.returns-clause-need
returns-clause-need c = λ log h. need_running log c.args.transaction.now c.as_slice-records.result.now c.waiting_updates.result c.if-has_kind-2.rollback h
    c.as_slice-records.ensures (sym c.if-has_kind.ensures) rolled c.waiting_updates.ensures.count
  where
    rolled : c.if-has_kind-2.rollback ≡ (if list_any (λ (x : Placed). x.cell.kind == 3) c.as_slice-records.result.now then 0 else 1)
    rolled = elim c.if-has_kind-2.branch [
      | then-has_kind-2 w ↦ w.rollback-is ∙ ap (λ (b : Bool). if b then 0 else 1) w.if-has_kind-2.ensures
      | else-has_kind-2 w ↦ w.rollback-is ∙ ap (λ (b : Bool). if b then 0 else 1) w.if-has_kind-2.ensures
    ]
