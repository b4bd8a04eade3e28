use Rattle.std.proofs.Common.{◌==◌, ◌&&◌, not, inl, inr, ap, ◌∙◌}
use Rattle.std.specs.Prelude.{Some}
use Rattle.std.specs.List.{list_any}
use Rattle.persist_model.specs.declared.kinds.RecordKind.TheVariants.{Update, Compensation, Rollback, Deletion}
use Rattle.persist_model.specs.Records.{Record}
use Rattle.persist_model.specs.Order.{undo_point}
use Rattle.persist_model.specs.Need.{has_kind_of}
use Rattle.bucket_log.specs.Scans.{record_of_placed}
use Rattle.sound_check.specs.Barring.{compensates}
use Rattle.sound_check.proofs.Ordering.{update_undoes, rest_undoes, compensation_undoes}
use Rattle.sound_check.proofs.order.undoes_well.Goals as goal

pub returns-in-Some-Update : goal.returns-in-Some-Update
returns-in-Some-Update c = λ part marks earlier past own. update_undoes earlier (record_of_placed c.args.r.now) c.updates_well.result ((c.record_kind.ensures.some Update).0 (c.in-Some-Update.is ∙ ap Some c.in-Some-Update.field-0-is))
    (c.updates_well.ensures
    ∙ ap (λ b. not b && ((c.args.r.now.cell.undo_next == c.args.own.undo_point) && (c.args.r.now.cell.before == c.last_new-last.result))) own.rollback
    ∙ ap (λ n. not (has_kind_of c.args.r.now.cell.transaction 3 earlier) && ((c.args.r.now.cell.undo_next == n) && (c.args.r.now.cell.before == c.last_new-last.result))) own.point
    ∙ ap (λ n. not (has_kind_of c.args.r.now.cell.transaction 3 earlier) && ((c.args.r.now.cell.undo_next == undo_point c.args.r.now.cell.transaction earlier) && (c.args.r.now.cell.before == n)))
    (c.last_new-last.ensures part marks earlier past))

pub returns-in-Some-Deletion : goal.returns-in-Some-Deletion
returns-in-Some-Deletion c = λ part marks earlier past own. rest_undoes earlier (record_of_placed c.args.r.now) c.args.own.has_rollback
    (inl ((c.record_kind.ensures.some Deletion).0 (c.in-Some-Deletion.is ∙ ap Some c.in-Some-Deletion.field-0-is))) own.rollback

pub returns-in-Some-Rollback : goal.returns-in-Some-Rollback
returns-in-Some-Rollback c = λ part marks earlier past own. rest_undoes earlier (record_of_placed c.args.r.now) c.args.own.has_rollback
    (inr ((c.record_kind.ensures.some Rollback).0 (c.in-Some-Rollback.is ∙ ap Some c.in-Some-Rollback.field-0-is))) own.rollback

pub returns-in-Some-Compensation : goal.returns-in-Some-Compensation
returns-in-Some-Compensation c = λ part marks earlier past own. compensation_undoes earlier (record_of_placed c.args.r.now) c.compensates_at.result ((c.record_kind.ensures.some Compensation).0 (c.in-Some-Compensation.is ∙ ap Some c.in-Some-Compensation.field-0-is))
    (c.compensates_at.ensures part marks earlier past ∙ ap (λ n. list_any (λ (u : Record). (u.lsn == n) && compensates (record_of_placed c.args.r.now) u) earlier) own.point)
