use Rattle.std.proofs.Common.{Some, refl, ap}
use Rattle.persist_model.specs.declared.kinds.RecordKind.TheVariants.{Update, Compensation}
use Rattle.bucket_log.specs.Scans.{record_of_placed}
use Rattle.recovery_undo.proofs.Stepping.{compensation_goes, other_goes}
use Rattle.recovery_undo.proofs.undoing.turn.Goals as goal

pub undo_update-requires-clause-update : goal.undo_update-requires-clause-update
undo_update-requires-clause-update g c = (c.in-Some-Update.ensures.some Update).0 (ap Some c.in-Some-Update.field-0-is)

pub returns-in-Some-Compensation-clause-made : goal.returns-in-Some-Compensation-clause-made
returns-in-Some-Compensation-clause-made g c = λ made start left h.
    compensation_goes c.args.target start (record_of_placed c.args.placed.now) left c.args.held.now _ c.args.counter.now h ((c.in-Some-Compensation.ensures.some Compensation).0 (ap Some c.in-Some-Compensation.field-0-is))

pub returns-in-Some-Rollback-clause-made : goal.returns-in-Some-Rollback-clause-made
returns-in-Some-Rollback-clause-made g c = λ made start left h.
    other_goes c.args.target start (record_of_placed c.args.placed.now) left c.args.held.now _ c.args.counter.now h
    (λ e. let s = (c.in-Some-Rollback.ensures.some Update).1 e in cc) (λ e. let s = (c.in-Some-Rollback.ensures.some Compensation).1 e in cc)

pub returns-in-Some-Rollback-2-clause-made : goal.returns-in-Some-Rollback-2-clause-made
returns-in-Some-Rollback-2-clause-made g c = λ made start left h.
    other_goes c.args.target start (record_of_placed c.args.placed.now) left c.args.held.now _ c.args.counter.now h
    (λ e. let s = (c.in-Some-Rollback.ensures.some Update).1 e in cc) (λ e. let s = (c.in-Some-Rollback.ensures.some Compensation).1 e in cc)

pub returns-in-Some-Rollback-3-clause-made : goal.returns-in-Some-Rollback-3-clause-made
returns-in-Some-Rollback-3-clause-made g c = λ made start left h.
    other_goes c.args.target start (record_of_placed c.args.placed.now) left c.args.held.now _ c.args.counter.now h
    (λ e. let s = (c.in-Some-Rollback.ensures.some Update).1 e in cc) (λ e. let s = (c.in-Some-Rollback.ensures.some Compensation).1 e in cc)

pub returns-in-Some-Rollback-4-clause-made : goal.returns-in-Some-Rollback-4-clause-made
returns-in-Some-Rollback-4-clause-made g c = λ made start left h.
    other_goes c.args.target start (record_of_placed c.args.placed.now) left c.args.held.now _ c.args.counter.now h
    (λ e. let s = (c.in-Some-Rollback.ensures.some Update).1 e in cc) (λ e. let s = (c.in-Some-Rollback.ensures.some Compensation).1 e in cc)

pub returns-in-None-clause-made : goal.returns-in-None-clause-made
returns-in-None-clause-made g c = λ made start left h.
    other_goes c.args.target start (record_of_placed c.args.placed.now) left c.args.held.now _ c.args.counter.now h
    (c.in-None.ensures.none refl Update) (c.in-None.ensures.none refl Compensation)
