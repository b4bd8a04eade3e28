use Rattle.std.proofs.Common.{Some, ◌∙◌, sym, ap, subst}
use Rattle.std.proofs.lemmas.Option.{slice_get-get_or}
use Rattle.lane_types.specs.declared.call.Call.TheVariants as call
use Rattle.rewind_script.specs.declared.script.Item.TheVariants as item
use Rattle.map_deeds.specs.declared.deed.MapDeed.{MapDeed}
use Rattle.lane_worker.specs.Acts.{Asks}
use Rattle.lane_worker.proofs.Closing.{commit_asks, abort_at_end, no_checkpoint, not_past}
use Rattle.lane_worker.proofs.worker.Worker.end.Goals as goal

pub returns-in_ok-deed-in-Some-Transaction-default-default-true-clause-call : goal.returns-in_ok-deed-in-Some-Transaction-default-default-true-clause-call
returns-in_ok-deed-in-Some-Transaction-default-default-true-clause-call c f h =
    subst (λ (deed : MapDeed). Asks c.args.self.now (call.Commit deed) f) (sym c.in_ok-deed-in-Some-Transaction-default-default-true.ensures)
    (commit_asks c.args.self.now f c.in-Some-Transaction-default-default-true.set c.in-Some-Transaction-default-default-true.field-0-1 h
    ((let l = c.in-Some-Transaction-default-default-true.ensures.lookup in slice_get-get_or c.args.self.now.items.now c.args.self.now.at c.in-Some-Transaction-default-default-true.field-0.now l.3.0 ∙ ap Some (sym l.1)) ∙ ap Some (c.in-Some-Transaction-default-default-true.field-0-is ∙ ap (λ b. item.Transaction c.in-Some-Transaction-default-default-true.set c.in-Some-Transaction-default-default-true.field-0-1 b) c.in-Some-Transaction-default-default-true.field-0-2-test)))

pub returns-in-Some-Transaction-default-default-false-clause-call : goal.returns-in-Some-Transaction-default-default-false-clause-call
returns-in-Some-Transaction-default-default-false-clause-call c f h =
    abort_at_end c.args.self.now f c.in-Some-Transaction-default-default-false.field-0-0 c.in-Some-Transaction-default-default-false.field-0-1 h
    ((let l = c.in-Some-Transaction-default-default-false.ensures.lookup in slice_get-get_or c.args.self.now.items.now c.args.self.now.at c.in-Some-Transaction-default-default-false.field-0.now l.3.0 ∙ ap Some (sym l.1)) ∙ ap Some (c.in-Some-Transaction-default-default-false.field-0-is ∙ ap (λ b. item.Transaction c.in-Some-Transaction-default-default-false.field-0-0 c.in-Some-Transaction-default-default-false.field-0-1 b) c.in-Some-Transaction-default-default-false.field-0-2-test))

pub returns-in-Some-Checkpoint-clause-call : goal.returns-in-Some-Checkpoint-clause-call
returns-in-Some-Checkpoint-clause-call c f h = absurd (no_checkpoint c.args.self.now f h ((let l = c.in-Some-Checkpoint.ensures.lookup in slice_get-get_or c.args.self.now.items.now c.args.self.now.at c.in-Some-Checkpoint.field-0.now l.3.0 ∙ ap Some (sym l.1)) ∙ ap Some c.in-Some-Checkpoint.field-0-is))

pub returns-in-None-clause-call : goal.returns-in-None-clause-call
returns-in-None-clause-call c f h = absurd (not_past c.args.self.now f h c.in-None.ensures.lookup.3)
