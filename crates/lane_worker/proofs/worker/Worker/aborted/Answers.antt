use Rattle.std.proofs.Common.{◌++◌, ◌∷◌, [], ap, ◌∙◌, arith}
use Rattle.rewind_script.specs.declared.report.How.{How}
use Rattle.lane_worker.proofs.Ending.{abort_ready, abort_stage, abort_number, abort_room}
use Rattle.lane_worker.proofs.worker.Worker.aborted.Goals as goal

pub push_reserved-requires : goal.push_reserved-requires
push_reserved-requires c = abort_room c.args.self.now c.requires.0 c.requires.1 c.requires.2 c.requires.3

pub overflow_add-self : goal.overflow_add-self
overflow_add-self c = record { fits = (let low = abort_number c.args.self.now c.requires.0 c.requires.1 c.requires.2 c.requires.3 in omega (arith, low)) }

pub returns-clause-ready : goal.returns-clause-ready
returns-clause-ready c f g h row =
    let at = abort_stage c.args.self.now f g h row in
    abort_ready c.args.self.now f g at.0 (record c.args.self.now { fates = c.push_reserved.new.self }) h row at.1
    (c.push_reserved.ensures.items ∙ ap (λ (how : How). c.args.self.now.fates.items ++ record { lane = c.args.self.now.lane; number = c.args.self.now.number; how = how } ∷ []) (c.fate-how.ensures at.0 at.1))
    c.push_reserved.ensures.len c.push_reserved.ensures.capacity
