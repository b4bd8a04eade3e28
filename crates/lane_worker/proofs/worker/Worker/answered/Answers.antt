use Rattle.std.proofs.Common.{List, sym, subst, ◌∙◌, arith}
use Rattle.lane_types.specs.declared.call.Reply.{Reply}
use Rattle.lane_types.specs.LaneSteps.{Answers}
use Rattle.map_deeds.specs.Meanings.{map_deeds}
use Rattle.map_deeds.specs.declared.deed.Done.{Done}
use Rattle.lane_worker.specs.declared.stage.Change.{Change}
use Rattle.lane_worker.specs.declared.stage.Stage.TheVariants as stage
use Rattle.lane_worker.specs.Standing.{IsReady}
use Rattle.lane_worker.specs.Acts.{IsTold}
use Rattle.lane_worker.proofs.Ending.{commit_ready, commit_number, checkpoint_ready}
use Rattle.lane_worker.proofs.Writing.{written_ready, write_is_next}
use Rattle.lane_worker.proofs.Giving.{given_ready, give_is_next}
use Rattle.lane_worker.proofs.Taking.{taken_ready, block_place}
use Rattle.lane_worker.proofs.Beginning.{begun_ready}
use Rattle.lane_worker.proofs.worker.Worker.answered.Goals as goal

pub wrote-requires : goal.wrote-requires
wrote-requires c = write_is_next c.args.self.now c.requires.0 c.requires.1 c.requires.2 (subst (λ (r : Reply). Answers map_deeds r c.requires.0 c.requires.1) c.in-Written.is c.requires.3)

pub gave-requires : goal.gave-requires
gave-requires c = give_is_next c.args.self.now c.requires.0 c.requires.1 c.requires.2 (subst (λ (r : Reply). Answers map_deeds r c.requires.0 c.requires.1) c.in-Given.is c.requires.3)

pub overflow_add-self : goal.overflow_add-self
overflow_add-self c = record { fits = (let low = commit_number c.args.self.now c.requires.0 c.requires.1 c.requires.2 (subst (λ (r : Reply). Answers map_deeds r c.requires.0 c.requires.1) c.in-Committed.is c.requires.3) in omega (arith, low)) }

pub returns-in-Begun-clause-ready : goal.returns-in-Begun-clause-ready
returns-in-Begun-clause-ready c f g h row told = subst (λ (steps : List Done). IsReady (record c.args.self.now { stage = stage.Choosing; steps = steps; taken = c.clear.new.self }) g) (sym c.new.ensures)
    (begun_ready c.args.self.now (record c.args.self.now { taken = c.clear.new.self }) f g c.in-Begun.field-0 c.clear.ensures.items h
    (subst (λ (r : Reply). Answers map_deeds r f g) c.in-Begun.is row) (subst (λ (r : Reply). IsTold c.args.self.now.kinds.now r g) c.in-Begun.is told))

pub returns-in-Written-clause-ready : goal.returns-in-Written-clause-ready
returns-in-Written-clause-ready c f g h row told = subst (λ (change : Change). IsReady (record c.args.self.now { change = change }) g) (sym c.wrote.ensures)
    (written_ready c.args.self.now f g h (subst (λ (r : Reply). Answers map_deeds r f g) c.in-Written.is row))

pub returns-in-Given-clause-ready : goal.returns-in-Given-clause-ready
returns-in-Given-clause-ready c f g h row told = subst (λ (change : Change). IsReady (record c.args.self.now { change = change }) g) (sym c.gave.ensures)
    (given_ready c.args.self.now f g h (subst (λ (r : Reply). Answers map_deeds r f g) c.in-Given.is row))

pub returns-in-Block-clause-ready : goal.returns-in-Block-clause-ready
returns-in-Block-clause-ready c f g h row told =
    taken_ready c.args.self.now (record c.args.self.now { taken = c.push_reserved.new.self }) f g c.in-Block.block c.block-address.result h
    (subst (λ (r : Reply). Answers map_deeds r f g) c.in-Block.is row)
    (block_place c.args.self.now f g c.in-Block.block h (subst (λ (r : Reply). Answers map_deeds r f g) c.in-Block.is row) (subst (λ (r : Reply). IsTold c.args.self.now.kinds.now r g) c.in-Block.is told)).0
    (c.block-address.ensures ∙ (block_place c.args.self.now f g c.in-Block.block h (subst (λ (r : Reply). Answers map_deeds r f g) c.in-Block.is row) (subst (λ (r : Reply). IsTold c.args.self.now.kinds.now r g) c.in-Block.is told)).1)
    c.push_reserved.ensures.items

pub returns-in-Committed-clause-ready : goal.returns-in-Committed-clause-ready
returns-in-Committed-clause-ready c f g h row told = commit_ready c.args.self.now f g h (subst (λ (r : Reply). Answers map_deeds r f g) c.in-Committed.is row)

pub returns-in-Aborted-clause-ready : goal.returns-in-Aborted-clause-ready
returns-in-Aborted-clause-ready c f g h row told = c.aborted.ensures.ready f g h (subst (λ (r : Reply). Answers map_deeds r f g) c.in-Aborted.is row)

pub returns-in-Checkpointed-clause-ready : goal.returns-in-Checkpointed-clause-ready
returns-in-Checkpointed-clause-ready c f g h row told = checkpoint_ready c.args.self.now f g h (subst (λ (r : Reply). Answers map_deeds r f g) c.in-Checkpointed.is row)
