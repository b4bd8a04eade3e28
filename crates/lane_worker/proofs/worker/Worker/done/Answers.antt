use Rattle.std.proofs.Common.{refl}
use Rattle.lane_worker.specs.declared.stage.Stage.TheVariants as stage
use Rattle.lane_worker.proofs.Doing.{behind}
use Rattle.lane_worker.proofs.worker.Worker.done.Goals as goal

pub returns-in-Ok-clause-ok : goal.returns-in-Ok-clause-ok
returns-in-Ok-clause-ok c f h =
    behind c.args.self.now (record c.args.self.now { stage = stage.Choosing; steps = c.push.new.self; taken = c.clear.new.self })
    c.args.command (record { command = c.args.command; got = c.args.got }) f h.t h.maps h.rest h.within refl c.in-Ok.ensures.ok
    h.ready h.phase h.opened h.read h.now c.clear.ensures.items refl
