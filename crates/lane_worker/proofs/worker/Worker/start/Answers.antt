use Rattle.std.proofs.Common.{refl}
use Rattle.lane_worker.proofs.Settling.{made_done}
use Rattle.lane_worker.proofs.Making.{making}
use Rattle.lane_worker.proofs.worker.Worker.start.Goals as goal

pub done-requires : goal.done-requires
done-requires c =
    let all = c.owed.ensures.none c.in-None.is in
    (c.requires.0, made_done (making c.args.self.now c.args.change) c.args.command c.requires.0 c.requires.1.ready refl all.0 all.1 c.requires.1.here)

pub returns-in-Some-clause-next : goal.returns-in-Some-clause-next
returns-in-Some-clause-next c f h = c.in-Some.ensures.asks f h.ready refl

pub returns-in_ok-done-in-None-clause-next : goal.returns-in_ok-done-in-None-clause-next
returns-in_ok-done-in-None-clause-next c f h =
    let all = c.owed.ensures.none c.in-None.is in
    c.in_ok-done-in-None.ensures.ok f (made_done (making c.args.self.now c.args.change) c.args.command f h.ready refl all.0 all.1 h.here)
