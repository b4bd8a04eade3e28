use Rattle.std.proofs.Common.{get_or}
use Rattle.rewind_script.specs.declared.script.Command.TheVariants as command
use Rattle.lane_worker.proofs.Settling.{made_done}
use Rattle.lane_worker.proofs.Choosing.{made_here, over_behind, fate_then}
use Rattle.lane_worker.proofs.worker.Worker.make.Goals as goal

pub done-requires : goal.done-requires
done-requires g c = (
  c.requires.0,
  (made_done c.args.self.now (get_or c.commands.result.now c.len.result (command.Put 0 0 0)) c.requires.0 c.requires.1 c.requires.2 (c.owed.ensures.none c.in-None.is).0 (c.owed.ensures.none c.in-None.is).1
      (made_here c.args.self.now c.requires.0 c.commands.result.now c.len.result (command.Put 0 0 0) c.requires.1 c.requires.2 c.commands.ensures c.len.ensures)),
)

pub choose-requires : goal.choose-requires
choose-requires g c = (
  c.requires.0,
  over_behind c.done.new.self (g.R.Reads.space c.args.reads) (g.R.Reads.readable c.args.reads) c.requires.0
      (c.in_ok-done-in-None.ensures.ok c.requires.0 (made_done c.args.self.now (get_or c.commands.result.now c.len.result (command.Put 0 0 0)) c.requires.0 c.requires.1 c.requires.2 (c.owed.ensures.none c.in-None.is).0 (c.owed.ensures.none c.in-None.is).1
      (made_here c.args.self.now c.requires.0 c.commands.result.now c.len.result (command.Put 0 0 0) c.requires.1 c.requires.2 c.commands.ensures c.len.ensures))) c.requires.3,
)

pub returns-in_ok-done-in-None-clause-call : goal.returns-in_ok-done-in-None-clause-call
returns-in_ok-done-in-None-clause-call g c f ready at shows = c.choose.ensures.call f (over_behind c.done.new.self (g.R.Reads.space c.args.reads) (g.R.Reads.readable c.args.reads) f
    (c.in_ok-done-in-None.ensures.ok f (made_done c.args.self.now (get_or c.commands.result.now c.len.result (command.Put 0 0 0)) f ready at (c.owed.ensures.none c.in-None.is).0 (c.owed.ensures.none c.in-None.is).1
    (made_here c.args.self.now f c.commands.result.now c.len.result (command.Put 0 0 0) ready at c.commands.ensures c.len.ensures))) shows)

pub returns-in_ok-done-in-None-clause-fate : goal.returns-in_ok-done-in-None-clause-fate
returns-in_ok-done-in-None-clause-fate g c = fate_then c.args.self.now c.done.new.self c.choose.new.self c.in_ok-done-in-None.ensures.fate c.choose.ensures.fate
