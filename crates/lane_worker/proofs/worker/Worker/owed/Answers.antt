use Rattle.std.proofs.Common.{◌∙◌, sym, ap}
use Rattle.std.specs.Option.{option_copied}
use Rattle.lane_worker.proofs.Asking.{write_asks, none_past}
use Rattle.lane_worker.proofs.worker.Worker.owed.Goals as goal

pub given-requires-clause-written : goal.given-requires-clause-written
given-requires-clause-written c = none_past c.args.self.now.change.writes c.args.self.now.change.written (sym c.get.ensures ∙ ap option_copied c.in-None.is)

pub returns-in-Some-clause-asks : goal.returns-in-Some-clause-asks
returns-in-Some-clause-asks c f h at = write_asks c.args.self.now f c.in-Some.write.now.address c.in-Some.write.now.value h at (sym c.get.ensures ∙ ap option_copied c.in-Some.is)

pub returns-in-None-clause-none : goal.returns-in-None-clause-none
returns-in-None-clause-none c e = (none_past c.args.self.now.change.writes c.args.self.now.change.written (sym c.get.ensures ∙ ap option_copied c.in-None.is), c.given.ensures.none e)
