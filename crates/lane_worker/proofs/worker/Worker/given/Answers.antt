use Rattle.std.proofs.Common.{◌∙◌, sym, ap}
use Rattle.std.specs.Option.{option_copied}
use Rattle.lane_worker.proofs.Asking.{give_asks, give_place, number_at, none_past}
use Rattle.lane_worker.proofs.worker.Worker.given.Goals as goal

pub block_of-requires : goal.block_of-requires
block_of-requires c = give_place c.args.self.now c.requires.ready.0 c.in-Some.block.now c.requires.ready.1 c.requires.ready.2 (sym c.get.ensures ∙ ap option_copied c.in-Some.is)

pub returns-in-Some-clause-asks : goal.returns-in-Some-clause-asks
returns-in-Some-clause-asks c f h at = give_asks c.args.self.now f c.in-Some.block.now c.block_of.result h at c.requires.written (sym c.get.ensures ∙ ap option_copied c.in-Some.is)
    (number_at c.args.self.now f c.in-Some.block.now c.block_of.result h c.block_of.ensures.number)

pub returns-in-None-clause-none : goal.returns-in-None-clause-none
returns-in-None-clause-none c e = none_past c.args.self.now.change.gives c.args.self.now.change.given (sym c.get.ensures ∙ ap option_copied c.in-None.is)
