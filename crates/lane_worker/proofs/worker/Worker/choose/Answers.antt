use Rattle.std.proofs.Common.{Option, Ok, subst, arith}
use Rattle.lane_types.specs.declared.call.Call.{Call}
use Rattle.rewind_script.specs.declared.script.Command.TheVariants as command
use Rattle.map_deeds.specs.declared.deed.MapDeed.{MapDeed}
use Rattle.lane_worker.specs.Commands.{GoesOn}
use Rattle.lane_worker.proofs.Choosing.{at_command, chosen_next, at_end, fate_then}
use Rattle.lane_worker.proofs.worker.Worker.choose.Goals as goal

pub returns-in-Some-clause-call : goal.returns-in-Some-clause-call
returns-in-Some-clause-call g c f over =
    subst (λ (o : Option (Call MapDeed)). GoesOn (Ok o) c.command.new.self f) c.in-Some.is
    (c.in_ok-call.ensures.next f (at_command c.args.self.now c.loop-index.self (g.R.Reads.space c.args.reads) (g.R.Reads.readable c.args.reads) c.loop-index.index c.loop-index.invariant c.commands-commands.result.now c.commands-commands.ensures (command.Put 0 0 0) (let low = c.loop-index-test.true in omega (arith, low)) f over))

pub loop-index-preserved : goal.loop-index-preserved
loop-index-preserved g c =
    chosen_next c.args.self.now c.loop-index.self (g.R.Reads.space c.args.reads) (g.R.Reads.readable c.args.reads) c.loop-index.index c.loop-index.invariant c.commands-commands.result.now c.commands-commands.ensures c.command.new.self (command.Put 0 0 0) c.in_ok-call.field-0 (let low = c.loop-index-test.true in omega (arith, low))
    c.in_ok-call.ensures.next c.in_default.is c.in_ok-call.ensures.text c.in_ok-call.ensures.fate c.in_ok-call.ensures.count

pub end-requires : goal.end-requires
end-requires g c = (c.requires.0, at_end c.args.self.now c.loop-index.self (g.R.Reads.space c.args.reads) (g.R.Reads.readable c.args.reads) c.loop-index.index c.loop-index.invariant c.commands-commands.result.now c.commands-commands.ensures (let past = c.loop-index-test.false in omega (arith, past)) c.requires.0 c.requires.1)

pub returns-clause-call : goal.returns-clause-call
returns-clause-call g c f over = c.end.ensures.call f (at_end c.args.self.now c.loop-index.self (g.R.Reads.space c.args.reads) (g.R.Reads.readable c.args.reads) c.loop-index.index c.loop-index.invariant c.commands-commands.result.now c.commands-commands.ensures (let past = c.loop-index-test.false in omega (arith, past)) f over)

pub returns-clause-fate : goal.returns-clause-fate
returns-clause-fate g c = fate_then c.args.self.now c.loop-index.self c.end.new.self c.loop-index.invariant.fate c.end.ensures.fate

pub returns-in-Some-clause-fate : goal.returns-in-Some-clause-fate
returns-in-Some-clause-fate g c = fate_then c.args.self.now c.loop-index.self c.command.new.self c.loop-index.invariant.fate c.in_ok-call.ensures.fate
