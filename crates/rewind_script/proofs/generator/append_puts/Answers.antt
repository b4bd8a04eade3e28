use Rattle.std.proofs.Common.{◌∙◌}
use Rattle.rewind_script.specs.Generator.{put_line}
use Rattle.rewind_script.proofs.Draws.{first-text, next-text, next-state, two_draws}
use Rattle.rewind_script.proofs.generator.append_puts.Goals as goal

pub loop-number-init : goal.loop-number-init
loop-number-init c = first-text (put_line c.args.structure) 2 c.args.draws.now.state c.args.text.now

pub loop-number-preserved : goal.loop-number-preserved
loop-number-preserved c = (
  next-text (put_line c.args.structure) 2 c.loop-number.number c.args.draws.now.state c.loop-number.draws.state c.args.text.now c.loop-number.text c.append_put.new.text c.loop-number.invariant.0 c.loop-number.invariant.1 c.in_ok-append_put.ensures.text,
  next-state 2 c.loop-number.number c.args.draws.now.state c.loop-number.draws.state c.append_put.new.draws.state c.loop-number.invariant.1 (c.in_ok-append_put.ensures.state ∙ two_draws c.loop-number.draws.state),
)
