use Rattle.std.proofs.Common.{◌∙◌, ◌-◌, arith, length-set}
use Rattle.image_text.specs.Text.{hexadecimal}
use Rattle.image_text.proofs.Writing.{digit_put, digits_put}
use Rattle.image_text.proofs.writer.digits_of.Goals as goal

pub loop-place-preserved : goal.loop-place-preserved
loop-place-preserved c =
    let k = c.loop-place.place in
    let digits = c.loop-place.digits in (
      digit_put k c.loop-place.rest c.digit_of.result digits (hexadecimal 16 c.args.value) c.loop-place-test.true (omega (arith, c.loop-place.invariant.1, c.loop-place.invariant.2))
          c.digit_of.ensures c.loop-place.invariant.0,
      omega (arith, c.loop-place.invariant.1),
      length-set digits (k - 1) c.digit_of.result ∙ c.loop-place.invariant.2,
    )

pub returns : goal.returns
returns c = digits_put c.loop-place.rest c.loop-place.place c.loop-place.digits (hexadecimal 16 c.args.value) (omega (arith, c.loop-place-test.false)) c.loop-place.invariant.0
