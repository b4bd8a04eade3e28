use Rattle.std.proofs.Common.{◌∙◌, sym, ap, subst, arith, Err, Result}
use Rattle.image_text.specs.Text.{lines}
use Rattle.image_text.specs.Reading.{image, image_from, Reads}
use Rattle.image_text.specs.declared.image.Image.{Image}
use Rattle.image_text.specs.declared.image.TextFault.{TextFault}
use Rattle.image_text.proofs.Steps.{goes_on, stops}
use Rattle.image_text.proofs.reader.read_lines.Goals as goal

pub loop-line-init : goal.loop-line-init
unfolding image
loop-line-init c = (ap (λ d. image_from 1 d (lines c.args.text.now)) c.new-draft.ensures, omega arith)

pub returns-in-Err : goal.returns-in-Err
returns-in-Err c =
    let P : TextFault → Type 0 = λ e. Reads (Err e) (image c.args.text.now) in
    subst P (sym c.at.ensures)
    (stops c.loop-line.number c.loop-line.draft c.in-Some.line.now (lines c.in-Some.after.now) (image c.args.text.now) c.in-Err.refusal
    (ap (image_from c.loop-line.number c.loop-line.draft) (sym c.in-Some.ensures.0) ∙ c.loop-line.invariant.0) c.in-Err.ensures)

pub loop-line-preserved : goal.loop-line-preserved
loop-line-preserved c =
    let next = c.in-Some.ensures in (
      sym (goes_on c.loop-line.number c.loop-line.draft c.read.new.self c.in-Some.line.now (lines c.in-Some.after.now) c.in_default-read.ensures)
          ∙ ap (image_from c.loop-line.number c.loop-line.draft) (sym next.0) ∙ c.loop-line.invariant.0,
      omega (arith, next.1, c.loop-line.invariant.1),
    )

pub returns : goal.returns
unfolding image_from
returns c =
    let rest = ap (λ ls. image_from c.loop-line.number c.loop-line.draft ls) c.in_default.ensures in
    subst (λ (m : Result Image TextFault). Reads c.finish.result m) (sym rest ∙ c.loop-line.invariant.0) c.finish.ensures
