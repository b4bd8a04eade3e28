use Rattle.std.proofs.Common.{arith, ◌∙◌, ◌+◌, ◌<◌, sym, ap, length, take, false-eqb, eqb-true, length-drop, ◌∷◌}
use Rattle.image_text.specs.Text.{lines}
use Rattle.image_text.proofs.Splitting.{lines_none, lines_last, lines_next, first_none, first_some, behind}
use Rattle.image_text.proofs.lines.next_line.Goals as goal

pub returns-then-is_empty : goal.returns-then-is_empty
returns-then-is_empty c = lines_none c.args.text.now (eqb-true (length c.args.text.now) 0 (sym c.if-is_empty.ensures))

pub returns-in-None : goal.returns-in-None
unfolding lines
returns-in-None c =
    let some : 0 < length c.args.text.now = omega (arith, false-eqb (length c.args.text.now) 0 (c.if-is_empty.ensures)) in
    (lines_last c.args.text.now some (first_none 10 c.args.text.now c.in-None.ensures), some)

pub returns-in-Some : goal.returns-in-Some
returns-in-Some c =
    let text = c.args.text.now in
    let h = c.in-Some.ensures in
    let rest = behind text c.in-Some.end h.0.high in (
      lines_next text c.in-Some.end h.0.high (first_some 10 text c.in-Some.end h.0.high h.0.before h.1)
          ∙ ap (λ r. take c.in-Some.end text ∷ lines r) (sym rest),
      omega (arith, ap length rest, length-drop (c.in-Some.end + 1) text, h.0.high),
    )
