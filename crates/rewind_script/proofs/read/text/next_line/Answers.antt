use Rattle.std.proofs.Common.{arith, ◌∙◌, ◌+◌, ◌<◌, sym, ap, length, drop, false-eqb, ◌∷◌}
use Rattle.std.specs.Str.Lines.{lines, strip_carriage_return}
use Rattle.rewind_script.proofs.Words.{lines_last, lines_next, first_none, first_some, after_one}
use Rattle.rewind_script.proofs.read.text.next_line.Goals as goal

pub returns-in-None : goal.returns-in-None
returns-in-None c =
    let some : 0 < length c.args.text.now = omega (arith, false-eqb (length c.args.text.now) 0 (c.if-is_empty.ensures)) in
    (lines_last c.args.text.now some (first_none c.args.text.now c.in-None.ensures), some)

pub returns-in-Some : goal.returns-in-Some
returns-in-Some c =
    let h = c.in-Some.ensures in
    let rest = after_one c.args.text.now c.in-Some.end c.split_at.result.1.now c.split_at.ensures.back h.0.high in (
      lines_next c.args.text.now c.in-Some.end h.0.high (first_some c.args.text.now c.in-Some.end h.0.high h.0.before h.1)
          ∙ ap (λ line. line ∷ lines (drop (c.in-Some.end + 1) c.args.text.now)) (sym (c.without_return.ensures ∙ ap strip_carriage_return c.split_at.ensures.front))
          ∙ ap (λ r. c.without_return.result.now ∷ lines r) (sym rest.0),
      rest.1,
    )
