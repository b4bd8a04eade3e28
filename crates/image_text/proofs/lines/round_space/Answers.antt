use Rattle.std.proofs.Common.{◌∙◌, ◌+◌, sym, ap, take, drop}
use Rattle.image_text.specs.Text.{is_space}
use Rattle.image_text.proofs.Splitting.{first_none, first_some, before_none, after_none, behind}
use Rattle.image_text.proofs.lines.round_space.Goals as goal

pub returns-in-None-clause-before : goal.returns-in-None-clause-before
returns-in-None-clause-before c = before_none is_space c.args.line.now (first_none 32 c.args.line.now c.in-None.ensures)

pub returns-in-None-clause-after : goal.returns-in-None-clause-after
returns-in-None-clause-after c = after_none is_space c.args.line.now (first_none 32 c.args.line.now c.in-None.ensures)

pub returns-in-Some-clause-before : goal.returns-in-Some-clause-before
returns-in-Some-clause-before c =
    let h = c.in-Some.ensures in
    ap (λ n. take n c.args.line.now) (sym (first_some 32 c.args.line.now c.in-Some.end h.0.high h.0.before h.1))

pub returns-in-Some-clause-after : goal.returns-in-Some-clause-after
returns-in-Some-clause-after c =
    let h = c.in-Some.ensures in
    behind c.args.line.now c.in-Some.end h.0.high
    ∙ ap (λ n. drop (n + 1) c.args.line.now) (sym (first_some 32 c.args.line.now c.in-Some.end h.0.high h.0.before h.1))
