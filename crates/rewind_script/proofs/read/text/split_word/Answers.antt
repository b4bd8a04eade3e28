use Rattle.std.proofs.Common.{sym, ap, ◌∙◌, ◌+◌, ◌-◌, ◌++◌, take, drop, length, arith, take_all, length-drop}
use Rattle.rewind_script.specs.Text.{words, unless_empty}
use Rattle.rewind_script.proofs.Words.{words-none, words-some}
use Rattle.rewind_script.proofs.read.text.split_word.Goals as goal

pub returns-in-None-clause-parts : goal.returns-in-None-clause-parts
returns-in-None-clause-parts c = words-none c.args.line.now (sym c.find_blank.ensures ∙ c.in-None.is)

pub returns-in-Some-clause-parts : goal.returns-in-Some-clause-parts
returns-in-Some-clause-parts c =
    let found = words-some c.args.line.now c.in-Some.end (sym c.find_blank.ensures ∙ c.in-Some.is) in
    found.0 ∙ ap (λ rest. unless_empty (take c.in-Some.end c.args.line.now) ++ words rest)
    (sym (take_all (length c.args.line.now - (c.in-Some.end + 1)) (drop (c.in-Some.end + 1) c.args.line.now) (omega (arith, length-drop (c.in-Some.end + 1) c.args.line.now))))
