use Rattle.std.proofs.Common.{◌∙◌, sym, ap, subst, arith, Err}
use Rattle.std.specs.Str.Lines.{lines}
use Rattle.rewind_script.specs.Grammar.{script, script_from, Reads}
use Rattle.rewind_script.specs.declared.fault.ScriptFault.{ScriptFault}
use Rattle.rewind_script.proofs.Scripts.{goes_on, stops}
use Rattle.rewind_script.proofs.Keeping.{kept_line}
use Rattle.rewind_script.proofs.read.read_script.Goals as goal

pub returns-in-Err-clause-meaning : goal.returns-in-Err-clause-meaning
returns-in-Err-clause-meaning c =
    let P : ScriptFault → Type 0 = λ e. Reads (Err e) (script c.args.text.now) in
    subst P (sym c.at_line.ensures)
    (stops c.loop-line.number c.loop-line.reading c.in-Some.line.now (lines c.in-Some.after.now) (script c.args.text.now) c.in-Err.refusal
    (ap (script_from c.loop-line.number c.loop-line.reading) (sym c.in-Some.ensures.0) ∙ c.loop-line.invariant.0) c.in-Err.ensures.moves)

pub loop-line-preserved : goal.loop-line-preserved
loop-line-preserved c =
    let next = c.in-Some.ensures in (
      sym (goes_on c.loop-line.number c.loop-line.reading c.read_line.new.self c.in-Some.line.now (lines c.in-Some.after.now) c.in_default-read_line.ensures.moves)
          ∙ ap (script_from c.loop-line.number c.loop-line.reading) (sym next.0) ∙ c.loop-line.invariant.0,
      omega (arith, next.1, c.loop-line.invariant.1),
      kept_line c.loop-line.reading c.read_line.new.self c.in-Some.line.now c.loop-line.invariant.2 c.in_default-read_line.ensures.moves,
    )
