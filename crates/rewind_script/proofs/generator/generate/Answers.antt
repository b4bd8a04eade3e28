use Rattle.std.proofs.Common.{◌≡◌, ◌∙◌, ap, arith}
use Rattle.std.proofs.lemmas.Grind.{common_steps}
use Rattle.rewind_script.specs.Generator.{generated}
use Rattle.rewind_script.specs.Grammar.{script}
use Rattle.rewind_script.proofs.Generated.{generated_is_script}
use Rattle.rewind_script.proofs.generator.generate.Goals as goal

pub returns-clause-script : goal.returns-clause-script
unfolding generated
returns-clause-script c =
    let text : c.append_lanes.new.text ≡ generated c.args.seed = grind (arith, common_steps) in
    ap script text ∙ generated_is_script c.args.seed
