use Rattle.std.proofs.Common.{◌∙◌, sym, ap, refl, subst, Err}
use Rattle.image_text.specs.Grammar.{BreaksAt}
use Rattle.image_runner.proofs.migrating.migrate_text.Goals as goal

pub returns-in-Err-Line : goal.returns-in-Err-Line
returns-in-Err-Line g c =
    (subst (BreaksAt c.args.text.now) (sym c.in-Err-Line.line-is) (c.read_image.ensures.breaks c.in-Err-Line.line (c.in-Err-Line.is ∙ ap Err c.in-Err-Line.field-0-is)), refl, refl)
