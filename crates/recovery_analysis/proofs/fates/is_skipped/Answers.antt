use Rattle.std.proofs.Common.{ap, ◌∙◌}
use Rattle.std.specs.List.{list_any}
use Rattle.recovery_analysis.proofs.Fated.{is_end_below, skipped_is}
use Rattle.recovery_analysis.proofs.fates.is_skipped.Goals as goal

pub returns : goal.returns
returns c = λ log h newest. skipped_is log c.args.transaction.now c.args.checkpoint _ h newest
    (c.has_end_below.ensures ∙ ap (list_any (is_end_below c.args.checkpoint)) c.as_slice.ensures)
