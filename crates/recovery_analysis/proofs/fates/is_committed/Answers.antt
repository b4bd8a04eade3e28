use Rattle.std.proofs.Common.{ap, ◌∙◌}
use Rattle.std.specs.List.{list_any}
use Rattle.recovery_analysis.proofs.Fated.{is_commit, committed_is}
use Rattle.recovery_analysis.proofs.fates.is_committed.Goals as goal

pub returns : goal.returns
returns c = λ log h. committed_is log c.args.transaction.now _ h (c.has_commit.ensures ∙ ap (list_any is_commit) c.as_slice.ensures)
