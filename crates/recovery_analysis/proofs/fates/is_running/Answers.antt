use Rattle.std.proofs.Common.{◌==◌, not, ap, ◌∙◌}
use Rattle.std.specs.List.{list_any}
use Rattle.bucket_log.specs.declared.scanning.Placed.{Placed}
use Rattle.recovery_analysis.proofs.Fated.{running_is}
use Rattle.recovery_analysis.proofs.fates.is_running.Goals as goal

pub returns : goal.returns
returns c = λ log h. running_is log c.args.transaction.now _ h
    (ap not c.has_kind.ensures ∙ ap (λ xs. not (list_any (λ (x : Placed). x.cell.kind == 4) xs)) c.as_slice.ensures)
