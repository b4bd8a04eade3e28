use Rattle.std.proofs.Common.{◌==◌, not, ap, ◌∙◌, rules}
use Rattle.std.specs.List.{filter, list_any}
use Rattle.std.proofs.lemmas.Fn.{filter_same}
use Rattle.bucket_log.specs.declared.scanning.Placed.{Placed}
use Rattle.recovery_analysis.specs.declared.grouping.Transaction.{Transaction}
use Rattle.recovery_analysis.proofs.working.running_of.Goals as goal

pub returns : goal.returns
returns c =
    c.from_vec.ensures
    ∙ filter_same _ (λ (t : Transaction). not (list_any (λ (x : Placed). x.cell.kind == 4) t.records)) _ (λ t b f k. search rules) _ _ c.retain.ensures.filtered
    ∙ ap (filter (λ (t : Transaction). not (list_any (λ (x : Placed). x.cell.kind == 4) t.records))) c.into_vec-kept.ensures
