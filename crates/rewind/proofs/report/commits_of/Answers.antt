use Rattle.std.proofs.Common.{◌∙◌, sym, ap, ◌++◌, ◌∷◌, [], List}
use Rattle.rewind_script.specs.declared.report.Printed.{Printed}
use Rattle.rewind.specs.History.{printed}
use Rattle.rewind.proofs.Reports.{commits-more}
use Rattle.rewind.proofs.report.commits_of.Goals as goal

pub loop-number-preserved : goal.loop-number-preserved
loop-number-preserved c =
    let n = c.loop-number.number in
    c.in_ok-push_commit.ensures
    ∙ ap (λ (front : List Printed). front ++ printed (record { lane = 0; number = n }) ∷ []) c.loop-number.invariant
    ∙ sym (commits-more n)
