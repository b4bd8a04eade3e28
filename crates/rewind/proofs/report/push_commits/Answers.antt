use Rattle.std.proofs.Common.{◌∙◌, sym, ap, ℕ, List, ◌++◌, append_assoc}
use Rattle.rewind.specs.History.{commit_line, commit_lines, first_names}
use Rattle.rewind.proofs.Reports.{commit_lines-more}
use Rattle.rewind.proofs.report.push_commits.Goals as goal

pub loop-number-preserved : goal.loop-number-preserved
loop-number-preserved c =
    let n = c.loop-number.number in
    c.in_ok-extend_from_slice.ensures.items
    ∙ ap (λ (bytes : List ℕ). c.loop-number.text.items ++ bytes) (c.as_bytes.ensures.value ∙ c.in_ok-line.ensures)
    ∙ ap (λ (front : List ℕ). front ++ commit_line (record { lane = 0; number = n })) c.loop-number.invariant
    ∙ append_assoc c.args.text.now.items (commit_lines (first_names n)) (commit_line (record { lane = 0; number = n }))
    ∙ ap (λ (rest : List ℕ). c.args.text.now.items ++ rest) (sym (commit_lines-more n))
