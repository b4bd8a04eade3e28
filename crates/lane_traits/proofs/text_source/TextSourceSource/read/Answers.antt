use Rattle.std.proofs.Common.{◌≡◌, ◌∙◌, ℕ, List, length, min, take, drop, ap, arith}
use Rattle.lane_traits.proofs.Streams.{failed_calls-counted, gives_next}
use Rattle.lane_traits.proofs.text_source.TextSourceSource.read.Goals as goal

pub returns-clause-given : goal.returns-clause-given
returns-clause-given c =
    let left : c.split_at.result.1.now ≡ drop c.self.inside.at c.self.inside.text
    = c.split_at.ensures.back ∙ ap (λ (t : List ℕ). drop c.self.inside.at t) c.as_slice.ensures in
    rw (← c.self.view_is)
    (gives_next c.self.inside.text c.args.buf.now _ c.self.inside.at c.min-count.result c.self.invariant
    (c.copy_from_slice.ensures.after ∙ c.split_at-2.ensures.front ∙ ap (take c.min-count.result) left)
    (c.min-count.ensures ∙ ap (λ (t : List ℕ). min (length c.args.buf.now) (length t)) left)
    c.requires)

pub returns-clause-never_falls : goal.returns-clause-never_falls
returns-clause-never_falls c =
    rw (← c.self.view_is, c.saturating_add-self-inside.ensures)
    (failed_calls-counted c.self.inside.fail c.self.inside.calls (omega arith))
