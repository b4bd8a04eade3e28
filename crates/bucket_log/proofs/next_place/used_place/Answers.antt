use Rattle.std.specs.Prelude.{slice_index, length}
use Rattle.std.proofs.Common.{◌+◌, ◌*◌, ◌≤◌, sym, subst, ◌∙◌}
use Rattle.bucket_log.proofs.Walking.{last_inside}
use Rattle.bucket_log.proofs.next_place.used_place.Goals as goal

pub first_closed-requires-clause-bucket : goal.first_closed-requires-clause-bucket
first_closed-requires-clause-bucket g c =
    subst (λ n. n + (8 + 8 * c.args.layout.cells) ≤ (length (g.W.Look.words c.args.words.now))) (sym c.requires.tail)
    (last_inside c.args.layout (length (g.W.Look.words c.args.words.now)) (slice_index (g.W.Look.words c.args.words.now)) c.requires.list (λ e. c.if-tail-eq0.false (c.requires.tail ∙ e)))
