use Rattle.std.specs.Prelude.{slice_index, length}
use Rattle.std.proofs.Common.{arith, sym, ◌∙◌}
use Rattle.bucket_log.proofs.Walking.{tail_is, last_small}
use Rattle.bucket_log.proofs.chain.last_bucket.Goals as goal

pub overflow_cast-result : goal.overflow_cast-result
overflow_cast-result g c =
    let is = tail_is c.args.layout (length (g.W.Look.words c.args.words.now)) (slice_index (g.W.Look.words c.args.words.now)) c.requires (sym c.word-appended.ensures ∙ c.if-appended-eq0.true) (sym c.word-removed.ensures ∙ c.if-removed-eq0.true) in
    let small = last_small c.args.layout (length (g.W.Look.words c.args.words.now)) (slice_index (g.W.Look.words c.args.words.now)) c.requires in
    let e = c.word.ensures in
    record { fits = omega (arith, is, small, e) }

pub returns-then-removed-eq0 : goal.returns-then-removed-eq0
returns-then-removed-eq0 g c = c.word.ensures ∙ tail_is c.args.layout (length (g.W.Look.words c.args.words.now)) (slice_index (g.W.Look.words c.args.words.now)) c.requires
    (sym c.word-appended.ensures ∙ c.if-appended-eq0.true) (sym c.word-removed.ensures ∙ c.if-removed-eq0.true)
