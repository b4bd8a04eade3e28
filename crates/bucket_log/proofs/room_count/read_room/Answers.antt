use Rattle.std.specs.Prelude.{slice_index, length}
use Rattle.std.proofs.Common.{◌+◌, ◌*◌, ◌≤◌, arith, sym, subst, ◌∙◌}
use Rattle.bucket_log.proofs.Walking.{good_chain, last_inside}
use Rattle.bucket_log.proofs.room_count.read_room.Goals as goal

pub overflow_sub-part : goal.overflow_sub-part
overflow_sub-part g c =
    let few = (good_chain c.args.layout (length (g.W.Look.words c.args.words.now)) (slice_index (g.W.Look.words c.args.words.now)) c.requires.log).few in
    let all = c.requires.is_part.1 in
    let count = c.chain_end-end.ensures.count in
    omega (arith, few, all, count)

pub closed_in-requires-clause-bucket : goal.closed_in-requires-clause-bucket
closed_in-requires-clause-bucket g c =
    subst (λ n. n + (8 + 8 * c.args.layout.cells) ≤ (length (g.W.Look.words c.args.words.now))) (sym c.chain_end-end.ensures.last)
    (last_inside c.args.layout (length (g.W.Look.words c.args.words.now)) (slice_index (g.W.Look.words c.args.words.now)) c.requires.log (λ e. c.if-end-eq0.false (c.chain_end-end.ensures.last ∙ e)))
