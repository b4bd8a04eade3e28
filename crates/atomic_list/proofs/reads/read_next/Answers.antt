use Rattle.std.specs.Prelude.{slice_index, length}
use Rattle.std.proofs.Common.{arith, sym, ◌∙◌}
use Rattle.atomic_list.proofs.Reading.{readable, finds, reads}
use Rattle.atomic_list.proofs.reads.read_next.Goals as goal

pub bucket_at-appended-requires-clause-fits : goal.bucket_at-appended-requires-clause-fits
bucket_at-appended-requires-clause-fits g c =
    let f = reads (length (g.W.Look.words c.args.words.now)) (slice_index (g.W.Look.words c.args.words.now)) c.args.node c.requires.list c.requires.node in
    let m = readable (length (g.W.Look.words c.args.words.now)) (slice_index (g.W.Look.words c.args.words.now)) c.requires.list in
    omega (arith, f.to_append, m.within, m.small)

pub bucket_at-requires-clause-fits : goal.bucket_at-requires-clause-fits
bucket_at-requires-clause-fits g c =
    let f = reads (length (g.W.Look.words c.args.words.now)) (slice_index (g.W.Look.words c.args.words.now)) c.args.node c.requires.list c.requires.node in
    let m = readable (length (g.W.Look.words c.args.words.now)) (slice_index (g.W.Look.words c.args.words.now)) c.requires.list in
    omega (arith, f.last_tail, m.within, m.small)

pub returns-then-node-appended : goal.returns-then-node-appended
returns-then-node-appended g c =
    let n = finds (length (g.W.Look.words c.args.words.now)) (slice_index (g.W.Look.words c.args.words.now)) c.args.node c.requires.list c.requires.node in
    sym (n.appended (λ e. c.if-appended-eq0.false (c.bucket_at-appended.ensures ∙ e)) (c.if-node-appended.true ∙ c.bucket_at-appended.ensures))

pub returns-then-node-bucket_at : goal.returns-then-node-bucket_at
returns-then-node-bucket_at g c =
    let n = finds (length (g.W.Look.words c.args.words.now)) (slice_index (g.W.Look.words c.args.words.now)) c.args.node c.requires.list c.requires.node in
    c.bucket_at-appended.ensures ∙ sym (n.before_appended (λ e. c.if-appended-eq0.false (c.bucket_at-appended.ensures ∙ e))
    (λ e. c.if-node-appended.false (e ∙ sym c.bucket_at-appended.ensures)) (c.if-node-bucket_at.true ∙ c.bucket_at.ensures))
