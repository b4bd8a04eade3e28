use Rattle.std.specs.Prelude.{slice_index, length}
use Rattle.std.proofs.Common.{arith, sym, ◌∙◌}
use Rattle.atomic_list.proofs.Reading.{readable, asked}
use Rattle.atomic_list.proofs.repairing.read_repair.Goals as goal

pub bucket_at-appended-requires-clause-fits : goal.bucket_at-appended-requires-clause-fits
bucket_at-appended-requires-clause-fits g c =
    let f = asked (length (g.W.Look.words c.args.words.now)) (slice_index (g.W.Look.words c.args.words.now)) c.requires in
    let m = readable (length (g.W.Look.words c.args.words.now)) (slice_index (g.W.Look.words c.args.words.now)) c.requires in
    omega (arith, f.to_append, m.within, m.small)

pub bucket_at-tail-requires-clause-fits : goal.bucket_at-tail-requires-clause-fits
bucket_at-tail-requires-clause-fits g c =
    let f = asked (length (g.W.Look.words c.args.words.now)) (slice_index (g.W.Look.words c.args.words.now)) c.requires in
    let m = readable (length (g.W.Look.words c.args.words.now)) (slice_index (g.W.Look.words c.args.words.now)) c.requires in
    omega (arith, f.last_tail, m.within, m.small)

pub bucket_at-removed-requires-clause-fits : goal.bucket_at-removed-requires-clause-fits
bucket_at-removed-requires-clause-fits g c =
    let f = asked (length (g.W.Look.words c.args.words.now)) (slice_index (g.W.Look.words c.args.words.now)) c.requires in
    let m = readable (length (g.W.Look.words c.args.words.now)) (slice_index (g.W.Look.words c.args.words.now)) c.requires in
    omega (arith, f.to_remove, m.within, m.small)

pub bucket_at-next-requires-clause-inside : goal.bucket_at-next-requires-clause-inside
bucket_at-next-requires-clause-inside g c =
    let f = asked (length (g.W.Look.words c.args.words.now)) (slice_index (g.W.Look.words c.args.words.now)) c.requires in
    let m = readable (length (g.W.Look.words c.args.words.now)) (slice_index (g.W.Look.words c.args.words.now)) c.requires in
    omega (arith, f.to_remove, m.within)

pub bucket_at-next-requires-clause-fits : goal.bucket_at-next-requires-clause-fits
bucket_at-next-requires-clause-fits g c =
    let f = asked (length (g.W.Look.words c.args.words.now)) (slice_index (g.W.Look.words c.args.words.now)) c.requires in
    let m = readable (length (g.W.Look.words c.args.words.now)) (slice_index (g.W.Look.words c.args.words.now)) c.requires in
    rw c.bucket_at-removed.ensures (let n = f.next (sym c.bucket_at-appended.ensures ∙ c.if-appended-ne0.false) (λ e. c.if-removed-eq0.false (c.bucket_at-removed.ensures ∙ e)) in omega (arith, n, m.within, m.small))

pub bucket_at-prev-requires-clause-inside : goal.bucket_at-prev-requires-clause-inside
bucket_at-prev-requires-clause-inside g c =
    let f = asked (length (g.W.Look.words c.args.words.now)) (slice_index (g.W.Look.words c.args.words.now)) c.requires in
    let m = readable (length (g.W.Look.words c.args.words.now)) (slice_index (g.W.Look.words c.args.words.now)) c.requires in
    omega (arith, f.to_remove, m.within)

pub bucket_at-prev-requires-clause-fits : goal.bucket_at-prev-requires-clause-fits
bucket_at-prev-requires-clause-fits g c =
    let f = asked (length (g.W.Look.words c.args.words.now)) (slice_index (g.W.Look.words c.args.words.now)) c.requires in
    let m = readable (length (g.W.Look.words c.args.words.now)) (slice_index (g.W.Look.words c.args.words.now)) c.requires in
    rw c.bucket_at-removed.ensures (let n = f.prev (sym c.bucket_at-appended.ensures ∙ c.if-appended-ne0.false) (λ e. c.if-removed-eq0.false (c.bucket_at-removed.ensures ∙ e)) in omega (arith, n, m.within, m.small))
