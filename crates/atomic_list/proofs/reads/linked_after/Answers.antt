use Rattle.std.specs.Prelude.{slice_index, length}
use Rattle.std.proofs.Common.{inl, inr, arith, sym, ◌∙◌, ap}
use Rattle.atomic_list.proofs.Reading.{readable, finds, reads}
use Rattle.atomic_list.proofs.reads.linked_after.Goals as goal

pub bucket_at-next-requires-clause-inside : goal.bucket_at-next-requires-clause-inside
bucket_at-next-requires-clause-inside g c =
    let f = reads (length (g.W.Look.words c.args.words.now)) (slice_index (g.W.Look.words c.args.words.now)) c.args.node c.requires.list c.requires.node in
    let m = readable (length (g.W.Look.words c.args.words.now)) (slice_index (g.W.Look.words c.args.words.now)) c.requires.list in
    omega (arith, f.inside, m.within, c.link_behind.ensures)

pub bucket_at-next-requires-clause-fits : goal.bucket_at-next-requires-clause-fits
bucket_at-next-requires-clause-fits g c =
    let f = reads (length (g.W.Look.words c.args.words.now)) (slice_index (g.W.Look.words c.args.words.now)) c.args.node c.requires.list c.requires.node in
    let m = readable (length (g.W.Look.words c.args.words.now)) (slice_index (g.W.Look.words c.args.words.now)) c.requires.list in
    let q = f.next c.requires.linked in rw c.link_behind.ensures (omega (arith, q, m.within, m.small))

pub returns-then-next-eq0 : goal.returns-then-next-eq0
returns-then-next-eq0 g c =
    let n = finds (length (g.W.Look.words c.args.words.now)) (slice_index (g.W.Look.words c.args.words.now)) c.args.node c.requires.list c.requires.node in
    let is = c.bucket_at-next.ensures ∙ ap (slice_index (g.W.Look.words c.args.words.now)) c.link_behind.ensures in
    is ∙ sym (n.plain c.requires.linked (inl (sym is ∙ c.if-next-eq0.true)))

pub bucket_at-requires-clause-fits : goal.bucket_at-requires-clause-fits
bucket_at-requires-clause-fits g c =
    let f = reads (length (g.W.Look.words c.args.words.now)) (slice_index (g.W.Look.words c.args.words.now)) c.args.node c.requires.list c.requires.node in
    let m = readable (length (g.W.Look.words c.args.words.now)) (slice_index (g.W.Look.words c.args.words.now)) c.requires.list in
    omega (arith, f.to_remove, m.within, m.small)

pub bucket_at-requires-then-next-bucket_at-clause-inside : goal.bucket_at-requires-then-next-bucket_at-clause-inside
bucket_at-requires-then-next-bucket_at-clause-inside g c =
    let f = reads (length (g.W.Look.words c.args.words.now)) (slice_index (g.W.Look.words c.args.words.now)) c.args.node c.requires.list c.requires.node in
    let m = readable (length (g.W.Look.words c.args.words.now)) (slice_index (g.W.Look.words c.args.words.now)) c.requires.list in
    let q = f.next c.requires.linked in
    rw (c.bucket_at-next.ensures, c.link_behind.ensures) (omega (arith, q, m.within))

pub bucket_at-requires-then-next-bucket_at-clause-fits : goal.bucket_at-requires-then-next-bucket_at-clause-fits
bucket_at-requires-then-next-bucket_at-clause-fits g c =
    let f = reads (length (g.W.Look.words c.args.words.now)) (slice_index (g.W.Look.words c.args.words.now)) c.args.node c.requires.list c.requires.node in
    let m = readable (length (g.W.Look.words c.args.words.now)) (slice_index (g.W.Look.words c.args.words.now)) c.requires.list in
    let is = c.bucket_at-next.ensures ∙ ap (slice_index (g.W.Look.words c.args.words.now)) c.link_behind.ensures in
    let q = f.skipped c.requires.linked (λ e. c.if-next-eq0.false (is ∙ e)) (sym is ∙ c.if-next-bucket_at.true ∙ c.bucket_at.ensures) in
    rw is (omega (arith, q, m.within, m.small))

pub returns-then-next-bucket_at : goal.returns-then-next-bucket_at
returns-then-next-bucket_at g c =
    let n = finds (length (g.W.Look.words c.args.words.now)) (slice_index (g.W.Look.words c.args.words.now)) c.args.node c.requires.list c.requires.node in
    let is = c.bucket_at-next.ensures ∙ ap (slice_index (g.W.Look.words c.args.words.now)) c.link_behind.ensures in
    c.bucket_at-then-next-bucket_at.ensures ∙ ap (slice_index (g.W.Look.words c.args.words.now)) is
    ∙ sym (n.skips c.requires.linked (λ e. c.if-next-eq0.false (is ∙ e)) (sym is ∙ c.if-next-bucket_at.true ∙ c.bucket_at.ensures))

pub returns : goal.returns
returns g c =
    let n = finds (length (g.W.Look.words c.args.words.now)) (slice_index (g.W.Look.words c.args.words.now)) c.args.node c.requires.list c.requires.node in
    let is = c.bucket_at-next.ensures ∙ ap (slice_index (g.W.Look.words c.args.words.now)) c.link_behind.ensures in
    is ∙ sym (n.plain c.requires.linked (inr (λ e. c.if-next-bucket_at.false (is ∙ e ∙ sym c.bucket_at.ensures))))
