use Rattle.std.proofs.Common.{refl, sym, ap, ◌∙◌}
use Rattle.std.specs.Prelude.{slice_index}
use Rattle.region_layout.specs.Layout.{layout_shape}
use Rattle.atomic_list.specs.Reads.{next_in}
use Rattle.rest_check.proofs.Seconds.{list_of_row, chain_read, buckets_of, none_is, second_is}
use Rattle.rest_check.proofs.reading.second_bucket.Goals as goal

pub next_bucket-first-requires-clause-list : goal.next_bucket-first-requires-clause-list
next_bucket-first-requires-clause-list g c = list_of_row c.args.layout c.args.p (g.W.Look.words c.args.words.now) _ c.requires.partition c.requires.logs c.new-view.ensures

pub next_bucket-requires-clause-list : goal.next_bucket-requires-clause-list
next_bucket-requires-clause-list g c = list_of_row c.args.layout c.args.p (g.W.Look.words c.args.words.now) _ c.requires.partition c.requires.logs c.new-view.ensures

pub returns-then-first-eq0 : goal.returns-then-first-eq0
returns-then-first-eq0 g c = λ chain h. none_is (layout_shape c.args.layout) c.args.p chain (buckets_of (layout_shape c.args.layout) (slice_index (g.W.Look.words c.args.words.now)) c.args.p chain h)
    (ap (λ xs. next_in xs 0) (sym (chain_read c.args.layout c.args.p (g.W.Look.words c.args.words.now) _ c.requires.partition c.requires.logs c.new-view.ensures chain h))
    ∙ sym (c.next_bucket-first.ensures.next _ (λ a lt. refl)) ∙ c.if-first-eq0.true)

pub returns : goal.returns
returns g c = λ chain h.
    let read = chain_read c.args.layout c.args.p (g.W.Look.words c.args.words.now) _ c.requires.partition c.requires.logs c.new-view.ensures chain h in
    second_is chain c.next_bucket-first.result (c.next_bucket-first.ensures.next _ (λ a lt. refl) ∙ ap (λ xs. next_in xs 0) read) c.if-first-eq0.false
    ∙ ap (λ xs. next_in xs c.next_bucket-first.result) (sym read) ∙ sym (c.next_bucket.ensures.next _ (λ a lt. refl))
