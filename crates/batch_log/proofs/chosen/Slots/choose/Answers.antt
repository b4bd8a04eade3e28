use Rattle.std.specs.Prelude.{slice_index, length}
use Rattle.std.proofs.Common.{◌<◌, ◌≤◌, refl, subst, ap, arith, ◌∙◌}
use Rattle.std.specs.Vec.{vec_capacity}
use Rattle.atomic_list.specs.Walk.{chain_of}
use Rattle.region_layout.specs.Layout.{layout_shape}
use Rattle.batch_log.specs.FreeBuckets.{free_buckets, buckets_for, HasTaken}
use Rattle.batch_log.specs.ChosenSlots.{ChosenSlots}
use Rattle.batch_log.proofs.FreeSlots.{enough_there, fewer_there, chosen_there, within_there}
use Rattle.batch_log.proofs.chosen.Slots.choose.Goals as goal

pub returns-then-not-find_free-clause-found : goal.returns-then-not-find_free-clause-found
returns-then-not-find_free-clause-found g c = λ w same. fewer_there c.args.layout c.args.part (length (g.W.Look.words c.args.words.now)) (slice_index (g.W.Look.words c.args.words.now)) c.requires.part w same (buckets_for c.args.layout.cells c.args.count)
    (subst (λ n. length (free_buckets (layout_shape c.args.layout) c.args.part (chain_of (layout_shape c.args.layout) (slice_index (g.W.Look.words c.args.words.now)))) < n) c.needed-wanted.ensures c.if-not-find_free.ensures.fewer)

pub returns-clause-found : goal.returns-clause-found
returns-clause-found g c = λ w same. enough_there c.args.layout c.args.part (length (g.W.Look.words c.args.words.now)) (slice_index (g.W.Look.words c.args.words.now)) c.requires.part w same (buckets_for c.args.layout.cells c.args.count)
    (subst (λ n. n ≤ length (free_buckets (layout_shape c.args.layout) c.args.part (chain_of (layout_shape c.args.layout) (slice_index (g.W.Look.words c.args.words.now))))) c.needed-wanted.ensures c.if-not-find_free.ensures.taken.enough)

pub returns-clause-chosen : goal.returns-clause-chosen
returns-clause-chosen g c = λ w same. chosen_there c.args.layout c.args.part (length (g.W.Look.words c.args.words.now)) (slice_index (g.W.Look.words c.args.words.now)) c.requires.part w same (buckets_for c.args.layout.cells c.args.count) c.chain_last-self-inside.result (vec_capacity c.find_free.new.found)
    c.find_free.new.found.items _ _
    (subst (λ n. HasTaken n (free_buckets (layout_shape c.args.layout) c.args.part (chain_of (layout_shape c.args.layout) (slice_index (g.W.Look.words c.args.words.now)))) c.find_free.new.found.items) c.needed-wanted.ensures c.if-not-find_free.ensures.taken)
    c.chain_last-self-inside.ensures (let spare = c.requires.spare in
    let capacity = c.if-not-find_free.ensures.capacity in
    let seen = ap (λ (v : ChosenSlots). v.spare) c.self.view_is in
    omega (arith, spare, capacity, seen))
    c.requires.empty
    (let capacity = c.if-not-find_free.ensures.capacity in
    let seen = ap (λ (v : ChosenSlots). v.spare) c.self.view_is in
    let none = ap length (ap (λ (v : ChosenSlots). v.buckets) c.self.view_is ∙ c.requires.empty) in
    omega (arith, capacity, seen, none))
    refl refl refl

pub returns-clause-within : goal.returns-clause-within
returns-clause-within g c = within_there c.args.layout c.args.part (length (g.W.Look.words c.args.words.now)) (slice_index (g.W.Look.words c.args.words.now)) c.requires.part (slice_index (g.W.Look.words c.args.words.now)) (λ a lt. refl) c.needed-wanted.result c.find_free.new.found.items c.if-not-find_free.ensures.taken
