use Rattle.std.proofs.Common.{◌≡◌, ◌≤◌, List, sym, ap, ◌∙◌, arith, length, subst, get_or, zero}
use Rattle.std.specs.Vec.{with_items}
use Rattle.std.proofs.lemmas.List.{with_items_is}
use Rattle.persist_model.specs.Region.{picked}
use Rattle.pooled_region.specs.declared.pool.Place.{Place}
use Rattle.pooled_region.specs.declared.pool.Word.{Word}
use Rattle.pooled_region.specs.Pool.{no_word, HasPlaces, candidates_at, cells_of, settled_word, later_count, AreBare}
use Rattle.pooled_region.proofs.Apart.{count_fits}
use Rattle.pooled_region.proofs.Counts.{bare_count}
use Rattle.pooled_region.proofs.Found.{are_within, found_bare}
use Rattle.pooled_region.proofs.Regions.{cells_restarted}
use Rattle.pooled_region.proofs.pooled.CellsDevice.restart.Goals as goal

pub settle-requires-clause-within : goal.settle-requires-clause-within
settle-requires-clause-within c = λ a.
    let self = c.args.self.now in
    subst (λ (ps : List Place). HasPlaces ps (get_or c.deref_mut.result.now a no_word)) (sym c.deref.ensures.value)
    (subst (λ (ws : List Word). HasPlaces self.places.items (get_or ws a no_word)) (sym c.deref_mut.ensures.value) (are_within self.places.items self.words.items self.free self.pooled a))

pub returns-clause-cells : goal.returns-clause-cells
returns-clause-cells c =
    let self = c.args.self.now in
    let same : length c.settle.new.words ≡ self.words.len = omega arith in
    let items = with_items_is self.words c.settle.new.words same in
    let same_places : length c.free_all-self.new.places ≡ self.places.len = omega arith in
    let places = with_items_is self.places c.free_all-self.new.places same_places in
    (λ i. cells_of (places i) (items i))
    ∙ cells_restarted self.places.items c.free_all-self.new.places self.words.items c.settle.new.words c.args.pick (omega arith) c.settle.ensures.bare
    (λ b below. c.settle.ensures.picked b below
    ∙ ap (λ (ps : List Place). settled_word (picked c.args.pick b (candidates_at ps c.deref_mut.result.now b))) c.deref.ensures.value
    ∙ ap (λ (ws : List Word). settled_word (picked c.args.pick b (candidates_at self.places.items ws b))) c.deref_mut.ensures.value)

pub returns-clause-spare : goal.returns-clause-spare
returns-clause-spare c =
    let self = c.args.self.now in
    let fits : self.free.count ≤ length self.places.items = count_fits self.places.items self.words.items self.free self.pooled zero in
    omega (arith, c.free_all-self.ensures.count, c.deref_mut-2.ensures.len, self.places.ok.0)

pub invariant_of-self-clause-none_lost : goal.invariant_of-self-clause-none_lost
invariant_of-self-clause-none_lost c =
    let self = c.args.self.now in
    let same : length c.settle.new.words ≡ self.words.len = omega arith in
    let none : later_count c.settle.new.words ≡ 0 = bare_count c.settle.new.words c.settle.ensures.bare in
    omega (arith, ap later_count (with_items_is self.words c.settle.new.words same), none, c.free_all-self.ensures.count, c.deref_mut-2.ensures.len, self.places.ok.0)

pub invariant_of-self-clause-are_found : goal.invariant_of-self-clause-are_found
invariant_of-self-clause-are_found c =
    let self = c.args.self.now in
    let same : length c.settle.new.words ≡ self.words.len = omega arith in
    found_bare (with_items self.places c.free_all-self.new.places).items (with_items self.words c.settle.new.words).items c.clear.new.self.items self.positions.items
    (subst AreBare (sym (with_items_is self.words c.settle.new.words same)) c.settle.ensures.bare)

pub invariant_of-self-clause-long : goal.invariant_of-self-clause-long
invariant_of-self-clause-long c =
    let self = c.args.self.now in
    let same : length c.settle.new.words ≡ self.words.len = omega arith in
    omega (arith, ap length (with_items_is self.words c.settle.new.words same), self.long, self.words.ok.0)

pub invariant_of-self-clause-small : goal.invariant_of-self-clause-small
invariant_of-self-clause-small c =
    let self = c.args.self.now in
    let same : length c.settle.new.words ≡ self.words.len = omega arith in
    omega (arith, ap length (with_items_is self.words c.settle.new.words same), self.small, self.words.ok.0)
