use Rattle.std.proofs.Common.{◌≡◌, ◌≢◌, ℕ, ◌+◌, ◌-◌, ◌<◌, ◌≤◌, suc, true, false, List, ◌∷◌, length, sym, ◌∙◌, ap, subst, arith, get_or, set}
use Rattle.std.specs.List.{list_any}
use Rattle.std.proofs.lemmas.List.{get_or-set_same}
use Rattle.persist_model.specs.declared.event.Candidate.{Candidate}
use Rattle.persist_model.specs.Region.{has_mark, unmarked, fenced}
use Rattle.pooled_region.specs.declared.pool.Place.{Place}
use Rattle.pooled_region.specs.declared.pool.Word.{Word}
use Rattle.pooled_region.specs.Pool.{no_place, no_word, place_at, later_of, word_of, candidates_at}
use Rattle.pooled_region.proofs.Apart.{read_within}
use Rattle.pooled_region.proofs.Counts.{count_set}
use Rattle.pooled_region.proofs.Relinked.{oldest_pool}
use Rattle.pooled_region.proofs.Fences.{fenced_first, fenced_at}
use Rattle.pooled_region.proofs.pool.fence_word.Goals as goal

-- no later candidate has the mark
fenced_whole : (places : List Place) (words : List Word) (a mark kept : ℕ) (read : Word) (bare : Candidate) → read ≡ get_or words a no_word → kept ≡ read.later
    → list_any (has_mark mark) (later_of places read.newest kept) ≡ false → bare ≡ unmarked mark read.oldest → a < length words
    → candidates_at places (set words a (record { oldest = bare; newest = read.newest; later = read.later })) a ≡ fenced mark (candidates_at places words a)
fenced_whole places words a mark kept read bare same all none is inside =
    let later = later_of places read.newest read.later in
    let quiet : list_any (has_mark mark) later ≡ false = subst (λ n. list_any (has_mark mark) (later_of places read.newest n) ≡ false) all none in
    ap (word_of places) (get_or-set_same words a (record { oldest = bare; newest = read.newest; later = read.later }) no_word inside)
    ∙ ap (λ (c : Candidate). c ∷ later) is ∙ sym (fenced_first mark read.oldest later quiet) ∙ ap (λ (w : Word). fenced mark (word_of places w)) same

-- one has it
fenced_cut : (places : List Place) (word read : Word) (mark kept first : ℕ) (place : Place) (bare : Candidate) → read ≡ word → first ≡ place_at places read.newest kept
    → place ≡ get_or places first no_place → bare ≡ unmarked mark place.candidate → kept ≤ read.later → kept ≢ read.later
    → (kept < read.later → has_mark mark (get_or places (place_at places read.newest kept) no_place).candidate ≡ true)
    → list_any (has_mark mark) (later_of places read.newest kept) ≡ false → bare ∷ later_of places word.newest kept ≡ fenced mark (word_of places word)
fenced_cut places word read mark kept first place bare same first_is place_is bare_is order apart own none =
    let long : read.later ≡ kept + suc (read.later - kept - 1) = omega (arith, order, apart) in
    let settled : bare ≡ unmarked mark (get_or places (place_at places read.newest kept) no_place).candidate =
    bare_is ∙ ap (λ (p : Place). unmarked mark p.candidate) (place_is ∙ ap (λ n. get_or places n no_place) first_is) in
    ap (λ (w : Word). bare ∷ later_of places w.newest kept) (sym same)
    ∙ ap (λ (c : Candidate). c ∷ later_of places read.newest kept) settled
    ∙ sym (fenced_at mark places read kept (read.later - kept - 1) long (own (omega (arith, order, apart))) none)
    ∙ ap (λ (w : Word). fenced mark (word_of places w)) same

pub newer_count-kept-requires : goal.newer_count-kept-requires
newer_count-kept-requires c = read_within c.args.places.now c.args.words.now c.args.free.now c.requires.pooled c.args.address c.read_word-word.result c.read_word-word.ensures

pub returns-then-kept-word-clause-pooled : goal.returns-then-kept-word-clause-pooled
returns-then-kept-word-clause-pooled c = rw (c.read_word-word.ensures)
    (oldest_pool c.args.places.now c.args.words.now c.args.free.now c.args.address c.without_mark.result c.requires.address c.requires.pooled)

pub returns-then-kept-word-clause-here : goal.returns-then-kept-word-clause-here
returns-then-kept-word-clause-here c =
    fenced_whole c.args.places.now c.args.words.now c.args.address c.args.mark c.newer_count-kept.result c.read_word-word.result c.without_mark.result
    c.read_word-word.ensures c.if-kept-word.true c.newer_count-kept.ensures.none c.without_mark.ensures c.requires.address

pub place_behind-first-requires : goal.place_behind-first-requires
place_behind-first-requires c = λ i lt.
    read_within c.args.places.now c.args.words.now c.args.free.now c.requires.pooled c.args.address c.read_word-word.result c.read_word-word.ensures i
    (omega (arith, lt, c.newer_count-kept.ensures.fewer))

pub read_place-requires : goal.read_place-requires
read_place-requires c =
    subst (λ p. p < length c.args.places.now) (sym c.place_behind-first.ensures)
    (read_within c.args.places.now c.args.words.now c.args.free.now c.requires.pooled c.args.address c.read_word-word.result c.read_word-word.ensures c.newer_count-kept.result
    (omega (arith, c.newer_count-kept.ensures.fewer, c.if-kept-word.false)))

pub returns-clause-here : goal.returns-clause-here
returns-clause-here c = c.cut.ensures.here
    ∙ fenced_cut c.args.places.now (get_or c.args.words.now c.args.address no_word) c.read_word-word.result c.args.mark c.newer_count-kept.result c.place_behind-first.result c.read_place.result
    c.without_mark-oldest.result c.read_word-word.ensures c.place_behind-first.ensures c.read_place.ensures c.without_mark-oldest.ensures c.newer_count-kept.ensures.fewer c.if-kept-word.false
    c.newer_count-kept.ensures.marked c.newer_count-kept.ensures.none

pub returns-then-kept-word-clause-none_lost : goal.returns-then-kept-word-clause-none_lost
returns-then-kept-word-clause-none_lost c =
    let later : c.read_word-word.result.later ≡ (get_or c.args.words.now c.args.address no_word).later = ap (λ (w : Word). w.later) c.read_word-word.ensures in
    omega (
      arith,
      later,
      count_set c.args.words.now c.args.address
          (record { oldest = c.without_mark.result; newest = c.read_word-word.result.newest; later = c.read_word-word.result.later }) c.requires.address,
    )
