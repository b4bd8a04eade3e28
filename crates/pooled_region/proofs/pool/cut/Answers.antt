use Rattle.std.proofs.Common.{◌≡◌, ℕ, ◌+◌, ◌-◌, ◌<◌, ◌≤◌, suc, List, length, sym, ◌∙◌, ap, subst, arith, get_or}
use Rattle.pooled_region.specs.declared.pool.Place.{Place}
use Rattle.pooled_region.specs.declared.pool.Word.{Word}
use Rattle.pooled_region.specs.declared.pool.Free.{Free}
use Rattle.pooled_region.specs.Pool.{no_word, place_at, ArePooled}
use Rattle.pooled_region.proofs.Steps.{place_at-sum}
use Rattle.pooled_region.proofs.Counts.{count_set}
use Rattle.pooled_region.proofs.Shortened.{cut_pool, cut_fits, cut_here, cut_others}
use Rattle.pooled_region.proofs.pool.cut.Goals as goal

-- places of a word that was read, from one of them on
behind_within : (places : List Place) (words : List Word) (free : Free) → ArePooled places words free → (a kept first : ℕ) (read : Word) → read ≡ get_or words a no_word
    → first ≡ place_at places read.newest kept → (i : ℕ) → kept + i < (get_or words a no_word).later → place_at places first i < length places
behind_within places words free pooled a kept first read same is i below =
    let word = get_or words a no_word in
    let e : place_at places first i ≡ place_at places word.newest (kept + i) =
    ap (λ p. place_at places p i) (is ∙ ap (λ (w : Word). place_at places w.newest kept) same) ∙ place_at-sum places word.newest kept i in
    subst (λ p. p < length places) (sym e) (pooled.within (suc a) (kept + i) below)

same_later : (read word : Word) → read ≡ word → read.later ≡ word.later
same_later read word same = ap (λ (w : Word). w.later) same

long : (word : Word) (kept : ℕ) → kept < word.later → word.later ≡ kept + suc (word.later - kept - 1)
long word kept below = omega arith

pub place_behind-first-requires : goal.place_behind-first-requires
place_behind-first-requires c = λ i lt.
    subst (λ (w : Word). place_at c.args.places.now w.newest i < length c.args.places.now) (sym c.read_word-word.ensures)
    (c.requires.pooled.within (suc c.args.address) i (omega (arith, lt, c.requires.kept)))

pub place_behind-last-requires : goal.place_behind-last-requires
place_behind-last-requires c = λ i lt.
    behind_within c.args.places.now c.args.words.now c.args.free.now c.requires.pooled c.args.address c.args.kept c.place_behind-first.result c.read_word-word.result
    c.read_word-word.ensures c.place_behind-first.ensures i (omega (arith, lt, same_later _ _ c.read_word-word.ensures))

pub read_place-place-requires : goal.read_place-place-requires
read_place-place-requires c =
    let later = same_later c.read_word-word.result (get_or c.args.words.now c.args.address no_word) c.read_word-word.ensures in
    let below : c.place_behind-last.result < length c.args.places.now = subst (λ p. p < length c.args.places.now) (sym c.place_behind-last.ensures)
    (behind_within c.args.places.now c.args.words.now c.args.free.now c.requires.pooled c.args.address c.args.kept c.place_behind-first.result c.read_word-word.result
    c.read_word-word.ensures c.place_behind-first.ensures (c.read_word-word.result.later - c.args.kept - 1) (omega (arith, later, c.requires.kept))) in
    below

pub offset_bounds-places-last : goal.offset_bounds-places-last
offset_bounds-places-last c =
    let later = same_later c.read_word-word.result (get_or c.args.words.now c.args.address no_word) c.read_word-word.ensures in
    let below : c.place_behind-last.result < length c.args.places.now = subst (λ p. p < length c.args.places.now) (sym c.place_behind-last.ensures)
    (behind_within c.args.places.now c.args.words.now c.args.free.now c.requires.pooled c.args.address c.args.kept c.place_behind-first.result c.read_word-word.result
    c.read_word-word.ensures c.place_behind-first.ensures (c.read_word-word.result.later - c.args.kept - 1) (omega (arith, later, c.requires.kept))) in
    omega arith

pub bounds-places-last : goal.bounds-places-last
bounds-places-last c =
    let later = same_later c.read_word-word.result (get_or c.args.words.now c.args.address no_word) c.read_word-word.ensures in
    let below : c.place_behind-last.result < length c.args.places.now = subst (λ p. p < length c.args.places.now) (sym c.place_behind-last.ensures)
    (behind_within c.args.places.now c.args.words.now c.args.free.now c.requires.pooled c.args.address c.args.kept c.place_behind-first.result c.read_word-word.result
    c.read_word-word.ensures c.place_behind-first.ensures (c.read_word-word.result.later - c.args.kept - 1) (omega (arith, later, c.requires.kept))) in
    below

pub overflow_add-free : goal.overflow_add-free
overflow_add-free c =
    let word = get_or c.args.words.now c.args.address no_word in
    let later : c.read_word-word.result.later ≡ word.later = same_later c.read_word-word.result word c.read_word-word.ensures in
    let fits : c.args.free.now.count + (word.later - c.args.kept) ≤ length c.args.places.now =
    cut_fits c.args.places.now c.args.words.now c.args.free.now c.args.address c.args.kept (word.later - c.args.kept - 1) c.args.oldest
    c.requires.pooled (long word c.args.kept c.requires.kept) c.requires.address in
    omega arith

pub returns-clause-pooled : goal.returns-clause-pooled
returns-clause-pooled c =
    let word = get_or c.args.words.now c.args.address no_word in
    rw (c.read_place-place.ensures, c.place_behind-last.ensures, c.place_behind-first.ensures, c.read_word-word.ensures)
    (cut_pool c.args.places.now c.args.words.now c.args.free.now c.args.address c.args.kept (word.later - c.args.kept - 1) c.args.oldest
    c.requires.pooled (long word c.args.kept c.requires.kept) c.requires.address)

pub returns-clause-here : goal.returns-clause-here
returns-clause-here c =
    let word = get_or c.args.words.now c.args.address no_word in
    rw (c.read_place-place.ensures, c.place_behind-last.ensures, c.place_behind-first.ensures, c.read_word-word.ensures)
    (cut_here c.args.places.now c.args.words.now c.args.free.now c.args.address c.args.kept (word.later - c.args.kept - 1) c.args.oldest
    c.requires.pooled (long word c.args.kept c.requires.kept) c.requires.address)

pub returns-clause-others : goal.returns-clause-others
returns-clause-others c =
    let word = get_or c.args.words.now c.args.address no_word in
    rw (c.read_place-place.ensures, c.place_behind-last.ensures, c.place_behind-first.ensures, c.read_word-word.ensures)
    (cut_others c.args.places.now c.args.words.now c.args.free.now c.args.address c.args.kept (word.later - c.args.kept - 1) c.args.oldest
    c.requires.pooled (long word c.args.kept c.requires.kept))

pub returns-clause-none_lost : goal.returns-clause-none_lost
returns-clause-none_lost c =
    let later : c.read_word-word.result.later ≡ (get_or c.args.words.now c.args.address no_word).later = same_later c.read_word-word.result (get_or c.args.words.now c.args.address no_word) c.read_word-word.ensures in
    omega (
      arith,
      later,
      c.requires.kept,
      count_set c.args.words.now c.args.address
          (record { oldest = c.args.oldest; newest = c.read_word-word.result.newest; later = c.args.kept }) c.requires.address,
    )
