use Rattle.std.proofs.Common.{◌≡◌, ◌≢◌, ◌-◌, ◌<◌, zero, suc, length, arith, sym, ap, subst, get_or}
use Rattle.pooled_region.specs.declared.pool.Word.{Word}
use Rattle.pooled_region.specs.Pool.{no_word}
use Rattle.persist_model.specs.Region.{candidate}
use Rattle.pooled_region.proofs.Counts.{count_set}
use Rattle.pooled_region.proofs.Relinked.{oldest_pool, marked_pool, marked_here, marked_others}
use Rattle.pooled_region.proofs.pool.mark_newest.Goals as goal

-- a word with a later candidate
some : (word read : Word) → read ≡ word → read.later ≢ 0 → 0 < word.later
some word read same apart =
    let later : read.later ≡ word.later = ap (λ (w : Word). w.later) same in omega (arith, later, apart)

long : (word read : Word) → read ≡ word → read.later ≢ 0 → word.later ≡ suc (word.later - 1)
long word read same apart = let more : 0 < word.later = some word read same apart in omega arith

pub read_place-place-requires : goal.read_place-place-requires
read_place-place-requires c =
    subst (λ (w : Word). w.newest < length c.args.places.now) (sym c.read_word-word.ensures)
    (c.requires.pooled.within (suc c.args.address) zero (some _ c.read_word-word.result c.read_word-word.ensures c.if-word-eq0.false))

pub offset_bounds-places-word : goal.offset_bounds-places-word
offset_bounds-places-word c =
    let below : c.read_word-word.result.newest < length c.args.places.now = subst (λ (w : Word). w.newest < length c.args.places.now) (sym c.read_word-word.ensures)
    (c.requires.pooled.within (suc c.args.address) zero (some _ c.read_word-word.result c.read_word-word.ensures c.if-word-eq0.false)) in
    omega arith

pub bounds-places-word : goal.bounds-places-word
bounds-places-word c =
    subst (λ (w : Word). w.newest < length c.args.places.now) (sym c.read_word-word.ensures)
    (c.requires.pooled.within (suc c.args.address) zero (some _ c.read_word-word.result c.read_word-word.ensures c.if-word-eq0.false))

pub returns-then-word-eq0-clause-pooled : goal.returns-then-word-eq0-clause-pooled
returns-then-word-eq0-clause-pooled c = rw (c.read_word-word.ensures)
    (oldest_pool c.args.places.now c.args.words.now c.args.free.now c.args.address _ c.requires.address c.requires.pooled)

pub returns-else-word-eq0-clause-pooled : goal.returns-else-word-eq0-clause-pooled
returns-else-word-eq0-clause-pooled c = rw (c.read_place-place.ensures, c.read_word-word.ensures)
    (marked_pool c.args.places.now c.args.words.now c.args.free.now c.args.address c.args.mark (some _ c.read_word-word.result c.read_word-word.ensures c.if-word-eq0.false) c.requires.pooled)

pub returns-else-word-eq0-clause-here : goal.returns-else-word-eq0-clause-here
returns-else-word-eq0-clause-here c = rw (c.read_place-place.ensures, c.read_word-word.ensures)
    (marked_here c.args.places.now c.args.words.now c.args.free.now c.args.address c.args.mark _ (long _ c.read_word-word.result c.read_word-word.ensures c.if-word-eq0.false) c.requires.pooled)

pub returns-else-word-eq0-clause-others : goal.returns-else-word-eq0-clause-others
returns-else-word-eq0-clause-others c = rw (c.read_place-place.ensures, c.read_word-word.ensures)
    (marked_others c.args.places.now c.args.words.now c.args.free.now c.args.address c.args.mark (some _ c.read_word-word.result c.read_word-word.ensures c.if-word-eq0.false) c.requires.pooled)

pub returns-then-word-eq0-clause-none_lost : goal.returns-then-word-eq0-clause-none_lost
returns-then-word-eq0-clause-none_lost c =
    let later : c.read_word-word.result.later ≡ (get_or c.args.words.now c.args.address no_word).later = ap (λ (w : Word). w.later) c.read_word-word.ensures in
    omega (
      arith,
      later,
      count_set c.args.words.now c.args.address
          (record { oldest = candidate c.read_word-word.result.oldest.value c.args.mark; newest = c.read_word-word.result.newest; later = c.read_word-word.result.later }) c.requires.address,
    )
