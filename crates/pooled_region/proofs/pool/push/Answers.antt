use Rattle.std.proofs.Common.{◌≡◌, ◌+◌, ◌<◌, zero, suc, length, arith, ap, get_or}
use Rattle.pooled_region.specs.declared.pool.Word.{Word}
use Rattle.pooled_region.specs.Pool.{no_word}
use Rattle.pooled_region.proofs.Apart.{count_fits}
use Rattle.pooled_region.proofs.Counts.{count_set}
use Rattle.pooled_region.proofs.Pushed.{pushed_pool, pushed_here, pushed_others}
use Rattle.pooled_region.proofs.pool.push.Goals as goal

pub read_place-next-requires : goal.read_place-next-requires
read_place-next-requires c = c.requires.pooled.within zero zero c.requires.room

pub offset_bounds-places-taken : goal.offset_bounds-places-taken
offset_bounds-places-taken c = let below : c.args.free.now.first < length c.args.places.now = c.requires.pooled.within zero zero c.requires.room in omega arith

pub bounds-places-taken : goal.bounds-places-taken
bounds-places-taken c = c.requires.pooled.within zero zero c.requires.room

pub overflow_add-words : goal.overflow_add-words
overflow_add-words c = let fits = count_fits c.args.places.now c.args.words.now c.args.free.now c.requires.pooled (suc c.args.address) in
    let later : c.read_word-word.result.later ≡ (get_or c.args.words.now c.args.address no_word).later = ap (λ (w : Word). w.later) c.read_word-word.ensures in
    omega (arith, fits, later)

pub returns-clause-pooled : goal.returns-clause-pooled
returns-clause-pooled c = rw (c.read_word-word.ensures, c.read_place-next.ensures)
    (pushed_pool c.args.places.now c.args.words.now c.args.free.now c.args.address c.args.candidate c.requires.pooled c.requires.room c.requires.address)

pub returns-clause-here : goal.returns-clause-here
returns-clause-here c = rw (c.read_word-word.ensures)
    (pushed_here c.args.places.now c.args.words.now c.args.free.now c.args.address c.args.candidate c.requires.pooled c.requires.room c.requires.address)

pub returns-clause-others : goal.returns-clause-others
returns-clause-others c = rw (c.read_word-word.ensures)
    (pushed_others c.args.places.now c.args.words.now c.args.free.now c.args.address c.args.candidate c.requires.pooled c.requires.room)

pub returns-clause-none_lost : goal.returns-clause-none_lost
returns-clause-none_lost c =
    let later : c.read_word-word.result.later ≡ (get_or c.args.words.now c.args.address no_word).later = ap (λ (w : Word). w.later) c.read_word-word.ensures in
    omega (
      arith,
      later,
      c.requires.room,
      count_set c.args.words.now c.args.address
          (record { oldest = c.read_word-word.result.oldest; newest = c.args.free.now.first; later = c.read_word-word.result.later + 1 }) c.requires.address,
    )
