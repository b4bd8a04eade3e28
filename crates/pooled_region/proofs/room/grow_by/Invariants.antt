use Rattle.std.proofs.Common.{◌≡◌, ℕ, ◌+◌, ◌≤◌, List, vec_len}
use Rattle.std.specs.Vec.{vec_capacity}
use Rattle.pooled_region.specs.declared.pool.Word.{Word}
use Rattle.pooled_region.specs.Pool.{candidates_at, ArePooled}
use Rattle.pooled_region.proofs.room.grow_by.Given as goal

abbrev pub invariant-loop-made : goal.invariant-loop-made
invariant-loop-made l = record {
  pooled : (words : List Word) → ArePooled l.initial.places.items words l.initial.free → ArePooled l.places.items words l.free;
  same : (words : List Word) → ArePooled l.initial.places.items words l.initial.free
      → (a : ℕ) → candidates_at l.places.items words a ≡ candidates_at l.initial.places.items words a;
  count : l.free.count ≡ l.initial.free.count + l._made;
  longer : vec_len l.places ≡ vec_len l.initial.places + l._made;
  room : vec_len l.places + l.fn.more ≤ vec_capacity l.places + l._made;
  fewer : l.free.count ≤ vec_len l.places;
}
