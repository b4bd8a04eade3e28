-- What a call names is of the region and of the heap that stood at the start.
use Rattle.std.proofs.Common.{◌≡◌, ◌≢◌, ℕ, ◌+◌, ◌-◌, ◌*◌, ◌/◌, ◌%◌, ◌<◌, ◌≤◌, ◌==◌, ◌&&◌, nat_lt, not, Bool, true, false, refl, subst, arith}
use Rattle.std.proofs.lemmas.Bool.Decides.{nat_tests}
use Rattle.persist_model.specs.Shape.{heap}
use Rattle.region_layout.specs.declared.layout.Layout.{Layout}
use Rattle.region_layout.specs.Layout.{layout_shape, IsDataWord}
use Rattle.lane_types.specs.declared.call.Call.{Call}
use Rattle.lane_types.specs.Deeds.{Deeds}
use Rattle.lane_types.specs.Heaps.{Heap, is_data, block_of}
use Rattle.lane_types.specs.Faces.{Base}
use Rattle.lane_types.specs.May.{May}
use Rattle.lane_book.specs.declared.book.Book.{Book}
use Rattle.lane_book.specs.FacesOf.{faces_of}
use Rattle.lane_book.specs.Refusals.{NamesInside, NamesData}
use Rattle.txn_core.specs.Asking.{IsBuilt, WritesData}

both : (b c : Bool) → (b && c) ≡ true → (b ≡ true) × (c ≡ true)
both true c on = (refl, on)
both false c on = cc

above_of : (m n : ℕ) → not (nat_lt m n) ≡ true → n ≤ m
above_of m n on = grind (arith, nat_tests, on)

below_of : (m n : ℕ) → nat_lt m n ≡ true → m < n
below_of m n on = grind (arith, nat_tests, on)

other_of : (m n : ℕ) → not (m == n) ≡ true → m ≢ n
other_of m n on = grind (arith, nat_tests, on)

inside_blocks : (a start blocks : ℕ) → start ≤ a → (a - start) / 16 < blocks → a < start + 16 * blocks
inside_blocks a start blocks le lt = omega (arith, le, lt)

no_first : (a start : ℕ) → start ≤ a → (a - start) % 16 ≢ 0 → a ≢ start + 16 * ((a - start) / 16)
no_first a start le other = omega (arith, le, other)

-- the heap stands where the layout has it
pub record StandsAt (layout : Layout) (heap_at : Heap) : Type 0 where
  pub start : heap_at.start ≡ heap (layout_shape layout)
  pub blocks : heap_at.blocks ≡ layout.blocks

pub data_word : (layout : Layout) (h : Heap) (a : ℕ) → StandsAt layout h → is_data h a ≡ true → IsDataWord (layout_shape layout) a
data_word layout h a stands is =
    let parts = both (not (nat_lt a h.start)) _ is in
    let others = both (nat_lt (block_of h a) h.blocks) _ parts.1 in
    let le : heap (layout_shape layout) ≤ a = subst (λ n. n ≤ a) stands.start (above_of a h.start parts.0) in
    let lt : (a - heap (layout_shape layout)) / 16 < layout.blocks =
    subst (λ n. (a - heap (layout_shape layout)) / 16 < n) stands.blocks (subst (λ n. (a - n) / 16 < h.blocks) stands.start (below_of (block_of h a) h.blocks others.0)) in
    let off : (a - heap (layout_shape layout)) % 16 ≢ 0 = subst (λ n. (a - n) % 16 ≢ 0) stands.start (other_of ((a - h.start) % 16) 0 others.1) in
    ((le, inside_blocks a (heap (layout_shape layout)) layout.blocks le lt), no_first a (heap (layout_shape layout)) le off)

module _ {E : Type 0} (deeds : Deeds E) (layout : Layout) (base : Base) (book : Book E) (l : ℕ) (stands : StandsAt layout base.heap) (few : base.structures ≤ 8) (structures : base.structures ≡ layout.structures) where
  pub names_inside : (call : Call E) → IsBuilt call → May deeds (faces_of base book l) call → NamesInside layout call
  names_inside (Call.Begin set) built may = tt
  names_inside (Call.Read a) built may = (data_word layout base.heap a stands may).0
  names_inside (Call.Write a v) built may = (data_word layout base.heap a stands may).0
  names_inside (Call.Take s) built may = omega (arith, may, few)
  names_inside (Call.Give block) built may = absurd built
  names_inside (Call.Commit deed) built may = tt
  names_inside Call.Abort built may = tt
  names_inside Call.Checkpoint built may = tt
  names_inside (Call.Batch writes) built may = absurd built
  names_inside Call.Savepoint built may = absurd built
  names_inside (Call.RollbackTo n) built may = absurd built

  pub names_data : (call : Call E) → IsBuilt call → May deeds (faces_of base book l) call → NamesData base layout call
  names_data (Call.Begin set) built may = tt
  names_data (Call.Read a) built may = may
  names_data (Call.Write a v) built may = may
  names_data (Call.Take s) built may = tt
  names_data (Call.Give block) built may = absurd built
  names_data (Call.Commit deed) built may = tt
  names_data Call.Abort built may = tt
  names_data Call.Checkpoint built may = tt
  names_data (Call.Batch writes) built may = absurd built
  names_data Call.Savepoint built may = absurd built
  names_data (Call.RollbackTo n) built may = absurd built

  pub writes_data : (call : Call E) → IsBuilt call → May deeds (faces_of base book l) call → WritesData layout call
  writes_data (Call.Begin set) built may = tt
  writes_data (Call.Read a) built may = tt
  writes_data (Call.Write a v) built may = data_word layout base.heap a stands may
  writes_data (Call.Take s) built may = subst (λ n. s < n) structures may
  writes_data (Call.Give block) built may = absurd built
  writes_data (Call.Commit deed) built may = tt
  writes_data Call.Abort built may = tt
  writes_data Call.Checkpoint built may = tt
  writes_data (Call.Batch writes) built may = absurd built
  writes_data Call.Savepoint built may = absurd built
  writes_data (Call.RollbackTo n) built may = absurd built
