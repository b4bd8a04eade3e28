-- The room of a partition, and what a call needs there, are small numbers.
use Rattle.std.proofs.Common.{◌≡◌, ◌⊎◌, inl, inr, ℕ, zero, suc, ◌+◌, ◌-◌, ◌*◌, ◌/◌, ◌%◌, ◌<◌, ◌≤◌, ◌^◌, ◌==◌, min, Bool, true, false, if◌then◌else◌, List, length, refl, ap, arith}
use Rattle.std.specs.Prelude.{slice_index}
use Rattle.std.proofs.Math.Logic.{∥∥₁_elim}
use Rattle.std.proofs.Math.Bridge.{le_prop}
use Rattle.std.proofs.Math.Nat.{div-le_self}
use Rattle.persist_model.specs.Chain.{last_or}
use Rattle.persist_model.specs.ImageRecords.{cell_address}
use Rattle.persist_model.specs.Region.{Words, Region, newest_words}
use Rattle.persist_model.specs.Shape.{Shape, count_buckets, first_bucket}
use Rattle.persist_model.specs.Sound.{closed_cells, room_of}
use Rattle.lane_traits.specs.Device.{Counts}
use Rattle.region_layout.specs.declared.layout.Layout.{Layout}
use Rattle.region_layout.specs.Layout.{layout_shape, IsAllowed}
use Rattle.atomic_list.specs.Walk.{chain_of}
use Rattle.log_partition.specs.Views.{viewed}
use Rattle.log_partition.proofs.Marking.{allowed}
use Rattle.lane_types.specs.declared.call.Call.{Call}
use Rattle.lane_types.specs.Deeds.{Deeds}
use Rattle.lane_book.specs.declared.book.Book.{Book}
use Rattle.lane_book.specs.declared.lane.Lane.{Lane}
use Rattle.lane_book.specs.FacesOf.{lane_at}
use Rattle.lane_book.specs.Reserved.{added_by, is_bound}
use Rattle.log_keeper.specs.declared.keeper.LogKeeper.{LogKeeper}
use Rattle.log_keeper.proofs.Rooms.{room_is_one}
use Rattle.txn_state.specs.AppendLaws.{newest_image}
use Rattle.txn_state.specs.States.{IsStateOf, reserved_for}
use Rattle.txn_state.proofs.ReservedRoom.{views_are_read}
use Rattle.txn_core.specs.Asking.{IsBuilt, need_for, room_for}
use Rattle.txn_core.specs.States.{HasWorld, start_of}
use Rattle.txn_core.proofs.Facts.{IsRead}
use Rattle.txn_core.proofs.Latches.{part_of_lane}

-- ---- the room

pub few_closed : (w : Words) (b n : ℕ) → closed_cells w b n ≤ n
few_closed w b zero = omega arith
few_closed w b (suc n) = by (w (cell_address b n) == 0) (few_closed w b n)
  where
    by : (t : Bool) → closed_cells w b n ≤ n → closed_cells w b n + (if t then 1 else 0) ≤ suc n
    by true le = omega (arith, le)
    by false le = omega (arith, le)

pub few_buckets : (shape : Shape) (p : ℕ) → count_buckets shape p ≤ shape.buckets
few_buckets shape p = by (p + 1 == shape.partitions)
  where
    by : (t : Bool) → (if t then shape.buckets - first_bucket shape p else shape.buckets / shape.partitions) ≤ shape.buckets
    by true = omega arith
    by false = div-le_self shape.buckets shape.partitions

all_cells : (cells count passed : ℕ) → (cells ≡ 1) ⊎ (cells ≡ 16) → count ≤ 1024 → cells * (count - passed) ≤ 16384
all_cells cells count passed (inl one) few = rw (one) (omega (arith, few))
all_cells cells count passed (inr many) few = rw (many) (omega (arith, few))

few_cells : (cells : ℕ) → (cells ≡ 1) ⊎ (cells ≡ 16) → cells ≤ 16
few_cells cells (inl one) = omega (arith, one)
few_cells cells (inr many) = omega (arith, many)

small_room : (shape : Shape) → IsAllowed shape → (w : Words) (p : ℕ) (chain : List ℕ) → room_of shape w p chain ≤ 16400
small_room shape allows w p chain =
    let count = few_buckets shape p in
    let most = allows.buckets.1 in
    by (last_or 0 chain == 0) (few_closed w (last_or 0 chain) shape.cells) (few_cells shape.cells allows.cells)
    (all_cells shape.cells (count_buckets shape p) (length chain) allows.cells (omega (arith, count, most)))
  where
    by : (t : Bool) → closed_cells w (last_or 0 chain) shape.cells ≤ shape.cells → shape.cells ≤ 16 → shape.cells * (count_buckets shape p - length chain) ≤ 16384 →
        (if t then 0 else closed_cells w (last_or 0 chain) shape.cells) + shape.cells * (count_buckets shape p - length chain) ≤ 16400
    by true closed cells all = omega (arith, all)
    by false closed cells all = omega (arith, closed, cells, all)

pub room_is_small : (layout : Layout) (words : List ℕ) (l : ℕ) → room_for layout words l ≤ 16400
room_is_small layout words l = small_room (layout_shape layout) (allowed layout) (slice_index (viewed (l % layout.partitions) words)) (l % layout.partitions)
    (chain_of (layout_shape layout) (slice_index (viewed (l % layout.partitions) words)))

-- ---- what is needed

few_added : {E : Type 0} (k : ℕ) (lane : Lane E) (call : Call E) → IsBuilt call → added_by k lane call ≤ 4
few_added k lane (Call.Begin set) built = omega arith
few_added k lane (Call.Read a) built = omega arith
few_added k lane (Call.Write a v) built = by (is_bound lane)
  where
    by : (t : Bool) → 2 + (if t then 0 else 2) ≤ 4
    by true = omega arith
    by false = omega arith
few_added k lane (Call.Take s) built = by (is_bound lane)
  where
    by : (t : Bool) → 2 + (if t then 0 else 2) ≤ 4
    by true = omega arith
    by false = omega arith
few_added k lane (Call.Give block) built = absurd built
few_added k lane (Call.Commit deed) built = omega arith
few_added k lane Call.Abort built = omega arith
few_added k lane Call.Checkpoint built = omega arith
few_added k lane (Call.Batch writes) built = absurd built
few_added k lane Call.Savepoint built = absurd built
few_added k lane (Call.RollbackTo n) built = absurd built

module _ {E : Type 0} (layout : Layout) (book : Book E) (keeper : LogKeeper) (words : List ℕ) (region : Region) (counts : Counts) (l : ℕ) (call : Call E)
    (read : IsRead words region counts) where
  -- what is reserved has room
  pub reserved_fits : (start : Words) (spare events : ℕ) → IsStateOf layout start book keeper region spare events → reserved_for layout book (l % layout.partitions) ≤ room_for layout words l
  reserved_fits start spare events st =
      let shape = layout_shape layout in
      let p : ℕ = l % layout.partitions in
      let in_parts = part_of_lane layout l in
      let room = st.roomy.room p in_parts (newest_image region) (λ a inside. refl) in
      let seen = views_are_read.room layout start book keeper region spare events p in_parts read.full st in
      let same = room_is_one shape p room.0 (room_for layout (newest_words region) l) (newest_image region) room.1 seen in
      let told : room_for layout words l ≡ room_for layout (newest_words region) l = ap (λ ws. room_for layout ws l) read.reads in
      let enough = room.2 in
      omega (arith, same, told, enough)

  pub need_is_small : (deeds : Deeds E) (spare : ℕ) → IsBuilt call → HasWorld deeds layout book keeper region spare counts → need_for layout book l call < 2 ^ 64 - 1
  need_is_small deeds spare built world =
      let fits : reserved_for layout book (l % layout.partitions) ≤ room_for layout words l =
      ∥∥₁_elim world le_prop (λ y. reserved_fits (start_of layout y.0) spare counts.events y.1.state) in
      let room = room_is_small layout words l in
      let added = few_added layout.cells (lane_at book l) call built in
      omega (arith, fits, room, added)

  -- so it is told as it is
  pub need_is_told : (deeds : Deeds E) (spare : ℕ) → IsBuilt call → HasWorld deeds layout book keeper region spare counts →
      min (need_for layout book l call) (2 ^ 64 - 1) ≡ need_for layout book l call
  need_is_told deeds spare built world = let small = need_is_small deeds spare built world in omega (arith, small)
