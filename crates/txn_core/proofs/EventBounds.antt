-- So many events a call makes at the most, by the sizes of the region alone.
use Rattle.std.proofs.Common.{◌≡◌, ◌≢◌, ◌⊎◌, inl, inr, ℕ, zero, suc, ◌+◌, ◌-◌, ◌*◌, ◌%◌, ◌<◌, ◌≤◌, ◌==◌, ◌&&◌, ◌||◌, not, Bool, true, false, if◌then◌else◌, List, [], ◌∷◌, length, slice_index, refl, ap, arith}
use Rattle.std.proofs.Math.Logic.{∥∥₁_elim}
use Rattle.std.proofs.Math.Bridge.{le_prop}
use Rattle.std.proofs.lemmas.Bool.Decides.{eqb_tells}
use Rattle.persist_model.specs.Chain.{last_or}
use Rattle.persist_model.specs.Region.{Words, Region}
use Rattle.persist_model.specs.Shape.{Shape, count_buckets}
use Rattle.persist_model.specs.Sound.{closed_cells, room_of}
use Rattle.lane_traits.specs.Device.{Counts}
use Rattle.region_layout.specs.declared.layout.Layout.{Layout}
use Rattle.region_layout.specs.Layout.{layout_shape}
use Rattle.atomic_list.specs.Walk.{chain_of}
use Rattle.log_partition.specs.Views.{viewed}
use Rattle.log_partition.proofs.Marking.{allowed}
use Rattle.lane_types.specs.declared.call.Call.{Call}
use Rattle.lane_types.specs.declared.call.Phase.{Phase}
use Rattle.lane_types.specs.Asks.{wanted}
use Rattle.lane_types.specs.Deeds.{Deeds}
use Rattle.lane_types.specs.Faces.{Base}
use Rattle.lane_book.specs.declared.book.Book.{Book}
use Rattle.lane_book.specs.declared.lane.Doing.{Doing}
use Rattle.lane_book.specs.Books.{ends}
use Rattle.lane_book.specs.FacesOf.{lane_at}
use Rattle.lane_book.specs.Reserved.{reserved_by, share_of, reserved_below}
use Rattle.log_keeper.specs.declared.keeper.LogKeeper.{LogKeeper}
use Rattle.txn_core.specs.Exact.{call_events, world_events}
use Rattle.txn_core.specs.Phases.{IsPhased}
use Rattle.txn_core.specs.States.{IsKept, start_of}
use Rattle.txn_core.proofs.AskedCalls.{rests}
use Rattle.txn_core.proofs.AskedEnds.{is_between, gives_none}
use Rattle.txn_core.proofs.AskedRoom.{few_buckets, few_closed, reserved_fits}
use Rattle.txn_core.proofs.Facts.{IsRead, any_start}
use Rattle.txn_core.proofs.Latched.{some_bool}
use Rattle.txn_core.proofs.OwnRecords.{unrolled}

-- ---- a partition's room

no_bucket : (cells count buckets : ℕ) → (cells ≡ 1) ⊎ (cells ≡ 16) → count ≤ buckets → 0 + cells * (count - 0) ≤ cells * buckets
no_bucket cells count buckets (inl one) few = rw (one) (omega (arith, few))
no_bucket cells count buckets (inr many) few = rw (many) (omega (arith, few))

some_bucket : (cells count buckets n closed : ℕ) → (cells ≡ 1) ⊎ (cells ≡ 16) → closed ≤ cells → count ≤ buckets → 1 ≤ buckets → closed + cells * (count - suc n) ≤ cells * buckets
some_bucket cells count buckets n closed (inl one) most few some = rw (one) (omega (arith, one, most, few, some))
some_bucket cells count buckets n closed (inr many) most few some = rw (many) (omega (arith, many, most, few, some))

room_within : (shape : Shape) (w : Words) (p : ℕ) (chain : List ℕ) → (shape.cells ≡ 1) ⊎ (shape.cells ≡ 16) → 1 ≤ shape.buckets → room_of shape w p chain ≤ shape.cells * shape.buckets
room_within shape w p [] cells some = no_bucket shape.cells (count_buckets shape p) shape.buckets cells (few_buckets shape p)
room_within shape w p (b ∷ chain) cells some = by (last_or b chain == 0)
  where
    by : (t : Bool) → (if t then 0 else closed_cells w (last_or b chain) shape.cells) + shape.cells * (count_buckets shape p - suc (length chain)) ≤ shape.cells * shape.buckets
    by true = some_bucket shape.cells (count_buckets shape p) shape.buckets (length chain) 0 cells (omega arith) (few_buckets shape p) some
    by false = some_bucket shape.cells (count_buckets shape p) shape.buckets (length chain) (closed_cells w (last_or b chain) shape.cells) cells (few_closed w (last_or b chain) shape.cells)
        (few_buckets shape p) some

-- ---- what a lane has reserved

share_within : {E : Type 0} (book : Book E) (partitions l n : ℕ) → l < n → reserved_by (lane_at book l) ≤ reserved_below book partitions (l % partitions) n
share_within book partitions l zero lt = absurd (omega (arith, lt))
share_within book partitions l (suc n) lt = elim (eqb_tells n l) [
  | inl e ↦ (
      let same : share_of partitions (l % partitions) n (lane_at book n) ≡ share_of partitions (l % partitions) l (lane_at book l) =
      ap (λ k. share_of partitions (l % partitions) k (lane_at book k)) e.1 in
      let mine : share_of partitions (l % partitions) l (lane_at book l) ≡ reserved_by (lane_at book l) =
      ap (λ b. if b then reserved_by (lane_at book l) else 0) (itself (l % partitions)) in
      omega (arith, same, mine))
  | inr ne ↦ (let before = share_within book partitions l n (above ne.1) in omega (arith, before))
]
  where
    itself : (m : ℕ) → (m == m) ≡ true
    itself m = elim (eqb_tells m m) [ inl e ↦ e.0 | inr off ↦ absurd (off.1 refl) ]

    above : n ≢ l → l < n
    above ne = omega (arith, ne, lt)

undo_reserved : (recorded ended rolled : Bool) (promised updates : ℕ) → recorded ≡ true → ended ≡ false → rolled ≡ false →
    updates + 2 ≤ promised + (if (recorded || not (promised == 0)) && not ended then updates + ((if rolled then 0 else 1) + 1) else 0)
undo_reserved true false false promised updates on off none = omega arith
undo_reserved true true rolled promised updates on off none = cc
undo_reserved true false true promised updates on off none = cc
undo_reserved false ended rolled promised updates on off none = cc

-- ---- the bounds

a_write : (k b n : ℕ) → (k ≡ 1) ⊎ (k ≡ 16) → 4 ≤ b → (21 + k) + 1 ≤ 16 * n + (31 + k) * k * b + 8
a_write k b n (inl one) some = rw (one) (omega (arith, some))
a_write k b n (inr many) some = rw (many) (omega (arith, some))

a_commit : (k b n u : ℕ) → (k ≡ 1) ⊎ (k ≡ 16) → 4 ≤ b → u + 2 ≤ k * b → 1 + ((21 + k) + ((u + 1) + (2 + 7 * b))) ≤ 16 * n + (31 + k) * k * b + 8
a_commit k b n u (inl one) some fits = rw (one) (let less = one_cell k b u one fits in omega (arith, some, less))
  where
    one_cell : (k b u : ℕ) → k ≡ 1 → u + 2 ≤ k * b → u + 2 ≤ b
    one_cell k b u is = rw (is) (λ le. omega (arith, le))
a_commit k b n u (inr many) some fits = rw (many) (let less = many_cells k b u many fits in omega (arith, some, less))
  where
    many_cells : (k b u : ℕ) → k ≡ 16 → u + 2 ≤ k * b → u + 2 ≤ 16 * b
    many_cells k b u is = rw (is) (λ le. omega (arith, le))

an_abort : (k b n u : ℕ) → (k ≡ 1) ⊎ (k ≡ 16) → 4 ≤ b → u + 2 ≤ k * b →
    (21 + k) + (u * ((21 + k) + 1) + (1 + ((21 + k) + ((u + 1 + u + 1) + (2 + 7 * b))))) ≤ 16 * n + (31 + k) * k * b + 8
an_abort k b n u (inl one) some fits = rw (one) (let less = one_cell k b u one fits in omega (arith, some, less))
  where
    one_cell : (k b u : ℕ) → k ≡ 1 → u + 2 ≤ k * b → u + 2 ≤ b
    one_cell k b u is = rw (is) (λ le. omega (arith, le))
an_abort k b n u (inr many) some fits = rw (many) (let less = many_cells k b u many fits in omega (arith, some, less))
  where
    many_cells : (k b u : ℕ) → k ≡ 16 → u + 2 ≤ k * b → u + 2 ≤ 16 * b
    many_cells k b u is = rw (is) (λ le. omega (arith, le))

-- ---- in a state

two_fit : (k b u : ℕ) → (k ≡ 1) ⊎ (k ≡ 16) → 4 ≤ b → u ≡ 0 → u + 2 ≤ k * b
two_fit k b u (inl one) some none = rw (one) (omega (arith, some, none))
two_fit k b u (inr many) some none = rw (many) (omega (arith, some, none))

module _ {E : Type 0} (deeds : Deeds E) (layout : Layout) (base : Base) (book : Book E) (keeper : LogKeeper) (words : List ℕ) (region : Region) (spare : ℕ) (counts : Counts) (l : ℕ)
    (read : IsRead words region counts) (lt : l < length book.lanes.items) (kept : IsKept deeds layout base book keeper region spare counts) where
  -- what takes the transaction back has its cells
  updates_fit : (call : Call E) → (lane_at book l).doing ≡ Doing.Nothing → (lane_at book l).phase ≡ Phase.In →
      length (lane_at book l).updates.items + 2 ≤ layout.cells * layout.buckets
  updates_fit call nothing phase = ∥∥₁_elim kept le_prop (λ y.
      let cells = (y.state.is_book.kept l).cells in
      let between = is_between (lane_at book l) nothing phase in
      let none = unrolled layout (start_of layout base) book keeper region spare counts.events y.state l lt between
      (gives_none deeds layout book keeper region spare counts l (any_start deeds layout base book keeper region spare counts kept)) in
      elim (some_bool (lane_at book l).has_records) [
        | inl recorded ↦ (
            let undo = undo_reserved (lane_at book l).has_records (lane_at book l).ended (lane_at book l).rolled (lane_at book l).promised (length (lane_at book l).updates.items) recorded
            (cells.going (ap ends nothing)) none in
            let share = share_within book layout.partitions l (length book.lanes.items) lt in
            let room = reserved_fits layout book keeper words region counts l call read (start_of layout base) spare counts.events y.state in
            let all = room_within (layout_shape layout) (slice_index (viewed (l % layout.partitions) words)) (l % layout.partitions)
            (chain_of (layout_shape layout) (slice_index (viewed (l % layout.partitions) words))) (allowed layout).cells (let some = (allowed layout).buckets.0 in omega (arith, some)) in
            omega (arith, undo, share, room, all))
        | inr off ↦ two_fit layout.cells layout.buckets (length (lane_at book l).updates.items) (allowed layout).cells (allowed layout).buckets.0 (cells.fresh off).0
      ])

  pub call_within : IsPhased (lane_at book l) → (call : Call E) → (lane_at book l).phase ≡ wanted call →
      call_events (layout_shape layout) (length (lane_at book l).updates.items) call ≤ world_events layout
  call_within phased (Call.Begin set) phase = omega arith
  call_within phased (Call.Read a) phase = omega arith
  call_within phased (Call.Write a v) phase = a_write layout.cells layout.buckets layout.blocks (allowed layout).cells (allowed layout).buckets.0
  call_within phased (Call.Take s) phase = a_write layout.cells layout.buckets layout.blocks (allowed layout).cells (allowed layout).buckets.0
  call_within phased (Call.Give block) phase = omega arith
  call_within phased (Call.Commit deed) phase = a_commit layout.cells layout.buckets layout.blocks (length (lane_at book l).updates.items) (allowed layout).cells (allowed layout).buckets.0
      (updates_fit (Call.Commit deed) (rests (lane_at book l) (Call.Commit deed) phased phase) phase)
  call_within phased Call.Abort phase = an_abort layout.cells layout.buckets layout.blocks (length (lane_at book l).updates.items) (allowed layout).cells (allowed layout).buckets.0
      (updates_fit Call.Abort (rests (lane_at book l) Call.Abort phased phase) phase)
  call_within phased Call.Checkpoint phase = omega arith
  call_within phased (Call.Batch writes) phase = omega arith
  call_within phased Call.Savepoint phase = omega arith
  call_within phased (Call.RollbackTo n) phase = omega arith
