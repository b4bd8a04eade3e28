-- Where a lane waits to append there is room in its partition.
use Rattle.std.proofs.Common.{◌≡◌, ◌≢◌, ℕ, zero, suc, ◌+◌, ◌%◌, ◌<◌, ◌≤◌, ◌==◌, ◌&&◌, ◌||◌, not, Bool, true, false, if◌then◌else◌, List, [], ◌∷◌, length, reverse, inl, inr, refl, sym, ap, ◌∙◌, subst, arith}
use Rattle.std.proofs.lemmas.Bool.Decides.{eqb_tells}
use Rattle.std.proofs.lemmas.List.{length-reverse}
use Rattle.persist_model.specs.Region.{Words, Region, newest_words}
use Rattle.persist_model.specs.Records.{Record, Log}
use Rattle.persist_model.specs.Shape.{Shape}
use Rattle.region_layout.specs.declared.cell.Cell.{Cell}
use Rattle.region_layout.specs.declared.layout.Layout.{Layout}
use Rattle.region_layout.specs.Layout.{layout_shape}
use Rattle.lane_types.specs.declared.call.Phase.{Phase}
use Rattle.lane_book.specs.declared.book.Book.{Book}
use Rattle.lane_book.specs.declared.lane.Lane.{Lane}
use Rattle.lane_book.specs.declared.lane.Doing.{Doing}
use Rattle.lane_book.specs.FacesOf.{lane_at}
use Rattle.lane_book.specs.Reserved.{is_bound, undo_cells, reserved_by, share_of, reserved_below}
use Rattle.log_keeper.specs.declared.keeper.LogKeeper.{LogKeeper}
use Rattle.log_keeper.specs.Keeper.{keeping_of}
use Rattle.log_keeper.proofs.Rooms.{room_is_one}
use Rattle.history_laws.specs.UnderWay.{UnderWay, nothing}
use Rattle.txn_laws.specs.Txns.{Txn, txn_at}
use Rattle.txn_state.specs.declared.parts.TheConstants.{STORE}
use Rattle.txn_state.specs.Stages.{Stage, Free, Between, Leaving, Naming, Storing, Deleting, Securing, Opening, Undoing, TakingBack, Keeping, Ending, Closing, ClosingEnd, Dropping, Unbuilt, stage_at, stage_of}
use Rattle.txn_state.specs.Seen.{noticed}
use Rattle.txn_state.specs.Ties.{under_of, AreCellsOf, IsTxnOf, IsCome, WaitsToAppend, IsLaneOf}
use Rattle.txn_state.specs.States.{IsStateOf}
use Rattle.txn_state.specs.AppendLaws.{newest_image}
use Rattle.txn_state.specs.ReadLaws.{appends_in, room_seen, ViewsAreRead}
use Rattle.txn_state.proofs.Holding.{lane_is, inside, nothing_here}
use Rattle.txn_state.proofs.Viewing.{place_seen, removal_seen, room_is}
use Rattle.txn_state.proofs.Given.{give_waits}
use Rattle.log_keeper.specs.Ledger.{newest_log}

-- ---- the stages behind a transaction's first record

abbrev pub needs_record : Stage → Bool
needs_record Free = false
needs_record Between = false
needs_record Leaving = false
needs_record Naming = false
needs_record Storing = false
needs_record Securing = true
needs_record Opening = true
needs_record Undoing = true
needs_record TakingBack = true
needs_record Keeping = true
needs_record Ending = true
needs_record Closing = true
needs_record ClosingEnd = true
needs_record Dropping = true
needs_record Deleting = false
needs_record Unbuilt = false

-- in such a stage the lane has one
pub recorded_at : (phase : Phase) (recorded : Bool) (part : ℕ) (doing : Doing) → needs_record (stage_at phase recorded part doing) ≡ true → recorded ≡ true
recorded_at Phase.Out recorded part Doing.Nothing on = cc
recorded_at Phase.In recorded part Doing.Nothing on = cc
recorded_at Phase.Calling recorded part Doing.Nothing on = cc
recorded_at phase recorded part (Doing.Begin set) on = cc
recorded_at phase recorded part (Doing.Read a) on = cc
recorded_at phase recorded part (Doing.Write a v) on = by (part == STORE) on
  where
    by : (t : Bool) → needs_record (if t then Storing else Naming) ≡ true → recorded ≡ true
    by true on = cc
    by false on = cc
recorded_at phase recorded part (Doing.Take s block) on = by (part == STORE) on
  where
    by : (t : Bool) → needs_record (if t then Storing else Naming) ≡ true → recorded ≡ true
    by true on = cc
    by false on = cc
recorded_at phase recorded part (Doing.Give block) on = cc
recorded_at phase true part Doing.Commit on = refl
recorded_at phase false part Doing.Commit on = cc
recorded_at phase true part Doing.Abort on = refl
recorded_at phase false part Doing.Abort on = cc
recorded_at phase recorded part Doing.Checkpoint on = cc
recorded_at phase recorded part (Doing.Batch n) on = cc
recorded_at phase recorded part Doing.Savepoint on = cc
recorded_at phase recorded part (Doing.RollbackTo n) on = cc

-- ---- reserved cells

cells_counted : (cells : List Cell) (updates : List Record) → AreCellsOf cells updates → length cells ≡ length updates
cells_counted [] [] are = refl
cells_counted [] (u ∷ updates) are = absurd are
cells_counted (c ∷ cells) [] are = absurd are
cells_counted (c ∷ cells) (u ∷ updates) are = ap suc (cells_counted cells updates are.1)

-- a lane has as many cells as its transaction has updates, as the book has it
pub updates_counted : {E : Type 0} (shape : Shape) (p : ℕ) (lane : Lane E) (u : UnderWay) (x : Txn) → IsTxnOf shape p lane u x → length lane.updates.items ≡ length (noticed shape p u x).updates
updates_counted shape p lane u x txn = sym (length-reverse lane.updates.items) ∙ cells_counted (reverse lane.updates.items) (noticed shape p u x).updates txn.updates

bound_reserves : {E : Type 0} (lane : Lane E) → lane.has_records ≡ true → lane.ended ≡ false → 1 ≤ reserved_by lane
bound_reserves lane recorded going = by (is_bound lane) (λ i. (recorded i || not (lane.promised == 0)) && not (going i))
  where
    by : (t : Bool) → t ≡ true → 1 ≤ lane.promised + (if t then undo_cells lane else 0)
    by true on = omega arith
    by false on = cc

-- so a lane that waits has one reserved
pub wait_reserves : {E : Type 0} (layout : Layout) (lane : Lane E) (log : Log) (p : ℕ) (u : UnderWay) (x : Txn) (stage : Stage) → stage ≡ stage_of lane → u ≡ nothing → appends_in stage ≡ true →
    IsCome log u x stage → (stage_of lane ≡ Naming → length lane.updates.items ≡ lane.stored → WaitsToAppend lane) → (stage_of lane ≡ Deleting → 1 ≤ lane.promised) →
    IsTxnOf (layout_shape layout) p lane nothing x → 1 ≤ reserved_by lane
wait_reserves layout lane log p u x Free at none on come naming deleting txn = cc
wait_reserves layout lane log p u x Between at none on come naming deleting txn = cc
wait_reserves layout lane log p u x Leaving at none on come naming deleting txn = cc
wait_reserves layout lane log p u x Naming at none on come naming deleting txn =
    let promised = (naming (sym at) (updates_counted (layout_shape layout) p lane nothing x txn ∙ come.updates_are ∙ txn.stored)).promised in omega (arith, promised)
wait_reserves layout lane log p u x Storing at none on come naming deleting txn = cc
wait_reserves layout lane log p u x Securing at none on come naming deleting txn = cc
wait_reserves layout lane log p u x Opening at none on come naming deleting txn =
    bound_reserves lane (recorded_at lane.phase lane.has_records lane.part lane.doing (sym (ap needs_record at))) (sym txn.ended ∙ come.going.unended none)
wait_reserves layout lane log p u x Undoing at none on come naming deleting txn =
    bound_reserves lane (recorded_at lane.phase lane.has_records lane.part lane.doing (sym (ap needs_record at))) (sym txn.ended ∙ come.going.unended none)
wait_reserves layout lane log p u x TakingBack at none on come naming deleting txn = cc
wait_reserves layout lane log p u x Keeping at none on come naming deleting txn = cc
wait_reserves layout lane log p u x Ending at none on come naming deleting txn =
    bound_reserves lane (recorded_at lane.phase lane.has_records lane.part lane.doing (sym (ap needs_record at))) (sym txn.ended ∙ come.going.unended none)
wait_reserves layout lane log p u x Closing at none on come naming deleting txn = cc
wait_reserves layout lane log p u x ClosingEnd at none on come naming deleting txn = cc
wait_reserves layout lane log p u x Dropping at none on come naming deleting txn = cc
wait_reserves layout lane log p u x Deleting at none on come naming deleting txn = let promised = (deleting (sym at)) in omega (arith, promised)
wait_reserves layout lane log p u x Unbuilt at none on come naming deleting txn = cc

-- the share of a lane is no more than all
share_here : {E : Type 0} (partitions l : ℕ) (lane : Lane E) → share_of partitions (l % partitions) l lane ≡ reserved_by lane
share_here partitions l lane = elim (eqb_tells (l % partitions) (l % partitions)) [ inl e ↦ (rw e.0 refl) | inr off ↦ absurd (off.1 refl) ]

share_within : {E : Type 0} (book : Book E) (partitions p l n : ℕ) → l < n → share_of partitions p l (lane_at book l) ≤ reserved_below book partitions p n
share_within book partitions p l zero lt = absurd (omega (arith, lt))
share_within book partitions p l (suc n) lt = elim (eqb_tells n l) [
  | inl e ↦ (let same : share_of partitions p n (lane_at book n) ≡ share_of partitions p l (lane_at book l) = ap (λ k. share_of partitions p k (lane_at book k)) e.1 in omega (arith, same))
  | inr ne ↦ (let others = share_within book partitions p l n (less ne.1) in omega (arith, others))
]
  where
    less : n ≢ l → l < n
    less off = omega (arith, lt, off)

module _ {E : Type 0} (layout : Layout) (start : Words) (book : Book E) (keeper : LogKeeper) (region : Region) (spare events l : ℕ) (lt : l < length book.lanes.items)
    (full : (a : ℕ) → 0 < length (region.at a)) (st : IsStateOf layout start book keeper region spare events) where
  some_room : appends_in (stage_of (lane_at book l)) ≡ true → (keeping_of keeper).holder (l % layout.partitions) ≡ 17 →
      room_seen layout (l % layout.partitions) (newest_words region) ≢ 0
  some_room on free none =
      let shape = layout_shape layout in
      let p : ℕ = l % layout.partitions in
      let under = nothing_here layout start book keeper region spare events st l lt free in
      let lane = lane_is layout start book keeper region spare events st l lt in
      let in_parts = inside layout start book keeper region spare events st l lt in
      let one = wait_reserves layout (lane_at book l) st.s.log p (under_of shape st.w l) (txn_at st.w.lanes l) (stage_of (lane_at book l)) refl under on lane.come lane.naming
      (λ at. (give_waits layout book.blocks st.s.log (newest_log st.w.keeping.ledger) p (lane_at book l) (txn_at st.w.lanes l)
      (subst (λ u. IsLaneOf layout book.blocks st.s.log (newest_log st.w.keeping.ledger) u p (lane_at book l) (txn_at st.w.lanes l)) under lane) at).0)
      (subst (λ u. IsTxnOf shape p (lane_at book l) u (txn_at st.w.lanes l)) under lane.txn) in
      let share = share_here layout.partitions l (lane_at book l) in
      let within = share_within book layout.partitions p l (length book.lanes.items) lt in
      let room = st.roomy.room p in_parts (newest_image region) (λ a inside. refl) in
      let same = room_is_one shape p room.0 (room_seen layout p (newest_words region)) (newest_image region) room.1 (room_is layout start book keeper region spare events full st p in_parts) in
      let enough = room.2 in
      omega (arith, one, share, within, same, enough, none)

pub views_are_read : {E : Type 0} → ViewsAreRead E
views_are_read = record {
  place = λ layout start book keeper region spare events p place lt full st seen. place_seen layout start book keeper region spare events full st p lt place seen;
  some = λ layout start book keeper region spare events l lt full on free st. some_room layout start book keeper region spare events l lt full st on free;
  room = λ layout start book keeper region spare events p lt full st. room_is layout start book keeper region spare events full st p lt;
  removal = λ layout start book keeper region spare events p r lt full st seen. removal_seen layout start book keeper region spare events full st p lt r seen;
}
