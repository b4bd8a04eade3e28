-- A take is asked, for which there is a block, room and memory.
use Rattle.std.proofs.Common.{◌≡◌, ◌≢◌, ℕ, ◌+◌, ◌*◌, ◌%◌, ◌<◌, ◌≤◌, true, false, ◌∷◌, List, [], length, None, sym, ap, ◌∙◌, subst, append-nil, arith}
use Rattle.std.proofs.Math.Logic.{∥∥₁_map, ∥∥₁_elim, ∥∥₁_prop}
use Rattle.std.proofs.Math.Bridge.{le_prop}
use Rattle.std.proofs.lemmas.Option.{slice_get_within}
use Rattle.persist_model.specs.Region.{Region}
use Rattle.persist_model.specs.Shape.{block}
use Rattle.lane_traits.specs.Device.{Counts}
use Rattle.lane_traits.specs.declared.draft.WordWrite.{WordWrite}
use Rattle.region_layout.specs.declared.layout.Layout.{Layout}
use Rattle.region_layout.specs.Layout.{layout_shape}
use Rattle.offset_alloc.specs.declared.Standing.TheVariants.{Free, Owned}
use Rattle.offset_alloc.specs.Blocks.{IsFree}
use Rattle.lane_types.specs.declared.call.Call.{Call}
use Rattle.lane_types.specs.declared.call.Phase.{Phase}
use Rattle.lane_types.specs.Deeds.{Deeds}
use Rattle.lane_types.specs.Heaps.{has_bit}
use Rattle.lane_types.specs.Faces.{Base}
use Rattle.lane_types.specs.Asks.{Fits, asked}
use Rattle.lane_types.specs.May.{May}
use Rattle.lane_book.specs.declared.book.Book.{Book}
use Rattle.lane_book.specs.declared.lane.Lane.{Lane}
use Rattle.lane_book.specs.declared.lane.Doing.{Doing}
use Rattle.lane_book.specs.Appends.{ReservesNeed}
use Rattle.lane_book.specs.Books.{IsBook}
use Rattle.lane_book.specs.FacesOf.{lane_at, faces_of}
use Rattle.lane_book.specs.Reserved.{added_by}
use Rattle.lane_book.specs.Steps.{Asks, IsAskedOf, IsAskedIn}
use Rattle.log_keeper.specs.declared.keeper.LogKeeper.{LogKeeper}
use Rattle.txn_state.specs.Changes.{with_block}
use Rattle.txn_state.specs.Owing.{append_most}
use Rattle.txn_state.specs.QuietLaws.{AsksTake, HasRoomForAsk}
use Rattle.txn_state.specs.Stages.{stage_of, stage_at, idle_stage, is_commit}
use Rattle.txn_state.specs.Ties.{owned}
use Rattle.txn_state.proofs.Takes.{takes_are_asked}
use Rattle.txn_core.specs.Asking.{Owes, StaysBetween, IsAsked, need_for, room_for}
use Rattle.txn_core.specs.Phases.{ArePhased}
use Rattle.txn_core.specs.States.{IsKept, HasWorld, start_of}
use Rattle.txn_core.proofs.AskedEnds.{is_between}
use Rattle.txn_core.proofs.Facts.{IsRead}
use Rattle.txn_core.proofs.Asked.{changes_face}
use Rattle.txn_core.proofs.AskedFaces.{owed_face, face_then, asked_phases}
use Rattle.txn_core.proofs.AskedWriting.{room_for_ask}
use Rattle.txn_core.proofs.LawfulKept.{take_asks_keep}
use Rattle.txn_core.proofs.Paying.{goes_lane}

-- the write that gives the block to the structure, as the code has it
abbrev pub owner_write : ℕ → ℕ → WordWrite
owner_write a s = record { address = a; value = s + 1 }

-- what is asked of the book for it
pub record IsTakeAsked {E : Type 0} (layout : Layout) (book later : Book E) (l s k : ℕ) : Type 0 where
  pub free : IsFree book.blocks k
  pub held : has_bit (lane_at book l).held s ≡ true
  pub structure : s < 8
  pub asked : IsAskedIn (Call.Take s) (Doing.Take s k) (owned layout s k ∷ []) [] 2 (with_block k (Owned s) book) later l

-- from the code's address
pub take_asked_at : {E : Type 0} (layout : Layout) (book later : Book E) (l s k a : ℕ) → IsFree book.blocks k → has_bit (lane_at book l).held s ≡ true → s < 8 → a ≡ block (layout_shape layout) k →
    IsAskedIn (Call.Take s) (Doing.Take s k) (owner_write a s ∷ []) [] 2 (with_block k (Owned s) book) later l → IsTakeAsked layout book later l s k
take_asked_at layout book later l s k a free held structure at it = record {
  free = free;
  held = held;
  structure = structure;
  asked = subst (λ n. IsAskedIn (Call.Take s) (Doing.Take s k) (owner_write n s ∷ []) [] 2 (with_block k (Owned s) book) later l) at it;
}

pub asks_take : {E : Type 0} (layout : Layout) (book : Book E) (l s k : ℕ) (lane : Lane E) → (lane_at book l).doing ≡ Doing.Nothing → (lane_at book l).phase ≡ Phase.In → (lane_at book l).entry ≡ None →
    IsAskedOf (lane_at book l) (Call.Take s) (Doing.Take s k) (owned layout s k ∷ []) [] 2 lane → IsFree book.blocks k → layout.structures ≤ k → s < 8 → has_bit (lane_at book l).held s ≡ true →
    ((j : ℕ) → j ≢ l → has_bit (lane_at book j).held s ≡ false) →
    append_most (layout_shape layout) + 1 ≤ (lane_at book l).owed_events → 1 ≤ (lane_at book l).owed_records → AsksTake layout book l s k lane
asks_take layout book l s k lane nothing phase none it free plain structure had alone events records = record {
  between = ap (stage_at (lane_at book l).phase (lane_at book l).has_records (lane_at book l).part) nothing ∙ ap idle_stage phase;
  call = ap (λ (x : Lane _). x.doing) it.asks.is;
  naming = ap (λ (x : Lane _). stage_of x) it.asks.is;
  same = record {
    transaction = ap (λ (x : Lane _). x.transaction) it.asks.is;
    held = ap (λ (x : Lane _). x.held) it.asks.is;
    begun = ap (λ (x : Lane _). x.begun) it.asks.is;
    commits = ap (λ (x : Lane _). x.commits) it.asks.is;
    updates = it.asks.updates_stay;
    stored = ap (λ (x : Lane _). x.stored) it.asks.is;
    gives = it.asks.gives_more ∙ append-nil (lane_at book l).gives.items;
    gates = it.gates_stay;
    has_records = ap (λ (x : Lane _). x.has_records) it.asks.is;
    rolled = ap (λ (x : Lane _). x.rolled) it.asks.is;
    ended = ap (λ (x : Lane _). x.ended) it.asks.is;
    entered = ap (λ (x : Lane _). x.entered) it.asks.is;
    owed_events = ap (λ (x : Lane _). x.owed_events) it.asks.is;
    owed_records = ap (λ (x : Lane _). x.owed_records) it.asks.is;
  };
  writes = it.asks.writes_more;
  entry = it.entry_stays ∙ none;
  free = free;
  plain = plain;
  structure = structure;
  had = had;
  alone = alone;
  waits = record { promised = (let e : lane.promised ≡ 2 = ap (λ (x : Lane _). x.promised) it.asks.is in omega (arith, e)); place = it.updates_fit };
  owes_events = subst (λ n. append_most (layout_shape layout) + 1 ≤ n) (sym (ap (λ (x : Lane _). x.owed_events) it.asks.is)) events;
  owes_record = subst (λ n. 1 ≤ n) (sym (ap (λ (x : Lane _). x.owed_records) it.asks.is)) records;
}

stays_taking : {E : Type 0} (deeds : Deeds E) (layout : Layout) (base : Base) (book later : Book E) (keeper : LogKeeper) (region : Region) (spare : ℕ) (counts : Counts) (l s k : ℕ) →
    l < length book.lanes.items → (lane_at book l).doing ≡ Doing.Nothing → (lane_at book l).phase ≡ Phase.In → IsBook later → IsTakeAsked layout book later l s k →
    append_most (layout_shape layout) + 1 ≤ (lane_at book l).owed_events → 1 ≤ (lane_at book l).owed_records → HasRoomForAsk layout book later region l →
    Fits (faces_of base book l) (Call.Take s) → May deeds (faces_of base book l) (Call.Take s) →
    IsKept deeds layout base book keeper region spare counts → IsKept deeds layout base later keeper region spare counts
stays_taking deeds layout base book later keeper region spare counts l s k lt nothing phase good it events records room fits may world = ∥∥₁_map world (λ w. record {
  state = takes_are_asked layout _ book later keeper region spare counts.events l s k (lane_at later l)
      (asks_take layout book l s k (lane_at later l) nothing phase (w.state.is_book.entries.others l (ap is_commit nothing)).none it.asked.lane it.free (w.lawful.no_root k it.free) it.structure it.held
      (λ j ne. w.lawful.owned.apart l j s (λ e. ne (sym e)) it.held) events records)
      room (goes_lane (with_block k (Owned s) book) later l (lane_at later l) book.touched lt it.asked.is) good w.state;
  lawful = take_asks_keep deeds layout base book later l s k w.lawful lt nothing fits may it.free
      (subst (λ n. IsAskedIn (Call.Take s) (Doing.Take s k) (owner_write (n + 16 * k) s ∷ []) [] 2 (with_block k (Owned s) book) later l) (sym w.lawful.owned.place.start) it.asked);
})

-- memory for it is no cell
need_stays : {E : Type 0} (layout : Layout) (book mid : Book E) (l m n s : ℕ) → Owes book mid l m n → need_for layout mid l (Call.Take s) ≡ need_for layout book l (Call.Take s)
need_stays layout book mid l m n s owes = λ i. owes.reserved layout.partitions 0 (l % layout.partitions) i + added_by layout.cells (owes.goes.lanes.here i) (Call.Take s)

module _ {E : Type 0} (deeds : Deeds E) (layout : Layout) (book mid later : Book E) (keeper kept : LogKeeper) (words : List ℕ) (region : Region) (spare left : ℕ) (counts : Counts) (l : ℕ)
    (read : IsRead words region counts) (lt : l < length book.lanes.items) (nothing : (lane_at book l).doing ≡ Doing.Nothing) (phase : (lane_at book l).phase ≡ Phase.In)
    (phased_mid : ArePhased book → ArePhased mid) (takes : StaysBetween deeds book mid keeper kept region spare left counts l)
    (m n : ℕ) (owes : Owes book mid l m n) (good : IsBook later) (s k : ℕ)
    (enough : need_for layout book l (Call.Take s) ≤ room_for layout words l) (events : append_most (layout_shape layout) + 1 ≤ m) (records : 1 ≤ n)
    (has : IsTakeAsked layout mid later l s k) (reserves : ReservesNeed layout.cells (Call.Take s) mid later l) (asks : Asks (asked (Call.Take s)) mid later l) where
  rests_mid : (lane_at mid l).doing ≡ Doing.Nothing
  rests_mid = ap (λ (x : Lane _). x.doing) owes.goes.lanes.here ∙ nothing

  inside_mid : l < length mid.lanes.items
  inside_mid = subst (λ j. l < j) (sym owes.goes.lanes.count) lt

  enough_mid : need_for layout mid l (Call.Take s) ≤ room_for layout words l
  enough_mid = subst (λ j. j ≤ room_for layout words l) (sym (need_stays layout book mid l m n s owes)) enough

  stays : (base : Base) → Fits (faces_of base book l) (Call.Take s) → May deeds (faces_of base book l) (Call.Take s) →
      IsKept deeds layout base mid kept region left counts → IsKept deeds layout base later kept region left counts
  stays base fits may world = ∥∥₁_elim world ∥∥₁_prop (λ w. stays_taking deeds layout base mid later kept region left counts l s k inside_mid rests_mid
      (ap (λ (x : Lane _). x.phase) owes.goes.lanes.here ∙ phase) good has
      (subst (λ (x : Lane _). append_most (layout_shape layout) + 1 ≤ x.owed_events) (sym owes.goes.lanes.here) events)
      (subst (λ (x : Lane _). 1 ≤ x.owed_records) (sym owes.goes.lanes.here) records)
      (room_for_ask layout (start_of layout base) mid later kept words region left counts.events l (Call.Take s) read.reads read.full reserves enough_mid w.state)
      (subst (λ f. Fits f (Call.Take s)) (sym (owes.faces base l)) fits) (subst (λ f. May deeds f (Call.Take s)) (sym (owes.faces base l)) may) world)

  pub take_asked : IsAsked deeds layout (Call.Take s) book later keeper kept region spare left counts l
  take_asked = record {
    stays = λ base fits may world. stays base fits may (takes layout base (is_between (lane_at book l) nothing phase) world);
    face = face_then (asked (Call.Take s)) book mid later l (owed_face book mid l m n owes)
        (let change = changes_face (asked (Call.Take s)) (with_block k (Owned s) mid) later l has.asked.is asks in record { asks = change.asks; many = change.many; touched = change.touched });
    phased = λ phased. asked_phases (with_block k (Owned s) mid) later l (Call.Take s) (Doing.Take s k) (owned layout s k ∷ []) [] 2 inside_mid rests_mid has.asked (phased_mid phased);
  }

-- ---- the block

pub block_there : {E : Type 0} (deeds : Deeds E) (layout : Layout) (book : Book E) (keeper : LogKeeper) (region : Region) (spare : ℕ) (counts : Counts) (k : ℕ) → IsFree book.blocks k →
    HasWorld deeds layout book keeper region spare counts → k < layout.blocks
block_there deeds layout book keeper region spare counts k free world = ∥∥₁_elim world le_prop (λ y.
    (let lt = slice_get_within book.blocks k Free free in let many = y.1.state.is_book.blocks in omega (arith, lt, many)))

pub block_mid : {E : Type 0} (book mid : Book E) (l m n k : ℕ) → Owes book mid l m n → IsFree book.blocks k → k < length mid.blocks
block_mid book mid l m n k owes free = subst (λ bs. k < length bs) (sym owes.goes.lanes.blocks) (slice_get_within book.blocks k Free free)
