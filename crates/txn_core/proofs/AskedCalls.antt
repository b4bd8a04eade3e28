-- A call is asked or refused by what stands against it.
use Rattle.std.proofs.Common.{◌≡◌, ◌≢◌, ℕ, ◌<◌, ◌≤◌, List, length, true, false, Option, Some, None, refl, sym, ap, ◌∙◌, subst}
use Rattle.std.proofs.Math.ListN.{length-set}
use Rattle.std.proofs.Math.Logic.{∥∥₁_map, ∥∥₁_elim}
use Rattle.std.proofs.Math.Bridge.{le_prop}
use Rattle.std.proofs.Math.Nat.{ℕ_set}
use Rattle.std.specs.Coded.{Coded-set, coded_bool}
use Rattle.persist_model.specs.Region.{Region}
use Rattle.lane_traits.specs.Device.{Counts}
use Rattle.region_layout.specs.declared.layout.Layout.{Layout}
use Rattle.offset_alloc.specs.declared.Standing.{Standing}
use Rattle.lane_types.specs.declared.call.Call.{Call}
use Rattle.lane_types.specs.declared.call.Phase.{Phase}
use Rattle.lane_types.specs.declared.call.Refusal.{Refusal}
use Rattle.lane_types.specs.Deeds.{Deeds}
use Rattle.lane_types.specs.Faces.{Base}
use Rattle.lane_types.specs.Asks.{asked, refused, wanted}
use Rattle.lane_book.specs.declared.book.Book.{Book}
use Rattle.lane_book.specs.declared.lane.Lane.{Lane}
use Rattle.lane_book.specs.declared.lane.Doing.{Doing}
use Rattle.lane_book.specs.Books.{IsBook}
use Rattle.lane_book.specs.FacesOf.{lane_at, faces_of}
use Rattle.lane_book.specs.Lanes.{with_lane, refused_lane}
use Rattle.lane_book.specs.Refusals.{AreStructures, ShowsBlocks, IsAdmitted, IsRefusedBy, Decides, Told}
use Rattle.lane_book.specs.Refusals as refusals
use Rattle.lane_book.specs.Steps.{Asks}
use Rattle.log_keeper.specs.declared.keeper.LogKeeper.{LogKeeper}
use Rattle.lawful_book.proofs.GoingOn.{refused_on}
use Rattle.txn_core.proofs.LawfulKept.{steps_keep, blocks_shown}
use Rattle.lawful_book.specs.OwnedBooks.{moves_block}
use Rattle.lawful_book.proofs.OwnedHeaps.{never, by_bool}
use Rattle.txn_state.specs.QuietLaws.{HasSameTransaction}
use Rattle.txn_state.proofs.SameTransaction.{notes_keep}
use Rattle.txn_core.specs.Asking.{ChangesFace, StaysAsked, StaysAlways, IsAsked, LacksMemory, CanBeAsked, IsExact, need_for, room_for, WritesData}
use Rattle.txn_core.specs.Phases.{IsPhased, ArePhased}
use Rattle.txn_core.specs.States.{IsKept}
use Rattle.txn_core.proofs.Phasing.{phased_with}
use Rattle.txn_core.proofs.Paying.{goes_lane}

-- ---- a call in its phase

not_calling : {E : Type 0} (call : Call E) → Phase.Calling ≡ wanted call → ⊥
not_calling (Call.Begin set) is = absurd (cc)
not_calling (Call.Read a) is = absurd (cc)
not_calling (Call.Write a v) is = absurd (cc)
not_calling (Call.Take s) is = absurd (cc)
not_calling (Call.Give block) is = absurd (cc)
not_calling (Call.Commit deed) is = absurd (cc)
not_calling Call.Abort is = absurd (cc)
not_calling Call.Checkpoint is = absurd (cc)
not_calling (Call.Batch writes) is = absurd (cc)
not_calling Call.Savepoint is = absurd (cc)
not_calling (Call.RollbackTo n) is = absurd (cc)

rests_in : {E : Type 0} (doing : Doing) (phase : Phase) (call : Call E) → (doing ≢ Doing.Nothing → phase ≡ Phase.Calling) → phase ≡ wanted call → doing ≡ Doing.Nothing
rests_in Doing.Nothing phase call calling is = refl
rests_in (Doing.Begin set) phase call calling is = absurd (not_calling call (sym (calling (λ e. absurd (cc))) ∙ is))
rests_in (Doing.Read a) phase call calling is = absurd (not_calling call (sym (calling (λ e. absurd (cc))) ∙ is))
rests_in (Doing.Write a v) phase call calling is = absurd (not_calling call (sym (calling (λ e. absurd (cc))) ∙ is))
rests_in (Doing.Take s block) phase call calling is = absurd (not_calling call (sym (calling (λ e. absurd (cc))) ∙ is))
rests_in (Doing.Give block) phase call calling is = absurd (not_calling call (sym (calling (λ e. absurd (cc))) ∙ is))
rests_in Doing.Commit phase call calling is = absurd (not_calling call (sym (calling (λ e. absurd (cc))) ∙ is))
rests_in Doing.Abort phase call calling is = absurd (not_calling call (sym (calling (λ e. absurd (cc))) ∙ is))
rests_in Doing.Checkpoint phase call calling is = absurd (not_calling call (sym (calling (λ e. absurd (cc))) ∙ is))
rests_in (Doing.Batch n) phase call calling is = absurd (not_calling call (sym (calling (λ e. absurd (cc))) ∙ is))
rests_in Doing.Savepoint phase call calling is = absurd (not_calling call (sym (calling (λ e. absurd (cc))) ∙ is))
rests_in (Doing.RollbackTo n) phase call calling is = absurd (not_calling call (sym (calling (λ e. absurd (cc))) ∙ is))

-- a lane in the phase that a call asks for has none in progress
pub rests : {E : Type 0} (lane : Lane E) (call : Call E) → IsPhased lane → lane.phase ≡ wanted call → lane.doing ≡ Doing.Nothing
rests lane call phased is = rests_in lane.doing lane.phase call phased.calling is

pub can_be_asked : {E : Type 0} (layout : Layout) (book : Book E) (words : List ℕ) (l need : ℕ) (call : Call E) → l < length book.lanes.items → ArePhased book → need ≡ need_for layout book l call →
    WritesData layout call → IsAdmitted layout (room_for layout words l) need book.blocks (lane_at book l) call → CanBeAsked layout book words l call
can_be_asked layout book words l need call lt phased told data_word admitted = record {
  lane = lt;
  nothing = rests (lane_at book l) call (phased l) admitted.passes.phase;
  phase = admitted.passes.phase;
  mine = admitted.passes.mine;
  data_word = data_word;
  room = λ logged. subst (λ n. n ≤ room_for layout words l) told (admitted.passes.room_is_there logged);
  free = admitted.free;
}

-- ---- what the state says

module _ {E : Type 0} (deeds : Deeds E) (layout : Layout) (base : Base) (book : Book E) (keeper : LogKeeper) (region : Region) (spare : ℕ) (counts : Counts)
    (kept : IsKept deeds layout base book keeper region spare counts) where
  pub blocks_are : length book.blocks ≡ layout.blocks
  blocks_are = ∥∥₁_elim kept (ℕ_set _ _) (λ w. w.state.is_book.blocks)

  pub structures_are : AreStructures book.blocks
  structures_are block s owned = ∥∥₁_elim kept le_prop (λ w. w.state.is_book.structures block s owned)

  -- a lane that is about no take and no give sees its blocks
  pub shows_blocks : (l : ℕ) → moves_block (lane_at book l).doing ≡ false → ShowsBlocks layout book l base
  shows_blocks l calm = record {
    start = ∥∥₁_elim kept (ℕ_set _ _) (λ w. (blocks_shown deeds layout base book w.lawful l calm).start);
    blocks = ∥∥₁_elim kept (ℕ_set _ _) (λ w. (blocks_shown deeds layout base book w.lawful l calm).blocks);
    mine = λ block lt. ∥∥₁_elim kept (Coded-set coded_bool _ _) (λ w. (blocks_shown deeds layout base book w.lawful l calm).mine block lt);
  }

  -- and each is told by its face why it is refused: one that moves a block is in a call
  pub told_anyway : (l room need : ℕ) (call : Call E) (refusal : Option Refusal) → IsPhased (lane_at book l) → Decides layout room need book.blocks (lane_at book l) call refusal →
      (ShowsBlocks layout book l base → Told (faces_of base book l) call refusal) → Told (faces_of base book l) call refusal
  told_anyway l room need call refusal phased decides told = by_bool _ (moves_block (lane_at book l).doing) (λ moves. by refusal moves decides) (λ calm. told (shows_blocks l calm))
    where
      resting : moves_block (lane_at book l).doing ≡ true → (lane_at book l).phase ≡ wanted call → ⊥
      resting moves phase = never _ moves (ap moves_block (rests (lane_at book l) call phased phase))

      by : (r : Option Refusal) → moves_block (lane_at book l).doing ≡ true → Decides layout room need book.blocks (lane_at book l) call r → Told (faces_of base book l) call r
      by None moves admitted = absurd (resting moves admitted.passes.phase)
      by (Some _) moves (IsRefusedBy.by_phase other) = record { is = refl; other = other }
      by (Some _) moves (IsRefusedBy.by_owner phase strange) = absurd (resting moves phase)
      by (Some _) moves (IsRefusedBy.by_room phase mine logged short) = absurd (resting moves phase)
      by (Some _) moves (IsRefusedBy.by_heap passes takes none) = absurd (resting moves passes.phase)

-- ---- a refusal

refused_same : {E : Type 0} (call : Call E) (refusal : Refusal) (lane : Lane E) → HasSameTransaction lane (refused_lane call refusal lane)
refused_same call refusal lane = record {
  stage = refl;
  transaction = refl;
  held = refl;
  begun = refl;
  commits = refl;
  writes = refl;
  updates = refl;
  waits = λ naming. refl;
  stored = refl;
  gives = refl;
  has_records = refl;
  rolled = refl;
  ended = refl;
  entry = refl;
  entered = refl;
  committing = refl;
  takes = λ s k call. call;
  due = refl;
  gives_same = λ k call. call;
  ending = refl;
  gates = refl;
  gates_wait = λ due. refl;
  promised = refl;
  owed_events = refl;
  owed_records = refl;
}

-- the lane is as it was but for its tally
pub stays_refused : {E : Type 0} (deeds : Deeds E) (book later : Book E) (l : ℕ) (call : Call E) (refusal : Refusal) → l < length book.lanes.items →
    later ≡ with_lane book l (refused_lane call refusal (lane_at book l)) book.touched → IsBook later → StaysAlways deeds book later
stays_refused deeds book later l call refusal lt is good layout base keeper region spare counts world = ∥∥₁_map world (λ w. record {
  state = notes_keep layout _ book later keeper region spare counts.events l (refused_lane call refusal (lane_at book l)) (refused_same call refusal (lane_at book l))
      (goes_lane book later l (refused_lane call refusal (lane_at book l)) book.touched lt is) good w.state;
  lawful = steps_keep deeds layout base book later l (refused_lane call refusal (lane_at book l)) book.touched w.lawful lt is (refused_on call refusal (lane_at book l));
})

pub refused_phases : {E : Type 0} (book later : Book E) (l : ℕ) (call : Call E) (refusal : Refusal) → l < length book.lanes.items →
    later ≡ with_lane book l (refused_lane call refusal (lane_at book l)) book.touched → ArePhased book → ArePhased later
refused_phases book later l call refusal lt is = phased_with book later l (refused_lane call refusal (lane_at book l)) book.touched lt (ap (λ (b : Book _). b.lanes) is)
    (λ phased. record { calling = phased.calling; joined = phased.joined; undone = phased.undone })

pub is_exact : {E : Type 0} (layout : Layout) (room need : ℕ) (blocks : List Standing) (lane : Lane E) (call : Call E) (refusal : Refusal) → IsRefusedBy layout room need blocks lane call refusal →
    IsExact room need refusal
is_exact layout room need blocks lane call refusal (refusals.by_phase other) = tt
is_exact layout room need blocks lane call refusal (refusals.by_owner phase other) = tt
is_exact layout room need blocks lane call refusal (refusals.by_room phase mine logged short) = (refl, refl)
is_exact layout room need blocks lane call refusal (refusals.by_heap passes takes none) = tt

pub refused_face : {E : Type 0} (book later : Book E) (l : ℕ) (call : Call E) (refusal : Refusal) → later ≡ with_lane book l (refused_lane call refusal (lane_at book l)) book.touched →
    Asks (refused call refusal) book later l → ChangesFace (refused call refusal) book later l
refused_face book later l call refusal is asks = record {
  asks = asks;
  many = ap (λ (b : Book _). length b.lanes.items) is ∙ length-set book.lanes.items l (refused_lane call refusal (lane_at book l));
  touched = ap (λ (b : Book _). b.touched) is;
}

-- for want of memory no face is another
pub lacks_face : {E : Type 0} (call : Call E) (book later : Book E) (l : ℕ) → ChangesFace (λ face. face) book later l → ChangesFace (refused call Refusal.NoMemory) book later l
lacks_face call book later l face = record { asks = λ base. record { others = (face.asks base).others; face = (face.asks base).face }; many = face.many; touched = face.touched }

-- ---- the device

-- the state is kept at a device whose cells and counts are the same
pub kept_there : {E : Type 0} (deeds : Deeds E) (layout : Layout) (base : Base) (book : Book E) (keeper : LogKeeper) (region again : Region) (spare : ℕ) (counts others : Counts) → again ≡ region → others ≡ counts →
    IsKept deeds layout base book keeper region spare counts → IsKept deeds layout base book keeper again spare others
kept_there deeds layout base book keeper region again spare counts others cells same kept = subst (λ k. IsKept deeds layout base book keeper again spare k) (sym same)
    (subst (λ r. IsKept deeds layout base book keeper r spare counts) (sym cells) kept)

-- ---- a call by its kind

module _ {E : Type 0} (deeds : Deeds E) (layout : Layout) (call : Call E) (book later : Book E) (keeper : LogKeeper) (region : Region) (spare : ℕ) (counts : Counts) (l : ℕ)
    (phased : ArePhased book → ArePhased later) where
  pub quietly_asked : StaysAsked deeds call book later l → ChangesFace (asked call) book later l → IsAsked deeds layout call book later keeper keeper region spare spare counts l
  quietly_asked stays face = record { stays = λ base fits may world. stays layout base keeper region spare counts fits may world; face = face; phased = phased }

  pub quietly_lacks : StaysAlways deeds book later → ChangesFace (λ face. face) book later l → LacksMemory deeds layout book later keeper keeper region spare spare counts l
  quietly_lacks stays face = record { stays = λ base world. stays layout base keeper region spare counts world; face = face; phased = phased }

-- nothing is done
pub lacks_still : {E : Type 0} (deeds : Deeds E) (layout : Layout) (book : Book E) (keeper : LogKeeper) (region : Region) (spare : ℕ) (counts : Counts) (l : ℕ) →
    LacksMemory deeds layout book book keeper keeper region spare spare counts l
lacks_still deeds layout book keeper region spare counts l = record {
  stays = λ base world. world;
  face = record { asks = λ base. record { others = λ k ne. refl; face = refl }; many = refl; touched = refl };
  phased = λ phased. phased;
}
