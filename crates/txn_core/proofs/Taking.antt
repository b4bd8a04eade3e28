-- What the store of a taken block's owner word leaves.
use Rattle.std.proofs.Common.{◌≡◌, ◌≢◌, inr, ℕ, zero, suc, ◌+◌, ◌*◌, ◌<◌, ◌++◌, ◌∷◌, List, [], length, take, slice_get, Some, None, refl, sym, ap, ◌∙◌, subst, arith}
use Rattle.std.proofs.Math.Logic.{∥∥₁_map, ∥∥₁_elim}
use Rattle.std.proofs.Math.Nat.{ℕ_set}
use Rattle.std.proofs.lemmas.List.{length-map}
use Rattle.std.specs.Coded.{Coded-set, coded_ℕ, coded_bool, coded_option, le_prop}
use Rattle.persist_model.specs.declared.event.Event.{Event}
use Rattle.persist_model.specs.declared.event.Event.TheVariants.{PStore}
use Rattle.persist_model.specs.Region.{Words, Region}
use Rattle.persist_model.specs.Shape.{block}
use Rattle.lane_traits.specs.Device.{Counts}
use Rattle.lane_traits.specs.declared.device.Done.TheVariants as Done
use Rattle.lane_traits.specs.declared.draft.WordWrite.{WordWrite}
use Rattle.region_layout.specs.declared.layout.Layout.{Layout}
use Rattle.region_layout.specs.Layout.{layout_shape}
use Rattle.lane_types.specs.declared.call.Phase.{Phase}
use Rattle.lane_types.specs.declared.call.Reply.TheVariants as Reply
use Rattle.lane_types.specs.declared.call.Stepped.{Stepped}
use Rattle.lane_types.specs.Deeds.{Deeds}
use Rattle.lane_types.specs.Faces.{Base}
use Rattle.lane_types.specs.Heaps.{block_address}
use Rattle.lane_book.specs.declared.book.Book.{Book}
use Rattle.lane_book.specs.declared.lane.Lane.{Lane}
use Rattle.lane_book.specs.declared.lane.Doing.{Doing}
use Rattle.lane_book.specs.FacesOf.{lane_at, faces_of, front}
use Rattle.lane_book.specs.Lanes.{with_lane, closed, stored_one, paid_event}
use Rattle.lane_book.specs.Steps.{StepsIf, CanTake, IsNextStored}
use Rattle.lane_book.specs.Books.{IsBook}
use Rattle.lane_book.specs.Calls.{IsDoing, IsCalling}
use Rattle.lawful_book.proofs.GoingOn.{stored_answers, inside_of}
use Rattle.log_keeper.specs.declared.keeper.LogKeeper.{LogKeeper}
use Rattle.txn_state.specs.Stages.{Storing, stage_of}
use Rattle.txn_laws.specs.Txns.{txn_at}
use Rattle.txn_state.specs.HeapLaws.{IsEvent}
use Rattle.txn_state.specs.States.{IsStateOf}
use Rattle.txn_state.specs.Ties.{IsCome, under_of, plain_write}
use Rattle.txn_state.proofs.HeapSteps.{takes_are_stored}
use Rattle.txn_core.specs.Making.{Makes, stopped, made}
use Rattle.txn_core.specs.Latched.{is_latched, none_held}
use Rattle.txn_core.specs.Phases.{IsPhased, ArePhased}
use Rattle.txn_core.specs.Putting.{Puts}
use Rattle.txn_core.specs.States.{IsWorld, IsKept, HasWorld, start_of}
use Rattle.txn_core.specs.Stepping.{StepsWorld, TouchesWord, HasMade, IsCause}
use Rattle.txn_core.proofs.LawfulKept.{answers_keep, takes_are_new}
use Rattle.txn_core.proofs.WritingWords.{next_write, word_below}
use Rattle.txn_core.proofs.Phasing.{phased_with, closed_anyway}
use Rattle.txn_core.proofs.PhasedSteps.{paid_phased}
use Rattle.txn_core.proofs.Paid.{paid_goes, lawful_paid, lanes_paid, count_paid}
use Rattle.txn_core.proofs.Paying.{paid_lane, paid_step, goes_lane}
use Rattle.txn_core.proofs.Touching.{touches_none, owner_leaves, owner_is_no_data}

-- a take is to write the owner word, as the code has it
pub takes_it : (layout : Layout) (d : Doing) (s k a v : ℕ) → d ≡ Doing.Take s k → a ≡ block (layout_shape layout) k → v ≡ s + 1 → Puts layout d a v
takes_it layout d s k a v is at has =
    subst (λ (e : Doing). Puts layout e a v) (sym is) (subst (λ b. Puts layout (Doing.Take s k) b v) (sym at) (subst (λ u. Puts layout (Doing.Take s k) (block (layout_shape layout) k) u) (sym has) Puts.take))

-- the block is one of the heap's
pub taken_inside : {E : Type 0} (deeds : Deeds E) (layout : Layout) (book : Book E) (keeper : LogKeeper) (region : Region) (spare : ℕ) (counts : Counts) (l s k : ℕ) →
    (lane_at book l).doing ≡ Doing.Take s k → HasWorld deeds layout book keeper region spare counts → k < layout.blocks
taken_inside deeds layout book keeper region spare counts l s k doing world = ∥∥₁_elim world le_prop (λ y.
    (let inside = ((y.1.lawful.owned.lanes l).own_take s k doing).inside in let place = y.1.lawful.owned.place.blocks in omega (arith, inside, place)))

-- ---- the next write

take_got : (xs : List WordWrite) (n : ℕ) (w : WordWrite) → slice_get xs n ≡ Some w → n + 1 ≡ length xs → xs ≡ take n xs ++ w ∷ []
take_got [] n w got is = cc
take_got (x ∷ []) zero w got is = let same : x ≡ w = cc in ap (λ (y : WordWrite). y ∷ []) same
take_got (x ∷ y ∷ xs) zero w got is = absurd (omega (arith, is))
take_got (x ∷ xs) (suc n) w got is = ap (λ (ys : List WordWrite). x ∷ ys) (take_got xs n w got (omega (arith, is)))

last_got : (xs : List WordWrite) (n : ℕ) (w : WordWrite) → slice_get xs n ≡ Some w → n + 1 ≡ length xs → xs ≡ front 1 xs ++ w ∷ []
last_got xs n w got is = take_got xs n w got is ∙ ap (λ (m : ℕ). take m xs ++ w ∷ []) (omega (arith, is))

-- it is the last one, and it alone isn't stored
next_stored : {E : Type 0} (layout : Layout) (start : Words) (book : Book E) (keeper : LogKeeper) (region : Region) (spare events l : ℕ) → l < length book.lanes.items →
    stage_of (lane_at book l) ≡ Storing → IsStateOf layout start book keeper region spare events → (lane_at book l).stored + 1 ≡ length (lane_at book l).writes.items
next_stored layout start book keeper region spare events l lt at state =
    let own = state.tied.each l (subst (λ n. l < n) (sym state.tied.lanes) lt) in
    let waits = (subst (IsCome state.s.log (under_of (layout_shape layout) state.w l) (txn_at state.w.lanes l)) at own.come).last_waits in
    ap (λ n. n + 1) (sym own.txn.stored) ∙ waits ∙ ap (λ ws. length ws) own.txn.writes ∙ length-map (lane_at book l).writes.items plain_write

-- behind the payment the lane is in its take yet
module _ {E : Type 0} (book between : Book E) (l s k : ℕ) (lt : l < length book.lanes.items) (pays : between ≡ with_lane book l (paid_event (lane_at book l)) book.touched) where
  lane_paid : lane_at between l ≡ paid_event (lane_at book l)
  lane_paid = (goes_lane book between l (paid_event (lane_at book l)) book.touched lt pays).lanes.here

  pub paid_takes : (lane_at book l).phase ≡ Phase.Calling → (lane_at book l).doing ≡ Doing.Take s k → IsBook between → IsDoing (Doing.Take s k) between l
  paid_takes calling doing kept = record {
    inside = lanes_paid book between l pays lt;
    calling = ap (λ (x : Lane E). x.phase) lane_paid ∙ calling;
    call = ap (λ (x : Lane E). x.doing) lane_paid ∙ doing;
    kept = kept;
  }

-- a stop leaves the book
pub stopped_inside : {E : Type 0} (e : Event) (region behind : Region) (counts after : Counts) (spare left : ℕ) (book later : Book E) (l : ℕ) → l < length book.lanes.items →
    Makes e region behind counts after spare left book later l Done.Stopped → l < length later.lanes.items
stopped_inside e region behind counts after spare left book later l lt (stopped device same) = subst (λ (b : Book _). l < length b.lanes.items) (sym same) lt

-- behind the payment the lane is in its call yet
pub paid_calling : {E : Type 0} (book between : Book E) (l : ℕ) (lt : l < length book.lanes.items) → between ≡ with_lane book l (paid_event (lane_at book l)) book.touched →
    (lane_at book l).phase ≡ Phase.Calling → IsBook between → IsCalling between l
paid_calling book between l lt pays calling kept = record {
  inside = lanes_paid book between l pays lt;
  calling = ap (λ (x : Lane _). x.phase) (goes_lane book between l (paid_event (lane_at book l)) book.touched lt pays).lanes.here ∙ calling;
  kept = kept;
}

-- ---- the take is answered

module _ {E : Type 0} (deeds : Deeds E) (layout : Layout) (book between later : Book E) (keeper : LogKeeper) (region behind : Region) (spare left : ℕ) (counts after : Counts) (l s k a : ℕ)
    (lt : l < length book.lanes.items) (at : stage_of (lane_at book l) ≡ Storing) (doing : (lane_at book l).doing ≡ Doing.Take s k) (place : a ≡ block (layout_shape layout) k)
    (pays : between ≡ with_lane book l (paid_event (lane_at book l)) book.touched) (was : IsDoing (Doing.Take s k) between l)
    (is : later ≡ with_lane between l (closed (Reply.Block k) (stored_one (lane_at between l))) None) where
  no_commit : (lane_at between l).doing ≢ Doing.Commit
  no_commit end = let clash : Doing.Take s k ≡ Doing.Commit = sym was.call ∙ end in cc

  stored_state : IsBook later → Makes (PStore a (s + 1)) region behind counts after spare left book between l Done.Made →
      (base : Base) → IsWorld deeds layout base book keeper region spare counts.events → IsWorld deeds layout base later keeper behind left after.events
  stored_state kept (made event counted paid) base world = record {
    state = takes_are_stored layout (start_of layout base) book later keeper region behind spare left counts.events after.events l s k
        (subst (λ n. IsEvent region behind l (PStore n (s + 1)) spare left counts.events after.events) place event) at doing
        (paid_goes book between later l (paid_event (lane_at book l)) (λ (x : Lane E). closed (Reply.Block k) (stored_one x)) book.touched lt pays
        (goes_lane between later l (closed (Reply.Block k) (stored_one (lane_at between l))) None was.inside is)) kept world.state;
    lawful = answers_keep deeds layout base between later l (Reply.Block k) (closed (Reply.Block k) (stored_one (lane_at between l))) None
        (lawful_paid deeds layout base book between l lt pays world.lawful) was.inside is
        (stored_answers (Reply.Block k) (lane_at between l) no_commit (λ e. inside_of (Doing.Take s k) (lane_at between l) was.calling was.call refl));
  }

  -- the block is new to the lane
  new : (base : Base) → IsWorld deeds layout base book keeper region spare counts.events → CanTake between l s k (block_address base.heap k) base
  new base world = takes_are_new deeds layout base between (lawful_paid deeds layout base book between l lt pays world.lawful) l s k was.call

  can_take : (base : Base) → IsKept deeds layout base book keeper region spare counts → CanTake between l s k a base
  can_take base stood = record {
    address = ∥∥₁_elim stood (ℕ_set _ _) (λ world. place ∙ ap (λ n. n + 16 * k) (sym world.lawful.owned.place.start));
    inside = ∥∥₁_elim stood le_prop (λ world. (new base world).inside);
    held = ∥∥₁_elim stood (Coded-set coded_bool _ _) (λ world. (new base world).held);
    new = ∥∥₁_elim stood (Coded-set (coded_option coded_ℕ) _ _) (λ world. (new base world).new);
    not_given = ∥∥₁_elim stood (Coded-set coded_bool _ _) (λ world. (new base world).not_given);
  }

  stored_phased : ArePhased book → ArePhased later
  stored_phased phased = phased_with between later l (closed (Reply.Block k) (stored_one (lane_at between l))) None was.inside (ap (λ (b : Book E). b.lanes) is)
      (λ (one : IsPhased (lane_at between l)). closed_anyway (stored_one (lane_at between l)) (Reply.Block k))
      (paid_phased book between l lt pays phased)

  stored_counted : Makes (PStore a (s + 1)) region behind counts after spare left book between l Done.Made → HasMade (Stepped.Answered (Reply.Block k)) counts after
  stored_counted (made event counted paid) = inr counted

  stored_touches : Makes (PStore a (s + 1)) region behind counts after spare left book between l Done.Made → TouchesWord layout region behind later.touched
  stored_touches (made event counted paid) = touches_none layout region behind later.touched (ap (λ (b : Book E). b.touched) is)
      (owner_leaves layout region behind l a (s + 1) event.cells (owner_is_no_data layout a k place))

  pub owner_stored : (answer : Stepped) → answer ≡ Stepped.Answered (Reply.Block k) → IsBook later →
      Makes (PStore a (s + 1)) region behind counts after spare left book between l Done.Made → StepsIf (CanTake between l s k a) deeds between later l answer →
      StepsWorld deeds layout book later keeper keeper region behind spare left counts after l answer
  owner_stored answer told kept makes step = record {
    count = count_paid book between later l (closed (Reply.Block k) (stored_one (lane_at between l))) pays (ap (λ (b : Book E). b.lanes) is);
    touches = λ base stood. stored_touches makes;
    stays = λ base stood. ∥∥₁_map stood (stored_state kept makes base);
    face = λ base stood. paid_step deeds base book between l answer (faces_of base later)
        (paid_lane book between l (paid_event (lane_at book l)).owed_events (lane_at book l).owed_records book.touched lt pays) (step base (can_take base stood));
    made = subst (λ (s : Stepped). HasMade s counts after) (sym told) (stored_counted makes);
    phased = stored_phased;
    latches = none_held refl (ap is_latched at);
    cause = subst (λ (s : Stepped). IsCause layout book keeper counts l s) (sym told) tt;
  }

-- the owner word is the lane's next write
module _ {E : Type 0} (book between : Book E) (l s k a : ℕ) (lt : l < length book.lanes.items) (pays : between ≡ with_lane book l (paid_event (lane_at book l)) book.touched) where
  pub owner_next : (deeds : Deeds E) (layout : Layout) (keeper : LogKeeper) (region : Region) (spare : ℕ) (counts : Counts) → a ≡ block (layout_shape layout) k →
      stage_of (lane_at book l) ≡ Storing → (lane_at book l).doing ≡ Doing.Take s k → HasWorld deeds layout book keeper region spare counts →
      IsNextStored (lane_at between l) (record { address = a; value = s + 1 })
  owner_next deeds layout keeper region spare counts place at doing world = subst (λ (x : Lane E). IsNextStored x (record { address = a; value = s + 1 })) (sym (lane_paid book between l s k lt pays)) (record {
    last = last_got (lane_at book l).writes.items (lane_at book l).stored (record { address = a; value = s + 1 })
        (next_write deeds layout book keeper region spare counts l a (s + 1) lt world (takes_it layout (lane_at book l).doing s k a (s + 1) doing place refl)) stored;
    stored = stored;
  })
    where
      stored : (lane_at book l).stored + 1 ≡ length (lane_at book l).writes.items
      stored = ∥∥₁_elim world (ℕ_set _ _) (λ y. next_stored layout (start_of layout y.0) book keeper region spare counts.events l lt at y.1.state)

-- it is one of the region's
pub owner_below : {E : Type 0} (deeds : Deeds E) (layout : Layout) (book : Book E) (keeper : LogKeeper) (region : Region) (spare : ℕ) (counts : Counts) (l s k a : ℕ) → l < length book.lanes.items →
    a ≡ block (layout_shape layout) k → (lane_at book l).doing ≡ Doing.Take s k → stage_of (lane_at book l) ≡ Storing → HasWorld deeds layout book keeper region spare counts → a < region.size
owner_below deeds layout book keeper region spare counts l s k a lt place doing at world =
    word_below deeds layout book keeper region spare counts l a (s + 1) lt world (takes_it layout (lane_at book l).doing s k a (s + 1) doing place refl) (inr at)
