-- What a step without an event leaves of the state, and of the faces.
use Rattle.std.proofs.Common.{◌≡◌, ◌≢◌, ℕ, ◌+◌, ◌%◌, ◌<◌, ◌≤◌, ◌==◌, ◌&&◌, ◌||◌, not, if◌then◌else◌, Bool, true, false, List, [], ◌∷◌, ◌++◌, length, None, map, refl, sym, ap, ◌∙◌, subst, arith}
use Rattle.std.proofs.Math.Logic.{∥∥₁_map}
use Rattle.std.proofs.lemmas.List.{length-set}
use Rattle.persist_model.specs.Region.{Words, Region}
use Rattle.persist_model.specs.Records.{Log}
use Rattle.lane_traits.specs.Device.{Counts}
use Rattle.region_layout.specs.declared.layout.Layout.{Layout}
use Rattle.region_layout.specs.Layout.{layout_shape}
use Rattle.lane_types.specs.declared.call.Stepped.{Stepped}
use Rattle.lane_types.specs.declared.face.Entry.{Entry}
use Rattle.lane_types.specs.Deeds.{Deeds}
use Rattle.lane_types.specs.Faces.{Base}
use Rattle.offset_alloc.specs.declared.Standing.{Standing}
use Rattle.lane_book.specs.declared.book.Book.{Book}
use Rattle.lane_book.specs.declared.lane.Lane.{Lane}
use Rattle.lane_book.specs.FacesOf.{lane_at, faces_of}
use Rattle.lane_book.specs.Lanes.{with_lane, with_history, begun_lane}
use Rattle.lane_book.specs.Reserved.{reserved_by, undo_cells}
use Rattle.lane_book.specs.Steps.{IsStep}
use Rattle.lane_book.specs.Books.{IsBook}
use Rattle.lane_book.proofs.Faces.{lane_at-same, lane_at-other}
use Rattle.log_keeper.specs.declared.keeper.LogKeeper.{LogKeeper}
use Rattle.log_keeper.specs.Keeper.{HasRoomIn}
use Rattle.log_keeper.specs.Ledger.{newest_log}
use Rattle.history_laws.specs.UnderWay.{UnderWay}
use Rattle.txn_laws.specs.Txns.{Txn, txn_at}
use Rattle.txn_state.specs.Stages.{Naming, stage_of}
use Rattle.txn_state.specs.Ties.{plain_entry, IsLaneOf, under_of, due_by}
use Rattle.txn_state.specs.Owing.{OwesEnough}
use Rattle.txn_state.specs.Changes.{HasLane, GoesTo, JoinsTo}
use Rattle.txn_state.specs.QuietLaws.{HasSameTransaction}
use Rattle.txn_state.specs.States.{IsStateOf}
use Rattle.txn_state.proofs.Lanes.{lane_sum_same, reserved_less, reserved_by_same, roomy_less, its_entry, entries_stay, same_entry, joining_same}
use Rattle.txn_state.proofs.Steps.{numbers_stay, goes_on, beside_same, apart_own}
use Rattle.txn_state.proofs.SameTransaction.{lane_same, owes_of, same_slots, wants, pending_same}
use Rattle.txn_core.specs.Latched.{Latches}
use Rattle.txn_core.specs.Phases.{ArePhased}
use Rattle.txn_core.specs.Stepping.{HasMade, IsCause}
use Rattle.txn_core.specs.States.{IsWorld, IsKept}
use Rattle.txn_core.specs.Quiet.{KeepsWorld}
use Rattle.txn_core.proofs.Touching.{TouchesNone, touches_none, same_leaves}
use Rattle.txn_state.proofs.Given.{deletes_none}

-- ---- the book

-- an entry joined the history,
pub joins_to : {E : Type 0} (book later : Book E) (l : ℕ) (lane : Lane E) (e : Entry E) → l < length book.lanes.items →
    later ≡ with_history (book.history.items ++ e ∷ []) (with_lane book l lane None) → JoinsTo book later l lane e
joins_to book later l lane e lt is = subst (λ (b : Book _). JoinsTo book b l lane e) (sym is) (record {
  lanes = record {
    inside = lt;
    count = length-set book.lanes.items l lane;
    here = lane_at-same book l lane None lt;
    others = λ k ne. lane_at-other book l k lane None ne;
    blocks = refl;
  };
  items = refl;
  capacity = refl;
  next = refl;
})

-- or a transaction's number is drawn
pub has_begun : {E : Type 0} (book later : Book E) (l set : ℕ) → l < length book.lanes.items →
    later ≡ record (with_lane book l (begun_lane book.next_transaction set (length book.history.items) (lane_at book l)) None) { next_transaction = book.next_transaction + 1 } →
    HasLane book later l (begun_lane book.next_transaction set (length book.history.items) (lane_at book l))
has_begun book later l set lt is = subst (λ (b : Book _). HasLane book b l (begun_lane book.next_transaction set (length book.history.items) (lane_at book l))) (sym is) (record {
  inside = lt;
  count = length-set book.lanes.items l _;
  here = lane_at-same book l _ None lt;
  others = λ k ne. lane_at-other book l k _ None ne;
  blocks = refl;
})

-- ---- the world

-- Where every base's world is kept, and the faces change so, the step is one that makes no event.
pub quiet : {E : Type 0} (deeds : Deeds E) (layout : Layout) (book later : Book E) (keeper : LogKeeper) (region : Region) (spare : ℕ) (counts : Counts) (l : ℕ) (answer : Stepped) →
    ((base : Base) → IsWorld deeds layout base book keeper region spare counts.events → IsWorld deeds layout base later keeper region spare counts.events) →
    ((base : Base) → IsKept deeds layout base book keeper region spare counts → IsStep deeds (faces_of base book) (faces_of base later) l answer) →
    HasMade answer counts counts → (ArePhased book → ArePhased later) → IsCause layout book keeper counts l answer → TouchesNone book later →
    Latches layout book later keeper keeper l → KeepsWorld deeds layout book later keeper region spare counts l answer
quiet deeds layout book later keeper region spare counts l answer keeps face made phased cause touches latches = record {
  stays = λ base kept. ∥∥₁_map kept (keeps base);
  face = face;
  made = made;
  phased = phased;
  cause = cause;
  count = touches.count;
  touches = λ base kept. touches_none layout region region later.touched touches.none (same_leaves layout region region refl);
  latches = latches;
}

-- ---- a call is answered

-- no cell is promised to the lane
abbrev pub unpromised : {E : Type 0} → Lane E → Lane E
unpromised lane = record lane { promised = 0 }

cells_of : Bool → Bool → ℕ → ℕ → ℕ
cells_of recorded ended promised undo = promised + (if (recorded || not (promised == 0)) && not ended then undo else 0)

reserves_less : (recorded ended : Bool) (promised undo : ℕ) → cells_of recorded ended 0 undo ≤ cells_of recorded ended promised undo
unfolding cells_of
reserves_less true true promised undo = omega arith
reserves_less true false promised undo = omega arith
reserves_less false ended promised undo = omega arith

no_more_reserved : {E : Type 0} (lane : Lane E) → reserved_by (unpromised lane) ≤ reserved_by lane
unfolding cells_of
no_more_reserved lane = reserves_less lane.has_records lane.ended lane.promised (undo_cells lane)

-- Such a lane is that of the same transaction, but where it waits to append.
unpromised_of : {E : Type 0} (layout : Layout) (blocks : List Standing) (log newest : Log) (u : UnderWay) (p : ℕ) (lane : Lane E) (x : Txn) → stage_of lane ≢ Naming → due_by lane.doing ≡ 0 →
    IsLaneOf layout blocks log newest u p lane x → IsLaneOf layout blocks log newest u p (unpromised lane) x
unpromised_of layout blocks log newest u p lane x other none_due of = record {
  txn = record {
    number = of.txn.number;
    here = of.txn.here;
    writes = of.txn.writes;
    stored = of.txn.stored;
    zeroed = of.txn.zeroed;
    commits = of.txn.commits;
    updates = of.txn.updates;
    rolled = of.txn.rolled;
    ended = of.txn.ended;
    linked = of.txn.linked;
    point = of.txn.point;
    entry = of.txn.entry;
  };
  come = of.come;
  given = of.given;
  counts = of.counts;
  deleting = deletes_none layout u (unpromised lane) none_due;
  ends_ungiven = of.ends_ungiven;
  written_words = of.written_words;
  taking = of.taking;
  naming = λ is at. absurd (other is);
  recorded = of.recorded;
  begun = of.begun;
  has_some = of.has_some;
  uncompensated = of.uncompensated;
}

-- The call is answered, and what was promised to it isn't any more.
pub answers_keep : {E : Type 0} (layout : Layout) (start : Words) (book later : Book E) (keeper : LogKeeper) (region : Region) (spare events l : ℕ) (lane : Lane E) →
    stage_of (lane_at book l) ≢ Naming → due_by (lane_at book l).doing ≡ 0 → HasSameTransaction (unpromised (lane_at book l)) lane → GoesTo book later l lane → IsBook later →
    IsStateOf layout start book keeper region spare events → IsStateOf layout start later keeper region spare events
answers_keep layout start book later keeper region spare events l lane other none_due same goes kept state =
    goes_on layout start book later keeper keeper region region spare spare events events l (txn_at state.w.lanes l).number lane state state.opens (record {
      base = state.base;
      s = state.s;
      others = state.chains;
      v = state.w;
      has = goes.lanes;
      is_book = kept;
      entries = entries_stay book later l lane goes (same_entry book.history.items l (lane_at book l) lane same.committing same.entered same.entry same.begun (its_entry book l state.is_book.entries))
          (let e = joining_same (lane_at book l) lane same.committing same.entered in omega (arith, e)) state.is_book.entries;
      world = state.world;
      roomy = roomy_less layout book later region (reserved_less layout book later l lane goes.lanes
          (let e = reserved_by_same (unpromised (lane_at book l)) lane same.promised same.has_records same.ended same.rolled same.updates in
          let less = no_more_reserved (lane_at book l) in omega (arith, e, less))) state.roomy;
      beside = beside_same (layout_shape layout) l (txn_at state.w.lanes l).number state.s.log state.chains state.w;
      apart = apart_own (layout_shape layout) state.base state.s state.chains start state.w region l state.world;
      keeping = state.tied.keeping;
      next = state.tied.next;
      slots = same_slots keeper.slots.items;
      history = state.tied.history ∙ ap (λ h. map plain_entry h.items) (sym goes.history);
      held = state.tied.held;
      own = subst (λ bs. IsLaneOf layout bs state.s.log (newest_log state.w.keeping.ledger) (under_of (layout_shape layout) state.w l) (l % layout.partitions) lane (txn_at state.w.lanes l)) (sym goes.lanes.blocks)
          (lane_same layout book.blocks state.s.log (newest_log state.w.keeping.ledger) (under_of (layout_shape layout) state.w l) (l % layout.partitions) (unpromised (lane_at book l)) lane (txn_at state.w.lanes l) same
          (unpromised_of layout book.blocks state.s.log (newest_log state.w.keeping.ledger) (under_of (layout_shape layout) state.w l) (l % layout.partitions) (lane_at book l) (txn_at state.w.lanes l) other none_due
          (state.tied.each l inside)));
      owes = owes_of (layout_shape layout) state.chains later keeper state.w l lane goes.lanes.here
          (subst (λ st. (wants (layout_shape layout) state.chains state.w l st).events ≤ lane.owed_events) (sym same.stage)
          (subst (λ n. (wants (layout_shape layout) state.chains state.w l (stage_of (lane_at book l))).events ≤ n) (sym same.owed_events) owed.events))
          (subst (λ st. (wants (layout_shape layout) state.chains state.w l st).records ≤ lane.owed_records) (sym same.stage)
          (subst (λ n. (wants (layout_shape layout) state.chains state.w l (stage_of (lane_at book l))).records ≤ n) (sym same.owed_records) owed.records))
          (subst (λ st. HasRoomIn keeper.slots.items (l % layout.partitions) (wants (layout_shape layout) state.chains state.w l st).gates) (sym same.stage) owed.lists);
      stores = (let e = lane_sum_same (λ x. x.owed_events) book later l lane goes.lanes same.owed_events in let most = state.owing.stores in omega (arith, e, most));
      places = (let e = lane_sum_same (λ x. x.owed_records) book later l lane goes.lanes same.owed_records in let most = state.owing.places in omega (arith, e, most));
      fresh = subst (λ n. (txn_at state.w.lanes l).number < n) (sym goes.next) (state.tied.fresh l);
      risen = (let e = goes.next in omega (arith, e));
      numbered = numbers_stay layout.partitions book later l lane state.w state.w events events goes.lanes goes.next same.begun
          (let e = pending_same (lane_at book l) lane same.entered same.transaction in let c = same.commits in let b = same.begun in let was = state.numbered.commits l in omega (arith, e, c, b, was))
          state.numbered.records state.numbered;
    })
  where
    inside : l < length state.w.lanes
    inside = subst (λ n. l < n) (sym state.tied.lanes) goes.lanes.inside

    owed : OwesEnough (layout_shape layout) state.chains book keeper state.w l
    owed = state.owing.each l goes.lanes.inside
