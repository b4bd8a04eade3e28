-- What a lane stores to its own words, and its fences.
use Rattle.std.proofs.Common.{◌≡◌, ◌≢◌, ◌⊎◌, inl, inr, ℕ, suc, ◌+◌, ◌-◌, ◌%◌, ◌<◌, ◌≤◌, ◌==◌, Bool, true, false, not, ◌&&◌, ◌||◌, if◌then◌else◌, Some, List, [], ◌∷◌, length, reverse, refl, sym, ap, ◌∙◌, subst, arith}
use Rattle.std.specs.Prelude.{slice_get}
use Rattle.std.specs.Option.{option_map}
use Rattle.std.proofs.lemmas.Bool.Decides.{eqb_tells}
use Rattle.std.proofs.lemmas.List.{take_all, length-reverse}
use Rattle.std.proofs.lemmas.Option.{slice_get-map}
use Rattle.persist_model.specs.declared.event.Event.{Event}
use Rattle.persist_model.specs.declared.event.Event.TheVariants.{PStore, Fence}
use Rattle.persist_model.specs.Region.{Words, Region, after}
use Rattle.persist_model.specs.Progress.{Write, write, latest}
use Rattle.persist_model.specs.Records.{Record, Log}
use Rattle.persist_model.specs.Standing.{IsLatest}
use Rattle.persist_model.specs.Shape.{Shape, IsHeapWord}
use Rattle.persist_model.specs.State.{State}
use Rattle.log_laws.specs.Moves.{IsChangeBy}
use Rattle.region_layout.specs.declared.layout.Layout.{Layout}
use Rattle.region_layout.specs.declared.cell.Cell.{Cell}
use Rattle.region_layout.specs.Layout.{layout_shape}
use Rattle.lane_traits.specs.declared.draft.WordWrite.{WordWrite}
use Rattle.lane_types.specs.declared.call.Reply.{Reply}
use Rattle.lane_types.specs.declared.call.Phase.{Phase}
use Rattle.lane_types.specs.Faces.{phase_after}
use Rattle.lane_book.specs.declared.lane.Lane.{Lane}
use Rattle.lane_book.specs.declared.lane.Doing.TheVariants as Doing
use Rattle.lane_book.specs.declared.book.Book.{Book}
use Rattle.lane_book.specs.FacesOf.{lane_at}
use Rattle.lane_book.specs.Books.{IsBook}
use Rattle.lane_book.specs.Lanes.{moved, closed, stored_one}
use Rattle.lane_book.specs.Stores.{unstored_one}
use Rattle.lane_book.specs.Reserved.{undo_cells, reserved_by}
use Rattle.log_keeper.specs.declared.keeper.LogKeeper.{LogKeeper}
use Rattle.log_keeper.specs.declared.slots.Slot.{Slot}
use Rattle.log_keeper.specs.Parts.{Running}
use Rattle.log_keeper.specs.Keeper.{keeping_of, HasRoomIn}
use Rattle.log_keeper.specs.Ledger.{newest_log, settled_log}
use Rattle.history_laws.specs.Histories.{fold}
use Rattle.history_laws.specs.UnderWay.{UnderWay, nothing, run_of}
use Rattle.txn_laws.specs.Txns.{Txn, txn_at}
use Rattle.txn_laws.specs.AreTransactions.{recorded}
use Rattle.txn_laws.specs.PartsOf.{IsResting, IsPartIn}
use Rattle.txn_laws.specs.Worlds.{World, with_lane, IsWorldAt}
use Rattle.txn_laws.specs.Stores.{IsBetween, with_stored, with_fence}
use Rattle.txn_laws.specs.Rooms.{IsInHeap}
use Rattle.txn_laws.proofs.Lanes.{with_here}
use Rattle.txn_laws.proofs.Rooms.{heap_events_are_roomy}
use Rattle.txn_laws.proofs.Storing.{writes_are_stored as stores_world, writes_are_taken_back as takes_back_world, fences_keep as fences_world, among_got}
use Rattle.txn_state.specs.declared.parts.TheConstants.{UNDO, KEEP, END}
use Rattle.txn_state.specs.Seen.{under_by, noticed}
use Rattle.txn_state.specs.Stages.{Stage, Between, Naming, Storing, Deleting, Securing, Undoing, TakingBack, Keeping, Ending, idle_stage, stage_at, stage_of, is_commit}
use Rattle.txn_state.specs.Ties.{plain_write, owned, IsWrittenWord, AreCellsOf, IsTxnOf, IsGoingOn, IsBetween as IsBetweenCalls, IsStoring, IsTakingBack, IsKeeping, IsEndingIt, waits, IsCome, under_of, IsLaneOf, AreHeld, HasGiven}
use Rattle.txn_state.specs.Owing.{append_most, ending_left, undoing_left, needs_at, records_noted, OwesEnough}
use Rattle.txn_state.specs.Numbers.{pending}
use Rattle.txn_state.specs.States.{IsStateOf, reserved_for}
use Rattle.txn_state.specs.Changes.{GoesTo, paid_event}
use Rattle.txn_state.specs.AppendLaws.{undo_part}
use Rattle.txn_state.specs.HeapLaws.{WritesAreStored, TakesAreStored, WordsAreTakenBack, FencesKeep}
use Rattle.txn_state.proofs.Steps.{beside_with, held_with}
use Rattle.txn_state.proofs.SameTransaction.{same_slots}
use Rattle.txn_state.proofs.LaneSteps.{PaysEvent, steps_on}
use Rattle.txn_state.proofs.Lanes.{reserved_less, roomy_less}
use Rattle.txn_state.proofs.Making.{under_held}
use Rattle.txn_state.proofs.StageSteps.{call_at, stage_of_call, commits_it, aborts_it, storing_no_commit, due_none}
use Rattle.txn_state.proofs.Given.{deletes_none}

-- ---- what a lane owes, of plain values

pub record OwesIt {E : Type 0} (shape : Shape) (p n c : ℕ) (u : UnderWay) (x : Txn) (stage : Stage) (lane : Lane E) (slots : List Slot) : Type 0 where
  pub events : (needs_at shape p n c u x stage).events ≤ lane.owed_events
  pub records : (needs_at shape p n c u x stage).records ≤ lane.owed_records
  pub lists : HasRoomIn slots p (needs_at shape p n c u x stage).gates

pub owes_of : {E : Type 0} (shape : Shape) (chains : ℕ → List ℕ) (book : Book E) (keeper : LogKeeper) (w : World) (l : ℕ) (stage : Stage) → stage_of (lane_at book l) ≡ stage →
    OwesEnough shape chains book keeper w l →
    OwesIt shape (l % shape.partitions) (records_noted w (txn_at w.lanes l).number) (length (chains (l % shape.partitions))) (under_of shape w l) (txn_at w.lanes l) stage (lane_at book l) keeper.slots.items
owes_of shape chains book keeper w l stage is owes = subst (λ st. OwesIt shape (l % shape.partitions) (records_noted w (txn_at w.lanes l).number) (length (chains (l % shape.partitions))) (under_of shape w l)
    (txn_at w.lanes l) st (lane_at book l) keeper.slots.items) is (record { events = owes.events; records = owes.records; lists = owes.lists })

pub owes_to : {E : Type 0} (shape : Shape) (chains : ℕ → List ℕ) (book : Book E) (keeper : LogKeeper) (w : World) (l : ℕ) (lane : Lane E) (y : Txn) (u : UnderWay) (stage : Stage) →
    lane_at book l ≡ lane → txn_at w.lanes l ≡ y → under_of shape w l ≡ u → stage_of lane ≡ stage →
    OwesIt shape (l % shape.partitions) (records_noted w y.number) (length (chains (l % shape.partitions))) u y stage lane keeper.slots.items → OwesEnough shape chains book keeper w l
owes_to {E} shape chains book keeper w l lane y u stage lane_is txn_is under_is stage_is owes = (let o = back in record { events = o.events; records = o.records; lists = o.lists })
  where
    back : OwesIt shape (l % shape.partitions) (records_noted w (txn_at w.lanes l).number) (length (chains (l % shape.partitions))) (under_of shape w l) (txn_at w.lanes l) (stage_of (lane_at book l)) (lane_at book l)
        keeper.slots.items
    back = subst (λ (x : Lane E). OwesIt shape (l % shape.partitions) (records_noted w (txn_at w.lanes l).number) (length (chains (l % shape.partitions))) (under_of shape w l) (txn_at w.lanes l) (stage_of x) x
        keeper.slots.items) (sym lane_is)
        (subst (λ (z : Txn). OwesIt shape (l % shape.partitions) (records_noted w z.number) (length (chains (l % shape.partitions))) (under_of shape w l) z (stage_of lane) lane keeper.slots.items) (sym txn_is)
        (subst (λ v. OwesIt shape (l % shape.partitions) (records_noted w y.number) (length (chains (l % shape.partitions))) v y (stage_of lane) lane keeper.slots.items) (sym under_is)
        (subst (λ st. OwesIt shape (l % shape.partitions) (records_noted w y.number) (length (chains (l % shape.partitions))) u y st lane keeper.slots.items) (sym stage_is) owes)))

-- ---- a lane between its parts

pub resting_of : (shape : Shape) (s : State) (h : Words) (w : World) (l : ℕ) → l < 17 → AreHeld shape w → ((p : ℕ) → p < shape.partitions → IsPartIn shape s h w.keeping w.lanes p (w.under p)) →
    under_of shape w l ≡ nothing → IsResting shape w.keeping l
resting_of shape s h w l few held parts none p lt holds =
    ap (λ (r : Running). r.part) (parts p lt).run ∙ ap (λ u. (run_of u).part) (sym (under_held w p l holds) ∙ subst (λ q. under_by w q l ≡ nothing) here none)
  where
    here : l % shape.partitions ≡ p
    here = subst (λ k. k % shape.partitions ≡ p) holds (held.here p lt (λ e. (let no : 17 ≡ l = sym e ∙ holds in absurd (omega (arith, no, few)))))

-- ---- the state behind the event

-- What the event makes of the lane, whose transaction becomes y.
pub record IsHeapStep {E : Type 0} (layout : Layout) (start : Words) (book : Book E) (keeper : LogKeeper) (region : Region) (spare events l : ℕ) (e : Event)
    (state : IsStateOf layout start book keeper region spare events) (y : Txn) (lane : Lane E) (stage : Stage) : Type 0 where
  pub in_heap : IsInHeap (layout_shape layout) e
  pub world : IsWorldAt (layout_shape layout) state.base state.s state.chains start (with_lane l y state.w) (after region l e)
  pub number : y.number ≡ (txn_at state.w.lanes l).number
  pub rests : under_of (layout_shape layout) state.w l ≡ nothing
  pub stage_is : stage_of lane ≡ stage
  pub mine : IsLaneOf layout book.blocks state.s.log (newest_log state.w.keeping.ledger) nothing (l % layout.partitions) lane y
  pub owes : OwesIt (layout_shape layout) (l % layout.partitions) (records_noted state.w y.number) (length (state.chains (l % layout.partitions))) nothing y stage lane keeper.slots.items
  pub pays : PaysEvent (lane_at book l) lane

module _ {E : Type 0} (layout : Layout) (start : Words) (book later : Book E) (keeper : LogKeeper) (region : Region) (spare left events made l : ℕ) (e : Event)
    (state : IsStateOf layout start book keeper region spare events) (y : Txn) (lane : Lane E) (stage : Stage) (goes : GoesTo book later l lane) (kept : IsBook later)
    (spared : spare ≤ left + 1) (counted : made ≡ events + 1) (step : IsHeapStep layout start book keeper region spare events l e state y lane stage) where
  abbrev world_is : World
  world_is = with_lane l y state.w

  lane_inside : l < length state.w.lanes
  lane_inside = let lt = goes.lanes.inside in let same = state.tied.lanes in omega (arith, lt, same)

  txn_is : txn_at world_is.lanes l ≡ y
  txn_is = with_here l y state.w.lanes lane_inside

  pub state_behind : IsStateOf layout start later keeper (after region l e) left made
  state_behind = steps_on layout start book later keeper keeper region (after region l e) spare left events made l state state.base state.s state.chains world_is lane goes kept spared counted (record {
    world = step.world;
    roomy = roomy_less layout book later (after region l e) (reserved_less layout book later l lane goes.lanes step.pays.reserves)
        (heap_events_are_roomy (layout_shape layout) state.base state.s state.chains start state.w region (reserved_for layout book) l e step.in_heap state.world state.roomy);
    beside = beside_with (layout_shape layout) l (txn_at state.w.lanes l).number state.s.log state.chains state.w y;
    keeping = state.tied.keeping;
    next = state.tied.next;
    slots = same_slots keeper.slots.items;
    places = omega arith;
    history = refl;
    held = held_with (layout_shape layout) l y state.w state.tied.held;
    mine = subst (λ (x : Txn). IsLaneOf layout book.blocks state.s.log (newest_log state.w.keeping.ledger) (under_of (layout_shape layout) state.w l) (l % layout.partitions) lane x) (sym txn_is)
        (subst (λ u. IsLaneOf layout book.blocks state.s.log (newest_log state.w.keeping.ledger) u (l % layout.partitions) lane y) (sym step.rests) step.mine);
    owes = owes_to (layout_shape layout) state.chains later keeper world_is l lane y nothing stage goes.lanes.here txn_is step.rests step.stage_is step.owes;
    number = subst (λ n. n < book.next_transaction) (sym (ap (λ (x : Txn). x.number) txn_is ∙ step.number)) (state.tied.fresh l);
    next_same = refl;
    unpaid_same = refl;
    pays = step.pays;
  })

-- ---- the lane at rest

-- its transaction where nothing is under way
pub txn_rests : {E : Type 0} (shape : Shape) (p : ℕ) (lane : Lane E) (u : UnderWay) (x : Txn) → u ≡ nothing → IsTxnOf shape p lane u x → IsTxnOf shape p lane nothing x
txn_rests shape p lane u x none t = subst (λ v. IsTxnOf shape p lane v x) none t

same_count : (cells : List Cell) (updates : List Record) → AreCellsOf cells updates → length cells ≡ length updates
same_count [] [] each = refl
same_count [] (u ∷ updates) each = absurd each
same_count (c ∷ cells) [] each = absurd each
same_count (c ∷ cells) (u ∷ updates) each = ap suc (same_count cells updates each.1)

-- the lane has as many updates as its transaction
pub updates_alike : {E : Type 0} (shape : Shape) (p : ℕ) (lane : Lane E) (x : Txn) → IsTxnOf shape p lane nothing x → length lane.updates.items ≡ length x.updates
updates_alike shape p lane x t = sym (length-reverse lane.updates.items) ∙ same_count (reverse lane.updates.items) x.updates t.updates

pub le_same : (n : ℕ) → n ≤ n
le_same n = omega arith

pub less_one : (n o : ℕ) → n + 1 ≤ o → (o - 1) + 1 ≤ o
less_one n o le = omega arith

pub going_with : (x y : Txn) → y.number ≡ x.number → y.over ≡ x.over → y.ended ≡ x.ended → IsGoingOn nothing x → IsGoingOn nothing y
going_with x y number over ended going = record {
  some = subst (λ n. 1 ≤ n) (sym number) going.some;
  runs = over ∙ going.runs;
  unended = λ e. ended ∙ going.unended e;
}

-- the write that is stored or taken back
write_of : {E : Type 0} (shape : Shape) (p n k : ℕ) (lane : Lane E) (x : Txn) (w : WordWrite) → IsTxnOf shape p lane nothing x → k ≡ n → slice_get lane.writes.items k ≡ Some w →
    slice_get x.writes n ≡ Some (write w.address w.value)
write_of shape p n k lane x w t same got = ap (λ (ws : List Write). slice_get ws n) t.writes ∙ slice_get-map plain_write lane.writes.items n ∙ ap (option_map plain_write) (ap (slice_get lane.writes.items) (sym same) ∙ got)

-- it is of a word of the heap
pub written_heap : (shape : Shape) (a : ℕ) → IsWrittenWord shape a → IsHeapWord shape a
written_heap shape a (inl data_word) = data_word.0
written_heap shape a (inr plain) = let is = plain.3 in let below = plain.2 in (omega (arith, is), omega (arith, is, below))

-- ---- a fence

fenced_txn : {E : Type 0} (shape : Shape) (p part : ℕ) (lane : Lane E) (x : Txn) → IsTxnOf shape p lane nothing x → IsTxnOf shape p (moved part (paid_event lane)) nothing (with_fence x)
fenced_txn shape p part lane x t = record {
  number = t.number;
  here = t.here;
  writes = t.writes;
  stored = t.stored;
  zeroed = t.zeroed;
  commits = t.commits;
  updates = t.updates;
  rolled = t.rolled;
  ended = t.ended;
  linked = t.linked;
  point = t.point;
  entry = t.entry;
}

abbrev to_end : {E : Type 0} → Lane E → Lane E
to_end lane = moved END (paid_event lane)

-- what a fence makes of the lane
record IsFenced {E : Type 0} (shape : Shape) (p n c : ℕ) (lane : Lane E) (x : Txn) (slots : List Slot) : Type 0 where
  pub stage : stage_of (to_end lane) ≡ Ending
  pub ending : IsEndingIt nothing (with_fence x)
  pub owes : OwesIt shape p n c nothing (with_fence x) Ending (to_end lane) slots
  pub some : 1 ≤ lane.owed_events

secured : {E : Type 0} (shape : Shape) (p n c : ℕ) (lane : Lane E) (x : Txn) (slots : List Slot) → stage_of lane ≡ Securing → IsTxnOf shape p lane nothing x → IsBetweenCalls nothing x →
    OwesIt shape p n c nothing x Securing lane slots → IsFenced shape p n c lane x slots
secured shape p n c lane x slots at t between owes = record {
  stage = stage_of_call lane.phase lane.has_records END lane.doing Doing.Commit call.0 call.1;
  ending = record {
    going = going_with x (with_fence x) refl refl refl between.going;
    fenced = refl;
    stored_are = between.written.stored_all ∙ sym between.written.updates_all;
    commits_all = λ on. between.written.updates_all;
    undone_all = λ off. absurd (let e : true ≡ false = sym commits ∙ off in cc);
    rolled_is = λ off. absurd (let e : true ≡ false = sym commits ∙ off in cc);
    under_way = waits refl;
  };
  owes = record {
    events = (let o = owes.events in omega (arith, o));
    records = owes.records;
    lists = owes.lists;
  };
  some = (let o = owes.events in omega (arith, o));
}
  where
    call : (lane.has_records ≡ true) × (lane.doing ≡ Doing.Commit)
    call = commits_it lane.has_records lane.doing Securing refl (call_at lane.phase lane.has_records lane.part lane.doing Securing at refl)

    commits : x.commits ≡ true
    commits = t.commits ∙ ap is_commit call.1

kept_back : {E : Type 0} (shape : Shape) (p n c : ℕ) (lane : Lane E) (x : Txn) (slots : List Slot) → stage_of lane ≡ Keeping → IsTxnOf shape p lane nothing x → IsKeeping nothing x →
    OwesIt shape p n c nothing x Keeping lane slots → IsFenced shape p n c lane x slots
kept_back shape p n c lane x slots at t keeping owes = record {
  stage = stage_of_call lane.phase lane.has_records END lane.doing Doing.Abort call.0 call.1;
  ending = record {
    going = going_with x (with_fence x) refl refl refl keeping.going;
    fenced = refl;
    stored_are = keeping.none_stored ∙ sym (ap length keeping.none_left);
    commits_all = λ on. absurd (let e : true ≡ false = sym on ∙ commits in cc);
    undone_all = λ off. keeping.none_left;
    rolled_is = λ off. keeping.rolled;
    under_way = waits refl;
  };
  owes = record {
    events = (let o = owes.events in omega (arith, o));
    records = owes.records;
    lists = owes.lists;
  };
  some = (let o = owes.events in omega (arith, o));
}
  where
    call : (lane.has_records ≡ true) × (lane.doing ≡ Doing.Abort)
    call = aborts_it lane.has_records lane.doing Keeping refl (call_at lane.phase lane.has_records lane.part lane.doing Keeping at refl)

    commits : x.commits ≡ false
    commits = t.commits ∙ ap is_commit call.1

fence_step : {E : Type 0} (layout : Layout) (start : Words) (book later : Book E) (keeper : LogKeeper) (region : Region) (spare events l : ℕ) → l < 17 → l < length book.lanes.items →
    (state : IsStateOf layout start book keeper region spare events) → under_of (layout_shape layout) state.w l ≡ nothing →
    IsFenced (layout_shape layout) (l % layout.partitions) (records_noted state.w (txn_at state.w.lanes l).number) (length (state.chains (l % layout.partitions))) (lane_at book l) (txn_at state.w.lanes l)
    keeper.slots.items →
    IsHeapStep layout start book keeper region spare events l Fence state (with_fence (txn_at state.w.lanes l)) (to_end (lane_at book l)) Ending
fence_step layout start book later keeper region spare events l few inside state none fenced = record {
  in_heap = tt;
  world = fences_world (layout_shape layout) state.base state.s state.chains start state.w region l (record {
    lane = among;
    few = few;
    resting = resting_of (layout_shape layout) state.s (fold start state.w.history) state.w l few state.tied.held state.world.parts none;
  }) state.world;
  number = refl;
  rests = none;
  stage_is = fenced.stage;
  mine = record {
    txn = fenced_txn (layout_shape layout) (l % layout.partitions) END (lane_at book l) (txn_at state.w.lanes l)
        (txn_rests (layout_shape layout) (l % layout.partitions) (lane_at book l) (under_of (layout_shape layout) state.w l) (txn_at state.w.lanes l) none mine.txn);
    come = subst (IsCome state.s.log nothing (with_fence (txn_at state.w.lanes l))) (sym fenced.stage) fenced.ending;
    given = subst (λ u. HasGiven layout book.blocks (lane_at book l).held (lane_at book l).gives.items (lane_at book l).gates.items
        (noticed (layout_shape layout) (l % layout.partitions) u (txn_at state.w.lanes l)).gifts (txn_at state.w.lanes l).words) none mine.given;
    counts = mine.counts;
    deleting = λ k call. (tt, (mine.deleting k call).1);
    ends_ungiven = mine.ends_ungiven;
    written_words = mine.written_words;
    taking = mine.taking;
    naming = λ e. absurd (let f : Ending ≡ Naming = sym fenced.stage ∙ e in cc);
    recorded = mine.recorded;
    begun = mine.begun;
    has_some = mine.has_some;
    uncompensated = mine.uncompensated;
  };
  owes = fenced.owes;
  pays = record {
    events_less = less_one 0 (lane_at book l).owed_events fenced.some;
    records_less = le_same (lane_at book l).owed_records;
    reserves = le_same (reserved_by (lane_at book l));
    entry = inl (record { commit = refl; entered = refl; entry = refl; begun = refl });
    numbers = record { begun = refl; commits = le_same ((lane_at book l).commits + pending (lane_at book l)) };
  };
}
  where
    among : l < length state.w.lanes
    among = let same = state.tied.lanes in omega (arith, inside, same)

    mine : IsLaneOf layout book.blocks state.s.log (newest_log state.w.keeping.ledger) (under_of (layout_shape layout) state.w l) (l % layout.partitions) (lane_at book l) (txn_at state.w.lanes l)
    mine = state.tied.each l among

-- the lane's facts with its stage
module _ {E : Type 0} (layout : Layout) (start : Words) (book : Book E) (keeper : LogKeeper) (region : Region) (spare events l : ℕ) (inside : l < length book.lanes.items)
    (state : IsStateOf layout start book keeper region spare events) (stage : Stage) (at : stage_of (lane_at book l) ≡ stage) where
  pub lane_here : IsLaneOf layout book.blocks state.s.log (newest_log state.w.keeping.ledger) (under_of (layout_shape layout) state.w l) (l % layout.partitions) (lane_at book l) (txn_at state.w.lanes l)
  lane_here = state.tied.each l (let same = state.tied.lanes in omega (arith, inside, same))

  pub come_here : IsCome state.s.log (under_of (layout_shape layout) state.w l) (txn_at state.w.lanes l) stage
  come_here = subst (IsCome state.s.log (under_of (layout_shape layout) state.w l) (txn_at state.w.lanes l)) at lane_here.come

  module _ (none : under_of (layout_shape layout) state.w l ≡ nothing) where
    pub come_resting : IsCome state.s.log nothing (txn_at state.w.lanes l) stage
    come_resting = subst (λ u. IsCome state.s.log u (txn_at state.w.lanes l) stage) none come_here

    pub txn_resting : IsTxnOf (layout_shape layout) (l % layout.partitions) (lane_at book l) nothing (txn_at state.w.lanes l)
    txn_resting = txn_rests (layout_shape layout) (l % layout.partitions) (lane_at book l) (under_of (layout_shape layout) state.w l) (txn_at state.w.lanes l) none lane_here.txn

    pub given_resting : HasGiven layout book.blocks (lane_at book l).held (lane_at book l).gives.items (lane_at book l).gates.items (txn_at state.w.lanes l).gifts (txn_at state.w.lanes l).words
    given_resting = subst (λ u. HasGiven layout book.blocks (lane_at book l).held (lane_at book l).gives.items (lane_at book l).gates.items
        (noticed (layout_shape layout) (l % layout.partitions) u (txn_at state.w.lanes l)).gifts (txn_at state.w.lanes l).words) none lane_here.given

    pub owes_resting : OwesIt (layout_shape layout) (l % layout.partitions) (records_noted state.w (txn_at state.w.lanes l).number) (length (state.chains (l % layout.partitions))) nothing
        (txn_at state.w.lanes l) stage (lane_at book l) keeper.slots.items
    owes_resting = subst (λ u. OwesIt (layout_shape layout) (l % layout.partitions) (records_noted state.w (txn_at state.w.lanes l).number) (length (state.chains (l % layout.partitions))) u
        (txn_at state.w.lanes l) stage (lane_at book l) keeper.slots.items) none
        (owes_of (layout_shape layout) state.chains book keeper state.w l stage at (state.owing.each l inside))

pub fences_keep : {E : Type 0} → FencesKeep E
fences_keep layout start book later keeper region behind spare left events made l is at goes kept state =
    subst (λ r. IsStateOf layout start later keeper r left made) (sym is.cells) (by at)
  where
    step : (none : under_of (layout_shape layout) state.w l ≡ nothing) →
        IsFenced (layout_shape layout) (l % layout.partitions) (records_noted state.w (txn_at state.w.lanes l).number) (length (state.chains (l % layout.partitions))) (lane_at book l) (txn_at state.w.lanes l)
        keeper.slots.items →
        IsStateOf layout start later keeper (after region l Fence) left made
    step none fenced = state_behind layout start book later keeper region spare left events made l Fence state (with_fence (txn_at state.w.lanes l)) (to_end (lane_at book l)) Ending
        goes kept is.places is.counted (fence_step layout start book later keeper region spare events l is.inside goes.lanes.inside state none fenced)

    by : (stage_of (lane_at book l) ≡ Securing) ⊎ (stage_of (lane_at book l) ≡ Keeping) → IsStateOf layout start later keeper (after region l Fence) left made
    by (inl e) = (
        let come = come_here layout start book keeper region spare events l goes.lanes.inside state Securing e in
        step come.rests
        (secured (layout_shape layout) (l % layout.partitions) (records_noted state.w (txn_at state.w.lanes l).number) (length (state.chains (l % layout.partitions))) (lane_at book l) (txn_at state.w.lanes l)
        keeper.slots.items e
        (txn_resting layout start book keeper region spare events l goes.lanes.inside state Securing e come.rests)
        (come_resting layout start book keeper region spare events l goes.lanes.inside state Securing e come.rests)
        (owes_resting layout start book keeper region spare events l goes.lanes.inside state Securing e come.rests)))
    by (inr e) = (
        let come = come_here layout start book keeper region spare events l goes.lanes.inside state Keeping e in
        step come.rests
        (kept_back (layout_shape layout) (l % layout.partitions) (records_noted state.w (txn_at state.w.lanes l).number) (length (state.chains (l % layout.partitions))) (lane_at book l) (txn_at state.w.lanes l)
        keeper.slots.items e
        (txn_resting layout start book keeper region spare events l goes.lanes.inside state Keeping e come.rests)
        (come_resting layout start book keeper region spare events l goes.lanes.inside state Keeping e come.rests)
        (owes_resting layout start book keeper region spare events l goes.lanes.inside state Keeping e come.rests)))

-- ---- the needs of an abort

-- no update is left to undo
keep_events : (shape : Shape) (n k o : ℕ) → k ≡ 0 → 1 + (undoing_left shape k + (1 + ending_left shape (n + k))) ≤ o → 1 + ending_left shape n ≤ o - 1
keep_events shape n k o none le = plain (subst (λ j. 1 + (undoing_left shape j + (1 + ending_left shape (n + j))) ≤ o) none le)
  where
    plain : 1 + (undoing_left shape 0 + (1 + ending_left shape (n + 0))) ≤ o → 1 + ending_left shape n ≤ o - 1
    plain le = omega (arith, le)

no_more : (n k : ℕ) → k ≡ 0 → n + k + 1 ≡ n + 1
no_more n k none = omega arith

-- the newest update is undone, and then the others
undo_events : (shape : Shape) (n k o : ℕ) → 1 ≤ k → 1 + (undoing_left shape k + (1 + ending_left shape (n + k))) ≤ o →
    append_most shape + (1 + (undoing_left shape (k - 1) + (1 + ending_left shape (n + 1 + (k - 1))))) ≤ o - 1
undo_events shape n k o some le = plain (k - 1) (subst (λ j. 1 + (undoing_left shape j + (1 + ending_left shape (n + j))) ≤ o) next le)
  where
    next : k ≡ (k - 1) + 1
    next = omega (arith, some)

    plain : (m : ℕ) → 1 + (undoing_left shape (m + 1) + (1 + ending_left shape (n + (m + 1)))) ≤ o →
        append_most shape + (1 + (undoing_left shape m + (1 + ending_left shape (n + 1 + m)))) ≤ o - 1
    plain m le = omega (arith, le)

undo_records : (k o : ℕ) → 1 ≤ k → k + 1 ≤ o → 1 + ((k - 1) + 1) ≤ o
undo_records k o some le = omega (arith, some, le)

one_apart : (n k : ℕ) → 1 ≤ k → n + k + 1 ≡ n + 1 + (k - 1) + 1
one_apart n k some = omega (arith, some)

-- ---- the store of a write

abbrev answered : {E : Type 0} → Reply → Lane E → Lane E
answered reply lane = closed reply (stored_one (paid_event lane))

stored_txn : {E : Type 0} (shape : Shape) (p : ℕ) (reply : Reply) (lane : Lane E) (x : Txn) → is_commit lane.doing ≡ false → IsTxnOf shape p lane nothing x →
    IsTxnOf shape p (answered reply lane) nothing (with_stored (x.stored + 1) x)
stored_txn shape p reply lane x off t = record {
  number = t.number;
  here = t.here;
  writes = t.writes;
  stored = ap (λ n. n + 1) t.stored;
  zeroed = t.zeroed;
  commits = t.commits ∙ off;
  updates = t.updates;
  rolled = t.rolled;
  ended = t.ended;
  linked = t.linked;
  point = t.point;
  entry = t.entry;
}

-- the cells that a lane reserves, of plain values
abbrev pub cells_of : Bool → Bool → ℕ → ℕ → ℕ
cells_of recorded ended promised undo = promised + (if (recorded || not (promised == 0)) && not ended then undo else 0)

-- without promised cells it reserves no more
pub reserves_less : (recorded ended : Bool) (promised undo : ℕ) → cells_of recorded ended 0 undo ≤ cells_of recorded ended promised undo
reserves_less true true promised undo = omega arith
reserves_less true false promised undo = omega arith
reserves_less false ended promised undo = omega arith

pub pending_same : (b : Bool) (c m : ℕ) → b ≡ false → c + m ≤ c + (if b then 0 else m)
pending_same b c m off = let same : (if b then 0 else m) ≡ m = ap (λ d. if d then 0 else m) off in omega (arith, same)

module _ {E : Type 0} (layout : Layout) (start : Words) (book : Book E) (keeper : LogKeeper) (region : Region) (spare events l : ℕ) (few : l < 17) (inside : l < length book.lanes.items)
    (state : IsStateOf layout start book keeper region spare events) where
  abbrev shape_here : Shape
  shape_here = layout_shape layout

  abbrev part_here : ℕ
  part_here = l % layout.partitions

  abbrev x_here : Txn
  x_here = txn_at state.w.lanes l

  abbrev lane_now : Lane E
  lane_now = lane_at book l

  abbrev noted_here : ℕ
  noted_here = records_noted state.w x_here.number

  abbrev chain_here : ℕ
  chain_here = length (state.chains part_here)

  among : l < length state.w.lanes
  among = let same = state.tied.lanes in omega (arith, inside, same)

  between_parts : under_of shape_here state.w l ≡ nothing → IsBetween shape_here state.w l
  between_parts none = record { lane = among; few = few; resting = resting_of shape_here state.s (fold start state.w.history) state.w l few state.tied.held state.world.parts none }

  module _ (wr : WordWrite) (at : stage_of lane_now ≡ Storing) (got : slice_get lane_now.writes.items lane_now.stored ≡ Some wr) where
    storing : IsStoring (under_of shape_here state.w l) x_here
    storing = come_here layout start book keeper region spare events l inside state Storing at

    still : under_of shape_here state.w l ≡ nothing
    still = storing.rests

    storing_now : IsStoring nothing x_here
    storing_now = come_resting layout start book keeper region spare events l inside state Storing at still

    this_txn : IsTxnOf shape_here part_here lane_now nothing x_here
    this_txn = txn_resting layout start book keeper region spare events l inside state Storing at still

    owed : OwesIt shape_here part_here noted_here chain_here nothing x_here Storing lane_now keeper.slots.items
    owed = owes_resting layout start book keeper region spare events l inside state Storing at still

    mine : IsLaneOf layout book.blocks state.s.log (newest_log state.w.keeping.ledger) (under_of shape_here state.w l) part_here lane_now x_here
    mine = lane_here layout start book keeper region spare events l inside state Storing at

    no_commit : is_commit lane_now.doing ≡ false
    no_commit = storing_no_commit lane_now.phase lane_now.has_records lane_now.part lane_now.doing at

    next : slice_get (recorded x_here) x_here.stored ≡ Some (write wr.address wr.value)
    next = ap (λ (ws : List Write). slice_get ws x_here.stored) (take_all (length x_here.updates) x_here.writes (let all = storing.updates_all in omega (arith, all)))
        ∙ write_of shape_here part_here x_here.stored lane_now.stored lane_now x_here wr this_txn (sym this_txn.stored) got

    abbrev more : Txn
    more = with_stored (x_here.stored + 1) x_here

    between : IsBetweenCalls nothing more
    between = record {
      rests = refl;
      going = going_with x_here more refl refl refl storing_now.going;
      written = record { stored_all = storing.last_waits; updates_all = storing.updates_all; unrolled = storing.unrolled };
    }

    module _ (reply : Reply) (stays : phase_after reply ≡ Phase.In) where
      its_stage : stage_of (answered reply lane_now) ≡ Between
      its_stage = ap idle_stage stays

      pub store_step : IsHeapStep layout start book keeper region spare events l (PStore wr.address wr.value) state more (answered reply lane_now) Between
      store_step = record {
        in_heap = written_heap shape_here wr.address (mine.written_words wr (among_got lane_now.writes.items lane_now.stored wr got));
        world = stores_world shape_here state.base state.s state.chains start state.w region l wr.address wr.value storing.going.runs next (between_parts still) state.world;
        number = refl;
        rests = still;
        stage_is = its_stage;
        mine = record {
          txn = stored_txn shape_here part_here reply lane_now x_here no_commit this_txn;
          come = subst (IsCome state.s.log nothing more) (sym its_stage) between;
          given = given_resting layout start book keeper region spare events l inside state Storing at still;
          counts = mine.counts ∙ ap (λ n. length x_here.gifts + n) (due_none lane_now.phase lane_now.has_records lane_now.part lane_now.doing Storing at (λ e. (let off : Storing ≡ Deleting = e in cc)));
          deleting = deletes_none layout nothing (answered reply lane_now) refl;
          ends_ungiven = λ on. absurd (let off : false ≡ true = on in cc);
          written_words = mine.written_words;
          taking = λ s k call. absurd (let f : Doing.Nothing ≡ Doing.Take s k = call in cc);
          naming = λ e. absurd (let f : Between ≡ Naming = sym its_stage ∙ e in cc);
          recorded = mine.recorded;
          begun = mine.begun;
          has_some = mine.has_some;
          uncompensated = mine.uncompensated;
        };
        owes = record { events = omega arith; records = owed.records; lists = owed.lists };
        pays = record {
          events_less = less_one 0 lane_now.owed_events owed.events;
          records_less = le_same lane_now.owed_records;
          reserves = reserves_less lane_now.has_records lane_now.ended lane_now.promised (undo_cells lane_now);
          entry = inr (record { no_commit = refl; no_entry = record { unentered = refl; none = (state.is_book.entries.others l no_commit).none } });
          numbers = record {
            begun = refl;
            commits = pending_same lane_now.entered lane_now.commits (if lane_now.transaction == 0 then 0 else 1) (state.is_book.entries.others l no_commit).unentered;
          };
        };
      }

  -- ---- a word is taken back

  module _ (wr : WordWrite) (r : Record) (at : stage_of lane_now ≡ TakingBack) (got : slice_get lane_now.writes.items (lane_now.stored - 1) ≡ Some wr)
      (latest_is : IsLatest (IsChangeBy lane_now.transaction wr.address) (settled_log (keeping_of keeper).ledger) r) where
    taking : IsTakingBack (under_of shape_here state.w l) x_here
    taking = come_here layout start book keeper region spare events l inside state TakingBack at

    quiet : under_of shape_here state.w l ≡ nothing
    quiet = taking.rests

    taking_now : IsTakingBack nothing x_here
    taking_now = come_resting layout start book keeper region spare events l inside state TakingBack at quiet

    its_txn : IsTxnOf shape_here part_here lane_now nothing x_here
    its_txn = txn_resting layout start book keeper region spare events l inside state TakingBack at quiet

    it_owes : OwesIt shape_here part_here noted_here chain_here nothing x_here TakingBack lane_now keeper.slots.items
    it_owes = owes_resting layout start book keeper region spare events l inside state TakingBack at quiet

    its_lane : IsLaneOf layout book.blocks state.s.log (newest_log state.w.keeping.ledger) (under_of shape_here state.w l) part_here lane_now x_here
    its_lane = lane_here layout start book keeper region spare events l inside state TakingBack at

    aborts : (lane_now.has_records ≡ true) × (lane_now.doing ≡ Doing.Abort)
    aborts = aborts_it lane_now.has_records lane_now.doing TakingBack refl (call_at lane_now.phase lane_now.has_records lane_now.part lane_now.doing TakingBack at refl)

    abbrev fewer : Txn
    fewer = with_stored (length x_here.updates) x_here

    abbrev next_lane : Lane E
    next_lane = moved (undo_part lane_now) (unstored_one (paid_event lane_now))

    last_one : lane_now.stored - 1 ≡ length x_here.updates
    last_one = let one = taking.one_more in let same = its_txn.stored in omega (arith, one, same)

    value_is : r.after ≡ latest (recorded x_here) wr.address (fold start state.w.history wr.address)
    value_is = ((state.world.transactions.each l).going taking.going.runs).changed wr.address r
        (subst (λ n. IsLatest (IsChangeBy n wr.address) state.s.log r) (sym its_txn.number)
        (subst (λ (log : Log). IsLatest (IsChangeBy lane_now.transaction wr.address) log r)
        (sym (state.world.log.logged.records ∙ ap (λ k. settled_log k.ledger) state.tied.keeping)) latest_is))

    taken_txn : IsTxnOf shape_here part_here next_lane nothing fewer
    taken_txn = record {
      number = its_txn.number;
      here = its_txn.here;
      writes = its_txn.writes;
      stored = sym last_one;
      zeroed = its_txn.zeroed;
      commits = its_txn.commits;
      updates = its_txn.updates;
      rolled = its_txn.rolled;
      ended = its_txn.ended;
      linked = its_txn.linked;
      point = its_txn.point;
      entry = its_txn.entry;
    }

    back_step : (stage : Stage) → stage_of next_lane ≡ stage → stage ≢ Naming → IsCome state.s.log nothing fewer stage →
        OwesIt shape_here part_here noted_here chain_here nothing fewer stage next_lane keeper.slots.items →
        IsHeapStep layout start book keeper region spare events l (PStore wr.address r.after) state fewer next_lane stage
    back_step stage stage_is other come owes = record {
      in_heap = written_heap shape_here wr.address (its_lane.written_words wr (among_got lane_now.writes.items (lane_now.stored - 1) wr got));
      world = takes_back_world shape_here state.base state.s state.chains start state.w region l wr.address r.after wr.value taking.going.runs taking.one_more
          (write_of shape_here part_here (length x_here.updates) (lane_now.stored - 1) lane_now x_here wr its_txn last_one got) value_is (between_parts quiet) state.world;
      number = refl;
      rests = quiet;
      stage_is = stage_is;
      mine = record {
        txn = taken_txn;
        come = subst (IsCome state.s.log nothing fewer) (sym stage_is) come;
        given = given_resting layout start book keeper region spare events l inside state TakingBack at quiet;
        counts = its_lane.counts;
        deleting = λ k call. (tt, (its_lane.deleting k call).1);
        ends_ungiven = its_lane.ends_ungiven;
        written_words = its_lane.written_words;
        taking = λ s k call. absurd (let f : Doing.Abort ≡ Doing.Take s k = sym aborts.1 ∙ call in cc);
        naming = λ e. absurd (other (sym stage_is ∙ e));
        recorded = its_lane.recorded;
        begun = its_lane.begun;
        has_some = its_lane.has_some;
        uncompensated = its_lane.uncompensated;
      };
      owes = owes;
      pays = record {
        events_less = less_one 0 lane_now.owed_events (some_owed it_owes.events);
        records_less = le_same lane_now.owed_records;
        reserves = le_same (reserved_by lane_now);
        entry = inl (record { commit = refl; entered = refl; entry = refl; begun = refl });
        numbers = record { begun = refl; commits = le_same (lane_now.commits + pending lane_now) };
      };
    }
      where
        some_owed : 1 + (undoing_left shape_here (length x_here.updates) + (1 + ending_left shape_here (noted_here + length x_here.updates))) ≤ lane_now.owed_events → 1 ≤ lane_now.owed_events
        some_owed le = omega (arith, le)

    to_part : (part : ℕ) → undo_part lane_now ≡ part → stage_of next_lane ≡ stage_at lane_now.phase true part Doing.Abort
    to_part part is = ap (λ n. stage_at lane_now.phase lane_now.has_records n lane_now.doing) is ∙ stage_of_call lane_now.phase lane_now.has_records part lane_now.doing Doing.Abort aborts.0 aborts.1

    pub back_to_keep : length lane_now.updates.items ≡ 0 → undo_part lane_now ≡ KEEP → IsHeapStep layout start book keeper region spare events l (PStore wr.address r.after) state fewer next_lane Keeping
    back_to_keep none part = back_step Keeping (to_part KEEP part) (λ e. absurd (let f : Keeping ≡ Naming = e in cc))
        (record {
          rests = refl;
          going = going_with x_here fewer refl refl refl taking_now.going;
          rolled = taking.rolled;
          none_left = none_of x_here.updates empty;
          none_stored = empty;
        })
        (record {
          events = keep_events shape_here noted_here (length x_here.updates) lane_now.owed_events empty it_owes.events;
          records = (let o = it_owes.records in omega (arith, o));
          lists = subst (HasRoomIn keeper.slots.items part_here) (no_more noted_here (length x_here.updates) empty) it_owes.lists;
        })
      where
        empty : length x_here.updates ≡ 0
        empty = sym (updates_alike shape_here part_here lane_now x_here its_txn) ∙ none

        none_of : (xs : List Record) → length xs ≡ 0 → xs ≡ []
        none_of [] e = refl
        none_of (y ∷ xs) e = absurd (omega (arith, e))

    pub back_to_undo : 1 ≤ length lane_now.updates.items → undo_part lane_now ≡ UNDO → IsHeapStep layout start book keeper region spare events l (PStore wr.address r.after) state fewer next_lane Undoing
    back_to_undo some part = back_step Undoing (to_part UNDO part) (λ e. absurd (let f : Undoing ≡ Naming = e in cc))
        (record {
          going = going_with x_here fewer refl refl refl taking_now.going;
          rolled = taking.rolled;
          some = one;
          stored_are = refl;
          under_way = waits refl;
        })
        (record {
          events = undo_events shape_here noted_here (length x_here.updates) lane_now.owed_events one it_owes.events;
          records = undo_records (length x_here.updates) lane_now.owed_records one it_owes.records;
          lists = subst (HasRoomIn keeper.slots.items part_here) (one_apart noted_here (length x_here.updates) one) it_owes.lists;
        })
      where
        one : 1 ≤ length x_here.updates
        one = let same = updates_alike shape_here part_here lane_now x_here its_txn in omega (arith, same, some)

pub writes_are_stored : {E : Type 0} → WritesAreStored E
writes_are_stored layout start book later keeper region behind spare left events made l wr is at got goes kept state =
    subst (λ r. IsStateOf layout start later keeper r left made) (sym is.cells)
    (state_behind layout start book later keeper region spare left events made l (PStore wr.address wr.value) state
    (with_stored ((txn_at state.w.lanes l).stored + 1) (txn_at state.w.lanes l)) (answered Reply.Written (lane_at book l)) Between goes kept is.places is.counted
    (store_step layout start book keeper region spare events l is.inside goes.lanes.inside state wr at got Reply.Written refl))

pub takes_are_stored : {E : Type 0} → TakesAreStored E
takes_are_stored layout start book later keeper region behind spare left events made l s k is at call goes kept state =
    subst (λ r. IsStateOf layout start later keeper r left made) (sym is.cells)
    (state_behind layout start book later keeper region spare left events made l (PStore (owned layout s k).address (owned layout s k).value) state
    (with_stored ((txn_at state.w.lanes l).stored + 1) (txn_at state.w.lanes l)) (answered (Reply.Block k) (lane_at book l)) Between goes kept is.places is.counted
    (store_step layout start book keeper region spare events l is.inside goes.lanes.inside state (owned layout s k) at
    ((state.tied.each l (subst (λ n. l < n) (sym state.tied.lanes) goes.lanes.inside)).taking s k call) (Reply.Block k) refl))

pub words_are_taken_back : {E : Type 0} → WordsAreTakenBack E
words_are_taken_back layout start book later keeper region behind spare left events made l wr r is at got latest_is goes kept state =
    subst (λ z. IsStateOf layout start later keeper z left made) (sym is.cells) (elim (eqb_tells (length (lane_at book l).updates.items) 0) [
      | inl e ↦ state_behind layout start book later keeper region spare left events made l (PStore wr.address r.after) state
          (with_stored (length (txn_at state.w.lanes l).updates) (txn_at state.w.lanes l)) (moved (undo_part (lane_at book l)) (unstored_one (paid_event (lane_at book l)))) Keeping
          goes kept is.places is.counted
          (back_to_keep layout start book keeper region spare events l is.inside goes.lanes.inside state wr r at got latest_is e.1 (ap (λ b. if b then KEEP else UNDO) e.0))
      | inr ne ↦ state_behind layout start book later keeper region spare left events made l (PStore wr.address r.after) state
          (with_stored (length (txn_at state.w.lanes l).updates) (txn_at state.w.lanes l)) (moved (undo_part (lane_at book l)) (unstored_one (paid_event (lane_at book l)))) Undoing
          goes kept is.places is.counted
          (back_to_undo layout start book keeper region spare events l is.inside goes.lanes.inside state wr r at got latest_is (some_of (length (lane_at book l).updates.items) ne.1)
          (ap (λ b. if b then KEEP else UNDO) ne.0))
    ])
  where
    some_of : (n : ℕ) → n ≢ 0 → 1 ≤ n
    some_of n ne = omega (arith, ne)
