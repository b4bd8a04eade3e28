-- A call that appends is asked.
use Rattle.std.proofs.Common.{◌≡◌, ◌≢◌, inl, inr, ℕ, ◌+◌, ◌*◌, ◌%◌, ◌<◌, ◌≤◌, ◌==◌, Bool, true, false, not, nat_lt, ◌&&◌, if◌then◌else◌, List, [], ◌∷◌, ◌++◌, length, map, reverse, None, Some, refl, sym, ap, ◌∙◌, subst, arith, length-append}
use Rattle.std.specs.List.{filter}
use Rattle.std.proofs.lemmas.Bool.Decides.{eqb_tells, nat_tests}
use Rattle.std.proofs.lemmas.Bool.{lt-ltb}
use Rattle.std.proofs.lemmas.List.{map-append, append-nil, length-reverse}
use Rattle.persist_model.specs.Region.{Words, Region}
use Rattle.persist_model.specs.Progress.{Write}
use Rattle.persist_model.specs.Records.{Record, IsAmong, HasNo, IsOf}
use Rattle.persist_model.specs.Shape.{heap, IsHeapWord}
use Rattle.log_laws.proofs.Needs.{has_of_true}
use Rattle.region_layout.specs.declared.cell.Cell.{Cell}
use Rattle.region_layout.specs.declared.layout.Layout.{Layout}
use Rattle.region_layout.specs.Layout.{layout_shape}
use Rattle.offset_alloc.specs.declared.Standing.{Standing}
use Rattle.lane_traits.specs.declared.draft.WordWrite.{WordWrite}
use Rattle.lane_types.specs.declared.call.Phase.{Phase}
use Rattle.lane_types.specs.declared.face.Entry.{Entry}
use Rattle.lane_book.specs.declared.book.Book.{Book}
use Rattle.lane_book.specs.declared.lane.Lane.{Lane}
use Rattle.lane_book.specs.declared.lane.Doing.{Doing}
use Rattle.lane_book.specs.FacesOf.{lane_at, is_of}
use Rattle.lane_book.specs.Books.{IsBook, ends as ends_call}
use Rattle.lane_book.specs.Refusals.{is_mine, block_in}
use Rattle.log_keeper.specs.declared.keeper.LogKeeper.{LogKeeper}
use Rattle.log_keeper.specs.Logged.{Keeping}
use Rattle.log_keeper.specs.Keeper.{keeping_of, HasRoomIn}
use Rattle.log_keeper.specs.Ledger.{newest_log}
use Rattle.log_keeper.specs.Listing.{gates_in}
use Rattle.log_keeper.proofs.Newest.{newest_logs_keep}
use Rattle.history_laws.specs.UnderWay.{nothing}
use Rattle.txn_laws.specs.Txns.{Txn, txn_at, with_txn, entry_of, zero_of}
use Rattle.txn_laws.specs.Owners.{IsMine}
use Rattle.txn_laws.specs.Asks.{asked}
use Rattle.txn_laws.specs.Rooms.{IsRoomy, sum_below}
use Rattle.txn_laws.specs.Worlds.{with_lane}
use Rattle.txn_laws.proofs.Lanes.{with_here}
use Rattle.txn_laws.proofs.Asking.{asks_keep}
use Rattle.txn_laws.proofs.Rooms.{asks_are_roomy, fewer_are_roomy}
use Rattle.txn_laws.proofs.Storing.{among_push}
use Rattle.txn_state.specs.declared.parts.TheConstants.{FIRST, END, CLOSE, CLOSE_END}
use Rattle.txn_state.specs.Stages.{Stage, Between, Leaving, Naming, Storing, Deleting, Securing, Opening, Ending, Closing, ClosingEnd, Dropping, stage_at, stage_of, is_commit}
use Rattle.txn_state.specs.Ties.{plain_write, plain_entry, AreCellsOf, is_lanes, IsCome, IsBetween, IsTxnOf, IsLaneOf, IsWrittenWord, TakesNext, AreGiftsOf, HasGiven, due_by, WaitsToAppend, waits, under_of}
use Rattle.txn_state.specs.Owing.{Needs, needs_at, append_most, records_noted, OwesEnough}
use Rattle.txn_state.specs.States.{is_joining, HasNoEntry, AreEntries, reserved_for, IsStateOf}
use Rattle.txn_state.specs.Changes.{GoesTo}
use Rattle.txn_state.specs.QuietLaws.{HasSameRecords, HasRoomForAsk, WritesAreAsked, ending_needs, AsksEnd, EndsAreAsked}
use Rattle.txn_state.proofs.Sums.{sums_few}
use Rattle.txn_state.proofs.Lanes.{lane_sum_same, roomy_less, entries_go, entries_stay}
use Rattle.txn_state.proofs.Steps.{numbers_stay, goes_on, beside_with, apart_own, held_with, own_with}
use Rattle.txn_state.proofs.Resting.{resting_of}
use Rattle.txn_state.proofs.StageSteps.{no_take, due_none, ends_by}
use Rattle.txn_state.proofs.HeapSteps.{written_heap}
use Rattle.txn_state.proofs.SameTransaction.{pending_same, owes_with, no_gates, same_slots}
use Rattle.txn_state.proofs.Given.{given_same, no_gifts, own_word, deletes_none}

-- ---- between its calls

no_commit_stage : (a b c d : Bool) → (if a then Securing else (if b then Ending else (if c then Closing else (if d then ClosingEnd else Dropping)))) ≡ Between → ⊥
no_commit_stage true b c d is = let e : Securing ≡ Between = is in cc
no_commit_stage false true c d is = let e : Ending ≡ Between = is in cc
no_commit_stage false false true d is = let e : Closing ≡ Between = is in cc
no_commit_stage false false false true is = let e : ClosingEnd ≡ Between = is in cc
no_commit_stage false false false false is = let e : Dropping ≡ Between = is in cc

pub between_no_commit : (phase : Phase) (recorded : Bool) (part : ℕ) (doing : Doing) → stage_at phase recorded part doing ≡ Between → is_commit doing ≡ false
between_no_commit phase recorded part Doing.Nothing is = refl
between_no_commit phase recorded part (Doing.Begin set) is = refl
between_no_commit phase recorded part (Doing.Read a) is = refl
between_no_commit phase recorded part (Doing.Write a v) is = refl
between_no_commit phase recorded part (Doing.Take s block) is = refl
between_no_commit phase recorded part (Doing.Give block) is = refl
between_no_commit phase true part Doing.Commit is = absurd (no_commit_stage (part == FIRST) (part == END) (part == CLOSE) (part == CLOSE_END) is)
between_no_commit phase false part Doing.Commit is = let e : Leaving ≡ Between = is in cc
between_no_commit phase recorded part Doing.Abort is = refl
between_no_commit phase recorded part Doing.Checkpoint is = refl
between_no_commit phase recorded part (Doing.Batch n) is = refl
between_no_commit phase recorded part Doing.Savepoint is = refl
between_no_commit phase recorded part (Doing.RollbackTo n) is = refl

-- a heap word of a block of the lane's is its word
word_of_lane : {E : Type 0} (layout : Layout) (blocks : List Standing) (lane : Lane E) (a : ℕ) → IsHeapWord (layout_shape layout) a → is_mine blocks lane (block_in layout a) ≡ true →
    is_lanes layout blocks lane a ≡ true
word_of_lane layout blocks lane a inside mine = rw (above, lt-ltb a (heap (layout_shape layout) + 16 * layout.blocks) inside.1, mine) refl
  where
    off : (m n : ℕ) → m ≤ n → nat_lt n m ≡ false
    off m n le = grind (arith, nat_tests, le)

    above : nat_lt a (heap (layout_shape layout)) ≡ false
    above = off (heap (layout_shape layout)) a inside.0

pub cells_count : (cells : List Cell) (updates : List Record) → AreCellsOf cells updates → length cells ≡ length updates
cells_count [] [] are = refl
cells_count [] (u ∷ updates) are = absurd are
cells_count (c ∷ cells) [] are = absurd are
cells_count (c ∷ cells) (u ∷ updates) are = let e = cells_count cells updates are.1 in omega (arith, e)

none_of_none : {A : Type 0} (xs : List A) → length xs ≡ 0 → xs ≡ []
none_of_none [] e = refl
none_of_none (x ∷ xs) e = absurd (omega (arith, e))

module _ {E : Type 0} (layout : Layout) (start : Words) (book later : Book E) (keeper : LogKeeper) (region : Region) (spare events l : ℕ) (lane : Lane E)
    (between : stage_of (lane_at book l) ≡ Between) (same : HasSameRecords (lane_at book l) lane) (more : List WordWrite) (commits : Bool)
    (writes : lane.writes.items ≡ (lane_at book l).writes.items ++ more) (commits_is : is_commit lane.doing ≡ commits)
    (goes : GoesTo book later l lane) (kept : IsBook later) (state : IsStateOf layout start book keeper region spare events) where
  abbrev before : Lane E
  before = lane_at book l

  abbrev x : Txn
  x = txn_at state.w.lanes l

  abbrev y : Txn
  y = asked (map plain_write more) commits (txn_at state.w.lanes l)

  inside : l < length state.w.lanes
  inside = subst (λ n. l < n) (sym state.tied.lanes) goes.lanes.inside

  few : length state.w.lanes ≤ 16
  few = subst (λ n. n ≤ 16) (sym state.tied.lanes) state.is_book.few

  come : IsBetween (under_of (layout_shape layout) state.w l) x
  come = subst (IsCome state.s.log (under_of (layout_shape layout) state.w l) x) between (state.tied.each l inside).come

  was : IsLaneOf layout book.blocks state.s.log (newest_log state.w.keeping.ledger) nothing (l % layout.partitions) before x
  was = subst (λ u. IsLaneOf layout book.blocks state.s.log (newest_log state.w.keeping.ledger) u (l % layout.partitions) before x) come.rests (state.tied.each l inside)

  mine_of_write : (w : WordWrite) → IsHeapWord (layout_shape layout) w.address → is_mine book.blocks before (block_in layout w.address) ≡ true → IsMine x w.address
  mine_of_write w inside own = own_word layout book.blocks before.held before.gives.items before.gates.items x.gifts x.words w.address was.given (word_of_lane layout book.blocks before w.address inside own)

  writes_there : x.writes ++ map plain_write more ≡ map plain_write lane.writes.items
  writes_there = ap (λ ws. ws ++ map plain_write more) was.txn.writes ∙ sym (map-append plain_write before.writes.items more) ∙ ap (map plain_write) (sym writes)

  txn_there : ((e : Entry E) → lane.entry ≡ Some e → plain_entry e ≡ entry_of y) → IsTxnOf (layout_shape layout) (l % layout.partitions) lane nothing y
  txn_there entry = record {
    number = was.txn.number ∙ sym same.transaction;
    here = was.txn.here;
    writes = writes_there;
    stored = was.txn.stored ∙ sym same.stored;
    zeroed = was.txn.zeroed;
    commits = sym commits_is;
    updates = subst (λ cells. AreCellsOf (reverse cells) x.updates) (sym same.updates) was.txn.updates;
    rolled = was.txn.rolled ∙ sym same.rolled;
    ended = was.txn.ended ∙ sym same.ended;
    linked = was.txn.linked;
    point = was.txn.point;
    entry = entry;
  }

  lane_there : IsCome state.s.log nothing y (stage_of lane) → ((e : Entry E) → lane.entry ≡ Some e → plain_entry e ≡ entry_of y) →
      ((w : WordWrite) → IsAmong lane.writes.items w → IsWrittenWord (layout_shape layout) w.address) → TakesNext layout lane → due_by lane.doing ≡ 0 → (ends_call lane.doing ≡ true → lane.gives.items ≡ []) →
      (stage_of lane ≡ Naming → WaitsToAppend lane) →
      IsLaneOf layout book.blocks state.s.log (newest_log state.w.keeping.ledger) nothing (l % layout.partitions) lane y
  lane_there at entry written_words taking none_due ungiven naming = record {
    txn = txn_there entry;
    come = at;
    given = given_same layout book.blocks before.held lane.held before.gives.items lane.gives.items before.gates.items lane.gates.items x.gifts x.gifts x.words x.words same.held same.gives same.gates
        refl refl was.given;
    counts = ap length same.gives ∙ (was.counts ∙ ap (λ n. length x.gifts + n)
        (due_none before.phase before.has_records before.part before.doing Between between (λ e. (let off : Between ≡ Deleting = e in cc)) ∙ sym none_due));
    deleting = deletes_none layout nothing lane none_due;
    ends_ungiven = ungiven;
    written_words = written_words;
    taking = taking;
    naming = λ is all. naming is;
    recorded = λ one on. same.has_records ∙ was.recorded one on;
    begun = λ on. was.begun (sym same.has_records ∙ on);
    has_some = λ one on runs. was.has_some one (sym same.has_records ∙ on) runs;
    uncompensated = λ unrolled. was.uncompensated (sym same.rolled ∙ unrolled);
  }

  goes_there : IsRoomy (layout_shape layout) region (reserved_for layout later) → AreEntries later → ((v : Write) → IsAmong (map plain_write more) v → IsMine x v.address) →
      IsLaneOf layout book.blocks state.s.log (newest_log state.w.keeping.ledger) nothing (l % layout.partitions) lane y →
      OwesEnough (layout_shape layout) state.chains later keeper (with_lane l y state.w) l → IsStateOf layout start later keeper region spare events
  goes_there roomy entries mine own owes = goes_on layout start book later keeper keeper region region spare spare events events l x.number lane state state.opens (record {
    base = state.base;
    s = state.s;
    others = state.chains;
    v = with_lane l y state.w;
    has = goes.lanes;
    is_book = kept;
    entries = entries;
    world = asks_keep (layout_shape layout) state.base state.s state.chains start state.w region l (map plain_write more) commits (record {
      lane = inside;
      runs = come.going.runs;
      resting = resting_of (layout_shape layout) state.base state.s state.chains start state.w region l state.world state.tied.held few inside come.rests;
      stored = (let all = come.written.stored_all in omega (arith, all));
      own = mine;
    }) state.world;
    roomy = roomy;
    beside = beside_with (layout_shape layout) l x.number state.s.log state.chains state.w y;
    apart = apart_own (layout_shape layout) state.base state.s state.chains start state.w region l state.world;
    keeping = state.tied.keeping;
    next = state.tied.next;
    slots = same_slots keeper.slots.items;
    history = state.tied.history ∙ ap (λ h. map plain_entry h.items) (sym goes.history);
    held = held_with (layout_shape layout) l y state.w state.tied.held;
    own = own_with layout book later l state.s.log state.w nothing lane y goes.lanes.blocks inside come.rests own;
    owes = owes;
    stores = (let e = lane_sum_same (λ x. x.owed_events) book later l lane goes.lanes same.owed_events in let most = state.owing.stores in omega (arith, e, most));
    places = (let e = lane_sum_same (λ x. x.owed_records) book later l lane goes.lanes same.owed_records in let most = state.owing.places in omega (arith, e, most));
    fresh = (let here : (txn_at (with_txn l y state.w.lanes) l).number ≡ x.number = ap (λ (z : Txn). z.number) (with_here l y state.w.lanes inside) in
        let less = state.tied.fresh l in let next = goes.next in omega (arith, here, less, next));
    risen = (let e = goes.next in omega (arith, e));
    numbered = numbers_stay layout.partitions book later l lane state.w (with_lane l y state.w) events events goes.lanes goes.next same.begun
        (let e = pending_same before lane same.entered same.transaction in let c = same.commits in let b = same.begun in let most = state.numbered.commits l in omega (arith, e, c, b, most))
        state.numbered.records state.numbered;
  })

  -- what it has a record for in the newest log is in the book
  no_record_of : lane.has_records ≡ false → HasNo (IsOf x.number) state.s.log
  no_record_of off r m of =
      let there : IsAmong (newest_log state.w.keeping.ledger) r = newest_logs_keep.settled state.w.keeping.ledger r (subst (λ log. IsAmong log r) state.world.log.logged.records m) in
      let on : before.has_records ≡ true = was.recorded come.going.some (has_of_true x.number (newest_log state.w.keeping.ledger) (r, there, of)) in
      let clash : true ≡ false = sym on ∙ (sym same.has_records ∙ off) in
      cc

  -- without a record it has written nothing
  no_write_of : lane.has_records ≡ false → x.writes ≡ []
  no_write_of off =
      let none = ((state.is_book.kept l).cells.fresh (sym same.has_records ∙ off)).0 in
      let cells = cells_count (reverse before.updates.items) x.updates was.txn.updates in
      let turned = length-reverse before.updates.items in
      let all = come.written.updates_all in
      none_of_none x.writes (omega (arith, none, cells, turned, all))

  entry_before : HasNoEntry before
  entry_before = state.is_book.entries.others l (between_no_commit before.phase before.has_records before.part before.doing between)

  count_updates : length x.updates ≡ length lane.updates.items
  count_updates =
      let cells = cells_count (reverse before.updates.items) x.updates was.txn.updates in
      let turned = length-reverse before.updates.items in
      let same_items = ap length same.updates in
      omega (arith, cells, turned, same_items)

  count_records : records_noted state.w x.number ≡ length (gates_in lane.transaction false (keeping_of keeper).ledger)
  count_records =
      ap (λ t. length (gates_in t false state.w.keeping.ledger)) (was.txn.number ∙ sym same.transaction) ∙
      ap (λ (k : Keeping). length (gates_in lane.transaction false k.ledger)) state.tied.keeping

-- ---- a write, or a take

-- The lane's call is to write one word more of its own, for which it owes enough.
pub record AsksWord {E : Type 0} (layout : Layout) (book : Book E) (l : ℕ) (write : WordWrite) (lane : Lane E) : Type 0 where
  pub between : stage_of (lane_at book l) ≡ Between
  pub naming : stage_of lane ≡ Naming
  pub same : HasSameRecords (lane_at book l) lane
  pub writes : lane.writes.items ≡ (lane_at book l).writes.items ++ write ∷ []
  pub entry : lane.entry ≡ None
  pub is_no_commit : is_commit lane.doing ≡ false
  pub word : IsWrittenWord (layout_shape layout) write.address
  pub taking : TakesNext layout lane
  pub own : is_mine book.blocks (lane_at book l) (block_in layout write.address) ≡ true
  pub waits : WaitsToAppend lane
  pub owes_events : append_most (layout_shape layout) + 1 ≤ lane.owed_events
  pub owes_record : 1 ≤ lane.owed_records

module _ {E : Type 0} (layout : Layout) (start : Words) (book later : Book E) (keeper : LogKeeper) (region : Region) (spare events l : ℕ) (write : WordWrite) (lane : Lane E)
    (asks : AsksWord layout book l write lane) (room : HasRoomForAsk layout book later region l) (goes : GoesTo book later l lane) (kept : IsBook later)
    (state : IsStateOf layout start book keeper region spare events) where
  abbrev z : Txn
  z = asked (plain_write write ∷ []) false (txn_at state.w.lanes l)

  going : IsBetween (under_of (layout_shape layout) state.w l) (txn_at state.w.lanes l)
  going = come layout start book later keeper region spare events l lane asks.between asks.same (write ∷ []) false asks.writes asks.is_no_commit goes kept state

  room_for : IsRoomy (layout_shape layout) region (reserved_for layout later)
  room_for = fewer_are_roomy (layout_shape layout) region (λ q. if q == l % layout.partitions then reserved_for layout later (l % layout.partitions) else reserved_for layout book q) (reserved_for layout later)
      (λ q lt. elim (eqb_tells q (l % layout.partitions)) [
        | inl e ↦ subst (λ b. reserved_for layout later q ≤ (if b then reserved_for layout later (l % layout.partitions) else reserved_for layout book q)) (sym e.0)
            (let same = ap (reserved_for layout later) e.1 in omega (arith, same))
        | inr ne ↦ subst (λ b. reserved_for layout later q ≤ (if b then reserved_for layout later (l % layout.partitions) else reserved_for layout book q)) (sym ne.0)
            (let same = room.elsewhere q ne.1 in omega (arith, same))
      ])
      (asks_are_roomy (layout_shape layout) state.base state.s state.chains start state.w region (reserved_for layout book) (l % layout.partitions) (reserved_for layout later (l % layout.partitions)) room.room
      room.words state.world room.newest room.is_room room.within state.roomy)

  entries_asked : AreEntries later
  entries_asked = entries_stay book later l lane goes (record {
    others = λ off. record { unentered = asks.same.entered ∙ (entry_before layout start book later keeper region spare events l lane asks.between asks.same (write ∷ []) false asks.writes asks.is_no_commit goes kept state).unentered; none = asks.entry };
    waits = λ on new. (let clash : true ≡ false = sym on ∙ asks.is_no_commit in cc);
    joined = λ on is. (let clash : true ≡ false = sym on ∙ asks.is_no_commit in cc);
  }) (let none : is_joining lane ≡ 0 = ap (λ b. if b && not lane.entered then 1 else 0) asks.is_no_commit in omega (arith, none)) state.is_book.entries

  naming_now : IsCome state.s.log nothing z (stage_of lane)
  naming_now = subst (IsCome state.s.log nothing z) (sym asks.naming) (record {
    going = record { some = going.going.some; runs = going.going.runs; unended = λ is. going.going.unended going.rests };
    last_waits = (let all = going.written.stored_all in let long = length-append (txn_at state.w.lanes l).writes (plain_write write ∷ []) in omega (arith, all, long));
    updates_are = going.written.updates_all ∙ sym going.written.stored_all;
    unrolled = going.written.unrolled;
    under_way = waits refl;
  })

  pub asks_word : IsStateOf layout start later keeper region spare events
  asks_word = goes_there layout start book later keeper region spare events l lane asks.between asks.same (write ∷ []) false asks.writes asks.is_no_commit goes kept state room_for entries_asked
      (λ v m. elim m [
        | inl e ↦ subst (λ (u : Write). IsMine (txn_at state.w.lanes l) u.address) (sym e)
            (mine_of_write layout start book later keeper region spare events l lane asks.between asks.same (write ∷ []) false asks.writes asks.is_no_commit goes kept state write (written_heap (layout_shape layout) write.address asks.word) asks.own)
        | inr none ↦ absurd none
      ])
      (lane_there layout start book later keeper region spare events l lane asks.between asks.same (write ∷ []) false asks.writes asks.is_no_commit goes kept state naming_now
      (λ e some. (let off : None ≡ Some e = sym asks.entry ∙ some in cc)) words_are asks.taking
      (due_none lane.phase lane.has_records lane.part lane.doing Naming asks.naming (λ e. (let off : Naming ≡ Deleting = e in cc)))
      (λ on. absurd (let off : false ≡ true = sym (ends_by lane.phase lane.has_records lane.part lane.doing Naming asks.naming) ∙ on in cc)) (λ is. asks.waits))
      (owes_with (layout_shape layout) state.chains later keeper state.w l lane nothing z Naming (subst (λ n. l < n) (sym state.tied.lanes) goes.lanes.inside) goes.lanes.here asks.naming going.rests
      asks.owes_events asks.owes_record (no_gates keeper.slots.items (l % layout.partitions)))
    where
      words_are : (w : WordWrite) → IsAmong lane.writes.items w → IsWrittenWord (layout_shape layout) w.address
      words_are w m = elim (among_push (lane_at book l).writes.items write w (subst (λ ws. IsAmong ws w) asks.writes m)) [
        | inl k ↦ (state.tied.each l (subst (λ n. l < n) (sym state.tied.lanes) goes.lanes.inside)).written_words w k
        | inr e ↦ subst (λ (u : WordWrite). IsWrittenWord (layout_shape layout) u.address) (sym e) asks.word
      ]

pub writes_are_asked : {E : Type 0} → WritesAreAsked E
writes_are_asked layout start book later keeper region spare events l write lane asks room goes kept state =
    asks_word layout start book later keeper region spare events l write lane (record {
      between = asks.between;
      naming = asks.naming;
      same = asks.same;
      writes = asks.writes;
      entry = asks.entry;
      is_no_commit = asks.is_no_commit;
      word = inl asks.data_word;
      taking = λ s k call. absurd (asks.is_no_take s k call);
      own = asks.own;
      waits = asks.waits;
      owes_events = asks.owes_events;
      owes_record = asks.owes_record;
    }) room goes kept state

-- ---- an end

module _ {E : Type 0} (layout : Layout) (start : Words) (book later : Book E) (keeper : LogKeeper) (region : Region) (spare events l : ℕ) (commits : Bool) (lane : Lane E)
    (asks : AsksEnd layout book keeper l commits lane) (less : (q : ℕ) → reserved_for layout later q ≤ reserved_for layout book q) (goes : GoesTo book later l lane) (kept : IsBook later)
    (state : IsStateOf layout start book keeper region spare events) where
  abbrev ends : Txn
  ends = asked [] commits (txn_at state.w.lanes l)

  writes_same : lane.writes.items ≡ (lane_at book l).writes.items ++ []
  writes_same = asks.writes ∙ sym (append-nil (lane_at book l).writes.items)

  now : IsBetween (under_of (layout_shape layout) state.w l) (txn_at state.w.lanes l)
  now = come layout start book later keeper region spare events l lane asks.between asks.same [] commits writes_same asks.commits_is goes kept state

  length_same : length ((txn_at state.w.lanes l).writes ++ []) ≡ length (txn_at state.w.lanes l).writes
  length_same = ap length (append-nil (txn_at state.w.lanes l).writes)

  between_now : IsBetween nothing ends
  between_now = record {
    rests = refl;
    going = record { some = now.going.some; runs = now.going.runs; unended = λ is. now.going.unended now.rests };
    written = record { stored_all = now.written.stored_all ∙ sym length_same; updates_all = now.written.updates_all ∙ sym length_same; unrolled = now.written.unrolled };
  }

  unwritten_now : lane.has_records ≡ false → ends.writes ≡ []
  unwritten_now off = append-nil (txn_at state.w.lanes l).writes ∙
      no_write_of layout start book later keeper region spare events l lane asks.between asks.same [] commits writes_same asks.commits_is goes kept state off

  -- the stage that it comes to, and that it owes enough there
  record ComesTo (stage : Stage) : Type 0 where
    at : stage_of lane ≡ stage
    far : IsCome state.s.log nothing ends stage
    no_naming : stage ≢ Naming
    no_storing : stage ≢ Storing
    no_deleting : stage ≢ Deleting
    events_are : (needs_at (layout_shape layout) (l % layout.partitions) (records_noted state.w ends.number) (length (state.chains (l % layout.partitions))) nothing ends stage).events ≤ lane.owed_events
    records_are : (needs_at (layout_shape layout) (l % layout.partitions) (records_noted state.w ends.number) (length (state.chains (l % layout.partitions))) nothing ends stage).records ≤ lane.owed_records
    lists_are : HasRoomIn keeper.slots.items (l % layout.partitions)
        (needs_at (layout_shape layout) (l % layout.partitions) (records_noted state.w ends.number) (length (state.chains (l % layout.partitions))) nothing ends stage).gates

  -- what it wants by the ask is what it wants by its stage
  owes_by : (stage : Stage) → (c : Bool) → commits ≡ c → stage_of lane ≡ stage → IsCome state.s.log nothing ends stage → stage ≢ Naming → stage ≢ Storing → stage ≢ Deleting →
      ending_needs (layout_shape layout) (records_noted state.w ends.number) (length ends.updates) c ≡
      needs_at (layout_shape layout) (l % layout.partitions) (records_noted state.w ends.number) (length (state.chains (l % layout.partitions))) nothing ends stage → ComesTo stage
  owes_by stage c is at far no_naming no_storing no_deleting same = record {
    at = at;
    far = far;
    no_naming = no_naming;
    no_storing = no_storing;
    no_deleting = no_deleting;
    events_are = subst (λ (x : Needs). x.events ≤ lane.owed_events) wanted asks.owes.0;
    records_are = subst (λ (x : Needs). x.records ≤ lane.owed_records) wanted asks.owes.1;
    lists_are = subst (λ (x : Needs). HasRoomIn keeper.slots.items (l % layout.partitions) x.gates) wanted asks.owes.2;
  }
    where
      records_same : length (gates_in lane.transaction false (keeping_of keeper).ledger) ≡ records_noted state.w ends.number
      records_same = sym (count_records layout start book later keeper region spare events l lane asks.between asks.same [] commits writes_same asks.commits_is goes kept state)

      updates_same : length lane.updates.items ≡ length ends.updates
      updates_same = sym (count_updates layout start book later keeper region spare events l lane asks.between asks.same [] commits writes_same asks.commits_is goes kept state)

      wanted : ending_needs (layout_shape layout) (length (gates_in lane.transaction false (keeping_of keeper).ledger)) (length lane.updates.items) commits ≡
          needs_at (layout_shape layout) (l % layout.partitions) (records_noted state.w ends.number) (length (state.chains (l % layout.partitions))) nothing ends stage
      wanted = (λ i. ending_needs (layout_shape layout) (records_same i) (updates_same i) (is i)) ∙ same

  comes_to : (recorded c : Bool) → lane.has_records ≡ recorded → commits ≡ c → (stage : Stage) × ComesTo stage
  comes_to true true on is = (Securing, owes_by Securing true is (asks.ends ∙ stage_is) between_now (λ e. (let f : Securing ≡ Naming = e in cc)) (λ e. (let f : Securing ≡ Storing = e in cc)) (λ e. (let f : Securing ≡ Deleting = e in cc)) refl)
    where
      stage_is : (if lane.has_records then (if commits then Securing else Opening) else Leaving) ≡ Securing
      stage_is = λ i. if on i then (if is i then Securing else Opening) else Leaving
  comes_to true false on is = (
    Opening,
    owes_by Opening false is (asks.ends ∙ stage_is) (record { going = between_now.going; written = between_now.written; under_way = waits refl })
        (λ e. (let f : Opening ≡ Naming = e in cc)) (λ e. (let f : Opening ≡ Storing = e in cc)) (λ e. (let f : Opening ≡ Deleting = e in cc)) refl,
  )
    where
      stage_is : (if lane.has_records then (if commits then Securing else Opening) else Leaving) ≡ Opening
      stage_is = λ i. if on i then (if is i then Securing else Opening) else Leaving
  comes_to false c off is = (
    Leaving,
    record {
      at = asks.ends ∙ (λ i. if off i then (if commits then Securing else Opening) else Leaving);
      far = record {
        between = between_now;
        unwritten = unwritten_now off;
        no_record = no_record_of layout start book later keeper region spare events l lane asks.between asks.same [] commits writes_same asks.commits_is goes kept state off;
      };
      no_naming = λ e. (let f : Leaving ≡ Naming = e in cc);
      no_storing = λ e. (let f : Leaving ≡ Storing = e in cc);
      no_deleting = λ e. (let f : Leaving ≡ Deleting = e in cc);
      events_are = omega arith;
      records_are = omega arith;
      lists_are = no_gates keeper.slots.items (l % layout.partitions);
    },
  )

  before_none : HasNoEntry (lane_at book l)
  before_none = entry_before layout start book later keeper region spare events l lane asks.between asks.same [] commits writes_same asks.commits_is goes kept state

  -- a commit's entry waits to join, and has a place
  entries_ended : (c : Bool) → commits ≡ c → AreEntries later
  entries_ended true is = entries_go book later l lane goes.lanes (λ k some. subst (λ h. filter (is_of k) h.items ≢ []) (sym goes.history) some) (record {
    others = λ off. (let clash : true ≡ false = sym is ∙ (sym asks.commits_is ∙ off) in cc);
    waits = λ on new. asks.entry_is is;
    joined = λ on entered. (let clash : false ≡ true = sym (asks.entry_is is).new ∙ entered in cc);
  }) (subst (λ h. length h.items + sum_below (λ k. is_joining (lane_at later k)) (length later.lanes.items) ≤ h.capacity) (sym goes.history)
      (let most = sums_few (λ k. is_joining (lane_at later k)) (length later.lanes.items) (λ k. one_at_most (lane_at later k)) in
      let place = asks.place is in let few = state.is_book.few in let count = goes.lanes.count in omega (arith, most, place, few, count))) state.is_book.entries
    where
      one_at_most : (a : Lane E) → is_joining a ≤ 1
      one_at_most a = by (is_commit a.doing && not a.entered)
        where
          by : (t : Bool) → (if t then 1 else 0) ≤ 1
          by true = omega arith
          by false = omega arith
  entries_ended false is = entries_stay book later l lane goes (record {
    others = λ off. record { unentered = asks.same.entered ∙ before_none.unentered; none = asks.no_entry is };
    waits = λ on new. (let clash : true ≡ false = sym on ∙ (asks.commits_is ∙ is) in cc);
    joined = λ on entered. (let clash : true ≡ false = sym on ∙ (asks.commits_is ∙ is) in cc);
  }) (let none : is_joining lane ≡ 0 = ap (λ b. if b && not lane.entered then 1 else 0) (asks.commits_is ∙ is) in omega (arith, none)) state.is_book.entries

  entry_there : (e : Entry E) → lane.entry ≡ Some e → plain_entry e ≡ entry_of ends
  entry_there e some = asks.entry e some ∙ (λ i. record { transaction = sym number i; writes = sym written_all i })
    where
      was_txn : IsTxnOf (layout_shape layout) (l % layout.partitions) (lane_at book l) nothing (txn_at state.w.lanes l)
      was_txn = (was layout start book later keeper region spare events l lane asks.between asks.same [] commits writes_same asks.commits_is goes kept state).txn

      number : ends.number ≡ lane.transaction
      number = was_txn.number ∙ sym asks.same.transaction

      was_given : HasGiven layout book.blocks (lane_at book l).held (lane_at book l).gives.items (lane_at book l).gates.items (txn_at state.w.lanes l).gifts (txn_at state.w.lanes l).words
      was_given = (was layout start book later keeper region spare events l lane asks.between asks.same [] commits writes_same asks.commits_is goes kept state).given

      none_given_there : (txn_at state.w.lanes l).gifts ≡ []
      none_given_there = no_gifts (layout_shape layout) (lane_at book l).gates.items (txn_at state.w.lanes l).gifts
          (subst (λ gs. AreGiftsOf (layout_shape layout) gs (lane_at book l).gates.items (txn_at state.w.lanes l).gifts) (sym asks.same.gives ∙ asks.no_gives) was_given.gifts_are)

      written_all : ends.writes ++ map zero_of ends.gifts ≡ map plain_write lane.writes.items
      written_all = ap (λ gs. ends.writes ++ map zero_of gs) none_given_there ∙ append-nil ends.writes ∙
          writes_there layout start book later keeper region spare events l lane asks.between asks.same [] commits writes_same asks.commits_is goes kept state

  asks_end : (to : (stage : Stage) × ComesTo stage) → IsStateOf layout start later keeper region spare events
  asks_end to = goes_there layout start book later keeper region spare events l lane asks.between asks.same [] commits writes_same asks.commits_is goes kept state
      (roomy_less layout book later region less state.roomy) (entries_ended commits refl) (λ v m. absurd m)
      (lane_there layout start book later keeper region spare events l lane asks.between asks.same [] commits writes_same asks.commits_is goes kept state
      (subst (IsCome state.s.log nothing ends) (sym to.1.at) to.1.far) entry_there
      (λ w m. (state.tied.each l inside_now).written_words w (subst (λ ws. IsAmong ws w) asks.writes m))
      (λ s k call. absurd (no_take lane.phase lane.has_records lane.part lane.doing to.0 s k call to.1.at to.1.no_naming to.1.no_storing))
      (due_none lane.phase lane.has_records lane.part lane.doing to.0 to.1.at to.1.no_deleting) (λ on. asks.no_gives) (λ is. absurd (to.1.no_naming (sym to.1.at ∙ is))))
      (owes_with (layout_shape layout) state.chains later keeper state.w l lane nothing ends to.0 inside_now goes.lanes.here to.1.at now.rests to.1.events_are to.1.records_are to.1.lists_are)
    where
      inside_now : l < length state.w.lanes
      inside_now = subst (λ n. l < n) (sym state.tied.lanes) goes.lanes.inside

pub ends_are_asked : {E : Type 0} → EndsAreAsked E
ends_are_asked layout start book later keeper region spare events l commits lane asks less goes kept state =
    asks_end layout start book later keeper region spare events l commits lane asks less goes kept state
    (comes_to layout start book later keeper region spare events l commits lane asks less goes kept state lane.has_records commits refl refl)
