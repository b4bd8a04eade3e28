-- A lane whose transaction is the same.
use Rattle.std.proofs.Common.{◌≡◌, ℕ, zero, suc, ◌+◌, ◌*◌, ◌%◌, ◌<◌, ◌≤◌, ◌==◌, not, nat_lt, ◌&&◌, if◌then◌else◌, List, length, map, reverse, refl, sym, ap, ◌∙◌, subst, arith}
use Rattle.std.specs.Prelude.{slice_get}
use Rattle.std.specs.List.{list_any}
use Rattle.persist_model.specs.Region.{Words, Region}
use Rattle.persist_model.specs.Records.{Log, IsAmong}
use Rattle.persist_model.specs.Shape.{Shape, heap}
use Rattle.region_layout.specs.declared.layout.Layout.{Layout}
use Rattle.region_layout.specs.Layout.{layout_shape}
use Rattle.lane_types.specs.Heaps.{names_in}
use Rattle.offset_alloc.specs.declared.Standing.{Standing}
use Rattle.lane_book.specs.declared.book.Book.{Book}
use Rattle.lane_book.specs.declared.lane.Lane.{Lane}
use Rattle.lane_book.specs.declared.lane.Doing.{Doing}
use Rattle.lane_book.specs.FacesOf.{lane_at}
use Rattle.lane_book.specs.Lanes.{has_room}
use Rattle.lane_book.specs.Refusals.{owner_number, block_in}
use Rattle.lane_book.specs.Reserved.{share_of, reserved_below}
use Rattle.log_keeper.specs.declared.keeper.LogKeeper.{LogKeeper}
use Rattle.log_keeper.specs.declared.slots.Slot.{Slot}
use Rattle.log_keeper.specs.Keeper.{KeepsSlots, HasRoomIn}
use Rattle.log_keeper.specs.Ledger.{newest_log}
use Rattle.history_laws.specs.UnderWay.{UnderWay}
use Rattle.txn_laws.specs.Txns.{Txn, txn_at, with_txn}
use Rattle.txn_laws.specs.Worlds.{World, with_lane}
use Rattle.txn_laws.proofs.Lanes.{with_here}
use Rattle.txn_state.specs.Stages.{Stage, stage_of}
use Rattle.txn_state.specs.Seen.{noticed}
use Rattle.txn_state.specs.Ties.{plain_write, plain_entry, AreCellsOf, is_lanes, IsTxnOf, TakesNext, IsCome, IsLaneOf, under_of}
use Rattle.txn_state.specs.Owing.{Needs, needs_at, records_noted, OwesEnough}
use Rattle.txn_state.specs.Numbers.{pending}
use Rattle.txn_state.specs.States.{IsStateOf, AreEntries, reserved_for}
use Rattle.txn_state.specs.QuietLaws.{HasSameTransaction, NotesKeep, MemoryIsTaken, PlacesAreTaken}
use Rattle.txn_state.proofs.Lanes.{lane_sum_same, reserved_less, reserved_by_same, roomy_less, its_entry, entries_stay, same_entry, joining_same}
use Rattle.txn_state.proofs.Steps.{numbers_stay, goes_on, beside_same, apart_own}
use Rattle.txn_state.proofs.Given.{given_same, deletes_same}

-- ---- what a lane's facts hang on

-- whether a word is of its blocks, on these
pub is_lanes_same : {E : Type 0} (layout : Layout) (blocks : List Standing) (lane later : Lane E) (a : ℕ) → later.held ≡ lane.held → later.gives.items ≡ lane.gives.items →
    is_lanes layout blocks later a ≡ is_lanes layout blocks lane a
is_lanes_same layout blocks lane later a held gives =
    λ i. not (nat_lt a (heap (layout_shape layout))) && (nat_lt a (heap (layout_shape layout) + 16 * layout.blocks) &&
    names_in (held i) (if list_any (λ given. block_in layout a == given) (gives i) then 0 else owner_number (slice_get blocks (block_in layout a))))

pub pending_same : {E : Type 0} (lane later : Lane E) → later.entered ≡ lane.entered → later.transaction ≡ lane.transaction → pending later ≡ pending lane
pending_same lane later entered transaction = λ i. if entered i then 0 else (if transaction i == 0 then 0 else 1)

-- what its take is to store
pub takes_same : {E : Type 0} (layout : Layout) (lane later : Lane E) → later.writes.items ≡ lane.writes.items → later.stored ≡ lane.stored →
    ((s k : ℕ) → later.doing ≡ Doing.Take s k → lane.doing ≡ Doing.Take s k) → TakesNext layout lane → TakesNext layout later
takes_same layout lane later writes stored takes next s k call = (λ i. slice_get (writes i) (stored i)) ∙ next s k (takes s k call)

-- the same transaction, with what is under way as it was
pub txn_same : {E : Type 0} (shape : Shape) (p : ℕ) (lane later : Lane E) (u : UnderWay) (x : Txn) → HasSameTransaction lane later → IsTxnOf shape p lane u x → IsTxnOf shape p later u x
txn_same shape p lane later u x same txn = record {
  number = txn.number ∙ sym same.transaction;
  here = txn.here;
  writes = txn.writes ∙ ap (map plain_write) (sym same.writes);
  stored = txn.stored ∙ sym same.stored;
  zeroed = txn.zeroed;
  commits = txn.commits ∙ sym same.committing;
  updates = subst (λ cells. AreCellsOf (reverse cells) (noticed shape p u x).updates) (sym same.updates) txn.updates;
  rolled = txn.rolled ∙ sym same.rolled;
  ended = txn.ended ∙ sym same.ended;
  linked = txn.linked;
  point = txn.point;
  entry = λ e is. txn.entry e (sym same.entry ∙ is);
}

pub lane_same : {E : Type 0} (layout : Layout) (blocks : List Standing) (log newest : Log) (u : UnderWay) (p : ℕ) (lane later : Lane E) (x : Txn) → HasSameTransaction lane later →
    IsLaneOf layout blocks log newest u p lane x → IsLaneOf layout blocks log newest u p later x
lane_same layout blocks log newest u p lane later x same of = record {
  txn = txn_same (layout_shape layout) p lane later u x same of.txn;
  come = subst (IsCome log u x) (sym same.stage) of.come;
  given = given_same layout blocks lane.held later.held lane.gives.items later.gives.items lane.gates.items later.gates.items (noticed (layout_shape layout) p u x).gifts
      (noticed (layout_shape layout) p u x).gifts x.words x.words same.held same.gives same.gates refl refl of.given;
  counts = ap length same.gives ∙ (of.counts ∙ ap (λ n. length x.gifts + n) (sym same.due));
  deleting = deletes_same layout u lane later same.gives_same same.gates same.gives same.promised same.gates_wait of.deleting;
  ends_ungiven = λ on. same.gives ∙ of.ends_ungiven (sym same.ending ∙ on);
  written_words = λ w m. of.written_words w (subst (λ ws. IsAmong ws w) same.writes m);
  taking = takes_same layout lane later same.writes same.stored same.takes of.taking;
  naming = λ is at. (let was = of.naming (sym same.stage ∙ is) (ap length (sym same.updates) ∙ (at ∙ same.stored)) in record {
    promised = subst (λ n. 2 ≤ n) (sym same.promised) was.promised;
    place = subst (has_room 1) (sym (same.waits (sym same.stage ∙ is))) was.place;
  });
  recorded = λ one on. same.has_records ∙ of.recorded one on;
  begun = λ recorded. of.begun (sym same.has_records ∙ recorded);
  has_some = λ one recorded on. of.has_some one (sym same.has_records ∙ recorded) on;
  uncompensated = λ unrolled. of.uncompensated (sym same.rolled ∙ unrolled);
}

-- it owes more, or less
pub owing_else : {E : Type 0} (layout : Layout) (blocks : List Standing) (log newest : Log) (u : UnderWay) (p : ℕ) (lane : Lane E) (x : Txn) (m n : ℕ) →
    IsLaneOf layout blocks log newest u p lane x → IsLaneOf layout blocks log newest u p (record lane { owed_events = m; owed_records = n }) x
owing_else layout blocks log newest u p lane x m n of = record {
  txn = record {
    number = of.txn.number;
    here = of.txn.here;
    writes = of.txn.writes;
    stored = of.txn.stored;
    zeroed = of.txn.zeroed;
    commits = of.txn.commits;
    updates = of.txn.updates;
    rolled = of.txn.rolled;
    ended = of.txn.ended;
    linked = of.txn.linked;
    point = of.txn.point;
    entry = of.txn.entry;
  };
  come = of.come;
  given = of.given;
  counts = of.counts;
  deleting = of.deleting;
  ends_ungiven = of.ends_ungiven;
  written_words = of.written_words;
  taking = of.taking;
  naming = λ is at. record { promised = (of.naming is at).promised; place = (of.naming is at).place };
  recorded = of.recorded;
  begun = of.begun;
  has_some = of.has_some;
  uncompensated = of.uncompensated;
}

-- ---- what lane l may want

abbrev pub wants : Shape → (ℕ → List ℕ) → World → ℕ → Stage → Needs
wants shape chains w l stage =
    needs_at shape (l % shape.partitions) (records_noted w (txn_at w.lanes l).number) (length (chains (l % shape.partitions))) (under_of shape w l) (txn_at w.lanes l) stage

-- it is what it owes, as the lane that it is
pub owes_of : {E : Type 0} (shape : Shape) (chains : ℕ → List ℕ) (book : Book E) (keeper : LogKeeper) (w : World) (l : ℕ) (lane : Lane E) → lane_at book l ≡ lane →
    (wants shape chains w l (stage_of lane)).events ≤ lane.owed_events → (wants shape chains w l (stage_of lane)).records ≤ lane.owed_records →
    HasRoomIn keeper.slots.items (l % shape.partitions) (wants shape chains w l (stage_of lane)).gates → OwesEnough shape chains book keeper w l
owes_of shape chains book keeper w l lane is events records lists = record {
  events = subst (λ x. (wants shape chains w l (stage_of x)).events ≤ x.owed_events) (sym is) events;
  records = subst (λ x. (wants shape chains w l (stage_of x)).records ≤ x.owed_records) (sym is) records;
  lists = subst (λ x. HasRoomIn keeper.slots.items (l % shape.partitions) (wants shape chains w l (stage_of x)).gates) (sym is) lists;
}

pub no_gates : (slots : List Slot) (p : ℕ) → HasRoomIn slots p 0
no_gates slots p x is = (omega arith, omega arith, omega arith)

pub same_slots : (slots : List Slot) → KeepsSlots slots slots
same_slots slots = record { count = refl; lists = λ p n lt has. has }

-- ---- the laws

pub notes_keep : {E : Type 0} → NotesKeep E
notes_keep layout start book later keeper region spare events l lane same goes kept state =
    goes_on layout start book later keeper keeper region region spare spare events events l (txn_at state.w.lanes l).number lane state state.opens (record {
      base = state.base;
      s = state.s;
      others = state.chains;
      v = state.w;
      has = goes.lanes;
      is_book = kept;
      entries = entries_stay book later l lane goes (same_entry book.history.items l (lane_at book l) lane same.committing same.entered same.entry same.begun (its_entry book l state.is_book.entries))
          (let e = joining_same (lane_at book l) lane same.committing same.entered in omega (arith, e)) state.is_book.entries;
      world = state.world;
      roomy = roomy_less layout book later region (reserved_less layout book later l lane goes.lanes
          (let e = reserved_by_same (lane_at book l) lane same.promised same.has_records same.ended same.rolled same.updates in omega (arith, e))) state.roomy;
      beside = beside_same (layout_shape layout) l (txn_at state.w.lanes l).number state.s.log state.chains state.w;
      apart = apart_own (layout_shape layout) state.base state.s state.chains start state.w region l state.world;
      keeping = state.tied.keeping;
      next = state.tied.next;
      slots = same_slots keeper.slots.items;
      history = state.tied.history ∙ ap (λ h. map plain_entry h.items) (sym goes.history);
      held = state.tied.held;
      own = subst (λ bs. IsLaneOf layout bs state.s.log (newest_log state.w.keeping.ledger) (under_of (layout_shape layout) state.w l) (l % layout.partitions) lane (txn_at state.w.lanes l)) (sym goes.lanes.blocks)
          (lane_same layout book.blocks state.s.log (newest_log state.w.keeping.ledger) (under_of (layout_shape layout) state.w l) (l % layout.partitions) (lane_at book l) lane (txn_at state.w.lanes l) same
          (state.tied.each l inside));
      owes = owes_of (layout_shape layout) state.chains later keeper state.w l lane goes.lanes.here
          (subst (λ st. (wants (layout_shape layout) state.chains state.w l st).events ≤ lane.owed_events) (sym same.stage)
          (subst (λ n. (wants (layout_shape layout) state.chains state.w l (stage_of (lane_at book l))).events ≤ n) (sym same.owed_events) owed.events))
          (subst (λ st. (wants (layout_shape layout) state.chains state.w l st).records ≤ lane.owed_records) (sym same.stage)
          (subst (λ n. (wants (layout_shape layout) state.chains state.w l (stage_of (lane_at book l))).records ≤ n) (sym same.owed_records) owed.records))
          (subst (λ st. HasRoomIn keeper.slots.items (l % layout.partitions) (wants (layout_shape layout) state.chains state.w l st).gates) (sym same.stage) owed.lists);
      stores = (let e = lane_sum_same (λ x. x.owed_events) book later l lane goes.lanes same.owed_events in let most = state.owing.stores in omega (arith, e, most));
      places = (let e = lane_sum_same (λ x. x.owed_records) book later l lane goes.lanes same.owed_records in let most = state.owing.places in omega (arith, e, most));
      fresh = subst (λ n. (txn_at state.w.lanes l).number < n) (sym goes.next) (state.tied.fresh l);
      risen = (let e = goes.next in omega (arith, e));
      numbered = numbers_stay layout.partitions book later l lane state.w state.w events events goes.lanes goes.next same.begun
          (let e = pending_same (lane_at book l) lane same.entered same.transaction in let c = same.commits in let b = same.begun in let was = state.numbered.commits l in omega (arith, e, c, b, was))
          state.numbered.records state.numbered;
    })
  where
    inside : l < length state.w.lanes
    inside = subst (λ n. l < n) (sym state.tied.lanes) goes.lanes.inside

    owed : OwesEnough (layout_shape layout) state.chains book keeper state.w l
    owed = state.owing.each l goes.lanes.inside

pub memory_is_taken : {E : Type 0} → MemoryIsTaken E
memory_is_taken layout start book later keeper taken region spare more events l m n stage goes kept takes stores places state =
    goes_on layout start book later keeper taken region region spare more events events l (txn_at state.w.lanes l).number (record (lane_at book l) { owed_events = m; owed_records = n }) state (subst (λ n. 1 ≤ n) (sym takes.number) state.opens) (record {
      base = state.base;
      s = state.s;
      others = state.chains;
      v = state.w;
      has = goes.lanes;
      is_book = kept;
      entries = entries_stay book later l (record (lane_at book l) { owed_events = m; owed_records = n }) goes
          (same_entry book.history.items l (lane_at book l) (record (lane_at book l) { owed_events = m; owed_records = n }) refl refl refl refl (its_entry book l state.is_book.entries)) (omega arith) state.is_book.entries;
      world = state.world;
      roomy = roomy_less layout book later region (reserved_less layout book later l (record (lane_at book l) { owed_events = m; owed_records = n }) goes.lanes (omega arith)) state.roomy;
      beside = beside_same (layout_shape layout) l (txn_at state.w.lanes l).number state.s.log state.chains state.w;
      apart = apart_own (layout_shape layout) state.base state.s state.chains start state.w region l state.world;
      keeping = state.tied.keeping ∙ sym takes.kept;
      next = state.tied.next ∙ sym takes.number;
      slots = takes.slots;
      history = state.tied.history ∙ ap (λ h. map plain_entry h.items) (sym goes.history);
      held = state.tied.held;
      own = subst (λ bs. IsLaneOf layout bs state.s.log (newest_log state.w.keeping.ledger) (under_of (layout_shape layout) state.w l) (l % layout.partitions)
          (record (lane_at book l) { owed_events = m; owed_records = n }) (txn_at state.w.lanes l)) (sym goes.lanes.blocks)
          (owing_else layout book.blocks state.s.log (newest_log state.w.keeping.ledger) (under_of (layout_shape layout) state.w l) (l % layout.partitions) (lane_at book l) (txn_at state.w.lanes l) m n
          (state.tied.each l (subst (λ k. l < k) (sym state.tied.lanes) goes.lanes.inside)));
      owes = owes_of (layout_shape layout) state.chains later taken state.w l (record (lane_at book l) { owed_events = m; owed_records = n }) goes.lanes.here
          (subst (λ st. (wants (layout_shape layout) state.chains state.w l st).events ≤ m) (sym stage) (omega arith))
          (subst (λ st. (wants (layout_shape layout) state.chains state.w l st).records ≤ n) (sym stage) (omega arith))
          (subst (λ st. HasRoomIn taken.slots.items (l % layout.partitions) (wants (layout_shape layout) state.chains state.w l st).gates) (sym stage) (no_gates taken.slots.items (l % layout.partitions)));
      stores = stores;
      places = places;
      fresh = subst (λ k. (txn_at state.w.lanes l).number < k) (sym goes.next) (state.tied.fresh l);
      risen = (let e = goes.next in omega (arith, e));
      numbered = numbers_stay layout.partitions book later l (record (lane_at book l) { owed_events = m; owed_records = n }) state.w state.w events events goes.lanes goes.next refl (state.numbered.commits l)
          state.numbered.records state.numbered;
    })

-- the history has room for more
module _ {E : Type 0} (layout : Layout) (start : Words) (book : Book E) (keeper : LogKeeper) (region : Region) (spare events c : ℕ) (more : book.history.capacity ≤ c)
    (state : IsStateOf layout start book keeper region spare events) where
  reserved_same : (q : ℕ) → reserved_for layout (record book { history = record book.history { capacity = c } }) q ≤ reserved_for layout book q
  reserved_same q = let same = below (length book.lanes.items) in omega (arith, same)
    where
      below : (n : ℕ) → reserved_below (record book { history = record book.history { capacity = c } }) layout.partitions q n ≡ reserved_below book layout.partitions q n
      below zero = refl
      below (suc n) = ap (λ m. m + share_of layout.partitions q n (lane_at book n)) (below n)

  abbrev roomier : Book E
  roomier = record book { history = record book.history { capacity = c } }

  entries_same : AreEntries roomier
  entries_same = record {
    others = state.is_book.entries.others;
    waits = state.is_book.entries.waits;
    joined = λ k commits entered. (let was = state.is_book.entries.joined k commits entered in record { entered = was.entered; out = was.out; mine = was.mine });
    places = (let was = state.is_book.entries.places in omega (arith, was, more));
  }

  has_places : IsStateOf layout start roomier keeper region spare events
  has_places = record {
    base = state.base;
    s = state.s;
    chains = state.chains;
    w = state.w;
    world = state.world;
    roomy = roomy_less layout book roomier region (λ q. reserved_same q) state.roomy;
    tied = record {
      keeping = state.tied.keeping;
      next = state.tied.next;
      slots = state.tied.slots;
      lanes = state.tied.lanes;
      history = state.tied.history;
      held = state.tied.held;
      each = state.tied.each;
      fresh = state.tied.fresh;
    };
    owing = record {
      each = λ k lt. record { events = (state.owing.each k lt).events; records = (state.owing.each k lt).records; lists = (state.owing.each k lt).lists };
      stores = state.owing.stores;
      places = state.owing.places;
    };
    numbered = record {
      records = state.numbered.records;
      transactions = state.numbered.transactions;
      some = state.numbered.some;
      begun = state.numbered.begun;
      commits = state.numbered.commits;
    };
    opens = state.opens;
    is_book = record {
      kept = state.is_book.kept;
      some = state.is_book.some;
      few = state.is_book.few;
      blocks = state.is_book.blocks;
      structures = state.is_book.structures;
      entries = entries_same;
    };
  }

pub places_are_taken : {E : Type 0} → PlacesAreTaken E
places_are_taken layout start book later keeper region spare events places state =
    subst (λ b. IsStateOf layout start b keeper region spare events) (sym places.is) (has_places layout start book keeper region spare events later.history.capacity places.no_less state)

-- where the lane has another transaction, and another thing under way
pub owes_with : {E : Type 0} (shape : Shape) (chains : ℕ → List ℕ) (later : Book E) (kept : LogKeeper) (w : World) (l : ℕ) (lane : Lane E) (u : UnderWay) (y : Txn) (stage : Stage) → l < length w.lanes →
    lane_at later l ≡ lane → stage_of lane ≡ stage → under_of shape w l ≡ u →
    (needs_at shape (l % shape.partitions) (records_noted w y.number) (length (chains (l % shape.partitions))) u y stage).events ≤ lane.owed_events →
    (needs_at shape (l % shape.partitions) (records_noted w y.number) (length (chains (l % shape.partitions))) u y stage).records ≤ lane.owed_records →
    HasRoomIn kept.slots.items (l % shape.partitions) (needs_at shape (l % shape.partitions) (records_noted w y.number) (length (chains (l % shape.partitions))) u y stage).gates →
    OwesEnough shape chains later kept (with_lane l y w) l
owes_with shape chains later kept w l lane u y stage lt is at under events records lists = owes_of shape chains later kept (with_lane l y w) l lane is
    (subst (λ (x : Needs). x.events ≤ lane.owed_events) (sym same) events) (subst (λ (x : Needs). x.records ≤ lane.owed_records) (sym same) records)
    (subst (λ (x : Needs). HasRoomIn kept.slots.items (l % shape.partitions) x.gates) (sym same) lists)
  where
    here : txn_at (with_txn l y w.lanes) l ≡ y
    here = with_here l y w.lanes lt

    same : wants shape chains (with_lane l y w) l (stage_of lane) ≡ needs_at shape (l % shape.partitions) (records_noted w y.number) (length (chains (l % shape.partitions))) u y stage
    same = λ i. needs_at shape (l % shape.partitions) (records_noted w (here i).number) (length (chains (l % shape.partitions))) (under i) (here i) (at i)
