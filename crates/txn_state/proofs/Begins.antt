-- A transaction begins.
use Rattle.std.proofs.Common.{◌≡◌, ◌≢◌, ◌⊎◌, inl, inr, ℕ, zero, suc, ◌+◌, ◌*◌, ◌-◌, ◌%◌, ◌<◌, ◌≤◌, ◌^◌, ◌==◌, Bool, true, false, not, nat_lt, ◌&&◌, if◌then◌else◌, List, [], ◌∷◌, length, map, Option, None, Some, refl, sym, ap, ◌∙◌, subst, arith}
use Rattle.std.specs.Prelude.{slice_get}
use Rattle.std.specs.List.{filter, list_any}
use Rattle.std.proofs.lemmas.Bool.Decides.{nat_tests}
use Rattle.std.proofs.lemmas.Bool.{ltb-true}
use Rattle.persist_model.specs.Region.{Words, Region}
use Rattle.persist_model.specs.Records.{IsAmong, Log}
use Rattle.persist_model.specs.Need.{has_of}
use Rattle.persist_model.specs.Shape.{heap, IsHeapWord}
use Rattle.log_laws.proofs.Needs.{has_of_true}
use Rattle.log_laws.proofs.MoveRooms.{some_of}
use Rattle.region_layout.specs.declared.layout.Layout.{Layout}
use Rattle.region_layout.specs.Layout.{layout_shape}
use Rattle.offset_alloc.specs.declared.Standing.{Standing}
use Rattle.lane_types.specs.Heaps.{has_bit, names_in}
use Rattle.lane_book.specs.declared.book.Book.{Book}
use Rattle.lane_book.specs.declared.lane.Lane.{Lane}
use Rattle.lane_book.specs.declared.lane.Doing.{Doing}
use Rattle.lane_book.specs.FacesOf.{lane_at, is_of}
use Rattle.lane_book.specs.Lanes.{begun_lane}
use Rattle.lane_book.specs.Books.{IsBook}
use Rattle.lane_book.specs.Refusals.{owner_number, is_mine, block_in}
use Rattle.lane_book.specs.Reserved.{reserved_by}
use Rattle.log_keeper.specs.declared.keeper.LogKeeper.{LogKeeper}
use Rattle.log_keeper.specs.Ledger.{newest_log}
use Rattle.history_laws.specs.UnderWay.{nothing, UnderWay}
use Rattle.txn_laws.specs.Txns.{Txn, idle, txn_at, with_txn}
use Rattle.txn_laws.specs.Owners.{IsMine, IsNobodys}
use Rattle.txn_laws.specs.Worlds.{with_lane}
use Rattle.txn_laws.specs.Rooms.{sum_below}
use Rattle.txn_laws.specs.Beginnings.{begun, MayBegin}
use Rattle.txn_laws.proofs.Finding.{idle_none}
use Rattle.txn_laws.proofs.Lanes.{with_here}
use Rattle.txn_laws.proofs.Beginning.{begins_keep as begins_there}
use Rattle.txn_laws.proofs.NeedsRest.{newest_known}
use Rattle.txn_state.specs.Stages.{Free, Between, Naming, Deleting}
use Rattle.txn_state.specs.Ties.{plain_write, plain_entry, is_lanes, IsCome, IsLaneOf, under_of, due_by}
use Rattle.txn_state.specs.Numbers.{pending, IsNumbered}
use Rattle.txn_state.specs.States.{is_joining, AreEntries, IsStateOf}
use Rattle.txn_state.specs.Changes.{HasLane}
use Rattle.txn_state.specs.QuietLaws.{MayBegin as MayTake, BeginsKeep}
use Rattle.txn_state.proofs.Lanes.{by_lane, lane_sum, lane_sum_same, lane_sum_less, reserved_less, roomy_less, HasItsEntry, its_entry, entries_go}
use Rattle.txn_state.proofs.Steps.{goes_on, beside_with, held_with, txn_past, own_with}
use Rattle.txn_state.proofs.SameTransaction.{owes_of, no_gates, same_slots}
use Rattle.txn_state.proofs.Given.{StandsFor, stands_for, gates_counted, none_given, deletes_none}
use Rattle.txn_state.proofs.StageSteps.{due_none}
use Rattle.txn_state.specs.Seen.{noticed}
use Rattle.std.proofs.Math.Nat.{zero-add}

-- ---- whose a block is

and_both : (a b : Bool) → (a && b) ≡ true → (a ≡ true) × (b ≡ true)
and_both true b h = (refl, h)
and_both false b h = (let e : false ≡ true = h in cc)

-- a number that names a structure of the set is of an owned block
owner_of : (set : ℕ) (standing : Option Standing) → names_in set (owner_number standing) ≡ true → (s : ℕ) × (standing ≡ Some (Standing.Owned s)) × (has_bit set s ≡ true)
owner_of set None on = let e : false ≡ true = on in cc
owner_of set (Some Standing.Free) on = let e : false ≡ true = on in cc
owner_of set (Some Standing.Pending) on = let e : false ≡ true = on in cc
owner_of set (Some (Standing.Owned s)) on = (s, refl, subst (λ n. has_bit set n ≡ true) same (and_both (not (s + 1 == 0)) (has_bit set (s + 1 - 1)) on).1)
  where
    same : s + 1 - 1 ≡ s
    same = omega arith

-- a held structure owns the lane's blocks
pub mine_of : {E : Type 0} (blocks : List Standing) (lane : Lane E) (b : ℕ) → is_mine blocks lane b ≡ true →
    (s : ℕ) × (slice_get blocks b ≡ Some (Standing.Owned s)) × (has_bit lane.held s ≡ true)
mine_of blocks lane b on = by (list_any (λ given. b == given) lane.gives.items) on
  where
    by : (given : Bool) → names_in lane.held (if given then 0 else owner_number (slice_get blocks b)) ≡ true →
        (s : ℕ) × (slice_get blocks b ≡ Some (Standing.Owned s)) × (has_bit lane.held s ≡ true)
    by true is = let e : false ≡ true = is in cc
    by false is = owner_of lane.held (slice_get blocks b) is

-- a lane's word is a heap word of such a block
pub lanes_word : {E : Type 0} (layout : Layout) (blocks : List Standing) (lane : Lane E) (a : ℕ) → is_lanes layout blocks lane a ≡ true →
    IsHeapWord (layout_shape layout) a × (is_mine blocks lane (block_in layout a) ≡ true)
lanes_word layout blocks lane a on =
    let first = and_both (not (nat_lt a (heap (layout_shape layout)))) (nat_lt a (heap (layout_shape layout) + 16 * layout.blocks) && is_mine blocks lane (block_in layout a)) on in
    let second = and_both (nat_lt a (heap (layout_shape layout) + 16 * layout.blocks)) (is_mine blocks lane (block_in layout a)) first.1 in
    ((above a (heap (layout_shape layout)) first.0, ltb-true a (heap (layout_shape layout) + 16 * layout.blocks) second.0), second.1)
  where
    above : (m n : ℕ) → not (nat_lt m n) ≡ true → n ≤ m
    above m n h = grind (arith, nat_tests, h)

-- whose words are, by the block
pub lane_stands : {E : Type 0} (layout : Layout) (blocks : List Standing) (log newest : Log) (u : UnderWay) (p : ℕ) (lane : Lane E) (x : Txn) (a : ℕ) → IsLaneOf layout blocks log newest u p lane x →
    IsMine x a → StandsFor blocks lane.held (block_in layout a)
lane_stands layout blocks log newest u p lane x a of mine = stands_for layout blocks lane.held lane.gives.items lane.gates.items (noticed (layout_shape layout) p u x).gifts x.words a of.given
    (mine_of blocks lane (block_in layout a)) mine

-- ---- numbers of lists

length_none : {A : Type 0} (xs : List A) → length xs ≡ 0 → xs ≡ []
length_none [] e = refl
length_none (x ∷ xs) e = absurd (omega (arith, e))

no_writes : {A B : Type 0} (f : A → B) (xs : List A) → [] ≡ map f xs → xs ≡ []
no_writes f [] e = refl
no_writes f (x ∷ xs) e = cc

off_of : (b : Bool) → (b ≡ true → ⊥) → b ≡ false
off_of true never = absurd (never refl)
off_of false never = refl

pub lt_or_ge : (k n : ℕ) → (k < n) ⊎ (n ≤ k)
lt_or_ge k zero = inr (omega arith)
lt_or_ge zero (suc n) = inl (omega arith)
lt_or_ge (suc k) (suc n) = elim (lt_or_ge k n) [ inl lt ↦ inl (omega (arith, lt)) | inr le ↦ inr (omega (arith, le)) ]

pending_most : {E : Type 0} (lane : Lane E) → pending lane ≤ 1
pending_most lane = by lane.entered (lane.transaction == 0)
  where
    by : (a b : Bool) → (if a then 0 else (if b then 0 else 1)) ≤ 1
    by true b = omega arith
    by false true = omega arith
    by false false = omega arith

module _ {E : Type 0} (layout : Layout) (start : Words) (book later : Book E) (keeper : LogKeeper) (region : Region) (spare events l set : ℕ) (may : MayTake book l set)
    (has : HasLane book later l (begun_lane book.next_transaction set (length book.history.items) (lane_at book l))) (history : later.history ≡ book.history)
    (next : later.next_transaction ≡ book.next_transaction + 1) (kept : IsBook later) (state : IsStateOf layout start book keeper region spare events) where
  abbrev before : Lane E
  before = lane_at book l

  abbrev lane : Lane E
  lane = begun_lane book.next_transaction set (length book.history.items) (lane_at book l)

  abbrev y : Txn
  y = begun book.next_transaction (l % layout.partitions) (is_lanes layout book.blocks lane)

  inside : l < length state.w.lanes
  inside = subst (λ n. l < n) (sym state.tied.lanes) has.inside

  free_now : (txn_at state.w.lanes l ≡ idle) × (under_of (layout_shape layout) state.w l ≡ nothing)
  free_now = subst (IsCome state.s.log (under_of (layout_shape layout) state.w l) (txn_at state.w.lanes l)) may.free (state.tied.each l inside).come

  was : IsLaneOf layout book.blocks state.s.log (newest_log state.w.keeping.ledger) nothing (l % layout.partitions) before idle
  was = subst (λ u. IsLaneOf layout book.blocks state.s.log (newest_log state.w.keeping.ledger) u (l % layout.partitions) before idle) free_now.1
      (subst (λ x. IsLaneOf layout book.blocks state.s.log (newest_log state.w.keeping.ledger) (under_of (layout_shape layout) state.w l) (l % layout.partitions) before x) free_now.0 (state.tied.each l inside))

  unrecorded : before.has_records ≡ true → ⊥
  unrecorded on = let one : 1 ≤ 0 = was.begun on in omega (arith, one)

  no_gives : before.gives.items ≡ []
  no_gives = length_none before.gives.items (was.counts ∙ zero-add (due_by before.doing) ∙ due_none before.phase before.has_records before.part before.doing Free may.free (λ e. (let off : Free ≡ Deleting = e in cc)))

  none_gated : before.gates.items ≡ []
  none_gated = length_none before.gates.items (gates_counted (layout_shape layout) before.gives.items before.gates.items [] was.given.gifts_are)

  empty : before.writes.items ≡ []
  empty = no_writes plain_write before.writes.items was.txn.writes

  -- no record of the new transaction
  unknown : has_of book.next_transaction (newest_log state.w.keeping.ledger) ≡ true → ⊥
  unknown on =
      let some = some_of book.next_transaction (newest_log state.w.keeping.ledger) on in
      let known = newest_known (layout_shape layout) state.base state.s state.chains start state.w region state.world some.0 some.1 in
      let less = state.tied.fresh known.0 in
      let same : (txn_at state.w.lanes known.0).number ≡ book.next_transaction = sym known.2.0 ∙ some.2.0 in
      omega (arith, less, same)

  own : IsLaneOf layout book.blocks state.s.log (newest_log state.w.keeping.ledger) nothing (l % layout.partitions) lane y
  own = record {
    txn = record {
      number = refl;
      here = λ one. refl;
      writes = was.txn.writes;
      stored = was.txn.stored;
      zeroed = refl;
      commits = refl;
      updates = was.txn.updates;
      rolled = was.txn.rolled;
      ended = was.txn.ended;
      linked = tt;
      point = refl;
      entry = λ e some. (let off : None ≡ Some e = sym ((its_entry book l state.is_book.entries).others (sym was.txn.commits)).none ∙ some in cc);
    };
    come = record {
      rests = refl;
      going = record { some = state.numbered.some; runs = refl; unended = λ is. refl };
      written = record { stored_all = refl; updates_all = refl; unrolled = refl };
    };
    given = none_given layout book.blocks lane.held lane.gives.items lane.gates.items (is_lanes layout book.blocks lane) no_gives none_gated (λ a. refl);
    counts = ap length no_gives;
    deleting = deletes_none layout nothing lane refl;
    ends_ungiven = λ on. absurd (let off : false ≡ true = on in cc);
    written_words = λ w m. absurd (subst (λ ws. IsAmong ws w) empty m);
    taking = λ s k call. (let off : Doing.Nothing ≡ Doing.Take s k = call in cc);
    naming = λ naming at. (let off : Between ≡ Naming = naming in cc);
    recorded = λ one on. absurd (unknown on);
    begun = λ recorded. absurd (unrecorded recorded);
    has_some = λ one recorded on. absurd (unrecorded recorded);
    uncompensated = λ unrolled one on r m of. absurd (unknown (has_of_true book.next_transaction (newest_log state.w.keeping.ledger) (r, m, of.0)));
  }

  -- ---- its words are nobody's

  lane_has : (k a : ℕ) → k < length state.w.lanes → IsMine (txn_at state.w.lanes k) a → StandsFor book.blocks (lane_at book k).held (block_in layout a)
  lane_has k a lt mine = lane_stands layout book.blocks state.s.log (newest_log state.w.keeping.ledger) (under_of (layout_shape layout) state.w k) (k % layout.partitions) (lane_at book k)
      (txn_at state.w.lanes k) a (state.tied.each k lt) mine

  nobodys : (a : ℕ) → is_lanes layout book.blocks lane a ≡ true → IsNobodys state.w.lanes a
  nobodys a new k mine = elim (lt_or_ge k (length state.w.lanes)) [
    | inl lt ↦ (
        let mine_now = mine_of book.blocks lane (block_in layout a) (lanes_word layout book.blocks lane a new).1 in
        elim (lane_has k a lt mine) [
          | inl pending ↦ (let off : Some (Standing.Owned mine_now.0) ≡ Some Standing.Pending = sym mine_now.1 ∙ pending in cc)
          | inr theirs ↦ (
              let same : Some (Standing.Owned mine_now.0) ≡ Some (Standing.Owned theirs.0) = sym mine_now.1 ∙ theirs.1 in
              let one : mine_now.0 ≡ theirs.0 = cc in
              let loose : has_bit (lane_at book k).held mine_now.0 ≡ false = may.loose mine_now.0 (state.is_book.structures (block_in layout a) mine_now.0 mine_now.1) mine_now.2 k in
              let off : false ≡ true = sym loose ∙ ap (λ s. has_bit (lane_at book k).held s) one ∙ theirs.2 in
              cc)
        ])
    | inr le ↦ absurd (idle_none a (subst (λ x. IsMine x a) (txn_past state.w.lanes k le) mine))
  ]

  may_begin : MayBegin (layout_shape layout) state.w l book.next_transaction (is_lanes layout book.blocks lane)
  may_begin = record {
    lane = inside;
    free = free_now.0;
    some = state.numbered.some;
    fresh = λ k same. (let less = state.tied.fresh k in omega (arith, less, same));
    in_heap = λ a on. (lanes_word layout book.blocks lane a on).0;
    nobodys = nobodys;
  }

  -- ---- the book

  entry_there : HasItsEntry later.history.items l lane
  entry_there = record {
    others = λ off. record { unentered = refl; none = ((its_entry book l state.is_book.entries).others (sym was.txn.commits)).none };
    waits = λ on new. (let off : false ≡ true = on in cc);
    joined = λ on is. (let off : false ≡ true = on in cc);
  }

  entries : AreEntries later
  entries = entries_go book later l lane has (λ k some. subst (λ h. filter (is_of k) h.items ≢ []) (sym history) some) entry_there
      (subst (λ h. length h.items + sum_below (λ k. is_joining (lane_at later k)) (length later.lanes.items) ≤ h.capacity) (sym history)
      (let sum = lane_sum_less is_joining book later l lane has (omega arith) in let places = state.is_book.entries.places in omega (arith, sum, places))) state.is_book.entries

  less : reserved_by lane ≤ reserved_by before
  less = rw (off_of before.has_records unrecorded) (omega arith)

  counts : IsNumbered layout.partitions later (with_lane l y state.w) events
  counts = record {
    records = state.numbered.records;
    transactions = (let sum = lane_sum (λ x. x.begun) book later l lane has in let most = state.numbered.transactions in omega (arith, sum, most, next));
    some = (omega (arith, next));
    begun = by_lane (λ k x. x.begun ≤ 2 ^ 59) book later l lane has (let few = may.few in omega (arith, few)) (λ k ne. state.numbered.begun k);
    commits = by_lane (λ k x. x.commits + pending x ≤ x.begun) book later l lane has
        (let most = pending_most lane in let was = state.numbered.commits l in omega (arith, most, was)) (λ k ne. state.numbered.commits k);
  }

  begins : IsStateOf layout start later keeper region spare events
  begins = goes_on layout start book later keeper keeper region region spare spare events events l book.next_transaction lane state state.opens (record {
    base = state.base;
    s = state.s;
    others = state.chains;
    v = with_lane l y state.w;
    has = has;
    is_book = kept;
    entries = entries;
    world = begins_there (layout_shape layout) state.base state.s state.chains start state.w region l book.next_transaction (l % layout.partitions) (is_lanes layout book.blocks lane) may_begin state.world;
    roomy = roomy_less layout book later region (reserved_less layout book later l lane has less) state.roomy;
    beside = beside_with (layout_shape layout) l book.next_transaction state.s.log state.chains state.w y;
    apart = λ k ne one same. (let less = state.tied.fresh k in omega (arith, less, same));
    keeping = state.tied.keeping;
    next = state.tied.next;
    slots = same_slots keeper.slots.items;
    history = state.tied.history ∙ ap (λ h. map plain_entry h.items) (sym history);
    held = held_with (layout_shape layout) l y state.w state.tied.held;
    own = own_with layout book later l state.s.log state.w nothing lane y has.blocks inside free_now.1 own;
    owes = owes_of (layout_shape layout) state.chains later keeper (with_lane l y state.w) l lane has.here (omega arith) (omega arith) (no_gates keeper.slots.items (l % layout.partitions));
    stores = (let e = lane_sum_same (λ x. x.owed_events) book later l lane has refl in let most = state.owing.stores in omega (arith, e, most));
    places = (let e = lane_sum_same (λ x. x.owed_records) book later l lane has refl in let most = state.owing.places in omega (arith, e, most));
    fresh = (let here : (txn_at (with_txn l y state.w.lanes) l).number ≡ book.next_transaction = ap (λ (x : Txn). x.number) (with_here l y state.w.lanes inside) in omega (arith, here, next));
    risen = (omega (arith, next));
    numbered = counts;
  })

pub begins_keep : {E : Type 0} → BeginsKeep E
begins_keep layout start book later keeper region spare events l set may has history next kept state = begins layout start book later keeper region spare events l set may has history next kept state
