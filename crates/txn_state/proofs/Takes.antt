-- A take is asked: the words of its block come to the lane.
use Rattle.std.proofs.Common.{◌≡◌, ◌≢◌, inl, inr, ℕ, zero, suc, ◌+◌, ◌-◌, ◌*◌, ◌/◌, ◌%◌, ◌<◌, ◌≤◌, ◌==◌, not, nat_lt, ◌&&◌, ◌||◌, Bool, true, false, if◌then◌else◌, List, [], ◌∷◌, ◌++◌, length, slice_set, None, Some, refl, sym, ap, ◌∙◌, subst, arith}
use Rattle.std.specs.Prelude.{slice_get}
use Rattle.std.specs.List.{list_any}
use Rattle.std.proofs.lemmas.Bool.Decides.{eqb_tells}
use Rattle.std.proofs.lemmas.List.{length-map}
use Rattle.persist_model.specs.Region.{Words, Region}
use Rattle.persist_model.specs.Shape.{heap, block}
use Rattle.region_layout.specs.declared.layout.Layout.{Layout}
use Rattle.region_layout.specs.Layout.{layout_shape}
use Rattle.offset_alloc.specs.declared.Standing.{Standing}
use Rattle.offset_alloc.specs.Blocks.{IsFree}
use Rattle.lane_traits.specs.declared.draft.WordWrite.{WordWrite}
use Rattle.lane_types.specs.Heaps.{has_bit, names_in}
use Rattle.lane_book.specs.declared.book.Book.{Book}
use Rattle.lane_book.specs.declared.lane.Lane.{Lane}
use Rattle.lane_book.specs.declared.lane.Doing.{Doing}
use Rattle.lane_book.specs.FacesOf.{lane_at}
use Rattle.lane_book.specs.Books.{IsBook}
use Rattle.lane_book.specs.Refusals.{is_mine, block_in, owner_number, AreStructures}
use Rattle.log_keeper.specs.declared.keeper.LogKeeper.{LogKeeper}
use Rattle.log_keeper.specs.Ledger.{newest_log}
use Rattle.log_keeper.specs.Keeper.{HasRoomIn}
use Rattle.history_laws.specs.UnderWay.{nothing}
use Rattle.txn_laws.specs.Txns.{Txn, txn_at, with_txn}
use Rattle.txn_laws.specs.Owners.{IsMine, IsNobodys}
use Rattle.txn_laws.specs.Takes.{with_words, MayTake}
use Rattle.txn_laws.specs.Worlds.{with_lane}
use Rattle.txn_laws.proofs.Lanes.{with_here, with_other}
use Rattle.txn_laws.proofs.Taking.{takes_keep}
use Rattle.txn_state.specs.Stages.{Between, stage_of, is_commit}
use Rattle.txn_state.specs.Ties.{plain_write, is_lanes, is_in, is_given, IsGivenBlock, owned, IsBetween, IsCome, IsLaneOf, under_of}
use Rattle.txn_state.specs.Owing.{Needs, needs_at, records_noted, OwesEnough}
use Rattle.txn_state.specs.States.{IsStateOf}
use Rattle.txn_state.specs.Changes.{GoesTo, with_block}
use Rattle.txn_state.specs.QuietLaws.{HasRoomForAsk, AsksTake, TakesAreAsked}
use Rattle.txn_state.proofs.Resting.{resting_of}
use Rattle.txn_state.proofs.Steps.{count_with, txn_past}
use Rattle.txn_state.proofs.Lanes.{by_number}
use Rattle.txn_state.proofs.SameTransaction.{no_gates, owes_with}
use Rattle.txn_state.proofs.Begins.{lanes_word, lane_stands, lt_or_ge}
use Rattle.txn_state.proofs.BlocksGo.{length_set, got_same, got_other, unseen, mine_other, lanes_seen, reserved_restood, restands}
use Rattle.txn_state.proofs.Asks.{asks_word}
use Rattle.txn_state.proofs.Given.{given_among}

-- ---- blocks

free_within : (blocks : List Standing) (k : ℕ) → IsFree blocks k → k < length blocks
free_within [] k free = absurd (let off : None ≡ Some Standing.Free = free in cc)
free_within (x ∷ blocks) zero free = omega arith
free_within (x ∷ blocks) (suc k) free = let lt = free_within blocks k free in omega (arith, lt)

-- a block of a structure is as the lane's set has it
mine_owned : {E : Type 0} (blocks : List Standing) (lane : Lane E) (k s : ℕ) → slice_get blocks k ≡ Some (Standing.Owned s) → list_any (λ given. k == given) lane.gives.items ≡ false →
    is_mine blocks lane k ≡ has_bit lane.held s
mine_owned blocks lane k s is ungiven =
    (λ i. names_in lane.held (if ungiven i then 0 else owner_number (is i))) ∙ by s
  where
    no_zero : (n : ℕ) → (n + 1 == 0) ≡ false
    no_zero n = elim (eqb_tells (n + 1) 0) [ inl e ↦ (let is = e.1 in absurd (omega (arith, is))) | inr ne ↦ ne.0 ]

    back : (n : ℕ) → n + 1 - 1 ≡ n
    back n = omega arith

    by : (n : ℕ) → names_in lane.held (n + 1) ≡ has_bit lane.held n
    by n = λ i. not (no_zero n i) && has_bit lane.held (back n i)

-- of no structure of its set it isn't the lane's
mine_never : {E : Type 0} (blocks : List Standing) (lane : Lane E) (k s : ℕ) → slice_get blocks k ≡ Some (Standing.Owned s) → has_bit lane.held s ≡ false → is_mine blocks lane k ≡ false
mine_never blocks lane k s is off = by (list_any (λ given. k == given) lane.gives.items) refl
  where
    by : (t : Bool) → list_any (λ given. k == given) lane.gives.items ≡ t → is_mine blocks lane k ≡ false
    by true given = ap (λ b. names_in lane.held (if b then 0 else owner_number (slice_get blocks k))) given
    by false given = mine_owned blocks lane k s is given ∙ off

-- a word that it had or a word of the block
words_come : (a b m n t : Bool) → (t ≡ true → m ≡ false) → (t ≡ false → n ≡ m) → ((a && (b && m)) || ((a && (b && n)) && t)) ≡ (a && (b && n))
words_come false b m n t same other = refl
words_come true false m n t same other = refl
words_come true true true n true same other = absurd (let e : true ≡ false = same refl in cc)
words_come true true false true true same other = refl
words_come true true false false true same other = refl
words_come true true true n false same other = sym (other refl)
words_come true true false true false same other = absurd (let e : true ≡ false = other refl in cc)
words_come true true false false false same other = refl

both_is : (b c : Bool) → (b && c) ≡ true → (b ≡ true) × (c ≡ true)
both_is true c e = (refl, e)
both_is false c e = absurd (let f : false ≡ true = e in cc)

block_in_block : (layout : Layout) (k : ℕ) → block_in layout (block (layout_shape layout) k) ≡ k
block_in_block layout k = by (heap (layout_shape layout)) k
  where
    by : (h n : ℕ) → (h + 16 * n - h) / 16 ≡ n
    by h n = omega arith

module _ {E : Type 0} (layout : Layout) (start : Words) (book : Book E) (keeper : LogKeeper) (region : Region) (spare events l s k : ℕ) (lane : Lane E) (asks : AsksTake layout book l s k lane)
    (lt : l < length book.lanes.items) (state : IsStateOf layout start book keeper region spare events) where
  abbrev before : Lane E
  before = lane_at book l

  abbrev x : Txn
  x = txn_at state.w.lanes l

  abbrev blocks : List Standing
  blocks = slice_set book.blocks k (Standing.Owned s)

  abbrev words : ℕ → Bool
  words a = is_lanes layout (slice_set book.blocks k (Standing.Owned s)) (lane_at book l) a && (block_in layout a == k)

  abbrev y : Txn
  y = with_words (λ a. is_lanes layout (slice_set book.blocks k (Standing.Owned s)) (lane_at book l) a && (block_in layout a == k)) (txn_at state.w.lanes l)

  inside : l < length state.w.lanes
  inside = subst (λ n. l < n) (sym state.tied.lanes) lt

  few : length state.w.lanes ≤ 16
  few = subst (λ n. n ≤ 16) (sym state.tied.lanes) state.is_book.few

  come : IsBetween (under_of (layout_shape layout) state.w l) (txn_at state.w.lanes l)
  come = subst (IsCome state.s.log (under_of (layout_shape layout) state.w l) (txn_at state.w.lanes l)) asks.between (state.tied.each l inside).come

  was : IsLaneOf layout book.blocks state.s.log (newest_log state.w.keeping.ledger) nothing (l % layout.partitions) (lane_at book l) (txn_at state.w.lanes l)
  was = subst (λ u. IsLaneOf layout book.blocks state.s.log (newest_log state.w.keeping.ledger) u (l % layout.partitions) (lane_at book l) (txn_at state.w.lanes l)) come.rests (state.tied.each l inside)

  within : k < length book.blocks
  within = free_within book.blocks k asks.free

  standing : slice_get (slice_set book.blocks k (Standing.Owned s)) k ≡ Some (Standing.Owned s)
  standing = got_same book.blocks k (Standing.Owned s) within

  none_had : (j : ℕ) → is_mine book.blocks (lane_at book j) k ≡ false
  none_had j = unseen book.blocks (lane_at book j) k (ap owner_number asks.free)

  -- given blocks aren't free
  other_given : (j n : ℕ) → IsGivenBlock layout book.blocks n j → j ≢ k
  other_given j n was same = elim was.stands [
    | inl pending ↦ (let off : Some Standing.Free ≡ Some Standing.Pending = sym asks.free ∙ sym (ap (slice_get book.blocks) same) ∙ pending in cc)
    | inr has ↦ (let off : Some Standing.Free ≡ Some (Standing.Owned has.0) = sym asks.free ∙ sym (ap (slice_get book.blocks) same) ∙ has.1 in cc)
  ]

  given_still : (j n : ℕ) → IsGivenBlock layout book.blocks n j → IsGivenBlock layout (slice_set book.blocks k (Standing.Owned s)) n j
  given_still j n was = record {
    plain = was.plain;
    inside = was.inside;
    stands = elim was.stands [
      | inl pending ↦ inl (got_other book.blocks k j (Standing.Owned s) (other_given j n was) ∙ pending)
      | inr has ↦ inr (has.0, got_other book.blocks k j (Standing.Owned s) (other_given j n was) ∙ has.1, has.2)
    ];
  }

  own_come : (a : ℕ) → (is_lanes layout book.blocks (lane_at book l) a || words a) ≡ is_lanes layout (slice_set book.blocks k (Standing.Owned s)) (lane_at book l) a
  own_come a = words_come (not (nat_lt a (heap (layout_shape layout)))) (nat_lt a (heap (layout_shape layout) + 16 * layout.blocks)) (is_mine book.blocks (lane_at book l) (block_in layout a))
      (is_mine (slice_set book.blocks k (Standing.Owned s)) (lane_at book l) (block_in layout a)) (block_in layout a == k)
      (λ on. elim (eqb_tells (block_in layout a) k) [
        | inl e ↦ ap (is_mine book.blocks (lane_at book l)) e.1 ∙ none_had l
        | inr ne ↦ absurd (let f : true ≡ false = sym on ∙ ne.0 in cc)
      ])
      (λ off. elim (eqb_tells (block_in layout a) k) [
        | inl e ↦ absurd (let f : true ≡ false = sym e.0 ∙ off in cc)
        | inr ne ↦ mine_other book.blocks (lane_at book l) k (block_in layout a) (Standing.Owned s) ne.1
      ])

  words_are : (a : ℕ) → y.words a ≡ (is_lanes layout (slice_set book.blocks k (Standing.Owned s)) (lane_at book l) a || is_in layout (is_given (lane_at book l).gives.items) a)
  words_are a = ap (λ b. b || words a) (was.given.words_are a) ∙ or_third (is_lanes layout book.blocks (lane_at book l) a) (is_in layout (is_given (lane_at book l).gives.items) a) (words a) ∙
      ap (λ b. b || is_in layout (is_given (lane_at book l).gives.items) a) (own_come a)
    where
      or_third : (b c d : Bool) → ((b || c) || d) ≡ ((b || d) || c)
      or_third true c d = refl
      or_third false true true = refl
      or_third false true false = refl
      or_third false false true = refl
      or_third false false false = refl

  nobodys : (a : ℕ) → words a ≡ true → IsNobodys state.w.lanes a
  nobodys a new j mine = elim (lt_or_ge j (length state.w.lanes)) [
    | inl less ↦ (
        let at : (block_in layout a == k) ≡ true = (both_is (is_lanes layout (slice_set book.blocks k (Standing.Owned s)) (lane_at book l) a) (block_in layout a == k) new).1 in
        elim (eqb_tells (block_in layout a) k) [
          | inl e ↦ (
              let free : slice_get book.blocks (block_in layout a) ≡ Some Standing.Free = ap (slice_get book.blocks) e.1 ∙ asks.free in
              elim (lane_stands layout book.blocks state.s.log (newest_log state.w.keeping.ledger) (under_of (layout_shape layout) state.w j) (j % layout.partitions) (lane_at book j) (txn_at state.w.lanes j) a
              (state.tied.each j less) mine) [
                | inl pending ↦ (let f : Some Standing.Free ≡ Some Standing.Pending = sym free ∙ pending in cc)
                | inr has ↦ (let f : Some Standing.Free ≡ Some (Standing.Owned has.0) = sym free ∙ has.1 in cc)
              ])
          | inr ne ↦ (let f : true ≡ false = sym at ∙ ne.0 in cc)
        ])
    | inr le ↦ (let f : false ≡ true = subst (λ z. IsMine z a) (txn_past state.w.lanes j le) mine in cc)
  ]

  may_take : MayTake (layout_shape layout) state.w l words
  may_take = record {
    lane = inside;
    resting = resting_of (layout_shape layout) state.base state.s state.chains start state.w region l state.world state.tied.held few inside come.rests;
    in_heap = λ a new. (lanes_word layout (slice_set book.blocks k (Standing.Owned s)) (lane_at book l) a
        (both_is (is_lanes layout (slice_set book.blocks k (Standing.Owned s)) (lane_at book l) a) (block_in layout a == k) new).0).0;
    nobodys = nobodys;
  }

  structures : AreStructures (slice_set book.blocks k (Standing.Owned s))
  structures b n is = elim (eqb_tells b k) [
    | inl e ↦ (let same : Some (Standing.Owned s) ≡ Some (Standing.Owned n) = sym standing ∙ subst (λ j. slice_get (slice_set book.blocks k (Standing.Owned s)) j ≡ Some (Standing.Owned n)) e.1 is in
        let one : s ≡ n = cc in subst (λ j. j < 8) one asks.structure)
    | inr ne ↦ state.is_book.structures b n (sym (got_other book.blocks k b (Standing.Owned s) ne.1) ∙ is)
  ]

  own : IsLaneOf layout (slice_set book.blocks k (Standing.Owned s)) state.s.log (newest_log state.w.keeping.ledger) nothing (l % layout.partitions) (lane_at book l) y
  own = let t = was.txn in record {
    txn = record {
      number = t.number;
      here = t.here;
      writes = t.writes;
      stored = t.stored;
      zeroed = t.zeroed;
      commits = t.commits;
      updates = t.updates;
      rolled = t.rolled;
      ended = t.ended;
      linked = t.linked;
      point = t.point;
      entry = t.entry;
    };
    come = subst (IsCome state.s.log nothing y) (sym asks.between) (record {
      rests = refl;
      going = record { some = come.going.some; runs = come.going.runs; unended = λ is. come.going.unended come.rests };
      written = record { stored_all = come.written.stored_all; updates_all = come.written.updates_all; unrolled = come.written.unrolled };
    });
    given = record { gifts_are = was.given.gifts_are; each = λ j m. given_still j (lane_at book l).held (was.given.each j m); words_are = words_are };
    counts = was.counts;
    deleting = was.deleting;
    ends_ungiven = was.ends_ungiven;
    written_words = was.written_words;
    taking = was.taking;
    naming = was.naming;
    recorded = was.recorded;
    begun = was.begun;
    has_some = was.has_some;
    uncompensated = was.uncompensated;
  }

  other : (j : ℕ) → j ≢ l → j < length state.w.lanes →
      IsLaneOf layout (slice_set book.blocks k (Standing.Owned s)) state.s.log (newest_log state.w.keeping.ledger) (under_of (layout_shape layout) state.w j) (j % layout.partitions) (lane_at book j)
      (txn_at state.w.lanes j)
  other j ne less = let of = state.tied.each j less in record {
    txn = of.txn;
    come = of.come;
    given = record {
      gifts_are = of.given.gifts_are;
      each = λ i m. given_still i (lane_at book j).held (of.given.each i m);
      words_are = λ a. of.given.words_are a ∙ ap (λ b. b || is_in layout (is_given (lane_at book j).gives.items) a) (sym (lanes_seen layout book.blocks (lane_at book j) k (Standing.Owned s)
          (mine_never (slice_set book.blocks k (Standing.Owned s)) (lane_at book j) k s standing (asks.alone j ne) ∙ sym (none_had j)) a));
    };
    counts = of.counts;
    deleting = of.deleting;
    ends_ungiven = of.ends_ungiven;
    written_words = of.written_words;
    taking = of.taking;
    naming = of.naming;
    recorded = of.recorded;
    begun = of.begun;
    has_some = of.has_some;
    uncompensated = of.uncompensated;
  }

  abbrev wanted : ℕ → Txn → Needs
  wanted j z = needs_at (layout_shape layout) (j % layout.partitions) (records_noted state.w z.number) (length (state.chains (j % layout.partitions))) (under_of (layout_shape layout) state.w j) z
      (stage_of (lane_at book j))

  owes_other : (j : ℕ) → j ≢ l → j < length book.lanes.items → OwesEnough (layout_shape layout) state.chains book keeper (with_lane l y state.w) j
  owes_other j ne less = let o = state.owing.each j less in record {
    events = subst (λ (z : Txn). (wanted j z).events ≤ (lane_at book j).owed_events) (sym (with_other l j y state.w.lanes ne)) o.events;
    records = subst (λ (z : Txn). (wanted j z).records ≤ (lane_at book j).owed_records) (sym (with_other l j y state.w.lanes ne)) o.records;
    lists = subst (λ (z : Txn). HasRoomIn keeper.slots.items (j % layout.partitions) (wanted j z).gates) (sym (with_other l j y state.w.lanes ne)) o.lists;
  }

  pub block_comes : IsStateOf layout start (with_block k (Standing.Owned s) book) keeper region spare events
  block_comes = restands layout start book keeper region spare events blocks (with_txn l y state.w.lanes) state (length_set book.blocks k (Standing.Owned s) ∙ state.is_book.blocks) structures
      (count_with l y state.w.lanes)
      (takes_keep (layout_shape layout) state.base state.s state.chains start state.w region l words come.going.runs may_take state.world)
      (by_number (λ j. j < length (with_txn l y state.w.lanes) → IsLaneOf layout (slice_set book.blocks k (Standing.Owned s)) state.s.log (newest_log state.w.keeping.ledger)
      (under_of (layout_shape layout) state.w j) (j % layout.partitions) (lane_at book j) (txn_at (with_txn l y state.w.lanes) j)) l
      (λ less. subst (λ (z : Txn). IsLaneOf layout (slice_set book.blocks k (Standing.Owned s)) state.s.log (newest_log state.w.keeping.ledger) (under_of (layout_shape layout) state.w l)
      (l % layout.partitions) (lane_at book l) z) (sym (with_here l y state.w.lanes inside))
      (subst (λ u. IsLaneOf layout (slice_set book.blocks k (Standing.Owned s)) state.s.log (newest_log state.w.keeping.ledger) u (l % layout.partitions) (lane_at book l) y) (sym come.rests) own))
      (λ j ne less. subst (λ (z : Txn). IsLaneOf layout (slice_set book.blocks k (Standing.Owned s)) state.s.log (newest_log state.w.keeping.ledger) (under_of (layout_shape layout) state.w j)
      (j % layout.partitions) (lane_at book j) z) (sym (with_other l j y state.w.lanes ne)) (other j ne (subst (λ n. j < n) (count_with l y state.w.lanes) less))))
      (by_number (λ j. (txn_at (with_txn l y state.w.lanes) j).number ≡ (txn_at state.w.lanes j).number) l (ap (λ (z : Txn). z.number) (with_here l y state.w.lanes inside))
      (λ j ne. ap (λ (z : Txn). z.number) (with_other l j y state.w.lanes ne)))
      (by_number (λ j. j < length book.lanes.items → OwesEnough (layout_shape layout) state.chains book keeper (with_lane l y state.w) j) l
      (λ less. owes_with (layout_shape layout) state.chains book keeper state.w l (lane_at book l) nothing y Between inside refl asks.between come.rests (omega arith) (omega arith)
      (no_gates keeper.slots.items (l % layout.partitions)))
      (λ j ne less. owes_other j ne less))

  ungiven : list_any (λ given. k == given) (lane_at book l).gives.items ≡ false
  ungiven = by (list_any (λ given. k == given) (lane_at book l).gives.items) refl
    where
      by : (t : Bool) → list_any (λ given. k == given) (lane_at book l).gives.items ≡ t → list_any (λ given. k == given) (lane_at book l).gives.items ≡ false
      by true on = absurd (other_given k (lane_at book l).held (was.given.each k (given_among (lane_at book l).gives.items k on)) refl)
      by false off = off

  -- the owner word is the lane's then
  has_owner : is_mine (slice_set book.blocks k (Standing.Owned s)) (lane_at book l) (block_in layout (owned layout s k).address) ≡ true
  has_owner = ap (is_mine (slice_set book.blocks k (Standing.Owned s)) (lane_at book l)) (block_in_block layout k) ∙
      mine_owned (slice_set book.blocks k (Standing.Owned s)) (lane_at book l) k s standing ungiven ∙ asks.had

  pub take_asked : (later : Book E) → HasRoomForAsk layout book later region l → GoesTo (with_block k (Standing.Owned s) book) later l lane → IsBook later →
      IsStateOf layout start later keeper region spare events
  take_asked later room goes kept = asks_word layout start (with_block k (Standing.Owned s) book) later keeper region spare events l (owned layout s k) lane (record {
    between = asks.between;
    naming = asks.naming;
    same = asks.same;
    writes = asks.writes;
    entry = asks.entry;
    is_no_commit = ap is_commit asks.call;
    word = inr (k, asks.plain, (let same = state.is_book.blocks in let less = within in omega (arith, less, same)), refl);
    taking = λ n j call. taken n j (sym asks.call ∙ call);
    own = has_owner;
    waits = asks.waits;
    owes_events = asks.owes_events;
    owes_record = asks.owes_record;
  }) (record {
    words = room.words;
    newest = room.newest;
    room = room.room;
    is_room = room.is_room;
    within = room.within;
    elsewhere = λ q ne. room.elsewhere q ne ∙ sym (reserved_restood layout start book keeper region spare events blocks state.w.lanes state q);
  }) goes kept block_comes
    where
      last_got : (xs : List WordWrite) (w : WordWrite) (n : ℕ) → n ≡ length xs → slice_get (xs ++ w ∷ []) n ≡ Some w
      last_got [] w n is = subst (λ m. slice_get (w ∷ []) m ≡ Some w) (sym is) refl
      last_got (v ∷ xs) w zero is = absurd (omega (arith, is))
      last_got (v ∷ xs) w (suc n) is = last_got xs w n (omega (arith, is))

      next : slice_get lane.writes.items lane.stored ≡ Some (owned layout s k)
      next = ap (λ ws. slice_get ws lane.stored) asks.writes ∙ last_got (lane_at book l).writes.items (owned layout s k) lane.stored
          (let all = come.written.stored_all in let is = was.txn.stored in let same = asks.same.stored in let long = ap length was.txn.writes ∙ length-map (lane_at book l).writes.items plain_write in
          omega (arith, all, is, same, long))

      taken : (n j : ℕ) → Doing.Take s k ≡ Doing.Take n j → slice_get lane.writes.items lane.stored ≡ Some (owned layout n j)
      taken n j same = let first : s ≡ n = cc in let second : k ≡ j = cc in next ∙ (λ i. Some (owned layout (first i) (second i)))

pub takes_are_asked : {E : Type 0} → TakesAreAsked E
takes_are_asked layout start book later keeper region spare events l s k lane asks room goes kept state =
    take_asked layout start book keeper region spare events l s k lane asks goes.lanes.inside state later room goes kept
