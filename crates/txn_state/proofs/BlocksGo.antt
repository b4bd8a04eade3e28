-- A block stands otherwise.
use Rattle.std.proofs.Common.{◌≡◌, ◌≢◌, ◌⊎◌, inl, inr, ℕ, zero, suc, ◌+◌, ◌*◌, ◌%◌, ◌<◌, ◌==◌, not, nat_lt, ◌&&◌, ◌||◌, Bool, true, false, if◌then◌else◌, List, [], ◌∷◌, length, slice_set, Some, refl, sym, ap, ◌∙◌, subst, arith}
use Rattle.std.specs.Prelude.{slice_get}
use Rattle.std.specs.List.{list_any}
use Rattle.std.proofs.lemmas.Bool.Decides.{eqb_tells}
use Rattle.persist_model.specs.Region.{Words, Region}
use Rattle.persist_model.specs.Records.{IsAmong}
use Rattle.persist_model.specs.Shape.{heap}
use Rattle.region_layout.specs.declared.layout.Layout.{Layout}
use Rattle.region_layout.specs.Layout.{layout_shape}
use Rattle.offset_alloc.specs.declared.Standing.{Standing}
use Rattle.lane_types.specs.Heaps.{names_in}
use Rattle.lane_book.specs.declared.book.Book.{Book}
use Rattle.lane_book.specs.declared.lane.Lane.{Lane}
use Rattle.lane_book.specs.FacesOf.{lane_at}
use Rattle.lane_book.specs.Refusals.{is_mine, block_in, owner_number, AreStructures}
use Rattle.lane_book.specs.Reserved.{share_of, reserved_below, kept_in}
use Rattle.log_keeper.specs.declared.keeper.LogKeeper.{LogKeeper}
use Rattle.log_keeper.specs.Ledger.{newest_log}
use Rattle.txn_laws.specs.Txns.{Txn, txn_at}
use Rattle.txn_laws.specs.Worlds.{World, IsWorldAt}
use Rattle.txn_state.specs.Ties.{is_lanes, is_in, is_given, IsGivenBlock, under_of, IsLaneOf}
use Rattle.txn_state.specs.Owing.{OwesEnough}
use Rattle.txn_state.specs.States.{IsStateOf, AreEntries, reserved_for}
use Rattle.txn_state.specs.BlockLaws.{IsNoLanes, IsUngiven, BlocksGo}
use Rattle.txn_state.proofs.Lanes.{roomy_less}

-- ---- a list in which one block stands otherwise

pub length_set : (blocks : List Standing) (k : ℕ) (standing : Standing) → length (slice_set blocks k standing) ≡ length blocks
length_set [] k standing = refl
length_set (x ∷ blocks) zero standing = refl
length_set (x ∷ blocks) (suc k) standing = ap suc (length_set blocks k standing)

pub got_same : (blocks : List Standing) (k : ℕ) (standing : Standing) → k < length blocks → slice_get (slice_set blocks k standing) k ≡ Some standing
got_same [] k standing lt = absurd (omega (arith, lt))
got_same (x ∷ blocks) zero standing lt = refl
got_same (x ∷ blocks) (suc k) standing lt = got_same blocks k standing (omega (arith, lt))

pub got_other : (blocks : List Standing) (k b : ℕ) (standing : Standing) → b ≢ k → slice_get (slice_set blocks k standing) b ≡ slice_get blocks b
got_other [] k b standing ne = refl
got_other (x ∷ blocks) zero zero standing ne = absurd (ne refl)
got_other (x ∷ blocks) zero (suc b) standing ne = refl
got_other (x ∷ blocks) (suc k) zero standing ne = refl
got_other (x ∷ blocks) (suc k) (suc b) standing ne = got_other blocks k b standing (λ e. ne (ap suc e))

-- nobody's, where the standing is
owner_same : (blocks : List Standing) (k : ℕ) (standing : Standing) → owner_number (Some standing) ≡ 0 → owner_number (slice_get (slice_set blocks k standing) k) ≡ 0
owner_same [] k standing none = refl
owner_same (x ∷ blocks) zero standing none = none
owner_same (x ∷ blocks) (suc k) standing none = owner_same blocks k standing none

-- ---- what a lane sees

-- nothing of a block that is nobody's
pub unseen : {E : Type 0} (blocks : List Standing) (lane : Lane E) (b : ℕ) → owner_number (slice_get blocks b) ≡ 0 → is_mine blocks lane b ≡ false
unseen blocks lane b none = ap (λ n. names_in lane.held (if list_any (λ given. b == given) lane.gives.items then 0 else n)) none ∙ by (list_any (λ given. b == given) lane.gives.items)
  where
    by : (t : Bool) → names_in lane.held (if t then 0 else 0) ≡ false
    by true = refl
    by false = refl

-- and other blocks as before
pub mine_other : {E : Type 0} (blocks : List Standing) (lane : Lane E) (k b : ℕ) (standing : Standing) → b ≢ k → is_mine (slice_set blocks k standing) lane b ≡ is_mine blocks lane b
mine_other blocks lane k b standing ne = ap (λ o. names_in lane.held (if list_any (λ given. b == given) lane.gives.items then 0 else owner_number o)) (got_other blocks k b standing ne)

-- where it sees the block as before, its words are as before
pub lanes_seen : {E : Type 0} (layout : Layout) (blocks : List Standing) (lane : Lane E) (k : ℕ) (standing : Standing) → is_mine (slice_set blocks k standing) lane k ≡ is_mine blocks lane k →
    (a : ℕ) → is_lanes layout (slice_set blocks k standing) lane a ≡ is_lanes layout blocks lane a
lanes_seen layout blocks lane k standing same a =
    ap (λ m. not (nat_lt a (heap (layout_shape layout))) && (nat_lt a (heap (layout_shape layout) + 16 * layout.blocks) && m)) (elim (eqb_tells (block_in layout a) k) [
      | inl e ↦ subst (λ b. is_mine (slice_set blocks k standing) lane b ≡ is_mine blocks lane b) (sym e.1) same
      | inr ne ↦ mine_other blocks lane k (block_in layout a) standing ne.1
    ])

-- ---- the state with other blocks, and perhaps other words of a lane

module _ {E : Type 0} (layout : Layout) (start : Words) (book : Book E) (keeper : LogKeeper) (region : Region) (spare events : ℕ) (blocks : List Standing) (lanes : List Txn)
    (state : IsStateOf layout start book keeper region spare events) where
  abbrev pub restood : Book E
  restood = record book { blocks = blocks }

  abbrev pub world_restood : World
  world_restood = record state.w { lanes = lanes }

  pub reserved_restood : (q : ℕ) → reserved_for layout restood q ≡ reserved_for layout book q
  reserved_restood q = ap (λ n. n + kept_in 0 q) (below (length book.lanes.items))
    where
      below : (n : ℕ) → reserved_below restood layout.partitions q n ≡ reserved_below book layout.partitions q n
      below zero = refl
      below (suc n) = ap (λ m. m + share_of layout.partitions q n (lane_at book n)) (below n)

  entries_restood : AreEntries restood
  entries_restood = record {
    others = state.is_book.entries.others;
    waits = state.is_book.entries.waits;
    joined = λ k commits entered. (let was = state.is_book.entries.joined k commits entered in record { entered = was.entered; out = was.out; mine = was.mine });
    places = state.is_book.entries.places;
  }

  pub restands : length blocks ≡ layout.blocks → AreStructures blocks → length lanes ≡ length state.w.lanes →
      IsWorldAt (layout_shape layout) state.base state.s state.chains start world_restood region →
      ((k : ℕ) → k < length lanes →
      IsLaneOf layout blocks state.s.log (newest_log state.w.keeping.ledger) (under_of (layout_shape layout) state.w k) (k % layout.partitions) (lane_at book k) (txn_at lanes k)) →
      ((k : ℕ) → (txn_at lanes k).number ≡ (txn_at state.w.lanes k).number) →
      ((k : ℕ) → k < length book.lanes.items → OwesEnough (layout_shape layout) state.chains book keeper world_restood k) → IsStateOf layout start restood keeper region spare events
  restands count structures same world each numbers owes = record {
    base = state.base;
    s = state.s;
    chains = state.chains;
    w = world_restood;
    world = world;
    roomy = roomy_less layout book restood region (λ q. (let e = reserved_restood q in omega (arith, e))) state.roomy;
    tied = record {
      keeping = state.tied.keeping;
      next = state.tied.next;
      slots = state.tied.slots;
      lanes = same ∙ state.tied.lanes;
      history = state.tied.history;
      held = record {
        free = state.tied.held.free;
        busy = state.tied.held.busy;
        unfinished = state.tied.held.unfinished;
        lane = λ p lt off. subst (λ n. state.w.keeping.holder p < n) (sym same) (state.tied.held.lane p lt off);
        here = state.tied.held.here;
      };
      each = each;
      fresh = λ k. subst (λ n. n < book.next_transaction) (sym (numbers k)) (state.tied.fresh k);
    };
    owing = record {
      each = λ k lt. record { events = (owes k lt).events; records = (owes k lt).records; lists = (owes k lt).lists };
      stores = state.owing.stores;
      places = state.owing.places;
    };
    numbered = record {
      records = state.numbered.records;
      transactions = state.numbered.transactions;
      some = state.numbered.some;
      begun = state.numbered.begun;
      commits = state.numbered.commits;
    };
    opens = state.opens;
    is_book = record {
      kept = state.is_book.kept;
      some = state.is_book.some;
      few = state.is_book.few;
      blocks = count;
      structures = structures;
      entries = entries_restood;
    };
  }

-- ---- the law

structures_stay : (blocks : List Standing) (k : ℕ) (standing : Standing) → owner_number (Some standing) ≡ 0 → AreStructures blocks → AreStructures (slice_set blocks k standing)
structures_stay blocks k standing none are b s is = elim (eqb_tells b k) [
  | inl e ↦ (
      let zero_is : owner_number (slice_get (slice_set blocks k standing) k) ≡ 0 = owner_same blocks k standing none in
      let some_is : owner_number (slice_get (slice_set blocks k standing) k) ≡ s + 1 = ap owner_number (subst (λ j. slice_get (slice_set blocks k standing) j ≡ Some (Standing.Owned s)) e.1 is) in
      absurd (omega (arith, zero_is, some_is)))
  | inr ne ↦ are b s (sym (got_other blocks k b standing ne.1) ∙ is)
]

module _ {E : Type 0} (layout : Layout) (start : Words) (book : Book E) (keeper : LogKeeper) (region : Region) (spare events k : ℕ) (standing : Standing) (nobodys : IsNoLanes book k)
    (goes_to : (standing ≡ Standing.Pending) ⊎ ((standing ≡ Standing.Free) × IsUngiven book k)) (state : IsStateOf layout start book keeper region spare events) where
  abbrev later : List Standing
  later = slice_set book.blocks k standing

  none : owner_number (Some standing) ≡ 0
  none = elim goes_to [ inl e ↦ ap (λ x. owner_number (Some x)) e | inr e ↦ ap (λ x. owner_number (Some x)) e.0 ]

  -- a given block stands so that the lane may have given it
  given_still : (l : ℕ) → l < length state.w.lanes → (j : ℕ) → IsAmong (lane_at book l).gives.items j → IsGivenBlock layout book.blocks (lane_at book l).held j →
      IsGivenBlock layout (slice_set book.blocks k standing) (lane_at book l).held j
  given_still l lt j m was = record {
    plain = was.plain;
    inside = was.inside;
    stands = elim (eqb_tells j k) [
      | inl e ↦ elim goes_to [
        | inl pending ↦ inl (subst (λ i. slice_get (slice_set book.blocks k standing) i ≡ Some Standing.Pending) (sym e.1)
            (got_same book.blocks k standing (let within = was.inside in let same = e.1 in let all = state.is_book.blocks in omega (arith, within, same, all)) ∙ ap Some pending))
        | inr free ↦ absurd (free.1 l (subst (λ n. l < n) state.tied.lanes lt) (subst (IsAmong (lane_at book l).gives.items) e.1 m))
      ]
      | inr ne ↦ elim was.stands [
        | inl pending ↦ inl (got_other book.blocks k j standing ne.1 ∙ pending)
        | inr owned ↦ inr (owned.0, got_other book.blocks k j standing ne.1 ∙ owned.1, owned.2)
      ]
    ];
  }

  seen : (l : ℕ) → l < length state.w.lanes → is_mine (slice_set book.blocks k standing) (lane_at book l) k ≡ is_mine book.blocks (lane_at book l) k
  seen l lt = unseen (slice_set book.blocks k standing) (lane_at book l) k (owner_same book.blocks k standing none) ∙ sym (nobodys l (subst (λ n. l < n) state.tied.lanes lt))

  goes : IsStateOf layout start (record book { blocks = slice_set book.blocks k standing }) keeper region spare events
  goes = restands layout start book keeper region spare events later state.w.lanes state (length_set book.blocks k standing ∙ state.is_book.blocks)
      (structures_stay book.blocks k standing none state.is_book.structures) refl state.world
      (λ l lt. (let of = state.tied.each l lt in record {
        txn = of.txn;
        come = of.come;
        given = record {
          gifts_are = of.given.gifts_are;
          each = λ j m. given_still l lt j m (of.given.each j m);
          words_are = λ a. of.given.words_are a ∙ ap (λ b. b || is_in layout (is_given (lane_at book l).gives.items) a) (sym (lanes_seen layout book.blocks (lane_at book l) k standing (seen l lt) a));
        };
        counts = of.counts;
        deleting = of.deleting;
        ends_ungiven = of.ends_ungiven;
        written_words = of.written_words;
        taking = of.taking;
        naming = of.naming;
        recorded = of.recorded;
        begun = of.begun;
        has_some = of.has_some;
        uncompensated = of.uncompensated;
      }))
      (λ l. refl) (λ l lt. state.owing.each l lt)

pub blocks_go : {E : Type 0} → BlocksGo E
blocks_go layout start book keeper region spare events k standing nobodys goes_to state = goes layout start book keeper region spare events k standing nobodys goes_to state
