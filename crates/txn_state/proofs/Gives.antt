-- A give is asked.
use Rattle.std.proofs.Common.{◌≡◌, inl, inr, ℕ, ◌+◌, ◌*◌, ◌%◌, ◌<◌, ◌≤◌, ◌==◌, not, nat_lt, ◌&&◌, ◌||◌, Bool, true, false, if◌then◌else◌, List, [], ◌∷◌, ◌++◌, length, map, reverse, None, Some, refl, sym, ap, ◌∙◌, subst, arith, length-append}
use Rattle.std.specs.Prelude.{slice_get}
use Rattle.std.specs.List.{list_any}
use Rattle.persist_model.specs.Region.{Words, Region}
use Rattle.persist_model.specs.Records.{IsAmong}
use Rattle.persist_model.specs.Shape.{heap}
use Rattle.region_layout.specs.declared.layout.Layout.{Layout}
use Rattle.region_layout.specs.Layout.{layout_shape}
use Rattle.lane_types.specs.Heaps.{names_in}
use Rattle.lane_book.specs.declared.book.Book.{Book}
use Rattle.lane_book.specs.declared.lane.Lane.{Lane}
use Rattle.lane_book.specs.declared.lane.Doing.{Doing}
use Rattle.lane_book.specs.FacesOf.{lane_at}
use Rattle.lane_book.specs.Books.{IsBook, ends}
use Rattle.lane_book.specs.Refusals.{is_mine, block_in, owner_number}
use Rattle.log_keeper.specs.declared.keeper.LogKeeper.{LogKeeper}
use Rattle.log_keeper.specs.Ledger.{newest_log}
use Rattle.history_laws.specs.UnderWay.{nothing}
use Rattle.txn_laws.specs.Txns.{Txn, txn_at}
use Rattle.txn_laws.specs.Rooms.{IsRoomy}
use Rattle.txn_state.specs.Stages.{Between, Naming, Deleting, stage_at, stage_of, is_commit}
use Rattle.txn_state.specs.Ties.{plain_write, plain_entry, AreCellsOf, is_in, is_own, is_given, IsGivenBlock, due_by, waits, IsBetween, IsCome, IsLaneOf, under_of, AreGiftsOf}
use Rattle.txn_state.specs.Owing.{needs_at, append_most, records_noted}
use Rattle.txn_state.specs.States.{is_joining, AreEntries, IsStateOf, reserved_for}
use Rattle.txn_state.specs.Changes.{GoesTo}
use Rattle.txn_state.specs.QuietLaws.{HasRoomForAsk, AsksGive, GivesAreAsked}
use Rattle.txn_state.proofs.Lanes.{lane_sum_same, entries_stay}
use Rattle.txn_state.proofs.Steps.{numbers_stay, goes_on, beside_same, apart_own}
use Rattle.txn_state.proofs.SameTransaction.{pending_same, owes_of, wants, no_gates, same_slots}
use Rattle.txn_state.proofs.StageSteps.{due_none}
use Rattle.txn_state.proofs.Begins.{mine_of}
use Rattle.txn_state.proofs.Asks.{between_no_commit}
use Rattle.txn_state.proofs.Given.{gives_more, among_either}
use Rattle.std.proofs.lemmas.Bool.Decides.{eqb_tells}
use Rattle.txn_laws.proofs.Rooms.{asks_are_roomy, fewer_are_roomy}
use Rattle.log_keeper.specs.Keeper.{HasRoomIn}

-- ---- words

in_or : (layout : Layout) (f g : ℕ → Bool) (a : ℕ) → (is_in layout f a || is_in layout g a) ≡ is_in layout (λ k. f k || g k) a
in_or layout f g a = by (not (nat_lt a (heap (layout_shape layout)))) (nat_lt a (heap (layout_shape layout) + 16 * layout.blocks)) (f (block_in layout a)) (g (block_in layout a))
  where
    by : (b c d e : Bool) → ((b && (c && d)) || (b && (c && e))) ≡ (b && (c && (d || e)))
    by false c d e = refl
    by true false d e = refl
    by true true d e = refl

any_more : (gives : List ℕ) (k b : ℕ) → list_any (λ given. b == given) (gives ++ k ∷ []) ≡ (list_any (λ given. b == given) gives || (b == k))
any_more [] k b = or_false (b == k)
  where
    or_false : (t : Bool) → (t || false) ≡ t
    or_false true = refl
    or_false false = refl
any_more (g ∷ gives) k b = ap (λ t. (b == g) || t) (any_more gives k b) ∙ or_in (b == g) (list_any (λ given. b == given) gives) (b == k)
  where
    or_in : (s t u : Bool) → (s || (t || u)) ≡ ((s || t) || u)
    or_in true t u = refl
    or_in false t u = refl

own_or_given : (held n : ℕ) (g e : Bool) → (e ≡ true → g ≡ false → names_in held n ≡ true) →
    (names_in held (if g then 0 else n) || g) ≡ (names_in held (if (g || e) then 0 else n) || (g || e))
own_or_given held n true e own = refl
own_or_given held n false true own = ap (λ t. t || false) (own refl refl)
own_or_given held n false false own = refl

module _ {E : Type 0} (layout : Layout) (start : Words) (book later : Book E) (keeper : LogKeeper) (region : Region) (spare events l k : ℕ) (lane : Lane E) (asks : AsksGive layout book l k lane)
    (room : HasRoomForAsk layout book later region l) (goes : GoesTo book later l lane) (kept : IsBook later) (state : IsStateOf layout start book keeper region spare events) where
  abbrev before : Lane E
  before = lane_at book l

  abbrev x : Txn
  x = txn_at state.w.lanes l

  inside : l < length state.w.lanes
  inside = subst (λ n. l < n) (sym state.tied.lanes) goes.lanes.inside

  come : IsBetween (under_of (layout_shape layout) state.w l) (txn_at state.w.lanes l)
  come = subst (IsCome state.s.log (under_of (layout_shape layout) state.w l) (txn_at state.w.lanes l)) asks.between (state.tied.each l inside).come

  was : IsLaneOf layout book.blocks state.s.log (newest_log state.w.keeping.ledger) nothing (l % layout.partitions) (lane_at book l) (txn_at state.w.lanes l)
  was = subst (λ u. IsLaneOf layout book.blocks state.s.log (newest_log state.w.keeping.ledger) u (l % layout.partitions) (lane_at book l) (txn_at state.w.lanes l)) come.rests (state.tied.each l inside)

  stage : stage_of lane ≡ Deleting
  stage = ap (stage_at lane.phase lane.has_records lane.part) asks.call

  no_commit : is_commit (lane_at book l).doing ≡ false
  no_commit = between_no_commit before.phase before.has_records before.part before.doing asks.between

  none_due : due_by (lane_at book l).doing ≡ 0
  none_due = due_none before.phase before.has_records before.part before.doing Between asks.between (λ e. (let off : Between ≡ Deleting = e in cc))

  own_at : (b : ℕ) → (b == k) ≡ true → list_any (λ given. b == given) (lane_at book l).gives.items ≡ false → names_in (lane_at book l).held (owner_number (slice_get book.blocks b)) ≡ true
  own_at b same off = sym (ap (λ t. names_in (lane_at book l).held (if t then 0 else owner_number (slice_get book.blocks b))) off) ∙ elim (eqb_tells b k) [
    | inl e ↦ ap (is_mine book.blocks (lane_at book l)) e.1 ∙ asks.own
    | inr ne ↦ absurd (let clash : true ≡ false = sym same ∙ ne.0 in cc)
  ]

  block_words : (b : ℕ) → (is_own book.blocks (lane_at book l).held (lane_at book l).gives.items b || is_given (lane_at book l).gives.items b) ≡
      (is_own book.blocks lane.held lane.gives.items b || is_given lane.gives.items b)
  block_words b = own_or_given (lane_at book l).held (owner_number (slice_get book.blocks b)) (list_any (λ given. b == given) (lane_at book l).gives.items) (b == k) (own_at b) ∙
      ap (λ t. names_in (lane_at book l).held (if t then 0 else owner_number (slice_get book.blocks b)) || t) (sym (any_more (lane_at book l).gives.items k b)) ∙
      (λ i. names_in (sym asks.same.held i) (if list_any (λ given. b == given) (sym asks.gives i) then 0 else owner_number (slice_get book.blocks b)) || list_any (λ given. b == given) (sym asks.gives i))

  words_are : (a : ℕ) → x.words a ≡ (is_in layout (is_own book.blocks lane.held lane.gives.items) a || is_in layout (is_given lane.gives.items) a)
  words_are a = was.given.words_are a ∙ in_or layout (is_own book.blocks (lane_at book l).held (lane_at book l).gives.items) (is_given (lane_at book l).gives.items) a ∙
      ap (λ t. not (nat_lt a (heap (layout_shape layout))) && (nat_lt a (heap (layout_shape layout) + 16 * layout.blocks) && t)) (block_words (block_in layout a)) ∙
      sym (in_or layout (is_own book.blocks lane.held lane.gives.items) (is_given lane.gives.items) a)

  given_each : (j : ℕ) → IsAmong lane.gives.items j → IsGivenBlock layout book.blocks lane.held j
  given_each j m = subst (λ n. IsGivenBlock layout book.blocks n j) (sym asks.same.held) (elim (among_either (lane_at book l).gives.items k j (subst (λ xs. IsAmong xs j) asks.gives m)) [
    | inl old ↦ was.given.each j old
    | inr e ↦ record {
      plain = subst (λ n. layout.structures ≤ n) (sym e) asks.plain;
      inside = subst (λ n. n < layout.blocks) (sym e) asks.inside;
      stands = inr (mine_of book.blocks (lane_at book l) j (ap (is_mine book.blocks (lane_at book l)) e ∙ asks.own));
    }
  ])

  own : IsLaneOf layout book.blocks state.s.log (newest_log state.w.keeping.ledger) nothing (l % layout.partitions) lane (txn_at state.w.lanes l)
  own = record {
    txn = record {
      number = was.txn.number ∙ sym asks.same.transaction;
      here = was.txn.here;
      writes = was.txn.writes ∙ ap (map plain_write) (sym asks.writes);
      stored = was.txn.stored ∙ sym asks.same.stored;
      zeroed = was.txn.zeroed;
      commits = was.txn.commits ∙ (no_commit ∙ sym (ap is_commit asks.call));
      updates = subst (λ cells. AreCellsOf (reverse cells) x.updates) (sym asks.same.updates) was.txn.updates;
      rolled = was.txn.rolled ∙ sym asks.same.rolled;
      ended = was.txn.ended ∙ sym asks.same.ended;
      linked = was.txn.linked;
      point = was.txn.point;
      entry = λ e some. (let off : None ≡ Some e = sym asks.entry ∙ some in cc);
    };
    come = subst (IsCome state.s.log nothing x) (sym stage) (record {
      going = record { some = come.going.some; runs = come.going.runs; unended = λ is. come.going.unended come.rests };
      written = come.written;
      under_way = waits refl;
    });
    given = record {
      gifts_are = subst (λ xs. AreGiftsOf (layout_shape layout) xs lane.gates.items x.gifts) (sym asks.gives)
          (subst (λ xs. AreGiftsOf (layout_shape layout) ((lane_at book l).gives.items ++ k ∷ []) xs x.gifts) (sym asks.same.gates)
          (gives_more (layout_shape layout) (lane_at book l).gives.items (lane_at book l).gates.items x.gifts k was.given.gifts_are));
      each = given_each;
      words_are = words_are;
    };
    counts = (let old = was.counts in let none = none_due in let due = ap due_by asks.call in let long = ap length asks.gives ∙ length-append (lane_at book l).gives.items (k ∷ []) in
        omega (arith, old, none, due, long));
    deleting = λ j call. (tt, λ long. asks.waits);
    ends_ungiven = λ on. absurd (let off : true ≡ false = sym on ∙ ap ends asks.call in cc);
    written_words = λ w m. was.written_words w (subst (λ ws. IsAmong ws w) asks.writes m);
    taking = λ s j other. absurd (let off : Doing.Give k ≡ Doing.Take s j = sym asks.call ∙ other in cc);
    naming = λ is long. absurd (let off : Deleting ≡ Naming = sym stage ∙ is in cc);
    recorded = λ one on. asks.same.has_records ∙ was.recorded one on;
    begun = λ on. was.begun (sym asks.same.has_records ∙ on);
    has_some = λ one on runs. was.has_some one (sym asks.same.has_records ∙ on) runs;
    uncompensated = λ unrolled. was.uncompensated (sym asks.same.rolled ∙ unrolled);
  }

  room_for : IsRoomy (layout_shape layout) region (reserved_for layout later)
  room_for = fewer_are_roomy (layout_shape layout) region (λ q. if q == l % layout.partitions then reserved_for layout later (l % layout.partitions) else reserved_for layout book q) (reserved_for layout later)
      (λ q lt. elim (eqb_tells q (l % layout.partitions)) [
        | inl e ↦ subst (λ b. reserved_for layout later q ≤ (if b then reserved_for layout later (l % layout.partitions) else reserved_for layout book q)) (sym e.0)
            (let same = ap (reserved_for layout later) e.1 in omega (arith, same))
        | inr ne ↦ subst (λ b. reserved_for layout later q ≤ (if b then reserved_for layout later (l % layout.partitions) else reserved_for layout book q)) (sym ne.0)
            (let same = room.elsewhere q ne.1 in omega (arith, same))
      ])
      (asks_are_roomy (layout_shape layout) state.base state.s state.chains start state.w region (reserved_for layout book) (l % layout.partitions) (reserved_for layout later (l % layout.partitions)) room.room
      room.words state.world room.newest room.is_room room.within state.roomy)

  entries_asked : AreEntries later
  entries_asked = entries_stay book later l lane goes (record {
    others = λ off. record { unentered = asks.same.entered ∙ (state.is_book.entries.others l no_commit).unentered; none = asks.entry };
    waits = λ on new. (let clash : true ≡ false = sym on ∙ ap is_commit asks.call in cc);
    joined = λ on is. (let clash : true ≡ false = sym on ∙ ap is_commit asks.call in cc);
  }) (let none : is_joining lane ≡ 0 = ap (λ b. if b && not lane.entered then 1 else 0) (ap is_commit asks.call) in omega (arith, none)) state.is_book.entries

  pub give_asked : IsStateOf layout start later keeper region spare events
  give_asked = goes_on layout start book later keeper keeper region region spare spare events events l x.number lane state state.opens (record {
    base = state.base;
    s = state.s;
    others = state.chains;
    v = state.w;
    has = goes.lanes;
    is_book = kept;
    entries = entries_asked;
    world = state.world;
    roomy = room_for;
    beside = beside_same (layout_shape layout) l x.number state.s.log state.chains state.w;
    apart = apart_own (layout_shape layout) state.base state.s state.chains start state.w region l state.world;
    keeping = state.tied.keeping;
    next = state.tied.next;
    slots = same_slots keeper.slots.items;
    history = state.tied.history ∙ ap (λ h. map plain_entry h.items) (sym goes.history);
    held = state.tied.held;
    own = subst (λ bs. IsLaneOf layout bs state.s.log (newest_log state.w.keeping.ledger) (under_of (layout_shape layout) state.w l) (l % layout.partitions) lane x) (sym goes.lanes.blocks)
        (subst (λ u. IsLaneOf layout book.blocks state.s.log (newest_log state.w.keeping.ledger) u (l % layout.partitions) lane x) (sym come.rests) own);
    owes = owes_of (layout_shape layout) state.chains later keeper state.w l lane goes.lanes.here
        (subst (λ n. n ≤ lane.owed_events) (sym wanted_events) asks.owes_events) (subst (λ n. n ≤ lane.owed_records) (sym wanted_records) asks.owes_record)
        (subst (λ n. HasRoomIn keeper.slots.items (l % layout.partitions) n) (sym wanted_gates) (no_gates keeper.slots.items (l % layout.partitions)));
    stores = (let e = lane_sum_same (λ x. x.owed_events) book later l lane goes.lanes asks.same.owed_events in let most = state.owing.stores in omega (arith, e, most));
    places = (let e = lane_sum_same (λ x. x.owed_records) book later l lane goes.lanes asks.same.owed_records in let most = state.owing.places in omega (arith, e, most));
    fresh = subst (λ n. x.number < n) (sym goes.next) (state.tied.fresh l);
    risen = (let e = goes.next in omega (arith, e));
    numbered = numbers_stay layout.partitions book later l lane state.w state.w events events goes.lanes goes.next asks.same.begun
        (let e = pending_same (lane_at book l) lane asks.same.entered asks.same.transaction in let c = asks.same.commits in let b = asks.same.begun in let most = state.numbered.commits l in omega (arith, e, c, b, most))
        state.numbered.records state.numbered;
  })
    where
      wanted_events : (wants (layout_shape layout) state.chains state.w l (stage_of lane)).events ≡ append_most (layout_shape layout)
      wanted_events = (λ i. (needs_at (layout_shape layout) (l % layout.partitions) (records_noted state.w x.number) (length (state.chains (l % layout.partitions))) (come.rests i) x (stage i)).events)

      wanted_records : (wants (layout_shape layout) state.chains state.w l (stage_of lane)).records ≡ 1
      wanted_records = (λ i. (needs_at (layout_shape layout) (l % layout.partitions) (records_noted state.w x.number) (length (state.chains (l % layout.partitions))) (come.rests i) x (stage i)).records)

      wanted_gates : (wants (layout_shape layout) state.chains state.w l (stage_of lane)).gates ≡ 0
      wanted_gates = (λ i. (needs_at (layout_shape layout) (l % layout.partitions) (records_noted state.w x.number) (length (state.chains (l % layout.partitions))) (come.rests i) x (stage i)).gates)

pub gives_are_asked : {E : Type 0} → GivesAreAsked E
gives_are_asked layout start book later keeper region spare events l k lane asks room goes kept state =
    give_asked layout start book later keeper region spare events l k lane asks room goes kept state
