-- What a lawful book keeps is kept by each call of the book.
use Rattle.std.proofs.Common.{◌≡◌, ◌≢◌, ℕ, zero, suc, ◌+◌, ◌-◌, ◌^◌, ◌<◌, Bool, true, false, List, [], ◌∷◌, ◌++◌, length, drop, get_or, refl, sym, ◌∙◌, ap, subst, arith, Some, None}
use Rattle.std.proofs.Math.Nat.{zero-div}
use Rattle.std.specs.List.{filter}
use Rattle.lane_traits.specs.declared.draft.WordWrite.{WordWrite}
use Rattle.region_layout.specs.declared.layout.Layout.{Layout}
use Rattle.region_layout.specs.Layout.{layout_shape}
use Rattle.offset_alloc.specs.declared.Standing.{Standing}
use Rattle.offset_alloc.specs.Blocks.{AreAsOwned}
use Rattle.lane_types.specs.declared.call.Call.{Call}
use Rattle.lane_types.specs.declared.call.Phase.{Phase}
use Rattle.lane_types.specs.declared.call.Reply.TheVariants.{Committed}
use Rattle.lane_types.specs.declared.call.Stepped.TheVariants.{Waiting}
use Rattle.lane_types.specs.declared.call.What.TheVariants.{Structure}
use Rattle.lane_types.specs.declared.face.Entry.{Entry}
use Rattle.lane_types.specs.Deeds.{Deeds}
use Rattle.lane_types.specs.Heaps.{has_bit}
use Rattle.lane_types.specs.Histories.{Lawful, HaveSorts}
use Rattle.lane_types.specs.Faces.{Base}
use Rattle.lane_types.specs.Asks.{has_word, Fits}
use Rattle.lane_types.specs.May.{May}
use Rattle.lane_book.specs.declared.lane.Lane.{Lane}
use Rattle.lane_book.specs.declared.lane.Doing.{Doing}
use Rattle.lane_book.specs.declared.book.Book.{Book}
use Rattle.lane_book.specs.Lanes.{noted, begun_lane, moved, left, entered_lane, IsRoomier, with_lane}
use Rattle.lane_book.specs.FacesOf.{lane_at, faces_of, front, idle_lane}
use Rattle.lane_book.specs.Flights.{flights_of}
use Rattle.lane_book.specs.Steps.{IsPlain, held_by}
use Rattle.lane_book.specs.Books.{IsBook, IsAboutIt, IsLastOf, IsEmptied}
use Rattle.lane_book.specs.Entries.{committing}
use Rattle.lane_book.specs.Locks.{BeginEnds, AreLoose}
use Rattle.lane_book.specs.Stores.{no_write}
use Rattle.lane_book.specs.Owed.{sum_below, sum_of}
use Rattle.lane_book.proofs.Owing.{sum_with}
use Rattle.lane_book.proofs.Keeps.{ready_of}
use Rattle.lawful_book.specs.LawfulBooks.{MayTake, is_word_of, AreWordsOf, Each, IsPast, is_inside, IsLawfulLane, IsLawfulBook}
use Rattle.lawful_book.specs.Laws
use Rattle.lawful_book.proofs.Histories.{Depends, AreAllApart, each_filter, apart_filter, CanJoin, IsApartFrom, all_joined, each_flight, flights_apart, flies, each_map}
use Rattle.lawful_book.proofs.Laning.{coming_can_join, IsFree, free_is_lawful}
use Rattle.lawful_book.proofs.Booking.{some_of, by_lane, HasNoMore, apart_with, of_one_with, replaces, joins, good_book}
use Rattle.lawful_book.proofs.Showing.{bit_below, words_drop, word_at, holds_word, holds_all, all_held}
use Rattle.lawful_book.proofs.Keeping.{goes_on, answered, asked, committing_is, entering_is, leaving_is, committed_is, beginning_is, next_is}

both : (t : Bool) → t ≡ true → t ≡ false → ⊥
both t e f = cc

no_bit : (s : ℕ) → has_bit 0 s ≡ false
no_bit s = rw (zero-div (2 ^ s)) refl

-- the set that a lane is about to take
abbrev pub set_of : Doing → ℕ
set_of (Doing.Begin set) = set
set_of _ = 0

abbrev pub is_begin : Doing → Bool
is_begin (Doing.Begin set) = true
is_begin _ = false

pub no_begin : (d : Doing) → is_begin d ≡ false → (set : ℕ) → d ≡ Doing.Begin set → ⊥
no_begin d off set e = both (is_begin d) (ap is_begin e) off

-- ---- one lane is another

pub same_lane : {E : Type 0} (lane later : Lane E) → later.held ≡ lane.held → later.transaction ≡ lane.transaction → later.begun ≡ lane.begun → HasNoMore lane later
same_lane lane later held transaction begun = record {
  sets = λ s on. subst (λ (n : ℕ). has_bit n s ≡ true) held on;
  same = λ some. transaction;
  begun = begun;
}

pub no_lane : {E : Type 0} (lane later : Lane E) → later.held ≡ 0 → later.transaction ≡ 0 → later.begun ≡ lane.begun → HasNoMore lane later
no_lane lane later held transaction begun = record {
  sets = λ s on. absurd (both (has_bit 0 s) (subst (λ (n : ℕ). has_bit n s ≡ true) held on) (no_bit s));
  same = λ some. absurd (some transaction);
  begun = begun;
}

module _ {E : Type 0} (deeds : Deeds E) where
  pub steps_keep : Laws.StepsKeep deeds
  steps_keep layout base book later l lane touched lawful lt is go = replaces deeds layout base book later l lane touched lt is
      (same_lane (lane_at book l) lane go.same.held go.same.transaction go.same.begun)
      (λ was. goes_on deeds base book.history.items book.next_transaction l (lane_at book l) was lane go) lawful

  pub answers_keep : Laws.AnswersKeep deeds
  answers_keep layout base book later l kept reply lane touched lawful lt is answer = replaces deeds layout base book later l lane touched lt is
      (same_lane (lane_at book l) lane answer.same.held answer.same.transaction answer.same.begun)
      (λ was. answered deeds base book.history.items book.next_transaction l (lane_at book l) was reply kept lane answer) lawful

  pub leaves_keep : Laws.LeavesKeep deeds
  leaves_keep layout base book later l reply touched lawful lt out is = replaces deeds layout base book later l (left reply (lane_at book l)) touched lt is
      (no_lane (lane_at book l) (left reply (lane_at book l)) refl refl refl)
      (λ was. leaving_is deeds base book.history.items book.next_transaction l (lane_at book l) was reply out (some_of _ _ lawful.numbers)) lawful

  pub refusals_keep : Laws.RefusalsKeep deeds
  refusals_keep layout base book later l lawful lt room = steps_keep layout base book later l (lane_at later l) book.touched lawful lt room.is (roomier (lane_at book l) (lane_at later l) room.lane)
    where
      roomier : (lane later : Lane E) → IsRoomier lane later → Laws.GoesOn lane later
      roomier lane later is = record {
        same = record {
          held = ap (λ (x : Lane _). x.held) is.is;
          begun = ap (λ (x : Lane _). x.begun) is.is;
          commits = ap (λ (x : Lane _). x.commits) is.is;
          transaction = ap (λ (x : Lane _). x.transaction) is.is;
          joined = ap (λ (x : Lane _). x.joined) is.is;
          gives = is.gives;
          entry = ap (λ (x : Lane _). x.entry) is.is;
        };
        writes = is.writes;
        phase = ap (λ (x : Lane _). x.phase) is.is;
        doing = ap (λ (x : Lane _). x.doing) is.is;
        entered = ap (λ (x : Lane _). x.entered) is.is;
      }

  -- ---- an ask

  -- what a call of words asks for, of the lane
  module _ (layout : Layout) (base : Base) (book : Book E) (l : ℕ) (lawful : IsLawfulBook deeds layout base book) where
    abbrev lane : Lane E
    lane = lane_at book l

    word_is : (a : ℕ) → has_word (held_by base book l) a ≡ is_word_of lane.held base.heap a
    word_is a = holds_word deeds base book.history.items book.next_transaction l lane lawful.past (lawful.lanes l) a

    words_are : (writes : List WordWrite) (call : Call E) (doing : Doing) → Laws.IsWordCall call doing writes → Fits (faces_of base book l) call → AreWordsOf lane.held base.heap writes
    words_are _ _ _ (Laws.IsWordCall.plain p) fits = tt
    words_are _ _ _ (Laws.IsWordCall.write {a} {v}) fits = (sym (word_is a) ∙ fits.held, tt)
    words_are _ _ _ (Laws.IsWordCall.batch {n} {writes}) fits = all_held deeds base book.history.items book.next_transaction l lane lawful.past (lawful.lanes l) writes fits.held

    abbrev address_of : Doing → ℕ
    address_of (Doing.Read a) = a
    address_of _ = 0

    plain_read : (call : Call E) (doing : Doing) → IsPlain call doing → Fits (faces_of base book l) call → (a : ℕ) → doing ≡ Doing.Read a → is_word_of lane.held base.heap a ≡ true
    plain_read _ _ (IsPlain.begin {set}) fits a e = cc
    plain_read _ _ (IsPlain.read {a = b}) fits a e = sym (word_is a) ∙ ap (λ (n : ℕ). has_word (held_by base book l) n) (sym (ap address_of e)) ∙ fits.held
    plain_read _ _ IsPlain.abort fits a e = cc
    plain_read _ _ IsPlain.checkpoint fits a e = cc
    plain_read _ _ IsPlain.savepoint fits a e = cc
    plain_read _ _ (IsPlain.rollback {n}) fits a e = cc

    read_is : (writes : List WordWrite) (call : Call E) (doing : Doing) → Laws.IsWordCall call doing writes → Fits (faces_of base book l) call → (a : ℕ) → doing ≡ Doing.Read a →
        is_word_of lane.held base.heap a ≡ true
    read_is _ _ _ (Laws.IsWordCall.plain {call} {doing} p) fits a e = plain_read call doing p fits a e
    read_is _ _ _ (Laws.IsWordCall.write {a = b} {v}) fits a e = cc
    read_is _ _ _ (Laws.IsWordCall.batch {n} {writes}) fits a e = cc

    plain_inside : (call : Call E) (doing : Doing) → IsPlain call doing → Fits (faces_of base book l) call → is_inside Phase.Calling doing ≡ true → lane.phase ≡ Phase.In
    plain_inside _ _ (IsPlain.begin {set}) fits e = cc
    plain_inside _ _ (IsPlain.read {a = b}) fits e = fits.phase
    plain_inside _ _ IsPlain.abort fits e = fits.phase
    plain_inside _ _ IsPlain.checkpoint fits e = cc
    plain_inside _ _ IsPlain.savepoint fits e = fits.phase
    plain_inside _ _ (IsPlain.rollback {n}) fits e = fits.phase

    inside_is : (writes : List WordWrite) (call : Call E) (doing : Doing) → Laws.IsWordCall call doing writes → Fits (faces_of base book l) call →
        is_inside Phase.Calling doing ≡ true → lane.phase ≡ Phase.In
    inside_is _ _ _ (Laws.IsWordCall.plain {call} {doing} p) fits e = plain_inside call doing p fits e
    inside_is _ _ _ (Laws.IsWordCall.write {a = b} {v}) fits e = fits.phase
    inside_is _ _ _ (Laws.IsWordCall.batch {n} {writes}) fits e = fits.phase

    plain_set : (call : Call E) (doing : Doing) → IsPlain call doing → May deeds (faces_of base book l) call → (set : ℕ) → doing ≡ Doing.Begin set →
        MayTake base.structures lane.begun set
    plain_set _ _ (IsPlain.begin {set = k}) may set e = subst (λ (n : ℕ). MayTake base.structures lane.begun n) (ap set_of e) (record { inside = may.inside; few = may.few })
    plain_set _ _ (IsPlain.read {a}) may set e = absurd (no_begin (Doing.Read a) refl set e)
    plain_set _ _ IsPlain.abort may set e = absurd (no_begin Doing.Abort refl set e)
    plain_set _ _ IsPlain.checkpoint may set e = absurd (no_begin Doing.Checkpoint refl set e)
    plain_set _ _ IsPlain.savepoint may set e = absurd (no_begin Doing.Savepoint refl set e)
    plain_set _ _ (IsPlain.rollback {n}) may set e = absurd (no_begin (Doing.RollbackTo n) refl set e)

    set_is : (writes : List WordWrite) (call : Call E) (doing : Doing) → Laws.IsWordCall call doing writes → May deeds (faces_of base book l) call → (set : ℕ) →
        doing ≡ Doing.Begin set → MayTake base.structures lane.begun set
    set_is _ _ _ (Laws.IsWordCall.plain {call} {doing} p) may set e = plain_set call doing p may set e
    set_is _ _ _ (Laws.IsWordCall.write {a} {v}) may set e = absurd (no_begin (Doing.Write a v) refl set e)
    set_is _ _ _ (Laws.IsWordCall.batch {n} {writes}) may set e = absurd (no_begin (Doing.Batch n) refl set e)

    plain_other : (call : Call E) (doing : Doing) → IsPlain call doing → doing ≡ Doing.Commit → ⊥
    plain_other _ _ (IsPlain.begin {set}) e = cc
    plain_other _ _ (IsPlain.read {a}) e = cc
    plain_other _ _ IsPlain.abort e = cc
    plain_other _ _ IsPlain.checkpoint e = cc
    plain_other _ _ IsPlain.savepoint e = cc
    plain_other _ _ (IsPlain.rollback {n}) e = cc

    no_commit : (writes : List WordWrite) (call : Call E) (doing : Doing) → Laws.IsWordCall call doing writes → doing ≡ Doing.Commit → ⊥
    no_commit _ _ _ (Laws.IsWordCall.plain {call} {doing} p) e = plain_other call doing p e
    no_commit _ _ _ (Laws.IsWordCall.write {a} {v}) e = cc
    no_commit _ _ _ (Laws.IsWordCall.batch {n} {writes}) e = cc

  pub asks_keep : Laws.AsksKeep deeds
  asks_keep layout base book later l promised call doing writes lawful lt nothing word fits may has = replaces deeds layout base book later l (lane_at later l) book.touched lt has.is
      (same_lane (lane_at book l) (lane_at later l) (ap (λ (x : Lane _). x.held) has.lane.asks.is) (ap (λ (x : Lane _). x.transaction) has.lane.asks.is) (ap (λ (x : Lane _). x.begun) has.lane.asks.is))
      (λ was. asked deeds base book.history.items book.next_transaction l (lane_at book l) was (lane_at later l) call doing writes promised nothing has.lane.entry_stays has.lane.asks
      (words_are layout base book l lawful writes call doing word fits) (read_is layout base book l lawful writes call doing word fits)
      (set_is layout base book l lawful writes call doing word may) (no_commit layout base book l lawful writes call doing word)
      (inside_is layout base book l lawful writes call doing word fits)) lawful

  pub commit_asks_keep : Depends deeds → Laws.CommitAsksKeep deeds
  commit_asks_keep depends layout base book later l deed writes touched lawful whole lt nothing fits may writes_are is =
      replaces deeds layout base book later l (committing l deed writes (lane_at book l)) touched lt is
      (same_lane (lane_at book l) (committing l deed writes (lane_at book l)) refl refl refl)
      (λ was. committing_is deeds base book.history.items book.next_transaction l (lane_at book l) was depends layout deed writes nothing fits.phase
      (ready_of (length book.history.items) (lane_at book l) nothing (whole l)).stored may writes_are) lawful

  -- ---- an entry joins

  pub joins_keep : Depends deeds → Laws.JoinsKeep deeds
  joins_keep depends layout base book later l part e lawful whole lt has is =
      joins deeds depends layout base book later l (moved part (entered_lane (lane_at book l))) e lt has is
      (same_lane (lane_at book l) (moved part (entered_lane (lane_at book l))) refl refl refl) whole
      (λ was. entering_is deeds base book.history.items book.next_transaction l (lane_at book l) was part e (whole l).behind has) lawful

  pub commits_keep : Depends deeds → Laws.CommitsKeep deeds
  commits_keep depends layout base book later l e lawful whole lt has is =
      joins deeds depends layout base book later l (left Committed (entered_lane (lane_at book l))) e lt has is
      (no_lane (lane_at book l) (left Committed (entered_lane (lane_at book l))) refl refl refl) whole
      (λ was. committed_is deeds base book.history.items book.next_transaction l (lane_at book l) was Committed e refl (some_of _ _ lawful.numbers) has) lawful

  -- ---- a begin

  begins : (layout : Layout) (base : Base) (book later : Book E) (l set : ℕ) → IsLawfulBook deeds layout base book → l < length book.lanes.items →
      (lane_at book l).doing ≡ Doing.Begin set → IsBook book → AreLoose book set →
      later ≡ record (with_lane book l (begun_lane book.next_transaction set (length book.history.items) (lane_at book l)) None) {
        next_transaction = book.next_transaction + 1;
      } → IsLawfulBook deeds layout base later
  begins layout base book later l set lawful lt doing whole loose is = subst (λ (b : Book _). IsLawfulBook deeds layout base b) (sym is) record {
    place = lawful.place;
    many = lawful.many;
    owners = lawful.owners;
    lawful = lawful.lawful;
    sorts = lawful.sorts;
    past = each_map (IsPast base.heap book.next_transaction) (IsPast base.heap (book.next_transaction + 1)) book.history.items
        (λ e p. record { begun = let b = p.begun in omega (arith, b); data_writes = p.data_writes }) lawful.past;
    numbers = one_more _ _ _ _ _ (lawful.lanes l).begun lawful.numbers (sum_with (λ (x : Lane E). x.begun) book l begun None lt);
    lanes = by_lane (λ k x. IsLawfulLane deeds base book.history.items (book.next_transaction + 1) k x) book l begun None lt
        (beginning_is deeds base book.history.items book.next_transaction l (lane_at book l) (lawful.lanes l) set lawful.past (some_of _ _ lawful.numbers) doing cleared.writes_gone)
        (λ k ne. next_is deeds base book.history.items book.next_transaction k (lane_at book k) (lawful.lanes k));
    apart = apart_with book l begun None lt lawful.apart
        (λ k s ne on. loose s (let below = bit_below set base.structures s ((lawful.lanes l).own_set set doing).inside on in let few = lawful.place.few in omega (arith, below, few)) on k);
    of_one = of_one_with book l begun None lt lawful.of_one (λ k ne some same. let lt = (lawful.lanes k).begun in omega (arith, lt, same));
  }
    where
      one_more : (next later s m t : ℕ) → t < next → next ≡ s + 1 → later + m ≡ s + (m + 1) → next + 1 ≡ later + 1
      one_more next later s m t lt e f = omega (arith, e, f)

      begun : Lane E
      begun = begun_lane book.next_transaction set (length book.history.items) (lane_at book l)

      cleared : IsEmptied (lane_at book l)
      cleared = subst (IsAboutIt (lane_at book l)) doing (whole l).about

  pub begins_keep : Laws.BeginsKeep deeds
  begins_keep layout base book later l set _ lawful lt doing whole (BeginEnds.waits s holder least is) =
      steps_keep layout base book later l (noted (Waiting (Structure s) holder) (lane_at book l)) None lawful lt is (record {
        same = record { held = refl; begun = refl; commits = refl; transaction = refl; joined = refl; gives = refl; entry = refl };
        writes = refl;
        phase = refl;
        doing = refl;
        entered = refl;
      })
  begins_keep layout base book later l set _ lawful lt doing whole (BeginEnds.takes loose is) = begins layout base book later l set lawful lt doing whole loose is

  -- ---- what follows

  module _ (layout : Layout) (base : Base) (book : Book E) (lawful : IsLawfulBook deeds layout base book) where
    flights_can_join : Each (CanJoin deeds base book.history.items) (flights_of book)
    flights_can_join = each_flight (CanJoin deeds base book.history.items) book.lanes.items
        (λ i e has. coming_can_join deeds base book.history.items book.next_transaction i (lane_at book i) e (lawful.lanes i) (flies (lane_at book i) e has))

    apart_from : (i j : ℕ) (e f : Entry E) → i ≢ j → (lane_at book i).entry ≡ Some e → (lane_at book j).entry ≡ Some f → IsApartFrom deeds e f
    apart_from i j e f ne one other =
        let first = (lawful.lanes i).coming e one in let second = (lawful.lanes j).coming f other in record {
          lanes = λ same. ne (sym first.lane_is ∙ same ∙ second.lane_is);
          transactions = λ same. lawful.of_one i j ne first.some (sym first.transaction ∙ same ∙ second.transaction);
          sets = λ s on. subst (λ (n : ℕ). has_bit n s ≡ false) (sym first.names)
              (lawful.apart j i s (λ same. ne (sym same)) (subst (λ (n : ℕ). has_bit n s ≡ true) second.names on));
        }

    flights_all_apart : AreAllApart deeds (flights_of book)
    flights_all_apart = flights_apart deeds book.lanes.items
        (λ i j e f ne one other. apart_from i j e f ne (flies (lane_at book i) e one) (flies (lane_at book j) f other))

  pub flights_are_lawful : Depends deeds → Laws.FlightsAreLawful deeds
  flights_are_lawful depends layout base book lawful =
      let all = all_joined deeds depends base (flights_of book) book.history.items (good_book deeds layout base book lawful)
      (flights_can_join layout base book lawful) (flights_all_apart layout base book lawful) in
      record { lawful = all.lawful; sorts = all.sorts }

  pub some_flights_are_lawful : Depends deeds → Laws.SomeFlightsAreLawful deeds
  some_flights_are_lawful depends layout base book lawful picks =
      let all = all_joined deeds depends base (filter picks (flights_of book)) book.history.items (good_book deeds layout base book lawful)
      (each_filter (CanJoin deeds base book.history.items) picks (flights_of book) (flights_can_join layout base book lawful))
      (apart_filter deeds picks (flights_of book) (flights_all_apart layout base book lawful)) in
      record { lawful = all.lawful; sorts = all.sorts }

  pub writes_are_held : Laws.WritesAreHeld deeds
  writes_are_held layout base book lawful l n lt = word_is layout base book l lawful (get_or (lane_at book l).writes.items n no_write).address ∙
      word_at (lane_at book l).held base.heap (lane_at book l).writes.items n lt (lawful.lanes l).own_writes

  pub reads_are_held : Laws.ReadsAreHeld deeds
  reads_are_held layout base book lawful l a doing = word_is layout base book l lawful a ∙ (lawful.lanes l).own_read a doing

  pub batches_are_held : Laws.BatchesAreHeld deeds
  batches_are_held layout base book lawful l n =
      let lane = lane_at book l in
      holds_all deeds base book.history.items book.next_transaction l lane lawful.past (lawful.lanes l) (drop (length lane.writes.items - n) lane.writes.items)
      (words_drop lane.held base.heap (length lane.writes.items - n) lane.writes.items (lawful.lanes l).own_writes)

  pub calls_are_held : Laws.CallsAreHeld deeds
  calls_are_held layout base book lawful whole l a v doing = word_is layout base book l lawful a ∙ last_word (lane_at book l).writes.items about.last (lawful.lanes l).own_writes
    where
      about : IsLastOf (record { address = a; value = v }) (lane_at book l).stored (lane_at book l).writes.items
      about = subst (IsAboutIt (lane_at book l)) doing (whole l).about

      last_of : (xs : List WordWrite) → AreWordsOf (lane_at book l).held base.heap (xs ++ record { address = a; value = v } ∷ []) → is_word_of (lane_at book l).held base.heap a ≡ true
      last_of [] words = words.0
      last_of (x ∷ xs) words = last_of xs words.1

      last_word : (writes : List WordWrite) → writes ≡ front 1 writes ++ record { address = a; value = v } ∷ [] → AreWordsOf (lane_at book l).held base.heap writes →
          is_word_of (lane_at book l).held base.heap a ≡ true
      last_word writes is words = last_of (front 1 writes) (subst (λ (ws : List WordWrite). AreWordsOf (lane_at book l).held base.heap ws) is words)

  pub same_books_keep : Laws.SameBooksKeep deeds
  same_books_keep layout base book later lawful same = record {
    place = lawful.place;
    owners = subst (λ (bs : List Standing). AreAsOwned (layout_shape layout) base.heap.at bs) (sym same.blocks) lawful.owners;
    lawful = subst (λ (es : List (Entry _)). ∥ Lawful deeds base.heap es ∥₁) (sym same.history) lawful.lawful;
    sorts = subst (HaveSorts deeds base.sorts) (sym same.history) lawful.sorts;
    past = subst (λ (es : List (Entry _)). Each (IsPast base.heap later.next_transaction) es) (sym same.history)
        (subst (λ (n : ℕ). Each (IsPast base.heap n) book.history.items) (sym same.next) lawful.past);
    many = ap (λ (bs : List Standing). length bs) same.blocks ∙ lawful.many;
    numbers = same.next ∙ lawful.numbers ∙ ap (λ (n : ℕ). n + 1) (sum_is book later same.lanes);
    lanes = λ l. subst (λ (x : Lane _). IsLawfulLane deeds base later.history.items later.next_transaction l x) (sym (lane_is l))
        (subst (λ (es : List (Entry _)). IsLawfulLane deeds base es later.next_transaction l (lane_at book l)) (sym same.history)
        (subst (λ (n : ℕ). IsLawfulLane deeds base book.history.items n l (lane_at book l)) (sym same.next) (lawful.lanes l)));
    apart = λ l k s ne on. ap (λ (x : Lane _). has_bit x.held s) (lane_is k) ∙ lawful.apart l k s ne (ap (λ (x : Lane _). has_bit x.held s) (sym (lane_is l)) ∙ on);
    of_one = λ l k ne some is. lawful.of_one l k ne (λ none. some (ap (λ (x : Lane _). x.transaction) (lane_is l) ∙ none))
        (ap (λ (x : Lane _). x.transaction) (sym (lane_is l)) ∙ is ∙ ap (λ (x : Lane _). x.transaction) (lane_is k));
  }
    where
      sum_is : (b c : Book E) → c.lanes ≡ b.lanes → sum_of (λ (x : Lane E). x.begun) b ≡ sum_of (λ (x : Lane E). x.begun) c
      sum_is b c is = λ i. sum_of (λ (x : Lane E). x.begun) (record c { lanes = sym is i })

      lane_is : (l : ℕ) → lane_at later l ≡ lane_at book l
      lane_is l = λ i. get_or (same.lanes i).items l idle_lane

  pub fresh_books_are_lawful : Laws.FreshBooksAreLawful deeds
  fresh_books_are_lawful layout base lanes blocks sorts book fresh place many owners = record {
    place = place;
    many = ap (λ (bs : List Standing). length bs) fresh.stand ∙ many;
    owners = subst (λ (bs : List Standing). AreAsOwned (layout_shape layout) base.heap.at bs) (sym fresh.stand) owners;
    lawful = subst (λ (es : List (Entry _)). ∥ Lawful deeds base.heap es ∥₁) (sym fresh.none_joined) ∣ tt ∣₁;
    sorts = subst (HaveSorts deeds base.sorts) (sym fresh.none_joined) tt;
    past = subst (λ (es : List (Entry _)). Each (IsPast base.heap book.next_transaction) es) (sym fresh.none_joined) tt;
    numbers = fresh.next ∙ ap (λ (n : ℕ). n + 1) (sym (none_begun (length book.lanes.items)));
    lanes = λ l. subst (λ (x : Lane _). IsLawfulLane deeds base book.history.items book.next_transaction l x) (sym (fresh.idle l))
        (free_is_lawful deeds base book.history.items book.next_transaction l idle_lane idle_free (let n = fresh.next in omega (arith, n))
        (subst (λ (es : List (Entry _)). Each (λ (x : Entry _). x.lane ≡ l → x.number < 0) es) (sym fresh.none_joined) tt));
    apart = λ l k s ne on. ap (λ (x : Lane _). has_bit x.held s) (fresh.idle k) ∙ no_bit s;
    of_one = λ l k ne some is. some (ap (λ (x : Lane _). x.transaction) (fresh.idle l));
  }
    where
      none_begun : (n : ℕ) → sum_below (λ (x : Lane E). x.begun) book n ≡ 0
      none_begun zero = refl
      none_begun (suc n) = let below = none_begun n in let here = ap (λ (x : Lane E). x.begun) (fresh.idle n) in omega (arith, below, here)

      idle_free : IsFree (idle_lane {E = E})
      idle_free = record { held = refl; transaction = refl; gives = refl; writes = refl; doing = refl; phase = refl; entry = refl; entered = refl; few = omega arith; most = omega arith }
