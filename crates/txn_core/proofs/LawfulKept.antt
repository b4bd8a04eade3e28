-- The history of a world stays lawful, and what follows from that.
use Rattle.std.proofs.Common.{◌≡◌, ◌≢◌, inl, inr, ℕ, ◌==◌, nat_le, ◌+◌, ◌-◌, ◌<◌, ◌≤◌, ◌^◌, Bool, true, false, ◌&&◌, nat_lt, if◌then◌else◌, List, [], ◌∷◌, ◌++◌, length, take, drop, map, slice_set, Option, Some, None, refl, sym, ap, ◌∙◌, subst, arith, append-nil}
use Rattle.std.specs.List.{filter, list_any}
use Rattle.std.proofs.lemmas.Bool.Decides.{nat_tests, eqb_tells}
use Rattle.std.proofs.lemmas.Option.{slice_get_within}
use Rattle.persist_model.specs.Region.{Words}
use Rattle.persist_model.specs.Shape.{block}
use Rattle.lane_traits.specs.Draft.{after_writes, is_among}
use Rattle.lane_traits.specs.declared.draft.WordWrite.{WordWrite}
use Rattle.region_layout.specs.declared.layout.Layout.{Layout}
use Rattle.region_layout.specs.Layout.{layout_shape}
use Rattle.offset_alloc.specs.declared.Standing.{Standing}
use Rattle.offset_alloc.specs.declared.Standing.TheVariants.{Free, Owned, Pending}
use Rattle.offset_alloc.specs.Blocks.{AreAsOwned, IsFree}
use Rattle.lane_types.specs.declared.call.Call.{Call}
use Rattle.lane_types.specs.declared.call.Phase.{Phase}
use Rattle.lane_types.specs.declared.call.Reply.{Reply}
use Rattle.lane_types.specs.declared.call.Reply.TheVariants.{Committed}
use Rattle.lane_types.specs.declared.call.Stepped.{Stepped}
use Rattle.lane_types.specs.declared.face.Entry.{Entry}
use Rattle.lane_types.specs.Deeds.{Deeds}
use Rattle.lane_types.specs.Heaps.{Heap, names_in, block_address, block_of}
use Rattle.lane_types.specs.Histories.{after_entries}
use Rattle.lane_types.specs.Faces.{Base, phase_after}
use Rattle.lane_types.specs.Asks.{has_word, Fits}
use Rattle.lane_types.specs.May.{AreData, MayCommit, May}
use Rattle.lane_book.specs.declared.lane.Lane.{Lane}
use Rattle.lane_book.specs.declared.lane.Doing.{Doing}
use Rattle.lane_book.specs.declared.book.Book.{Book}
use Rattle.lane_book.specs.Lanes.{moved, left, entered_lane, with_lane, with_history}
use Rattle.lane_book.specs.FacesOf.{lane_at, faces_of, begun_heap}
use Rattle.lane_book.specs.Flights.{flights_of}
use Rattle.lane_book.specs.Steps.{IsLawfulFrom, HasEntry, held_by, IsAskedIn, IsRoomierIn, CanTake}
use Rattle.lane_book.specs.Books.{IsBook, IsFresh}
use Rattle.lane_book.specs.Entries.{committing, writes_of_entry, disowned}
use Rattle.lane_book.specs.Locks.{BeginEnds}
use Rattle.lane_book.specs.Refusals.{AreStructures, ShowsBlocks}
use Rattle.lawful_book.specs.LawfulBooks.{Each, MayTake, IsHeapOf, is_inside}
use Rattle.lawful_book.specs.Laws.{GoesOn, IsSameBook, IsWordCall, IsAnswered, words_now}
use Rattle.lawful_book.specs.OwnedBooks.{owner_in, is_ours, is_own_word, moves_block, AreOpen, IsOwnWrite, IsOwnedLane, IsOwnedBook}
use Rattle.lawful_book.specs.OwnedLaws as owned_laws
use Rattle.lawful_book.proofs.Booking.{by_lane}
use Rattle.lawful_book.proofs.Histories.{Depends, each_take, each_last, each_map, after_last}
use Rattle.lawful_book.proofs.OwnedHeaps.{never, by_bool, named_is, no_next, after_none, owner_block}
use Rattle.lawful_book.proofs.OwnedWrites.{write_ours}
use Rattle.lawful_book.proofs.OwnedBooking.{owner_ours_behind}
use Rattle.lawful_book.proofs.OwnedShowing.{held_ours, held_place, apart_words}
use Rattle.lawful_book.proofs.OwnedAsking.{set_same, set_other}
use Rattle.lawful_book.proofs.OwnedKept as kept
use Rattle.lawful_book.proofs.OwnedCalls as calls
use Rattle.txn_core.specs.LawfulWorlds.{LeavesBlock, AreUnwritten, NoRootIsFree, IsLawfulWorld}

-- ---- no block is given

pub gives_with : {E : Type 0} (book : Book E) (l : ℕ) (lane : Lane E) (touched : Option ℕ) → l < length book.lanes.items → lane.gives.items ≡ [] →
    ((k : ℕ) → (lane_at book k).gives.items ≡ []) → (k : ℕ) → (lane_at (with_lane book l lane touched) k).gives.items ≡ []
gives_with book l lane touched lt here all = by_lane (λ k (x : Lane _). x.gives.items ≡ []) book l lane touched lt here (λ k ne. all k)

-- one lane is another, which gave none either
module _ {E : Type 0} (deeds : Deeds E) (layout : Layout) (base : Base) (book later : Book E) (l : ℕ) (lane : Lane E) (touched : Option ℕ)
    (was : IsLawfulWorld deeds layout base book) (lt : l < length book.lanes.items) (is : later ≡ with_lane book l lane touched) where
  replaced : lane.gives.items ≡ [] → IsOwnedBook deeds layout base later → IsLawfulWorld deeds layout base later
  replaced none owned = record {
    owned = owned;
    no_gives = subst (λ (b : Book _). (k : ℕ) → (lane_at b k).gives.items ≡ []) (sym is) (gives_with book l lane touched lt none was.no_gives);
    unwritten = subst (λ (es : List (Entry _)). AreUnwritten base.heap es) (sym (ap (λ (b : Book _). b.history.items) is)) was.unwritten;
    no_root = subst (NoRootIsFree layout.structures) (sym (ap (λ (b : Book _). b.blocks) is)) was.no_root;
  }

-- ---- an entry joins

module _ {E : Type 0} (deeds : Deeds E) (layout : Layout) (base : Base) (book : Book E) (was : IsLawfulWorld deeds layout base book) (l : ℕ) (e : Entry E)
    (has : (lane_at book l).entry ≡ Some e) where
  abbrev old : Lane E
  old = lane_at book l

  abbrev now : Words
  now = after_entries book.history.items base.heap.at

  writes_are : e.writes ≡ old.writes.items
  writes_are = ((was.owned.lanes l).coming e has).writes ∙ ap (λ (gs : List ℕ). old.writes.items ++ map (disowned layout) gs) (was.no_gives l) ∙ append-nil old.writes.items

  open_is : AreOpen old.held base.heap (begun_heap base book.history.items old).at now book.blocks old.writes.items old.gives.items
  open_is = (was.owned.lanes l).open_is ((was.owned.lanes l).coming e has).new

  -- it writes in blocks of its own alone
  elsewhere : (k : ℕ) → is_ours old.held book.blocks k ≡ false → LeavesBlock base.heap k e.writes
  elsewhere k off = subst (LeavesBlock base.heap k) (sym writes_are)
      (each_map (IsOwnWrite old.held base.heap (begun_heap base book.history.items old).at book.blocks) (λ (w : WordWrite). block_of base.heap w.address ≢ k) old.writes.items
      (λ w own at. never (is_ours old.held book.blocks k)
      (subst (λ (n : ℕ). is_ours old.held book.blocks n ≡ true) at (write_ours old.held base.heap (begun_heap base book.history.items old).at book.blocks w own)) off)
      open_is.writes_are)

  unnamed : (k : ℕ) → LeavesBlock base.heap k e.writes → Each (λ (w : WordWrite). w.address ≢ block_address base.heap k) e.writes
  unnamed k leaves = each_map (λ (w : WordWrite). block_of base.heap w.address ≢ k) (λ (w : WordWrite). w.address ≢ block_address base.heap k) e.writes
      (λ w other at. other (ap (block_of base.heap) at ∙ owner_block base.heap k)) leaves

  kept_gives : (k : ℕ) → is_among old.gives.items k ≡ false
  kept_gives k = ap (λ (gs : List ℕ). is_among gs k) (was.no_gives l)

  pub unwritten_behind : AreUnwritten base.heap (book.history.items ++ e ∷ [])
  unwritten_behind k inside zero = by_bool _ (is_ours old.held book.blocks k)
      (λ ours. (let it = named_is old.held (owner_in book.blocks k) ours in
      absurd (no_next it.0 (sym behind_zero ∙ owner_ours_behind deeds layout base book was.owned l e has k inside ours (kept_gives k) ∙ it.1))))
      (λ off. (let leaves = elsewhere k off in
      each_last (λ (x : Entry _). LeavesBlock base.heap k x.writes) book.history.items e
      (was.unwritten k inside (sym (after_none e.writes now (block_address base.heap k) (unnamed k leaves)) ∙ behind_zero)) leaves))
    where
      behind_zero : after_writes e.writes now (block_address base.heap k) ≡ 0
      behind_zero = sym (ap (λ (u : Words). u (block_address base.heap k)) (after_last book.history.items e base.heap.at)) ∙ zero

-- ---- free blocks

-- a block that is free where another was taken was free before
free_before : (blocks : List Standing) (k j s : ℕ) → k < length blocks → IsFree (slice_set blocks k (Owned s)) j → IsFree blocks j
free_before blocks k j s lt free = elim (eqb_tells j k) [
  | inl same ↦ (let clash : Some (Owned s) ≡ Some Free = sym (set_same blocks k (Owned s) lt) ∙ subst (IsFree (slice_set blocks k (Owned s))) same.1 free in absurd (cc))
  | inr other ↦ sym (set_other blocks k j (Owned s) other.1) ∙ free
]

at_most : (m n : ℕ) → nat_lt m n ≡ false → n ≤ m
at_most m n off = grind (arith, nat_tests, off)

free_only : (n k m : ℕ) → Some (if n == 0 then (if nat_lt k m then Pending else Free) else (if nat_le n m then Owned (n - 1) else Pending)) ≡ Some Free → m ≤ k
free_only n k m is = by_bool (m ≤ k) (nat_lt k m) (λ on. absurd (by_zero (n == 0) (ap (λ (t : Bool). Some (if n == 0 then (if t then Pending else Free) else (if nat_le n m then Owned (n - 1) else Pending))) (sym on) ∙ is))) (λ off. at_most k m off)
  where
    by_most : (t : Bool) → Some (if t then Owned (n - 1) else Pending) ≡ Some Free → ⊥
    by_most true e = cc
    by_most false e = cc

    by_zero : (t : Bool) → Some (if t then Pending else (if nat_le n m then Owned (n - 1) else Pending)) ≡ Some Free → ⊥
    by_zero true e = cc
    by_zero false e = by_most (nat_le n m) e

-- by the owner words no root is free
roots_stand : (layout : Layout) (w : Words) (blocks : List Standing) → length blocks ≡ layout.blocks → AreAsOwned (layout_shape layout) w blocks → NoRootIsFree layout.structures blocks
roots_stand layout w blocks many owned k free =
    let lt = slice_get_within blocks k Free free in
    free_only (w (block (layout_shape layout) k)) k layout.structures (sym (owned.each k (omega (arith, lt, many))) ∙ free)

after_none_of : {E : Type 0} (entries : List (Entry E)) (u : Words) (a : ℕ) → Each (λ (e : Entry E). Each (λ (w : WordWrite). w.address ≢ a) e.writes) entries → after_entries entries u a ≡ u a
after_none_of [] u a each = refl
after_none_of (e ∷ entries) u a each = after_none_of entries (after_writes e.writes u) a each.1 ∙ after_none e.writes u a each.0

module _ {E : Type 0} (deeds : Deeds E) where
  -- ---- a step

  pub steps_keep : (layout : Layout) (base : Base) (book later : Book E) (l : ℕ) (lane : Lane E) (touched : Option ℕ) → IsLawfulWorld deeds layout base book →
      l < length book.lanes.items → later ≡ with_lane book l lane touched → GoesOn (lane_at book l) lane → IsLawfulWorld deeds layout base later
  steps_keep layout base book later l lane touched was lt is goes = replaced deeds layout base book later l lane touched was lt is (goes.same.gives ∙ was.no_gives l)
      (kept.steps_keep deeds layout base book later l lane touched was.owned lt is goes)

  none_left : (h : Heap) (writes : List WordWrite) → AreData h (drop (length writes) writes)
  none_left h [] = tt
  none_left h (w ∷ writes) = none_left h writes

  pub answers_keep : (layout : Layout) (base : Base) (book later : Book E) (l : ℕ) (reply : Reply) (lane : Lane E) (touched : Option ℕ) → IsLawfulWorld deeds layout base book →
      l < length book.lanes.items → later ≡ with_lane book l lane touched → IsAnswered reply (length (lane_at book l).writes.items) (lane_at book l) lane →
      IsLawfulWorld deeds layout base later
  answers_keep layout base book later l reply lane touched was lt is answer = replaced deeds layout base book later l lane touched was lt is (answer.same.gives ∙ was.no_gives l)
      (kept.answers_keep deeds layout base book later l (length (lane_at book l).writes.items) reply lane touched was.owned lt is answer (none_left base.heap (lane_at book l).writes.items))

  pub same_books_keep : (layout : Layout) (base : Base) (book later : Book E) → IsLawfulWorld deeds layout base book → IsSameBook book later → IsLawfulWorld deeds layout base later
  same_books_keep layout base book later was same = record {
    owned = calls.same_books_keep deeds layout base book later was.owned same;
    no_gives = λ k. ap (λ (b : Book _). (lane_at b k).gives.items) (same_lanes book later same.lanes) ∙ was.no_gives k;
    unwritten = subst (λ (es : List (Entry _)). AreUnwritten base.heap es) (sym same.history) was.unwritten;
    no_root = subst (NoRootIsFree layout.structures) (sym same.blocks) was.no_root;
  }
    where
      same_lanes : (b c : Book E) → c.lanes ≡ b.lanes → record c { lanes = c.lanes } ≡ record c { lanes = b.lanes }
      same_lanes b c is = λ i. record c { lanes = is i }

  pub refusals_keep : (layout : Layout) (base : Base) (book later : Book E) (l : ℕ) → IsLawfulWorld deeds layout base book → l < length book.lanes.items →
      IsRoomierIn book later l → IsLawfulWorld deeds layout base later
  refusals_keep layout base book later l was lt roomier = replaced deeds layout base book later l (lane_at later l) book.touched was lt roomier.is (roomier.lane.gives ∙ was.no_gives l)
      (kept.refusals_keep deeds layout base book later l was.owned lt roomier)

  -- ---- a begin, and an end

  begins_with : (layout : Layout) (base : Base) (book later : Book E) (l : ℕ) (lane : Lane E) (next : ℕ) → IsLawfulWorld deeds layout base book → l < length book.lanes.items →
      later ≡ record (with_lane book l lane None) { next_transaction = next } → lane.gives.items ≡ [] → IsOwnedBook deeds layout base later → IsLawfulWorld deeds layout base later
  begins_with layout base book later l lane next was lt is none owned = record {
    owned = owned;
    no_gives = subst (λ (b : Book _). (k : ℕ) → (lane_at b k).gives.items ≡ []) (sym is) (gives_with book l lane None lt none was.no_gives);
    unwritten = subst (λ (es : List (Entry _)). AreUnwritten base.heap es) (sym (ap (λ (b : Book _). b.history.items) is)) was.unwritten;
    no_root = subst (NoRootIsFree layout.structures) (sym (ap (λ (b : Book _). b.blocks) is)) was.no_root;
  }

  pub begins_keep : (layout : Layout) (base : Base) (book later : Book E) (l set : ℕ) (answer : Stepped) → IsLawfulWorld deeds layout base book → l < length book.lanes.items →
      (lane_at book l).doing ≡ Doing.Begin set → IsBook book → BeginEnds book later l set answer → IsLawfulWorld deeds layout base later
  begins_keep layout base book later l set _ was lt doing whole (BeginEnds.waits s holder least is) =
      replaced deeds layout base book later l _ None was lt is (was.no_gives l)
      (calls.begins_keep deeds layout base book later l set _ was.owned lt doing whole (BeginEnds.waits s holder least is))
  begins_keep layout base book later l set _ was lt doing whole (BeginEnds.takes loose is) =
      begins_with layout base book later l _ (book.next_transaction + 1) was lt is (was.no_gives l)
      (calls.begins_keep deeds layout base book later l set _ was.owned lt doing whole (BeginEnds.takes loose is))

  -- a transaction is over whose entry joined, or which took nothing
  pub leaves_keep : (layout : Layout) (base : Base) (book later : Book E) (l : ℕ) (reply : Reply) (touched : Option ℕ) → IsLawfulWorld deeds layout base book →
      l < length book.lanes.items → phase_after reply ≡ Phase.Out → ((lane_at book l).entered ≡ false → AreData base.heap (lane_at book l).writes.items) →
      later ≡ with_lane book l (left reply (lane_at book l)) touched → IsLawfulWorld deeds layout base later
  leaves_keep layout base book later l reply touched was lt out none is = replaced deeds layout base book later l (left reply (lane_at book l)) touched was lt is refl
      (kept.leaves_keep deeds layout base book later l reply touched was.owned lt out none is)

  none_given : (blocks : List Standing) (gives : List ℕ) → gives ≡ [] → owned_laws.AreGivenUp gives blocks blocks
  none_given blocks gives none = record {
    many = refl;
    given = λ k inside among. absurd (never (is_among gives k) among (ap (λ (gs : List ℕ). is_among gs k) none));
    others = λ k kept. refl;
  }

  joined_with : (layout : Layout) (base : Base) (book later : Book E) (l : ℕ) (lane : Lane E) (e : Entry E) → IsLawfulWorld deeds layout base book → l < length book.lanes.items →
      (lane_at book l).entry ≡ Some e → later ≡ with_history (book.history.items ++ e ∷ []) (with_lane book l lane None) → lane.gives.items ≡ [] →
      IsOwnedBook deeds layout base later → IsLawfulWorld deeds layout base later
  joined_with layout base book later l lane e was lt has is none owned = record {
    owned = owned;
    no_gives = subst (λ (b : Book _). (k : ℕ) → (lane_at b k).gives.items ≡ []) (sym is) (gives_with book l lane None lt none was.no_gives);
    unwritten = subst (λ (es : List (Entry _)). AreUnwritten base.heap es) (sym (ap (λ (b : Book _). b.history.items) is)) (unwritten_behind deeds layout base book was l e has);
    no_root = subst (NoRootIsFree layout.structures) (sym (ap (λ (b : Book _). b.blocks) is)) was.no_root;
  }

  pub joins_keep : Depends deeds → (layout : Layout) (base : Base) (book later : Book E) (l part : ℕ) (e : Entry E) → IsLawfulWorld deeds layout base book → IsBook book →
      l < length book.lanes.items → (lane_at book l).entry ≡ Some e →
      later ≡ with_history (book.history.items ++ e ∷ []) (with_lane book l (moved part (entered_lane (lane_at book l))) None) → IsLawfulWorld deeds layout base later
  joins_keep depends layout base book later l part e was whole lt has is =
      joined_with layout base book later l (moved part (entered_lane (lane_at book l))) e was lt has is (was.no_gives l)
      (kept.joins_keep deeds depends layout base book later l part e book.blocks was.owned whole lt has (none_given book.blocks (lane_at book l).gives.items (was.no_gives l)) is)

  pub commits_keep : Depends deeds → (layout : Layout) (base : Base) (book later : Book E) (l : ℕ) (e : Entry E) → IsLawfulWorld deeds layout base book → IsBook book →
      l < length book.lanes.items → (lane_at book l).entry ≡ Some e →
      later ≡ with_history (book.history.items ++ e ∷ []) (with_lane book l (left Committed (entered_lane (lane_at book l))) None) → IsLawfulWorld deeds layout base later
  commits_keep depends layout base book later l e was whole lt has is =
      joined_with layout base book later l (left Committed (entered_lane (lane_at book l))) e was lt has is refl
      (kept.commits_keep deeds depends layout base book later l e book.blocks was.owned whole lt has (none_given book.blocks (lane_at book l).gives.items (was.no_gives l)) is)

  -- an abort is answered, and what its transaction took is free; it took no root
  pub aborts_keep : (layout : Layout) (base : Base) (book later : Book E) (l : ℕ) (reply : Reply) (blocks : List Standing) (touched : Option ℕ) → IsLawfulWorld deeds layout base book →
      l < length book.lanes.items → phase_after reply ≡ Phase.Out → (lane_at book l).entered ≡ false →
      owned_laws.AreLetGo base.heap (lane_at book l).writes.items book.blocks blocks → NoRootIsFree layout.structures blocks →
      later ≡ with_lane (record book { blocks = blocks }) l (left reply (lane_at book l)) touched → IsLawfulWorld deeds layout base later
  aborts_keep layout base book later l reply blocks touched was lt out new go no_root is = record {
    owned = kept.aborts_keep deeds layout base book later l reply blocks touched was.owned lt out new go is;
    no_gives = subst (λ (b : Book _). (k : ℕ) → (lane_at b k).gives.items ≡ []) (sym is) (gives_with (record book { blocks = blocks }) l (left reply (lane_at book l)) touched lt refl was.no_gives);
    unwritten = subst (λ (es : List (Entry _)). AreUnwritten base.heap es) (sym (ap (λ (b : Book _). b.history.items) is)) was.unwritten;
    no_root = subst (NoRootIsFree layout.structures) (sym (ap (λ (b : Book _). b.blocks) is)) no_root;
  }

  -- ---- an ask

  pub asks_keep : (layout : Layout) (base : Base) (book later : Book E) (l promised : ℕ) (call : Call E) (doing : Doing) (writes : List WordWrite) →
      IsLawfulWorld deeds layout base book → l < length book.lanes.items → (lane_at book l).doing ≡ Doing.Nothing → IsWordCall call doing writes →
      Fits (faces_of base book l) call → May deeds (faces_of base book l) call → IsAskedIn call doing writes [] promised book later l → IsLawfulWorld deeds layout base later
  asks_keep layout base book later l promised call doing writes was lt nothing word fits may has =
      replaced deeds layout base book later l (lane_at later l) book.touched was lt has.is
      (has.lane.asks.gives_more ∙ append-nil (lane_at book l).gives.items ∙ was.no_gives l)
      (calls.asks_keep deeds layout base book later l promised call doing writes was.owned lt nothing word fits may has)

  pub commit_asks_keep : Depends deeds → (layout : Layout) (base : Base) (book later : Book E) (l : ℕ) (deed : E) (writes : List WordWrite) (touched : Option ℕ) →
      IsLawfulWorld deeds layout base book → IsBook book → l < length book.lanes.items → (lane_at book l).doing ≡ Doing.Nothing →
      Fits (faces_of base book l) (Call.Commit deed) → MayCommit deeds (faces_of base book l) deed → writes ≡ writes_of_entry layout (lane_at book l) →
      later ≡ with_lane book l (committing l deed writes (lane_at book l)) touched → IsLawfulWorld deeds layout base later
  commit_asks_keep depends layout base book later l deed writes touched was whole lt nothing fits may writes_are is =
      replaced deeds layout base book later l (committing l deed writes (lane_at book l)) touched was lt is (was.no_gives l)
      (calls.commit_asks_keep deeds depends layout base book later l deed writes touched was.owned whole lt nothing fits may writes_are is)

  -- a free block is nobody's, so that its words are those of the start, as at the lane's begin
  as_at_begin : (layout : Layout) (base : Base) (book : Book E) (l k : ℕ) → IsLawfulWorld deeds layout base book → IsFree book.blocks k → owned_laws.IsAsAtBegin base book l k
  as_at_begin layout base book l k was free a at = after_none_of (take (lane_at book l).joined book.history.items) base.heap.at a
      (each_take (λ (e : Entry _). Each (λ (w : WordWrite). w.address ≢ a) e.writes) (lane_at book l).joined book.history.items none) ∙
      sym (after_none_of book.history.items base.heap.at a none)
    where
      inside : k < base.heap.blocks
      inside = let lt = slice_get_within book.blocks k Free free in let many = was.owned.many in let place = was.owned.place.blocks in omega (arith, lt, many, place)

      none : Each (λ (e : Entry E). Each (λ (w : WordWrite). w.address ≢ a) e.writes) book.history.items
      none = each_map (λ (e : Entry _). LeavesBlock base.heap k e.writes) (λ (e : Entry _). Each (λ (w : WordWrite). w.address ≢ a) e.writes) book.history.items
          (λ e leaves. each_map (λ (w : WordWrite). block_of base.heap w.address ≢ k) (λ (w : WordWrite). w.address ≢ a) e.writes (λ w other same. other (ap (block_of base.heap) same ∙ at)) leaves)
          (was.unwritten k inside (was.owned.told.free k inside free))

  pub take_asks_keep : (layout : Layout) (base : Base) (book later : Book E) (l s k : ℕ) → IsLawfulWorld deeds layout base book →
      l < length book.lanes.items → (lane_at book l).doing ≡ Doing.Nothing → Fits (faces_of base book l) (Call.Take s) → May deeds (faces_of base book l) (Call.Take s) →
      IsFree book.blocks k →
      IsAskedIn (Call.Take s) (Doing.Take s k) (record { address = block_address base.heap k; value = s + 1 } ∷ []) [] 2 (record book { blocks = slice_set book.blocks k (Owned s) }) later l →
      IsLawfulWorld deeds layout base later
  take_asks_keep layout base book later l s k was lt nothing fits may free has = record {
    owned = calls.take_asks_keep deeds layout base book later l s k was.owned lt nothing fits may free (as_at_begin layout base book l k was free) has;
    no_gives = subst (λ (b : Book _). (j : ℕ) → (lane_at b j).gives.items ≡ []) (sym has.is)
        (gives_with (record book { blocks = slice_set book.blocks k (Owned s) }) l (lane_at later l) book.touched lt
        (has.lane.asks.gives_more ∙ append-nil (lane_at book l).gives.items ∙ was.no_gives l) was.no_gives);
    unwritten = subst (λ (es : List (Entry _)). AreUnwritten base.heap es) (sym (ap (λ (b : Book _). b.history.items) has.is)) was.unwritten;
    no_root = subst (NoRootIsFree layout.structures) (sym (ap (λ (b : Book _). b.blocks) has.is)) no_root;
  }
    where
      no_root : NoRootIsFree layout.structures (slice_set book.blocks k (Owned s))
      no_root j is = was.no_root j (free_before book.blocks k j s (slice_get_within book.blocks k Free free) is)

  -- ---- what follows

  module _ (layout : Layout) (base : Base) (book : Book E) (was : IsLawfulWorld deeds layout base book) where
    pub some_flights_are_lawful : Depends deeds → (picks : Entry E → Bool) → IsLawfulFrom deeds (book.history.items ++ filter picks (flights_of book)) base
    some_flights_are_lawful depends picks = calls.some_flights_are_lawful deeds depends layout base book was.owned picks

    pub blocks_shown : (l : ℕ) → moves_block (lane_at book l).doing ≡ false → ShowsBlocks layout book l base
    blocks_shown l calm = calls.blocks_are_shown deeds layout base book was.owned l calm

    pub calls_are_held : IsBook book → (l a v : ℕ) → (lane_at book l).doing ≡ Doing.Write a v → has_word (held_by base book l) a ≡ true
    calls_are_held whole l a v doing = calls.calls_are_held deeds layout base book was.owned whole l a v doing

    pub reads_are_held : (l a : ℕ) → (lane_at book l).doing ≡ Doing.Read a → has_word (held_by base book l) a ≡ true
    reads_are_held l a doing = calls.reads_are_held deeds layout base book was.owned l a doing

    pub values_are_held : IsBook book → (l a : ℕ) → has_word (held_by base book l) a ≡ true → (held_by base book l).word a ≡ Some (words_now base book l a)
    values_are_held whole l a has = calls.values_are_held deeds layout base book was.owned whole l a has

    pub takes_are_new : (l s k : ℕ) → (lane_at book l).doing ≡ Doing.Take s k → CanTake book l s k (block_address base.heap k) base
    takes_are_new l s k doing = calls.takes_are_new deeds layout base book was.owned l s k doing

    pub numbers_are_left : length book.lanes.items ≤ 16 → book.next_transaction < 2 ^ 64 - 1
    numbers_are_left few = calls.numbers_are_left deeds layout base book was.owned few

    pub commits_are_few : (l : ℕ) → (lane_at book l).commits < 2 ^ 60
    commits_are_few l = calls.commits_are_few deeds layout base book was.owned l

    pub begins_may_take : (l set : ℕ) → (lane_at book l).doing ≡ Doing.Begin set → MayTake base.structures (lane_at book l).begun set
    begins_may_take l set doing = (was.owned.lanes l).own_set set doing

    pub entries_are_there : (l : ℕ) → (lane_at book l).doing ≡ Doing.Commit → (lane_at book l).entered ≡ false → HasEntry l (lane_at book l)
    entries_are_there l doing new = calls.entries_are_there deeds layout base book was.owned l doing new

    pub transactions_have_begun : (l : ℕ) → (lane_at book l).phase ≡ Phase.In → (lane_at book l).doing ≡ Doing.Nothing → 1 ≤ (lane_at book l).begun
    transactions_have_begun l phase nothing = some (some_running phase) (by_bool _ (lane_at book l).entered (λ on. absurd (no_commit (sym nothing ∙ lane.entering on))) (λ off. off))
      where
        lane : IsOwnedLane deeds layout base book.blocks book.history.items book.next_transaction l (lane_at book l)
        lane = was.owned.lanes l

        no_commit : Doing.Nothing ≡ Doing.Commit → ⊥
        no_commit is = cc

        some_running : (lane_at book l).phase ≡ Phase.In → (lane_at book l).transaction ≢ 0
        some_running is = lane.running (ap (λ (p : Phase). is_inside p (lane_at book l).doing) is)

        some : (lane_at book l).transaction ≢ 0 → (lane_at book l).entered ≡ false → 1 ≤ (lane_at book l).begun
        some runs new = let less = lane.counts.less runs new in omega (arith, less)

    pub owners_are_structures : AreStructures book.blocks
    owners_are_structures = calls.owners_are_structures deeds layout base book was.owned

    -- a word that a lane holds is one of its own
    pub own_word : (l a : ℕ) → has_word (held_by base book l) a ≡ true → is_own_word base.heap book.blocks (lane_at book l) a ≡ true
    own_word l a has =
        let place = held_place deeds layout base book was.owned l a has in
        three place.0 (is_less (block_of base.heap a) base.heap.blocks place.1)
        (subst (λ (gs : List ℕ). names_in (lane_at book l).held (if list_any (λ given. block_of base.heap a == given) gs then 0 else owner_in book.blocks (block_of base.heap a)) ≡ true)
        (sym (was.no_gives l)) (held_ours deeds layout base book was.owned l a has))
      where
        is_less : (m n : ℕ) → m < n → nat_lt m n ≡ true
        is_less m n lt = grind (arith, nat_tests, lt)

        three : {s t u : Bool} → s ≡ true → t ≡ true → u ≡ true → (s && (t && u)) ≡ true
        three is_s is_t is_u = λ i. is_s i && (is_t i && is_u i)

  pub words_are_apart : (layout : Layout) (base : Base) (book : Book E) → IsLawfulWorld deeds layout base book → (l k a v : ℕ) → l ≢ k → (held_by base book l).word a ≡ Some v →
      (held_by base book k).word a ≡ None
  words_are_apart layout base book was l k a v ne has = apart_words deeds layout base book was.owned l k a v ne has

  -- ---- the start

  pub fresh_books_are_lawful : (layout : Layout) (base : Base) (lanes : ℕ) (blocks : List Standing) (sorts : List ℕ) (book : Book E) → IsFresh lanes blocks sorts book →
      IsHeapOf layout base → length blocks ≡ layout.blocks → AreAsOwned (layout_shape layout) base.heap.at blocks → IsLawfulWorld deeds layout base book
  fresh_books_are_lawful layout base lanes blocks sorts book fresh place many owned = record {
    owned = calls.fresh_books_are_owned deeds layout base lanes blocks sorts book fresh place many owned;
    no_gives = λ k. ap (λ (x : Lane _). x.gives.items) (fresh.idle k);
    unwritten = subst (λ (es : List (Entry _)). AreUnwritten base.heap es) (sym fresh.none_joined) (λ k inside zero. tt);
    no_root = subst (NoRootIsFree layout.structures) (sym fresh.stand) (λ k free. roots_stand layout base.heap.at blocks many owned k free);
  }
