-- A book with takes and gives in which one lane is another, or blocks stand otherwise, and one whose history has an entry more.
use Rattle.std.proofs.Common.{◌≡◌, ◌≢◌, ◌⊎◌, inl, inr, ⊎_elim, nat_lt, ℕ, ◌+◌, ◌<◌, ◌≤◌, Bool, true, false, List, [], ◌∷◌, ◌++◌, length, slice_get, refl, sym, ◌∙◌, ap, subst, arith, Option, Some, None}
use Rattle.std.proofs.lemmas.Bool.{false_from_ne_true}
use Rattle.std.proofs.lemmas.Bool.Decides.{eqb_tells, nat_tests}
use Rattle.std.proofs.lemmas.Option.{slice_get_past}
use Rattle.persist_model.specs.Region.{Words}
use Rattle.lane_traits.specs.Draft.{is_among, after_writes}
use Rattle.lane_traits.specs.declared.draft.WordWrite.{WordWrite}
use Rattle.region_layout.specs.declared.layout.Layout.{Layout}
use Rattle.offset_alloc.specs.declared.Standing.{Standing}
use Rattle.offset_alloc.specs.declared.Standing.TheVariants.{Free, Owned, Pending}
use Rattle.lane_types.specs.declared.face.Entry.{Entry}
use Rattle.lane_types.specs.Deeds.{Deeds}
use Rattle.lane_types.specs.Heaps.{has_bit, names_in, block_address}
use Rattle.lane_types.specs.Histories.{IsEarlier, after_entries}
use Rattle.lane_types.specs.Faces.{Base}
use Rattle.lane_book.specs.declared.lane.Lane.{Lane}
use Rattle.lane_book.specs.declared.book.Book.{Book}
use Rattle.lane_book.specs.Lanes.{with_lane, with_history}
use Rattle.lane_book.specs.FacesOf.{lane_at, begun_heap}
use Rattle.lane_book.specs.Books.{IsBook}
use Rattle.lane_book.specs.Entries.{writes_of_entry}
use Rattle.lane_book.specs.Refusals.{owner_number}
use Rattle.lane_book.proofs.Faces.{lane_at-same, lane_at-other}
use Rattle.lawful_book.specs.LawfulBooks.{IsBefore}
use Rattle.lawful_book.specs.OwnedBooks.{owner_in, is_ours, AreTold, StandsFor, AreOpen, IsNext, IsOwnedLane, AreLoose, IsOwnedBook}
use Rattle.lawful_book.specs.OwnedLaws.{AreGivenUp}
use Rattle.lawful_book.proofs.Histories.{Depends, after_last, each_last, each_map}
use Rattle.lawful_book.proofs.Laning.{rises_below}
use Rattle.lawful_book.proofs.Booking.{by_lane, HasNoMore, apart_with, of_one_with, sum_same}
use Rattle.lawful_book.proofs.OwnedHeaps.{never, by_bool, named_is, name_of, ours_apart, AreFor, owner_stays, CanFollow, IsLawfulSo, follows}
use Rattle.lawful_book.proofs.OwnedWrites.{each_among, open_for, owner_behind, given_behind}
use Rattle.lawful_book.proofs.OwnedLanes.{lane_stands, others_follow}

-- ---- blocks that stand as they did

pub same_blocks : (set : ℕ) (blocks : List Standing) → StandsFor set blocks blocks
same_blocks set blocks = record { kept = λ k on. refl; none_new = λ k on. refl }

-- ---- which structures are loose

module _ {E : Type 0} (book : Book E) (l : ℕ) (lane : Lane E) (touched : Option ℕ) (lt : l < length book.lanes.items) (s : ℕ)
    (none : (k : ℕ) → has_bit (lane_at (with_lane book l lane touched) k).held s ≡ false) where
  pub none_here : has_bit lane.held s ≡ false
  none_here = subst (λ (x : Lane E). has_bit x.held s ≡ false) (lane_at-same book l lane touched lt) (none l)

  pub none_there : (k : ℕ) → k ≢ l → has_bit (lane_at book k).held s ≡ false
  none_there k ne = subst (λ (x : Lane E). has_bit x.held s ≡ false) (lane_at-other book l k lane touched ne) (none k)

  -- with the lane as it was
  pub none_before : has_bit (lane_at book l).held s ≡ false → (k : ℕ) → has_bit (lane_at book k).held s ≡ false
  none_before off k = ⊎_elim (λ same. subst (λ (n : ℕ). has_bit (lane_at book n).held s ≡ false) (sym same.1) off) (λ ne. none_there k ne.1) (eqb_tells k l)

-- ---- one lane is another, and blocks may stand otherwise

pub replaces : {E : Type 0} (deeds : Deeds E) (layout : Layout) (base : Base) (book real : Book E) (l : ℕ) (lane : Lane E) (blocks : List Standing) (touched : Option ℕ) → l < length book.lanes.items →
    real ≡ with_lane (record book { blocks = blocks }) l lane touched → HasNoMore (lane_at book l) lane → length blocks ≡ length book.blocks →
    ((k : ℕ) → k ≢ l → StandsFor (lane_at book k).held book.blocks blocks) →
    AreTold base.structures base.heap (after_entries book.history.items base.heap.at) blocks →
    AreLoose base.heap (after_entries book.history.items base.heap.at) (with_lane (record book { blocks = blocks }) l lane touched) →
    (IsOwnedLane deeds layout base book.blocks book.history.items book.next_transaction l (lane_at book l) → IsOwnedLane deeds layout base blocks book.history.items book.next_transaction l lane) →
    IsOwnedBook deeds layout base book → IsOwnedBook deeds layout base real
replaces deeds layout base book real l lane blocks touched lt is no_more many stands told loose keeps owned = subst (λ (b : Book _). IsOwnedBook deeds layout base b) (sym is) record {
  place = owned.place;
  many = many ∙ owned.many;
  told = told;
  loose = loose;
  lawful = owned.lawful;
  sorts = owned.sorts;
  past = owned.past;
  numbers = owned.numbers ∙ ap (λ (n : ℕ). n + 1) (sym (sum_same book l lane touched lt no_more.begun));
  lanes = by_lane (λ k x. IsOwnedLane deeds layout base blocks book.history.items book.next_transaction k x) book l lane touched lt (keeps (owned.lanes l))
      (λ k ne. lane_stands deeds layout base book.blocks book.history.items book.next_transaction k blocks (lane_at book k) (stands k ne) (owned.lanes k));
  apart = apart_with book l lane touched lt owned.apart (λ k s ne on. owned.apart l k s (λ e. ne (sym e)) (no_more.sets s on));
  of_one = of_one_with book l lane touched lt owned.of_one
      (λ k ne some is. owned.of_one l k (λ e. ne (sym e)) (λ none. some (no_more.same some ∙ none)) (sym (no_more.same some) ∙ is));
}

-- the blocks stand as before, and the lane holds what it held
pub replaces_same : {E : Type 0} (deeds : Deeds E) (layout : Layout) (base : Base) (book real : Book E) (l : ℕ) (lane : Lane E) (touched : Option ℕ) → l < length book.lanes.items →
    real ≡ with_lane book l lane touched → HasNoMore (lane_at book l) lane → lane.held ≡ (lane_at book l).held →
    (IsOwnedLane deeds layout base book.blocks book.history.items book.next_transaction l (lane_at book l) → IsOwnedLane deeds layout base book.blocks book.history.items book.next_transaction l lane) →
    IsOwnedBook deeds layout base book → IsOwnedBook deeds layout base real
replaces_same deeds layout base book real l lane touched lt is no_more held keeps owned =
    replaces deeds layout base book real l lane book.blocks touched lt is no_more refl (λ k ne. same_blocks (lane_at book k).held book.blocks) owned.told
    (λ k s inside none owner. owned.loose k s inside
    (none_before book l lane touched lt s none (ap (λ (n : ℕ). has_bit n s) (sym held) ∙ none_here book l lane touched lt s none)) owner) keeps owned

-- ---- the entry of a lane joins the history

pub lawful_book : {E : Type 0} (deeds : Deeds E) (layout : Layout) (base : Base) (book : Book E) → IsOwnedBook deeds layout base book → IsLawfulSo deeds base book.history.items
lawful_book deeds layout base book owned = record { lawful = owned.lawful; sorts = owned.sorts }

module _ {E : Type 0} (deeds : Deeds E) (layout : Layout) (base : Base) (book : Book E) (owned : IsOwnedBook deeds layout base book) (l : ℕ) (e : Entry E)
    (has : (lane_at book l).entry ≡ Some e) where
  abbrev old : Lane E
  old = lane_at book l

  abbrev now : Words
  now = after_entries book.history.items base.heap.at

  abbrev begun : Words
  begun = (begun_heap base book.history.items old).at

  pub comes : IsNext deeds layout base (begun_heap base book.history.items old) l old e
  comes = (owned.lanes l).coming e has

  open_is : AreOpen old.held base.heap begun now book.blocks old.writes.items old.gives.items
  open_is = (owned.lanes l).open_is comes.new

  -- its writes as what its structures have of the blocks
  pub writes_for : AreFor old.held base.heap book.blocks begun now (writes_of_entry layout old)
  writes_for = open_for base.structures old.held layout base.heap book.blocks begun now old.writes.items old.gives.items owned.place.start (owned.lanes l).inside owned.told open_is

  pub entry_for : AreFor old.held base.heap book.blocks begun now e.writes
  entry_for = subst (λ (ws : List WordWrite). AreFor old.held base.heap book.blocks begun now ws) (sym comes.writes) writes_for

  pub can_follow : CanFollow deeds base book.blocks book.history.items e
  can_follow = record {
    begun = begun;
    are = subst (λ (n : ℕ). AreFor n base.heap book.blocks begun now e.writes) (sym comes.names) entry_for;
    means = comes.means;
    earlier = each_map (IsBefore l old.begun old.transaction old.entered) (λ (x : Entry _). IsEarlier x e) book.history.items
        (λ x before. record {
          rises = λ same. rises_below x.number e.number old.begun (before.older comes.some comes.new (same ∙ comes.lane_is)) comes.number;
          differs = λ is. before.differs comes.some comes.new (is ∙ comes.transaction);
        }) (owned.lanes l).before;
    sorts = comes.sorts;
  }

  -- behind it
  pub owner_ours_behind : (k : ℕ) → k < base.heap.blocks → is_ours old.held book.blocks k ≡ true → is_among old.gives.items k ≡ false → after_writes e.writes now (block_address base.heap k) ≡ owner_in book.blocks k
  owner_ours_behind k inside on kept = ap (λ (ws : List WordWrite). after_writes ws now (block_address base.heap k)) comes.writes ∙
      owner_behind base.structures old.held layout base.heap book.blocks begun now old.writes.items old.gives.items owned.place.start (owned.lanes l).inside owned.told open_is k inside on kept

  pub owner_given_behind : (k : ℕ) → is_among old.gives.items k ≡ true → after_writes e.writes now (block_address base.heap k) ≡ 0
  owner_given_behind k among = ap (λ (ws : List WordWrite). after_writes ws now (block_address base.heap k)) comes.writes ∙
      given_behind base.structures old.held layout base.heap book.blocks begun now old.writes.items old.gives.items owned.place.start (owned.lanes l).inside owned.told open_is k among

  -- a given block is the lane's
  given_ours : (k : ℕ) → is_among old.gives.items k ≡ true → is_ours old.held book.blocks k ≡ true
  given_ours k among = each_among (λ (b : ℕ). is_ours old.held book.blocks b ≡ true) old.gives.items k open_is.gives_are among

  module _ (blocks : List Standing) (up : AreGivenUp old.gives.items book.blocks blocks) where
    abbrev behind : Words
    behind = after_writes e.writes now

    in_blocks : (k : ℕ) → k < base.heap.blocks → k < length book.blocks
    in_blocks k inside = let n = owned.place.blocks in let m = owned.many in omega (arith, inside, n, m)

    -- a block that has an owner wasn't given
    kept_block : (k s : ℕ) → k < base.heap.blocks → owner_in blocks k ≡ s + 1 → is_among old.gives.items k ≡ false
    kept_block k s inside owner = false_from_ne_true (is_among old.gives.items k)
        (λ among. no_owner (s) (sym (ap owner_number (up.given k (in_blocks k inside) among)) ∙ owner))
      where
        no_owner : (n : ℕ) → 0 ≡ n + 1 → ⊥
        no_owner n e = omega (arith, e)

    kept_free : (k : ℕ) → k < base.heap.blocks → slice_get blocks k ≡ Some Free → is_among old.gives.items k ≡ false
    kept_free k inside free = false_from_ne_true (is_among old.gives.items k) (λ among. pending_free (sym (up.given k (in_blocks k inside) among) ∙ free))
      where
        pending_free : Some Pending ≡ Some Free → ⊥
        pending_free e = let f = ap which e in cc
          where
            which : Option Standing → Bool
            which (Some Pending) = true
            which (Some Free) = false
            which (Some (Owned n)) = false
            which None = false

    same_owner : (k : ℕ) → is_among old.gives.items k ≡ false → owner_in blocks k ≡ owner_in book.blocks k
    same_owner k kept = ap owner_number (up.others k kept)

    pub joined_told : AreTold base.structures base.heap behind blocks
    joined_told = record {
      named = λ k s owner. by_bool _ (is_among old.gives.items k)
          (λ among. by_length k s owner among)
          (λ kept. owned.told.named k s (sym (same_owner k kept) ∙ owner));
      owned = λ k s inside small is. by_bool _ (is_among old.gives.items k)
          (λ among. absurd (no_owner s (sym (owner_given_behind k among) ∙ is)))
          (λ kept. by_bool _ (is_ours old.held book.blocks k)
          (λ on. same_owner k kept ∙ sym (owner_ours_behind k inside on kept) ∙ is)
          (λ off. same_owner k kept ∙ owned.told.owned k s inside small (sym (stays k off) ∙ is)));
      real = λ k s t inside owner is. let kept = kept_block k s inside owner in by_bool _ (is_ours old.held book.blocks k)
          (λ on. next_same t s (sym is ∙ owner_ours_behind k inside on kept ∙ sym (same_owner k kept) ∙ owner))
          (λ off. owned.told.real k s t inside (sym (same_owner k kept) ∙ owner) (sym (stays k off) ∙ is));
      free = λ k inside free. let kept = kept_free k inside free in let was = sym (up.others k kept) ∙ free in
          stays k (ap (λ (o : Option Standing). names_in old.held (owner_number o)) was) ∙ owned.told.free k inside was;
    }
      where
        no_owner : (n : ℕ) → 0 ≡ n + 1 → ⊥
        no_owner n e = omega (arith, e)

        next_same : (n m : ℕ) → n + 1 ≡ m + 1 → n ≡ m
        next_same n m e = omega (arith, e)

        stays : (k : ℕ) → is_ours old.held book.blocks k ≡ false → behind (block_address base.heap k) ≡ now (block_address base.heap k)
        stays k off = owner_stays old.held base.heap book.blocks begun now e.writes entry_for now k off

        by_length : (k s : ℕ) → owner_in blocks k ≡ s + 1 → is_among old.gives.items k ≡ true → s < base.structures
        by_length k s owner among = ⊎_elim (λ inside. absurd (never (is_among old.gives.items k) among (kept_block k s inside owner)))
            (λ past. absurd (no_owner s (sym (ap owner_number (slice_get_past blocks k past)) ∙ owner))) (decide k base.heap.blocks (length blocks)
            (up.many ∙ owned.many ∙ sym owned.place.blocks))
          where
            decide : (n m len : ℕ) → len ≡ m → (n < m) ⊎ (len ≤ n)
            decide n m len same = by_less (nat_lt n m) refl
              where
                less : nat_lt n m ≡ true → n < m
                less e = grind (arith, nat_tests)

                past_it : nat_lt n m ≡ false → m ≤ n
                past_it e = grind (arith, nat_tests)

                by_less : (t : Bool) → nat_lt n m ≡ t → (n < m) ⊎ (len ≤ n)
                by_less true e = inl (less e)
                by_less false e = inr (let le = past_it e in omega (arith, same, le))

    -- the lanes that hold other structures have the blocks that they had
    pub others_stand : (set : ℕ) → ((s : ℕ) → has_bit set s ≡ true → has_bit old.held s ≡ false) → StandsFor set book.blocks blocks
    others_stand set apart = record {
      kept = λ k on. same_owner k (false_from_ne_true (is_among old.gives.items k) (λ among.
          never (is_ours old.held book.blocks k) (given_ours k among) (ours_apart old.held set book.blocks k apart on)));
      none_new = λ k on. let it = named_is set (owner_in blocks k) on in by_bool _ (is_among old.gives.items k)
          (λ among. absurd (never (is_ours set blocks k) on (ap (λ (n : ℕ). names_in set n) (gone_owner k among))))
          (λ kept. same_owner k kept);
    }
      where
        gone_owner : (k : ℕ) → is_among old.gives.items k ≡ true → owner_in blocks k ≡ 0
        gone_owner k among = by_place k (given_inside k among) among
          where
            by_place : (n : ℕ) → n < length book.blocks → is_among old.gives.items n ≡ true → owner_in blocks n ≡ 0
            by_place n inside on = ap owner_number (up.given n inside on)

            some_owner : (o : Option Standing) → names_in old.held (owner_number o) ≡ true → o ≢ None
            some_owner None e none = cc
            some_owner (Some x) e none = cc

            given_inside : (n : ℕ) → is_among old.gives.items n ≡ true → n < length book.blocks
            given_inside n on = by_less (nat_lt n (length book.blocks)) refl
              where
                less : nat_lt n (length book.blocks) ≡ true → n < length book.blocks
                less e = grind (arith, nat_tests)

                past_it : nat_lt n (length book.blocks) ≡ false → length book.blocks ≤ n
                past_it e = grind (arith, nat_tests)

                by_less : (t : Bool) → nat_lt n (length book.blocks) ≡ t → n < length book.blocks
                by_less true e = less e
                by_less false e = absurd (some_owner (slice_get book.blocks n) (given_ours n on) (slice_get_past book.blocks n (past_it e)))

    -- of its own what the owner words say stands
    pub own_shown : (k : ℕ) → k < base.heap.blocks → is_ours old.held blocks k ≡ true → behind (block_address base.heap k) ≡ owner_in blocks k
    own_shown k inside on = let it = named_is old.held (owner_in blocks k) on in let kept = kept_block k it.0 inside it.1 in
        owner_ours_behind k inside (sym (ap (names_in old.held) (same_owner k kept)) ∙ on) kept ∙ sym (same_owner k kept)

    pub joined_loose : (k s : ℕ) → k < base.heap.blocks → ((j : ℕ) → j ≢ l → has_bit (lane_at book j).held s ≡ false) → owner_in blocks k ≡ s + 1 → behind (block_address base.heap k) ≡ s + 1
    joined_loose k s inside none owner = let kept = kept_block k s inside owner in by_bool _ (is_ours old.held book.blocks k)
        (λ on. owner_ours_behind k inside on kept ∙ sym (same_owner k kept) ∙ owner)
        (λ off. owner_stays old.held base.heap book.blocks begun now e.writes entry_for now k off ∙
        owned.loose k s inside (λ j. ⊎_elim (λ same. subst (λ (n : ℕ). has_bit (lane_at book n).held s ≡ false) (sym same.1)
        (false_from_ne_true (has_bit old.held s) (λ bit. never (is_ours old.held book.blocks k) (name_of old.held (owner_in book.blocks k) s (sym (same_owner k kept) ∙ owner) bit) off)))
        (λ ne. none j ne.1) (eqb_tells j l)) (sym (same_owner k kept) ∙ owner))

-- The entry joins, the given blocks are pending, and its lane is another.
pub joins : {E : Type 0} (deeds : Deeds E) → Depends deeds → (layout : Layout) (base : Base) (book real : Book E) (l : ℕ) (lane : Lane E) (e : Entry E) (blocks : List Standing) → l < length book.lanes.items →
    (lane_at book l).entry ≡ Some e → AreGivenUp (lane_at book l).gives.items book.blocks blocks →
    real ≡ with_history (book.history.items ++ e ∷ []) (with_lane (record book { blocks = blocks }) l lane None) → HasNoMore (lane_at book l) lane → IsBook book →
    (IsOwnedLane deeds layout base book.blocks book.history.items book.next_transaction l (lane_at book l) → IsOwnedLane deeds layout base blocks (book.history.items ++ e ∷ []) book.next_transaction l lane) →
    IsOwnedBook deeds layout base book → IsOwnedBook deeds layout base real
joins deeds depends layout base book real l lane e blocks lt has up is no_more whole keeps owned = subst (λ (b : Book _). IsOwnedBook deeds layout base b) (sym is) record {
  place = owned.place;
  many = up.many ∙ owned.many;
  told = subst (λ (u : Words). AreTold base.structures base.heap u blocks) now_is (joined_told deeds layout base book owned l e has blocks up);
  loose = λ k s inside none owner. ap (λ (u : Words). u (block_address base.heap k)) (sym now_is) ∙
      joined_loose deeds layout base book owned l e has blocks up k s inside (λ j ne. none_there book l lane None lt s none j ne) owner;
  lawful = good.lawful;
  sorts = good.sorts;
  past = each_last (λ (x : Entry _). x.transaction < book.next_transaction) book.history.items e owned.past
      (subst (λ (n : ℕ). n < book.next_transaction) (sym come.transaction) (owned.lanes l).begun);
  numbers = owned.numbers ∙ ap (λ (n : ℕ). n + 1) (sym (sum_same book l lane None lt no_more.begun));
  lanes = by_lane (λ k x. IsOwnedLane deeds layout base blocks (book.history.items ++ e ∷ []) book.next_transaction k x) book l lane None lt (keeps (owned.lanes l))
      (λ k ne. lane_stands deeds layout base book.blocks (book.history.items ++ e ∷ []) book.next_transaction k blocks (lane_at book k)
      (others_stand deeds layout base book owned l e has blocks up (lane_at book k).held (λ s on. owned.apart k l s ne on))
      (others_follow deeds layout base book.blocks book.history.items book.next_transaction k (lane_at book k) e (lane_at book l).held (begun_heap base book.history.items (lane_at book l)).at
      (whole k).behind (entry_for deeds layout base book owned l e has) (λ s on. owned.apart k l s ne on) (λ own. ne (sym own ∙ come.lane_is))
      (λ own. owned.of_one l k (λ e. ne (sym e)) come.some (sym come.transaction ∙ own)) (owned.lanes k)));
  apart = apart_with book l lane None lt owned.apart (λ k s ne on. owned.apart l k s (λ e. ne (sym e)) (no_more.sets s on));
  of_one = of_one_with book l lane None lt owned.of_one
      (λ k ne some is. owned.of_one l k (λ e. ne (sym e)) (λ none. some (no_more.same some ∙ none)) (sym (no_more.same some) ∙ is));
}
  where
    come : IsNext deeds layout base (begun_heap base book.history.items (lane_at book l)) l (lane_at book l) e
    come = comes deeds layout base book owned l e has

    now_is : after_writes e.writes (after_entries book.history.items base.heap.at) ≡ after_entries (book.history.items ++ e ∷ []) base.heap.at
    now_is = sym (after_last book.history.items e base.heap.at)

    good : IsLawfulSo deeds base (book.history.items ++ e ∷ [])
    good = follows deeds depends base book.blocks book.history.items e (lawful_book deeds layout base book owned) (can_follow deeds layout base book owned l e has)
