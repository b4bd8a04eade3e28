-- What a book with takes and gives keeps is kept by each call of the book, and what follows.
use Rattle.std.proofs.Common.{◌≡◌, ◌≢◌, ◌==◌, ⊎_elim, ℕ, ◌+◌, ◌-◌, ◌^◌, ◌<◌, ◌≤◌, Bool, true, false, ◌||◌, ◌*◌, nat_lt, List, [], ◌∷◌, ◌++◌, length, drop, slice_set, refl, sym, ◌∙◌, ap, subst, arith, Option, Some, None}
use Rattle.std.proofs.Math.Nat.{zero-div}
use Rattle.std.proofs.lemmas.Bool.{false_from_ne_true}
use Rattle.std.proofs.lemmas.Bool.Decides.{nat_tests, eqb_tells}
use Rattle.std.proofs.lemmas.Option.{slice_get_past, slice_get_within}
use Rattle.std.proofs.lemmas.List.{length-set}
use Rattle.persist_model.specs.Region.{Words}
use Rattle.lane_traits.specs.Draft.{after_writes, is_among}
use Rattle.lane_traits.specs.declared.draft.WordWrite.{WordWrite}
use Rattle.lane_traits.proofs.Among.{same_eq}
use Rattle.region_layout.specs.declared.layout.Layout.{Layout}
use Rattle.offset_alloc.specs.declared.Standing.{Standing}
use Rattle.offset_alloc.specs.declared.Standing.TheVariants.{Free, Pending}
use Rattle.lane_types.specs.declared.call.Phase.{Phase}
use Rattle.lane_types.specs.declared.call.Reply.{Reply}
use Rattle.lane_types.specs.declared.call.Reply.TheVariants.{Committed}
use Rattle.lane_types.specs.declared.face.Entry.{Entry}
use Rattle.lane_types.specs.Deeds.{Deeds}
use Rattle.lane_types.specs.Heaps.{Heap, AreAlike, has_bit, names_in, block_address}
use Rattle.lane_types.specs.Histories.{after_entries}
use Rattle.lane_types.specs.Faces.{Base, phase_after}
use Rattle.lane_types.specs.May.{AreData}
use Rattle.lane_book.specs.declared.lane.Lane.{Lane}
use Rattle.lane_book.specs.declared.lane.Doing.{Doing}
use Rattle.lane_book.specs.declared.book.Book.{Book}
use Rattle.lane_book.specs.Lanes.{moved, left, entered_lane, IsRoomier, with_lane}
use Rattle.lane_book.specs.FacesOf.{lane_at, is_of, begun_heap, waiting_writes}
use Rattle.lane_book.specs.Books.{IsBook}
use Rattle.lane_book.specs.Entries.{writes_of_entry}
use Rattle.lane_book.specs.Refusals.{owner_number}
use Rattle.lane_book.proofs.Faces.{take_before}
use Rattle.lane_book.proofs.Holdings.{owner_apart}
use Rattle.lawful_book.specs.LawfulBooks.{Each, IsBefore}
use Rattle.lawful_book.specs.Laws.{GoesOn}
use Rattle.lawful_book.specs.OwnedBooks.{owner_in, is_ours, is_own_word, AreTold, StandsFor, AreOpen, IsNext, IsOwnWrite, IsOwnedLane, AreLoose, IsOwnedBook}
use Rattle.lawful_book.specs.OwnedLaws as laws
use Rattle.lawful_book.proofs.WordsOf.{heap_with}
use Rattle.lawful_book.proofs.Histories.{Depends, each_last, each_map, after_last}
use Rattle.lawful_book.proofs.Laning.{filter_there}
use Rattle.lawful_book.proofs.Booking.{some_of}
use Rattle.lawful_book.proofs.Kept.{same_lane, no_lane}
use Rattle.lawful_book.proofs.OwnedHeaps.{never, by_bool, name_of, ours_apart, after_none, owner_block, follow_blocks}
use Rattle.lawful_book.proofs.OwnedLanes.{goes_owned, answered_owned, lane_stands, left_owned, none_last}
use Rattle.lawful_book.proofs.OwnedBooking.{same_blocks, none_before, replaces, replaces_same, comes, entry_for, own_shown, joins}
use Rattle.lawful_book.proofs.OwnedAsking.{set_same, set_other}

no_bit : (s : ℕ) → has_bit 0 s ≡ false
no_bit s = rw (zero-div (2 ^ s)) refl

no_next : (n : ℕ) → 0 ≡ n + 1 → ⊥
no_next n e = omega (arith, e)

module _ {E : Type 0} (deeds : Deeds E) where
  -- ---- a step

  pub steps_keep : laws.StepsKeep deeds
  steps_keep layout base book later l lane touched owned lt is go = replaces_same deeds layout base book later l lane touched lt is
      (same_lane (lane_at book l) lane go.same.held go.same.transaction go.same.begun) go.same.held
      (λ was. goes_owned deeds layout base book.blocks book.history.items book.next_transaction l (lane_at book l) lane go was) owned

  pub answers_keep : laws.AnswersKeep deeds
  answers_keep layout base book later l kept reply lane touched owned lt is answer data_words = replaces_same deeds layout base book later l lane touched lt is
      (same_lane (lane_at book l) lane answer.same.held answer.same.transaction answer.same.begun) answer.same.held
      (λ was. answered_owned deeds layout base book.blocks book.history.items book.next_transaction l (lane_at book l) lane reply kept answer data_words was) owned

  pub refusals_keep : laws.RefusalsKeep deeds
  refusals_keep layout base book later l owned lt room = steps_keep layout base book later l (lane_at later l) book.touched owned lt room.is (roomier (lane_at book l) (lane_at later l) room.lane)
    where
      roomier : (lane later : Lane E) → IsRoomier lane later → GoesOn lane later
      roomier lane later is = record {
        same = record {
          held = ap (λ (x : Lane _). x.held) is.is;
          begun = ap (λ (x : Lane _). x.begun) is.is;
          commits = ap (λ (x : Lane _). x.commits) is.is;
          transaction = ap (λ (x : Lane _). x.transaction) is.is;
          joined = ap (λ (x : Lane _). x.joined) is.is;
          gives = is.gives;
          entry = ap (λ (x : Lane _). x.entry) is.is;
        };
        writes = is.writes;
        phase = ap (λ (x : Lane _). x.phase) is.is;
        doing = ap (λ (x : Lane _). x.doing) is.is;
        entered = ap (λ (x : Lane _). x.entered) is.is;
      }

  -- ---- an end

  counted : (layout : Layout) (base : Base) (book : Book E) (l : ℕ) → IsOwnedBook deeds layout base book → Each (λ (x : Entry E). x.lane ≡ l → x.number < (lane_at book l).begun) book.history.items
  counted layout base book l owned = each_map (IsBefore l (lane_at book l).begun (lane_at book l).transaction (lane_at book l).entered) (λ (x : Entry _). x.lane ≡ l → x.number < (lane_at book l).begun)
      book.history.items (λ x before. before.counted) (owned.lanes l).before

  ends : (layout : Layout) (base : Base) (book later : Book E) (l : ℕ) (reply : Reply) (blocks : List Standing) (touched : Option ℕ) → IsOwnedBook deeds layout base book → l < length book.lanes.items →
      phase_after reply ≡ Phase.Out → later ≡ with_lane (record book { blocks = blocks }) l (left reply (lane_at book l)) touched → length blocks ≡ length book.blocks →
      ((k : ℕ) → k ≢ l → StandsFor (lane_at book k).held book.blocks blocks) → AreTold base.structures base.heap (after_entries book.history.items base.heap.at) blocks →
      AreLoose base.heap (after_entries book.history.items base.heap.at) (with_lane (record book { blocks = blocks }) l (left reply (lane_at book l)) touched) → IsOwnedBook deeds layout base later
  ends layout base book later l reply blocks touched owned lt out is many stands told loose =
      replaces deeds layout base book later l (left reply (lane_at book l)) blocks touched lt is (no_lane (lane_at book l) (left reply (lane_at book l)) refl refl refl) many stands told loose
      (λ was. left_owned deeds layout base blocks book.history.items book.next_transaction l (lane_at book l) reply (lane_at book l).commits out was.counts.few was.counts.most (some_of _ _ owned.numbers)
      (counted layout base book l owned)) owned

  -- the blocks that were taken, by the test of the law
  taken_is : (h : Heap) (writes : List WordWrite) (k : ℕ) → laws.is_taken h writes k ≡ false → Each (λ (w : WordWrite). w.address ≢ block_address h k) writes
  taken_is h [] k off = tt
  taken_is h (w ∷ writes) k off = (λ e. never (w.address == block_address h k) (subst (λ (n : ℕ). (w.address == n) ≡ true) e (same_eq w.address)) (first _ _ off), taken_is h writes k (second _ _ off))
    where
      first : (s t : Bool) → (s || t) ≡ false → s ≡ false
      first true t e = e
      first false t e = refl

      second : (s t : Bool) → (s || t) ≡ false → t ≡ false
      second true t e = cc
      second false t e = e

  pub taken_own : (set : ℕ) (h : Heap) (begun : Words) (blocks : List Standing) (writes : List WordWrite) (k : ℕ) → Each (IsOwnWrite set h begun blocks) writes → laws.is_taken h writes k ≡ true →
      (is_ours set blocks k ≡ true) × (begun (block_address h k) ≡ 0)
  taken_own set h begun blocks [] k own on = cc
  taken_own set h begun blocks (w ∷ writes) k own on = by_bool _ (w.address == block_address h k)
      (λ same. here w own.0 (is_same w.address (block_address h k) same))
      (λ other. taken_own set h begun blocks writes k own.1 (right _ (laws.is_taken h writes k) other on))
    where
      is_same : (n m : ℕ) → (n == m) ≡ true → n ≡ m
      is_same n m e = grind (arith, nat_tests)

      right : (s t : Bool) → s ≡ false → (s || t) ≡ true → t ≡ true
      right true t off e = cc
      right false t off e = e

      number : (s n m : ℕ) → s + 16 * n ≡ s + 16 * m → n ≡ m
      number s n m e = omega (arith, e)

      here : (w : WordWrite) → IsOwnWrite set h begun blocks w → w.address ≡ block_address h k → (is_ours set blocks k ≡ true) × (begun (block_address h k) ≡ 0)
      here w (IsOwnWrite.of_data at_data ours) at_k = absurd (owner_apart h k w.address at_data (sym at_k))
      here w (IsOwnWrite.of_owner j place inside value ours new) at_k = let same = number h.start k j (sym at_k ∙ place) in
          (subst (λ (n : ℕ). is_ours set blocks n ≡ true) (sym same) ours, subst (λ (n : ℕ). begun (block_address h n) ≡ 0) (sym same) new)

  pub aborts_keep : laws.AbortsKeep deeds
  aborts_keep layout base book later l reply blocks touched owned lt out new go is =
      ends layout base book later l reply blocks touched owned lt out is go.many
      (λ k ne. record {
        kept = λ j on. by_bool _ (gone j) (λ taken. absurd (never (is_ours old.held book.blocks j) (own j taken).0 (apart k ne j on))) (λ kept. same j kept);
        none_new = λ j on. by_bool _ (gone j) (λ taken. absurd (never (is_ours (lane_at book k).held blocks j) on (free_named (lane_at book k).held j taken))) (λ kept. same j kept);
      })
      (record {
        named = λ k s owner. by_bool _ (gone k) (λ taken. absurd (no_next s (sym (free_owner k taken) ∙ owner))) (λ kept. owned.told.named k s (sym (same k kept) ∙ owner));
        owned = λ k s inside small owner. by_bool _ (gone k) (λ taken. absurd (no_next s (sym (nobodys k taken) ∙ owner))) (λ kept. same k kept ∙ owned.told.owned k s inside small owner);
        real = λ k s t inside owner has. by_bool _ (gone k) (λ taken. absurd (no_next s (sym (free_owner k taken) ∙ owner))) (λ kept. owned.told.real k s t inside (sym (same k kept) ∙ owner) has);
        free = λ k inside free. by_bool _ (gone k) (λ taken. nobodys k taken) (λ kept. owned.told.free k inside (sym (go.others k kept) ∙ free));
      })
      (λ k s inside none owner. by_bool _ (gone k) (λ taken. absurd (no_next s (sym (free_owner k taken) ∙ owner)))
      (λ kept. by_bool _ (has_bit old.held s)
      (λ on. let ours = name_of old.held (owner_in book.blocks k) s (sym (same k kept) ∙ owner) on in
      sym (open_is.same (block_address base.heap k) (ap (is_ours old.held book.blocks) (owner_block base.heap k) ∙ ours)) ∙
      sym (after_none old.writes.items begun (block_address base.heap k) (taken_is base.heap old.writes.items k kept)) ∙ open_is.shown k inside ours ∙ sym (same k kept) ∙ owner)
      (λ off. owned.loose k s inside (none_before book l (left reply (lane_at book l)) touched lt s none off) (sym (same k kept) ∙ owner))))
    where
      old : Lane E
      old = lane_at book l

      begun : Words
      begun = (begun_heap base book.history.items old).at

      open_is : AreOpen old.held base.heap begun (after_entries book.history.items base.heap.at) book.blocks old.writes.items old.gives.items
      open_is = (owned.lanes l).open_is new

      gone : ℕ → Bool
      gone k = laws.is_taken base.heap old.writes.items k

      own : (k : ℕ) → gone k ≡ true → (is_ours old.held book.blocks k ≡ true) × (begun (block_address base.heap k) ≡ 0)
      own k taken = taken_own old.held base.heap begun book.blocks old.writes.items k open_is.writes_are taken

      nobodys : (k : ℕ) → gone k ≡ true → after_entries book.history.items base.heap.at (block_address base.heap k) ≡ 0
      nobodys k taken = let it = own k taken in
          sym (open_is.same (block_address base.heap k) (ap (is_ours old.held book.blocks) (owner_block base.heap k) ∙ it.0)) ∙ it.1

      same : (k : ℕ) → gone k ≡ false → owner_in blocks k ≡ owner_in book.blocks k
      same k kept = ap owner_number (go.others k kept)

      less : (n m : ℕ) → nat_lt n m ≡ true → n < m
      less n m e = grind (arith, nat_tests)

      past_it : (n m : ℕ) → nat_lt n m ≡ false → m ≤ n
      past_it n m e = grind (arith, nat_tests)

      free_owner : (k : ℕ) → gone k ≡ true → owner_in blocks k ≡ 0
      free_owner k taken = by_bool _ (nat_lt k base.heap.blocks) (λ lt. ap owner_number (go.taken k (less k base.heap.blocks lt) taken))
          (λ off. ap owner_number (slice_get_past blocks k (let le = past_it k base.heap.blocks off in let n = owned.place.blocks in let m = owned.many in let c = go.many in omega (arith, le, n, m, c))))

      free_named : (set k : ℕ) → gone k ≡ true → is_ours set blocks k ≡ false
      free_named set k taken = ap (names_in set) (free_owner k taken)

      apart : (k : ℕ) → k ≢ l → (j : ℕ) → is_ours (lane_at book k).held book.blocks j ≡ true → is_ours old.held book.blocks j ≡ false
      apart k ne j on = ours_apart old.held (lane_at book k).held book.blocks j (λ s has. owned.apart k l s ne has) on

  pub leaves_keep : laws.LeavesKeep deeds
  leaves_keep layout base book later l reply touched owned lt out none is = by_bool _ (lane_at book l).entered
      (λ on. ends layout base book later l reply book.blocks touched owned lt out is refl (λ k ne. same_blocks (lane_at book k).held book.blocks) owned.told
      (λ k s inside loose owner. by_bool _ (has_bit (lane_at book l).held s)
      (λ bit. ((owned.lanes l).joined_is on).shown k inside (name_of (lane_at book l).held (owner_in book.blocks k) s owner bit) ∙ owner)
      (λ off. owned.loose k s inside (none_before book l (left reply (lane_at book l)) touched lt s loose off) owner)))
      (λ new. aborts_keep layout base book later l reply book.blocks touched owned lt out new (record {
        many = refl;
        taken = λ k inside taken. absurd (never (laws.is_taken base.heap (lane_at book l).writes.items k) taken (data_only (lane_at book l).writes.items k (none new)));
        others = λ k kept. refl;
      }) is)
    where
      data_only : (writes : List WordWrite) (k : ℕ) → AreData base.heap writes → laws.is_taken base.heap writes k ≡ false
      data_only [] k are = refl
      data_only (w ∷ writes) k are = (λ i. other i || data_only writes k are.1 i)
        where
          other : (w.address == block_address base.heap k) ≡ false
          other = false_from_ne_true _ (λ same. owner_apart base.heap k w.address are.0 (sym (is_same w.address (block_address base.heap k) same)))
            where
              is_same : (n m : ℕ) → (n == m) ≡ true → n ≡ m
              is_same n m e = grind (arith, nat_tests)

  -- ---- an entry joins

  entered_owned : (layout : Layout) (base : Base) (book : Book E) (owned : IsOwnedBook deeds layout base book) (whole : IsBook book) (l part : ℕ) (e : Entry E) (has : (lane_at book l).entry ≡ Some e)
      (blocks : List Standing) → laws.AreGivenUp (lane_at book l).gives.items book.blocks blocks →
      IsOwnedLane deeds layout base blocks (book.history.items ++ e ∷ []) book.next_transaction l (moved part (entered_lane (lane_at book l)))
  entered_owned layout base book owned whole l part e has blocks up = record {
    inside = was.inside;
    gives_inside = was.gives_inside;
    open_is = λ new. absurd (never true refl new);
    joined_is = λ on. record {
      alike = subst (λ (u : Words). AreAlike old.held (heap_with base.heap (after_writes (writes_of_entry layout old) begun_now)) (heap_with base.heap u)) now_is
          (subst (λ (u : Words). AreAlike old.held (heap_with base.heap (after_writes (writes_of_entry layout old) u)) (heap_with base.heap (after_writes e.writes now))) begun_is
          (subst (λ (ws : List WordWrite). AreAlike old.held (heap_with base.heap (after_writes ws begun)) (heap_with base.heap (after_writes e.writes now))) come.writes
          (follow_blocks old.held base.heap book.blocks begun now e.writes (entry_for deeds layout base book owned l e has))));
      shown = λ k inside on. ap (λ (u : Words). u (block_address base.heap k)) (sym now_is) ∙ own_shown deeds layout base book owned l e has blocks up k inside on;
    };
    own_read = λ a doing. absurd (commit_reads a (sym come.call ∙ doing));
    own_write = λ a v doing. absurd (commit_writes a v (sym come.call ∙ doing));
    own_last = λ words. subst (λ (d : Doing). Each (λ (w : WordWrite). is_own_word base.heap blocks (moved part (entered_lane old)) w.address ≡ true) (drop (length old.writes.items - waiting_writes d) old.writes.items))
        (sym come.call) (none_last (λ (w : WordWrite). is_own_word base.heap blocks (moved part (entered_lane old)) w.address ≡ true) old.writes.items);
    own_take = λ s k doing. absurd (commit_takes s k (sym come.call ∙ doing));
    own_set = was.own_set;
    begun = was.begun;
    counts = record {
      few = was.counts.few;
      most = let less = was.counts.less come.some come.new in omega (arith, less);
      less = λ some new. absurd (never true refl new);
    };
    running = was.running;
    entering = λ on. come.call;
    before = each_last (IsBefore l old.begun old.transaction true) book.history.items e
        (each_map (IsBefore l old.begun old.transaction old.entered) (IsBefore l old.begun old.transaction true) book.history.items
        (λ x before. record {
          counted = before.counted;
          older = λ some new. absurd (never true refl new);
          differs = λ some new. absurd (never true refl new);
        }) was.before)
        (record {
          counted = λ same. let n = come.number in omega (arith, n);
          older = λ some new. absurd (never true refl new);
          differs = λ some new. absurd (never true refl new);
        });
    has_entry = λ commit new. absurd (never true refl new);
    has_joined = λ on. filter_there (is_of l) book.history.items e (subst (λ (k : ℕ). (e.lane == k) ≡ true) come.lane_is (same_eq e.lane));
    coming = λ f none. cc;
  }
    where
      old : Lane E
      old = lane_at book l

      now : Words
      now = after_entries book.history.items base.heap.at

      begun : Words
      begun = (begun_heap base book.history.items old).at

      begun_now : Words
      begun_now = (begun_heap base (book.history.items ++ e ∷ []) old).at

      was : IsOwnedLane deeds layout base book.blocks book.history.items book.next_transaction l old
      was = owned.lanes l

      come : IsNext deeds layout base (begun_heap base book.history.items old) l old e
      come = comes deeds layout base book owned l e has

      begun_is : begun ≡ begun_now
      begun_is = λ i. after_entries (sym (take_before old.joined book.history.items (e ∷ []) (whole l).behind) i) base.heap.at

      now_is : after_writes e.writes now ≡ after_entries (book.history.items ++ e ∷ []) base.heap.at
      now_is = sym (after_last book.history.items e base.heap.at)

      commit_takes : (s k : ℕ) → Doing.Commit ≡ Doing.Take s k → ⊥
      commit_takes s k e = cc

      commit_reads : (a : ℕ) → Doing.Commit ≡ Doing.Read a → ⊥
      commit_reads a e = cc

      commit_writes : (a v : ℕ) → Doing.Commit ≡ Doing.Write a v → ⊥
      commit_writes a v e = cc

  pub joins_keep : Depends deeds → laws.JoinsKeep deeds
  joins_keep depends layout base book later l part e blocks owned whole lt has up is =
      joins deeds depends layout base book later l (moved part (entered_lane (lane_at book l))) e blocks lt has up is
      (same_lane (lane_at book l) (moved part (entered_lane (lane_at book l))) refl refl refl) whole
      (λ was. entered_owned layout base book owned whole l part e has blocks up) owned

  pub commits_keep : Depends deeds → laws.CommitsKeep deeds
  commits_keep depends layout base book later l e blocks owned whole lt has up is =
      joins deeds depends layout base book later l (left Committed (entered_lane (lane_at book l))) e blocks lt has up is
      (no_lane (lane_at book l) (left Committed (entered_lane (lane_at book l))) refl refl refl) whole
      (λ was. let come = comes deeds layout base book owned l e has in let less = was.counts.less come.some come.new in
      left_owned deeds layout base blocks (book.history.items ++ e ∷ []) book.next_transaction l (record (lane_at book l) { entered = true; entry = None }) Committed ((lane_at book l).commits + 1) refl
      was.counts.few (omega (arith, less)) (some_of _ _ owned.numbers)
      (each_last (λ (x : Entry _). x.lane ≡ l → x.number < (lane_at book l).begun) book.history.items e (counted layout base book l owned)
      (λ same. let n = come.number in omega (arith, n)))) owned

  -- ---- a block becomes free

  pub frees_keep : laws.FreesKeep deeds
  frees_keep layout base book later k owned pending nobodys is = subst (λ (b : Book _). IsOwnedBook deeds layout base b) (sym is) record {
    place = owned.place;
    many = length-set book.blocks k Free ∙ owned.many;
    told = record {
      named = λ j s owner. owned.told.named j s (sym (same j) ∙ owner);
      owned = λ j s inside small has. same j ∙ owned.told.owned j s inside small has;
      real = λ j s t inside owner has. owned.told.real j s t inside (sym (same j) ∙ owner) has;
      free = λ j inside free. ⊎_elim (λ e. ap (λ (n : ℕ). after_entries book.history.items base.heap.at (block_address base.heap n)) e.1 ∙ nobodys)
          (λ ne. owned.told.free j inside (sym (set_other book.blocks k j Free ne.1) ∙ free)) (eqb_tells j k);
    };
    loose = λ j s inside none owner. owned.loose j s inside none (sym (same j) ∙ owner);
    lawful = owned.lawful;
    sorts = owned.sorts;
    past = owned.past;
    numbers = owned.numbers;
    lanes = λ l. lane_stands deeds layout base book.blocks book.history.items book.next_transaction l (slice_set book.blocks k Free) (lane_at book l)
        (record { kept = λ j on. same j; none_new = λ j on. same j }) (owned.lanes l);
    apart = owned.apart;
    of_one = owned.of_one;
  }
    where
      same : (j : ℕ) → owner_in (slice_set book.blocks k Free) j ≡ owner_in book.blocks j
      same j = ⊎_elim (λ e. ap (owner_in (slice_set book.blocks k Free)) e.1 ∙ ap owner_number (set_same book.blocks k Free (slice_get_within book.blocks k Pending pending)) ∙
          sym (ap owner_number pending) ∙ ap (owner_in book.blocks) (sym e.1))
          (λ ne. ap owner_number (set_other book.blocks k j Free ne.1)) (eqb_tells j k)

-- ---- where no block is given, and where no write is dropped

pub none_given_up : (gives : List ℕ) (blocks : List Standing) → gives ≡ [] → laws.AreGivenUp gives blocks blocks
none_given_up gives blocks none = record {
  many = refl;
  given = λ k inside among. absurd (never (is_among gives k) among (ap (λ (gs : List ℕ). is_among gs k) none));
  others = λ k kept. refl;
}

pub all_kept : (h : Heap) (writes : List WordWrite) → AreData h (drop (length writes) writes)
all_kept h [] = tt
all_kept h (w ∷ writes) = all_kept h writes
