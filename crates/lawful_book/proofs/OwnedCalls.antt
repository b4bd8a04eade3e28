-- The asks and begins of a book with takes and gives, and what follows from what it keeps.
use Rattle.std.proofs.Common.{not, ◌≡◌, ◌≢◌, ◌==◌, ◌⊎◌, inl, inr, ⊎_elim, ℕ, zero, suc, ◌+◌, ◌-◌, ◌^◌, ◌<◌, ◌≤◌, Bool, true, false, ◌&&◌, ◌*◌, nat_lt, nat_le, if◌then◌else◌, List, [], ◌∷◌, ◌++◌, length, drop, slice_get, slice_set, get_or, append-nil, refl, sym, ◌∙◌, ap, subst, arith, Option, Some, None}
use Rattle.std.proofs.Math.Nat.{zero-div}
use Rattle.std.specs.List.{filter, list_any}
use Rattle.std.proofs.lemmas.Bool.Decides.{nat_tests, eqb_tells}
use Rattle.std.proofs.lemmas.Option.{slice_get_past, slice_get_within}
use Rattle.std.proofs.lemmas.List.{length-set}
use Rattle.persist_model.specs.Region.{Words}
use Rattle.persist_model.specs.Shape.{heap}
use Rattle.lane_traits.specs.Draft.{after_writes}
use Rattle.lane_traits.specs.declared.draft.WordWrite.{WordWrite}
use Rattle.region_layout.specs.declared.layout.Layout.{Layout}
use Rattle.region_layout.specs.Layout.{layout_shape}
use Rattle.offset_alloc.specs.declared.Standing.{Standing}
use Rattle.offset_alloc.specs.declared.Standing.TheVariants.{Free, Owned, Pending}
use Rattle.offset_alloc.specs.Blocks.{AreAsOwned}
use Rattle.lane_types.specs.declared.call.Call.{Call}
use Rattle.lane_types.specs.declared.call.Phase.{Phase}
use Rattle.lane_types.specs.declared.call.Stepped.TheVariants.{Waiting}
use Rattle.lane_types.specs.declared.call.What.TheVariants.{Structure}
use Rattle.lane_types.specs.declared.face.Entry.{Entry}
use Rattle.lane_types.specs.Deeds.{Deeds}
use Rattle.lane_types.specs.Heaps.{Heap, has_bit, names_in, is_data, block_address, block_of}
use Rattle.lane_types.specs.Histories.{Lawful, HaveSorts, after_entries}
use Rattle.lane_types.specs.Faces.{Base}
use Rattle.lane_types.specs.Asks.{is_there, has_word, Fits}
use Rattle.lane_types.specs.May.{AreData, May}
use Rattle.lane_book.specs.declared.lane.Lane.{Lane}
use Rattle.lane_book.specs.declared.lane.Doing.{Doing}
use Rattle.lane_book.specs.declared.book.Book.{Book}
use Rattle.lane_book.specs.Stocked.{with_items, no_stock}
use Rattle.lane_book.specs.Lanes.{noted, begun_lane, with_lane}
use Rattle.lane_book.specs.FacesOf.{lane_at, faces_of, idle_lane, begun_heap, waiting_writes}
use Rattle.lane_book.specs.Flights.{flights_of}
use Rattle.lane_book.specs.Stores.{no_write}
use Rattle.lane_book.specs.Steps.{IsPlain, held_by, AsksFor}
use Rattle.lane_book.specs.Books.{IsBook, IsAboutIt, IsEmptied}
use Rattle.lane_book.specs.Entries.{committing}
use Rattle.lane_book.specs.Locks as locks
use Rattle.lane_book.specs.Refusals.{owner_number}
use Rattle.lane_book.specs.Owed.{sum_below, sum_of}
use Rattle.lane_book.proofs.Owing.{sum_with}
use Rattle.lane_book.proofs.WordRows.{take_whole}
use Rattle.lane_book.proofs.Keeps.{ready_of}
use Rattle.lane_book.proofs.Holdings.{is_true_left, is_true_right}
use Rattle.lawful_book.specs.LawfulBooks.{MayTake, Each, IsBefore, is_inside}
use Rattle.lawful_book.specs.Laws.{IsWordCall}
use Rattle.lawful_book.specs.OwnedBooks.{owner_in, is_ours, is_own_word, AreTold, AreOpen, moves_block, IsTaking, IsOwnWrite, IsOwnedLane, IsOwnedBook}
use Rattle.lawful_book.specs.OwnedLaws as laws
use Rattle.lawful_book.proofs.Histories.{Depends, AreAllApart, each_filter, apart_filter, IsApartFrom, each_flight, flights_apart, flies, each_map}
use Rattle.lawful_book.proofs.Booking.{some_of, by_lane, apart_with, of_one_with}
use Rattle.lawful_book.proofs.Showing.{bit_below}
use Rattle.lawful_book.proofs.Fitting.{sum_most, next_entry}
use Rattle.lawful_book.proofs.Kept.{same_lane, set_of, no_begin}
use Rattle.lawful_book.proofs.OwnedHeaps.{never, by_bool, named_is, name_of, ours_apart, owner_block, CanFollow, all_follow}
use Rattle.lawful_book.proofs.OwnedWrites.{each_among, each_join, open_more, both_true, write_ours}
use Rattle.lawful_book.proofs.OwnedLanes.{same_core, next_lane, free_owned, not_entered}
use Rattle.lawful_book.proofs.OwnedBooking.{none_here, none_before, replaces, replaces_same, lawful_book, can_follow}
use Rattle.lawful_book.proofs.OwnedShowing.{seen, holds_own, holds_own_all, own_all, shows_blocks, value_held, can_take}
use Rattle.lawful_book.proofs.OwnedAsking.{each_front, blocks_join, set_same, set_other, asking, core_asks, new_is, asking_is, take_told, take_stands, take_open, take_taking, committing_owned}
use Rattle.lane_book.specs.Flights.{is_commit}
use Rattle.lane_book.specs.FacesOf.{batch_of}
use Rattle.lawful_book.proofs.OwnedShowing.{not_given_owner, less_is, is_less, among_any, holds_block, block_ours}
use Rattle.lawful_book.proofs.OwnedKept.{steps_keep, taken_own}

never_next : (n : ℕ) → 0 ≡ n + 1 → ⊥
never_next n e = omega (arith, e)

each_two : {X : Type 0} (P Q R : X → Type 0) (xs : List X) → ((x : X) → P x → Q x → R x) → Each P xs → Each Q xs → Each R xs
each_two P Q R [] f p q = tt
each_two P Q R (x ∷ xs) f p q = (f x p.0 q.0, each_two P Q R xs f p.1 q.1)

-- ---- what a call is about

abbrev read_of : Doing → ℕ
read_of (Doing.Read a) = a
read_of _ = 0

abbrev written_of : Doing → ℕ
written_of (Doing.Write a v) = a
written_of _ = 0

abbrev structure_of : Doing → ℕ
structure_of (Doing.Take s k) = s
structure_of _ = 0

abbrev taken_of : Doing → ℕ
taken_of (Doing.Take s k) = k
taken_of _ = 0

plain_calm : {E : Type 0} (call : Call E) (doing : Doing) → IsPlain call doing → moves_block doing ≡ false
plain_calm _ _ (IsPlain.begin {set}) = refl
plain_calm _ _ (IsPlain.read {a}) = refl
plain_calm _ _ IsPlain.abort = refl
plain_calm _ _ IsPlain.checkpoint = refl
plain_calm _ _ IsPlain.savepoint = refl
plain_calm _ _ (IsPlain.rollback {n}) = refl

plain_open : {E : Type 0} (call : Call E) (doing : Doing) → IsPlain call doing → is_commit doing ≡ false
plain_open _ _ (IsPlain.begin {set}) = refl
plain_open _ _ (IsPlain.read {a}) = refl
plain_open _ _ IsPlain.abort = refl
plain_open _ _ IsPlain.checkpoint = refl
plain_open _ _ IsPlain.savepoint = refl
plain_open _ _ (IsPlain.rollback {n}) = refl

word_calm : {E : Type 0} (call : Call E) (doing : Doing) (writes : List WordWrite) → IsWordCall call doing writes → moves_block doing ≡ false
word_calm _ _ _ (IsWordCall.plain {call} {doing} p) = plain_calm call doing p
word_calm _ _ _ (IsWordCall.write {a} {v}) = refl
word_calm _ _ _ (IsWordCall.batch {n} {writes}) = refl

word_open : {E : Type 0} (call : Call E) (doing : Doing) (writes : List WordWrite) → IsWordCall call doing writes → is_commit doing ≡ false
word_open _ _ _ (IsWordCall.plain {call} {doing} p) = plain_open call doing p
word_open _ _ _ (IsWordCall.write {a} {v}) = refl
word_open _ _ _ (IsWordCall.batch {n} {writes}) = refl

own_is : {E : Type 0} (h : Heap) (begun : Words) (blocks : List Standing) (lane : Lane E) (w : WordWrite) → is_own_word h blocks lane w.address ≡ true → IsOwnWrite lane.held h begun blocks w
own_is h begun blocks lane w own = IsOwnWrite.of_data (is_true_left (is_data h w.address) _ own)
    (not_given_owner lane.held (list_any (λ given. block_of h w.address == given) lane.gives.items) (owner_in blocks (block_of h w.address))
    (is_true_right (nat_lt (block_of h w.address) h.blocks) _ (is_true_right (is_data h w.address) _ own))).1

data_is : {E : Type 0} (h : Heap) (blocks : List Standing) (lane : Lane E) (writes : List WordWrite) → Each (λ (w : WordWrite). is_own_word h blocks lane w.address ≡ true) writes → AreData h writes
data_is h blocks lane [] each = tt
data_is h blocks lane (w ∷ writes) each = (is_true_left (is_data h w.address) _ each.0, data_is h blocks lane writes each.1)

module _ {E : Type 0} (deeds : Deeds E) where
  -- ---- a call of words is asked

  module _ (layout : Layout) (base : Base) (book : Book E) (owned : IsOwnedBook deeds layout base book) (l : ℕ) (nothing : (lane_at book l).doing ≡ Doing.Nothing) where
    abbrev lane : Lane E
    lane = lane_at book l

    calm : moves_block lane.doing ≡ false
    calm = ap moves_block nothing

    word_is : (a : ℕ) → has_word (held_by base book l) a ≡ is_own_word base.heap book.blocks lane a
    word_is a = holds_own deeds layout base book owned l calm a

    words_are : (call : Call E) (doing : Doing) (writes : List WordWrite) → IsWordCall call doing writes → Fits (faces_of base book l) call →
        Each (λ (w : WordWrite). is_own_word base.heap book.blocks lane w.address ≡ true) writes
    words_are _ _ _ (IsWordCall.plain {call} {doing} p) fits = tt
    words_are _ _ _ (IsWordCall.write {a} {v}) fits = (sym (word_is a) ∙ fits.held, tt)
    words_are _ _ _ (IsWordCall.batch {n} {writes}) fits = own_all deeds layout base book owned l calm writes fits.held

    plain_read : (call : Call E) (doing : Doing) → IsPlain call doing → Fits (faces_of base book l) call → (a : ℕ) → doing ≡ Doing.Read a → is_own_word base.heap book.blocks lane a ≡ true
    plain_read _ _ (IsPlain.begin {set}) fits a e = cc
    plain_read _ _ (IsPlain.read {a = b}) fits a e = sym (word_is a) ∙ ap (λ (n : ℕ). has_word (held_by base book l) n) (sym (ap read_of e)) ∙ fits.held
    plain_read _ _ IsPlain.abort fits a e = cc
    plain_read _ _ IsPlain.checkpoint fits a e = cc
    plain_read _ _ IsPlain.savepoint fits a e = cc
    plain_read _ _ (IsPlain.rollback {n}) fits a e = cc

    read_is : (call : Call E) (doing : Doing) (writes : List WordWrite) → IsWordCall call doing writes → Fits (faces_of base book l) call → (a : ℕ) → doing ≡ Doing.Read a →
        is_own_word base.heap book.blocks lane a ≡ true
    read_is _ _ _ (IsWordCall.plain {call} {doing} p) fits a e = plain_read call doing p fits a e
    read_is _ _ _ (IsWordCall.write {a = b} {v}) fits a e = cc
    read_is _ _ _ (IsWordCall.batch {n} {writes}) fits a e = cc

    plain_write : (call : Call E) (doing : Doing) → IsPlain call doing → (a v : ℕ) → doing ≡ Doing.Write a v → ⊥
    plain_write _ _ (IsPlain.begin {set}) a v e = cc
    plain_write _ _ (IsPlain.read {a = b}) a v e = cc
    plain_write _ _ IsPlain.abort a v e = cc
    plain_write _ _ IsPlain.checkpoint a v e = cc
    plain_write _ _ IsPlain.savepoint a v e = cc
    plain_write _ _ (IsPlain.rollback {n}) a v e = cc

    write_is : (call : Call E) (doing : Doing) (writes : List WordWrite) → IsWordCall call doing writes → Fits (faces_of base book l) call → (a v : ℕ) → doing ≡ Doing.Write a v →
        is_own_word base.heap book.blocks lane a ≡ true
    write_is _ _ _ (IsWordCall.plain {call} {doing} p) fits a v e = absurd (plain_write call doing p a v e)
    write_is _ _ _ (IsWordCall.write {a = b} {v = u}) fits a v e = sym (word_is a) ∙ ap (λ (n : ℕ). has_word (held_by base book l) n) (sym (ap written_of e)) ∙ fits.held
    write_is _ _ _ (IsWordCall.batch {n} {writes}) fits a v e = cc

    plain_inside : (call : Call E) (doing : Doing) → IsPlain call doing → Fits (faces_of base book l) call → is_inside Phase.Calling doing ≡ true → lane.phase ≡ Phase.In
    plain_inside _ _ (IsPlain.begin {set}) fits e = cc
    plain_inside _ _ (IsPlain.read {a = b}) fits e = fits.phase
    plain_inside _ _ IsPlain.abort fits e = fits.phase
    plain_inside _ _ IsPlain.checkpoint fits e = cc
    plain_inside _ _ IsPlain.savepoint fits e = fits.phase
    plain_inside _ _ (IsPlain.rollback {n}) fits e = fits.phase

    inside_is : (call : Call E) (doing : Doing) (writes : List WordWrite) → IsWordCall call doing writes → Fits (faces_of base book l) call → is_inside Phase.Calling doing ≡ true → lane.phase ≡ Phase.In
    inside_is _ _ _ (IsWordCall.plain {call} {doing} p) fits e = plain_inside call doing p fits e
    inside_is _ _ _ (IsWordCall.write {a = b} {v}) fits e = fits.phase
    inside_is _ _ _ (IsWordCall.batch {n} {writes}) fits e = fits.phase

    plain_set : (call : Call E) (doing : Doing) → IsPlain call doing → May deeds (faces_of base book l) call → (set : ℕ) → doing ≡ Doing.Begin set → MayTake base.structures lane.begun set
    plain_set _ _ (IsPlain.begin {set = k}) may set e = subst (λ (n : ℕ). MayTake base.structures lane.begun n) (ap set_of e) (record { inside = may.inside; few = may.few })
    plain_set _ _ (IsPlain.read {a}) may set e = absurd (no_begin (Doing.Read a) refl set e)
    plain_set _ _ IsPlain.abort may set e = absurd (no_begin Doing.Abort refl set e)
    plain_set _ _ IsPlain.checkpoint may set e = absurd (no_begin Doing.Checkpoint refl set e)
    plain_set _ _ IsPlain.savepoint may set e = absurd (no_begin Doing.Savepoint refl set e)
    plain_set _ _ (IsPlain.rollback {n}) may set e = absurd (no_begin (Doing.RollbackTo n) refl set e)

    set_is : (call : Call E) (doing : Doing) (writes : List WordWrite) → IsWordCall call doing writes → May deeds (faces_of base book l) call → (set : ℕ) → doing ≡ Doing.Begin set →
        MayTake base.structures lane.begun set
    set_is _ _ _ (IsWordCall.plain {call} {doing} p) may set e = plain_set call doing p may set e
    set_is _ _ _ (IsWordCall.write {a} {v}) may set e = absurd (no_begin (Doing.Write a v) refl set e)
    set_is _ _ _ (IsWordCall.batch {n} {writes}) may set e = absurd (no_begin (Doing.Batch n) refl set e)

  pub asks_keep : laws.AsksKeep deeds
  asks_keep layout base book later l promised call doing writes owned lt nothing word fits may has =
      let old = lane_at book l in
      let asks = has.lane.asks in
      let words = words_are layout base book owned l nothing call doing writes word fits in
      replaces_same deeds layout base book later l (lane_at later l) book.touched lt has.is
      (same_lane (lane_at book l) (lane_at later l) (ap (λ (x : Lane _). x.held) has.lane.asks.is) (ap (λ (x : Lane _). x.transaction) has.lane.asks.is) (ap (λ (x : Lane _). x.begun) has.lane.asks.is))
      (ap (λ (x : Lane _). x.held) has.lane.asks.is)
      (λ was. same_core deeds layout base book.blocks book.history.items book.next_transaction l (asking doing (old.writes.items ++ writes) old.gives.items old) (lane_at later l)
      (core_asks old (lane_at later l) call doing writes [] promised (old.writes.items ++ writes) old.gives.items asks has.lane.entry_stays asks.writes_more (asks.gives_more ∙ append-nil old.gives.items))
      (asking_is deeds layout base book.blocks book.blocks book.history.items book.next_transaction l old was nothing doing (old.writes.items ++ writes) old.gives.items
      (open_more old.held base.heap (begun_heap base book.history.items old).at (after_entries book.history.items base.heap.at) book.blocks old.writes.items writes old.gives.items
      (data_is base.heap book.blocks old writes words)
      (each_map (λ (w : WordWrite). is_own_word base.heap book.blocks old w.address ≡ true) (IsOwnWrite old.held base.heap (begun_heap base book.history.items old).at book.blocks) writes
      (λ w own. own_is base.heap (begun_heap base book.history.items old).at book.blocks old w own) words)
      (was.open_is (new_is deeds layout base book.blocks book.blocks book.history.items book.next_transaction l old was nothing)))
      was.gives_inside
      (read_is layout base book owned l nothing call doing writes word fits)
      (write_is layout base book owned l nothing call doing writes word fits)
      (λ calm. each_front (λ (w : WordWrite). is_own_word base.heap book.blocks old w.address ≡ true) old.writes.items writes (waiting_writes doing) asks.waiting words)
      (λ s k is. absurd (never (moves_block doing) (ap moves_block is) (word_calm call doing writes word)))
      (set_is layout base book owned l nothing call doing writes word may)
      (λ is. never (is_commit doing) (ap is_commit is) (word_open call doing writes word))
      (inside_is layout base book owned l nothing call doing writes word fits))) owned

  -- ---- a take is asked

  pub take_asks_keep : laws.TakeAsksKeep deeds
  take_asks_keep layout base book later l s k owned lt nothing fits may free as_begun has =
      replaces deeds layout base book later l (lane_at later l) bs book.touched lt has.is
      (same_lane old (lane_at later l) held_is (ap (λ (x : Lane _). x.transaction) asks.is) (ap (λ (x : Lane _). x.begun) asks.is))
      (length-set book.blocks k (Owned s))
      (λ j ne. take_stands deeds layout base book owned l s k inside free (lane_at book j).held (owned.apart l j s (λ e. ne (sym e)) fits.held))
      (take_told deeds layout base book owned l s k inside free may)
      (λ j t lt_j none owner. ⊎_elim
      (λ same. absurd (never (has_bit (lane_at later l).held t)
      (subst (λ (n : ℕ). has_bit (lane_at later l).held n ≡ true) (next_same s t (sym (ap owner_number (set_same book.blocks k (Owned s) inside)) ∙ ap (owner_in bs) (sym same.1) ∙ owner))
      (ap (λ (n : ℕ). has_bit n s) held_is ∙ fits.held)) (none_here book l (lane_at later l) book.touched lt t none)))
      (λ ne. owned.loose j t lt_j (none_before book l (lane_at later l) book.touched lt t none (ap (λ (n : ℕ). has_bit n t) (sym held_is) ∙ none_here book l (lane_at later l) book.touched lt t none))
      (sym (ap owner_number (set_other book.blocks k j (Owned s) ne.1)) ∙ owner)) (eqb_tells j k))
      (λ was. same_core deeds layout base bs book.history.items book.next_transaction l (asking (Doing.Take s k) all old.gives.items old) (lane_at later l)
      (core_asks old (lane_at later l) (Call.Take s) (Doing.Take s k) (owner_write ∷ []) [] 2 all old.gives.items asks has.lane.entry_stays asks.writes_more (asks.gives_more ∙ append-nil old.gives.items))
      (asking_is deeds layout base book.blocks bs book.history.items book.next_transaction l old was nothing (Doing.Take s k) all old.gives.items
      (take_open deeds layout base book owned l s k inside free fits.held as_begun open_is)
      was.gives_inside (λ a e. cc) (λ a v e. cc) (λ off. absurd (never true refl off))
      (λ t j e. subst (λ (n : ℕ). IsTaking base.heap (begun_heap base book.history.items old).at n j (asking (Doing.Take s k) all old.gives.items old)) (ap structure_of e)
      (subst (λ (n : ℕ). IsTaking base.heap (begun_heap base book.history.items old).at s n (asking (Doing.Take s k) all old.gives.items old)) (ap taken_of e)
      (take_taking deeds layout base book owned l s k inside free fits.held as_begun open_is)))
      (λ set e. absurd (no_begin (Doing.Take s k) refl set e)) (λ e. never true refl (sym (ap is_commit e))) (λ e. fits.phase))) owned
    where
      old : Lane E
      old = lane_at book l

      bs : List Standing
      bs = slice_set book.blocks k (Owned s)

      owner_write : WordWrite
      owner_write = record { address = block_address base.heap k; value = s + 1 }

      all : List WordWrite
      all = old.writes.items ++ owner_write ∷ []

      asks : AsksFor old (Call.Take s) (Doing.Take s k) (owner_write ∷ []) [] 2 (lane_at later l)
      asks = has.lane.asks

      held_is : (lane_at later l).held ≡ old.held
      held_is = ap (λ (x : Lane _). x.held) asks.is

      inside : k < length book.blocks
      inside = slice_get_within book.blocks k Free free

      open_is : AreOpen old.held base.heap (begun_heap base book.history.items old).at (after_entries book.history.items base.heap.at) book.blocks old.writes.items old.gives.items
      open_is = (owned.lanes l).open_is (new_is deeds layout base book.blocks book.blocks book.history.items book.next_transaction l old (owned.lanes l) nothing)

      next_same : (n m : ℕ) → n + 1 ≡ m + 1 → n ≡ m
      next_same n m e = omega (arith, e)

  -- ---- a give is asked

  pub give_asks_keep : laws.GiveAsksKeep deeds
  give_asks_keep layout base book later l k owned lt nothing fits may has =
      replaces_same deeds layout base book later l (lane_at later l) book.touched lt has.is
      (same_lane old (lane_at later l) (ap (λ (x : Lane _). x.held) asks.is) (ap (λ (x : Lane _). x.transaction) asks.is) (ap (λ (x : Lane _). x.begun) asks.is)) (ap (λ (x : Lane _). x.held) asks.is)
      (λ was. same_core deeds layout base book.blocks book.history.items book.next_transaction l (asking (Doing.Give k) old.writes.items (old.gives.items ++ k ∷ []) old) (lane_at later l)
      (core_asks old (lane_at later l) (Call.Give k) (Doing.Give k) [] (k ∷ []) 1 old.writes.items (old.gives.items ++ k ∷ []) asks has.lane.entry_stays (asks.writes_more ∙ append-nil old.writes.items) asks.gives_more)
      (asking_is deeds layout base book.blocks book.blocks book.history.items book.next_transaction l old was nothing (Doing.Give k) old.writes.items (old.gives.items ++ k ∷ [])
      (give_open (was.open_is (new_is deeds layout base book.blocks book.blocks book.history.items book.next_transaction l old was nothing)))
      (blocks_join layout old.gives.items k was.gives_inside (subst (λ (n : ℕ). k < n) owned.place.blocks may.inside))
      (λ a e. cc) (λ a v e. cc) (λ off. absurd (never true refl off)) (λ s j e. absurd (give_takes s j e))
      (λ set e. absurd (no_begin (Doing.Give k) refl set e)) (λ e. never true refl (sym (ap is_commit e))) (λ e. fits.phase))) owned
    where
      old : Lane E
      old = lane_at book l

      asks : AsksFor old (Call.Give k) (Doing.Give k) [] (k ∷ []) 1 (lane_at later l)
      asks = has.lane.asks

      give_takes : (s j : ℕ) → Doing.Give k ≡ Doing.Take s j → ⊥
      give_takes s j e = cc

      ours : is_ours old.held book.blocks k ≡ true
      ours =
          let calm = ap moves_block nothing in
          let there = sym (holds_block deeds layout base book owned l k) ∙ fits.held in
          let mine = sym (seen deeds layout base book owned l calm k may.inside) ∙ is_true_right (nat_lt k base.heap.blocks) _ there in
          (not_given_owner old.held (list_any (λ given. k == given) old.gives.items) (owner_in book.blocks k) mine).1

      give_open : AreOpen old.held base.heap (begun_heap base book.history.items old).at (after_entries book.history.items base.heap.at) book.blocks old.writes.items old.gives.items →
          AreOpen old.held base.heap (begun_heap base book.history.items old).at (after_entries book.history.items base.heap.at) book.blocks old.writes.items (old.gives.items ++ k ∷ [])
      give_open are = record {
        writes_are = are.writes_are;
        gives_are = each_join (λ (j : ℕ). is_ours old.held book.blocks j ≡ true) old.gives.items (k ∷ []) are.gives_are (ours, tt);
        same = are.same;
        first = are.first;
        shown = are.shown;
      }

  pub commit_asks_keep : Depends deeds → laws.CommitAsksKeep deeds
  commit_asks_keep depends layout base book later l deed writes touched owned whole lt nothing fits may writes_are is =
      replaces_same deeds layout base book later l (committing l deed writes (lane_at book l)) touched lt is
      (same_lane (lane_at book l) (committing l deed writes (lane_at book l)) refl refl refl) refl
      (λ was. committing_owned deeds layout base book owned l nothing (ready_of (length book.history.items) (lane_at book l) nothing (whole l)).stored depends deed writes fits.phase may writes_are) owned

  -- ---- a begin

  module _ (layout : Layout) (base : Base) (book : Book E) (owned : IsOwnedBook deeds layout base book) (l set : ℕ) (doing : (lane_at book l).doing ≡ Doing.Begin set) (whole : IsBook book)
      (loose : locks.AreLoose book set) where
    abbrev before : Lane E
    before = lane_at book l

    abbrev now : Words
    now = after_entries book.history.items base.heap.at

    was : IsOwnedLane deeds layout base book.blocks book.history.items book.next_transaction l before
    was = owned.lanes l

    may : MayTake base.structures before.begun set
    may = was.own_set set doing

    cleared : IsEmptied before
    cleared = subst (IsAboutIt before) doing (whole l).about

    begin_commits : Doing.Begin set ≡ Doing.Commit → ⊥
    begin_commits e = cc

    no_entry : before.entry ≡ None
    no_entry = by_entry before.entry refl
      where
        by_entry : (o : Option (Entry E)) → before.entry ≡ o → o ≡ None
        by_entry None is = refl
        by_entry (Some e) is = absurd (begin_commits (sym doing ∙ (was.coming e is).call))

    abbrev begins_as : Lane E
    begins_as = record idle_lane { phase = Phase.In; held = set; begun = before.begun + 1; commits = before.commits; transaction = book.next_transaction; joined = length book.history.items }

    begun_is : (begun_heap base book.history.items begins_as).at ≡ now
    begun_is = λ i. after_entries (take_whole (length book.history.items) book.history.items (omega arith) i) base.heap.at

    small : (s : ℕ) → has_bit set s ≡ true → s < base.structures
    small s on = bit_below set base.structures s may.inside on

    few_structures : (s : ℕ) → has_bit set s ≡ true → s < 8
    few_structures s on = let lt = small s on in let few = owned.place.few in omega (arith, lt, few)

    begins_open : AreOpen set base.heap (begun_heap base book.history.items begins_as).at now book.blocks [] []
    begins_open = record {
      writes_are = tt;
      gives_are = tt;
      same = λ a on. ap (λ (u : Words). u a) begun_is;
      first = λ k inside named. let it = named_is set ((begun_heap base book.history.items begins_as).at (block_address base.heap k)) named in
          owned.told.owned k it.0 inside (small it.0 it.2) (ap (λ (u : Words). u (block_address base.heap k)) (sym begun_is) ∙ it.1) ∙ sym it.1;
      shown = λ k inside on. let it = named_is set (owner_in book.blocks k) on in
          ap (λ (u : Words). u (block_address base.heap k)) begun_is ∙ owned.loose k it.0 inside (loose it.0 (few_structures it.0 it.2) it.2) it.1 ∙ sym it.1;
    }

    nothing_begins : (k : ℕ) → Doing.Nothing ≡ Doing.Begin k → ⊥
    nothing_begins k e = cc

    nothing_takes : (s k : ℕ) → Doing.Nothing ≡ Doing.Take s k → ⊥
    nothing_takes s k e = cc

    nothing_commits : Doing.Nothing ≡ Doing.Commit → ⊥
    nothing_commits e = cc

    no_number : (n : ℕ) → 1 ≤ n → n ≡ 0 → ⊥
    no_number n le e = omega (arith, le, e)

    ne_of_less : (m n : ℕ) → m < n → m ≡ n → ⊥
    ne_of_less m n lt e = omega (arith, lt, e)

    begins_owned : IsOwnedLane deeds layout base book.blocks book.history.items (book.next_transaction + 1) l begins_as
    begins_owned = record {
      inside = may.inside;
      gives_inside = tt;
      open_is = λ new. begins_open;
      joined_is = λ on. absurd (never false on refl);
      own_read = λ a e. cc;
      own_write = λ a v e. cc;
      own_last = λ words. tt;
      own_take = λ s k e. absurd (nothing_takes s k e);
      own_set = λ k e. absurd (nothing_begins k e);
      begun = omega arith;
      counts = record {
        few = let f = may.few in omega (arith, f);
        most = let m = was.counts.most in omega (arith, m);
        less = λ s new. let m = was.counts.most in omega (arith, m);
      };
      running = λ on none. no_number book.next_transaction (some_of _ _ owned.numbers) none;
      entering = λ on. absurd (never false on refl);
      before = each_two (λ (x : Entry _). x.transaction < book.next_transaction) (IsBefore l before.begun before.transaction before.entered) (IsBefore l (before.begun + 1) book.next_transaction false) book.history.items
          (λ x p earlier. record {
            counted = λ same. let lt = earlier.counted same in omega (arith, lt);
            older = λ s new same. let lt = earlier.counted same in omega (arith, lt);
            differs = λ s new is. ne_of_less x.transaction book.next_transaction p is;
          }) owned.past was.before;
      has_entry = λ commit. absurd (nothing_commits commit);
      has_joined = λ on. absurd (never false on refl);
      coming = λ e has. cc;
    }

    pub begun_owned : IsOwnedLane deeds layout base book.blocks book.history.items (book.next_transaction + 1) l (begun_lane book.next_transaction set (length book.history.items) before)
    begun_owned = same_core deeds layout base book.blocks book.history.items (book.next_transaction + 1) l begins_as (begun_lane book.next_transaction set (length book.history.items) before)
        (λ i. record begins_as { writes = with_items (cleared.writes_gone i) no_stock; gives = with_items (cleared.gives_gone i) no_stock; entry = no_entry i }) begins_owned

    -- what the lane held it held as the owner words say
    pub held_before : (k s : ℕ) → k < base.heap.blocks → has_bit before.held s ≡ true → owner_in book.blocks k ≡ s + 1 → now (block_address base.heap k) ≡ s + 1
    held_before k s inside on owner =
        let are = was.open_is (not_entered deeds layout base book.blocks book.history.items book.next_transaction l before (λ e. begin_commits (sym doing ∙ e)) was) in
        let ours = name_of before.held (owner_in book.blocks k) s owner on in
        sym (are.same (block_address base.heap k) (ap (is_ours before.held book.blocks) (owner_block base.heap k) ∙ ours)) ∙
        sym (ap (λ (ws : List WordWrite). after_writes ws (begun_heap base book.history.items before).at (block_address base.heap k)) cleared.writes_gone) ∙ are.shown k inside ours ∙ owner

  begins : (layout : Layout) (base : Base) (book later : Book E) (l set : ℕ) → IsOwnedBook deeds layout base book → l < length book.lanes.items →
      (lane_at book l).doing ≡ Doing.Begin set → IsBook book → locks.AreLoose book set →
      later ≡ record (with_lane book l (begun_lane book.next_transaction set (length book.history.items) (lane_at book l)) None) {
        next_transaction = book.next_transaction + 1;
      } → IsOwnedBook deeds layout base later
  begins layout base book later l set owned lt doing whole loose is = subst (λ (b : Book _). IsOwnedBook deeds layout base b) (sym is) record {
    place = owned.place;
    many = owned.many;
    told = owned.told;
    loose = λ k s inside none owner. by_bool _ (has_bit (lane_at book l).held s) (λ on. held_before layout base book owned l set doing whole loose k s inside on owner)
        (λ off. owned.loose k s inside (none_before book l begun None lt s none off) owner);
    lawful = owned.lawful;
    sorts = owned.sorts;
    past = each_map (λ (x : Entry _). x.transaction < book.next_transaction) (λ (x : Entry _). x.transaction < book.next_transaction + 1) book.history.items (λ x p. omega (arith, p)) owned.past;
    numbers = one_more _ _ _ _ _ (owned.lanes l).begun owned.numbers (sum_with (λ (x : Lane E). x.begun) book l begun None lt);
    lanes = by_lane (λ k x. IsOwnedLane deeds layout base book.blocks book.history.items (book.next_transaction + 1) k x) book l begun None lt
        (begun_owned layout base book owned l set doing whole loose)
        (λ k ne. next_lane deeds layout base book.blocks book.history.items book.next_transaction k (book.next_transaction + 1) (lane_at book k) (omega arith) (owned.lanes k));
    apart = apart_with book l begun None lt owned.apart
        (λ k s ne on. loose s (let below = bit_below set base.structures s ((owned.lanes l).own_set set doing).inside on in let few = owned.place.few in omega (arith, below, few)) on k);
    of_one = of_one_with book l begun None lt owned.of_one (λ k ne some same. let less = (owned.lanes k).begun in omega (arith, less, same));
  }
    where
      one_more : (next later s m t : ℕ) → t < next → next ≡ s + 1 → later + m ≡ s + (m + 1) → next + 1 ≡ later + 1
      one_more next later s m t lt e f = omega (arith, e, f)

      begun : Lane E
      begun = begun_lane book.next_transaction set (length book.history.items) (lane_at book l)

  pub begins_keep : laws.BeginsKeep deeds
  begins_keep layout base book later l set _ owned lt doing whole (locks.BeginEnds.waits s holder least is) =
      steps_keep deeds layout base book later l (noted (Waiting (Structure s) holder) (lane_at book l)) None owned lt is (record {
        same = record { held = refl; begun = refl; commits = refl; transaction = refl; joined = refl; gives = refl; entry = refl };
        writes = refl;
        phase = refl;
        doing = refl;
        entered = refl;
      })
  begins_keep layout base book later l set _ owned lt doing whole (locks.BeginEnds.takes loose is) = begins layout base book later l set owned lt doing whole loose is

  -- ---- what follows

  module _ (layout : Layout) (base : Base) (book : Book E) (owned : IsOwnedBook deeds layout base book) where
    flights_can_follow : Each (CanFollow deeds base book.blocks book.history.items) (flights_of book)
    flights_can_follow = each_flight (CanFollow deeds base book.blocks book.history.items) book.lanes.items
        (λ i e has. can_follow deeds layout base book owned i e (flies (lane_at book i) e has))

    apart_from : (i j : ℕ) (e f : Entry E) → i ≢ j → (lane_at book i).entry ≡ Some e → (lane_at book j).entry ≡ Some f → IsApartFrom deeds e f
    apart_from i j e f ne one other =
        let first = (owned.lanes i).coming e one in let second = (owned.lanes j).coming f other in record {
          lanes = λ same. ne (sym first.lane_is ∙ same ∙ second.lane_is);
          transactions = λ same. owned.of_one i j ne first.some (sym first.transaction ∙ same ∙ second.transaction);
          sets = λ s on. subst (λ (n : ℕ). has_bit n s ≡ false) (sym first.names)
              (owned.apart j i s (λ same. ne (sym same)) (subst (λ (n : ℕ). has_bit n s ≡ true) second.names on));
        }

    flights_all_apart : AreAllApart deeds (flights_of book)
    flights_all_apart = flights_apart deeds book.lanes.items
        (λ i j e f ne one other. apart_from i j e f ne (flies (lane_at book i) e one) (flies (lane_at book j) f other))

  pub flights_are_lawful : Depends deeds → laws.FlightsAreLawful deeds
  flights_are_lawful depends layout base book owned =
      let all = all_follow deeds depends base book.blocks (flights_of book) book.history.items (lawful_book deeds layout base book owned)
      (flights_can_follow layout base book owned) (flights_all_apart layout base book owned) in
      record { lawful = all.lawful; sorts = all.sorts }

  pub some_flights_are_lawful : Depends deeds → laws.SomeFlightsAreLawful deeds
  some_flights_are_lawful depends layout base book owned picks =
      let all = all_follow deeds depends base book.blocks (filter picks (flights_of book)) book.history.items (lawful_book deeds layout base book owned)
      (each_filter (CanFollow deeds base book.blocks book.history.items) picks (flights_of book) (flights_can_follow layout base book owned))
      (apart_filter deeds picks (flights_of book) (flights_all_apart layout base book owned)) in
      record { lawful = all.lawful; sorts = all.sorts }

  pub blocks_are_shown : laws.BlocksAreShown deeds
  blocks_are_shown layout base book owned l calm = shows_blocks deeds layout base book owned l calm

  each_at : (P : WordWrite → Type 0) (writes : List WordWrite) (n : ℕ) → n < length writes → Each P writes → P (get_or writes n no_write)
  each_at P [] n lt each = absurd (omega (arith, lt))
  each_at P (w ∷ writes) zero lt each = each.0
  each_at P (w ∷ writes) (suc n) lt each = each_at P writes n (omega (arith, lt)) each.1

  pub writes_are_held : laws.WritesAreHeld deeds
  writes_are_held layout base book owned l n lt new calm at_data kept =
      let lane = lane_at book l in
      let w = get_or lane.writes.items n no_write in
      let own = each_at (IsOwnWrite lane.held base.heap (begun_heap base book.history.items lane).at book.blocks) lane.writes.items n lt ((owned.lanes l).open_is new).writes_are in
      holds_own deeds layout base book owned l calm w.address ∙
      both_true (is_data base.heap w.address) _ at_data
      (both_true (nat_lt (block_of base.heap w.address) base.heap.blocks) _
      (is_true_left (nat_lt (block_of base.heap w.address) base.heap.blocks) _ (is_true_right (not (nat_lt w.address base.heap.start)) _ at_data))
      (ap (λ (t : Bool). names_in lane.held (if t then 0 else owner_in book.blocks (block_of base.heap w.address))) (among_any lane.gives.items (block_of base.heap w.address) ∙ kept) ∙
      write_ours lane.held base.heap (begun_heap base book.history.items lane).at book.blocks w own))

  pub reads_are_held : laws.ReadsAreHeld deeds
  reads_are_held layout base book owned l a doing = holds_own deeds layout base book owned l (ap moves_block doing) a ∙ (owned.lanes l).own_read a doing

  pub calls_are_held : laws.CallsAreHeld deeds
  calls_are_held layout base book owned whole l a v doing = holds_own deeds layout base book owned l (ap moves_block doing) a ∙ (owned.lanes l).own_write a v doing

  pub batches_are_held : laws.BatchesAreHeld deeds
  batches_are_held layout base book owned l n doing =
      let calm = ap moves_block doing in
      holds_own_all deeds layout base book owned l calm (batch_of n (lane_at book l))
      (subst (λ (d : Doing). Each (λ (w : WordWrite). is_own_word base.heap book.blocks (lane_at book l) w.address ≡ true) (drop (length (lane_at book l).writes.items - waiting_writes d) (lane_at book l).writes.items))
      doing ((owned.lanes l).own_last calm))

  pub values_are_held : laws.ValuesAreHeld deeds
  values_are_held layout base book owned whole l a has = value_held deeds layout base book owned l whole a has

  pub takes_are_new : laws.TakesAreNew deeds
  takes_are_new layout base book owned l s k doing = can_take deeds layout base book owned l s k doing

  pub numbers_are_left : laws.NumbersAreLeft deeds
  numbers_are_left layout base book owned few = bounded _ _ _ owned.numbers
      (sum_most (λ (x : Lane E). x.begun) book (length book.lanes.items) (λ l. (owned.lanes l).counts.few)) few
    where
      bounded : (n s k : ℕ) → n ≡ s + 1 → s ≤ 576460752303423488 * k → k ≤ 16 → n < 2 ^ 64 - 1
      bounded n s k is most few = omega (arith, is, most, few)

  pub commits_are_few : laws.CommitsAreFew deeds
  commits_are_few layout base book owned l = let few = (owned.lanes l).counts.few in let most = (owned.lanes l).counts.most in omega (arith, few, most)

  pub entries_are_there : laws.EntriesAreThere deeds
  entries_are_there layout base book owned l commit new =
      let was = owned.lanes l in record {
        next = next_entry l (lane_at book l).begun (lane_at book l).entry (was.has_entry commit new)
            (λ e has. let comes = was.coming e has in (comes.lane_is, comes.number));
        new = new;
      }

  pub gives_are_blocks : laws.GivesAreBlocks deeds
  gives_are_blocks layout base book owned l = (owned.lanes l).gives_inside

  pub owners_are_structures : laws.OwnersAreStructures deeds
  owners_are_structures layout base book owned k s is = let small = owned.told.named k s (ap owner_number is) in let few = owned.place.few in omega (arith, small, few)

  pub same_books_keep : laws.SameBooksKeep deeds
  same_books_keep layout base book later owned same = record {
    place = owned.place;
    many = ap (λ (bs : List Standing). length bs) same.blocks ∙ owned.many;
    told = subst (λ (es : List (Entry _)). AreTold base.structures base.heap (after_entries es base.heap.at) later.blocks) (sym same.history)
        (subst (λ (bs : List Standing). AreTold base.structures base.heap (after_entries book.history.items base.heap.at) bs) (sym same.blocks) owned.told);
    loose = λ k s inside none owner. ap (λ (es : List (Entry _)). after_entries es base.heap.at (block_address base.heap k)) same.history ∙
        owned.loose k s inside (λ l. ap (λ (x : Lane _). has_bit x.held s) (sym (lane_is l)) ∙ none l) (ap (λ (bs : List Standing). owner_in bs k) (sym same.blocks) ∙ owner);
    lawful = subst (λ (es : List (Entry _)). ∥ Lawful deeds base.heap es ∥₁) (sym same.history) owned.lawful;
    sorts = subst (HaveSorts deeds base.sorts) (sym same.history) owned.sorts;
    past = subst (λ (es : List (Entry _)). Each (λ (x : Entry _). x.transaction < later.next_transaction) es) (sym same.history)
        (subst (λ (n : ℕ). Each (λ (x : Entry _). x.transaction < n) book.history.items) (sym same.next) owned.past);
    numbers = same.next ∙ owned.numbers ∙ ap (λ (n : ℕ). n + 1) (sum_is book later same.lanes);
    lanes = λ l. subst (λ (x : Lane _). IsOwnedLane deeds layout base later.blocks later.history.items later.next_transaction l x) (sym (lane_is l))
        (subst (λ (bs : List Standing). IsOwnedLane deeds layout base bs later.history.items later.next_transaction l (lane_at book l)) (sym same.blocks)
        (subst (λ (es : List (Entry _)). IsOwnedLane deeds layout base book.blocks es later.next_transaction l (lane_at book l)) (sym same.history)
        (subst (λ (n : ℕ). IsOwnedLane deeds layout base book.blocks book.history.items n l (lane_at book l)) (sym same.next) (owned.lanes l))));
    apart = λ l k s ne on. ap (λ (x : Lane _). has_bit x.held s) (lane_is k) ∙ owned.apart l k s ne (ap (λ (x : Lane _). has_bit x.held s) (sym (lane_is l)) ∙ on);
    of_one = λ l k ne some is. owned.of_one l k ne (λ none. some (ap (λ (x : Lane _). x.transaction) (lane_is l) ∙ none))
        (ap (λ (x : Lane _). x.transaction) (sym (lane_is l)) ∙ is ∙ ap (λ (x : Lane _). x.transaction) (lane_is k));
  }
    where
      sum_is : (b c : Book E) → c.lanes ≡ b.lanes → sum_of (λ (x : Lane E). x.begun) b ≡ sum_of (λ (x : Lane E). x.begun) c
      sum_is b c is = λ i. sum_of (λ (x : Lane E). x.begun) (record c { lanes = sym is i })

      lane_is : (l : ℕ) → lane_at later l ≡ lane_at book l
      lane_is l = λ i. get_or (same.lanes i).items l idle_lane

  -- ---- a book that begins

  module _ (layout : Layout) (base : Base) (blocks : List Standing) (start : base.heap.start ≡ heap (layout_shape layout)) (count : base.heap.blocks ≡ layout.blocks)
      (structures : base.structures ≡ layout.structures) (many : length blocks ≡ layout.blocks) (owners : AreAsOwned (layout_shape layout) base.heap.at blocks) where
    abbrev standing : ℕ → ℕ → Standing
    standing k n = if n == 0 then (if nat_lt k layout.structures then Pending else Free) else (if nat_le n layout.structures then Owned (n - 1) else Pending)

    owner_at : (k : ℕ) → k < base.heap.blocks → slice_get blocks k ≡ Some (standing k (base.heap.at (block_address base.heap k)))
    owner_at k inside = owners.each k (subst (λ (n : ℕ). k < n) count inside) ∙ ap (λ (a : ℕ). Some (standing k (base.heap.at (a + 16 * k)))) (sym start)

    some_standing : (k n : ℕ) → standing k (suc n) ≡ (if nat_le (suc n) layout.structures then Owned (suc n - 1) else Pending)
    some_standing k n = ap (λ (t : Bool). if t then (if nat_lt k layout.structures then Pending else Free) else (if nat_le (suc n) layout.structures then Owned (suc n - 1) else Pending)) (not_none n)
      where
        not_none : (m : ℕ) → (suc m == 0) ≡ false
        not_none m = grind (arith, nat_tests)

    -- a standing names nobody, and then the number is no structure's, or the number itself
    by_number : (k n : ℕ) → ((owner_number (Some (standing k n)) ≡ 0) × ((s : ℕ) → n ≡ s + 1 → s < layout.structures → ⊥)) ⊎ ((owner_number (Some (standing k n)) ≡ n) × (n ≤ layout.structures))
    by_number k zero = inl (none_owner (nat_lt k layout.structures), λ s e lt. never_next s e)
      where
        none_owner : (t : Bool) → owner_number (Some (if t then Pending else Free)) ≡ 0
        none_owner true = refl
        none_owner false = refl
    by_number k (suc n) = by_most (nat_le (suc n) layout.structures) refl
      where
        within : nat_le (suc n) layout.structures ≡ true → suc n ≤ layout.structures
        within e = grind (arith, nat_tests)

        beyond : nat_le (suc n) layout.structures ≡ false → layout.structures ≤ n
        beyond e = grind (arith, nat_tests)

        back : (m : ℕ) → suc m - 1 + 1 ≡ suc m
        back m = omega arith

        by_most : (t : Bool) → nat_le (suc n) layout.structures ≡ t → ((owner_number (Some (standing k (suc n))) ≡ 0) × ((s : ℕ) → suc n ≡ s + 1 → s < layout.structures → ⊥)) ⊎
            ((owner_number (Some (standing k (suc n))) ≡ suc n) × (suc n ≤ layout.structures))
        by_most true e = inr (ap (λ (o : Standing). owner_number (Some o)) (some_standing k n) ∙ ap (λ (t : Bool). owner_number (Some (if t then Owned (suc n - 1) else Pending))) e ∙ back n, within e)
        by_most false e = inl (ap (λ (o : Standing). owner_number (Some o)) (some_standing k n) ∙ ap (λ (t : Bool). owner_number (Some (if t then Owned (suc n - 1) else Pending))) e, λ s same lt. let le = beyond e in omega (arith, le, same, lt))

    free_number : (k n : ℕ) → Some (standing k n) ≡ Some Free → n ≡ 0
    free_number k zero e = refl
    free_number k (suc n) e = absurd (by_most (nat_le (suc n) layout.structures) (sym (ap (λ (o : Standing). Some o) (some_standing k n)) ∙ e))
      where
        is_free : Option Standing → Bool
        is_free (Some Free) = true
        is_free _ = false

        by_most : (t : Bool) → Some (if t then Owned (suc n - 1) else Pending) ≡ Some Free → ⊥
        by_most true f = never true refl (sym (ap is_free f))
        by_most false f = never true refl (sym (ap is_free f))

    in_range : (k s : ℕ) → owner_in blocks k ≡ s + 1 → k < base.heap.blocks
    in_range k s owner = by_less (nat_lt k base.heap.blocks) refl
      where
        past_it : nat_lt k base.heap.blocks ≡ false → base.heap.blocks ≤ k
        past_it e = grind (arith, nat_tests)

        by_less : (t : Bool) → nat_lt k base.heap.blocks ≡ t → k < base.heap.blocks
        by_less true e = less_is k base.heap.blocks e
        by_less false e = absurd (never_next s (sym (ap owner_number (slice_get_past blocks k (let le = past_it e in omega (arith, le, count, many)))) ∙ owner))

    owner_number_is : (k s : ℕ) → k < base.heap.blocks → owner_in blocks k ≡ s + 1 → (base.heap.at (block_address base.heap k) ≡ s + 1) × (s < layout.structures)
    owner_number_is k s inside owner =
        let n = base.heap.at (block_address base.heap k) in
        let is = sym (ap owner_number (owner_at k inside)) ∙ owner in
        ⊎_elim (λ none. absurd (never_next s (sym none.0 ∙ is))) (λ some. let same = sym some.0 ∙ is in (same, (let le = some.1 in omega (arith, le, same)))) (by_number k n)

    pub fresh_told : AreTold base.structures base.heap base.heap.at blocks
    fresh_told = record {
      named = λ k s owner. subst (λ (n : ℕ). s < n) (sym structures) (owner_number_is k s (in_range k s owner) owner).1;
      owned = λ k s inside small is. ap owner_number (owner_at k inside) ∙ ⊎_elim (λ none. absurd (none.1 s is (subst (λ (n : ℕ). s < n) structures small))) (λ some. some.0 ∙ is)
          (by_number k (base.heap.at (block_address base.heap k)));
      real = λ k s t inside owner is. let same = sym is ∙ (owner_number_is k s inside owner).0 in omega (arith, same);
      free = λ k inside free. free_number k (base.heap.at (block_address base.heap k)) (sym (owner_at k inside) ∙ free);
    }

    pub fresh_owner : (k s : ℕ) → k < base.heap.blocks → owner_in blocks k ≡ s + 1 → base.heap.at (block_address base.heap k) ≡ s + 1
    fresh_owner k s inside owner = (owner_number_is k s inside owner).0

  pub fresh_books_are_owned : laws.FreshBooksAreOwned deeds
  fresh_books_are_owned layout base lanes blocks sorts book fresh place many owners = record {
    place = place;
    many = ap (λ (bs : List Standing). length bs) fresh.stand ∙ many;
    told = subst (λ (es : List (Entry _)). AreTold base.structures base.heap (after_entries es base.heap.at) book.blocks) (sym fresh.none_joined)
        (subst (λ (bs : List Standing). AreTold base.structures base.heap base.heap.at bs) (sym fresh.stand)
        (fresh_told layout base blocks place.start place.blocks place.structures many owners));
    loose = λ k s inside none owner. ap (λ (es : List (Entry _)). after_entries es base.heap.at (block_address base.heap k)) fresh.none_joined ∙
        fresh_owner layout base blocks place.start place.blocks place.structures many owners k s inside (ap (λ (bs : List Standing). owner_in bs k) (sym fresh.stand) ∙ owner);
    lawful = subst (λ (es : List (Entry _)). ∥ Lawful deeds base.heap es ∥₁) (sym fresh.none_joined) ∣ tt ∣₁;
    sorts = subst (HaveSorts deeds base.sorts) (sym fresh.none_joined) tt;
    past = subst (λ (es : List (Entry _)). Each (λ (x : Entry _). x.transaction < book.next_transaction) es) (sym fresh.none_joined) tt;
    numbers = fresh.next ∙ ap (λ (n : ℕ). n + 1) (sym (none_begun (length book.lanes.items)));
    lanes = λ l. subst (λ (x : Lane _). IsOwnedLane deeds layout base book.blocks book.history.items book.next_transaction l x) (sym (fresh.idle l))
        (free_owned deeds layout base book.blocks book.history.items book.next_transaction l 0 0 (omega arith) (omega arith) (let n = fresh.next in omega (arith, n))
        (subst (λ (es : List (Entry _)). Each (λ (x : Entry _). x.lane ≡ l → x.number < 0) es) (sym fresh.none_joined) tt));
    apart = λ l k s ne on. ap (λ (x : Lane _). has_bit x.held s) (fresh.idle k) ∙ no_bit s;
    of_one = λ l k ne some is. some (ap (λ (x : Lane _). x.transaction) (fresh.idle l));
  }
    where
      none_begun : (n : ℕ) → sum_below (λ (x : Lane E). x.begun) book n ≡ 0
      none_begun zero = refl
      none_begun (suc n) = let below = none_begun n in let here = ap (λ (x : Lane E). x.begun) (fresh.idle n) in omega (arith, below, here)

      no_bit : (s : ℕ) → has_bit 0 s ≡ false
      no_bit s = rw (zero-div (2 ^ s)) refl

  -- ---- whose the blocks are

  not_some : (o : Option ℕ) → (is_there o ≡ true → ⊥) → o ≡ None
  not_some None f = refl
  not_some (Some n) f = absurd (f refl)

  -- a block that a lane sees is its own by its standing
  seen_ours : (layout : Layout) (base : Base) (book : Book E) → IsOwnedBook deeds layout base book → (l k : ℕ) → is_there ((held_by base book l).owner k) ≡ true → is_ours (lane_at book l).held book.blocks k ≡ true
  seen_ours layout base book owned l k there =
      let on = sym (holds_block deeds layout base book owned l k) ∙ there in
      block_ours deeds layout base book owned l k (less_is k base.heap.blocks (is_true_left (nat_lt k base.heap.blocks) _ on)) (is_true_right (nat_lt k base.heap.blocks) _ on)

  pub loose_blocks_are_hidden : laws.LooseBlocksAreHidden deeds
  loose_blocks_are_hidden layout base book owned l k nobodys = not_some _ (λ there.
      never (is_ours (lane_at book l).held book.blocks k) (seen_ours layout base book owned l k there) (ap (names_in (lane_at book l).held) nobodys))

  pub blocks_are_apart : laws.BlocksAreApart deeds
  blocks_are_apart layout base book owned l j k s ne has = not_some _ (λ there.
      never (is_ours (lane_at book j).held book.blocks k) (seen_ours layout base book owned j k there)
      (ours_apart (lane_at book j).held (lane_at book l).held book.blocks k (λ t on. owned.apart l j t ne on) (seen_ours layout base book owned l k (ap is_there has))))

  pub given_blocks_are_hidden : laws.GivenBlocksAreHidden deeds
  given_blocks_are_hidden layout base book owned l j k ne new among = not_some _ (λ there.
      never (is_ours (lane_at book j).held book.blocks k) (seen_ours layout base book owned j k there)
      (ours_apart (lane_at book j).held (lane_at book l).held book.blocks k (λ t on. owned.apart l j t ne on)
      (each_among (λ (b : ℕ). is_ours (lane_at book l).held book.blocks b ≡ true) (lane_at book l).gives.items k ((owned.lanes l).open_is new).gives_are among)))

  pub taken_blocks_are_seen : laws.TakenBlocksAreSeen deeds
  taken_blocks_are_seen layout base book owned l k new calm inside taken kept =
      let lt = subst (λ (n : ℕ). k < n) (sym owned.place.blocks) inside in
      let own = taken_own deeds (lane_at book l).held base.heap (begun_heap base book.history.items (lane_at book l)).at book.blocks (lane_at book l).writes.items k ((owned.lanes l).open_is new).writes_are taken in
      holds_block deeds layout base book owned l k ∙ (λ i. is_less k base.heap.blocks lt i && (seen deeds layout base book owned l calm k lt ∙
      ap (λ (t : Bool). names_in (lane_at book l).held (if t then 0 else owner_in book.blocks k)) (among_any (lane_at book l).gives.items k ∙ kept) ∙ own.0) i)
