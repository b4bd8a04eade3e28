-- A lane of a book with takes and gives whose call is asked.
use Rattle.std.proofs.Common.{◌≡◌, ◌≢◌, ◌==◌, ⊎_elim, ℕ, zero, suc, ◌+◌, ◌-◌, ◌*◌, ◌%◌, ◌<◌, Bool, true, false, ◌&&◌, nat_lt, if◌then◌else◌, List, [], ◌∷◌, ◌++◌, length, take, drop, slice_get, slice_set, map, refl, sym, ◌∙◌, ap, subst, arith, Option, Some, None}
use Rattle.std.proofs.Math.ListN.{length-append}
use Rattle.std.proofs.lemmas.Bool.{false_from_ne_true}
use Rattle.std.proofs.lemmas.Bool.Decides.{eqb_tells}
use Rattle.persist_model.specs.Region.{Words}
use Rattle.lane_traits.specs.Draft.{is_among, after_writes}
use Rattle.lane_traits.specs.declared.draft.WordWrite.{WordWrite}
use Rattle.lane_traits.proofs.Writes.{put_same, put_other, after_writes-last}
use Rattle.region_layout.specs.declared.layout.Layout.{Layout}
use Rattle.offset_alloc.specs.declared.Standing.{Standing}
use Rattle.offset_alloc.specs.declared.Standing.TheVariants.{Free, Owned}
use Rattle.lane_types.specs.declared.call.Call.{Call}
use Rattle.lane_types.specs.declared.call.Phase.{Phase}
use Rattle.lane_types.specs.declared.face.Entry.{Entry}
use Rattle.lane_types.specs.Deeds.{Deeds}
use Rattle.lane_types.specs.Heaps.{Heap, Holding, AreAlike, has_bit, names_in, is_data, holding_of, heap_of_holding, owner_of_held, value_of_held, block_address, block_of, with_writes}
use Rattle.lane_types.specs.Histories.{after_entries}
use Rattle.lane_types.specs.Faces.{Base}
use Rattle.lane_types.specs.May.{MayCommit}
use Rattle.lane_book.specs.declared.lane.Lane.{Lane}
use Rattle.lane_book.specs.declared.lane.Doing.{Doing}
use Rattle.lane_book.specs.declared.book.Book.{Book}
use Rattle.lane_book.specs.Stocked.{with_items, no_stock}
use Rattle.lane_book.specs.FacesOf.{lane_at, faces_of, idle_lane, begun_heap, words_of, front, waiting_writes}
use Rattle.lane_book.specs.Entries.{AreBlocks, committing, entry_of, disowned, writes_of_entry}
use Rattle.lane_book.specs.Refusals.{owner_number}
use Rattle.lane_book.specs.Steps.{AsksFor}
use Rattle.lane_book.proofs.WordRows.{take_whole}
use Rattle.lane_book.proofs.Asking.{front_append}
use Rattle.lawful_book.specs.LawfulBooks.{MayTake, Each, is_inside}
use Rattle.lawful_book.specs.OwnedBooks.{owner_in, is_ours, is_own_word, AreTold, StandsFor, IsOwnWrite, AreOpen, moves_block, IsNext, IsTaking, IsOwnedLane, IsOwnedBook}
use Rattle.lawful_book.proofs.WordsOf.{heap_with}
use Rattle.lawful_book.proofs.Histories.{Depends, each_map}
use Rattle.lawful_book.proofs.HeldHeaps.{held_alike}
use Rattle.lawful_book.proofs.OwnedHeaps.{never, by_bool, named_is, name_of, after_append, owner_block}
use Rattle.lawful_book.proofs.OwnedWrites.{each_among, each_join, given_gone, data_stays, named_alike}
use Rattle.lawful_book.proofs.OwnedLanes.{core, not_entered, none_last}
use Rattle.lawful_book.proofs.OwnedShowing.{owner_of, owner_is, entry_owner}

-- ---- lists

pub each_front : {X : Type 0} (P : X → Type 0) (xs ys : List X) (n : ℕ) → n ≡ length ys → Each P ys → Each P (drop (length (xs ++ ys) - n) (xs ++ ys))
each_front P [] ys n is each = subst (λ (m : ℕ). Each P (drop m ys)) (none_more (length ys) n is) each
  where
    none_more : (k m : ℕ) → m ≡ k → 0 ≡ k - m
    none_more k m e = omega (arith, e)
each_front P (x ∷ xs) ys n is each = subst (λ (m : ℕ). Each P (drop m (x ∷ (xs ++ ys)))) (one_more (length (xs ++ ys)) (length xs) (length ys) n is (length-append xs ys)) (each_front P xs ys n is each)
  where
    one_more : (a b c m : ℕ) → m ≡ c → a ≡ b + c → suc (a - m) ≡ suc a - m
    one_more a b c m e f = omega (arith, e, f)

pub blocks_join : (layout : Layout) (gives : List ℕ) (k : ℕ) → AreBlocks layout gives → k < layout.blocks → AreBlocks layout (gives ++ k ∷ [])
blocks_join layout [] k are lt = (lt, tt)
blocks_join layout (b ∷ gives) k are lt = (are.0, blocks_join layout gives k are.1 lt)

pub set_same : {X : Type 0} (xs : List X) (k : ℕ) (x : X) → k < length xs → slice_get (slice_set xs k x) k ≡ Some x
set_same [] k x lt = absurd (omega (arith, lt))
set_same (y ∷ xs) zero x lt = refl
set_same (y ∷ xs) (suc k) x lt = set_same xs k x (omega (arith, lt))

pub set_other : {X : Type 0} (xs : List X) (k b : ℕ) (x : X) → b ≢ k → slice_get (slice_set xs k x) b ≡ slice_get xs b
set_other [] k b x ne = refl
set_other (y ∷ xs) zero zero x ne = absurd (ne refl)
set_other (y ∷ xs) zero (suc b) x ne = refl
set_other (y ∷ xs) (suc k) zero x ne = refl
set_other (y ∷ xs) (suc k) (suc b) x ne = set_other xs k b x (λ e. ne (ap suc e))

-- ---- the lane that asks

abbrev pub asking : {E : Type 0} → Doing → List WordWrite → List ℕ → Lane E → Lane E
asking doing writes gives lane = record lane { phase = Phase.Calling; doing = doing; writes = with_items writes lane.writes; gives = with_items gives lane.gives }

pub core_asks : {E : Type 0} (lane later : Lane E) (call : Call E) (doing : Doing) (writes : List WordWrite) (gives : List ℕ) (promised : ℕ) (all : List WordWrite) (given : List ℕ) →
    AsksFor lane call doing writes gives promised later → later.entry ≡ lane.entry → later.writes.items ≡ all → later.gives.items ≡ given → core later ≡ core (asking doing all given lane)
core_asks lane later call doing writes gives promised all given asks entry writes_are gives_are = λ i. record idle_lane {
  phase = (asks.is i).phase;
  held = (asks.is i).held;
  begun = (asks.is i).begun;
  commits = (asks.is i).commits;
  doing = (asks.is i).doing;
  transaction = (asks.is i).transaction;
  joined = (asks.is i).joined;
  writes = with_items (writes_are i) no_stock;
  gives = with_items (gives_are i) no_stock;
  entry = entry i;
  entered = (asks.is i).entered;
}

module _ {E : Type 0} (deeds : Deeds E) (layout : Layout) (base : Base) (blocks later : List Standing) (history : List (Entry E)) (next l : ℕ) (lane : Lane E)
    (was : IsOwnedLane deeds layout base blocks history next l lane) (nothing : lane.doing ≡ Doing.Nothing) where
  no_commit : lane.doing ≡ Doing.Commit → ⊥
  no_commit e = neither (sym nothing ∙ e)
    where
      neither : Doing.Nothing ≡ Doing.Commit → ⊥
      neither e = cc

  pub new_is : lane.entered ≡ false
  new_is = not_entered deeds layout base blocks history next l lane no_commit was

  pub asking_is : (doing : Doing) (writes : List WordWrite) (gives : List ℕ) →
      AreOpen lane.held base.heap (begun_heap base history lane).at (after_entries history base.heap.at) later writes gives → AreBlocks layout gives →
      ((a : ℕ) → doing ≡ Doing.Read a → is_own_word base.heap later (asking doing writes gives lane) a ≡ true) →
      ((a v : ℕ) → doing ≡ Doing.Write a v → is_own_word base.heap later (asking doing writes gives lane) a ≡ true) →
      (moves_block doing ≡ false → Each (λ (w : WordWrite). is_own_word base.heap later (asking doing writes gives lane) w.address ≡ true) (drop (length writes - waiting_writes doing) writes)) →
      ((s k : ℕ) → doing ≡ Doing.Take s k → IsTaking base.heap (begun_heap base history lane).at s k (asking doing writes gives lane)) →
      ((set : ℕ) → doing ≡ Doing.Begin set → MayTake base.structures lane.begun set) → (doing ≡ Doing.Commit → ⊥) → (is_inside Phase.Calling doing ≡ true → lane.phase ≡ Phase.In) →
      IsOwnedLane deeds layout base later history next l (asking doing writes gives lane)
  asking_is doing writes gives open_is gives_inside read write last takes set_is other inside = record {
    inside = was.inside;
    gives_inside = gives_inside;
    open_is = λ new. open_is;
    joined_is = λ on. absurd (never lane.entered on new_is);
    own_read = read;
    own_write = write;
    own_last = last;
    own_take = takes;
    own_set = set_is;
    begun = was.begun;
    counts = was.counts;
    running = λ on. was.running (ap (λ (p : Phase). is_inside p lane.doing) (inside on) ∙ inside_any lane.doing);
    entering = λ on. absurd (never lane.entered on new_is);
    before = was.before;
    has_entry = λ commit. absurd (other commit);
    has_joined = λ on. absurd (never lane.entered on new_is);
    coming = λ e has. absurd (no_commit (was.coming e has).call);
  }
    where
      inside_any : (d : Doing) → is_inside Phase.In d ≡ true
      inside_any d = refl

-- ---- a take

module _ {E : Type 0} (deeds : Deeds E) (layout : Layout) (base : Base) (book : Book E) (owned : IsOwnedBook deeds layout base book) (l s k : ℕ) (inside : k < length book.blocks)
    (free : slice_get book.blocks k ≡ Some Free) where
  abbrev old : Lane E
  old = lane_at book l

  abbrev begun : Words
  begun = (begun_heap base book.history.items old).at

  abbrev now : Words
  now = after_entries book.history.items base.heap.at

  abbrev pub taken_blocks : List Standing
  taken_blocks = slice_set book.blocks k (Owned s)

  abbrev pub owner_write : WordWrite
  owner_write = record { address = block_address base.heap k; value = s + 1 }

  pub in_heap : k < base.heap.blocks
  in_heap = let n = owned.place.blocks in let m = owned.many in omega (arith, inside, n, m)

  pub nobodys : now (block_address base.heap k) ≡ 0
  nobodys = owned.told.free k in_heap free

  no_owner : owner_in book.blocks k ≡ 0
  no_owner = ap owner_number free

  pub not_ours : (set : ℕ) → is_ours set book.blocks k ≡ false
  not_ours set = ap (names_in set) no_owner

  taken_owner : owner_in taken_blocks k ≡ s + 1
  taken_owner = ap owner_number (set_same book.blocks k (Owned s) inside)

  pub other_owner : (j : ℕ) → j ≢ k → owner_in taken_blocks j ≡ owner_in book.blocks j
  other_owner j ne = ap owner_number (set_other book.blocks k j (Owned s) ne)

  -- a block that some set has is another
  pub ours_other : (set j : ℕ) → is_ours set book.blocks j ≡ true → j ≢ k
  ours_other set j on same = never (is_ours set book.blocks j) on (ap (is_ours set book.blocks) same ∙ not_ours set)

  pub take_told : s < base.structures → AreTold base.structures base.heap now taken_blocks
  take_told small = record {
    named = λ j t owner. ⊎_elim (λ same. let t_is = next_same t s (sym owner ∙ ap (owner_in taken_blocks) same.1 ∙ taken_owner) in omega (arith, t_is, small))
        (λ ne. owned.told.named j t (sym (other_owner j ne.1) ∙ owner)) (eqb_tells j k);
    owned = λ j t lt less is. ⊎_elim (λ same. absurd (no_next t (sym nobodys ∙ ap (λ (n : ℕ). now (block_address base.heap n)) (sym same.1) ∙ is)))
        (λ ne. other_owner j ne.1 ∙ owned.told.owned j t lt less is) (eqb_tells j k);
    real = λ j t u lt owner is. ⊎_elim (λ same. absurd (no_next u (sym nobodys ∙ ap (λ (n : ℕ). now (block_address base.heap n)) (sym same.1) ∙ is)))
        (λ ne. owned.told.real j t u lt (sym (other_owner j ne.1) ∙ owner) is) (eqb_tells j k);
    free = λ j lt is. ⊎_elim (λ same. ap (λ (n : ℕ). now (block_address base.heap n)) same.1 ∙ nobodys)
        (λ ne. owned.told.free j lt (sym (set_other book.blocks k j (Owned s) ne.1) ∙ is)) (eqb_tells j k);
  }
    where
      next_same : (n m : ℕ) → n + 1 ≡ m + 1 → n ≡ m
      next_same n m e = omega (arith, e)

      no_next : (n : ℕ) → 0 ≡ n + 1 → ⊥
      no_next n e = omega (arith, e)

  pub take_stands : (set : ℕ) → has_bit set s ≡ false → StandsFor set book.blocks taken_blocks
  take_stands set off = record {
    kept = λ j on. other_owner j (ours_other set j on);
    none_new = λ j on. other_owner j (λ same. never (has_bit set s) (mine j same on) off);
  }
    where
      mine : (j : ℕ) → j ≡ k → is_ours set taken_blocks j ≡ true → has_bit set s ≡ true
      mine j same on = let it = named_is set (owner_in taken_blocks j) on in
          subst (λ (n : ℕ). has_bit set n ≡ true) (next_same it.0 s (sym it.1 ∙ ap (owner_in taken_blocks) same ∙ taken_owner)) it.2
        where
          next_same : (n m : ℕ) → n + 1 ≡ m + 1 → n ≡ m
          next_same n m e = omega (arith, e)

  module _ (held : has_bit old.held s ≡ true) (as_begun : (a : ℕ) → block_of base.heap a ≡ k → begun a ≡ now a)
      (are : AreOpen old.held base.heap begun now book.blocks old.writes.items old.gives.items) where
    stays_ours : (j : ℕ) → is_ours old.held book.blocks j ≡ true → is_ours old.held taken_blocks j ≡ true
    stays_ours j on = ap (names_in old.held) (other_owner j (ours_other old.held j on)) ∙ on

    was_ours : (j : ℕ) → j ≢ k → is_ours old.held taken_blocks j ≡ true → is_ours old.held book.blocks j ≡ true
    was_ours j ne on = sym (ap (names_in old.held) (other_owner j ne)) ∙ on

    now_ours : is_ours old.held taken_blocks k ≡ true
    now_ours = name_of old.held (owner_in taken_blocks k) s taken_owner held

    begun_nobodys : begun (block_address base.heap k) ≡ 0
    begun_nobodys = as_begun (block_address base.heap k) (owner_block base.heap k) ∙ nobodys

    write_kept : (w : WordWrite) → IsOwnWrite old.held base.heap begun book.blocks w → IsOwnWrite old.held base.heap begun taken_blocks w
    write_kept w (IsOwnWrite.of_data on ours) = IsOwnWrite.of_data on (stays_ours (block_of base.heap w.address) ours)
    write_kept w (IsOwnWrite.of_owner j place lt value ours new) = IsOwnWrite.of_owner j place lt (value ∙ sym (other_owner j (ours_other old.held j ours))) (stays_ours j ours) new

    number : (a n m : ℕ) → a + 16 * n ≡ a + 16 * m → n ≡ m
    number a n m e = omega (arith, e)

    pub take_open : AreOpen old.held base.heap begun now taken_blocks (old.writes.items ++ owner_write ∷ []) old.gives.items
    take_open = record {
      writes_are = each_join (IsOwnWrite old.held base.heap begun taken_blocks) old.writes.items (owner_write ∷ [])
          (each_map (IsOwnWrite old.held base.heap begun book.blocks) (IsOwnWrite old.held base.heap begun taken_blocks) old.writes.items write_kept are.writes_are)
          (IsOwnWrite.of_owner k refl in_heap (sym taken_owner) now_ours begun_nobodys, tt);
      gives_are = each_map (λ (j : ℕ). is_ours old.held book.blocks j ≡ true) (λ (j : ℕ). is_ours old.held taken_blocks j ≡ true) old.gives.items stays_ours are.gives_are;
      same = λ a on. ⊎_elim (λ same. as_begun a same.1) (λ ne. are.same a (was_ours (block_of base.heap a) ne.1 on)) (eqb_tells (block_of base.heap a) k);
      first = λ j lt named. let is = are.first j lt named in
          other_owner j (ours_other old.held j (ap (names_in old.held) is ∙ named)) ∙ is;
      shown = λ j lt on. ap (λ (u : Words). u (block_address base.heap j)) (after_writes-last old.writes.items owner_write begun) ∙ ⊎_elim
          (λ same. ap (λ (n : ℕ). (after_last_write) (block_address base.heap n)) same.1 ∙ put_same (block_address base.heap k) (s + 1) (after_writes old.writes.items begun) ∙
          sym taken_owner ∙ ap (owner_in taken_blocks) (sym same.1))
          (λ ne. put_other (block_address base.heap k) (s + 1) (block_address base.heap j) (after_writes old.writes.items begun) (λ e. ne.1 (number base.heap.start j k e)) ∙
          are.shown j lt (was_ours j ne.1 on) ∙ sym (other_owner j ne.1)) (eqb_tells j k);
    }
      where
        after_last_write : Words
        after_last_write = λ b. if b == block_address base.heap k then s + 1 else after_writes old.writes.items begun b

    pub take_taking : IsTaking base.heap begun s k (asking (Doing.Take s k) (old.writes.items ++ owner_write ∷ []) old.gives.items old)
    take_taking = record {
      inside = in_heap;
      held = held;
      new = ap (λ (ws : List WordWrite). names_in old.held (after_writes ws begun (block_address base.heap k))) front_is ∙
          named_alike base.structures old.held layout base.heap book.blocks begun now old.writes.items old.gives.items owned.place.start (owned.lanes l).inside owned.told are k in_heap ∙ not_ours old.held;
      not_given = false_from_ne_true (is_among old.gives.items k) (λ among.
          never (is_ours old.held book.blocks k) (each_among (λ (j : ℕ). is_ours old.held book.blocks j ≡ true) old.gives.items k are.gives_are among) (not_ours old.held));
      last = ap (λ (ws : List WordWrite). ws ++ owner_write ∷ []) (sym front_is);
    }
      where
        front_is : front 1 (old.writes.items ++ owner_write ∷ []) ≡ old.writes.items
        front_is = front_append 1 old.writes.items (owner_write ∷ []) refl

-- ---- a commit

module _ {E : Type 0} (deeds : Deeds E) (layout : Layout) (base : Base) (book : Book E) (owned : IsOwnedBook deeds layout base book) (l : ℕ)
    (nothing : (lane_at book l).doing ≡ Doing.Nothing) (stored : (lane_at book l).stored ≡ length (lane_at book l).writes.items) where
  abbrev lane : Lane E
  lane = lane_at book l

  abbrev h : Heap
  h = base.heap

  abbrev first : Words
  first = (begun_heap base book.history.items lane).at

  abbrev ends : Words
  ends = after_writes (writes_of_entry layout lane) first

  abbrev held : Holding
  held = words_of (begun_heap base book.history.items lane) lane

  calm : moves_block lane.doing ≡ false
  calm = ap moves_block nothing

  owner_same : (k : ℕ) → owner_of deeds layout base book owned l k ≡ ends (block_address h k)
  owner_same k = owner_is deeds layout base book owned l calm k ∙ by_bool _ (is_among lane.gives.items k)
      (λ among. ap (λ (t : Bool). if t then 0 else after_writes lane.writes.items first (block_address h k)) among ∙
      sym (ap (λ (u : Words). u (block_address h k)) (after_append lane.writes.items (map (disowned layout) lane.gives.items) first) ∙
      given_gone layout h owned.place.start lane.gives.items (after_writes lane.writes.items first) k among))
      (λ kept. ap (λ (t : Bool). if t then 0 else after_writes lane.writes.items first (block_address h k)) kept ∙ sym (entry_owner deeds layout base book owned l k kept))

  value_same : (a : ℕ) → is_data h a ≡ true → after_writes (take lane.stored lane.writes.items) first a ≡ ends a
  value_same a on =
      ap (λ (ws : List WordWrite). after_writes ws first a) (take_whole lane.stored lane.writes.items (omega (arith, stored))) ∙
      sym (ap (λ (u : Words). u a) (after_append lane.writes.items (map (disowned layout) lane.gives.items) first) ∙
      data_stays layout h owned.place.start lane.gives.items (after_writes lane.writes.items first) a on)

  owner_held : (k : ℕ) → held.owner k ≡ (holding_of lane.held (heap_with h ends)).owner k
  owner_held k = ap (λ (n : ℕ). if nat_lt k h.blocks && names_in lane.held n then Some (n - 1) else None) (owner_same k)

  word_if : (t own same : Bool) (v u : ℕ) → own ≡ same → (t ≡ true → v ≡ u) → (if t && own then Some v else None) ≡ (if t && same then Some u else None)
  word_if true own same v u e f = λ i. if e i then Some (f refl i) else None
  word_if false own same v u e f = refl

  word_held : (a : ℕ) → held.word a ≡ (holding_of lane.held (heap_with h ends)).word a
  word_held a = word_if (is_data h a) _ _ _ _ (ap (λ (n : ℕ). nat_lt (block_of h a) h.blocks && names_in lane.held n) (owner_same (block_of h a))) (value_same a)

  held_heap : heap_of_holding h held ≡ heap_of_holding h (holding_of lane.held (heap_with h ends))
  held_heap = λ i. record h { at = λ a. if ((a - h.start) % 16) == 0 then owner_of_held (owner_held (block_of h a) i) else value_of_held (word_held a i) }

  -- what the deed means it means on the heap at the begin
  pub meant : Depends deeds → (deed : E) → MayCommit deeds (faces_of base book l) deed → deeds.means deed (begun_heap base book.history.items lane) (with_writes (writes_of_entry layout lane) (begun_heap base book.history.items lane))
  meant depends deed may = depends deed
      (heap_of_holding h (holding_of lane.held (begun_heap base book.history.items lane))) (heap_of_holding h held)
      (begun_heap base book.history.items lane) (with_writes (writes_of_entry layout lane) (begun_heap base book.history.items lane))
      (subst (λ (n : ℕ). AreAlike n (heap_of_holding h (holding_of lane.held (heap_with h first))) (heap_with h first)) (sym may.names) (held_alike h lane.held first))
      (subst (λ (n : ℕ). AreAlike n (heap_of_holding h held) (heap_with h ends)) (sym may.names)
      (subst (λ (g : Heap). AreAlike lane.held g (heap_with h ends)) (sym held_heap) (held_alike h lane.held ends)))
      may.means

  some_is : (x y : Entry E) → Some x ≡ Some y → x ≡ y
  some_is x y e = ap or_else e
    where
      or_else : Option (Entry E) → Entry E
      or_else (Some z) = z
      or_else None = x

  pub committing_owned : Depends deeds → (deed : E) (writes : List WordWrite) → lane.phase ≡ Phase.In → MayCommit deeds (faces_of base book l) deed → writes ≡ writes_of_entry layout lane →
      IsOwnedLane deeds layout base book.blocks book.history.items book.next_transaction l (committing l deed writes lane)
  committing_owned depends deed writes phase may is = record {
    inside = was.inside;
    gives_inside = was.gives_inside;
    open_is = was.open_is;
    joined_is = was.joined_is;
    own_read = λ a doing. cc;
    own_write = λ a v doing. cc;
    own_last = λ words. none_last (λ (w : WordWrite). is_own_word base.heap book.blocks (committing l deed writes lane) w.address ≡ true) lane.writes.items;
    own_take = λ s k doing. absurd (commit_takes s k doing);
    own_set = λ set doing. absurd (commit_begins set doing);
    begun = was.begun;
    counts = was.counts;
    running = λ on. running;
    entering = λ on. refl;
    before = was.before;
    has_entry = λ commit fresh none. cc;
    has_joined = was.has_joined;
    coming = λ e has. subst (λ (x : Entry _). IsNext deeds layout base (begun_heap base book.history.items lane) l (committing l deed writes lane) x) (some_is (entry_of l deed writes lane) e has) record {
      some = running;
      new = new;
      call = refl;
      lane_is = refl;
      number = let less = was.counts.less running new in omega (arith, less);
      transaction = refl;
      writes = is;
      names = may.names;
      sorts = may.sorts;
      means = ∣ subst (λ (ws : List WordWrite). deeds.means deed (begun_heap base book.history.items lane) (with_writes ws (begun_heap base book.history.items lane))) (sym is) (meant depends deed may) ∣₁;
    };
  }
    where
      was : IsOwnedLane deeds layout base book.blocks book.history.items book.next_transaction l lane
      was = owned.lanes l

      commit_takes : (s k : ℕ) → Doing.Commit ≡ Doing.Take s k → ⊥
      commit_takes s k e = cc

      commit_begins : (set : ℕ) → Doing.Commit ≡ Doing.Begin set → ⊥
      commit_begins set e = cc

      nothing_commits : lane.doing ≡ Doing.Commit → ⊥
      nothing_commits commit = neither (sym nothing ∙ commit)
        where
          neither : Doing.Nothing ≡ Doing.Commit → ⊥
          neither e = cc

      new : lane.entered ≡ false
      new = not_entered deeds layout base book.blocks book.history.items book.next_transaction l lane nothing_commits was

      running : lane.transaction ≢ 0
      running = was.running (ap (λ (p : Phase). is_inside p lane.doing) phase)
