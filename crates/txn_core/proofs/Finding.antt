-- What a read of a lane's own word finds.
use Rattle.std.proofs.Common.{◌≡◌, ◌≢◌, inl, inr, ℕ, ◌+◌, ◌-◌, ◌*◌, ◌/◌, ◌%◌, ◌<◌, ◌≤◌, ◌==◌, ◌&&◌, nat_lt, not, if◌then◌else◌, Bool, true, false, List, [], ◌∷◌, length, map, take, refl, sym, ap, ◌∙◌, subst, arith}
use Rattle.std.proofs.lemmas.Bool.Decides.{eqb_tells, nat_tests}
use Rattle.std.proofs.lemmas.List.{take-map}
use Rattle.persist_model.specs.Region.{Words, Region, newest}
use Rattle.persist_model.specs.Progress.{latest}
use Rattle.persist_model.specs.Records.{IsAmong, HasNo}
use Rattle.persist_model.specs.Standing.{IsToDelete}
use Rattle.persist_model.specs.Shape.{heap, words_of_shape}
use Rattle.lane_traits.specs.declared.draft.WordWrite.{WordWrite}
use Rattle.lane_traits.specs.Draft.{after_writes}
use Rattle.lane_traits.specs.Device.{Counts}
use Rattle.region_layout.specs.declared.layout.Layout.{Layout}
use Rattle.region_layout.specs.Layout.{layout_shape}
use Rattle.lane_types.specs.declared.face.Entry.{Entry}
use Rattle.lane_types.specs.Deeds.{Deeds}
use Rattle.lane_types.specs.Faces.{Base}
use Rattle.lane_types.specs.Heaps.{is_data, block_of, with_writes}
use Rattle.lane_types.specs.Histories.{after_entries, fold}
use Rattle.lane_book.specs.declared.book.Book.{Book}
use Rattle.lane_book.specs.FacesOf.{lane_at}
use Rattle.lane_book.specs.Refusals.{is_mine, block_in}
use Rattle.lawful_book.specs.OwnedBooks.{is_own_word}
use Rattle.lawful_book.specs.Laws.{words_now}
use Rattle.log_keeper.specs.declared.keeper.LogKeeper.{LogKeeper}
use Rattle.log_keeper.specs.Ledger.{newest_log}
use Rattle.history_laws.specs.Histories as plain
use Rattle.txn_laws.specs.Owners.{IsMine}
use Rattle.txn_laws.specs.Txns.{Gift, Txn, txn_at, written}
use Rattle.txn_laws.proofs.Beginning.{found_here}
use Rattle.txn_laws.proofs.Reading.{own_reads}
use Rattle.txn_laws.proofs.Records.{bars_own}
use Rattle.txn_state.specs.Ties.{plain_write, plain_entry, is_lanes, IsLaneOf, under_of}
use Rattle.txn_state.specs.States.{IsStateOf}
use Rattle.txn_state.specs.Seen.{noticed}
use Rattle.txn_state.proofs.Given.{own_word}
use Rattle.txn_core.specs.States.{IsWorld, start_of}

-- ---- the history, plain

same_test : (m n : ℕ) → (m == n) ≡ (n == m)
same_test m n = elim (eqb_tells m n) [
  | inl k ↦ (let e = k.1 in k.0 ∙ sym (on n m (sym e)))
  | inr k ↦ k.0 ∙ sym (off n m (λ e. k.1 (sym e)))
]
  where
    on : (a b : ℕ) → a ≡ b → (a == b) ≡ true
    on a b e = elim (eqb_tells a b) [ inl k ↦ k.0 | inr k ↦ absurd (k.1 e) ]

    off : (a b : ℕ) → a ≢ b → (a == b) ≡ false
    off a b ne = elim (eqb_tells a b) [ inl k ↦ absurd (ne k.1) | inr k ↦ k.0 ]

latest_is : (writes : List WordWrite) (u : Words) (a v : ℕ) → v ≡ u a → latest (map plain_write writes) a v ≡ after_writes writes u a
latest_is [] u a v is = is
latest_is (w ∷ writes) u a v is = latest_is writes _ a _ (λ i. if same_test w.address a i then w.value else is i)

fold_is : {E : Type 0} (entries : List (Entry E)) (u : Words) (a v : ℕ) → v ≡ u a → plain.value_behind (map plain_entry entries) a v ≡ after_entries entries u a
fold_is [] u a v is = is
fold_is (e ∷ entries) u a v is = fold_is entries (after_writes e.writes u) a _ (latest_is e.writes u a v is)

-- ---- the word

both : (b c : Bool) → (b && c) ≡ true → (b ≡ true) × (c ≡ true)
both true c on = (refl, on)
both false c on = cc

above_of : (m n : ℕ) → not (nat_lt m n) ≡ true → n ≤ m
above_of m n on = grind (arith, nat_tests, on)

below_of : (m n : ℕ) → nat_lt m n ≡ true → m < n
below_of m n on = grind (arith, nat_tests, on)

is_below : (m n : ℕ) → m < n → nat_lt m n ≡ true
is_below m n lt = grind (arith, nat_tests, lt)

isn't_below : (m n : ℕ) → n ≤ m → nat_lt m n ≡ false
isn't_below m n le = grind (arith, nat_tests, le)

-- in a block that is one of so many
inside_blocks : (a start blocks : ℕ) → start ≤ a → (a - start) / 16 < blocks → a < start + 16 * blocks
inside_blocks a start blocks le lt = omega (arith, le, lt)

none_among : (gifts : List Gift) (g : Gift) → length gifts ≡ 0 → IsAmong gifts g → ⊥
none_among [] g none m = absurd m
none_among (x ∷ gifts) g none m = absurd (omega (arith, none))

module _ {E : Type 0} (deeds : Deeds E) (layout : Layout) (base : Base) (book : Book E) (keeper : LogKeeper) (region : Region) (spare : ℕ) (counts : Counts) (l a : ℕ)
    (lt : l < length book.lanes.items)
    (place : is_own_word base.heap book.blocks (lane_at book l) a ≡ true) (world : IsWorld deeds layout base book keeper region spare counts.events) where
  abbrev pub state : IsStateOf layout (start_of layout base) book keeper region spare counts.events
  state = world.state

  abbrev pub x : Txn
  x = txn_at state.w.lanes l

  pub data_word : is_data base.heap a ≡ true
  data_word = (both (is_data base.heap a) _ place).0

  owned : is_mine book.blocks (lane_at book l) (block_of base.heap a) ≡ true
  owned = (both (nat_lt (block_of base.heap a) base.heap.blocks) _ (both (is_data base.heap a) _ place).1).1

  in_blocks : nat_lt (block_of base.heap a) base.heap.blocks ≡ true
  in_blocks = (both (nat_lt (block_of base.heap a) base.heap.blocks) _ (both (not (nat_lt a base.heap.start)) _ data_word).1).0

  above : heap (layout_shape layout) ≤ a
  above = let le = above_of a base.heap.start (both (not (nat_lt a base.heap.start)) _ data_word).0 in let e = world.lawful.owned.place.start in omega (arith, le, e)

  block_is : block_of base.heap a ≡ block_in layout a
  block_is = ap (λ n. (a - n) / 16) world.lawful.owned.place.start

  block_lt : block_in layout a < layout.blocks
  block_lt = let lt = below_of (block_of base.heap a) base.heap.blocks in_blocks in let e = block_is in let f = world.lawful.owned.place.blocks in omega (arith, lt, e, f)

  pub below : a < heap (layout_shape layout) + 16 * layout.blocks
  below = inside_blocks a (heap (layout_shape layout)) layout.blocks above block_lt

  mine : is_mine book.blocks (lane_at book l) (block_in layout a) ≡ true
  mine = ap (is_mine book.blocks (lane_at book l)) (sym block_is) ∙ owned

  is_lanes_word : is_lanes layout book.blocks (lane_at book l) a ≡ true
  is_lanes_word = λ i. not (isn't_below a (heap (layout_shape layout)) above i) && (is_below a (heap (layout_shape layout) + 16 * layout.blocks) below i && mine i)

  inside : l < length state.w.lanes
  inside = subst (λ n. l < n) (sym state.tied.lanes) lt

  pub own : IsLaneOf layout book.blocks state.s.log (newest_log state.w.keeping.ledger) (under_of (layout_shape layout) state.w l) (l % layout.partitions) (lane_at book l) x
  own = state.tied.each l inside

  start_is : start_of layout base a ≡ base.heap.at a
  start_is = ap (λ b. if b then 0 else (if nat_lt a (words_of_shape (layout_shape layout)) then base.heap.at a else 0)) (isn't_below a (heap (layout_shape layout)) above) ∙
      ap (λ b. if b then base.heap.at a else 0) (is_below a (words_of_shape (layout_shape layout)) below)

  is_mine_here : IsMine x a
  is_mine_here = own_word layout book.blocks (lane_at book l).held (lane_at book l).gives.items (lane_at book l).gates.items
      (noticed (layout_shape layout) (l % layout.partitions) (under_of (layout_shape layout) state.w l) x).gifts x.words a own.given is_lanes_word

  ungiven : length x.gifts ≡ 0
  ungiven = let told = own.counts in let none = ap (λ (gs : List ℕ). length gs) (world.lawful.no_gives l) in omega (arith, told, none)

  -- the history's value
  folded_is : plain.fold (start_of layout base) state.w.history a ≡ after_entries book.history.items base.heap.at a
  folded_is = ap (λ h. plain.value_behind h a (start_of layout base a)) state.tied.history ∙ fold_is book.history.items base.heap.at a (start_of layout base a) start_is

  -- what was written and stored, over the history
  written_is : x.over ≡ false → latest (written x) a (plain.fold (start_of layout base) state.w.history a) ≡
      after_writes (take (lane_at book l).stored (lane_at book l).writes.items) (after_entries book.history.items base.heap.at) a
  written_is runs =
      ap (λ b. latest (if b then [] else take x.stored x.writes) a (plain.fold (start_of layout base) state.w.history a)) runs ∙
      (λ i. latest (take (own.txn.stored i) (own.txn.writes i)) a (plain.fold (start_of layout base) state.w.history a)) ∙
      ap (λ ws. latest ws a (plain.fold (start_of layout base) state.w.history a)) (take-map plain_write (lane_at book l).stored (lane_at book l).writes.items) ∙
      latest_is (take (lane_at book l).stored (lane_at book l).writes.items) (after_entries book.history.items base.heap.at) a _ folded_is

  -- of a transaction that runs a read finds that,
  pub found_running : x.over ≡ false → (lane_at book l).entered ≡ false → newest (region.at a) ≡ words_now base book l a
  found_running runs unentered =
      own_reads (layout_shape layout) state.base state.s state.chains (start_of layout base) state.w region l a runs is_mine_here state.world ∙ written_is runs ∙
      sym (ap (λ (t : Bool). (if t then fold base.heap book.history.items else with_writes (take (lane_at book l).stored (lane_at book l).writes.items) (fold base.heap book.history.items)).at a)
      unentered)

  -- and of one whose end is fenced the history's value, since it has given no block
  not_deleted : HasNo (IsToDelete state.s.log a) state.s.log
  not_deleted r m d =
      let by = bars_own (layout_shape layout) state.s.log (plain.fold (start_of layout base) state.w.history) state.w.lanes state.world.owners state.world.transactions l a r is_mine_here m d.1
      (inr (d.0, d.2)) in
      let given = (state.world.transactions.each l).deletions a r m (d.0, d.1, by.0) in
      none_among x.gifts given.0 ungiven given.1

  found_over : x.over ≡ true → newest (region.at a) ≡ after_entries book.history.items base.heap.at a
  found_over over =
      (found_here (layout_shape layout) state.base state.s state.chains (start_of layout base) state.w region state.world).own l a is_mine_here not_deleted ∙
      ap (λ (b : Bool). latest (if b then [] else take x.stored x.writes) a (plain.fold (start_of layout base) state.w.history a)) over ∙ folded_is

  -- which is the lane's, once its entry has joined,
  pub found_joined : x.over ≡ true → (lane_at book l).entered ≡ true → newest (region.at a) ≡ words_now base book l a
  found_joined over entered = found_over over ∙
      sym (ap (λ (t : Bool). (if t then fold base.heap book.history.items else with_writes (take (lane_at book l).stored (lane_at book l).writes.items) (fold base.heap book.history.items)).at a)
      entered)

  -- or where none of its writes stands
  pub found_undone : x.over ≡ true → (lane_at book l).entered ≡ false → (lane_at book l).stored ≡ 0 → newest (region.at a) ≡ words_now base book l a
  found_undone over unentered none = found_over over ∙
      sym (ap (λ (n : ℕ). after_writes (take n (lane_at book l).writes.items) (after_entries book.history.items base.heap.at) a) none) ∙
      sym (ap (λ (t : Bool). (if t then fold base.heap book.history.items else with_writes (take (lane_at book l).stored (lane_at book l).writes.items) (fold base.heap book.history.items)).at a)
      unentered)
