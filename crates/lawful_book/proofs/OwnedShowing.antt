-- What a lane of a book with takes and gives holds.
use Rattle.std.proofs.Common.{◌≡◌, ◌==◌, ⊎_elim, ℕ, ◌+◌, ◌-◌, ◌*◌, ◌%◌, ◌<◌, Bool, true, false, not, ◌&&◌, ◌||◌, nat_lt, if◌then◌else◌, List, [], ◌∷◌, length, take, drop, map, refl, sym, ◌∙◌, ap, subst, arith, Option, Some, None}
use Rattle.std.specs.List.{list_any}
use Rattle.std.proofs.lemmas.Bool.{false_from_ne_true}
use Rattle.std.proofs.lemmas.Bool.Decides.{nat_tests, eqb_tells}
use Rattle.persist_model.specs.Region.{Words}
use Rattle.lane_traits.specs.Draft.{is_among, after_writes}
use Rattle.lane_traits.specs.declared.draft.WordWrite.{WordWrite}
use Rattle.lane_traits.proofs.Writes.{put_other, after_writes-last}
use Rattle.region_layout.specs.declared.layout.Layout.{Layout}
use Rattle.offset_alloc.specs.declared.Standing.{Standing}
use Rattle.lane_types.specs.Deeds.{Deeds}
use Rattle.lane_types.specs.Heaps.{Heap, has_bit, names_in, is_data, owners_after, block_address, block_of, with_writes}
use Rattle.lane_types.specs.Histories.{after_entries, fold}
use Rattle.lane_types.specs.Faces.{Base}
use Rattle.lane_types.specs.Asks.{is_there, has_word, has_all}
use Rattle.lane_types.specs.May.{AreData}
use Rattle.lane_book.specs.declared.lane.Lane.{Lane}
use Rattle.lane_book.specs.declared.lane.Doing.{Doing}
use Rattle.lane_book.specs.declared.book.Book.{Book}
use Rattle.lane_book.specs.FacesOf.{lane_at, begun_heap, words_of, standing_writes, standing_gives, waiting_writes, waiting_gives, front}
use Rattle.lane_book.specs.Entries.{disowned, writes_of_entry}
use Rattle.lane_book.specs.Refusals.{is_mine, ShowsBlocks}
use Rattle.lane_book.specs.Steps.{held_by, CanTake}
use Rattle.lane_book.specs.Books.{IsBook, IsAboutIt}
use Rattle.lane_book.proofs.Keeps.{front_whole}
use Rattle.lane_book.proofs.WordRows.{take_whole}
use Rattle.lane_book.proofs.Holdings.{is_true_left, is_true_right}
use Rattle.lawful_book.specs.LawfulBooks.{Each}
use Rattle.lawful_book.specs.Laws.{words_now}
use Rattle.lawful_book.specs.OwnedBooks.{owner_in, is_ours, is_own_word, moves_block, IsOwnedLane, IsOwnedBook}
use Rattle.lawful_book.specs.OwnedLaws as laws
use Rattle.lawful_book.proofs.WordsOf.{after_at}
use Rattle.lawful_book.proofs.Showing.{bit_below}
use Rattle.lawful_book.proofs.Valued.{by_block, small_rest, not_true}
use Rattle.lawful_book.proofs.OwnedHeaps.{never, by_bool, named_is, name_of, ours_apart, after_append}
use Rattle.lawful_book.proofs.OwnedWrites.{both_true, named_alike, others_stay, data_stays, after_taken}

-- ---- tests

there_if : (t : Bool) (v : ℕ) → is_there (if t then Some v else None) ≡ t
there_if true v = refl
there_if false v = refl

value_if : (t : Bool) (v : ℕ) → is_there (if t then Some v else None) ≡ true → (if t then Some v else None) ≡ Some v
value_if true v e = refl
value_if false v e = cc

none_if : (t : Bool) (v : ℕ) → t ≡ false → (if t then Some v else None) ≡ None
none_if true v e = cc
none_if false v e = refl

pub less_is : (n m : ℕ) → nat_lt n m ≡ true → n < m
less_is n m e = grind (arith, nat_tests)

pub is_less : (n m : ℕ) → n < m → nat_lt n m ≡ true
is_less n m lt = grind (arith, nat_tests)

-- a test behind another is the same where the first holds
behind_test : (s t u : Bool) → (s ≡ true → t ≡ u) → (s && t) ≡ (s && u)
behind_test true t u same = same refl
behind_test false t u same = refl

pub among_any : (gives : List ℕ) (k : ℕ) → list_any (λ given. k == given) gives ≡ is_among gives k
among_any [] k = refl
among_any (b ∷ gives) k = ap (λ (t : Bool). (k == b) || t) (among_any gives k)

pub not_given_owner : (set : ℕ) (t : Bool) (n : ℕ) → names_in set (if t then 0 else n) ≡ true → (t ≡ false) × (names_in set n ≡ true)
not_given_owner set true n e = cc
not_given_owner set false n e = (refl, e)

each_data : {E : Type 0} (h : Heap) (blocks : List Standing) (lane : Lane E) (writes : List WordWrite) → Each (λ (w : WordWrite). is_own_word h blocks lane w.address ≡ true) writes → AreData h writes
each_data h blocks lane [] each = tt
each_data h blocks lane (w ∷ writes) each = (is_true_left (is_data h w.address) _ each.0, each_data h blocks lane writes each.1)

-- the gives of the call in progress are a give's alone
none_waits : (d : Doing) → moves_block d ≡ false → waiting_gives d ≡ 0
none_waits Doing.Nothing off = refl
none_waits (Doing.Begin set) off = refl
none_waits (Doing.Read a) off = refl
none_waits (Doing.Write a v) off = refl
none_waits (Doing.Take s k) off = cc
none_waits (Doing.Give k) off = cc
none_waits Doing.Commit off = refl
none_waits Doing.Abort off = refl
none_waits Doing.Checkpoint off = refl
none_waits (Doing.Batch n) off = refl
none_waits Doing.Savepoint off = refl
none_waits (Doing.RollbackTo n) off = refl

module _ {E : Type 0} (deeds : Deeds E) (layout : Layout) (base : Base) (book : Book E) (owned : IsOwnedBook deeds layout base book) (l : ℕ) where
  abbrev lane : Lane E
  lane = lane_at book l

  abbrev h : Heap
  h = base.heap

  abbrev begun : Words
  begun = (begun_heap base book.history.items lane).at

  abbrev now : Words
  now = after_entries book.history.items base.heap.at

  was : IsOwnedLane deeds layout base book.blocks book.history.items book.next_transaction l lane
  was = owned.lanes l

  -- the owner of the block, as the lane's face has it
  abbrev pub owner_of : ℕ → ℕ
  owner_of k = owners_after (begun_heap base book.history.items lane) (standing_writes lane) (standing_gives lane) k

  -- ---- no take and no give is in progress

  pub standing_same : moves_block lane.doing ≡ false → (k : ℕ) → after_writes (standing_writes lane) begun (block_address h k) ≡ after_writes lane.writes.items begun (block_address h k)
  standing_same calm k = sym (after_taken h (length lane.writes.items - waiting_writes lane.doing) lane.writes.items begun k
      (each_data h book.blocks lane (drop (length lane.writes.items - waiting_writes lane.doing) lane.writes.items) (was.own_last calm)))

  pub gives_same : moves_block lane.doing ≡ false → standing_gives lane ≡ lane.gives.items
  gives_same calm = ap (λ (n : ℕ). front n lane.gives.items) (none_waits lane.doing calm) ∙ front_whole lane.gives.items

  pub owner_is : moves_block lane.doing ≡ false → (k : ℕ) → owner_of k ≡ (if is_among lane.gives.items k then 0 else after_writes lane.writes.items begun (block_address h k))
  owner_is calm k = λ i. if is_among (gives_same calm i) k then 0 else standing_same calm k i

  -- what is owned in the heap of the lane's writes and gives
  pub entry_owner : (k : ℕ) → is_among lane.gives.items k ≡ false → after_writes (writes_of_entry layout lane) begun (block_address h k) ≡ after_writes lane.writes.items begun (block_address h k)
  entry_owner k kept = ap (λ (u : Words). u (block_address h k)) (after_append lane.writes.items (map (disowned layout) lane.gives.items) begun) ∙
      others_stay layout h owned.place.start lane.gives.items (after_writes lane.writes.items begun) k kept

  small : (s : ℕ) → has_bit lane.held s ≡ true → s < base.structures
  small s on = bit_below lane.held base.structures s was.inside on

  -- where the entry has joined, a block of the lane's writes is one by its standing,
  joined_ours : lane.entered ≡ true → (k : ℕ) → k < h.blocks → is_among lane.gives.items k ≡ false → names_in lane.held (after_writes lane.writes.items begun (block_address h k)) ≡ true →
      is_ours lane.held book.blocks k ≡ true
  joined_ours on k inside kept named =
      let it = named_is lane.held (after_writes lane.writes.items begun (block_address h k)) named in
      let there = ((was.joined_is on).alike.inside.owned it.0 k it.2 inside).0 (entry_owner k kept ∙ it.1) in
      name_of lane.held (owner_in book.blocks k) it.0 (owned.told.owned k it.0 inside (small it.0 it.2) there) it.2

  -- and the other way round
  ours_joined : lane.entered ≡ true → (k : ℕ) → k < h.blocks → is_among lane.gives.items k ≡ false → is_ours lane.held book.blocks k ≡ true →
      names_in lane.held (after_writes lane.writes.items begun (block_address h k)) ≡ true
  ours_joined on k inside kept ours =
      let it = named_is lane.held (owner_in book.blocks k) ours in
      let there = ((was.joined_is on).alike.inside.owned it.0 k it.2 inside).1 ((was.joined_is on).shown k inside ours ∙ it.1) in
      name_of lane.held _ it.0 (sym (entry_owner k kept) ∙ there) it.2

  named_same : (k : ℕ) → k < h.blocks → is_among lane.gives.items k ≡ false → names_in lane.held (after_writes lane.writes.items begun (block_address h k)) ≡ is_ours lane.held book.blocks k
  named_same k inside kept = by_bool _ lane.entered
      (λ on. by_bool _ (is_ours lane.held book.blocks k) (λ ours. ours_joined on k inside kept ours ∙ sym ours)
      (λ off. false_from_ne_true _ (λ named. never (is_ours lane.held book.blocks k) (joined_ours on k inside kept named) off) ∙ sym off))
      (λ new. named_alike base.structures lane.held layout h book.blocks begun now lane.writes.items lane.gives.items owned.place.start was.inside owned.told (was.open_is new) k inside)

  pub seen : moves_block lane.doing ≡ false → (k : ℕ) → k < h.blocks → names_in lane.held (owner_of k) ≡ is_mine book.blocks lane k
  seen calm k inside = ap (names_in lane.held) (owner_is calm k) ∙ by_bool _ (is_among lane.gives.items k)
      (λ among. ap (λ (t : Bool). names_in lane.held (if t then 0 else after_writes lane.writes.items begun (block_address h k))) among ∙
      sym (ap (λ (t : Bool). names_in lane.held (if t then 0 else owner_in book.blocks k)) (among_any lane.gives.items k ∙ among)))
      (λ kept. ap (λ (t : Bool). names_in lane.held (if t then 0 else after_writes lane.writes.items begun (block_address h k))) kept ∙ named_same k inside kept ∙
      sym (ap (λ (t : Bool). names_in lane.held (if t then 0 else owner_in book.blocks k)) (among_any lane.gives.items k ∙ kept)))

  pub holds_own : moves_block lane.doing ≡ false → (a : ℕ) → has_word (words_of (begun_heap base book.history.items lane) lane) a ≡ is_own_word h book.blocks lane a
  holds_own calm a = there_if _ _ ∙ ap (λ (t : Bool). is_data h a && t)
      (behind_test (nat_lt (block_of h a) h.blocks) _ _ (λ lt. seen calm (block_of h a) (less_is (block_of h a) h.blocks lt)))

  pub holds_own_all : moves_block lane.doing ≡ false → (writes : List WordWrite) → Each (λ (w : WordWrite). is_own_word h book.blocks lane w.address ≡ true) writes →
      has_all (words_of (begun_heap base book.history.items lane) lane) writes ≡ true
  holds_own_all calm [] each = refl
  holds_own_all calm (w ∷ writes) each = both_true _ _ (holds_own calm w.address ∙ each.0) (holds_own_all calm writes each.1)

  pub own_all : moves_block lane.doing ≡ false → (writes : List WordWrite) → has_all (words_of (begun_heap base book.history.items lane) lane) writes ≡ true →
      Each (λ (w : WordWrite). is_own_word h book.blocks lane w.address ≡ true) writes
  own_all calm [] has = tt
  own_all calm (w ∷ writes) has = (sym (holds_own calm w.address) ∙ is_true_left _ _ has, own_all calm writes (is_true_right (has_word (words_of (begun_heap base book.history.items lane) lane) w.address) _ has))

  pub holds_block : (k : ℕ) → is_there ((words_of (begun_heap base book.history.items lane) lane).owner k) ≡ (nat_lt k h.blocks && names_in lane.held (owner_of k))
  holds_block k = there_if _ _

  pub shows_blocks : moves_block lane.doing ≡ false → ShowsBlocks layout book l base
  shows_blocks calm = record {
    start = owned.place.start;
    blocks = owned.place.blocks;
    mine = λ k inside. let lt = subst (λ (n : ℕ). k < n) (sym owned.place.blocks) inside in
        sym (holds_block k ∙ ap (λ (t : Bool). t && names_in lane.held (owner_of k)) (is_less k h.blocks lt) ∙ seen calm k lt);
  }

  -- ---- whatever the call

  calm_commit : lane.doing ≡ Doing.Commit → moves_block lane.doing ≡ false
  calm_commit is = ap moves_block is

  -- of a block that the lane holds by its face it is the structure by its standing
  pub block_ours : (k : ℕ) → k < h.blocks → names_in lane.held (owner_of k) ≡ true → is_ours lane.held book.blocks k ≡ true
  block_ours k inside named = by_bool _ (moves_block lane.doing) (λ moves. by_call lane.doing refl moves)
      (λ calm. let mine = not_given_owner lane.held (is_among lane.gives.items k) (after_writes lane.writes.items begun (block_address h k)) (ap (names_in lane.held) (sym (owner_is calm k)) ∙ named) in
      sym (named_same k inside mine.0) ∙ mine.1)
    where
      not_entered : (d : Doing) → lane.doing ≡ d → (d ≡ Doing.Commit → ⊥) → lane.entered ≡ false
      not_entered d is other = false_from_ne_true lane.entered (λ on. other (sym is ∙ was.entering on))

      open_named : lane.entered ≡ false → names_in lane.held (after_writes lane.writes.items begun (block_address h k)) ≡ true → is_ours lane.held book.blocks k ≡ true
      open_named new on = sym (named_alike base.structures lane.held layout h book.blocks begun now lane.writes.items lane.gives.items owned.place.start was.inside owned.told (was.open_is new) k inside) ∙ on

      by_call : (d : Doing) → lane.doing ≡ d → moves_block lane.doing ≡ true → is_ours lane.held book.blocks k ≡ true
      by_call (Doing.Take s j) is moves =
          let taking = was.own_take s j is in
          let mine = (not_given_owner lane.held (is_among (standing_gives lane) k) (after_writes (standing_writes lane) begun (block_address h k)) named).1 in
          let front_is : standing_writes lane ≡ front 1 lane.writes.items = ap (λ (d : Doing). front (waiting_writes d) lane.writes.items) is in
          let first = ap (λ (ws : List WordWrite). names_in lane.held (after_writes ws begun (block_address h k))) (sym front_is) ∙ mine in
          ⊎_elim (λ same. absurd (never _ (subst (λ (n : ℕ). names_in lane.held (after_writes (front 1 lane.writes.items) begun (block_address h n)) ≡ true) same.1 first) taking.new))
          (λ ne. open_named (not_entered (Doing.Take s j) is (λ e. cc))
          (ap (λ (ws : List WordWrite). names_in lane.held (after_writes ws begun (block_address h k))) taking.last ∙
          ap (λ (u : Words). names_in lane.held (u (block_address h k))) (after_writes-last (front 1 lane.writes.items) (record { address = block_address h j; value = s + 1 }) begun) ∙
          ap (names_in lane.held) (put_other (block_address h j) (s + 1) (block_address h k) (after_writes (front 1 lane.writes.items) begun) (λ e. ne.1 (number h.start k j e))) ∙ first)) (eqb_tells k j)
        where
          number : (s n m : ℕ) → s + 16 * n ≡ s + 16 * m → n ≡ m
          number s n m e = omega (arith, e)
      by_call (Doing.Give j) is moves =
          let mine = (not_given_owner lane.held (is_among (standing_gives lane) k) (after_writes (standing_writes lane) begun (block_address h k)) named).1 in
          let front_is : standing_writes lane ≡ lane.writes.items = ap (λ (d : Doing). front (waiting_writes d) lane.writes.items) is ∙ front_whole lane.writes.items in
          open_named (not_entered (Doing.Give j) is (λ e. cc)) (ap (λ (ws : List WordWrite). names_in lane.held (after_writes ws begun (block_address h k))) (sym front_is) ∙ mine)
      by_call Doing.Nothing is moves = absurd (never _ moves (ap moves_block is))
      by_call (Doing.Begin set) is moves = absurd (never _ moves (ap moves_block is))
      by_call (Doing.Read a) is moves = absurd (never _ moves (ap moves_block is))
      by_call (Doing.Write a v) is moves = absurd (never _ moves (ap moves_block is))
      by_call Doing.Commit is moves = absurd (never _ moves (ap moves_block is))
      by_call Doing.Abort is moves = absurd (never _ moves (ap moves_block is))
      by_call Doing.Checkpoint is moves = absurd (never _ moves (ap moves_block is))
      by_call (Doing.Batch n) is moves = absurd (never _ moves (ap moves_block is))
      by_call Doing.Savepoint is moves = absurd (never _ moves (ap moves_block is))
      by_call (Doing.RollbackTo n) is moves = absurd (never _ moves (ap moves_block is))

  -- a word that is held is a data word of such a block
  pub held_place : (a : ℕ) → has_word (held_by base book l) a ≡ true → (is_data h a ≡ true) × (block_of h a < h.blocks) × (names_in lane.held (owner_of (block_of h a)) ≡ true)
  held_place a has =
      let on = sym (there_if _ _) ∙ has in
      let rest = is_true_right (is_data h a) _ on in
      (is_true_left (is_data h a) _ on, less_is (block_of h a) h.blocks (is_true_left (nat_lt (block_of h a) h.blocks) _ rest), is_true_right (nat_lt (block_of h a) h.blocks) _ rest)

  pub held_ours : (a : ℕ) → has_word (held_by base book l) a ≡ true → is_ours lane.held book.blocks (block_of h a) ≡ true
  held_ours a has = let it = held_place a has in block_ours (block_of h a) it.1 it.2

  -- ---- values

  running_value : (a : ℕ) → lane.entered ≡ false → is_ours lane.held book.blocks (block_of h a) ≡ true →
      after_writes (take lane.stored lane.writes.items) begun a ≡ words_now base book l a
  running_value a new ours =
      after_at (take lane.stored lane.writes.items) begun now a ((was.open_is new).same a ours) ∙
      sym (ap (λ (t : Bool). (if t then fold base.heap book.history.items else with_writes (take lane.stored lane.writes.items) (fold base.heap book.history.items)).at a) new)

  joined_value : (a : ℕ) → lane.entered ≡ true → lane.stored ≡ length lane.writes.items → is_data h a ≡ true → block_of h a < h.blocks → names_in lane.held (owner_of (block_of h a)) ≡ true →
      after_writes (take lane.stored lane.writes.items) begun a ≡ words_now base book l a
  joined_value a on stored at_data inside named =
      let calm = calm_commit (was.entering on) in
      let k = block_of h a in
      let mine = not_given_owner lane.held (is_among lane.gives.items k) (after_writes lane.writes.items begun (block_address h k)) (ap (names_in lane.held) (sym (owner_is calm k)) ∙ named) in
      let it = named_is lane.held (after_writes lane.writes.items begun (block_address h k)) mine.1 in
      let place = by_block h.start a (not_true (nat_lt a h.start) (is_true_left (not (nat_lt a h.start)) _ at_data)) in
      ap (λ (ws : List WordWrite). after_writes ws begun a) (take_whole lane.stored lane.writes.items (omega (arith, stored))) ∙
      sym (ap (λ (u : Words). u a) (after_append lane.writes.items (map (disowned layout) lane.gives.items) begun) ∙
      data_stays layout h owned.place.start lane.gives.items (after_writes lane.writes.items begun) a at_data) ∙
      ap (after_writes (writes_of_entry layout lane) begun) place ∙
      (was.joined_is on).alike.inside.words it.0 k ((a - h.start) % 16) it.2 inside (small_rest (a - h.start)) (entry_owner k mine.0 ∙ it.1) ∙
      ap now (sym place) ∙
      sym (ap (λ (t : Bool). (if t then fold base.heap book.history.items else with_writes (take lane.stored lane.writes.items) (fold base.heap book.history.items)).at a) on)

  pub value_held : IsBook book → (a : ℕ) → has_word (held_by base book l) a ≡ true → (held_by base book l).word a ≡ Some (words_now base book l a)
  value_held whole a has = value_if _ (after_writes (take lane.stored lane.writes.items) begun a) has ∙ ap (λ (v : ℕ). Some v)
      (let it = held_place a has in by_bool _ lane.entered
      (λ on. joined_value a on (subst (IsAboutIt lane) (was.entering on) (whole l).about) it.0 it.1 it.2)
      (λ new. running_value a new (held_ours a has)))

  -- ---- a take in progress

  pub can_take : (s k : ℕ) → lane.doing ≡ Doing.Take s k → CanTake book l s k (block_address h k) base
  can_take s k is =
      let taking = was.own_take s k is in
      let gives_are : standing_gives lane ≡ lane.gives.items = ap (λ (d : Doing). front (waiting_gives d) lane.gives.items) is ∙ front_whole lane.gives.items in
      let front_is : standing_writes lane ≡ front 1 lane.writes.items = ap (λ (d : Doing). front (waiting_writes d) lane.writes.items) is in
      record {
        address = refl;
        inside = taking.inside;
        held = taking.held;
        new = none_if _ _ (ap (λ (t : Bool). nat_lt k h.blocks && t) (ap (λ (t : Bool). names_in lane.held (if t then 0 else after_writes (standing_writes lane) begun (block_address h k))) (ap (λ (gs : List ℕ). is_among gs k) gives_are ∙ taking.not_given) ∙
            ap (λ (ws : List WordWrite). names_in lane.held (after_writes ws begun (block_address h k))) front_is ∙ taking.new) ∙ off_and (nat_lt k h.blocks));
        not_given = ap (λ (gs : List ℕ). is_among gs k) gives_are ∙ taking.not_given;
      }
    where
      off_and : (t : Bool) → (t && false) ≡ false
      off_and true = refl
      off_and false = refl

-- no two lanes hold a word
pub apart_words : {E : Type 0} (deeds : Deeds E) → laws.WordsAreApart deeds
apart_words deeds layout base book owned l k a v ne has = none_there _
    (false_from_ne_true (has_word (held_by base book k) a) (λ theirs. never (is_ours (lane_at book k).held book.blocks (block_of base.heap a))
    (held_ours deeds layout base book owned k a theirs)
    (ours_apart (lane_at book k).held (lane_at book l).held book.blocks (block_of base.heap a) (λ s on. owned.apart l k s ne on) (held_ours deeds layout base book owned l a (ap is_there has)))))
  where
    none_there : (o : Option ℕ) → is_there o ≡ false → o ≡ None
    none_there None e = refl
    none_there (Some x) e = cc
