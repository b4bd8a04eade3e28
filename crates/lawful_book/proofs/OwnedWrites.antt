-- The writes and gives of a lane's transaction, and whose the blocks are behind them.
use Rattle.std.proofs.Common.{⊎_elim, ◌≡◌, ◌≢◌, ◌==◌, ℕ, zero, suc, ◌+◌, ◌*◌, ◌^◌, ◌<◌, Bool, true, false, ◌&&◌, ◌||◌, nat_lt, if◌then◌else◌, List, [], ◌∷◌, ◌++◌, map, take, drop, refl, sym, ◌∙◌, ap, subst, arith}
use Rattle.std.specs.List.{list_any}
use Rattle.std.proofs.lemmas.Bool.{false_from_ne_true}
use Rattle.std.proofs.lemmas.Bool.Decides.{eqb_tells, nat_tests}
use Rattle.persist_model.specs.Region.{Words}
use Rattle.persist_model.specs.Shape.{heap}
use Rattle.lane_traits.specs.Space.{put_word}
use Rattle.lane_traits.specs.Draft.{is_among, after_writes}
use Rattle.lane_traits.specs.declared.draft.WordWrite.{WordWrite}
use Rattle.lane_traits.proofs.Writes.{put_same}
use Rattle.region_layout.specs.declared.layout.Layout.{Layout}
use Rattle.region_layout.specs.Layout.{layout_shape}
use Rattle.offset_alloc.specs.declared.Standing.{Standing}
use Rattle.lane_types.specs.Heaps.{Heap, has_bit, names_in, is_data, block_address, block_of}
use Rattle.lane_types.specs.May.{AreData}
use Rattle.lane_book.specs.declared.lane.Lane.{Lane}
use Rattle.lane_book.specs.Entries.{disowned}
use Rattle.lane_book.proofs.Holdings.{owner_apart, is_true_left, is_true_right}
use Rattle.lawful_book.specs.LawfulBooks.{Each}
use Rattle.lawful_book.specs.OwnedBooks.{owner_in, is_ours, is_own_word, AreTold, StandsFor, IsOwnWrite, AreOpen, AreJoined}
use Rattle.lawful_book.proofs.WordsOf.{owners_kept, alike_then, after_at}
use Rattle.lawful_book.proofs.Histories.{each_map, each_take}
use Rattle.lawful_book.proofs.Showing.{bit_below}
use Rattle.lawful_book.proofs.OwnedHeaps.{never, by_bool, named_is, name_of, bit_of, ours_apart, IsOfSet, after_append, after_is, after_none, AreIn, after_other, owner_block, HaveOwners, AreFor, owner_stays, leaves_blocks}

pub both_true : (s t : Bool) → s ≡ true → t ≡ true → (s && t) ≡ true
both_true true t e f = f
both_true false t e f = e

pub each_join : {X : Type 0} (P : X → Type 0) (xs ys : List X) → Each P xs → Each P ys → Each P (xs ++ ys)
each_join P [] ys each more = more
each_join P (x ∷ xs) ys each more = (each.0, each_join P xs ys each.1 more)

-- of a number that is among them it holds too
pub each_among : (P : ℕ → Type 0) (gives : List ℕ) (k : ℕ) → Each P gives → is_among gives k ≡ true → P k
each_among P [] k each e = cc
each_among P (b ∷ gives) k each e = ⊎_elim (λ same. subst P (sym same.1) each.0) (λ ne. each_among P gives k each.1 (right _ (is_among gives k) ne.0 e)) (eqb_tells k b)
  where
    right : (s t : Bool) → s ≡ false → (s || t) ≡ true → t ≡ true
    right true t off e = cc
    right false t off e = e

pub each_mapped : {X Y : Type 0} (P : Y → Type 0) (f : X → Y) (xs : List X) → Each (λ x. P (f x)) xs → Each P (map f xs)
each_mapped P f [] each = tt
each_mapped P f (x ∷ xs) each = (each.0, each_mapped P f xs each.1)

-- ---- one write

pub write_ours : (set : ℕ) (h : Heap) (begun : Words) (blocks : List Standing) (w : WordWrite) → IsOwnWrite set h begun blocks w → is_ours set blocks (block_of h w.address) ≡ true
write_ours set h begun blocks w (IsOwnWrite.of_data on ours) = ours
write_ours set h begun blocks w (IsOwnWrite.of_owner k place inside value ours new) =
    ap (λ (a : ℕ). is_ours set blocks (block_of h a)) place ∙ ap (is_ours set blocks) (owner_block h k) ∙ ours

pub write_value : (set : ℕ) (h : Heap) (begun : Words) (blocks : List Standing) (w : WordWrite) → IsOwnWrite set h begun blocks w → (k : ℕ) → w.address ≡ block_address h k → IsOfSet set w.value
write_value set h begun blocks w (IsOwnWrite.of_data on ours) k at_k s is = absurd (owner_apart h k w.address on (sym at_k))
write_value set h begun blocks w (IsOwnWrite.of_owner j place inside value ours new) k at_k s is = bit_of set (owner_in blocks j) s (sym value ∙ is) ours

-- ---- the given blocks

module _ (layout : Layout) (h : Heap) (start : h.start ≡ heap (layout_shape layout)) where
  pub at_block : (k : ℕ) → (disowned layout k).address ≡ block_address h k
  at_block k = ap (λ (n : ℕ). n + 16 * k) (sym start)

  zeros : (a : ℕ) (gives : List ℕ) → Each (λ (w : WordWrite). w.address ≡ a → w.value ≡ 0) (map (disowned layout) gives)
  zeros a [] = tt
  zeros a (k ∷ gives) = (λ e. refl, zeros a gives)

  same_number : (k b : ℕ) → (k == b) ≡ true → k ≡ b
  same_number k b e = grind (arith, nat_tests)

  -- a given block has no owner,
  pub given_gone : (gives : List ℕ) (u : Words) (k : ℕ) → is_among gives k ≡ true → after_writes (map (disowned layout) gives) u (block_address h k) ≡ 0
  given_gone [] u k among = cc
  given_gone (b ∷ gives) u k among = by_bool _ (k == b)
      (λ same. after_is (λ (n : ℕ). n ≡ 0) (map (disowned layout) gives) (put_word (disowned layout b).address 0 u) (block_address h k)
      (subst (λ (a : ℕ). put_word (disowned layout b).address 0 u a ≡ 0) (at_block b ∙ ap (block_address h) (sym (same_number k b same))) (put_same (disowned layout b).address 0 u))
      (zeros (block_address h k) gives))
      (λ other. given_gone gives (put_word (disowned layout b).address 0 u) k (right (k == b) (is_among gives k) other among))
    where
      right : (s t : Bool) → s ≡ false → (s || t) ≡ true → t ≡ true
      right true t off e = cc
      right false t off e = e

  blocks_differ : (gives : List ℕ) (k : ℕ) → is_among gives k ≡ false → Each (λ (w : WordWrite). w.address ≢ block_address h k) (map (disowned layout) gives)
  blocks_differ [] k among = tt
  blocks_differ (b ∷ gives) k among =
      (λ e. never (k == b) (same_test k b (number h.start k b (sym e ∙ at_block b))) (first (k == b) (is_among gives k) among), blocks_differ gives k (second (k == b) (is_among gives k) among))
    where
      number : (s n m : ℕ) → s + 16 * n ≡ s + 16 * m → n ≡ m
      number s n m e = omega (arith, e)

      same_test : (n m : ℕ) → n ≡ m → (n == m) ≡ true
      same_test n m e = grind (arith, nat_tests)

      first : (s t : Bool) → (s || t) ≡ false → s ≡ false
      first true t e = e
      first false t e = refl

      second : (s t : Bool) → (s || t) ≡ false → t ≡ false
      second true t e = cc
      second false t e = e

  -- and every other word stays
  pub others_stay : (gives : List ℕ) (u : Words) (k : ℕ) → is_among gives k ≡ false → after_writes (map (disowned layout) gives) u (block_address h k) ≡ u (block_address h k)
  others_stay gives u k among = after_none (map (disowned layout) gives) u (block_address h k) (blocks_differ gives k among)

  pub data_stays : (gives : List ℕ) (u : Words) (a : ℕ) → is_data h a ≡ true → after_writes (map (disowned layout) gives) u a ≡ u a
  data_stays gives u a on = after_none (map (disowned layout) gives) u a (differ gives)
    where
      differ : (bs : List ℕ) → Each (λ (w : WordWrite). w.address ≢ a) (map (disowned layout) bs)
      differ [] = tt
      differ (b ∷ bs) = (λ e. owner_apart h b a on (sym (at_block b) ∙ e), differ bs)

-- ---- until the entry joins

module _ (structures set : ℕ) (layout : Layout) (h : Heap) (blocks : List Standing) (begun now : Words) (writes : List WordWrite) (gives : List ℕ) (start : h.start ≡ heap (layout_shape layout))
    (small : set < 2 ^ structures) (told : AreTold structures h now blocks) (are : AreOpen set h begun now blocks writes gives) where
  places_are : AreIn h (is_ours set blocks) (writes ++ map (disowned layout) gives)
  places_are = each_join (λ (w : WordWrite). is_ours set blocks (block_of h w.address) ≡ true) writes (map (disowned layout) gives)
      (each_map (IsOwnWrite set h begun blocks) (λ (w : WordWrite). is_ours set blocks (block_of h w.address) ≡ true) writes (write_ours set h begun blocks) are.writes_are)
      (each_mapped (λ (w : WordWrite). is_ours set blocks (block_of h w.address) ≡ true) (disowned layout) gives
      (each_map (λ (k : ℕ). is_ours set blocks k ≡ true) (λ (k : ℕ). is_ours set blocks (block_of h (disowned layout k).address) ≡ true) gives
      (λ k on. ap (λ (a : ℕ). is_ours set blocks (block_of h a)) (at_block layout h start k) ∙ ap (is_ours set blocks) (owner_block h k) ∙ on) are.gives_are))

  values_are : HaveOwners h set (writes ++ map (disowned layout) gives)
  values_are k = each_join (λ (w : WordWrite). w.address ≡ block_address h k → IsOfSet set w.value) writes (map (disowned layout) gives)
      (each_map (IsOwnWrite set h begun blocks) (λ (w : WordWrite). w.address ≡ block_address h k → IsOfSet set w.value) writes (λ w own. write_value set h begun blocks w own k) are.writes_are)
      (nothing gives)
    where
      none_is : (s : ℕ) → 0 ≡ s + 1 → has_bit set s ≡ true
      none_is s e = absurd (omega (arith, e))

      nothing : (bs : List ℕ) → Each (λ (w : WordWrite). w.address ≡ block_address h k → IsOfSet set w.value) (map (disowned layout) bs)
      nothing [] = tt
      nothing (b ∷ bs) = (λ e s is. none_is s is, nothing bs)

  -- the entry with them can be the next of the history
  pub open_for : AreFor set h blocks begun now (writes ++ map (disowned layout) gives)
  open_for = record {
    places = places_are;
    values = values_are;
    same = are.same;
    begun_others = λ k s inside off picked is. let named = name_of set (begun (block_address h k)) s is picked in
        never (is_ours set blocks k) (ap (names_in set) (are.first k inside named) ∙ named) off;
    now_others = λ k s inside off picked is.
        never (is_ours set blocks k) (name_of set (owner_in blocks k) s (told.owned k s inside (bit_below set structures s small picked) is) picked) off;
    now_ours = λ k inside on s is. let it = named_is set (owner_in blocks k) on in
        subst (λ (n : ℕ). has_bit set n ≡ true) (sym (told.real k it.0 s inside it.1 is)) it.2;
  }

  -- the set has by the owner words what it has by the blocks' standing
  pub named_alike : (k : ℕ) → k < h.blocks → names_in set (after_writes writes begun (block_address h k)) ≡ is_ours set blocks k
  named_alike k inside = by_bool _ (is_ours set blocks k)
      (λ on. ap (names_in set) (are.shown k inside on))
      (λ off. false_from_ne_true _ (λ named. let same = after_other h (is_ours set blocks) writes begun (block_address h k)
      (each_map (IsOwnWrite set h begun blocks) (λ (w : WordWrite). is_ours set blocks (block_of h w.address) ≡ true) writes (write_ours set h begun blocks) are.writes_are)
      (ap (is_ours set blocks) (owner_block h k) ∙ off) in
      let was = sym (ap (names_in set) same) ∙ named in
      never (is_ours set blocks k) (ap (names_in set) (are.first k inside was) ∙ was) off) ∙ sym off)

  -- a block that isn't given stands behind the entry as it did, a given one is nobody's
  pub owner_behind : (k : ℕ) → k < h.blocks → is_ours set blocks k ≡ true → is_among gives k ≡ false →
      after_writes (writes ++ map (disowned layout) gives) now (block_address h k) ≡ owner_in blocks k
  owner_behind k inside on kept =
      ap (λ (u : Words). u (block_address h k)) (after_append writes (map (disowned layout) gives) now) ∙ others_stay layout h start gives (after_writes writes now) k kept ∙
      sym (agree (block_address h k) (ap (is_ours set blocks) (owner_block h k) ∙ on)) ∙ are.shown k inside on
    where
      agree : (a : ℕ) → is_ours set blocks (block_of h a) ≡ true → after_writes writes begun a ≡ after_writes writes now a
      agree a ours = after_at writes begun now a (are.same a ours)

  pub given_behind : (k : ℕ) → is_among gives k ≡ true → after_writes (writes ++ map (disowned layout) gives) now (block_address h k) ≡ 0
  given_behind k among = ap (λ (u : Words). u (block_address h k)) (after_append writes (map (disowned layout) gives) now) ∙ given_gone layout h start gives (after_writes writes now) k among

-- ---- the blocks stand otherwise, but not the set's

module _ (set : ℕ) (blocks later : List Standing) (stands : StandsFor set blocks later) where
  pub stays_ours : (k : ℕ) → is_ours set blocks k ≡ true → is_ours set later k ≡ true
  stays_ours k on = ap (names_in set) (stands.kept k on) ∙ on

  pub was_ours : (k : ℕ) → is_ours set later k ≡ true → is_ours set blocks k ≡ true
  was_ours k on = sym (ap (names_in set) (stands.none_new k on)) ∙ on

  write_stays : (h : Heap) (begun : Words) (w : WordWrite) → IsOwnWrite set h begun blocks w → IsOwnWrite set h begun later w
  write_stays h begun w (IsOwnWrite.of_data on ours) = IsOwnWrite.of_data on (stays_ours (block_of h w.address) ours)
  write_stays h begun w (IsOwnWrite.of_owner k place inside value ours new) = IsOwnWrite.of_owner k place inside (value ∙ sym (stands.kept k ours)) (stays_ours k ours) new

  pub open_stands : (h : Heap) (begun now : Words) (writes : List WordWrite) (gives : List ℕ) → AreOpen set h begun now blocks writes gives → AreOpen set h begun now later writes gives
  open_stands h begun now writes gives are = record {
    writes_are = each_map (IsOwnWrite set h begun blocks) (IsOwnWrite set h begun later) writes (write_stays h begun) are.writes_are;
    gives_are = each_map (λ (k : ℕ). is_ours set blocks k ≡ true) (λ (k : ℕ). is_ours set later k ≡ true) gives stays_ours are.gives_are;
    same = λ a on. are.same a (was_ours (block_of h a) on);
    first = λ k inside named. let is = are.first k inside named in stands.kept k (ap (names_in set) is ∙ named) ∙ is;
    shown = λ k inside on. are.shown k inside (was_ours k on) ∙ sym (stands.none_new k on);
  }

  pub joined_stands : (h : Heap) (begun now : Words) (writes : List WordWrite) → AreJoined set h begun now blocks writes → AreJoined set h begun now later writes
  joined_stands h begun now writes are = record { alike = are.alike; shown = λ k inside on. are.shown k inside (was_ours k on) ∙ sym (stands.none_new k on) }

  mine_stays : (t : Bool) (k : ℕ) → names_in set (if t then 0 else owner_in blocks k) ≡ true → names_in set (if t then 0 else owner_in later k) ≡ true
  mine_stays true k e = e
  mine_stays false k e = stays_ours k e

  pub word_stands : {E : Type 0} (h : Heap) (lane : Lane E) (a : ℕ) → lane.held ≡ set → is_own_word h blocks lane a ≡ true → is_own_word h later lane a ≡ true
  word_stands h lane a held own =
      let at_data = is_true_left (is_data h a) _ own in let rest = is_true_right (is_data h a) _ own in
      let in_heap = is_true_left (nat_lt (block_of h a) h.blocks) _ rest in let mine = is_true_right (nat_lt (block_of h a) h.blocks) _ rest in
      both_true (is_data h a) _ at_data (both_true (nat_lt (block_of h a) h.blocks) _ in_heap
      (ap (λ (n : ℕ). names_in n (if list_any (λ given. block_of h a == given) lane.gives.items then 0 else owner_in later (block_of h a))) held ∙
      mine_stays (list_any (λ given. block_of h a == given) lane.gives.items) (block_of h a)
      (ap (λ (n : ℕ). names_in n (if list_any (λ given. block_of h a == given) lane.gives.items then 0 else owner_in blocks (block_of h a))) (sym held) ∙ mine)))

-- ---- the entry of another set joins

module _ (set other : ℕ) (h : Heap) (blocks : List Standing) (begun now : Words) (writes : List WordWrite) (are : AreFor set h blocks begun now writes)
    (apart : (s : ℕ) → has_bit other s ≡ true → has_bit set s ≡ false) where
  pub open_follows : (own : Words) (ws : List WordWrite) (gives : List ℕ) → AreOpen other h own now blocks ws gives → AreOpen other h own (after_writes writes now) blocks ws gives
  open_follows own ws gives open_is = record {
    writes_are = open_is.writes_are;
    gives_are = open_is.gives_are;
    same = λ a on. open_is.same a on ∙ sym (after_other h (is_ours set blocks) writes now a are.places (ours_apart set other blocks (block_of h a) apart on));
    first = open_is.first;
    shown = open_is.shown;
  }

  pub joined_follows : (own : Words) (ws : List WordWrite) → AreJoined other h own now blocks ws → AreJoined other h own (after_writes writes now) blocks ws
  joined_follows own ws joined_is = record {
    alike = alike_then h other (after_writes ws own) now (after_writes writes now) joined_is.alike
        (record { start = refl; blocks = refl; inside = leaves_blocks set h blocks begun now writes are (has_bit other) apart });
    shown = λ k inside on. owner_stays set h blocks begun now writes are now k (ours_apart set other blocks k apart on) ∙ joined_is.shown k inside on;
  }

-- ---- fewer or more writes

pub after_taken : (h : Heap) (n : ℕ) (writes : List WordWrite) (u : Words) (k : ℕ) → AreData h (drop n writes) → after_writes writes u (block_address h k) ≡ after_writes (take n writes) u (block_address h k)
after_taken h zero writes u k data_words = owners_kept h writes u k data_words
after_taken h (suc n) [] u k data_words = refl
after_taken h (suc n) (w ∷ writes) u k data_words = after_taken h n writes (put_word w.address w.value u) k data_words

pub open_taken : (set : ℕ) (h : Heap) (begun now : Words) (blocks : List Standing) (n : ℕ) (writes : List WordWrite) (gives : List ℕ) → AreData h (drop n writes) →
    AreOpen set h begun now blocks writes gives → AreOpen set h begun now blocks (take n writes) gives
open_taken set h begun now blocks n writes gives data_words are = record {
  writes_are = each_take (IsOwnWrite set h begun blocks) n writes are.writes_are;
  gives_are = are.gives_are;
  same = are.same;
  first = are.first;
  shown = λ k inside on. sym (after_taken h n writes begun k data_words) ∙ are.shown k inside on;
}

pub open_more : (set : ℕ) (h : Heap) (begun now : Words) (blocks : List Standing) (writes more : List WordWrite) (gives : List ℕ) → AreData h more →
    Each (IsOwnWrite set h begun blocks) more → AreOpen set h begun now blocks writes gives → AreOpen set h begun now blocks (writes ++ more) gives
open_more set h begun now blocks writes more gives data_words own are = record {
  writes_are = each_join (IsOwnWrite set h begun blocks) writes more are.writes_are own;
  gives_are = are.gives_are;
  same = are.same;
  first = are.first;
  shown = λ k inside on. ap (λ (u : Words). u (block_address h k)) (after_append writes more begun) ∙ owners_kept h more (after_writes writes begun) k data_words ∙ are.shown k inside on;
}
