-- The values of what lanes hold, and that no two hold a word.
use Rattle.std.proofs.Common.{◌≡◌, ◌==◌, ℕ, zero, suc, ◌+◌, ◌-◌, ◌*◌, ◌/◌, ◌%◌, ◌<◌, ◌≤◌, Bool, true, false, not, nat_lt, if◌then◌else◌, List, length, take, refl, sym, ◌∙◌, ap, subst, arith, Option, Some, None}
use Rattle.std.proofs.lemmas.Bool.{false_from_ne_true}
use Rattle.std.proofs.lemmas.Bool.Decides.{nat_tests}
use Rattle.persist_model.specs.Region.{Words}
use Rattle.lane_traits.specs.Draft.{after_writes}
use Rattle.lane_traits.specs.declared.draft.WordWrite.{WordWrite}
use Rattle.lane_types.specs.Deeds.{Deeds}
use Rattle.lane_types.specs.Heaps.{Heap, AreAlike, has_bit, names_in, is_data, owner_word, block_of, with_writes}
use Rattle.lane_types.specs.Histories.{after_entries, fold}
use Rattle.lane_types.specs.Faces.{Base}
use Rattle.lane_types.specs.Asks.{is_there}
use Rattle.lane_book.specs.declared.lane.Lane.{Lane}
use Rattle.lane_book.specs.declared.book.Book.{Book}
use Rattle.lane_book.specs.FacesOf.{lane_at}
use Rattle.lane_book.specs.Books.{IsAboutIt}
use Rattle.lane_book.proofs.Holdings.{is_true_left, is_true_right}
use Rattle.lane_book.proofs.WordRows.{take_whole}
use Rattle.lawful_book.specs.LawfulBooks.{is_word_of, IsLawfulLane}
use Rattle.lawful_book.specs.Laws.{words_now, ValuesAreHeld, WordsAreApart}
use Rattle.lawful_book.proofs.WordsOf.{heap_with, HasOwners, data_of, owners_kept, after_at}
use Rattle.lawful_book.proofs.Showing.{begun_owners, holds_word}

both : (t : Bool) → t ≡ true → t ≡ false → ⊥
both t e f = cc

-- ---- a word of a structure

-- the address by its block
pub by_block : (start a : ℕ) → nat_lt a start ≡ false → a ≡ start + 16 * ((a - start) / 16) + (a - start) % 16
by_block start a above = whole start a (at_least start a above)
  where
    at_least : (n m : ℕ) → nat_lt m n ≡ false → n ≤ m
    at_least n m e = grind (arith, nat_tests)

    whole : (n m : ℕ) → n ≤ m → m ≡ n + 16 * ((m - n) / 16) + (m - n) % 16
    whole n m le = omega (arith, le)

pub small_rest : (n : ℕ) → n % 16 < 16
small_rest n = omega arith

pub not_true : (t : Bool) → not t ≡ true → t ≡ false
not_true true e = cc
not_true false e = refl

-- the owner of a named block is a structure of the set
named_owner : (set n : ℕ) → names_in set n ≡ true → (n ≡ n - 1 + 1) × (has_bit set (n - 1) ≡ true)
named_owner set zero e = cc
named_owner set (suc n) e = (omega arith, is_true_right (not (suc n == 0)) _ e)

word_named : (h : Heap) (set a : ℕ) → is_word_of set h a ≡ true → names_in set (owner_word h (block_of h a)) ≡ true
word_named h set a word = is_true_right (nat_lt (block_of h a) h.blocks) _ (is_true_right (is_data h a) _ word)

word_inside : (h : Heap) (set a : ℕ) → is_word_of set h a ≡ true → block_of h a < h.blocks
word_inside h set a word = less (block_of h a) h.blocks (is_true_left (nat_lt (block_of h a) h.blocks) _ (is_true_right (is_data h a) _ word))
  where
    less : (n m : ℕ) → nat_lt n m ≡ true → n < m
    less n m e = grind (arith, nat_tests)

-- heaps that are alike have the same values there
alike_word : (h : Heap) (set : ℕ) (u v : Words) (a : ℕ) → HasOwners h u → AreAlike set (heap_with h u) (heap_with h v) → is_word_of set h a ≡ true → u a ≡ v a
alike_word h set u v a has alike word =
    let named = named_owner set (owner_word h (block_of h a)) (word_named h set a word) in
    let is = by_block h.start a (not_true (nat_lt a h.start) (is_true_left (not (nat_lt a h.start)) _ (is_true_left (is_data h a) _ word))) in
    ap u is ∙
    alike.inside.words (owner_word h (block_of h a) - 1) (block_of h a) ((a - h.start) % 16) named.1 (word_inside h set a word) (small_rest (a - h.start))
    (has (block_of h a) ∙ named.0) ∙
    sym (ap v is)

-- ---- what a lane holds

value_if : (t : Bool) (v : ℕ) → is_there (if t then Some v else None) ≡ true → (if t then Some v else None) ≡ Some v
value_if true v e = refl
value_if false v e = cc

module _ {E : Type 0} (deeds : Deeds E) where
  module _ (base : Base) (book : Book E) (l : ℕ) (was : IsLawfulLane deeds base book.history.items book.next_transaction l (lane_at book l))
      (owners : HasOwners base.heap (after_entries (take (lane_at book l).joined book.history.items) base.heap.at)) (a : ℕ) (word : is_word_of (lane_at book l).held base.heap a ≡ true) where
    abbrev lane : Lane E
    lane = lane_at book l

    abbrev begun_words : Words
    begun_words = after_entries (take lane.joined book.history.items) base.heap.at

    abbrev joined_words : Words
    joined_words = after_entries book.history.items base.heap.at

    running_value : lane.entered ≡ false → after_writes (take lane.stored lane.writes.items) begun_words a ≡ words_now base book l a
    running_value new =
        after_at (take lane.stored lane.writes.items) begun_words joined_words a (alike_word base.heap lane.held begun_words joined_words a owners (was.alike new) word) ∙
        sym (ap (λ (t : Bool). (if t then fold base.heap book.history.items else with_writes (take lane.stored lane.writes.items) (fold base.heap book.history.items)).at a) new)

    joined_value : lane.entered ≡ true → lane.stored ≡ length lane.writes.items → after_writes (take lane.stored lane.writes.items) begun_words a ≡ words_now base book l a
    joined_value on stored =
        ap (λ (ws : List WordWrite). after_writes ws begun_words a) (take_whole lane.stored lane.writes.items (omega (arith, stored))) ∙
        alike_word base.heap lane.held (after_writes lane.writes.items begun_words) joined_words a
        (λ b. owners_kept base.heap lane.writes.items begun_words b (data_of base.heap lane.held lane.writes.items was.own_writes) ∙ owners b) (was.alike_joined on) word ∙
        sym (ap (λ (t : Bool). (if t then fold base.heap book.history.items else with_writes (take lane.stored lane.writes.items) (fold base.heap book.history.items)).at a) on)

    value_is : (t : Bool) → lane.entered ≡ t → (lane.entered ≡ true → lane.stored ≡ length lane.writes.items) →
        after_writes (take lane.stored lane.writes.items) begun_words a ≡ words_now base book l a
    value_is true on stored = joined_value on (stored on)
    value_is false new stored = running_value new

  pub values_are_held : ValuesAreHeld deeds
  values_are_held layout base book lawful whole l a has =
      let lane = lane_at book l in
      let was = lawful.lanes l in
      let word = sym (holds_word deeds base book.history.items book.next_transaction l lane lawful.past was a) ∙ has in
      value_if _ (after_writes (take lane.stored lane.writes.items) (after_entries (take lane.joined book.history.items) base.heap.at) a) has ∙
      ap (λ (v : ℕ). Some v)
      (value_is base book l was (begun_owners deeds base book.history.items book.next_transaction l lane lawful.past was) a word lane.entered refl
      (λ on. subst (IsAboutIt lane) (was.entering on) (whole l).about))

  pub words_are_apart : WordsAreApart deeds
  words_are_apart layout base book lawful l k a v ne has = none_there _
      (holds_word deeds base book.history.items book.next_transaction k (lane_at book k) lawful.past (lawful.lanes k) a ∙
      false_from_ne_true (is_word_of (lane_at book k).held base.heap a) other)
    where
      mine : is_word_of (lane_at book l).held base.heap a ≡ true
      mine = sym (holds_word deeds base book.history.items book.next_transaction l (lane_at book l) lawful.past (lawful.lanes l) a) ∙ ap is_there has

      other : is_word_of (lane_at book k).held base.heap a ≡ true → ⊥
      other theirs =
          let n = owner_word base.heap (block_of base.heap a) in
          let first = named_owner (lane_at book l).held n (word_named base.heap (lane_at book l).held a mine) in
          let second = named_owner (lane_at book k).held n (word_named base.heap (lane_at book k).held a theirs) in
          both (has_bit (lane_at book k).held (n - 1)) second.1 (lawful.apart l k (n - 1) ne first.1)

      none_there : (o : Option ℕ) → is_there o ≡ false → o ≡ None
      none_there None e = refl
      none_there (Some x) e = cc
