-- What a lane of a lawful book holds.
use Rattle.std.proofs.Common.{◌≡◌, ◌≢◌, ◌==◌, ℕ, zero, suc, ◌+◌, ◌-◌, ◌*◌, ◌%◌, ◌^◌, ◌<◌, ◌≤◌, Bool, true, false, not, ◌&&◌, nat_lt, nat_le, if◌then◌else◌, List, [], ◌∷◌, ◌++◌, length, take, drop, get_or, refl, sym, ◌∙◌, ap, subst, arith, Option, Some, None}
use Rattle.std.specs.Prelude.{slice_get}
use Rattle.std.specs.List.{list_any}
use Rattle.std.proofs.Math.Nat.{div-eq_of_lt, pow-le-pow_right}
use Rattle.std.proofs.lemmas.Bool.Decides.{nat_tests}
use Rattle.persist_model.specs.Region.{Words}
use Rattle.persist_model.specs.Shape.{block}
use Rattle.lane_traits.specs.Draft.{is_among}
use Rattle.lane_traits.specs.declared.draft.WordWrite.{WordWrite}
use Rattle.region_layout.specs.declared.layout.Layout.{Layout}
use Rattle.region_layout.specs.Layout.{layout_shape}
use Rattle.offset_alloc.specs.declared.Standing.{Standing}
use Rattle.offset_alloc.specs.declared.Standing.TheVariants.{Free, Owned, Pending}
use Rattle.lane_types.specs.declared.face.Entry.{Entry}
use Rattle.lane_types.specs.Deeds.{Deeds}
use Rattle.lane_types.specs.Heaps.{Heap, has_bit, names_in, is_data, is_owned, owner_word, owners_after, block_of, with_writes}
use Rattle.lane_types.specs.Histories.{after_entries}
use Rattle.lane_types.specs.Faces.{Base}
use Rattle.lane_types.specs.Asks.{is_there, has_word, has_all}
use Rattle.lane_book.specs.declared.lane.Lane.{Lane}
use Rattle.lane_book.specs.declared.book.Book.{Book}
use Rattle.lane_book.specs.FacesOf.{lane_at, begun_heap, words_of, standing_writes, standing_gives, waiting_writes, waiting_gives}
use Rattle.lane_book.specs.Refusals.{owner_number, ShowsBlocks}
use Rattle.lane_book.specs.Stores.{no_write}
use Rattle.lawful_book.specs.LawfulBooks.{is_word_of, AreWordsOf, Each, IsPast, IsLawfulLane, IsLawfulBook}
use Rattle.lawful_book.proofs.WordsOf.{HasOwners, data_of, owners_kept}
use Rattle.lawful_book.proofs.Histories.{each_take, past_owners}

-- ---- sets

-- a set of the first n structures has none above
pub bit_above : (set n s : ℕ) → set < 2 ^ n → n ≤ s → has_bit set s ≡ false
bit_above set n s small above =
    let more = pow-le-pow_right {n = 2} (omega arith) {i = n} {j = s} above in
    ap (λ (q : ℕ). (q % 2) == 1) (div-eq_of_lt {n = set} {m = 2 ^ s} (omega (arith, small, more)))

pub bit_below : (set n s : ℕ) → set < 2 ^ n → has_bit set s ≡ true → s < n
bit_below set n s small on = by_test (nat_lt s n) refl
  where
    both : (t : Bool) → t ≡ true → t ≡ false → ⊥
    both t e f = cc

    not_less : nat_lt s n ≡ false → n ≤ s
    not_less e = grind (arith, nat_tests)

    less : nat_lt s n ≡ true → s < n
    less e = grind (arith, nat_tests)

    by_test : (t : Bool) → nat_lt s n ≡ t → s < n
    by_test true e = less e
    by_test false e = absurd (both (has_bit set s) on (bit_above set n s small (not_less e)))

-- ---- lists of writes

pub words_take : (set : ℕ) (h : Heap) (n : ℕ) (writes : List WordWrite) → AreWordsOf set h writes → AreWordsOf set h (take n writes)
words_take set h zero writes words = tt
words_take set h (suc n) [] words = tt
words_take set h (suc n) (w ∷ writes) words = (words.0, words_take set h n writes words.1)

pub words_drop : (set : ℕ) (h : Heap) (n : ℕ) (writes : List WordWrite) → AreWordsOf set h writes → AreWordsOf set h (drop n writes)
words_drop set h zero writes words = words
words_drop set h (suc n) [] words = tt
words_drop set h (suc n) (w ∷ writes) words = words_drop set h n writes words.1

pub words_more : (set : ℕ) (h : Heap) (writes more : List WordWrite) → AreWordsOf set h writes → AreWordsOf set h more → AreWordsOf set h (writes ++ more)
words_more set h [] more words others = others
words_more set h (w ∷ writes) more words others = (words.0, words_more set h writes more words.1 others)

pub word_at : (set : ℕ) (h : Heap) (writes : List WordWrite) (n : ℕ) → n < length writes → AreWordsOf set h writes → is_word_of set h (get_or writes n no_write).address ≡ true
word_at set h [] n lt words = absurd (omega (arith, lt))
word_at set h (w ∷ writes) zero lt words = words.0
word_at set h (w ∷ writes) (suc n) lt words = word_at set h writes n (omega (arith, lt)) words.1

-- ---- what a lane holds

take_none : {X : Type 0} (n : ℕ) (xs : List X) → xs ≡ [] → take n xs ≡ []
take_none zero xs none = refl
take_none (suc n) [] none = refl
take_none (suc n) (x ∷ xs) none = cc

there_if : (t : Bool) (v : ℕ) → is_there (if t then Some v else None) ≡ t
there_if true v = refl
there_if false v = refl

module _ {E : Type 0} (deeds : Deeds E) (base : Base) (history : List (Entry E)) (next l : ℕ) (lane : Lane E) (past : Each (IsPast base.heap next) history)
    (was : IsLawfulLane deeds base history next l lane) where
  abbrev begun_words : Words
  begun_words = after_entries (take lane.joined history) base.heap.at

  pub begun_owners : HasOwners base.heap begun_words
  begun_owners = past_owners base.heap next (take lane.joined history) base.heap.at (each_take (IsPast base.heap next) lane.joined history past) (λ b. refl)

  pub no_given : standing_gives lane ≡ []
  no_given = take_none (length lane.gives.items - waiting_gives lane.doing) lane.gives.items was.no_gives

  pub owners_are : (b : ℕ) → owners_after (begun_heap base history lane) (standing_writes lane) (standing_gives lane) b ≡ owner_word base.heap b
  owners_are b =
      ap (λ (gs : List ℕ). if is_among gs b then 0 else owner_word (with_writes (standing_writes lane) (begun_heap base history lane)) b) no_given ∙
      owners_kept base.heap (standing_writes lane) begun_words b
      (data_of base.heap lane.held (standing_writes lane) (words_take lane.held base.heap (length lane.writes.items - waiting_writes lane.doing) lane.writes.items was.own_writes)) ∙
      begun_owners b

  -- the words that it holds are those of its structures in the heap of the start
  pub holds_word : (a : ℕ) → has_word (words_of (begun_heap base history lane) lane) a ≡ is_word_of lane.held base.heap a
  holds_word a = there_if _ _ ∙
      ap (λ (n : ℕ). is_data base.heap a && (nat_lt (block_of base.heap a) base.heap.blocks && names_in lane.held n)) (owners_are (block_of base.heap a))

  pub holds_block : (b : ℕ) → is_there ((words_of (begun_heap base history lane) lane).owner b) ≡ is_owned lane.held base.heap (owner_word base.heap) b
  holds_block b = there_if _ _ ∙ ap (λ (n : ℕ). nat_lt b base.heap.blocks && names_in lane.held n) (owners_are b)

  pub holds_all : (writes : List WordWrite) → AreWordsOf lane.held base.heap writes → has_all (words_of (begun_heap base history lane) lane) writes ≡ true
  holds_all [] words = refl
  holds_all (w ∷ writes) words =
      ap (λ (t : Bool). t && has_all (words_of (begun_heap base history lane) lane) writes) (holds_word w.address ∙ words.0) ∙ holds_all writes words.1

  pub all_held : (writes : List WordWrite) → has_all (words_of (begun_heap base history lane) lane) writes ≡ true → AreWordsOf lane.held base.heap writes
  all_held [] has = tt
  all_held (w ∷ writes) has =
      (sym (holds_word w.address) ∙ left (has_word (words_of (begun_heap base history lane) lane) w.address) _ has, all_held writes (right _ _ has))
    where
      left : (s t : Bool) → (s && t) ≡ true → s ≡ true
      left true t e = refl
      left false t e = cc

      right : (s t : Bool) → (s && t) ≡ true → t ≡ true
      right true t e = e
      right false t e = cc

-- ---- the book's blocks

-- what an owner word says is told by the block's standing
standing_named : (set structures n k : ℕ) → set < 2 ^ structures →
    names_in set (owner_number (Some (if n == 0 then (if nat_lt k structures then Pending else Free) else (if nat_le n structures then Owned (n - 1) else Pending)))) ≡ names_in set n
standing_named set structures n k small = by_zero (n == 0) refl
  where
    is_zero : (n == 0) ≡ true → n ≡ 0
    is_zero e = grind (arith, nat_tests)

    not_zero : (n == 0) ≡ false → n - 1 + 1 ≡ n
    not_zero e = let ne : n ≢ 0 = grind (arith, nat_tests) in back n ne
      where
        back : (m : ℕ) → m ≢ 0 → m - 1 + 1 ≡ m
        back zero ne = absurd (ne refl)
        back (suc m) ne = omega arith

    beyond : nat_le n structures ≡ false → structures ≤ n - 1
    beyond e = grind (arith, nat_tests)

    free : (t : Bool) → names_in set (owner_number (Some (if t then Pending else Free))) ≡ false
    free true = refl
    free false = refl

    by_most : (n == 0) ≡ false → (t : Bool) → nat_le n structures ≡ t → names_in set (owner_number (Some (if t then Owned (n - 1) else Pending))) ≡ names_in set n
    by_most some true e = ap (names_in set) (not_zero some)
    by_most some false e = sym (ap (λ (t : Bool). not t && has_bit set (n - 1)) some ∙ bit_above set structures (n - 1) small (beyond e))

    by_zero : (t : Bool) → (n == 0) ≡ t →
        names_in set (owner_number (Some (if t then (if nat_lt k structures then Pending else Free) else (if nat_le n structures then Owned (n - 1) else Pending)))) ≡ names_in set n
    by_zero true e = free (nat_lt k structures) ∙ sym (ap (names_in set) (is_zero e))
    by_zero false e = by_most e (nat_le n structures) refl

pub blocks_shown : {E : Type 0} (deeds : Deeds E) (layout : Layout) (base : Base) (book : Book E) → IsLawfulBook deeds layout base book → (l : ℕ) → ShowsBlocks layout book l base
blocks_shown deeds layout base book lawful l = record {
  start = lawful.place.start;
  blocks = lawful.place.blocks;
  mine = λ k inside.
      let lane = lane_at book l in
      let was = lawful.lanes l in
      ap (λ (gs : List ℕ). names_in lane.held (if list_any (λ given. k == given) gs then 0 else owner_number (slice_get book.blocks k))) was.no_gives ∙
      ap (λ (o : Option Standing). names_in lane.held (owner_number o)) (lawful.owners.each k inside) ∙
      standing_named lane.held layout.structures (base.heap.at (block (layout_shape layout) k)) k (subst (λ (n : ℕ). lane.held < 2 ^ n) lawful.place.structures was.inside) ∙
      ap (λ (n : ℕ). names_in lane.held (base.heap.at (n + 16 * k))) (sym lawful.place.start) ∙
      sym (ap (λ (t : Bool). t && names_in lane.held (owner_word base.heap k)) (inside_of k base.heap.blocks (subst (λ (n : ℕ). k < n) (sym lawful.place.blocks) inside))) ∙
      sym (holds_block deeds base book.history.items book.next_transaction l lane lawful.past was k);
}
  where
    inside_of : (k n : ℕ) → k < n → nat_lt k n ≡ true
    inside_of k n lt = grind (arith, nat_tests)
