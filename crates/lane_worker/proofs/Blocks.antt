-- What is held once a block was given, and once one was taken.
use Rattle.std.proofs.Common.{◌≡◌, ◌≢◌, inr, ⊎_elim, ℕ, ◌+◌, ◌-◌, ◌%◌, ◌<◌, ◌≤◌, Bool, true, false, ◌&&◌, ◌||◌, if◌then◌else◌, ◌==◌, nat_lt, List, [], ◌∷◌, ◌++◌, Some, None, refl, ◌∙◌, ap, arith, lt-ltb}
use Rattle.std.proofs.lemmas.Bool.Decides.{nat_tests}
use Rattle.persist_model.specs.Records.{IsAmong}
use Rattle.lane_traits.specs.Draft.{is_among}
use Rattle.lane_traits.proofs.Among.{same_eq, apart_eq, not_among, is_among-last, among_last}
use Rattle.lane_types.specs.Asks.{has_word}
use Rattle.lane_types.specs.Heaps.{Heap, Holding, block_address, block_of, is_data}
use Rattle.lane_types.specs.LaneSteps.{is_in_block, with_block, without_block}
use Rattle.lane_worker.proofs.Alike.{IsBeside}

-- these are addresses of blocks
abbrev pub AreBlocks : Heap → List ℕ → Type 0
AreBlocks heap blocks = (b : ℕ) → IsAmong blocks b → (m : ℕ) × (b ≡ block_address heap m)

and_false : (t : Bool) → (t && false) ≡ false
and_false true = refl
and_false false = refl

or_false : (t : Bool) → (t || false) ≡ t
or_false true = refl
or_false false = refl

pub number_there : (heap : Heap) (n i : ℕ) → i < 16 → block_of heap (block_address heap n + i) ≡ n
number_there heap n i small = omega (arith, small)

pub same_number : (heap : Heap) (n m : ℕ) → block_address heap n ≡ block_address heap m → n ≡ m
same_number heap n m e = omega (arith, e)

pub plain_words : (heap : Heap) (blocks : List ℕ) → AreBlocks heap blocks → (n i : ℕ) → 0 < i → i < 16 → is_among blocks (block_address heap n + i) ≡ false
plain_words heap blocks h n i some small = not_among blocks (block_address heap n + i) (λ m. (let k = h (block_address heap n + i) m in let e = k.1 in omega (arith, e, some, small)))

not_below : (m n : ℕ) → n ≤ m → nat_lt m n ≡ false
not_below m n h = grind (arith, nat_tests)

pub out_of_block : (heap : Heap) (one n i : ℕ) → n ≢ one → i < 16 → is_in_block heap one (block_address heap n + i) ≡ false
out_of_block heap one n i ne small =
    let number = number_there heap n i small in
    let off = apart_eq n one ne in
    ap (λ k. is_data heap (block_address heap n + i) && (k == one)) number ∙ ap (λ t. is_data heap (block_address heap n + i) && t) off ∙ and_false (is_data heap (block_address heap n + i))

pub data_in : (heap : Heap) (n i : ℕ) → n < heap.blocks → 0 < i → i < 16 → is_data heap (block_address heap n + i) ≡ true
data_in heap n i low some small =
    let above : nat_lt (block_address heap n + i) heap.start ≡ false = not_below (block_address heap n + i) heap.start (omega arith) in
    let inside : nat_lt (block_of heap (block_address heap n + i)) heap.blocks ≡ true = ap (λ k. nat_lt k heap.blocks) (number_there heap n i small) ∙ lt-ltb n heap.blocks low in
    let off : (((block_address heap n + i - heap.start) % 16) == 0) ≡ false = (let e : (block_address heap n + i - heap.start) % 16 ≡ i = omega (arith, some, small) in rw e (apart_eq i 0 (λ z. omega (arith, z, some)))) in
    rw (above, inside, off) refl

pub in_block : (heap : Heap) (n i : ℕ) → n < heap.blocks → 0 < i → i < 16 → is_in_block heap n (block_address heap n + i) ≡ true
in_block heap n i low some small =
    ap (λ t. t && (block_of heap (block_address heap n + i) == n)) (data_in heap n i low some small) ∙ ap (λ k. k == n) (number_there heap n i small) ∙ same_eq n

zero_no : (t : Bool) (k : ℕ) → (if t then 0 else 0) ≡ k + 1 → ⊥
zero_no true k e = omega (arith, e)
zero_no false k e = omega (arith, e)

-- ---- a block is given

module _ (heap : Heap) (one : ℕ) (held : Holding) where
  pub given_owner : (n : ℕ) → n ≢ one → (without_block heap one held).owner n ≡ held.owner n
  given_owner n ne = let off = apart_eq n one ne in rw off refl

  pub given_gone : (without_block heap one held).owner one ≡ None
  given_gone = let on = same_eq one in rw on refl

  pub given_word : (n i : ℕ) → n ≢ one → i < 16 → (without_block heap one held).word (block_address heap n + i) ≡ held.word (block_address heap n + i)
  given_word n i ne small = ap (λ t. if t then None else held.word (block_address heap n + i)) (out_of_block heap one n i ne small)

  pub beside_given : (rest : List ℕ) → AreBlocks heap (block_address heap one ∷ rest)
      → IsBeside heap one held (without_block heap one held) (block_address heap one ∷ rest) rest
  beside_given rest blocks = record {
    owner = given_owner;
    word = λ n i ne some small. given_word n i ne small;
    among = λ n ne. (let off = apart_eq (block_address heap n) (block_address heap one) (λ e. ne (same_number heap n one e)) in rw off refl);
    nobody = λ k e. (let on = same_eq (block_address heap one) in let zero_is : 0 ≡ k + 1 = rw on at e in omega (arith, zero_is));
    nobody_there = λ k e. (let on = same_eq one in let zero_is : (if is_among rest (block_address heap one) then 0 else 0) ≡ k + 1 = rw on at e in zero_no (is_among rest (block_address heap one)) k zero_is);
    plain = plain_words heap (block_address heap one ∷ rest) blocks;
    plain_there = plain_words heap rest (λ b m. blocks b (inr m));
  }

-- ---- a block is taken

module _ (heap : Heap) (s one : ℕ) (values : ℕ → ℕ) (held : Holding) where
  pub taken_owner : (n : ℕ) → n ≢ one → (with_block heap s one values held).owner n ≡ held.owner n
  taken_owner n ne = let off = apart_eq n one ne in rw off refl

  pub taken_own : (with_block heap s one values held).owner one ≡ Some s
  taken_own = let on = same_eq one in rw on refl

  pub taken_word : (n i : ℕ) → n ≢ one → i < 16 → (with_block heap s one values held).word (block_address heap n + i) ≡ held.word (block_address heap n + i)
  taken_word n i ne small = ap (λ t. if t then Some (values (block_address heap n + i)) else held.word (block_address heap n + i)) (out_of_block heap one n i ne small)

  pub taken_has : one < heap.blocks → (i : ℕ) → 0 < i → i < 16 → has_word (with_block heap s one values held) (block_address heap one + i) ≡ true
  taken_has low i some small = let on = in_block heap one i low some small in rw on refl

  pub beside_taken : held.owner one ≡ None → (blocks : List ℕ) → AreBlocks heap blocks → IsBeside heap one held (with_block heap s one values held) blocks (blocks ++ block_address heap one ∷ [])
  beside_taken new blocks are = record {
    owner = taken_owner;
    word = λ n i ne some small. taken_word n i ne small;
    among = λ n ne. (let off = apart_eq (block_address heap n) (block_address heap one) (λ e. ne (same_number heap n one e)) in
        is_among-last blocks (block_address heap one) (block_address heap n) ∙ ap (λ t. is_among blocks (block_address heap n) || t) off ∙ or_false (is_among blocks (block_address heap n)));
    nobody = λ k e. (let zero_is : (if is_among blocks (block_address heap one) then 0 else 0) ≡ k + 1 = rw new at e in zero_no (is_among blocks (block_address heap one)) k zero_is);
    nobody_there = λ k e.
        (let on = is_among-last blocks (block_address heap one) (block_address heap one) ∙ ap (λ t. is_among blocks (block_address heap one) || t) (same_eq (block_address heap one)) ∙ or_true (is_among blocks (block_address heap one)) in
        let zero_is : 0 ≡ k + 1 = rw on at e in omega (arith, zero_is));
    plain = plain_words heap blocks are;
    plain_there = plain_words heap (blocks ++ block_address heap one ∷ []) (λ b m. ⊎_elim (λ old. are b old) (λ e. (one, e)) (among_last blocks (block_address heap one) b m));
  }
    where
      or_true : (t : Bool) → (t || true) ≡ true
      or_true true = refl
      or_true false = refl
