-- What is held after one write, one take or one give more.
use Rattle.std.proofs.Common.{◌≡◌, ◌≢◌, ◌==◌, ◌||◌, ℕ, ◌+◌, ◌-◌, ◌*◌, ◌%◌, Bool, true, false, not, ◌&&◌, nat_lt, if◌then◌else◌, List, [], ◌∷◌, ◌++◌, refl, sym, ◌∙◌, ap, subst, arith, Some, None}
use Rattle.std.proofs.lemmas.Bool.Decides.{nat_tests}
use Rattle.persist_model.specs.Region.{Words}
use Rattle.lane_traits.specs.Space.{put_word}
use Rattle.lane_traits.specs.Draft.{is_among, after_writes}
use Rattle.lane_traits.specs.declared.draft.WordWrite.{WordWrite}
use Rattle.lane_traits.proofs.Among.{same_eq}
use Rattle.lane_traits.proofs.Writes.{put_other, after_writes-last}
use Rattle.lane_types.specs.Heaps.{Heap, has_bit, names_in, block_address, block_of, is_data, is_owned, holding, owners_after, with_writes, owner_word}
use Rattle.lane_types.specs.LaneSteps.{put_held, with_block, without_block}
use Rattle.lane_book.specs.FacesOf.{held_after}

-- ---- addresses

data_isnt_owner : (start k a : ℕ) → (nat_lt a start) ≡ false → (((a - start) % 16) == 0) ≡ false → start + 16 * k ≢ a
data_isnt_owner start k a above inside same = eq_not ((start + 16 * k - start) % 16) (rem_zero start k)
    (subst (λ (n : ℕ). (((n - start) % 16) == 0) ≡ false) (sym same) inside)
  where
    rem_zero : (s n : ℕ) → (s + 16 * n - s) % 16 ≡ 0
    rem_zero s n = omega arith

    eq_not : (n : ℕ) → n ≡ 0 → (n == 0) ≡ false → ⊥
    eq_not n e off = let on = subst (λ (m : ℕ). (m == 0) ≡ false) e off in cc

pub is_true_left : (s t : Bool) → (s && t) ≡ true → s ≡ true
is_true_left true t e = refl
is_true_left false t e = cc

pub is_true_right : (s t : Bool) → (s && t) ≡ true → t ≡ true
is_true_right true t e = e
is_true_right false t e = cc

not_not : (t : Bool) → not t ≡ true → t ≡ false
not_not true e = cc
not_not false e = refl

-- an owner word is no data word
pub owner_apart : (heap : Heap) (k a : ℕ) → is_data heap a ≡ true → block_address heap k ≢ a
owner_apart heap k a data_word =
    let above = not_not (nat_lt a heap.start) (is_true_left (not (nat_lt a heap.start)) _ data_word) in
    let inside = not_not (((a - heap.start) % 16) == 0)
    (is_true_right (nat_lt (block_of heap a) heap.blocks) _ (is_true_right (not (nat_lt a heap.start)) _ data_word)) in
    data_isnt_owner heap.start k a above inside

same_block : (start k b : ℕ) → ((start + 16 * k) == (start + 16 * b)) ≡ (k == b)
same_block start k b = grind (arith, nat_tests)

-- ---- one write more

-- the owner words stay
pub owners_stay : (heap : Heap) (writes : List WordWrite) (w : WordWrite) (gives : List ℕ) (k : ℕ) → is_data heap w.address ≡ true →
    owners_after heap (writes ++ w ∷ []) gives k ≡ owners_after heap writes gives k
owners_stay heap writes w gives k data_word = ap (λ (n : ℕ). if is_among gives k then 0 else n)
    (ap (λ (u : Words). u (block_address heap k)) (after_writes-last writes w heap.at) ∙
    put_other w.address w.value (block_address heap k) (after_writes writes heap.at) (owner_apart heap k w.address data_word))

by_tests : (t same : Bool) (v x : ℕ) → (same ≡ true → t ≡ true) →
    (if t then Some (if same then v else x) else None) ≡ (if same then Some v else (if t then Some x else None))
by_tests true true v x e = refl
by_tests true false v x e = refl
by_tests false true v x e = let on = e refl in cc
by_tests false false v x e = refl

-- the lane holds the word at the address
abbrev pub has_at : ℕ → Heap → (ℕ → ℕ) → ℕ → Bool
has_at set heap owners a = is_data heap a && is_owned set heap owners (block_of heap a)

pub values_put : (set : ℕ) (heap : Heap) (owners values : ℕ → ℕ) (gives : List ℕ) (a v : ℕ) → has_at set heap owners a ≡ true →
    holding set heap owners (put_word a v values) gives ≡ put_held a v (holding set heap owners values gives)
values_put set heap owners values gives a v has = λ i. record (holding set heap owners values gives) { word = λ b. word_at b i }
  where
    is_same : (b c : ℕ) → (b == c) ≡ true → b ≡ c
    is_same b c e = grind (arith, nat_tests)

    word_at : (b : ℕ) → (holding set heap owners (put_word a v values) gives).word b ≡ (put_held a v (holding set heap owners values gives)).word b
    word_at b = by_tests (has_at set heap owners b) (b == a) v (values b)
        (λ same. subst (λ (x : ℕ). has_at set heap owners x ≡ true) (sym (is_same b a same)) has)

pub held_written : (set : ℕ) (heap : Heap) (writes : List WordWrite) (w : WordWrite) (gives : List ℕ) → is_data heap w.address ≡ true →
    has_at set heap (owners_after heap writes gives) w.address ≡ true →
    held_after set heap (writes ++ w ∷ []) gives (writes ++ w ∷ []) ≡ put_held w.address w.value (held_after set heap writes gives writes)
held_written set heap writes w gives data_word has =
    ap (λ (owners : ℕ → ℕ). holding set heap owners (after_writes (writes ++ w ∷ []) heap.at) gives)
    (λ i k. owners_stay heap writes w gives k data_word i) ∙
    ap (λ (values : Words). holding set heap (owners_after heap writes gives) values gives) (after_writes-last writes w heap.at) ∙
    values_put set heap (owners_after heap writes gives) (after_writes writes heap.at) gives w.address w.value has

-- ---- one take more

-- the block has this owner, and every other as before
abbrev pub put_owner : ℕ → ℕ → (ℕ → ℕ) → ℕ → ℕ
put_owner block owner owners k = if k == block then owner else owners k

owners_taken : (heap : Heap) (writes : List WordWrite) (gives : List ℕ) (block owner k : ℕ) → is_among gives block ≡ false →
    owners_after heap (writes ++ record { address = block_address heap block; value = owner } ∷ []) gives k ≡
    put_owner block owner (owners_after heap writes gives) k
owners_taken heap writes gives block owner k not_given =
    ap (λ (n : ℕ). if is_among gives k then 0 else n)
    (ap (λ (u : Words). u (block_address heap k)) (after_writes-last writes (record { address = block_address heap block; value = owner }) heap.at) ∙
    ap (λ (t : Bool). if t then owner else after_writes writes heap.at (block_address heap k)) (same_block heap.start k block)) ∙
    by_block (is_among gives k) (k == block) (after_writes writes heap.at (block_address heap k))
    (λ same. subst (λ (x : ℕ). is_among gives x ≡ false) (sym (is_same k block same)) not_given)
  where
    is_same : (b c : ℕ) → (b == c) ≡ true → b ≡ c
    is_same b c e = grind (arith, nat_tests)

    by_block : (g same : Bool) (n : ℕ) → (same ≡ true → g ≡ false) →
        (if g then 0 else (if same then owner else n)) ≡ (if same then owner else (if g then 0 else n))
    by_block true true n e = let off = e refl in cc
    by_block true false n e = refl
    by_block false true n e = refl
    by_block false false n e = refl

owner_minus : (s : ℕ) → (s + 1) - 1 ≡ s
owner_minus s = omega arith

names_one : (set s : ℕ) → has_bit set s ≡ true → names_in set (s + 1) ≡ true
names_one set s has =
    let some : ((s + 1) == 0) ≡ false = grind (arith, nat_tests) in
    ap (λ (t : Bool). not t && has_bit set ((s + 1) - 1)) some ∙ ap (has_bit set) (owner_minus s) ∙ has

-- the take of a block that is neither held nor given
module _ (set : ℕ) (heap : Heap) (owners values later : ℕ → ℕ) (gives : List ℕ) (s block : ℕ) (inside : nat_lt block heap.blocks ≡ true)
    (has : has_bit set s ≡ true) (same : (a : ℕ) → is_data heap a ≡ true → later a ≡ values a) where
  taken_here : is_owned set heap (put_owner block (s + 1) owners) block ≡ true
  taken_here =
      ap (λ (t : Bool). t && names_in set (put_owner block (s + 1) owners block)) inside ∙
      ap (λ (t : Bool). names_in set (if t then s + 1 else owners block)) (same_eq block) ∙
      names_one set s has

  -- of a data word: in the block or elsewhere
  word_by : (d t : Bool) (k a : ℕ) → (d ≡ true → later a ≡ values a) → (t ≡ true → is_owned set heap (put_owner block (s + 1) owners) k ≡ true) →
      (t ≡ false → put_owner block (s + 1) owners k ≡ owners k) →
      (if d && is_owned set heap (put_owner block (s + 1) owners) k then Some (later a) else None) ≡
      (if d && t then Some (later a) else (if d && is_owned set heap owners k then Some (values a) else None))
  word_by false true k a keeps on off = refl
  word_by false false k a keeps on off = refl
  word_by true true k a keeps on off = ap (λ (t : Bool). if t then Some (later a) else None) (on refl)
  word_by true false k a keeps on off =
      ap (λ (n : ℕ). if nat_lt k heap.blocks && names_in set n then Some (later a) else None) (off refl) ∙
      ap (λ (n : ℕ). if is_owned set heap owners k then Some n else None) (keeps refl)

  owner_by : (t : Bool) (k : ℕ) → (t ≡ true → k ≡ block) → (t ≡ false → put_owner block (s + 1) owners k ≡ owners k) →
      (holding set heap (put_owner block (s + 1) owners) later gives).owner k ≡ (if t then Some s else (holding set heap owners values gives).owner k)
  owner_by true k here there = subst (λ (x : ℕ). (holding set heap (put_owner block (s + 1) owners) later gives).owner x ≡ Some s) (sym (here refl))
      (ap (λ (t : Bool). if t then Some (put_owner block (s + 1) owners block - 1) else None) taken_here ∙
      ap (λ (t : Bool). Some ((if t then s + 1 else owners block) - 1)) (same_eq block) ∙ ap Some (owner_minus s))
  owner_by false k here there = ap (λ (n : ℕ). if nat_lt k heap.blocks && names_in set n then Some (n - 1) else None) (there refl)

  is_same : (b c : ℕ) → (b == c) ≡ true → b ≡ c
  is_same b c e = grind (arith, nat_tests)

  elsewhere : (k : ℕ) → (k == block) ≡ false → put_owner block (s + 1) owners k ≡ owners k
  elsewhere k off = ap (λ (t : Bool). if t then s + 1 else owners k) off

  pub held_taken : holding set heap (put_owner block (s + 1) owners) later gives ≡ with_block heap s block later (holding set heap owners values gives)
  held_taken = λ i. record {
    word = λ a. word_by (is_data heap a) (block_of heap a == block) (block_of heap a) a (same a)
        (λ on. subst (λ (k : ℕ). is_owned set heap (put_owner block (s + 1) owners) k ≡ true) (sym (is_same (block_of heap a) block on)) taken_here)
        (elsewhere (block_of heap a)) i;
    owner = λ k. owner_by (k == block) k (is_same k block) (elsewhere k) i;
    given = λ k. is_among gives k;
  }

-- the values of data words stay where an owner word is stored
pub data_stay : (heap : Heap) (writes : List WordWrite) (block owner a : ℕ) → is_data heap a ≡ true →
    after_writes (writes ++ record { address = block_address heap block; value = owner } ∷ []) heap.at a ≡ after_writes writes heap.at a
data_stay heap writes block owner a data_word =
    ap (λ (u : Words). u a) (after_writes-last writes (record { address = block_address heap block; value = owner }) heap.at) ∙
    put_other (block_address heap block) owner a (after_writes writes heap.at) (λ same. owner_apart heap block a data_word (sym same))

pub held_after_take : (set : ℕ) (heap : Heap) (writes : List WordWrite) (gives : List ℕ) (s block : ℕ) → nat_lt block heap.blocks ≡ true →
    has_bit set s ≡ true → is_among gives block ≡ false →
    held_after set heap (writes ++ record { address = block_address heap block; value = s + 1 } ∷ []) gives
    (writes ++ record { address = block_address heap block; value = s + 1 } ∷ []) ≡
    with_block heap s block (after_writes (writes ++ record { address = block_address heap block; value = s + 1 } ∷ []) heap.at)
    (held_after set heap writes gives writes)
held_after_take set heap writes gives s block inside has not_given =
    ap (λ (owners : ℕ → ℕ). holding set heap owners (after_writes (writes ++ record { address = block_address heap block; value = s + 1 } ∷ []) heap.at) gives)
    (λ i k. owners_taken heap writes gives block (s + 1) k not_given i) ∙
    held_taken set heap (owners_after heap writes gives) (after_writes writes heap.at)
    (after_writes (writes ++ record { address = block_address heap block; value = s + 1 } ∷ []) heap.at) gives s block inside has
    (λ a data_word. data_stay heap writes block (s + 1) a data_word)

-- ---- one give more

among_last : (gives : List ℕ) (block k : ℕ) → is_among (gives ++ block ∷ []) k ≡ (if k == block then true else is_among gives k)
among_last [] block k = by_test (k == block)
  where
    by_test : (t : Bool) → (t || false) ≡ (if t then true else false)
    by_test true = refl
    by_test false = refl
among_last (b ∷ gives) block k = ap (λ (t : Bool). (k == b) || t) (among_last gives block k) ∙ by_test (k == b) (k == block) (is_among gives k)
  where
    by_test : (s t r : Bool) → (s || (if t then true else r)) ≡ (if t then true else (s || r))
    by_test true true r = refl
    by_test true false r = refl
    by_test false true r = refl
    by_test false false r = refl

owners_given : (heap : Heap) (writes : List WordWrite) (gives : List ℕ) (block k : ℕ) →
    owners_after heap writes (gives ++ block ∷ []) k ≡ put_owner block 0 (owners_after heap writes gives) k
owners_given heap writes gives block k =
    ap (λ (t : Bool). if t then 0 else owner_word (with_writes writes heap) k) (among_last gives block k) ∙
    by_test (k == block) (is_among gives k) (owner_word (with_writes writes heap) k)
  where
    by_test : (t g : Bool) (n : ℕ) → (if (if t then true else g) then 0 else n) ≡ (if t then 0 else (if g then 0 else n))
    by_test true g n = refl
    by_test false g n = refl

module _ (set : ℕ) (heap : Heap) (owners values : ℕ → ℕ) (block : ℕ) where
  word_kept : (d t : Bool) (k a : ℕ) →
      (if d && (nat_lt k heap.blocks && names_in set (if t then 0 else owners k)) then Some (values a) else None) ≡
      (if d && t then None else (if d && is_owned set heap owners k then Some (values a) else None))
  word_kept false true k a = refl
  word_kept false false k a = refl
  word_kept true false k a = refl
  word_kept true true k a = by_test (nat_lt k heap.blocks)
    where
      by_test : (s : Bool) → (if s && false then Some (values a) else None) ≡ None
      by_test true = refl
      by_test false = refl

  owner_kept : (t : Bool) (k : ℕ) →
      (if nat_lt k heap.blocks && names_in set (if t then 0 else owners k) then Some ((if t then 0 else owners k) - 1) else None) ≡
      (if t then None else (if is_owned set heap owners k then Some (owners k - 1) else None))
  owner_kept false k = refl
  owner_kept true k = by_test (nat_lt k heap.blocks)
    where
      by_test : (s : Bool) → (if s && false then Some (0 - 1) else None) ≡ None
      by_test true = refl
      by_test false = refl

  pub held_given : (gives : List ℕ) → holding set heap (put_owner block 0 owners) values (gives ++ block ∷ []) ≡
      without_block heap block (holding set heap owners values gives)
  held_given gives = λ i. record {
    word = λ a. word_kept (is_data heap a) (block_of heap a == block) (block_of heap a) a i;
    owner = λ k. owner_kept (k == block) k i;
    given = λ k. among_last gives block k i;
  }

pub held_after_give : (set : ℕ) (heap : Heap) (writes : List WordWrite) (gives : List ℕ) (stored : List WordWrite) (block : ℕ) →
    held_after set heap writes (gives ++ block ∷ []) stored ≡ without_block heap block (held_after set heap writes gives stored)
held_after_give set heap writes gives stored block =
    ap (λ (owners : ℕ → ℕ). holding set heap owners (after_writes stored heap.at) (gives ++ block ∷ []))
    (λ i k. owners_given heap writes gives block k i) ∙
    held_given set heap (owners_after heap writes gives) (after_writes stored heap.at) block gives
