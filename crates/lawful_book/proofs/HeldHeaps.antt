-- A heap in which just what a set of structures holds is owned is alike with the heap that it is held in.
use Rattle.std.proofs.Common.{◌≡◌, ◌==◌, ◌↔◌, ℕ, zero, suc, ◌+◌, ◌-◌, ◌*◌, ◌%◌, ◌<◌, Bool, true, false, not, ◌&&◌, nat_lt, if◌then◌else◌, refl, sym, ◌∙◌, ap, arith, Some, None}
use Rattle.std.proofs.lemmas.Bool.Decides.{nat_tests}
use Rattle.persist_model.specs.Region.{Words}
use Rattle.lane_types.specs.Heaps.{Heap, Holding, AreAlike, has_bit, names_in, is_data, is_owned, holding_of, heap_of_holding, owner_of_held, value_of_held, owner_word, block_address, block_of}
use Rattle.lawful_book.proofs.WordsOf.{heap_with, block_at, names_next}

-- ---- addresses

rest_at : (start b i : ℕ) → i < 16 → (start + 16 * b + i - start) % 16 ≡ i
rest_at start b i small = omega (arith, small)

less_than : (n m : ℕ) → n < m → nat_lt n m ≡ true
less_than n m lt = grind (arith, nat_tests)

not_less : (start b i : ℕ) → nat_lt (start + 16 * b + i) start ≡ false
not_less start b i = at_most (start + 16 * b + i) start (omega arith)
  where
    at_most : (n m : ℕ) → m < n + 1 → nat_lt n m ≡ false
    at_most n m le = grind (arith, nat_tests)

not_none : (n : ℕ) → (suc n == 0) ≡ false
not_none n = grind (arith, nat_tests)

no_more : (n : ℕ) → n + 0 ≡ n
no_more n = omega arith

-- ---- owners

-- where a structure of the set is told as the owner it is
owner_told : (set n s : ℕ) (t : Bool) → t ≡ true → has_bit set s ≡ true → (owner_of_held (if t && names_in set n then Some (n - 1) else None) ≡ s + 1) ↔ (n ≡ s + 1)
owner_told set n s true on picked = (by_name (names_in set n) refl, back)
  where
    named : (m : ℕ) → (not (m == 0) && has_bit set (m - 1)) ≡ true → m - 1 + 1 ≡ m
    named zero e = cc
    named (suc m) e = omega arith

    none : (m : ℕ) → 0 ≡ m + 1 → ⊥
    none m e = omega (arith, e)

    by_name : (t : Bool) → names_in set n ≡ t → owner_of_held (if t then Some (n - 1) else None) ≡ s + 1 → n ≡ s + 1
    by_name true is e = sym (named n is) ∙ e
    by_name false is e = absurd (none s e)

    last : (m : ℕ) → m + 1 - 1 + 1 ≡ m + 1
    last m = omega arith

    back : n ≡ s + 1 → owner_of_held (if names_in set n then Some (n - 1) else None) ≡ s + 1
    back e = ap (λ (m : ℕ). owner_of_held (if names_in set m then Some (m - 1) else None)) e ∙
        ap (λ (t : Bool). owner_of_held (if t then Some (s + 1 - 1) else None)) (names_next set s ∙ picked) ∙ last s
owner_told set n s false on picked = absurd (no on)
  where
    no : false ≡ true → ⊥
    no e = cc

module _ (h : Heap) (set : ℕ) (u : Words) where
  abbrev held : Holding
  held = holding_of set (heap_with h u)

  abbrev bare : Heap
  bare = heap_of_holding h held

  -- what is told at the i-th word of a block
  told_at : (b i : ℕ) → i < 16 → bare.at (block_address h b + i) ≡ (if i == 0 then owner_of_held (held.owner b) else value_of_held (held.word (block_address h b + i)))
  told_at b i small = λ j. if rest_at h.start b i small j == 0 then owner_of_held (held.owner (block_at h.start b i small j)) else value_of_held (held.word (block_address h b + i))

  owner_at : (b : ℕ) → bare.at (block_address h b) ≡ owner_of_held (held.owner b)
  owner_at b = ap bare.at (sym (no_more (block_address h b))) ∙ told_at b 0 (omega arith)

  owned : (s b : ℕ) → has_bit set s ≡ true → b < h.blocks → (bare.at (block_address h b) ≡ s + 1) ↔ (u (block_address h b) ≡ s + 1)
  owned s b picked inside =
      let told = owner_told set (u (block_address h b)) s (nat_lt b h.blocks) (less_than b h.blocks inside) picked in
      (λ e. told.0 (sym (owner_at b) ∙ e), λ e. owner_at b ∙ told.1 e)

  -- a data word of a block that a structure of the set owns
  data_at : (s b j : ℕ) → has_bit set s ≡ true → b < h.blocks → suc j < 16 → u (block_address h b) ≡ s + 1 → bare.at (block_address h b + suc j) ≡ u (block_address h b + suc j)
  data_at s b j picked inside small owns =
      told_at b (suc j) small ∙
      ap (λ (t : Bool). if t then owner_of_held (held.owner b) else value_of_held (held.word (block_address h b + suc j))) (not_none j) ∙
      ap (λ (t : Bool). value_of_held (if t then Some (u (block_address h b + suc j)) else None)) held_there
    where
      here : block_of h (block_address h b + suc j) ≡ b
      here = block_at h.start b (suc j) small

      is_data_there : is_data h (block_address h b + suc j) ≡ true
      is_data_there =
          ap (λ (t : Bool). not t && (nat_lt (block_of h (block_address h b + suc j)) h.blocks && not (((block_address h b + suc j - h.start) % 16) == 0)))
          (not_less h.start b (suc j)) ∙
          ap (λ (n : ℕ). nat_lt n h.blocks && not (((block_address h b + suc j - h.start) % 16) == 0)) here ∙
          ap (λ (t : Bool). t && not (((block_address h b + suc j - h.start) % 16) == 0)) (less_than b h.blocks inside) ∙
          ap (λ (n : ℕ). not (n == 0)) (rest_at h.start b (suc j) small) ∙ ap (λ (t : Bool). not t) (not_none j)

      owned_there : is_owned set (heap_with h u) (owner_word (heap_with h u)) (block_of h (block_address h b + suc j)) ≡ true
      owned_there =
          ap (λ (n : ℕ). nat_lt n h.blocks && names_in set (u (block_address h n))) here ∙
          ap (λ (t : Bool). t && names_in set (u (block_address h b))) (less_than b h.blocks inside) ∙
          ap (names_in set) owns ∙ names_next set s ∙ picked

      held_there : (is_data h (block_address h b + suc j) && is_owned set (heap_with h u) (owner_word (heap_with h u)) (block_of h (block_address h b + suc j))) ≡ true
      held_there = ap (λ (t : Bool). t && is_owned set (heap_with h u) (owner_word (heap_with h u)) (block_of h (block_address h b + suc j))) is_data_there ∙ owned_there

  word_alike : (s b i : ℕ) → has_bit set s ≡ true → b < h.blocks → i < 16 → bare.at (block_address h b) ≡ s + 1 → bare.at (block_address h b + i) ≡ u (block_address h b + i)
  word_alike s b zero picked inside small owns =
      ap bare.at (no_more (block_address h b)) ∙ owns ∙ sym ((owned s b picked inside).0 owns) ∙ ap u (sym (no_more (block_address h b)))
  word_alike s b (suc j) picked inside small owns = data_at s b j picked inside small ((owned s b picked inside).0 owns)

  pub held_alike : AreAlike set (heap_of_holding h (holding_of set (heap_with h u))) (heap_with h u)
  held_alike = record {
    start = refl;
    blocks = refl;
    inside = record {
      owned = owned;
      words = word_alike;
    };
  }
