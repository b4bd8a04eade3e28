-- Writes to the data words of what a set of structures owns, over heaps of one place whose owner words stay.
use Rattle.std.proofs.Common.{◌≡◌, ◌==◌, ℕ, ◌+◌, ◌-◌, ◌*◌, ◌/◌, ◌<◌, Bool, true, false, not, ◌&&◌, nat_lt, if◌then◌else◌, List, [], ◌∷◌, refl, sym, ◌∙◌, ap, arith}
use Rattle.std.proofs.lemmas.Bool.Decides.{nat_tests}
use Rattle.persist_model.specs.Region.{Words}
use Rattle.lane_traits.specs.Space.{put_word}
use Rattle.lane_traits.specs.Draft.{after_writes}
use Rattle.lane_traits.specs.declared.draft.WordWrite.{WordWrite}
use Rattle.lane_traits.proofs.Writes.{put_other}
use Rattle.lane_types.specs.Heaps.{Heap, AreAlike, AreAlikeIn, has_bit, names_in, is_data, owner_word, block_address, block_of}
use Rattle.lane_types.specs.May.{AreData}
use Rattle.lane_book.proofs.Holdings.{owner_apart, is_true_left, is_true_right}
use Rattle.lawful_book.specs.LawfulBooks.{is_word_of, AreWordsOf}

-- the heap with these words
abbrev pub heap_with : Heap → Words → Heap
heap_with h u = record h { at = u }

-- the owner words are those of the heap
abbrev pub HasOwners : Heap → Words → Type 0
HasOwners h u = (b : ℕ) → u (block_address h b) ≡ h.at (block_address h b)

-- ---- owner words

pub data_of : (h : Heap) (set : ℕ) (writes : List WordWrite) → AreWordsOf set h writes → AreData h writes
data_of h set [] words = tt
data_of h set (w ∷ writes) words = (is_true_left (is_data h w.address) _ words.0, data_of h set writes words.1)

pub owners_kept : (h : Heap) (writes : List WordWrite) (u : Words) (b : ℕ) → AreData h writes → after_writes writes u (block_address h b) ≡ u (block_address h b)
owners_kept h [] u b words = refl
owners_kept h (w ∷ writes) u b words =
    owners_kept h writes (put_word w.address w.value u) b words.1 ∙
    put_other w.address w.value (block_address h b) u (owner_apart h b w.address words.0)

-- ---- a word's block

pub block_at : (start b i : ℕ) → i < 16 → (start + 16 * b + i - start) / 16 ≡ b
block_at start b i small = omega (arith, small)

pub names_next : (set s : ℕ) → names_in set (s + 1) ≡ has_bit set s
names_next set s = ap (λ (t : Bool). not t && has_bit set (s + 1 - 1)) (not_none s) ∙ ap (λ (n : ℕ). has_bit set n) (back s)
  where
    not_none : (n : ℕ) → ((n + 1) == 0) ≡ false
    not_none n = grind (arith, nat_tests)

    back : (n : ℕ) → n + 1 - 1 ≡ n
    back n = omega arith

-- the structure that owns the word's block is of the set
owner_named : (h : Heap) (set a b i s : ℕ) → is_word_of set h a ≡ true → a ≡ block_address h b + i → i < 16 → owner_word h b ≡ s + 1 → has_bit set s ≡ true
owner_named h set a b i s word is small owner =
    sym (names_next set s) ∙ ap (names_in set) (sym owner) ∙
    ap (λ (k : ℕ). names_in set (owner_word h k)) (sym (ap (λ (n : ℕ). (n - h.start) / 16) is ∙ block_at h.start b i small)) ∙
    is_true_right (nat_lt (block_of h a) h.blocks) _ (is_true_right (is_data h a) _ word)

untouched : (h : Heap) (set s b i : ℕ) (writes : List WordWrite) (u : Words) → AreWordsOf set h writes → owner_word h b ≡ s + 1 → has_bit set s ≡ false → i < 16 →
    after_writes writes u (block_address h b + i) ≡ u (block_address h b + i)
untouched h set s b i [] u words owner other small = refl
untouched h set s b i (w ∷ writes) u words owner other small =
    untouched h set s b i writes (put_word w.address w.value u) words.1 owner other small ∙
    put_other w.address w.value (block_address h b + i) u (λ e. not_both (owner_named h set w.address b i s words.0 (sym e) small owner) other)
  where
    not_both : has_bit set s ≡ true → has_bit set s ≡ false → ⊥
    not_both e f = cc

-- ---- heaps that are alike

-- the writes leave what the set doesn't own
pub leaves : (h : Heap) (set : ℕ) (u : Words) (writes : List WordWrite) (picks : ℕ → Bool) → HasOwners h u → AreWordsOf set h writes →
    ((s : ℕ) → picks s ≡ true → has_bit set s ≡ false) → AreAlikeIn picks (heap_with h u) (heap_with h (after_writes writes u))
leaves h set u writes picks has words others = record {
  owned = λ s b picked inside. (
    λ e. owners_kept h writes u b (data_of h set writes words) ∙ e,
    λ e. sym (owners_kept h writes u b (data_of h set writes words)) ∙ e,
  );
  words = λ s b i picked inside small owns. sym (untouched h set s b i writes u words (sym (has b) ∙ owns) (others s picked) small);
}

pub leaves_alike : (h : Heap) (set other : ℕ) (u : Words) (writes : List WordWrite) → HasOwners h u → AreWordsOf set h writes →
    ((s : ℕ) → has_bit other s ≡ true → has_bit set s ≡ false) → AreAlike other (heap_with h u) (heap_with h (after_writes writes u))
leaves_alike h set other u writes has words others = record { start = refl; blocks = refl; inside = leaves h set u writes (has_bit other) has words others }

pub after_at : (writes : List WordWrite) (u v : Words) (a : ℕ) → u a ≡ v a → after_writes writes u a ≡ after_writes writes v a
after_at [] u v a same = same
after_at (w ∷ writes) u v a same = after_at writes (put_word w.address w.value u) (put_word w.address w.value v) a (step (a == w.address))
  where
    step : (t : Bool) → (if t then w.value else u a) ≡ (if t then w.value else v a)
    step true = refl
    step false = same

-- the same writes leave them alike
pub follow : (h : Heap) (set : ℕ) (u v : Words) (writes : List WordWrite) → AreData h writes → AreAlike set (heap_with h u) (heap_with h v) →
    AreAlike set (heap_with h (after_writes writes u)) (heap_with h (after_writes writes v))
follow h set u v writes words alike = record {
  start = refl;
  blocks = refl;
  inside = record {
    owned = λ s b picked inside. let same = alike.inside.owned s b picked inside in (
      λ e. kept v b ∙ same.0 (sym (kept u b) ∙ e),
      λ e. kept u b ∙ same.1 (sym (kept v b) ∙ e),
    );
    words = λ s b i picked inside small owns. after_at writes u v (block_address h b + i)
        (alike.inside.words s b i picked inside small (sym (kept u b) ∙ owns));
  };
}
  where
    kept : (w : Words) (b : ℕ) → after_writes writes w (block_address h b) ≡ w (block_address h b)
    kept w b = owners_kept h writes w b words

pub alike_same : (h : Heap) (set : ℕ) (u : Words) → AreAlike set (heap_with h u) (heap_with h u)
alike_same h set u = record {
  start = refl;
  blocks = refl;
  inside = record { owned = λ s b picked inside. (λ e. e, λ e. e); words = λ s b i picked inside small owns. refl };
}

pub alike_then : (h : Heap) (set : ℕ) (u v w : Words) → AreAlike set (heap_with h u) (heap_with h v) → AreAlike set (heap_with h v) (heap_with h w) →
    AreAlike set (heap_with h u) (heap_with h w)
alike_then h set u v w first second = record {
  start = refl;
  blocks = refl;
  inside = record {
    owned = λ s b picked inside.
        let f = first.inside.owned s b picked inside in let g = second.inside.owned s b picked inside in
        (λ e. g.0 (f.0 e), λ e. f.1 (g.1 e));
    words = λ s b i picked inside small owns. first.inside.words s b i picked inside small owns ∙
        second.inside.words s b i picked inside small ((first.inside.owned s b picked inside).0 owns);
  };
}
