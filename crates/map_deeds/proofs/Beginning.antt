-- The structures of a fresh heap are empty maps.
use Rattle.std.proofs.Common.{◌≡◌, ℕ, ◌+◌, ◌*◌, ◌<◌, ◌≤◌, Bool, true, false, if◌then◌else◌, nat_lt, List, [], length, get_or, ⊎_elim, refl, sym, ◌∙◌, subst, arith, lt-ltb, ltb-true}
use Rattle.std.proofs.lemmas.Bool.{cases_lt}
use Rattle.std.proofs.lemmas.List.{length-map, get_or_past}
use Rattle.std.proofs.lemmas.List.FromFn.{length-range_with_len}
use Rattle.std.specs.List.{range_with_len}
use Rattle.persist_model.specs.Region.{Words}
use Rattle.persist_model.specs.Shape.{Shape, heap, words_of_shape}
use Rattle.lane_types.specs.Heaps.{Heap}
use Rattle.region_layout.specs.declared.layout.Kind.{Kind}
use Rattle.region_layout.specs.Fresh.{fresh_word, fresh_words}
use Rattle.region_layout.specs.HeapBlocks.{OwnsAlike}
use Rattle.region_layout.specs.Contents.{IsMapOf}
use Rattle.region_layout.proofs.EmptyMaps.{fresh_maps}
use Rattle.map_deeds.specs.Meanings.{words_of, kind_at}
use Rattle.map_deeds.specs.Depending.{by_blocks}
use Rattle.map_deeds.specs.FreshMaps.{FreshHeapsAreEmpty}

abbrev fresh : Shape → List Kind → Words
fresh shape kinds a = get_or (fresh_words shape kinds) a 0

fresh_length : (shape : Shape) (kinds : List Kind) → length (fresh_words shape kinds) ≡ words_of_shape shape
unfolding fresh_words
fresh_length shape kinds = length-map (range_with_len 0 (words_of_shape shape)) (fresh_word shape kinds) ∙ length-range_with_len 0 (words_of_shape shape)

owned_within : (shape : Shape) (kinds : List Kind) (a s : ℕ) → fresh shape kinds a ≡ s + 1 → a < words_of_shape shape
owned_within shape kinds a s e = ⊎_elim
    (λ (low : a < words_of_shape shape). low)
    (λ (high : words_of_shape shape ≤ a).
    let none : fresh shape kinds a ≡ 0 = get_or_past (fresh_words shape kinds) a 0 (subst (λ n. n ≤ a) (sym (fresh_length shape kinds)) high) in
    absurd (omega (arith, none, e)))
    (cases_lt a (words_of_shape shape))

in_cut : (t : Bool) (x : ℕ) → t ≡ true → (if t then x else 0) ≡ x
in_cut true x e = refl
in_cut false x e = absurd cc

out_of_cut : (t : Bool) (x v : ℕ) → (if t then x else 0) ≡ v + 1 → (t ≡ true) × (x ≡ v + 1)
out_of_cut true x v e = (refl, e)
out_of_cut false x v e = absurd (omega (arith, e))

module _ (shape : Shape) (kinds : List Kind) (at : Words) (words_are : (a : ℕ) → heap shape ≤ a → a < words_of_shape shape → at a ≡ fresh shape kinds a) where
  abbrev placed : Heap
  placed = record { start = heap shape; blocks = shape.blocks; at = at }

  seen : (a : ℕ) → heap shape ≤ a → a < words_of_shape shape → words_of placed a ≡ fresh shape kinds a
  seen a high low = in_cut (nat_lt a (words_of_shape shape)) (at a) (lt-ltb a (words_of_shape shape) low) ∙ words_are a high low

  owns_alike : (s : ℕ) → OwnsAlike (heap shape) s (fresh shape kinds) (words_of placed)
  owns_alike s = record {
    owned = λ b own. seen b (omega (arith, own.0.place)) (owned_within shape kinds b s own.1) ∙ own.1;
    owned_back = λ b own.
        let v = out_of_cut (nat_lt b (words_of_shape shape)) (at b) s own.1 in
        sym (words_are b (omega (arith, own.0.place)) (ltb-true b (words_of_shape shape) v.0)) ∙ v.1;
    words = λ b i own positive small.
        seen (b + i) (omega (arith, own.0.place)) (block_within b i own.0.number own.0.place (owned_within shape kinds b s own.1) small);
  }
    where
      block_within : (b i n : ℕ) → b ≡ heap shape + 16 * n → b < words_of_shape shape → i < 16 → b + i < words_of_shape shape
      block_within b i n place low small = omega (arith, place, low, small)

  placed_map : (kind : Kind) (s : ℕ) → IsMapOf kind (heap shape) (fresh shape kinds) s [] → IsMapOf kind placed.start (words_of placed) s []
  placed_map kind s empty = by_blocks kind (heap shape) s (fresh shape kinds) (words_of placed) [] (owns_alike s) empty

pub fresh_heaps_are_empty : FreshHeapsAreEmpty
fresh_heaps_are_empty shape kinds h allowed count is s kind =
    let low : s < shape.structures = omega (arith, ltb-true s (length kinds) kind, count) in
    subst (λ g. IsMapOf (kind_at kinds s) g.start (words_of g) s [])
    {x = record { start = heap shape; blocks = shape.blocks; at = h.at }} {y = h}
    (λ i. record { start = sym is.start i; blocks = sym is.blocks i; at = h.at })
    (placed_map shape kinds h.at is.words (kind_at kinds s) s (fresh_maps shape kinds allowed count (kind_at kinds s) s low))
