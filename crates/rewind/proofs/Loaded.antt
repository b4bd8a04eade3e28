-- The words of a fresh region, and what its images have.
use Rattle.std.proofs.Common.{◌≡◌, ◌≢◌, ℕ, ◌+◌, ◌-◌, ◌/◌, ◌%◌, ◌<◌, ◌≤◌, List, [], ◌∷◌, length, refl, sym, ◌∙◌, ap, subst, arith, ⊎_elim, if◌then◌else◌, ◌==◌, ◌&&◌, Bool, true, false, nat_lt, slice_index}
use Rattle.std.proofs.lemmas.Bool.{le-ltb}
use Rattle.std.proofs.lemmas.Bool.Decides.{eqb_tells}
use Rattle.std.proofs.lemmas.List.FromFn.{length-map-range_with_len, get_or-map-range_with_len}
use Rattle.persist_model.specs.declared.event.Candidate.{Candidate}
use Rattle.persist_model.specs.Region.{Region, candidate, loaded, IsCandidate}
use Rattle.persist_model.specs.Shape.{Shape, heap, words_of_shape}
use Rattle.region_layout.specs.declared.layout.Kind.{Kind}
use Rattle.region_layout.specs.Fresh.{fresh_word, fresh_words, root_word, header_word}
use Rattle.rewind.specs.History.{Contents, empty}
use Rattle.rewind.specs.Events.{script_shape, root_of, data_word, IsAtRest, AreCells}

pub fresh_long : (shape : Shape) (kinds : List Kind) → length (fresh_words shape kinds) ≡ words_of_shape shape
unfolding fresh_words
fresh_long shape kinds = length-map-range_with_len (fresh_word shape kinds) 0 (words_of_shape shape)

fresh_at : (shape : Shape) (kinds : List Kind) (a : ℕ) → a < words_of_shape shape → slice_index (fresh_words shape kinds) a ≡ fresh_word shape kinds a
unfolding fresh_words
fresh_at shape kinds a within = get_or-map-range_with_len (fresh_word shape kinds) 0 (words_of_shape shape) a a 0 within (omega arith)

same_zero : (b : Bool) → ◌≡◌ {A = ℕ} (if b then 0 else 0) 0
same_zero true = refl
same_zero false = refl

no_data : (shape : Shape) (i : ℕ) → 0 < i → i < 16 → root_word shape i ≡ 0
no_data shape i above below =
    ap (λ b. if b && nat_lt (i / 16) shape.structures then i / 16 + 1 else 0) (not_root (omega arith))
  where
    not_root : i % 16 ≢ 0 → (i % 16 == 0) ≡ false
    not_root other = ⊎_elim (λ same. absurd (other same.1)) (λ differs. differs.0) (eqb_tells (i % 16) 0)

fresh_data : (shape : Shape) (kinds : List Kind) (i : ℕ) → 32 ≤ heap shape → 0 < i → i < 16 → fresh_word shape kinds (heap shape + i) ≡ 0
fresh_data shape kinds i behind above below =
    let a : ℕ = heap shape + i in
    ap (λ b. if b then header_word shape kinds (heap shape + i) else (if nat_lt (heap shape + i) (heap shape) then 0 else root_word shape (heap shape + i - heap shape))) (le-ltb (heap shape + i) 32 (omega arith))
    ∙ ap (λ b. if b then 0 else root_word shape (heap shape + i - heap shape)) (le-ltb (heap shape + i) (heap shape) (omega arith))
    ∙ ap (root_word shape) (omega arith)
    ∙ no_data shape i above below

-- a fresh region has an empty map
pub loaded_rests : (buckets blocks : ℕ) (kinds : List Kind) (words : List ℕ) (region : Region) → 16 ≤ blocks → region ≡ loaded words
    → words ≡ fresh_words (script_shape buckets blocks) kinds → IsAtRest (root_of buckets blocks) empty region
loaded_rests buckets blocks kinds words region enough is_loaded is_fresh = λ i above below.
    let shape : Shape = script_shape buckets blocks in
    let a : ℕ = heap (script_shape buckets blocks) + i in
    let value : slice_index words (heap (script_shape buckets blocks) + i) ≡ data_word empty i =
    ap (λ (ws : List ℕ). slice_index ws (heap (script_shape buckets blocks) + i)) is_fresh
    ∙ fresh_at (script_shape buckets blocks) kinds (heap (script_shape buckets blocks) + i) (omega arith)
    ∙ fresh_data (script_shape buckets blocks) kinds i (omega arith) above below
    ∙ sym (same_zero (nat_lt i 4)) in
    ap (λ (r : Region). r.at (heap (script_shape buckets blocks) + i)) is_loaded ∙ ap (λ (v : ℕ). candidate v 0 ∷ []) value

only_candidate : (u v : ℕ) (cs : List Candidate) → cs ≡ candidate u 0 ∷ [] → IsCandidate cs v → v ≡ u
only_candidate u v cs one has = ⊎_elim (λ same. sym same) (λ none. absurd none) (subst (λ (c : List Candidate). IsCandidate c v) one has)

-- words with one candidate stand in each image
pub rests_are_cells : (root : ℕ) (m : Contents) (region : Region) → root + 16 ≤ region.size → IsAtRest root m region → AreCells root m region
rests_are_cells root m region inside rest = λ image is i above below.
    only_candidate (data_word m i) (slice_index image (root + i)) (region.at (root + i)) (rest i above below) (is.each (root + i) (omega arith))
