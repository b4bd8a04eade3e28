-- The header is the same in an image, so the image has the region's shape.
use Rattle.std.proofs.Common.{◌≡◌, inl, inr, ℕ, ◌+◌, ◌<◌, ◌==◌, if◌then◌else◌, List, sym, ap, ◌∙◌, subst, arith}
use Rattle.persist_model.specs.Region.{Words}
use Rattle.persist_model.specs.Standing.{Stands}
use Rattle.persist_model.specs.Shape.{Shape, SECOND_MAGIC, shape_of, words_of_shape, IsHeapWord, heap_words, IsMagic, IsPolicy, IsCellCount, IsBucketCount, IsBlockCount, IsStructureCount, IsPartitionCount, IsKind, IsShape}
use Rattle.persist_model.specs.State.{State, IsSoundState}
use Rattle.persist_model.specs.Sound.{HasState}
use Rattle.log_laws.proofs.Views.{list_words_cases}
use Rattle.bucket_log.specs.Words.{IsPartWord}
use Rattle.bucket_log.proofs.Partitions.{bucket_word_above}
use Rattle.history_laws.specs.Histories.{Entry, value_behind, fold}
use Rattle.history_laws.specs.Stands.{kept_of, StandsFor, IsHeader}
use Rattle.history_laws.proofs.Folding.{value_append}

pub header_is_none's : (shape : Shape) (p a : ℕ) → p < 3 → IsHeader a → IsPartWord shape p a → ⊥
header_is_none's shape p a lt header (inl m) = let place = list_words_cases p lt in grind (arith, place, header, m)
header_is_none's shape p a lt header (inr m) = let above = bucket_word_above shape p a m in elim header [ inl k ↦ omega (arith, k, above) | inr k ↦ (let high = k.1 in omega (arith, high, above)) ]

pub header_below : (a : ℕ) → IsHeader a → a < 32
header_below a (inl low) = omega (arith, low)
header_below a (inr low) = let high = low.1 in omega (arith, high)

module _ (size : ℕ) (base i : Words) (is : IsShape size base) (same : (a : ℕ) → IsHeader a → i a ≡ base a) where
  e0 : i 0 ≡ base 0
  e0 = same 0 (inl (omega arith))

  pub same_shape : shape_of i ≡ shape_of base
  same_shape = λ j. record {
    policy = same 1 (inl (omega arith)) j;
    cells = same 2 (inl (omega arith)) j;
    buckets = same 3 (inl (omega arith)) j;
    blocks = same 4 (inl (omega arith)) j;
    structures = same 5 (inl (omega arith)) j;
    format = if e0 j == SECOND_MAGIC then 2 else 1;
    partitions = if e0 j == SECOND_MAGIC then same 6 (inl (omega arith)) j else 1;
  }

  pub is_shape : IsShape size i
  is_shape = record {
    enough = is.enough;
    magic = subst IsMagic (sym e0) is.magic;
    policy = subst IsPolicy (sym (same 1 (inl (omega arith)))) is.policy;
    cells = subst IsCellCount (sym (same 2 (inl (omega arith)))) is.cells;
    buckets = subst IsBucketCount (sym (same 3 (inl (omega arith)))) is.buckets;
    blocks = subst IsBlockCount (sym (same 4 (inl (omega arith)))) is.blocks;
    structures = subst IsStructureCount (sym (same 5 (inl (omega arith)))) is.structures;
    partitions = λ two. subst (λ n. IsPartitionCount n (i 6)) (sym (same 3 (inl (omega arith)))) (subst (IsPartitionCount (base 3)) (sym (same 6 (inl (omega arith)))) (is.partitions (sym e0 ∙ two)));
    kinds = λ two k lt. (
        let count = same 5 (inl (omega arith)) in
        let few = is.structures.1 in
        subst IsKind (sym (same (13 + k) (inr (omega arith, omega (arith, lt, count, few))))) (is.kinds (sym e0 ∙ two) k (omega (arith, lt, count))));
    long = is.long ∙ ap words_of_shape (sym same_shape);
  }

  -- a state of the image with such standing words is what the image stands for
  pub stands_for : (start : Words) (history flight : List Entry) (x : State) → HasState (shape_of base) i x → IsSoundState (shape_of base) x →
      ((a : ℕ) → IsHeapWord (shape_of base) a → Stands (base 1) x.log (heap_words (shape_of base) i) a (value_behind (kept_of x.log flight) a (fold start history a))) →
      StandsFor size start history flight i
  stands_for start history flight x has sound standing = record {
    shape = is_shape;
    state = x;
    has = subst (λ z. HasState z i x) (sym same_shape) has;
    sound = subst (λ z. IsSoundState z x) (sym same_shape) sound;
    standing = λ a m. subst (λ u. Stands (i 1) x.log x.words a u) (sym (value_append history (kept_of x.log flight) a (start a)))
        (subst (λ p. Stands p x.log x.words a (value_behind (kept_of x.log flight) a (fold start history a))) (sym (same 1 (inl (omega arith))))
        (subst (λ ws. Stands (base 1) x.log ws a (value_behind (kept_of x.log flight) a (fold start history a))) (sym has.words)
        (standing a (subst (λ z. IsHeapWord z a) same_shape m))));
  }
