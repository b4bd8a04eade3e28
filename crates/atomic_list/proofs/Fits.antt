-- What the words of a sound list hold is in the region.
use Rattle.std.proofs.Common.{◌≡◌, ◌≢◌, inl, inr, ℕ, ◌+◌, ◌<◌, ◌≤◌, List, [], ◌∷◌, refl, sym, arith, subst}
use Rattle.persist_model.specs.Region.{Words}
use Rattle.persist_model.specs.Shape.{Shape, heap, IsBucketOf}
use Rattle.persist_model.specs.Chain.{IsLink, AreBuckets, first_or, last_or}
use Rattle.atomic_list.specs.Rules.{IsList, at_rest, appending, removing, IsListWord}
use Rattle.atomic_list.proofs.Chains.{Each-weaker, Each-last}
use Rattle.atomic_list.proofs.Splits.{Each-left, Each-right}
use Rattle.atomic_list.proofs.Removing.{first_of_links}
use Rattle.atomic_list.proofs.Parts.{bucket_fits, link_fits}

last_is_link : (shape : Shape) (part : ℕ) (xs : List ℕ) → AreBuckets (IsBucketOf shape part) xs → IsLink (IsBucketOf shape part) (last_or 0 xs)
last_is_link shape part xs h = Each-last (IsLink (IsBucketOf shape part)) 0 xs (inl refl) (Each-weaker (IsBucketOf shape part) (IsLink (IsBucketOf shape part)) (λ x b. inr b) xs h)

first_is_link : (shape : Shape) (part : ℕ) (xs : List ℕ) → AreBuckets (IsBucketOf shape part) xs → IsLink (IsBucketOf shape part) (first_or 0 xs)
first_is_link shape part [] h = inl refl
first_is_link shape part (x ∷ xs) h = inr h.0

-- the recovery words and LAST_TAIL hold links, and so do those of a bucket that is being taken out
pub record AskedLinks (shape : Shape) (part : ℕ) (w : Words) : Type 0 where
  pub to_append : IsLink (IsBucketOf shape part) (w 10)
  pub last_tail : IsLink (IsBucketOf shape part) (w 11)
  pub to_remove : IsLink (IsBucketOf shape part) (w 12)
  pub next : w 10 ≡ 0 → w 12 ≢ 0 → IsLink (IsBucketOf shape part) (w (w 12))
  pub prev : w 10 ≡ 0 → w 12 ≢ 0 → IsLink (IsBucketOf shape part) (w (w 12 + 1))

pub asked_links : (shape : Shape) (part : ℕ) (w : Words) (xs : List ℕ) → IsList shape part w xs → AskedLinks shape part w
asked_links shape part w xs (at_rest h) = record {
  to_append = inl h.to_append;
  last_tail = h.last_tail;
  to_remove = inl h.to_remove;
  next = λ _ ne. absurd (ne h.to_remove);
  prev = λ _ ne. absurd (ne h.to_remove);
}
asked_links shape part w xs (appending front node h e) = record {
  to_append = inr (subst (IsBucketOf shape part) (sym h.to_append) h.bucket);
  last_tail = subst (IsLink (IsBucketOf shape part)) (sym h.last_tail) (last_is_link shape part front h.buckets);
  to_remove = inl h.to_remove;
  next = λ _ ne. absurd (ne h.to_remove);
  prev = λ _ ne. absurd (ne h.to_remove);
}
asked_links shape part w xs (removing front node rest h e) = record {
  to_append = inl h.to_append;
  last_tail = h.last_tail;
  to_remove = inr (subst (IsBucketOf shape part) (sym h.to_remove) h.bucket);
  next = λ _ _. subst (λ n. IsLink (IsBucketOf shape part) (w n)) (sym h.to_remove) (subst (IsLink (IsBucketOf shape part)) (sym (first_of_links w node rest 0 h.next))
      (first_is_link shape part rest (Each-right (IsBucketOf shape part) front rest h.buckets)));
  prev = λ _ _. subst (λ n. IsLink (IsBucketOf shape part) (w (n + 1))) (sym h.to_remove) (subst (IsLink (IsBucketOf shape part)) (sym h.prev)
      (last_is_link shape part front (Each-left (IsBucketOf shape part) front rest h.buckets)));
}

-- the same as numbers
pub record AskedFit (limit : ℕ) (w : Words) : Type 0 where
  pub to_append : w 10 + 8 ≤ limit
  pub last_tail : w 11 + 8 ≤ limit
  pub to_remove : w 12 + 8 ≤ limit
  pub next : w 10 ≡ 0 → w 12 ≢ 0 → w (w 12) + 8 ≤ limit
  pub prev : w 10 ≡ 0 → w 12 ≢ 0 → w (w 12 + 1) + 8 ≤ limit

pub asked_fit : (shape : Shape) (part : ℕ) (w : Words) (xs : List ℕ) → part < shape.partitions → IsList shape part w xs → AskedFit (heap shape) w
asked_fit shape part w xs below is = let k = asked_links shape part w xs is in record {
  to_append = link_fits shape part (w 10) below k.to_append;
  last_tail = link_fits shape part (w 11) below k.last_tail;
  to_remove = link_fits shape part (w 12) below k.to_remove;
  next = λ a b. link_fits shape part (w (w 12)) below (k.next a b);
  prev = λ a b. link_fits shape part (w (w 12 + 1)) below (k.prev a b);
}

-- the words of a list stand before the heap
pub list_words_fit : (shape : Shape) (part a : ℕ) → part < shape.partitions → IsListWord shape part a → a < heap shape
list_words_fit shape part a below (inl register) = let low = register.1 in omega arith
list_words_fit shape part a below (inr word) =
    let fit = bucket_fits shape part word.0 below word.1 in
    elim word.2 [ inl e ↦ omega arith | inr e ↦ omega arith ]
