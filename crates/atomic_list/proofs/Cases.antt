-- Each of the three cases of a list has its chain.
use Rattle.std.proofs.Common.{◌≡◌, ◌≢◌, ◌⊎◌, inl, inr, ℕ, ◌≤◌, List, [], ◌∷◌, ◌++◌, ap, sym, subst, arith}
use Rattle.persist_model.specs.Region.{Words}
use Rattle.persist_model.specs.Shape.{Shape, IsBucketOf}
use Rattle.persist_model.specs.Chain.{HEAD, TO_APPEND, AreBuckets, IsAbsent, HasNoRepeats, Links, Chain}
use Rattle.atomic_list.specs.Rules.{IsAtRest, IsAppending, IsList, at_rest, appending, removing}
use Rattle.atomic_list.proofs.Chains.{bucket_above, Each-weaker, Each-push, HasNoRepeats-push, without-absent}

pub no_bucket_is_0 : (shape : Shape) (part : ℕ) (xs : List ℕ) → AreBuckets (IsBucketOf shape part) xs → IsAbsent 0 xs
no_bucket_is_0 shape part xs h = Each-weaker (IsBucketOf shape part) (λ x. 0 ≢ x) (λ x b. let above : 32 ≤ x = bucket_above shape part x b in omega arith) xs h

unfoldable pub Chain-at_rest : (shape : Shape) (part : ℕ) (w : Words) (xs : List ℕ) → IsAtRest shape part w xs → Chain w xs
Chain-at_rest shape part w xs h = record {
  walk = xs;
  is_walk = inl (record { to_append = h.to_append; links = h.links });
  no_repeats = h.no_repeats;
  chain_is = rw h.to_remove (sym (without-absent 0 xs (no_bucket_is_0 shape part xs h.buckets)));
}

unfoldable pub Chain-appending : (shape : Shape) (part : ℕ) (w : Words) (front : List ℕ) (node : ℕ) → IsAppending shape part w front node → Chain w (front ++ node ∷ [])
Chain-appending shape part w front node h = record {
  walk = front ++ node ∷ [];
  is_walk = inr (record {
    to_append = λ e. let above : 32 ≤ node = bucket_above shape part node h.bucket in let is : w TO_APPEND ≡ node = h.to_append in omega arith;
    front = front;
    beyond = (beyond h.links).0;
    links = (beyond h.links).1;
    ends = sym h.last_tail;
    walk_is = ap (λ n. front ++ n ∷ []) (sym h.to_append);
  });
  no_repeats = HasNoRepeats-push front node h.no_repeats h.absent;
  chain_is = rw h.to_remove (sym (without-absent 0 (front ++ node ∷ [])
      (no_bucket_is_0 shape part (front ++ node ∷ []) (Each-push (IsBucketOf shape part) front node h.buckets h.bucket))));
}
  where
    beyond : (Links w HEAD front 0 ⊎ Links w HEAD front node) → (b : ℕ) × Links w HEAD front b
    beyond (inl l) = (0, l)
    beyond (inr l) = (node, l)

pub chain_is_buckets : (shape : Shape) (part : ℕ) (w : Words) (xs : List ℕ) → IsList shape part w xs → AreBuckets (IsBucketOf shape part) xs
chain_is_buckets shape part w xs (at_rest h) = h.buckets
chain_is_buckets shape part w xs (appending front node h e) = subst (AreBuckets (IsBucketOf shape part)) (sym e) (Each-push (IsBucketOf shape part) front node h.buckets h.bucket)
chain_is_buckets shape part w xs (removing front node rest h e) = subst (AreBuckets (IsBucketOf shape part)) (sym e) h.buckets

pub chain_has_no_repeats : (shape : Shape) (part : ℕ) (w : Words) (xs : List ℕ) → IsList shape part w xs → HasNoRepeats xs
chain_has_no_repeats shape part w xs (at_rest h) = h.no_repeats
chain_has_no_repeats shape part w xs (appending front node h e) = subst HasNoRepeats (sym e) (HasNoRepeats-push front node h.no_repeats h.absent)
chain_has_no_repeats shape part w xs (removing front node rest h e) = subst HasNoRepeats (sym e) h.no_repeats
