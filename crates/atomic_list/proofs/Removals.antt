-- Each image of each prefix of a removal has the list before or the one after.
use Rattle.std.proofs.Common.{◌≡◌, ◌≢◌, ◌⊎◌, inl, inr, ℕ, zero, suc, ◌≤◌, ◌==◌, false, List, [], ◌∷◌, ◌++◌, Some, refl, ap, sym, ◌∙◌, subst, arith}
use Rattle.std.specs.Prelude.{slice_get}
use Rattle.std.proofs.lemmas.Bool.Decides.{nat_tests}
use Rattle.persist_model.specs.declared.event.Event.{Event}
use Rattle.persist_model.specs.declared.event.Event.TheVariants.{PStore, Fence}
use Rattle.persist_model.specs.Region.{Words}
use Rattle.persist_model.specs.Progress.{Reaches}
use Rattle.persist_model.specs.Runs.{progress_at}
use Rattle.persist_model.proofs.Running.{Reaches-store, progress-more, take_nil}
use Rattle.persist_model.specs.Shape.{Shape, IsBucketOf}
use Rattle.persist_model.specs.Chain.{HEAD, word_behind, word_before, AreBuckets, first_or, last_or}
use Rattle.atomic_list.specs.Plans.{removal}
use Rattle.atomic_list.specs.declared.plans.Remove.{Remove}
use Rattle.atomic_list.specs.Rules.{IsAtRest, IsRemoving, IsList, at_rest, removing, IsListWord}
use Rattle.atomic_list.specs.Removal.{CanRemove, removed, IsTakenOut, RemovalLeaves}
use Rattle.atomic_list.specs.ListPlans.{IsListPlan}
use Rattle.atomic_list.proofs.OnList.{list_plan}
use Rattle.atomic_list.proofs.Chains.{Each-weaker, Each-last, word_behind-last, bucket_above, bucket_shape}
use Rattle.atomic_list.proofs.Cases.{no_bucket_is_0}
use Rattle.atomic_list.proofs.Splits.{Each-left, Each-right}
use Rattle.atomic_list.proofs.Removing.{back_word, removing-unlinking, at_rest-unlinked, at_rest-still, removing-started}

-- the last five events, with the two words that name the bucket given
abbrev pub unlinking : ℕ → ℕ → ℕ → ℕ → List Event
unlinking link back prev next = PStore link next ∷ PStore back prev ∷ Fence ∷ PStore 12 0 ∷ Fence ∷ []

-- two different words of the list, neither of them TO_REMOVE
pub record AreApart (shape : Shape) (part : ℕ) (link back : ℕ) : Type 0 where
  pub link_word : IsListWord shape part link
  pub back_word : IsListWord shape part back
  pub apart : link ≢ back
  pub link_apart : link ≢ 12
  pub back_apart : back ≢ 12

module _ (shape : Shape) (part : ℕ) (w v : Words) (link back prev next : ℕ) (is : AreApart shape part link back) where
  to_remove_word : IsListWord shape part 12
  to_remove_word = inl (omega arith, omega arith)

  abbrev At : ℕ → Type 0
  At k = Reaches (IsListWord shape part) (progress_at w (unlinking link back prev next) k) v

  abbrev Others : Type 0
  Others = (a : ℕ) → IsListWord shape part a → a ≢ 12 → a ≢ link → a ≢ back → v a ≡ w a

  others2 : At 2 → Others
  others2 r = λ a m x y z. let h = r a m in grind arith

  others4 : At 4 → Others
  others4 r = λ a m x y z. let h = r a m in grind (arith, nat_tests)

  others5 : At 5 → Others
  others5 r = λ a m x y z. let h = r a m in grind (arith, nat_tests)

  stored2 : At 2 → (v 12 ≡ w 12) × ((v link ≡ w link) ⊎ (v link ≡ next)) × ((v back ≡ w back) ⊎ (v back ≡ prev))
  stored2 r = (let h = r 12 to_remove_word in grind arith, let h = r link is.link_word in grind arith, let h = r back is.back_word in grind arith)

  stored4 : At 4 → ((v 12 ≡ w 12) ⊎ (v 12 ≡ 0)) × (v link ≡ next) × (v back ≡ prev)
  stored4 r = (let h = r 12 to_remove_word in grind (arith, nat_tests), let h = r link is.link_word in grind (arith, nat_tests), let h = r back is.back_word in grind (arith, nat_tests))

  stored5 : At 5 → (v 12 ≡ 0) × (v link ≡ next) × (v back ≡ prev)
  stored5 r = (let h = r 12 to_remove_word in grind (arith, nat_tests), let h = r link is.link_word in grind (arith, nat_tests), let h = r back is.back_word in grind (arith, nat_tests))

-- the two words are apart
pub words_apart : (shape : Shape) (part : ℕ) (front rest : List ℕ) → AreBuckets (IsBucketOf shape part) front → AreBuckets (IsBucketOf shape part) rest → AreApart shape part (last_or HEAD front) (back_word rest)
words_apart shape part front rest f b = ends (last_or HEAD front) rest
    (Each-last (λ x. (x ≡ 8) ⊎ IsBucketOf shape part x) HEAD front (inl refl) (Each-weaker (IsBucketOf shape part) (λ x. (x ≡ 8) ⊎ IsBucketOf shape part x) (λ x k. inr k) front f)) b
  where
    ends : (x : ℕ) (ys : List ℕ) → (x ≡ 8) ⊎ IsBucketOf shape part x → AreBuckets (IsBucketOf shape part) ys → AreApart shape part x (back_word ys)
    ends x [] (inl e) k = record { link_word = inl (omega arith, omega arith); back_word = inl (omega arith, omega arith); apart = omega arith; link_apart = omega arith; back_apart = omega arith }
    ends x [] (inr h) k = let s = bucket_shape shape part x h in
        record { link_word = inr (x, h, inl refl); back_word = inl (omega arith, omega arith); apart = omega arith; link_apart = omega arith; back_apart = omega arith }
    ends x (y ∷ ys) (inl e) k = let t = bucket_shape shape part y k.0 in
        record { link_word = inl (omega arith, omega arith); back_word = inr (y, k.0, inr refl); apart = omega arith; link_apart = omega arith; back_apart = omega arith }
    ends x (y ∷ ys) (inr h) k = let s = bucket_shape shape part x h in let t = bucket_shape shape part y k.0 in
        record { link_word = inr (x, h, inl refl); back_word = inr (y, k.0, inr refl); apart = omega arith; link_apart = omega arith; back_apart = omega arith }

-- From a list in which a bucket is being taken out.
module _ (shape : Shape) (part : ℕ) (w v : Words) (front : List ℕ) (node : ℕ) (rest : List ℕ) (is : IsRemoving shape part w front node rest) where
  abbrev Unlinking : ℕ → Type 0
  Unlinking k = Reaches (IsListWord shape part) (progress_at w (unlinking (last_or HEAD front) (back_word rest) (last_or 0 front) (first_or 0 rest)) k) v

  pair : AreApart shape part (last_or HEAD front) (back_word rest)
  pair = words_apart shape part front rest (Each-left (IsBucketOf shape part) front rest is.buckets) (Each-right (IsBucketOf shape part) front rest is.buckets)

  unlinking2 : Unlinking 2 → IsList shape part v (front ++ rest)
  unlinking2 r =
      let s = stored2 shape part w v (last_or HEAD front) (back_word rest) (last_or 0 front) (first_or 0 rest) pair r in
      let o = others2 shape part w v (last_or HEAD front) (back_word rest) (last_or 0 front) (first_or 0 rest) pair r in
      removing front node rest (removing-unlinking shape part w v front node rest is (record { others = o; link = s.1; back = s.2 }) (s.0 ∙ is.to_remove)) refl

  unlinking4 : Unlinking 4 → IsList shape part v (front ++ rest)
  unlinking4 r =
      let s = stored4 shape part w v (last_or HEAD front) (back_word rest) (last_or 0 front) (first_or 0 rest) pair r in
      let o = others4 shape part w v (last_or HEAD front) (back_word rest) (last_or 0 front) (first_or 0 rest) pair r in
      elim s.0 [
        | inl e ↦ removing front node rest (removing-unlinking shape part w v front node rest is (record { others = o; link = inr s.1; back = inr s.2 }) (e ∙ is.to_remove)) refl
        | inr e ↦ at_rest (at_rest-unlinked shape part w v front node rest is (record { others = o; link = inr s.1; back = inr s.2 }) e s.1 s.2)
      ]

  pub unlinking5 : Unlinking 5 → IsAtRest shape part v (front ++ rest)
  unlinking5 r =
      let s = stored5 shape part w v (last_or HEAD front) (back_word rest) (last_or 0 front) (first_or 0 rest) pair r in
      let o = others5 shape part w v (last_or HEAD front) (back_word rest) (last_or 0 front) (first_or 0 rest) pair r in
      at_rest-unlinked shape part w v front node rest is (record { others = o; link = inr s.1; back = inr s.2 }) s.0 s.1 s.2

  one_more : (k a u : ℕ) → slice_get (unlinking (last_or HEAD front) (back_word rest) (last_or 0 front) (first_or 0 rest)) k ≡ Some (PStore a u) → Unlinking k → Unlinking (suc k)
  one_more k a u e r = rw (progress-more w (unlinking (last_or HEAD front) (back_word rest) (last_or 0 front) (first_or 0 rest)) k (PStore a u) e)
      (Reaches-store (IsListWord shape part) (progress_at w (unlinking (last_or HEAD front) (back_word rest) (last_or 0 front) (first_or 0 rest)) k) a u v r)

  pub unlinking_at : (k : ℕ) → Unlinking k → IsList shape part v (front ++ rest)
  unlinking_at zero r = unlinking2 (one_more 1 _ _ refl (one_more 0 _ _ refl r))
  unlinking_at (suc zero) r = unlinking2 (one_more 1 _ _ refl r)
  unlinking_at (suc (suc zero)) r = unlinking2 r
  unlinking_at (suc (suc (suc zero))) r = unlinking4 (one_more 3 _ _ refl r)
  unlinking_at (suc (suc (suc (suc zero)))) r = unlinking4 r
  unlinking_at (suc (suc (suc (suc (suc k))))) r = at_rest (unlinking5 (rw (take_nil {X = Event} k) at r))

pub word_before-first : (shape : Shape) (part : ℕ) (rest : List ℕ) → AreBuckets (IsBucketOf shape part) rest → word_before (first_or 0 rest) ≡ back_word rest
word_before-first shape part [] b = refl
word_before-first shape part (x ∷ xs) b =
    let above : 32 ≤ x = bucket_above shape part x b.0 in
    let off : (x == 0) ≡ false = grind (arith, nat_tests) in rw off

-- From a list at rest.
module _ (shape : Shape) (part : ℕ) (w : Words) (front : List ℕ) (node : ℕ) (rest : List ℕ) (is : IsAtRest shape part w (front ++ node ∷ rest)) where
  abbrev whole : List Event
  whole = PStore 12 node ∷ Fence ∷ unlinking (last_or HEAD front) (back_word rest) (last_or 0 front) (first_or 0 rest)

  abbrev Whole : ℕ → Words → Type 0
  Whole k v = Reaches (IsListWord shape part) (progress_at w whole k) v

  start1 : (v : Words) → Whole 1 v → IsList shape part v (front ++ node ∷ rest) ⊎ IsList shape part v (front ++ rest)
  start1 v r =
      let s : (v 12 ≡ w 12) ⊎ (v 12 ≡ node) = let h = r 12 (inl (omega arith, omega arith)) in grind arith in
      let same : (a : ℕ) → IsListWord shape part a → a ≢ 12 → v a ≡ w a = λ a m ne. let h = r a m in grind arith in
      elim s [
        | inl e ↦ inl (at_rest (at_rest-still shape part w v front node rest is same (e ∙ is.to_remove)))
        | inr e ↦ inr (removing front node rest (removing-started shape part w v front node rest is same e) refl)
      ]

  marked : Words
  marked = (progress_at w whole 2).durable

  marked_is : IsRemoving shape part marked front node rest
  unfolding marked
  marked_is = removing-started shape part w marked front node rest is
      (λ a m ne. grind (arith, nat_tests)) refl

  whole_at : (v : Words) (k : ℕ) → Whole k v → IsList shape part v (front ++ node ∷ rest) ⊎ IsList shape part v (front ++ rest)
  unfolding marked
  whole_at v zero r = start1 v (Reaches-store (IsListWord shape part) (progress_at w whole 0) 12 node v r)
  whole_at v (suc zero) r = start1 v r
  whole_at v (suc (suc k)) r = inr (unlinking_at shape part marked v front node rest marked_is k r)

  whole_ends : (v : Words) → Whole 7 v → IsAtRest shape part v (front ++ rest)
  unfolding marked
  whole_ends v r = unlinking5 shape part marked v front node rest marked_is r

-- the words that a whole removal leaves, with the two words that name the bucket given
abbrev taken : Words → ℕ → ℕ → ℕ → ℕ → ℕ → Words
taken w node link back prev next = (progress_at w (PStore 12 node ∷ Fence ∷ unlinking link back prev next) 7).durable

-- the same from where it is being taken out
abbrev pub unlinked : Words → ℕ → ℕ → ℕ → ℕ → Words
unlinked w link back prev next = (progress_at w (unlinking link back prev next) 5).durable

module _ (shape : Shape) (part : ℕ) (w : Words) (node link back prev next : ℕ) (is : AreApart shape part link back) where
  taken-link : taken w node link back prev next link ≡ next
  taken-link = let ne = is.apart in let ne12 = is.link_apart in grind (arith, nat_tests)

  taken-back : taken w node link back prev next back ≡ prev
  taken-back = let ne = is.apart in let ne12 = is.back_apart in grind (arith, nat_tests)

  taken-others : (x : ℕ) → x ≢ 12 → x ≢ link → x ≢ back → taken w node link back prev next x ≡ w x
  taken-others x n1 n2 n3 = grind (arith, nat_tests)

  pub unlinked-link : unlinked w link back prev next link ≡ next
  unlinked-link = let ne = is.apart in let ne12 = is.link_apart in grind (arith, nat_tests)

  pub unlinked-back : unlinked w link back prev next back ≡ prev
  unlinked-back = let ne = is.apart in let ne12 = is.back_apart in grind (arith, nat_tests)

  pub unlinked-others : (x : ℕ) → x ≢ 12 → x ≢ link → x ≢ back → unlinked w link back prev next x ≡ w x
  unlinked-others x n1 n2 n3 = grind (arith, nat_tests)

-- the two words that the removal stores to are those that name the bucket
pub ends_apart : (shape : Shape) (part : ℕ) (front rest : List ℕ) (prev next : ℕ) → AreBuckets (IsBucketOf shape part) front → AreBuckets (IsBucketOf shape part) rest →
    prev ≡ last_or 0 front → next ≡ first_or 0 rest → AreApart shape part (word_behind prev) (word_before next)
ends_apart shape part front rest prev next f b p q =
    let link : word_behind prev ≡ last_or HEAD front = ap word_behind p ∙ word_behind-last front (no_bucket_is_0 shape part front f) in
    let back : word_before next ≡ back_word rest = ap word_before q ∙ word_before-first shape part rest b in
    subst (λ x. AreApart shape part x (word_before next)) (sym link)
    (subst (AreApart shape part (last_or HEAD front)) (sym back) (words_apart shape part front rest f b))

module _ (shape : Shape) (part : ℕ) (w : Words) (front rest : List ℕ) (r : Remove) (can : CanRemove shape part w front rest r) where
  fronts : AreBuckets (IsBucketOf shape part) front
  fronts = Each-left (IsBucketOf shape part) front (r.node ∷ rest) can.at_rest.buckets

  rests : AreBuckets (IsBucketOf shape part) rest
  rests = (Each-right (IsBucketOf shape part) front (r.node ∷ rest) can.at_rest.buckets).1

  link_is : word_behind r.prev ≡ last_or HEAD front
  link_is = ap word_behind can.prev ∙ word_behind-last front (no_bucket_is_0 shape part front fronts)

  back_is : word_before r.next ≡ back_word rest
  back_is = ap word_before can.next ∙ word_before-first shape part rest rests

  pub are_apart : AreApart shape part (word_behind r.prev) (word_before r.next)
  are_apart = ends_apart shape part front rest r.prev r.next fronts rests can.prev can.next

  -- the plan with the words that name the bucket in the list
  plan_is : removal r ≡ whole shape part w front r.node rest can.at_rest
  plan_is = λ i. PStore 12 r.node ∷ Fence ∷ unlinking (link_is i) (back_is i) (can.prev i) (can.next i)

  pub removal_images : (v : Words) (k : ℕ) → Reaches (IsListWord shape part) (removed w r k) v → IsList shape part v (front ++ r.node ∷ rest) ⊎ IsList shape part v (front ++ rest)
  removal_images v k h = whole_at shape part w front r.node rest can.at_rest v k
      (subst (λ plan. Reaches (IsListWord shape part) (progress_at w plan k) v) plan_is h)

  pub removal_after : IsAtRest shape part (removed w r 7).durable (front ++ rest)
  removal_after = subst (λ plan. IsAtRest shape part (progress_at w plan 7).durable (front ++ rest)) (sym plan_is)
      (whole_ends shape part w front r.node rest can.at_rest (progress_at w (whole shape part w front r.node rest can.at_rest) 7).durable (λ a m. inl refl))

  pub removal_words : IsTakenOut w (removed w r 7).durable r
  removal_words = record {
    to_remove = refl;
    link = taken-link shape part w r.node (word_behind r.prev) (word_before r.next) r.prev r.next are_apart;
    back = taken-back shape part w r.node (word_behind r.prev) (word_before r.next) r.prev r.next are_apart;
    others = taken-others shape part w r.node (word_behind r.prev) (word_before r.next) r.prev r.next are_apart;
  }

  pub removal_ends : RemovalLeaves shape part w front rest r (removed w r 7)
  removal_ends = record { nothing_pending = refl; at_rest = removal_after; words = removal_words }

  pub removal_is_on_list : IsListPlan shape part (removal r)
  removal_is_on_list =
      let twelve : IsListWord shape part 12 = inl (omega arith, omega arith) in
      list_plan shape part (removal r) (twelve, (tt, (are_apart.link_word, (are_apart.back_word, (tt, (twelve, (tt, tt)))))))
