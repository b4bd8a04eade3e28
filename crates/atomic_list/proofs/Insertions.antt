-- Each image of each prefix of an insertion has the list before or the one after.
use Rattle.std.proofs.Common.{◌≡◌, ◌≢◌, inl, inr, ℕ, zero, suc, ◌+◌, ◌≤◌, List, [], ◌∷◌, ◌++◌, Some, refl, ap, sym, ◌∙◌, arith, subst}
use Rattle.std.specs.Prelude.{slice_get}
use Rattle.std.proofs.lemmas.Bool.Decides.{nat_tests}
use Rattle.persist_model.specs.declared.event.Event.{Event}
use Rattle.persist_model.specs.declared.event.Event.TheVariants.{PStore}
use Rattle.persist_model.specs.Region.{Words}
use Rattle.persist_model.specs.Progress.{Reaches}
use Rattle.persist_model.specs.Runs.{progress_at}
use Rattle.persist_model.specs.Shape.{Shape, IsBucketOf}
use Rattle.persist_model.specs.Chain.{HEAD, IsLink, IsAbsent, last_or, word_behind}
use Rattle.persist_model.proofs.Running.{Reaches-store, progress-more}
use Rattle.atomic_list.specs.declared.plans.Insert.{Insert}
use Rattle.atomic_list.specs.Plans.{insertion}
use Rattle.atomic_list.specs.Rules.{IsAtRest, IsAppending, at_rest, appending, IsListWord}
use Rattle.atomic_list.specs.Insertion.{CanInsert, inserted, IsBeforeOrAfter, IsInserted, InsertionLeaves}
use Rattle.atomic_list.specs.ListPlans.{IsListPlan}
use Rattle.atomic_list.proofs.Chains.{bucket_shape, word_behind-last}
use Rattle.atomic_list.proofs.Cases.{no_bucket_is_0}
use Rattle.atomic_list.proofs.Preparing.{IsLinkWord, last_link, last_is_link, register, next_word, prev_word, link_word, preparing, prepared3, prepared4, prepared5, prepared6, at_rest-prepared, appending-prepared}
use Rattle.atomic_list.proofs.LinkingWords.{linking, linking_at, linking5}
use Rattle.atomic_list.proofs.OnList.{list_plan}

-- the insertion's events, with the word that names the bucket given
abbrev pub whole : ℕ → ℕ → ℕ → List Event
whole node tail link = preparing node tail (linking link node)

-- what an image may reach after the first k of them
abbrev ReachesAt : Shape → ℕ → Words → ℕ → List ℕ → ℕ → Words → Type 0
ReachesAt shape part w node xs k v = Reaches (IsListWord shape part) (progress_at w (whole node (last_or 0 xs) (last_or HEAD xs)) k) v

module _ (shape : Shape) (part : ℕ) (w : Words) (xs : List ℕ) (node : ℕ) (rest : IsAtRest shape part w xs) (bucket : IsBucketOf shape part node) (absent : IsAbsent node xs) where
  at3 : (v : Words) → ReachesAt shape part w node xs 3 v → IsAtRest shape part v xs
  at3 v r =
      let s = prepared3 shape part w v node (last_or 0 xs) (linking (last_or HEAD xs) node) bucket r in
      at_rest-prepared shape part w v xs node rest bucket absent s.0 (s.1 ∙ rest.to_append) (elim s.2 [
        | inl e ↦ subst (IsLink (IsBucketOf shape part)) (sym e) rest.last_tail
        | inr e ↦ subst (IsLink (IsBucketOf shape part)) (sym e) (last_is_link shape part xs rest.buckets)
      ])

  at4 : (v : Words) → ReachesAt shape part w node xs 4 v → IsAtRest shape part v xs
  at4 v r =
      let s = prepared4 shape part w v node (last_or 0 xs) (linking (last_or HEAD xs) node) bucket r in
      at_rest-prepared shape part w v xs node rest bucket absent s.0 (s.1 ∙ rest.to_append) (subst (IsLink (IsBucketOf shape part)) (sym s.2) (last_is_link shape part xs rest.buckets))

  at5 : (v : Words) → ReachesAt shape part w node xs 5 v → IsBeforeOrAfter shape part v xs node
  at5 v r =
      let s = prepared5 shape part w v node (last_or 0 xs) (linking (last_or HEAD xs) node) bucket r in
      elim s.1 [
        | inl e ↦ inl (at_rest (at_rest-prepared shape part w v xs node rest bucket absent s.0 (e ∙ rest.to_append)
            (subst (IsLink (IsBucketOf shape part)) (sym s.2.0) (last_is_link shape part xs rest.buckets))))
        | inr e ↦ inr (appending xs node (appending-prepared shape part w v xs node rest bucket absent s.0 e s.2.0 s.2.1 s.2.2) refl)
      ]

  -- the words once the bucket is being put behind
  joined : Words
  joined = (progress_at w (whole node (last_or 0 xs) (last_or HEAD xs)) 6).durable

  joined_is : IsAppending shape part joined xs node
  unfolding joined
  joined_is =
      let s = prepared6 shape part w joined node (last_or 0 xs) (linking (last_or HEAD xs) node) bucket (λ a m. inl refl) in
      appending-prepared shape part w joined xs node rest bucket absent s.0 s.1 s.2.0 s.2.1 s.2.2

  one_more : (v : Words) (k a u : ℕ) → slice_get (whole node (last_or 0 xs) (last_or HEAD xs)) k ≡ Some (PStore a u) →
      ReachesAt shape part w node xs k v → ReachesAt shape part w node xs (suc k) v
  one_more v k a u e r = rw (progress-more w (whole node (last_or 0 xs) (last_or HEAD xs)) k (PStore a u) e)
      (Reaches-store (IsListWord shape part) (progress_at w (whole node (last_or 0 xs) (last_or HEAD xs)) k) a u v r)

  rest_at : (v : Words) (k : ℕ) → k ≤ 4 → ReachesAt shape part w node xs k v → IsAtRest shape part v xs
  rest_at v zero few r = at3 v (one_more v 2 _ _ refl (one_more v 1 _ _ refl (one_more v 0 _ _ refl r)))
  rest_at v (suc zero) few r = at3 v (one_more v 2 _ _ refl (one_more v 1 _ _ refl r))
  rest_at v (suc (suc zero)) few r = at3 v (one_more v 2 _ _ refl r)
  rest_at v (suc (suc (suc zero))) few r = at3 v r
  rest_at v (suc (suc (suc (suc zero)))) few r = at4 v r
  rest_at v (suc (suc (suc (suc (suc k))))) few r = absurd (omega arith)

  image_at : (v : Words) (k : ℕ) → ReachesAt shape part w node xs k v → IsBeforeOrAfter shape part v xs node
  unfolding joined
  image_at v zero r = inl (at_rest (rest_at v 0 (omega arith) r))
  image_at v (suc zero) r = inl (at_rest (rest_at v 1 (omega arith) r))
  image_at v (suc (suc zero)) r = inl (at_rest (rest_at v 2 (omega arith) r))
  image_at v (suc (suc (suc zero))) r = inl (at_rest (rest_at v 3 (omega arith) r))
  image_at v (suc (suc (suc (suc zero)))) r = inl (at_rest (rest_at v 4 (omega arith) r))
  image_at v (suc (suc (suc (suc (suc zero))))) r = at5 v r
  image_at v (suc (suc (suc (suc (suc (suc k)))))) r = inr (linking_at shape part joined v xs node joined_is k r)

  rest_after : (v : Words) → ReachesAt shape part w node xs 11 v → IsAtRest shape part v (xs ++ node ∷ [])
  unfolding joined
  rest_after v r = linking5 shape part joined v xs node joined_is r

-- the words that a whole insertion leaves, with the word that names the bucket given
abbrev pub left : Words → ℕ → ℕ → ℕ → Words
left w node tail link = (progress_at w (whole node tail link) 11).durable

module _ (shape : Shape) (part : ℕ) (w : Words) (node tail link : ℕ) (bucket : IsBucketOf shape part node) (is : IsLinkWord shape part node link) where
  left-next : left w node tail link node ≡ 0
  left-next = let s = bucket_shape shape part node bucket in grind (arith, nat_tests)

  left-prev : left w node tail link (node + 1) ≡ tail
  left-prev = let s = bucket_shape shape part node bucket in grind (arith, nat_tests)

  left-link : left w node tail link link ≡ node
  left-link = let s = bucket_shape shape part node bucket in grind (arith, nat_tests)

  left-last_tail : left w node tail link 11 ≡ tail
  left-last_tail = let s = bucket_shape shape part node bucket in grind (arith, nat_tests)

  left-tail : left w node tail link 9 ≡ node
  left-tail = let s = bucket_shape shape part node bucket in grind (arith, nat_tests)

  left-others : (x : ℕ) → x ≢ node → x ≢ node + 1 → x ≢ 11 → x ≢ 10 → x ≢ link → x ≢ 9 → left w node tail link x ≡ w x
  left-others x n1 n2 n3 n4 n5 n6 = grind (arith, nat_tests)

module _ (shape : Shape) (part : ℕ) (w : Words) (xs : List ℕ) (a : Insert) (can : CanInsert shape part w xs a) where
  link_is : word_behind a.tail ≡ last_or HEAD xs
  link_is = ap word_behind can.tail ∙ word_behind-last xs (no_bucket_is_0 shape part xs can.at_rest.buckets)

  pub a_link : IsLinkWord shape part a.node (word_behind a.tail)
  a_link = subst (IsLinkWord shape part a.node) (sym link_is) (last_link shape part a.node xs can.bucket can.at_rest.buckets can.absent)

  -- the plan with the chain's own last bucket
  plan_is : insertion a ≡ whole a.node (last_or 0 xs) (last_or HEAD xs)
  plan_is = (λ i. whole a.node (can.tail i) (link_is i))

  pub insertion_images : (v : Words) (k : ℕ) → Reaches (IsListWord shape part) (inserted w a k) v → IsBeforeOrAfter shape part v xs a.node
  insertion_images v k r = image_at shape part w xs a.node can.at_rest can.bucket can.absent v k
      (subst (λ plan. Reaches (IsListWord shape part) (progress_at w plan k) v) plan_is r)

  pub insertion_before : (v : Words) (k : ℕ) → k ≤ 4 → Reaches (IsListWord shape part) (inserted w a k) v → IsAtRest shape part v xs
  insertion_before v k few r = rest_at shape part w xs a.node can.at_rest can.bucket can.absent v k few
      (subst (λ plan. Reaches (IsListWord shape part) (progress_at w plan k) v) plan_is r)

  pub insertion_after : IsAtRest shape part (inserted w a 11).durable (xs ++ a.node ∷ [])
  insertion_after = subst (λ plan. IsAtRest shape part (progress_at w plan 11).durable (xs ++ a.node ∷ [])) (sym plan_is)
      (rest_after shape part w xs a.node can.at_rest can.bucket can.absent (progress_at w (whole a.node (last_or 0 xs) (last_or HEAD xs)) 11).durable (λ b m. inl refl))

  pub insertion_words : IsInserted w (inserted w a 11).durable a
  insertion_words = record {
    next = left-next shape part w a.node a.tail (word_behind a.tail) can.bucket a_link;
    prev = left-prev shape part w a.node a.tail (word_behind a.tail) can.bucket a_link;
    last_tail = left-last_tail shape part w a.node a.tail (word_behind a.tail) can.bucket a_link;
    to_append = refl;
    link = left-link shape part w a.node a.tail (word_behind a.tail) can.bucket a_link;
    tail = left-tail shape part w a.node a.tail (word_behind a.tail) can.bucket a_link;
    others = left-others shape part w a.node a.tail (word_behind a.tail) can.bucket a_link;
  }

  pub insertion_ends : InsertionLeaves shape part w xs a (inserted w a 11)
  insertion_ends = record { nothing_pending = refl; at_rest = insertion_after; words = insertion_words }

  pub insertion_is_on_list : IsListPlan shape part (insertion a)
  insertion_is_on_list =
      let five = register shape part in
      let link = link_word shape part (word_behind a.tail) a_link.high in
      list_plan shape part (insertion a) (
        next_word shape part a.node can.bucket,
        (
          prev_word shape part a.node can.bucket,
          (
            five 11 (omega arith) (omega arith),
            (
              tt,
              (
                five 10 (omega arith) (omega arith),
                (tt, (link, (five 9 (omega arith) (omega arith), (tt, (five 10 (omega arith) (omega arith), (tt, tt)))))),
              ),
            ),
          ),
        ),
      )
