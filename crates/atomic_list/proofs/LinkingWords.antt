-- The words of a list in which a bucket is being put behind, as the last five events of an insertion change them.
use Rattle.std.proofs.Common.{◌≡◌, ◌≢◌, ◌⊎◌, inl, inr, ℕ, zero, suc, ◌+◌, ◌≤◌, List, [], ◌∷◌, ◌++◌, refl, sym, ◌∙◌, arith, subst}
use Rattle.std.proofs.lemmas.Bool.Decides.{nat_tests}
use Rattle.persist_model.specs.declared.event.Event.{Event}
use Rattle.persist_model.specs.declared.event.Event.TheVariants.{PStore, Fence}
use Rattle.persist_model.specs.Region.{Words}
use Rattle.persist_model.specs.Progress.{Reaches}
use Rattle.persist_model.specs.Runs.{progress_at}
use Rattle.persist_model.proofs.Running.{take_nil}
use Rattle.persist_model.specs.Shape.{Shape, IsBucketOf}
use Rattle.persist_model.specs.Chain.{HEAD, IsLink, last_or, Links}
use Rattle.atomic_list.specs.Rules.{IsAtRest, IsAppending, IsList, at_rest, appending, IsListWord}
use Rattle.atomic_list.proofs.Chains.{Each-weaker, Each-push, Each-last, bucket_above, bucket_shape, Links-end, Links-last, Links-push, LinksBack-same, LinksBack-push, HasNoRepeats-push, last-push}
use Rattle.atomic_list.proofs.Preparing.{IsLinkWord, last_link, head_is_no_bucket}

-- the last five events, with the word that names the bucket given
abbrev pub linking : ℕ → ℕ → List Event
linking link node = PStore link node ∷ PStore 9 node ∷ Fence ∷ PStore 10 0 ∷ Fence ∷ []

module _ (shape : Shape) (part : ℕ) (w v : Words) (front : List ℕ) (node : ℕ) (is : IsAppending shape part w front node) where
  link : ℕ
  link = last_or HEAD front

  link_is : IsLinkWord shape part node (last_or HEAD front)
  link_is = last_link shape part node front is.bucket is.buckets is.absent

  link_word : IsListWord shape part (last_or HEAD front)
  link_word = at (last_or HEAD front) link_is.high
    where
      at : (x : ℕ) → (x ≡ 8) ⊎ IsBucketOf shape part x → IsListWord shape part x
      at x (inl e) = inl (omega arith, omega arith)
      at x (inr b) = inr (x, b, inl refl)

  abbrev At : ℕ → Type 0
  At k = Reaches (IsListWord shape part) (progress_at w (linking (last_or HEAD front) node) k) v

  abbrev Others : Type 0
  Others = (a : ℕ) → IsListWord shape part a → a ≢ 10 → a ≢ 9 → a ≢ last_or HEAD front → v a ≡ w a

  abbrev Linked : Type 0
  Linked = ((v (last_or HEAD front) ≡ w (last_or HEAD front)) ⊎ (v (last_or HEAD front) ≡ node)) × ((v 9 ≡ w 9) ⊎ (v 9 ≡ node))

  others2 : At 2 → Others
  others2 r = λ a m x y z. let h = r a m in grind arith

  others4 : At 4 → Others
  others4 r = λ a m x y z. let h = r a m in grind (arith, nat_tests)

  others5 : At 5 → Others
  others5 r = λ a m x y z. let h = r a m in grind (arith, nat_tests)

  stored2 : At 2 → (v 10 ≡ w 10) × Linked
  stored2 r = let s = link_is in (
    let h = r 10 (inl (omega arith, omega arith)) in grind arith,
    (let h = r (last_or HEAD front) link_word in grind arith, let h = r 9 (inl (omega arith, omega arith)) in grind arith),
  )

  stored4 : At 4 → ((v 10 ≡ w 10) ⊎ (v 10 ≡ 0)) × (v (last_or HEAD front) ≡ node) × (v 9 ≡ node)
  stored4 r = let s = link_is in (
    let h = r 10 (inl (omega arith, omega arith)) in grind (arith, nat_tests),
    let h = r (last_or HEAD front) link_word in grind (arith, nat_tests),
    let h = r 9 (inl (omega arith, omega arith)) in grind (arith, nat_tests),
  )

  stored5 : At 5 → (v 10 ≡ 0) × (v (last_or HEAD front) ≡ node) × (v 9 ≡ node)
  stored5 r = let s = link_is in (
    let h = r 10 (inl (omega arith, omega arith)) in grind (arith, nat_tests),
    let h = r (last_or HEAD front) link_word in grind (arith, nat_tests),
    let h = r 9 (inl (omega arith, omega arith)) in grind (arith, nat_tests),
  )

  relinked : Others → (to : ℕ) → v (last_or HEAD front) ≡ to → Links v HEAD front to
  relinked o to e = elim is.links [ inl l ↦ from 0 l | inr l ↦ from node l ]
    where
      from : (old : ℕ) → Links w HEAD front old → Links v HEAD front to
      from old l = Links-end (λ x. (x ≡ 8) ⊎ IsBucketOf shape part x) w v HEAD front old to (head_is_no_bucket shape part front is.buckets) is.no_repeats
          (λ x. elim [
            | inl h ↦ λ ne. rw h (o 8 (inl (omega arith, omega arith)) (omega arith) (omega arith) (λ same. ne (h ∙ same)))
            | inr b ↦ λ ne. let above = bucket_above shape part x b in o x (inr (x, b, inl refl)) (omega arith) (omega arith) ne
          ])
          (inl refl) (Each-weaker (IsBucketOf shape part) (λ x. (x ≡ 8) ⊎ IsBucketOf shape part x) (λ x b. inr b) front is.buckets) e l

  prev_same : Others → (b : ℕ) → IsBucketOf shape part b → v (b + 1) ≡ w (b + 1)
  prev_same o b h = let s = bucket_shape shape part b h in let l = link_is in
      o (b + 1) (inr (b, h, inr refl)) (omega arith) (omega arith) (grind arith)

  register_same : Others → (a : ℕ) → 11 ≤ a → a ≤ 12 → v a ≡ w a
  register_same o a low high = let l = link_is in o a (inl (omega arith, high)) (omega arith) (omega arith) (grind arith)

  node_next : Others → v node ≡ 0
  node_next o = let above = bucket_above shape part node is.bucket in
      o node (inr (node, is.bucket, inl refl)) (omega arith) (omega arith) (λ e. link_is.apart (sym e)) ∙ is.next

  pub appending-linking : Others → Linked → v 10 ≡ w 10 → IsAppending shape part v front node
  appending-linking o s e = record {
    to_append = e ∙ is.to_append;
    to_remove = register_same o 12 (omega arith) (omega arith) ∙ is.to_remove;
    last_tail = register_same o 11 (omega arith) (omega arith) ∙ is.last_tail;
    bucket = is.bucket;
    buckets = is.buckets;
    absent = is.absent;
    no_repeats = is.no_repeats;
    links = elim s.0 [
      | inl k ↦ elim is.links [ inl l ↦ inl (relinked o 0 (k ∙ Links-last w HEAD front 0 l)) | inr l ↦ inr (relinked o node (k ∙ Links-last w HEAD front node l)) ]
      | inr k ↦ inr (relinked o node k)
    ];
    links_back = LinksBack-same (IsBucketOf shape part) w v 0 front (prev_same o) is.buckets is.links_back;
    next = node_next o;
    prev = prev_same o node is.bucket ∙ is.prev;
    tail = elim s.1 [ inl k ↦ elim is.tail [ inl t ↦ inl (k ∙ t) | inr t ↦ inr (k ∙ t) ] | inr k ↦ inr k ];
  }

  pub at_rest-linked : Others → v 10 ≡ 0 → v (last_or HEAD front) ≡ node → v 9 ≡ node → IsAtRest shape part v (front ++ node ∷ [])
  at_rest-linked o e k t = let above = bucket_above shape part node is.bucket in record {
    to_append = e;
    to_remove = register_same o 12 (omega arith) (omega arith) ∙ is.to_remove;
    last_tail = subst (IsLink (IsBucketOf shape part)) (sym (register_same o 11 (omega arith) (omega arith) ∙ is.last_tail))
        (Each-last (IsLink (IsBucketOf shape part)) 0 front (inl refl) (Each-weaker (IsBucketOf shape part) (IsLink (IsBucketOf shape part)) (λ x b. inr b) front is.buckets));
    buckets = Each-push (IsBucketOf shape part) front node is.buckets is.bucket;
    no_repeats = HasNoRepeats-push front node is.no_repeats is.absent;
    links = Links-push v HEAD front node 0 (relinked o node k) (omega arith) (node_next o);
    links_back = LinksBack-push v 0 front node (LinksBack-same (IsBucketOf shape part) w v 0 front (prev_same o) is.buckets is.links_back) (prev_same o node is.bucket ∙ is.prev);
    tail = t ∙ sym (last-push 0 front node);
  }

  linking2 : At 2 → IsList shape part v (front ++ node ∷ [])
  linking2 r = let s = stored2 r in appending front node (appending-linking (others2 r) s.1 s.0) refl

  linking4 : At 4 → IsList shape part v (front ++ node ∷ [])
  linking4 r = let s = stored4 r in elim s.0 [
    | inl e ↦ appending front node (appending-linking (others4 r) (inr s.1, inr s.2) e) refl
    | inr e ↦ at_rest (at_rest-linked (others4 r) e s.1 s.2)
  ]

  pub linking5 : At 5 → IsAtRest shape part v (front ++ node ∷ [])
  linking5 r = let s = stored5 r in at_rest-linked (others5 r) s.0 s.1 s.2

  pub linking_at : (k : ℕ) → At k → IsList shape part v (front ++ node ∷ [])
  linking_at zero r = linking2 (λ a m. elim (r a m) [ inl e ↦ inl e | inr x ↦ elim x [ ] ])
  linking_at (suc zero) r = linking2 (λ a m. elim (r a m) [ inl e ↦ inl e | inr x ↦ elim x [ inl y ↦ inr (inl y) | inr z ↦ elim z [ ] ] ])
  linking_at (suc (suc zero)) r = linking2 r
  linking_at (suc (suc (suc zero))) r = linking4 (λ a m. elim (r a m) [ inl e ↦ inl e | inr x ↦ elim x [ ] ])
  linking_at (suc (suc (suc (suc zero)))) r = linking4 r
  linking_at (suc (suc (suc (suc (suc k))))) r = linking5' k r
    where
      linking5' : (k : ℕ) → At (suc (suc (suc (suc (suc k))))) → IsList shape part v (front ++ node ∷ [])
      linking5' k r = at_rest (linking5 (rw (take_nil {X = Event} k) at r))
