-- The words of a list in which a bucket is being taken out, as the last five events of a removal change them.
use Rattle.std.proofs.Common.{◌≡◌, ◌≢◌, ◌⊎◌, inl, inr, ℕ, ◌+◌, ◌%◌, ◌≤◌, List, [], ◌∷◌, ◌++◌, refl, sym, ◌∙◌, arith, subst}
use Rattle.persist_model.specs.Region.{Words}
use Rattle.persist_model.specs.Shape.{Shape, IsBucketOf}
use Rattle.persist_model.specs.Chain.{HEAD, Each, IsLink, AreBuckets, IsAbsent, HasNoRepeats, first_or, last_or, Links, LinksBack, Chain}
use Rattle.atomic_list.specs.Rules.{IsAtRest, IsRemoving, IsListWord}
use Rattle.atomic_list.proofs.Chains.{bucket_above, bucket_shape, Each-weaker, Each-both, Each-last, Links-same, Links-end, Links-last, LinksBack-same, without-absent}
use Rattle.atomic_list.proofs.Cases.{no_bucket_is_0}
use Rattle.atomic_list.proofs.Splits.{Each-left, Each-right, Each-join, HasNoRepeats-across, HasNoRepeats-across_left, HasNoRepeats-without, HasNoRepeats-left, HasNoRepeats-right, HasNoRepeats-insert, middle_is_absent, without-append, without-first, last-append, Links-left, Links-right, Links-insert, Links-join, LinksBack-left, LinksBack-right, LinksBack-join}
use Rattle.atomic_list.proofs.Preparing.{head_is_no_bucket}

-- the word that names the bucket before the rest: the PREV of its first, or TAIL
abbrev pub back_word : List ℕ → ℕ
back_word [] = 9
back_word (x ∷ xs) = x + 1

-- All list words but TO_REMOVE and the two that name the bucket are those of w.
pub record IsUnlinking (shape : Shape) (part : ℕ) (w v : Words) (front rest : List ℕ) : Type 0 where
  pub others : (a : ℕ) → IsListWord shape part a → a ≢ 12 → a ≢ last_or HEAD front → a ≢ back_word rest → v a ≡ w a
  pub link : (v (last_or HEAD front) ≡ w (last_or HEAD front)) ⊎ (v (last_or HEAD front) ≡ first_or 0 rest)
  pub back : (v (back_word rest) ≡ w (back_word rest)) ⊎ (v (back_word rest) ≡ last_or 0 front)

is_next : (shape : Shape) (part : ℕ) (b : ℕ) → IsBucketOf shape part b → IsListWord shape part b
is_next shape part b h = inr (b, h, inl refl)

is_prev : (shape : Shape) (part : ℕ) (b : ℕ) → IsBucketOf shape part b → IsListWord shape part (b + 1)
is_prev shape part b h = inr (b, h, inr refl)

-- HEAD or a NEXT
abbrev IsForward : Shape → ℕ → ℕ → Type 0
IsForward shape part x = (x ≡ 8) ⊎ IsBucketOf shape part x

is_forward_word : (shape : Shape) (part : ℕ) (x : ℕ) → IsForward shape part x → IsListWord shape part x
is_forward_word shape part x (inl e) = inl (omega arith, omega arith)
is_forward_word shape part x (inr b) = is_next shape part x b

forward_shape : (shape : Shape) (part : ℕ) (x : ℕ) → IsForward shape part x → (x % 2 ≡ 0) × (x ≢ 10) × (x ≢ 12)
forward_shape shape part x (inl e) = (rw e, omega arith, omega arith)
forward_shape shape part x (inr b) = let s = bucket_shape shape part x b in (omega arith, omega arith, omega arith)

back_shape : (shape : Shape) (part : ℕ) (rest : List ℕ) → AreBuckets (IsBucketOf shape part) rest → (back_word rest % 2 ≡ 1) × (back_word rest ≢ 11) × ((back_word rest ≡ 9) ⊎ (33 ≤ back_word rest))
back_shape shape part [] h = (refl, omega arith, inl refl)
back_shape shape part (x ∷ xs) h = let s = bucket_shape shape part x h.0 in (omega arith, omega arith, inr (omega arith))

-- the links back of the rest, where its first PREV may have been stored anew
back_again : (shape : Shape) (part : ℕ) (w v : Words) (a p : ℕ) (rest : List ℕ) →
    ((v (back_word rest) ≡ w (back_word rest)) ⊎ (v (back_word rest) ≡ p)) →
    ((x : ℕ) → IsBucketOf shape part x → x + 1 ≢ back_word rest → v (x + 1) ≡ w (x + 1)) → AreBuckets (IsBucketOf shape part) rest → HasNoRepeats rest →
    LinksBack w a rest → LinksBack v a rest ⊎ LinksBack v p rest
back_again shape part w v a p [] back same buckets once h = inl tt
back_again shape part w v a p (x ∷ xs) back same buckets once h =
    let others : LinksBack v x xs = LinksBack-same (λ y. IsBucketOf shape part y × (x ≢ y)) w v x xs
    (λ y q. same y q.0 (λ e. q.1 (omega arith))) (Each-both (IsBucketOf shape part) (λ y. x ≢ y) xs buckets.1 once.0) h.1 in
    elim back [ inl e ↦ inl (e ∙ h.0, others) | inr e ↦ inr (e, others) ]

-- TAIL, where it may have been stored anew
tail_again : (w v : Words) (node p : ℕ) (rest : List ℕ) → ((v (back_word rest) ≡ w (back_word rest)) ⊎ (v (back_word rest) ≡ p)) →
    ((9 ≢ back_word rest) → v 9 ≡ w 9) → 9 ≢ back_word rest ⊎ (rest ≡ []) →
    ((w 9 ≡ last_or node rest) ⊎ (w 9 ≡ last_or p rest)) → ((v 9 ≡ last_or node rest) ⊎ (v 9 ≡ last_or p rest))
tail_again w v node p [] back same apart h = elim back [ inl e ↦ elim h [ inl t ↦ inl (e ∙ t) | inr t ↦ inr (e ∙ t) ] | inr e ↦ inr e ]
tail_again w v node p (x ∷ xs) back same (inl apart) h = let e = same apart in elim h [ inl t ↦ inl (e ∙ t) | inr t ↦ inr (e ∙ t) ]
tail_again w v node p (x ∷ xs) back same (inr nil) h = cc

-- the same once the first PREV is stored
back_done : (shape : Shape) (part : ℕ) (w v : Words) (a p : ℕ) (rest : List ℕ) → v (back_word rest) ≡ p →
    ((x : ℕ) → IsBucketOf shape part x → x + 1 ≢ back_word rest → v (x + 1) ≡ w (x + 1)) → AreBuckets (IsBucketOf shape part) rest → HasNoRepeats rest →
    LinksBack w a rest → LinksBack v p rest
back_done shape part w v a p [] e same buckets once h = tt
back_done shape part w v a p (x ∷ xs) e same buckets once h = (
  e,
  LinksBack-same (λ y. IsBucketOf shape part y × (x ≢ y)) w v x xs
      (λ y q. same y q.0 (λ e. q.1 (omega arith))) (Each-both (IsBucketOf shape part) (λ y. x ≢ y) xs buckets.1 once.0) h.1,
)

tail_done : (v : Words) (node p : ℕ) (rest : List ℕ) → v (back_word rest) ≡ p → (v 9 ≡ last_or node rest) ⊎ (v 9 ≡ last_or p rest) → v 9 ≡ last_or p rest
tail_done v node p [] e h = e
tail_done v node p (x ∷ xs) e (inl t) = t
tail_done v node p (x ∷ xs) e (inr t) = t

pub first_of_links : (w : Words) (from : ℕ) (xs : List ℕ) (to : ℕ) → Links w from xs to → w from ≡ first_or to xs
first_of_links w from [] to h = h
first_of_links w from (x ∷ xs) to h = h.0

module _ (shape : Shape) (part : ℕ) (w v : Words) (front : List ℕ) (node : ℕ) (rest : List ℕ)
    (is : IsRemoving shape part w front node rest) (h : IsUnlinking shape part w v front rest) where
  fronts : AreBuckets (IsBucketOf shape part) front
  fronts = Each-left (IsBucketOf shape part) front rest is.buckets

  rests : AreBuckets (IsBucketOf shape part) rest
  rests = Each-right (IsBucketOf shape part) front rest is.buckets

  forwards : Each (IsForward shape part) front
  forwards = Each-weaker (IsBucketOf shape part) (IsForward shape part) (λ x b. inr b) front fronts

  -- a word of the forward links but the last of the front
  forward_same : (x : ℕ) → IsForward shape part x → x ≢ last_or HEAD front → v x ≡ w x
  forward_same x f ne =
      let s = forward_shape shape part x f in let b = back_shape shape part rest rests in
      h.others x (is_forward_word shape part x f) s.2 ne (omega arith)

  -- the links up to the bucket name it still, or what is behind it
  front_links : (to : ℕ) → v (last_or HEAD front) ≡ to → (from : ℕ) → Links w HEAD front from → Links v HEAD front to
  front_links to e from links =
      Links-end (IsForward shape part) w v HEAD front from to (head_is_no_bucket shape part front fronts) (HasNoRepeats-left front rest is.no_repeats)
      forward_same (inl refl) forwards e links

  is_above : 32 ≤ node
  is_above = bucket_above shape part node is.bucket

  -- a bucket behind the front isn't its last
  behind : (b : ℕ) → IsBucketOf shape part b → IsAbsent b front → b ≢ last_or HEAD front
  behind b bucket absent =
      let above : 32 ≤ b = bucket_above shape part b bucket in
      Each-last (λ z. b ≢ z) HEAD front (omega arith) absent

  rest_apart : Each (λ x. IsBucketOf shape part x × IsAbsent x front) rest
  rest_apart = Each-both (IsBucketOf shape part) (λ x. IsAbsent x front) rest rests (HasNoRepeats-across front rest is.no_repeats)

  rest_links : Links v node rest 0
  rest_links = Links-same (λ x. IsBucketOf shape part x × IsAbsent x front) w v node rest 0
      (forward_same node (inr is.bucket) (behind node is.bucket (Each-left (λ x. node ≢ x) front rest is.absent)))
      (λ x p. forward_same x (inr p.0) (behind x p.0 p.1)) rest_apart is.next

  link_is : (v (last_or HEAD front) ≡ node) ⊎ (v (last_or HEAD front) ≡ first_or 0 rest)
  link_is = elim h.link [
    | inr e ↦ inr e
    | inl e ↦ elim is.links [ inl l ↦ inl (e ∙ Links-last w HEAD front node l) | inr l ↦ inr (e ∙ Links-last w HEAD front (first_or 0 rest) l) ]
  ]

  some_links : (from : ℕ) × Links w HEAD front from
  some_links = elim is.links [ inl l ↦ (node, l) | inr l ↦ (first_or 0 rest, l) ]

  -- a PREV but the one that names the bucket
  prev_same : (b : ℕ) → IsBucketOf shape part b → b + 1 ≢ back_word rest → v (b + 1) ≡ w (b + 1)
  prev_same b bucket ne =
      let s = bucket_shape shape part b bucket in
      let f = forward_shape shape part (last_or HEAD front) (Each-last (IsForward shape part) HEAD front (inl refl) forwards) in
      h.others (b + 1) (is_prev shape part b bucket) (omega arith) (omega arith) ne

  -- the PREV of a bucket that isn't in the rest
  not_back : (b : ℕ) → IsBucketOf shape part b → (xs : List ℕ) → IsAbsent b xs → b + 1 ≢ back_word xs
  not_back b bucket [] a = let s = bucket_above shape part b bucket in omega arith
  not_back b bucket (x ∷ xs) a = λ e. a.0 (omega arith)

  register_same : (a : ℕ) → 8 ≤ a → a ≤ 12 → a ≢ 12 → a ≢ 8 → a ≢ 9 → v a ≡ w a
  register_same a low high ne head tail =
      let f = forward_shape shape part (last_or HEAD front) (Each-last (IsForward shape part) HEAD front (inl refl) forwards) in
      let g : (last_or HEAD front ≡ 8) ⊎ (32 ≤ last_or HEAD front) =
      Each-last (λ x. (x ≡ 8) ⊎ (32 ≤ x)) HEAD front (inl refl) (Each-weaker (IsBucketOf shape part) (λ x. (x ≡ 8) ⊎ (32 ≤ x)) (λ x b. inr (bucket_above shape part x b)) front fronts) in
      let b = back_shape shape part rest rests in
      h.others a (inl (low, high)) ne (grind arith) (grind arith)

  front_back : LinksBack v 0 front
  front_back = LinksBack-same (λ x. IsBucketOf shape part x × IsAbsent x rest) w v 0 front
      (λ x p. prev_same x p.0 (not_back x p.0 rest p.1)) (Each-both (IsBucketOf shape part) (λ x. IsAbsent x rest) front fronts (HasNoRepeats-across_left front rest is.no_repeats)) is.links_back

  rest_back : LinksBack v node rest ⊎ LinksBack v (last_or 0 front) rest
  rest_back =
      let again = λ (a : ℕ) (l : LinksBack w a rest). back_again shape part w v a (last_or 0 front) rest h.back prev_same rests (HasNoRepeats-right front rest is.no_repeats) l in
      elim is.rest_links_back [ inl l ↦ again node l | inr l ↦ elim (again (last_or 0 front) l) [ inl k ↦ inr k | inr k ↦ inr k ] ]

  tail_apart : (9 ≢ back_word rest) ⊎ (rest ≡ [])
  tail_apart = at rest rests
    where
      at : (xs : List ℕ) → AreBuckets (IsBucketOf shape part) xs → (9 ≢ back_word xs) ⊎ (xs ≡ [])
      at [] b = inr refl
      at (x ∷ xs) b = let s = bucket_above shape part x b.0 in inl (omega arith)

  tail_same : 9 ≢ back_word rest → v 9 ≡ w 9
  tail_same ne =
      let f = forward_shape shape part (last_or HEAD front) (Each-last (IsForward shape part) HEAD front (inl refl) forwards) in
      h.others 9 (inl (omega arith, omega arith)) (omega arith) (grind arith) ne

  tail : (v 9 ≡ last_or node rest) ⊎ (v 9 ≡ last_or (last_or 0 front) rest)
  tail = tail_again w v node (last_or 0 front) rest h.back tail_same tail_apart is.tail

  node_prev : v (node + 1) ≡ last_or 0 front
  node_prev = prev_same node is.bucket (not_back node is.bucket rest (Each-right (λ x. node ≢ x) front rest is.absent)) ∙ is.prev

  last_tail : IsLink (IsBucketOf shape part) (v 11)
  last_tail = subst (IsLink (IsBucketOf shape part)) (sym (register_same 11 (omega arith) (omega arith) (omega arith) (omega arith) (omega arith))) is.last_tail

  to_append : v 10 ≡ 0
  to_append = register_same 10 (omega arith) (omega arith) (omega arith) (omega arith) (omega arith) ∙ is.to_append

  -- the bucket is still being taken out
  pub removing-unlinking : v 12 ≡ node → IsRemoving shape part v front node rest
  removing-unlinking to_remove = record {
    to_append = to_append;
    to_remove = to_remove;
    last_tail = last_tail;
    bucket = is.bucket;
    buckets = is.buckets;
    absent = is.absent;
    no_repeats = is.no_repeats;
    links = elim link_is [ inl e ↦ inl (front_links node e some_links.0 some_links.1) | inr e ↦ inr (front_links (first_or 0 rest) e some_links.0 some_links.1) ];
    next = rest_links;
    prev = node_prev;
    links_back = front_back;
    rest_links_back = rest_back;
    tail = tail;
  }

  -- the bucket has been taken out
  pub at_rest-unlinked : v 12 ≡ 0 → v (last_or HEAD front) ≡ first_or 0 rest → v (back_word rest) ≡ last_or 0 front → IsAtRest shape part v (front ++ rest)
  at_rest-unlinked to_remove link back = record {
    to_append = to_append;
    to_remove = to_remove;
    last_tail = last_tail;
    buckets = is.buckets;
    no_repeats = is.no_repeats;
    links = Links-join v HEAD node front rest 0 (front_links (first_or 0 rest) link some_links.0 some_links.1) rest_links;
    links_back = LinksBack-join v 0 front rest front_back (elim is.rest_links_back [
      | inl l ↦ back_done shape part w v node (last_or 0 front) rest back prev_same rests (HasNoRepeats-right front rest is.no_repeats) l
      | inr l ↦ back_done shape part w v (last_or 0 front) (last_or 0 front) rest back prev_same rests (HasNoRepeats-right front rest is.no_repeats) l
    ]);
    tail = tail_done v node (last_or 0 front) rest back tail ∙ sym (last-append 0 front rest);
  }

-- from a list at rest: words that are the same but for TO_REMOVE
module _ (shape : Shape) (part : ℕ) (w v : Words) (front : List ℕ) (node : ℕ) (rest : List ℕ) (is : IsAtRest shape part w (front ++ node ∷ rest))
    (same : (a : ℕ) → IsListWord shape part a → a ≢ 12 → v a ≡ w a) where
  register_as : (a : ℕ) → 8 ≤ a → a ≤ 11 → v a ≡ w a
  register_as a low high = same a (inl (low, omega arith)) (omega arith)

  next_as : (b : ℕ) → IsBucketOf shape part b → v b ≡ w b
  next_as b h = let above = bucket_above shape part b h in same b (is_next shape part b h) (omega arith)

  prev_as : (b : ℕ) → IsBucketOf shape part b → v (b + 1) ≡ w (b + 1)
  prev_as b h = let above = bucket_above shape part b h in same (b + 1) (is_prev shape part b h) (omega arith)

  whole_links : Links v HEAD (front ++ node ∷ rest) 0
  whole_links = Links-same (IsBucketOf shape part) w v HEAD (front ++ node ∷ rest) 0 (register_as 8 (omega arith) (omega arith)) next_as is.buckets is.links

  whole_back : LinksBack v 0 (front ++ node ∷ rest)
  whole_back = LinksBack-same (IsBucketOf shape part) w v 0 (front ++ node ∷ rest) prev_as is.buckets is.links_back

  whole_tail : v 9 ≡ last_or 0 (front ++ node ∷ rest)
  whole_tail = register_as 9 (omega arith) (omega arith) ∙ is.tail

  the_last_tail : IsLink (IsBucketOf shape part) (v 11)
  the_last_tail = subst (IsLink (IsBucketOf shape part)) (sym (register_as 11 (omega arith) (omega arith))) is.last_tail

  pub at_rest-still : v 12 ≡ 0 → IsAtRest shape part v (front ++ node ∷ rest)
  at_rest-still e = record {
    to_append = register_as 10 (omega arith) (omega arith) ∙ is.to_append;
    to_remove = e;
    last_tail = the_last_tail;
    buckets = is.buckets;
    no_repeats = is.no_repeats;
    links = whole_links;
    links_back = whole_back;
    tail = whole_tail;
  }

  pub removing-started : v 12 ≡ node → IsRemoving shape part v front node rest
  removing-started e =
      let middle = Each-right (IsBucketOf shape part) front (node ∷ rest) is.buckets in record {
        to_append = register_as 10 (omega arith) (omega arith) ∙ is.to_append;
        to_remove = e;
        last_tail = the_last_tail;
        bucket = middle.0;
        buckets = Each-join (IsBucketOf shape part) front rest (Each-left (IsBucketOf shape part) front (node ∷ rest) is.buckets) middle.1;
        absent = middle_is_absent front node rest is.no_repeats;
        no_repeats = HasNoRepeats-without front node rest is.no_repeats;
        links = inl (Links-left v HEAD front node rest 0 whole_links);
        next = Links-right v HEAD front node rest 0 whole_links;
        prev = (LinksBack-right v 0 front (node ∷ rest) whole_back).0;
        links_back = LinksBack-left v 0 front (node ∷ rest) whole_back;
        rest_links_back = inl (LinksBack-right v 0 front (node ∷ rest) whole_back).1;
        tail = inl (whole_tail ∙ last-append 0 front (node ∷ rest));
      }

-- the chain of each of the two
pub Chain-removing : (shape : Shape) (part : ℕ) (w : Words) (front : List ℕ) (node : ℕ) (rest : List ℕ) → IsRemoving shape part w front node rest → Chain w (front ++ rest)
Chain-removing shape part w front node rest is = elim is.links [
  | inl l ↦ record {
    walk = front ++ node ∷ rest;
    is_walk = inl (record { to_append = is.to_append; links = Links-insert w HEAD front node rest 0 (λ e. (no_bucket_is_0 shape part (node ∷ []) (is.bucket, tt)).0 (sym e)) l is.next });
    no_repeats = HasNoRepeats-insert front node rest is.no_repeats is.absent;
    chain_is = rw (is.to_remove, without-append node front (node ∷ rest), without-first node rest, ← without-append node front rest) (sym (without-absent node (front ++ rest) is.absent));
  }
  | inr l ↦ record {
    walk = front ++ rest;
    is_walk = inl (record { to_append = is.to_append; links = Links-join w HEAD node front rest 0 l is.next });
    no_repeats = is.no_repeats;
    chain_is = rw is.to_remove (sym (without-absent node (front ++ rest) is.absent));
  }
]
