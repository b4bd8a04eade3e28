-- The words of a list at rest, as the first six events of an insertion change them: up to where the bucket is being put behind.
use Rattle.std.proofs.Common.{◌≡◌, ◌≢◌, ◌⊎◌, inl, inr, ℕ, ◌+◌, ◌≤◌, ◌%◌, List, ◌∷◌, refl, sym, ◌∙◌, arith}
use Rattle.std.proofs.lemmas.Bool.Decides.{nat_tests}
use Rattle.persist_model.specs.declared.event.Event.{Event}
use Rattle.persist_model.specs.declared.event.Event.TheVariants.{PStore, Fence}
use Rattle.persist_model.specs.Region.{Words}
use Rattle.persist_model.specs.Progress.{Reaches}
use Rattle.persist_model.specs.Runs.{progress_at}
use Rattle.persist_model.specs.Shape.{Shape, IsBucketOf}
use Rattle.persist_model.specs.Chain.{HEAD, Each, IsLink, AreBuckets, IsAbsent, last_or, Links}
use Rattle.atomic_list.specs.Rules.{IsAtRest, IsAppending, IsListWord}
use Rattle.atomic_list.proofs.Chains.{bucket_above, bucket_shape, Each-weaker, Each-both, Each-last, Links-same, LinksBack-same}

-- HEAD, or the NEXT of another bucket
pub record IsLinkWord (shape : Shape) (part node link : ℕ) : Type 0 where
  pub apart : link ≢ node
  pub even : link % 8 ≡ 0
  pub low_or_high : (link ≡ 8) ⊎ (32 ≤ link)
  pub high : (link ≡ 8) ⊎ IsBucketOf shape part link

-- a bucket that isn't this one
abbrev IsOther : Shape → ℕ → ℕ → ℕ → Type 0
IsOther shape part node b = IsBucketOf shape part b × (b ≢ node)

-- HEAD or the NEXT of a bucket that isn't this one
abbrev IsOtherLink : Shape → ℕ → ℕ → ℕ → Type 0
IsOtherLink shape part node x = (x ≡ 8) ⊎ IsOther shape part node x

others_of : (shape : Shape) (part node : ℕ) (xs : List ℕ) → AreBuckets (IsBucketOf shape part) xs → IsAbsent node xs → Each (IsOther shape part node) xs
others_of shape part node xs b a = Each-both (IsBucketOf shape part) (λ x. x ≢ node) xs b
    (Each-weaker (λ x. node ≢ x) (λ x. x ≢ node) (λ x ne e. ne (sym e)) xs a)

pub head_is_no_bucket : (shape : Shape) (part : ℕ) (xs : List ℕ) → AreBuckets (IsBucketOf shape part) xs → IsAbsent HEAD xs
head_is_no_bucket shape part xs h = Each-weaker (IsBucketOf shape part) (λ x. HEAD ≢ x) (λ x b. let above : 32 ≤ x = bucket_above shape part x b in omega arith) xs h

-- the word that names the bucket behind the last one is HEAD or another bucket's NEXT
pub last_link : (shape : Shape) (part node : ℕ) (xs : List ℕ) → IsBucketOf shape part node → AreBuckets (IsBucketOf shape part) xs → IsAbsent node xs →
    IsLinkWord shape part node (last_or HEAD xs)
last_link shape part node xs bucket buckets absent =
    link_of (last_or HEAD xs) (Each-last (IsOtherLink shape part node) HEAD xs (inl refl)
    (Each-weaker (IsOther shape part node) (IsOtherLink shape part node) (λ x o. inr o) xs (others_of shape part node xs buckets absent)))
  where
    link_of : (x : ℕ) → IsOtherLink shape part node x → IsLinkWord shape part node x
    link_of x (inl e) = let above : 32 ≤ node = bucket_above shape part node bucket in
        record { apart = omega arith; even = rw e; low_or_high = inl e; high = inl e }
    link_of x (inr o) = let above : 32 ≤ x = bucket_above shape part x o.0 in let s = bucket_shape shape part x o.0 in
        record { apart = o.1; even = omega arith; low_or_high = inr above; high = inr o.0 }

pub last_is_link : (shape : Shape) (part : ℕ) (xs : List ℕ) → AreBuckets (IsBucketOf shape part) xs → IsLink (IsBucketOf shape part) (last_or 0 xs)
last_is_link shape part xs h = Each-last (IsLink (IsBucketOf shape part)) 0 xs (inl refl)
    (Each-weaker (IsBucketOf shape part) (IsLink (IsBucketOf shape part)) (λ x b. inr b) xs h)

-- the five words by name
pub register : (shape : Shape) (part a : ℕ) → 8 ≤ a → a ≤ 12 → IsListWord shape part a
register shape part a low high = inl (low, high)

pub next_word : (shape : Shape) (part b : ℕ) → IsBucketOf shape part b → IsListWord shape part b
next_word shape part b h = inr (b, h, inl refl)

pub prev_word : (shape : Shape) (part b : ℕ) → IsBucketOf shape part b → IsListWord shape part (b + 1)
prev_word shape part b h = inr (b, h, inr refl)

pub link_word : (shape : Shape) (part x : ℕ) → (x ≡ 8) ⊎ IsBucketOf shape part x → IsListWord shape part x
link_word shape part x (inl e) = inl (omega arith, omega arith)
link_word shape part x (inr b) = next_word shape part x b

-- v are the words w but for the bucket's links, LAST_TAIL and TO_APPEND
abbrev pub IsPrepared : Shape → ℕ → Words → Words → ℕ → Type 0
IsPrepared shape part w v node = (a : ℕ) → IsListWord shape part a → a ≢ node → a ≢ node + 1 → a ≢ 10 → a ≢ 11 → v a ≡ w a

module _ (shape : Shape) (part : ℕ) (w v : Words) (xs : List ℕ) (node : ℕ) (rest : IsAtRest shape part w xs)
    (bucket : IsBucketOf shape part node) (absent : IsAbsent node xs) (same : IsPrepared shape part w v node) where
  others : Each (IsOther shape part node) xs
  others = others_of shape part node xs rest.buckets absent

  register_same : (a : ℕ) → 8 ≤ a → a ≤ 12 → a ≢ 10 → a ≢ 11 → v a ≡ w a
  register_same a low high n10 n11 = let above = bucket_above shape part node bucket in
      same a (register shape part a low high) (omega arith) (omega arith) n10 n11

  next_same : (x : ℕ) → IsOther shape part node x → v x ≡ w x
  next_same x o = let s = bucket_shape shape part node bucket in let t = bucket_shape shape part x o.0 in
      same x (next_word shape part x o.0) o.1 (omega arith) (omega arith) (omega arith)

  prev_same : (x : ℕ) → IsOther shape part node x → v (x + 1) ≡ w (x + 1)
  prev_same x o = let s = bucket_shape shape part node bucket in let t = bucket_shape shape part x o.0 in let ne = o.1 in
      same (x + 1) (prev_word shape part x o.0) (omega arith) (omega arith) (omega arith) (omega arith)

  links_same : Links v HEAD xs 0
  links_same = Links-same (IsOther shape part node) w v HEAD xs 0 (register_same 8 (omega arith) (omega arith) (omega arith) (omega arith)) next_same others rest.links

  -- the bucket isn't named yet
  pub at_rest-prepared : v 10 ≡ 0 → IsLink (IsBucketOf shape part) (v 11) → IsAtRest shape part v xs
  at_rest-prepared to_append last_tail = record {
    to_append = to_append;
    to_remove = register_same 12 (omega arith) (omega arith) (omega arith) (omega arith) ∙ rest.to_remove;
    last_tail = last_tail;
    buckets = rest.buckets;
    no_repeats = rest.no_repeats;
    links = links_same;
    links_back = LinksBack-same (IsOther shape part node) w v 0 xs prev_same others rest.links_back;
    tail = register_same 9 (omega arith) (omega arith) (omega arith) (omega arith) ∙ rest.tail;
  }

  -- the bucket is being put behind
  pub appending-prepared : v 10 ≡ node → v 11 ≡ last_or 0 xs → v node ≡ 0 → v (node + 1) ≡ last_or 0 xs → IsAppending shape part v xs node
  appending-prepared to_append last_tail next prev = record {
    to_append = to_append;
    to_remove = register_same 12 (omega arith) (omega arith) (omega arith) (omega arith) ∙ rest.to_remove;
    last_tail = last_tail;
    bucket = bucket;
    buckets = rest.buckets;
    absent = absent;
    no_repeats = rest.no_repeats;
    links = inl links_same;
    links_back = LinksBack-same (IsOther shape part node) w v 0 xs prev_same others rest.links_back;
    next = next;
    prev = prev;
    tail = inl (register_same 9 (omega arith) (omega arith) (omega arith) (omega arith) ∙ rest.tail);
  }

-- the events of an insertion up to there, and then others
abbrev pub preparing : ℕ → ℕ → List Event → List Event
preparing node tail more = PStore node 0 ∷ PStore (node + 1) tail ∷ PStore 11 tail ∷ Fence ∷ PStore 10 node ∷ Fence ∷ more

-- what may stand in the words after the first k of them
module _ (shape : Shape) (part : ℕ) (w v : Words) (node tail : ℕ) (more : List Event) (bucket : IsBucketOf shape part node) where
  abbrev At : ℕ → Type 0
  At k = Reaches (IsListWord shape part) (progress_at w (preparing node tail more) k) v

  pub prepared3 : At 3 → IsPrepared shape part w v node × (v 10 ≡ w 10) × ((v 11 ≡ w 11) ⊎ (v 11 ≡ tail))
  prepared3 r =
      let s = bucket_shape shape part node bucket in (
        λ a m n1 n2 n3 n4. let h = r a m in grind arith,
        let h = r 10 (register shape part 10 (omega arith) (omega arith)) in grind arith,
        let h = r 11 (register shape part 11 (omega arith) (omega arith)) in grind arith,
      )

  pub prepared4 : At 4 → IsPrepared shape part w v node × (v 10 ≡ w 10) × (v 11 ≡ tail)
  prepared4 r =
      let s = bucket_shape shape part node bucket in (
        λ a m n1 n2 n3 n4. let h = r a m in grind (arith, nat_tests),
        let h = r 10 (register shape part 10 (omega arith) (omega arith)) in grind (arith, nat_tests),
        let h = r 11 (register shape part 11 (omega arith) (omega arith)) in grind (arith, nat_tests),
      )

  pub prepared5 : At 5 → IsPrepared shape part w v node × ((v 10 ≡ w 10) ⊎ (v 10 ≡ node)) × ((v 11 ≡ tail) × (v node ≡ 0) × (v (node + 1) ≡ tail))
  prepared5 r =
      let s = bucket_shape shape part node bucket in (
        λ a m n1 n2 n3 n4. let h = r a m in grind (arith, nat_tests),
        let h = r 10 (register shape part 10 (omega arith) (omega arith)) in grind (arith, nat_tests),
        (
          let h = r 11 (register shape part 11 (omega arith) (omega arith)) in grind (arith, nat_tests),
          let h = r node (next_word shape part node bucket) in grind (arith, nat_tests),
          let h = r (node + 1) (prev_word shape part node bucket) in grind (arith, nat_tests),
        ),
      )

  pub prepared6 : At 6 → IsPrepared shape part w v node × (v 10 ≡ node) × ((v 11 ≡ tail) × (v node ≡ 0) × (v (node + 1) ≡ tail))
  prepared6 r =
      let s = bucket_shape shape part node bucket in (
        λ a m n1 n2 n3 n4. let h = r a m in grind (arith, nat_tests),
        let h = r 10 (register shape part 10 (omega arith) (omega arith)) in grind (arith, nat_tests),
        (
          let h = r 11 (register shape part 11 (omega arith) (omega arith)) in grind (arith, nat_tests),
          let h = r node (next_word shape part node bucket) in grind (arith, nat_tests),
          let h = r (node + 1) (prev_word shape part node bucket) in grind (arith, nat_tests),
        ),
      )
