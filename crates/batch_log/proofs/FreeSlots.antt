-- What the slots that are chosen are.
use Rattle.std.proofs.Common.{◌≡◌, ◌≢◌, ◌↔◌, inl, inr, ℕ, zero, suc, ◌+◌, ◌-◌, ◌*◌, ◌<◌, ◌≤◌, Bool, true, false, IsTrue, cond, ◌==◌, ◌||◌, List, [], ◌∷◌, length, take, refl, ap, sym, ◌∙◌, arith, subst}
use Rattle.std.specs.Prelude.{slice_index}
use Rattle.std.proofs.lemmas.Bool.Decides.{nat_tests}
use Rattle.persist_model.specs.declared.format.TheConstants.{MAX_WORDS}
use Rattle.persist_model.specs.Region.{Words}
use Rattle.persist_model.specs.Shape.{Shape, bucket, bucket_size, IsBucketOf}
use Rattle.persist_model.specs.Records.{IsAmong}
use Rattle.persist_model.specs.Chain.{Each, IsAbsent, HasNoRepeats, last_or}
use Rattle.atomic_list.specs.Reads.{SameLog}
use Rattle.atomic_list.specs.Walk.{chain_of}
use Rattle.region_layout.specs.declared.layout.Layout.{Layout}
use Rattle.region_layout.specs.declared.layout.Buckets.{Buckets}
use Rattle.region_layout.specs.Layout.{layout_shape, IsPartition}
use Rattle.bucket_log.specs.Reads.{IsLogOfPart}
use Rattle.bucket_log.proofs.Counting.{bucket_one}
use Rattle.bucket_log.proofs.Walking.{part_inside, same_chain}
use Rattle.batch_log.specs.ChosenSlots.{ChosenSlots}
use Rattle.batch_log.specs.FreeBuckets.{has_bucket, free_from, free_buckets, HasTaken, AreWithin, IsChosen, buckets_for}
use Rattle.batch_log.specs.Groups.{SlotsMayCome}
use Rattle.batch_log.proofs.FreeWalks.{has_from}

-- ---- each of the free buckets

pub Each-take : (P : ℕ → Type 0) (n : ℕ) (xs : List ℕ) → Each P xs → Each P (take n xs)
Each-take P zero xs h = tt
Each-take P (suc n) [] h = tt
Each-take P (suc n) (x ∷ xs) h = (h.0, Each-take P n xs h.1)

-- what holds of each number of a row holds of the free buckets among them
pub free_each : (shape : Shape) (chain : List ℕ) (P : ℕ → Type 0) (j count : ℕ) → ((k : ℕ) → j ≤ k → k < j + count → has_bucket chain (bucket shape k) ≡ false → P (bucket shape k)) →
    Each P (free_from shape chain j count)
free_each shape chain P j zero each = tt
free_each shape chain P j (suc count) each =
    by (has_bucket chain (bucket shape j)) refl (free_each shape chain P (suc j) count (λ k low high. each k (omega (arith, low)) (omega (arith, high))))
  where
    by : (t : Bool) → has_bucket chain (bucket shape j) ≡ t → Each P (free_from shape chain (suc j) count) →
        Each P (cond t (free_from shape chain (suc j) count) (bucket shape j ∷ free_from shape chain (suc j) count))
    by true e rest = rest
    by false e rest = (each j (omega arith) (omega arith) e, rest)

each_index : (m : ℕ) (xs : List ℕ) → Each (λ b. b < m) xs → (k : ℕ) → k < length xs → slice_index xs k < m
each_index m [] h k lt = absurd (omega (arith, lt))
each_index m (x ∷ xs) h zero lt = h.0
each_index m (x ∷ xs) h (suc k) lt = each_index m xs h.1 k (omega (arith, lt))

-- a bucket is within any region
product_below : (j s : ℕ) → j ≤ 1024 → s ≤ 136 → j * s ≤ 139264
product_below j s few small = grind arith

pub within : (shape : Shape) (chain : List ℕ) (first count n : ℕ) → first + count ≤ shape.buckets → shape.buckets ≤ 1024 → shape.cells ≤ 16 → AreWithin (take n (free_from shape chain first count))
within shape chain first count n inside most few = each_index MAX_WORDS (take n (free_from shape chain first count))
    (Each-take (λ b. b < MAX_WORDS) n (free_from shape chain first count)
    (free_each shape chain (λ b. b < MAX_WORDS) first count (λ k low high free. (let small = product_below k (bucket_size shape) (omega (arith, high, inside, most)) (omega (arith, few)) in omega (arith, small)))))

-- ---- what is read in w is so in all words v with the same log

module _ (layout : Layout) (part : Buckets) (size : ℕ) (w : Words) (log : IsLogOfPart layout part size w) (v : Words) (same : SameLog w v) where
  abbrev shape : Shape
  shape = layout_shape layout

  chain_is : chain_of shape v ≡ chain_of shape w
  chain_is = same_chain layout size w v log.log same

  free_is : length (free_buckets shape part (chain_of shape v)) ≡ length (free_buckets shape part (chain_of shape w))
  free_is = ap (λ xs. length (free_buckets shape part xs)) chain_is

  pub enough_there : (n : ℕ) → n ≤ length (free_buckets shape part (chain_of shape w)) → IsTrue true ↔ (n ≤ length (free_buckets shape part (chain_of shape v)))
  enough_there n le = let e = free_is in ((λ t. omega (arith, e, le)), (λ h. refl))

  pub fewer_there : (n : ℕ) → length (free_buckets shape part (chain_of shape w)) < n → IsTrue false ↔ (n ≤ length (free_buckets shape part (chain_of shape v)))
  fewer_there n lt = let e = free_is in ((λ t. cc), (λ h. absurd (omega (arith, e, lt, h))))

  pub chosen_there : (n tail capacity : ℕ) (found : List ℕ) (before later : ChosenSlots) → HasTaken n (free_buckets shape part (chain_of shape w)) found → tail ≡ last_or 0 (chain_of shape w) →
      n ≤ capacity → before.buckets ≡ [] → before.spare ≡ capacity → later.buckets ≡ found → later.tail ≡ tail → later.spare ≡ capacity - length found → IsChosen shape part v n before later
  chosen_there n tail capacity found before later taken is room none spare buckets_is tail_is spare_is =
      let count : length found ≡ n = ap length taken.found_are ∙ taken_count n (free_buckets shape part (chain_of shape w)) taken.enough in
      record {
        buckets_are = buckets_is ∙ taken.found_are ∙ sym (ap (λ xs. take n (free_buckets shape part xs)) chain_is);
        all_there = ap length buckets_is ∙ count;
        tail_is = tail_is ∙ is ∙ sym (ap (last_or 0) chain_is);
        spare_falls = omega (arith, spare_is, count, room, spare);
      }
    where
      taken_count : (n : ℕ) (xs : List ℕ) → n ≤ length xs → length (take n xs) ≡ n
      taken_count zero xs le = refl
      taken_count (suc n) [] le = absurd (omega (arith, le))
      taken_count (suc n) (x ∷ xs) le = let rest = taken_count n xs (omega (arith, le)) in omega (arith, rest)

  pub within_there : (n : ℕ) (found : List ℕ) → HasTaken n (free_buckets shape part (chain_of shape w)) found → AreWithin found
  within_there n found taken = subst AreWithin (sym taken.found_are)
      (within shape (chain_of shape w) part.first part.count n (part_inside layout part size w log) layout.buckets_within.1 (small layout.cells layout.cells_are))
    where
      small : (n : ℕ) → IsTrue ((n == 1) || (n == 16)) → n ≤ 16
      small n h = grind (arith, nat_tests, h)

-- ---- and they may take a group

no_repeats : (s : Shape) (chain : List ℕ) (n j count : ℕ) → HasNoRepeats (take n (free_from s chain j count))
no_repeats s chain zero j count = tt
no_repeats s chain (suc n) j zero = tt
no_repeats s chain (suc n) j (suc count) = by (has_bucket chain (bucket s j)) (no_repeats s chain (suc n) (suc j) count) (no_repeats s chain n (suc j) count)
  where
    later : (m : ℕ) → IsAbsent (bucket s j) (take m (free_from s chain (suc j) count))
    later m = Each-take (λ x. bucket s j ≢ x) m (free_from s chain (suc j) count)
        (free_each s chain (λ x. bucket s j ≢ x) (suc j) count (λ k low high free e. (let same = bucket_one s j k e in omega (arith, same, low))))

    by : (t : Bool) → HasNoRepeats (take (suc n) (free_from s chain (suc j) count)) → HasNoRepeats (take n (free_from s chain (suc j) count)) →
        HasNoRepeats (take (suc n) (cond t (free_from s chain (suc j) count) (bucket s j ∷ free_from s chain (suc j) count)))
    by true off on = off
    by false off on = (later n, on)

absent_from : (b : ℕ) (chain : List ℕ) → has_bucket chain b ≡ false → IsAbsent b chain
absent_from b chain off = go chain (λ m. (let on = has_from b chain m in cc))
  where
    go : (xs : List ℕ) → (IsAmong xs b → ⊥) → IsAbsent b xs
    go [] none = tt
    go (x ∷ xs) none = ((λ e. none (inl e)), go xs (λ m. none (inr m)))

of_part : (shape : Shape) (p : ℕ) (part : Buckets) → IsPartition shape p part → (k : ℕ) → part.first ≤ k → k < part.first + part.count → IsBucketOf shape p (bucket shape k)
of_part shape p part is k low high = let first = is.0 in let count = is.1 in (k, omega (arith, low, first), omega (arith, high, first, count), refl)

pub slots_may_come : SlotsMayCome
slots_may_come shape p part w before later records ok inside is rest chosen gates =
    let n : ℕ = buckets_for shape.cells (length records) in
    let chain : List ℕ = chain_of shape w in
    record {
      at_rest = rest;
      tail_is = chosen.tail_is;
      are_buckets = subst (Each (IsBucketOf shape p)) (sym chosen.buckets_are)
          (Each-take (IsBucketOf shape p) n (free_buckets shape part chain) (free_each shape chain (IsBucketOf shape p) part.first part.count (λ k low high free. of_part shape p part is k low high)));
      absent = subst (Each (λ b. IsAbsent b chain)) (sym chosen.buckets_are)
          (Each-take (λ b. IsAbsent b chain) n (free_buckets shape part chain) (free_each shape chain (λ b. IsAbsent b chain) part.first part.count (λ k low high free. absent_from (bucket shape k) chain free)));
      no_repeats = subst HasNoRepeats (sym chosen.buckets_are) (no_repeats shape chain n part.first part.count);
      enough = chosen.all_there;
      gates = gates;
    }
