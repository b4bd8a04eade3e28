-- What a walk along the chain finds, and the free buckets that are left.
use Rattle.std.proofs.Common.{◌≡◌, ◌≢◌, inl, inr, ℕ, suc, ◌+◌, ◌-◌, ◌<◌, ◌≤◌, Bool, true, false, ◌==◌, ◌||◌, cond, if◌then◌else◌, List, [], ◌∷◌, ◌++◌, length, take, refl, ap, sym, ◌∙◌, arith, subst, append-nil, append_assoc, length-append}
use Rattle.std.proofs.lemmas.List.Folds.{list_any-append}
use Rattle.std.proofs.lemmas.List.{take_all, take-append-le}
use Rattle.std.proofs.lemmas.Bool.Decides.{nat_tests}
use Rattle.persist_model.specs.Records.{IsAmong}
use Rattle.persist_model.specs.Shape.{Shape, bucket}
use Rattle.region_layout.specs.declared.layout.Buckets.{Buckets}
use Rattle.batch_log.specs.FreeBuckets.{has_bucket, free_from, free_buckets, HasTaken}

-- ---- whether the chain has a bucket

-- none of those that were walked is the bucket
abbrev pub HasPassed : ℕ → List ℕ → Type 0
HasPassed b front = has_bucket front b ≡ false

pub passed_more : (b next : ℕ) (front : List ℕ) → HasPassed b front → next ≢ b → HasPassed b (front ++ next ∷ [])
passed_more b next front h ne =
    let off : (next == b) ≡ false = grind (arith, nat_tests, ne) in
    list_any-append (λ x. x == b) front (next ∷ []) ∙ rw (h, off) refl

pub has_from : (b : ℕ) (xs : List ℕ) → IsAmong xs b → has_bucket xs b ≡ true
has_from b [] m = absurd m
has_from b (x ∷ xs) (inl e) = let on : (x == b) ≡ true = grind (arith, nat_tests, e) in rw on refl
has_from b (x ∷ xs) (inr m) = or_right (x == b) (has_bucket xs b) (has_from b xs m)
  where
    or_right : (s t : Bool) → t ≡ true → s || t ≡ true
    or_right true t e = refl
    or_right false t e = e

-- ---- what is left completes the whole

-- those found so far, and the free ones among the numbers that are left, are all
pub record HasFound (wanted : ℕ) (free found : List ℕ) (shape : Shape) (chain : List ℕ) (from left : ℕ) : Type 0 where
  pub whole : found ++ free_from shape chain from left ≡ free
  pub few : length found ≤ wanted

pub found_more : (wanted : ℕ) (free found later : List ℕ) (shape : Shape) (chain : List ℕ) (from n left : ℕ) → HasFound wanted free found shape chain from n → n ≡ suc left → length found ≢ wanted →
    later ≡ found ++ (if has_bucket chain (bucket shape from) then [] else bucket shape from ∷ []) → HasFound wanted free later shape chain (from + 1) left
found_more wanted free found later shape chain from n left h size ne is =
    subst (λ xs. HasFound wanted free xs shape chain (from + 1) left) (sym is) (by (has_bucket chain (bucket shape from)) refl)
  where
    next : free_from shape chain (suc from) left ≡ free_from shape chain (from + 1) left
    next = let e : suc from ≡ from + 1 = omega arith in ap (λ k. free_from shape chain k left) e

    step : (t : Bool) → has_bucket chain (bucket shape from) ≡ t →
        found ++ cond t (free_from shape chain (suc from) left) (bucket shape from ∷ free_from shape chain (suc from) left) ≡ free
    step t e = sym (ap (λ s. found ++ cond s (free_from shape chain (suc from) left) (bucket shape from ∷ free_from shape chain (suc from) left)) e)
        ∙ sym (ap (λ k. found ++ free_from shape chain from k) size) ∙ h.whole

    by : (t : Bool) → has_bucket chain (bucket shape from) ≡ t → HasFound wanted free (found ++ cond t [] (bucket shape from ∷ [])) shape chain (from + 1) left
    by true e = record {
      whole = ap (λ xs. xs ++ free_from shape chain (from + 1) left) (append-nil found) ∙ ap (λ ys. found ++ ys) (sym next) ∙ step true e;
      few = (let f = h.few in let z = length-append found ([]) in omega (arith, f, z));
    }
    by false e = record {
      whole = append_assoc found (bucket shape from ∷ []) (free_from shape chain (from + 1) left) ∙ ap (λ ys. found ++ (bucket shape from ∷ ys)) (sym next) ∙ step false e;
      few = (let f = h.few in let z = length-append found (bucket shape from ∷ []) in omega (arith, f, z, ne));
    }

pub has_taken : (wanted : ℕ) (free found : List ℕ) (shape : Shape) (chain : List ℕ) (from left : ℕ) → HasFound wanted free found shape chain from left → length found ≡ wanted → HasTaken wanted free found
has_taken wanted free found shape chain from left h e =
    let rest : List ℕ = free_from shape chain from left in
    let size = length-append found rest in
    let all = ap length h.whole in
    record {
      enough = omega (arith, size, all, e);
      found_are =
          (let front : take wanted (found ++ rest) ≡ take wanted found = take-append-le wanted found rest (omega (arith, e)) in
          sym (ap (take wanted) (sym h.whole) ∙ front ∙ take_all wanted found (omega (arith, e))));
    }

pub has_all : (wanted : ℕ) (free found : List ℕ) (shape : Shape) (chain : List ℕ) (from : ℕ) → HasFound wanted free found shape chain from 0 → found ≡ free
has_all wanted free found shape chain from h = sym (append-nil found) ∙ h.whole

pub too_few : (wanted : ℕ) (free found : List ℕ) (shape : Shape) (chain : List ℕ) (from left : ℕ) → HasFound wanted free found shape chain from left → left ≡ 0 → length found ≢ wanted → length free < wanted
too_few wanted free found shape chain from left h z ne =
    let e = ap length (has_all wanted free found shape chain from (subst (λ k. HasFound wanted free found shape chain from k) z h)) in
    let few = h.few in omega (arith, e, few, ne)

pub found_begins : (wanted : ℕ) (shape : Shape) (part : Buckets) (chain found : List ℕ) → found ≡ [] →
    HasFound wanted (free_buckets shape part chain) found shape chain part.first (part.first + part.count - part.first)
found_begins wanted shape part chain found e = record {
  whole = ap (λ xs. xs ++ free_from shape chain part.first (part.first + part.count - part.first)) e
      ∙ (let n : part.first + part.count - part.first ≡ part.count = omega arith in ap (λ k. free_from shape chain part.first k) n);
  few = (let z = ap length e in omega (arith, z));
}

pub kept_at : (has : ℕ → Bool) (b at : ℕ) (found later : List ℕ) → b ≡ at → later ≡ found ++ (if has b then [] else b ∷ []) → later ≡ found ++ (if has at then [] else at ∷ [])
kept_at has b at found later e h = subst (λ x. later ≡ found ++ (if has x then [] else x ∷ [])) e h
