-- Lists of places that have no place in common.
use Rattle.std.proofs.Common.{◌≡◌, ◌≢◌, ◌⊎◌, inl, inr, ⊎_elim, ℕ, zero, suc, ◌<◌, ◌≤◌, true, List, length, refl, sym, ◌∙◌, ap, subst, arith, if◌then◌else◌, ◌==◌, eq-eqb, get_or}
use Rattle.std.proofs.lemmas.Bool.Decides.{eqb_tells}
use Rattle.pooled_region.specs.declared.pool.Place.{Place}
use Rattle.pooled_region.specs.declared.pool.Word.{Word}
use Rattle.pooled_region.specs.declared.pool.Free.{Free}
use Rattle.pooled_region.specs.Pool.{no_word, place_at, start_of, count_of, StaysWithin, ArePooled}

pub eqb_same : (n : ℕ) → (n == n) ≡ true
eqb_same n = eq-eqb n n refl

-- numbers below n, no two equal, are at most n
pub distinct_below : (m n : ℕ) (f : ℕ → ℕ) → ((i : ℕ) → i < m → f i < n) → ((i j : ℕ) → i < m → j < m → f i ≡ f j → i ≡ j) → m ≤ n
distinct_below zero n f below apart = omega arith
distinct_below (suc m) zero f below apart = absurd (omega (arith, below m (omega arith)))
distinct_below (suc m) (suc n) f below apart =
    let rest : m ≤ n = distinct_below m n g g_below g_apart in omega arith
  where
    -- the last one takes the place of n
    g : ℕ → ℕ
    g i = if f i == n then f m else f i

    last : (i : ℕ) → i < m → f i ≡ f m → ⊥
    last i lt same = let e : i ≡ m = apart i m (omega arith) (omega arith) same in omega arith

    g_is : (i : ℕ) → ((f i ≡ n) × (g i ≡ f m)) ⊎ ((f i ≢ n) × (g i ≡ f i))
    g_is i = ⊎_elim
        (λ same. inl (same.1, ap (λ t. if t then f m else f i) same.0))
        (λ other. inr (other.1, ap (λ t. if t then f m else f i) other.0))
        (eqb_tells (f i) n)

    g_below : (i : ℕ) → i < m → g i < n
    g_below i lt = ⊎_elim
        (λ same.
        let bound : f m < suc n = below m (omega arith) in
        let other : f m ≢ n = (λ e. last i lt (same.0 ∙ sym e)) in
        omega (arith, same.1, bound, other))
        (λ other. let bound : f i < suc n = below i (omega arith) in omega (arith, other.0, other.1, bound))
        (g_is i)

    g_apart : (i j : ℕ) → i < m → j < m → g i ≡ g j → i ≡ j
    g_apart i j lt lt' same = ⊎_elim
        (λ here. ⊎_elim
        (λ there. apart i j (omega arith) (omega arith) (here.0 ∙ sym there.0))
        (λ there. absurd (last j lt' (sym (sym here.1 ∙ same ∙ there.1))))
        (g_is j))
        (λ here. ⊎_elim
        (λ there. absurd (last i lt (sym here.1 ∙ same ∙ there.1)))
        (λ there. apart i j (omega arith) (omega arith) (sym here.1 ∙ same ∙ there.1))
        (g_is j))
        (g_is i)

-- a list is no longer than the pool
pub count_fits : (places : List Place) (words : List Word) (free : Free) → ArePooled places words free → (k : ℕ) → count_of words free k ≤ length places
count_fits places words free pooled k =
    distinct_below (count_of words free k) (length places) (place_at places (start_of words free k)) (pooled.within k)
    (λ i j lt lt' same. (pooled.apart k k i j lt lt' same).1)

-- the places of a word that was read
pub read_within : (places : List Place) (words : List Word) (free : Free) → ArePooled places words free → (a : ℕ) (read : Word) → read ≡ get_or words a no_word → StaysWithin places read.newest read.later
read_within places words free pooled a read same = subst (λ (w : Word). StaysWithin places w.newest w.later) (sym same) (pooled.within (suc a))

-- ---- lists made of others

-- Where a place of a list came from. Where the old one went is told by two functions, so no old place goes to two lists.
pub record Comes (places places' : List Place) (words words' : List Word) (free free' : Free) (list_of place_of : ℕ → ℕ → ℕ) (k i : ℕ) : Type 0 where
  pub list : ℕ
  pub place : ℕ
  pub below : place < count_of words free list
  pub is : place_at places' (start_of words' free' k) i ≡ place_at places (start_of words free list) place
  pub to_list : list_of list place ≡ k
  pub to_place : place_of list place ≡ i

pub pooled_from : (places places' : List Place) (words words' : List Word) (free free' : Free) (list_of place_of : ℕ → ℕ → ℕ) → ArePooled places words free
    → length places' ≡ length places → ((k i : ℕ) → i < count_of words' free' k → Comes places places' words words' free free' list_of place_of k i)
    → ArePooled places' words' free'
pooled_from places places' words words' free free' list_of place_of pooled long comes = record {
  within = λ k i lt.
      let from = comes k i lt in
      let below : place_at places (start_of words free from.list) from.place < length places = pooled.within from.list from.place from.below in
      subst (λ n. n < length places') (sym from.is) (subst (λ n. place_at places (start_of words free from.list) from.place < n) (sym long) below);
  apart = λ k l i j lt lt' same.
      let a = comes k i lt in
      let b = comes l j lt' in
      let both = pooled.apart a.list b.list a.place b.place a.below b.below (sym a.is ∙ same ∙ b.is) in
      (sym a.to_list ∙ (λ t. list_of (both.0 t) (both.1 t)) ∙ b.to_list, sym a.to_place ∙ (λ t. place_of (both.0 t) (both.1 t)) ∙ b.to_place);
}
