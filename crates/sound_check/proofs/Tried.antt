-- The rules of a list, put together from their parts.
use Rattle.std.proofs.Common.{◌≡◌, ◌≢◌, ◌⊎◌, inl, inr, ℕ, ◌+◌, ◌<◌, ◌≤◌, List, [], ◌∷◌, ◌++◌, length, get_or, drop, refl, sym, ap, ◌∙◌, subst}
use Rattle.std.proofs.lemmas.List.{drop_all}
use Rattle.persist_model.specs.Region.{Words}
use Rattle.persist_model.specs.Shape.{Shape}
use Rattle.persist_model.specs.Chain.{TAIL, next_of, prev_of, Each, last_or, IsExcepted, LinksBackBut}
use Rattle.persist_model.specs.Visit.{chain_from, links_of, links_at, address_words}
use Rattle.persist_model.specs.Faults.{FaultSet, TriedEach, TryLinksBack, TryPoints, NoFault}
use Rattle.log_laws.proofs.ListFaults.{PointsHold, links_at_none, links_at_some}
use Rattle.sound_check.specs.Rules.{ChangesHold, IsWrongChange, ListHolds}
use Rattle.sound_check.proofs.BucketLists.{drop_next}
use Rattle.sound_check.proofs.Left.{IsLeft, left_all, left_goes_on, left_fails}

-- ---- the links of the buckets that were visited

links_next : (xs : List ℕ) (i : ℕ) → i < length xs → links_of (drop i xs) ≡ next_of (get_or xs i 0) ∷ prev_of (get_or xs i 0) ∷ links_of (drop (i + 1) xs)
links_next xs i lt = ap links_of (drop_next xs i lt)

pub visited_next : (P : ℕ → Type 0) (n : ℕ) (at : ℕ → ℕ) (xs : List ℕ) (i : ℕ) → i < length xs → IsLeft P n at (links_of xs) (links_of (drop i xs)) →
    Each P (get_or xs i 0 ∷ (get_or xs i 0 + 1) ∷ []) → IsLeft P n at (links_of xs) (links_of (drop (i + 1) xs))
visited_next P n at xs i lt h good =
    left_goes_on P n at (links_of xs) (get_or xs i 0 ∷ (get_or xs i 0 + 1) ∷ []) (links_of (drop (i + 1) xs)) (subst (IsLeft P n at (links_of xs)) (links_next xs i lt) h) good

pub visited_fails : (P : ℕ → Type 0) (n : ℕ) (at : ℕ → ℕ) (xs : List ℕ) (i : ℕ) → i < length xs → IsLeft P n at (links_of xs) (links_of (drop i xs)) → (fault a : ℕ) →
    TriedEach P n at (get_or xs i 0 ∷ (get_or xs i 0 + 1) ∷ []) NoFault fault a → TriedEach P n at (links_of xs) NoFault fault a
visited_fails P n at xs i lt h fault a f =
    left_fails P n at (links_of xs) (get_or xs i 0 ∷ (get_or xs i 0 + 1) ∷ []) (links_of (drop (i + 1) xs)) (subst (IsLeft P n at (links_of xs)) (links_next xs i lt) h) fault a f

pub visited_done : (P : ℕ → Type 0) (n : ℕ) (at : ℕ → ℕ) (xs : List ℕ) (i : ℕ) → length xs ≤ i → IsLeft P n at (links_of xs) (links_of (drop i xs)) → Each P (links_of xs)
visited_done P n at xs i le h = (subst (IsLeft P n at (links_of xs)) (ap links_of (drop_all i xs le)) h).holds tt

-- ---- the links of a bucket that a word names

pub named_is : (w : Words) (a n : ℕ) → n ≡ w a → n ≢ 0 → n ∷ (n + 1) ∷ [] ≡ links_at w a
named_is w a n e ne = ap (λ x. x ∷ (x + 1) ∷ []) e ∙ sym (links_at_some w a (subst (λ x. x ≢ 0) e ne))

pub named_none : (P : ℕ → Type 0) (w : Words) (a n : ℕ) → n ≡ w a → n ≡ 0 → Each P (links_at w a)
named_none P w a n e z = subst (Each P) (sym (links_at_none w a (sym e ∙ z))) tt

-- ---- all words of the address rule

abbrev five : List ℕ
five = 8 ∷ 9 ∷ 10 ∷ 11 ∷ 12 ∷ []

module _ (P : ℕ → Type 0) (w : Words) (visited : List ℕ) (n : ℕ) (at : ℕ → ℕ) where
  pub first_left : Each P five → IsLeft P n at (address_words w visited) (links_of visited ++ (links_at w 10 ++ links_at w 12))
  first_left h = left_goes_on P n at (address_words w visited) five (links_of visited ++ (links_at w 10 ++ links_at w 12)) (left_all P n at (address_words w visited)) h

  pub first_fails : (i a : ℕ) → TriedEach P n at five NoFault i a → TriedEach P n at (address_words w visited) NoFault i a
  first_fails i a f = left_fails P n at (address_words w visited) five (links_of visited ++ (links_at w 10 ++ links_at w 12)) (left_all P n at (address_words w visited)) i a f

  pub second_left : Each P five → Each P (links_of visited) → IsLeft P n at (address_words w visited) (links_at w 10 ++ links_at w 12)
  second_left h k = left_goes_on P n at (address_words w visited) (links_of visited) (links_at w 10 ++ links_at w 12) (first_left h) k

  pub second_fails : Each P five → (i a : ℕ) → TriedEach P n at (links_of visited) NoFault i a → TriedEach P n at (address_words w visited) NoFault i a
  second_fails h i a f = left_fails P n at (address_words w visited) (links_of visited) (links_at w 10 ++ links_at w 12) (first_left h) i a f

  pub third_left : Each P five → Each P (links_of visited) → Each P (links_at w 10) → IsLeft P n at (address_words w visited) (links_at w 12)
  third_left h k l = left_goes_on P n at (address_words w visited) (links_at w 10) (links_at w 12) (second_left h k) l

  pub third_fails : Each P five → Each P (links_of visited) → (i a : ℕ) → TriedEach P n at (links_at w 10) NoFault i a → TriedEach P n at (address_words w visited) NoFault i a
  third_fails h k i a f = left_fails P n at (address_words w visited) (links_at w 10) (links_at w 12) (second_left h k) i a f

-- ---- the list rules

pub change_fails : (shape : Shape) (base : ℕ) (w : Words) (visited : List ℕ) (i a : ℕ) → IsWrongChange shape base w visited (chain_from w visited) i a → TryPoints shape base w visited NoFault i a
change_fails shape base w visited i a (inl f) = inl f
change_fails shape base w visited i a (inr (h, inl f)) = inr (h, inl f)
change_fails shape base w visited i a (inr (h, inr (k, inl f))) = inr (h, inr (k, inl f))
change_fails shape base w visited i a (inr (h, inr (k, inr (l, inl f)))) = inr (h, inr (k, inr (l, inl f)))
change_fails shape base w visited i a (inr (h, inr (k, inr (l, inr (m, f))))) = absurd f

prevs_more : (w : Words) (next : FaultSet) (before : ℕ) (xs : List ℕ) (i a : ℕ) → TryLinksBack w before xs NoFault i a → TryLinksBack w before xs next i a
prevs_more w next before [] i a f = absurd f
prevs_more w next before (x ∷ xs) i a (inl f) = inl f
prevs_more w next before (x ∷ xs) i a (inr f) = inr (f.0, prevs_more w next x xs i a f.1)

prevs_past : (w : Words) (next : FaultSet) (before : ℕ) (xs : List ℕ) (i a : ℕ) → LinksBackBut w before xs → next i a → TryLinksBack w before xs next i a
prevs_past w next before [] i a h f = f
prevs_past w next before (x ∷ xs) i a h f = inr (h.0, prevs_past w next x xs i a h.1 f)

pub prev_fails : (shape : Shape) (base : ℕ) (w : Words) (visited : List ℕ) (i a : ℕ) → ChangesHold shape w visited (chain_from w visited) → TryLinksBack w 0 (chain_from w visited) NoFault i a →
    TryPoints shape base w visited NoFault i a
prev_fails shape base w visited i a h f = inr (h.single, inr (h.arrived, inr (h.appending, inr (h.removing, prevs_more w _ 0 (chain_from w visited) i a f))))

pub tail_fails : (shape : Shape) (base : ℕ) (w : Words) (visited : List ℕ) → ChangesHold shape w visited (chain_from w visited) → LinksBackBut w 0 (chain_from w visited) →
    ((w TAIL ≡ last_or 0 (chain_from w visited)) ⊎ IsExcepted w TAIL → ⊥) → TryPoints shape base w visited NoFault 6 (base + 1)
tail_fails shape base w visited h k bad = inr (h.single, inr (h.arrived, inr (h.appending, inr (h.removing, prevs_past w _ 0 (chain_from w visited) 6 (base + 1) k (inl (bad, refl, refl))))))

pub points_of : (shape : Shape) (w : Words) (visited : List ℕ) → ListHolds shape w visited (chain_from w visited) → PointsHold shape w visited (Unit {0})
points_of shape w visited h = (h.changes.single, (h.changes.arrived, (h.changes.appending, (h.changes.removing, (h.links_back, (h.tail, tt))))))
