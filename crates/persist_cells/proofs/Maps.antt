-- Look-ups in a finite map with one more pair, and without a key.
use Rattle.std.proofs.Common.{◌≡◌, ◌≢◌, inl, inr, ℕ, ◌<◌, ◌≤◌, Bool, true, false, if◌then◌else◌, ◌==◌, nat_lt, [], ◌∷◌, Some, None, refl, sym, ◌∙◌, subst, ap, arith}
use Rattle.std.proofs.lemmas.Bool.Decides.{nat_tests, eqb_tells}
use Rattle.region_layout.specs.FiniteMap.{FiniteMap, lookup, with_pair, without_key, AreAfter, HasAscendingKeys}

pub after_weaker : (m n : ℕ) (ps : FiniteMap) → n ≤ m → AreAfter m ps → AreAfter n ps
after_weaker m n [] le h = h
after_weaker m n (p ∷ ps) le h = (let f = h.0 in omega (arith, f, le), after_weaker m n ps le h.1)

put_after : (m key value : ℕ) (ps : FiniteMap) → m < key → AreAfter m ps → AreAfter m (with_pair key value ps)
put_after m key value [] less h = (less, tt)
put_after m key value (p ∷ ps) less h = by_key (put_after m key value ps less h.1) (key == p.0) (nat_lt key p.0)
  where
    by_key : AreAfter m (with_pair key value ps) → (a b : Bool)
        → AreAfter m (if a then (key, value) ∷ ps else (if b then (key, value) ∷ (p ∷ ps) else p ∷ with_pair key value ps))
    by_key again true b = (less, h.1)
    by_key again false true = (less, (h.0, h.1))
    by_key again false false = (h.0, again)

pub put_ascends : (key value : ℕ) (ps : FiniteMap) → HasAscendingKeys ps → HasAscendingKeys (with_pair key value ps)
put_ascends key value [] h = (tt, tt)
put_ascends key value (p ∷ ps) h =
    elim (eqb_tells key p.0) [
      | inl e ↦ (let on = e.0 in rw on (subst (λ m. AreAfter m ps) (sym e.1) h.0, h.1))
      | inr ne ↦ by_order (put_ascends key value ps h.1) ne.0 ne.1 (nat_lt key p.0) refl
    ]
  where
    by_order : HasAscendingKeys (with_pair key value ps) → (key == p.0) ≡ false → key ≢ p.0 → (x : Bool) → nat_lt key p.0 ≡ x → HasAscendingKeys (with_pair key value (p ∷ ps))
    by_order again off apart true is =
        let less : key < p.0 = grind (arith, nat_tests) in
        rw (off, is) ((less, after_weaker p.0 key ps (omega (arith, less)) h.0), (h.0, h.1))
    by_order again off apart false is =
        let more : p.0 < key = grind (arith, nat_tests) in
        rw (off, is) (put_after p.0 key value ps more h.0, again)

after_without : (m key : ℕ) (ps : FiniteMap) → AreAfter m ps → AreAfter m (without_key key ps)
after_without m key [] h = h
after_without m key (p ∷ ps) h = by_key (after_without m key ps h.1) (key == p.0)
  where
    by_key : AreAfter m (without_key key ps) → (a : Bool) → AreAfter m (if a then ps else p ∷ without_key key ps)
    by_key again true = h.1
    by_key again false = (h.0, again)

pub without_ascends : (key : ℕ) (ps : FiniteMap) → HasAscendingKeys ps → HasAscendingKeys (without_key key ps)
without_ascends key [] h = h
without_ascends key (p ∷ ps) h = by_key (without_ascends key ps h.1) (key == p.0)
  where
    by_key : HasAscendingKeys (without_key key ps) → (a : Bool) → HasAscendingKeys (if a then ps else p ∷ without_key key ps)
    by_key again true = h.1
    by_key again false = (after_without p.0 key ps h.0, again)

-- ---- look-ups

pub lookup_after : (key : ℕ) (qs : FiniteMap) → AreAfter key qs → lookup key qs ≡ None
lookup_after key [] h = refl
lookup_after key (q ∷ qs) h =
    let here = h.0 in
    let off : (key == q.0) ≡ false = grind (arith, nat_tests) in
    rw off (lookup_after key qs h.1)

pub equal_on : (n : ℕ) → (n == n) ≡ true
equal_on n = grind (arith, nat_tests)

pub equal_off : (m n : ℕ) → m ≢ n → (m == n) ≡ false
equal_off m n ne = grind (arith, nat_tests)

pub put_here : (key value : ℕ) (m : FiniteMap) → lookup key (with_pair key value m) ≡ Some value
put_here key value [] = let on = equal_on key in rw on refl
put_here key value (p ∷ ps) = by_key (put_here key value ps) (key == p.0) refl (nat_lt key p.0)
  where
    by_key : lookup key (with_pair key value ps) ≡ Some value → (a : Bool) → (key == p.0) ≡ a → (b : Bool)
        → lookup key (if a then (key, value) ∷ ps else (if b then (key, value) ∷ (p ∷ ps) else p ∷ with_pair key value ps)) ≡ Some value
    by_key again true is b = let on = equal_on key in rw on refl
    by_key again false is true = let on = equal_on key in rw on refl
    by_key again false is false = rw is again

pub put_elsewhere : (k key value : ℕ) (m : FiniteMap) → k ≢ key → lookup k (with_pair key value m) ≡ lookup k m
put_elsewhere k key value [] ne = let off = equal_off k key ne in rw off refl
put_elsewhere k key value (p ∷ ps) ne = elim (eqb_tells key p.0) [
  | inl e ↦ (let on = e.0 in let off = equal_off k key ne in let there = equal_off k p.0 (λ q. ne (q ∙ sym e.1)) in rw (on, off, there) refl)
  | inr other ↦ (let away = other.0 in rw away (by_order (put_elsewhere k key value ps ne) (nat_lt key p.0)))
]
  where
    by_order : lookup k (with_pair key value ps) ≡ lookup k ps → (b : Bool) → lookup k (if b then (key, value) ∷ (p ∷ ps) else p ∷ with_pair key value ps) ≡ lookup k (p ∷ ps)
    by_order again true = let off = equal_off k key ne in rw off refl
    by_order again false = ap (λ x. if k == p.0 then Some p.1 else x) again

pub without_here : (key : ℕ) (m : FiniteMap) → HasAscendingKeys m → lookup key (without_key key m) ≡ None
without_here key [] h = refl
without_here key (p ∷ ps) h = elim (eqb_tells key p.0) [
  | inl e ↦ (let on = e.0 in rw on (lookup_after key ps (subst (λ n. AreAfter n ps) (sym e.1) h.0)))
  | inr other ↦ (let away = other.0 in let again = without_here key ps h.1 in rw (away, away) again)
]

pub without_elsewhere : (k key : ℕ) (m : FiniteMap) → k ≢ key → lookup k (without_key key m) ≡ lookup k m
without_elsewhere k key [] ne = refl
without_elsewhere k key (p ∷ ps) ne = elim (eqb_tells key p.0) [
  | inl e ↦ (let on = e.0 in let there = equal_off k p.0 (λ q. ne (q ∙ sym e.1)) in rw (on, there) refl)
  | inr other ↦ (let away = other.0 in rw away (ap (λ x. if k == p.0 then Some p.1 else x) (without_elsewhere k key ps ne)))
]

pub without_missing : (key : ℕ) (ps : FiniteMap) → lookup key ps ≡ None → without_key key ps ≡ ps
without_missing key [] none = refl
without_missing key (p ∷ ps) none = by_key (without_missing key ps) (key == p.0) none
  where
    by_key : (lookup key ps ≡ None → without_key key ps ≡ ps) → (a : Bool) → (if a then Some p.1 else lookup key ps) ≡ None → (if a then ps else p ∷ without_key key ps) ≡ p ∷ ps
    by_key again true none = absurd (cc)
    by_key again false none = ap (λ xs. p ∷ xs) (again none)
