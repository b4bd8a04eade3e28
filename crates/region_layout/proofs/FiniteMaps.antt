-- One list for each finite map.
use Rattle.std.proofs.Common.{◌≡◌, ◌≢◌, ◌⊎◌, inl, inr, ⊎_elim, ℕ, ◌<◌, ◌≤◌, true, false, if◌then◌else◌, ◌==◌, [], ◌∷◌, Option, Some, None, refl, ap, sym, ◌∙◌, arith, subst}
use Rattle.std.proofs.lemmas.Bool.Decides.{nat_tests, eqb_tells}
use Rattle.std.proofs.lemmas.Bool.{cases_lt}
use Rattle.region_layout.specs.FiniteMap.{FiniteMap, lookup, AreAfter, HasAscendingKeys}

after_none : (k : ℕ) (m : FiniteMap) → AreAfter k m → lookup k m ≡ None
after_none k [] h = refl
after_none k (p ∷ ps) h = let less = h.0 in let off : (k == p.0) ≡ false = grind (arith, nat_tests) in rw off (after_none k ps h.1)

after_less : (m n : ℕ) (ps : FiniteMap) → n ≤ m → AreAfter m ps → AreAfter n ps
after_less m n [] le h = tt
after_less m n (p ∷ ps) le h = (let f = h.0 in omega (arith, le, f), after_less m n ps le h.1)

-- the value of a map's first key
pub first_of : (p : ℕ × ℕ) (ps : FiniteMap) → lookup p.0 (p ∷ ps) ≡ Some p.1
first_of p ps = let on : (p.0 == p.0) ≡ true = grind (arith, nat_tests) in rw on refl

pub none_some : (o : Option ℕ) (v : ℕ) → o ≡ None → o ≡ Some v → ⊥
none_some o v e f = let q : None ≡ Some v = sym e ∙ f in cc

-- ascending lists with the same look-ups are one
pub same_entries : (a b : FiniteMap) → HasAscendingKeys a → HasAscendingKeys b → ((k : ℕ) → lookup k a ≡ lookup k b) → a ≡ b
same_entries [] [] ha hb same = refl
same_entries [] (q ∷ qs) ha hb same = absurd (none_some (lookup q.0 []) q.1 refl (same q.0 ∙ first_of q qs))
same_entries (p ∷ ps) [] ha hb same = absurd (none_some (lookup p.0 []) p.1 refl (sym (same p.0) ∙ first_of p ps))
same_entries (p ∷ ps) (q ∷ qs) ha hb same = step (trichotomy p.0 q.0) (λ rest. same_entries ps qs ha.1 hb.1 rest)
  where
    trichotomy : (m n : ℕ) → (m ≡ n) ⊎ ((m < n) ⊎ (n < m))
    trichotomy m n = ⊎_elim (λ e. inl e.1) (λ ne. inr (let d = ne.1 in ⊎_elim (λ lt. inl lt) (λ ge. inr (omega (arith, d, ge))) (cases_lt m n))) (eqb_tells m n)

    step : (p.0 ≡ q.0) ⊎ ((p.0 < q.0) ⊎ (q.0 < p.0)) → (((k : ℕ) → lookup k ps ≡ lookup k qs) → ps ≡ qs) → p ∷ ps ≡ q ∷ qs
    step (inl e) again =
        let value : Some p.1 ≡ Some q.1 = sym (first_of p ps) ∙ same p.0 ∙ ap (λ k. lookup k (q ∷ qs)) e ∙ first_of q qs in
        let second : p.1 ≡ q.1 = cc in
        let both : p ≡ q = λ i. (e i, second i) in
        ap (λ (x : ℕ × ℕ). x ∷ ps) both ∙ ap (λ xs. q ∷ xs) (again (λ k. ⊎_elim
        (λ here. let at : k ≡ p.0 = here.1 in
        after_none k ps (subst (λ x. AreAfter x ps) (sym at) ha.0) ∙ sym (after_none k qs (subst (λ x. AreAfter x qs) (sym (at ∙ e)) hb.0)))
        (λ there. past k there.0 (let ne = there.1 in λ f. ne (f ∙ sym e)))
        (eqb_tells k p.0)))
      where
        past : (k : ℕ) → (k == p.0) ≡ false → k ≢ q.0 → lookup k ps ≡ lookup k qs
        past k off ne =
            let no : (k == q.0) ≡ false = grind (arith, nat_tests) in
            let at = same k in
            sym (ap (λ t. if t then Some p.1 else lookup k ps) off) ∙ at ∙ ap (λ t. if t then Some q.1 else lookup k qs) no
    step (inr (inl less)) again = absurd (none_some (lookup p.0 (q ∷ qs)) p.1
        (after_none p.0 (q ∷ qs) (less, after_less q.0 p.0 qs (omega (arith, less)) hb.0)) (sym (same p.0) ∙ first_of p ps))
    step (inr (inr more)) again = absurd (none_some (lookup q.0 (p ∷ ps)) q.1
        (after_none q.0 (p ∷ ps) (more, after_less p.0 q.0 ps (omega (arith, more)) ha.0)) (same q.0 ∙ first_of q qs))
