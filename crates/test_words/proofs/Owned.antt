-- One owner word more is set.
use Rattle.std.proofs.Common.{◌≡◌, ◌≢◌, inl, inr, ℕ, ◌+◌, ◌*◌, ◌<◌, List, length, slice_set, sym, subst, ◌∙◌, arith}
use Rattle.std.specs.Prelude.{slice_index}
use Rattle.std.proofs.lemmas.Bool.Decides.{eqb_tells}
use Rattle.std.proofs.lemmas.List.{get_or-set_same, get_or-set_other}

module _ (xs : List ℕ) (k : ℕ) where
  pub owners_more : 16 + 16 * k < length xs → ((j : ℕ) → j < k → slice_index xs (16 + 16 * j) ≡ 1)
      → (j : ℕ) → j < k + 1 → ◌≡◌ {A = ℕ} (slice_index (slice_set xs (16 + 16 * k) 1) (16 + 16 * j)) 1
  owners_more within h j lt = elim (eqb_tells j k) [
    | inl e ↦ subst (λ i. ◌≡◌ {A = ℕ} (slice_index (slice_set xs (16 + 16 * k) 1) (16 + 16 * i)) 1) (sym e.1) (get_or-set_same xs (16 + 16 * k) 1 0 within)
    | inr ne ↦ (let apart = ne.1 in get_or-set_other xs (16 + 16 * k) (16 + 16 * j) 1 0 (λ e. apart (omega (arith, e))) ∙ h j (omega (arith, lt, apart)))
  ]

  pub others_stay : ((a : ℕ) → ((j : ℕ) → j < k → a ≢ 16 + 16 * j) → slice_index xs a ≡ 0)
      → (a : ℕ) → ((j : ℕ) → j < k + 1 → a ≢ 16 + 16 * j) → ◌≡◌ {A = ℕ} (slice_index (slice_set xs (16 + 16 * k) 1) a) 0
  others_stay h a out = get_or-set_other xs (16 + 16 * k) a 1 0 (out k (omega arith)) ∙ h a (λ j lt. out j (omega (arith, lt)))
