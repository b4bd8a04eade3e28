-- The first recovery word that asks for a repair.
use Rattle.std.proofs.Common.{◌≡◌, ◌≢◌, inl, inr, ℕ, ◌+◌, ◌<◌, ◌≤◌, refl, sym, ◌∙◌, subst, arith}
use Rattle.std.proofs.lemmas.Bool.{cases_lt}
use Rattle.persist_model.specs.Region.{Words}
use Rattle.persist_model.specs.Shape.{Shape, list_words}
use Rattle.recovery_run.specs.Reached.{IsQuiet}
use Rattle.rest_check.specs.Rest.{AsksAt, AreQuiet, IsFirstAsked}

-- one number more
pub below_more : (P : ℕ → Type 0) (n : ℕ) → ((p : ℕ) → p < n → P p) → P n → (p : ℕ) → p < n + 1 → P p
below_more P n before here p lt = elim (cases_lt p n) [
  | inl less ↦ before p less
  | inr more ↦ (let e : n ≡ p = omega (arith, lt, more) in subst P e here)
]

pub asked_is_unquiet : (w : Words) (p a : ℕ) → AsksAt w p a → IsQuiet p w → ⊥
asked_is_unquiet w p a (inl h) quiet = h.1 (subst (λ b. w b ≡ 0) (sym h.0) quiet.0)
asked_is_unquiet w p a (inr h) quiet = h.2 (subst (λ b. w b ≡ 0) (sym h.1) quiet.1)

asked_here : (w : Words) (p a b : ℕ) → AsksAt w p a → AsksAt w p b → a ≡ b
asked_here w p a b (inl h) (inl k) = h.0 ∙ sym k.0
asked_here w p a b (inl h) (inr k) = absurd (h.1 (subst (λ c. w c ≡ 0) (sym h.0) k.0))
asked_here w p a b (inr h) (inl k) = absurd (k.1 (subst (λ c. w c ≡ 0) (sym k.0) h.0))
asked_here w p a b (inr h) (inr k) = h.1 ∙ sym k.1

pub asked_is_one : (shape : Shape) (w : Words) (a b : ℕ) → IsFirstAsked shape w a → IsFirstAsked shape w b → a ≡ b
asked_is_one shape w a b h k = elim (cases_lt h.part k.part) [
  | inl less ↦ absurd (asked_is_unquiet w h.part a h.asks (k.before h.part less))
  | inr more ↦ elim (cases_lt k.part h.part) [
    | inl less ↦ absurd (asked_is_unquiet w k.part b k.asks (h.before k.part less))
    | inr other ↦ (let e : k.part ≡ h.part = omega (arith, more, other) in asked_here w h.part a b h.asks (subst (λ p. AsksAt w p b) e k.asks))
  ]
]
