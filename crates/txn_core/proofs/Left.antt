-- How many events of a part are left.
use Rattle.std.proofs.Common.{◌≡◌, inl, inr, ℕ, ◌+◌, ◌-◌, ◌<◌, ◌≤◌, ◌==◌, ◌&&◌, Bool, true, false, not, nat_lt, List, length, Option, Some, slice_get, refl, sym, ap, ◌∙◌, arith}
use Rattle.std.proofs.lemmas.Bool.{cases_lt}
use Rattle.std.proofs.lemmas.Bool.Decides.{eqb_tells, nat_tests}
use Rattle.std.proofs.lemmas.Option.{slice_get_cases}
use Rattle.persist_model.specs.declared.event.Event.{Event}
use Rattle.log_keeper.specs.Making.{is_over}

-- an event of the plan is before its end
before_end : (plan : List Event) (n : ℕ) (e : Event) → slice_get plan n ≡ Some e → n < length plan
before_end plan n e some = elim (slice_get_cases plan n).1 [
  | inl k ↦ k.1
  | inr k ↦ (let none = k.1 in absurd (cc))
]

past : (n m : ℕ) → not (nat_lt n m) ≡ true → m ≤ n
past n m over = elim (cases_lt n m) [
  | inl lt ↦ (let on : nat_lt n m ≡ true = grind (arith, nat_tests, lt) in let wrong : false ≡ true = sym (ap not on) ∙ over in absurd (cc))
  | inr le ↦ le
]

not_past : (n m : ℕ) → not (nat_lt n m) ≡ false → n < m
not_past n m going = elim (cases_lt n m) [
  | inl lt ↦ lt
  | inr le ↦ (let off : nat_lt n m ≡ false = grind (arith, nat_tests, le) in let wrong : true ≡ false = sym (ap not off) ∙ going in absurd (cc))
]

-- the event that was found is the next,
pub next_is : (plan : List Event) (m : ℕ) (found : Option Event) (e : Event) → found ≡ slice_get plan m → found ≡ Some e → slice_get plan m ≡ Some e
next_is plan m found e is some = sym is ∙ some

-- which is the last,
pub last_left : (plan : List Event) (m : ℕ) (e : Event) (last : Bool) → slice_get plan m ≡ Some e → last ≡ is_over plan (m + 1) → last ≡ true → m + 1 ≡ length plan
last_left plan m e last some told is_last =
    let lt = before_end plan m e some in let le = past (m + 1) (length plan) (sym told ∙ is_last) in omega (arith, lt, le)

-- or the last but one,
pub gate_left : (plan : List Event) (m : ℕ) (last : Bool) → last ≡ is_over plan (m + 1) → last ≡ false → is_over plan (m + 2) ≡ true → m + 2 ≡ length plan
gate_left plan m last told goes_on over =
    let lt = not_past (m + 1) (length plan) (sym told ∙ goes_on) in let le = past (m + 2) (length plan) over in omega (arith, lt, le)

-- or not the last
pub more_left : (plan : List Event) (m : ℕ) (last : Bool) → last ≡ is_over plan (m + 1) → last ≡ false → m + ((length plan - (m + 2)) + 2) ≡ length plan
more_left plan m last told goes_on = let lt = not_past (m + 1) (length plan) (sym told ∙ goes_on) in omega (arith, lt)

-- a plan that goes on behind event n doesn't end with it
not_end : (plan : List Event) (n : ℕ) → is_over plan n ≡ false → (n == length plan) ≡ false
not_end plan n going = elim (eqb_tells n (length plan)) [
  | inl k ↦ (let lt = not_past n (length plan) going in let e = k.1 in absurd (omega (arith, lt, e)))
  | inr k ↦ k.0
]

-- where that isn't the last but one of an append, it stores no gate
pub no_gate : (append : Bool) (plan : List Event) (n : ℕ) → (append && is_over plan n) ≡ false → (append && (n == length plan)) ≡ false
no_gate false plan n going = refl
no_gate true plan n going = not_end plan n going
