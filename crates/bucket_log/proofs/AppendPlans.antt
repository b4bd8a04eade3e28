-- The events of an append by their numbers.
use Rattle.std.proofs.Common.{◌≡◌, ◌↔◌, inl, inr, ℕ, zero, suc, ◌+◌, ◌-◌, ◌<◌, ◌≤◌, Bool, true, false, if◌then◌else◌, List, [], ◌∷◌, ◌++◌, length, Some, None, refl, ap, ◌∙◌, arith, length-append, subst}
use Rattle.std.specs.Prelude.{slice_get}
use Rattle.std.proofs.lemmas.Bool.{cases_lt}
use Rattle.persist_model.specs.declared.event.Event.{Event}
use Rattle.persist_model.specs.declared.event.Event.TheVariants.{PStore}
use Rattle.persist_model.specs.Records.{Record}
use Rattle.persist_model.specs.ImageRecords.{cell_address}
use Rattle.atomic_list.specs.Plans.{insertion}
use Rattle.bucket_log.specs.declared.append.Place.{Place}
use Rattle.bucket_log.specs.Plans.{closing, cell_plan, insertion_of, append_plan, append_events, AppendsHaveEvents}

slice_get-left : (xs ys : List Event) (i : ℕ) → i < length xs → slice_get (xs ++ ys) i ≡ slice_get xs i
slice_get-left [] ys i h = absurd (omega arith)
slice_get-left (x ∷ xs) ys zero h = refl
slice_get-left (x ∷ xs) ys (suc i) h = slice_get-left xs ys i (omega arith)

slice_get-right : (xs ys : List Event) (i : ℕ) → length xs ≤ i → slice_get (xs ++ ys) i ≡ slice_get ys (i - length xs)
slice_get-right [] ys i h = let e : i - 0 ≡ i = omega arith in rw e
slice_get-right (x ∷ xs) ys zero h = absurd (omega arith)
slice_get-right (x ∷ xs) ys (suc i) h = let e : suc i - suc (length xs) ≡ i - length xs = omega arith in rw e (slice_get-right xs ys i (omega arith))

pub length-closing : (b n : ℕ) → length (closing b n) ≡ n
length-closing b zero = refl
length-closing b (suc n) = length-append (closing b n) _ ∙ (let e = length-closing b n in omega arith)

slice_get-closing : (b n i : ℕ) → i < n → slice_get (closing b n) i ≡ Some (PStore (cell_address b i) 0)
slice_get-closing b zero i h = absurd (omega arith)
slice_get-closing b (suc n) i h = let len = length-closing b n in elim (cases_lt i n) [
  | inl lt ↦ slice_get-left (closing b n) (PStore (cell_address b n) 0 ∷ []) i (omega arith) ∙ slice_get-closing b n i lt
  | inr ge ↦ let e : i ≡ n = omega arith in
      slice_get-right (closing b n) (PStore (cell_address b n) 0 ∷ []) i (omega arith)
      ∙ (let z : i - length (closing b n) ≡ 0 = omega arith in rw (z, e))
]

module _ (cells : ℕ) (place : Place) (r : Record) (i : ℕ) (fresh : place.fresh ≡ true) where
  abbrev shut : List Event
  shut = closing place.bucket cells

  pub plan_shutting : i < cells → slice_get (append_plan cells place r) i ≡ Some (PStore (cell_address place.bucket i) 0)
  plan_shutting h =
      let len = length-closing place.bucket cells in
      let both = length-append shut (insertion (insertion_of place)) in
      rw fresh (slice_get-left (shut ++ insertion (insertion_of place)) (cell_plan r) i (omega arith)
      ∙ slice_get-left shut (insertion (insertion_of place)) i (omega arith) ∙ slice_get-closing place.bucket cells i h)

  pub plan_putting : cells ≤ i → i - cells < 11 → slice_get (append_plan cells place r) i ≡ slice_get (insertion (insertion_of place)) (i - cells)
  plan_putting h k =
      let len = length-closing place.bucket cells in
      let both = length-append shut (insertion (insertion_of place)) in
      rw fresh (slice_get-left (shut ++ insertion (insertion_of place)) (cell_plan r) i (omega arith)
      ∙ slice_get-right shut (insertion (insertion_of place)) i (omega arith) ∙ ap (λ n. slice_get (insertion (insertion_of place)) (i - n)) len)

  pub plan_cell : cells ≤ i → 11 ≤ i - cells → slice_get (append_plan cells place r) i ≡ slice_get (cell_plan r) (i - cells - 11)
  plan_cell h k =
      let len = length-closing place.bucket cells in
      let both = length-append shut (insertion (insertion_of place)) in
      let e : i - length (shut ++ insertion (insertion_of place)) ≡ i - cells - 11 = omega arith in
      rw fresh (slice_get-right (shut ++ insertion (insertion_of place)) (cell_plan r) i (omega arith) ∙ ap (slice_get (cell_plan r)) e)

-- how many events an append has
length-append_plan : (cells : ℕ) (place : Place) (r : Record) → length (append_plan cells place r) ≡ append_events cells place
length-append_plan cells place r = by place.fresh
  where
    by : (fresh : Bool) → length ((if fresh then closing place.bucket cells ++ insertion (insertion_of place) else []) ++ cell_plan r) ≡ (if fresh then 21 + cells else 10)
    by true =
        let len = length-closing place.bucket cells in
        let both = length-append (closing place.bucket cells) (insertion (insertion_of place)) in
        let all = length-append (closing place.bucket cells ++ insertion (insertion_of place)) (cell_plan r) in
        omega arith
    by false = refl

has_events : (plan : List Event) (i : ℕ) → (slice_get plan i ≡ None) ↔ (length plan ≤ i)
has_events [] i = (λ e. omega arith, λ h. refl)
has_events (x ∷ plan) zero = (λ e. cc, λ h. absurd (omega arith))
has_events (x ∷ plan) (suc i) = let k = has_events plan i in (λ e. (let le = k.0 e in omega (arith, le)), λ h. k.1 (omega (arith, h)))

pub appends_have_events : AppendsHaveEvents
appends_have_events cells place r i = subst (λ n. (slice_get (append_plan cells place r) i ≡ None) ↔ (n ≤ i)) (length-append_plan cells place r) (has_events (append_plan cells place r) i)
