-- How many events an append has, and a group of a closing.
use Rattle.std.proofs.Common.{◌≡◌, inl, inr, ℕ, ◌+◌, ◌≤◌, Bool, true, false, if◌then◌else◌, List, [], ◌∷◌, ◌++◌, length, sym, ◌∙◌, subst, arith, length-append}
use Rattle.std.proofs.lemmas.List.{length-map}
use Rattle.std.proofs.lemmas.Option.{slice_get_cases, slice_get_past}
use Rattle.persist_model.specs.Records.{Record}
use Rattle.persist_model.specs.Shape.{Shape}
use Rattle.persist_model.specs.Chain.{out_event}
use Rattle.bucket_log.specs.declared.append.Place.{Place}
use Rattle.bucket_log.specs.Plans.{append_plan, append_events}
use Rattle.bucket_log.specs.Appends.{region_append}
use Rattle.bucket_log.proofs.AppendPlans.{appends_have_events}
use Rattle.log_clearing.specs.Plans.{group, closing_plan}
use Rattle.log_clearing.proofs.PlanEvents.{length-group}

append_length : (cells : ℕ) (place : Place) (r : Record) → length (append_plan cells place r) ≡ append_events cells place
append_length cells place r =
    let most = (appends_have_events cells place r (length (append_plan cells place r))).0 (slice_get_past (append_plan cells place r) (length (append_plan cells place r)) (omega arith)) in
    let least : length (append_plan cells place r) ≤ append_events cells place = (elim (slice_get_cases (append_plan cells place r) (append_events cells place)).1 [
      | inl k ↦ (let some = k.2 in let none = (appends_have_events cells place r (append_events cells place)).1 (omega arith) in absurd (cc))
      | inr k ↦ k.0
    ]) in
    omega (arith, most, least)

between : (cells : ℕ) (fresh : Bool) → (10 ≤ (if fresh then 21 + cells else 10)) × ((if fresh then 21 + cells else 10) ≤ 21 + cells)
between cells true = (omega arith, omega arith)
between cells false = (omega arith, omega arith)

pub append_between : (shape : Shape) (p : ℕ) (place : Place) (r : Record) → (10 ≤ length (region_append shape p place r)) × (length (region_append shape p place r) ≤ 21 + shape.cells)
append_between shape p place r = subst (λ n. (10 ≤ n) × (n ≤ 21 + shape.cells)) (sym (length-map (append_plan shape.cells place r) (out_event p) ∙ append_length shape.cells place r)) (between shape.cells place.fresh)

-- gates of one group alone
pub closing_length : (a : ℕ) (gates : List ℕ) → length (closing_plan (a ∷ gates) [] []) ≡ length (a ∷ gates) + 1
closing_length a gates = let l = length-group (a ∷ gates) (λ z. cc) in let whole = length-append (group (a ∷ gates)) (group [] ++ group []) in omega (arith, l, whole)
