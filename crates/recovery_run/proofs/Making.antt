-- How a plan goes on, event by event.
use Rattle.std.proofs.Common.{◌≡◌, ℕ, zero, suc, ◌+◌, ◌≤◌, List, [], ◌∷◌, ◌++◌, length, take, drop, sum_by, get_or, Some, None, refl, ◌∙◌, ap, subst, arith}
use Rattle.std.specs.Prelude.{slice_get}
use Rattle.std.proofs.lemmas.List.{take_more}
use Rattle.std.proofs.lemmas.List.Sums.{sum_by-drop_more}
use Rattle.std.proofs.lemmas.Option.{get_or_from_slice_get, slice_get_within}
use Rattle.persist_model.specs.declared.event.Event.{Event}
use Rattle.persist_model.specs.declared.event.Event.TheVariants.{Store, PStore, WriteBack, Fence}
use Rattle.persist_model.specs.Region.{Region, after}
use Rattle.lane_traits.specs.Device.{stores_of}
use Rattle.log_laws.specs.Parts.{after_plan}

push : (lane : ℕ) (region : Region) (xs : List Event) (e : Event) → after_plan lane region (xs ++ e ∷ []) ≡ after (after_plan lane region xs) lane e
push lane region [] e = refl
push lane region (x ∷ xs) e = push lane (after region lane x) xs e

-- one event more
pub plan_more : (lane : ℕ) (region : Region) (plan : List Event) (i : ℕ) (e : Event) → slice_get plan i ≡ Some e →
    after_plan lane region (take (i + 1) plan) ≡ after (after_plan lane region (take i plan)) lane e
plan_more lane region plan i e found =
    ap (after_plan lane region) (take_more plan i e (slice_get_within plan i e found)) ∙ push lane region (take i plan) (get_or plan i e)
    ∙ ap (after (after_plan lane region (take i plan)) lane) (get_or_from_slice_get plan i e e found)

-- the places that the events from i on take
pub places_left : (plan : List Event) (i : ℕ) (e : Event) → slice_get plan i ≡ Some e → sum_by stores_of (drop i plan) ≡ stores_of e + sum_by stores_of (drop (i + 1) plan)
places_left plan i e found =
    subst (λ x. sum_by stores_of (drop i plan) ≡ stores_of x + sum_by stores_of (drop (i + 1) plan)) (get_or_from_slice_get plan i e e found)
    (sum_by-drop_more stores_of plan i e (slice_get_within plan i e found))

pub past_end : (plan : List Event) (i : ℕ) → slice_get plan i ≡ None → length plan ≤ i
past_end [] i e = omega arith
past_end (x ∷ plan) zero e = cc
past_end (x ∷ plan) (suc i) e = let h = past_end plan i e in omega (arith, h)

pub take_whole : (plan : List Event) (i : ℕ) → length plan ≤ i → take i plan ≡ plan
take_whole [] zero h = refl
take_whole [] (suc i) h = refl
take_whole (x ∷ plan) zero h = absurd (omega arith)
take_whole (x ∷ plan) (suc i) h = ap (λ xs. x ∷ xs) (take_whole plan i (omega arith))

pub same_size : (region : Region) (lane : ℕ) (e : Event) → (after region lane e).size ≡ region.size
same_size region lane (Store a v) = refl
same_size region lane (PStore a v) = refl
same_size region lane (WriteBack a) = refl
same_size region lane Fence = refl
