-- A part of recovery's plan on log words, as an append, a closing, a removal or a repair: what its images are, from what it does to the log words alone.
use Rattle.std.proofs.Common.{◌≡◌, ◌⊎◌, inl, inr, ℕ, zero, suc, ◌<◌, ◌≤◌, List, [], ◌∷◌, take, ◌∙◌, arith}
use Rattle.persist_model.specs.declared.event.Event.{Event}
use Rattle.persist_model.specs.declared.event.Event.TheVariants.{Store, PStore, WriteBack, Fence}
use Rattle.persist_model.specs.Region.{Words}
use Rattle.persist_model.specs.Progress.{Progress, Wrote, latest, start, advance, advance_all, Reaches}
use Rattle.persist_model.specs.Runs.{progress_at}
use Rattle.persist_model.specs.Shape.{Shape, heap, words_of_shape}
use Rattle.persist_model.specs.State.{State}
use Rattle.log_laws.specs.Recovery.{HasDecidingRecord}
use Rattle.log_laws.specs.Recovering.{IsAtRest, IsOnLog, AreOnLog}
use Rattle.persist_model.proofs.Tracking.{latest_cases, Wrote-push_other}
use Rattle.persist_model.proofs.Projecting.{AreAway, AreAway-take, IsFixed-aways, IsFixed-start, Reaches-fixed, SameOn, SameOn-events, Reaches-same, Reaches-part, latest_none}

-- each heap word is durable as it was, or at some value of a covered word, and what is pending is of covered words
abbrev HasHeap : Shape → Words → State → Progress → Type 0
HasHeap shape w s p = (a : ℕ) → heap shape ≤ a → a < words_of_shape shape →
    ((p.durable a ≡ w a) ⊎ HasDecidingRecord shape.policy s.log a) × ((v : ℕ) → Wrote p.pending a v → HasDecidingRecord shape.policy s.log a)

heap_event : (shape : Shape) (w : Words) (s : State) (p : Progress) (e : Event) → IsOnLog shape e → HasHeap shape w s p → HasHeap shape w s (advance p e)
heap_event shape w s p (Store b x) on h = h
heap_event shape w s p (WriteBack b) on h = h
heap_event shape w s p (PStore b x) on h = λ a le lt. ((h a le lt).0, λ v k. (h a le lt).1 v (Wrote-push_other p.pending b x a v (λ e. absurd (omega (arith, on, le, e))) k))
heap_event shape w s p Fence on h = λ a le lt. (
  elim (latest_cases p.pending a (p.durable a)) [
    | inl none ↦ elim (h a le lt).0 [ inl e ↦ inl (none.0 ∙ e) | inr c ↦ inr c ]
    | inr wrote ↦ inr ((h a le lt).1 (latest p.pending a (p.durable a)) wrote)
  ],
  λ v k. elim k [ ],
)

heap_events : (shape : Shape) (w : Words) (s : State) (p : Progress) (events : List Event) → AreOnLog shape events → HasHeap shape w s p → HasHeap shape w s (advance_all p events)
heap_events shape w s p [] on h = h
heap_events shape w s p (e ∷ events) on h = heap_events shape w s (advance p e) events on.1 (heap_event shape w s p e on.0 h)

on_log_take : (shape : Shape) (k : ℕ) (events : List Event) → AreOnLog shape events → AreOnLog shape (take k events)
on_log_take shape zero events on = tt
on_log_take shape (suc k) [] on = tt
on_log_take shape (suc k) (e ∷ events) on = (on.0, on_log_take shape k events on.1)

same_on_log : (shape : Shape) (p : Progress) (w : Words) (s : State) → heap shape ≤ words_of_shape shape → IsAtRest shape p w s → SameOn (λ a. a < heap shape) p (start w)
same_on_log shape p w s fits h = record {
  durable = λ a lt. h.durable a (omega (arith, lt, fits));
  pending = λ a lt v k. absurd (h.log a lt v k);
  latests = λ a lt u. latest_none p.pending a u (h.log a lt);
}

-- In each image of a prefix of the part the log words are as the part's own plan leaves them, from the durable words; and a heap word
-- has its durable value, or is covered.
pub part_image : (shape : Shape) (p : Progress) (w v : Words) (s : State) (plan : List Event) (k : ℕ) → IsAtRest shape p w s → AreOnLog shape plan →
    Reaches (λ a. a < words_of_shape shape) (advance_all p (take k plan)) v →
    Reaches (λ a. a < heap shape) (progress_at w plan k) v × ((a : ℕ) → heap shape ≤ a → a < words_of_shape shape → (v a ≡ w a) ⊎ HasDecidingRecord shape.policy s.log a)
part_image shape p w v s plan k h on r =
    let fits : heap shape ≤ words_of_shape shape = omega arith in
    let ends : HasHeap shape w s (advance_all p (take k plan)) =
    heap_events shape w s p (take k plan) (on_log_take shape k plan on) (λ a le lt. (inl (h.durable a lt), h.heap a le)) in (
      Reaches-same (λ a. a < heap shape) (advance_all p (take k plan)) (progress_at w plan k) v
          (SameOn-events (λ a. a < heap shape) p (start w) (take k plan) (same_on_log shape p w s fits h))
          (Reaches-part (λ a. a < words_of_shape shape) (λ a. a < heap shape) (advance_all p (take k plan)) v (λ a lt. omega (arith, lt, fits)) r),
      λ a le lt. elim (r a lt) [
        | inl e ↦ elim (ends a le lt).0 [ inl d ↦ inl (e ∙ d) | inr c ↦ inr c ]
        | inr wrote ↦ inr ((ends a le lt).1 (v a) wrote)
      ],
    )

on_log_away : (shape : Shape) (a : ℕ) (events : List Event) → heap shape ≤ a → AreOnLog shape events → AreAway a events
on_log_away shape a [] le on = tt
on_log_away shape a (Store b v ∷ events) le on = (tt, on_log_away shape a events le on.1)
on_log_away shape a (PStore b v ∷ events) le on = ((λ e. let lt = on.0 in absurd (omega (arith, e, lt, le))), on_log_away shape a events le on.1)
on_log_away shape a (WriteBack b ∷ events) le on = (tt, on_log_away shape a events le on.1)
on_log_away shape a (Fence ∷ events) le on = (tt, on_log_away shape a events le on.1)

-- where nothing was pending when the part began, each heap word has its durable value in each image
pub part_image_settled : (shape : Shape) (w v : Words) (plan : List Event) (k : ℕ) → AreOnLog shape plan →
    Reaches (λ a. a < words_of_shape shape) (progress_at w plan k) v → (a : ℕ) → heap shape ≤ a → a < words_of_shape shape → v a ≡ w a
part_image_settled shape w v plan k on r a le lt =
    Reaches-fixed (λ a. a < words_of_shape shape) (progress_at w plan k) v a (w a) lt
    (IsFixed-aways (start w) a (w a) (take k plan) (AreAway-take a k plan (on_log_away shape a plan le on)) (IsFixed-start w a)) r
