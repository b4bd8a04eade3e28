-- The plans of events of a list. Addresses are those of the partition's view, with its list words at 8 to 12.
use Rattle.std.specs.Prelude.{◌≡◌, ◌↔◌, ℕ, ◌≤◌, ◌==◌, if◌then◌else◌, List, [], ◌∷◌, drop, None, slice_get}
use Rattle.persist_model.specs.declared.event.Event.{Event}
use Rattle.persist_model.specs.declared.event.Event.TheVariants.{PStore, Fence}
use Rattle.persist_model.specs.Region.{Words}
use Rattle.persist_model.specs.Chain.{TAIL, TO_APPEND, LAST_TAIL, TO_REMOVE, next_of, prev_of, word_behind, word_before}
use Rattle.atomic_list.specs.declared.plans.Insert.{Insert}
use Rattle.atomic_list.specs.declared.plans.Remove.{Remove}
use Rattle.atomic_list.specs.declared.repairing.Repair.{Repair}
use Rattle.atomic_list.specs.declared.repairing.Repair.TheVariants.{Nothing, Append, Remove as TakeOut}

abbrev pub insertion : Insert → List Event
insertion a =
    PStore (next_of a.node) 0 ∷ PStore (prev_of a.node) a.tail ∷ PStore LAST_TAIL a.tail ∷ Fence ∷
    PStore TO_APPEND a.node ∷ Fence ∷
    PStore (word_behind a.tail) a.node ∷ PStore TAIL a.node ∷ Fence ∷
    PStore TO_APPEND 0 ∷ Fence ∷ []

abbrev pub removal : Remove → List Event
removal r =
    PStore TO_REMOVE r.node ∷ Fence ∷
    PStore (word_behind r.prev) r.next ∷ PStore (word_before r.next) r.prev ∷ Fence ∷
    PStore TO_REMOVE 0 ∷ Fence ∷ []

-- the events 6 to 10 of the insertion, or the last five of the removal
abbrev pub repair_plan : Repair → List Event
repair_plan Nothing = []
repair_plan (Append a) = drop 6 (insertion a)
repair_plan (TakeOut r) = drop 2 (removal r)

-- ---- what the recovery words ask for

abbrev pub removal_asked : Words → ℕ → Remove
removal_asked w n = record { node = n; prev = w (prev_of n); next = w (next_of n) }

abbrev pub insertion_asked : Words → Insert
insertion_asked w = record { node = w TO_APPEND; tail = w LAST_TAIL }

abbrev pub repair_asked : Words → Repair
repair_asked w = if w TO_APPEND == 0 then (if w TO_REMOVE == 0 then Nothing else TakeOut (removal_asked w (w TO_REMOVE))) else Append (insertion_asked w)

-- ---- how many events there are

-- the plan has an event i exactly where i is below this number
abbrev pub HasEvents : List Event → ℕ → Type 0
HasEvents plan count = (i : ℕ) → (slice_get plan i ≡ None) ↔ (count ≤ i)

abbrev pub repair_events : Repair → ℕ
repair_events Nothing = 0
repair_events (Append a) = 5
repair_events (TakeOut r) = 5

-- an insertion has 11 events, a removal 7, a repair of something 5
abbrev pub PlansHaveEvents : Type 0
PlansHaveEvents = ((a : Insert) → HasEvents (insertion a) 11) × ((r : Remove) → HasEvents (removal r) 7) × ((r : Repair) → HasEvents (repair_plan r) (repair_events r))
