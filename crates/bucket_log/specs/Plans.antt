-- The plan of an append. Addresses are those of the partition's view.
use Rattle.std.specs.Prelude.{ℕ, zero, suc, ◌+◌, if◌then◌else◌, List, [], ◌∷◌, ◌++◌}
use Rattle.persist_model.specs.declared.event.Event.{Event}
use Rattle.persist_model.specs.declared.event.Event.TheVariants.{PStore, Fence}
use Rattle.persist_model.specs.Records.{Record}
use Rattle.persist_model.specs.ImageRecords.{cell_address}
use Rattle.atomic_list.specs.declared.plans.Insert.{Insert}
use Rattle.atomic_list.specs.Plans.{insertion, HasEvents}
use Rattle.bucket_log.specs.declared.append.Place.{Place}

-- 0 to the gates of the bucket's first n cells, in order
abbrev pub closing : ℕ → ℕ → List Event
closing bucket zero = []
closing bucket (suc n) = closing bucket n ++ PStore (cell_address bucket n) 0 ∷ []

-- words 1 to 7 of the record's cell, and a fence
abbrev pub body : Record → List Event
body r =
    PStore (r.at + 1) r.transaction ∷ PStore (r.at + 2) r.kind ∷ PStore (r.at + 3) r.word ∷ PStore (r.at + 4) r.before ∷
    PStore (r.at + 5) r.after ∷ PStore (r.at + 6) r.undo_next ∷ PStore (r.at + 7) r.outcome ∷ Fence ∷ []

abbrev pub opening : Record → List Event
opening r = PStore r.at r.lsn ∷ Fence ∷ []

abbrev pub cell_plan : Record → List Event
cell_plan r = body r ++ opening r

abbrev pub insertion_of : Place → Insert
insertion_of place = record { node = place.bucket; tail = place.tail }

abbrev pub place_address : Place → ℕ
place_address place = cell_address place.bucket place.cell

-- a fresh bucket's gates are zeroed and it is put behind the chain; then the record's cell is written, and its gate last
abbrev pub append_plan : ℕ → Place → Record → List Event
append_plan cells place r = (if place.fresh then closing place.bucket cells ++ insertion (insertion_of place) else []) ++ cell_plan r

-- a fresh append has exactly 21 events and one for each cell of a bucket, another has 10
abbrev pub append_events : ℕ → Place → ℕ
append_events cells place = if place.fresh then 21 + cells else 10

abbrev pub AppendsHaveEvents : Type 0
AppendsHaveEvents = (cells : ℕ) (place : Place) (r : Record) → HasEvents (append_plan cells place r) (append_events cells place)
