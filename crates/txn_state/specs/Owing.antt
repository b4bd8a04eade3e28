-- What the calls in progress may still want: events, places of the ledger, and places in the lists of a closing.
use Rattle.std.specs.Prelude.{ℕ, ◌+◌, ◌*◌, ◌-◌, ◌%◌, ◌<◌, ◌≤◌, length, false, List}
use Rattle.persist_model.specs.Shape.{Shape}
use Rattle.lane_book.specs.declared.book.Book.{Book}
use Rattle.lane_book.specs.FacesOf.{lane_at}
use Rattle.log_keeper.specs.declared.keeper.LogKeeper.{LogKeeper}
use Rattle.log_keeper.specs.Parts.{plan_of}
use Rattle.log_keeper.specs.Keeper.{HasRoomIn, free_places}
use Rattle.log_keeper.specs.Listing.{gates_in}
use Rattle.history_laws.specs.UnderWay.{UnderWay, nothing, appends, closes, takes_back, drops, run_of}
use Rattle.txn_laws.specs.Txns.{Txn, txn_at}
use Rattle.txn_laws.specs.Rooms.{sum_below}
use Rattle.txn_laws.specs.Worlds.{World}
use Rattle.txn_state.specs.Stages.{Stage, Free, Between, Leaving, Naming, Storing, Deleting, Securing, Opening, Undoing, TakingBack, Keeping, Ending, Closing, ClosingEnd, Dropping, Unbuilt, stage_of}
use Rattle.txn_state.specs.Ties.{under_of}

-- ---- the bounds

-- so many events, so many records to be drawn, and lists for so many gates
pub record Needs : Type 0 where
  pub events : ℕ
  pub records : ℕ
  pub gates : ℕ

abbrev pub needs : ℕ → ℕ → ℕ → Needs
needs events records gates = record { events = events; records = records; gates = gates }

-- an append has at most so many events, and a removal has these
abbrev pub append_most : Shape → ℕ
append_most shape = 21 + shape.cells

abbrev pub REMOVAL_EVENTS : ℕ
REMOVAL_EVENTS = 7

-- the events of a part that are still to be made
abbrev pub events_left : Shape → ℕ → UnderWay → ℕ
events_left shape p u = length (plan_of shape p (run_of u).part) - (run_of u).made

-- those of an append that may not have begun, and whether its record is still to be drawn
abbrev pub append_left : Shape → ℕ → UnderWay → ℕ
append_left shape p nothing = append_most shape
append_left shape p (appends adding made) = events_left shape p (appends adding made)
append_left shape p (closes gates ends made) = 0
append_left shape p (takes_back gates made) = 0
append_left shape p (drops r made) = 0

abbrev pub draw_left : UnderWay → ℕ
draw_left nothing = 1
draw_left (appends adding made) = 0
draw_left (closes gates ends made) = 0
draw_left (takes_back gates made) = 0
draw_left (drops r made) = 0

-- Behind the end's fence: the closing of n records and of the end, with their fences, and the removal of each bucket.
abbrev pub clearing_left : Shape → ℕ → ℕ
clearing_left shape n = (n + 1) + (2 + REMOVAL_EVENTS * shape.buckets)

-- the end, and what comes behind it
abbrev pub ending_left : Shape → ℕ → ℕ
ending_left shape n = append_most shape + clearing_left shape n

-- n updates are taken back: a compensation and a store each
abbrev pub undoing_left : Shape → ℕ → ℕ
undoing_left shape n = n * (append_most shape + 1)

-- What is left of the call at each stage, where the ledger has n records of the transaction beside its end, and the partition's chain c buckets.
abbrev pub needs_at : Shape → ℕ → ℕ → ℕ → UnderWay → Txn → Stage → Needs
needs_at shape p n c u x Free = needs 0 0 0
needs_at shape p n c u x Between = needs 0 0 0
needs_at shape p n c u x Leaving = needs 0 0 0
needs_at shape p n c u x Naming = needs (append_left shape p u + 1) (draw_left u) 0
needs_at shape p n c u x Storing = needs 1 0 0
needs_at shape p n c u x Deleting = needs (append_left shape p u) (draw_left u) 0
needs_at shape p n c u x Securing = needs (1 + ending_left shape n) 1 (n + 1)
needs_at shape p n c u x Opening =
    let updates = length x.updates in
    let records = n + draw_left u + updates in
    needs (append_left shape p u + (undoing_left shape updates + (1 + ending_left shape records))) (draw_left u + (updates + 1)) (records + 1)
needs_at shape p n c u x Undoing =
    let others = length x.updates - 1 in
    let records = n + draw_left u + others in
    needs (append_left shape p u + (1 + (undoing_left shape others + (1 + ending_left shape records)))) (draw_left u + (others + 1)) (records + 1)
needs_at shape p n c u x TakingBack =
    let updates = length x.updates in
    needs (1 + (undoing_left shape updates + (1 + ending_left shape (n + updates)))) (updates + 1) (n + updates + 1)
needs_at shape p n c u x Keeping = needs (1 + ending_left shape n) 1 (n + 1)
needs_at shape p n c u x Ending = needs (append_left shape p u + clearing_left shape n) (draw_left u) (n + 1)
needs_at shape p n c u x Closing = needs (events_left shape p u + (2 + REMOVAL_EVENTS * c)) 0 1
needs_at shape p n c u x ClosingEnd = needs (events_left shape p u + REMOVAL_EVENTS * c) 0 0
needs_at shape p n c u x Dropping = needs (events_left shape p u + REMOVAL_EVENTS * (c - 1)) 0 0
needs_at shape p n c u x Unbuilt = needs 0 0 0

-- ---- what is kept

-- the records of a transaction in the ledger, beside its end
abbrev pub records_noted : World → ℕ → ℕ
records_noted w t = length (gates_in t false w.keeping.ledger)

-- what lane l's call may still want
abbrev pub needs_of : {E : Type 0} → Shape → (ℕ → List ℕ) → Book E → World → ℕ → Needs
needs_of shape chains book w l =
    let p = l % shape.partitions in
    let x = txn_at w.lanes l in
    needs_at shape p (records_noted w x.number) (length (chains p)) (under_of shape w l) x (stage_of (lane_at book l))

pub record OwesEnough {E : Type 0} (shape : Shape) (chains : ℕ → List ℕ) (book : Book E) (keeper : LogKeeper) (w : World) (l : ℕ) : Type 0 where
  pub events : (needs_of shape chains book w l).events ≤ (lane_at book l).owed_events
  pub records : (needs_of shape chains book w l).records ≤ (lane_at book l).owed_records
  pub lists : HasRoomIn keeper.slots.items (l % shape.partitions) (needs_of shape chains book w l).gates

-- Each lane owes what its call may want, and there are places for all that is owed, in the device and in the ledger.
pub record IsOwing {E : Type 0} (shape : Shape) (chains : ℕ → List ℕ) (book : Book E) (keeper : LogKeeper) (w : World) (spare : ℕ) : Type 0 where
  pub each : (l : ℕ) → l < length book.lanes.items → OwesEnough shape chains book keeper w l
  pub stores : sum_below (λ l. (lane_at book l).owed_events) (length book.lanes.items) ≤ spare
  pub places : sum_below (λ l. (lane_at book l).owed_records) (length book.lanes.items) ≤ free_places keeper
