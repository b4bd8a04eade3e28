use Rattle.std.proofs.Common.{◌∙◌, ◌≡◌, ◌%◌, if◌then◌else◌, false, refl, ap}
use Rattle.persist_model.specs.declared.kinds.Outcome.TheVariants.{Committed, RolledBack}
use Rattle.lane_book.specs.declared.lane.Lane.{Lane}
use Rattle.lane_book.specs.declared.lane.Doing.TheVariants as Doing
use Rattle.lane_book.specs.FacesOf.{lane_at}
use Rattle.lane_book.proofs.Faces.{lane_read}
use Rattle.lane_book.specs.Steps.{HasEntry}
use Rattle.txn_state.specs.Stages.{Ending, is_commit}
use Rattle.txn_state.specs.AppendLaws.{IsNextCell}
use Rattle.txn_state.specs.ReadLaws.{appends_in, makes_events}
use Rattle.txn_core.proofs.EndedLanes.{ending_recorded}
use Rattle.txn_core.proofs.Appended.{paid_calling, stored_is_paid, whole_is_paid}
use Rattle.txn_core.proofs.Calling.{is_calling}
use Rattle.txn_core.proofs.Facts.{IsRead, is_book, slots_are, can_begin, runs_behind, owes_event}
use Rattle.txn_core.proofs.Reading.{read_of}
use Rattle.txn_core.proofs.Exits.{append_answered}
use Rattle.txn_core.proofs.Paying.{IsPaid}
use Rattle.txn_core.proofs.QuietFacts.{few_commits, has_entry, has_place}
use Rattle.txn_core.proofs.Stagings.{unjoined, commit_calls}
use Rattle.txn_core.proofs.EndedLanes.{next_end, commits_on, entry_on, few_on, place_on, may_end}
use Rattle.txn_core.proofs.EndedStores.{ends_open, end_is_stored}
use Rattle.txn_core.proofs.EndedWhole.{has_records_room, end_slot, closing_turned, commit_settles}
use Rattle.txn_core.proofs.ends.append_commit.Goals as goal
use Rattle.txn_core.proofs.ends.append_commit.Goals.{After-end_cell-cell, In-Whole}
use Rattle.txn_core.proofs.ExactParts.{append_answered_exactly, append_stored_paid, append_whole_paid, paid_moves}
use Rattle.txn_core.proofs.ExactJoins.{commit_joins}

-- the device's laws
read : (g : _) (c : After-end_cell-cell g) → IsRead (g.D.Look.words c.args.device.now) (g.D.Device.cells c.args.device.now) (g.D.Device.counts c.args.device.now)
read g c = read_of _ _ (g.D.Device.counts c.args.device.now) (g.met.D.Device.reads c.args.device.now) (g.met.D.Device.full c.args.device.now)
    (g.met.D.Device.within c.args.device.now)
    (g.met.D.Device.budget_fits c.args.device.now)

-- the cell is that of the lane's end
next : (g : _) (c : After-end_cell-cell g) → IsNextCell (g.D.Device.cells c.args.device.now) (lane_at c.args.book.now c.args.lane) c.end_cell-cell.result
next g c = next_end (g.D.Device.cells c.args.device.now) (lane_at c.args.book.now c.args.lane) c.end_cell-cell.result c.index.result.now.transaction Committed
    c.requires.stage c.end_cell-cell.ensures
    (ap (λ (x : Lane _). x.transaction) (lane_read c.args.book.now c.args.lane c.index.result.now c.requires.lane c.index.ensures))
    (λ i. if is_commit (c.requires.doing i) then Committed else RolledBack)

pub append-requires-clause-can : goal.append-requires-clause-can
append-requires-clause-can g c = can_begin g.E.Deed.meaning c.args.layout c.args.book.now c.args.log.now _ _ _ (g.D.Device.counts c.args.device.now) c.args.lane
    (read g (goal.at.append-requires-clause-can g c).After-end_cell-cell) c.requires.lane (ap appends_in c.requires.stage) c.requires.world

pub append-requires-clause-behind : goal.append-requires-clause-behind
append-requires-clause-behind g c =
    let at = goal.at.append-requires-clause-behind g c in
    runs_behind g.E.Deed.meaning c.args.layout c.args.book.now c.args.log.now _ _ _ (g.D.Device.counts c.args.device.now) c.args.lane c.end_cell-cell.result
    (read g at.After-end_cell-cell) c.requires.lane (ap appends_in c.requires.stage) (next g at.After-end_cell-cell) c.requires.world

pub append-requires-clause-book : goal.append-requires-clause-book
append-requires-clause-book g c = is_book _ _ _ _ _ _ (g.D.Device.counts c.args.device.now) c.requires.world

pub end_stored-requires-clause-lane : goal.end_stored-requires-clause-lane
end_stored-requires-clause-lane g c = paid_calling c.args.book.now c.append.new.book c.args.lane
    (stored_is_paid g.E.Deed.meaning c.args.layout c.args.book.now c.append.new.book c.args.log.now c.append.new.log _ _ _ _ _
    (g.D.Device.counts c.args.device.now) (g.D.Device.counts c.append.new.device) c.args.lane _ c.requires.lane _ c.in-Stored.ensures.appends)
    (is_calling _ _ _ _ _ _ (g.D.Device.counts c.args.device.now) c.args.lane (ap makes_events c.requires.stage) c.requires.world) c.append.ensures.book

pub end_stored-requires-clause-end : goal.end_stored-requires-clause-end
end_stored-requires-clause-end g c =
    let at = goal.at.end_stored-requires-clause-end g c in
    may_end c.args.book.now c.append.new.book c.args.lane
    (stored_is_paid g.E.Deed.meaning c.args.layout c.args.book.now c.append.new.book c.args.log.now c.append.new.log _ _ _ _ _
    (g.D.Device.counts c.args.device.now) (g.D.Device.counts c.append.new.device) c.args.lane _ c.requires.lane _ c.in-Stored.ensures.appends)
    Doing.Commit c.requires.doing refl
    (ends_open g.E.Deed.meaning c.args.layout c.args.book.now c.append.new.book c.args.log.now c.append.new.log _ _ _ _ _ (g.D.Device.counts c.args.device.now)
    (g.D.Device.counts c.append.new.device) c.args.lane _ _
    (read g at.After-end_cell-cell) c.requires.lane c.requires.stage (next g at.After-end_cell-cell) c.requires.world c.in-Stored.ensures.appends)

pub begin_closing-requires-clause-slot : goal.begin_closing-requires-clause-slot
begin_closing-requires-clause-slot g c =
    let at = goal.at.begin_closing-requires-clause-slot g c in
    end_slot g.E.Deed.meaning c.args.layout c.args.book.now c.append.new.book c.args.log.now c.append.new.log _ _ _ _ _ (g.D.Device.counts c.args.device.now)
    (g.D.Device.counts c.append.new.device) c.args.lane _
    (read g at.After-end_cell-cell) c.requires.lane c.requires.stage (next g at.After-end_cell-cell)
    (slots_are _ _ _ _ _ _ (g.D.Device.counts c.args.device.now) c.requires.world) c.in-Whole.ensures.appends

pub begin_closing-requires-clause-room : goal.begin_closing-requires-clause-room
begin_closing-requires-clause-room g c =
    let at = goal.at.begin_closing-requires-clause-room g c in
    has_records_room g.E.Deed.meaning c.args.layout c.args.book.now c.append.new.book c.args.log.now c.append.new.log _ _ _ _ _
    (g.D.Device.counts c.args.device.now) (g.D.Device.counts c.append.new.device) c.args.lane _
    (read g at.After-end_cell-cell) c.requires.lane c.requires.stage (next g at.After-end_cell-cell) _
    (ap (λ (x : Lane _). x.transaction) (lane_read c.args.book.now c.args.lane c.index.result.now c.requires.lane c.index.ensures)) c.requires.world
    c.in-Whole.ensures.appends

-- the lane that has its entry, behind the payment
joining : (g : _) (c : In-Whole g) → IsPaid c.args.book.now c.append.new.book c.args.lane
joining g c = whole_is_paid g.E.Deed.meaning c.args.layout c.args.book.now c.append.new.book c.args.log.now c.append.new.log _ _ _ _ _
    (g.D.Device.counts c.args.device.now) (g.D.Device.counts c.append.new.device) c.args.lane _
    c.requires.lane c.in-Whole.ensures.appends

new : (g : _) (c : In-Whole g) → (lane_at c.args.book.now c.args.lane).entered ≡ false
new g c = unjoined (lane_at c.args.book.now c.args.lane) Ending c.requires.stage refl c.requires.phased

entry : (g : _) (c : In-Whole g) → HasEntry c.args.lane (lane_at c.append.new.book c.args.lane)
entry g c = entry_on c.args.book.now c.append.new.book c.args.lane (joining g c)
    (has_entry _ _ _ _ _ _ (g.D.Device.counts c.args.device.now) c.args.lane c.requires.doing (new g c) c.requires.world)

pub join-requires-clause-lane : goal.join-requires-clause-lane
join-requires-clause-lane g c = commits_on c.args.book.now c.append.new.book c.args.lane (joining g (goal.at.join-requires-clause-lane g c).In-Whole)
    (commit_calls (lane_at c.args.book.now c.args.lane) c.requires.doing c.requires.phased) c.requires.doing c.append.ensures.book

pub join-requires-clause-entry : goal.join-requires-clause-entry
join-requires-clause-entry g c = entry g (goal.at.join-requires-clause-entry g c).In-Whole

pub join-requires-clause-few : goal.join-requires-clause-few
join-requires-clause-few g c = few_on c.args.book.now c.append.new.book c.args.lane (joining g (goal.at.join-requires-clause-few g c).In-Whole) _
    (few_commits _ _ _ _ _ _ (g.D.Device.counts c.args.device.now) c.args.lane c.requires.world)

pub join-requires-clause-room : goal.join-requires-clause-room
join-requires-clause-room g c =
    let at = goal.at.join-requires-clause-room g c in
    place_on c.args.book.now c.append.new.book c.args.lane (joining g at.In-Whole)
    (has_place _ _ _ _ _ _ (g.D.Device.counts c.args.device.now) c.args.lane c.requires.lane c.requires.doing (new g at.In-Whole) c.requires.world)

pub returns-in-Answered-clause-steps : goal.returns-in-Answered-clause-steps
returns-in-Answered-clause-steps g c =
    let at = goal.at.returns-in-Answered-clause-steps g c in
    append_answered g.E.Deed.meaning c.args.layout c.args.book.now c.append.new.book c.args.log.now c.append.new.log _ _ _ _ _
    (g.D.Device.counts c.args.device.now) (g.D.Device.counts c.append.new.device) c.args.lane _ _
    (read g at.After-end_cell-cell) c.requires.lane (ap appends_in c.requires.stage) (next g at.After-end_cell-cell) c.in-Answered.ensures.appends

pub returns-in-Stored-clause-steps : goal.returns-in-Stored-clause-steps
returns-in-Stored-clause-steps g c =
    let at = goal.at.returns-in-Stored-clause-steps g c in
    end_is_stored g.E.Deed.meaning c.args.layout c.args.book.now c.append.new.book c.end_stored.new.self c.args.log.now c.append.new.log _ _ _ _ _
    (g.D.Device.counts c.args.device.now) (g.D.Device.counts c.append.new.device) c.args.lane
    _ _ _ _ (read g at.After-end_cell-cell) c.requires.lane c.requires.stage (next g at.After-end_cell-cell) c.in-Stored.ensures.appends c.part-part.ensures
    c.end_stored.ensures.result c.end_stored.ensures.reserved c.end_stored.ensures.moves

pub returns-in-Whole-clause-steps : goal.returns-in-Whole-clause-steps
returns-in-Whole-clause-steps g c =
    let at = goal.at.returns-in-Whole-clause-steps g c in
    commit_settles g.E.Deed.meaning c.args.layout c.args.book.now c.append.new.book _ c.args.log.now c.append.new.log c.begin_closing.new.self _ _ _ _ _
    (g.D.Device.counts c.args.device.now) (g.D.Device.counts c.append.new.device) c.args.lane _ _
    g.met.E.Deed.depends (read g at.After-end_cell-cell) c.requires.lane c.requires.stage c.requires.doing (next g at.After-end_cell-cell) c.in-Whole.ensures.appends
    (closing_turned (c.args.lane % c.args.layout.partitions) c.index.result.now.transaction _ c.append.new.log c.begin_closing.new.self
    (ap (λ (x : Lane _). x.transaction) (lane_read c.args.book.now c.args.lane c.index.result.now c.requires.lane c.index.ensures))
    c.begin_closing.ensures.kept c.begin_closing.ensures.number c.begin_closing.ensures.ledger c.begin_closing.ensures.slots)
    c.join.ensures.result (entry g at.In-Whole) c.join.ensures.is c.append.ensures.book c.join.ensures.book c.join.ensures.step

pub returns-in-Answered-clause-exact : goal.returns-in-Answered-clause-exact
returns-in-Answered-clause-exact g c = append_answered_exactly g.E.Deed.meaning c.args.layout c.args.book.now c.append.new.book c.args.log.now c.append.new.log _ _ _ _ _ (g.D.Device.counts c.args.device.now) (g.D.Device.counts c.append.new.device) c.args.lane _ _
    c.requires.lane (ap appends_in c.requires.stage) (ap makes_events c.requires.stage) (owes_event _ _ _ _ _ _ (g.D.Device.counts c.args.device.now) c.args.lane c.requires.lane (ap makes_events c.requires.stage) c.requires.world).0 (g.met.D.Device.within c.append.new.device) c.in-Answered.ensures.appends

pub returns-in-Stored-clause-exact : goal.returns-in-Stored-clause-exact
returns-in-Stored-clause-exact g c = paid_moves g.E.Deed.meaning c.args.layout c.args.book.now c.append.new.book c.end_stored.new.self c.args.log.now (g.D.Device.counts c.args.device.now) (g.D.Device.counts c.append.new.device) c.args.lane _ _ _ c.end_stored.ensures.result
    (append_stored_paid g.E.Deed.meaning c.args.layout c.args.book.now c.append.new.book c.args.log.now c.append.new.log _ _ _ _ _ (g.D.Device.counts c.args.device.now) (g.D.Device.counts c.append.new.device) c.args.lane _ _
    c.requires.lane (ap makes_events c.requires.stage) (owes_event _ _ _ _ _ _ (g.D.Device.counts c.args.device.now) c.args.lane c.requires.lane (ap makes_events c.requires.stage) c.requires.world).0 c.in-Stored.ensures.appends)
    (ap makes_events c.requires.stage) (g.met.D.Device.within c.append.new.device) refl refl c.end_stored.ensures.moves

pub returns-in-Whole-clause-exact : goal.returns-in-Whole-clause-exact
returns-in-Whole-clause-exact g c = let at = (goal.at.returns-in-Whole-clause-exact g c).In-Whole in
    commit_joins c.args.layout c.args.book.now c.append.new.book c.join.new.self c.args.log.now (g.D.Device.counts c.args.device.now) (g.D.Device.counts c.append.new.device) c.args.lane _ c.join.ensures.result
    (append_whole_paid g.E.Deed.meaning c.args.layout c.args.book.now c.append.new.book c.args.log.now c.append.new.log _ _ _ _ _ (g.D.Device.counts c.args.device.now) (g.D.Device.counts c.append.new.device) c.args.lane _
    c.requires.lane (ap makes_events c.requires.stage) (owes_event _ _ _ _ _ _ (g.D.Device.counts c.args.device.now) c.args.lane c.requires.lane (ap makes_events c.requires.stage) c.requires.world).0 c.in-Whole.ensures.appends)
    (ap makes_events c.requires.stage) (g.met.D.Device.within c.append.new.device) c.requires.stage c.requires.doing
    (ap (λ (x : Lane _). x.has_records) (joining g at).goes.lanes.here ∙ ending_recorded (lane_at c.args.book.now c.args.lane) c.requires.doing c.requires.stage)
    (ap (λ (x : Lane _). x.entry) (joining g at).goes.lanes.here) (entry g at) c.join.ensures.is
