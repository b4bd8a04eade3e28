use Rattle.std.proofs.Common.{ap, inl, refl}
use Rattle.lane_book.specs.FacesOf.{lane_at}
use Rattle.txn_state.specs.AppendLaws.{IsNextCell}
use Rattle.txn_state.specs.ReadLaws.{appends_in, makes_events}
use Rattle.txn_core.proofs.Appended.{paid_calling, stored_is_paid, whole_is_paid, slot_behind_append, rests_behind_append}
use Rattle.txn_core.proofs.Facts.{IsRead, few_lanes, is_book, slots_are, can_begin, runs_behind, owes_event}
use Rattle.txn_core.proofs.Calling.{is_calling}
use Rattle.txn_core.proofs.Exits.{append_answered}
use Rattle.txn_core.proofs.Reading.{read_of}
use Rattle.txn_core.proofs.WritingWords.{next_cell, word_below}
use Rattle.txn_core.proofs.WritingUpdates.{can_update, update_stored, update_settled}
use Rattle.txn_core.proofs.writes.append_update.Goals as goal
use Rattle.txn_core.proofs.writes.append_update.Goals.{After-write_cell-cell}
use Rattle.txn_core.proofs.ExactParts.{append_answered_exactly, append_stored_paid, append_whole_paid, paid_moves}

-- the device's laws,
reads : (g : _) (c : After-write_cell-cell g) → IsRead (g.D.Look.words c.args.device.now) (g.D.Device.cells c.args.device.now) (g.D.Device.counts c.args.device.now)
reads g c = read_of _ _ (g.D.Device.counts c.args.device.now) (g.met.D.Device.reads c.args.device.now) (g.met.D.Device.full c.args.device.now) (g.met.D.Device.within c.args.device.now)
    (g.met.D.Device.budget_fits c.args.device.now)

-- and the cell that comes next
next : (g : _) (c : After-write_cell-cell g) → IsNextCell (g.D.Device.cells c.args.device.now) (lane_at c.args.book.now c.args.lane) c.write_cell-cell.result
next g c = next_cell _ _ _ _ _ _ (g.D.Device.counts c.args.device.now) c.args.lane c.args.a c.args.v c.requires.lane c.requires.world c.requires.puts c.write_cell-cell.result c.requires.stage c.write_cell-cell.ensures

pub write_cell-cell-requires-clause-word : goal.write_cell-cell-requires-clause-word
write_cell-cell-requires-clause-word g c =
    word_below _ _ _ _ _ _ (g.D.Device.counts c.args.device.now) c.args.lane c.args.a c.args.v c.requires.lane c.requires.world c.requires.puts (inl c.requires.stage)

pub append-requires-clause-few : goal.append-requires-clause-few
append-requires-clause-few g c = few_lanes _ _ _ _ _ _ (g.D.Device.counts c.args.device.now) c.requires.world

pub append-requires-clause-calling : goal.append-requires-clause-calling
append-requires-clause-calling g c = is_calling _ _ _ _ _ _ (g.D.Device.counts c.args.device.now) c.args.lane (ap makes_events c.requires.stage) c.requires.world

pub append-requires-clause-can : goal.append-requires-clause-can
append-requires-clause-can g c =
    let place = (goal.at.append-requires-clause-can g c).After-write_cell-cell in
    can_begin g.E.Deed.meaning _ _ _ _ _ _ (g.D.Device.counts c.args.device.now) c.args.lane (reads g place) c.requires.lane (ap appends_in c.requires.stage) c.requires.world

pub append-requires-clause-behind : goal.append-requires-clause-behind
append-requires-clause-behind g c =
    let place = (goal.at.append-requires-clause-behind g c).After-write_cell-cell in
    runs_behind g.E.Deed.meaning c.args.layout c.args.book.now c.args.log.now _ _ _ (g.D.Device.counts c.args.device.now) c.args.lane _
    (reads g place) c.requires.lane (ap appends_in c.requires.stage) (next g place) c.requires.world

pub append-requires-clause-book : goal.append-requires-clause-book
append-requires-clause-book g c = is_book _ _ _ _ _ _ (g.D.Device.counts c.args.device.now) c.requires.world

pub update_stored-requires-clause-lane : goal.update_stored-requires-clause-lane
update_stored-requires-clause-lane g c = paid_calling c.args.book.now c.append.new.book c.args.lane
    (stored_is_paid g.E.Deed.meaning c.args.layout c.args.book.now c.append.new.book c.args.log.now c.append.new.log _ _ _ _ _ (g.D.Device.counts c.args.device.now) (g.D.Device.counts c.append.new.device)
    c.args.lane _ c.requires.lane _ c.in-Stored.ensures.appends)
    (is_calling _ _ _ _ _ _ (g.D.Device.counts c.args.device.now) c.args.lane (ap makes_events c.requires.stage) c.requires.world) c.append.ensures.book

pub update_stored-requires-clause-update : goal.update_stored-requires-clause-update
update_stored-requires-clause-update g c =
    let place = (goal.at.update_stored-requires-clause-update g c).After-write_cell-cell in
    can_update g.E.Deed.meaning c.args.layout c.args.book.now c.append.new.book c.args.log.now c.append.new.log _ _ _ _ _ (g.D.Device.counts c.args.device.now) (g.D.Device.counts c.append.new.device) c.args.lane _
    (reads g place) c.requires.lane c.requires.stage (next g place)
    c.args.a c.args.v c.requires.world c.requires.puts _ c.in-Stored.ensures.appends

pub release_latch-requires-clause-slot : goal.release_latch-requires-clause-slot
release_latch-requires-clause-slot g c =
    slot_behind_append g.E.Deed.meaning c.args.layout c.args.book.now c.append.new.book c.args.log.now c.append.new.log _ _ _ _ _ (g.D.Device.counts c.args.device.now) (g.D.Device.counts c.append.new.device) c.args.lane _
    c.requires.lane (slots_are _ _ _ _ _ _ (g.D.Device.counts c.args.device.now) c.requires.world) c.in-Whole.ensures.appends

pub release_latch-requires-clause-rests : goal.release_latch-requires-clause-rests
release_latch-requires-clause-rests g c =
    rests_behind_append g.E.Deed.meaning c.args.layout c.args.book.now c.append.new.book c.args.log.now c.append.new.log _ _ _ _ _ (g.D.Device.counts c.args.device.now) (g.D.Device.counts c.append.new.device) c.args.lane _
    c.requires.lane c.in-Whole.ensures.appends

pub go_on-requires : goal.go_on-requires
go_on-requires g c = paid_calling c.args.book.now c.append.new.book c.args.lane
    (whole_is_paid g.E.Deed.meaning c.args.layout c.args.book.now c.append.new.book c.args.log.now c.append.new.log _ _ _ _ _ (g.D.Device.counts c.args.device.now) (g.D.Device.counts c.append.new.device)
    c.args.lane _ c.requires.lane c.in-Whole.ensures.appends)
    (is_calling _ _ _ _ _ _ (g.D.Device.counts c.args.device.now) c.args.lane (ap makes_events c.requires.stage) c.requires.world) c.append.ensures.book

pub returns-in-Answered-clause-steps : goal.returns-in-Answered-clause-steps
returns-in-Answered-clause-steps g c =
    let place = (goal.at.returns-in-Answered-clause-steps g c).After-write_cell-cell in
    append_answered g.E.Deed.meaning c.args.layout c.args.book.now c.append.new.book c.args.log.now c.append.new.log _ _ _ _ _ (g.D.Device.counts c.args.device.now) (g.D.Device.counts c.append.new.device)
    c.args.lane _ _ (reads g place) c.requires.lane (ap appends_in c.requires.stage) (next g place) c.in-Answered.ensures.appends

pub returns-in-Stored-clause-steps : goal.returns-in-Stored-clause-steps
returns-in-Stored-clause-steps g c =
    let place = (goal.at.returns-in-Stored-clause-steps g c).After-write_cell-cell in
    update_stored g.E.Deed.meaning c.args.layout c.args.book.now c.append.new.book c.args.log.now c.append.new.log _ _ _ _ _ (g.D.Device.counts c.args.device.now) (g.D.Device.counts c.append.new.device) c.args.lane _
    (reads g place) c.requires.lane c.requires.stage (next g place)
    c.update_stored.new.self c.in-Stored.stored c.part-part.result c.update_stored.result c.update_stored.ensures.result c.part-part.ensures c.in-Stored.ensures.appends
    c.update_stored.ensures.reserved c.update_stored.ensures.moves

pub returns-in-Whole-clause-steps : goal.returns-in-Whole-clause-steps
returns-in-Whole-clause-steps g c =
    let place = (goal.at.returns-in-Whole-clause-steps g c).After-write_cell-cell in
    update_settled g.E.Deed.meaning c.args.layout c.args.book.now c.append.new.book c.args.log.now c.append.new.log _ _ _ _ _ (g.D.Device.counts c.args.device.now) (g.D.Device.counts c.append.new.device) c.args.lane _
    (reads g place) c.requires.lane c.requires.stage (next g place)
    c.go_on.new.self c.release_latch.new.self c.go_on.result c.go_on.ensures.result c.in-Whole.ensures.appends
    (record { kept = c.release_latch.ensures.kept; number = c.release_latch.ensures.number; ledger = c.release_latch.ensures.ledger; slots = c.release_latch.ensures.slots }) c.go_on.ensures.moves

pub returns-in-Answered-clause-exact : goal.returns-in-Answered-clause-exact
returns-in-Answered-clause-exact g c = append_answered_exactly g.E.Deed.meaning c.args.layout c.args.book.now c.append.new.book c.args.log.now c.append.new.log _ _ _ _ _ (g.D.Device.counts c.args.device.now) (g.D.Device.counts c.append.new.device) c.args.lane _ _
    c.requires.lane (ap appends_in c.requires.stage) (ap makes_events c.requires.stage) (owes_event _ _ _ _ _ _ (g.D.Device.counts c.args.device.now) c.args.lane c.requires.lane (ap makes_events c.requires.stage) c.requires.world).0 (g.met.D.Device.within c.append.new.device) c.in-Answered.ensures.appends

pub returns-in-Stored-clause-exact : goal.returns-in-Stored-clause-exact
returns-in-Stored-clause-exact g c = paid_moves g.E.Deed.meaning c.args.layout c.args.book.now c.append.new.book c.update_stored.new.self c.args.log.now (g.D.Device.counts c.args.device.now) (g.D.Device.counts c.append.new.device) c.args.lane _ _ _ c.update_stored.ensures.result
    (append_stored_paid g.E.Deed.meaning c.args.layout c.args.book.now c.append.new.book c.args.log.now c.append.new.log _ _ _ _ _ (g.D.Device.counts c.args.device.now) (g.D.Device.counts c.append.new.device) c.args.lane _ _
    c.requires.lane (ap makes_events c.requires.stage) (owes_event _ _ _ _ _ _ (g.D.Device.counts c.args.device.now) c.args.lane c.requires.lane (ap makes_events c.requires.stage) c.requires.world).0 c.in-Stored.ensures.appends)
    (ap makes_events c.requires.stage) (g.met.D.Device.within c.append.new.device) refl refl c.update_stored.ensures.moves

pub returns-in-Whole-clause-exact : goal.returns-in-Whole-clause-exact
returns-in-Whole-clause-exact g c = paid_moves g.E.Deed.meaning c.args.layout c.args.book.now c.append.new.book c.go_on.new.self c.args.log.now (g.D.Device.counts c.args.device.now) (g.D.Device.counts c.append.new.device) c.args.lane _ _ _ c.go_on.ensures.result
    (append_whole_paid g.E.Deed.meaning c.args.layout c.args.book.now c.append.new.book c.args.log.now c.append.new.log _ _ _ _ _ (g.D.Device.counts c.args.device.now) (g.D.Device.counts c.append.new.device) c.args.lane _
    c.requires.lane (ap makes_events c.requires.stage) (owes_event _ _ _ _ _ _ (g.D.Device.counts c.args.device.now) c.args.lane c.requires.lane (ap makes_events c.requires.stage) c.requires.world).0 c.in-Whole.ensures.appends)
    (ap makes_events c.requires.stage) (g.met.D.Device.within c.append.new.device) refl refl c.go_on.ensures.moves
