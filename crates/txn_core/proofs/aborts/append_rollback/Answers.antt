use Rattle.std.proofs.Common.{◌≡◌, ◌%◌, sym, ap, ◌∙◌, subst, refl}
use Rattle.lane_book.specs.FacesOf.{lane_at}
use Rattle.lane_book.proofs.Faces.{lane_read}
use Rattle.log_keeper.specs.Keeper.{keeping_of}
use Rattle.txn_state.specs.AppendLaws.{IsNextCell, GoesOnTo, rollback, undo}
use Rattle.txn_state.specs.ReadLaws.{appends_in, makes_events}
use Rattle.txn_core.proofs.Appended.{paid_inside, paid_stage, paid_calling, stored_is_paid, whole_is_paid, slot_behind_append, rests_behind_append}
use Rattle.txn_core.proofs.Facts.{IsRead, is_book, slots_are, can_begin, runs_behind_if_free, owes_event}
use Rattle.txn_core.proofs.Exits.{append_answered_if_free}
use Rattle.txn_core.proofs.Reading.{read_of}
use Rattle.txn_core.proofs.Aborting.{next_rollback, can_roll_back, was_at_gate, stored_step, settled_step}
use Rattle.txn_core.proofs.aborts.append_rollback.Goals.{After-rollback_cell-cell}
use Rattle.txn_core.proofs.aborts.append_rollback.Goals as goal
use Rattle.txn_core.proofs.ExactParts.{append_answered_exactly, append_stored_paid, append_whole_paid, paid_moves}

read : (g : _) (c : After-rollback_cell-cell g) → IsRead (g.D.Look.words c.args.device.now) (g.D.Device.cells c.args.device.now) (g.D.Device.counts c.args.device.now)
read g c = read_of _ _ (g.D.Device.counts c.args.device.now) (g.met.D.Device.reads c.args.device.now) (g.met.D.Device.full c.args.device.now) (g.met.D.Device.within c.args.device.now)
    (g.met.D.Device.budget_fits c.args.device.now)

next : (g : _) (c : After-rollback_cell-cell g) → (keeping_of c.args.log.now).holder (c.args.lane % c.args.layout.partitions) ≡ 17 →
    IsNextCell (g.D.Device.cells c.args.device.now) (lane_at c.args.book.now c.args.lane) c.rollback_cell-cell.result
next g c free = next_rollback (g.D.Device.cells c.args.device.now) (lane_at c.args.book.now c.args.lane) c.index.result.now c.rollback_cell-cell.result c.requires.stage
    (lane_read c.args.book.now c.args.lane c.index.result.now c.requires.lane c.index.ensures) c.rollback_cell-cell.ensures

pub append-requires-clause-can : goal.append-requires-clause-can
append-requires-clause-can g c = can_begin _ _ _ _ _ _ _ (g.D.Device.counts c.args.device.now) c.args.lane (read g (goal.at.append-requires-clause-can g c).After-rollback_cell-cell)
    c.requires.lane (ap appends_in c.requires.stage) c.requires.world

pub append-requires-clause-behind : goal.append-requires-clause-behind
append-requires-clause-behind g c = let at = (goal.at.append-requires-clause-behind g c).After-rollback_cell-cell in
    runs_behind_if_free _ _ _ _ _ _ _ (g.D.Device.counts c.args.device.now) c.args.lane _ (read g at) c.requires.lane (ap appends_in c.requires.stage) (next g at) c.requires.world

pub append-requires-clause-book : goal.append-requires-clause-book
append-requires-clause-book g c = is_book _ _ _ _ _ _ (g.D.Device.counts c.args.device.now) c.requires.world

pub rollback_stored-requires-clause-lane : goal.rollback_stored-requires-clause-lane
rollback_stored-requires-clause-lane g c = paid_calling c.args.book.now _ c.args.lane
    (stored_is_paid _ _ c.args.book.now _ _ _ _ _ _ _ _ (g.D.Device.counts c.args.device.now) (g.D.Device.counts c.append.new.device) c.args.lane _ c.requires.lane _ c.in-Stored.ensures.appends)
    c.requires.calling c.append.ensures.book

pub rollback_stored-requires-clause-rollback : goal.rollback_stored-requires-clause-rollback
rollback_stored-requires-clause-rollback g c = let at = (goal.at.rollback_stored-requires-clause-rollback g c).After-rollback_cell-cell in
    can_roll_back g.E.Deed.meaning c.args.layout c.args.book.now c.append.new.book _ _ (g.D.Device.counts c.args.device.now) c.args.lane
    (was_at_gate _ _ c.args.book.now _ _ _ _ _ _ _ _ (g.D.Device.counts c.args.device.now) (g.D.Device.counts c.append.new.device) c.args.lane _ c.requires.lane _
    (read g at) (next g at) c.requires.world c.in-Stored.ensures.appends) c.requires.stage

pub undo_part-next-requires : goal.undo_part-next-requires
undo_part-next-requires g c = paid_inside c.args.book.now _ c.args.lane
    (whole_is_paid _ _ c.args.book.now _ _ _ _ _ _ _ _ (g.D.Device.counts c.args.device.now) (g.D.Device.counts c.append.new.device) c.args.lane _ c.requires.lane c.in-Whole.ensures.appends)

pub release_latch-requires-clause-slot : goal.release_latch-requires-clause-slot
release_latch-requires-clause-slot g c =
    slot_behind_append _ _ c.args.book.now _ _ _ _ _ _ _ _ (g.D.Device.counts c.args.device.now) (g.D.Device.counts c.append.new.device) c.args.lane _ c.requires.lane
    (slots_are _ _ _ _ _ _ (g.D.Device.counts c.args.device.now) c.requires.world) c.in-Whole.ensures.appends

pub release_latch-requires-clause-rests : goal.release_latch-requires-clause-rests
release_latch-requires-clause-rests g c =
    rests_behind_append _ _ c.args.book.now _ _ _ _ _ _ _ _ (g.D.Device.counts c.args.device.now) (g.D.Device.counts c.append.new.device) c.args.lane _ c.requires.lane c.in-Whole.ensures.appends

pub go_on-requires : goal.go_on-requires
go_on-requires g c = paid_calling c.args.book.now _ c.args.lane
    (whole_is_paid _ _ c.args.book.now _ _ _ _ _ _ _ _ (g.D.Device.counts c.args.device.now) (g.D.Device.counts c.append.new.device) c.args.lane _ c.requires.lane c.in-Whole.ensures.appends)
    c.requires.calling c.append.ensures.book

pub returns-in-Answered-clause-steps : goal.returns-in-Answered-clause-steps
returns-in-Answered-clause-steps g c = let at = (goal.at.returns-in-Answered-clause-steps g c).After-rollback_cell-cell in
    append_answered_if_free g.E.Deed.meaning c.args.layout c.args.book.now _ c.args.log.now _ _ _ _ _ _ (g.D.Device.counts c.args.device.now) (g.D.Device.counts c.append.new.device) c.args.lane _ _
    (read g at) c.requires.lane (ap appends_in c.requires.stage) (next g at) c.in-Answered.ensures.appends

pub returns-in-Stored-clause-steps : goal.returns-in-Stored-clause-steps
returns-in-Stored-clause-steps g c = let at = (goal.at.returns-in-Stored-clause-steps g c).After-rollback_cell-cell in
    let paid = stored_is_paid _ _ c.args.book.now _ _ _ _ _ _ _ _ (g.D.Device.counts c.args.device.now) (g.D.Device.counts c.append.new.device) c.args.lane _ c.requires.lane _
    c.in-Stored.ensures.appends in
    stored_step g.E.Deed.meaning c.args.layout c.args.book.now c.append.new.book c.args.log.now c.append.new.log _ _ _ _ _ (g.D.Device.counts c.args.device.now)
    (g.D.Device.counts c.append.new.device) c.args.lane _ c.requires.lane (read g at) (ap appends_in c.requires.stage) (next g at) _ _ _ _ _ c.rollback_stored.ensures.result c.part-part.ensures
    c.in-Stored.ensures.appends (rollback (paid_stage c.args.book.now _ c.args.lane paid ∙ c.requires.stage)) c.rollback_stored.ensures.reserved c.rollback_stored.ensures.moves

pub returns-in-Whole-clause-steps : goal.returns-in-Whole-clause-steps
returns-in-Whole-clause-steps g c = let at = (goal.at.returns-in-Whole-clause-steps g c).After-rollback_cell-cell in
    let paid = whole_is_paid _ _ c.args.book.now _ _ _ _ _ _ _ _ (g.D.Device.counts c.args.device.now) (g.D.Device.counts c.append.new.device) c.args.lane _ c.requires.lane
    c.in-Whole.ensures.appends in
    settled_step g.E.Deed.meaning c.args.layout c.args.book.now c.append.new.book c.args.log.now c.append.new.log _ _ _ _ _ (g.D.Device.counts c.args.device.now)
    (g.D.Device.counts c.append.new.device) c.args.lane _ c.requires.lane (read g at) (ap appends_in c.requires.stage) (next g at) _ c.release_latch.new.self _ _ c.go_on.ensures.result
    c.in-Whole.ensures.appends
    (subst (GoesOnTo (lane_at c.append.new.book c.args.lane)) (sym c.undo_part-next.ensures) (undo (paid_stage c.args.book.now _ c.args.lane paid ∙ c.requires.stage)))
    (record { kept = c.release_latch.ensures.kept; number = c.release_latch.ensures.number; ledger = c.release_latch.ensures.ledger; slots = c.release_latch.ensures.slots })
    c.go_on.ensures.moves

pub returns-in-Answered-clause-exact : goal.returns-in-Answered-clause-exact
returns-in-Answered-clause-exact g c = append_answered_exactly g.E.Deed.meaning c.args.layout c.args.book.now c.append.new.book c.args.log.now c.append.new.log _ _ _ _ _ (g.D.Device.counts c.args.device.now) (g.D.Device.counts c.append.new.device) c.args.lane _ _
    c.requires.lane (ap appends_in c.requires.stage) (ap makes_events c.requires.stage) (owes_event _ _ _ _ _ _ (g.D.Device.counts c.args.device.now) c.args.lane c.requires.lane (ap makes_events c.requires.stage) c.requires.world).0 (g.met.D.Device.within c.append.new.device) c.in-Answered.ensures.appends

pub returns-in-Stored-clause-exact : goal.returns-in-Stored-clause-exact
returns-in-Stored-clause-exact g c = paid_moves g.E.Deed.meaning c.args.layout c.args.book.now c.append.new.book c.rollback_stored.new.self c.args.log.now (g.D.Device.counts c.args.device.now) (g.D.Device.counts c.append.new.device) c.args.lane _ _ _ c.rollback_stored.ensures.result
    (append_stored_paid g.E.Deed.meaning c.args.layout c.args.book.now c.append.new.book c.args.log.now c.append.new.log _ _ _ _ _ (g.D.Device.counts c.args.device.now) (g.D.Device.counts c.append.new.device) c.args.lane _ _
    c.requires.lane (ap makes_events c.requires.stage) (owes_event _ _ _ _ _ _ (g.D.Device.counts c.args.device.now) c.args.lane c.requires.lane (ap makes_events c.requires.stage) c.requires.world).0 c.in-Stored.ensures.appends)
    (ap makes_events c.requires.stage) (g.met.D.Device.within c.append.new.device) refl refl c.rollback_stored.ensures.moves

pub returns-in-Whole-clause-exact : goal.returns-in-Whole-clause-exact
returns-in-Whole-clause-exact g c = paid_moves g.E.Deed.meaning c.args.layout c.args.book.now c.append.new.book c.go_on.new.self c.args.log.now (g.D.Device.counts c.args.device.now) (g.D.Device.counts c.append.new.device) c.args.lane _ _ _ c.go_on.ensures.result
    (append_whole_paid g.E.Deed.meaning c.args.layout c.args.book.now c.append.new.book c.args.log.now c.append.new.log _ _ _ _ _ (g.D.Device.counts c.args.device.now) (g.D.Device.counts c.append.new.device) c.args.lane _
    c.requires.lane (ap makes_events c.requires.stage) (owes_event _ _ _ _ _ _ (g.D.Device.counts c.args.device.now) c.args.lane c.requires.lane (ap makes_events c.requires.stage) c.requires.world).0 c.in-Whole.ensures.appends)
    (ap makes_events c.requires.stage) (g.met.D.Device.within c.append.new.device) refl refl c.go_on.ensures.moves
