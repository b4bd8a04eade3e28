use Rattle.std.proofs.Common.{◌%◌, ◌∙◌, ap, refl}
use Rattle.log_keeper.specs.Keeper.{keeping_of}
use Rattle.lane_book.specs.declared.lane.Lane.{Lane}
use Rattle.lane_book.proofs.Faces.{lane_read}
use Rattle.txn_state.specs.ClosingLaws.{end_closing_begun}
use Rattle.txn_state.specs.ReadLaws.{clears_in, makes_events, appends_in}
use Rattle.txn_core.proofs.Facts.{is_book, slots_are, can_run, owes_event}
use Rattle.txn_core.proofs.Exits.{clearing_answered}
use Rattle.txn_core.proofs.Calling.{is_calling}
use Rattle.txn_core.proofs.Paid.{lanes_paid}
use Rattle.txn_core.proofs.Ending.{paid_calls}
use Rattle.txn_core.proofs.Closings.{closing_whole, whole_pays, has_end_room, slot_behind}
use Rattle.txn_core.proofs.NoAppend.{never_stored}
use Rattle.txn_core.proofs.clearing.close_records.Goals as goal
use Rattle.txn_core.proofs.Exactly.{unblocked_own}
use Rattle.txn_core.proofs.ExactParts.{advance_answered_exactly, advance_whole_paid, paid_moves}

pub advance-requires-clause-slots : goal.advance-requires-clause-slots
advance-requires-clause-slots g c = slots_are _ _ _ _ _ _ (g.D.Device.counts c.args.device.now) c.requires.world

pub advance-requires-clause-calling : goal.advance-requires-clause-calling
advance-requires-clause-calling g c = is_calling _ _ _ _ _ _ (g.D.Device.counts c.args.device.now) c.args.lane (ap makes_events c.requires.stage) c.requires.world

pub advance-requires-clause-can : goal.advance-requires-clause-can
advance-requires-clause-can g c = can_run _ _ _ _ _ _ (g.D.Device.counts c.args.device.now) c.args.lane c.requires.lane (ap clears_in c.requires.stage) c.requires.world

pub advance-requires-clause-book : goal.advance-requires-clause-book
advance-requires-clause-book g c = is_book _ _ _ _ _ _ (g.D.Device.counts c.args.device.now) c.requires.world

pub begin_closing_end-requires-clause-slot : goal.begin_closing_end-requires-clause-slot
begin_closing_end-requires-clause-slot g c = slot_behind g.E.Deed.meaning c.args.layout c.args.book.now _ c.args.log.now c.advance.new.log _ _ _ _ (g.D.Device.counts c.args.device.now) (g.D.Device.counts c.advance.new.device) c.args.lane
    (slots_are _ _ _ _ _ _ (g.D.Device.counts c.args.device.now) c.requires.world) c.in-Whole.ensures.advances

pub begin_closing_end-requires-clause-room : goal.begin_closing_end-requires-clause-room
begin_closing_end-requires-clause-room g c = has_end_room g.E.Deed.meaning c.args.layout c.args.book.now _ c.args.log.now c.advance.new.log _ _ _ _ (g.D.Device.counts c.args.device.now) (g.D.Device.counts c.advance.new.device) c.args.lane _
    (ap (λ (x : Lane _). x.transaction) (lane_read c.args.book.now c.args.lane c.index.result.now c.requires.lane c.index.ensures)) c.requires.lane c.requires.stage c.requires.world c.in-Whole.ensures.advances

pub go_on-requires : goal.go_on-requires
go_on-requires g c =
    let paid = whole_pays _ _ _ _ _ _ (g.D.Device.counts c.args.device.now) (g.D.Device.counts c.advance.new.device) _ _ c.args.book.now _ c.args.lane c.in-Whole.ensures.advances in record {
      inside = lanes_paid c.args.book.now _ c.args.lane paid c.requires.lane;
      calling = paid_calls c.args.book.now _ c.args.lane c.requires.lane paid
          (is_calling _ _ _ _ _ _ (g.D.Device.counts c.args.device.now) c.args.lane (ap makes_events c.requires.stage) c.requires.world);
      kept = c.advance.ensures.book;
    }

pub returns-in-Answered-clause-steps : goal.returns-in-Answered-clause-steps
returns-in-Answered-clause-steps g c = clearing_answered g.E.Deed.meaning c.args.layout c.args.book.now _ c.args.log.now _ _ _ _ _ _ _ c.args.lane _ c.requires.lane (ap clears_in c.requires.stage) c.in-Answered.ensures.advances

pub returns-in-Stored : goal.returns-in-Stored
returns-in-Stored g c = absurd (never_stored g.E.Deed.meaning c.args.layout c.args.book.now _ c.args.log.now _ _ _ _ _ (g.D.Device.counts c.args.device.now) (g.D.Device.counts c.advance.new.device) c.args.lane _
    c.requires.lane (ap clears_in c.requires.stage) c.requires.world c.in-Stored.ensures.advances)

pub returns-in-Whole-clause-steps : goal.returns-in-Whole-clause-steps
returns-in-Whole-clause-steps g c = closing_whole g.E.Deed.meaning c.args.layout c.args.book.now c.advance.new.book _ c.args.log.now c.advance.new.log _ _ _ _ _ _ _ c.args.lane _ c.go_on.ensures.result
    c.requires.lane c.requires.stage c.in-Whole.ensures.advances
    (record {
      kept = c.begin_closing_end.ensures.kept ∙ ap (λ (x : Lane _). end_closing_begun (c.args.lane % c.args.layout.partitions) x.transaction (keeping_of c.advance.new.log))
          (lane_read c.args.book.now c.args.lane c.index.result.now c.requires.lane c.index.ensures);
      number = c.begin_closing_end.ensures.number;
      ledger = c.begin_closing_end.ensures.ledger;
      slots = c.begin_closing_end.ensures.slots;
    })
    c.go_on.ensures.moves

pub returns-in-Answered-clause-exact : goal.returns-in-Answered-clause-exact
returns-in-Answered-clause-exact g c = advance_answered_exactly g.E.Deed.meaning c.args.layout c.args.book.now c.advance.new.book c.args.log.now c.advance.new.log _ _ _ _ (g.D.Device.counts c.args.device.now) (g.D.Device.counts c.advance.new.device) c.args.lane _
    c.requires.lane (unblocked_own c.args.layout c.args.book.now c.args.log.now c.args.lane (ap makes_events c.requires.stage) (ap appends_in c.requires.stage)) (ap makes_events c.requires.stage) (owes_event _ _ _ _ _ _ (g.D.Device.counts c.args.device.now) c.args.lane c.requires.lane (ap makes_events c.requires.stage) c.requires.world).0 (g.met.D.Device.within c.advance.new.device) c.in-Answered.ensures.advances

pub returns-in-Whole-clause-exact : goal.returns-in-Whole-clause-exact
returns-in-Whole-clause-exact g c = paid_moves g.E.Deed.meaning c.args.layout c.args.book.now c.advance.new.book c.go_on.new.self c.args.log.now (g.D.Device.counts c.args.device.now) (g.D.Device.counts c.advance.new.device) c.args.lane _ _ _ c.go_on.ensures.result
    (advance_whole_paid g.E.Deed.meaning c.args.layout c.args.book.now c.advance.new.book c.args.log.now c.advance.new.log _ _ _ _ (g.D.Device.counts c.args.device.now) (g.D.Device.counts c.advance.new.device) c.args.lane
    c.requires.lane (unblocked_own c.args.layout c.args.book.now c.args.log.now c.args.lane (ap makes_events c.requires.stage) (ap appends_in c.requires.stage)) (owes_event _ _ _ _ _ _ (g.D.Device.counts c.args.device.now) c.args.lane c.requires.lane (ap makes_events c.requires.stage) c.requires.world).0 c.in-Whole.ensures.advances)
    (ap makes_events c.requires.stage) (g.met.D.Device.within c.advance.new.device) refl refl c.go_on.ensures.moves
