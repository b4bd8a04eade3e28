use Rattle.lane_book.specs.FacesOf.{lane_at}
use Rattle.txn_core.proofs.Facts.{is_book, slots_are, can_run, owes_event}
use Rattle.txn_core.proofs.Reading.{read_of}
use Rattle.txn_core.proofs.Exits.{clearing_answered}
use Rattle.txn_core.proofs.Calling.{is_calling}
use Rattle.txn_core.proofs.ClearedCalls.{cleared_clears, cleared_makes, cleared_own, slots_behind, rests_behind, calls_behind, ends_behind, entered_behind, writes_behind, blocks_behind}
use Rattle.txn_core.proofs.Cleared.{cleared_logs, cleared_world}
use Rattle.txn_core.proofs.NoAppend.{never_stored}
use Rattle.txn_core.proofs.clearing.clear_further.Goals as goal
use Rattle.txn_core.proofs.Exactly.{unblocked_own}
use Rattle.txn_core.proofs.ExactParts.{advance_answered_exactly, advance_whole_paid}
use Rattle.txn_core.proofs.ExactJoins.{clears_exactly}

pub advance-requires-clause-slots : goal.advance-requires-clause-slots
advance-requires-clause-slots g c = slots_are _ _ _ _ _ _ (g.D.Device.counts c.args.device.now) c.requires.world

pub advance-requires-clause-calling : goal.advance-requires-clause-calling
advance-requires-clause-calling g c = is_calling _ _ _ _ _ _ (g.D.Device.counts c.args.device.now) c.args.lane (cleared_makes (lane_at c.args.book.now c.args.lane) c.requires.stage) c.requires.world

pub advance-requires-clause-can : goal.advance-requires-clause-can
advance-requires-clause-can g c = can_run _ _ _ _ _ _ (g.D.Device.counts c.args.device.now) c.args.lane c.requires.lane (cleared_clears (lane_at c.args.book.now c.args.lane) c.requires.stage) c.requires.world

pub advance-requires-clause-book : goal.advance-requires-clause-book
advance-requires-clause-book g c = is_book _ _ _ _ _ _ (g.D.Device.counts c.args.device.now) c.requires.world

pub clear_next-requires-clause-calling : goal.clear_next-requires-clause-calling
clear_next-requires-clause-calling g c =
    calls_behind g.E.Deed.meaning c.args.layout c.args.book.now c.advance.new.book c.args.log.now c.advance.new.log _ _ _ _
    (g.D.Device.counts c.args.device.now) (g.D.Device.counts c.advance.new.device) c.args.lane c.in-Whole.ensures.advances
    c.requires.lane c.requires.stage c.requires.world c.advance.ensures.book

pub clear_next-requires-clause-doing : goal.clear_next-requires-clause-doing
clear_next-requires-clause-doing g c =
    ends_behind g.E.Deed.meaning c.args.layout c.args.book.now c.advance.new.book c.args.log.now c.advance.new.log _ _ _ _
    (g.D.Device.counts c.args.device.now) (g.D.Device.counts c.advance.new.device) c.args.lane c.in-Whole.ensures.advances
    c.requires.lane c.requires.stage

pub clear_next-requires-clause-entered : goal.clear_next-requires-clause-entered
clear_next-requires-clause-entered g c =
    entered_behind g.E.Deed.meaning c.args.layout c.args.book.now c.advance.new.book c.args.log.now c.advance.new.log _ _ _ _
    (g.D.Device.counts c.args.device.now) (g.D.Device.counts c.advance.new.device) c.args.lane c.in-Whole.ensures.advances
    c.requires.lane c.requires.stage c.requires.phased c.requires.world

pub clear_next-requires-clause-slots : goal.clear_next-requires-clause-slots
clear_next-requires-clause-slots g c =
    slots_behind g.E.Deed.meaning c.args.layout c.args.book.now c.advance.new.book c.args.log.now c.advance.new.log _ _ _ _
    (g.D.Device.counts c.args.device.now) (g.D.Device.counts c.advance.new.device) c.args.lane c.in-Whole.ensures.advances c.requires.world

pub clear_next-requires-clause-rests : goal.clear_next-requires-clause-rests
clear_next-requires-clause-rests g c =
    rests_behind g.E.Deed.meaning c.args.layout c.args.book.now c.advance.new.book c.args.log.now c.advance.new.log _ _ _ _
    (g.D.Device.counts c.args.device.now) (g.D.Device.counts c.advance.new.device) c.args.lane c.in-Whole.ensures.advances

pub clear_next-requires-clause-logs : goal.clear_next-requires-clause-logs
clear_next-requires-clause-logs g c = cleared_logs g.E.Deed.meaning c.args.layout c.args.book.now _ c.args.log.now c.advance.new.log
    (g.D.Look.words c.advance.new.device) _ _ _ _ (g.D.Device.counts c.args.device.now) (g.D.Device.counts c.advance.new.device) c.args.lane
    (read_of _ _ (g.D.Device.counts c.advance.new.device) (g.met.D.Device.reads c.advance.new.device) (g.met.D.Device.full c.advance.new.device)
    (g.met.D.Device.within c.advance.new.device) (g.met.D.Device.budget_fits c.advance.new.device))
    c.requires.lane c.requires.stage c.requires.world c.in-Whole.ensures.advances

pub returns-in-Answered-clause-steps : goal.returns-in-Answered-clause-steps
returns-in-Answered-clause-steps g c = clearing_answered g.E.Deed.meaning c.args.layout c.args.book.now _ c.args.log.now _ _ _ _ _ _ _ c.args.lane _
    c.requires.lane (cleared_clears (lane_at c.args.book.now c.args.lane) c.requires.stage) c.in-Answered.ensures.advances

pub returns-in-Stored : goal.returns-in-Stored
returns-in-Stored g c = absurd (never_stored g.E.Deed.meaning c.args.layout c.args.book.now _ c.args.log.now _ _ _ _ _
    (g.D.Device.counts c.args.device.now) (g.D.Device.counts c.advance.new.device) c.args.lane _
    c.requires.lane (cleared_clears (lane_at c.args.book.now c.args.lane) c.requires.stage) c.requires.world c.in-Stored.ensures.advances)

pub returns-in-Whole-clause-steps : goal.returns-in-Whole-clause-steps
returns-in-Whole-clause-steps g c = cleared_world g.E.Deed.meaning c.args.layout c.args.book.now c.advance.new.book _ c.args.log.now c.advance.new.log _
    (g.D.Look.words c.advance.new.device) _ _ _ _ _ _ c.args.lane _
    (read_of _ _ (g.D.Device.counts c.advance.new.device) (g.met.D.Device.reads c.advance.new.device) (g.met.D.Device.full c.advance.new.device)
    (g.met.D.Device.within c.advance.new.device) (g.met.D.Device.budget_fits c.advance.new.device))
    c.requires.lane c.requires.stage c.in-Whole.ensures.advances
    (entered_behind g.E.Deed.meaning c.args.layout c.args.book.now c.advance.new.book c.args.log.now c.advance.new.log _ _ _ _
    (g.D.Device.counts c.args.device.now) (g.D.Device.counts c.advance.new.device) c.args.lane c.in-Whole.ensures.advances
    c.requires.lane c.requires.stage c.requires.phased c.requires.world) c.clear_next.ensures

pub returns-in-Answered-clause-exact : goal.returns-in-Answered-clause-exact
returns-in-Answered-clause-exact g c = advance_answered_exactly g.E.Deed.meaning c.args.layout c.args.book.now c.advance.new.book c.args.log.now c.advance.new.log _ _ _ _ (g.D.Device.counts c.args.device.now) (g.D.Device.counts c.advance.new.device) c.args.lane _
    c.requires.lane (unblocked_own c.args.layout c.args.book.now c.args.log.now c.args.lane (cleared_makes (lane_at c.args.book.now c.args.lane) c.requires.stage) (cleared_own (lane_at c.args.book.now c.args.lane) c.requires.stage)) (cleared_makes (lane_at c.args.book.now c.args.lane) c.requires.stage) (owes_event _ _ _ _ _ _ (g.D.Device.counts c.args.device.now) c.args.lane c.requires.lane (cleared_makes (lane_at c.args.book.now c.args.lane) c.requires.stage) c.requires.world).0 (g.met.D.Device.within c.advance.new.device) c.in-Answered.ensures.advances

pub returns-in-Whole-clause-exact : goal.returns-in-Whole-clause-exact
returns-in-Whole-clause-exact g c = clears_exactly g.E.Deed.meaning c.args.layout c.args.book.now c.advance.new.book c.clear_next.new.book c.args.log.now c.advance.new.log _ _ (g.D.Device.counts c.args.device.now) (g.D.Device.counts c.advance.new.device) c.args.lane _
    (advance_whole_paid g.E.Deed.meaning c.args.layout c.args.book.now c.advance.new.book c.args.log.now c.advance.new.log _ _ _ _ (g.D.Device.counts c.args.device.now) (g.D.Device.counts c.advance.new.device) c.args.lane
    c.requires.lane (unblocked_own c.args.layout c.args.book.now c.args.log.now c.args.lane (cleared_makes (lane_at c.args.book.now c.args.lane) c.requires.stage) (cleared_own (lane_at c.args.book.now c.args.lane) c.requires.stage)) (owes_event _ _ _ _ _ _ (g.D.Device.counts c.args.device.now) c.args.lane c.requires.lane (cleared_makes (lane_at c.args.book.now c.args.lane) c.requires.stage) c.requires.world).0 c.in-Whole.ensures.advances)
    (cleared_makes (lane_at c.args.book.now c.args.lane) c.requires.stage) (g.met.D.Device.within c.advance.new.device) c.clear_next.ensures

pub clear_next-requires-clause-inside : goal.clear_next-requires-clause-inside
clear_next-requires-clause-inside g c =
    writes_behind g.E.Deed.meaning c.args.layout c.args.book.now c.advance.new.book c.args.log.now c.advance.new.log _ _ _ _
    (g.D.Device.counts c.args.device.now) (g.D.Device.counts c.advance.new.device) c.args.lane c.in-Whole.ensures.advances
    c.requires.lane c.requires.stage c.requires.world

pub clear_next-requires-clause-many : goal.clear_next-requires-clause-many
clear_next-requires-clause-many g c =
    blocks_behind g.E.Deed.meaning c.args.layout c.args.book.now c.advance.new.book c.args.log.now c.advance.new.log _ _ _ _
    (g.D.Device.counts c.args.device.now) (g.D.Device.counts c.advance.new.device) c.args.lane c.in-Whole.ensures.advances
    c.requires.lane c.requires.stage c.requires.world
