use Rattle.lane_book.proofs.Asking.{on_ok}
use Rattle.std.proofs.Common.{false, length, ◌≤◌, ◌∙◌, ap, sym, subst}
use Rattle.log_keeper.specs.Keeper.{keeping_of}
use Rattle.log_keeper.specs.Listing.{gates_in}
use Rattle.lane_book.specs.declared.lane.Lane.{Lane}
use Rattle.lane_book.specs.FacesOf.{lane_at}
use Rattle.lane_book.specs.Steps as steps
use Rattle.lane_book.proofs.Asking.{on_err}
use Rattle.lane_book.proofs.Faces.{lane_read}
use Rattle.lane_book.proofs.Keeps.{by_result}
use Rattle.txn_core.proofs.AskedFaces.{owed_phases}
use Rattle.txn_core.proofs.AskedFaces.{owed_face}
use Rattle.txn_core.proofs.AskedEnds.{on_both, on_both_err, is_between, owes_abort, stays_abort, stays_behind, phased_abort, phased_refused, changes_abort, same_refused, always_refused}
use Rattle.txn_core.proofs.Facts.{is_book, slots_are}
use Rattle.txn_core.proofs.Latches.{slot_of_lane}
use Rattle.txn_core.proofs.AskedExactly.{beside_asked, beside_roomier, beside_goes, abort_owes}
use Rattle.lane_book.specs.Lanes.{owing}
use Rattle.txn_core.proofs.AskedFaces.{either_way}
use Rattle.txn_core.proofs.Unasked.{unasked_at_once, unasked_behind}
use Rattle.txn_core.proofs.OwnRecords.{few_own}
use Rattle.txn_core.proofs.ask_ends.ask_abort.Goals as goal

pub take_memory-requires-clause-book : goal.take_memory-requires-clause-book
take_memory-requires-clause-book g c = is_book g.E.Deed.meaning c.args.layout c.args.book.now c.args.log.now (g.D.Device.cells c.args.device.now) (g.D.Device.spare c.args.device.now)
    (g.D.Device.counts c.args.device.now) c.requires.world

pub take_memory-requires-clause-slot : goal.take_memory-requires-clause-slot
take_memory-requires-clause-slot g c = slot_of_lane c.args.layout c.args.log.now c.args.lane (slots_are g.E.Deed.meaning c.args.layout c.args.book.now c.args.log.now
    (g.D.Device.cells c.args.device.now) (g.D.Device.spare c.args.device.now) (g.D.Device.counts c.args.device.now) c.requires.world)

pub ask_plain-requires-clause-plain : goal.ask_plain-requires-clause-plain
ask_plain-requires-clause-plain g c = steps.abort

pub ask_plain-requires-clause-nothing : goal.ask_plain-requires-clause-nothing
ask_plain-requires-clause-nothing g c = ap (λ (x : Lane _). x.doing) c.in-Ok.ensures.owes.goes.lanes.here ∙ c.requires.nothing

pub ask_plain-requires-clause-phase : goal.ask_plain-requires-clause-phase
ask_plain-requires-clause-phase g c = ap (λ (x : Lane _). x.phase) c.in-Ok.ensures.owes.goes.lanes.here ∙ c.requires.phase

pub returns-in-Ok-clause-face : goal.returns-in-Ok-clause-face
returns-in-Ok-clause-face g c = on_both c.ask_plain.result
    (changes_abort c.args.book.now c.take_memory.new.book c.ask_plain.new.self c.args.lane c.abort_wants-wants.result.events c.abort_wants-wants.result.records c.requires.lane c.requires.nothing c.in-Ok.ensures.owes)
    c.ask_plain.ensures.ok c.ask_plain.ensures.asked

pub returns-in-Ok-clause-stays : goal.returns-in-Ok-clause-stays
returns-in-Ok-clause-stays g c =
    let lane_is = lane_read c.args.book.now c.args.lane c.index-kept.result.now c.requires.lane c.index-kept.ensures in
    let enough = owes_abort c.args.layout c.args.log.now c.take_memory.new.log c.args.lane c.records_of-n.result c.len.result c.abort_wants-wants.result.events c.abort_wants-wants.result.records
    c.abort_wants-wants.result.gates (lane_at c.args.book.now c.args.lane) c.take_memory.ensures.log
    (c.records_of-n.ensures ∙ ap (λ (x : Lane _). length (gates_in x.transaction false (keeping_of c.args.log.now).ledger)) lane_is)
    (c.len.ensures ∙ ap (λ (x : Lane _). length x.updates.items) lane_is)
    c.abort_wants-wants.ensures.events c.in-Ok.ensures.small_events c.abort_wants-wants.ensures.records c.in-Ok.ensures.small_records
    c.abort_wants-wants.ensures.gates c.in-Ok.ensures.small_gates c.in-Ok.ensures.lists in
    on_both c.ask_plain.result
    (λ asked reserved. stays_abort g.E.Deed.meaning c.args.layout c.args.book.now c.take_memory.new.book c.ask_plain.new.self c.args.log.now c.take_memory.new.log
    (g.D.Device.cells c.args.device.now) (g.D.Device.spare c.args.device.now) (g.D.Device.spare c.take_memory.new.device) (g.D.Device.counts c.args.device.now)
    c.args.lane c.abort_wants-wants.result.events c.abort_wants-wants.result.records c.requires.lane c.requires.nothing c.requires.phase c.in-Ok.ensures.owes enough
    c.take_memory.ensures.stays c.ask_plain.ensures.book asked reserved)
    c.ask_plain.ensures.asked c.ask_plain.ensures.reserved

pub returns-in-Ok-clause-same_face : goal.returns-in-Ok-clause-same_face
returns-in-Ok-clause-same_face g c = on_both_err c.ask_plain.result
    (same_refused c.args.book.now c.take_memory.new.book c.ask_plain.new.self c.args.lane c.abort_wants-wants.result.events c.abort_wants-wants.result.records c.requires.lane c.requires.nothing c.in-Ok.ensures.owes)
    c.ask_plain.ensures.err c.ask_plain.ensures.roomier

pub returns-in-Ok-clause-still : goal.returns-in-Ok-clause-still
returns-in-Ok-clause-still g c = on_err c.ask_plain.result
    (λ roomier. stays_behind g.E.Deed.meaning c.args.layout c.args.book.now c.take_memory.new.book c.ask_plain.new.self c.args.log.now c.take_memory.new.log
    (g.D.Device.cells c.args.device.now) (g.D.Device.spare c.args.device.now) (g.D.Device.spare c.take_memory.new.device) (g.D.Device.counts c.args.device.now) c.args.lane
    (is_between (lane_at c.args.book.now c.args.lane) c.requires.nothing c.requires.phase) c.take_memory.ensures.stays
    (always_refused c.args.book.now c.take_memory.new.book c.ask_plain.new.self c.args.lane c.abort_wants-wants.result.events c.abort_wants-wants.result.records c.requires.lane c.requires.nothing
    c.in-Ok.ensures.owes g.E.Deed.meaning roomier c.ask_plain.ensures.book)) c.ask_plain.ensures.roomier

pub returns-in-Ok-clause-phased : goal.returns-in-Ok-clause-phased
returns-in-Ok-clause-phased g c = by_result c.ask_plain.result
    (phased_abort c.args.book.now c.take_memory.new.book c.ask_plain.new.self c.args.lane c.abort_wants-wants.result.events c.abort_wants-wants.result.records c.requires.lane c.requires.nothing c.in-Ok.ensures.owes)
    (phased_refused c.args.book.now c.take_memory.new.book c.ask_plain.new.self c.args.lane c.abort_wants-wants.result.events c.abort_wants-wants.result.records c.requires.lane c.requires.nothing c.in-Ok.ensures.owes)
    c.ask_plain.ensures.asked c.ask_plain.ensures.roomier

pub returns-in-Err-clause-same_face : goal.returns-in-Err-clause-same_face
returns-in-Err-clause-same_face g c = owed_face c.args.book.now c.take_memory.new.book c.args.lane 0 0 c.in-Err.ensures.owes_nothing

pub returns-in-Err-clause-still : goal.returns-in-Err-clause-still
returns-in-Err-clause-still g c = λ base world. c.take_memory.ensures.stays c.args.layout base (is_between (lane_at c.args.book.now c.args.lane) c.requires.nothing c.requires.phase) world

pub returns-in-Err-clause-phased : goal.returns-in-Err-clause-phased
returns-in-Err-clause-phased g c = owed_phases c.args.book.now c.take_memory.new.book c.args.lane 0 0 c.in-Err.ensures.owes_nothing

pub returns-in-Ok-clause-beside : goal.returns-in-Ok-clause-beside
returns-in-Ok-clause-beside g c = either_way c.ask_plain.result
    (λ asked. beside_asked c.args.book.now c.take_memory.new.book c.ask_plain.new.self c.args.lane c.abort_wants-wants.result.events c.abort_wants-wants.result.records _ _ _ _ _ c.requires.lane c.in-Ok.ensures.owes asked)
    (λ roomier. beside_roomier c.args.book.now c.take_memory.new.book c.ask_plain.new.self c.args.lane c.abort_wants-wants.result.events c.abort_wants-wants.result.records c.requires.lane c.in-Ok.ensures.owes roomier)
    c.ask_plain.ensures.asked c.ask_plain.ensures.roomier

pub returns-in-Ok-clause-owes : goal.returns-in-Ok-clause-owes
returns-in-Ok-clause-owes g c =
    let lane_is = lane_read c.args.book.now c.args.lane c.index-kept.result.now c.requires.lane c.index-kept.ensures in
    on_ok c.ask_plain.result
    (λ asked. abort_owes c.args.layout c.args.book.now c.take_memory.new.book c.ask_plain.new.self c.args.lane c.abort_wants-wants.result.events c.abort_wants-wants.result.records c.records_of-n.result c.len.result _ c.in-Ok.ensures.owes
    (subst (λ n. n ≤ length (lane_at c.args.book.now c.args.lane).updates.items)
    (sym (c.records_of-n.ensures ∙ ap (λ (x : Lane _). length (gates_in x.transaction false (keeping_of c.args.log.now).ledger)) lane_is))
    (few_own g.E.Deed.meaning c.args.layout c.args.book.now c.args.log.now (g.D.Device.cells c.args.device.now) (g.D.Device.spare c.args.device.now) (g.D.Device.counts c.args.device.now)
    c.args.lane c.requires.lane (is_between (lane_at c.args.book.now c.args.lane) c.requires.nothing c.requires.phase) c.requires.world))
    (c.len.ensures ∙ ap (λ (x : Lane _). length x.updates.items) lane_is)
    c.abort_wants-wants.ensures.events asked)
    c.ask_plain.ensures.asked

pub returns-in-Err-clause-beside : goal.returns-in-Err-clause-beside
returns-in-Err-clause-beside g c = beside_goes c.args.book.now c.take_memory.new.book c.args.lane (owing 0 0 (lane_at c.args.book.now c.args.lane)) c.in-Err.ensures.owes_nothing.goes c.in-Err.ensures.owes_nothing.stopped

pub returns-in-Ok-clause-unasked : goal.returns-in-Ok-clause-unasked
returns-in-Ok-clause-unasked g c = on_err c.ask_plain.result
    (λ roomier. unasked_behind c.args.book.now c.ask_plain.new.self c.args.log.now c.take_memory.new.log (g.D.Device.spare c.args.device.now) (g.D.Device.spare c.take_memory.new.device) c.args.lane
    c.take_memory.new.book c.abort_wants-wants.result.events c.abort_wants-wants.result.records c.in-Ok.ensures.owes (is_between (lane_at c.args.book.now c.args.lane) c.requires.nothing c.requires.phase)
    roomier c.take_memory.ensures.more) c.ask_plain.ensures.roomier

pub returns-in-Err-clause-unasked : goal.returns-in-Err-clause-unasked
returns-in-Err-clause-unasked g c = unasked_at_once c.args.book.now c.take_memory.new.book c.args.log.now c.take_memory.new.log (g.D.Device.spare c.args.device.now)
    (g.D.Device.spare c.take_memory.new.device) c.args.lane 0 0 c.in-Err.ensures.owes_nothing (is_between (lane_at c.args.book.now c.args.lane) c.requires.nothing c.requires.phase) c.take_memory.ensures.more
