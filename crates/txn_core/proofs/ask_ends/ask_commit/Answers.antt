use Rattle.std.proofs.Common.{false, length, ◌≤◌, subst, sym, ◌∙◌, ap}
use Rattle.log_keeper.specs.Keeper.{keeping_of}
use Rattle.log_keeper.specs.Listing.{gates_in}
use Rattle.lane_types.specs.declared.call.Call.{Call}
use Rattle.lane_types.specs.Asks.{asked}
use Rattle.lane_book.specs.declared.lane.Lane.{Lane}
use Rattle.lane_book.specs.FacesOf.{lane_at}
use Rattle.lane_book.proofs.Asking.{on_ok, on_err}
use Rattle.lane_book.proofs.Faces.{lane_read}
use Rattle.lane_book.proofs.Keeps.{by_result}
use Rattle.txn_core.proofs.AskedFaces.{owed_phases}
use Rattle.txn_core.proofs.AskedFaces.{owed_face}
use Rattle.txn_core.proofs.AskedEnds.{has_begun, gives_none, none_inside, is_between, owes_commit, stays_commit, stays_behind, stays_stocked, after_owing, same_places, commit_changes, phased_places, phased_commit}
use Rattle.txn_core.proofs.Facts.{is_book, slots_are}
use Rattle.txn_core.proofs.Latches.{slot_of_lane}
use Rattle.txn_core.proofs.AskedExactly.{beside_commit, beside_owing, beside_places, beside_goes, commit_owes}
use Rattle.lane_book.specs.Lanes.{owing}
use Rattle.txn_core.proofs.AskedFaces.{either_way}
use Rattle.txn_core.proofs.Unasked.{unasked_at_once, unasked_places}
use Rattle.txn_core.proofs.OwnRecords.{few_own}
use Rattle.txn_core.proofs.ask_ends.ask_commit.Goals as goal

pub take_memory-requires-clause-book : goal.take_memory-requires-clause-book
take_memory-requires-clause-book g c = is_book g.E.Deed.meaning c.args.layout c.args.book.now c.args.log.now (g.D.Device.cells c.args.device.now) (g.D.Device.spare c.args.device.now)
    (g.D.Device.counts c.args.device.now) c.requires.world

pub take_memory-requires-clause-slot : goal.take_memory-requires-clause-slot
take_memory-requires-clause-slot g c = slot_of_lane c.args.layout c.args.log.now c.args.lane (slots_are g.E.Deed.meaning c.args.layout c.args.book.now c.args.log.now
    (g.D.Device.cells c.args.device.now) (g.D.Device.spare c.args.device.now) (g.D.Device.counts c.args.device.now) c.requires.world)

pub ask_entry-requires-clause-nothing : goal.ask_entry-requires-clause-nothing
ask_entry-requires-clause-nothing g c = ap (λ (x : Lane _). x.doing) c.in-Ok.ensures.owes.goes.lanes.here ∙ c.requires.nothing

pub ask_entry-requires-clause-begun : goal.ask_entry-requires-clause-begun
ask_entry-requires-clause-begun g c = subst (λ n. 1 ≤ n) (sym (ap (λ (x : Lane _). x.begun) c.in-Ok.ensures.owes.goes.lanes.here))
    (has_begun g.E.Deed.meaning c.args.layout c.args.book.now c.args.log.now (g.D.Device.cells c.args.device.now) (g.D.Device.spare c.args.device.now)
    (g.D.Device.counts c.args.device.now) c.args.lane c.requires.nothing c.requires.phase c.requires.world)

pub ask_entry-requires-clause-inside : goal.ask_entry-requires-clause-inside
ask_entry-requires-clause-inside g c = none_inside c.args.layout (lane_at c.take_memory.new.book c.args.lane).gives.items
    (ap (λ (x : Lane _). x.gives.items) c.in-Ok.ensures.owes.goes.lanes.here
    ∙ gives_none g.E.Deed.meaning c.args.layout c.args.book.now c.args.log.now (g.D.Device.cells c.args.device.now) (g.D.Device.spare c.args.device.now)
    (g.D.Device.counts c.args.device.now) c.args.lane c.requires.world)

pub returns-in-Ok-clause-face : goal.returns-in-Ok-clause-face
returns-in-Ok-clause-face g c = on_ok c.ask_entry.result
    (λ it. after_owing (asked (Call.Commit c.args.deed)) c.args.book.now c.take_memory.new.book c.ask_entry.new.book c.args.lane c.commit_wants-wants.result.events c.commit_wants-wants.result.records
    c.in-Ok.ensures.owes (commit_changes c.args.layout c.args.deed c.take_memory.new.book c.ask_entry.new.book c.args.lane it))
    c.ask_entry.ensures.asked

pub returns-in-Ok-clause-same_face : goal.returns-in-Ok-clause-same_face
returns-in-Ok-clause-same_face g c = on_err c.ask_entry.result
    (λ places. after_owing (λ face. face) c.args.book.now c.take_memory.new.book c.ask_entry.new.book c.args.lane c.commit_wants-wants.result.events c.commit_wants-wants.result.records
    c.in-Ok.ensures.owes (same_places c.take_memory.new.book c.ask_entry.new.book c.args.lane places))
    c.ask_entry.ensures.places

pub returns-in-Ok-clause-stays : goal.returns-in-Ok-clause-stays
returns-in-Ok-clause-stays g c =
    let begun = has_begun g.E.Deed.meaning c.args.layout c.args.book.now c.args.log.now (g.D.Device.cells c.args.device.now) (g.D.Device.spare c.args.device.now)
    (g.D.Device.counts c.args.device.now) c.args.lane c.requires.nothing c.requires.phase c.requires.world in
    let enough = owes_commit c.args.layout c.args.log.now c.take_memory.new.log c.args.lane c.records_of-n.result c.commit_wants-wants.result.events c.commit_wants-wants.result.records
    c.commit_wants-wants.result.gates (lane_at c.args.book.now c.args.lane) c.take_memory.ensures.log
    (c.records_of-n.ensures ∙ ap (λ (x : Lane _). length (gates_in x.transaction false (keeping_of c.args.log.now).ledger))
    (lane_read c.args.book.now c.args.lane c.index.result.now c.requires.lane c.index.ensures))
    c.commit_wants-wants.ensures.events c.in-Ok.ensures.small_events c.commit_wants-wants.ensures.records
    c.commit_wants-wants.ensures.gates c.in-Ok.ensures.small_gates c.in-Ok.ensures.lists in
    on_ok c.ask_entry.result
    (λ it. stays_commit g.E.Deed.meaning g.met.E.Deed.depends c.args.layout c.args.book.now c.take_memory.new.book c.ask_entry.new.book c.args.log.now c.take_memory.new.log
    (g.D.Device.cells c.args.device.now) (g.D.Device.spare c.args.device.now) (g.D.Device.spare c.take_memory.new.device) (g.D.Device.counts c.args.device.now)
    c.args.lane c.commit_wants-wants.result.events c.commit_wants-wants.result.records c.args.deed c.requires.lane c.requires.nothing c.requires.phase begun c.in-Ok.ensures.owes enough
    c.take_memory.ensures.stays c.ask_entry.ensures.book it)
    c.ask_entry.ensures.asked

pub returns-in-Ok-clause-still : goal.returns-in-Ok-clause-still
returns-in-Ok-clause-still g c = on_err c.ask_entry.result
    (λ places. stays_behind g.E.Deed.meaning c.args.layout c.args.book.now c.take_memory.new.book c.ask_entry.new.book c.args.log.now c.take_memory.new.log
    (g.D.Device.cells c.args.device.now) (g.D.Device.spare c.args.device.now) (g.D.Device.spare c.take_memory.new.device) (g.D.Device.counts c.args.device.now) c.args.lane
    (is_between (lane_at c.args.book.now c.args.lane) c.requires.nothing c.requires.phase) c.take_memory.ensures.stays
    (stays_stocked g.E.Deed.meaning c.take_memory.new.book c.ask_entry.new.book places)) c.ask_entry.ensures.places

pub returns-in-Ok-clause-phased : goal.returns-in-Ok-clause-phased
returns-in-Ok-clause-phased g c = by_result c.ask_entry.result
    (phased_commit c.args.layout c.args.deed c.args.book.now c.take_memory.new.book c.ask_entry.new.book c.args.lane c.commit_wants-wants.result.events c.commit_wants-wants.result.records
    c.requires.lane c.requires.nothing c.in-Ok.ensures.owes)
    (λ places phased. phased_places c.take_memory.new.book c.ask_entry.new.book places
    (owed_phases c.args.book.now c.take_memory.new.book c.args.lane c.commit_wants-wants.result.events c.commit_wants-wants.result.records c.in-Ok.ensures.owes phased))
    c.ask_entry.ensures.asked c.ask_entry.ensures.places

pub returns-in-Err-clause-same_face : goal.returns-in-Err-clause-same_face
returns-in-Err-clause-same_face g c = owed_face c.args.book.now c.take_memory.new.book c.args.lane 0 0 c.in-Err.ensures.owes_nothing

pub returns-in-Err-clause-still : goal.returns-in-Err-clause-still
returns-in-Err-clause-still g c = λ base world. c.take_memory.ensures.stays c.args.layout base (is_between (lane_at c.args.book.now c.args.lane) c.requires.nothing c.requires.phase) world

pub returns-in-Err-clause-phased : goal.returns-in-Err-clause-phased
returns-in-Err-clause-phased g c = owed_phases c.args.book.now c.take_memory.new.book c.args.lane 0 0 c.in-Err.ensures.owes_nothing

pub returns-in-Ok-clause-beside : goal.returns-in-Ok-clause-beside
returns-in-Ok-clause-beside g c = either_way c.ask_entry.result
    (λ it. beside_commit c.args.layout c.args.deed c.args.book.now c.take_memory.new.book c.ask_entry.new.book c.args.lane c.commit_wants-wants.result.events c.commit_wants-wants.result.records c.requires.lane c.in-Ok.ensures.owes it)
    (λ places. beside_owing c.args.book.now c.take_memory.new.book c.ask_entry.new.book c.args.lane c.commit_wants-wants.result.events c.commit_wants-wants.result.records c.in-Ok.ensures.owes
    (beside_places c.take_memory.new.book c.ask_entry.new.book c.args.lane places))
    c.ask_entry.ensures.asked c.ask_entry.ensures.places

pub returns-in-Ok-clause-owes : goal.returns-in-Ok-clause-owes
returns-in-Ok-clause-owes g c = on_ok c.ask_entry.result
    (λ it. commit_owes c.args.layout c.args.deed c.args.book.now c.take_memory.new.book c.ask_entry.new.book c.args.lane c.commit_wants-wants.result.events c.commit_wants-wants.result.records c.records_of-n.result c.requires.lane c.in-Ok.ensures.owes
    (subst (λ n. n ≤ length (lane_at c.args.book.now c.args.lane).updates.items)
    (sym (c.records_of-n.ensures ∙ ap (λ (x : Lane _). length (gates_in x.transaction false (keeping_of c.args.log.now).ledger))
    (lane_read c.args.book.now c.args.lane c.index.result.now c.requires.lane c.index.ensures)))
    (few_own g.E.Deed.meaning c.args.layout c.args.book.now c.args.log.now (g.D.Device.cells c.args.device.now) (g.D.Device.spare c.args.device.now) (g.D.Device.counts c.args.device.now)
    c.args.lane c.requires.lane (is_between (lane_at c.args.book.now c.args.lane) c.requires.nothing c.requires.phase) c.requires.world))
    c.commit_wants-wants.ensures.events it)
    c.ask_entry.ensures.asked

pub returns-in-Err-clause-beside : goal.returns-in-Err-clause-beside
returns-in-Err-clause-beside g c = beside_goes c.args.book.now c.take_memory.new.book c.args.lane (owing 0 0 (lane_at c.args.book.now c.args.lane)) c.in-Err.ensures.owes_nothing.goes c.in-Err.ensures.owes_nothing.stopped

pub returns-in-Ok-clause-unasked : goal.returns-in-Ok-clause-unasked
returns-in-Ok-clause-unasked g c = on_err c.ask_entry.result
    (λ places. unasked_places c.args.book.now c.ask_entry.new.book c.args.log.now c.take_memory.new.log (g.D.Device.spare c.args.device.now) (g.D.Device.spare c.take_memory.new.device) c.args.lane
    c.take_memory.new.book c.commit_wants-wants.result.events c.commit_wants-wants.result.records c.in-Ok.ensures.owes (is_between (lane_at c.args.book.now c.args.lane) c.requires.nothing c.requires.phase)
    places c.take_memory.ensures.more) c.ask_entry.ensures.places

pub returns-in-Err-clause-unasked : goal.returns-in-Err-clause-unasked
returns-in-Err-clause-unasked g c = unasked_at_once c.args.book.now c.take_memory.new.book c.args.log.now c.take_memory.new.log (g.D.Device.spare c.args.device.now)
    (g.D.Device.spare c.take_memory.new.device) c.args.lane 0 0 c.in-Err.ensures.owes_nothing (is_between (lane_at c.args.book.now c.args.lane) c.requires.nothing c.requires.phase) c.take_memory.ensures.more
