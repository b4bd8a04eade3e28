use Rattle.std.proofs.Common.{ap}
use Rattle.bucket_log.specs.Plans.{place_address}
use Rattle.region_layout.specs.Cell.{record_of}
use Rattle.log_keeper.specs.Parts.{appends}
use Rattle.log_keeper.specs.Slots.{run_of_slot}
use Rattle.log_keeper.specs.declared.slots.Slot.{Slot}
use Rattle.log_keeper.specs.Keeper.{numbered}
use Rattle.log_keeper.proofs.SlotLists.{part_begins, drawn_is}
use Rattle.log_keeper.proofs.keeper.LogKeeper.begin_append.Goals as goal

pub returns-clause-kept : goal.returns-clause-kept
returns-clause-kept c =
    let xs = c.args.self.now.slots.items in
    let x = c.index_mut-slot.result.now in
    part_begins c.note.new.ledger.items xs c.args.p x c.begin.new.self
    (appends c.args.place (record_of (place_address c.args.place) (numbered c.args.self.now.next_lsn c.args.cell))) _
    c.args.self.now.ledger.items c.requires.slot c.index_mut-slot.ensures.value
    (ap run_of_slot c.begin.ensures) (ap (λ (s : Slot). s.holder) c.begin.ensures)
    (drawn_is _ xs c.args.p x c.args.place.bucket c.args.place.cell (numbered c.args.self.now.next_lsn c.args.cell) _ c.requires.slot c.index_mut-slot.ensures.value c.note.ensures.ledger)
