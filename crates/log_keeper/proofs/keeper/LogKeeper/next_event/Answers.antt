use Rattle.std.proofs.Common.{◌∙◌, sym, ap, slice_get}
use Rattle.region_layout.specs.Layout.{layout_shape}
use Rattle.log_keeper.specs.Parts.{Running, plan_of}
use Rattle.log_keeper.specs.Logged.{resting}
use Rattle.log_keeper.specs.Fitting.{FitsLayout}
use Rattle.log_keeper.specs.Slots.{run_of_slot}
use Rattle.log_keeper.proofs.SlotLists.{read_slot, part_read}
use Rattle.log_keeper.proofs.keeper.LogKeeper.next_event.Goals as goal

pub event_at-requires-clause-fits : goal.event_at-requires-clause-fits
event_at-requires-clause-fits c = part_read (FitsLayout c.args.layout) c.args.self.now.slots.items c.args.p c.index-slot.result.now c.requires.slot c.index-slot.ensures c.requires.fits

pub returns : goal.returns
returns c = c.event_at.ensures ∙ ap (λ (run : Running). slice_get (plan_of (layout_shape c.args.layout) c.args.p run.part) run.made)
    (sym (read_slot run_of_slot resting c.args.self.now.slots.items c.args.p c.index-slot.result.now c.requires.slot c.index-slot.ensures))
