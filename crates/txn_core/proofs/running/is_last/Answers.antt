use Rattle.std.proofs.Common.{◌+◌, ◌∙◌, sym, ap, arith}
use Rattle.region_layout.specs.Layout.{layout_shape}
use Rattle.log_keeper.specs.Parts.{Running, plan_of}
use Rattle.log_keeper.specs.Logged.{resting}
use Rattle.log_keeper.specs.Fitting.{FitsLayout}
use Rattle.log_keeper.specs.Making.{is_over}
use Rattle.log_keeper.specs.Slots.{run_of_slot}
use Rattle.log_keeper.proofs.SlotLists.{read_slot, part_read, made_read}
use Rattle.txn_core.proofs.running.is_last.Goals as goal

pub overflow_add-slot : goal.overflow_add-slot
overflow_add-slot c = let few = c.requires.few in let e = made_read c.args.log.now.slots.items c.args.p c.index-slot.result.now c.requires.slot c.index-slot.ensures in
    record { fits = omega (arith, few, e) }

pub is_over-requires-clause-fits : goal.is_over-requires-clause-fits
is_over-requires-clause-fits c = part_read (FitsLayout c.args.layout) c.args.log.now.slots.items c.args.p c.index-slot.result.now c.requires.slot c.index-slot.ensures c.requires.fits

pub returns : goal.returns
returns c = c.is_over.ensures ∙ ap (λ (run : Running). is_over (plan_of (layout_shape c.args.layout) c.args.p run.part) (run.made + 1))
    (sym (read_slot run_of_slot resting c.args.log.now.slots.items c.args.p c.index-slot.result.now c.requires.slot c.index-slot.ensures))
