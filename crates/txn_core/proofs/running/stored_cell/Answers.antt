use Rattle.std.proofs.Common.{◌≡◌, ◌+◌, ◌∙◌, ◌&&◌, Bool, false, rules, sym, ap, arith}
use Rattle.region_layout.specs.Layout.{layout_shape}
use Rattle.log_keeper.specs.declared.slots.Part.{Part}
use Rattle.log_keeper.specs.Parts.{Running, plan_of}
use Rattle.log_keeper.specs.Logged.{resting}
use Rattle.log_keeper.specs.Fitting.{FitsLayout}
use Rattle.log_keeper.specs.Making.{is_over}
use Rattle.log_keeper.specs.Slots.{part_with, run_of_slot}
use Rattle.log_keeper.proofs.SlotLists.{read_slot, part_read, made_read}
use Rattle.txn_laws.specs.Rooms.{is_append}
use Rattle.txn_core.proofs.running.stored_cell.Goals as goal

pub overflow_add-slot : goal.overflow_add-slot
overflow_add-slot c = let few = c.requires.few in let e = made_read c.args.log.now.slots.items c.args.p c.index-slot.result.now c.requires.slot c.index-slot.ensures in
    record { fits = omega (arith, few, e) }

pub is_over-requires-clause-fits : goal.is_over-requires-clause-fits
is_over-requires-clause-fits c = part_read (FitsLayout c.args.layout) c.args.log.now.slots.items c.args.p c.index-slot.result.now c.requires.slot c.index-slot.ensures c.requires.fits

pub returns-then-is_over : goal.returns-then-is_over
returns-then-is_over c =
    let read = read_slot run_of_slot resting c.args.log.now.slots.items c.args.p c.index-slot.result.now c.requires.slot c.index-slot.ensures in
    let slot = c.index-slot.result.now in (
      ap (λ (run : Running). is_over (plan_of (layout_shape c.args.layout) c.args.p run.part) (run.made + 2)) read ∙ sym c.is_over.ensures ∙ c.if-is_over.true,
      c.in-Append.field-0,
      ap (λ (run : Running). run.part) read ∙ ap (part_with slot.gates.items slot.ends.items slot.checkpoints.items) c.in-Append.is,
    )

pub returns-else-is_over : goal.returns-else-is_over
returns-else-is_over c =
    let read = read_slot run_of_slot resting c.args.log.now.slots.items c.args.p c.index-slot.result.now c.requires.slot c.index-slot.ensures in
    let slot = c.index-slot.result.now in
    ap (λ (run : Running). is_append run.part && is_over (plan_of (layout_shape c.args.layout) c.args.p run.part) (run.made + 2)) read
    ∙ ap (λ (part : Part). is_append (part_with slot.gates.items slot.ends.items slot.checkpoints.items part) &&
    is_over (plan_of (layout_shape c.args.layout) c.args.p (run_of_slot slot).part) (slot.made + 2)) c.in-Append.is
    ∙ sym c.is_over.ensures ∙ c.if-is_over.false

pub returns-in-Rest : goal.returns-in-Rest
returns-in-Rest c =
    let read = read_slot run_of_slot resting c.args.log.now.slots.items c.args.p c.index-slot.result.now c.requires.slot c.index-slot.ensures in
    let slot = c.index-slot.result.now in
    let others : is_append (part_with slot.gates.items slot.ends.items slot.checkpoints.items slot.part) ≡ false = search rules in
    ap (λ (run : Running). is_append run.part && is_over (plan_of (layout_shape c.args.layout) c.args.p run.part) (run.made + 2)) read
    ∙ ap (λ (append : Bool). append && is_over (plan_of (layout_shape c.args.layout) c.args.p (run_of_slot slot).part) (slot.made + 2)) others
