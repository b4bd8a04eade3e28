use Rattle.std.proofs.Common.{ap, sym, ◌∙◌, subst, arith}
use Rattle.region_layout.specs.Layout.{layout_shape}
use Rattle.log_keeper.specs.Fitting.{FitsLayout}
use Rattle.log_keeper.specs.Slots.{run_of_slot}
use Rattle.log_keeper.specs.declared.slots.Slot.{Slot}
use Rattle.log_keeper.proofs.SlotLists.{add_one, part_read, made_read, run_ends, run_goes_on}
use Rattle.log_keeper.specs.Logged.{Keeping}
use Rattle.log_keeper.specs.Ordered.{IsOrdered}
use Rattle.log_keeper.proofs.Orders.{orders_keep}
use Rattle.log_keeper.proofs.keeper.LogKeeper.made.Goals as goal

pub overflow_add-slot : goal.overflow_add-slot
overflow_add-slot c = let few = c.requires.few in let e = made_read c.args.self.now.slots.items c.args.p c.index_mut-slot.result.now c.requires.slot c.index_mut-slot.ensures.value in
    record { fits = omega (arith, few, e) }

pub is_over-requires-clause-fits : goal.is_over-requires-clause-fits
is_over-requires-clause-fits c = part_read (FitsLayout c.args.layout) c.args.self.now.slots.items c.args.p c.index_mut-slot.result.now c.requires.slot c.index_mut-slot.ensures.value c.requires.fits

pub returns-then-is_over-clause-kept : goal.returns-then-is_over-clause-kept
returns-then-is_over-clause-kept c =
    run_ends (layout_shape c.args.layout) c.args.self.now.ledger.items c.settle.new.ledger.items c.args.self.now.slots.items c.args.p c.index_mut-slot.result.now c.begin.new.self
    c.is_over.result c.requires.slot c.index_mut-slot.ensures.value c.is_over.ensures c.if-is_over.true
    (ap run_of_slot c.begin.ensures) (ap (λ (s : Slot). s.holder) c.begin.ensures ∙ c.settle.ensures.holder) c.settle.ensures.ledger

pub overflow_add-slot-else-is_over : goal.overflow_add-slot-else-is_over
overflow_add-slot-else-is_over c = let few = c.requires.few in let e = made_read c.args.self.now.slots.items c.args.p c.index_mut-slot.result.now c.requires.slot c.index_mut-slot.ensures.value in
    record { fits = omega (arith, few, e) }

pub is_over-last_but_one-requires-clause-fits : goal.is_over-last_but_one-requires-clause-fits
is_over-last_but_one-requires-clause-fits c =
    part_read (FitsLayout c.args.layout) c.args.self.now.slots.items c.args.p c.index_mut-slot.result.now c.requires.slot c.index_mut-slot.ensures.value c.requires.fits

pub advance-requires : goal.advance-requires
advance-requires c = let few = c.requires.few in let e = made_read c.args.self.now.slots.items c.args.p c.index_mut-slot.result.now c.requires.slot c.index_mut-slot.ensures.value in
    omega (arith, few, e)

pub returns-else-is_over-clause-kept : goal.returns-else-is_over-clause-kept
returns-else-is_over-clause-kept c =
    run_goes_on (layout_shape c.args.layout) c.args.self.now.ledger.items c.store.new.ledger.items c.args.self.now.slots.items c.args.p c.index_mut-slot.result.now c.advance.new.self
    c.is_over.result c.is_over-last_but_one.result c.requires.slot c.index_mut-slot.ensures.value c.is_over.ensures c.if-is_over.false c.is_over-last_but_one.ensures
    (ap run_of_slot c.advance.ensures ∙ (λ i. record { part = (run_of_slot c.index_mut-slot.result.now).part; made = add_one c.index_mut-slot.result.now.made i }))
    (ap (λ (s : Slot). s.holder) c.advance.ensures) c.store.ensures.ledger

pub returns-then-is_over-clause-ordered : goal.returns-then-is_over-clause-ordered
returns-then-is_over-clause-ordered c = λ h. subst (λ (k : Keeping). IsOrdered k c.args.self.now.next_lsn) (sym (returns-then-is_over-clause-kept c))
    (orders_keep.made (layout_shape c.args.layout) c.args.p c.args.self.now.next_lsn _ h)

pub returns-else-is_over-clause-ordered : goal.returns-else-is_over-clause-ordered
returns-else-is_over-clause-ordered c = λ h. subst (λ (k : Keeping). IsOrdered k c.args.self.now.next_lsn) (sym (returns-else-is_over-clause-kept c))
    (orders_keep.made (layout_shape c.args.layout) c.args.p c.args.self.now.next_lsn _ h)
