-- A lane's partition and its latch, and the keeper behind the begin of an append.
use Rattle.std.proofs.Common.{◌≡◌, ℕ, ◌+◌, ◌-◌, ◌%◌, ◌<◌, ◌==◌, Bool, List, length, get_or, slice_index, sym, ap, ◌∙◌, subst, arith}
use Rattle.std.proofs.Math.Nat.{mod-lt}
use Rattle.std.specs.Vec.{vec_len, vec_capacity}
use Rattle.atomic_list.specs.Reads.{SameLog}
use Rattle.region_layout.specs.declared.cell.Cell.{Cell}
use Rattle.region_layout.specs.declared.layout.Layout.{Layout}
use Rattle.region_layout.specs.Cell.{record_of}
use Rattle.bucket_log.specs.declared.append.Place.{Place}
use Rattle.bucket_log.specs.Plans.{place_address}
use Rattle.log_keeper.specs.declared.slots.TheConstants.{NOBODY}
use Rattle.log_keeper.specs.declared.slots.Slot.{Slot}
use Rattle.log_keeper.specs.declared.keeper.LogKeeper.{LogKeeper}
use Rattle.log_keeper.specs.Keeper.{keeping_of, holder_of, numbered, appending, latched_if, free_places, KeepsSlots}
use Rattle.log_keeper.proofs.SlotLists.{read_slot}
use Rattle.txn_state.specs.Changes.{HasDrawn}
use Rattle.txn_state.specs.AppendLaws.{latched_append}

pub part_of_lane : (layout : Layout) (l : ℕ) → l % layout.partitions < layout.partitions
part_of_lane layout l = let some = layout.partitions_within.0 in mod-lt l (omega (arith, some))

-- so it has a slot
pub slot_of_lane : (layout : Layout) (keeper : LogKeeper) (l : ℕ) → length keeper.slots.items ≡ layout.partitions → l % layout.partitions < length keeper.slots.items
slot_of_lane layout keeper l slots = subst (λ n. l % layout.partitions < n) (sym slots) (part_of_lane layout l)

pub holder_read : (layout : Layout) (keeper : LogKeeper) (l : ℕ) (slot : Slot) → length keeper.slots.items ≡ layout.partitions →
    slot ≡ get_or keeper.slots.items (l % layout.partitions) slot → (keeping_of keeper).holder (l % layout.partitions) ≡ slot.holder
holder_read layout keeper l slot slots is = read_slot holder_of NOBODY keeper.slots.items (l % layout.partitions) slot (slot_of_lane layout keeper l slots) is

pub same_rows : (xs ys : List ℕ) → xs ≡ ys → SameLog (slice_index xs) (slice_index ys)
same_rows xs ys is a lt = ap (λ zs. slice_index zs a) (sym is)

pub slots_kept : (xs ys zs : List Slot) → KeepsSlots xs ys → KeepsSlots ys zs → KeepsSlots xs zs
slots_kept xs ys zs h k = record {
  count = k.count ∙ h.count;
  lists = λ p n lt room. k.lists p n (let e = h.count in omega (arith, lt, e)) (h.lists p n lt room);
}

-- a free latch is taken, and then the append begins
pub has_drawn : (keeper held later : LogKeeper) (p l : ℕ) (place : Place) (cell : Cell) (taken : Bool) → (keeping_of keeper).holder p ≡ NOBODY →
    taken ≡ ((keeping_of keeper).holder p == NOBODY) → keeping_of held ≡ latched_if taken p l (keeping_of keeper) →
    held.next_lsn ≡ keeper.next_lsn → held.ledger ≡ keeper.ledger → KeepsSlots keeper.slots.items held.slots.items →
    keeping_of later ≡ appending p place (record_of (place_address place) (numbered held.next_lsn cell)) (keeping_of held) →
    later.next_lsn ≡ held.next_lsn + 1 → free_places later + 1 ≡ free_places held → KeepsSlots held.slots.items later.slots.items →
    HasDrawn keeper later (latched_append p l place cell keeper)
has_drawn keeper held later p l place cell taken free told latched number ledger slots drawn next places kept = record {
  kept = drawn ∙ ap (λ n. appending p place (record_of (place_address place) (numbered n cell)) (keeping_of held)) number
      ∙ ap (appending p place (record_of (place_address place) (numbered keeper.next_lsn cell)))
      (latched ∙ ap (λ t. latched_if t p l (keeping_of keeper)) (told ∙ ap (λ n. n == NOBODY) free));
  number = next ∙ ap (λ n. n + 1) number;
  places = places ∙ ap (λ entries. vec_capacity entries - vec_len entries) ledger;
  slots = slots_kept keeper.slots.items held.slots.items later.slots.items slots kept;
}
