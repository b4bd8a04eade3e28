-- What is known of a part's event that the device made.
use Rattle.std.proofs.Common.{◌≡◌, ℕ, ◌+◌, ◌%◌, ◌<◌, ◌≤◌, Some, slice_get, ap}
use Rattle.persist_model.specs.declared.event.Event.{Event}
use Rattle.persist_model.specs.Region.{Region, after}
use Rattle.lane_traits.specs.Device.{Counts, stores_of}
use Rattle.region_layout.specs.declared.layout.Layout.{Layout}
use Rattle.region_layout.specs.Layout.{layout_shape}
use Rattle.log_keeper.specs.declared.keeper.LogKeeper.{LogKeeper}
use Rattle.log_keeper.specs.Logged.{plan_in}
use Rattle.log_keeper.specs.Keeper.{keeping_of}
use Rattle.txn_state.specs.AppendLaws.{IsMade}
use Rattle.txn_state.specs.HeapLaws.{IsEvent}
use Rattle.txn_core.specs.Running.{one_made}
use Rattle.txn_core.proofs.Stores.{one_place, below_17}

pub is_made : (layout : Layout) (keeper : LogKeeper) (region behind : Region) (counts later : Counts) (l n : ℕ) (e : Event) (spare left : ℕ) → l < n → n ≤ 16 →
    (keeping_of keeper).holder (l % layout.partitions) ≡ l →
    slice_get (plan_in (layout_shape layout) (keeping_of keeper) (l % layout.partitions)) ((keeping_of keeper).runs (l % layout.partitions)).made ≡ Some e →
    behind ≡ after region l e → later ≡ one_made counts → spare ≤ left + stores_of e → IsMade layout keeper region behind l e spare left counts.events later.events
is_made layout keeper region behind counts later l n e spare left lt few holder next cells counted places = record {
  holder = holder;
  next = next;
  cells = cells;
  places = one_place e spare left places;
  counted = ap (λ (each : Counts). each.events) counted;
  inside = below_17 l n lt few;
}

-- or of one on the lane's own words
pub is_event : (region behind : Region) (counts later : Counts) (l n : ℕ) (e : Event) (spare left : ℕ) → l < n → n ≤ 16 →
    behind ≡ after region l e → later ≡ one_made counts → spare ≤ left + stores_of e → IsEvent region behind l e spare left counts.events later.events
is_event region behind counts later l n e spare left lt few cells counted places = record {
  cells = cells;
  places = one_place e spare left places;
  counted = ap (λ (each : Counts). each.events) counted;
  inside = below_17 l n lt few;
}
