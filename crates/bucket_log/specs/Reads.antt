-- What is read of the log, in words whose list is sound.
use Rattle.std.specs.Prelude.{◌≡◌, ◌≢◌, ◌⊎◌, ℕ, ◌+◌, ◌-◌, ◌*◌, ◌<◌, ◌≤◌, ◌==◌, if◌then◌else◌, true, false, nat_le, List, length, filter, Option, Some, None}
use Rattle.persist_model.specs.Region.{Words}
use Rattle.persist_model.specs.Records.{IsAmong}
use Rattle.persist_model.specs.Shape.{Shape, shape_of, bucket}
use Rattle.persist_model.specs.Chain.{last_or}
use Rattle.persist_model.specs.ImageRecords.{cell_address}
use Rattle.persist_model.specs.Sound.{closed_cells}
use Rattle.atomic_list.specs.Reads.{HasList}
use Rattle.region_layout.specs.declared.layout.Layout.{Layout}
use Rattle.region_layout.specs.declared.layout.Buckets.{Buckets}
use Rattle.region_layout.specs.Layout.{layout_shape, IsPartition}
use Rattle.bucket_log.specs.declared.append.Place.{Place}

-- These many words are those of a region of this layout, or of a partition's view of it, and the list is sound.
pub record IsLogOf (layout : Layout) (size : ℕ) (w : Words) : Type 0 where
  pub has_list : HasList size w
  pub has_layout : shape_of w ≡ layout_shape layout

-- and the part is the list's partition
pub record IsLogOfPart (layout : Layout) (part : Buckets) (size : ℕ) (w : Words) : Type 0 where
  pub log : IsLogOf layout size w
  pub is_part : IsPartition (layout_shape layout) log.has_list.part part

-- the closed cells of the chain's last bucket, and all cells of each bucket of the part that isn't in the chain
abbrev pub room_in : ℕ → Words → Buckets → List ℕ → ℕ
room_in cells w part chain = (if last_or 0 chain == 0 then 0 else closed_cells w (last_or 0 chain) cells) + cells * (part.count - length chain)

-- the least closed cell of a bucket, or none
abbrev pub IsFirstClosed : Words → ℕ → ℕ → Option ℕ → Type 0
IsFirstClosed w b cells None = (c : ℕ) → c < cells → w (cell_address b c) ≢ 0
IsFirstClosed w b cells (Some c) = (c < cells) × (w (cell_address b c) ≡ 0) × ((d : ℕ) → d < c → w (cell_address b d) ≢ 0)

abbrev pub IsInPart : Buckets → ℕ → Type 0
IsInPart part j = (part.first ≤ j) × (j < part.first + part.count)

-- all buckets of the part up to number j are in the chain
abbrev pub HasAllTo : Shape → Buckets → List ℕ → ℕ → Type 0
HasAllTo shape part chain j = (i : ℕ) → part.first ≤ i → i ≤ j → IsAmong chain (bucket shape i)

-- the first buckets of the part, so many and not all, are in the chain
abbrev pub IsFirstPart : Shape → Buckets → List ℕ → ℕ → Type 0
IsFirstPart shape part chain used = (used < part.count) × ((i : ℕ) → part.first ≤ i → i < part.first + used → IsAmong chain (bucket shape i))

-- how many of the chain's buckets stand at this address or before it
abbrev pub count_to : ℕ → List ℕ → ℕ
count_to at chain = length (filter (λ b. nat_le b at) chain)

-- the least bucket of the part that isn't in the chain, or none
abbrev pub IsLeastOutside : Shape → Buckets → List ℕ → Option ℕ → Type 0
IsLeastOutside shape part chain None = (j : ℕ) → IsInPart part j → IsAmong chain (bucket shape j)
IsLeastOutside shape part chain (Some b) =
    (j : ℕ) × IsInPart part j × (b ≡ bucket shape j) × (IsAmong chain b → ⊥) × ((i : ℕ) → part.first ≤ i → i < j → IsAmong chain (bucket shape i))

-- the first closed cell of the last bucket, or none where that is full, or there is none
abbrev pub IsUsedIn : Words → ℕ → ℕ → Option Place → Type 0
IsUsedIn w cells tail None = tail ≢ 0 → (c : ℕ) → c < cells → w (cell_address tail c) ≢ 0
IsUsedIn w cells tail (Some place) = (tail ≢ 0) × (place.bucket ≡ tail) × (place.fresh ≡ false) × (place.tail ≡ tail) × IsFirstClosed w tail cells (Some place.cell)

-- the first cell of the least bucket of the part that isn't in the chain, or none
abbrev pub IsFreshIn : Shape → Buckets → List ℕ → ℕ → Option Place → Type 0
IsFreshIn shape part chain tail None = IsLeastOutside shape part chain None
IsFreshIn shape part chain tail (Some place) = IsLeastOutside shape part chain (Some place.bucket) × (place.fresh ≡ true) × (place.cell ≡ 0) × (place.tail ≡ tail)

-- the one, or else the other
abbrev pub IsNextIn : Shape → Buckets → Words → List ℕ → Option Place → Type 0
IsNextIn shape part w chain None = IsUsedIn w shape.cells (last_or 0 chain) None × IsFreshIn shape part chain (last_or 0 chain) None
IsNextIn shape part w chain (Some place) =
    IsUsedIn w shape.cells (last_or 0 chain) (Some place)
    ⊎ (IsUsedIn w shape.cells (last_or 0 chain) None × IsFreshIn shape part chain (last_or 0 chain) (Some place))
