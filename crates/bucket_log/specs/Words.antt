-- The log words of a partition, and the records that they hold. w are the words of the partition's view.
use Rattle.std.specs.Prelude.{◌≡◌, ◌⊎◌, ◌↔◌, ℕ, ◌+◌, ◌<◌, ◌≤◌, List}
use Rattle.persist_model.specs.Region.{Words}
use Rattle.persist_model.specs.Records.{Record}
use Rattle.persist_model.specs.Shape.{Shape, IsBucketOf, bucket_size, list_words}
use Rattle.persist_model.specs.Chain.{HEAD, TO_REMOVE}
use Rattle.persist_model.specs.ImageRecords.{IsRecordOf}
use Rattle.persist_model.specs.Sound.{room_of}
use Rattle.atomic_list.specs.Rules.{IsAtRest, IsList}

-- a is a word of a bucket of the partition
abbrev pub IsBucketWord : Shape → ℕ → ℕ → Type 0
IsBucketWord shape p a = (b : ℕ) × IsBucketOf shape p b × (b ≤ a) × (a < b + bucket_size shape)

-- a is a word of the partition's log in its view: one of the five that name buckets, or a word of a bucket
abbrev pub IsLogWord : Shape → ℕ → ℕ → Type 0
IsLogWord shape p a = ((HEAD ≤ a) × (a ≤ TO_REMOVE)) ⊎ IsBucketWord shape p a

-- the same in the region
abbrev pub IsPartWord : Shape → ℕ → ℕ → Type 0
IsPartWord shape p a = ((list_words p ≤ a) × (a ≤ list_words p + 4)) ⊎ IsBucketWord shape p a

-- the two have the same records
abbrev pub SameRecords : ℕ → Words → List ℕ → Words → List ℕ → Type 0
SameRecords cells w xs v ys = (r : Record) → IsRecordOf cells ys v r ↔ IsRecordOf cells xs w r

-- the second has one record more, this one
abbrev pub AddsRecord : ℕ → Words → List ℕ → Words → List ℕ → Record → Type 0
AddsRecord cells w xs v ys new = (r : Record) → IsRecordOf cells ys v r ↔ (IsRecordOf cells xs w r ⊎ (r ≡ new))

-- v has a list with the records and the room that w has with the chain xs, and no bucket is being taken out
pub record KeepsLog (shape : Shape) (p : ℕ) (w : Words) (xs : List ℕ) (v : Words) : Type 0 where
  pub chain : List ℕ
  pub list : IsList shape p v chain
  pub to_remove : v TO_REMOVE ≡ 0
  pub records : SameRecords shape.cells w xs v chain
  pub room : room_of shape v p chain ≡ room_of shape w p xs

-- v has a list at rest with this record more, and one cell less room
pub record AddsToLog (shape : Shape) (p : ℕ) (w : Words) (xs : List ℕ) (new : Record) (v : Words) : Type 0 where
  pub chain : List ℕ
  pub at_rest : IsAtRest shape p v chain
  pub records : AddsRecord shape.cells w xs v chain new
  pub room : room_of shape v p chain + 1 ≡ room_of shape w p xs
