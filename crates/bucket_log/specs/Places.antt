-- Where the next record goes.
use Rattle.std.specs.Prelude.{◌≡◌, ◌≢◌, ℕ, ◌<◌, Bool, true, false, List}
use Rattle.persist_model.specs.Region.{Words}
use Rattle.persist_model.specs.Records.{IsAmong}
use Rattle.persist_model.specs.Shape.{Shape, IsBucketOf}
use Rattle.persist_model.specs.Chain.{IsAbsent, last_or}
use Rattle.persist_model.specs.ImageRecords.{cell_address}
use Rattle.bucket_log.specs.declared.append.Place.{Place}
use Rattle.bucket_log.specs.Plans.{place_address}

-- no cell of the chain's last bucket is closed, or the chain is empty
abbrev pub IsFull : Shape → Words → List ℕ → Type 0
IsFull shape w chain = last_or 0 chain ≢ 0 → (c : ℕ) → c < shape.cells → w (cell_address (last_or 0 chain) c) ≢ 0

-- The place is in a bucket that isn't in the chain, behind which it is put, and the chain's last bucket is full.
pub record IsFreshPlace (shape : Shape) (p : ℕ) (w : Words) (chain : List ℕ) (place : Place) : Type 0 where
  pub bucket : IsBucketOf shape p place.bucket
  pub absent : IsAbsent place.bucket chain
  pub tail : place.tail ≡ last_or 0 chain
  pub full : IsFull shape w chain

-- The place is a closed cell of the chain's last bucket.
pub record IsUsedPlace (w : Words) (chain : List ℕ) (place : Place) : Type 0 where
  pub bucket : IsAmong chain place.bucket
  pub last : place.bucket ≡ last_or 0 chain
  pub closed : w (place_address place) ≡ 0

abbrev pub IsPlaceBy : Shape → ℕ → Words → List ℕ → Place → Bool → Type 0
IsPlaceBy shape p w chain place true = IsFreshPlace shape p w chain place
IsPlaceBy shape p w chain place false = IsUsedPlace w chain place

abbrev pub IsPlace : Shape → ℕ → Words → List ℕ → Place → Type 0
IsPlace shape p w chain place = IsPlaceBy shape p w chain place place.fresh

-- The next place is the first closed cell of the chain's last bucket, and where that is full the first cell of the least bucket of the
-- partition that isn't in the chain.
pub record IsNextPlace (shape : Shape) (p : ℕ) (w : Words) (chain : List ℕ) (place : Place) : Type 0 where
  pub is_place : IsPlace shape p w chain place
  pub below : place.cell < shape.cells
  pub tail : place.tail ≡ last_or 0 chain
  pub first_cell : place.fresh ≡ true → place.cell ≡ 0
  pub first_closed : place.fresh ≡ false → (c : ℕ) → c < place.cell → w (cell_address place.bucket c) ≢ 0
  pub least : place.fresh ≡ true → (b : ℕ) → IsBucketOf shape p b → b < place.bucket → IsAmong chain b
