-- The buckets of a part that aren't in the chain.
use Rattle.std.specs.Prelude.{◌≡◌, ℕ, zero, suc, ◌+◌, ◌-◌, ◌/◌, ◌<◌, ◌≤◌, ◌==◌, Bool, if◌then◌else◌, List, [], ◌∷◌, length, take, slice_index}
use Rattle.std.specs.List.{list_any}
use Rattle.persist_model.specs.declared.format.TheConstants.{MAX_WORDS}
use Rattle.persist_model.specs.Region.{Words}
use Rattle.persist_model.specs.Shape.{Shape, bucket}
use Rattle.persist_model.specs.Chain.{last_or}
use Rattle.region_layout.specs.declared.layout.Buckets.{Buckets}
use Rattle.atomic_list.specs.Walk.{chain_of}
use Rattle.batch_log.specs.ChosenSlots.{ChosenSlots}

abbrev pub has_bucket : List ℕ → ℕ → Bool
has_bucket chain b = list_any (λ x. x == b) chain

-- those among count buckets from number j on that aren't in the chain, ascending
abbrev pub free_from : Shape → List ℕ → ℕ → ℕ → List ℕ
free_from shape chain j zero = []
free_from shape chain j (suc count) =
    if has_bucket chain (bucket shape j) then free_from shape chain (suc j) count else bucket shape j ∷ free_from shape chain (suc j) count

abbrev pub free_buckets : Shape → Buckets → List ℕ → List ℕ
free_buckets shape part chain = free_from shape chain part.first part.count

-- how many buckets so many records take
abbrev pub buckets_for : ℕ → ℕ → ℕ
buckets_for cells n = (n + (cells - 1)) / cells

-- the first of them, so many
pub record HasTaken (wanted : ℕ) (free found : List ℕ) : Type 0 where
  pub enough : wanted ≤ length free
  pub found_are : found ≡ take wanted free

-- each address is within any region
abbrev pub AreWithin : List ℕ → Type 0
AreWithin buckets = (k : ℕ) → k < length buckets → slice_index buckets k < MAX_WORDS

-- The slots have the least free buckets, so many, and the chain's last bucket; what they take of the spare places falls away.
pub record IsChosen (shape : Shape) (part : Buckets) (w : Words) (wanted : ℕ) (before later : ChosenSlots) : Type 0 where
  pub buckets_are : later.buckets ≡ take wanted (free_buckets shape part (chain_of shape w))
  pub all_there : length later.buckets ≡ wanted
  pub tail_is : later.tail ≡ last_or 0 (chain_of shape w)
  pub spare_falls : later.spare + wanted ≡ before.spare
