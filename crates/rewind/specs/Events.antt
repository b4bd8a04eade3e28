-- The events of a run of transactions: each put is a durable store, each commit a fence.
use Rattle.std.specs.Prelude.{◌≡◌, ◌⊎◌, ℕ, ◌+◌, ◌-◌, ◌<◌, ◌≤◌, List, [], ◌∷◌, ◌++◌, length, take, sum_by, nat_lt, if◌then◌else◌, slice_index}
use Rattle.std.specs.Option.{unwrap_or}
use Rattle.persist_model.specs.declared.event.Candidate.{Candidate}
use Rattle.persist_model.specs.Region.{Region, candidate, IsImage}
use Rattle.persist_model.specs.Shape.{Shape, heap}
use Rattle.lane_traits.specs.Device.{Counts, counted, since_load}
use Rattle.rewind.specs.declared.script.Put.{Put}
use Rattle.rewind.specs.History.{Contents}

-- how many events the transactions make
abbrev pub event_count : List (List Put) → ℕ
event_count ts = sum_by (λ t. length t + 1) ts

-- how many stores they make
abbrev pub store_count : List (List Put) → ℕ
store_count ts = sum_by (λ t. length t) ts

-- With so many events the fences of the first k transactions were made, and not that of the next.
pub record StopsAfter (ts : List (List Put)) (made k : ℕ) : Type 0 where
  pub within : k < length ts
  pub fenced : event_count (take k ts) ≤ made
  pub open_one : made < event_count (take (k + 1) ts)

-- the region of a script: of format 2, under force, with one cell a bucket and one structure
abbrev pub script_shape : ℕ → ℕ → Shape
script_shape buckets blocks = record {
  policy = 1;
  cells = 1;
  buckets = buckets;
  blocks = blocks;
  structures = 1;
  format = 2;
  partitions = 1;
}

-- the address of the root block of structure 0
abbrev pub root_of : ℕ → ℕ → ℕ
root_of buckets blocks = heap (script_shape buckets blocks)

-- what a device has counted after so many events more, and after one Stopped answer more
abbrev pub with_events : ℕ → Counts → Counts
with_events made c = record c { events = c.events + made }

abbrev pub has_stopped : Counts → Counts
has_stopped c = record c { stopped = counted c.stopped }

-- no event was made; the region may have been loaded
abbrev pub HasNoEvent : Counts → Counts → Type 0
HasNoEvent before later = (later ≡ before) ⊎ (later ≡ since_load before)

-- the data word with this number of a root block: key k has word 4 + k, which is 0 where the key is absent
abbrev pub data_word : Contents → ℕ → ℕ
data_word m i = if nat_lt i 4 then 0 else unwrap_or (m (i - 4)) 0

-- the data words of the block at this address are those of the map, whatever a stop leaves
abbrev pub AreCells : ℕ → Contents → Region → Type 0
AreCells root m region = (image : List ℕ) → IsImage image region → (i : ℕ) → 0 < i → i < 16 → slice_index image (root + i) ≡ data_word m i

-- ---- within a run

-- each data word has one candidate, without a mark
abbrev pub IsAtRest : ℕ → Contents → Region → Type 0
IsAtRest root m region = (i : ℕ) → 0 < i → i < 16 → region.at (root + i) ≡ candidate (data_word m i) 0 ∷ []

-- the word is settled at the value, or it was stored last, by lane 0
pub data EndsAt (v : ℕ) : List Candidate → Type 0 where
  rests : EndsAt v (candidate v 0 ∷ [])
  stored : (front : List Candidate) → EndsAt v (front ++ candidate v 1 ∷ [])

-- each data word ends at its value
abbrev pub IsUnderWay : ℕ → Contents → Region → Type 0
IsUnderWay root m region = (i : ℕ) → 0 < i → i < 16 → EndsAt (data_word m i) (region.at (root + i))
