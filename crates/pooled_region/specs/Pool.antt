-- The candidates of each word: an oldest one, and later ones in places of a pool.
use Rattle.std.specs.Prelude.{◌≡◌, ℕ, zero, suc, ◌<◌, ◌≤◌, Bool, not, List, [], ◌∷◌, ◌++◌, length, sum_by, slice_index_or, ◌==◌}
use Rattle.persist_model.specs.declared.event.Candidate.{Candidate}
use Rattle.persist_model.specs.Region.{Region, candidate}
use Rattle.pooled_region.specs.declared.pool.Place.{Place}
use Rattle.pooled_region.specs.declared.pool.Word.{Word}
use Rattle.pooled_region.specs.declared.pool.Free.{Free}

-- what is read past the end
abbrev pub no_place : Place
no_place = record { candidate = candidate 0 0; next = 0 }

abbrev pub no_word : Word
no_word = record { oldest = candidate 0 0; newest = 0; later = 0 }

abbrev pub is_marked : Candidate → Bool
is_marked c = not (c.mark == 0)

-- ---- lists of places

abbrev pub next_of : List Place → ℕ → ℕ
next_of places place = (slice_index_or places place no_place).next

-- the place so many steps behind this one
abbrev pub place_at : List Place → ℕ → ℕ → ℕ
place_at places start zero = start
place_at places start (suc n) = place_at places (next_of places start) n

-- so many places from this one on are in the pool
abbrev pub StaysWithin : List Place → ℕ → ℕ → Type 0
StaysWithin places start count = (i : ℕ) → i < count → place_at places start i < length places

-- the candidates of so many places from this one on, which has the newest: oldest first
abbrev pub later_of : List Place → ℕ → ℕ → List Candidate
later_of places start zero = []
later_of places start (suc n) = later_of places (next_of places start) n ++ (slice_index_or places start no_place).candidate ∷ []

-- ---- words

-- all candidates of a word
abbrev pub word_of : List Place → Word → List Candidate
word_of places word = word.oldest ∷ later_of places word.newest word.later

abbrev pub candidates_at : List Place → List Word → ℕ → List Candidate
candidates_at places words a = word_of places (slice_index_or words a no_word)

abbrev pub cells_of : List Place → List Word → Region
cells_of places words = record { size = length words; at = candidates_at places words }

-- ---- the pool

-- the lists by their numbers: 0 is that of the free places, and a + 1 that of word a
abbrev pub start_of : List Word → Free → ℕ → ℕ
start_of words free zero = free.first
start_of words free (suc a) = (slice_index_or words a no_word).newest

abbrev pub count_of : List Word → Free → ℕ → ℕ
count_of words free zero = free.count
count_of words free (suc a) = (slice_index_or words a no_word).later

-- each list is within the pool, and no place stands in two lists, or twice in one
pub record ArePooled (places : List Place) (words : List Word) (free : Free) : Type 0 where
  pub within : (k : ℕ) → StaysWithin places (start_of words free k) (count_of words free k)
  pub apart : (k l i j : ℕ) → i < count_of words free k → j < count_of words free l
      → place_at places (start_of words free k) i ≡ place_at places (start_of words free l) j → (k ≡ l) × (i ≡ j)

-- the places of a word's later candidates are in the pool
pub record HasPlaces (places : List Place) (word : Word) : Type 0 where
  pub within : StaysWithin places word.newest word.later
  pub fewer : word.later ≤ length places

abbrev pub AreWithin : List Place → List Word → Type 0
AreWithin places words = (a : ℕ) → HasPlaces places (slice_index_or words a no_word)

-- how many places have a later candidate of a word
abbrev pub later_count : List Word → ℕ
later_count words = sum_by (λ (w : Word). w.later) words

-- ---- settled words

abbrev pub settled_word : Candidate → Word
settled_word c = record { oldest = c; newest = 0; later = 0 }

-- each word is settled and unmarked
abbrev pub AreBare : List Word → Type 0
AreBare words = (a : ℕ) → ((slice_index_or words a no_word).later ≡ 0) × ((slice_index_or words a no_word).oldest.mark ≡ 0)
