-- What a part of recovery does to what a device counts, and to the words that it doesn't store to.
use Rattle.std.specs.Prelude.{◌≡◌, ◌⊎◌, ℕ, ◌+◌, ◌<◌, ◌≤◌, List, [], ◌∷◌}
use Rattle.persist_model.specs.declared.event.Candidate.{Candidate}
use Rattle.persist_model.specs.declared.event.Event.{Event}
use Rattle.persist_model.specs.declared.event.Event.TheVariants.{Store, PStore, WriteBack, Fence}
use Rattle.persist_model.specs.Region.{Region, IsCandidate}
use Rattle.persist_model.specs.Shape.{Shape, list_words}
use Rattle.lane_traits.specs.declared.device.Done.{Done}
use Rattle.lane_traits.specs.declared.device.Done.TheVariants.{Made, Stopped}
use Rattle.lane_traits.specs.Device.{Counts, counted}

-- so many events were made, or so many and then the device answered Stopped
abbrev pub counts_with : Counts → ℕ → Done → Counts
counts_with counts n Made = record counts { events = counts.events + n }
counts_with counts n Stopped = record counts { events = counts.events + n; stopped = counted counts.stopped }

-- At most so many events were made; a stop came where the budget was used up, and nothing else of what is counted changed.
pub record HasCounted (most : ℕ) (done : Done) (before later : Counts) : Type 0 where
  pub events : ℕ
  pub few : events ≤ most
  pub is : later ≡ counts_with before events done
  pub cause : done ≡ Stopped → before.events + events ≡ before.budget

-- the event stores to another word, or to none
abbrev pub StoresElsewhere : ℕ → Event → Type 0
StoresElsewhere a (Store b v) = a ≡ b → ⊥
StoresElsewhere a (PStore b v) = a ≡ b → ⊥
StoresElsewhere a (WriteBack b) = Unit {0}
StoresElsewhere a Fence = Unit {0}

abbrev pub StoreElsewhere : ℕ → List Event → Type 0
StoreElsewhere a [] = Unit {0}
StoreElsewhere a (e ∷ plan) = StoresElsewhere a e × StoreElsewhere a plan

-- the word can be nothing but v
abbrev pub HasOnlyValue : ℕ → List Candidate → Type 0
HasOnlyValue v cs = (x : ℕ) → IsCandidate cs x → x ≡ v

-- the words of A that can be nothing but one value stay so
abbrev pub KeepsWords : (ℕ → Type 0) → Region → Region → Type 0
KeepsWords A before later = (a v : ℕ) → A a → HasOnlyValue v (before.at a) → HasOnlyValue v (later.at a)

-- a word of the header that is no list word of a partition
pub record IsPlainHeaderWord (shape : Shape) (a : ℕ) : Type 0 where
  pub below : a < 32
  pub apart : (p : ℕ) → p < shape.partitions → (a < list_words p) ⊎ (list_words p + 4 < a)

-- no event of the plan stores to a word of the header
abbrev pub AreOffHeader : Shape → List Event → Type 0
AreOffHeader shape plan = (a : ℕ) → IsPlainHeaderWord shape a → StoreElsewhere a plan
