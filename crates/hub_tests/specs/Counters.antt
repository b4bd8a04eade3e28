-- What contracts see of two counters.
use Rattle.std.specs.Prelude.{◌≡◌, ◌≢◌, ℕ, zero, suc, ◌==◌, if◌then◌else◌, Option, Some, None, []}
use Rattle.lane_types.specs.declared.call.Call.{Call}
use Rattle.lane_types.specs.declared.call.Call.TheVariants.{Write}
use Rattle.lane_types.specs.Deeds.{Deeds}
use Rattle.lane_types.specs.Seen.{Seen}
use Rattle.hub_tests.specs.declared.deed.Nothing.{Nothing}
use Rattle.hub_tests.specs.declared.counter.Counter.{Counter}
use Rattle.hub_tests.specs.Counter.{rest, face_of}

abbrev pub no_meaning : Deeds Nothing
no_meaning = record { means = λ deed before after. Unit {0}; names = λ deed. 0; sorts = λ deed. [] }

-- a write of the lane's own word
abbrev pub IsOwn : ℕ → Call Nothing → Type 0
IsOwn lane (Write a v) = a ≡ suc lane
IsOwn lane _ = ⊥

abbrev pub counter_at : Counter → Counter → ℕ → Counter
counter_at first second zero = first
counter_at first second (suc zero) = second
counter_at first second (suc (suc n)) = rest 0

abbrev pub word_at : Counter → Counter → ℕ → ℕ
word_at first second a = if a == 1 then first.word else (if a == 2 then second.word else 0)

abbrev pub seen_of : Counter → Counter → Option ℕ → Seen Nothing
seen_of first second last = record { lanes = 2; span = 16; word = word_at first second; touched = last; faces = λ lane. face_of lane (counter_at first second lane) }

-- what a step from the one value to the other touches, at this address
abbrev pub IsChange : ℕ → ℕ → ℕ → Option ℕ → Type 0
IsChange before now address touched = (before ≡ now → touched ≡ None) × (before ≢ now → touched ≡ Some address)
