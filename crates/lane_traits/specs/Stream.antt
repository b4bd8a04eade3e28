-- What a read gives of a source's bytes, and what a write leaves in a sink.
use Rattle.std.specs.Prelude.{◌≡◌, ℕ, ◌+◌, ◌-◌, ◌^◌, ◌≤◌, Bool, not, ◌&&◌, List, [], ◌++◌, length, take, Option, Some, min, filter, ◌==◌, nat_lt}
use Rattle.std.specs.List.{list_any}

-- the bytes that were left are the first n of the buffer and then the rest, which is left; 0 is the end
pub record Gives (n : ℕ) (bytes buffer : List ℕ) (left : Option (List ℕ)) : Type 0 where
  pub rest : List ℕ
  pub whole : bytes ≡ take n buffer ++ rest
  pub rest_left : left ≡ Some rest
  pub at_end : n ≡ 0 → bytes ≡ []

-- of the bytes a first part was appended
pub record TakesPart (before bytes : List ℕ) (written : Option (List ℕ)) : Type 0 where
  pub taken : ℕ
  pub appended : written ≡ Some (before ++ take taken bytes)

-- a count rose, or stands at the largest number of 64 bits
abbrev pub HasRisen : ℕ → ℕ → Type 0
HasRisen before later = min (before + 1) (2 ^ 64 - 1) ≤ later

-- A source in memory: the bytes that are left, the numbers of the calls that are to fail, and how many calls were made.
pub record SourceState : Type 0 where
  pub left : List ℕ
  pub fail : List ℕ
  pub calls : ℕ

-- A sink in memory: what was written, for how much there is room, the numbers of the calls that are to fail,
-- how many calls were made, and how many of them would have passed the room and were not to fail.
pub record SinkState : Type 0 where
  pub text : List ℕ
  pub room : ℕ
  pub fail : List ℕ
  pub calls : ℕ
  pub passed : ℕ

-- The call with this number is to fail. The count of calls stands still at the largest number of 64 bits, and there none does.
abbrev pub is_to_fail : List ℕ → ℕ → Bool
is_to_fail fail call = nat_lt call (2 ^ 64 - 1) && list_any (λ n. n == call) fail

-- how many of the numbers in the list are those of calls that were made
abbrev pub failed_calls : List ℕ → ℕ → ℕ
failed_calls fail calls = length (filter (λ n. nat_lt n calls) fail)

-- the faults of a sink in memory
abbrev pub sink_faults : SinkState → ℕ
sink_faults s = failed_calls s.fail s.calls + s.passed

-- a write of so many bytes isn't to fail and would pass the room
abbrev pub passes_room : SinkState → ℕ → Bool
passes_room s count = not (is_to_fail s.fail s.calls) && nat_lt s.room (length s.text + count)
