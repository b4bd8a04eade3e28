-- Images with a log in one bucket of 16 cells, whose first stands at 40, and what the rules say of them. Word 583 is data of the
-- root, and 592 the owner of a plain block.
use Rattle.std.proofs.Common.{◌≡◌, ℕ, true, List, [], ◌∷◌}
use Rattle.persist_model.specs.Region.{Words}
use Rattle.persist_model.specs.Records.{Log}
use Rattle.persist_model.specs.Shape.{shape_of, heap_words}
use Rattle.persist_model.specs.Faults.{IsFirstFault, IsLogFault}
use Rattle.persist_model.specs.Sound.{IsSound, StandsIn}
use Rattle.log_laws.proofs.LogFaults.{LogHolds, log_some}
use Rattle.log_laws.proofs.Standings.{stands_some}
use Rattle.log_laws.proofs.Verdicts.{word, words_of, holds, fails, HeaderHolds, ListsAreSound, LogIs, state_at, log_fault, is_sound, stands_at}
use Rattle.log_laws.proofs.Examples.LiteralImages.{bucketed, header, ends, cell}

abbrev pub cells : Log → List (ℕ × ℕ) → List (ℕ × ℕ)
cells [] more = more
cells (r ∷ log) more = cell r (cells log more)

-- the log's cells, the owner of the root, and these heap words
abbrev pub logged : ℕ → Log → List (ℕ × ℕ) → Words
logged policy log heap = words_of (header policy 16 (ends 32 32 (cells log (word 576 1 ∷ heap))))

-- its first fault
abbrev pub Breaks : ℕ → Log → ℕ → ℕ → Type 0
Breaks policy log fault a = IsFirstFault 832 (logged policy log []) fault a

abbrev pub IsGood : ℕ → Log → Type 0
IsGood policy log = IsSound 832 (logged policy log [])

-- with these heap words it is sound, and v is the standing value of a
abbrev pub StandsAt : ℕ → Log → List (ℕ × ℕ) → ℕ → ℕ → Type 0
StandsAt policy log heap a v = IsSound 832 (logged policy log heap) × StandsIn (logged policy log heap) a v

pub breaks : (policy : ℕ) (log : Log) (fault a : ℕ) → shape_of (logged policy log []) ≡ bucketed policy → HeaderHolds 832 (logged policy log []) →
    ListsAreSound (bucketed policy) (logged policy log []) → LogIs (bucketed policy) (logged policy log []) log →
    fails (LogHolds (bucketed policy) (state_at (bucketed policy) (logged policy log []) log)) (IsLogFault (bucketed policy) (state_at (bucketed policy) (logged policy log []) log))
    (log_some (bucketed policy) (state_at (bucketed policy) (logged policy log []) log)) fault a ≡ true → Breaks policy log fault a
breaks policy log fault a = log_fault 832 (logged policy log []) (bucketed policy) log fault a

pub good : (policy : ℕ) (log : Log) → shape_of (logged policy log []) ≡ bucketed policy → HeaderHolds 832 (logged policy log []) →
    ListsAreSound (bucketed policy) (logged policy log []) → LogIs (bucketed policy) (logged policy log []) log →
    holds (LogHolds (bucketed policy) (state_at (bucketed policy) (logged policy log []) log)) (IsLogFault (bucketed policy) (state_at (bucketed policy) (logged policy log []) log))
    (log_some (bucketed policy) (state_at (bucketed policy) (logged policy log []) log)) ≡ true → IsGood policy log
good policy log = is_sound 832 (logged policy log []) (bucketed policy) log

pub stands : (policy : ℕ) (log : Log) (heap : List (ℕ × ℕ)) (a v : ℕ) → shape_of (logged policy log heap) ≡ bucketed policy → HeaderHolds 832 (logged policy log heap) →
    ListsAreSound (bucketed policy) (logged policy log heap) → LogIs (bucketed policy) (logged policy log heap) log →
    holds (LogHolds (bucketed policy) (state_at (bucketed policy) (logged policy log heap) log)) (IsLogFault (bucketed policy) (state_at (bucketed policy) (logged policy log heap) log))
    (log_some (bucketed policy) (state_at (bucketed policy) (logged policy log heap) log)) ≡ true →
    (stands_some policy log (heap_words (bucketed policy) (logged policy log heap)) a).0 ≡ v → StandsAt policy log heap a v
stands policy log heap a v shape header lists log_is sound value =
    (is_sound 832 (logged policy log heap) (bucketed policy) log shape header lists log_is sound, stands_at 832 (logged policy log heap) (bucketed policy) log a v shape lists log_is value)
