-- What is told of a sound image that isn't recovered: its first recovery word that asks for a repair, else its first open gate, else the first bucket
-- that stands behind another in its chain.
use Rattle.std.specs.Prelude.{◌≡◌, ◌≢◌, ◌⊎◌, ℕ, ◌+◌, ◌<◌, ◌≤◌, Option, Some, None, List, [], ◌∷◌, ◌++◌}
use Rattle.persist_model.specs.ImageRules.{rule_number}
use Rattle.persist_model.specs.Region.{Words}
use Rattle.persist_model.specs.Records.{Record, Log, IsAmong, Has}
use Rattle.persist_model.specs.Shape.{Shape, shape_of, list_words}
use Rattle.persist_model.specs.State.{State}
use Rattle.persist_model.specs.Sound.{HasChain, HasState, IsSound}
use Rattle.persist_model.specs.Faults.{IsFirstFault}
use Rattle.recovery_run.specs.Reached.{IsQuiet, HasFewBuckets}
use Rattle.recovery_passes.specs.Recovered.{IsFinished}
use Rattle.sound_check.specs.declared.fault.CheckFault.{CheckFault}
use Rattle.sound_check.specs.declared.fault.CheckFault.TheVariants as check
use Rattle.rest_check.specs.declared.resting.RestFault.{RestFault}
use Rattle.rest_check.specs.declared.resting.RestFault.TheVariants as rest

-- ---- recovery words

-- the first of the partition's two recovery words that asks for a repair, TO_APPEND before TO_REMOVE
abbrev pub AsksAt : Words → ℕ → ℕ → Type 0
AsksAt w p a = ((a ≡ list_words p + 2) × (w a ≢ 0)) ⊎ ((w (list_words p + 2) ≡ 0) × (a ≡ list_words p + 4) × (w a ≢ 0))

-- no recovery word of the first n partitions asks for a repair
abbrev pub AreQuiet : ℕ → Words → Type 0
AreQuiet n w = (p : ℕ) → p < n → IsQuiet p w

-- the first one that does, by partition
pub record IsFirstAsked (shape : Shape) (w : Words) (a : ℕ) : Type 0 where
  pub part : ℕ
  pub inside : part < shape.partitions
  pub before : AreQuiet part w
  pub asks : AsksAt w part a

-- ---- gates

-- the least address of an open gate
pub record IsFirstOpen (log : Log) (a : ℕ) : Type 0 where
  pub stands : Has (λ r. r.at ≡ a) log
  pub least : (r : Record) → IsAmong log r → a ≤ r.at

abbrev pub IsLeastGate : Log → Option ℕ → Type 0
IsLeastGate log None = log ≡ []
IsLeastGate log (Some a) = IsFirstOpen log a

-- ---- buckets

-- the second of the chain, 0 where it has none
abbrev pub second_of : List ℕ → ℕ
second_of [] = 0
second_of (x ∷ []) = 0
second_of (x ∷ (y ∷ chain)) = y

-- the second bucket of the first chain that has one, by partition
pub record IsFirstSecond (shape : Shape) (w : Words) (a : ℕ) : Type 0 where
  pub part : ℕ
  pub inside : part < shape.partitions
  pub before : (p : ℕ) → p < part → HasFewBuckets shape p w
  pub some : a ≢ 0
  pub second : (chain : List ℕ) → HasChain shape w part chain → second_of chain ≡ a

-- ---- the three in their order

pub data IsUnrested (shape : Shape) (w : Words) (a : ℕ) : Type 0 where
  asks : IsFirstAsked shape w a → IsUnrested shape w a
  opens : AreQuiet shape.partitions w → ((s : State) → HasState shape w s → IsFirstOpen s.log a) → IsUnrested shape w a
  goes_on : AreQuiet shape.partitions w → ((s : State) → HasState shape w s → s.log ≡ []) → IsFirstSecond shape w a → IsUnrested shape w a

-- ---- the answers

abbrev pub rest_fault : CheckFault → RestFault
rest_fault (check.Unsound found) = rest.Unsound found
rest_fault check.NoMemory = rest.NoMemory

-- why words aren't accepted
abbrev pub IsRestCause : ℕ → Words → RestFault → Type 0
IsRestCause size w (rest.Unsound found) = IsFirstFault size w (rule_number found.rule) found.address
IsRestCause size w (rest.NotRecovered a) = IsSound size w × IsUnrested (shape_of w) w a
IsRestCause size w rest.NoMemory = Unit {0}

-- ---- the laws

abbrev pub UnrestedIsUnfinished : Type 0
UnrestedIsUnfinished = (size a : ℕ) (w : Words) → IsUnrested (shape_of w) w a → IsFinished size w → ⊥

abbrev pub UnrestedIsOne : Type 0
UnrestedIsOne = (size a b : ℕ) (w : Words) → IsSound size w → IsUnrested (shape_of w) w a → IsUnrested (shape_of w) w b → a ≡ b
