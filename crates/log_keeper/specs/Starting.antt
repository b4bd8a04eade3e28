-- The keeper of a region at rest.
use Rattle.std.specs.Prelude.{◌≡◌, ℕ, ◌<◌, List, [], ◌∷◌, map, reverse}
use Rattle.persist_model.specs.Region.{Words, Region}
use Rattle.persist_model.specs.Progress.{AreSettledAt}
use Rattle.persist_model.specs.Records.{IsAmong}
use Rattle.persist_model.specs.Shape.{Shape, heap, log_words, words_of_shape}
use Rattle.persist_model.specs.Chain.{view}
use Rattle.persist_model.specs.State.{State}
use Rattle.persist_model.specs.Sound.{HasState}
use Rattle.atomic_list.specs.Rules.{IsAtRest}
use Rattle.region_layout.specs.Layout.{IsAllowed}
use Rattle.bucket_log.specs.declared.scanning.Placed.{Placed}
use Rattle.bucket_log.specs.Scans.{record_of_placed}
use Rattle.log_keeper.specs.declared.slots.TheConstants.{NOBODY}
use Rattle.log_keeper.specs.declared.ledger.Progress.TheVariants.{Settled as IsSettled}
use Rattle.log_keeper.specs.declared.ledger.Entry.{Entry}
use Rattle.log_keeper.specs.declared.slots.Slot.{Slot}
use Rattle.log_keeper.specs.Ledger.{Settled, Noted}
use Rattle.log_keeper.specs.Slots.{run_of_slot}
use Rattle.log_keeper.specs.Logged.{Keeping, resting, IsLoggedAt}
use Rattle.log_keeper.specs.Ordered.{FitsRuns}

-- a record that was found is settled, and no lane's
abbrev pub found_entry : Placed → Entry
found_entry placed = record { lane = NOBODY; placed = placed; stage = IsSettled }

abbrev pub found : Placed → Noted
found placed = record { lane = NOBODY; entry = record_of_placed placed; stage = Settled }

-- these records, oldest first, were found, nothing is under way, and no latch is held
abbrev pub starting : List Placed → Keeping
starting records = record { ledger = reverse (map found records); runs = λ p. resting; holder = λ p. NOBODY }

-- nothing is under way in the slot, and its latch is free
abbrev pub IsFree : Slot → Type 0
IsFree slot = (run_of_slot slot ≡ resting) × (slot.holder ≡ NOBODY)

abbrev pub AreFree : List Slot → Type 0
AreFree [] = Unit {0}
AreFree (x ∷ slots) = IsFree x × AreFree slots

-- the numbers rise, below the next one
abbrev pub AreOldestFirst : ℕ → List Placed → Type 0
AreOldestFirst next [] = Unit {0}
AreOldestFirst next (x ∷ records) = (x.cell.lsn < next) × ((y : Placed) → IsAmong records y → x.cell.lsn < y.cell.lsn) × AreOldestFirst next records

-- ---- the law

-- The keeper of a region whose log is settled and at rest, with these records, is where it may start.
pub record KeepersStart : Type 0 where
  pub logged : (shape : Shape) (base : Words) (s : State) (chains : ℕ → List ℕ) (records : List Placed) (region : Region) → region.size ≡ words_of_shape shape → IsAllowed shape →
      HasState shape base s → s.log ≡ reverse (map record_of_placed records) → ((p : ℕ) → p < shape.partitions → IsAtRest shape p (view p (log_words shape base)) (chains p)) →
      AreSettledAt (λ a. a < heap shape) base region → IsLoggedAt shape base s chains (starting records) region
  pub fits : (shape : Shape) (records : List Placed) → FitsRuns shape (starting records)
