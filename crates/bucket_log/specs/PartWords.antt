-- The words of one partition: a plan that stores to these alone, and what they decide by themselves.
use Rattle.std.specs.Prelude.{◌≡◌, ◌↔◌, ℕ, ◌+◌, ◌<◌, Bool, IsTrue, not, nat_lt, ◌&&◌, ◌||◌, List, [], ◌∷◌}
use Rattle.persist_model.specs.declared.event.Event.{Event}
use Rattle.persist_model.specs.declared.event.Event.TheVariants.{Store, PStore, WriteBack, Fence}
use Rattle.persist_model.specs.Region.{Words, Region, MayStand, AreInside}
use Rattle.persist_model.specs.Progress.{Tracks, Reaches}
use Rattle.persist_model.specs.Runs.{progress_at}
use Rattle.persist_model.specs.Records.{Record}
use Rattle.persist_model.specs.Shape.{Shape, heap, bucket, first_bucket, count_buckets, list_words, log_words}
use Rattle.persist_model.specs.Chain.{view}
use Rattle.atomic_list.specs.Rules.{IsAtRest, IsList}
use Rattle.region_layout.specs.Layout.{IsAllowed}
use Rattle.bucket_log.specs.declared.append.Place.{Place}
use Rattle.bucket_log.specs.Words.{IsLogWord, IsPartWord}
use Rattle.bucket_log.specs.Places.{IsNextPlace}
use Rattle.bucket_log.specs.Appends.{CanAppend, region_append}

-- whether a is a word of the partition: one of its five list words, or a word of its buckets, which stand in a row
abbrev pub is_part_word : Shape → ℕ → ℕ → Bool
is_part_word shape p a =
    (not (nat_lt a (list_words p)) && nat_lt a (list_words p + 5)) ||
    (not (nat_lt a (bucket shape (first_bucket shape p))) && nat_lt a (bucket shape (first_bucket shape p + count_buckets shape p)))

-- the event stores to a word of the partition alone
abbrev pub IsOnPart : Shape → ℕ → Event → Type 0
IsOnPart shape p (Store a v) = IsPartWord shape p a
IsOnPart shape p (PStore a v) = IsPartWord shape p a
IsOnPart shape p (WriteBack a) = IsPartWord shape p a
IsOnPart shape p Fence = Unit {0}

abbrev pub AreOnPart : Shape → ℕ → List Event → Type 0
AreOnPart shape p [] = Unit {0}
AreOnPart shape p (e ∷ plan) = IsOnPart shape p e × AreOnPart shape p plan

-- w has z's words in the partition, and i's in the rest of the log
pub record IsJoined (shape : Shape) (p : ℕ) (z i w : Words) : Type 0 where
  pub own : (a : ℕ) → IsPartWord shape p a → w a ≡ z a
  pub others : (a : ℕ) → a < heap shape → (IsPartWord shape p a → ⊥) → w a ≡ i a

-- ---- the laws

abbrev pub PartWordsAreTold : Type 0
PartWordsAreTold = (shape : Shape) (p a : ℕ) → IsTrue (is_part_word shape p a) ↔ IsPartWord shape p a

-- an append stores to words of its partition alone
abbrev pub AppendsAreOnPart : Type 0
AppendsAreOnPart = (shape : Shape) (p : ℕ) (w : Words) (chain : List ℕ) (place : Place) (r : Record) → p < shape.partitions → CanAppend shape p w chain place r →
    AreOnPart shape p (region_append shape p place r)

-- A plan of one partition has come from z to its first k events, and others are at theirs elsewhere. Then the image i is as the plan may leave
-- it from words that have z's in the partition and i's elsewhere.
pub record PartsReach : Type 0 where
  pub words : (shape : Shape) (p k : ℕ) (z i w : Words) (plan : List Event) → AreOnPart shape p plan → IsJoined shape p z i w →
      Reaches (IsPartWord shape p) (progress_at z plan k) i → Reaches (λ a. a < heap shape) (progress_at w plan k) i
  pub images : (shape : Shape) (p lane k : ℕ) (z i w : Words) (plan : List Event) (region : Region) → AreOnPart shape p plan → IsJoined shape p z i w →
      AreInside (IsPartWord shape p) region → MayStand i region → Tracks (IsPartWord shape p) lane (progress_at z plan k) region →
      Reaches (λ a. a < heap shape) (progress_at w plan k) i

-- Views that agree on the partition's own words have the same list at rest, take the same records, and have the same next place; and views of
-- regions do that agree on the partition's words.
pub record OwnWordsTake : Type 0 where
  pub at_rest : (shape : Shape) (p : ℕ) (w v : Words) (chain : List ℕ) → ((a : ℕ) → IsLogWord shape p a → v a ≡ w a) →
      IsAtRest shape p w chain → IsAtRest shape p v chain
  pub append : (shape : Shape) (p : ℕ) (w v : Words) (chain : List ℕ) (place : Place) (r : Record) → ((a : ℕ) → IsLogWord shape p a → v a ≡ w a) →
      CanAppend shape p w chain place r → CanAppend shape p v chain place r
  pub next : (shape : Shape) (p : ℕ) (w v : Words) (chain : List ℕ) (place : Place) → ((a : ℕ) → IsLogWord shape p a → v a ≡ w a) →
      IsList shape p w chain → IsNextPlace shape p w chain place → IsNextPlace shape p v chain place
  pub views : (shape : Shape) (p : ℕ) (w v : Words) → IsAllowed shape → p < shape.partitions → ((a : ℕ) → IsPartWord shape p a → v a ≡ w a) →
      (a : ℕ) → IsLogWord shape p a → view p (log_words shape v) a ≡ view p (log_words shape w) a
