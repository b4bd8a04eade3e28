-- What a walk knows of its next step, behind the buckets that it visited.
use Rattle.std.specs.Prelude.{◌≡◌, ◌⊎◌, ℕ, ◌==◌, List}
use Rattle.std.specs.List.{list_any}
use Rattle.std.specs.BTreeSet.{BTreeSet, contains}
use Rattle.std.specs.Ordering.{nat_cmp}
use Rattle.persist_model.specs.Region.{Words}
use Rattle.persist_model.specs.Records.{IsAmong}
use Rattle.persist_model.specs.Chain.{IsAbsent, last_or}
use Rattle.persist_model.specs.Visit.{IsCutAt, link_behind}

-- it doesn't go on
abbrev pub HasStopped : (ℕ → Type 0) → Words → List ℕ → Type 0
HasStopped bucket w visited = IsCutAt w (last_or 0 visited) ⊎ (bucket (link_behind w visited) → ⊥) ⊎ IsAmong visited (link_behind w visited)

-- it goes on to b, which it hasn't visited
pub record GoesTo (bucket : ℕ → Type 0) (w : Words) (visited : List ℕ) (b : ℕ) : Type 0 where
  pub uncut : IsCutAt w (last_or 0 visited) → ⊥
  pub link : b ≡ link_behind w visited
  pub is_bucket : bucket b
  pub fresh : IsAbsent b visited

-- these buckets are marked, and no others
abbrev pub AreMarks : BTreeSet ℕ → List ℕ → Type 0
AreMarks marks visited = (b : ℕ) → contains nat_cmp marks b ≡ list_any (λ x. x == b) visited
