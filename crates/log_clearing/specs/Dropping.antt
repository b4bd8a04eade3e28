-- The bucket that is taken out next.
use Rattle.std.specs.Prelude.{◌≡◌, ◌≢◌, ℕ, List, ◌∷◌, ◌++◌, Option, Some, None}
use Rattle.persist_model.specs.Region.{Words}
use Rattle.persist_model.specs.Records.{IsAmong}
use Rattle.persist_model.specs.Shape.{Shape}
use Rattle.persist_model.specs.Chain.{first_or, last_or}
use Rattle.persist_model.specs.Sound.{IsClosedBucket}
use Rattle.atomic_list.specs.declared.plans.Remove.{Remove}

-- The removal's bucket is the first of the chain that isn't the last and has only closed gates, and stands between its two neighbours.
pub record IsFirstClosed (shape : Shape) (w : Words) (chain : List ℕ) (r : Remove) : Type 0 where
  pub front : List ℕ
  pub rest : List ℕ
  pub chain_is : chain ≡ front ++ r.node ∷ rest
  pub prev : r.prev ≡ last_or 0 front
  pub next : r.next ≡ first_or 0 rest
  pub not_last : r.next ≢ 0
  pub closed : IsClosedBucket shape w r.node
  pub first : (b : ℕ) → IsAmong front b → IsClosedBucket shape w b → ⊥

-- or there is none
abbrev pub IsRemovalOf : Shape → Words → List ℕ → Option Remove → Type 0
IsRemovalOf shape w chain None = (b : ℕ) → IsAmong chain b → b ≢ last_or 0 chain → IsClosedBucket shape w b → ⊥
IsRemovalOf shape w chain (Some r) = IsFirstClosed shape w chain r
