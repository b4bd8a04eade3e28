-- The rules of a partition's list, each as what holds of its words and as the fault that there is.
use Rattle.std.specs.Prelude.{◌≡◌, ◌≢◌, ◌⊎◌, ℕ, ◌+◌, ◌<◌, ◌≤◌, ◌^◌, List}
use Rattle.persist_model.specs.ImageRules.{ADDRESS_RULE, LIST_RULE}
use Rattle.persist_model.specs.Region.{Words}
use Rattle.persist_model.specs.Shape.{Shape, heap, list_words, IsBucketOf}
use Rattle.persist_model.specs.Chain.{TAIL, TO_APPEND, TO_REMOVE, view, out_address, Each, AreBuckets, IsLink, last_or, IsExcepted, LinksBackBut}
use Rattle.persist_model.specs.Visit.{IsVisit, HasArrived, chain_from, address_words}
use Rattle.persist_model.specs.Faults.{FaultSet, Tried, TriedEach, NoFault, MayAppend, MayRemove, TryPoints}

-- ---- the address rule

-- the words at these addresses of a partition's view name a bucket of it or none
abbrev pub AreLinks : Shape → ℕ → Words → List ℕ → Type 0
AreLinks shape p w ats = Each (λ a. IsLink (IsBucketOf shape p) (w a)) ats

-- the first of them that doesn't
abbrev pub IsWrongLink : Shape → ℕ → Words → List ℕ → FaultSet
IsWrongLink shape p w ats = TriedEach (λ a. IsLink (IsBucketOf shape p) (w a)) ADDRESS_RULE (out_address p) ats NoFault

-- ---- the list rules

-- both links of what this address names are among so many words
abbrev pub IsReadable : ℕ → ℕ → Type 0
IsReadable size b = (b + 1 < size) × (b < 2 ^ 31)

-- What is known of a partition's view when its list rules are tried: these buckets are visited, the address rule holds, and
-- this chain follows.
pub record MayBeTried (shape : Shape) (p size : ℕ) (w : Words) (visited chain : List ℕ) : Type 0 where
  pub part : p < shape.partitions
  pub long : heap shape ≤ size
  pub buckets : AreBuckets (IsBucketOf shape p) visited
  pub links : AreLinks shape p w (address_words w visited)
  pub chain_is : chain ≡ chain_from w visited

-- the rules on the walk, on what is put in and on what is taken out
pub record ChangesHold (shape : Shape) (w : Words) (visited chain : List ℕ) : Type 0 where
  pub single : (w TO_APPEND ≡ 0) ⊎ (w TO_REMOVE ≡ 0)
  pub arrived : HasArrived w visited
  pub appending : w TO_APPEND ≢ 0 → MayAppend w visited (w TO_APPEND)
  pub removing : w TO_REMOVE ≢ 0 → MayRemove shape w chain (w TO_REMOVE)

-- the first of them that fails, HEAD standing at base
abbrev pub IsWrongChange : Shape → ℕ → Words → List ℕ → List ℕ → FaultSet
IsWrongChange shape base w visited chain =
    Tried ((w TO_APPEND ≡ 0) ⊎ (w TO_REMOVE ≡ 0)) LIST_RULE (base + 4) (
    Tried (HasArrived w visited) LIST_RULE base (
    Tried (w TO_APPEND ≢ 0 → MayAppend w visited (w TO_APPEND)) LIST_RULE (base + 2) (
    Tried (w TO_REMOVE ≢ 0 → MayRemove shape w chain (w TO_REMOVE)) LIST_RULE (base + 4) NoFault)))

-- all list rules
pub record ListHolds (shape : Shape) (w : Words) (visited chain : List ℕ) : Type 0 where
  pub changes : ChangesHold shape w visited chain
  pub links_back : LinksBackBut w 0 chain
  pub tail : (w TAIL ≡ last_or 0 chain) ⊎ IsExcepted w TAIL

-- ---- a partition, by what its walk visits

-- the address rule holds
pub record HasGoodLinks (shape : Shape) (p : ℕ) (w : Words) : Type 0 where
  pub visited : List ℕ
  pub visit : IsVisit (IsBucketOf shape p) w visited
  pub links : AreLinks shape p w (address_words w visited)

-- or this is where it fails
pub record HasBadLink (shape : Shape) (p : ℕ) (w : Words) (fault a : ℕ) : Type 0 where
  pub visited : List ℕ
  pub visit : IsVisit (IsBucketOf shape p) w visited
  pub wrong : IsWrongLink shape p w (address_words w visited) fault a

-- the address rule and the list rules hold
pub record HasGoodList (shape : Shape) (p : ℕ) (w : Words) : Type 0 where
  pub visited : List ℕ
  pub visit : IsVisit (IsBucketOf shape p) w visited
  pub links : AreLinks shape p w (address_words w visited)
  pub list : ListHolds shape w visited (chain_from w visited)

-- or this is where the list rules fail
pub record HasBadList (shape : Shape) (p : ℕ) (w : Words) (fault a : ℕ) : Type 0 where
  pub visited : List ℕ
  pub visit : IsVisit (IsBucketOf shape p) w visited
  pub wrong : TryPoints shape (list_words p) w visited NoFault fault a

-- ---- all partitions

-- each partition's view of the words has P
abbrev pub EachPart : Shape → Words → (Shape → ℕ → Words → Type 0) → Type 0
EachPart shape z P = (p : ℕ) → p < shape.partitions → P shape p (view p z)
