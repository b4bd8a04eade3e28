-- What the append uses of the list.
use Rattle.std.proofs.Common.{ℕ, suc, ◌≤◌, ◌<◌, List, [], ◌∷◌, length, refl}
use Rattle.persist_model.specs.declared.event.Event.{Event}
use Rattle.persist_model.specs.declared.event.Event.TheVariants.{Store, PStore, WriteBack, Fence}
use Rattle.persist_model.specs.Region.{Words}
use Rattle.persist_model.specs.Shape.{Shape, count_buckets}
use Rattle.log_laws.proofs.Views.{IsStoreOn, AreStoresOn}
use Rattle.atomic_list.specs.declared.plans.Insert.{Insert}
use Rattle.atomic_list.specs.Plans.{insertion}
use Rattle.atomic_list.specs.Rules.{IsList, IsListWord}
use Rattle.atomic_list.specs.ListPlans.{IsOnList, IsListPlan}
use Rattle.atomic_list.specs.Insertion.{CanInsert}
use Rattle.atomic_list.proofs.Insertions.{insertion_is_on_list}
use Rattle.atomic_list.proofs.Walks.{chain_of_list}

stores_of : (shape : Shape) (p : ℕ) (e : Event) → IsOnList shape p e → IsStoreOn (IsListWord shape p) e
stores_of shape p (Store a v) h = absurd h
stores_of shape p (PStore a v) h = h
stores_of shape p (WriteBack a) h = absurd h
stores_of shape p Fence h = tt

-- a plan on the list's words stores to these alone
pub list_plan_stores : (shape : Shape) (p : ℕ) (plan : List Event) → IsListPlan shape p plan → AreStoresOn (IsListWord shape p) plan
list_plan_stores shape p [] h = tt
list_plan_stores shape p (e ∷ plan) h = (stores_of shape p e (h 0 e refl), list_plan_stores shape p plan (λ k x found. h (suc k) x found))

pub insertion_stores : (shape : Shape) (p : ℕ) (w : Words) (xs : List ℕ) (a : Insert) → CanInsert shape p w xs a → AreStoresOn (IsListWord shape p) (insertion a)
insertion_stores shape p w xs a can = list_plan_stores shape p (insertion a) (insertion_is_on_list shape p w xs a can)

-- a chain has at most as many buckets as the partition
pub chain_few : (shape : Shape) (p : ℕ) (v : Words) (xs : List ℕ) → p < shape.partitions → IsList shape p v xs → length xs ≤ count_buckets shape p
chain_few shape p v xs inside list = (chain_of_list shape p v xs inside list).1
