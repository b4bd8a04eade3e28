-- An event takes a place at most, and a lane's number is below 17.
use Rattle.std.proofs.Common.{ℕ, ◌+◌, ◌<◌, ◌≤◌, arith}
use Rattle.persist_model.specs.declared.event.Event.{Event}
use Rattle.persist_model.specs.declared.event.Event.TheVariants.{Store, PStore, WriteBack, Fence}
use Rattle.lane_traits.specs.Device.{stores_of}

one_at_most : (e : Event) → stores_of e ≤ 1
one_at_most (Store a v) = omega arith
one_at_most (PStore a v) = omega arith
one_at_most (WriteBack a) = omega arith
one_at_most Fence = omega arith

pub one_place : (e : Event) (spare left : ℕ) → spare ≤ left + stores_of e → spare ≤ left + 1
one_place e spare left le = let one = one_at_most e in omega (arith, le, one)

pub below_17 : (l n : ℕ) → l < n → n ≤ 16 → l < 17
below_17 l n lt few = omega (arith, lt, few)
