-- That the repair may be made is a fact: it holds in one way alone.
use Rattle.std.specs.Coded.{Unit-prop}
use Rattle.std.proofs.Math.Bridge.{le_prop}
use Rattle.atomic_list.specs.declared.repairing.Repair.{Repair}
use Rattle.atomic_list.specs.declared.repairing.Repair.TheVariants.{Nothing, Append, Remove as TakeOut}
use Rattle.atomic_list.specs.Repairing.{CanRepair}

pub CanRepair-prop : (r : Repair) → IsProp (CanRepair r)
CanRepair-prop Nothing = Unit-prop
CanRepair-prop (Append a) = le_prop
CanRepair-prop (TakeOut r) = le_prop
