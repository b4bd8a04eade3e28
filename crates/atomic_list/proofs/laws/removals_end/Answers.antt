use Rattle.atomic_list.specs.Plans.{removal}
use Rattle.std.proofs.Common.{refl}
use Rattle.atomic_list.proofs.OnList.{run_settles}
use Rattle.atomic_list.proofs.Removals.{removal_after, removal_is_on_list}
use Rattle.atomic_list.proofs.laws.removals_end.Goals as goal

pub returns : goal.returns
returns c = λ shape p lane w front rest r before region can settled run. (
  run_settles shape p lane w (removal r) 7 before region (removal_is_on_list shape p w front rest r can) settled run refl,
  removal_after shape p w front rest r can,
)
