use Rattle.atomic_list.specs.Plans.{insertion}
use Rattle.std.proofs.Common.{refl}
use Rattle.atomic_list.proofs.OnList.{run_settles}
use Rattle.atomic_list.proofs.Insertions.{insertion_after, insertion_is_on_list}
use Rattle.atomic_list.proofs.laws.insertions_end.Goals as goal

pub returns : goal.returns
returns c = λ shape p lane w xs a before region can settled run. (
  run_settles shape p lane w (insertion a) 11 before region (insertion_is_on_list shape p w xs a can) settled run refl,
  insertion_after shape p w xs a can,
)
