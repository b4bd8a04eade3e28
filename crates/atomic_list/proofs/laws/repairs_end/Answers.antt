use Rattle.atomic_list.specs.Plans.{repair_plan, repair_asked}
use Rattle.atomic_list.proofs.OnList.{run_settles}
use Rattle.atomic_list.proofs.Repairs.{repair_ends, repair_is_on_list}
use Rattle.atomic_list.proofs.laws.repairs_end.Goals as goal

pub returns : goal.returns
returns c = λ shape p lane w xs before region is settled run.
    let left = repair_ends shape p w xs is in (
      run_settles shape p lane w (repair_plan (repair_asked w)) 5 before region (repair_is_on_list shape p w xs is) settled run left.nothing_pending,
      left.at_rest,
    )
