use Rattle.std.proofs.Common.{◌<◌, length, refl, rules}
use Rattle.recovery_analysis.proofs.Runs.{cut_goes_on}
use Rattle.recovery_analysis.proofs.grouping.cut.Goals as goal

pub loop-rest-preserved : goal.loop-rest-preserved
loop-rest-preserved c =
    let long : 0 < length c.loop-rest.rest.now = search rules in
    cut_goes_on c.loop-rest.made c.add.new.list c.loop-rest.rest.now c.split_at.result.1.now c.args.sorted.now c.new-records.result c.split_at.result.0.now
    c.run_length.result _ _ c.loop-rest.invariant long refl c.run_length.ensures.own c.run_length.ensures.ends c.new-records.ensures
    (c.in_ok-extend_from_slice.ensures.ok) c.split_at.ensures.front c.split_at.ensures.back c.in_ok-add.ensures
