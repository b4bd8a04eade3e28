use Rattle.recovery_tests.proofs.stop_tests.check_row.Goals as goal

pub loop-stop-init : goal.loop-stop-init
loop-stop-init g c = c.loaded-region.ensures

pub cut_short-left-requires : goal.cut_short-left-requires
cut_short-left-requires g c = c.loop-stop.invariant

pub loop-stop-preserved : goal.loop-stop-preserved
loop-stop-preserved g c = c.cut_short-left.ensures

pub finish-requires : goal.finish-requires
finish-requires g c = c.loop-stop.invariant
