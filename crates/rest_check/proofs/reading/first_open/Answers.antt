use Rattle.rest_check.proofs.Opened.{gate_more}
use Rattle.rest_check.proofs.reading.first_open.Goals as goal

pub loop-placed-preserved : goal.loop-placed-preserved
loop-placed-preserved c = gate_more c.args.records.now c.loop-placed.placed-index _ c.loop-placed.least c.lesser.result c.loop-placed-test.true c.loop-placed.invariant
    c.lesser.ensures.one c.lesser.ensures.first c.lesser.ensures.second
