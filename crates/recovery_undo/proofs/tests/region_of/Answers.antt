use Rattle.std.proofs.Common.{◌∙◌, ap, length, arith}
use Rattle.persist_model.specs.Region.{loaded}
use Rattle.test_regions.proofs.Regions.{words_long}
use Rattle.recovery_undo.proofs.tests.region_of.Goals as goal

pub load-requires : goal.load-requires
load-requires c =
    let long = ap length (c.as_slice.ensures.value ∙ c.in_ok-words.ensures) ∙ words_long _ 832 in
    omega (arith, long)

pub returns-clause-cells : goal.returns-clause-cells
returns-clause-cells c = c.reserve.ensures.cells ∙ c.in_ok-load.ensures.cells ∙ ap loaded (c.as_slice.ensures.value ∙ c.in_ok-words.ensures)
