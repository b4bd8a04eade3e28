use Rattle.std.proofs.Common.{sym, subst}
use Rattle.lane_types.specs.Faces.{Base}
use Rattle.world_tests.specs.Small.{IsSmall}
use Rattle.world_tests.proofs.script.Script.write_and_abort.Goals as goal

pub write_and_abort-requires-clause-begin : goal.write_and_abort-requires-clause-begin
write_and_abort-requires-clause-begin g c = record { built = c.expect_may.ensures.built; may = c.expect_may.ensures.may _ (c.args.self.small _ _) }

pub write_and_abort-requires-clause-write : goal.write_and_abort-requires-clause-write
write_and_abort-requires-clause-write g c = λ f same. record {
  built = tt;
  may = c.expect_data.ensures f.base (subst (λ (b : Base). IsSmall c.args.self.heap b) (sym same) (c.args.self.small _ _));
}
