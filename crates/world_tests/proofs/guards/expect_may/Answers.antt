use Rattle.std.proofs.Common.{◌≡◌, ◌<◌, subst, sym, arith}
use Rattle.lane_types.specs.May.{May}
use Rattle.lane_book.specs.FacesOf.{faces_of}
use Rattle.world_tests.specs.Deeds.{no_meaning}
use Rattle.world_tests.proofs.guards.expect_may.Goals as goal

pub returns-in-Commit-clause-may : goal.returns-in-Commit-clause-may
returns-in-Commit-clause-may g c = λ base small. subst (λ call. May no_meaning (faces_of base c.args.world.now.book c.args.lane) call) (sym c.in-Commit.is)
    (c.expect_commit.ensures base small.sorts)

pub returns-in-Take-clause-may : goal.returns-in-Take-clause-may
returns-in-Take-clause-may g c = λ base small. subst (λ call. May no_meaning (faces_of base c.args.world.now.book c.args.lane) call) (sym c.in-Take.is)
    (subst (λ n. c.in-Take.structure < n) (sym small.structures) c.expect_structure.ensures)
