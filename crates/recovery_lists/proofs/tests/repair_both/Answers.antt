use Rattle.std.proofs.Common.{refl, arith}
use Rattle.recovery_lists.proofs.tests.repair_both.Goals as goal

pub returns-clause-quiet : goal.returns-clause-quiet
returns-clause-quiet g c = λ made.
    let two = c.requires.two in
    ((c.repair-2.ensures.lists made).quiet 0 (omega (arith, two)) (c.in-Made.ensures.quiet refl), c.repair-2.ensures.quiet made)

pub returns-clause-stopped : goal.returns-clause-stopped
returns-clause-stopped g c = λ stopped first y sound h. c.repair-2.ensures.stopped stopped first y sound (c.in-Made.ensures.made refl first y h)

pub returns-clause-header : goal.returns-clause-header
returns-clause-header g c = λ a v is one. c.repair-2.ensures.header a v is (c.in-Made.ensures.header a v is one)
