use Rattle.std.proofs.Common.{sym, ◌∙◌, arith}
use Rattle.persist_hash.proofs.soundness.fits.Goals as goal

pub returns-then-value-ne0-clause-good : goal.returns-then-value-ne0-clause-good
returns-then-value-ne0-clause-good c = λ on.
    let some = c.if-value-ne0.true.1 in (
      sym c.chain_of.ensures.chain ∙ c.if-value-ne0.true.0,
      omega (arith, some),
      on,
    )
