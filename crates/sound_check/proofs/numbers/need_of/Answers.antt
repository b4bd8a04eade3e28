use Rattle.std.proofs.Common.{◌≡◌, ◌+◌, true, false, if◌then◌else◌, refl, sym, ap, ◌∙◌, arith}
use Rattle.persist_model.specs.Need.{has_kind_of}
use Rattle.sound_check.proofs.numbers.need_of.Goals as goal

pub returns-then-is_some : goal.returns-then-is_some
returns-then-is_some c = λ part t log own.
    let e : has_kind_of t 4 log ≡ true = sym own.end ∙ sym c.is_some.ensures ∙ c.if-is_some.true in rw e refl

pub returns : goal.returns
returns c = λ part t log own.
    let e : has_kind_of t 4 log ≡ false = sym own.end ∙ sym c.is_some.ensures ∙ c.if-is_some.false in
    let framed = c.frame.ensures ∙ ap (λ b. (if b then 0 else 1) + 1) own.rollback in
    let count = own.count in let sum = c.saturating_add.ensures in rw e (omega (arith, framed, count, sum))
