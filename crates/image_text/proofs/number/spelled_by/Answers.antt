use Rattle.std.proofs.Common.{arith, ◌≡◌, ◌<◌, ◌∙◌, ◌+◌, ◌*◌, ◌^◌, sym, ap, subst, ℕ, get_or}
use Rattle.std.specs.Char.{digit_value}
use Rattle.image_text.specs.Text.{spelled}
use Rattle.image_text.proofs.Numbers.{spelled-on, spelled-off, spelled-done, grown, fits}
use Rattle.image_text.proofs.number.spelled_by.Goals as goal

pub returns-in_err-digit : goal.returns-in_err-digit
returns-in_err-digit c =
    let byte : c.from.result ≡ get_or c.args.word.now c.loop-byte.byte-index 0 = c.from.ensures in
    c.from_residual.ensures
    ∙ spelled-off c.args.base c.loop-byte.number c.loop-byte.byte-index c.args.word.now (spelled c.args.base 0 c.args.word.now) (omega arith)
    (λ h. c.in_err-digit.ensures.value (subst (λ (b : ℕ). digit_value b < c.args.base) (sym byte) h)) c.loop-byte.invariant.0

pub overflow_mul-number : goal.overflow_mul-number
overflow_mul-number c =
    let k = c.loop-byte.byte-index in
    omega (
      arith,
      ap (λ b. c.loop-byte.number * b) c.from-in-loop-byte.ensures,
      grown c.args.base c.loop-byte.number k 0 c.requires.most (omega arith) c.loop-byte.invariant.1,
      fits (k + 1) (omega arith),
    )

pub overflow_add-number : goal.overflow_add-number
overflow_add-number c =
    let k = c.loop-byte.byte-index in
    let digit = c.in_ok-digit.ensures.value in
    omega (
      arith,
      c.from-in-loop-byte.ensures,
      c.from-in-loop-byte-2.ensures,
      ap (λ b. c.loop-byte.number * b) c.from-in-loop-byte.ensures,
      grown c.args.base c.loop-byte.number k c.in_ok-digit.digit c.requires.most (omega (arith, digit.0, digit.1)) c.loop-byte.invariant.1,
      fits (k + 1) (omega arith),
    )

pub loop-byte-preserved : goal.loop-byte-preserved
loop-byte-preserved c =
    let k = c.loop-byte.byte-index in
    let word = c.args.word.now in
    let byte : c.from.result ≡ get_or word k 0 = c.from.ensures in
    let digit = c.in_ok-digit.ensures.value in
    let number : c.loop-byte.number * c.from-in-loop-byte.result + c.from-in-loop-byte-2.result ≡ c.loop-byte.number * c.args.base + c.in_ok-digit.digit =
    ap (λ b. c.loop-byte.number * b + c.from-in-loop-byte-2.result) c.from-in-loop-byte.ensures ∙ ap (λ d. c.loop-byte.number * c.args.base + d) c.from-in-loop-byte-2.ensures in (
      spelled-on c.args.base c.loop-byte.number k c.in_ok-digit.digit _ word (spelled c.args.base 0 word) (omega arith)
          (subst (λ (b : ℕ). digit_value b < c.args.base) byte digit.0) (digit.1 ∙ ap digit_value byte) number c.loop-byte.invariant.0,
      subst (λ (n : ℕ). n < 16 ^ (k + 1)) (sym number)
          (grown c.args.base c.loop-byte.number k c.in_ok-digit.digit c.requires.most (omega (arith, digit.0, digit.1)) c.loop-byte.invariant.1),
    )

pub returns : goal.returns
returns c =
    sym (spelled-done c.args.base c.loop-byte.number c.loop-byte.byte-index c.args.word.now (omega arith)) ∙ c.loop-byte.invariant.0
