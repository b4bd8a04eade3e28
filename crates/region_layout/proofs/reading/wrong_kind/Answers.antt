use Rattle.std.proofs.Common.{◌≡◌, ℕ, ◌+◌, ◌<◌, arith, refl, sym, subst, slice_index}
use Rattle.persist_model.specs.Shape.{SECOND_MAGIC, IsKind}
use Rattle.persist_model.specs.Faults.{NoFault}
use Rattle.region_layout.proofs.Headers.{first_wrong, one_more, not_true}
use Rattle.region_layout.proofs.reading.wrong_kind.Goals as goal

pub loop-s-init : goal.loop-s-init
loop-s-init g c = λ j h. absurd (omega arith)

pub loop-s-preserved : goal.loop-s-preserved
loop-s-preserved g c =
    let w : ℕ → ℕ = slice_index (g.W.Look.words c.args.words.now) in
    one_more (λ j. IsKind (w (13 + j))) c.loop-s.s c.loop-s.invariant (subst IsKind c.word.ensures (c.if-not-is_within.ensures.0 refl))

pub returns-then-not-is_within : goal.returns-then-not-is_within
returns-then-not-is_within g c =
    let w : ℕ → ℕ = slice_index (g.W.Look.words c.args.words.now) in
    let within : c.loop-s.s < w 5 = omega (arith, c.word-structures.ensures) in
    first_wrong (λ a. w 0 ≡ SECOND_MAGIC → IsKind (w a)) 4 13 (w 5) c.loop-s.s NoFault within
    (λ j h second. c.loop-s.invariant j h)
    (λ is. not_true (c.if-not-is_within.ensures.1 (subst IsKind (sym c.word.ensures) (is c.requires.second))))

pub returns : goal.returns
returns g c = λ s h. c.loop-s.invariant s (omega (arith, c.word-structures.ensures))
