use Rattle.std.proofs.Common.{refl, sym, subst, inl, inr, drop, ◌+◌, ◌∙◌, arith}
use Rattle.sound_check.proofs.Chains.{IsSplitLeft, split_all, split_next, split_here, split_end}
use Rattle.persist_model.specs.Chain.{IsBefore}
use Rattle.sound_check.proofs.Changes.{tested}
use Rattle.sound_check.proofs.points.stands_before.Goals as goal

pub loop-x-init : goal.loop-x-init
loop-x-init c = split_all c.args.chain.now c.args.p c.args.q

pub loop-x-preserved : goal.loop-x-preserved
loop-x-preserved c =
    subst (λ x. IsSplitLeft c.args.chain.now c.args.p c.args.q x (drop (c.loop-x.x-index + 1) c.args.chain.now)) (sym c.from-here.ensures)
    (split_next c.args.chain.now c.args.p c.args.q c.loop-x.before c.loop-x.x-index (omega arith) c.loop-x.invariant
    (λ e. elim c.else-p-before.either [ inl k ↦ k.1 (e.1 ∙ sym c.from-here.ensures) | inr k ↦ k e.0 ]))

pub returns-then-q-here : goal.returns-then-q-here
returns-then-q-here c = ((λ t. split_here c.args.chain.now c.args.p c.args.q c.loop-x.before c.loop-x.x-index (omega arith) c.loop-x.invariant c.if-p-before.true (c.if-q-here.true ∙ c.from-here.ensures)), (λ b. refl))

pub returns-then-p-before-2 : goal.returns-then-p-before-2
returns-then-p-before-2 c =
    let k = split_end c.args.chain.now c.args.p c.args.q c.loop-x.before c.loop-x.x-index (omega arith) c.loop-x.invariant in
    tested c.args.q 0 (IsBefore c.args.chain.now c.args.p c.args.q) ((λ e. k.0 (c.if-p-before-2.true, e)), (λ b. (k.1 b).1))

pub returns-else-p-before-2 : goal.returns-else-p-before-2
returns-else-p-before-2 c =
    let k = split_end c.args.chain.now c.args.p c.args.q c.loop-x.before c.loop-x.x-index (omega arith) c.loop-x.invariant in
    tested c.args.p c.loop-x.before (IsBefore c.args.chain.now c.args.p c.args.q) ((λ e. absurd (c.if-p-before-2.false e)), (λ b. (k.1 b).0))
