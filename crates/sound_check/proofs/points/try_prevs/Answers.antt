use Rattle.std.specs.Prelude.{slice_index}
use Rattle.std.proofs.Common.{refl, sym, subst, drop, ◌+◌, arith}
use Rattle.sound_check.proofs.Chains.{IsBackLeft, back_all, back_next, back_here, back_none}
use Rattle.persist_model.specs.Faults.{TryLinksBack, NoFault}
use Rattle.sound_check.proofs.points.try_prevs.Goals as goal

pub loop-b-init : goal.loop-b-init
loop-b-init g c = back_all _ c.args.chain.now

pub loop-b-preserved : goal.loop-b-preserved
loop-b-preserved g c =
    subst (λ x. IsBackLeft (slice_index (g.W.Look.words c.args.words.now)) c.args.chain.now x (drop (c.loop-b.b-index + 1) c.args.chain.now)) (sym c.from-before.ensures)
    (back_next (slice_index (g.W.Look.words c.args.words.now)) c.args.chain.now c.loop-b.before c.loop-b.b-index (omega arith) c.loop-b.invariant (c.if-not-names_before.ensures.0 refl))

pub returns-then-not-names_before-clause-fault : goal.returns-then-not-names_before-clause-fault
returns-then-not-names_before-clause-fault g c =
    subst (λ i. TryLinksBack (slice_index (g.W.Look.words c.args.words.now)) 0 c.args.chain.now NoFault i c.list_fault.result.address) (sym c.list_fault.ensures.0)
    (subst (λ a. TryLinksBack (slice_index (g.W.Look.words c.args.words.now)) 0 c.args.chain.now NoFault 6 a) (sym c.list_fault.ensures.1)
    (back_here (slice_index (g.W.Look.words c.args.words.now)) c.args.chain.now c.loop-b.before c.loop-b.b-index (omega arith) c.loop-b.invariant (λ k. let e = c.names_before.ensures.1 k in cc)))

pub returns-clause-ok : goal.returns-clause-ok
returns-clause-ok g c = back_none (slice_index (g.W.Look.words c.args.words.now)) c.args.chain.now c.loop-b.before c.loop-b.b-index (omega arith) c.loop-b.invariant
