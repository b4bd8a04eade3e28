use Rattle.std.specs.Prelude.{slice_index}
use Rattle.std.proofs.Common.{refl, sym, subst, arith}
use Rattle.persist_model.specs.Shape.{IsBucketOf}
use Rattle.persist_model.specs.Chain.{IsLink, out_address}
use Rattle.region_layout.specs.Layout.{layout_shape}
use Rattle.sound_check.specs.Rules.{IsWrongLink}
use Rattle.sound_check.proofs.Left.{left_all, left_next, left_here, left_none}
use Rattle.sound_check.proofs.addresses.try_links.Goals as goal

pub loop-a-init : goal.loop-a-init
loop-a-init g c = left_all _ 5 (out_address c.args.p) c.args.ats.now

pub loop-a-preserved : goal.loop-a-preserved
loop-a-preserved g c = left_next _ 5 (out_address c.args.p) c.args.ats.now c.args.ats.now c.loop-a.a-index (omega arith) c.loop-a.invariant
    (subst (IsLink (IsBucketOf (layout_shape c.args.layout) c.args.p)) c.word.ensures (c.if-not-is_link.ensures.0 refl))

pub returns-clause-ok : goal.returns-clause-ok
returns-clause-ok g c = left_none _ 5 (out_address c.args.p) c.args.ats.now c.args.ats.now c.loop-a.a-index (omega arith) c.loop-a.invariant

pub returns-then-not-is_link-clause-fault : goal.returns-then-not-is_link-clause-fault
returns-then-not-is_link-clause-fault g c =
    subst (λ a. IsWrongLink (layout_shape c.args.layout) c.args.p (slice_index (g.W.Look.words c.args.words.now)) c.args.ats.now 5 a) (sym c.out_address.ensures)
    (left_here _ 5 (out_address c.args.p) c.args.ats.now c.args.ats.now c.loop-a.a-index (omega arith) c.loop-a.invariant
    (λ k. let e = c.is_link.ensures.1 (subst (IsLink (IsBucketOf (layout_shape c.args.layout) c.args.p)) (sym c.word.ensures) k) in cc))
