use Rattle.std.specs.Prelude.{slice_index, length}
use Rattle.std.proofs.Common.{refl}
use Rattle.region_layout.specs.Layout.{layout_shape}
use Rattle.sound_check.proofs.Changes.{remove_none, remove_by}
use Rattle.sound_check.proofs.Readable.{can_read, at_removed}
use Rattle.sound_check.proofs.points.may_remove.Goals as goal

pub keeps_remove_rule-requires-clause-node : goal.keeps_remove_rule-requires-clause-node
keeps_remove_rule-requires-clause-node g c = (at_removed _ (length (g.W.Look.words c.args.words.now)) (slice_index (g.W.Look.words c.args.words.now)) _ _ c.word-node.result (can_read c.args.layout c.args.p _ _ _ _ c.requires) c.word-node.ensures c.if-node-eq0.false).0

pub keeps_remove_rule-requires-clause-next : goal.keeps_remove_rule-requires-clause-next
keeps_remove_rule-requires-clause-next g c = (at_removed _ (length (g.W.Look.words c.args.words.now)) (slice_index (g.W.Look.words c.args.words.now)) _ _ c.word-node.result (can_read c.args.layout c.args.p _ _ _ _ c.requires) c.word-node.ensures c.if-node-eq0.false).1

pub keeps_remove_rule-requires-clause-prev : goal.keeps_remove_rule-requires-clause-prev
keeps_remove_rule-requires-clause-prev g c = (at_removed _ (length (g.W.Look.words c.args.words.now)) (slice_index (g.W.Look.words c.args.words.now)) _ _ c.word-node.result (can_read c.args.layout c.args.p _ _ _ _ c.requires) c.word-node.ensures c.if-node-eq0.false).2

pub is_closed-requires-clause-bucket : goal.is_closed-requires-clause-bucket
is_closed-requires-clause-bucket g c = (at_removed _ (length (g.W.Look.words c.args.words.now)) (slice_index (g.W.Look.words c.args.words.now)) _ _ c.word-node.result (can_read c.args.layout c.args.p _ _ _ _ c.requires) c.word-node.ensures c.if-node-eq0.false).3

pub is_closed-requires-clause-small : goal.is_closed-requires-clause-small
is_closed-requires-clause-small g c = (at_removed _ (length (g.W.Look.words c.args.words.now)) (slice_index (g.W.Look.words c.args.words.now)) _ _ c.word-node.result (can_read c.args.layout c.args.p _ _ _ _ c.requires) c.word-node.ensures c.if-node-eq0.false).0.1

pub returns-then-not-keeps_remove_rule : goal.returns-then-not-keeps_remove_rule
returns-then-not-keeps_remove_rule g c = ((λ t. cc), (λ h. absurd (remove_none (layout_shape c.args.layout) (slice_index (g.W.Look.words c.args.words.now)) c.args.chain.now c.word-node.result c.word-node.ensures c.if-node-eq0.false (λ k. let e = c.keeps_remove_rule.ensures.1 k in cc) h)))

pub returns : goal.returns
returns g c = remove_by (layout_shape c.args.layout) (slice_index (g.W.Look.words c.args.words.now)) c.args.chain.now c.word-node.result c.is_closed.result c.word-node.ensures c.if-node-eq0.false (c.if-not-keeps_remove_rule.ensures.0 refl) c.is_closed.ensures
