use Rattle.std.specs.Prelude.{slice_index}
use Rattle.sound_check.proofs.Changes.{append_none, append_by}
use Rattle.sound_check.proofs.points.may_append.Goals as goal

pub returns-then-is_among : goal.returns-then-is_among
returns-then-is_among g c = ((λ t. cc), (λ h. absurd (append_none (slice_index (g.W.Look.words c.args.words.now)) c.args.visited.now c.word-node.result c.word-node.ensures c.if-node-eq0.false (c.is_among.ensures.0 c.if-is_among.true) h)))

pub returns : goal.returns
returns g c = append_by (slice_index (g.W.Look.words c.args.words.now)) c.args.visited.now c.word-node.result c.keeps_append_rule.result c.word-node.ensures c.if-node-eq0.false (λ m. let e = c.is_among.ensures.1 m in cc) c.keeps_append_rule.ensures
