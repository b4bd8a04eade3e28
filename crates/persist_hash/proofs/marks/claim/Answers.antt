use Rattle.persist_hash.proofs.MarkLaws.{no_number}
use Rattle.persist_hash.proofs.marks.claim.Goals as goal

pub returns-in_default-clause-refused : goal.returns-in_default-clause-refused
returns-in_default-clause-refused g c = λ e test marks own.
    absurd (no_number (g.L.Look.words c.args.words.now) c.args.blocks.now.heap c.args.blocks.now.count c.args.blocks.now.structure c.args.at c.requires.heap
    c.in_default.ensures own)
