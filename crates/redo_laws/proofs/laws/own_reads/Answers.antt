use Rattle.redo_laws.proofs.Reading as lemmas
use Rattle.redo_laws.proofs.laws.own_reads.Goals as goal

pub returns : goal.returns
returns c = lemmas.own_reads
