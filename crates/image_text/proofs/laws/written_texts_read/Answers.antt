use Rattle.image_text.proofs.Meanings.{written_reads}
use Rattle.image_text.proofs.laws.written_texts_read.Goals as goal

pub returns : goal.returns
returns c = written_reads
