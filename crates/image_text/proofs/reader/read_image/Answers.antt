use Rattle.image_text.proofs.Meanings.{answer_says, answer_breaks, answer_writable}
use Rattle.image_text.proofs.reader.read_image.Goals as goal

pub returns-clause-reads : goal.returns-clause-reads
returns-clause-reads c = answer_says c.read_lines.result c.args.text.now c.read_lines.ensures

pub returns-clause-breaks : goal.returns-clause-breaks
returns-clause-breaks c = λ line is. answer_breaks c.read_lines.result c.args.text.now c.read_lines.ensures line is

pub returns-clause-writable : goal.returns-clause-writable
returns-clause-writable c = answer_writable c.read_lines.result c.args.text.now c.read_lines.ensures
