use Rattle.redo_laws.proofs.Ending as lemmas
use Rattle.redo_laws.proofs.parts.parts_begin.Goals as goal

pub returns : goal.returns
returns c = lemmas.parts_begin
