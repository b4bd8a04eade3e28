use Rattle.rewind.proofs.Rests.{texts_are_done}
use Rattle.rewind.proofs.laws.migrated_texts_are_done.Goals as goal

pub returns : goal.returns
returns c = texts_are_done
