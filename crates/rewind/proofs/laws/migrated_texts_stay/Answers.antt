use Rattle.rewind.proofs.Rests.{texts_stay}
use Rattle.rewind.proofs.laws.migrated_texts_stay.Goals as goal

pub returns : goal.returns
returns c = texts_stay
