use Rattle.lawful_book.proofs.OwnedKept as lemmas
use Rattle.lawful_book.proofs.owned.steps_keep.Goals as goal

pub returns : goal.returns
returns g c = lemmas.steps_keep g.E.Deed.meaning
