use Rattle.lawful_book.proofs.OwnedKept as lemmas
use Rattle.lawful_book.proofs.owned.aborts_keep.Goals as goal

pub returns : goal.returns
returns g c = lemmas.aborts_keep g.E.Deed.meaning
