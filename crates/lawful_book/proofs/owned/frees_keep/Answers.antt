use Rattle.lawful_book.proofs.OwnedKept as lemmas
use Rattle.lawful_book.proofs.owned.frees_keep.Goals as goal

pub returns : goal.returns
returns g c = lemmas.frees_keep g.E.Deed.meaning
