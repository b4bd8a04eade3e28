use Rattle.lawful_book.proofs.OwnedKept as lemmas
use Rattle.lawful_book.proofs.owned.answers_keep.Goals as goal

pub returns : goal.returns
returns g c = lemmas.answers_keep g.E.Deed.meaning
