use Rattle.lawful_book.proofs.OwnedShowing as lemmas
use Rattle.lawful_book.proofs.owned.words_are_apart.Goals as goal

pub returns : goal.returns
returns g c = lemmas.apart_words g.E.Deed.meaning
