use Rattle.lawful_book.proofs.Valued as lemmas
use Rattle.lawful_book.proofs.laws.words_are_apart.Goals as goal

pub returns : goal.returns
returns g c = lemmas.words_are_apart g.E.Deed.meaning
