use Rattle.lawful_book.proofs.Fitting as lemmas
use Rattle.lawful_book.proofs.laws.numbers_are_left.Goals as goal

pub returns : goal.returns
returns g c = lemmas.numbers_are_left g.E.Deed.meaning
