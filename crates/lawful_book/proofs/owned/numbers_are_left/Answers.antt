use Rattle.lawful_book.proofs.OwnedCalls as lemmas
use Rattle.lawful_book.proofs.owned.numbers_are_left.Goals as goal

pub returns : goal.returns
returns g c = lemmas.numbers_are_left g.E.Deed.meaning
