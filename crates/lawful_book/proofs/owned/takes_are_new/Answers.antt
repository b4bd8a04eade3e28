use Rattle.lawful_book.proofs.OwnedCalls as lemmas
use Rattle.lawful_book.proofs.owned.takes_are_new.Goals as goal

pub returns : goal.returns
returns g c = lemmas.takes_are_new g.E.Deed.meaning
