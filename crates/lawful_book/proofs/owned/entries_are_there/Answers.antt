use Rattle.lawful_book.proofs.OwnedCalls as lemmas
use Rattle.lawful_book.proofs.owned.entries_are_there.Goals as goal

pub returns : goal.returns
returns g c = lemmas.entries_are_there g.E.Deed.meaning
