use Rattle.lawful_book.proofs.OwnedCalls as lemmas
use Rattle.lawful_book.proofs.owned.owners_are_structures.Goals as goal

pub returns : goal.returns
returns g c = lemmas.owners_are_structures g.E.Deed.meaning
