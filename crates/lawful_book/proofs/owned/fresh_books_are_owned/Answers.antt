use Rattle.lawful_book.proofs.OwnedCalls as lemmas
use Rattle.lawful_book.proofs.owned.fresh_books_are_owned.Goals as goal

pub returns : goal.returns
returns g c = lemmas.fresh_books_are_owned g.E.Deed.meaning
