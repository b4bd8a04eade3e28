use Rattle.lawful_book.proofs.OwnedCalls as lemmas
use Rattle.lawful_book.proofs.owned.same_books_keep.Goals as goal

pub returns : goal.returns
returns g c = lemmas.same_books_keep g.E.Deed.meaning
