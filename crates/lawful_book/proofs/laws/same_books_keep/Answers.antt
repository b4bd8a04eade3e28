use Rattle.lawful_book.proofs.Kept as lemmas
use Rattle.lawful_book.proofs.laws.same_books_keep.Goals as goal

pub returns : goal.returns
returns g c = lemmas.same_books_keep g.E.Deed.meaning
