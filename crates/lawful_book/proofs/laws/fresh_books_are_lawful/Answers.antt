use Rattle.lawful_book.proofs.Kept as lemmas
use Rattle.lawful_book.proofs.laws.fresh_books_are_lawful.Goals as goal

pub returns : goal.returns
returns g c = lemmas.fresh_books_are_lawful g.E.Deed.meaning
