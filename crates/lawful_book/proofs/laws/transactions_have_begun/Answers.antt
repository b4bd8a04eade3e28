use Rattle.lawful_book.proofs.Fitting as lemmas
use Rattle.lawful_book.proofs.laws.transactions_have_begun.Goals as goal

pub returns : goal.returns
returns g c = lemmas.transactions_have_begun g.E.Deed.meaning
