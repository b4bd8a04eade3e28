use Rattle.lawful_book.proofs.Fitting as lemmas
use Rattle.lawful_book.proofs.laws.entries_have_joined.Goals as goal

pub returns : goal.returns
returns g c = lemmas.entries_have_joined g.E.Deed.meaning
