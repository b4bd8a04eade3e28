use Rattle.lawful_book.proofs.Fitting as lemmas
use Rattle.lawful_book.proofs.laws.entries_are_there.Goals as goal

pub returns : goal.returns
returns g c = lemmas.entries_are_there g.E.Deed.meaning
