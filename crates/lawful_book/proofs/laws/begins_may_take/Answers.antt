use Rattle.lawful_book.proofs.Fitting as lemmas
use Rattle.lawful_book.proofs.laws.begins_may_take.Goals as goal

pub returns : goal.returns
returns g c = lemmas.begins_may_take g.E.Deed.meaning
