use Rattle.lawful_book.proofs.Kept as lemmas
use Rattle.lawful_book.proofs.laws.writes_are_held.Goals as goal

pub returns : goal.returns
returns g c = lemmas.writes_are_held g.E.Deed.meaning
