use Rattle.lawful_book.proofs.Kept as lemmas
use Rattle.lawful_book.proofs.laws.leaves_keep.Goals as goal

pub returns : goal.returns
returns g c = lemmas.leaves_keep g.E.Deed.meaning
