use Rattle.lawful_book.proofs.Kept as lemmas
use Rattle.lawful_book.proofs.laws.refusals_keep.Goals as goal

pub returns : goal.returns
returns g c = lemmas.refusals_keep g.E.Deed.meaning
