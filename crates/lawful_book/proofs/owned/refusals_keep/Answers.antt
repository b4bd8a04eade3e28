use Rattle.lawful_book.proofs.OwnedKept as lemmas
use Rattle.lawful_book.proofs.owned.refusals_keep.Goals as goal

pub returns : goal.returns
returns g c = lemmas.refusals_keep g.E.Deed.meaning
