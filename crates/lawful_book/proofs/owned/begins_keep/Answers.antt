use Rattle.lawful_book.proofs.OwnedCalls as lemmas
use Rattle.lawful_book.proofs.owned.begins_keep.Goals as goal

pub returns : goal.returns
returns g c = lemmas.begins_keep g.E.Deed.meaning
