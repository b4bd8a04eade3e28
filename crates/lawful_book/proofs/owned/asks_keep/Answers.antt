use Rattle.lawful_book.proofs.OwnedCalls as lemmas
use Rattle.lawful_book.proofs.owned.asks_keep.Goals as goal

pub returns : goal.returns
returns g c = lemmas.asks_keep g.E.Deed.meaning
