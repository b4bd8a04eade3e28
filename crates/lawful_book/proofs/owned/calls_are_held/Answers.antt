use Rattle.lawful_book.proofs.OwnedCalls as lemmas
use Rattle.lawful_book.proofs.owned.calls_are_held.Goals as goal

pub returns : goal.returns
returns g c = lemmas.calls_are_held g.E.Deed.meaning
