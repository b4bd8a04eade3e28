use Rattle.lawful_book.proofs.OwnedCalls as lemmas
use Rattle.lawful_book.proofs.owned.blocks_are_apart.Goals as goal

pub returns : goal.returns
returns g c = lemmas.blocks_are_apart g.E.Deed.meaning
