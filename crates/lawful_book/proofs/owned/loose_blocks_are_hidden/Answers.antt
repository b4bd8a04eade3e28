use Rattle.lawful_book.proofs.OwnedCalls as lemmas
use Rattle.lawful_book.proofs.owned.loose_blocks_are_hidden.Goals as goal

pub returns : goal.returns
returns g c = lemmas.loose_blocks_are_hidden g.E.Deed.meaning
