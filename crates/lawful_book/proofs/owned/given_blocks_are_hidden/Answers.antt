use Rattle.lawful_book.proofs.OwnedCalls as lemmas
use Rattle.lawful_book.proofs.owned.given_blocks_are_hidden.Goals as goal

pub returns : goal.returns
returns g c = lemmas.given_blocks_are_hidden g.E.Deed.meaning
