use Rattle.lawful_book.proofs.OwnedCalls as lemmas
use Rattle.lawful_book.proofs.owned.gives_are_blocks.Goals as goal

pub returns : goal.returns
returns g c = lemmas.gives_are_blocks g.E.Deed.meaning
