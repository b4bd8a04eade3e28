use Rattle.lawful_book.proofs.OwnedCalls as lemmas
use Rattle.lawful_book.proofs.owned.taken_blocks_are_seen.Goals as goal

pub returns : goal.returns
returns g c = lemmas.taken_blocks_are_seen g.E.Deed.meaning
