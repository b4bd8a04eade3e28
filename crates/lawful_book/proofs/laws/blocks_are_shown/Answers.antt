use Rattle.lawful_book.proofs.Showing as lemmas
use Rattle.lawful_book.proofs.laws.blocks_are_shown.Goals as goal

pub returns : goal.returns
returns g c = lemmas.blocks_shown g.E.Deed.meaning
