use Rattle.lawful_book.proofs.OwnedCalls as lemmas
use Rattle.lawful_book.proofs.owned.commit_asks_keep.Goals as goal

pub returns : goal.returns
returns g c = lemmas.commit_asks_keep g.E.Deed.meaning g.met.E.Deed.depends
