use Rattle.lawful_book.proofs.Kept as lemmas
use Rattle.lawful_book.proofs.laws.commit_asks_keep.Goals as goal

pub returns : goal.returns
returns g c = lemmas.commit_asks_keep g.E.Deed.meaning g.met.E.Deed.depends
