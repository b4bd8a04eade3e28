use Rattle.lawful_book.proofs.OwnedKept as lemmas
use Rattle.lawful_book.proofs.owned.joins_keep.Goals as goal

pub returns : goal.returns
returns g c = lemmas.joins_keep g.E.Deed.meaning g.met.E.Deed.depends
