use Rattle.lawful_book.proofs.OwnedCalls as lemmas
use Rattle.lawful_book.proofs.owned.commits_are_few.Goals as goal

pub returns : goal.returns
returns g c = lemmas.commits_are_few g.E.Deed.meaning
