use Rattle.lawful_book.proofs.OwnedCalls as lemmas
use Rattle.lawful_book.proofs.owned.flights_are_lawful.Goals as goal

pub returns : goal.returns
returns g c = lemmas.flights_are_lawful g.E.Deed.meaning g.met.E.Deed.depends
