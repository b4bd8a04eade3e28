use Rattle.lawful_book.proofs.OwnedCalls as lemmas
use Rattle.lawful_book.proofs.owned.some_flights_are_lawful.Goals as goal

pub returns : goal.returns
returns g c = lemmas.some_flights_are_lawful g.E.Deed.meaning g.met.E.Deed.depends
