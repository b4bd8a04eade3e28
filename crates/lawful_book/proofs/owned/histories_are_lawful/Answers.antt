use Rattle.lawful_book.proofs.owned.histories_are_lawful.Goals as goal

pub returns : goal.returns
returns g c = λ layout base book is. record { lawful = is.lawful; sorts = is.sorts }
