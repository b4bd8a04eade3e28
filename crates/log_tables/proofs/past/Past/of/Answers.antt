use Rattle.log_tables.proofs.past.Past.of.Goals as goal

pub returns : goal.returns
returns c = λ part marks log past. c.of.ensures.summary part log past.summaries
