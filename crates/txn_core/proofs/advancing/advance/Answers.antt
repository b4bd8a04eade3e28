use Rattle.txn_core.specs.Advancing.{stored, whole}
use Rattle.txn_core.proofs.Advanced.{advance_stopped, advance_going}
use Rattle.txn_core.proofs.advancing.advance.Goals as goal

pub returns-in-Stopped-clause-advances : goal.returns-in-Stopped-clause-advances
returns-in-Stopped-clause-advances g c = advance_stopped _ _ _ _ _ _ _ _ _ _ _ c.run.new.book _ _ c.stop.result c.stop.ensures.result c.in-Stopped.ensures.runs c.in-Stopped.ensures.pays
    c.stop.ensures.is c.stop.ensures.step c.stop.ensures.book

pub returns-in-Going-clause-advances : goal.returns-in-Going-clause-advances
returns-in-Going-clause-advances g c = advance_going _ _ _ _ _ _ _ _ _ _ _ c.run.new.book _ _ c.go_on.result c.part-part.result c.go_on.ensures.result c.part-part.ensures
    c.in-Going.ensures.runs c.in-Going.ensures.pays c.go_on.ensures.moves

pub returns-in-Stored-clause-advances : goal.returns-in-Stored-clause-advances
returns-in-Stored-clause-advances g c = stored c.in-Stored.cell c.in-Stored.ensures.runs c.in-Stored.ensures.pays

pub returns-in-Whole-clause-advances : goal.returns-in-Whole-clause-advances
returns-in-Whole-clause-advances g c = whole c.in-Whole.ensures.runs c.in-Whole.ensures.pays
