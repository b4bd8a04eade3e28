-- The parts of lanes on the log, with what a test tells of dirty words.
use Rattle.std.proofs.Common.{◌≡◌, ℕ, List}
use Rattle.persist_model.specs.declared.event.Event.{Event}
use Rattle.persist_model.specs.Region.{Words, Region}
use Rattle.persist_model.specs.Shape.{Shape}
use Rattle.persist_model.specs.State.{State}
use Rattle.log_keeper.specs.Events.{IsNextEvent, region_made}
use Rattle.history_laws.specs.Histories.{fold}
use Rattle.txn_laws.specs.Settled.{world_behind}
use Rattle.txn_laws.proofs.LogEvents.{next_is_log}
use Rattle.redo_laws.specs.Checkpoints.{none}
use Rattle.redo_laws.specs.Stages.{AreTold}
use Rattle.redo_laws.specs.Worlds.{RedoWorld, with_world, IsRedoWorldAt}
use Rattle.redo_laws.specs.Parts.{AppendsBegin, PartsBegin, LatchesKeep, PartsKeep, AppendsSettle}
use Rattle.txn_laws.specs.Asks.{drawn, begun_part}
use Rattle.txn_laws.specs.Going.{gone_on}
use Rattle.log_keeper.specs.Logged.{latched}
use Rattle.redo_laws.proofs.Opening.{draws_there, begins_part, latches_there}
use Rattle.redo_laws.proofs.GoingOn.{goes_there}
use Rattle.redo_laws.proofs.Plain.{at_none, plain_of, with_told}
use Rattle.redo_laws.proofs.Settles.{plain_settles}
use Rattle.redo_laws.proofs.Telling.{log_stores_none, told_beside}

-- behind the next event of a part
told_made : (shape : Shape) (base : Words) (s : State) (chains : ℕ → List ℕ) (start : Words) (z : RedoWorld) (region : Region) (p : ℕ) (e : Event) → z.checkpoint ≡ none →
    IsNextEvent shape z.world.keeping p e → IsRedoWorldAt shape base s chains start z region → AreTold shape z.dirty (region_made z.world.keeping p e region)
told_made shape base s chains start z region p e free next world = told_beside shape z.dirty region (z.world.keeping.holder p) e
    (λ a m. log_stores_none shape a e m (next_is_log shape base s chains z.world.keeping region p e next world.log.logged))
    (at_none shape s (fold start z.world.history) z.world z.dirty z.checkpoint region free world.stage).told

pub appends_settle : AppendsSettle
appends_settle shape base s chains start z region p e adding made free is lane_in last world =
    with_told shape _ _ _ start (with_world (world_behind shape p adding z.world) z) (region_made z.world.keeping p e region) free
    (told_made shape base s chains start z region p e free last.event world)
    (plain_settles shape base s chains start z.world region p e adding made is lane_in last (plain_of shape base s chains start z region free world))

told_now : (shape : Shape) (base : Words) (s : State) (chains : ℕ → List ℕ) (start : Words) (z : RedoWorld) (region : Region) → z.checkpoint ≡ none →
    IsRedoWorldAt shape base s chains start z region → AreTold shape z.dirty region
told_now shape base s chains start z region free world = (at_none shape s (fold start z.world.history) z.world z.dirty z.checkpoint region free world.stage).told

pub appends_begin : AppendsBegin
appends_begin shape base s chains start z region p place added free may world =
    with_told shape base s chains start (with_world (drawn p place added z.world) z) region free (told_now shape base s chains start z region free world)
    (draws_there shape base s chains start z.world region (plain_of shape base s chains start z region free world) p place added may)

pub parts_begin : PartsBegin
parts_begin shape base s chains start z region p u free open_part may world =
    with_told shape base s chains start (with_world (begun_part p u z.world) z) region free (told_now shape base s chains start z region free world)
    (begins_part shape base s chains start z.world region (plain_of shape base s chains start z region free world) p u may open_part)

pub latches_keep : LatchesKeep
latches_keep shape base s chains start z region p lane inside free rest world =
    with_told shape base s chains start (with_world (record z.world { keeping = latched p lane z.world.keeping }) z) region free (told_now shape base s chains start z region free world)
    (latches_there shape base s chains start z.world region (plain_of shape base s chains start z region free world) p lane inside rest)

pub parts_keep : PartsKeep
parts_keep shape base s chains start z region p e free inside next more world =
    with_told shape base s chains start (with_world (gone_on shape p z.world) z) (region_made z.world.keeping p e region) free (told_made shape base s chains start z region p e free next world)
    (goes_there shape base s chains start z.world region p e inside next more (plain_of shape base s chains start z region free world))
