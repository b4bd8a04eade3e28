-- What a read of a word of the heap finds.
use Rattle.std.proofs.Common.{ℕ, List}
use Rattle.persist_model.specs.Region.{Words, Region}
use Rattle.persist_model.specs.Shape.{Shape}
use Rattle.persist_model.specs.State.{State}
use Rattle.history_laws.specs.Histories.{fold}
use Rattle.txn_laws.proofs.Lanes.{IsFound, found_of}
use Rattle.redo_laws.specs.Worlds.{RedoWorld, IsRedoWorldAt}
use Rattle.redo_laws.specs.Laws.{OwnReads, UnownedRead}
use Rattle.redo_laws.proofs.Owned.{not_deleted}

pub found_here : (shape : Shape) (base : Words) (s : State) (chains : ℕ → List ℕ) (start : Words) (z : RedoWorld) (region : Region) → IsRedoWorldAt shape base s chains start z region →
    IsFound shape s.log (fold start z.world.history) z.world.lanes region
found_here shape base s chains start z region world = found_of shape s.log (fold start z.world.history) z.world.lanes region world.owners world.heap.now

pub own_reads : OwnReads
own_reads shape base s chains start z region l a runs mine world =
    (found_here shape base s chains start z region world).own l a mine
    (not_deleted shape s.log (fold start z.world.history) z.world.lanes world.owners world.transactions l a mine ((world.transactions.each l).going runs).running)

pub unowned_read : UnownedRead
unowned_read shape base s chains start z region a inside none free world = (found_here shape base s chains start z region world).others a inside none free
