-- What a read of a word of the heap finds.
use Rattle.std.proofs.Common.{◌≡◌, ℕ}
use Rattle.persist_model.specs.Region.{IsCandidate, newest}
use Rattle.persist_model.proofs.Candidates.{IsCandidate_newest}
use Rattle.history_laws.specs.Histories.{fold}
use Rattle.txn_laws.specs.Reads.{OwnReads, UnownedRead}
use Rattle.txn_laws.proofs.Beginning.{nobodys_settled, found_here}
use Rattle.txn_laws.proofs.Records.{not_deleted}

pub own_reads : OwnReads
own_reads shape base s chains start w region l a runs mine world =
    (found_here shape base s chains start w region world).own l a mine
    (not_deleted shape s.log (fold start w.history) w.lanes world.owners world.transactions l a mine ((world.transactions.each l).going runs).running)

pub unowned_read : UnownedRead
unowned_read shape base s chains start w region a inside none world = record {
  found = settled (newest (region.at a)) (IsCandidate_newest (region.at a) (world.heap.full a inside));
  settled = settled;
}
  where
    settled : (u : ℕ) → IsCandidate (region.at a) u → u ≡ fold start w.history a
    settled = nobodys_settled shape base s chains start w region world a inside none
