use Rattle.std.proofs.Common.{ℕ, ◌%◌, List, length, slice_index, refl, sym, subst}
use Rattle.persist_model.specs.Shape.{first_bucket, count_buckets}
use Rattle.region_layout.specs.Layout.{layout_shape}
use Rattle.bucket_log.specs.Reads.{IsLogOf}
use Rattle.log_partition.specs.Views.{viewed}
use Rattle.txn_core.specs.Clearing.{begins}
use Rattle.txn_core.proofs.Latches.{part_of_lane, same_rows}
use Rattle.txn_core.proofs.clearing.clear_next.Goals as goal

pub removal-requires : goal.removal-requires
removal-requires g c = let p = c.args.lane % c.args.layout.partitions in let shape = layout_shape c.args.layout in
    subst (λ (xs : List ℕ). IsLogOf c.args.layout (length xs) (slice_index xs)) (sym c.new-view.ensures)
    (c.requires.logs.logs p (record { first = first_bucket shape p; count = count_buckets shape p }) (part_of_lane c.args.layout c.args.lane) (refl, refl)).log

pub returns-in-Some : goal.returns-in-Some
returns-in-Some g c = begins c.in-Some.found
    (c.in-Some.ensures (slice_index (viewed (c.args.lane % c.args.layout.partitions) (g.D.Look.words c.args.device.now))) (same_rows _ _ c.new-view.ensures))
    c.go_on.ensures.result
    (record {
      kept = c.begin_removal.ensures.kept;
      number = c.begin_removal.ensures.number;
      ledger = c.begin_removal.ensures.ledger;
      slots = c.begin_removal.ensures.slots;
    })
    c.go_on.ensures.moves
