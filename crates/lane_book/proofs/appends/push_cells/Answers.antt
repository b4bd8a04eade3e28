use Rattle.std.proofs.Common.{refl, arith}
use Rattle.lane_book.proofs.PushedCells.{put_fits, put_next, put_end}
use Rattle.lane_book.proofs.appends.push_cells.Goals as goal

pub loop-cell-init : goal.loop-cell-init
loop-cell-init c = record { whole = refl; room = c.requires }

pub push-requires : goal.push-requires
push-requires c = put_fits c.args.stock.now c.loop-cell.stock c.args.cells.now c.loop-cell.cell-index (record { lsn = 0; transaction = 0; kind = 0; word = 0; before = 0; after = 0; undo_next = 0; outcome = 0 }) c.loop-cell.invariant c.loop-cell-test.true

pub loop-cell-preserved : goal.loop-cell-preserved
loop-cell-preserved c = put_next c.args.stock.now c.loop-cell.stock _ c.args.cells.now c.loop-cell.cell-index (record { lsn = 0; transaction = 0; kind = 0; word = 0; before = 0; after = 0; undo_next = 0; outcome = 0 })
    c.loop-cell.invariant c.loop-cell-test.true c.push.ensures

pub returns : goal.returns
returns c = put_end c.args.stock.now c.loop-cell.stock c.args.cells.now c.loop-cell.cell-index c.loop-cell.invariant (let out = c.loop-cell-test.false in omega (arith, out))
