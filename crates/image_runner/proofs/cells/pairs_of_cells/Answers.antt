use Rattle.std.proofs.Common.{◌≡◌, ℕ, ◌+◌, List, slice_index, subst, sym, ◌∙◌}
use Rattle.lane_traits.specs.declared.words.Pair.{Pair}
use Rattle.region_layout.specs.CellsMap.{cell_of}
use Rattle.image_runner.specs.Cells.{AreCellsBelow, with_cell}
use Rattle.image_runner.proofs.CellMaps.{cells_more}
use Rattle.image_runner.proofs.cells.pairs_of_cells.Goals as goal

pub loop-key-preserved : goal.loop-key-preserved
loop-key-preserved g c =
    let w : ℕ → ℕ = slice_index (g.L.Look.words c.args.words.now) in
    let key = c.from.ensures in
    let value = c.word-value.ensures in
    let more : c.push_cell.new.pairs ≡ with_cell c.loop-key.key (slice_index (g.L.Look.words c.args.words.now) (cell_of c.args.root c.loop-key.key)) c.loop-key.pairs =
    c.in_ok-push_cell.ensures ∙ (λ i. with_cell (key i) (value i) c.loop-key.pairs) in
    subst (λ (pairs : List Pair). AreCellsBelow (c.loop-key.key + 1) (slice_index (g.L.Look.words c.args.words.now)) c.args.root pairs) (sym more)
    (cells_more c.loop-key.key (slice_index (g.L.Look.words c.args.words.now)) c.args.root c.loop-key.pairs c.loop-key.invariant)
