use Rattle.std.proofs.Common.{◌∙◌, ap}
use Rattle.lane_traits.specs.Space.{written}
use Rattle.region_layout.specs.CellsMap.{cell_of}
use Rattle.persist_cells.proofs.Words.{put_holds, write_keeps}
use Rattle.persist_cells.proofs.calls.put.Goals as goal

pub returns-clause-contents : goal.returns-clause-contents
returns-clause-contents g c = put_holds (g.W.Reads.space c.args.words.now) (g.W.Reads.space c.set_cell.new.words) c.args.root c.args.key c.requires.key c.args.value c.requires.value
    (c.in_ok-set_cell.ensures.made ∙ ap (written (cell_of c.args.root c.args.key) c.args.value) c.get-before.ensures.same)

pub returns-clause-others : goal.returns-clause-others
returns-clause-others g c = write_keeps (g.W.Reads.space c.args.words.now) (g.W.Reads.space c.set_cell.new.words) c.args.root c.args.key c.requires.key c.args.value c.requires.map
    (c.in_ok-set_cell.ensures.made ∙ ap (written (cell_of c.args.root c.args.key) c.args.value) c.get-before.ensures.same)
