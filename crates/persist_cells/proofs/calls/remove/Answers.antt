use Rattle.std.proofs.Common.{◌∙◌, ap}
use Rattle.lane_traits.specs.Space.{written}
use Rattle.region_layout.specs.CellsMap.{cell_of}
use Rattle.persist_cells.proofs.Words.{nothing_to_remove, some_is_low, remove_holds, write_keeps}
use Rattle.persist_cells.proofs.calls.remove.Goals as goal

pub returns-in-None-clause-contents : goal.returns-in-None-clause-contents
returns-in-None-clause-contents g c = nothing_to_remove (g.W.Reads.space c.args.words.now) (g.W.Reads.space c.get.new.words) c.args.root c.args.key c.get.result c.get.ensures.same c.in-None.is c.get.ensures.value

pub returns-in_ok-set_cell-in-Some-clause-contents : goal.returns-in_ok-set_cell-in-Some-clause-contents
returns-in_ok-set_cell-in-Some-clause-contents g c =
    remove_holds (g.W.Reads.space c.args.words.now) (g.W.Reads.space c.set_cell.new.words) c.args.root c.args.key
    (some_is_low (g.W.Reads.space c.args.words.now) c.args.root c.args.key c.in-Some.before c.get.result c.requires c.in-Some.is c.get.ensures.value)
    (c.in_ok-set_cell-in-Some.ensures.made ∙ ap (written (cell_of c.args.root c.args.key) 0) c.get.ensures.same)

pub returns-in_ok-set_cell-in-Some-clause-others : goal.returns-in_ok-set_cell-in-Some-clause-others
returns-in_ok-set_cell-in-Some-clause-others g c =
    write_keeps (g.W.Reads.space c.args.words.now) (g.W.Reads.space c.set_cell.new.words) c.args.root c.args.key
    (some_is_low (g.W.Reads.space c.args.words.now) c.args.root c.args.key c.in-Some.before c.get.result c.requires c.in-Some.is c.get.ensures.value)
    0 c.requires (c.in_ok-set_cell-in-Some.ensures.made ∙ ap (written (cell_of c.args.root c.args.key) 0) c.get.ensures.same)
