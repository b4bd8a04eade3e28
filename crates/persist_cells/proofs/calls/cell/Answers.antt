use Rattle.std.proofs.Common.{◌+◌}
use Rattle.persist_cells.proofs.Words.{is_data}
use Rattle.persist_cells.proofs.calls.cell.Goals as goal

pub read-requires : goal.read-requires
read-requires g c = g.met.W.Words.own_readable c.args.words.now (c.args.root + 4 + c.args.key) (is_data (g.W.Reads.space c.args.words.now) c.args.root c.args.key c.requires.map c.requires.key)
