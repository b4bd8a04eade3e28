use Rattle.persist_cells.proofs.Words.{is_data}
use Rattle.persist_cells.proofs.calls.set_cell.Goals as goal

pub write-requires : goal.write-requires
write-requires g c = is_data (g.W.Reads.space c.args.words.now) c.args.root c.args.key c.requires.map c.requires.key
