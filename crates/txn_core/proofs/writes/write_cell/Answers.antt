use Rattle.std.proofs.Common.{◌∙◌, ap, List, reverse}
use Rattle.region_layout.specs.declared.cell.Cell.{Cell}
use Rattle.lane_book.proofs.Faces.{lane_read}
use Rattle.txn_state.specs.AppendLaws.{top_cell}
use Rattle.txn_core.proofs.WritingWords.{cell_read, word_read, word_inside}
use Rattle.txn_core.proofs.writes.write_cell.Goals as goal

pub word-requires : goal.word-requires
word-requires g c = word_inside _ (g.D.Device.cells c.args.device.now) c.args.a (g.met.D.Device.reads c.args.device.now) c.requires.word

pub returns : goal.returns
returns g c = c.update_cell.ensures ∙ cell_read (g.D.Device.cells c.args.device.now) c.index-kept.result.now _ c.args.a c.args.v c.word.result c.top_number.result
    (lane_read c.args.book.now c.args.lane c.index-kept.result.now c.requires.lane c.index-kept.ensures)
    (c.word.ensures ∙ word_read _ (g.D.Device.cells c.args.device.now) c.args.a (g.met.D.Device.reads c.args.device.now) c.requires.word)
    (c.top_number.ensures ∙ ap (λ (cells : List Cell). top_cell (reverse cells)) c.as_slice.ensures)
