use Rattle.std.proofs.Common.{arith}
use Rattle.persist_model.proofs.Images.{length-newest_words}
use Rattle.pooled_region.specs.Pool.{cells_of}
use Rattle.pooled_region.proofs.pooled.CellsLook.size.Goals as goal

pub returns : goal.returns
returns c = omega (arith, length-newest_words (cells_of c.args.self.now.places.items c.args.self.now.words.items), c.len.ensures)
