use Rattle.log_keeper.proofs.Rooms as lemmas
use Rattle.log_keeper.proofs.need_laws.stores_take_cells.Goals as goal

pub returns : goal.returns
returns c = lemmas.stores_take_cells
