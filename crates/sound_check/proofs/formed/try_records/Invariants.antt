use Rattle.std.proofs.Common.{take}
use Rattle.persist_model.specs.ImageRecords.{IsWellFormed}
use Rattle.log_laws.proofs.Tries.{AllGood}
use Rattle.region_layout.specs.Layout.{layout_shape}
use Rattle.log_tables.specs.Rows.{log_of_rows}
use Rattle.sound_check.proofs.formed.try_records.Given as goal

abbrev pub invariant-loop-r : goal.invariant-loop-r
invariant-loop-r l = AllGood (λ earlier r. IsWellFormed (layout_shape l.layout) r) (log_of_rows (take l.r-index l.rows))
