use Rattle.std.proofs.Common.{subst, refl, arith}
use Rattle.std.proofs.lemmas.List.{take_all}
use Rattle.persist_model.specs.ImageRecords.{IsWellFormed}
use Rattle.log_laws.proofs.LogFaults.{all_formed}
use Rattle.log_laws.proofs.Tries.{AllGood}
use Rattle.region_layout.specs.Layout.{layout_shape}
use Rattle.log_tables.specs.Rows.{log_of_rows}
use Rattle.sound_check.proofs.Oldest.{good_next, first_bad}
use Rattle.sound_check.proofs.formed.try_records.Goals as goal

pub loop-r-preserved : goal.loop-r-preserved
loop-r-preserved c = good_next (λ earlier r. IsWellFormed (layout_shape c.args.layout) r) c.args.rows.now c.loop-r.r-index _ (omega arith) c.loop-r.invariant (c.if-not-is_formed.ensures.0 refl)

pub returns-then-not-is_formed-clause-fault : goal.returns-then-not-is_formed-clause-fault
returns-then-not-is_formed-clause-fault c = first_bad (λ earlier r. IsWellFormed (layout_shape c.args.layout) r) 7 c.args.rows.now c.loop-r.r-index _ (omega arith) c.loop-r.invariant (λ h. let e = c.is_formed.ensures.1 h in cc)

pub returns-clause-ok : goal.returns-clause-ok
returns-clause-ok c = all_formed (layout_shape c.args.layout) (log_of_rows c.args.rows.now) (subst (λ rows. AllGood (λ earlier r. IsWellFormed (layout_shape c.args.layout) r) (log_of_rows rows)) (take_all c.loop-r.r-index c.args.rows.now (omega arith)) c.loop-r.invariant)
