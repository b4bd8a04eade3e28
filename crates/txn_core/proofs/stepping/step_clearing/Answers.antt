use Rattle.std.proofs.Common.{◌∙◌, sym}
use Rattle.lane_book.specs.FacesOf.{lane_at}
use Rattle.txn_core.proofs.Stagings.{closing, clearing_further}
use Rattle.txn_core.proofs.stepping.step_clearing.Goals as goal

pub close_records-requires-clause-stage : goal.close_records-requires-clause-stage
close_records-requires-clause-stage g c = closing (lane_at c.args.book.now c.args.lane) c.requires.stage c.requires.behind (sym c.part-part.ensures ∙ c.if-part-eq-CLOSE.true)

pub clear_further-requires-clause-stage : goal.clear_further-requires-clause-stage
clear_further-requires-clause-stage g c = clearing_further (lane_at c.args.book.now c.args.lane) c.requires.stage c.requires.behind (λ is. c.if-part-eq-CLOSE.false (c.part-part.ensures ∙ is))
