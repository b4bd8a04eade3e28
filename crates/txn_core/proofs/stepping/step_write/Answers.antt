use Rattle.std.proofs.Common.{◌∙◌, sym}
use Rattle.lane_book.specs.FacesOf.{lane_at}
use Rattle.txn_core.proofs.Stagings.{storing, naming}
use Rattle.txn_core.proofs.WritingWords.{writes_it}
use Rattle.txn_core.proofs.stepping.step_write.Goals as goal

pub store_word-requires-clause-stage : goal.store_word-requires-clause-stage
store_word-requires-clause-stage g c = storing (lane_at c.args.book.now c.args.lane) c.args.a c.args.v c.requires.doing (sym c.part-part.ensures ∙ c.if-part-eq-STORE.true)

pub append_update-requires-clause-stage : goal.append_update-requires-clause-stage
append_update-requires-clause-stage g c = naming (lane_at c.args.book.now c.args.lane) c.args.a c.args.v c.requires.doing (λ is. c.if-part-eq-STORE.false (c.part-part.ensures ∙ is))

pub append_update-requires-clause-puts : goal.append_update-requires-clause-puts
append_update-requires-clause-puts g c = writes_it c.args.layout _ c.args.a c.args.v c.requires.doing
