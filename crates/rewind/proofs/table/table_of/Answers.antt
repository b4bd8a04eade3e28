use Rattle.std.proofs.Common.{refl, None}
use Rattle.std.proofs.lemmas.List.{get_or-replicate}
use Rattle.rewind.specs.History.{empty}
use Rattle.rewind.proofs.table.table_of.Goals as goal

pub loop-transaction-init : goal.loop-transaction-init
loop-transaction-init c = (empty, (λ k below. get_or-replicate 12 k None None below), refl)
