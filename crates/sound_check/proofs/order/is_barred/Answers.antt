use Rattle.std.proofs.Common.{◌&&◌, ap, ◌∙◌}
use Rattle.bucket_log.specs.Scans.{record_of_placed}
use Rattle.sound_check.specs.Barring.{is_barring}
use Rattle.log_tables.specs.Tables.{has_claim}
use Rattle.sound_check.proofs.Ordering.{barred_tells}
use Rattle.sound_check.proofs.order.is_barred.Goals as goal

pub returns-then-named : goal.returns-then-named
returns-then-named c = λ part log earlier past. barred_tells log earlier (record_of_placed c.args.r.now) _
    (c.is_claimed-claimed.ensures part (is_barring log) earlier past ∙ ap (λ b. b && has_claim (is_barring log) c.args.r.now.cell.word c.args.r.now.cell.transaction earlier) c.if-named.ensures)

pub returns-else-named : goal.returns-else-named
returns-else-named c = λ part log earlier past. barred_tells log earlier (record_of_placed c.args.r.now) _
    (c.if-named.false ∙ ap (λ b. b && has_claim (is_barring log) c.args.r.now.cell.word c.args.r.now.cell.transaction earlier) c.if-named.ensures)
