use Rattle.std.proofs.Common.{sym, ap, ◌∙◌}
use Rattle.bucket_log.specs.Scans.{record_of_placed}
use Rattle.sound_check.specs.Barring.{compensates}
use Rattle.log_tables.specs.Tables.{holds_found}
use Rattle.sound_check.proofs.order.compensates_at.Goals as goal

pub returns-in-Some : goal.returns-in-Some
returns-in-Some c = λ part marks earlier past.
    c.compensates.ensures ∙ sym (ap (holds_found (compensates (record_of_placed c.args.r.now))) c.in-Some.is) ∙ sym (c.numbered.ensures part marks earlier past (compensates (record_of_placed c.args.r.now)))

pub returns-in-None : goal.returns-in-None
returns-in-None c = λ part marks earlier past.
    sym (ap (holds_found (compensates (record_of_placed c.args.r.now))) c.in-None.is) ∙ sym (c.numbered.ensures part marks earlier past (compensates (record_of_placed c.args.r.now)))
