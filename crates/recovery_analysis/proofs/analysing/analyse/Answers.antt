use Rattle.std.proofs.Common.{◌≡◌, map, reverse, refl, sym, ap, ◌∙◌, subst}
use Rattle.persist_model.specs.Records.{Log}
use Rattle.bucket_log.specs.Scans.{record_of_placed}
use Rattle.recovery_analysis.specs.Grouping.{AreTransactionsOf}
use Rattle.recovery_analysis.proofs.Soundly.{logs_of_image}
use Rattle.recovery_analysis.proofs.analysing.analyse.Goals as goal

pub merge-requires : goal.merge-requires
merge-requires g c = logs_of_image c.args.layout _ _ c.requires

pub returns : goal.returns
returns g c = λ s has.
    let log_is : reverse (map record_of_placed c.in_ok-merged.merged) ≡ s.log = c.in_ok-merged.ensures _ s (λ a lt. refl) has in
    let whole : AreTransactionsOf s.log c.in_ok-all.all = subst (λ (log : Log). AreTransactionsOf log c.in_ok-all.all)
    (ap (λ xs. reverse (map record_of_placed xs)) c.as_slice.ensures ∙ log_is) c.in_ok-all.ensures in
    record {
      winners = c.in_ok-winners.ensures s.log (subst (AreTransactionsOf s.log) (sym c.as_slice-2.ensures) whole);
      losers = c.in_ok-losers.ensures s.log (subst (AreTransactionsOf s.log) (sym c.as_slice-3.ensures) whole);
    }
