use Rattle.std.proofs.Common.{min, get_or, sym, ap, ◌∙◌, arith}
use Rattle.std.specs.Prelude.{sum_by}
use Rattle.std.proofs.lemmas.List.{take_all}
use Rattle.std.proofs.lemmas.List.Sums.{sum_by_more}
use Rattle.persist_model.specs.Need.{need_of}
use Rattle.log_tables.specs.Homes.{share_of}
use Rattle.sound_check.proofs.Needing.{saturated_both}
use Rattle.sound_check.proofs.numbers.need.Goals as goal

pub loop-home-preserved : goal.loop-home-preserved
loop-home-preserved c = λ part log all.
    saturated_both 18446744073709551615 _ _ c.loop-home.sum c.share.result c.saturating_add-sum.result (c.loop-home.invariant part log all)
    (c.share.ensures part log all.summaries
    ∙ ap (λ homes. min (share_of c.args.p (need_of log) (get_or homes c.loop-home.home-index (record { transaction = 0; part = 0 }))) 18446744073709551615) c.deref-home-items.ensures.value)
    c.saturating_add-sum.ensures
    ∙ ap (λ n. min n 18446744073709551615) (sym (sum_by_more (share_of c.args.p (need_of log)) c.args.all.now.homes.items c.loop-home.home-index (record { transaction = 0; part = 0 }) (omega arith)))

pub returns : goal.returns
returns c = λ part log all. c.loop-home.invariant part log all
    ∙ ap (λ homes. min (sum_by (share_of c.args.p (need_of log)) homes) 18446744073709551615) (take_all c.loop-home.home-index c.args.all.now.homes.items (omega arith))
    ∙ ap (λ n. min n 18446744073709551615) (sym (all.homes c.args.p (need_of log)))
