use Rattle.std.proofs.Common.{◌≡◌, ◌||◌, Bool, sym, ap, ◌∙◌, arith}
use Rattle.std.proofs.lemmas.List.{take_all}
use Rattle.log_tables.specs.Rows.{log_of_rows}
use Rattle.sound_check.specs.Rows.{has_checkpoint_behind}
use Rattle.log_tables.proofs.Rows.{log_next}
use Rattle.sound_check.proofs.numbers.newest_checkpoint.Goals as goal

or_as : (a s t u : Bool) → u ≡ (a || s) → s ≡ t → u ≡ (a || t)
or_as a s t u e f = e ∙ ap (λ b. a || b) f

pub loop-s-preserved : goal.loop-s-preserved
loop-s-preserved c = λ n. or_as _ _ _ _ (c.newest_behind-newest.ensures n) (c.loop-s.invariant n) ∙ sym (ap (has_checkpoint_behind n) (log_next c.args.rows.now c.loop-s.s-index _ (omega arith)))

pub returns : goal.returns
returns c = λ n. c.loop-s.invariant n ∙ ap (λ rows. has_checkpoint_behind n (log_of_rows rows)) (take_all c.loop-s.s-index c.args.rows.now (omega arith))
