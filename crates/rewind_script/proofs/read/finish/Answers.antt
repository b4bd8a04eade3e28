use Rattle.std.proofs.Common.{◌≡◌, ◌∙◌, sym, subst, false, Ok, Err, Result, []}
use Rattle.std.specs.Result.{is_err}
use Rattle.persist_model.specs.Shape.{Shape}
use Rattle.region_layout.specs.Layout.{layout_shape}
use Rattle.rewind_script.specs.Lanes.{Closes, lanes_of}
use Rattle.rewind_script.specs.Grammar.{meaning_of_reading}
use Rattle.rewind_script.specs.Limits.{IsWithinLimits}
use Rattle.rewind_script.specs.declared.read.refusal.Refusal.{Refusal}
use Rattle.rewind_script.specs.declared.read.reading.Reading.{Reading}
use Rattle.rewind_script.proofs.Keeping.{within}
use Rattle.rewind_script.proofs.read.finish.Goals as goal

closed_now : (r : Result (Unit {0}) Refusal) (before after : Reading) → is_err r ≡ false → Closes r before after → after ≡ record before { lanes = lanes_of before; items = [] }
closed_now (Ok x) before after ok h = h
closed_now (Err e) before after ok h = cc

pub returns-clause-limits : goal.returns-clause-limits
unfolding meaning_of_reading
returns-clause-limits c =
    let reading = c.args.reading in
    let layout = c.layout_of-layout.result in
    let closed = closed_now c.close_lane.result reading c.close_lane.new.self (sym c.is_err.ensures.value ∙ c.if-is_err.false) c.close_lane.ensures.closes in
    let limits = within reading c.requires (sym c.is_whole.ensures ∙ c.if-not-is_whole.false) in
    subst (λ (r : Reading). IsWithinLimits (record { shape = layout_shape layout; kinds = r.kinds; turns = r.turns; lanes = r.lanes; batch = r.batch })) (sym closed)
    (subst (λ (s : Shape). IsWithinLimits (record { shape = s; kinds = reading.kinds; turns = reading.turns; lanes = lanes_of reading; batch = reading.batch })) (sym c.layout_of-layout.ensures) limits)
