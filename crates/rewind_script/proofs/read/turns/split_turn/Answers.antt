use Rattle.std.proofs.Common.{◌∙◌, ◌+◌, ◌-◌, sym, ap, take, drop, Some, length}
use Rattle.std.specs.Option.{option_map}
use Rattle.rewind_script.specs.TurnLines.{turn_parts}
use Rattle.rewind_script.proofs.Words.{after_one, position_at}
use Rattle.rewind_script.proofs.read.turns.split_turn.Goals as goal

pub returns-in_err-at : goal.returns-in_err-at
unfolding turn_parts
returns-in_err-at c =
    ap (option_map (λ parts. (parts.0.now, parts.1.now))) c.from_residual.ensures
    ∙ ap (option_map (λ i. (take i c.args.word.now, drop (i + 1) c.args.word.now))) (sym (sym c.find_times.ensures ∙ c.in_err-at.was))

pub returns : goal.returns
unfolding turn_parts
returns c =
    let found = sym c.find_times.ensures ∙ c.in_ok-at.was in
    let within = position_at _ c.args.word.now c.in_ok-at.at found in
    let rest = after_one c.args.word.now c.in_ok-at.at c.split_at.result.1.now c.split_at.ensures.back within.1 in
    ap (λ lane. Some (lane, take (length c.split_at.result.1.now - 1) (drop 1 c.split_at.result.1.now))) c.split_at.ensures.front
    ∙ ap (λ times. Some (take c.in_ok-at.at c.args.word.now, times)) rest.0
    ∙ ap (option_map (λ i. (take i c.args.word.now, drop (i + 1) c.args.word.now))) (sym found)
