use Rattle.std.proofs.Common.{◌∙◌, sym, refl, take, get_or, arith}
use Rattle.std.proofs.Math.Seq.{take-set-lt}
use Rattle.std.proofs.lemmas.List.{take_more_set, length-take-le}
use Rattle.lane_traits.proofs.Writes.{noted_some, noted_none}
use Rattle.lane_traits.proofs.draft.keep.Goals as goal

pub returns-in-Some-clause-noted : goal.returns-in-Some-clause-noted
returns-in-Some-clause-noted c =
    let log = c.args.log.now in
    let x = get_or log c.args.next (record { address = 0; value = 0 }) in
    let at = noted_some x x.address c.in-Some.place (take c.args.kept log) refl (sym c.place_of.ensures ∙ c.in-Some.is) in
    let long = length-take-le c.args.kept log (omega arith) in
    let within = at.0 in
    take-set-lt c.args.kept log c.in-Some.place x (omega (arith, within, long)) ∙ sym at.1

pub returns-in-None-clause-noted : goal.returns-in-None-clause-noted
returns-in-None-clause-noted c =
    let log = c.args.log.now in
    let x = get_or log c.args.next (record { address = 0; value = 0 }) in
    take_more_set log c.args.kept x (omega arith)
    ∙ sym (noted_none x x.address (take c.args.kept log) refl (sym c.place_of.ensures ∙ c.in-None.is))
