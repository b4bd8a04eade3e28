use Rattle.std.proofs.Common.{sym, ◌∙◌, ap, arith, List, length}
use Rattle.lane_book.specs.declared.lane.Lane.{Lane}
use Rattle.lane_book.proofs.Flying.{starts, gathers, passes_by, there_is_room, all_gathered}
use Rattle.lane_book.proofs.book.Book.finish.Goals as goal

pub loop-lane-init : goal.loop-lane-init
loop-lane-init g c =
    let gives = c.into_iter-lane-iterator.ensures.into_iter_gives in
    starts c.args.self.lanes.items _ _ c.args.self.flight gives.0
    (let a = gives.1 in let b = c.args.self.lanes.ok.0 in let d = ap (λ (ls : List (Lane _)). length ls) gives.0 in omega (arith, a, b, d))
    c.requires.none c.requires.room

pub push-requires : goal.push-requires
push-requires g c =
    there_is_room c.args.self.lanes.items c.loop-lane.yielded _ _ _ c.in-Some.lane c.loop-lane.flight c.requires.lanes c.in-Some.ensures.steps.0 c.loop-lane.invariant

pub loop-lane-preserved-in-Some-into_flight : goal.loop-lane-preserved-in-Some-into_flight
loop-lane-preserved-in-Some-into_flight g c =
    gathers c.args.self.lanes.items c.loop-lane.yielded _ _ _ _ c.in-Some.lane c.in-Some-into_flight.entry c.loop-lane.flight _
    (sym c.into_flight.ensures ∙ c.in-Some-into_flight.is) c.push.ensures c.in-Some.ensures.steps.0 c.in-Some.ensures.steps.1 c.loop-lane.invariant

pub loop-lane-preserved : goal.loop-lane-preserved
loop-lane-preserved g c =
    passes_by c.args.self.lanes.items c.loop-lane.yielded _ _ _ _ c.in-Some.lane c.loop-lane.flight
    (sym c.into_flight.ensures ∙ c.in-None-into_flight.is) c.in-Some.ensures.steps.0 c.in-Some.ensures.steps.1 c.loop-lane.invariant

pub returns-clause-flight : goal.returns-clause-flight
returns-clause-flight g c = c.into_list-2.ensures ∙
    all_gathered c.args.self.lanes.items c.loop-lane.yielded _ _ c.loop-lane.flight c.in-None.ensures.steps.0 c.loop-lane.invariant
