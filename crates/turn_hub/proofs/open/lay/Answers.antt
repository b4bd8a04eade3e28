use Rattle.std.proofs.Common.{◌∙◌}
use Rattle.turn_hub.proofs.Calls.{opens_all, opening_turn, opened_all, put_in, lays_all}
use Rattle.turn_hub.proofs.open.lay.Goals as goal

pub load-requires : goal.load-requires
load-requires g c =
    let R = g.T.Laned.seen in
    (c.requires.table.0, c.requires.table.1, opens_all R c.args.top.now.key.value.value _ _ (R c.args.value).lanes c.args.value _ c.requires.seat)

pub store-requires : goal.store-requires
store-requires g c =
    let R = g.T.Laned.seen in
    let value = c.args.value in
    let n = (R value).lanes in
    let now = opened_all R c.args.top.now.table_id.slots n c.load.result value _ _ c.requires.seat c.load.ensures.2 in
    let is = put_in R (opening_turn R value n) value c.load.new.seat.me c.put.new.place.me now c.put.ensures.2 in
    (c.put.ensures.0 ∙ c.load.ensures.0 ∙ c.requires.table.0, c.requires.table.1, lays_all R c.args.top.now.key.value.value _ _ n value _ is)
