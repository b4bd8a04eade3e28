use Rattle.std.proofs.Common.{◌∙◌}
use Rattle.turn_hub.specs.Plays.{turning}
use Rattle.turn_hub.proofs.Seats.{turn_at}
use Rattle.turn_hub.proofs.Calls.{put_in, gives_alone, gave_at}
use Rattle.turn_hub.proofs.turn.give.Goals as goal

pub store-requires : goal.store-requires
store-requires g c =
    let R = g.T.Laned.seen in
    let picture = c.args.picture.now.value in
    let missed = c.args.place.now.me.0.missed in
    let s = turn_at R c.args.lane picture c.args.place.now.me c.requires.seat in
    let is = put_in R (turning c.args.lane s.0 picture missed) c.args.value c.args.place.now.me c.put.new.place.me s.1 c.put.ensures.2 in
    (c.put.ensures.0 ∙ c.requires.table.0, c.requires.table.1, gives_alone R c.args.top.now.key.value.value _ _ c.args.lane s.0 picture c.args.value missed _ is c.requires.change c.requires.words)

pub returns : goal.returns
returns g c =
    let R = g.T.Laned.seen in
    let picture = c.args.picture.now.value in
    let missed = c.args.place.now.me.0.missed in
    let s = turn_at R c.args.lane picture c.args.place.now.me c.requires.seat in
    let is = put_in R (turning c.args.lane s.0 picture missed) c.args.value c.args.place.now.me c.put.new.place.me s.1 c.put.ensures.2 in
    (c.store.ensures.0 ∙ c.put.ensures.0, gave_at R c.args.top.now.table_id.slots c.args.lane s.0 picture c.args.value missed _ _ is c.store.ensures.2)
