use Rattle.std.proofs.Common.{◌∷◌, Some, sym, ap, ◌∙◌, arith}
use Rattle.atomic_table.specs.Table.{rest}
use Rattle.turn_hub.proofs.Seats.{rest_at}
use Rattle.turn_hub.proofs.Calls.{takes_alone, got_turn}
use Rattle.turn_hub.proofs.turn.take.Goals as goal

pub compare_exchange-requires : goal.compare_exchange-requires
compare_exchange-requires g c =
    let R = g.T.Laned.seen in
    let e = c.from.ensures in
    let s = rest_at R c.args.lane c.args.place.now.me c.requires.seat in
    (c.requires.table.0, c.requires.table.1, takes_alone R c.args.top.now.key.value.value _ _ c.args.lane _ s.0 c.args.place.now.me.0.missed _ s.1 (omega arith))

pub exchange-requires : goal.exchange-requires
exchange-requires g c =
    let R = g.T.Laned.seen in
    let e = c.from.ensures in
    let t = c.compare_exchange.ensures in
    let s = rest_at R c.args.lane c.args.place.now.me c.requires.seat in
    let got = got_turn R c.args.top.now.table_id.slots c.args.lane _ s.0 c.args.place.now.me.0.missed _ _ _ s.1 (omega arith) t.2 c.if-compare_exchange-eq0.true in
    (t.0 ∙ c.requires.table.0, (Some got.0, ap (λ m. m.1) got.2 ∙ ap (λ l. (0, Some got.0) ∷ rest l) (sym (ap (λ m. m.1) got.2))))
