use Rattle.std.proofs.Common.{◌≡◌, arith, sym}
use Rattle.turn_hub.proofs.Seats.{rest_at}
use Rattle.turn_hub.proofs.Calls.{knows_alone, below_span}
use Rattle.turn_hub.proofs.hub.Hub.read.Goals as goal

pub load-requires : goal.load-requires
load-requires g c =
    let R = g.T.Laned.seen in
    let pass = c.args.pass.now in
    let s = rest_at R pass.lane pass.place.me record { lanes = pass.own; grip = pass.no_grip; slots = pass.no_slots } in
    let below = below_span R g.met.T.Laned.agrees pass.lane c.args.a pass.place.me.0.sights pass.own c.requires.word in
    let wide = pass.wide in
    let same : c.args.self.now.table.shared.table_id.words ≡ pass.place.table_id.words = λ i. (sym c.requires.hub i).words in
    (c.requires.hub, omega arith, knows_alone R c.args.self.now.table.shared.key.value.value g.met.T.Laned.agrees _ _ pass.lane _ s.0 pass.place.me.0.missed _ s.1 (omega arith))
