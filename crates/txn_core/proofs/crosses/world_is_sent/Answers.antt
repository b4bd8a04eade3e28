use denote.Param.Send.{sendable}
use Rattle.std.proofs.Crossing.{crosses}
use Rattle.txn_core.proofs.Crossing.{layout_send, book_send, keeper_send, flight_send}
use Rattle.txn_core.proofs.crosses.world_is_sent.Goals as goal

pub sent-requires-send-X : goal.sent-requires-send-X
sent-requires-send-X g c = λ κs lives. let d = c.type_bounds.send-D in let e = c.type_bounds.send-E in
    search (sendable, crosses, layout_send, book_send, keeper_send, flight_send) depth 20
