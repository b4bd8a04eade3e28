use Rattle.std.proofs.Common.{arith}
use Rattle.lane_traits.proofs.Streams.{failed_calls-counted}
use Rattle.lane_traits.proofs.text_sink.TextSinkSink.write.Goals as goal

pub returns-then-room-bytes-clause-never_falls : goal.returns-then-room-bytes-clause-never_falls
returns-then-room-bytes-clause-never_falls c =
    let more = failed_calls-counted c.self.inside.fail c.self.inside.calls (omega arith) in
    rw (← c.self.view_is, c.saturating_add-self-inside.ensures, c.saturating_add-self-inside-then-room-bytes.ensures) (omega arith)

pub returns-then-room-bytes-clause-failed : goal.returns-then-room-bytes-clause-failed
returns-then-room-bytes-clause-failed c =
    let more = failed_calls-counted c.self.inside.fail c.self.inside.calls (omega arith) in
    rw (← c.self.view_is, c.saturating_add-self-inside.ensures, c.saturating_add-self-inside-then-room-bytes.ensures) (omega arith)

pub returns-clause-never_falls : goal.returns-clause-never_falls
returns-clause-never_falls c =
    let more = failed_calls-counted c.self.inside.fail c.self.inside.calls (omega arith) in
    rw (← c.self.view_is, c.saturating_add-self-inside.ensures) (omega arith)
