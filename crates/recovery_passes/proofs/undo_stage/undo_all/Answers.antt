use Rattle.std.proofs.Common.{◌+◌, length, drop, refl, ap, arith}
use Rattle.lane_traits.specs.declared.device.Done.TheVariants.{Made}
use Rattle.region_layout.specs.Layout.{layout_shape}
use Rattle.recovery_run.specs.Edges.{IsPlainHeaderWord}
use Rattle.recovery_passes.specs.LoserPass.{undo_all_events}
use Rattle.recovery_passes.proofs.Counting.{counted_more, keeps_then}
use Rattle.recovery_passes.proofs.Undone.{gone_can, gone_stopped, gone_spare, gone_next, item_first}
use Rattle.recovery_passes.proofs.undo_stage.undo_all.Goals as goal

pub undo-requires : goal.undo-requires
undo-requires g c =
    let first = c.requires.0 in
    let total = c.requires.1 in
    let i = c.loop-transaction.transaction-index in
    let t = c.transaction-item.result in
    let is = item_first c.args.running.now i t c.loop-transaction-test.true c.transaction-item.is in
    let gone = c.loop-transaction.invariant.each first total c.requires.2 c.requires.3 in
    let can = gone_can c.args.layout first total c.args.running.now (drop i c.args.running.now) t (drop (i + 1) c.args.running.now) c.loop-transaction.held
    (g.D.Device.cells c.loop-transaction.device) (g.D.Device.counts c.args.device.now) (g.D.Device.counts c.loop-transaction.device) (g.D.Device.spare c.args.device.now)
    (g.D.Device.spare c.loop-transaction.device) c.as_slice.result.now c.as_slice.ensures gone is c.requires.3 in
    (first, _, can)

pub returns-in-Stopped-clause-stopped : goal.returns-in-Stopped-clause-stopped
returns-in-Stopped-clause-stopped g c = λ stopped first total h enough.
    let i = c.loop-transaction.transaction-index in
    let t = c.transaction-item.result in
    let is = item_first c.args.running.now i t c.loop-transaction-test.true c.transaction-item.is in
    let gone = c.loop-transaction.invariant.each first total h enough in
    c.in-Stopped.ensures.stopped refl first _
    (gone_can c.args.layout first total c.args.running.now (drop i c.args.running.now) t (drop (i + 1) c.args.running.now) c.loop-transaction.held
    (g.D.Device.cells c.loop-transaction.device) (g.D.Device.counts c.args.device.now) (g.D.Device.counts c.loop-transaction.device) (g.D.Device.spare c.args.device.now)
    (g.D.Device.spare c.loop-transaction.device) c.as_slice.result.now c.as_slice.ensures gone is enough)

pub returns-in-Stopped-clause-counted : goal.returns-in-Stopped-clause-counted
returns-in-Stopped-clause-counted g c = λ first total h enough.
    let i = c.loop-transaction.transaction-index in
    let t = c.transaction-item.result in
    let is = item_first c.args.running.now i t c.loop-transaction-test.true c.transaction-item.is in
    let gone = c.loop-transaction.invariant.each first total h enough in
    let can = gone_can c.args.layout first total c.args.running.now (drop i c.args.running.now) t (drop (i + 1) c.args.running.now) c.loop-transaction.held
    (g.D.Device.cells c.loop-transaction.device) (g.D.Device.counts c.args.device.now) (g.D.Device.counts c.loop-transaction.device) (g.D.Device.spare c.args.device.now)
    (g.D.Device.spare c.loop-transaction.device) c.as_slice.result.now c.as_slice.ensures gone is enough in
    gone_stopped c.args.layout first total c.args.running.now (drop i c.args.running.now) t (drop (i + 1) c.args.running.now) c.loop-transaction.held
    (g.D.Device.cells c.loop-transaction.device) (g.D.Device.counts c.args.device.now) (g.D.Device.counts c.loop-transaction.device) (g.D.Device.spare c.args.device.now)
    (g.D.Device.spare c.loop-transaction.device) c.as_slice.result.now c.as_slice.ensures gone is enough (g.D.Device.counts c.undo.new.device) (c.in-Stopped.ensures.counted first _ can)

pub returns-in-Stopped-clause-spare_left : goal.returns-in-Stopped-clause-spare_left
returns-in-Stopped-clause-spare_left g c = λ first total h enough.
    let i = c.loop-transaction.transaction-index in
    let t = c.transaction-item.result in
    let is = item_first c.args.running.now i t c.loop-transaction-test.true c.transaction-item.is in
    let gone = c.loop-transaction.invariant.each first total h enough in
    let can = gone_can c.args.layout first total c.args.running.now (drop i c.args.running.now) t (drop (i + 1) c.args.running.now) c.loop-transaction.held
    (g.D.Device.cells c.loop-transaction.device) (g.D.Device.counts c.args.device.now) (g.D.Device.counts c.loop-transaction.device) (g.D.Device.spare c.args.device.now)
    (g.D.Device.spare c.loop-transaction.device) c.as_slice.result.now c.as_slice.ensures gone is enough in
    gone_spare c.args.layout first total c.args.running.now (drop i c.args.running.now) t (drop (i + 1) c.args.running.now) c.loop-transaction.held
    (g.D.Device.cells c.loop-transaction.device) (g.D.Device.counts c.args.device.now) (g.D.Device.counts c.loop-transaction.device) (g.D.Device.spare c.args.device.now)
    (g.D.Device.spare c.loop-transaction.device) c.as_slice.result.now c.as_slice.ensures gone is enough (g.D.Device.spare c.undo.new.device) (c.in-Stopped.ensures.spare first _ can)

pub returns-in-Stopped-clause-header : goal.returns-in-Stopped-clause-header
returns-in-Stopped-clause-header g c =
    keeps_then (IsPlainHeaderWord (layout_shape c.args.layout)) (g.D.Device.cells c.args.device.now) (g.D.Device.cells c.loop-transaction.device) (g.D.Device.cells c.undo.new.device)
    c.loop-transaction.invariant.header c.in-Stopped.ensures.header

pub loop-transaction-preserved : goal.loop-transaction-preserved
loop-transaction-preserved g c =
    let i = c.loop-transaction.transaction-index in
    let t = c.transaction-item.result in
    let lt = c.loop-transaction-test.true in
    let is = item_first c.args.running.now i t lt c.transaction-item.is in
    record {
      each = λ first total h enough.
          let gone = c.loop-transaction.invariant.each first total h enough in
          let can = gone_can c.args.layout first total c.args.running.now (drop i c.args.running.now) t (drop (i + 1) c.args.running.now) c.loop-transaction.held
          (g.D.Device.cells c.loop-transaction.device) (g.D.Device.counts c.args.device.now) (g.D.Device.counts c.loop-transaction.device) (g.D.Device.spare c.args.device.now)
          (g.D.Device.spare c.loop-transaction.device) c.as_slice.result.now c.as_slice.ensures gone is enough in
          gone_next c.args.layout first total c.args.running.now (drop i c.args.running.now) t (drop (i + 1) c.args.running.now) c.loop-transaction.held
          (g.D.Device.cells c.loop-transaction.device) (g.D.Device.counts c.args.device.now) (g.D.Device.counts c.loop-transaction.device) (g.D.Device.spare c.args.device.now)
          (g.D.Device.spare c.loop-transaction.device) c.as_slice.result.now c.as_slice.ensures gone is enough c.undo.new.held (g.D.Device.cells c.undo.new.device) (g.D.Device.counts c.undo.new.device)
          (g.D.Device.spare c.undo.new.device) (c.in-Made.ensures.made refl first _ can) (c.in-Made.ensures.counted first _ can) (c.in-Made.ensures.spare first _ can);
      header = keeps_then (IsPlainHeaderWord (layout_shape c.args.layout)) (g.D.Device.cells c.args.device.now) (g.D.Device.cells c.loop-transaction.device) (g.D.Device.cells c.undo.new.device)
          c.loop-transaction.invariant.header c.in-Made.ensures.header;
      idle = λ none. (let n = ap length none in absurd (omega (arith, lt, n)));
      idle_gates = λ none. (let n = ap length none in absurd (omega (arith, lt, n)));
    }

pub returns-clause-counted : goal.returns-clause-counted
returns-clause-counted g c = λ first total h enough.
    let gone = c.loop-transaction.invariant.each first total h enough in
    let whole = gone.left_is in
    counted_more gone.used (undo_all_events c.args.layout first.log c.args.running.now) Made (g.D.Device.counts c.args.device.now) (g.D.Device.counts c.loop-transaction.device) (omega (arith, whole)) gone.counted

pub returns-clause-spare_left : goal.returns-clause-spare_left
returns-clause-spare_left g c = λ first total h enough.
    let gone = c.loop-transaction.invariant.each first total h enough in
    let whole = gone.left_is in
    let left = gone.spare_left in
    omega (arith, whole, left)
