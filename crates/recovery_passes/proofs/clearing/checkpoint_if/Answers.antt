use Rattle.std.proofs.Common.{ap, arith}
use Rattle.std.specs.Vec.{vec_len}
use Rattle.recovery_passes.specs.LoserPass.{gates_len}
use Rattle.recovery_passes.proofs.ClearBounds.{one_wanted}
use Rattle.recovery_passes.proofs.Readying.{ready_plain, can_checkpoint, ready_checkpointed}
use Rattle.recovery_passes.proofs.clearing.checkpoint_if.Goals as goal

pub append_checkpoint-requires-clause-can : goal.append_checkpoint-requires-clause-can
append_checkpoint-requires-clause-can g c =
    let r = c.requires.can in
    let both = r.3.0 c.if-wanted.true in
    (r.0, _, can_checkpoint c.args.layout r.0 r.1 c.args.held.now (g.D.Device.cells c.args.device.now) r.2 both.0 both.1)

pub returns-then-wanted-clause-made : goal.returns-then-wanted-clause-made
returns-then-wanted-clause-made g c = λ made first total h wanted.
    let both = wanted.0 c.if-wanted.true in
    ready_checkpointed c.args.layout first h.state c.args.held.now.gates c.append_checkpoint.new.held (g.D.Device.cells c.append_checkpoint.new.device) h.sound
    (c.append_checkpoint.ensures.made made first h.state (can_checkpoint c.args.layout first total c.args.held.now (g.D.Device.cells c.args.device.now) h both.0 both.1))

pub returns-then-wanted-clause-stopped : goal.returns-then-wanted-clause-stopped
returns-then-wanted-clause-stopped g c = λ stopped first total h wanted.
    let both = wanted.0 c.if-wanted.true in
    c.append_checkpoint.ensures.stopped stopped first h.state (can_checkpoint c.args.layout first total c.args.held.now (g.D.Device.cells c.args.device.now) h both.0 both.1)

pub returns-then-wanted-clause-count : goal.returns-then-wanted-clause-count
returns-then-wanted-clause-count g c = λ made.
    let r = c.requires.can in
    let both = r.3.0 c.if-wanted.true in
    let k = c.append_checkpoint.ensures.made made r.0 r.2.state (can_checkpoint c.args.layout r.0 r.1 c.args.held.now (g.D.Device.cells c.args.device.now) r.2 both.0 both.1) in
    let a = ap vec_len k.same_gates in
    let b = ap vec_len k.same_ends in
    let d = k.len in
    one_wanted c.args.wanted (gates_len c.args.held.now.gates) (gates_len c.append_checkpoint.new.held.gates) c.if-wanted.true (omega (arith, a, b, d))

pub returns-else-wanted-clause-made : goal.returns-else-wanted-clause-made
returns-else-wanted-clause-made g c = λ made first total h wanted.
    ready_plain c.args.layout first total c.args.held.now (g.D.Device.cells c.args.device.now) h (λ both. (let e = wanted.1 both in let f = c.if-wanted.false in cc))
