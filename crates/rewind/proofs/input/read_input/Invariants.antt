use Rattle.std.proofs.Common.{◌≡◌, ◌+◌, ◌-◌, ◌≤◌, vec_len}
use Rattle.rewind.specs.Call.{Took}
use Rattle.rewind.proofs.input.read_input.Given as goal

abbrev pub invariant-loop-source : goal.invariant-loop-source
invariant-loop-source g l = record {
  took : Took (g.S.Source.left l.initial.source) l.text.items (g.S.Source.left l.source);
  never_fell : g.S.Source.faults l.initial.source ≤ g.S.Source.faults l.source;
  bound : vec_len l.text ≤ l.limit + 4096;
  chunk : vec_len l.chunk ≡ 4096;
}

abbrev pub decreases-loop-source : goal.decreases-loop-source
decreases-loop-source g l = l.limit + 4097 - vec_len l.text
