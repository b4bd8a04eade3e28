use Rattle.txn_core.proofs.Freeing.{IsFreeing}
use Rattle.txn_core.proofs.clearing.free_taken.Given as goal

abbrev pub invariant-loop-write : goal.invariant-loop-write
invariant-loop-write l = IsFreeing l.layout l.writes l.initial.blocks l.blocks l.write-index
