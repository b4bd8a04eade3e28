use Rattle.std.proofs.Common.{slice_index}
use Rattle.persist_hash.specs.Reading.{land_in, AreMarks, in_chains, HasChains}
use Rattle.persist_hash.proofs.soundness.read_chains.Given as goal

abbrev pub invariant-loop-chain : goal.invariant-loop-chain
invariant-loop-chain g l = record {
  read : HasChains (land_in (g.L.Look.words l.words) l.blocks.heap l.blocks.structure) (slice_index (g.L.Look.words l.words)) l.root l.chain;
  marks_are : AreMarks l.blocks.heap l.marks (in_chains (slice_index (g.L.Look.words l.words)) l.root l.chain);
}
