use Rattle.std.proofs.Common.{slice_index}
use Rattle.persist_hash.specs.Reading.{land_in, AreMarks, in_directories, HasDirectories}
use Rattle.persist_hash.proofs.soundness.read_directories.Given as goal

abbrev pub invariant-loop-d : goal.invariant-loop-d
invariant-loop-d g l = record {
  read : HasDirectories (land_in (g.L.Look.words l.words) l.blocks.heap l.blocks.structure) (slice_index (g.L.Look.words l.words)) l.root l.d;
  marks_are : AreMarks l.blocks.heap l.marks (in_directories (slice_index (g.L.Look.words l.words)) l.root l.d);
}
