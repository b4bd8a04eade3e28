use Rattle.std.proofs.Common.{slice_index}
use Rattle.persist_hash.specs.Reading.{land_in, in_directories, in_chains}
use Rattle.persist_hash.proofs.MarkLaws.{marks_same}
use Rattle.persist_hash.proofs.Readings.{no_chains_yet, directories_alone}
use Rattle.persist_hash.proofs.soundness.read_chains.Goals as goal

pub loop-chain-init : goal.loop-chain-init
loop-chain-init g c = record {
  read = no_chains_yet (land_in (g.L.Look.words c.args.words.now) c.args.blocks.now.heap c.args.blocks.now.structure) (slice_index (g.L.Look.words c.args.words.now)) c.args.root c.requires.read;
  marks_are = marks_same c.args.blocks.now.heap c.args.marks.now (in_directories (slice_index (g.L.Look.words c.args.words.now)) c.args.root 8) (in_chains (slice_index (g.L.Look.words c.args.words.now)) c.args.root 0)
      (directories_alone (slice_index (g.L.Look.words c.args.words.now)) c.args.root) c.requires.marks;
}
