use Rattle.std.proofs.Common.{◌+◌, slice_index, ◌∙◌, ap, arith}
use Rattle.persist_hash.specs.Reading.{land_in, with_link, is_root, in_directories}
use Rattle.persist_hash.proofs.MarkLaws.{marks_same}
use Rattle.persist_hash.proofs.Readings.{no_directories, root_alone, directories_more, directory_more, no_hash_by_directory}
use Rattle.persist_hash.proofs.soundness.read_directories.Goals as goal

pub loop-d-init : goal.loop-d-init
loop-d-init g c = record {
  read = no_directories (land_in (g.L.Look.words c.args.words.now) c.args.blocks.now.heap c.args.blocks.now.structure) (slice_index (g.L.Look.words c.args.words.now)) c.args.root c.requires.own;
  marks_are = marks_same c.args.blocks.now.heap c.args.marks.now (is_root c.args.root) (in_directories (slice_index (g.L.Look.words c.args.words.now)) c.args.root 0)
      (root_alone (slice_index (g.L.Look.words c.args.words.now)) c.args.root) c.requires.marks;
}

pub returns-then-not-claim_link-clause-broken : goal.returns-then-not-claim_link-clause-broken
returns-then-not-claim_link-clause-broken g c = λ e.
    no_hash_by_directory (land_in (g.L.Look.words c.args.words.now) c.args.blocks.now.heap c.args.blocks.now.structure) (slice_index (g.L.Look.words c.args.words.now)) c.args.root c.loop-d.d c.word-link.result (omega arith) c.word-link.ensures (c.claim_link.ensures.some c.if-not-claim_link.true)
    (λ own. c.claim_link.ensures.refused c.if-not-claim_link.true (in_directories (slice_index (g.L.Look.words c.args.words.now)) c.args.root c.loop-d.d) c.loop-d.invariant.marks_are own)

pub loop-d-preserved : goal.loop-d-preserved
loop-d-preserved g c =
    let test = in_directories (slice_index (g.L.Look.words c.args.words.now)) c.args.root c.loop-d.d in
    let on = c.if-not-claim_link.false in
    record {
      read = directories_more (land_in (g.L.Look.words c.args.words.now) c.args.blocks.now.heap c.args.blocks.now.structure) (slice_index (g.L.Look.words c.args.words.now)) c.args.root c.loop-d.d c.word-link.result c.loop-d.invariant.read c.word-link.ensures
          (c.claim_link.ensures.own on) (λ some. c.claim_link.ensures.fresh on some test c.loop-d.invariant.marks_are);
      marks_are = marks_same c.args.blocks.now.heap c.claim_link.new.marks (with_link c.word-link.result test) (in_directories (slice_index (g.L.Look.words c.args.words.now)) c.args.root (c.loop-d.d + 1))
          (λ x. ap (λ v. with_link v test x) c.word-link.ensures ∙ directory_more (slice_index (g.L.Look.words c.args.words.now)) c.args.root c.loop-d.d x)
          (c.claim_link.ensures.claimed on test c.loop-d.invariant.marks_are);
    }
