use Rattle.std.proofs.Common.{◌≡◌, Err}
use Rattle.std.proofs.lemmas.Result.{err_from_is_err_and}
use Rattle.lane_traits.specs.declared.words.WordsRefusal.TheVariants.{HeapFull}
use Rattle.persist_hash.proofs.Adding.{few_left, one_taken}
use Rattle.persist_hash.proofs.add.add_directory.Goals as goal

pub returns-in_err-node-clause-full : goal.returns-in_err-node-clause-full
returns-in_err-node-clause-full g c = λ h.
    let p = err_from_is_err_and c.from_residual-in_err-node.result c.from_residual-in_err-node.ensures.1 in
    let refused : c.take-2.result ≡ Err HeapFull = cc in
    few_left (g.W.Reads.space c.args.words.now) (g.W.Reads.space c.take.new.self) c.in_ok-directory.directory
    (g.met.W.Words.spare_apart c.args.words.now) c.in_ok-directory.ensures.taken (c.take-2.ensures.full.0 refused)

pub returns-in_err-node-clause-unwritten : goal.returns-in_err-node-clause-unwritten
returns-in_err-node-clause-unwritten g c = λ h.
    one_taken (g.W.Reads.space c.args.words.now) (g.W.Reads.space c.take.new.self) (g.W.Reads.space c.take-2.new.self) c.in_ok-directory.directory
    c.in_ok-directory.ensures.taken c.in_err-node.ensures.refused
