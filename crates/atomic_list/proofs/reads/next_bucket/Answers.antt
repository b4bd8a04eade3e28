use Rattle.std.specs.Prelude.{slice_index, length}
use Rattle.std.proofs.Common.{sym, ◌∙◌, ap}
use Rattle.atomic_list.specs.Reads.{next_in}
use Rattle.atomic_list.proofs.Agreeing.{chain_same}
use Rattle.atomic_list.proofs.Reading.{next_is_in_chain}
use Rattle.atomic_list.proofs.reads.next_bucket.Goals as goal

pub returns : goal.returns
returns g c = record {
  next = λ w same. c.read_next.ensures
      ∙ sym (ap (λ chain. next_in chain c.args.node) (chain_same (length (g.W.Look.words c.args.words.now)) (slice_index (g.W.Look.words c.args.words.now)) w c.requires.list same));
  in_chain = next_is_in_chain (slice_index (g.W.Look.words c.args.words.now)) c.args.node c.read_next.result c.read_next.ensures;
}
