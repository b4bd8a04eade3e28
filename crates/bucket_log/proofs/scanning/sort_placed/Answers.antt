use Rattle.std.proofs.lemmas.List.Sorted.{answers_always}
use Rattle.std.proofs.Common.{rules}
use Rattle.bucket_log.proofs.Scans.{key_of, sorted_pairs}
use Rattle.bucket_log.proofs.scanning.sort_placed.Goals as goal

pub returns : goal.returns
returns c = record {
  same = c.in_ok-sort_by_key.ensures.permutation;
  ascending = sorted_pairs c.sort_by_key.new.self.items (c.in_ok-sort_by_key.ensures.sorted key_of (answers_always _ _ _ (λ f a r k h. search rules)));
}
