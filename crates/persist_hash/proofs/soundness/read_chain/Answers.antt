use Rattle.std.proofs.Common.{◌+◌, ◌≤◌, [], ◌∷◌, ◌++◌, slice_index, sym, ◌∙◌, ap, subst, refl, arith, length-append}
use Rattle.std.specs.BTreeSet.{contains, btree_set_len}
use Rattle.std.specs.Ordering.{nat_cmp}
use Rattle.persist_model.specs.Records.{IsAmong}
use Rattle.lane_traits.proofs.Among.{among_of}
use Rattle.region_layout.specs.HashMap.{keys, chain_number}
use Rattle.persist_hash.specs.Reading.{land_in, with_block, in_chains, in_front, AreKeys}
use Rattle.persist_hash.proofs.ChainLaws.{keys-append}
use Rattle.persist_hash.proofs.MarkLaws.{marks_same, keys_more, one_more, not_true, not_false}
use Rattle.persist_hash.proofs.Readings.{front_first, front_more, node_read, marks_more, few_in_front, no_hash_by_node, no_hash_by_fields, chains_more, marks_of_chain, absent_is}
use Rattle.persist_hash.proofs.soundness.read_chain.Goals as goal

pub loop-node-init : goal.loop-node-init
loop-node-init g c = record {
  front = [];
  has = front_first (land_in (g.L.Look.words c.args.words.now) c.args.blocks.now.heap c.args.blocks.now.structure) (slice_index (g.L.Look.words c.args.words.now)) c.args.root c.args.chain c.first_of-node.result c.first_of-node.ensures;
  keys_are = λ k. rw c.new-keys.ensures.empty refl;
  count_is = c.new-keys.ensures.len;
  marks_are = c.requires.marks;
}

pub returns-then-not-claim-clause-broken : goal.returns-then-not-claim-clause-broken
returns-then-not-claim-clause-broken g c = λ e.
    let reading = c.loop-node.invariant in
    no_hash_by_node (land_in (g.L.Look.words c.args.words.now) c.args.blocks.now.heap c.args.blocks.now.structure) (slice_index (g.L.Look.words c.args.words.now)) c.args.root c.args.chain c.loop-node.node reading.front c.requires.chain c.requires.read reading.has c.loop-node-test.true
    (λ own. c.claim.ensures.refused c.if-not-claim.true (in_front (slice_index (g.L.Look.words c.args.words.now)) c.args.root c.args.chain reading.front) reading.marks_are own)

pub returns-then-not-fits-clause-broken : goal.returns-then-not-fits-clause-broken
returns-then-not-fits-clause-broken g c = λ e.
    let reading = c.loop-node.invariant in
    let node = c.loop-node.node in
    no_hash_by_fields (land_in (g.L.Look.words c.args.words.now) c.args.blocks.now.heap c.args.blocks.now.structure) (slice_index (g.L.Look.words c.args.words.now)) c.args.root c.args.chain node reading.front c.requires.chain reading.has c.loop-node-test.true
    (λ chain value. subst (IsAmong (keys reading.front)) c.word-key.ensures
    (among_of (keys reading.front) c.word-key.result
    (sym (reading.keys_are c.word-key.result) ∙ not_false (contains nat_cmp c.loop-node.keys c.word-key.result)
    (sym c.in_ok-is_new.ensures.added ∙ c.fits.ensures.bad c.if-not-fits.true (ap chain_number c.word-key.ensures ∙ chain) (subst (λ v. 1 ≤ v) (sym c.word.ensures) value)))))

pub loop-node-preserved : goal.loop-node-preserved
loop-node-preserved g c =
    let reading = c.loop-node.invariant in
    let node = c.loop-node.node in
    let w = (slice_index (g.L.Look.words c.args.words.now)) in
    let front = reading.front in
    let test = in_front w c.args.root c.args.chain front in
    let good = c.fits.ensures.good c.if-not-fits.false in
    let claimed = c.claim.ensures.claimed c.if-not-claim.false test reading.marks_are in
    record {
      front = front ++ node_read w node ∷ [];
      has = front_more (land_in (g.L.Look.words c.args.words.now) c.args.blocks.now.heap c.args.blocks.now.structure) w c.args.root c.args.chain node c.word-node.result front reading.has (c.claim.ensures.own c.if-not-claim.false) claimed.0
          (sym (ap chain_number c.word-key.ensures) ∙ good.0) (subst (λ v. 1 ≤ v) c.word.ensures good.1)
          (λ k. absent_is (keys front) c.word-key.result
          (sym (reading.keys_are c.word-key.result) ∙ not_true (contains nat_cmp c.loop-node.keys c.word-key.result) (sym c.in_ok-is_new.ensures.added ∙ good.2))
          (subst (IsAmong (keys front)) (sym c.word-key.ensures) k))
          c.word-node.ensures;
      keys_are = subst (AreKeys c.insert.new.self) (ap (λ k. keys front ++ k ∷ []) c.word-key.ensures ∙ sym (keys-append front (node_read w node ∷ [])))
          (keys_more (contains nat_cmp c.loop-node.keys) (contains nat_cmp c.insert.new.self) (keys front) c.word-key.result c.in_ok-is_new.ensures.updates.0 reading.keys_are);
      count_is = one_more (btree_set_len c.loop-node.keys) (btree_set_len c.insert.new.self) c.in_ok-is_new.is_new c.in_ok-is_new.ensures.len good.2
          ∙ ap (λ n. n + 1) reading.count_is ∙ sym (length-append front (node_read w node ∷ []));
      marks_are = marks_same c.args.blocks.now.heap c.claim.new.marks (with_block node test) (in_front w c.args.root c.args.chain (front ++ node_read w node ∷ []))
          (marks_more w c.args.root c.args.chain node front) claimed.1;
    }

pub loop-node-smaller : goal.loop-node-smaller
loop-node-smaller g c =
    let reading = c.loop-node.invariant in
    let few = few_in_front (land_in (g.L.Look.words c.args.words.now) c.args.blocks.now.heap c.args.blocks.now.structure) (slice_index (g.L.Look.words c.args.words.now)) c.args.root c.args.chain c.loop-node.node reading.front reading.has in
    let long = reading.count_is in
    let more = one_more (btree_set_len c.loop-node.keys) (btree_set_len c.insert.new.self) c.in_ok-is_new.is_new c.in_ok-is_new.ensures.len (c.fits.ensures.good c.if-not-fits.false).2 in
    omega (arith, few, long, more)

pub returns-clause-read : goal.returns-clause-read
returns-clause-read g c = λ e.
    let reading = c.loop-node.invariant in
    chains_more (land_in (g.L.Look.words c.args.words.now) c.args.blocks.now.heap c.args.blocks.now.structure) (slice_index (g.L.Look.words c.args.words.now)) c.args.root c.args.chain c.loop-node.node reading.front c.requires.read reading.has c.loop-node-test.false

pub returns-clause-marks : goal.returns-clause-marks
returns-clause-marks g c = λ e.
    let reading = c.loop-node.invariant in
    marks_same c.args.blocks.now.heap c.loop-node.marks (in_front (slice_index (g.L.Look.words c.args.words.now)) c.args.root c.args.chain reading.front) (in_chains (slice_index (g.L.Look.words c.args.words.now)) c.args.root (c.args.chain + 1))
    (marks_of_chain (land_in (g.L.Look.words c.args.words.now) c.args.blocks.now.heap c.args.blocks.now.structure) (slice_index (g.L.Look.words c.args.words.now)) c.args.root c.args.chain c.loop-node.node reading.front reading.has c.loop-node-test.false) reading.marks_are
