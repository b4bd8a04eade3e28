use Rattle.std.specs.Prelude.{slice_index, length}
use Rattle.std.proofs.Common.{◌≡◌, ◌+◌, ◌-◌, ◌==◌, true, refl, arith, ◌∙◌}
use Rattle.std.proofs.lemmas.Bool.{OnTrue_from, OnFalse_from, eqb-true, eq-eqb}
use Rattle.persist_model.specs.Shape.{bucket}
use Rattle.atomic_list.specs.Walk.{chain_of}
use Rattle.region_layout.specs.Layout.{layout_shape}
use Rattle.bucket_log.proofs.Walking.{part_inside}
use Rattle.batch_log.specs.FreeBuckets.{has_bucket, free_buckets}
use Rattle.batch_log.proofs.FreeWalks.{found_begins, found_more, has_taken, too_few, kept_at}
use Rattle.batch_log.proofs.free.find_free.Goals as goal

pub loop-j-init : goal.loop-j-init
loop-j-init g c = record { found = found_begins c.args.wanted (layout_shape c.args.layout) c.args.part (chain_of (layout_shape c.args.layout) (slice_index (g.W.Look.words c.args.words.now))) c.args.found.now.items c.requires.empty; capacity = refl }

pub bucket-requires : goal.bucket-requires
bucket-requires g c = let inside = part_inside c.args.layout c.args.part (length (g.W.Look.words c.args.words.now)) (slice_index (g.W.Look.words c.args.words.now)) c.requires.part in let below = c.loop-j-test.true in omega (arith, inside, below)

pub keep_free-requires-clause-room : goal.keep_free-requires-clause-room
keep_free-requires-clause-room g c =
    let few = c.loop-j.invariant.found.few in
    let same = c.loop-j.invariant.capacity in
    let room = c.requires.room in
    let ne = c.if-len-wanted.false in
    let size = c.len.ensures in
    let tie = c.loop-j.found.ok.0 in
    omega (arith, few, same, room, ne, size, tie)

pub loop-j-preserved : goal.loop-j-preserved
loop-j-preserved g c = record {
  found = found_more c.args.wanted (free_buckets (layout_shape c.args.layout) c.args.part (chain_of (layout_shape c.args.layout) (slice_index (g.W.Look.words c.args.words.now)))) c.loop-j.found.items c.keep_free.new.found.items (layout_shape c.args.layout) (chain_of (layout_shape c.args.layout) (slice_index (g.W.Look.words c.args.words.now))) c.loop-j.j
      (c.args.part.first + c.args.part.count - c.loop-j.j) (c.args.part.first + c.args.part.count - (c.loop-j.j + 1)) c.loop-j.invariant.found
      (let below = c.loop-j-test.true in omega (arith, below)) (λ e. c.if-len-wanted.false (let size = c.len.ensures in let tie = c.loop-j.found.ok.0 in omega (arith, size, tie, e)))
      (kept_at (has_bucket (chain_of (layout_shape c.args.layout) (slice_index (g.W.Look.words c.args.words.now)))) c.bucket.result (bucket (layout_shape c.args.layout) c.loop-j.j) c.loop-j.found.items c.keep_free.new.found.items c.bucket.ensures c.keep_free.ensures.items);
  capacity = c.keep_free.ensures.capacity ∙ c.loop-j.invariant.capacity;
}

pub returns-then-len-wanted-clause-taken : goal.returns-then-len-wanted-clause-taken
returns-then-len-wanted-clause-taken g c = has_taken c.args.wanted (free_buckets (layout_shape c.args.layout) c.args.part (chain_of (layout_shape c.args.layout) (slice_index (g.W.Look.words c.args.words.now)))) c.loop-j.found.items (layout_shape c.args.layout) (chain_of (layout_shape c.args.layout) (slice_index (g.W.Look.words c.args.words.now))) c.loop-j.j (c.args.part.first + c.args.part.count - c.loop-j.j) c.loop-j.invariant.found
    (let e = c.if-len-wanted.true in let size = c.len.ensures in let tie = c.loop-j.found.ok.0 in omega (arith, e, size, tie))

pub returns-clause-taken : goal.returns-clause-taken
returns-clause-taken g c = OnTrue_from (c.len-2.result == c.args.wanted) _ (λ t. has_taken c.args.wanted (free_buckets (layout_shape c.args.layout) c.args.part (chain_of (layout_shape c.args.layout) (slice_index (g.W.Look.words c.args.words.now)))) c.loop-j.found.items (layout_shape c.args.layout) (chain_of (layout_shape c.args.layout) (slice_index (g.W.Look.words c.args.words.now))) c.loop-j.j (c.args.part.first + c.args.part.count - c.loop-j.j) c.loop-j.invariant.found
    (let e = eqb-true c.len-2.result c.args.wanted t in let size = c.len-2.ensures in let tie = c.loop-j.found.ok.0 in omega (arith, e, size, tie)))

pub returns-clause-fewer : goal.returns-clause-fewer
returns-clause-fewer g c = OnFalse_from (c.len-2.result == c.args.wanted) _ (λ t. too_few c.args.wanted (free_buckets (layout_shape c.args.layout) c.args.part (chain_of (layout_shape c.args.layout) (slice_index (g.W.Look.words c.args.words.now)))) c.loop-j.found.items (layout_shape c.args.layout) (chain_of (layout_shape c.args.layout) (slice_index (g.W.Look.words c.args.words.now))) c.loop-j.j (c.args.part.first + c.args.part.count - c.loop-j.j) c.loop-j.invariant.found
    (let over = c.loop-j-test.false in omega (arith, over))
    (λ same. (let size = c.len-2.ensures in let tie = c.loop-j.found.ok.0 in let e : c.len-2.result ≡ c.args.wanted = omega (arith, size, tie, same) in
    let on : (c.len-2.result == c.args.wanted) ≡ true = eq-eqb c.len-2.result c.args.wanted e in cc)))
