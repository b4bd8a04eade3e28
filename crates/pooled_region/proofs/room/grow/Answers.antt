use Rattle.std.proofs.Common.{◌≡◌, length, arith}
use Rattle.pooled_region.proofs.Freed.{more_pool, more_same}
use Rattle.pooled_region.proofs.room.grow.Goals as goal

pub returns-clause-pooled : goal.returns-clause-pooled
returns-clause-pooled c = λ words pooled.
    let count : c.len-first.result ≡ length c.args.places.now.items = omega (arith, c.args.places.now.ok.0) in
    rw (c.append.ensures.items, count) (more_pool c.args.places.now.items words c.args.free.now pooled)

pub returns-clause-same : goal.returns-clause-same
returns-clause-same c = λ words pooled a. rw (c.append.ensures.items) (more_same c.args.places.now.items words c.args.free.now pooled a)
