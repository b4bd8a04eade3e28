use Rattle.std.specs.Prelude.{slice_index}
use Rattle.std.proofs.Common.{Some, inl, subst}
use Rattle.atomic_list.specs.Walk.{chain_of}
use Rattle.region_layout.specs.Layout.{layout_shape}
use Rattle.bucket_log.specs.Reads.{IsUsedIn}
use Rattle.bucket_log.proofs.NextPlaces.{next_in}
use Rattle.bucket_log.proofs.next_place.read_place.Goals as goal

pub returns-in-Some : goal.returns-in-Some
returns-in-Some g c = inl (subst (λ t. IsUsedIn (slice_index (g.W.Look.words c.args.words.now)) c.args.layout.cells t (Some c.in-Some.place)) c.last_bucket-tail.ensures c.in-Some.ensures)

pub returns-in-None : goal.returns-in-None
returns-in-None g c = next_in (layout_shape c.args.layout) c.args.part (slice_index (g.W.Look.words c.args.words.now)) (chain_of (layout_shape c.args.layout) (slice_index (g.W.Look.words c.args.words.now))) c.last_bucket-tail.result c.last_bucket-tail.ensures
    c.fresh_place.result c.in-None.ensures (c.fresh_place.ensures (layout_shape c.args.layout) c.args.part (chain_of (layout_shape c.args.layout) (slice_index (g.W.Look.words c.args.words.now))) c.least_outside.ensures)
