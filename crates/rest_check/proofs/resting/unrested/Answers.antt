use Rattle.std.proofs.Common.{ℕ, ◌<◌, map, reverse, length, sym}
use Rattle.std.specs.Prelude.{slice_index}
use Rattle.persist_model.specs.Shape.{shape_of}
use Rattle.region_layout.specs.Layout.{layout_shape}
use Rattle.bucket_log.specs.Scans.{record_of_placed}
use Rattle.recovery_analysis.proofs.Soundly.{logs_of_image}
use Rattle.recovery_run.specs.Reached.{HasFewBuckets}
use Rattle.recovery_passes.specs.Recovered.{IsFinished}
use Rattle.rest_check.specs.Rest.{IsFirstSecond, IsUnrested}
use Rattle.rest_check.proofs.Unrested.{some_more, none_more, asked_here, opened_here, second_here, rested_here}
use Rattle.rest_check.proofs.resting.unrested.Goals as goal

pub returns-in-Some-clause-some : goal.returns-in-Some-clause-some
returns-in-Some-clause-some g c = asked_here (layout_shape c.args.layout) (slice_index (g.W.Look.words c.args.words.now)) (reverse (map record_of_placed c.args.records.now)) c.requires.shape c.requires.records
    c.in-Some.a c.in-Some.ensures.some

pub returns-in-Some-first_open-clause-some : goal.returns-in-Some-first_open-clause-some
returns-in-Some-first_open-clause-some g c = opened_here (layout_shape c.args.layout) (slice_index (g.W.Look.words c.args.words.now)) (reverse (map record_of_placed c.args.records.now)) c.requires.shape c.requires.records
    c.in-Some-first_open.a c.in-None.ensures.none c.in-Some-first_open.ensures

pub first_second-requires : goal.first_second-requires
first_second-requires g c = logs_of_image c.args.layout (length (g.W.Look.words c.args.words.now)) (slice_index (g.W.Look.words c.args.words.now)) (record { sound = c.requires.sound; has_layout = sym c.requires.shape })

pub returns-clause-some : goal.returns-clause-some
returns-clause-some g c = some_more c.first_second.result (λ a. IsFirstSecond (layout_shape c.args.layout) (slice_index (g.W.Look.words c.args.words.now)) a)
    (λ a. IsUnrested (shape_of (slice_index (g.W.Look.words c.args.words.now))) (slice_index (g.W.Look.words c.args.words.now)) a)
    (λ a h. second_here (layout_shape c.args.layout) (slice_index (g.W.Look.words c.args.words.now)) (reverse (map record_of_placed c.args.records.now)) c.requires.shape c.requires.records
    a c.in-None.ensures.none c.in-None-first_open.ensures h) c.first_second.ensures.some

pub returns-clause-none : goal.returns-clause-none
returns-clause-none g c = none_more c.first_second.result ((p : ℕ) → p < c.args.layout.partitions → HasFewBuckets (layout_shape c.args.layout) p (slice_index (g.W.Look.words c.args.words.now)))
    (IsFinished (length (g.W.Look.words c.args.words.now)) (slice_index (g.W.Look.words c.args.words.now)))
    (λ few. rested_here (layout_shape c.args.layout) (slice_index (g.W.Look.words c.args.words.now)) (reverse (map record_of_placed c.args.records.now)) c.requires.shape c.requires.records
    (length (g.W.Look.words c.args.words.now)) c.requires.sound c.in-None.ensures.none c.in-None-first_open.ensures few) c.first_second.ensures.none
