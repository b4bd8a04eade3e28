use Rattle.std.specs.Prelude.{slice_index, length}
use Rattle.std.proofs.Common.{ap, ◌∙◌}
use Rattle.std.proofs.lemmas.Result.{err_from_is_err_and}
use Rattle.persist_model.specs.Faults.{in_header}
use Rattle.region_layout.specs.Layout.{layout_shape}
use Rattle.log_tables.specs.Rows.{log_of_rows}
use Rattle.sound_check.proofs.PartsTried.{unsound_as}
use Rattle.sound_check.proofs.TriedImages.{sized, are_logs, the_state, has_state, same_words, list_fault, log_fault, image_is_sound}
use Rattle.sound_check.proofs.checking.read_sound.Goals as goal

pub returns-in_err-layout-clause-unsound : goal.returns-in_err-layout-clause-unsound
returns-in_err-layout-clause-unsound g c =
    let p = err_from_is_err_and c.from_residual.result c.from_residual.ensures.1 in rw (p.1, p.2) (in_header c.in_err-layout.ensures.fault)

pub try_lists-requires : goal.try_lists-requires
try_lists-requires g c = sized c.in_ok-layout.layout (length (g.W.Look.words c.args.words.now)) (slice_index (g.W.Look.words c.args.words.now)) c.in_ok-layout.ensures.ok c.in_ok-layout.ensures.shape

pub returns-in_err-try_lists-clause-unsound : goal.returns-in_err-try_lists-clause-unsound
returns-in_err-try_lists-clause-unsound g c =
    let p = err_from_is_err_and c.from_residual-in_err-try_lists.result c.from_residual-in_err-try_lists.ensures.1 in
    rw (p.1, p.2) (unsound_as c.in_err-try_lists.field-0.0 _ _ (λ i a f. list_fault (layout_shape c.in_ok-layout.layout) (length (g.W.Look.words c.args.words.now)) (slice_index (g.W.Look.words c.args.words.now)) i a c.in_ok-layout.ensures.ok c.in_ok-layout.ensures.shape f) c.in_err-try_lists.ensures.fault)

pub merge-requires : goal.merge-requires
merge-requires g c = are_logs c.in_ok-layout.layout (length (g.W.Look.words c.args.words.now)) (slice_index (g.W.Look.words c.args.words.now)) c.in_ok-layout.ensures.ok c.in_ok-layout.ensures.shape c.in_ok-try_lists.ensures.ok

pub try_log-requires : goal.try_log-requires
try_log-requires g c = are_logs c.in_ok-layout.layout (length (g.W.Look.words c.args.words.now)) (slice_index (g.W.Look.words c.args.words.now)) c.in_ok-layout.ensures.ok c.in_ok-layout.ensures.shape c.in_ok-try_lists.ensures.ok

pub returns-in_err-try_log-clause-unsound : goal.returns-in_err-try_log-clause-unsound
returns-in_err-try_log-clause-unsound g c =
    let p = err_from_is_err_and c.from_residual-in_err-try_log.result c.from_residual-in_err-try_log.ensures.1 in
    rw (p.1, p.2) (unsound_as c.in_err-try_log.field-0.0 _ _ (λ i a f. log_fault (layout_shape c.in_ok-layout.layout) (length (g.W.Look.words c.args.words.now)) (slice_index (g.W.Look.words c.args.words.now)) _ i a c.in_ok-layout.ensures.ok c.in_ok-layout.ensures.shape (the_state (layout_shape c.in_ok-layout.layout) (slice_index (g.W.Look.words c.args.words.now))) (has_state (layout_shape c.in_ok-layout.layout) (slice_index (g.W.Look.words c.args.words.now)) c.in_ok-try_lists.ensures.ok) (ap log_of_rows c.as_slice.ensures ∙ c.in_ok-records.ensures (slice_index (g.W.Look.words c.args.words.now)) (the_state (layout_shape c.in_ok-layout.layout) (slice_index (g.W.Look.words c.args.words.now))) (same_words (slice_index (g.W.Look.words c.args.words.now))) (has_state (layout_shape c.in_ok-layout.layout) (slice_index (g.W.Look.words c.args.words.now)) c.in_ok-try_lists.ensures.ok)) f) c.in_err-try_log.ensures.fault)

pub returns-clause-sound : goal.returns-clause-sound
returns-clause-sound g c = image_is_sound (layout_shape c.in_ok-layout.layout) (length (g.W.Look.words c.args.words.now)) (slice_index (g.W.Look.words c.args.words.now)) _ c.in_ok-layout.ensures.ok c.in_ok-layout.ensures.shape (the_state (layout_shape c.in_ok-layout.layout) (slice_index (g.W.Look.words c.args.words.now))) (has_state (layout_shape c.in_ok-layout.layout) (slice_index (g.W.Look.words c.args.words.now)) c.in_ok-try_lists.ensures.ok) (ap log_of_rows c.as_slice.ensures ∙ c.in_ok-records.ensures (slice_index (g.W.Look.words c.args.words.now)) (the_state (layout_shape c.in_ok-layout.layout) (slice_index (g.W.Look.words c.args.words.now))) (same_words (slice_index (g.W.Look.words c.args.words.now))) (has_state (layout_shape c.in_ok-layout.layout) (slice_index (g.W.Look.words c.args.words.now)) c.in_ok-try_lists.ensures.ok)) c.in_ok-try_log.ensures.ok

pub returns-clause-records : goal.returns-clause-records
returns-clause-records g c = λ s has. c.in_ok-records.ensures (slice_index (g.W.Look.words c.args.words.now)) s (same_words (slice_index (g.W.Look.words c.args.words.now))) has
