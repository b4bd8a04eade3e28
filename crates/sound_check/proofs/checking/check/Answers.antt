use Rattle.std.specs.Prelude.{slice_index, length}
use Rattle.std.proofs.lemmas.Result.{err_from_is_err_and}
use Rattle.log_laws.proofs.Soundness.{sound_has_no_fault}
use Rattle.sound_check.proofs.TriedImages.{of_sound, of_unsound}
use Rattle.sound_check.proofs.checking.check.Goals as goal

pub returns-in_err-read-clause-of_sound : goal.returns-in_err-read-clause-of_sound
returns-in_err-read-clause-of_sound g c = λ sound.
    let p = err_from_is_err_and c.from_residual.result c.from_residual.ensures.1 in
    rw (p.1, p.2) (of_sound (length (g.W.Look.words c.args.words.now)) (slice_index (g.W.Look.words c.args.words.now)) c.in_err-read.field-0.0 c.in_err-read.ensures.unsound sound)

pub returns-in_err-read-clause-of_unsound : goal.returns-in_err-read-clause-of_unsound
returns-in_err-read-clause-of_unsound g c = λ fault a f.
    let p = err_from_is_err_and c.from_residual.result c.from_residual.ensures.1 in
    rw (p.1, p.2) (of_unsound (length (g.W.Look.words c.args.words.now)) (slice_index (g.W.Look.words c.args.words.now)) c.in_err-read.field-0.0 fault a c.in_err-read.ensures.unsound f)

pub returns-clause-of_unsound : goal.returns-clause-of_unsound
returns-clause-of_unsound g c = λ fault a f. absurd (sound_has_no_fault (length (g.W.Look.words c.args.words.now)) (slice_index (g.W.Look.words c.args.words.now)) fault a c.in_ok-read.ensures.sound f)
