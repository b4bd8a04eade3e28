-- Why a call ended with a status.
use Rattle.std.proofs.Common.{◌≡◌, ◌≢◌, ◌⊎◌, inl, inr, ℕ, ◌<◌, List, length, refl, sym, ◌∙◌, ap, subst, arith, Some}
use Rattle.persist_model.specs.ImageRules.{rule_number}
use Rattle.image_text.specs.declared.image.Image.{Image}
use Rattle.image_text.specs.Grammar.{IsTextOf}
use Rattle.image_runner.specs.declared.runner.Wanted.{Wanted}
use Rattle.image_runner.specs.declared.runner.Ended.{Ended}
use Rattle.image_runner.specs.declared.runner.Ended.TheVariants as ended
use Rattle.image_runner.specs.Ends.{IsAdmitted, EachRecoversAs}
use Rattle.image_runner.proofs.Again.{leaves_again}
use Rattle.rewind.specs.declared.status.Status.{Status}
use Rattle.rewind.specs.declared.status.Status.TheVariants as status
use Rattle.rewind.specs.declared.words.Job.{Job}
use Rattle.rewind.specs.declared.words.Job.TheVariants as job
use Rattle.rewind.specs.declared.replay.Outcome.{Outcome}
use Rattle.rewind.specs.declared.replay.Outcome.TheVariants as outcome
use Rattle.rewind.specs.Words.{AreRun, AreWordsOf, limit_of}
use Rattle.rewind.specs.Call.{Call, HasRecovered, IsCauseOf, IsAnswerTo, Written, HasTold, HasRun, status_of, status_of_end, text_of}
use Rattle.rewind.specs.Causes.{IsLongInput, IsNoScript, IsNoImageText, IsUnsoundImage, refused, broken}
use Rattle.rewind.proofs.Dues.{recover_is_no_run, migrate_is_no_run, migrate_is_no_recover, same_wanted, took_all_is}
use Rattle.rewind.proofs.Stops.{same_stop}

-- ---- no two statuses are the same

unfoldable pub code : Status → ℕ
code status.Done = 0
code status.Usage = 2
code status.Script = 3
code status.ReadFault = 4
code status.WriteFault = 5
code status.NoMemory = 6
code status.Unsound = 7
code status.TooLong = 8
code status.Stopped = 9

-- no status is two
pub differ : (s t : Status) → code s ≢ code t → s ≡ t → ⊥
differ s t apart same = apart (ap code same)

module _ (call : Call) (answer : Status) (w : Written) (run : HasRun call answer w) where
  -- what a call told, where neither a write failed nor memory ran out
  pub told : (s : Status) → code s ≢ 5 → code s ≢ 6 → answer ≡ s → (status_of run.outcome ≡ s) × HasTold w (text_of run.outcome)
  unfolding code
  told s written memory is = by_told run.told
    where
      by_told : IsAnswerTo run.outcome answer w → (status_of run.outcome ≡ s) × HasTold w (text_of run.outcome)
      by_told (inl full) = (sym full.status ∙ is, full.text)
      by_told (inr (inl cut)) = absurd (written (ap code (sym is ∙ cut.status)))
      by_told (inr (inr untold)) = absurd (memory (ap code (sym is ∙ untold.status)))

-- ---- too long

same_job : (j k : Job) (words : List (List ℕ)) → AreWordsOf j words → AreWordsOf k words → j ≡ k
same_job job.Run job.Run words here there = refl
same_job job.Run (job.Recover w) words here there = absurd (recover_is_no_run w words here there)
same_job (job.Recover w) job.Run words here there = absurd (recover_is_no_run w words there here)
same_job (job.Recover w) (job.Recover v) words here there = ap job.Recover (same_wanted w v words here there)
same_job job.Run (job.Migrate stop) words here there = absurd (migrate_is_no_run stop words here there)
same_job (job.Migrate stop) job.Run words here there = absurd (migrate_is_no_run stop words there here)
same_job (job.Recover w) (job.Migrate stop) words here there = absurd (migrate_is_no_recover stop w words here there)
same_job (job.Migrate stop) (job.Recover w) words here there = absurd (migrate_is_no_recover stop w words there here)
same_job (job.Migrate stop) (job.Migrate other) words here there = ap job.Migrate (same_stop stop other words here there)

module _ (call : Call) (w : Written) (j : Job) (words : AreWordsOf j call.words) where
  end_not_long : (end : Ended) → status_of_end end ≡ status.TooLong → ⊥
  unfolding code
  end_not_long (ended.Misread line) e = differ status.Script status.TooLong (λ x. omega (arith, x)) e
  end_not_long (ended.Unsound found) e = differ status.Unsound status.TooLong (λ x. omega (arith, x)) e
  end_not_long ended.Stopped e = differ status.Stopped status.TooLong (λ x. omega (arith, x)) e
  end_not_long (ended.Broken root) e = differ status.Unsound status.TooLong (λ x. omega (arith, x)) e
  end_not_long ended.NoMemory e = differ status.NoMemory status.TooLong (λ x. omega (arith, x)) e
  end_not_long (ended.Done text) e = differ status.Done status.TooLong (λ x. omega (arith, x)) e

  long_by : (o : Outcome) → IsCauseOf o call → status_of o ≡ status.TooLong → HasTold w (text_of o) → IsLongInput j call w
  unfolding code
  long_by outcome.TooLong cause e text = record {
    text = cause.text;
    took = cause.took;
    long = subst (λ (k : Job). limit_of k < length cause.text) (same_job cause.job j call.words cause.words words) cause.long;
    told = text;
  }
  long_by outcome.Usage cause e text = absurd (differ status.Usage status.TooLong (λ x. omega (arith, x)) e)
  long_by outcome.ReadFault cause e text = absurd (differ status.ReadFault status.TooLong (λ x. omega (arith, x)) e)
  long_by (outcome.Wrong wrong) cause e text = absurd (differ status.Script status.TooLong (λ x. omega (arith, x)) e)
  long_by outcome.NoMemory cause e text = absurd (differ status.NoMemory status.TooLong (λ x. omega (arith, x)) e)
  long_by (outcome.Stopped commits) cause e text = absurd (differ status.Stopped status.TooLong (λ x. omega (arith, x)) e)
  long_by (outcome.Done s) cause e text = absurd (differ status.Done status.TooLong (λ x. omega (arith, x)) e)
  long_by (outcome.Recovery end) cause e text = absurd (end_not_long end e)
  long_by (outcome.Migration end) cause e text = absurd (end_not_long end e)

pub long_input : (call : Call) (answer : Status) (w : Written) → HasRun call answer w → answer ≡ status.TooLong → (j : Job) → AreWordsOf j call.words
    → IsLongInput j call w
unfolding code
long_input call answer w run is j words =
    let t = told call answer w run status.TooLong (λ x. omega (arith, x)) (λ x. omega (arith, x)) is in
    long_by call w j words run.outcome run.cause t.0 t.1

-- ---- no script

module _ (call : Call) (w : Written) (words : AreRun call.words) where
  script_by : (o : Outcome) → IsCauseOf o call → status_of o ≡ status.Script → HasTold w (text_of o) → IsNoScript call w
  unfolding code
  script_by (outcome.Wrong wrong) cause e text = record {
    text = cause.text;
    took = cause.read.input;
    wrong = wrong;
    is_wrong = cause.wrong_is;
    told = text;
  }
  script_by outcome.Usage cause e text = absurd (differ status.Usage status.Script (λ x. omega (arith, x)) e)
  script_by outcome.ReadFault cause e text = absurd (differ status.ReadFault status.Script (λ x. omega (arith, x)) e)
  script_by outcome.TooLong cause e text = absurd (differ status.TooLong status.Script (λ x. omega (arith, x)) e)
  script_by outcome.NoMemory cause e text = absurd (differ status.NoMemory status.Script (λ x. omega (arith, x)) e)
  script_by (outcome.Stopped commits) cause e text = absurd (differ status.Stopped status.Script (λ x. omega (arith, x)) e)
  script_by (outcome.Done s) cause e text = absurd (differ status.Done status.Script (λ x. omega (arith, x)) e)
  script_by (outcome.Recovery end) cause e text = absurd (recover_is_no_run cause.wanted call.words words cause.read.words)
  script_by (outcome.Migration end) cause e text = absurd (migrate_is_no_run cause.stop call.words words cause.read.words)

pub no_script : (call : Call) (answer : Status) (w : Written) → HasRun call answer w → answer ≡ status.Script → AreRun call.words
    → IsNoScript call w
unfolding code
no_script call answer w run is words =
    let t = told call answer w run status.Script (λ x. omega (arith, x)) (λ x. omega (arith, x)) is in
    script_by call w words run.outcome run.cause t.0 t.1

-- ---- a recovery

module _ (call : Call) (w : Written) (wanted : Wanted) (words : AreWordsOf (job.Recover wanted) call.words) where
  misread_end : (end : Ended) → HasRecovered call end → status_of_end end ≡ status.Script → HasTold w (text_of (outcome.Recovery end)) → IsNoImageText call w
  unfolding code
  misread_end (ended.Misread line) h e text = record {
    text = h.text;
    took = h.read.input;
    line = line;
    breaks = h.end_is.0;
    told = text;
  }
  misread_end (ended.Unsound found) h e text = absurd (differ status.Unsound status.Script (λ x. omega (arith, x)) e)
  misread_end ended.Stopped h e text = absurd (differ status.Stopped status.Script (λ x. omega (arith, x)) e)
  misread_end (ended.Broken root) h e text = absurd (differ status.Unsound status.Script (λ x. omega (arith, x)) e)
  misread_end ended.NoMemory h e text = absurd (differ status.NoMemory status.Script (λ x. omega (arith, x)) e)
  misread_end (ended.Done out) h e text = absurd (differ status.Done status.Script (λ x. omega (arith, x)) e)

  unsound_end : (end : Ended) → HasRecovered call end → status_of_end end ≡ status.Unsound → HasTold w (text_of (outcome.Recovery end)) → IsUnsoundImage wanted call w
  unfolding code
  unsound_end (ended.Misread line) h e text = absurd (differ status.Script status.Unsound (λ x. omega (arith, x)) e)
  unsound_end (ended.Unsound found) h e text = refused h.text h.read.input h.end_is.0 h.end_is.1 (rule_number found.rule) found.address h.end_is.2.0 text
  unsound_end ended.Stopped h e text = absurd (differ status.Stopped status.Unsound (λ x. omega (arith, x)) e)
  unsound_end (ended.Broken root) h e text =
      broken (sym (same_wanted h.wanted wanted call.words h.read.words words) ∙ h.end_is.2.report) h.text h.read.input h.end_is.0 h.end_is.1 h.end_is.2.recovery.admitted root h.end_is.2.broken text
  unsound_end ended.NoMemory h e text = absurd (differ status.NoMemory status.Unsound (λ x. omega (arith, x)) e)
  unsound_end (ended.Done out) h e text = absurd (differ status.Done status.Unsound (λ x. omega (arith, x)) e)

  image_by : (o : Outcome) → IsCauseOf o call → status_of o ≡ status.Script → HasTold w (text_of o) → IsNoImageText call w
  unfolding code
  image_by (outcome.Wrong wrong) cause e text = absurd (recover_is_no_run wanted call.words cause.read.words words)
  image_by outcome.Usage cause e text = absurd (differ status.Usage status.Script (λ x. omega (arith, x)) e)
  image_by outcome.ReadFault cause e text = absurd (differ status.ReadFault status.Script (λ x. omega (arith, x)) e)
  image_by outcome.TooLong cause e text = absurd (differ status.TooLong status.Script (λ x. omega (arith, x)) e)
  image_by outcome.NoMemory cause e text = absurd (differ status.NoMemory status.Script (λ x. omega (arith, x)) e)
  image_by (outcome.Stopped commits) cause e text = absurd (differ status.Stopped status.Script (λ x. omega (arith, x)) e)
  image_by (outcome.Done s) cause e text = absurd (differ status.Done status.Script (λ x. omega (arith, x)) e)
  image_by (outcome.Recovery end) cause e text = misread_end end cause e text
  image_by (outcome.Migration end) cause e text = absurd (migrate_is_no_recover cause.stop wanted call.words words cause.read.words)

  unsound_by : (o : Outcome) → IsCauseOf o call → status_of o ≡ status.Unsound → HasTold w (text_of o) → IsUnsoundImage wanted call w
  unfolding code
  unsound_by (outcome.Wrong wrong) cause e text = absurd (differ status.Script status.Unsound (λ x. omega (arith, x)) e)
  unsound_by outcome.Usage cause e text = absurd (differ status.Usage status.Unsound (λ x. omega (arith, x)) e)
  unsound_by outcome.ReadFault cause e text = absurd (differ status.ReadFault status.Unsound (λ x. omega (arith, x)) e)
  unsound_by outcome.TooLong cause e text = absurd (differ status.TooLong status.Unsound (λ x. omega (arith, x)) e)
  unsound_by outcome.NoMemory cause e text = absurd (differ status.NoMemory status.Unsound (λ x. omega (arith, x)) e)
  unsound_by (outcome.Stopped commits) cause e text = absurd (differ status.Stopped status.Unsound (λ x. omega (arith, x)) e)
  unsound_by (outcome.Done s) cause e text = absurd (differ status.Done status.Unsound (λ x. omega (arith, x)) e)
  unsound_by (outcome.Recovery end) cause e text = unsound_end end cause e text
  unsound_by (outcome.Migration end) cause e text = absurd (migrate_is_no_recover cause.stop wanted call.words words cause.read.words)

pub no_image_text : (call : Call) (answer : Status) (w : Written) → HasRun call answer w → answer ≡ status.Script → (wanted : Wanted) → AreWordsOf (job.Recover wanted) call.words
    → IsNoImageText call w
unfolding code
no_image_text call answer w run is wanted words =
    let t = told call answer w run status.Script (λ x. omega (arith, x)) (λ x. omega (arith, x)) is in
    image_by call w wanted words run.outcome run.cause t.0 t.1

pub unsound_image : (call : Call) (answer : Status) (w : Written) → HasRun call answer w → answer ≡ status.Unsound → (wanted : Wanted) → AreWordsOf (job.Recover wanted) call.words
    → IsUnsoundImage wanted call w
unfolding code
unsound_image call answer w run is wanted words =
    let t = told call answer w run status.Unsound (λ x. omega (arith, x)) (λ x. omega (arith, x)) is in
    unsound_by call w wanted words run.outcome run.cause t.0 t.1

-- ---- what a recovery leaves

-- one of the statuses that a recovery ends with
abbrev pub IsOver : Status → Type 0
IsOver s = (s ≡ status.Done) ⊎ (s ≡ status.Stopped) ⊎ (s ≡ status.Unsound)

over_is : (s : Status) → IsOver s → (code s ≡ 0) ⊎ ((code s ≡ 9) ⊎ (code s ≡ 7))
unfolding code
over_is s (inl e) = inl (ap code e)
over_is s (inr (inl e)) = inr (inl (ap code e))
over_is s (inr (inr e)) = inr (inr (ap code e))

pub not_over : (s : Status) → IsOver s → code s ≢ 0 → code s ≢ 9 → code s ≢ 7 → ⊥
not_over s over a b c = by_code (over_is s over)
  where
    by_code : (code s ≡ 0) ⊎ ((code s ≡ 9) ⊎ (code s ≡ 7)) → ⊥
    by_code (inl e) = a e
    by_code (inr (inl e)) = b e
    by_code (inr (inr e)) = c e

module _ (call : Call) (wanted : Wanted) (bytes : List ℕ) (i : Image) (words : AreWordsOf (job.Recover wanted) call.words) (tells : call.left ≡ Some bytes) (says : IsTextOf bytes i) (admitted : IsAdmitted i) where
  again_by : (o : Outcome) → IsCauseOf o call → IsOver (status_of o) → EachRecoversAs i call.region_after
  unfolding code
  again_by outcome.Usage cause over = absurd (not_over status.Usage over (λ x. omega (arith, x)) (λ x. omega (arith, x)) (λ x. omega (arith, x)))
  again_by outcome.ReadFault cause over = absurd (not_over status.ReadFault over (λ x. omega (arith, x)) (λ x. omega (arith, x)) (λ x. omega (arith, x)))
  again_by outcome.TooLong cause over = absurd (not_over status.TooLong over (λ x. omega (arith, x)) (λ x. omega (arith, x)) (λ x. omega (arith, x)))
  again_by (outcome.Wrong wrong) cause over = absurd (recover_is_no_run wanted call.words cause.read.words words)
  again_by outcome.NoMemory cause over = absurd (not_over status.NoMemory over (λ x. omega (arith, x)) (λ x. omega (arith, x)) (λ x. omega (arith, x)))
  again_by (outcome.Stopped commits) cause over = absurd (recover_is_no_run wanted call.words cause.read.words words)
  again_by (outcome.Done s) cause over = absurd (recover_is_no_run wanted call.words cause.read.words words)
  again_by (outcome.Recovery end) cause over =
      let text : bytes ≡ cause.text = took_all_is call.left call.left_after bytes cause.text tells cause.read.input in
      leaves_again cause.wanted cause.text call.region call.region_after call.counts call.counts_after end cause.end_is i
      (subst (λ (t : List ℕ). IsTextOf t i) text says) admitted
      (λ short. not_over (status_of_end ended.NoMemory) (subst (λ (x : Ended). IsOver (status_of_end x)) short over) (λ x. omega (arith, x)) (λ x. omega (arith, x)) (λ x. omega (arith, x)))
  again_by (outcome.Migration end) cause over = absurd (migrate_is_no_recover cause.stop wanted call.words words cause.read.words)

pub recovered_again : (call : Call) (answer : Status) (w : Written) → HasRun call answer w → (wanted : Wanted) (bytes : List ℕ) (i : Image) → AreWordsOf (job.Recover wanted) call.words
    → call.left ≡ Some bytes → IsTextOf bytes i → IsAdmitted i → IsOver answer → EachRecoversAs i call.region_after
unfolding code
recovered_again call answer w run wanted bytes i words tells says admitted over = by_told run.told
  where
    by_told : IsAnswerTo run.outcome answer w → EachRecoversAs i call.region_after
    by_told (inl full) = again_by call wanted bytes i words tells says admitted run.outcome run.cause (subst IsOver full.status over)
    by_told (inr (inl cut)) = absurd (not_over status.WriteFault (subst IsOver cut.status over) (λ x. omega (arith, x)) (λ x. omega (arith, x)) (λ x. omega (arith, x)))
    by_told (inr (inr untold)) = absurd (not_over status.NoMemory (subst IsOver untold.status over) (λ x. omega (arith, x)) (λ x. omega (arith, x)) (λ x. omega (arith, x)))
