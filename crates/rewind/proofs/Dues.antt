-- The status of a call that recovers.
use Rattle.std.proofs.Common.{◌≡◌, ◌≢◌, ◌⊎◌, inl, inr, ℕ, ◌+◌, ◌-◌, ◌<◌, ◌≤◌, ◌^◌, List, ◌++◌, length, refl, sym, ◌∙◌, ap, subst, arith, codes, slice_index, if◌then◌else◌, Option, Some, None}
use Rattle.std.proofs.lemmas.Bool.{lt-ltb, le-ltb}
use Rattle.rewind.specs.Served.{script as script_of_text}
use Rattle.rewind.specs.Events.{with_events, has_stopped}
use Rattle.std.proofs.lemmas.List.{length-append}
use Rattle.persist_model.specs.ImageRules.{rule_number}
use Rattle.persist_model.specs.Region.{Words, Region}
use Rattle.persist_model.specs.Shape.{shape_of, heap}
use Rattle.lane_traits.specs.Device.{Counts, since_load}
use Rattle.lane_traits.specs.Stream.{HasRisen}
use Rattle.image_text.specs.declared.image.Image.{Image}
use Rattle.image_text.specs.Grammar.{IsTextOf}
use Rattle.recovery_passes.specs.Recovered.{IsFinished}
use Rattle.image_runner.specs.declared.runner.Wanted.{Wanted}
use Rattle.image_runner.specs.declared.runner.Wanted.TheVariants as want
use Rattle.image_runner.specs.declared.migrating.Stop.{Stop}
use Rattle.image_runner.specs.declared.runner.Ended.{Ended}
use Rattle.image_runner.specs.declared.runner.Ended.TheVariants as ended
use Rattle.image_runner.specs.Maps.{AreMaps}
use Rattle.image_runner.specs.Ends.{words_of, AreStanding, IsHalted, IsTold, IsEndOf, WasRecovered, IsShort, unloaded, unmade as unmade_there, behind}
use Rattle.image_runner.proofs.MapSteps.{are_maps}
use Rattle.image_runner.proofs.Bounds.{not_many}
use Rattle.rewind.specs.declared.status.Status.{Status}
use Rattle.rewind.specs.declared.status.Status.TheVariants as status
use Rattle.rewind.specs.declared.words.Job.{Job}
use Rattle.rewind.specs.declared.words.Job.TheVariants as job
use Rattle.rewind.specs.declared.replay.Outcome.{Outcome}
use Rattle.rewind.specs.declared.replay.Outcome.TheVariants as outcome
use Rattle.rewind.specs.Words.{AreRun, AreWordsOf, AreKnown, SCRIPT_LIMIT, IMAGE_LIMIT, limit_of}
use Rattle.rewind.specs.Call.{Call, Took, TookAll, HasReadFor, HasRecovered, IsCauseOf, IsAnswerTo, Written, HasRun, status_of, status_of_end, IsUntouched, IsExhausted, unread, unmade}
use Rattle.rewind.specs.Due.{due, due_of_script, IsDue, long, misread, refused, broken, reported, imaged}
use Rattle.rewind.proofs.Inputs.{one_word}
use Rattle.rewind.proofs.Recoveries.{refused_due, misread_due, broken_due, done_due, halted_rose, ok_same}

-- ---- each word has its length

other_words : (a b : List ℕ) → a ≡ b → length a ≢ length b → ⊥
other_words a b same apart = apart (ap length same)

-- the words of a recovery are those of no other job
pub recover_is_no_run : (wanted : Wanted) (words : List (List ℕ)) → AreRun words → AreWordsOf (job.Recover wanted) words → ⊥
recover_is_no_run want.Report words run recover = other_words (codes "run") (codes "recover") (one_word (codes "run") (codes "recover") (sym run ∙ recover)) (λ e. omega (arith, e))
recover_is_no_run want.Image words run recover =
    let e = ap (λ (ws : List (List ℕ)). length ws) (sym run ∙ recover) in absurd (omega (arith, e))

-- nor are those of a migration
pub migrate_is_no_run : (stop : Option Stop) (words : List (List ℕ)) → AreRun words → AreWordsOf (job.Migrate stop) words → ⊥
migrate_is_no_run None words run migrate = other_words (codes "run") (codes "migrate") (one_word (codes "run") (codes "migrate") (sym run ∙ migrate)) (λ e. omega (arith, e))
migrate_is_no_run (Some stop) words run migrate =
    let e = ap (λ (ws : List (List ℕ)). length ws) (sym run ∙ migrate.2) in absurd (omega (arith, e))

pub migrate_is_no_recover : (stop : Option Stop) (wanted : Wanted) (words : List (List ℕ)) → AreWordsOf (job.Recover wanted) words → AreWordsOf (job.Migrate stop) words → ⊥
migrate_is_no_recover None want.Report words recover migrate =
    let e = ap (λ (word : List ℕ). slice_index word 0) (one_word (codes "recover") (codes "migrate") (sym recover ∙ migrate)) in absurd (omega (arith, e))
migrate_is_no_recover None want.Image words recover migrate =
    let e = ap (λ (ws : List (List ℕ)). length ws) (sym recover ∙ migrate) in absurd (omega (arith, e))
migrate_is_no_recover (Some stop) want.Report words recover migrate =
    let e = ap (λ (ws : List (List ℕ)). length ws) (sym recover ∙ migrate.2) in absurd (omega (arith, e))
migrate_is_no_recover (Some stop) want.Image words recover migrate =
    let e = ap (λ (ws : List (List ℕ)). length ws) (sym recover ∙ migrate.2) in absurd (omega (arith, e))

pub same_wanted : (wanted wanted' : Wanted) (words : List (List ℕ)) → AreWordsOf (job.Recover wanted) words → AreWordsOf (job.Recover wanted') words → wanted ≡ wanted'
same_wanted want.Report want.Report words here there = refl
same_wanted want.Image want.Image words here there = refl
same_wanted want.Report want.Image words here there =
    let e = ap (λ (ws : List (List ℕ)). length ws) (sym here ∙ there) in absurd (omega (arith, e))
same_wanted want.Image want.Report words here there =
    let e = ap (λ (ws : List (List ℕ)). length ws) (sym here ∙ there) in absurd (omega (arith, e))

-- ---- the status of an end

abbrev pub IsDueOrShort : Status → Status → Type 0
IsDueOrShort answer due = (answer ≡ due) ⊎ (answer ≡ status.NoMemory)

module _ (wanted : Wanted) (text : List ℕ) (region region' : Region) (counts counts' : Counts) (short : length text ≤ IMAGE_LIMIT) (unstopped : HasRisen counts.stopped counts'.stopped → ⊥) where
  told_maps : (i : Image) (events : ℕ) (bytes : List ℕ) (w : Wanted) → IsTold w i events region' bytes → w ≡ want.Report → (z : Words) → AreStanding (words_of i) z
      → AreMaps (heap (shape_of (words_of i))) z i.kinds
  told_maps i events bytes want.Report told is z standing = are_maps (heap (shape_of (words_of i))) z 0 i.kinds told.report.maps (told.maps z standing)
  told_maps i events bytes want.Image told is z standing = absurd (cc)

  pub end_due : (end : Ended) (due : Status) → IsEndOf wanted text region counts region' counts' end → IsDue wanted text due → IsDueOrShort (status_of_end end) due
  end_due (ended.Misread line) due h d = misread_due wanted text short line due h.0 d
  end_due (ended.Unsound found) due h d = refused_due wanted text short h.0 (rule_number found.rule) found.address due h.1 h.2.0 d
  end_due ended.Stopped due h d = absurd (unstopped (halted_rose h.0 region' counts counts' h.2))
  end_due (ended.Broken root) due h d = broken_due wanted text short h.0 root due h.1 h.2.report h.2.broken d
  end_due ended.NoMemory due h d = inr refl
  end_due (ended.Done bytes) due h d =
      done_due wanted text short h.0 due h.1 h.2.recovery.admitted
      (told_maps h.0 h.2.recovery.events bytes wanted h.2.told) d

-- ---- the status of a call

pub took_all_is : (left left' : Option (List ℕ)) (bytes text : List ℕ) → left ≡ Some bytes → TookAll left text left' → bytes ≡ text
took_all_is None left' bytes text tells took = absurd (cc)
took_all_is (Some xs) left' bytes text tells took = (let e : xs ≡ bytes = cc in sym e ∙ took.0)

pub took_long : (left left' : Option (List ℕ)) (bytes text : List ℕ) (n : ℕ) → left ≡ Some bytes → Took left text left' → n < length text → n < length bytes
took_long None left' bytes text n tells took more = absurd (cc)
took_long (Some xs) left' bytes text n tells took more =
    let e : xs ≡ bytes = cc in
    let whole : length xs ≡ length (text ++ took.0) = ap length took.1 in
    let same : length xs ≡ length bytes = ap length e in
    omega (arith, whole, same, length-append text took.0)

module _ (wanted : Wanted) (call : Call) (bytes : List ℕ) (words : AreWordsOf (job.Recover wanted) call.words) (tells : call.left ≡ Some bytes)
    (read_well : HasRisen call.faults call.faults_after → ⊥) (unstopped : HasRisen call.counts.stopped call.counts_after.stopped → ⊥) where
  limit_is : (j : Job) → AreWordsOf j call.words → limit_of j ≡ IMAGE_LIMIT
  limit_is job.Run run = absurd (recover_is_no_run wanted call.words run words)
  limit_is (job.Recover w) here = refl
  limit_is (job.Migrate stop) here = refl

  long_due : (due : Status) → IMAGE_LIMIT < length bytes → IsDue wanted bytes due → IsDueOrShort status.TooLong due
  long_due due more (long m is) = inl (sym is)
  long_due due more (misread less line e is) = absurd (omega (arith, more, less))
  long_due due more (refused less j there f b k is) = absurd (omega (arith, more, less))
  long_due due more (broken less j there k r z standing b first is) = absurd (omega (arith, more, less))
  long_due due more (reported less j there k z standing maps is) = absurd (omega (arith, more, less))
  long_due due more (imaged less j there k m is) = absurd (omega (arith, more, less))

  recovered_due : (end : Ended) (due : Status) → HasRecovered call end → IsDue wanted bytes due → IsDueOrShort (status_of_end end) due
  recovered_due end due h d =
      let text : bytes ≡ h.text = took_all_is call.left call.left_after bytes h.text tells h.read.input in
      let same : h.wanted ≡ wanted = same_wanted h.wanted wanted call.words h.read.words words in
      end_due wanted h.text call.region call.region_after call.counts call.counts_after h.read.short unstopped end due
      (subst (λ (w : Wanted). IsEndOf w h.text call.region call.counts call.region_after call.counts_after end) same h.end_is)
      (subst (λ (t : List ℕ). IsDue wanted t due) text d)

  outcome_due : (o : Outcome) (due : Status) → IsCauseOf o call → IsDue wanted bytes due → IsDueOrShort (status_of o) due
  outcome_due outcome.Usage due cause d = absurd (cause.words (job.Recover wanted, words))
  outcome_due outcome.ReadFault due cause d = absurd (read_well cause.rose)
  outcome_due outcome.TooLong due cause d =
      let limit = limit_is cause.job cause.words in
      long_due due (took_long call.left call.left_after bytes cause.text IMAGE_LIMIT tells cause.took (subst (λ n. n < length cause.text) limit cause.long)) d
  outcome_due (outcome.Wrong wrong) due cause d = absurd (recover_is_no_run wanted call.words cause.read.words words)
  outcome_due outcome.NoMemory due cause d = inr refl
  outcome_due (outcome.Stopped commits) due cause d = absurd (recover_is_no_run wanted call.words cause.read.words words)
  outcome_due (outcome.Done s) due cause d = absurd (recover_is_no_run wanted call.words cause.read.words words)
  outcome_due (outcome.Recovery end) due cause d = recovered_due end due cause d
  outcome_due (outcome.Migration end) due cause d = absurd (migrate_is_no_recover cause.stop wanted call.words words cause.read.words)

  pub recover_due : (answer due : Status) (w : Written) → (HasRisen w.faults w.faults_after → ⊥) → HasRun call answer w → IsDue wanted bytes due → IsDueOrShort answer due
  recover_due answer due w unfaulted run d = by_told run.told
    where
      by_told : IsAnswerTo run.outcome answer w → IsDueOrShort answer due
      by_told (inl full) = subst (λ (s : Status). IsDueOrShort s due) (sym full.status) (outcome_due run.outcome due run.cause d)
      by_told (inr (inl cut)) = absurd (unfaulted cut.rose)
      by_told (inr (inr untold)) = inr untold.status

-- ---- the status of a run

misused_outcome : (call : Call) (o : Outcome) → (AreKnown call.words → ⊥) → IsCauseOf o call → (status_of o ≡ status.Usage) ⊎ (status_of o ≡ status.NoMemory)
misused_outcome call outcome.Usage unknown cause = inl refl
misused_outcome call outcome.ReadFault unknown cause = absurd (unknown (cause.job, cause.words))
misused_outcome call outcome.TooLong unknown cause = absurd (unknown (cause.job, cause.words))
misused_outcome call (outcome.Wrong wrong) unknown cause = absurd (unknown (job.Run, cause.read.words))
misused_outcome call outcome.NoMemory unknown cause = inr refl
misused_outcome call (outcome.Stopped commits) unknown cause = absurd (unknown (job.Run, cause.read.words))
misused_outcome call (outcome.Done s) unknown cause = absurd (unknown (job.Run, cause.read.words))
misused_outcome call (outcome.Recovery end) unknown cause = absurd (unknown (job.Recover cause.wanted, cause.read.words))
misused_outcome call (outcome.Migration end) unknown cause = absurd (unknown (job.Migrate cause.stop, cause.read.words))

pub misused : (call : Call) (answer : Status) (w : Written) → (AreKnown call.words → ⊥) → (HasRisen w.faults w.faults_after → ⊥) → HasRun call answer w
    → (answer ≡ status.Usage) ⊎ (answer ≡ status.NoMemory)
misused call answer w unknown unfaulted run = by_told run.told
  where
    by_told : IsAnswerTo run.outcome answer w → (answer ≡ status.Usage) ⊎ (answer ≡ status.NoMemory)
    by_told (inl full) = subst (λ (s : Status). (s ≡ status.Usage) ⊎ (s ≡ status.NoMemory)) (sym full.status) (misused_outcome call run.outcome unknown run.cause)
    by_told (inr (inl cut)) = absurd (unfaulted cut.rose)
    by_told (inr (inr untold)) = inr untold.status

module _ (call : Call) (bytes : List ℕ) (words : AreRun call.words) (tells : call.left ≡ Some bytes)
    (read_well : HasRisen call.faults call.faults_after → ⊥) (unstopped : HasRisen call.counts.stopped call.counts_after.stopped → ⊥) where
  run_limit : (j : Job) → AreWordsOf j call.words → limit_of j ≡ SCRIPT_LIMIT
  run_limit job.Run here = refl
  run_limit (job.Recover w) there = absurd (recover_is_no_run w call.words words there)
  run_limit (job.Migrate stop) there = absurd (migrate_is_no_run stop call.words words there)

  due_long : SCRIPT_LIMIT < length bytes → status.TooLong ≡ due bytes
  due_long more = sym (ap (λ b. if b then status.TooLong else due_of_script (script_of_text bytes)) (lt-ltb SCRIPT_LIMIT (length bytes) more))

  due_short : length bytes ≤ SCRIPT_LIMIT → (s : Status) → s ≡ due_of_script (script_of_text bytes) → s ≡ due bytes
  due_short less s is = is ∙ sym (ap (λ b. if b then status.TooLong else due_of_script (script_of_text bytes)) (le-ltb SCRIPT_LIMIT (length bytes) less))

  due_read : (text : List ℕ) (read : HasReadFor job.Run call text) (s : Status) → s ≡ due_of_script (script_of_text text) → s ≡ due bytes
  due_read text read s is =
      let same : bytes ≡ text = took_all_is call.left call.left_after bytes text tells read.input in
      due_short (let short = read.short in let e = ap length same in omega (arith, short, e)) s (is ∙ ap (λ (t : List ℕ). due_of_script (script_of_text t)) (sym same))

  stopped_rose : (n : ℕ) → call.counts_after ≡ has_stopped (with_events n (since_load call.counts)) → HasRisen call.counts.stopped call.counts_after.stopped
  stopped_rose n is = let e = ap (λ (c : Counts). c.stopped) is in omega (arith, e)

  run_outcome : (o : Outcome) → IsCauseOf o call → IsDueOrShort (status_of o) (due bytes)
  run_outcome outcome.Usage cause = absurd (cause.words (job.Run, words))
  run_outcome outcome.ReadFault cause = absurd (read_well cause.rose)
  run_outcome outcome.TooLong cause =
      let limit = run_limit cause.job cause.words in
      inl (due_long (took_long call.left call.left_after bytes cause.text SCRIPT_LIMIT tells cause.took (subst (λ n. n < length cause.text) limit cause.long)))
  run_outcome (outcome.Wrong wrong) cause = inl (due_read cause.text cause.read status.Script (sym (ap due_of_script cause.misformed)))
  run_outcome outcome.NoMemory cause = inr refl
  run_outcome (outcome.Stopped commits) cause = absurd (unstopped (stopped_rose cause.run.made cause.run.counted))
  run_outcome (outcome.Done s) cause = inl (due_read cause.text cause.read status.Done (sym (ap due_of_script cause.says)))
  run_outcome (outcome.Recovery end) cause = absurd (recover_is_no_run cause.wanted call.words words cause.read.words)
  run_outcome (outcome.Migration end) cause = absurd (migrate_is_no_run cause.stop call.words words cause.read.words)

  pub run_due : (answer : Status) (w : Written) → (HasRisen w.faults w.faults_after → ⊥) → HasRun call answer w → IsDueOrShort answer (due bytes)
  run_due answer w unfaulted run = by_told run.told
    where
      by_told : IsAnswerTo run.outcome answer w → IsDueOrShort answer (due bytes)
      by_told (inl full) = subst (λ (s : Status). IsDueOrShort s (due bytes)) (sym full.status) (run_outcome run.outcome run.cause)
      by_told (inr (inl cut)) = absurd (unfaulted cut.rose)
      by_told (inr (inr untold)) = inr untold.status

-- ---- a recovery isn't stopped where the device has events enough

module _ (wanted : Wanted) (call : Call) (words : AreWordsOf (job.Recover wanted) call.words) (room : call.counts.events + 2 ^ 22 ≤ call.counts.budget) where
  halted_never : (i : Image) → IsHalted i call.counts call.region_after call.counts_after → ⊥
  halted_never i h =
      let n : ℕ = call.counts.budget - call.counts.events in
      not_many (length i.words) (words_of i) h.admitted.sound (call.counts.budget - call.counts.events + 1) (h.early (call.counts.budget - call.counts.events) (omega (arith, room))) (omega (arith, room))

  end_goes_on : (w : Wanted) (text : List ℕ) (end : Ended) → IsEndOf w text call.region call.counts call.region_after call.counts_after end → status_of_end end ≡ status.Stopped → ⊥
  end_goes_on w text (ended.Misread line) h e = cc
  end_goes_on w text (ended.Unsound found) h e = cc
  end_goes_on w text ended.Stopped h e = halted_never h.0 h.2
  end_goes_on w text (ended.Broken root) h e = cc
  end_goes_on w text ended.NoMemory h e = cc
  end_goes_on w text (ended.Done bytes) h e = cc

  goes_on : (o : Outcome) → IsCauseOf o call → status_of o ≡ status.Stopped → ⊥
  goes_on outcome.Usage cause e = cc
  goes_on outcome.ReadFault cause e = cc
  goes_on outcome.TooLong cause e = cc
  goes_on (outcome.Wrong wrong) cause e = cc
  goes_on outcome.NoMemory cause e = cc
  goes_on (outcome.Stopped commits) cause e = recover_is_no_run wanted call.words cause.read.words words
  goes_on (outcome.Done s) cause e = cc
  goes_on (outcome.Recovery end) cause e = end_goes_on cause.wanted cause.text end cause.end_is e
  goes_on (outcome.Migration end) cause e = migrate_is_no_recover cause.stop wanted call.words words cause.read.words

  pub never_stopped : (answer : Status) (w : Written) → HasRun call answer w → answer ≡ status.Stopped → ⊥
  never_stopped answer w run e = by_told run.told
    where
      by_told : IsAnswerTo run.outcome answer w → ⊥
      by_told (inl full) = goes_on run.outcome run.cause (sym full.status ∙ e)
      by_told (inr (inl cut)) = let x : ◌≡◌ {A = Status} status.WriteFault status.Stopped = sym cut.status ∙ e in cc
      by_told (inr (inr untold)) = let x : ◌≡◌ {A = Status} status.NoMemory status.Stopped = sym untold.status ∙ e in cc

-- ---- an image that a recovery left wants no event

module _ (wanted : Wanted) (call : Call) (bytes : List ℕ) (i : Image) (words : AreWordsOf (job.Recover wanted) call.words) (tells : call.left ≡ Some bytes)
    (is : IsTextOf bytes i) (finished : IsFinished (length i.words) (words_of i)) where
  finished_there : (j : Image) → i ≡ j → IsFinished (length j.words) (words_of j)
  finished_there j this = subst (λ (x : Image). IsFinished (length x.words) (words_of x)) this finished

  recovered_rests : (j : Image) → i ≡ j → WasRecovered j call.counts call.region_after call.counts_after → call.counts_after.events ≡ call.counts.events
  recovered_rests j this h =
      let none = h.made.again (finished_there j this) in
      let counted_is = ap (λ (c : Counts). c.events) h.made.counted in
      omega (arith, none, counted_is)

  short_rests : (j : Image) → i ≡ j → IsShort j call.region call.counts call.region_after call.counts_after → call.counts_after.events ≡ call.counts.events
  short_rests j this (unloaded region counts) = ap (λ (c : Counts). c.events) counts
  short_rests j this (unmade_there h) = ap (λ (c : Counts). c.events) h.unmade
  short_rests j this (behind h) = recovered_rests j this h

  here_is : (text : List ℕ) (j : Image) → bytes ≡ text → IsTextOf text j → i ≡ j
  here_is text j same there = ok_same bytes i j is (subst (λ (t : List ℕ). IsTextOf t j) (sym same) there)

  end_rests : (w : Wanted) (text : List ℕ) (end : Ended) → bytes ≡ text → IsEndOf w text call.region call.counts call.region_after call.counts_after end
      → call.counts_after.events ≡ call.counts.events
  end_rests w text (ended.Misread line) same h = ap (λ (c : Counts). c.events) h.2
  end_rests w text (ended.Unsound found) same h = ap (λ (c : Counts). c.events) h.2.1.unmade
  end_rests w text ended.Stopped same h = absurd (h.2.unfinished (finished_there h.0 (here_is text h.0 same h.1)))
  end_rests w text (ended.Broken root) same h = recovered_rests h.0 (here_is text h.0 same h.1) h.2.recovery
  end_rests w text ended.NoMemory same (inl h) = ap (λ (c : Counts). c.events) h.1
  end_rests w text ended.NoMemory same (inr h) = short_rests h.0 (here_is text h.0 same h.1) h.2
  end_rests w text (ended.Done out) same h = recovered_rests h.0 (here_is text h.0 same h.1) h.2.recovery

  untouched_rests : IsUntouched call → call.counts_after.events ≡ call.counts.events
  untouched_rests h = ap (λ (c : Counts). c.events) h.counts

  short_of_memory : IsExhausted call → call.counts_after.events ≡ call.counts.events
  short_of_memory (unread known untouched) = untouched_rests untouched
  short_of_memory (unmade run none) = absurd (recover_is_no_run wanted call.words run words)

  rests : (o : Outcome) → IsCauseOf o call → call.counts_after.events ≡ call.counts.events
  rests outcome.Usage cause = untouched_rests cause.untouched
  rests outcome.ReadFault cause = untouched_rests cause.untouched
  rests outcome.TooLong cause = untouched_rests cause.untouched
  rests (outcome.Wrong wrong) cause = untouched_rests cause.untouched
  rests outcome.NoMemory cause = short_of_memory cause
  rests (outcome.Stopped commits) cause = absurd (recover_is_no_run wanted call.words cause.read.words words)
  rests (outcome.Done s) cause = absurd (recover_is_no_run wanted call.words cause.read.words words)
  rests (outcome.Recovery end) cause =
      end_rests cause.wanted cause.text end (took_all_is call.left call.left_after bytes cause.text tells cause.read.input) cause.end_is
  rests (outcome.Migration end) cause = absurd (migrate_is_no_recover cause.stop wanted call.words words cause.read.words)

  pub wants_none : (answer : Status) (w : Written) → HasRun call answer w → call.counts_after.events ≡ call.counts.events
  wants_none answer w run = rests run.outcome run.cause
