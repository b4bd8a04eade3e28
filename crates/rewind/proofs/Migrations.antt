-- What a migration says of the status.
use Rattle.std.proofs.Common.{◌≡◌, inl, inr, ℕ, ◌+◌, ◌-◌, ◌<◌, ◌≤◌, ◌^◌, List, length, refl, sym, ◌∙◌, ap, subst, arith, Option, Some, None}
use Rattle.persist_model.specs.ImageRules.{rule_number}
use Rattle.persist_model.specs.Region.{Region}
use Rattle.persist_model.specs.Shape.{SECOND_MAGIC}
use Rattle.lane_traits.specs.Device.{Counts, since_load}
use Rattle.lane_traits.specs.Stream.{HasRisen}
use Rattle.image_text.specs.declared.image.Image.{Image}
use Rattle.image_text.specs.Grammar.{IsTextOf}
use Rattle.recovery_passes.specs.Recovered.{IsFinished}
use Rattle.migration.specs.Owed.{EachMigratesAs}
use Rattle.image_runner.specs.declared.runner.Wanted.TheVariants as want
use Rattle.image_runner.specs.declared.migrating.Stop.{Stop}
use Rattle.image_runner.specs.declared.runner.Ended.{Ended}
use Rattle.image_runner.specs.declared.runner.Ended.TheVariants as ended
use Rattle.image_runner.specs.Ends.{words_of, IsAdmitted, IsRefusedBy}
use Rattle.image_runner.specs.Migrations.{IsBrought, IsWritten, WasBrokenOff, IsShortOf, unloaded, unmade as unmade_there, behind, IsMigrationOf}
use Rattle.image_runner.proofs.Cuts.{no_own}
use Rattle.image_runner.proofs.Bounds.{not_many_in_all}
use Rattle.image_runner.proofs.Excluding.{refused_admitted, report_image}
use Rattle.rewind.specs.declared.status.Status.{Status}
use Rattle.rewind.specs.declared.status.Status.TheVariants as status
use Rattle.rewind.specs.declared.words.Job.{Job}
use Rattle.rewind.specs.declared.words.Job.TheVariants as job
use Rattle.rewind.specs.declared.replay.Outcome.{Outcome}
use Rattle.rewind.specs.declared.replay.Outcome.TheVariants as outcome
use Rattle.rewind.specs.Words.{AreWordsOf, IMAGE_LIMIT, limit_of}
use Rattle.rewind.specs.Call.{Call, HasMigrated, IsCauseOf, IsAnswerTo, Written, HasTold, HasRun, status_of, status_of_end, text_of, IsUntouched, IsExhausted, unread, unmade}
use Rattle.rewind.specs.Causes.{IsNoImageText, IsUnsoundImage, refused as refused_cause, HasMigratedTo}
use Rattle.rewind.specs.Due.{IsDue}
use Rattle.rewind.proofs.Stops.{same_stop}
use Rattle.rewind.proofs.Recoveries.{refused_due, misread_due, done_due, ok_same}
use Rattle.rewind.proofs.Dues.{IsDueOrShort, migrate_is_no_run, migrate_is_no_recover, took_all_is, took_long}
use Rattle.rewind.proofs.DueLaws.{long_one}
use Rattle.rewind.proofs.Causes.{code, differ, told, IsOver, not_over}

pub brought_admitted : (stop : Option Stop) (i : Image) (counts : Counts) (region : Region) (counts' : Counts) → IsBrought stop i counts region counts' → IsAdmitted i
brought_admitted None i counts region counts' h = h.admitted
brought_admitted (Some stop) i counts region counts' h = h.before.admitted

brought_each : (stop : Option Stop) (i : Image) (counts : Counts) (region : Region) (counts' : Counts) → IsBrought stop i counts region counts' → EachMigratesAs i.kinds (words_of i) region
brought_each None i counts region counts' h = h.migrated.each
brought_each (Some stop) i counts region counts' h = h.each

-- ---- the status of an end

module _ (stop : Option Stop) (text : List ℕ) (region region' : Region) (counts counts' : Counts) (short : length text ≤ IMAGE_LIMIT) (unstopped : HasRisen counts.stopped counts'.stopped → ⊥) where
  end_due : (end : Ended) (due : Status) → IsMigrationOf stop text region counts region' counts' end → IsDue want.Image text due → IsDueOrShort (status_of_end end) due
  end_due (ended.Misread line) due h d = misread_due want.Image text short line due h.0 d
  end_due (ended.Unsound found) due h d = refused_due want.Image text short h.0 (rule_number found.rule) found.address due h.1 h.2.0 d
  end_due ended.Stopped due h d = absurd (unstopped (let e = ap (λ (c : Counts). c.stopped) h.2.counted in omega (arith, e)))
  end_due (ended.Broken root) due h d = absurd h.2
  end_due ended.NoMemory due h d = inr refl
  end_due (ended.Done bytes) due h d =
      done_due want.Image text short h.0 due h.1 (brought_admitted stop h.0 counts region' counts' h.2.brought) (λ r z standing. absurd (report_image want.Image r (λ k. want.Image))) d

-- ---- the status of a call

module _ (stop : Option Stop) (call : Call) (bytes : List ℕ) (words : AreWordsOf (job.Migrate stop) call.words) (tells : call.left ≡ Some bytes)
    (read_well : HasRisen call.faults call.faults_after → ⊥) (unstopped : HasRisen call.counts.stopped call.counts_after.stopped → ⊥) where
  limit_is : (j : Job) → AreWordsOf j call.words → limit_of j ≡ IMAGE_LIMIT
  limit_is job.Run run = absurd (migrate_is_no_run stop call.words run words)
  limit_is (job.Recover w) here = refl
  limit_is (job.Migrate s) here = refl

  migrated_due : (end : Ended) (due : Status) → HasMigrated call end → IsDue want.Image bytes due → IsDueOrShort (status_of_end end) due
  migrated_due end due h d =
      let text : bytes ≡ h.text = took_all_is call.left call.left_after bytes h.text tells h.read.input in
      end_due h.stop h.text call.region call.region_after call.counts call.counts_after h.read.short unstopped end due h.end_is (subst (λ (t : List ℕ). IsDue want.Image t due) text d)

  outcome_due : (o : Outcome) (due : Status) → IsCauseOf o call → IsDue want.Image bytes due → IsDueOrShort (status_of o) due
  outcome_due outcome.Usage due cause d = absurd (cause.words (job.Migrate stop, words))
  outcome_due outcome.ReadFault due cause d = absurd (read_well cause.rose)
  outcome_due outcome.TooLong due cause d =
      let limit = limit_is cause.job cause.words in
      inl (long_one want.Image bytes due (took_long call.left call.left_after bytes cause.text IMAGE_LIMIT tells cause.took (subst (λ n. n < length cause.text) limit cause.long)) d)
  outcome_due (outcome.Wrong wrong) due cause d = absurd (migrate_is_no_run stop call.words cause.read.words words)
  outcome_due outcome.NoMemory due cause d = inr refl
  outcome_due (outcome.Stopped commits) due cause d = absurd (migrate_is_no_run stop call.words cause.read.words words)
  outcome_due (outcome.Done s) due cause d = absurd (migrate_is_no_run stop call.words cause.read.words words)
  outcome_due (outcome.Recovery end) due cause d = absurd (migrate_is_no_recover stop cause.wanted call.words cause.read.words words)
  outcome_due (outcome.Migration end) due cause d = migrated_due end due cause d

  pub migrate_due : (answer due : Status) (w : Written) → (HasRisen w.faults w.faults_after → ⊥) → HasRun call answer w → IsDue want.Image bytes due → IsDueOrShort answer due
  migrate_due answer due w unfaulted run d = by_told run.told
    where
      by_told : IsAnswerTo run.outcome answer w → IsDueOrShort answer due
      by_told (inl full) = subst (λ (s : Status). IsDueOrShort s due) (sym full.status) (outcome_due run.outcome due run.cause d)
      by_told (inr (inl cut)) = absurd (unfaulted cut.rose)
      by_told (inr (inr untold)) = inr untold.status

-- ---- what each status tells

module _ (call : Call) (w : Written) (stop : Option Stop) (words : AreWordsOf (job.Migrate stop) call.words) where
  misread_end : (end : Ended) → HasMigrated call end → status_of_end end ≡ status.Script → HasTold w (text_of (outcome.Migration end)) → IsNoImageText call w
  unfolding code
  misread_end (ended.Misread line) h e text = record { text = h.text; took = h.read.input; line = line; breaks = h.end_is.0; told = text }
  misread_end (ended.Unsound found) h e text = absurd (differ status.Unsound status.Script (λ x. omega (arith, x)) e)
  misread_end ended.Stopped h e text = absurd (differ status.Stopped status.Script (λ x. omega (arith, x)) e)
  misread_end (ended.Broken root) h e text = absurd (differ status.Unsound status.Script (λ x. omega (arith, x)) e)
  misread_end ended.NoMemory h e text = absurd (differ status.NoMemory status.Script (λ x. omega (arith, x)) e)
  misread_end (ended.Done out) h e text = absurd (differ status.Done status.Script (λ x. omega (arith, x)) e)

  unsound_end : (end : Ended) → HasMigrated call end → status_of_end end ≡ status.Unsound → HasTold w (text_of (outcome.Migration end)) → IsUnsoundImage want.Image call w
  unfolding code
  unsound_end (ended.Misread line) h e text = absurd (differ status.Script status.Unsound (λ x. omega (arith, x)) e)
  unsound_end (ended.Unsound found) h e text = refused_cause h.text h.read.input h.end_is.0 h.end_is.1 (rule_number found.rule) found.address h.end_is.2.0 text
  unsound_end ended.Stopped h e text = absurd (differ status.Stopped status.Unsound (λ x. omega (arith, x)) e)
  unsound_end (ended.Broken root) h e text = absurd h.end_is.2
  unsound_end ended.NoMemory h e text = absurd (differ status.NoMemory status.Unsound (λ x. omega (arith, x)) e)
  unsound_end (ended.Done out) h e text = absurd (differ status.Done status.Unsound (λ x. omega (arith, x)) e)

  image_by : (o : Outcome) → IsCauseOf o call → status_of o ≡ status.Script → HasTold w (text_of o) → IsNoImageText call w
  unfolding code
  image_by (outcome.Wrong wrong) cause e text = absurd (migrate_is_no_run stop call.words cause.read.words words)
  image_by outcome.Usage cause e text = absurd (differ status.Usage status.Script (λ x. omega (arith, x)) e)
  image_by outcome.ReadFault cause e text = absurd (differ status.ReadFault status.Script (λ x. omega (arith, x)) e)
  image_by outcome.TooLong cause e text = absurd (differ status.TooLong status.Script (λ x. omega (arith, x)) e)
  image_by outcome.NoMemory cause e text = absurd (differ status.NoMemory status.Script (λ x. omega (arith, x)) e)
  image_by (outcome.Stopped commits) cause e text = absurd (differ status.Stopped status.Script (λ x. omega (arith, x)) e)
  image_by (outcome.Done s) cause e text = absurd (differ status.Done status.Script (λ x. omega (arith, x)) e)
  image_by (outcome.Recovery end) cause e text = absurd (migrate_is_no_recover stop cause.wanted call.words cause.read.words words)
  image_by (outcome.Migration end) cause e text = misread_end end cause e text

  unsound_by : (o : Outcome) → IsCauseOf o call → status_of o ≡ status.Unsound → HasTold w (text_of o) → IsUnsoundImage want.Image call w
  unfolding code
  unsound_by (outcome.Wrong wrong) cause e text = absurd (differ status.Script status.Unsound (λ x. omega (arith, x)) e)
  unsound_by outcome.Usage cause e text = absurd (differ status.Usage status.Unsound (λ x. omega (arith, x)) e)
  unsound_by outcome.ReadFault cause e text = absurd (differ status.ReadFault status.Unsound (λ x. omega (arith, x)) e)
  unsound_by outcome.TooLong cause e text = absurd (differ status.TooLong status.Unsound (λ x. omega (arith, x)) e)
  unsound_by outcome.NoMemory cause e text = absurd (differ status.NoMemory status.Unsound (λ x. omega (arith, x)) e)
  unsound_by (outcome.Stopped commits) cause e text = absurd (differ status.Stopped status.Unsound (λ x. omega (arith, x)) e)
  unsound_by (outcome.Done s) cause e text = absurd (differ status.Done status.Unsound (λ x. omega (arith, x)) e)
  unsound_by (outcome.Recovery end) cause e text = absurd (migrate_is_no_recover stop cause.wanted call.words cause.read.words words)
  unsound_by (outcome.Migration end) cause e text = unsound_end end cause e text

  pub migrate_no_image_text : (answer : Status) → HasRun call answer w → answer ≡ status.Script → IsNoImageText call w
  unfolding code
  migrate_no_image_text answer run is =
      let t = told call answer w run status.Script (λ x. omega (arith, x)) (λ x. omega (arith, x)) is in
      image_by run.outcome run.cause t.0 t.1

  pub migrate_unsound : (answer : Status) → HasRun call answer w → answer ≡ status.Unsound → IsUnsoundImage want.Image call w
  unfolding code
  migrate_unsound answer run is =
      let t = told call answer w run status.Unsound (λ x. omega (arith, x)) (λ x. omega (arith, x)) is in
      unsound_by run.outcome run.cause t.0 t.1

-- ---- a migration isn't stopped where the device has events enough

module _ (stop : Option Stop) (call : Call) (words : AreWordsOf (job.Migrate stop) call.words) (room : call.counts.events + 2 ^ 22 ≤ call.counts.budget) where
  broken_off_never : (s : Option Stop) (i : Image) → WasBrokenOff s i call.counts call.region_after call.counts_after → ⊥
  broken_off_never s i h =
      not_many_in_all (length i.words) (words_of i) h.admitted.sound (call.counts.budget - call.counts.events + 1) (h.early (call.counts.budget - call.counts.events) (omega (arith, room))) (omega (arith, room))

  end_goes_on : (s : Option Stop) (text : List ℕ) (end : Ended) → IsMigrationOf s text call.region call.counts call.region_after call.counts_after end → status_of_end end ≡ status.Stopped → ⊥
  end_goes_on s text (ended.Misread line) h e = cc
  end_goes_on s text (ended.Unsound found) h e = cc
  end_goes_on s text ended.Stopped h e = broken_off_never s h.0 h.2
  end_goes_on s text (ended.Broken root) h e = cc
  end_goes_on s text ended.NoMemory h e = cc
  end_goes_on s text (ended.Done bytes) h e = cc

  goes_on : (o : Outcome) → IsCauseOf o call → status_of o ≡ status.Stopped → ⊥
  goes_on outcome.Usage cause e = cc
  goes_on outcome.ReadFault cause e = cc
  goes_on outcome.TooLong cause e = cc
  goes_on (outcome.Wrong wrong) cause e = cc
  goes_on outcome.NoMemory cause e = cc
  goes_on (outcome.Stopped commits) cause e = migrate_is_no_run stop call.words cause.read.words words
  goes_on (outcome.Done s) cause e = cc
  goes_on (outcome.Recovery end) cause e = migrate_is_no_recover stop cause.wanted call.words cause.read.words words
  goes_on (outcome.Migration end) cause e = end_goes_on cause.stop cause.text end cause.end_is e

  pub migrate_never_stopped : (answer : Status) (w : Written) → HasRun call answer w → answer ≡ status.Stopped → ⊥
  migrate_never_stopped answer w run e = by_told run.told
    where
      by_told : IsAnswerTo run.outcome answer w → ⊥
      by_told (inl full) = goes_on run.outcome run.cause (sym full.status ∙ e)
      by_told (inr (inl cut)) = let x : ◌≡◌ {A = Status} status.WriteFault status.Stopped = sym cut.status ∙ e in cc
      by_told (inr (inr untold)) = let x : ◌≡◌ {A = Status} status.NoMemory status.Stopped = sym untold.status ∙ e in cc

-- ---- what a migration leaves

module _ (stop : Option Stop) (call : Call) (bytes : List ℕ) (i : Image) (words : AreWordsOf (job.Migrate stop) call.words) (tells : call.left ≡ Some bytes) (says : IsTextOf bytes i) (admitted : IsAdmitted i) where
  here_is : (text : List ℕ) (j : Image) → bytes ≡ text → IsTextOf text j → j ≡ i
  here_is text j same there = ok_same bytes j i (subst (λ (t : List ℕ). IsTextOf t j) (sym same) there) says

  moved : (j : Image) → j ≡ i → EachMigratesAs j.kinds (words_of j) call.region_after → EachMigratesAs i.kinds (words_of i) call.region_after
  moved j same h = subst (λ (x : Image). EachMigratesAs x.kinds (words_of x) call.region_after) same h

  end_leaves : (s : Option Stop) (text : List ℕ) (end : Ended) → bytes ≡ text → IsMigrationOf s text call.region call.counts call.region_after call.counts_after end → IsOver (status_of_end end)
      → EachMigratesAs i.kinds (words_of i) call.region_after
  unfolding code
  end_leaves s text (ended.Misread line) same h over = absurd (not_over status.Script over (λ x. omega (arith, x)) (λ x. omega (arith, x)) (λ x. omega (arith, x)))
  end_leaves s text (ended.Unsound found) same h over =
      absurd (refused_admitted i (rule_number found.rule) found.address (subst (λ (x : Image). IsRefusedBy x (rule_number found.rule) found.address) (here_is text h.0 same h.1) h.2.0) admitted)
  end_leaves s text ended.Stopped same h over = moved h.0 (here_is text h.0 same h.1) h.2.each
  end_leaves s text (ended.Broken root) same h over = absurd h.2
  end_leaves s text ended.NoMemory same h over = absurd (not_over status.NoMemory over (λ x. omega (arith, x)) (λ x. omega (arith, x)) (λ x. omega (arith, x)))
  end_leaves s text (ended.Done out) same h over =
      moved h.0 (here_is text h.0 same h.1) (brought_each s h.0 call.counts call.region_after call.counts_after h.2.brought)

  leaves : (o : Outcome) → IsCauseOf o call → IsOver (status_of o) → EachMigratesAs i.kinds (words_of i) call.region_after
  unfolding code
  leaves outcome.Usage cause over = absurd (not_over status.Usage over (λ x. omega (arith, x)) (λ x. omega (arith, x)) (λ x. omega (arith, x)))
  leaves outcome.ReadFault cause over = absurd (not_over status.ReadFault over (λ x. omega (arith, x)) (λ x. omega (arith, x)) (λ x. omega (arith, x)))
  leaves outcome.TooLong cause over = absurd (not_over status.TooLong over (λ x. omega (arith, x)) (λ x. omega (arith, x)) (λ x. omega (arith, x)))
  leaves (outcome.Wrong wrong) cause over = absurd (migrate_is_no_run stop call.words cause.read.words words)
  leaves outcome.NoMemory cause over = absurd (not_over status.NoMemory over (λ x. omega (arith, x)) (λ x. omega (arith, x)) (λ x. omega (arith, x)))
  leaves (outcome.Stopped commits) cause over = absurd (migrate_is_no_run stop call.words cause.read.words words)
  leaves (outcome.Done s) cause over = absurd (migrate_is_no_run stop call.words cause.read.words words)
  leaves (outcome.Recovery end) cause over = absurd (migrate_is_no_recover stop cause.wanted call.words cause.read.words words)
  leaves (outcome.Migration end) cause over =
      end_leaves cause.stop cause.text end (took_all_is call.left call.left_after bytes cause.text tells cause.read.input) cause.end_is over

  pub migrated_in_place : (answer : Status) (w : Written) → HasRun call answer w → IsOver answer → EachMigratesAs i.kinds (words_of i) call.region_after
  unfolding code
  migrated_in_place answer w run over = by_told run.told
    where
      by_told : IsAnswerTo run.outcome answer w → EachMigratesAs i.kinds (words_of i) call.region_after
      by_told (inl full) = leaves run.outcome run.cause (subst IsOver full.status over)
      by_told (inr (inl cut)) = absurd (not_over status.WriteFault (subst IsOver cut.status over) (λ x. omega (arith, x)) (λ x. omega (arith, x)) (λ x. omega (arith, x)))
      by_told (inr (inr untold)) = absurd (not_over status.NoMemory (subst IsOver untold.status over) (λ x. omega (arith, x)) (λ x. omega (arith, x)) (λ x. omega (arith, x)))

-- ---- what was written

module _ (call : Call) (w : Written) (stop : Option Stop) (words : AreWordsOf (job.Migrate stop) call.words) where
  done_end : (end : Ended) → HasMigrated call end → status_of_end end ≡ status.Done → HasTold w (text_of (outcome.Migration end)) → HasMigratedTo stop call w
  unfolding code
  done_end (ended.Misread line) h e text = absurd (differ status.Script status.Done (λ x. omega (arith, x)) e)
  done_end (ended.Unsound found) h e text = absurd (differ status.Unsound status.Done (λ x. omega (arith, x)) e)
  done_end ended.Stopped h e text = absurd (differ status.Stopped status.Done (λ x. omega (arith, x)) e)
  done_end (ended.Broken root) h e text = absurd h.end_is.2
  done_end ended.NoMemory h e text = absurd (differ status.NoMemory status.Done (λ x. omega (arith, x)) e)
  done_end (ended.Done out) h e text = record {
    text = h.text;
    took = h.read.input;
    image = h.end_is.0;
    says = h.end_is.1;
    out = out;
    written = subst (λ (s : Option Stop). IsWritten s h.end_is.0 call.counts call.region_after call.counts_after out) (same_stop h.stop stop call.words h.read.words words) h.end_is.2;
    told = text;
  }

  done_by : (o : Outcome) → IsCauseOf o call → status_of o ≡ status.Done → HasTold w (text_of o) → HasMigratedTo stop call w
  unfolding code
  done_by outcome.Usage cause e text = absurd (differ status.Usage status.Done (λ x. omega (arith, x)) e)
  done_by outcome.ReadFault cause e text = absurd (differ status.ReadFault status.Done (λ x. omega (arith, x)) e)
  done_by outcome.TooLong cause e text = absurd (differ status.TooLong status.Done (λ x. omega (arith, x)) e)
  done_by (outcome.Wrong wrong) cause e text = absurd (migrate_is_no_run stop call.words cause.read.words words)
  done_by outcome.NoMemory cause e text = absurd (differ status.NoMemory status.Done (λ x. omega (arith, x)) e)
  done_by (outcome.Stopped commits) cause e text = absurd (migrate_is_no_run stop call.words cause.read.words words)
  done_by (outcome.Done s) cause e text = absurd (migrate_is_no_run stop call.words cause.read.words words)
  done_by (outcome.Recovery end) cause e text = absurd (migrate_is_no_recover stop cause.wanted call.words cause.read.words words)
  done_by (outcome.Migration end) cause e text = done_end end cause e text

  pub migrated_to : (answer : Status) → HasRun call answer w → answer ≡ status.Done → HasMigratedTo stop call w
  unfolding code
  migrated_to answer run is =
      let t = told call answer w run status.Done (λ x. omega (arith, x)) (λ x. omega (arith, x)) is in
      done_by run.outcome run.cause t.0 t.1

-- ---- an image of format 2 that was recovered wants no event

module _ (stop : Option Stop) (call : Call) (bytes : List ℕ) (i : Image) (words : AreWordsOf (job.Migrate stop) call.words) (tells : call.left ≡ Some bytes) (says : IsTextOf bytes i)
    (finished : IsFinished (length i.words) (words_of i)) (second : words_of i 0 ≡ SECOND_MAGIC) where
  finished_there : (j : Image) → i ≡ j → IsFinished (length j.words) (words_of j)
  finished_there j this = subst (λ (x : Image). IsFinished (length x.words) (words_of x)) this finished

  second_there : (j : Image) → i ≡ j → words_of j 0 ≡ SECOND_MAGIC
  second_there j this = subst (λ (x : Image). words_of x 0 ≡ SECOND_MAGIC) this second

  counted_none : (before later : Counts) (n : ℕ) → n ≡ 0 → later ≡ record (since_load before) { events = before.events + n } → later.events ≡ before.events
  counted_none before later n none counted = (let e = ap (λ (c : Counts). c.events) counted in omega (arith, e, none))

  brought_rests : (s : Option Stop) (j : Image) → i ≡ j → IsBrought s j call.counts call.region_after call.counts_after → call.counts_after.events ≡ call.counts.events
  brought_rests None j this h =
      counted_none call.counts call.counts_after h.events (h.again (finished_there j this) ∙ no_own (words_of j) (second_there j this)) h.counted
  brought_rests (Some s) j this h =
      let kept = h.before.kept (finished_there j this) (second_there j this) in
      ap (λ (c : Counts). c.events) h.counted ∙ counted_none call.counts h.counts_left h.before.events kept.none h.before.counted

  short_rests : (s : Option Stop) (j : Image) → i ≡ j → IsShortOf s j call.region call.counts call.region_after call.counts_after → call.counts_after.events ≡ call.counts.events
  short_rests s j this (unloaded region counts) = ap (λ (c : Counts). c.events) counts
  short_rests s j this (unmade_there h) = ap (λ (c : Counts). c.events) h.unmade
  short_rests s j this (behind h) = brought_rests s j this h

  here_again : (text : List ℕ) (j : Image) → bytes ≡ text → IsTextOf text j → i ≡ j
  here_again text j same there = ok_same bytes i j says (subst (λ (t : List ℕ). IsTextOf t j) (sym same) there)

  end_rests : (s : Option Stop) (text : List ℕ) (end : Ended) → bytes ≡ text → IsMigrationOf s text call.region call.counts call.region_after call.counts_after end
      → call.counts_after.events ≡ call.counts.events
  end_rests s text (ended.Misread line) same h = ap (λ (c : Counts). c.events) h.2
  end_rests s text (ended.Unsound found) same h = ap (λ (c : Counts). c.events) h.2.1.unmade
  end_rests s text ended.Stopped same h =
      let this = here_again text h.0 same h.1 in
      absurd (h.2.unfinished (finished_there h.0 this) (second_there h.0 this))
  end_rests s text (ended.Broken root) same h = absurd h.2
  end_rests s text ended.NoMemory same (inl h) = ap (λ (c : Counts). c.events) h.1
  end_rests s text ended.NoMemory same (inr h) = short_rests s h.0 (here_again text h.0 same h.1) h.2
  end_rests s text (ended.Done out) same h = brought_rests s h.0 (here_again text h.0 same h.1) h.2.brought

  untouched_rests : IsUntouched call → call.counts_after.events ≡ call.counts.events
  untouched_rests h = ap (λ (c : Counts). c.events) h.counts

  short_of_memory : IsExhausted call → call.counts_after.events ≡ call.counts.events
  short_of_memory (unread known untouched) = untouched_rests untouched
  short_of_memory (unmade run none) = absurd (migrate_is_no_run stop call.words run words)

  rests : (o : Outcome) → IsCauseOf o call → call.counts_after.events ≡ call.counts.events
  rests outcome.Usage cause = untouched_rests cause.untouched
  rests outcome.ReadFault cause = untouched_rests cause.untouched
  rests outcome.TooLong cause = untouched_rests cause.untouched
  rests (outcome.Wrong wrong) cause = untouched_rests cause.untouched
  rests outcome.NoMemory cause = short_of_memory cause
  rests (outcome.Stopped commits) cause = absurd (migrate_is_no_run stop call.words cause.read.words words)
  rests (outcome.Done s) cause = absurd (migrate_is_no_run stop call.words cause.read.words words)
  rests (outcome.Recovery end) cause = absurd (migrate_is_no_recover stop cause.wanted call.words cause.read.words words)
  rests (outcome.Migration end) cause =
      end_rests cause.stop cause.text end (took_all_is call.left call.left_after bytes cause.text tells cause.read.input) cause.end_is

  pub migrated_again : (answer : Status) (w : Written) → HasRun call answer w → call.counts_after.events ≡ call.counts.events
  migrated_again answer w run = rests run.outcome run.cause
