-- What a call owes by its status, from what it came to.
use Rattle.std.proofs.Common.{◌≡◌, ◌≢◌, ◌⊎◌, inl, inr, ℕ, ◌+◌, ◌≤◌, List, sym, ◌∙◌, ap, subst, arith, Option, Some, None, length, Bool, true, false}
use Rattle.std.proofs.lemmas.List.Sums.{sum_by-take-le}
use Rattle.lane_traits.specs.Device.{Counts, Restarts, since_load}
use Rattle.image_text.specs.declared.image.Image.{Image}
use Rattle.image_runner.specs.declared.migrating.Stop.{Stop}
use Rattle.image_runner.specs.Migrations.{IsBrought}
use Rattle.image_runner.specs.declared.runner.Ended.{Ended}
use Rattle.image_runner.specs.declared.runner.Ended.TheVariants as ended
use Rattle.rewind.specs.declared.script.Script.{Script}
use Rattle.rewind.specs.declared.status.Status.{Status}
use Rattle.rewind.specs.declared.status.Status.TheVariants as status
use Rattle.rewind.specs.declared.replay.Outcome.{Outcome}
use Rattle.rewind.specs.declared.replay.Outcome.TheVariants as outcome
use Rattle.rewind.specs.declared.words.Job.TheVariants as job
use Rattle.rewind.specs.Words.{AreRun, AreKnown, AreWordsOf}
use Rattle.rewind.specs.Served.{script as script_of_text}
use Rattle.rewind.specs.Events.{event_count, StopsAfter, HasNoEvent}
use Rattle.rewind.specs.Call.{Call, Written, HasRecovered, HasMigrated, IsCauseOf, IsAnswerTo, HasRun, IsUntouched, IsExhausted, unread, unmade, status_of, status_of_end}
use Rattle.rewind.specs.Answered.{HasAnswered, ReadFailed, WriteFailed, DeviceStopped}
use Rattle.rewind.proofs.Causes.{code, told, long_input, no_script, no_image_text, unsound_image, recovered_again}
use Rattle.rewind.proofs.Migrations.{migrate_due, migrate_no_image_text, migrate_unsound, migrate_never_stopped, migrated_to, migrated_again, migrated_in_place}
use Rattle.rewind.proofs.Dues.{recover_is_no_run, migrate_is_no_run, took_all_is, misused, run_due, recover_due, never_stopped, wants_none}

-- ---- ends of a recovery

no_usage : (end : Ended) → status_of_end end ≡ status.Usage → ⊥
no_usage (ended.Misread line) e = cc
no_usage (ended.Unsound found) e = cc
no_usage ended.Stopped e = cc
no_usage (ended.Broken root) e = cc
no_usage ended.NoMemory e = cc
no_usage (ended.Done text) e = cc

no_read_fault : (end : Ended) → status_of_end end ≡ status.ReadFault → ⊥
no_read_fault (ended.Misread line) e = cc
no_read_fault (ended.Unsound found) e = cc
no_read_fault ended.Stopped e = cc
no_read_fault (ended.Broken root) e = cc
no_read_fault ended.NoMemory e = cc
no_read_fault (ended.Done text) e = cc

no_write_fault : (end : Ended) → status_of_end end ≡ status.WriteFault → ⊥
no_write_fault (ended.Misread line) e = cc
no_write_fault (ended.Unsound found) e = cc
no_write_fault ended.Stopped e = cc
no_write_fault (ended.Broken root) e = cc
no_write_fault ended.NoMemory e = cc
no_write_fault (ended.Done text) e = cc

-- ---- each status

module _ (call : Call) where
  usage_by : (o : Outcome) → IsCauseOf o call → status_of o ≡ status.Usage → AreKnown call.words → ⊥
  usage_by outcome.Usage cause e known = cause.words known
  usage_by outcome.ReadFault cause e known = cc
  usage_by outcome.TooLong cause e known = cc
  usage_by (outcome.Wrong wrong) cause e known = cc
  usage_by outcome.NoMemory cause e known = cc
  usage_by (outcome.Stopped commits) cause e known = cc
  usage_by (outcome.Done s) cause e known = cc
  usage_by (outcome.Recovery end) cause e known = no_usage end e
  usage_by (outcome.Migration end) cause e known = no_usage end e

  read_fault_by : (o : Outcome) → IsCauseOf o call → status_of o ≡ status.ReadFault → ReadFailed call
  read_fault_by outcome.Usage cause e = absurd (cc)
  read_fault_by outcome.ReadFault cause e = cause.rose
  read_fault_by outcome.TooLong cause e = absurd (cc)
  read_fault_by (outcome.Wrong wrong) cause e = absurd (cc)
  read_fault_by outcome.NoMemory cause e = absurd (cc)
  read_fault_by (outcome.Stopped commits) cause e = absurd (cc)
  read_fault_by (outcome.Done s) cause e = absurd (cc)
  read_fault_by (outcome.Recovery end) cause e = absurd (no_read_fault end e)
  read_fault_by (outcome.Migration end) cause e = absurd (no_read_fault end e)

  halted_by : (end : Ended) → HasRecovered call end → status_of_end end ≡ status.Stopped → DeviceStopped call
  halted_by (ended.Misread line) h e = absurd (cc)
  halted_by (ended.Unsound found) h e = absurd (cc)
  halted_by ended.Stopped h e = (let n = ap (λ (c : Counts). c.stopped) h.end_is.2.counted in omega (arith, n))
  halted_by (ended.Broken root) h e = absurd (cc)
  halted_by ended.NoMemory h e = absurd (cc)
  halted_by (ended.Done text) h e = absurd (cc)

  broken_off_by : (end : Ended) → HasMigrated call end → status_of_end end ≡ status.Stopped → DeviceStopped call
  broken_off_by (ended.Misread line) h e = absurd (cc)
  broken_off_by (ended.Unsound found) h e = absurd (cc)
  broken_off_by ended.Stopped h e = (let n = ap (λ (c : Counts). c.stopped) h.end_is.2.counted in omega (arith, n))
  broken_off_by (ended.Broken root) h e = absurd (cc)
  broken_off_by ended.NoMemory h e = absurd (cc)
  broken_off_by (ended.Done text) h e = absurd (cc)

  stopped_by : (o : Outcome) → IsCauseOf o call → status_of o ≡ status.Stopped → DeviceStopped call
  stopped_by outcome.Usage cause e = absurd (cc)
  stopped_by outcome.ReadFault cause e = absurd (cc)
  stopped_by outcome.TooLong cause e = absurd (cc)
  stopped_by (outcome.Wrong wrong) cause e = absurd (cc)
  stopped_by outcome.NoMemory cause e = absurd (cc)
  stopped_by (outcome.Stopped commits) cause e = (let n = ap (λ (c : Counts). c.stopped) cause.run.counted in omega (arith, n))
  stopped_by (outcome.Done s) cause e = absurd (cc)
  stopped_by (outcome.Recovery end) cause e = halted_by end cause e
  stopped_by (outcome.Migration end) cause e = broken_off_by end cause e

  unsound_by : AreRun call.words → (o : Outcome) → IsCauseOf o call → status_of o ≡ status.Unsound → ⊥
  unsound_by words outcome.Usage cause e = cc
  unsound_by words outcome.ReadFault cause e = cc
  unsound_by words outcome.TooLong cause e = cc
  unsound_by words (outcome.Wrong wrong) cause e = cc
  unsound_by words outcome.NoMemory cause e = cc
  unsound_by words (outcome.Stopped commits) cause e = cc
  unsound_by words (outcome.Done s) cause e = cc
  unsound_by words (outcome.Recovery end) cause e = recover_is_no_run cause.wanted call.words words cause.read.words
  unsound_by words (outcome.Migration end) cause e = migrate_is_no_run cause.stop call.words words cause.read.words

write_none : (o : Outcome) → status_of o ≡ status.WriteFault → ⊥
write_none outcome.Usage e = cc
write_none outcome.ReadFault e = cc
write_none outcome.TooLong e = cc
write_none (outcome.Wrong wrong) e = cc
write_none outcome.NoMemory e = cc
write_none (outcome.Stopped commits) e = cc
write_none (outcome.Done s) e = cc
write_none (outcome.Recovery end) e = no_write_fault end e
write_none (outcome.Migration end) e = no_write_fault end e

-- ---- the load

-- the statuses behind which the region was loaded
abbrev loads : Status → Bool
loads status.Done = true
loads status.Stopped = true
loads _ = false

loads_by : (s : Status) → (s ≡ status.Done) ⊎ (s ≡ status.Stopped) → loads s ≡ true
loads_by s (inl e) = ap loads e
loads_by s (inr e) = ap loads e

module _ (call : Call) where
  end_loaded : (end : Ended) → HasRecovered call end → loads (status_of_end end) ≡ true → call.counts_after.restarts ≡ (since_load call.counts).restarts
  end_loaded (ended.Misread line) h e = absurd (cc)
  end_loaded (ended.Unsound found) h e = absurd (cc)
  end_loaded ended.Stopped h e = ap (λ (c : Counts). c.restarts) h.end_is.2.counted
  end_loaded (ended.Broken root) h e = absurd (cc)
  end_loaded ended.NoMemory h e = absurd (cc)
  end_loaded (ended.Done text) h e = ap (λ (c : Counts). c.restarts) h.end_is.2.recovery.made.counted

  -- a migration up to a stop is restarted at its end
  brought_load : (stop : Option Stop) (i : Image) → IsBrought stop i call.counts call.region_after call.counts_after → call.counts_after.restarts.loaded_at ≡ call.counts.events
  brought_load None i h = ap (λ (c : Counts). c.restarts.loaded_at) h.counted
  brought_load (Some stop) i h = ap (λ (c : Counts). c.restarts.loaded_at) h.counted ∙ ap (λ (c : Counts). c.restarts.loaded_at) h.before.counted

  migrated_load : (end : Ended) → HasMigrated call end → loads (status_of_end end) ≡ true → call.counts_after.restarts.loaded_at ≡ call.counts.events
  migrated_load (ended.Misread line) h e = absurd (cc)
  migrated_load (ended.Unsound found) h e = absurd (cc)
  migrated_load ended.Stopped h e = ap (λ (c : Counts). c.restarts.loaded_at) h.end_is.2.counted
  migrated_load (ended.Broken root) h e = absurd (cc)
  migrated_load ended.NoMemory h e = absurd (cc)
  migrated_load (ended.Done text) h e = brought_load h.stop h.end_is.0 h.end_is.2.brought

  whole_load : (stop : Option Stop) (i : Image) → ((s : Stop) → stop ≡ Some s → ⊥) → IsBrought stop i call.counts call.region_after call.counts_after
      → call.counts_after.restarts ≡ (since_load call.counts).restarts
  whole_load None i none h = ap (λ (c : Counts). c.restarts) h.counted
  whole_load (Some stop) i none h = absurd (none stop (λ k. Some stop))

  module _ (unstopped : (stop : Stop) → AreWordsOf (job.Migrate (Some stop)) call.words → ⊥) where
    whole_end : (end : Ended) → HasMigrated call end → loads (status_of_end end) ≡ true → call.counts_after.restarts ≡ (since_load call.counts).restarts
    whole_end (ended.Misread line) h e = absurd (cc)
    whole_end (ended.Unsound found) h e = absurd (cc)
    whole_end ended.Stopped h e = ap (λ (c : Counts). c.restarts) h.end_is.2.counted
    whole_end (ended.Broken root) h e = absurd (cc)
    whole_end ended.NoMemory h e = absurd (cc)
    whole_end (ended.Done text) h e =
        whole_load h.stop h.end_is.0 (λ s is. unstopped s (subst (λ (stop : Option Stop). AreWordsOf (job.Migrate stop) call.words) is h.read.words)) h.end_is.2.brought

    not_restarted_by : (o : Outcome) → IsCauseOf o call → loads (status_of o) ≡ true → call.counts_after.restarts ≡ (since_load call.counts).restarts
    not_restarted_by outcome.Usage cause e = absurd (cc)
    not_restarted_by outcome.ReadFault cause e = absurd (cc)
    not_restarted_by outcome.TooLong cause e = absurd (cc)
    not_restarted_by (outcome.Wrong wrong) cause e = absurd (cc)
    not_restarted_by outcome.NoMemory cause e = absurd (cc)
    not_restarted_by (outcome.Stopped commits) cause e = ap (λ (c : Counts). c.restarts) cause.run.counted
    not_restarted_by (outcome.Done s) cause e = ap (λ (c : Counts). c.restarts) cause.run.counted
    not_restarted_by (outcome.Recovery end) cause e = end_loaded end cause e
    not_restarted_by (outcome.Migration end) cause e = whole_end end cause e

  stopped_end : (end : Ended) → HasMigrated call end → status_of_end end ≡ status.Stopped → call.counts_after.restarts ≡ (since_load call.counts).restarts
  stopped_end (ended.Misread line) h e = absurd (cc)
  stopped_end (ended.Unsound found) h e = absurd (cc)
  stopped_end ended.Stopped h e = ap (λ (c : Counts). c.restarts) h.end_is.2.counted
  stopped_end (ended.Broken root) h e = absurd (cc)
  stopped_end ended.NoMemory h e = absurd (cc)
  stopped_end (ended.Done text) h e = absurd (cc)

  left_stopped_by : (o : Outcome) → IsCauseOf o call → status_of o ≡ status.Stopped → call.counts_after.restarts ≡ (since_load call.counts).restarts
  left_stopped_by outcome.Usage cause e = absurd (cc)
  left_stopped_by outcome.ReadFault cause e = absurd (cc)
  left_stopped_by outcome.TooLong cause e = absurd (cc)
  left_stopped_by (outcome.Wrong wrong) cause e = absurd (cc)
  left_stopped_by outcome.NoMemory cause e = absurd (cc)
  left_stopped_by (outcome.Stopped commits) cause e = ap (λ (c : Counts). c.restarts) cause.run.counted
  left_stopped_by (outcome.Done s) cause e = absurd (cc)
  left_stopped_by (outcome.Recovery end) cause e = end_loaded end cause (ap loads e)
  left_stopped_by (outcome.Migration end) cause e = stopped_end end cause e

  loaded_by : (o : Outcome) → IsCauseOf o call → loads (status_of o) ≡ true → call.counts_after.restarts.loaded_at ≡ call.counts.events
  loaded_by outcome.Usage cause e = absurd (cc)
  loaded_by outcome.ReadFault cause e = absurd (cc)
  loaded_by outcome.TooLong cause e = absurd (cc)
  loaded_by (outcome.Wrong wrong) cause e = absurd (cc)
  loaded_by outcome.NoMemory cause e = absurd (cc)
  loaded_by (outcome.Stopped commits) cause e = ap (λ (c : Counts). c.restarts.loaded_at) cause.run.counted
  loaded_by (outcome.Done s) cause e = ap (λ (c : Counts). c.restarts.loaded_at) cause.run.counted
  loaded_by (outcome.Recovery end) cause e = ap (λ (r : Restarts). r.loaded_at) (end_loaded end cause e)
  loaded_by (outcome.Migration end) cause e = migrated_load end cause e

-- ---- the events

none_more : (before later : Counts) (n : ℕ) → HasNoEvent before later → later.events ≤ before.events + n
none_more before later n (inl same) = (let e = ap (λ (c : Counts). c.events) same in omega (arith, e))
none_more before later n (inr same) = (let e = ap (λ (c : Counts). c.events) same in omega (arith, e))

some_same : (s t : Script) → Some s ≡ Some t → s ≡ t
some_same s t same = cc

module _ (call : Call) (words : AreRun call.words) (bytes : List ℕ) (s : Script) (tells : call.left ≡ Some bytes) (says : script_of_text bytes ≡ Some s) where
  untouched_few : IsUntouched call → call.counts_after.events ≤ call.counts.events + event_count s.transactions
  untouched_few h = (let e = ap (λ (c : Counts). c.events) h.counts in omega (arith, e))

  exhausted_few : IsExhausted call → call.counts_after.events ≤ call.counts.events + event_count s.transactions
  exhausted_few (unread known untouched) = untouched_few untouched
  exhausted_few (unmade run none) = none_more call.counts call.counts_after (event_count s.transactions) none

  same_script : (text : List ℕ) (t : Script) → bytes ≡ text → script_of_text text ≡ Some t → t ≡ s
  same_script text t same there = some_same t s (sym there ∙ ap script_of_text (sym same) ∙ says)

  stopped_few : (t : Script) (made commits : ℕ) → t ≡ s → StopsAfter t.transactions made commits → made ≤ event_count s.transactions
  stopped_few t made commits same stops =
      let most = sum_by-take-le (λ ts. length ts + 1) t.transactions (commits + 1) in
      let open_one = stops.open_one in
      let all = ap (λ (x : Script). event_count x.transactions) same in
      omega (arith, most, open_one, all)

  events_by : (o : Outcome) → IsCauseOf o call → call.counts_after.events ≤ call.counts.events + event_count s.transactions
  events_by outcome.Usage cause = untouched_few cause.untouched
  events_by outcome.ReadFault cause = untouched_few cause.untouched
  events_by outcome.TooLong cause = untouched_few cause.untouched
  events_by (outcome.Wrong wrong) cause = untouched_few cause.untouched
  events_by outcome.NoMemory cause = exhausted_few cause
  events_by (outcome.Stopped commits) cause =
      let text : bytes ≡ cause.text = took_all_is call.left call.left_after bytes cause.text tells cause.read.input in
      let few = stopped_few cause.script cause.run.made commits (same_script cause.text cause.script text cause.says) cause.run.commits_fenced in
      let e = ap (λ (c : Counts). c.events) cause.run.counted in
      omega (arith, few, e)
  events_by (outcome.Done t) cause =
      let text : bytes ≡ cause.text = took_all_is call.left call.left_after bytes cause.text tells cause.read.input in
      let all = ap (λ (x : Script). event_count x.transactions) (same_script cause.text t text cause.says) in
      let e = ap (λ (c : Counts). c.events) cause.run.counted in
      omega (arith, all, e)
  events_by (outcome.Recovery end) cause = absurd (recover_is_no_run cause.wanted call.words words cause.read.words)
  events_by (outcome.Migration end) cause = absurd (migrate_is_no_run cause.stop call.words words cause.read.words)

-- ---- all of it

module _ (call : Call) (answer : Status) (w : Written) (run : HasRun call answer w) where
  write_fault_by : answer ≡ status.WriteFault → IsAnswerTo run.outcome answer w → WriteFailed w
  write_fault_by is (inl full) = absurd (write_none run.outcome (sym full.status ∙ is))
  write_fault_by is (inr (inl cut)) = cut.rose
  write_fault_by is (inr (inr untold)) = absurd (let x : ◌≡◌ {A = Status} status.NoMemory status.WriteFault = sym untold.status ∙ is in cc)

  status_by : (s : Status) → code s ≢ 5 → code s ≢ 6 → answer ≡ s → status_of run.outcome ≡ s
  status_by s a b is = (told call answer w run s a b is).0

  pub answered : HasAnswered call answer w
  unfolding code
  answered = record {
    ran = run;
    usage = λ is. usage_by call run.outcome run.cause (status_by status.Usage (λ x. omega (arith, x)) (λ x. omega (arith, x)) is);
    misused = λ unknown unfaulted. misused call answer w unknown unfaulted run;
    due = λ bytes tells words reads writes runs. run_due call bytes words tells reads runs answer w writes run;
    recover_due = λ wanted bytes s words tells is reads writes runs. recover_due wanted call bytes words tells reads runs answer s w writes run is;
    never_unsound = λ words is. unsound_by call words run.outcome run.cause (status_by status.Unsound (λ x. omega (arith, x)) (λ x. omega (arith, x)) is);
    read_fault = λ is. read_fault_by call run.outcome run.cause (status_by status.ReadFault (λ x. omega (arith, x)) (λ x. omega (arith, x)) is);
    write_fault = λ is. write_fault_by is run.told;
    stopped = λ is. stopped_by call run.outcome run.cause (status_by status.Stopped (λ x. omega (arith, x)) (λ x. omega (arith, x)) is);
    too_long = λ is j words. long_input call answer w run is j words;
    no_script = λ is words. no_script call answer w run is words;
    no_image_text = λ is wanted words. no_image_text call answer w run is wanted words;
    unsound_image = λ is wanted words. unsound_image call answer w run is wanted words;
    last_load = λ is. loaded_by call run.outcome run.cause (loads_told is);
    not_restarted = λ is unstopped. not_restarted_by call unstopped run.outcome run.cause (loads_told (inl is));
    left_stopped = λ is. left_stopped_by call run.outcome run.cause (status_by status.Stopped (λ x. omega (arith, x)) (λ x. omega (arith, x)) is);
    one_event_each = λ words bytes s tells says. events_by call words bytes s tells says run.outcome run.cause;
    enough = λ wanted words room is. never_stopped wanted call words room answer w run is;
    again = λ wanted bytes i words tells is finished. wants_none wanted call bytes i words tells is finished answer w run;
    recovered_again = λ wanted bytes i words tells is admitted over. recovered_again call answer w run wanted bytes i words tells is admitted over;
    migrate_due = λ stop bytes s words tells is reads writes runs. migrate_due stop call bytes words tells reads runs answer s w writes run is;
    migrate_no_image_text = λ is stop words. migrate_no_image_text call w stop words answer run is;
    migrate_unsound = λ is stop words. migrate_unsound call w stop words answer run is;
    migrate_enough = λ stop words room is. migrate_never_stopped stop call words room answer w run is;
    migrated_to = λ is stop words. migrated_to call w stop words answer run is;
    migrated_again = λ stop bytes i words tells is finished second. migrated_again stop call bytes i words tells is finished second answer w run;
    migrated_in_place = λ stop bytes i words tells is admitted over. migrated_in_place stop call bytes i words tells is admitted answer w run over;
  }
    where
      loads_told : (answer ≡ status.Done) ⊎ (answer ≡ status.Stopped) → loads (status_of run.outcome) ≡ true
      loads_told (inl is) = ap loads (status_by status.Done (λ x. omega (arith, x)) (λ x. omega (arith, x)) is)
      loads_told (inr is) = ap loads (status_by status.Stopped (λ x. omega (arith, x)) (λ x. omega (arith, x)) is)
