-- What a job came to with the text of its whole input is the cause of the call's outcome.
use Rattle.std.proofs.Common.{◌≡◌, ◌≤◌, ℕ, List, length, subst, Option}
use Rattle.rewind.specs.declared.words.Job.{Job}
use Rattle.rewind.specs.declared.words.Job.TheVariants as job
use Rattle.rewind.specs.declared.replay.Outcome.{Outcome}
use Rattle.rewind.specs.declared.replay.Outcome.TheVariants as outcome
use Rattle.image_runner.specs.declared.runner.Wanted.{Wanted}
use Rattle.image_runner.specs.declared.migrating.Stop.{Stop}
use Rattle.rewind.specs.Words.{AreWordsOf, limit_of}
use Rattle.rewind.specs.Call.{Call, TookAll, HasReadFor, IsCauseOf, IsTextOutcome, IsJobOutcome, unmade}

module _ (call : Call) (text : List ℕ) where
  run_caused : (o : Outcome) → HasReadFor job.Run call text → IsTextOutcome text call.region call.counts call.region_after call.counts_after o → IsCauseOf o call
  run_caused outcome.Usage read h = absurd h
  run_caused outcome.ReadFault read h = absurd h
  run_caused outcome.TooLong read h = absurd h
  run_caused (outcome.Wrong wrong) read h = record { text = text; read = read; misformed = h.0; wrong_is = h.1; untouched = record { region = h.2; counts = h.3 } }
  run_caused outcome.NoMemory read h = unmade read.words h
  run_caused (outcome.Stopped commits) read h = record { text = text; read = read; script = h.0; says = h.1; run = h.2 }
  run_caused (outcome.Done s) read h = record { text = text; read = read; says = h.0; run = h.1 }
  run_caused (outcome.Recovery end) read h = absurd h
  run_caused (outcome.Migration end) read h = absurd h

  recover_caused : (wanted : Wanted) (o : Outcome) → HasReadFor (job.Recover wanted) call text
      → IsJobOutcome (job.Recover wanted) text call.region call.counts call.region_after call.counts_after o → IsCauseOf o call
  recover_caused wanted outcome.Usage read h = absurd h
  recover_caused wanted outcome.ReadFault read h = absurd h
  recover_caused wanted outcome.TooLong read h = absurd h
  recover_caused wanted (outcome.Wrong wrong) read h = absurd h
  recover_caused wanted outcome.NoMemory read h = absurd h
  recover_caused wanted (outcome.Stopped commits) read h = absurd h
  recover_caused wanted (outcome.Done s) read h = absurd h
  recover_caused wanted (outcome.Recovery end) read h = record { wanted = wanted; text = text; read = read; end_is = h }
  recover_caused wanted (outcome.Migration end) read h = absurd h

  migrate_caused : (stop : Option Stop) (o : Outcome) → HasReadFor (job.Migrate stop) call text
      → IsJobOutcome (job.Migrate stop) text call.region call.counts call.region_after call.counts_after o → IsCauseOf o call
  migrate_caused stop outcome.Usage read h = absurd h
  migrate_caused stop outcome.ReadFault read h = absurd h
  migrate_caused stop outcome.TooLong read h = absurd h
  migrate_caused stop (outcome.Wrong wrong) read h = absurd h
  migrate_caused stop outcome.NoMemory read h = absurd h
  migrate_caused stop (outcome.Stopped commits) read h = absurd h
  migrate_caused stop (outcome.Done s) read h = absurd h
  migrate_caused stop (outcome.Recovery end) read h = absurd h
  migrate_caused stop (outcome.Migration end) read h = record { stop = stop; text = text; read = read; end_is = h }

caused_by : (j : Job) (call : Call) (text : List ℕ) (o : Outcome) → HasReadFor j call text → IsJobOutcome j text call.region call.counts call.region_after call.counts_after o → IsCauseOf o call
caused_by job.Run call text o read h = run_caused call text o read h
caused_by (job.Recover wanted) call text o read h = recover_caused call text wanted o read h
caused_by (job.Migrate stop) call text o read h = migrate_caused call text stop o read h

-- the job was done with a view of the text that was read
pub caused_through : (j : Job) (call : Call) (text view : List ℕ) (limit : ℕ) (o : Outcome) → view ≡ text → limit ≡ limit_of j → AreWordsOf j call.words
    → TookAll call.left text call.left_after → length text ≤ limit → IsJobOutcome j view call.region call.counts call.region_after call.counts_after o → IsCauseOf o call
caused_through j call text view limit o same is words input short done =
    caused_by j call text o (record { words = words; input = input; short = subst (λ (n : ℕ). length text ≤ n) is short })
    (subst (λ (t : List ℕ). IsJobOutcome j t call.region call.counts call.region_after call.counts_after o) same done)
