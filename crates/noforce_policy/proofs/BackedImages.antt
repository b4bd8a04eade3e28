-- What words that the log backs are in each image.
use Rattle.std.proofs.Common.{◌≡◌, ◌⊎◌, inl, inr, ℕ, ◌+◌, ◌*◌, ◌<◌, sym, ◌∙◌, subst, arith, None}
use Rattle.persist_model.specs.Region.{Words, Region, newest, MayStand}
use Rattle.persist_model.specs.Records.{Record, Log, IsAmong, Has, HasNo, IsRunning, IsChange}
use Rattle.persist_model.specs.Shape.{Shape, IsHeapWord, IsPlainOwner, heap, words_of_shape, heap_words}
use Rattle.persist_model.specs.Standing.{IsToDelete, IsToRedo, Stands, undone, deleted, redone, kept}
use Rattle.persist_model.specs.State.{State}
use Rattle.log_laws.specs.Moves.{MayName, IsChangeBy}
use Rattle.log_laws.proofs.Deciding.{decide_equal, has_or_none, ended_or_running}
use Rattle.bucket_log.specs.declared.append.Place.{Place}
use Rattle.bucket_log.specs.Appends.{region_append}
use Rattle.plan_records.specs.Cells.{cell_of_update, appended}
use Rattle.region_layout.specs.RecordCells.{cell_of_checkpoint}
use Rattle.plan_records.specs.Appends.{MayStandAt, AppendKeeps}
use Rattle.plan_records.specs.Conditions.{IsUpdateOf, AreSweptIn}
use Rattle.plan_records.specs.HeapUpdates.{OldsMeet}
use Rattle.plan_records.specs.HeapImages.{LeavesKept}
use Rattle.plan_records.proofs.Changes.{decide_change, heap_word_is}
use Rattle.plan_records.proofs.Records.{updates_keep, checkpoints_keep}
use Rattle.noforce_policy.specs.Backed.{HasOneValue, IsUnpassed, IsBacked, IsCommittedWord, AreBacked, AreOwnBacked}
use Rattle.noforce_policy.specs.BackedLaws.{BackedUpdatesMeet, SweptWordsMeet, UpdatesLeave, CheckpointsLeave, ClearsLeave}
use Rattle.noforce_policy.proofs.Checkpoints.{checkpoints_serve}
use Rattle.noforce_policy.proofs.Backed.{own_is_latest, to_redo_of}

-- where a word has one value, that is in each image
in_image : (shape : Shape) (region : Region) (i : Words) (a : ℕ) → IsHeapWord shape a → region.size ≡ words_of_shape shape → MayStand i region → HasOneValue region a →
    heap_words shape i a ≡ newest (region.at a)
in_image shape region i a word size stands one = heap_word_is shape i a word ∙ one (i a) (stands a (let lt = word.1 in omega (arith, lt, size)))

-- ---- an update

-- nobody else runs with a word that u may name
others_run_not : (log : Log) (u s : Record) → MayName log u → HasNo (IsChangeBy u.transaction u.word) log → IsAmong log s → IsChange s → s.word ≡ u.word → IsRunning log s.transaction → ⊥
others_run_not log u s free none m change word running = elim (decide_equal s.transaction u.transaction) [
  | inl e ↦ none s m (change, word, e)
  | inr ne ↦ free.free s m (word, ne, inl (inl change, running))
]

free_backed : (shape : Shape) (log : Log) (u : Record) (region : Region) → IsHeapWord shape u.word → IsRunning log u.transaction → MayName log u → AreBacked shape log region →
    AreOwnBacked u.transaction None log region → IsBacked log region u.word
free_backed shape log u region word running free all own = by (has_or_none (IsChangeBy u.transaction u.word) log (decide_change u.transaction u.word))
  where
    not_deleted : HasNo (IsToDelete log u.word) log
    not_deleted d m k = elim (decide_equal d.transaction u.transaction) [
      | inl e ↦ (let c = k.2 in running c.0 c.1 (c.2.0.0, c.2.0.1 ∙ e))
      | inr ne ↦ free.free d m (k.1, ne, inr (k.0, k.2))
    ]

    by : Has (IsChangeBy u.transaction u.word) log ⊎ HasNo (IsChangeBy u.transaction u.word) log → IsBacked log region u.word
    by (inl h) = own u.word (λ e. cc) h
    by (inr none) = all u.word (record {
      heap_word = word;
      not_undone = λ s m k. others_run_not log u s free none m (inl k.0) k.1 k.2;
      not_deleted = not_deleted;
    })

pub backed_updates_meet : OldsMeet → BackedUpdatesMeet
backed_updates_meet olds_meet shape x u region i two sound word running free next size stands all own read =
    olds_meet shape x u (heap_words shape i) sound running free next (record {
      own = λ r l. read ∙ b.changed r (own_is_latest shape x u.transaction u.word r sound running l);
      redone = λ none r l. read ∙ b.changed r (record {
        among = l.among;
        has = (l.has.1, l.has.2, l.has.4);
        last = λ s m k. l.last s m (redo none s m k);
      });
      plain = λ none off. read ∙ sym (in_image shape region i u.word word size stands (b.unchanged (λ s m k. off s m (redo none s m k))));
    })
  where
    b : IsBacked x.log region u.word
    b = free_backed shape x.log u region word running free all own

    redo : HasNo (IsChangeBy u.transaction u.word) x.log → (s : Record) → IsAmong x.log s → IsUnpassed x.log u.word s → IsToRedo shape.policy x.log u.word s
    redo none s m k = elim (ended_or_running x.log s.transaction) [
      | inl ended ↦ (two, k.0, k.1, ended, k.2)
      | inr runs ↦ absurd (others_run_not x.log u s free none m k.0 k.1 runs)
    ]

-- ---- a checkpoint

pub swept_words_meet : SweptWordsMeet
swept_words_meet shape s region i two sound size stands all swept a not_undone not_deleted v st = by st
  where
    by : Stands shape.policy s.log (heap_words shape i) a v → v ≡ heap_words shape i a
    by (undone u first e) = absurd (not_undone u first.among first.has)
    by (deleted nu d e) = absurd (not_deleted d.0 d.1 d.2)
    by (kept nu nd nr e) = e
    by (redone nu nd r l e) =
        let word : IsHeapWord shape a = subst (λ b. IsHeapWord shape b) l.has.2 ((sound.formed r l.among).change l.has.1).0 in
        let committed : IsCommittedWord shape s.log a = record { heap_word = word; not_undone = not_undone; not_deleted = not_deleted } in
        e ∙ sym ((all a committed).changed r (record {
          among = l.among;
          has = (l.has.1, l.has.2, l.has.4);
          last = λ y m k. l.last y m (to_redo_of shape s a y two sound not_undone m k);
        }))
        ∙ sym (in_image shape region i a word size stands (swept a committed (r, l.among, subst (λ n. IsToRedo n s.log a r) two l.has)))

-- ---- the appends

kept_in : (shape : Shape) (p : ℕ) (w : Words) (x : State) (place : Place) (r : Record) (C : Words → Type 0) (k : ℕ) (i : Words) → AppendKeeps shape p w x place r C →
    C (heap_words shape i) → MayStandAt shape w (region_append shape p place r) k i → LeavesKept shape p x place r k i
kept_in shape p w x place r C k i keeps c stands = record {
  either = keeps.images k i c stands;
  whole = λ e. keeps.whole i c (subst (λ n. MayStandAt shape w (region_append shape p place r) n i) e stands);
}

pub updates_leave : OldsMeet → UpdatesLeave
updates_leave olds_meet shape p w x u chain place number k region i two may can next size image all own read stands =
    let r : Record = appended place number (cell_of_update u) in
    kept_in shape p w x place r (IsUpdateOf shape x r) k i (updates_keep shape p w x chain place number u may can)
    (backed_updates_meet olds_meet shape x r region i two may.sound can.word can.running.running can.free next size image all own read) stands

pub checkpoints_leave : CheckpointsLeave
checkpoints_leave shape w s chain place number k region i two may can size image all swept stands =
    let c : Record = appended place number cell_of_checkpoint in
    kept_in shape 0 w s place c (AreSweptIn shape s) k i (checkpoints_keep shape 0 w s chain place number may can)
    (swept_words_meet shape s region i two may.sound size image all swept) stands

pub clears_leave : ClearsLeave
clears_leave shape w s chain place number owners z v x gates ends checkpoints k region may can all is close size image zero stands =
    (checkpoints_serve shape w s chain place number owners may can all).clear z v x gates ends checkpoints k is close
    (λ a m. in_image shape region v a (owner_word a m) size image (zero a m).0 ∙ (zero a m).1) stands
  where
    plain_is : (a : ℕ) → IsPlainOwner shape a → IsHeapWord shape a
    plain_is a k = let e : a ≡ heap shape + 16 * k.0 = k.3 in let lt : k.0 < shape.blocks = k.2 in (omega (arith, e), omega (arith, e, lt))

    owner_word : (a : ℕ) → IsAmong owners a → IsHeapWord shape a
    owner_word a m = let d = (all a).0 m in subst (λ b. IsHeapWord shape b) d.2.1 (plain_is d.0.word ((may.sound.formed d.0 d.1).deletion d.2.0))
