-- Each kind of record may come, on its condition.
use Rattle.std.proofs.Common.{◌≡◌, ◌≢◌, ◌⊎◌, inl, inr, ℕ, Bool, true, false, ◌+◌, ◌==◌, if◌then◌else◌, ◌≤◌, refl, sym, ap, subst, arith}
use Rattle.persist_model.specs.Records.{Record, Has, IsOf}
use Rattle.persist_model.specs.Order.{IsNextToUndo}
use Rattle.persist_model.specs.Shape.{Shape, IsHeapWord, IsRootOwner, heap_words}
use Rattle.persist_model.specs.ImageRecords.{IsWellFormed}
use Rattle.persist_model.specs.Need.{has_of}
use Rattle.persist_model.specs.State.{State}
use Rattle.log_laws.specs.Moves.{adds_update, adds_deletion, adds_rollback, adds_compensation, adds_checkpoint}
use Rattle.log_laws.specs.Recovery.{grown}
use Rattle.log_laws.specs.Recovering.{with_heap}
use Rattle.log_laws.proofs.Keeping.{top_is_next}
use Rattle.log_laws.proofs.Moving.{moves_keep, commits_keep}
use Rattle.log_laws.proofs.MoveRooms.{update_fits, deletion_fits, rollback_fits, compensation_fits, end_fits, checkpoint_fits}
use Rattle.log_laws.proofs.Standings.{stands_stored}
use Rattle.bucket_log.specs.States.{less_room}
use Rattle.log_clearing.specs.Removals.{more_room}
use Rattle.log_clearing.proofs.ClearingStates.{sound_with_heap}
use Rattle.log_clearing.proofs.RemovalStates.{removals_are_states, room_keeps}
use Rattle.persist_model.specs.declared.kinds.Outcome.TheVariants.{Committed}
use Rattle.plan_records.specs.Cells.{cell_of_update, cell_of_deletion, appended}
use Rattle.region_layout.specs.RecordCells.{cell_of_compensation, cell_of_rollback, cell_of_end, cell_of_checkpoint}
use Rattle.plan_records.specs.Conditions.{IsUpdateOf, AreSweptIn, AreWritten}
use Rattle.plan_records.specs.Laws.{UpdatesKeep, DeletionsKeep, RollbacksKeep, CompensationsKeep, CheckpointsKeep, CommitEndsWrite, StoresKeep, DropsKeep}
use Rattle.plan_records.proofs.RecordAppends.{takes, arrives, append_keeps, append_commits, running_raised, cells_raised, kept_raised, name_raised, update_raised}

pub updates_keep : UpdatesKeep
updates_keep shape p w s chain place number update may can =
    let u : Record = appended place number (cell_of_update update) in
    let last : Record = appended place may.top (cell_of_update update) in
    let formed : IsWellFormed shape last = record {
      kind = (omega arith, omega arith);
      transaction = inr (omega arith, can.transaction);
      change = λ _. (can.word, can.no_root);
      deletion = λ six. absurd (omega arith);
      outcome = inr (omega arith, refl);
    } in
    let running = running_raised shape s.log u may.top can.running in
    let fits = update_fits shape s last (less_room p s.room) may.sound refl running (takes shape p w s chain place u may)
    (cells_raised shape s u may.top (if has_of u.transaction s.log then 2 else 4) can.cells) in
    append_keeps shape p w s chain place u may (IsUpdateOf shape s u) (λ h c sound.
    moves_keep shape (with_heap s h) (with_heap (grown s last (less_room p s.room)) h) sound
    (adds_update last (less_room p s.room) (arrives shape p w s chain place u may formed fits h)
    running refl (name_raised s.log u may.top can.free) (update_raised shape.policy (with_heap s h) u may.top c)))

pub deletions_keep : DeletionsKeep
deletions_keep shape p w s chain place number giving may can =
    let d : Record = appended place number (cell_of_deletion giving) in
    let last : Record = appended place may.top (cell_of_deletion giving) in
    let formed : IsWellFormed shape last = record {
      kind = (omega arith, omega arith);
      transaction = inr (omega arith, can.transaction);
      change = λ c. elim c [ inl x ↦ absurd (omega (arith, x)) | inr x ↦ absurd (omega (arith, x)) ];
      deletion = λ _. can.block;
      outcome = inr (omega arith, refl);
    } in
    let running = running_raised shape s.log d may.top can.running in
    let fits = deletion_fits shape s last (less_room p s.room) may.sound refl running (takes shape p w s chain place d may)
    (cells_raised shape s d may.top (if has_of d.transaction s.log then 1 else 3) can.cells) in
    append_keeps shape p w s chain place d may (λ h. Unit {0}) (λ h c sound.
    moves_keep shape (with_heap s h) (with_heap (grown s last (less_room p s.room)) h) sound
    (adds_deletion last (less_room p s.room) (arrives shape p w s chain place d may formed fits h)
    running refl (name_raised s.log d may.top can.free)))

-- a record that names no word
pub plain_formed : (shape : Shape) (r : Record) → 3 ≤ r.kind → r.kind ≤ 5 → ((r.kind ≡ 5) × (r.transaction ≡ 0)) ⊎ ((r.kind ≢ 5) × (1 ≤ r.transaction)) →
    ((r.kind ≡ 4) × ((r.outcome ≡ 1) ⊎ (r.outcome ≡ 2))) ⊎ ((r.kind ≢ 4) × (r.outcome ≡ 0)) → IsWellFormed shape r
plain_formed shape r low high transaction outcome = record {
  kind = (omega (arith, low), omega (arith, high));
  transaction = transaction;
  change = λ c. elim c [ inl x ↦ absurd (omega (arith, x, low)) | inr x ↦ absurd (omega (arith, x, low)) ];
  deletion = λ x. absurd (omega (arith, x, high));
  outcome = outcome;
}

pub rollbacks_keep : RollbacksKeep
rollbacks_keep shape p w s chain place number transaction may can =
    let r : Record = appended place number (cell_of_rollback transaction) in
    let last : Record = appended place may.top (cell_of_rollback transaction) in
    let formed = plain_formed shape last (omega arith) (omega arith) (inr (omega arith, can.open_one.transaction)) (inr (omega arith, refl)) in
    let running = running_raised shape s.log r may.top can.open_one.running in
    let fits = rollback_fits shape s last (less_room p s.room) may.sound refl running (takes shape p w s chain place r may) (kept_raised shape s r may.top 2 can.open_one.kept) can.first in
    append_keeps shape p w s chain place r may (λ h. Unit {0}) (λ h c sound.
    moves_keep shape (with_heap s h) (with_heap (grown s last (less_room p s.room)) h) sound
    (adds_rollback last (less_room p s.room) (arrives shape p w s chain place r may formed fits h) running refl can.first))

-- the update that is to be undone next is a record of its transaction
top_is_of : (shape : Shape) (s : State) (t : ℕ) (u : Record) → IsNextToUndo t s.log u → Has (IsOf t) s.log
top_is_of shape s t u next = (u, next.among, (next.owner, λ five. (let one = next.update in absurd (omega (arith, one, five)))))

pub compensations_keep : CompensationsKeep
compensations_keep shape p w s chain place number u cell is may can =
    let c : Record = appended place number (cell_of_compensation cell) in
    let last : Record = appended place may.top (cell_of_compensation cell) in
    let next = top_is_next shape s c.transaction u can.stack may.sound can.running.running can.newest in
    let formed_u = may.sound.formed u next.among in
    let word : last.word ≡ u.word = ap (λ (x : Record). x.word) is in
    let formed : IsWellFormed shape last = record {
      kind = (omega arith, omega arith);
      transaction = inr (omega arith, can.transaction);
      change = λ _. subst (λ a. IsHeapWord shape a × (IsRootOwner shape a → ⊥)) (sym word) (formed_u.change (inl next.update));
      deletion = λ six. absurd (omega arith);
      outcome = inr (omega arith, refl);
    } in
    let running = running_raised shape s.log c may.top can.running in
    let fits = compensation_fits shape s last u can.stack (less_room p s.room) may.sound refl running (takes shape p w s chain place c may) (top_is_of shape s c.transaction u next) can.newest in
    append_keeps shape p w s chain place c may (λ h. Unit {0}) (λ h on sound.
    moves_keep shape (with_heap s h) (with_heap (grown s last (less_room p s.room)) h) sound
    (adds_compensation last u can.stack (less_room p s.room) (arrives shape p w s chain place c may formed fits h) running refl can.newest
    (record {
      word = word;
      before = ap (λ (x : Record). x.after) is;
      after = ap (λ (x : Record). x.before) is;
      undo_next = ap (λ (x : Record). x.undo_next) is;
    })))

pub checkpoints_keep : CheckpointsKeep
checkpoints_keep shape p w s chain place number may can =
    let c : Record = appended place number cell_of_checkpoint in
    let last : Record = appended place may.top cell_of_checkpoint in
    let formed = plain_formed shape last (omega arith) (omega arith) (inl (refl, refl)) (inr (omega arith, refl)) in
    let fits = checkpoint_fits shape s last (less_room p s.room) may.sound refl (takes shape p w s chain place c may) (cells_raised shape s c may.top 1 can.cells) in
    append_keeps shape p w s chain place c may (AreSweptIn shape s) (λ h swept sound.
    moves_keep shape (with_heap s h) (with_heap (grown s last (less_room p s.room)) h) sound
    (adds_checkpoint last (less_room p s.room) (arrives shape p w s chain place c may formed fits h) refl swept))

pub commit_ends_write : CommitEndsWrite
commit_ends_write shape p w s chain place number transaction may can =
    let e : Record = appended place number (cell_of_end transaction Committed) in
    let last : Record = appended place may.top (cell_of_end transaction Committed) in
    let formed = plain_formed shape last (omega arith) (omega arith) (inr (omega arith, can.transaction)) (inl (refl, inl refl)) in
    let running = running_raised shape s.log e may.top can.running in
    let fits = end_fits shape s last (less_room p s.room) may.sound refl running (takes shape p w s chain place e may) (kept_raised shape s e may.top 1 can.kept) in
    append_commits shape p w s chain place e may (AreWritten shape s transaction) (λ h written sound.
    commits_keep shape (with_heap s h) last (less_room p s.room) sound (record {
      arrives = arrives shape p w s chain place e may formed fits h;
      of = running;
      end = refl;
      outcome = refl;
      forced = written;
    }))

pub stores_keep : StoresKeep
stores_keep policy s h x same a v st = stands_stored policy s.log h x a v (same a) st

pub drops_keep : DropsKeep
drops_keep shape p w v s r k allowed inside has sound can reached =
    let drop = removals_are_states shape p w s r allowed inside has can in
    elim (drop.images k v reached) [
      | inl before ↦ inl (record { has = before; sound = sound_with_heap shape s (heap_words shape v) sound; standing = λ a x st. st })
      | inr behind ↦ (let kept = room_keeps shape s (more_room p shape.cells s.room) (heap_words shape v) sound (λ q. more p shape.cells s.room q) in
          inr (record { has = behind; sound = kept.0; standing = kept.1 }))
    ]
  where
    more : (p cells : ℕ) (room : ℕ → ℕ) (q : ℕ) → room q ≤ more_room p cells room q
    more p cells room q = at_least (q == p) (room q)
      where
        at_least : (t : Bool) (n : ℕ) → n ≤ (if t then n + cells else n)
        at_least true n = omega arith
        at_least false n = omega arith
