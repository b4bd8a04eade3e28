-- An append of a record that may come keeps sound states and their standing words.
use Rattle.std.proofs.Common.{inl, inr, ℕ, zero, suc, ◌+◌, ◌^◌, ◌<◌, ◌≤◌, ◌∷◌, List, arith}
use Rattle.std.proofs.lemmas.Bool.Decides.{eqb_tells}
use Rattle.persist_model.specs.Need.{need_in}
use Rattle.persist_model.specs.Region.{Words}
use Rattle.persist_model.specs.Records.{Record, Log}
use Rattle.persist_model.specs.Shape.{Shape, part_of, heap_words}
use Rattle.persist_model.specs.ImageRecords.{IsWellFormed}
use Rattle.persist_model.specs.State.{State, total_need, HasNumbers, IsSoundState}
use Rattle.persist_model.specs.Sound.{HasState}
use Rattle.log_laws.specs.Moves.{Arrives, IsOfRunning, MayName, MayUpdate, StandsCommitted}
use Rattle.log_laws.specs.MoveRoom.{TakesCell, HasCells, HasItsCells, FitsWith}
use Rattle.log_laws.specs.Recovery.{grown, KeepsStanding}
use Rattle.log_laws.specs.Recovering.{with_heap}
use Rattle.bucket_log.specs.declared.append.Place.{Place}
use Rattle.bucket_log.specs.Appends.{region_append}
use Rattle.bucket_log.specs.States.{less_room, LeadsTo}
use Rattle.bucket_log.proofs.Appended.{appends_gain, appends_take_cell}
use Rattle.log_clearing.proofs.ClearingStates.{sound_with_heap}
use Rattle.plan_records.specs.Passing.{inserted, renumbered, StandAlike}
use Rattle.plan_records.specs.Appends.{MayAppend, seen, Keeps, Commits, with_record, AppendKeeps, AppendCommits, total_room}
use Rattle.plan_records.proofs.Passing.{inserted_gains}
use Rattle.plan_records.proofs.PassingLaw.{passings_keep}

need_within : (part : ℕ → ℕ) (log : Log) (room : ℕ → ℕ) (n : ℕ) → ((p : ℕ) → p < n → need_in part p log ≤ room p) → total_need part n log ≤ total_room room n
need_within part log room zero h = omega arith
need_within part log room (suc n) h = let again = need_within part log room n (λ p lt. h p (omega (arith, lt))) in let here = h n (omega arith) in omega (arith, again, here)

less_within : (p : ℕ) (room : ℕ → ℕ) (q : ℕ) → less_room p room q ≤ room q
less_within p room q = elim (eqb_tells q p) [ inl e ↦ (rw e.0 (omega arith)) | inr ne ↦ (rw ne.0 (omega arith)) ]

-- where the rule of room holds, a number for each free cell is enough
enough_numbers : (shape : Shape) (s : State) (r : Record) (p : ℕ) → FitsWith shape s r (less_room p s.room) → r.lsn + total_room s.room shape.partitions + 1 ≤ 2 ^ 63 →
    HasNumbers shape (r ∷ s.log) r
enough_numbers shape s r p fits enough =
    let need = need_within (part_of shape) (r ∷ s.log) s.room shape.partitions (λ q lt. (let h = (fits q lt).undo in let le = less_within p s.room q in omega (arith, h, le))) in
    record { undo = omega (arith, need, enough); checkpoint = λ _ _. omega (arith, need, enough) }

module _ (shape : Shape) (p : ℕ) (w : Words) (s : State) (chain : List ℕ) (place : Place) (r : Record) (may : MayAppend shape p w s chain place r) where
  -- r as if it came last
  abbrev pub raised : Record
  raised = renumbered may.top r

  pub takes : TakesCell shape s raised (less_room p s.room)
  takes = let t = appends_take_cell shape p w s chain place r may.allowed may.inside may.has may.can in record { inside = t.inside; here = t.here; elsewhere = t.elsewhere }

  leads : LeadsTo shape w s (with_record p s r) (region_append shape p place r)
  leads = appends_gain shape p w s chain place r (inserted r s.log) may.allowed may.inside may.has may.can
      (inserted_gains r s.log may.passes.fresh may.sound.newest_first)

  -- with fields that are in order, and room for it, the record would arrive as the last one
  pub arrives : IsWellFormed shape raised → FitsWith shape s raised (less_room p s.room) → (h : Words) → Arrives shape (with_heap s h) raised (less_room p s.room)
  arrives formed fits h = record {
    formed = formed;
    gate = λ z. (let own = may.own in may.can.gate (omega (arith, z, own)));
    above = may.above;
    fits = fits;
    numbers = enough_numbers shape s raised p fits may.numbers;
  }

  -- and then it may come at the place of its number
  passes : (h : Words) → IsSoundState shape (with_heap (grown s raised (less_room p s.room)) h) →
      IsSoundState shape (with_heap (with_record p s r) h) × StandAlike shape.policy (with_heap (grown s raised (less_room p s.room)) h) (with_heap (with_record p s r) h)
  passes h sound = passings_keep shape (with_heap s h) r (less_room p s.room) may.top may.can.gate may.own may.above may.passes sound

  before : (v : Words) → HasState shape v (seen shape v s) → Keeps shape v s s
  before v has = record { has = has; sound = sound_with_heap shape s (heap_words shape v) may.sound; standing = λ a x st. st }

  pub append_keeps : (C : Words → Type 0) →
      ((h : Words) → C h → IsSoundState shape (with_heap s h) →
      IsSoundState shape (with_heap (grown s raised (less_room p s.room)) h) × KeepsStanding shape.policy (with_heap s h) (with_heap (grown s raised (less_room p s.room)) h)) →
      AppendKeeps shape p w s place r C
  append_keeps C keeps = record {
    images = λ k v c reached. elim (leads.images k v reached) [ inl has ↦ inl (before v has) | inr has ↦ inr (added v c has) ];
    whole = λ v c reached. added v c (leads.last v reached);
  }
    where
      added : (v : Words) → C (heap_words shape v) → HasState shape v (seen shape v (with_record p s r)) → Keeps shape v s (with_record p s r)
      added v c has =
          let kept = keeps (heap_words shape v) c (sound_with_heap shape s (heap_words shape v) may.sound) in
          let here = passes (heap_words shape v) kept.0 in
          record { has = has; sound = here.0; standing = λ a x st. (here.1 a x).0 (kept.1 a x st) }

  pub append_commits : (C : Words → Type 0) →
      ((h : Words) → C h → IsSoundState shape (with_heap s h) → IsSoundState shape (with_heap (grown s raised (less_room p s.room)) h) ×
      StandsCommitted shape.policy (with_heap s h) r.transaction (with_heap (grown s raised (less_room p s.room)) h)) →
      AppendCommits shape p w s place r C
  append_commits C commits = record {
    images = λ k v c reached. elim (leads.images k v reached) [ inl has ↦ inl (before v has) | inr has ↦ inr (added v c has) ];
    whole = λ v c reached. added v c (leads.last v reached);
  }
    where
      added : (v : Words) → C (heap_words shape v) → HasState shape v (seen shape v (with_record p s r)) → Commits shape v s r.transaction (with_record p s r)
      added v c has =
          let kept = commits (heap_words shape v) c (sound_with_heap shape s (heap_words shape v) may.sound) in
          let here = passes (heap_words shape v) kept.0 in
          record {
            has = has;
            sound = here.0;
            standing = record {
              deleted = λ a d. (here.1 a 0).0 (kept.1.deleted a d);
              changed = λ a x free last. (here.1 a x.after).0 (kept.1.changed a x free last);
              others = λ a x free unchanged st. (here.1 a x).0 (kept.1.others a x free unchanged st);
            };
          }

-- ---- what is asked of a record doesn't hang on its number

pub running_raised : (shape : Shape) (log : Log) (r : Record) (top : ℕ) → IsOfRunning shape log r → IsOfRunning shape log (renumbered top r)
running_raised shape log r top h = record { running = h.running; one_part = h.one_part }

pub cells_raised : (shape : Shape) (s : State) (r : Record) (top n : ℕ) → HasCells shape s r n → HasCells shape s (renumbered top r) n
cells_raised shape s r top n h = record { here = h.here; checkpoint_here = h.checkpoint_here; checkpoint_elsewhere = h.checkpoint_elsewhere }

pub kept_raised : (shape : Shape) (s : State) (r : Record) (top n : ℕ) → HasItsCells shape s r n → HasItsCells shape s (renumbered top r) n
kept_raised shape s r top n (inl some) = inl some
kept_raised shape s r top n (inr cells) = inr (cells_raised shape s r top n cells)

pub name_raised : (log : Log) (r : Record) (top : ℕ) → MayName log r → MayName log (renumbered top r)
name_raised log r top h = record { not_rolled = h.not_rolled; free = h.free }

pub update_raised : (policy : ℕ) (s : State) (u : Record) (top : ℕ) → MayUpdate policy s u → MayUpdate policy s (renumbered top u)
update_raised policy s u top h = record { undo_next = h.undo_next; last = h.last; standing = h.standing }
