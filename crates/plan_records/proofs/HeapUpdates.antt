-- What the lane of an update must know of its OLD.
use Rattle.std.proofs.Common.{◌≡◌, ◌⊎◌, inl, inr, ℕ, [], ◌∷◌, refl, sym, ◌∙◌}
use Rattle.std.proofs.lemmas.Bool.Decides.{eqb_tells}
use Rattle.persist_model.specs.Progress.{Wrote, advance_all}
use Rattle.persist_model.specs.Records.{Record, Log, Has, HasNo}
use Rattle.persist_model.specs.Standing.{IsToUndo, IsLatest, Stands, undone, deleted, redone, kept}
use Rattle.persist_model.specs.Order.{last_new}
use Rattle.persist_model.proofs.Projecting.{latest_none, IsFixed-aways, Reaches-fixed}
use Rattle.log_laws.specs.Moves.{IsChangeBy}
use Rattle.log_laws.proofs.Deciding.{decide_equal}
use Rattle.log_laws.proofs.Keeping.{good_of}
use Rattle.log_laws.proofs.Stacks.{IsTo, updates, compensates, neither, is_to}
use Rattle.log_laws.proofs.Standings.{latest_some}
use Rattle.log_laws.proofs.Undoing.{last_new_is}
use Rattle.plan_records.specs.Cells.{cell_of_update, appended}
use Rattle.plan_records.specs.Conditions.{IsUpdateOf}
use Rattle.plan_records.specs.HeapUpdates.{OldsMeet, UpdatesMeet}
use Rattle.plan_records.proofs.Changes.{decide_change, to_undo_of}
use Rattle.plan_records.proofs.HeapGoing.{on_log_away}

last_new_none : (t a d : ℕ) (log : Log) → HasNo (IsChangeBy t a) log → last_new t a d log ≡ d
last_new_none t a d [] none = refl
last_new_none t a d (x ∷ log) none = by (is_to t x) (last_new_none t a d log (λ r m c. none r (inr m) c))
  where
    by : IsTo t x → last_new t a d log ≡ d → last_new t a d (x ∷ log) ≡ d
    by (updates one update owner) again = elim (eqb_tells x.word a) [ inl e ↦ absurd (none x (inl refl) (inl update, e.1, owner)) | inr ne ↦ (rw (one, ne.0) again) ]
    by (compensates not_one two comp owner) again = elim (eqb_tells x.word a) [ inl e ↦ absurd (none x (inl refl) (inr comp, e.1, owner)) | inr ne ↦ (rw (not_one, two, ne.0) again) ]
    by (neither not_one not_two off) again = rw (not_one, not_two) again

pub olds_meet : OldsMeet
olds_meet shape x u h sound running free next old = by (latest_some (IsChangeBy u.transaction u.word) x.log (decide_change u.transaction u.word))
  where
    -- the standing value where the transaction hasn't changed the word
    value : HasNo (IsChangeBy u.transaction u.word) x.log → (v : ℕ) → Stands shape.policy x.log h u.word v → Has (IsToUndo x.log u.word) x.log ⊎ (u.before ≡ v)
    value none v (undone y first e) = inl (y, first.among, first.has)
    value none v (deleted nu d e) = absurd (elim (decide_equal d.0.transaction u.transaction) [
      | inl same ↦ (let c = d.2.2 in running c.0 c.1 (c.2.0.0, c.2.0.1 ∙ same))
      | inr ne ↦ free.free d.0 d.1 (d.2.1, ne, inr (d.2.0, d.2.2))
    ])
    value none v (redone nu nd r last e) = inr (old.redone none r last ∙ sym e)
    value none v (kept nu nd nr e) = inr (old.plain none nr ∙ sym e)

    by : ((r : Record) × IsLatest (IsChangeBy u.transaction u.word) x.log r) ⊎ HasNo (IsChangeBy u.transaction u.word) x.log → IsUpdateOf shape x u h
    by (inl r) = record {
      undo_next = next;
      last = old.own r.0 r.1 ∙ sym (last_new_is u.transaction u.word u.before x.log r.0 (good_of shape x sound).falls r.1);
      standing = λ v st. inl (to_undo_of shape x u.transaction u.word r.0 sound running r.1.among r.1.has);
    }
    by (inr none) = record { undo_next = next; last = sym (last_new_none u.transaction u.word u.before x.log none); standing = value none }

pub updates_meet : UpdatesMeet
updates_meet shape x u place number z h force sound can next step old may = olds_meet shape x (appended place number (cell_of_update u)) h sound can.running.running can.free next (record {
  own = λ r last. old ∙ step.newest_values u.word r last;
  redone = λ none r last. absurd (force last.has.0);
  plain = λ none nr. sym (Reaches-fixed (λ a. a ≡ u.word) (advance_all z may.0) h u.word u.before refl
      (IsFixed-aways z u.word u.before may.0 (on_log_away shape u.word may.0 can.word.0 may.1) (record { durable = durable none; none = still none })) may.2);
})
  where
    still : HasNo (IsChangeBy u.transaction u.word) x.log → (v : ℕ) → Wrote z.pending u.word v → ⊥
    still none v k = let c = step.no_other u.word v can.word.0 k in none c.0 c.1 c.2

    durable : HasNo (IsChangeBy u.transaction u.word) x.log → z.durable u.word ≡ u.before
    durable none = sym (latest_none z.pending u.word (z.durable u.word) (still none)) ∙ sym old
