-- What a running transaction's own records give to the conditions of its appends, and the clearing of its records under force.
use Rattle.std.proofs.Common.{◌≡◌, ◌≢◌, inl, inr, ℕ, ◌≤◌, List, ◌∷◌, refl, sym, ap, ◌∙◌, subst, arith}
use Rattle.std.proofs.lemmas.Bool.Decides.{eqb_tells}
use Rattle.persist_model.specs.Region.{Words}
use Rattle.persist_model.specs.Records.{Record, Log, IsAmong, Has, HasNo, IsOf, IsEnd, IsDeletion, IsRunning, IsEnded, IsCommitted}
use Rattle.persist_model.specs.Shape.{Shape, part_of, heap_words}
use Rattle.persist_model.specs.Standing.{IsToUndo, Stands, undone, deleted, redone, kept}
use Rattle.persist_model.specs.State.{State}
use Rattle.log_laws.specs.Closing.{MayClear}
use Rattle.log_laws.specs.MoveRoom.{HasItsCells}
use Rattle.log_laws.specs.Moves.{IsOfRunning}
use Rattle.log_laws.proofs.Deciding.{has_or_none, decide_to_undo}
use Rattle.bucket_log.specs.declared.append.Place.{Place}
use Rattle.plan_records.specs.declared.parts.Part.{Part}
use Rattle.plan_records.specs.declared.parts.Part.TheVariants.{Append}
use Rattle.bucket_log.specs.States.{less_room}
use Rattle.log_clearing.specs.Closed.{IsListed}
use Rattle.log_clearing.proofs.ClearingStates.{closings_keep}
use Rattle.plan_records.specs.Cells.{appended}
use Rattle.plan_records.specs.Appends.{MayAppend}
use Rattle.plan_records.specs.Conditions.{IsOfOpen}
use Rattle.plan_records.specs.Courses.{own_records, Course, begins, appends, makes, meanwhile, AreDeleted, AreGatesOf, ClearServes, IsGoing, CoursesKeepRecords}
use Rattle.plan_records.proofs.RecordAppends.{takes}
use Rattle.plan_records.proofs.OwnRecords.{own_in, own_out}
use Rattle.plan_records.proofs.Passing.{inserted_in}

-- the record of an append stands in its partition
pub part_is : (shape : Shape) (p : ℕ) (w : Words) (s : State) (chain : List ℕ) (place : Place) (r : Record) → MayAppend shape p w s chain place r → part_of shape r.at ≡ p
part_is shape p w s chain place r may = elim (eqb_tells (part_of shape r.at) p) [
  | inl e ↦ e.1
  | inr ne ↦ (let here = (takes shape p w s chain place r may).here in
      let same : less_room p s.room (part_of shape r.at) ≡ s.room (part_of shape r.at) = (let off = ne.0 in rw off refl) in absurd (omega (arith, here, same)))
]

pub going_own : (shape : Shape) (p t : ℕ) (log : Log) → IsGoing shape p t log → IsGoing shape p t (own_records t log)
going_own shape p t log h = record {
  transaction = h.transaction;
  running = λ e m end. h.running e (own_out t log e m).0 end;
  in_part = λ y m of. h.in_part y (own_out t log y m).0 of;
}

pub going_all : (shape : Shape) (p t : ℕ) (log : Log) → IsGoing shape p t (own_records t log) → IsGoing shape p t log
going_all shape p t log h = record {
  transaction = h.transaction;
  running = λ e m end. h.running e (own_in t log e m (end.1, λ five. (let four = end.0 in absurd (omega (arith, four, five))))) end;
  in_part = λ y m of. h.in_part y (own_in t log y m of) of;
}

pub going_more : (shape : Shape) (p t : ℕ) (log : Log) (r : Record) → IsGoing shape p t log → (IsEnd r → ⊥) → part_of shape r.at ≡ p → IsGoing shape p t (r ∷ log)
going_more shape p t log r h no_end inside = record {
  transaction = h.transaction;
  running = λ e m end. elim m [ inl same ↦ no_end (ap (λ (x : Record). x.kind) (sym same) ∙ end.0) | inr k ↦ h.running e k end ];
  in_part = λ y m of. elim m [ inl same ↦ ap (λ (x : Record). part_of shape x.at) same ∙ inside | inr k ↦ h.in_part y k of ];
}

-- so t may append
pub running_of : (shape : Shape) (p t : ℕ) (s : State) (r : Record) → IsGoing shape p t s.log → r.transaction ≡ t → part_of shape r.at ≡ p → IsOfRunning shape s.log r
running_of shape p t s r h own inside = record {
  running = subst (λ x. IsRunning s.log x) (sym own) h.running;
  one_part = λ y m of. h.in_part y m (of.0 ∙ own, of.1) ∙ sym inside;
}

pub open_of : (shape : Shape) (p t : ℕ) (s : State) (r : Record) (cells : ℕ) → IsGoing shape p t s.log → r.transaction ≡ t → part_of shape r.at ≡ p →
    HasItsCells shape s r cells → IsOfOpen shape s r cells
open_of shape p t s r cells h own inside its_cells = record {
  transaction = subst (λ x. 1 ≤ x) (sym own) h.transaction;
  kept = its_cells;
  running = running_of shape p t s r h own inside;
}

-- a record of t stays
record_stays : (shape : Shape) (p t : ℕ) (s : State) (plan rest : List Part) (x : State) → Course shape p t s plan rest x → Has (IsOf t) s.log → Has (IsOf t) x.log
record_stays shape p t s plan _ _ begins some = some
record_stays shape p t s plan _ _ (appends {rest = rest} {x = x} cell place number course inside newest) some =
    let h = record_stays shape p t s plan (Append cell ∷ rest) x course some in
    (h.0, inserted_in (appended place number cell) x.log h.0 (inr h.1), h.2)
record_stays shape p t s plan _ _ (makes {rest = rest} {x = x} part course aside) some = record_stays shape p t s plan (part ∷ rest) x course some
record_stays shape p t s plan _ _ (meanwhile {rest = rest} {x = x} y course same) some =
    let h = record_stays shape p t s plan rest x course some in
    let k = own_out t y.log h.0 (subst (λ l. IsAmong l h.0) (sym same) (own_in t x.log h.0 h.1 h.2)) in
    (h.0, k.0, k.1)

pub courses_keep_records : CoursesKeepRecords
courses_keep_records shape p t s plan rest x course some = record_stays shape p t s plan rest x course some

-- ---- clearing

clear_own : (shape : Shape) (s : State) (t : ℕ) (h : Words) (gates ends checkpoints : List ℕ) → shape.policy ≢ 2 → IsEnded s.log t →
    AreGatesOf s.log t gates ends checkpoints → AreDeleted s.log t h → MayClear shape.policy s.log h (IsListed gates ends checkpoints)
clear_own shape s t h gates ends checkpoints force over own zero = record {
  ended = λ r m on. inr (subst (λ x. IsEnded s.log x) (sym ((own r m).0 on).0) over);
  applied = λ r m on is over. elim (has_or_none (IsToUndo s.log r.word) s.log (decide_to_undo s.log r.word)) [
    | inl u ↦ inl u
    | inr none ↦ inr (λ v st. value r m ((own r m).0 on) is over none v st)
  ];
  whole = λ e m on end r k of. (own r k).1 (of.0 ∙ ((own e m).0 on).0, of.1);
  skips = λ c m on check e k end lt r j of. absurd (((own c m).0 on).1 check);
  redone = λ a r m k. force k.0;
}
  where
    value : (r : Record) → IsAmong s.log r → IsOf t r → IsDeletion r → IsCommitted s.log r.transaction → HasNo (IsToUndo s.log r.word) s.log →
        (v : ℕ) → Stands shape.policy s.log h r.word v → v ≡ h r.word
    value r m of is committed none v (undone u first e) = absurd (none u first.among first.has)
    value r m of is committed none v (deleted nu d e) = e ∙ sym (zero (subst (λ x. IsCommitted s.log x) of.0 committed) r.word (r, m, (is, refl, of.0)))
    value r m of is committed none v (redone nu nd x last e) = absurd (force last.has.0)
    value r m of is committed none v (kept nu nd nr e) = e

pub clear_serves : (shape : Shape) (t : ℕ) (x : State) → IsEnded x.log t → ClearServes shape t x
clear_serves shape t x over z v gates ends checkpoints k force may zero reached = closings_keep shape z v x gates ends checkpoints k may.few may.has may.sound may.groups
    (clear_own shape x t (heap_words shape v) gates ends checkpoints force over may.own zero) reached
