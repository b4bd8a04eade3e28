-- An abort under force: each compensation's NEW is stored right behind it, and a fence makes all of them durable.
use Rattle.std.proofs.Common.{◌≡◌, ◌≢◌, inl, inr, ℕ, ◌<◌, ◌≤◌, List, [], ◌∷◌, ◌++◌, refl, sym, ap, ◌∙◌, subst, arith}
use Rattle.persist_model.specs.declared.event.Event.{Event}
use Rattle.persist_model.specs.declared.event.Event.TheVariants.{PStore, Fence}
use Rattle.persist_model.specs.Progress.{Progress, advance, advance_all}
use Rattle.persist_model.specs.Records.{Record, Log, IsAmong, IsOf}
use Rattle.persist_model.specs.Shape.{Shape, heap}
use Rattle.persist_model.specs.Need.{to_undo}
use Rattle.persist_model.specs.State.{State, IsSoundState}
use Rattle.log_laws.specs.Recovering.{AreOnLog}
use Rattle.region_layout.specs.declared.cell.Cell.{Cell}
use Rattle.region_layout.specs.declared.layout.Policy.TheVariants.{Force}
use Rattle.bucket_log.specs.declared.append.Place.{Place}
use Rattle.plan_records.specs.declared.parts.Part.{Part}
use Rattle.plan_records.specs.declared.parts.Part.TheVariants.{Append, Word, Fence as Wait, Clear}
use Rattle.bucket_log.specs.Appends.{region_append}
use Rattle.persist_model.specs.declared.kinds.Outcome.TheVariants.{RolledBack}
use Rattle.plan_records.specs.Cells.{appended}
use Rattle.region_layout.specs.RecordCells.{cell_of_compensation, cell_of_rollback, cell_of_end}
use Rattle.plan_records.specs.Sequences.{undo_parts}
use Rattle.plan_records.specs.Courses.{own_records, AreCellsOf, CanAbort, undo_end, abort_parts}
use Rattle.plan_records.specs.HeapCourses.{AreNewest, Goes, AbortsMeet}
use Rattle.plan_records.proofs.OwnRecords.{to_undo_among}
use Rattle.plan_records.proofs.HeapOwn.{latest_own}
use Rattle.plan_records.proofs.HeapGoing.{Holds, Kept, holds_changed, holds_plain, kept_fenced, kept_reached, goes_fit}
use Rattle.plan_records.proofs.HeapWrites.{holds_first}

-- the cells are of t, and name words of the heap
abbrev AreOfHeap : Shape → ℕ → List Cell → Type 0
AreOfHeap shape t [] = Unit {0}
AreOfHeap shape t (u ∷ us) = (u.transaction ≡ t) × (heap shape ≤ u.word) × AreOfHeap shape t us

cells_of : (shape : Shape) (t : ℕ) (cells : List Cell) (us : Log) → AreCellsOf cells us → ((u : Record) → IsAmong us u → (u.transaction ≡ t) × (heap shape ≤ u.word)) → AreOfHeap shape t cells
cells_of shape t [] us are each = tt
cells_of shape t (cell ∷ cells) [] are each = absurd are
cells_of shape t (cell ∷ cells) (u ∷ us) are each = (
  ap (λ (x : Record). x.transaction) are.0 ∙ (each u (inl refl)).0,
  subst (λ a. heap shape ≤ a) (sym (ap (λ (x : Record). x.word) are.0)) (each u (inl refl)).1,
  cells_of shape t cells us are.1 (λ x m. each x (inr m)),
)

-- what is left of the abort fits these own records and this progress
data Aborting (shape : Shape) (t : ℕ) (o : Log) (z : Progress) : List Part → Type 0 where
  rolls : (us : List Cell) → AreOfHeap shape t us → Holds shape t o z → Aborting shape t o z (Append (cell_of_rollback t) ∷ (undo_parts Force us ++ undo_end Force t))
  compensates : (u : Cell) (us : List Cell) → AreOfHeap shape t (u ∷ us) → Holds shape t o z →
      Aborting shape t o z (Append (cell_of_compensation u) ∷ Word (PStore u.word u.before) ∷ (undo_parts Force us ++ undo_end Force t))
  restores : (u : Cell) (us : List Cell) → AreOfHeap shape t us → Holds shape t o (advance z (PStore u.word u.before)) →
      Aborting shape t o z (Word (PStore u.word u.before) ∷ (undo_parts Force us ++ undo_end Force t))
  fences : Holds shape t o z → Aborting shape t o z (Wait ∷ Append (cell_of_end t RolledBack) ∷ Clear ∷ [])
  ends : Kept shape t o z → Aborting shape t o z (Append (cell_of_end t RolledBack) ∷ Clear ∷ [])
  clears : Aborting shape t o z (Clear ∷ [])

module _ (shape : Shape) (p t : ℕ) where
  enter : (o : Log) (z : Progress) (us : List Cell) → AreOfHeap shape t us → Holds shape t o z → Aborting shape t o z (undo_parts Force us ++ undo_end Force t)
  enter o z [] high h = fences h
  enter o z (u ∷ us) high h = compensates u us high h

  abort_own : (o : Log) (z : Progress) (cell : Cell) (others : List Part) → Aborting shape t o z (Append cell ∷ others) → (cell.transaction ≡ t) × (cell.kind ≢ 5)
  abort_own o z _ _ (rolls us high h) = (refl, λ e. absurd (omega (arith, e)))
  abort_own o z _ _ (compensates u us high h) = (high.0, λ e. absurd (omega (arith, e)))
  abort_own o z _ _ (ends h) = (refl, λ e. absurd (omega (arith, e)))

  abort_add : (o : Log) (z : Progress) (cell : Cell) (others : List Part) (place : Place) (number : ℕ) → Aborting shape t o z (Append cell ∷ others) →
      ((x : Record) → IsAmong o x → IsOf t x → x.lsn < number) → AreOnLog shape (region_append shape p place (appended place number cell)) →
      Aborting shape t (appended place number cell ∷ o) (advance_all z (region_append shape p place (appended place number cell))) others
  abort_add o z _ _ place number (rolls us high h) above on =
      let e : Record = appended place number (cell_of_rollback t) in
      enter (e ∷ o) (advance_all z (region_append shape p place e)) us high
      (holds_plain shape t o z e (region_append shape p place e) (λ c. elim c [ inl k ↦ absurd (omega (arith, k)) | inr k ↦ absurd (omega (arith, k)) ]) on h)
  abort_add o z _ _ place number (compensates u us high h) above on =
      let e : Record = appended place number (cell_of_compensation u) in
      restores u us high.2
      (holds_changed shape t o z e (region_append shape p place e) (inr refl) high.0 high.1 above on h)
  abort_add o z _ _ place number (ends h) above on = clears

  abort_store : (o : Log) (z : Progress) (e : Event) (others : List Part) → Aborting shape t o z (Word e ∷ others) → Aborting shape t o (advance z e) others
  abort_store o z _ _ (restores u us high h) = enter o (advance z (PStore u.word u.before)) us high h

  abort_wait : (o : Log) (z : Progress) (others : List Part) → Aborting shape t o z (Wait ∷ others) → Aborting shape t o (advance z Fence) others
  abort_wait o z _ (fences h) = ends (kept_fenced shape t o z h)

  aborting : (s : State) (updates : List Cell) (q : Progress) (rest : List Part) (x : State) (z : Progress) → IsSoundState shape s → CanAbort shape p t s.log updates →
      AreNewest s.log t q → Goes shape p t s (abort_parts Force t updates) q rest x z → Aborting shape t (own_records t x.log) z rest
  aborting s updates q rest x z sound can h goes = goes_fit shape p t s (abort_parts Force t updates) q (λ o y l. Aborting shape t o y l) abort_own abort_add abort_store abort_wait
      (rolls updates (cells_of shape t updates (to_undo t s.log) can.left
      (λ u m. (let k = to_undo_among t s.log u m in (k.2, ((sound.formed u k.0).change (inl k.1)).0.0))))
      (holds_first shape t s q sound h)) rest x z goes

  last_there : (o : Log) (z : Progress) (cell : Cell) (others : List Part) → cell.kind ≡ 4 → Aborting shape t o z (Append cell ∷ others) → Kept shape t o z
  last_there o z _ _ four (rolls us high h) = absurd (omega (arith, four))
  last_there o z _ _ four (compensates u us high h) = absurd (omega (arith, four))
  last_there o z _ _ four (ends h) = h

pub aborts_meet : AbortsMeet
aborts_meet shape p t s updates q rest x z h sound can first goes may force a r last =
    kept_reached shape t x.log z h (last_there shape p t (own_records t x.log) z _ _ refl (aborting shape p t s updates q _ x z sound can first goes)) may a r (latest_own t a x.log r last)
