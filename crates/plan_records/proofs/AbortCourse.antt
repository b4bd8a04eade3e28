-- Wherever a lane has come in an abort, its next part may begin: what is left of the plan fits the transaction's own records.
use Rattle.std.proofs.Common.{◌≡◌, ◌≢◌, inl, inr, ℕ, ◌≤◌, List, [], ◌∷◌, ◌++◌, refl, sym, ap, ◌∙◌, subst, arith}
use Rattle.persist_model.specs.Records.{Record, Log, IsAmong, Has, HasNo, IsOf, IsUpdate, IsRollback, IsEnd, IsEnded, IsRunning}
use Rattle.persist_model.specs.Shape.{Shape, part_of}
use Rattle.persist_model.specs.Need.{rest, to_undo}
use Rattle.persist_model.specs.State.{State}
use Rattle.log_laws.specs.Recovery.{HasDecidingRecord}
use Rattle.region_layout.specs.declared.cell.Cell.{Cell}
use Rattle.region_layout.specs.declared.layout.Policy.{Policy}
use Rattle.region_layout.specs.declared.layout.Policy.TheVariants.{Force, NoForce}
use Rattle.bucket_log.specs.declared.append.Place.{Place}
use Rattle.plan_records.specs.declared.parts.Part.{Part}
use Rattle.plan_records.specs.declared.parts.Part.TheVariants.{Append, Word, Fence, Clear}
use Rattle.bucket_log.specs.Plans.{place_address}
use Rattle.persist_model.specs.declared.kinds.Outcome.TheVariants.{RolledBack}
use Rattle.plan_records.specs.Cells.{appended, IsCellOf}
use Rattle.region_layout.specs.RecordCells.{cell_of_compensation, cell_of_rollback, cell_of_end}
use Rattle.plan_records.specs.Sequences.{store_of, undo_parts}
use Rattle.plan_records.specs.Passing.{inserted}
use Rattle.plan_records.specs.Courses.{own_records, IsAside, Course, begins, appends, makes, meanwhile, IsCoveredStore, MayBegin, IsGoing, AreCellsOf, CanAbort, undo_end, abort_parts, AbortsGoOn}
use Rattle.plan_records.proofs.OwnRecords.{own_gained, own_in, own_out, to_undo_own, to_undo_plain, to_undo_less, to_undo_among}
use Rattle.plan_records.proofs.Going.{part_is, going_own, going_all, going_more, running_of, open_of, clear_serves}
use Rattle.plan_records.proofs.Records.{rollbacks_keep, compensations_keep}
use Rattle.plan_records.proofs.UndoneEnds.{undone_ends_keep}

-- the words of an update of t, which is left or was compensated
abbrev HasUpdated : ℕ → Log → ℕ → Type 0
HasUpdated t log a = Has (λ u. IsUpdate u × (u.word ≡ a) × (u.transaction ≡ t)) log

-- The next part of the abort, and what follows it, fit these own records.
data Next (policy : Policy) (shape : Shape) (p t : ℕ) (o : Log) : Part → List Part → Type 0 where
  rolls : (us : List Cell) → IsGoing shape p t o → HasNo (λ x. IsOf t x × IsRollback x) o → AreCellsOf us (to_undo t o) →
      Next policy shape p t o (Append (cell_of_rollback t)) (undo_parts policy us ++ undo_end policy t)
  compensates : (u : Cell) (us : List Cell) → IsGoing shape p t o → AreCellsOf (u ∷ us) (to_undo t o) →
      Next policy shape p t o (Append (cell_of_compensation u)) (Word (store_of policy u.word u.before) ∷ (undo_parts policy us ++ undo_end policy t))
  restores : (u : Cell) (us : List Cell) → IsGoing shape p t o → AreCellsOf us (to_undo t o) → HasUpdated t o u.word →
      Next policy shape p t o (Word (store_of policy u.word u.before)) (undo_parts policy us ++ undo_end policy t)
  waits : IsGoing shape p t o → to_undo t o ≡ [] → Next policy shape p t o Fence (Append (cell_of_end t RolledBack) ∷ Clear ∷ [])
  ends : IsGoing shape p t o → to_undo t o ≡ [] → Next policy shape p t o (Append (cell_of_end t RolledBack)) []
  ends_to_clear : IsGoing shape p t o → to_undo t o ≡ [] → Next policy shape p t o (Append (cell_of_end t RolledBack)) (Clear ∷ [])
  clears : IsEnded o t → Next policy shape p t o Clear []

data Fits (policy : Policy) (shape : Shape) (p t : ℕ) (o : Log) : List Part → Type 0 where
  comes : {part : Part} {others : List Part} → Next policy shape p t o part others → Fits policy shape p t o (part ∷ others)
  done : Fits policy shape p t o []

no_cells : (l : Log) → AreCellsOf [] l → l ≡ []
no_cells [] h = refl
no_cells (u ∷ l) h = absurd h

-- the update on top, and those below
first_cell : (u : Cell) (us : List Cell) (l : Log) → AreCellsOf (u ∷ us) l → (v : Record) × (stack : Log) × (l ≡ v ∷ stack) × IsCellOf u v × AreCellsOf us stack
first_cell u us [] h = absurd h
first_cell u us (v ∷ stack) h = (v, stack, refl, h.0, h.1)

module _ (policy : Policy) (shape : Shape) (p t : ℕ) where
  enter : (o : Log) (us : List Cell) → IsGoing shape p t o → AreCellsOf us (to_undo t o) → Fits policy shape p t o (undo_parts policy us ++ undo_end policy t)
  enter o (u ∷ us) going cells = comes (compensates u us going cells)
  enter o [] going cells = by policy
    where
      by : (q : Policy) → Fits q shape p t o (undo_end q t)
      by Force = comes (waits going (no_cells (to_undo t o) cells))
      by NoForce = comes (ends going (no_cells (to_undo t o) cells))

  ended : (o : Log) (e : Record) → IsEnd e → e.transaction ≡ t → IsEnded (e ∷ o) t
  ended o e is own = (e, inl refl, (is, own))

  after_append : (o : Log) (cell : Cell) (place : Place) (number : ℕ) (others : List Part) → Next policy shape p t o (Append cell) others →
      part_of shape (place_address place) ≡ p → (cell.transaction ≡ t) × Fits policy shape p t (appended place number cell ∷ o) others
  after_append o _ place number _ (rolls us going first cells) inside = (
    refl,
    enter (appended place number (cell_of_rollback t) ∷ o) us
        (going_more shape p t o (appended place number (cell_of_rollback t)) going (λ e. absurd (omega (arith, e))) inside)
        (subst (AreCellsOf us) (sym (to_undo_plain t (appended place number (cell_of_rollback t)) o (λ e. absurd (omega (arith, e))) (λ e. absurd (omega (arith, e))))) cells),
  )
  after_append o _ place number _ (compensates u us going cells) inside =
      let top = first_cell u us (to_undo t o) cells in
      let v = to_undo_among t o top.0 (subst (λ l. IsAmong l top.0) (sym top.2) (inl refl)) in
      let own : u.transaction ≡ t = ap (λ (x : Record). x.transaction) top.3 ∙ v.2 in
      let c : Record = appended place number (cell_of_compensation u) in (
        own,
        comes (restores u us (going_more shape p t o c going (λ e. absurd (omega (arith, e))) inside)
            (subst (AreCellsOf us) (sym (to_undo_less t c o refl own ∙ ap rest top.2)) top.4)
            (top.0, inr v.0, (v.1, ap (λ (x : Record). x.word) (sym top.3), v.2))),
      )
  after_append o _ place number _ (ends going left) inside = (refl, done)
  after_append o _ place number _ (ends_to_clear going left) inside = (refl, comes (clears (ended o (appended place number (cell_of_end t RolledBack)) refl refl)))

  after_aside : (o : Log) (part : Part) (others : List Part) → Next policy shape p t o part others → IsAside part → Fits policy shape p t o others
  after_aside o _ _ (rolls us going first cells) aside = absurd aside
  after_aside o _ _ (compensates u us going cells) aside = absurd aside
  after_aside o _ _ (restores u us going cells has) aside = enter o us going cells
  after_aside o _ _ (waits going left) aside = comes (ends_to_clear going left)
  after_aside o _ _ (ends going left) aside = absurd aside
  after_aside o _ _ (ends_to_clear going left) aside = absurd aside
  after_aside o _ _ (clears over) aside = absurd aside

  -- a course keeps what is left fitting
  fits : (s : State) (us : List Cell) (x : State) (others : List Part) → CanAbort shape p t s.log us → Course shape p t s (abort_parts policy t us) others x →
      Fits policy shape p t (own_records t x.log) others
  fits s us _ _ can begins = comes (rolls us (going_own shape p t s.log can.going) (λ r m k. can.first r (own_out t s.log r m).0 k) (subst (AreCellsOf us) (to_undo_own t s.log) can.left))
  fits s us _ _ can (appends {rest = others} {x = x} cell place number course inside newest) = by (fits s us x (Append cell ∷ others) can course)
    where
      by : Fits policy shape p t (own_records t x.log) (Append cell ∷ others) → Fits policy shape p t (own_records t (inserted (appended place number cell) x.log)) others
      by (comes next) =
          let k = after_append (own_records t x.log) cell place number others next inside in
          subst (λ o. Fits policy shape p t o others) (sym (own_gained t (appended place number cell) x.log (k.0, kind cell others next) newest)) k.1
        where
          kind : (cell : Cell) (others : List Part) → Next policy shape p t (own_records t x.log) (Append cell) others → cell.kind ≢ 5
          kind _ _ (rolls us going first cells) = λ e. absurd (omega (arith, e))
          kind _ _ (compensates u us going cells) = λ e. absurd (omega (arith, e))
          kind _ _ (ends going left) = λ e. absurd (omega (arith, e))
          kind _ _ (ends_to_clear going left) = λ e. absurd (omega (arith, e))
  fits s us _ _ can (makes {rest = others} {x = x} part course aside) = by (fits s us x (part ∷ others) can course)
    where
      by : Fits policy shape p t (own_records t x.log) (part ∷ others) → Fits policy shape p t (own_records t x.log) others
      by (comes next) = after_aside (own_records t x.log) part others next aside
  fits s us _ _ can (meanwhile {rest = others} {x = x} y course same) = subst (λ o. Fits policy shape p t o others) (sym same) (fits s us x others can course)

  -- ---- and so the next part may begin

  last : (x : State) → IsGoing shape p t (own_records t x.log) → to_undo t (own_records t x.log) ≡ [] → MayBegin shape p t x (Append (cell_of_end t RolledBack))
  last x going left = λ w chain place number may. record {
    updates = λ one. absurd (omega (arith, one));
    deletes = λ six. absurd (omega (arith, six));
    commits = λ four one. absurd (omega (arith, one));
    ends = λ _ _ kept. undone_ends_keep shape p w x chain place number t may (record {
      open_one = open_of shape p t x (appended place number (cell_of_end t RolledBack)) 1 (going_all shape p t x.log going) refl
          (part_is shape p w x chain place (appended place number (cell_of_end t RolledBack)) may) kept;
      nothing_left = to_undo_own t x.log ∙ left;
    });
    keeps = λ _ ne _ _. absurd (ne refl);
  }

  begin : (x : State) (part : Part) (others : List Part) → Next policy shape p t (own_records t x.log) part others → MayBegin shape p t x part
  begin x _ _ (rolls us going first cells) = λ w chain place number may. record {
    updates = λ one. absurd (omega (arith, one));
    deletes = λ six. absurd (omega (arith, six));
    commits = λ four. absurd (omega (arith, four));
    ends = λ four. absurd (omega (arith, four));
    keeps = λ _ _ _ kept. rollbacks_keep shape p w x chain place number t may (record {
      open_one = open_of shape p t x (appended place number (cell_of_rollback t)) 2 (going_all shape p t x.log going) refl
          (part_is shape p w x chain place (appended place number (cell_of_rollback t)) may) (kept refl);
      first = λ r m k. first r (own_in t x.log r m k.0) k;
    });
  }
  begin x _ _ (compensates u us going cells) =
      let top = first_cell u us (to_undo t (own_records t x.log)) cells in
      let v = to_undo_among t (own_records t x.log) top.0 (subst (λ l. IsAmong l top.0) (sym top.2) (inl refl)) in
      let own : u.transaction ≡ t = ap (λ (y : Record). y.transaction) top.3 ∙ v.2 in
      λ w chain place number may. record {
        updates = λ one. absurd (omega (arith, one));
        deletes = λ six. absurd (omega (arith, six));
        commits = λ four. absurd (omega (arith, four));
        ends = λ four. absurd (omega (arith, four));
        keeps = λ _ _ _ _. compensations_keep shape p w x chain place number top.0 u top.3 may (record {
          transaction = subst (λ y. 1 ≤ y) (sym own) going.transaction;
          running = running_of shape p t x (appended place number (cell_of_compensation u)) (going_all shape p t x.log going) own
              (part_is shape p w x chain place (appended place number (cell_of_compensation u)) may);
          stack = top.1;
          newest = ap (λ y. to_undo y x.log) own ∙ to_undo_own t x.log ∙ top.2;
        });
      }
  begin x _ _ (restores u us going cells has) = by policy
    where
      covered : HasDecidingRecord shape.policy x.log u.word
      covered = inl (has.0, (own_out t x.log has.0 has.1).0, (has.2.0, has.2.1, subst (λ y. IsRunning x.log y) (sym has.2.2) (going_all shape p t x.log going).running))

      by : (q : Policy) → IsCoveredStore shape.policy x.log (store_of q u.word u.before)
      by Force = covered
      by NoForce = covered
  begin x _ _ (waits going left) = tt
  begin x _ _ (ends going left) = last x going left
  begin x _ _ (ends_to_clear going left) = last x going left
  begin x _ _ (clears over) = clear_serves shape t x (over.0, (own_out t x.log over.0 over.1).0, over.2)

pub aborts_go_on : AbortsGoOn
aborts_go_on policy shape p t s us can part others x course = by (fits policy shape p t s us x (part ∷ others) can course)
  where
    by : Fits policy shape p t (own_records t x.log) (part ∷ others) → MayBegin shape p t x part
    by (comes next) = begin policy shape p t x part others next
