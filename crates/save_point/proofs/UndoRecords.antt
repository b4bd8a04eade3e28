-- Going back leaves, by the records, each word's value before the updates.
use Rattle.std.proofs.Common.{◌≡◌, inl, inr, ℕ, ◌==◌, if◌then◌else◌, List, [], ◌∷◌, refl, sym, ap, ◌∙◌, subst, arith}
use Rattle.persist_model.specs.Kinds.{COMPENSATION}
use Rattle.persist_model.specs.Records.{Record, Log}
use Rattle.persist_model.specs.Order.{last_new}
use Rattle.persist_model.specs.Shape.{Shape}
use Rattle.persist_model.specs.State.{State}
use Rattle.log_laws.specs.Closing.{IsSublog, empty, stays, goes}
use Rattle.log_laws.proofs.Deciding.{decide_equal}
use Rattle.log_laws.proofs.Stacks.{IsTo, updates, compensates, neither, is_to}
use Rattle.region_layout.specs.declared.cell.Cell.{Cell}
use Rattle.region_layout.specs.declared.layout.Policy.{Policy}
use Rattle.region_layout.specs.RecordCells.{cell_of_compensation}
use Rattle.bucket_log.specs.declared.append.Place.{Place}
use Rattle.plan_records.specs.declared.parts.Part.{Part}
use Rattle.plan_records.specs.declared.parts.Part.TheVariants.{Append, Word}
use Rattle.plan_records.specs.Cells.{appended}
use Rattle.plan_records.specs.Sequences.{store_of, undo_parts}
use Rattle.plan_records.specs.Courses.{own_records, IsAside, begins, appends, makes, meanwhile}
use Rattle.plan_records.proofs.OwnRecords.{own_first, own_other, own_gained}
use Rattle.save_point.specs.Conditions.{CanGoBack, IsDeletionOf, Undoes}
use Rattle.save_point.specs.Newest.{undone_value, RecordsUndo}
use Rattle.save_point.proofs.UndoCourse.{after_append, fits}

last_new_own : (t a d : ℕ) (log : Log) → last_new t a d log ≡ last_new t a d (own_records t log)
last_new_own t a d [] = refl
last_new_own t a d (r ∷ log) = by (is_to t r) (last_new_own t a d log)
  where
    by : IsTo t r → last_new t a d log ≡ last_new t a d (own_records t log) → last_new t a d (r ∷ log) ≡ last_new t a d (own_records t (r ∷ log))
    by (updates one is own) again = rw (own_first t r log (own, λ five. (let e = is in omega (arith, e, five)))) (rw one (ap (λ n. if r.word == a then r.after else n) again))
    by (compensates not_one two is own) again =
        rw (own_first t r log (own, λ five. (let e = is in omega (arith, e, five)))) (rw (not_one, two) (ap (λ n. if r.word == a then r.after else n) again))
    by (neither not_one not_two k) again = elim (decide_equal r.transaction t) [
      | inr ne ↦ rw (own_other t r log (λ of. ne of.0)) (rw (not_one, not_two) again)
      | inl own ↦ elim (decide_equal r.kind 5) [
        | inl five ↦ rw (own_other t r log (λ of. of.1 five)) (rw (not_one, not_two) again)
        | inr some ↦ rw (own_first t r log (own, some)) (rw (not_one, not_two) again)
      ]
    ]

last_new_less : (t a d : ℕ) (r : Record) (log : Log) → r.kind ≡ COMPENSATION → r.transaction ≡ t → last_new t a d (r ∷ log) ≡ (if r.word == a then r.after else last_new t a d log)
last_new_less t a d r log is own = by (is_to t r)
  where
    by : IsTo t r → last_new t a d (r ∷ log) ≡ (if r.word == a then r.after else last_new t a d log)
    by (updates one update own') = absurd (omega (arith, is, update))
    by (compensates not_one two comp own') = rw (not_one, two) refl
    by (neither not_one not_two k) = absurd ((k own).1 is)

last_new_closed : (t u a d : ℕ) (later log : Log) → IsSublog (IsDeletionOf t) later log → last_new u a d later ≡ last_new u a d log
last_new_closed t u a d _ _ empty = refl
last_new_closed t u a d _ _ (stays r part) = rw (last_new_closed t u a d _ _ part) refl
last_new_closed t u a d _ _ (goes g {later = later} {log = log} is part) = by (is_to u g) (last_new_closed t u a d _ _ part)
  where
    by : IsTo u g → last_new u a d later ≡ last_new u a d log → last_new u a d later ≡ last_new u a d (g ∷ log)
    by (updates one update own) again = (let six = is.0 in absurd (omega (arith, six, update)))
    by (compensates not_one two comp own) again = (let six = is.0 in absurd (omega (arith, six, comp)))
    by (neither not_one not_two k) again = rw (not_one, not_two) again

-- what is left of the undo leaves this value
data Tells (policy : Policy) (t a d value : ℕ) (o : Log) : List Part → Type 0 where
  notes : (u : Cell) (us : List Cell) → undone_value (u ∷ us) a (last_new t a d o) ≡ value →
      Tells policy t a d value o (Append (cell_of_compensation u) ∷ Word (store_of policy u.word u.before) ∷ undo_parts policy us)
  sets : (u : Cell) (us : List Cell) → undone_value us a (last_new t a d o) ≡ value → Tells policy t a d value o (Word (store_of policy u.word u.before) ∷ undo_parts policy us)
  is_left : last_new t a d o ≡ value → Tells policy t a d value o []

module _ (policy : Policy) (shape : Shape) (p t a d value : ℕ) where
  come : (o : Log) (us : List Cell) → undone_value us a (last_new t a d o) ≡ value → Tells policy t a d value o (undo_parts policy us)
  come o [] e = is_left e
  come o (u ∷ us) e = notes u us e

  noted : (o : Log) (cell : Cell) (others : List Part) (place : Place) (number : ℕ) → cell.transaction ≡ t → Tells policy t a d value o (Append cell ∷ others) →
      Tells policy t a d value (appended place number cell ∷ o) others
  noted o _ _ place number own (notes u us e) = sets u us (ap (undone_value us a) (last_new_less t a d (appended place number (cell_of_compensation u)) o refl own) ∙ e)

  aside : (o : Log) (part : Part) (others : List Part) → Tells policy t a d value o (part ∷ others) → IsAside part → Tells policy t a d value o others
  aside o _ _ (notes u us e) off = absurd off
  aside o _ _ (sets u us e) off = come o us e

  along : (s : State) (us : List Cell) (left : Log) (x : State) (others : List Part) → CanGoBack shape p t s.log us left →
      undone_value us a (last_new t a d (own_records t s.log)) ≡ value → Undoes policy shape p t s us others x → Tells policy t a d value (own_records t x.log) others
  along s us left _ _ can e begins = come (own_records t s.log) us e
  along s us left _ _ can e (appends {rest = others} {x = x} cell place number course inside newest) =
      let k = after_append policy shape p t left (own_records t s.log) (own_records t x.log) cell place number others (fits policy shape p t s us left (Append cell ∷ others) x can course) inside in
      subst (λ o. Tells policy t a d value o others)
      (sym (own_gained t (appended place number cell) x.log (k.0, (let two = k.1 in λ five. absurd (omega (arith, two, five)))) newest))
      (noted (own_records t x.log) cell others place number k.0 (along s us left x (Append cell ∷ others) can e course))
  along s us left _ _ can e (makes {rest = others} {x = x} part course off) = aside (own_records t x.log) part others (along s us left x (part ∷ others) can e course) off
  along s us left _ _ can e (meanwhile {rest = others} {x = x} y course same) = subst (λ o. Tells policy t a d value o others) (sym same) (along s us left x others can e course)

  over : (o : Log) → Tells policy t a d value o [] → last_new t a d o ≡ value
  over o (is_left e) = e

pub records_undo : RecordsUndo
records_undo = record {
  undone = λ policy shape p t s us left x a d can course.
      (let value : ℕ = undone_value us a (last_new t a d s.log) in
      last_new_own t a d x.log ∙ over policy shape p t a d value (own_records t x.log)
      (along policy shape p t a d value s us left x [] can (ap (undone_value us a) (sym (last_new_own t a d s.log))) course));
  closed = last_new_closed;
}
