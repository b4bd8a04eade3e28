-- Under force a lane that goes back stays in step with its transaction's records.
use Rattle.std.proofs.Common.{◌≡◌, ◌≢◌, ◌⊎◌, inl, inr, ℕ, true, false, ◌<◌, ◌≤◌, ◌==◌, List, [], ◌∷◌, ◌++◌, refl, sym, ap, ◌∙◌, subst, arith}
use Rattle.std.proofs.lemmas.Bool.Decides.{eqb_tells}
use Rattle.persist_model.specs.Kinds.{COMPENSATION}
use Rattle.persist_model.specs.declared.event.Event.{Event}
use Rattle.persist_model.specs.declared.event.Event.TheVariants.{Store, PStore, WriteBack, Fence}
use Rattle.persist_model.specs.Progress.{Progress, Wrote, advance, advance_all}
use Rattle.persist_model.specs.Records.{Record, Log, IsAmong, IsOf, IsChange}
use Rattle.persist_model.specs.Shape.{Shape, heap}
use Rattle.persist_model.specs.Standing.{IsLatest}
use Rattle.persist_model.specs.State.{State, IsSoundState}
use Rattle.persist_model.proofs.Tracking.{Wrote-push_other}
use Rattle.persist_model.proofs.Projecting.{IsEventAway, AreAway, IsDue-stored, IsDue-away, IsDue-aways, latest-push}
use Rattle.log_laws.specs.Moves.{IsChangeBy}
use Rattle.log_laws.specs.Recovering.{IsOnLog, AreOnLog}
use Rattle.region_layout.specs.declared.cell.Cell.{Cell}
use Rattle.region_layout.specs.declared.layout.Policy.TheVariants.{Force}
use Rattle.region_layout.specs.RecordCells.{cell_of_compensation}
use Rattle.bucket_log.specs.declared.append.Place.{Place}
use Rattle.bucket_log.specs.Appends.{region_append}
use Rattle.plan_records.specs.declared.parts.Part.{Part}
use Rattle.plan_records.specs.declared.parts.Part.TheVariants.{Append, Word}
use Rattle.plan_records.specs.Cells.{appended}
use Rattle.plan_records.specs.Sequences.{undo_parts}
use Rattle.plan_records.specs.Courses.{own_records, AreCellsOf}
use Rattle.plan_records.specs.HeapCourses.{newest, IsChanged, AreNewest, IsInStep, Goes, begins, appends, stores, waits, meanwhile}
use Rattle.plan_records.proofs.OwnRecords.{own_out, own_gained, to_undo_among}
use Rattle.plan_records.proofs.HeapOwn.{latest_changed, newest_own, newest_all, changed_own, changed_all}
use Rattle.save_point.specs.Conditions.{CanGoBack}
use Rattle.save_point.specs.Newest.{undone_value}

-- ---- events on the log's words

pub on_log_away : (shape : Shape) (a : ℕ) (es : List Event) → heap shape ≤ a → AreOnLog shape es → AreAway a es
on_log_away shape a [] high on = tt
on_log_away shape a (e ∷ es) high on = (of e on.0, on_log_away shape a es high on.1)
  where
    of : (e : Event) → IsOnLog shape e → IsEventAway a e
    of (Store b v) m = tt
    of (PStore b v) m = λ same. absurd (omega (arith, m, same, high))
    of (WriteBack b) m = tt
    of Fence m = tt

-- what is pending for a word was pending before events that don't store to it
pub pending_back : (z : Progress) (a v : ℕ) (es : List Event) → AreAway a es → Wrote (advance_all z es).pending a v → Wrote z.pending a v
pending_back z a v [] away h = h
pending_back z a v (e ∷ es) away h = of e away.0 (pending_back (advance z e) a v es away.1 h)
  where
    of : (e : Event) → IsEventAway a e → Wrote (advance z e).pending a v → Wrote z.pending a v
    of (Store b u) m k = k
    of (PStore b u) m k = Wrote-push_other z.pending b u a v m k
    of (WriteBack b) m k = k
    of Fence m k = absurd k

-- ---- in step, on the own records

record Steps (shape : Shape) (t : ℕ) (o : Log) (z : Progress) : Type 0 where
  pub high : (r : Record) → IsAmong o r → IsChange r → r.transaction ≡ t → heap shape ≤ r.word
  pub newest_is : AreNewest o t z
  pub no_other : (a v : ℕ) → heap shape ≤ a → Wrote z.pending a v → IsChanged o t a

-- a change of the log, and the store of its NEW
steps_changed : (shape : Shape) (t : ℕ) (o : Log) (z : Progress) (e : Record) (es : List Event) → IsChange e → e.transaction ≡ t → heap shape ≤ e.word →
    ((x : Record) → IsAmong o x → IsOf t x → x.lsn < e.lsn) → AreOnLog shape es → Steps shape t o z → Steps shape t (e ∷ o) (advance (advance_all z es) (PStore e.word e.after))
steps_changed shape t o z e es change own up above on h = record {
  high = λ r m is of. elim m [ inl same ↦ subst (λ (x : Record). heap shape ≤ x.word) (sym same) up | inr k ↦ h.high r k is of ];
  newest_is = λ a r last. value a r (latest_changed t a e o r change own above last);
  no_other = λ a v low k. other a v low k (eqb_tells e.word a);
}
  where
    value : (a : ℕ) (r : Record) → ((e.word ≡ a) × (r ≡ e)) ⊎ ((e.word ≢ a) × IsLatest (IsChangeBy t a) o r) → newest (advance (advance_all z es) (PStore e.word e.after)) a ≡ r.after
    value a r (inl k) = subst (λ b. newest (advance (advance_all z es) (PStore e.word e.after)) b ≡ r.after) k.0
        (IsDue-stored (advance_all z es) e.word e.after ∙ ap (λ (x : Record). x.after) (sym k.1))
    value a r (inr k) = IsDue-away (advance_all z es) a r.after (PStore e.word e.after) k.0
        (IsDue-aways z a r.after es (on_log_away shape a es (subst (λ b. heap shape ≤ b) k.1.has.1 (h.high r k.1.among k.1.has.0 k.1.has.2)) on) (h.newest_is a r k.1))

    other : (a v : ℕ) → heap shape ≤ a → Wrote (advance (advance_all z es) (PStore e.word e.after)).pending a v →
        (((e.word == a) ≡ true) × (e.word ≡ a)) ⊎ (((e.word == a) ≡ false) × (e.word ≢ a)) → IsChanged (e ∷ o) t a
    other a v low k (inl same) = (e, inl refl, (change, same.1, own))
    other a v low k (inr ne) =
        let r = h.no_other a v low (pending_back z a v es (on_log_away shape a es low on) (Wrote-push_other (advance_all z es).pending e.word e.after a v ne.1 k)) in
        (r.0, inr r.1, r.2)

-- ---- along the undo

-- the cells are of t, and name words of the heap
abbrev AreOfHeap : Shape → ℕ → List Cell → Type 0
AreOfHeap shape t [] = Unit {0}
AreOfHeap shape t (u ∷ us) = (u.transaction ≡ t) × (heap shape ≤ u.word) × AreOfHeap shape t us

cells_of : (shape : Shape) (t : ℕ) (cells : List Cell) (us : Log) → AreCellsOf cells us → ((u : Record) → IsAmong us u → (u.transaction ≡ t) × (heap shape ≤ u.word)) → AreOfHeap shape t cells
cells_of shape t [] us are each = tt
cells_of shape t (cell ∷ cells) [] are each = absurd are
cells_of shape t (cell ∷ cells) (u ∷ us) are each = (
  ap (λ (x : Record). x.transaction) are.0 ∙ (each u (inl refl)).0,
  subst (λ a. heap shape ≤ a) (sym (ap (λ (x : Record). x.word) are.0)) (each u (inl refl)).1,
  cells_of shape t cells us are.1 (λ x m. each x (inr m)),
)

front_in : (front left : Log) (u : Record) → IsAmong front u → IsAmong (front ++ left) u
front_in [] left u m = absurd m
front_in (x ∷ front) left u (inl e) = inl e
front_in (x ∷ front) left u (inr m) = inr (front_in front left u m)

-- what is left of the undo fits these own records and this progress
data Going (shape : Shape) (t : ℕ) (o : Log) (z : Progress) : List Part → Type 0 where
  compensates : (u : Cell) (us : List Cell) → AreOfHeap shape t (u ∷ us) → Steps shape t o z →
      Going shape t o z (Append (cell_of_compensation u) ∷ Word (PStore u.word u.before) ∷ undo_parts Force us)
  restores : (u : Cell) (us : List Cell) → AreOfHeap shape t us → Steps shape t o (advance z (PStore u.word u.before)) →
      Going shape t o z (Word (PStore u.word u.before) ∷ undo_parts Force us)
  done : Steps shape t o z → Going shape t o z []

module _ (shape : Shape) (p t : ℕ) where
  enter : (o : Log) (z : Progress) (us : List Cell) → AreOfHeap shape t us → Steps shape t o z → Going shape t o z (undo_parts Force us)
  enter o z [] high h = done h
  enter o z (u ∷ us) high h = compensates u us high h

  after_append : (o : Log) (z : Progress) (cell : Cell) (others : List Part) (place : Place) (number : ℕ) → Going shape t o z (Append cell ∷ others) →
      ((x : Record) → IsAmong o x → IsOf t x → x.lsn < number) → AreOnLog shape (region_append shape p place (appended place number cell)) →
      (cell.transaction ≡ t) × (cell.kind ≡ COMPENSATION) × Going shape t (appended place number cell ∷ o) (advance_all z (region_append shape p place (appended place number cell))) others
  after_append o z _ _ place number (compensates u us high h) above on =
      let c : Record = appended place number (cell_of_compensation u) in
      (high.0, refl, restores u us high.2 (steps_changed shape t o z c (region_append shape p place c) (inr refl) high.0 high.1 above on h))

  after_store : (o : Log) (z : Progress) (e : Event) (others : List Part) → Going shape t o z (Word e ∷ others) → Going shape t o (advance z e) others
  after_store o z _ _ (restores u us high h) = enter o (advance z (PStore u.word u.before)) us high h

  along : (s : State) (us : List Cell) (q : Progress) (rest : List Part) (x : State) (z : Progress) → AreOfHeap shape t us → Steps shape t (own_records t s.log) q →
      Goes shape p t s (undo_parts Force us) q rest x z → Going shape t (own_records t x.log) z rest
  along s us q _ _ _ high h begins = enter (own_records t s.log) q us high h
  along s us q _ _ _ high h (appends {rest = others} {x = x} {z = z} cell place number goes inside above on) =
      let k = after_append (own_records t x.log) z cell others place number (along s us q (Append cell ∷ others) x z high h goes) (λ y m of. above y (own_out t x.log y m).0 of) on in
      subst (λ o. Going shape t o (advance_all z (region_append shape p place (appended place number cell))) others)
      (sym (own_gained t (appended place number cell) x.log (k.0, (let two = k.1 in λ five. absurd (omega (arith, two, five)))) above)) k.2
  along s us q _ _ _ high h (stores {rest = others} {x = x} {z = z} e goes) = after_store (own_records t x.log) z e others (along s us q (Word e ∷ others) x z high h goes)
  along s us q _ _ _ high h (waits {rest = others} {x = x} {z = z} goes) = elim (along s us q _ x z high h goes) [ ]
  along s us q _ _ _ high h (meanwhile {rest = others} {x = x} {z = z} y goes same) = subst (λ o. Going shape t o z others) (sym same) (along s us q others x z high h goes)

  over : (x : State) (z : Progress) → Going shape t (own_records t x.log) z [] → IsInStep shape x.log t z
  over x z (done h) = record { newest_values = newest_all x.log t z h.newest_is; no_other = λ a v up k. changed_all x.log t a (h.no_other a v up k) }

pub undo_in_step : (shape : Shape) (p t : ℕ) (s : State) (us : List Cell) (left : Log) (q : Progress) (x : State) (z : Progress) → IsSoundState shape s →
    CanGoBack shape p t s.log us left → IsInStep shape s.log t q → Goes shape p t s (undo_parts Force us) q [] x z → IsInStep shape x.log t z
undo_in_step shape p t s us left q x z sound can h goes = over shape p t x z (along shape p t s us q [] x z
    (cells_of shape t us can.front can.cells (λ u m.
    (let k = to_undo_among t s.log u (subst (λ l. IsAmong l u) (sym can.newest) (front_in can.front left u m)) in (k.2, ((sound.formed u k.0).change (inl k.1)).0.0))))
    (record {
      high = λ r m change own. ((sound.formed r (own_out t s.log r m).0).change change).0.0;
      newest_is = newest_own s.log t q h.newest_values;
      no_other = λ a v up k. changed_own s.log t a (h.no_other a v up k);
    }) goes)

-- ---- the values

-- what is left of the undo leaves this value
data Leaves (a value : ℕ) (z : Progress) : List Part → Type 0 where
  notes : (u : Cell) (us : List Cell) → undone_value (u ∷ us) a (newest z a) ≡ value → Leaves a value z (Append (cell_of_compensation u) ∷ Word (PStore u.word u.before) ∷ undo_parts Force us)
  sets : (u : Cell) (us : List Cell) → undone_value (u ∷ us) a (newest z a) ≡ value → Leaves a value z (Word (PStore u.word u.before) ∷ undo_parts Force us)
  is_left : newest z a ≡ value → Leaves a value z []

module _ (shape : Shape) (p t a : ℕ) (up : heap shape ≤ a) (value : ℕ) where
  come : (z : Progress) (us : List Cell) → undone_value us a (newest z a) ≡ value → Leaves a value z (undo_parts Force us)
  come z [] e = is_left e
  come z (u ∷ us) e = notes u us e

  noted : (z : Progress) (cell : Cell) (others : List Part) (es : List Event) → AreOnLog shape es → Leaves a value z (Append cell ∷ others) → Leaves a value (advance_all z es) others
  noted z _ _ es on (notes u us e) = sets u us (ap (λ n. undone_value (u ∷ us) a n) (IsDue-aways z a (newest z a) es (on_log_away shape a es up on) refl) ∙ e)

  set : (z : Progress) (e : Event) (others : List Part) → Leaves a value z (Word e ∷ others) → Leaves a value (advance z e) others
  set z _ _ (sets u us e) = come (advance z (PStore u.word u.before)) us (ap (undone_value us a) (latest-push z.pending u.word u.before a (z.durable a)) ∙ e)

  left_along : (s : State) (us : List Cell) (q : Progress) (rest : List Part) (x : State) (z : Progress) → undone_value us a (newest q a) ≡ value →
      Goes shape p t s (undo_parts Force us) q rest x z → Leaves a value z rest
  left_along s us q _ _ _ e begins = come q us e
  left_along s us q _ _ _ e (appends {rest = others} {x = x} {z = z} cell place number goes inside above on) =
      noted z cell others (region_append shape p place (appended place number cell)) on (left_along s us q (Append cell ∷ others) x z e goes)
  left_along s us q _ _ _ e (stores {rest = others} {x = x} {z = z} event goes) = set z event others (left_along s us q (Word event ∷ others) x z e goes)
  left_along s us q _ _ _ e (waits {rest = others} {x = x} {z = z} goes) = elim (left_along s us q _ x z e goes) [ ]
  left_along s us q _ _ _ e (meanwhile {rest = others} {x = x} {z = z} y goes same) = left_along s us q others x z e goes

  over_value : (z : Progress) → Leaves a value z [] → newest z a ≡ value
  over_value z (is_left e) = e

pub undo_values : (shape : Shape) (p t : ℕ) (s : State) (us : List Cell) (q : Progress) (x : State) (z : Progress) (a : ℕ) → heap shape ≤ a →
    Goes shape p t s (undo_parts Force us) q [] x z → newest z a ≡ undone_value us a (newest q a)
undo_values shape p t s us q x z a up goes =
    let value : ℕ = undone_value us a (newest q a) in
    over_value shape p t a up value z (left_along shape p t a up value s us q [] x z refl goes)
