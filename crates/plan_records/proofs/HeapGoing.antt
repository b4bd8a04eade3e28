-- How what a lane's stores have settled goes along with its course.
use Rattle.std.proofs.Common.{◌≡◌, ◌≢◌, ◌⊎◌, inl, inr, ℕ, true, false, ◌==◌, ◌<◌, ◌≤◌, List, [], ◌∷◌, refl, sym, ap, ◌∙◌, subst, arith}
use Rattle.std.proofs.lemmas.Bool.Decides.{eqb_tells}
use Rattle.persist_model.specs.declared.event.Event.{Event}
use Rattle.persist_model.specs.declared.event.Event.TheVariants.{Store, PStore, WriteBack, Fence}
use Rattle.persist_model.specs.Region.{Words}
use Rattle.persist_model.specs.Progress.{Progress, Wrote, advance, advance_all}
use Rattle.persist_model.specs.Records.{Record, Log, IsAmong, IsOf, IsChange}
use Rattle.persist_model.specs.Shape.{Shape, heap}
use Rattle.persist_model.specs.Standing.{IsLatest}
use Rattle.persist_model.specs.State.{State}
use Rattle.persist_model.proofs.Tracking.{Wrote-push_other}
use Rattle.persist_model.proofs.Projecting.{IsEventAway, AreAway, IsFixed, IsDue-stored, IsDue-away, IsDue-aways, IsFixed-aways, IsFixed-fence, Reaches-fixed}
use Rattle.log_laws.specs.Moves.{IsChangeBy}
use Rattle.log_laws.specs.Recovering.{IsOnLog, AreOnLog}
use Rattle.region_layout.specs.declared.cell.Cell.{Cell}
use Rattle.bucket_log.specs.declared.append.Place.{Place}
use Rattle.plan_records.specs.declared.parts.Part.{Part}
use Rattle.plan_records.specs.declared.parts.Part.TheVariants.{Append, Word, Fence as Wait}
use Rattle.bucket_log.specs.Appends.{region_append}
use Rattle.plan_records.specs.Cells.{appended}
use Rattle.plan_records.specs.Courses.{own_records, begins, appends, makes, meanwhile}
use Rattle.plan_records.specs.HeapCourses as heap_courses
use Rattle.plan_records.specs.HeapCourses.{newest, IsChanged, AreNewest, Goes, MayReach, GoesAreCourses}
use Rattle.plan_records.proofs.OwnRecords.{own_out, own_gained}
use Rattle.plan_records.proofs.HeapOwn.{latest_changed, latest_same}

pub goes_are_courses : GoesAreCourses
goes_are_courses shape p t s plan q _ _ _ heap_courses.begins = begins
goes_are_courses shape p t s plan q _ _ _ (heap_courses.appends {rest = others} {x = x} {z = z} cell place number goes inside above on) =
    appends cell place number (goes_are_courses shape p t s plan q (Append cell ∷ others) x z goes) inside above
goes_are_courses shape p t s plan q _ _ _ (heap_courses.stores {rest = others} {x = x} {z = z} e goes) = makes (Word e) (goes_are_courses shape p t s plan q (Word e ∷ others) x z goes) tt
goes_are_courses shape p t s plan q _ _ _ (heap_courses.waits {rest = others} {x = x} {z = z} goes) = makes Wait (goes_are_courses shape p t s plan q (Wait ∷ others) x z goes) tt
goes_are_courses shape p t s plan q _ _ _ (heap_courses.meanwhile {rest = others} {x = x} {z = z} y goes same) = meanwhile y (goes_are_courses shape p t s plan q others x z goes) same

-- ---- events on the log's words

pub on_log_away : (shape : Shape) (a : ℕ) (es : List Event) → heap shape ≤ a → AreOnLog shape es → AreAway a es
on_log_away shape a [] high on = tt
on_log_away shape a (e ∷ es) high on = (of e on.0, on_log_away shape a es high on.1)
  where
    of : (e : Event) → IsOnLog shape e → IsEventAway a e
    of (Store b v) m = tt
    of (PStore b v) m = λ same. absurd (omega (arith, m, same, high))
    of (WriteBack b) m = tt
    of Fence m = tt

-- what is pending for a word was pending before events that don't store to it
pending_back : (z : Progress) (a v : ℕ) (es : List Event) → AreAway a es → Wrote (advance_all z es).pending a v → Wrote z.pending a v
pending_back z a v [] away h = h
pending_back z a v (e ∷ es) away h = of e away.0 (pending_back (advance z e) a v es away.1 h)
  where
    of : (e : Event) → IsEventAway a e → Wrote (advance z e).pending a v → Wrote z.pending a v
    of (Store b u) m k = k
    of (PStore b u) m k = Wrote-push_other z.pending b u a v m k
    of (WriteBack b) m k = k
    of Fence m k = absurd k

-- ---- the two forms of what is settled, on the own records of t

-- the words that t changed are of the heap, and each has the last NEW once the lane fences
pub record Holds (shape : Shape) (t : ℕ) (o : Log) (z : Progress) : Type 0 where
  pub high : (r : Record) → IsAmong o r → IsChange r → r.transaction ≡ t → heap shape ≤ r.word
  pub newest_is : AreNewest o t z

-- and nothing is pending for a heap word that t hasn't changed
pub record Steps (shape : Shape) (t : ℕ) (o : Log) (z : Progress) : Type 0 where
  pub holds : Holds shape t o z
  pub no_other : (a v : ℕ) → heap shape ≤ a → Wrote z.pending a v → IsChanged o t a

-- or durably
pub record Kept (shape : Shape) (t : ℕ) (o : Log) (z : Progress) : Type 0 where
  pub high : (r : Record) → IsAmong o r → IsChange r → r.transaction ≡ t → heap shape ≤ r.word
  pub fixed : (a : ℕ) (r : Record) → IsLatest (IsChangeBy t a) o r → IsFixed z a r.after

module _ (shape : Shape) (t : ℕ) where
  high_at : (o : Log) (a : ℕ) (r : Record) → ((r : Record) → IsAmong o r → IsChange r → r.transaction ≡ t → heap shape ≤ r.word) → IsLatest (IsChangeBy t a) o r → heap shape ≤ a
  high_at o a r high h = subst (λ b. heap shape ≤ b) h.has.1 (high r h.among h.has.0 h.has.2)

  high_more : (o : Log) (e : Record) → ((r : Record) → IsAmong o r → IsChange r → r.transaction ≡ t → heap shape ≤ r.word) → (IsChange e → heap shape ≤ e.word) →
      (r : Record) → IsAmong (e ∷ o) r → IsChange r → r.transaction ≡ t → heap shape ≤ r.word
  high_more o e high here r (inl same) change own = subst (λ (x : Record). heap shape ≤ x.word) (sym same) (here (subst IsChange same change))
  high_more o e high here r (inr m) change own = high r m change own

  -- a change of the log, and the store of its NEW
  pub holds_changed : (o : Log) (z : Progress) (e : Record) (es : List Event) → IsChange e → e.transaction ≡ t → heap shape ≤ e.word →
      ((x : Record) → IsAmong o x → IsOf t x → x.lsn < e.lsn) → AreOnLog shape es → Holds shape t o z → Holds shape t (e ∷ o) (advance (advance_all z es) (PStore e.word e.after))
  holds_changed o z e es change own high above on h = record { high = high_more o e h.high (λ _. high); newest_is = λ a r last. by a r (latest_changed t a e o r change own above last) }
    where
      by : (a : ℕ) (r : Record) → ((e.word ≡ a) × (r ≡ e)) ⊎ ((e.word ≢ a) × IsLatest (IsChangeBy t a) o r) → newest (advance (advance_all z es) (PStore e.word e.after)) a ≡ r.after
      by a r (inl k) = subst (λ b. newest (advance (advance_all z es) (PStore e.word e.after)) b ≡ r.after) k.0
          (IsDue-stored (advance_all z es) e.word e.after ∙ ap (λ (x : Record). x.after) (sym k.1))
      by a r (inr k) = IsDue-away (advance_all z es) a r.after (PStore e.word e.after) k.0
          (IsDue-aways z a r.after es (on_log_away shape a es (high_at o a r h.high k.1) on) (h.newest_is a r k.1))

  -- another record
  pub holds_plain : (o : Log) (z : Progress) (e : Record) (es : List Event) → (IsChange e → ⊥) → AreOnLog shape es → Holds shape t o z → Holds shape t (e ∷ o) (advance_all z es)
  holds_plain o z e es off on h = record {
    high = high_more o e h.high (λ k. absurd (off k));
    newest_is = λ a r last. (let before = latest_same t a e o r off last in
        IsDue-aways z a r.after es (on_log_away shape a es (high_at o a r h.high before) on) (h.newest_is a r before));
  }

  pub steps_changed : (o : Log) (z : Progress) (e : Record) (es : List Event) → IsChange e → e.transaction ≡ t → heap shape ≤ e.word →
      ((x : Record) → IsAmong o x → IsOf t x → x.lsn < e.lsn) → AreOnLog shape es → Steps shape t o z → Steps shape t (e ∷ o) (advance (advance_all z es) (PStore e.word e.after))
  steps_changed o z e es change own high above on h = record { holds = holds_changed o z e es change own high above on h.holds; no_other = λ a v up k. by a v up k (eqb_tells e.word a) }
    where
      by : (a v : ℕ) → heap shape ≤ a → Wrote (advance (advance_all z es) (PStore e.word e.after)).pending a v →
          (((e.word == a) ≡ true) × (e.word ≡ a)) ⊎ (((e.word == a) ≡ false) × (e.word ≢ a)) → IsChanged (e ∷ o) t a
      by a v up k (inl same) = (e, inl refl, (change, same.1, own))
      by a v up k (inr ne) =
          let r = h.no_other a v up (pending_back z a v es (on_log_away shape a es up on) (Wrote-push_other (advance_all z es).pending e.word e.after a v ne.1 k)) in
          (r.0, inr r.1, r.2)

  pub steps_plain : (o : Log) (z : Progress) (e : Record) (es : List Event) → (IsChange e → ⊥) → AreOnLog shape es → Steps shape t o z → Steps shape t (e ∷ o) (advance_all z es)
  steps_plain o z e es off on h = record {
    holds = holds_plain o z e es off on h.holds;
    no_other = λ a v up k. (let r = h.no_other a v up (pending_back z a v es (on_log_away shape a es up on) k) in (r.0, inr r.1, r.2));
  }

  pub kept_fenced : (o : Log) (z : Progress) → Holds shape t o z → Kept shape t o (advance z Fence)
  kept_fenced o z h = record { high = h.high; fixed = λ a r last. IsFixed-fence z a r.after (h.newest_is a r last) }

  -- what may be found while the lane makes events on the log's words
  pub kept_reached : (log : Log) (z : Progress) (h : Words) → Kept shape t (own_records t log) z → MayReach shape (IsChanged log t) z h →
      (a : ℕ) (r : Record) → IsLatest (IsChangeBy t a) (own_records t log) r → h a ≡ r.after
  kept_reached log z h kept may a r last =
      let m = own_out t log r last.among in
      Reaches-fixed (IsChanged log t) (advance_all z may.0) h a r.after (r, m.0, last.has)
      (IsFixed-aways z a r.after may.0 (on_log_away shape a may.0 (high_at (own_records t log) a r kept.high last) may.1) (kept.fixed a r last)) may.2

-- ---- along a course

-- What fits the own records, the progress and what is left of the plan at the start, and is kept by each part, fits wherever the lane comes.
pub goes_fit : (shape : Shape) (p t : ℕ) (s : State) (plan : List Part) (q : Progress) (At : Log → Progress → List Part → Type 0) →
    ((o : Log) (z : Progress) (cell : Cell) (others : List Part) → At o z (Append cell ∷ others) → (cell.transaction ≡ t) × (cell.kind ≢ 5)) →
    ((o : Log) (z : Progress) (cell : Cell) (others : List Part) (place : Place) (number : ℕ) → At o z (Append cell ∷ others) → ((x : Record) → IsAmong o x → IsOf t x → x.lsn < number) →
    AreOnLog shape (region_append shape p place (appended place number cell)) →
    At (appended place number cell ∷ o) (advance_all z (region_append shape p place (appended place number cell))) others) →
    ((o : Log) (z : Progress) (e : Event) (others : List Part) → At o z (Word e ∷ others) → At o (advance z e) others) →
    ((o : Log) (z : Progress) (others : List Part) → At o z (Wait ∷ others) → At o (advance z Fence) others) →
    At (own_records t s.log) q plan →
    (rest : List Part) (x : State) (z : Progress) → Goes shape p t s plan q rest x z → At (own_records t x.log) z rest
goes_fit shape p t s plan q At own add store wait first _ _ _ heap_courses.begins = first
goes_fit shape p t s plan q At own add store wait first _ _ _ (heap_courses.appends {rest = others} {x = x} {z = z} cell place number goes inside above on) =
    let fit = goes_fit shape p t s plan q At own add store wait first (Append cell ∷ others) x z goes in
    let of : IsOf t (appended place number cell) = own (own_records t x.log) z cell others fit in
    subst (λ o. At o (advance_all z (region_append shape p place (appended place number cell))) others)
    (sym (own_gained t (appended place number cell) x.log of above))
    (add (own_records t x.log) z cell others place number fit (λ y m k. above y (own_out t x.log y m).0 k) on)
goes_fit shape p t s plan q At own add store wait first _ _ _ (heap_courses.stores {rest = others} {x = x} {z = z} e goes) =
    store (own_records t x.log) z e others (goes_fit shape p t s plan q At own add store wait first (Word e ∷ others) x z goes)
goes_fit shape p t s plan q At own add store wait first _ _ _ (heap_courses.waits {rest = others} {x = x} {z = z} goes) =
    wait (own_records t x.log) z others (goes_fit shape p t s plan q At own add store wait first (Wait ∷ others) x z goes)
goes_fit shape p t s plan q At own add store wait first _ _ _ (heap_courses.meanwhile {rest = others} {x = x} {z = z} y goes same) =
    subst (λ o. At o z others) (sym same) (goes_fit shape p t s plan q At own add store wait first others x z goes)
