-- A write under force settles its word, and the giving back of a block keeps what is settled.
use Rattle.std.proofs.Common.{◌≡◌, ◌≢◌, inl, inr, ℕ, ◌<◌, ◌≤◌, List, [], ◌∷◌, refl, sym, subst, arith}
use Rattle.persist_model.specs.declared.event.Event.{Event}
use Rattle.persist_model.specs.declared.event.Event.TheVariants.{PStore, Fence}
use Rattle.persist_model.specs.Progress.{Progress, Wrote, advance, advance_all}
use Rattle.persist_model.specs.Records.{Record, Log, IsAmong, IsOf}
use Rattle.persist_model.specs.Shape.{Shape, heap}
use Rattle.persist_model.specs.State.{State, IsSoundState}
use Rattle.log_laws.specs.Recovering.{AreOnLog}
use Rattle.region_layout.specs.declared.cell.Cell.{Cell}
use Rattle.region_layout.specs.declared.layout.Policy.TheVariants.{Force}
use Rattle.bucket_log.specs.declared.append.Place.{Place}
use Rattle.plan_records.specs.declared.parts.Update.{Update}
use Rattle.plan_records.specs.declared.parts.Giving.{Giving}
use Rattle.plan_records.specs.declared.parts.Part.{Part}
use Rattle.plan_records.specs.declared.parts.Part.TheVariants.{Append, Word, Fence as Wait}
use Rattle.bucket_log.specs.Appends.{region_append}
use Rattle.plan_records.specs.Cells.{cell_of_update, cell_of_deletion, appended}
use Rattle.plan_records.specs.Courses.{own_records, write_parts, give_parts}
use Rattle.plan_records.specs.HeapCourses.{IsChanged, AreNewest, IsInStep, Goes, StepsStay, WritesSettle, GivesSettle, NoForceMeets}
use Rattle.plan_records.proofs.OwnRecords.{own_out}
use Rattle.plan_records.proofs.HeapOwn.{undo_point_stays, change_of, newest_own, newest_all, changed_own, changed_all}
use Rattle.plan_records.proofs.HeapGoing.{Holds, Steps, steps_changed, steps_plain, goes_fit}

pub steps_stay : StepsStay
steps_stay = record {
  none = λ shape log t q empty nothing. record {
    newest_values = λ a r last. absurd (empty r last.among (change_of t a r last.has));
    no_other = λ a v up k. absurd (subst (λ ws. Wrote ws a v) nothing k);
  };
  others = λ shape log later t q same h. record {
    newest_values = newest_all later t q (subst (λ o. AreNewest o t q) (sym same) (newest_own log t q h.newest_values));
    no_other = λ a v up k. changed_all later t a (subst (λ o. IsChanged o t a) (sym same) (changed_own log t a (h.no_other a v up k)));
  };
  point = undo_point_stays;
}

pub no_force_meets : NoForceMeets
no_force_meets = record { written = λ shape x t h two force. absurd (force two); last = λ shape x t h two force. absurd (force two) }

-- at the start of a plan
pub holds_first : (shape : Shape) (t : ℕ) (s : State) (q : Progress) → IsSoundState shape s → AreNewest s.log t q → Holds shape t (own_records t s.log) q
holds_first shape t s q sound h = record {
  high = λ r m change own. ((sound.formed r (own_out t s.log r m).0).change change).0.0;
  newest_is = newest_own s.log t q h;
}

steps_first : (shape : Shape) (t : ℕ) (s : State) (q : Progress) → IsSoundState shape s → IsInStep shape s.log t q → Steps shape t (own_records t s.log) q
steps_first shape t s q sound h = record {
  holds = holds_first shape t s q sound h.newest_values;
  no_other = λ a v up k. changed_own s.log t a (h.no_other a v up k);
}

steps_there : (shape : Shape) (t : ℕ) (x : State) (z : Progress) → Steps shape t (own_records t x.log) z → IsInStep shape x.log t z
steps_there shape t x z h = record {
  newest_values = newest_all x.log t z h.holds.newest_is;
  no_other = λ a v up k. changed_all x.log t a (h.no_other a v up k);
}

-- ---- a write

-- what is left of the write fits these own records and this progress
data Writing (shape : Shape) (u : Update) (o : Log) (z : Progress) : List Part → Type 0 where
  notes : Steps shape u.transaction o z → Writing shape u o z (Append (cell_of_update u) ∷ Word (PStore u.word u.after) ∷ [])
  keeps : Steps shape u.transaction o (advance z (PStore u.word u.after)) → Writing shape u o z (Word (PStore u.word u.after) ∷ [])
  done : Steps shape u.transaction o z → Writing shape u o z []

module _ (shape : Shape) (p : ℕ) (u : Update) (high : heap shape ≤ u.word) where
  write_own : (o : Log) (z : Progress) (cell : Cell) (others : List Part) → Writing shape u o z (Append cell ∷ others) → (cell.transaction ≡ u.transaction) × (cell.kind ≢ 5)
  write_own o z _ _ (notes h) = (refl, λ e. absurd (omega (arith, e)))

  write_add : (o : Log) (z : Progress) (cell : Cell) (others : List Part) (place : Place) (number : ℕ) → Writing shape u o z (Append cell ∷ others) →
      ((x : Record) → IsAmong o x → IsOf u.transaction x → x.lsn < number) → AreOnLog shape (region_append shape p place (appended place number cell)) →
      Writing shape u (appended place number cell ∷ o) (advance_all z (region_append shape p place (appended place number cell))) others
  write_add o z _ _ place number (notes h) above on = keeps (steps_changed shape u.transaction o z (appended place number (cell_of_update u))
      (region_append shape p place (appended place number (cell_of_update u))) (inl refl) refl high above on h)

  write_store : (o : Log) (z : Progress) (e : Event) (others : List Part) → Writing shape u o z (Word e ∷ others) → Writing shape u o (advance z e) others
  write_store o z _ _ (keeps h) = done h

  write_wait : (o : Log) (z : Progress) (others : List Part) → Writing shape u o z (Wait ∷ others) → Writing shape u o (advance z Fence) others
  write_wait o z others fit = elim fit [ ]

  written : (s : State) (q : Progress) (rest : List Part) (x : State) (z : Progress) → IsSoundState shape s → IsInStep shape s.log u.transaction q →
      Goes shape p u.transaction s (write_parts Force u) q rest x z → Writing shape u (own_records u.transaction x.log) z rest
  written s q rest x z sound h goes = goes_fit shape p u.transaction s (write_parts Force u) q (λ o y l. Writing shape u o y l) write_own write_add write_store write_wait
      (notes (steps_first shape u.transaction s q sound h)) rest x z goes

-- up to the append nothing is stored
data Beginning (u : Update) (q z : Progress) : List Part → Type 0 where
  notes_first : z ≡ q → Beginning u q z (Append (cell_of_update u) ∷ Word (PStore u.word u.after) ∷ [])
  keeps_next : Beginning u q z (Word (PStore u.word u.after) ∷ [])
  over : Beginning u q z []

module _ (shape : Shape) (p : ℕ) (u : Update) (q : Progress) where
  begin_own : (o : Log) (z : Progress) (cell : Cell) (others : List Part) → Beginning u q z (Append cell ∷ others) → (cell.transaction ≡ u.transaction) × (cell.kind ≢ 5)
  begin_own o z _ _ (notes_first same) = (refl, λ e. absurd (omega (arith, e)))

  begin_add : (o : Log) (z : Progress) (cell : Cell) (others : List Part) (place : Place) (number : ℕ) → Beginning u q z (Append cell ∷ others) →
      ((x : Record) → IsAmong o x → IsOf u.transaction x → x.lsn < number) → AreOnLog shape (region_append shape p place (appended place number cell)) →
      Beginning u q (advance_all z (region_append shape p place (appended place number cell))) others
  begin_add o z _ _ place number (notes_first same) above on = keeps_next

  begin_store : (o : Log) (z : Progress) (e : Event) (others : List Part) → Beginning u q z (Word e ∷ others) → Beginning u q (advance z e) others
  begin_store o z _ _ keeps_next = over

  begin_wait : (o : Log) (z : Progress) (others : List Part) → Beginning u q z (Wait ∷ others) → Beginning u q (advance z Fence) others
  begin_wait o z others fit = elim fit [ ]

  begin_same : (z : Progress) (cell : Cell) (others : List Part) → Beginning u q z (Append cell ∷ others) → z ≡ q
  begin_same z _ _ (notes_first same) = same

  begins_same : (s : State) (x : State) (z : Progress) → Goes shape p u.transaction s (write_parts Force u) q (write_parts Force u) x z → z ≡ q
  begins_same s x z goes = begin_same z _ _
      (goes_fit shape p u.transaction s (write_parts Force u) q (λ o y l. Beginning u q y l) begin_own begin_add begin_store begin_wait (notes_first refl) _ x z goes)

pub writes_settle : WritesSettle
writes_settle = record {
  same = λ shape p s u q x z goes. begins_same shape p u q s x z goes;
  before = λ shape p s u q x z sound high h goes. steps_there shape u.transaction x z (first shape u (own_records u.transaction x.log) z _ _ (written shape p u high s q _ x z sound h goes));
  behind = λ shape p s u q x z sound high h goes. steps_there shape u.transaction x z (last shape u (own_records u.transaction x.log) z (written shape p u high s q [] x z sound h goes));
}
  where
    first : (shape : Shape) (u : Update) (o : Log) (z : Progress) (cell : Cell) (others : List Part) → Writing shape u o z (Append cell ∷ others) → Steps shape u.transaction o z
    first shape u o z _ _ (notes h) = h

    last : (shape : Shape) (u : Update) (o : Log) (z : Progress) → Writing shape u o z [] → Steps shape u.transaction o z
    last shape u o z (done h) = h

-- ---- a block that is given back

data GivesBack (shape : Shape) (g : Giving) (o : Log) (z : Progress) : List Part → Type 0 where
  gives : Steps shape g.transaction o z → GivesBack shape g o z (Append (cell_of_deletion g) ∷ [])
  given : Steps shape g.transaction o z → GivesBack shape g o z []

module _ (shape : Shape) (p : ℕ) (g : Giving) where
  give_own : (o : Log) (z : Progress) (cell : Cell) (others : List Part) → GivesBack shape g o z (Append cell ∷ others) → (cell.transaction ≡ g.transaction) × (cell.kind ≢ 5)
  give_own o z _ _ (gives h) = (refl, λ e. absurd (omega (arith, e)))

  give_add : (o : Log) (z : Progress) (cell : Cell) (others : List Part) (place : Place) (number : ℕ) → GivesBack shape g o z (Append cell ∷ others) →
      ((x : Record) → IsAmong o x → IsOf g.transaction x → x.lsn < number) → AreOnLog shape (region_append shape p place (appended place number cell)) →
      GivesBack shape g (appended place number cell ∷ o) (advance_all z (region_append shape p place (appended place number cell))) others
  give_add o z _ _ place number (gives h) above on = given (steps_plain shape g.transaction o z (appended place number (cell_of_deletion g))
      (region_append shape p place (appended place number (cell_of_deletion g))) (λ c. elim c [ inl k ↦ absurd (omega (arith, k)) | inr k ↦ absurd (omega (arith, k)) ]) on h)

  give_store : (o : Log) (z : Progress) (e : Event) (others : List Part) → GivesBack shape g o z (Word e ∷ others) → GivesBack shape g o (advance z e) others
  give_store o z e others fit = elim fit [ ]

  give_wait : (o : Log) (z : Progress) (others : List Part) → GivesBack shape g o z (Wait ∷ others) → GivesBack shape g o (advance z Fence) others
  give_wait o z others fit = elim fit [ ]

pub gives_settle : GivesSettle
gives_settle shape p s g q rest x z sound h goes = steps_there shape g.transaction x z (either rest
    (goes_fit shape p g.transaction s (give_parts g) q (λ o y l. GivesBack shape g o y l) (give_own shape p g) (give_add shape p g) (give_store shape p g) (give_wait shape p g)
    (gives (steps_first shape g.transaction s q sound h)) rest x z goes))
  where
    either : (l : List Part) → GivesBack shape g (own_records g.transaction x.log) z l → Steps shape g.transaction (own_records g.transaction x.log) z
    either _ (gives k) = k
    either _ (given k) = k
