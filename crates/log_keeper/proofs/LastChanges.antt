-- The newest change of a word.
use Rattle.std.proofs.Common.{◌≡◌, ◌⊎◌, inl, inr, ℕ, suc, ◌+◌, ◌<◌, ◌≤◌, ◌==◌, ◌||◌, Bool, true, false, if◌then◌else◌, Option, Some, None, List, [], ◌∷◌, ◌++◌, length, drop, get_or, refl, sym, ap, ◌∙◌, subst, arith}
use Rattle.std.proofs.Math.Seq.{drop-cons}
use Rattle.std.proofs.lemmas.List.{drop_all}
use Rattle.std.proofs.lemmas.Bool.Decides.{eqb_tells}
use Rattle.persist_model.specs.Kinds.{UPDATE, COMPENSATION}
use Rattle.persist_model.specs.Records.{Record, Log, IsAmong, HasNo, IsOf}
use Rattle.log_laws.specs.Moves.{IsChangeBy}
use Rattle.plan_records.proofs.HeapOwn.{change_of}
use Rattle.log_keeper.specs.declared.ledger.Entry.{Entry}
use Rattle.log_keeper.specs.Ledger.{Noted, AreNewestFirst, settled_log}
use Rattle.log_keeper.specs.Noting.{noted_of, ledger_of}
use Rattle.log_keeper.specs.Changes.{record_noted, all_records, is_change, left_by, left_behind, IsLastChange, ChangesAreSettled}
use Rattle.log_keeper.proofs.Ledgers.{in_ledger}
use Rattle.log_keeper.proofs.Newest.{settled_among}

-- ---- the test of a change

is_kind : (k : ℕ) → ((k == UPDATE) || (k == COMPENSATION)) ≡ true → (k ≡ UPDATE) ⊎ (k ≡ COMPENSATION)
is_kind k on = elim (eqb_tells k UPDATE) [
  | inl one ↦ inl one.1
  | inr ne ↦ (elim (eqb_tells k COMPENSATION) [ inl two ↦ inr two.1 | inr other ↦ (let off : ((k == UPDATE) || (k == COMPENSATION)) ≡ false = rw (ne.0, other.0) refl in absurd (let e : true ≡ false = sym on ∙ off in cc)) ])
]

kind_is : (k : ℕ) → (k ≡ UPDATE) ⊎ (k ≡ COMPENSATION) → ((k == UPDATE) || (k == COMPENSATION)) ≡ true
kind_is k (inl one) = rw one refl
kind_is k (inr two) = rw two refl

pub change_told : (t a : ℕ) (r : Record) → is_change t a r ≡ true → IsChangeBy t a r
change_told t a r on = elim (eqb_tells r.transaction t) [
  | inr ne ↦ (let off : is_change t a r ≡ false = rw ne.0 refl in absurd (let e : true ≡ false = sym on ∙ off in cc))
  | inl of ↦ (elim (eqb_tells r.word a) [
    | inr ne ↦ (let off : is_change t a r ≡ false = rw (of.0, ne.0) refl in absurd (let e : true ≡ false = sym on ∙ off in cc))
    | inl word ↦ (let same : is_change t a r ≡ ((r.kind == UPDATE) || (r.kind == COMPENSATION)) = rw (of.0, word.0) refl in (is_kind r.kind (sym same ∙ on), word.1, of.1))
  ])
]

pub change_not : (t a : ℕ) (r : Record) → is_change t a r ≡ false → IsChangeBy t a r → ⊥
change_not t a r off c =
    let on : is_change t a r ≡ true = rw (by r.transaction t c.2, by r.word a c.1) (kind_is r.kind c.0) in
    let e : true ≡ false = sym on ∙ off in cc
  where
    by : (n m : ℕ) → n ≡ m → (n == m) ≡ true
    by n m e = elim (eqb_tells n m) [ inl k ↦ k.0 | inr k ↦ absurd (k.1 e) ]

-- ---- which one is the last

-- what all records have of the ledger
in_records : (ledger : List Noted) (x : Noted) → IsAmong ledger x → IsAmong (all_records ledger) x.entry
in_records [] x m = absurd m
in_records (y ∷ ledger) x (inl e) = inl (ap record_noted e)
in_records (y ∷ ledger) x (inr m) = inr (in_records ledger x m)

noted_in : (ledger : List Noted) (r : Record) → IsAmong (all_records ledger) r → (x : Noted) × IsAmong ledger x × (x.entry ≡ r)
noted_in [] r m = absurd m
noted_in (y ∷ ledger) r (inl e) = (y, inl refl, sym e)
noted_in (y ∷ ledger) r (inr m) = let x = noted_in ledger r m in (x.0, inr x.1, x.2)

-- with a record that is no change
last_passes : (t a : ℕ) (r : Record) (log : Log) (v : Option ℕ) → (IsChangeBy t a r → ⊥) → IsLastChange t a log v → IsLastChange t a (r ∷ log) v
last_passes t a r log None off none = none_more
  where
    none_more : HasNo (IsChangeBy t a) (r ∷ log)
    none_more s (inl e) c = off (subst (IsChangeBy t a) e c)
    none_more s (inr m) c = none s m c
last_passes t a r log (Some v) off last = (last.0, record { among = inr last.1.among; has = last.1.has; last = newest }, last.2)
  where
    newest : (s : Record) → IsAmong (r ∷ log) s → IsChangeBy t a s → s.lsn ≤ last.0.lsn
    newest s (inl e) c = absurd (off (subst (IsChangeBy t a) e c))
    newest s (inr m) c = last.1.last s m c

-- with one that is newer than all
last_comes : (t a : ℕ) (r : Record) (log : Log) → IsChangeBy t a r → ((s : Record) → IsAmong log s → s.lsn < r.lsn) → IsLastChange t a (r ∷ log) (Some r.after)
last_comes t a r log c older = (r, record { among = inl refl; has = c; last = newest }, refl)
  where
    newest : (s : Record) → IsAmong (r ∷ log) s → IsChangeBy t a s → s.lsn ≤ r.lsn
    newest s (inl e) k = let same = ap (λ (q : Record). q.lsn) e in omega (arith, same)
    newest s (inr m) k = let lt = older s m in omega (arith, lt)

pub last_change_is : (t a : ℕ) (ledger : List Noted) → AreNewestFirst ledger → IsLastChange t a (all_records ledger) (left_behind t a (all_records ledger) None)
last_change_is t a [] first = λ r m c. m
last_change_is t a (x ∷ ledger) first = by (is_change t a x.entry) refl (last_change_is t a ledger first.1)
  where
    older : (s : Record) → IsAmong (all_records ledger) s → s.lsn < x.entry.lsn
    older s m = let y = noted_in ledger s m in subst (λ (q : Record). q.lsn < x.entry.lsn) y.2 (first.0 y.0 y.1)

    by : (b : Bool) → is_change t a x.entry ≡ b → IsLastChange t a (all_records ledger) (left_behind t a (all_records ledger) None) →
        IsLastChange t a (all_records (x ∷ ledger)) (if b then Some x.entry.after else left_behind t a (all_records ledger) None)
    by true on further = last_comes t a x.entry (all_records ledger) (change_told t a x.entry on) older
    by false off further = last_passes t a x.entry (all_records ledger) (left_behind t a (all_records ledger) None) (change_not t a x.entry off) further

-- ---- where all is settled

pub changes_are_settled : ChangesAreSettled
changes_are_settled t a ledger None settled none = λ r m c. none r (all_of r m) c
  where
    all_of : (r : Record) → IsAmong (settled_log ledger) r → IsAmong (all_records ledger) r
    all_of r m = let x = in_ledger ledger r m in subst (IsAmong (all_records ledger)) x.2 (in_records ledger x.0 x.1)
changes_are_settled t a ledger (Some v) settled last = (
  last.0,
  record { among = there; has = last.1.has; last = λ s m c. last.1.last s (all_of s m) c },
  last.2,
)
  where
    all_of : (r : Record) → IsAmong (settled_log ledger) r → IsAmong (all_records ledger) r
    all_of r m = let x = in_ledger ledger r m in subst (IsAmong (all_records ledger)) x.2 (in_records ledger x.0 x.1)

    there : IsAmong (settled_log ledger) last.0
    there =
        let x = noted_in ledger last.0 last.1.among in
        subst (IsAmong (settled_log ledger)) x.2
        (settled_among ledger x.0 x.1 (settled x.0 x.1 (subst (IsOf t) (sym x.2) (change_of t a last.0 last.1.has))))

-- ---- one entry after the other

left-last : (t a : ℕ) (ledger : List Noted) (x : Noted) (before : Option ℕ) →
    left_behind t a (all_records (ledger ++ x ∷ [])) before ≡ left_behind t a (all_records ledger) (left_by t a x.entry before)
left-last t a [] x before = refl
left-last t a (y ∷ ledger) x before = ap (left_by t a y.entry) (left-last t a ledger x before)

-- what was left, with the entries that are left, is what all leave
pub record IsLeft (t a : ℕ) (entries : List Entry) (i : ℕ) (left : Option ℕ) : Type 0 where
  pub whole : left_behind t a (all_records (ledger_of (drop i entries))) left ≡ left_behind t a (all_records (ledger_of entries)) None

pub left_begins : (t a : ℕ) (entries : List Entry) → IsLeft t a entries 0 None
left_begins t a entries = record { whole = refl }

pub left_goes_on : (t a : ℕ) (entries : List Entry) (i : ℕ) (d : Entry) (left later : Option ℕ) → i < length entries → IsLeft t a entries i left →
    later ≡ left_by t a (noted_of (get_or entries i d)).entry left → IsLeft t a entries (i + 1) later
left_goes_on t a entries i d left later lt h is =
    let e : suc i ≡ i + 1 = omega arith in
    subst (λ n. IsLeft t a entries n later) e record {
      whole = ap (left_behind t a (all_records (ledger_of (drop (suc i) entries)))) is
          ∙ sym (left-last t a (ledger_of (drop (suc i) entries)) (noted_of (get_or entries i d)) left)
          ∙ ap (λ xs. left_behind t a (all_records (ledger_of xs)) left) (sym (drop-cons entries i d lt))
          ∙ h.whole;
    }

pub left_ends : (t a : ℕ) (entries : List Entry) (i : ℕ) (left : Option ℕ) → length entries ≤ i → IsLeft t a entries i left → left ≡ left_behind t a (all_records (ledger_of entries)) None
left_ends t a entries i left le h = sym (ap (λ xs. left_behind t a (all_records (ledger_of xs)) left) (drop_all i entries le)) ∙ h.whole
