-- The order of the ledger, and the runs that it fits.
use Rattle.std.proofs.Common.{◌≡◌, ◌≢◌, ◌⊎◌, inl, inr, ℕ, ◌+◌, ◌<◌, ◌==◌, Bool, true, false, if◌then◌else◌, List, [], ◌∷◌, refl, sym, ap, ◌∙◌, subst, arith}
use Rattle.std.proofs.lemmas.Bool.Decides.{eqb_tells}
use Rattle.persist_model.specs.declared.event.Event.{Event}
use Rattle.persist_model.specs.Records.{Record, IsAmong}
use Rattle.log_keeper.specs.Parts.{LogPart, rests, appends, closes, takes_back, drops, Running}
use Rattle.log_keeper.specs.Ledger.{Stage, Drawn, Stored, Settled, Noted, AreNewestFirst, staged, with_stage, is_listed, without}
use Rattle.log_keeper.specs.Making.{is_over, settled_by, stored_if, gone_on}
use Rattle.log_keeper.specs.Logged.{Keeping, ended, plan_in}
use Rattle.log_keeper.specs.Ordered.{IsNotedAt, stage_behind, SparesGates, OrdersKeep}
use Rattle.log_keeper.proofs.Groups.{listed_found, not_true}
use Rattle.log_keeper.proofs.Ledgers.{staged_number, left_among, staged_first, closed_first}

-- ---- the order

abbrev IsRow : List Noted → ℕ → Type 0
IsRow ledger next = AreNewestFirst ledger × ((x : Noted) → IsAmong ledger x → x.entry.lsn < next)

staged_row : (n next : ℕ) (stage : Stage) (ledger : List Noted) → IsRow ledger next → IsRow (with_stage n stage ledger) next
staged_row n next stage ledger h = (
  staged_first n stage ledger h.0,
  λ y m. (
      let k = staged_number n stage ledger y m in
      let lt = h.1 k.0 k.1 in
      let same : k.0.entry.lsn ≡ y.entry.lsn = ap (λ (q : Record). q.lsn) k.2 in
      omega (arith, lt, same)),
)

closed_row : (gates ends checkpoints : List ℕ) (next : ℕ) (ledger : List Noted) → IsRow ledger next → IsRow (without gates ends checkpoints ledger) next
closed_row gates ends checkpoints next ledger h = (closed_first gates ends checkpoints ledger h.0, λ y m. h.1 y (left_among gates ends checkpoints ledger y m))

settled_row : (next : ℕ) (part : LogPart) (ledger : List Noted) → IsRow ledger next → IsRow (settled_by part ledger) next
settled_row next rests ledger h = h
settled_row next (appends place r) ledger h = staged_row r.lsn next Settled ledger h
settled_row next (closes gates ends checkpoints) ledger h = closed_row gates ends checkpoints next ledger h
settled_row next (takes_back gates) ledger h = closed_row gates [] [] next ledger h
settled_row next (drops r) ledger h = h

stored_row : (next : ℕ) (part : LogPart) (ledger : List Noted) (over : Bool) → IsRow ledger next → IsRow (stored_if over part ledger) next
stored_row next rests ledger true h = h
stored_row next (appends place r) ledger true h = staged_row r.lsn next Stored ledger h
stored_row next (closes gates ends checkpoints) ledger true h = h
stored_row next (takes_back gates) ledger true h = h
stored_row next (drops r) ledger true h = h
stored_row next part ledger false h = h

made_row : (next p : ℕ) (part : LogPart) (run : Running) (k : Keeping) (over store : Bool) → IsRow k.ledger next →
    IsRow (if over then ended p (settled_by run.part k.ledger) k else gone_on store p run k).ledger next
made_row next p part run k true store h = settled_row next run.part k.ledger h
made_row next p part run k false store h = stored_row next run.part k.ledger store h

pub orders_keep : OrdersKeep
orders_keep = record {
  appends = λ p next place r k is h. record {
    newest_first = ((λ y m. (let lt = h.below y m in omega (arith, lt, is))), h.newest_first);
    below = λ x m. elim m [
      | inl e ↦ (let same : x.entry.lsn ≡ r.lsn = ap (λ (q : Noted). q.entry.lsn) e in omega (arith, same, is))
      | inr k ↦ (let lt = h.below x k in omega (arith, lt))
    ];
  };
  made = λ shape p next k h. (
      let row = made_row next p (k.runs p).part (k.runs p) k (is_over (plan_in shape k p) ((k.runs p).made + 1)) (is_over (plan_in shape k p) ((k.runs p).made + 2)) (h.newest_first, h.below) in
      record { newest_first = row.0; below = row.1 });
  stays = λ next k x is h. record {
    newest_first = subst AreNewestFirst (sym is) h.newest_first;
    below = λ y m. h.below y (subst (λ l. IsAmong l y) is m);
  };
}

-- ---- a record that is noted

pub staged_here : (n : ℕ) (stage : Stage) (ledger : List Noted) (r : Record) (before : Stage) → r.lsn ≡ n → IsNotedAt ledger r before → IsNotedAt (with_stage n stage ledger) r stage
staged_here n stage [] r before is h = absurd h.1
staged_here n stage (x ∷ ledger) r before is h = elim h.1 [
  | inl e ↦ (
      let entry : x.entry ≡ r = ap (λ (q : Noted). q.entry) (sym e) ∙ h.2 in
      let on : (x.entry.lsn == n) ≡ true = elim (eqb_tells x.entry.lsn n) [ inl k ↦ k.0 | inr k ↦ absurd (k.1 (ap (λ (q : Record). q.lsn) entry ∙ is)) ] in
      (staged x stage, inl (rw on refl), entry, refl))
  | inr m ↦ (let k = staged_here n stage ledger r before is (h.0, m, h.2, h.3) in (k.0, inr k.1, k.2, k.3))
]

pub staged_other : (n : ℕ) (stage : Stage) (ledger : List Noted) (r : Record) (at : Stage) → r.lsn ≢ n → IsNotedAt ledger r at → IsNotedAt (with_stage n stage ledger) r at
staged_other n stage [] r at ne h = absurd h.1
staged_other n stage (x ∷ ledger) r at ne h = elim h.1 [
  | inl e ↦ (
      let entry : x.entry ≡ r = ap (λ (q : Noted). q.entry) (sym e) ∙ h.2 in
      let off : (x.entry.lsn == n) ≡ false = elim (eqb_tells x.entry.lsn n) [ inl k ↦ absurd (ne (ap (λ (q : Record). q.lsn) (sym entry) ∙ k.1)) | inr k ↦ k.0 ] in
      (x, inl (rw off refl), entry, ap (λ (q : Noted). q.stage) (sym e) ∙ h.3))
  | inr m ↦ (let k = staged_other n stage ledger r at ne (h.0, m, h.2, h.3) in (k.0, inr k.1, k.2, k.3))
]

-- an entry of the later ledger was there, or has the number
abbrev pub IsStagedFrom : ℕ → Stage → List Noted → Noted → Type 0
IsStagedFrom n stage ledger x = IsAmong ledger x × (x.entry.lsn ≢ n) ⊎ (y : Noted) × IsAmong ledger y × (y.entry ≡ x.entry) × (x.entry.lsn ≡ n) × (x.stage ≡ stage)

pub staged_from : (n : ℕ) (stage : Stage) (ledger : List Noted) (x : Noted) → IsAmong (with_stage n stage ledger) x → IsStagedFrom n stage ledger x
staged_from n stage [] x m = absurd m
staged_from n stage (y ∷ ledger) x (inr m) = elim (staged_from n stage ledger x m) [
  | inl k ↦ inl (inr k.0, k.1)
  | inr k ↦ inr (k.0, inr k.1, k.2, k.3, k.4)
]
staged_from n stage (y ∷ ledger) x (inl e) = elim (eqb_tells y.entry.lsn n) [
  | inl k ↦ (
      let is : x ≡ staged y stage = rw k.0 at e in
      inr (y, inl refl, ap (λ (q : Noted). q.entry) (sym is), ap (λ (q : Noted). q.entry.lsn) is ∙ k.1, ap (λ (q : Noted). q.stage) is))
  | inr k ↦ (
      let is : x ≡ y = rw k.0 at e in
      inl (inl is, λ same. k.1 (ap (λ (q : Noted). q.entry.lsn) (sym is) ∙ same)))
]

without_keeps : (gates ends checkpoints : List ℕ) (ledger : List Noted) (x : Noted) → IsAmong ledger x → is_listed gates ends checkpoints x.entry.at ≡ false →
    IsAmong (without gates ends checkpoints ledger) x
without_keeps gates ends checkpoints [] x m off = m
without_keeps gates ends checkpoints (y ∷ ledger) x (inl e) off = let here : is_listed gates ends checkpoints y.entry.at ≡ false = ap (λ (q : Noted). is_listed gates ends checkpoints q.entry.at) (sym e) ∙ off in
    rw here (inl e)
without_keeps gates ends checkpoints (y ∷ ledger) x (inr m) off = by (is_listed gates ends checkpoints y.entry.at) (without_keeps gates ends checkpoints ledger x m off)
  where
    by : (t : Bool) → IsAmong (without gates ends checkpoints ledger) x → IsAmong (if t then without gates ends checkpoints ledger else y ∷ without gates ends checkpoints ledger) x
    by true k = k
    by false k = inr k

unlisted : (gates ends checkpoints : List ℕ) (ledger : List Noted) (x : Noted) → SparesGates gates ends checkpoints ledger → IsAmong ledger x → x.stage ≢ Settled →
    is_listed gates ends checkpoints x.entry.at ≡ false
unlisted gates ends checkpoints ledger x spares m ne =
    not_true (is_listed gates ends checkpoints x.entry.at) (λ on. spares x m ne (listed_found gates ends checkpoints x.entry.at on))

pub noted_left : (gates ends checkpoints : List ℕ) (ledger : List Noted) (r : Record) (stage : Stage) → SparesGates gates ends checkpoints ledger → stage ≢ Settled →
    IsNotedAt ledger r stage → IsNotedAt (without gates ends checkpoints ledger) r stage
noted_left gates ends checkpoints ledger r stage spares ne h =
    (h.0, without_keeps gates ends checkpoints ledger h.0 h.1 (unlisted gates ends checkpoints ledger h.0 spares h.1 (λ e. ne (sym h.3 ∙ e))), h.2, h.3)

pub stage_unsettled : (plan : List Event) (n : ℕ) → stage_behind plan n ≢ Settled
stage_unsettled plan n = by (is_over plan (n + 1))
  where
    by : (t : Bool) → (if t then Stored else Drawn) ≢ Settled
    by true = λ e. cc
    by false = λ e. cc
