-- The ledger and its settled records.
use Rattle.std.proofs.Common.{◌≡◌, ◌≢◌, inl, inr, ℕ, ◌<◌, ◌==◌, Bool, true, false, nat_lt, if◌then◌else◌, List, [], ◌∷◌, refl, sym, ap, ◌∙◌, arith}
use Rattle.std.proofs.lemmas.Bool.Decides.{eqb_tells, nat_tests}
use Rattle.persist_model.specs.Records.{Record, Log, IsAmong}
use Rattle.plan_records.specs.Passing.{inserted}
use Rattle.plan_records.proofs.Passing.{inserted_first}
use Rattle.log_keeper.specs.Ledger.{Stage, Drawn, Stored, Settled, Noted, AreNewestFirst, IsUnsettled, if_settled, settled_log, staged, with_stage, is_listed, left_open, without}
use Rattle.log_keeper.specs.Laws.{LedgersKeep}

abbrev pub IsSettledIn : List Noted → Record → Type 0
IsSettledIn ledger r = (x : Noted) × IsAmong ledger x × (x.entry ≡ r) × (x.stage ≡ Settled)

-- each settled record is a noted one
pub in_ledger : (ledger : List Noted) (r : Record) → IsAmong (settled_log ledger) r → IsSettledIn ledger r
in_ledger [] r m = absurd m
in_ledger (x ∷ ledger) r m = by x.stage refl (λ k. (let y = in_ledger ledger r k in (y.0, inr y.1, y.2, y.3))) m
  where
    by : (stage : Stage) → x.stage ≡ stage → (IsAmong (settled_log ledger) r → IsSettledIn (x ∷ ledger) r) → IsAmong (if_settled stage x.entry (settled_log ledger)) r →
        IsSettledIn (x ∷ ledger) r
    by Drawn e further k = further k
    by Stored e further k = further k
    by Settled e further (inl same) = (x, inl refl, sym same, e)
    by Settled e further (inr k) = further k

-- numbers are known by their entries
pub one_entry : (ledger : List Noted) (x y : Noted) → AreNewestFirst ledger → IsAmong ledger x → IsAmong ledger y → x.entry.lsn ≡ y.entry.lsn → x ≡ y
one_entry [] x y first m k e = absurd m
one_entry (z ∷ ledger) x y first (inl m) (inl k) e = m ∙ sym k
one_entry (z ∷ ledger) x y first (inl m) (inr k) e =
    let lt = first.0 y k in let same : x.entry.lsn ≡ z.entry.lsn = ap (λ (n : Noted). n.entry.lsn) m in absurd (omega (arith, lt, same, e))
one_entry (z ∷ ledger) x y first (inr m) (inl k) e =
    let lt = first.0 x m in let same : y.entry.lsn ≡ z.entry.lsn = ap (λ (n : Noted). n.entry.lsn) k in absurd (omega (arith, lt, same, e))
one_entry (z ∷ ledger) x y first (inr m) (inr k) e = one_entry ledger x y first.1 m k e

pub fresh : (r : Record) (ledger : List Noted) → AreNewestFirst ledger → IsUnsettled ledger r → (x : Record) → IsAmong (settled_log ledger) x → x.lsn ≢ r.lsn
fresh r ledger first noted x m e =
    let k = in_ledger ledger x m in
    let a : k.0.entry.lsn ≡ x.lsn = ap (λ (q : Record). q.lsn) k.2 in
    let b : noted.0.entry.lsn ≡ r.lsn = ap (λ (q : Record). q.lsn) noted.2 in
    let same : k.0 ≡ noted.0 = one_entry ledger k.0 noted.0 first k.1 noted.1 (a ∙ e ∙ sym b) in
    noted.3 (sym (ap (λ (q : Noted). q.stage) same) ∙ k.3)

-- no entry of this number, nothing changes
pub unchanged : (n : ℕ) (stage : Stage) (ledger : List Noted) → ((x : Noted) → IsAmong ledger x → x.entry.lsn ≢ n) → with_stage n stage ledger ≡ ledger
unchanged n stage [] none = refl
unchanged n stage (x ∷ ledger) none =
    let off : (x.entry.lsn == n) ≡ false = elim (eqb_tells x.entry.lsn n) [ inl e ↦ absurd (none x (inl refl) e.1) | inr e ↦ e.0 ] in
    rw off (ap (λ l. x ∷ l) (unchanged n stage ledger (λ y m. none y (inr m))))

pub below : (x : Noted) (ledger : List Noted) (n : ℕ) → x.entry.lsn ≡ n → ((y : Noted) → IsAmong ledger y → y.entry.lsn < x.entry.lsn) → (y : Noted) → IsAmong ledger y → y.entry.lsn ≢ n
below x ledger n e first y m same = let lt = first y m in omega (arith, lt, e, same)

not_settled : (stage : Stage) (r : Record) (log : Log) → stage ≢ Settled → if_settled stage r log ≡ log
not_settled Drawn r log ne = refl
not_settled Stored r log ne = refl
not_settled Settled r log ne = absurd (ne refl)

pub stores : (r : Record) (ledger : List Noted) → AreNewestFirst ledger → IsUnsettled ledger r → settled_log (with_stage r.lsn Stored ledger) ≡ settled_log ledger
stores r [] first noted = refl
stores r (x ∷ ledger) first noted = elim noted.1 [
  | inl here ↦ (
      let same : x.entry.lsn ≡ r.lsn = ap (λ (q : Noted). q.entry.lsn) (sym here) ∙ ap (λ (q : Record). q.lsn) noted.2 in
      let on : (x.entry.lsn == r.lsn) ≡ true = elim (eqb_tells x.entry.lsn r.lsn) [ inl e ↦ e.0 | inr e ↦ absurd (e.1 same) ] in
      rw on (ap settled_log (unchanged r.lsn Stored ledger (below x ledger r.lsn same first.0))
      ∙ sym (not_settled x.stage x.entry (settled_log ledger) (λ e. noted.3 (ap (λ (q : Noted). q.stage) here ∙ e)))))
  | inr m ↦ (
      let lt = first.0 noted.0 m in
      let at : noted.0.entry.lsn ≡ r.lsn = ap (λ (q : Record). q.lsn) noted.2 in
      let off : (x.entry.lsn == r.lsn) ≡ false = elim (eqb_tells x.entry.lsn r.lsn) [ inl e ↦ absurd (let f = e.1 in omega (arith, lt, at, f)) | inr e ↦ e.0 ] in
      rw off (ap (if_settled x.stage x.entry) (stores r ledger first.1 (noted.0, m, noted.2, noted.3))))
]

-- a settled record in front, and one that comes behind it
pub passes : (stage : Stage) (x r : Record) (log : Log) → r.lsn < x.lsn → if_settled stage x (inserted r log) ≡ inserted r (if_settled stage x log)
passes Drawn x r log lt = refl
passes Stored x r log lt = refl
passes Settled x r log lt = let on : nat_lt r.lsn x.lsn ≡ true = grind (arith, nat_tests, lt) in rw on refl

pub settles : (r : Record) (ledger : List Noted) → AreNewestFirst ledger → IsUnsettled ledger r → settled_log (with_stage r.lsn Settled ledger) ≡ inserted r (settled_log ledger)
settles r [] first noted = absurd noted.1
settles r (x ∷ ledger) first noted = elim noted.1 [
  | inl here ↦ (
      let entry : x.entry ≡ r = ap (λ (q : Noted). q.entry) (sym here) ∙ noted.2 in
      let same : x.entry.lsn ≡ r.lsn = ap (λ (q : Record). q.lsn) entry in
      let on : (x.entry.lsn == r.lsn) ≡ true = elim (eqb_tells x.entry.lsn r.lsn) [ inl e ↦ e.0 | inr e ↦ absurd (e.1 same) ] in
      let log : if_settled x.stage x.entry (settled_log ledger) ≡ settled_log ledger =
      not_settled x.stage x.entry (settled_log ledger) (λ e. noted.3 (ap (λ (q : Noted). q.stage) here ∙ e)) in
      rw on (
      ap (λ l. x.entry ∷ settled_log l) (unchanged r.lsn Settled ledger (below x ledger r.lsn same first.0))
      ∙ ap (λ q. q ∷ settled_log ledger) entry
      ∙ sym (inserted_first r (settled_log ledger) (λ y m. (
      let k = in_ledger ledger y m in
      let lt = first.0 k.0 k.1 in
      let at : k.0.entry.lsn ≡ y.lsn = ap (λ (q : Record). q.lsn) k.2 in
      omega (arith, lt, at, same))))
      ∙ ap (inserted r) (sym log)))
  | inr m ↦ (
      let lt = first.0 noted.0 m in
      let at : noted.0.entry.lsn ≡ r.lsn = ap (λ (q : Record). q.lsn) noted.2 in
      let off : (x.entry.lsn == r.lsn) ≡ false = elim (eqb_tells x.entry.lsn r.lsn) [ inl e ↦ absurd (let f = e.1 in omega (arith, lt, at, f)) | inr e ↦ e.0 ] in
      rw off (ap (if_settled x.stage x.entry) (settles r ledger first.1 (noted.0, m, noted.2, noted.3)) ∙ passes x.stage x.entry r (settled_log ledger) (omega (arith, lt, at))))
]

pub closes : (gates ends checkpoints : List ℕ) (ledger : List Noted) → settled_log (without gates ends checkpoints ledger) ≡ left_open gates ends checkpoints (settled_log ledger)
closes gates ends checkpoints [] = refl
closes gates ends checkpoints (x ∷ ledger) = by x.stage (is_listed gates ends checkpoints x.entry.at) refl (closes gates ends checkpoints ledger)
  where
    by : (stage : Stage) (t : Bool) → is_listed gates ends checkpoints x.entry.at ≡ t →
        settled_log (without gates ends checkpoints ledger) ≡ left_open gates ends checkpoints (settled_log ledger) →
        settled_log (if t then without gates ends checkpoints ledger else record { lane = x.lane; entry = x.entry; stage = stage } ∷ without gates ends checkpoints ledger) ≡
        left_open gates ends checkpoints (if_settled stage x.entry (settled_log ledger))
    by Drawn true e rest = rest
    by Drawn false e rest = rest
    by Stored true e rest = rest
    by Stored false e rest = rest
    by Settled true e rest = rw e rest
    by Settled false e rest = rw e (ap (λ l. x.entry ∷ l) rest)

-- an entry of the later ledger has the number of an earlier one
pub staged_number : (n : ℕ) (stage : Stage) (ledger : List Noted) (y : Noted) → IsAmong (with_stage n stage ledger) y → (x : Noted) × IsAmong ledger x × (x.entry ≡ y.entry)
staged_number n stage [] y m = absurd m
staged_number n stage (x ∷ ledger) y (inl e) = (x, inl refl, by (x.entry.lsn == n) ∙ sym (ap (λ (q : Noted). q.entry) e))
  where
    by : (t : Bool) → x.entry ≡ (if t then staged x stage else x).entry
    by true = refl
    by false = refl
staged_number n stage (x ∷ ledger) y (inr m) = let k = staged_number n stage ledger y m in (k.0, inr k.1, k.2)

pub staged_first : (n : ℕ) (stage : Stage) (ledger : List Noted) → AreNewestFirst ledger → AreNewestFirst (with_stage n stage ledger)
staged_first n stage [] first = tt
staged_first n stage (x ∷ ledger) first = (
  λ y m. (
      let k = staged_number n stage ledger y m in
      let lt = first.0 k.0 k.1 in
      let same : k.0.entry.lsn ≡ y.entry.lsn = ap (λ (q : Record). q.lsn) k.2 in
      let here = by (x.entry.lsn == n) in
      omega (arith, lt, same, here)),
  staged_first n stage ledger first.1,
)
  where
    by : (t : Bool) → (if t then staged x stage else x).entry.lsn ≡ x.entry.lsn
    by true = refl
    by false = refl

pub left_among : (gates ends checkpoints : List ℕ) (ledger : List Noted) (y : Noted) → IsAmong (without gates ends checkpoints ledger) y → IsAmong ledger y
left_among gates ends checkpoints [] y m = m
left_among gates ends checkpoints (x ∷ ledger) y m = by (is_listed gates ends checkpoints x.entry.at) (λ k. left_among gates ends checkpoints ledger y k) m
  where
    by : (t : Bool) → (IsAmong (without gates ends checkpoints ledger) y → IsAmong ledger y) → IsAmong (if t then without gates ends checkpoints ledger else x ∷ without gates ends checkpoints ledger) y → IsAmong (x ∷ ledger) y
    by true further k = inr (further k)
    by false further (inl e) = inl e
    by false further (inr k) = inr (further k)

pub closed_first : (gates ends checkpoints : List ℕ) (ledger : List Noted) → AreNewestFirst ledger → AreNewestFirst (without gates ends checkpoints ledger)
closed_first gates ends checkpoints [] first = tt
closed_first gates ends checkpoints (x ∷ ledger) first = by (is_listed gates ends checkpoints x.entry.at) (closed_first gates ends checkpoints ledger first.1)
  where
    by : (t : Bool) → AreNewestFirst (without gates ends checkpoints ledger) → AreNewestFirst (if t then without gates ends checkpoints ledger else x ∷ without gates ends checkpoints ledger)
    by true rest = rest
    by false rest = ((λ y m. first.0 y (left_among gates ends checkpoints ledger y m)), rest)

pub ledgers_keep : LedgersKeep
ledgers_keep = record {
  draws = λ lane r ledger. refl;
  stores = stores;
  settles = settles;
  closes = closes;
  fresh = fresh;
  staged_first = staged_first;
  closed_first = closed_first;
}
