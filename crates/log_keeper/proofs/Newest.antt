-- The ledger and its newest log.
use Rattle.std.proofs.Common.{◌≡◌, ◌≢◌, ◌⊎◌, inl, inr, ℕ, ◌+◌, ◌<◌, ◌==◌, Bool, true, false, nat_lt, if◌then◌else◌, List, [], ◌∷◌, length, refl, sym, ap, ◌∙◌, subst, arith}
use Rattle.std.proofs.lemmas.Bool.Decides.{eqb_tells, nat_tests}
use Rattle.persist_model.specs.Kinds.{CHECKPOINT}
use Rattle.persist_model.specs.Records.{Record, Log, IsAmong, IsNewestFirst}
use Rattle.persist_model.specs.Shape.{Shape}
use Rattle.bucket_log.specs.declared.append.Place.{Place}
use Rattle.plan_records.specs.Passing.{inserted}
use Rattle.plan_records.proofs.Passing.{inserted_first}
use Rattle.log_keeper.specs.Parts.{LogPart, rests, appends, closes, takes_back, drops, IsListedGate}
use Rattle.log_keeper.specs.Ledger.{Stage, Drawn, Stored, Settled, Noted, AreNewestFirst, if_settled, if_stored, settled_log, newest_log, with_stage, is_listed, left_open, without}
use Rattle.log_keeper.specs.Making.{is_over, settled_by, stored_if, gone_on, made_part}
use Rattle.log_keeper.specs.Logged.{Keeping, ended, plan_in}
use Rattle.log_keeper.specs.Ordered.{IsNotedAt, FitsRuns, SparesGates, IsNoAppend}
use Rattle.log_keeper.specs.Newest.{NewestLogsKeep, NewestLogsMade, NewestAreOver}
use Rattle.log_keeper.proofs.Ledgers.{one_entry, unchanged, below}
use Rattle.log_keeper.proofs.Made.{over_not, over_yes, goes_on}

-- ---- what is in it

abbrev pub IsStoredIn : List Noted → Record → Type 0
IsStoredIn ledger r = (x : Noted) × IsAmong ledger x × (x.entry ≡ r) × (x.stage ≢ Drawn)

pub in_newest : (ledger : List Noted) (r : Record) → IsAmong (newest_log ledger) r → IsStoredIn ledger r
in_newest [] r m = absurd m
in_newest (x ∷ ledger) r m = by x.stage refl (λ k. (let y = in_newest ledger r k in (y.0, inr y.1, y.2, y.3))) m
  where
    by : (stage : Stage) → x.stage ≡ stage → (IsAmong (newest_log ledger) r → IsStoredIn (x ∷ ledger) r) → IsAmong (if_stored stage x.entry (newest_log ledger)) r →
        IsStoredIn (x ∷ ledger) r
    by Drawn e further k = further k
    by Stored e further (inl same) = (x, inl refl, sym same, λ d. (let f : Stored ≡ Drawn = sym e ∙ d in cc))
    by Stored e further (inr k) = further k
    by Settled e further (inl same) = (x, inl refl, sym same, λ d. (let f : Settled ≡ Drawn = sym e ∙ d in cc))
    by Settled e further (inr k) = further k

pub settled_among : (ledger : List Noted) (x : Noted) → IsAmong ledger x → x.stage ≡ Settled → IsAmong (settled_log ledger) x.entry
settled_among [] x m e = absurd m
settled_among (y ∷ ledger) x (inl same) e =
    subst (λ (st : Stage). IsAmong (if_settled st y.entry (settled_log ledger)) x.entry) (sym e ∙ ap (λ (q : Noted). q.stage) same) (inl (ap (λ (q : Noted). q.entry) same))
settled_among (y ∷ ledger) x (inr m) e = by y.stage (settled_among ledger x m e)
  where
    by : (stage : Stage) → IsAmong (settled_log ledger) x.entry → IsAmong (if_settled stage y.entry (settled_log ledger)) x.entry
    by Drawn k = k
    by Stored k = k
    by Settled k = inr k

settled_newest : (ledger : List Noted) (r : Record) → IsAmong (settled_log ledger) r → IsAmong (newest_log ledger) r
settled_newest [] r m = m
settled_newest (x ∷ ledger) r m = by x.stage (λ k. settled_newest ledger r k) m
  where
    by : (stage : Stage) → (IsAmong (settled_log ledger) r → IsAmong (newest_log ledger) r) → IsAmong (if_settled stage x.entry (settled_log ledger)) r →
        IsAmong (if_stored stage x.entry (newest_log ledger)) r
    by Drawn further k = further k
    by Stored further k = inr (further k)
    by Settled further (inl e) = inl e
    by Settled further (inr k) = inr (further k)

newest_first : (ledger : List Noted) → AreNewestFirst ledger → IsNewestFirst (newest_log ledger)
newest_first [] first = tt
newest_first (x ∷ ledger) first = by x.stage (newest_first ledger first.1)
  where
    older : (s : Record) → IsAmong (newest_log ledger) s → (s.lsn < x.entry.lsn) ⊎ ((s.lsn ≡ x.entry.lsn) × (s.at < x.entry.at))
    older s m = let k = in_newest ledger s m in let lt = first.0 k.0 k.1 in let same : k.0.entry.lsn ≡ s.lsn = ap (λ (q : Record). q.lsn) k.2 in inl (omega (arith, lt, same))

    by : (stage : Stage) → IsNewestFirst (newest_log ledger) → IsNewestFirst (if_stored stage x.entry (newest_log ledger))
    by Drawn rest = rest
    by Stored rest = (older, rest)
    by Settled rest = (older, rest)

fresh : (r : Record) (ledger : List Noted) → AreNewestFirst ledger → IsNotedAt ledger r Drawn → (x : Record) → IsAmong (newest_log ledger) x → x.lsn ≢ r.lsn
fresh r ledger first noted x m e =
    let k = in_newest ledger x m in
    let a : k.0.entry.lsn ≡ x.lsn = ap (λ (q : Record). q.lsn) k.2 in
    let b : noted.0.entry.lsn ≡ r.lsn = ap (λ (q : Record). q.lsn) noted.2 in
    let same : k.0 ≡ noted.0 = one_entry ledger k.0 noted.0 first k.1 noted.1 (a ∙ e ∙ sym b) in
    k.3 (ap (λ (q : Noted). q.stage) same ∙ noted.3)

stage_told : (stage : Stage) → (stage ≡ Settled) ⊎ (stage ≢ Settled)
stage_told Drawn = inr (λ e. cc)
stage_told Stored = inr (λ e. cc)
stage_told Settled = inl refl

closed_settled : (gates ends checkpoints : List ℕ) (ledger : List Noted) (r : Record) → SparesGates gates ends checkpoints ledger → IsAmong (newest_log ledger) r →
    IsListedGate gates ends checkpoints r.at → IsAmong (settled_log ledger) r
closed_settled gates ends checkpoints ledger r spares m on =
    let k = in_newest ledger r m in
    elim (stage_told k.0.stage) [
      | inl e ↦ subst (λ (q : Record). IsAmong (settled_log ledger) q) k.2 (settled_among ledger k.0 k.1 e)
      | inr ne ↦ absurd (spares k.0 k.1 ne (subst (λ (q : Record). IsListedGate gates ends checkpoints q.at) (sym k.2) on))
    ]

-- ---- what becomes of it

-- a record in front, and one that comes behind it
passes : (stage : Stage) (x r : Record) (log : Log) → r.lsn < x.lsn → if_stored stage x (inserted r log) ≡ inserted r (if_stored stage x log)
passes Drawn x r log lt = refl
passes Stored x r log lt = let on : nat_lt r.lsn x.lsn ≡ true = grind (arith, nat_tests, lt) in rw on refl
passes Settled x r log lt = let on : nat_lt r.lsn x.lsn ≡ true = grind (arith, nat_tests, lt) in rw on refl

stores : (r : Record) (ledger : List Noted) → AreNewestFirst ledger → IsNotedAt ledger r Drawn → newest_log (with_stage r.lsn Stored ledger) ≡ inserted r (newest_log ledger)
stores r [] first noted = absurd noted.1
stores r (x ∷ ledger) first noted = elim noted.1 [
  | inl here ↦ (
      let entry : x.entry ≡ r = ap (λ (q : Noted). q.entry) (sym here) ∙ noted.2 in
      let same : x.entry.lsn ≡ r.lsn = ap (λ (q : Record). q.lsn) entry in
      let on : (x.entry.lsn == r.lsn) ≡ true = elim (eqb_tells x.entry.lsn r.lsn) [ inl e ↦ e.0 | inr e ↦ absurd (e.1 same) ] in
      let stage : x.stage ≡ Drawn = ap (λ (q : Noted). q.stage) (sym here) ∙ noted.3 in
      let log : if_stored x.stage x.entry (newest_log ledger) ≡ newest_log ledger = ap (λ (st : Stage). if_stored st x.entry (newest_log ledger)) stage in
      rw on (
      ap (λ l. x.entry ∷ newest_log l) (unchanged r.lsn Stored ledger (below x ledger r.lsn same first.0))
      ∙ ap (λ q. q ∷ newest_log ledger) entry
      ∙ sym (inserted_first r (newest_log ledger) (λ y m. (
      let k = in_newest ledger y m in
      let lt = first.0 k.0 k.1 in
      let at : k.0.entry.lsn ≡ y.lsn = ap (λ (q : Record). q.lsn) k.2 in
      omega (arith, lt, at, same))))
      ∙ ap (inserted r) (sym log)))
  | inr m ↦ (
      let lt = first.0 noted.0 m in
      let at : noted.0.entry.lsn ≡ r.lsn = ap (λ (q : Record). q.lsn) noted.2 in
      let off : (x.entry.lsn == r.lsn) ≡ false = elim (eqb_tells x.entry.lsn r.lsn) [ inl e ↦ absurd (let f = e.1 in omega (arith, lt, at, f)) | inr e ↦ e.0 ] in
      rw off (ap (if_stored x.stage x.entry) (stores r ledger first.1 (noted.0, m, noted.2, noted.3)) ∙ passes x.stage x.entry r (newest_log ledger) (omega (arith, lt, at))))
]

settles : (r : Record) (ledger : List Noted) → AreNewestFirst ledger → IsNotedAt ledger r Stored → newest_log (with_stage r.lsn Settled ledger) ≡ newest_log ledger
settles r [] first noted = absurd noted.1
settles r (x ∷ ledger) first noted = elim noted.1 [
  | inl here ↦ (
      let same : x.entry.lsn ≡ r.lsn = ap (λ (q : Noted). q.entry.lsn) (sym here) ∙ ap (λ (q : Record). q.lsn) noted.2 in
      let on : (x.entry.lsn == r.lsn) ≡ true = elim (eqb_tells x.entry.lsn r.lsn) [ inl e ↦ e.0 | inr e ↦ absurd (e.1 same) ] in
      let stage : x.stage ≡ Stored = ap (λ (q : Noted). q.stage) (sym here) ∙ noted.3 in
      rw on (
      ap (λ l. x.entry ∷ newest_log l) (unchanged r.lsn Settled ledger (below x ledger r.lsn same first.0))
      ∙ sym (ap (λ (st : Stage). if_stored st x.entry (newest_log ledger)) stage)))
  | inr m ↦ (
      let lt = first.0 noted.0 m in
      let at : noted.0.entry.lsn ≡ r.lsn = ap (λ (q : Record). q.lsn) noted.2 in
      let off : (x.entry.lsn == r.lsn) ≡ false = elim (eqb_tells x.entry.lsn r.lsn) [ inl e ↦ absurd (let f = e.1 in omega (arith, lt, at, f)) | inr e ↦ e.0 ] in
      rw off (ap (if_stored x.stage x.entry) (settles r ledger first.1 (noted.0, m, noted.2, noted.3))))
]

shuts : (gates ends checkpoints : List ℕ) (ledger : List Noted) → newest_log (without gates ends checkpoints ledger) ≡ left_open gates ends checkpoints (newest_log ledger)
shuts gates ends checkpoints [] = refl
shuts gates ends checkpoints (x ∷ ledger) = by x.stage (is_listed gates ends checkpoints x.entry.at) refl (shuts gates ends checkpoints ledger)
  where
    by : (stage : Stage) (t : Bool) → is_listed gates ends checkpoints x.entry.at ≡ t →
        newest_log (without gates ends checkpoints ledger) ≡ left_open gates ends checkpoints (newest_log ledger) →
        newest_log (if t then without gates ends checkpoints ledger else record { lane = x.lane; entry = x.entry; stage = stage } ∷ without gates ends checkpoints ledger) ≡
        left_open gates ends checkpoints (if_stored stage x.entry (newest_log ledger))
    by Drawn true e rest = rest
    by Drawn false e rest = rest
    by Stored true e rest = rw e rest
    by Stored false e rest = rw e (ap (λ l. x.entry ∷ l) rest)
    by Settled true e rest = rw e rest
    by Settled false e rest = rw e (ap (λ l. x.entry ∷ l) rest)

pub newest_logs_keep : NewestLogsKeep
newest_logs_keep = record {
  draws = λ lane r ledger. refl;
  stores = stores;
  settles = settles;
  closes = shuts;
  fresh = fresh;
  newest_first = newest_first;
  settled = settled_newest;
  closed = closed_settled;
}

-- ---- by the events of a part

-- the ledger behind an event that isn't the last, and behind the last
going : (shape : Shape) (p : ℕ) (k : Keeping) (store : Bool) → (k.runs p).made + 1 < length (plan_in shape k p) → is_over (plan_in shape k p) ((k.runs p).made + 2) ≡ store →
    (made_part shape p k).ledger ≡ stored_if store (k.runs p).part k.ledger
going shape p k store more is = ap (λ (x : Keeping). x.ledger) (goes_on shape k p more) ∙ ap (λ t. stored_if t (k.runs p).part k.ledger) is

ending : (shape : Shape) (p : ℕ) (k : Keeping) (part : LogPart) → (k.runs p).part ≡ part → (k.runs p).made + 1 ≡ length (plan_in shape k p) →
    (made_part shape p k).ledger ≡ settled_by part k.ledger
ending shape p k part is last =
    ap (λ t. (if t then ended p (settled_by (k.runs p).part k.ledger) k else gone_on (is_over (plan_in shape k p) ((k.runs p).made + 2)) p (k.runs p) k).ledger)
    (over_yes (plan_in shape k p) ((k.runs p).made + 1) (omega (arith, last)))
    ∙ ap (λ (x : LogPart). settled_by x k.ledger) is

-- the stage of an append's record before its gate's store, and behind it
drawn_at : (shape : Shape) (p : ℕ) (k : Keeping) (place : Place) (r : Record) → p < shape.partitions → FitsRuns shape k → (k.runs p).part ≡ appends place r →
    (k.runs p).made + 1 < length (plan_in shape k p) → IsNotedAt k.ledger r Drawn
drawn_at shape p k place r inside fits on more =
    subst (λ t. IsNotedAt k.ledger r (if t then Stored else Drawn)) (over_not (plan_in shape k p) ((k.runs p).made + 1) more) (fits.noted p place r inside on)

stored_at : (shape : Shape) (p : ℕ) (k : Keeping) (place : Place) (r : Record) → p < shape.partitions → FitsRuns shape k → (k.runs p).part ≡ appends place r →
    (k.runs p).made + 1 ≡ length (plan_in shape k p) → IsNotedAt k.ledger r Stored
stored_at shape p k place r inside fits on last =
    subst (λ t. IsNotedAt k.ledger r (if t then Stored else Drawn)) (over_yes (plan_in shape k p) ((k.runs p).made + 1) (omega (arith, last))) (fits.noted p place r inside on)

stored_none : (part : LogPart) (store : Bool) (ledger : List Noted) → IsNoAppend part → stored_if store part ledger ≡ ledger
stored_none rests true ledger none = refl
stored_none (appends place r) true ledger none = absurd (none place r refl)
stored_none (closes gates ends checkpoints) true ledger none = refl
stored_none (takes_back gates) true ledger none = refl
stored_none (drops d) true ledger none = refl
stored_none part false ledger none = refl

pub newest_logs_made : NewestLogsMade
newest_logs_made = record {
  waits = λ shape p k more. ap newest_log (going shape p k false (omega (arith, more)) (over_not (plan_in shape k p) ((k.runs p).made + 2) more));
  stores = λ shape p k place r inside first fits on at.
      ap newest_log (going shape p k true (omega (arith, at)) (over_yes (plan_in shape k p) ((k.runs p).made + 2) (omega (arith, at))))
      ∙ ap (λ (x : LogPart). newest_log (stored_if true x k.ledger)) on
      ∙ stores r k.ledger first (drawn_at shape p k place r inside fits on (omega (arith, at)));
  settles = λ shape p k place r inside first fits on last.
      ap newest_log (ending shape p k (appends place r) on last) ∙ settles r k.ledger first (stored_at shape p k place r inside fits on last);
  adds_none = λ shape p k none more.
      ap newest_log (going shape p k (is_over (plan_in shape k p) ((k.runs p).made + 2)) more refl
      ∙ stored_none (k.runs p).part (is_over (plan_in shape k p) ((k.runs p).made + 2)) k.ledger none);
  closes = λ shape p k gates ends checkpoints on last. ap newest_log (ending shape p k (closes gates ends checkpoints) on last) ∙ shuts gates ends checkpoints k.ledger;
  takes_back = λ shape p k gates on last. ap newest_log (ending shape p k (takes_back gates) on last) ∙ shuts gates [] [] k.ledger;
  drops = λ shape p k r on last. ap newest_log (ending shape p k (drops r) on last);
}

-- ---- ended transactions

pub newest_are_over : NewestAreOver
newest_are_over ledger gates ends checkpoints spares apart over = record {
  ended = λ r m on. elim (over.ended r (closed_settled gates ends checkpoints ledger r spares m on) on) [
    | inl c ↦ inl c
    | inr e ↦ inr (e.0, settled_newest ledger e.0 e.1, e.2)
  ];
  whole = λ e m on end r k of. (
      let x = in_newest ledger r k in
      let there = closed_settled gates ends checkpoints ledger e spares m on in
      elim (stage_told x.0.stage) [
        | inl settled ↦ over.whole e there on end r (subst (λ (q : Record). IsAmong (settled_log ledger) q) x.2 (settled_among ledger x.0 x.1 settled)) of
        | inr ne ↦ absurd (apart x.0 x.1 ne (subst (λ (q : Record). q.kind ≢ CHECKPOINT) (sym x.2) of.1)
            (e, there, (end, sym of.0 ∙ sym (ap (λ (q : Record). q.transaction) x.2))))
      ]);
}
