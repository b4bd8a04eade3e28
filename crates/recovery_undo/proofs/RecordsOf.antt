-- What the undo of a transaction needs of a log is in the transaction's own records.
use Rattle.std.proofs.Common.{◌≡◌, ◌≢◌, ◌⊎◌, inl, inr, ℕ, ◌+◌, Bool, true, false, ◌==◌, ◌||◌, if◌then◌else◌, [], ◌∷◌, ◌++◌, length, refl, sym, ap, ◌∙◌, subst, arith}
use Rattle.std.proofs.lemmas.Bool.Decides.{eqb_tells, nat_tests}
use Rattle.persist_model.specs.Region.{Words}
use Rattle.persist_model.specs.Records.{Record, Log, IsAmong, IsOf}
use Rattle.persist_model.specs.Order.{is_kind_of}
use Rattle.persist_model.specs.Need.{rest, to_undo, is_of, has_kind_of, need_of}
use Rattle.log_laws.proofs.Applying.{set_word, undone_words}
use Rattle.log_laws.proofs.Needs.{of_test}
use Rattle.recovery_run.specs.Groups.{records_of}

-- a record is one of t's, or of no kind of t but perhaps a checkpoint record
pub not_of_kind : (t k : ℕ) (r : Record) → is_of t r ≡ false → k ≢ 5 → is_kind_of t k r ≡ false
not_of_kind t k r off ne = elim (eqb_tells r.transaction t) [
  | inr other ↦ (rw other.0 refl)
  | inl own ↦ elim (eqb_tells r.kind k) [
    | inr other ↦ (rw (own.0, other.0) refl)
    | inl is ↦ (let five : (r.kind == 5) ≡ false = (let e = is.1 in grind (arith, nat_tests)) in
        let on : is_of t r ≡ true = rw (own.0, five) refl in cc)
  ]
]

pub to_undo-records_of : (t : ℕ) (log : Log) → to_undo t (records_of t log) ≡ to_undo t log
to_undo-records_of t [] = refl
to_undo-records_of t (r ∷ log) = by_test (is_of t r) refl (to_undo-records_of t log)
  where
    by_test : (b : Bool) → is_of t r ≡ b → to_undo t (records_of t log) ≡ to_undo t log →
        to_undo t (if b then r ∷ records_of t log else records_of t log) ≡ (if is_kind_of t 1 r then r ∷ to_undo t log else (if is_kind_of t 2 r then rest (to_undo t log) else to_undo t log))
    by_test true is again = ap (λ stack. if is_kind_of t 1 r then r ∷ stack else (if is_kind_of t 2 r then rest stack else stack)) again
    by_test false off again = (
        let one = not_of_kind t 1 r off (omega arith) in
        let two = not_of_kind t 2 r off (omega arith) in
        rw (one, two) again)

pub undone_words-records_of : (t : ℕ) (log : Log) (w : Words) → undone_words t (records_of t log) w ≡ undone_words t log w
undone_words-records_of t [] w = refl
undone_words-records_of t (r ∷ log) w = by_test (is_of t r) refl (undone_words-records_of t log (set_word w r.word r.before)) (undone_words-records_of t log w)
  where
    by_test : (b : Bool) → is_of t r ≡ b → undone_words t (records_of t log) (set_word w r.word r.before) ≡ undone_words t log (set_word w r.word r.before) →
        undone_words t (records_of t log) w ≡ undone_words t log w →
        undone_words t (if b then r ∷ records_of t log else records_of t log) w ≡ (if is_kind_of t 1 r then undone_words t log (set_word w r.word r.before) else undone_words t log w)
    by_test true is with_it without = by_kind (is_kind_of t 1 r)
      where
        by_kind : (one : Bool) → (if one then undone_words t (records_of t log) (set_word w r.word r.before) else undone_words t (records_of t log) w)
            ≡ (if one then undone_words t log (set_word w r.word r.before) else undone_words t log w)
        by_kind true = with_it
        by_kind false = without
    by_test false off with_it without = (let one = not_of_kind t 1 r off (omega arith) in rw one without)

pub has_kind_of-records_of : (t k : ℕ) (log : Log) → k ≢ 5 → has_kind_of t k (records_of t log) ≡ has_kind_of t k log
has_kind_of-records_of t k [] ne = refl
has_kind_of-records_of t k (r ∷ log) ne = by_test (is_of t r) refl (has_kind_of-records_of t k log ne)
  where
    by_test : (b : Bool) → is_of t r ≡ b → has_kind_of t k (records_of t log) ≡ has_kind_of t k log →
        has_kind_of t k (if b then r ∷ records_of t log else records_of t log) ≡ (is_kind_of t k r || has_kind_of t k log)
    by_test true is again = ap (λ b. is_kind_of t k r || b) again
    by_test false off again = (let none = not_of_kind t k r off ne in rw none again)

pub need_of-records_of : (t : ℕ) (log : Log) → need_of (records_of t log) t ≡ need_of log t
need_of-records_of t log =
    let four = has_kind_of-records_of t 4 log (omega arith) in
    let three = has_kind_of-records_of t 3 log (omega arith) in
    let stack = to_undo-records_of t log in
    ap (λ b. if b then 0 else (if has_kind_of t 3 (records_of t log) then 0 else 1) + (length (to_undo t (records_of t log)) + 1)) four
    ∙ ap (λ b. if has_kind_of t 4 log then 0 else (if b then 0 else 1) + (length (to_undo t (records_of t log)) + 1)) three
    ∙ ap (λ (s : Log). if has_kind_of t 4 log then 0 else (if has_kind_of t 3 log then 0 else 1) + (length s + 1)) stack

-- t's records are among the log's, and each of the log's that is of t is one of them
pub records_of_are : (t : ℕ) (log : Log) (r : Record) → IsAmong (records_of t log) r → IsAmong log r × IsOf t r
records_of_are t [] r m = absurd m
records_of_are t (x ∷ log) r m = elim (of_test t x) [
  | inl h ↦ elim (subst (λ b. IsAmong (if b then x ∷ records_of t log else records_of t log) r) h.0 m) [
    | inl e ↦ (inl e, subst (λ (y : Record). IsOf t y) (sym e) h.1)
    | inr k ↦ (let j = records_of_are t log r k in (inr j.0, j.1))
  ]
  | inr h ↦ (let j = records_of_are t log r (subst (λ b. IsAmong (if b then x ∷ records_of t log else records_of t log) r) h.0 m) in (inr j.0, j.1))
]

pub are_records_of : (t : ℕ) (log : Log) (r : Record) → IsAmong log r → IsOf t r → IsAmong (records_of t log) r
are_records_of t [] r m of = absurd m
are_records_of t (x ∷ log) r m of = by_place m (λ k. are_records_of t log r k of)
  where
    by_place : (r ≡ x) ⊎ IsAmong log r → (IsAmong log r → IsAmong (records_of t log) r) → IsAmong (if is_of t x then x ∷ records_of t log else records_of t log) r
    by_place (inl e) again = elim (of_test t x) [
      | inl h ↦ subst (λ b. IsAmong (if b then x ∷ records_of t log else records_of t log) r) (sym h.0) (inl e)
      | inr h ↦ absurd (elim h.1 [
        | inl five ↦ (let k = of.1 in let is : r.kind ≡ x.kind = ap (λ (y : Record). y.kind) e in grind (arith, nat_tests, k, is, five))
        | inr ne ↦ ne (ap (λ (y : Record). y.transaction) (sym e) ∙ of.0)
      ])
    ]
    by_place (inr k) again = elim (of_test t x) [
      | inl h ↦ subst (λ b. IsAmong (if b then x ∷ records_of t log else records_of t log) r) (sym h.0) (inr (again k))
      | inr h ↦ subst (λ b. IsAmong (if b then x ∷ records_of t log else records_of t log) r) (sym h.0) (again k)
    ]

-- records of t make no other transaction's
pub others_stay : (t u : ℕ) (news log : Log) → ((r : Record) → IsAmong news r → IsOf t r) → u ≢ t → records_of u (news ++ log) ≡ records_of u log
others_stay t u [] log mine ne = refl
others_stay t u (r ∷ news) log mine ne =
    let off : is_of u r ≡ false = elim (of_test u r) [ inl h ↦ absurd (ne (sym h.1.0 ∙ (mine r (inl refl)).0)) | inr h ↦ h.0 ] in
    rw off (others_stay t u news log (λ s m. mine s (inr m)) ne)
