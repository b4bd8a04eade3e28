-- The value of a word behind entries, and the commits that a log has.
use Rattle.std.proofs.Common.{◌≡◌, ◌⊎◌, inl, inr, ℕ, Bool, true, false, if◌then◌else◌, List, [], ◌∷◌, ◌++◌, refl, sym, ap, ◌∙◌, subst}
use Rattle.std.proofs.lemmas.Bool.Decides.{eqb_tells}
use Rattle.persist_model.specs.Progress.{latest}
use Rattle.persist_model.specs.Kinds.{COMMITTED}
use Rattle.persist_model.specs.Records.{Record, Log, IsAmong, IsEndOf, IsCommitted}
use Rattle.history_laws.specs.Histories.{Entry, value_behind, LeavesWord}
use Rattle.history_laws.specs.Stands.{is_commit_of, has_commit, kept_of}

-- ---- entries

pub value_append : (xs ys : List Entry) (a u : ℕ) → value_behind (xs ++ ys) a u ≡ value_behind ys a (value_behind xs a u)
value_append [] ys a u = refl
value_append (e ∷ xs) ys a u = value_append xs ys a (latest e.writes a u)

-- ---- commits

abbrev pub IsCommitEndOf : ℕ → Record → Type 0
IsCommitEndOf t r = IsEndOf t r × (r.outcome ≡ COMMITTED)

abbrev Tells : ℕ → Record → Type 0
Tells t r = ((is_commit_of t r ≡ true) × IsCommitEndOf t r) ⊎ ((is_commit_of t r ≡ false) × (IsCommitEndOf t r → ⊥))

pub commit_tells : (t : ℕ) (r : Record) → Tells t r
commit_tells t r = elim (eqb_tells r.transaction t) [
  | inr ne ↦ inr ((rw ne.0 refl), λ c. ne.1 c.0.1)
  | inl own ↦ elim (eqb_tells r.kind 4) [
    | inr ne ↦ inr ((rw (own.0, ne.0) refl), λ c. ne.1 c.0.0)
    | inl end ↦ elim (eqb_tells r.outcome 1) [
      | inr ne ↦ inr ((rw (own.0, end.0, ne.0) refl), λ c. ne.1 c.1)
      | inl one ↦ inl ((rw (own.0, end.0, one.0) refl), ((end.1, own.1), one.1))
    ]
  ]
]

abbrev pub HasCommit : ℕ → Log → Type 0
HasCommit t log = ((has_commit t log ≡ true) × IsCommitted log t) ⊎ ((has_commit t log ≡ false) × (IsCommitted log t → ⊥))

pub commit_cases : (t : ℕ) (log : Log) → HasCommit t log
commit_cases t [] = inr (refl, λ c. c.1)
commit_cases t (r ∷ log) = elim (commit_tells t r) [
  | inl h ↦ inl ((rw h.0 refl), (r, inl refl, h.1))
  | inr h ↦ elim (commit_cases t log) [
    | inl k ↦ inl ((rw (h.0, k.0) refl), (k.1.0, inr k.1.1, k.1.2))
    | inr k ↦ inr ((rw (h.0, k.0) refl), λ c. elim c.1 [ inl e ↦ h.1 (subst (IsCommitEndOf t) e c.2) | inr m ↦ k.1 (c.0, m, c.2) ])
  ]
]

pub commit_is : (t : ℕ) (log : Log) → IsCommitted log t → has_commit t log ≡ true
commit_is t log c = elim (commit_cases t log) [ inl h ↦ h.0 | inr h ↦ absurd (h.1 c) ]

pub commit_same : (t : ℕ) (x y : Log) → (IsCommitted x t → IsCommitted y t) → (IsCommitted y t → IsCommitted x t) → has_commit t x ≡ has_commit t y
commit_same t x y f g = elim (commit_cases t x) [
  | inl h ↦ h.0 ∙ sym (commit_is t y (f h.1))
  | inr h ↦ elim (commit_cases t y) [ inl k ↦ absurd (h.1 (g k.1)) | inr k ↦ h.0 ∙ sym k.0 ]
]

-- ---- the commits that are kept

-- two logs whose commits differ in entries that leave the word as it is
pub value_kept : (flight : List Entry) (x y : Log) (a u : ℕ) → ((e : Entry) → IsAmong flight e → (has_commit e.transaction x ≡ has_commit e.transaction y) ⊎ LeavesWord e a) →
    value_behind (kept_of x flight) a u ≡ value_behind (kept_of y flight) a u
value_kept [] x y a u same = refl
value_kept (e ∷ flight) x y a u same =
    by (has_commit e.transaction x) (has_commit e.transaction y) (same e (inl refl)) (λ z. value_kept flight x y a z (λ f m. same f (inr m)))
  where
    by : (b c : Bool) → (b ≡ c) ⊎ LeavesWord e a → ((z : ℕ) → value_behind (kept_of x flight) a z ≡ value_behind (kept_of y flight) a z) →
        value_behind (if b then e ∷ kept_of x flight else kept_of x flight) a u ≡ value_behind (if c then e ∷ kept_of y flight else kept_of y flight) a u
    by true true h again = again (latest e.writes a u)
    by false false h again = again u
    by true false (inl k) again = cc
    by true false (inr k) again = again (latest e.writes a u) ∙ ap (value_behind (kept_of y flight) a) (k u)
    by false true (inl k) again = cc
    by false true (inr k) again = again u ∙ ap (value_behind (kept_of y flight) a) (sym (k u))

-- where no entry writes the word
pub value_untouched : (flight : List Entry) (y : Log) (a u : ℕ) → ((e : Entry) → IsAmong flight e → LeavesWord e a) → value_behind (kept_of y flight) a u ≡ u
value_untouched [] y a u leaves = refl
value_untouched (e ∷ flight) y a u leaves = by (has_commit e.transaction y) (λ z. value_untouched flight y a z (λ f m. leaves f (inr m)))
  where
    by : (b : Bool) → ((z : ℕ) → value_behind (kept_of y flight) a z ≡ z) → value_behind (if b then e ∷ kept_of y flight else kept_of y flight) a u ≡ u
    by true again = again (latest e.writes a u) ∙ leaves e (inl refl) u
    by false again = again u

pub kept_append : (y : Log) (xs ys : List Entry) → kept_of y (xs ++ ys) ≡ kept_of y xs ++ kept_of y ys
kept_append y [] ys = refl
kept_append y (e ∷ xs) ys = by (has_commit e.transaction y) (kept_append y xs ys)
  where
    by : (b : Bool) → kept_of y (xs ++ ys) ≡ kept_of y xs ++ kept_of y ys →
        (if b then e ∷ kept_of y (xs ++ ys) else kept_of y (xs ++ ys)) ≡ (if b then e ∷ kept_of y xs else kept_of y xs) ++ kept_of y ys
    by true again = ap (λ es. e ∷ es) again
    by false again = again

-- where this entry is committed and makes v of the word, and no other writes it
pub value_one : (front : List Entry) (e : Entry) (rest : List Entry) (y : Log) (a u v : ℕ) → has_commit e.transaction y ≡ true →
    ((f : Entry) → IsAmong front f ⊎ IsAmong rest f → LeavesWord f a) → latest e.writes a u ≡ v → value_behind (kept_of y (front ++ e ∷ rest)) a u ≡ v
value_one front e rest y a u v on leaves is =
    ap (λ es. value_behind es a u) (kept_append y front (e ∷ rest)) ∙ value_append (kept_of y front) (kept_of y (e ∷ rest)) a u ∙
    ap (value_behind (kept_of y (e ∷ rest)) a) (value_untouched front y a u (λ f m. leaves f (inl m))) ∙
    rw on (value_untouched rest y a (latest e.writes a u) (λ f m. leaves f (inr m)) ∙ is)

pub in_split : (front : List Entry) (e : Entry) (rest : List Entry) (f : Entry) → IsAmong (front ++ e ∷ rest) f → (f ≡ e) ⊎ (IsAmong front f ⊎ IsAmong rest f)
in_split [] e rest f (inl is) = inl is
in_split [] e rest f (inr m) = inr (inr m)
in_split (x ∷ front) e rest f (inl is) = inr (inl (inl is))
in_split (x ∷ front) e rest f (inr m) = elim (in_split front e rest f m) [ inl is ↦ inl is | inr (inl k) ↦ inr (inl (inr k)) | inr (inr k) ↦ inr (inr k) ]

-- where none is committed
pub value_none : (flight : List Entry) (y : Log) (a u : ℕ) → ((e : Entry) → IsAmong flight e → has_commit e.transaction y ≡ false) → value_behind (kept_of y flight) a u ≡ u
value_none [] y a u none = refl
value_none (e ∷ flight) y a u none = let off = none e (inl refl) in rw off (value_none flight y a u (λ f m. none f (inr m)))
