-- What keeps standing values.
use Rattle.std.proofs.Common.{◌≡◌, ◌⊎◌, inl, inr, ℕ, ◌≤◌, [], ◌∷◌, refl, sym, ap, ◌∙◌, arith, subst}
use Rattle.persist_model.specs.Region.{Words}
use Rattle.persist_model.specs.Records.{Record, Log, IsAmong, HasNo}
use Rattle.persist_model.specs.Standing.{IsToUndo, IsToDelete, IsToRedo, IsEarliest, IsLatest, Stands, undone, deleted, redone, kept}
use Rattle.log_laws.specs.Recovery.{HasDecidingRecord}
use Rattle.log_laws.proofs.Deciding.{IsDecided, decide_at_most, has_or_none, decide_to_undo, decide_to_delete, decide_to_redo}

-- ---- stores to heap words

none_covered : (policy : ℕ) (log : Log) (a : ℕ) → HasNo (IsToUndo log a) log → HasNo (IsToDelete log a) log → HasNo (IsToRedo policy log a) log → HasDecidingRecord policy log a → ⊥
none_covered policy log a u d r (inl h) = u h.0 h.1 h.2
none_covered policy log a u d r (inr (inl h)) = d h.0 h.1 h.2
none_covered policy log a u d r (inr (inr h)) = r h.0 h.1 h.2

-- a store to a covered word keeps all standing values
pub stands_stored : (policy : ℕ) (log : Log) (w x : Words) (a v : ℕ) → (x a ≡ w a) ⊎ HasDecidingRecord policy log a →
    Stands policy log w a v → Stands policy log x a v
stands_stored policy log w x a v h (undone u first e) = undone u first e
stands_stored policy log w x a v h (deleted none d e) = deleted none d e
stands_stored policy log w x a v h (redone none nd r last e) = redone none nd r last e
stands_stored policy log w x a v (inl same) (kept nu nd nr e) = kept nu nd nr (e ∙ sym same)
stands_stored policy log w x a v (inr covered) (kept nu nd nr e) = absurd (none_covered policy log a nu nd nr covered)

-- ---- one value

earliest_one : (P : Record → Type 0) (log : Log) → ((r s : Record) → IsAmong log r → IsAmong log s → r.lsn ≡ s.lsn → r ≡ s) →
    (r s : Record) → IsEarliest P log r → IsEarliest P log s → r ≡ s
earliest_one P log apart r s h k = apart r s h.among k.among (let a = h.first s k.among k.has in let b = k.first r h.among h.has in omega (arith, a, b))

latest_one : (P : Record → Type 0) (log : Log) → ((r s : Record) → IsAmong log r → IsAmong log s → r.lsn ≡ s.lsn → r ≡ s) →
    (r s : Record) → IsLatest P log r → IsLatest P log s → r ≡ s
latest_one P log apart r s h k = apart r s h.among k.among (let a = h.last s k.among k.has in let b = k.last r h.among h.has in omega (arith, a, b))

-- no two records have one number
abbrev pub AreNumbered : Log → Type 0
AreNumbered log = (r s : Record) → IsAmong log r → IsAmong log s → r.lsn ≡ s.lsn → r ≡ s

pub stands_one : (policy : ℕ) (log : Log) (w : Words) (a v x : ℕ) → AreNumbered log → Stands policy log w a v → Stands policy log w a x → v ≡ x
stands_one policy log w a v x apart (undone u first e) (undone u' first' e') =
    let same : u ≡ u' = earliest_one (IsToUndo log a) log apart u u' first first' in e ∙ ap (λ (r : Record). r.before) same ∙ sym e'
stands_one policy log w a v x apart (undone u first e) (deleted none d e') = absurd (none u first.among first.has)
stands_one policy log w a v x apart (undone u first e) (redone none nd r last e') = absurd (none u first.among first.has)
stands_one policy log w a v x apart (undone u first e) (kept none nd nr e') = absurd (none u first.among first.has)
stands_one policy log w a v x apart (deleted none d e) (undone u first e') = absurd (none u first.among first.has)
stands_one policy log w a v x apart (deleted none d e) (deleted none' d' e') = e ∙ sym e'
stands_one policy log w a v x apart (deleted none d e) (redone none' nd r last e') = absurd (nd d.0 d.1 d.2)
stands_one policy log w a v x apart (deleted none d e) (kept none' nd nr e') = absurd (nd d.0 d.1 d.2)
stands_one policy log w a v x apart (redone none nd r last e) (undone u first e') = absurd (none u first.among first.has)
stands_one policy log w a v x apart (redone none nd r last e) (deleted none' d e') = absurd (nd d.0 d.1 d.2)
stands_one policy log w a v x apart (redone none nd r last e) (redone none' nd' r' last' e') =
    let same : r ≡ r' = latest_one (IsToRedo policy log a) log apart r r' last last' in e ∙ ap (λ (r : Record). r.after) same ∙ sym e'
stands_one policy log w a v x apart (redone none nd r last e) (kept none' nd' nr e') = absurd (nr r last.among last.has)
stands_one policy log w a v x apart (kept none nd nr e) (undone u first e') = absurd (none u first.among first.has)
stands_one policy log w a v x apart (kept none nd nr e) (deleted none' d e') = absurd (nd d.0 d.1 d.2)
stands_one policy log w a v x apart (kept none nd nr e) (redone none' nd' r last e') = absurd (nr r last.among last.has)
stands_one policy log w a v x apart (kept none nd nr e) (kept none' nd' nr' e') = e ∙ sym e'

-- ---- some value

pub less_other : (a b : ℕ) → (a ≤ b → ⊥) → b ≤ a
less_other a b n = grind (arith, n)

unfoldable pub order_by : (a b : ℕ) → IsDecided (a ≤ b) → (a ≤ b) ⊎ (b ≤ a)
order_by a b (inl le) = inl le
order_by a b (inr n) = inr (less_other a b n)

unfoldable pub first_of_two : (r s : Record) → (r.lsn ≤ s.lsn) ⊎ (s.lsn ≤ r.lsn)
unfolding order_by decide_at_most
first_of_two r s = order_by r.lsn s.lsn (decide_at_most r.lsn s.lsn)

unfoldable pub last_of_two : (r s : Record) → (s.lsn ≤ r.lsn) ⊎ (r.lsn ≤ s.lsn)
unfolding order_by decide_at_most
last_of_two r s = order_by s.lsn r.lsn (decide_at_most s.lsn r.lsn)

unfoldable pub earliest_some : (P : Record → Type 0) (log : Log) → ((r : Record) → IsDecided (P r)) → ((r : Record) × IsEarliest P log r) ⊎ HasNo P log
unfolding first_of_two
earliest_some P [] decide = inr (λ r m p. m)
earliest_some P (s ∷ log) decide = elim (earliest_some P log decide) [
  | inl h ↦ inl (elim (decide s) [
    | inl p ↦ (elim (first_of_two s h.0) [
      | inl le ↦ (s, record { among = inl refl; has = p; first = λ r m q. elim m [ inl e ↦ (rw e (omega arith)) | inr k ↦ (let b = h.1.first r k q in omega (arith, le, b)) ] })
      | inr le ↦ (h.0, record { among = inr h.1.among; has = h.1.has; first = λ r m q. elim m [ inl e ↦ (rw e le) | inr k ↦ h.1.first r k q ] })
    ])
    | inr n ↦ (h.0, record { among = inr h.1.among; has = h.1.has; first = λ r m q. elim m [ inl e ↦ absurd (n (subst P e q)) | inr k ↦ h.1.first r k q ] })
  ])
  | inr none ↦ elim (decide s) [
    | inl p ↦ inl (s, record { among = inl refl; has = p; first = λ r m q. elim m [ inl e ↦ (rw e (omega arith)) | inr k ↦ absurd (none r k q) ] })
    | inr n ↦ inr (λ r m q. elim m [ inl e ↦ n (subst P e q) | inr k ↦ none r k q ])
  ]
]

unfoldable pub latest_some : (P : Record → Type 0) (log : Log) → ((r : Record) → IsDecided (P r)) → ((r : Record) × IsLatest P log r) ⊎ HasNo P log
unfolding last_of_two
latest_some P [] decide = inr (λ r m p. m)
latest_some P (s ∷ log) decide = elim (latest_some P log decide) [
  | inl h ↦ inl (elim (decide s) [
    | inl p ↦ (elim (last_of_two s h.0) [
      | inl le ↦ (s, record { among = inl refl; has = p; last = λ r m q. elim m [ inl e ↦ (rw e (omega arith)) | inr k ↦ (let b = h.1.last r k q in omega (arith, le, b)) ] })
      | inr le ↦ (h.0, record { among = inr h.1.among; has = h.1.has; last = λ r m q. elim m [ inl e ↦ (rw e le) | inr k ↦ h.1.last r k q ] })
    ])
    | inr n ↦ (h.0, record { among = inr h.1.among; has = h.1.has; last = λ r m q. elim m [ inl e ↦ absurd (n (subst P e q)) | inr k ↦ h.1.last r k q ] })
  ])
  | inr none ↦ elim (decide s) [
    | inl p ↦ inl (s, record { among = inl refl; has = p; last = λ r m q. elim m [ inl e ↦ (rw e (omega arith)) | inr k ↦ absurd (none r k q) ] })
    | inr n ↦ inr (λ r m q. elim m [ inl e ↦ n (subst P e q) | inr k ↦ none r k q ])
  ]
]

-- each word has a standing value
unfoldable pub stands_some : (policy : ℕ) (log : Log) (w : Words) (a : ℕ) → (v : ℕ) × Stands policy log w a v
unfolding earliest_some has_or_none latest_some decide_to_undo decide_to_delete decide_to_redo
stands_some policy log w a = elim (earliest_some (IsToUndo log a) log (decide_to_undo log a)) [
  | inl u ↦ (u.0.before, undone u.0 u.1 refl)
  | inr nu ↦ elim (has_or_none (IsToDelete log a) log (decide_to_delete log a)) [
    | inl d ↦ (0, deleted nu d refl)
    | inr nd ↦ elim (latest_some (IsToRedo policy log a) log (decide_to_redo policy log a)) [
      | inl r ↦ (r.0.after, redone nu nd r.0 r.1 refl)
      | inr nr ↦ (w a, kept nu nd nr refl)
    ]
  ]
]
