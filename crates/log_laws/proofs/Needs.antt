-- Each record of an undo lowers the need by one.
use Rattle.std.proofs.Common.{◌≡◌, ◌≢◌, ◌⊎◌, inl, inr, ℕ, zero, suc, ◌+◌, ◌<◌, Bool, true, false, not, ◌==◌, ◌&&◌, ◌||◌, if◌then◌else◌, [], ◌∷◌, refl, sym, ap, ◌∙◌, subst, arith}
use Rattle.std.proofs.lemmas.Bool.Decides.{eqb_tells, nat_tests}
use Rattle.persist_model.specs.Records.{Record, Log, IsAmong, Has, HasNo, IsOf, IsRollback, IsCompensation, IsEnd}
use Rattle.persist_model.specs.Order.{is_kind_of}
use Rattle.persist_model.specs.Need.{to_undo, has_kind_of, need_of, is_of, has_of, need_at, sum_over, need_in}
use Rattle.persist_model.specs.State.{total_need}

-- ---- one transaction's need

pub kind_test : (t k : ℕ) (r : Record) → r.transaction ≡ t → (j : ℕ) → r.kind ≡ j → (r.transaction == t) && (r.kind == k) ≡ (j == k)
kind_test t k r owner j is = rw (owner, is) (let on : (t == t) ≡ true = grind (arith, nat_tests) in rw on refl)

pub need_other : (t : ℕ) (r : Record) (log : Log) → r.transaction ≢ t → need_of (r ∷ log) t ≡ need_of log t
need_other t r log ne = let off : (r.transaction == t) ≡ false = grind (arith, nat_tests) in rw (off) refl

pub need_rollback : (t : ℕ) (r : Record) (log : Log) → IsRollback r → r.transaction ≡ t → has_kind_of t 4 log ≡ false → has_kind_of t 3 log ≡ false →
    need_of (r ∷ log) t + 1 ≡ need_of log t
need_rollback t r log is owner running none =
    let one = kind_test t 1 r owner 3 is in
    let two = kind_test t 2 r owner 3 is in
    let three = kind_test t 3 r owner 3 is in
    let four = kind_test t 4 r owner 3 is in
    rw (one, two, three, four, running, none) (omega arith)

pub need_compensation : (t : ℕ) (c u : Record) (stack log : Log) → IsCompensation c → c.transaction ≡ t → has_kind_of t 4 log ≡ false → to_undo t log ≡ u ∷ stack →
    need_of (c ∷ log) t + 1 ≡ need_of log t
need_compensation t c u stack log is owner running shape =
    let one = kind_test t 1 c owner 2 is in
    let two = kind_test t 2 c owner 2 is in
    let three = kind_test t 3 c owner 2 is in
    let four = kind_test t 4 c owner 2 is in
    rw (one, two, three, four, running, shape) (omega arith)

-- an end brings down what was left: 1, where nothing was left to undo and there was a rollback record
pub need_end : (t : ℕ) (e : Record) (log : Log) → IsEnd e → e.transaction ≡ t → has_kind_of t 4 log ≡ false → has_kind_of t 3 log ≡ true → to_undo t log ≡ [] →
    need_of (e ∷ log) t + 1 ≡ need_of log t
need_end t e log is owner running rolled shape =
    let four = kind_test t 4 e owner 4 is in
    rw (four, running, rolled, shape) (omega arith)

-- ---- the sum

pub or_false : (a b : Bool) → (a || b) ≡ false → (a ≡ false) × (b ≡ false)
or_false true b h = cc
or_false false b h = (refl, h)

or_true : (a b : Bool) → (a || b) ≡ true → (b ≡ true) ⊎ ((b ≡ false) × (a ≡ true))
or_true a true h = inl refl
or_true true false h = inr (refl, refl)
or_true false false h = cc

-- r is a record of t, or not
pub of_test : (t : ℕ) (r : Record) → (is_of t r ≡ true) × IsOf t r × ((r.kind == 5) ≡ false) ⊎ (is_of t r ≡ false) × (((r.kind == 5) ≡ true) ⊎ (r.transaction ≢ t))
of_test t r = elim (eqb_tells r.transaction t) [
  | inr other ↦ inr ((rw other.0 refl), inr other.1)
  | inl own ↦ elim (eqb_tells r.kind 5) [
    | inl five ↦ inr ((rw (own.0, five.0) refl), inl five.0)
    | inr ne ↦ inl ((rw (own.0, ne.0) refl), (own.1, ne.1), ne.0)
  ]
]

counted_same : (part : ℕ → ℕ) (p : ℕ) (f g : ℕ → ℕ) (t : ℕ) (r : Record) (earlier : Log) → ((x : ℕ) → x ≢ t → f x ≡ g x) →
    ((r.kind == 5) ≡ true) ⊎ (r.transaction ≢ t) → need_at part p f r earlier ≡ need_at part p g r earlier
counted_same part p f g t r earlier same (inl five) = rw five refl
counted_same part p f g t r earlier same (inr ne) =
    ap (λ x. if not (r.kind == 5) && (not (has_of r.transaction earlier) && (part r.at == p)) then x else 0) (same r.transaction ne)

-- where t has no record its number doesn't count
pub sum_same : (part : ℕ → ℕ) (p : ℕ) (f g : ℕ → ℕ) (t : ℕ) (log : Log) → ((x : ℕ) → x ≢ t → f x ≡ g x) → has_of t log ≡ false →
    sum_over part p f log ≡ sum_over part p g log
sum_same part p f g t [] same none = refl
sum_same part p f g t (r ∷ log) same none =
    let both = or_false (is_of t r) (has_of t log) none in
    let first : need_at part p f r log ≡ need_at part p g r log = elim (of_test t r) [ inl h ↦ absurd (cc) | inr h ↦ counted_same part p f g t r log same h.1 ] in
    let others = sum_same part p f g t log same both.1 in
    omega (arith, first, others)

-- not the earliest of its transaction: it adds nothing
pub counted_later : (part : ℕ → ℕ) (p : ℕ) (f : ℕ → ℕ) (r : Record) (earlier : Log) → has_of r.transaction earlier ≡ true → need_at part p f r earlier ≡ 0
counted_later part p f r earlier later = elim (eqb_tells r.kind 5) [
  | inl five ↦ (rw five.0 refl)
  | inr ne ↦ (rw (ne.0, later) refl)
]

pub counted_first : (part : ℕ → ℕ) (p : ℕ) (f : ℕ → ℕ) (r : Record) (earlier : Log) → (r.kind == 5) ≡ false → has_of r.transaction earlier ≡ false → part r.at ≡ p →
    need_at part p f r earlier ≡ f r.transaction
counted_first part p f r earlier ne first inside = let on : (part r.at == p) ≡ true = grind (arith, nat_tests) in rw (ne, first, on) refl

-- where t's number falls by d, so does the sum of its part
pub sum_moved : (part : ℕ → ℕ) (p d : ℕ) (f g : ℕ → ℕ) (t : ℕ) (log : Log) → ((x : ℕ) → x ≢ t → f x ≡ g x) → f t + d ≡ g t → has_of t log ≡ true →
    ((r : Record) → IsAmong log r → IsOf t r → part r.at ≡ p) → sum_over part p f log + d ≡ sum_over part p g log
sum_moved part p d f g t [] same less some inside = cc
sum_moved part p d f g t (r ∷ log) same less some inside = elim (or_true (is_of t r) (has_of t log) some) [
  | inl later ↦ (
      let others = sum_moved part p d f g t log same less later (λ s m. inside s (inr m)) in
      let first : need_at part p f r log ≡ need_at part p g r log = elim (of_test t r) [
        | inl h ↦ (let k : has_of r.transaction log ≡ true = rw h.1.0 later in counted_later part p f r log k ∙ sym (counted_later part p g r log k))
        | inr h ↦ counted_same part p f g t r log same h.1
      ] in
      omega (arith, others, first))
  | inr earliest ↦ elim (of_test t r) [
    | inr h ↦ absurd (cc)
    | inl h ↦ (
        let none : has_of r.transaction log ≡ false = rw h.1.0 earliest.0 in
        let at = inside r (inl refl) h.1 in
        let cf = counted_first part p f r log h.2 none at ∙ ap f h.1.0 in
        let cg = counted_first part p g r log h.2 none at ∙ ap g h.1.0 in
        let others = sum_same part p f g t log same earliest.0 in
        omega (arith, cf, cg, others, less))
  ]
]

-- where it falls by one, so does the sum
pub sum_less : (part : ℕ → ℕ) (p : ℕ) (f g : ℕ → ℕ) (t : ℕ) (log : Log) → ((x : ℕ) → x ≢ t → f x ≡ g x) → f t + 1 ≡ g t → has_of t log ≡ true →
    ((r : Record) → IsAmong log r → IsOf t r → part r.at ≡ p) → sum_over part p f log + 1 ≡ sum_over part p g log
sum_less part p f g t log same less some inside = sum_moved part p 1 f g t log same less some inside

-- and the sum of another part stays
pub sum_elsewhere : (part : ℕ → ℕ) (p q : ℕ) (f g : ℕ → ℕ) (t : ℕ) (log : Log) → ((x : ℕ) → x ≢ t → f x ≡ g x) → p ≢ q →
    ((r : Record) → IsAmong log r → IsOf t r → part r.at ≡ p) → sum_over part q f log ≡ sum_over part q g log
sum_elsewhere part p q f g t [] same ne inside = refl
sum_elsewhere part p q f g t (r ∷ log) same ne inside =
    let others = sum_elsewhere part p q f g t log same ne (λ s m. inside s (inr m)) in
    let first : need_at part q f r log ≡ need_at part q g r log = elim (of_test t r) [
      | inl h ↦ (let at = inside r (inl refl) h.1 in let off : (part r.at == q) ≡ false = grind (arith, nat_tests) in counted_off f off ∙ sym (counted_off g off))
      | inr h ↦ counted_same part q f g t r log same h.1
    ] in
    omega (arith, others, first)
  where
    counted_off : (f : ℕ → ℕ) → (part r.at == q) ≡ false → need_at part q f r log ≡ 0
    counted_off f off = elim (eqb_tells r.kind 5) [
      | inl five ↦ (rw five.0 refl)
      | inr other ↦ rw (other.0, off) (elim (has_of r.transaction log) as (λ b. (if not false && (not b && false) then f r.transaction else 0) ≡ 0) [ true ↦ refl | false ↦ refl ])
    ]

-- ---- a record is appended

pub has_kind_true : (t k : ℕ) (log : Log) → Has (λ r. (r.kind ≡ k) × (r.transaction ≡ t)) log → has_kind_of t k log ≡ true
has_kind_true t k [] h = absurd h.1
has_kind_true t k (x ∷ log) h = by_place h.1 (λ m. has_kind_true t k log (h.0, m, h.2))
  where
    or_right : (b : Bool) → (b || true) ≡ true
    or_right true = refl
    or_right false = refl

    by_place : (h.0 ≡ x) ⊎ IsAmong log h.0 → (IsAmong log h.0 → has_kind_of t k log ≡ true) → has_kind_of t k (x ∷ log) ≡ true
    by_place (inl e) again =
        let owner : (x.transaction == t) ≡ true = (let o : x.transaction ≡ t = ap (λ (y : Record). y.transaction) (sym e) ∙ h.2.1 in grind (arith, nat_tests)) in
        let kind : (x.kind == k) ≡ true = (let o : x.kind ≡ k = ap (λ (y : Record). y.kind) (sym e) ∙ h.2.0 in grind (arith, nat_tests)) in
        rw (owner, kind) refl
    by_place (inr m) again = rw (again m) (or_right (is_kind_of t k x))

pub has_kind_false : (t k : ℕ) (log : Log) → HasNo (λ r. (r.kind ≡ k) × (r.transaction ≡ t)) log → has_kind_of t k log ≡ false
has_kind_false t k [] none = refl
has_kind_false t k (x ∷ log) none =
    let others = has_kind_false t k log (λ s m. none s (inr m)) in
    elim (eqb_tells x.transaction t) [
      | inr other ↦ (rw (other.0, others) refl)
      | inl own ↦ elim (eqb_tells x.kind k) [
        | inl same ↦ absurd (none x (inl refl) (same.1, own.1))
        | inr ne ↦ (rw (own.0, ne.0, others) refl)
      ]
    ]

pub has_of_true : (t : ℕ) (log : Log) → Has (IsOf t) log → has_of t log ≡ true
has_of_true t [] h = absurd h.1
has_of_true t (x ∷ log) h = by_place h.1 (λ m. has_of_true t log (h.0, m, h.2))
  where
    or_right : (b : Bool) → (b || true) ≡ true
    or_right true = refl
    or_right false = refl

    by_place : (h.0 ≡ x) ⊎ IsAmong log h.0 → (IsAmong log h.0 → has_of t log ≡ true) → has_of t (x ∷ log) ≡ true
    by_place (inl e) again = elim (of_test t x) [
      | inl k ↦ (rw k.0 refl)
      | inr k ↦ elim k.1 [
        | inl five ↦ (let o : x.kind ≢ 5 = (λ z. h.2.1 (ap (λ (y : Record). y.kind) e ∙ z)) in absurd (grind (arith, nat_tests, o, five)))
        | inr ne ↦ absurd (ne (ap (λ (y : Record). y.transaction) (sym e) ∙ h.2.0))
      ]
    ]
    by_place (inr m) again = rw (again m) (or_right (is_of t x))

pub need_fell : (part : ℕ → ℕ) (r : Record) (log : Log) → Has (IsOf r.transaction) log →
    ((x : Record) → IsAmong log x → IsOf r.transaction x → part x.at ≡ part r.at) →
    need_of (r ∷ log) r.transaction + 1 ≡ need_of log r.transaction → need_in part (part r.at) (r ∷ log) + 1 ≡ need_in part (part r.at) log
need_fell part r log some inside less =
    let has = has_of_true r.transaction log some in
    let first = counted_later part (part r.at) (need_of (r ∷ log)) r log has in
    let others = sum_less part (part r.at) (need_of (r ∷ log)) (need_of log) r.transaction log (λ x ne. need_other x r log (λ e. ne (sym e))) less has inside in
    omega (arith, first, others)

pub need_stays : (part : ℕ → ℕ) (p : ℕ) (r : Record) (log : Log) → Has (IsOf r.transaction) log →
    ((x : Record) → IsAmong log x → IsOf r.transaction x → part x.at ≡ part r.at) → p ≢ part r.at → need_in part p (r ∷ log) ≡ need_in part p log
need_stays part p r log some inside ne =
    let has = has_of_true r.transaction log some in
    let first = counted_later part p (need_of (r ∷ log)) r log has in
    let others = sum_elsewhere part (part r.at) p (need_of (r ∷ log)) (need_of log) r.transaction log (λ x other. need_other x r log (λ e. other (sym e))) (λ e. ne (sym e)) inside in
    omega (arith, first, others)

pub total_same : (part : ℕ → ℕ) (n : ℕ) (log later : Log) → ((p : ℕ) → p < n → need_in part p later ≡ need_in part p log) → total_need part n later ≡ total_need part n log
total_same part zero log later same = refl
total_same part (suc n) log later same =
    let below = total_same part n log later (λ p lt. same p (omega arith)) in
    let here = same n (omega arith) in
    omega (arith, below, here)

pub total_fell : (part : ℕ → ℕ) (n q : ℕ) (log later : Log) → q < n → need_in part q later + 1 ≡ need_in part q log →
    ((p : ℕ) → p ≢ q → need_in part p later ≡ need_in part p log) → total_need part n later + 1 ≡ total_need part n log
total_fell part zero q log later lt fell stays = absurd (omega arith)
total_fell part (suc n) q log later lt fell stays = elim (eqb_tells q n) [
  | inl same ↦ (
      let below = total_same part n log later (λ p less. stays p (λ e. absurd (omega (arith, e, less, same.1)))) in
      let here : need_in part n later + 1 ≡ need_in part n log = subst (λ x. need_in part x later + 1 ≡ need_in part x log) same.1 fell in
      omega (arith, below, here))
  | inr other ↦ (
      let ne = other.1 in
      let below = total_fell part n q log later (omega arith) fell stays in
      let here = stays n (λ e. other.1 (sym e)) in
      omega (arith, below, here))
]
