-- The need of a log as a sum over lanes.
use Rattle.std.proofs.Common.{◌≡◌, ◌≢◌, inl, inr, ℕ, zero, suc, ◌+◌, ◌<◌, ◌≤◌, ◌==◌, ◌&&◌, not, Bool, true, false, if◌then◌else◌, List, [], ◌∷◌, length, refl, sym, ap, ◌∙◌, arith}
use Rattle.std.proofs.lemmas.Bool.Decides.{eqb_tells, nat_tests}
use Rattle.persist_model.specs.Region.{Words}
use Rattle.persist_model.specs.Records.{Record, Log, IsAmong, IsOf}
use Rattle.persist_model.specs.Kinds.{END, ROLLBACK, CHECKPOINT}
use Rattle.persist_model.specs.Need.{to_undo, has_kind_of, need_of, is_of, has_of, need_at as need_first, sum_over}
use Rattle.persist_model.specs.Shape.{Shape, part_of}
use Rattle.log_laws.proofs.Needs.{of_test, counted_later, counted_first, has_kind_true, has_kind_false}
use Rattle.log_laws.proofs.MoveRooms.{some_of, tells}
use Rattle.txn_laws.specs.Txns.{Txn, txn_at}
use Rattle.txn_laws.specs.AreTransactions.{IsTransaction, AreTransactions}
use Rattle.txn_laws.specs.Needs.{undo_cells, need_by, sum_lanes, NeedsAreLanes}

-- ---- sums over lanes

pub sum_alike : (f g : Txn → ℕ) (lanes : List Txn) → ((l : ℕ) → f (txn_at lanes l) ≡ g (txn_at lanes l)) → sum_lanes f lanes ≡ sum_lanes g lanes
sum_alike f g [] same = refl
sum_alike f g (x ∷ lanes) same = let here : f x ≡ g x = same 0 in let others = sum_alike f g lanes (λ l. same (suc l)) in omega (arith, here, others)

sum_none : (f : Txn → ℕ) (lanes : List Txn) → ((l : ℕ) → f (txn_at lanes l) ≡ 0) → sum_lanes f lanes ≡ 0
sum_none f [] none = refl
sum_none f (x ∷ lanes) none = let here : f x ≡ 0 = none 0 in let others = sum_none f lanes (λ l. none (suc l)) in omega (arith, here, others)

-- one lane's share rises by d
pub sum_one : (f g : Txn → ℕ) (lanes : List Txn) (l d : ℕ) → l < length lanes → f (txn_at lanes l) ≡ d + g (txn_at lanes l) →
    ((k : ℕ) → k ≢ l → f (txn_at lanes k) ≡ g (txn_at lanes k)) → sum_lanes f lanes ≡ d + sum_lanes g lanes
sum_one f g [] l d lt here there = absurd (omega (arith, lt))
sum_one f g (x ∷ lanes) zero d lt here there =
    let rose : f x ≡ d + g x = here in
    let others = sum_alike f g lanes (λ k. there (suc k) (λ e. omega (arith, e))) in
    omega (arith, rose, others)
sum_one f g (x ∷ lanes) (suc l) d lt here there =
    let same : f x ≡ g x = there 0 (λ e. omega (arith, e)) in
    let others = sum_one f g lanes l d (omega (arith, lt)) here (λ k ne. there (suc k) (λ e. ne (omega (arith, e)))) in
    omega (arith, same, others)

pub lane_inside : (lanes : List Txn) (l : ℕ) → 1 ≤ (txn_at lanes l).number → l < length lanes
lane_inside [] l one = absurd (let z : 1 ≤ 0 = one in omega (arith, z))
lane_inside (x ∷ lanes) zero one = omega arith
lane_inside (x ∷ lanes) (suc l) one = let lt = lane_inside lanes l one in omega (arith, lt)

-- ---- whose the records are

-- each record is of one lane's transaction, in its part
pub record IsSpread (part : ℕ → ℕ) (lanes : List Txn) (log : Log) : Type 0 where
  pub in_part : (l : ℕ) (r : Record) → IsAmong log r → IsOf (txn_at lanes l).number r → part r.at ≡ (txn_at lanes l).part
  pub known : (r : Record) → IsAmong log r → (l : ℕ) × (1 ≤ (txn_at lanes l).number) × IsOf (txn_at lanes l).number r
  pub apart : (l k : ℕ) → 1 ≤ (txn_at lanes l).number → (txn_at lanes l).number ≡ (txn_at lanes k).number → l ≡ k

pub spread : (shape : Shape) (log : Log) (h : Words) (lanes : List Txn) → AreTransactions shape log h lanes → IsSpread (part_of shape) lanes log
spread shape log h lanes are = record {
  in_part = λ l. (are.each l).in_part;
  known = are.known;
  apart = are.apart;
}

of_is : (t : ℕ) (r : Record) → IsOf t r → is_of t r ≡ true
of_is t r of = elim (of_test t r) [
  | inl h ↦ h.0
  | inr h ↦ elim h.1 [
    | inl five ↦ (let ne : r.kind ≢ CHECKPOINT = of.1 in absurd (grind (arith, nat_tests, ne, five)))
    | inr ne ↦ absurd (ne of.0)
  ]
]

first_away : (part : ℕ → ℕ) (p : ℕ) (f : ℕ → ℕ) (r : Record) (log : Log) → (part r.at == p) ≡ false → need_first part p f r log ≡ 0
first_away part p f r log off = rw off (by (not (r.kind == CHECKPOINT)) (not (has_of r.transaction log)))
  where
    by : (a b : Bool) → (if a && (b && false) then f r.transaction else 0) ≡ 0
    by true true = refl
    by true false = refl
    by false b = refl

module _ (part : ℕ → ℕ) (p : ℕ) (f : ℕ → ℕ) where
  -- what a transaction with a record in p counts
  abbrev pub counted : Log → Txn → ℕ
  counted log x = if (x.part == p) && has_of x.number log then f x.number else 0

  none_counts : (log : Log) (x : Txn) → has_of x.number log ≡ false → counted log x ≡ 0
  none_counts log x off = rw off (by (x.part == p))
    where
      by : (b : Bool) → (if b && false then f x.number else 0) ≡ 0
      by true = refl
      by false = refl

  counts_here : (r : Record) (log : Log) (x : Txn) → IsOf x.number r → part r.at ≡ x.part → counted (r ∷ log) x ≡ need_first part p f r log + counted log x
  counts_here r log x of here = elim (tells x.number log) [
    | inl on ↦ (
        let none : need_first part p f r log ≡ 0 = counted_later part p f r log (ap (λ t. has_of t log) of.0 ∙ on) in
        let both : counted (r ∷ log) x ≡ counted log x = rw (of_is x.number r of, on) refl in
        omega (arith, none, both))
    | inr off ↦ (
        let none = none_counts log x off in
        let some : has_of x.number (r ∷ log) ≡ true = rw (of_is x.number r of) refl in
        elim (eqb_tells x.part p) [
          | inl e ↦ (
              let plain : (r.kind == CHECKPOINT) ≡ false = elim (eqb_tells r.kind CHECKPOINT) [ inl five ↦ absurd (of.1 five.1) | inr ne ↦ ne.0 ] in
              let first = counted_first part p f r log plain (ap (λ t. has_of t log) of.0 ∙ off) (here ∙ e.1) ∙ ap f of.0 in
              let now : counted (r ∷ log) x ≡ f x.number = rw (e.0, some) refl in
              omega (arith, none, first, now))
          | inr ne ↦ (
              let away : (part r.at == p) ≡ false = ap (λ q. q == p) here ∙ ne.0 in
              let first = first_away part p f r log away in
              let now : counted (r ∷ log) x ≡ 0 = rw ne.0 refl in
              omega (arith, none, first, now))
        ])
  ]

  pub spread_sum : (lanes : List Txn) (log : Log) → IsSpread part lanes log → sum_over part p f log ≡ sum_lanes (counted log) lanes
  spread_sum lanes [] are = sym (sum_none (counted []) lanes (λ l. none_counts [] (txn_at lanes l) refl))
  spread_sum lanes (r ∷ log) are =
      let others = spread_sum lanes log (record { in_part = λ l y m. are.in_part l y (inr m); known = λ y m. are.known y (inr m); apart = are.apart }) in
      let k = are.known r (inl refl) in
      let rose = sum_one (counted (r ∷ log)) (counted log) lanes k.0 (need_first part p f r log) (lane_inside lanes k.0 k.1)
      (counts_here r log (txn_at lanes k.0) k.2 (are.in_part k.0 r (inl refl) k.2)) (λ j ne. counts_else j (λ of. ne (sym (are.apart k.0 j k.1 (sym k.2.0 ∙ of.0))))) in
      omega (arith, others, rose)
    where
      counts_else : (j : ℕ) → (IsOf (txn_at lanes j).number r → ⊥) → counted (r ∷ log) (txn_at lanes j) ≡ counted log (txn_at lanes j)
      counts_else j off = elim (of_test (txn_at lanes j).number r) [ inl h ↦ absurd (off h.1) | inr h ↦ (rw h.0 refl) ]

-- ---- what each counts

one_counts : (a b o : Bool) (n m : ℕ) → (b ≡ true → o ≡ true → n ≡ 0) → (b ≡ true → o ≡ false → n ≡ m) → (if a && b then n else 0) ≡ (if a && (not o && b) then m else 0)
one_counts false b o n m over runs = refl
one_counts true false true n m over runs = refl
one_counts true false false n m over runs = refl
one_counts true true true n m over runs = over refl refl
one_counts true true false n m over runs = runs refl refl

ended_needs : (shape : Shape) (log : Log) (h : Words) (x : Txn) → IsTransaction shape log h x → has_of x.number log ≡ true → x.over ≡ true → need_of log x.number ≡ 0
ended_needs shape log h x t some over =
    let four : has_kind_of x.number END log ≡ true = has_kind_true x.number END log ((t.ended over).has_end (some_of x.number log some)) in
    rw four refl

open_needs : (shape : Shape) (log : Log) (h : Words) (x : Txn) → IsTransaction shape log h x → x.over ≡ false → need_of log x.number ≡ undo_cells x
open_needs shape log h x t runs = by x.rolled refl
  where
    four : has_kind_of x.number END log ≡ false
    four = has_kind_false x.number END log (t.going runs).running

    stack : length (to_undo x.number log) ≡ length x.updates
    stack = ap length (t.going runs).to_undo_is

    by : (b : Bool) → x.rolled ≡ b → need_of log x.number ≡ undo_cells x
    by true on =
        let three : has_kind_of x.number ROLLBACK log ≡ true = has_kind_true x.number ROLLBACK log
        (let b = (t.going runs).rolled_has on in (b.0, b.1, (b.2.1, b.2.0.0))) in
        rw (four, three, on) (omega (arith, stack))
    by false off =
        let three : has_kind_of x.number ROLLBACK log ≡ false = has_kind_false x.number ROLLBACK log
        (λ r m k. (t.going runs).rolled_is off r m ((k.1, (λ five. let kind = k.0 in omega (arith, five, kind))), k.0)) in
        rw (four, three, off) (omega (arith, stack))

pub needs_are_lanes : NeedsAreLanes
needs_are_lanes shape log h lanes p are =
    spread_sum (part_of shape) p (need_of log) lanes log (spread shape log h lanes are)
    ∙ sum_alike (counted (part_of shape) p (need_of log) log) (need_by p log) lanes (λ l. (
    let x = txn_at lanes l in
    one_counts (x.part == p) (has_of x.number log) x.over (need_of log x.number) (undo_cells x)
    (ended_needs shape log h x (are.each l)) (λ some. open_needs shape log h x (are.each l))))
