-- What is reserved for the lanes covers what recovery needs of them, and what an append asks.
use Rattle.std.proofs.Common.{◌≡◌, inl, inr, ℕ, zero, suc, ◌+◌, ◌<◌, ◌≤◌, ◌==◌, ◌&&◌, not, Bool, true, false, if◌then◌else◌, List, [], ◌∷◌, length, refl, sym, ap, subst, arith}
use Rattle.std.proofs.lemmas.Bool.Decides.{eqb_tells, nat_tests}
use Rattle.persist_model.specs.Region.{Words, Region}
use Rattle.persist_model.specs.Records.{Record, Log, IsAmong, Has, IsOf}
use Rattle.persist_model.specs.Need.{has_of, need_in}
use Rattle.persist_model.specs.Shape.{Shape, part_of}
use Rattle.persist_model.specs.State.{State}
use Rattle.log_laws.specs.MoveRoom.{HasCells, HasItsCells}
use Rattle.log_laws.proofs.Needs.{has_of_true}
use Rattle.log_laws.proofs.MoveRooms.{some_of}
use Rattle.log_keeper.specs.Ledger.{newest_log}
use Rattle.log_keeper.specs.Needs.{need_at}
use Rattle.log_keeper.proofs.Newest.{newest_logs_keep}
use Rattle.history_laws.specs.Histories.{fold}
use Rattle.txn_laws.specs.Txns.{Txn, txn_at}
use Rattle.txn_laws.specs.Needs.{undo_cells, is_open, need_by, sum_lanes}
use Rattle.txn_laws.specs.Worlds.{World, IsWorldAt}
use Rattle.txn_laws.specs.Rooms.{Share, reserved_by, reserved_in, sum_below, SharesAreSummed, NewestAreBound, IsReserved, HasReserved, CellsAreReserved}
use Rattle.txn_laws.proofs.Needs.{needs_are_lanes}
use Rattle.txn_laws.proofs.Rooms.{rests_are_roomy}

-- ---- the newest log

and_left : (a b : Bool) → (a && b) ≡ true → (a ≡ true) × (b ≡ true)
and_left true b h = (refl, h)
and_left false b h = cc

pub newest_are_bound : NewestAreBound
newest_are_bound shape base s chains start w region shares p world bound l here on =
    let x = txn_at w.lanes l in
    let both = and_left (not x.over) (has_of x.number s.log) on in
    let some = some_of x.number s.log both.1 in
    let there : has_of x.number (newest_log w.keeping.ledger) ≡ true = has_of_true x.number (newest_log w.keeping.ledger)
    (some.0, newest_logs_keep.settled w.keeping.ledger some.0 (subst (λ log. IsAmong log some.0) world.log.logged.records some.1), some.2) in
    bound l here (rw (both.0, there) refl)

-- ---- the sums

-- a share covers what its transaction needs
covers : (p : ℕ) (log : Log) (c : Share) (x : Txn) → (x.part ≡ p → is_open log x ≡ true → c.bound ≡ true) → need_by p log x ≤ reserved_by p c x
covers p log c x bound = elim (eqb_tells x.part p) [
  | inl e ↦ (rw e.0 (by (is_open log x) c.bound (bound e.1)))
  | inr ne ↦ (rw ne.0 (omega arith))
]
  where
    by : (o b : Bool) → (o ≡ true → b ≡ true) → (if o then undo_cells x else 0) ≤ c.promised + (if b then undo_cells x else 0)
    by false b h = omega arith
    by true true h = omega arith
    by true false h = let e = h refl in cc

-- with d more for one of them
pub sum_covered : (p : ℕ) (log : Log) (shares : ℕ → Share) (lanes : List Txn) (l d : ℕ) → l < length lanes → ((k : ℕ) → need_by p log (txn_at lanes k) ≤ reserved_by p (shares k) (txn_at lanes k)) →
    need_by p log (txn_at lanes l) + d ≤ reserved_by p (shares l) (txn_at lanes l) → sum_lanes (need_by p log) lanes + d ≤ reserved_in shares lanes p
sum_covered p log shares [] l d lt each more = absurd (omega (arith, lt))
sum_covered p log shares (x ∷ lanes) zero d lt each more =
    let here : need_by p log x + d ≤ reserved_by p (shares 0) x = more in
    let others = sum_all p log (λ k. shares (suc k)) lanes (λ k. each (suc k)) in
    omega (arith, here, others)
  where
    sum_all : (p : ℕ) (log : Log) (shares : ℕ → Share) (lanes : List Txn) → ((k : ℕ) → need_by p log (txn_at lanes k) ≤ reserved_by p (shares k) (txn_at lanes k)) →
        sum_lanes (need_by p log) lanes ≤ reserved_in shares lanes p
    sum_all p log shares [] each = omega arith
    sum_all p log shares (y ∷ lanes) each =
        let here : need_by p log y ≤ reserved_by p (shares 0) y = each 0 in
        let others = sum_all p log (λ k. shares (suc k)) lanes (λ k. each (suc k)) in
        omega (arith, here, others)
sum_covered p log shares (x ∷ lanes) (suc l) d lt each more =
    let here : need_by p log x ≤ reserved_by p (shares 0) x = each 0 in
    let others = sum_covered p log (λ k. shares (suc k)) lanes l d (omega (arith, lt)) (λ k. each (suc k)) more in
    omega (arith, here, others)

-- ---- by numbers

sum_shifted : (f : ℕ → ℕ) (n : ℕ) → sum_below f (suc n) ≡ f 0 + sum_below (λ l. f (suc l)) n
sum_shifted f zero = omega arith
sum_shifted f (suc n) = let others = sum_shifted f n in omega (arith, others)

pub shares_are_summed : SharesAreSummed
shares_are_summed f shares [] p same = refl
shares_are_summed f shares (x ∷ lanes) p same =
    let here : f 0 ≡ reserved_by p (shares 0) x = same 0 (omega arith) in
    let others = shares_are_summed (λ l. f (suc l)) (λ l. shares (suc l)) lanes p (λ l lt. same (suc l) (omega (arith, lt))) in
    let first = sum_shifted f (length lanes) in
    omega (arith, here, others, first)

-- ---- one lane's record

undo_some : (x : Txn) → 1 ≤ undo_cells x
undo_some x = omega arith

undo_two : (x : Txn) → x.rolled ≡ false → 2 ≤ undo_cells x
undo_two x off = rw off (omega arith)

-- the cells that a lane has beyond what its transaction needs: those promised, and where it has no record those that undo it
abbrev pub spare_cells : Share → Txn → Bool → ℕ
spare_cells c x has = c.promised + (if has then 0 else undo_cells x)

spares : (log : Log) (c : Share) (x : Txn) → x.over ≡ false → c.bound ≡ true → need_by x.part log x + spare_cells c x (has_of x.number log) ≤ reserved_by x.part c x
spares log c x runs bound = by (x.part == x.part) (self_same x.part) (has_of x.number log)
  where
    self_same : (n : ℕ) → (n == n) ≡ true
    self_same n = grind (arith, nat_tests)

    by : (a : Bool) → a ≡ true → (has : Bool) → (if a && (not x.over && has) then undo_cells x else 0) + spare_cells c x has ≤ (if a then c.promised + (if c.bound then undo_cells x else 0) else 0)
    by false on has = cc
    by true on true = rw (runs, bound) (omega arith)
    by true on false = rw (runs, bound) (omega arith)

module _ (shape : Shape) (base : Words) (s : State) (chains : ℕ → List ℕ) (start : Words) (w : World) (region : Region) (reserved : ℕ → ℕ) (shares : ℕ → Share) (l : ℕ) (r : Record)
    (are : IsReserved shape s w region reserved shares l r) (world : IsWorldAt shape base s chains start w region) where
  abbrev x : Txn
  x = txn_at w.lanes l

  abbrev c : Share
  c = shares l

  -- so many cells more than recovery needs are there
  room_there : need_at shape (txn_at w.lanes l).part s.log + spare_cells (shares l) (txn_at w.lanes l) (has_of (txn_at w.lanes l).number s.log) ≤ s.room (txn_at w.lanes l).part
  room_there =
      let q = (txn_at w.lanes l).part in
      let needs = needs_are_lanes shape s.log (fold start w.history) w.lanes q world.transactions in
      let sums = sum_covered q s.log shares w.lanes l (spare_cells (shares l) (txn_at w.lanes l) (has_of (txn_at w.lanes l).number s.log)) are.lane
      (λ k. covers q s.log (shares k) (txn_at w.lanes k) (are.others k)) (spares s.log (shares l) (txn_at w.lanes l) are.runs are.kept) in
      let low = rests_are_roomy.settled shape base s chains start w region reserved q are.inside are.free world are.roomy in
      let most = are.covers in
      omega (arith, needs, sums, low, most)

  cells : (n : ℕ) → n ≤ spare_cells (shares l) (txn_at w.lanes l) (has_of (txn_at w.lanes l).number s.log) → HasCells shape s r n
  cells n le = record {
    here = subst (λ q. need_in (part_of shape) q s.log + n ≤ s.room q) (sym are.here) (let low = room_there in omega (arith, le, low));
    checkpoint_here = λ two. absurd (world.force two);
    checkpoint_elsewhere = λ two. absurd (world.force two);
  }

  has_same : has_of r.transaction s.log ≡ has_of (txn_at w.lanes l).number s.log
  has_same = ap (λ t. has_of t s.log) are.of

  either : (some none : ℕ) → (has : Bool) → has_of (txn_at w.lanes l).number s.log ≡ has → some ≤ (shares l).promised → none ≤ (shares l).promised + undo_cells (txn_at w.lanes l) →
      HasCells shape s r (if has_of r.transaction s.log then some else none)
  either some none true on low high = rw (has_same, on) (cells some (rw on (omega (arith, low))))
  either some none false off low high = rw (has_same, off) (cells none (rw off (omega (arith, high))))

  kept_or : (n : ℕ) → (has : Bool) → has_of (txn_at w.lanes l).number s.log ≡ has → n ≤ undo_cells (txn_at w.lanes l) → HasItsCells shape s r n
  kept_or n true on le = inl (subst (λ t. Has (IsOf t) s.log) (sym are.of) (some_of (txn_at w.lanes l).number s.log on))
  kept_or n false off le = inr (cells n (rw off (omega (arith, le))))

  has_reserved : HasReserved shape s (txn_at w.lanes l) (shares l) r
  has_reserved = record {
    updates = λ off low. (let two = undo_two (txn_at w.lanes l) off in either 2 4 (has_of (txn_at w.lanes l).number s.log) refl low (omega (arith, two, low)));
    deletes = λ off low. (let two = undo_two (txn_at w.lanes l) off in either 1 3 (has_of (txn_at w.lanes l).number s.log) refl low (omega (arith, two, low)));
    rolls_back = λ off. kept_or 2 (has_of (txn_at w.lanes l).number s.log) refl (undo_two (txn_at w.lanes l) off);
    ends = kept_or 1 (has_of (txn_at w.lanes l).number s.log) refl (undo_some (txn_at w.lanes l));
  }

pub cells_are_reserved : CellsAreReserved
cells_are_reserved shape base s chains start w region reserved shares l r are world = has_reserved shape base s chains start w region reserved shares l r are world
