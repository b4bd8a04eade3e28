-- The room that falls with a bucket.
use Rattle.std.proofs.Common.{◌≡◌, ◌≢◌, ℕ, ◌+◌, ◌-◌, ◌*◌, ◌≤◌, ◌==◌, ◌^◌, Bool, true, false, cond, List, ap, arith, sym, refl}
use Rattle.std.proofs.lemmas.Bool.Decides.{nat_tests}
use Rattle.persist_model.specs.Region.{Words}
use Rattle.persist_model.specs.Shape.{Shape, part_of}
use Rattle.persist_model.specs.Chain.{last_or}
use Rattle.persist_model.specs.Need.{need_in, has_of}
use Rattle.persist_model.specs.State.{total_need}
use Rattle.persist_model.specs.Sound.{closed_cells}
use Rattle.bucket_log.proofs.Rooms.{closed_below}
use Rattle.batch_log.specs.Buckets.{free_cells}
use Rattle.batch_log.specs.States.{falls, GroupsLeaveRoom}

pub falls_here : (p cells : ℕ) (room : ℕ → ℕ) → falls p cells room p ≡ room p - cells
falls_here p cells room = let on : (p == p) ≡ true = grind (arith, nat_tests) in ap (λ t. cond t (room p - cells) (room p)) on

pub falls_elsewhere : (p cells : ℕ) (room : ℕ → ℕ) (q : ℕ) → q ≢ p → falls p cells room q ≡ room q
falls_elsewhere p cells room q ne = let off : (q == p) ≡ false = grind (arith, nat_tests, ne) in ap (λ t. cond t (room q - cells) (room q)) off

-- it falls twice
pub falls_twice : (p m n : ℕ) (room : ℕ → ℕ) → falls p n (falls p m room) ≡ falls p (m + n) room
falls_twice p m n room = λ i q. at q i
  where
    at : (q : ℕ) → falls p n (falls p m room) q ≡ falls p (m + n) room q
    at q = by (q == p)
      where
        by : (t : Bool) → cond t (cond t (room q - m) (room q) - n) (cond t (room q - m) (room q)) ≡ cond t (room q - (m + n)) (room q)
        by true = omega arith
        by false = refl

pub free_few : (shape : Shape) (w : Words) (chain : List ℕ) → free_cells shape w chain ≤ shape.cells
free_few shape w chain = by (last_or 0 chain == 0)
  where
    by : (t : Bool) → cond t 0 (closed_cells w (last_or 0 chain) shape.cells) ≤ shape.cells
    by true = omega arith
    by false = closed_below w (last_or 0 chain) shape.cells

pub groups_leave_room : GroupsLeaveRoom
groups_leave_room shape t p n m free top s room inside cells few most fall numbers =
    let enough = cells.here in
    let here = fall.here in
    record {
      inside = inside;
      here = first (has_of t s.log) (need_in (part_of shape) p s.log) n m free shape.cells (s.room p) (room p) enough here few most;
      checkpoint_here = λ two zero.
          (let more = cells.checkpoint_here two zero in
          let k = first (has_of t s.log) (need_in (part_of shape) p s.log + 1) n m free shape.cells (s.room p) (room p) (omega (arith, more)) here few most in omega (arith, k));
      checkpoint_elsewhere = λ two other. (let more = cells.checkpoint_elsewhere two other in let same = fall.elsewhere 0 (λ z. other (sym z)) in omega (arith, more, same));
      elsewhere = λ q ne. (let same = fall.elsewhere q ne in omega (arith, same));
      numbers = last (has_of t s.log) numbers;
    }
  where
    first : (b : Bool) (need n m free cells before later : ℕ) → need + 2 * n + cells + cond b 0 2 ≤ before → later + (free + m) ≡ before → m ≤ n → free ≤ cells → need + cond b m (m + 2) ≤ later
    first true need n m free cells before later enough here few most = omega (arith, enough, here, few, most)
    first false need n m free cells before later enough here few most = omega (arith, enough, here, few, most)

    last : (b : Bool) → top + total_need (part_of shape) shape.partitions s.log + cond b n (n + 2) + 1 ≤ 2 ^ 63 → top + total_need (part_of shape) shape.partitions s.log + cond b m (m + 2) + 1 ≤ 2 ^ 63
    last true h = omega (arith, h, few)
    last false h = omega (arith, h, few)
