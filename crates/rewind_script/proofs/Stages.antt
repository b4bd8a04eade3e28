-- Steps that were passed, and where lines may stand.
use Rattle.std.proofs.Common.{◌≡◌, ℕ, zero, suc, ◌^◌, ◌<◌, ◌≤◌, List, [], ◌∷◌, length, refl, sym, ◌∙◌, ap, arith, Bool, true, false, ◌&&◌, ◌||◌, not, ◌==◌, Result, Ok, Err, nat_lt, nat_le, ltb-true, leb-true, bit_or}
use Rattle.std.specs.List.{list_all}
use Rattle.std.proofs.lemmas.Nat.{le_or_l, le_or_r, or_lt, pow_pos}
use Rattle.std.proofs.Math.Pow.{pow-lt}
use Rattle.region_layout.specs.declared.layout.Kind.{Kind}
use Rattle.region_layout.specs.declared.layout.Kind.TheVariants.{Cells, Tree, Hash}
use Rattle.rewind_script.specs.declared.fault.Fault.{Fault}
use Rattle.rewind_script.specs.declared.read.reading.Part.{Part}
use Rattle.rewind_script.specs.declared.read.reading.Part.TheVariants as part
use Rattle.rewind_script.specs.declared.read.reading.Keyword.TheVariants as keyword
use Rattle.rewind_script.specs.declared.read.reading.Reading.{Reading}
use Rattle.rewind_script.specs.Steps.{◌>>=◌, guard, numeral, numerals}
use Rattle.rewind_script.specs.Order.{may_stand, is_transaction}
use Rattle.rewind_script.specs.Lanes.{with_bits, is_structure}
use Rattle.rewind_script.specs.Commands.{is_cells}
use Rattle.rewind_script.specs.Limits.{IsSet, is_early, begun_lanes, begun_transactions}

pub by_bind : {A B : Type 0} (r : Result A Fault) (f : A → Result B Fault) (y : B) → (r >>= f) ≡ Ok y → (x : A) × ((r ≡ Ok x) × (f x ≡ Ok y))
by_bind (Ok x) f y h = (x, (refl, h))
by_bind (Err e) f y h = cc

pub by_guard : {B : Type 0} (b : Bool) (kind : Fault) (f : Unit {0} → Result B Fault) (y : B) → (guard b kind >>= f) ≡ Ok y → (b ≡ true) × (f tt ≡ Ok y)
by_guard true kind f y h = (refl, h)
by_guard false kind f y h = cc

pub ok_same : {A : Type 0} (x y : A) → ◌≡◌ {A = Result A Fault} (Ok x) (Ok y) → x ≡ y
ok_same x y h = cc

pub both : (a b : Bool) → (a && b) ≡ true → (a ≡ true) × (b ≡ true)
both true b h = (refl, h)
both false b h = cc

pub positive : (n : ℕ) → not (n == 0) ≡ true → 1 ≤ n
positive zero h = cc
positive (suc n) h = omega arith

pub cells_key : (kind : Kind) (key : ℕ) → (not (is_cells kind) || nat_le key 11) ≡ true → kind ≡ Cells → key ≤ 11
cells_key Cells key h e = leb-true key 11 h
cells_key Tree key h e = cc
cells_key Hash key h e = cc

-- ---- sets

numerals-length : (args : List (List ℕ)) (list : List ℕ) → numerals args ≡ Ok list → length list ≡ length args
unfolding numerals
numerals-length [] list h = ap length (sym (ok_same [] list h))
numerals-length (word ∷ args) list h =
    let first = by_bind (numeral word) (λ n. numerals args >>= λ others. Ok (n ∷ others)) list h in
    let rest = by_bind (numerals args) (λ others. Ok (first.0 ∷ others)) list first.1.1 in
    let whole : first.0 ∷ rest.0 ≡ list = ok_same _ list rest.1.1 in
    ap length (sym whole) ∙ ap suc (numerals-length args rest.0 rest.1.0)

with_bits-least : (set : ℕ) (list : List ℕ) → set ≤ with_bits set list
unfolding with_bits
with_bits-least set [] = omega arith
with_bits-least set (s ∷ rest) = omega (arith, with_bits-least (bit_or set (2 ^ s)) rest, le_or_l set (2 ^ s))

with_bits-below : (reading : Reading) (set : ℕ) (list : List ℕ) → set < 2 ^ length reading.kinds → list_all (is_structure reading) list ≡ true → with_bits set list < 2 ^ length reading.kinds
unfolding with_bits
with_bits-below reading set [] below all = below
with_bits-below reading set (s ∷ rest) below all =
    let split = both (is_structure reading s) (list_all (is_structure reading) rest) all in
    let known = both (nat_lt s 8) (nat_lt s (length reading.kinds)) split.0 in
    let within : s < length reading.kinds = ltb-true s (length reading.kinds) known.1 in
    with_bits-below reading (bit_or set (2 ^ s)) rest (or_lt (length reading.kinds) set (2 ^ s) below (pow-lt within)) split.1

with_bits-some : (list : List ℕ) → 0 < length list → 1 ≤ with_bits 0 list
unfolding with_bits
with_bits-some [] h = absurd (omega arith)
with_bits-some (s ∷ rest) h = omega (arith, with_bits-least (bit_or 0 (2 ^ s)) rest, le_or_r 0 (2 ^ s), pow_pos s)

-- what a begin names
pub named_set : (reading : Reading) (args : List (List ℕ)) (list : List ℕ) → 0 < length args → numerals args ≡ Ok list → list_all (is_structure reading) list ≡ true → IsSet reading.kinds (with_bits 0 list)
named_set reading args list some read all = (
  with_bits-some list (omega (arith, numerals-length args list read)),
  with_bits-below reading 0 list (pow_pos (length reading.kinds)) all,
)

-- ---- where lines may stand

pub early_region : (p : Part) → may_stand p keyword.Region ≡ true → is_early p ≡ true
unfolding may_stand
early_region part.Lane h = cc
early_region part.Transaction h = cc
early_region _ h = refl

pub early_log : (p : Part) → may_stand p keyword.Log ≡ true → is_early p ≡ true
unfolding may_stand
early_log part.Lane h = cc
early_log part.Transaction h = cc
early_log _ h = refl

pub early_partitions : (p : Part) → may_stand p keyword.Partitions ≡ true → is_early p ≡ true
unfolding may_stand
early_partitions part.Lane h = cc
early_partitions part.Transaction h = cc
early_partitions _ h = refl

pub early_map : (p : Part) → may_stand p keyword.Map ≡ true → is_early p ≡ true
unfolding may_stand
early_map part.Lane h = cc
early_map part.Transaction h = cc
early_map _ h = refl

pub early_turns : (p : Part) → may_stand p keyword.Turns ≡ true → is_early p ≡ true
unfolding may_stand
early_turns part.Lane h = cc
early_turns part.Transaction h = cc
early_turns _ h = refl

pub lane_checkpoint : (p : Part) → may_stand p keyword.Checkpoint ≡ true → p ≡ part.Lane
unfolding may_stand
lane_checkpoint part.Lane h = refl
lane_checkpoint _ h = cc

pub lane_begin : (p : Part) → may_stand p keyword.Begin ≡ true → p ≡ part.Lane
unfolding may_stand
lane_begin part.Lane h = refl
lane_begin _ h = cc

pub inside_put : (p : Part) → may_stand p keyword.Put ≡ true → p ≡ part.Transaction
unfolding may_stand
inside_put part.Transaction h = refl
inside_put _ h = cc

pub inside_del : (p : Part) → may_stand p keyword.Del ≡ true → p ≡ part.Transaction
unfolding may_stand
inside_del part.Transaction h = refl
inside_del _ h = cc

pub inside_get : (p : Part) → may_stand p keyword.Get ≡ true → p ≡ part.Transaction
unfolding may_stand
inside_get part.Transaction h = refl
inside_get _ h = cc

pub inside_savepoint : (p : Part) → may_stand p keyword.Savepoint ≡ true → p ≡ part.Transaction
unfolding may_stand
inside_savepoint part.Transaction h = refl
inside_savepoint _ h = cc

pub inside_rollback : (p : Part) → may_stand p keyword.Rollback ≡ true → p ≡ part.Transaction
unfolding may_stand
inside_rollback part.Transaction h = refl
inside_rollback _ h = cc

pub inside_commit : (p : Part) → may_stand p keyword.Commit ≡ true → p ≡ part.Transaction
unfolding may_stand
inside_commit part.Transaction h = refl
inside_commit _ h = cc

pub inside_abort : (p : Part) → may_stand p keyword.Abort ≡ true → p ≡ part.Transaction
unfolding may_stand
inside_abort part.Transaction h = refl
inside_abort _ h = cc

pub apart_lane : (p : Part) → may_stand p keyword.Lane ≡ true → is_transaction p ≡ false
unfolding may_stand
apart_lane part.Transaction h = cc
apart_lane _ h = refl

pub early_counts : (p : Part) → is_early p ≡ true → (begun_lanes p ≡ 0) × (begun_transactions p ≡ 0) × (is_transaction p ≡ false)
early_counts part.Lane h = cc
early_counts part.Transaction h = cc
early_counts _ h = (refl, refl, refl)
