-- The records of a bucket's cells.
use Rattle.std.proofs.Common.{◌≡◌, ◌≢◌, inl, inr, ℕ, zero, suc, ◌+◌, ◌<◌, ◌≤◌, List, [], ◌∷◌, length, Some, refl, ap, sym, ◌∙◌, arith, subst}
use Rattle.std.specs.Prelude.{slice_get}
use Rattle.std.proofs.lemmas.Bool.{cases_lt}
use Rattle.persist_model.specs.Region.{Words}
use Rattle.persist_model.specs.Records.{Record, IsAmong}
use Rattle.persist_model.specs.ImageRecords.{cell_address, record_at}
use Rattle.persist_model.specs.Sound.{closed_cells}
use Rattle.region_layout.specs.declared.cell.Cell.{Cell}
use Rattle.region_layout.specs.Cell.{record_of, word_of_cell}
use Rattle.bucket_log.proofs.Rooms.{closed_none}
use Rattle.batch_log.specs.Buckets.{records_from}

pub record IsOfCell (bucket from : ℕ) (records : List Cell) (r : Record) : Type 0 where
  pub number : ℕ
  pub cell : Cell
  pub there : slice_get records number ≡ Some cell
  pub below : number < length records
  pub is : r ≡ record_of (cell_address bucket (from + number)) cell

pub record_there : (bucket from c : ℕ) (records : List Cell) (cell : Cell) → slice_get records c ≡ Some cell → IsAmong (records_from bucket from records) (record_of (cell_address bucket (from + c)) cell)
record_there bucket from c [] cell e = cc
record_there bucket from zero (x ∷ xs) cell e =
    let same : x ≡ cell = cc in
    let here : from + 0 ≡ from = omega arith in
    inl (ap (λ n. record_of (cell_address bucket n) cell) here ∙ ap (record_of (cell_address bucket from)) (sym same))
record_there bucket from (suc c) (x ∷ xs) cell e =
    let here : suc from + c ≡ from + suc c = omega arith in
    inr (subst (λ n. IsAmong (records_from bucket (suc from) xs) (record_of (cell_address bucket n) cell)) here (record_there bucket (suc from) c xs cell e))

pub of_cell : (bucket from : ℕ) (records : List Cell) (r : Record) → IsAmong (records_from bucket from records) r → IsOfCell bucket from records r
of_cell bucket from [] r m = absurd m
of_cell bucket from (x ∷ xs) r (inl e) = record {
  number = 0;
  cell = x;
  there = refl;
  below = omega arith;
  is = e ∙ (let here : from ≡ from + 0 = omega arith in ap (λ n. record_of (cell_address bucket n) x) here);
}
of_cell bucket from (x ∷ xs) r (inr m) =
    let h = of_cell bucket (suc from) xs r m in
    let lt = h.below in
    record {
      number = suc h.number;
      cell = h.cell;
      there = h.there;
      below = omega (arith, lt);
      is = h.is ∙ (let here : suc from + h.number ≡ from + suc h.number = omega arith in ap (λ n. record_of (cell_address bucket n) h.cell) here);
    }

pub length-records_from : (bucket from : ℕ) (records : List Cell) → length (records_from bucket from records) ≡ length records
length-records_from bucket from [] = refl
length-records_from bucket from (x ∷ xs) = let rest = length-records_from bucket (suc from) xs in omega (arith, rest)

-- the eight words of a cell make its record
pub words_make : (v : Words) (at : ℕ) (cell : Cell) → ((i : ℕ) → i < 8 → v (at + i) ≡ word_of_cell cell i) → record_at v at ≡ record_of at cell
words_make v at cell each =
    let e0 : v at ≡ cell.lsn = (let z : at ≡ at + 0 = omega arith in ap v z) ∙ each 0 (omega arith) in
    let e1 : v (at + 1) ≡ cell.transaction = each 1 (omega arith) in
    let e2 : v (at + 2) ≡ cell.kind = each 2 (omega arith) in
    let e3 : v (at + 3) ≡ cell.word = each 3 (omega arith) in
    let e4 : v (at + 4) ≡ cell.before = each 4 (omega arith) in
    let e5 : v (at + 5) ≡ cell.after = each 5 (omega arith) in
    let e6 : v (at + 6) ≡ cell.undo_next = each 6 (omega arith) in
    let e7 : v (at + 7) ≡ cell.outcome = each 7 (omega arith) in
    rw (e0, e1, e2, e3, e4, e5, e6, e7)

-- the cells behind the records are the closed ones
pub closed_behind : (v : Words) (bucket n m : ℕ) → m ≤ n → ((c : ℕ) → c < m → v (cell_address bucket c) ≢ 0) → ((c : ℕ) → m ≤ c → c < n → v (cell_address bucket c) ≡ 0) →
    closed_cells v bucket n + m ≡ n
closed_behind v bucket zero m le opened closed = omega (arith, le)
closed_behind v bucket (suc n) m le opened closed = elim (cases_lt n m) [
  | inl lt ↦ (let none = closed_none v bucket (suc n) (λ c few. opened c (omega (arith, few, lt))) in omega (arith, none, le, lt))
  | inr ge ↦ (let rest = closed_behind v bucket n m ge opened (λ c low high. closed c low (omega (arith, high))) in
      let shut : v (cell_address bucket n) ≡ 0 = closed n ge (omega arith) in
      let one = closed_one v bucket n shut in
      omega (arith, rest, one))
]
  where
    closed_one : (v : Words) (bucket n : ℕ) → v (cell_address bucket n) ≡ 0 → closed_cells v bucket (suc n) ≡ closed_cells v bucket n + 1
    closed_one v bucket n shut = rw shut refl
