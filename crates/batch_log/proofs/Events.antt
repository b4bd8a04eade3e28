-- The events of a bucket and of a group by their numbers.
use Rattle.std.proofs.Common.{◌≡◌, inl, inr, ℕ, zero, suc, ◌+◌, ◌-◌, ◌*◌, ◌<◌, ◌≤◌, List, [], ◌∷◌, ◌++◌, length, Some, None, refl, ap, sym, ◌∙◌, arith, length-append}
use Rattle.std.specs.Prelude.{slice_get}
use Rattle.std.proofs.lemmas.Bool.{cases_lt}
use Rattle.persist_model.specs.declared.event.Event.{Event}
use Rattle.persist_model.specs.declared.event.Event.TheVariants.{PStore}
use Rattle.persist_model.specs.ImageRecords.{cell_address}
use Rattle.region_layout.specs.declared.cell.Cell.{Cell}
use Rattle.region_layout.specs.Cell.{word_of_cell}
use Rattle.atomic_list.specs.Plans.{insertion}
use Rattle.batch_log.specs.Plans.{cell_words, cell_part, filling, bucket_plan, bucket_events}

pub get-left : (xs ys : List Event) (i : ℕ) → i < length xs → slice_get (xs ++ ys) i ≡ slice_get xs i
get-left [] ys i h = absurd (omega arith)
get-left (x ∷ xs) ys zero h = refl
get-left (x ∷ xs) ys (suc i) h = get-left xs ys i (omega arith)

pub get-right : (xs ys : List Event) (i : ℕ) → length xs ≤ i → slice_get (xs ++ ys) i ≡ slice_get ys (i - length xs)
get-right [] ys i h = let e : i - 0 ≡ i = omega arith in rw e
get-right (x ∷ xs) ys zero h = absurd (omega arith)
get-right (x ∷ xs) ys (suc i) h = let e : suc i - suc (length xs) ≡ i - length xs = omega arith in rw e (get-right xs ys i (omega arith))

-- a cell among the records, and one behind them
pub cell_there : (records : List Cell) (c : ℕ) → c < length records → (cell : Cell) × (slice_get records c ≡ Some cell)
cell_there [] c lt = absurd (omega (arith, lt))
cell_there (x ∷ xs) zero lt = (x, refl)
cell_there (x ∷ xs) (suc c) lt = cell_there xs c (omega (arith, lt))

pub cell_none : (records : List Cell) (c : ℕ) → length records ≤ c → slice_get records c ≡ None
cell_none [] c le = refl
cell_none (x ∷ xs) zero le = absurd (omega (arith, le))
cell_none (x ∷ xs) (suc c) le = cell_none xs c (omega (arith, le))

part_there : (bucket n : ℕ) (records : List Cell) → n < length records → (cell : Cell) × (slice_get records n ≡ Some cell) × (cell_part (cell_address bucket n) (slice_get records n) ≡ cell_words (cell_address bucket n) cell)
part_there bucket n records lt = let h = cell_there records n lt in (h.0, h.1, ap (cell_part (cell_address bucket n)) h.1)

part_none : (bucket n : ℕ) (records : List Cell) → length records ≤ n → cell_part (cell_address bucket n) (slice_get records n) ≡ PStore (cell_address bucket n) 0 ∷ []
part_none bucket n records le = ap (cell_part (cell_address bucket n)) (cell_none records n le)

-- ---- how many events filling has

pub length-filled : (bucket n : ℕ) (records : List Cell) → n ≤ length records → length (filling bucket records n) ≡ 8 * n
length-filled bucket zero records le = refl
length-filled bucket (suc n) records le =
    let rest = length-filled bucket n records (omega (arith, le)) in
    let h = part_there bucket n records (omega (arith, le)) in
    let size : length (cell_part (cell_address bucket n) (slice_get records n)) ≡ 8 = ap length h.2 in
    let both = length-append (filling bucket records n) (cell_part (cell_address bucket n) (slice_get records n)) in
    omega (arith, rest, size, both)

pub length-filling : (bucket n : ℕ) (records : List Cell) → length records ≤ n → length (filling bucket records n) ≡ n + 7 * length records
length-filling bucket zero records le = let none : length records ≡ 0 = omega (arith, le) in omega (arith, none)
length-filling bucket (suc n) records le = elim (cases_lt n (length records)) [
  | inl lt ↦ (let full = length-filled bucket (suc n) records (omega (arith, lt)) in let same : suc n ≡ length records = omega (arith, lt, le) in omega (arith, full, same))
  | inr ge ↦ (let rest = length-filling bucket n records ge in
      let size : length (cell_part (cell_address bucket n) (slice_get records n)) ≡ 1 = ap length (part_none bucket n records ge) in
      let both = length-append (filling bucket records n) (cell_part (cell_address bucket n) (slice_get records n)) in
      omega (arith, rest, size, both))
]

pub length-bucket_plan : (cells bucket tail : ℕ) (records : List Cell) → length records ≤ cells → length (bucket_plan cells bucket tail records) ≡ bucket_events cells (length records)
length-bucket_plan cells bucket tail records few =
    let fill = length-filling bucket cells records few in
    let both = length-append (filling bucket records cells) (insertion (record { node = bucket; tail = tail })) in
    omega (arith, fill, both)

-- ---- event by event

word_at : (at a : ℕ) (cell : Cell) (w : ℕ) → w < 8 → a ≡ at + w → slice_get (cell_words at cell) w ≡ Some (PStore a (word_of_cell cell w))
word_at at a cell zero lt e = let same : at ≡ a = omega (arith, e) in ap (λ x. Some (PStore x cell.lsn)) same
word_at at a cell (suc zero) lt e = ap (λ x. Some (PStore x cell.transaction)) (sym e)
word_at at a cell (suc (suc zero)) lt e = ap (λ x. Some (PStore x cell.kind)) (sym e)
word_at at a cell (suc (suc (suc zero))) lt e = ap (λ x. Some (PStore x cell.word)) (sym e)
word_at at a cell (suc (suc (suc (suc zero)))) lt e = ap (λ x. Some (PStore x cell.before)) (sym e)
word_at at a cell (suc (suc (suc (suc (suc zero))))) lt e = ap (λ x. Some (PStore x cell.after)) (sym e)
word_at at a cell (suc (suc (suc (suc (suc (suc zero)))))) lt e = ap (λ x. Some (PStore x cell.undo_next)) (sym e)
word_at at a cell (suc (suc (suc (suc (suc (suc (suc zero))))))) lt e = ap (λ x. Some (PStore x cell.outcome)) (sym e)
word_at at a cell (suc (suc (suc (suc (suc (suc (suc (suc w)))))))) lt e = absurd (omega arith)

filled_word : (bucket n c w i : ℕ) (records : List Cell) (cell : Cell) → w < 8 → c < n → n ≤ length records → slice_get records c ≡ Some cell → i ≡ 8 * c + w →
    slice_get (filling bucket records n) i ≡ Some (PStore (bucket + 8 + i) (word_of_cell cell w))
filled_word bucket zero c w i records cell few lt le is e = absurd (omega (arith, lt))
filled_word bucket (suc n) c w i records cell few lt le is e =
    let size = length-filled bucket n records (omega (arith, le)) in
    elim (cases_lt c n) [
      | inl less ↦ get-left (filling bucket records n) (cell_part (cell_address bucket n) (slice_get records n)) i (omega (arith, size, less, few, e))
          ∙ filled_word bucket n c w i records cell few less (omega (arith, le)) is e
      | inr ge ↦ (let same : c ≡ n = omega (arith, lt, ge) in
          let at : i - length (filling bucket records n) ≡ w = omega (arith, size, same, e) in
          let part : cell_part (cell_address bucket n) (slice_get records n) ≡ cell_words (cell_address bucket n) cell =
          ap (cell_part (cell_address bucket n)) (ap (slice_get records) (sym same) ∙ is) in
          get-right (filling bucket records n) (cell_part (cell_address bucket n) (slice_get records n)) i (omega (arith, size, same, e))
          ∙ ap (slice_get (cell_part (cell_address bucket n) (slice_get records n))) at
          ∙ ap (λ es. slice_get es w) part
          ∙ word_at (cell_address bucket n) (bucket + 8 + i) cell w few (omega (arith, same, e)))
    ]

closed_cell : (bucket n c i : ℕ) (records : List Cell) → length records ≤ c → c < n → i ≡ c + 7 * length records →
    slice_get (filling bucket records n) i ≡ Some (PStore (cell_address bucket c) 0)
closed_cell bucket zero c i records le lt e = absurd (omega (arith, lt))
closed_cell bucket (suc n) c i records le lt e =
    let size = length-filling bucket n records (omega (arith, le, lt)) in
    elim (cases_lt c n) [
      | inl less ↦ get-left (filling bucket records n) (cell_part (cell_address bucket n) (slice_get records n)) i (omega (arith, size, less, e))
          ∙ closed_cell bucket n c i records le less e
      | inr ge ↦ (let same : c ≡ n = omega (arith, lt, ge) in
          let at : i - length (filling bucket records n) ≡ 0 = omega (arith, size, same, e) in
          get-right (filling bucket records n) (cell_part (cell_address bucket n) (slice_get records n)) i (omega (arith, size, same, e))
          ∙ ap (slice_get (cell_part (cell_address bucket n) (slice_get records n))) at
          ∙ ap (λ es. slice_get es 0) (part_none bucket n records (omega (arith, le, same)))
          ∙ ap (λ m. Some (PStore (cell_address bucket m) 0)) (sym same))
    ]

-- ---- a bucket's

module _ (cells bucket tail : ℕ) (records : List Cell) (i : ℕ) (few : length records ≤ cells) where
  size : length (filling bucket records cells) ≡ cells + 7 * length records
  size = length-filling bucket cells records few

  -- the front of the cells that hold records
  front : (n i : ℕ) → length records ≤ n → i < 8 * length records → slice_get (filling bucket records n) i ≡ slice_get (filling bucket records (length records)) i
  front n i le lt = by (n - length records) n (omega (arith, le))
    where
      by : (d n : ℕ) → n ≡ length records + d → slice_get (filling bucket records n) i ≡ slice_get (filling bucket records (length records)) i
      by zero n e = let same : n ≡ length records = omega (arith, e) in ap (λ m. slice_get (filling bucket records m) i) same
      by (suc d) zero e = absurd (omega (arith, e))
      by (suc d) (suc n) e =
          let long = length-filling bucket n records (omega (arith, e)) in
          get-left (filling bucket records n) (cell_part (cell_address bucket n) (slice_get records n)) i (omega (arith, long, lt, e)) ∙ by d n (omega (arith, e))

  pub bucket_word : (c w : ℕ) (cell : Cell) → w < 8 → c < length records → slice_get records c ≡ Some cell → i ≡ 8 * c + w →
      slice_get (bucket_plan cells bucket tail records) i ≡ Some (PStore (bucket + 8 + i) (word_of_cell cell w))
  bucket_word c w cell small lt is e =
      let long = size in
      get-left (filling bucket records cells) (insertion (record { node = bucket; tail = tail })) i (omega (arith, long, small, lt, few, e))
      ∙ front cells i few (omega (arith, small, lt, e)) ∙ filled_word bucket (length records) c w i records cell small lt (omega arith) is e

  pub bucket_closed : (c : ℕ) → length records ≤ c → c < cells → i ≡ c + 7 * length records →
      slice_get (bucket_plan cells bucket tail records) i ≡ Some (PStore (cell_address bucket c) 0)
  bucket_closed c le lt e =
      let long = size in
      get-left (filling bucket records cells) (insertion (record { node = bucket; tail = tail })) i (omega (arith, long, lt, e))
      ∙ closed_cell bucket cells c i records le lt e

  pub bucket_put : (j : ℕ) → i ≡ cells + 7 * length records + j →
      slice_get (bucket_plan cells bucket tail records) i ≡ slice_get (insertion (record { node = bucket; tail = tail })) j
  bucket_put j e =
      let long = size in
      get-right (filling bucket records cells) (insertion (record { node = bucket; tail = tail })) i (omega (arith, long, e))
      ∙ ap (slice_get (insertion (record { node = bucket; tail = tail }))) (let at : i - length (filling bucket records cells) ≡ j = omega (arith, long, e) in at)
