-- What filling a bucket stores, and what is due at its next fence.
use Rattle.std.proofs.Common.{◌≡◌, ◌≢◌, inl, inr, ℕ, zero, suc, ◌+◌, ◌<◌, ◌≤◌, List, [], ◌∷◌, ◌++◌, drop, Option, Some, None, sym, arith, subst}
use Rattle.std.specs.Prelude.{slice_get}
use Rattle.std.proofs.lemmas.Bool.Decides.{eqb_tells}
use Rattle.persist_model.specs.declared.event.Event.{Event}
use Rattle.persist_model.specs.declared.event.Event.TheVariants.{PStore}
use Rattle.persist_model.specs.Progress.{Progress, advance, advance_all}
use Rattle.persist_model.specs.ImageRecords.{cell_address}
use Rattle.persist_model.proofs.Projecting.{advance_all-append, AreAway, AreAway-append, IsDue, IsDue-stored, IsDue-aways}
use Rattle.log_laws.specs.Parts.{AreDurable}
use Rattle.log_laws.proofs.Views.{AreStoresOn, AreStoresOn-append}
use Rattle.region_layout.specs.declared.cell.Cell.{Cell}
use Rattle.region_layout.specs.Cell.{word_of_cell}
use Rattle.batch_log.specs.Plans.{cell_words, cell_part, filling}

-- ---- where it stores

words_stores : (A : ℕ → Type 0) (at : ℕ) (cell : Cell) → ((x : ℕ) → at ≤ x → x < at + 8 → A x) → AreStoresOn A (cell_words at cell)
words_stores A at cell on =
    let e0 = on at (omega arith) (omega arith) in
    let e1 = on (at + 1) (omega arith) (omega arith) in
    let e2 = on (at + 2) (omega arith) (omega arith) in
    let e3 = on (at + 3) (omega arith) (omega arith) in
    let e4 = on (at + 4) (omega arith) (omega arith) in
    let e5 = on (at + 5) (omega arith) (omega arith) in
    let e6 = on (at + 6) (omega arith) (omega arith) in
    let e7 = on (at + 7) (omega arith) (omega arith) in
    (e0, (e1, (e2, (e3, (e4, (e5, (e6, (e7, tt))))))))

part_stores : (A : ℕ → Type 0) (at : ℕ) (o : Option Cell) → ((x : ℕ) → at ≤ x → x < at + 8 → A x) → AreStoresOn A (cell_part at o)
part_stores A at (Some cell) on = words_stores A at cell on
part_stores A at None on = (on at (omega arith) (omega arith), tt)

pub filling_stores : (A : ℕ → Type 0) (bucket n : ℕ) (records : List Cell) → ((c x : ℕ) → c < n → cell_address bucket c ≤ x → x < cell_address bucket c + 8 → A x) →
    AreStoresOn A (filling bucket records n)
filling_stores A bucket zero records on = tt
filling_stores A bucket (suc n) records on = AreStoresOn-append A (filling bucket records n) (cell_part (cell_address bucket n) (slice_get records n))
    (filling_stores A bucket n records (λ c x lt. on c x (omega (arith, lt)))) (part_stores A (cell_address bucket n) (slice_get records n) (λ x low high. on n x (omega arith) low high))

words_away : (at a : ℕ) (cell : Cell) → ((x : ℕ) → at ≤ x → x < at + 8 → x ≢ a) → AreAway a (cell_words at cell)
words_away at a cell off =
    let e0 = off at (omega arith) (omega arith) in
    let e1 = off (at + 1) (omega arith) (omega arith) in
    let e2 = off (at + 2) (omega arith) (omega arith) in
    let e3 = off (at + 3) (omega arith) (omega arith) in
    let e4 = off (at + 4) (omega arith) (omega arith) in
    let e5 = off (at + 5) (omega arith) (omega arith) in
    let e6 = off (at + 6) (omega arith) (omega arith) in
    let e7 = off (at + 7) (omega arith) (omega arith) in
    (e0, (e1, (e2, (e3, (e4, (e5, (e6, (e7, tt))))))))

part_away : (at a : ℕ) (o : Option Cell) → ((x : ℕ) → at ≤ x → x < at + 8 → x ≢ a) → AreAway a (cell_part at o)
part_away at a (Some cell) off = words_away at a cell off
part_away at a None off = (off at (omega arith) (omega arith), tt)

pub filling_away : (bucket n a : ℕ) (records : List Cell) → ((c x : ℕ) → c < n → cell_address bucket c ≤ x → x < cell_address bucket c + 8 → x ≢ a) → AreAway a (filling bucket records n)
filling_away bucket zero a records off = tt
filling_away bucket (suc n) a records off = AreAway-append a (filling bucket records n) (cell_part (cell_address bucket n) (slice_get records n))
    (filling_away bucket n a records (λ c x lt. off c x (omega (arith, lt)))) (part_away (cell_address bucket n) a (slice_get records n) (λ x low high. off n x (omega arith) low high))

-- ---- what is due

word_due : (p : Progress) (at : ℕ) (cell : Cell) (i : ℕ) → i < 8 → IsDue (advance_all p (cell_words at cell)) (at + i) (word_of_cell cell i)
word_due p at cell zero lt =
    subst (λ a. IsDue (advance_all p (cell_words at cell)) a cell.lsn) (let e : at ≡ at + 0 = omega arith in e)
    (IsDue-aways (advance p (PStore at cell.lsn)) at cell.lsn (drop 1 (cell_words at cell))
    (omega arith, (omega arith, (omega arith, (omega arith, (omega arith, (omega arith, (omega arith, tt))))))) (IsDue-stored p at cell.lsn))
word_due p at cell (suc zero) lt = let q = advance p (PStore at cell.lsn) in
    IsDue-aways (advance q (PStore (at + 1) cell.transaction)) (at + 1) cell.transaction (drop 2 (cell_words at cell))
    (omega arith, (omega arith, (omega arith, (omega arith, (omega arith, (omega arith, tt)))))) (IsDue-stored q (at + 1) cell.transaction)
word_due p at cell (suc (suc zero)) lt = let q = advance (advance p (PStore at cell.lsn)) (PStore (at + 1) cell.transaction) in
    IsDue-aways (advance q (PStore (at + 2) cell.kind)) (at + 2) cell.kind (drop 3 (cell_words at cell))
    (omega arith, (omega arith, (omega arith, (omega arith, (omega arith, tt))))) (IsDue-stored q (at + 2) cell.kind)
word_due p at cell (suc (suc (suc zero))) lt =
    let q = advance (advance (advance p (PStore at cell.lsn)) (PStore (at + 1) cell.transaction)) (PStore (at + 2) cell.kind) in
    IsDue-aways (advance q (PStore (at + 3) cell.word)) (at + 3) cell.word (drop 4 (cell_words at cell))
    (omega arith, (omega arith, (omega arith, (omega arith, tt)))) (IsDue-stored q (at + 3) cell.word)
word_due p at cell (suc (suc (suc (suc zero)))) lt =
    let q = advance (advance (advance (advance p (PStore at cell.lsn)) (PStore (at + 1) cell.transaction)) (PStore (at + 2) cell.kind)) (PStore (at + 3) cell.word) in
    IsDue-aways (advance q (PStore (at + 4) cell.before)) (at + 4) cell.before (drop 5 (cell_words at cell))
    (omega arith, (omega arith, (omega arith, tt))) (IsDue-stored q (at + 4) cell.before)
word_due p at cell (suc (suc (suc (suc (suc zero))))) lt =
    let q = advance (advance (advance (advance (advance p (PStore at cell.lsn)) (PStore (at + 1) cell.transaction)) (PStore (at + 2) cell.kind)) (PStore (at + 3) cell.word)) (PStore (at + 4) cell.before) in
    IsDue-aways (advance q (PStore (at + 5) cell.after)) (at + 5) cell.after (drop 6 (cell_words at cell))
    (omega arith, (omega arith, tt)) (IsDue-stored q (at + 5) cell.after)
word_due p at cell (suc (suc (suc (suc (suc (suc zero)))))) lt =
    let q = advance (advance (advance (advance (advance (advance p (PStore at cell.lsn)) (PStore (at + 1) cell.transaction)) (PStore (at + 2) cell.kind)) (PStore (at + 3) cell.word)) (PStore (at + 4) cell.before)) (PStore (at + 5) cell.after) in
    IsDue-aways (advance q (PStore (at + 6) cell.undo_next)) (at + 6) cell.undo_next (drop 7 (cell_words at cell))
    (omega arith, tt) (IsDue-stored q (at + 6) cell.undo_next)
word_due p at cell (suc (suc (suc (suc (suc (suc (suc zero))))))) lt =
    let q = advance (advance (advance (advance (advance (advance (advance p (PStore at cell.lsn)) (PStore (at + 1) cell.transaction)) (PStore (at + 2) cell.kind)) (PStore (at + 3) cell.word)) (PStore (at + 4) cell.before)) (PStore (at + 5) cell.after)) (PStore (at + 6) cell.undo_next) in
    IsDue-stored q (at + 7) cell.outcome
word_due p at cell (suc (suc (suc (suc (suc (suc (suc (suc i)))))))) lt = absurd (omega arith)

-- the part of another cell stores to other words
other_part : (bucket c n x : ℕ) → c ≢ n → cell_address bucket n ≤ x → x < cell_address bucket n + 8 → (a : ℕ) → cell_address bucket c ≤ a → a < cell_address bucket c + 8 → x ≢ a
other_part bucket c n x ne low high a from to e = ne (omega arith)

-- Once all cells are filled the words of a record are due, and the gate of each other cell is due to be 0.
pub filling_due : (p : Progress) (bucket n c i : ℕ) (records : List Cell) (cell : Cell) → c < n → i < 8 → slice_get records c ≡ Some cell →
    IsDue (advance_all p (filling bucket records n)) (cell_address bucket c + i) (word_of_cell cell i)
filling_due p bucket zero c i records cell lt few is = absurd (omega (arith, lt))
filling_due p bucket (suc n) c i records cell lt few is =
    subst (λ q. IsDue q (cell_address bucket c + i) (word_of_cell cell i)) (sym (advance_all-append p (filling bucket records n) (cell_part (cell_address bucket n) (slice_get records n))))
    (elim (eqb_tells c n) [
      | inl e ↦ subst (λ m. IsDue (advance_all (advance_all p (filling bucket records n)) (cell_part (cell_address bucket m) (slice_get records m))) (cell_address bucket c + i) (word_of_cell cell i)) e.1
          (subst (λ o. IsDue (advance_all (advance_all p (filling bucket records n)) (cell_part (cell_address bucket c) o)) (cell_address bucket c + i) (word_of_cell cell i)) (sym is)
          (word_due (advance_all p (filling bucket records n)) (cell_address bucket c) cell i few))
      | inr ne ↦ IsDue-aways (advance_all p (filling bucket records n)) (cell_address bucket c + i) (word_of_cell cell i) (cell_part (cell_address bucket n) (slice_get records n))
          (part_away (cell_address bucket n) (cell_address bucket c + i) (slice_get records n)
          (λ x low high. other_part bucket c n x ne.1 low high (cell_address bucket c + i) (omega arith) (omega (arith, few))))
          (filling_due p bucket n c i records cell (let off = ne.1 in omega (arith, lt, off)) few is)
    ])

pub closed_due : (p : Progress) (bucket n c : ℕ) (records : List Cell) → c < n → slice_get records c ≡ None →
    IsDue (advance_all p (filling bucket records n)) (cell_address bucket c) 0
closed_due p bucket zero c records lt is = absurd (omega (arith, lt))
closed_due p bucket (suc n) c records lt is =
    subst (λ q. IsDue q (cell_address bucket c) 0) (sym (advance_all-append p (filling bucket records n) (cell_part (cell_address bucket n) (slice_get records n))))
    (elim (eqb_tells c n) [
      | inl e ↦ subst (λ m. IsDue (advance_all (advance_all p (filling bucket records n)) (cell_part (cell_address bucket m) (slice_get records m))) (cell_address bucket c) 0) e.1
          (subst (λ o. IsDue (advance_all (advance_all p (filling bucket records n)) (cell_part (cell_address bucket c) o)) (cell_address bucket c) 0) (sym is)
          (IsDue-stored (advance_all p (filling bucket records n)) (cell_address bucket c) 0))
      | inr ne ↦ IsDue-aways (advance_all p (filling bucket records n)) (cell_address bucket c) 0 (cell_part (cell_address bucket n) (slice_get records n))
          (part_away (cell_address bucket n) (cell_address bucket c) (slice_get records n)
          (λ x low high. other_part bucket c n x ne.1 low high (cell_address bucket c) (omega arith) (omega arith)))
          (closed_due p bucket n c records (let off = ne.1 in omega (arith, lt, off)) is)
    ])

-- ---- it stores durably

pub durable_append : (es fs : List Event) → AreDurable es → AreDurable fs → AreDurable (es ++ fs)
durable_append [] fs h k = k
durable_append (e ∷ es) fs h k = (h.0, durable_append es fs h.1 k)

part_durable : (at : ℕ) (o : Option Cell) → AreDurable (cell_part at o)
part_durable at (Some cell) = (tt, (tt, (tt, (tt, (tt, (tt, (tt, (tt, tt))))))))
part_durable at None = (tt, tt)

pub filling_durable : (bucket n : ℕ) (records : List Cell) → AreDurable (filling bucket records n)
filling_durable bucket zero records = tt
filling_durable bucket (suc n) records = durable_append (filling bucket records n) (cell_part (cell_address bucket n) (slice_get records n))
    (filling_durable bucket n records) (part_durable (cell_address bucket n) (slice_get records n))
