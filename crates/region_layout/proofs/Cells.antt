-- A cell is its words.
use Rattle.std.proofs.Common.{◌≡◌, ℕ, suc, zero, ◌+◌, ◌<◌, refl, ◌∙◌, ap, arith}
use Rattle.persist_model.specs.Region.{Words}
use Rattle.region_layout.specs.declared.cell.Cell.{Cell}
use Rattle.region_layout.specs.Cell.{cell_at, word_of_cell, CellsAreRecords}

word_at : (w : Words) (at i : ℕ) → i < 8 → word_of_cell (cell_at w at) i ≡ w (at + i)
word_at w at zero h = ap w (omega arith)
word_at w at (suc zero) h = refl
word_at w at (suc (suc zero)) h = refl
word_at w at (suc (suc (suc zero))) h = refl
word_at w at (suc (suc (suc (suc zero)))) h = refl
word_at w at (suc (suc (suc (suc (suc zero))))) h = refl
word_at w at (suc (suc (suc (suc (suc (suc zero)))))) h = refl
word_at w at (suc (suc (suc (suc (suc (suc (suc zero))))))) h = refl
word_at w at (suc (suc (suc (suc (suc (suc (suc (suc i)))))))) h = absurd (omega arith)

same_cell : (c d : Cell) → ((i : ℕ) → i < 8 → word_of_cell c i ≡ word_of_cell d i) → c ≡ d
same_cell c d same =
    ap (λ x. record c { lsn = x }) (same 0 (omega arith))
    ∙ ap (λ x. record c { lsn = d.lsn; transaction = x }) (same 1 (omega arith))
    ∙ ap (λ x. record c { lsn = d.lsn; transaction = d.transaction; kind = x }) (same 2 (omega arith))
    ∙ ap (λ x. record c { lsn = d.lsn; transaction = d.transaction; kind = d.kind; word = x }) (same 3 (omega arith))
    ∙ ap (λ x. record d { before = x; after = c.after; undo_next = c.undo_next; outcome = c.outcome }) (same 4 (omega arith))
    ∙ ap (λ x. record d { after = x; undo_next = c.undo_next; outcome = c.outcome }) (same 5 (omega arith))
    ∙ ap (λ x. record d { undo_next = x; outcome = c.outcome }) (same 6 (omega arith))
    ∙ ap (λ x. record d { outcome = x }) (same 7 (omega arith))

pub cells_are_records : CellsAreRecords
cells_are_records = record {
  records = λ w at. refl;
  words = word_at;
  cells = λ w at cell same. same_cell (cell_at w at) cell (λ i h. word_at w at i h ∙ same i h);
}
