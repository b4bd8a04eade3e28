-- Going back on small literals.
use Rattle.std.proofs.Common.{◌≡◌, inl, inr, ℕ, [], ◌∷◌, refl, ap, arith}
use Rattle.persist_model.specs.declared.event.Event.TheVariants.{Store, PStore, Fence}
use Rattle.persist_model.specs.Region.{Words}
use Rattle.persist_model.specs.Progress.{start, advance_all}
use Rattle.persist_model.specs.Records.{Record, Log}
use Rattle.persist_model.specs.Order.{undo_point, last_new, UndoesWell}
use Rattle.persist_model.specs.Need.{to_undo, need_of}
use Rattle.region_layout.specs.declared.cell.Cell.{Cell}
use Rattle.region_layout.specs.declared.layout.Policy.TheVariants.{Force, NoForce}
use Rattle.region_layout.specs.Cell.{record_of}
use Rattle.region_layout.specs.RecordCells.{cell_of_compensation, with_number}
use Rattle.plan_records.specs.declared.parts.Part.TheVariants.{Append, Word, Fence as Wait}
use Rattle.plan_records.specs.Cells.{cell_of_update}
use Rattle.save_point.specs.Plans.{back_parts}
use Rattle.save_point.specs.Newest.{undone_value, written_value, AreWrites}

-- Transaction 7 writes 5 to word 400, has a savepoint there, and writes 6 and 9 to it and 7 to word 401.
abbrev first : Cell
first = cell_of_update (record { transaction = 7; word = 400; before = 0; after = 5; undo_next = 0 })

abbrev second : Cell
second = cell_of_update (record { transaction = 7; word = 400; before = 5; after = 6; undo_next = 1 })

abbrev third : Cell
third = cell_of_update (record { transaction = 7; word = 401; before = 0; after = 7; undo_next = 2 })

abbrev fourth : Cell
fourth = cell_of_update (record { transaction = 7; word = 400; before = 6; after = 9; undo_next = 3 })

-- the newest is compensated first, and the deletions at 56 and 72 are closed at last
back_is : back_parts Force (third ∷ second ∷ []) (56 ∷ 72 ∷ []) ≡
    Append (cell_of_compensation third) ∷ Word (PStore 401 0) ∷ Append (cell_of_compensation second) ∷ Word (PStore 400 5) ∷
    Word (PStore 56 0) ∷ Word (PStore 72 0) ∷ Wait ∷ []
back_is = refl

-- under no-force the words aren't asked to be kept, but the gates are; without deletions there is no fence, and without both no part
no_force_is : (back_parts NoForce (third ∷ []) (56 ∷ []) ≡ Append (cell_of_compensation third) ∷ Word (Store 401 0) ∷ Word (PStore 56 0) ∷ Wait ∷ [])
    × (back_parts Force (third ∷ []) [] ≡ Append (cell_of_compensation third) ∷ Word (PStore 401 0) ∷ [])
    × (back_parts Force [] [] ≡ [])
no_force_is = (refl, refl, refl)

-- ---- the words

abbrev zeros : ℕ → ℕ
zeros a = 0

-- each write names the value before it; behind all words 400 and 401 are 9 and 7, and behind the undo of three 5 and 0
writes_are : AreWrites (fourth ∷ third ∷ second ∷ first ∷ []) zeros
writes_are = (refl, (refl, (refl, (refl, tt))))

values_are : (written_value (fourth ∷ third ∷ second ∷ first ∷ []) zeros 400 ≡ 9) × (written_value (fourth ∷ third ∷ second ∷ first ∷ []) zeros 401 ≡ 7)
    × (undone_value (fourth ∷ third ∷ second ∷ []) 400 9 ≡ 5) × (undone_value (fourth ∷ third ∷ second ∷ []) 401 7 ≡ 0)
values_are = (refl, refl, refl, refl)

-- oldest first would leave the value before the last write
oldest_first_is : undone_value (second ∷ third ∷ fourth ∷ []) 400 9 ≡ 6
oldest_first_is = refl

-- ---- the records

abbrev first_number : Log → ℕ
first_number [] = 0
first_number (r ∷ log) = r.lsn

abbrev numbered_at : ℕ → ℕ → Cell → Record
numbered_at place number cell = record_of place (with_number number cell)

abbrev written : Log
written = numbered_at 88 4 fourth ∷ numbered_at 72 3 third ∷ numbered_at 56 2 second ∷ numbered_at 40 1 first ∷ []

-- behind the three compensations
abbrev back : Log
back = numbered_at 136 7 (cell_of_compensation second) ∷ numbered_at 120 6 (cell_of_compensation third) ∷ numbered_at 104 5 (cell_of_compensation fourth) ∷ written

-- the first write is left to undo, with its number as the undo point; the last NEWs are those at the savepoint, and an undo wants three cells as there
back_leaves : (to_undo 7 back ≡ numbered_at 40 1 first ∷ []) × (undo_point 7 back ≡ 1) × (last_new 7 400 0 back ≡ 5) × (last_new 7 401 0 back ≡ 0)
    × (need_of written 7 ≡ 6) × (need_of back 7 ≡ 3)
back_leaves = (refl, refl, refl, refl, refl, refl)

-- The oldest of them can't be compensated first: it isn't on top, and the order rule refuses a compensation of it.
oldest_is_below : (stack : Log) → to_undo 7 written ≡ numbered_at 56 2 second ∷ stack → ⊥
oldest_is_below stack e = let k : 4 ≡ 2 = ap first_number e in omega (arith, k)

third_too_early : UndoesWell written (numbered_at 104 5 (cell_of_compensation third)) → ⊥
third_too_early h =
    let c = h.compensates refl in
    let number : c.0.lsn ≡ 4 = c.1.point in
    let word : 401 ≡ c.0.word = c.2.word in
    elim c.1.among [
      | inl e ↦ (let k : c.0.word ≡ 400 = ap (λ (r : Record). r.word) e in omega (arith, word, k))
      | inr (inl e) ↦ (let k : c.0.lsn ≡ 3 = ap (λ (r : Record). r.lsn) e in omega (arith, number, k))
      | inr (inr (inl e)) ↦ (let k : c.0.lsn ≡ 2 = ap (λ (r : Record). r.lsn) e in omega (arith, number, k))
      | inr (inr (inr (inl e))) ↦ (let k : c.0.lsn ≡ 1 = ap (λ (r : Record). r.lsn) e in omega (arith, number, k))
      | inr (inr (inr (inr none))) ↦ none
    ]

-- ---- the fence

abbrev words : Words
words a = 3

-- a deletion's gate may be found open behind its store, and isn't behind the fence
fence_closes : ((advance_all (start words) (PStore 72 0 ∷ [])).durable 72 ≡ 3) × ((advance_all (start words) (PStore 72 0 ∷ Fence ∷ [])).durable 72 ≡ 0)
fence_closes = (refl, refl)
