-- What the literal images are put together of. The word that is listed first stands, so a change is put in front.
use Rattle.std.proofs.Common.{ℕ, ◌+◌, List, ◌∷◌}
use Rattle.persist_model.specs.Shape.{Shape, FIRST_MAGIC}
use Rattle.persist_model.specs.Records.{Record}
use Rattle.log_laws.proofs.Verdicts.{word}

-- four buckets of one cell: they begin at 32, 48, 64 and 80, the heap at 96, and there are 352 words
abbrev pub simple : Shape
simple = record { policy = 1; cells = 1; buckets = 4; blocks = 16; structures = 1; format = 1; partitions = 1 }

-- the same under format 2
abbrev pub second_simple : Shape
second_simple = record simple { format = 2 }

-- four buckets of 16 cells: they begin at 32, 168, 304 and 440, the heap at 576, and there are 832 words
abbrev pub bucketed : ℕ → Shape
bucketed policy = record { policy = policy; cells = 16; buckets = 4; blocks = 16; structures = 1; format = 1; partitions = 1 }

-- the header of a region of format 1 with one structure
abbrev pub header : ℕ → ℕ → List (ℕ × ℕ) → List (ℕ × ℕ)
header policy cells more = word 0 FIRST_MAGIC ∷ word 1 policy ∷ word 2 cells ∷ word 3 4 ∷ word 4 16 ∷ word 5 1 ∷ more

-- HEAD and TAIL
abbrev pub ends : ℕ → ℕ → List (ℕ × ℕ) → List (ℕ × ℕ)
ends head tail more = word 8 head ∷ word 9 tail ∷ more

-- a cell with its eight words
abbrev pub cell : Record → List (ℕ × ℕ) → List (ℕ × ℕ)
cell r more =
    word r.at r.lsn ∷ word (r.at + 1) r.transaction ∷ word (r.at + 2) r.kind ∷ word (r.at + 3) r.word ∷ word (r.at + 4) r.before ∷ word (r.at + 5) r.after
    ∷ word (r.at + 6) r.undo_next ∷ word (r.at + 7) r.outcome ∷ more

-- ---- records

abbrev pub update : ℕ → ℕ → ℕ → ℕ → ℕ → ℕ → ℕ → Record
update at lsn transaction word before after undo_next =
    record { at = at; lsn = lsn; transaction = transaction; kind = 1; word = word; before = before; after = after; undo_next = undo_next; outcome = 0 }

abbrev pub compensation : ℕ → ℕ → ℕ → ℕ → ℕ → ℕ → ℕ → Record
compensation at lsn transaction word before after undo_next =
    record { at = at; lsn = lsn; transaction = transaction; kind = 2; word = word; before = before; after = after; undo_next = undo_next; outcome = 0 }

abbrev pub rollback : ℕ → ℕ → ℕ → Record
rollback at lsn transaction = record { at = at; lsn = lsn; transaction = transaction; kind = 3; word = 0; before = 0; after = 0; undo_next = 0; outcome = 0 }

-- outcome 1 is committed, 2 rolled back
abbrev pub ending : ℕ → ℕ → ℕ → ℕ → Record
ending at lsn transaction outcome = record { at = at; lsn = lsn; transaction = transaction; kind = 4; word = 0; before = 0; after = 0; undo_next = 0; outcome = outcome }

abbrev pub checkpoint : ℕ → ℕ → Record
checkpoint at lsn = record { at = at; lsn = lsn; transaction = 0; kind = 5; word = 0; before = 0; after = 0; undo_next = 0; outcome = 0 }

abbrev pub deletion : ℕ → ℕ → ℕ → ℕ → ℕ → Record
deletion at lsn transaction word owner =
    record { at = at; lsn = lsn; transaction = transaction; kind = 6; word = word; before = owner; after = 0; undo_next = 0; outcome = 0 }
