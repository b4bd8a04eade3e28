-- The records that an undo appends.
use Rattle.std.specs.Prelude.{ℕ}
use Rattle.persist_model.specs.Records.{Record}
use Rattle.persist_model.specs.Kinds.{COMPENSATION, NO_OUTCOME}

-- the compensation of u, by the transaction t
abbrev pub compensation_of : ℕ → Record → ℕ → ℕ → Record
compensation_of t u at lsn = record { at = at; lsn = lsn; transaction = t; kind = COMPENSATION; word = u.word; before = u.after; after = u.before; undo_next = u.undo_next; outcome = NO_OUTCOME }

-- a record of t that names no word: a rollback record, an end, or a checkpoint record
abbrev pub plain_record : ℕ → ℕ → ℕ → ℕ → ℕ → Record
plain_record at lsn t kind outcome = record { at = at; lsn = lsn; transaction = t; kind = kind; word = 0; before = 0; after = 0; undo_next = 0; outcome = outcome }
