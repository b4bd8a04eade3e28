-- Tests of records, as the order rule asks them.
use Rattle.std.specs.Prelude.{◌≡◌, ◌≢◌, Bool, not, ◌==◌, ◌&&◌, ◌||◌}
use Rattle.persist_model.specs.Records.{Record, Log}
use Rattle.persist_model.specs.Kinds.{COMPENSATION, DELETION, END, UPDATE}
use Rattle.persist_model.specs.Order.{is_kind_of, Bars}
use Rattle.persist_model.specs.Need.{has_kind_of}
use Rattle.log_tables.specs.Tables.{has_commit_of}

abbrev pub names_word : Record → Bool
names_word s = (s.kind == UPDATE) || ((s.kind == COMPENSATION) || (s.kind == DELETION))

-- s bars other transactions from its word
abbrev pub is_barring : Log → Record → Bool
is_barring log s = (names_word s && not (has_kind_of s.transaction END log)) || ((s.kind == DELETION) && has_commit_of s.transaction log)

-- s bars r from its word
abbrev pub IsClaim : Log → Record → Record → Type 0
IsClaim log r s = (s.word ≡ r.word) × (s.transaction ≢ r.transaction) × Bars log s

-- u is an update of r's transaction, and r has the fields of its compensation
abbrev pub compensates : Record → Record → Bool
compensates r u = is_kind_of r.transaction UPDATE u && ((r.word == u.word) && ((r.before == u.after) && ((r.after == u.before) && (r.undo_next == u.undo_next))))
