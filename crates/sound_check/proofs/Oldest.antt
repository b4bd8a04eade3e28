-- A test of each row, from the oldest on.
use Rattle.std.proofs.Common.{◌≡◌, ℕ, ◌+◌, ◌<◌, List, [], ◌∷◌, ◌++◌, length, get_or, take, drop, sym, ap, ◌∙◌, subst, append_assoc}
use Rattle.persist_model.specs.Records.{Record, Log}
use Rattle.persist_model.specs.Faults.{TriedOldest, NoFault}
use Rattle.log_laws.proofs.Tries.{AllGood}
use Rattle.log_laws.proofs.Trying.{oldest_here}
use Rattle.bucket_log.specs.declared.scanning.Placed.{Placed}
use Rattle.bucket_log.specs.Scans.{record_of_placed}
use Rattle.log_tables.specs.Rows.{log_of_rows}
use Rattle.log_tables.proofs.Rows.{log-append, split_here, log_next}

pub log_split : (rows : List Placed) (i : ℕ) (d : Placed) → i < length rows →
    log_of_rows rows ≡ log_of_rows (drop (i + 1) rows) ++ record_of_placed (get_or rows i d) ∷ log_of_rows (take i rows)
log_split rows i d lt =
    ap log_of_rows (split_here rows i d lt) ∙ log-append (take i rows) (get_or rows i d ∷ drop (i + 1) rows) ∙ ap (λ l. l ++ log_of_rows (take i rows)) (log-append (get_or rows i d ∷ []) (drop (i + 1) rows))
    ∙ append_assoc (log_of_rows (drop (i + 1) rows)) (record_of_placed (get_or rows i d) ∷ []) (log_of_rows (take i rows))

pub good_next : (Good : Log → Record → Type 0) (rows : List Placed) (i : ℕ) (d : Placed) → i < length rows → AllGood Good (log_of_rows (take i rows)) →
    Good (log_of_rows (take i rows)) (record_of_placed (get_or rows i d)) → AllGood Good (log_of_rows (take (i + 1) rows))
good_next Good rows i d lt h k = subst (AllGood Good) (sym (log_next rows i d lt)) (k, h)

pub first_bad : (Good : Log → Record → Type 0) (n : ℕ) (rows : List Placed) (i : ℕ) (d : Placed) → i < length rows → AllGood Good (log_of_rows (take i rows)) →
    (Good (log_of_rows (take i rows)) (record_of_placed (get_or rows i d)) → ⊥) → TriedOldest Good n (log_of_rows rows) NoFault n (get_or rows i d).at
first_bad Good n rows i d lt h bad =
    subst (λ l. TriedOldest Good n l NoFault n (get_or rows i d).at) (sym (log_split rows i d lt))
    (oldest_here Good n (log_of_rows (drop (i + 1) rows)) (record_of_placed (get_or rows i d)) (log_of_rows (take i rows)) NoFault h bad)
