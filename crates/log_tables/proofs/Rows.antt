-- A loop over rows, from the oldest on.
use Rattle.std.proofs.Common.{◌≡◌, ◌≤◌, ℕ, ◌+◌, ◌<◌, List, [], ◌∷◌, ◌++◌, length, map, reverse, get_or, take, drop, ap, ◌∙◌, add-one, arith}
use Rattle.std.proofs.Math.Seq.{split_at}
use Rattle.std.proofs.lemmas.List.{map-append, reverse-append, take_more, length-reverse, length-map, length-take}
use Rattle.bucket_log.specs.declared.scanning.Placed.{Placed}
use Rattle.bucket_log.specs.Scans.{record_of_placed}
use Rattle.log_tables.specs.Rows.{log_of_rows}

pub log-append : (xs ys : List Placed) → log_of_rows (xs ++ ys) ≡ log_of_rows ys ++ log_of_rows xs
log-append xs ys = ap reverse (map-append record_of_placed xs ys) ∙ reverse-append (map record_of_placed xs) (map record_of_placed ys)

pub take_here : (rows : List Placed) (i : ℕ) (d : Placed) → i < length rows → take (i + 1) rows ≡ take i rows ++ get_or rows i d ∷ []
take_here rows i d lt = take_more rows i d lt

pub split_here : (rows : List Placed) (i : ℕ) (d : Placed) → i < length rows → rows ≡ take i rows ++ get_or rows i d ∷ drop (i + 1) rows
split_here rows i d lt = rw add-one (split_at rows i d lt)

pub log_next : (rows : List Placed) (i : ℕ) (d : Placed) → i < length rows → log_of_rows (take (i + 1) rows) ≡ record_of_placed (get_or rows i d) ∷ log_of_rows (take i rows)
log_next rows i d lt = ap log_of_rows (take_here rows i d lt) ∙ log-append (take i rows) (get_or rows i d ∷ [])

pub log_short : (i : ℕ) (rows : List Placed) → length (log_of_rows (take i rows)) ≤ i
log_short i rows =
    let reversed = length-reverse (map record_of_placed (take i rows)) in let mapped = length-map (take i rows) record_of_placed in let taken = length-take i rows in
    omega (arith, reversed, mapped, taken)
