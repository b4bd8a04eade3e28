-- The lines of a report.
use Rattle.std.proofs.Common.{◌≡◌, ℕ, zero, suc, ◌+◌, List, [], ◌∷◌, ◌++◌, map, ◌∙◌, ap, append-nil, add-one, arith}
use Rattle.std.specs.List.{flat_map, range_with_len}
use Rattle.std.proofs.lemmas.List.{map-append}
use Rattle.std.proofs.lemmas.Grind.{flat_map-append}
use Rattle.rewind.specs.History.{commit_line, commit_lines, printed, first_names, Name}

range-suc : (a n : ℕ) → range_with_len a (suc n) ≡ range_with_len a n ++ (a + n) ∷ []
range-suc a zero = ap (λ x. x ∷ []) (omega arith)
range-suc a (suc n) = ap (λ rest. a ∷ rest) (range-suc (a + 1) n ∙ ap (λ x. range_with_len (a + 1) n ++ x ∷ []) (omega arith))

pub range-more : (n : ℕ) → range_with_len 0 (n + 1) ≡ range_with_len 0 n ++ n ∷ []
range-more n = rw add-one (range-suc 0 n ∙ ap (λ x. range_with_len 0 n ++ x ∷ []) (omega arith))

abbrev named : ℕ → Name
named i = record { lane = 0; number = i }

-- one transaction more
pub commit_lines-more : (n : ℕ) → commit_lines (first_names (n + 1)) ≡ commit_lines (first_names n) ++ commit_line (record { lane = 0; number = n })
commit_lines-more n =
    ap (λ numbers. commit_lines (map named numbers)) (range-more n)
    ∙ ap commit_lines (map-append named (range_with_len 0 n) (n ∷ []))
    ∙ flat_map-append commit_line (first_names n) (named n ∷ [])
    ∙ ap (λ last. commit_lines (first_names n) ++ last) (append-nil _)

pub commits-more : (n : ℕ) → map printed (first_names (n + 1)) ≡ map printed (first_names n) ++ printed (named n) ∷ []
commits-more n =
    ap (λ numbers. map printed (map named numbers)) (range-more n)
    ∙ ap (map printed) (map-append named (range_with_len 0 n) (n ∷ []))
    ∙ map-append printed (first_names n) (named n ∷ [])

-- one key more
pub each-more : {A : Type 0} (each : ℕ → List A) (n : ℕ) → flat_map each (range_with_len 0 (n + 1)) ≡ flat_map each (range_with_len 0 n) ++ each n
each-more each n =
    ap (flat_map each) (range-more n)
    ∙ flat_map-append each (range_with_len 0 n) (n ∷ [])
    ∙ ap (λ last. flat_map each (range_with_len 0 n) ++ last) (append-nil _)
