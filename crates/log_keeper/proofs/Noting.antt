-- The code's ledger and the plain one.
use Rattle.std.proofs.Common.{◌≡◌, ℕ, ◌==◌, Bool, true, false, not, filter, if◌then◌else◌, List, [], ◌∷◌, ◌++◌, map, take, drop, length, arith, refl, sym, ap, ◌∙◌}
use Rattle.log_keeper.specs.declared.ledger.Progress.{Progress}
use Rattle.log_keeper.specs.declared.ledger.Entry.{Entry}
use Rattle.log_keeper.specs.Ledger.{Stage, Noted, staged, with_stage, is_listed, without}
use Rattle.log_keeper.specs.Noting.{stage_of, noted_of, ledger_of, staged_entry, is_kept}

pub ledger-push : (entries : List Entry) (x : Entry) → ledger_of (entries ++ x ∷ []) ≡ noted_of x ∷ ledger_of entries
ledger-push [] x = refl
ledger-push (y ∷ entries) x = ap (λ l. l ++ noted_of y ∷ []) (ledger-push entries x)

with_stage-append : (n : ℕ) (stage : Stage) (xs ys : List Noted) → with_stage n stage (xs ++ ys) ≡ with_stage n stage xs ++ with_stage n stage ys
with_stage-append n stage [] ys = refl
with_stage-append n stage (x ∷ xs) ys = ap (λ l. (if x.entry.lsn == n then staged x stage else x) ∷ l) (with_stage-append n stage xs ys)

one_staged : (n : ℕ) (stage : Progress) (x : Entry) → noted_of (staged_entry n stage x) ≡ (if x.placed.cell.lsn == n then staged (noted_of x) (stage_of stage) else noted_of x)
one_staged n stage x = by (x.placed.cell.lsn == n)
  where
    by : (t : Bool) → noted_of (record { lane = x.lane; placed = x.placed; stage = if t then stage else x.stage }) ≡ (if t then staged (noted_of x) (stage_of stage) else noted_of x)
    by true = refl
    by false = refl

pub ledger-staged : (n : ℕ) (stage : Progress) (entries : List Entry) → ledger_of (map (staged_entry n stage) entries) ≡ with_stage n (stage_of stage) (ledger_of entries)
ledger-staged n stage [] = refl
ledger-staged n stage (x ∷ entries) =
    ap (λ l. l ++ noted_of (staged_entry n stage x) ∷ []) (ledger-staged n stage entries)
    ∙ ap (λ y. with_stage n (stage_of stage) (ledger_of entries) ++ y ∷ []) (one_staged n stage x)
    ∙ sym (with_stage-append n (stage_of stage) (ledger_of entries) (noted_of x ∷ []))

kept_is : (gates ends checkpoints : List ℕ) (x : Entry) → is_kept gates ends checkpoints x ≡ not (is_listed gates ends checkpoints (noted_of x).entry.at)
kept_is gates ends checkpoints x = refl

without-append : (gates ends checkpoints : List ℕ) (xs ys : List Noted) → without gates ends checkpoints (xs ++ ys) ≡ without gates ends checkpoints xs ++ without gates ends checkpoints ys
without-append gates ends checkpoints [] ys = refl
without-append gates ends checkpoints (x ∷ xs) ys = by (is_listed gates ends checkpoints x.entry.at) (without-append gates ends checkpoints xs ys)
  where
    by : (t : Bool) → without gates ends checkpoints (xs ++ ys) ≡ without gates ends checkpoints xs ++ without gates ends checkpoints ys →
        (if t then without gates ends checkpoints (xs ++ ys) else x ∷ without gates ends checkpoints (xs ++ ys)) ≡
        (if t then without gates ends checkpoints xs else x ∷ without gates ends checkpoints xs) ++ without gates ends checkpoints ys
    by true e = e
    by false e = ap (λ l. x ∷ l) e

append_none : (xs : List Noted) → xs ++ [] ≡ xs
append_none [] = refl
append_none (x ∷ xs) = ap (λ l. x ∷ l) (append_none xs)

pub ledger-kept : (gates ends checkpoints : List ℕ) (entries : List Entry) → ledger_of (filter (is_kept gates ends checkpoints) entries) ≡ without gates ends checkpoints (ledger_of entries)
ledger-kept gates ends checkpoints [] = refl
ledger-kept gates ends checkpoints (x ∷ entries) =
    by (is_kept gates ends checkpoints x) (is_listed gates ends checkpoints (noted_of x).entry.at) (kept_is gates ends checkpoints x) (ledger-kept gates ends checkpoints entries)
    ∙ sym (without-append gates ends checkpoints (ledger_of entries) (noted_of x ∷ []))
  where
    by : (s t : Bool) → s ≡ not t → ledger_of (filter (is_kept gates ends checkpoints) entries) ≡ without gates ends checkpoints (ledger_of entries) →
        ledger_of (if s then x ∷ filter (is_kept gates ends checkpoints) entries else filter (is_kept gates ends checkpoints) entries) ≡
        without gates ends checkpoints (ledger_of entries) ++ (if t then [] else noted_of x ∷ [])
    by true true e rest = absurd (cc)
    by true false e rest = ap (λ l. l ++ noted_of x ∷ []) rest
    by false true e rest = rest ∙ sym (append_none (without gates ends checkpoints (ledger_of entries)))
    by false false e rest = absurd (cc)

-- a slice that was written whole
whole : {X : Type 0} (xs ys : List X) → length ys ≡ length xs → take (length xs) (xs ++ drop (length xs) ys) ≡ xs
whole [] ys e = refl
whole (x ∷ xs) [] e = absurd (omega (arith, e))
whole (x ∷ xs) (y ∷ ys) e = ap (λ (zs : List _). x ∷ zs) (whole xs ys (omega (arith, e)))

pub written_whole : {X : Type 0} (xs ys : List X) (n : ℕ) → length ys ≡ length xs → n ≡ length xs → take n (xs ++ drop (length xs) ys) ≡ xs
written_whole xs ys n same is = ap (λ (m : ℕ). take m (xs ++ drop (length xs) ys)) is ∙ whole xs ys same
