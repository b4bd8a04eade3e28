-- A lane that appends: its call, its kind of record, and how many updates it has.
use Rattle.std.proofs.Common.{◌≡◌, ◌≢◌, ℕ, suc, ◌-◌, Bool, true, false, List, [], ◌∷◌, ◌++◌, length, take, reverse, length-append, refl, sym, ap, ◌∙◌, subst, arith}
use Rattle.std.proofs.lemmas.List.{reverse-append, reverse-reverse, length-reverse}
use Rattle.persist_model.specs.Kinds.{UPDATE, CHECKPOINT, DELETION, END}
use Rattle.persist_model.specs.Records.{Record}
use Rattle.persist_model.specs.Need.{rest}
use Rattle.region_layout.specs.declared.cell.Cell.{Cell}
use Rattle.region_layout.specs.Cell.{record_of}
use Rattle.lane_types.specs.declared.call.Phase.{Phase}
use Rattle.lane_book.specs.declared.lane.Doing.{Doing}
use Rattle.bucket_log.specs.declared.append.Place.{Place}
use Rattle.log_keeper.specs.Parts.{appends as adds, closes as shuts, takes_back as drops_deletions, drops as takes_out, rests}
use Rattle.history_laws.specs.UnderWay.{Added, an_update, a_deletion, a_rollback, a_compensation, an_undone_end, a_commit_end, cell_of, Adding, record_of_adding, UnderWay, nothing, appends, closes, takes_back, drops, run_of}
use Rattle.txn_laws.specs.Txns.{Txn}
use Rattle.txn_laws.specs.NextRecords.{is_end}
use Rattle.txn_state.specs.declared.parts.TheConstants.{STORE}
use Rattle.txn_state.specs.Stages.{Stage, Free, Between, Leaving, Naming, Storing, Deleting, Unbuilt, idle_stage, commit_stage, abort_stage, stage_at}
use Rattle.txn_state.specs.Seen.{booked}
use Rattle.txn_state.specs.Ties.{AreCellsOf, IsUpdating, IsDeleting, IsRollingBack, IsCompensating, IsEnding, IsAppending, waits, appends_it}
use Rattle.txn_state.proofs.StageSteps.{commit_cases, abort_cases}

-- ---- a write's call

abbrev is_naming : Stage → Bool
is_naming Naming = true
is_naming _ = false

unlike : {A : Type 0} (st : Stage) → is_naming st ≡ false → st ≡ Naming → A
unlike st off is = absurd (let e : false ≡ true = sym off ∙ ap is_naming is in cc)

idle_unlike : (phase : Phase) → is_naming (idle_stage phase) ≡ false
idle_unlike Phase.Out = refl
idle_unlike Phase.In = refl
idle_unlike Phase.Calling = refl

-- A lane that names a word is in a write or a take: so it is too with a record, and at the part of its store it stores.
pub naming_goes : (phase : Phase) (rec : Bool) (part : ℕ) (doing : Doing) → stage_at phase rec part doing ≡ Naming → (stage_at phase true part doing ≡ Naming) × (stage_at phase rec STORE doing ≡ Storing)
naming_goes phase rec part Doing.Nothing e = unlike (idle_stage phase) (idle_unlike phase) e
naming_goes phase rec part (Doing.Begin set) e = unlike Free refl e
naming_goes phase rec part (Doing.Read a) e = unlike Between refl e
naming_goes phase rec part (Doing.Write a v) e = (e, refl)
naming_goes phase rec part (Doing.Take s block) e = (e, refl)
naming_goes phase rec part (Doing.Give block) e = unlike Deleting refl e
naming_goes phase true part Doing.Commit e = unlike (commit_stage part) (commit_cases (λ st. is_naming st ≡ false) part refl refl refl refl refl) e
naming_goes phase false part Doing.Commit e = unlike Leaving refl e
naming_goes phase true part Doing.Abort e = unlike (abort_stage part) (abort_cases (λ st. is_naming st ≡ false) part refl refl refl refl refl refl refl refl) e
naming_goes phase false part Doing.Abort e = unlike Leaving refl e
naming_goes phase rec part Doing.Checkpoint e = unlike Free refl e
naming_goes phase rec part (Doing.Batch n) e = unlike Unbuilt refl e
naming_goes phase rec part Doing.Savepoint e = unlike Unbuilt refl e
naming_goes phase rec part (Doing.RollbackTo n) e = unlike Unbuilt refl e

-- whether it has a record
pub naming_recorded : (phase : Phase) (rec : Bool) (part : ℕ) (doing : Doing) → stage_at phase rec part doing ≡ Naming → stage_at phase true part doing ≡ Naming
naming_recorded phase rec part doing e = (naming_goes phase rec part doing e).0

pub naming_stores : (phase : Phase) (rec : Bool) (part : ℕ) (doing : Doing) → stage_at phase rec part doing ≡ Naming → stage_at phase rec STORE doing ≡ Storing
naming_stores phase rec part doing e = (naming_goes phase rec part doing e).1

-- ---- the kinds

-- an append's record
pub adding_of : (u : UnderWay) (place : Place) (r : Record) → (run_of u).part ≡ adds place r → (adding : Adding) × (made : ℕ) × (u ≡ appends adding made) × (record_of_adding adding ≡ r)
adding_of nothing place r e = absurd (let is : rests ≡ adds place r = e in cc)
adding_of (appends adding made) place r e = let is : adds adding.place (record_of_adding adding) ≡ adds place r = e in (adding, made, refl, (cc))
adding_of (closes gates ends made) place r e = absurd (let is : shuts gates ends [] ≡ adds place r = e in cc)
adding_of (takes_back gates made) place r e = absurd (let is : drops_deletions gates ≡ adds place r = e in cc)
adding_of (drops d made) place r e = absurd (let is : takes_out d ≡ adds place r = e in cc)

pub kind_under : (kind : Added → Type 0) (adding : Adding) (made : ℕ) → IsAppending kind (appends adding made) → kind adding.added
kind_under kind adding made (waits e) = absurd (let is : appends adding made ≡ nothing = e in cc)
kind_under kind adding made (appends_it other n e k) = let same : other ≡ adding = same_adding e in subst (λ (a : Adding). kind a.added) same k
  where
    same_adding : appends adding made ≡ appends other n → other ≡ adding
    same_adding e = cc

-- no record of a lane is a checkpoint's
pub no_checkpoint : (added : Added) → (cell_of added).kind ≢ CHECKPOINT
no_checkpoint (an_update u) e = omega (arith, e)
no_checkpoint (a_deletion g) e = omega (arith, e)
no_checkpoint (a_rollback t) e = omega (arith, e)
no_checkpoint (a_compensation u cell) e = omega (arith, e)
no_checkpoint (an_undone_end t) e = omega (arith, e)
no_checkpoint (a_commit_end t) e = omega (arith, e)

-- and the kind of an end is one
pub end_kind : (added : Added) → is_end added ≡ true → (cell_of added).kind ≡ END
end_kind (an_update u) on = cc
end_kind (a_deletion g) on = cc
end_kind (a_rollback t) on = cc
end_kind (a_compensation u cell) on = cc
end_kind (an_undone_end t) on = refl
end_kind (a_commit_end t) on = refl

-- what an update is, a rollback record, a compensation and an end
pub record AddsUpdate (added : Added) : Type 0 where
  pub no_end : is_end added ≡ false
  pub kind : (cell_of added).kind ≡ UPDATE
  pub books : (r : Record) (x : Txn) → booked added r x ≡ record x { updates = r ∷ x.updates; point = r.lsn }

pub adds_update : (added : Added) → IsUpdating added → AddsUpdate added
adds_update (an_update u) k = record { no_end = refl; kind = refl; books = λ r x. refl }
adds_update (a_deletion g) k = absurd k
adds_update (a_rollback t) k = absurd k
adds_update (a_compensation u cell) k = absurd k
adds_update (an_undone_end t) k = absurd k
adds_update (a_commit_end t) k = absurd k

pub record AddsDeletion (added : Added) : Type 0 where
  pub no_end : is_end added ≡ false
  pub kind : (cell_of added).kind ≡ DELETION
  pub books : (r : Record) (x : Txn) → booked added r x ≡ record x { gifts = x.gifts ++ record { word = r.word; gate = r.at } ∷ [] }

pub adds_deletion : (added : Added) → IsDeleting added → AddsDeletion added
adds_deletion (an_update u) k = absurd k
adds_deletion (a_deletion g) k = record { no_end = refl; kind = refl; books = λ r x. refl }
adds_deletion (a_rollback t) k = absurd k
adds_deletion (a_compensation u cell) k = absurd k
adds_deletion (an_undone_end t) k = absurd k
adds_deletion (a_commit_end t) k = absurd k

pub record AddsRollback (added : Added) : Type 0 where
  pub no_end : is_end added ≡ false
  pub books : (r : Record) (x : Txn) → booked added r x ≡ record x { rolled = true }

pub adds_rollback : (added : Added) → IsRollingBack added → AddsRollback added
adds_rollback (an_update u) k = absurd k
adds_rollback (a_deletion g) k = absurd k
adds_rollback (a_rollback t) k = record { no_end = refl; books = λ r x. refl }
adds_rollback (a_compensation u cell) k = absurd k
adds_rollback (an_undone_end t) k = absurd k
adds_rollback (a_commit_end t) k = absurd k

pub record AddsCompensation (added : Added) : Type 0 where
  pub no_end : is_end added ≡ false
  pub books : (r : Record) (x : Txn) → booked added r x ≡ record x { updates = rest x.updates; point = r.undo_next }

pub adds_compensation : (added : Added) → IsCompensating added → AddsCompensation added
adds_compensation (an_update u) k = absurd k
adds_compensation (a_deletion g) k = absurd k
adds_compensation (a_rollback t) k = absurd k
adds_compensation (a_compensation u cell) k = record { no_end = refl; books = λ r x. refl }
adds_compensation (an_undone_end t) k = absurd k
adds_compensation (a_commit_end t) k = absurd k

pub record AddsEnd (added : Added) : Type 0 where
  pub ends : is_end added ≡ true
  pub books : (r : Record) (x : Txn) → booked added r x ≡ x

pub adds_end : (commits : Bool) (added : Added) → IsEnding commits added → AddsEnd added
adds_end commits (an_update u) k = absurd k
adds_end commits (a_deletion g) k = absurd k
adds_end commits (a_rollback t) k = absurd k
adds_end commits (a_compensation u cell) k = absurd k
adds_end commits (an_undone_end t) k = record { ends = refl; books = λ r x. refl }
adds_end commits (a_commit_end t) k = record { ends = refl; books = λ r x. refl }

-- ---- the cells of a lane's updates

pub cells_counted : (cells : List Cell) (records : List Record) → AreCellsOf cells records → length cells ≡ length records
cells_counted [] [] are = refl
cells_counted [] (r ∷ records) are = absurd are
cells_counted (c ∷ cells) [] are = absurd are
cells_counted (c ∷ cells) (r ∷ records) are = ap suc (cells_counted cells records are.1)

pub updates_counted : (cells : List Cell) (records : List Record) → AreCellsOf (reverse cells) records → length cells ≡ length records
updates_counted cells records are = sym (length-reverse cells) ∙ cells_counted (reverse cells) records are

-- one more at the end,
pub cells_more : (cells : List Cell) (records : List Record) (c : Cell) (r : Record) → record_of r.at c ≡ r → AreCellsOf (reverse cells) records → AreCellsOf (reverse (cells ++ c ∷ [])) (r ∷ records)
cells_more cells records c r is are = subst (λ (cs : List Cell). AreCellsOf cs (r ∷ records)) (sym (reverse-append cells (c ∷ []))) (is, are)

-- and without the last
abbrev tail : List Cell → List Cell
tail [] = []
tail (c ∷ cells) = cells

front_back : (cells : List Cell) → reverse (take (length cells - 1) cells) ≡ tail (reverse cells)
front_back cells = subst (λ (cs : List Cell). reverse (take (length cs - 1) cs) ≡ tail (reverse cs)) (reverse-reverse cells) (by (reverse cells))
  where
    by : (back : List Cell) → reverse (take (length (reverse back) - 1) (reverse back)) ≡ tail (reverse (reverse back))
    by [] = refl
    by (c ∷ back) =
        ap (λ (cs : List Cell). reverse (take (length cs - 1) cs)) turned
        ∙ ap reverse (ap (λ n. take n (reverse back ++ c ∷ [])) count ∙ kept (reverse back) (c ∷ []))
        ∙ reverse-reverse back ∙ sym (ap tail (reverse-reverse (c ∷ back)))
      where
        turned : reverse (c ∷ back) ≡ reverse back ++ c ∷ []
        turned = reverse-append (c ∷ []) back

        count : length (reverse back ++ c ∷ []) - 1 ≡ length (reverse back)
        count = let long = length-append (reverse back) (c ∷ []) in omega (arith, long)

        kept : (xs ys : List Cell) → take (length xs) (xs ++ ys) ≡ xs
        kept [] ys = refl
        kept (x ∷ xs) ys = ap (λ (zs : List Cell). x ∷ zs) (kept xs ys)

pub cells_less : (cells : List Cell) (records : List Record) → AreCellsOf (reverse cells) records → AreCellsOf (reverse (take (length cells - 1) cells)) (rest records)
cells_less cells records are = subst (λ (cs : List Cell). AreCellsOf cs (rest records)) (sym (front_back cells)) (by (reverse cells) records are)
  where
    by : (cs : List Cell) (rs : List Record) → AreCellsOf cs rs → AreCellsOf (tail cs) (rest rs)
    by [] [] h = tt
    by [] (r ∷ rs) h = absurd h
    by (c ∷ cs) [] h = absurd h
    by (c ∷ cs) (r ∷ rs) h = h.1
