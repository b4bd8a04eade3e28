-- The stages of the calls, and from which one a call comes to the next.
use Rattle.std.proofs.Common.{◌≡◌, ◌≢◌, ℕ, ◌==◌, Bool, true, false, if◌then◌else◌, refl, sym, ap, ◌∙◌, subst}
use Rattle.lane_types.specs.declared.call.Phase.{Phase}
use Rattle.lane_book.specs.declared.lane.Doing.{Doing}
use Rattle.txn_state.specs.declared.parts.TheConstants.{FIRST, STORE, UNDO, KEEP, END, CLOSE, CLOSE_END}
use Rattle.lane_book.specs.Books.{ends}
use Rattle.txn_state.specs.Ties.{due_by}
use Rattle.txn_state.specs.Stages.{Stage, Leaving, Naming, Storing, Deleting, Securing, Opening, Undoing, TakingBack, Keeping, Ending, Closing, ClosingEnd, Dropping, idle_stage, write_stage, commit_stage, abort_stage, end_stage, stage_at, is_commit}

-- ---- the stages of a plan

pub write_cases : (P : Stage → Type 0) (part : ℕ) → P Naming → P Storing → P (write_stage part)
write_cases P part n s = by (part == STORE)
  where
    by : (b : Bool) → P (if b then Storing else Naming)
    by true = s
    by false = n

end_cases : (P : Stage → Type 0) (part : ℕ) → P Ending → P Closing → P ClosingEnd → P Dropping → P (end_stage part)
end_cases P part e c d r = by (part == END) (part == CLOSE) (part == CLOSE_END)
  where
    by : (a b g : Bool) → P (if a then Ending else (if b then Closing else (if g then ClosingEnd else Dropping)))
    by true b g = e
    by false true g = c
    by false false true = d
    by false false false = r

pub commit_cases : (P : Stage → Type 0) (part : ℕ) → P Securing → P Ending → P Closing → P ClosingEnd → P Dropping → P (commit_stage part)
commit_cases P part s e c d r = by (part == FIRST)
  where
    by : (b : Bool) → P (if b then Securing else end_stage part)
    by true = s
    by false = end_cases P part e c d r

pub abort_cases : (P : Stage → Type 0) (part : ℕ) → P Opening → P TakingBack → P Undoing → P Keeping → P Ending → P Closing → P ClosingEnd → P Dropping → P (abort_stage part)
abort_cases P part o t u k e c d r = by (part == FIRST) (part == STORE) (part == UNDO) (part == KEEP)
  where
    by : (a b g h : Bool) → P (if a then Opening else (if b then TakingBack else (if g then Undoing else (if h then Keeping else end_stage part))))
    by true b g h = o
    by false true g h = t
    by false false true h = u
    by false false false true = k
    by false false false false = end_cases P part e c d r

-- ---- calls that end a transaction with records

-- the stages of a commit's plan, and of an abort's
abbrev pub commit_has : Stage → Bool
commit_has Securing = true
commit_has Ending = true
commit_has Closing = true
commit_has ClosingEnd = true
commit_has Dropping = true
commit_has _ = false

abbrev pub abort_has : Stage → Bool
abort_has Opening = true
abort_has TakingBack = true
abort_has Undoing = true
abort_has Keeping = true
abort_has Ending = true
abort_has Closing = true
abort_has ClosingEnd = true
abort_has Dropping = true
abort_has _ = false

abbrev pub end_has : Stage → Bool
end_has Securing = true
end_has Opening = true
end_has TakingBack = true
end_has Undoing = true
end_has Keeping = true
end_has Ending = true
end_has Closing = true
end_has ClosingEnd = true
end_has Dropping = true
end_has _ = false

-- the call is a commit or an abort of a transaction with records, in this stage
pub data EndsCall (rec : Bool) (doing : Doing) (stage : Stage) : Type 0 where
  commit : rec ≡ true → doing ≡ Doing.Commit → commit_has stage ≡ true → EndsCall rec doing stage
  abort : rec ≡ true → doing ≡ Doing.Abort → abort_has stage ≡ true → EndsCall rec doing stage

strange : {A : Type 0} (b : Bool) → b ≡ false → b ≡ true → A
strange b off on = absurd (let e : false ≡ true = sym off ∙ on in cc)

idle_none : (phase : Phase) → end_has (idle_stage phase) ≡ false
idle_none Phase.Out = refl
idle_none Phase.In = refl
idle_none Phase.Calling = refl

pub ends_call : (phase : Phase) (rec : Bool) (part : ℕ) (doing : Doing) → end_has (stage_at phase rec part doing) ≡ true → EndsCall rec doing (stage_at phase rec part doing)
ends_call phase rec part Doing.Nothing e = strange (end_has (idle_stage phase)) (idle_none phase) e
ends_call phase rec part (Doing.Begin set) e = strange false refl e
ends_call phase rec part (Doing.Read a) e = strange false refl e
ends_call phase rec part (Doing.Write a v) e = strange (end_has (write_stage part)) (write_cases (λ st. end_has st ≡ false) part refl refl) e
ends_call phase rec part (Doing.Take s block) e = strange (end_has (write_stage part)) (write_cases (λ st. end_has st ≡ false) part refl refl) e
ends_call phase rec part (Doing.Give block) e = strange false refl e
ends_call phase true part Doing.Commit e = commit refl refl (commit_cases (λ st. commit_has st ≡ true) part refl refl refl refl refl)
ends_call phase false part Doing.Commit e = strange false refl e
ends_call phase true part Doing.Abort e = abort refl refl (abort_cases (λ st. abort_has st ≡ true) part refl refl refl refl refl refl refl refl)
ends_call phase false part Doing.Abort e = strange false refl e
ends_call phase rec part Doing.Checkpoint e = strange false refl e
ends_call phase rec part (Doing.Batch n) e = strange false refl e
ends_call phase rec part Doing.Savepoint e = strange false refl e
ends_call phase rec part (Doing.RollbackTo n) e = strange false refl e

-- a stage of them
pub call_at : (phase : Phase) (rec : Bool) (part : ℕ) (doing : Doing) (stage : Stage) → stage_at phase rec part doing ≡ stage → end_has stage ≡ true → EndsCall rec doing stage
call_at phase rec part doing stage is ends = subst (EndsCall rec doing) is (ends_call phase rec part doing (ap end_has is ∙ ends))

-- which stage a commit or an abort with records is in, by its part
pub stage_of_call : (phase : Phase) (rec : Bool) (part : ℕ) (doing call : Doing) → rec ≡ true → doing ≡ call → stage_at phase rec part doing ≡ stage_at phase true part call
stage_of_call phase rec part doing call on is = ap (λ r. stage_at phase r part doing) on ∙ ap (λ d. stage_at phase true part d) is

pub commits_it : (rec : Bool) (doing : Doing) (stage : Stage) → abort_has stage ≡ false → EndsCall rec doing stage → (rec ≡ true) × (doing ≡ Doing.Commit)
commits_it rec doing stage off (commit on is has) = (on, is)
commits_it rec doing stage off (abort on is has) = strange (abort_has stage) off has

pub aborts_it : (rec : Bool) (doing : Doing) (stage : Stage) → commit_has stage ≡ false → EndsCall rec doing stage → (rec ≡ true) × (doing ≡ Doing.Abort)
aborts_it rec doing stage off (commit on is has) = strange (commit_has stage) off has
aborts_it rec doing stage off (abort on is has) = (on, is)

-- ---- a store of a write

abbrev is_storing : Stage → Bool
is_storing Storing = true
is_storing _ = false

-- it is no commit's
pub storing_no_commit : (phase : Phase) (rec : Bool) (part : ℕ) (doing : Doing) → stage_at phase rec part doing ≡ Storing → is_commit doing ≡ false
storing_no_commit phase rec part Doing.Nothing e = refl
storing_no_commit phase rec part (Doing.Begin set) e = refl
storing_no_commit phase rec part (Doing.Read a) e = refl
storing_no_commit phase rec part (Doing.Write a v) e = refl
storing_no_commit phase rec part (Doing.Take s block) e = refl
storing_no_commit phase rec part (Doing.Give block) e = refl
storing_no_commit phase true part Doing.Commit e = strange (is_storing (commit_stage part)) (commit_cases (λ st. is_storing st ≡ false) part refl refl refl refl refl) (ap is_storing e)
storing_no_commit phase false part Doing.Commit e = strange false refl (ap is_storing e)
storing_no_commit phase rec part Doing.Abort e = refl
storing_no_commit phase rec part Doing.Checkpoint e = refl
storing_no_commit phase rec part (Doing.Batch n) e = refl
storing_no_commit phase rec part Doing.Savepoint e = refl
storing_no_commit phase rec part (Doing.RollbackTo n) e = refl

-- ---- a take

-- the lane's call is no take at another stage than those of a write
pub no_take : (phase : Phase) (rec : Bool) (part : ℕ) (doing : Doing) (stage : Stage) (s k : ℕ) → doing ≡ Doing.Take s k → stage_at phase rec part doing ≡ stage → stage ≢ Naming → stage ≢ Storing → ⊥
no_take phase rec part doing stage s k call is no_naming no_storing =
    write_cases (λ st. st ≡ stage → ⊥) part (λ e. no_naming (sym e)) (λ e. no_storing (sym e)) (sym (ap (stage_at phase rec part) call) ∙ is)

-- ---- a give

-- the lane's call is no give at another stage
pub due_none : (phase : Phase) (rec : Bool) (part : ℕ) (doing : Doing) (stage : Stage) → stage_at phase rec part doing ≡ stage → stage ≢ Deleting → due_by doing ≡ 0
due_none phase rec part Doing.Nothing stage is other = refl
due_none phase rec part (Doing.Begin set) stage is other = refl
due_none phase rec part (Doing.Read a) stage is other = refl
due_none phase rec part (Doing.Write a v) stage is other = refl
due_none phase rec part (Doing.Take s k) stage is other = refl
due_none phase rec part (Doing.Give k) stage is other = absurd (other (sym is))
due_none phase rec part Doing.Commit stage is other = refl
due_none phase rec part Doing.Abort stage is other = refl
due_none phase rec part Doing.Checkpoint stage is other = refl
due_none phase rec part (Doing.Batch n) stage is other = refl
due_none phase rec part Doing.Savepoint stage is other = refl
due_none phase rec part (Doing.RollbackTo n) stage is other = refl

-- ---- the calls that end a transaction

-- they are asked at these stages alone
abbrev pub ends_at : Stage → Bool
ends_at Leaving = true
ends_at Securing = true
ends_at Opening = true
ends_at TakingBack = true
ends_at Undoing = true
ends_at Keeping = true
ends_at Ending = true
ends_at Closing = true
ends_at ClosingEnd = true
ends_at Dropping = true
ends_at _ = false

idle_goes : (phase : Phase) → ends_at (idle_stage phase) ≡ false
idle_goes Phase.Out = refl
idle_goes Phase.In = refl
idle_goes Phase.Calling = refl

pub ends_told : (phase : Phase) (rec : Bool) (part : ℕ) (doing : Doing) → ends doing ≡ ends_at (stage_at phase rec part doing)
ends_told phase rec part Doing.Nothing = sym (idle_goes phase)
ends_told phase rec part (Doing.Begin set) = refl
ends_told phase rec part (Doing.Read a) = refl
ends_told phase rec part (Doing.Write a v) = write_cases (λ st. false ≡ ends_at st) part refl refl
ends_told phase rec part (Doing.Take s k) = write_cases (λ st. false ≡ ends_at st) part refl refl
ends_told phase rec part (Doing.Give k) = refl
ends_told phase true part Doing.Commit = commit_cases (λ st. true ≡ ends_at st) part refl refl refl refl refl
ends_told phase false part Doing.Commit = refl
ends_told phase true part Doing.Abort = abort_cases (λ st. true ≡ ends_at st) part refl refl refl refl refl refl refl refl
ends_told phase false part Doing.Abort = refl
ends_told phase rec part Doing.Checkpoint = refl
ends_told phase rec part (Doing.Batch n) = refl
ends_told phase rec part Doing.Savepoint = refl
ends_told phase rec part (Doing.RollbackTo n) = refl

-- at a stage
pub ends_by : (phase : Phase) (rec : Bool) (part : ℕ) (doing : Doing) (stage : Stage) → stage_at phase rec part doing ≡ stage → ends doing ≡ ends_at stage
ends_by phase rec part doing stage is = ends_told phase rec part doing ∙ ap ends_at is

pub no_give : (phase : Phase) (rec : Bool) (part : ℕ) (doing : Doing) (stage : Stage) (k : ℕ) → doing ≡ Doing.Give k → stage_at phase rec part doing ≡ stage → stage ≢ Deleting → ⊥
no_give phase rec part doing stage k call is other = other (sym is ∙ ap (stage_at phase rec part) call)
