-- The stage of a call by the part that was tested.
use Rattle.std.proofs.Common.{◌≡◌, ◌≢◌, inl, inr, ℕ, ◌==◌, ◌&&◌, if◌then◌else◌, Bool, true, false, refl, sym, ap, ◌∙◌}
use Rattle.std.proofs.lemmas.Bool.Decides.{eqb_tells}
use Rattle.lane_types.specs.declared.call.Phase.{Phase}
use Rattle.lane_book.specs.declared.lane.Lane.{Lane}
use Rattle.lane_book.specs.declared.lane.Doing.{Doing}
use Rattle.txn_state.specs.Stages.{Stage, Leaving, Naming, Storing, Securing, Opening, Undoing, TakingBack, Keeping, Ending, Closing, ClosingEnd, Dropping, stage_at, stage_of, write_stage, end_stage, commit_stage, abort_stage, is_commit}
use Rattle.txn_state.specs.ReadLaws.{clears_in}
use Rattle.txn_state.specs.declared.parts.TheConstants.{FIRST, STORE, UNDO, KEEP, END, CLOSE, CLOSE_END}
use Rattle.txn_state.specs.ClosingLaws.{HasCleared}
use Rattle.txn_core.specs.Phases.{IsPhased}

pub test_on : (m n : ℕ) → m ≡ n → (m == n) ≡ true
test_on m n is = elim (eqb_tells m n) [ inl k ↦ k.0 | inr k ↦ absurd (k.1 is) ]

pub test_off : (m n : ℕ) → m ≢ n → (m == n) ≡ false
test_off m n other = elim (eqb_tells m n) [ inl k ↦ absurd (other k.1) | inr k ↦ k.0 ]

module _ {E : Type 0} (lane : Lane E) where
  -- ---- a write

  pub write_stages : (a v : ℕ) → lane.doing ≡ Doing.Write a v → stage_of lane ≡ write_stage lane.part
  write_stages a v doing = ap (stage_at lane.phase lane.has_records lane.part) doing

  pub storing : (a v : ℕ) → lane.doing ≡ Doing.Write a v → lane.part ≡ STORE → stage_of lane ≡ Storing
  storing a v doing is = write_stages a v doing ∙ ap (λ (b : Bool). if b then Storing else Naming) (test_on lane.part STORE is)

  pub naming : (a v : ℕ) → lane.doing ≡ Doing.Write a v → lane.part ≢ STORE → stage_of lane ≡ Naming
  naming a v doing other = write_stages a v doing ∙ ap (λ (b : Bool). if b then Storing else Naming) (test_off lane.part STORE other)

  -- ---- a take

  take_stages : (s k : ℕ) → lane.doing ≡ Doing.Take s k → stage_of lane ≡ write_stage lane.part
  take_stages s k doing = ap (stage_at lane.phase lane.has_records lane.part) doing

  pub take_storing : (s k : ℕ) → lane.doing ≡ Doing.Take s k → lane.part ≡ STORE → stage_of lane ≡ Storing
  take_storing s k doing is = take_stages s k doing ∙ ap (λ (b : Bool). if b then Storing else Naming) (test_on lane.part STORE is)

  pub take_naming : (s k : ℕ) → lane.doing ≡ Doing.Take s k → lane.part ≢ STORE → stage_of lane ≡ Naming
  take_naming s k doing other = take_stages s k doing ∙ ap (λ (b : Bool). if b then Storing else Naming) (test_off lane.part STORE other)

  -- ---- an end

  module _ (stage : stage_of lane ≡ end_stage lane.part) where
    pub ending : lane.part ≡ END → stage_of lane ≡ Ending
    ending is = stage ∙ ap (λ (b : Bool). if b then Ending else (if lane.part == CLOSE then Closing else (if lane.part == CLOSE_END then ClosingEnd else Dropping))) (test_on lane.part END is)

    behind : lane.part ≢ END → stage_of lane ≡ (if lane.part == CLOSE then Closing else (if lane.part == CLOSE_END then ClosingEnd else Dropping))
    behind other = stage ∙ ap (λ (b : Bool). if b then Ending else (if lane.part == CLOSE then Closing else (if lane.part == CLOSE_END then ClosingEnd else Dropping))) (test_off lane.part END other)

    pub closing : lane.part ≢ END → lane.part ≡ CLOSE → stage_of lane ≡ Closing
    closing other is = behind other ∙ ap (λ (b : Bool). if b then Closing else (if lane.part == CLOSE_END then ClosingEnd else Dropping)) (test_on lane.part CLOSE is)

    behind_close : lane.part ≢ END → lane.part ≢ CLOSE → stage_of lane ≡ (if lane.part == CLOSE_END then ClosingEnd else Dropping)
    behind_close other more = behind other ∙ ap (λ (b : Bool). if b then Closing else (if lane.part == CLOSE_END then ClosingEnd else Dropping)) (test_off lane.part CLOSE more)

    pub clearing_further : lane.part ≢ END → lane.part ≢ CLOSE → HasCleared lane
    clearing_further other more = by (lane.part == CLOSE_END) (behind_close other more)
      where
        by : (b : Bool) → stage_of lane ≡ (if b then ClosingEnd else Dropping) → HasCleared lane
        by true is = inl is
        by false is = inr is

  -- ---- a commit

  module _ (doing : lane.doing ≡ Doing.Commit) where
    pub commit_leaving : lane.has_records ≡ false → stage_of lane ≡ Leaving
    commit_leaving none = λ i. stage_at lane.phase (none i) lane.part (doing i)

    commit_stages : lane.has_records ≡ true → stage_of lane ≡ commit_stage lane.part
    commit_stages some = λ i. stage_at lane.phase (some i) lane.part (doing i)

    pub securing : lane.has_records ≡ true → lane.part ≡ FIRST → stage_of lane ≡ Securing
    securing some is = commit_stages some ∙ ap (λ (b : Bool). if b then Securing else end_stage lane.part) (test_on lane.part FIRST is)

    pub commit_ends : lane.has_records ≡ true → lane.part ≢ FIRST → stage_of lane ≡ end_stage lane.part
    commit_ends some other = commit_stages some ∙ ap (λ (b : Bool). if b then Securing else end_stage lane.part) (test_off lane.part FIRST other)

  -- where the entry has not joined yet
  pub unjoined : (stage : Stage) → stage_of lane ≡ stage → clears_in stage ≡ false → IsPhased lane → lane.entered ≡ false
  unjoined stage is off phased = phased.joined ∙ ap (λ (s : Stage). is_commit lane.doing && clears_in s) is ∙ ap (λ (b : Bool). is_commit lane.doing && b) off ∙ never (is_commit lane.doing)
    where
      never : (b : Bool) → (b && false) ≡ false
      never true = refl
      never false = refl

  -- and where it has
  pub has_joined : (stage : Stage) → lane.doing ≡ Doing.Commit → stage_of lane ≡ stage → clears_in stage ≡ true → IsPhased lane → lane.entered ≡ true
  has_joined stage doing is on phased = phased.joined ∙ (λ i. is_commit (doing i) && clears_in (is i)) ∙ on

  -- ---- the phase

  pub calls : (d : Doing) → lane.doing ≡ d → d ≢ Doing.Nothing → IsPhased lane → lane.phase ≡ Phase.Calling
  calls d doing some phased = phased.calling (λ none. some (sym doing ∙ none))

  pub commit_calls : lane.doing ≡ Doing.Commit → IsPhased lane → lane.phase ≡ Phase.Calling
  commit_calls doing phased = calls Doing.Commit doing (λ is. cc) phased

  pub abort_calls : lane.doing ≡ Doing.Abort → IsPhased lane → lane.phase ≡ Phase.Calling
  abort_calls doing phased = calls Doing.Abort doing (λ is. cc) phased

  pub checkpoint_calls : lane.doing ≡ Doing.Checkpoint → IsPhased lane → lane.phase ≡ Phase.Calling
  checkpoint_calls doing phased = calls Doing.Checkpoint doing (λ is. cc) phased

  pub begin_calls : (set : ℕ) → lane.doing ≡ Doing.Begin set → IsPhased lane → lane.phase ≡ Phase.Calling
  begin_calls set doing phased = calls (Doing.Begin set) doing (λ is. cc) phased

  pub read_calls : (a : ℕ) → lane.doing ≡ Doing.Read a → IsPhased lane → lane.phase ≡ Phase.Calling
  read_calls a doing phased = calls (Doing.Read a) doing (λ is. cc) phased

  -- ---- an abort

  module _ (doing : lane.doing ≡ Doing.Abort) where
    pub abort_leaving : lane.has_records ≡ false → stage_of lane ≡ Leaving
    abort_leaving none = λ i. stage_at lane.phase (none i) lane.part (doing i)

    module _ (some : lane.has_records ≡ true) where
      abort_stages : stage_of lane ≡ abort_stage lane.part
      abort_stages = λ i. stage_at lane.phase (some i) lane.part (doing i)

      abbrev tests : Bool → Bool → Bool → Bool → Stage
      tests a b c d = if a then Opening else (if b then TakingBack else (if c then Undoing else (if d then Keeping else end_stage lane.part)))

      -- by what the tests of the part say
      pub by_tests : (a b c d : Bool) → (lane.part == FIRST) ≡ a → (lane.part == STORE) ≡ b → (lane.part == UNDO) ≡ c → (lane.part == KEEP) ≡ d → stage_of lane ≡ tests a b c d
      by_tests a b c d e f g h = abort_stages ∙ (λ i. tests (e i) (f i) (g i) (h i))

      pub opening : lane.part ≡ FIRST → stage_of lane ≡ Opening
      opening is = by_tests true _ _ _ (test_on lane.part FIRST is) refl refl refl

      pub taking_back : lane.part ≢ FIRST → lane.part ≡ STORE → stage_of lane ≡ TakingBack
      taking_back first is = by_tests false true _ _ (test_off lane.part FIRST first) (test_on lane.part STORE is) refl refl

      pub undoing : lane.part ≢ FIRST → lane.part ≢ STORE → lane.part ≡ UNDO → stage_of lane ≡ Undoing
      undoing first store is = by_tests false false true _ (test_off lane.part FIRST first) (test_off lane.part STORE store) (test_on lane.part UNDO is) refl

      pub keeping : lane.part ≢ FIRST → lane.part ≢ STORE → lane.part ≢ UNDO → lane.part ≡ KEEP → stage_of lane ≡ Keeping
      keeping first store undo is = by_tests false false false true (test_off lane.part FIRST first) (test_off lane.part STORE store) (test_off lane.part UNDO undo) (test_on lane.part KEEP is)

      pub abort_ends : lane.part ≢ FIRST → lane.part ≢ STORE → lane.part ≢ UNDO → lane.part ≢ KEEP → stage_of lane ≡ end_stage lane.part
      abort_ends first store undo keep =
          by_tests false false false false (test_off lane.part FIRST first) (test_off lane.part STORE store) (test_off lane.part UNDO undo) (test_off lane.part KEEP keep)
