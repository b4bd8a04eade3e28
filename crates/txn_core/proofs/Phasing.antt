-- What a step leaves of a lane's phase, and of whether its entry has joined.
use Rattle.std.proofs.Common.{◌≡◌, ◌≢◌, ⊎_elim, ℕ, ◌<◌, ◌&&◌, Bool, true, false, length, Option, refl, sym, ap, ◌∙◌, subst}
use Rattle.std.proofs.lemmas.Bool.Decides.{eqb_tells}
use Rattle.lane_types.specs.declared.call.Call.{Call}
use Rattle.lane_types.specs.declared.call.Phase.{Phase}
use Rattle.lane_types.specs.declared.call.Reply.{Reply}
use Rattle.lane_types.specs.declared.call.Stepped.{Stepped}
use Rattle.lane_types.specs.Faces.{phase_after}
use Rattle.lane_book.specs.declared.book.Book.{Book}
use Rattle.lane_book.specs.declared.lane.Lane.{Lane}
use Rattle.lane_book.specs.declared.lane.Doing.{Doing}
use Rattle.lane_book.specs.FacesOf.{lane_at, idle_lane}
use Rattle.lane_book.specs.Lanes.{with_lane, noted, moved, closed, left, begun_lane, entered_lane, owing, asked_lane}
use Rattle.lane_book.proofs.Faces.{lane_at-same, lane_at-other}
use Rattle.txn_state.specs.Stages.{stage_at, stage_of, is_commit}
use Rattle.txn_state.specs.ReadLaws.{clears_in}
use Rattle.txn_state.specs.declared.parts.TheConstants.{CLOSE}
use Rattle.txn_core.specs.Phases.{IsPhased, ArePhased}
use Rattle.txn_core.proofs.OpenParts.{rests_open, begins_clear}

-- One lane is another.
pub phased_with : {E : Type 0} (book later : Book E) (l : ℕ) (lane : Lane E) (touched : Option ℕ) → l < length book.lanes.items → later.lanes ≡ (with_lane book l lane touched).lanes →
    (IsPhased (lane_at book l) → IsPhased lane) → ArePhased book → ArePhased later
phased_with book later l lane touched lt is step phased k =
    subst IsPhased (ap (λ lanes. lane_at (record book { lanes = lanes }) k) (sym is)) (⊎_elim (λ same. here same.1) (λ ne. there ne.1) (eqb_tells k l))
  where
    here : k ≡ l → IsPhased (lane_at (with_lane book l lane touched) k)
    here same = subst (λ n. IsPhased (lane_at (with_lane book l lane touched) n)) (sym same) (subst IsPhased (sym (lane_at-same book l lane touched lt)) (step (phased l)))

    there : k ≢ l → IsPhased (lane_at (with_lane book l lane touched) k)
    there ne = subst IsPhased (sym (lane_at-other book l k lane touched ne)) (phased k)

module _ {E : Type 0} (lane : Lane E) where
  pub noted_phased : (answer : Stepped) → IsPhased lane → IsPhased (noted answer lane)
  noted_phased answer phased = record { calling = phased.calling; joined = phased.joined; undone = phased.undone }

  pub owing_phased : (events records : ℕ) → IsPhased lane → IsPhased (owing events records lane)
  owing_phased events records phased = record { calling = phased.calling; joined = phased.joined; undone = phased.undone }

  pub closed_anyway : (reply : Reply) → IsPhased (closed reply lane)
  closed_anyway reply = record { calling = λ some. absurd (some refl); joined = refl; undone = λ on off. absurd (rests_open (phase_after reply) on) }

  pub closed_phased : (reply : Reply) → IsPhased lane → IsPhased (closed reply lane)
  closed_phased reply phased = closed_anyway reply

  pub left_phased : (reply : Reply) → IsPhased lane → IsPhased (left reply lane)
  left_phased reply phased = record { calling = λ some. absurd (some refl); joined = refl; undone = λ on off. refl }

  pub begun_phased : (n set joined : ℕ) → IsPhased lane → IsPhased (begun_lane n set joined lane)
  begun_phased n set joined phased = record { calling = λ some. absurd (some refl); joined = refl; undone = λ on off. absurd (rests_open Phase.In on) }

  pub commit_left_phased : (reply : Reply) → IsPhased lane → IsPhased (left reply (entered_lane lane))
  commit_left_phased reply phased = record { calling = λ some. absurd (some refl); joined = refl; undone = λ on off. refl }

  -- the call goes on at a part that closes or takes out, or not, as the one before
  pub moved_phased : (part : ℕ) → clears_in (stage_of (moved part lane)) ≡ clears_in (stage_of lane) → IsPhased lane → IsPhased (moved part lane)
  moved_phased part same phased = record {
    calling = phased.calling;
    joined = phased.joined ∙ ap (λ (b : Bool). is_commit lane.doing && b) (sym same);
    undone = λ on off. phased.undone (sym same ∙ on) off;
  }

  -- or at any, where it is no commit, and none of its writes stands if that one closes
  pub other_phased : (part : ℕ) → is_commit lane.doing ≡ false → (clears_in (stage_of (moved part lane)) ≡ true → lane.stored ≡ 0) → IsPhased lane → IsPhased (moved part lane)
  other_phased part off undone phased = record {
    undone = λ on no_commit. undone on;
    calling = phased.calling;
    joined = phased.joined ∙ ap (λ (b : Bool). b && clears_in (stage_of lane)) off ∙ ap (λ (b : Bool). b && clears_in (stage_of (moved part lane))) (sym off);
  }

  -- or the entry of a commit joins
  pub joined_phased : lane.doing ≡ Doing.Commit → lane.has_records ≡ true → IsPhased lane → IsPhased (moved CLOSE (entered_lane lane))
  joined_phased doing recorded phased = record {
    calling = phased.calling;
    joined = sym (λ i. is_commit (doing i) && clears_in (stage_at lane.phase (recorded i) CLOSE (doing i)));
    undone = λ on off. (let wrong : true ≡ false = sym (ap is_commit doing) ∙ off in absurd (cc));
  }

-- ---- before the first step

-- no lane is calling
pub fresh_phased : {E : Type 0} (book : Book E) → ((l : ℕ) → lane_at book l ≡ idle_lane) → ArePhased book
fresh_phased book idle l = subst IsPhased (sym (idle l)) (record { calling = λ some. absurd (some refl); joined = refl; undone = λ on off. refl })

-- a call that begins closes nothing
begins_open : (recorded : Bool) (doing : Doing) → (is_commit doing && clears_in (stage_at Phase.Calling recorded 0 doing)) ≡ false
begins_open recorded Doing.Nothing = refl
begins_open recorded (Doing.Begin set) = refl
begins_open recorded (Doing.Read a) = refl
begins_open recorded (Doing.Write a v) = refl
begins_open recorded (Doing.Take s block) = refl
begins_open recorded (Doing.Give block) = refl
begins_open true Doing.Commit = refl
begins_open false Doing.Commit = refl
begins_open recorded Doing.Abort = refl
begins_open recorded Doing.Checkpoint = refl
begins_open recorded (Doing.Batch n) = refl
begins_open recorded Doing.Savepoint = refl
begins_open recorded (Doing.RollbackTo n) = refl

-- A lane without a call is asked one.
pub asked_phased : {E : Type 0} (call : Call E) (doing : Doing) (promised : ℕ) (lane : Lane E) → lane.doing ≡ Doing.Nothing → IsPhased lane → IsPhased (asked_lane call doing promised lane)
asked_phased call doing promised lane rests phased = record {
  calling = λ some. refl;
  joined = phased.joined ∙ ap (λ (d : Doing). is_commit d && clears_in (stage_at lane.phase lane.has_records lane.part d)) rests ∙ sym (begins_open lane.has_records doing);
  undone = λ on off. (let wrong : true ≡ false = sym on ∙ begins_clear lane.has_records doing in absurd (cc));
}
