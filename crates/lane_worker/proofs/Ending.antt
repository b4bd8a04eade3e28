-- A transaction ends, or a checkpoint was made.
use Rattle.std.proofs.Common.{◌≡◌, ◌+◌, ◌<◌, true, false, List, [], ◌∷◌, ◌++◌, Some, None, refl, sym, subst, ◌∙◌, ap, arith}
use Rattle.std.specs.Prelude.{vec_len, vec_capacity}
use Rattle.std.specs.List.{slice_get}
use Rattle.std.proofs.lemmas.Option.{slice_get_within}
use Rattle.std.proofs.lemmas.List.{append-nil}
use Rattle.lane_types.specs.declared.call.Call.{Call}
use Rattle.lane_types.specs.declared.call.Call.TheVariants as call
use Rattle.lane_types.specs.declared.face.Entry.{Entry}
use Rattle.lane_types.specs.declared.call.Reply.TheVariants.{Committed, Aborted, Checkpointed}
use Rattle.lane_types.specs.Faces.{WholeFace, answered, let_go, entering}
use Rattle.lane_types.specs.LaneSteps.{CommitStep, after_entering, entering_now, AbortStep, CheckpointStep}
use Rattle.map_deeds.specs.Printed.{Transaction}
use Rattle.map_deeds.specs.declared.deed.MapDeed.{MapDeed}
use Rattle.rewind_script.specs.declared.report.How.{How}
use Rattle.rewind_script.specs.declared.report.Fate.{Fate}
use Rattle.rewind_script.specs.declared.script.Item.TheVariants as item
use Rattle.lane_worker.specs.declared.worker.Worker.{Worker}
use Rattle.lane_worker.specs.declared.stage.Stage.{Stage}
use Rattle.lane_worker.specs.declared.stage.Stage.TheVariants as stage
use Rattle.lane_worker.specs.Ledger.{IsLedger, IsDeedOf, fate_in}
use Rattle.lane_worker.specs.Stages.{IsAborting, IsAtStage, item_of, open_in}
use Rattle.lane_worker.specs.Standing.{Stands, IsReady, IsAsking, IsDue, AbortIsDue, CommitIsDue, CheckpointIsDue, phase_in, HasEntries, not_entered, entered}
use Rattle.lane_worker.proofs.Mixing.{home_at, at_base}
use Rattle.lane_worker.proofs.Keeping.{call_same, entry_number}
use Rattle.lane_worker.proofs.Ledgers.{number_below, ledger_more, ledger_checkpoint, count_here, count_checkpoint}

module _ (w : Worker) (f g : WholeFace MapDeed) (h : IsAsking w f) where
  -- the deed's transaction is committed
  ended_by_commit : (deed : MapDeed) (e : Entry MapDeed) → CommitIsDue w deed → e.deed ≡ deed → e.lane ≡ w.lane → e.number ≡ w.number
      → IsLedger w.items.now (w.at + 1) w.lane (w.number + 1) w.fates.items (h.settled ++ e ∷ [])
  ended_by_commit deed e due same lane number =
      subst (λ (xs : List Fate). IsLedger w.items.now (w.at + 1) w.lane (w.number + 1) xs (h.settled ++ e ∷ [])) (append-nil w.fates.items)
      (ledger_more w.items.now w.at w.lane w.number w.fates.items h.settled (e ∷ []) due.t None h.stands.ledger due.item due.commit (
        record {
          lane_is = lane;
          number_is = number;
          deed = subst (λ (d : MapDeed). IsDeedOf due.t d) (sym same) due.deed_is;
        },
        tt,
      ))

  begun_is : open_in w.stage ≡ 1 → f.face.begun ≡ w.number + 1 + 0
  begun_is one = let b = h.stands.begun in omega (arith, one, b)

  -- a worker behind its transaction's commit, at any face of its lane with these entries
  committed_stands : (t : Transaction) → slice_get w.items.now w.at ≡ Some (item_of t) → open_in w.stage ≡ 1 → (mine : List (Entry MapDeed))
      → IsLedger w.items.now (w.at + 1) w.lane (w.number + 1) w.fates.items mine
      → Stands (record w { stage = stage.Out; number = w.number + 1; at = w.at + 1 }) mine (at_base f g)
  committed_stands t here one mine ledger =
      let home = home_at f g w h.stands.home in
      record {
        home = record { lane = home.lane; text = home.text; sorts = home.sorts; structures = home.structures; roots = home.roots; heap = home.heap; blocks = home.blocks };
        place = (let lt = slice_get_within w.items.now w.at (item_of t) here in omega (arith, lt));
        ledger = ledger;
        begun = begun_is one;
        room = (let room = h.stands.room in let count = count_here w.items.now w.at t here in omega (arith, room, count));
        staged = tt;
      }

abbrev closed : Worker → Worker
closed w = record w { stage = stage.Out; number = w.number + 1; at = w.at + 1 }

-- the entries of a commit that is answered
commit_entries : (w : Worker) (f : WholeFace MapDeed) (h : IsAsking w f) (deed : MapDeed) → h.call ≡ call.Commit deed → CommitIsDue w deed → f.entered ≡ true
    → IsLedger w.items.now (w.at + 1) w.lane (w.number + 1) w.fates.items f.mine
commit_entries w f h deed is due on = by_entries h.entries
  where
    by_entries : HasEntries w h.call h.settled f → IsLedger w.items.now (w.at + 1) w.lane (w.number + 1) w.fates.items f.mine
    by_entries (not_entered m off) = absurd (let bad : true ≡ false = sym on ∙ off in cc)
    by_entries (entered e call_is lane number m _) =
        subst (IsLedger w.items.now (w.at + 1) w.lane (w.number + 1) w.fates.items) (sym m)
        (ended_by_commit w f f h deed e due (commit_same e.deed deed (sym call_is ∙ is)) lane number)
      where
        commit_same : (d b : MapDeed) → call.Commit d ≡ call.Commit b → d ≡ b
        commit_same d b same = cc

pub commit_ready : (w : Worker) (f g : WholeFace MapDeed) → IsAsking w f → CommitStep f g → IsReady (closed w) g
commit_ready w f g h (after_entering deed is on next) = subst (IsReady (closed w)) (sym next) (record {
  stands = committed_stands w f (let_go (answered Committed f)) h due.t due.item (ap open_in due.stage_is) f.mine (commit_entries w f h deed same due on);
  phase = refl;
  no_call = refl;
  entered = refl;
})
  where
    same : h.call ≡ call.Commit deed
    same = call_same w f h (call.Commit deed) is

    due : CommitIsDue w deed
    due = subst (λ (c : Call MapDeed). IsDue w c f) same h.due
commit_ready w f g h (entering_now e joins next) = subst (IsReady (closed w)) (sym next) (record {
  stands = committed_stands w f (let_go (answered Committed (entering e f))) h due.t due.item (ap open_in due.stage_is) (f.mine ++ e ∷ []) (by_entries h.entries);
  phase = refl;
  no_call = refl;
  entered = refl;
})
  where
    same : h.call ≡ call.Commit e.deed
    same = call_same w f h (call.Commit e.deed) joins.call

    due : CommitIsDue w e.deed
    due = subst (λ (c : Call MapDeed). IsDue w c f) same h.due

    by_entries : HasEntries w h.call h.settled f → IsLedger w.items.now (w.at + 1) w.lane (w.number + 1) w.fates.items (f.mine ++ e ∷ [])
    by_entries (entered d _ _ _ _ on) = absurd (let off = joins.new in let bad : true ≡ false = sym on ∙ off in cc)
    by_entries (not_entered m off) =
        subst (λ xs. IsLedger w.items.now (w.at + 1) w.lane (w.number + 1) w.fates.items (xs ++ e ∷ [])) (sym m)
        (ended_by_commit w f f h e.deed e due refl (joins.lane ∙ h.stands.home.lane) (entry_number w h.settled f e.number h.stands due.stage_is joins.number))

pub abort_due_at : (w : Worker) (f : WholeFace MapDeed) (h : IsAsking w f) → f.call ≡ Some call.Abort → AbortIsDue w
abort_due_at w f h is = subst (λ (c : Call MapDeed). IsDue w c f) (call_same w f h call.Abort is) h.due

-- entries stay where the call is no commit
pub plain_entries : (w : Worker) (f : WholeFace MapDeed) (h : IsAsking w f) (c : Call MapDeed) → h.call ≡ c → ((deed : MapDeed) → c ≡ call.Commit deed → ⊥)
    → (f.mine ≡ h.settled) × (f.entered ≡ false)
plain_entries w f h c is other = by_entries h.entries
  where
    by_entries : HasEntries w h.call h.settled f → (f.mine ≡ h.settled) × (f.entered ≡ false)
    by_entries (not_entered m off) = (m, off)
    by_entries (entered e call_is _ _ _ _) = absurd (other e.deed (sym is ∙ call_is))

pub aborting : (w : Worker) (f : WholeFace MapDeed) (how : How) → IsAtStage w.stage w f → w.stage ≡ stage.Aborting how → IsAborting w how
aborting w f how h is = subst (λ (s : Stage). IsAtStage s w f) is h

abbrev aborted_face : WholeFace MapDeed → WholeFace MapDeed
aborted_face f = let_go (answered Aborted f)

pub abort_ready : (w : Worker) (f g : WholeFace MapDeed) (how : How) (v : Worker) → IsAsking w f → AbortStep f g → w.stage ≡ stage.Aborting how
    → v.fates.items ≡ w.fates.items ++ record { lane = w.lane; number = w.number; how = how } ∷ [] → vec_len v.fates ≡ vec_len w.fates + 1 → vec_capacity v.fates ≡ vec_capacity w.fates
    → IsReady (record w { fates = v.fates; stage = stage.Out; number = w.number + 1; at = w.at + 1 }) g
abort_ready w f g how v h row is items len capacity =
    let due = aborting w f how h.stands.staged is in
    let plain = plain_entries w f h call.Abort (call_same w f h call.Abort row.call) (λ deed bad. absurd (cc)) in
    let home = home_at f (aborted_face f) w h.stands.home in
    let count = count_here w.items.now w.at due.t due.item in
    let room = h.stands.room in
    subst (IsReady (record w { fates = v.fates; stage = stage.Out; number = w.number + 1; at = w.at + 1 })) (sym row.next) (record {
      stands = record {
        home = record { lane = home.lane; text = home.text; sorts = home.sorts; structures = home.structures; roots = home.roots; heap = home.heap; blocks = home.blocks };
        place = (let lt = slice_get_within w.items.now w.at (item_of due.t) due.item in omega (arith, lt));
        ledger = subst (λ (xs : List Fate). IsLedger w.items.now (w.at + 1) w.lane (w.number + 1) xs f.mine) (sym items)
            (subst (λ ms. IsLedger w.items.now (w.at + 1) w.lane (w.number + 1) (w.fates.items ++ fate_in w.lane w.number (Some how)) ms) (append-nil h.settled ∙ sym plain.0)
            (ledger_more w.items.now w.at w.lane w.number w.fates.items h.settled [] due.t (Some how) h.stands.ledger due.item due.may tt));
        begun = begun_is w f (aborted_face f) h (ap open_in is);
        room = omega (arith, count, room, len, capacity);
        staged = tt;
      };
      phase = refl;
      no_call = refl;
      entered = refl;
    })

pub checkpoint_ready : (w : Worker) (f g : WholeFace MapDeed) → IsAsking w f → CheckpointStep f g → IsReady (record w { at = w.at + 1 }) g
checkpoint_ready w f g h row =
    let same = call_same w f h call.Checkpoint row.call in
    let due : CheckpointIsDue w = subst (λ (c : Call MapDeed). IsDue w c f) same h.due in
    let plain = plain_entries w f h call.Checkpoint same (λ deed bad. absurd (cc)) in
    let home = h.stands.home in
    let count = count_checkpoint w.items.now w.at due.item in
    let room = h.stands.room in
    subst (IsReady (record w { at = w.at + 1 })) (sym row.next) (record {
      stands = record {
        home = record { lane = home.lane; text = home.text; sorts = home.sorts; structures = home.structures; roots = home.roots; heap = home.heap; blocks = home.blocks };
        place = (let lt = slice_get_within w.items.now w.at item.Checkpoint due.item in omega (arith, lt));
        ledger = subst (IsLedger w.items.now (w.at + 1) w.lane w.number w.fates.items) (sym plain.0)
            (ledger_checkpoint w.items.now w.at w.lane w.number w.fates.items h.settled h.stands.ledger due.item);
        begun = h.stands.begun;
        room = omega (arith, count, room);
        staged = subst (λ (s : Stage). IsAtStage s (record w { at = w.at + 1 }) (answered Checkpointed f)) (sym due.stage_is) tt;
      };
      phase = sym (ap phase_in due.stage_is);
      no_call = refl;
      entered = refl;
    })

-- ---- the numbers that the calls need

number_low : (w : Worker) (mine : List (Entry MapDeed)) (f : WholeFace MapDeed) (t : Transaction) → Stands w mine f → slice_get w.items.now w.at ≡ Some (item_of t) → w.number < 65536
number_low w mine f t h here =
    let below = number_below w.items.now w.at w.lane w.number w.fates.items mine t h.ledger here in
    let few = h.home.text.few in
    omega (arith, below, few)

commit_due_at : (w : Worker) (f g : WholeFace MapDeed) (h : IsAsking w f) → CommitStep f g → (deed : MapDeed) × CommitIsDue w deed
commit_due_at w f g h (after_entering deed is on next) = (deed, subst (λ (c : Call MapDeed). IsDue w c f) (call_same w f h (call.Commit deed) is) h.due)
commit_due_at w f g h (entering_now e joins next) = (e.deed, subst (λ (c : Call MapDeed). IsDue w c f) (call_same w f h (call.Commit e.deed) joins.call) h.due)

pub commit_number : (w : Worker) (f g : WholeFace MapDeed) → IsAsking w f → CommitStep f g → w.number < 65536
commit_number w f g h row = let due = commit_due_at w f g h row in number_low w h.settled f due.1.t h.stands due.1.item

pub abort_stage : (w : Worker) (f g : WholeFace MapDeed) → IsAsking w f → AbortStep f g → (how : How) × (w.stage ≡ stage.Aborting how)
abort_stage w f g h row = let due = abort_due_at w f h row.call in (due.how, due.stage_is)

pub abort_number : (w : Worker) (f g : WholeFace MapDeed) → IsAsking w f → AbortStep f g → w.number < 65536
abort_number w f g h row =
    let due = abort_due_at w f h row.call in
    let at = aborting w f due.how h.stands.staged due.stage_is in
    number_low w h.settled f at.t h.stands at.item

pub abort_room : (w : Worker) (f g : WholeFace MapDeed) → IsAsking w f → AbortStep f g → vec_len w.fates < vec_capacity w.fates
abort_room w f g h row =
    let due = abort_due_at w f h row.call in
    let at = aborting w f due.how h.stands.staged due.stage_is in
    let count = count_here w.items.now w.at at.t at.item in
    let room = h.stands.room in
    omega (arith, count, room)
