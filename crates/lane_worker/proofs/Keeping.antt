-- What stays of how a worker stands to its face while its call goes on.
use Rattle.std.proofs.Common.{◌≡◌, ℕ, ◌+◌, true, false, List, [], ◌∷◌, ◌++◌, Some, refl, sym, subst, ◌∙◌, ap, arith}
use Rattle.lane_types.specs.declared.call.Call.{Call}
use Rattle.lane_types.specs.declared.call.Call.TheVariants as call
use Rattle.lane_types.specs.declared.call.Stepped.TheVariants.{Moved}
use Rattle.lane_types.specs.declared.face.Entry.{Entry}
use Rattle.lane_types.specs.Faces.{WholeFace, stepped, entering}
use Rattle.lane_types.specs.Asks.{asked}
use Rattle.lane_types.specs.LaneSteps.{going_on, entering_on, writing_on, taking_back, takes_back, IsEntryOf}
use Rattle.map_deeds.specs.declared.deed.MapDeed.{MapDeed}
use Rattle.lane_worker.specs.declared.worker.Worker.{Worker}
use Rattle.lane_worker.specs.declared.stage.Stage.TheVariants as stage
use Rattle.lane_worker.specs.Stages.{open_in}
use Rattle.lane_worker.specs.Standing.{Stands, IsAsking, IsDue, HasEntries, not_entered, entered}
use Rattle.lane_worker.specs.Laws.{AcceptedIsAsking, MovedIsAsking, SteppedIsAsking, SteppedIsReady}
use Rattle.lane_worker.proofs.Mixing.{stands_in, due_in, stands_aborting}

pub stepped_ready : SteppedIsReady
stepped_ready w answer f h = record {
  stands = stands_in f (stepped answer f) w f.mine h.stands;
  phase = h.phase;
  no_call = h.no_call;
  entered = h.entered;
}

entries_in : (w : Worker) (c : Call MapDeed) (settled : List (Entry MapDeed)) (f g : WholeFace MapDeed) → g.mine ≡ f.mine → g.entered ≡ f.entered
    → HasEntries w c settled f → HasEntries w c settled g
entries_in w c settled f g mine same (not_entered m e) = not_entered (mine ∙ m) (same ∙ e)
entries_in w c settled f g mine same (entered e is lane number m on) = entered e is lane number (mine ∙ m) (same ∙ on)

pub stepped_asking : SteppedIsAsking
stepped_asking w answer f h = record {
  call = h.call;
  settled = h.settled;
  stands = stands_in f (stepped answer f) w h.settled h.stands;
  phase = h.phase;
  call_is = h.call_is;
  due = due_in f (stepped answer f) w h.call h.due;
  entries = entries_in w h.call h.settled f (stepped answer f) refl refl h.entries;
}

pub accepted : AcceptedIsAsking
accepted w c f h = record {
  call = c;
  settled = f.mine;
  stands = stands_in f (asked c f) w f.mine h.ready.stands;
  phase = refl;
  call_is = refl;
  due = due_in f (asked c f) w c h.due;
  entries = not_entered refl h.ready.entered;
}

-- ---- a move of the call in progress

some_same : {A : Type 0} (x y : A) → Some x ≡ Some y → x ≡ y
some_same x y e = cc

pub call_same : (w : Worker) (f : WholeFace MapDeed) (h : IsAsking w f) (c : Call MapDeed) → f.call ≡ Some c → h.call ≡ c
call_same w f h c e = some_same h.call c (sym h.call_is ∙ e)

-- the number of the entry of a commit
pub entry_number : (w : Worker) (mine : List (Entry MapDeed)) (f : WholeFace MapDeed) (n : ℕ) → Stands w mine f → w.stage ≡ stage.Choosing → f.face.begun ≡ n + 1 → n ≡ w.number
entry_number w mine f n h at is =
    let one : open_in w.stage ≡ 1 = ap open_in at in
    let begun = h.begun in
    omega (arith, one, begun, is)

entry_joins : (w : Worker) (c : Call MapDeed) (settled : List (Entry MapDeed)) (f : WholeFace MapDeed) (e : Entry MapDeed)
    → Stands w settled f → w.stage ≡ stage.Choosing → c ≡ call.Commit e.deed → IsEntryOf f e
    → HasEntries w c settled f → HasEntries w c settled (stepped Moved (entering e f))
entry_joins w c settled f e stands at is joins (not_entered m off) =
    entered e is (joins.lane ∙ stands.home.lane) (entry_number w settled f e.number stands at joins.number) (ap (λ xs. xs ++ e ∷ []) m) refl
entry_joins w c settled f e stands at is joins (entered d _ _ _ _ on) = absurd (let off = joins.new in let bad : true ≡ false = sym on ∙ off in cc)

abort_due : (w : Worker) (c : Call MapDeed) (f : WholeFace MapDeed) → takes_back (Some c) ≡ true → IsDue w c f → c ≡ call.Abort
abort_due w (call.Begin set) f e d = absurd (cc)
abort_due w (call.Read a) f e d = absurd (cc)
abort_due w (call.Write a v) f e d = absurd (cc)
abort_due w (call.Take s) f e d = absurd (cc)
abort_due w (call.Give block) f e d = absurd (cc)
abort_due w (call.Commit deed) f e d = absurd (cc)
abort_due w call.Abort f e d = refl
abort_due w call.Checkpoint f e d = absurd (cc)
abort_due w (call.Batch writes) f e d = absurd d
abort_due w call.Savepoint f e d = absurd (cc)
abort_due w (call.RollbackTo n) f e d = absurd d

pub moved : MovedIsAsking
moved w f g h (going_on next) = subst (IsAsking w) (sym next) (stepped_asking w Moved f h)
moved w f g h (entering_on e joins next) = subst (IsAsking w) (sym next) (record {
  call = h.call;
  settled = h.settled;
  stands = stands_in f (stepped Moved (entering e f)) w h.settled h.stands;
  phase = h.phase;
  call_is = h.call_is;
  due = due_in f (stepped Moved (entering e f)) w h.call h.due;
  entries = entry_joins w h.call h.settled f e h.stands at is joins h.entries;
})
  where
    is : h.call ≡ call.Commit e.deed
    is = call_same w f h (call.Commit e.deed) joins.call

    at : w.stage ≡ stage.Choosing
    at = (subst (λ (c : Call MapDeed). IsDue w c f) is h.due).stage_is
moved w f g h (writing_on before after x is next) = absurd (subst (λ (c : Call MapDeed). IsDue w c f) (call_same w f h (call.Batch (before ++ x ∷ after)) is) h.due)
moved w f g h (taking_back held back same next) = subst (IsAsking w) (sym next) (record {
  call = h.call;
  settled = h.settled;
  stands = stands_aborting f (record (stepped Moved f) { words = held }) w h.settled (due.how) (due.stage_is) h.stands;
  phase = h.phase;
  call_is = h.call_is;
  due = subst (λ (c : Call MapDeed). IsDue w c (record (stepped Moved f) { words = held })) (sym is) due;
  entries = entries_in w h.call h.settled f (record (stepped Moved f) { words = held }) refl refl h.entries;
})
  where
    is : h.call ≡ call.Abort
    is = abort_due w h.call f (ap takes_back (sym h.call_is) ∙ back) h.due

    due : IsDue w call.Abort f
    due = subst (λ (c : Call MapDeed). IsDue w c f) is h.due
