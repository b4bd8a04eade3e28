-- A call was refused for want of room.
use Rattle.std.proofs.Common.{◌≡◌, ℕ, true, Some, refl, subst, ◌∙◌, ap, arith}
use Rattle.std.specs.List.{slice_get}
use Rattle.lane_types.specs.declared.call.Call.{Call}
use Rattle.lane_types.specs.declared.call.Call.TheVariants as call
use Rattle.lane_types.specs.declared.call.Phase.TheVariants.{In}
use Rattle.lane_types.specs.declared.call.Refusal.{Refusal}
use Rattle.lane_types.specs.declared.call.Refusal.TheVariants as refusal
use Rattle.lane_types.specs.Faces.{WholeFace}
use Rattle.lane_types.specs.Asks.{Why, refused, is_logged, is_take}
use Rattle.map_deeds.specs.Printed.{Transaction}
use Rattle.map_deeds.specs.declared.deed.MapDeed.{MapDeed}
use Rattle.rewind_script.specs.declared.report.How.{How}
use Rattle.rewind_script.specs.declared.report.How.TheVariants as how
use Rattle.lane_worker.specs.declared.worker.Worker.{Worker}
use Rattle.lane_worker.specs.declared.stage.Stage.{Stage}
use Rattle.lane_worker.specs.declared.stage.Stage.TheVariants as stage
use Rattle.lane_worker.specs.Ledger.{MayEnd}
use Rattle.lane_worker.specs.Stages.{IsChoosing, IsMaking, IsAtStage, item_of, open_in}
use Rattle.lane_worker.specs.Standing.{IsReady, IsDue, phase_in}
use Rattle.lane_worker.specs.Acts.{Asks}
use Rattle.lane_worker.proofs.Mixing.{home_at}

record IsWithin (w : Worker) : Type 0 where
  pub t : Transaction
  pub item : slice_get w.items.now w.at ≡ Some (item_of t)
  pub is_open : open_in w.stage ≡ 1
  pub inside : phase_in w.stage ≡ In

making_within : (w : Worker) (f : WholeFace MapDeed) → w.stage ≡ stage.Making → IsAtStage w.stage w f → IsWithin w
making_within w f at h = let here : IsMaking w f = subst (λ (s : Stage). IsAtStage s w f) at h in record { t = here.t; item = here.within.item; is_open = ap open_in at; inside = ap phase_in at }

choosing_within : (w : Worker) (f : WholeFace MapDeed) → w.stage ≡ stage.Choosing → IsAtStage w.stage w f → IsWithin w
choosing_within w f at h = let here : IsChoosing w f = subst (λ (s : Stage). IsAtStage s w f) at h in record { t = here.t; item = here.within.item; is_open = ap open_in at; inside = ap phase_in at }

logged_within : (w : Worker) (c : Call MapDeed) (f : WholeFace MapDeed) → is_logged c ≡ true → IsDue w c f → IsAtStage w.stage w f → IsWithin w
logged_within w (call.Begin set) f on due h = absurd (cc)
logged_within w (call.Read a) f on due h = absurd (cc)
logged_within w (call.Write a v) f on due h = making_within w f due.stage_is h
logged_within w (call.Take s) f on due h = choosing_within w f due.stage_is h
logged_within w (call.Give block) f on due h = making_within w f due.stage_is h
logged_within w (call.Commit deed) f on due h = absurd (cc)
logged_within w call.Abort f on due h = absurd (cc)
logged_within w call.Checkpoint f on due h = absurd (cc)
logged_within w (call.Batch writes) f on due h = absurd due
logged_within w call.Savepoint f on due h = absurd (cc)
logged_within w (call.RollbackTo n) f on due h = absurd (cc)

take_logged : (c : Call MapDeed) → is_take c ≡ true → is_logged c ≡ true
take_logged (call.Begin set) on = absurd (cc)
take_logged (call.Read a) on = absurd (cc)
take_logged (call.Write a v) on = absurd (cc)
take_logged (call.Take s) on = refl
take_logged (call.Give block) on = absurd (cc)
take_logged (call.Commit deed) on = absurd (cc)
take_logged call.Abort on = absurd (cc)
take_logged call.Checkpoint on = absurd (cc)
take_logged (call.Batch writes) on = absurd (cc)
take_logged call.Savepoint on = absurd (cc)
take_logged (call.RollbackTo n) on = absurd (cc)

-- a refused call leaves the transaction to be aborted
aborts : (w : Worker) (c : Call MapDeed) (f : WholeFace MapDeed) (r : Refusal) (fate : How) → Asks w c f → is_logged c ≡ true → ((t : Transaction) → MayEnd t (Some fate))
    → IsReady (record w { stage = stage.Aborting fate }) (refused c r f)
aborts w c f r fate h on may =
    let stands = h.ready.stands in
    let within = logged_within w c f on h.due stands.staged in
    let home = home_at f (refused c r f) w stands.home in
    let one = within.is_open in
    let begun = stands.begun in
    record {
      stands = record {
        home = record { lane = home.lane; text = home.text; sorts = home.sorts; structures = home.structures; roots = home.roots; heap = home.heap; blocks = home.blocks };
        place = stands.place;
        ledger = stands.ledger;
        begun = omega (arith, one, begun);
        room = stands.room;
        staged = record { t = within.t; item = within.item; may = may within.t };
      };
      phase = h.ready.phase ∙ within.inside;
      no_call = h.ready.no_call;
      entered = h.ready.entered;
    }

pub full_ready : (w : Worker) (c : Call MapDeed) (f : WholeFace MapDeed) (room need : ℕ) → Asks w c f → Why (refusal.LogFull room need) f c
    → IsReady (record w { stage = stage.Aborting (how.Full room need) }) (refused c (refusal.LogFull room need) f)
full_ready w c f room need h why = aborts w c f (refusal.LogFull room need) (how.Full room need) h why.logged (λ t. why.short)

pub heap_ready : (w : Worker) (c : Call MapDeed) (f : WholeFace MapDeed) → Asks w c f → Why refusal.HeapFull f c
    → IsReady (record w { stage = stage.Aborting how.Heap }) (refused c refusal.HeapFull f)
heap_ready w c f h why = aborts w c f refusal.HeapFull how.Heap h (take_logged c why.takes) (λ t. tt)
