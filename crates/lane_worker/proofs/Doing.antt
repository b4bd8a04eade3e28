-- A command was done, and the worker is at the next one.
use Rattle.std.proofs.Common.{◌≡◌, ℕ, ◌+◌, ◌<◌, true, List, [], ◌∷◌, ◌++◌, Some, refl, sym, subst, ◌∙◌, ap}
use Rattle.std.proofs.lemmas.List.{append_assoc}
use Rattle.std.specs.Prelude.{vec_len, vec_capacity}
use Rattle.persist_model.specs.Records.{IsAmong}
use Rattle.persist_model.specs.Chain.{HasNoRepeats}
use Rattle.lane_types.specs.declared.call.Call.TheVariants as call
use Rattle.lane_types.specs.declared.call.Phase.TheVariants.{In}
use Rattle.lane_types.specs.Faces.{WholeFace}
use Rattle.lane_types.specs.Heaps.{has_bit}
use Rattle.rewind_script.specs.declared.script.Command.{Command}
use Rattle.map_deeds.specs.Maps.{Maps, after_transaction, reply, replies_in}
use Rattle.map_deeds.specs.Meanings.{commands_of, gots_of}
use Rattle.map_deeds.specs.Printed.{Transaction}
use Rattle.map_deeds.specs.declared.deed.Done.{Done}
use Rattle.map_deeds.specs.declared.deed.MapDeed.{MapDeed}
use Rattle.lane_worker.specs.declared.worker.Worker.{Worker}
use Rattle.lane_worker.specs.declared.stage.Stage.{Stage}
use Rattle.lane_worker.specs.declared.stage.Stage.TheVariants as stage
use Rattle.lane_worker.specs.Stages.{IsAtStage, IsChoosing, IsInside, WouldHold, open_in, takes_for}
use Rattle.lane_worker.specs.Standing.{IsReady, phase_in}
use Rattle.lane_worker.specs.Acts.{Asks}
use Rattle.lane_worker.specs.Commands.{IsBehind}
use Rattle.lane_worker.proofs.Commanding.{done_more, gots_more, reads_more}
use Rattle.lane_worker.proofs.Placing.{IsHere}

-- the worker with what another has of its transaction
abbrev pub went : Worker → Worker → Worker
went w v = record w { stage = v.stage; steps = v.steps; taken = v.taken; change = v.change }

-- a worker is ready at another stage of its transaction
pub restaged : (w v : Worker) (f : WholeFace MapDeed) → IsReady w f → phase_in w.stage ≡ phase_in v.stage → open_in w.stage ≡ open_in v.stage
    → IsAtStage v.stage (went w v) f → IsReady (went w v) f
restaged w v f h phase opened staged =
    let home = h.stands.home in
    record {
      stands = record {
        home = record { lane = home.lane; text = home.text; sorts = home.sorts; structures = home.structures; roots = home.roots; heap = home.heap; blocks = home.blocks };
        place = h.stands.place;
        ledger = h.stands.ledger;
        begun = h.stands.begun ∙ ap (λ k. w.number + k) opened;
        room = h.stands.room;
        staged = staged;
      };
      phase = h.phase ∙ phase;
      no_call = h.no_call;
      entered = h.entered;
    }

pub inside_again : (w v : Worker) (t : Transaction) (f : WholeFace MapDeed) (maps : Maps) (rest : List Command) → v.steps ≡ w.steps → IsInside w t f maps rest → IsInside (went w v) t f maps rest
inside_again w v t f maps rest same h = record {
  item = h.item;
  held = h.held;
  whole = h.whole;
  first = h.first;
  commands = h.commands ∙ ap (λ (xs : List Done). commands_of xs ++ rest) (sym same);
  replies = ap gots_of same ∙ h.replies ∙ ap (λ (xs : List Done). replies_in maps (commands_of xs)) (sym same);
}

-- ---- a command was done

module _ (w v : Worker) (c : Command) (d : Done) (f : WholeFace MapDeed) (t : Transaction) (maps : Maps) (rest : List Command) (h : IsInside w t f maps (c ∷ rest))
    (is : d.command ≡ c) (steps : v.steps ≡ w.steps ++ d ∷ []) where
  done_is : commands_of v.steps ≡ commands_of w.steps ++ c ∷ []
  done_is = ap commands_of steps ∙ done_more w.steps d ∙ ap (λ (x : Command). commands_of w.steps ++ x ∷ []) is

  inside_behind : d.got ≡ reply (after_transaction maps (commands_of w.steps)) c → IsInside (went w v) t f maps rest
  inside_behind got = record {
    item = h.item;
    held = h.held;
    whole = h.whole;
    first = h.first;
    commands = h.commands ∙ sym (append_assoc (commands_of w.steps) (c ∷ []) rest) ∙ ap (λ xs. xs ++ rest) (sym done_is);
    replies = ap gots_of steps ∙ gots_more w.steps d ∙ both ∙ sym (reads_more maps (commands_of w.steps) c) ∙ ap (replies_in maps) (sym done_is);
  }
    where
      both : gots_of w.steps ++ d.got ∷ [] ≡ replies_in maps (commands_of w.steps) ++ reply (after_transaction maps (commands_of w.steps)) c ∷ []
      both = λ i. h.replies i ++ got i ∷ []

  pub behind : IsReady w f → phase_in w.stage ≡ In → open_in w.stage ≡ 1 → d.got ≡ reply (after_transaction maps (commands_of w.steps)) c
      → WouldHold w.kinds.now t.set [] [] f (after_transaction maps (commands_of w.steps ++ c ∷ [])) → v.taken.items ≡ [] → v.stage ≡ stage.Choosing → IsBehind (went w v) f
  behind ready phase one got now none at = record {
    ready = restaged w v f ready (phase ∙ sym (ap phase_in at)) (one ∙ sym (ap open_in at)) (subst (λ (s : Stage). IsAtStage s (went w v) f) (sym at) choosing);
    at = at;
  }
    where
      choosing : IsChoosing (went w v) f
      choosing = record {
        t = t;
        maps = maps;
        rest = rest;
        within = inside_behind got;
        now = subst (λ xs. WouldHold w.kinds.now t.set [] xs f (after_transaction maps (commands_of v.steps))) (sym none)
            (subst (λ cs. WouldHold w.kinds.now t.set [] [] f (after_transaction maps cs)) (sym done_is) now);
        taken = λ b m. absurd (subst (λ xs. IsAmong xs b) none m);
        once = subst (λ (xs : List ℕ). HasNoRepeats xs) (sym none) tt;
      }

-- ---- a block is taken first

module _ (w v : Worker) (c : Command) (f : WholeFace MapDeed) (ready : IsReady w f) (at : w.stage ≡ stage.Choosing) (h : IsHere w c f) (items : v.taken.items ≡ w.taken.items) where
  choosing_with : IsChoosing (record w { taken = v.taken }) f
  choosing_with = record {
    t = h.t;
    maps = h.maps;
    rest = c ∷ h.rest;
    within = record { item = h.within.item; held = h.within.held; whole = h.within.whole; first = h.within.first; commands = h.within.commands; replies = h.within.replies };
    now = subst (λ xs. WouldHold w.kinds.now h.t.set [] xs f (after_transaction h.maps (commands_of w.steps))) (sym items) h.now;
    taken = λ b m. h.taken b (subst (λ xs. IsAmong xs b) items m);
    once = subst (λ (xs : List ℕ). HasNoRepeats xs) (sym items) h.once;
  }

  pub ready_with : IsReady (record w { taken = v.taken }) f
  ready_with = restaged w (record w { taken = v.taken }) f ready refl refl (subst (λ (s : Stage). IsAtStage s (record w { taken = v.taken }) f) (sym at) choosing_with)

  pub take_asks : (s : ℕ) → takes_for (c ∷ h.rest) ≡ Some s → has_bit h.t.set s ≡ true → s < f.base.structures → vec_len v.taken < vec_capacity v.taken
      → Asks (record w { taken = v.taken }) (call.Take s) f
  unfolding choosing_with
  take_asks s put held low room = record {
    ready = ready_with;
    due = record { stage_is = at; here = choosing_with; put = put; held = holds; room = room };
    fits = record { phase = ready.phase ∙ ap phase_in at; held = holds };
    may = low;
  }
    where
      holds : has_bit f.face.held s ≡ true
      holds = ap (λ k. has_bit k s) h.within.held ∙ held
