-- A give was answered.
use Rattle.std.proofs.Common.{◌≡◌, ◌≢◌, inl, inr, ℕ, ◌+◌, ◌<◌, List, [], ◌∷◌, length, drop, Some, None, refl, sym, subst, ◌∙◌, ap}
use Rattle.std.proofs.Math.ListN.{drop_of_length-le}
use Rattle.std.proofs.lemmas.Option.{slice_get_within}
use Rattle.std.proofs.lemmas.Bool.Decides.{eqb_tells}
use Rattle.persist_model.specs.Records.{IsAmong}
use Rattle.persist_model.specs.Chain.{HasNoRepeats}
use Rattle.lane_traits.specs.Draft.{addresses}
use Rattle.lane_traits.specs.declared.draft.WordWrite.{WordWrite}
use Rattle.lane_traits.proofs.Among.{of_absent}
use Rattle.lane_types.specs.declared.call.Call.{Call}
use Rattle.lane_types.specs.declared.call.Call.TheVariants as call
use Rattle.lane_types.specs.declared.call.Reply.TheVariants as reply
use Rattle.lane_types.specs.Faces.{WholeFace, answered, with_words}
use Rattle.lane_types.specs.Asks.{is_there}
use Rattle.lane_types.specs.Heaps.{block_address, has_bit}
use Rattle.lane_types.specs.LaneSteps.{GiveStep, without_block}
use Rattle.map_deeds.specs.declared.deed.MapDeed.{MapDeed}
use Rattle.lane_worker.specs.declared.worker.Worker.{Worker}
use Rattle.lane_worker.specs.declared.stage.Stage.TheVariants as stage
use Rattle.lane_worker.specs.Ledger.{IsLedger}
use Rattle.lane_worker.specs.Shown.{AreWhole}
use Rattle.lane_worker.specs.Stages.{IsHeldBlock, WouldHold, IsMaking}
use Rattle.lane_worker.specs.Standing.{IsReady, IsAsking, IsDue, GiveIsDue, phase_in}
use Rattle.lane_worker.proofs.Keeping.{call_same}
use Rattle.lane_worker.proofs.Ending.{plain_entries}
use Rattle.lane_worker.proofs.Writing.{at_stage, from_stage, maps_behind}
use Rattle.lane_worker.proofs.Lists.{drop_here}
use Rattle.lane_worker.proofs.Alike.{hold_beside}
use Rattle.lane_worker.proofs.Blocks.{AreBlocks, given_owner, given_gone, given_word, beside_given}

abbrev pub given_face : ℕ → WholeFace MapDeed → WholeFace MapDeed
given_face one f = with_words (without_block f.base.heap one f.words) (answered reply.Given f)

-- a block that is held after the give isn't the given one
pub other_block : (f : WholeFace MapDeed) (one n s : ℕ) → (given_face one f).words.owner n ≡ Some s → (n ≢ one) × (f.words.owner n ≡ Some s)
other_block f one n s e = elim (eqb_tells n one) [
  | inl same ↦ absurd (let gone = given_gone f.base.heap one f.words in let here = ap (λ k. (given_face one f).words.owner k) same.1 in let bad : None ≡ Some s = sym gone ∙ sym here ∙ e in cc)
  | inr ne ↦ (ne.1, sym (given_owner f.base.heap one f.words n ne.1) ∙ e)
]

module _ (f : WholeFace MapDeed) (one : ℕ) where
  whole_given : AreWhole f → AreWhole (given_face one f)
  whole_given h = record {
    inside = λ n s e. h.inside n s (other_block f one n s e).1;
    held = λ n s e. h.held n s (other_block f one n s e).1;
    words = λ n s i e some small. (let k = other_block f one n s e in ap is_there (given_word f.base.heap one f.words n i k.0 small) ∙ h.words n s i k.1 some small);
    roots = λ n s e. h.roots n s (other_block f one n s e).1;
  }

  block_given : (s b : ℕ) → b ≢ block_address f.base.heap one → IsHeldBlock f s b → IsHeldBlock (given_face one f) s b
  block_given s b apart h = record {
    number = h.number;
    place = h.place;
    owner = given_owner f.base.heap one f.words h.number (λ e. apart (h.place ∙ ap (block_address f.base.heap) e)) ∙ h.owner;
    no_root = h.no_root;
  }

abbrev pub gave : Worker → Worker
gave w = record w { change = record w.change { given = w.change.given + 1 } }

making_gave : (w : Worker) (f : WholeFace MapDeed) (one : ℕ) → GiveIsDue w one f → IsMaking w f → IsMaking (gave w) (given_face one f)
making_gave w f one due h = record {
  t = h.t;
  maps = h.maps;
  command = h.command;
  rest = h.rest;
  within = record { item = h.within.item; held = h.within.held; whole = whole_given f one h.within.whole; first = h.within.first; commands = h.within.commands; replies = h.within.replies };
  structure = h.structure;
  of = h.of;
  now = subst (λ (xs : List WordWrite). WouldHold w.kinds.now h.t.set xs (drop (w.change.given + 1) w.change.gives) (given_face one f) (maps_behind w f h)) (sym all_written)
      (hold_beside f.base.heap one f.words (without_block f.base.heap one f.words) (block_address f.base.heap one ∷ drop (w.change.given + 1) w.change.gives) (drop (w.change.given + 1) w.change.gives)
      (beside_given f.base.heap one f.words (drop (w.change.given + 1) w.change.gives) blocks) (has_bit h.t.set) w.kinds.now (maps_behind w f h)
      (subst (λ (xs : List ℕ). WouldHold w.kinds.now h.t.set [] xs f (maps_behind w f h)) here
      (subst (λ (xs : List WordWrite). WouldHold w.kinds.now h.t.set xs (drop w.change.given w.change.gives) f (maps_behind w f h)) all_written h.now)));
  words = λ a m. absurd (subst (λ (xs : List WordWrite). IsAmong (addresses xs) a) all_written m);
  blocks = λ b m. block_given f one h.structure b (λ e. of_absent (drop (w.change.given + 1) w.change.gives) (block_address f.base.heap one) once.0 (subst (IsAmong (drop (w.change.given + 1) w.change.gives)) e m))
      (h.blocks b (subst (λ (xs : List ℕ). IsAmong xs b) (sym here) (inr m)));
  once = once.1;
}
  where
    all_written : drop w.change.written w.change.writes ≡ []
    all_written = drop_of_length-le w.change.writes due.written

    here : drop w.change.given w.change.gives ≡ block_address f.base.heap one ∷ drop (w.change.given + 1) w.change.gives
    here = drop_here w.change.gives w.change.given (block_address f.base.heap one) due.next

    once : HasNoRepeats (block_address f.base.heap one ∷ drop (w.change.given + 1) w.change.gives)
    once = subst (λ (xs : List ℕ). HasNoRepeats xs) here h.once

    blocks : AreBlocks f.base.heap (block_address f.base.heap one ∷ drop (w.change.given + 1) w.change.gives)
    blocks b m = let k = h.blocks b (subst (λ (xs : List ℕ). IsAmong xs b) (sym here) m) in (k.number, k.place)

no_commit_give : (b : ℕ) (deed : MapDeed) → call.Give b ≡ call.Commit deed → ⊥
no_commit_give b deed e = cc

pub given_ready : (w : Worker) (f g : WholeFace MapDeed) → IsAsking w f → GiveStep f g → IsReady (gave w) g
given_ready w f g h row =
    let one = row.block in
    let same = call_same w f h (call.Give one) row.call in
    let due : GiveIsDue w one f = subst (λ (c : Call MapDeed). IsDue w c f) same h.due in
    let plain = plain_entries w f h (call.Give one) same (no_commit_give one) in
    let home = h.stands.home in
    subst (IsReady (gave w)) (sym row.next) (record {
      stands = record {
        home = record { lane = home.lane; text = home.text; sorts = home.sorts; structures = home.structures; roots = home.roots; heap = home.heap; blocks = home.blocks };
        place = h.stands.place;
        ledger = subst (IsLedger w.items.now w.at w.lane w.number w.fates.items) (sym plain.0) h.stands.ledger;
        begun = h.stands.begun;
        room = h.stands.room;
        staged = at_stage w (gave w) (given_face one f) stage.Making due.stage_is (making_gave w f one due (from_stage w w f stage.Making due.stage_is h.stands.staged));
      };
      phase = sym (ap phase_in due.stage_is);
      no_call = refl;
      entered = refl;
    })

pub give_is_next : (w : Worker) (f g : WholeFace MapDeed) → IsAsking w f → GiveStep f g → w.change.given < length w.change.gives
give_is_next w f g h row =
    let due : GiveIsDue w row.block f = subst (λ (c : Call MapDeed). IsDue w c f) (call_same w f h (call.Give row.block) row.call) h.due in
    slice_get_within w.change.gives w.change.given (block_address f.base.heap row.block) due.next
