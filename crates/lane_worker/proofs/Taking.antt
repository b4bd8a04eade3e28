-- A take was answered.
use Rattle.std.proofs.Common.{◌≡◌, ◌≢◌, ◌⊎◌, inl, inr, ⊎_elim, ℕ, ◌+◌, ◌*◌, ◌<◌, ◌≤◌, true, List, [], ◌∷◌, ◌++◌, Some, None, refl, sym, subst, ◌∙◌, ap, arith}
use Rattle.std.proofs.lemmas.Bool.Decides.{eqb_tells}
use Rattle.persist_model.specs.Records.{IsAmong}
use Rattle.persist_model.specs.Chain.{HasNoRepeats}
use Rattle.lane_traits.proofs.Among.{among_last, once_more}
use Rattle.lane_types.specs.declared.call.Call.{Call}
use Rattle.lane_types.specs.declared.call.Call.TheVariants as call
use Rattle.lane_types.specs.declared.call.Reply.TheVariants as reply
use Rattle.lane_types.specs.Faces.{WholeFace, answered, with_words}
use Rattle.lane_types.specs.Asks.{has_word, is_there}
use Rattle.lane_types.specs.Heaps.{block_address, has_bit}
use Rattle.lane_types.specs.LaneSteps.{TakeStep, with_block}
use Rattle.persist_model.specs.Shape.{block}
use Rattle.region_layout.specs.Layout.{layout_shape}
use Rattle.map_deeds.specs.Maps.{after_transaction}
use Rattle.map_deeds.specs.Meanings.{commands_of}
use Rattle.map_deeds.specs.declared.deed.MapDeed.{MapDeed}
use Rattle.lane_worker.specs.declared.worker.Worker.{Worker}
use Rattle.lane_worker.specs.declared.stage.Stage.TheVariants as stage
use Rattle.lane_worker.specs.Ledger.{IsLedger}
use Rattle.lane_worker.specs.Shown.{AreWhole}
use Rattle.lane_worker.specs.Stages.{IsHeldBlock, WouldHold, IsChoosing}
use Rattle.lane_worker.specs.Standing.{IsReady, IsAsking, IsDue, TakeIsDue, phase_in}
use Rattle.lane_worker.proofs.Keeping.{call_same}
use Rattle.lane_worker.proofs.Ending.{plain_entries}
use Rattle.lane_worker.proofs.Writing.{at_stage}
use Rattle.lane_worker.proofs.Alike.{hold_beside}
use Rattle.lane_worker.proofs.Blocks.{AreBlocks, same_number, taken_owner, taken_own, taken_word, taken_has, beside_taken}

abbrev pub taken_face : ℕ → ℕ → (ℕ → ℕ) → WholeFace MapDeed → WholeFace MapDeed
taken_face s one values f = with_words (with_block f.base.heap s one values f.words) (answered (reply.Block one) f)

module _ (f : WholeFace MapDeed) (s one : ℕ) (values : ℕ → ℕ) (inside : one < f.base.heap.blocks) where
  owner_of_taken : (n k : ℕ) → (taken_face s one values f).words.owner n ≡ Some k → ((n ≡ one) × (k ≡ s)) ⊎ ((n ≢ one) × (f.words.owner n ≡ Some k))
  owner_of_taken n k e = elim (eqb_tells n one) [
    | inl same ↦ inl (same.1, (let own = taken_own f.base.heap s one values f.words in let here = ap (λ j. (taken_face s one values f).words.owner j) same.1 in let both : Some k ≡ Some s = sym e ∙ here ∙ own in cc))
    | inr ne ↦ inr (ne.1, sym (taken_owner f.base.heap s one values f.words n ne.1) ∙ e)
  ]

  whole_taken : has_bit f.face.held s ≡ true → f.base.structures ≤ one → AreWhole f → AreWhole (taken_face s one values f)
  whole_taken held no_root h = record {
    inside = λ n k e. ⊎_elim (λ new. (let is = new.0 in omega (arith, is, inside))) (λ old. h.inside n k old.1) (owner_of_taken n k e);
    held = λ n k e. ⊎_elim (λ new. ap (has_bit f.face.held) new.1 ∙ held) (λ old. h.held n k old.1) (owner_of_taken n k e);
    words = λ n k i e some small. ⊎_elim
        (λ new. ap (λ j. has_word (with_block f.base.heap s one values f.words) (block_address f.base.heap j + i)) new.0 ∙ taken_has f.base.heap s one values f.words inside i some small)
        (λ old. ap is_there (taken_word f.base.heap s one values f.words n i old.0 small) ∙ h.words n k i old.1 some small)
        (owner_of_taken n k e);
    roots = λ n k e low. ⊎_elim (λ new. absurd (let is = new.0 in omega (arith, is, low, no_root))) (λ old. h.roots n k old.1 low) (owner_of_taken n k e);
  }

  block_taken : f.words.owner one ≡ None → (k b : ℕ) → IsHeldBlock f k b → IsHeldBlock (taken_face s one values f) k b
  block_taken new k b h = record {
    number = h.number;
    place = h.place;
    owner = taken_owner f.base.heap s one values f.words h.number (λ e. (let gone = sym (ap f.words.owner e) ∙ h.owner in let bad : None ≡ Some k = sym new ∙ gone in cc)) ∙ h.owner;
    no_root = h.no_root;
  }

no_commit_take : (s : ℕ) (deed : MapDeed) → call.Take s ≡ call.Commit deed → ⊥
no_commit_take s deed e = cc

-- the blocks that were taken before
are_blocks : (w : Worker) (f : WholeFace MapDeed) → IsChoosing w f → AreBlocks f.base.heap w.taken.items
are_blocks w f h b m = let k = h.taken b m in (k.2.number, k.2.place)

not_taken : (w : Worker) (f : WholeFace MapDeed) (one : ℕ) → IsChoosing w f → f.words.owner one ≡ None → IsAmong w.taken.items (block_address f.base.heap one) → ⊥
not_taken w f one h new m =
    let k = h.taken (block_address f.base.heap one) m in
    let same = same_number f.base.heap one k.2.number k.2.place in
    let own = ap f.words.owner same ∙ k.2.owner in
    let bad : None ≡ Some k.0 = sym new ∙ own in cc

choosing_took : (w v : Worker) (f : WholeFace MapDeed) (s one a : ℕ) (values : ℕ → ℕ) → a ≡ block_address f.base.heap one → v.taken.items ≡ w.taken.items ++ a ∷ []
    → one < f.base.heap.blocks → f.words.owner one ≡ None → f.base.structures ≤ one → TakeIsDue w s f → IsChoosing (record w { taken = v.taken }) (taken_face s one values f)
choosing_took w v f s one a values place items inside new no_root due = record {
  t = h.t;
  maps = h.maps;
  rest = h.rest;
  within = record { item = h.within.item; held = h.within.held; whole = whole_taken f s one values inside due.held no_root h.within.whole; first = h.within.first; commands = h.within.commands; replies = h.within.replies };
  now = subst (λ (xs : List ℕ). WouldHold w.kinds.now h.t.set [] xs (taken_face s one values f) (after_transaction h.maps (commands_of w.steps))) (sym all)
      (hold_beside f.base.heap one f.words (with_block f.base.heap s one values f.words) w.taken.items (w.taken.items ++ block_address f.base.heap one ∷ [])
      (beside_taken f.base.heap s one values f.words new w.taken.items (are_blocks w f h)) (has_bit h.t.set) w.kinds.now (after_transaction h.maps (commands_of w.steps)) h.now);
  taken = λ b m. ⊎_elim
      (λ old. (let k = h.taken b old in (k.0, k.1, block_taken f s one values inside new k.0 b k.2)))
      (λ e. (s, due.put, record { number = one; place = e; owner = taken_own f.base.heap s one values f.words; no_root = no_root }))
      (among_last w.taken.items (block_address f.base.heap one) b (subst (λ (xs : List ℕ). IsAmong xs b) all m));
  once = subst (λ (xs : List ℕ). HasNoRepeats xs) (sym all) (once_more w.taken.items (block_address f.base.heap one) h.once (not_taken w f one h new));
}
  where
    h : IsChoosing w f
    h = due.here

    all : v.taken.items ≡ w.taken.items ++ block_address f.base.heap one ∷ []
    all = items ∙ ap (λ b. w.taken.items ++ b ∷ []) place

pub taken_ready : (w v : Worker) (f g : WholeFace MapDeed) (one a : ℕ) → IsAsking w f → TakeStep one f g → f.base.structures ≤ one → a ≡ block_address f.base.heap one
    → v.taken.items ≡ w.taken.items ++ a ∷ [] → IsReady (record w { taken = v.taken }) g
taken_ready w v f g one a h row no_root place items =
    let s = row.structure in
    let same = call_same w f h (call.Take s) row.call in
    let due : TakeIsDue w s f = subst (λ (c : Call MapDeed). IsDue w c f) same h.due in
    let plain = plain_entries w f h (call.Take s) same (no_commit_take s) in
    let home = h.stands.home in
    subst (IsReady (record w { taken = v.taken })) (sym row.next) (record {
      stands = record {
        home = record { lane = home.lane; text = home.text; sorts = home.sorts; structures = home.structures; roots = home.roots; heap = home.heap; blocks = home.blocks };
        place = h.stands.place;
        ledger = subst (IsLedger w.items.now w.at w.lane w.number w.fates.items) (sym plain.0) h.stands.ledger;
        begun = h.stands.begun;
        room = h.stands.room;
        staged = at_stage w (record w { taken = v.taken }) (taken_face s one row.values f) stage.Choosing due.stage_is (choosing_took w v f s one a row.values place items row.inside row.new no_root due);
      };
      phase = sym (ap phase_in due.stage_is);
      no_call = refl;
      entered = refl;
    })

-- where the block stands
pub block_place : (w : Worker) (f g : WholeFace MapDeed) (one : ℕ) → IsAsking w f → TakeStep one f g → g.base.structures ≤ one
    → (f.base.structures ≤ one) × (block (layout_shape w.layout) one ≡ block_address f.base.heap one)
block_place w f g one h row no_root = (
  subst (λ (x : WholeFace MapDeed). x.base.structures ≤ one) row.next no_root,
  ap (λ k. k + 16 * one) (sym h.stands.home.heap),
)
