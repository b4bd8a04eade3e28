-- A command's change is made next.
use Rattle.std.proofs.Common.{◌≡◌, ◌≢◌, ⊎_elim, ℕ, ◌+◌, ◌*◌, ◌<◌, ◌≤◌, ◌==◌, true, false, nat_lt, List, [], ◌∷◌, ◌++◌, drop, Option, Some, None, sym, subst, ◌∙◌, ap, arith}
use Rattle.std.proofs.lemmas.Bool.Decides.{eqb_tells}
use Rattle.std.proofs.lemmas.Bool.{cases_lt}
use Rattle.persist_model.specs.Records.{IsAmong}
use Rattle.persist_model.specs.Chain.{HasNoRepeats}
use Rattle.persist_model.specs.Shape.{block}
use Rattle.persist_hash.proofs.Lists.{once_joined}
use Rattle.lane_traits.specs.Draft.{addresses}
use Rattle.lane_types.specs.Faces.{WholeFace}
use Rattle.lane_types.specs.Heaps.{block_address, owner_of_held}
use Rattle.region_layout.specs.Layout.{layout_shape}
use Rattle.region_layout.specs.FiniteMap.{FiniteMap}
use Rattle.region_layout.specs.Contents.{IsMapIn, IsMapOf}
use Rattle.region_layout.specs.HeapBlocks.{land_of}
use Rattle.rewind_script.specs.declared.script.Command.{Command}
use Rattle.map_deeds.specs.Maps.{Maps, after_transaction}
use Rattle.map_deeds.specs.Meanings.{commands_of, words_of, kind_at}
use Rattle.map_deeds.specs.declared.deed.MapDeed.{MapDeed}
use Rattle.lane_worker.specs.declared.worker.Worker.{Worker}
use Rattle.lane_worker.specs.declared.stage.Stage.TheVariants as stage
use Rattle.lane_worker.specs.declared.stage.Change.{Change}
use Rattle.lane_worker.specs.Shown.{heap_now, with_change}
use Rattle.lane_worker.specs.Stages.{IsMaking, IsHeldBlock, IsHeldWord, WouldHold, changes, open_in}
use Rattle.lane_worker.specs.Standing.{IsReady, phase_in}
use Rattle.lane_worker.proofs.Alike.{at_block, end_of}
use Rattle.lane_worker.proofs.Blocks.{AreBlocks}
use Rattle.lane_worker.proofs.Reading.{among_either}
use Rattle.lane_worker.proofs.Changing.{IsChanged, changed_map, other_map}
use Rattle.lane_worker.proofs.Placing.{IsHere, root_place}
use Rattle.lane_worker.proofs.Doing.{restaged}

held_of : (o : Option ℕ) (s : ℕ) → owner_of_held o ≡ s + 1 → o ≡ Some s
held_of None s e = absurd (omega (arith, e))
held_of (Some r) s e = ap Some (omega (arith, e))

-- the worker with a change to make
abbrev pub making : Worker → Change → Worker
making w change = record w { change = change; stage = stage.Making }

module _ (w : Worker) (c : Command) (f : WholeFace MapDeed) (ready : IsReady w f) (h : IsHere w c f) (s root : ℕ) (held : (b : ℕ) → IsAmong w.taken.items b → IsHeldBlock f s b)
    (low : s < f.base.structures) (place : root ≡ block (layout_shape w.layout) s) (change : Change) (m : FiniteMap)
    (of : IsChanged (kind_at w.kinds.now s) s root w.taken.items (heap_now f) change m) where
  blocks_held : AreBlocks (heap_now f) w.taken.items
  blocks_held b k = let p = held b k in (p.number, p.place)

  -- a block of the structure, by its owner word
  owner_there : (n : ℕ) → words_of (heap_now f) (block_address f.base.heap n) ≡ s + 1 → f.words.owner n ≡ Some s
  owner_there n e =
      held_of (f.words.owner n) s (sym (at_block f.base.heap f.words n)
      ∙ (end_of (nat_lt (block_address f.base.heap n) (f.base.heap.start + 16 * f.base.heap.blocks)) ((heap_now f).at (block_address f.base.heap n)) s e).1)

  word_held : (a : ℕ) → IsAmong (addresses change.writes) a → IsHeldWord f s a
  word_held a k =
      let d = of.within a k in
      record {
        number = d.own.0.number;
        index = d.index;
        place = d.place ∙ ap (λ b. b + d.index) d.own.0.place;
        above = d.above;
        below = d.below;
        owner = owner_there d.own.0.number (subst (λ b. words_of (heap_now f) b ≡ s + 1) d.own.0.place d.own.1);
      }

  given_held : (b : ℕ) → IsAmong of.gives b → IsHeldBlock f s b
  given_held b k =
      let g = of.given b k in
      let at = g.0.0.place in
      let owner = owner_there g.0.0.number (subst (λ x. words_of (heap_now f) x ≡ s + 1) at g.0.1) in
      record {
        number = g.0.0.number;
        place = at;
        owner = owner;
        no_root = ⊎_elim
            (λ (root_one : g.0.0.number < f.base.structures). absurd (let same = h.within.whole.roots g.0.0.number s owner root_one in of.not_root b k (omega (arith, at, same))))
            (λ (above : f.base.structures ≤ g.0.0.number). above)
            (cases_lt g.0.0.number f.base.structures);
      }

  block_held : (b : ℕ) → IsAmong change.gives b → IsHeldBlock f s b
  block_held b k = ⊎_elim (λ (g : IsAmong of.gives b). given_held b g) (λ (l : IsAmong of.left b). held b (of.fewer b l))
      (among_either of.gives of.left b (subst (λ xs. IsAmong xs b) of.all_gives k))

  gives_once : HasNoRepeats change.gives
  gives_once = subst (λ (xs : List ℕ). HasNoRepeats xs) (sym of.all_gives) (once_joined of.gives of.left of.given_once of.left_once (λ b g l. (of.given b g).1 l))

  taken_for : (b : ℕ) → IsAmong w.taken.items b → (heap_now f).at b ≡ s + 1
  taken_for b k = let p = held b k in subst (λ a. (heap_now f).at a ≡ s + 1) (sym p.place) (at_block f.base.heap f.words p.number ∙ ap owner_of_held p.owner)

  -- the maps with the change made
  holds_later : (maps : Maps) → maps s ≡ m → ((r : ℕ) → r ≢ s → maps r ≡ after_transaction h.maps (commands_of w.steps) r) → WouldHold w.kinds.now h.t.set change.writes change.gives f maps
  holds_later maps here there r picked = ⊎_elim
      (λ (same : ((r == s) ≡ true) × (r ≡ s)). subst (λ x. IsMapOf (kind_at w.kinds.now x) f.base.heap.start (words_of (with_change change.writes change.gives (heap_now f))) x (maps x)) (sym same.1) mine)
      (λ (other : ((r == s) ≡ false) × (r ≢ s)).
      subst (λ x. IsMapOf (kind_at w.kinds.now r) f.base.heap.start (words_of (with_change change.writes change.gives (heap_now f))) r x) (sym (there r other.1))
      (other_map (kind_at w.kinds.now s) s root w.taken.items (heap_now f) change m of blocks_held r other.1 taken_for (kind_at w.kinds.now r) (after_transaction h.maps (commands_of w.steps) r) (h.now r picked)))
      (eqb_tells r s)
    where
      mine : IsMapOf (kind_at w.kinds.now s) f.base.heap.start (words_of (with_change change.writes change.gives (heap_now f))) s (maps s)
      mine = subst (λ x. IsMapOf (kind_at w.kinds.now s) f.base.heap.start (words_of (with_change change.writes change.gives (heap_now f))) s x) (sym here)
          (subst (λ x. IsMapIn (kind_at w.kinds.now s) (land_of f.base.heap.start (words_of (with_change change.writes change.gives (heap_now f))) s) (words_of (with_change change.writes change.gives (heap_now f))) x m)
          (place ∙ root_place w c f ready h s) (changed_map (kind_at w.kinds.now s) s root w.taken.items (heap_now f) change m of blocks_held))

  is_making : changes c ≡ Some s → (maps : Maps) → maps ≡ after_transaction h.maps (commands_of w.steps ++ c ∷ []) → maps s ≡ m
      → ((r : ℕ) → r ≢ s → maps r ≡ after_transaction h.maps (commands_of w.steps) r) → IsMaking (making w change) f
  is_making is maps are here there = record {
    t = h.t;
    maps = h.maps;
    command = c;
    rest = h.rest;
    within = record { item = h.within.item; held = h.within.held; whole = h.within.whole; first = h.within.first; commands = h.within.commands; replies = h.within.replies };
    structure = s;
    of = is;
    now = subst (λ n. WouldHold w.kinds.now h.t.set (drop n change.writes) (drop change.given change.gives) f (after_transaction h.maps (commands_of w.steps ++ c ∷ []))) (sym of.written)
        (subst (λ n. WouldHold w.kinds.now h.t.set change.writes (drop n change.gives) f (after_transaction h.maps (commands_of w.steps ++ c ∷ []))) (sym of.nothing_given)
        (subst (λ (x : Maps). WouldHold w.kinds.now h.t.set change.writes change.gives f x) are (holds_later maps here there)));
    words = λ a k. word_held a (subst (λ n. IsAmong (addresses (drop n change.writes)) a) of.written k);
    blocks = λ b k. block_held b (subst (λ n. IsAmong (drop n change.gives) b) of.nothing_given k);
    once = subst (λ n. HasNoRepeats (drop n change.gives)) (sym of.nothing_given) gives_once;
  }

  pub making_ready : w.stage ≡ stage.Choosing → changes c ≡ Some s → (maps : Maps) → maps ≡ after_transaction h.maps (commands_of w.steps ++ c ∷ []) → maps s ≡ m
      → ((r : ℕ) → r ≢ s → maps r ≡ after_transaction h.maps (commands_of w.steps) r) → IsReady (making w change) f
  making_ready at is maps are here there = restaged w (making w change) f ready (ap phase_in at) (ap open_in at) (is_making is maps are here there)
