-- A worker at a command, and what the lane's words hold for it.
use Rattle.std.proofs.Common.{◌≡◌, ◌⊎◌, inl, ℕ, zero, suc, ◌+◌, ◌*◌, ◌^◌, ◌<◌, ◌≤◌, Bool, true, ◌||◌, if◌then◌else◌, ◌==◌, List, [], ◌∷◌, ◌++◌, length, Some, None, refl, sym, subst, ◌∙◌, ap, arith, lt-ltb}
use Rattle.std.specs.Prelude.{All, IsTrue}
use Rattle.std.specs.List.{slice_get, slice_index_or}
use Rattle.std.proofs.lemmas.Option.{slice_get_within, get_or_from_slice_get}
use Rattle.std.proofs.lemmas.Bool.Decides.{nat_tests}
use Rattle.persist_model.specs.Records.{IsAmong}
use Rattle.persist_model.specs.Chain.{HasNoRepeats}
use Rattle.persist_model.specs.Shape.{block}
use Rattle.lane_traits.specs.Space.{Space, IsOwn, IsDataWordOf}
use Rattle.lane_traits.specs.Draft.{drafted, of_structure, AreSetAside}
use Rattle.lane_types.specs.Faces.{WholeFace}
use Rattle.lane_types.specs.Heaps.{has_bit, block_address, owner_of_held}
use Rattle.region_layout.specs.declared.layout.Kind.{Kind}
use Rattle.region_layout.specs.declared.layout.Policy.{Policy}
use Rattle.region_layout.specs.declared.layout.Policy.TheVariants.{Force, NoForce}
use Rattle.region_layout.specs.declared.layout.Layout.{Layout}
use Rattle.region_layout.specs.Layout.{layout_shape, policy_number, IsAllowed}
use Rattle.region_layout.specs.HeapBlocks.{root_of}
use Rattle.region_layout.proofs.Places.{sizes_bounded}
use Rattle.rewind_script.specs.declared.script.Command.{Command}
use Rattle.rewind_script.specs.Limits.{IsItem, Fits, AllFit}
use Rattle.map_deeds.specs.Maps.{Maps, after_transaction}
use Rattle.map_deeds.specs.Meanings.{commands_of, words_of, kind_at}
use Rattle.map_deeds.specs.Printed.{Transaction}
use Rattle.map_deeds.specs.declared.deed.MapDeed.{MapDeed}
use Rattle.lane_worker.specs.declared.worker.Worker.{Worker}
use Rattle.lane_worker.specs.declared.stage.Stage.{Stage}
use Rattle.lane_worker.specs.declared.stage.Stage.TheVariants as stage
use Rattle.lane_worker.specs.Texts.{IsWorked, IsWorkedItem}
use Rattle.lane_worker.specs.Shown.{heap_now, shown, Shows}
use Rattle.lane_worker.specs.Stages.{IsAtStage, IsChoosing, IsInside, IsHeldBlock, WouldHold, item_of, takes_for}
use Rattle.lane_worker.specs.Standing.{IsReady}
use Rattle.lane_worker.specs.Drafts.{HoldsOf}
use Rattle.lane_worker.specs.Commands.{command_at}
use Rattle.lane_worker.proofs.Alike.{at_block}
use Rattle.lane_worker.proofs.Blocks.{AreBlocks}
use Rattle.lane_worker.proofs.Reading.{drafted_map}
use Rattle.lane_worker.proofs.Commanding.{command_is, first_left, fits_there}

-- what a worker has done, and what is left, its command first
pub record IsHere (w : Worker) (c : Command) (f : WholeFace MapDeed) : Type 0 where
  pub t : Transaction
  pub maps : Maps
  pub rest : List Command
  pub within : IsInside w t f maps (c ∷ rest)
  pub now : WouldHold w.kinds.now t.set [] w.taken.items f (after_transaction maps (commands_of w.steps))
  pub taken : (b : ℕ) → IsAmong w.taken.items b → (s : ℕ) × (takes_for (c ∷ rest) ≡ Some s) × IsHeldBlock f s b
  pub once : HasNoRepeats w.taken.items

pub choosing_here : (w : Worker) (f : WholeFace MapDeed) → IsReady w f → w.stage ≡ stage.Choosing → IsChoosing w f
choosing_here w f h at = subst (λ (s : Stage). IsAtStage s w f) at h.stands.staged

pub here_of : (w : Worker) (c : Command) (f : WholeFace MapDeed) → IsReady w f → w.stage ≡ stage.Choosing → command_at w ≡ Some c → IsHere w c f
here_of w c f h at is =
    let k = choosing_here w f h at in
    let left = first_left w.steps k.rest c (command_is w k.t f k.maps k.rest (Some c) k.within is) in
    record {
      t = k.t;
      maps = k.maps;
      rest = left.0;
      within = subst (λ (xs : List Command). IsInside w k.t f k.maps xs) left.1 k.within;
      now = k.now;
      taken = λ b m. (let p = k.taken b m in (p.0, ap takes_for (sym left.1) ∙ p.1, p.2));
      once = k.once;
    }

-- ---- the text

all_get : {X : Type 0} (P : X → Type 0) (xs : List X) (i : ℕ) (x : X) → All P xs → slice_get xs i ≡ Some x → P x
all_get P xs i x h e = subst P (get_or_from_slice_get xs i x x e) (h i x (slice_get_within xs i x e))

pub at_seam : (xs : List Command) (c : Command) (ys : List Command) → slice_get (xs ++ c ∷ ys) (length xs) ≡ Some c
at_seam [] c ys = refl
at_seam (x ∷ xs) c ys = at_seam xs c ys

module _ (w : Worker) (c : Command) (f : WholeFace MapDeed) (ready : IsReady w f) (h : IsHere w c f) where
  abbrev fitting : IsItem w.kinds.now (item_of h.t)
  fitting = all_get (IsItem w.kinds.now) w.items.now w.at (item_of h.t) ready.stands.home.text.fit h.within.item

  pub fits_here : (n : ℕ) × Fits w.kinds.now h.t.set n c
  fits_here = fits_there w.kinds.now h.t.set 0 (commands_of w.steps) c h.rest (subst (λ cs. AllFit w.kinds.now h.t.set 0 cs) h.within.commands fitting.1.fit)

  pub worked_here : IsWorked c
  worked_here = all_get IsWorked h.t.commands (length (commands_of w.steps)) c
      (all_get IsWorkedItem w.items.now w.at (item_of h.t) ready.stands.home.text.worked h.within.item)
      (subst (λ cs. slice_get cs (length (commands_of w.steps)) ≡ Some c) (sym h.within.commands) (at_seam (commands_of w.steps) c h.rest))

  pub set_low : h.t.set < 2 ^ length w.kinds.now
  set_low = fitting.0.1

  pub taken_blocks : AreBlocks f.base.heap w.taken.items
  taken_blocks b m = let k = (h.taken b m).2 in (k.number, k.place)

  -- the root's address
  pub root_place : (s : ℕ) → block (layout_shape w.layout) s ≡ root_of f.base.heap.start s
  root_place s = ap (λ k. k + 16 * s) (sym ready.stands.home.heap)

  -- a structure's map, in a draft with the blocks that were taken
  pub map_here : (s root : ℕ) → has_bit h.t.set s ≡ true → root ≡ block (layout_shape w.layout) s
      → HoldsOf (kind_at w.kinds.now s) (drafted s [] [] w.taken.items (shown f)) root (after_transaction h.maps (commands_of w.steps) s)
  map_here s root held is = subst (λ r. HoldsOf (kind_at w.kinds.now s) (drafted s [] [] w.taken.items (shown f)) r (after_transaction h.maps (commands_of w.steps) s)) (sym (is ∙ root_place s))
      (drafted_map (kind_at w.kinds.now s) (heap_now f) w.taken.items s (after_transaction h.maps (commands_of w.steps) s) taken_blocks (h.now s held))

  -- no block was taken for a command that takes none
  pub none_taken : takes_for (c ∷ h.rest) ≡ None → w.taken.items ≡ []
  none_taken none = by_list w.taken.items (λ b m. (let p = h.taken b m in no_some p.0 (sym none ∙ p.1)))
    where
      no_some : (s : ℕ) → None ≡ Some s → ⊥
      no_some s e = cc

      by_list : (xs : List ℕ) → ((b : ℕ) → IsAmong xs b → ⊥) → xs ≡ []
      by_list [] none_there = refl
      by_list (x ∷ xs) none_there = absurd (none_there x (inl refl))

-- ---- the blocks that were taken

policies : (policy : Policy) → (1 ≤ policy_number policy) × (policy_number policy ≤ 2)
policies Force = (omega arith, omega arith)
policies NoForce = (omega arith, omega arith)

cell_counts : (n : ℕ) → IsTrue ((n == 1) || (n == 16)) → (n ≡ 1) ⊎ (n ≡ 16)
cell_counts n h = grind (arith, nat_tests, h)

allowed : (layout : Layout) → IsAllowed (layout_shape layout)
allowed layout = record {
  policy = policies layout.policy;
  cells = cell_counts layout.cells layout.cells_are;
  buckets = layout.buckets_within;
  blocks = layout.blocks_within;
  structures = layout.structures_within;
  format = layout.format_within;
  partitions = layout.partitions_within;
  whole = layout.whole;
  split = layout.split;
}

-- a held block is the structure's
pub own_held : (w : Worker) (f : WholeFace MapDeed) (s b : ℕ) → IsReady w f → ((n r : ℕ) → f.words.owner n ≡ Some r → n < f.base.heap.blocks) → IsHeldBlock f s b
    → IsOwn (of_structure s (shown f).land) b
own_held w f s b h inside k =
    let place = k.place in
    let low = inside k.number s k.owner in
    let start = h.stands.home.heap in
    let count = h.stands.home.blocks in
    let most = sizes_bounded (layout_shape w.layout) (allowed w.layout) in (
      record {
        number = k.number;
        place = place;
        positive = omega (arith, place, start);
        fits = omega (arith, place, start, low, count, most);
      },
      subst (λ a. words_of (heap_now f) a ≡ s + 1) (sym place)
          (ap (λ t. if t then (heap_now f).at (block_address f.base.heap k.number) else 0) (lt-ltb (block_address f.base.heap k.number) (f.base.heap.start + 16 * f.base.heap.blocks) (omega (arith, low)))
          ∙ at_block f.base.heap f.words k.number ∙ ap owner_of_held k.owner),
    )

-- they are the structure's that the command takes for
pub held_here : (w : Worker) (c : Command) (f : WholeFace MapDeed) (h : IsHere w c f) (s : ℕ) → takes_for (c ∷ h.rest) ≡ Some s → (b : ℕ) → IsAmong w.taken.items b → IsHeldBlock f s b
held_here w c f h s is b m = let p = h.taken b m in subst (λ r. IsHeldBlock f r b) (same_some p.0 s (sym p.1 ∙ is)) p.2
  where
    same_some : (x y : ℕ) → Some x ≡ Some y → x ≡ y
    same_some x y e = cc

pub aside_here : (w : Worker) (c : Command) (f : WholeFace MapDeed) (s : ℕ) → IsReady w f → (h : IsHere w c f) → takes_for (c ∷ h.rest) ≡ Some s → s < f.base.structures
    → AreSetAside (of_structure s (shown f).land) w.taken.items
aside_here w c f s ready h is low = record {
  own = λ b m. own_held w f s b ready h.within.whole.inside (held_here w c f h s is b m);
  not_root = λ b m e. (let k = held_here w c f h s is b m in let place = k.place in let no_root = k.no_root in omega (arith, e, place, no_root, low));
  once = h.once;
}

-- ---- what can be read

pub readable_here : (f : WholeFace MapDeed) (s : ℕ) (space : Space) (readable : ℕ → Bool) → Shows f space readable → (a : ℕ) → IsDataWordOf (of_structure s space.land) a → IsTrue (readable a)
readable_here f s space readable h = subst (λ (x : Space). (a : ℕ) → IsDataWordOf (of_structure s x.land) a → IsTrue (readable a)) (sym h.space_is) (h.readable_is s)

-- the kinds' default has no part where there is the structure
pub same_kind : (kinds : List Kind) (s : ℕ) (k d : Kind) → s < length kinds → slice_index_or kinds s k ≡ slice_index_or kinds s d
same_kind [] s k d low = absurd (omega (arith, low))
same_kind (x ∷ kinds) zero k d low = refl
same_kind (x ∷ kinds) (suc s) k d low = same_kind kinds s k d (omega (arith, low))
