-- A command's map, as the code asks for it.
use Rattle.std.proofs.Common.{◌≡◌, ℕ, ◌<◌, ◌≤◌, true, List, [], ◌∷◌, length, None, refl, sym, subst, ◌∙◌, arith}
use Rattle.std.specs.Prelude.{IsTrue, Bool, vec_len, vec_capacity}
use Rattle.persist_model.specs.Shape.{block}
use Rattle.lane_traits.specs.Space.{Space, IsDataWordOf}
use Rattle.lane_traits.specs.Draft.{drafted, of_structure, AreSetAside}
use Rattle.lane_types.specs.declared.call.Call.TheVariants as call
use Rattle.lane_types.specs.Faces.{WholeFace}
use Rattle.lane_types.specs.Heaps.{has_bit}
use Rattle.region_layout.specs.declared.layout.Kind.{Kind}
use Rattle.region_layout.specs.declared.layout.Kind.TheVariants.{Cells, Tree}
use Rattle.region_layout.specs.Layout.{layout_shape}
use Rattle.rewind_script.specs.declared.script.Command.{Command}
use Rattle.rewind_script.specs.declared.script.Command.TheVariants as command
use Rattle.rewind_script.specs.Limits.{Reaches}
use Rattle.map_deeds.specs.Maps.{Maps, after_transaction}
use Rattle.map_deeds.specs.Meanings.{commands_of, kind_at}
use Rattle.map_deeds.specs.declared.deed.MapDeed.{MapDeed}
use Rattle.lane_worker.specs.declared.worker.Worker.{Worker}
use Rattle.lane_worker.specs.Stages.{takes_for}
use Rattle.lane_worker.specs.Acts.{Asks}
use Rattle.lane_worker.specs.Shown.{shown}
use Rattle.lane_worker.specs.Standing.{IsReady}
use Rattle.lane_worker.specs.Drafts.{HasMapOf, HoldsOf, ChangesTo}
use Rattle.lane_worker.specs.declared.stage.Change.{Change}
use Rattle.region_layout.specs.FiniteMap.{FiniteMap, with_pair}
use Rattle.lane_worker.specs.Commands.{IsAtCommand, IsStarting}
use Rattle.lane_worker.proofs.Placing.{IsHere, here_of, fits_here, map_here, none_taken, aside_here, held_here, readable_here, same_kind}
use Rattle.lane_worker.proofs.Doing.{ready_with, take_asks}
use Rattle.lane_worker.proofs.Settling.{put_starts}

pub place_inside : (w : Worker) (f : WholeFace MapDeed) (s : ℕ) → IsReady w f → s < length w.kinds.now → s < w.layout.blocks
place_inside w f s h low = let roots = h.stands.home.roots in omega (arith, low, roots)

pub low_structure : (w : Worker) (f : WholeFace MapDeed) (s : ℕ) → IsReady w f → s < length w.kinds.now → s < f.base.structures
low_structure w f s h low = let count = h.stands.home.structures in omega (arith, low, count)

module _ (w : Worker) (c : Command) (space : Space) (readable : ℕ → Bool) (f : WholeFace MapDeed) (h : IsAtCommand w c space readable f) where
  pub at_here : IsHere w c f
  at_here = here_of w c f h.ready h.at h.here

  module _ (k : IsHere w c f) where
    abbrev so_far : Maps
    so_far = after_transaction k.maps (commands_of w.steps)

    pub holds_over : (s structure root : ℕ) (kind : Kind) → has_bit k.t.set s ≡ true → structure ≡ s → kind ≡ kind_at w.kinds.now s → root ≡ block (layout_shape w.layout) s
        → HoldsOf kind (drafted structure [] [] w.taken.items space) root (so_far s)
    holds_over s structure root kind held is of place =
        subst (λ (p : ℕ). HoldsOf kind (drafted p [] [] w.taken.items space) root (so_far s)) (sym is)
        (subst (λ (q : Kind). HoldsOf q (drafted s [] [] w.taken.items space) root (so_far s)) (sym of)
        (subst (λ (x : Space). HoldsOf (kind_at w.kinds.now s) (drafted s [] [] w.taken.items x) root (so_far s)) (sym h.shows.space_is)
        (map_here w c f h.ready k s root held place)))

    pub holds_plain : takes_for (c ∷ k.rest) ≡ None → (s structure root : ℕ) (kind : Kind) → has_bit k.t.set s ≡ true → structure ≡ s → kind ≡ kind_at w.kinds.now s → root ≡ block (layout_shape w.layout) s
        → HoldsOf kind (drafted structure [] [] [] space) root (so_far s)
    holds_plain none s structure root kind held is of place =
        subst (λ (xs : List ℕ). HoldsOf kind (drafted structure [] [] xs space) root (so_far s)) (none_taken w c f h.ready k none) (holds_over s structure root kind held is of place)

  pub can_read : (structure a : ℕ) → IsDataWordOf (of_structure structure space.land) a → IsTrue (readable a)
  can_read structure a d = readable_here f structure space readable h.shows a d

pub get_reaches : (w : Worker) (s key : ℕ) (f : WholeFace MapDeed) → IsReady w f → (k : IsHere w (command.Get s key) f) → Reaches w.kinds.now k.t.set s key
get_reaches w s key f h k = (fits_here w (command.Get s key) f h k).1

pub del_reaches : (w : Worker) (s key : ℕ) (f : WholeFace MapDeed) → IsReady w f → (k : IsHere w (command.Del s key) f) → Reaches w.kinds.now k.t.set s key
del_reaches w s key f h k = (fits_here w (command.Del s key) f h k).1

pub put_reaches : (w : Worker) (s key value : ℕ) (f : WholeFace MapDeed) → IsReady w f → (k : IsHere w (command.Put s key value) f) → Reaches w.kinds.now k.t.set s key × (1 ≤ value)
put_reaches w s key value f h k = (fits_here w (command.Put s key value) f h k).1

-- a change by the names of the text
pub changes_over : (kind same : Kind) (structure s root : ℕ) (spare : List ℕ) (space other : Space) (change : Change) (m : FiniteMap) → structure ≡ s → kind ≡ same → space ≡ other
    → ChangesTo kind structure root spare space change m → ChangesTo same s root spare other change m
changes_over kind same structure s root spare space other change m is of at h =
    subst (λ (q : Kind). ChangesTo q s root spare other change m) of
    (subst (λ (p : ℕ). ChangesTo kind p root spare other change m) is
    (subst (λ (x : Space). ChangesTo kind structure root spare x change m) at h))

-- ---- a put, over the blocks that were taken

module _ (w : Worker) (s key value : ℕ) (space : Space) (readable : ℕ → Bool) (f : WholeFace MapDeed) (h : IsAtCommand w (command.Put s key value) space readable f) where
  abbrev put_at : IsHere w (command.Put s key value) f
  put_at = at_here w (command.Put s key value) space readable f h

  abbrev put_fits : Reaches w.kinds.now put_at.t.set s key × (1 ≤ value)
  put_fits = put_reaches w s key value f h.ready put_at

  pub put_kind : s < length w.kinds.now
  put_kind = put_fits.0.0

  pub put_block : s < w.layout.blocks
  put_block = place_inside w f s h.ready put_kind

  pub put_key : (kind : Kind) → kind ≡ kind_at w.kinds.now s → kind ≡ Cells → key ≤ 11
  put_key kind of cells = put_fits.0.2 (same_kind w.kinds.now s Tree Cells put_kind ∙ sym of ∙ cells)

  pub put_value : 1 ≤ value
  put_value = put_fits.1

  put_holds : (structure root : ℕ) (kind : Kind) (spare : List ℕ) → structure ≡ s → kind ≡ kind_at w.kinds.now s → root ≡ block (layout_shape w.layout) s → spare ≡ w.taken.items
      → HoldsOf kind (drafted structure [] [] spare space) root (after_transaction put_at.maps (commands_of w.steps) s)
  put_holds structure root kind spare is of place same =
      subst (λ (xs : List ℕ). HoldsOf kind (drafted structure [] [] xs space) root (after_transaction put_at.maps (commands_of w.steps) s)) (sym same)
      (holds_over w (command.Put s key value) space readable f h put_at s structure root kind put_fits.0.1 is of place)

  pub put_map : (structure root : ℕ) (kind : Kind) (spare : List ℕ) → structure ≡ s → kind ≡ kind_at w.kinds.now s → root ≡ block (layout_shape w.layout) s → spare ≡ w.taken.items
      → HasMapOf kind (drafted structure [] [] spare space) root
  put_map structure root kind spare is of place same = record {
    contents = after_transaction put_at.maps (commands_of w.steps) s;
    is = put_holds structure root kind spare is of place same;
  }

  pub put_aside : (structure : ℕ) (spare : List ℕ) → structure ≡ s → spare ≡ w.taken.items → AreSetAside (of_structure structure space.land) spare
  put_aside structure spare is same =
      subst (λ (xs : List ℕ). AreSetAside (of_structure structure space.land) xs) (sym same)
      (subst (λ (p : ℕ). AreSetAside (of_structure p space.land) w.taken.items) (sym is)
      (subst (λ (x : Space). AreSetAside (of_structure s x.land) w.taken.items) (sym h.shows.space_is)
      (aside_here w (command.Put s key value) f s h.ready put_at refl (low_structure w f s h.ready put_kind))))

  -- a block more is asked
  pub put_takes : (v : Worker) → v.taken.items ≡ w.taken.items → vec_len v.taken < vec_capacity v.taken → Asks (record w { taken = v.taken }) (call.Take s) f
  put_takes v items room = take_asks w v (command.Put s key value) f h.ready h.at put_at items s refl put_fits.0.1 (low_structure w f s h.ready put_kind) room

  pub put_stays : (v : Worker) → v.taken.items ≡ w.taken.items → IsReady (record w { taken = v.taken }) f
  put_stays v items = ready_with w v (command.Put s key value) f h.ready h.at put_at items

  -- the change is made next
  pub put_starting : (structure root : ℕ) (kind : Kind) (spare : List ℕ) (change : Change) → structure ≡ s → kind ≡ kind_at w.kinds.now s → root ≡ block (layout_shape w.layout) s → spare ≡ w.taken.items
      → ((m : FiniteMap) → HoldsOf kind (drafted structure [] [] spare space) root m → ChangesTo kind structure root spare space change (with_pair key value m))
      → IsStarting w (command.Put s key value) change f
  put_starting structure root kind spare change is of place same changes = record {
    ready = put_starts w s key value root f h.ready h.at put_at (held_here w (command.Put s key value) f put_at s refl) (low_structure w f s h.ready put_kind) place change
        (changes_over kind (kind_at w.kinds.now s) structure s root w.taken.items space (shown f) change (with_pair key value now) is of h.shows.space_is
        (subst (λ (xs : List ℕ). ChangesTo kind structure root xs space change (with_pair key value now)) same (changes now (put_holds structure root kind spare is of place same))));
    here = h.here;
  }
    where
      now : FiniteMap
      now = after_transaction put_at.maps (commands_of w.steps) s
