-- What the code finds of a command makes it done, or to be made.
use Rattle.std.proofs.Common.{◌≡◌, ◌≢◌, ⊎_elim, ℕ, ◌<◌, ◌≤◌, ◌==◌, if◌then◌else◌, true, false, List, [], ◌∷◌, ◌++◌, length, drop, Option, Some, None, refl, sym, subst, ◌∙◌, ap}
use Rattle.std.proofs.lemmas.Bool.Decides.{eqb_tells}
use Rattle.std.proofs.Math.ListN.{drop_of_length-le}
use Rattle.persist_model.specs.Records.{IsAmong}
use Rattle.persist_model.specs.Shape.{block}
use Rattle.lane_traits.specs.declared.draft.WordWrite.{WordWrite}
use Rattle.lane_types.specs.Faces.{WholeFace}
use Rattle.region_layout.specs.Layout.{layout_shape}
use Rattle.region_layout.specs.FiniteMap.{FiniteMap, lookup, with_pair, without_key}
use Rattle.persist_hash.proofs.Entries.{without_absent}
use Rattle.rewind_script.specs.declared.script.Command.{Command}
use Rattle.rewind_script.specs.declared.script.Command.TheVariants as command
use Rattle.map_deeds.specs.Maps.{Maps, with_map, after_transaction, reply}
use Rattle.map_deeds.specs.Meanings.{commands_of, kind_at}
use Rattle.map_deeds.specs.declared.deed.MapDeed.{MapDeed}
use Rattle.lane_worker.specs.declared.worker.Worker.{Worker}
use Rattle.lane_worker.specs.declared.stage.Stage.TheVariants as stage
use Rattle.lane_worker.specs.declared.stage.Change.{Change}
use Rattle.lane_worker.specs.Shown.{heap_now, shown}
use Rattle.lane_worker.specs.Stages.{IsInside, IsHeldBlock, WouldHold, changes, open_in, takes_for}
use Rattle.lane_worker.specs.Standing.{IsReady, phase_in}
use Rattle.lane_worker.specs.Drafts.{ChangesTo}
use Rattle.lane_worker.specs.Commands.{command_at, IsDone}
use Rattle.lane_worker.proofs.Asking.{making_here}
use Rattle.lane_worker.proofs.Commanding.{command_is, first_left, maps_more}
use Rattle.lane_worker.proofs.Placing.{IsHere, none_taken}
use Rattle.lane_worker.proofs.Changing.{changed}
use Rattle.lane_worker.proofs.Making.{making, making_ready}

-- ---- the change was made

head_is : (x y : Command) (xs ys : List Command) → x ∷ xs ≡ y ∷ ys → x ≡ y
head_is x y xs ys e = cc

nothing_read : (maps : Maps) (c : Command) (s : ℕ) → changes c ≡ Some s → None ≡ reply maps c
nothing_read maps (command.Put r key value) s e = refl
nothing_read maps (command.Del r key) s e = refl
nothing_read maps (command.Get r key) s e = absurd cc
nothing_read maps command.Savepoint s e = refl
nothing_read maps (command.Rollback n) s e = refl

pub made_done : (w : Worker) (c : Command) (f : WholeFace MapDeed) → IsReady w f → w.stage ≡ stage.Making → length w.change.writes ≤ w.change.written → length w.change.gives ≤ w.change.given
    → command_at w ≡ Some c → IsDone w c None f
made_done w c f ready at written given is =
    let k = making_here w f ready at in
    let left = first_left w.steps (k.command ∷ k.rest) c (command_is w k.t f k.maps (k.command ∷ k.rest) (Some c) k.within is) in
    let same : k.command ≡ c = head_is k.command c k.rest left.0 left.1 in
    record {
      t = k.t;
      maps = k.maps;
      rest = left.0;
      ready = ready;
      phase = ap phase_in at;
      opened = ap open_in at;
      within = subst (λ (xs : List Command). IsInside w k.t f k.maps xs) left.1 k.within;
      read = nothing_read (after_transaction k.maps (commands_of w.steps)) c k.structure (ap changes (sym same) ∙ k.of);
      now = subst (λ (x : Command). WouldHold w.kinds.now k.t.set [] [] f (after_transaction k.maps (commands_of w.steps ++ x ∷ []))) same
          (subst (λ (xs : List WordWrite). WouldHold w.kinds.now k.t.set xs [] f (after_transaction k.maps (commands_of w.steps ++ k.command ∷ []))) (drop_of_length-le w.change.writes written)
          (subst (λ xs. WouldHold w.kinds.now k.t.set (drop w.change.written w.change.writes) xs f (after_transaction k.maps (commands_of w.steps ++ k.command ∷ []))) (drop_of_length-le w.change.gives given) k.now));
    }

-- ---- nothing is changed

module _ (w : Worker) (c : Command) (f : WholeFace MapDeed) (ready : IsReady w f) (at : w.stage ≡ stage.Choosing) (h : IsHere w c f) where
  abbrev so_far : Maps
  so_far = after_transaction h.maps (commands_of w.steps)

  pub unchanged_done : (got : Option ℕ) → takes_for (c ∷ h.rest) ≡ None → got ≡ reply so_far c → so_far ≡ after_transaction h.maps (commands_of w.steps ++ c ∷ []) → IsDone w c got f
  unchanged_done got none read same = record {
    t = h.t;
    maps = h.maps;
    rest = h.rest;
    ready = ready;
    phase = ap phase_in at;
    opened = ap open_in at;
    within = h.within;
    read = read;
    now = subst (λ (x : Maps). WouldHold w.kinds.now h.t.set [] [] f x) same
        (subst (λ xs. WouldHold w.kinds.now h.t.set [] xs f so_far) (none_taken w c f ready h none) h.now);
  }

pub get_done : (w : Worker) (s key : ℕ) (f : WholeFace MapDeed) (ready : IsReady w f) (at : w.stage ≡ stage.Choosing) (h : IsHere w (command.Get s key) f) (got : Option ℕ)
    → got ≡ lookup key (after_transaction h.maps (commands_of w.steps) s) → IsDone w (command.Get s key) got f
get_done w s key f ready at h got read = unchanged_done w (command.Get s key) f ready at h got refl read (sym (maps_more h.maps (commands_of w.steps) (command.Get s key)))

with_same : (maps : Maps) (s : ℕ) (m : FiniteMap) → m ≡ maps s → (t : ℕ) → with_map s m maps t ≡ maps t
with_same maps s m e t = ⊎_elim (λ (on : ((t == s) ≡ true) × (t ≡ s)). ap (λ b. if b then m else maps t) on.0 ∙ e ∙ ap maps (sym on.1))
    (λ (off : ((t == s) ≡ false) × (t ≢ s)). ap (λ b. if b then m else maps t) off.0) (eqb_tells t s)

with_here : (maps : Maps) (s : ℕ) (m : FiniteMap) → with_map s m maps s ≡ m
with_here maps s m = ⊎_elim (λ (on : ((s == s) ≡ true) × (s ≡ s)). ap (λ b. if b then m else maps s) on.0)
    (λ (off : ((s == s) ≡ false) × (s ≢ s)). absurd (off.1 refl)) (eqb_tells s s)

with_there : (maps : Maps) (s : ℕ) (m : FiniteMap) (r : ℕ) → r ≢ s → with_map s m maps r ≡ maps r
with_there maps s m r ne = ⊎_elim (λ (on : ((r == s) ≡ true) × (r ≡ s)). absurd (ne on.1))
    (λ (off : ((r == s) ≡ false) × (r ≢ s)). ap (λ b. if b then m else maps r) off.0) (eqb_tells r s)

pub absent_done : (w : Worker) (s key : ℕ) (f : WholeFace MapDeed) (ready : IsReady w f) (at : w.stage ≡ stage.Choosing) (h : IsHere w (command.Del s key) f)
    → lookup key (after_transaction h.maps (commands_of w.steps) s) ≡ None → IsDone w (command.Del s key) None f
absent_done w s key f ready at h absent =
    unchanged_done w (command.Del s key) f ready at h None refl refl
    (sym (maps_more h.maps (commands_of w.steps) (command.Del s key)
    ∙ (λ j t. with_same (after_transaction h.maps (commands_of w.steps)) s (without_key key (after_transaction h.maps (commands_of w.steps) s)) (without_absent key (after_transaction h.maps (commands_of w.steps) s) absent) t j)))

-- ---- a change is made next

pub put_starts : (w : Worker) (s key value root : ℕ) (f : WholeFace MapDeed) (ready : IsReady w f) (at : w.stage ≡ stage.Choosing) (h : IsHere w (command.Put s key value) f)
    → ((b : ℕ) → IsAmong w.taken.items b → IsHeldBlock f s b) → s < f.base.structures → root ≡ block (layout_shape w.layout) s → (change : Change)
    → ChangesTo (kind_at w.kinds.now s) s root w.taken.items (shown f) change (with_pair key value (after_transaction h.maps (commands_of w.steps) s))
    → IsReady (making w change) f
put_starts w s key value root f ready at h held low place change of =
    let now = after_transaction h.maps (commands_of w.steps) in
    let m = with_pair key value (now s) in
    making_ready w (command.Put s key value) f ready h s root held low place change m (changed (kind_at w.kinds.now s) s root w.taken.items (heap_now f) change m of)
    at refl (with_map s m now) (sym (maps_more h.maps (commands_of w.steps) (command.Put s key value))) (with_here now s m) (λ r ne. with_there now s m r ne)

pub del_starts : (w : Worker) (s key root : ℕ) (f : WholeFace MapDeed) (ready : IsReady w f) (at : w.stage ≡ stage.Choosing) (h : IsHere w (command.Del s key) f)
    → s < f.base.structures → root ≡ block (layout_shape w.layout) s → (change : Change)
    → ChangesTo (kind_at w.kinds.now s) s root [] (shown f) change (without_key key (after_transaction h.maps (commands_of w.steps) s))
    → IsReady (making w change) f
del_starts w s key root f ready at h low place change of =
    let now = after_transaction h.maps (commands_of w.steps) in
    let m = without_key key (now s) in
    let none = none_taken w (command.Del s key) f ready h refl in
    making_ready w (command.Del s key) f ready h s root (λ b k. absurd (subst (λ xs. IsAmong xs b) none k)) low place change m
    (changed (kind_at w.kinds.now s) s root w.taken.items (heap_now f) change m
    (subst (λ (xs : List ℕ). ChangesTo (kind_at w.kinds.now s) s root xs (shown f) change m) (sym none) of))
    at refl (with_map s m now) (sym (maps_more h.maps (commands_of w.steps) (command.Del s key))) (with_here now s m) (λ r ne. with_there now s m r ne)
