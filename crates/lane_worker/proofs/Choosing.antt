-- The commands of a transaction, one after the other.
use Rattle.std.proofs.Common.{◌≡◌, inl, inr, ⊎_elim, ℕ, ◌+◌, ◌<◌, ◌≤◌, Bool, List, ◌∷◌, ◌++◌, length, get_or, Option, Some, None, Result, Ok, refl, sym, subst, ◌∙◌, ap, arith}
use Rattle.std.specs.List.{slice_get}
use Rattle.std.proofs.lemmas.List.{length-map}
use Rattle.std.proofs.lemmas.Option.{slice_get_past, slice_get-get_or, slice_get_within}
use Rattle.persist_model.specs.declared.list.NoMemory.{NoMemory}
use Rattle.lane_traits.specs.Space.{Space}
use Rattle.lane_types.specs.declared.call.Call.{Call}
use Rattle.lane_types.specs.Faces.{WholeFace}
use Rattle.rewind_script.specs.declared.script.Command.{Command}
use Rattle.rewind_script.specs.declared.report.How.TheVariants.{Aborted}
use Rattle.map_deeds.specs.Meanings.{command_of, commands_of}
use Rattle.map_deeds.specs.declared.deed.MapDeed.{MapDeed}
use Rattle.lane_worker.specs.declared.worker.Worker.{Worker}
use Rattle.lane_worker.specs.declared.stage.Stage.TheVariants as stage
use Rattle.lane_worker.specs.Shown.{Shows}
use Rattle.lane_worker.specs.Standing.{IsReady}
use Rattle.lane_worker.specs.Commands.{commands_in, command_at, IsAtCommand, IsChoosingOver, IsAtEnd, IsBehind, KeepsText, KeepsFate, GoesOn}
use Rattle.lane_worker.proofs.Asking.{making_here}
use Rattle.lane_worker.proofs.Placing.{at_seam}

pub over_behind : (w : Worker) (space : Space) (readable : ℕ → Bool) (f : WholeFace MapDeed) → IsBehind w f → Shows f space readable → IsChoosingOver w space readable f
over_behind w space readable f h shows = record { ready = h.ready; at = h.at; shows = shows }

pub fate_then : (u v w : Worker) → KeepsFate u v → KeepsFate v w → KeepsFate u w
fate_then u v w first last how at = ⊎_elim (λ (e : v.stage ≡ stage.Aborting how). first how e) (λ (e : how ≡ Aborted). inr e) (last how at)

-- The worker has come from another to this command of its text.
pub record HasChosen (w v : Worker) (space : Space) (readable : ℕ → Bool) (index : ℕ) : Type 0 where
  pub over : (f : WholeFace MapDeed) → IsChoosingOver w space readable f → IsChoosingOver v space readable f
  pub text : KeepsText w v
  pub fate : KeepsFate w v
  pub count : length v.steps ≡ index

pub chosen_first : (w : Worker) (space : Space) (readable : ℕ → Bool) → HasChosen w w space readable (length w.steps)
chosen_first w space readable = record { over = λ f h. h; text = record { items = refl; at = refl }; fate = λ how e. inl e; count = refl }

module _ (w v : Worker) (space : Space) (readable : ℕ → Bool) (index : ℕ) (h : HasChosen w v space readable index) (cs : List Command) (is : cs ≡ commands_in (slice_get w.items.now w.at)) where
  command_there : (o : Option Command) → slice_get cs index ≡ o → command_at v ≡ o
  command_there o there = (λ j. slice_get (commands_in (slice_get (h.text.items j) (h.text.at j))) (h.count j)) ∙ ap (λ xs. slice_get xs index) (sym is) ∙ there

  -- it is at the command
  pub at_command : (d : Command) → index < length cs → (f : WholeFace MapDeed) → IsChoosingOver w space readable f → IsAtCommand v (get_or cs index d) space readable f
  at_command d low f over =
      let k = h.over f over in
      record { ready = k.ready; at = k.at; shows = k.shows; here = command_there (Some (get_or cs index d)) (slice_get-get_or cs index d low) }

  -- and then at the next one
  pub chosen_next : (u : Worker) (d : Command) (o : Option (Call MapDeed)) → index < length cs
      → ((f : WholeFace MapDeed) → IsAtCommand v (get_or cs index d) space readable f → GoesOn (Ok o) u f) → o ≡ None → KeepsText v u → KeepsFate v u
      → (◌≡◌ {A = Result (Option (Call MapDeed)) NoMemory} (Ok o) (Ok None) → length u.steps ≡ length v.steps + 1) → HasChosen w u space readable (index + 1)
  chosen_next u d o low goes none text fate count = record {
    over = λ f over. over_behind u space readable f (subst (λ (x : Option (Call MapDeed)). GoesOn (Ok x) u f) none (goes f (at_command d low f over))) over.shows;
    text = record { items = text.items ∙ h.text.items; at = text.at ∙ h.text.at };
    fate = fate_then w v u h.fate fate;
    count = count (ap Ok none) ∙ ap (λ n. n + 1) h.count;
  }

  -- all were done
  pub at_end : length cs ≤ index → (f : WholeFace MapDeed) → IsChoosingOver w space readable f → IsAtEnd v f
  at_end past f over = let k = h.over f over in record { ready = k.ready; at = k.at; none = command_there None (slice_get_past cs index past) }

-- the command whose change was made is one of the text
pub made_here : (w : Worker) (f : WholeFace MapDeed) (cs : List Command) (i : ℕ) (d : Command) → IsReady w f → w.stage ≡ stage.Making → cs ≡ commands_in (slice_get w.items.now w.at) → i ≡ length w.steps
    → command_at w ≡ Some (get_or cs i d)
made_here w f cs i d ready at is place =
    let k = making_here w f ready at in
    let there : slice_get cs (length w.steps) ≡ Some k.command =
    ap (λ xs. slice_get xs (length w.steps)) (is ∙ ap commands_in k.within.item ∙ k.within.commands)
    ∙ subst (λ n. slice_get (commands_of w.steps ++ k.command ∷ k.rest) n ≡ Some k.command) (length-map w.steps command_of) (at_seam (commands_of w.steps) k.command k.rest) in
    let low : length w.steps < length cs = slice_get_within cs (length w.steps) k.command there in
    ap (λ xs. slice_get xs (length w.steps)) (sym is) ∙ ap (λ n. slice_get cs n) (sym place) ∙ slice_get-get_or cs i d (omega (arith, low, place))
