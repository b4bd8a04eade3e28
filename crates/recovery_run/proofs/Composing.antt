-- How the parts of recovery follow one another.
use Rattle.std.proofs.Common.{◌≡◌, ℕ, zero, suc, ◌<◌, List, [], ◌∷◌, take, refl, sym, subst, ◌∙◌}
use Rattle.std.specs.Prelude.{slice_index}
use Rattle.persist_model.specs.declared.event.Event.{Event}
use Rattle.persist_model.specs.declared.event.Event.TheVariants.{Store, PStore, WriteBack, Fence}
use Rattle.persist_model.specs.Region.{Words, Region, after}
use Rattle.persist_model.specs.Progress.{Progress, Tracks, AreSettledAt, start, advance, advance_all}
use Rattle.persist_model.specs.Shape.{Shape, words_of_shape}
use Rattle.persist_model.specs.State.{State, IsSoundState}
use Rattle.log_laws.specs.Recovery.{Steps, start as begins, makes}
use Rattle.persist_model.specs.Sound.{HasState}
use Rattle.log_laws.specs.Recovering.{RECOVERY_LANE, IsAtRest}
use Rattle.persist_model.proofs.Tracking.{Tracks-event, Tracks-settled, Reaches-image}
use Rattle.log_laws.proofs.Keeping.{runs_keep}
use Rattle.log_laws.specs.Parts.{after_plan, AreDurable, HasCome, Leads, EachKeeps}

pub size_plan : (lane : ℕ) (region : Region) (plan : List Event) → (after_plan lane region plan).size ≡ region.size
size_plan lane region [] = refl
size_plan lane region (e ∷ plan) = size_plan lane (after region lane e) plan ∙ one region lane e
  where
    one : (region : Region) (lane : ℕ) (e : Event) → (after region lane e).size ≡ region.size
    one region lane (Store a v) = refl
    one region lane (PStore a v) = refl
    one region lane (WriteBack a) = refl
    one region lane Fence = refl

durable_take : (k : ℕ) (plan : List Event) → AreDurable plan → AreDurable (take k plan)
durable_take zero plan h = tt
durable_take (suc k) [] h = tt
durable_take (suc k) (e ∷ plan) h = (h.0, durable_take k plan h.1)

pub tracks_plan : (A : ℕ → Type 0) (lane : ℕ) (p : Progress) (region : Region) (plan : List Event) → AreDurable plan → Tracks A lane p region →
    Tracks A lane (advance_all p plan) (after_plan lane region plan)
tracks_plan A lane p region [] durable h = h
tracks_plan A lane p region (e ∷ plan) durable h = tracks_plan A lane (advance p e) (after region lane e) plan durable.1 (Tracks-event A lane p region e durable.0 h)

steps_all : (shape : Shape) (s x y : State) → Steps shape s x → Steps shape x y → Steps shape s y
steps_all shape s x _ h begins = h
steps_all shape s x _ h (makes {x = z} k step) = makes (steps_all shape s x z h k) step

pub parts_keep : (shape : Shape) (first : State) (p : Progress) (w : Words) (s : State) (region : Region) (plan : List Event) (k : ℕ) →
    IsSoundState shape first → HasCome shape first p w s region → Leads shape p s plan → EachKeeps shape first (after_plan RECOVERY_LANE region (take k plan))
parts_keep shape first p w s region plan k sound h leads = record {
  size = size_plan RECOVERY_LANE region (take k plan) ∙ h.size;
  each = λ words image.
      let events : List Event = take k plan in
      let tracks = tracks_plan (λ a. a < words_of_shape shape) RECOVERY_LANE p region events (durable_take k plan leads.durable) h.tracks in
      let size : (after_plan RECOVERY_LANE region events).size ≡ words_of_shape shape = size_plan RECOVERY_LANE region events ∙ h.size in
      let r = Reaches-image (λ a. a < words_of_shape shape) RECOVERY_LANE (advance_all p events) (after_plan RECOVERY_LANE region events) (slice_index words)
      (λ a lt. subst (λ n. a < n) (sym size) lt) image.each tracks in
      let x = leads.images k (slice_index words) r in
      let kept = runs_keep shape first x.0 sound (steps_all shape first s x.0 h.steps x.2) in
      (x.0, x.1, kept.0, kept.1);
}

pub parts_go_on : (shape : Shape) (first : State) (p : Progress) (w d : Words) (s y : State) (region : Region) (plan : List Event) →
    HasCome shape first p w s region → Leads shape p s plan → advance_all p plan ≡ start d → HasState shape d y → Steps shape s y →
    HasCome shape first (start d) d y (after_plan RECOVERY_LANE region plan)
parts_go_on shape first p w d s y region plan h leads ends has steps = record {
  size = size_plan RECOVERY_LANE region plan ∙ h.size;
  tracks = subst (λ q. Tracks (λ a. a < words_of_shape shape) RECOVERY_LANE q (after_plan RECOVERY_LANE region plan)) ends
      (tracks_plan (λ a. a < words_of_shape shape) RECOVERY_LANE p region plan leads.durable h.tracks);
  rest = at_rest shape d y has;
  steps = steps_all shape first s y h.steps steps;
}
  where
    at_rest : (shape : Shape) (d : Words) (y : State) → HasState shape d y → IsAtRest shape (start d) d y
    at_rest shape d y has = record { state = has; durable = λ a lt. refl; log = λ a lt v k. k; heap = λ a le v k. elim k [ ] }

-- settled words begin a recovery
pub recovery_begins : (shape : Shape) (w : Words) (first : State) (region : Region) → region.size ≡ words_of_shape shape → AreSettledAt (λ a. a < words_of_shape shape) w region →
    HasState shape w first → HasCome shape first (start w) w first region
recovery_begins shape w first region size settled has = record {
  size = size;
  tracks = Tracks-settled (λ a. a < words_of_shape shape) RECOVERY_LANE w region settled;
  rest = record { state = has; durable = λ a lt. refl; log = λ a lt v k. k; heap = λ a le v k. elim k [ ] };
  steps = begins;
}
