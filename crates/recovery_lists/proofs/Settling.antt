-- From one settled state to the next, in the region's newest words.
use Rattle.std.proofs.Common.{◌≡◌, inl, ℕ, ◌+◌, ◌<◌, List, [], length, refl, sym, ◌∙◌, subst, arith}
use Rattle.persist_model.specs.declared.event.Event.{Event}
use Rattle.persist_model.specs.Region.{Words, Region, AreSettled}
use Rattle.persist_model.specs.Progress.{Progress, Wrote, Reaches, start, advance_all}
use Rattle.persist_model.specs.Runs.{progress_at}
use Rattle.persist_model.specs.Shape.{Shape, words_of_shape}
use Rattle.persist_model.specs.State.{State}
use Rattle.persist_model.specs.Sound.{HasState}
use Rattle.persist_model.proofs.Images.{settled_is}
use Rattle.persist_model.proofs.Tracking.{Tracks-settled}
use Rattle.log_laws.specs.Recovery.{Steps}
use Rattle.log_laws.specs.Recovering.{RECOVERY_LANE, IsAtRest}
use Rattle.log_laws.specs.Parts.{after_plan, HasCome, Leads}
use Rattle.recovery_run.specs.Edges.{AreOffHeader}
use Rattle.recovery_run.specs.Reached.{newest_at, HasSettled}
use Rattle.recovery_run.proofs.Aside.{plan_keeps}
use Rattle.recovery_run.proofs.Composing.{parts_go_on}
use Rattle.recovery_run.proofs.Making.{take_whole}
use Rattle.recovery_run.proofs.Reaching.{read_newest, newest_tracked, settled_reached, single_plan, settles}
use Rattle.recovery_lists.proofs.Reading.{settled_state}

-- what a whole plan has left is one of the things that it reaches
pub end_reached : (A : ℕ → Type 0) (w v : Words) (plan : List Event) (d : Words) → advance_all (start w) plan ≡ start d → ((a : ℕ) → A a → v a ≡ d a) →
    Reaches A (progress_at w plan (length plan)) v
end_reached A w v plan d ends same =
    subst (λ (es : List Event). Reaches A (advance_all (start w) es) v) (sym (take_whole plan (length plan) (omega arith)))
    (subst (λ (z : Progress). Reaches A z v) (sym ends) (λ a m. inl (same a m)))

module _ (shape : Shape) (first y : State) (region : Region) (h : HasSettled shape first y region) where
  pub at_rest_here : IsAtRest shape (start (newest_at region)) (newest_at region) y
  at_rest_here = record { state = settled_state shape first y region h; durable = λ a lt. refl; log = λ a lt v k. k; heap = λ a le v k. elim k [ ] }

  below_size : (a : ℕ) → a < words_of_shape shape → a < region.size
  below_size a lt = subst (λ n. a < n) (sym h.come.size) lt

  pub come_here : HasCome shape first (start (newest_at region)) (newest_at region) y region
  come_here = record {
    size = h.come.size;
    tracks = Tracks-settled (λ a. a < words_of_shape shape) RECOVERY_LANE (newest_at region) region
        (λ a lt v k. settled_is (region.at a) v (h.settled a (below_size a lt)) k ∙ sym (read_newest region a (below_size a lt)));
    rest = at_rest_here;
    steps = h.come.steps;
  }

  -- a whole plan that leads to the words d with state z
  module _ (z : State) (plan : List Event) (d : Words) (leads : Leads shape (start (newest_at region)) y plan) (ends : advance_all (start (newest_at region)) plan ≡ start d)
      (has : HasState shape d z) (steps : Steps shape y z) where
    come_there : HasCome shape first (start d) d z (after_plan RECOVERY_LANE region plan)
    come_there = parts_go_on shape first (start (newest_at region)) (newest_at region) d y z region plan come_here leads ends has steps

    settled_there : AreSettled (after_plan RECOVERY_LANE region plan)
    settled_there a lt = single_plan (words_of_shape shape) (start (newest_at region)) region plan h.come.size leads.durable come_here.tracks (λ b below none. h.settled b below) a lt
        (λ v k. subst (λ (q : Progress). Wrote q.pending a v) ends k)

    pub settled_behind : AreOffHeader shape plan → HasSettled shape first z (after_plan RECOVERY_LANE region plan)
    settled_behind off = settles shape first y z d region (after_plan RECOVERY_LANE region plan) (settled_reached shape first y region h)
        (λ a v is one. plan_keeps RECOVERY_LANE region plan a v (off a is) one) come_there settled_there

    pub newest_behind : (a : ℕ) → a < words_of_shape shape → newest_at (after_plan RECOVERY_LANE region plan) a ≡ d a
    newest_behind a lt =
        let below : a < (after_plan RECOVERY_LANE region plan).size = subst (λ n. a < n) (sym come_there.size) lt in
        read_newest (after_plan RECOVERY_LANE region plan) a below
        ∙ newest_tracked (RECOVERY_LANE + 1) (d a) [] a ((after_plan RECOVERY_LANE region plan).at a) (come_there.tracks a lt) (λ none. settled_there a below)
