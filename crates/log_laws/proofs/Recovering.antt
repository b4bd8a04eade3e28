-- The events of recovery between its appends.
use Rattle.std.proofs.Common.{◌≡◌, ◌⊎◌, inl, inr, ℕ, ◌<◌, ◌≤◌, Bool, true, false, if◌then◌else◌, List, refl, sym, ap, ◌∙◌, subst, arith, nat_lt}
use Rattle.std.specs.Prelude.{slice_index}
use Rattle.std.proofs.lemmas.Bool.Decides.{eqb_tells}
use Rattle.std.proofs.lemmas.Bool.{ltb-true, ltb-false}
use Rattle.persist_model.specs.declared.event.Event.TheVariants.{PStore, Fence}
use Rattle.persist_model.specs.Region.{Words, Region, IsImage, after}
use Rattle.persist_model.specs.Progress.{Progress, advance, Reaches}
use Rattle.persist_model.specs.Shape.{Shape, heap, words_of_shape, log_words, heap_words}
use Rattle.persist_model.specs.ImageRecords.{AreRecords}
use Rattle.persist_model.specs.State.{State, IsSoundState}
use Rattle.log_laws.specs.Recovery.{HasDecidingRecord, Step, makes, stores, KeepsStanding}
use Rattle.persist_model.specs.Sound.{IsListOf, HasState, room_of}
use Rattle.log_laws.specs.Recovering.{RECOVERY_LANE, IsAtRest, IsRecovering, with_heap}
use Rattle.persist_model.proofs.Tracking.{latest_cases, Wrote-push_other, Tracks-event, Reaches-image}
use Rattle.log_laws.proofs.Keeping.{runs_keep}

-- words that are the same before the heap have the same log words
pub same_log : (shape : Shape) (w v : Words) → ((a : ℕ) → a < heap shape → v a ≡ w a) → log_words shape v ≡ log_words shape w
same_log shape w v same = λ i a. each a i
  where
    each : (a : ℕ) → (if nat_lt a (heap shape) then v a else 0) ≡ (if nat_lt a (heap shape) then w a else 0)
    each a = by_test (nat_lt a (heap shape)) refl
      where
        by_test : (b : Bool) → nat_lt a (heap shape) ≡ b → (if b then v a else 0) ≡ (if b then w a else 0)
        by_test true is = same a (ltb-true a (heap shape) is)
        by_test false is = refl

pub state_with_heap : (shape : Shape) (w v : Words) (s : State) → log_words shape v ≡ log_words shape w → HasState shape w s → HasState shape v (with_heap s (heap_words shape v))
state_with_heap shape w v s same h = record {
  chains = h.chains;
  lists = λ p lt. subst (λ z. IsListOf shape p z (h.chains p)) (sym same) (h.lists p lt);
  records = subst (λ z. AreRecords shape h.chains z s.log) (sym same) h.records;
  words = refl;
  room = λ p lt. h.room p lt ∙ ap (λ z. room_of shape z p (h.chains p)) (sym same);
}

-- a value for each heap word, the one before or one for a covered word
pub heap_step : (shape : Shape) (w v : Words) (s : State) → s.words ≡ heap_words shape w →
    ((a : ℕ) → heap shape ≤ a → a < words_of_shape shape → (v a ≡ w a) ⊎ HasDecidingRecord shape.policy s.log a) → Step shape s (with_heap s (heap_words shape v))
heap_step shape w v s is each = stores (heap_words shape v) (λ a. subst (λ z. (heap_words shape v a ≡ z) ⊎ HasDecidingRecord shape.policy s.log a) (sym (ap (λ f. f a) is)) (first_test a (nat_lt a (heap shape)) refl))
  where
    second_test : (a : ℕ) → heap shape ≤ a → (b : Bool) → nat_lt a (words_of_shape shape) ≡ b → ((if b then v a else 0) ≡ (if b then w a else 0)) ⊎ HasDecidingRecord shape.policy s.log a
    second_test a le true is = each a le (ltb-true a (words_of_shape shape) is)
    second_test a le false is = inl refl

    first_test : (a : ℕ) → (b : Bool) → nat_lt a (heap shape) ≡ b →
        ((if b then 0 else (if nat_lt a (words_of_shape shape) then v a else 0)) ≡ (if b then 0 else (if nat_lt a (words_of_shape shape) then w a else 0))) ⊎ HasDecidingRecord shape.policy s.log a
    first_test a true is = inl refl
    first_test a false is = second_test a (ltb-false a (heap shape) is) (nat_lt a (words_of_shape shape)) refl

-- what each image is
pub rest_image : (shape : Shape) (p : Progress) (w v : Words) (s : State) → heap shape ≤ words_of_shape shape → IsAtRest shape p w s → Reaches (λ a. a < words_of_shape shape) p v →
    HasState shape v (with_heap s (heap_words shape v)) × Step shape s (with_heap s (heap_words shape v))
rest_image shape p w v s fits h r = (
  state_with_heap shape w v s (same_log shape w v (λ a lt. elim (r a (omega (arith, lt, fits))) [ inl e ↦ e ∙ h.durable a (omega (arith, lt, fits)) | inr k ↦ absurd (h.log a lt (v a) k) ])) h.state,
  heap_step shape w v s h.state.words (λ a le lt. elim (r a lt) [ inl e ↦ inl (e ∙ h.durable a lt) | inr k ↦ inr (h.heap a le (v a) k) ]),
)

-- a store to a covered heap word
pub rest_store : (shape : Shape) (p : Progress) (w : Words) (s : State) (a x : ℕ) → heap shape ≤ a → HasDecidingRecord shape.policy s.log a → IsAtRest shape p w s → IsAtRest shape (advance p (PStore a x)) w s
rest_store shape p w s a x le covered h = record {
  state = h.state;
  durable = h.durable;
  log = λ b lt v k. h.log b lt v (Wrote-push_other p.pending a x b v (λ e. absurd (omega (arith, lt, le, e))) k);
  heap = λ b ge v k. elim (eqb_tells a b) [
    | inl e ↦ subst (λ y. HasDecidingRecord shape.policy s.log y) e.1 covered
    | inr ne ↦ h.heap b ge v (Wrote-push_other p.pending a x b v ne.1 k)
  ];
}

-- a fence makes the last values durable
pub rest_fence : (shape : Shape) (p : Progress) (w : Words) (s : State) → heap shape ≤ words_of_shape shape → IsAtRest shape p w s →
    (y : State) × IsAtRest shape (advance p Fence) (advance p Fence).durable y × Step shape s y
rest_fence shape p w s fits h =
    let v : Words = (advance p Fence).durable in
    let reached : Reaches (λ a. a < words_of_shape shape) p v = λ a lt. elim (latest_cases p.pending a (p.durable a)) [ inl none ↦ inl none.0 | inr wrote ↦ inr wrote ] in
    let k = rest_image shape p w v s fits h reached in
    (with_heap s (heap_words shape v), record { state = k.0; durable = λ a lt. refl; log = λ a lt x j. j; heap = λ a le x j. elim j [ ] }, k.1)

pub each_image_keeps : (shape : Shape) (first : State) (region : Region) (words : List ℕ) → IsSoundState shape first → IsRecovering shape first region → IsImage words region →
    (x : State) × HasState shape (slice_index words) x × IsSoundState shape x × KeepsStanding shape.policy first x
each_image_keeps shape first region words sound h image =
    let fits : heap shape ≤ words_of_shape shape = omega arith in
    let r = Reaches-image (λ a. a < words_of_shape shape) RECOVERY_LANE h.progress region (slice_index words) (λ a lt. subst (λ n. a < n) (sym h.size) lt) image.each h.tracks in
    let k = rest_image shape h.progress h.words (slice_index words) h.state fits h.rest r in
    let kept = runs_keep shape first (with_heap h.state (heap_words shape (slice_index words))) sound (makes h.steps k.1) in
    (with_heap h.state (heap_words shape (slice_index words)), k.0, kept.0, kept.1)

pub recovering_store : (shape : Shape) (first : State) (region : Region) (a x : ℕ) → (h : IsRecovering shape first region) → heap shape ≤ a → HasDecidingRecord shape.policy h.state.log a →
    IsRecovering shape first (after region RECOVERY_LANE (PStore a x))
recovering_store shape first region a x h le covered = record {
  size = h.size;
  progress = advance h.progress (PStore a x);
  words = h.words;
  state = h.state;
  tracks = Tracks-event (λ a. a < words_of_shape shape) RECOVERY_LANE h.progress region (PStore a x) tt h.tracks;
  rest = rest_store shape h.progress h.words h.state a x le covered h.rest;
  steps = h.steps;
}

pub recovering_fence : (shape : Shape) (first : State) (region : Region) → IsRecovering shape first region → IsRecovering shape first (after region RECOVERY_LANE Fence)
recovering_fence shape first region h =
    let k = rest_fence shape h.progress h.words h.state (omega arith) h.rest in
    record {
      size = h.size;
      progress = advance h.progress Fence;
      words = (advance h.progress Fence).durable;
      state = k.0;
      tracks = Tracks-event (λ a. a < words_of_shape shape) RECOVERY_LANE h.progress region Fence tt h.tracks;
      rest = k.1;
      steps = makes h.steps k.2;
    }
