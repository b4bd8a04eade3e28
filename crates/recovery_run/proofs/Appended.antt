-- An append from a reached state.
use Rattle.std.proofs.Common.{◌≡◌, ◌⊎◌, inl, inr, ℕ, ◌<◌, ◌≤◌, List, [], ◌∷◌, ◌++◌, length, take, sum_by, refl, sym, ap, ◌∙◌, subst, arith}
use Rattle.std.proofs.lemmas.List.Sums.{sum_by-cons}
use Rattle.persist_model.specs.declared.event.Event.{Event}
use Rattle.persist_model.specs.declared.event.Event.TheVariants.{Store, PStore, WriteBack, Fence}
use Rattle.persist_model.specs.Region.{Words, Region}
use Rattle.persist_model.specs.Progress.{Progress, Wrote, Reaches, latest, start, advance, advance_all}
use Rattle.persist_model.specs.Runs.{progress_at}
use Rattle.persist_model.specs.Records.{Record}
use Rattle.persist_model.specs.Shape.{Shape, heap, words_of_shape, heap_words}
use Rattle.persist_model.specs.State.{State}
use Rattle.persist_model.specs.Sound.{HasState}
use Rattle.persist_model.proofs.Tracking.{latest_cases}
use Rattle.persist_model.proofs.Projecting.{SameOn, SameOn-events, Reaches-same, AreAway, IsDue-aways, advance_all-append}
use Rattle.lane_traits.specs.Device.{stores_of}
use Rattle.log_laws.specs.Recovery.{HasDecidingRecord, Step, Steps, start as begins, makes, stores, grown}
use Rattle.log_laws.specs.Recovering.{RECOVERY_LANE, AreOnLog, with_heap}
use Rattle.log_laws.specs.StateAppends.{IsAppend, MayCome}
use Rattle.log_laws.specs.Parts.{after_plan, Leads}
use Rattle.log_laws.proofs.Parts.{part_image}
use Rattle.log_laws.proofs.Recovering.{heap_step}
use Rattle.recovery_run.specs.Edges.{AreOffHeader}
use Rattle.recovery_run.specs.Reached.{newest_at, HasReached, HasSettled}
use Rattle.recovery_run.proofs.Aside.{plan_keeps}
use Rattle.recovery_run.proofs.Making.{take_whole}
use Rattle.recovery_run.proofs.ClosingPart.{same_heap}
use Rattle.recovery_run.proofs.Coming.{settled_append_leads, settled_append_done}
use Rattle.recovery_run.proofs.Reaching.{newest_latest, newest_log, reached_step, plan_done, settled_newest, settled_reached, settles, single_plan}

-- how many places a plan takes
pub stores_are_few : (plan : List Event) → sum_by stores_of plan ≤ length plan
stores_are_few [] = omega arith
stores_are_few (e ∷ plan) = let h = stores_are_few plan in let one = at_most e in let is = sum_by-cons stores_of e plan in omega (arith, h, one, is)
  where
    at_most : (e : Event) → stores_of e ≤ 1
    at_most (Store a v) = omega arith
    at_most (PStore a v) = omega arith
    at_most (WriteBack a) = omega arith
    at_most Fence = omega arith

same_start : (shape : Shape) (z w : Words) → ((a : ℕ) → a < heap shape → z a ≡ w a) → SameOn (λ a. a < heap shape) (start w) (start z)
same_start shape z w same = record { durable = λ a lt. sym (same a lt); pending = λ a lt v k. k; latests = λ a lt u. refl }

-- an append is one from all words with the same log
pub append_same : (shape : Shape) (z w h : Words) (s : State) (r : Record) (room : ℕ → ℕ) (plan : List Event) → ((a : ℕ) → a < heap shape → z a ≡ w a) →
    IsAppend shape z (with_heap s h) r room plan → IsAppend shape w s r room plan
append_same shape z w h s r room plan same append = record {
  on_log = append.on_log;
  durable = append.durable;
  front = append.front;
  fenced = append.fenced;
  images = λ k v reached. append.images k v (to_z k v reached);
  last = λ v reached. append.last v (to_z (length plan) v reached);
}
  where
    to_z : (k : ℕ) (v : Words) → Reaches (λ a. a < heap shape) (progress_at w plan k) v → Reaches (λ a. a < heap shape) (progress_at z plan k) v
    to_z k v reached = Reaches-same (λ a. a < heap shape) (progress_at w plan k) (progress_at z plan k) v (SameOn-events (λ a. a < heap shape) (start w) (start z) (take k plan) (same_start shape z w same)) reached

away_on_log : (shape : Shape) (a : ℕ) (events : List Event) → heap shape ≤ a → AreOnLog shape events → AreAway a events
away_on_log shape a [] le on = tt
away_on_log shape a (Store b v ∷ events) le on = (tt, away_on_log shape a events le on.1)
away_on_log shape a (PStore b v ∷ events) le on = ((λ e. let lt = on.0 in absurd (omega (arith, e, lt, le))), away_on_log shape a events le on.1)
away_on_log shape a (WriteBack b ∷ events) le on = (tt, away_on_log shape a events le on.1)
away_on_log shape a (Fence ∷ events) le on = (tt, away_on_log shape a events le on.1)

on_log_front : (shape : Shape) (es fs : List Event) → AreOnLog shape (es ++ fs) → AreOnLog shape es
on_log_front shape [] fs on = tt
on_log_front shape (e ∷ es) fs on = (on.0, on_log_front shape es fs on.1)

module _ (shape : Shape) (first y : State) (region : Region) (r : Record) (room : ℕ → ℕ) (plan : List Event) (h : HasReached shape first y region)
    (append : IsAppend shape (newest_at region) y r room plan) where
  abbrev here : Words
  here = heap_words shape (newest_at region)

  own : IsAppend shape h.durable h.state r room plan
  own = append_same shape (newest_at region) h.durable here h.state r room plan (newest_log shape first y region h)
      (subst (λ (z : State). IsAppend shape (newest_at region) z r room plan) h.is append)

  abbrev done : Progress
  done = advance (advance_all h.progress own.front) Fence

  whole : advance_all h.progress plan ≡ start done.durable
  whole = ap (advance_all h.progress) own.fenced ∙ advance_all-append h.progress own.front (Fence ∷ [])

  front_on : AreOnLog shape own.front
  front_on = on_log_front shape own.front (Fence ∷ []) (subst (AreOnLog shape) own.fenced own.on_log)

  -- the heap words behind it are the newest ones before
  heap_stays : heap_words shape done.durable ≡ y.words
  heap_stays = sym (same_heap shape done.durable (newest_at region) (λ a le lt.
      newest_latest shape first y region h a lt ∙ sym (IsDue-aways h.progress a (latest h.progress.pending a (h.progress.durable a)) own.front (away_on_log shape a own.front le front_on) refl)))
      ∙ sym (ap (λ (z : State). z.words) h.is)

  has_end : HasState shape done.durable (grown y r room)
  has_end =
      let reached : Reaches (λ a. a < words_of_shape shape) (advance_all h.progress (take (length plan) plan)) done.durable =
      subst (λ (es : List Event). Reaches (λ a. a < words_of_shape shape) (advance_all h.progress es) done.durable) (sym (take_whole plan (length plan) (omega arith)))
      (subst (λ (z : Progress). Reaches (λ a. a < words_of_shape shape) z done.durable) (sym whole) (λ a m. inl refl)) in
      let parts = part_image shape h.progress h.durable done.durable h.state plan (length plan) h.come.rest own.on_log reached in
      let last = own.last done.durable parts.0 in
      subst (λ (z : State). HasState shape done.durable z)
      (λ i. record { log = r ∷ (ap (λ (z : State). z.log) (sym h.is)) i; words = heap_stays i; room = room }) last

  to_self : Step shape y (with_heap y y.words)
  to_self = stores y.words (λ a. inl refl)

  module _ (may : MayCome shape y r room) where
    images : (k : ℕ) (v : Words) → Reaches (λ a. a < words_of_shape shape) (advance_all h.progress (take k plan)) v → (x : State) × HasState shape v x × Steps shape h.state x
    images k v reached =
        let parts = part_image shape h.progress h.durable v h.state plan k h.come.rest own.on_log reached in
        let stored : Step shape h.state (with_heap h.state (heap_words shape v)) = heap_step shape h.durable v h.state h.come.rest.state.words parts.1 in
        elim (own.images k v parts.0) [
          | inl before ↦ (with_heap h.state (heap_words shape v), before, makes begins stored)
          | inr behind ↦ (with_heap (grown h.state r room) (heap_words shape v), behind, with_record v parts.1)
        ]
      where
        with_record : (v : Words) → ((a : ℕ) → heap shape ≤ a → a < words_of_shape shape → (v a ≡ h.durable a) ⊎ HasDecidingRecord shape.policy h.state.log a) →
            Steps shape h.state (with_heap (grown h.state r room) (heap_words shape v))
        with_record v each =
            let moved : (a : ℕ) → heap shape ≤ a → a < words_of_shape shape → (v a ≡ newest_at region a) ⊎ HasDecidingRecord shape.policy y.log a =
            λ a le lt. elim (each a le lt) [
              | inr c ↦ inr (subst (λ (z : State). HasDecidingRecord shape.policy z.log a) (sym h.is) c)
              | inl e ↦ elim (newest_cases a le lt) [ inr c ↦ inr (subst (λ (z : State). HasDecidingRecord shape.policy z.log a) (sym h.is) c) | inl d ↦ inl (e ∙ sym d) ]
            ] in
            let stored : Step shape y (with_heap y (heap_words shape v)) = heap_step shape (newest_at region) v y (ap (λ (z : State). z.words) h.is) moved in
            let record_there : Step shape (with_heap y (heap_words shape v)) (grown (with_heap y (heap_words shape v)) r room) = may (heap_words shape v) stored in
            let all : Steps shape h.state (grown (with_heap y (heap_words shape v)) r room) = makes (makes (makes begins (reached_step shape first y region h)) stored) record_there in
            subst (λ (z : State). Steps shape h.state z) (λ i. record { log = r ∷ (ap (λ (z : State). z.log) h.is) i; words = heap_words shape v; room = room }) all
          where
            newest_cases : (a : ℕ) → heap shape ≤ a → a < words_of_shape shape → (newest_at region a ≡ h.durable a) ⊎ HasDecidingRecord shape.policy h.state.log a
            newest_cases a le lt = elim (latest_cases h.progress.pending a (h.progress.durable a)) [
              | inl none ↦ inl (newest_latest shape first y region h a lt ∙ none.0 ∙ h.come.rest.durable a lt)
              | inr wrote ↦ inr (h.come.rest.heap a le (latest h.progress.pending a (h.progress.durable a)) wrote)
            ]

    pub reached_append_leads : Leads shape h.progress h.state plan
    reached_append_leads = record { durable = own.durable; images = images }

    pub reached_append_done : AreOffHeader shape plan → HasSettled shape first (grown y r room) (after_plan RECOVERY_LANE region plan)
    reached_append_done off =
        plan_done shape first y (grown y r room) region plan done.durable h reached_append_leads whole has_end
        (makes (makes (makes begins (reached_step shape first y region h)) to_self) (may y.words to_self))
        (λ a v is one. plan_keeps RECOVERY_LANE region plan a v (off a is) one)

-- from a settled state
pub settled_append : (shape : Shape) (first y : State) (region : Region) (r : Record) (room : ℕ → ℕ) (plan : List Event) (h : HasSettled shape first y region) →
    IsAppend shape (newest_at region) y r room plan → IsAppend shape h.durable y r room plan
settled_append shape first y region r room plan h append =
    append_same shape (newest_at region) h.durable y.words y r room plan (λ a lt. settled_newest shape first y region h a (omega (arith, lt))) append

pub settled_leads : (shape : Shape) (first y : State) (region : Region) (r : Record) (room : ℕ → ℕ) (plan : List Event) (h : HasSettled shape first y region) →
    IsAppend shape (newest_at region) y r room plan → Step shape y (grown y r room) → Leads shape (start h.durable) y plan
settled_leads shape first y region r room plan h append step =
    settled_append_leads shape h.durable y r room plan h.come.rest (settled_append shape first y region r room plan h append) step

pub settled_append_settles : (shape : Shape) (first y : State) (region : Region) (r : Record) (room : ℕ → ℕ) (plan : List Event) → HasSettled shape first y region →
    IsAppend shape (newest_at region) y r room plan → Step shape y (grown y r room) → AreOffHeader shape plan → HasSettled shape first (grown y r room) (after_plan RECOVERY_LANE region plan)
settled_append_settles shape first y region r room plan h append step off =
    let own = settled_append shape first y region r room plan h append in
    let end = settled_append_done shape first h.durable y r room plan region h.come own step in
    let whole : advance_all (start h.durable) plan ≡ start (advance (advance_all (start h.durable) own.front) Fence).durable =
    ap (advance_all (start h.durable)) own.fenced ∙ advance_all-append (start h.durable) own.front (Fence ∷ []) in
    settles shape first y (grown y r room) end.0 region (after_plan RECOVERY_LANE region plan) (settled_reached shape first y region h)
    (λ a v is one. plan_keeps RECOVERY_LANE region plan a v (off a is) one) end.1
    (λ a lt. single_plan (words_of_shape shape) (start h.durable) region plan h.come.size own.durable h.come.tracks (λ b below none. h.settled b below) a lt
    (λ v k. subst (λ (q : Progress). Wrote q.pending a v) whole k))
