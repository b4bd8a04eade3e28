-- A closing as a part of recovery: each image of each prefix, and its end.
use Rattle.std.proofs.Common.{◌≡◌, ◌⊎◌, inl, inr, ℕ, Bool, true, false, ◌<◌, ◌≤◌, if◌then◌else◌, List, [], ◌∷◌, ◌++◌, length, take, refl, sym, subst, ◌∙◌, arith, nat_lt}
use Rattle.std.proofs.lemmas.Bool.{ltb-true, ltb-false}
use Rattle.persist_model.specs.declared.event.Event.{Event}
use Rattle.persist_model.specs.declared.event.Event.TheVariants.{Fence}
use Rattle.persist_model.specs.Region.{Words, Region}
use Rattle.persist_model.specs.Progress.{Progress, Reaches, start, advance_all}
use Rattle.persist_model.specs.Records.{Record, IsAmong}
use Rattle.log_laws.specs.Closing.{MayClear}
use Rattle.persist_model.specs.Shape.{Shape, heap, words_of_shape, heap_words, log_words, part_of}
use Rattle.persist_model.specs.State.{State, IsSoundState}
use Rattle.log_laws.specs.Recovery.{Steps, start as begins, makes, closes}
use Rattle.persist_model.specs.Sound.{HasState}
use Rattle.log_laws.specs.Recovering.{RECOVERY_LANE, IsAtRest, AreOnLog}
use Rattle.log_laws.proofs.Parts.{part_image, part_image_settled}
use Rattle.log_laws.proofs.Clearing.{closed_by}
use Rattle.log_laws.proofs.Closings.{part_among}
use Rattle.log_clearing.specs.Plans.{closes as zeroes, group, closing_plan}
use Rattle.log_clearing.specs.Closed.{AreGroups, IsListed}
use Rattle.log_clearing.proofs.ClosingWords.{closed, closing_ends, latest_zero}
use Rattle.log_clearing.proofs.ClosingImages.{HasPart, closing_image}
use Rattle.log_laws.specs.Parts.{after_plan, AreDurable, HasCome, Leads}
use Rattle.recovery_run.proofs.Composing.{parts_go_on}
use Rattle.recovery_run.proofs.Making.{take_whole}

on_log_append : (shape : Shape) (es fs : List Event) → AreOnLog shape es → AreOnLog shape fs → AreOnLog shape (es ++ fs)
on_log_append shape [] fs h k = k
on_log_append shape (e ∷ es) fs h k = (h.0, on_log_append shape es fs h.1 k)

durable_append : (es fs : List Event) → AreDurable es → AreDurable fs → AreDurable (es ++ fs)
durable_append [] fs h k = k
durable_append (e ∷ es) fs h k = (h.0, durable_append es fs h.1 k)

zeroes_on_log : (shape : Shape) (gates : List ℕ) → ((a : ℕ) → IsAmong gates a → a < heap shape) → AreOnLog shape (zeroes gates)
zeroes_on_log shape [] h = tt
zeroes_on_log shape (a ∷ gates) h = (h a (inl refl), zeroes_on_log shape gates (λ b m. h b (inr m)))

group_on_log : (shape : Shape) (gates : List ℕ) → ((a : ℕ) → IsAmong gates a → a < heap shape) → AreOnLog shape (group gates)
group_on_log shape [] h = tt
group_on_log shape (a ∷ gates) h = on_log_append shape (zeroes (a ∷ gates)) (Fence ∷ []) (zeroes_on_log shape (a ∷ gates) h) (tt, tt)

zeroes_durable : (gates : List ℕ) → AreDurable (zeroes gates)
zeroes_durable [] = tt
zeroes_durable (a ∷ gates) = (tt, zeroes_durable gates)

group_durable : (gates : List ℕ) → AreDurable (group gates)
group_durable [] = tt
group_durable (a ∷ gates) = durable_append (zeroes (a ∷ gates)) (Fence ∷ []) (zeroes_durable (a ∷ gates)) (tt, tt)

-- words that are the same in the heap have the same heap words
pub same_heap : (shape : Shape) (w v : Words) → ((a : ℕ) → heap shape ≤ a → a < words_of_shape shape → v a ≡ w a) → heap_words shape v ≡ heap_words shape w
same_heap shape w v same = λ i a. each a (nat_lt a (heap shape)) refl i
  where
    inner : (a : ℕ) → heap shape ≤ a → (t : Bool) → nat_lt a (words_of_shape shape) ≡ t → (if t then v a else 0) ≡ (if t then w a else 0)
    inner a le true e = same a le (ltb-true a (words_of_shape shape) e)
    inner a le false e = refl

    each : (a : ℕ) (t : Bool) → nat_lt a (heap shape) ≡ t →
        (if t then 0 else (if nat_lt a (words_of_shape shape) then v a else 0)) ≡ (if t then 0 else (if nat_lt a (words_of_shape shape) then w a else 0))
    each a true e = refl
    each a false e = inner a (ltb-false a (heap shape) e) (nat_lt a (words_of_shape shape)) refl

at_rest : (shape : Shape) (d : Words) (y : State) → HasState shape d y → IsAtRest shape (start d) d y
at_rest shape d y has = record { state = has; durable = λ a lt. refl; log = λ a lt v k. k; heap = λ a le v k. elim k [ ] }

-- the records whose gates are listed may be cleared from the state
pub record CanClose (shape : Shape) (s : State) (gates ends checkpoints : List ℕ) : Type 0 where
  pub few : shape.partitions ≤ 3
  pub sound : IsSoundState shape s
  pub groups : AreGroups s.log gates ends checkpoints
  pub may : MayClear shape.policy s.log s.words (IsListed gates ends checkpoints)
  pub inside : (a : ℕ) → IsAmong gates a ⊎ IsAmong ends a ⊎ IsAmong checkpoints a → a < heap shape

-- Recovery has come to settled words that have none of the listed records, and the heap words as before.
pub record HasClosed (shape : Shape) (first s : State) (gates ends checkpoints : List ℕ) (region : Region) : Type 0 where
  pub words : Words
  pub state : State
  pub come : HasCome shape first (start words) words state region
  pub heap : state.words ≡ s.words
  pub fewer : (r : Record) → IsAmong state.log r → IsAmong s.log r
  pub none : (r : Record) → IsAmong state.log r → IsListed gates ends checkpoints r → ⊥

module _ (shape : Shape) (w : Words) (s : State) (gates ends checkpoints : List ℕ) (has : HasState shape w s) (can : CanClose shape s gates ends checkpoints) where
  abbrev plan : List Event
  plan = closing_plan gates ends checkpoints

  on : AreOnLog shape plan
  on = on_log_append shape (group gates) (group ends ++ group checkpoints) (group_on_log shape gates (λ a m. can.inside a (inl m)))
      (on_log_append shape (group ends) (group checkpoints) (group_on_log shape ends (λ a m. can.inside a (inr (inl m)))) (group_on_log shape checkpoints (λ a m. can.inside a (inr (inr m)))))

  part_of_closing : (k : ℕ) (v : Words) → Reaches (λ a. a < words_of_shape shape) (advance_all (start w) (take k plan)) v → HasPart shape v s gates ends checkpoints
  part_of_closing k v r = closing_image shape w v s gates ends checkpoints k can.few has can.groups (part_image shape (start w) w v s plan k (at_rest shape w s has) on r).0

  abbrev state_of : (v : Words) → HasPart shape v s gates ends checkpoints → State
  state_of v part = record { log = part.later; words = s.words; room = part.room }

  step_of : (v : Words) (part : HasPart shape v s gates ends checkpoints) → Steps shape s (state_of v part)
  step_of v part = makes begins (closes part.later part.room
      (closed_by (part_of shape) shape.policy s.log s.words (IsListed gates ends checkpoints) part.later can.sound.order can.may part.part) part.no_less)

  has_of : (k : ℕ) (v : Words) → (r : Reaches (λ a. a < words_of_shape shape) (advance_all (start w) (take k plan)) v) → (part : HasPart shape v s gates ends checkpoints) → HasState shape v (state_of v part)
  has_of k v r part = part.state s.words (has.words ∙ sym (same_heap shape w v (part_image_settled shape w v plan k on r)))

  pub closing_leads : Leads shape (start w) s plan
  closing_leads = record {
    durable = durable_append (group gates) (group ends ++ group checkpoints) (group_durable gates) (durable_append (group ends) (group checkpoints) (group_durable ends) (group_durable checkpoints));
    images = λ k v r. (let part = part_of_closing k v r in (state_of v part, has_of k v r part, step_of v part));
  }

  abbrev end : Words
  end = closed checkpoints (closed ends (closed gates w))

  end_is_zero : (a : ℕ) → IsAmong gates a ⊎ IsAmong ends a ⊎ IsAmong checkpoints a → end a ≡ 0
  end_is_zero a (inl m) = latest_zero checkpoints a (closed ends (closed gates w) a) (inr (latest_zero ends a (closed gates w a) (inr (latest_zero gates a (w a) (inl m)))))
  end_is_zero a (inr (inl m)) = latest_zero checkpoints a (closed ends (closed gates w) a) (inr (latest_zero ends a (closed gates w a) (inl m)))
  end_is_zero a (inr (inr m)) = latest_zero checkpoints a (closed ends (closed gates w) a) (inl m)

  log_zero : (a : ℕ) → end a ≡ 0 → log_words shape end a ≡ 0
  log_zero a e = by_test (nat_lt a (heap shape))
    where
      by_test : (t : Bool) → (if t then end a else 0) ≡ 0
      by_test true = e
      by_test false = refl

  pub closing_done : (first : State) (region : Region) → HasCome shape first (start w) w s region → HasClosed shape first s gates ends checkpoints (after_plan RECOVERY_LANE region plan)
  closing_done first region h =
      let ends_there : advance_all (start w) plan ≡ start end = closing_ends w gates ends checkpoints in
      let r : Reaches (λ a. a < words_of_shape shape) (advance_all (start w) (take (length plan) plan)) end =
      subst (λ (es : List Event). Reaches (λ a. a < words_of_shape shape) (advance_all (start w) es) end) (sym (take_whole plan (length plan) (omega arith)))
      (subst (λ (p : Progress). Reaches (λ a. a < words_of_shape shape) p end) (sym ends_there) (λ a m. inl refl)) in
      let part = part_of_closing (length plan) end r in
      record {
        words = end;
        state = state_of end part;
        come = parts_go_on shape first (start w) w end s (state_of end part) region plan h closing_leads ends_there (has_of (length plan) end r part) (step_of end part);
        heap = refl;
        fewer = λ x m. part_among _ part.later s.log part.part.part x m;
        none = λ x m listed. part.gates_open x m (log_zero x.at (end_is_zero x.at listed));
      }
