-- The state behind a group of a closing is sound.
use Rattle.std.proofs.Common.{◌≡◌, inl, ℕ, ◌<◌, [], Bool, true, false, cond, nat_lt, length, refl, sym, ap, ◌∙◌, subst, arith}
use Rattle.std.proofs.lemmas.Bool.Decides.{nat_tests}
use Rattle.std.proofs.lemmas.List.{take_all}
use Rattle.persist_model.specs.Region.{Words}
use Rattle.persist_model.specs.Progress.{start, advance_all}
use Rattle.persist_model.specs.Shape.{Shape, heap, heap_words, log_words, words_of_shape}
use Rattle.log_laws.specs.Closing.{MayClear}
use Rattle.log_laws.specs.Recovering.{with_heap}
use Rattle.log_laws.proofs.Recovering.{state_with_heap}
use Rattle.log_laws.proofs.Soundness.{sound_of_image}
use Rattle.bucket_log.proofs.PartStates.{log_words_same}
use Rattle.log_clearing.specs.Plans.{closing_plan}
use Rattle.log_clearing.specs.Closed.{IsListed}
use Rattle.log_clearing.specs.Clearing.{IsClearing, IsDropping}
use Rattle.log_clearing.proofs.ClearingStates.{closings_keep, droppings_keep, sound_with_heap}
use Rattle.log_keeper.specs.Parts.{closes, takes_back, words_behind}
use Rattle.log_keeper.specs.Laws.{GroupsStaySound, TakingsBackStaySound}

-- w's log words, and h's heap words
abbrev mixed : Shape → Words → Words → Words
mixed shape w h = λ a. cond (nat_lt a (heap shape)) (w a) (h a)

mixed_below : (shape : Shape) (w h : Words) (a : ℕ) → a < heap shape → mixed shape w h a ≡ w a
mixed_below shape w h a lt = let on : nat_lt a (heap shape) ≡ true = grind (arith, nat_tests, lt) in ap (λ t. cond t (w a) (h a)) on

mixed_heap : (shape : Shape) (w h : Words) → heap_words shape h ≡ heap_words shape (mixed shape w h)
mixed_heap shape w h = λ i a. by a (nat_lt a (heap shape)) i
  where
    by : (a : ℕ) (t : Bool) → cond t 0 (cond (nat_lt a (words_of_shape shape)) (h a) 0) ≡ cond t 0 (cond (nat_lt a (words_of_shape shape)) (cond t (w a) (h a)) 0)
    by a true = refl
    by a false = refl

mixed_log : (shape : Shape) (w h : Words) → log_words shape (mixed shape w h) ≡ log_words shape w
mixed_log shape w h = λ i a. log_words_same shape w (mixed shape w h) a (mixed_below shape w h a) i

pub groups_stay_sound : GroupsStaySound
groups_stay_sound shape p base h s x gates ends checkpoints few has sound groups may behind =
    sound_with_heap shape (with_heap x (heap_words shape v)) x.words
    (sound_of_image shape v clearing.state (with_heap x (heap_words shape v)) clearing.has (state_with_heap shape later v x (mixed_log shape later h) behind) clearing.sound)
  where
    later : Words
    later = words_behind shape p (closes gates ends checkpoints) base

    v : Words
    v = mixed shape (words_behind shape p (closes gates ends checkpoints) base) h

    clearing : IsClearing shape (mixed shape (words_behind shape p (closes gates ends checkpoints) base) h) s gates ends checkpoints
    clearing = closings_keep shape base (mixed shape (words_behind shape p (closes gates ends checkpoints) base) h) s gates ends checkpoints (length (closing_plan gates ends checkpoints)) few has sound groups
        (subst (λ w. MayClear shape.policy s.log w (IsListed gates ends checkpoints)) (mixed_heap shape (words_behind shape p (closes gates ends checkpoints) base) h) may)
        (λ a lt. inl (mixed_below shape (words_behind shape p (closes gates ends checkpoints) base) h a lt ∙ ap (λ es. (advance_all (start base) es).durable a)
        (sym (take_all (length (closing_plan gates ends checkpoints)) (closing_plan gates ends checkpoints) (omega arith)))))

pub takings_back_stay_sound : TakingsBackStaySound
takings_back_stay_sound shape p base s x gates few has sound deferred behind =
    sound_with_heap shape (with_heap x (heap_words shape later)) x.words
    (sound_of_image shape later dropping.state (with_heap x (heap_words shape later)) dropping.has (state_with_heap shape later later x refl behind) dropping.sound)
  where
    later : Words
    later = words_behind shape p (takes_back gates) base

    dropping : IsDropping shape (words_behind shape p (takes_back gates) base) s gates
    dropping = droppings_keep shape base (words_behind shape p (takes_back gates) base) s gates (length (closing_plan gates [] [])) few has sound deferred
        (λ a lt. inl (ap (λ es. (advance_all (start base) es).durable a) (sym (take_all (length (closing_plan gates [] [])) (closing_plan gates [] []) (omega arith)))))
