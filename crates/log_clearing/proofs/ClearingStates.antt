-- A closing in the form of states.
use Rattle.std.proofs.Common.{◌≡◌, ◌⊎◌, inl, inr, ℕ, Bool, true, false, ◌<◌, if◌then◌else◌, List, [], length, take, refl, sym, ap, subst, ◌∙◌, arith, nat_lt}
use Rattle.std.proofs.lemmas.Bool.{ltb-true}
use Rattle.std.proofs.lemmas.List.{take_all}
use Rattle.persist_model.specs.Region.{Words}
use Rattle.persist_model.specs.Progress.{Wrote, start, advance_all, Reaches}
use Rattle.persist_model.specs.Records.{Record, IsAmong}
use Rattle.persist_model.specs.Shape.{Shape, heap, log_words, heap_words, part_of}
use Rattle.persist_model.specs.ImageRecords.{cell_address, record_at}
use Rattle.persist_model.specs.State.{State, IsSoundState}
use Rattle.persist_model.specs.Sound.{HasState}
use Rattle.log_laws.specs.Closing.{IsClosing}
use Rattle.log_laws.specs.Moves.{IsDeferred, drops_records, drops_deletions}
use Rattle.log_laws.specs.Recovering.{with_heap}
use Rattle.log_laws.proofs.Clearing.{closed_by}
use Rattle.log_laws.proofs.Moving.{moves_keep}
use Rattle.log_clearing.specs.Plans.{closing_plan}
use Rattle.log_clearing.specs.Closed.{AreGroups, IsListed}
use Rattle.log_clearing.specs.Clearing.{ClosingLeaves, ClosingsKeep, DroppingsKeep, ClosingsClear, ClosingsEnd}
use Rattle.log_clearing.proofs.ClosingWords.{closed, latest_zero, latest_away, closing_ends}
use Rattle.log_clearing.proofs.ClosedStates.{part_in, part_map}
use Rattle.log_clearing.proofs.ClosingImages.{closing_image}

-- the heap words are none of soundness
pub sound_with_heap : (shape : Shape) (s : State) (h : Words) → IsSoundState shape s → IsSoundState shape (with_heap s h)
sound_with_heap shape s h sound = record {
  newest_first = sound.newest_first;
  gates = sound.gates;
  formed = sound.formed;
  order = sound.order;
  room = sound.room;
  numbers = sound.numbers;
}

pub closings_keep : ClosingsKeep
closings_keep shape w v s gates ends checkpoints k few has sound groups may r =
    let part = closing_image shape w v s gates ends checkpoints k few has groups r in
    let h : Words = heap_words shape v in
    let closing : IsClosing shape.policy s.log h part.later =
    closed_by (part_of shape) shape.policy s.log h (IsListed gates ends checkpoints) part.later sound.order may part.part in
    let kept = moves_keep shape (with_heap s h) (record { log = part.later; words = h; room = part.room }) (sound_with_heap shape s h sound)
    (drops_records part.later part.room closing part.no_less) in
    record {
      state = record { log = part.later; words = h; room = part.room };
      has = part.state h refl;
      sound = kept.0;
      keeps = kept.1;
      part = part.part;
      closing = closing;
      no_less = part.no_less;
    }

-- ---- deletions of running transactions

-- a record is known by its address
record_is : (shape : Shape) (w : Words) (s : State) → HasState shape w s → (r : Record) → IsAmong s.log r → r ≡ record_at (log_words shape w) r.at
record_is shape w s has r m =
    let k = (has.records.each r).0 m in
    let at : r.at ≡ cell_address k.2.bucket k.2.place = ap (λ (x : Record). x.at) k.2.is in
    k.2.is ∙ ap (record_at (log_words shape w)) (sym at)

pub droppings_keep : DroppingsKeep
droppings_keep shape w v s gates k few has sound deferred r =
    let part = closing_image shape w v s gates [] [] k few has groups r in
    let h : Words = heap_words shape v in
    let gone = part_map _ (λ d. IsDeferred s.log d × IsAmong gates d.at) part.later s.log (λ d m listed. (by d m (listed_gate d listed.0), listed_gate d listed.0)) part.part.part in
    let kept = moves_keep shape (with_heap s h) (record { log = part.later; words = h; room = part.room }) (sound_with_heap shape s h sound)
    (drops_deletions part.later part.room (part_map _ (IsDeferred s.log) part.later s.log (λ d m both. both.0) gone) part.no_less) in
    record {
      state = record { log = part.later; words = h; room = part.room };
      has = part.state h refl;
      sound = kept.0;
      keeps = kept.1;
      part = gone;
      no_less = part.no_less;
    }
  where
    groups : AreGroups s.log gates [] []
    groups = record {
      of_gates = λ a m. (let d = deferred a m in let six = d.2.1.0 in
          (d.0, d.1, (d.2.0, (λ four. absurd (omega (arith, four, six))), (λ five. absurd (omega (arith, five, six))))));
      of_ends = λ a m. absurd m;
      of_checkpoints = λ a m. absurd m;
    }

    listed_gate : (d : Record) → IsListed gates [] [] d → IsAmong gates d.at
    listed_gate d (inl m) = m
    listed_gate d (inr (inl m)) = absurd m
    listed_gate d (inr (inr m)) = absurd m

    by : (d : Record) → IsAmong s.log d → IsAmong gates d.at → IsDeferred s.log d
    by d m on =
        let x = deferred d.at on in
        let same : x.0 ≡ d = record_is shape w s has x.0 x.1 ∙ ap (record_at (log_words shape w)) x.2.0 ∙ sym (record_is shape w s has d m) in
        subst (λ y. IsDeferred s.log y) same x.2.1

-- ---- the end

stay : (gates : List ℕ) (w : Words) (a : ℕ) → (IsAmong gates a → ⊥) → closed gates w a ≡ w a
stay gates w a off = elim (latest_away gates a (w a)) [ inl e ↦ e | inr k ↦ absurd (off k.0) ]

pub closings_end : ClosingsEnd
closings_end w gates ends checkpoints = subst (ClosingLeaves w gates ends checkpoints) (sym (closing_ends w gates ends checkpoints)) (record {
  nothing_pending = refl;
  closed = λ a m. shut a m;
  others = λ a off. stay checkpoints (closed ends (closed gates w)) a (λ m. off (inr (inr m))) ∙ stay ends (closed gates w) a (λ m. off (inr (inl m))) ∙ stay gates w a (λ m. off (inl m));
})
  where
    shut : (a : ℕ) → IsAmong gates a ⊎ IsAmong ends a ⊎ IsAmong checkpoints a → closed checkpoints (closed ends (closed gates w)) a ≡ 0
    shut a (inl on) = latest_zero checkpoints a (closed ends (closed gates w) a) (inr (latest_zero ends a (closed gates w a) (inr (latest_zero gates a (w a) (inl on)))))
    shut a (inr (inl on)) = latest_zero checkpoints a (closed ends (closed gates w) a) (inr (latest_zero ends a (closed gates w a) (inl on)))
    shut a (inr (inr on)) = latest_zero checkpoints a (closed ends (closed gates w) a) (inl on)

pub closings_clear : ClosingsClear
closings_clear shape w v s gates ends checkpoints few has groups r =
    let part = closing_image shape w v s gates ends checkpoints (length (closing_plan gates ends checkpoints)) few has groups
    (subst (λ es. Reaches (λ a. a < heap shape) (advance_all (start w) es) v) (sym all) r) in
    record {
      state = record { log = part.later; words = heap_words shape v; room = part.room };
      has = part.state (heap_words shape v) refl;
      closed = λ x m on. part.gates_open x m (shut x.at on (nat_lt x.at (heap shape)) refl);
      stays = λ x m off. part_in _ part.later s.log part.part.part x m (λ k. off k.0);
    }
  where
    all : take (length (closing_plan gates ends checkpoints)) (closing_plan gates ends checkpoints) ≡ closing_plan gates ends checkpoints
    all = take_all (length (closing_plan gates ends checkpoints)) (closing_plan gates ends checkpoints) (omega arith)

    leaves : ClosingLeaves w gates ends checkpoints (advance_all (start w) (closing_plan gates ends checkpoints))
    leaves = closings_end w gates ends checkpoints

    shut : (a : ℕ) → IsAmong gates a ⊎ IsAmong ends a ⊎ IsAmong checkpoints a → (t : Bool) → nat_lt a (heap shape) ≡ t → (if t then v a else 0) ≡ 0
    shut a on true e = elim (r a (ltb-true a (heap shape) e)) [
      | inl at ↦ at ∙ leaves.closed a on
      | inr x ↦ absurd (subst (λ ws. Wrote ws a (v a)) leaves.nothing_pending x)
    ]
    shut a on false e = refl
