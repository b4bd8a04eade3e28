-- What stands of a transaction behind the going back, and that it may end from there.
use Rattle.std.proofs.Common.{◌≡◌, inl, inr, ℕ, ◌<◌, List, [], ◌∷◌, length, take, refl, sym, ap, ◌∙◌, subst, arith}
use Rattle.std.proofs.lemmas.List.{take_all}
use Rattle.persist_model.specs.Kinds.{DELETION}
use Rattle.persist_model.specs.Region.{Words}
use Rattle.persist_model.specs.Progress.{Reaches, start, advance_all}
use Rattle.persist_model.specs.Records.{Record, Log, IsAmong, HasNo, IsOf, IsEnd}
use Rattle.persist_model.specs.Order.{undo_point}
use Rattle.persist_model.specs.Need.{to_undo}
use Rattle.persist_model.specs.Shape.{Shape, heap, log_words}
use Rattle.persist_model.specs.Sound.{HasState}
use Rattle.persist_model.specs.ImageRecords.{cell_address, record_at}
use Rattle.persist_model.specs.State.{State, IsSoundState}
use Rattle.persist_model.specs.declared.kinds.Outcome.TheVariants.{Committed, RolledBack}
use Rattle.log_laws.specs.Closing.{IsSublog, empty, stays, goes}
use Rattle.log_laws.specs.MoveRoom.{HasItsCells}
use Rattle.log_laws.specs.Moves.{IsDeferred}
use Rattle.log_laws.proofs.Closings.{part_among}
use Rattle.log_laws.proofs.Soundness as soundness
use Rattle.log_laws.proofs.Stacks.{IsTo, updates, compensates, neither, is_to}
use Rattle.region_layout.specs.declared.layout.Policy.{Policy}
use Rattle.region_layout.specs.RecordCells.{cell_of_end}
use Rattle.bucket_log.specs.declared.append.Place.{Place}
use Rattle.log_clearing.specs.Plans.{closing_plan}
use Rattle.log_clearing.specs.Closed.{IsListed}
use Rattle.log_clearing.specs.Clearing.{IsDropping, IsCleared}
use Rattle.log_clearing.proofs.ClosedStates.{part_map}
use Rattle.log_clearing.proofs.ClearingStates.{droppings_keep, closings_clear}
use Rattle.plan_records.specs.Cells.{appended}
use Rattle.plan_records.specs.Appends.{MayAppend}
use Rattle.plan_records.specs.Conditions.{IsOfOpen}
use Rattle.plan_records.specs.Courses.{own_records, IsGoing, AreCellsOf}
use Rattle.plan_records.proofs.OwnRecords.{own_in, own_out, to_undo_own}
use Rattle.plan_records.proofs.Going.{part_is, going_all, open_of}
use Rattle.plan_records.proofs.Records.{commit_ends_write}
use Rattle.plan_records.proofs.UndoneEnds.{undone_ends_keep}
use Rattle.save_point.specs.Conditions.{IsDeletionOf, AreOwnDeletions}
use Rattle.save_point.specs.Ends.{top_number, HasGoneBack, IsBackIn, BacksEnd, BacksMayEnd}
use Rattle.save_point.proofs.OwnPoints.{undo_point_own, has_point}
use Rattle.save_point.proofs.UndoCourse.{Stays, Fits, done, fits, rolls_nowhere}
use Rattle.save_point.proofs.UndoImages.{own_deletions, own_groups, are_deferred, open_less}

-- ---- behind the undo

deletion_of : (t : ℕ) (d : Record) → IsDeletionOf t d → IsOf t d
deletion_of t d is = (is.1, λ five. (let six = is.0 in absurd (omega (arith, five, six))))

undone_there : (policy : Policy) (shape : Shape) (p t : ℕ) (s x : State) (left : Log) → IsSoundState shape s → HasNo (λ e. IsEnd e × (e.transaction ≡ t)) s.log →
    Fits policy shape p t left (own_records t s.log) (own_records t x.log) [] → HasGoneBack shape p t s.log [] left x.log
undone_there policy shape p t s x left sound running (done stay is) =
    let k = stay.point (has_point shape s t sound running) in
    record {
      going = going_all shape p t x.log stay.going;
      not_rolled = rolls_nowhere shape p t (own_records t s.log) x stay;
      undo = to_undo_own t x.log ∙ is;
      point = sym (undo_point_own t x.log) ∙ k.point ∙ ap top_number is;
      deletions = λ d of. (
        (λ m. ((own_out t s.log d ((stay.deletions d of).0 (own_in t x.log d m (deletion_of t d of)))).0, λ none. none)),
        (λ both. (own_out t x.log d ((stay.deletions d of).1 (own_in t s.log d both.0 (deletion_of t d of)))).0),
      );
    }

-- ---- a log without some deletions

module _ (D : Record → Type 0) (six : (d : Record) → D d → d.kind ≡ DELETION) where
  to_undo_less : (t : ℕ) (later log : Log) → IsSublog D later log → to_undo t later ≡ to_undo t log
  to_undo_less t _ _ empty = refl
  to_undo_less t _ _ (stays r part) = rw (to_undo_less t _ _ part) refl
  to_undo_less t _ _ (goes d {later = later} {log = log} is part) = by (is_to t d) (to_undo_less t _ _ part)
    where
      by : IsTo t d → to_undo t later ≡ to_undo t log → to_undo t later ≡ to_undo t (d ∷ log)
      by (updates one update own) again = (let k = six d is in absurd (omega (arith, k, update)))
      by (compensates not_one two comp own) again = (let k = six d is in absurd (omega (arith, k, comp)))
      by (neither not_one not_two k) again = rw (not_one, not_two) again

  undo_point_same : (t : ℕ) (later log : Log) → IsSublog D later log → undo_point t later ≡ undo_point t log
  undo_point_same t _ _ empty = refl
  undo_point_same t _ _ (stays r part) = rw (undo_point_same t _ _ part) refl
  undo_point_same t _ _ (goes d {later = later} {log = log} is part) = by (is_to t d) (undo_point_same t _ _ part)
    where
      by : IsTo t d → undo_point t later ≡ undo_point t log → undo_point t later ≡ undo_point t (d ∷ log)
      by (updates one update own) again = (let k = six d is in absurd (omega (arith, k, update)))
      by (compensates not_one two comp own) again = (let k = six d is in absurd (omega (arith, k, comp)))
      by (neither not_one not_two k) again = rw (not_one, not_two) again

going_less : (P : Record → Type 0) (shape : Shape) (p t : ℕ) (later log : Log) → IsSublog P later log → IsGoing shape p t log → IsGoing shape p t later
going_less P shape p t later log part h = record {
  transaction = h.transaction;
  running = λ e m end. h.running e (part_among P later log part e m) end;
  in_part = λ y m of. h.in_part y (part_among P later log part y m) of;
}

-- ---- behind the closing

not_listed : (gates : List ℕ) (d : Record) → (IsAmong gates d.at → ⊥) → IsListed gates [] [] d → ⊥
not_listed gates d off (inl m) = off m
not_listed gates d off (inr (inl m)) = m
not_listed gates d off (inr (inr m)) = m

-- a record is known by its address
record_is : (shape : Shape) (w : Words) (x : State) → HasState shape w x → (r : Record) → IsAmong x.log r → r ≡ record_at (log_words shape w) r.at
record_is shape w x has r m =
    let k = (has.records.each r).0 m in
    let at : r.at ≡ cell_address k.2.bucket k.2.place = ap (λ (y : Record). y.at) k.2.is in
    k.2.is ∙ ap (record_at (log_words shape w)) (sym at)

own_gate : (shape : Shape) (t : ℕ) (w : Words) (x : State) (gates : List ℕ) → HasState shape w x → AreOwnDeletions t x.log gates → (d : Record) → IsAmong x.log d →
    IsAmong gates d.at → IsDeletionOf t d
own_gate shape t w x gates has own d m on =
    let k = own d.at on in
    let same : k.0 ≡ d = record_is shape w x has k.0 k.1 ∙ ap (record_at (log_words shape w)) k.2.0 ∙ sym (record_is shape w x has d m) in
    subst (IsDeletionOf t) same k.2.1

closed_there : (shape : Shape) (p t : ℕ) (before : Log) (gates : List ℕ) (left : Log) (x : State) (w v : Words) → HasState shape w x → AreOwnDeletions t x.log gates → HasGoneBack shape p t before [] left x.log →
    IsDropping shape v x gates → IsCleared shape v x gates [] [] → IsBackIn shape p t before gates left x v
closed_there shape p t before gates left x w v has own back drops clear = record {
  state = drops.state;
  has = drops.has;
  sound = drops.sound;
  standing = drops.keeps;
  back = record {
    going = going_less _ shape p t drops.state.log x.log drops.part back.going;
    not_rolled = (open_less _ t drops.state.log x.log drops.part (back.going.running, back.not_rolled)).1;
    undo = to_undo_less (λ d. IsDeferred x.log d × IsAmong gates d.at) (λ d is. is.0.0) t drops.state.log x.log drops.part ∙ back.undo;
    point = undo_point_same (λ d. IsDeferred x.log d × IsAmong gates d.at) (λ d is. is.0.0) t drops.state.log x.log drops.part ∙ back.point;
    deletions = λ d of. (
      (λ m. (((back.deletions d of).0 (part_among _ drops.state.log x.log drops.part d m)).0, λ on. clear.closed d (subst (λ l. IsAmong l d) same m) (inl on))),
      (λ both. subst (λ l. IsAmong l d) (sym same) (clear.stays d ((back.deletions d of).1 (both.0, λ none. none)) (not_listed gates d both.1))),
    );
  };
  part = part_map _ (λ d. IsDeletionOf t d × IsAmong gates d.at) drops.state.log x.log (λ d m is. (own_gate shape t w x gates has own d m is.1, is.1)) drops.part;
  no_less = drops.no_less;
}
  where
    same : drops.state.log ≡ clear.state.log
    same = soundness.same_log shape v drops.state clear.state drops.has clear.has

whole_of : (shape : Shape) (w v : Words) (gates : List ℕ) → Reaches (λ a. a < heap shape) (advance_all (start w) (closing_plan gates [] [])) v →
    Reaches (λ a. a < heap shape) (advance_all (start w) (take (length (closing_plan gates [] [])) (closing_plan gates [] []))) v
whole_of shape w v gates r = subst (λ es. Reaches (λ a. a < heap shape) (advance_all (start w) es) v)
    (sym (take_all (length (closing_plan gates [] [])) (closing_plan gates [] []) (omega arith))) r

stays_of : (policy : Policy) (shape : Shape) (p t : ℕ) (left first o : Log) → Fits policy shape p t left first o [] → Stays shape p t first o
stays_of policy shape p t left first o (done stay is) = stay

pub backs_end : BacksEnd
backs_end = record {
  undone = λ policy shape p t s us left x sound can course.
      undone_there policy shape p t s x left sound can.going.running (fits policy shape p t s us left [] x can course);
  closed = λ policy shape p t s us left gates x w v few sound can own course has sound_x reached.
      (let fit = fits policy shape p t s us left [] x can course in
      let back = undone_there policy shape p t s x left sound can.going.running fit in
      let own_x = own_deletions shape p t s x gates (stays_of policy shape p t left (own_records t s.log) (own_records t x.log) fit) own in
      closed_there shape p t s.log gates left x w v has own_x back
      (droppings_keep shape w v x gates (length (closing_plan gates [] [])) few has sound_x (are_deferred t x.log gates back.going.running own_x) (whole_of shape w v gates reached))
      (closings_clear shape w v x gates [] [] few has (own_groups t x.log gates own_x) reached));
}

-- ---- the end of the transaction

open_end : (shape : Shape) (p t : ℕ) (w : Words) (y : State) (chain : List ℕ) (place : Place) (e : Record) → IsGoing shape p t y.log → e.transaction ≡ t →
    MayAppend shape p w y chain place e → HasItsCells shape y e 1 → IsOfOpen shape y e 1
open_end shape p t w y chain place e going own may cells = open_of shape p t y e 1 going own (part_is shape p w y chain place e may) cells

pub backs_may_end : BacksMayEnd
backs_may_end = record {
  commits = λ shape p t before gates left log owners back given. record { going = back.going; given = given };
  aborts = λ shape p t before gates left log us back cells. record { going = back.going; first = back.not_rolled; left = subst (AreCellsOf us) (sym back.undo) cells };
  committed = λ shape p t before gates left w y chain place number back may cells. commit_ends_write shape p w y chain place number t may
      (open_end shape p t w y chain place (appended place number (cell_of_end t Committed)) back.going refl may cells);
  aborted = λ shape p t before gates w y chain place number back may cells. undone_ends_keep shape p w y chain place number t may (record {
    open_one = open_end shape p t w y chain place (appended place number (cell_of_end t RolledBack)) back.going refl may cells;
    nothing_left = back.undo;
  });
}
