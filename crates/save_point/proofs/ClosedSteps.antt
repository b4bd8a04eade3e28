-- The closing of deletions keeps a lane in step, and the newest values of the words.
use Rattle.std.proofs.Common.{◌≡◌, ◌≢◌, inl, inr, ℕ, ◌<◌, ◌≤◌, Bool, true, false, cond, nat_lt, List, [], ◌∷◌, ◌++◌, refl, sym, ap, ◌∙◌, subst, arith}
use Rattle.std.proofs.lemmas.Bool.{ltb-true}
use Rattle.persist_model.specs.declared.event.Event.TheVariants.{Fence}
use Rattle.persist_model.specs.Region.{Words}
use Rattle.persist_model.specs.Progress.{Progress, advance_all}
use Rattle.persist_model.specs.Records.{Record, Log, IsAmong, IsChange}
use Rattle.persist_model.specs.Shape.{Shape, heap, log_words}
use Rattle.persist_model.specs.ImageRecords.{cell_address}
use Rattle.persist_model.specs.Sound.{HasState}
use Rattle.persist_model.specs.State.{State, IsSoundState}
use Rattle.persist_model.proofs.Projecting.{AreAway, AreAway-append, IsDue-aways}
use Rattle.log_laws.specs.Closing.{IsSublog}
use Rattle.log_laws.proofs.Closings.{part_among}
use Rattle.log_clearing.specs.Plans.{closes, group, closing_plan}
use Rattle.log_clearing.proofs.ClosedStates.{part_in}
use Rattle.plan_records.specs.HeapCourses.{newest, IsInStep}
use Rattle.save_point.specs.Conditions.{IsDeletionOf, AreOwnDeletions}
use Rattle.save_point.specs.Newest.{BacksSettle}
use Rattle.save_point.proofs.UndoSteps.{pending_back, undo_in_step, undo_values}

-- a record's gate stands before the heap
gate_inside : (shape : Shape) (w : Words) (x : State) (r : Record) → HasState shape w x → IsAmong x.log r → r.at < heap shape
gate_inside shape w x r has m = by (nat_lt r.at (heap shape)) refl
  where
    open_gate : log_words shape w r.at ≢ 0
    open_gate zeroed =
        let cell = ((has.records.each r).0 m).2 in
        let at : r.at ≡ cell_address cell.bucket cell.place = ap (λ (y : Record). y.at) cell.is in
        cell.gate (ap (λ (y : Record). y.lsn) cell.is ∙ ap (log_words shape w) (sym at) ∙ zeroed)

    by : (test : Bool) → nat_lt r.at (heap shape) ≡ test → r.at < heap shape
    by true e = ltb-true r.at (heap shape) e
    by false e = absurd (open_gate (ap (λ test. cond test (w r.at) 0) e))

closes_away : (a : ℕ) (gates : List ℕ) → ((g : ℕ) → IsAmong gates g → g ≢ a) → AreAway a (closes gates ++ Fence ∷ [])
closes_away a [] off = (tt, tt)
closes_away a (g ∷ gates) off = (off g (inl refl), closes_away a gates (λ b m. off b (inr m)))

group_away : (a : ℕ) (gates : List ℕ) → ((g : ℕ) → IsAmong gates g → g ≢ a) → AreAway a (group gates)
group_away a [] off = tt
group_away a (g ∷ gates) off = (off g (inl refl), closes_away a gates (λ b m. off b (inr m)))

closing_away : (shape : Shape) (t : ℕ) (x : State) (w : Words) (gates : List ℕ) (a : ℕ) → HasState shape w x → AreOwnDeletions t x.log gates → heap shape ≤ a →
    AreAway a (closing_plan gates [] [])
closing_away shape t x w gates a has own up = AreAway-append a (group gates) [] (group_away a gates (λ g m same.
    (let d = own g m in let low = gate_inside shape w x d.0 has d.1 in let at = d.2.0 in omega (arith, low, at, same, up)))) tt

change_stays : (t : ℕ) (later log : Log) → IsSublog (IsDeletionOf t) later log → (r : Record) → IsAmong log r → IsChange r → IsAmong later r
change_stays t later log part r m change = part_in (IsDeletionOf t) later log part r m (λ is. (let six = is.0 in elim change [
  | inl one ↦ absurd (omega (arith, one, six))
  | inr two ↦ absurd (omega (arith, two, six))
]))

closed_in_step : (shape : Shape) (t : ℕ) (x : State) (later : Log) (w : Words) (gates : List ℕ) (z : Progress) → HasState shape w x → IsSoundState shape x →
    AreOwnDeletions t x.log gates → IsSublog (IsDeletionOf t) later x.log → IsInStep shape x.log t z → IsInStep shape later t (advance_all z (closing_plan gates [] []))
closed_in_step shape t x later w gates z has sound own part h = record {
  newest_values = λ a r last.
      (let m = part_among (IsDeletionOf t) later x.log part r last.among in
      let up : heap shape ≤ a = subst (λ b. heap shape ≤ b) last.has.1 ((sound.formed r m).change last.has.0).0.0 in
      IsDue-aways z a r.after (closing_plan gates [] []) (closing_away shape t x w gates a has own up) (h.newest_values a r (record {
        among = m;
        has = last.has;
        last = λ y k c. last.last y (change_stays t later x.log part y k c.0) c;
      })));
  no_other = λ a v up k.
      (let r = h.no_other a v up (pending_back z a v (closing_plan gates [] []) (closing_away shape t x w gates a has own up) k) in
      (r.0, change_stays t later x.log part r.0 r.1 r.2.0, r.2));
}

pub backs_settle : BacksSettle
backs_settle = record {
  in_step = undo_in_step;
  values = undo_values;
  closings = closed_in_step;
  closings_values = λ shape t x w gates z a has own up. IsDue-aways z a (newest z a) (closing_plan gates [] []) (closing_away shape t x w gates a has own up) refl;
}
