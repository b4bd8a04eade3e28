-- From the choices of n partitions to those of one more.
use Rattle.std.proofs.Common.{◌≡◌, ◌≢◌, ◌⊎◌, inl, inr, ℕ, suc, ◌+◌, ◌<◌, ◌≤◌, ◌==◌, true, false, if◌then◌else◌, List, [], length, refl, sym, ap, ◌∙◌, subst, arith}
use Rattle.std.proofs.lemmas.Bool.Decides.{eqb_tells}
use Rattle.persist_model.specs.Region.{Words}
use Rattle.persist_model.specs.Kinds.{CHECKPOINT, COMMITTED}
use Rattle.persist_model.specs.Records.{Record, Log, IsAmong, Has, HasNo, IsOf, IsEnd, IsDeletion, IsRunning, IsEnded, IsCommitted}
use Rattle.persist_model.specs.Standing.{IsToUndo, Stands, undone, deleted, redone, kept}
use Rattle.persist_model.specs.Need.{need_in}
use Rattle.persist_model.specs.Shape.{Shape, part_of, heap, log_words, heap_words}
use Rattle.persist_model.specs.Chain.{view}
use Rattle.persist_model.specs.State.{State, IsSoundState}
use Rattle.persist_model.specs.Sound.{HasState}
use Rattle.log_laws.specs.Closing.{IsApplied, MayClear}
use Rattle.log_laws.specs.Moves.{IsOfRunning}
use Rattle.log_laws.specs.Recovery.{KeepsStanding}
use Rattle.log_laws.specs.Recovering.{with_heap}
use Rattle.log_laws.proofs.Closings.{part_among, part_cases}
use Rattle.log_laws.proofs.Deciding.{decide_equal, has_or_none, decide_to_undo}
use Rattle.atomic_list.specs.declared.plans.Remove.{Remove}
use Rattle.bucket_log.specs.declared.append.Place.{Place}
use Rattle.bucket_log.specs.Appends.{CanAppend, region_append}
use Rattle.bucket_log.specs.States.{less_room}
use Rattle.bucket_log.proofs.Appended.{appends_wait, appends_take_cell}
use Rattle.bucket_log.proofs.PartStates.{less_elsewhere}
use Rattle.log_clearing.specs.Plans.{closing_plan}
use Rattle.log_clearing.specs.Clearing.{AreDeferred, IsClearing, IsDropping}
use Rattle.log_clearing.specs.Closed.{AreGroups, IsListed}
use Rattle.log_clearing.specs.Removals.{CanDrop, region_removal, more_room}
use Rattle.log_clearing.proofs.ClearingStates.{sound_with_heap, closings_keep, droppings_keep}
use Rattle.plan_records.specs.Cells.{appended}
use Rattle.plan_records.specs.Passing.{inserted, Passes}
use Rattle.plan_records.specs.Appends.{MayAppend, MayStandAt, Keeps, Commits, seen, with_record}
use Rattle.plan_records.proofs.Records.{drops_keep}
use Rattle.plan_records.proofs.RoomBound.{room_is_bounded}
use Rattle.history_laws.specs.Histories.{Entry, value_behind}
use Rattle.history_laws.specs.Stands.{has_commit, kept_of}
use Rattle.history_laws.specs.UnderWay.{Added, cell_of, record_of_adding, UnderWay, nothing, appends, closes, takes_back, drops, IsAddedIn, IsClosedIn, IsUnderWayIn}
use Rattle.history_laws.specs.Choices.{IsChosen, HasChoice}
use Rattle.history_laws.specs.Moments.{CanAdd, Serves, IsInFlight, IsClosingGroup, IsTakingBack, IsRunningIn, IsMoment}
use Rattle.history_laws.proofs.Folding.{commit_same, value_kept}
use Rattle.history_laws.proofs.PartWords.{same_state}
use Rattle.history_laws.proofs.Owning.{need_passing, own_running, own_back}
use Rattle.history_laws.proofs.Conditions.{IsBeside, added_plain, added_runs, passes_there}
use Rattle.history_laws.proofs.Choosing.{chosen_kept, chosen_added, chosen_closed, chosen_taken_back}
use Rattle.history_laws.proofs.AppendsBeside.{HeapMeets, append_leaves, left_by, can_there, meets_there, opened, commits_beside, stands_committed}

module _ (shape : Shape) (base : Words) (s : State) (h : Words) (flight : List Entry) (under : ℕ → UnderWay) (found : Words)
    (moment : IsMoment shape base s h flight under found) (n : ℕ) (inside : n < shape.partitions) where
  abbrev Choice : ℕ → Words → Type 0
  Choice k w = HasChoice shape under s h flight found k w

  -- an added record of one of the first n partitions
  ready_in : (q : ℕ) (u : UnderWay) (y : Record) → IsRunningIn shape base s h flight found q u → IsAddedIn shape q u y → (y.kind ≢ CHECKPOINT) × IsOfRunning shape s.log y
  ready_in q nothing y runs added = absurd added
  ready_in q (appends a made) y runs added =
      let plain = added_plain a in
      let running = added_runs shape s (record_of_adding a) a.added (runs.ready added.0).can in
      (subst (λ (z : Record). z.kind ≢ CHECKPOINT) (sym added.1) plain, subst (λ (z : Record). IsOfRunning shape s.log z) (sym added.1) running)
  ready_in q (closes gates ends made) y runs added = absurd added
  ready_in q (takes_back gates made) y runs added = absurd added
  ready_in q (drops r made) y runs added = absurd added

  beside : (r : Record) → IsAddedIn shape n (under n) r → (q : ℕ) (y : Record) → q < n → IsAddedIn shape q (under q) y → IsBeside s.log r y
  beside r added q y lt there =
      let ready = ready_in q (under q) y (moment.runs q (omega (arith, lt, inside))) there in
      record { together = moment.together n q r y inside (omega (arith, lt, inside)) (λ e. omega (arith, e, lt)) added there; plain = ready.0; runs = ready.1.running }

  -- w are the words of the next partition's prefix, and before those where it is settled
  module _ (before w : Words) (alike : heap_words shape w ≡ found) (choice : Choice n before) where
    abbrev x : State
    x = choice.state

    same_heap : (log : Log) (a u : ℕ) → Stands shape.policy log found a u → Stands shape.policy log (heap_words shape w) a u
    same_heap log a u st = subst (λ ws. Stands shape.policy log ws a u) (sym alike) st

    heap_back : (log : Log) (a u : ℕ) → Stands shape.policy log (heap_words shape w) a u → Stands shape.policy log found a u
    heap_back log a u st = subst (λ ws. Stands shape.policy log ws a u) alike st

    -- where the standing words are kept, with the same commits
    keeps : (y : State) → Keeps shape w x y → ((e : Entry) → IsAmong flight e → has_commit e.transaction x.log ≡ has_commit e.transaction y.log) →
        IsChosen shape under (suc n) s (seen shape w y) → Choice (suc n) w
    keeps y k commits chosen = record {
      state = seen shape w y;
      has = k.has;
      sound = k.sound;
      chosen = chosen;
      standing = λ a m. subst (λ u. Stands shape.policy y.log found a u) (value_kept flight x.log y.log a (h a) (λ e me. inl (commits e me)))
          (heap_back y.log a (value_behind (kept_of x.log flight) a (h a)) (k.standing a (value_behind (kept_of x.log flight) a (h a)) (same_heap x.log a _ (choice.standing a m))));
    }

    -- the same records
    stays : Keeps shape w x x → Choice (suc n) w
    stays k = keeps x k (λ e me. refl) (chosen_kept shape under n s x choice.chosen (heap_words shape w) x.room (λ q. omega arith))

    -- the same of a state that has w's own heap words
    keeps_whole : (y : State) → HasState shape w y → IsSoundState shape y → KeepsStanding shape.policy (with_heap x (heap_words shape w)) y →
        ((e : Entry) → IsAmong flight e → has_commit e.transaction x.log ≡ has_commit e.transaction y.log) → IsChosen shape under (suc n) s y → Choice (suc n) w
    keeps_whole y has sound standing commits chosen = record {
      state = y;
      has = has;
      sound = sound;
      chosen = chosen;
      standing = λ a m. subst (λ u. Stands shape.policy y.log found a u) (value_kept flight x.log y.log a (h a) (λ e me. inl (commits e me)))
          (heap_back y.log a (value_behind (kept_of x.log flight) a (h a)) (subst (λ ws. Stands shape.policy y.log ws a (value_behind (kept_of x.log flight) a (h a))) has.words
          (standing a (value_behind (kept_of x.log flight) a (h a)) (same_heap x.log a (value_behind (kept_of x.log flight) a (h a)) (choice.standing a m)))));
    }

    -- a settled record of the next partition is there
    stays_there : (r : Record) → IsAmong s.log r → part_of shape r.at ≡ n → IsAmong x.log r
    stays_there r m here = elim (choice.chosen.stays r m) [ inl k ↦ k | inr k ↦ (let there = k.3 in let lt = k.1 in absurd (omega (arith, here, there, lt))) ]

    -- and a record of it that is there was settled
    was_there : (r : Record) → IsAmong x.log r → part_of shape r.at ≡ n → IsAmong s.log r
    was_there r m here = elim (choice.chosen.from r m) [ inl k ↦ k | inr k ↦ (let there = k.3 in let lt = k.1 in absurd (omega (arith, here, there, lt))) ]

    -- ---- nothing

    pub step_nothing : ((a : ℕ) → a < heap shape → w a ≡ before a) → Choice (suc n) w
    step_nothing same = stays (record {
      has = same_state shape before w x same choice.has;
      sound = sound_with_heap shape x (heap_words shape w) choice.sound;
      standing = λ a u st. st;
    })

    -- ---- a removal

    pub step_drop : (r : Remove) (made : ℕ) → CanDrop shape n (view n (log_words shape before)) r → MayStandAt shape before (region_removal n r) made w → Choice (suc n) w
    step_drop r made can reached = elim (drops_keep shape n before w x r made moment.allowed inside choice.has choice.sound can reached) [
      | inl k ↦ stays k
      | inr k ↦ keeps (record x { room = more_room n shape.cells x.room }) k (λ e me. refl)
          (chosen_kept shape under n s x choice.chosen (heap_words shape w) (more_room n shape.cells x.room) (λ q. more q (x.room q)))
    ]
      where
        more : (q room : ℕ) → room ≤ (if q == n then room + shape.cells else room)
        more q room = elim (q == n) as (λ b. room ≤ (if b then room + shape.cells else room)) [ true ↦ omega arith | false ↦ omega arith ]

    -- ---- a group of a closing

    module _ (gates ends : List ℕ) (made : ℕ) (is : under n ≡ closes gates ends made) (group : IsClosingGroup shape s found n gates ends) where
      listed_part : (r : Record) → IsListed gates ends [] r → part_of shape r.at ≡ n
      listed_part r (inl m) = let k = group.groups.of_gates r.at m in
          ap (part_of shape) (sym k.2.0) ∙ group.here k.0 k.1 (inl (subst (λ a. IsAmong gates a) (sym k.2.0) m))
      listed_part r (inr (inl m)) = let k = group.groups.of_ends r.at m in
          ap (part_of shape) (sym k.2.0) ∙ group.here k.0 k.1 (inr (inl (subst (λ a. IsAmong ends a) (sym k.2.0) m)))
      listed_part r (inr (inr m)) = absurd m

      listed_here : (r : Record) → IsListed gates ends [] r → IsClosedIn (under n) r × (part_of shape r.at ≡ n)
      listed_here r on = (subst (λ u. IsClosedIn u r) (sym is) on, listed_part r on)

      -- a listed record was there
      listed_back : (r : Record) → IsAmong x.log r → IsListed gates ends [] r → IsAmong s.log r
      listed_back r m on = was_there r m (listed_part r on)

      -- and is there
      listed_forth : (r : Record) → IsAmong s.log r → IsListed gates ends [] r → IsAmong x.log r
      listed_forth r m on = stays_there r m (listed_part r on)

      -- a record of a transaction that has ended was there
      ended_back : (t : ℕ) → IsEnded s.log t → (r : Record) → IsAmong x.log r → r.transaction ≡ t → IsAmong s.log r
      ended_back t e r m own = elim (choice.chosen.from r m) [
        | inl k ↦ k
        | inr k ↦ (
            let runs = (ready_in k.0 (under k.0) r (moment.runs k.0 (let lt = k.1 in omega (arith, lt, inside))) k.2).1 in
            absurd (runs.running e.0 e.1 (e.2.0, e.2.1 ∙ sym own)))
      ]

      groups_there : AreGroups x.log gates ends []
      groups_there = record {
        of_gates = λ a m. (let k = group.groups.of_gates a m in (k.0, listed_forth k.0 k.1 (inl (subst (IsAmong gates) (sym k.2.0) m)), k.2));
        of_ends = λ a m. (let k = group.groups.of_ends a m in (k.0, listed_forth k.0 k.1 (inr (inl (subst (IsAmong ends) (sym k.2.0) m))), k.2));
        of_checkpoints = λ a m. absurd m;
      }

      ended_there : (r : Record) → IsAmong x.log r → IsListed gates ends [] r → IsEnded x.log r.transaction
      ended_there r m on =
          let k = group.ended r (listed_back r m on) on in
          let e = k.1 in
          elim (choice.chosen.whole e.0 e.1 e.2.0) [ inl there ↦ (e.0, there, e.2) | inr none ↦ absurd (none r m (sym e.2.1, k.0)) ]

      -- the owner word of a committed deletion is 0
      applied_there : (r : Record) → IsAmong x.log r → IsListed gates ends [] r → IsDeletion r → IsCommitted x.log r.transaction →
          Has (IsToUndo x.log r.word) x.log ⊎ IsApplied shape.policy x.log (heap_words shape w) r.word
      applied_there r m on six over = elim (has_or_none (IsToUndo x.log r.word) x.log (decide_to_undo x.log r.word)) [ inl u ↦ inl u | inr nu ↦ inr (λ u st. is_zero nu u st) ]
        where
          zero_word : heap_words shape w r.word ≡ 0
          zero_word = ap (λ (ws : Words). ws r.word) alike ∙ group.zero r (listed_back r m on) on six
              (over.0, ended_back r.transaction (group.ended r (listed_back r m on) on).1 over.0 over.1 over.2.0.1, over.2)

          is_zero : HasNo (IsToUndo x.log r.word) x.log → (u : ℕ) → Stands shape.policy x.log (heap_words shape w) r.word u → u ≡ heap_words shape w r.word
          is_zero nu u (undone y first e) = absurd (nu y first.among first.has)
          is_zero nu u (deleted _ d e) = e ∙ sym zero_word
          is_zero nu u (redone _ nd y last e) = absurd (nd r m (six, refl, over))
          is_zero nu u (kept _ nd nr e) = absurd (nd r m (six, refl, over))

      may_clear : MayClear shape.policy x.log (heap_words shape w) (IsListed gates ends [])
      may_clear = record {
        ended = λ r m on. inr (ended_there r m on);
        applied = applied_there;
        whole = λ e m on end r k of. group.whole e (listed_back e m on) on end r (ended_back e.transaction (e, listed_back e m on, (end, refl)) r k of.0) of;
        skips = λ c m on check. absurd ((group.ended c (listed_back c m on) on).0 check);
        redone = λ a y m redo. group.force redo.0;
      }

      few : shape.partitions ≤ 3
      few = moment.allowed.partitions.1

      -- no commit in flight is closed
      same_commits : (g : IsClearing shape w x gates ends []) (e : Entry) → IsAmong flight e → has_commit e.transaction x.log ≡ has_commit e.transaction g.state.log
      same_commits g e me = commit_same e.transaction x.log g.state.log
          (λ k. elim (part_cases _ g.state.log x.log g.part.part k.0 k.1) [
            | inl m ↦ (k.0, m, k.2)
            | inr gone ↦ absurd (moment.in_flight e me k.0 (listed_back k.0 k.1 gone.0) k.2.0)
          ])
          (λ k. (k.0, part_among _ g.state.log x.log g.part.part k.0 k.1, k.2))

      closed_choice : IsClearing shape w x gates ends [] → Choice (suc n) w
      closed_choice g = keeps_whole g.state g.has g.sound g.keeps (same_commits g)
          (chosen_closed shape under n s x choice.chosen w gates ends g group.force listed_here (λ r m on. (group.ended r m on).1))

      pub step_close : MayStandAt shape before (closing_plan gates ends []) made w → Choice (suc n) w
      step_close reached = closed_choice (closings_keep shape before w x gates ends [] made few choice.has choice.sound groups_there may_clear reached)

    -- ---- deletions that are taken back

    module _ (gates : List ℕ) (made : ℕ) (is : under n ≡ takes_back gates made) (taking : IsTakingBack shape s n gates) where
      gate_here : (r : Record) → IsAmong gates r.at → part_of shape r.at ≡ n
      gate_here r on = let k = taking.deferred r.at on in ap (part_of shape) (sym k.2.0) ∙ taking.here k.0 k.1 (subst (IsAmong gates) (sym k.2.0) on)

      -- no end of its transaction has come in another partition
      runs_there : (d : Record) → IsAmong s.log d → IsDeletion d → IsRunning s.log d.transaction → part_of shape d.at ≡ n → IsRunning x.log d.transaction
      runs_there d m six running here e me end = elim (choice.chosen.from e me) [
        | inl k ↦ running e k end
        | inr k ↦ (
            let lt = k.1 in
            let of = (ready_in k.0 (under k.0) e (moment.runs k.0 (omega (arith, lt, inside))) k.2).1 in
            let same = of.one_part d m (sym end.1, λ five. (omega (arith, six, five))) in
            let there = k.3 in
            omega (arith, same, here, there, lt))
      ]

      deferred_there : AreDeferred x.log gates
      deferred_there a on =
          let k = taking.deferred a on in
          let here = gate_here k.0 (subst (IsAmong gates) (sym k.2.0) on) in
          (k.0, stays_there k.0 k.1 here, (k.2.0, (k.2.1.0, runs_there k.0 k.1 k.2.1.0 k.2.1.1 here)))

      -- no deletion is a commit
      ends_stay : (g : IsDropping shape w x gates) (e : Entry) → IsAmong flight e → has_commit e.transaction x.log ≡ has_commit e.transaction g.state.log
      ends_stay g e me = commit_same e.transaction x.log g.state.log
          (λ k. elim (part_cases _ g.state.log x.log g.part k.0 k.1) [
            | inl m ↦ (k.0, m, k.2)
            | inr gone ↦ absurd (let six = gone.0.0 in let four = k.2.0.0 in omega (arith, six, four))
          ])
          (λ k. (k.0, part_among _ g.state.log x.log g.part k.0 k.1, k.2))

      taken_choice : IsDropping shape w x gates → Choice (suc n) w
      taken_choice g = keeps_whole g.state g.has g.sound g.keeps (ends_stay g)
          (chosen_taken_back shape under n s x choice.chosen w gates g choice.sound (λ r on. (subst (λ u. IsClosedIn u r) (sym is) on, gate_here r on)) (λ r m on. was_there r m (gate_here r on)))

      pub step_take_back : MayStandAt shape before (closing_plan gates [] []) made w → Choice (suc n) w
      step_take_back reached = taken_choice (droppings_keep shape before w x gates made moment.allowed.partitions.1 choice.has choice.sound deferred_there reached)

    -- ---- an append

    module _ (place : Place) (number : ℕ) (added : Added) (made : ℕ) (chain : List ℕ) where
      abbrev r : Record
      r = appended place number (cell_of added)

      pub step_waits : CanAppend shape n (view n (log_words shape before)) chain place r → made + 2 ≤ length (region_append shape n place r) →
          MayStandAt shape before (region_append shape n place r) made w → Choice (suc n) w
      step_waits can early reached = stays (record {
        has = appends_wait shape n before w x chain place r made moment.allowed inside choice.has can early reached;
        sound = sound_with_heap shape x (heap_words shape w) choice.sound;
        standing = λ a u st. st;
      })

      module _ (can : CanAppend shape n (view n (log_words shape before)) chain place r) (plain : r.kind ≢ CHECKPOINT) (there : IsAddedIn shape n (under n) r)
          (passes : Passes s.log r) (fits : CanAdd shape s r added) (serves : Serves shape s h flight found r added) where
        of_running : IsOfRunning shape s.log r
        of_running = added_runs shape s r added fits

        running : IsRunning s.log r.transaction
        running = of_running.running

        others : part_of shape r.at ≡ n → (q : ℕ) (y : Record) → q < n → IsUnderWayIn shape s.log q (under q) y → IsOf r.transaction y → ⊥
        others here q y lt (inl k) of = (beside r there q y lt k).together.transactions of.0
        others here q y lt (inr k) of = let same = of_running.one_part y k.0 of in let at = k.2 in omega (arith, same, at, here, lt)

        passes_now : part_of shape r.at ≡ n → Passes x.log r
        passes_now here = passes_there shape under n s x choice.chosen r here plain of_running (beside r there) passes

        above : (y : Record) → IsAmong x.log y → y.lsn < moment.top
        above y m = elim (choice.chosen.from y m) [ inl k ↦ moment.above y k | inr k ↦ moment.drawn k.0 y (let lt = k.1 in omega (arith, lt, inside)) k.2 ]

        may : part_of shape r.at ≡ n → MayAppend shape n before x chain place r
        may here = record {
          allowed = moment.allowed;
          inside = inside;
          has = choice.has;
          sound = choice.sound;
          can = can;
          passes = passes_now here;
          top = moment.top;
          above = above;
          own = (let lt = moment.drawn n r inside there in omega (arith, lt));
          numbers = (let fit = room_is_bounded shape before x choice.has in let enough = moment.numbers in omega (arith, fit, enough));
        }

        in_part : part_of shape r.at ≡ n → (y : Record) → IsAmong x.log y → IsOf r.transaction y → part_of shape y.at ≡ part_of shape r.at
        in_part here y m of = of_running.one_part y (own_back shape under n s x choice.chosen r.transaction running (others here) y m of) of

        -- recovery's cell for a checkpoint record stays
        spare : part_of shape r.at ≡ n → IsSoundState shape (seen shape w (with_record n x r)) → shape.policy ≡ 2 →
            need_in (part_of shape) 0 (inserted r x.log) + 1 ≤ less_room n x.room 0
        spare here sound two = elim (decide_equal n 0) [
          | inl first ↦ (sound.room 0 (subst (λ q. q < shape.partitions) first inside)).checkpoint refl two
              (opened x r plain (passes_now here) (own_running shape under n s x choice.chosen r.transaction running (others here)))
          | inr later ↦ (
              let need = need_passing (part_of shape) 0 r x.log (passes_now here) (in_part here) (λ e. later (sym (e ∙ here))) in
              let room = less_elsewhere n x.room 0 (λ e. later (sym e)) in
              let was = choice.chosen.spare two in omega (arith, need, room, was))
        ]

        chosen : part_of shape r.at ≡ n → IsSoundState shape (seen shape w (with_record n x r)) → IsChosen shape under (suc n) s (seen shape w (with_record n x r))
        chosen here sound = chosen_added shape under n s x choice.chosen (heap_words shape w) r there here (passes_now here) running (in_part here) (spare here sound)

        keeps_record : part_of shape r.at ≡ n → (IsEnd r → r.outcome ≡ COMMITTED → ⊥) → Keeps shape w x (with_record n x r) → Choice (suc n) w
        keeps_record here never k = keeps (with_record n x r) k (λ e me. commits_beside e.transaction r x.log (λ c. never c.0.0 c.1)) (chosen here k.sound)

        commits_record : part_of shape r.at ≡ n → (t : ℕ) → r.transaction ≡ t → IsEnd r → r.outcome ≡ COMMITTED → IsInFlight s.log h flight t → Commits shape w x t (with_record n x r) → Choice (suc n) w
        commits_record here t own end one going k = record {
          state = seen shape w (with_record n x r);
          has = k.has;
          sound = k.sound;
          chosen = chosen here k.sound;
          standing = λ a m. heap_back (inserted r x.log) a _ (stands_committed shape under n s x choice.chosen w h flight t r own end one
              (subst (λ u. IsRunning s.log u) own running) (λ q y lt there' of. others here q y lt there' (of.0 ∙ sym own, of.1)) going k a
              (same_heap x.log a (value_behind (kept_of x.log flight) a (h a)) (choice.standing a m)));
        }

      in_place : CanAppend shape n (view n (log_words shape before)) chain place r → part_of shape r.at ≡ n
      in_place can = elim (eqb_tells (part_of shape r.at) n) [
        | inl e ↦ e.1
        | inr ne ↦ (let here = (appends_take_cell shape n before x chain place r moment.allowed inside choice.has can).here in
            let same : less_room n x.room (part_of shape r.at) ≡ x.room (part_of shape r.at) = (let off = ne.0 in rw off refl) in absurd (omega (arith, here, same)))
      ]

      -- the gate is stored
      pub step_stored : CanAppend shape n (view n (log_words shape before)) chain place r → IsAddedIn shape n (under n) r → r.kind ≢ CHECKPOINT → Passes s.log r →
          CanAdd shape s r added → Serves shape s h flight found r added → MayStandAt shape before (region_append shape n place r) made w → Choice (suc n) w
      step_stored can there plain passes fits serves reached = elim (append_leaves shape n before w x chain place number made added now fits_now meets_now reached) [
        | inl k ↦ stays k
        | inr k ↦ elim (left_by shape w s h flight found x (with_record n x r) place number added serves k) [
          | inl j ↦ keeps_record can plain there passes fits serves here j.0 j.1
          | inr j ↦ commits_record can plain there passes fits serves here r.transaction refl j.end j.one j.going j.commits
        ]
      ]
        where
          here : part_of shape r.at ≡ n
          here = in_place can

          runs : IsOfRunning shape s.log r
          runs = of_running can plain there passes fits serves

          now : MayAppend shape n before x chain place r
          now = may can plain there passes fits serves here

          fits_now : CanAdd shape x r added
          fits_now = can_there shape under n s x choice.chosen place number added here plain runs (beside r there) fits

          meets_now : HeapMeets shape x (heap_words shape w) r added
          meets_now = subst (λ ws. HeapMeets shape x ws r added) (sym alike)
              (meets_there shape under n s x choice.chosen place number h flight found added here plain runs (beside r there) choice.sound choice.standing fits_now serves)
