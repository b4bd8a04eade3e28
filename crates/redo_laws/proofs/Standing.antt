-- What a stop leaves of a world of lanes.
use Rattle.std.proofs.Common.{◌≡◌, ◌⊎◌, inl, inr, ℕ, zero, suc, ◌<◌, ◌≤◌, false, List, [], ◌∷◌, length, take, refl, sym, ap, ◌∙◌, subst, arith}
use Rattle.std.proofs.lemmas.List.{take_all}
use Rattle.std.proofs.lemmas.Bool.Decides.{eqb_tells}
use Rattle.persist_model.specs.Region.{Words, Region, MayStand, IsCandidate}
use Rattle.persist_model.specs.Progress.{Progress, Wrote, Reaches}
use Rattle.persist_model.specs.Runs.{progress_at}
use Rattle.persist_model.specs.Records.{Record, IsAmong}
use Rattle.persist_model.specs.Shape.{Shape, shape_of, heap, heap_words, log_words, IsHeapWord}
use Rattle.persist_model.specs.Chain.{view}
use Rattle.persist_model.specs.State.{State}
use Rattle.log_laws.specs.Closing.{MayClear}
use Rattle.bucket_log.specs.declared.append.Place.{Place}
use Rattle.bucket_log.specs.Appends.{CanAppend, region_append}
use Rattle.bucket_log.specs.Words.{IsPartWord}
use Rattle.bucket_log.proofs.PartWords.{parts_reach, appends_are_on_part}
use Rattle.log_clearing.specs.Plans.{closing_plan}
use Rattle.log_clearing.specs.Closed.{AreGroups}
use Rattle.plan_records.specs.Appends.{MayAppend, MayStandAt}
use Rattle.plan_records.proofs.Changes.{heap_word_is}
use Rattle.plan_records.proofs.RoomBound.{room_is_bounded}
use Rattle.log_keeper.specs.Parts.{appends as adds, Running, plan_of, CanRun}
use Rattle.log_keeper.specs.Logged.{IsReached}
use Rattle.log_keeper.proofs.EventsPass.{images_are_reached, resting_parts_are_settled}
use Rattle.history_laws.specs.Histories.{fold}
use Rattle.history_laws.specs.Stands.{StandsFor}
use Rattle.history_laws.specs.Checkpoints.{IsSettledFor}
use Rattle.history_laws.specs.UnderWay.{UnderWay, nothing, run_of}
use Rattle.history_laws.proofs.Checkpoints.{checkpoints_stand, checkpoint_closings_stand}
use Rattle.history_laws.proofs.Headers.{header_below, header_is_none's}
use Rattle.history_laws.proofs.ImagesStand.{kept_regions_stand}
use Rattle.bucket_log.proofs.Partitions.{few_parts}
use Rattle.txn_laws.specs.Txns.{Txn, txn_at}
use Rattle.txn_laws.specs.Flights.{is_flying, flight_of}
use Rattle.txn_laws.proofs.Finding.{stands_word}
use Rattle.redo_laws.specs.Checkpoints.{other_gates, end_gates, checkpoint_gates, Group, Checkpoint, none, sweeps, swept, notes, noted, zeroed, shuts, checkpoint_record, shutting_part}
use Rattle.redo_laws.specs.Stages.{IsIdle, IsAllHeld, IsHeldAtRest, IsNoting, IsShutting, all_gates, IsInGroup, IsAtStage}
use Rattle.redo_laws.specs.Worlds.{RedoWorld, IsRedoWorldAt}
use Rattle.redo_laws.specs.Laws.{WorldsStand}
use Rattle.redo_laws.proofs.Plain.{plain_of}
use Rattle.redo_laws.proofs.Moments.{moment}
use Rattle.redo_laws.proofs.Idle.{numbered_below, idle_moment}
use Rattle.redo_laws.proofs.SweptWords.{swept_in}
use Rattle.redo_laws.proofs.Reaching.{part_or_header, kind_plan, group_at, zeros, zeros_among, zeros_there, in_row}
use Rattle.redo_laws.proofs.FencingGroupsRows.{row_groups}
use Rattle.redo_laws.proofs.FencingGroupsClears.{group_clears}

-- no commit is in flight
pub no_flight : (lanes : List Txn) → ((k : ℕ) → is_flying (txn_at lanes k) ≡ false) → flight_of lanes ≡ []
no_flight [] landed = refl
no_flight (x ∷ lanes) landed = rw (landed 0) (no_flight lanes (λ k. landed (suc k)))

pub rest_idle : (u : UnderWay) → u ≡ nothing → IsIdle u
rest_idle u is = subst IsIdle (sym is) tt

taken_less : {A : Type 0} (xs : List A) (n : ℕ) (x : A) → IsAmong (take n xs) x → IsAmong xs x
taken_less xs zero x m = absurd m
taken_less [] (suc n) x m = absurd m
taken_less (y ∷ xs) (suc n) x (inl e) = inl e
taken_less (y ∷ xs) (suc n) x (inr m) = inr (taken_less xs n x m)

module _ (base : Words) (s : State) (chains : ℕ → List ℕ) (start : Words) (z : RedoWorld) (region : Region) (world : IsRedoWorldAt (shape_of base) base s chains start z region) where
  abbrev shape : Shape
  shape = shape_of base

  abbrev h : Words
  h = fold start z.world.history

  -- where no append and no closing is under way
  idle_stands : ((p : ℕ) → p < shape.partitions → z.world.keeping.runs p ≡ run_of (z.world.under p)) → ((p : ℕ) → p < shape.partitions → IsIdle (z.world.under p)) → (i : Words) → MayStand i region →
      StandsFor region.size start z.world.history (flight_of z.world.lanes) i
  idle_stands run idle i image =
      kept_regions_stand base s chains z.world.keeping region start z.world.history (flight_of z.world.lanes) z.world.under world.log.header world.log.logged run
      (λ j may. idle_moment shape base s chains start z region world run idle j (λ a m. (let size = world.log.logged.size in let below = m.1 in may a (omega (arith, size, below)))))
      i image

  rest_stands : (l : ℕ) → IsHeldAtRest shape z.world l → (i : Words) → MayStand i region → StandsFor region.size start z.world.history (flight_of z.world.lanes) i
  rest_stands l at_rest = idle_stands (λ p lt. at_rest.run p lt ∙ sym (ap run_of (at_rest.under p lt))) (λ p lt. rest_idle (z.world.under p) (at_rest.under p lt))

  module _ (i : Words) (may : MayStand i region) where
    image : (a : ℕ) → IsHeapWord shape a → IsCandidate (region.at a) (i a)
    image a m = let size = world.log.logged.size in let below = m.1 in may a (omega (arith, size, below))

    reached : IsReached shape base z.world.keeping.runs i
    reached = images_are_reached shape base s chains z.world.keeping region i world.log.logged may

    settled_for : IsSettledFor base s start z.world.history i
    settled_for = record {
      header = λ a k. reached.header a (header_below a k) (λ p lt m. header_is_none's shape p a (few_parts shape p world.log.logged.allowed lt) k m);
      standing = λ a m. (
          stands_word shape.policy s.log (λ b. i a) (heap_words shape i) a (h a) (sym (heap_word_is shape i a m)) (world.stands a (i a) m (image a m)));
    }

    landed_stands : (l : ℕ) → IsAllHeld shape z.world l → StandsFor region.size start z.world.history [] i → StandsFor region.size start z.world.history (flight_of z.world.lanes) i
    landed_stands l held k = subst (λ f. StandsFor region.size start z.world.history f i) (sym (no_flight z.world.lanes held.landed)) k

    -- ---- the append of its record

    noting_stands : (l : ℕ) (place : Place) (number made : ℕ) → IsNoting shape s z.world z.dirty l place number made region → StandsFor region.size start z.world.history (flight_of z.world.lanes) i
    noting_stands l place number made stage = landed_stands l stage.held
        (checkpoints_stand region.size base s start z.world.history i (chains 0) place number made world.log.header settled_for may_append stage.can
        (swept_in shape base s chains start z region world stage.told stage.all_swept i image) there)
      where
        first : 0 < shape.partitions
        first = world.log.logged.allowed.partitions.0

        run_part : (z.world.keeping.runs 0).part ≡ adds place (checkpoint_record place number)
        run_part = ap (λ (r : Running). r.part) stage.run

        can_append : CanAppend shape 0 (view 0 (log_words shape base)) (chains 0) place (checkpoint_record place number)
        can_append = subst (CanRun shape 0 base s (chains 0)) run_part (world.log.logged.can 0 first)

        may_append : MayAppend shape 0 base s (chains 0) place (checkpoint_record place number)
        may_append = record {
          allowed = world.log.logged.allowed;
          inside = first;
          has = world.log.logged.has;
          sound = world.log.sound;
          can = can_append;
          passes = stage.passes;
          top = z.world.next;
          above = numbered_below shape base s chains start z region world;
          own = (
              let n = world.log.fits.noted 0 place (checkpoint_record place number) first run_part in
              let lt = subst (λ (q : Record). q.lsn < z.world.next) n.2 (world.log.ordered.below n.0 n.1) in omega (arith, lt));
          numbers = (let few = room_is_bounded shape base s world.log.logged.has in let left = world.log.numbers in omega (arith, few, left));
        }

        outside : (a : ℕ) → a < heap shape → (IsPartWord shape 0 a → ⊥) → base a ≡ i a
        outside a lt off = elim (part_or_header shape a world.log.logged.allowed lt) [
          | inl k ↦ elim (eqb_tells k.0 0) [
            | inl e ↦ absurd (off (subst (λ q. IsPartWord shape q a) e.1 k.2))
            | inr ne ↦ sym ((resting_parts_are_settled shape base s chains z.world.keeping region i k.0 k.1 (ap (λ (r : Running). r.part) (stage.others k.0 k.1 ne.1)) world.log.logged may).words a k.2)
          ]
          | inr none_has ↦ sym (reached.header a none_has.0 none_has.1)
        ]

        there : MayStandAt shape base (region_append shape 0 place (checkpoint_record place number)) made i
        there = parts_reach.words shape 0 made base i base (region_append shape 0 place (checkpoint_record place number))
            (appends_are_on_part shape 0 (view 0 (log_words shape base)) (chains 0) place (checkpoint_record place number) first can_append)
            (record { own = λ a m. refl; others = outside })
            (subst (λ (r : Running). Reaches (IsPartWord shape 0) (progress_at base (plan_of shape 0 r.part) r.made) i) stage.run (reached.parts 0 first))

    -- ---- a group of its closing

    shutting_stands : (l : ℕ) (g : Group) → IsShutting shape s z.world z.dirty l g region → StandsFor region.size start z.world.history (flight_of z.world.lanes) i
    shutting_stands l g stage = landed_stands l stage.held
        (checkpoint_closings_stand region.size base s start z.world.history i (other_gates g.kind row) (end_gates g.kind row) (checkpoint_gates g.kind row) (length row) world.log.header settled_for
        few world.log.logged.has world.log.sound groups may_clear there)
      where
        row : List ℕ
        row = all_gates shape g

        few : shape.partitions ≤ 3
        few = world.log.logged.allowed.partitions.1

        can_shut : (p : ℕ) → p < shape.partitions → CanRun shape p base s (chains p) (shutting_part g p)
        can_shut p lt = subst (λ (r : Running). CanRun shape p base s (chains p) r.part) (stage.run p lt) (world.log.logged.can p lt)

        groups : AreGroups s.log (other_gates g.kind row) (end_gates g.kind row) (checkpoint_gates g.kind row)
        groups = row_groups s.log g.kind g.gates shape.partitions (λ p lt. (can_shut p lt).0)

        may_clear : MayClear shape.policy s.log (heap_words shape i) (IsInGroup shape g)
        may_clear = group_clears shape s h region (IsInGroup shape g) world.log.sound stage.group stage.skipped stage.zero world.stands (heap_words shape i)
            (λ a m. subst (IsCandidate (region.at a)) (sym (heap_word_is shape i a m)) (image a m))

        -- of its gates any may be closed
        in_part : (p a : ℕ) → p < shape.partitions → IsPartWord shape p a → (i a ≡ base a) ⊎ Wrote (zeros (take (length row) row)) a (i a)
        in_part p a lt m = elim (subst (λ (k : Progress). (i a ≡ k.durable a) ⊎ Wrote k.pending a (i a)) at_part (run_reached a m)) [
          | inl e ↦ inl e
          | inr k ↦ (
              let z = zeros_among (take (g.made p) (g.gates p)) a (i a) k in
              inr (subst (Wrote (zeros (take (length row) row)) a) (sym z.1)
              (zeros_there (take (length row) row) a (subst (λ gs. IsAmong gs a) (sym (take_all (length row) row (omega arith))) (in_row g.gates shape.partitions p a lt (taken_less (g.gates p) (g.made p) a z.0))))))
        ]
          where
            run_reached : Reaches (IsPartWord shape p) (progress_at base (plan_of shape p (shutting_part g p)) (g.made p)) i
            run_reached = subst (λ (r : Running). Reaches (IsPartWord shape p) (progress_at base (plan_of shape p r.part) r.made) i) (stage.run p lt) (reached.parts p lt)

            at_part : progress_at base (plan_of shape p (shutting_part g p)) (g.made p) ≡ record { durable = base; pending = zeros (take (g.made p) (g.gates p)) }
            at_part = ap (λ es. progress_at base es (g.made p)) (kind_plan g.kind (g.gates p)) ∙ group_at base (g.gates p) (g.made p) (stage.unfenced p lt)

        at_row : progress_at base (closing_plan (other_gates g.kind row) (end_gates g.kind row) (checkpoint_gates g.kind row)) (length row) ≡ record { durable = base; pending = zeros (take (length row) row) }
        at_row = ap (λ es. progress_at base es (length row)) (kind_plan g.kind row) ∙ group_at base row (length row) (omega arith)

        there : Reaches (λ a. a < heap shape) (progress_at base (closing_plan (other_gates g.kind row) (end_gates g.kind row) (checkpoint_gates g.kind row)) (length row)) i
        there a lt = subst (λ (k : Progress). (i a ≡ k.durable a) ⊎ Wrote k.pending a (i a)) (sym at_row) (elim (part_or_header shape a world.log.logged.allowed lt) [
          | inl k ↦ in_part k.0 a k.1 k.2
          | inr k ↦ inl (reached.header a k.0 k.1)
        ])

  -- ---- by its stage

  by_stage : (c : Checkpoint) → c ≡ z.checkpoint → IsAtStage shape s h z.world z.dirty c region → (i : Words) → MayStand i region → StandsFor region.size start z.world.history (flight_of z.world.lanes) i
  by_stage none is stage i may =
      let plain = plain_of shape base s chains start z region (sym is) world in
      kept_regions_stand base s chains z.world.keeping region start z.world.history (flight_of z.world.lanes) z.world.under world.log.header world.log.logged (λ p lt. (stage.parts p lt).run)
      (λ j at. moment shape base s chains start z.world region plain j (λ a m. (let size = world.log.logged.size in let below = m.1 in at a (omega (arith, size, below)))))
      i may
  by_stage (sweeps l place) is stage i may = rest_stands l stage.at_rest i may
  by_stage (swept l) is stage i may = rest_stands l stage.at_rest i may
  by_stage (notes l place number made) is stage i may = noting_stands i may l place number made stage
  by_stage (noted l words) is stage i may = rest_stands l stage.at_rest i may
  by_stage (zeroed l) is stage i may = idle_stands (λ p lt. (stage.parts p lt).run) stage.idle i may
  by_stage (shuts l g) is stage i may = shutting_stands i may l g stage

pub worlds_stand : WorldsStand
worlds_stand layout base s chains start z region world i may =
    subst (λ k. IsRedoWorldAt k base s chains start z region → StandsFor region.size start z.world.history (flight_of z.world.lanes) i) world.log.of_shape
    (λ there. by_stage base s chains start z region there z.checkpoint refl there.stage i may) world
