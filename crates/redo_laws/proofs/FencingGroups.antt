-- The fence of a group of a checkpoint's closing.
use Rattle.std.proofs.Common.{◌≡◌, ◌⊎◌, inl, inr, ℕ, ◌<◌, Bool, true, false, if◌then◌else◌, List, [], length, take, refl, sym, ap, ◌∙◌, subst, arith}
use Rattle.persist_model.specs.declared.event.Event.TheVariants.{Fence}
use Rattle.persist_model.specs.Region.{Words, Region, IsCandidate, newest, after}
use Rattle.persist_model.specs.Progress.{latest}
use Rattle.persist_model.specs.Records.{Log, Has, HasNo, IsNewestFirst}
use Rattle.persist_model.specs.Standing.{IsToDelete, Stands, undone, deleted, redone, kept}
use Rattle.persist_model.specs.Need.{need_in}
use Rattle.persist_model.specs.Shape.{Shape, part_of, heap_words, IsHeapWord, IsShape}
use Rattle.persist_model.specs.State.{State, IsSoundState}
use Rattle.persist_model.proofs.Candidates.{IsCandidate_newest}
use Rattle.log_laws.specs.Closing.{IsClosing}
use Rattle.log_laws.proofs.Deciding.{has_or_none, decide_to_delete}
use Rattle.log_laws.proofs.Closings.{stands_closed}
use Rattle.log_laws.proofs.Keeping.{newest_first_part}
use Rattle.bucket_log.proofs.Partitions.{few_parts}
use Rattle.log_clearing.specs.Closed.{IsListed}
use Rattle.plan_records.proofs.Changes.{heap_word_is}
use Rattle.log_keeper.specs.declared.slots.TheConstants.{NOBODY}
use Rattle.log_keeper.specs.Ledger.{left_open}
use Rattle.log_keeper.specs.Laws.{HasClosed}
use Rattle.log_keeper.specs.Ordered.{FitsRuns}
use Rattle.log_keeper.proofs.Progressing.{size_after}
use Rattle.log_keeper.proofs.Sounding.{groups_stay_sound}
use Rattle.log_keeper.proofs.Ledgers.{closed_first, left_among}
use Rattle.log_keeper.proofs.LeftNeeds.{closings_need}
use Rattle.history_laws.specs.Histories.{fold}
use Rattle.history_laws.specs.Stands.{IsHeader}
use Rattle.history_laws.proofs.Headers.{header_is_none's, same_shape, is_shape}
use Rattle.txn_laws.specs.Txns.{Txn, txn_at}
use Rattle.txn_laws.specs.Owners.{IsMine}
use Rattle.txn_laws.specs.Heaps.{now_of}
use Rattle.txn_laws.specs.Worlds.{IsLogOf}
use Rattle.txn_laws.proofs.Finding.{now_own, now_nobodys, stands_word}
use Rattle.txn_laws.proofs.Lanes.{whose}
use Rattle.txn_laws.proofs.LeftOpen.{left_back, is_closing}
use Rattle.txn_laws.proofs.LogEvents.{LeavesHeap, leaves_heap}
use Rattle.redo_laws.specs.Checkpoints.{Group, shuts, other_gates, end_gates, checkpoint_gates}
use Rattle.redo_laws.specs.Transactions.{AreRedoTransactions}
use Rattle.redo_laws.specs.Stages.{AreSkipped, IsHeldAtRest, IsGroup, IsShutting, all_gates, IsInGroup}
use Rattle.redo_laws.specs.Worlds.{RedoWorld, IsRedoHeap, IsSpare, IsRedoWorldAt}
use Rattle.redo_laws.specs.Parts.{HasRedoLeft}
use Rattle.redo_laws.specs.Clears.{shut_keeping, shut_lanes, shut_behind, GroupsAreFenced}
use Rattle.redo_laws.proofs.Owned.{deleted_inside}
use Rattle.redo_laws.proofs.Telling.{log_stores_none, told_beside}
use Rattle.redo_laws.proofs.Beside.{stage_is}
use Rattle.redo_laws.proofs.Settling.{mixed, mixed_here, mixed_may}
use Rattle.redo_laws.proofs.Zeroing.{not_both, zeroed_from}
use Rattle.redo_laws.proofs.Clearing.{fits_closing, no_append_rests, no_append_shuts}
use Rattle.redo_laws.proofs.FencingGroupsRows.{group_row}
use Rattle.redo_laws.proofs.FencingGroupsClears.{group_clears}
use Rattle.redo_laws.proofs.FencingGroupsLog.{shut_rest, row_behind, groups, outside, behind_is, group_fenced}
use Rattle.redo_laws.proofs.FencingGroupsTxns.{flying_shut, now_shut, owners_shut, delete_back, skipped_left, transactions_left}

module _ (shape : Shape) (base : Words) (s : State) (chains : ℕ → List ℕ) (start : Words) (z : RedoWorld) (region : Region) (l : ℕ) (g : Group) (few : l < NOBODY)
    (is : z.checkpoint ≡ shuts l g) (whole : (p : ℕ) → p < shape.partitions → g.made p ≡ length (g.gates p)) (world : IsRedoWorldAt shape base s chains start z region) where
  abbrev h : Words
  h = fold start z.world.history

  abbrev row : List ℕ
  row = all_gates shape g

  abbrev left_log : Log
  left_log = left_open (all_gates shape g) [] [] s.log

  abbrev behind : Words
  behind = row_behind shape g base

  abbrev later : Region
  later = after region l Fence

  abbrev lanes : List Txn
  lanes = shut_lanes (all_gates shape g) z.world.lanes

  stage : IsShutting shape s z.world z.dirty l g region
  stage = stage_is shape s h z.world z.dirty region z.checkpoint (shuts l g) is world.stage

  leaves : LeavesHeap shape region later
  leaves = leaves_heap shape region l Fence tt

  grouped : IsGroup s.log (IsListed row [] [])
  grouped = group_row shape g s.log stage.group

  -- ---- the records may be cleared

  closing : (w : Words) → ((a : ℕ) → IsHeapWord shape a → IsCandidate (region.at a) (w a)) → IsClosing shape.policy s.log w left_log
  closing w image = is_closing row [] [] (part_of shape) shape.policy s.log w world.log.sound.order
      (group_clears shape s h region (IsListed row [] []) world.log.sound grouped stage.skipped stage.zero world.stands w image)

  abbrev found : Words
  found = λ b. newest (region.at b)

  found_may : (a : ℕ) → IsHeapWord shape a → IsCandidate (region.at a) (found a)
  found_may a m = IsCandidate_newest (region.at a) (world.heap.full a m)

  first : IsNewestFirst left_log
  first = newest_first_part _ left_log s.log (closing found found_may).part world.log.sound.newest_first

  closed : HasClosed shape behind s chains (shut_keeping shape g z.world.keeping) later left_log
  closed = group_fenced shape base s chains z.world.keeping region l g stage.run world.log.logged few stage.held.holder whole first

  sound : IsSoundState shape closed.state
  sound = groups_stay_sound shape 0 base found s closed.state (other_gates g.kind row) (end_gates g.kind row) (checkpoint_gates g.kind row) world.log.logged.allowed.partitions.1
      world.log.logged.has world.log.sound (groups shape base s chains z.world.keeping region l g stage.run world.log.logged)
      (group_clears shape s h region (IsInGroup shape g) world.log.sound stage.group stage.skipped stage.zero world.stands (heap_words shape found)
      (λ a m. subst (IsCandidate (region.at a)) (sym (heap_word_is shape found a m)) (found_may a m)))
      closed.logged.has

  -- ---- the log

  header_same : (a : ℕ) → IsHeader a → behind a ≡ base a
  header_same a header = outside shape base s chains z.world.keeping region l g stage.run world.log.logged a
      (λ p lt m. header_is_none's shape p a (few_parts shape p world.log.logged.allowed lt) header m)

  fits : FitsRuns shape (shut_keeping shape g z.world.keeping)
  fits = fits_closing shape z.world.keeping (shut_keeping shape g z.world.keeping) (λ n m. left_among row [] [] z.world.keeping.ledger n m)
      (λ p lt place r e. no_append_shuts (z.world.keeping.runs p) g p place r (stage.run p lt) e)
      (λ p lt place r e. no_append_rests ((shut_keeping shape g z.world.keeping).runs p) place r (shut_rest shape g z.world.keeping p lt) e) world.log.fits

  log_left : IsLogOf shape behind closed.state chains (shut_keeping shape g z.world.keeping) z.world.next later
  log_left = record {
    of_shape = same_shape region.size base behind world.log.header header_same ∙ world.log.of_shape;
    header = subst (λ n. IsShape n behind) (sym (size_after region l Fence)) (is_shape region.size base behind world.log.header header_same);
    logged = closed.logged;
    sound = sound;
    ordered = record {
      newest_first = closed_first row [] [] z.world.keeping.ledger world.log.ordered.newest_first;
      below = λ x m. world.log.ordered.below x (left_among row [] [] z.world.keeping.ledger x m);
    };
    fits = fits;
    numbers = world.log.numbers;
  }

  spare : IsSpare shape closed.state
  spare =
      let enough = world.spare in
      let le = closed.no_less 0 in
      let same = ap (need_in (part_of shape) 0) closed.log_is ∙ closings_need shape 0 s.log row [] [] (record { ended = grouped.ended; whole = grouped.whole }) in
      omega (arith, enough, le, same)

  -- ---- what a stop leaves stands

  stands : (a u : ℕ) → IsHeapWord shape a → IsCandidate (later.at a) u → Stands shape.policy left_log (λ b. u) a (h a)
  stands a u inside may =
      let was = leaves.fewer a u inside may in
      let here = mixed_here shape base region a u inside.0 in
      stands_word shape.policy left_log (mixed shape base region a u) (λ b. u) a (h a) here
      (stands_closed shape.policy s.log (mixed shape base region a u) left_log (closing (mixed shape base region a u) (mixed_may shape base region a u world.heap.full was)) a (h a)
      (stands_word shape.policy s.log (λ b. u) (mixed shape base region a u) a (h a) (sym here) (world.stands a u inside was)))

  -- ---- what a read finds

  -- a word whose deletion is closed is 0, as the history has it
  given_zero : (a : ℕ) → Has (IsToDelete s.log a) s.log → h a ≡ 0
  given_zero a d = by (world.stands a (found a) inside (found_may a inside))
    where
      inside : IsHeapWord shape a
      inside = deleted_inside shape s world.log.sound a d

      by : Stands shape.policy s.log (λ b. found a) a (h a) → h a ≡ 0
      by (undone u first e) = absurd (not_both shape s a world.log.sound (u, first.among, first.has) d)
      by (deleted nu k e) = e
      by (redone nu nd r last e) = absurd (nd d.0 d.1 d.2)
      by (kept nu nd nr e) = absurd (nd d.0 d.1 d.2)

  -- and no running transaction's own
  given_now : (a : ℕ) → Has (IsToDelete s.log a) s.log → now_of z.world.lanes h a ≡ h a
  given_now a d = elim (whose z.world.lanes a) [
    | inl k ↦ (now_own z.world.lanes h k.0 a (λ i j x y. world.owners.apart i j a x y) k.1 ∙ over_same k.0 (txn_at z.world.lanes k.0).over refl k.1)
    | inr nobodys ↦ now_nobodys z.world.lanes h a nobodys
  ]
    where
      over_same : (j : ℕ) (b : Bool) → (txn_at z.world.lanes j).over ≡ b → IsMine (txn_at z.world.lanes j) a →
          latest (if (txn_at z.world.lanes j).over then [] else take (txn_at z.world.lanes j).stored (txn_at z.world.lanes j).writes) a (h a) ≡ h a
      over_same j true over mine = ap (λ t. latest (if t then [] else take (txn_at z.world.lanes j).stored (txn_at z.world.lanes j).writes) a (h a)) over
      over_same j false runs mine =
          let of = world.transactions.barred d.0 j a d.1 d.2 mine in
          let c = d.2.2 in
          absurd (((world.transactions.each j).going runs).running c.0 c.1 (c.2.0.0, c.2.0.1 ∙ of.0))

  heap : IsRedoHeap shape left_log h lanes later
  heap = record {
    full = λ a m. leaves.full a m (world.heap.full a m);
    now = λ a m none. leaves.newest_is a m ∙ by a m (has_or_none (IsToDelete s.log a) s.log (decide_to_delete s.log a)) ∙ sym (now_shut row z.world.lanes h a);
  }
    where
      by : (a : ℕ) → IsHeapWord shape a → Has (IsToDelete s.log a) s.log ⊎ HasNo (IsToDelete s.log a) s.log → newest (region.at a) ≡ now_of z.world.lanes h a
      by a m (inl d) = stage.zero a (found a) d (found_may a m) ∙ sym (given_zero a d) ∙ sym (given_now a d)
      by a m (inr none) = world.heap.now a m none

  -- ---- the world

  delete_was : (a : ℕ) → Has (IsToDelete left_log a) left_log → Has (IsToDelete s.log a) s.log
  delete_was a d = (d.0, (left_back row [] [] s.log d.0 d.1).0, delete_back s.log row grouped a d.0 d.2)

  at_rest : IsHeldAtRest shape (shut_behind shape l g z).world l
  at_rest = record {
    held = record { holder = stage.held.holder; landed = λ k. flying_shut row z.world.lanes k ∙ stage.held.landed k };
    run = λ p lt. shut_rest shape g z.world.keeping p lt;
    under = stage.under;
  }

  world_left : IsRedoWorldAt shape behind closed.state chains start (shut_behind shape l g z) later
  world_left = record {
    no_force = world.no_force;
    log = log_left;
    spare = spare;
    owners = owners_shut shape row z.world.lanes world.owners;
    transactions = subst (λ k. AreRedoTransactions shape k h lanes) (sym closed.log_is) (transactions_left s.log row grouped shape h z.world.lanes world.transactions);
    heap = subst (λ k. IsRedoHeap shape k h lanes later) (sym closed.log_is) heap;
    stands = λ a u inside may. subst (λ k. Stands shape.policy k (λ b. u) a (h a)) (sym closed.log_is) (stands a u inside may);
    stage = zeroed_from shape closed.state h (shut_behind shape l g z) l later
        (told_beside shape z.dirty region l Fence (λ a m. log_stores_none shape a Fence m tt) stage.told)
        (subst AreSkipped (sym closed.log_is) (skipped_left s.log row grouped stage.skipped))
        (λ a u d may. (let was = delete_was a (subst (λ k. Has (IsToDelete k a) k) closed.log_is d) in
        stage.zero a u was (leaves.fewer a u (deleted_inside shape s world.log.sound a was) may))) at_rest;
  }

  pub fenced_there : HasRedoLeft shape behind s chains start (shut_behind shape l g z) later left_log
  fenced_there = record { state = closed.state; log_is = closed.log_is; no_less = closed.no_less; world = world_left }

pub groups_are_fenced : GroupsAreFenced
groups_are_fenced shape base s chains start z region l g few is whole world =
    subst (λ later. HasRedoLeft shape later s chains start (shut_behind shape l g z) (after region l Fence) (left_open (all_gates shape g) [] [] s.log))
    (behind_is shape base s chains z.world.keeping region l g (stage shape base s chains start z region l g few is whole world).run world.log.logged)
    (fenced_there shape base s chains start z region l g few is whole world)
