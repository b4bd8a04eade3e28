-- What the last event of a closing's second group, or of a removal, leaves.
use Rattle.std.proofs.Common.{◌≡◌, inr, ℕ, ◌%◌, ◌<◌, ◌≤◌, Bool, true, false, List, length, None, refl, sym, ◌∙◌, ap, subst}
use Rattle.std.proofs.Math.Logic.{∥∥₁_map}
use Rattle.persist_model.specs.declared.event.Event.{Event}
use Rattle.persist_model.specs.Region.{Words, Region, newest_words}
use Rattle.atomic_list.specs.declared.plans.Remove.{Remove}
use Rattle.atomic_list.specs.Walk.{chain_of}
use Rattle.lane_traits.specs.Device.{Counts}
use Rattle.region_layout.specs.declared.layout.Layout.{Layout}
use Rattle.region_layout.specs.Layout.{layout_shape}
use Rattle.lane_types.specs.declared.call.Phase.{Phase}
use Rattle.lane_types.specs.declared.call.Stepped.{Stepped}
use Rattle.lane_types.specs.Deeds.{Deeds}
use Rattle.lane_types.specs.Faces.{Base, phase_after}
use Rattle.lane_book.specs.declared.book.Book.{Book}
use Rattle.lane_book.specs.declared.lane.Lane.{Lane}
use Rattle.lane_book.specs.FacesOf.{lane_at}
use Rattle.lane_book.specs.Lanes.{with_lane, moved, left as left_lane, paid_event}
use Rattle.txn_core.proofs.LawfulKept.{leaves_keep, aborts_keep, gives_with}
use Rattle.txn_core.specs.LawfulWorlds.{IsLawfulWorld}
use Rattle.lawful_book.proofs.OwnedHeaps.{never}
use Rattle.lane_book.specs.Steps.{HasEntered}
use Rattle.lane_book.specs.Books.{IsBook}
use Rattle.lane_book.specs.declared.lane.Doing.{Doing}
use Rattle.lane_traits.specs.declared.draft.WordWrite.{WordWrite}
use Rattle.txn_state.specs.Ties.{IsWrittenWord}
use Rattle.txn_state.specs.States.{IsStateOf}
use Rattle.txn_core.specs.Freeing.{freed, blocks_left, with_blocks}
use Rattle.txn_core.proofs.Freeing.{AreWritten, each_of, let_go, no_root_freed, frees, left_to_none, none_ungiven}
use Rattle.lawful_book.proofs.GoingOn.{moved_on}
use Rattle.log_clearing.specs.Dropping.{IsFirstClosed}
use Rattle.log_partition.proofs.Views.{viewed-is}
use Rattle.log_keeper.specs.declared.keeper.LogKeeper.{LogKeeper}
use Rattle.log_keeper.specs.Parts.{rests, drops, Running}
use Rattle.log_keeper.specs.Logged.{Keeping, latched}
use Rattle.log_keeper.specs.Making.{made_part}
use Rattle.log_keeper.specs.Keeper.{begun_in}
use Rattle.txn_laws.specs.Worlds.{IsWorldAt}
use Rattle.txn_laws.specs.Dropped.{dropped}
use Rattle.txn_state.specs.declared.parts.TheConstants.{DROP}
use Rattle.txn_state.specs.Stages.{stage_of, is_commit}
use Rattle.txn_state.specs.States.{IsStateOf}
use Rattle.txn_state.specs.AppendLaws.{IsMade, AreLeft, made_in}
use Rattle.txn_state.specs.Changes.{GoesTo}
use Rattle.txn_state.specs.ClosingLaws.{HasCleared, IsRemovalRead, end_reply}
use Rattle.txn_state.specs.ReadLaws.{HasLogs, IsRemovalSeen, clears_in}
use Rattle.txn_state.proofs.Making.{made_ends, region_is, left_there}
use Rattle.txn_state.proofs.NextParts.{removals_begin}
use Rattle.txn_state.proofs.Cleared.{IsCleared, cleared, transactions_end}
use Rattle.txn_core.specs.declared.advancing.Went.TheVariants as Went
use Rattle.txn_core.specs.Running.{whole as run_whole}
use Rattle.txn_core.specs.Advancing.{Advances, whole}
use Rattle.txn_core.specs.Clearing.{Clears, begins, ends}
use Rattle.txn_core.specs.States.{IsWorld, HasWorld, start_of}
use Rattle.txn_core.specs.Stepping.{StepsWorld, HasMade, IsCause}
use Rattle.txn_core.proofs.Facts.{IsRead}
use Rattle.txn_core.proofs.Latched.{same_part, turned_latches, freed_latches}
use Rattle.txn_core.proofs.Latches.{part_of_lane}
use Rattle.txn_core.proofs.Closings.{turned_then}
use Rattle.txn_core.proofs.ClearedWords.{HasSoundWords, sound_words, sound_words_by, logs_of_words, removal_read}
use Rattle.txn_core.proofs.ClearedCalls.{cleared_clears}
use Rattle.txn_core.proofs.PhasedSteps.{part_phased, paid_phased, clears_on, removal}
use Rattle.txn_core.proofs.Phasing.{phased_with, left_phased}
use Rattle.txn_core.proofs.Paid.{paid_goes, paid_step, lawful_with, lawful_paid, lanes_paid, count_paid, steps_world}
use Rattle.txn_core.proofs.Touching.{touches_none, made_leaves}
use Rattle.txn_core.proofs.Paying.{goes_lane}

-- the plain world behind the event
module _ {E : Type 0} (layout : Layout) (start : Words) (book : Book E) (keeper : LogKeeper) (region behind : Region) (spare left events made l : ℕ) (e : Event)
    (is : IsMade layout keeper region behind l e spare left events made) (over : AreLeft layout keeper (l % layout.partitions) 1) (at : HasCleared (lane_at book l))
    (lt : l < length book.lanes.items) (full : (a : ℕ) → 0 < length (behind.at a)) (state : IsStateOf layout start book keeper region spare events) where
  -- nothing is left of the lane's transaction there
  found : IsCleared layout start book keeper region spare events l e state
  found = cleared layout start book keeper region behind spare left events made l e state is over lt at

  some_part : 1 ≤ layout.partitions
  some_part = layout.partitions_within.0

  world_behind : IsWorldAt (layout_shape layout) found.over.base found.over.state found.over.chains_behind start
      (dropped (layout_shape layout) (l % layout.partitions) state.w) behind
  world_behind = subst (IsWorldAt (layout_shape layout) found.over.base found.over.state found.over.chains_behind start
      (dropped (layout_shape layout) (l % layout.partitions) state.w))
      (sym (region_is E layout book keeper state.s state.w state.tied some_part region behind l e spare left events made is)) found.over.world

  rests_there : ((made_part (layout_shape layout) (l % layout.partitions) state.w.keeping).runs (l % layout.partitions)).part ≡ rests
  rests_there = ap (λ (run : Running). run.part) (made_ends (layout_shape layout) (l % layout.partitions) state.w.keeping
      (left_there E layout book keeper state.s state.w state.tied some_part region behind l e spare left events made is 1 over))

  -- its newest words are sound,
  pub cleared_words : HasSoundWords layout behind
  cleared_words = sound_words layout found.over.base start found.over.state found.over.chains_behind
      (dropped (layout_shape layout) (l % layout.partitions) state.w) behind (λ a below. full a) world_behind

  -- and the next removal is read there
  pub cleared_removal : (r : Remove) → IsRemovalSeen layout (l % layout.partitions) (newest_words behind) r → IsRemovalRead layout (l % layout.partitions) behind r
  cleared_removal r seen = removal_read (layout_shape layout) found.over.base found.over.state found.over.chains_behind
      (made_part (layout_shape layout) (l % layout.partitions) state.w.keeping) behind (l % layout.partitions) (part_of_lane layout l) rests_there
      world_behind.log.logged (λ a below. full a) r (subst (λ (z : Words). IsFirstClosed (layout_shape layout) z (chain_of (layout_shape layout) z) r)
      (viewed-is (l % layout.partitions) (newest_words behind)) seen)

-- the words behind the event have a list for each partition
pub cleared_logs : {E : Type 0} (deeds : Deeds E) (layout : Layout) (book between : Book E) (keeper mid : LogKeeper) (words : List ℕ) (region behind : Region)
    (spare left : ℕ) (counts after : Counts) (l : ℕ) → IsRead words behind after → l < length book.lanes.items → HasCleared (lane_at book l) →
    HasWorld deeds layout book keeper region spare counts → Advances deeds layout keeper mid region behind counts after spare left book between l Went.Whole →
    HasLogs layout words
cleared_logs deeds layout book between keeper mid words region behind spare left counts after l read lt at world (whole (run_whole e is counted over made) pays) =
    subst (HasLogs layout) (sym read.reads) (logs_of_words layout behind (sound_words_by layout behind (∥∥₁_map world (λ w.
    cleared_words layout (start_of layout w.0) book keeper region behind spare left counts.events after.events l e is over at lt read.full w.1.state))))

ends_out : (commits : Bool) → phase_after (end_reply commits) ≡ Phase.Out
ends_out true = refl
ends_out false = refl

commit_of : (d : Doing) → is_commit d ≡ true → d ≡ Doing.Commit
commit_of Doing.Nothing on = cc
commit_of (Doing.Begin set) on = cc
commit_of (Doing.Read a) on = cc
commit_of (Doing.Write a v) on = cc
commit_of (Doing.Take s k) on = cc
commit_of (Doing.Give k) on = cc
commit_of Doing.Commit on = refl
commit_of Doing.Abort on = cc
commit_of Doing.Checkpoint on = cc
commit_of (Doing.Batch n) on = cc
commit_of Doing.Savepoint on = cc
commit_of (Doing.RollbackTo n) on = cc

pub cleared_world : {E : Type 0} (deeds : Deeds E) (layout : Layout) (book between later : Book E) (keeper mid kept : LogKeeper) (words : List ℕ) (region behind : Region)
    (spare left : ℕ) (counts after : Counts) (l : ℕ) (answer : Stepped) → IsRead words behind after → l < length book.lanes.items → HasCleared (lane_at book l) →
    Advances deeds layout keeper mid region behind counts after spare left book between l Went.Whole → ((lane_at between l).doing ≡ Doing.Commit → HasEntered between l) →
    Clears deeds layout mid kept words between later l answer →
    StepsWorld deeds layout book later keeper kept region behind spare left counts after l answer
cleared_world {E} deeds layout book between later keeper mid kept words region behind spare left counts after l answer read lt at
    (whole (run_whole e is counted over made) pays) joined (begins r seen told turned moves) =
    steps_world deeds layout book later keeper kept region behind spare left counts after l answer stays (paid_step deeds book between later l answer lt pays moves.step)
    (subst (λ (a : Stepped). HasMade a counts after) (sym told) counted)
    (part_phased book between later l DROP lt pays moves.is
    (clears_on (lane_at book l).phase (lane_at book l).has_records (lane_at book l).part DROP (lane_at book l).doing removal clears ∙ sym clears))
    (subst (λ (a : Stepped). IsCause layout book keeper counts l a) (sym told) tt)
    (count_paid book between later l (moved DROP (lane_at between l)) pays (ap (λ (b : Book _). b.lanes) moves.is))
    (λ base world. touches_none layout region behind later.touched (ap (λ (b : Book _). b.touched) moves.is)
    (made_leaves layout (start_of layout base) book keeper region behind spare left counts.events after.events l e is world.state))
    (turned_latches deeds layout book book between keeper keeper mid region behind spare left counts after l (λ q ne. same_part keeper keeper refl q) later kept _ _
    (whole (run_whole e is counted over made) pays) turned.kept (ap (λ (x : Lane _). clears_in (stage_of x)) goes.lanes.here
    ∙ clears_on (lane_at book l).phase (lane_at book l).has_records (lane_at book l).part DROP (lane_at book l).doing removal clears))
  where
    clears : clears_in (stage_of (lane_at book l)) ≡ true
    clears = cleared_clears (lane_at book l) at

    inside : l < length between.lanes.items
    inside = lanes_paid book between l pays lt

    goes : GoesTo book later l (moved DROP (paid_event (lane_at book l)))
    goes = paid_goes book between later l (paid_event (lane_at book l)) (moved DROP) book.touched lt pays
        (goes_lane between later l (moved DROP (lane_at between l)) None inside moves.is)

    stays : (base : Base) → IsWorld deeds layout base book keeper region spare counts.events → IsWorld deeds layout base later kept behind left after.events
    stays base world = record {
      state = removals_begin layout (start_of layout base) book later keeper kept region behind spare left counts.events after.events l e r is over at
          (cleared_removal layout (start_of layout base) book keeper region behind spare left counts.events after.events l e is over at lt read.full world.state r
          (subst (λ ws. IsRemovalSeen layout (l % layout.partitions) ws r) read.reads seen))
          goes moves.kept
          (turned_then keeper mid kept (made_in layout keeper (l % layout.partitions)) (λ (k : Keeping). begun_in (l % layout.partitions) (drops r) k.ledger k)
          made turned) world.state;
      lawful = lawful_with deeds layout base between later l (moved DROP (lane_at between l)) None inside moves.is (moved_on DROP (lane_at between l))
          (lawful_paid deeds layout base book between l lt pays world.lawful);
    }
cleared_world {E} deeds layout book between later keeper mid kept words region behind spare left counts after l answer read lt at
    (whole (run_whole e is counted over made) pays) joined (ends told turned moves) =
    steps_world deeds layout book later keeper kept region behind spare left counts after l answer stays (paid_step deeds book between later l answer lt pays moves.step)
    (subst (λ (a : Stepped). HasMade a counts after) (sym told) (inr counted))
    (λ phased. phased_with between later l (left_lane (end_reply (is_commit (lane_at between l).doing)) (lane_at between l)) None inside
    (ap (λ (b : Book _). b.lanes) moves.is) (left_phased (lane_at between l) (end_reply (is_commit (lane_at between l).doing))) (paid_phased book between l lt pays phased))
    (subst (λ (a : Stepped). IsCause layout book keeper counts l a) (sym told) tt)
    (count_paid book between later l (left_lane (end_reply (is_commit (lane_at between l).doing)) (lane_at between l)) pays (ap (λ (b : Book _). b.lanes) moves.is))
    (λ base world. touches_none layout region behind later.touched (ap (λ (b : Book _). b.touched) moves.is)
    (made_leaves layout (start_of layout base) book keeper region behind spare left counts.events after.events l e is world.state))
    (freed_latches deeds layout book book between keeper keeper mid region behind spare left counts after l (λ q ne. same_part keeper keeper refl q) later kept
    (whole (run_whole e is counted over made) pays) turned.kept)
  where
    inside : l < length between.lanes.items
    inside = lanes_paid book between l pays lt

    here : lane_at between l ≡ paid_event (lane_at book l)
    here = (goes_lane book between l (paid_event (lane_at book l)) book.touched lt pays).lanes.here

    -- the book with the blocks as they were
    ended : Book E
    ended = with_lane between l (left_lane (end_reply (is_commit (lane_at between l).doing)) (lane_at between l)) None

    ended_state : (base : Base) → IsWorld deeds layout base book keeper region spare counts.events → IsStateOf layout (start_of layout base) ended kept behind left after.events
    ended_state base world = transactions_end layout (start_of layout base) book ended keeper kept region behind spare left counts.events after.events l e is over at
        (paid_goes book between ended l (paid_event (lane_at book l)) (λ (x : Lane _). left_lane (end_reply (is_commit x.doing)) x) book.touched lt pays
        (goes_lane between ended l (left_lane (end_reply (is_commit (lane_at between l).doing)) (lane_at between l)) None inside refl))
        (subst (λ (b : Book _). IsBook b) moves.is moves.kept)
        (turned_then keeper mid kept (made_in layout keeper (l % layout.partitions)) (latched (l % layout.partitions) 17) made turned) world.state

    stays : (base : Base) → IsWorld deeds layout base book keeper region spare counts.events → IsWorld deeds layout base later kept behind left after.events
    stays base world = by (is_commit (lane_at between l).doing) refl moves.is
      where
        was : IsLawfulWorld deeds layout base between
        was = lawful_paid deeds layout base book between l lt pays world.lawful

        by : (c : Bool) → is_commit (lane_at between l).doing ≡ c →
            later ≡ with_lane (with_blocks (blocks_left layout c (lane_at between l) between.blocks) between) l (left_lane (end_reply (is_commit (lane_at between l).doing)) (lane_at between l)) None →
            IsWorld deeds layout base later kept behind left after.events
        by true commits later_is = subst (λ (b : Book _). IsWorld deeds layout base b kept behind left after.events) (sym later_is) (record {
          state = ended_state base world;
          lawful = leaves_keep deeds layout base between ended l (end_reply (is_commit (lane_at between l).doing)) None was inside (ends_out (is_commit (lane_at between l).doing))
              (λ new. absurd (never _ (joined (commit_of (lane_at between l).doing commits)).entered new)) refl;
        })
        by false aborts later_is = subst (λ (b : Book _). IsWorld deeds layout base b kept behind left after.events) (sym later_is) (record {
          state = frees layout (start_of layout base) ended kept behind left after.events (lane_at between l).writes.items
              (left_to_none deeds layout base between was l (left_lane (end_reply (is_commit (lane_at between l).doing)) (lane_at between l)) inside refl new)
              (none_ungiven ended (gives_with between l (left_lane (end_reply (is_commit (lane_at between l).doing)) (lane_at between l)) None inside refl was.no_gives)) (ended_state base world);
          lawful = aborts_keep deeds layout base between (with_blocks (freed layout (lane_at between l).writes.items between.blocks) ended) l (end_reply (is_commit (lane_at between l).doing))
              (freed layout (lane_at between l).writes.items between.blocks) None was inside (ends_out (is_commit (lane_at between l).doing)) new
              (let_go layout base.heap was.owned.place.start (lane_at between l).writes.items between.blocks was.owned.many was.owned.place.blocks written)
              (no_root_freed layout (lane_at between l).writes.items between.blocks written was.no_root) refl;
        })
          where
            new : (lane_at between l).entered ≡ false
            new = ap (λ (x : Lane _). x.entered) here ∙ (world.state.is_book.entries.others l (ap (λ (x : Lane _). is_commit x.doing) (sym here) ∙ aborts)).unentered

            written : AreWritten layout (lane_at between l).writes.items
            written = subst (λ (x : Lane _). AreWritten layout x.writes.items) (sym here)
                (each_of (λ (w : WordWrite). IsWrittenWord (layout_shape layout) w.address) (lane_at book l).writes.items
                (world.state.tied.each l (subst (λ n. l < n) (sym world.state.tied.lanes) lt)).written_words)
