-- What a step of a part is answered.
use Rattle.std.proofs.Common.{◌≡◌, ℕ, ◌%◌, true, List, None, Some, refl, sym, ap, subst}
use Rattle.persist_model.specs.Region.{Region}
use Rattle.lane_traits.specs.Device.{Counts}
use Rattle.region_layout.specs.declared.cell.Cell.{Cell}
use Rattle.region_layout.specs.declared.layout.Layout.{Layout}
use Rattle.lane_types.specs.declared.call.Stepped.{Stepped}
use Rattle.lane_types.specs.declared.call.What.TheVariants as What
use Rattle.lane_types.specs.Deeds.{Deeds}
use Rattle.lane_book.specs.declared.book.Book.{Book}
use Rattle.lane_book.specs.FacesOf.{lane_at}
use Rattle.lane_book.specs.Lanes.{with_lane, noted, moved}
use Rattle.lane_book.specs.Steps.{Steps}
use Rattle.lane_book.specs.Books.{IsBook}
use Rattle.lane_book.specs.Calls.{Moves}
use Rattle.log_keeper.specs.declared.keeper.LogKeeper.{LogKeeper}
use Rattle.txn_core.specs.declared.advancing.Went.{Went}
use Rattle.txn_core.specs.declared.running.Ran.TheVariants as Ran
use Rattle.txn_core.specs.Running.{Runs, Pays}
use Rattle.txn_core.specs.Beginning.{Begins, waits}
use Rattle.txn_core.specs.Advancing.{Advances, stopped, going, Appends, waits as waits_for}

module _ {E : Type 0} (deeds : Deeds E) (layout : Layout) (keeper later : LogKeeper) (region behind : Region) (counts after : Counts) (spare left : ℕ) (book between next : Book E) (l : ℕ) (answer : Stepped) where
  pub advance_stopped : answer ≡ Stepped.Stopped → Runs layout keeper later region behind counts after l spare left Ran.Stopped → Pays book between l Ran.Stopped →
      next ≡ record (with_lane between l (noted Stepped.Stopped (lane_at between l)) None) { stopped = true } → Steps deeds between next l answer → IsBook next →
      Advances deeds layout keeper later region behind counts after spare left book next l (Went.Answered answer)
  advance_stopped told runs pays is step kept = subst (λ (a : Stepped). Advances deeds layout keeper later region behind counts after spare left book next l (Went.Answered a)) (sym told)
      (stopped between runs pays (record { is = is; step = subst (λ (a : Stepped). Steps deeds between next l a) told step; kept = kept }))

  pub advance_going : (part : ℕ) → answer ≡ Stepped.Moved → part ≡ (lane_at between l).part → Runs layout keeper later region behind counts after l spare left Ran.Going →
      Pays book between l Ran.Going → Moves deeds between next l None answer (moved part (lane_at between l)) →
      Advances deeds layout keeper later region behind counts after spare left book next l (Went.Answered answer)
  advance_going part told same runs pays moves = subst (λ (a : Stepped). Advances deeds layout keeper later region behind counts after spare left book next l (Went.Answered a)) (sym told)
      (going between runs pays (subst (λ (a : Stepped). Moves deeds between next l None a (moved (lane_at between l).part (lane_at between l))) told
      (subst (λ (n : ℕ). Moves deeds between next l None answer (moved n (lane_at between l))) same moves)))

-- ---- appends

module _ {E : Type 0} (deeds : Deeds E) (layout : Layout) (keeper mid : LogKeeper) (words : List ℕ) (region : Region) (counts : Counts) (spare : ℕ) (book between next : Book E) (l : ℕ) (cell : Cell) (holder : ℕ) where
  pub waits_same : Begins layout keeper mid book between words l cell (Some holder) → between ≡ book
  waits_same (waits h held some other same_keeper same) = same

  pub append_waits : (answer : Stepped) → answer ≡ Stepped.Waiting (What.Latch (l % layout.partitions)) holder → Begins layout keeper mid book between words l cell (Some holder) →
      Moves deeds between next l None answer (noted (Stepped.Waiting (What.Latch (l % layout.partitions)) holder) (lane_at between l)) →
      Appends deeds layout keeper mid words region region counts counts spare spare book next l cell (Went.Answered answer)
  append_waits answer told (waits h held some other same_keeper same) moves = waits_for holder (ap Went.Answered told) (record {
    held = held;
    some = some;
    other = other;
    moves = subst (λ (b : Book E). Moves deeds b next l None (Stepped.Waiting (What.Latch (l % layout.partitions)) holder) (noted (Stepped.Waiting (What.Latch (l % layout.partitions)) holder) (lane_at b l))) same
        (subst (λ (a : Stepped). Moves deeds between next l None a (noted (Stepped.Waiting (What.Latch (l % layout.partitions)) holder) (lane_at between l))) told moves);
  }) same_keeper (record { region_stays = refl; counts_stay = refl; spare_stays = refl })
