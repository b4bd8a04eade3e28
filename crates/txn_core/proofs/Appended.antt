-- A lane behind an event of its append that isn't answered yet.
use Rattle.std.proofs.Common.{◌≡◌, ℕ, ◌+◌, ◌%◌, ◌<◌, ◌≤◌, ◌==◌, if◌then◌else◌, Bool, List, length, ap, ◌∙◌, subst, arith}
use Rattle.std.proofs.lemmas.Bool.Decides.{nat_tests}
use Rattle.persist_model.specs.Region.{Region}
use Rattle.lane_traits.specs.Device.{Counts}
use Rattle.region_layout.specs.declared.cell.Cell.{Cell}
use Rattle.region_layout.specs.declared.layout.Layout.{Layout}
use Rattle.region_layout.specs.Layout.{layout_shape}
use Rattle.lane_types.specs.declared.call.Phase.{Phase}
use Rattle.lane_types.specs.Deeds.{Deeds}
use Rattle.lane_book.specs.declared.book.Book.{Book}
use Rattle.lane_book.specs.declared.lane.Lane.{Lane}
use Rattle.lane_book.specs.FacesOf.{lane_at}
use Rattle.lane_book.specs.Appends.{Falls}
use Rattle.lane_book.specs.Books.{IsBook}
use Rattle.lane_book.specs.Calls.{IsCalling}
use Rattle.lane_book.specs.Reserved.{reserved_in}
use Rattle.log_keeper.specs.declared.keeper.LogKeeper.{LogKeeper}
use Rattle.log_keeper.specs.Keeper.{keeping_of}
use Rattle.log_keeper.specs.Logged.{Keeping}
use Rattle.log_keeper.specs.Parts.{Running, rests}
use Rattle.txn_state.specs.Stages.{stage_of}
use Rattle.txn_state.specs.AppendLaws.{LetsGoOne}
use Rattle.txn_state.proofs.Making.{made_ends}
use Rattle.txn_core.specs.declared.advancing.Went.TheVariants as Went
use Rattle.txn_core.specs.Running.{whole as run_whole}
use Rattle.txn_core.specs.Advancing.{Appends, waits, runs, whole}
use Rattle.txn_core.proofs.Latches.{slot_of_lane}
use Rattle.txn_core.proofs.Latching.{begun_slots}
use Rattle.txn_core.proofs.Paying.{IsPaid, inside_then, paid_then}
use Rattle.txn_core.proofs.UnderWay.{begun_paid, stored_paid, whole_paid}

-- ---- behind a payment

module _ {E : Type 0} (book between : Book E) (l : ℕ) (paid : IsPaid book between l) where
  pub paid_inside : l < length between.lanes.items
  paid_inside = inside_then book between l _ paid.goes

  pub paid_part : (lane_at between l).part ≡ (lane_at book l).part
  paid_part = ap (λ (x : Lane E). x.part) paid.goes.lanes.here

  pub paid_stage : stage_of (lane_at between l) ≡ stage_of (lane_at book l)
  paid_stage = ap (λ (x : Lane E). stage_of x) paid.goes.lanes.here

  pub paid_doing : (lane_at between l).doing ≡ (lane_at book l).doing
  paid_doing = ap (λ (x : Lane E). x.doing) paid.goes.lanes.here

  pub paid_transaction : (lane_at between l).transaction ≡ (lane_at book l).transaction
  paid_transaction = ap (λ (x : Lane E). x.transaction) paid.goes.lanes.here

  -- its call goes on
  pub paid_calling : (lane_at book l).phase ≡ Phase.Calling → IsBook between → IsCalling between l
  paid_calling calling kept = record { inside = paid_inside; calling = ap (λ (x : Lane E). x.phase) paid.goes.lanes.here ∙ calling; kept = kept }

-- ---- behind an append's event

module _ {E : Type 0} (deeds : Deeds E) (layout : Layout) (book between : Book E) (keeper mid : LogKeeper) (words : List ℕ) (region behind : Region) (spare left : ℕ) (counts after : Counts) (l : ℕ) (cell : Cell)
    (lt : l < length book.lanes.items) where
  -- the lane paid for it
  pub stored_is_paid : (c : Cell) → Appends deeds layout keeper mid words region behind counts after spare left book between l cell (Went.Stored c) → IsPaid book between l
  stored_is_paid c (waits holder is waiting same device) = absurd (cc)
  stored_is_paid c (runs begun_log begun_book begun advance) =
      let paid = begun_paid layout keeper begun_log book begun_book words l cell lt begun in
      paid_then book begun_book between l paid
      (stored_paid deeds layout begun_book between begun_log mid region behind spare left counts after l c (inside_then book begun_book l _ paid.goes) advance).paid

  pub whole_is_paid : Appends deeds layout keeper mid words region behind counts after spare left book between l cell Went.Whole → IsPaid book between l
  whole_is_paid (waits holder is waiting same device) = absurd (cc)
  whole_is_paid (runs begun_log begun_book begun advance) =
      let paid = begun_paid layout keeper begun_log book begun_book words l cell lt begun in
      paid_then book begun_book between l paid
      (whole_paid deeds layout begun_book between begun_log mid region behind spare left counts after l (inside_then book begun_book l _ paid.goes) advance).paid

  -- the partition has its slot yet,
  pub slot_behind_append : length keeper.slots.items ≡ layout.partitions → Appends deeds layout keeper mid words region behind counts after spare left book between l cell Went.Whole →
      l % layout.partitions < length mid.slots.items
  slot_behind_append slots (waits holder is waiting same device) = absurd (cc)
  slot_behind_append slots (runs begun_log begun_book begun (whole (run_whole e made counted are keeps) pays)) =
      slot_of_lane layout mid l (keeps.slots.count ∙ begun_slots layout book begun_book keeper begun_log words l cell lt begun ∙ slots)

  -- where nothing is under way
  pub rests_behind_append : Appends deeds layout keeper mid words region behind counts after spare left book between l cell Went.Whole → ((keeping_of mid).runs (l % layout.partitions)).part ≡ rests
  rests_behind_append (waits holder is waiting same device) = absurd (cc)
  rests_behind_append (runs begun_log begun_book begun (whole (run_whole e made counted are keeps) pays)) =
      ap (λ (k : Keeping). (k.runs (l % layout.partitions)).part) keeps.kept
      ∙ ap (λ (r : Running). r.part) (made_ends (layout_shape layout) (l % layout.partitions) (keeping_of begun_log) are)

-- ---- what is reserved

same_test : (m n : ℕ) → (m == n) ≡ (n == m)
same_test m n = grind (arith, nat_tests)

-- a cell less is reserved
pub lets_go_one : {E : Type 0} (layout : Layout) (between later : Book E) (l : ℕ) → Falls 1 between later l → LetsGoOne layout between later (l % layout.partitions)
lets_go_one layout between later l falls q =
    subst (λ (b : Bool). reserved_in later layout.partitions 0 q + (if b then 1 else 0) ≤ reserved_in between layout.partitions 0 q) (same_test (l % layout.partitions) q)
    (no_more (reserved_in later layout.partitions 0 q + (if (l % layout.partitions) == q then 1 else 0)) (reserved_in between layout.partitions 0 q) (falls layout.partitions 0 q))
  where
    no_more : (m n : ℕ) → m ≡ n → m ≤ n
    no_more m n is = omega (arith, is)
