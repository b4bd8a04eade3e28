-- What a step makes of the latches: what becomes of a partition's part, and what holds of each.
use Rattle.std.proofs.Common.{◌≡◌, ◌≢◌, ◌⊎◌, inl, inr, ℕ, ◌+◌, ◌%◌, ◌<◌, ◌≤◌, if◌then◌else◌, Bool, true, false, ◌||◌, List, length, None, refl, ap, ◌∙◌, arith}
use Rattle.persist_model.specs.Region.{Region}
use Rattle.persist_model.specs.Shape.{Shape}
use Rattle.lane_traits.specs.Device.{Counts}
use Rattle.region_layout.specs.declared.cell.Cell.{Cell}
use Rattle.region_layout.specs.declared.layout.Layout.{Layout}
use Rattle.region_layout.specs.Layout.{layout_shape}
use Rattle.lane_types.specs.declared.call.Phase.{Phase}
use Rattle.lane_types.specs.declared.call.Stepped.{Stepped}
use Rattle.lane_types.specs.Deeds.{Deeds}
use Rattle.lane_book.specs.declared.book.Book.{Book}
use Rattle.lane_book.specs.FacesOf.{lane_at}
use Rattle.log_keeper.specs.declared.keeper.LogKeeper.{LogKeeper}
use Rattle.region_layout.specs.Cell.{record_of}
use Rattle.bucket_log.specs.Plans.{place_address}
use Rattle.log_keeper.specs.Keeper.{keeping_of, begun_in, numbered}
use Rattle.log_keeper.specs.Ledger.{Noted}
use Rattle.log_keeper.specs.Logged.{Keeping, with_holder, latched, begun, ended, plan_in}
use Rattle.log_keeper.specs.Making.{is_over, settled_by, gone_on, made_part}
use Rattle.log_keeper.specs.Parts.{LogPart, Running, appends}
use Rattle.txn_state.specs.AppendLaws.{AreLeft, made_in}
use Rattle.txn_state.specs.ReadLaws.{appends_in, clears_in}
use Rattle.txn_state.specs.Stages.{Stage, Free, Between, Leaving, Naming, Storing, Deleting, Securing, Opening, Undoing, TakingBack, Keeping as Keeps, Ending, Closing, ClosingEnd, Dropping, Unbuilt, idle_stage, stage_of}
use Rattle.txn_state.proofs.Making.{made_elsewhere, made_here, test_same, test_other}
use Rattle.txn_core.specs.declared.advancing.Went.{Went}
use Rattle.txn_core.specs.Advancing.{Advances, stopped as stops_so, going as goes_so, stored as stored_so, whole as whole_so}
use Rattle.txn_core.specs.Beginning.{Begins, holds, begins}
use Rattle.txn_core.specs.Latched.{is_latched, IsSamePart, AreSameBeside, Latches, stop_told, event_made, clearing, latch_free}
use Rattle.txn_core.specs.Running.{going, stored, whole}

-- ---- stages

pub some_bool : (b : Bool) → (b ≡ true) ⊎ (b ≡ false)
some_bool true = inl refl
some_bool false = inr refl

pub idle_unlatched : (phase : Phase) → is_latched (idle_stage phase) ≡ false
idle_unlatched Phase.Out = refl
idle_unlatched Phase.In = refl
idle_unlatched Phase.Calling = refl

-- a lane that appends doesn't clear yet
pub appends_or_clears : (s : Stage) → appends_in s ≡ true → clears_in s ≡ true → ⊥
appends_or_clears Free on clears = cc
appends_or_clears Between on clears = cc
appends_or_clears Leaving on clears = cc
appends_or_clears Naming on clears = cc
appends_or_clears Storing on clears = cc
appends_or_clears Deleting on clears = cc
appends_or_clears Securing on clears = cc
appends_or_clears Opening on clears = cc
appends_or_clears Undoing on clears = cc
appends_or_clears TakingBack on clears = cc
appends_or_clears Keeps on clears = cc
appends_or_clears Ending on clears = cc
appends_or_clears Closing on clears = cc
appends_or_clears ClosingEnd on clears = cc
appends_or_clears Dropping on clears = cc
appends_or_clears Unbuilt on clears = cc

pub appends_latched : (s : Stage) → appends_in s ≡ true → is_latched s ≡ true
appends_latched s on = ap (λ b. b || clears_in s) on

-- ---- one partition

pub same_part : (keeper kept : LogKeeper) → kept ≡ keeper → (q : ℕ) → IsSamePart keeper kept q
same_part keeper kept same q = record { holder = ap (λ (k : LogKeeper). (keeping_of k).holder q) same; run = ap (λ (k : LogKeeper). (keeping_of k).runs q) same }

same_then : (keeper mid kept : LogKeeper) (q : ℕ) → IsSamePart keeper mid q → IsSamePart mid kept q → IsSamePart keeper kept q
same_then keeper mid kept q one other = record { holder = other.holder ∙ one.holder; run = other.run ∙ one.run }

-- another holder of partition p
latched_beside : (keeper kept : LogKeeper) (p n q : ℕ) → keeping_of kept ≡ latched p n (keeping_of keeper) → q ≢ p → IsSamePart keeper kept q
latched_beside keeper kept p n q is ne = record {
  holder = ap (λ (k : Keeping). k.holder q) is ∙ ap (λ t. if t then n else (keeping_of keeper).holder q) (test_other q p ne);
  run = ap (λ (k : Keeping). k.runs q) is;
}

latched_here : (keeper kept : LogKeeper) (p n : ℕ) → keeping_of kept ≡ latched p n (keeping_of keeper) → (keeping_of kept).holder p ≡ n
latched_here keeper kept p n is = ap (λ (k : Keeping). k.holder p) is ∙ ap (λ t. if t then n else (keeping_of keeper).holder p) (test_same p p refl)

-- a part begins in p, whose holder stays
begun_beside : (keeper kept : LogKeeper) (p q : ℕ) (part : LogPart) (ledger : List Noted) → keeping_of kept ≡ begun_in p part ledger (keeping_of keeper) → q ≢ p → IsSamePart keeper kept q
begun_beside keeper kept p q part ledger is ne = record {
  holder = ap (λ (k : Keeping). k.holder q) is ∙ ap (λ t. if t then (keeping_of keeper).holder p else (keeping_of keeper).holder q) (test_other q p ne);
  run = ap (λ (k : Keeping). k.runs q) is ∙ ap (λ t. if t then begun part else (keeping_of keeper).runs q) (test_other q p ne);
}

begun_here : (keeper kept : LogKeeper) (p : ℕ) (part : LogPart) (ledger : List Noted) → keeping_of kept ≡ begun_in p part ledger (keeping_of keeper) →
    (keeping_of kept).holder p ≡ (keeping_of keeper).holder p
begun_here keeper kept p part ledger is =
    ap (λ (k : Keeping). k.holder p) is ∙ ap (λ t. if t then (keeping_of keeper).holder p else (keeping_of keeper).holder p) (test_same p p refl)

-- an event of p's part is made
made_holder : (shape : Shape) (p : ℕ) (k : Keeping) → (made_part shape p k).holder ≡ k.holder
made_holder shape p k = by (is_over (plan_in shape k p) ((k.runs p).made + 1))
  where
    by : (t : Bool) → (if t then ended p (settled_by (k.runs p).part k.ledger) k else gone_on (is_over (plan_in shape k p) ((k.runs p).made + 2)) p (k.runs p) k).holder ≡ k.holder
    by true = refl
    by false = refl

made_beside : (layout : Layout) (keeper kept : LogKeeper) (p q : ℕ) → keeping_of kept ≡ made_in layout keeper p → q ≢ p → IsSamePart keeper kept q
made_beside layout keeper kept p q is ne = record {
  holder = ap (λ (k : Keeping). k.holder q) is ∙ ap (λ h. h q) (made_holder (layout_shape layout) p (keeping_of keeper));
  run = ap (λ (k : Keeping). k.runs q) is ∙ made_elsewhere (layout_shape layout) p (keeping_of keeper) q ne;
}

holder_stays : (layout : Layout) (keeper kept : LogKeeper) (p : ℕ) → keeping_of kept ≡ made_in layout keeper p → (keeping_of kept).holder p ≡ (keeping_of keeper).holder p
holder_stays layout keeper kept p is = ap (λ (k : Keeping). k.holder p) is ∙ ap (λ h. h p) (made_holder (layout_shape layout) p (keeping_of keeper))

more_left : (made n plan : ℕ) → made + (n + 2) ≡ plan → made + 1 < plan
more_left made n plan left = omega (arith, left)

some_made : (layout : Layout) (keeper kept : LogKeeper) (p n : ℕ) → AreLeft layout keeper p (n + 2) → keeping_of kept ≡ made_in layout keeper p → 1 ≤ ((keeping_of kept).runs p).made
some_made layout keeper kept p n left is =
    let here = ap (λ (k : Keeping). (k.runs p).made) is ∙ ap (λ (r : Running). r.made) (made_here (layout_shape layout) p (keeping_of keeper)
    (more_left ((keeping_of keeper).runs p).made n (length (plan_in (layout_shape layout) (keeping_of keeper) p)) left)) in
    omega (arith, here)

-- ---- what stands behind the begin of an append

pub begins_beside : {E : Type 0} (layout : Layout) (keeper mid : LogKeeper) (book between : Book E) (words : List ℕ) (l : ℕ) (cell : Cell) →
    Begins layout keeper mid book between words l cell None → AreSameBeside layout keeper mid l
begins_beside layout keeper mid book between words l cell (holds held same_keeper same) q ne = same_part keeper mid same_keeper q
begins_beside layout keeper mid book between words l cell (begins place free seen drawn is) q ne = record {
  holder = ap (λ (k : Keeping). k.holder q) drawn.kept
      ∙ ap (λ t. if t then with_holder (l % layout.partitions) l (keeping_of keeper).holder (l % layout.partitions) else (if t then l else (keeping_of keeper).holder q))
      (test_other q (l % layout.partitions) ne);
  run = ap (λ (k : Keeping). k.runs q) drawn.kept ∙ ap (λ t. if t then begun (appends place (record_of (place_address place) (numbered keeper.next_lsn cell))) else (keeping_of keeper).runs q) (test_other q (l % layout.partitions) ne);
}

-- ---- an event of the lane's part

module _ {E : Type 0} (deeds : Deeds E) (layout : Layout) (book before between : Book E) (keeper mid kept : LogKeeper) (region behind : Region) (spare left : ℕ) (counts after : Counts) (l : ℕ)
    (beside : AreSameBeside layout keeper mid l) where
  -- which is answered as the call goes on, or the device has stopped
  pub answered_latches : (answer : Stepped) → Advances deeds layout mid kept region behind counts after spare left before between l (Went.Answered answer) → Latches layout book between keeper kept l
  answered_latches _ (stops_so paid run pays stops) = stop_told (ap (λ (b : Book E). b.stopped) stops.is)
  answered_latches _ (goes_so paid (going e n is counted are no_gate keeps) pays moves) =
      event_made (λ q ne. same_then keeper mid kept q (beside q ne) (made_beside layout mid kept (l % layout.partitions) q keeps.kept ne))
      (some_made layout mid kept (l % layout.partitions) n are keeps.kept)

  -- or stores a record's gate
  pub stored_latches : (later : Book E) (c : Cell) → Advances deeds layout mid kept region behind counts after spare left before between l (Went.Stored c) → Latches layout book later keeper kept l
  stored_latches later _ (stored_so c (stored e place _ is counted are part_is keeps) pays) =
      event_made (λ q ne. same_then keeper mid kept q (beside q ne) (made_beside layout mid kept (l % layout.partitions) q keeps.kept ne))
      (some_made layout mid kept (l % layout.partitions) 0 are keeps.kept)

  -- or is the last of its part, behind which the latch is let go
  pub freed_latches : (later : Book E) (end : LogKeeper) → Advances deeds layout mid kept region behind counts after spare left before between l Went.Whole →
      keeping_of end ≡ latched (l % layout.partitions) 17 (keeping_of kept) → Latches layout book later keeper end l
  freed_latches later end (whole_so (whole e is counted are keeps) pays) let_go =
      latch_free (λ q ne. same_then keeper kept end q (same_then keeper mid kept q (beside q ne) (made_beside layout mid kept (l % layout.partitions) q keeps.kept ne))
      (latched_beside kept end (l % layout.partitions) 17 q let_go ne))
      (latched_here kept end (l % layout.partitions) 17 let_go)

  -- or the next part begins, with which the lane clears
  pub turned_latches : (later : Book E) (end : LogKeeper) (part : LogPart) (ledger : List Noted) →
      Advances deeds layout mid kept region behind counts after spare left before between l Went.Whole →
      keeping_of end ≡ begun_in (l % layout.partitions) part ledger (keeping_of kept) → clears_in (stage_of (lane_at later l)) ≡ true → Latches layout book later keeper end l
  turned_latches later end part ledger (whole_so (whole e is counted are keeps) pays) turned clears =
      clearing (λ q ne. same_then keeper kept end q (same_then keeper mid kept q (beside q ne) (made_beside layout mid kept (l % layout.partitions) q keeps.kept ne))
      (begun_beside kept end (l % layout.partitions) q part ledger turned ne))
      (begun_here kept end (l % layout.partitions) part ledger turned ∙ holder_stays layout mid kept (l % layout.partitions) keeps.kept ∙ is.holder) clears
