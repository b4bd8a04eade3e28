-- A step of a part keeps the phases of lanes.
use Rattle.std.proofs.Common.{◌≡◌, ◌⊎◌, inl, inr, ℕ, ◌<◌, ◌==◌, if◌then◌else◌, Bool, true, false, length, None, refl, sym, ap, subst}
use Rattle.lane_types.specs.declared.call.Phase.{Phase}
use Rattle.lane_types.specs.declared.call.Stepped.TheVariants as Stepped
use Rattle.lane_book.specs.declared.book.Book.{Book}
use Rattle.lane_book.specs.declared.lane.Lane.{Lane}
use Rattle.lane_book.specs.declared.lane.Doing.{Doing}
use Rattle.lane_book.specs.FacesOf.{lane_at}
use Rattle.lane_book.specs.Lanes.{with_lane, noted, moved, paid_event}
use Rattle.txn_state.specs.declared.parts.TheConstants.{STORE, END, CLOSE_END, DROP}
use Rattle.txn_state.specs.Stages.{Stage, Naming, Storing, Securing, Keeping, stage_at, stage_of}
use Rattle.txn_state.specs.ReadLaws.{clears_in}
use Rattle.txn_core.specs.Phases.{ArePhased}
use Rattle.txn_core.proofs.Paid.{lanes_paid}
use Rattle.txn_core.proofs.Phasing.{phased_with, noted_phased, owing_phased, moved_phased}
use Rattle.txn_core.proofs.Paying.{goes_lane}

-- ---- parts

-- before its end is settled nothing is closed
pub end_open : (phase : Phase) (recorded : Bool) (doing : Doing) → clears_in (stage_at phase recorded END doing) ≡ false
end_open Phase.Out recorded Doing.Nothing = refl
end_open Phase.In recorded Doing.Nothing = refl
end_open Phase.Calling recorded Doing.Nothing = refl
end_open phase recorded (Doing.Begin set) = refl
end_open phase recorded (Doing.Read a) = refl
end_open phase recorded (Doing.Write a v) = refl
end_open phase recorded (Doing.Take s block) = refl
end_open phase recorded (Doing.Give block) = refl
end_open phase true Doing.Commit = refl
end_open phase false Doing.Commit = refl
end_open phase true Doing.Abort = refl
end_open phase false Doing.Abort = refl
end_open phase recorded Doing.Checkpoint = refl
end_open phase recorded (Doing.Batch n) = refl
end_open phase recorded Doing.Savepoint = refl
end_open phase recorded (Doing.RollbackTo n) = refl

write_open : (storing : Bool) → clears_in (if storing then Storing else Naming) ≡ true → ⊥
write_open true e = cc
write_open false e = cc

-- the parts behind
pub data IsBehind : ℕ → Type 0 where
  end_group : IsBehind CLOSE_END
  removal : IsBehind DROP

-- and then it goes on to be closed
pub clears_on : (phase : Phase) (recorded : Bool) (part next : ℕ) (doing : Doing) → IsBehind next → clears_in (stage_at phase recorded part doing) ≡ true →
    clears_in (stage_at phase recorded next doing) ≡ true
clears_on phase true part next Doing.Commit end_group clears = refl
clears_on phase true part next Doing.Commit removal clears = refl
clears_on phase true part next Doing.Abort end_group clears = refl
clears_on phase true part next Doing.Abort removal clears = refl
clears_on phase false part next Doing.Commit behind clears = cc
clears_on phase false part next Doing.Abort behind clears = cc
clears_on Phase.Out recorded part next Doing.Nothing behind clears = cc
clears_on Phase.In recorded part next Doing.Nothing behind clears = cc
clears_on Phase.Calling recorded part next Doing.Nothing behind clears = cc
clears_on phase recorded part next (Doing.Begin set) behind clears = cc
clears_on phase recorded part next (Doing.Read a) behind clears = cc
clears_on phase recorded part next (Doing.Write a v) behind clears = absurd (write_open (part == STORE) clears)
clears_on phase recorded part next (Doing.Take s block) behind clears = absurd (write_open (part == STORE) clears)
clears_on phase recorded part next (Doing.Give block) behind clears = cc
clears_on phase recorded part next Doing.Checkpoint behind clears = cc
clears_on phase recorded part next (Doing.Batch n) behind clears = cc
clears_on phase recorded part next Doing.Savepoint behind clears = cc
clears_on phase recorded part next (Doing.RollbackTo n) behind clears = cc

-- ---- steps

-- the device has stopped
pub stop_phased : {E : Type 0} (book later : Book E) (l : ℕ) → l < length book.lanes.items →
    later ≡ record (with_lane book l (noted Stepped.Stopped (lane_at book l)) None) { stopped = true } → ArePhased book → ArePhased later
stop_phased book later l lt is = phased_with book later l (noted Stepped.Stopped (lane_at book l)) None lt (ap (λ (b : Book _). b.lanes) is) (noted_phased (lane_at book l) Stepped.Stopped)

-- an event is paid for
pub paid_phased : {E : Type 0} (book between : Book E) (l : ℕ) → l < length book.lanes.items → between ≡ with_lane book l (paid_event (lane_at book l)) book.touched →
    ArePhased book → ArePhased between
paid_phased book between l lt is = phased_with book between l (paid_event (lane_at book l)) book.touched lt (ap (λ (b : Book _). b.lanes) is)
    (owing_phased (lane_at book l) (paid_event (lane_at book l)).owed_events (paid_event (lane_at book l)).owed_records)

-- and the call goes on at a part that closes as the one before
pub part_phased : {E : Type 0} (book between later : Book E) (l part : ℕ) → l < length book.lanes.items → between ≡ with_lane book l (paid_event (lane_at book l)) book.touched →
    later ≡ with_lane between l (moved part (lane_at between l)) None →
    clears_in (stage_at (lane_at book l).phase (lane_at book l).has_records part (lane_at book l).doing) ≡ clears_in (stage_of (lane_at book l)) → ArePhased book → ArePhased later
part_phased book between later l part lt pays is same phased =
    phased_with between later l (moved part (lane_at between l)) None (lanes_paid book between l pays lt) (ap (λ (b : Book _). b.lanes) is)
    (moved_phased (lane_at between l) part (subst (λ (x : Lane _). clears_in (stage_of (moved part x)) ≡ clears_in (stage_of x)) (sym (goes_lane book between l (paid_event (lane_at book l)) book.touched lt pays).lanes.here) same))
    (paid_phased book between l lt pays phased)

-- the stages before a fence
pub fence_open : (s : Stage) → (s ≡ Securing) ⊎ (s ≡ Keeping) → clears_in s ≡ false
fence_open s (inl at) = ap clears_in at
fence_open s (inr at) = ap clears_in at
