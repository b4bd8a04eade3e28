-- The lane that appends its end, behind the event of its append that isn't answered yet.
use Rattle.std.proofs.Common.{◌≡◌, ℕ, ◌<◌, Bool, true, false, length, refl, sym, ap, ◌∙◌, subst, if◌then◌else◌}
use Rattle.persist_model.specs.declared.kinds.Outcome.{Outcome}
use Rattle.persist_model.specs.declared.kinds.Outcome.TheVariants.{Committed, RolledBack}
use Rattle.persist_model.specs.Region.{Region}
use Rattle.region_layout.specs.declared.cell.Cell.{Cell}
use Rattle.region_layout.specs.RecordCells.{cell_of_end}
use Rattle.lane_types.specs.declared.call.Phase.{Phase}
use Rattle.lane_book.specs.declared.book.Book.{Book}
use Rattle.lane_book.specs.declared.lane.Lane.{Lane}
use Rattle.lane_book.specs.declared.lane.Doing.{Doing}
use Rattle.lane_book.specs.FacesOf.{lane_at}
use Rattle.lane_book.specs.Appends.{IsOpen, CanEnd}
use Rattle.lane_book.specs.Books.{IsBook, ends}
use Rattle.lane_book.specs.Calls.{IsDoing}
use Rattle.lane_book.specs.Steps.{HasEntry}
use Rattle.txn_state.specs.Stages.{Ending, stage_at, stage_of, is_commit}
use Rattle.txn_state.specs.AppendLaws.{IsNextCell, of_end}
use Rattle.txn_core.proofs.Appended.{paid_inside, paid_doing, paid_calling}
use Rattle.txn_core.proofs.Paying.{IsPaid}

-- ---- its end

-- the next cell is that of its end
pub next_end : {E : Type 0} (region : Region) (lane : Lane E) (cell : Cell) (t : ℕ) (outcome : Outcome) → stage_of lane ≡ Ending → cell ≡ cell_of_end t outcome →
    t ≡ lane.transaction → (if is_commit lane.doing then Committed else RolledBack) ≡ outcome → IsNextCell region lane cell
next_end region lane cell t outcome at is same ends =
    subst (IsNextCell region lane) (sym (is ∙ (λ i. cell_of_end (same i) (sym ends i)))) (of_end at)

-- a commit that appends its end has records
pub ending_recorded : {E : Type 0} (lane : Lane E) → lane.doing ≡ Doing.Commit → stage_of lane ≡ Ending → lane.has_records ≡ true
ending_recorded lane doing at = by lane.has_records (sym (ap (stage_at lane.phase lane.has_records lane.part) doing) ∙ at)
  where
    by : (recorded : Bool) → stage_at lane.phase recorded lane.part Doing.Commit ≡ Ending → recorded ≡ true
    by true is = refl
    by false is = cc

-- ---- behind a payment

module _ {E : Type 0} (book between : Book E) (l : ℕ) (paid : IsPaid book between l) where
  pub commits_on : (lane_at book l).phase ≡ Phase.Calling → (lane_at book l).doing ≡ Doing.Commit → IsBook between → IsDoing Doing.Commit between l
  commits_on calling doing kept = record { inside = paid_inside book between l paid; calling = (paid_calling book between l paid calling kept).calling; call = paid_doing book between l paid ∙ doing; kept = kept }

  -- with the entry it had, for which there is a place
  pub entry_on : HasEntry l (lane_at book l) → HasEntry l (lane_at between l)
  entry_on has = subst (HasEntry l) (sym paid.goes.lanes.here) (record { next = has.next; new = has.new })

  pub few_on : (n : ℕ) → (lane_at book l).commits < n → (lane_at between l).commits < n
  few_on n few = subst (λ (x : Lane E). x.commits < n) (sym paid.goes.lanes.here) few

  pub place_on : length book.history.items < book.history.capacity → length between.history.items < between.history.capacity
  place_on room = subst (λ h. length h.items < h.capacity) (sym paid.goes.history) room

  pub open_on : IsOpen (lane_at book l) → IsOpen (lane_at between l)
  open_on is = subst IsOpen (sym paid.goes.lanes.here) (record { records = is.records; going = is.going })

  pub may_end : (d : Doing) → (lane_at book l).doing ≡ d → ends d ≡ true → IsOpen (lane_at between l) → CanEnd (lane_at between l)
  may_end d doing call is = record { call = ap ends (paid_doing book between l paid ∙ doing) ∙ call; is_open = is }
