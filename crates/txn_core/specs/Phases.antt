-- The phase of a lane with a call in progress, whether a commit's entry has joined, and what an abort has left, by how far the call has come.
use Rattle.std.specs.Prelude.{◌≡◌, ◌≢◌, ◌&&◌, ℕ, true, false}
use Rattle.lane_types.specs.declared.call.Phase.{Phase}
use Rattle.lane_book.specs.declared.book.Book.{Book}
use Rattle.lane_book.specs.declared.lane.Lane.{Lane}
use Rattle.lane_book.specs.declared.lane.Doing.{Doing}
use Rattle.lane_book.specs.FacesOf.{lane_at}
use Rattle.txn_state.specs.Stages.{stage_of, is_commit}
use Rattle.txn_state.specs.ReadLaws.{clears_in}

-- It is calling; the entry of a commit joins behind the append of its end; and behind that of an abort's none of its writes stands.
pub record IsPhased {E : Type 0} (lane : Lane E) : Type 0 where
  pub calling : lane.doing ≢ Doing.Nothing → lane.phase ≡ Phase.Calling
  pub joined : lane.entered ≡ (is_commit lane.doing && clears_in (stage_of lane))
  pub undone : clears_in (stage_of lane) ≡ true → is_commit lane.doing ≡ false → lane.stored ≡ 0

abbrev pub ArePhased : {E : Type 0} → Book E → Type 0
ArePhased book = (l : ℕ) → IsPhased (lane_at book l)
