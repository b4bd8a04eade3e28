-- The answer of a step is the last one of the lane's tally.
use Rattle.std.proofs.Common.{◌≡◌, ℕ, ◌<◌, [], length, Option, Some, None, sym, ap, ◌∙◌}
use Rattle.lane_traits.specs.Device.{Counts}
use Rattle.lane_types.specs.declared.call.Reply.{Reply}
use Rattle.lane_types.specs.declared.call.Reply.TheVariants.{Begun, Word, Written, Block, Given, Committed, Aborted, Checkpointed, Saved, RolledBack}
use Rattle.lane_types.specs.declared.call.Stepped.{Stepped}
use Rattle.lane_types.specs.declared.call.Stepped.TheVariants.{Moved, Answered, Waiting, Stopped, Idle}
use Rattle.lane_types.specs.Deeds.{Deeds}
use Rattle.lane_types.specs.Faces.{Base, WholeFace}
use Rattle.lane_types.specs.LaneSteps as rows
use Rattle.lane_types.specs.LaneSteps.{LaneStep, Answers, CommitStep}
use Rattle.lane_book.specs.declared.book.Book.{Book}
use Rattle.lane_book.specs.declared.lane.Lane.{Lane}
use Rattle.lane_book.specs.Lanes.{with_lane}
use Rattle.lane_book.specs.FacesOf.{lane_at, faces_of}
use Rattle.lane_book.specs.Steps.{Steps, IsStep}
use Rattle.lane_book.proofs.Faces.{lane_at-same}

module _ {E : Type 0} (deeds : Deeds E) where
  abbrev last_of : WholeFace E → Option Stepped
  last_of f = f.face.tally.last

  committed : (f g : WholeFace E) → CommitStep f g → last_of g ≡ Some (Answered Committed)
  committed f g (rows.after_entering deed call entered next) = ap last_of next
  committed f g (rows.entering_now e is next) = ap last_of next

  replied : (reply : Reply) (f g : WholeFace E) → Answers deeds reply f g → last_of g ≡ Some (Answered reply)
  replied (Begun n) f g row = ap last_of row.next
  replied (Word v) f g row = ap last_of row.next
  replied Written f g row = ap last_of row.next
  replied (Block b) f g row = ap last_of row.next
  replied Given f g row = ap last_of row.next
  replied Committed f g row = committed f g row
  replied Aborted f g row = ap last_of row.next
  replied Checkpointed f g row = ap last_of row.next
  replied (Saved n) f g row = ap last_of row.next
  replied RolledBack f g row = ap last_of row.next

  moves_told : (f g : WholeFace E) → rows.Moves f g → last_of g ≡ Some Moved
  moves_told f g (rows.going_on next) = ap last_of next
  moves_told f g (rows.entering_on e is next) = ap last_of next
  moves_told f g (rows.writing_on before after w call next) = ap last_of next
  moves_told f g (rows.taking_back held takes same next) = ap last_of next

  pub told : (answer : Stepped) (f g : WholeFace E) → LaneStep deeds answer f g → last_of g ≡ Some answer
  told Moved f g step = moves_told f g step.row
  told (Answered reply) f g step = replied reply f g step.row
  told (Waiting what holder) f g step = ap last_of step.next
  told Stopped f g step = ap last_of step
  told Idle f g step = ap last_of step.next

  -- the answer in an option
  the_answer : Stepped → Option Stepped → Stepped
  the_answer other None = other
  the_answer other (Some answer) = answer

  -- what stands nowhere
  abbrev no_base : Counts → Base
  no_base counts = record { sorts = []; structures = 0; header = []; heap = record { start = 0; blocks = 0; at = λ a. 0 }; counts = counts }

  -- So is that of a step to a book whose lane has this tally.
  pub answer_is : (base : Base) (book later : Book E) (l : ℕ) (answer noted : Stepped) → IsStep deeds (faces_of base book) (faces_of base later) l answer →
      (lane_at later l).tally.last ≡ Some noted → answer ≡ noted
  unfolding the_answer
  answer_is base book later l answer noted step last = ap (the_answer answer) (sym (told answer (faces_of base book l) (faces_of base later l) step.step) ∙ last)

  pub steps_answer : (counts : Counts) (book later : Book E) (l : ℕ) (answer noted : Stepped) → Steps deeds book later l answer → (lane_at later l).tally.last ≡ Some noted → answer ≡ noted
  steps_answer counts book later l answer noted steps last = answer_is (no_base counts) book later l answer noted (steps (no_base counts)) last

  -- the tally of the lane that it is now
  pub last_is : (book b later : Book E) (l : ℕ) (lane : Lane E) (noted : Stepped) (touched : Option ℕ) → l < length book.lanes.items → later.lanes ≡ (with_lane book l lane touched).lanes →
      lane.tally.last ≡ Some noted → (lane_at later l).tally.last ≡ Some noted
  last_is book b later l lane noted touched lt is last =
      ap (λ lanes. (lane_at (record b { lanes = lanes }) l).tally.last) is ∙ ap (λ (x : Lane E). x.tally.last) (lane_at-same book l lane touched lt) ∙ last
