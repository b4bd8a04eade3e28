-- Rows, refusals and histories that are lawful, and some that aren't.
use Rattle.std.proofs.Common.{◌≡◌, ℕ, ◌<◌, [], ◌∷◌, refl, ap, Some, None}
use Rattle.lane_types.specs.declared.call.Call.TheVariants.{Begin, Read, Write, Abort, Batch}
use Rattle.lane_types.specs.declared.call.Phase.TheVariants.{In}
use Rattle.lane_types.specs.declared.call.Reply.TheVariants.{Word, Written, Aborted}
use Rattle.lane_types.specs.declared.call.Refusal.TheVariants.{WrongPhase, LogFull}
use Rattle.lane_types.specs.declared.call.Stepped.TheVariants.{Moved, Answered, Idle}
use Rattle.lane_types.specs.Deeds.{Deeds}
use Rattle.lane_types.specs.Faces.{WholeFace, stepped, answered, with_words, let_go}
use Rattle.lane_types.specs.Asks.{is_there, Why, asked}
use Rattle.lane_types.specs.LaneSteps.{LaneStep, IsWriting, Moves, put_held}

-- any deed means anything, and names every structure
any_deed : Deeds ℕ
any_deed = record { means = λ deed before after. Unit {0}; names = λ deed. 255; sorts = λ deed. [] }

-- a face of a lane with a transaction and no call, of which only this is used
module _ (f : WholeFace ℕ) (is_in : f.face.phase ≡ In) (no_call : f.call ≡ None) (has : f.words.word 35 ≡ Some 7) where
  idles : LaneStep any_deed Idle f (stepped Idle f)
  idles = record { call = no_call; next = refl }

  reads : LaneStep any_deed (Answered (Word 7)) (asked (Read 35) f) (answered (Word 7) (asked (Read 35) f))
  reads = record { calling = refl; row = record { at = 35; call = refl; word = has; next = refl } }

  writes : LaneStep any_deed (Answered Written) (asked (Write 35 8) f) (with_words (put_held 35 8 f.words) (answered Written (asked (Write 35 8) f)))
  writes = record { calling = refl; row = record { writes = record { address = 35; value = 8 } ∷ []; call = IsWriting.one; next = refl } }

  -- a batch on its way has a word written, and an abort leaves the words open
  writes_on : LaneStep any_deed Moved (asked (Batch (record { address = 35; value = 8 } ∷ [])) f)
      (with_words (put_held 35 8 f.words) (stepped Moved (asked (Batch (record { address = 35; value = 8 } ∷ [])) f)))
  writes_on = record { calling = refl; row = Moves.writing_on [] [] (record { address = 35; value = 8 }) refl refl }

  takes_back : LaneStep any_deed Moved (asked Abort f) (stepped Moved (asked Abort f))
  takes_back = record { calling = refl; row = Moves.taking_back f.words refl (record { words = λ a. refl; owner = refl; given = refl }) refl }

  aborts : LaneStep any_deed (Answered Aborted) (asked Abort f) (let_go (answered Aborted (asked Abort f)))
  aborts = record { calling = refl; row = record { call = refl; next = refl } }

  -- a second begin is refused by the phase, and a word that isn't held by that
  second_begin : Why (WrongPhase In) f (Begin 1)
  second_begin = record { is = is_in; other = λ same. cc }

  full : 3 < 5 → Why (LogFull 3 5) f (Write 35 8)
  full short = record { fits = record { phase = is_in; held = ap is_there has }; logged = refl; short = short }
