-- Why a call ended with a status: what it read, and what it told.
use Rattle.std.specs.Prelude.{◌≡◌, ℕ, ◌<◌, List, length, codes, Option}
use Rattle.persist_model.specs.ImageRules.{MAP_RULE}
use Rattle.persist_model.specs.Region.{Words}
use Rattle.persist_model.specs.Shape.{shape_of, heap}
use Rattle.image_text.specs.declared.image.Image.{Image}
use Rattle.image_text.specs.Grammar.{IsTextOf, BreaksAt}
use Rattle.image_runner.specs.declared.runner.Wanted.{Wanted}
use Rattle.image_runner.specs.declared.runner.Wanted.TheVariants as want
use Rattle.image_runner.specs.Ends.{words_of, AreStanding, IsAdmitted, IsRefusedBy}
use Rattle.image_runner.specs.Maps.{IsFirstBroken}
use Rattle.image_runner.specs.Migrations.{IsWritten}
use Rattle.image_runner.specs.declared.migrating.Stop.{Stop}
use Rattle.rewind_script.specs.Grammar.{script as meaning_of_text}
use Rattle.rewind.specs.declared.words.Job.{Job}
use Rattle.rewind.specs.declared.served.Wrong.{Wrong}
use Rattle.rewind.specs.Words.{limit_of}
use Rattle.rewind.specs.Served.{IsWrong, wrong_text}
use Rattle.rewind.specs.History.{ended_line}
use Rattle.rewind.specs.Call.{Call, Took, TookAll, Written, HasTold, misread_text, unsound_text}

-- More bytes were read than the job's input may have.
pub record IsLongInput (job : Job) (call : Call) (w : Written) : Type 0 where
  pub text : List ℕ
  pub took : Took call.left text call.left_after
  pub long : limit_of job < length text
  pub told : HasTold w (ended_line (codes "toolong"))

-- The text has this first wrong line with this kind of fault, or it is a script that isn't run yet.
pub record IsNoScript (call : Call) (w : Written) : Type 0 where
  pub text : List ℕ
  pub took : TookAll call.left text call.left_after
  pub wrong : Wrong
  pub is_wrong : IsWrong (meaning_of_text text) wrong
  pub told : HasTold w (wrong_text wrong)

-- This line of the text is the first that breaks the grammar of image texts.
pub record IsNoImageText (call : Call) (w : Written) : Type 0 where
  pub text : List ℕ
  pub took : TookAll call.left text call.left_after
  pub line : ℕ
  pub breaks : BreaksAt text line
  pub told : HasTold w (misread_text line)

-- The image breaks this rule first, or its lines don't fit it; or, where a report is wanted, this is the root block of the first
-- structure whose standing words are no map.
pub data IsUnsoundImage (wanted : Wanted) (call : Call) (w : Written) : Type 0 where
  refused : (text : List ℕ) → TookAll call.left text call.left_after → (i : Image) → IsTextOf text i
      → (fault a : ℕ) → IsRefusedBy i fault a → HasTold w (unsound_text fault a) → IsUnsoundImage wanted call w
  broken : wanted ≡ want.Report → (text : List ℕ) → TookAll call.left text call.left_after → (i : Image) → IsTextOf text i → IsAdmitted i
      → (a : ℕ) → ((z : Words) → AreStanding (words_of i) z → IsFirstBroken (heap (shape_of (words_of i))) z i.kinds a)
      → HasTold w (unsound_text MAP_RULE a) → IsUnsoundImage wanted call w

-- The image of the text was migrated, to its end or up to this stop, and this text was told of it.
pub record HasMigratedTo (stop : Option Stop) (call : Call) (w : Written) : Type 0 where
  pub text : List ℕ
  pub took : TookAll call.left text call.left_after
  pub image : Image
  pub says : IsTextOf text image
  pub out : List ℕ
  pub written : IsWritten stop image call.counts call.region_after call.counts_after out
  pub told : HasTold w out
