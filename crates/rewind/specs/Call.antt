-- What a call of the program did: what it took and wrote, the status with its cause, and what became of the region.
use Rattle.std.specs.Prelude.{◌≡◌, ◌⊎◌, ℕ, ◌<◌, ◌≤◌, List, [], ◌++◌, length, Option, Some, None, codes, decimal, IfSome}
use Rattle.persist_model.specs.ImageRules.{MAP_RULE, rule_number}
use Rattle.persist_model.specs.Region.{Region}
use Rattle.lane_traits.specs.Stream.{HasRisen, TakesPart}
use Rattle.lane_traits.specs.Device.{Counts, since_load}
use Rattle.rewind.specs.declared.status.Status.{Status}
use Rattle.rewind.specs.declared.status.Status.TheVariants as status
use Rattle.rewind.specs.declared.script.Script.{Script}
use Rattle.rewind.specs.declared.replay.Outcome.{Outcome}
use Rattle.rewind.specs.declared.replay.Outcome.TheVariants as outcome
use Rattle.rewind.specs.declared.words.Job.{Job}
use Rattle.rewind.specs.declared.words.Job.TheVariants as job
use Rattle.image_runner.specs.declared.runner.Wanted.{Wanted}
use Rattle.image_runner.specs.declared.runner.Ended.{Ended}
use Rattle.image_runner.specs.declared.runner.Ended.TheVariants as ended
use Rattle.image_runner.specs.Ends.{IsEndOf}
use Rattle.image_runner.specs.declared.migrating.Stop.{Stop}
use Rattle.image_runner.specs.Migrations.{IsMigrationOf}
use Rattle.rewind.specs.Words.{AreRun, AreWordsOf, AreKnown, limit_of}
use Rattle.rewind_script.specs.Grammar.{script as meaning_of_text}
use Rattle.rewind.specs.declared.served.Wrong.{Wrong}
use Rattle.rewind.specs.Served.{script as script_of_text, IsWrong, wrong_text, IsInLimits}
use Rattle.rewind.specs.History.{contents, history, first_names, report, stop_report, ended_line}
use Rattle.rewind.specs.Events.{event_count, StopsAfter, with_events, has_stopped, HasNoEvent, AreCells, root_of}

-- This text was taken from the front of what was left. Nothing is said of a source that doesn't tell what is left.
abbrev pub Took : Option (List ℕ) → List ℕ → Option (List ℕ) → Type 0
Took None text left = Unit {0}
Took (Some bytes) text left = (rest : List ℕ) × (bytes ≡ text ++ rest) × (left ≡ Some rest)

-- all that was left was taken
abbrev pub TookAll : Option (List ℕ) → List ℕ → Option (List ℕ) → Type 0
TookAll None text left = Unit {0}
TookAll (Some bytes) text left = (bytes ≡ text) × (left ≡ Some [])

-- the source and the device, before a call and after
pub record Call : Type 0 where
  pub words : List (List ℕ)
  pub left : Option (List ℕ)
  pub left_after : Option (List ℕ)
  pub faults : ℕ
  pub faults_after : ℕ
  pub region : Region
  pub region_after : Region
  pub counts : Counts
  pub counts_after : Counts

-- the device is as it was
pub record IsUntouched (call : Call) : Type 0 where
  pub region : call.region_after ≡ call.region
  pub counts : call.counts_after ≡ call.counts

-- the words are those of the job, and this text was the whole input
pub record HasReadFor (job : Job) (call : Call) (text : List ℕ) : Type 0 where
  pub words : AreWordsOf job call.words
  pub input : TookAll call.left text call.left_after
  pub short : length text ≤ limit_of job

abbrev pub HasRead : Call → List ℕ → Type 0
HasRead call text = HasReadFor job.Run call text

-- The words are those of no job, and nothing was read.
pub record IsMisused (call : Call) : Type 0 where
  pub words : ¬ (AreKnown call.words)
  pub unread : call.left_after ≡ call.left
  pub untouched : IsUntouched call

-- The source's count of faults rose, before more bytes were read than the input may have.
pub record HasReadFault (call : Call) : Type 0 where
  pub job : Job
  pub words : AreWordsOf job call.words
  pub text : List ℕ
  pub took : Took call.left text call.left_after
  pub short : length text ≤ limit_of job
  pub rose : HasRisen call.faults call.faults_after
  pub untouched : IsUntouched call

-- More bytes were read than the input may have.
pub record IsTooLong (call : Call) : Type 0 where
  pub job : Job
  pub words : AreWordsOf job call.words
  pub text : List ℕ
  pub took : Took call.left text call.left_after
  pub long : limit_of job < length text
  pub untouched : IsUntouched call

-- All was read, and the text isn't a script, or none that the program runs so far.
pub record IsMisformed (call : Call) (wrong : Wrong) : Type 0 where
  pub text : List ℕ
  pub read : HasRead call text
  pub misformed : script_of_text text ≡ None
  pub wrong_is : IsWrong (meaning_of_text text) wrong
  pub untouched : IsUntouched call

-- Memory ran out while the input was read, or before the first event of a script.
pub data IsExhausted (call : Call) : Type 0 where
  unread : AreKnown call.words → IsUntouched call → IsExhausted call
  unmade : AreRun call.words → HasNoEvent call.counts call.counts_after → IsExhausted call

-- The device stopped: after the fences of the first `commits` transactions, and before that of the next. The region was
-- loaded before the first event, and each event is one of a put or a commit.
pub record IsStoppedRun (s : Script) (counts counts_after : Counts) (commits : ℕ) : Type 0 where
  pub made : ℕ
  pub commits_fenced : StopsAfter s.transactions made commits
  pub counted : counts_after ≡ has_stopped (with_events made (since_load counts))

-- All events were made, one for each put and each commit, after the region was loaded. Whatever a stop would leave now,
-- the root block's data words are the cells of the map.
pub record IsWholeRun (s : Script) (counts counts_after : Counts) (region_after : Region) : Type 0 where
  pub counted : counts_after ≡ with_events (event_count s.transactions) (since_load counts)
  pub cells : AreCells (root_of s.buckets s.blocks) (contents s.transactions) region_after

-- All was read, the text says a script, and the device stopped within it.
pub record HasStopped (call : Call) (commits : ℕ) : Type 0 where
  pub text : List ℕ
  pub read : HasRead call text
  pub script : Script
  pub says : script_of_text text ≡ Some script
  pub run : IsStoppedRun script call.counts call.counts_after commits

-- All was read, the text says this script, and all its events were made.
pub record IsDone (call : Call) (s : Script) : Type 0 where
  pub text : List ℕ
  pub read : HasRead call text
  pub says : script_of_text text ≡ Some s
  pub run : IsWholeRun s call.counts call.counts_after call.region_after

-- All was read, and the recovery of the text's image came to this end.
pub record HasRecovered (call : Call) (end : Ended) : Type 0 where
  pub wanted : Wanted
  pub text : List ℕ
  pub read : HasReadFor (job.Recover wanted) call text
  pub end_is : IsEndOf wanted text call.region call.counts call.region_after call.counts_after end

-- All was read, and the migration of the text's image came to this end.
pub record HasMigrated (call : Call) (end : Ended) : Type 0 where
  pub stop : Option Stop
  pub text : List ℕ
  pub read : HasReadFor (job.Migrate stop) call text
  pub end_is : IsMigrationOf stop text call.region call.counts call.region_after call.counts_after end

-- what a call came to, and its cause
abbrev pub IsCauseOf : Outcome → Call → Type 0
IsCauseOf outcome.Usage call = IsMisused call
IsCauseOf outcome.ReadFault call = HasReadFault call
IsCauseOf outcome.TooLong call = IsTooLong call
IsCauseOf (outcome.Wrong wrong) call = IsMisformed call wrong
IsCauseOf outcome.NoMemory call = IsExhausted call
IsCauseOf (outcome.Stopped commits) call = HasStopped call commits
IsCauseOf (outcome.Done s) call = IsDone call s
IsCauseOf (outcome.Recovery end) call = HasRecovered call end
IsCauseOf (outcome.Migration end) call = HasMigrated call end

-- what the text of a whole input came to
abbrev pub IsTextOutcome : List ℕ → Region → Counts → Region → Counts → Outcome → Type 0
IsTextOutcome text region counts region_after counts_after (outcome.Wrong wrong) = (script_of_text text ≡ None) × (IsWrong (meaning_of_text text) wrong) × (region_after ≡ region) × (counts_after ≡ counts)
IsTextOutcome text region counts region_after counts_after outcome.NoMemory = HasNoEvent counts counts_after
IsTextOutcome text region counts region_after counts_after (outcome.Stopped commits) = (s : Script) × (script_of_text text ≡ Some s) × IsStoppedRun s counts counts_after commits
IsTextOutcome text region counts region_after counts_after (outcome.Done s) = (script_of_text text ≡ Some s) × IsWholeRun s counts counts_after region_after
IsTextOutcome text region counts region_after counts_after _ = ⊥

-- what a job came to with the text of its whole input
abbrev pub IsJobOutcome : Job → List ℕ → Region → Counts → Region → Counts → Outcome → Type 0
IsJobOutcome job.Run text region counts region_after counts_after o = IsTextOutcome text region counts region_after counts_after o
IsJobOutcome (job.Recover wanted) text region counts region_after counts_after (outcome.Recovery end) = IsEndOf wanted text region counts region_after counts_after end
IsJobOutcome (job.Recover wanted) text region counts region_after counts_after _ = ⊥
IsJobOutcome (job.Migrate stop) text region counts region_after counts_after (outcome.Migration end) = IsMigrationOf stop text region counts region_after counts_after end
IsJobOutcome (job.Migrate stop) text region counts region_after counts_after _ = ⊥

-- a script that was run is within the limits
abbrev pub AreLimitsOf : Outcome → Type 0
AreLimitsOf (outcome.Done s) = IsInLimits s.buckets s.blocks s.transactions
AreLimitsOf _ = Unit {0}

abbrev pub status_of_end : Ended → Status
status_of_end (ended.Misread line) = status.Script
status_of_end (ended.Unsound found) = status.Unsound
status_of_end ended.Stopped = status.Stopped
status_of_end (ended.Broken root) = status.Unsound
status_of_end ended.NoMemory = status.NoMemory
status_of_end (ended.Done text) = status.Done

abbrev pub status_of : Outcome → Status
status_of outcome.Usage = status.Usage
status_of outcome.ReadFault = status.ReadFault
status_of outcome.TooLong = status.TooLong
status_of (outcome.Wrong wrong) = status.Script
status_of outcome.NoMemory = status.NoMemory
status_of (outcome.Stopped commits) = status.Stopped
status_of (outcome.Done s) = status.Done
status_of (outcome.Recovery end) = status_of_end end
status_of (outcome.Migration end) = status_of_end end

-- script LINE image
abbrev pub misread_text : ℕ → List ℕ
misread_text line = codes "script " ++ (decimal line ++ codes " image\n")

-- unsound FAULT ADDR
abbrev pub unsound_text : ℕ → ℕ → List ℕ
unsound_text fault a = codes "unsound " ++ (decimal fault ++ (codes " " ++ (decimal a ++ codes "\n")))

-- what is written of an image; the last rule is that each structure is a map
abbrev pub text_of_end : Ended → List ℕ
text_of_end (ended.Misread line) = misread_text line
text_of_end (ended.Unsound found) = unsound_text (rule_number found.rule) found.address
text_of_end ended.Stopped = ended_line (codes "stopped")
text_of_end (ended.Broken root) = unsound_text MAP_RULE root
text_of_end ended.NoMemory = []
text_of_end (ended.Done text) = text

-- what is written
abbrev pub text_of : Outcome → List ℕ
text_of outcome.Usage = ended_line (codes "usage")
text_of outcome.ReadFault = []
text_of outcome.TooLong = ended_line (codes "toolong")
text_of (outcome.Wrong wrong) = wrong_text wrong
text_of outcome.NoMemory = []
text_of (outcome.Stopped commits) = stop_report (first_names commits)
text_of (outcome.Done s) = report (history s.transactions) (contents s.transactions)
text_of (outcome.Recovery end) = text_of_end end
text_of (outcome.Migration end) = text_of_end end

-- the sink, before a call and after
pub record Written : Type 0 where
  pub before : Option (List ℕ)
  pub later : Option (List ℕ)
  pub faults : ℕ
  pub faults_after : ℕ

-- the text was written, whole
abbrev pub HasTold : Written → List ℕ → Type 0
HasTold w text = IfSome w.before (λ before. w.later ≡ Some (before ++ text))

-- The status is the outcome's and its text was written; or a write failed, and a prefix of it was; or there was no memory
-- for the text, and nothing was.
pub record IsToldInFull (o : Outcome) (answer : Status) (w : Written) : Type 0 where
  pub status : answer ≡ status_of o
  pub text : HasTold w (text_of o)

pub record IsCutOff (o : Outcome) (answer : Status) (w : Written) : Type 0 where
  pub status : answer ≡ status.WriteFault
  pub rose : HasRisen w.faults w.faults_after
  pub text : IfSome w.before (λ before. TakesPart before (text_of o) w.later)

pub record IsUntold (answer : Status) (w : Written) : Type 0 where
  pub status : answer ≡ status.NoMemory
  pub nothing : w.later ≡ w.before

abbrev pub IsAnswerTo : Outcome → Status → Written → Type 0
IsAnswerTo o answer w = IsToldInFull o answer w ⊎ IsCutOff o answer w ⊎ IsUntold answer w

-- A call came to one of the outcomes by its cause, and told it.
pub record HasRun (call : Call) (answer : Status) (w : Written) : Type 0 where
  pub outcome : Outcome
  pub cause : IsCauseOf outcome call
  pub told : IsAnswerTo outcome answer w
