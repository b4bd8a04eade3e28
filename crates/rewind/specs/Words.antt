-- The words of each job of the program.
use Rattle.std.specs.Prelude.{◌≡◌, ℕ, ◌<◌, ◌≤◌, ◌^◌, List, [], ◌∷◌, ◌++◌, length, Option, Some, None, codes}
use Rattle.persist_model.specs.declared.pick.Pick.{Pick}
use Rattle.persist_model.specs.declared.pick.Pick.TheVariants.{Old, New, Mix}
use Rattle.rewind_script.specs.Text.{number}
use Rattle.image_runner.specs.declared.runner.Wanted.TheVariants as want
use Rattle.image_runner.specs.declared.migrating.Stop.{Stop}
pub use Rattle.rewind.specs.declared.input.TheConstants.{SCRIPT_LIMIT, IMAGE_LIMIT}
use Rattle.rewind.specs.declared.words.Job.{Job}
use Rattle.rewind.specs.declared.words.Job.TheVariants as job

-- the words are `run`
abbrev pub AreRun : List (List ℕ) → Type 0
AreRun words = words ≡ codes "run" ∷ []

-- the number of a `mix`: 1 to 10 decimal digits of at most 2^32 - 1
pub record IsMixOf (m : ℕ) (digits : List ℕ) : Type 0 where
  pub short : length digits ≤ 10
  pub spells : number digits ≡ Some m
  pub fits : m < 2 ^ 32

-- the word is `old`, `new`, or `mix` with its number behind it
abbrev pub IsWordOfPick : Pick → List ℕ → Type 0
IsWordOfPick Old word = word ≡ codes "old"
IsWordOfPick New word = word ≡ codes "new"
IsWordOfPick (Mix m) word = (digits : List ℕ) × (word ≡ codes "mix" ++ digits) × IsMixOf m digits

-- the number of events is 1 to 20 decimal digits of at most 2^64 - 1
pub record AreWordsOfStop (stop : Stop) (events pick : List ℕ) : Type 0 where
  pub events_are : number events ≡ Some stop.events
  pub pick_is : IsWordOfPick stop.pick pick

-- `migrate`, or `migrate STOP PICK`
abbrev pub AreWordsOfMigrate : Option Stop → List (List ℕ) → Type 0
AreWordsOfMigrate None words = words ≡ codes "migrate" ∷ []
AreWordsOfMigrate (Some stop) words = (events : List ℕ) × (pick : List ℕ) × (words ≡ codes "migrate" ∷ events ∷ pick ∷ []) × AreWordsOfStop stop events pick

-- the words of the job: `run`, `recover`, `recover image`, `migrate` or `migrate STOP PICK`
abbrev pub AreWordsOf : Job → List (List ℕ) → Type 0
AreWordsOf job.Run words = AreRun words
AreWordsOf (job.Recover want.Report) words = words ≡ codes "recover" ∷ []
AreWordsOf (job.Recover want.Image) words = words ≡ codes "recover" ∷ codes "image" ∷ []
AreWordsOf (job.Migrate stop) words = AreWordsOfMigrate stop words

-- they are those of a job
abbrev pub AreKnown : List (List ℕ) → Type 0
AreKnown words = (job : Job) × AreWordsOf job words

-- the most bytes of the input
abbrev pub limit_of : Job → ℕ
limit_of job.Run = SCRIPT_LIMIT
limit_of (job.Recover wanted) = IMAGE_LIMIT
limit_of (job.Migrate stop) = IMAGE_LIMIT
