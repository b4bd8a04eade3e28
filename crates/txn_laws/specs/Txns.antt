-- The transactions of lanes, as plain data.
use Rattle.std.specs.Prelude.{ℕ, zero, suc, Bool, false, if◌then◌else◌, List, [], ◌∷◌, ◌++◌, take, map}
use Rattle.persist_model.specs.Progress.{Write, write}
use Rattle.persist_model.specs.Records.{Record}
use Rattle.history_laws.specs.Histories.{Entry}

-- a block that is given back: its owner word, and the gate of the deletion's record
pub record Gift : Type 0 where
  pub word : ℕ
  pub gate : ℕ

-- The transaction of a lane: its number, 0 where it has none; the partition of its records; and the heap words that are its own. Its writes
-- are in order: the first of them have the updates, newest first, and the first `stored` of them stand in the device. The gifts are in the order
-- of their deletions, which are recorded, and the owner words of the first `zeroed` of them are 0. It has a rollback record (`rolled`); its end is a commit's (`commits`);
-- the end's gate is stored (`ended`), and fenced (`over`), with which a commit joins the history. Nothing of its own words waits for a fence
-- (`fenced`). `point` is the number of the update that it would undo next.
pub record Txn : Type 0 where
  pub number : ℕ
  pub part : ℕ
  pub words : ℕ → Bool
  pub writes : List Write
  pub updates : List Record
  pub stored : ℕ
  pub gifts : List Gift
  pub zeroed : ℕ
  pub rolled : Bool
  pub commits : Bool
  pub ended : Bool
  pub over : Bool
  pub fenced : Bool
  pub point : ℕ

-- a lane without a transaction
abbrev pub idle : Txn
idle = record {
  number = 0;
  part = 0;
  words = λ a. false;
  writes = [];
  updates = [];
  stored = 0;
  gifts = [];
  zeroed = 0;
  rolled = false;
  commits = false;
  ended = false;
  over = false;
  fenced = false;
  point = 0;
}

-- the transaction of lane l; past the last lane there is none
abbrev pub txn_at : List Txn → ℕ → Txn
txn_at [] l = idle
txn_at (x ∷ lanes) zero = x
txn_at (x ∷ lanes) (suc l) = txn_at lanes l

-- lane l has another
abbrev pub with_txn : ℕ → Txn → List Txn → List Txn
with_txn l y [] = []
with_txn zero y (x ∷ lanes) = y ∷ lanes
with_txn (suc l) y (x ∷ lanes) = x ∷ with_txn l y lanes

-- so many lanes without one
abbrev pub idle_lanes : ℕ → List Txn
idle_lanes zero = []
idle_lanes (suc n) = idle ∷ idle_lanes n

-- what a commit writes: its writes, and then 0 to the owner words of the blocks that it gives back
abbrev pub zero_of : Gift → Write
zero_of g = write g.word 0

abbrev pub entry_of : Txn → Entry
entry_of x = record { transaction = x.number; writes = x.writes ++ map zero_of x.gifts }

-- what it has written that isn't in the history: nothing any more once its end is fenced
abbrev pub written : Txn → List Write
written x = if x.over then [] else take x.stored x.writes
