-- What is under way in a partition fits what the lane that holds it does.
use Rattle.std.specs.Prelude.{◌≡◌, ℕ, ◌<◌, ◌≤◌, true, false, List, [], length}
use Rattle.persist_model.specs.Region.{Words}
use Rattle.persist_model.specs.Records.{Record, Log, IsAmong, IsOf, IsEnd}
use Rattle.persist_model.specs.Shape.{Shape}
use Rattle.persist_model.specs.State.{State}
use Rattle.log_clearing.specs.Closed.{IsListed}
use Rattle.log_keeper.specs.Parts.{rests}
use Rattle.log_keeper.specs.Logged.{Keeping}
use Rattle.history_laws.specs.UnderWay.{UnderWay, nothing, appends, closes, takes_back, drops, run_of}
use Rattle.txn_laws.specs.Txns.{Txn, txn_at}
use Rattle.txn_laws.specs.NextRecords.{IsAppendOf}

-- A group of the closing of an ended transaction: first all of its records but the end, where behind a commit the owner words of what it gave
-- are durably 0; then the end, and nothing else is left.
pub record IsClosingOf (log : Log) (p : ℕ) (x : Txn) (gates ends : List ℕ) : Type 0 where
  pub number : 1 ≤ x.number
  pub here : x.part ≡ p
  pub is_over : x.over ≡ true
  pub zeroed_all : x.commits ≡ true → x.zeroed ≡ length x.gifts
  pub fenced_all : x.fenced ≡ true
  pub own : (r : Record) → IsAmong log r → IsListed gates ends [] r → IsOf x.number r
  pub first : ends ≡ [] → (r : Record) → IsAmong log r → IsOf x.number r → (IsEnd r → ⊥) → IsAmong gates r.at
  pub rest : (e : Record) → IsAmong log e → IsListed gates ends [] e → IsEnd e → (r : Record) → IsAmong log r → IsOf x.number r → IsAmong ends r.at

-- Deletions that the running transaction takes back.
pub record IsTakingBackOf (log : Log) (p : ℕ) (x : Txn) (gates : List ℕ) : Type 0 where
  pub number : 1 ≤ x.number
  pub here : x.part ≡ p
  pub runs : x.over ≡ false
  pub unended : x.ended ≡ false
  pub own : (d : Record) → IsAmong log d → IsAmong gates d.at → IsOf x.number d

abbrev pub Fits : Shape → State → Words → ℕ → Txn → UnderWay → Type 0
Fits shape s h p x nothing = Unit {0}
Fits shape s h p x (appends adding made) = IsAppendOf shape s h p x adding made
Fits shape s h p x (closes gates ends made) = IsClosingOf s.log p x gates ends
Fits shape s h p x (takes_back gates made) = IsTakingBackOf s.log p x gates
Fits shape s h p x (drops r made) = Unit {0}

-- no part of lane l is under way
abbrev pub IsResting : Shape → Keeping → ℕ → Type 0
IsResting shape k l = (p : ℕ) → p < shape.partitions → k.holder p ≡ l → (k.runs p).part ≡ rests

-- the keeper's run is what is under way, and fits its holder's transaction
pub record IsPartIn (shape : Shape) (s : State) (h : Words) (k : Keeping) (lanes : List Txn) (p : ℕ) (u : UnderWay) : Type 0 where
  pub run : k.runs p ≡ run_of u
  pub fits : Fits shape s h p (txn_at lanes (k.holder p)) u
