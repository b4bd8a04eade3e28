-- The transactions of a lane that ended, with what became of each.
use Rattle.std.specs.Prelude.{◌≡◌, ℕ, ◌+◌, ◌<◌, true, false, List, [], ◌∷◌, ◌++◌, length, map, All, drop, Option, Some, None}
use Rattle.lane_types.specs.declared.face.Entry.{Entry}
use Rattle.rewind_script.specs.declared.script.Item.{Item}
use Rattle.rewind_script.specs.declared.report.Fate.{Fate}
use Rattle.rewind_script.specs.declared.report.How.{How}
use Rattle.rewind_script.specs.declared.report.How.TheVariants.{Aborted, Full, Heap, Lost}
use Rattle.map_deeds.specs.Meanings.{commands_of}
use Rattle.map_deeds.specs.Printed.{Transaction, transactions}
use Rattle.map_deeds.specs.declared.deed.MapDeed.{MapDeed}

-- a transaction that ended, and its fate, or none if it was committed
pub record Ending : Type 0 where
  pub transaction : Transaction
  pub fate : Option How

abbrev pub transaction_in : Ending → Transaction
transaction_in e = e.transaction

-- it was committed or aborted as its text says, or a call of it was refused
abbrev pub MayEnd : Transaction → Option How → Type 0
MayEnd t None = t.commit ≡ true
MayEnd t (Some Aborted) = t.commit ≡ false
MayEnd t (Some (Full room need)) = room < need
MayEnd t (Some Heap) = Unit {0}
MayEnd t (Some Lost) = ⊥

abbrev pub IsEnding : Ending → Type 0
IsEnding e = MayEnd e.transaction e.fate

abbrev pub fate_in : ℕ → ℕ → Option How → List Fate
fate_in lane n None = []
fate_in lane n (Some how) = record { lane = lane; number = n; how = how } ∷ []

-- the fates of the transactions from this number on
abbrev pub fates_of : ℕ → ℕ → List Ending → List Fate
fates_of lane n [] = []
fates_of lane n (e ∷ ends) = fate_in lane n e.fate ++ fates_of lane (n + 1) ends

abbrev pub commit_in : ℕ → Transaction → Option How → List (ℕ × Transaction)
commit_in n t None = (n, t) ∷ []
commit_in n t (Some how) = []

-- those that were committed, with their numbers
abbrev pub commits_of : ℕ → List Ending → List (ℕ × Transaction)
commits_of n [] = []
commits_of n (e ∷ ends) = commit_in n e.transaction e.fate ++ commits_of (n + 1) ends

-- The deed is of this transaction.
pub record IsDeedOf (t : Transaction) (deed : MapDeed) : Type 0 where
  pub set : deed.set ≡ t.set
  pub commands : commands_of deed.steps ≡ t.commands

pub record IsEntryFor (lane n : ℕ) (t : Transaction) (e : Entry MapDeed) : Type 0 where
  pub lane_is : e.lane ≡ lane
  pub number_is : e.number ≡ n
  pub deed : IsDeedOf t e.deed

-- an entry for each of these, in order
abbrev pub AreEntriesFor : ℕ → List (ℕ × Transaction) → List (Entry MapDeed) → Type 0
AreEntriesFor lane [] [] = Unit {0}
AreEntriesFor lane [] (e ∷ entries) = ⊥
AreEntriesFor lane (c ∷ commits) [] = ⊥
AreEntriesFor lane (c ∷ commits) (e ∷ entries) = IsEntryFor lane c.0 c.1 e × AreEntriesFor lane commits entries

-- The first transactions of the text ended: the fates are those of all of them that were not committed, and the entries those of
-- all others.
pub record IsLedger (items : List Item) (at lane number : ℕ) (fates : List Fate) (mine : List (Entry MapDeed)) : Type 0 where
  pub ends : List Ending
  pub count : length ends ≡ number
  pub allowed : All IsEnding ends
  pub split : transactions items ≡ map transaction_in ends ++ transactions (drop at items)
  pub fates_are : fates ≡ fates_of lane 0 ends
  pub mine_are : AreEntriesFor lane (commits_of 0 ends) mine
