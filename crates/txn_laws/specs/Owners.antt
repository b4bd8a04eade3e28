-- Whose a word of the heap is.
use Rattle.std.specs.Prelude.{◌≡◌, ℕ, true, List}
use Rattle.persist_model.specs.Records.{Record, Log, IsAmong, IsOf}
use Rattle.persist_model.specs.Order.{Bars}
use Rattle.persist_model.specs.Shape.{Shape, IsHeapWord}
use Rattle.txn_laws.specs.Txns.{Txn, txn_at}

abbrev pub IsMine : Txn → ℕ → Type 0
IsMine x a = x.words a ≡ true

abbrev pub IsNobodys : List Txn → ℕ → Type 0
IsNobodys lanes a = (l : ℕ) → IsMine (txn_at lanes l) a → ⊥

-- A word of the heap is one lane's at most.
pub record AreOwners (shape : Shape) (lanes : List Txn) : Type 0 where
  pub heap_words : (l a : ℕ) → IsMine (txn_at lanes l) a → IsHeapWord shape a
  pub apart : (l k a : ℕ) → IsMine (txn_at lanes l) a → IsMine (txn_at lanes k) a → l ≡ k

-- A record of the transaction that bars others from its word is of a word of its own: while it runs any record that names one, and behind
-- its commit a deletion.
abbrev pub NamesItsOwn : Log → Txn → Type 0
NamesItsOwn log x = (r : Record) → IsAmong log r → IsOf x.number r → Bars log r → IsMine x r.word
