-- Whose a word is that a record bars others from, where no checkpoint record is in the log.
use Rattle.std.proofs.Common.{◌≡◌, ◌≢◌, inl, inr, ℕ, ◌+◌, ◌*◌, ◌<◌, List, sym, ◌∙◌, subst, arith}
use Rattle.persist_model.specs.Region.{Words}
use Rattle.persist_model.specs.Kinds.{CHECKPOINT}
use Rattle.persist_model.specs.Records.{Record, Log, IsAmong, Has, HasNo, IsOf, IsDeletion, IsRunning}
use Rattle.persist_model.specs.Standing.{IsToDelete}
use Rattle.persist_model.specs.Order.{Bars}
use Rattle.persist_model.specs.Shape.{Shape, heap, IsHeapWord, IsPlainOwner}
use Rattle.persist_model.specs.State.{State, IsSoundState}
use Rattle.txn_laws.specs.Txns.{Txn, txn_at}
use Rattle.txn_laws.specs.Owners.{IsMine, AreOwners}
use Rattle.txn_laws.proofs.Records.{names_plain}
use Rattle.redo_laws.specs.Transactions.{AreRedoTransactions}

-- a record that bars others from a word names it
pub bars_plain : (log : Log) (r : Record) → Bars log r → r.kind ≢ CHECKPOINT
bars_plain log r (inl k) = names_plain r k.0
bars_plain log r (inr k) = names_plain r (inr k.0)

-- deletions name words of the heap
pub deletion_inside : (shape : Shape) (s : State) → IsSoundState shape s → (r : Record) → IsAmong s.log r → IsDeletion r → IsHeapWord shape r.word
deletion_inside shape s sound r m deletion = plain_is r.word ((sound.formed r m).deletion deletion)
  where
    plain_is : (b : ℕ) → IsPlainOwner shape b → IsHeapWord shape b
    plain_is b k = let e : b ≡ heap shape + 16 * k.0 = k.3 in let lt : k.0 < shape.blocks = k.2 in (omega (arith, e), omega (arith, e, lt))

pub deleted_inside : (shape : Shape) (s : State) → IsSoundState shape s → (a : ℕ) → Has (IsToDelete s.log a) s.log → IsHeapWord shape a
deleted_inside shape s sound a d = subst (IsHeapWord shape) d.2.1 (deletion_inside shape s sound d.0 d.1 d.2.0)

module _ (shape : Shape) (log : Log) (h : Words) (lanes : List Txn) (owners : AreOwners shape lanes) (all : AreRedoTransactions shape log h lanes) where
  -- whoever's record bars others from a word has it, or its transaction is committed
  pub bars_own : (l a : ℕ) (r : Record) → IsMine (txn_at lanes l) a → IsAmong log r → r.word ≡ a → Bars log r → IsOf (txn_at lanes l).number r
  bars_own l a r mine m word bars = elim (all.known r m (bars_plain log r bars)) [
    | inl k ↦ (
        let own = (all.each k.0).names r m k.2 bars in
        subst (λ j. IsOf (txn_at lanes j).number r) (owners.apart k.0 l a (subst (IsMine (txn_at lanes k.0)) word own) mine) k.2)
    | inr gone ↦ elim bars [
      | inl k ↦ absurd (let e = gone.0 in k.1 e.0 e.1 e.2)
      | inr k ↦ all.barred r l a m (k.0, word, k.1) mine
    ]
  ]

  -- so no record of another bars it
  pub word_free : (l : ℕ) (r : Record) → r.transaction ≡ (txn_at lanes l).number → IsMine (txn_at lanes l) r.word →
      HasNo (λ x. (x.word ≡ r.word) × (x.transaction ≢ r.transaction) × Bars log x) log
  word_free l r of mine x m k = k.1 ((bars_own l r.word x mine m k.0 k.2).0 ∙ sym of)

  -- no committed deletion names a word of a transaction that runs
  pub not_deleted : (l a : ℕ) → IsMine (txn_at lanes l) a → IsRunning log (txn_at lanes l).number → HasNo (IsToDelete log a) log
  not_deleted l a mine running r m d =
      let own = all.barred r l a m d mine in
      let c = d.2 in running c.0 c.1 (c.2.0.0, c.2.0.1 ∙ own.0)
