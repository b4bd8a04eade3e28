-- Where one lane's transaction becomes another with the same words and number, all records are known as they were.
use Rattle.std.proofs.Common.{◌≡◌, ◌≢◌, ◌⊎◌, inl, inr, ℕ, ◌<◌, true, Bool, List, length, sym, ◌∙◌, subst}
use Rattle.persist_model.specs.Region.{Words}
use Rattle.persist_model.specs.Records.{Record, Log, IsOf}
use Rattle.persist_model.specs.Shape.{Shape}
use Rattle.txn_laws.specs.Txns.{Txn, txn_at, with_txn}
use Rattle.txn_laws.specs.Owners.{IsMine}
use Rattle.txn_laws.specs.AreTransactions.{IsTransaction}
use Rattle.txn_laws.proofs.Lanes.{by_lane, numbers_same, numbers_changed, known_same}
use Rattle.redo_laws.specs.Transactions.{IsLanes, IsGone, AreRedoTransactions}

-- a record is known as before, where the number is
pub known_with : (log : Log) (lanes : List Txn) (l : ℕ) (y : Txn) (r : Record) → l < length lanes → y.number ≡ (txn_at lanes l).number → IsLanes lanes r ⊎ IsGone log lanes r →
    IsLanes (with_txn l y lanes) r ⊎ IsGone log (with_txn l y lanes) r
known_with log lanes l y r lane number_is (inl k) = inl (known_same l y lanes r lane number_is k)
known_with log lanes l y r lane number_is (inr gone) =
    inr (gone.0, by_lane (λ j z. z.number ≢ r.transaction) l y lanes lane (λ e. gone.1 l (sym number_is ∙ e)) (λ j ne. gone.1 j))

pub transactions_with : (shape : Shape) (log : Log) (h : Words) (lanes : List Txn) (l : ℕ) (y : Txn) → l < length lanes → y.words ≡ (txn_at lanes l).words → y.number ≡ (txn_at lanes l).number →
    IsTransaction shape log h y → AreRedoTransactions shape log h lanes → AreRedoTransactions shape log h (with_txn l y lanes)
transactions_with shape log h lanes l y lane words_is number_is told all = record {
  each = by_lane (λ j z. IsTransaction shape log h z) l y lanes lane told (λ j ne. all.each j);
  known = λ r m plain. known_with log lanes l y r lane number_is (all.known r m plain);
  apart = numbers_changed l y lanes lane (numbers_same l y lanes number_is all.apart) all.apart;
  barred = λ r k a m d. by_lane (λ j z. IsMine z a → IsOf z.number r) l y lanes lane
      (λ mine. subst (λ n. IsOf n r) (sym number_is) (all.barred r l a m d (subst (λ (f : ℕ → Bool). f a ≡ true) words_is mine)))
      (λ j ne. all.barred r j a m d) k;
}
