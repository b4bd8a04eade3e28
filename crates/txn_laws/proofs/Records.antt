-- The records of the lanes' transactions.
use Rattle.std.proofs.Common.{◌≡◌, ◌≢◌, ◌⊎◌, inl, inr, ℕ, List, [], ◌∷◌, ◌++◌, map, length, sym, ap, ◌∙◌, subst, arith}
use Rattle.std.proofs.lemmas.List.{take_all}
use Rattle.persist_model.specs.Region.{Words}
use Rattle.persist_model.specs.Kinds.{CHECKPOINT}
use Rattle.persist_model.specs.Progress.{Write, latest}
use Rattle.persist_model.specs.Records.{Record, Log, IsAmong, HasNo, IsOf, NamesWord, IsRunning}
use Rattle.persist_model.specs.Standing.{IsToDelete}
use Rattle.persist_model.specs.Order.{Bars}
use Rattle.persist_model.specs.Shape.{Shape}
use Rattle.log_laws.specs.Moves.{IsDeletionBy, IsChangeBy}
use Rattle.history_laws.specs.Histories.{LeavesWord}
use Rattle.history_laws.specs.Moments.{IsEntryOf}
use Rattle.txn_laws.specs.Txns.{Txn, txn_at, zero_of, entry_of}
use Rattle.txn_laws.specs.Owners.{IsMine, AreOwners}
use Rattle.txn_laws.specs.AreTransactions.{IsGoing, recorded, IsTransaction, AreTransactions}
use Rattle.txn_laws.proofs.Written.{latest-append, latest_elsewhere, among_zeros, zeros_make}

pub names_plain : (y : Record) → NamesWord y → y.kind ≢ CHECKPOINT
names_plain y (inl (inl one)) = λ five. omega (arith, one, five)
names_plain y (inl (inr two)) = λ five. omega (arith, two, five)
names_plain y (inr six) = λ five. omega (arith, six, five)

-- a changed or deleted word of a transaction that runs is its own
pub changed_own : (shape : Shape) (log : Log) (h : Words) (x : Txn) (a : ℕ) (r : Record) → IsTransaction shape log h x → IsRunning log x.number → IsAmong log r → IsChangeBy x.number a r → IsMine x a
changed_own shape log h x a r t running m c = subst (IsMine x) c.1
    (t.names r m (c.2, names_plain r (inl c.0)) (inl (inl c.0, subst (IsRunning log) (sym c.2) running)))

pub deleted_own : (shape : Shape) (log : Log) (h : Words) (x : Txn) (a : ℕ) (r : Record) → IsTransaction shape log h x → IsRunning log x.number → IsAmong log r → IsDeletionBy x.number a r → IsMine x a
deleted_own shape log h x a r t running m d = subst (IsMine x) d.1
    (t.names r m (d.2, names_plain r (inr d.0)) (inl (inr d.0, subst (IsRunning log) (sym d.2) running)))

-- what a transaction in flight writes is its own
pub entry_own : (shape : Shape) (log : Log) (h : Words) (x : Txn) → IsTransaction shape log h x → IsGoing log h x → (w : Write) → IsAmong (x.writes ++ map zero_of x.gifts) w → IsMine x w.address
entry_own shape log h x t going w m = elim (either x.writes (map zero_of x.gifts) w m) [
  | inl k ↦ going.writes_own w k
  | inr k ↦ (let g = among_zeros x.gifts w k in subst (λ (v : Write). IsMine x v.address) (sym g.2) (t.gifts_own g.0 g.1))
]
  where
    either : (xs ys : List Write) (v : Write) → IsAmong (xs ++ ys) v → IsAmong xs v ⊎ IsAmong ys v
    either [] ys v k = inr k
    either (y ∷ xs) ys v (inl e) = inl (inl e)
    either (y ∷ xs) ys v (inr k) = elim (either xs ys v k) [ inl j ↦ inl (inr j) | inr j ↦ inr j ]

pub entry_leaves : (shape : Shape) (log : Log) (h : Words) (x : Txn) (a : ℕ) → IsTransaction shape log h x → IsGoing log h x → (IsMine x a → ⊥) → LeavesWord (entry_of x) a
entry_leaves shape log h x a t going off u = latest_elsewhere (x.writes ++ map zero_of x.gifts) a u (λ w m e. off (subst (IsMine x) e (entry_own shape log h x t going w m)))

-- the entry of a transaction all of whose writes are recorded has what its records say
pub entry_is : (shape : Shape) (log : Log) (h : Words) (x : Txn) → IsTransaction shape log h x → IsGoing log h x → length x.updates ≡ length x.writes → IsEntryOf log h x.number (entry_of x)
entry_is shape log h x t going all = record {
  deleted = λ a d. (let g = t.deletions a d.0 d.1 d.2 in
      latest-append x.writes (map zero_of x.gifts) a (h a) ∙ zeros_make x.gifts g.0 a (latest x.writes a (h a)) g.1 g.2);
  changed = λ a r none last. latest-append x.writes (map zero_of x.gifts) a (h a) ∙ ungiven a none (latest x.writes a (h a)) ∙ sym (ap (λ ws. latest ws a (h a)) whole) ∙ sym (going.changed a r last);
  others = λ a nd nc u. latest-append x.writes (map zero_of x.gifts) a u ∙ ungiven a nd (latest x.writes a u) ∙ sym (ap (λ ws. latest ws a u) whole) ∙ going.unchanged a nc u;
}
  where
    whole : recorded x ≡ x.writes
    whole = take_all (length x.updates) x.writes (omega (arith, all))

    ungiven : (a : ℕ) → HasNo (IsDeletionBy x.number a) log → (u : ℕ) → latest (map zero_of x.gifts) a u ≡ u
    ungiven a none u = latest_elsewhere (map zero_of x.gifts) a u (λ w m e. (
        let g = among_zeros x.gifts w m in
        let d = t.given g.0 g.1 in
        none d.0 d.1 (d.2.0.0, d.2.0.1 ∙ sym (ap (λ (v : Write). v.address) g.2) ∙ e, d.2.0.2)))

module _ (shape : Shape) (log : Log) (h : Words) (lanes : List Txn) (owners : AreOwners shape lanes) (all : AreTransactions shape log h lanes) where
  -- whoever's record bars others from a word has it
  pub bars_own : (l a : ℕ) (r : Record) → IsMine (txn_at lanes l) a → IsAmong log r → r.word ≡ a → Bars log r → IsOf (txn_at lanes l).number r
  bars_own l a r mine m word bars =
      let k = all.known r m in
      let own = (all.each k.0).names r m k.2 bars in
      subst (λ j. IsOf (txn_at lanes j).number r) (owners.apart k.0 l a (subst (IsMine (txn_at lanes k.0)) word own) mine) k.2

  -- so no record of another bars it
  pub word_free : (l : ℕ) (r : Record) → r.transaction ≡ (txn_at lanes l).number → IsMine (txn_at lanes l) r.word →
      HasNo (λ x. (x.word ≡ r.word) × (x.transaction ≢ r.transaction) × Bars log x) log
  word_free l r of mine x m k = k.1 ((bars_own l r.word x mine m k.0 k.2).0 ∙ sym of)

  -- no committed deletion names a word of a transaction that runs
  pub not_deleted : (l a : ℕ) → IsMine (txn_at lanes l) a → IsRunning log (txn_at lanes l).number → HasNo (IsToDelete log a) log
  not_deleted l a mine running r m d =
      let own = bars_own l a r mine m d.1 (inr (d.0, d.2)) in
      let c = d.2 in running c.0 c.1 (c.2.0.0, c.2.0.1 ∙ own.0)
