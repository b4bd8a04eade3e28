-- What is left behind last events, on literals: transaction 7 gives the blocks at 176 and 192 back, with deletions at the gates 56 and 64.
use Rattle.std.proofs.Common.{◌≡◌, ℕ, true, false, ◌==◌, ◌||◌, [], ◌∷◌, refl}
use Rattle.persist_model.specs.Kinds.{COMMITTED, DELETION, END, NO_OUTCOME}
use Rattle.persist_model.specs.Records.{Record, Log}
use Rattle.log_keeper.specs.Ledger.{left_open}
use Rattle.txn_laws.specs.Txns.{Gift, Txn, idle}
use Rattle.txn_laws.specs.Owners.{IsMine}
use Rattle.txn_laws.specs.Closings.{with_words}
use Rattle.txn_laws.specs.TakingsBack.{gifts_left, with_gifts_left}

abbrev first : Gift
first = record { word = 176; gate = 56 }

abbrev second : Gift
second = record { word = 192; gate = 64 }

abbrev giver : Txn
giver = record idle { number = 7; words = λ a. (a == 176) || (a == 192); gifts = second ∷ first ∷ []; zeroed = 2; commits = true; ended = true; over = true }

abbrev deletion : ℕ → ℕ → ℕ → Record
deletion at number word =
    record { at = at; lsn = number; transaction = 7; kind = DELETION; word = word; before = 0; after = 0; undo_next = 0; outcome = NO_OUTCOME }

abbrev end : Record
end = record { at = 72; lsn = 5; transaction = 7; kind = END; word = 0; before = 0; after = 0; undo_next = 0; outcome = COMMITTED }

abbrev records : Log
records = end ∷ deletion 64 4 192 ∷ deletion 56 3 176 ∷ []

-- ---- a closing

-- the first group leaves the end, and the second nothing
end_left : left_open (56 ∷ 64 ∷ []) [] [] records ≡ end ∷ []
end_left = refl

none_left : left_open [] (72 ∷ []) [] (end ∷ []) ≡ []
none_left = refl

-- behind the first group the blocks are free
block_free : IsMine (with_words (λ a. false) giver) 176 → ⊥
block_free m = cc

-- ---- a taking back

-- the deletion at 56 is taken back, and the other gift stays
gift_left : (with_gifts_left (56 ∷ []) giver).gifts ≡ second ∷ []
gift_left = refl

-- of two gifts of one word the one goes whose deletion goes
same_word : gifts_left (56 ∷ []) (record { word = 176; gate = 64 } ∷ first ∷ []) ≡ record { word = 176; gate = 64 } ∷ []
same_word = refl
