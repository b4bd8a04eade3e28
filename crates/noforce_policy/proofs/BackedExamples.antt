-- A word that was 5, and the log of a transaction that wrote 6 to it and committed: where the word is backed, and what a sweep has to do.
use Rattle.std.proofs.Common.{◌≡◌, ◌⊎◌, inl, inr, ℕ, List, [], ◌∷◌, refl, sym, ap, subst, arith}
use Rattle.persist_model.specs.declared.event.Candidate.{Candidate}
use Rattle.persist_model.specs.declared.event.Event.TheVariants.{Store, WriteBack, Fence}
use Rattle.persist_model.specs.Region.{Region, candidate, after}
use Rattle.persist_model.specs.Law.{after_all}
use Rattle.persist_model.specs.Records.{Record, Log, IsAmong, HasNo, IsRunning, IsSkipped}
use Rattle.persist_model.specs.Standing.{IsToUndo, IsToDelete, IsLatest, redone}
use Rattle.log_laws.specs.Closing.{IsApplied}
use Rattle.noforce_policy.specs.Backed.{HasOneValue, IsUnpassed, IsBacked, IsBesideSweep}

abbrev update : Record
update = record { at = 40; lsn = 1; transaction = 7; kind = 1; word = 170; before = 5; after = 6; undo_next = 0; outcome = 0 }

abbrev end : Record
end = record { at = 56; lsn = 2; transaction = 7; kind = 4; word = 0; before = 0; after = 0; undo_next = 0; outcome = 1 }

abbrev check : Record
check = record { at = 72; lsn = 3; transaction = 0; kind = 5; word = 0; before = 0; after = 0; undo_next = 0; outcome = 0 }

abbrev log : Log
log = end ∷ update ∷ []

-- a word with these candidates, oldest first
abbrev region : List Candidate → Region
region cs = record { size = 1000; at = λ a. cs }

-- as the word is before its store, and behind it
abbrev recorded : Region
recorded = region (candidate 5 0 ∷ [])

abbrev stored : Region
stored = region (candidate 5 0 ∷ candidate 6 0 ∷ [])

stored_is : (after recorded 0 (Store 170 6)).at 170 ≡ stored.at 170
stored_is = refl

unpassed : (r : Record) → IsAmong log r → IsUnpassed log 170 r → r ≡ update
unpassed r (inl e) k = let kind : r.kind ≡ 4 = ap (λ (x : Record). x.kind) e in
    absurd (elim k.0 [ inl one ↦ (let a : r.kind ≡ 1 = one in omega (arith, a, kind)) | inr two ↦ (let a : r.kind ≡ 2 = two in omega (arith, a, kind)) ])
unpassed r (inr (inl e)) k = e
unpassed r (inr (inr none)) k = absurd none

not_skipped : IsSkipped log 7 → ⊥
not_skipped s = by s.2.1.0 s.2.1.1 s.2.1.2.0
  where
    by : (c : Record) → IsAmong log c → c.kind ≡ 5 → ⊥
    by c (inl e) five = let kind : c.kind ≡ 4 = ap (λ (x : Record). x.kind) e in omega (arith, kind, five)
    by c (inr (inl e)) five = let kind : c.kind ≡ 1 = ap (λ (x : Record). x.kind) e in omega (arith, kind, five)
    by c (inr (inr none)) five = none

update_unpassed : IsUnpassed log 170 update
update_unpassed = (inl refl, refl, not_skipped)

-- ---- what is backed

-- behind its store the word is backed, though a stop may leave 5
is_backed : IsBacked log stored 170
is_backed = record {
  changed = λ r l. ap (λ (x : Record). x.after) (sym (unpassed r l.among l.has));
  unchanged = λ none. absurd (none update (inr (inl refl)) update_unpassed);
}

two_values : HasOneValue stored 170 → ⊥
two_values one = let e : ◌≡◌ {A = ℕ} 5 6 = one 5 (inl refl) in omega (arith, e)

latest : IsLatest (IsUnpassed log 170) log update
latest = record {
  among = inr (inl refl);
  has = update_unpassed;
  last = λ s m k. (let e : s.lsn ≡ 1 = ap (λ (x : Record). x.lsn) (unpassed s m k) in omega (arith, e));
}

-- an image with 5 doesn't have the standing value 6, so a checkpoint record may not come yet
unswept : IsApplied 2 log (λ a. 5) 170 → ⊥
unswept applied = let e : ◌≡◌ {A = ℕ} 6 5 = applied 6 (redone not_undone not_deleted update (record {
  among = inr (inl refl);
  has = (refl, inl refl, refl, (end, inl refl, (refl, refl)), not_skipped);
  last = λ s m k. latest.last s m (k.1, k.2, k.4);
}) refl) in omega (arith, e)
  where
    ended : (t : ℕ) → t ≡ 7 → IsRunning log t → ⊥
    ended t e running = running end (inl refl) (refl, sym e)

    not_undone : HasNo (IsToUndo log 170) log
    not_undone r (inl e) k = let four : r.kind ≡ 4 = ap (λ (x : Record). x.kind) e in let one : r.kind ≡ 1 = k.0 in omega (arith, four, one)
    not_undone r (inr (inl e)) k = ended r.transaction (ap (λ (x : Record). x.transaction) e) k.2
    not_undone r (inr (inr none)) k = none

    not_deleted : HasNo (IsToDelete log 170) log
    not_deleted r (inl e) k = let four : r.kind ≡ 4 = ap (λ (x : Record). x.kind) e in let six : r.kind ≡ 6 = k.0 in omega (arith, four, six)
    not_deleted r (inr (inl e)) k = let one : r.kind ≡ 1 = ap (λ (x : Record). x.kind) e in let six : r.kind ≡ 6 = k.0 in omega (arith, one, six)
    not_deleted r (inr (inr none)) k = none

-- before its store it isn't
not_backed : IsBacked log recorded 170 → ⊥
not_backed b = let e : ◌≡◌ {A = ℕ} 5 6 = b.changed update latest in omega (arith, e)

-- nor is it with the same candidates and no record
not_backed_alone : IsBacked [] stored 170 → ⊥
not_backed_alone b = two_values (b.unchanged (λ r m k. m))

-- with a checkpoint record before the sweep's fence it isn't either: nobody redoes what a stop loses
lost : IsBacked (check ∷ log) stored 170 → ⊥
lost b = two_values (b.unchanged passed)
  where
    skipped : IsSkipped (check ∷ log) 7
    skipped = (end, inr (inl refl), ((refl, refl), (check, inl refl, (refl, omega arith))))

    passed : HasNo (IsUnpassed (check ∷ log) 170) (check ∷ log)
    passed r (inl e) k = let kind : r.kind ≡ 5 = ap (λ (x : Record). x.kind) e in
        elim k.0 [ inl one ↦ (let a : r.kind ≡ 1 = one in omega (arith, a, kind)) | inr two ↦ (let a : r.kind ≡ 2 = two in omega (arith, a, kind)) ]
    passed r (inr m) k = k.2 (subst (λ t. IsSkipped (check ∷ log) t) (sym (ap (λ (x : Record). x.transaction) (unpassed r m (k.0, k.1, none r m k.0)))) skipped)
      where
        none : (x : Record) → IsAmong log x → (x.kind ≡ 1) ⊎ (x.kind ≡ 2) → IsSkipped log x.transaction → ⊥
        none x n change s = by x n s.2.1.0 s.2.1.1 s.2.1.2.0
          where
            by : (x : Record) → IsAmong log x → (c : Record) → IsAmong log c → c.kind ≡ 5 → ⊥
            by x n c (inl e) five = let kind : c.kind ≡ 4 = ap (λ (x : Record). x.kind) e in omega (arith, kind, five)
            by x n c (inr (inl e)) five = let kind : c.kind ≡ 1 = ap (λ (x : Record). x.kind) e in omega (arith, kind, five)
            by x n c (inr (inr off)) five = off

-- ---- what a sweep has to do

-- a write back and the same lane's fence leave 6 alone
swept_is : (after_all stored ((0, WriteBack 170) ∷ (0, Fence) ∷ [])).at 170 ≡ candidate 6 0 ∷ []
swept_is = refl

-- behind another lane's fence, or where another lane has written the word back meanwhile, 5 may still be left
other_fence_is : (after_all stored ((0, WriteBack 170) ∷ (1, Fence) ∷ [])).at 170 ≡ candidate 5 0 ∷ candidate 6 1 ∷ []
other_fence_is = refl

other_write_back_is : (after_all stored ((0, WriteBack 170) ∷ (1, WriteBack 170) ∷ (0, Fence) ∷ [])).at 170 ≡ candidate 5 0 ∷ candidate 6 2 ∷ []
other_write_back_is = refl

other_is_not_beside : IsBesideSweep 0 170 1 (WriteBack 170) → ⊥
other_is_not_beside own = let e : ◌≡◌ {A = ℕ} 1 0 = own refl in omega (arith, e)

-- a store behind the write back is lost by the fence alone
stored_again_is : (after_all stored ((0, WriteBack 170) ∷ (0, Store 170 9) ∷ (0, Fence) ∷ [])).at 170 ≡ candidate 6 0 ∷ candidate 9 0 ∷ []
stored_again_is = refl
