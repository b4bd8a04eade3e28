-- The records of an image as a list: there is one, and what a new, a closed and an unchanged record do to it.
use Rattle.std.proofs.Common.{◌≡◌, ◌⊎◌, ◌↔◌, inl, inr, ℕ, ◌<◌, List, [], ◌∷◌, refl, sym, ap, ◌∙◌, subst, arith}
use Rattle.persist_model.specs.Region.{Words}
use Rattle.persist_model.specs.Records.{Record, Log, IsAmong, IsNewer, IsNewestFirst}
use Rattle.log_laws.specs.Closing.{IsSublog, empty, stays, goes}
use Rattle.persist_model.specs.Shape.{Shape}
use Rattle.persist_model.specs.ImageRecords.{IsRecordOf, AreRecords}
use Rattle.log_laws.proofs.Deciding.{IsDecided}
use Rattle.log_laws.proofs.Closings.{part_among}

not_newer : (r s : Record) → IsNewer r s → IsNewer s r → ⊥
not_newer r s (inl a) (inl b) = omega (arith, a, b)
not_newer r s (inl a) (inr b) = let e = b.0 in omega (arith, a, e)
not_newer r s (inr a) (inl b) = let e = a.0 in omega (arith, e, b)
not_newer r s (inr a) (inr b) = let x = a.1 in let y = b.1 in omega (arith, x, y)

-- two lists, newest first, with the same records are one
pub lists_one : (log other : Log) → IsNewestFirst log → IsNewestFirst other → ((r : Record) → IsAmong log r → IsAmong other r) → ((r : Record) → IsAmong other r → IsAmong log r) → log ≡ other
lists_one [] [] n m f g = refl
lists_one [] (y ∷ ys) n m f g = absurd (g y (inl refl))
lists_one (x ∷ xs) [] n m f g = absurd (f x (inl refl))
lists_one (x ∷ xs) (y ∷ ys) n m f g =
    let same : x ≡ y = heads (f x (inl refl)) (g y (inl refl)) in
    let tails = lists_one xs ys n.1 m.1 (λ r k. tail_on same r (f r (inr k)) k) (λ r k. tail_back same r (g r (inr k)) k) in
    ap (λ z. z ∷ xs) same ∙ ap (λ zs. y ∷ zs) tails
  where
    heads : (x ≡ y) ⊎ IsAmong ys x → (y ≡ x) ⊎ IsAmong xs y → x ≡ y
    heads (inl e) h = e
    heads (inr k) (inl e) = sym e
    heads (inr k) (inr j) = absurd (not_newer y x (m.0 x k) (n.0 y j))

    tail_on : x ≡ y → (r : Record) → (r ≡ y) ⊎ IsAmong ys r → IsAmong xs r → IsAmong ys r
    tail_on same r (inr k) j = k
    tail_on same r (inl e) j = let k : IsNewer x x = subst (λ z. IsNewer x z) (e ∙ sym same) (n.0 r j) in absurd (not_newer x x k k)

    tail_back : x ≡ y → (r : Record) → (r ≡ x) ⊎ IsAmong xs r → IsAmong ys r → IsAmong xs r
    tail_back same r (inr k) j = k
    tail_back same r (inl e) j = let k : IsNewer y y = subst (λ z. IsNewer y z) (e ∙ same) (m.0 r j) in absurd (not_newer y y k k)

pub records_one : (shape : Shape) (chains : ℕ → List ℕ) (w : Words) (log other : Log) → AreRecords shape chains w log → AreRecords shape chains w other → log ≡ other
records_one shape chains w log other h k = lists_one log other h.newest_first k.newest_first (λ r m. (k.each r).1 ((h.each r).0 m)) (λ r m. (h.each r).1 ((k.each r).0 m))

-- the same records
pub records_same : (shape : Shape) (chains after : ℕ → List ℕ) (w v : Words) (log : Log) →
    ((p : ℕ) (r : Record) → IsRecordOf shape.cells (after p) v r ↔ IsRecordOf shape.cells (chains p) w r) → AreRecords shape chains w log → AreRecords shape after v log
records_same shape chains after w v log same h = record {
  newest_first = h.newest_first;
  each = λ r. (λ m. (let k = (h.each r).0 m in (k.0, k.1, (same k.0 r).1 k.2)), λ k. (h.each r).1 (k.0, k.1, (same k.0 r).0 k.2));
}

-- one more, the newest
pub records_grown : (shape : Shape) (chains after : ℕ → List ℕ) (w v : Words) (log : Log) (q : ℕ) (new : Record) → q < shape.partitions →
    ((s : Record) → IsAmong log s → s.lsn < new.lsn) →
    ((p : ℕ) (r : Record) → IsRecordOf shape.cells (after p) v r ↔ (IsRecordOf shape.cells (chains p) w r ⊎ ((p ≡ q) × (r ≡ new)))) →
    AreRecords shape chains w log → AreRecords shape after v (new ∷ log)
records_grown shape chains after w v log q new inside above adds h = record {
  newest_first = (λ s m. inl (above s m), h.newest_first);
  each = λ r. (
    λ m. elim m [
      | inl e ↦ (q, inside, (adds q r).1 (inr (refl, e)))
      | inr k ↦ (let b = (h.each r).0 k in (b.0, b.1, (adds b.0 r).1 (inl b.2)))
    ],
    λ k. elim ((adds k.0 r).0 k.2) [ inl old ↦ inr ((h.each r).1 (k.0, k.1, old)) | inr new ↦ inl new.1 ],
  );
}

-- the records that stay open, where each is closed or not
pub left_open : (P : Record → Type 0) (log : Log) → ((r : Record) → IsAmong log r → IsDecided (P r)) → IsNewestFirst log →
    (later : Log) × IsSublog P later log × IsNewestFirst later × ((r : Record) → IsAmong later r → P r → ⊥)
left_open P [] decide n = ([], empty, tt, λ r m p. m)
left_open P (x ∷ log) decide n = go (decide x (inl refl)) (left_open P log (λ r m. decide r (inr m)) n.1)
  where
    go : IsDecided (P x) → (later : Log) × IsSublog P later log × IsNewestFirst later × ((r : Record) → IsAmong later r → P r → ⊥) →
        (later : Log) × IsSublog P later (x ∷ log) × IsNewestFirst later × ((r : Record) → IsAmong later r → P r → ⊥)
    go (inl p) h = (h.0, goes x p h.1, h.2, h.3)
    go (inr no_p) h = (x ∷ h.0, stays x h.1, (λ s m. n.0 s (part_among P h.0 log h.1 s m), h.2), λ r m p. elim m [ inl e ↦ no_p (subst P e p) | inr k ↦ h.3 r k p ])
