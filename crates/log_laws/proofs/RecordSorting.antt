-- The records of an image as a list exist: the open cells of the chains are put in order one by one.
use Rattle.std.proofs.Common.{◌≡◌, ◌≢◌, ◌⊎◌, inl, inr, ℕ, zero, suc, ◌<◌, List, [], ◌∷◌, ◌++◌, refl, sym, ap, ◌∙◌, subst, arith}
use Rattle.std.proofs.lemmas.Bool.Decides.{eqb_tells}
use Rattle.persist_model.specs.Region.{Words}
use Rattle.persist_model.specs.Records.{Record, Log, IsAmong, IsNewer, IsNewestFirst}
use Rattle.persist_model.specs.Shape.{Shape}
use Rattle.persist_model.proofs.Among.{among_left, among_right, among_append}
use Rattle.persist_model.specs.ImageRecords.{cell_address, record_at, IsRecordOf, AreRecords}
use Rattle.log_laws.proofs.Deciding.{IsDecided, decide_equal, decide_less, decide_either, decide_both}

-- ---- one record more

-- r is what the words have at its address
abbrev pub IsRead : Words → Record → Type 0
IsRead z r = r ≡ record_at z r.at

unfoldable pub decide_newer : (r s : Record) → IsDecided (IsNewer r s)
unfolding decide_either decide_both decide_less decide_equal
decide_newer r s = decide_either _ _ (decide_less s.lsn r.lsn) (decide_both _ _ (decide_equal s.lsn r.lsn) (decide_less s.at r.at))

unfoldable pub insert_by : (r s : Record) (log again : Log) → IsDecided (IsNewer r s) → IsDecided (r.at ≡ s.at) → Log
insert_by r s log again (inl newer) d = r ∷ s ∷ log
insert_by r s log again (inr older) (inl same) = s ∷ log
insert_by r s log again (inr older) (inr apart) = s ∷ again

unfoldable pub insert : Record → Log → Log
unfolding insert_by decide_newer decide_equal
insert r [] = r ∷ []
insert r (s ∷ log) = insert_by r s log (insert r log) (decide_newer r s) (decide_equal r.at s.at)

other_newer : (r s : Record) → (IsNewer r s → ⊥) → r.at ≢ s.at → IsNewer s r
other_newer r s older apart = elim (decide_less r.lsn s.lsn) [
  | inl lt ↦ inl lt
  | inr nl ↦ elim (decide_less s.lsn r.lsn) [
    | inl lt ↦ absurd (older (inl lt))
    | inr nm ↦ (let e : s.lsn ≡ r.lsn = grind (arith, nl, nm) in elim (decide_less r.at s.at) [
      | inl lt ↦ inr (sym e, lt)
      | inr no_less ↦ absurd (older (inr (e, grind (arith, no_less, apart))))
    ])
  ]
]

newer_on : (r s x : Record) → IsNewer r s → IsNewer s x → IsNewer r x
newer_on r s x (inl a) (inl b) = inl (omega (arith, a, b))
newer_on r s x (inl a) (inr b) = let e = b.0 in inl (omega (arith, a, e))
newer_on r s x (inr a) (inl b) = let e = a.0 in inl (omega (arith, e, b))
newer_on r s x (inr a) (inr b) = let lt = a.1 in let more = b.1 in inr (b.0 ∙ a.0, omega (arith, lt, more))

pub insert_on : (r : Record) (log : Log) (x : Record) → IsAmong (insert r log) x → (x ≡ r) ⊎ IsAmong log x
unfolding insert
insert_on r [] x m = m
insert_on r (s ∷ log) x m = by (decide_newer r s) (decide_equal r.at s.at) (insert_on r log x) m
  where
    by : (d : IsDecided (IsNewer r s)) (e : IsDecided (r.at ≡ s.at)) → (IsAmong (insert r log) x → (x ≡ r) ⊎ IsAmong log x) → IsAmong (insert_by r s log (insert r log) d e) x → (x ≡ r) ⊎ IsAmong (s ∷ log) x
    by (inl newer) e again m = m
    by (inr older) (inl same) again m = inr m
    by (inr older) (inr apart) again (inl e) = inr (inl e)
    by (inr older) (inr apart) again (inr m) = elim (again m) [ inl e ↦ inl e | inr k ↦ inr (inr k) ]

pub insert_back : (z : Words) (r : Record) (log : Log) (x : Record) → IsRead z r → ((s : Record) → IsAmong log s → IsRead z s) → (x ≡ r) ⊎ IsAmong log x → IsAmong (insert r log) x
unfolding insert
insert_back z r [] x read reads m = m
insert_back z r (s ∷ log) x read reads m = by (decide_newer r s) (decide_equal r.at s.at) (insert_back z r log x read (λ y k. reads y (inr k))) m
  where
    by : (d : IsDecided (IsNewer r s)) (e : IsDecided (r.at ≡ s.at)) → ((x ≡ r) ⊎ IsAmong log x → IsAmong (insert r log) x) → (x ≡ r) ⊎ IsAmong (s ∷ log) x →
        IsAmong (insert_by r s log (insert r log) d e) x
    by (inl newer) e again m = m
    by (inr older) (inl same) again (inl e) = inl (e ∙ read ∙ ap (record_at z) same ∙ sym (reads s (inl refl)))
    by (inr older) (inl same) again (inr m) = m
    by (inr older) (inr apart) again (inl e) = inr (again (inl e))
    by (inr older) (inr apart) again (inr (inl e)) = inl e
    by (inr older) (inr apart) again (inr (inr m)) = inr (again (inr m))

pub insert_sorted : (r : Record) (log : Log) → IsNewestFirst log → IsNewestFirst (insert r log)
unfolding insert
insert_sorted r [] n = ((λ s m. absurd m), tt)
insert_sorted r (s ∷ log) n = by (decide_newer r s) (decide_equal r.at s.at) (insert_sorted r log n.1)
  where
    by : (d : IsDecided (IsNewer r s)) (e : IsDecided (r.at ≡ s.at)) → IsNewestFirst (insert r log) → IsNewestFirst (insert_by r s log (insert r log) d e)
    by (inl newer) e again = ((λ x m. elim m [ inl e ↦ subst (λ y. IsNewer r y) (sym e) newer | inr k ↦ newer_on r s x newer (n.0 x k) ]), n)
    by (inr older) (inl same) again = n
    by (inr older) (inr apart) again = (
      (λ x m. elim (insert_on r log x m) [ inl e ↦ subst (λ y. IsNewer s y) (sym e) (other_newer r s older apart) | inr k ↦ n.0 x k ]),
      again,
    )

-- ---- the open cells at some addresses

unfoldable pub add_by : (z : Words) (at : ℕ) (log : Log) → IsDecided (z at ≡ 0) → Log
unfolding insert
add_by z at log (inl closed) = log
add_by z at log (inr gate) = insert (record_at z at) log

unfoldable pub log_from : Words → List ℕ → Log
unfolding add_by decide_equal
log_from z [] = []
log_from z (at ∷ ats) = add_by z at (log_from z ats) (decide_equal (z at) 0)

-- r is an open cell at one of these addresses
abbrev pub IsOpenAt : Words → List ℕ → Record → Type 0
IsOpenAt z ats r = (at : ℕ) × IsAmong ats at × (z at ≢ 0) × (r ≡ record_at z at)

pub log_from_on : (z : Words) (ats : List ℕ) (r : Record) → IsAmong (log_from z ats) r → IsOpenAt z ats r
unfolding log_from
log_from_on z [] r m = absurd m
log_from_on z (at ∷ ats) r m = by (decide_equal (z at) 0) (log_from_on z ats r) m
  where
    by : (d : IsDecided (z at ≡ 0)) → (IsAmong (log_from z ats) r → IsOpenAt z ats r) → IsAmong (add_by z at (log_from z ats) d) r → IsOpenAt z (at ∷ ats) r
    by (inl closed) again m = let h = again m in (h.0, inr h.1, h.2, h.3)
    by (inr gate) again m = elim (insert_on (record_at z at) (log_from z ats) r m) [ inl e ↦ (at, inl refl, gate, e) | inr k ↦ (let h = again k in (h.0, inr h.1, h.2, h.3)) ]

pub log_from_read : (z : Words) (ats : List ℕ) (r : Record) → IsAmong (log_from z ats) r → IsRead z r
log_from_read z ats r m = let h = log_from_on z ats r m in h.3 ∙ ap (record_at z) (sym (ap (λ (x : Record). x.at) h.3))

pub log_from_back : (z : Words) (ats : List ℕ) (r : Record) → IsOpenAt z ats r → IsAmong (log_from z ats) r
unfolding log_from
log_from_back z [] r h = absurd h.1
log_from_back z (at ∷ ats) r h = by (decide_equal (z at) 0) (log_from_back z ats r) h.1
  where
    by : (d : IsDecided (z at ≡ 0)) → (IsOpenAt z ats r → IsAmong (log_from z ats) r) → (h.0 ≡ at) ⊎ IsAmong ats h.0 → IsAmong (add_by z at (log_from z ats) d) r
    by (inl closed) again (inl e) = absurd (h.2 (ap z e ∙ closed))
    by (inl closed) again (inr m) = again (h.0, m, h.2, h.3)
    by (inr gate) again (inl e) = insert_back z (record_at z at) (log_from z ats) r refl (log_from_read z ats) (inl (h.3 ∙ ap (record_at z) e))
    by (inr gate) again (inr m) = insert_back z (record_at z at) (log_from z ats) r refl (log_from_read z ats) (inr (again (h.0, m, h.2, h.3)))

pub log_from_sorted : (z : Words) (ats : List ℕ) → IsNewestFirst (log_from z ats)
unfolding log_from
log_from_sorted z [] = tt
log_from_sorted z (at ∷ ats) = by (decide_equal (z at) 0) (log_from_sorted z ats)
  where
    by : (d : IsDecided (z at ≡ 0)) → IsNewestFirst (log_from z ats) → IsNewestFirst (add_by z at (log_from z ats) d)
    by (inl closed) n = n
    by (inr gate) n = insert_sorted (record_at z at) (log_from z ats) n

-- ---- the cells of the chains

abbrev pub cells_of : ℕ → ℕ → List ℕ
cells_of b zero = []
cells_of b (suc n) = cell_address b n ∷ cells_of b n

abbrev pub chain_cells : ℕ → List ℕ → List ℕ
chain_cells cells [] = []
chain_cells cells (b ∷ chain) = cells_of b cells ++ chain_cells cells chain

abbrev pub all_cells : ℕ → (ℕ → List ℕ) → ℕ → List ℕ
all_cells cells chains zero = []
all_cells cells chains (suc p) = chain_cells cells (chains p) ++ all_cells cells chains p

cell_on : (b n at : ℕ) → IsAmong (cells_of b n) at → (c : ℕ) × (c < n) × (at ≡ cell_address b c)
cell_on b zero at m = absurd m
cell_on b (suc n) at (inl e) = (n, omega arith, e)
cell_on b (suc n) at (inr m) = let h = cell_on b n at m in let lt = h.1 in (h.0, omega (arith, lt), h.2)

cell_back : (b n c : ℕ) → c < n → IsAmong (cells_of b n) (cell_address b c)
cell_back b zero c lt = absurd (omega (arith, lt))
cell_back b (suc n) c lt = elim (eqb_tells c n) [ inl e ↦ inl (ap (cell_address b) e.1) | inr ne ↦ (let apart = ne.1 in inr (cell_back b n c (omega (arith, lt, apart)))) ]

-- at is a cell of one of the chain's buckets
abbrev IsCellOf : ℕ → List ℕ → ℕ → Type 0
IsCellOf cells chain at = (b : ℕ) × IsAmong chain b × (c : ℕ) × (c < cells) × (at ≡ cell_address b c)

chain_on : (cells : ℕ) (chain : List ℕ) (at : ℕ) → IsAmong (chain_cells cells chain) at → IsCellOf cells chain at
chain_on cells [] at m = absurd m
chain_on cells (b ∷ chain) at m = elim (among_append (cells_of b cells) (chain_cells cells chain) at m) [
  | inl k ↦ (let h = cell_on b cells at k in (b, inl refl, h.0, h.1, h.2))
  | inr k ↦ (let h = chain_on cells chain at k in (h.0, inr h.1, h.2, h.3, h.4))
]

chain_back : (cells : ℕ) (chain : List ℕ) (b c : ℕ) → IsAmong chain b → c < cells → IsAmong (chain_cells cells chain) (cell_address b c)
chain_back cells [] b c m lt = absurd m
chain_back cells (x ∷ chain) b c (inl e) lt =
    among_left (cells_of x cells) (chain_cells cells chain) (cell_address b c) (subst (λ y. IsAmong (cells_of y cells) (cell_address b c)) e (cell_back b cells c lt))
chain_back cells (x ∷ chain) b c (inr m) lt = among_right (cells_of x cells) (chain_cells cells chain) (cell_address b c) (chain_back cells chain b c m lt)

all_on : (cells : ℕ) (chains : ℕ → List ℕ) (n at : ℕ) → IsAmong (all_cells cells chains n) at → (p : ℕ) × (p < n) × IsCellOf cells (chains p) at
all_on cells chains zero at m = absurd m
all_on cells chains (suc n) at m = elim (among_append (chain_cells cells (chains n)) (all_cells cells chains n) at m) [
  | inl k ↦ (n, omega arith, chain_on cells (chains n) at k)
  | inr k ↦ (let h = all_on cells chains n at k in let lt = h.1 in (h.0, omega (arith, lt), h.2))
]

all_back : (cells : ℕ) (chains : ℕ → List ℕ) (n p b c : ℕ) → p < n → IsAmong (chains p) b → c < cells → IsAmong (all_cells cells chains n) (cell_address b c)
all_back cells chains zero p b c lt m below = absurd (omega (arith, lt))
all_back cells chains (suc n) p b c lt m below = elim (eqb_tells p n) [
  | inl e ↦ among_left (chain_cells cells (chains n)) (all_cells cells chains n) (cell_address b c) (chain_back cells (chains n) b c (subst (λ q. IsAmong (chains q) b) e.1 m) below)
  | inr ne ↦ (let apart = ne.1 in among_right (chain_cells cells (chains n)) (all_cells cells chains n) (cell_address b c) (all_back cells chains n p b c (omega (arith, lt, apart)) m below))
]

-- ---- the records

unfoldable pub log_of : (shape : Shape) (chains : ℕ → List ℕ) (z : Words) → Log
unfolding log_from
log_of shape chains z = log_from z (all_cells shape.cells chains shape.partitions)

pub records_some : (shape : Shape) (chains : ℕ → List ℕ) (z : Words) → AreRecords shape chains z (log_of shape chains z)
unfolding log_of
records_some shape chains z = record {
  newest_first = log_from_sorted z ats;
  each = λ r. (λ m. on r (log_from_on z ats r m), λ h. log_from_back z ats r (back r h));
}
  where
    ats : List ℕ
    ats = all_cells shape.cells chains shape.partitions

    on : (r : Record) → IsOpenAt z ats r → (p : ℕ) × (p < shape.partitions) × IsRecordOf shape.cells (chains p) z r
    on r h =
        let k = all_on shape.cells chains shape.partitions h.0 h.1 in
        let is : r ≡ record_at z (cell_address k.2.0 k.2.2) = h.3 ∙ ap (record_at z) k.2.4 in (
          k.0,
          k.1,
          record {
            bucket = k.2.0;
            is_among = k.2.1;
            place = k.2.2;
            below = k.2.3;
            is = is;
            gate = λ e. h.2 (sym (ap (λ (x : Record). x.lsn) h.3) ∙ e);
          },
        )

    back : (r : Record) → (p : ℕ) × (p < shape.partitions) × IsRecordOf shape.cells (chains p) z r → IsOpenAt z ats r
    back r h = (
      cell_address h.2.bucket h.2.place,
      all_back shape.cells chains shape.partitions h.0 h.2.bucket h.2.place h.1 h.2.is_among h.2.below,
      (λ e. h.2.gate (ap (λ (x : Record). x.lsn) h.2.is ∙ e)),
      h.2.is,
    )
