-- The address rule and the list rules, tried in order, against the rules of a sound list.
use Rattle.std.proofs.Common.{◌≡◌, ◌≢◌, ◌⊎◌, inl, inr, ℕ, ◌+◌, ◌<◌, true, false, ◌==◌, List, [], ◌∷◌, ◌++◌, refl, sym, ap, ◌∙◌, arith}
use Rattle.std.proofs.lemmas.Bool.Decides.{nat_tests}
use Rattle.persist_model.specs.Region.{Words}
use Rattle.persist_model.specs.Shape.{Shape, IsBucketOf}
use Rattle.persist_model.specs.ImageRecords.{cell_address}
use Rattle.persist_model.specs.Chain.{TAIL, TO_APPEND, LAST_TAIL, TO_REMOVE, view, next_of, prev_of, word_behind, word_before, IsLink, Each, first_or, last_or, AppendRule, RemoveRule, IsExcepted, LinksBackBut}
use Rattle.persist_model.specs.Visit.{HasArrived, link_behind, walk_from, chain_from, links_at, address_words}
use Rattle.persist_model.specs.Sound.{IsClosedBucket}
use Rattle.persist_model.specs.Faults.{FaultSet, TryLinksBack, MayAppend, MayRemove, TryPoints}
use Rattle.log_laws.proofs.Deciding.{IsDecided, decide_equal, decide_not, decide_either, decide_both, decide_implies, decide_as, decide_all, decide_absent}
use Rattle.log_laws.proofs.Tries.{CanFail, Excludes, AreOne, alike, tried_some, tried_none, tried_one}
use Rattle.log_laws.proofs.Visits.{decide_bucket}

-- ---- the walk that follows from what was visited

pub walk_none : (w : Words) (xs : List ℕ) → w TO_APPEND ≡ 0 → walk_from w xs ≡ xs
walk_none w xs e = let on : (w TO_APPEND == 0) ≡ true = grind (arith, nat_tests) in rw on refl

pub walk_some : (w : Words) (xs : List ℕ) → w TO_APPEND ≢ 0 → walk_from w xs ≡ xs ++ w TO_APPEND ∷ []
walk_some w xs ne = let off : (w TO_APPEND == 0) ≡ false = grind (arith, nat_tests) in rw off refl

pub links_at_none : (w : Words) (a : ℕ) → w a ≡ 0 → links_at w a ≡ []
links_at_none w a e = let on : (w a == 0) ≡ true = grind (arith, nat_tests) in rw on refl

pub links_at_some : (w : Words) (a : ℕ) → w a ≢ 0 → links_at w a ≡ next_of (w a) ∷ prev_of (w a) ∷ []
links_at_some w a ne = let off : (w a == 0) ≡ false = grind (arith, nat_tests) in rw off refl

-- the view behind the header
pub view_behind : (p a : ℕ) (z : Words) → 12 < a → view p z a ≡ z a
view_behind p a z lt =
    let h8 : (a == 8) ≡ false = grind (arith, nat_tests) in
    let h9 : (a == 9) ≡ false = grind (arith, nat_tests) in
    let h10 : (a == 10) ≡ false = grind (arith, nat_tests) in
    let h11 : (a == 11) ≡ false = grind (arith, nat_tests) in
    let h12 : (a == 12) ≡ false = grind (arith, nat_tests) in rw (h8, h9, h10, h11, h12) refl

-- ---- decisions

unfoldable pub decide_link : (shape : Shape) (p b : ℕ) → IsDecided (IsLink (IsBucketOf shape p) b)
unfolding decide_either decide_equal decide_bucket
decide_link shape p b = decide_either _ _ (decide_equal b 0) (decide_bucket shape p b)

unfoldable pub decide_arrived : (w : Words) (visited : List ℕ) → IsDecided (HasArrived w visited)
unfolding decide_either decide_both decide_equal decide_not
decide_arrived w visited =
    decide_either _ _ (decide_both _ _ (decide_equal (w TO_APPEND) 0) (decide_equal (link_behind w visited) 0))
    (decide_both _ _ (decide_not _ (decide_equal (w TO_APPEND) 0)) (decide_equal (last_or 0 visited) (w LAST_TAIL)))

abbrev AppendFacts : Words → ℕ → Type 0
AppendFacts w n = (w (next_of n) ≡ 0) × ((w (prev_of n) ≡ w LAST_TAIL) × (((w TAIL ≡ w LAST_TAIL) ⊎ (w TAIL ≡ n))
    × ((w (word_behind (w LAST_TAIL)) ≡ 0) ⊎ (w (word_behind (w LAST_TAIL)) ≡ n))))

pub append_on : (w : Words) (n : ℕ) → AppendFacts w n → AppendRule w n
append_on w n h = record { next = h.0; prev = h.1.0; tail = h.1.1.0; link = h.1.1.1 }

pub append_back : (w : Words) (n : ℕ) → AppendRule w n → AppendFacts w n
append_back w n h = (h.next, (h.prev, (h.tail, h.link)))

unfoldable pub decide_append_rule : (w : Words) (n : ℕ) → IsDecided (AppendRule w n)
unfolding decide_as decide_both decide_either decide_equal
decide_append_rule w n = decide_as (AppendFacts w n) (AppendRule w n) (append_on w n) (append_back w n)
    (decide_both _ _ (decide_equal (w (next_of n)) 0) (decide_both _ _ (decide_equal (w (prev_of n)) (w LAST_TAIL))
    (decide_both _ _ (decide_either _ _ (decide_equal (w TAIL) (w LAST_TAIL)) (decide_equal (w TAIL) n))
    (decide_either _ _ (decide_equal (w (word_behind (w LAST_TAIL))) 0) (decide_equal (w (word_behind (w LAST_TAIL))) n)))))

unfoldable pub decide_may_append : (w : Words) (visited : List ℕ) (n : ℕ) → IsDecided (MayAppend w visited n)
unfolding decide_both decide_absent decide_append_rule
decide_may_append w visited n = decide_both _ _ (decide_absent visited n) (decide_append_rule w n)

-- p and q stand side by side where xs is cut in two, d standing before the first
abbrev pub Splits : ℕ → List ℕ → ℕ → ℕ → Type 0
Splits d xs p q = (front : List ℕ) × (rest : List ℕ) × (xs ≡ front ++ rest) × (p ≡ last_or d front) × (q ≡ first_or 0 rest)

abbrev tail_of : List ℕ → List ℕ
tail_of [] = []
tail_of (x ∷ xs) = xs

pub splits_none : (d p q : ℕ) → Splits d [] p q → (p ≡ d) × (q ≡ 0)
splits_none d p q h = by h.0 h.1 h.2 h.3 h.4
  where
    by : (front rest : List ℕ) → [] ≡ front ++ rest → p ≡ last_or d front → q ≡ first_or 0 rest → (p ≡ d) × (q ≡ 0)
    by [] [] e f g = (f, g)
    by [] (y ∷ ys) e f g = cc
    by (x ∷ xs) rest e f g = cc

pub splits_back : (d x : ℕ) (xs : List ℕ) (p q : ℕ) → Splits d (x ∷ xs) p q → ((p ≡ d) × (q ≡ x)) ⊎ Splits x xs p q
splits_back d x xs p q h = by h.0 h.1 h.2 h.3 h.4
  where
    by : (front rest : List ℕ) → x ∷ xs ≡ front ++ rest → p ≡ last_or d front → q ≡ first_or 0 rest → ((p ≡ d) × (q ≡ x)) ⊎ Splits x xs p q
    by [] rest e f g = inl (f, g ∙ ap (first_or 0) (sym e))
    by (y ∷ front) rest e f g = inr (front, rest, ap tail_of e, f ∙ ap (λ z. last_or z front) (sym (ap (first_or 0) e)), g)

pub splits_first : (d x : ℕ) (xs : List ℕ) (p q : ℕ) → (p ≡ d) × (q ≡ x) → Splits d (x ∷ xs) p q
splits_first d x xs p q h = ([], x ∷ xs, refl, h.0, h.1)

pub splits_behind : (d x : ℕ) (xs : List ℕ) (p q : ℕ) → Splits x xs p q → Splits d (x ∷ xs) p q
splits_behind d x xs p q h = (x ∷ h.0, h.1, ap (λ ys. x ∷ ys) h.2, h.3, h.4)

pub splits_empty : (d p q : ℕ) → (p ≡ d) × (q ≡ 0) → Splits d [] p q
splits_empty d p q h = ([], [], refl, h.0, h.1)

unfoldable pub decide_splits : (d : ℕ) (xs : List ℕ) (p q : ℕ) → IsDecided (Splits d xs p q)
unfolding decide_both decide_equal decide_as
decide_splits d [] p q = decide_as _ _ (splits_empty d p q) (splits_none d p q) (decide_both _ _ (decide_equal p d) (decide_equal q 0))
decide_splits d (x ∷ xs) p q = elim (decide_both _ _ (decide_equal p d) (decide_equal q x)) [
  | inl h ↦ inl (splits_first d x xs p q h)
  | inr nf ↦ elim (decide_splits x xs p q) [
    | inl h ↦ inl (splits_behind d x xs p q h)
    | inr nb ↦ inr (λ h. elim (splits_back d x xs p q h) [ inl f ↦ nf f | inr b ↦ nb b ])
  ]
]

abbrev RemoveFacts : Words → List ℕ → ℕ → ℕ → ℕ → Type 0
RemoveFacts w chain n p q = ((n ≢ p) × (n ≢ q)) × ((p ≢ 0 → p ≢ q) × (Splits 0 chain p q × (((w (word_behind p) ≡ n) ⊎ (w (word_behind p) ≡ q)) × ((w (word_before q) ≡ n) ⊎ (w (word_before q) ≡ p)))))

pub remove_on : (w : Words) (chain : List ℕ) (n p q : ℕ) → RemoveFacts w chain n p q → RemoveRule w chain n p q
remove_on w chain n p q h = record {
  node_apart = h.0;
  apart = h.1.0;
  neighbours = record { front = h.1.1.0.0; rest = h.1.1.0.1; is = h.1.1.0.2; p_is = h.1.1.0.3; q_is = h.1.1.0.4 };
  link = h.1.1.1.0;
  back = h.1.1.1.1;
}

pub remove_back : (w : Words) (chain : List ℕ) (n p q : ℕ) → RemoveRule w chain n p q → RemoveFacts w chain n p q
remove_back w chain n p q h = (h.node_apart, (h.apart, ((h.neighbours.front, h.neighbours.rest, h.neighbours.is, h.neighbours.p_is, h.neighbours.q_is), (h.link, h.back))))

unfoldable pub decide_remove_rule : (w : Words) (chain : List ℕ) (n p q : ℕ) → IsDecided (RemoveRule w chain n p q)
unfolding decide_as decide_both decide_not decide_implies decide_either decide_equal decide_splits
decide_remove_rule w chain n p q = decide_as (RemoveFacts w chain n p q) (RemoveRule w chain n p q) (remove_on w chain n p q) (remove_back w chain n p q)
    (decide_both _ _ (decide_both _ _ (decide_not _ (decide_equal n p)) (decide_not _ (decide_equal n q)))
    (decide_both _ _ (decide_implies _ _ (decide_not _ (decide_equal p 0)) (λ k. decide_not _ (decide_equal p q)))
    (decide_both _ _ (decide_splits 0 chain p q)
    (decide_both _ _ (decide_either _ _ (decide_equal (w (word_behind p)) n) (decide_equal (w (word_behind p)) q))
    (decide_either _ _ (decide_equal (w (word_before q)) n) (decide_equal (w (word_before q)) p))))))

unfoldable pub decide_closed : (shape : Shape) (w : Words) (b : ℕ) → IsDecided (IsClosedBucket shape w b)
unfolding decide_all decide_equal
decide_closed shape w b = decide_all (λ c. w (cell_address b c) ≡ 0) shape.cells (λ c. decide_equal (w (cell_address b c)) 0)

unfoldable pub decide_may_remove : (shape : Shape) (w : Words) (chain : List ℕ) (n : ℕ) → IsDecided (MayRemove shape w chain n)
unfolding decide_both decide_remove_rule decide_closed
decide_may_remove shape w chain n = decide_both _ _ (decide_remove_rule w chain n (w (prev_of n)) (w (next_of n))) (decide_closed shape w n)

unfoldable pub decide_excepted : (w : Words) (a : ℕ) → IsDecided (IsExcepted w a)
unfolding decide_either decide_both decide_not decide_equal
decide_excepted w a =
    decide_either _ _ (decide_both _ _ (decide_not _ (decide_equal (w TO_APPEND) 0)) (decide_equal a TAIL))
    (decide_both _ _ (decide_not _ (decide_equal (w TO_REMOVE) 0)) (decide_equal a (word_before (w (next_of (w TO_REMOVE))))))

unfoldable pub decide_or_excepted : (w : Words) (a b : ℕ) → IsDecided ((w a ≡ b) ⊎ IsExcepted w a)
unfolding decide_either decide_equal decide_excepted
decide_or_excepted w a b = decide_either _ _ (decide_equal (w a) b) (decide_excepted w a)

-- ---- the PREVs

unfoldable pub back_some : (w : Words) (R : Type 0) (before : ℕ) (xs : List ℕ) (next : FaultSet) → (LinksBackBut w before xs → CanFail R next) →
    CanFail (LinksBackBut w before xs × R) (TryLinksBack w before xs next)
unfolding decide_or_excepted
back_some w R before [] next go = elim (go tt) [ inl r ↦ inl (tt, r) | inr f ↦ inr f ]
back_some w R before (x ∷ xs) next go = elim (decide_or_excepted w (prev_of x) before) [
  | inr bad ↦ inr (6, prev_of x, inl (bad, refl, refl))
  | inl p ↦ elim (back_some w R x xs next (λ h. go (p, h))) [ inl r ↦ inl ((p, r.0), r.1) | inr f ↦ inr (f.0, f.1, inr (p, f.2)) ]
]

back_none : (w : Words) (before : ℕ) (xs : List ℕ) (next : FaultSet) → LinksBackBut w before xs → Excludes next → Excludes (TryLinksBack w before xs next)
back_none w before [] next h ex = ex
back_none w before (x ∷ xs) next h ex = tried_none _ 6 (prev_of x) (TryLinksBack w x xs next) h.0 (back_none w x xs next h.1 ex)

back_one : (w : Words) (before : ℕ) (xs : List ℕ) (next others : FaultSet) → AreOne next others → AreOne (TryLinksBack w before xs next) (TryLinksBack w before xs others)
back_one w before [] next others one = one
back_one w before (x ∷ xs) next others one = tried_one _ _ 6 (prev_of x) (TryLinksBack w x xs next) (TryLinksBack w x xs others) (alike _) (back_one w x xs next others one)

-- ---- what holds of a partition where no rule fails

abbrev pub AddressesHold : Shape → Words → ℕ → List ℕ → Type 0
AddressesHold shape z p visited = Each (λ b. IsLink (IsBucketOf shape p) (view p z b)) (address_words (view p z) visited)

abbrev pub PointsHold : Shape → Words → List ℕ → Type 0 → Type 0
PointsHold shape w visited R =
    ((w TO_APPEND ≡ 0) ⊎ (w TO_REMOVE ≡ 0)) × (HasArrived w visited × ((w TO_APPEND ≢ 0 → MayAppend w visited (w TO_APPEND))
    × ((w TO_REMOVE ≢ 0 → MayRemove shape w (chain_from w visited) (w TO_REMOVE)) × (LinksBackBut w 0 (chain_from w visited)
    × (((w TAIL ≡ last_or 0 (chain_from w visited)) ⊎ IsExcepted w TAIL) × R)))))

unfoldable pub points_some : (shape : Shape) (base : ℕ) (w : Words) (visited : List ℕ) (R : Type 0) (next : FaultSet) → CanFail R next →
    CanFail (PointsHold shape w visited R) (TryPoints shape base w visited next)
unfolding tried_some back_some decide_either decide_equal decide_arrived decide_implies decide_not decide_may_append decide_may_remove decide_or_excepted
points_some shape base w visited R next go =
    tried_some _ _ 6 (base + 4) _ (decide_either _ _ (decide_equal (w TO_APPEND) 0) (decide_equal (w TO_REMOVE) 0)) (λ h1.
    tried_some _ _ 6 base _ (decide_arrived w visited) (λ h2.
    tried_some _ _ 6 (base + 2) _ (decide_implies _ _ (decide_not _ (decide_equal (w TO_APPEND) 0)) (λ k. decide_may_append w visited (w TO_APPEND))) (λ h3.
    tried_some _ _ 6 (base + 4) _ (decide_implies _ _ (decide_not _ (decide_equal (w TO_REMOVE) 0)) (λ k. decide_may_remove shape w (chain_from w visited) (w TO_REMOVE))) (λ h4.
    back_some w _ 0 (chain_from w visited) _ (λ h5.
    tried_some _ R 6 (base + 1) next (decide_or_excepted w TAIL (last_or 0 (chain_from w visited))) (λ h6. go))))))

pub points_none : (shape : Shape) (base : ℕ) (w : Words) (visited : List ℕ) (next : FaultSet) → PointsHold shape w visited (Unit {0}) → Excludes next →
    Excludes (TryPoints shape base w visited next)
points_none shape base w visited next h ex =
    tried_none _ 6 (base + 4) _ h.0 (tried_none _ 6 base _ h.1.0 (tried_none _ 6 (base + 2) _ h.1.1.0 (tried_none _ 6 (base + 4) _ h.1.1.1.0
    (back_none w 0 (chain_from w visited) _ h.1.1.1.1.0 (tried_none _ 6 (base + 1) next h.1.1.1.1.1.0 ex)))))

pub points_one : (shape : Shape) (base : ℕ) (w : Words) (visited : List ℕ) (next others : FaultSet) → AreOne next others →
    AreOne (TryPoints shape base w visited next) (TryPoints shape base w visited others)
points_one shape base w visited next others one =
    tried_one _ _ 6 (base + 4) _ _ (alike _) (tried_one _ _ 6 base _ _ (alike _) (tried_one _ _ 6 (base + 2) _ _ (alike _) (tried_one _ _ 6 (base + 4) _ _ (alike _)
    (back_one w 0 (chain_from w visited) _ _ (tried_one _ _ 6 (base + 1) next others (alike _) one)))))
