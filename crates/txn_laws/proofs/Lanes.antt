-- One lane's transaction becomes another.
use Rattle.std.proofs.Common.{◌≡◌, ◌≢◌, ◌⊎◌, inl, inr, ℕ, zero, suc, ◌<◌, ◌≤◌, Bool, true, false, List, [], ◌∷◌, length, refl, sym, ap, ◌∙◌, subst, arith}
use Rattle.std.proofs.lemmas.Bool.Decides.{eqb_tells}
use Rattle.persist_model.specs.Region.{Words, Region, newest}
use Rattle.persist_model.specs.Progress.{latest}
use Rattle.persist_model.specs.Records.{Record, Log, HasNo, IsOf}
use Rattle.persist_model.specs.Standing.{IsToDelete}
use Rattle.persist_model.specs.Shape.{Shape, IsHeapWord}
use Rattle.persist_model.specs.State.{State}
use Rattle.log_keeper.specs.Parts.{rests, appends as adds, closes as shuts, takes_back as drops_deletions, Running}
use Rattle.log_keeper.specs.Logged.{Keeping}
use Rattle.history_laws.specs.UnderWay.{UnderWay, nothing, appends, closes, takes_back, drops, record_of_adding, run_of}
use Rattle.txn_laws.specs.Txns.{Txn, txn_at, with_txn, written}
use Rattle.txn_laws.specs.Owners.{IsMine, IsNobodys, AreOwners}
use Rattle.txn_laws.specs.Heaps.{now_of}
use Rattle.txn_laws.specs.PartsOf.{Fits, IsResting, IsPartIn}
use Rattle.txn_laws.proofs.Finding.{idle_none, now_own, now_nobodys}

pub with_here : (l : ℕ) (y : Txn) (lanes : List Txn) → l < length lanes → txn_at (with_txn l y lanes) l ≡ y
with_here l y [] lt = absurd (omega (arith, lt))
with_here zero y (x ∷ lanes) lt = refl
with_here (suc l) y (x ∷ lanes) lt = with_here l y lanes (omega (arith, lt))

pub with_other : (l k : ℕ) (y : Txn) (lanes : List Txn) → k ≢ l → txn_at (with_txn l y lanes) k ≡ txn_at lanes k
with_other l k y [] ne = refl
with_other zero zero y (x ∷ lanes) ne = absurd (ne refl)
with_other zero (suc k) y (x ∷ lanes) ne = refl
with_other (suc l) zero y (x ∷ lanes) ne = refl
with_other (suc l) (suc k) y (x ∷ lanes) ne = with_other l k y lanes (λ e. ne (ap suc e))

-- what holds of the new transaction, and of each other lane's
pub by_lane : (P : ℕ → Txn → Type 0) (l : ℕ) (y : Txn) (lanes : List Txn) → l < length lanes → P l y → ((k : ℕ) → k ≢ l → P k (txn_at lanes k)) → (k : ℕ) → P k (txn_at (with_txn l y lanes) k)
by_lane P l y lanes lt here there k = elim (eqb_tells k l) [
  | inl e ↦ subst (λ j. P j (txn_at (with_txn l y lanes) j)) (sym e.1) (subst (P l) (sym (with_here l y lanes lt)) here)
  | inr ne ↦ subst (P k) (sym (with_other l k y lanes ne.1)) (there k ne.1)
]

-- a word is a lane's, or nobody's
pub whose : (lanes : List Txn) (a : ℕ) → ((l : ℕ) × IsMine (txn_at lanes l) a) ⊎ IsNobodys lanes a
whose [] a = inr (λ l m. idle_none a m)
whose (x ∷ lanes) a = by (x.words a) refl (whose lanes a)
  where
    by : (b : Bool) → x.words a ≡ b → ((l : ℕ) × IsMine (txn_at lanes l) a) ⊎ IsNobodys lanes a → ((l : ℕ) × IsMine (txn_at (x ∷ lanes) l) a) ⊎ IsNobodys (x ∷ lanes) a
    by true is further = inl (0, is)
    by false is (inl k) = inl (suc k.0, k.1)
    by false is (inr none) = inr off
      where
        off : IsNobodys (x ∷ lanes) a
        off zero m = let e = sym is ∙ m in cc
        off (suc l) m = none l m

-- ---- what a read finds, lane by lane

pub record IsFound (shape : Shape) (log : Log) (h : Words) (lanes : List Txn) (region : Region) : Type 0 where
  pub own : (l a : ℕ) → IsMine (txn_at lanes l) a → HasNo (IsToDelete log a) log → newest (region.at a) ≡ latest (written (txn_at lanes l)) a (h a)
  pub others : (a : ℕ) → IsHeapWord shape a → IsNobodys lanes a → HasNo (IsToDelete log a) log → newest (region.at a) ≡ h a

pub found_of : (shape : Shape) (log : Log) (h : Words) (lanes : List Txn) (region : Region) → AreOwners shape lanes →
    ((a : ℕ) → IsHeapWord shape a → HasNo (IsToDelete log a) log → newest (region.at a) ≡ now_of lanes h a) → IsFound shape log h lanes region
found_of shape log h lanes region owners now = record {
  own = λ l a m none. now a (owners.heap_words l a m) none ∙ now_own lanes h l a (λ j k x y. owners.apart j k a x y) m;
  others = λ a m nobodys none. now a m none ∙ now_nobodys lanes h a nobodys;
}

pub now_found : (shape : Shape) (log : Log) (h : Words) (lanes : List Txn) (region : Region) → AreOwners shape lanes → IsFound shape log h lanes region →
    (a : ℕ) → IsHeapWord shape a → HasNo (IsToDelete log a) log → newest (region.at a) ≡ now_of lanes h a
now_found shape log h lanes region owners found a m none = elim (whose lanes a) [
  | inl k ↦ found.own k.0 a k.1 none ∙ sym (now_own lanes h k.0 a (λ i j x y. owners.apart i j a x y) k.1)
  | inr nobodys ↦ found.others a m nobodys none ∙ sym (now_nobodys lanes h a nobodys)
]

-- ---- owners

pub owners_changed : (shape : Shape) (l : ℕ) (y : Txn) (lanes : List Txn) → l < length lanes → ((a : ℕ) → IsMine y a → IsHeapWord shape a) →
    ((k a : ℕ) → k ≢ l → IsMine y a → IsMine (txn_at lanes k) a → ⊥) → AreOwners shape lanes → AreOwners shape (with_txn l y lanes)
owners_changed shape l y lanes lt inside apart owners = record {
  heap_words = λ k a. by_lane (λ j x. IsMine x a → IsHeapWord shape a) l y lanes lt (inside a) (λ j ne. owners.heap_words j a) k;
  apart = λ j k a. by_lane (λ i x. IsMine x a → IsMine (txn_at (with_txn l y lanes) k) a → i ≡ k) l y lanes lt
      (by_lane (λ i x. IsMine y a → IsMine x a → l ≡ i) l y lanes lt (λ m n. refl) (λ i ne m n. absurd (apart i a ne m n)) k)
      (λ i ne. by_lane (λ n x. IsMine (txn_at lanes i) a → IsMine x a → i ≡ n) l y lanes lt (λ m n. absurd (apart i a ne n m)) (λ n other. owners.apart i n a) k) j;
}

-- it has the same words
pub owners_same : (shape : Shape) (l : ℕ) (y : Txn) (lanes : List Txn) → l < length lanes → y.words ≡ (txn_at lanes l).words → AreOwners shape lanes → AreOwners shape (with_txn l y lanes)
owners_same shape l y lanes lt same owners = owners_changed shape l y lanes lt (λ a m. owners.heap_words l a (back a m)) (λ k a ne m n. ne (owners.apart k l a n (back a m))) owners
  where
    back : (a : ℕ) → IsMine y a → IsMine (txn_at lanes l) a
    back a m = subst (λ (f : ℕ → Bool). f a ≡ true) same m

-- nobody's words stay so
pub nobodys_same : (l : ℕ) (y : Txn) (lanes : List Txn) (a : ℕ) → l < length lanes → y.words ≡ (txn_at lanes l).words → IsNobodys (with_txn l y lanes) a → IsNobodys lanes a
nobodys_same l y lanes a lt same none k m = elim (eqb_tells k l) [
  | inl e ↦ none k (subst (λ j. IsMine (txn_at (with_txn l y lanes) j) a) (sym e.1)
      (subst (λ x. IsMine x a) (sym (with_here l y lanes lt)) (subst (λ (f : ℕ → Bool). f a ≡ true) (sym same) (subst (λ j. IsMine (txn_at lanes j) a) e.1 m))))
  | inr ne ↦ none k (subst (λ x. IsMine x a) (sym (with_other l k y lanes ne.1)) m)
]

-- ---- transactions

-- the same number, or one that no lane has
pub numbers_changed : (l : ℕ) (y : Txn) (lanes : List Txn) → l < length lanes → ((k : ℕ) → k ≢ l → 1 ≤ y.number → y.number ≢ (txn_at lanes k).number) →
    ((j k : ℕ) → 1 ≤ (txn_at lanes j).number → (txn_at lanes j).number ≡ (txn_at lanes k).number → j ≡ k) →
    (j k : ℕ) → 1 ≤ (txn_at (with_txn l y lanes) j).number → (txn_at (with_txn l y lanes) j).number ≡ (txn_at (with_txn l y lanes) k).number → j ≡ k
numbers_changed l y lanes lt differs apart j k =
    by_lane (λ i x. 1 ≤ x.number → x.number ≡ (txn_at (with_txn l y lanes) k).number → i ≡ k) l y lanes lt
    (by_lane (λ i x. 1 ≤ y.number → y.number ≡ x.number → l ≡ i) l y lanes lt (λ one e. refl) (λ i ne one e. absurd (differs i ne one e)) k)
    (λ i ne. by_lane (λ n x. 1 ≤ (txn_at lanes i).number → (txn_at lanes i).number ≡ x.number → i ≡ n) l y lanes lt
    (λ one e. absurd (differs i ne (subst (λ n. 1 ≤ n) e one) (sym e))) (λ n other one e. apart i n one e) k) j

pub numbers_same : (l : ℕ) (y : Txn) (lanes : List Txn) → y.number ≡ (txn_at lanes l).number →
    ((j k : ℕ) → 1 ≤ (txn_at lanes j).number → (txn_at lanes j).number ≡ (txn_at lanes k).number → j ≡ k) → (k : ℕ) → k ≢ l → 1 ≤ y.number → y.number ≢ (txn_at lanes k).number
numbers_same l y lanes same apart k ne one e = ne (sym (apart l k (subst (λ n. 1 ≤ n) same one) (sym same ∙ e)))

-- a record of an earlier transaction of the lane is one of the new one's, with the same number
pub known_same : (l : ℕ) (y : Txn) (lanes : List Txn) (r : Record) → l < length lanes → y.number ≡ (txn_at lanes l).number →
    (k : ℕ) × (1 ≤ (txn_at lanes k).number) × IsOf (txn_at lanes k).number r → (k : ℕ) × (1 ≤ (txn_at (with_txn l y lanes) k).number) × IsOf (txn_at (with_txn l y lanes) k).number r
known_same l y lanes r lt same known = (known.0, of.0, of.1)
  where
    of : (1 ≤ (txn_at (with_txn l y lanes) known.0).number) × IsOf (txn_at (with_txn l y lanes) known.0).number r
    of = by_lane (λ k x. known.0 ≡ k → (1 ≤ x.number) × IsOf x.number r) l y lanes lt
        (λ e. subst (λ n. (1 ≤ n) × IsOf n r) (ap (λ k. (txn_at lanes k).number) e ∙ sym same) (known.1, known.2))
        (λ k ne e. subst (λ j. (1 ≤ (txn_at lanes j).number) × IsOf (txn_at lanes j).number r) e (known.1, known.2)) known.0 refl

-- ---- what is under way

-- nothing of a lane is under way
pub rests_fits : (shape : Shape) (s : State) (h : Words) (p : ℕ) (y : Txn) (u : UnderWay) → (run_of u).part ≡ rests → Fits shape s h p y u
rests_fits shape s h p y nothing is = tt
rests_fits shape s h p y (appends adding made) is = let e : adds adding.place (record_of_adding adding) ≡ rests = is in cc
rests_fits shape s h p y (closes gates ends made) is = let e : shuts gates ends [] ≡ rests = is in cc
rests_fits shape s h p y (takes_back gates made) is = let e : drops_deletions gates ≡ rests = is in cc
rests_fits shape s h p y (drops r made) is = tt

-- other lanes' parts fit as they did
pub parts_changed : (shape : Shape) (s : State) (h : Words) (k : Keeping) (l : ℕ) (y : Txn) (lanes : List Txn) (p : ℕ) (u : UnderWay) → l < length lanes →
    (k.holder p ≡ l → Fits shape s h p y u) → IsPartIn shape s h k lanes p u → IsPartIn shape s h k (with_txn l y lanes) p u
parts_changed shape s h k l y lanes p u lt own part = record {
  run = part.run;
  fits = by_lane (λ j x. k.holder p ≡ j → Fits shape s h p x u) l y lanes lt own (λ j ne e. subst (λ i. Fits shape s h p (txn_at lanes i) u) e part.fits) (k.holder p) refl;
}

pub parts_rest : (shape : Shape) (s : State) (h : Words) (k : Keeping) (l : ℕ) (y : Txn) (lanes : List Txn) (p : ℕ) (u : UnderWay) → l < length lanes → p < shape.partitions →
    IsResting shape k l → IsPartIn shape s h k lanes p u → IsPartIn shape s h k (with_txn l y lanes) p u
parts_rest shape s h k l y lanes p u lt inside resting part =
    parts_changed shape s h k l y lanes p u lt (λ e. rests_fits shape s h p y u (sym (ap (λ (x : Running). x.part) part.run) ∙ resting p inside e)) part
