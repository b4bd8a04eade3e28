-- Sums over the lanes, and what one lane's change does to them; what is owed is no face's.
use Rattle.std.proofs.Common.{◌≡◌, ◌≢◌, ⊎_elim, ℕ, zero, suc, ◌+◌, ◌<◌, ◌≤◌, length, min, refl, sym, ◌∙◌, ap, subst, arith, Option}
use Rattle.std.proofs.lemmas.Bool.Decides.{eqb_tells}
use Rattle.std.proofs.lemmas.List.{length-set}
use Rattle.lane_types.specs.Faces.{Base}
use Rattle.lane_book.specs.declared.lane.Lane.{Lane}
use Rattle.lane_book.specs.declared.book.Book.{Book}
use Rattle.lane_book.specs.Lanes.{owing, with_lane}
use Rattle.lane_book.specs.FacesOf.{lane_at, face_of, faces_of}
use Rattle.lane_book.specs.Books.{IsLane, IsBook}
use Rattle.lane_book.specs.Reserved.{reserved_in}
use Rattle.lane_book.specs.Owed.{sum_below, sum_of}
use Rattle.lane_book.proofs.Faces.{lane_at-same, lane_at-other}
use Rattle.lane_book.proofs.Keeps.{keeps_lane}
use Rattle.lane_book.proofs.Reserving.{ne_of_less, less_of_ne, sums_meet, sums_pass, reserved_more}

pub saturated_one : (most a s n t : ℕ) → s ≡ min a most → t ≡ min (s + n) most → t ≡ min (a + n) most
saturated_one most a s n t e f = omega (arith, e, f)

-- ---- one lane is another

module _ {E : Type 0} (f : Lane E → ℕ) (book : Book E) (l : ℕ) (lane : Lane E) (touched : Option ℕ) (lt : l < length book.lanes.items) where
  abbrev later : Book E
  later = with_lane book l lane touched

  -- the sum over the lanes below it stays
  pub sum_before : (m : ℕ) → m ≤ l → sum_below f later m ≡ sum_below f book m
  sum_before zero le = refl
  sum_before (suc m) le = λ i. sum_before m (omega (arith, le)) i + f (lane_at-other book l m lane touched (ne_of_less m l (omega (arith, le))) i)

  -- with those above it the sum changes as its own number does
  pub sum_behind : (m : ℕ) → l < m → sum_below f later m + f (lane_at book l) ≡ sum_below f book m + f lane
  sum_behind zero less = absurd (omega (arith, less))
  sum_behind (suc m) less = ⊎_elim (λ same. here same.1) (λ ne. there ne.1 (sum_behind m (less_of_ne m l less ne.1))) (eqb_tells m l)
    where
      swapped : (a b : ℕ) → a + b ≡ b + a
      swapped a b = omega arith

      here : m ≡ l → sum_below f later (suc m) + f (lane_at book l) ≡ sum_below f book (suc m) + f lane
      here same = sums_meet _ _ (f (lane_at later m)) (f (lane_at book m)) (f (lane_at book l)) (f lane)
          (sum_before m (omega (arith, same)))
          (subst (λ (n : ℕ). f (lane_at later n) + f (lane_at book l) ≡ f (lane_at book n) + f lane) (sym same)
          (ap (λ (k : Lane _). f k + f (lane_at book l)) (lane_at-same book l lane touched lt) ∙ swapped (f lane) (f (lane_at book l))))

      there : m ≢ l → sum_below f later m + f (lane_at book l) ≡ sum_below f book m + f lane →
          sum_below f later (suc m) + f (lane_at book l) ≡ sum_below f book (suc m) + f lane
      there ne below = sums_pass _ _ (f (lane_at later m)) (f (lane_at book m)) (f (lane_at book l)) (f lane) below
          (ap f (lane_at-other book l m lane touched ne))

  -- beside the lane's own number the sum stays
  pub sum_with : sum_of f later + f (lane_at book l) ≡ sum_of f book + f lane
  sum_with = ap (λ (n : ℕ). sum_below f later n + f (lane_at book l)) (length-set book.lanes.items l lane) ∙ sum_behind (length book.lanes.items) lt

-- ---- a lane owes otherwise

owing_lane : {E : Type 0} (n events records : ℕ) (lane : Lane E) → IsLane n lane → IsLane n (owing events records lane)
owing_lane n events records lane is = record { behind = is.behind; points = is.points; rising = is.rising; about = is.about; cells = is.cells; out = is.out; calling = is.calling }

module _ {E : Type 0} (book real : Book E) (l events records : ℕ) (lt : l < length book.lanes.items)
    (is : real ≡ with_lane book l (owing events records (lane_at book l)) book.touched) where
  pub owing_keeps : IsBook book → IsBook real
  owing_keeps kept = keeps_lane book real l (owing events records (lane_at book l)) book.touched lt is kept
      (owing_lane (length book.history.items) events records (lane_at book l))

  abbrev later_book : Book E
  later_book = with_lane book l (owing events records (lane_at book l)) book.touched

  pub owing_faces : (base : Base) (k : ℕ) → faces_of base real k ≡ faces_of base book k
  owing_faces base k = ap (λ (b : Book _). faces_of base b k) is ∙ ⊎_elim (λ same. here same.1) (λ ne. there ne.1) (eqb_tells k l)
    where
      here : k ≡ l → faces_of base later_book k ≡ faces_of base book k
      here same = subst (λ (n : ℕ). faces_of base later_book n ≡ faces_of base book n) (sym same)
          (ap (face_of base book.history.items l) (lane_at-same book l (owing events records (lane_at book l)) book.touched lt))

      there : k ≢ l → faces_of base later_book k ≡ faces_of base book k
      there ne = ap (face_of base book.history.items k) (lane_at-other book l k (owing events records (lane_at book l)) book.touched ne)

  pub owing_reserves : (partitions kept p : ℕ) → reserved_in real partitions kept p ≡ reserved_in book partitions kept p
  owing_reserves partitions kept p = ap (λ (b : Book _). reserved_in b partitions kept p) is ∙
      no_more _ _ (reserved_more book l (owing events records (lane_at book l)) book.touched lt partitions p kept 0 0 refl)
    where
      no_more : (a b : ℕ) → a + 0 ≡ b + 0 → a ≡ b
      no_more a b e = omega (arith, e)
