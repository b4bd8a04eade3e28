-- Reserved cells: sums that stand still at the greatest number, and what one lane's change does to them.
use Rattle.std.proofs.Common.{◌≡◌, ◌≢◌, ⊎_elim, ◌==◌, ℕ, zero, suc, ◌+◌, ◌%◌, ◌<◌, ◌≤◌, Bool, true, false, if◌then◌else◌, length, min, refl, sym, ◌∙◌, ap, subst, arith, Option}
use Rattle.std.proofs.lemmas.Bool.Decides.{eqb_tells}
use Rattle.std.proofs.lemmas.List.{length-set}
use Rattle.lane_types.specs.declared.call.Call.{Call}
use Rattle.lane_book.specs.declared.lane.Lane.{Lane}
use Rattle.lane_book.specs.declared.book.Book.{Book}
use Rattle.lane_book.specs.Lanes.{with_lane}
use Rattle.lane_book.specs.FacesOf.{lane_at}
use Rattle.lane_book.specs.Reserved.{reserved_by, share_of, reserved_below, reserved_in, kept_in, needed_by, added_by}
use Rattle.lane_book.specs.Appends.{Falls, ReservesNeed}
use Rattle.lane_book.proofs.Faces.{lane_at-same, lane_at-other}

pub saturated_both : (most a b s n t : ℕ) → s ≡ min a most → n ≡ min b most → t ≡ min (s + n) most → t ≡ min (a + b) most
saturated_both most a b s n t e f g = omega (arith, e, f, g)

-- ---- one lane is another

pub ne_of_less : (m l : ℕ) → m < l → m ≢ l
ne_of_less m l lt e = omega (arith, lt, e)

pub less_of_ne : (m l : ℕ) → l < suc m → m ≢ l → l < m
less_of_ne zero zero lt ne = absurd (ne refl)
less_of_ne zero (suc l) lt ne = absurd (omega (arith, lt))
less_of_ne (suc m) zero lt ne = omega arith
less_of_ne (suc m) (suc l) lt ne = let below = less_of_ne m l (omega (arith, lt)) (λ e. ne (ap (λ (n : ℕ). suc n) e)) in omega (arith, below)

pub sums_meet : (a b s t x y : ℕ) → a ≡ b → s + x ≡ t + y → (a + s) + x ≡ (b + t) + y
sums_meet a b s t x y e f = omega (arith, e, f)

pub sums_pass : (a b s t x y : ℕ) → a + x ≡ b + y → s ≡ t → (a + s) + x ≡ (b + t) + y
sums_pass a b s t x y e f = omega (arith, e, f)

module _ {E : Type 0} (book : Book E) (l : ℕ) (lane : Lane E) (touched : Option ℕ) (lt : l < length book.lanes.items) (partitions p : ℕ) where
  abbrev later : Book E
  later = with_lane book l lane touched

  -- the lanes below it reserve as before
  below_less : (m : ℕ) → m ≤ l → reserved_below later partitions p m ≡ reserved_below book partitions p m
  below_less zero le = refl
  below_less (suc m) le = λ i. below_less m (omega (arith, le)) i + share_of partitions p m (lane_at-other book l m lane touched (ne_of_less m l (omega (arith, le))) i)

  -- with those above it the sum changes as its own share does
  pub below_more : (m x y : ℕ) → l < m → share_of partitions p l lane + x ≡ share_of partitions p l (lane_at book l) + y →
      reserved_below later partitions p m + x ≡ reserved_below book partitions p m + y
  below_more zero x y less share = absurd (omega (arith, less))
  below_more (suc m) x y less share = ⊎_elim (λ same. here same.1) (λ ne. there ne.1 (below_more m x y (less_of_ne m l less ne.1) share)) (eqb_tells m l)
    where
      here : m ≡ l → reserved_below later partitions p (suc m) + x ≡ reserved_below book partitions p (suc m) + y
      here same = sums_meet _ _ (share_of partitions p m (lane_at later m)) (share_of partitions p m (lane_at book m)) x y
          (below_less m (omega (arith, same)))
          (subst (λ (n : ℕ). share_of partitions p n (lane_at later n) + x ≡ share_of partitions p n (lane_at book n) + y) (sym same)
          (ap (λ (k : Lane _). share_of partitions p l k + x) (lane_at-same book l lane touched lt) ∙ share))

      there : m ≢ l → reserved_below later partitions p m + x ≡ reserved_below book partitions p m + y →
          reserved_below later partitions p (suc m) + x ≡ reserved_below book partitions p (suc m) + y
      there ne below = sums_pass _ _ (share_of partitions p m (lane_at later m)) (share_of partitions p m (lane_at book m)) x y below
          (ap (share_of partitions p m) (lane_at-other book l m lane touched ne))

  long : length later.lanes.items ≡ length book.lanes.items
  long = length-set book.lanes.items l lane

  pub reserved_more : (kept x y : ℕ) → share_of partitions p l lane + x ≡ share_of partitions p l (lane_at book l) + y →
      reserved_in later partitions kept p + x ≡ reserved_in book partitions kept p + y
  reserved_more kept x y share = add_kept _ _ x y (kept_in kept p)
      (ap (λ (n : ℕ). reserved_below later partitions p n + x) long ∙ below_more (length book.lanes.items) x y lt share)
    where
      add_kept : (a b x y k : ℕ) → a + x ≡ b + y → (a + k) + x ≡ (b + k) + y
      add_kept a b x y k e = omega (arith, e)

-- ---- cells are let go

pub falls : {E : Type 0} (book real : Book E) (l : ℕ) (lane : Lane E) (touched : Option ℕ) (n : ℕ) → l < length book.lanes.items →
    real ≡ with_lane book l lane touched → reserved_by lane + n ≡ reserved_by (lane_at book l) → Falls n book real l
falls book real l lane touched n lt is less partitions kept p =
    ap (λ (b : Book _). reserved_in b partitions kept p + (if (l % partitions) == p then n else 0)) is ∙
    reserved_more book l lane touched lt partitions p kept (if (l % partitions) == p then n else 0) 0
    (by_test ((l % partitions) == p) (reserved_by lane) (reserved_by (lane_at book l)) less) ∙
    plus_none (reserved_in book partitions kept p)
  where
    by_test : (t : Bool) (a b : ℕ) → a + n ≡ b → (if t then a else 0) + (if t then n else 0) ≡ (if t then b else 0) + 0
    by_test true a b e = omega (arith, e)
    by_test false a b e = refl

    plus_none : (a : ℕ) → a + 0 ≡ a
    plus_none a = omega arith

-- ---- cells are promised

pub reserves : {E : Type 0} (k : ℕ) (call : Call E) (book real : Book E) (l : ℕ) (lane : Lane E) (touched : Option ℕ) → l < length book.lanes.items →
    real ≡ with_lane book l lane touched → reserved_by lane ≡ reserved_by (lane_at book l) + added_by k (lane_at book l) call → ReservesNeed k call book real l
reserves k call book real l lane touched lt is more partitions kept p =
    ap (λ (b : Book _). reserved_in b partitions kept p) is ∙
    ⊎_elim (λ same. here same.0 same.1) (λ ne. there ne.0) (eqb_tells (l % partitions) p)
  where
    plus_none : (a : ℕ) → a ≡ a + 0
    plus_none a = omega arith

    by_test : (t : Bool) (a b n : ℕ) → a ≡ b + n → (if t then a else 0) + 0 ≡ (if t then b else 0) + (if t then n else 0)
    by_test true a b n e = omega (arith, e)
    by_test false a b n e = refl

    shifted : reserved_in (with_lane book l lane touched) partitions kept p + 0 ≡ reserved_in book partitions kept p + (if (l % partitions) == p then added_by k (lane_at book l) call else 0)
    shifted = reserved_more book l lane touched lt partitions p kept 0 (if (l % partitions) == p then added_by k (lane_at book l) call else 0)
        (by_test ((l % partitions) == p) (reserved_by lane) (reserved_by (lane_at book l)) (added_by k (lane_at book l) call) more)

    here : ((l % partitions) == p) ≡ true → (l % partitions) ≡ p → reserved_in (with_lane book l lane touched) partitions kept p ≡ (if (l % partitions) == p then needed_by k book partitions kept l call else reserved_in book partitions kept p)
    here on same =
        plus_none _ ∙ shifted ∙
        ap (λ (t : Bool). reserved_in book partitions kept p + (if t then added_by k (lane_at book l) call else 0)) on ∙
        ap (λ (q : ℕ). reserved_in book partitions kept q + added_by k (lane_at book l) call) (sym same) ∙
        sym (ap (λ (t : Bool). if t then needed_by k book partitions kept l call else reserved_in book partitions kept p) on)

    there : ((l % partitions) == p) ≡ false → reserved_in (with_lane book l lane touched) partitions kept p ≡ (if (l % partitions) == p then needed_by k book partitions kept l call else reserved_in book partitions kept p)
    there off =
        plus_none _ ∙ shifted ∙
        ap (λ (t : Bool). reserved_in book partitions kept p + (if t then added_by k (lane_at book l) call else 0)) off ∙
        sym (plus_none _) ∙
        sym (ap (λ (t : Bool). if t then needed_by k book partitions kept l call else reserved_in book partitions kept p) off)
