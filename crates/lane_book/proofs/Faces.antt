-- Which changes of the book the faces see.
use Rattle.std.proofs.Common.{◌≡◌, ◌≢◌, ◌==◌, ℕ, zero, suc, ◌-◌, ◌<◌, ◌≤◌, ◌^◌, Bool, true, false, not, ◌&&◌, nat_lt, if◌then◌else◌, List, [], ◌∷◌, ◌++◌, length, take, get_or, refl, sym, ◌∙◌, ap, subst, arith, Option, Some, None}
use Rattle.std.specs.List.{filter}
use Rattle.std.proofs.lemmas.List.{get_or-set_same, get_or-set_other, get_or_default}
use Rattle.std.proofs.Math.Nat.{zero-div}
use Rattle.lane_types.specs.declared.call.Stepped.{Stepped}
use Rattle.lane_types.specs.Deeds.{Deeds}
use Rattle.lane_types.specs.Heaps.{Heap, has_bit, is_data, block_of, is_owned, holding, nothing_held}
use Rattle.lane_types.specs.Faces.{Base}
use Rattle.lane_types.specs.LaneSteps.{LaneStep}
use Rattle.lane_book.specs.declared.lane.Lane.{Lane}
use Rattle.lane_book.specs.declared.lane.Doing.{Doing}
use Rattle.lane_book.specs.declared.book.Book.{Book}
use Rattle.lane_book.specs.Lanes.{with_lane}
use Rattle.lane_book.specs.FacesOf.{lane_at, idle_lane, face_of, faces_of}
use Rattle.lane_book.specs.Steps.{IsStep}

-- ---- one lane is changed

pub lane_at-same : {E : Type 0} (book : Book E) (l : ℕ) (lane : Lane E) (touched : Option ℕ) → l < length book.lanes.items →
    lane_at (with_lane book l lane touched) l ≡ lane
lane_at-same book l lane touched lt = get_or-set_same book.lanes.items l lane idle_lane lt

pub lane_at-other : {E : Type 0} (book : Book E) (l k : ℕ) (lane : Lane E) (touched : Option ℕ) → k ≢ l →
    lane_at (with_lane book l lane touched) k ≡ lane_at book k
lane_at-other book l k lane touched ne = get_or-set_other book.lanes.items l k lane idle_lane ne

-- the lane that code reads
pub lane_read : {E : Type 0} (book : Book E) (l : ℕ) (lane : Lane E) → l < length book.lanes.items →
    lane ≡ get_or book.lanes.items l lane → lane ≡ lane_at book l
lane_read book l lane lt is = is ∙ get_or_default book.lanes.items l lane idle_lane lt

-- only one lane is changed
pub step_of_lane : {E : Type 0} (deeds : Deeds E) (base : Base) (book : Book E) (l : ℕ) (lane : Lane E) (touched : Option ℕ) (answer : Stepped) →
    l < length book.lanes.items →
    LaneStep deeds answer (face_of base book.history.items l (lane_at book l)) (face_of base book.history.items l lane) →
    IsStep deeds (faces_of base book) (faces_of base (with_lane book l lane touched)) l answer
step_of_lane deeds base book l lane touched answer lt step = record {
  others = λ k ne. ap (face_of base book.history.items k) (lane_at-other book l k lane touched ne);
  step = subst (λ (x : Lane _). LaneStep deeds answer (face_of base book.history.items l (lane_at book l)) (face_of base book.history.items l x))
      (sym (lane_at-same book l lane touched lt)) step;
}

-- the lane with what it is about written out
pub doing_is : {E : Type 0} (lane : Lane E) (d : Doing) → lane.doing ≡ d → lane ≡ record lane { doing = d }
doing_is lane d e = ap (λ (x : Doing). record lane { doing = x }) e

-- ---- the history grows

pub take_before : {X : Type 0} (n : ℕ) (xs ys : List X) → n ≤ length xs → take n (xs ++ ys) ≡ take n xs
take_before zero xs ys le = refl
take_before (suc n) [] ys le = absurd (omega arith)
take_before (suc n) (x ∷ xs) ys le = ap (λ (zs : List _). x ∷ zs) (take_before n xs ys (omega arith))

pub filter_last : {X : Type 0} (p : X → Bool) (xs : List X) (x : X) → filter p (xs ++ x ∷ []) ≡ (if p x then filter p xs ++ x ∷ [] else filter p xs)
filter_last p [] x = elim (p x) as (λ b. (if b then x ∷ [] else []) ≡ (if b then x ∷ [] else [])) [ true ↦ refl | false ↦ refl ]
filter_last p (y ∷ ys) x = by_head (p y) (p x) y (filter p ys) (filter p (ys ++ x ∷ [])) (filter_last p ys x)
  where
    by_head : (b c : Bool) (y : _) (zs ws : List _) → ws ≡ (if c then zs ++ x ∷ [] else zs) →
        (if b then y ∷ ws else ws) ≡ (if c then (if b then y ∷ zs else zs) ++ x ∷ [] else (if b then y ∷ zs else zs))
    by_head true true y zs ws e = ap (λ (vs : List _). y ∷ vs) e
    by_head true false y zs ws e = ap (λ (vs : List _). y ∷ vs) e
    by_head false true y zs ws e = e
    by_head false false y zs ws e = e

-- ---- nothing is held

no_bit : (s : ℕ) → has_bit 0 s ≡ false
no_bit s = rw (zero-div (2 ^ s)) refl

and_false : (b : Bool) → (b && false) ≡ false
and_false true = refl
and_false false = refl

not_owned : (heap : Heap) (owners : ℕ → ℕ) (block : ℕ) → is_owned 0 heap owners block ≡ false
not_owned heap owners block =
    ap (λ (t : Bool). nat_lt block heap.blocks && (not (owners block == 0) && t)) (no_bit (owners block - 1)) ∙
    ap (λ (t : Bool). nat_lt block heap.blocks && t) (and_false (not (owners block == 0))) ∙
    and_false (nat_lt block heap.blocks)

pub nothing_is_held : (heap : Heap) (owners values : ℕ → ℕ) → holding 0 heap owners values [] ≡ nothing_held
nothing_is_held heap owners values = λ i. record {
  word = λ a. word_at a i;
  owner = λ block. owner_at block i;
  given = λ block. false;
}
  where
    word_at : (a : ℕ) → (holding 0 heap owners values []).word a ≡ None
    word_at a =
        ap (λ (t : Bool). if is_data heap a && t then Some (values a) else None) (not_owned heap owners (block_of heap a)) ∙
        ap (λ (t : Bool). if t then Some (values a) else None) (and_false (is_data heap a))

    owner_at : (block : ℕ) → (holding 0 heap owners values []).owner block ≡ None
    owner_at block = ap (λ (t : Bool). if t then Some (owners block - 1) else None) (not_owned heap owners block)
