-- The row of a begin.
use Rattle.std.proofs.Common.{◌≡◌, ℕ, ◌+◌, ◌<◌, List, [], ◌∷◌, length, take, refl, sym, ap, subst, Option, Some, None}
use Rattle.std.specs.List.{filter}
use Rattle.lane_types.specs.declared.call.Phase.TheVariants.{Calling}
use Rattle.lane_types.specs.declared.call.Reply.TheVariants.{Begun}
use Rattle.std.specs.Prelude.{IfSome}
use Rattle.lane_types.specs.declared.call.Stepped.{Stepped}
use Rattle.lane_types.specs.declared.call.Stepped.TheVariants.{Answered, Waiting}
use Rattle.lane_book.specs.Locks.{IsLeastHeld, AreLoose, BeginEnds}
use Rattle.lane_types.specs.declared.call.What.TheVariants.{Structure}
use Rattle.lane_types.specs.declared.face.Entry.{Entry}
use Rattle.lane_types.specs.Deeds.{Deeds}
use Rattle.lane_types.specs.Heaps.{holding_of}
use Rattle.lane_types.specs.Histories.{fold}
use Rattle.lane_types.specs.LaneSteps.{begun_face}
use Rattle.lane_book.specs.declared.lane.Lane.{Lane}
use Rattle.lane_book.specs.declared.lane.Doing.{Doing}
use Rattle.lane_book.specs.declared.book.Book.{Book}
use Rattle.lane_book.specs.Lanes.{noted, begun_lane, with_lane}
use Rattle.lane_book.specs.FacesOf.{lane_at, face_of, face_over, call_of, is_of}
use Rattle.lane_book.specs.Steps.{StepsIf, IsCleared, IsLawfulFrom}
use Rattle.lane_book.proofs.Faces.{step_of_lane}

take_all : {X : Type 0} (xs : List X) → take (length xs) xs ≡ xs
take_all [] = refl
take_all (x ∷ xs) = ap (λ (ys : List _). x ∷ ys) (take_all xs)

-- the lane with its lists written out
abbrev bare : {E : Type 0} → ℕ → Lane E → Lane E
bare set lane = record lane {
  writes = record lane.writes { items = [] };
  gives = record lane.gives { items = [] };
  points = record lane.points { items = [] };
  stored = 0;
  doing = Doing.Begin set;
}

bare_is : {E : Type 0} (lane : Lane E) (set : ℕ) → IsCleared lane → lane.doing ≡ Doing.Begin set → lane ≡ bare set lane
bare_is lane set cleared doing = λ i. record lane {
  writes = record lane.writes { items = cleared.writes i };
  gives = record lane.gives { items = cleared.gives i };
  points = record lane.points { items = cleared.points i };
  stored = cleared.stored i;
  doing = doing i;
}

pub begin_row : {E : Type 0} (deeds : Deeds E) (book : Book E) (l n set : ℕ) → l < length book.lanes.items → (lane_at book l).phase ≡ Calling →
    (lane_at book l).doing ≡ Doing.Begin set → IsCleared (lane_at book l) →
    StepsIf (IsLawfulFrom deeds book.history.items) deeds book
    (record (with_lane book l (begun_lane n set (length book.history.items) (lane_at book l)) None) { next_transaction = n + 1 }) l (Answered (Begun n))
begin_row deeds book l n set lt calling doing cleared base from =
    step_of_lane deeds base book l (begun_lane n set (length book.history.items) (lane_at book l)) None (Answered (Begun n)) lt record {
      calling = calling;
      row = record {
        set = set;
        call = ap (λ (d : Doing). call_of (filter (is_of l) book.history.items) (lane_at book l).entry (lane_at book l).writes.items d) doing;
        history = book.history.items;
        lawful = from.lawful;
        sorts = from.sorts;
        next = subst (λ (x : Lane _). face_of base book.history.items l (begun_lane n set (length book.history.items) x) ≡
            begun_face n set (holding_of set (fold base.heap book.history.items)) (face_of base book.history.items l x))
            (sym (bare_is (lane_at book l) set cleared doing)) (row (lane_at book l));
      };
    }
  where
    row : (lane : Lane _) → face_of base book.history.items l (begun_lane n set (length book.history.items) (bare set lane)) ≡
        begun_face n set (holding_of set (fold base.heap book.history.items)) (face_of base book.history.items l (bare set lane))
    row lane = ap (λ (entries : List (Entry _)). face_over base (fold base.heap entries) (filter (is_of l) book.history.items) l
        (begun_lane n set (length book.history.items) (bare set lane))) (take_all book.history.items)

-- ---- the ends of a begin

pub begin_waits : {E : Type 0} (book later : Book E) (l set s holder : ℕ) (r : Stepped) → r ≡ Waiting (Structure s) holder → IsLeastHeld book set s holder →
    later ≡ with_lane book l (noted (Waiting (Structure s) holder) (lane_at book l)) None → BeginEnds book later l set r
begin_waits book later l set s holder r is least next =
    subst (λ (x : Stepped). BeginEnds book later l set x) (sym is) (BeginEnds.waits s holder least next)

pub begin_takes : {E : Type 0} (book later : Book E) (l set : ℕ) (r : Stepped) → r ≡ Answered (Begun book.next_transaction) → AreLoose book set →
    later ≡ record (with_lane book l (begun_lane book.next_transaction set (length book.history.items) (lane_at book l)) None) {
      next_transaction = book.next_transaction + 1;
    } → BeginEnds book later l set r
begin_takes book later l set r is loose next = subst (λ (x : Stepped). BeginEnds book later l set x) (sym is) (BeginEnds.takes loose next)

pub begin_step : {E : Type 0} (deeds : Deeds E) (book later : Book E) (l set : ℕ) (r : Stepped) → l < length book.lanes.items → (lane_at book l).phase ≡ Calling →
    (lane_at book l).doing ≡ Doing.Begin set → IsCleared (lane_at book l) → r ≡ Answered (Begun book.next_transaction) →
    later ≡ record (with_lane book l (begun_lane book.next_transaction set (length book.history.items) (lane_at book l)) None) {
      next_transaction = book.next_transaction + 1;
    } → StepsIf (IsLawfulFrom deeds book.history.items) deeds book later l r
begin_step deeds book later l set r lt calling doing cleared is next =
    subst (λ (x : Stepped). StepsIf (IsLawfulFrom deeds book.history.items) deeds book later l x) (sym is)
    (subst (λ (b : Book _). StepsIf (IsLawfulFrom deeds book.history.items) deeds book b l (Answered (Begun book.next_transaction))) (sym next)
    (begin_row deeds book l book.next_transaction set lt calling doing cleared))

pub of_some : {A : Type 0} (P : A → Type 0) (o : Option A) (x : A) → o ≡ Some x → IfSome o P → P x
of_some P o x is h = subst (λ (p : Option _). IfSome p P) is h
