-- The row of a way back to a savepoint.
use Rattle.std.proofs.Common.{◌≡◌, ℕ, zero, suc, ◌+◌, ◌<◌, ◌≤◌, List, [], ◌∷◌, ◌++◌, length, take, drop, map, refl, sym, ◌∙◌, ap, subst, arith, None, get_or, ◌-◌}
use Rattle.std.proofs.Math.Seq.{drop-cons}
use Rattle.std.proofs.lemmas.List.{take_more, get_or-take}
use Rattle.std.specs.List.{filter}
use Rattle.lane_traits.specs.declared.draft.WordWrite.{WordWrite}
use Rattle.lane_types.specs.declared.call.Phase.TheVariants.{Calling}
use Rattle.lane_types.specs.declared.call.Reply.TheVariants.{RolledBack}
use Rattle.lane_types.specs.declared.call.Stepped.TheVariants.{Answered}
use Rattle.lane_types.specs.Deeds.{Deeds}
use Rattle.lane_types.specs.Heaps.{Heap}
use Rattle.lane_types.specs.LaneSteps.{LaneStep, rolled_back_face}
use Rattle.lane_book.specs.declared.lane.Lane.{Lane}
use Rattle.lane_book.specs.declared.lane.Point.{Point}
use Rattle.lane_book.specs.declared.lane.Doing.{Doing}
use Rattle.lane_book.specs.declared.book.Book.{Book}
use Rattle.lane_book.specs.Lanes.{point_at, no_point, rolled_back, with_lane}
use Rattle.lane_book.specs.FacesOf.{waiting_writes, waiting_gives, standing_writes, standing_gives, lane_at, face_of, call_of, front, held_after, words_of, point_of, begun_heap, is_of}
use Rattle.lane_book.specs.Steps.{Steps, AreWithin, CanGoBack}
use Rattle.lane_book.specs.Books.{AreRising, ends, IsLane}
use Rattle.lane_book.proofs.Faces.{step_of_lane}
use Rattle.lane_book.proofs.WordRows.{words_are}
use Rattle.lane_book.proofs.BatchRows.{take_and_drop, take_most}
use Rattle.lane_book.proofs.Keeps.{front_whole, within_last, take_short}

take_less : {X : Type 0} (q p : ℕ) (xs : List X) → q ≤ p → take q (take p xs) ≡ take q xs
take_less zero p xs le = refl
take_less (suc q) zero xs le = absurd (omega arith)
take_less (suc q) (suc p) [] le = refl
take_less (suc q) (suc p) (x ∷ xs) le = ap (λ (ys : List _). x ∷ ys) (take_less q p xs (omega arith))

take_long : {X : Type 0} (m : ℕ) (xs : List X) → m ≤ length xs → length (take m xs) ≡ m
take_long zero xs le = refl
take_long (suc m) [] le = absurd (omega arith)
take_long (suc m) (x ∷ xs) le = ap (λ (n : ℕ). suc n) (take_long m xs (omega arith))

map_both : {X Y : Type 0} (f : X → Y) (xs ys : List X) → map f (xs ++ ys) ≡ map f xs ++ map f ys
map_both f [] ys = refl
map_both f (x ∷ xs) ys = ap (λ (zs : List _). f x ∷ zs) (map_both f xs ys)

-- savepoints that are within what stays are of the same words
points_back : (set : ℕ) (begun : Heap) (writes : List WordWrite) (gives : List ℕ) (w g : ℕ) (points : List Point) → AreWithin w g points →
    map (λ (q : Point). held_after set begun (take q.writes (take w writes)) (take q.gives (take g gives)) (take q.writes (take w writes))) points ≡
    map (λ (q : Point). held_after set begun (take q.writes writes) (take q.gives gives) (take q.writes writes)) points
points_back set begun writes gives w g [] within = refl
points_back set begun writes gives w g (q ∷ points) within =
    let ws = take_less q.writes w writes within.0 in
    let gs = take_less q.gives g gives within.1 in
    λ i. held_after set begun (ws i) (gs i) (ws i) ∷ points_back set begun writes gives w g points within.2 i

-- the savepoints up to this one
up_to : {E : Type 0} (n : ℕ) (lane : Lane E) → CanGoBack n lane → take (n + 1) lane.points.items ≡ take n lane.points.items ++ point_at n lane ∷ []
up_to n lane can = take_more lane.points.items n no_point can.inside

within_up_to : {E : Type 0} (n : ℕ) (lane : Lane E) → CanGoBack n lane →
    AreWithin (point_at n lane).writes (point_at n lane).gives (take (n + 1) lane.points.items)
within_up_to n lane can = subst (AreWithin (point_at n lane).writes (point_at n lane).gives) (sym (up_to n lane can))
    (within_last (point_at n lane).writes (point_at n lane).gives (take n lane.points.items) (point_at n lane) can.below (omega arith) (omega arith))

module _ {E : Type 0} (begun : Heap) (n : ℕ) (lane : Lane E) (can : CanGoBack n lane) where
  words_back : words_of begun (rolled_back n lane) ≡ point_of begun lane (point_at n lane)
  words_back = words_are begun (rolled_back n lane) (take (point_at n lane).writes lane.writes.items) (take (point_at n lane).writes lane.writes.items)
      (take (point_at n lane).gives lane.gives.items)
      (front_whole (take (point_at n lane).writes lane.writes.items))
      (ap (λ (m : ℕ). take m (take (point_at n lane).writes lane.writes.items)) can.stored ∙
      take_less (point_at n lane).writes (point_at n lane).writes lane.writes.items (omega arith))
      (front_whole (take (point_at n lane).gives lane.gives.items))

  points_there : map (point_of begun (rolled_back n lane)) (take (n + 1) lane.points.items) ≡
      map (point_of begun lane) (take n lane.points.items) ++ point_of begun lane (point_at n lane) ∷ []
  points_there =
      points_back lane.held begun lane.writes.items lane.gives.items (point_at n lane).writes (point_at n lane).gives (take (n + 1) lane.points.items)
      (within_up_to n lane can) ∙
      ap (map (point_of begun lane)) (up_to n lane can) ∙
      map_both (point_of begun lane) (take n lane.points.items) (point_at n lane ∷ [])

  points_before : map (point_of begun lane) lane.points.items ≡
      map (point_of begun lane) (take n lane.points.items) ++ (point_of begun lane (point_at n lane) ∷ map (point_of begun lane) (drop (suc n) lane.points.items))
  points_before =
      ap (map (point_of begun lane)) (take_and_drop n lane.points.items ∙
      ap (λ (ps : List Point). take n lane.points.items ++ ps) (drop-cons lane.points.items n no_point can.inside)) ∙
      map_both (point_of begun lane) (take n lane.points.items) (point_at n lane ∷ drop (suc n) lane.points.items)

pub back_row : {E : Type 0} (deeds : Deeds E) (book : Book E) (l n : ℕ) → l < length book.lanes.items →
    (lane_at book l).phase ≡ Calling → (lane_at book l).doing ≡ Doing.RollbackTo n → CanGoBack n (lane_at book l) →
    Steps deeds book (with_lane book l (rolled_back n (lane_at book l)) None) l (Answered RolledBack)
back_row deeds book l n lt calling doing can base =
    step_of_lane deeds base book l (rolled_back n (lane_at book l)) None (Answered RolledBack) lt (row (lane_at book l) calling doing can)
  where
    row : (lane : Lane _) → lane.phase ≡ Calling → lane.doing ≡ Doing.RollbackTo n → CanGoBack n lane →
        LaneStep deeds (Answered RolledBack) (face_of base book.history.items l lane) (face_of base book.history.items l (rolled_back n lane))
    row lane calling doing can =
        let begun = begun_heap base book.history.items lane in
        let here = point_of begun lane (point_at n lane) in
        let below = map (point_of begun lane) (take n lane.points.items) in
        let inside = can.inside in
        record {
          calling = calling;
          row = record {
            point = n;
            below = below;
            here = here;
            above = map (point_of begun lane) (drop (suc n) lane.points.items);
            call = ap (λ (d : Doing). call_of (filter (is_of l) book.history.items) lane.entry lane.writes.items d) doing;
            points = points_before begun n lane can;
            next = λ i. record (rolled_back_face n here (below ++ here ∷ []) (face_of base book.history.items l lane)) {
              face = record (rolled_back_face n here (below ++ here ∷ []) (face_of base book.history.items l lane)).face {
                live = take_long (n + 1) lane.points.items (omega (arith, inside)) i;
              };
              words = words_back begun n lane can i;
              points = points_there begun n lane can i;
            };
          };
        }

-- ---- what it keeps

-- some of the savepoints rise as all do
rise_less : (m : ℕ) (points : List Point) → AreRising points → AreRising (take m points)
rise_less m points rising n lt =
    let some = take_most m points in
    let short = take_short m points in
    let within = rising n (omega (arith, lt, short)) in
    subst (λ (ps : List Point). AreWithin (get_or (take m points) n no_point).writes (get_or (take m points) n no_point).gives ps)
    (sym (take_less n m points (omega (arith, lt, some))))
    (subst (λ (q : Point). AreWithin q.writes q.gives (take n points)) (sym (get_or-take m points n no_point (omega (arith, lt, some)))) within)

within_at : (w g : ℕ) (points : List Point) (n : ℕ) → AreWithin w g points → n < length points → ((get_or points n no_point).writes ≤ w) × ((get_or points n no_point).gives ≤ g)
within_at w g [] n within lt = absurd (omega (arith, lt))
within_at w g (p ∷ points) zero within lt = (within.0, within.1)
within_at w g (p ∷ points) (suc n) within lt = within_at w g points n within.2 (omega (arith, lt))

-- the savepoint is there, and just its writes are stored
pub can_back : {E : Type 0} (m n : ℕ) (lane : Lane E) → n < length lane.points.items → lane.stored ≡ (point_at n lane).writes → IsLane m lane → CanGoBack n lane
can_back m n lane inside stored is =
    let within = within_at (length (standing_writes lane)) (length (standing_gives lane)) lane.points.items n is.points inside in
    let writes = within.0 in
    let gives = within.1 in
    let some = take_short (length lane.writes.items - waiting_writes lane.doing) lane.writes.items in
    let given = take_short (length lane.gives.items - waiting_gives lane.doing) lane.gives.items in
    record { inside = inside; below = is.rising n inside; writes = omega (arith, writes, some); gives = omega (arith, gives, given); stored = stored }

pub back_keeps : {E : Type 0} (m n : ℕ) (lane : Lane E) → lane.doing ≡ Doing.RollbackTo n → CanGoBack n lane → IsLane m lane → IsLane m (rolled_back n lane)
back_keeps m n lane doing can is =
    let w = take_long (point_at n lane).writes lane.writes.items can.writes in
    let g = take_long (point_at n lane).gives lane.gives.items can.gives in
    let ws = ap (λ (xs : List WordWrite). length xs) (front_whole (take (point_at n lane).writes lane.writes.items)) ∙ w in
    let gs = ap (λ (xs : List ℕ). length xs) (front_whole (take (point_at n lane).gives lane.gives.items)) ∙ g in
    record {
      calling = λ e. cc;
      behind = is.behind;
      points = subst (λ (a : ℕ). AreWithin a (length (front 0 (take (point_at n lane).gives lane.gives.items))) (take (n + 1) lane.points.items)) (sym ws)
          (subst (λ (a : ℕ). AreWithin (point_at n lane).writes a (take (n + 1) lane.points.items)) (sym gs) (within_up_to n lane can));
      rising = rise_less (n + 1) lane.points.items is.rising;
      about = can.stored ∙ sym w;
      cells = record {
        fresh = λ e. let before = is.cells.fresh e in let none = before.0 in let short = take_short (point_at n lane).writes lane.updates.items in (omega (arith, none, short), before.1);
        going = λ e. is.cells.going (ap ends doing);
        unpromised = λ e. refl;
      };
      out = λ e. cc;
    }

pub back_inside : {E : Type 0} (n : ℕ) (read lane : Lane E) → read ≡ lane → n < length lane.points.items → n < length read.points.items
back_inside n read lane is inside = subst (λ (x : Lane _). n < length x.points.items) (sym is) inside
