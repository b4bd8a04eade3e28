-- What holds of the book between its calls is kept by each of them.
use Rattle.std.proofs.Common.{◌≡◌, ◌≢◌, ⊎_elim, ℕ, Bool, false, get_or, zero, suc, ◌+◌, ◌-◌, ◌<◌, ◌≤◌, List, [], ◌∷◌, ◌++◌, length, take, refl, sym, ◌∙◌, ap, subst, arith, Option, None}
use Rattle.std.proofs.lemmas.Bool.Decides.{eqb_tells}
use Rattle.std.proofs.Math.ListN.{length-append}
use Rattle.std.proofs.lemmas.List.{get_or_append_left}
use Rattle.lane_traits.specs.declared.draft.WordWrite.{WordWrite}
use Rattle.lane_types.specs.declared.call.Phase.TheVariants.{Out, Calling}
use Rattle.lane_types.specs.declared.call.Reply.{Reply}
use Rattle.lane_types.specs.declared.call.Reply.TheVariants.{Saved}
use Rattle.lane_types.specs.declared.call.Stepped.{Stepped}
use Rattle.lane_types.specs.declared.call.Call.{Call}
use Rattle.lane_types.specs.declared.call.Refusal.{Refusal}
use Rattle.lane_types.specs.declared.face.Entry.{Entry}
use Rattle.lane_types.specs.Faces.{phase_after}
use Rattle.lane_types.specs.Asks.{wanted}
use Rattle.std.specs.Prelude.{Result, Ok, Err, OnOk, OnErr}
use Rattle.lane_book.specs.declared.lane.Lane.{Lane}
use Rattle.lane_book.specs.declared.lane.Point.{Point}
use Rattle.lane_book.specs.declared.lane.Doing.{Doing}
use Rattle.lane_book.specs.declared.book.Book.{Book}
use Rattle.lane_book.specs.Lanes.{no_point, noted, moved, closed, stored_one, left, begun_lane, saved, entered_lane, refused_lane, IsRoomier, with_lane, with_history}
use Rattle.lane_book.specs.FacesOf.{call_of, lane_at, idle_lane, front, waiting_writes, waiting_gives, standing_writes, standing_gives}
use Rattle.lane_book.specs.Steps.{AreWithin, AreStored, IsNextStored, IsCleared, IsReady, AsksFor, IsPlain}
use Rattle.lane_book.specs.Books.{AreRising, ends, IsCounted, IsAbout, IsAboutIt, IsEmptied, IsLane, IsBook, AreStoredBut, IsLastOf, IsGiving}
use Rattle.lane_book.proofs.Faces.{lane_at-same, lane_at-other, take_before}
use Rattle.lane_book.proofs.WordRows.{take_whole}
use Rattle.lane_book.proofs.Asking.{front_append}

-- ---- from a lane to the book

-- one lane is another, which keeps what holds of it
pub keeps_lane : {E : Type 0} (book later : Book E) (l : ℕ) (lane : Lane E) (touched : Option ℕ) → l < length book.lanes.items → later ≡ with_lane book l lane touched →
    IsBook book → (IsLane (length book.history.items) (lane_at book l) → IsLane (length book.history.items) lane) → IsBook later
keeps_lane book later l lane touched lt is whole step =
    subst (λ (b : Book _). IsBook b) (sym is) (λ k. ⊎_elim (λ same. here k same.1) (λ ne. there k ne.1) (eqb_tells k l))
  where
    here : (k : ℕ) → k ≡ l → IsLane (length book.history.items) (lane_at (with_lane book l lane touched) k)
    here k same = subst (λ (n : ℕ). IsLane (length book.history.items) (lane_at (with_lane book l lane touched) n)) (sym same)
        (subst (IsLane (length book.history.items)) (sym (lane_at-same book l lane touched lt)) (step (whole l)))

    there : (k : ℕ) → k ≢ l → IsLane (length book.history.items) (lane_at (with_lane book l lane touched) k)
    there k ne = subst (IsLane (length book.history.items)) (sym (lane_at-other book l k lane touched ne)) (whole k)

-- ---- what a lane keeps

-- nothing but the tally and the place in the plan
pub noted_keeps : {E : Type 0} (n : ℕ) (answer : Stepped) (lane : Lane E) → IsLane n lane → IsLane n (noted answer lane)
noted_keeps n answer lane is = record { behind = is.behind; points = is.points; rising = is.rising; about = is.about; cells = is.cells; out = is.out; calling = is.calling }

pub moved_keeps : {E : Type 0} (n part : ℕ) (lane : Lane E) → IsLane n lane → IsLane n (moved part lane)
moved_keeps n part lane is = record { behind = is.behind; points = is.points; rising = is.rising; about = is.about; cells = is.cells; out = is.out; calling = is.calling }

pub take_short : {X : Type 0} (m : ℕ) (xs : List X) → length (take m xs) ≤ length xs
take_short zero xs = omega arith
take_short (suc m) [] = omega arith
take_short (suc m) (x ∷ xs) = let l = take_short m xs in omega (arith, l)

pub front_whole : {X : Type 0} (xs : List X) → front 0 xs ≡ xs
front_whole xs = take_whole (length xs - 0) xs (omega arith)

pub front_short : {X : Type 0} (n : ℕ) (xs : List X) → length (front n xs) ≤ length (front 0 xs)
front_short n xs =
    let short = take_short (length xs - n) xs in
    let whole = ap (λ (ys : List _). length ys) (front_whole xs) in
    omega (arith, short, whole)

pub within_more : (w x g h : ℕ) (points : List Point) → w ≤ x → g ≤ h → AreWithin w g points → AreWithin x h points
within_more w x g h [] less few within = within
within_more w x g h (p ∷ points) less few within =
    let a = within.0 in let b = within.1 in
    (omega (arith, less, a), omega (arith, few, b), within_more w x g h points less few within.2)

-- no cell is promised any more
pub closed_cells : {h r e : Bool} {u p : ℕ} (d doing : Doing) → doing ≡ d → ends d ≡ false → IsCounted h r e u p doing → IsCounted h r e u 0 Doing.Nothing
closed_cells d doing is calm cells = record { fresh = cells.fresh; going = λ e. cells.going (ap ends is ∙ calm); unpromised = λ e. refl }

no_cells : (d : Doing) → IsCounted false false false 0 0 d
no_cells d = record { fresh = λ e. (refl, refl); going = λ e. refl; unpromised = λ e. refl }

none_rise : AreRising []
none_rise n lt = absurd (omega (arith, lt))

-- the call ends, and no write waits any more
pub closed_keeps : {E : Type 0} (n : ℕ) (reply : Reply) (d : Doing) (lane : Lane E) → lane.doing ≡ d → ends d ≡ false → IsLane n lane → AreStored lane →
    (phase_after reply ≡ Out → IsEmptied lane) → IsLane n (closed reply lane)
closed_keeps n reply d lane doing calm is stored out = record {
  calling = λ e. cc;
  behind = is.behind;
  points = within_more (length (standing_writes lane)) (length (front 0 lane.writes.items)) (length (standing_gives lane)) (length (front 0 lane.gives.items))
      lane.points.items (front_short (waiting_writes lane.doing) lane.writes.items) (front_short (waiting_gives lane.doing) lane.gives.items) is.points;
  rising = is.rising;
  about = stored;
  cells = closed_cells d lane.doing doing calm is.cells;
  out = out;
}

pub left_keeps : {E : Type 0} (n : ℕ) (reply : Reply) (lane : Lane E) → IsLane n (left reply lane)
left_keeps n reply lane = record {
  calling = λ e. cc;
  behind = omega arith;
  points = tt;
  rising = none_rise;
  about = refl;
  cells = no_cells Doing.Nothing;
  out = λ e. record { writes_gone = refl; stored_gone = refl; gives_gone = refl; points_gone = refl };
}

pub begun_keeps : {E : Type 0} (n number set : ℕ) (lane : Lane E) → lane.doing ≡ Doing.Begin set → IsLane n lane → IsLane n (begun_lane number set n lane)
begun_keeps n number set lane doing is =
    let cleared : IsEmptied lane = subst (IsAboutIt lane) doing is.about in record {
      calling = λ e. cc;
      behind = omega arith;
      points = subst (AreWithin (length (front 0 lane.writes.items)) (length (front 0 lane.gives.items))) (sym cleared.points_gone) tt;
      rising = is.rising;
      about = cleared.stored_gone ∙ sym (ap (λ (ws : List WordWrite). length ws) cleared.writes_gone);
      cells = closed_cells (Doing.Begin set) lane.doing doing refl is.cells;
      out = λ e. cc;
    }

ne_less : (n m : ℕ) → n ≤ m → n ≢ m → n < m
ne_less zero zero le ne = absurd (ne refl)
ne_less zero (suc m) le ne = omega arith
ne_less (suc n) zero le ne = absurd (omega (arith, le))
ne_less (suc n) (suc m) le ne = let below = ne_less n m (omega (arith, le)) (λ e. ne (ap (λ (k : ℕ). suc k) e)) in omega (arith, below)

pub within_last : (w g : ℕ) (points : List Point) (p : Point) → AreWithin w g points → p.writes ≤ w → p.gives ≤ g → AreWithin w g (points ++ p ∷ [])
within_last w g [] p within a b = (a, b, tt)
within_last w g (q ∷ points) p within a b = (within.0, within.1, within_last w g points p within.2 a b)

last_at : (ps : List Point) (q : Point) → get_or (ps ++ q ∷ []) (length ps) no_point ≡ q
last_at [] q = refl
last_at (x ∷ ps) q = last_at ps q

pub rise_more : (points : List Point) (p : Point) → AreRising points → AreWithin p.writes p.gives points → AreRising (points ++ p ∷ [])
rise_more points p rising within n lt = ⊎_elim (λ same. here same.1) (λ ne. there (less ne.1)) (eqb_tells n (length points))
  where
    long : length (points ++ p ∷ []) ≡ length points + 1
    long = length-append points (p ∷ [])

    less : n ≢ length points → n < length points
    less ne = ne_less n (length points) (let l = long in omega (arith, lt, l)) ne

    there : n < length points → AreWithin (get_or (points ++ p ∷ []) n no_point).writes (get_or (points ++ p ∷ []) n no_point).gives (take n (points ++ p ∷ []))
    there lt = subst (λ (ps : List Point). AreWithin (get_or (points ++ p ∷ []) n no_point).writes (get_or (points ++ p ∷ []) n no_point).gives ps)
        (sym (take_before n points (p ∷ []) (omega (arith, lt))))
        (subst (λ (q : Point). AreWithin q.writes q.gives (take n points)) (sym (get_or_append_left points (p ∷ []) no_point n lt)) (rising n lt))

    here : n ≡ length points → AreWithin (get_or (points ++ p ∷ []) n no_point).writes (get_or (points ++ p ∷ []) n no_point).gives (take n (points ++ p ∷ []))
    here same = subst (λ (m : ℕ). AreWithin (get_or (points ++ p ∷ []) m no_point).writes (get_or (points ++ p ∷ []) m no_point).gives (take m (points ++ p ∷ []))) (sym same)
        (subst (λ (ps : List Point). AreWithin (get_or (points ++ p ∷ []) (length points) no_point).writes (get_or (points ++ p ∷ []) (length points) no_point).gives ps)
        (sym (take_before (length points) points (p ∷ []) (omega arith) ∙ take_whole (length points) points (omega arith)))
        (subst (λ (q : Point). AreWithin q.writes q.gives points) (sym (last_at points p)) within))

pub saved_keeps : {E : Type 0} (n : ℕ) (lane : Lane E) → lane.doing ≡ Doing.Savepoint → IsLane n lane → IsLane n (saved lane)
saved_keeps n lane doing is =
    let closed_lane = closed_keeps n (Saved (length lane.points.items)) Doing.Savepoint lane doing refl is (subst (IsAboutIt lane) doing is.about) (λ e. cc) in
    let ws = ap (λ (xs : List WordWrite). length xs) (front_whole lane.writes.items) in
    let gs = ap (λ (xs : List ℕ). length xs) (front_whole lane.gives.items) in
    record {
      calling = λ e. cc;
      behind = is.behind;
      points = within_last (length (front 0 lane.writes.items)) (length (front 0 lane.gives.items)) lane.points.items
          (record { writes = length lane.writes.items; gives = length lane.gives.items }) closed_lane.points (omega (arith, ws)) (omega (arith, gs));
      rising = rise_more lane.points.items (record { writes = length lane.writes.items; gives = length lane.gives.items }) is.rising
          (within_more _ _ _ _ lane.points.items (omega (arith, ws)) (omega (arith, gs)) closed_lane.points);
      about = closed_lane.about;
      cells = closed_lane.cells;
      out = λ e. cc;
    }

-- one write more is stored, the last
pub stored_keeps : {E : Type 0} (n : ℕ) (reply : Reply) (lane : Lane E) (w : WordWrite) → IsNextStored lane w → (phase_after reply ≡ Out → ⊥) → ends lane.doing ≡ false →
    IsLane n lane → IsLane n (closed reply (stored_one lane))
stored_keeps n reply lane w next stays calm is = record {
  calling = λ e. cc;
  behind = is.behind;
  points = within_more (length (standing_writes lane)) (length (front 0 lane.writes.items)) (length (standing_gives lane)) (length (front 0 lane.gives.items))
      lane.points.items (front_short (waiting_writes lane.doing) lane.writes.items) (front_short (waiting_gives lane.doing) lane.gives.items) is.points;
  rising = is.rising;
  about = next.stored;
  cells = closed_cells lane.doing lane.doing refl calm is.cells;
  out = λ e. absurd (stays e);
}

-- ---- what an ask keeps

pub ready_of : {E : Type 0} (n : ℕ) (lane : Lane E) → lane.doing ≡ Doing.Nothing → IsLane n lane → IsReady lane
ready_of n lane nothing is = record {
  nothing = nothing;
  stored = subst (IsAboutIt lane) nothing is.about;
  points = within_more (length (standing_writes lane)) (length lane.writes.items) (length (standing_gives lane)) (length lane.gives.items) lane.points.items
      (take_short (length lane.writes.items - waiting_writes lane.doing) lane.writes.items)
      (take_short (length lane.gives.items - waiting_gives lane.doing) lane.gives.items) is.points;
}

pub refused_keeps : {E : Type 0} (n : ℕ) (call : Call E) (refusal : Refusal) (lane : Lane E) → IsLane n lane → IsLane n (refused_lane call refusal lane)
refused_keeps n call refusal lane is = record { behind = is.behind; points = is.points; rising = is.rising; about = is.about; cells = is.cells; out = is.out; calling = is.calling }

module _ {E : Type 0} (n : ℕ) (lane later : Lane E) (call : Call E) (doing : Doing) (writes : List WordWrite) (gives : List ℕ) (promised : ℕ)
    (ready : IsReady lane) (asks : AsksFor lane call doing writes gives promised later) where
  doing_later : later.doing ≡ doing
  doing_later = ap (λ (x : Lane _). x.doing) asks.is

  stored_later : later.stored ≡ lane.stored
  stored_later = ap (λ (x : Lane _). x.stored) asks.is

  long : length later.writes.items ≡ length lane.writes.items + length writes
  long = ap (λ (ws : List WordWrite). length ws) asks.writes_more ∙ length-append lane.writes.items writes

  standing : front (waiting_writes doing) later.writes.items ≡ lane.writes.items
  standing = ap (front (waiting_writes doing)) asks.writes_more ∙ front_append (waiting_writes doing) lane.writes.items writes asks.waiting

  given : front (waiting_gives doing) later.gives.items ≡ lane.gives.items
  given = ap (front (waiting_gives doing)) asks.gives_more ∙ front_append (waiting_gives doing) lane.gives.items gives asks.waiting_given

  pub asked_keeps : IsLane n lane → IsAboutIt later doing → IsLane n later
  asked_keeps is about = record {
    calling = λ e. ap (λ (x : Lane _). x.phase) asks.is;
    behind = let j = ap (λ (x : Lane _). x.joined) asks.is in let b = is.behind in omega (arith, j, b);
    points = subst (λ (d : Doing). AreWithin (length (front (waiting_writes d) later.writes.items)) (length (front (waiting_gives d) later.gives.items)) later.points.items)
        (sym doing_later)
        (subst (λ (ws : List WordWrite). AreWithin (length ws) (length (front (waiting_gives doing) later.gives.items)) later.points.items) (sym standing)
        (subst (λ (gs : List ℕ). AreWithin (length lane.writes.items) (length gs) later.points.items) (sym given)
        (subst (AreWithin (length lane.writes.items) (length lane.gives.items)) (sym asks.points_stay) ready.points)));
    rising = subst AreRising (sym asks.points_stay) is.rising;
    about = subst (IsAboutIt later) (sym doing_later) about;
    cells = record {
      fresh = λ e. let before = is.cells.fresh (sym (ap (λ (x : Lane _). x.has_records) asks.is) ∙ e) in
          (ap (λ (us : List _). length us) asks.updates_stay ∙ before.0, ap (λ (x : Lane _). x.rolled) asks.is ∙ before.1);
      going = λ e. ap (λ (x : Lane _). x.ended) asks.is ∙ is.cells.going (ap ends ready.nothing);
      unpromised = λ e. let told = sym (ap (λ (d : Doing). call_of [] later.entry later.writes.items d) (sym doing_later ∙ e)) ∙ asks.told [] in cc;
    };
    out = λ e. let calling : Calling ≡ Out = sym (ap (λ (x : Lane _). x.phase) asks.is) ∙ e in cc;
  }

  -- the writes of the call wait
  pub waits : AreStoredBut (length writes) later.stored later.writes.items
  waits = record {
    some = let l = long in omega (arith, l);
    most = let l = long in let s = stored_later in let r = ready.stored in omega (arith, l, s, r);
    others = let l = long in let s = stored_later in let r = ready.stored in omega (arith, l, s, r);
  }

pub write_about : {E : Type 0} (lane later : Lane E) (call : Call E) (w : WordWrite) (doing : Doing) (promised : ℕ) → IsReady lane →
    AsksFor lane call doing (w ∷ []) [] promised later → IsLastOf w later.stored later.writes.items
write_about lane later call w doing promised ready asks = record {
  last = asks.writes_more ∙ ap (λ (ws : List WordWrite). ws ++ w ∷ [])
      (sym (ap (front 1) asks.writes_more ∙ front_append 1 lane.writes.items (w ∷ []) refl));
  others =
      let l = long 0 lane later call doing (w ∷ []) [] promised ready asks in
      let s = stored_later 0 lane later call doing (w ∷ []) [] promised ready asks in
      let r = ready.stored in omega (arith, l, s, r);
}

pub plain_stored : {E : Type 0} (lane later : Lane E) (call : Call E) (doing : Doing) (gives : List ℕ) (promised : ℕ) → IsReady lane →
    AsksFor lane call doing [] gives promised later → AreStored later
plain_stored lane later call doing gives promised ready asks =
    let l = long 0 lane later call doing [] gives promised ready asks in
    let s = stored_later 0 lane later call doing [] gives promised ready asks in
    let r = ready.stored in omega (arith, l, s, r)

pub give_about : {E : Type 0} (lane later : Lane E) (call : Call E) (block : ℕ) (doing : Doing) (promised : ℕ) → IsReady lane →
    AsksFor lane call doing [] (block ∷ []) promised later → IsGiving block later.stored later.writes.items later.gives.items
give_about lane later call block doing promised ready asks = record {
  all = plain_stored lane later call doing (block ∷ []) promised ready asks;
  last = asks.gives_more ∙ ap (λ (gs : List ℕ). gs ++ block ∷ [])
      (sym (ap (front 1) asks.gives_more ∙ front_append 1 lane.gives.items (block ∷ []) refl));
}

-- ---- a begin

pub cleared_of : {E : Type 0} (n : ℕ) (lane : Lane E) (set : ℕ) → lane.doing ≡ Doing.Begin set → IsLane n lane → IsCleared lane
cleared_of n lane set doing is =
    let emptied : IsEmptied lane = subst (IsAboutIt lane) doing is.about in
    record { writes = emptied.writes_gone; stored = emptied.stored_gone; gives = emptied.gives_gone; points = emptied.points_gone }

pub keeps_begun : {E : Type 0} (book later : Book E) (l set : ℕ) → l < length book.lanes.items →
    later ≡ record (with_lane book l (begun_lane book.next_transaction set (length book.history.items) (lane_at book l)) None) { next_transaction = book.next_transaction + 1 } →
    (lane_at book l).doing ≡ Doing.Begin set → IsBook book → IsBook later
keeps_begun book later l set lt is doing whole = subst (λ (b : Book _). IsBook b) (sym is)
    (keeps_lane book (with_lane book l (begun_lane book.next_transaction set (length book.history.items) (lane_at book l)) None) l
    (begun_lane book.next_transaction set (length book.history.items) (lane_at book l)) None lt refl whole
    (begun_keeps (length book.history.items) book.next_transaction set (lane_at book l) doing))

-- ---- an entry joins

pub entered_keeps : {E : Type 0} (n : ℕ) (lane : Lane E) → IsLane n lane → IsLane n (entered_lane lane)
entered_keeps n lane is = record { behind = is.behind; points = is.points; rising = is.rising; about = is.about; cells = is.cells; out = is.out; calling = is.calling }

-- the history has an entry more
pub grown_keeps : {E : Type 0} (n : ℕ) (lane : Lane E) → IsLane n lane → IsLane (n + 1) lane
grown_keeps n lane is = record { behind = let b = is.behind in omega (arith, b); points = is.points; rising = is.rising; about = is.about; cells = is.cells; out = is.out; calling = is.calling }

pub keeps_entered : {E : Type 0} (book later : Book E) (l : ℕ) (lane : Lane E) (e : Entry E) → l < length book.lanes.items →
    later ≡ with_history (book.history.items ++ e ∷ []) (with_lane book l lane None) → IsBook book →
    (IsLane (length book.history.items) (lane_at book l) → IsLane (length book.history.items) lane) → IsBook later
keeps_entered book later l lane e lt is whole step = subst (λ (b : Book _). IsBook b) (sym is)
    (λ k. subst (λ (n : ℕ). IsLane n (lane_at (with_lane book l lane None) k)) (sym (length-append book.history.items (e ∷ [])))
    (grown_keeps (length book.history.items) (lane_at (with_lane book l lane None) k)
    (keeps_lane book (with_lane book l lane None) l lane None lt refl whole step k)))

-- ---- asks

pub by_result : {A B : Type 0} {P Q R : Type 0} (r : Result A B) → (P → R) → (Q → R) → OnOk r P → OnErr r Q → R
by_result (Ok x) f g p q = f p
by_result (Err e) f g p q = g q

pub roomier_keeps : {E : Type 0} (n : ℕ) (lane later : Lane E) → IsRoomier lane later → IsLane n lane → IsLane n later
roomier_keeps n lane later roomier is = subst (IsLane n) (sym roomier.is) record {
  calling = is.calling;
  behind = is.behind;
  points = within_same roomier.writes roomier.gives roomier.points is.points;
  rising = subst AreRising (sym roomier.points) is.rising;
  cells = subst (λ (n : ℕ). IsCounted lane.has_records lane.rolled lane.ended n lane.promised lane.doing)
      (sym (ap (λ (us : List _). length us) roomier.updates)) is.cells;
  about = subst (λ (ps : List Point). IsAbout lane.stored later.writes.items later.gives.items ps lane.doing) (sym roomier.points)
      (subst (λ (gs : List ℕ). IsAbout lane.stored later.writes.items gs lane.points.items lane.doing) (sym roomier.gives)
      (subst (λ (ws : List WordWrite). IsAbout lane.stored ws lane.gives.items lane.points.items lane.doing) (sym roomier.writes) is.about));
  out = λ e. let emptied = is.out e in record {
    writes_gone = roomier.writes ∙ emptied.writes_gone;
    stored_gone = emptied.stored_gone;
    gives_gone = roomier.gives ∙ emptied.gives_gone;
    points_gone = roomier.points ∙ emptied.points_gone;
  };
}
  where
    within_same : later.writes.items ≡ lane.writes.items → later.gives.items ≡ lane.gives.items → later.points.items ≡ lane.points.items →
        AreWithin (length (standing_writes lane)) (length (standing_gives lane)) lane.points.items →
        AreWithin (length (front (waiting_writes lane.doing) later.writes.items)) (length (front (waiting_gives lane.doing) later.gives.items)) later.points.items
    within_same ws gs ps within =
        subst (λ (xs : List WordWrite). AreWithin (length (front (waiting_writes lane.doing) xs)) (length (front (waiting_gives lane.doing) later.gives.items)) later.points.items) (sym ws)
        (subst (λ (xs : List ℕ). AreWithin (length (front (waiting_writes lane.doing) lane.writes.items)) (length (front (waiting_gives lane.doing) xs)) later.points.items) (sym gs)
        (subst (AreWithin (length (standing_writes lane)) (length (standing_gives lane))) (sym ps) within))

pub keeps_roomier : {E : Type 0} (book : Book E) (l : ℕ) (read later : Lane E) (touched : Option ℕ) → l < length book.lanes.items → read ≡ lane_at book l →
    IsBook book → IsRoomier read later → IsBook (with_lane book l later touched)
keeps_roomier book l read later touched lt is whole roomier = keeps_lane book (with_lane book l later touched) l later touched lt refl whole
    (roomier_keeps (length book.history.items) (lane_at book l) later (subst (λ (x : Lane _). IsRoomier x later) is roomier))

pub keeps_asked : {E : Type 0} (book : Book E) (l : ℕ) (read later : Lane E) (touched : Option ℕ) (call : Call E) (doing : Doing) (writes : List WordWrite) (gives : List ℕ)
    (promised : ℕ) → l < length book.lanes.items → read ≡ lane_at book l → (lane_at book l).doing ≡ Doing.Nothing → IsBook book →
    (IsReady (lane_at book l) → AsksFor (lane_at book l) call doing writes gives promised later → IsAboutIt later doing) →
    AsksFor read call doing writes gives promised later → IsBook (with_lane book l later touched)
keeps_asked book l read later touched call doing writes gives promised lt is nothing whole about asks =
    let n = length book.history.items in
    let ready = ready_of n (lane_at book l) nothing (whole l) in
    let here = subst (λ (x : Lane _). AsksFor x call doing writes gives promised later) is asks in
    keeps_lane book (with_lane book l later touched) l later touched lt refl whole
    (λ lane. asked_keeps n (lane_at book l) later call doing writes gives promised ready here lane (about ready here))

emptied_later : {E : Type 0} (n : ℕ) (lane later : Lane E) (call : Call E) (doing : Doing) (promised : ℕ) → IsReady lane → AsksFor lane call doing [] [] promised later →
    IsEmptied lane → IsEmptied later
emptied_later n lane later call doing promised ready asks emptied = record {
  writes_gone = asks.writes_more ∙ ap (λ (ws : List WordWrite). ws ++ []) emptied.writes_gone;
  stored_gone = stored_later n lane later call doing [] [] promised ready asks ∙ emptied.stored_gone;
  gives_gone = asks.gives_more ∙ ap (λ (gs : List ℕ). gs ++ []) emptied.gives_gone;
  points_gone = asks.points_stay ∙ emptied.points_gone;
}

pub plain_about : {E : Type 0} (n : ℕ) (lane later : Lane E) (call : Call E) (doing : Doing) (promised : ℕ) → IsPlain call doing → lane.phase ≡ wanted call → IsLane n lane →
    IsReady lane → AsksFor lane call doing [] [] promised later → IsAboutIt later doing
plain_about n lane later _ _ promised (IsPlain.begin {set}) phase is ready asks =
    emptied_later n lane later (Call.Begin set) (Doing.Begin set) promised ready asks (is.out phase)
plain_about n lane later _ _ promised (IsPlain.read {a}) phase is ready asks = plain_stored lane later (Call.Read a) (Doing.Read a) [] promised ready asks
plain_about n lane later _ _ promised IsPlain.abort phase is ready asks =
    let s = plain_stored lane later Call.Abort Doing.Abort [] promised ready asks in omega (arith, s)
plain_about n lane later _ _ promised IsPlain.checkpoint phase is ready asks =
    emptied_later n lane later Call.Checkpoint Doing.Checkpoint promised ready asks (is.out phase)
plain_about n lane later _ _ promised IsPlain.savepoint phase is ready asks = plain_stored lane later Call.Savepoint Doing.Savepoint [] promised ready asks
plain_about m lane later _ _ promised (IsPlain.rollback {n}) phase is ready asks =
    let s = plain_stored lane later (Call.RollbackTo n) (Doing.RollbackTo n) [] promised ready asks in omega (arith, s)

-- ---- what the answers take from it

pub next_of : {E : Type 0} (n : ℕ) (lane : Lane E) (a v : ℕ) → lane.doing ≡ Doing.Write a v → IsLane n lane → IsNextStored lane (record { address = a; value = v })
next_of n lane a v doing is =
    let here : IsLastOf (record { address = a; value = v }) lane.stored lane.writes.items = subst (IsAboutIt lane) doing is.about in
    record { last = here.last; stored = here.others }

pub giving_of : {E : Type 0} (n : ℕ) (lane : Lane E) (block : ℕ) → lane.doing ≡ Doing.Give block → IsLane n lane → lane.gives.items ≡ front 1 lane.gives.items ++ block ∷ []
giving_of n lane block doing is =
    let here : IsGiving block lane.stored lane.writes.items lane.gives.items = subst (IsAboutIt lane) doing is.about in here.last

pub stored_of : {E : Type 0} (n : ℕ) (lane : Lane E) → lane.doing ≡ Doing.Savepoint → IsLane n lane → AreStored lane
stored_of n lane doing is = subst (IsAboutIt lane) doing is.about

-- ---- before the first call

pub idle_is : {E : Type 0} (n : ℕ) → IsLane n (idle_lane {E = E})
idle_is n = record {
  calling = λ e. cc;
  behind = omega arith;
  points = tt;
  rising = none_rise;
  about = refl;
  cells = no_cells Doing.Nothing;
  out = λ e. record { writes_gone = refl; stored_gone = refl; gives_gone = refl; points_gone = refl };
}

-- a book of idle lanes alone
pub idle_book : {E : Type 0} (book : Book E) → ((l : ℕ) → lane_at book l ≡ idle_lane {E = E}) → IsBook book
idle_book book idle l = subst (IsLane (length book.history.items)) (sym (idle l)) (idle_is (length book.history.items))
