-- What an ask reserves is what the call needed before it.
use Rattle.std.proofs.Common.{◌≡◌, ◌==◌, ◌||◌, ◌&&◌, not, ℕ, ◌+◌, ◌<◌, ◌≤◌, Bool, true, false, if◌then◌else◌, List, length, refl, sym, ◌∙◌, ap, subst, arith, Option}
use Rattle.region_layout.specs.declared.cell.Cell.{Cell}
use Rattle.lane_traits.specs.declared.draft.WordWrite.{WordWrite}
use Rattle.lane_types.specs.declared.call.Call.{Call}
use Rattle.lane_types.specs.Asks.{is_logged}
use Rattle.lane_book.specs.declared.lane.Lane.{Lane}
use Rattle.lane_book.specs.declared.lane.Doing.{Doing}
use Rattle.lane_book.specs.declared.book.Book.{Book}
use Rattle.lane_book.specs.Lanes.{with_lane}
use Rattle.lane_book.specs.FacesOf.{lane_at}
use Rattle.lane_book.specs.Steps.{AsksFor, IsPlain}
use Rattle.lane_book.specs.Books.{IsCounted, IsBook}
use Rattle.lane_book.specs.Reserved.{is_bound, undo_cells, reserved_by, promised_by, added_by}
use Rattle.lane_book.specs.Appends.{ReservesNeed}
use Rattle.lane_book.proofs.Reserving.{reserves}
use Rattle.lane_book.proofs.Appending.{bound_by}

-- ---- sums

-- without a promise it is the records that bind
quiet_test : (h e : Bool) (q : ℕ) → q ≡ 0 → e ≡ false → ((h || not (q == 0)) && not e) ≡ h
quiet_test h e q none going = ap (λ (n : ℕ). (h || not (n == 0)) && not e) none ∙ ap (λ (t : Bool). (h || not (0 == 0)) && not t) going ∙ by_test h
  where
    by_test : (t : Bool) → ((t || not (0 == 0)) && not false) ≡ t
    by_test true = refl
    by_test false = refl

sum_fresh : (h r : Bool) (u p q : ℕ) → q ≡ 0 → (h ≡ false → (u ≡ 0) × (r ≡ false)) →
    p + (u + ((if r then 0 else 1) + 1)) ≡ (q + (if h then u + ((if r then 0 else 1) + 1) else 0)) + (p + (if h then 0 else 2))
sum_fresh true r u p q none fresh = sum p u ((if r then 0 else 1) + 1) q none
  where
    sum : (p u f q : ℕ) → q ≡ 0 → p + (u + f) ≡ (q + (u + f)) + (p + 0)
    sum p u f q none = omega (arith, none)
sum_fresh false r u p q none fresh =
    ap (λ (t : Bool). p + (u + ((if t then 0 else 1) + 1))) (fresh refl).1 ∙ sum p u q none (fresh refl).0
  where
    sum : (p u q : ℕ) → q ≡ 0 → u ≡ 0 → p + (u + (1 + 1)) ≡ (q + 0) + (p + 2)
    sum p u q none few = omega (arith, none, few)

sum_logged : (h r e : Bool) (u p q : ℕ) → q ≡ 0 → e ≡ false → 1 ≤ p → (h ≡ false → (u ≡ 0) × (r ≡ false)) →
    p + (if (h || not (p == 0)) && not e then u + ((if r then 0 else 1) + 1) else 0) ≡
    (q + (if (h || not (q == 0)) && not e then u + ((if r then 0 else 1) + 1) else 0)) + (p + (if (h || not (q == 0)) && not e then 0 else 2))
sum_logged h r e u p q none going some fresh =
    ap (λ (t : Bool). p + (if t then u + ((if r then 0 else 1) + 1) else 0)) (bound_by h e p some going) ∙
    sum_fresh h r u p q none fresh ∙
    sym (ap (λ (t : Bool). (q + (if t then u + ((if r then 0 else 1) + 1) else 0)) + (p + (if t then 0 else 2))) (quiet_test h e q none going))

-- ---- a lane

-- what the lane has reserved once the call is its own
asked_promise : {E : Type 0} (lane later : Lane E) (call : Call E) (doing : Doing) (writes : List WordWrite) (gives : List ℕ) (promised : ℕ) →
    AsksFor lane call doing writes gives promised later →
    reserved_by later ≡ promised + (if (lane.has_records || not (promised == 0)) && not lane.ended then undo_cells lane else 0)
asked_promise lane later call doing writes gives promised asks =
    ap reserved_by asks.is ∙
    ap (λ (us : List Cell). promised + (if (lane.has_records || not (promised == 0)) && not lane.ended then length us + ((if lane.rolled then 0 else 1) + 1) else 0)) asks.updates_stay

-- the lane has no call in progress
abbrev IsIdle : {E : Type 0} → Lane E → Type 0
IsIdle lane = IsCounted lane.has_records lane.rolled lane.ended (length lane.updates.items) lane.promised Doing.Nothing

logged_cells : {E : Type 0} (k : ℕ) (lane later : Lane E) (call : Call E) (doing : Doing) (writes : List WordWrite) (gives : List ℕ) (promised : ℕ) → IsIdle lane →
    is_logged call ≡ true → promised ≡ promised_by k call → 1 ≤ promised → AsksFor lane call doing writes gives promised later →
    reserved_by later ≡ reserved_by lane + added_by k lane call
logged_cells k lane later call doing writes gives promised idle logged is some asks =
    asked_promise lane later call doing writes gives promised asks ∙
    sum_logged lane.has_records lane.rolled lane.ended (length lane.updates.items) promised lane.promised (idle.unpromised refl) (idle.going refl) some idle.fresh ∙
    ap (λ (n : ℕ). reserved_by lane + (n + (if is_bound lane then 0 else 2))) is ∙
    sym (ap (λ (t : Bool). reserved_by lane + (if t then promised_by k call + (if is_bound lane then 0 else 2) else 0)) logged)

free_cells : {E : Type 0} (k : ℕ) (lane later : Lane E) (call : Call E) (doing : Doing) (writes : List WordWrite) (gives : List ℕ) → IsIdle lane →
    is_logged call ≡ false → AsksFor lane call doing writes gives 0 later → reserved_by later ≡ reserved_by lane + added_by k lane call
free_cells k lane later call doing writes gives idle free asks =
    asked_promise lane later call doing writes gives 0 asks ∙
    ap (λ (n : ℕ). n + (if (lane.has_records || not (n == 0)) && not lane.ended then undo_cells lane else 0)) (sym (idle.unpromised refl)) ∙
    plus_none (reserved_by lane) ∙
    sym (ap (λ (t : Bool). reserved_by lane + (if t then promised_by k call + (if is_bound lane then 0 else 2) else 0)) free)
  where
    plus_none : (n : ℕ) → n ≡ n + 0
    plus_none n = omega arith

-- ---- the book

idle_of : {E : Type 0} (book : Book E) (l : ℕ) → (lane_at book l).doing ≡ Doing.Nothing → IsBook book → IsIdle (lane_at book l)
idle_of book l nothing whole = subst (IsCounted (lane_at book l).has_records (lane_at book l).rolled (lane_at book l).ended (length (lane_at book l).updates.items) (lane_at book l).promised)
    nothing (whole l).cells

-- a call that appends records
pub logged_need : {E : Type 0} (k : ℕ) (book : Book E) (l : ℕ) (read later : Lane E) (touched : Option ℕ) (call : Call E) (doing : Doing) (writes : List WordWrite) (gives : List ℕ)
    (promised : ℕ) → l < length book.lanes.items → read ≡ lane_at book l → (lane_at book l).doing ≡ Doing.Nothing → IsBook book →
    is_logged call ≡ true → promised ≡ promised_by k call → 1 ≤ promised → AsksFor read call doing writes gives promised later →
    ReservesNeed k call book (with_lane book l later touched) l
logged_need k book l read later touched call doing writes gives promised lt is nothing whole logged cells some asks =
    reserves k call book (with_lane book l later touched) l later touched lt refl
    (logged_cells k (lane_at book l) later call doing writes gives promised (idle_of book l nothing whole) logged cells some
    (subst (λ (x : Lane _). AsksFor x call doing writes gives promised later) is asks))

-- a call that the log is never too full for
pub free_need : {E : Type 0} (k : ℕ) (book : Book E) (l : ℕ) (read later : Lane E) (touched : Option ℕ) (call : Call E) (doing : Doing) (writes : List WordWrite) (gives : List ℕ) →
    l < length book.lanes.items → read ≡ lane_at book l → (lane_at book l).doing ≡ Doing.Nothing → IsBook book →
    is_logged call ≡ false → AsksFor read call doing writes gives 0 later → ReservesNeed k call book (with_lane book l later touched) l
free_need k book l read later touched call doing writes gives lt is nothing whole free asks =
    reserves k call book (with_lane book l later touched) l later touched lt refl
    (free_cells k (lane_at book l) later call doing writes gives (idle_of book l nothing whole) free
    (subst (λ (x : Lane _). AsksFor x call doing writes gives 0 later) is asks))

pub plain_free : {E : Type 0} (call : Call E) (doing : Doing) → IsPlain call doing → is_logged call ≡ false
plain_free _ _ (IsPlain.begin {set}) = refl
plain_free _ _ (IsPlain.read {a}) = refl
plain_free _ _ IsPlain.abort = refl
plain_free _ _ IsPlain.checkpoint = refl
plain_free _ _ IsPlain.savepoint = refl
plain_free _ _ (IsPlain.rollback {n}) = refl
