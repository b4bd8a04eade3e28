-- An ask changes the asking lane's face alone.
use Rattle.std.proofs.Common.{◌≡◌, ℕ, zero, suc, ◌+◌, ◌-◌, drop, ◌<◌, ◌≤◌, List, [], ◌∷◌, ◌++◌, length, take, map, refl, sym, ◌∙◌, ap, subst, arith, Option, Some}
use Rattle.std.specs.Prelude.{Result, Ok, Err, OnOk, OnErr}
use Rattle.std.proofs.Math.ListN.{length-append}
use Rattle.std.specs.List.{filter}
use Rattle.lane_traits.specs.declared.draft.WordWrite.{WordWrite}
use Rattle.lane_types.specs.declared.call.Call.{Call}
use Rattle.lane_types.specs.declared.call.Refusal.{Refusal}
use Rattle.lane_types.specs.declared.face.Entry.{Entry}
use Rattle.offset_alloc.specs.declared.Standing.{Standing}
use Rattle.lane_types.specs.Heaps.{Heap}
use Rattle.lane_types.specs.Faces.{Base, WholeFace}
use Rattle.lane_types.specs.Asks.{asked, refused}
use Rattle.lane_book.specs.declared.lane.Lane.{Lane}
use Rattle.lane_book.specs.declared.lane.Point.{Point}
use Rattle.lane_book.specs.declared.lane.Doing.{Doing}
use Rattle.lane_book.specs.declared.book.Book.{Book}
use Rattle.lane_book.specs.Lanes.{asked_lane, refused_lane, IsRoomier, HasRoom, has_room, with_more, with_lane}
use Rattle.lane_book.specs.FacesOf.{lane_at, face_of, call_of, front, waiting_writes, waiting_gives, held_after, point_of, begun_heap, is_of}
use Rattle.lane_book.specs.Steps.{Asks, AreWithin, IsReady, AsksFor, IsAskedOf, IsAskedIn, IsRoomierIn, IsPlain, points_of}
use Rattle.lane_book.proofs.Faces.{lane_at-same, lane_at-other, take_before}
use Rattle.lane_book.proofs.WordRows.{take_whole}

pub ask_of_lane : {E : Type 0} (change : WholeFace E → WholeFace E) (book : Book E) (l : ℕ) (lane : Lane E) (touched : Option ℕ) → l < length book.lanes.items →
    ((base : Base) → face_of base book.history.items l lane ≡ change (face_of base book.history.items l (lane_at book l))) →
    Asks change book (with_lane book l lane touched) l
ask_of_lane change book l lane touched lt face base = record {
  others = λ k ne. ap (face_of base book.history.items k) (lane_at-other book l k lane touched ne);
  face = ap (face_of base book.history.items l) (lane_at-same book l lane touched lt) ∙ face base;
}

pub refuse_row : {E : Type 0} (call : Call E) (refusal : Refusal) (book : Book E) (l : ℕ) (touched : Option ℕ) → l < length book.lanes.items →
    Asks (refused call refusal) book (with_lane book l (refused_lane call refusal (lane_at book l)) touched) l
refuse_row call refusal book l touched lt = ask_of_lane (refused call refusal) book l (refused_lane call refusal (lane_at book l)) touched lt (λ base. refl)

-- the later book in another form
pub asks_at : {E : Type 0} (change : WholeFace E → WholeFace E) (book later real : Book E) (l : ℕ) → real ≡ later → Asks change book later l → Asks change book real l
asks_at change book later real l is asks = subst (λ (b : Book _). Asks change book b l) (sym is) asks

pub on_ok : {A B : Type 0} {P Q : Type 0} (r : Result A B) → (P → Q) → OnOk r P → OnOk r Q
on_ok (Ok x) f h = f h
on_ok (Err e) f h = h

pub on_err : {A B : Type 0} {P Q : Type 0} (r : Result A B) → (P → Q) → OnErr r P → OnErr r Q
on_err (Ok x) f h = h
on_err (Err e) f h = f h

-- ---- more room

-- the savepoints of lists that are the same
points_same : {E : Type 0} (begun : Heap) (lane later : Lane E) → later.held ≡ lane.held → later.writes.items ≡ lane.writes.items →
    later.gives.items ≡ lane.gives.items → later.points.items ≡ lane.points.items →
    map (point_of begun later) later.points.items ≡ map (point_of begun lane) lane.points.items
points_same begun lane later held writes gives points = λ i.
    map (λ p. held_after (held i) begun (take p.writes (writes i)) (take p.gives (gives i)) (take p.writes (writes i))) (points i)

pub roomier_face : {E : Type 0} (base : Base) (history : List (Entry E)) (l : ℕ) (lane later : Lane E) → IsRoomier lane later →
    face_of base history l later ≡ face_of base history l lane
roomier_face base history l lane later roomier =
    ap (face_of base history l) roomier.is ∙
    (λ i. face_of base history l (record lane {
      writes = record later.writes { items = roomier.writes i };
      updates = later.updates;
      gives = record later.gives { items = roomier.gives i };
      gates = later.gates;
      taken = later.taken;
      untaken = later.untaken;
      points = record later.points { items = roomier.points i };
    }))

pub roomier_row : {E : Type 0} (book : Book E) (l : ℕ) (lane : Lane E) (touched : Option ℕ) → l < length book.lanes.items → IsRoomier (lane_at book l) lane →
    Asks (λ face. face) book (with_lane book l lane touched) l
roomier_row book l lane touched lt roomier = ask_of_lane (λ face. face) book l lane touched lt
    (λ base. roomier_face base book.history.items l (lane_at book l) lane roomier)

-- ---- a call in progress

pub front_append : {X : Type 0} (n : ℕ) (xs ys : List X) → n ≡ length ys → front n (xs ++ ys) ≡ xs
front_append n xs ys is =
    ap (λ (m : ℕ). take m (xs ++ ys)) (let l = length-append xs ys in omega (arith, l, is)) ∙
    take_before (length xs) xs ys (omega arith) ∙ take_whole (length xs) xs (omega arith)

front_none : {X : Type 0} (xs : List X) → front 0 xs ≡ xs
front_none xs = take_whole (length xs - 0) xs (omega arith)

points_stay : (set : ℕ) (begun : Heap) (writes more : List WordWrite) (gives given : List ℕ) (points : List Point) → AreWithin (length writes) (length gives) points →
    map (λ (p : Point). held_after set begun (take p.writes (writes ++ more)) (take p.gives (gives ++ given)) (take p.writes (writes ++ more))) points ≡
    map (λ (p : Point). held_after set begun (take p.writes writes) (take p.gives gives) (take p.writes writes)) points
points_stay set begun writes more gives given [] within = refl
points_stay set begun writes more gives given (p ∷ points) within =
    let w = take_before p.writes writes more within.0 in
    let g = take_before p.gives gives given within.1 in
    λ i. held_after set begun (w i) (g i) (w i) ∷ points_stay set begun writes more gives given points within.2 i

module _ {E : Type 0} (base : Base) (history : List (Entry E)) (l : ℕ) (lane later : Lane E) (call : Call E) (doing : Doing) (writes : List WordWrite) (gives : List ℕ) (promised : ℕ)
    (ready : IsReady lane) (asks : AsksFor lane call doing writes gives promised later) where
  abbrev begun : Heap
  begun = begun_heap base history lane

  standing : front (waiting_writes doing) later.writes.items ≡ front (waiting_writes lane.doing) lane.writes.items
  standing =
      ap (front (waiting_writes doing)) asks.writes_more ∙ front_append (waiting_writes doing) lane.writes.items writes asks.waiting ∙
      sym (ap (λ (d : Doing). front (waiting_writes d) lane.writes.items) ready.nothing ∙ front_none lane.writes.items)

  given : front (waiting_gives doing) later.gives.items ≡ front (waiting_gives lane.doing) lane.gives.items
  given =
      ap (front (waiting_gives doing)) asks.gives_more ∙ front_append (waiting_gives doing) lane.gives.items gives asks.waiting_given ∙
      sym (ap (λ (d : Doing). front (waiting_gives d) lane.gives.items) ready.nothing ∙ front_none lane.gives.items)

  stored : take lane.stored later.writes.items ≡ take lane.stored lane.writes.items
  stored = ap (take lane.stored) asks.writes_more ∙ take_before lane.stored lane.writes.items writes (let s = ready.stored in omega (arith, s))

  points : map (λ (p : Point). held_after lane.held begun (take p.writes later.writes.items) (take p.gives later.gives.items) (take p.writes later.writes.items)) later.points.items ≡
      map (point_of begun lane) lane.points.items
  points =
      (λ i. map (λ (p : Point). held_after lane.held begun (take p.writes (asks.writes_more i)) (take p.gives (asks.gives_more i)) (take p.writes (asks.writes_more i))) (asks.points_stay i)) ∙
      points_stay lane.held begun lane.writes.items writes lane.gives.items gives lane.points.items ready.points

  pub asked_face : face_of base history l later ≡ asked call (face_of base history l lane)
  asked_face = ap (face_of base history l) asks.is ∙ (λ i. record (asked call (face_of base history l lane)) {
    face = record (asked call (face_of base history l lane)).face { live = length (asks.points_stay i) };
    words = held_after lane.held begun (standing i) (given i) (stored i);
    points = points i;
    call = asks.told (filter (is_of l) history) i;
  })

pub ask_row : {E : Type 0} (book : Book E) (l : ℕ) (later : Lane E) (touched : Option ℕ) (call : Call E) (doing : Doing) (writes : List WordWrite) (gives : List ℕ) (promised : ℕ) →
    l < length book.lanes.items → IsReady (lane_at book l) → AsksFor (lane_at book l) call doing writes gives promised later →
    Asks (asked call) book (with_lane book l later touched) l
ask_row book l later touched call doing writes gives promised lt ready asks = ask_of_lane (asked call) book l later touched lt
    (λ base. asked_face base book.history.items l (lane_at book l) later call doing writes gives promised ready asks)

-- what the lane's own call promises, of the lane as it was read
pub asked_book : {E : Type 0} (book : Book E) (l : ℕ) (read later : Lane E) (touched : Option ℕ) (call : Call E) (doing : Doing) (writes : List WordWrite) (gives : List ℕ) (promised : ℕ) →
    l < length book.lanes.items → read ≡ lane_at book l → IsReady (lane_at book l) → AsksFor read call doing writes gives promised later →
    Asks (asked call) book (with_lane book l later touched) l
asked_book book l read later touched call doing writes gives promised lt is ready asks =
    ask_row book l later touched call doing writes gives promised lt ready (subst (λ (x : Lane _). AsksFor x call doing writes gives promised later) is asks)

pub roomier_book : {E : Type 0} (book : Book E) (l : ℕ) (read later : Lane E) (touched : Option ℕ) → l < length book.lanes.items → read ≡ lane_at book l →
    IsRoomier read later → Asks (λ face. face) book (with_lane book l later touched) l
roomier_book book l read later touched lt is roomier =
    roomier_row book l later touched lt (subst (λ (x : Lane _). IsRoomier x later) is roomier)

-- ---- the book then

pub asked_in : {E : Type 0} (book : Book E) (l : ℕ) (read later : Lane E) (call : Call E) (doing : Doing) (writes : List WordWrite) (gives : List ℕ) (promised : ℕ) →
    l < length book.lanes.items → read ≡ lane_at book l → IsAskedOf read call doing writes gives promised later →
    IsAskedIn call doing writes gives promised book (with_lane book l later book.touched) l
asked_in book l read later call doing writes gives promised lt is asked = record {
  is = ap (λ (x : Lane _). with_lane book l x book.touched) (sym (lane_at-same book l later book.touched lt));
  lane = subst (λ (x : Lane _). IsAskedOf (lane_at book l) call doing writes gives promised x) (sym (lane_at-same book l later book.touched lt))
      (subst (λ (x : Lane _). IsAskedOf x call doing writes gives promised later) is asked);
}

-- the block that a take picks is set too
pub taken_in : {E : Type 0} (book : Book E) (l : ℕ) (read later : Lane E) (call : Call E) (doing : Doing) (writes : List WordWrite) (gives : List ℕ) (promised : ℕ) (set blocks : List Standing) →
    l < length book.lanes.items → read ≡ lane_at book l → set ≡ blocks → IsAskedOf read call doing writes gives promised later →
    IsAskedIn call doing writes gives promised (record book { blocks = blocks }) (record (with_lane book l later book.touched) { blocks = set }) l
taken_in book l read later call doing writes gives promised set blocks lt is same asked =
    subst (λ (bs : List Standing). IsAskedIn call doing writes gives promised (record book { blocks = bs }) (record (with_lane book l later book.touched) { blocks = set }) l) same
    (asked_in (record book { blocks = set }) l read later call doing writes gives promised lt is asked)

pub roomier_in : {E : Type 0} (book : Book E) (l : ℕ) (read later : Lane E) → l < length book.lanes.items → read ≡ lane_at book l → IsRoomier read later →
    IsRoomierIn book (with_lane book l later book.touched) l
roomier_in book l read later lt is roomier = record {
  is = ap (λ (x : Lane _). with_lane book l x book.touched) (sym (lane_at-same book l later book.touched lt));
  lane = subst (λ (x : Lane _). IsRoomier (lane_at book l) x) (sym (lane_at-same book l later book.touched lt))
      (subst (λ (x : Lane _). IsRoomier x later) is roomier);
}

same_entry : {E : Type 0} (lane later : Lane E) → IsRoomier lane later → later.entry ≡ lane.entry
same_entry lane later roomier = ap (λ (x : Lane _). x.entry) roomier.is

-- ---- a call that adds nothing to the lists

append_nil : {X : Type 0} (xs : List X) → xs ≡ xs ++ []
append_nil [] = refl
append_nil (x ∷ xs) = ap (λ (ys : List _). x ∷ ys) (append_nil xs)

no_writes : {E : Type 0} (call : Call E) (doing : Doing) → IsPlain call doing → waiting_writes doing ≡ 0
no_writes _ _ IsPlain.begin = refl
no_writes _ _ IsPlain.read = refl
no_writes _ _ IsPlain.abort = refl
no_writes _ _ IsPlain.checkpoint = refl
no_writes _ _ IsPlain.savepoint = refl
no_writes _ _ IsPlain.rollback = refl

no_gives : {E : Type 0} (call : Call E) (doing : Doing) → IsPlain call doing → waiting_gives doing ≡ 0
no_gives _ _ IsPlain.begin = refl
no_gives _ _ IsPlain.read = refl
no_gives _ _ IsPlain.abort = refl
no_gives _ _ IsPlain.checkpoint = refl
no_gives _ _ IsPlain.savepoint = refl
no_gives _ _ IsPlain.rollback = refl

plain_told : {E : Type 0} (mine : List (Entry E)) (entry : Option (Entry E)) (writes : List WordWrite) (call : Call E) (doing : Doing) → IsPlain call doing →
    call_of mine entry writes doing ≡ Some call
plain_told mine entry writes _ _ IsPlain.begin = refl
plain_told mine entry writes _ _ IsPlain.read = refl
plain_told mine entry writes _ _ IsPlain.abort = refl
plain_told mine entry writes _ _ IsPlain.checkpoint = refl
plain_told mine entry writes _ _ IsPlain.savepoint = refl
plain_told mine entry writes _ _ IsPlain.rollback = refl

plain_asks : {E : Type 0} (lane mid later : Lane E) (call : Call E) (doing : Doing) → IsPlain call doing → IsRoomier lane mid →
    later ≡ asked_lane call doing 0 mid → AsksFor lane call doing [] [] 0 later
plain_asks lane mid later call doing plain roomier is =
    subst (λ (x : Lane _). AsksFor lane call doing [] [] 0 x) (sym is)
    (subst (λ (x : Lane _). AsksFor lane call doing [] [] 0 (asked_lane call doing 0 x)) (sym roomier.is) record {
      is = refl;
      writes_more = roomier.writes ∙ append_nil lane.writes.items;
      gives_more = roomier.gives ∙ append_nil lane.gives.items;
      updates_stay = roomier.updates;
      points_stay = roomier.points;
      waiting = no_writes call doing plain;
      waiting_given = no_gives call doing plain;
      told = λ mine. plain_told mine lane.entry mid.writes.items call doing plain;
    })

few_points : (doing : Doing) (points capacity : ℕ) → points + 1 ≤ capacity → points + points_of doing ≤ capacity
few_points doing points capacity room = elim doing as (λ d. points + points_of d ≤ capacity) [
  | Doing.Nothing ↦ omega (arith, room)
  | Doing.Begin set ↦ omega (arith, room)
  | Doing.Read a ↦ omega (arith, room)
  | Doing.Write a v ↦ omega (arith, room)
  | Doing.Take s b ↦ omega (arith, room)
  | Doing.Give b ↦ omega (arith, room)
  | Doing.Commit ↦ omega (arith, room)
  | Doing.Abort ↦ omega (arith, room)
  | Doing.Checkpoint ↦ omega (arith, room)
  | Doing.Batch n ↦ omega (arith, room)
  | Doing.Savepoint ↦ room
  | Doing.RollbackTo n ↦ omega (arith, room)
]

pub plain_asked : {E : Type 0} (lane mid later : Lane E) (call : Call E) (doing : Doing) → IsPlain call doing → IsRoomier lane mid → HasRoom 0 0 0 1 mid →
    later ≡ asked_lane call doing 0 mid → IsAskedOf lane call doing [] [] 0 later
plain_asked lane mid later call doing plain roomier room is =
    subst (λ (x : Lane _). IsAskedOf lane call doing [] [] 0 x) (sym is) record {
      asks = plain_asks lane mid (asked_lane call doing 0 mid) call doing plain roomier refl;
      entry_stays = same_entry lane mid roomier;
      gates_stay = roomier.gates;
      updates_fit = room.updates_fit;
      gates_fit = room.gates_fit;
      points_fit = few_points doing (length mid.points.items) mid.points.capacity room.points_fit;
    }

-- ---- a take, a batch and a commit

-- the block that a take picks is set, which no face sees
pub asks_beside : {E : Type 0} (change : WholeFace E → WholeFace E) (book later : Book E) (l : ℕ) (blocks : List Standing) → Asks change book later l →
    Asks change book (record later { blocks = blocks }) l
asks_beside change book later l blocks asks = asks

drop_before : {X : Type 0} (n : ℕ) (xs ys : List X) → n ≡ length xs → drop n (xs ++ ys) ≡ ys
drop_before zero [] ys is = refl
drop_before zero (x ∷ xs) ys is = absurd (omega (arith, is))
drop_before (suc n) [] ys is = absurd (omega (arith, is))
drop_before (suc n) (x ∷ xs) ys is = drop_before n xs ys (omega (arith, is))

-- the last writes are those of the batch
last_of : (xs ys all : List WordWrite) → all ≡ xs ++ ys → drop (length all - length ys) all ≡ ys
last_of xs ys all is =
    ap (λ (zs : List WordWrite). drop (length zs - length ys) zs) is ∙
    drop_before (length (xs ++ ys) - length ys) xs ys (let l = length-append xs ys in omega (arith, l))

pub batch_told : {E : Type 0} (mine : List (Entry E)) (entry : Option (Entry E)) (xs ys all : List WordWrite) → all ≡ xs ++ ys →
    call_of mine entry all (Doing.Batch (length ys)) ≡ Some (Call.Batch ys)
batch_told mine entry xs ys all is = ap (λ (zs : List WordWrite). Some (Call.Batch zs)) (last_of xs ys all is)

-- a commit makes no room and adds nothing to the lists but its entry
pub commit_asks : {E : Type 0} (lane : Lane E) (e : Entry E) →
    AsksFor lane (Call.Commit e.deed) Doing.Commit [] [] 0 (record (asked_lane (Call.Commit e.deed) Doing.Commit 0 lane) { entry = Some e })
commit_asks lane e = record {
  is = refl;
  writes_more = append_nil lane.writes.items;
  gives_more = append_nil lane.gives.items;
  updates_stay = refl;
  points_stay = refl;
  waiting = refl;
  waiting_given = refl;
  told = λ mine. refl;
}

batch_asks : {E : Type 0} (lane mid later : Lane E) (call : Call E) (writes : List WordWrite) (promised : ℕ) → call ≡ Call.Batch writes → IsRoomier lane mid →
    later ≡ asked_lane call (Doing.Batch (length writes)) promised (with_more writes mid) → AsksFor lane call (Doing.Batch (length writes)) writes [] promised later
batch_asks lane mid later call writes promised batch roomier is =
    subst (λ (x : Lane _). AsksFor lane call (Doing.Batch (length writes)) writes [] promised x) (sym is)
    (subst (λ (x : Lane _). AsksFor lane call (Doing.Batch (length writes)) writes [] promised (asked_lane call (Doing.Batch (length writes)) promised (with_more writes x))) (sym roomier.is) record {
      is = refl;
      writes_more = more;
      gives_more = roomier.gives ∙ append_nil lane.gives.items;
      updates_stay = roomier.updates;
      points_stay = roomier.points;
      waiting = refl;
      waiting_given = refl;
      told = λ mine. batch_told mine lane.entry lane.writes.items writes (mid.writes.items ++ writes) more ∙ ap (λ (x : Call _). Some x) (sym batch);
    })
  where
    more : mid.writes.items ++ writes ≡ lane.writes.items ++ writes
    more = ap (λ (ws : List WordWrite). ws ++ writes) roomier.writes

pub batch_asked : {E : Type 0} (lane mid later : Lane E) (call : Call E) (writes : List WordWrite) (promised : ℕ) → call ≡ Call.Batch writes → IsRoomier lane mid →
    HasRoom (length writes) 0 0 0 mid → later ≡ asked_lane call (Doing.Batch (length writes)) promised (with_more writes mid) →
    IsAskedOf lane call (Doing.Batch (length writes)) writes [] promised later
batch_asked lane mid later call writes promised batch roomier room is =
    subst (λ (x : Lane _). IsAskedOf lane call (Doing.Batch (length writes)) writes [] promised x) (sym is) record {
      asks = batch_asks lane mid (asked_lane call (Doing.Batch (length writes)) promised (with_more writes mid)) call writes promised batch roomier refl;
      entry_stays = same_entry lane mid roomier;
      gates_stay = roomier.gates;
      updates_fit = room.updates_fit;
      gates_fit = room.gates_fit;
      points_fit = room.points_fit;
    }
