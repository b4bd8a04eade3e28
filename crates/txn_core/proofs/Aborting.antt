-- What the appends of an abort ask of the lane's book, and leave of it.
use Rattle.std.proofs.Common.{◌≡◌, ◌⊎◌, inl, inr, ℕ, ◌%◌, ◌<◌, ◌≤◌, true, false, List, [], ◌∷◌, length, reverse, None, refl, sym, ap, ◌∙◌, subst, arith}
use Rattle.std.proofs.Props.{props}
use Rattle.std.proofs.lemmas.List.{length-reverse}
use Rattle.std.proofs.Math.Logic.{∥∥₁_map, ∥∥₁_elim}
use Rattle.std.proofs.Math.Bridge.{le_prop}
use Rattle.std.specs.Coded.{Coded-set, coded_bool}
use Rattle.persist_model.specs.Region.{Region}
use Rattle.lane_traits.specs.Device.{Counts}
use Rattle.region_layout.specs.declared.cell.Cell.{Cell}
use Rattle.region_layout.specs.RecordCells.{cell_of_rollback, cell_of_compensation}
use Rattle.region_layout.specs.declared.layout.Layout.{Layout}
use Rattle.lane_types.specs.declared.call.Stepped.{Stepped}
use Rattle.lane_types.specs.Deeds.{Deeds}
use Rattle.lane_book.specs.declared.book.Book.{Book}
use Rattle.lane_book.specs.declared.lane.Lane.{Lane}
use Rattle.lane_book.specs.declared.lane.Doing.{Doing}
use Rattle.lane_book.specs.FacesOf.{lane_at}
use Rattle.lane_book.specs.Lanes.{moved}
use Rattle.lane_book.specs.Calls.{Moves}
use Rattle.lane_book.specs.Appends.{IsOpen, CanRollBack, CanCompensate, Falls, undoes}
use Rattle.log_keeper.specs.declared.keeper.LogKeeper.{LogKeeper}
use Rattle.log_keeper.specs.Keeper.{keeping_of}
use Rattle.txn_state.specs.Stages.{Stage, Opening, Undoing, Ending, stage_of}
use Rattle.txn_state.specs.AppendLaws.{IsNextCell, of_rollback, of_update, Notices, GoesOnTo, AreLeft}
use Rattle.txn_state.specs.ReadLaws.{appends_in}
use Rattle.txn_state.proofs.StageSteps.{commit_has, end_has, call_at, aborts_it}
use Rattle.txn_state.proofs.Ready.{lanes_are_ready}
use Rattle.txn_core.specs.declared.advancing.Went.{Went}
use Rattle.txn_core.specs.Running.{stored as run_stored}
use Rattle.txn_core.specs.Advancing.{Advances, Appends, waits, runs, stored}
use Rattle.txn_core.specs.States.{HasWorld, start_of}
use Rattle.txn_core.specs.Stepping.{StepsWorld}
use Rattle.txn_core.proofs.Appended.{paid_inside, paid_stage, paid_doing, stored_is_paid, lets_go_one}
use Rattle.txn_core.proofs.Facts.{IsRead}
use Rattle.txn_core.proofs.Exits.{append_stored_if_free, append_settled_if_free}
use Rattle.txn_core.proofs.Paying.{IsPaid}
use Rattle.txn_core.proofs.UnderWay.{LetsLatchGo, begun_paid, begun_world_if_free, stored_paid}

-- ---- the call

-- the stages that an abort alone has
pub aborts_at : {E : Type 0} (lane : Lane E) (stage : Stage) → stage_of lane ≡ stage → end_has stage ≡ true → commit_has stage ≡ false → lane.doing ≡ Doing.Abort
aborts_at lane stage is ends off = (aborts_it lane.has_records lane.doing stage off (call_at lane.phase lane.has_records lane.part lane.doing stage is ends)).1

-- ---- the next cell

pub next_rollback : {E : Type 0} (region : Region) (lane read : Lane E) (cell : Cell) → stage_of lane ≡ Opening → read ≡ lane → cell ≡ cell_of_rollback read.transaction →
    IsNextCell region lane cell
next_rollback region lane read cell at is made =
    subst (IsNextCell region lane) (sym (made ∙ ap (λ (x : Lane _). cell_of_rollback x.transaction) is)) (of_rollback at)

some_first : (cells : List Cell) → 1 ≤ length cells → (c : Cell) × (others : List Cell) × (cells ≡ c ∷ others)
some_first [] some = absurd (omega (arith, some))
some_first (c ∷ others) some = (c, others, refl)

-- The cell is that of the newest update, where one is left.
pub next_compensation : {E : Type 0} (region : Region) (lane : Lane E) (newest cell : Cell) → stage_of lane ≡ Undoing → 1 ≤ length lane.updates.items →
    ((c : Cell) (others : List Cell) → reverse lane.updates.items ≡ c ∷ others → newest ≡ c) → cell ≡ cell_of_compensation newest → IsNextCell region lane cell
next_compensation region lane newest cell at some first made =
    let n = length-reverse lane.updates.items in
    let top = some_first (reverse lane.updates.items) (omega (arith, some, n)) in
    subst (IsNextCell region lane) (sym (made ∙ ap cell_of_compensation (first top.0 top.1 top.2))) (of_update top.0 top.1 at top.2)

-- One is left where the append begins.
pub some_to_undo : {E : Type 0} (deeds : Deeds E) (layout : Layout) (book : Book E) (keeper : LogKeeper) (region : Region) (spare : ℕ) (counts : Counts) (l : ℕ) →
    l < length book.lanes.items → stage_of (lane_at book l) ≡ Undoing → HasWorld deeds layout book keeper region spare counts →
    (keeping_of keeper).holder (l % layout.partitions) ≡ 17 → 1 ≤ length (lane_at book l).updates.items
some_to_undo deeds layout book keeper region spare counts l lt at world free = ∥∥₁_elim world le_prop (λ w.
    lanes_are_ready.some_update layout (start_of layout w.0) book keeper region spare counts.events l lt at (inr free) (inr free) w.1.state)

-- ---- the gate is stored

-- What stood behind the begin of an append whose gate was to be stored next; and the lane has paid since.
pub record WasAtGate {E : Type 0} (deeds : Deeds E) (layout : Layout) (first between : Book E) (region : Region) (spare : ℕ) (counts : Counts) (l : ℕ) : Type 0 where
  pub book : Book E
  pub keeper : LogKeeper
  pub inside : l < length book.lanes.items
  pub stage : stage_of (lane_at book l) ≡ stage_of (lane_at first l)
  pub left : AreLeft layout keeper (l % layout.partitions) 2
  pub holder : (keeping_of keeper).holder (l % layout.partitions) ≡ l
  pub world : HasWorld deeds layout book keeper region spare counts
  pub paid : IsPaid book between l

at_gate : {E : Type 0} (deeds : Deeds E) (layout : Layout) (book first between : Book E) (keeper mid : LogKeeper) (region behind : Region) (spare left : ℕ) (counts after : Counts) (l : ℕ) (c : Cell) →
    l < length book.lanes.items → stage_of (lane_at book l) ≡ stage_of (lane_at first l) → HasWorld deeds layout book keeper region spare counts →
    Advances deeds layout keeper mid region behind counts after spare left book between l (Went.Stored c) → IsPaid book between l →
    WasAtGate deeds layout first between region spare counts l
at_gate deeds layout book first between keeper mid region behind spare left counts after l _ lt same world (stored cell (run_stored e place d is counted over part made) pays) paid = record {
  book = book;
  keeper = keeper;
  inside = lt;
  stage = same;
  left = over;
  holder = is.holder;
  world = world;
  paid = paid;
}

module _ {E : Type 0} (deeds : Deeds E) (layout : Layout) (first between : Book E) (region : Region) (spare : ℕ) (counts : Counts) (l : ℕ)
    (was : WasAtGate deeds layout first between region spare counts l) where
  -- its end isn't stored,
  pub open_at_gate : (stage_of (lane_at first l) ≡ Opening) ⊎ (stage_of (lane_at first l) ≡ Undoing) ⊎ (stage_of (lane_at first l) ≡ Ending) → IsOpen (lane_at between l)
  open_at_gate at =
      let is_open : IsOpen (lane_at was.book l) = ∥∥₁_elim was.world (hlevel props) (λ w.
      lanes_are_ready.is_open layout (start_of layout w.0) was.book was.keeper region spare counts.events l was.inside
      (subst (λ s. (s ≡ Opening) ⊎ (s ≡ Undoing) ⊎ (s ≡ Ending)) (sym was.stage) at) was.left was.holder w.1.state) in
      record {
        records = ap (λ (x : Lane _). x.has_records) was.paid.goes.lanes.here ∙ is_open.records;
        going = ap (λ (x : Lane _). x.ended) was.paid.goes.lanes.here ∙ is_open.going;
      }

  -- nor a rollback record before one is appended,
  pub unrolled_at_gate : stage_of (lane_at first l) ≡ Opening → (lane_at between l).rolled ≡ false
  unrolled_at_gate at = ap (λ (x : Lane _). x.rolled) was.paid.goes.lanes.here ∙ ∥∥₁_elim was.world (Coded-set coded_bool _ _) (λ w.
      lanes_are_ready.unrolled layout (start_of layout w.0) was.book was.keeper region spare counts.events l was.inside (was.stage ∙ at) was.left was.holder w.1.state)

  -- and an update is left to compensate
  pub some_at_gate : stage_of (lane_at first l) ≡ Undoing → 1 ≤ length (lane_at between l).updates.items
  some_at_gate at = subst (λ n. 1 ≤ n) (sym (ap (λ (x : Lane _). length x.updates.items) was.paid.goes.lanes.here)) (∥∥₁_elim was.world le_prop (λ w.
      lanes_are_ready.some_update layout (start_of layout w.0) was.book was.keeper region spare counts.events l was.inside (was.stage ∙ at) (inl was.left) (inl was.holder) w.1.state))

  pub doing_at_gate : (stage : Stage) → stage_of (lane_at first l) ≡ stage → end_has stage ≡ true → commit_has stage ≡ false → (lane_at between l).doing ≡ Doing.Abort
  doing_at_gate stage at ends off = paid_doing was.book between l was.paid ∙ aborts_at (lane_at was.book l) stage (was.stage ∙ at) ends off

  pub can_roll_back : stage_of (lane_at first l) ≡ Opening → CanRollBack (lane_at between l)
  can_roll_back at = record { call = doing_at_gate Opening at refl refl; is_open = open_at_gate (inl at); first = unrolled_at_gate at }

  pub can_compensate : stage_of (lane_at first l) ≡ Undoing → CanCompensate (lane_at between l)
  can_compensate at = record { call = ap undoes (doing_at_gate Undoing at refl refl); is_open = open_at_gate (inr (inl at)); some = some_at_gate at }

-- ---- behind an append

module _ {E : Type 0} (deeds : Deeds E) (layout : Layout) (book between : Book E) (keeper kept : LogKeeper) (words : List ℕ) (region behind : Region) (spare left : ℕ) (counts after : Counts) (l : ℕ)
    (cell : Cell) (lt : l < length book.lanes.items) where
  pub was_at_gate : (c : Cell) → IsRead words region counts → ((keeping_of keeper).holder (l % layout.partitions) ≡ 17 → IsNextCell region (lane_at book l) cell) →
      HasWorld deeds layout book keeper region spare counts → Appends deeds layout keeper kept words region behind counts after spare left book between l cell (Went.Stored c) →
      WasAtGate deeds layout book between region spare counts l
  was_at_gate c read next world (waits holder is waiting same device) = absurd (cc)
  was_at_gate c read next world (runs mid begun_book begun advance) =
      let paid = begun_paid layout keeper mid book begun_book words l cell lt begun in
      let inside = paid_inside book begun_book l paid in
      at_gate deeds layout begun_book book between mid kept region behind spare left counts after l c inside (paid_stage book begun_book l paid)
      (∥∥₁_map world (λ w. (w.0, begun_world_if_free deeds layout w.0 keeper mid book begun_book words region spare counts l cell read lt next begun w.1))) advance
      (stored_paid deeds layout begun_book between mid kept region behind spare left counts after l c inside advance).paid

  -- ---- its ends

  module _ (read : IsRead words region counts) (appends : appends_in (stage_of (lane_at book l)) ≡ true)
      (next : (keeping_of keeper).holder (l % layout.partitions) ≡ 17 → IsNextCell region (lane_at book l) cell) where
    -- the store of its gate, behind which the call is at the same part
    pub stored_step : (later : Book E) (c : Cell) (lane : Lane E) (part : ℕ) (answer : Stepped) → answer ≡ Stepped.Moved → part ≡ (lane_at book l).part →
        Appends deeds layout keeper kept words region behind counts after spare left book between l cell (Went.Stored c) → Notices (lane_at between l) c lane → Falls 1 between later l →
        Moves deeds between later l None answer (moved part lane) → StepsWorld deeds layout book later keeper kept region behind spare left counts after l answer
    stored_step later c lane part answer told same went notices falls moves =
        let paid = stored_is_paid deeds layout book between keeper kept words region behind spare left counts after l cell lt c went in
        subst (λ (a : Stepped). StepsWorld deeds layout book later keeper kept region behind spare left counts after l a) (sym told)
        (append_stored_if_free deeds layout book between later keeper kept words region behind spare left counts after l cell c lane read lt appends next went notices
        (lets_go_one layout between later l falls)
        (subst (λ n. Moves deeds between later l None Stepped.Moved (moved n lane)) (same ∙ sym (ap (λ (x : Lane E). x.part) paid.goes.lanes.here))
        (subst (λ (a : Stepped). Moves deeds between later l None a (moved part lane)) told moves)))

    -- its last event, behind which the latch is let go and the call goes on
    pub settled_step : (later : Book E) (end : LogKeeper) (part : ℕ) (answer : Stepped) → answer ≡ Stepped.Moved →
        Appends deeds layout keeper kept words region behind counts after spare left book between l cell Went.Whole → GoesOnTo (lane_at between l) part →
        LetsLatchGo (l % layout.partitions) kept end → Moves deeds between later l None answer (moved part (lane_at between l)) →
        StepsWorld deeds layout book later keeper end region behind spare left counts after l answer
    settled_step later end part answer told went goes lets moves =
        subst (λ (a : Stepped). StepsWorld deeds layout book later keeper end region behind spare left counts after l a) (sym told)
        (append_settled_if_free deeds layout book between later keeper kept end words region behind spare left counts after l part cell read lt appends next went goes lets
        (subst (λ (a : Stepped). Moves deeds between later l None a (moved part (lane_at between l))) told moves))
