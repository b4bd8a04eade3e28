-- The store of the gate of a transaction's end.
use Rattle.std.proofs.Common.{◌≡◌, inl, inr, ℕ, ◌+◌, ◌%◌, ◌<◌, ◌≤◌, ◌==◌, if◌then◌else◌, Bool, true, false, List, length, None, refl, sym, ap, ◌∙◌, subst, arith}
use Rattle.std.proofs.Props.{props}
use Rattle.std.proofs.Math.Logic.{∥∥₁_elim}
use Rattle.std.proofs.lemmas.Bool.Decides.{eqb_tells}
use Rattle.persist_model.specs.Region.{Region}
use Rattle.lane_traits.specs.Device.{Counts}
use Rattle.region_layout.specs.declared.cell.Cell.{Cell}
use Rattle.region_layout.specs.declared.layout.Layout.{Layout}
use Rattle.lane_types.specs.declared.call.Stepped.{Stepped}
use Rattle.lane_types.specs.Deeds.{Deeds}
use Rattle.lane_types.specs.Faces.{Base}
use Rattle.lane_book.specs.declared.book.Book.{Book}
use Rattle.lane_book.specs.declared.lane.Lane.{Lane}
use Rattle.lane_book.specs.FacesOf.{lane_at}
use Rattle.lane_book.specs.Lanes.{moved}
use Rattle.lane_book.specs.Appends.{IsOpen, Falls, with_end}
use Rattle.lane_book.specs.Reserved.{undo_cells}
use Rattle.lane_book.specs.Calls.{Moves}
use Rattle.log_keeper.specs.declared.keeper.LogKeeper.{LogKeeper}
use Rattle.txn_state.specs.Stages.{Ending, stage_of}
use Rattle.txn_state.specs.AppendLaws.{IsNextCell, LetsGoOne, end}
use Rattle.txn_state.specs.ReadLaws.{appends_in}
use Rattle.txn_state.proofs.Ready.{lanes_are_ready}
use Rattle.txn_core.specs.declared.advancing.Went.TheVariants as Went
use Rattle.txn_core.specs.Running.{stored as run_stored}
use Rattle.txn_core.specs.Advancing.{Advances, Appends, waits, runs, stored}
use Rattle.txn_core.specs.Stepping.{StepsWorld}
use Rattle.txn_core.specs.States.{IsWorld, HasWorld, start_of}
use Rattle.txn_core.proofs.Appended.{paid_inside, paid_part, paid_stage, stored_is_paid}
use Rattle.txn_core.proofs.Facts.{IsRead}
use Rattle.txn_core.proofs.Exits.{append_stored}
use Rattle.txn_core.proofs.Stagings.{test_on}
use Rattle.txn_core.proofs.UnderWay.{begun_paid, begun_world, stored_paid}
use Rattle.txn_core.proofs.EndedLanes.{open_on}

-- ---- the transaction is open yet

open_prop : {E : Type 0} (lane : Lane E) → IsProp (IsOpen lane)
open_prop lane = hlevel props

run_open : {E : Type 0} (deeds : Deeds E) (layout : Layout) (base : Base) (book between : Book E) (keeper mid : LogKeeper) (region behind : Region)
    (spare left : ℕ) (counts after : Counts) (l : ℕ) (c : Cell) →
    l < length book.lanes.items → stage_of (lane_at book l) ≡ Ending →
    Advances deeds layout keeper mid region behind counts after spare left book between l (Went.Stored c) →
    IsWorld deeds layout base book keeper region spare counts.events → IsOpen (lane_at book l)
run_open deeds layout base book between keeper mid region behind spare left counts after l _ lt at
    (stored c (run_stored e place _ made counted are part_is keeps) pays) world =
    lanes_are_ready.is_open layout (start_of layout base) book keeper region spare counts.events l lt (inr (inr at)) are made.holder world.state

pub ends_open : {E : Type 0} (deeds : Deeds E) (layout : Layout) (book between : Book E) (keeper mid : LogKeeper) (words : List ℕ) (region behind : Region)
    (spare left : ℕ) (counts after : Counts) (l : ℕ) (cell c : Cell) →
    IsRead words region counts → l < length book.lanes.items → stage_of (lane_at book l) ≡ Ending → IsNextCell region (lane_at book l) cell →
    HasWorld deeds layout book keeper region spare counts →
    Appends deeds layout keeper mid words region behind counts after spare left book between l cell (Went.Stored c) → IsOpen (lane_at between l)
ends_open deeds layout book between keeper mid words region behind spare left counts after l cell c read lt at next world
    (waits holder is waiting same device) = absurd (cc)
ends_open deeds layout book between keeper mid words region behind spare left counts after l cell c read lt at next world (runs begun_log begun_book begun advance) =
    let paid = begun_paid layout keeper begun_log book begun_book words l cell lt begun in
    let inside = paid_inside book begun_book l paid in
    open_on begun_book between l (stored_paid deeds layout begun_book between begun_log mid region behind spare left counts after l c inside advance).paid
    (∥∥₁_elim world (open_prop (lane_at begun_book l)) (λ w.
    run_open deeds layout w.0 begun_book between begun_log mid region behind spare left counts after l c inside (paid_stage book begun_book l paid ∙ at) advance
    (begun_world deeds layout w.0 keeper begun_log book begun_book words region spare counts l cell read lt next begun w.1)))

-- ---- what was reserved

some_cells : (a b : ℕ) → 1 ≤ a + (b + 1)
some_cells a b = omega arith

falls_by : (a b n : ℕ) (there here : Bool) → 1 ≤ n → (here ≡ true → there ≡ true) → a + (if there then n else 0) ≡ b → a + (if here then 1 else 0) ≤ b
falls_by a b n true true some both is = omega (arith, some, is)
falls_by a b n true false some both is = omega (arith, is)
falls_by a b n false false some both is = omega (arith, is)
falls_by a b n false true some both is = absurd (let wrong = both refl in cc)

turned : (p q : ℕ) → (q == p) ≡ true → (p == q) ≡ true
turned p q on = elim (eqb_tells q p) [ inl k ↦ test_on p q (sym k.1) | inr k ↦ absurd (let wrong = sym on ∙ k.0 in cc) ]

-- the end is one of the cells that are let go
pub lets_one_go : {E : Type 0} (layout : Layout) (book later : Book E) (l : ℕ) → Falls (undo_cells (lane_at book l)) book later l →
    LetsGoOne layout book later (l % layout.partitions)
lets_one_go layout book later l falls q =
    falls_by _ _ (undo_cells (lane_at book l)) ((l % layout.partitions) == q) (q == (l % layout.partitions)) (some_cells (length (lane_at book l).updates.items) _)
    (turned (l % layout.partitions) q) (falls layout.partitions 0 q)

-- ---- the step

pub end_is_stored : {E : Type 0} (deeds : Deeds E) (layout : Layout) (book between later : Book E) (keeper kept : LogKeeper) (words : List ℕ)
    (region behind : Region) (spare left : ℕ) (counts after : Counts) (l part : ℕ) (cell c : Cell) (answer : Stepped) →
    IsRead words region counts → l < length book.lanes.items → stage_of (lane_at book l) ≡ Ending → IsNextCell region (lane_at book l) cell →
    Appends deeds layout keeper kept words region behind counts after spare left book between l cell (Went.Stored c) →
    part ≡ (lane_at book l).part → answer ≡ Stepped.Moved → Falls (undo_cells (lane_at between l)) between later l →
    Moves deeds between later l None answer (moved part (with_end (lane_at between l))) →
    StepsWorld deeds layout book later keeper kept region behind spare left counts after l answer
end_is_stored deeds layout book between later keeper kept words region behind spare left counts after l part cell c answer read lt at next went
    same told falls moves =
    let paid = stored_is_paid deeds layout book between keeper kept words region behind spare left counts after l cell lt c went in
    let moves_on : Moves deeds between later l None answer (moved (lane_at between l).part (with_end (lane_at between l))) =
    subst (λ n. Moves deeds between later l None answer (moved n (with_end (lane_at between l)))) (same ∙ sym (paid_part book between l paid)) moves in
    subst (λ (a : Stepped). StepsWorld deeds layout book later keeper kept region behind spare left counts after l a) (sym told)
    (append_stored deeds layout book between later keeper kept words region behind spare left counts after l cell c (with_end (lane_at between l)) read lt
    (ap appends_in at) next went
    (end (paid_stage book between l paid ∙ at)) (lets_one_go layout between later l falls)
    (subst (λ (a : Stepped). Moves deeds between later l None a (moved (lane_at between l).part (with_end (lane_at between l)))) told moves_on))
