-- What the events of an update's append leave.
use Rattle.std.proofs.Common.{◌≡◌, inl, ℕ, ◌+◌, ◌%◌, ◌<◌, ◌≤◌, true, refl, List, length, None, sym, ap, ◌∙◌, subst}
use Rattle.std.proofs.Math.Logic.{∥∥₁_map, ∥∥₁_elim}
use Rattle.std.proofs.Math.Bridge.{le_prop}
use Rattle.persist_model.specs.Region.{Region}
use Rattle.lane_traits.specs.Device.{Counts}
use Rattle.region_layout.specs.declared.cell.Cell.{Cell}
use Rattle.region_layout.specs.declared.layout.Layout.{Layout}
use Rattle.lane_types.specs.declared.call.Stepped.{Stepped}
use Rattle.lane_types.specs.Deeds.{Deeds}
use Rattle.lane_types.specs.Faces.{Base}
use Rattle.lane_book.specs.declared.book.Book.{Book}
use Rattle.lane_book.specs.declared.lane.Lane.{Lane}
use Rattle.lane_book.specs.declared.lane.Doing.{Doing}
use Rattle.lane_book.specs.FacesOf.{lane_at}
use Rattle.lane_book.specs.Lanes.{moved, paid_event}
use Rattle.lane_book.specs.Appends.{CanUpdate, Falls, with_update, writes_one}
use Rattle.lane_book.specs.Calls.{Moves}
use Rattle.log_keeper.specs.declared.keeper.LogKeeper.{LogKeeper}
use Rattle.txn_state.specs.declared.parts.TheConstants.{STORE}
use Rattle.txn_state.specs.Stages.{Naming, stage_of}
use Rattle.txn_state.specs.Ties.{WaitsToAppend}
use Rattle.txn_state.specs.AppendLaws.{IsNextCell, update, store_word}
use Rattle.txn_state.specs.ReadLaws.{appends_in}
use Rattle.txn_state.proofs.Ready.{lanes_are_ready}
use Rattle.txn_core.specs.declared.advancing.Went.TheVariants as Went
use Rattle.txn_core.specs.Running.{stored as run_stored}
use Rattle.txn_core.specs.Advancing.{Appends, waits, runs, stored}
use Rattle.txn_core.specs.Putting.{Puts}
use Rattle.txn_core.specs.Stepping.{StepsWorld}
use Rattle.txn_core.specs.States.{IsWorld, HasWorld, start_of}
use Rattle.txn_core.proofs.Appended.{stored_is_paid, whole_is_paid, lets_go_one}
use Rattle.txn_core.proofs.Facts.{IsRead}
use Rattle.txn_core.proofs.Exits.{LetsLatchGo, append_stored, append_settled}
use Rattle.txn_core.proofs.Latching.{begun_stage}
use Rattle.txn_core.proofs.Paying.{goes_lane, inside_then}
use Rattle.txn_core.proofs.UnderWay.{begun_paid, begun_world}

-- a call that is to write one word
puts_one : (layout : Layout) (d : Doing) (a v : ℕ) → Puts layout d a v → writes_one d ≡ true
puts_one layout _ _ _ (Puts.write {a} {v}) = refl
puts_one layout _ _ _ (Puts.take {s} {k}) = refl

-- ---- the append of an update

module _ {E : Type 0} (deeds : Deeds E) (layout : Layout) (book between : Book E) (keeper mid : LogKeeper) (words : List ℕ) (region behind : Region) (spare left : ℕ) (counts after : Counts) (l : ℕ) (cell : Cell)
    (read : IsRead words region counts) (lt : l < length book.lanes.items) (at : stage_of (lane_at book l) ≡ Naming) (next : IsNextCell region (lane_at book l) cell) where
  -- behind the store of the gate the lane has a place and cells for its update,
  waiting_lane : HasWorld deeds layout book keeper region spare counts → (c : Cell) → Appends deeds layout keeper mid words region behind counts after spare left book between l cell (Went.Stored c) →
      WaitsToAppend (lane_at between l)
  waiting_lane world c (waits holder is waiting same device) = absurd (cc)
  waiting_lane world c (runs begun_log begun_book begun (stored d (run_stored e place f made counted are part_is keeps) pays)) = record {
    promised = subst (λ (x : Lane _). 2 ≤ x.promised) (sym here) (∥∥₁_elim begun_worlds le_prop (λ y. (ready y.0 y.1).promised));
    place = subst (λ (x : Lane _). length x.updates.items + 1 ≤ x.updates.capacity) (sym here) (∥∥₁_elim begun_worlds le_prop (λ y. (ready y.0 y.1).place));
  }
    where
      inside : l < length begun_book.lanes.items
      inside = inside_then book begun_book l _ (begun_paid layout keeper begun_log book begun_book words l cell lt begun).goes

      here : lane_at between l ≡ paid_event (lane_at begun_book l)
      here = (goes_lane begun_book between l (paid_event (lane_at begun_book l)) begun_book.touched inside pays).lanes.here

      begun_worlds : HasWorld deeds layout begun_book begun_log region spare counts
      begun_worlds = ∥∥₁_map world (λ y. (y.0, begun_world deeds layout y.0 keeper begun_log book begun_book words region spare counts l cell read lt next begun y.1))

      ready : (base : Base) → IsWorld deeds layout base begun_book begun_log region spare counts.events → WaitsToAppend (lane_at begun_book l)
      ready base w = lanes_are_ready.updates layout (start_of layout base) begun_book begun_log region spare counts.events l inside
          (begun_stage layout book begun_book keeper begun_log words l cell lt begun ∙ at) (inl are) (inl made.holder) w.state

  pub can_update : (a v : ℕ) → HasWorld deeds layout book keeper region spare counts → Puts layout (lane_at book l).doing a v → (c : Cell) →
      Appends deeds layout keeper mid words region behind counts after spare left book between l cell (Went.Stored c) → CanUpdate (lane_at between l)
  can_update a v world puts c went = record {
    call = ap (λ (x : Lane _). writes_one x.doing) (stored_is_paid deeds layout book between keeper mid words region behind spare left counts after l cell lt c went).goes.lanes.here ∙ puts_one layout (lane_at book l).doing a v puts;
    cells = (waiting_lane world c went).promised;
    room = (waiting_lane world c went).place;
  }

  -- which it notes
  pub update_stored : (later : Book E) (c : Cell) (part : ℕ) (answer : Stepped) → answer ≡ Stepped.Moved → part ≡ (lane_at book l).part →
      Appends deeds layout keeper mid words region behind counts after spare left book between l cell (Went.Stored c) → Falls 1 between later l →
      Moves deeds between later l None answer (moved part (with_update c (lane_at between l))) →
      StepsWorld deeds layout book later keeper mid region behind spare left counts after l answer
  update_stored later c part answer told same went falls moves =
      let here : lane_at between l ≡ _ = (stored_is_paid deeds layout book between keeper mid words region behind spare left counts after l cell lt c went).goes.lanes.here in
      subst (λ (s : Stepped). StepsWorld deeds layout book later keeper mid region behind spare left counts after l s) (sym told)
      (append_stored deeds layout book between later keeper mid words region behind spare left counts after l cell c (with_update c (lane_at between l)) read lt (ap appends_in at) next went
      (update (ap (λ (x : Lane _). stage_of x) here ∙ at)) (lets_go_one layout between later l falls)
      (subst (λ (n : ℕ). Moves deeds between later l None Stepped.Moved (moved n (with_update c (lane_at between l)))) (same ∙ sym (ap (λ (x : Lane _). x.part) here))
      (subst (λ (s : Stepped). Moves deeds between later l None s (moved part (with_update c (lane_at between l)))) told moves)))

  -- the record is settled
  pub update_settled : (later : Book E) (kept : LogKeeper) (answer : Stepped) → answer ≡ Stepped.Moved →
      Appends deeds layout keeper mid words region behind counts after spare left book between l cell Went.Whole → LetsLatchGo (l % layout.partitions) mid kept →
      Moves deeds between later l None answer (moved STORE (lane_at between l)) → StepsWorld deeds layout book later keeper kept region behind spare left counts after l answer
  update_settled later kept answer told went lets moves =
      let here : lane_at between l ≡ _ = (whole_is_paid deeds layout book between keeper mid words region behind spare left counts after l cell lt went).goes.lanes.here in
      subst (λ (s : Stepped). StepsWorld deeds layout book later keeper kept region behind spare left counts after l s) (sym told)
      (append_settled deeds layout book between later keeper mid kept words region behind spare left counts after l STORE cell read lt (ap appends_in at) next went
      (store_word (ap (λ (x : Lane _). stage_of x) here ∙ at)) lets
      (subst (λ (s : Stepped). Moves deeds between later l None s (moved STORE (lane_at between l))) told moves))
