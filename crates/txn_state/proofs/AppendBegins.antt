-- An append begins: the lane takes the latch of its partition, and the record draws its number.
use Rattle.std.proofs.Common.{◌≡◌, ◌≢◌, inl, inr, ℕ, zero, suc, ◌+◌, ◌-◌, ◌*◌, ◌%◌, ◌<◌, ◌≤◌, ◌^◌, ◌==◌, ◌&&◌, ◌++◌, not, Bool, true, false, if◌then◌else◌, List, [], ◌∷◌, length, map, take, reverse, append-nil, length-append, Some, refl, sym, ap, ◌∙◌, subst, arith}
use Rattle.std.specs.Prelude.{slice_get}
use Rattle.std.proofs.Math.Nat.{mul-le-mul_right}
use Rattle.persist_model.specs.Region.{Words, Region, newest}
use Rattle.persist_model.specs.Progress.{Write, write, latest}
use Rattle.persist_model.specs.Kinds.{END}
use Rattle.persist_model.specs.Records.{Log, Record, IsAmong, NamesWord}
use Rattle.persist_model.specs.Shape.{Shape, log_words, block, IsRootOwner, IsCellCount}
use Rattle.persist_model.specs.Chain.{view}
use Rattle.persist_model.specs.State.{State}
use Rattle.persist_model.specs.declared.kinds.Outcome.TheVariants.{Committed, RolledBack}
use Rattle.region_layout.specs.declared.layout.Layout.{Layout}
use Rattle.region_layout.specs.declared.cell.Cell.{Cell}
use Rattle.region_layout.specs.Layout.{layout_shape, IsDataWord, block_number}
use Rattle.region_layout.specs.Cell.{record_of}
use Rattle.region_layout.specs.RecordCells.{with_number, cell_of_compensation, cell_of_rollback, cell_of_end}
use Rattle.bucket_log.specs.declared.append.Place.{Place}
use Rattle.bucket_log.specs.Plans.{place_address}
use Rattle.bucket_log.specs.Appends.{CanAppend, region_append}
use Rattle.plan_records.specs.declared.parts.Update.{Update}
use Rattle.plan_records.proofs.OwnRecords.{to_undo_among}
use Rattle.offset_alloc.specs.declared.Standing.{Standing}
use Rattle.lane_traits.specs.declared.draft.WordWrite.{WordWrite}
use Rattle.lane_book.specs.declared.book.Book.{Book}
use Rattle.lane_book.specs.declared.lane.Lane.{Lane}
use Rattle.lane_book.specs.FacesOf.{lane_at}
use Rattle.lane_book.specs.Books.{IsBook}
use Rattle.lane_book.specs.Reserved.{is_bound}
use Rattle.log_keeper.specs.declared.keeper.LogKeeper.{LogKeeper}
use Rattle.log_keeper.specs.Keeper.{keeping_of, appending}
use Rattle.log_keeper.specs.Ledger.{Drawn, Noted, newest_log}
use Rattle.log_keeper.specs.Listing.{gate_if, gates_in}
use Rattle.log_keeper.specs.Logged.{Keeping as Kept, begun, latched}
use Rattle.log_keeper.specs.Parts.{Running, rests, appends as adds, plan_of}
use Rattle.log_keeper.proofs.Made.{over_not}
use Rattle.history_laws.specs.Histories.{fold}
use Rattle.history_laws.specs.UnderWay.{Added, an_update, a_deletion, a_rollback, a_compensation, an_undone_end, a_commit_end, cell_of, Adding, record_of_adding, UnderWay, nothing, appends, closes, takes_back, drops, run_of}
use Rattle.txn_laws.specs.Txns.{Txn, txn_at}
use Rattle.txn_laws.specs.Owners.{IsMine}
use Rattle.txn_laws.specs.AreTransactions.{IsUpdateAt, AreUpdatesOf, IsGoing}
use Rattle.txn_laws.specs.NextRecords.{ComesNext, is_end}
use Rattle.txn_laws.specs.Asks.{drawn, MayDraw}
use Rattle.txn_laws.specs.Rooms.{Share, sum_below, reserved_in, AreBound, HasReserved}
use Rattle.txn_laws.specs.Worlds.{World, IsWorldAt}
use Rattle.txn_laws.proofs.Asking.{latches_keep, appends_begin as begins_append}
use Rattle.txn_laws.proofs.Reading.{own_reads}
use Rattle.txn_laws.proofs.Moments.{append_part}
use Rattle.txn_laws.proofs.Reserved.{newest_are_bound, cells_are_reserved}
use Rattle.txn_state.specs.Stages.{Stage, Naming, Opening, Undoing, Ending, stage_of, is_commit, Deleting}
use Rattle.txn_state.specs.Seen.{booked, noticed}
use Rattle.txn_state.specs.Ties.{plain_write, plain_entry, IsWrittenWord, AreCellsOf, top_of, IsUpdating, IsRollingBack, IsCompensating, IsEnding, appends_it, IsGoingOn, IsNaming, IsOpening, IsUndoing, IsEndingIt, IsCome, WaitsToAppend, under_of, IsLaneOf, HasGiven, IsDeleting, IsGiving, WaitsToDelete}
use Rattle.txn_state.specs.Owing.{Needs, needs_at, records_noted}
use Rattle.txn_state.specs.Numbers.{unpaid}
use Rattle.txn_state.specs.States.{IsStateOf, reserved_for}
use Rattle.txn_state.specs.Changes.{GoesTo, HasDrawn, paid_record}
use Rattle.txn_state.specs.AppendLaws.{top_cell, write_cell, IsNextCell, of_write, of_rollback, of_update, of_end, IsPlaceRead, latched_append, AppendsBegin, deletion_cell, DeletionsBegin}
use Rattle.txn_state.proofs.Making.{test_same, test_other, under_held, under_free, IsChangedIn, held_changed, held_by_lane, adds_same, takes_same, beside_changed}
use Rattle.txn_state.proofs.Lanes.{reserved_less, lane_sum, its_entry, same_entry, entries_stay, world_book, roomy_less}
use Rattle.txn_state.proofs.StageSteps.{EndsCall, commit, abort, call_at, no_give}
use Rattle.txn_state.proofs.Named.{updates_counted}
use Rattle.txn_state.proofs.PlanLengths.{append_between}
use Rattle.txn_state.proofs.Rebuilding.{Owes, owes_here, unpaid_sum, numbered_there, rebuilt}
use Rattle.txn_state.proofs.EndsSettling.{room_fewer}
use Rattle.txn_state.proofs.AppendReads as reads
use Rattle.txn_state.proofs.AppendReads.{share_by, share_some, bound_there}
use Rattle.lane_book.specs.declared.lane.Doing.{Doing}
use Rattle.plan_records.specs.declared.parts.Giving.{Giving}
use Rattle.txn_state.proofs.Given.{given_owner, give_waits, given_last}

-- ---- lists

some_same : {A : Type 0} (x y : A) → Some x ≡ Some y → x ≡ y
some_same x y e = cc

slice_map : {A B : Type 0} (f : A → B) (xs : List A) (n : ℕ) (x : A) → slice_get xs n ≡ Some x → slice_get (map f xs) n ≡ Some (f x)
slice_map f [] n x is = cc
slice_map f (y ∷ xs) zero x is = ap (λ z. Some (f z)) (some_same y x is)
slice_map f (y ∷ xs) (suc n) x is = slice_map f xs n x is

slice_among : {A : Type 0} (xs : List A) (n : ℕ) (x : A) → slice_get xs n ≡ Some x → IsAmong xs x
slice_among [] n x is = cc
slice_among (y ∷ xs) zero x is = inl (some_same x y (sym is))
slice_among (y ∷ xs) (suc n) x is = inr (slice_among xs n x is)

-- the newest update's cell
top_same : (cells : List Cell) (updates : List Record) → AreCellsOf cells updates → top_cell cells ≡ top_of updates
top_same [] [] are = refl
top_same [] (u ∷ updates) are = absurd are
top_same (c ∷ cells) [] are = absurd are
top_same (c ∷ cells) (u ∷ updates) are = ap (λ (r : Record). r.lsn) are.0

first_of : (c : Cell) (cells : List Cell) (updates : List Record) → AreCellsOf (c ∷ cells) updates → (u : Record) × (others : List Record) × (updates ≡ u ∷ others) × (record_of u.at c ≡ u)
first_of c cells [] are = absurd are
first_of c cells (u ∷ updates) are = (u, updates, refl, are.0)

-- a data word is no owner's
no_owner : (shape : Shape) (a : ℕ) → IsDataWord shape a → IsRootOwner shape a → ⊥
no_owner shape a data_word owner =
    let same = owner.2 in let number : block_number shape a ≡ owner.0 = omega (arith, same) in data_word.1 (same ∙ ap (block shape) (sym number))

-- nor is the owner word of a block that isn't a root
no_root : (shape : Shape) (a : ℕ) → IsWrittenWord shape a → IsRootOwner shape a → ⊥
no_root shape a (inl data_word) root = no_owner shape a data_word root
no_root shape a (inr plain) root = let plain_is = plain.3 in let root_is = root.2 in let above = plain.1 in let below = root.1 in omega (arith, plain_is, root_is, above, below)

-- a record of this kind names no word
names_none : (r : Record) → r.kind ≢ 1 → r.kind ≢ 2 → r.kind ≢ 6 → NamesWord r → ⊥
names_none r a b c (inl (inl e)) = a e
names_none r a b c (inl (inr e)) = b e
names_none r a b c (inr e) = c e

-- ---- the record that comes

-- so many events are left at most, a record less is wanted, and as many gates
pub record IsDrawnOf (needs later : Needs) : Type 0 where
  pub events : later.events ≤ needs.events
  pub records : later.records + 1 ≤ needs.records
  pub gates : later.gates ≤ needs.gates

abbrev pub more_noted : Added → ℕ
more_noted added = if is_end added then 0 else 1

-- what an append adds for the lane's transaction, and what is so of it
pub record IsComing {E : Type 0} (shape : Shape) (s : State) (h : Words) (p next : ℕ) (place : Place) (lane : Lane E) (x : Txn) (added : Added) : Type 0 where
  pub one : 1 ≤ x.number
  pub runs : x.over ≡ false
  pub unended : x.ended ≡ false
  pub of : (cell_of added).transaction ≡ x.number
  pub own : NamesWord (record_of (place_address place) (with_number next (cell_of added))) → IsMine x (cell_of added).word
  pub comes : ComesNext shape s h x (record_of (place_address place) (with_number next (cell_of added))) added
  pub come : (adding : Adding) → adding.added ≡ added → IsCome s.log (appends adding 0) x (stage_of lane)
  pub less : (adding : Adding) → adding.added ≡ added → (j c : ℕ) →
      IsDrawnOf (needs_at shape p j c nothing x (stage_of lane)) (needs_at shape p (j + more_noted added) c (appends adding 0) x (stage_of lane))

-- the cell is that of what is added
pub record HasComing {E : Type 0} (shape : Shape) (s : State) (h : Words) (p next : ℕ) (place : Place) (lane : Lane E) (x : Txn) (cell : Cell) : Type 0 where
  pub added : Added
  pub cell_is : cell_of added ≡ cell
  pub of_block : (k : ℕ) → lane.doing ≡ Doing.Give k → cell.word ≡ block shape k
  pub coming : IsComing shape s h p next place lane x added

going_on : (adding : Adding) (x : Txn) → IsGoingOn nothing x → IsGoingOn (appends adding 0) x
going_on adding x going = record { some = going.some; runs = going.runs; unended = λ e. absurd (let none : appends adding 0 ≡ nothing = e in cc) }

-- the cell that comes next, or that of a deletion
pub data ComesIn {E : Type 0} (layout : Layout) (region : Region) (lane : Lane E) : Cell → Type 0 where
  known : (cell : Cell) → IsNextCell region lane cell → ComesIn layout region lane cell
  deletes : (k : ℕ) → stage_of lane ≡ Deleting → lane.doing ≡ Doing.Give k → IsAmong lane.gives.items k → ComesIn layout region lane (deletion_cell layout region lane k)

module _ (E : Type 0) (layout : Layout) (start : Words) (region : Region) (base : Words) (s : State) (chains : ℕ → List ℕ) (w : World) (l : ℕ) (world : IsWorldAt (layout_shape layout) base s chains start w region)
    (blocks : List Standing) (newest_is : Log) (p : ℕ) (lane : Lane E) (is : IsLaneOf layout blocks s.log newest_is nothing p lane (txn_at w.lanes l)) (next : ℕ) (place : Place)
    (cells : (added : Added) → 1 ≤ (txn_at w.lanes l).number → (txn_at w.lanes l).over ≡ false → (cell_of added).transaction ≡ (txn_at w.lanes l).number → is_bound lane ≡ true →
    HasReserved (layout_shape layout) s (txn_at w.lanes l) (record { promised = lane.promised; bound = is_bound lane }) (record_of (place_address place) (with_number next (cell_of added)))) where
  abbrev x : Txn
  x = txn_at w.lanes l

  abbrev h : Words
  h = fold start w.history

  going_of : (txn_at w.lanes l).over ≡ false → IsGoing s.log (fold start w.history) (txn_at w.lanes l)
  going_of runs = (world.transactions.each l).going runs

  unended_of : IsGoingOn nothing (txn_at w.lanes l) → lane.ended ≡ false
  unended_of going = sym is.txn.ended ∙ going.unended refl

  short : (adding : Adding) → length (region_append (layout_shape layout) p adding.place (record_of_adding adding)) ≤ 21 + layout.cells
  short adding = (append_between (layout_shape layout) p adding.place (record_of_adding adding)).1

  recorded_at : (stage : Stage) → EndsCall lane.has_records lane.doing stage → lane.has_records ≡ true
  recorded_at stage (commit on doing has) = on
  recorded_at stage (abort on doing has) = on

  -- an update
  module _ (wr : WordWrite) (at : stage_of lane ≡ Naming) (got : slice_get lane.writes.items lane.stored ≡ Some wr) where
    come_naming : IsNaming nothing (txn_at w.lanes l)
    come_naming = subst (IsCome s.log nothing (txn_at w.lanes l)) at is.come

    abbrev update_is : Update
    update_is = record { transaction = lane.transaction; word = wr.address; before = newest (region.at wr.address); after = wr.value; undo_next = top_cell (reverse lane.updates.items) }

    write_is : slice_get (txn_at w.lanes l).writes (length (txn_at w.lanes l).updates) ≡ Some (write wr.address wr.value)
    write_is = ap (λ (ws : List Write). slice_get ws (length (txn_at w.lanes l).updates)) is.txn.writes
        ∙ ap (slice_get (map plain_write lane.writes.items)) (come_naming.updates_are ∙ is.txn.stored) ∙ slice_map plain_write lane.writes.items lane.stored wr got

    mine : IsMine (txn_at w.lanes l) wr.address
    mine = (going_of come_naming.going.runs).writes_own (write wr.address wr.value) (slice_among (txn_at w.lanes l).writes (length (txn_at w.lanes l).updates) (write wr.address wr.value) write_is)

    before_is : newest (region.at wr.address) ≡ latest (take (length (txn_at w.lanes l).updates) (txn_at w.lanes l).writes) wr.address (fold start w.history wr.address)
    before_is = own_reads (layout_shape layout) base s chains start w region l wr.address come_naming.going.runs mine world
        ∙ ap (λ (b : Bool). latest (if b then [] else take (txn_at w.lanes l).stored (txn_at w.lanes l).writes) wr.address (fold start w.history wr.address)) come_naming.going.runs
        ∙ ap (λ (n : ℕ). latest (take n (txn_at w.lanes l).writes) wr.address (fold start w.history wr.address)) (sym come_naming.updates_are)

    waits_on : WaitsToAppend lane
    waits_on = is.naming at (updates_counted lane.updates.items (txn_at w.lanes l).updates is.txn.updates ∙ come_naming.updates_are ∙ is.txn.stored)

    bound_naming : is_bound lane ≡ true
    bound_naming = bound_there E lane (inr (let two = waits_on.promised in omega (arith, two))) (unended_of come_naming.going)

    has_naming : HasReserved (layout_shape layout) s (txn_at w.lanes l) (record { promised = lane.promised; bound = is_bound lane })
        (record_of (place_address place) (with_number next (cell_of (an_update update_is))))
    has_naming = cells (an_update update_is) come_naming.going.some come_naming.going.runs (sym is.txn.number) bound_naming

    comes_update : HasComing (layout_shape layout) s (fold start w.history) p next place lane (txn_at w.lanes l) (write_cell region lane wr)
    comes_update = record {
      added = an_update update_is;
      cell_is = refl;
      of_block = λ k call. absurd (no_give lane.phase lane.has_records lane.part lane.doing Naming k call at (λ e. (let off : Naming ≡ Deleting = e in cc)));
      coming = record {
        one = come_naming.going.some;
        runs = come_naming.going.runs;
        unended = come_naming.going.unended refl;
        of = sym is.txn.number;
        own = λ names. mine;
        comes = record {
          no_root = no_root (layout_shape layout) wr.address (is.written_words wr (slice_among lane.writes.items lane.stored wr got));
          of_write = record { of_write = write_is; before = before_is };
          point_is = top_same (reverse lane.updates.items) (txn_at w.lanes l).updates is.txn.updates ∙ sym is.txn.point;
          unrolled = come_naming.unrolled;
          cells = has_naming.updates come_naming.unrolled waits_on.promised;
        };
        come = λ adding same. subst (IsCome s.log (appends adding 0) (txn_at w.lanes l)) (sym at) (record {
          going = going_on adding (txn_at w.lanes l) come_naming.going;
          last_waits = come_naming.last_waits;
          updates_are = come_naming.updates_are;
          unrolled = come_naming.unrolled;
          under_way = appends_it adding 0 refl (subst IsUpdating (sym same) tt);
        });
        less = λ adding same j c. subst (λ st. IsDrawnOf (needs_at (layout_shape layout) p j c nothing (txn_at w.lanes l) st) (needs_at (layout_shape layout) p (j + 1) c (appends adding 0) (txn_at w.lanes l) st))
            (sym at) (let most = short adding in record { events = omega (arith, most); records = omega arith; gates = omega arith });
      };
    }

  -- a rollback record
  comes_rollback : stage_of lane ≡ Opening → HasComing (layout_shape layout) s (fold start w.history) p next place lane (txn_at w.lanes l) (cell_of_rollback lane.transaction)
  comes_rollback at = record {
    added = a_rollback lane.transaction;
    cell_is = refl;
    of_block = λ k call. absurd (no_give lane.phase lane.has_records lane.part lane.doing Opening k call at (λ e. (let off : Opening ≡ Deleting = e in cc)));
    coming = record {
      one = come.going.some;
      runs = come.going.runs;
      unended = come.going.unended refl;
      of = sym is.txn.number;
      own = λ names. absurd (names_none (record_of (place_address place) (with_number next (cell_of_rollback lane.transaction))) (λ e. omega (arith, e)) (λ e. omega (arith, e)) (λ e. omega (arith, e)) names);
      comes = (come.written.unrolled, has.rolls_back come.written.unrolled);
      come = λ adding same. subst (IsCome s.log (appends adding 0) (txn_at w.lanes l)) (sym at) (record {
        going = going_on adding (txn_at w.lanes l) come.going;
        written = come.written;
        under_way = appends_it adding 0 refl (subst IsRollingBack (sym same) tt);
      });
      less = λ adding same j c. subst (λ st. IsDrawnOf (needs_at (layout_shape layout) p j c nothing (txn_at w.lanes l) st) (needs_at (layout_shape layout) p (j + 1) c (appends adding 0) (txn_at w.lanes l) st))
          (sym at) (let most = short adding in record { events = omega (arith, most); records = omega arith; gates = omega arith });
    };
  }
    where
      come : IsOpening nothing (txn_at w.lanes l)
      come = subst (IsCome s.log nothing (txn_at w.lanes l)) at is.come

      has : HasReserved (layout_shape layout) s (txn_at w.lanes l) (record { promised = lane.promised; bound = is_bound lane })
          (record_of (place_address place) (with_number next (cell_of_rollback lane.transaction)))
      has = cells (a_rollback lane.transaction) come.going.some come.going.runs (sym is.txn.number)
          (bound_there E lane (inl (recorded_at Opening (call_at lane.phase lane.has_records lane.part lane.doing Opening at refl))) (unended_of come.going))

  -- a compensation
  comes_compensation : (c : Cell) (others : List Cell) → stage_of lane ≡ Undoing → reverse lane.updates.items ≡ c ∷ others →
      HasComing (layout_shape layout) s (fold start w.history) p next place lane (txn_at w.lanes l) (cell_of_compensation c)
  comes_compensation c others at turned = record {
    added = a_compensation first.0 c;
    cell_is = refl;
    of_block = λ k call. absurd (no_give lane.phase lane.has_records lane.part lane.doing Undoing k call at (λ e. (let off : Undoing ≡ Deleting = e in cc)));
    coming = record {
      one = come.going.some;
      runs = come.going.runs;
      unended = come.going.unended refl;
      of = ap (λ (r : Record). r.transaction) first.3 ∙ of_first;
      own = λ names. subst (IsMine (txn_at w.lanes l)) (sym (ap (λ (r : Record). r.word) first.3)) mine_first;
      comes = (cell_first, record { others = first.1; newest_is = first.2 });
      come = λ adding same. subst (IsCome s.log (appends adding 0) (txn_at w.lanes l)) (sym at) (record {
        going = going_on adding (txn_at w.lanes l) come.going;
        rolled = come.rolled;
        some = come.some;
        stored_are = come.stored_are;
        under_way = appends_it adding 0 refl (subst IsCompensating (sym same) tt);
      });
      less = λ adding same j c. subst (λ st. IsDrawnOf (needs_at (layout_shape layout) p j c nothing (txn_at w.lanes l) st) (needs_at (layout_shape layout) p (j + 1) c (appends adding 0) (txn_at w.lanes l) st))
          (sym at) (let most = short adding in record { events = omega (arith, most); records = omega arith; gates = omega arith });
    };
  }
    where
      come : IsUndoing nothing (txn_at w.lanes l)
      come = subst (IsCome s.log nothing (txn_at w.lanes l)) at is.come

      first : (u : Record) × (rest : List Record) × ((txn_at w.lanes l).updates ≡ u ∷ rest) × (record_of u.at c ≡ u)
      first = first_of c others (txn_at w.lanes l).updates (subst (λ (cs : List Cell). AreCellsOf cs (txn_at w.lanes l).updates) turned is.txn.updates)

      of_first : first.0.transaction ≡ (txn_at w.lanes l).number
      of_first = (to_undo_among (txn_at w.lanes l).number s.log first.0 (subst (λ (us : List Record). IsAmong us first.0) (sym ((going_of come.going.runs).to_undo_is ∙ first.2)) (inl refl))).2

      update_first : IsUpdateAt (fold start w.history) (txn_at w.lanes l).writes (length first.1) first.0
      update_first = (subst (AreUpdatesOf (fold start w.history) (txn_at w.lanes l).writes) first.2 (going_of come.going.runs).updates_are).0

      mine_first : IsMine (txn_at w.lanes l) first.0.word
      mine_first = (going_of come.going.runs).writes_own (write first.0.word first.0.after)
          (slice_among (txn_at w.lanes l).writes (length first.1) (write first.0.word first.0.after) update_first.of_write)

      cell_first : record_of first.0.at (with_number first.0.lsn c) ≡ first.0
      cell_first = (λ i. record_of first.0.at (record c { lsn = number i })) ∙ first.3
        where
          number : first.0.lsn ≡ c.lsn
          number = sym (ap (λ (r : Record). r.lsn) first.3)

  -- an end
  comes_end : stage_of lane ≡ Ending → HasComing (layout_shape layout) s (fold start w.history) p next place lane (txn_at w.lanes l)
      (cell_of_end lane.transaction (if is_commit lane.doing then Committed else RolledBack))
  comes_end at = by (is_commit lane.doing) refl
    where
      come : IsEndingIt nothing (txn_at w.lanes l)
      come = subst (IsCome s.log nothing (txn_at w.lanes l)) at is.come

      bound : is_bound lane ≡ true
      bound = bound_there E lane (inl (recorded_at Ending (call_at lane.phase lane.has_records lane.part lane.doing Ending at refl))) (unended_of come.going)

      come_on : (adding : Adding) → IsEnding (txn_at w.lanes l).commits adding.added → IsCome s.log (appends adding 0) (txn_at w.lanes l) (stage_of lane)
      come_on adding kind = subst (IsCome s.log (appends adding 0) (txn_at w.lanes l)) (sym at) (record {
        going = going_on adding (txn_at w.lanes l) come.going;
        fenced = come.fenced;
        stored_are = come.stored_are;
        commits_all = come.commits_all;
        undone_all = come.undone_all;
        rolled_is = come.rolled_is;
        under_way = appends_it adding 0 refl kind;
      })

      less_on : (adding : Adding) (j c : ℕ) → IsDrawnOf (needs_at (layout_shape layout) p j c nothing (txn_at w.lanes l) (stage_of lane))
          (needs_at (layout_shape layout) p (j + 0) c (appends adding 0) (txn_at w.lanes l) (stage_of lane))
      less_on adding j c = subst (λ st. IsDrawnOf (needs_at (layout_shape layout) p j c nothing (txn_at w.lanes l) st) (needs_at (layout_shape layout) p (j + 0) c (appends adding 0) (txn_at w.lanes l) st))
          (sym at) (let most = short adding in record { events = omega (arith, most); records = omega arith; gates = omega arith })

      names_no : (outcome : ℕ) → NamesWord (record_of (place_address place) (record { lsn = next; transaction = lane.transaction; kind = 4; word = 0; before = 0; after = 0; undo_next = 0; outcome = outcome })) → ⊥
      names_no outcome names = names_none (record_of (place_address place) (record { lsn = next; transaction = lane.transaction; kind = 4; word = 0; before = 0; after = 0; undo_next = 0; outcome = outcome }))
          (λ e. omega (arith, e)) (λ e. omega (arith, e)) (λ e. omega (arith, e)) names

      by : (b : Bool) → is_commit lane.doing ≡ b → HasComing (layout_shape layout) s (fold start w.history) p next place lane (txn_at w.lanes l)
          (cell_of_end lane.transaction (if is_commit lane.doing then Committed else RolledBack))
      by true commits = record {
        added = a_commit_end lane.transaction;
        cell_is = ap (λ (b : Bool). cell_of_end lane.transaction (if b then Committed else RolledBack)) (sym commits);
        of_block = λ k call. absurd (no_give lane.phase lane.has_records lane.part lane.doing Ending k call at (λ e. (let off : Ending ≡ Deleting = e in cc)));
        coming = record {
          one = come.going.some;
          runs = come.going.runs;
          unended = come.going.unended refl;
          of = sym is.txn.number;
          own = λ names. absurd (names_no 1 names);
          comes = (
            come.commits_all (is.txn.commits ∙ commits),
            record {
              commits_is = is.txn.commits ∙ commits;
              fenced_is = come.fenced;
              stored_is = come.stored_are;
              cells = (cells (a_commit_end lane.transaction) come.going.some come.going.runs (sym is.txn.number) bound).ends;
            },
          );
          come = λ adding same. come_on adding (subst (IsEnding (txn_at w.lanes l).commits) (sym same) (is.txn.commits ∙ commits));
          less = λ adding same. less_on adding;
        };
      }
      by false aborts = record {
        added = an_undone_end lane.transaction;
        cell_is = ap (λ (b : Bool). cell_of_end lane.transaction (if b then Committed else RolledBack)) (sym aborts);
        of_block = λ k call. absurd (no_give lane.phase lane.has_records lane.part lane.doing Ending k call at (λ e. (let off : Ending ≡ Deleting = e in cc)));
        coming = record {
          one = come.going.some;
          runs = come.going.runs;
          unended = come.going.unended refl;
          of = sym is.txn.number;
          own = λ names. absurd (names_no 2 names);
          comes = (
            come.undone_all (is.txn.commits ∙ aborts),
            record {
              commits_is = is.txn.commits ∙ aborts;
              fenced_is = come.fenced;
              stored_is = come.stored_are;
              cells = (cells (an_undone_end lane.transaction) come.going.some come.going.runs (sym is.txn.number) bound).ends;
            },
          );
          come = λ adding same. come_on adding (subst (IsEnding (txn_at w.lanes l).commits) (sym same) (is.txn.commits ∙ aborts));
          less = λ adding same. less_on adding;
        };
      }

  -- a deletion
  module _ (k : ℕ) (at : stage_of lane ≡ Deleting) (call : lane.doing ≡ Doing.Give k) (among : IsAmong lane.gives.items k) where
    abbrev giving : Giving
    giving = record { transaction = lane.transaction; owner_word = block (layout_shape layout) k; owner = newest (region.at (block (layout_shape layout) k)) }

    come_giving : IsGiving nothing (txn_at w.lanes l)
    come_giving = subst (IsCome s.log nothing (txn_at w.lanes l)) at is.come

    waits_to : WaitsToDelete lane
    waits_to = give_waits layout blocks s.log newest_is p lane (txn_at w.lanes l) is at

    has_giving : HasReserved (layout_shape layout) s (txn_at w.lanes l) (record { promised = lane.promised; bound = is_bound lane })
        (record_of (place_address place) (with_number next (cell_of (a_deletion giving))))
    has_giving = cells (a_deletion giving) come_giving.going.some come_giving.going.runs (sym is.txn.number) (bound_there E lane (inr waits_to.0) (unended_of come_giving.going))

    comes_deletion : HasComing (layout_shape layout) s (fold start w.history) p next place lane (txn_at w.lanes l) (deletion_cell layout region lane k)
    comes_deletion = record {
      added = a_deletion giving;
      cell_is = refl;
      of_block = λ j other. (let same : Doing.Give k ≡ Doing.Give j = sym call ∙ other in let one : k ≡ j = cc in ap (block (layout_shape layout)) one);
      coming = record {
        one = come_giving.going.some;
        runs = come_giving.going.runs;
        unended = come_giving.going.unended refl;
        of = sym is.txn.number;
        own = λ names. given_owner layout blocks lane.held lane.gives.items lane.gates.items (txn_at w.lanes l).gifts (txn_at w.lanes l).words k is.given among;
        comes = record {
          plain = (k, (is.given.each k among).plain, (is.given.each k among).inside, refl);
          unrolled = come_giving.written.unrolled;
          cells = has_giving.deletes come_giving.written.unrolled waits_to.0;
        };
        come = λ adding same. subst (IsCome s.log (appends adding 0) (txn_at w.lanes l)) (sym at) (record {
          going = going_on adding (txn_at w.lanes l) come_giving.going;
          written = come_giving.written;
          under_way = appends_it adding 0 refl (subst IsDeleting (sym same) tt);
        });
        less = λ adding same j c. subst (λ st. IsDrawnOf (needs_at (layout_shape layout) p j c nothing (txn_at w.lanes l) st) (needs_at (layout_shape layout) p (j + 1) c (appends adding 0) (txn_at w.lanes l) st))
            (sym at) (let most = short adding in record { events = omega (arith, most); records = omega arith; gates = omega arith });
      };
    }

  pub coming_of : (cell : Cell) → IsNextCell region lane cell → HasComing (layout_shape layout) s (fold start w.history) p next place lane (txn_at w.lanes l) cell
  coming_of _ (of_write wr at got) = comes_update wr at got
  coming_of _ (of_rollback at) = comes_rollback at
  coming_of _ (of_update c others at turned) = comes_compensation c others at turned
  coming_of _ (of_end at) = comes_end at

  pub coming_in : (cell : Cell) → ComesIn layout region lane cell → HasComing (layout_shape layout) s (fold start w.history) p next place lane (txn_at w.lanes l) cell
  coming_in _ (known cell next_cell) = coming_of cell next_cell
  coming_in _ (deletes k at call among) = comes_deletion k at call among

-- ---- numbers

unpaid_most : (u : UnderWay) → unpaid u ≤ 10
unpaid_most nothing = omega arith
unpaid_most (appends adding made) = omega arith
unpaid_most (closes gates ends made) = omega arith
unpaid_most (takes_back gates made) = omega arith
unpaid_most (drops r made) = omega arith

unpaid_few : (under : ℕ → UnderWay) (n : ℕ) → sum_below (λ q. unpaid (under q)) n ≤ 10 * n
unpaid_few under zero = omega arith
unpaid_few under (suc n) = let others = unpaid_few under n in let one = unpaid_most (under n) in omega (arith, others, one)

few_cells : (c n : ℕ) → c ≤ 16 → n ≤ 1027 → c * n ≤ 16432
few_cells c n low most = let times = mul-le-mul_right n low in omega (arith, times, most)

number_fits : (next events few area : ℕ) → 10 * next ≤ events + (10 + few) → few ≤ 30 → events < 2 ^ 64 → area ≤ 16432 → next + 1 + area + 1 ≤ 2 ^ 63
number_fits next events few area records low below small = omega (arith, records, low, below, small)

-- ---- the record in the ledger

noted_more : (t lane : ℕ) (place : Place) (next : ℕ) (added : Added) → (cell_of added).transaction ≡ t →
    length (gate_if t false (record { lane = lane; entry = record_of (place_address place) (with_number next (cell_of added)); stage = Drawn })) ≡ more_noted added
noted_more t lane place next (an_update u) of = ap (λ (b : Bool). length (if b && true then place_address place ∷ [] else [])) (test_same u.transaction t of)
noted_more t lane place next (a_deletion g) of = ap (λ (b : Bool). length (if b && true then place_address place ∷ [] else [])) (test_same g.transaction t of)
noted_more t lane place next (a_rollback n) of = ap (λ (b : Bool). length (if b && true then place_address place ∷ [] else [])) (test_same n t of)
noted_more t lane place next (a_compensation u cell) of = ap (λ (b : Bool). length (if b && true then place_address place ∷ [] else [])) (test_same cell.transaction t of)
noted_more t lane place next (an_undone_end n) of = ap (λ (b : Bool). length (if b && false then place_address place ∷ [] else [])) (test_same n t of)
noted_more t lane place next (a_commit_end n) of = ap (λ (b : Bool). length (if b && false then place_address place ∷ [] else [])) (test_same n t of)

none_noted : (t : ℕ) (q : Noted) → q.entry.transaction ≢ t → gate_if t false q ≡ []
none_noted t q ne = ap (λ (b : Bool). if b && not (q.entry.kind == END) then q.entry.at ∷ [] else []) (test_other q.entry.transaction t ne)

-- ---- the law

module _ (E : Type 0) (layout : Layout) (start : Words) (book later : Book E) (keeper taken : LogKeeper) (region : Region) (spare events l : ℕ) (place : Place) (cell : Cell)
    (free : (keeping_of keeper).holder (l % layout.partitions) ≡ 17) (read : IsPlaceRead layout (l % layout.partitions) region place) (next_cell : ComesIn layout region (lane_at book l) cell)
    (filled : (a : ℕ) → a < region.size → 0 < length (region.at a)) (low : events < 2 ^ 64) (goes : GoesTo book later l (paid_record (lane_at book l))) (is_book : IsBook later)
    (draws : HasDrawn keeper taken (latched_append (l % layout.partitions) l place cell keeper)) (st : IsStateOf layout start book keeper region spare events) where
  abbrev part : ℕ
  part = l % layout.partitions

  abbrev txn : Txn
  txn = txn_at st.w.lanes l

  abbrev held : World
  held = record st.w { keeping = latched (l % layout.partitions) l st.w.keeping }

  inside : l % layout.partitions < layout.partitions
  inside = let one = st.world.log.logged.allowed.partitions.0 in omega (arith, one)

  free_there : st.w.keeping.holder part ≡ 17
  free_there = ap (λ (k : Kept). k.holder part) st.tied.keeping ∙ free

  rests_there : st.w.under part ≡ nothing
  rests_there = st.tied.held.free part inside free_there

  part_rests : (st.w.keeping.runs part).part ≡ rests
  part_rests = ap (λ (run : Running). run.part) (st.world.parts part inside).run ∙ ap (λ (u : UnderWay). (run_of u).part) rests_there

  in_lanes : l < length st.w.lanes
  in_lanes = subst (λ (n : ℕ). l < n) (sym st.tied.lanes) goes.lanes.inside

  few : length st.w.lanes ≤ 16
  few = subst (λ (n : ℕ). n ≤ 16) (sym st.tied.lanes) st.is_book.few

  nobody : (k : ℕ) → k < length st.w.lanes → st.w.keeping.holder part ≢ k
  nobody k lt same = let most = few in let is = free_there in omega (arith, lt, most, is, same)

  under_none : under_of (layout_shape layout) st.w l ≡ nothing
  under_none = under_free st.w part l (nobody l in_lanes)

  was : IsLaneOf layout book.blocks st.s.log (newest_log st.w.keeping.ledger) nothing part (lane_at book l) (txn_at st.w.lanes l)
  was = subst (λ (u : UnderWay). IsLaneOf layout book.blocks st.s.log (newest_log st.w.keeping.ledger) u part (lane_at book l) (txn_at st.w.lanes l)) under_none (st.tied.each l in_lanes)

  world_held : IsWorldAt (layout_shape layout) st.base st.s st.chains start held region
  world_held = latches_keep (layout_shape layout) st.base st.s st.chains start st.w region part l inside part_rests st.world

  holder_held : held.keeping.holder part ≡ l
  holder_held = ap (λ (b : Bool). if b then l else st.w.keeping.holder part) (test_same part part refl)

  some_number : st.w.next ≢ 0
  some_number none = let one = st.opens in let is = st.tied.next in omega (arith, none, one, is)

  can : (added : Added) → CanAppend (layout_shape layout) part (view part (log_words (layout_shape layout) st.base)) (st.chains part) place
      (record_of (place_address place) (with_number st.w.next (cell_of added)))
  can added = reads.read_place (layout_shape layout) st.base st.s st.chains st.w.keeping region part inside part_rests st.world.log.logged filled place
      (record_of (place_address place) (with_number st.w.next (cell_of added))) read refl some_number

  abbrev shares_there : ℕ → Share
  shares_there = λ j. share_by (txn_at st.w.lanes j).number (lane_at book j)

  cells_there : (added : Added) → 1 ≤ (txn_at st.w.lanes l).number → (txn_at st.w.lanes l).over ≡ false → (cell_of added).transaction ≡ (txn_at st.w.lanes l).number → is_bound (lane_at book l) ≡ true →
      HasReserved (layout_shape layout) st.s (txn_at st.w.lanes l) (record { promised = (lane_at book l).promised; bound = is_bound (lane_at book l) })
      (record_of (place_address place) (with_number st.w.next (cell_of added)))
  cells_there added one runs of bound = subst (λ (c : Share). HasReserved (layout_shape layout) st.s (txn_at st.w.lanes l) c (record_of (place_address place) (with_number st.w.next (cell_of added))))
      (share_some E (txn_at st.w.lanes l).number (lane_at book l) one)
      (cells_are_reserved (layout_shape layout) st.base st.s st.chains start held region (reserved_for layout book) shares_there l (record_of (place_address place) (with_number st.w.next (cell_of added))) (record {
        lane = in_lanes;
        inside = subst (λ (q : ℕ). q < layout.partitions) (sym here) inside;
        free = subst (λ (q : ℕ). (st.w.keeping.runs q).part ≡ rests) (sym here) part_rests;
        runs = runs;
        of = of;
        here = append_part (layout_shape layout) part (view part (log_words (layout_shape layout) st.base)) (st.chains part) place
            (record_of (place_address place) (with_number st.w.next (cell_of added))) st.world.log.logged.allowed inside (can added) ∙ sym here;
        kept = ap (λ (c : Share). c.bound) (share_some E (txn_at st.w.lanes l).number (lane_at book l) one) ∙ bound;
        others = subst (λ (q : ℕ). AreBound q st.s.log shares_there st.w.lanes) (sym here)
            (newest_are_bound (layout_shape layout) st.base st.s st.chains start held region shares_there part world_held
            (reads.newest_bound E layout start book keeper region st.base st.s st.chains st.w st.world st.tied few part free_there));
        roomy = st.roomy;
        covers = subst (λ (q : ℕ). reserved_in shares_there st.w.lanes q ≤ reserved_for layout book q) (sym here)
            (reads.covered E layout start book keeper region st.base st.s st.chains st.w st.world st.tied few part free_there);
      }) world_held)
    where
      here : (txn_at st.w.lanes l).part ≡ part
      here = was.txn.here one

  found : HasComing (layout_shape layout) st.s (fold start st.w.history) part st.w.next place (lane_at book l) (txn_at st.w.lanes l) cell
  found = coming_in E layout start region st.base st.s st.chains st.w l st.world book.blocks (newest_log st.w.keeping.ledger) part (lane_at book l) was st.w.next place cells_there cell next_cell

  abbrev adding : Adding
  adding = record { place = place; number = st.w.next; added = found.added }

  abbrev v : World
  v = drawn (l % layout.partitions) place found.added held

  small : layout.cells * (layout.buckets + layout.partitions) ≤ 16432
  small = few_cells layout.cells (layout.buckets + layout.partitions) (cells_few st.world.log.logged.allowed.cells)
      (let buckets = st.world.log.logged.allowed.buckets.1 in let parts = st.world.log.logged.allowed.partitions.1 in omega (arith, buckets, parts))
    where
      cells_few : IsCellCount layout.cells → layout.cells ≤ 16
      cells_few (inl one) = omega (arith, one)
      cells_few (inr sixteen) = omega (arith, sixteen)

  may : MayDraw (layout_shape layout) st.base st.s st.chains (fold start st.w.history) held part (txn_at st.w.lanes (held.keeping.holder part)) adding
  may = subst (λ (j : ℕ). MayDraw (layout_shape layout) st.base st.s st.chains (fold start st.w.history) held part (txn_at st.w.lanes j) adding) (sym holder_held) (record {
    inside = inside;
    free = part_rests;
    can = can found.added;
    number = found.coming.one;
    of = found.coming.of;
    here = was.txn.here found.coming.one;
    runs = found.coming.runs;
    unended = found.coming.unended;
    own = found.coming.own;
    comes = found.coming.comes;
    numbers = (
        let many = unpaid_few st.w.under layout.partitions in
        let parts = st.world.log.logged.allowed.partitions.1 in
        number_fits st.w.next events (sum_below (λ (q : ℕ). unpaid (st.w.under q)) layout.partitions) (layout.cells * (layout.buckets + layout.partitions)) st.numbered.records
        (omega (arith, many, parts)) low small);
  })

  world_drawn : IsWorldAt (layout_shape layout) st.base st.s st.chains start v region
  world_drawn = begins_append (layout_shape layout) st.base st.s st.chains start held region part place found.added may world_held

  holder_is : v.keeping.holder part ≡ l
  holder_is = ap (λ (b : Bool). if b then held.keeping.holder part else held.keeping.holder part) (test_same part part refl) ∙ holder_held

  under_here : v.under part ≡ appends adding 0
  under_here = ap (λ (b : Bool). if b then appends adding 0 else st.w.under part) (test_same part part refl)

  under_is : under_of (layout_shape layout) v l ≡ appends adding 0
  under_is = under_held v part l holder_is ∙ under_here

  changed : IsChangedIn (layout_shape layout) l st.w v
  changed = record {
    holders = λ q ne. ap (λ (b : Bool). if b then held.keeping.holder part else held.keeping.holder q) (test_other q part ne)
        ∙ ap (λ (b : Bool). if b then l else st.w.keeping.holder q) (test_other q part ne);
    runs = λ q ne. ap (λ (b : Bool). if b then begun (adds place (record_of_adding adding)) else st.w.keeping.runs q) (test_other q part ne);
    unders = λ q ne. ap (λ (b : Bool). if b then appends adding 0 else st.w.under q) (test_other q part ne);
    before = λ k ne lt. nobody k lt;
    behind = λ k ne lt same. ne (sym same ∙ holder_is);
    count = refl;
    others = λ k ne. refl;
  }

  long : 10 ≤ length (region_append (layout_shape layout) part place (record_of_adding adding))
  long = (append_between (layout_shape layout) part place (record_of_adding adding)).0

  noticed_none : noticed (layout_shape layout) part (appends adding 0) (txn_at st.w.lanes l) ≡ txn_at st.w.lanes l
  noticed_none = ap (λ (b : Bool). if b then booked found.added (record_of_adding adding) (txn_at st.w.lanes l) else txn_at st.w.lanes l)
      (over_not (region_append (layout_shape layout) part place (record_of_adding adding)) (0 + 1) (let many = long in omega (arith, many)))

  own_drawn : IsLaneOf layout book.blocks st.s.log (newest_log st.w.keeping.ledger) (appends adding 0) part (paid_record (lane_at book l)) (txn_at st.w.lanes l)
  own_drawn = record {
    txn = record {
      number = was.txn.number;
      here = was.txn.here;
      writes = was.txn.writes;
      stored = was.txn.stored;
      zeroed = was.txn.zeroed;
      commits = was.txn.commits;
      updates = subst (λ (z : Txn). AreCellsOf (reverse (lane_at book l).updates.items) z.updates) (sym noticed_none) was.txn.updates;
      rolled = ap (λ (z : Txn). z.rolled) noticed_none ∙ was.txn.rolled;
      ended = was.txn.ended;
      linked = was.txn.linked;
      point = was.txn.point;
      entry = was.txn.entry;
    };
    come = found.coming.come adding refl;
    given = subst (λ (z : Txn). HasGiven layout book.blocks (lane_at book l).held (lane_at book l).gives.items (lane_at book l).gates.items z.gifts (txn_at st.w.lanes l).words) (sym noticed_none) was.given;
    counts = was.counts;
    deleting = λ k call. (ap (λ (c : Cell). c.word) found.cell_is ∙ found.of_block k call, (was.deleting k call).1);
    ends_ungiven = was.ends_ungiven;
    written_words = was.written_words;
    taking = was.taking;
    naming = λ stage count. (let waits = was.naming stage count in record { promised = waits.promised; place = waits.place });
    recorded = was.recorded;
    begun = was.begun;
    has_some = was.has_some;
    uncompensated = was.uncompensated;
  }

  own : IsLaneOf layout book.blocks st.s.log (newest_log v.keeping.ledger) (under_of (layout_shape layout) v l) part (paid_record (lane_at book l)) (txn_at v.lanes l)
  own = subst (λ (u : UnderWay). IsLaneOf layout book.blocks st.s.log (newest_log st.w.keeping.ledger) u part (paid_record (lane_at book l)) (txn_at st.w.lanes l)) (sym under_is) own_drawn

  abbrev noted_was : ℕ
  noted_was = records_noted st.w (txn_at st.w.lanes l).number

  noted_is : records_noted v (txn_at st.w.lanes l).number ≡ noted_was + more_noted found.added
  noted_is = length-append (gates_in (txn_at st.w.lanes l).number false st.w.keeping.ledger)
      (gate_if (txn_at st.w.lanes l).number false (record { lane = held.keeping.holder part; entry = record_of_adding adding; stage = Drawn }))
      ∙ ap (λ (n : ℕ). noted_was + n) (noted_more (txn_at st.w.lanes l).number (held.keeping.holder part) place st.w.next found.added found.coming.of)

  owed : Owes (layout_shape layout) part noted_was (length (st.chains part)) nothing (txn_at st.w.lanes l) keeper (lane_at book l)
  owed = subst (λ (u : UnderWay). Owes (layout_shape layout) part noted_was (length (st.chains part)) u (txn_at st.w.lanes l) keeper (lane_at book l)) under_none
      (owes_here E (layout_shape layout) st.chains book keeper st.w l (st.owing.each l goes.lanes.inside))

  less : IsDrawnOf (needs_at (layout_shape layout) part noted_was (length (st.chains part)) nothing (txn_at st.w.lanes l) (stage_of (lane_at book l)))
      (needs_at (layout_shape layout) part (noted_was + more_noted found.added) (length (st.chains part)) (appends adding 0) (txn_at st.w.lanes l) (stage_of (lane_at book l)))
  less = found.coming.less adding refl noted_was (length (st.chains part))

  owes_drawn : Owes (layout_shape layout) part (noted_was + more_noted found.added) (length (st.chains part)) (appends adding 0) (txn_at st.w.lanes l) taken (paid_record (lane_at book l))
  owes_drawn = record {
    events = (let a = less.events in let b = owed.events in omega (arith, a, b));
    records = (let a = less.records in let b = owed.records in omega (arith, a, b));
    lists = room_fewer taken.slots.items part
        (needs_at (layout_shape layout) part (noted_was + more_noted found.added) (length (st.chains part)) (appends adding 0) (txn_at st.w.lanes l) (stage_of (lane_at book l))).gates
        (needs_at (layout_shape layout) part noted_was (length (st.chains part)) nothing (txn_at st.w.lanes l) (stage_of (lane_at book l))).gates less.gates
        (draws.slots.lists part (needs_at (layout_shape layout) part noted_was (length (st.chains part)) nothing (txn_at st.w.lanes l) (stage_of (lane_at book l))).gates
        (subst (λ (n : ℕ). part < n) (sym st.tied.slots) inside) owed.lists);
  }

  owes_there : Owes (layout_shape layout) part (records_noted v (txn_at v.lanes l).number) (length (st.chains part)) (under_of (layout_shape layout) v l) (txn_at v.lanes l) taken (paid_record (lane_at book l))
  owes_there = subst (λ (u : UnderWay). Owes (layout_shape layout) part (records_noted v (txn_at st.w.lanes l).number) (length (st.chains part)) u (txn_at st.w.lanes l) taken (paid_record (lane_at book l)))
      (sym under_is) (subst (λ (n : ℕ). Owes (layout_shape layout) part n (length (st.chains part)) (appends adding 0) (txn_at st.w.lanes l) taken (paid_record (lane_at book l))) (sym noted_is) owes_drawn)

  pub state_begun : IsStateOf layout start later taken region spare events
  state_begun = rebuilt E layout start book later keeper taken region region spare spare events events l (txn_at st.w.lanes l).number (paid_record (lane_at book l)) st.base st.s st.chains v st (record {
    world = world_drawn;
    roomy = roomy_less layout book later region (λ q. reserved_less layout book later l (paid_record (lane_at book l)) goes.lanes (omega arith) q) st.roomy;
    beside = beside_changed (layout_shape layout) l (txn_at st.w.lanes l).number st.s.log st.s.log st.chains st.chains st.w v changed
        (adds_same (txn_at st.w.lanes l).number st.s.log st.s.log refl)
        (adds_same (txn_at st.w.lanes l).number (newest_log st.w.keeping.ledger) (newest_log v.keeping.ledger) refl)
        (takes_same (txn_at st.w.lanes l).number (newest_log st.w.keeping.ledger) (newest_log v.keeping.ledger) refl)
        (λ t ne. ap (λ (gates : List ℕ). gates_in t false st.w.keeping.ledger ++ gates)
        (none_noted t (record { lane = held.keeping.holder part; entry = record_of_adding adding; stage = Drawn }) (λ same. ne (sym same ∙ found.coming.of)))
        ∙ append-nil (gates_in t false st.w.keeping.ledger)) (λ q ne. refl);
    apart = λ k ne one same. ne (st.world.transactions.apart k l one same);
    lanes = goes.lanes;
    keeping = (λ i. appending part place (record_of (place_address place) (with_number (st.tied.next i) (found.cell_is i))) (latched part l (st.tied.keeping i))) ∙ sym draws.kept;
    next = (let same = st.tied.next in let one = draws.number in omega (arith, same, one));
    slots = draws.slots;
    history = st.tied.history ∙ ap (λ h. map plain_entry h.items) (sym goes.history);
    held = held_changed (layout_shape layout) l st.w v changed st.tied.held (held_by_lane (layout_shape layout) v l (let most = few in let lt = in_lanes in omega (arith, most, lt)) in_lanes holder_is
        (λ none. (let e : appends adding 0 ≡ nothing = sym under_here ∙ none in cc))
        (subst (λ (run : Running). run.made < length (plan_of (layout_shape layout) part run.part))
        (sym (ap (λ (b : Bool). if b then begun (adds place (record_of_adding adding)) else st.w.keeping.runs part) (test_same part part refl))) (let many = long in omega (arith, many))));
    own = own;
    fresh = subst (λ (k : ℕ). (txn_at st.w.lanes l).number < k) (sym goes.next) (st.tied.fresh l);
    no_less = (let same = goes.next in omega (arith, same));
    owes = owes_there;
    stores = (let sum = lane_sum (λ (z : Lane E). z.owed_events) book later l (paid_record (lane_at book l)) goes.lanes in let was = st.owing.stores in omega (arith, sum, was));
    places = (
        let sum = lane_sum (λ (z : Lane E). z.owed_records) book later l (paid_record (lane_at book l)) goes.lanes in
        let was = st.owing.places in
        let one = draws.places in
        let a = less.records in
        let b = owed.records in
        omega (arith, sum, was, one, a, b));
    numbered = numbered_there E layout.partitions book later st.w v events events l (paid_record (lane_at book l)) goes.lanes goes.next refl (omega arith) (
        let old = st.numbered.records in
        let sum = unpaid_sum layout.partitions part st.w v inside (λ q ne. changed.unders q ne) in
        let before : unpaid (st.w.under part) ≡ 0 = ap unpaid rests_there in
        let after : unpaid (v.under part) ≡ 10 - 0 = ap unpaid under_here in
        omega (arith, old, sum, before, after)) st.numbered;
    opens = (let one = draws.number in omega (arith, one));
    is_book = world_book layout book later l (paid_record (lane_at book l)) goes.lanes is_book
        (entries_stay book later l (paid_record (lane_at book l)) goes
        (same_entry book.history.items l (lane_at book l) (paid_record (lane_at book l)) refl refl refl refl (its_entry book l st.is_book.entries)) (omega arith) st.is_book.entries) st.is_book;
  })

pub appends_begin : (E : Type 0) → AppendsBegin E
appends_begin E layout start book later keeper taken region spare events l place cell free read next_cell filled low goes is_book draws st =
    state_begun E layout start book later keeper taken region spare events l place cell free read (known cell next_cell) filled low goes is_book draws st

pub deletions_begin : (E : Type 0) → DeletionsBegin E
deletions_begin E layout start book later keeper taken region spare events l k place free read at call filled low goes is_book draws st =
    state_begun E layout start book later keeper taken region spare events l place (deletion_cell layout region (lane_at book l) k) free read
    (deletes k at call (given_last layout book l k call st.is_book.kept)) filled low goes is_book draws st
