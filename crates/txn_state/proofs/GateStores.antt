-- The store of a record's gate: the lane's book has the record.
use Rattle.std.proofs.Common.{◌≡◌, ◌≢◌, ◌⊎◌, inl, inr, ℕ, suc, ◌+◌, ◌-◌, ◌%◌, ◌<◌, ◌≤◌, ◌==◌, ◌&&◌, ◌++◌, Bool, true, false, if◌then◌else◌, List, [], ◌∷◌, length, map, take, reverse, length-append, refl, sym, ap, ◌∙◌, subst, arith}
use Rattle.persist_model.specs.declared.event.Event.{Event}
use Rattle.persist_model.specs.Region.{Words, Region}
use Rattle.persist_model.specs.Records.{Log, Record, IsAmong, Has, IsOf, IsEnd, IsCompensation}
use Rattle.persist_model.specs.Shape.{Shape, block}
use Rattle.region_layout.specs.declared.layout.Layout.{Layout}
use Rattle.region_layout.specs.declared.cell.Cell.{Cell}
use Rattle.region_layout.specs.Layout.{layout_shape}
use Rattle.region_layout.specs.Cell.{record_of}
use Rattle.offset_alloc.specs.declared.Standing.{Standing}
use Rattle.bucket_log.specs.declared.append.Place.{Place}
use Rattle.bucket_log.specs.Plans.{place_address}
use Rattle.bucket_log.specs.Appends.{region_append}
use Rattle.plan_records.specs.Passing.{inserted}
use Rattle.plan_records.proofs.Passing.{inserted_out, inserted_in, inserted_has}
use Rattle.lane_book.specs.declared.book.Book.{Book}
use Rattle.lane_book.specs.declared.lane.Lane.{Lane}
use Rattle.lane_book.specs.declared.lane.Doing.{Doing}
use Rattle.lane_book.specs.FacesOf.{lane_at, front}
use Rattle.lane_book.specs.Books.{IsBook, ends}
use Rattle.lane_book.specs.Lanes.{moved}
use Rattle.lane_book.specs.Appends.{with_update, with_rollback, with_compensation, with_end, with_deletion}
use Rattle.log_keeper.specs.declared.keeper.LogKeeper.{LogKeeper}
use Rattle.log_keeper.specs.Keeper.{keeping_of, free_places}
use Rattle.log_keeper.specs.Parts.{Running, appends as adds, plan_of}
use Rattle.log_keeper.specs.Ledger.{newest_log}
use Rattle.log_keeper.specs.Making.{made_part}
use Rattle.log_keeper.specs.Logged.{Keeping as Kept, plan_in}
use Rattle.log_keeper.proofs.Newest.{newest_logs_made}
use Rattle.log_keeper.proofs.Made.{over_not, over_yes}
use Rattle.history_laws.specs.Histories.{fold}
use Rattle.history_laws.specs.UnderWay.{Adding, record_of_adding, UnderWay, nothing, appends, run_of}
use Rattle.txn_laws.specs.Txns.{Txn, txn_at, Gift}
use Rattle.txn_laws.specs.NextRecords.{is_end, ended_by, IsAppendOf}
use Rattle.txn_laws.specs.PartsOf.{Fits}
use Rattle.txn_laws.specs.Going.{further, txn_further, gone_on}
use Rattle.txn_laws.specs.Rooms.{IsRoomy, stores_gate, taken_in}
use Rattle.txn_laws.specs.Worlds.{World}
use Rattle.txn_laws.proofs.Rooms.{parts_are_roomy}
use Rattle.txn_state.specs.Stages.{Stage, Free, Between, Leaving, Naming, Storing, Deleting, Securing, Opening, Undoing, TakingBack, Keeping, Ending, Closing, ClosingEnd, Dropping, Unbuilt, stage_of, is_commit, stage_at}
use Rattle.txn_state.specs.Seen.{is_gate_stored, booked, noticed}
use Rattle.txn_state.specs.Ties.{plain_write, plain_entry, AreCellsOf, IsUpdating, IsRollingBack, IsCompensating, IsEnding, appends_it, IsNaming, IsOpening, IsUndoing, IsEndingIt, IsCome, WaitsToAppend, under_of, IsLaneOf, due_by, HasGiven, DeletesNext, AreGiftsOf, IsDeleting, IsGiving}
use Rattle.txn_state.specs.Owing.{needs_at, records_noted}
use Rattle.txn_state.specs.States.{is_joining, IsStateOf, reserved_for}
use Rattle.txn_state.specs.Changes.{GoesTo, IsKept, paid_event}
use Rattle.txn_state.specs.AppendLaws.{IsMade, AreLeft, made_in, Notices, update, rollback, compensation, end, LetsGoOne, GatesAreStored, DeletionsAreStored}
use Rattle.txn_state.proofs.Making.{adds_same, beside_changed, region_is, left_there, keeping_there}
use Rattle.txn_state.proofs.Staying.{numbered_or_free}
use Rattle.txn_state.proofs.Lanes.{its_entry, same_entry, joining_same, entries_stay, world_book}
use Rattle.txn_state.proofs.Likeness.{IsOneLess, come_further, needs_further}
use Rattle.txn_state.proofs.StageSteps.{EndsCall, commit, abort, call_at, due_none}
use Rattle.txn_state.proofs.Named.{end_kind, naming_recorded, adding_of, kind_under, no_checkpoint, AddsUpdate, adds_update, AddsRollback, adds_rollback, AddsCompensation, adds_compensation, AddsEnd, adds_end, updates_counted, cells_more, cells_less, AddsDeletion, adds_deletion}
use Rattle.txn_state.proofs.Rebuilding.{Owes, events_paid, records_owed, numbered_there, rebuilt}
use Rattle.txn_state.proofs.SameTransaction.{takes_same, pending_same}
use Rattle.txn_state.proofs.Going as going
use Rattle.txn_state.proofs.Given.{given_same, deletes_none, gifts_more, gates_counted, last_at, last_given}
use Rattle.std.specs.Prelude.{slice_get, Some}

-- ---- the lane

-- What the lane's book keeps as it has the record, at the same stage; an event less is owed.
pub record IsBooked {E : Type 0} (lane later : Lane E) : Type 0 where
  pub stage : stage_of later ≡ stage_of lane
  pub transaction : later.transaction ≡ lane.transaction
  pub held : later.held ≡ lane.held
  pub begun : later.begun ≡ lane.begun
  pub commits : later.commits ≡ lane.commits
  pub writes : later.writes.items ≡ lane.writes.items
  pub stored : later.stored ≡ lane.stored
  pub gives : later.gives.items ≡ lane.gives.items
  pub entry : later.entry ≡ lane.entry
  pub entered : later.entered ≡ lane.entered
  pub committing : is_commit later.doing ≡ is_commit lane.doing
  pub due : due_by later.doing ≡ due_by lane.doing
  pub ending : ends later.doing ≡ ends lane.doing
  pub gives_same : (k : ℕ) → later.doing ≡ Doing.Give k → lane.doing ≡ Doing.Give k
  pub takes : (s k : ℕ) → later.doing ≡ Doing.Take s k → lane.doing ≡ Doing.Take s k
  pub owed_events : later.owed_events ≡ lane.owed_events - 1
  pub owed_records : later.owed_records ≡ lane.owed_records

booked_as : (E : Type 0) (lane later : Lane E) → stage_of (moved later.part later) ≡ stage_of lane →
    later ≡ record lane { updates = later.updates; has_records = later.has_records; promised = later.promised; rolled = later.rolled; ended = later.ended; gates = later.gates; owed_events = lane.owed_events - 1 } →
    IsBooked lane (moved later.part later)
booked_as E lane later stage is = record {
  stage = stage;
  transaction = ap (λ (z : Lane E). z.transaction) is;
  held = ap (λ (z : Lane E). z.held) is;
  begun = ap (λ (z : Lane E). z.begun) is;
  commits = ap (λ (z : Lane E). z.commits) is;
  writes = ap (λ (z : Lane E). z.writes.items) is;
  stored = ap (λ (z : Lane E). z.stored) is;
  gives = ap (λ (z : Lane E). z.gives.items) is;
  entry = ap (λ (z : Lane E). z.entry) is;
  entered = ap (λ (z : Lane E). z.entered) is;
  committing = ap (λ (z : Lane E). is_commit z.doing) is;
  due = ap (λ (z : Lane E). due_by z.doing) is;
  ending = ap (λ (z : Lane E). ends z.doing) is;
  gives_same = λ k call. sym (ap (λ (z : Lane E). z.doing) is) ∙ call;
  takes = λ s k call. sym (ap (λ (z : Lane E). z.doing) is) ∙ call;
  owed_events = ap (λ (z : Lane E). z.owed_events) is;
  owed_records = ap (λ (z : Lane E). z.owed_records) is;
}

-- the lane behind the store of a gate at this address, a deletion's too
pub data NoticesIn {E : Type 0} (gate : ℕ) (lane : Lane E) (c : Cell) : Lane E → Type 0 where
  known : (later : Lane E) → Notices (paid_event lane) c later → NoticesIn gate lane c later
  deletion : (k : ℕ) (before : List ℕ) → stage_of lane ≡ Deleting → lane.doing ≡ Doing.Give k → lane.gives.items ≡ before ++ k ∷ [] → NoticesIn gate lane c (with_deletion gate (paid_event lane))

pub booked_lane : (E : Type 0) (gate : ℕ) (c : Cell) (lane later : Lane E) → NoticesIn gate lane c later → IsBooked lane (moved later.part later)
booked_lane E gate c lane _ (known _ (update at)) =
    booked_as E lane (with_update c (paid_event lane)) (naming_recorded lane.phase lane.has_records lane.part lane.doing at ∙ sym at) refl
booked_lane E gate c lane _ (known _ (rollback at)) = booked_as E lane (with_rollback (paid_event lane)) refl refl
booked_lane E gate c lane _ (known _ (compensation at)) = booked_as E lane (with_compensation (paid_event lane)) refl refl
booked_lane E gate c lane _ (known _ (end at)) = booked_as E lane (with_end (paid_event lane)) refl refl
booked_lane E gate c lane _ (deletion k before at call last) = booked_as E lane (with_deletion gate (paid_event lane)) (ap (stage_at lane.phase true lane.part) call ∙ sym (ap (stage_at lane.phase lane.has_records lane.part) call)) refl

has_record : (rec : Bool) (doing : Doing) (stage : Stage) → EndsCall rec doing stage → rec ≡ true
has_record rec doing stage (commit on is has) = on
has_record rec doing stage (abort on is has) = on

module _ (E : Type 0) (layout : Layout) (blocks : List Standing) (log newest : Log) (p : ℕ) (adding : Adding) (made : ℕ) (c : Cell) (x : Txn) (lane : Lane E)
    (whole : made + 2 ≡ length (region_append (layout_shape layout) p adding.place (record_of_adding adding)))
    (cell_is : record_of (record_of_adding adding).at c ≡ record_of_adding adding) (of : (record_of_adding adding).transaction ≡ x.number)
    (ended_is : x.ended ≡ ended_by (layout_shape layout) p adding made) (is : IsLaneOf layout blocks log newest (appends adding made) p lane x) where
  abbrev r : Record
  r = record_of_adding adding

  abbrev pub y : Txn
  y = record x { ended = ended_by (layout_shape layout) p adding (suc made) }

  stored_now : is_gate_stored (layout_shape layout) p adding (suc made) ≡ true
  stored_now = over_yes (region_append (layout_shape layout) p adding.place (record_of_adding adding)) (suc made + 1) (omega (arith, whole))

  stored_not : is_gate_stored (layout_shape layout) p adding made ≡ false
  stored_not = over_not (region_append (layout_shape layout) p adding.place (record_of_adding adding)) (made + 1) (omega (arith, whole))

  was_noticed : noticed (layout_shape layout) p (appends adding made) x ≡ x
  was_noticed = ap (λ (b : Bool). if b then booked adding.added (record_of_adding adding) x else x) stored_not

  now_noticed : noticed (layout_shape layout) p (appends adding (suc made)) y ≡ booked adding.added (record_of_adding adding) y
  now_noticed = ap (λ (b : Bool). if b then booked adding.added (record_of_adding adding) y else y) stored_now

  ended_no : is_end adding.added ≡ false → ended_by (layout_shape layout) p adding (suc made) ≡ x.ended
  ended_no off = ap (λ (b : Bool). if b then is_gate_stored (layout_shape layout) p adding (suc made) else false) off
      ∙ sym (ap (λ (b : Bool). if b then is_gate_stored (layout_shape layout) p adding made else false) off) ∙ sym ended_is

  ended_yes : is_end adding.added ≡ true → ended_by (layout_shape layout) p adding (suc made) ≡ true
  ended_yes on = ap (λ (b : Bool). if b then is_gate_stored (layout_shape layout) p adding (suc made) else false) on ∙ stored_now

  cells_were : AreCellsOf (reverse lane.updates.items) x.updates
  cells_were = subst (λ (z : Txn). AreCellsOf (reverse lane.updates.items) z.updates) was_noticed is.txn.updates

  rolled_was : x.rolled ≡ lane.rolled
  rolled_was = sym (ap (λ (z : Txn). z.rolled) was_noticed) ∙ is.txn.rolled

  some_way : appends adding made ≢ nothing
  some_way e = cc

  come_on : IsCome log (appends adding (suc made)) x (stage_of lane)
  come_on = come_further log (appends adding made) x (stage_of lane) some_way is.come

  one_number : 1 ≤ x.number
  one_number = elim (numbered_or_free log (appends adding made) x (stage_of lane) is.come) [ inl one ↦ one | inr free ↦ absurd (some_way free.2) ]

  -- what no kind changes
  lane_for : (later : Lane E) → IsBooked lane later → HasGiven layout blocks later.held later.gives.items later.gates.items (booked adding.added (record_of_adding adding) y).gifts y.words →
      DeletesNext layout (appends adding (suc made)) later → AreCellsOf (reverse later.updates.items) (booked adding.added (record_of_adding adding) y).updates →
      (booked adding.added (record_of_adding adding) y).rolled ≡ later.rolled → y.ended ≡ later.ended → IsCome log (appends adding (suc made)) y (stage_of lane) →
      (stage_of later ≡ Naming → length later.updates.items ≡ later.stored → WaitsToAppend later) → later.has_records ≡ true →
      (lane.has_records ≡ later.has_records) ⊎ Has (λ q. IsOf x.number q × (IsEnd q → ⊥)) (inserted (record_of_adding adding) newest) →
      (later.rolled ≡ false → (lane.rolled ≡ false) × (IsCompensation (record_of_adding adding) → ⊥)) →
      IsLaneOf layout blocks log (inserted (record_of_adding adding) newest) (appends adding (suc made)) p later y
  lane_for later b given deleting updates rolled ended come naming recorded some still = let t = is.txn in record {
    txn = record {
      number = t.number ∙ sym b.transaction;
      here = t.here;
      writes = t.writes ∙ ap (map plain_write) (sym b.writes);
      stored = t.stored ∙ sym b.stored;
      zeroed = t.zeroed;
      commits = t.commits ∙ sym b.committing;
      updates = subst (λ (z : Txn). AreCellsOf (reverse later.updates.items) z.updates) (sym now_noticed) updates;
      rolled = ap (λ (z : Txn). z.rolled) now_noticed ∙ rolled;
      ended = ended;
      linked = t.linked;
      point = t.point;
      entry = λ e has. t.entry e (sym b.entry ∙ has);
    };
    come = subst (IsCome log (appends adding (suc made)) y) (sym b.stage) come;
    given = subst (λ (z : Txn). HasGiven layout blocks later.held later.gives.items later.gates.items z.gifts y.words) (sym now_noticed) given;
    counts = ap length b.gives ∙ (is.counts ∙ ap (λ n. length x.gifts + n) (sym b.due));
    deleting = deleting;
    ends_ungiven = λ on. b.gives ∙ is.ends_ungiven (sym b.ending ∙ on);
    written_words = λ w among. is.written_words w (subst (λ ws. IsAmong ws w) b.writes among);
    taking = takes_same layout lane later b.writes b.stored b.takes is.taking;
    naming = naming;
    recorded = λ one has. recorded;
    begun = λ on. one_number;
    has_some = λ one on over. elim some [
      | inl same ↦ (let h = is.has_some one (same ∙ on) over in (h.0, inserted_in (record_of_adding adding) newest h.0 (inr h.1), h.2))
      | inr has ↦ has
    ];
    uncompensated = λ unrolled one over r m of. elim (inserted_out (record_of_adding adding) newest r m) [
      | inl same ↦ (still unrolled).1 (ap (λ (z : Record). z.kind) (sym same) ∙ of.1)
      | inr among ↦ is.uncompensated (still unrolled).0 one over r among of
    ];
  }

  -- what no kind but a deletion changes
  given_plain : (later : Lane E) → IsBooked lane later → later.gates.items ≡ lane.gates.items → (booked adding.added (record_of_adding adding) y).gifts ≡ x.gifts →
      HasGiven layout blocks later.held later.gives.items later.gates.items (booked adding.added (record_of_adding adding) y).gifts y.words
  given_plain later b gates gifts = given_same layout blocks lane.held later.held lane.gives.items later.gives.items lane.gates.items later.gates.items
      (noticed (layout_shape layout) p (appends adding made) x).gifts (booked adding.added (record_of_adding adding) y).gifts x.words y.words b.held b.gives gates
      (gifts ∙ sym (ap (λ (z : Txn). z.gifts) was_noticed)) refl is.given

  none_due : (later : Lane E) → IsBooked lane later → (stage : Stage) → stage_of lane ≡ stage → stage ≢ Deleting → DeletesNext layout (appends adding (suc made)) later
  none_due later b stage at other = deletes_none layout (appends adding (suc made)) later (b.due ∙ due_none lane.phase lane.has_records lane.part lane.doing stage at other)

  own_update : stage_of lane ≡ Naming → (later : Lane E) → later ≡ moved lane.part (with_update c (paid_event lane)) → IsBooked lane later →
      IsLaneOf layout blocks log (inserted (record_of_adding adding) newest) (appends adding (suc made)) p later y
  own_update at later same b = lane_for later b
      (given_plain later b (ap (λ (z : Lane E). z.gates.items) same) (ap (λ (z : Txn). z.gifts) (k.books (record_of_adding adding) y)))
      (none_due later b Naming at (λ e. (let off : Naming ≡ Deleting = e in cc)))
      (subst (λ (z : Lane E). AreCellsOf (reverse z.updates.items) (booked adding.added (record_of_adding adding) y).updates) (sym same)
      (subst (λ (z : Txn). AreCellsOf (reverse (lane.updates.items ++ c ∷ [])) z.updates) (sym (k.books (record_of_adding adding) y))
      (cells_more lane.updates.items x.updates c (record_of_adding adding) cell_is cells_were)))
      (ap (λ (z : Txn). z.rolled) (k.books (record_of_adding adding) y) ∙ rolled_was ∙ sym (ap (λ (z : Lane E). z.rolled) same))
      (ended_no k.no_end ∙ is.txn.ended ∙ sym (ap (λ (z : Lane E). z.ended) same))
      (subst (λ b. IsCome log (appends adding (suc made)) (record x { ended = b }) (stage_of lane)) (sym (ended_no k.no_end)) come_on)
      (λ stage long. absurd (no_more (ap (λ (z : Lane E). length z.updates.items) (sym same) ∙ long ∙ ap (λ (z : Lane E). z.stored) same)))
      (ap (λ (z : Lane E). z.has_records) same)
      (inr (inserted_has (λ q. IsOf x.number q × (IsEnd q → ⊥)) (record_of_adding adding) newest ((of, no_checkpoint adding.added), no_end)))
      (λ unrolled. (sym (ap (λ (z : Lane E). z.rolled) same) ∙ unrolled, no_compensation))
    where
      come : IsNaming (appends adding made) x
      come = subst (IsCome log (appends adding made) x) at is.come

      k : AddsUpdate adding.added
      k = adds_update adding.added (kind_under IsUpdating adding made come.under_way)

      no_end : IsEnd (record_of_adding adding) → ⊥
      no_end e = let kind = k.kind in omega (arith, e, kind)

      no_compensation : IsCompensation (record_of_adding adding) → ⊥
      no_compensation e = let kind = k.kind in omega (arith, e, kind)

      no_more : length (lane.updates.items ++ c ∷ []) ≡ lane.stored → ⊥
      no_more long =
          let count = updates_counted lane.updates.items x.updates cells_were in
          let are = come.updates_are in
          let stored = is.txn.stored in
          let one = length-append lane.updates.items (c ∷ []) in
          omega (arith, long, count, are, stored, one)

  own_rollback : stage_of lane ≡ Opening → (later : Lane E) → later ≡ moved lane.part (with_rollback (paid_event lane)) → IsBooked lane later →
      IsLaneOf layout blocks log (inserted (record_of_adding adding) newest) (appends adding (suc made)) p later y
  own_rollback at later same b = lane_for later b
      (given_plain later b (ap (λ (z : Lane E). z.gates.items) same) (ap (λ (z : Txn). z.gifts) (k.books (record_of_adding adding) y)))
      (none_due later b Opening at (λ e. (let off : Opening ≡ Deleting = e in cc)))
      (subst (λ (z : Lane E). AreCellsOf (reverse z.updates.items) (booked adding.added (record_of_adding adding) y).updates) (sym same)
      (subst (λ (z : Txn). AreCellsOf (reverse lane.updates.items) z.updates) (sym (k.books (record_of_adding adding) y)) cells_were))
      (ap (λ (z : Txn). z.rolled) (k.books (record_of_adding adding) y) ∙ sym (ap (λ (z : Lane E). z.rolled) same))
      (ended_no k.no_end ∙ is.txn.ended ∙ sym (ap (λ (z : Lane E). z.ended) same))
      (subst (λ b. IsCome log (appends adding (suc made)) (record x { ended = b }) (stage_of lane)) (sym (ended_no k.no_end)) come_on)
      (λ stage long. absurd (let no : Opening ≡ Naming = sym at ∙ sym b.stage ∙ stage in cc))
      (ap (λ (z : Lane E). z.has_records) same ∙ has_record lane.has_records lane.doing Opening (call_at lane.phase lane.has_records lane.part lane.doing Opening at refl))
      (inl (sym (ap (λ (z : Lane E). z.has_records) same)))
      (λ unrolled. absurd (let on : true ≡ false = sym (ap (λ (z : Lane E). z.rolled) same) ∙ unrolled in cc))
    where
      come : IsOpening (appends adding made) x
      come = subst (IsCome log (appends adding made) x) at is.come

      k : AddsRollback adding.added
      k = adds_rollback adding.added (kind_under IsRollingBack adding made come.under_way)

  own_compensation : stage_of lane ≡ Undoing → (later : Lane E) → later ≡ moved lane.part (with_compensation (paid_event lane)) → IsBooked lane later →
      IsLaneOf layout blocks log (inserted (record_of_adding adding) newest) (appends adding (suc made)) p later y
  own_compensation at later same b = lane_for later b
      (given_plain later b (ap (λ (z : Lane E). z.gates.items) same) (ap (λ (z : Txn). z.gifts) (k.books (record_of_adding adding) y)))
      (none_due later b Undoing at (λ e. (let off : Undoing ≡ Deleting = e in cc)))
      (subst (λ (z : Lane E). AreCellsOf (reverse z.updates.items) (booked adding.added (record_of_adding adding) y).updates) (sym same)
      (subst (λ (z : Txn). AreCellsOf (reverse (take (length lane.updates.items - 1) lane.updates.items)) z.updates) (sym (k.books (record_of_adding adding) y))
      (cells_less lane.updates.items x.updates cells_were)))
      (ap (λ (z : Txn). z.rolled) (k.books (record_of_adding adding) y) ∙ rolled_was ∙ sym (ap (λ (z : Lane E). z.rolled) same))
      (ended_no k.no_end ∙ is.txn.ended ∙ sym (ap (λ (z : Lane E). z.ended) same))
      (subst (λ b. IsCome log (appends adding (suc made)) (record x { ended = b }) (stage_of lane)) (sym (ended_no k.no_end)) come_on)
      (λ stage long. absurd (let no : Undoing ≡ Naming = sym at ∙ sym b.stage ∙ stage in cc))
      (ap (λ (z : Lane E). z.has_records) same ∙ has_record lane.has_records lane.doing Undoing (call_at lane.phase lane.has_records lane.part lane.doing Undoing at refl))
      (inl (sym (ap (λ (z : Lane E). z.has_records) same)))
      (λ unrolled. absurd (let on : true ≡ false = sym come.rolled ∙ rolled_was ∙ sym (ap (λ (z : Lane E). z.rolled) same) ∙ unrolled in cc))
    where
      come : IsUndoing (appends adding made) x
      come = subst (IsCome log (appends adding made) x) at is.come

      k : AddsCompensation adding.added
      k = adds_compensation adding.added (kind_under IsCompensating adding made come.under_way)

  own_end : stage_of lane ≡ Ending → (later : Lane E) → later ≡ moved lane.part (with_end (paid_event lane)) → IsBooked lane later →
      IsLaneOf layout blocks log (inserted (record_of_adding adding) newest) (appends adding (suc made)) p later y
  own_end at later same b = lane_for later b
      (given_plain later b (ap (λ (z : Lane E). z.gates.items) same) (ap (λ (z : Txn). z.gifts) (k.books (record_of_adding adding) y)))
      (none_due later b Ending at (λ e. (let off : Ending ≡ Deleting = e in cc)))
      (subst (λ (z : Lane E). AreCellsOf (reverse z.updates.items) (booked adding.added (record_of_adding adding) y).updates) (sym same)
      (subst (λ (z : Txn). AreCellsOf (reverse lane.updates.items) z.updates) (sym (k.books (record_of_adding adding) y)) cells_were))
      (ap (λ (z : Txn). z.rolled) (k.books (record_of_adding adding) y) ∙ rolled_was ∙ sym (ap (λ (z : Lane E). z.rolled) same))
      (ended_yes k.ends ∙ sym (ap (λ (z : Lane E). z.ended) same))
      (subst (IsCome log (appends adding (suc made)) y) (sym at) (record {
        going = record { some = come.going.some; runs = come.going.runs; unended = λ e. absurd (let no : appends adding (suc made) ≡ nothing = e in cc) };
        fenced = come.fenced;
        stored_are = come.stored_are;
        commits_all = come.commits_all;
        undone_all = come.undone_all;
        rolled_is = come.rolled_is;
        under_way = appends_it adding (suc made) refl (kind_under (IsEnding x.commits) adding made come.under_way);
      }))
      (λ stage long. absurd (let no : Ending ≡ Naming = sym at ∙ sym b.stage ∙ stage in cc))
      (ap (λ (z : Lane E). z.has_records) same ∙ has_record lane.has_records lane.doing Ending (call_at lane.phase lane.has_records lane.part lane.doing Ending at refl))
      (inl (sym (ap (λ (z : Lane E). z.has_records) same)))
      (λ unrolled. (sym (ap (λ (z : Lane E). z.rolled) same) ∙ unrolled, no_compensation))
    where
      come : IsEndingIt (appends adding made) x
      come = subst (IsCome log (appends adding made) x) at is.come

      k : AddsEnd adding.added
      k = adds_end x.commits adding.added (kind_under (IsEnding x.commits) adding made come.under_way)

      no_compensation : IsCompensation (record_of_adding adding) → ⊥
      no_compensation e = let kind = end_kind adding.added k.ends in omega (arith, e, kind)

  -- the gift of a deletion
  abbrev gift : Gift
  gift = record { word = (record_of_adding adding).word; gate = (record_of_adding adding).at }

  own_deletion : (k : ℕ) (front_is : List ℕ) → stage_of lane ≡ Deleting → lane.doing ≡ Doing.Give k → lane.gives.items ≡ front_is ++ k ∷ [] → (later : Lane E) →
      later ≡ moved lane.part (with_deletion (record_of_adding adding).at (paid_event lane)) → IsBooked lane later →
      IsLaneOf layout blocks log (inserted (record_of_adding adding) newest) (appends adding (suc made)) p later y
  own_deletion k front_is at call last later same b = lane_for later b
      (given_same layout blocks lane.held later.held lane.gives.items later.gives.items (lane.gates.items ++ (record_of_adding adding).at ∷ []) later.gates.items
      (x.gifts ++ gift ∷ []) (booked adding.added (record_of_adding adding) y).gifts x.words y.words b.held b.gives (ap (λ (z : Lane E). z.gates.items) same)
      (ap (λ (z : Txn). z.gifts) (kind_is.books (record_of_adding adding) y)) refl (record {
        gifts_are = gifts_more (layout_shape layout) lane.gives.items lane.gates.items x.gifts (record_of_adding adding).at k gift at_last (is.deleting k call).0 refl was_gifts;
        each = is.given.each;
        words_are = is.given.words_are;
      }))
      (λ j other. (named j (b.gives_same j other), λ long. absurd (no_more long)))
      (subst (λ (z : Lane E). AreCellsOf (reverse z.updates.items) (booked adding.added (record_of_adding adding) y).updates) (sym same)
      (subst (λ (z : Txn). AreCellsOf (reverse lane.updates.items) z.updates) (sym (kind_is.books (record_of_adding adding) y)) cells_were))
      (ap (λ (z : Txn). z.rolled) (kind_is.books (record_of_adding adding) y) ∙ rolled_was ∙ sym (ap (λ (z : Lane E). z.rolled) same))
      (ended_no kind_is.no_end ∙ is.txn.ended ∙ sym (ap (λ (z : Lane E). z.ended) same))
      (subst (λ b. IsCome log (appends adding (suc made)) (record x { ended = b }) (stage_of lane)) (sym (ended_no kind_is.no_end)) come_on)
      (λ stage long. absurd (let no : Deleting ≡ Naming = sym at ∙ sym b.stage ∙ stage in cc))
      (ap (λ (z : Lane E). z.has_records) same)
      (inr (inserted_has (λ q. IsOf x.number q × (IsEnd q → ⊥)) (record_of_adding adding) newest ((of, no_checkpoint adding.added), no_end)))
      (λ unrolled. (sym (ap (λ (z : Lane E). z.rolled) same) ∙ unrolled, no_compensation))
    where
      come : IsGiving (appends adding made) x
      come = subst (IsCome log (appends adding made) x) at is.come

      kind_is : AddsDeletion adding.added
      kind_is = adds_deletion adding.added (kind_under IsDeleting adding made come.under_way)

      no_end : IsEnd (record_of_adding adding) → ⊥
      no_end e = let kind = kind_is.kind in omega (arith, e, kind)

      no_compensation : IsCompensation (record_of_adding adding) → ⊥
      no_compensation e = let kind = kind_is.kind in omega (arith, e, kind)

      was_gifts : AreGiftsOf (layout_shape layout) lane.gives.items lane.gates.items x.gifts
      was_gifts = subst (λ (z : Txn). AreGiftsOf (layout_shape layout) lane.gives.items lane.gates.items z.gifts) was_noticed is.given.gifts_are

      due_one : due_by lane.doing ≡ 1
      due_one = ap due_by call

      counted : length lane.gates.items + 1 ≡ length lane.gives.items
      counted = let gates = gates_counted (layout_shape layout) lane.gives.items lane.gates.items x.gifts was_gifts in let gives = is.counts in let due = due_one in omega (arith, gates, gives, due)

      at_last : slice_get lane.gives.items (length lane.gates.items) ≡ Some k
      at_last = ap (λ (xs : List ℕ). slice_get xs (length lane.gates.items)) last ∙ last_at front_is k (length lane.gates.items)
          (let long = ap length last ∙ length-append front_is (k ∷ []) in let count = counted in omega (arith, long, count))

      named : (j : ℕ) → lane.doing ≡ Doing.Give j → (record_of_adding adding).word ≡ block (layout_shape layout) j
      named j other = (is.deleting j other).0

      no_more : length later.gates.items + 1 ≡ length later.gives.items → ⊥
      no_more long =
          let gates = ap (λ (z : Lane E). length z.gates.items) same ∙ length-append lane.gates.items ((record_of_adding adding).at ∷ []) in
          let gives = ap length b.gives in
          let count = counted in
          omega (arith, long, gates, gives, count)

  pub own_lane : (later : Lane E) → NoticesIn (record_of_adding adding).at lane c later →
      IsLaneOf layout blocks log (inserted (record_of_adding adding) newest) (appends adding (suc made)) p (moved later.part later) y
  own_lane _ (known _ (update at)) = own_update at (moved lane.part (with_update c (paid_event lane))) refl (booked_lane E 0 c lane (with_update c (paid_event lane)) (known _ (update at)))
  own_lane _ (known _ (rollback at)) = own_rollback at (moved lane.part (with_rollback (paid_event lane))) refl (booked_lane E 0 c lane (with_rollback (paid_event lane)) (known _ (rollback at)))
  own_lane _ (known _ (compensation at)) =
      own_compensation at (moved lane.part (with_compensation (paid_event lane))) refl (booked_lane E 0 c lane (with_compensation (paid_event lane)) (known _ (compensation at)))
  own_lane _ (known _ (end at)) = own_end at (moved lane.part (with_end (paid_event lane))) refl (booked_lane E 0 c lane (with_end (paid_event lane)) (known _ (end at)))
  own_lane _ (deletion k front_is at call last) = own_deletion k front_is at call last (moved lane.part (with_deletion (record_of_adding adding).at (paid_event lane))) refl
      (booked_lane E (record_of_adding adding).at c lane (with_deletion (record_of_adding adding).at (paid_event lane)) (deletion k front_is at call last))

-- ---- what it wants

-- whether the end is stored doesn't matter
needs_ended : (shape : Shape) (p n c : ℕ) (u : UnderWay) (x : Txn) (b : Bool) (stage : Stage) → needs_at shape p n c u (record x { ended = b }) stage ≡ needs_at shape p n c u x stage
needs_ended shape p n c u x b Free = refl
needs_ended shape p n c u x b Between = refl
needs_ended shape p n c u x b Leaving = refl
needs_ended shape p n c u x b Naming = refl
needs_ended shape p n c u x b Storing = refl
needs_ended shape p n c u x b Securing = refl
needs_ended shape p n c u x b Opening = refl
needs_ended shape p n c u x b Undoing = refl
needs_ended shape p n c u x b TakingBack = refl
needs_ended shape p n c u x b Keeping = refl
needs_ended shape p n c u x b Ending = refl
needs_ended shape p n c u x b Closing = refl
needs_ended shape p n c u x b ClosingEnd = refl
needs_ended shape p n c u x b Dropping = refl
needs_ended shape p n c u x b Deleting = refl
needs_ended shape p n c u x b Unbuilt = refl

taken_most : (here stores : Bool) → (if here && stores then 1 else 0) ≤ (if here then 1 else 0)
taken_most true true = omega arith
taken_most true false = omega arith
taken_most false stores = omega arith

-- ---- the law

module _ (E : Type 0) (layout : Layout) (start : Words) (book later : Book E) (keeper kept : LogKeeper) (region behind : Region) (spare left events made l : ℕ) (e : Event) (place : Place) (c : Cell)
    (lane : Lane E) (m : IsMade layout keeper region behind l e spare left events made) (are : AreLeft layout keeper (l % layout.partitions) 2)
    (part_is : ((keeping_of keeper).runs (l % layout.partitions)).part ≡ adds place (record_of (place_address place) c)) (notices : NoticesIn (place_address place) (lane_at book l) c lane)
    (lets : LetsGoOne layout book later (l % layout.partitions)) (goes : GoesTo book later l (moved lane.part lane)) (is_book : IsBook later)
    (keeps : IsKept keeper kept (made_in layout keeper (l % layout.partitions))) (st : IsStateOf layout start book keeper region spare events) where
  abbrev p : ℕ
  p = l % layout.partitions

  abbrev here : Lane E
  here = moved lane.part lane

  one_part : 1 ≤ layout.partitions
  one_part = going.one_part E layout start book keeper region behind spare left events made l e m st

  left_is : (st.w.keeping.runs p).made + 2 ≡ length (plan_in (layout_shape layout) st.w.keeping p)
  left_is = left_there E layout book keeper st.s st.w st.tied one_part region behind l e spare left events made m 2 are

  more : (st.w.keeping.runs p).made + 1 < length (plan_in (layout_shape layout) st.w.keeping p)
  more = let is = left_is in omega (arith, is)

  part_there : (st.w.keeping.runs p).part ≡ adds place (record_of (place_address place) c)
  part_there = ap (λ (k : Kept). (k.runs p).part) st.tied.keeping ∙ part_is

  found : (adding : Adding) × (n : ℕ) × (st.w.under p ≡ appends adding n) × (record_of_adding adding ≡ record_of (place_address place) c)
  found = adding_of (st.w.under p) place (record_of (place_address place) c)
      (sym (ap (λ (run : Running). run.part) (going.run_is E layout start book keeper region behind spare left events made l e m st)) ∙ part_there)

  abbrev adding : Adding
  adding = found.0

  abbrev n : ℕ
  n = found.1

  fits : IsAppendOf (layout_shape layout) st.s (fold start st.w.history) p (txn_at st.w.lanes l) found.0 found.1
  fits = subst (Fits (layout_shape layout) st.s (fold start st.w.history) p (txn_at st.w.lanes l)) found.2 (going.fits_is E layout start book keeper region behind spare left events made l e m st)

  whole : found.1 + 2 ≡ length (region_append (layout_shape layout) p found.0.place (record_of_adding found.0))
  whole = subst (λ (u : UnderWay). (run_of u).made + 2 ≡ length (plan_of (layout_shape layout) p (run_of u).part)) found.2
      (going.left_of E layout start book keeper region behind spare left events made l e m st 2 are)

  abbrev ended_there : Txn
  ended_there = record (txn_at st.w.lanes l) { ended = ended_by (layout_shape layout) p found.0 (suc found.1) }

  abbrev v : World
  v = gone_on (layout_shape layout) (l % layout.partitions) st.w

  txn_is : txn_at v.lanes l ≡ ended_there
  txn_is = going.txn_on E layout start book keeper region behind spare left events made l e m st more
      ∙ ap (λ (u : UnderWay). txn_further (layout_shape layout) p u (txn_at st.w.lanes l)) found.2

  under_is : under_of (layout_shape layout) v l ≡ appends found.0 (suc found.1)
  under_is = going.under_on E layout start book keeper region behind spare left events made l e m st more ∙ ap further found.2

  newest_is : newest_log (made_part (layout_shape layout) p st.w.keeping).ledger ≡ inserted (record_of_adding found.0) (newest_log st.w.keeping.ledger)
  newest_is = newest_logs_made.stores (layout_shape layout) p st.w.keeping place (record_of (place_address place) c)
      (going.inside E layout start book keeper region behind spare left events made l e m st) st.world.log.ordered.newest_first st.world.log.fits part_there left_is
      ∙ ap (λ (r : Record). inserted r (newest_log st.w.keeping.ledger)) (sym found.3)

  own : IsLaneOf layout book.blocks st.s.log (newest_log v.keeping.ledger) (under_of (layout_shape layout) v l) p (moved lane.part lane) (txn_at v.lanes l)
  own = subst (λ (z : Txn). IsLaneOf layout book.blocks st.s.log (newest_log v.keeping.ledger) (under_of (layout_shape layout) v l) p (moved lane.part lane) z) (sym txn_is)
      (subst (λ (u : UnderWay). IsLaneOf layout book.blocks st.s.log (newest_log v.keeping.ledger) u p (moved lane.part lane) ended_there) (sym under_is)
      (subst (λ (log : Log). IsLaneOf layout book.blocks st.s.log log (appends found.0 (suc found.1)) p (moved lane.part lane) ended_there) (sym newest_is)
      (own_lane E layout book.blocks st.s.log (newest_log st.w.keeping.ledger) p found.0 found.1 c (txn_at st.w.lanes l) (lane_at book l) whole
      (subst (λ (r : Record). record_of r.at c ≡ r) (sym found.3) refl) fits.of fits.ended_is
      (subst (λ (u : UnderWay). IsLaneOf layout book.blocks st.s.log (newest_log st.w.keeping.ledger) u p (lane_at book l) (txn_at st.w.lanes l)) found.2
      (going.was_here E layout start book keeper region behind spare left events made l e m st)) lane
      (subst (λ g. NoticesIn g (lane_at book l) c lane) (sym (ap (λ (r : Record). r.at) found.3)) notices))))

  b : IsBooked (lane_at book l) (moved lane.part lane)
  b = booked_lane E (place_address place) c (lane_at book l) lane notices

  abbrev noted : ℕ
  noted = records_noted st.w (txn_at st.w.lanes l).number

  less : IsOneLess (needs_at (layout_shape layout) p noted (length (st.chains p)) (st.w.under p) (txn_at st.w.lanes l) (stage_of (lane_at book l)))
      (needs_at (layout_shape layout) p noted (length (st.chains p)) (further (st.w.under p)) ended_there (stage_of (lane_at book l)))
  less = subst (λ z. IsOneLess (needs_at (layout_shape layout) p noted (length (st.chains p)) (st.w.under p) (txn_at st.w.lanes l) (stage_of (lane_at book l))) z)
      (sym (needs_ended (layout_shape layout) p noted (length (st.chains p)) (further (st.w.under p)) (txn_at st.w.lanes l) (ended_by (layout_shape layout) p found.0 (suc found.1)) (stage_of (lane_at book l))))
      (needs_further (layout_shape layout) p noted (length (st.chains p)) st.s.log (st.w.under p) (txn_at st.w.lanes l) (stage_of (lane_at book l))
      (going.busy E layout start book keeper region behind spare left events made l e m st) (going.has_event E layout start book keeper region behind spare left events made l e m st more)
      (going.was_here E layout start book keeper region behind spare left events made l e m st).come)

  owes_there : Owes (layout_shape layout) p (records_noted v (txn_at v.lanes l).number) (length (st.chains p)) (under_of (layout_shape layout) v l) (txn_at v.lanes l) kept (moved lane.part lane)
  owes_there =
      subst (λ (z : Txn). Owes (layout_shape layout) p (records_noted v z.number) (length (st.chains p)) (under_of (layout_shape layout) v l) z kept (moved lane.part lane)) (sym txn_is)
      (subst (λ (u : UnderWay). Owes (layout_shape layout) p (records_noted v (txn_at st.w.lanes l).number) (length (st.chains p)) u ended_there kept (moved lane.part lane))
      (sym (going.under_on E layout start book keeper region behind spare left events made l e m st more))
      (subst (λ (k : ℕ). Owes (layout_shape layout) p k (length (st.chains p)) (further (st.w.under p)) ended_there kept (moved lane.part lane))
      (sym (ap length (going.noted_on E layout start book keeper region behind spare left events made l e m st more (txn_at st.w.lanes l).number false)))
      (going.owes_less E (layout_shape layout) p noted (length (st.chains p)) (st.w.under p) (txn_at st.w.lanes l) noted (length (st.chains p)) (further (st.w.under p)) ended_there
      keeper kept (lane_at book l) (moved lane.part lane) (going.has_slot E layout start book keeper region behind spare left events made l e m st) keeps.slots b.stage b.owed_events b.owed_records less
      (going.owed_here E layout start book keeper region behind spare left events made l e m st))))

  one_owed : 1 ≤ (lane_at book l).owed_events
  one_owed = going.event_owed E (layout_shape layout) p noted (length (st.chains p)) (st.w.under p) (txn_at st.w.lanes l)
      (needs_at (layout_shape layout) p noted (length (st.chains p)) (further (st.w.under p)) ended_there (stage_of (lane_at book l))) keeper (lane_at book l) less
      (going.owed_here E layout start book keeper region behind spare left events made l e m st)

  roomy : IsRoomy (layout_shape layout) behind (reserved_for layout later)
  roomy = subst (λ (r : Region). IsRoomy (layout_shape layout) r (reserved_for layout later))
      (sym (region_is E layout book keeper st.s st.w st.tied one_part region behind l e spare left events made m))
      (parts_are_roomy (layout_shape layout) st.base st.s st.chains start st.w region (reserved_for layout book) (reserved_for layout later) p e
      (going.next E layout start book keeper region behind spare left events made l e m st) st.world
      (λ q lt. (let most : taken_in (layout_shape layout) st.w.keeping p q ≤ (if q == p then 1 else 0) = taken_most (q == p) (stores_gate (layout_shape layout) st.w.keeping p) in
      let fewer = lets q in omega (arith, most, fewer))) st.roomy)

  is_of : IsOf (txn_at st.w.lanes l).number (record_of_adding found.0)
  is_of = (fits.of, no_checkpoint found.0.added)

  pub state_stored : IsStateOf layout start later kept behind left made
  state_stored = rebuilt E layout start book later keeper kept region behind spare left events made l (txn_at st.w.lanes l).number (moved lane.part lane) st.base st.s st.chains v st (record {
    world = going.world_on E layout start book keeper region behind spare left events made l e m st more;
    roomy = roomy;
    beside = beside_changed (layout_shape layout) l (txn_at st.w.lanes l).number st.s.log st.s.log st.chains st.chains st.w v
        (going.changed_on E layout start book keeper region behind spare left events made l e m st more) (adds_same (txn_at st.w.lanes l).number st.s.log st.s.log refl)
        (λ q among. elim (inserted_out (record_of_adding found.0) (newest_log st.w.keeping.ledger) q (subst (λ (log : Log). IsAmong log q) newest_is among)) [
          | inl same ↦ inr (subst (IsOf (txn_at st.w.lanes l).number) (sym same) is_of)
          | inr was ↦ inl was
        ])
        (λ q among. inl (subst (λ (log : Log). IsAmong log q) (sym newest_is) (inserted_in (record_of_adding found.0) (newest_log st.w.keeping.ledger) q (inr among))))
        (λ t ne. going.noted_on E layout start book keeper region behind spare left events made l e m st more t false) (λ q ne. refl);
    apart = going.apart E layout start book keeper region behind spare left events made l e m st;
    lanes = goes.lanes;
    keeping = keeping_there E layout book keeper st.s st.w st.tied one_part region behind l e spare left events made m (keeping_of kept) keeps.kept;
    next = st.tied.next ∙ sym keeps.number;
    slots = keeps.slots;
    history = st.tied.history ∙ ap (λ h. map plain_entry h.items) (sym goes.history);
    held = going.held_on E layout start book keeper region behind spare left events made l e m st more;
    own = own;
    fresh = subst (λ (z : Txn). z.number < later.next_transaction) (sym txn_is) (subst (λ (k : ℕ). (txn_at st.w.lanes l).number < k) (sym goes.next) (st.tied.fresh l));
    no_less = (let is = goes.next in omega (arith, is));
    owes = owes_there;
    stores = events_paid E book later l spare left (moved lane.part lane) goes.lanes (let one = one_owed in let is = b.owed_events in omega (arith, one, is)) m.places st.owing.stores;
    places = records_owed E book later l (free_places keeper) (free_places kept) (moved lane.part lane) goes.lanes b.owed_records keeps.places st.owing.places;
    numbered = numbered_there E layout.partitions book later st.w v events made l (moved lane.part lane) goes.lanes goes.next b.begun
        (let more = b.commits in let wait = pending_same (lane_at book l) (moved lane.part lane) b.entered b.transaction in omega (arith, more, wait))
        (going.records_on E layout start book keeper region behind spare left events made l e m st more) st.numbered;
    opens = subst (λ (k : ℕ). 1 ≤ k) (sym keeps.number) st.opens;
    is_book = world_book layout book later l (moved lane.part lane) goes.lanes is_book
        (entries_stay book later l (moved lane.part lane) goes
        (same_entry book.history.items l (lane_at book l) (moved lane.part lane) b.committing b.entered b.entry b.begun (its_entry book l st.is_book.entries))
        (let is : is_joining (moved lane.part lane) ≡ is_joining (lane_at book l) = joining_same (lane_at book l) (moved lane.part lane) b.committing b.entered in omega (arith, is))
        st.is_book.entries) st.is_book;
  })

pub gates_are_stored : (E : Type 0) → GatesAreStored E
gates_are_stored E layout start book later keeper kept region behind spare left events made l e place c lane m are part_is notices lets goes is_book keeps st =
    state_stored E layout start book later keeper kept region behind spare left events made l e place c lane m are part_is (known lane notices) lets goes is_book keeps st

pub deletions_are_stored : (E : Type 0) → DeletionsAreStored E
deletions_are_stored E layout start book later keeper kept region behind spare left events made l k e place c m are part_is at call lets goes is_book keeps st =
    state_stored E layout start book later keeper kept region behind spare left events made l e place c (with_deletion (place_address place) (paid_event (lane_at book l))) m are part_is
    (deletion k (front 1 (lane_at book l).gives.items) at call (last_given (length book.history.items) (lane_at book l) k call (st.is_book.kept l))) lets goes is_book keeps st
