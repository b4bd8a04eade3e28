-- What the calls of a lane ask of its book at each stage.
use Rattle.std.proofs.Common.{◌≡◌, ◌⊎◌, ℕ, zero, suc, ◌+◌, ◌-◌, ◌%◌, ◌<◌, ◌≤◌, ◌==◌, not, nat_lt, Bool, true, false, if◌then◌else◌, List, [], ◌∷◌, length, take, map, inl, inr, refl, sym, ap, ◌∙◌, subst, arith}
use Rattle.std.specs.Prelude.{get_or}
use Rattle.std.proofs.lemmas.Bool.Decides.{nat_tests}
use Rattle.std.proofs.lemmas.List.{length-map}
use Rattle.std.proofs.lemmas.Option.{slice_get-get_or}
use Rattle.persist_model.specs.Region.{Words, Region}
use Rattle.persist_model.specs.Records.{Record, Log, IsAmong, Has, IsNewestFirst}
use Rattle.persist_model.specs.Standing.{IsLatest}
use Rattle.persist_model.specs.Shape.{Shape}
use Rattle.persist_model.specs.declared.event.Event.{Event}
use Rattle.log_laws.specs.Moves.{IsChangeBy}
use Rattle.lane_traits.specs.declared.draft.WordWrite.{WordWrite}
use Rattle.region_layout.specs.declared.layout.Layout.{Layout}
use Rattle.region_layout.specs.Layout.{layout_shape}
use Rattle.lane_types.specs.declared.call.Phase.{Phase}
use Rattle.lane_book.specs.declared.book.Book.{Book}
use Rattle.lane_book.specs.declared.lane.Lane.{Lane}
use Rattle.lane_book.specs.declared.lane.Doing.{Doing}
use Rattle.lane_book.specs.FacesOf.{lane_at}
use Rattle.lane_book.specs.Appends.{IsOpen}
use Rattle.lane_book.specs.Books.{IsAboutIt}
use Rattle.bucket_log.specs.Appends.{region_append}
use Rattle.log_keeper.specs.declared.keeper.LogKeeper.{LogKeeper}
use Rattle.log_keeper.specs.Keeper.{keeping_of}
use Rattle.log_keeper.specs.Changes.{is_change}
use Rattle.log_keeper.specs.Ledger.{settled_log, newest_log}
use Rattle.log_keeper.specs.Logged.{Keeping as Kept}
use Rattle.log_keeper.specs.Making.{is_over}
use Rattle.log_keeper.specs.Parts.{Running, plan_of}
use Rattle.log_keeper.proofs.LastChanges.{change_told, change_not}
use Rattle.history_laws.specs.Histories.{fold}
use Rattle.history_laws.specs.UnderWay.{Added, Adding, record_of_adding, UnderWay, nothing, appends, closes, takes_back, drops, run_of}
use Rattle.txn_laws.specs.Txns.{Txn, txn_at}
use Rattle.txn_laws.specs.NextRecords.{is_end, ended_by}
use Rattle.txn_laws.specs.PartsOf.{Fits}
use Rattle.txn_laws.specs.AreTransactions.{IsGoing}
use Rattle.txn_state.specs.declared.parts.TheConstants.{FIRST, STORE, END, CLOSE, CLOSE_END}
use Rattle.txn_state.specs.Stages.{Stage, Free, Between, Leaving, Naming, Storing, Deleting, Securing, Opening, Undoing, TakingBack, Keeping, Ending, Closing, ClosingEnd, Dropping, Unbuilt, stage_at, stage_of, end_stage, commit_stage, write_stage}
use Rattle.txn_state.specs.Seen.{noticed, booked}
use Rattle.txn_state.specs.Ties.{plain_write, under_of, IsAppending, waits, appends_it, IsCome, IsNaming, IsStoring, IsOpening, IsUndoing, IsTakingBack, IsEndingIt, IsLaneOf, WaitsToAppend}
use Rattle.txn_state.specs.States.{IsStateOf}
use Rattle.txn_state.specs.AppendLaws.{AreLeft}
use Rattle.txn_state.specs.ReadLaws.{HasWrite, LanesAreReady}
use Rattle.txn_state.proofs.Holding.{holder_is, lane_is, inside, nothing_here, under_here, run_here, some_here}
use Rattle.txn_state.proofs.ReservedRoom.{recorded_at, needs_record, updates_counted}

-- ---- an append whose gate isn't stored

-- two events are left, the gate's store and the fence
abbrev pub AreTwoLeft : Shape → ℕ → UnderWay → Type 0
AreTwoLeft shape p u = (run_of u).made + 2 ≡ length (plan_of shape p (run_of u).part)

not_over : (plan : List Event) (made : ℕ) → made + 2 ≡ length plan → is_over plan (made + 1) ≡ false
not_over plan made two = let on : nat_lt (made + 1) (length plan) ≡ true = grind (arith, nat_tests, two) in ap not on

-- the book has none of its record
pub unnoticed : (shape : Shape) (p : ℕ) (u : UnderWay) (x : Txn) → (u ≡ nothing) ⊎ AreTwoLeft shape p u → noticed shape p u x ≡ x
unnoticed shape p nothing x left = refl
unnoticed shape p (appends adding made) x left = elim left [
  | inl none ↦ (let e : appends adding made ≡ nothing = none in cc)
  | inr two ↦ ap (λ t. if t then booked adding.added (record_of_adding adding) x else x) (not_over (region_append shape p adding.place (record_of_adding adding)) made two)
]
unnoticed shape p (closes gates ends made) x left = refl
unnoticed shape p (takes_back gates made) x left = refl
unnoticed shape p (drops r made) x left = refl

unended_by : (shape : Shape) (p : ℕ) (adding : Adding) (made : ℕ) → made + 2 ≡ length (region_append shape p adding.place (record_of_adding adding)) → ended_by shape p adding made ≡ false
unended_by shape p adding made two = by (is_end adding.added) (not_over (region_append shape p adding.place (record_of_adding adding)) made two)
  where
    by : (t : Bool) → is_over (region_append shape p adding.place (record_of_adding adding)) (made + 1) ≡ false →
        (if t then is_over (region_append shape p adding.place (record_of_adding adding)) (made + 1) else false) ≡ false
    by true e = e
    by false e = refl

-- ---- the stages of an abort

abbrev is_taking_back : Stage → Bool
is_taking_back Free = false
is_taking_back Between = false
is_taking_back Leaving = false
is_taking_back Naming = false
is_taking_back Storing = false
is_taking_back Securing = false
is_taking_back Opening = false
is_taking_back Undoing = false
is_taking_back TakingBack = true
is_taking_back Keeping = false
is_taking_back Ending = false
is_taking_back Closing = false
is_taking_back ClosingEnd = false
is_taking_back Dropping = false
is_taking_back Deleting = false
is_taking_back Unbuilt = false

end_takes_none : (part : ℕ) → is_taking_back (end_stage part) ≡ false
end_takes_none part = by (part == END) (part == CLOSE) (part == CLOSE_END)
  where
    by : (a b c : Bool) → is_taking_back (if a then Ending else (if b then Closing else (if c then ClosingEnd else Dropping))) ≡ false
    by true b c = refl
    by false true c = refl
    by false false true = refl
    by false false false = refl

commit_takes_none : (part : ℕ) → is_taking_back (commit_stage part) ≡ false
commit_takes_none part = by (part == FIRST)
  where
    by : (t : Bool) → is_taking_back (if t then Securing else end_stage part) ≡ false
    by true = refl
    by false = end_takes_none part

write_takes_none : (part : ℕ) → is_taking_back (write_stage part) ≡ false
write_takes_none part = by (part == STORE)
  where
    by : (t : Bool) → is_taking_back (if t then Storing else Naming) ≡ false
    by true = refl
    by false = refl

-- only an abort takes back, whose lane has stored no more than it wrote
stored_within : {E : Type 0} (lane : Lane E) (phase : Phase) (recorded : Bool) (part : ℕ) (doing : Doing) → is_taking_back (stage_at phase recorded part doing) ≡ true →
    IsAboutIt lane doing → lane.stored ≤ length lane.writes.items
stored_within lane Phase.Out recorded part Doing.Nothing on about = cc
stored_within lane Phase.In recorded part Doing.Nothing on about = cc
stored_within lane Phase.Calling recorded part Doing.Nothing on about = cc
stored_within lane phase recorded part (Doing.Begin set) on about = cc
stored_within lane phase recorded part (Doing.Read a) on about = cc
stored_within lane phase recorded part (Doing.Write a v) on about = let off = write_takes_none part in let e : true ≡ false = sym on ∙ off in cc
stored_within lane phase recorded part (Doing.Take s block) on about = let off = write_takes_none part in let e : true ≡ false = sym on ∙ off in cc
stored_within lane phase recorded part (Doing.Give block) on about = cc
stored_within lane phase true part Doing.Commit on about = let off = commit_takes_none part in let e : true ≡ false = sym on ∙ off in cc
stored_within lane phase false part Doing.Commit on about = cc
stored_within lane phase recorded part Doing.Abort on about = about
stored_within lane phase recorded part Doing.Checkpoint on about = cc
stored_within lane phase recorded part (Doing.Batch n) on about = cc
stored_within lane phase recorded part Doing.Savepoint on about = cc
stored_within lane phase recorded part (Doing.RollbackTo n) on about = cc

-- ---- the latest change of a word

newer_above : (r s : Record) (log : Log) → IsNewestFirst (r ∷ log) → IsAmong log s → s.lsn ≤ r.lsn
newer_above r s log first m = elim (first.0 s m) [ inl lt ↦ omega (arith, lt) | inr same ↦ (let e = same.0 in omega (arith, e)) ]

-- where there is a change there is a latest one
pub latest_change : (t a : ℕ) (log : Log) → IsNewestFirst log → Has (IsChangeBy t a) log → (r : Record) × IsLatest (IsChangeBy t a) log r
latest_change t a [] first some = absurd some.1
latest_change t a (x ∷ log) first some = by (is_change t a x) refl (latest_change t a log first.1)
  where
    by : (on : Bool) → is_change t a x ≡ on → (Has (IsChangeBy t a) log → (r : Record) × IsLatest (IsChangeBy t a) log r) → (r : Record) × IsLatest (IsChangeBy t a) (x ∷ log) r
    by true is others = (
      x,
      record {
        among = inl refl;
        has = change_told t a x is;
        last = λ s m c. elim m [ inl e ↦ (let same = ap (λ (q : Record). q.lsn) e in omega (arith, same)) | inr k ↦ newer_above x s log first k ];
      },
    )
    by false is others =
        let no : IsChangeBy t a x → ⊥ = change_not t a x is in
        let r = others (some.0, elim some.1 [ inl e ↦ absurd (no (subst (IsChangeBy t a) e some.2)) | inr k ↦ k ], some.2) in (
          r.0,
          record {
            among = inr r.1.among;
            has = r.1.has;
            last = λ s m c. elim m [ inl e ↦ absurd (no (subst (IsChangeBy t a) e c)) | inr k ↦ r.1.last s k c ];
          },
        )

-- ---- elements

among_got : {X : Type 0} (xs : List X) (n : ℕ) (d : X) → n < length xs → IsAmong xs (get_or xs n d)
among_got [] n d lt = absurd (omega (arith, lt))
among_got (x ∷ xs) zero d lt = inl refl
among_got (x ∷ xs) (suc n) d lt = inr (among_got xs n d (omega (arith, lt)))

got_taken : {X Y : Type 0} (f : X → Y) (xs : List X) (n k : ℕ) (d : X) → n < length xs → n < k → IsAmong (take k (map f xs)) (f (get_or xs n d))
got_taken f [] n k d lt below = absurd (omega (arith, lt))
got_taken f (x ∷ xs) n zero d lt below = absurd (omega (arith, below))
got_taken f (x ∷ xs) zero (suc k) d lt below = inl refl
got_taken f (x ∷ xs) (suc n) (suc k) d lt below = inr (got_taken f xs n k d (omega (arith, lt)) (omega (arith, below)))

abbrev no_write : WordWrite
no_write = record { address = 0; value = 0 }

-- ---- in a state

module _ {E : Type 0} (layout : Layout) (start : Words) (book : Book E) (keeper : LogKeeper) (region : Region) (spare events l : ℕ) (lt : l < length book.lanes.items)
    (st : IsStateOf layout start book keeper region spare events) where
  abbrev shape : Shape
  shape = layout_shape layout

  abbrev p : ℕ
  p = l % layout.partitions

  abbrev lane : Lane E
  lane = lane_at book l

  abbrev u : UnderWay
  u = under_of (layout_shape layout) st.w l

  abbrev x : Txn
  x = txn_at st.w.lanes l

  of : IsLaneOf layout book.blocks st.s.log (newest_log st.w.keeping.ledger) (under_of (layout_shape layout) st.w l) (l % layout.partitions) (lane_at book l) (txn_at st.w.lanes l)
  of = lane_is layout start book keeper region spare events st l lt

  -- ---- before the gate's store

  before : AreLeft layout keeper (l % layout.partitions) 2 ⊎ ((keeping_of keeper).holder (l % layout.partitions) ≡ 17) →
      ((keeping_of keeper).holder (l % layout.partitions) ≡ l) ⊎ ((keeping_of keeper).holder (l % layout.partitions) ≡ 17) →
      (under_of (layout_shape layout) st.w l ≡ nothing) ⊎ AreTwoLeft (layout_shape layout) (l % layout.partitions) (under_of (layout_shape layout) st.w l)
  before left held = elim held [
    | inl here ↦ elim left [
      | inl two ↦ inr (subst (λ (run : Running). run.made + 2 ≡ length (plan_of shape p run.part)) (run_here layout start book keeper region spare events st l lt here) two)
      | inr free ↦ inl (nothing_here layout start book keeper region spare events st l lt free)
    ]
    | inr free ↦ inl (nothing_here layout start book keeper region spare events st l lt free)
  ]

  module _ (left : (under_of (layout_shape layout) st.w l ≡ nothing) ⊎ AreTwoLeft (layout_shape layout) (l % layout.partitions) (under_of (layout_shape layout) st.w l)) where
    same : noticed (layout_shape layout) (l % layout.partitions) (under_of (layout_shape layout) st.w l) (txn_at st.w.lanes l) ≡ txn_at st.w.lanes l
    same = unnoticed shape p u x left

    count : length (lane_at book l).updates.items ≡ length (txn_at st.w.lanes l).updates
    count = updates_counted shape p lane u x of.txn ∙ ap (λ (y : Txn). length y.updates) same

    waits_for_it : stage_of (lane_at book l) ≡ Naming → WaitsToAppend (lane_at book l)
    waits_for_it at =
        let come : IsNaming u x = subst (IsCome st.s.log u x) at of.come in
        of.naming at (count ∙ come.updates_are ∙ of.txn.stored)

    rolled_not : stage_of (lane_at book l) ≡ Opening → (lane_at book l).rolled ≡ false
    rolled_not at =
        let come : IsOpening u x = subst (IsCome st.s.log u x) at of.come in
        sym of.txn.rolled ∙ ap (λ (y : Txn). y.rolled) same ∙ come.written.unrolled

    some_left : stage_of (lane_at book l) ≡ Undoing → 1 ≤ length (lane_at book l).updates.items
    some_left at =
        let come : IsUndoing u x = subst (IsCome st.s.log u x) at of.come in
        let some = come.some in
        let e = count in
        omega (arith, some, e)

  -- ---- while it appends

  module _ (two : AreLeft layout keeper (l % layout.partitions) 2) (here : (keeping_of keeper).holder (l % layout.partitions) ≡ l) where
    pub two_left : AreTwoLeft (layout_shape layout) (l % layout.partitions) (under_of (layout_shape layout) st.w l)
    two_left = subst (λ (run : Running). run.made + 2 ≡ length (plan_of shape p run.part)) (run_here layout start book keeper region spare events st l lt here) two

    holder : st.w.keeping.holder (l % layout.partitions) ≡ l
    holder = holder_is layout start book keeper region spare events st p ∙ here

    fits : Fits (layout_shape layout) st.s (fold start st.w.history) (l % layout.partitions) (txn_at st.w.lanes l) (under_of (layout_shape layout) st.w l)
    fits = subst (Fits shape st.s (fold start st.w.history) p x) (sym (under_here layout start book keeper region spare events st l lt here))
        (subst (λ k. Fits shape st.s (fold start st.w.history) p (txn_at st.w.lanes k) (st.w.under p)) holder (st.world.parts p (inside layout start book keeper region spare events st l lt)).fits)

    unended : (kind : Added → Type 0) → IsAppending kind (under_of (layout_shape layout) st.w l) → (txn_at st.w.lanes l).ended ≡ false
    unended kind (waits none) = absurd (some_here layout start book keeper region spare events st l lt here none)
    unended kind (appends_it adding made is added) =
        (subst (Fits shape st.s (fold start st.w.history) p x) is fits).ended_is ∙ unended_by shape p adding made (subst (AreTwoLeft shape p) is two_left)

    going : (stage_of (lane_at book l) ≡ Opening) ⊎ (stage_of (lane_at book l) ≡ Undoing) ⊎ (stage_of (lane_at book l) ≡ Ending) → (txn_at st.w.lanes l).ended ≡ false
    going at = elim at [
      | inl one ↦ (let come : IsOpening u x = subst (IsCome st.s.log u x) one of.come in unended _ come.under_way)
      | inr (inl two) ↦ (let come : IsUndoing u x = subst (IsCome st.s.log u x) two of.come in unended _ come.under_way)
      | inr (inr three) ↦ (let come : IsEndingIt u x = subst (IsCome st.s.log u x) three of.come in unended _ come.under_way)
    ]

    recorded : (stage_of (lane_at book l) ≡ Opening) ⊎ (stage_of (lane_at book l) ≡ Undoing) ⊎ (stage_of (lane_at book l) ≡ Ending) → (lane_at book l).has_records ≡ true
    recorded at = recorded_at lane.phase lane.has_records lane.part lane.doing (elim at [
      | inl one ↦ ap needs_record one
      | inr (inl two) ↦ ap needs_record two
      | inr (inr three) ↦ ap needs_record three
    ])

    opened : (stage_of (lane_at book l) ≡ Opening) ⊎ (stage_of (lane_at book l) ≡ Undoing) ⊎ (stage_of (lane_at book l) ≡ Ending) → IsOpen (lane_at book l)
    opened at = record { records = recorded at; going = sym of.txn.ended ∙ going at }

  -- ---- the next store

  written : length (txn_at st.w.lanes l).writes ≡ length (lane_at book l).writes.items
  written = ap length of.txn.writes ∙ length-map lane.writes.items plain_write

  write_at : (n : ℕ) → n < length (lane_at book l).writes.items → HasWrite layout (lane_at book l) n (get_or (lane_at book l).writes.items n no_write)
  write_at n below = record {
    write = slice_get-get_or lane.writes.items n no_write below;
    written_word = of.written_words (get_or lane.writes.items n no_write) (among_got lane.writes.items n no_write below);
  }

  last_write : (txn_at st.w.lanes l).stored + 1 ≡ length (txn_at st.w.lanes l).writes → (w : WordWrite) × HasWrite layout (lane_at book l) (lane_at book l).stored w
  last_write last = let e = written in let is = of.txn.stored in (get_or lane.writes.items lane.stored no_write, write_at lane.stored (omega (arith, last, e, is)))

  next_store : (stage_of (lane_at book l) ≡ Naming) ⊎ (stage_of (lane_at book l) ≡ Storing) → (w : WordWrite) × HasWrite layout (lane_at book l) (lane_at book l).stored w
  next_store at = elim at [
    | inl naming ↦ (let come : IsNaming u x = subst (IsCome st.s.log u x) naming of.come in last_write come.last_waits)
    | inr storing ↦ (let come : IsStoring u x = subst (IsCome st.s.log u x) storing of.come in last_write come.last_waits)
  ]

  module _ (at : stage_of (lane_at book l) ≡ TakingBack) where
    come_back : IsTakingBack (under_of (layout_shape layout) st.w l) (txn_at st.w.lanes l)
    come_back = subst (IsCome st.s.log u x) at of.come

    some_stored : 1 ≤ (lane_at book l).stored
    some_stored = let one = come_back.one_more in let is = of.txn.stored in omega (arith, one, is)

    below : (lane_at book l).stored - 1 < length (lane_at book l).writes.items
    below =
        let within = stored_within lane lane.phase lane.has_records lane.part lane.doing (ap is_taking_back at) (st.is_book.kept l).about in
        let some = some_stored in
        omega (arith, within, some)

    taken : WordWrite
    taken = get_or (lane_at book l).writes.items ((lane_at book l).stored - 1) no_write

    runs : IsGoing st.s.log (fold start st.w.history) (txn_at st.w.lanes l)
    runs = (st.world.transactions.each l).going come_back.going.runs

    -- each word that it has stored to has a change in the log
    changed : Has (IsChangeBy (txn_at st.w.lanes l).number (get_or (lane_at book l).writes.items ((lane_at book l).stored - 1) no_write).address) st.s.log
    changed =
        let some = some_stored in
        let is = of.txn.stored in
        let r = runs.covered (plain_write (get_or lane.writes.items (lane.stored - 1) no_write))
        (subst (λ ws. IsAmong (take x.stored ws) (plain_write (get_or lane.writes.items (lane.stored - 1) no_write))) (sym of.txn.writes)
        (got_taken plain_write lane.writes.items (lane.stored - 1) x.stored no_write below (omega (arith, some, is)))) in
        (r.0, r.1, (inl r.2.0, r.2.1, r.2.2))

    latest : (r : Record) × IsLatest (IsChangeBy (lane_at book l).transaction (get_or (lane_at book l).writes.items ((lane_at book l).stored - 1) no_write).address) (settled_log (keeping_of keeper).ledger) r
    latest =
        subst (λ (k : Kept). (r : Record) × IsLatest (IsChangeBy lane.transaction (get_or lane.writes.items (lane.stored - 1) no_write).address) (settled_log k.ledger) r) st.tied.keeping
        (subst (λ log. (r : Record) × IsLatest (IsChangeBy lane.transaction (get_or lane.writes.items (lane.stored - 1) no_write).address) log r) st.world.log.logged.records
        (subst (λ t. (r : Record) × IsLatest (IsChangeBy t (get_or lane.writes.items (lane.stored - 1) no_write).address) st.s.log r) of.txn.number
        (latest_change x.number (get_or lane.writes.items (lane.stored - 1) no_write).address st.s.log st.world.log.sound.newest_first changed)))

pub lanes_are_ready : {E : Type 0} → LanesAreReady E
lanes_are_ready = record {
  updates = λ layout start book keeper region spare events l lt at left held st.
      waits_for_it layout start book keeper region spare events l lt st (before layout start book keeper region spare events l lt st left held) at;
  is_open = λ layout start book keeper region spare events l lt at two here st. opened layout start book keeper region spare events l lt st two here at;
  unrolled = λ layout start book keeper region spare events l lt at two here st.
      rolled_not layout start book keeper region spare events l lt st (inr (two_left layout start book keeper region spare events l lt st two here)) at;
  some_update = λ layout start book keeper region spare events l lt at left held st.
      some_left layout start book keeper region spare events l lt st (before layout start book keeper region spare events l lt st left held) at;
  to_store = λ layout start book keeper region spare events l lt at st. next_store layout start book keeper region spare events l lt st at;
  to_take_back = λ layout start book keeper region spare events l lt at st. (
    get_or (lane_at book l).writes.items ((lane_at book l).stored - 1) no_write,
    write_at layout start book keeper region spare events l lt st ((lane_at book l).stored - 1) (below layout start book keeper region spare events l lt st at),
    some_stored layout start book keeper region spare events l lt st at,
    (latest layout start book keeper region spare events l lt st at).0,
    (latest layout start book keeper region spare events l lt st at).1,
  );
}
