-- A lane whose transaction is the same, and one more event of what it has under way.
use Rattle.std.proofs.Common.{◌≡◌, ◌≢◌, ℕ, suc, ◌+◌, ◌<◌, ◌≤◌, Bool, true, false, if◌then◌else◌, List, [], length, map, reverse, refl, sym, ap, ◌∙◌, subst, arith}
use Rattle.persist_model.specs.Records.{Log, IsAmong}
use Rattle.persist_model.specs.Shape.{Shape}
use Rattle.region_layout.specs.declared.layout.Layout.{Layout}
use Rattle.region_layout.specs.declared.cell.Cell.{Cell}
use Rattle.region_layout.specs.Layout.{layout_shape}
use Rattle.offset_alloc.specs.declared.Standing.{Standing}
use Rattle.lane_traits.specs.declared.draft.WordWrite.{WordWrite}
use Rattle.lane_book.specs.declared.lane.Lane.{Lane}
use Rattle.lane_book.specs.declared.lane.Doing.{Doing}
use Rattle.lane_book.specs.Stocked.{Stocked}
use Rattle.lane_book.specs.Lanes.{has_room}
use Rattle.bucket_log.specs.Appends.{region_append}
use Rattle.log_keeper.specs.Parts.{plan_of}
use Rattle.log_keeper.proofs.Made.{over_not}
use Rattle.history_laws.specs.UnderWay.{Added, Adding, record_of_adding, UnderWay, nothing, appends, closes, takes_back, drops, run_of}
use Rattle.txn_laws.specs.Txns.{Txn}
use Rattle.txn_laws.specs.NextRecords.{is_end, ended_by}
use Rattle.txn_laws.specs.Going.{further, txn_further}
use Rattle.txn_state.specs.Stages.{Stage, Free, Between, Leaving, Naming, Storing, Deleting, Securing, Opening, Undoing, TakingBack, Keeping, Ending, Closing, ClosingEnd, Dropping, Unbuilt, stage_of, is_commit}
use Rattle.txn_state.specs.Seen.{booked, noticed}
use Rattle.txn_state.specs.Ties.{plain_write, IsWrittenWord, AreCellsOf, IsAppending, waits, appends_it, IsGoingOn, IsCome, IsLaneOf, due_by}
use Rattle.txn_state.specs.Owing.{Needs, append_left, needs_at}
use Rattle.txn_state.proofs.SameTransaction.{takes_same}
use Rattle.txn_state.proofs.Given.{given_same, deletes_same}
use Rattle.lane_book.specs.Books.{ends}

-- ---- a lane with the same transaction

-- whatever it owes
pub record IsLike {E : Type 0} (lane later : Lane E) : Type 0 where
  pub stage : stage_of later ≡ stage_of lane
  pub transaction : later.transaction ≡ lane.transaction
  pub held : later.held ≡ lane.held
  pub writes : later.writes.items ≡ lane.writes.items
  pub updates : later.updates.items ≡ lane.updates.items
  pub waits : stage_of lane ≡ Naming → later.updates ≡ lane.updates
  pub stored : later.stored ≡ lane.stored
  pub gives : later.gives.items ≡ lane.gives.items
  pub has_records : later.has_records ≡ lane.has_records
  pub rolled : later.rolled ≡ lane.rolled
  pub ended : later.ended ≡ lane.ended
  pub entry : later.entry ≡ lane.entry
  pub committing : is_commit later.doing ≡ is_commit lane.doing
  pub due : due_by later.doing ≡ due_by lane.doing
  pub gives_same : (k : ℕ) → later.doing ≡ Doing.Give k → lane.doing ≡ Doing.Give k
  pub ending : ends later.doing ≡ ends lane.doing
  pub gates : later.gates.items ≡ lane.gates.items
  pub gates_wait : due_by lane.doing ≡ 1 → later.gates ≡ lane.gates
  pub takes : (s k : ℕ) → later.doing ≡ Doing.Take s k → lane.doing ≡ Doing.Take s k
  pub promised : later.promised ≡ lane.promised

pub like_lane : (E : Type 0) (layout : Layout) (blocks : List Standing) (log newest : Log) (u : UnderWay) (p : ℕ) (lane later : Lane E) (x : Txn) → IsLike lane later →
    IsLaneOf layout blocks log newest u p lane x → IsLaneOf layout blocks log newest u p later x
like_lane E layout blocks log newest u p lane later x like is = let t = is.txn in record {
  txn = record {
    number = t.number ∙ sym like.transaction;
    here = t.here;
    writes = t.writes ∙ ap (map plain_write) (sym like.writes);
    stored = t.stored ∙ sym like.stored;
    zeroed = t.zeroed;
    commits = t.commits ∙ sym like.committing;
    updates = subst (λ (cells : List Cell). AreCellsOf (reverse cells) (noticed (layout_shape layout) p u x).updates) (sym like.updates) t.updates;
    rolled = t.rolled ∙ sym like.rolled;
    ended = t.ended ∙ sym like.ended;
    linked = t.linked;
    point = t.point;
    entry = λ e some. t.entry e (sym like.entry ∙ some);
  };
  come = subst (IsCome log u x) (sym like.stage) is.come;
  given = given_same layout blocks lane.held later.held lane.gives.items later.gives.items lane.gates.items later.gates.items (noticed (layout_shape layout) p u x).gifts
      (noticed (layout_shape layout) p u x).gifts x.words x.words like.held like.gives like.gates refl refl is.given;
  counts = ap length like.gives ∙ (is.counts ∙ ap (λ n. length x.gifts + n) (sym like.due));
  deleting = deletes_same layout u lane later like.gives_same like.gates like.gives like.promised like.gates_wait is.deleting;
  ends_ungiven = λ on. like.gives ∙ is.ends_ungiven (sym like.ending ∙ on);
  written_words = subst (λ (writes : List WordWrite). (w : WordWrite) → IsAmong writes w → IsWrittenWord (layout_shape layout) w.address) (sym like.writes) is.written_words;
  taking = takes_same layout lane later like.writes like.stored like.takes is.taking;
  naming = λ stage long. (
      let at : stage_of lane ≡ Naming = sym like.stage ∙ stage in
      let old = is.naming at (ap length (sym like.updates) ∙ long ∙ like.stored) in record {
        promised = subst (λ n. 2 ≤ n) (sym like.promised) old.promised;
        place = subst (λ (stock : Stocked Cell). has_room 1 stock) (sym (like.waits at)) old.place;
      });
  recorded = λ one has. like.has_records ∙ is.recorded one has;
  begun = λ on. is.begun (sym like.has_records ∙ on);
  has_some = λ one some over. is.has_some one (sym like.has_records ∙ some) over;
  uncompensated = λ unrolled. is.uncompensated (sym like.rolled ∙ unrolled);
}

-- ---- one event more

pub further_busy : (u : UnderWay) → u ≢ nothing → further u ≢ nothing
further_busy nothing busy e = busy refl
further_busy (appends adding made) busy e = cc
further_busy (closes gates ends made) busy e = cc
further_busy (takes_back gates made) busy e = cc
further_busy (drops r made) busy e = cc

appending_further : (kind : Added → Type 0) (u : UnderWay) → u ≢ nothing → IsAppending kind u → IsAppending kind (further u)
appending_further kind u busy (waits e) = absurd (busy e)
appending_further kind u busy (appends_it adding made e k) = appends_it adding (suc made) (ap further e) k

-- the transaction x goes on as x, whose end's gate may be stored now
going_further : (u : UnderWay) (x : Txn) → u ≢ nothing → IsGoingOn u x → IsGoingOn (further u) x
going_further u x busy going = record { some = going.some; runs = going.runs; unended = λ e. absurd (further_busy u busy e) }

pub come_further : (log : Log) (u : UnderWay) (x : Txn) (stage : Stage) → u ≢ nothing → IsCome log u x stage → IsCome log (further u) x stage
come_further log u x Free busy come = absurd (busy come.1)
come_further log u x Between busy come = absurd (busy come.rests)
come_further log u x Leaving busy come = absurd (busy come.between.rests)
come_further log u x Naming busy come = record {
  going = going_further u x busy come.going;
  last_waits = come.last_waits;
  updates_are = come.updates_are;
  unrolled = come.unrolled;
  under_way = appending_further _ u busy come.under_way;
}
come_further log u x Storing busy come = absurd (busy come.rests)
come_further log u x Securing busy come = absurd (busy come.rests)
come_further log u x Opening busy come = record { going = going_further u x busy come.going; written = come.written; under_way = appending_further _ u busy come.under_way }
come_further log u x Undoing busy come = record {
  going = going_further u x busy come.going;
  rolled = come.rolled;
  some = come.some;
  stored_are = come.stored_are;
  under_way = appending_further _ u busy come.under_way;
}
come_further log u x TakingBack busy come = absurd (busy come.rests)
come_further log u x Keeping busy come = absurd (busy come.rests)
come_further log u x Ending busy come = record {
  going = going_further u x busy come.going;
  fenced = come.fenced;
  stored_are = come.stored_are;
  commits_all = come.commits_all;
  undone_all = come.undone_all;
  rolled_is = come.rolled_is;
  under_way = appending_further _ u busy come.under_way;
}
come_further log u x Closing busy come = record { over = come.over; gates = come.gates; made = suc come.made; under_way = ap further come.under_way }
come_further log u x ClosingEnd busy come = record {
  over = come.over;
  ends_alone = come.ends_alone;
  ends = come.ends;
  made = suc come.made;
  under_way = ap further come.under_way;
  all_listed = come.all_listed;
}
come_further log u x Dropping busy come = record { over = come.over; no_record = come.no_record; removed = come.removed; made = suc come.made; under_way = ap further come.under_way }
come_further log u x Deleting busy come = record { going = going_further u x busy come.going; written = come.written; under_way = appending_further _ u busy come.under_way }
come_further log u x Unbuilt busy come = come

-- the gate of an append's record isn't stored yet, nor with the next event
abbrev pub WaitsYet : Shape → ℕ → Txn → UnderWay → Type 0
WaitsYet shape p x nothing = Unit {0}
WaitsYet shape p x (appends adding made) = (made + 2 < length (region_append shape p adding.place (record_of_adding adding))) × (x.ended ≡ ended_by shape p adding made)
WaitsYet shape p x (closes gates ends made) = Unit {0}
WaitsYet shape p x (takes_back gates made) = Unit {0}
WaitsYet shape p x (drops r made) = Unit {0}

ended_waits : (shape : Shape) (p : ℕ) (adding : Adding) (made : ℕ) → made + 1 < length (region_append shape p adding.place (record_of_adding adding)) → ended_by shape p adding made ≡ false
ended_waits shape p adding made more =
    ap (λ b. if is_end adding.added then b else false) (over_not (region_append shape p adding.place (record_of_adding adding)) (made + 1) more) ∙ both (is_end adding.added)
  where
    both : (b : Bool) → (if b then false else false) ≡ false
    both true = refl
    both false = refl

pub txn_waits : (shape : Shape) (p : ℕ) (x : Txn) (u : UnderWay) → WaitsYet shape p x u → txn_further shape p u x ≡ x
txn_waits shape p x nothing h = refl
txn_waits shape p x (appends adding made) h = let more = h.0 in
    let same : ended_by shape p adding (suc made) ≡ x.ended =
    ended_waits shape p adding (suc made) (omega (arith, more)) ∙ sym (ended_waits shape p adding made (omega (arith, more))) ∙ sym h.1 in λ i. record x { ended = same i }
txn_waits shape p x (closes gates ends made) h = refl
txn_waits shape p x (takes_back gates made) h = refl
txn_waits shape p x (drops r made) h = refl

pub noticed_waits : (shape : Shape) (p : ℕ) (x : Txn) (u : UnderWay) → WaitsYet shape p x u → noticed shape p (further u) x ≡ noticed shape p u x
noticed_waits shape p x nothing h = refl
noticed_waits shape p x (appends adding made) h = let more = h.0 in
    ap (λ b. if b then booked adding.added (record_of_adding adding) x else x)
    (over_not (region_append shape p adding.place (record_of_adding adding)) (suc made + 1) (omega (arith, more))
    ∙ sym (over_not (region_append shape p adding.place (record_of_adding adding)) (made + 1) (omega (arith, more))))
noticed_waits shape p x (closes gates ends made) h = refl
noticed_waits shape p x (takes_back gates made) h = refl
noticed_waits shape p x (drops r made) h = refl

-- ---- what it wants with an event less

-- an event less, and no other
pub record IsOneLess (needs later : Needs) : Type 0 where
  pub events : later.events + 1 ≡ needs.events
  pub records : later.records ≡ needs.records
  pub gates : later.gates ≡ needs.gates

-- the part has an event that isn't made
abbrev pub HasEventIn : Shape → ℕ → UnderWay → Type 0
HasEventIn shape p u = (run_of u).made < length (plan_of shape p (run_of u).part)

append_less : (shape : Shape) (p : ℕ) (adding : Adding) (made : ℕ) → HasEventIn shape p (appends adding made) →
    append_left shape p (appends adding (suc made)) + 1 ≡ append_left shape p (appends adding made)
append_less shape p adding made more = omega (arith, more)

less_by : (shape : Shape) (p n c : ℕ) (x : Txn) (kind : Added → Type 0) (u : UnderWay) (stage : Stage) → u ≢ nothing → IsAppending kind u → HasEventIn shape p u →
    ((adding : Adding) (made : ℕ) → append_left shape p (appends adding (suc made)) + 1 ≡ append_left shape p (appends adding made) →
    IsOneLess (needs_at shape p n c (appends adding made) x stage) (needs_at shape p n c (appends adding (suc made)) x stage)) →
    IsOneLess (needs_at shape p n c u x stage) (needs_at shape p n c (further u) x stage)
less_by shape p n c x kind u stage busy (waits e) more step = absurd (busy e)
less_by shape p n c x kind u stage busy (appends_it adding made e k) more step =
    subst (λ v. IsOneLess (needs_at shape p n c v x stage) (needs_at shape p n c (further v) x stage)) (sym e)
    (step adding made (append_less shape p adding made (subst (HasEventIn shape p) e more)))

pub needs_further : (shape : Shape) (p n c : ℕ) (log : Log) (u : UnderWay) (x : Txn) (stage : Stage) → u ≢ nothing → HasEventIn shape p u → IsCome log u x stage →
    IsOneLess (needs_at shape p n c u x stage) (needs_at shape p n c (further u) x stage)
needs_further shape p n c log u x Free busy more come = absurd (busy come.1)
needs_further shape p n c log u x Between busy more come = absurd (busy come.rests)
needs_further shape p n c log u x Leaving busy more come = absurd (busy come.between.rests)
needs_further shape p n c log u x Naming busy more come =
    less_by shape p n c x _ u Naming busy come.under_way more (λ adding made less. record { events = omega (arith, less); records = refl; gates = refl })
needs_further shape p n c log u x Storing busy more come = absurd (busy come.rests)
needs_further shape p n c log u x Securing busy more come = absurd (busy come.rests)
needs_further shape p n c log u x Opening busy more come =
    less_by shape p n c x _ u Opening busy come.under_way more (λ adding made less. record { events = omega (arith, less); records = refl; gates = refl })
needs_further shape p n c log u x Undoing busy more come =
    less_by shape p n c x _ u Undoing busy come.under_way more (λ adding made less. record { events = omega (arith, less); records = refl; gates = refl })
needs_further shape p n c log u x TakingBack busy more come = absurd (busy come.rests)
needs_further shape p n c log u x Keeping busy more come = absurd (busy come.rests)
needs_further shape p n c log u x Ending busy more come =
    less_by shape p n c x _ u Ending busy come.under_way more (λ adding made less. record { events = omega (arith, less); records = refl; gates = refl })
needs_further shape p n c log u x Closing busy more come =
    subst (λ v. IsOneLess (needs_at shape p n c v x Closing) (needs_at shape p n c (further v) x Closing)) (sym come.under_way)
    (let lt : HasEventIn shape p (closes come.gates [] come.made) = subst (HasEventIn shape p) come.under_way more in record { events = omega (arith, lt); records = refl; gates = refl })
needs_further shape p n c log u x ClosingEnd busy more come =
    subst (λ v. IsOneLess (needs_at shape p n c v x ClosingEnd) (needs_at shape p n c (further v) x ClosingEnd)) (sym come.under_way)
    (let lt : HasEventIn shape p (closes [] come.ends come.made) = subst (HasEventIn shape p) come.under_way more in record { events = omega (arith, lt); records = refl; gates = refl })
needs_further shape p n c log u x Dropping busy more come =
    subst (λ v. IsOneLess (needs_at shape p n c v x Dropping) (needs_at shape p n c (further v) x Dropping)) (sym come.under_way)
    (let lt : HasEventIn shape p (drops come.removed come.made) = subst (HasEventIn shape p) come.under_way more in record { events = omega (arith, lt); records = refl; gates = refl })
needs_further shape p n c log u x Deleting busy more come =
    less_by shape p n c x _ u Deleting busy come.under_way more (λ adding made less. record { events = omega (arith, less); records = refl; gates = refl })
needs_further shape p n c log u x Unbuilt busy more come = absurd come
