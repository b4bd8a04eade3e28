-- A step of one lane that makes an event and keeps the history: what is left to show of it.
use Rattle.std.proofs.Common.{◌≡◌, ◌⊎◌, inl, inr, ℕ, ◌+◌, ◌%◌, ◌<◌, ◌≤◌, Bool, true, false, not, ◌&&◌, if◌then◌else◌, List, map, sym, ap, ◌∙◌, subst, arith}
use Rattle.persist_model.specs.Region.{Words, Region}
use Rattle.persist_model.specs.State.{State}
use Rattle.region_layout.specs.declared.layout.Layout.{Layout}
use Rattle.region_layout.specs.Layout.{layout_shape}
use Rattle.offset_alloc.specs.declared.Standing.{Standing}
use Rattle.lane_book.specs.declared.lane.Lane.{Lane}
use Rattle.lane_book.specs.declared.book.Book.{Book}
use Rattle.lane_book.specs.FacesOf.{lane_at}
use Rattle.lane_book.specs.Books.{IsBook}
use Rattle.lane_book.specs.Reserved.{reserved_by}
use Rattle.log_keeper.specs.declared.keeper.LogKeeper.{LogKeeper}
use Rattle.log_keeper.specs.Keeper.{keeping_of, KeepsSlots, free_places}
use Rattle.log_keeper.specs.Ledger.{newest_log}
use Rattle.txn_laws.specs.Txns.{txn_at}
use Rattle.txn_laws.specs.Rooms.{IsRoomy, sum_below}
use Rattle.txn_laws.specs.Worlds.{World, IsWorldAt}
use Rattle.txn_state.specs.Stages.{is_commit}
use Rattle.txn_state.specs.Ties.{plain_entry, under_of, AreHeld, IsLaneOf}
use Rattle.txn_state.specs.Owing.{OwesEnough}
use Rattle.txn_state.specs.Numbers.{unpaid, pending}
use Rattle.txn_state.specs.States.{is_joining, HasNoEntry, AreEntries, reserved_for, IsStateOf}
use Rattle.txn_state.specs.Changes.{GoesTo}
use Rattle.txn_state.specs.Beside.{IsBeside}
use Rattle.txn_state.proofs.Lanes.{lane_sum_less, lane_sum_falls, its_entry, entries_stay, same_entry, joining_same}
use Rattle.txn_state.proofs.Steps.{numbers_stay, goes_on, apart_own}

-- ---- the lane's own counts and its entry

-- the lane's entry is as it was
pub record KeepsEntry {E : Type 0} (lane later : Lane E) : Type 0 where
  pub commit : is_commit later.doing ≡ is_commit lane.doing
  pub entered : later.entered ≡ lane.entered
  pub entry : later.entry ≡ lane.entry
  pub begun : later.begun ≡ lane.begun

-- or it has none
pub record LacksEntry {E : Type 0} (later : Lane E) : Type 0 where
  pub no_commit : is_commit later.doing ≡ false
  pub no_entry : HasNoEntry later

-- it began as many transactions, and no more of them are over or in progress
pub record KeepsNumbers {E : Type 0} (lane later : Lane E) : Type 0 where
  pub begun : later.begun ≡ lane.begun
  pub commits : later.commits + pending later ≤ lane.commits + pending lane

-- With an event the lane owes one less, and nothing more; and it reserves no more cells.
pub record PaysEvent {E : Type 0} (lane later : Lane E) : Type 0 where
  pub events_less : later.owed_events + 1 ≤ lane.owed_events
  pub records_less : later.owed_records ≤ lane.owed_records
  pub reserves : reserved_by later ≤ reserved_by lane
  pub entry : KeepsEntry lane later ⊎ LacksEntry later
  pub numbers : KeepsNumbers lane later

-- 1 where a commit's entry hasn't joined
abbrev one_if : Bool → Bool → ℕ
one_if commits entered = if commits && not entered then 1 else 0

none_joins : (commits entered : Bool) (n : ℕ) → commits ≡ false → one_if commits entered ≤ n
none_joins commits entered n off = let none : one_if commits entered ≡ 0 = ap (λ b. one_if b entered) off in omega (arith, none)

entries_there : {E : Type 0} (book later : Book E) (l : ℕ) (lane : Lane E) → GoesTo book later l lane → KeepsEntry (lane_at book l) lane ⊎ LacksEntry lane → AreEntries book → AreEntries later
entries_there book later l lane goes (inl keeps) entries = entries_stay book later l lane goes
    (same_entry book.history.items l (lane_at book l) lane keeps.commit keeps.entered keeps.entry keeps.begun (its_entry book l entries))
    (let same = joining_same (lane_at book l) lane keeps.commit keeps.entered in omega (arith, same)) entries
entries_there book later l lane goes (inr lacks) entries = entries_stay book later l lane goes
    (record {
      others = λ off. lacks.no_entry;
      waits = λ on new. absurd (let e : true ≡ false = sym on ∙ lacks.no_commit in cc);
      joined = λ on is. absurd (let e : true ≡ false = sym on ∙ lacks.no_commit in cc);
    })
    (none_joins (is_commit lane.doing) lane.entered (is_joining (lane_at book l)) lacks.no_commit) entries

-- ---- the step

-- The world is v behind it, of these words, state and chains, and in it the lane is this one.
pub record IsWorldStep {E : Type 0} (layout : Layout) (start : Words) (book later : Book E) (keeper kept : LogKeeper) (region behind : Region) (spare events l : ℕ)
    (state : IsStateOf layout start book keeper region spare events) (base : Words) (s : State) (chains : ℕ → List ℕ) (v : World) (lane : Lane E) : Type 0 where
  pub world : IsWorldAt (layout_shape layout) base s chains start v behind
  pub roomy : IsRoomy (layout_shape layout) behind (reserved_for layout later)
  pub beside : IsBeside (layout_shape layout) l (txn_at state.w.lanes l).number state.s.log s.log state.chains chains state.w v
  pub keeping : v.keeping ≡ keeping_of kept
  pub next : v.next ≡ kept.next_lsn
  pub slots : KeepsSlots keeper.slots.items kept.slots.items
  pub places : free_places keeper ≤ free_places kept
  pub history : v.history ≡ state.w.history
  pub held : AreHeld (layout_shape layout) v
  pub mine : IsLaneOf layout book.blocks s.log (newest_log v.keeping.ledger) (under_of (layout_shape layout) v l) (l % layout.partitions) lane (txn_at v.lanes l)
  pub owes : OwesEnough (layout_shape layout) chains later kept v l
  pub number : (txn_at v.lanes l).number < book.next_transaction
  pub next_same : v.next ≡ state.w.next
  pub unpaid_same : sum_below (λ p. unpaid (v.under p)) layout.partitions ≡ sum_below (λ p. unpaid (state.w.under p)) layout.partitions
  pub pays : PaysEvent (lane_at book l) lane

pub steps_on : {E : Type 0} (layout : Layout) (start : Words) (book later : Book E) (keeper kept : LogKeeper) (region behind : Region) (spare left events made l : ℕ)
    (state : IsStateOf layout start book keeper region spare events) (base : Words) (s : State) (chains : ℕ → List ℕ) (v : World) (lane : Lane E) → GoesTo book later l lane → IsBook later →
    spare ≤ left + 1 → made ≡ events + 1 → IsWorldStep layout start book later keeper kept region behind spare events l state base s chains v lane → IsStateOf layout start later kept behind left made
steps_on {E} layout start book later keeper kept region behind spare left events made l state base s chains v lane goes is_book spared counted step =
    goes_on layout start book later keeper kept region behind spare left events made l (txn_at state.w.lanes l).number lane state
    (let there = step.next in let same = step.next_same in let is = state.tied.next in let one = state.opens in omega (arith, there, same, is, one)) (record {
      base = base;
      s = s;
      others = chains;
      v = v;
      has = goes.lanes;
      is_book = is_book;
      entries = entries_there book later l lane goes step.pays.entry state.is_book.entries;
      world = step.world;
      roomy = step.roomy;
      beside = step.beside;
      apart = apart_own (layout_shape layout) state.base state.s state.chains start state.w region l state.world;
      keeping = step.keeping;
      next = step.next;
      slots = step.slots;
      history = step.history ∙ state.tied.history ∙ sym (ap (λ (h : _). map plain_entry h.items) goes.history);
      held = step.held;
      own = subst (λ (blocks : List Standing). IsLaneOf layout blocks s.log (newest_log v.keeping.ledger) (under_of (layout_shape layout) v l) (l % layout.partitions) lane (txn_at v.lanes l))
          (sym goes.lanes.blocks) step.mine;
      owes = step.owes;
      stores = (
          let fall = lane_sum_falls (λ (y : Lane E). y.owed_events) book later l lane goes.lanes step.pays.events_less in
          let was = state.owing.stores in
          omega (arith, fall, was, spared));
      places = (
          let fall = lane_sum_less (λ (y : Lane E). y.owed_records) book later l lane goes.lanes step.pays.records_less in
          let was = state.owing.places in
          let more = step.places in
          omega (arith, fall, was, more));
      fresh = subst (λ n. (txn_at v.lanes l).number < n) (sym goes.next) step.number;
      risen = (let same = goes.next in omega (arith, same));
      numbered = numbers_stay layout.partitions book later l lane state.w v events made goes.lanes goes.next step.pays.numbers.begun
          (let was = state.numbered.commits l in let less = step.pays.numbers.commits in let same = step.pays.numbers.begun in omega (arith, was, less, same))
          (let was = state.numbered.records in let next = step.next_same in let same = step.unpaid_same in omega (arith, was, counted, next, same)) state.numbered;
    })
