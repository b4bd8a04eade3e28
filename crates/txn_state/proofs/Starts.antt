-- The state where a world begins.
use Rattle.std.proofs.Common.{◌≡◌, ◌≢◌, inl, inr, ℕ, zero, suc, ◌+◌, ◌*◌, ◌%◌, ◌≤◌, ◌^◌, ◌==◌, Bool, true, false, if◌then◌else◌, List, [], length, map, refl, sym, ap, ◌∙◌, subst, arith}
use Rattle.persist_model.specs.Region.{Words, Region}
use Rattle.persist_model.specs.Shape.{heap_words}
use Rattle.persist_model.specs.State.{State}
use Rattle.region_layout.specs.declared.layout.Layout.{Layout}
use Rattle.region_layout.specs.Layout.{layout_shape}
use Rattle.lane_book.specs.declared.book.Book.{Book}
use Rattle.lane_book.specs.declared.lane.Lane.{Lane}
use Rattle.lane_book.specs.FacesOf.{lane_at, idle_lane}
use Rattle.lane_book.specs.Reserved.{share_of, reserved_below}
use Rattle.log_keeper.specs.declared.keeper.LogKeeper.{LogKeeper}
use Rattle.history_laws.specs.UnderWay.{nothing}
use Rattle.txn_laws.specs.Txns.{Txn, idle, txn_at, idle_lanes}
use Rattle.txn_laws.specs.Rooms.{IsRoomy, sum_below}
use Rattle.txn_laws.specs.Worlds.{World, IsWorldAt}
use Rattle.txn_laws.specs.StartLaws.{IsStartingRegion, fresh_world}
use Rattle.txn_laws.proofs.Rooms.{rooms_start}
use Rattle.txn_state.specs.Stages.{is_commit}
use Rattle.txn_state.specs.Ties.{plain_entry, under_of, IsLaneOf}
use Rattle.txn_state.specs.Numbers.{pending}
use Rattle.txn_state.specs.States.{is_joining, HasNoEntry, AreEntries, reserved_for, IsStateOf}
use Rattle.txn_state.specs.StartLaw.{IsFreshBook, IsFreshKeeper, StatesStart}
use Rattle.txn_state.proofs.Sums.{sums_none}
use Rattle.txn_state.proofs.SameTransaction.{owes_of, no_gates}
use Rattle.txn_state.proofs.FreeLanes.{IsFreeLane, free_lane}

idle_at : (n l : ℕ) → txn_at (idle_lanes n) l ≡ idle
idle_at zero l = refl
idle_at (suc n) zero = refl
idle_at (suc n) (suc l) = idle_at n l

idle_count : (n : ℕ) → length (idle_lanes n) ≡ n
idle_count zero = refl
idle_count (suc n) = let e = idle_count n in omega (arith, e)

idle_free : {E : Type 0} → IsFreeLane (idle_lane {E = E})
idle_free = record {
  free = refl;
  commits = refl;
  held = refl;
  transaction = refl;
  writes = refl;
  updates = refl;
  stored = refl;
  gives = refl;
  gates = refl;
  records = refl;
  rolled = refl;
  ended = refl;
  entry = refl;
}

either_nothing : (b : Bool) → (if b then nothing else nothing) ≡ nothing
either_nothing true = refl
either_nothing false = refl

-- nothing is reserved
none_reserved : {E : Type 0} (layout : Layout) (book : Book E) (q : ℕ) → ((l : ℕ) → lane_at book l ≡ idle_lane) → reserved_for layout book q ≡ 0
none_reserved layout book q idles = let sum = below (length book.lanes.items) in none (q == 0) sum
  where
    share : (k : ℕ) → share_of layout.partitions q k (lane_at book k) ≡ 0
    share k = ap (share_of layout.partitions q k) (idles k) ∙ by ((k % layout.partitions) == q)
      where
        by : (t : Bool) → ◌≡◌ {A = ℕ} (if t then 0 else 0) 0
        by true = refl
        by false = refl

    below : (n : ℕ) → reserved_below book layout.partitions q n ≡ 0
    below zero = refl
    below (suc n) = let others = below n in let last = share n in omega (arith, others, last)

    none : (t : Bool) → reserved_below book layout.partitions q (length book.lanes.items) ≡ 0 → reserved_below book layout.partitions q (length book.lanes.items) + (if t then 0 else 0) ≡ 0
    none true sum = omega (arith, sum)
    none false sum = omega (arith, sum)

module _ {E : Type 0} (layout : Layout) (base : Words) (s : State) (chains : ℕ → List ℕ) (book : Book E) (keeper : LogKeeper) (region : Region) (spare events : ℕ)
    (force : (layout_shape layout).policy ≢ 2) (starts : IsStartingRegion (layout_shape layout) base s chains region)
    (fresh : IsFreshBook layout book) (free : IsFreshKeeper layout keeper) where
  abbrev w : World
  w = fresh_world (length book.lanes.items) 1

  numbers : 1 + layout.cells * (layout.buckets + layout.partitions) + 1 ≤ 2 ^ 63
  numbers = elim starts.allowed.cells [
    | inl one ↦ (let b = starts.allowed.buckets.1 in let p = starts.allowed.partitions.1 in
        subst (λ n. 1 + n * (layout.buckets + layout.partitions) + 1 ≤ 2 ^ 63) (sym one) (omega (arith, b, p)))
    | inr many ↦ (let b = starts.allowed.buckets.1 in let p = starts.allowed.partitions.1 in
        subst (λ n. 1 + n * (layout.buckets + layout.partitions) + 1 ≤ 2 ^ 63) (sym many) (omega (arith, b, p)))
  ]

  both : IsWorldAt (layout_shape layout) base s chains (heap_words (layout_shape layout) base) w region × IsRoomy (layout_shape layout) region (reserved_for layout book)
  both = rooms_start (layout_shape layout) base s chains (length book.lanes.items) 1 region (reserved_for layout book) force numbers starts
      (λ p lt. (let none = none_reserved layout book p fresh.idle in omega (arith, none)))

  nothing_of : (l : ℕ) → under_of (layout_shape layout) w l ≡ nothing
  nothing_of l = either_nothing (17 == l)

  free_of : (l : ℕ) → IsLaneOf layout book.blocks s.log [] (under_of (layout_shape layout) w l) (l % layout.partitions) (lane_at book l) (txn_at w.lanes l)
  free_of l = subst (λ lane. IsLaneOf layout book.blocks s.log [] (under_of (layout_shape layout) w l) (l % layout.partitions) lane (txn_at w.lanes l)) (sym (fresh.idle l))
      (subst (λ x. IsLaneOf layout book.blocks s.log [] (under_of (layout_shape layout) w l) (l % layout.partitions) (idle_lane {E = E}) x) (sym (idle_at (length book.lanes.items) l))
      (free_lane layout book.blocks s.log [] (under_of (layout_shape layout) w l) (l % layout.partitions) idle_lane idle_free (nothing_of l)))

  none_of : (f : Lane E → ℕ) → f idle_lane ≡ 0 → sum_below (λ l. f (lane_at book l)) (length book.lanes.items) ≡ 0
  none_of f none = sums_none (λ l. f (lane_at book l)) (length book.lanes.items) (λ l. ap f (fresh.idle l) ∙ none)

  no_entries : AreEntries book
  no_entries = record {
    others = λ l off. subst HasNoEntry (sym (fresh.idle l)) (record { unentered = refl; none = refl });
    waits = λ l on new. (let e : false ≡ true = sym (ap (λ (x : Lane E). is_commit x.doing) (fresh.idle l)) ∙ on in cc);
    joined = λ l on is. (let e : false ≡ true = sym (ap (λ (x : Lane E). is_commit x.doing) (fresh.idle l)) ∙ on in cc);
    places = (let none = none_of is_joining refl in let empty = ap length fresh.no_history in omega (arith, none, empty));
  }

  begins : IsStateOf layout (heap_words (layout_shape layout) base) book keeper region spare events
  begins = record {
    base = base;
    s = s;
    chains = chains;
    w = w;
    world = both.0;
    roomy = both.1;
    tied = record {
      keeping = sym free.kept;
      next = sym free.number;
      slots = free.slots;
      lanes = idle_count (length book.lanes.items);
      history = sym (ap (map plain_entry) fresh.no_history);
      held = record {
        free = λ p lt is. refl;
        busy = λ p lt off. absurd (off refl);
        unfinished = λ p lt off. absurd (off refl);
        lane = λ p lt off. absurd (off refl);
        here = λ p lt off. absurd (off refl);
      };
      each = λ l lt. free_of l;
      fresh = λ l. (let none : (txn_at w.lanes l).number ≡ 0 = ap (λ (x : Txn). x.number) (idle_at (length book.lanes.items) l) in let first = fresh.first in omega (arith, none, first));
    };
    owing = record {
      each = λ l lt. owes_of (layout_shape layout) chains book keeper w l idle_lane (fresh.idle l) (omega arith) (omega arith) (no_gates keeper.slots.items (l % layout.partitions));
      stores = (let none = none_of (λ x. x.owed_events) refl in omega (arith, none));
      places = (let none = none_of (λ x. x.owed_records) refl in omega (arith, none));
    };
    numbered = record {
      records = omega arith;
      transactions = (let first = fresh.first in omega (arith, first));
      some = (let first = fresh.first in omega (arith, first));
      begun = λ l. subst (λ (x : Lane E). x.begun ≤ 2 ^ 59) (sym (fresh.idle l)) (omega arith);
      commits = λ l. subst (λ (x : Lane E). x.commits + pending x ≤ x.begun) (sym (fresh.idle l)) (omega arith);
    };
    opens = (let first = free.number in omega (arith, first));
    is_book = record {
      kept = fresh.kept;
      some = fresh.some;
      few = fresh.few;
      blocks = fresh.blocks;
      structures = fresh.structures;
      entries = no_entries;
    };
  }

pub states_start : {E : Type 0} → StatesStart E
states_start layout base s chains book keeper region spare events force starts full fresh free = begins layout base s chains book keeper region spare events force starts fresh free
