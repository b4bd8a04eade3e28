-- A lane of a book with takes and gives, behind what changes beside it and behind its own steps.
use Rattle.std.proofs.Common.{◌≡◌, ◌≢◌, ℕ, zero, suc, ◌-◌, ◌^◌, ◌<◌, ◌≤◌, Bool, true, false, List, [], ◌∷◌, ◌++◌, length, take, drop, refl, sym, subst, arith}
use Rattle.std.proofs.lemmas.Nat.{pow_pos}
use Rattle.std.proofs.Math.Nat.{zero-div}
use Rattle.persist_model.specs.Region.{Words}
use Rattle.lane_traits.specs.Draft.{after_writes}
use Rattle.lane_traits.specs.declared.draft.WordWrite.{WordWrite}
use Rattle.region_layout.specs.declared.layout.Layout.{Layout}
use Rattle.offset_alloc.specs.declared.Standing.{Standing}
use Rattle.lane_types.specs.declared.call.Phase.{Phase}
use Rattle.lane_types.specs.declared.call.Reply.{Reply}
use Rattle.lane_types.specs.declared.face.Entry.{Entry}
use Rattle.lane_types.specs.Deeds.{Deeds}
use Rattle.lane_types.specs.Heaps.{Heap, has_bit, names_in, block_address, block_of}
use Rattle.lane_types.specs.Histories.{after_entries}
use Rattle.lane_types.specs.Faces.{Base, phase_after}
use Rattle.lane_types.specs.May.{AreData}
use Rattle.lane_book.specs.declared.lane.Lane.{Lane}
use Rattle.lane_book.specs.declared.lane.Doing.{Doing}
use Rattle.lane_book.specs.Stocked.{with_items, no_stock}
use Rattle.lane_book.specs.Lanes.{left}
use Rattle.lane_book.specs.FacesOf.{is_of, idle_lane, waiting_writes, begun_heap}
use Rattle.lane_book.specs.Entries.{writes_of_entry}
use Rattle.lane_book.proofs.Faces.{take_before}
use Rattle.lawful_book.specs.LawfulBooks.{AreCounted, Each, IsBefore, is_inside}
use Rattle.lawful_book.specs.Laws.{GoesOn, IsAnswered}
use Rattle.lawful_book.specs.OwnedBooks.{owner_in, is_ours, is_own_word, StandsFor, AreOpen, AreJoined, IsNext, IsTaking, IsOwnedLane}
use Rattle.lawful_book.proofs.WordsOf.{heap_with}
use Rattle.lawful_book.proofs.Histories.{after_last, each_last, each_map}
use Rattle.lawful_book.proofs.Laning.{filter_more}
use Rattle.lawful_book.proofs.OwnedHeaps.{never, named_is, AreFor}
use Rattle.lawful_book.proofs.OwnedWrites.{open_stands, joined_stands, word_stands, open_follows, joined_follows, open_taken}

-- ---- what of a lane it is about

abbrev pub core : {E : Type 0} → Lane E → Lane E
core lane = record idle_lane {
  phase = lane.phase;
  held = lane.held;
  begun = lane.begun;
  commits = lane.commits;
  doing = lane.doing;
  transaction = lane.transaction;
  joined = lane.joined;
  writes = with_items lane.writes.items no_stock;
  gives = with_items lane.gives.items no_stock;
  entry = lane.entry;
  entered = lane.entered;
}

-- nothing is behind the whole list
drop_all : {X : Type 0} (P : X → Type 0) (n : ℕ) (xs : List X) → length xs ≤ n → Each P (drop n xs)
drop_all P zero [] le = tt
drop_all P zero (x ∷ xs) le = absurd (omega (arith, le))
drop_all P (suc n) [] le = tt
drop_all P (suc n) (x ∷ xs) le = drop_all P n xs (omega (arith, le))

pub none_last : {X : Type 0} (P : X → Type 0) (xs : List X) → Each P (drop (length xs - 0) xs)
none_last P xs = drop_all P (length xs - 0) xs (omega arith)

next_of : {E : Type 0} (deeds : Deeds E) (layout : Layout) (base : Base) (begun : Heap) (l : ℕ) (lane : Lane E) (e : Entry E) → IsNext deeds layout base begun l lane e →
    IsNext deeds layout base begun l (core lane) e
next_of deeds layout base begun l lane e is = record {
  some = is.some;
  new = is.new;
  call = is.call;
  lane_is = is.lane_is;
  number = is.number;
  transaction = is.transaction;
  writes = is.writes;
  names = is.names;
  sorts = is.sorts;
  means = is.means;
}

next_from : {E : Type 0} (deeds : Deeds E) (layout : Layout) (base : Base) (begun : Heap) (l : ℕ) (lane : Lane E) (e : Entry E) → IsNext deeds layout base begun l (core lane) e →
    IsNext deeds layout base begun l lane e
next_from deeds layout base begun l lane e is = record {
  some = is.some;
  new = is.new;
  call = is.call;
  lane_is = is.lane_is;
  number = is.number;
  transaction = is.transaction;
  writes = is.writes;
  names = is.names;
  sorts = is.sorts;
  means = is.means;
}

module _ {E : Type 0} (deeds : Deeds E) (layout : Layout) (base : Base) (blocks : List Standing) (history : List (Entry E)) (next l : ℕ) where
  taking_of : (s k : ℕ) (lane : Lane E) → IsTaking base.heap (begun_heap base history lane).at s k lane → IsTaking base.heap (begun_heap base history lane).at s k (core lane)
  taking_of s k lane is = record { inside = is.inside; held = is.held; new = is.new; not_given = is.not_given; last = is.last }

  taking_from : (s k : ℕ) (lane : Lane E) → IsTaking base.heap (begun_heap base history lane).at s k (core lane) → IsTaking base.heap (begun_heap base history lane).at s k lane
  taking_from s k lane is = record { inside = is.inside; held = is.held; new = is.new; not_given = is.not_given; last = is.last }

  pub to_core : (lane : Lane E) → IsOwnedLane deeds layout base blocks history next l lane → IsOwnedLane deeds layout base blocks history next l (core lane)
  to_core lane was = record {
    inside = was.inside;
    gives_inside = was.gives_inside;
    open_is = was.open_is;
    joined_is = was.joined_is;
    own_read = was.own_read;
    own_write = was.own_write;
    own_last = was.own_last;
    own_take = λ s k doing. taking_of s k lane (was.own_take s k doing);
    own_set = was.own_set;
    begun = was.begun;
    counts = was.counts;
    running = was.running;
    entering = was.entering;
    before = was.before;
    has_entry = was.has_entry;
    has_joined = was.has_joined;
    coming = λ e has. next_of deeds layout base (begun_heap base history lane) l lane e (was.coming e has);
  }

  pub from_core : (lane : Lane E) → IsOwnedLane deeds layout base blocks history next l (core lane) → IsOwnedLane deeds layout base blocks history next l lane
  from_core lane was = record {
    inside = was.inside;
    gives_inside = was.gives_inside;
    open_is = was.open_is;
    joined_is = was.joined_is;
    own_read = was.own_read;
    own_write = was.own_write;
    own_last = was.own_last;
    own_take = λ s k doing. taking_from s k lane (was.own_take s k doing);
    own_set = was.own_set;
    begun = was.begun;
    counts = was.counts;
    running = was.running;
    entering = was.entering;
    before = was.before;
    has_entry = was.has_entry;
    has_joined = was.has_joined;
    coming = λ e has. next_from deeds layout base (begun_heap base history lane) l lane e (was.coming e has);
  }

  pub same_core : (lane later : Lane E) → core later ≡ core lane → IsOwnedLane deeds layout base blocks history next l lane → IsOwnedLane deeds layout base blocks history next l later
  same_core lane later same was = from_core later (subst (λ (x : Lane E). IsOwnedLane deeds layout base blocks history next l x) (sym same) (to_core lane was))

  pub core_goes : (lane later : Lane E) → GoesOn lane later → core later ≡ core lane
  core_goes lane later go = λ i. record idle_lane {
    phase = go.phase i;
    held = go.same.held i;
    begun = go.same.begun i;
    commits = go.same.commits i;
    doing = go.doing i;
    transaction = go.same.transaction i;
    joined = go.same.joined i;
    writes = with_items (go.writes i) no_stock;
    gives = with_items (go.same.gives i) no_stock;
    entry = go.same.entry i;
    entered = go.entered i;
  }

  -- ---- beside it

  pub lane_stands : (later : List Standing) (lane : Lane E) → StandsFor lane.held blocks later → IsOwnedLane deeds layout base blocks history next l lane →
      IsOwnedLane deeds layout base later history next l lane
  lane_stands later lane stands was = record {
    inside = was.inside;
    gives_inside = was.gives_inside;
    open_is = λ new. open_stands lane.held blocks later stands base.heap (begun_heap base history lane).at (after_entries history base.heap.at) lane.writes.items lane.gives.items (was.open_is new);
    joined_is = λ on. joined_stands lane.held blocks later stands base.heap (begun_heap base history lane).at (after_entries history base.heap.at) (writes_of_entry layout lane) (was.joined_is on);
    own_read = λ a doing. word_stands lane.held blocks later stands base.heap lane a refl (was.own_read a doing);
    own_write = λ a v doing. word_stands lane.held blocks later stands base.heap lane a refl (was.own_write a v doing);
    own_last = λ words. each_map (λ (w : WordWrite). is_own_word base.heap blocks lane w.address ≡ true) (λ (w : WordWrite). is_own_word base.heap later lane w.address ≡ true)
        (drop (length lane.writes.items - waiting_writes lane.doing) lane.writes.items) (λ w own. word_stands lane.held blocks later stands base.heap lane w.address refl own) (was.own_last words);
    own_take = was.own_take;
    own_set = was.own_set;
    begun = was.begun;
    counts = was.counts;
    running = was.running;
    entering = was.entering;
    before = was.before;
    has_entry = was.has_entry;
    has_joined = was.has_joined;
    coming = was.coming;
  }

  pub next_lane : (more : ℕ) (lane : Lane E) → next ≤ more → IsOwnedLane deeds layout base blocks history next l lane → IsOwnedLane deeds layout base blocks history more l lane
  next_lane more lane le was = record {
    inside = was.inside;
    gives_inside = was.gives_inside;
    open_is = was.open_is;
    joined_is = was.joined_is;
    own_read = was.own_read;
    own_write = was.own_write;
    own_last = was.own_last;
    own_take = was.own_take;
    own_set = was.own_set;
    begun = let b = was.begun in omega (arith, b, le);
    counts = was.counts;
    running = was.running;
    entering = was.entering;
    before = was.before;
    has_entry = was.has_entry;
    has_joined = was.has_joined;
    coming = was.coming;
  }

  -- the entry of another lane joins
  module _ (lane : Lane E) (e : Entry E) (set : ℕ) (e_begun : Words) (behind : lane.joined ≤ length history) (are : AreFor set base.heap blocks e_begun (after_entries history base.heap.at) e.writes)
      (apart : (s : ℕ) → has_bit lane.held s ≡ true → has_bit set s ≡ false) (other_lane : e.lane ≢ l) (other : e.transaction ≢ lane.transaction)
      (was : IsOwnedLane deeds layout base blocks history next l lane) where
    begun_is : (begun_heap base history lane).at ≡ (begun_heap base (history ++ e ∷ []) lane).at
    begun_is = λ i. after_entries (sym (take_before lane.joined history (e ∷ []) behind) i) base.heap.at

    now_is : after_writes e.writes (after_entries history base.heap.at) ≡ after_entries (history ++ e ∷ []) base.heap.at
    now_is = sym (after_last history e base.heap.at)

    pub others_follow : IsOwnedLane deeds layout base blocks (history ++ e ∷ []) next l lane
    others_follow = record {
      inside = was.inside;
      gives_inside = was.gives_inside;
      open_is = λ new. subst (λ (u : Words). AreOpen lane.held base.heap u (after_entries (history ++ e ∷ []) base.heap.at) blocks lane.writes.items lane.gives.items) begun_is
          (subst (λ (u : Words). AreOpen lane.held base.heap (begun_heap base history lane).at u blocks lane.writes.items lane.gives.items) now_is
          (open_follows set lane.held base.heap blocks e_begun (after_entries history base.heap.at) e.writes are apart (begun_heap base history lane).at lane.writes.items lane.gives.items (was.open_is new)));
      joined_is = λ on. subst (λ (u : Words). AreJoined lane.held base.heap u (after_entries (history ++ e ∷ []) base.heap.at) blocks (writes_of_entry layout lane)) begun_is
          (subst (λ (u : Words). AreJoined lane.held base.heap (begun_heap base history lane).at u blocks (writes_of_entry layout lane)) now_is
          (joined_follows set lane.held base.heap blocks e_begun (after_entries history base.heap.at) e.writes are apart (begun_heap base history lane).at (writes_of_entry layout lane) (was.joined_is on)));
      own_read = was.own_read;
      own_write = was.own_write;
      own_last = was.own_last;
      own_take = λ s k doing. subst (λ (u : Words). IsTaking base.heap u s k lane) begun_is (was.own_take s k doing);
      own_set = was.own_set;
      begun = was.begun;
      counts = was.counts;
      running = was.running;
      entering = was.entering;
      before = each_last (IsBefore l lane.begun lane.transaction lane.entered) history e was.before (record {
        counted = λ same. absurd (other_lane same);
        older = λ some new same. absurd (other_lane same);
        differs = λ some new. other;
      });
      has_entry = was.has_entry;
      has_joined = λ on. filter_more (is_of l) history e (was.has_joined on);
      coming = λ f has. subst (λ (u : Words). IsNext deeds layout base (heap_with base.heap u) l lane f) begun_is (was.coming f has);
    }

  -- ---- its own steps

  pub goes_owned : (lane later : Lane E) → GoesOn lane later → IsOwnedLane deeds layout base blocks history next l lane → IsOwnedLane deeds layout base blocks history next l later
  goes_owned lane later go was = same_core lane later (core_goes lane later go) was

  pub not_entered : (lane : Lane E) → (lane.doing ≡ Doing.Commit → ⊥) → IsOwnedLane deeds layout base blocks history next l lane → lane.entered ≡ false
  not_entered lane other was = by_test lane.entered was.entering
    where
      by_test : (b : Bool) → (b ≡ true → lane.doing ≡ Doing.Commit) → b ≡ false
      by_test true f = absurd (other (f refl))
      by_test false f = refl

  inside_in : (p : Phase) → is_inside p Doing.Nothing ≡ true → p ≡ Phase.In
  inside_in Phase.Out e = cc
  inside_in Phase.In e = refl
  inside_in Phase.Calling e = cc

  nothing_begins : (set : ℕ) → Doing.Nothing ≡ Doing.Begin set → ⊥
  nothing_begins set e = cc

  nothing_takes : (s k : ℕ) → Doing.Nothing ≡ Doing.Take s k → ⊥
  nothing_takes s k e = cc

  nothing_commits : Doing.Nothing ≡ Doing.Commit → ⊥
  nothing_commits e = cc

  abbrev answered_lane : Reply → ℕ → Lane E → Lane E
  answered_lane reply kept lane = record lane { phase = phase_after reply; doing = Doing.Nothing; writes = with_items (take kept lane.writes.items) lane.writes; entered = false }

  answered_is : (lane : Lane E) (reply : Reply) (kept : ℕ) → (lane.doing ≡ Doing.Commit → ⊥) → (phase_after reply ≡ Phase.In → is_inside lane.phase lane.doing ≡ true) →
      AreData base.heap (drop kept lane.writes.items) → IsOwnedLane deeds layout base blocks history next l lane → IsOwnedLane deeds layout base blocks history next l (answered_lane reply kept lane)
  answered_is lane reply kept other inside data_words was =
      let new = not_entered lane other was in record {
        inside = was.inside;
        gives_inside = was.gives_inside;
        open_is = λ on. open_taken lane.held base.heap (begun_heap base history lane).at (after_entries history base.heap.at) blocks kept lane.writes.items lane.gives.items data_words (was.open_is new);
        joined_is = λ on. absurd (never false on refl);
        own_read = λ a doing. cc;
        own_write = λ a v doing. cc;
        own_last = λ words. none_last (λ (w : WordWrite). is_own_word base.heap blocks (answered_lane reply kept lane) w.address ≡ true) (take kept lane.writes.items);
        own_take = λ s k doing. absurd (nothing_takes s k doing);
        own_set = λ set doing. absurd (nothing_begins set doing);
        begun = was.begun;
        counts = subst (λ (b : Bool). AreCounted lane.begun lane.commits lane.transaction b) new was.counts;
        running = λ on none. was.running (inside (inside_in (phase_after reply) on)) none;
        entering = λ on. absurd (never false on refl);
        before = subst (λ (b : Bool). Each (IsBefore l lane.begun lane.transaction b) history) new was.before;
        has_entry = λ commit. absurd (nothing_commits commit);
        has_joined = λ on. absurd (never false on refl);
        coming = λ e has. absurd (other (was.coming e has).call);
      }

  pub answered_owned : (lane later : Lane E) (reply : Reply) (kept : ℕ) → IsAnswered reply kept lane later → AreData base.heap (drop kept lane.writes.items) →
      IsOwnedLane deeds layout base blocks history next l lane → IsOwnedLane deeds layout base blocks history next l later
  answered_owned lane later reply kept is data_words was = same_core (answered_lane reply kept lane) later (λ i. record idle_lane {
    phase = is.phase i;
    held = is.same.held i;
    begun = is.same.begun i;
    commits = is.same.commits i;
    doing = is.doing i;
    transaction = is.same.transaction i;
    joined = is.same.joined i;
    writes = with_items (is.writes i) no_stock;
    gives = with_items (is.same.gives i) no_stock;
    entry = is.same.entry i;
    entered = is.entered i;
  }) (answered_is lane reply kept is.other is.was_inside data_words was)

  -- ---- a lane without a transaction

  no_bit : (s : ℕ) → has_bit 0 s ≡ false
  no_bit s = rw (zero-div (2 ^ s)) refl

  pub none_ours : (standings : List Standing) (k : ℕ) → is_ours 0 standings k ≡ true → ⊥
  none_ours standings k on = let it = named_is 0 (owner_in standings k) on in never (has_bit 0 it.0) it.2 (no_bit it.0)

  none_named : (n : ℕ) → names_in 0 n ≡ true → ⊥
  none_named n on = let it = named_is 0 n on in never (has_bit 0 it.0) it.2 (no_bit it.0)

  abbrev pub free_lane : ℕ → ℕ → Lane E
  free_lane begun commits = record idle_lane { begun = begun; commits = commits }

  pub free_owned : (begun commits : ℕ) → begun ≤ 2 ^ 59 → commits ≤ begun → 1 ≤ next → Each (λ (x : Entry E). x.lane ≡ l → x.number < begun) history →
      IsOwnedLane deeds layout base blocks history next l (free_lane begun commits)
  free_owned begun commits few most some counted = record {
    inside = pow_pos base.structures;
    gives_inside = tt;
    open_is = λ new. record {
      writes_are = tt;
      gives_are = tt;
      same = λ a on. absurd (none_ours blocks (block_of base.heap a) on);
      first = λ k inside on. absurd (none_named ((begun_heap {E = E} base history (free_lane begun commits)).at (block_address base.heap k)) on);
      shown = λ k inside on. absurd (none_ours blocks k on);
    };
    joined_is = λ on. absurd (never false on refl);
    own_read = λ a doing. cc;
    own_write = λ a v doing. cc;
    own_last = λ words. tt;
    own_take = λ s k doing. absurd (nothing_takes s k doing);
    own_set = λ set doing. absurd (nothing_begins set doing);
    begun = some;
    counts = record { few = few; most = most; less = λ t. absurd (t refl) };
    running = λ on. absurd (never false on refl);
    entering = λ on. absurd (never false on refl);
    before = each_map (λ (x : Entry _). x.lane ≡ l → x.number < begun) (IsBefore l begun 0 false) history
        (λ x f. record { counted = f; older = λ t. absurd (t refl); differs = λ t. absurd (t refl) }) counted;
    has_entry = λ commit. absurd (nothing_commits commit);
    has_joined = λ on. absurd (never false on refl);
    coming = λ e has. cc;
  }

  pub left_owned : (lane : Lane E) (reply : Reply) (commits : ℕ) → phase_after reply ≡ Phase.Out → lane.begun ≤ 2 ^ 59 → commits ≤ lane.begun → 1 ≤ next →
      Each (λ (x : Entry E). x.lane ≡ l → x.number < lane.begun) history → IsOwnedLane deeds layout base blocks history next l (left reply (record lane { commits = commits }))
  left_owned lane reply commits out few most some counted = same_core (free_lane lane.begun commits) (left reply (record lane { commits = commits }))
      (λ i. record (free_lane lane.begun commits) { phase = out i }) (free_owned lane.begun commits few most some counted)
