-- A book in which one lane is another.
use Rattle.std.proofs.Common.{◌≡◌, ◌≢◌, inl, inr, ℕ, zero, suc, ◌+◌, ◌%◌, ◌≤◌, ◌==◌, Bool, true, false, not, ◌&&◌, ◌||◌, if◌then◌else◌, List, [], length, None, refl, sym, ap, ◌∙◌, subst, arith}
use Rattle.std.specs.List.{filter}
use Rattle.std.proofs.lemmas.Bool.Decides.{eqb_tells}
use Rattle.persist_model.specs.Region.{Region}
use Rattle.region_layout.specs.declared.layout.Layout.{Layout}
use Rattle.region_layout.specs.Layout.{layout_shape}
use Rattle.lane_types.specs.declared.face.Entry.{Entry}
use Rattle.lane_book.specs.declared.book.Book.{Book}
use Rattle.lane_book.specs.declared.lane.Lane.{Lane}
use Rattle.lane_book.specs.FacesOf.{lane_at, is_of}
use Rattle.lane_book.specs.Books.{IsBook}
use Rattle.lane_book.specs.Refusals.{AreStructures}
use Rattle.lane_book.specs.Reserved.{reserved_by, share_of, reserved_below, kept_in}
use Rattle.lane_book.specs.Steps.{IsNextEntry, HasEntry}
use Rattle.txn_laws.specs.Rooms.{IsRoomy, sum_below}
use Rattle.txn_laws.proofs.Rooms.{fewer_are_roomy}
use Rattle.txn_state.specs.Stages.{is_commit}
use Rattle.txn_state.specs.States.{is_joining, HasNoEntry, AreEntries, IsWorldBook, reserved_for}
use Rattle.txn_state.specs.Changes.{HasLane, GoesTo}
use Rattle.txn_state.proofs.Sums.{sums_differ}

-- ---- each lane

-- what holds of the lane, and of each other as it was
pub by_lane : {E : Type 0} (P : ℕ → Lane E → Type 0) (book later : Book E) (l : ℕ) (lane : Lane E) → HasLane book later l lane → P l lane → ((k : ℕ) → k ≢ l → P k (lane_at book k)) →
    (k : ℕ) → P k (lane_at later k)
by_lane P book later l lane has here there k = elim (eqb_tells k l) [
  | inl e ↦ subst (λ j. P j (lane_at later j)) (sym e.1) (subst (P l) (sym has.here) here)
  | inr ne ↦ subst (P k) (sym (has.others k ne.1)) (there k ne.1)
]

-- the same by their numbers alone
pub by_number : (P : ℕ → Type 0) (l : ℕ) → P l → ((k : ℕ) → k ≢ l → P k) → (k : ℕ) → P k
by_number P l here there k = elim (eqb_tells k l) [ inl e ↦ subst P (sym e.1) here | inr ne ↦ there k ne.1 ]

-- ---- sums

-- one summand is another
pub lane_sum : {E : Type 0} (f : Lane E → ℕ) (book later : Book E) (l : ℕ) (lane : Lane E) → HasLane book later l lane →
    sum_below (λ k. f (lane_at later k)) (length later.lanes.items) + f (lane_at book l) ≡ sum_below (λ k. f (lane_at book k)) (length book.lanes.items) + f lane
lane_sum f book later l lane has =
    ap (λ n. sum_below (λ k. f (lane_at later k)) n + f (lane_at book l)) has.count ∙
    sums_differ (λ k. f (lane_at later k)) (λ k. f (lane_at book k)) l (length book.lanes.items) has.inside (λ k ne. ap f (has.others k ne)) ∙
    ap (λ x. sum_below (λ k. f (lane_at book k)) (length book.lanes.items) + f x) has.here

pub lane_sum_same : {E : Type 0} (f : Lane E → ℕ) (book later : Book E) (l : ℕ) (lane : Lane E) → HasLane book later l lane → f lane ≡ f (lane_at book l) →
    sum_below (λ k. f (lane_at later k)) (length later.lanes.items) ≡ sum_below (λ k. f (lane_at book k)) (length book.lanes.items)
lane_sum_same f book later l lane has same = let sum = lane_sum f book later l lane has in omega (arith, sum, same)

pub lane_sum_less : {E : Type 0} (f : Lane E → ℕ) (book later : Book E) (l : ℕ) (lane : Lane E) → HasLane book later l lane → f lane ≤ f (lane_at book l) →
    sum_below (λ k. f (lane_at later k)) (length later.lanes.items) ≤ sum_below (λ k. f (lane_at book k)) (length book.lanes.items)
lane_sum_less f book later l lane has less = let sum = lane_sum f book later l lane has in omega (arith, sum, less)

-- it falls by one where that of the lane does
pub lane_sum_falls : {E : Type 0} (f : Lane E → ℕ) (book later : Book E) (l : ℕ) (lane : Lane E) → HasLane book later l lane → f lane + 1 ≤ f (lane_at book l) →
    sum_below (λ k. f (lane_at later k)) (length later.lanes.items) + 1 ≤ sum_below (λ k. f (lane_at book k)) (length book.lanes.items)
lane_sum_falls f book later l lane has less = let sum = lane_sum f book later l lane has in omega (arith, sum, less)

-- ---- reserved cells

pub reserved_is_sum : {E : Type 0} (book : Book E) (partitions p n : ℕ) → reserved_below book partitions p n ≡ sum_below (λ k. share_of partitions p k (lane_at book k)) n
reserved_is_sum book partitions p zero = refl
reserved_is_sum book partitions p (suc n) = ap (λ m. m + share_of partitions p n (lane_at book n)) (reserved_is_sum book partitions p n)

-- what the lane reserves is another
pub reserved_goes : {E : Type 0} (layout : Layout) (book later : Book E) (l : ℕ) (lane : Lane E) → HasLane book later l lane → (q : ℕ) →
    reserved_for layout later q + share_of layout.partitions q l (lane_at book l) ≡ reserved_for layout book q + share_of layout.partitions q l lane
reserved_goes layout book later l lane has q = with_kept (reserved_below later layout.partitions q (length later.lanes.items)) (reserved_below book layout.partitions q (length book.lanes.items))
    (share_of layout.partitions q l (lane_at book l)) (share_of layout.partitions q l lane) (kept_in 0 q)
    (ap (λ n. n + share_of layout.partitions q l (lane_at book l)) (reserved_is_sum later layout.partitions q (length later.lanes.items)) ∙
    ap (λ n. sum_below (λ k. share_of layout.partitions q k (lane_at later k)) n + share_of layout.partitions q l (lane_at book l)) has.count ∙
    sums_differ (λ k. share_of layout.partitions q k (lane_at later k)) (λ k. share_of layout.partitions q k (lane_at book k)) l (length book.lanes.items) has.inside
    (λ k ne. ap (share_of layout.partitions q k) (has.others k ne)) ∙
    ap (λ x. sum_below (λ k. share_of layout.partitions q k (lane_at book k)) (length book.lanes.items) + share_of layout.partitions q l x) has.here ∙
    ap (λ n. n + share_of layout.partitions q l lane) (sym (reserved_is_sum book layout.partitions q (length book.lanes.items))))
  where
    with_kept : (a b x y k : ℕ) → a + x ≡ b + y → (a + k) + x ≡ (b + k) + y
    with_kept a b x y k e = omega (arith, e)

share_less : {E : Type 0} (partitions p l : ℕ) (lane later : Lane E) → reserved_by later ≤ reserved_by lane → share_of partitions p l later ≤ share_of partitions p l lane
share_less partitions p l lane later less = by ((l % partitions) == p)
  where
    by : (t : Bool) → (if t then reserved_by later else 0) ≤ (if t then reserved_by lane else 0)
    by true = less
    by false = omega arith

pub reserved_less : {E : Type 0} (layout : Layout) (book later : Book E) (l : ℕ) (lane : Lane E) → HasLane book later l lane → reserved_by lane ≤ reserved_by (lane_at book l) → (q : ℕ) →
    reserved_for layout later q ≤ reserved_for layout book q
reserved_less layout book later l lane has less q =
    let sum = reserved_goes layout book later l lane has q in let share = share_less layout.partitions q l (lane_at book l) lane less in omega (arith, sum, share)

-- it hangs on these
pub reserved_by_same : {E : Type 0} (lane later : Lane E) → later.promised ≡ lane.promised → later.has_records ≡ lane.has_records → later.ended ≡ lane.ended → later.rolled ≡ lane.rolled →
    later.updates.items ≡ lane.updates.items → reserved_by later ≡ reserved_by lane
reserved_by_same lane later promised recorded ended rolled updates =
    λ i. promised i + (if (recorded i || not (promised i == 0)) && not (ended i) then length (updates i) + ((if rolled i then 0 else 1) + 1) else 0)

-- there is room for what is reserved where it is no more
pub roomy_less : {E : Type 0} (layout : Layout) (book later : Book E) (region : Region) → ((q : ℕ) → reserved_for layout later q ≤ reserved_for layout book q) →
    IsRoomy (layout_shape layout) region (reserved_for layout book) → IsRoomy (layout_shape layout) region (reserved_for layout later)
roomy_less layout book later region less roomy = fewer_are_roomy (layout_shape layout) region (reserved_for layout book) (reserved_for layout later) (λ q lt. less q) roomy

-- ---- entries

-- what holds of the entry of lane l, where these have joined
pub record HasItsEntry {E : Type 0} (history : List (Entry E)) (l : ℕ) (lane : Lane E) : Type 0 where
  pub others : is_commit lane.doing ≡ false → HasNoEntry lane
  pub waits : is_commit lane.doing ≡ true → lane.entered ≡ false → HasEntry l lane
  pub joined : is_commit lane.doing ≡ true → lane.entered ≡ true → (lane.entry ≡ None) × (filter (is_of l) history ≢ [])

pub its_entry : {E : Type 0} (book : Book E) (l : ℕ) → AreEntries book → HasItsEntry book.history.items l (lane_at book l)
its_entry book l entries = record {
  others = entries.others l;
  waits = entries.waits l;
  joined = λ commits entered. ((entries.joined l commits entered).out, (entries.joined l commits entered).mine);
}

-- by lane l's entry, and a place for each
pub entries_go : {E : Type 0} (book later : Book E) (l : ℕ) (lane : Lane E) → HasLane book later l lane →
    ((k : ℕ) → filter (is_of k) book.history.items ≢ [] → filter (is_of k) later.history.items ≢ []) → HasItsEntry later.history.items l lane →
    length later.history.items + sum_below (λ k. is_joining (lane_at later k)) (length later.lanes.items) ≤ later.history.capacity → AreEntries book → AreEntries later
entries_go book later l lane has more own places entries = record {
  others = λ k. (each k).others;
  waits = λ k. (each k).waits;
  joined = λ k commits entered. record { entered = entered; out = ((each k).joined commits entered).0; mine = ((each k).joined commits entered).1 };
  places = places;
}
  where
    each : (k : ℕ) → HasItsEntry later.history.items k (lane_at later k)
    each = by_lane (HasItsEntry later.history.items) book later l lane has own (λ k ne. record {
      others = entries.others k;
      waits = entries.waits k;
      joined = λ commits entered. ((entries.joined k commits entered).out, more k (entries.joined k commits entered).mine);
    })

-- where the history is the same, and no more entries are to join
pub entries_stay : {E : Type 0} (book later : Book E) (l : ℕ) (lane : Lane E) → GoesTo book later l lane → HasItsEntry book.history.items l lane → is_joining lane ≤ is_joining (lane_at book l) →
    AreEntries book → AreEntries later
entries_stay book later l lane goes own less entries = entries_go book later l lane goes.lanes
    (λ k some. subst (λ h. filter (is_of k) h.items ≢ []) (sym goes.history) some) (subst (λ h. HasItsEntry h.items l lane) (sym goes.history) own)
    (subst (λ h. length h.items + sum_below (λ k. is_joining (lane_at later k)) (length later.lanes.items) ≤ h.capacity) (sym goes.history)
    (let sum = lane_sum_less is_joining book later l lane goes.lanes less in let places = entries.places in omega (arith, sum, places))) entries

-- a lane with the same entry of the same call
pub same_entry : {E : Type 0} (history : List (Entry E)) (l : ℕ) (lane later : Lane E) → is_commit later.doing ≡ is_commit lane.doing → later.entered ≡ lane.entered → later.entry ≡ lane.entry →
    later.begun ≡ lane.begun → HasItsEntry history l lane → HasItsEntry history l later
same_entry history l lane later commits entered entry begun own = record {
  others = λ off. record {
    unentered = entered ∙ (own.others (sym commits ∙ off)).unentered;
    none = entry ∙ (own.others (sym commits ∙ off)).none;
  };
  waits = λ on new. record {
    next = next (own.waits (sym commits ∙ on) (sym entered ∙ new));
    new = new;
  };
  joined = λ on is. (entry ∙ (own.joined (sym commits ∙ on) (sym entered ∙ is)).0, (own.joined (sym commits ∙ on) (sym entered ∙ is)).1);
}
  where
    next : HasEntry l lane → IsNextEntry l later.begun later.entry
    next has = subst (λ n. IsNextEntry l n later.entry) (sym begun) (subst (λ e. IsNextEntry l lane.begun e) (sym entry) has.next)

pub joining_same : {E : Type 0} (lane later : Lane E) → is_commit later.doing ≡ is_commit lane.doing → later.entered ≡ lane.entered → is_joining later ≡ is_joining lane
joining_same lane later commits entered = λ i. if commits i && not (entered i) then 1 else 0

-- ---- the book by itself

pub world_book : {E : Type 0} (layout : Layout) (book later : Book E) (l : ℕ) (lane : Lane E) → HasLane book later l lane → IsBook later → AreEntries later → IsWorldBook layout book →
    IsWorldBook layout later
world_book layout book later l lane has kept entries was = record {
  kept = kept;
  some = subst (λ n. 1 ≤ n) (sym has.count) was.some;
  few = subst (λ n. n ≤ 16) (sym has.count) was.few;
  blocks = ap length has.blocks ∙ was.blocks;
  structures = subst AreStructures (sym has.blocks) was.structures;
  entries = entries;
}
