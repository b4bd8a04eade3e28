-- A lane of a lawful book after a step, an ask or a commit of its own or of another.
use Rattle.std.proofs.Common.{◌≡◌, ◌≢◌, ℕ, ◌+◌, ◌^◌, ◌<◌, ◌≤◌, Bool, true, false, List, [], ◌∷◌, ◌++◌, length, take, if◌then◌else◌, refl, sym, ◌∙◌, ap, subst, arith, Some, None}
use Rattle.std.proofs.lemmas.Nat.{pow_pos}
use Rattle.std.proofs.Math.Nat.{zero-div}
use Rattle.std.specs.List.{filter}
use Rattle.persist_model.specs.Region.{Words}
use Rattle.lane_traits.specs.Draft.{after_writes}
use Rattle.lane_traits.specs.declared.draft.WordWrite.{WordWrite}
use Rattle.lane_types.specs.declared.call.Phase.{Phase}
use Rattle.lane_types.specs.declared.face.Entry.{Entry}
use Rattle.lane_types.specs.Deeds.{Deeds}
use Rattle.lane_types.specs.Heaps.{Heap, AreAlike, has_bit, with_writes}
use Rattle.lane_types.specs.Histories.{IsEarlier, after_entries, fold}
use Rattle.lane_types.specs.Faces.{Base}
use Rattle.lane_book.specs.declared.lane.Lane.{Lane}
use Rattle.lane_book.specs.declared.lane.Doing.{Doing}
use Rattle.lane_book.specs.FacesOf.{is_of, begun_heap}
use Rattle.lane_book.proofs.Faces.{take_before, filter_last}
use Rattle.lawful_book.specs.LawfulBooks.{AreCounted, MayTake, is_word_of, AreWordsOf, Each, IsBefore, IsComing, is_inside, IsLawfulLane}
use Rattle.lawful_book.proofs.WordsOf.{heap_with, HasOwners}
use Rattle.lawful_book.proofs.Histories.{CanJoin, alike_behind, each_last, each_map}

-- ---- what stays of a lane

-- the transaction is the same, with its structures and its heap at the begin
pub record KeepsTransaction {E : Type 0} (lane later : Lane E) : Type 0 where
  pub held : later.held ≡ lane.held
  pub begun : later.begun ≡ lane.begun
  pub commits : later.commits ≡ lane.commits
  pub transaction : later.transaction ≡ lane.transaction
  pub joined : later.joined ≡ lane.joined
  pub entered : later.entered ≡ lane.entered
  pub gives : later.gives.items ≡ lane.gives.items

module _ {E : Type 0} (deeds : Deeds E) (base : Base) (history : List (Entry E)) (next l : ℕ) (lane later : Lane E) (same : KeepsTransaction lane later)
    (was : IsLawfulLane deeds base history next l lane) where
  pub lane_stays : AreWordsOf later.held base.heap later.writes.items → ((a : ℕ) → later.doing ≡ Doing.Read a → is_word_of later.held base.heap a ≡ true) →
      ((set : ℕ) → later.doing ≡ Doing.Begin set → MayTake base.structures later.begun set) →
      (later.entered ≡ true → AreAlike later.held (with_writes later.writes.items (begun_heap base history later)) (fold base.heap history)) →
      (later.doing ≡ Doing.Commit → later.entered ≡ false → later.entry ≢ None) →
      (is_inside later.phase later.doing ≡ true → later.transaction ≢ 0) → (later.entered ≡ true → later.doing ≡ Doing.Commit) →
      ((e : Entry E) → later.entry ≡ Some e → IsComing deeds base (begun_heap base history later) l later e) → IsLawfulLane deeds base history next l later
  lane_stays own read set_is joined_alike entry_is running entering coming = record {
    inside = subst (λ (n : ℕ). n < 2 ^ base.structures) (sym same.held) was.inside;
    no_gives = same.gives ∙ was.no_gives;
    own_writes = own;
    own_read = read;
    own_set = set_is;
    alike_joined = joined_alike;
    has_entry = entry_is;
    has_joined = λ on. was.has_joined (sym same.entered ∙ on);
    counts = subst (λ (b : Bool). AreCounted later.begun later.commits later.transaction b) (sym same.entered)
        (subst (λ (t : ℕ). AreCounted later.begun later.commits t lane.entered) (sym same.transaction)
        (subst (λ (n : ℕ). AreCounted later.begun n lane.transaction lane.entered) (sym same.commits)
        (subst (λ (n : ℕ). AreCounted n lane.commits lane.transaction lane.entered) (sym same.begun) was.counts)));
    alike = λ new. (λ (f : AreAlike later.held (begun_heap base history lane) (fold base.heap history)).
        subst (λ (n : ℕ). AreAlike later.held (fold base.heap (take n history)) (fold base.heap history)) (sym same.joined) f)
        (subst (λ (n : ℕ). AreAlike n (begun_heap base history lane) (fold base.heap history)) (sym same.held) (was.alike (sym same.entered ∙ new)));
    begun = subst (λ (n : ℕ). n < next) (sym same.transaction) was.begun;
    running = running;
    entering = entering;
    before = subst (λ (b : Bool). Each (IsBefore l later.begun later.transaction b) history) (sym same.entered)
        (subst (λ (t : ℕ). Each (IsBefore l later.begun t lane.entered) history) (sym same.transaction)
        (subst (λ (n : ℕ). Each (IsBefore l n lane.transaction lane.entered) history) (sym same.begun) was.before));
    coming = coming;
  }

  pub alike_stays : later.writes.items ≡ lane.writes.items → later.entered ≡ true →
      AreAlike later.held (with_writes later.writes.items (begun_heap base history later)) (fold base.heap history)
  alike_stays writes on =
      subst (λ (n : ℕ). AreAlike later.held (with_writes later.writes.items (fold base.heap (take n history))) (fold base.heap history)) (sym same.joined)
      (subst (λ (ws : List WordWrite). AreAlike later.held (with_writes ws (begun_heap base history lane)) (fold base.heap history)) (sym writes)
      (subst (λ (n : ℕ). AreAlike n (with_writes lane.writes.items (begun_heap base history lane)) (fold base.heap history)) (sym same.held)
      (was.alike_joined (sym same.entered ∙ on))))

  -- a coming entry stays so where the writes do
  pub coming_stays : later.writes.items ≡ lane.writes.items → later.doing ≡ lane.doing → (e : Entry E) → IsComing deeds base (begun_heap base history lane) l lane e →
      IsComing deeds base (begun_heap base history later) l later e
  coming_stays writes doing e comes = record {
    some = λ none. comes.some (sym same.transaction ∙ none);
    new = same.entered ∙ comes.new;
    call = doing ∙ comes.call;
    lane_is = comes.lane_is;
    number = same.begun ∙ comes.number;
    transaction = comes.transaction ∙ sym same.transaction;
    writes = comes.writes ∙ sym writes;
    names = comes.names ∙ sym same.held;
    sorts = comes.sorts;
    means = subst (λ (n : ℕ). ∥ deeds.means e.deed (fold base.heap (take n history)) (with_writes e.writes (fold base.heap (take n history))) ∥₁)
        (sym same.joined) comes.means;
  }

-- in a lane that is about no commit no entry is coming, and none has joined
pub none_coming : {E : Type 0} (deeds : Deeds E) (base : Base) (history : List (Entry E)) (next l : ℕ) (lane : Lane E) → (lane.doing ≡ Doing.Commit → ⊥) →
    IsLawfulLane deeds base history next l lane → (e : Entry E) → lane.entry ≡ Some e → ⊥
none_coming deeds base history next l lane other was e has = other (was.coming e has).call

pub none_entered : {E : Type 0} (deeds : Deeds E) (base : Base) (history : List (Entry E)) (next l : ℕ) (lane : Lane E) → (lane.doing ≡ Doing.Commit → ⊥) →
    IsLawfulLane deeds base history next l lane → lane.entered ≡ false
none_entered deeds base history next l lane other was = by_test lane.entered was.entering
  where
    by_test : (b : Bool) → (b ≡ true → lane.doing ≡ Doing.Commit) → b ≡ false
    by_test true f = absurd (other (f refl))
    by_test false f = refl

-- ---- the entry of a lane can join

pub rises_below : (m n b : ℕ) → m + 1 < b → b ≡ n + 1 → m < n
rises_below m n b less is = omega (arith, less, is)

pub coming_can_join : {E : Type 0} (deeds : Deeds E) (base : Base) (history : List (Entry E)) (next l : ℕ) (lane : Lane E) (e : Entry E) →
    IsLawfulLane deeds base history next l lane → lane.entry ≡ Some e → CanJoin deeds base history e
coming_can_join deeds base history next l lane e was has =
    let comes = was.coming e has in record {
      begun = after_entries (take lane.joined history) base.heap.at;
      own = subst (λ (ws : List WordWrite). AreWordsOf (deeds.names e.deed) base.heap ws) (sym comes.writes)
          (subst (λ (n : ℕ). AreWordsOf n base.heap lane.writes.items) (sym comes.names) was.own_writes);
      alike = subst (λ (n : ℕ). AreAlike n (begun_heap base history lane) (fold base.heap history)) (sym comes.names) (was.alike comes.new);
      means = comes.means;
      earlier = each_map (IsBefore l lane.begun lane.transaction lane.entered) (λ (x : Entry _). IsEarlier x e) history
          (λ x before. record {
            rises = λ same. rises_below x.number e.number lane.begun (before.older comes.some comes.new (same ∙ comes.lane_is)) comes.number;
            differs = λ is. before.differs comes.some comes.new (is ∙ comes.transaction);
          }) was.before;
      sorts = comes.sorts;
    }

-- ---- the entry of another lane joins

last_there : {X : Type 0} (xs : List X) (x : X) → xs ++ x ∷ [] ≢ []
last_there [] x e = cc
last_there (y ∷ xs) x e = cc

-- a list that isn't empty isn't with one more, nor one whose last is picked
pub filter_more : {X : Type 0} (p : X → Bool) (xs : List X) (x : X) → filter p xs ≢ [] → filter p (xs ++ x ∷ []) ≢ []
filter_more p xs x some none = by_test (p x) (sym (filter_last p xs x) ∙ none)
  where
    by_test : (t : Bool) → (if t then filter p xs ++ x ∷ [] else filter p xs) ≡ [] → ⊥
    by_test true e = last_there (filter p xs) x e
    by_test false e = some e

pub filter_there : {X : Type 0} (p : X → Bool) (xs : List X) (x : X) → p x ≡ true → filter p (xs ++ x ∷ []) ≢ []
filter_there p xs x on none = last_there (filter p xs) x
    (sym (filter_last p xs x ∙ ap (λ (t : Bool). if t then filter p xs ++ x ∷ [] else filter p xs) on) ∙ none)

-- Lane l's entry is another's: it is of another lane and transaction, and of structures that the lane doesn't hold.
pub record IsOthers {E : Type 0} (deeds : Deeds E) (base : Base) (l : ℕ) (lane : Lane E) (e : Entry E) : Type 0 where
  pub lane_is : e.lane ≢ l
  pub transaction : e.transaction ≢ lane.transaction
  pub own : AreWordsOf (deeds.names e.deed) base.heap e.writes
  pub sets : (s : ℕ) → has_bit lane.held s ≡ true → has_bit (deeds.names e.deed) s ≡ false

pub others_join : {E : Type 0} (deeds : Deeds E) (base : Base) (history : List (Entry E)) (next l : ℕ) (lane : Lane E) (e : Entry E) → lane.joined ≤ length history →
    HasOwners base.heap (after_entries history base.heap.at) → IsOthers deeds base l lane e → IsLawfulLane deeds base history next l lane →
    IsLawfulLane deeds base (history ++ e ∷ []) next l lane
others_join deeds base history next l lane e behind owners other was =
    let begun : take lane.joined (history ++ e ∷ []) ≡ take lane.joined history = take_before lane.joined history (e ∷ []) behind in record {
      inside = was.inside;
      no_gives = was.no_gives;
      own_writes = was.own_writes;
      own_read = was.own_read;
      own_set = was.own_set;
      alike_joined = λ on. subst (λ (es : List (Entry _)). AreAlike lane.held (with_writes lane.writes.items (fold base.heap es)) (fold base.heap (history ++ e ∷ []))) (sym begun)
          (alike_behind base.heap (deeds.names e.deed) lane.held (after_writes lane.writes.items (after_entries (take lane.joined history) base.heap.at)) history e owners other.own other.sets
          (was.alike_joined on));
      has_entry = was.has_entry;
      has_joined = λ on. filter_more (is_of l) history e (was.has_joined on);
      counts = was.counts;
      alike = λ new. subst (λ (es : List (Entry _)). AreAlike lane.held (fold base.heap es) (fold base.heap (history ++ e ∷ []))) (sym begun)
          (alike_behind base.heap (deeds.names e.deed) lane.held (after_entries (take lane.joined history) base.heap.at) history e owners other.own other.sets (was.alike new));
      begun = was.begun;
      running = was.running;
      entering = was.entering;
      before = each_last (IsBefore l lane.begun lane.transaction lane.entered) history e was.before (record {
        counted = λ same. absurd (other.lane_is same);
        older = λ some new same. absurd (other.lane_is same);
        differs = λ some new. other.transaction;
      });
      coming = λ f has. let comes = was.coming f has in record {
        some = comes.some;
        new = comes.new;
        call = comes.call;
        lane_is = comes.lane_is;
        number = comes.number;
        transaction = comes.transaction;
        writes = comes.writes;
        names = comes.names;
        sorts = comes.sorts;
        means = subst (λ (es : List (Entry _)). ∥ deeds.means f.deed (fold base.heap es) (with_writes f.writes (fold base.heap es)) ∥₁) (sym begun) comes.means;
      };
    }

-- ---- a lane without a transaction

no_bit : (s : ℕ) → has_bit 0 s ≡ false
no_bit s = rw (zero-div (2 ^ s)) refl

no_bit_of_none : (h : Heap) (u v : Words) → AreAlike 0 (heap_with h u) (heap_with h v)
no_bit_of_none h u v = record {
  start = refl;
  blocks = refl;
  inside = record {
    owned = λ s b picked. absurd (none s picked);
    words = λ s b i picked. absurd (none s picked);
  };
}
  where
    none : (s : ℕ) → has_bit 0 s ≡ true → ⊥
    none s e = let off = no_bit s in absurd (both (has_bit 0 s) e off)
      where
        both : (t : Bool) → t ≡ true → t ≡ false → ⊥
        both t e f = cc

-- it has no transaction and no call
pub record IsFree {E : Type 0} (lane : Lane E) : Type 0 where
  pub held : lane.held ≡ 0
  pub transaction : lane.transaction ≡ 0
  pub gives : lane.gives.items ≡ []
  pub writes : lane.writes.items ≡ []
  pub doing : lane.doing ≡ Doing.Nothing
  pub phase : lane.phase ≡ Phase.Out
  pub entry : lane.entry ≡ None
  pub entered : lane.entered ≡ false
  pub few : lane.begun ≤ 2 ^ 59
  pub most : lane.commits ≤ lane.begun

pub free_is_lawful : {E : Type 0} (deeds : Deeds E) (base : Base) (history : List (Entry E)) (next l : ℕ) (lane : Lane E) → IsFree lane → 1 ≤ next →
    Each (λ (x : Entry E). x.lane ≡ l → x.number < lane.begun) history → IsLawfulLane deeds base history next l lane
free_is_lawful deeds base history next l lane free some counted = record {
  inside = subst (λ (n : ℕ). n < 2 ^ base.structures) (sym free.held) (pow_pos base.structures);
  no_gives = free.gives;
  own_writes = subst (λ (ws : List WordWrite). AreWordsOf lane.held base.heap ws) (sym free.writes) tt;
  own_read = λ a reads. let e = sym free.doing ∙ reads in cc;
  own_set = λ set begins. let e = sym free.doing ∙ begins in cc;
  alike_joined = λ on. absurd (both lane.entered on free.entered);
  has_entry = λ commit. let e = sym free.doing ∙ commit in cc;
  has_joined = λ on. absurd (both lane.entered on free.entered);
  counts = record { few = free.few; most = free.most; less = λ some. absurd (some free.transaction) };
  alike = λ new. subst (λ (n : ℕ). AreAlike n (begun_heap base history lane) (fold base.heap history)) (sym free.held)
      (no_bit_of_none base.heap (after_entries (take lane.joined history) base.heap.at) (after_entries history base.heap.at));
  begun = let t = free.transaction in omega (arith, t, some);
  running = λ on. let off = ap (λ (p : Phase). is_inside p lane.doing) free.phase in absurd (both (is_inside lane.phase lane.doing) on off);
  entering = λ on. let off = free.entered in absurd (both lane.entered on off);
  before = each_map (λ (x : Entry _). x.lane ≡ l → x.number < lane.begun) (IsBefore l lane.begun lane.transaction lane.entered) history
      (λ x f. record {
        counted = f;
        older = λ not_none new same. absurd (not_none free.transaction);
        differs = λ not_none. absurd (not_none free.transaction);
      }) counted;
  coming = λ e has. let gone = sym free.entry ∙ has in cc;
}
  where
    both : (t : Bool) → t ≡ true → t ≡ false → ⊥
    both t e f = cc
