-- A lane of a lawful book behind each of its own calls.
use Rattle.std.proofs.Common.{◌≡◌, ◌≢◌, ◌==◌, ℕ, ◌+◌, ◌<◌, ◌≤◌, Bool, true, false, List, [], ◌∷◌, ◌++◌, length, map, take, append-nil, refl, sym, ◌∙◌, ap, subst, arith, Option, Some, None}
use Rattle.persist_model.specs.Region.{Words}
use Rattle.lane_traits.specs.Draft.{after_writes}
use Rattle.lane_traits.proofs.Among.{same_eq}
use Rattle.lane_traits.specs.declared.draft.WordWrite.{WordWrite}
use Rattle.region_layout.specs.declared.layout.Layout.{Layout}
use Rattle.lane_types.specs.declared.call.Call.{Call}
use Rattle.lane_types.specs.declared.call.Phase.{Phase}
use Rattle.lane_types.specs.declared.call.Reply.{Reply}
use Rattle.lane_types.specs.declared.face.Entry.{Entry}
use Rattle.lane_types.specs.Deeds.{Deeds}
use Rattle.lane_types.specs.Heaps.{Holding, AreAlike, holding, holding_of, heap_of_holding, owners_after, with_writes}
use Rattle.lane_types.specs.Histories.{after_entries, fold}
use Rattle.lane_types.specs.Faces.{Base, phase_after}
use Rattle.lane_types.specs.May.{MayCommit}
use Rattle.lane_book.specs.declared.lane.Lane.{Lane}
use Rattle.lane_book.specs.declared.lane.Doing.{Doing}
use Rattle.lane_book.specs.Lanes.{moved, left, entered_lane, begun_lane}
use Rattle.lane_book.specs.FacesOf.{is_of, begun_heap, words_of, front, waiting_writes, waiting_gives, face_of}
use Rattle.lane_book.specs.Entries.{committing, entry_of, writes_of_entry, disowned}
use Rattle.lane_book.specs.Steps.{AsksFor}
use Rattle.lane_book.proofs.Faces.{take_before}
use Rattle.lane_book.proofs.WordRows.{take_whole}
use Rattle.lane_book.proofs.Keeps.{front_whole}
use Rattle.lawful_book.specs.LawfulBooks.{MayTake, is_word_of, AreWordsOf, Each, IsPast, IsBefore, IsComing, is_inside, IsLawfulLane}
use Rattle.lawful_book.specs.Laws.{IsSameTransaction, GoesOn, IsAnswered}
use Rattle.lawful_book.proofs.WordsOf.{heap_with, alike_same, data_of, follow}
use Rattle.lawful_book.proofs.Histories.{Depends, after_last, each_last, each_map}
use Rattle.lawful_book.proofs.Laning.{KeepsTransaction, filter_there, lane_stays, alike_stays, coming_stays, none_coming, none_entered, IsFree, free_is_lawful}
use Rattle.lawful_book.proofs.Showing.{words_take, words_more}
use Rattle.lawful_book.proofs.HeldHeaps.{held_alike}

both : (t : Bool) → t ≡ true → t ≡ false → ⊥
both t e f = cc

nothing_begins : (set : ℕ) → Doing.Nothing ≡ Doing.Begin set → ⊥
nothing_begins set e = cc

commit_begins : (set : ℕ) → Doing.Commit ≡ Doing.Begin set → ⊥
commit_begins set e = cc

nothing_commits : Doing.Nothing ≡ Doing.Commit → ⊥
nothing_commits e = cc

keeps_of : {E : Type 0} (lane later : Lane E) → IsSameTransaction lane later → later.entered ≡ lane.entered → KeepsTransaction lane later
keeps_of lane later same entered = record {
  held = same.held;
  begun = same.begun;
  commits = same.commits;
  transaction = same.transaction;
  joined = same.joined;
  entered = entered;
  gives = same.gives;
}

module _ {E : Type 0} (deeds : Deeds E) (base : Base) (history : List (Entry E)) (next l : ℕ) (lane : Lane E) (was : IsLawfulLane deeds base history next l lane) where
  -- ---- a step

  pub goes_on : (later : Lane E) → GoesOn lane later → IsLawfulLane deeds base history next l later
  goes_on later go = lane_stays deeds base history next l lane later (keeps_of lane later go.same go.entered) was
      (subst (λ (n : ℕ). AreWordsOf n base.heap later.writes.items) (sym go.same.held)
      (subst (λ (ws : List WordWrite). AreWordsOf lane.held base.heap ws) (sym go.writes) was.own_writes))
      (λ a reads. subst (λ (n : ℕ). is_word_of n base.heap a ≡ true) (sym go.same.held) (was.own_read a (sym go.doing ∙ reads)))
      (λ set begins. subst (λ (n : ℕ). MayTake base.structures n set) (sym go.same.begun) (was.own_set set (sym go.doing ∙ begins)))
      (alike_stays deeds base history next l lane later (keeps_of lane later go.same go.entered) was go.writes)
      (λ commit new none. was.has_entry (sym go.doing ∙ commit) (sym go.entered ∙ new) (sym go.same.entry ∙ none))
      (λ on none. was.running ((λ i. is_inside (sym go.phase i) (sym go.doing i)) ∙ on) (sym go.same.transaction ∙ none))
      (λ on. go.doing ∙ was.entering (sym go.entered ∙ on))
      (λ e has. coming_stays deeds base history next l lane later (keeps_of lane later go.same go.entered) was go.writes go.doing e (was.coming e (sym go.same.entry ∙ has)))

  inside_is_in : (p : Phase) → is_inside p Doing.Nothing ≡ true → p ≡ Phase.In
  inside_is_in Phase.Out e = cc
  inside_is_in Phase.In e = refl
  inside_is_in Phase.Calling e = cc

  pub answered : (reply : Reply) (kept : ℕ) (later : Lane E) → IsAnswered reply kept lane later → IsLawfulLane deeds base history next l later
  answered reply kept later is = lane_stays deeds base history next l lane later
      (keeps_of lane later is.same (is.entered ∙ sym (none_entered deeds base history next l lane is.other was))) was
      (subst (λ (n : ℕ). AreWordsOf n base.heap later.writes.items) (sym is.same.held)
      (subst (λ (ws : List WordWrite). AreWordsOf lane.held base.heap ws) (sym is.writes) (words_take lane.held base.heap kept lane.writes.items was.own_writes)))
      (λ a reads. let e = sym is.doing ∙ reads in cc)
      (λ set begins. absurd (nothing_begins set (sym is.doing ∙ begins)))
      (λ on. absurd (both later.entered on is.entered))
      (λ commit. absurd (nothing_commits (sym is.doing ∙ commit)))
      (λ on none. was.running (is.was_inside (inside_is_in (phase_after reply) ((λ i. is_inside (sym is.phase i) (sym is.doing i)) ∙ on))) (sym is.same.transaction ∙ none))
      (λ on. absurd (both later.entered on is.entered))
      (λ e has. absurd (none_coming deeds base history next l lane is.other was e (sym is.same.entry ∙ has)))

  -- ---- an ask

  nothing_no_commit : lane.doing ≡ Doing.Nothing → lane.doing ≡ Doing.Commit → ⊥
  nothing_no_commit nothing commit = nothing_commits (sym nothing ∙ commit)

  pub asked : (later : Lane E) (call : Call E) (doing : Doing) (writes : List WordWrite) (promised : ℕ) → lane.doing ≡ Doing.Nothing → later.entry ≡ lane.entry →
      AsksFor lane call doing writes [] promised later → AreWordsOf lane.held base.heap writes → ((a : ℕ) → doing ≡ Doing.Read a → is_word_of lane.held base.heap a ≡ true) →
      ((set : ℕ) → doing ≡ Doing.Begin set → MayTake base.structures lane.begun set) → (doing ≡ Doing.Commit → ⊥) → (is_inside Phase.Calling doing ≡ true → lane.phase ≡ Phase.In) → IsLawfulLane deeds base history next l later
  asked later call doing writes promised nothing entry asks own read set_is other inside = lane_stays deeds base history next l lane later keeps was
      (subst (λ (n : ℕ). AreWordsOf n base.heap later.writes.items) (sym keeps.held)
      (subst (λ (ws : List WordWrite). AreWordsOf lane.held base.heap ws) (sym asks.writes_more) (words_more lane.held base.heap lane.writes.items writes was.own_writes own)))
      (λ a reads. subst (λ (n : ℕ). is_word_of n base.heap a ≡ true) (sym keeps.held) (read a (sym doing_is ∙ reads)))
      (λ set begins. subst (λ (n : ℕ). MayTake base.structures n set) (sym keeps.begun) (set_is set (sym doing_is ∙ begins)))
      (λ on. absurd (both later.entered on (keeps.entered ∙ none_entered deeds base history next l lane (nothing_no_commit nothing) was)))
      (λ commit. absurd (other (sym doing_is ∙ commit)))
      (λ on none. was.running (ap (λ (p : Phase). is_inside p lane.doing) (inside ((λ i. is_inside (sym phase_is i) (sym doing_is i)) ∙ on))) (sym keeps.transaction ∙ none))
      (λ on. absurd (both later.entered on (keeps.entered ∙ none_entered deeds base history next l lane (nothing_no_commit nothing) was)))
      (λ e has. absurd (none_coming deeds base history next l lane (nothing_no_commit nothing) was e (sym entry ∙ has)))
    where
      phase_is : later.phase ≡ Phase.Calling
      phase_is = ap (λ (x : Lane _). x.phase) asks.is

      doing_is : later.doing ≡ doing
      doing_is = ap (λ (x : Lane _). x.doing) asks.is

      keeps : KeepsTransaction lane later
      keeps = record {
        held = ap (λ (x : Lane _). x.held) asks.is;
        begun = ap (λ (x : Lane _). x.begun) asks.is;
        commits = ap (λ (x : Lane _). x.commits) asks.is;
        transaction = ap (λ (x : Lane _). x.transaction) asks.is;
        joined = ap (λ (x : Lane _). x.joined) asks.is;
        entered = ap (λ (x : Lane _). x.entered) asks.is;
        gives = asks.gives_more ∙ append-nil lane.gives.items;
      }

  -- ---- a commit is asked

  -- what the lane holds where all of its writes are stored
  held_whole : lane.doing ≡ Doing.Nothing → lane.stored ≡ length lane.writes.items →
      words_of (begun_heap base history lane) lane ≡ holding_of lane.held (with_writes lane.writes.items (begun_heap base history lane))
  held_whole nothing stored = λ i. holding lane.held (begun_heap base history lane)
      (owners_after (begun_heap base history lane) (standing i) (given i)) (with_writes (whole i) (begun_heap base history lane)).at (given i)
    where
      standing : front (waiting_writes lane.doing) lane.writes.items ≡ lane.writes.items
      standing = ap (λ (d : Doing). front (waiting_writes d) lane.writes.items) nothing ∙ front_whole lane.writes.items

      given : front (waiting_gives lane.doing) lane.gives.items ≡ []
      given = ap (λ (d : Doing). front (waiting_gives d) lane.gives.items) nothing ∙ front_whole lane.gives.items ∙ was.no_gives

      whole : take lane.stored lane.writes.items ≡ lane.writes.items
      whole = take_whole lane.stored lane.writes.items (omega (arith, stored))

  entry_writes : (layout : Layout) → writes_of_entry layout lane ≡ lane.writes.items
  entry_writes layout = ap (λ (gs : List ℕ). lane.writes.items ++ map (disowned layout) gs) was.no_gives ∙ append-nil lane.writes.items

  -- what the deed means it means on the heap at the begin
  pub meant : Depends deeds → lane.doing ≡ Doing.Nothing → lane.stored ≡ length lane.writes.items → (deed : E) → MayCommit deeds (face_of base history l lane) deed →
      deeds.means deed (begun_heap base history lane) (with_writes lane.writes.items (begun_heap base history lane))
  meant depends nothing stored deed may = depends deed
      (heap_of_holding base.heap (holding_of lane.held (begun_heap base history lane)))
      (heap_of_holding base.heap (holding_of lane.held (with_writes lane.writes.items (begun_heap base history lane))))
      (begun_heap base history lane) (with_writes lane.writes.items (begun_heap base history lane))
      (subst (λ (n : ℕ). AreAlike n (heap_of_holding base.heap (holding_of lane.held (begun_heap base history lane))) (begun_heap base history lane)) (sym may.names)
      (held_alike base.heap lane.held begun_words))
      (subst (λ (n : ℕ). AreAlike n (heap_of_holding base.heap (holding_of lane.held (with_writes lane.writes.items (begun_heap base history lane))))
      (with_writes lane.writes.items (begun_heap base history lane))) (sym may.names)
      (held_alike base.heap lane.held (after_writes lane.writes.items begun_words)))
      (subst (λ (held : Holding). deeds.means deed (heap_of_holding base.heap (holding_of lane.held (begun_heap base history lane))) (heap_of_holding base.heap held))
      (held_whole nothing stored) may.means)
    where
      begun_words : Words
      begun_words = after_entries (take lane.joined history) base.heap.at

  some_is : (x y : Entry E) → Some x ≡ Some y → x ≡ y
  some_is x y e = ap or_else e
    where
      or_else : Option (Entry E) → Entry E
      or_else (Some z) = z
      or_else None = x

  pub committing_is : Depends deeds → (layout : Layout) (deed : E) (writes : List WordWrite) → lane.doing ≡ Doing.Nothing → lane.phase ≡ Phase.In → lane.stored ≡ length lane.writes.items →
      MayCommit deeds (face_of base history l lane) deed → writes ≡ writes_of_entry layout lane → IsLawfulLane deeds base history next l (committing l deed writes lane)
  committing_is depends layout deed writes nothing phase stored may is = lane_stays deeds base history next l lane (committing l deed writes lane)
      (record { held = refl; begun = refl; commits = refl; transaction = refl; joined = refl; entered = refl; gives = refl }) was
      was.own_writes
      (λ a reads. cc)
      (λ set begins. absurd (commit_begins set begins))
      (λ on. absurd (both lane.entered on new))
      (λ commit fresh none. cc)
      (λ on. running)
      (λ on. refl)
      (λ e has. subst (λ (x : Entry _). IsComing deeds base (begun_heap base history lane) l (committing l deed writes lane) x) (some_is (entry_of l deed writes lane) e has) record {
        some = running;
        new = new;
        call = refl;
        lane_is = refl;
        number = let less = was.counts.less running new in omega (arith, less);
        transaction = refl;
        writes = same;
        names = may.names;
        sorts = may.sorts;
        means = ∣ subst (λ (ws : List WordWrite). deeds.means deed (begun_heap base history lane) (with_writes ws (begun_heap base history lane))) (sym same)
            (meant depends nothing stored deed may) ∣₁;
      })
    where
      new : lane.entered ≡ false
      new = none_entered deeds base history next l lane (nothing_no_commit nothing) was

      running : lane.transaction ≢ 0
      running = was.running (ap (λ (p : Phase). is_inside p lane.doing) phase)

      same : writes ≡ lane.writes.items
      same = is ∙ entry_writes layout

  -- ---- an entry joins

  pub entering_is : (part : ℕ) (e : Entry E) → lane.joined ≤ length history → lane.entry ≡ Some e → IsLawfulLane deeds base (history ++ e ∷ []) next l (moved part (entered_lane lane))
  entering_is part e behind has = record {
    inside = was.inside;
    no_gives = was.no_gives;
    own_writes = was.own_writes;
    own_read = was.own_read;
    own_set = was.own_set;
    alike = λ new. absurd (both true refl new);
    alike_joined = λ on.
        subst (λ (es : List (Entry _)). AreAlike lane.held (with_writes lane.writes.items (fold base.heap es)) (fold base.heap (history ++ e ∷ [])))
        (sym (take_before lane.joined history (e ∷ []) behind))
        (subst (λ (u : Words). AreAlike lane.held (heap_with base.heap (after_writes lane.writes.items begun_words)) (heap_with base.heap u))
        (sym (after_last history e base.heap.at ∙ ap (λ (ws : List WordWrite). after_writes ws (after_entries history base.heap.at)) comes.writes))
        (follow base.heap lane.held begun_words (after_entries history base.heap.at) lane.writes.items (data_of base.heap lane.held lane.writes.items was.own_writes)
        (was.alike comes.new)));
    has_entry = λ commit new. absurd (both true refl new);
    has_joined = λ on. filter_there (is_of l) history e (same_of e.lane l comes.lane_is);
    counts = record {
      few = was.counts.few;
      most = let less = was.counts.less comes.some comes.new in omega (arith, less);
      less = λ some new. absurd (both true refl new);
    };
    begun = was.begun;
    running = was.running;
    entering = λ on. comes.call;
    before = each_last (IsBefore l lane.begun lane.transaction true) history e
        (each_map (IsBefore l lane.begun lane.transaction lane.entered) (IsBefore l lane.begun lane.transaction true) history
        (λ x before. record {
          counted = before.counted;
          older = λ some new. absurd (both true refl new);
          differs = λ some new. absurd (both true refl new);
        }) was.before)
        (record {
          counted = λ same. let n = comes.number in omega (arith, n);
          older = λ some new. absurd (both true refl new);
          differs = λ some new. absurd (both true refl new);
        });
    coming = λ f none. cc;
  }
    where
      comes : IsComing deeds base (begun_heap base history lane) l lane e
      comes = was.coming e has

      begun_words : Words
      begun_words = after_entries (take lane.joined history) base.heap.at

      same_of : (n m : ℕ) → n ≡ m → (n == m) ≡ true
      same_of n m is = subst (λ (k : ℕ). (n == k) ≡ true) is (same_eq n)

  -- ---- an end

  free_lane : (reply : Reply) → phase_after reply ≡ Phase.Out → IsFree (left reply lane)
  free_lane reply out = record {
    held = refl;
    transaction = refl;
    gives = refl;
    writes = refl;
    doing = refl;
    phase = out;
    entry = refl;
    entered = refl;
    few = was.counts.few;
    most = was.counts.most;
  }

  counted : Each (λ (x : Entry E). x.lane ≡ l → x.number < lane.begun) history
  counted = each_map (IsBefore l lane.begun lane.transaction lane.entered) (λ (x : Entry _). x.lane ≡ l → x.number < lane.begun) history (λ x before. before.counted) was.before

  pub leaving_is : (reply : Reply) → phase_after reply ≡ Phase.Out → 1 ≤ next → IsLawfulLane deeds base history next l (left reply lane)
  leaving_is reply out some = free_is_lawful deeds base history next l (left reply lane) (free_lane reply out) some counted

  pub committed_is : (reply : Reply) (e : Entry E) → phase_after reply ≡ Phase.Out → 1 ≤ next → lane.entry ≡ Some e →
      IsLawfulLane deeds base (history ++ e ∷ []) next l (left reply (entered_lane lane))
  committed_is reply e out some has = free_is_lawful deeds base (history ++ e ∷ []) next l (left reply (entered_lane lane))
      (record { held = refl; transaction = refl; gives = refl; writes = refl; doing = refl; phase = out; entry = refl; entered = refl; few = was.counts.few; most = joins_most }) some
      (each_last (λ (x : Entry _). x.lane ≡ l → x.number < lane.begun) history e counted
      (λ same. let n = (was.coming e has).number in omega (arith, n)))
    where
      joins_most : lane.commits + 1 ≤ lane.begun
      joins_most = let comes = was.coming e has in let less = was.counts.less comes.some comes.new in omega (arith, less)

  -- ---- a begin

  each_both : {X : Type 0} (P Q R : X → Type 0) (xs : List X) → ((x : X) → P x → Q x → R x) → Each P xs → Each Q xs → Each R xs
  each_both P Q R [] f p q = tt
  each_both P Q R (x ∷ xs) f p q = (f x p.0 q.0, each_both P Q R xs f p.1 q.1)

  pub beginning_is : (set : ℕ) → Each (IsPast base.heap next) history → 1 ≤ next → lane.doing ≡ Doing.Begin set → lane.writes.items ≡ [] →
      IsLawfulLane deeds base history (next + 1) l (begun_lane next set (length history) lane)
  beginning_is set past some doing empty = record {
    inside = may.inside;
    no_gives = was.no_gives;
    own_writes = subst (λ (ws : List WordWrite). AreWordsOf set base.heap ws) (sym empty) tt;
    own_read = λ a reads. cc;
    own_set = λ k begins. absurd (nothing_begins k begins);
    alike_joined = λ on. absurd (both false on refl);
    has_entry = λ commit. absurd (nothing_commits commit);
    has_joined = λ on. absurd (both false on refl);
    counts = record {
      few = let f = may.few in omega (arith, f);
      most = let m = was.counts.most in omega (arith, m);
      less = λ s new. let m = was.counts.most in omega (arith, m);
    };
    alike = λ new. subst (λ (es : List (Entry _)). AreAlike set (fold base.heap es) (fold base.heap history)) (sym (take_whole (length history) history (omega arith)))
        (alike_same base.heap set (after_entries history base.heap.at));
    begun = omega arith;
    running = λ on none. no_number next some none;
    entering = λ on. absurd (both false on refl);
    before = each_both (IsPast base.heap next) (IsBefore l lane.begun lane.transaction lane.entered) (IsBefore l (lane.begun + 1) next false) history
        (λ x p before. record {
          counted = λ same. let lt = before.counted same in omega (arith, lt);
          older = λ s new same. let lt = before.counted same in omega (arith, lt);
          differs = λ s new is. let lt = p.begun in ne_of_less x.transaction next lt is;
        }) past was.before;
    coming = λ e has. absurd (none_coming deeds base history next l lane (λ commit. let e = sym doing ∙ commit in cc) was e has);
  }
    where
      may : MayTake base.structures lane.begun set
      may = was.own_set set doing

      no_number : (n : ℕ) → 1 ≤ n → n ≡ 0 → ⊥
      no_number n le e = omega (arith, le, e)

      ne_of_less : (m n : ℕ) → m < n → m ≡ n → ⊥
      ne_of_less m n lt e = omega (arith, lt, e)

-- a transaction more has begun
pub next_is : {E : Type 0} (deeds : Deeds E) (base : Base) (history : List (Entry E)) (next l : ℕ) (lane : Lane E) → IsLawfulLane deeds base history next l lane →
    IsLawfulLane deeds base history (next + 1) l lane
next_is deeds base history next l lane was = record {
  inside = was.inside;
  no_gives = was.no_gives;
  own_writes = was.own_writes;
  own_read = was.own_read;
  own_set = was.own_set;
  alike = was.alike;
  alike_joined = was.alike_joined;
  has_entry = was.has_entry;
  has_joined = was.has_joined;
  counts = was.counts;
  begun = let b = was.begun in omega (arith, b);
  running = was.running;
  entering = was.entering;
  before = was.before;
  coming = was.coming;
}
