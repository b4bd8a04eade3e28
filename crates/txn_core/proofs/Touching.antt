-- What a step leaves of the words that a read finds.
use Rattle.std.proofs.Common.{◌≡◌, ◌≢◌, inl, inr, ℕ, ◌+◌, ◌-◌, ◌*◌, ◌/◌, ◌%◌, ◌++◌, ◌∷◌, [], cond, if◌then◌else◌, length, Option, Some, None, refl, sym, ap, ◌∙◌, subst, arith}
use Rattle.std.specs.Vec.{with_item}
use Rattle.std.proofs.Math.Logic.{∥∥₁_elim}
use Rattle.std.proofs.Props.{props}
use Rattle.std.proofs.lemmas.Bool.Decides.{eqb_tells}
use Rattle.std.proofs.lemmas.List.{length-set}
use Rattle.persist_model.specs.declared.event.Event.{Event}
use Rattle.persist_model.specs.declared.event.Event.TheVariants.{Store, PStore, WriteBack, Fence}
use Rattle.persist_model.specs.Region.{Words, Region, newest, after, candidate}
use Rattle.persist_model.specs.Shape.{block, heap}
use Rattle.persist_model.proofs.Candidates.{newest-push}
use Rattle.lane_traits.specs.Device.{Counts}
use Rattle.region_layout.specs.declared.layout.Layout.{Layout}
use Rattle.region_layout.specs.Layout.{layout_shape, IsDataWord}
use Rattle.lane_types.specs.declared.call.Stepped.{Stepped}
use Rattle.lane_types.specs.Deeds.{Deeds}
use Rattle.lane_types.specs.Faces.{Base}
use Rattle.lane_book.specs.declared.book.Book.{Book}
use Rattle.lane_book.specs.declared.lane.Lane.{Lane}
use Rattle.log_keeper.specs.declared.keeper.LogKeeper.{LogKeeper}
use Rattle.txn_laws.proofs.LogEvents.{IsLogEvent, next_is_log, leaves_heap}
use Rattle.txn_state.specs.AppendLaws.{IsMade}
use Rattle.txn_state.specs.States.{IsStateOf}
use Rattle.txn_state.specs.Ties.{IsWrittenWord}
use Rattle.txn_state.proofs.Making.{is_next}
use Rattle.txn_core.specs.declared.advancing.Went.{Went}
use Rattle.txn_core.specs.declared.running.Ran.{Ran}
use Rattle.txn_core.specs.Advancing.{Advances, stopped, going, stored, whole}
use Rattle.txn_core.specs.Making.{changed_word}
use Rattle.txn_core.specs.Running.{HasStopped, Runs, Pays}
use Rattle.txn_core.specs.Running as Running
use Rattle.txn_core.specs.Stepping.{TouchesWord}

pub touches_prop : (layout : Layout) (region behind : Region) (touched : Option ℕ) → IsProp (TouchesWord layout region behind touched)
touches_prop layout region behind touched = hlevel props

-- ---- no word has another value

-- The device has as many words, and each data word its value.
pub record LeavesData (layout : Layout) (region behind : Region) : Type 0 where
  pub size : behind.size ≡ region.size
  pub same : (a : ℕ) → IsDataWord (layout_shape layout) a → newest (behind.at a) ≡ newest (region.at a)

not_none : (touched : Option ℕ) (a : ℕ) → touched ≡ None → touched ≡ Some a → ⊥
not_none touched a none is = let clash : None ≡ Some a = sym none ∙ is in cc

pub touches_none : (layout : Layout) (region behind : Region) (touched : Option ℕ) → touched ≡ None → LeavesData layout region behind → TouchesWord layout region behind touched
touches_none layout region behind touched none leaves = record {
  size = leaves.size;
  data_word = λ a is. absurd (not_none touched a none is);
  changed = λ a is. absurd (not_none touched a none is);
  others = λ a m ne. leaves.same a m;
}

pub same_leaves : (layout : Layout) (region behind : Region) → behind ≡ region → LeavesData layout region behind
same_leaves layout region behind same = record { size = ap (λ (r : Region). r.size) same; same = λ a m. ap (λ (r : Region). newest (r.at a)) same }

size_after : (region : Region) (by : ℕ) (e : Event) → (after region by e).size ≡ region.size
size_after region by (Store a v) = refl
size_after region by (PStore a v) = refl
size_after region by (WriteBack a) = refl
size_after region by Fence = refl

-- an event of the log, or a fence
pub log_leaves : (layout : Layout) (region behind : Region) (by : ℕ) (e : Event) → behind ≡ after region by e → IsLogEvent (layout_shape layout) e → LeavesData layout region behind
log_leaves layout region behind by e is on = record {
  size = ap (λ (r : Region). r.size) is ∙ size_after region by e;
  same = λ a m. ap (λ (r : Region). newest (r.at a)) is ∙ (leaves_heap (layout_shape layout) region by e on).newest_is a m.0;
}

-- the next event of a lane's part
pub made_leaves : {E : Type 0} (layout : Layout) (start : Words) (book : Book E) (keeper : LogKeeper) (region behind : Region) (spare left events made l : ℕ) (e : Event) →
    IsMade layout keeper region behind l e spare left events made → IsStateOf layout start book keeper region spare events → LeavesData layout region behind
made_leaves {E} layout start book keeper region behind spare left events made l e is st = log_leaves layout region behind l e is.cells
    (next_is_log (layout_shape layout) st.base st.s st.chains st.w.keeping region (l % layout.partitions) e
    (is_next E layout book keeper st.s st.w st.tied layout.partitions_within.0 region behind l e spare left events made is) st.world.log.logged)

runs_leave : {E : Type 0} (layout : Layout) (start : Words) (book : Book E) (keeper kept : LogKeeper) (region behind : Region) (spare left : ℕ) (counts after : Counts) (l : ℕ) (ran : Ran) →
    Runs layout keeper kept region behind counts after l spare left ran → IsStateOf layout start book keeper region spare counts.events → LeavesData layout region behind
runs_leave layout start book keeper kept region behind spare left counts after l _ (Running.stopped device same) st = same_leaves layout region behind device.region_stays
runs_leave layout start book keeper kept region behind spare left counts after l _ (Running.going e n made counted are no_gate keeps) st =
    made_leaves layout start book keeper region behind spare left counts.events after.events l e made st
runs_leave layout start book keeper kept region behind spare left counts after l _ (Running.stored e place c made counted are part_is keeps) st =
    made_leaves layout start book keeper region behind spare left counts.events after.events l e made st
runs_leave layout start book keeper kept region behind spare left counts after l _ (Running.whole e made counted are keeps) st =
    made_leaves layout start book keeper region behind spare left counts.events after.events l e made st

pub advance_leaves : {E : Type 0} (deeds : Deeds E) (layout : Layout) (start : Words) (book next : Book E) (keeper kept : LogKeeper) (region behind : Region) (spare left : ℕ) (counts after : Counts) (l : ℕ)
    (went : Went) → Advances deeds layout keeper kept region behind counts after spare left book next l went → IsStateOf layout start book keeper region spare counts.events →
    LeavesData layout region behind
advance_leaves deeds layout start book next keeper kept region behind spare left counts after l _ (stopped between runs pays stops) st =
    runs_leave layout start book keeper kept region behind spare left counts after l Ran.Stopped runs st
advance_leaves deeds layout start book next keeper kept region behind spare left counts after l _ (going between runs pays moves) st =
    runs_leave layout start book keeper kept region behind spare left counts after l Ran.Going runs st
advance_leaves deeds layout start book next keeper kept region behind spare left counts after l _ (stored c runs pays) st =
    runs_leave layout start book keeper kept region behind spare left counts after l (Ran.Stored c) runs st
advance_leaves deeds layout start book next keeper kept region behind spare left counts after l _ (whole runs pays) st =
    runs_leave layout start book keeper kept region behind spare left counts after l Ran.Whole runs st

-- ---- the book

-- Lanes are as many, and no word is touched.
pub record TouchesNone {E : Type 0} (book later : Book E) : Type 0 where
  pub count : length later.lanes.items ≡ length book.lanes.items
  pub none : later.touched ≡ None

-- one lane is another
pub count_with : {E : Type 0} (book later : Book E) (l : ℕ) (lane : Lane E) → later.lanes ≡ with_item book.lanes l lane → length later.lanes.items ≡ length book.lanes.items
count_with book later l lane is = ap (λ lanes. length lanes.items) is ∙ length-set book.lanes.items l lane

pub none_with : {E : Type 0} (book later : Book E) (l : ℕ) (lane : Lane E) → later.lanes ≡ with_item book.lanes l lane → later.touched ≡ None → TouchesNone book later
none_with book later l lane is none = record { count = count_with book later l lane is; none = none }

-- behind a step that left as many lanes
pub none_then : {E : Type 0} (book between later : Book E) → length between.lanes.items ≡ length book.lanes.items → TouchesNone between later → TouchesNone book later
none_then book between later same touches = record { count = touches.count ∙ same; none = touches.none }

pays_count : {E : Type 0} (book later : Book E) (l : ℕ) (ran : Ran) → Pays book later l ran → length later.lanes.items ≡ length book.lanes.items
pays_count book later l Ran.Stopped pays = ap (λ (b : Book _). length b.lanes.items) pays
pays_count book later l Ran.Going pays = count_with book later l _ (ap (λ (b : Book _). b.lanes) pays)
pays_count book later l (Ran.Stored c) pays = count_with book later l _ (ap (λ (b : Book _). b.lanes) pays)
pays_count book later l Ran.Whole pays = count_with book later l _ (ap (λ (b : Book _). b.lanes) pays)

-- the answer of a part's event
pub answered_none : {E : Type 0} (deeds : Deeds E) (layout : Layout) (book later : Book E) (keeper kept : LogKeeper) (region behind : Region) (spare left : ℕ) (counts after : Counts) (l : ℕ) (answer : Stepped) →
    Advances deeds layout keeper kept region behind counts after spare left book later l (Went.Answered answer) → TouchesNone book later
answered_none deeds layout book later keeper kept region behind spare left counts after l _ (stopped between runs pays stops) =
    none_then book between later (pays_count book between l Ran.Stopped pays)
    (none_with between later l _ (ap (λ (b : Book _). b.lanes) stops.is) (ap (λ (b : Book _). b.touched) stops.is))
answered_none deeds layout book later keeper kept region behind spare left counts after l _ (going between runs pays moves) =
    none_then book between later (pays_count book between l Ran.Going pays)
    (none_with between later l _ (ap (λ (b : Book _). b.lanes) moves.is) (ap (λ (b : Book _). b.touched) moves.is))

-- ---- the world

module _ {E : Type 0} (deeds : Deeds E) (layout : Layout) (region behind : Region) (touched : Option ℕ) (P : Base → Type 0) where
  pub touches_kept : (base : Base) → ∥ P base ∥₁ → (P base → TouchesWord layout region behind touched) → TouchesWord layout region behind touched
  touches_kept base stood touches = ∥∥₁_elim stood (touches_prop layout region behind touched) touches

-- ---- a word is stored

changed_is : (before now a b : ℕ) → changed_word before now a ≡ Some b → (b ≡ a) × (before ≢ now)
changed_is before now a b is = elim (eqb_tells before now) [
  | inl same ↦ (let clash : None ≡ Some b = sym (ap (λ t. if t then None else Some a) same.0) ∙ is in absurd (cc))
  | inr other ↦ (let found : Some a ≡ Some b = sym (ap (λ t. if t then None else Some a) other.0) ∙ is in let e : a ≡ b = cc in (sym e, other.1))
]

unchanged_is : (before now a b : ℕ) → changed_word before now a ≢ Some b → b ≡ a → before ≡ now
unchanged_is before now a b ne e = elim (eqb_tells before now) [
  | inl same ↦ same.1
  | inr other ↦ absurd (ne (ap (λ t. if t then None else Some a) other.0 ∙ ap (λ n. Some n) (sym e)))
]

store_there : (region : Region) (by a v b : ℕ) → b ≡ a → newest ((after region by (PStore a v)).at b) ≡ v
store_there region by a v b e = elim (eqb_tells b a) [
  | inl on ↦ ap (λ t. newest (cond t (region.at b ++ candidate v (by + 1) ∷ []) (region.at b))) on.0 ∙ newest-push (region.at b) (candidate v (by + 1))
  | inr off ↦ absurd (off.1 e)
]

store_elsewhere : (region : Region) (by a v b : ℕ) → b ≢ a → newest ((after region by (PStore a v)).at b) ≡ newest (region.at b)
store_elsewhere region by a v b ne = elim (eqb_tells b a) [
  | inl on ↦ absurd (ne on.1)
  | inr off ↦ ap (λ t. newest (cond t (region.at b ++ candidate v (by + 1) ∷ []) (region.at b))) off.0
]

-- an owner word is stored
pub owner_leaves : (layout : Layout) (region behind : Region) (by a v : ℕ) → behind ≡ after region by (PStore a v) → (IsDataWord (layout_shape layout) a → ⊥) → LeavesData layout region behind
owner_leaves layout region behind by a v is off = record {
  size = ap (λ (r : Region). r.size) is;
  same = λ b m. ap (λ (r : Region). newest (r.at b)) is ∙ store_elsewhere region by a v b (λ e. off (subst (IsDataWord (layout_shape layout)) e m));
}

pub owner_is_no_data : (layout : Layout) (a k : ℕ) → a ≡ block (layout_shape layout) k → IsDataWord (layout_shape layout) a → ⊥
owner_is_no_data layout a k is on = on.1 (is ∙ own_block (heap (layout_shape layout)) k ∙ ap (λ n. block (layout_shape layout) ((n - heap (layout_shape layout)) / 16)) (sym is))
  where
    own_block : (h k : ℕ) → h + 16 * k ≡ h + 16 * ((h + 16 * k - h) / 16)
    own_block h k = omega arith

-- The touched word is this one, where its value was another.
pub store_touches : (layout : Layout) (region behind : Region) (by a v : ℕ) (touched : Option ℕ) → behind ≡ after region by (PStore a v) → IsDataWord (layout_shape layout) a →
    touched ≡ changed_word (newest (region.at a)) v a → TouchesWord layout region behind touched
store_touches layout region behind by a v touched is data_word told = record {
  size = ap (λ (r : Region). r.size) is;
  data_word = λ b on. subst (IsDataWord (layout_shape layout)) (sym (changed_is (newest (region.at a)) v a b (sym told ∙ on)).0) data_word;
  changed = λ b on same. (let c = changed_is (newest (region.at a)) v a b (sym told ∙ on) in
      c.1 (sym (ap (λ n. newest (region.at n)) c.0) ∙ sym same ∙ ap (λ (r : Region). newest (r.at b)) is ∙ store_there region by a v b c.0));
  others = λ b m ne. ap (λ (r : Region). newest (r.at b)) is ∙ elim (eqb_tells b a) [
    | inl on ↦ store_there region by a v b on.1 ∙ sym (unchanged_is (newest (region.at a)) v a b (λ e. ne (told ∙ e)) on.1) ∙ sym (ap (λ n. newest (region.at n)) on.1)
    | inr off ↦ store_elsewhere region by a v b off.1
  ];
}

-- a word that a lane writes: a data word, or an owner word, at which none is touched
pub written_touches : (layout : Layout) (region behind : Region) (by a v : ℕ) (touched : Option ℕ) → behind ≡ after region by (PStore a v) → IsWrittenWord (layout_shape layout) a →
    (IsDataWord (layout_shape layout) a → touched ≡ changed_word (newest (region.at a)) v a) → ((IsDataWord (layout_shape layout) a → ⊥) → touched ≡ None) →
    TouchesWord layout region behind touched
written_touches layout region behind by a v touched is (inl data_word) changes none = store_touches layout region behind by a v touched is data_word (changes data_word)
written_touches layout region behind by a v touched is (inr plain) changes none =
    let off = owner_is_no_data layout a plain.0 plain.3 in
    touches_none layout region behind touched (none off) (owner_leaves layout region behind by a v is off)
