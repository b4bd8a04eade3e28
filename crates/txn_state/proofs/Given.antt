-- The blocks that a lane gave.
use Rattle.std.specs.Prelude.{slice_get, None, Some}
use Rattle.std.specs.List.{list_any}
use Rattle.std.proofs.lemmas.Bool.Decides.{eqb_tells, nat_tests}
use Rattle.lane_types.specs.Heaps.{has_bit}
use Rattle.std.proofs.Common.{◌≡◌, ◌≢◌, ◌⊎◌, inl, inr, ℕ, suc, ◌+◌, ◌≤◌, ◌==◌, Bool, true, false, ◌&&◌, ◌||◌, not, nat_lt, List, [], ◌∷◌, length, refl, sym, ap, ◌∙◌, subst, arith, ◌*◌, zero, ◌-◌, ◌/◌, ◌<◌, ◌++◌}
use Rattle.persist_model.specs.Records.{Log, IsAmong}
use Rattle.persist_model.specs.Shape.{Shape, heap, block}
use Rattle.region_layout.specs.declared.layout.Layout.{Layout}
use Rattle.region_layout.specs.Layout.{layout_shape}
use Rattle.offset_alloc.specs.declared.Standing.{Standing}
use Rattle.lane_book.specs.declared.lane.Lane.{Lane}
use Rattle.lane_book.specs.declared.lane.Doing.{Doing}
use Rattle.lane_book.specs.Stocked.{Stocked}
use Rattle.lane_book.specs.Lanes.{has_room}
use Rattle.lane_book.specs.Books.{ends, IsLane, IsBook, IsAboutIt}
use Rattle.lane_book.specs.Refusals.{block_in}
use Rattle.lane_types.specs.declared.call.Phase.{Phase}
use Rattle.history_laws.specs.UnderWay.{Added, UnderWay, nothing, appends, closes, takes_back, drops}
use Rattle.txn_state.specs.Stages.{Stage, Free, Between, Leaving, Naming, Storing, Deleting, Securing, Opening, Undoing, TakingBack, Keeping, Ending, Closing, ClosingEnd, Dropping, Unbuilt, stage_at, stage_of}
use Rattle.txn_state.proofs.StageSteps.{write_cases, commit_cases, abort_cases, ends_at}
use Rattle.txn_laws.specs.Txns.{Gift, Txn}
use Rattle.txn_state.specs.Ties.{AreGiftsOf, is_in, is_own, is_given, HasGiven, due_by, WaitsToDelete, DeletesNext, IsAppending, waits, appends_it, IsCome, IsLaneOf, IsOfBlock}
use Rattle.txn_laws.specs.Going.{further}
use Rattle.std.proofs.lemmas.Bool.{lt-ltb}
use Rattle.lane_book.specs.declared.book.Book.{Book}
use Rattle.lane_book.specs.FacesOf.{lane_at, front}

-- ---- the same gifts

pub given_same : (layout : Layout) (blocks : List Standing) (held held_then : ℕ) (gives gives_then gates gates_then : List ℕ) (gifts gifts_then : List Gift) (words words_then : ℕ → Bool) →
    held_then ≡ held → gives_then ≡ gives → gates_then ≡ gates → gifts_then ≡ gifts → words_then ≡ words →
    HasGiven layout blocks held gives gates gifts words → HasGiven layout blocks held_then gives_then gates_then gifts_then words_then
given_same layout blocks held held_then gives gives_then gates gates_then gifts gifts_then words words_then held_is gives_is gates_is gifts_is words_is has =
    subst (λ (x : ℕ). HasGiven layout blocks x gives_then gates_then gifts_then words_then) (sym held_is)
    (subst (λ (x : List ℕ). HasGiven layout blocks held x gates_then gifts_then words_then) (sym gives_is)
    (subst (λ (x : List ℕ). HasGiven layout blocks held gives x gifts_then words_then) (sym gates_is)
    (subst (λ (x : List Gift). HasGiven layout blocks held gives gates x words_then) (sym gifts_is)
    (subst (λ (x : ℕ → Bool). HasGiven layout blocks held gives gates gifts x) (sym words_is) has))))

pub no_gifts : (shape : Shape) (gates : List ℕ) (gifts : List Gift) → AreGiftsOf shape [] gates gifts → gifts ≡ []
no_gifts shape [] [] are = refl
no_gifts shape [] (g ∷ gifts) are = absurd are
no_gifts shape (gate ∷ gates) [] are = absurd are
no_gifts shape (gate ∷ gates) (g ∷ gifts) are = absurd are

-- as many gates as gifts, and no more than gives
pub gates_counted : (shape : Shape) (gives gates : List ℕ) (gifts : List Gift) → AreGiftsOf shape gives gates gifts → length gates ≡ length gifts
gates_counted shape gives [] [] are = refl
gates_counted shape gives [] (g ∷ gifts) are = absurd are
gates_counted shape gives (gate ∷ gates) [] are = absurd are
gates_counted shape [] (gate ∷ gates) (g ∷ gifts) are = absurd are
gates_counted shape (k ∷ gives) (gate ∷ gates) (g ∷ gifts) are = ap suc (gates_counted shape gives gates gifts are.2)

or_false : (b : Bool) → (b || false) ≡ b
or_false true = refl
or_false false = refl

none_in : (layout : Layout) (a : ℕ) → is_in layout (is_given []) a ≡ false
none_in layout a = by (nat_lt a (heap (layout_shape layout))) (nat_lt a (heap (layout_shape layout) + 16 * layout.blocks))
  where
    by : (b c : Bool) → (not b && (c && false)) ≡ false
    by true c = refl
    by false true = refl
    by false false = refl

-- none is given
pub none_given : (layout : Layout) (blocks : List Standing) (held : ℕ) (gives gates : List ℕ) (words : ℕ → Bool) → gives ≡ [] → gates ≡ [] →
    ((a : ℕ) → words a ≡ is_in layout (is_own blocks held gives) a) → HasGiven layout blocks held gives gates [] words
none_given layout blocks held gives gates words no_give no_gate are = record {
  gifts_are = subst (λ (xs : List ℕ). AreGiftsOf (layout_shape layout) gives xs []) (sym no_gate) tt;
  each = λ k m. absurd (subst (λ (xs : List ℕ). IsAmong xs k) no_give m);
  words_are = λ a. are a ∙ sym (ap (λ b. is_in layout (is_own blocks held gives) a || b) (ap (λ xs. is_in layout (is_given xs) a) no_give ∙ none_in layout a) ∙ or_false (is_in layout (is_own blocks held gives) a));
}

-- a word of a block that the lane has is its own
pub own_word : (layout : Layout) (blocks : List Standing) (held : ℕ) (gives gates : List ℕ) (gifts : List Gift) (words : ℕ → Bool) (a : ℕ) → HasGiven layout blocks held gives gates gifts words →
    is_in layout (is_own blocks held gives) a ≡ true → words a ≡ true
own_word layout blocks held gives gates gifts words a has on = has.words_are a ∙ ap (λ b. b || is_in layout (is_given gives) a) on

-- ---- the call

pub give_of_due : (doing : Doing) → due_by doing ≡ 1 → (k : ℕ) × (doing ≡ Doing.Give k)
give_of_due Doing.Nothing e = absurd (omega (arith, e))
give_of_due (Doing.Begin set) e = absurd (omega (arith, e))
give_of_due (Doing.Read a) e = absurd (omega (arith, e))
give_of_due (Doing.Write a v) e = absurd (omega (arith, e))
give_of_due (Doing.Take s k) e = absurd (omega (arith, e))
give_of_due (Doing.Give k) e = (k, refl)
give_of_due Doing.Commit e = absurd (omega (arith, e))
give_of_due Doing.Abort e = absurd (omega (arith, e))
give_of_due Doing.Checkpoint e = absurd (omega (arith, e))
give_of_due (Doing.Batch n) e = absurd (omega (arith, e))
give_of_due Doing.Savepoint e = absurd (omega (arith, e))
give_of_due (Doing.RollbackTo n) e = absurd (omega (arith, e))

-- what it waits for
pub deletes_same : {E : Type 0} (layout : Layout) (u : UnderWay) (lane later : Lane E) → ((k : ℕ) → later.doing ≡ Doing.Give k → lane.doing ≡ Doing.Give k) → later.gates.items ≡ lane.gates.items → later.gives.items ≡ lane.gives.items →
    later.promised ≡ lane.promised → (due_by lane.doing ≡ 1 → later.gates ≡ lane.gates) → DeletesNext layout u lane → DeletesNext layout u later
deletes_same layout u lane later gives_same gates gives promised wait deletes k call = (
  was.0,
  λ long. (
      let waits = was.1 (ap (λ (xs : List ℕ). length xs + 1) (sym gates) ∙ long ∙ ap length gives) in
      (subst (λ n. 1 ≤ n) (sym promised) waits.0, subst (λ (stock : Stocked ℕ). has_room 1 stock) (sym (wait (ap due_by (gives_same k call)))) waits.1)),
)
  where
    was : IsOfBlock layout k u × (length lane.gates.items + 1 ≡ length lane.gives.items → WaitsToDelete lane)
    was = deletes k (gives_same k call)

pub block_further : (layout : Layout) (k : ℕ) (u : UnderWay) → IsOfBlock layout k u → IsOfBlock layout k (further u)
block_further layout k nothing of = tt
block_further layout k (appends adding made) of = of
block_further layout k (closes gates ends made) of = tt
block_further layout k (takes_back gates made) of = tt
block_further layout k (drops r made) of = tt

-- no give is in progress
pub deletes_none : {E : Type 0} (layout : Layout) (u : UnderWay) (lane : Lane E) → due_by lane.doing ≡ 0 → DeletesNext layout u lane
deletes_none layout u lane none k call = absurd (let one = ap due_by call in omega (arith, none, one))

-- ---- a lane at its end

gifts_counted : (gifts : List Gift) (n : ℕ) → 0 ≡ length gifts + n → gifts ≡ []
gifts_counted [] n e = refl
gifts_counted (g ∷ gifts) n e = absurd (omega (arith, e))

pub ends_no_gifts : {E : Type 0} (layout : Layout) (blocks : List Standing) (log newest : Log) (u : UnderWay) (p : ℕ) (lane : Lane E) (x : Txn) → IsLaneOf layout blocks log newest u p lane x →
    ends lane.doing ≡ true → x.gifts ≡ []
ends_no_gifts layout blocks log newest u p lane x of on = gifts_counted x.gifts (due_by lane.doing) (sym (ap length (of.ends_ungiven on)) ∙ of.counts)

-- ---- a give that has no record yet

abbrev is_deleting : Stage → Bool
is_deleting Deleting = true
is_deleting _ = false

due_none_at : (phase : Phase) (rec : Bool) (part : ℕ) (doing : Doing) → due_by doing ≡ 0 → is_deleting (stage_at phase rec part doing) ≡ false
due_none_at Phase.Out rec part Doing.Nothing none = refl
due_none_at Phase.In rec part Doing.Nothing none = refl
due_none_at Phase.Calling rec part Doing.Nothing none = refl
due_none_at phase rec part (Doing.Begin set) none = refl
due_none_at phase rec part (Doing.Read a) none = refl
due_none_at phase rec part (Doing.Write a v) none = write_cases (λ st. is_deleting st ≡ false) part refl refl
due_none_at phase rec part (Doing.Take s k) none = write_cases (λ st. is_deleting st ≡ false) part refl refl
due_none_at phase rec part (Doing.Give k) none = absurd (omega (arith, none))
due_none_at phase true part Doing.Commit none = commit_cases (λ st. is_deleting st ≡ false) part refl refl refl refl refl
due_none_at phase false part Doing.Commit none = refl
due_none_at phase true part Doing.Abort none = abort_cases (λ st. is_deleting st ≡ false) part refl refl refl refl refl refl refl refl
due_none_at phase false part Doing.Abort none = refl
due_none_at phase rec part Doing.Checkpoint none = refl
due_none_at phase rec part (Doing.Batch n) none = refl
due_none_at phase rec part Doing.Savepoint none = refl
due_none_at phase rec part (Doing.RollbackTo n) none = refl

give_at : (phase : Phase) (rec : Bool) (part : ℕ) (doing : Doing) → stage_at phase rec part doing ≡ Deleting → due_by doing ≡ 1
give_at phase rec part doing is = elim (due_most doing) [ inl none ↦ absurd (never (due_none_at phase rec part doing none) is) | inr one ↦ one ]
  where
    due_most : (doing : Doing) → (due_by doing ≡ 0) ⊎ (due_by doing ≡ 1)
    due_most Doing.Nothing = inl refl
    due_most (Doing.Begin set) = inl refl
    due_most (Doing.Read a) = inl refl
    due_most (Doing.Write a v) = inl refl
    due_most (Doing.Take s k) = inl refl
    due_most (Doing.Give k) = inr refl
    due_most Doing.Commit = inl refl
    due_most Doing.Abort = inl refl
    due_most Doing.Checkpoint = inl refl
    due_most (Doing.Batch n) = inl refl
    due_most Doing.Savepoint = inl refl
    due_most (Doing.RollbackTo n) = inl refl

    never : {st : Stage} → is_deleting st ≡ false → st ≡ Deleting → ⊥
    never off is = let e : true ≡ false = ap is_deleting (sym is) ∙ off in cc

-- the deletion waits to be appended
pub give_waits : {E : Type 0} (layout : Layout) (blocks : List Standing) (log newest : Log) (p : ℕ) (lane : Lane E) (x : Txn) → IsLaneOf layout blocks log newest nothing p lane x →
    stage_of lane ≡ Deleting → WaitsToDelete lane
give_waits layout blocks log newest p lane x of at =
    let due = give_at lane.phase lane.has_records lane.part lane.doing at in
    let give = give_of_due lane.doing due in
    let gates = gates_counted (layout_shape layout) lane.gives.items lane.gates.items x.gifts of.given.gifts_are in
    let counts = of.counts in
    (of.deleting give.0 give.1).1 (omega (arith, gates, counts, due))

-- ---- who closes

not_closing : (kind : Added → Type 0) (u : UnderWay) (gates ends : List ℕ) (n : ℕ) → IsAppending kind u → u ≡ closes gates ends n → ⊥
not_closing kind u gates ends n (waits none) is = let e : nothing ≡ closes gates ends n = sym none ∙ is in cc
not_closing kind u gates ends n (appends_it adding made has k) is = let e : appends adding made ≡ closes gates ends n = sym has ∙ is in cc

not_resting : (u : UnderWay) (gates ends : List ℕ) (n : ℕ) → u ≡ nothing → u ≡ closes gates ends n → ⊥
not_resting u gates ends n none is = let e : nothing ≡ closes gates ends n = sym none ∙ is in cc

-- a lane that closes is about to end
pub closes_ends : (log : Log) (u : UnderWay) (x : Txn) (stage : Stage) (gates ends : List ℕ) (n : ℕ) → IsCome log u x stage → u ≡ closes gates ends n → ends_at stage ≡ true
closes_ends log u x Free gates ends n come is = absurd (not_resting u gates ends n come.1 is)
closes_ends log u x Between gates ends n come is = absurd (not_resting u gates ends n come.rests is)
closes_ends log u x Leaving gates ends n come is = refl
closes_ends log u x Naming gates ends n come is = absurd (not_closing _ u gates ends n come.under_way is)
closes_ends log u x Storing gates ends n come is = absurd (not_resting u gates ends n come.rests is)
closes_ends log u x Deleting gates ends n come is = absurd (not_closing _ u gates ends n come.under_way is)
closes_ends log u x Securing gates ends n come is = refl
closes_ends log u x Opening gates ends n come is = refl
closes_ends log u x Undoing gates ends n come is = refl
closes_ends log u x TakingBack gates ends n come is = refl
closes_ends log u x Keeping gates ends n come is = refl
closes_ends log u x Ending gates ends n come is = refl
closes_ends log u x Closing gates ends n come is = refl
closes_ends log u x ClosingEnd gates ends n come is = refl
closes_ends log u x Dropping gates ends n come is = refl
closes_ends log u x Unbuilt gates ends n come is = absurd come

-- ---- who has a word's block

either_on : (b c : Bool) → (b || c) ≡ true → (b ≡ true) ⊎ (c ≡ true)
either_on true c e = inl refl
either_on false c e = inr e

both_on : (b c : Bool) → (b && c) ≡ true → (b ≡ true) × (c ≡ true)
both_on true c e = (refl, e)
both_on false c e = absurd (let off : false ≡ true = e in cc)

block_of_in : (layout : Layout) (has : ℕ → Bool) (a : ℕ) → is_in layout has a ≡ true → has (block_in layout a) ≡ true
block_of_in layout has a on =
    let first = both_on (not (nat_lt a (heap (layout_shape layout)))) (nat_lt a (heap (layout_shape layout) + 16 * layout.blocks) && has (block_in layout a)) on in
    (both_on (nat_lt a (heap (layout_shape layout) + 16 * layout.blocks)) (has (block_in layout a)) first.1).1

among_by : (gives : List ℕ) (k g : ℕ) (t : Bool) → ((t ≡ true) × (k ≡ g)) ⊎ ((t ≡ false) × (k ≢ g)) → (t || list_any (λ given. k == given) gives) ≡ true →
    (list_any (λ given. k == given) gives ≡ true → IsAmong gives k) → IsAmong (g ∷ gives) k
among_by gives k g true told both others = elim told [ inl e ↦ inl e.1 | inr ne ↦ absurd (let off : true ≡ false = ne.0 in cc) ]
among_by gives k g false told rest others = inr (others rest)

pub given_among : (gives : List ℕ) (k : ℕ) → list_any (λ given. k == given) gives ≡ true → IsAmong gives k
given_among [] k on = cc
given_among (g ∷ gives) k on = among_by gives k g (k == g) (eqb_tells k g) on (given_among gives k)

-- it is of a structure of the lane's, or pending
abbrev pub StandsFor : List Standing → ℕ → ℕ → Type 0
StandsFor blocks held k = (slice_get blocks k ≡ Some Standing.Pending) ⊎ ((s : ℕ) × (slice_get blocks k ≡ Some (Standing.Owned s)) × (has_bit held s ≡ true))

pub stands_for : (layout : Layout) (blocks : List Standing) (held : ℕ) (gives gates : List ℕ) (gifts : List Gift) (words : ℕ → Bool) (a : ℕ) → HasGiven layout blocks held gives gates gifts words →
    (is_own blocks held gives (block_in layout a) ≡ true → (s : ℕ) × (slice_get blocks (block_in layout a) ≡ Some (Standing.Owned s)) × (has_bit held s ≡ true)) →
    words a ≡ true → StandsFor blocks held (block_in layout a)
stands_for layout blocks held gives gates gifts words a has own on = elim (either_on (is_in layout (is_own blocks held gives) a) (is_in layout (is_given gives) a) (sym (has.words_are a) ∙ on)) [
  | inl mine ↦ inr (own (block_of_in layout (is_own blocks held gives) a mine))
  | inr given ↦ (has.each (block_in layout a) (given_among gives (block_in layout a) (block_of_in layout (is_given gives) a given))).stands
]

-- ---- the words of a given block

among_any : (gives : List ℕ) (k : ℕ) → IsAmong gives k → list_any (λ given. k == given) gives ≡ true
among_any [] k m = absurd m
among_any (g ∷ gives) k (inl e) = elim (eqb_tells k g) [ inl is ↦ ap (λ b. b || list_any (λ given. k == given) gives) is.0 | inr ne ↦ absurd (ne.1 e) ]
among_any (g ∷ gives) k (inr m) = ap (λ b. (k == g) || b) (among_any gives k m) ∙ or_true (k == g)
  where
    or_true : (b : Bool) → (b || true) ≡ true
    or_true true = refl
    or_true false = refl

pub block_in_block : (layout : Layout) (k : ℕ) → block_in layout (block (layout_shape layout) k) ≡ k
block_in_block layout k = by (heap (layout_shape layout)) k
  where
    by : (h n : ℕ) → (h + 16 * n - h) / 16 ≡ n
    by h n = omega arith

in_block : (layout : Layout) (has : ℕ → Bool) (k : ℕ) → k < layout.blocks → has k ≡ true → is_in layout has (block (layout_shape layout) k) ≡ true
in_block layout has k lt on = rw (above, below, ap has (block_in_block layout k), on) refl
  where
    off : (m n : ℕ) → m ≤ n → nat_lt n m ≡ false
    off m n le = grind (arith, nat_tests, le)

    above : nat_lt (block (layout_shape layout) k) (heap (layout_shape layout)) ≡ false
    above = off (heap (layout_shape layout)) (block (layout_shape layout) k) (omega arith)

    below : nat_lt (block (layout_shape layout) k) (heap (layout_shape layout) + 16 * layout.blocks) ≡ true
    below = lt-ltb (block (layout_shape layout) k) (heap (layout_shape layout) + 16 * layout.blocks) (omega (arith, lt))

-- its owner word is the lane's
pub given_owner : (layout : Layout) (blocks : List Standing) (held : ℕ) (gives gates : List ℕ) (gifts : List Gift) (words : ℕ → Bool) (k : ℕ) → HasGiven layout blocks held gives gates gifts words →
    IsAmong gives k → words (block (layout_shape layout) k) ≡ true
given_owner layout blocks held gives gates gifts words k has m =
    has.words_are (block (layout_shape layout) k) ∙
    ap (λ b. is_in layout (is_own blocks held gives) (block (layout_shape layout) k) || b) (in_block layout (is_given gives) k (has.each k m).inside (among_any gives k m)) ∙
    or_true (is_in layout (is_own blocks held gives) (block (layout_shape layout) k))
  where
    or_true : (b : Bool) → (b || true) ≡ true
    or_true true = refl
    or_true false = refl

-- ---- one more

-- the last block has its record
pub gifts_more : (shape : Shape) (gives gates : List ℕ) (gifts : List Gift) (gate k : ℕ) (g : Gift) → slice_get gives (length gates) ≡ Some k → g.word ≡ block shape k → g.gate ≡ gate →
    AreGiftsOf shape gives gates gifts → AreGiftsOf shape gives (gates ++ gate ∷ []) (gifts ++ g ∷ [])
gifts_more shape [] [] [] gate k g last word at are = let off : None ≡ Some k = last in cc
gifts_more shape (b ∷ gives) [] [] gate k g last word at are = let same : b ≡ k = cc in (word ∙ ap (block shape) (sym same), at, tt)
gifts_more shape gives [] (f ∷ gifts) gate k g last word at are = absurd are
gifts_more shape gives (a ∷ gates) [] gate k g last word at are = absurd are
gifts_more shape [] (a ∷ gates) (f ∷ gifts) gate k g last word at are = absurd are
gifts_more shape (b ∷ gives) (a ∷ gates) (f ∷ gifts) gate k g last word at are = (are.0, are.1, gifts_more shape gives gates gifts gate k g last word at are.2)

pub last_at : (xs : List ℕ) (x n : ℕ) → n ≡ length xs → slice_get (xs ++ x ∷ []) n ≡ Some x
last_at [] x n is = subst (λ m. slice_get (x ∷ []) m ≡ Some x) (sym is) refl
last_at (y ∷ xs) x zero is = absurd (omega (arith, is))
last_at (y ∷ xs) x (suc n) is = last_at xs x n (omega (arith, is))

pub among_last : (xs : List ℕ) (x : ℕ) → IsAmong (xs ++ x ∷ []) x
among_last [] x = inl refl
among_last (y ∷ xs) x = inr (among_last xs x)

-- a block that the lane is about to give
pub gives_more : (shape : Shape) (gives gates : List ℕ) (gifts : List Gift) (k : ℕ) → AreGiftsOf shape gives gates gifts → AreGiftsOf shape (gives ++ k ∷ []) gates gifts
gives_more shape gives [] [] k are = tt
gives_more shape gives [] (g ∷ gifts) k are = absurd are
gives_more shape gives (a ∷ gates) [] k are = absurd are
gives_more shape [] (a ∷ gates) (g ∷ gifts) k are = absurd are
gives_more shape (b ∷ gives) (a ∷ gates) (g ∷ gifts) k are = (are.0, are.1, gives_more shape gives gates gifts k are.2)

-- ---- the block of a give in progress

pub last_given : {E : Type 0} (n : ℕ) (lane : Lane E) (k : ℕ) → lane.doing ≡ Doing.Give k → IsLane n lane → lane.gives.items ≡ front 1 lane.gives.items ++ k ∷ []
last_given n lane k call is = by (subst (IsAboutIt lane) call is.about)
  where
    by : IsAboutIt lane (Doing.Give k) → lane.gives.items ≡ front 1 lane.gives.items ++ k ∷ []
    by about = about.last

pub given_last : {E : Type 0} (layout : Layout) (book : Book E) (l k : ℕ) → (lane_at book l).doing ≡ Doing.Give k → IsBook book → IsAmong (lane_at book l).gives.items k
given_last layout book l k call kept = subst (λ (xs : List ℕ). IsAmong xs k) (sym (last_given (length book.history.items) (lane_at book l) k call (kept l)))
    (among_last (front 1 (lane_at book l).gives.items) k)

pub among_either : (xs : List ℕ) (y x : ℕ) → IsAmong (xs ++ y ∷ []) x → IsAmong xs x ⊎ (x ≡ y)
among_either [] y x (inl e) = inr e
among_either [] y x (inr m) = absurd m
among_either (z ∷ xs) y x (inl e) = inl (inl e)
among_either (z ∷ xs) y x (inr m) = elim (among_either xs y x m) [ inl k ↦ inl (inr k) | inr e ↦ inr e ]
