-- What an event of a part gives that a lane makes, and what it leaves of the other lanes.
use Rattle.std.proofs.Common.{◌≡◌, ◌≢◌, ◌⊎◌, inl, inr, ℕ, ◌+◌, ◌%◌, ◌<◌, ◌≤◌, ◌==◌, ◌++◌, Bool, true, false, if◌then◌else◌, List, [], ◌∷◌, length, refl, sym, ap, ◌∙◌, subst, arith}
use Rattle.std.specs.Prelude.{Some, slice_get}
use Rattle.std.proofs.lemmas.Bool.Decides.{eqb_tells}
use Rattle.persist_model.specs.declared.event.Event.{Event}
use Rattle.persist_model.specs.Region.{Region, after}
use Rattle.persist_model.specs.Records.{Record, Log, IsAmong}
use Rattle.persist_model.specs.Shape.{Shape}
use Rattle.persist_model.specs.State.{State}
use Rattle.region_layout.specs.declared.layout.Layout.{Layout}
use Rattle.region_layout.specs.Layout.{layout_shape}
use Rattle.bucket_log.specs.declared.append.Place.{Place}
use Rattle.lane_book.specs.declared.book.Book.{Book}
use Rattle.log_keeper.specs.declared.keeper.LogKeeper.{LogKeeper}
use Rattle.log_keeper.specs.Parts.{LogPart, Running, rests, appends, closes, takes_back, drops, waits_for, plan_of}
use Rattle.log_keeper.specs.Ledger.{Stage, Stored, Settled, Noted, staged, with_stage, newest_log}
use Rattle.log_keeper.specs.Listing.{gate_if, gates_in}
use Rattle.log_keeper.specs.Making.{is_over, settled_by, stored_if, gone_on, made_part}
use Rattle.log_keeper.specs.Logged.{Keeping, one_more, resting, ended, advanced, plan_in, IsAlone}
use Rattle.log_keeper.specs.Events.{IsNextEvent, region_made}
use Rattle.log_keeper.proofs.Made.{goes_on}
use Rattle.log_keeper.proofs.Steps.{last_events_end}
use Rattle.history_laws.specs.UnderWay.{UnderWay, nothing}
use Rattle.txn_laws.specs.Txns.{txn_at}
use Rattle.txn_laws.specs.Worlds.{World}
use Rattle.txn_state.specs.Seen.{under_by}
use Rattle.txn_state.specs.Ties.{under_of, AreHeld, IsTied}
use Rattle.txn_state.specs.Beside.{AddsOnlyOf, TakesOnlyOf, IsBeside}
use Rattle.txn_state.specs.AppendLaws.{IsMade, AreLeft, made_in}

pub test_same : (a b : ℕ) → a ≡ b → (a == b) ≡ true
test_same a b e = elim (eqb_tells a b) [ inl k ↦ k.0 | inr k ↦ absurd (k.1 e) ]

pub test_other : (a b : ℕ) → a ≢ b → (a == b) ≡ false
test_other a b ne = elim (eqb_tells a b) [ inl k ↦ absurd (ne k.1) | inr k ↦ k.0 ]

-- ---- what a lane has under way

pub under_held : (w : World) (p l : ℕ) → w.keeping.holder p ≡ l → under_by w p l ≡ w.under p
under_held w p l e = ap (λ t. if t then w.under p else nothing) (test_same (w.keeping.holder p) l e)

pub under_free : (w : World) (p l : ℕ) → w.keeping.holder p ≢ l → under_by w p l ≡ nothing
under_free w p l ne = ap (λ t. if t then w.under p else nothing) (test_other (w.keeping.holder p) l ne)

-- Lane l's step changes what is under way in its own partition alone, and no other lane holds it, before and behind.
pub record IsChangedIn (shape : Shape) (l : ℕ) (w v : World) : Type 0 where
  pub holders : (q : ℕ) → q ≢ l % shape.partitions → v.keeping.holder q ≡ w.keeping.holder q
  pub runs : (q : ℕ) → q ≢ l % shape.partitions → v.keeping.runs q ≡ w.keeping.runs q
  pub unders : (q : ℕ) → q ≢ l % shape.partitions → v.under q ≡ w.under q
  pub before : (k : ℕ) → k ≢ l → k < length w.lanes → w.keeping.holder (l % shape.partitions) ≢ k
  pub behind : (k : ℕ) → k ≢ l → k < length w.lanes → v.keeping.holder (l % shape.partitions) ≢ k
  pub count : length v.lanes ≡ length w.lanes
  pub others : (k : ℕ) → k ≢ l → txn_at v.lanes k ≡ txn_at w.lanes k

pub under_stays : (shape : Shape) (l : ℕ) (w v : World) → IsChangedIn shape l w v → (k : ℕ) → k ≢ l → k < length w.lanes → under_of shape v k ≡ under_of shape w k
under_stays shape l w v c k ne lt = elim (eqb_tells (k % shape.partitions) (l % shape.partitions)) [
  | inl e ↦ subst (λ q. under_by v q k ≡ under_by w q k) (sym e.1)
      (under_free v (l % shape.partitions) k (c.behind k ne lt) ∙ sym (under_free w (l % shape.partitions) k (c.before k ne lt)))
  | inr off ↦ ap (λ (h : ℕ). if h == k then v.under (k % shape.partitions) else nothing) (c.holders (k % shape.partitions) off.1)
      ∙ ap (λ (u : UnderWay). if w.keeping.holder (k % shape.partitions) == k then u else nothing) (c.unders (k % shape.partitions) off.1)
]

pub beside_changed : (shape : Shape) (l t : ℕ) (log later : Log) (chains behind : ℕ → List ℕ) (w v : World) → IsChangedIn shape l w v → AddsOnlyOf t log later →
    AddsOnlyOf t (newest_log w.keeping.ledger) (newest_log v.keeping.ledger) → TakesOnlyOf t (newest_log w.keeping.ledger) (newest_log v.keeping.ledger) →
    ((u : ℕ) → u ≢ t → gates_in u false v.keeping.ledger ≡ gates_in u false w.keeping.ledger) → ((p : ℕ) → p ≢ l % shape.partitions → behind p ≡ chains p) →
    IsBeside shape l t log later chains behind w v
beside_changed shape l t log later chains behind w v c added newest_added newest_taken noted chains_stay = record {
  count = c.count;
  others = c.others;
  under = under_stays shape l w v c;
  added = added;
  newest_added = newest_added;
  newest_taken = newest_taken;
  noted = noted;
  chains_stay = chains_stay;
  alone = λ k ne lt same. inl (c.before k ne lt);
}

-- where the logs are the same
pub adds_same : (t : ℕ) (log later : Log) → later ≡ log → AddsOnlyOf t log later
adds_same t log later e r m = inl (subst (λ (x : Log). IsAmong x r) e m)

pub takes_same : (t : ℕ) (log later : Log) → later ≡ log → TakesOnlyOf t log later
takes_same t log later e r m = inl (subst (λ (x : Log). IsAmong x r) (sym e) m)

-- ---- latches

-- of one partition
pub record IsHeldAt (shape : Shape) (w : World) (p : ℕ) : Type 0 where
  pub free : w.keeping.holder p ≡ 17 → w.under p ≡ nothing
  pub busy : w.keeping.holder p ≢ 17 → w.under p ≢ nothing
  pub unfinished : w.keeping.holder p ≢ 17 → (w.keeping.runs p).made < length (plan_in shape w.keeping p)
  pub lane : w.keeping.holder p ≢ 17 → w.keeping.holder p < length w.lanes
  pub here : w.keeping.holder p ≢ 17 → w.keeping.holder p % shape.partitions ≡ p

pub held_stays : (shape : Shape) (l : ℕ) (w v : World) → IsChangedIn shape l w v → AreHeld shape w → (q : ℕ) → q < shape.partitions → q ≢ l % shape.partitions → IsHeldAt shape v q
held_stays shape l w v c held q inside ne = record {
  free = λ e. c.unders q ne ∙ held.free q inside (sym (c.holders q ne) ∙ e);
  busy = λ off e. held.busy q inside (back off) (sym (c.unders q ne) ∙ e);
  unfinished = λ off. subst (λ (run : Running). run.made < length (plan_of shape q run.part)) (sym (c.runs q ne)) (held.unfinished q inside (back off));
  lane = λ off. (let lt = held.lane q inside (back off) in let same = c.holders q ne in let count = c.count in omega (arith, lt, same, count));
  here = λ off. ap (λ (h : ℕ). h % shape.partitions) (c.holders q ne) ∙ held.here q inside (back off);
}
  where
    back : v.keeping.holder q ≢ 17 → w.keeping.holder q ≢ 17
    back off e = off (c.holders q ne ∙ e)

pub held_changed : (shape : Shape) (l : ℕ) (w v : World) → IsChangedIn shape l w v → AreHeld shape w → IsHeldAt shape v (l % shape.partitions) → AreHeld shape v
held_changed shape l w v c held here = record {
  free = λ q inside. (at q inside).free;
  busy = λ q inside. (at q inside).busy;
  unfinished = λ q inside. (at q inside).unfinished;
  lane = λ q inside. (at q inside).lane;
  here = λ q inside. (at q inside).here;
}
  where
    at : (q : ℕ) → q < shape.partitions → IsHeldAt shape v q
    at q inside = elim (eqb_tells q (l % shape.partitions)) [
      | inl e ↦ subst (IsHeldAt shape v) (sym e.1) here
      | inr ne ↦ held_stays shape l w v c held q inside ne.1
    ]

-- the latch is let go,
pub held_by_none : (shape : Shape) (v : World) (p : ℕ) → v.keeping.holder p ≡ 17 → v.under p ≡ nothing → IsHeldAt shape v p
held_by_none shape v p none still = record {
  free = λ e. still;
  busy = λ off. absurd (off none);
  unfinished = λ off. absurd (off none);
  lane = λ off. absurd (off none);
  here = λ off. absurd (off none);
}

-- or the lane has it, with something under way
pub held_by_lane : (shape : Shape) (v : World) (l : ℕ) → l < 17 → l < length v.lanes → v.keeping.holder (l % shape.partitions) ≡ l → v.under (l % shape.partitions) ≢ nothing →
    (v.keeping.runs (l % shape.partitions)).made < length (plan_in shape v.keeping (l % shape.partitions)) → IsHeldAt shape v (l % shape.partitions)
held_by_lane shape v l few inside held busy more = record {
  free = λ e. absurd (let same = sym held ∙ e in omega (arith, same, few));
  busy = λ off. busy;
  unfinished = λ off. more;
  lane = λ off. subst (λ h. h < length v.lanes) (sym held) inside;
  here = λ off. ap (λ (h : ℕ). h % shape.partitions) held;
}

-- ---- the keeper behind an event

pub made_holder : (shape : Shape) (p : ℕ) (k : Keeping) (q : ℕ) → (made_part shape p k).holder q ≡ k.holder q
made_holder shape p k q = by (is_over (plan_in shape k p) ((k.runs p).made + 1))
  where
    by : (t : Bool) → (if t then ended p (settled_by (k.runs p).part k.ledger) k else gone_on (is_over (plan_in shape k p) ((k.runs p).made + 2)) p (k.runs p) k).holder q ≡ k.holder q
    by true = refl
    by false = refl

pub made_elsewhere : (shape : Shape) (p : ℕ) (k : Keeping) (q : ℕ) → q ≢ p → (made_part shape p k).runs q ≡ k.runs q
made_elsewhere shape p k q ne = by (is_over (plan_in shape k p) ((k.runs p).made + 1))
  where
    other : (run : Running) → (if q == p then run else k.runs q) ≡ k.runs q
    other run = ap (λ t. if t then run else k.runs q) (test_other q p ne)

    by : (t : Bool) → (if t then ended p (settled_by (k.runs p).part k.ledger) k else gone_on (is_over (plan_in shape k p) ((k.runs p).made + 2)) p (k.runs p) k).runs q ≡ k.runs q
    by true = other resting
    by false = other (one_more (k.runs p))

pub made_here : (shape : Shape) (p : ℕ) (k : Keeping) → (k.runs p).made + 1 < length (plan_in shape k p) → (made_part shape p k).runs p ≡ one_more (k.runs p)
made_here shape p k more = ap (λ (x : Keeping). x.runs p) (goes_on shape k p more) ∙ ap (λ t. if t then one_more (k.runs p) else k.runs p) (test_same p p refl)

pub made_ends : (shape : Shape) (p : ℕ) (k : Keeping) → (k.runs p).made + 1 ≡ length (plan_in shape k p) → (made_part shape p k).runs p ≡ resting
made_ends shape p k last = ap (λ (x : Keeping). x.runs p) (last_events_end shape k p last).kept
    ∙ ap (λ t. if t then resting else (advanced p k).runs p) (test_same p p refl)

-- no stage changes which gates are a transaction's
pub gates_staged : (t : ℕ) (ends : Bool) (n : ℕ) (stage : Stage) (ledger : List Noted) → gates_in t ends (with_stage n stage ledger) ≡ gates_in t ends ledger
gates_staged t ends n stage [] = refl
gates_staged t ends n stage (x ∷ ledger) =
    ap (λ (gates : List ℕ). gates ++ gate_if t ends (if x.entry.lsn == n then staged x stage else x)) (gates_staged t ends n stage ledger)
    ∙ ap (λ (gates : List ℕ). gates_in t ends ledger ++ gates) (same (x.entry.lsn == n))
  where
    same : (b : Bool) → gate_if t ends (if b then staged x stage else x) ≡ gate_if t ends x
    same true = refl
    same false = refl

gates_stored : (t : ℕ) (ends over : Bool) (part : LogPart) (ledger : List Noted) → gates_in t ends (stored_if over part ledger) ≡ gates_in t ends ledger
gates_stored t ends true rests ledger = refl
gates_stored t ends true (appends place r) ledger = gates_staged t ends r.lsn Stored ledger
gates_stored t ends true (closes gates checks checkpoints) ledger = refl
gates_stored t ends true (takes_back gates) ledger = refl
gates_stored t ends true (drops r) ledger = refl
gates_stored t ends false part ledger = refl

pub gates_go_on : (shape : Shape) (p : ℕ) (k : Keeping) (t : ℕ) (ends : Bool) → (k.runs p).made + 1 < length (plan_in shape k p) →
    gates_in t ends (made_part shape p k).ledger ≡ gates_in t ends k.ledger
gates_go_on shape p k t ends more = ap (λ (x : Keeping). gates_in t ends x.ledger) (goes_on shape k p more)
    ∙ gates_stored t ends (is_over (plan_in shape k p) ((k.runs p).made + 2)) (k.runs p).part k.ledger

pub gates_settle : (shape : Shape) (p : ℕ) (k : Keeping) (place : Place) (r : Record) (t : ℕ) (ends : Bool) → (k.runs p).part ≡ appends place r → (k.runs p).made + 1 ≡ length (plan_in shape k p) →
    gates_in t ends (made_part shape p k).ledger ≡ gates_in t ends k.ledger
gates_settle shape p k place r t ends is last = ap (λ (x : Keeping). gates_in t ends x.ledger) (last_events_end shape k p last).kept
    ∙ ap (λ (part : LogPart). gates_in t ends (settled_by part k.ledger)) is ∙ gates_staged t ends r.lsn Settled k.ledger

-- ---- an event of the lane's part

waits_one : (part : LogPart) (lane : ℕ) → (waits_for part lane ≡ 17) ⊎ (waits_for part lane ≡ lane)
waits_one rests lane = inl refl
waits_one (appends place r) lane = inr refl
waits_one (closes gates ends checkpoints) lane = inr refl
waits_one (takes_back gates) lane = inr refl
waits_one (drops r) lane = inr refl

module _ (E : Type 0) (layout : Layout) (book : Book E) (keeper : LogKeeper) (s : State) (w : World) (tied : IsTied layout book keeper s w) (one : 1 ≤ layout.partitions)
    (region later : Region) (l : ℕ) (e : Event) (spare left events made : ℕ) (m : IsMade layout keeper region later l e spare left events made) where
  pub part_inside : l % layout.partitions < layout.partitions
  part_inside = omega (arith, one)

  pub holder_is : w.keeping.holder (l % layout.partitions) ≡ l
  holder_is = ap (λ (k : Keeping). k.holder (l % layout.partitions)) tied.keeping ∙ m.holder

  pub is_taken : w.keeping.holder (l % layout.partitions) ≢ 17
  is_taken none = let few = m.inside in let same = sym holder_is ∙ none in omega (arith, few, same)

  pub lane_inside : l < length w.lanes
  lane_inside = subst (λ (h : ℕ). h < length w.lanes) holder_is (tied.held.lane (l % layout.partitions) part_inside is_taken)

  pub is_busy : w.under (l % layout.partitions) ≢ nothing
  is_busy = tied.held.busy (l % layout.partitions) part_inside is_taken

  pub others_off : (k : ℕ) → k ≢ l → w.keeping.holder (l % layout.partitions) ≢ k
  others_off k ne is = ne (sym is ∙ holder_is)

  pub under_is : under_of (layout_shape layout) w l ≡ w.under (l % layout.partitions)
  under_is = under_held w (l % layout.partitions) l holder_is

  pub is_alone : IsAlone (layout_shape layout) w.keeping (l % layout.partitions)
  is_alone q inside ne same = elim (waits_one (w.keeping.runs q).part (w.keeping.holder q)) [
    | inl none ↦ is_taken (sym same ∙ none)
    | inr held ↦ (
        let his : w.keeping.holder q ≡ l = sym held ∙ same ∙ holder_is in
        let taken : w.keeping.holder q ≢ 17 = (λ none. is_taken (holder_is ∙ sym his ∙ none)) in
        ne (sym (tied.held.here q inside taken) ∙ ap (λ (h : ℕ). h % layout.partitions) his))
  ]

  pub is_next : IsNextEvent (layout_shape layout) w.keeping (l % layout.partitions) e
  is_next = record {
    inside = part_inside;
    held = subst (λ (h : ℕ). h < 17) (sym holder_is) m.inside;
    alone = is_alone;
    next = subst (λ (k : Keeping). slice_get (plan_in (layout_shape layout) k (l % layout.partitions)) (k.runs (l % layout.partitions)).made ≡ Some e) (sym tied.keeping) m.next;
  }

  pub region_is : later ≡ region_made w.keeping (l % layout.partitions) e region
  region_is = m.cells ∙ ap (λ (h : ℕ). after region h e) (sym holder_is)

  pub left_there : (n : ℕ) → AreLeft layout keeper (l % layout.partitions) n →
      (w.keeping.runs (l % layout.partitions)).made + n ≡ length (plan_in (layout_shape layout) w.keeping (l % layout.partitions))
  left_there n are = subst (λ (k : Keeping). (k.runs (l % layout.partitions)).made + n ≡ length (plan_in (layout_shape layout) k (l % layout.partitions))) (sym tied.keeping) are

  pub keeping_there : (kept : Keeping) → kept ≡ made_in layout keeper (l % layout.partitions) → made_part (layout_shape layout) (l % layout.partitions) w.keeping ≡ kept
  keeping_there kept is = ap (made_part (layout_shape layout) (l % layout.partitions)) tied.keeping ∙ sym is
