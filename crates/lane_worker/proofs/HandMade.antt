-- The lane made by hand: what it shows, and its answers.
use Rattle.std.proofs.Common.{◌≡◌, ◌≢◌, ℕ, zero, suc, ◌+◌, ◌-◌, ◌*◌, ◌/◌, ◌%◌, ◌<◌, ◌≤◌, ◌==◌, Bool, true, false, ◌&&◌, if◌then◌else◌, nat_lt, List, [], ◌∷◌, Option, Some, None, refl, sym, subst, ◌∙◌, ap, ⊎_elim, arith, lt-ltb}
use Rattle.std.proofs.lemmas.Bool.Decides.{nat_tests}
use Rattle.std.proofs.lemmas.Bool.{cases_lt}
use Rattle.persist_model.specs.Region.{Words}
use Rattle.lane_traits.specs.Device.{MAX_WORDS}
use Rattle.lane_traits.specs.Space.{Space}
use Rattle.lane_traits.proofs.Among.{apart_eq}
use Rattle.std.specs.Prelude.{All, length}
use Rattle.std.specs.List.{slice_get}
use Rattle.lane_types.specs.declared.call.Call.{Call}
use Rattle.lane_types.specs.declared.call.Reply.{Reply}
use Rattle.rewind_script.specs.declared.script.Script.{Script}
use Rattle.rewind_script.specs.declared.script.LaneText.{LaneText}
use Rattle.rewind_script.specs.declared.script.Item.{Item}
use Rattle.rewind_script.specs.declared.script.Item.TheVariants as item
use Rattle.rewind_script.specs.declared.script.Command.TheVariants as command
use Rattle.rewind_script.specs.Limits.{IsItem}
use Rattle.lane_types.specs.declared.call.Call.TheVariants as call
use Rattle.lane_types.specs.declared.call.Reply.TheVariants as reply
use Rattle.lane_types.specs.Faces.{WholeFace}
use Rattle.lane_types.specs.Asks.{asked}
use Rattle.lane_types.specs.Heaps.{Holding, names_in, heap_of_holding, holding_of, owner_of_held, value_of_held}
use Rattle.lane_types.specs.LaneSteps.{Answers, IsWriting, CommitStep}
use Rattle.region_layout.specs.declared.layout.Kind.{Kind}
use Rattle.region_layout.specs.declared.layout.Kind.TheVariants.{Cells, Tree, Hash}
use Rattle.region_layout.specs.HeapBlocks.{land_of}
use Rattle.region_layout.specs.Contents.{IsMapOf}
use Rattle.map_deeds.specs.Maps.{empty_maps}
use Rattle.map_deeds.specs.Meanings.{words_of, kind_at, sorts_of, map_deeds}
use Rattle.map_deeds.specs.declared.deed.MapDeed.{MapDeed}
use Rattle.map_deeds.proofs.DeedExamples.{first_only, none_else}
use Rattle.lane_worker.specs.declared.worker.Worker.{Worker}
use Rattle.lane_worker.specs.Shown.{Shows, heap_now, heap_first}
use Rattle.lane_worker.specs.declared.act.Act.{Act}
use Rattle.lane_worker.specs.declared.act.Act.TheVariants.{Ask}
use Rattle.lane_worker.specs.Standing.{IsReady, IsAsking}
use Rattle.lane_worker.specs.Starts.{IsNewWorker}
use Rattle.lane_worker.specs.Texts.{IsText, IsWorked, IsWorkedItem}
use Rattle.lane_worker.specs.Acts.{Asks, Does, IsTold, BeginsOnMaps}
use Rattle.lane_worker.proofs.Keeping.{accepted}
use Rattle.lane_worker.proofs.Starting.{new_ready}
use Rattle.lane_worker.specs.HandMade.{hand_word, hand_space, hand_heap, hand_text, hand_out, hand_begun, hand_written, hand_committed, hand_entry}

-- ---- its words

zero_if : (t u : Bool) → ◌≡◌ {A = ℕ} (if t then (if u then 0 else 0) else 0) 0
zero_if true true = refl
zero_if true false = refl
zero_if false u = refl

no_name : (t : Bool) → (if t && names_in 1 0 then Some (0 - 1) else None) ≡ None
no_name true = refl
no_name false = refl

module _ (start : ℕ) where
  owner_first : (holding_of 1 (hand_heap start)).owner 0 ≡ Some 0
  owner_first =
      let place : start + 16 * 0 ≡ start = omega arith in
      let on : (start + 16 * 0 == start) ≡ true = grind (arith, nat_tests, place) in
      rw on refl

  owner_behind : (n : ℕ) → 0 < n → (holding_of 1 (hand_heap start)).owner n ≡ None
  owner_behind n some = let off = apart_eq (start + 16 * n) start (λ e. omega (arith, e, some)) in rw off (no_name (nat_lt n 16))

  none_held : (a : ℕ) → start < a → value_of_held ((holding_of 1 (hand_heap start)).word a) ≡ 0
  none_held a past = let off = apart_eq a start (λ e. omega (arith, e, past)) in rw off (by_test _)
    where
      by_test : (t : Bool) → value_of_held (if t then Some 0 else None) ≡ 0
      by_test true = refl
      by_test false = refl

  module _ (held : Holding) (value : ℕ) (owners : (n : ℕ) → held.owner n ≡ (holding_of 1 (hand_heap start)).owner n)
      (words : (a : ℕ) → start < a → value_of_held (held.word a) ≡ (if a == start + 5 then value else 0)) where
    abbrev there : Words
    there = words_of (heap_of_holding (hand_heap start) held)

    low_word : (a : ℕ) → a ≤ start → hand_word start 1 value a ≡ there a
    low_word a low =
        let before : nat_lt start a ≡ false = grind (arith, nat_tests, low) in
        let inside : nat_lt a (start + 16 * 16) ≡ true = lt-ltb a (start + 16 * 16) (omega (arith, low)) in
        let zero_is : a - start ≡ 0 = omega (arith, low) in
        rw (before, inside, zero_is) (sym (ap owner_of_held (owners 0 ∙ owner_first)))

    owner_word : (a : ℕ) → start < a → (a - start) % 16 ≡ 0 → hand_word start 1 value a ≡ there a
    owner_word a past on =
        let behind : nat_lt start a ≡ true = lt-ltb start a past in
        let apart : (a == start + 5) ≡ false = apart_eq a (start + 5) (λ e. omega (arith, e, on)) in
        let test : ((a - start) % 16 == 0) ≡ true = grind (arith, nat_tests, on) in
        let none = owners ((a - start) / 16) ∙ owner_behind ((a - start) / 16) (omega (arith, on, past)) in
        rw (behind, apart, test) (sym (ap (λ o. if nat_lt a (start + 16 * 16) then owner_of_held o else 0) none ∙ zero_if (nat_lt a (start + 16 * 16)) true))

    data_word : (a : ℕ) → start < a → (a - start) % 16 ≢ 0 → hand_word start 1 value a ≡ there a
    data_word a past off =
        let behind : nat_lt start a ≡ true = lt-ltb start a past in
        let test : ((a - start) % 16 == 0) ≡ false = apart_eq ((a - start) % 16) 0 off in
        rw (behind, test) (ends ∙ sym (ap (λ v. if nat_lt a (start + 16 * 16) then v else 0) (words a past)))
      where
        ends : (if a == start + 5 then value else 0) ≡ (if nat_lt a (start + 16 * 16) then (if a == start + 5 then value else 0) else 0)
        ends = grind (arith, nat_tests)

    pub hand_there : (a : ℕ) → hand_word start 1 value a ≡ there a
    hand_there a = ⊎_elim
        (λ (past : start < a). ⊎_elim (λ (some : 0 < (a - start) % 16). data_word a past (λ e. omega (arith, e, some))) (λ (none : (a - start) % 16 ≤ 0). owner_word a past (omega (arith, none))) (cases_lt 0 ((a - start) % 16)))
        (λ (low : a ≤ start). low_word a low)
        (cases_lt start a)

  -- ---- its map

  low_owner : (b : ℕ) → hand_word start 1 0 b ≡ 1 → b ≤ start
  low_owner b e = grind (arith, nat_tests, e)

  first_word : hand_word start 1 0 (start + 16 * 0) ≡ 1
  first_word = grind (arith, nat_tests)

  no_cell : (key : ℕ) → hand_word start 1 0 (start + 16 * 0 + 4 + key) ≡ 0
  no_cell key = grind (arith, nat_tests)

  empty_cells : 0 < start → start + 16 ≤ MAX_WORDS → IsMapOf Cells start (hand_word start 1 0) 0 []
  empty_cells some fits = record {
    root_own = (record { number = 0; place = refl; positive = omega (arith, some); fits = omega (arith, fits) }, first_word);
    alone = λ b own. (let place = own.0.place in let low = low_owner b own.1 in omega (arith, place, low));
    ascending = tt;
    lookup_is = λ key. none_else (nat_lt key 12) _ (no_cell key);
  }

-- ---- what it shows

abbrev space_by : Words → Space
space_by w = record { land = land_of 1056 w 0; word = w; spare = []; writes = 0 }

out_word : (a : ℕ) → hand_word 1056 0 0 a ≡ words_of (heap_now hand_out) a
out_word a = zero_if (nat_lt 1056 a) (a == 1061) ∙ sym (zero_if (nat_lt a (1056 + 16 * 16)) (((a - 1056) % 16) == 0))

begun_word : (a : ℕ) → hand_word 1056 1 0 a ≡ words_of (heap_now hand_begun) a
begun_word = hand_there 1056 hand_begun.words 0 (λ n. refl) (λ a past. none_held 1056 a past ∙ sym (both_zero (a == 1061)))
  where
    both_zero : (t : Bool) → ◌≡◌ {A = ℕ} (if t then 0 else 0) 0
    both_zero true = refl
    both_zero false = refl

written_word : (a : ℕ) → hand_word 1056 1 10 a ≡ words_of (heap_now hand_written) a
written_word = hand_there 1056 hand_written.words 10 (λ n. refl) (λ a past. by_test (a == 1061) (hand_begun.words.word a) (none_held 1056 a past))
  where
    by_test : (t : Bool) (o : Option ℕ) → value_of_held o ≡ 0 → value_of_held (if t then Some 10 else o) ≡ (if t then 10 else 0)
    by_test true o e = refl
    by_test false o e = e

pub out_shown : Shows hand_out (hand_space 1056 0 0) (λ a. true)
out_shown = record { space_is = λ j. space_by (λ a. out_word a j); readable_is = λ s a d. refl }

pub begun_shown : Shows hand_begun (hand_space 1056 1 0) (λ a. true)
begun_shown = record { space_is = λ j. space_by (λ a. begun_word a j); readable_is = λ s a d. refl }

pub written_shown : Shows hand_written (hand_space 1056 1 10) (λ a. true)
written_shown = record { space_is = λ j. space_by (λ a. written_word a j); readable_is = λ s a d. refl }

pub committed_shown : (deed : MapDeed) → Shows (hand_committed deed) (hand_space 1056 0 0) (λ a. true)
committed_shown deed = record { space_is = λ j. space_by (λ a. out_word a j); readable_is = λ s a d. refl }

-- ---- its answers

pub begun_row : Answers map_deeds (reply.Begun 0) (asked (call.Begin 1) hand_out) hand_begun
begun_row = record { set = 1; call = refl; history = []; lawful = ∣ tt ∣₁; sorts = tt; next = refl }

same_some : (x y : ℕ) → Some x ≡ Some y → x ≡ y
same_some x y e = cc

begun_root : (n s : ℕ) → hand_begun.words.owner n ≡ Some s → n < 1 → s ≡ n
begun_root n s e low =
    let first : n ≡ 0 = omega (arith, low) in
    sym (same_some 0 s (sym (owner_first 1056) ∙ subst (λ k. hand_begun.words.owner k ≡ Some s) first e)) ∙ sym first

begun_maps : BeginsOnMaps (Cells ∷ []) hand_begun
begun_maps = record {
  maps = empty_maps;
  first = λ s on. subst (λ t. IsMapOf (kind_at (Cells ∷ []) t) 1056 (words_of (heap_first hand_begun)) t []) (sym (first_only s on))
      (subst (λ (w : Words). IsMapOf Cells 1056 w 0 []) (λ j a. begun_word a j) (empty_cells 1056 (omega arith) (omega arith)));
  roots = begun_root;
}

one_number : (n m : ℕ) → n ∷ [] ≡ m ∷ [] → n ≡ m
one_number n m e = cc

one_kind : (kinds : List Kind) → sorts_of (Cells ∷ []) ≡ sorts_of kinds → Cells ∷ [] ≡ kinds
one_kind [] e = absurd cc
one_kind (Cells ∷ []) e = refl
one_kind (Tree ∷ []) e = absurd (let same = one_number 1 2 e in omega (arith, same))
one_kind (Hash ∷ []) e = absurd (let same = one_number 1 3 e in omega (arith, same))
one_kind (k ∷ l ∷ kinds) e = absurd cc

pub begun_told : (w : Worker) → IsReady w hand_out → BeginsOnMaps w.kinds.now hand_begun
begun_told w h = subst (λ kinds. BeginsOnMaps kinds hand_begun) (one_kind w.kinds.now h.stands.home.sorts) begun_maps

pub written_row : Answers map_deeds reply.Written (asked (call.Write 1061 10) hand_begun) hand_written
written_row = record { writes = record { address = 1061; value = 10 } ∷ []; call = IsWriting.one; next = refl }

pub committed_row : (deed : MapDeed) → Answers map_deeds reply.Committed (asked (call.Commit deed) hand_written) (hand_committed deed)
committed_row deed = CommitStep.entering_now (hand_entry deed) (record { lane = refl; number = refl; call = refl; new = refl }) refl

-- ---- what a test asks of it

-- the call in progress, and how it is answered
pub record IsAnswered (w : Worker) (r : Reply) (g : WholeFace MapDeed) : Type 0 where
  pub f : WholeFace MapDeed
  pub asking : IsAsking w f
  pub row : Answers map_deeds r f g
  pub told : IsTold w.kinds.now r g

asks_by : (w : Worker) (f : WholeFace MapDeed) (a : Act) (c d : Call MapDeed) → Does a w f → a ≡ Ask c → c ≡ d → Asks w d f
asks_by w f a c d does is same = subst (λ (x : Call MapDeed). Asks w x f) same (subst (λ (x : Act). Does x w f) is does)

pub begun_next : (w : Worker) (a : Act) (set : ℕ) → Does a w hand_out → a ≡ Ask (call.Begin set) → set ≡ 1 → IsAnswered w (reply.Begun 0) hand_begun
begun_next w a set does is one =
    let asks = asks_by w hand_out a (call.Begin set) (call.Begin 1) does is (ap (λ n. call.Begin n) one) in
    record { f = asked (call.Begin 1) hand_out; asking = accepted w (call.Begin 1) hand_out asks; row = begun_row; told = begun_told w asks.ready }

pub written_next : (w : Worker) (a : Act) (at v : ℕ) → Does a w hand_begun → a ≡ Ask (call.Write at v) → at ≡ 1061 → v ≡ 10 → IsAnswered w reply.Written hand_written
written_next w a at v does is here ten =
    let asks = asks_by w hand_begun a (call.Write at v) (call.Write 1061 10) does is (λ j. call.Write (here j) (ten j)) in
    record { f = asked (call.Write 1061 10) hand_begun; asking = accepted w (call.Write 1061 10) hand_begun asks; row = written_row; told = tt }

pub committed_next : (w : Worker) (a : Act) (deed : MapDeed) → Does a w hand_written → a ≡ Ask (call.Commit deed) → IsAnswered w reply.Committed (hand_committed deed)
committed_next w a deed does is =
    let asks = asks_by w hand_written a (call.Commit deed) (call.Commit deed) does is refl in
    record { f = asked (call.Commit deed) hand_written; asking = accepted w (call.Commit deed) hand_written asks; row = committed_row deed; told = tt }

-- ---- its text

all_one : {X : Type 0} (P : X → Type 0) (x : X) → P x → All P (x ∷ [])
all_one P x p zero d low = p
all_one P x p (suc i) d low = absurd (omega (arith, low))

all_two : {X : Type 0} (P : X → Type 0) (x y : X) → P x → P y → All P (x ∷ y ∷ [])
all_two P x y p q zero d low = p
all_two P x y p q (suc zero) d low = q
all_two P x y p q (suc (suc i)) d low = absurd (omega (arith, low))

hand_fits : IsItem (Cells ∷ []) (item.Transaction 1 (command.Put 0 1 10 ∷ command.Get 0 1 ∷ []) true)
hand_fits = (
  (omega arith, omega arith),
  record {
    count = omega arith;
    fit = (((omega arith, refl, λ e. omega arith), omega arith), ((omega arith, refl, λ e. omega arith), tt));
  },
)

hand_is_text : IsText (Cells ∷ []) hand_text
hand_is_text = record {
  fit = all_one (IsItem (Cells ∷ [])) (item.Transaction 1 (command.Put 0 1 10 ∷ command.Get 0 1 ∷ []) true) hand_fits;
  few = omega arith;
  worked = all_one IsWorkedItem (item.Transaction 1 (command.Put 0 1 10 ∷ command.Get 0 1 ∷ []) true) (all_two IsWorked (command.Put 0 1 10) (command.Get 0 1) tt tt);
}

abbrev items_in : Option LaneText → List Item
items_in None = []
items_in (Some text) = text.items

pub new_at_hand : (script : Script) (w : Worker) → IsNewWorker script 0 w → script.layout.buckets ≡ 64 → script.layout.cells ≡ 1 → script.layout.blocks ≡ 16 → script.kinds ≡ Cells ∷ []
    → script.lanes ≡ record { items = hand_text } ∷ [] → IsReady w hand_out
new_at_hand script w new buckets cells blocks kinds lanes =
    let count : length script.kinds ≡ 1 = ap (λ (ks : List Kind). length ks) kinds in
    let text : hand_text ≡ w.items.now = ap items_in (ap (λ (ls : List LaneText). slice_get ls 0) (sym lanes) ∙ new.text) in
    new_ready script 0 w hand_out (omega (arith, count, blocks))
    (subst (λ (ks : List Kind). IsText ks w.items.now) (sym kinds) (subst (λ (xs : List Item). IsText (Cells ∷ []) xs) text hand_is_text))
    new
    (record {
      lane_is = refl;
      phase = refl;
      begun = refl;
      mine = refl;
      no_call = refl;
      entered = refl;
      sorts = ap sorts_of (sym kinds);
      structures = sym count;
      start = sym (λ j. 32 + buckets j * (8 + 8 * cells j));
      blocks = sym blocks;
    })
