-- The moves, at seats as the hub's calls find them.
use Rattle.std.proofs.Common.{◌≡◌, ◌≢◌, ℕ, zero, suc, ◌+◌, ◌-◌, ◌<◌, ◌==◌, true, eqb, List, [], ◌∷◌, refl, sym, ap, ◌∙◌, subst, arith, Option, Some, None}
use Rattle.std.specs.Prelude.{IfSome, IsNone, IsSome, length, slice_index}
use mathlib.Core.Option.{none, some, some-injective}
use lib.ListN.{get_elem?}
use prog.Atomic.{either}
use Rattle.std.proofs.lemmas.Bool.Decides.{nat_tests}
use Rattle.atomic_table.specs.Table.{step, Allows, Splits, rest, Final, opening}
use Rattle.atomic_table.specs.Table as Table
use Rattle.lane_types.specs.Seen.{Seen, AreInAgreement}
use Rattle.turn_hub.specs.declared.view.Sight.{Sight}
use Rattle.turn_hub.specs.declared.view.View.{View}
use Rattle.turn_hub.specs.Turns.{IsData, lanes_in, seen_by, sight, grip, times, IsAlike, Shows, TurnRule}
use Rattle.turn_hub.specs.Plays.{Sat, alone, turning, in_turn, took, gave, noted, known, Reads, opened, laid, opening_view, free_view, without_first, first_alone, IsChange}
use Rattle.lane_types.specs.Asks.{is_there, has_word}
use Rattle.turn_hub.proofs.Views.{alike_again}
use Rattle.turn_hub.proofs.Seats.{one_sight}
use Rattle.turn_hub.proofs.Moves.{takes_turn, gives_turn, notes_word, knows_word, Lawful, word_of_face, ends, opens, parts, begins}

module _ {T E : Type 0} (R : T → Seen E) where
  times-own : (lane new : ℕ) (value : T) → new ≡ lane + 1 → 0 < times (new - 1) (sight lane value ∷ [])
  times-own lane new value e = let one : (lane == (new - 1)) ≡ true = grind (arith, nat_tests) in rw one (omega arith)

  pub takes_alone : (start : T) (slots id lane new : ℕ) (seen : T) (missed : ℕ) (m : Sat T) → m ≡ (alone lane seen missed, []) → new ≡ lane + 1
      → Allows (TurnRule R start) slots id m 0 (λ n. either (eqb n 0) new n) (took R (step slots 0 0 new none) m)
  takes_alone start slots id lane new seen missed m is e =
      subst (λ (x : Sat T). Allows (TurnRule R start) slots id x 0 (λ n. either (eqb n 0) new n) (took R (step slots 0 0 new none) x)) (sym is)
      (takes_turn R start slots id new (alone lane seen missed) (omega arith) refl (times-own lane new seen e))

  -- the turn was free
  abbrev pub Got : (lane : ℕ) (seen : T) (missed : ℕ) → Sat T → Type 0
  Got lane seen missed m' = (value : T) × Shows R value (sight lane seen ∷ []) × (m' ≡ (turning lane seen value missed, (0, Some value) ∷ []))

  pub got_turn : (slots lane new : ℕ) (seen : T) (missed n : ℕ) (m m' : Sat T) → m ≡ (alone lane seen missed, []) → new ≡ lane + 1 → took R (step slots 0 0 new none) m n m' → n ≡ 0 → Got lane seen missed m'
  got_turn slots lane new seen missed n m m' is e t free =
      let u = subst (λ (x : Sat T). took R (step slots 0 0 new none) x n m') is t in
      let v = u.0 free in
      let back : new - 1 ≡ lane = omega arith in
      (v.0, v.1, v.2 ∙ ap (λ (l : ℕ). (record (alone lane seen missed) { grip = Some (grip l v.0 true) }, (0, Some v.0) ∷ [])) back)

  pub missed_turn : (slots lane new : ℕ) (seen : T) (missed n : ℕ) (m m' : Sat T) → m ≡ (alone lane seen missed, []) → took R (step slots 0 0 new none) m n m' → n ≢ 0 → m' ≡ (alone lane seen (suc missed), [])
  missed_turn slots lane new seen missed n m m' is t busy = (subst (λ (x : Sat T). took R (step slots 0 0 new none) x n m') is t).1 busy

  abbrev slot_of : Option T → List (ℕ × Option T) → Option T
  slot_of d [] = d
  slot_of d (x ∷ xs) = x.1

  -- the value comes out of the slot
  pub out_of_slot : (lane : ℕ) (seen : T) (missed : ℕ) (m m' : Sat T) (found : Option T) → Got lane seen missed m → m.1 ≡ (0, found) ∷ rest m.1 → m' ≡ (m.0, (0, None) ∷ rest m.1)
      → IfSome found (λ value. (m' ≡ (turning lane seen value missed, (0, None) ∷ [])) × Shows R value (sight lane seen ∷ []))
  out_of_slot lane seen missed m m' found got has left =
      let is : Some got.0 ≡ found = ap (slot_of None) (sym (ap (λ (x : Sat T). x.1) got.2) ∙ has) in
      subst (λ (o : Option T). IfSome o (λ value. (m' ≡ (turning lane seen value missed, (0, None) ∷ [])) × Shows R value (sight lane seen ∷ []))) is
      (left ∙ ap (λ (x : Sat T). (x.0, (0, None) ∷ rest x.1)) got.2, got.1)

  pub is_some : (lane : ℕ) (seen : T) (missed : ℕ) (m : Sat T) (found : Option T) → Got lane seen missed m → m.1 ≡ (0, found) ∷ rest m.1 → IsNone found → ⊥
  is_some lane seen missed m found got has empty =
      let is : Some got.0 ≡ found = ap (slot_of None) (sym (ap (λ (x : Sat T). x.1) got.2) ∙ has) in
      subst (λ (o : Option T). IsNone o → ⊥) is (λ h. cc) empty

  Same : T → T → Type 0
  Same picture value = (a : ℕ) → IsData (R picture) a → (R value).word a ≡ (R picture).word a

  pub gives_alone : (start : T) (slots id lane : ℕ) (seen picture value : T) (missed : ℕ) (m : Sat T) → m ≡ (turning lane seen picture missed, (0, Some value) ∷ []) → IsChange R lane picture value
      → ((a : ℕ) → IsData (R picture) a → (R value).word a ≡ (R picture).word a)
      → Allows (TurnRule R start) slots id m 0 (λ _. 0) (λ _. gave (step slots 0 0 0 none) m 0)
  gives_alone start slots id lane seen picture value missed m is change words =
      subst (λ (x : Sat T). Allows (TurnRule R start) slots id x 0 (λ _. 0) (λ _. gave (step slots 0 0 0 none) x 0)) (sym is)
      (gives_turn R start slots id lane (turning lane seen picture missed) (alone lane value missed) picture value refl refl (λ l. refl) (λ h. ((alike_again R value, refl), tt)) change words)

  pub notes_alone : (start : T) (slots id lane a i word : ℕ) (seen picture value : T) (missed : ℕ) (m : Sat T) → m ≡ (turning lane seen picture missed, (0, Some value) ∷ []) → i ≡ a + 1 → word ≡ (R value).word a
      → IsChange R lane picture value → ((b : ℕ) → b ≢ a → IsData (R picture) b → (R value).word b ≡ (R picture).word b) → a < (R picture).span
      → Allows (TurnRule R start) slots id m i (λ _. word) (λ _. noted (step slots i word 0 none) m word)
  notes_alone start slots id lane a i word seen picture value missed m is e w change words below =
      let at_suc : suc a ≡ i = omega arith in
      subst (λ (x : Sat T). Allows (TurnRule R start) slots id x i (λ _. word) (λ _. noted (step slots i word 0 none) x word)) (sym is)
      (subst (λ (j : ℕ). Allows (TurnRule R start) slots id (turning lane seen picture missed, (0, Some value) ∷ []) j (λ _. word) (λ _ m'. m' ≡ (turning lane value value missed, (0, Some value) ∷ []))) at_suc
      (subst (λ (n : ℕ). Allows (TurnRule R start) slots id (turning lane seen picture missed, (0, Some value) ∷ []) (suc a) (λ _. n) (λ _ m'. m' ≡ (turning lane value value missed, (0, Some value) ∷ []))) (sym w)
      (notes_word R start slots id lane a (turning lane seen picture missed) (turning lane value value missed) picture value ((0, Some value) ∷ []) refl refl (λ l. refl) (λ h. ((alike_again R value, refl), tt)) change words below)))

  pub put_in : (v : View T) (value : T) (m m' : Sat T) → m ≡ (v, (0, None) ∷ []) → m' ≡ (m.0, (0, Some value) ∷ []) → m' ≡ (v, (0, Some value) ∷ [])
  put_in v value m m' is e = e ∙ ap (λ (x : Sat T). (x.0, (0, Some value) ∷ [])) is

  pub noted_at : (slots i word : ℕ) (lane : ℕ) (seen picture value : T) (missed : ℕ) (m m' : Sat T) → m ≡ (turning lane seen picture missed, (0, Some value) ∷ [])
      → noted (step slots i word 0 none) m word m' → m' ≡ (turning lane value value missed, (0, Some value) ∷ [])
  noted_at slots i word lane seen picture value missed m m' is t = subst (λ (x : Sat T). noted (step slots i word 0 none) x word m') is t

  pub no_change : (lane : ℕ) (value : T) → IsChange R lane value value
  no_change lane value = record { alike = alike_again R value; others = λ other ne. refl }

  pub gave_at : (slots lane : ℕ) (seen picture value : T) (missed : ℕ) (m m' : Sat T) → m ≡ (turning lane seen picture missed, (0, Some value) ∷ [])
      → gave (step slots 0 0 0 none) m 0 m' → m' ≡ (alone lane value missed, [])
  gave_at slots lane seen picture value missed m m' is t = subst (λ (x : Sat T). gave (step slots 0 0 0 none) x 0 m') is t

  pub knows_alone : (start : T) → Lawful R start → (slots id lane i : ℕ) (seen : T) (missed : ℕ) (m : Sat T) → m ≡ (alone lane seen missed, []) → 0 < i
      → Allows (TurnRule R start) slots id m i (λ n. n) (known R (step slots i 0 0 none) m)
  knows_alone start law slots id lane i seen missed m is positive =
      subst (λ (x : Sat T). Allows (TurnRule R start) slots id x i (λ n. n) (known R (step slots i 0 0 none) x)) (sym is)
      (knows_word R start law slots id i (alone lane seen missed) positive refl)

  -- what the slot held at the end
  pub unloads : (start : T) (id : ℕ) (v : View T) (words : List ℕ) (slots : List (Option T)) (found : Option T) → Final (Table.Seen (TurnRule R start) id v) words slots
      → v.grip ≡ None → ((lane : ℕ) → lane < (R start).lanes → 0 < times lane v.sights) → get_elem? slots 0 ≡ some found
      → (value : T) × (found ≡ Some value) × (Shows R value v.sights × IsAlike R value start)
  unloads start id v words slots found final bare all was =
      let s = final.0 in
      let e = ends R start s final.1.0 id v final.1.1 bare all in
      (e.0, some-injective found (Some e.0) (sym was ∙ final.4 0 (Some e.0) e.1), (e.3, e.2))

  abbrev value_in : T → Option T → T
  value_in d None = d
  value_in d (Some value) = value

  pub is_loaded : (found : Option T) (P : T → Type 0) → (value : T) × (found ≡ Some value) × P value → IsSome found
  is_loaded found P u = subst (λ (o : Option T). IsSome o) (sym u.1) refl

  pub is_value : (found : Option T) (result : T) (P : T → Type 0) → (value : T) × (found ≡ Some value) × P value → found ≡ Some result → P result
  is_value found result P u e = subst P (ap (value_in u.0) (sym u.1 ∙ e)) u.2

  pub opens_all : (start : T) (slots id n : ℕ) (value : T) (m : Sat T) → m ≡ (opening_view value n, []) → Allows (TurnRule R start) slots id m 0 (λ n. n) (opened (step slots 0 0 0 none) m)
  opens_all start slots id n value m is =
      subst (λ (x : Sat T). Allows (TurnRule R start) slots id x 0 (λ n. n) (opened (step slots 0 0 0 none) x)) (sym is) (opens R start slots id (opening_view value n) value refl)

  abbrev pub opening_turn : T → ℕ → View T
  opening_turn value n = record (opening_view value n) { grip = Some (grip 0 value true) }

  pub opened_all : (slots n found : ℕ) (value : T) (m m' : Sat T) → m ≡ (opening_view value n, []) → opened (step slots 0 0 0 none) m found m' → m' ≡ (opening_turn value n, (0, None) ∷ [])
  opened_all slots n found value m m' is t = (subst (λ (x : Sat T). opened (step slots 0 0 0 none) x found m') is t) value refl

  pub lays_all : (start : T) (slots id n : ℕ) (value : T) (m : Sat T) → m ≡ (opening_turn value n, (0, Some value) ∷ []) → Allows (TurnRule R start) slots id m 0 (λ _. 0) (λ _. laid (step slots 0 0 0 none) m 0)
  lays_all start slots id n value m is =
      subst (λ (x : Sat T). Allows (TurnRule R start) slots id x 0 (λ _. 0) (λ _. laid (step slots 0 0 0 none) x 0)) (sym is)
      (gives_turn R start slots id 0 (opening_turn value n) (free_view value 0 n) value value refl refl (λ l. refl) (λ h. h) (no_change 0 value) (λ a h. refl))

  pub parts_all : (start : T) (id lane n : ℕ) (value : T) (m : Sat T) → m ≡ (free_view value lane n, []) → Splits (TurnRule R start) id m.0 (without_first m.0) (first_alone m.0)
  parts_all start id lane n value m is =
      subst (λ (x : Sat T). Splits (TurnRule R start) id x.0 (without_first x.0) (first_alone x.0)) (sym is) (parts R start id (free_view value lane n) refl)

  pub first_part : (lane n : ℕ) (value : T) (m : Sat T) → m ≡ (free_view value lane n, []) → 0 < n → first_alone m.0 ≡ alone lane value 0
  first_part lane zero value m is some_lane = absurd (omega arith)
  first_part lane (suc n) value m is some_lane = ap (λ (x : Sat T). first_alone x.0) is

  pub other_part : (lane n : ℕ) (value : T) (m : Sat T) → m ≡ (free_view value lane n, []) → 0 < n → without_first m.0 ≡ free_view value (lane + 1) (n - 1)
  other_part lane zero value m is some_lane = absurd (omega arith)
  other_part lane (suc n) value m is some_lane =
      let next : suc lane ≡ lane + 1 = omega arith in
      let less : n ≡ suc n - 1 = omega arith in
      ap (λ (x : Sat T). without_first x.0) is ∙ ap (λ (k : ℕ). free_view value k n) next ∙ ap (λ (k : ℕ). free_view value (lane + 1) k) less

  pub begins_at : (start value : T) (words items : List ℕ) → start ≡ value → words ≡ items → 0 < (R value).lanes
      → (length items ≡ suc ((R value).span)) × (slice_index items 0 ≡ 1) × ((a : ℕ) → a < (R value).span → slice_index items (suc a) ≡ (R value).word a)
      → TurnRule R start (opening words (None ∷ []) (opening_view start (R start).lanes))
  begins_at start value words items same it some_lane h =
      subst (λ (x : T). TurnRule R x (opening words (None ∷ []) (opening_view x ((R x).lanes)))) (sym same)
      (subst (λ (ws : List ℕ). TurnRule R value (opening ws (None ∷ []) (opening_view value ((R value).lanes)))) (sym it)
      (begins R value items some_lane h.0 h.1 h.2))

  -- the turn was free, and the value came out of the slot
  pub taken_at : (slots lane new n : ℕ) (m m' m'' : Sat T) (found : Option T) → new ≡ lane + 1 → took R (step slots 0 0 new none) m n m' → n ≡ 0
      → m'.1 ≡ (0, found) ∷ rest m'.1 → m'' ≡ (m'.0, (0, None) ∷ rest m'.1)
      → IfSome found (λ value. m'' ≡ (in_turn lane value m.0, (0, None) ∷ [])) × IfSome found (λ value. Shows R value m.0.sights) × (IsNone found → ⊥)
  taken_at slots lane new n m m' m'' found e t free has left =
      let v = t.0 free in
      let back : new - 1 ≡ lane = omega arith in
      let now : m' ≡ (in_turn lane v.0 m.0, (0, Some v.0) ∷ []) = v.2 ∙ ap (λ (l : ℕ). (in_turn l v.0 m.0, (0, Some v.0) ∷ [])) back in
      let is : Some v.0 ≡ found = ap (slot_of None) (sym (ap (λ (x : Sat T). x.1) now) ∙ has) in
      subst (λ (o : Option T). IfSome o (λ value. m'' ≡ (in_turn lane value m.0, (0, None) ∷ [])) × IfSome o (λ value. Shows R value m.0.sights) × (IsNone o → ⊥)) is
      (left ∙ ap (λ (x : Sat T). (x.0, (0, None) ∷ rest x.1)) now, v.1, λ h. cc)

  has_value : (o : Option ℕ) → is_there o ≡ true → (v : ℕ) × (o ≡ Some v)
  has_value None h = absurd (cc)
  has_value (Some v) h = (v, refl)

  -- a word of a face is one of the value's words
  pub below_span : ((value : T) → AreInAgreement (R value)) → (lane a : ℕ) (sights : List (Sight T)) → lanes_in sights ≡ lane ∷ [] → has_word ((seen_by R sights).faces lane).words a ≡ true → a < (seen_by R sights).span
  below_span law lane a sights own has =
      let s = one_sight R lane sights own in
      subst (λ (xs : List (Sight T)). has_word ((seen_by R xs).faces lane).words a ≡ true → a < (seen_by R xs).span) (sym s.1)
      (λ h. let v = has_value (((R s.0).faces lane).words.word a) h in (word_of_face R s.0 (R s.0) (law s.0) lane a v.0 v.1).0) has

  -- what was read is the word of the lane's face
  pub known_word : (slots lane i a n : ℕ) (m m' : Sat T) → lanes_in m.0.sights ≡ lane ∷ [] → i ≡ a + 1 → has_word ((seen_by R m.0.sights).faces lane).words a ≡ true
      → known R (step slots i 0 0 none) m n m' → ((seen_by R m.0.sights).faces lane).words.word a ≡ Some n
  known_word slots lane i a n m m' own e has t =
      let s = one_sight R lane m.0.sights own in
      let back : i - 1 ≡ a = omega arith in
      let reads : Reads R a n m.0.sights = subst (λ (k : ℕ). Reads R k n m.0.sights) back t.1 in
      subst (λ (xs : List (Sight T)). has_word ((seen_by R xs).faces lane).words a ≡ true → Reads R a n xs → ((seen_by R xs).faces lane).words.word a ≡ Some n) (sym s.1)
      (λ h k. let v = has_value (((R s.0).faces lane).words.word a) h in v.1 ∙ ap Some (sym (k.0 v.0 v.1))) has reads
