-- The commits in flight are gathered lane by lane.
use Rattle.std.proofs.Common.{◌≡◌, ℕ, ◌+◌, ◌<◌, ◌≤◌, List, [], ◌∷◌, ◌++◌, length, sym, ◌∙◌, ap, arith, append_assoc, append-nil, Option, Some, None, option_to_list}
use Rattle.std.proofs.Math.ListN.{length-append}
use Rattle.lane_types.specs.declared.face.Entry.{Entry}
use Rattle.lane_book.specs.declared.lane.Lane.{Lane}
use Rattle.lane_book.specs.Stocked.{Stocked, with_items}
use Rattle.lane_book.specs.Flights.{flight_of, flights_in}

-- the lanes are those that were gone through and those that are left, and the entries found are theirs
pub record AreGathered {E : Type 0} (lanes yielded rest : List (Lane E)) (left : ℕ) (flight : Stocked (Entry E)) : Type 0 where
  pub whole : yielded ++ rest ≡ lanes
  pub counted : left ≡ length rest
  pub found : flight.items ≡ flights_in yielded
  pub few : length flight.items ≤ length yielded
  pub room : 16 ≤ flight.capacity

pub flights_last : {E : Type 0} (lanes : List (Lane E)) (lane : Lane E) → flights_in (lanes ++ lane ∷ []) ≡ flights_in lanes ++ option_to_list (flight_of lane)
flights_last [] lane = append-nil (option_to_list (flight_of lane))
flights_last (x ∷ lanes) lane =
    ap (λ (es : List (Entry _)). option_to_list (flight_of x) ++ es) (flights_last lanes lane) ∙
    sym (append_assoc (option_to_list (flight_of x)) (flights_in lanes) (option_to_list (flight_of lane)))

pub starts : {E : Type 0} (lanes rest : List (Lane E)) (left : ℕ) (flight : Stocked (Entry E)) → rest ≡ lanes → left ≡ length rest → flight.items ≡ [] →
    16 ≤ flight.capacity → AreGathered lanes [] rest left flight
starts lanes rest left flight whole counted none room = record {
  whole = whole;
  counted = counted;
  found = none;
  few = let a = ap (λ (es : List (Entry _)). length es) none in omega (arith, a);
  room = room;
}

pub gathers : {E : Type 0} (lanes yielded rest later : List (Lane E)) (left less : ℕ) (lane : Lane E) (e : Entry E) (flight grown : Stocked (Entry E)) →
    flight_of lane ≡ Some e → grown ≡ with_items (flight.items ++ e ∷ []) flight → rest ≡ lane ∷ later → less + 1 ≡ left →
    AreGathered lanes yielded rest left flight → AreGathered lanes (yielded ++ lane ∷ []) later less grown
gathers lanes yielded rest later left less lane e flight grown has is turn fewer are = record {
  whole = append_assoc yielded (lane ∷ []) later ∙ ap (λ (ls : List (Lane _)). yielded ++ ls) (sym turn) ∙ are.whole;
  counted = let a = are.counted in let b = ap (λ (ls : List (Lane _)). length ls) turn in omega (arith, a, b, fewer);
  found = ap (λ (s : Stocked _). s.items) is ∙ ap (λ (es : List (Entry _)). es ++ e ∷ []) are.found ∙
      ap (λ (o : Option _). flights_in yielded ++ option_to_list o) (sym has) ∙ sym (flights_last yielded lane);
  few = let a = are.few in let b = ap (λ (s : Stocked _). length s.items) is ∙ length-append flight.items (e ∷ []) in let d = length-append yielded (lane ∷ []) in
      omega (arith, a, b, d);
  room = let a = are.room in let b = ap (λ (s : Stocked _). s.capacity) is in omega (arith, a, b);
}

pub passes_by : {E : Type 0} (lanes yielded rest later : List (Lane E)) (left less : ℕ) (lane : Lane E) (flight : Stocked (Entry E)) →
    flight_of lane ≡ None → rest ≡ lane ∷ later → less + 1 ≡ left →
    AreGathered lanes yielded rest left flight → AreGathered lanes (yielded ++ lane ∷ []) later less flight
passes_by lanes yielded rest later left less lane flight has turn fewer are = record {
  whole = append_assoc yielded (lane ∷ []) later ∙ ap (λ (ls : List (Lane _)). yielded ++ ls) (sym turn) ∙ are.whole;
  counted = let a = are.counted in let b = ap (λ (ls : List (Lane _)). length ls) turn in omega (arith, a, b, fewer);
  found = are.found ∙ sym (append-nil (flights_in yielded)) ∙ ap (λ (o : Option _). flights_in yielded ++ option_to_list o) (sym has) ∙ sym (flights_last yielded lane);
  few = let a = are.few in let d = length-append yielded (lane ∷ []) in omega (arith, a, d);
  room = are.room;
}

pub there_is_room : {E : Type 0} (lanes yielded rest later : List (Lane E)) (left : ℕ) (lane : Lane E) (flight : Stocked (Entry E)) → length lanes ≤ 16 →
    rest ≡ lane ∷ later → AreGathered lanes yielded rest left flight → length flight.items < flight.capacity
there_is_room lanes yielded rest later left lane flight few turn are =
    let a = are.few in let b = are.room in
    let d = sym (length-append yielded rest) ∙ ap (λ (ls : List (Lane _)). length ls) are.whole in
    let t = ap (λ (ls : List (Lane _)). length ls) turn in
    omega (arith, few, a, b, d, t)

pub all_gathered : {E : Type 0} (lanes yielded rest : List (Lane E)) (left : ℕ) (flight : Stocked (Entry E)) → left ≡ 0 →
    AreGathered lanes yielded rest left flight → flight.items ≡ flights_in lanes
all_gathered lanes yielded [] left flight none are = are.found ∙ ap flights_in (sym (append-nil yielded) ∙ are.whole)
all_gathered lanes yielded (x ∷ rest) left flight none are = absurd (let a = are.counted in omega (arith, a, none))
