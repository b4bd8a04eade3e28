-- Lists of words that are read one by one.
use Rattle.std.proofs.Common.{◌≡◌, ℕ, zero, suc, ◌+◌, ◌<◌, ◌≤◌, List, [], ◌∷◌, ◌++◌, length, get_or, take, drop, refl, sym, ◌∙◌, ap, arith, Result, Ok, Err, append_assoc, append-nil, map, length-drop, Bor, Bool, true, false, ◌^◌, bit_or, take_all, ◌&&◌}
use Rattle.std.proofs.lemmas.List.{get_or-map, nil_from_length, length-map}
use Rattle.rewind_script.specs.declared.read.refusal.Refusal.{Refusal}
use Rattle.rewind_script.specs.declared.read.refusal.Refusal.TheVariants as refusal
use Rattle.rewind_script.specs.declared.fault.Fault.{Fault}
use Rattle.rewind_script.specs.declared.script.Command.{Command}
use Rattle.rewind_script.specs.Steps.{◌>>=◌, numerals, numeral, guard}
use Rattle.rewind_script.specs.TurnLines.{turn_list, turn, add_turn, add_turns}
use Rattle.rewind_script.specs.Lanes.{with_bits, structure, is_structure, set_of}
use Rattle.rewind_script.specs.Commands.{live_after, live_step}
use Rattle.rewind_script.specs.Answers.{texts, Fails}
use Rattle.std.specs.List.{list_all}
use Rattle.std.proofs.lemmas.List.Folds.{list_all_more}
use Rattle.rewind_script.specs.declared.fault.Fault.TheVariants as fault
use Rattle.rewind_script.specs.declared.read.reading.Reading.{Reading}

-- what is read, after a front
abbrev pub onto : {A : Type 0} → List A → Result (List A) Fault → Result (List A) Fault
onto front (Ok list) = Ok (front ++ list)
onto front (Err kind) = Err kind

pub onto-nil : {A : Type 0} (read : Result (List A) Fault) → onto [] read ≡ read
onto-nil (Ok list) = refl
onto-nil (Err kind) = refl

onto-first : {A : Type 0} (front : List A) (x : A) (read : Result (List A) Fault) → onto front (read >>= λ others. Ok (x ∷ others)) ≡ onto (front ++ x ∷ []) read
onto-first front x (Ok list) = ap Ok (sym (append_assoc front (x ∷ []) list))
onto-first front x (Err kind) = refl

first_numeral : (front : List ℕ) (args : List (List ℕ)) (first : Result ℕ Fault)
    → onto front (first >>= λ n. numerals args >>= λ others. Ok (n ∷ others)) ≡ (first >>= λ n. onto (front ++ n ∷ []) (numerals args))
first_numeral front args (Ok n) = onto-first front n (numerals args)
first_numeral front args (Err kind) = refl

pub numerals-next : (front : List ℕ) (k : ℕ) (args : List (List ℕ)) → k < length args
    → onto front (numerals (drop k args)) ≡ (numeral (get_or args k []) >>= λ n. onto (front ++ n ∷ []) (numerals (drop (suc k) args)))
unfolding numerals
numerals-next front zero [] h = absurd (omega arith)
numerals-next front (suc k) [] h = absurd (omega arith)
numerals-next front (suc k) (word ∷ args) h = numerals-next front k args (omega arith)
numerals-next front zero (word ∷ args) h = first_numeral front args (numeral word)

-- a word that is a number
pub numerals-on : (front : List ℕ) (k : ℕ) (refs : List (Bor (List ℕ))) (d : Bor (List ℕ)) (n : ℕ) (total : Result (List ℕ) Fault) → k < length refs
    → numeral (get_or refs k d).now ≡ Ok n → onto front (numerals (drop k (texts refs))) ≡ total → onto (front ++ n ∷ []) (numerals (drop (k + 1) (texts refs))) ≡ total
numerals-on front k refs d n total within read so_far =
    let at : get_or (texts refs) k [] ≡ (get_or refs k d).now = get_or-map (λ w. w.now) refs k d [] within in
    let len : k < length (texts refs) = omega (arith, length-map refs (λ w. w.now)) in
    let next : suc k ≡ k + 1 = omega arith in
    ap (λ j. onto (front ++ n ∷ []) (numerals (drop j (texts refs)))) (sym next)
    ∙ sym (numerals-next front k (texts refs) len
    ∙ ap (λ r. r >>= λ m. onto (front ++ m ∷ []) (numerals (drop (suc k) (texts refs)))) (ap numeral at ∙ read))
    ∙ so_far

pub numerals-off : (front : List ℕ) (k : ℕ) (refs : List (Bor (List ℕ))) (d : Bor (List ℕ)) (total : Result (List ℕ) Fault) (e : Refusal) → k < length refs
    → Fails e (numeral (get_or refs k d).now) → onto front (numerals (drop k (texts refs))) ≡ total → Fails e total
numerals-off front k refs d total refusal.Memory within read so_far = tt
numerals-off front k refs d total (refusal.Fault kind) within read so_far =
    let at : get_or (texts refs) k [] ≡ (get_or refs k d).now = get_or-map (λ w. w.now) refs k d [] within in
    let len : k < length (texts refs) = omega (arith, length-map refs (λ w. w.now)) in
    sym so_far ∙ numerals-next front k (texts refs) len
    ∙ ap (λ r. r >>= λ m. onto (front ++ m ∷ []) (numerals (drop (suc k) (texts refs)))) (ap numeral at ∙ read)

pub numerals-done : (front : List ℕ) (k : ℕ) (refs : List (Bor (List ℕ))) → length refs ≤ k → onto front (numerals (drop k (texts refs))) ≡ Ok front
unfolding numerals
numerals-done front k refs past =
    ap (λ words. onto front (numerals words)) (nil_from_length (drop k (texts refs)) (omega (arith, length-drop k (texts refs), length-map refs (λ w. w.now))))
    ∙ ap Ok (append-nil front)

first_turn : (front : List (ℕ × ℕ)) (args : List (List ℕ)) (first : Result (ℕ × ℕ) Fault)
    → onto front (first >>= λ t. turn_list args >>= λ others. Ok (t ∷ others)) ≡ (first >>= λ t. onto (front ++ t ∷ []) (turn_list args))
first_turn front args (Ok t) = onto-first front t (turn_list args)
first_turn front args (Err kind) = refl

pub turns-next : (front : List (ℕ × ℕ)) (k : ℕ) (args : List (List ℕ)) → k < length args
    → onto front (turn_list (drop k args)) ≡ (turn (get_or args k []) >>= λ t. onto (front ++ t ∷ []) (turn_list (drop (suc k) args)))
unfolding turn_list
turns-next front zero [] h = absurd (omega arith)
turns-next front (suc k) [] h = absurd (omega arith)
turns-next front (suc k) (word ∷ args) h = turns-next front k args (omega arith)
turns-next front zero (word ∷ args) h = first_turn front args (turn word)

-- a word that is a turn
pub turns-on : (front : List (ℕ × ℕ)) (k : ℕ) (refs : List (Bor (List ℕ))) (d : Bor (List ℕ)) (n : ℕ × ℕ) (total : Result (List (ℕ × ℕ)) Fault) → k < length refs
    → turn (get_or refs k d).now ≡ Ok n → onto front (turn_list (drop k (texts refs))) ≡ total → onto (front ++ n ∷ []) (turn_list (drop (k + 1) (texts refs))) ≡ total
turns-on front k refs d n total within read so_far =
    let at : get_or (texts refs) k [] ≡ (get_or refs k d).now = get_or-map (λ w. w.now) refs k d [] within in
    let len : k < length (texts refs) = omega (arith, length-map refs (λ w. w.now)) in
    let next : suc k ≡ k + 1 = omega arith in
    ap (λ j. onto (front ++ n ∷ []) (turn_list (drop j (texts refs)))) (sym next)
    ∙ sym (turns-next front k (texts refs) len
    ∙ ap (λ r. r >>= λ m. onto (front ++ m ∷ []) (turn_list (drop (suc k) (texts refs)))) (ap turn at ∙ read))
    ∙ so_far

pub turns-off : (front : List (ℕ × ℕ)) (k : ℕ) (refs : List (Bor (List ℕ))) (d : Bor (List ℕ)) (total : Result (List (ℕ × ℕ)) Fault) (e : Refusal) → k < length refs
    → Fails e (turn (get_or refs k d).now) → onto front (turn_list (drop k (texts refs))) ≡ total → Fails e total
turns-off front k refs d total refusal.Memory within read so_far = tt
turns-off front k refs d total (refusal.Fault kind) within read so_far =
    let at : get_or (texts refs) k [] ≡ (get_or refs k d).now = get_or-map (λ w. w.now) refs k d [] within in
    let len : k < length (texts refs) = omega (arith, length-map refs (λ w. w.now)) in
    sym so_far ∙ turns-next front k (texts refs) len
    ∙ ap (λ r. r >>= λ m. onto (front ++ m ∷ []) (turn_list (drop (suc k) (texts refs)))) (ap turn at ∙ read)

pub turns-done : (front : List (ℕ × ℕ)) (k : ℕ) (refs : List (Bor (List ℕ))) → length refs ≤ k → onto front (turn_list (drop k (texts refs))) ≡ Ok front
unfolding turn_list
turns-done front k refs past =
    ap (λ words. onto front (turn_list words)) (nil_from_length (drop k (texts refs)) (omega (arith, length-drop k (texts refs), length-map refs (λ w. w.now))))
    ∙ ap Ok (append-nil front)

-- a set from a list of structures
by_guard : (b : Bool) (s map : ℕ) → (guard b fault.Range >>= λ _. Ok s) ≡ Ok map → (b ≡ true) × (s ≡ map)
by_guard true s map h = (refl, ok_same s map h)
  where
    ok_same : (m n : ℕ) → ◌≡◌ {A = Result ℕ Fault} (Ok m) (Ok n) → m ≡ n
    ok_same m n e = cc
by_guard false s map h = absurd (err_ok map h)
  where
    err_ok : (n : ℕ) → ◌≡◌ {A = Result ℕ Fault} (Err fault.Range) (Ok n) → ⊥
    err_ok n e = cc

bits-next : (set k : ℕ) (list : List ℕ) → k < length list → with_bits set (drop k list) ≡ with_bits (bit_or set (2 ^ get_or list k 0)) (drop (suc k) list)
unfolding with_bits
bits-next set zero [] h = absurd (omega arith)
bits-next set zero (s ∷ list) h = refl
bits-next set (suc k) [] h = absurd (omega arith)
bits-next set (suc k) (s ∷ list) h = bits-next set k list (omega arith)

pub set-on : (reading : Reading) (set k map bit : ℕ) (list : List ℕ) → k < length list → structure reading (get_or list k 0) ≡ Ok map → bit ≡ 2 ^ map
    → with_bits set (drop k list) ≡ with_bits 0 list → list_all (is_structure reading) (take k list) ≡ true
    → (with_bits (bit_or set bit) (drop (k + 1) list) ≡ with_bits 0 list) × (list_all (is_structure reading) (take (k + 1) list) ≡ true)
set-on reading set k map bit list within is bit_is so_far all =
    let found = by_guard (is_structure reading (get_or list k 0)) (get_or list k 0) map is in
    let next : suc k ≡ k + 1 = omega arith in (
      ap (λ j. with_bits (bit_or set bit) (drop j list)) (sym next)
          ∙ ap (λ b. with_bits (bit_or set b) (drop (suc k) list)) (bit_is ∙ ap (λ m. 2 ^ m) (sym found.1))
          ∙ sym (bits-next set k list within) ∙ so_far,
      list_all_more (is_structure reading) list k 0 within ∙ ap (λ b. b && is_structure reading (get_or list k 0)) all ∙ found.0,
    )

pub set-done : (reading : Reading) (set k : ℕ) (list : List ℕ) → length list ≤ k → with_bits set (drop k list) ≡ with_bits 0 list → list_all (is_structure reading) (take k list) ≡ true
    → set_of reading list ≡ Ok set
unfolding with_bits
set-done reading set k list past so_far all =
    ap (λ b. guard b fault.Range >>= λ _. Ok (with_bits 0 list)) (ap (list_all (is_structure reading)) (sym (take_all k list past)) ∙ all)
    ∙ ap Ok (sym so_far ∙ ap (with_bits set) (nil_from_length (drop k list) (omega (arith, length-drop k list))))

-- turns that are added one by one
turn-next : (reading : Reading) (k : ℕ) (list : List (ℕ × ℕ)) (d : ℕ × ℕ) → k < length list → add_turns reading (drop k list) ≡ (add_turn reading (get_or list k d) >>= λ next. add_turns next (drop (suc k) list))
unfolding add_turns
turn-next reading zero [] d h = absurd (omega arith)
turn-next reading zero (t ∷ list) d h = refl
turn-next reading (suc k) [] d h = absurd (omega arith)
turn-next reading (suc k) (t ∷ list) d h = turn-next reading k list d (omega arith)

pub turn-on : (reading next : Reading) (k : ℕ) (list : List (ℕ × ℕ)) (d : ℕ × ℕ) (total : Result Reading Fault) → k < length list → add_turn reading (get_or list k d) ≡ Ok next
    → add_turns reading (drop k list) ≡ total → add_turns next (drop (k + 1) list) ≡ total
turn-on reading next k list d total within is so_far =
    let step : suc k ≡ k + 1 = omega arith in
    ap (λ j. add_turns next (drop j list)) (sym step) ∙ sym (turn-next reading k list d within ∙ ap (λ r. r >>= λ n. add_turns n (drop (suc k) list)) is) ∙ so_far

pub turn-off : (reading : Reading) (k : ℕ) (list : List (ℕ × ℕ)) (d : ℕ × ℕ) (total : Result Reading Fault) (e : Refusal) → k < length list → Fails e (add_turn reading (get_or list k d))
    → add_turns reading (drop k list) ≡ total → Fails e total
turn-off reading k list d total refusal.Memory within is so_far = tt
turn-off reading k list d total (refusal.Fault kind) within is so_far = sym so_far ∙ turn-next reading k list d within ∙ ap (λ r. r >>= λ n. add_turns n (drop (suc k) list)) is

pub turn-done : (reading : Reading) (k : ℕ) (list : List (ℕ × ℕ)) → length list ≤ k → add_turns reading (drop k list) ≡ Ok reading
unfolding add_turns
turn-done reading k list past = ap (add_turns reading) (nil_from_length (drop k list) (omega (arith, length-drop k list)))

-- savepoints that stand
pub live-next : (live k : ℕ) (commands : List Command) (d : Command) → k < length commands → live_after live (drop k commands) ≡ live_after (live_step live (get_or commands k d)) (drop (suc k) commands)
unfolding live_after
live-next live zero [] d h = absurd (omega arith)
live-next live zero (c ∷ rest) d h = refl
live-next live (suc k) [] d h = absurd (omega arith)
live-next live (suc k) (c ∷ rest) d h = live-next live k rest d (omega arith)

pub live-on : (live next k : ℕ) (commands : List Command) (d : Command) (total : ℕ) → k < length commands → next ≡ live_step live (get_or commands k d)
    → live_after live (drop k commands) ≡ total → live_after next (drop (k + 1) commands) ≡ total
live-on live next k commands d total within is so_far =
    let step : suc k ≡ k + 1 = omega arith in
    ap (λ j. live_after next (drop j commands)) (sym step) ∙ ap (λ n. live_after n (drop (suc k) commands)) is ∙ sym (live-next live k commands d within) ∙ so_far

pub live-done : (live k : ℕ) (commands : List Command) → length commands ≤ k → live_after live (drop k commands) ≡ live
unfolding live_after
live-done live k commands past = ap (live_after live) (nil_from_length (drop k commands) (omega (arith, length-drop k commands)))
