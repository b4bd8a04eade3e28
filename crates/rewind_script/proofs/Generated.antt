-- The text of each seed is a script.
use Rattle.std.proofs.Common.{◌≡◌, ℕ, zero, suc, ◌+◌, ◌*◌, ◌%◌, ◌<◌, ◌≤◌, ◌^◌, List, [], ◌∷◌, ◌++◌, length, refl, sym, ◌∙◌, ap, subst, arith, Bool, true, false, ◌&&◌, not, ◌==◌, nat_lt, nat_le, lt-ltb, le-leb, append_assoc, append-nil, if◌then◌else◌, decimal, Ok, Err, codes, length-append, ne_eqb}
use Rattle.std.specs.Str.Lines.{lines}
use Rattle.region_layout.specs.declared.layout.Policy.TheVariants.{Force}
use Rattle.region_layout.specs.declared.layout.Kind.{Kind}
use Rattle.region_layout.specs.declared.layout.Kind.TheVariants.{Cells, Tree, Hash}
use Rattle.rewind_script.specs.declared.fault.Fault.TheVariants as fault
use Rattle.rewind_script.specs.declared.fault.ScriptFault.TheVariants.{Line}
use Rattle.rewind_script.specs.declared.script.Command.{Command}
use Rattle.rewind_script.specs.declared.script.Command.TheVariants as command
use Rattle.rewind_script.specs.declared.script.Item.{Item}
use Rattle.rewind_script.specs.declared.script.Item.TheVariants as item
use Rattle.rewind_script.specs.declared.script.LaneText.{LaneText}
use Rattle.rewind_script.specs.declared.read.reading.Part.{Part}
use Rattle.rewind_script.specs.declared.read.reading.Part.TheVariants as part
use Rattle.rewind_script.specs.declared.read.reading.Keyword.TheVariants as keyword
use Rattle.rewind_script.specs.declared.read.reading.Reading.{Reading}
use Rattle.rewind_script.specs.Text.{words, number, spelled}
use Rattle.rewind_script.specs.Steps.{◌>>=◌, guard, or_fault, numeral, numerals}
use Rattle.rewind_script.specs.Order.{may_stand, keyword_of}
use Rattle.rewind_script.specs.Head.{after_region, after_log, after_map}
use Rattle.rewind_script.specs.Lanes.{with_bits, lanes_of, after_lane, after_begin, after_ending}
use Rattle.rewind_script.specs.Commands.{after_put, reached}
use Rattle.rewind_script.specs.Grammar.{Meaning, script, script_from, blank, after_line, after_words, is_whole, meaning_of_reading}
use Rattle.rewind_script.specs.Report.{line}
use Rattle.rewind_script.specs.Generator.{state_after, next_state, drawn, keys_of, put_line, repeated, transaction, transaction_on, lane_text, head_text, generated}
use Rattle.rewind_script.specs.Load.{drawn_list, drawn_put, drawn_transaction, transaction_of_puts, drawn_lane, generated_script}
use Rattle.rewind_script.proofs.Stages.{apart_lane}
use Rattle.rewind_script.proofs.Keeping.{put_second, put_third, put_structure, begin_set, begin_limit, begun, closed, lane_of}
use Rattle.rewind_script.proofs.Plain.{are_small, number-decimal}
use Rattle.rewind_script.proofs.FaultlessTexts.{Passes, pass-nothing, pass-both, pass-line, pass-literal, at}

-- ---- lines

small-cons : (n : ℕ) (numbers : List ℕ) → n < 2 ^ 64 → are_small numbers ≡ true → are_small (n ∷ numbers) ≡ true
small-cons n numbers h rest = ap (λ t. t && are_small numbers) (lt-ltb n (2 ^ 64) h) ∙ rest

numeral-decimal : (n : ℕ) → n < 2 ^ 64 → numeral (decimal n) ≡ Ok n
numeral-decimal n h = ap (or_fault fault.Number) (number-decimal n h)

one_set : (lanes : List LaneText) (items : List Item) (t set s : ℕ) → s < 3 → begin_set (at part.Lane lanes items t set []) (s ∷ []) ≡ begin_limit (at part.Lane lanes items t set []) (2 ^ s)
unfolding with_bits
one_set lanes items t set zero h = refl
one_set lanes items t set (suc zero) h = refl
one_set lanes items t set (suc (suc zero)) h = refl
one_set lanes items t set (suc (suc (suc s))) h = absurd (omega arith)

begin_words : (lanes : List LaneText) (items : List Item) (t set s : ℕ) → s < 3 → t < 65536
    → after_words (at part.Lane lanes items t set []) (codes "begin" ∷ decimal s ∷ []) ≡ Ok (at part.Transaction lanes items (t + 1) (2 ^ s) [])
unfolding after_words keyword_of may_stand after_begin numerals
begin_words lanes items t set s h room =
    let before = at part.Lane lanes items t set [] in
    ap (λ r. (r >>= λ n. Ok (n ∷ [])) >>= begin_set before) (numeral-decimal s (omega (arith, h)))
    ∙ one_set lanes items t set s h
    ∙ ap (λ b. guard b fault.Limit >>= λ _. Ok (begun before (2 ^ s))) (lt-ltb t 65536 room)

put_guards : (b c d : Bool) (after : Reading) → b ≡ true → c ≡ true → d ≡ true
    → (guard b fault.Value >>= λ _. (guard c fault.Key >>= λ _. guard true fault.Held) >>= λ _. guard d fault.Limit >>= λ _. Ok after) ≡ Ok after
put_guards true true true after hb hc hd = refl
put_guards false c d after hb hc hd = cc
put_guards true false d after hb hc hd = cc
put_guards true true false after hb hc hd = cc

put_at : (lanes : List LaneText) (items : List Item) (t s key value : ℕ) (commands : List Command) → s < 3 → (s ≡ 0 → key ≤ 11) → 1 ≤ value → length commands < 256
    → put_structure (at part.Transaction lanes items t (2 ^ s) commands) s key value ≡ Ok (at part.Transaction lanes items t (2 ^ s) (commands ++ command.Put s key value ∷ []))
unfolding reached
put_at lanes items t zero key value commands h low some room =
    put_guards (not (value == 0)) (nat_le key 11) (nat_lt (length commands) 256) _ (ap not (ne_eqb value 0 (λ e. omega (arith, e, some)))) (le-leb key 11 (low refl)) (lt-ltb (length commands) 256 room)
put_at lanes items t (suc zero) key value commands h low some room =
    put_guards (not (value == 0)) true (nat_lt (length commands) 256) _ (ap not (ne_eqb value 0 (λ e. omega (arith, e, some)))) refl (lt-ltb (length commands) 256 room)
put_at lanes items t (suc (suc zero)) key value commands h low some room =
    put_guards (not (value == 0)) true (nat_lt (length commands) 256) _ (ap not (ne_eqb value 0 (λ e. omega (arith, e, some)))) refl (lt-ltb (length commands) 256 room)
put_at lanes items t (suc (suc (suc s))) key value commands h low some room = absurd (omega arith)

put_words : (lanes : List LaneText) (items : List Item) (t s key value : ℕ) (commands : List Command) → s < 3 → (s ≡ 0 → key ≤ 11) → 1 ≤ value → key < 2 ^ 64 → value < 2 ^ 64 → length commands < 256
    → after_words (at part.Transaction lanes items t (2 ^ s) commands) (codes "put" ∷ decimal s ∷ decimal key ∷ decimal value ∷ [])
    ≡ Ok (at part.Transaction lanes items t (2 ^ s) (commands ++ command.Put s key value ∷ []))
unfolding after_words keyword_of may_stand after_put
put_words lanes items t s key value commands h low some key_fits value_fits room =
    let before = at part.Transaction lanes items t (2 ^ s) commands in
    let args = decimal s ∷ decimal key ∷ decimal value ∷ [] in
    ap (λ r. r >>= put_second before args) (numeral-decimal s (omega (arith, h)))
    ∙ ap (λ r. r >>= put_third before args s) (numeral-decimal key key_fits)
    ∙ ap (λ r. r >>= put_structure before s key) (numeral-decimal value value_fits)
    ∙ put_at lanes items t s key value commands h low some room

commit_words : (lanes : List LaneText) (items : List Item) (t set : ℕ) (commands : List Command)
    → after_words (at part.Transaction lanes items t set commands) (codes "commit" ∷ []) ≡ Ok (at part.Lane lanes (items ++ item.Transaction set commands true ∷ []) t set [])
unfolding after_words keyword_of may_stand after_ending
commit_words lanes items t set commands = refl

lane_words : (p : Part) (lanes : List LaneText) (items : List Item) (t set : ℕ) → may_stand p keyword.Lane ≡ true → length (closed p lanes items) < 16
    → after_words (at p lanes items t set []) (codes "lane" ∷ []) ≡ Ok (at part.Lane (closed p lanes items) [] t set [])
unfolding after_words keyword_of after_lane lanes_of
lane_words p lanes items t set may room =
    let before = at p lanes items t set [] in
    ap (λ b. guard b fault.Word >>= λ _. guard (nat_lt (length (closed p lanes items)) 16) fault.Limit >>= λ _. Ok (lane_of before)) may
    ∙ ap (λ b. guard b fault.Limit >>= λ _. Ok (lane_of before)) (lt-ltb (length (closed p lanes items)) 16 room)

-- ---- puts

key_bound : (s d : ℕ) → d % keys_of s < 500
key_bound zero d = omega arith
key_bound (suc s) d = subst (λ (k : ℕ). d % k < 500) (sym (ap (λ b. if b then 12 else 500) (ne_eqb (suc s) 0 (λ e. omega (arith, e))))) (omega arith)

cells_bound : (s d : ℕ) → s ≡ 0 → d % keys_of s ≤ 11
cells_bound zero d e = omega arith
cells_bound (suc s) d e = absurd (omega arith)

put_passes : (s x : ℕ) (lanes : List LaneText) (items : List Item) (t : ℕ) (commands : List Command) → s < 3 → length commands < 256
    → Passes (put_line s x) (at part.Transaction lanes items t (2 ^ s) commands) (at part.Transaction lanes items t (2 ^ s) (commands ++ drawn_put s x ∷ [])) 1
put_passes s x lanes items t commands h room =
    let key = drawn x % keys_of s in
    let value = 1 + drawn (next_state x) % 1000000 in
    let key_fits : key < 2 ^ 64 = omega (arith, key_bound s (drawn x)) in
    let value_fits : value < 2 ^ 64 = omega arith in
    let value_some : 1 ≤ value = omega arith in
    pass-line (codes "put") (s ∷ key ∷ value ∷ []) _ _ (omega arith) refl refl
    (small-cons s (key ∷ value ∷ []) (omega (arith, h)) (small-cons key (value ∷ []) key_fits (small-cons value [] value_fits refl)))
    (put_words lanes items t s key value commands h (cells_bound s (drawn x)) value_some key_fits value_fits room)

puts_pass : (n s x : ℕ) (lanes : List LaneText) (items : List Item) (t : ℕ) (commands : List Command) → s < 3 → length commands + n ≤ 256
    → Passes (repeated (put_line s) 2 n x) (at part.Transaction lanes items t (2 ^ s) commands) (at part.Transaction lanes items t (2 ^ s) (commands ++ drawn_list (drawn_put s) 2 n x)) n
unfolding repeated drawn_list
puts_pass zero s x lanes items t commands h room =
    subst (λ (cs : List Command). Passes [] (at part.Transaction lanes items t (2 ^ s) commands) (at part.Transaction lanes items t (2 ^ s) cs) 0) (sym (append-nil commands))
    (pass-nothing (at part.Transaction lanes items t (2 ^ s) commands))
puts_pass (suc n) s x lanes items t commands h room =
    let one = drawn_put s x in
    let rest = drawn_list (drawn_put s) 2 n (state_after 2 x) in
    let first = put_passes s x lanes items t commands h (omega (arith, room)) in
    let others = puts_pass n s (state_after 2 x) lanes items t (commands ++ one ∷ []) h (omega (arith, room, length-append commands (one ∷ []))) in
    let both = pass-both (put_line s x) (repeated (put_line s) 2 n (state_after 2 x)) _ _ _ 1 n first others in
    let count : 1 + n ≡ suc n = omega arith in
    subst (λ (k : ℕ). Passes (put_line s x ++ repeated (put_line s) 2 n (state_after 2 x)) (at part.Transaction lanes items t (2 ^ s) commands) (at part.Transaction lanes items t (2 ^ s) (commands ++ one ∷ rest)) k) count
    (subst (λ (cs : List Command). Passes (put_line s x ++ repeated (put_line s) 2 n (state_after 2 x)) (at part.Transaction lanes items t (2 ^ s) commands) (at part.Transaction lanes items t (2 ^ s) cs) (1 + n))
    (append_assoc commands (one ∷ []) rest) both)

-- ---- transactions

transaction_on_passes : (s x : ℕ) (lanes : List LaneText) (items : List Item) (t set : ℕ) → s < 3 → t < 65536
    → Passes (transaction_on s x) (at part.Lane lanes items t set []) (at part.Lane lanes (items ++ transaction_of_puts s x ∷ []) (t + 1) (2 ^ s) []) 6
transaction_on_passes s x lanes items t set h room =
    let begins = pass-line (codes "begin") (s ∷ []) (at part.Lane lanes items t set []) (at part.Transaction lanes items (t + 1) (2 ^ s) []) (omega arith) refl refl
    (small-cons s [] (omega (arith, h)) refl) (begin_words lanes items t set s h room) in
    let puts = puts_pass 4 s x lanes items (t + 1) [] h (omega arith) in
    let ends = pass-line (codes "commit") [] (at part.Transaction lanes items (t + 1) (2 ^ s) (drawn_list (drawn_put s) 2 4 x)) (at part.Lane lanes (items ++ transaction_of_puts s x ∷ []) (t + 1) (2 ^ s) []) (omega arith) refl refl refl
    (commit_words lanes items (t + 1) (2 ^ s) (drawn_list (drawn_put s) 2 4 x)) in
    pass-both (line (codes "begin") (s ∷ []) ++ repeated (put_line s) 2 4 x) (line (codes "commit") []) _ _ _ 5 1
    (pass-both (line (codes "begin") (s ∷ [])) (repeated (put_line s) 2 4 x) _ _ _ 1 4 begins puts) ends

transaction_passes : (x : ℕ) (lanes : List LaneText) (items : List Item) (t set : ℕ) → t < 65536
    → Passes (transaction x) (at part.Lane lanes items t set []) (at part.Lane lanes (items ++ drawn_transaction x ∷ []) (t + 1) (2 ^ (drawn x % 3)) []) 6
unfolding transaction
transaction_passes x lanes items t set room = transaction_on_passes (drawn x % 3) (next_state x) lanes items t set (omega arith) room

transactions_pass : (n x : ℕ) (lanes : List LaneText) (items : List Item) (t set : ℕ) → t + n ≤ 65536
    → (last : ℕ) × Passes (repeated transaction 9 n x) (at part.Lane lanes items t set []) (at part.Lane lanes (items ++ drawn_list drawn_transaction 9 n x) (t + n) last []) (6 * n)
unfolding repeated drawn_list
transactions_pass zero x lanes items t set room =
    let none : t ≡ t + zero = omega arith in (
      set,
      subst (λ (k : ℕ). Passes [] (at part.Lane lanes items t set []) (at part.Lane lanes (items ++ []) k set []) 0) none
          (subst (λ (is : List Item). Passes [] (at part.Lane lanes items t set []) (at part.Lane lanes is t set []) 0) (sym (append-nil items))
          (pass-nothing (at part.Lane lanes items t set []))),
    )
transactions_pass (suc n) x lanes items t set room =
    let one = drawn_transaction x in
    let rest = drawn_list drawn_transaction 9 n (state_after 9 x) in
    let text = transaction x ++ repeated transaction 9 n (state_after 9 x) in
    let before = at part.Lane lanes items t set [] in
    let first = transaction_passes x lanes items t set (omega (arith, room)) in
    let others = transactions_pass n (state_after 9 x) lanes (items ++ one ∷ []) (t + 1) (2 ^ (drawn x % 3)) (omega (arith, room)) in
    let both = pass-both (transaction x) (repeated transaction 9 n (state_after 9 x)) _ _ _ 6 (6 * n) first others.1 in
    let lines : 6 + 6 * n ≡ 6 * suc n = omega arith in
    let count : t + 1 + n ≡ t + suc n = omega arith in (
      others.0,
      subst (λ (k : ℕ). Passes text before (at part.Lane lanes (items ++ one ∷ rest) k others.0 []) (6 * suc n)) count
          (subst (λ (k : ℕ). Passes text before (at part.Lane lanes (items ++ one ∷ rest) (t + 1 + n) others.0 []) k) lines
          (subst (λ (is : List Item). Passes text before (at part.Lane lanes is (t + 1 + n) others.0 []) (6 + 6 * n)) (append_assoc items (one ∷ []) rest) both)),
    )

-- ---- lanes

lane_passes : (x : ℕ) (p : Part) (lanes : List LaneText) (items : List Item) (t set : ℕ) → may_stand p keyword.Lane ≡ true → length (closed p lanes items) < 16 → t + 250 ≤ 65536
    → (last : ℕ) × Passes (lane_text x) (at p lanes items t set []) (at part.Lane (closed p lanes items) (drawn_list drawn_transaction 9 250 x) (t + 250) last []) 1501
unfolding lane_text
lane_passes x p lanes items t set may few room =
    let begins = pass-line (codes "lane") [] (at p lanes items t set []) (at part.Lane (closed p lanes items) [] t set []) (omega arith) refl refl refl (lane_words p lanes items t set may few) in
    let others = transactions_pass 250 x (closed p lanes items) [] t set room in
    (others.0, pass-both (line (codes "lane") []) (repeated transaction 9 250 x) _ _ _ 1 1500 begins others.1)

abbrev load_of : List LaneText → Meaning
load_of lanes = record {
  shape = record { policy = 1; cells = 16; buckets = 256; blocks = 2048; structures = 3; format = 2; partitions = 1 };
  kinds = Cells ∷ Tree ∷ Hash ∷ [];
  turns = [];
  lanes = lanes;
  batch = false;
}

record Ends (text : List ℕ) (before : Reading) (lanes : List LaneText) : Type 0 where
  last : Reading
  count : ℕ
  passes : Passes text before last count
  whole : is_whole last ≡ true
  means : meaning_of_reading last ≡ load_of lanes

no_lanes : (x : ℕ) → drawn_list drawn_lane 2250 0 x ≡ []
unfolding drawn_list
no_lanes x = refl

more_lanes : (n x : ℕ) → drawn_list drawn_lane 2250 (suc n) x ≡ drawn_lane x ∷ drawn_list drawn_lane 2250 n (state_after 2250 x)
unfolding drawn_list
more_lanes n x = refl

lanes_end : (n x : ℕ) (p : Part) (lanes : List LaneText) (items : List Item) (t set : ℕ) → may_stand p keyword.Lane ≡ true → length (closed p lanes items) + n ≤ 16 → t + 250 * n ≤ 65536
    → Ends (repeated lane_text 2250 n x) (at p lanes items t set []) (closed p lanes items ++ drawn_list drawn_lane 2250 n x)
unfolding repeated is_whole meaning_of_reading lanes_of may_stand
lanes_end zero x p lanes items t set may few room = record {
  last = at p lanes items t set [];
  count = 0;
  passes = pass-nothing (at p lanes items t set []);
  whole = ap not (apart_lane p may);
  means = ap load_of (sym (append-nil (closed p lanes items)) ∙ ap (λ rest. closed p lanes items ++ rest) (sym (no_lanes x)));
}
lanes_end (suc n) x p lanes items t set may few room =
    let one = drawn_lane x in
    let rest = drawn_list drawn_lane 2250 n (state_after 2250 x) in
    let first = lane_passes x p lanes items t set may (omega (arith, few)) (omega (arith, room)) in
    let others = lanes_end n (state_after 2250 x) part.Lane (closed p lanes items) (drawn_list drawn_transaction 9 250 x) (t + 250) first.0 refl
    (omega (arith, few, length-append (closed p lanes items) (one ∷ []))) (omega (arith, room)) in
    record {
      last = others.last;
      count = 1501 + others.count;
      passes = pass-both (lane_text x) (repeated lane_text 2250 n (state_after 2250 x)) _ _ _ 1501 others.count first.1 others.passes;
      whole = others.whole;
      means = others.means ∙ ap load_of (append_assoc (closed p lanes items) (one ∷ []) rest ∙ ap (λ r. closed p lanes items ++ r) (sym (more_lanes n x)));
    }

-- ---- the head

abbrev headed : Part → ℕ → List Kind → Reading
headed p cells kinds = record {
  part = p;
  policy = Force;
  buckets = 256;
  blocks = 2048;
  cells = cells;
  batch = false;
  partitions = 1;
  kinds = kinds;
  turns = [];
  total = 0;
  lanes = [];
  items = [];
  transactions = 0;
  set = 0;
  commands = [];
}

first_head : after_line blank (codes "region force 256 2048") ≡ Ok (headed part.Region 1 [])
unfolding blank after_line words after_words keyword_of may_stand after_region number spelled
first_head = refl

second_head : after_line (headed part.Region 1 []) (codes "log bucket") ≡ Ok (headed part.Log 16 [])
unfolding after_line words after_words keyword_of may_stand after_log
second_head = refl

third_head : after_line (headed part.Log 16 []) (codes "map cells") ≡ Ok (headed part.Maps 16 (Cells ∷ []))
unfolding after_line words after_words keyword_of may_stand after_map
third_head = refl

fourth_head : after_line (headed part.Maps 16 (Cells ∷ [])) (codes "map tree") ≡ Ok (headed part.Maps 16 (Cells ∷ Tree ∷ []))
unfolding after_line words after_words keyword_of may_stand after_map
fourth_head = refl

fifth_head : after_line (headed part.Maps 16 (Cells ∷ Tree ∷ [])) (codes "map hash") ≡ Ok (headed part.Maps 16 (Cells ∷ Tree ∷ Hash ∷ []))
unfolding after_line words after_words keyword_of may_stand after_map
fifth_head = refl

head_passes : Passes head_text blank (at part.Maps [] [] 0 0 []) 5
head_passes =
    let one = pass-literal (codes "region force 256 2048") blank (headed part.Region 1 []) refl first_head in
    let two = pass-literal (codes "log bucket") (headed part.Region 1 []) (headed part.Log 16 []) refl second_head in
    let three = pass-literal (codes "map cells") (headed part.Log 16 []) (headed part.Maps 16 (Cells ∷ [])) refl third_head in
    let four = pass-literal (codes "map tree") (headed part.Maps 16 (Cells ∷ [])) (headed part.Maps 16 (Cells ∷ Tree ∷ [])) refl fourth_head in
    let five = pass-literal (codes "map hash") (headed part.Maps 16 (Cells ∷ Tree ∷ [])) (headed part.Maps 16 (Cells ∷ Tree ∷ Hash ∷ [])) refl fifth_head in
    pass-both (codes "region force 256 2048\n") (codes "log bucket\nmap cells\nmap tree\nmap hash\n") _ _ _ 1 4 one
    (pass-both (codes "log bucket\n") (codes "map cells\nmap tree\nmap hash\n") _ _ _ 1 3 two
    (pass-both (codes "map cells\n") (codes "map tree\nmap hash\n") _ _ _ 1 2 three
    (pass-both (codes "map tree\n") (codes "map hash\n") _ _ _ 1 1 four five)))

whole_end : (n : ℕ) (last : Reading) (meaning : Meaning) → is_whole last ≡ true → meaning_of_reading last ≡ meaning → script_from n last (lines []) ≡ Ok meaning
unfolding script_from
whole_end n last meaning whole means = ap (λ b. if b then Ok (meaning_of_reading last) else Err (Line n fault.Unfinished)) whole ∙ ap Ok means

-- The text of each seed is a script.
pub generated_is_script : (seed : ℕ) → script (generated seed) ≡ Ok (generated_script seed)
unfolding script generated may_stand
generated_is_script seed =
    let text = repeated lane_text 2250 4 seed in
    let ends = lanes_end 4 seed part.Maps [] [] 0 0 refl (omega arith) (omega arith) in
    head_passes.reads 1 text
    ∙ ap (λ t. script_from 6 (at part.Maps [] [] 0 0 []) (lines t)) (sym (append-nil text))
    ∙ ends.passes.reads 6 []
    ∙ whole_end (6 + ends.count) ends.last (generated_script seed) ends.whole ends.means
