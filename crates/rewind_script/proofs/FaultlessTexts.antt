-- Texts that a reading goes over without a fault.
use Rattle.std.proofs.Common.{◌≡◌, ℕ, ◌+◌, ◌<◌, List, [], ◌∷◌, ◌++◌, length, refl, ◌∙◌, ap, arith, true, false, ◌&&◌, ◌||◌, ◌==◌, map, append_assoc, if◌then◌else◌, decimal, Ok}
use Rattle.std.specs.List.{list_all, slice_index}
use Rattle.std.specs.Str.Lines.{lines}
use Rattle.region_layout.specs.declared.layout.Policy.TheVariants.{Force}
use Rattle.region_layout.specs.declared.layout.Kind.TheVariants.{Cells, Tree, Hash}
use Rattle.rewind_script.specs.declared.fault.Fault.TheVariants as fault
use Rattle.rewind_script.specs.declared.script.Command.{Command}
use Rattle.rewind_script.specs.declared.script.Item.{Item}
use Rattle.rewind_script.specs.declared.script.LaneText.{LaneText}
use Rattle.rewind_script.specs.declared.read.reading.Part.{Part}
use Rattle.rewind_script.specs.declared.read.reading.Reading.{Reading}
use Rattle.rewind_script.specs.Steps.{◌>>=◌, guard}
use Rattle.rewind_script.specs.Grammar.{script_from, after_line, after_words, is_passed_over, is_text_byte}
use Rattle.rewind_script.specs.Report.{line}
use Rattle.rewind_script.proofs.Scripts.{goes_on}
use Rattle.rewind_script.proofs.Stages.{both}
use Rattle.rewind_script.proofs.Plain.{is_visible, is_printable, body, are_small, first_line, words-body, body_printable}

-- after the text the one reading is the other, so many lines later
pub record Passes (text : List ℕ) (before after : Reading) (count : ℕ) : Type 0 where
  pub reads : (n : ℕ) (rest : List ℕ) → script_from n before (lines (text ++ rest)) ≡ script_from (n + count) after (lines rest)

pub pass-nothing : (reading : Reading) → Passes [] reading reading 0
pass-nothing reading = record { reads = λ n rest. let e : n ≡ n + 0 = omega arith in ap (λ k. script_from k reading (lines rest)) e }

pub pass-both : (first second : List ℕ) (a b c : Reading) (j k : ℕ) → Passes first a b j → Passes second b c k → Passes (first ++ second) a c (j + k)
pass-both first second a b c j k one two = record {
  reads = λ n rest.
      let count : n + j + k ≡ n + (j + k) = omega arith in
      ap (λ t. script_from n a (lines t)) (append_assoc first second rest)
      ∙ one.reads n (second ++ rest) ∙ two.reads (n + j) rest ∙ ap (λ m. script_from m c (lines rest)) count;
}

-- a line of a word and numbers
line_is : (word numbers rest : List ℕ) → line word numbers ++ rest ≡ body word numbers ++ 10 ∷ rest
line_is word numbers rest = append_assoc (body word numbers) (10 ∷ []) rest

text_byte : (b : ℕ) → is_printable b ≡ true → is_text_byte b ≡ true
text_byte b h = ap (λ t. t || b == 9) h

all_text : (bs : List ℕ) → list_all is_printable bs ≡ true → list_all is_text_byte bs ≡ true
all_text [] h = refl
all_text (b ∷ bs) h =
    let parts = both (is_printable b) (list_all is_printable bs) h in
    ap (λ t. t && list_all is_text_byte bs) (text_byte b parts.0) ∙ all_text bs parts.1

pub pass-line : (word numbers : List ℕ) (before after : Reading) → 0 < length word → list_all is_visible word ≡ true → (slice_index word 0 == 35) ≡ false → are_small numbers ≡ true
    → after_words before (word ∷ map decimal numbers) ≡ Ok after → Passes (line word numbers) before after 1
unfolding after_line
pass-line word numbers before after some visible plain small step = record {
  reads = λ n rest.
      let printable = body_printable word numbers visible small in
      let found = words-body word numbers some visible small in
      let read : after_line before (body word numbers) ≡ Ok after =
      ap (λ ws. if is_passed_over ws then Ok before else (guard (list_all is_text_byte (body word numbers)) fault.Byte >>= λ _. after_words before ws)) found
      ∙ ap (λ t. if t then Ok before else (guard (list_all is_text_byte (body word numbers)) fault.Byte >>= λ _. after_words before (word ∷ map decimal numbers))) plain
      ∙ ap (λ t. guard t fault.Byte >>= λ _. after_words before (word ∷ map decimal numbers)) (all_text (body word numbers) printable)
      ∙ step in
      ap (λ t. script_from n before (lines t)) (line_is word numbers rest)
      ∙ ap (script_from n before) (first_line (body word numbers) rest printable)
      ∙ goes_on n before after (body word numbers) (lines rest) read;
}

-- ---- the readings of a generated text

abbrev pub at : Part → List LaneText → List Item → ℕ → ℕ → List Command → Reading
at p lanes items transactions set commands = record {
  part = p;
  policy = Force;
  buckets = 256;
  blocks = 2048;
  cells = 16;
  batch = false;
  partitions = 1;
  kinds = Cells ∷ Tree ∷ Hash ∷ [];
  turns = [];
  total = 0;
  lanes = lanes;
  items = items;
  transactions = transactions;
  set = set;
  commands = commands;
}

-- a line that is known
pub pass-literal : (bs : List ℕ) (before after : Reading) → list_all is_printable bs ≡ true → after_line before bs ≡ Ok after → Passes (bs ++ 10 ∷ []) before after 1
pass-literal bs before after printable step = record {
  reads = λ n rest.
      ap (λ t. script_from n before (lines t)) (append_assoc bs (10 ∷ []) rest)
      ∙ ap (script_from n before) (first_line bs rest printable)
      ∙ goes_on n before after bs (lines rest) step;
}
