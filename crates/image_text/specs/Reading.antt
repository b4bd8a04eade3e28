-- How a text is read: what has been read of it, line by line, and what the reader answers.
use Rattle.std.specs.Prelude.{◌≡◌, ℕ, ◌+◌, ◌-◌, List, [], ◌∷◌, ◌++◌, length, Bool, true, false, ◌&&◌, ◌||◌, nat_lt, nat_le, Option, Some, None, Result, Ok, Err, if◌then◌else◌, replicate}
use Rattle.persist_model.specs.declared.format.TheConstants.{MAX_WORDS}
use Rattle.region_layout.specs.declared.layout.Kind.{Kind}
use Rattle.image_text.specs.declared.image.Image.{Image}
use Rattle.image_text.specs.declared.image.TextFault.{TextFault}
use Rattle.image_text.specs.declared.image.TextFault.TheVariants.{Line, NoMemory}
use Rattle.image_text.specs.declared.entry.Entry.{Entry}
use Rattle.image_text.specs.declared.entry.Entry.TheVariants.{Size, Map, Word, End}
use Rattle.image_text.specs.declared.draft.Part.{Part}
use Rattle.image_text.specs.declared.draft.Part.TheVariants as part
use Rattle.image_text.specs.declared.draft.Draft.{Draft}
use Rattle.image_text.specs.declared.draft.TheConstants.{MAX_KINDS}
use Rattle.image_text.specs.declared.refusal.Refusal.{Refusal}
use Rattle.image_text.specs.declared.refusal.Refusal.TheVariants as refusal
use Rattle.image_text.specs.Text.{lines}
use Rattle.image_text.specs.Grammar.{◌>>=◌, entry_of}

abbrev pub guard : Bool → Option (Unit {0})
guard true = Some tt
guard false = None

abbrev pub is_start : Part → Bool
is_start part.Start = true
is_start _ = false

abbrev pub is_maps : Part → Bool
is_maps part.Maps = true
is_maps _ = false

abbrev pub is_words : Part → Bool
is_words part.Words = true
is_words _ = false

abbrev pub is_done : Part → Bool
is_done part.Done = true
is_done _ = false

-- the words, with zeros behind them up to this address
abbrev pub padded : ℕ → List ℕ → List ℕ
padded size words = words ++ replicate (size - length words) 0

-- a word or the end may follow
abbrev pub has_maps : Draft → Bool
has_maps draft = (is_maps draft.part && nat_lt 0 (length draft.kinds)) || is_words draft.part

-- The first line says the number of words.
unfoldable pub with_size : Draft → ℕ → Option Draft
with_size draft size = do
  _ ← guard (is_start draft.part && nat_le size MAX_WORDS)
  Some (record draft { part = part.Maps; size = size })

-- Then come up to eight maps.
unfoldable pub with_map : Draft → Kind → Option Draft
with_map draft kind = do
  _ ← guard (is_maps draft.part && nat_lt (length draft.kinds) MAX_KINDS)
  Some (record draft { kinds = draft.kinds ++ kind ∷ [] })

abbrev pub is_next_word : Draft → ℕ → Bool
is_next_word draft address = has_maps draft && (nat_le (length draft.words) address && nat_lt address draft.size)

-- Then words, each at a higher address than the one before. Those between them are 0.
unfoldable pub with_word : Draft → ℕ → ℕ → Option Draft
with_word draft address value = do
  _ ← guard (is_next_word draft address)
  Some (record draft { part = part.Words; words = padded address draft.words ++ value ∷ [] })

-- And then the end.
unfoldable pub with_end : Draft → Option Draft
with_end draft = do
  _ ← guard (has_maps draft)
  Some (record draft { part = part.Done })

abbrev pub with_entry : Draft → Entry → Option Draft
with_entry draft (Size size) = with_size draft size
with_entry draft (Map kind) = with_map draft kind
with_entry draft (Word address value) = with_word draft address value
with_entry draft End = with_end draft

-- what has been read, with one more line
unfoldable pub after_line : Draft → List ℕ → Option Draft
after_line draft line = entry_of line >>= with_entry draft

-- nothing has been read
abbrev pub blank_draft : Draft
blank_draft = record { part = part.Start; size = 0; kinds = []; words = [] }

-- the image of what has been read; a text that hasn't ended is wrong in its next line, which has this number
unfoldable pub image_of : ℕ → Draft → Result Image TextFault
image_of number draft = if is_done draft.part then Ok (record { kinds = draft.kinds; words = padded draft.size draft.words }) else Err (Line number)

abbrev pub at_line : ℕ → Option Draft → (Draft → Result Image TextFault) → Result Image TextFault
at_line number None next = Err (Line number)
at_line number (Some draft) next = next draft

-- the image of what has been read and of the lines that follow, the first of which has this number
unfoldable pub image_from : ℕ → Draft → List (List ℕ) → Result Image TextFault
image_from number draft [] = image_of number draft
image_from number draft (line ∷ rest) = at_line number (after_line draft line) (λ next. image_from (number + 1) next rest)

-- What a text means: an image, or the first line that breaks the grammar.
unfoldable pub image : List ℕ → Result Image TextFault
image text = image_from 1 blank_draft (lines text)

-- ---- what the reader answers

-- What a step answered is what the grammar says, unless memory ran out.
abbrev pub Fails : Refusal → Option Draft → Type 0
Fails refusal.Line step = step ≡ None
Fails refusal.Memory step = Unit {0}

abbrev pub Moves : Result (Unit {0}) Refusal → Draft → Option Draft → Type 0
Moves (Ok x) draft step = step ≡ Some draft
Moves (Err e) draft step = Fails e step

abbrev pub fault_at : ℕ → Refusal → TextFault
fault_at number refusal.Line = Line number
fault_at number refusal.Memory = NoMemory

-- What the reader answered is what the text means, unless memory ran out.
abbrev pub Reads : Result Image TextFault → Result Image TextFault → Type 0
Reads (Err NoMemory) meaning = Unit {0}
Reads (Err (Line line)) meaning = meaning ≡ Err (Line line)
Reads (Ok found) meaning = meaning ≡ Ok found
