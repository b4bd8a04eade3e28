-- The text of an image.
use Rattle.std.specs.Prelude.{ℕ, ◌+◌, ◌<◌, ◌≤◌, ◌^◌, List, [], ◌∷◌, ◌++◌, length, ◌==◌, if◌then◌else◌, codes, decimal, map, slice_index}
use Rattle.persist_model.specs.declared.format.TheConstants.{MAX_WORDS}
use Rattle.region_layout.specs.declared.layout.Kind.{Kind}
use Rattle.region_layout.specs.declared.layout.Kind.TheVariants.{Cells, Tree, Hash}
use Rattle.image_text.specs.declared.draft.TheConstants.{MAX_KINDS}
use Rattle.image_text.specs.Text.{text_of, hexadecimal}
use Rattle.image_text.specs.Grammar.{IsImageText}

-- image W
unfoldable pub size_line : ℕ → List ℕ
size_line size = codes "image " ++ decimal size

abbrev pub kind_line : Kind → List ℕ
kind_line Cells = codes "map cells"
kind_line Tree = codes "map tree"
kind_line Hash = codes "map hash"

abbrev pub kind_lines : List Kind → List (List ℕ)
kind_lines kinds = map kind_line kinds

-- A V
unfoldable pub word_line : ℕ → ℕ → List ℕ
word_line address value = decimal address ++ 32 ∷ hexadecimal 16 value

-- a line for each of these words that isn't 0, the first of which has this address
unfoldable pub word_lines : ℕ → List ℕ → List (List ℕ)
word_lines address [] = []
word_lines address (value ∷ words) =
    if value == 0 then word_lines (address + 1) words else word_line address value ∷ word_lines (address + 1) words

-- The number of words, the maps, the words that aren't 0, and the end.
unfoldable pub image_lines : List Kind → List ℕ → List (List ℕ)
image_lines kinds words = size_line (length words) ∷ (kind_lines kinds ++ (word_lines 0 words ++ codes "end" ∷ []))

abbrev pub image_text : List Kind → List ℕ → List ℕ
image_text kinds words = text_of (image_lines kinds words)

-- An image that a text can have.
pub record IsWritable (kinds : List Kind) (words : List ℕ) : Type 0 where
  pub some : 1 ≤ length kinds
  pub few : length kinds ≤ MAX_KINDS
  pub small : length words ≤ MAX_WORDS
  pub fit : (a : ℕ) → a < length words → slice_index words a < 2 ^ 64

-- What is written of an image is its text.
abbrev pub WrittenReads : Type 0
WrittenReads = (kinds : List Kind) (words : List ℕ) → IsWritable kinds words → IsImageText (image_text kinds words) kinds words

-- What a text says can be written.
abbrev pub ReadIsWritable : Type 0
ReadIsWritable = (text : List ℕ) (kinds : List Kind) (words : List ℕ) → IsImageText text kinds words → IsWritable kinds words
