-- The grammar of image texts: what each line says, which lines make a text, and which line is the first that breaks it.
use Rattle.std.specs.Prelude.{◌≡◌, ◌⊎◌, ℕ, ◌+◌, ◌<◌, ◌≤◌, List, [], ◌∷◌, ◌++◌, length, ◌==◌, Option, Some, None, if◌then◌else◌, codes, map, slice_index}
use Rattle.std.specs.List.{before_first, after_first}
use Rattle.std.specs.Str.{bytes_eq}
use Rattle.persist_model.specs.declared.format.TheConstants.{MAX_WORDS}
use Rattle.region_layout.specs.declared.layout.Kind.{Kind}
use Rattle.region_layout.specs.declared.layout.Kind.TheVariants.{Cells, Tree, Hash}
use Rattle.image_text.specs.declared.image.Image.{Image}
use Rattle.image_text.specs.declared.entry.Entry.{Entry}
use Rattle.image_text.specs.declared.entry.Entry.TheVariants.{Size, Map, Word, End}
use Rattle.image_text.specs.declared.draft.TheConstants.{MAX_KINDS}
use Rattle.image_text.specs.Text.{is_space, lines, number_of, value_of}

infixl 10 ◌>>=◌
abbrev pub ◌>>=◌ : {A B : Type 0} → Option A → (A → Option B) → Option B
None >>= f = None
(Some x) >>= f = f x

-- the first, or where it is none the second
abbrev pub otherwise : {A : Type 0} → Option A → Option A → Option A
otherwise None y = y
otherwise (Some x) y = Some x

-- ---- a line

abbrev pub kind_of : List ℕ → Option Kind
kind_of word =
    if bytes_eq word (codes "cells") then Some Cells else
    (if bytes_eq word (codes "tree") then Some Tree else
    (if bytes_eq word (codes "hash") then Some Hash else None))

-- A V
unfoldable pub word_entry : List ℕ → List ℕ → Option Entry
word_entry name rest = do
  address ← number_of name
  value ← value_of rest
  Some (Word address value)

-- image W, or map KIND
unfoldable pub named_entry : List ℕ → List ℕ → Option Entry
named_entry name rest =
    if bytes_eq name (codes "image") then (number_of rest >>= λ size. Some (Size size)) else
    (if bytes_eq name (codes "map") then (kind_of rest >>= λ kind. Some (Map kind)) else None)

-- end
abbrev pub end_entry : List ℕ → Option Entry
end_entry line = if bytes_eq line (codes "end") then Some End else None

-- What a line says, by what stands before and after its first space. Neither a number nor a kind has a space, so a line has one at most.
unfoldable pub entry_of : List ℕ → Option Entry
entry_of line =
    otherwise (word_entry (before_first is_space line) (after_first is_space line))
    (otherwise (named_entry (before_first is_space line) (after_first is_space line)) (end_entry line))

-- ---- the lines together

-- a word that a line names
pub record NamedWord : Type 0 where
  pub address : ℕ
  pub value : ℕ

abbrev pub entry_of_word : NamedWord → Entry
entry_of_word word = Word word.address word.value

-- The number of words, the maps, the words that lines name, and the end.
abbrev pub entries : ℕ → List Kind → List NamedWord → List Entry
entries size kinds named = Size size ∷ (map Map kinds ++ (map entry_of_word named ++ End ∷ []))

-- The addresses rise, from this one on and below the number of words.
abbrev pub Rise : ℕ → ℕ → List NamedWord → Type 0
Rise least size [] = Unit {0}
Rise least size (word ∷ named) = (least ≤ word.address) × (word.address < size) × Rise (word.address + 1) size named

-- the value that a line names for this address, and 0 where none does
abbrev pub value_at : ℕ → List NamedWord → ℕ
value_at a [] = 0
value_at a (word ∷ named) = if word.address == a then word.value else value_at a named

-- These lines say one to eight maps and these words: each line its part, in order, and nothing else.
pub record AreLinesOf (ls : List (List ℕ)) (kinds : List Kind) (words : List ℕ) : Type 0 where
  pub named : List NamedWord
  pub say : map entry_of ls ≡ map Some (entries (length words) kinds named)
  pub small : length words ≤ MAX_WORDS
  pub some : 1 ≤ length kinds
  pub few : length kinds ≤ MAX_KINDS
  pub rise : Rise 0 (length words) named
  pub values : (a : ℕ) → slice_index words a ≡ value_at a named

-- The text of an image of these kinds and words.
abbrev pub IsImageText : List ℕ → List Kind → List ℕ → Type 0
IsImageText text kinds words = AreLinesOf (lines text) kinds words

abbrev pub IsTextOf : List ℕ → Image → Type 0
IsTextOf text i = IsImageText text i.kinds i.words

-- ---- the first wrong line

-- the lines of some image
abbrev pub AreWhole : List (List ℕ) → Type 0
AreWhole ls = (kinds : List Kind) × (words : List ℕ) × AreLinesOf ls kinds words

-- With some lines behind them they are the lines of an image.
abbrev pub AreBeginning : List (List ℕ) → Type 0
AreBeginning ls = (rest : List (List ℕ)) × AreWhole (ls ++ rest)

-- Line n, from 1, is the first that breaks the grammar: the lines before it begin an image text, and with it they don't. Or the
-- lines end too early, and n is the number of the line that is missing.
pub data AreBrokenAt (ls : List (List ℕ)) (n : ℕ) : Type 0 where
  wrong : (before rest : List (List ℕ)) (line : List ℕ) → ls ≡ before ++ line ∷ rest → n ≡ length before + 1
      → AreBeginning before → (AreBeginning (before ++ line ∷ []) → ⊥) → AreBrokenAt ls n
  cut : n ≡ length ls + 1 → AreBeginning ls → (AreWhole ls → ⊥) → AreBrokenAt ls n

-- The text is no image text, and this line is the first that breaks the grammar.
abbrev pub BreaksAt : List ℕ → ℕ → Type 0
BreaksAt text n = AreBrokenAt (lines text) n

-- ---- what holds of all texts

-- Each text is that of an image or breaks at a line.
abbrev pub HasMeaning : Type 0
HasMeaning = (text : List ℕ) → ((kinds : List Kind) × (words : List ℕ) × IsImageText text kinds words) ⊎ ((n : ℕ) × BreaksAt text n)

-- It is that of one image at most,
abbrev pub SaysOneImage : Type 0
SaysOneImage = (text : List ℕ) (kinds others : List Kind) (words other_words : List ℕ) → IsImageText text kinds words → IsImageText text others other_words
    → (kinds ≡ others) × (words ≡ other_words)

-- breaks at one line at most,
abbrev pub BreaksAtOneLine : Type 0
BreaksAtOneLine = (text : List ℕ) (m n : ℕ) → BreaksAt text m → BreaksAt text n → m ≡ n

-- and isn't both.
abbrev pub BreaksNowhere : Type 0
BreaksNowhere = (text : List ℕ) (kinds : List Kind) (words : List ℕ) (n : ℕ) → IsImageText text kinds words → BreaksAt text n → ⊥
