-- What was written reads as what it was written of.
use Rattle.std.proofs.Common.{◌≡◌, ℕ, suc, ◌+◌, ◌-◌, ◌<◌, ◌≤◌, ◌^◌, List, [], ◌∷◌, ◌++◌, length, get_or, refl, sym, ◌∙◌, ap, arith, cond, Bool, true, false, ◌&&◌, ◌||◌, ◌==◌, Some, Result, Ok, codes, nat_lt, nat_le, lt-ltb, le-leb, ne_eqb, eq-eqb, append_assoc, append-nil, length-append, ⊎_elim, replicate}
use Rattle.std.specs.Fmt.{decimal}
use Rattle.persist_model.specs.declared.format.TheConstants.{MAX_WORDS}
use Rattle.std.proofs.lemmas.Bool.{cases_lt}
use Rattle.std.proofs.lemmas.List.{replicate_more, length-replicate}
use Rattle.region_layout.specs.declared.layout.Kind.{Kind}
use Rattle.region_layout.specs.declared.layout.Kind.TheVariants.{Cells, Tree, Hash}
use Rattle.image_text.specs.declared.image.Image.{Image}
use Rattle.image_text.specs.declared.image.TextFault.{TextFault}
use Rattle.image_text.specs.declared.draft.Part.TheVariants as part
use Rattle.image_text.specs.declared.draft.Draft.{Draft}
use Rattle.image_text.specs.Text.{hexadecimal}
use Rattle.image_text.specs.Grammar.{◌>>=◌}
use Rattle.image_text.specs.Reading.{guard, has_maps, padded, with_entry, with_size, with_map, with_word, with_end, after_line, blank_draft, image_of, image_from, image}
use Rattle.image_text.specs.Written.{size_line, kind_line, kind_lines, word_line, word_lines, image_lines, image_text, IsWritable}
use Rattle.image_text.proofs.Digits.{decimal_digits, hexadecimal_digits}
use Rattle.image_text.proofs.Feeds.{AllLack, AllLack-append, lacks-append, digits_lack, lines-text_of}
use Rattle.image_text.proofs.Entries.{entry_of-size, entry_of-kind, entry_of-end, entry_of-word}
use Rattle.image_text.proofs.Steps.{goes_on}

-- ---- no line has a line feed

size_lacks : (n : ℕ) → n < 2 ^ 64 → AllLack 10 (size_line n ∷ [])
unfolding size_line
size_lacks n small = (lacks-append 10 (codes "image ") (decimal n) refl (digits_lack 10 10 (decimal n) (omega arith) refl (decimal_digits n small)), tt)

kinds_lack : (kinds : List Kind) → AllLack 10 (kind_lines kinds)
kinds_lack [] = tt
kinds_lack (Cells ∷ kinds) = (refl, kinds_lack kinds)
kinds_lack (Tree ∷ kinds) = (refl, kinds_lack kinds)
kinds_lack (Hash ∷ kinds) = (refl, kinds_lack kinds)

word_lacks : (a v : ℕ) → a < 2 ^ 64 → AllLack 10 (word_line a v ∷ [])
unfolding word_line
word_lacks a v small = (
  lacks-append 10 (decimal a) (32 ∷ hexadecimal 16 v) (digits_lack 10 10 (decimal a) (omega arith) refl (decimal_digits a small))
      (digits_lack 16 10 (hexadecimal 16 v) (omega arith) refl (hexadecimal_digits 16 v)),
  tt,
)

words_lack : (a : ℕ) (words : List ℕ) → a + length words ≤ MAX_WORDS → AllLack 10 (word_lines a words)
unfolding word_lines
words_lack a [] small = tt
words_lack a (v ∷ words) small =
    let rest : AllLack 10 (word_lines (a + 1) words) = words_lack (a + 1) words (omega arith) in
    elim (v == 0) as (λ b. AllLack 10 (cond b (word_lines (a + 1) words) (word_line a v ∷ word_lines (a + 1) words))) [
      | true ↦ rest
      | false ↦ ((word_lacks a v (omega arith)).0, rest)
    ]

-- ---- the size and the maps

-- the size and some maps have been read
abbrev mapped : ℕ → List Kind → Draft
mapped size kinds = record { part = part.Maps; size = size; kinds = kinds; words = [] }

size_read : (n : ℕ) → n ≤ MAX_WORDS → after_line blank_draft (size_line n) ≡ Some (mapped n [])
unfolding after_line with_size
size_read n small =
    ap (λ e. e >>= with_entry blank_draft) (entry_of-size n (omega arith))
    ∙ ap (λ b. guard b >>= λ _. Some (mapped n [])) (le-leb n MAX_WORDS small)

map_read : (size : ℕ) (kinds : List Kind) (kind : Kind) → length kinds < 8 → after_line (mapped size kinds) (kind_line kind) ≡ Some (mapped size (kinds ++ kind ∷ []))
unfolding after_line with_map
map_read size kinds kind few =
    ap (λ e. e >>= with_entry (mapped size kinds)) (entry_of-kind kind)
    ∙ ap (λ b. guard b >>= λ _. Some (mapped size (kinds ++ kind ∷ []))) (lt-ltb (length kinds) 8 few)

maps_read : (n size : ℕ) (kinds more : List Kind) (rest : List (List ℕ)) → length kinds + length more ≤ 8
    → image_from n (mapped size kinds) (kind_lines more ++ rest) ≡ image_from (n + length more) (mapped size (kinds ++ more)) rest
maps_read n size kinds [] rest few =
    let same : n ≡ n + 0 = omega arith in
    ap (λ m. image_from m (mapped size kinds) rest) same ∙ ap (λ ks. image_from (n + 0) (mapped size ks) rest) (sym (append-nil kinds))
maps_read n size kinds (kind ∷ more) rest few =
    let same : n + 1 + length more ≡ n + suc (length more) = omega arith in
    goes_on n (mapped size kinds) (mapped size (kinds ++ kind ∷ [])) (kind_line kind) (kind_lines more ++ rest) (map_read size kinds kind (omega arith))
    ∙ maps_read (n + 1) size (kinds ++ kind ∷ []) more rest (omega (arith, length-append kinds (kind ∷ [])))
    ∙ ap (λ m. image_from m (mapped size ((kinds ++ kind ∷ []) ++ more)) rest) same
    ∙ ap (λ ks. image_from (n + suc (length more)) (mapped size ks) rest) (append_assoc kinds (kind ∷ []) more)

-- ---- the words

padded_more : (a : ℕ) (words : List ℕ) → length words ≤ a → padded (a + 1) words ≡ padded a words ++ 0 ∷ []
padded_more a words within =
    let more : a + 1 - length words ≡ a - length words + 1 = omega arith in
    ap (λ n. words ++ replicate n 0) more
    ∙ ap (λ zeros. words ++ zeros) (sym (replicate_more (a - length words) 0))
    ∙ sym (append_assoc words (replicate (a - length words) 0) (0 ∷ []))

length-padded : (a : ℕ) (words : List ℕ) → length words ≤ a → length (padded a words) ≡ a
length-padded a words within = omega (arith, length-append words (replicate (a - length words) 0), length-replicate {A = ℕ} (a - length words) 0)

padded_same : (words : List ℕ) → padded (length words) words ≡ words
padded_same words =
    let none : length words - length words ≡ 0 = omega arith in
    ap (λ n. words ++ replicate n 0) none ∙ append-nil words

-- the draft after a word
abbrev with : Draft → ℕ → ℕ → Draft
with draft a v = record draft { part = part.Words; words = padded a draft.words ++ v ∷ [] }

all_three : (b c d : Bool) → b ≡ true → c ≡ true → d ≡ true → (b && (c && d)) ≡ true
all_three true true d e f g = g
all_three true false d e f g = absurd cc
all_three false c d e f g = absurd cc

word_read : (draft : Draft) (a v : ℕ) → has_maps draft ≡ true → length draft.words ≤ a → a < draft.size → a < 10 ^ 7 → v < 2 ^ 64
    → after_line draft (word_line a v) ≡ Some (with draft a v)
unfolding after_line with_word
word_read draft a v maps behind within small fits =
    ap (λ e. e >>= with_entry draft) (entry_of-word a v small fits)
    ∙ ap (λ b. guard b >>= λ _. Some (with draft a v))
    (all_three (has_maps draft) (nat_le (length draft.words) a) (nat_lt a draft.size) maps (le-leb _ _ behind) (lt-ltb _ _ within))

end_read : (n : ℕ) (draft : Draft) → has_maps draft ≡ true
    → image_from n draft (codes "end" ∷ []) ≡ Ok (record { kinds = draft.kinds; words = padded draft.size draft.words })
unfolding after_line with_end image_from image_of
end_read n draft maps =
    let ended : Draft = record draft { part = part.Done } in
    goes_on n draft ended (codes "end") []
    (ap (λ e. e >>= with_entry draft) entry_of-end ∙ ap (λ b. guard b >>= λ _. Some ended) maps)

-- these values are at most 64 bits
record Fit (words : List ℕ) : Type 0 where
  each : (k : ℕ) → k < length words → get_or words k 0 < 2 ^ 64

words_read : (n a : ℕ) (draft : Draft) (words : List ℕ) → has_maps draft ≡ true → length draft.words ≤ a → a + length words ≡ draft.size → draft.size ≤ MAX_WORDS → Fit words
    → image_from n draft (word_lines a words ++ codes "end" ∷ []) ≡ Ok (record { kinds = draft.kinds; words = padded a draft.words ++ words })
unfolding word_lines
words_read n a draft [] maps behind ends small fit =
    let here : draft.size ≡ a = omega arith in
    end_read n draft maps
    ∙ ap (λ size. Ok (record { kinds = draft.kinds; words = padded size draft.words })) here
    ∙ ap (λ ws. Ok (record { kinds = draft.kinds; words = ws })) (sym (append-nil (padded a draft.words)))
words_read n a draft (v ∷ words) maps behind ends small fit =
    ⊎_elim
    (λ (none : v < 1).
    let zero_is : v ≡ 0 = omega arith in
    ap (λ b. image_from n draft (cond b (word_lines (a + 1) words) (word_line a v ∷ word_lines (a + 1) words) ++ codes "end" ∷ [])) (eq-eqb v 0 zero_is)
    ∙ words_read n (a + 1) draft words maps (omega arith) (omega arith) small rest_fits
    ∙ ap (λ ws. image_ok (ws ++ words)) (padded_more a draft.words behind)
    ∙ ap image_ok (append_assoc (padded a draft.words) (0 ∷ []) words)
    ∙ ap (λ z. image_ok (padded a draft.words ++ z ∷ words)) (sym zero_is))
    (λ (some : 1 ≤ v).
    let next = with draft a v in
    let long : length next.words ≡ a + 1 = omega (arith, length-append (padded a draft.words) (v ∷ []), length-padded a draft.words behind) in
    ap (λ b. image_from n draft (cond b (word_lines (a + 1) words) (word_line a v ∷ word_lines (a + 1) words) ++ codes "end" ∷ [])) (ne_eqb v 0 (λ e. omega arith))
    ∙ goes_on n draft next (word_line a v) (word_lines (a + 1) words ++ codes "end" ∷ [])
    (word_read draft a v maps behind (omega arith) (omega arith) (fit.each 0 (omega arith)))
    ∙ words_read (n + 1) (a + 1) next words refl (omega arith) (omega arith) small rest_fits
    ∙ ap (λ m. image_ok (padded m next.words ++ words)) (sym long)
    ∙ ap (λ ws. image_ok (ws ++ words)) (padded_same next.words)
    ∙ ap image_ok (append_assoc (padded a draft.words) (v ∷ []) words))
    (cases_lt v 1)
  where
    image_ok : List ℕ → Result Image TextFault
    image_ok ws = Ok (record { kinds = draft.kinds; words = ws })

    rest_fits : Fit words
    rest_fits = record { each = λ k h. fit.each (suc k) (omega arith) }

-- ---- the whole

pub written_read : (kinds : List Kind) (words : List ℕ) → IsWritable kinds words → image (image_text kinds words) ≡ Ok (record { kinds = kinds; words = words })
unfolding image image_lines
written_read kinds words h =
    let size = length words in
    let few : size ≤ MAX_WORDS = h.small in
    let ls = image_lines kinds words in
    let end = codes "end" ∷ [] in
    let lack : AllLack 10 ls = (
      (size_lacks size (omega arith)).0,
      AllLack-append 10 (kind_lines kinds) (word_lines 0 words ++ end) (kinds_lack kinds)
          (AllLack-append 10 (word_lines 0 words) end (words_lack 0 words (omega arith)) (refl, tt)),
    ) in
    let maps : has_maps (mapped size kinds) ≡ true = ap (λ b. b || false) (lt-ltb 0 (length kinds) h.some) in
    let fit : Fit words = record { each = h.fit } in
    ap (image_from 1 blank_draft) (lines-text_of ls lack)
    ∙ goes_on 1 blank_draft (mapped size []) (size_line size) (kind_lines kinds ++ (word_lines 0 words ++ end)) (size_read size few)
    ∙ maps_read 2 size [] kinds (word_lines 0 words ++ end) (omega (arith, h.few))
    ∙ words_read (2 + length kinds) 0 (mapped size kinds) words maps (omega arith) (omega arith) few fit
