-- What the reader holds behind some lines, by what they say.
use Rattle.std.proofs.Common.{◌≡◌, ℕ, ◌+◌, ◌<◌, ◌≤◌, List, [], ◌∷◌, ◌++◌, length, refl, sym, ◌∙◌, ap, subst, arith, map, Bool, true, false, ◌&&◌, ◌||◌, Option, Some, None, nat_lt, nat_le, lt-ltb, le-leb, ltb-true, leb-true, append_assoc, append-nil, length-append}
use Rattle.std.proofs.lemmas.List.{map-append}
use Rattle.persist_model.specs.declared.format.TheConstants.{MAX_WORDS}
use Rattle.region_layout.specs.declared.layout.Kind.{Kind}
use Rattle.image_text.specs.declared.entry.Entry.{Entry}
use Rattle.image_text.specs.declared.entry.Entry.TheVariants.{Size, Map, Word, End}
use Rattle.image_text.specs.declared.draft.Part.{Part}
use Rattle.image_text.specs.declared.draft.Part.TheVariants as part
use Rattle.image_text.specs.declared.draft.Draft.{Draft}
use Rattle.image_text.specs.Grammar.{◌>>=◌, NamedWord, entry_of_word, entries, Rise}
use Rattle.image_text.specs.Reading.{guard, is_start, is_maps, has_maps, is_next_word, with_size, with_map, with_word, with_end, with_entry, blank_draft}
use Rattle.image_text.proofs.Saying.{after_entries}
use Rattle.image_text.proofs.Naming.{with_named, worded, worded-push, worded_size, worded_part, worded_maps, Rise-push, length-with_named}

-- the size and some maps have been read
abbrev pub mapped : ℕ → List Kind → Draft
mapped size kinds = record { part = part.Maps; size = size; kinds = kinds; words = [] }

-- and some words
abbrev pub opened : ℕ → List Kind → List NamedWord → Draft
opened size kinds named = worded (mapped size kinds) named

-- and the end
abbrev pub ended : ℕ → List Kind → List NamedWord → Draft
ended size kinds named = record (opened size kinds named) { part = part.Done }

-- what is said before the end
abbrev pub opening : ℕ → List Kind → List NamedWord → List Entry
opening size kinds named = Size size ∷ (map Map kinds ++ map entry_of_word named)

-- ---- what an image says is taken

size_taken : (size : ℕ) → size ≤ MAX_WORDS → with_size blank_draft size ≡ Some (mapped size [])
unfolding with_size
size_taken size small = ap (λ b. guard b >>= λ _. Some (mapped size [])) (le-leb size MAX_WORDS small)

map_taken : (size : ℕ) (kinds : List Kind) (kind : Kind) → length kinds < 8 → with_map (mapped size kinds) kind ≡ Some (mapped size (kinds ++ kind ∷ []))
unfolding with_map
map_taken size kinds kind few = ap (λ b. guard b >>= λ _. Some (mapped size (kinds ++ kind ∷ []))) (lt-ltb (length kinds) 8 few)

all_three : (b c d : Bool) → b ≡ true → c ≡ true → d ≡ true → (b && (c && d)) ≡ true
all_three true true d e f g = g
all_three true false d e f g = absurd cc
all_three false c d e f g = absurd cc

word_taken : (draft : Draft) (word : NamedWord) → has_maps draft ≡ true → length draft.words ≤ word.address → word.address < draft.size
    → with_word draft word.address word.value ≡ Some (with_named draft word)
unfolding with_word
word_taken draft word maps behind within =
    ap (λ b. guard b >>= λ _. Some (with_named draft word))
    (all_three (has_maps draft) (nat_le (length draft.words) word.address) (nat_lt word.address draft.size) maps (le-leb _ _ behind) (lt-ltb _ _ within))

end_taken : (draft : Draft) → has_maps draft ≡ true → with_end draft ≡ Some (record draft { part = part.Done })
unfolding with_end
end_taken draft maps = ap (λ b. guard b >>= λ _. Some (record draft { part = part.Done })) maps

maps_taken : (size : ℕ) (kinds more : List Kind) (es : List Entry) → length kinds + length more ≤ 8
    → after_entries (mapped size kinds) (map Map more ++ es) ≡ after_entries (mapped size (kinds ++ more)) es
maps_taken size kinds [] es few = ap (λ (ks : List Kind). after_entries (mapped size ks) es) (sym (append-nil kinds))
maps_taken size kinds (kind ∷ more) es few =
    ap (λ (o : Option Draft). o >>= λ next. after_entries next (map Map more ++ es)) (map_taken size kinds kind (omega arith))
    ∙ maps_taken size (kinds ++ kind ∷ []) more es (omega (arith, length-append kinds (kind ∷ [])))
    ∙ ap (λ (ks : List Kind). after_entries (mapped size ks) es) (append_assoc kinds (kind ∷ []) more)

words_taken : (draft : Draft) (named : List NamedWord) (es : List Entry) → has_maps draft ≡ true → Rise (length draft.words) draft.size named
    → after_entries draft (map entry_of_word named ++ es) ≡ after_entries (worded draft named) es
words_taken draft [] es maps h = refl
words_taken draft (word ∷ named) es maps h =
    ap (λ (o : Option Draft). o >>= λ next. after_entries next (map entry_of_word named ++ es)) (word_taken draft word maps h.0 h.1)
    ∙ words_taken (with_named draft word) named es refl (subst (λ n. Rise n draft.size named) (sym (length-with_named draft word h.0)) h.2)

pub all_taken : (size : ℕ) (kinds : List Kind) (named : List NamedWord) → size ≤ MAX_WORDS → 1 ≤ length kinds → length kinds ≤ 8 → Rise 0 size named
    → after_entries blank_draft (entries size kinds named) ≡ Some (ended size kinds named)
all_taken size kinds named small some few rise =
    let maps : has_maps (mapped size kinds) ≡ true = ap (λ b. b || false) (lt-ltb 0 (length kinds) some) in
    ap (λ (o : Option Draft). o >>= λ next. after_entries next (map Map kinds ++ (map entry_of_word named ++ End ∷ []))) (size_taken size small)
    ∙ maps_taken size [] kinds (map entry_of_word named ++ End ∷ []) (omega (arith, few))
    ∙ words_taken (mapped size kinds) named (End ∷ []) maps rise
    ∙ ap (λ (o : Option Draft). o >>= λ next. Some next) (end_taken (opened size kinds named) (worded_maps (mapped size kinds) named maps))

-- ---- what was taken begins an image

pub data Leads (es : List Entry) (draft : Draft) : Type 0 where
  at_start : es ≡ [] → draft ≡ blank_draft → Leads es draft
  under_way : (size : ℕ) (kinds : List Kind) (named : List NamedWord) → es ≡ opening size kinds named → draft ≡ opened size kinds named
      → size ≤ MAX_WORDS → length kinds ≤ 8 → (1 ≤ length named → 1 ≤ length kinds) → Rise 0 size named → Leads es draft
  at_end : (size : ℕ) (kinds : List Kind) (named : List NamedWord) → es ≡ entries size kinds named → draft ≡ ended size kinds named
      → size ≤ MAX_WORDS → 1 ≤ length kinds → length kinds ≤ 8 → Rise 0 size named → Leads es draft

guarded : (b : Bool) (x next : Draft) → (guard b >>= λ _. Some x) ≡ Some next → (b ≡ true) × (x ≡ next)
guarded true x next e = (refl, same x next e)
  where
    same : (x y : Draft) → Some x ≡ Some y → x ≡ y
    same x y e = cc
guarded false x next e = absurd (none_some next e)
  where
    none_some : (y : Draft) → None ≡ Some y → ⊥
    none_some y e = cc

both_true : (b c : Bool) → (b && c) ≡ true → (b ≡ true) × (c ≡ true)
both_true true c e = (refl, e)
both_true false c e = absurd cc

none : false ≡ true → ⊥
none e = cc

-- ---- the start

from_start : (e : Entry) (next : Draft) → with_entry blank_draft e ≡ Some next → Leads (e ∷ []) next
unfolding with_size with_map with_word with_end
from_start (Size size) next h =
    let step = guarded (nat_le size MAX_WORDS) (mapped size []) next h in
    under_way size [] [] refl (sym step.1) (leb-true size MAX_WORDS step.0) (omega arith) (λ l. absurd (omega (arith, l))) tt
from_start (Map kind) next h = absurd (none (guarded false (record blank_draft { kinds = kind ∷ [] }) next h).0)
from_start (Word a v) next h = absurd (none (guarded false (with_named blank_draft (record { address = a; value = v })) next h).0)
from_start End next h = absurd (none (guarded false (record blank_draft { part = part.Done }) next h).0)

-- ---- under way

-- the part is that of maps or of words
pub part_under_way : (size : ℕ) (kinds : List Kind) (named : List NamedWord) (P : Part → Type 0) → (named ≡ [] → P part.Maps) → (1 ≤ length named → P part.Words) → P (opened size kinds named).part
part_under_way size kinds [] P maps words = maps refl
part_under_way size kinds (word ∷ named) P maps words = subst P (sym (worded_part (with_named (mapped size kinds) word) named refl)) (words (omega arith))

no_size : (size more : ℕ) (kinds : List Kind) (named : List NamedWord) → (is_start (opened size kinds named).part && nat_le more MAX_WORDS) ≡ true → ⊥
no_size size more kinds named = part_under_way size kinds named (λ p. (is_start p && nat_le more MAX_WORDS) ≡ true → ⊥) (λ e h. none h) (λ l h. none h)

maps_first : (size : ℕ) (kinds : List Kind) (named : List NamedWord) → is_maps (opened size kinds named).part ≡ true → named ≡ []
maps_first size kinds named = part_under_way size kinds named (λ p. is_maps p ≡ true → named ≡ []) (λ e h. e) (λ l h. absurd (none h))

some_maps : (size : ℕ) (kinds : List Kind) (named : List NamedWord) → (1 ≤ length named → 1 ≤ length kinds) → has_maps (opened size kinds named) ≡ true → 1 ≤ length kinds
some_maps size kinds [] some h = ltb-true 0 (length kinds) (one_of (nat_lt 0 (length kinds)) h)
  where
    one_of : (b : Bool) → (b || false) ≡ true → b ≡ true
    one_of true e = refl
    one_of false e = e
some_maps size kinds (word ∷ named) some h = some (omega arith)

module _ (size : ℕ) (kinds : List Kind) (named : List NamedWord) (small : size ≤ MAX_WORDS) (few : length kinds ≤ 8) (some : 1 ≤ length named → 1 ≤ length kinds) (rise : Rise 0 size named) where
  one_map : (kind : Kind) (next : Draft) → with_map (opened size kinds named) kind ≡ Some next → Leads (opening size kinds named ++ Map kind ∷ []) next
  unfolding with_map
  one_map kind next h =
      let draft = opened size kinds named in
      let step = guarded (is_maps draft.part && nat_lt (length draft.kinds) 8) (record draft { kinds = draft.kinds ++ kind ∷ [] }) next h in
      let tests = both_true (is_maps draft.part) (nat_lt (length draft.kinds) 8) step.0 in
      by_named named (maps_first size kinds named tests.0) (ltb-true (length draft.kinds) 8 tests.1) step.1
    where
      said : Size size ∷ ((map Map kinds ++ []) ++ Map kind ∷ []) ≡ opening size (kinds ++ kind ∷ []) []
      said = ap (λ (es : List Entry). Size size ∷ (es ++ Map kind ∷ [])) (append-nil (map Map kinds))
          ∙ ap (λ (es : List Entry). Size size ∷ es) (sym (map-append Map kinds (kind ∷ [])))
          ∙ ap (λ (es : List Entry). Size size ∷ es) (sym (append-nil (map Map (kinds ++ kind ∷ []))))

      by_named : (ws : List NamedWord) → ws ≡ [] → length (opened size kinds ws).kinds < 8 → record (opened size kinds ws) { kinds = (opened size kinds ws).kinds ++ kind ∷ [] } ≡ next
          → Leads (opening size kinds ws ++ Map kind ∷ []) next
      by_named [] e less is =
          under_way size (kinds ++ kind ∷ []) [] said (sym is) small (omega (arith, less, length-append kinds (kind ∷ []))) (λ l. absurd (omega (arith, l))) tt
      by_named (w ∷ ws) e less is = absurd (no_cons w ws e)
        where
          no_cons : (x : NamedWord) (xs : List NamedWord) → x ∷ xs ≡ [] → ⊥
          no_cons x xs h = cc

  one_word : (word : NamedWord) (next : Draft) → with_word (opened size kinds named) word.address word.value ≡ Some next
      → Leads (opening size kinds named ++ entry_of_word word ∷ []) next
  unfolding with_word
  one_word word next h =
      let draft = opened size kinds named in
      let step = guarded (is_next_word draft word.address) (with_named draft word) next h in
      let maps = both_true (has_maps draft) (nat_le (length draft.words) word.address && nat_lt word.address draft.size) step.0 in
      let tests = both_true (nat_le (length draft.words) word.address) (nat_lt word.address draft.size) maps.1 in
      let size_is = worded_size (mapped size kinds) named in
      under_way size kinds (named ++ word ∷ []) said (sym step.1 ∙ sym (worded-push (mapped size kinds) named word)) small few
      (λ l. some_maps size kinds named some maps.0)
      (Rise-push (mapped size kinds) named word rise (leb-true _ _ tests.0) (omega (arith, ltb-true _ _ tests.1, size_is)))
    where
      said : opening size kinds named ++ entry_of_word word ∷ [] ≡ opening size kinds (named ++ word ∷ [])
      said = ap (λ (es : List Entry). Size size ∷ es) (append_assoc (map Map kinds) (map entry_of_word named) (entry_of_word word ∷ [])
          ∙ ap (λ (es : List Entry). map Map kinds ++ es) (sym (map-append entry_of_word named (word ∷ []))))

  one_end : (next : Draft) → with_end (opened size kinds named) ≡ Some next → Leads (opening size kinds named ++ End ∷ []) next
  unfolding with_end
  one_end next h =
      let draft = opened size kinds named in
      let step = guarded (has_maps draft) (record draft { part = part.Done }) next h in
      at_end size kinds named (ap (λ (es : List Entry). Size size ∷ es) (append_assoc (map Map kinds) (map entry_of_word named) (End ∷ []))) (sym step.1) small
      (some_maps size kinds named some step.0) few rise

  from_opened : (e : Entry) (next : Draft) → with_entry (opened size kinds named) e ≡ Some next → Leads (opening size kinds named ++ e ∷ []) next
  unfolding with_size
  from_opened (Size more) next h =
      let draft = opened size kinds named in
      absurd (no_size size more kinds named (guarded (is_start draft.part && nat_le more MAX_WORDS) (record draft { part = part.Maps; size = more }) next h).0)
  from_opened (Map kind) next h = one_map kind next h
  from_opened (Word a v) next h = one_word (record { address = a; value = v }) next h
  from_opened End next h = one_end next h

  nothing_behind : (e : Entry) (next : Draft) → with_entry (ended size kinds named) e ≡ Some next → ⊥
  unfolding with_size with_map with_word with_end
  nothing_behind (Size more) next h = none (guarded false (record (ended size kinds named) { part = part.Maps; size = more }) next h).0
  nothing_behind (Map kind) next h = none (guarded false (record (ended size kinds named) { kinds = (ended size kinds named).kinds ++ kind ∷ [] }) next h).0
  nothing_behind (Word a v) next h = none (guarded false (with_named (ended size kinds named) (record { address = a; value = v })) next h).0
  nothing_behind End next h = none (guarded false (ended size kinds named) next h).0

step : (es : List Entry) (draft next : Draft) (e : Entry) → Leads es draft → with_entry draft e ≡ Some next → Leads (es ++ e ∷ []) next
step es draft next e (at_start said is) h =
    subst (λ (xs : List Entry). Leads (xs ++ e ∷ []) next) (sym said) (from_start e next (ap (λ (d : Draft). with_entry d e) (sym is) ∙ h))
step es draft next e (under_way size kinds named said is small few some rise) h =
    subst (λ (xs : List Entry). Leads (xs ++ e ∷ []) next) (sym said)
    (from_opened size kinds named small few some rise e next (ap (λ (d : Draft). with_entry d e) (sym is) ∙ h))
step es draft next e (at_end size kinds named said is small some few rise) h =
    absurd (nothing_behind size kinds named small few (λ l. some) rise e next (ap (λ (d : Draft). with_entry d e) (sym is) ∙ h))

pub leads : (es more : List Entry) (draft last : Draft) → Leads es draft → after_entries draft more ≡ Some last → Leads (es ++ more) last
leads es [] draft last so_far h =
    let same = inner draft last h in
    subst (λ (xs : List Entry). Leads xs last) (sym (append-nil es)) (subst (Leads es) same so_far)
  where
    inner : (x y : Draft) → Some x ≡ Some y → x ≡ y
    inner x y e = cc
leads es (e ∷ more) draft last so_far h =
    by_step (with_entry draft e) (λ next is. step es draft next e so_far is) (λ next lead k. leads (es ++ e ∷ []) more next last lead k) h
  where
    by_step : (o : Option Draft) → ((next : Draft) → o ≡ Some next → Leads (es ++ e ∷ []) next)
        → ((next : Draft) → Leads (es ++ e ∷ []) next → after_entries next more ≡ Some last → Leads ((es ++ e ∷ []) ++ more) last)
        → (o >>= λ next. after_entries next more) ≡ Some last → Leads (es ++ e ∷ more) last
    by_step None one rest h = absurd (none_some last h)
      where
        none_some : (y : Draft) → None ≡ Some y → ⊥
        none_some y e = cc
    by_step (Some next) one rest h = subst (λ (xs : List Entry). Leads xs last) (append_assoc es (e ∷ []) more) (rest next (one next refl) h)
