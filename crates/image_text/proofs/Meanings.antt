-- The grammar of image texts is what the reader reads.
use Rattle.std.proofs.Common.{◌≡◌, ◌⊎◌, inl, inr, ℕ, ◌+◌, ◌≤◌, List, [], ◌∷◌, ◌++◌, length, get_or, slice_index, refl, sym, ◌∙◌, ap, subst, arith, cond, map, Bool, true, false, Option, Some, None, Result, Ok, Err, codes, append_assoc, append-nil}
use Rattle.persist_model.specs.declared.format.TheConstants.{MAX_WORDS}
use Rattle.region_layout.specs.declared.layout.Kind.{Kind}
use Rattle.region_layout.specs.declared.layout.Kind.TheVariants.{Cells}
use Rattle.image_text.specs.declared.image.Image.{Image}
use Rattle.image_text.specs.declared.image.TextFault.{TextFault}
use Rattle.image_text.specs.declared.image.TextFault.TheVariants.{Line, NoMemory}
use Rattle.image_text.specs.declared.entry.Entry.{Entry}
use Rattle.image_text.specs.declared.entry.Entry.TheVariants.{Size, Map, End}
use Rattle.image_text.specs.declared.draft.Draft.{Draft}
use Rattle.image_text.specs.Text.{lines}
use Rattle.image_text.specs.Grammar.{◌>>=◌, entry_of, NamedWord, entry_of_word, entries, Rise, value_at, AreLinesOf, IsImageText, AreWhole, AreBeginning, wrong, cut, BreaksAt, HasMeaning, SaysOneImage, BreaksAtOneLine, BreaksNowhere}
use Rattle.image_text.specs.Reading.{padded, is_done, with_entry, after_line, blank_draft, image_of, image_from, image, Reads}
use Rattle.image_text.specs.Written.{size_line, kind_line, image_text, IsWritable, WrittenReads}
use Rattle.std.specs.Result.{IfOk}
use Rattle.image_text.proofs.Bounds.{read_is_writable}
use Rattle.image_text.proofs.Entries.{entry_of-size, entry_of-kind, entry_of-end}
use Rattle.image_text.proofs.Saying.{Say, say_of, of_say, Say-append, after_lines, as_entries, lines-append, some_bind, all_right, first_wrong, Course, right, broken, course}
use Rattle.image_text.proofs.Naming.{worded_size, worded_kinds, worded_within, length-padded, get_or-padded, get_or-worded, value_or_none, same_words}
use Rattle.image_text.proofs.Parsed.{mapped, ended, opening, part_under_way, all_taken, Leads, at_start, under_way, at_end, leads}
use Rattle.image_text.proofs.RoundTrip.{written_read}

-- ---- the words of a draft that has ended

abbrev last_words : Draft → List ℕ
last_words draft = padded draft.size draft.words

module _ (size : ℕ) (kinds : List Kind) (named : List NamedWord) (rise : Rise 0 size named) where
  within : length (ended size kinds named).words ≤ (ended size kinds named).size
  within =
      let size_is = worded_size (mapped size kinds) named in
      omega (arith, size_is, worded_within (mapped size kinds) named rise (omega arith))

  pub long_is : length (last_words (ended size kinds named)) ≡ size
  long_is = length-padded (ended size kinds named).size (ended size kinds named).words within ∙ worded_size (mapped size kinds) named

  pub values_are : (a : ℕ) → get_or (last_words (ended size kinds named)) a 0 ≡ value_at a named
  values_are a = get_or-padded (ended size kinds named).size a (ended size kinds named).words within ∙ get_or-worded (mapped size kinds) named a rise ∙ value_or_none a named

-- ---- what an image text is read as

pub whole_read : (ls : List (List ℕ)) (kinds : List Kind) (words : List ℕ) → AreLinesOf ls kinds words
    → (last : Draft) × (after_lines blank_draft ls ≡ Some last) × (image_of (1 + length ls) last ≡ Ok (record { kinds = kinds; words = words }))
unfolding image_of
whole_read ls kinds words h =
    let size = length words in
    let last = ended (length words) kinds h.named in
    let same : last_words (ended (length words) kinds h.named) ≡ words =
    same_words (last_words last) words (λ a. value_at a h.named) (long_is (length words) kinds h.named h.rise) (values_are (length words) kinds h.named h.rise) h.values in (
      ended (length words) kinds h.named,
      as_entries blank_draft ls (entries (length words) kinds h.named) (say_of ls (entries (length words) kinds h.named) h.say)
          ∙ all_taken (length words) kinds h.named h.small h.some h.few h.rise,
      ap (λ (ks : List Kind). image_by ks (last_words last)) (worded_kinds (mapped (length words) kinds) h.named) ∙ ap (λ (ws : List ℕ). image_by kinds ws) same,
    )
  where
    image_by : List Kind → List ℕ → Result Image TextFault
    image_by ks ws = Ok (record { kinds = ks; words = ws })

pub image_read : (text : List ℕ) (kinds : List Kind) (words : List ℕ) → IsImageText text kinds words → image text ≡ Ok (record { kinds = kinds; words = words })
unfolding image
image_read text kinds words h =
    let read = whole_read (lines text) kinds words h in
    all_right 1 blank_draft read.0 (lines text) read.1 ∙ read.2

-- what begins an image text is read
beginning_read : (ls : List (List ℕ)) → AreBeginning ls → (last : Draft) × (after_lines blank_draft ls ≡ Some last)
beginning_read ls h =
    let read = whole_read (ls ++ h.0) h.1.0 h.1.1 h.1.2 in
    let part = some_bind (after_lines blank_draft ls) (λ next. after_lines next h.0) read.0 (sym (lines-append blank_draft ls h.0) ∙ read.1) in
    (part.0, part.1)

-- ---- what is read is an image text, or begins one

-- a line that was read says something
entry_read : (o : Option Entry) (f : Entry → Option Draft) (d : Draft) → (o >>= f) ≡ Some d → (e : Entry) × (o ≡ Some e)
entry_read None f d h = absurd (none_some d h)
  where
    none_some : (y : Draft) → None ≡ Some y → ⊥
    none_some y e = cc
entry_read (Some e) f d h = (e, refl)

-- and so do lines
said : (draft last : Draft) (ls : List (List ℕ)) → after_lines draft ls ≡ Some last → (es : List Entry) × Say ls es
unfolding after_line
said draft last [] h = ([], tt)
said draft last (line ∷ ls) h =
    let step = some_bind (after_line draft line) (λ next. after_lines next ls) last h in
    let first = entry_read (entry_of line) (with_entry draft) step.0 step.1 in
    let rest = said step.0 last ls step.2 in
    (first.0 ∷ rest.0, (first.1, rest.1))

lead : (last : Draft) (ls : List (List ℕ)) → after_lines blank_draft ls ≡ Some last → (es : List Entry) × Say ls es × Leads es last
lead last ls h =
    let what = said blank_draft last ls h in
    (what.0, what.1, leads [] what.0 blank_draft last (at_start refl refl) (sym (as_entries blank_draft ls what.0 what.1) ∙ h))

-- ---- an image text

whole_by : (ls : List (List ℕ)) (size : ℕ) (kinds : List Kind) (named : List NamedWord) (words : List ℕ) → length words ≡ size → Say ls (entries size kinds named)
    → size ≤ MAX_WORDS → 1 ≤ length kinds → length kinds ≤ 8 → Rise 0 size named → ((a : ℕ) → slice_index words a ≡ value_at a named) → AreLinesOf ls kinds words
whole_by ls size kinds named words long says small some few rise values = record {
  named = named;
  say = subst (λ n. map entry_of ls ≡ map Some (entries n kinds named)) (sym long) (of_say ls (entries size kinds named) says);
  small = omega (arith, long, small);
  some = some;
  few = few;
  rise = subst (λ n. Rise 0 n named) (sym long) rise;
  values = values;
}

ended_whole : (ls : List (List ℕ)) (size : ℕ) (kinds : List Kind) (named : List NamedWord) → Say ls (entries size kinds named)
    → size ≤ MAX_WORDS → 1 ≤ length kinds → length kinds ≤ 8 → Rise 0 size named → AreLinesOf ls kinds (last_words (ended size kinds named))
ended_whole ls size kinds named says small some few rise =
    whole_by ls size kinds named (last_words (ended size kinds named)) (long_is size kinds named rise) says small some few rise (values_are size kinds named rise)

-- ---- a beginning

says_end : Say (codes "end" ∷ []) (End ∷ [])
says_end = (entry_of-end, tt)

open_begins : (ls : List (List ℕ)) (size : ℕ) (kinds : List Kind) (named : List NamedWord) → Say ls (opening size kinds named)
    → size ≤ MAX_WORDS → 1 ≤ length kinds → length kinds ≤ 8 → Rise 0 size named → AreBeginning ls
open_begins ls size kinds named says small some few rise =
    let whole : Say (ls ++ codes "end" ∷ []) (entries size kinds named) =
    subst (Say (ls ++ codes "end" ∷ [])) (ap (λ (es : List Entry). Size size ∷ es) (append_assoc (map Map kinds) (map entry_of_word named) (End ∷ [])))
    (Say-append ls (codes "end" ∷ []) (opening size kinds named) (End ∷ []) says says_end) in
    (codes "end" ∷ [], (kinds, last_words (ended size kinds named), ended_whole (ls ++ codes "end" ∷ []) size kinds named whole small some few rise))

-- more lines in front of what completes them
begins_more : (ls more : List (List ℕ)) → AreBeginning (ls ++ more) → AreBeginning ls
begins_more ls more h = (more ++ h.0, (h.1.0, h.1.1, subst (λ (xs : List (List ℕ)). AreLinesOf xs h.1.0 h.1.1) (append_assoc ls more h.0) h.1.2))

no_map_begins : (ls : List (List ℕ)) (size : ℕ) → Say ls (opening size [] []) → size ≤ MAX_WORDS → AreBeginning ls
no_map_begins ls size says small =
    begins_more ls (kind_line Cells ∷ []) (open_begins (ls ++ kind_line Cells ∷ []) size (Cells ∷ []) []
    (Say-append ls (kind_line Cells ∷ []) (Size size ∷ []) (Map Cells ∷ []) says (entry_of-kind Cells, tt)) small (omega arith) (omega arith) tt)

start_begins : (ls : List (List ℕ)) → Say ls [] → AreBeginning ls
start_begins ls says =
    begins_more ls (size_line 0 ∷ []) (no_map_begins (ls ++ size_line 0 ∷ []) 0 (Say-append ls (size_line 0 ∷ []) [] (Size 0 ∷ []) says (entry_of-size 0 (omega arith), tt)) (omega arith))

lead_begins : (ls : List (List ℕ)) (es : List Entry) (last : Draft) → Say ls es → Leads es last → AreBeginning ls
lead_begins ls es last says (at_start e is) = start_begins ls (subst (Say ls) e says)
lead_begins ls es last says (under_way size [] [] e is small few some rise) = no_map_begins ls size (subst (Say ls) e says) small
lead_begins ls es last says (under_way size [] (word ∷ named) e is small few some rise) =
    let none = some (omega arith) in absurd (omega (arith, none))
lead_begins ls es last says (under_way size (kind ∷ kinds) named e is small few some rise) =
    open_begins ls size (kind ∷ kinds) named (subst (Say ls) e says) small (omega arith) few rise
lead_begins ls es last says (at_end size kinds named e is small some few rise) = (
  [],
  (
    kinds,
    last_words (ended size kinds named),
    subst (λ (xs : List (List ℕ)). AreLinesOf xs kinds (last_words (ended size kinds named))) (sym (append-nil ls)) (ended_whole ls size kinds named (subst (Say ls) e says) small some few rise),
  ),
)

read_begins : (last : Draft) (ls : List (List ℕ)) → after_lines blank_draft ls ≡ Some last → AreBeginning ls
read_begins last ls h = let l = lead last ls h in lead_begins ls l.0 last l.1 l.2

-- ---- a draft that has ended, and one that hasn't

lead_ended : (ls : List (List ℕ)) (es : List Entry) (last : Draft) → Say ls es → Leads es last → is_done last.part ≡ true → AreLinesOf ls last.kinds (last_words last)
lead_ended ls es last says (at_start e is) done = absurd (not_done (ap (λ (d : Draft). is_done d.part) (sym is) ∙ done))
  where
    not_done : false ≡ true → ⊥
    not_done h = cc
lead_ended ls es last says (under_way size kinds named e is small few some rise) done =
    absurd (part_under_way size kinds named (λ p. is_done p ≡ true → ⊥) (λ x h. not_done h) (λ x h. not_done h) (ap (λ (d : Draft). is_done d.part) (sym is) ∙ done))
  where
    not_done : false ≡ true → ⊥
    not_done h = cc
lead_ended ls es last says (at_end size kinds named e is small some few rise) done =
    subst (λ (d : Draft). AreLinesOf ls d.kinds (last_words d)) (sym is)
    (subst (λ (ks : List Kind). AreLinesOf ls ks (last_words (ended size kinds named))) (sym (worded_kinds (mapped size kinds) named))
    (ended_whole ls size kinds named (subst (Say ls) e says) small some few rise))

-- ---- what a text means

abbrev whole_image : (kinds : List Kind) (words : List ℕ) → Result Image TextFault
whole_image kinds words = Ok (record { kinds = kinds; words = words })

-- an image and its text, or a fault and its line
pub data Verdict (text : List ℕ) : Type 0 where
  says : (kinds : List Kind) (words : List ℕ) → IsImageText text kinds words → image text ≡ Ok (record { kinds = kinds; words = words }) → Verdict text
  breaks : (n : ℕ) → BreaksAt text n → image text ≡ Err (Line n) → Verdict text

same_draft : (x y : Draft) → Some x ≡ Some y → x ≡ y
same_draft x y e = cc

ok_err : (i : Image) (n : ℕ) → ◌≡◌ {A = Result Image TextFault} (Ok i) (Err (Line n)) → ⊥
ok_err i n e = cc

err_ok : (n : ℕ) (i : Image) → ◌≡◌ {A = Result Image TextFault} (Err (Line n)) (Ok i) → ⊥
err_ok n i e = cc

ok_ok : (x y : Image) → ◌≡◌ {A = Result Image TextFault} (Ok x) (Ok y) → x ≡ y
ok_ok x y e = cc

err_err : (m n : ℕ) → ◌≡◌ {A = Result Image TextFault} (Err (Line m)) (Err (Line n)) → m ≡ n
err_err m n e = cc

-- lines that were read to their end without one
not_whole : (last : Draft) (ls : List (List ℕ)) → after_lines blank_draft ls ≡ Some last → is_done last.part ≡ false → AreWhole ls → ⊥
unfolding image_of
not_whole last ls h open_one whole =
    let read = whole_read ls whole.0 whole.1 whole.2 in
    let same : last ≡ read.0 = same_draft last read.0 (sym h ∙ read.1) in
    let ends = ap (λ (d : Draft). image_of (1 + length ls) d) same ∙ read.2 in
    err_ok (1 + length ls) (record { kinds = whole.0; words = whole.1 })
    (sym (ap (λ b. cond b (whole_image last.kinds (last_words last)) (Err (Line (1 + length ls)))) open_one) ∙ ends)

-- a line that isn't read ends the beginning
not_beginning : (last : Draft) (before : List (List ℕ)) (line : List ℕ) → after_lines blank_draft before ≡ Some last → after_line last line ≡ None
    → AreBeginning (before ++ line ∷ []) → ⊥
not_beginning last before line h none begins =
    let read = beginning_read (before ++ line ∷ []) begins in
    none_some read.0
    (sym (lines-append blank_draft before (line ∷ [])
    ∙ ap (λ (o : Option Draft). o >>= λ next. after_lines next (line ∷ [])) h
    ∙ ap (λ (o : Option Draft). o >>= λ next. Some next) none) ∙ read.1)
  where
    none_some : (y : Draft) → None ≡ Some y → ⊥
    none_some y e = cc

pub verdict : (text : List ℕ) → Verdict text
unfolding image image_of
verdict text = by_course (course blank_draft (lines text))
  where
    at_last : (last : Draft) → after_lines blank_draft (lines text) ≡ Some last → (b : Bool) → is_done last.part ≡ b → Verdict text
    at_last last h true done =
        let l = lead last (lines text) h in
        says last.kinds (last_words last) (lead_ended (lines text) l.0 last l.1 l.2 done)
        (all_right 1 blank_draft last (lines text) h ∙ ap (λ b. cond b (whole_image last.kinds (last_words last)) (Err (Line (1 + length (lines text))))) done)
    at_last last h false open_one =
        breaks (1 + length (lines text))
        (cut (omega arith) (read_begins last (lines text) h) (not_whole last (lines text) h open_one))
        (all_right 1 blank_draft last (lines text) h ∙ ap (λ b. cond b (whole_image last.kinds (last_words last)) (Err (Line (1 + length (lines text))))) open_one)

    by_course : Course blank_draft (lines text) → Verdict text
    by_course (right last h) = at_last last h (is_done last.part) refl
    by_course (broken last before rest line parts h none) =
        breaks (1 + length before)
        (wrong before rest line parts (omega arith) (read_begins last before h) (not_beginning last before line h none))
        (ap (image_from 1 blank_draft) parts ∙ first_wrong 1 blank_draft last before rest line h none)

-- ---- both are the same

pub image_says : (text : List ℕ) (i : Image) → image text ≡ Ok i → IsImageText text i.kinds i.words
image_says text i h = by_verdict (verdict text)
  where
    by_verdict : Verdict text → IsImageText text i.kinds i.words
    by_verdict (says kinds words is e) =
        let same = ok_ok (record { kinds = kinds; words = words }) i (sym e ∙ h) in
        subst (λ (j : Image). IsImageText text j.kinds j.words) same is
    by_verdict (breaks n is e) = absurd (ok_err i n (sym h ∙ e))

pub fault_breaks : (text : List ℕ) (n : ℕ) → image text ≡ Err (Line n) → BreaksAt text n
fault_breaks text n h = by_verdict (verdict text)
  where
    by_verdict : Verdict text → BreaksAt text n
    by_verdict (says kinds words is e) = absurd (ok_err (record { kinds = kinds; words = words }) n (sym e ∙ h))
    by_verdict (breaks m is e) = subst (BreaksAt text) (err_err m n (sym e ∙ h)) is

pub break_read : (text : List ℕ) (n : ℕ) → BreaksAt text n → image text ≡ Err (Line n)
unfolding image image_of
break_read text n (wrong before rest line parts is begins no_more) =
    let read = beginning_read before begins in
    let fails : after_line read.0 line ≡ None = by_step read.0 (after_line read.0 line) refl read.1 in
    let here : 1 + length before ≡ n = omega (arith, is) in
    ap (image_from 1 blank_draft) parts ∙ first_wrong 1 blank_draft read.0 before rest line read.1 fails ∙ ap (λ m. fault m) here
  where
    fault : ℕ → Result Image TextFault
    fault m = Err (Line m)

    by_step : (last : Draft) (o : Option Draft) → after_line last line ≡ o → after_lines blank_draft before ≡ Some last → after_line last line ≡ None
    by_step last None e h = e
    by_step last (Some next) e h =
        absurd (no_more (read_begins next (before ++ line ∷ [])
        (lines-append blank_draft before (line ∷ []) ∙ ap (λ (o : Option Draft). o >>= λ d. after_lines d (line ∷ [])) h
        ∙ ap (λ (o : Option Draft). o >>= λ d. Some d) e)))
break_read text n (cut is begins unfinished) =
    let read = beginning_read (lines text) begins in
    let here : 1 + length (lines text) ≡ n = omega (arith, is) in
    at_last read.0 read.1 (is_done read.0.part) refl ∙ ap (λ m. fault m) here
  where
    fault : ℕ → Result Image TextFault
    fault m = Err (Line m)

    at_last : (last : Draft) → after_lines blank_draft (lines text) ≡ Some last → (b : Bool) → is_done last.part ≡ b → image text ≡ Err (Line (1 + length (lines text)))
    at_last last h true done = (let l = lead last (lines text) h in absurd (unfinished (last.kinds, last_words last, lead_ended (lines text) l.0 last l.1 l.2 done)))
    at_last last h false open_one =
        all_right 1 blank_draft last (lines text) h ∙ ap (λ b. cond b (whole_image last.kinds (last_words last)) (Err (Line (1 + length (lines text))))) open_one

-- ---- the laws

pub has_meaning : HasMeaning
has_meaning text = by_verdict (verdict text)
  where
    by_verdict : Verdict text → ((kinds : List Kind) × (words : List ℕ) × IsImageText text kinds words) ⊎ ((n : ℕ) × BreaksAt text n)
    by_verdict (says kinds words is e) = inl (kinds, words, is)
    by_verdict (breaks n is e) = inr (n, is)

pub says_one_image : SaysOneImage
says_one_image text kinds others words other_words h k =
    let same = ok_ok (record { kinds = kinds; words = words }) (record { kinds = others; words = other_words }) (sym (image_read text kinds words h) ∙ image_read text others other_words k) in
    (ap (λ (i : Image). i.kinds) same, ap (λ (i : Image). i.words) same)

pub breaks_at_one_line : BreaksAtOneLine
breaks_at_one_line text m n h k = err_err m n (sym (break_read text m h) ∙ break_read text n k)

pub breaks_nowhere : BreaksNowhere
breaks_nowhere text kinds words n h k = ok_err (record { kinds = kinds; words = words }) n (sym (image_read text kinds words h) ∙ break_read text n k)

pub written_reads : WrittenReads
written_reads kinds words h = image_says (image_text kinds words) (record { kinds = kinds; words = words }) (written_read kinds words h)

-- ---- what the reader answers

pub answer_says : (answer : Result Image TextFault) (text : List ℕ) → Reads answer (image text) → IfOk answer (λ found. IsImageText text found.kinds found.words)
answer_says (Ok found) text is = image_says text found is
answer_says (Err (Line n)) text is = tt
answer_says (Err NoMemory) text is = tt

pub answer_breaks : (answer : Result Image TextFault) (text : List ℕ) → Reads answer (image text) → (line : ℕ) → answer ≡ Err (Line line) → BreaksAt text line
answer_breaks (Ok found) text is line e = absurd (ok_err found line e)
answer_breaks (Err (Line n)) text is line e = subst (BreaksAt text) (err_err n line e) (fault_breaks text n is)
answer_breaks (Err NoMemory) text is line e = absurd (no_line line e)
  where
    no_line : (n : ℕ) → ◌≡◌ {A = Result Image TextFault} (Err NoMemory) (Err (Line n)) → ⊥
    no_line n e = cc

pub answer_writable : (answer : Result Image TextFault) (text : List ℕ) → Reads answer (image text) → IfOk answer (λ found. IsWritable found.kinds found.words)
answer_writable (Ok found) text is = read_is_writable text found.kinds found.words (image_says text found is)
answer_writable (Err (Line n)) text is = tt
answer_writable (Err NoMemory) text is = tt
