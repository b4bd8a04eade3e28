-- A line that was written says what it was written of.
use Rattle.std.proofs.Common.{◌≡◌, ℕ, ◌<◌, ◌^◌, List, ◌∷◌, ◌++◌, refl, ◌∙◌, ap, arith, true, Option, Some, codes}
use Rattle.std.specs.Fmt.{decimal}
use Rattle.std.specs.List.{after_first}
use Rattle.region_layout.specs.declared.layout.Kind.{Kind}
use Rattle.region_layout.specs.declared.layout.Kind.TheVariants.{Cells, Tree, Hash}
use Rattle.image_text.specs.declared.entry.Entry.TheVariants.{Size, Map, Word, End}
use Rattle.image_text.specs.Text.{is_space, spelled, value_of, hexadecimal}
use Rattle.image_text.specs.Grammar.{◌>>=◌, otherwise, word_entry, named_entry, end_entry, entry_of}
use Rattle.image_text.specs.Written.{size_line, kind_line, word_line}
use Rattle.image_text.proofs.Digits.{number_of-decimal, value_of-hexadecimal, decimal_digits}
use Rattle.image_text.proofs.Feeds.{lacks, digits_lack, before_space, after_space}

-- what a line with a space says
entry_by : (name rest : List ℕ) → lacks 32 name ≡ true
    → entry_of (name ++ 32 ∷ rest) ≡ otherwise (word_entry name rest) (otherwise (named_entry name rest) (end_entry (name ++ 32 ∷ rest)))
unfolding entry_of
entry_by name rest h =
    let line = name ++ 32 ∷ rest in
    ap (λ n. otherwise (word_entry n (after_first is_space line)) (otherwise (named_entry n (after_first is_space line)) (end_entry line))) (before_space name rest h)
    ∙ ap (λ r. otherwise (word_entry name r) (otherwise (named_entry name r) (end_entry line))) (after_space name rest h)

pub entry_of-size : (n : ℕ) → n < 10 ^ 7 → entry_of (size_line n) ≡ Some (Size n)
unfolding size_line word_entry named_entry spelled
entry_of-size n small =
    entry_by (codes "image") (decimal n) refl
    ∙ ap (λ r. otherwise (r >>= λ size. Some (Size size)) (end_entry (codes "image" ++ 32 ∷ decimal n))) (number_of-decimal n small)

pub entry_of-kind : (kind : Kind) → entry_of (kind_line kind) ≡ Some (Map kind)
unfolding entry_of word_entry named_entry spelled
entry_of-kind Cells = refl
entry_of-kind Tree = refl
entry_of-kind Hash = refl

pub entry_of-end : entry_of (codes "end") ≡ Some End
unfolding entry_of word_entry named_entry spelled
entry_of-end = refl

pub entry_of-word : (a v : ℕ) → a < 10 ^ 7 → v < 2 ^ 64 → entry_of (word_line a v) ≡ Some (Word a v)
unfolding word_line word_entry
entry_of-word a v small fits =
    let name = decimal a in
    let rest = hexadecimal 16 v in
    let other = otherwise (named_entry name rest) (end_entry (name ++ 32 ∷ rest)) in
    entry_by name rest (digits_lack 10 32 name (omega arith) refl (decimal_digits a (omega arith)))
    ∙ ap (λ (r : Option ℕ). otherwise (r >>= λ address. value_of rest >>= λ value. Some (Word address value)) other) (number_of-decimal a small)
    ∙ ap (λ (r : Option ℕ). otherwise (r >>= λ value. Some (Word a value)) other) (value_of-hexadecimal v fits)
