-- A step of reading an image text.
use Rattle.std.proofs.Common.{◌≡◌, ℕ, ◌+◌, List, ◌∷◌, sym, ◌∙◌, ap, Result, Some, Err}
use Rattle.image_text.specs.declared.image.Image.{Image}
use Rattle.image_text.specs.declared.image.TextFault.{TextFault}
use Rattle.image_text.specs.declared.refusal.Refusal.{Refusal}
use Rattle.image_text.specs.declared.refusal.Refusal.TheVariants as refusal
use Rattle.image_text.specs.declared.draft.Draft.{Draft}
use Rattle.image_text.specs.Reading.{after_line, image_from, at_line, fault_at, Fails, Reads}

-- a right line
pub goes_on : (n : ℕ) (draft next : Draft) (line : List ℕ) (rest : List (List ℕ)) → after_line draft line ≡ Some next
    → image_from n draft (line ∷ rest) ≡ image_from (n + 1) next rest
unfolding image_from
goes_on n draft next line rest h = ap (λ r. at_line n r (λ d. image_from (n + 1) d rest)) h

-- a wrong line
pub stops : (n : ℕ) (draft : Draft) (line : List ℕ) (rest : List (List ℕ)) (meaning : Result Image TextFault) (e : Refusal)
    → image_from n draft (line ∷ rest) ≡ meaning → Fails e (after_line draft line) → Reads (Err (fault_at n e)) meaning
unfolding image_from
stops n draft line rest meaning refusal.Memory so_far h = tt
stops n draft line rest meaning refusal.Line so_far h = sym so_far ∙ ap (λ r. at_line n r (λ d. image_from (n + 1) d rest)) h
