-- A step of reading a script.
use Rattle.std.proofs.Common.{◌≡◌, ℕ, ◌+◌, List, ◌∷◌, sym, ◌∙◌, ap, Result, Ok, Err}
use Rattle.rewind_script.specs.declared.fault.ScriptFault.{ScriptFault}
use Rattle.rewind_script.specs.declared.read.refusal.Refusal.{Refusal}
use Rattle.rewind_script.specs.declared.read.refusal.Refusal.TheVariants as refusal
use Rattle.rewind_script.specs.declared.read.reading.Reading.{Reading}
use Rattle.rewind_script.specs.Grammar.{Meaning, after_line, script_from, at_line, Reads}
use Rattle.rewind_script.specs.Answers.{fault_at, Fails}

-- a right line
pub goes_on : (n : ℕ) (reading next : Reading) (line : List ℕ) (rest : List (List ℕ)) → after_line reading line ≡ Ok next
    → script_from n reading (line ∷ rest) ≡ script_from (n + 1) next rest
unfolding script_from
goes_on n reading next line rest h = ap (λ r. at_line n r (λ d. script_from (n + 1) d rest)) h

-- a wrong line
pub stops : (n : ℕ) (reading : Reading) (line : List ℕ) (rest : List (List ℕ)) (meaning : Result Meaning ScriptFault) (e : Refusal)
    → script_from n reading (line ∷ rest) ≡ meaning → Fails e (after_line reading line) → Reads (Err (fault_at n e)) meaning
unfolding script_from
stops n reading line rest meaning refusal.Memory so_far h = tt
stops n reading line rest meaning (refusal.Fault kind) so_far h = sym so_far ∙ ap (λ r. at_line n r (λ d. script_from (n + 1) d rest)) h
