-- The text that is generated from a seed.
use Rattle.std.specs.Prelude.{ℕ, zero, suc, ◌+◌, ◌*◌, ◌/◌, ◌%◌, ◌^◌, List, [], ◌∷◌, ◌++◌, ◌==◌, codes, if◌then◌else◌}
use Rattle.rewind_script.specs.Report.{line}

-- ---- draws

unfoldable pub next_state : ℕ → ℕ
next_state x = (x * 6364136223846793005 + 1442695040888963407) % 2 ^ 64

unfoldable pub state_after : ℕ → ℕ → ℕ
state_after zero x = x
state_after (suc draws) x = state_after draws (next_state x)

-- what is drawn in the state x: the upper 31 bits of the next one
abbrev pub drawn : ℕ → ℕ
drawn x = next_state x / 2 ^ 33

-- ---- texts, each in the state x

-- how many keys are drawn from
abbrev pub keys_of : ℕ → ℕ
keys_of s = if s == 0 then 12 else 500

abbrev pub put_line : ℕ → ℕ → List ℕ
put_line s x = line (codes "put") (s ∷ drawn x % keys_of s ∷ (1 + drawn (next_state x) % 1000000) ∷ [])

-- n texts one after the other, each of which draws so often
unfoldable pub repeated : (ℕ → List ℕ) → ℕ → ℕ → ℕ → List ℕ
repeated text draws zero x = []
repeated text draws (suc n) x = text x ++ repeated text draws n (state_after draws x)

-- begin S, four puts and commit
abbrev pub transaction_on : ℕ → ℕ → List ℕ
transaction_on s x = line (codes "begin") (s ∷ []) ++ repeated (put_line s) 2 4 x ++ line (codes "commit") []

unfoldable pub transaction : ℕ → List ℕ
transaction x = transaction_on (drawn x % 3) (next_state x)

unfoldable pub lane_text : ℕ → List ℕ
lane_text x = line (codes "lane") [] ++ repeated transaction 9 250 x

abbrev pub head_text : List ℕ
head_text = codes "region force 256 2048\nlog bucket\nmap cells\nmap tree\nmap hash\n"

-- four lanes of 250 transactions
unfoldable pub generated : ℕ → List ℕ
generated seed = head_text ++ repeated lane_text 2250 4 seed
