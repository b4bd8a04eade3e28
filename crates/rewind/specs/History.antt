-- What transactions leave in a map, and how a run of them is reported.
use Rattle.std.specs.Prelude.{ℕ, ◌==◌, if◌then◌else◌, List, [], ◌∷◌, ◌++◌, length, map, Option, Some, None, codes}
use Rattle.std.specs.List.{range_with_len, flat_map}
use Rattle.std.specs.Fmt.{decimal}
use Rattle.lane_traits.specs.declared.words.Pair.{Pair}
use Rattle.region_layout.specs.CellsMap.{CELL_KEYS}
use Rattle.rewind_script.specs.declared.report.Printed.{Printed}
use Rattle.rewind_script.specs.declared.report.Report.{Report}
use Rattle.rewind_script.specs.Report.{report as text_of_report}
use Rattle.rewind.specs.declared.script.Put.{Put}

-- ---- a finite map, and the commands on it

-- the value of each key, where it has one
abbrev pub Contents : Type 0
Contents = ℕ → Option ℕ

abbrev pub empty : Contents
empty = λ k. None

-- the key has this value, the others are as before
abbrev pub put_in : Contents → Put → Contents
put_in m p = λ k. if k == p.key then Some p.value else m k

-- after the puts, in order
abbrev pub after_puts : Contents → List Put → Contents
after_puts m [] = m
after_puts m (p ∷ ps) = after_puts (put_in m p) ps

-- after the transactions, in order
abbrev pub after_transactions : Contents → List (List Put) → Contents
after_transactions m [] = m
after_transactions m (t ∷ ts) = after_transactions (after_puts m t) ts

-- the map that the transactions leave, from the empty one
abbrev pub contents : List (List Put) → Contents
contents ts = after_transactions empty ts

-- ---- the printed history

-- a transaction, by its lane and its number in the lane
pub record Name : Type 0 where
  pub lane : ℕ
  pub number : ℕ

-- the first transactions of lane 0
abbrev pub first_names : ℕ → List Name
first_names count = map (λ i. record { lane = 0; number = i }) (range_with_len 0 count)

-- the names of all transactions, in order
abbrev pub history : List (List Put) → List Name
history ts = first_names (length ts)

-- ---- the texts

abbrev pub line_feed : List ℕ
line_feed = 10 ∷ []

abbrev pub ended_line : List ℕ → List ℕ
ended_line text = text ++ line_feed

-- commit L I
abbrev pub commit_line : Name → List ℕ
commit_line name = codes "commit " ++ (decimal name.lane ++ (codes " " ++ (decimal name.number ++ line_feed)))

abbrev pub commit_lines : List Name → List ℕ
commit_lines names = flat_map commit_line names

-- a transaction that gets nothing, in the report
abbrev pub printed : Name → Printed
printed name = record { lane = name.lane; number = name.number; gets = [] }

-- a key that has a value
abbrev pub pair_of : ℕ → Option ℕ → List Pair
pair_of k None = []
pair_of k (Some v) = record { key = k; value = v } ∷ []

-- the pairs, ascending by key: a map of cells has keys 0 to 11
abbrev pub pairs : Contents → List Pair
pairs m = flat_map (λ k. pair_of k (m k)) (range_with_len 0 CELL_KEYS)

-- what is reported: the commits, and the map of structure 0
abbrev pub report_of : List Name → Contents → Report
report_of names m = record { commits = map printed names; kept = []; fates = []; maps = record { pairs = pairs m } ∷ [] }

abbrev pub report : List Name → Contents → List ℕ
report names m = text_of_report (report_of names m)

-- the commits before the stop
abbrev pub stop_report : List Name → List ℕ
stop_report names = commit_lines names ++ ended_line (codes "stopped")
