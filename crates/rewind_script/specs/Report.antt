-- The text of a report.
use Rattle.std.specs.Prelude.{ℕ, ◌+◌, List, [], ◌∷◌, ◌++◌, codes, decimal, Option, Some, None, flat_map}
use Rattle.lane_traits.specs.declared.words.Pair.{Pair}
use Rattle.rewind_script.specs.declared.report.Report.{Report}
use Rattle.rewind_script.specs.declared.report.Printed.{Printed}
use Rattle.rewind_script.specs.declared.report.Named.{Named}
use Rattle.rewind_script.specs.declared.report.Got.{Got}
use Rattle.rewind_script.specs.declared.report.Fate.{Fate}
use Rattle.rewind_script.specs.declared.report.How.{How}
use Rattle.rewind_script.specs.declared.report.How.TheVariants.{Aborted, Full, Heap, Lost}
use Rattle.rewind_script.specs.declared.report.PairList.{PairList}

abbrev pub spaced : ℕ → List ℕ
spaced n = 32 ∷ decimal n

-- a word, numbers with a space before each, and a line feed
abbrev pub line : List ℕ → List ℕ → List ℕ
line word numbers = word ++ flat_map spaced numbers ++ 10 ∷ []

abbrev pub value_text : Option ℕ → List ℕ
value_text None = codes " none"
value_text (Some value) = spaced value

-- got K V, or got K none
abbrev pub got_line : Got → List ℕ
got_line got = codes "got" ++ spaced got.key ++ value_text got.value ++ 10 ∷ []

-- commit L I, and its gets
abbrev pub commit_lines : Printed → List ℕ
commit_lines commit = line (codes "commit") (commit.lane ∷ commit.number ∷ []) ++ flat_map got_line commit.gets

-- kept L I
abbrev pub kept_line : Named → List ℕ
kept_line named = line (codes "kept") (named.lane ∷ named.number ∷ [])

-- abort L I, full L I ROOM NEED, heap L I or lost L I
abbrev pub how_line : ℕ → ℕ → How → List ℕ
how_line lane number Aborted = line (codes "abort") (lane ∷ number ∷ [])
how_line lane number (Full room need) = line (codes "full") (lane ∷ number ∷ room ∷ need ∷ [])
how_line lane number Heap = line (codes "heap") (lane ∷ number ∷ [])
how_line lane number Lost = line (codes "lost") (lane ∷ number ∷ [])

abbrev pub fate_line : Fate → List ℕ
fate_line fate = how_line fate.lane fate.number fate.how

-- K V
abbrev pub pair_line : Pair → List ℕ
pair_line pair = line (decimal pair.key) (pair.value ∷ [])

-- map S, and its pairs
abbrev pub map_lines : ℕ → List Pair → List ℕ
map_lines number pairs = line (codes "map") (number ∷ []) ++ flat_map pair_line pairs

-- the maps from this number on
abbrev pub maps_from : ℕ → List PairList → List ℕ
maps_from number [] = []
maps_from number (map ∷ rest) = map_lines number map.pairs ++ maps_from (number + 1) rest

unfoldable pub report : Report → List ℕ
report r = flat_map commit_lines r.commits ++ flat_map kept_line r.kept ++ flat_map fate_line r.fates ++ maps_from 0 r.maps ++ line (codes "end") []
