-- What is printed of a run of a script.
use Rattle.std.specs.Prelude.{◌≡◌, ℕ, ◌==◌, ◌&&◌, ◌+◌, Bool, not, List, [], ◌∷◌, ◌++◌, length, map, filter}
use Rattle.std.specs.List.{range_with_len, list_any}
use Rattle.lane_traits.specs.declared.words.Pair.{Pair}
use Rattle.lane_types.specs.declared.face.Entry.{Entry}
use Rattle.lane_types.specs.Heaps.{Heap}
use Rattle.lane_types.specs.Histories.{fold}
use Rattle.region_layout.specs.declared.layout.Kind.{Kind}
use Rattle.region_layout.specs.FiniteMap.{FiniteMap}
use Rattle.region_layout.specs.Contents.{IsMapOf}
use Rattle.rewind_script.specs.declared.script.Script.{Script}
use Rattle.rewind_script.specs.declared.script.LaneText.{LaneText}
use Rattle.rewind_script.specs.declared.report.Fate.{Fate}
use Rattle.rewind_script.specs.declared.report.Named.{Named}
use Rattle.rewind_script.specs.declared.report.PairList.{PairList}
use Rattle.rewind_script.specs.declared.report.Report.{Report}
use Rattle.rewind_script.specs.declared.stopped.StopReport.{StopReport}
use Rattle.map_deeds.specs.Meanings.{words_of}
use Rattle.map_deeds.specs.Printed.{transactions, maps_after, printed_after}
use Rattle.map_deeds.specs.HistoryLaw.{names_of, printed_entry, IsHistoryOf}
use Rattle.map_deeds.specs.declared.deed.MapDeed.{MapDeed}

-- ---- the transactions that aren't in a history

abbrev pub lane_names : ℕ → LaneText → List Named
lane_names lane text = map (λ n. record { lane = lane; number = n }) (range_with_len 0 (length (transactions text.items)))

abbrev pub names_from : ℕ → List LaneText → List Named
names_from lane [] = []
names_from lane (text ∷ lanes) = lane_names lane text ++ names_from (lane + 1) lanes

abbrev pub is_named : List Named → Named → Bool
is_named names name = list_any (λ n. (n.lane == name.lane) && (n.number == name.number)) names

-- the other transactions of the script, by lane, then by number
abbrev pub others : Script → List Named → List Named
others script names = filter (λ name. not (is_named names name)) (names_from 0 script.lanes)

abbrev pub name_of_fate : Fate → Named
name_of_fate fate = record { lane = fate.lane; number = fate.number }

-- a fate for each transaction of the script that isn't among these, by lane, then by number
abbrev pub AreFates : Script → List Named → List Fate → Type 0
AreFates script names fates = map name_of_fate fates ≡ others script names

-- ---- the reports of entries

abbrev pub report_of : List (Entry MapDeed) → List Named → List Fate → List PairList → Report
report_of history kept fates maps = record { commits = map printed_entry history; kept = kept; fates = fates; maps = maps }

abbrev pub stop_report_of : List (Entry MapDeed) → List (Entry MapDeed) → StopReport
stop_report_of history flight = record { commits = map printed_entry history; flight = names_of flight }

-- ---- the reports of a printed history

abbrev pub pair_of : ℕ × ℕ → Pair
pair_of entry = record { key = entry.0; value = entry.1 }

abbrev pub entry_of : Pair → ℕ × ℕ
entry_of pair = (pair.key, pair.value)

abbrev pub pair_list_of : FiniteMap → PairList
pair_list_of contents = record { pairs = map pair_of contents }

-- the contents of these structures, the first of which is s
abbrev pub pair_lists_from : ℕ → List Kind → (ℕ → FiniteMap) → List PairList
pair_lists_from s [] maps = []
pair_lists_from s (kind ∷ kinds) maps = pair_list_of (maps s) ∷ pair_lists_from (s + 1) kinds maps

-- The commits with their replies, those that were kept at the stop, the fates of the others, and the maps of the commits and
-- the kept, in this order.
abbrev pub script_report : Script → List Named → List Named → List Fate → Report
script_report script names kept fates = record {
  commits = printed_after script names;
  kept = kept;
  fates = fates;
  maps = pair_lists_from 0 script.kinds (maps_after script (names ++ kept));
}

abbrev pub script_stop_report : Script → List Named → List Named → StopReport
script_stop_report script names flight = record { commits = printed_after script names; flight = flight }

-- ---- they are the same

-- the structures of these kinds, the first of which is s, hold these pairs
abbrev pub HoldPairsFrom : Heap → ℕ → List Kind → List PairList → Type 0
HoldPairsFrom heap s [] [] = Unit {0}
HoldPairsFrom heap s [] (m ∷ maps) = ⊥
HoldPairsFrom heap s (kind ∷ kinds) [] = ⊥
HoldPairsFrom heap s (kind ∷ kinds) (m ∷ maps) =
    IsMapOf kind heap.start (words_of heap) s (map entry_of m.pairs) × HoldPairsFrom heap (s + 1) kinds maps

-- What is printed of the history, of entries that were kept and of the pairs in the heap that both make is the report of
-- their names.
abbrev pub ReportsAreScripts : Type 0
ReportsAreScripts = (script : Script) (heap : Heap) (history kept : List (Entry MapDeed)) (fates : List Fate) (maps : List PairList)
    → IsHistoryOf script heap (history ++ kept) → HoldPairsFrom (fold heap (history ++ kept)) 0 script.kinds maps
    → report_of history (names_of kept) fates maps ≡ script_report script (names_of history) (names_of kept) fates

abbrev pub StopReportsAreScripts : Type 0
StopReportsAreScripts = (script : Script) (heap : Heap) (history flight : List (Entry MapDeed)) → IsHistoryOf script heap history
    → stop_report_of history flight ≡ script_stop_report script (names_of history) (names_of flight)
