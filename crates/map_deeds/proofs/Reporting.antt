-- The report of a history's entries is that of their names.
use Rattle.std.proofs.Common.{◌≡◌, ℕ, suc, ◌+◌, ◌<◌, List, [], ◌∷◌, ◌++◌, length, map, get_or, refl, sym, ◌∙◌, ap, subst, arith, lt-ltb, zero-add, add-zero}
use Rattle.lane_traits.specs.declared.words.Pair.{Pair}
use Rattle.lane_types.specs.declared.face.Entry.{Entry}
use Rattle.lane_types.specs.Heaps.{Heap}
use Rattle.lane_types.specs.Histories.{fold}
use Rattle.region_layout.specs.declared.layout.Kind.{Kind}
use Rattle.region_layout.specs.declared.layout.Kind.TheVariants.{Cells}
use Rattle.region_layout.specs.Contents.{IsMapOf}
use Rattle.rewind_script.specs.declared.script.Script.{Script}
use Rattle.rewind_script.specs.declared.report.PairList.{PairList}
use Rattle.map_deeds.specs.declared.deed.MapDeed.{MapDeed}
use Rattle.map_deeds.specs.Maps.{Maps, empty_maps, after_transaction}
use Rattle.map_deeds.specs.Meanings.{words_of}
use Rattle.map_deeds.specs.Depending.{one_map}
use Rattle.map_deeds.specs.Printed.{commands_in, maps_after, printed_from}
use Rattle.map_deeds.specs.HistoryLaw.{name_of, names_of, printed_entry}
use Rattle.map_deeds.specs.Reports.{pair_of, entry_of, pair_lists_from, HoldPairsFrom, ReportsAreScripts, StopReportsAreScripts}
use Rattle.map_deeds.proofs.Carrying.{first_of_both, rest_of_both}

names_append : (history kept : List (Entry MapDeed)) → names_of (history ++ kept) ≡ names_of history ++ names_of kept
names_append [] kept = refl
names_append (e ∷ history) kept = ap (λ names. name_of e ∷ names) (names_append history kept)

first_printed : (script : Script) (maps : Maps) (history kept : List (Entry MapDeed))
    → map printed_entry (history ++ kept) ≡ printed_from script maps (names_of (history ++ kept))
    → map printed_entry history ≡ printed_from script maps (names_of history)
first_printed script maps [] kept e = refl
first_printed script maps (entry ∷ history) kept e =
    λ i. first_of_both _ _ _ _ e i
    ∷ first_printed script (after_transaction maps (commands_in script (name_of entry))) history kept (rest_of_both _ _ _ _ e) i

pairs_back : (pairs : List Pair) → map pair_of (map entry_of pairs) ≡ pairs
pairs_back [] = refl
pairs_back (pair ∷ pairs) = ap (λ ps. pair ∷ ps) (pairs_back pairs)

record HoldFrom (heap : Heap) (maps : Maps) (s : ℕ) (kinds : List Kind) : Type 0 where
  each : (j : ℕ) → j < length kinds → IsMapOf (get_or kinds j Cells) heap.start (words_of heap) (s + j) (maps (s + j))

pairs_are : (heap : Heap) (maps : Maps) (s : ℕ) (kinds : List Kind) (lists : List PairList)
    → HoldPairsFrom heap s kinds lists → HoldFrom heap maps s kinds → lists ≡ pair_lists_from s kinds maps
pairs_are heap maps s [] [] read held = refl
pairs_are heap maps s [] (m ∷ lists) read held = absurd read
pairs_are heap maps s (kind ∷ kinds) [] read held = absurd read
pairs_are heap maps s (kind ∷ kinds) (m ∷ lists) read held =
    let here : IsMapOf kind heap.start (words_of heap) s (maps s) =
    subst (λ t. IsMapOf kind heap.start (words_of heap) t (maps t)) (add-zero s) (held.each 0 (omega arith)) in
    let same : map entry_of m.pairs ≡ maps s = one_map kind heap.start (words_of heap) s (map entry_of m.pairs) (maps s) read.0 here in
    let rest : HoldFrom heap maps (s + 1) kinds = record {
      each = λ j low. subst (λ t. IsMapOf (get_or kinds j Cells) heap.start (words_of heap) t (maps t)) (moved s j) (held.each (suc j) (omega arith));
    } in
    λ i. record { pairs = (sym (pairs_back m.pairs) ∙ ap (map pair_of) same) i } ∷ pairs_are heap maps (s + 1) kinds lists read.1 rest i
  where
    moved : (s j : ℕ) → s + suc j ≡ s + 1 + j
    moved s j = omega arith

pub reports_are_scripts : ReportsAreScripts
reports_are_scripts script heap history kept fates lists is read =
    let maps : Maps = maps_after script (names_of (history ++ kept)) in
    let heap_after : Heap = fold heap (history ++ kept) in
    let held : HoldFrom heap_after maps 0 script.kinds = record {
      each = λ j low. subst (λ t. IsMapOf (get_or script.kinds j Cells) heap.start (words_of (fold heap (history ++ kept))) t (maps t)) (sym (zero-add j))
          (is.maps j (lt-ltb j (length script.kinds) low));
    } in
    λ i. record {
      commits = first_printed script empty_maps history kept is.replies i;
      kept = names_of kept;
      fates = fates;
      maps = (pairs_are heap_after maps 0 script.kinds lists read held ∙ ap (λ names. pair_lists_from 0 script.kinds (maps_after script names)) (names_append history kept)) i;
    }

pub stop_reports_are_scripts : StopReportsAreScripts
stop_reports_are_scripts script heap history flight is = λ i. record { commits = is.replies i; flight = names_of flight }
