-- A lawful history of a script's transactions makes the maps of its names.
use Rattle.std.proofs.Common.{◌≡◌, ℕ, Bool, true, false, ◌&&◌, not, List, [], ◌∷◌, ◌++◌, map, drop, Option, refl, sym, ◌∙◌, ap, subst}
use Rattle.std.specs.Prelude.{All}
use Rattle.std.proofs.lemmas.List.Elements.{All-head, All-tail}
use Rattle.lane_types.specs.declared.face.Entry.{Entry}
use Rattle.lane_types.specs.Heaps.{Heap, has_bit, with_writes}
use Rattle.lane_types.specs.Histories.{fold, IsLawfulOn, Lawful, HaveSorts}
use Rattle.region_layout.specs.Contents.{IsMapOf}
use Rattle.rewind_script.specs.declared.script.Script.{Script}
use Rattle.rewind_script.specs.declared.script.Command.{Command}
use Rattle.rewind_script.specs.declared.script.Command.TheVariants as command
use Rattle.rewind_script.specs.Limits.{IsScript}
use Rattle.map_deeds.specs.declared.deed.Done.{Done}
use Rattle.map_deeds.specs.declared.deed.MapDeed.{MapDeed}
use Rattle.map_deeds.specs.Maps.{Maps, State, empty_maps, begun, after_command, after_transaction, reply, replies}
use Rattle.map_deeds.specs.Meanings.{commands_of, gots_of, words_of, kind_at, sorts_of, map_deeds}
use Rattle.map_deeds.specs.Printed.{commands_or_none, commands_in, AreInOrder, maps_from, got_by, gets_from, printed_from}
use Rattle.map_deeds.specs.HistoryLaw.{name_of, names_of, got_in, gets_of, printed_entry, IsEntryOf, has_kind, HoldsMaps, HistoriesArePrinted}
use Rattle.map_deeds.specs.Depending.{one_map, alike_map}
use Rattle.map_deeds.proofs.Restricting.{AreWithin, same_replies, same_after}
use Rattle.map_deeds.proofs.Untouched.{stays}
use Rattle.map_deeds.proofs.Naming.{same_kinds, fitting, named, both, left_of, right_of, within, names_after, commits_of}

-- ---- the gets of an entry

head_or : {X : Type 0} → X → List X → X
head_or d [] = d
head_or d (x ∷ xs) = x

pub first_of_both : {X : Type 0} (x y : X) (xs ys : List X) → x ∷ xs ≡ y ∷ ys → x ≡ y
unfolding head_or
first_of_both x y xs ys e = ap (head_or x) e

pub rest_of_both : {X : Type 0} (x y : X) (xs ys : List X) → x ∷ xs ≡ y ∷ ys → xs ≡ ys
rest_of_both x y xs ys e = ap (drop 1) e

one_get : (c : Command) (maps : Maps) (got : Option ℕ) → got ≡ reply maps c → got_in c got ≡ got_by maps c
one_get (command.Put s key value) maps got e = refl
one_get (command.Del s key) maps got e = refl
one_get (command.Get s key) maps got e = ap (λ v. record { key = key; value = v } ∷ []) e
one_get command.Savepoint maps got e = refl
one_get (command.Rollback n) maps got e = refl

pub gets_are : (steps : List Done) (state : State) → gots_of steps ≡ replies state (commands_of steps) → gets_of steps ≡ gets_from state (commands_of steps)
gets_are [] state e = refl
gets_are (step ∷ steps) state e =
    λ i. one_get step.command state.maps step.got (first_of_both _ _ _ _ e) i
    ++ gets_are steps (after_command state step.command) (rest_of_both _ _ _ _ e) i

-- ---- one entry

-- what is known of an entry on a heap with these maps
pub record IsNext (script : Script) (heap : Heap) (maps : Maps) (e : Entry MapDeed) : Type 0 where
  pub held : HoldsMaps script.kinds heap maps
  pub lawful : IsLawfulOn map_deeds heap e
  pub kinds : e.deed.kinds ≡ script.kinds
  pub of : IsEntryOf script e

module _ (script : Script) (is : IsScript script) (heap : Heap) (maps : Maps) (e : Entry MapDeed) (h : IsNext script heap maps e) where
  abbrev commands : List Command
  commands = commands_of e.deed.steps

  abbrev picks : ℕ → Bool
  picks = named script.kinds e.deed.set

  names_commands : commands_in script (name_of e) ≡ commands
  names_commands = ap commands_or_none h.of.is ∙ sym h.of.commands

  commands_within : AreWithin picks commands
  commands_within =
      let fits = fitting script (name_of e) h.of.transaction is h.of.is in
      subst (λ cs. AreWithin picks cs) (sym h.of.commands)
      (subst (λ set. AreWithin (named script.kinds set) h.of.transaction.commands) (sym h.of.set)
      (within script.kinds h.of.transaction.set 0 h.of.transaction.commands fits.commands.fit))

  abbrev known : Maps
  known = h.lawful.means.maps

  kind_same : (s : ℕ) → kind_at e.deed.kinds s ≡ kind_at script.kinds s
  kind_same s = ap (λ kinds. kind_at kinds s) h.kinds

  same_before : (s : ℕ) → picks s ≡ true → known s ≡ maps s
  same_before s picked =
      one_map (kind_at script.kinds s) heap.start (words_of heap) s (known s) (maps s)
      (subst (λ kind. IsMapOf kind heap.start (words_of heap) s (known s)) (kind_same s)
      (h.lawful.means.before_are s (left_of (has_bit e.deed.set s) _ picked)))
      (h.held s (right_of (has_bit e.deed.set s) _ picked))

  gets_same : gets_of e.deed.steps ≡ gets_from (begun maps) commands
  gets_same = gets_are e.deed.steps (begun maps)
      (h.lawful.means.replies_are ∙ same_replies picks commands known maps commands_within same_before)

  named_after : (s : ℕ) → has_kind script.kinds s ≡ true → has_bit e.deed.set s ≡ true
      → IsMapOf (kind_at script.kinds s) heap.start (words_of (with_writes e.writes heap)) s (after_transaction maps commands s)
  named_after s kind bit =
      subst (λ m. IsMapOf (kind_at script.kinds s) heap.start (words_of (with_writes e.writes heap)) s m)
      (same_after picks commands known maps commands_within same_before s (both (has_bit e.deed.set s) _ bit kind))
      (subst (λ k. IsMapOf k heap.start (words_of (with_writes e.writes heap)) s (after_transaction known commands s)) (kind_same s)
      (h.lawful.means.after_are s bit))

  not_named : (s : ℕ) → has_bit e.deed.set s ≡ false → picks s ≡ false
  not_named s out = ap (λ t. t && has_kind script.kinds s) out

  other_after : (s : ℕ) → has_kind script.kinds s ≡ true → has_bit e.deed.set s ≡ false
      → IsMapOf (kind_at script.kinds s) heap.start (words_of (with_writes e.writes heap)) s (after_transaction maps commands s)
  other_after s kind out =
      subst (λ m. IsMapOf (kind_at script.kinds s) heap.start (words_of (with_writes e.writes heap)) s m)
      (sym (stays picks s commands maps (not_named s out) commands_within))
      (alike_map (λ t. not (has_bit e.deed.set t)) s (kind_at script.kinds s) (maps s) heap (with_writes e.writes heap)
      (ap not out) refl refl h.lawful.others (h.held s kind))

  either_after : (s : ℕ) (t : Bool) → has_bit e.deed.set s ≡ t → has_kind script.kinds s ≡ true
      → IsMapOf (kind_at script.kinds s) heap.start (words_of (with_writes e.writes heap)) s (after_transaction maps commands s)
  either_after s true bit kind = named_after s kind bit
  either_after s false bit kind = other_after s kind bit

  pub held_after : HoldsMaps script.kinds (with_writes e.writes heap) (after_transaction maps (commands_in script (name_of e)))
  held_after = λ s kind. subst (λ cs. IsMapOf (kind_at script.kinds s) heap.start (words_of (with_writes e.writes heap)) s (after_transaction maps cs s))
      (sym names_commands) (either_after s (has_bit e.deed.set s) refl kind)

  pub gets_after : gets_of e.deed.steps ≡ gets_from (begun maps) (commands_in script (name_of e))
  gets_after = gets_same ∙ ap (gets_from (begun maps)) (sym names_commands)

-- ---- all entries

record IsCarried (script : Script) (heap : Heap) (maps : Maps) (history : List (Entry MapDeed)) : Type 0 where
  in_order : AreInOrder (names_of history)
  replies : map printed_entry history ≡ printed_from script maps (names_of history)
  held : HoldsMaps script.kinds (fold heap history) (maps_from script maps (names_of history))

carried : (script : Script) (heap : Heap) (maps : Maps) (history : List (Entry MapDeed)) → IsScript script
    → HoldsMaps script.kinds heap maps → Lawful map_deeds heap history → HaveSorts map_deeds (sorts_of script.kinds) history
    → All (IsEntryOf script) history → IsCarried script heap maps history
carried script heap maps [] is held lawful sorts of = record { in_order = tt; replies = refl; held = held }
carried script heap maps (e ∷ history) is held lawful sorts of =
    let h : IsNext script heap maps e = record {
      held = held;
      lawful = lawful.0;
      kinds = same_kinds e.deed.kinds script.kinds sorts.0;
      of = All-head (IsEntryOf script) e history of;
    } in
    let rest = carried script (with_writes e.writes heap) (after_transaction maps (commands_in script (name_of e))) history is
    (held_after script is heap maps e h) lawful.2 sorts.1 (All-tail (IsEntryOf script) e history of) in
    record {
      in_order = (names_after e history lawful.1, rest.in_order);
      replies = λ i. record { lane = e.lane; number = e.number; gets = gets_after script is heap maps e h i } ∷ rest.replies i;
      held = rest.held;
    }

pub histories_are_printed : HistoriesArePrinted
histories_are_printed script heap history is held lawful sorts of =
    let c = carried script heap empty_maps history is held lawful sorts of in
    record {
      printed = record { commits = commits_of script history of; in_order = c.in_order };
      replies = c.replies;
      maps = c.held;
    }
