-- The transactions that entries name, and what is known of them.
use Rattle.std.proofs.Common.{◌≡◌, ℕ, zero, suc, Bool, true, false, ◌&&◌, List, [], ◌∷◌, length, map, Option, Some, None, refl, sym, ◌∙◌, ap, subst, lt-ltb}
use Rattle.std.specs.Prelude.{All}
use Rattle.std.specs.List.{slice_get}
use Rattle.std.proofs.lemmas.List.Elements.{All-cons, All-head, All-tail, All-nil}
use Rattle.std.proofs.lemmas.Option.{slice_get_within, get_or_from_slice_get}
use Rattle.lane_types.specs.declared.face.Entry.{Entry}
use Rattle.lane_types.specs.Heaps.{has_bit}
use Rattle.lane_types.specs.Histories.{IsEarlierThanAll}
use Rattle.region_layout.specs.declared.layout.Kind.{Kind}
use Rattle.region_layout.specs.declared.layout.Kind.TheVariants.{Cells, Tree, Hash}
use Rattle.region_layout.specs.Layout.{kind_number}
use Rattle.rewind_script.specs.declared.script.Script.{Script}
use Rattle.rewind_script.specs.declared.script.LaneText.{LaneText}
use Rattle.rewind_script.specs.declared.script.Item.{Item}
use Rattle.rewind_script.specs.declared.script.Item.TheVariants as item
use Rattle.rewind_script.specs.declared.script.Command.{Command}
use Rattle.rewind_script.specs.declared.script.Command.TheVariants as command
use Rattle.rewind_script.specs.declared.report.Named.{Named}
use Rattle.rewind_script.specs.Limits.{IsSet, AreCommands, AllFit, Fits, IsItem, IsLaneText, IsScript}
use Rattle.rewind_script.specs.Commands.{live_step}
use Rattle.map_deeds.specs.declared.deed.MapDeed.{MapDeed}
use Rattle.map_deeds.specs.Meanings.{sorts_of}
use Rattle.map_deeds.specs.Printed.{Transaction, transactions, transactions_of, transaction_of, IsCommit, IsBefore}
use Rattle.map_deeds.specs.HistoryLaw.{name_of, names_of, IsEntryOf, has_kind}
use Rattle.map_deeds.proofs.Restricting.{IsWithin, AreWithin}

-- ---- the kinds of two lists with the same numbers

abbrev kind_of_number : ℕ → Kind
kind_of_number zero = Cells
kind_of_number (suc zero) = Cells
kind_of_number (suc (suc zero)) = Tree
kind_of_number (suc (suc (suc n))) = Hash

kind_back : (kind : Kind) → kind_of_number (kind_number kind) ≡ kind
kind_back Cells = refl
kind_back Tree = refl
kind_back Hash = refl

kinds_back : (kinds : List Kind) → map kind_of_number (sorts_of kinds) ≡ kinds
kinds_back [] = refl
kinds_back (kind ∷ kinds) = λ i. kind_back kind i ∷ kinds_back kinds i

pub same_kinds : (kinds others : List Kind) → sorts_of kinds ≡ sorts_of others → kinds ≡ others
same_kinds kinds others e = sym (kinds_back kinds) ∙ ap (map kind_of_number) e ∙ kinds_back others

-- ---- a script's transactions fit its kinds

all_get : {X : Type 0} (P : X → Type 0) (xs : List X) (i : ℕ) (x : X) → All P xs → slice_get xs i ≡ Some x → P x
all_get P xs i x h e = subst P (get_or_from_slice_get xs i x x e) (h i x (slice_get_within xs i x e))

pub record IsFitting (kinds : List Kind) (t : Transaction) : Type 0 where
  pub set : IsSet kinds t.set
  pub commands : AreCommands kinds t.set t.commands

all_fitting : (kinds : List Kind) (items : List Item) → All (IsItem kinds) items → All (IsFitting kinds) (transactions items)
all_fitting kinds [] h = All-nil (IsFitting kinds)
all_fitting kinds (item.Transaction set commands commit ∷ items) h =
    let here = All-head (IsItem kinds) (item.Transaction set commands commit) items h in
    All-cons (IsFitting kinds) (record { set = set; commands = commands; commit = commit }) (transactions items)
    (record { set = here.0; commands = here.1 })
    (all_fitting kinds items (All-tail (IsItem kinds) (item.Transaction set commands commit) items h))
all_fitting kinds (item.Checkpoint ∷ items) h = all_fitting kinds items (All-tail (IsItem kinds) item.Checkpoint items h)

none_there : {A : Type 0} (n : ℕ) (t : Transaction) → slice_get [] n ≡ Some t → A
none_there n t e = absurd cc

fitting_in : (kinds : List Kind) (lanes : List LaneText) (lane n : ℕ) (t : Transaction) (found : Option LaneText)
    → All (IsLaneText kinds) lanes → slice_get lanes lane ≡ found → slice_get (transactions_of found) n ≡ Some t → IsFitting kinds t
fitting_in kinds lanes lane n t None h e f = none_there n t f
fitting_in kinds lanes lane n t (Some text) h e f =
    all_get (IsFitting kinds) (transactions text.items) n t (all_fitting kinds text.items (all_get (IsLaneText kinds) lanes lane text h e)) f

pub fitting : (script : Script) (name : Named) (t : Transaction) → IsScript script → transaction_of script name ≡ Some t → IsFitting script.kinds t
fitting script name t is e = fitting_in script.kinds script.lanes name.lane name.number t (slice_get script.lanes name.lane) is.lanes refl e

-- ---- their commands name structures of their sets

abbrev pub named : List Kind → ℕ → ℕ → Bool
named kinds set s = has_bit set s && has_kind kinds s

pub both : (a b : Bool) → a ≡ true → b ≡ true → (a && b) ≡ true
both true b e f = f
both false b e f = absurd cc

pub left_of : (a b : Bool) → (a && b) ≡ true → a ≡ true
left_of true b e = refl
left_of false b e = absurd cc

pub right_of : (a b : Bool) → (a && b) ≡ true → b ≡ true
right_of true b e = e
right_of false b e = absurd cc

within_one : (kinds : List Kind) (set live : ℕ) (c : Command) → Fits kinds set live c → IsWithin (named kinds set) c
within_one kinds set live (command.Put s key value) fits = both (has_bit set s) _ fits.0.1 (lt-ltb s (length kinds) fits.0.0)
within_one kinds set live (command.Del s key) fits = both (has_bit set s) _ fits.1 (lt-ltb s (length kinds) fits.0)
within_one kinds set live (command.Get s key) fits = both (has_bit set s) _ fits.1 (lt-ltb s (length kinds) fits.0)
within_one kinds set live command.Savepoint fits = tt
within_one kinds set live (command.Rollback n) fits = tt

pub within : (kinds : List Kind) (set live : ℕ) (commands : List Command) → AllFit kinds set live commands → AreWithin (named kinds set) commands
within kinds set live [] fit = tt
within kinds set live (c ∷ commands) fit = (within_one kinds set live c fit.0, within kinds set (live_step live c) commands fit.1)

-- ---- the names of a history are a printed history

pub names_after : (e : Entry MapDeed) (history : List (Entry MapDeed)) → IsEarlierThanAll e history → All (IsBefore (name_of e)) (names_of history)
names_after e [] h = All-nil (IsBefore (name_of e))
names_after e (later ∷ history) h =
    All-cons (IsBefore (name_of e)) (name_of later) (names_of history) h.0.rises (names_after e history h.1)

pub commits_of : (script : Script) (history : List (Entry MapDeed)) → All (IsEntryOf script) history → All (IsCommit script) (names_of history)
commits_of script [] h = All-nil (IsCommit script)
commits_of script (e ∷ history) h =
    let here = All-head (IsEntryOf script) e history h in
    All-cons (IsCommit script) (name_of e) (names_of history)
    (record { transaction = here.transaction; is = here.is; commit = here.commit })
    (commits_of script history (All-tail (IsEntryOf script) e history h))
