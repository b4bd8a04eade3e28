-- One command more of a transaction.
use Rattle.std.proofs.Common.{◌≡◌, ℕ, List, [], ◌∷◌, ◌++◌, length, Option, Some, None, refl, sym, ◌∙◌, ap}
use Rattle.std.specs.List.{slice_get}
use Rattle.std.proofs.lemmas.List.{map-append}
use Rattle.rewind_script.specs.declared.script.Command.{Command}
use Rattle.rewind_script.specs.declared.script.Item.{Item}
use Rattle.rewind_script.specs.Limits.{AllFit, Fits}
use Rattle.rewind_script.specs.Commands.{live_step}
use Rattle.region_layout.specs.declared.layout.Kind.{Kind}
use Rattle.map_deeds.specs.Maps.{Maps, State, begun, after_command, after_commands, after_transaction, reply, replies, replies_in}
use Rattle.map_deeds.specs.Meanings.{command_of, got_of, commands_of, gots_of}
use Rattle.map_deeds.specs.Printed.{Transaction}
use Rattle.map_deeds.specs.declared.deed.Done.{Done}
use Rattle.lane_types.specs.Faces.{WholeFace}
use Rattle.map_deeds.specs.declared.deed.MapDeed.{MapDeed}
use Rattle.lane_worker.specs.declared.worker.Worker.{Worker}
use Rattle.lane_worker.specs.Stages.{IsInside}
use Rattle.lane_worker.specs.Commands.{commands_in, command_at}

-- ---- what one command more makes of the maps, and reads

commands_more : (state : State) (cs : List Command) (c : Command) → after_commands state (cs ++ c ∷ []) ≡ after_command (after_commands state cs) c
commands_more state [] c = refl
commands_more state (d ∷ cs) c = commands_more (after_command state d) cs c

replies_more : (state : State) (cs : List Command) (c : Command) → replies state (cs ++ c ∷ []) ≡ replies state cs ++ reply (after_commands state cs).maps c ∷ []
replies_more state [] c = refl
replies_more state (d ∷ cs) c = ap (λ xs. reply state.maps d ∷ xs) (replies_more (after_command state d) cs c)

pub maps_more : (maps : Maps) (cs : List Command) (c : Command) → after_transaction maps (cs ++ c ∷ []) ≡ (after_command (after_commands (begun maps) cs) c).maps
maps_more maps cs c = ap (λ (x : State). x.maps) (commands_more (begun maps) cs c)

pub reads_more : (maps : Maps) (cs : List Command) (c : Command) → replies_in maps (cs ++ c ∷ []) ≡ replies_in maps cs ++ reply (after_transaction maps cs) c ∷ []
reads_more maps cs c = replies_more (begun maps) cs c

pub done_more : (steps : List Done) (d : Done) → commands_of (steps ++ d ∷ []) ≡ commands_of steps ++ d.command ∷ []
done_more steps d = map-append command_of steps (d ∷ [])

pub gots_more : (steps : List Done) (d : Done) → gots_of (steps ++ d ∷ []) ≡ gots_of steps ++ d.got ∷ []
gots_more steps d = map-append got_of steps (d ∷ [])

-- ---- where a transaction is

-- what is left, with its first command
pub first_left : (steps : List Done) (rest : List Command) (c : Command) → slice_get (commands_of steps ++ rest) (length steps) ≡ Some c → (others : List Command) × (rest ≡ c ∷ others)
first_left [] [] c e = absurd cc
first_left [] (d ∷ rest) c e = (rest, ap (λ x. x ∷ rest) (some_is d c e))
  where
    some_is : (x y : Command) → Some x ≡ Some y → x ≡ y
    some_is x y same = cc
first_left (d ∷ steps) rest c e = first_left steps rest c e

pub none_left : (steps : List Done) (rest : List Command) → slice_get (commands_of steps ++ rest) (length steps) ≡ None → rest ≡ []
none_left [] [] e = refl
none_left [] (d ∷ rest) e = absurd cc
none_left (d ∷ steps) rest e = none_left steps rest e

-- the command that the worker is at, by what is left
pub command_is : (w : Worker) (t : Transaction) (f : WholeFace MapDeed) (maps : Maps) (rest : List Command) (o : Option Command) → IsInside w t f maps rest → command_at w ≡ o
    → slice_get (commands_of w.steps ++ rest) (length w.steps) ≡ o
command_is w t f maps rest o h e =
    ap (λ xs. slice_get xs (length w.steps)) (sym h.commands) ∙ ap (λ (i : Option Item). slice_get (commands_in i) (length w.steps)) (sym h.item) ∙ e

-- a command of a text fits
pub fits_there : (kinds : List Kind) (set live : ℕ) (cs : List Command) (c : Command) (rest : List Command) → AllFit kinds set live (cs ++ c ∷ rest) → (n : ℕ) × Fits kinds set n c
fits_there kinds set live [] c rest h = (live, h.0)
fits_there kinds set live (d ∷ cs) c rest h = fits_there kinds set (live_step live d) cs c rest h.1
