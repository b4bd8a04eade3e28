-- Printed histories of a small script, what they make, and what is printed of them.
use Rattle.std.proofs.Common.{◌≡◌, ℕ, ◌<◌, Bool, true, false, [], ◌∷◌, Option, Some, None, refl, ap, ◌∙◌, arith}
use Rattle.std.proofs.lemmas.List.Elements.{All-cons, All-head, All-nil}
use Rattle.region_layout.specs.declared.layout.Layout.{Layout}
use Rattle.region_layout.specs.declared.layout.Kind.TheVariants.{Cells, Tree}
use Rattle.rewind_script.specs.declared.script.Script.{Script}
use Rattle.rewind_script.specs.declared.script.Item.TheVariants as item
use Rattle.rewind_script.specs.declared.script.Command.TheVariants as command
use Rattle.rewind_script.specs.declared.report.Named.{Named}
use Rattle.map_deeds.specs.Printed.{Transaction, transaction_of, IsBefore, AreInOrder, IsCommit, IsPrintedHistory, maps_after, printed_after}
use Rattle.map_deeds.specs.Reports.{others, script_report}

abbrev name : ℕ → ℕ → Named
name lane number = record { lane = lane; number = number }

module _ (layout : Layout) where
  -- lane 1 aborts its first transaction, and lane 0 has a checkpoint between its two
  abbrev two_lanes : Script
  two_lanes = record {
    layout = layout;
    kinds = Cells ∷ Tree ∷ [];
    turns = [];
    lanes =
        record { items = item.Transaction 1 (command.Put 0 3 7 ∷ []) true ∷ item.Checkpoint ∷ item.Transaction 3 (command.Get 0 3 ∷ command.Put 1 3 8 ∷ []) true ∷ [] }
        ∷ record { items = item.Transaction 1 (command.Del 0 3 ∷ []) false ∷ item.Transaction 1 (command.Get 0 3 ∷ command.Put 0 3 9 ∷ []) true ∷ [] }
        ∷ [];
    batch = false;
  }

  -- a checkpoint isn't counted
  second : transaction_of two_lanes (name 0 1) ≡ Some (record { set = 3; commands = command.Get 0 3 ∷ command.Put 1 3 8 ∷ []; commit = true })
  second = refl

  no_third : transaction_of two_lanes (name 0 2) ≡ None
  no_third = refl

  no_lane : transaction_of two_lanes (name 2 0) ≡ None
  no_lane = refl

  -- the order of the list decides what is read and what is left
  first_order : printed_after two_lanes (name 0 0 ∷ name 1 1 ∷ name 0 1 ∷ [])
      ≡ record { lane = 0; number = 0; gets = [] }
      ∷ record { lane = 1; number = 1; gets = record { key = 3; value = Some 7 } ∷ [] }
      ∷ record { lane = 0; number = 1; gets = record { key = 3; value = Some 9 } ∷ [] }
      ∷ []
  first_order = refl

  other_order : printed_after two_lanes (name 1 1 ∷ name 0 0 ∷ name 0 1 ∷ [])
      ≡ record { lane = 1; number = 1; gets = record { key = 3; value = None } ∷ [] }
      ∷ record { lane = 0; number = 0; gets = [] }
      ∷ record { lane = 0; number = 1; gets = record { key = 3; value = Some 7 } ∷ [] }
      ∷ []
  other_order = refl

  first_cells : maps_after two_lanes (name 0 0 ∷ name 1 1 ∷ name 0 1 ∷ []) 0 ≡ (3, 9) ∷ []
  first_cells = refl

  first_tree : maps_after two_lanes (name 0 0 ∷ name 1 1 ∷ name 0 1 ∷ []) 1 ≡ (3, 8) ∷ []
  first_tree = refl

  other_cells : maps_after two_lanes (name 1 1 ∷ name 0 0 ∷ name 0 1 ∷ []) 0 ≡ (3, 7) ∷ []
  other_cells = refl

  the_others : others two_lanes (name 0 1 ∷ []) ≡ name 0 0 ∷ name 1 0 ∷ name 1 1 ∷ []
  the_others = refl

  -- a commit of lane 1 was kept at the stop: it isn't among the commits, and its put is in the map
  kept_report : script_report two_lanes (name 0 0 ∷ []) (name 1 1 ∷ []) [] ≡ record {
    commits = record { lane = 0; number = 0; gets = [] } ∷ [];
    kept = name 1 1 ∷ [];
    fates = [];
    maps = record { pairs = record { key = 3; value = 9 } ∷ [] } ∷ record { pairs = [] } ∷ [];
  }
  kept_report = refl

  a_printed_history : IsPrintedHistory two_lanes (name 1 1 ∷ name 0 1 ∷ [])
  a_printed_history = record {
    commits = All-cons (IsCommit two_lanes) (name 1 1) (name 0 1 ∷ []) (record { transaction = _; is = refl; commit = refl })
        (All-cons (IsCommit two_lanes) (name 0 1) [] (record { transaction = _; is = refl; commit = refl }) (All-nil (IsCommit two_lanes)));
    in_order = (All-cons (IsBefore (name 1 1)) (name 0 1) [] (λ same. absurd (omega (arith, same))) (All-nil (IsBefore (name 1 1))), (All-nil (IsBefore (name 0 1)), tt));
  }

-- an abort is in no printed history
is_commit : Option Transaction → Bool
is_commit None = false
is_commit (Some t) = t.commit

no_abort : (layout : Layout) → IsCommit (two_lanes layout) (name 1 0) → ⊥
unfolding is_commit
no_abort layout c = let no : false ≡ true = ap is_commit c.is ∙ c.commit in absurd cc

-- nor is a lane's later transaction before an earlier one, or one twice
no_disorder : AreInOrder (name 0 1 ∷ name 0 0 ∷ []) → ⊥
no_disorder ordered = let less : 1 < 0 = All-head (IsBefore (name 0 1)) (name 0 0) [] ordered.0 refl in absurd (omega (arith, less))

no_repeat : AreInOrder (name 0 1 ∷ name 0 1 ∷ []) → ⊥
no_repeat ordered = let less : 1 < 1 = All-head (IsBefore (name 0 1)) (name 0 1) [] ordered.0 refl in absurd (omega (arith, less))
