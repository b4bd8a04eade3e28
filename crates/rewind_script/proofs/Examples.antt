-- Texts and what they mean, computed.
use Rattle.std.proofs.Common.{◌≡◌, ◌%◌, [], ◌∷◌, codes, Ok, Err, Some, None, true, false, refl, arith}
use Rattle.std.specs.Fmt.{digits}
use Rattle.region_layout.specs.declared.layout.Kind.TheVariants.{Cells, Hash}
use Rattle.rewind_script.specs.declared.fault.ScriptFault.TheVariants.{Line}
use Rattle.rewind_script.specs.declared.fault.Fault.TheVariants as fault
use Rattle.rewind_script.specs.declared.script.Command.TheVariants as command
use Rattle.rewind_script.specs.declared.script.Item.TheVariants as item
use Rattle.rewind_script.specs.declared.report.How.TheVariants as how
use Rattle.rewind_script.specs.Text.{words, number, spelled}
use Rattle.rewind_script.specs.Order.{keyword_of, may_stand}
use Rattle.rewind_script.specs.Steps.{numerals}
use Rattle.rewind_script.specs.Head.{after_region, after_log, after_partitions, after_map}
use Rattle.rewind_script.specs.TurnLines.{turn, turn_parts, turn_list, add_turns, after_turns}
use Rattle.rewind_script.specs.Lanes.{lanes_of, with_bits, after_lane, after_begin, after_ending}
use Rattle.rewind_script.specs.Commands.{reached, after_put, after_savepoint, after_rollback, live_after}
use Rattle.rewind_script.specs.Grammar.{script, script_from, blank, after_line, after_words, is_whole, meaning_of_reading}
use Rattle.rewind_script.specs.Limits.{Fits, AllFit}
use Rattle.rewind_script.specs.Report.{report}
use Rattle.rewind_script.specs.Generator.{next_state, drawn, put_line}

-- ---- words and numbers

two_words : words (codes "  put\t7 ") ≡ codes "put" ∷ codes "7" ∷ []
unfolding words
two_words = refl

zeros : number (codes "007") ≡ Some 7
unfolding number spelled
zeros = refl

too_large : number (codes "18446744073709551616") ≡ None
unfolding number spelled
too_large = refl

too_long : number (codes "000000000000000000008") ≡ None
unfolding number spelled
too_long = refl

-- the first x parts a turn, so a second one stands in a number
parted : (turn (codes "2x0") ≡ Ok (2, 0)) × (turn (codes "2x0x1") ≡ Err fault.Number) × (turn (codes "7") ≡ Ok (7, 1))
unfolding turn turn_parts number spelled
parted = (refl, refl, refl)

-- ---- scripts

wrong_log : script (codes "region force 8 16\n# a comment\nlog simpel 1") ≡ Err (Line 3 fault.Word)
unfolding script script_from blank after_line words after_words keyword_of may_stand after_region after_log number spelled
wrong_log = refl

no_map : script (codes "region force 8 16\nlog simple\n") ≡ Err (Line 3 fault.Unfinished)
unfolding script script_from blank after_line words after_words keyword_of may_stand after_region after_log number spelled is_whole
no_map = refl

ninth_map : script (codes "region force 8 16\nlog simple\nmap tree\nmap tree\nmap tree\nmap tree\nmap tree\nmap tree\nmap tree\nmap tree\nmap tree") ≡ Err (Line 11 fault.Limit)
unfolding script script_from blank after_line words after_words keyword_of may_stand after_region after_log after_map number spelled
ninth_map = refl

narrow : script (codes "region force 7 16\nlog simple\npartitions 2") ≡ Err (Line 3 fault.Range)
unfolding script script_from blank after_line words after_words keyword_of may_stand after_region after_log after_partitions number spelled
narrow = refl

-- key comes before held
high_key : script (codes "region force 4 16\nlog simple\nmap cells\nmap tree\nlane\nbegin 1\nput 0 12 1") ≡ Err (Line 7 fault.Key)
unfolding script script_from blank after_line words after_words keyword_of may_stand after_region after_log after_map after_lane lanes_of after_begin numerals with_bits after_put reached number spelled
high_key = refl

-- rollback 0 keeps savepoint 0 alone
dropped : script (codes "region force 4 16\nlog simple\nmap cells\nlane\nbegin 0\nsavepoint\nsavepoint\nrollback 0\nrollback 1\n") ≡ Err (Line 9 fault.Range)
unfolding script script_from blank after_line words after_words keyword_of may_stand after_region after_log after_map after_lane lanes_of after_begin numerals with_bits after_savepoint after_rollback live_after number spelled
dropped = refl

whole : script (codes "region noforce 8 16\r\nlog batch\nmap hash\nturns 3x2\nlane\nbegin 0 0\nput 0 12 7\nabort")
    ≡ Ok (record {
      shape = record { policy = 2; cells = 16; buckets = 8; blocks = 16; structures = 1; format = 2; partitions = 1 };
      kinds = Hash ∷ [];
      turns = record { lane = 3; times = 2 } ∷ [];
      lanes = record { items = item.Transaction 1 (command.Put 0 12 7 ∷ []) false ∷ [] } ∷ [];
      batch = true;
    })
unfolding script script_from blank after_line words after_words keyword_of may_stand after_region after_log after_map turn turn_parts turn_list add_turns after_turns after_lane lanes_of after_begin numerals with_bits after_put reached after_ending number spelled is_whole meaning_of_reading
whole = refl

-- ---- limits

fitting : AllFit (Cells ∷ []) 1 0 (command.Savepoint ∷ command.Put 0 11 1 ∷ command.Rollback 0 ∷ [])
fitting = (tt, (((omega arith, refl, λ _. omega arith), omega arith), (omega arith, tt)))

not_live : Fits (Cells ∷ []) 1 1 (command.Rollback 1) → ⊥
not_live h = omega (arith, h)

-- ---- reports and generated scripts

reported : report (record {
  commits = record { lane = 0; number = 0; gets = record { key = 4; value = None } ∷ record { key = 5; value = Some 60 } ∷ [] } ∷ [];
  kept = record { lane = 2; number = 1 } ∷ [];
  fates = record { lane = 2; number = 2; how = how.Full 3 5 } ∷ record { lane = 3; number = 0; how = how.Lost } ∷ [];
  maps = record { pairs = [] } ∷ record { pairs = record { key = 1; value = 10 } ∷ [] } ∷ [];
}) ≡ codes "commit 0 0\ngot 4 none\ngot 5 60\nkept 2 1\nfull 2 2 3 5\nlost 3 0\nmap 0\nmap 1\n1 10\nend\n"
unfolding report digits
reported = refl

first_put : (drawn 1 % 3 ≡ 2) × (put_line 2 (next_state 1) ≡ codes "put 2 153 341197\n")
unfolding next_state digits
first_put = (refl, refl)
