-- Each right line keeps what holds of a reading.
use Rattle.std.proofs.Common.{◌≡◌, ◌⊎◌, ℕ, ◌+◌, ◌*◌, ◌<◌, ◌≤◌, List, [], ◌∷◌, ◌++◌, length, refl, sym, ◌∙◌, ap, subst, arith, Bool, true, false, ◌&&◌, ◌||◌, not, ◌==◌, Result, Ok, Option, Some, None, inl, inr, IsTrue, if◌then◌else◌, length-append, nat_lt, nat_le, ltb-true, leb-true}
use Rattle.std.specs.List.{All, slice_index_or, list_all}
use Rattle.std.proofs.lemmas.List.Elements.{All-push, All-nil}
use Rattle.std.proofs.lemmas.List.Sums.{sum_by-append}
use Rattle.region_layout.specs.Layout.{policy_number}
use Rattle.region_layout.specs.declared.layout.Policy.{Policy}
use Rattle.region_layout.specs.declared.layout.Policy.TheVariants.{Force, NoForce}
use Rattle.region_layout.specs.declared.layout.Kind.{Kind}
use Rattle.region_layout.specs.declared.layout.Kind.TheVariants.{Tree}
use Rattle.rewind_script.specs.declared.fault.Fault.{Fault}
use Rattle.rewind_script.specs.declared.fault.Fault.TheVariants as fault
use Rattle.rewind_script.specs.declared.script.Command.{Command}
use Rattle.rewind_script.specs.declared.script.Command.TheVariants as command
use Rattle.rewind_script.specs.declared.script.Item.{Item}
use Rattle.rewind_script.specs.declared.script.Item.TheVariants as item
use Rattle.rewind_script.specs.declared.script.LaneText.{LaneText}
use Rattle.rewind_script.specs.declared.script.Turns.{Turns}
use Rattle.rewind_script.specs.declared.read.reading.Part.{Part}
use Rattle.rewind_script.specs.declared.read.reading.Part.TheVariants as part
use Rattle.rewind_script.specs.declared.read.reading.Keyword.{Keyword}
use Rattle.rewind_script.specs.declared.read.reading.Keyword.TheVariants as keyword
use Rattle.rewind_script.specs.declared.read.reading.Reading.{Reading}
use Rattle.rewind_script.specs.Text.{words}
use Rattle.rewind_script.specs.Steps.{◌>>=◌, guard, or_fault, numeral, numerals, arg, sized, named}
use Rattle.rewind_script.specs.Order.{may_stand, is_transaction, is_lane, keyword_of}
use Rattle.rewind_script.specs.Head.{policy_of, log_of, kind_of, after_region, after_log, after_partitions, after_map}
use Rattle.rewind_script.specs.TurnLines.{add_turn, add_turns, turn_list, after_turns}
use Rattle.rewind_script.specs.Lanes.{structure, is_structure, set_of, with_bits, lanes_of, after_lane, after_begin, after_checkpoint, after_ending}
use Rattle.rewind_script.specs.Commands.{after_put, after_key, after_savepoint, after_rollback, structure_key, reached, holds, is_cells, with_command, live_after, live_step}
use Rattle.rewind_script.specs.Grammar.{after_keyword, after_words, after_line, is_passed_over, is_text_byte, blank, is_whole, meaning_of_reading}
use Rattle.rewind_script.specs.Limits.{IsReading, IsWithinLimits, IsSized, IsSet, IsItem, IsLaneText, IsTurns, Reaches, Fits, AllFit, AreCommands, is_early, is_one, count_transactions, count_in_lanes, begun_lanes, begun_transactions}
use Rattle.rewind_script.proofs.Stages.{by_bind, by_guard, ok_same, both, positive, cells_key, named_set, early_region, early_log, early_partitions, early_map, early_turns, lane_checkpoint, lane_begin, inside_put, inside_del, inside_get, inside_savepoint, inside_rollback, inside_commit, inside_abort, apart_lane, early_counts}

-- ---- before the lanes

no_commands : (kinds : List Kind) (set : ℕ) → AreCommands kinds set []
no_commands kinds set = record { count = omega arith; fit = tt }

moved : (reading : Reading) (p : Part) → IsReading reading → is_early reading.part ≡ true → is_early p ≡ true → IsReading (record reading { part = p })
moved reading p h was will =
    let before = early_counts reading.part was in
    let after = early_counts p will in
    record {
      sized = h.sized;
      kinds = h.kinds;
      turns = h.turns;
      total = h.total;
      count = omega (arith, h.count, before.0, after.0);
      lanes = h.lanes;
      items = h.items;
      transactions = (omega (arith, h.transactions.0, before.1, after.1), h.transactions.1);
      set = λ is. let bad : false ≡ true = sym after.2 ∙ is in cc;
      commands = h.commands;
      early = λ _. h.early was;
    }

resized : (reading : Reading) (policy : Policy) (cells : ℕ) (batch : Bool) (buckets blocks partitions : ℕ) → IsReading reading → IsSized cells batch buckets blocks partitions
    → IsReading (record reading { policy = policy; cells = cells; batch = batch; buckets = buckets; blocks = blocks; partitions = partitions })
resized reading policy cells batch buckets blocks partitions h sizes = record {
  sized = sizes;
  kinds = h.kinds;
  turns = h.turns;
  total = h.total;
  count = h.count;
  lanes = h.lanes;
  items = h.items;
  transactions = h.transactions;
  set = h.set;
  commands = h.commands;
  early = h.early;
}

abbrev region_of : Reading → Policy → ℕ → ℕ → Reading
region_of reading policy buckets blocks = record reading { part = part.Region; policy = policy; buckets = buckets; blocks = blocks; partitions = 1 }

abbrev region_limits : Reading → Policy → ℕ → ℕ → Result Reading Fault
region_limits reading policy buckets blocks =
    guard (nat_le 4 buckets && nat_le buckets 1024 && nat_le 16 blocks && nat_le blocks 65536) fault.Range >>= λ _. Ok (region_of reading policy buckets blocks)

abbrev region_blocks : Reading → List (List ℕ) → Policy → ℕ → Result Reading Fault
region_blocks reading args policy buckets = numeral (arg args 2) >>= region_limits reading policy buckets

abbrev region_buckets : Reading → List (List ℕ) → Policy → Result Reading Fault
region_buckets reading args policy = numeral (arg args 1) >>= region_blocks reading args policy

pub kept_region : (reading next : Reading) (args : List (List ℕ)) → IsReading reading → is_early reading.part ≡ true → after_region reading args ≡ Ok next → IsReading next
unfolding after_region
kept_region reading next args h was is =
    let policy = by_bind (named policy_of args) (λ p. sized 3 args >>= λ _. region_buckets reading args p) next is in
    let count = by_guard (length args == 3) fault.Count (λ _. region_buckets reading args policy.0) next policy.1.1 in
    let buckets = by_bind (numeral (arg args 1)) (region_blocks reading args policy.0) next count.1 in
    let blocks = by_bind (numeral (arg args 2)) (region_limits reading policy.0 buckets.0) next buckets.1.1 in
    let limits = by_guard (nat_le 4 buckets.0 && nat_le buckets.0 1024 && nat_le 16 blocks.0 && nat_le blocks.0 65536) fault.Range (λ _. Ok (region_of reading policy.0 buckets.0 blocks.0)) next blocks.1.1 in
    let last = both (nat_le 4 buckets.0 && nat_le buckets.0 1024 && nat_le 16 blocks.0) (nat_le blocks.0 65536) limits.0 in
    let third = both (nat_le 4 buckets.0 && nat_le buckets.0 1024) (nat_le 16 blocks.0) last.0 in
    let first = both (nat_le 4 buckets.0) (nat_le buckets.0 1024) third.0 in
    let least : 4 ≤ buckets.0 = leb-true 4 buckets.0 first.0 in
    let sizes : IsSized reading.cells reading.batch buckets.0 blocks.0 1 = record {
      one_or_sixteen = h.sized.one_or_sixteen;
      of_batch = h.sized.of_batch;
      buckets_within = (least, leb-true buckets.0 1024 first.1);
      blocks_within = (leb-true 16 blocks.0 third.1, leb-true blocks.0 65536 last.1);
      partitions_within = (omega arith, omega arith);
      split = omega (arith, least);
    } in
    let kept = resized reading policy.0 reading.cells reading.batch buckets.0 blocks.0 1 h sizes in
    subst IsReading (ok_same (region_of reading policy.0 buckets.0 blocks.0) next limits.1)
    (moved (record reading { policy = policy.0; buckets = buckets.0; blocks = blocks.0; partitions = 1 }) part.Region kept was refl)

abbrev log_of_line : Reading → ℕ × Bool → Reading
log_of_line reading log = record reading { part = part.Log; cells = log.0; batch = log.1 }

is_log : (b c d : Bool) (log : ℕ × Bool) → (if b then Some (1, false) else (if c then Some (16, false) else (if d then Some (16, true) else None))) ≡ Some log
    → ((log.0 ≡ 1) ⊎ (log.0 ≡ 16)) × (IsTrue log.1 → log.0 ≡ 16)
is_log true c d log h = let e : (1, false) ≡ log = cc in subst (λ (l : ℕ × Bool). ((l.0 ≡ 1) ⊎ (l.0 ≡ 16)) × (IsTrue l.1 → l.0 ≡ 16)) e (inl refl, λ f. cc)
is_log false true d log h = let e : (16, false) ≡ log = cc in subst (λ (l : ℕ × Bool). ((l.0 ≡ 1) ⊎ (l.0 ≡ 16)) × (IsTrue l.1 → l.0 ≡ 16)) e (inr refl, λ f. refl)
is_log false false true log h = let e : (16, true) ≡ log = cc in subst (λ (l : ℕ × Bool). ((l.0 ≡ 1) ⊎ (l.0 ≡ 16)) × (IsTrue l.1 → l.0 ≡ 16)) e (inr refl, λ f. refl)
is_log false false false log h = cc

named_some : {A : Type 0} (f : List ℕ → Option A) (args : List (List ℕ)) (x : A) → named f args ≡ Ok x → (word : List ℕ) × (f word ≡ Some x)
named_some f [] x h = cc
named_some f (word ∷ args) x h = (word, of_some (f word) x h)
  where
    of_some : {A : Type 0} (o : Option A) (y : A) → or_fault fault.Word o ≡ Ok y → o ≡ Some y
    of_some (Some z) y e = ap Some (ok_same z y e)
    of_some None y e = cc

pub kept_log : (reading next : Reading) (args : List (List ℕ)) → IsReading reading → is_early reading.part ≡ true → after_log reading args ≡ Ok next → IsReading next
unfolding after_log
kept_log reading next args h was is =
    let log = by_bind (named log_of args) (λ l. sized 1 args >>= λ _. Ok (log_of_line reading l)) next is in
    let count = by_guard (length args == 1) fault.Count (λ _. Ok (log_of_line reading log.0)) next log.1.1 in
    let word = named_some log_of args log.0 log.1.0 in
    let fits = is_log _ _ _ log.0 word.1 in
    let sizes : IsSized log.0.0 log.0.1 reading.buckets reading.blocks reading.partitions = record {
      one_or_sixteen = fits.0;
      of_batch = fits.1;
      buckets_within = h.sized.buckets_within;
      blocks_within = h.sized.blocks_within;
      partitions_within = h.sized.partitions_within;
      split = h.sized.split;
    } in
    let kept = resized reading reading.policy log.0.0 log.0.1 reading.buckets reading.blocks reading.partitions h sizes in
    subst IsReading (ok_same (log_of_line reading log.0) next count.1) (moved (record reading { cells = log.0.0; batch = log.0.1 }) part.Log kept was refl)

abbrev partitions_of : Reading → ℕ → Reading
partitions_of reading count = record reading { part = part.Partitions; partitions = count }

abbrev partition_limits : Reading → ℕ → Result Reading Fault
partition_limits reading count = guard (nat_le 1 count && nat_le count 3 && nat_le (4 * count) reading.buckets) fault.Range >>= λ _. Ok (partitions_of reading count)

pub kept_partitions : (reading next : Reading) (args : List (List ℕ)) → IsReading reading → is_early reading.part ≡ true → after_partitions reading args ≡ Ok next → IsReading next
unfolding after_partitions
kept_partitions reading next args h was is =
    let sized = by_guard (length args == 1) fault.Count (λ _. numeral (arg args 0) >>= partition_limits reading) next is in
    let count = by_bind (numeral (arg args 0)) (partition_limits reading) next sized.1 in
    let limits = by_guard (nat_le 1 count.0 && nat_le count.0 3 && nat_le (4 * count.0) reading.buckets) fault.Range (λ _. Ok (partitions_of reading count.0)) next count.1.1 in
    let last = both (nat_le 1 count.0 && nat_le count.0 3) (nat_le (4 * count.0) reading.buckets) limits.0 in
    let first = both (nat_le 1 count.0) (nat_le count.0 3) last.0 in
    let sizes : IsSized reading.cells reading.batch reading.buckets reading.blocks count.0 = record {
      one_or_sixteen = h.sized.one_or_sixteen;
      of_batch = h.sized.of_batch;
      buckets_within = h.sized.buckets_within;
      blocks_within = h.sized.blocks_within;
      partitions_within = (leb-true 1 count.0 first.0, leb-true count.0 3 first.1);
      split = leb-true (4 * count.0) reading.buckets last.1;
    } in
    let kept = resized reading reading.policy reading.cells reading.batch reading.buckets reading.blocks count.0 h sizes in
    subst IsReading (ok_same (partitions_of reading count.0) next limits.1) (moved (record reading { partitions = count.0 }) part.Partitions kept was refl)

with_kind : (reading : Reading) (kind : Kind) → IsReading reading → is_early reading.part ≡ true → length reading.kinds < 8 → IsReading (record reading { kinds = reading.kinds ++ kind ∷ [] })
with_kind reading kind h was room =
    let kinds = reading.kinds ++ kind ∷ [] in
    let nothing = h.early was in
    let counts = early_counts reading.part was in
    record {
      sized = h.sized;
      kinds = omega (arith, length-append reading.kinds (kind ∷ []), room);
      turns = h.turns;
      total = h.total;
      count = h.count;
      lanes = subst (λ (ls : List LaneText). All (IsLaneText (reading.kinds ++ kind ∷ [])) ls) (sym nothing.0) (All-nil _);
      items = subst (λ (is : List Item). All (IsItem (reading.kinds ++ kind ∷ [])) is) (sym nothing.1) (All-nil _);
      transactions = h.transactions;
      set = λ is. let bad : false ≡ true = sym counts.2 ∙ is in cc;
      commands = subst (AreCommands (reading.kinds ++ kind ∷ []) reading.set) (sym nothing.2) (no_commands (reading.kinds ++ kind ∷ []) reading.set);
      early = h.early;
    }

abbrev map_of : Reading → Kind → Reading
map_of reading kind = record reading { part = part.Maps; kinds = reading.kinds ++ kind ∷ [] }

pub kept_map : (reading next : Reading) (args : List (List ℕ)) → IsReading reading → is_early reading.part ≡ true → after_map reading args ≡ Ok next → IsReading next
unfolding after_map
kept_map reading next args h was is =
    let kind = by_bind (named kind_of args) (λ k. sized 1 args >>= λ _. guard (nat_lt (length reading.kinds) 8) fault.Limit >>= λ _. Ok (map_of reading k)) next is in
    let count = by_guard (length args == 1) fault.Count (λ _. guard (nat_lt (length reading.kinds) 8) fault.Limit >>= λ _. Ok (map_of reading kind.0)) next kind.1.1 in
    let room = by_guard (nat_lt (length reading.kinds) 8) fault.Limit (λ _. Ok (map_of reading kind.0)) next count.1 in
    subst IsReading (ok_same (map_of reading kind.0) next room.1)
    (moved (record reading { kinds = reading.kinds ++ kind.0 ∷ [] }) part.Maps (with_kind reading kind.0 h was (ltb-true (length reading.kinds) 8 room.0)) was refl)

-- ---- turns

abbrev turn_of : Reading → ℕ × ℕ → Reading
turn_of reading t = record reading { turns = reading.turns ++ record { lane = t.0; times = t.1 } ∷ []; total = reading.total + t.1 }

kept_turn : (reading next : Reading) (t : ℕ × ℕ) → IsReading reading → add_turn reading t ≡ Ok next → IsReading next × (next.part ≡ reading.part)
kept_turn reading next t h is =
    let limits = by_guard (nat_le t.0 15 && nat_le 1 t.1 && nat_le (reading.total + t.1) 1000000) fault.Range (λ _. Ok (turn_of reading t)) next is in
    let last = both (nat_le t.0 15 && nat_le 1 t.1) (nat_le (reading.total + t.1) 1000000) limits.0 in
    let first = both (nat_le t.0 15) (nat_le 1 t.1) last.0 in
    let one : Turns = record { lane = t.0; times = t.1 } in
    subst (λ (n : Reading). IsReading n × (n.part ≡ reading.part)) (ok_same (turn_of reading t) next limits.1) (
      record {
        sized = h.sized;
        kinds = h.kinds;
        turns = All-push IsTurns reading.turns one h.turns (leb-true t.0 15 first.0, leb-true 1 t.1 first.1);
        total = (omega (arith, h.total.0, sum_by-append (λ (u : Turns). u.times) reading.turns (one ∷ [])), leb-true (reading.total + t.1) 1000000 last.1);
        count = h.count;
        lanes = h.lanes;
        items = h.items;
        transactions = h.transactions;
        set = h.set;
        commands = h.commands;
        early = h.early;
      },
      refl,
    )

kept_turn_list : (list : List (ℕ × ℕ)) (reading next : Reading) → IsReading reading → add_turns reading list ≡ Ok next → IsReading next × (next.part ≡ reading.part)
unfolding add_turns
kept_turn_list [] reading next h is = subst (λ (n : Reading). IsReading n × (n.part ≡ reading.part)) (ok_same reading next is) (h, refl)
kept_turn_list (t ∷ list) reading next h is =
    let first = by_bind (add_turn reading t) (λ r. add_turns r list) next is in
    let one = kept_turn reading first.0 t h first.1.0 in
    let all = kept_turn_list list first.0 next one.0 first.1.1 in
    (all.0, all.1 ∙ one.1)

abbrev turns_of : Reading → Reading
turns_of reading = record reading { part = part.Turns }

pub kept_turns : (reading next : Reading) (args : List (List ℕ)) → IsReading reading → is_early reading.part ≡ true → after_turns reading args ≡ Ok next → IsReading next
unfolding after_turns
kept_turns reading next args h was is =
    let some = by_guard (nat_lt 0 (length args)) fault.Count (λ _. turn_list args >>= λ list. add_turns reading list >>= λ n. Ok (turns_of n)) next is in
    let list = by_bind (turn_list args) (λ list. add_turns reading list >>= λ n. Ok (turns_of n)) next some.1 in
    let added = by_bind (add_turns reading list.0) (λ n. Ok (turns_of n)) next list.1.1 in
    let kept = kept_turn_list list.0 reading added.0 h added.1.0 in
    subst IsReading (ok_same (turns_of added.0) next added.1.1) (moved added.0 part.Turns kept.0 (ap is_early kept.1 ∙ was) refl)

-- ---- lanes and transactions

abbrev pub closed : Part → List LaneText → List Item → List LaneText
closed p lanes items = if is_lane p then lanes ++ record { items = items } ∷ [] else lanes

pub closed-all : (p : Part) (kinds : List Kind) (lanes : List LaneText) (items : List Item) → All (IsLaneText kinds) lanes → All (IsItem kinds) items → All (IsLaneText kinds) (closed p lanes items)
closed-all part.Lane kinds lanes items all these = All-push (IsLaneText kinds) lanes (record { items = items }) all these
closed-all _ kinds lanes items all these = all

pub closed-count : (p : Part) (lanes : List LaneText) (items : List Item) (total : ℕ) → is_transaction p ≡ false → (is_early p ≡ true → items ≡ [])
    → count_in_lanes lanes + count_transactions items + begun_transactions p ≡ total → count_in_lanes (closed p lanes items) ≡ total
closed-count part.Lane lanes items total apart none sum = omega (arith, sum, sum_by-append (λ (l : LaneText). count_transactions l.items) lanes (record { items = items } ∷ []))
closed-count part.Transaction lanes items total apart none sum = cc
closed-count _ lanes items total apart none sum = omega (arith, sum, ap count_transactions (none refl))

abbrev pub lane_of : Reading → Reading
lane_of reading = record reading { part = part.Lane; lanes = closed reading.part reading.lanes reading.items; items = [] }

pub kept_lane : (reading next : Reading) (args : List (List ℕ)) → IsReading reading → is_transaction reading.part ≡ false → after_lane reading args ≡ Ok next → IsReading next
unfolding after_lane lanes_of
kept_lane reading next args h apart is =
    let sized = by_guard (length args == 0) fault.Count (λ _. guard (nat_lt (length (closed reading.part reading.lanes reading.items)) 16) fault.Limit >>= λ _. Ok (lane_of reading)) next is in
    let room = by_guard (nat_lt (length (closed reading.part reading.lanes reading.items)) 16) fault.Limit (λ _. Ok (lane_of reading)) next sized.1 in
    let few : length (closed reading.part reading.lanes reading.items) < 16 = ltb-true _ 16 room.0 in
    let count = closed-count reading.part reading.lanes reading.items reading.transactions apart (λ e. (h.early e).1) h.transactions.0 in
    subst IsReading (ok_same (lane_of reading) next room.1)
    (record {
      sized = h.sized;
      kinds = h.kinds;
      turns = h.turns;
      total = h.total;
      count = omega (arith, few);
      lanes = closed-all reading.part reading.kinds reading.lanes reading.items h.lanes h.items;
      items = All-nil _;
      transactions = (omega (arith, count), h.transactions.1);
      set = λ e. cc;
      commands = h.commands;
      early = λ e. cc;
    })

pub kept_checkpoint : (reading next : Reading) (args : List (List ℕ)) → IsReading reading → reading.part ≡ part.Lane → after_checkpoint reading args ≡ Ok next → IsReading next
unfolding after_checkpoint
kept_checkpoint reading next args h inside is =
    let sized = by_guard (length args == 0) fault.Count (λ _. Ok (record reading { items = reading.items ++ item.Checkpoint ∷ [] })) next is in
    subst IsReading (ok_same (record reading { items = reading.items ++ item.Checkpoint ∷ [] }) next sized.1)
    (record {
      sized = h.sized;
      kinds = h.kinds;
      turns = h.turns;
      total = h.total;
      count = h.count;
      lanes = h.lanes;
      items = All-push (IsItem reading.kinds) reading.items item.Checkpoint h.items tt;
      transactions = (omega (arith, h.transactions.0, sum_by-append is_one reading.items (item.Checkpoint ∷ [])), h.transactions.1);
      set = h.set;
      commands = h.commands;
      early = λ e. let bad : false ≡ true = sym (ap is_early inside) ∙ e in cc;
    })

abbrev pub begun : Reading → ℕ → Reading
begun reading set = record reading { part = part.Transaction; transactions = reading.transactions + 1; set = set; commands = [] }

abbrev pub begin_limit : Reading → ℕ → Result Reading Fault
begin_limit reading set = guard (nat_lt reading.transactions 65536) fault.Limit >>= λ _. Ok (begun reading set)

abbrev pub begin_set : Reading → List ℕ → Result Reading Fault
begin_set reading list = set_of reading list >>= begin_limit reading

pub kept_begin : (reading next : Reading) (args : List (List ℕ)) → IsReading reading → reading.part ≡ part.Lane → after_begin reading args ≡ Ok next → IsReading next
unfolding after_begin
kept_begin reading next args h inside is =
    let some = by_guard (nat_lt 0 (length args)) fault.Count (λ _. numerals args >>= begin_set reading) next is in
    let list = by_bind (numerals args) (begin_set reading) next some.1 in
    let set = by_bind (set_of reading list.0) (begin_limit reading) next list.1.1 in
    let known = by_guard (list_all (is_structure reading) list.0) fault.Range (λ _. Ok (with_bits 0 list.0)) set.0 set.1.0 in
    let room = by_guard (nat_lt reading.transactions 65536) fault.Limit (λ _. Ok (begun reading set.0)) next set.1.1 in
    let names = named_set reading args list.0 (ltb-true 0 (length args) some.0) list.1.0 known.0 in
    subst IsReading (ok_same (begun reading set.0) next room.1)
    (record {
      sized = h.sized;
      kinds = h.kinds;
      turns = h.turns;
      total = h.total;
      count = omega (arith, h.count, ap begun_lanes inside);
      lanes = h.lanes;
      items = h.items;
      transactions = (omega (arith, h.transactions.0, ap begun_transactions inside), omega (arith, ltb-true reading.transactions 65536 room.0));
      set = λ _. subst (IsSet reading.kinds) (ok_same (with_bits 0 list.0) set.0 known.1) names;
      commands = no_commands reading.kinds set.0;
      early = λ e. cc;
    })

abbrev ended : Bool → Reading → Reading
ended commit reading = record reading { part = part.Lane; items = reading.items ++ item.Transaction reading.set reading.commands commit ∷ []; commands = [] }

pub kept_ending : (commit : Bool) (reading next : Reading) (args : List (List ℕ)) → IsReading reading → reading.part ≡ part.Transaction → after_ending commit reading args ≡ Ok next → IsReading next
unfolding after_ending
kept_ending commit reading next args h inside is =
    let sized = by_guard (length args == 0) fault.Count (λ _. Ok (ended commit reading)) next is in
    let one = item.Transaction reading.set reading.commands commit in
    subst IsReading (ok_same (ended commit reading) next sized.1)
    (record {
      sized = h.sized;
      kinds = h.kinds;
      turns = h.turns;
      total = h.total;
      count = omega (arith, h.count, ap begun_lanes inside);
      lanes = h.lanes;
      items = All-push (IsItem reading.kinds) reading.items (item.Transaction reading.set reading.commands commit) h.items (h.set (ap is_transaction inside), h.commands);
      transactions = (omega (arith, h.transactions.0, ap begun_transactions inside, sum_by-append is_one reading.items (item.Transaction reading.set reading.commands commit ∷ [])), h.transactions.1);
      set = λ e. cc;
      commands = no_commands reading.kinds reading.set;
      early = λ e. cc;
    })

-- ---- commands

AllFit-push : (kinds : List Kind) (set live : ℕ) (commands : List Command) (last : Command)
    → AllFit kinds set live commands → Fits kinds set (live_after live commands) last → AllFit kinds set live (commands ++ last ∷ [])
unfolding live_after
AllFit-push kinds set live [] last all h = (h, tt)
AllFit-push kinds set live (command ∷ rest) last all h = (all.0, AllFit-push kinds set (live_step live command) rest last all.1 h)

abbrev commanded : Reading → Command → Reading
commanded reading command = record reading { commands = reading.commands ++ command ∷ [] }

-- one command more
more : (reading next : Reading) (last : Command) → IsReading reading → reading.part ≡ part.Transaction → Fits reading.kinds reading.set (live_after 0 reading.commands) last
    → with_command reading last ≡ Ok next → IsReading next
more reading next last h inside fits is =
    let room = by_guard (nat_lt (length reading.commands) 256) fault.Limit (λ _. Ok (commanded reading last)) next is in
    let few : length reading.commands < 256 = ltb-true (length reading.commands) 256 room.0 in
    subst IsReading (ok_same (commanded reading last) next room.1)
    (record {
      sized = h.sized;
      kinds = h.kinds;
      turns = h.turns;
      total = h.total;
      count = h.count;
      lanes = h.lanes;
      items = h.items;
      transactions = h.transactions;
      set = h.set;
      commands = record { count = omega (arith, length-append reading.commands (last ∷ []), few); fit = AllFit-push reading.kinds reading.set 0 reading.commands last h.commands.fit fits };
      early = λ e. let bad : false ≡ true = sym (ap is_early inside) ∙ e in cc;
    })

-- a structure of the region, by its number
found : (reading : Reading) (s map : ℕ) → structure reading s ≡ Ok map → map < length reading.kinds
found reading s map is =
    let known = by_guard (is_structure reading s) fault.Range (λ _. Ok s) map is in
    let split = both (nat_lt s 8) (nat_lt s (length reading.kinds)) known.0 in
    omega (arith, ltb-true s (length reading.kinds) split.1, ok_same s map known.1)

guarded : (b : Bool) (kind : Fault) (x : Unit {0}) → guard b kind ≡ Ok x → b ≡ true
guarded true kind x h = refl
guarded false kind x h = cc

reaches : (reading : Reading) (map key : ℕ) (x : Unit {0}) → map < length reading.kinds → reached reading map key ≡ Ok x → Reaches reading.kinds reading.set map key
unfolding reached
reaches reading map key x there is =
    let low = by_guard (not (is_cells (slice_index_or reading.kinds map Tree)) || nat_le key 11) fault.Key (λ _. guard (holds reading.set map) fault.Held) x is in
    let held = guarded (holds reading.set map) fault.Held x low.1 in
    (there, held, cells_key (slice_index_or reading.kinds map Tree) key low.0)

abbrev pub put_reached : Reading → ℕ → ℕ → ℕ → Result Reading Fault
put_reached reading key value map = reached reading map key >>= λ _. with_command reading (command.Put map key value)

abbrev pub put_value : Reading → ℕ → ℕ → ℕ → Result Reading Fault
put_value reading key value map = guard (not (value == 0)) fault.Value >>= λ _. put_reached reading key value map

abbrev pub put_structure : Reading → ℕ → ℕ → ℕ → Result Reading Fault
put_structure reading s key value = structure reading s >>= put_value reading key value

abbrev pub put_third : Reading → List (List ℕ) → ℕ → ℕ → Result Reading Fault
put_third reading args s key = numeral (arg args 2) >>= put_structure reading s key

abbrev pub put_second : Reading → List (List ℕ) → ℕ → Result Reading Fault
put_second reading args s = numeral (arg args 1) >>= put_third reading args s

pub kept_put : (reading next : Reading) (args : List (List ℕ)) → IsReading reading → reading.part ≡ part.Transaction → after_put reading args ≡ Ok next → IsReading next
unfolding after_put
kept_put reading next args h inside is =
    let sized = by_guard (length args == 3) fault.Count (λ _. numeral (arg args 0) >>= put_second reading args) next is in
    let s = by_bind (numeral (arg args 0)) (put_second reading args) next sized.1 in
    let key = by_bind (numeral (arg args 1)) (put_third reading args s.0) next s.1.1 in
    let value = by_bind (numeral (arg args 2)) (put_structure reading s.0 key.0) next key.1.1 in
    let map = by_bind (structure reading s.0) (put_value reading key.0 value.0) next value.1.1 in
    let some = by_guard (not (value.0 == 0)) fault.Value (λ _. put_reached reading key.0 value.0 map.0) next map.1.1 in
    let reach = by_bind (reached reading map.0 key.0) (λ _. with_command reading (command.Put map.0 key.0 value.0)) next some.1 in
    more reading next (command.Put map.0 key.0 value.0) h inside
    (reaches reading map.0 key.0 reach.0 (found reading s.0 map.0 map.1.0) reach.1.0, positive value.0 some.0) reach.1.1

abbrev key_reached : Reading → ℕ → ℕ → Result (ℕ × ℕ) Fault
key_reached reading key map = reached reading map key >>= λ _. Ok (map, key)

abbrev key_structure : Reading → ℕ → ℕ → Result (ℕ × ℕ) Fault
key_structure reading s key = structure reading s >>= key_reached reading key

abbrev key_second : Reading → List (List ℕ) → ℕ → Result (ℕ × ℕ) Fault
key_second reading args s = numeral (arg args 1) >>= key_structure reading s

structure_reached : (reading : Reading) (args : List (List ℕ)) (at : ℕ × ℕ) → structure_key reading args ≡ Ok at → Reaches reading.kinds reading.set at.0 at.1
unfolding structure_key
structure_reached reading args at is =
    let sized = by_guard (length args == 2) fault.Count (λ _. numeral (arg args 0) >>= key_second reading args) at is in
    let s = by_bind (numeral (arg args 0)) (key_second reading args) at sized.1 in
    let key = by_bind (numeral (arg args 1)) (key_structure reading s.0) at s.1.1 in
    let map = by_bind (structure reading s.0) (key_reached reading key.0) at key.1.1 in
    let reach = by_bind (reached reading map.0 key.0) (λ _. Ok (map.0, key.0)) at map.1.1 in
    subst (λ (p : ℕ × ℕ). Reaches reading.kinds reading.set p.0 p.1) (ok_same (map.0, key.0) at reach.1.1)
    (reaches reading map.0 key.0 reach.0 (found reading s.0 map.0 map.1.0) reach.1.0)

pub kept_key : (make : ℕ → ℕ → Command) (fits : (kinds : List Kind) (set live map key : ℕ) → Reaches kinds set map key → Fits kinds set live (make map key))
    (reading next : Reading) (args : List (List ℕ)) → IsReading reading → reading.part ≡ part.Transaction → after_key make reading args ≡ Ok next → IsReading next
unfolding after_key
kept_key make fits reading next args h inside is =
    let at = by_bind (structure_key reading args) (λ p. with_command reading (make p.0 p.1)) next is in
    more reading next (make at.0.0 at.0.1) h inside (fits reading.kinds reading.set (live_after 0 reading.commands) at.0.0 at.0.1 (structure_reached reading args at.0 at.1.0)) at.1.1

pub kept_savepoint : (reading next : Reading) (args : List (List ℕ)) → IsReading reading → reading.part ≡ part.Transaction → after_savepoint reading args ≡ Ok next → IsReading next
unfolding after_savepoint
kept_savepoint reading next args h inside is =
    let sized = by_guard (length args == 0) fault.Count (λ _. with_command reading command.Savepoint) next is in
    more reading next command.Savepoint h inside tt sized.1

abbrev rollback_limit : Reading → ℕ → Result Reading Fault
rollback_limit reading n = guard (nat_lt n (live_after 0 reading.commands)) fault.Range >>= λ _. with_command reading (command.Rollback n)

pub kept_rollback : (reading next : Reading) (args : List (List ℕ)) → IsReading reading → reading.part ≡ part.Transaction → after_rollback reading args ≡ Ok next → IsReading next
unfolding after_rollback
kept_rollback reading next args h inside is =
    let sized = by_guard (length args == 1) fault.Count (λ _. numeral (arg args 0) >>= rollback_limit reading) next is in
    let n = by_bind (numeral (arg args 0)) (rollback_limit reading) next sized.1 in
    let live = by_guard (nat_lt n.0 (live_after 0 reading.commands)) fault.Range (λ _. with_command reading (command.Rollback n.0)) next n.1.1 in
    more reading next (command.Rollback n.0) h inside (ltb-true n.0 (live_after 0 reading.commands) live.0) live.1

-- ---- lines

kept_keyword : (k : Keyword) (reading next : Reading) (args : List (List ℕ)) → IsReading reading → may_stand reading.part k ≡ true → after_keyword k reading args ≡ Ok next → IsReading next
kept_keyword keyword.Region reading next args h may is = kept_region reading next args h (early_region reading.part may) is
kept_keyword keyword.Log reading next args h may is = kept_log reading next args h (early_log reading.part may) is
kept_keyword keyword.Partitions reading next args h may is = kept_partitions reading next args h (early_partitions reading.part may) is
kept_keyword keyword.Map reading next args h may is = kept_map reading next args h (early_map reading.part may) is
kept_keyword keyword.Turns reading next args h may is = kept_turns reading next args h (early_turns reading.part may) is
kept_keyword keyword.Lane reading next args h may is = kept_lane reading next args h (apart_lane reading.part may) is
kept_keyword keyword.Checkpoint reading next args h may is = kept_checkpoint reading next args h (lane_checkpoint reading.part may) is
kept_keyword keyword.Begin reading next args h may is = kept_begin reading next args h (lane_begin reading.part may) is
kept_keyword keyword.Put reading next args h may is = kept_put reading next args h (inside_put reading.part may) is
kept_keyword keyword.Del reading next args h may is = kept_key command.Del (λ kinds set live map key reach. reach) reading next args h (inside_del reading.part may) is
kept_keyword keyword.Get reading next args h may is = kept_key command.Get (λ kinds set live map key reach. reach) reading next args h (inside_get reading.part may) is
kept_keyword keyword.Savepoint reading next args h may is = kept_savepoint reading next args h (inside_savepoint reading.part may) is
kept_keyword keyword.Rollback reading next args h may is = kept_rollback reading next args h (inside_rollback reading.part may) is
kept_keyword keyword.Commit reading next args h may is = kept_ending true reading next args h (inside_commit reading.part may) is
kept_keyword keyword.Abort reading next args h may is = kept_ending false reading next args h (inside_abort reading.part may) is

kept_words : (words : List (List ℕ)) (reading next : Reading) → IsReading reading → after_words reading words ≡ Ok next → IsReading next
unfolding after_words
kept_words [] reading next h is = subst IsReading (ok_same reading next is) h
kept_words (first ∷ args) reading next h is =
    let keyword = by_bind (or_fault fault.Word (keyword_of first)) (λ k. guard (may_stand reading.part k) fault.Word >>= λ _. after_keyword k reading args) next is in
    let may = by_guard (may_stand reading.part keyword.0) fault.Word (λ _. after_keyword keyword.0 reading args) next keyword.1.1 in
    kept_keyword keyword.0 reading next args h may.0 may.1

kept_unless : (b : Bool) (reading next : Reading) (read : Result Reading Fault) → IsReading reading → (read ≡ Ok next → IsReading next) → (if b then Ok reading else read) ≡ Ok next → IsReading next
kept_unless true reading next read h goes is = subst IsReading (ok_same reading next is) h
kept_unless false reading next read h goes is = goes is

-- What holds of a reading holds after each right line.
pub kept_line : (reading next : Reading) (line : List ℕ) → IsReading reading → after_line reading line ≡ Ok next → IsReading next
unfolding after_line
kept_line reading next line h is =
    kept_unless (is_passed_over (words line)) reading next (guard (list_all is_text_byte line) fault.Byte >>= λ _. after_words reading (words line)) h
    (λ read. kept_words (words line) reading next h (by_guard (list_all is_text_byte line) fault.Byte (λ _. after_words reading (words line)) next read).1) is

pub blank_kept : IsReading blank
unfolding blank
blank_kept = record {
  sized = record {
    one_or_sixteen = inl refl;
    of_batch = λ e. cc;
    buckets_within = (omega arith, omega arith);
    blocks_within = (omega arith, omega arith);
    partitions_within = (omega arith, omega arith);
    split = omega arith;
  };
  kinds = omega arith;
  turns = All-nil _;
  total = (refl, omega arith);
  count = omega arith;
  lanes = All-nil _;
  items = All-nil _;
  transactions = (refl, omega arith);
  set = λ e. cc;
  commands = no_commands [] 0;
  early = λ e. (refl, refl, refl);
}

-- ---- a whole reading

closed-length : (p : Part) (lanes : List LaneText) (items : List Item) → length lanes + begun_lanes p ≤ 16 → length (closed p lanes items) ≤ 16
closed-length part.Lane lanes items h = omega (arith, h, length-append lanes (record { items = items } ∷ []))
closed-length _ lanes items h = omega (arith, h)

policy_within : (policy : Policy) → (1 ≤ policy_number policy) × (policy_number policy ≤ 2)
policy_within Force = (omega arith, omega arith)
policy_within NoForce = (omega arith, omega arith)

not_so : (b : Bool) → not b ≡ true → b ≡ false
not_so true h = cc
not_so false h = refl

pub within : (reading : Reading) → IsReading reading → is_whole reading ≡ true → IsWithinLimits (meaning_of_reading reading)
unfolding meaning_of_reading is_whole lanes_of
within reading h whole =
    let parts = both (nat_lt 0 (length reading.kinds)) (not (is_transaction reading.part)) whole in
    let apart = not_so (is_transaction reading.part) parts.1 in
    let count = closed-count reading.part reading.lanes reading.items reading.transactions apart (λ e. (h.early e).1) h.transactions.0 in
    record {
      region = record {
        policy = policy_within reading.policy;
        cells = h.sized.one_or_sixteen;
        buckets = h.sized.buckets_within;
        blocks = h.sized.blocks_within;
        structures = (ltb-true 0 (length reading.kinds) parts.0, h.kinds);
        format = (omega arith, omega arith);
        partitions = h.sized.partitions_within;
        whole = λ e. absurd (omega arith);
        split = h.sized.split;
      };
      format = refl;
      structures = refl;
      batch = h.sized.of_batch;
      turns = h.turns;
      turn_count = omega (arith, h.total.0, h.total.1);
      lane_count = closed-length reading.part reading.lanes reading.items h.count;
      lanes = closed-all reading.part reading.kinds reading.lanes reading.items h.lanes h.items;
      transactions = omega (arith, count, h.transactions.1);
    }
