-- The tests' regions hold a sound state with one running transaction, and what its undo needs and leaves.
use Rattle.std.proofs.Common.{◌≡◌, ◌⊎◌, inl, inr, ℕ, zero, suc, true, ◌<◌, ◌≤◌, ◌==◌, if◌then◌else◌, List, [], ◌∷◌, ◌++◌, length, map, reverse, refl, sym, ap, ◌∙◌, subst, arith}
use Rattle.std.specs.Prelude.{slice_index}
use Rattle.std.specs.Vec.{vec_len, vec_capacity}
use Rattle.persist_model.specs.Region.{Words, Region, loaded, newest_words}
use Rattle.persist_model.specs.Records.{Record, Log, IsAmong, Has, IsOf, IsEnd, IsCheckpoint, IsRunning, IsLoser, IsSkipped}
use Rattle.persist_model.specs.Standing.{IsToUndo, Stands, undone, deleted, redone, kept}
use Rattle.persist_model.specs.Shape.{Shape, FIRST_MAGIC, SECOND_MAGIC, shape_of, IsShape, IsCellCount, IsBucketCount, log_words, heap_words, words_of_shape}
use Rattle.persist_model.specs.ImageRecords.{AreRecords}
use Rattle.persist_model.specs.State.{State, HasOpen, IsSoundState}
use Rattle.persist_model.specs.Sound.{HasState, IsListOf, room_of}
use Rattle.log_laws.specs.Recovery.{AreApplied}
use Rattle.log_laws.proofs.Deciding.{from_yes, decide_both, decide_has, decide_running, decide_to_undo}
use Rattle.log_laws.proofs.LogFaults.{LogHolds, log_some, sound_of_holds, decide_of}
use Rattle.log_laws.proofs.RecordSorting.{log_of}
use Rattle.log_laws.proofs.Soundness.{shape_some, parts_some, chains_in, state_gates}
use Rattle.log_laws.proofs.Verdicts.{ListsAreSound, LogIs, from_holds, holds, state_at, has_state_at}
use Rattle.persist_model.specs.Faults.{IsLogFault}
use Rattle.region_layout.specs.declared.layout.Layout.{Layout}
use Rattle.region_layout.specs.Layout.{layout_shape, policy_number}
use Rattle.bucket_log.specs.declared.scanning.Placed.{Placed}
use Rattle.bucket_log.specs.Scans.{record_of_placed}
use Rattle.bucket_log.proofs.PartStates.{log_words_same}
use Rattle.log_partition.specs.Merging.{AreLogsOf}
use Rattle.recovery_run.specs.declared.gates.Gates.{Gates}
use Rattle.recovery_run.specs.Groups.{ListsAll}
use Rattle.recovery_run.specs.Reached.{newest_at, HasSettled, IsQuiet}
use Rattle.recovery_run.proofs.ClosingPart.{same_heap}
use Rattle.recovery_run.proofs.Reaching.{read_newest, settled_begins, settled_reached}
use Rattle.recovery_undo.specs.declared.held.Held.{Held}
use Rattle.recovery_undo.specs.RecoveryAppends.{AreQuiet, KnowsRegion}
use Rattle.recovery_undo.specs.Checkpoint.{CanCheckpoint}
use Rattle.test_regions.specs.Pairs.{Pair, word_in, words_in}
use Rattle.test_regions.proofs.Regions.{words_long, word_at}
use Rattle.recovery_undo.specs.UndoRegions.{small, narrow, running, running_narrow, running_log, record_with, HasRunningGates, IsTested}
use Rattle.recovery_undo.specs.Undoing.{CanUndo, IsUndone}
use Rattle.recovery_undo.proofs.Places.{logs_of}

-- ---- the words

read_word : (pairs : List Pair) (a : ℕ) → a < 832 → newest_at (loaded (words_in pairs 832)) a ≡ word_in pairs a
read_word pairs a lt =
    let size : length (words_in pairs 832) ≡ 832 = words_long pairs 832 in
    read_newest (loaded (words_in pairs 832)) a (omega (arith, lt, size)) ∙ word_at pairs 832 a lt

-- ---- the two regions

-- These words have this shape, in format 1, a sound list and the log of the transaction.
record HasLog (s : Shape) (pairs : List Pair) : Type 0 where
  magic : word_in pairs 0 ≡ FIRST_MAGIC
  policy : word_in pairs 1 ≡ 2
  cells : IsCellCount (word_in pairs 2)
  buckets : IsBucketCount (word_in pairs 3)
  blocks : word_in pairs 4 ≡ 16
  structures : word_in pairs 5 ≡ 1
  shape_is : shape_of (word_in pairs) ≡ s
  long : words_of_shape s ≡ 832
  few : s.cells ≤ 16
  one : s.partitions ≡ 1
  no_force : s.policy ≡ 2
  quiet : (word_in pairs 10 ≡ 0) × (word_in pairs 12 ≡ 0)
  lists : ListsAreSound s (word_in pairs)
  log : LogIs s (word_in pairs) running_log
  sound : IsSoundState s (state_at s (word_in pairs) running_log)

log_is_sound : (s : Shape) (pairs : List Pair) → ListsAreSound s (word_in pairs) → LogIs s (word_in pairs) running_log →
    holds (LogHolds s (state_at s (word_in pairs) running_log)) (IsLogFault s (state_at s (word_in pairs) running_log)) (log_some s (state_at s (word_in pairs) running_log)) ≡ true →
    IsSoundState s (state_at s (word_in pairs) running_log)
log_is_sound s pairs lists log is =
    let state : State = state_at s (word_in pairs) running_log in
    let has : HasState s (word_in pairs) state = has_state_at s (word_in pairs) running_log lists log in
    sound_of_holds s state has.records.newest_first (state_gates s (word_in pairs) state has) (from_holds (LogHolds s state) (IsLogFault s state) (log_some s state) is)

small_lists : ListsAreSound small (word_in running)
unfolding shape_some parts_some log_of log_some chains_in
small_lists = refl

small_log : LogIs small (word_in running) running_log
unfolding shape_some parts_some log_of log_some chains_in
small_log = refl

small_sound : IsSoundState small (state_at small (word_in running) running_log)
unfolding shape_some parts_some log_of log_some chains_in
small_sound = log_is_sound small running small_lists small_log refl

narrow_lists : ListsAreSound narrow (word_in running_narrow)
unfolding shape_some parts_some log_of log_some chains_in
narrow_lists = refl

narrow_log : LogIs narrow (word_in running_narrow) running_log
unfolding shape_some parts_some log_of log_some chains_in
narrow_log = refl

narrow_sound : IsSoundState narrow (state_at narrow (word_in running_narrow) running_log)
unfolding shape_some parts_some log_of log_some chains_in
narrow_sound = log_is_sound narrow running_narrow narrow_lists narrow_log refl

small_has : HasLog small running
small_has = record {
  magic = refl;
  policy = refl;
  cells = inr refl;
  buckets = (omega arith, omega arith);
  blocks = refl;
  structures = refl;
  shape_is = refl;
  long = refl;
  few = omega arith;
  one = refl;
  no_force = refl;
  quiet = (refl, refl);
  lists = small_lists;
  log = small_log;
  sound = small_sound;
}

narrow_has : HasLog narrow running_narrow
narrow_has = record {
  magic = refl;
  policy = refl;
  cells = inl refl;
  buckets = (omega arith, omega arith);
  blocks = refl;
  structures = refl;
  shape_is = refl;
  long = refl;
  few = omega arith;
  one = refl;
  no_force = refl;
  quiet = (refl, refl);
  lists = narrow_lists;
  log = narrow_log;
  sound = narrow_sound;
}

-- ---- what they are to recovery

abbrev pub running_state : Words → (ℕ → ℕ) → State
running_state words room = record { log = running_log; words = words; room = room }

-- recovery begins at a state with the log of the transaction
pub record HasRunning (s : Shape) (region : Region) : Type 0 where
  pub words : Words
  pub room : ℕ → ℕ
  pub settled : HasSettled s (running_state words room) (running_state words room) region
  pub sound : IsSoundState s (running_state words room)
  pub quiet : AreQuiet s region
  pub few : s.cells ≤ 16
  pub no_force : s.policy ≡ 2

state_of_same : (shape : Shape) (u v : Words) (s : State) → ((a : ℕ) → a < words_of_shape shape → v a ≡ u a) → HasState shape u s → HasState shape v s
state_of_same shape u v s same h =
    let logs : log_words shape v ≡ log_words shape u = λ i a. log_words_same shape u v a (λ lt. same a (omega (arith, lt))) i in
    record {
      chains = h.chains;
      lists = λ q lt. subst (λ (x : Words). IsListOf shape q x (h.chains q)) (sym logs) (h.lists q lt);
      records = subst (λ (x : Words). AreRecords shape h.chains x s.log) (sym logs) h.records;
      words = h.words ∙ sym (same_heap shape u v (λ a le lt. same a lt));
      room = λ q lt. h.room q lt ∙ ap (λ (x : Words). room_of shape x q (h.chains q)) (sym logs);
    }

module _ (s : Shape) (pairs : List Pair) (h : HasLog s pairs) where
  abbrev region : Region
  region = loaded (words_in pairs 832)

  abbrev w : Words
  w = word_in pairs

  shape_is : shape_of (newest_at region) ≡ s
  shape_is = (λ i. record {
    policy = read_word pairs 1 (omega arith) i;
    cells = read_word pairs 2 (omega arith) i;
    buckets = read_word pairs 3 (omega arith) i;
    blocks = read_word pairs 4 (omega arith) i;
    structures = read_word pairs 5 (omega arith) i;
    format = if read_word pairs 0 (omega arith) i == SECOND_MAGIC then 2 else 1;
    partitions = if read_word pairs 0 (omega arith) i == SECOND_MAGIC then read_word pairs 6 (omega arith) i else 1;
  }) ∙ h.shape_is

  is_shape : IsShape (length (words_in pairs 832)) (newest_at region)
  is_shape =
      let magic : newest_at region 0 ≡ 5933297088048660481 = read_word pairs 0 (omega arith) ∙ h.magic in
      let blocks : newest_at region 4 ≡ 16 = read_word pairs 4 (omega arith) ∙ h.blocks in
      let structures : newest_at region 5 ≡ 1 = read_word pairs 5 (omega arith) ∙ h.structures in
      let size = words_long pairs 832 in
      record {
        enough = omega (arith, size);
        magic = inl magic;
        policy = inr (read_word pairs 1 (omega arith) ∙ h.policy);
        cells = subst IsCellCount (sym (read_word pairs 2 (omega arith))) h.cells;
        buckets = subst IsBucketCount (sym (read_word pairs 3 (omega arith))) h.buckets;
        blocks = (omega (arith, blocks), omega (arith, blocks));
        structures = (omega (arith, structures), omega (arith, structures));
        partitions = λ second. absurd (omega (arith, magic, second));
        kinds = λ second. absurd (omega (arith, magic, second));
        long = size ∙ sym h.long ∙ ap words_of_shape (sym shape_is);
      }

  settled : HasSettled s (state_at s w running_log) (state_at s w running_log) region
  settled = settled_begins s (state_at s w running_log) region (λ a lt. refl) (record { header = is_shape; shape_is = shape_is })
      (state_of_same s w (newest_at region) (state_at s w running_log) (λ a lt. read_word pairs a (subst (λ n. a < n) h.long lt)) (has_state_at s w running_log h.lists h.log))

  -- TO_APPEND and TO_REMOVE are 0
  quiet : (p : ℕ) → p < s.partitions → IsQuiet p (newest_at region)
  quiet zero lt = (read_word pairs 10 (omega arith) ∙ h.quiet.0, read_word pairs 12 (omega arith) ∙ h.quiet.1)
  quiet (suc p) lt = let one = h.one in absurd (omega (arith, lt, one))

  has_running : HasRunning s (loaded (words_in pairs 832))
  has_running = record {
    words = heap_words s w;
    room = (state_at s w running_log).room;
    settled = settled;
    sound = h.sound;
    quiet = quiet;
    few = h.few;
    no_force = h.no_force;
  }

pub tested : (s : Shape) (region : Region) → IsTested s region → HasRunning s region
tested s region which = elim which [
  | inl k ↦ subst (λ (z : Shape). HasRunning z region) (sym k.0) (subst (λ (r : Region). HasRunning small r) (sym k.1) (has_running small running small_has))
  | inr k ↦ subst (λ (z : Shape). HasRunning z region) (sym k.0) (subst (λ (r : Region). HasRunning narrow r) (sym k.1) (has_running narrow running_narrow narrow_has))
]

-- the words that are read are those of logs
pub tested_logs : (layout : Layout) (region : Region) (row : List ℕ) → row ≡ newest_words region → IsTested (layout_shape layout) region → AreLogsOf layout (length row) (slice_index row)
tested_logs layout region row is which =
    let h = tested (layout_shape layout) region which in
    let state : State = running_state h.words h.room in
    subst (λ (xs : List ℕ). AreLogsOf layout (length xs) (slice_index xs)) (sym is)
    (logs_of layout state state region (settled_reached (layout_shape layout) state state region h.settled))

-- ---- the transaction

small_loser : IsLoser running_log 1
unfolding decide_both decide_has decide_of decide_running
small_loser = from_yes (decide_both _ _ (decide_has _ running_log (decide_of 1)) (decide_running running_log 1)) refl

-- each record is of the transaction, and none is an end
each_of_one : (r : Record) → IsAmong running_log r → IsOf 1 r × (IsEnd r → ⊥)
each_of_one r m = elim m [
  | inl e ↦ subst (λ (x : Record). IsOf 1 x × (IsEnd x → ⊥)) (sym e) ((refl, λ k. omega (arith, k)), λ k. omega (arith, k))
  | inr m ↦ elim m [
    | inl e ↦ subst (λ (x : Record). IsOf 1 x × (IsEnd x → ⊥)) (sym e) ((refl, λ k. omega (arith, k)), λ k. omega (arith, k))
    | inr m ↦ elim m [
      | inl e ↦ subst (λ (x : Record). IsOf 1 x × (IsEnd x → ⊥)) (sym e) ((refl, λ k. omega (arith, k)), λ k. omega (arith, k))
      | inr m ↦ elim m [
        | inl e ↦ subst (λ (x : Record). IsOf 1 x × (IsEnd x → ⊥)) (sym e) ((refl, λ k. omega (arith, k)), λ k. omega (arith, k))
        | inr m ↦ absurd m
      ]
    ]
  ]
]

-- where no transaction has ended, each word has its standing value or is to be undone
applied_by : (policy : ℕ) (log : Log) (words : Words) (a v : ℕ) → ((t : ℕ) → IsRunning log t) → Stands policy log words a v → Has (IsToUndo log a) log ⊎ (v ≡ words a)
applied_by policy log words a v none (undone u first e) = inl (u, first.among, first.has)
applied_by policy log words a v none (deleted none_undone some e) = absurd (none some.0.transaction some.2.2.0 some.2.2.1 some.2.2.2.0)
applied_by policy log words a v none (redone none_undone none_deleted r last e) = absurd (none r.transaction last.has.3.0 last.has.3.1 last.has.3.2)
applied_by policy log words a v none (kept none_undone none_deleted none_redone e) = inr e

no_end : (t : ℕ) → IsRunning running_log t
no_end t r m k = (each_of_one r m).1 k.0

small_applied : (policy : ℕ) (words : Words) → AreApplied policy running_log words
small_applied policy words a = elim (decide_has (IsToUndo running_log a) running_log (decide_to_undo running_log a)) [
  | inl some ↦ inl some
  | inr none ↦ inr (λ v stands. elim (applied_by policy running_log words a v no_end stands) [ inl some ↦ absurd (none some) | inr e ↦ e ])
]

-- ---- the gates

gate_of : (a : ℕ) → IsAmong (40 ∷ 56 ∷ 88 ∷ 104 ∷ []) a → Has (λ r. (r.at ≡ a) × (IsEnd r → ⊥) × (IsCheckpoint r → ⊥)) running_log
gate_of a m = elim m [
  | inl e ↦ (record_with 40 1 1 577 5 7 0, inr (inr (inr (inl refl))), (sym e, λ k. omega (arith, k), λ k. omega (arith, k)))
  | inr m ↦ elim m [
    | inl e ↦ (record_with 56 2 1 578 0 9 1, inr (inr (inl refl)), (sym e, λ k. omega (arith, k), λ k. omega (arith, k)))
    | inr m ↦ elim m [
      | inl e ↦ (record_with 88 3 2 578 9 0 1, inr (inl refl), (sym e, λ k. omega (arith, k), λ k. omega (arith, k)))
      | inr m ↦ elim m [
        | inl e ↦ (record_with 104 4 6 592 1 0 0, inl refl, (sym e, λ k. omega (arith, k), λ k. omega (arith, k)))
        | inr m ↦ absurd m
      ]
    ]
  ]
]

at_of : {r s : Record} → r ≡ s → r.at ≡ s.at
at_of e = ap (λ (x : Record). x.at) e

among_gates : (r : Record) → IsAmong running_log r → IsAmong (40 ∷ 56 ∷ 88 ∷ 104 ∷ []) r.at
among_gates r m = elim m [
  | inl e ↦ inr (inr (inr (inl (at_of e))))
  | inr m ↦ elim m [ inl e ↦ inr (inr (inl (at_of e))) | inr m ↦ elim m [ inl e ↦ inr (inl (at_of e)) | inr m ↦ elim m [ inl e ↦ inl (at_of e) | inr m ↦ absurd m ] ] ]
]

lists_of : (gates ends checkpoints : List ℕ) → gates ≡ 40 ∷ 56 ∷ 88 ∷ 104 ∷ [] → ends ≡ [] → checkpoints ≡ [] → ListsAll running_log gates ends checkpoints
lists_of gates ends checkpoints g e c = record {
  groups = record {
    of_gates = λ a m. gate_of a (subst (λ (xs : List ℕ). IsAmong xs a) g m);
    of_ends = λ a m. absurd (subst (λ (xs : List ℕ). IsAmong xs a) e m);
    of_checkpoints = λ a m. absurd (subst (λ (xs : List ℕ). IsAmong xs a) c m);
  };
  each = λ r m. inl (subst (λ (xs : List ℕ). IsAmong xs r.at) (sym g) (among_gates r m));
}

-- ---- its undo

pub four_records : (first second third fourth : Placed) → record_of_placed first ≡ record_with 40 1 1 577 5 7 0 → record_of_placed second ≡ record_with 56 2 1 578 0 9 1
    → record_of_placed third ≡ record_with 88 3 2 578 9 0 1 → record_of_placed fourth ≡ record_with 104 4 6 592 1 0 0
    → reverse (map record_of_placed (first ∷ second ∷ third ∷ fourth ∷ [])) ≡ running_log
four_records first second third fourth e1 e2 e3 e4 = λ i. e4 i ∷ e3 i ∷ e2 i ∷ e1 i ∷ []

-- of a device with these words
pub can_undo : (layout : Layout) (cells : Region) (spare : ℕ) (records : List Placed) (held : Held) → (h : HasRunning (layout_shape layout) cells) → 153 ≤ spare → held.next ≡ 5 →
    length records ≡ 4 → reverse (map record_of_placed records) ≡ running_log → HasRunningGates held.gates → KnowsRegion layout held.table cells →
    CanUndo layout 1 records held (running_state h.words h.room) (running_state h.words h.room) cells spare
can_undo layout cells spare records held h room five four records_are g knows =
    let few : layout.cells ≤ 16 = h.few in
    let gates_len = ap length g.gates_are in
    let ends_len = ap length g.ends_are in
    let gates_memory = g.gates_memory in
    let ends_memory = g.ends_memory in
    let gates_ok = held.gates.gates.ok.0 in
    let ends_ok = held.gates.ends.ok.0 in
    record {
      settled = h.settled;
      sound = h.sound;
      quiet = h.quiet;
      loser = small_loser;
      records_are = records_are;
      applied = small_applied (policy_number layout.policy) h.words;
      holds = record {
        next = five;
        gates = lists_of held.gates.gates.items held.gates.ends.items held.gates.checkpoints.items g.gates_are g.ends_are g.checkpoints_are;
        table = knows;
      };
      gates_fit = omega (arith, gates_len, gates_memory, gates_ok);
      ends_fit = omega (arith, ends_len, ends_memory, ends_ok);
      spare_fits = omega (arith, few, four, room);
    }

-- ---- a checkpoint behind it

among_either : (xs ys : Log) (r : Record) → IsAmong (xs ++ ys) r → IsAmong xs r ⊎ IsAmong ys r
among_either [] ys r m = inr m
among_either (x ∷ xs) ys r (inl e) = inl (inl e)
among_either (x ∷ xs) ys r (inr m) = elim (among_either xs ys r m) [ inl here ↦ inl (inr here) | inr there ↦ inr there ]

among_left : (xs ys : Log) (r : Record) → IsAmong xs r → IsAmong (xs ++ ys) r
among_left [] ys r m = elim m [ ]
among_left (x ∷ xs) ys r (inl e) = inl e
among_left (x ∷ xs) ys r (inr m) = inr (among_left xs ys r m)

module _ (layout : Layout) (before : Gates) (held : Held) (first cells : Region) (runs : HasRunning (layout_shape layout) first) (g : HasRunningGates before)
    (h : IsUndone layout 1 before (running_state runs.words runs.room) (running_state runs.words runs.room) held cells) where
  of_one : (r : Record) → IsAmong h.state.log r → IsOf 1 r
  of_one r m = elim (among_either h.news running_log r (subst (λ (l : Log). IsAmong l r) h.log m)) [ inl new ↦ h.mine r new | inr old ↦ (each_of_one r old).0 ]

  not_skipped : (t : ℕ) → IsSkipped h.state.log t → ⊥
  not_skipped t k = let c = k.2.1 in (of_one c.0 c.1).1 c.2.0

  opened : HasOpen h.state.log
  opened =
      let e = h.ended in
      (e.0, subst (λ (l : Log). IsAmong l e.0) (sym h.log) (among_left h.news running_log e.0 e.1), ((h.mine e.0 e.1).1, not_skipped e.0.transaction))

  over : (t : ℕ) → IsLoser h.state.log t → ⊥
  over t k = let was = h.losers t k in let some = was.0.0 in was.1 (sym some.2.0 ∙ ((each_of_one some.0 some.1).0).0)

  pub can_checkpoint : CanCheckpoint layout held (running_state runs.words runs.room) h.state cells
  can_checkpoint =
      let same = ap (λ v. vec_len v) h.grown.checkpoints in
      let memory = ap (λ v. vec_capacity v) h.grown.checkpoints in
      let none = ap length g.checkpoints_are in
      let ok = before.checkpoints.ok.0 in
      let room = g.checkpoints_memory in
      record {
        settled = h.settled;
        sound = runs.sound;
        quiet = h.quiet;
        no_force = runs.no_force;
        opened = opened;
        over = over;
        applied = h.applied;
        holds = h.holds;
        fits = omega (arith, same, memory, none, ok, room);
      }
