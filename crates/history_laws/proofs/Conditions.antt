-- What an append and a closing ask, in a state that other partitions made: it follows from the settled state.
use Rattle.std.proofs.Common.{◌≡◌, ◌≢◌, inl, inr, ℕ, ◌<◌, ◌≤◌, if◌then◌else◌, List, refl, sym, ◌∙◌, subst, arith}
use Rattle.persist_model.specs.Region.{Words}
use Rattle.persist_model.specs.Kinds.{CHECKPOINT}
use Rattle.persist_model.specs.Records.{Record, Log, IsAmong, HasNo, IsOf, IsUpdate, IsDeletion, NamesWord, IsRunning}
use Rattle.persist_model.specs.Standing.{IsToUndo, IsToDelete, Stands, redone, kept}
use Rattle.persist_model.specs.Order.{Bars}
use Rattle.persist_model.specs.Need.{has_of, need_in}
use Rattle.persist_model.specs.Shape.{Shape, part_of, IsHeapWord}
use Rattle.persist_model.specs.State.{State, IsSoundState}
use Rattle.log_laws.specs.Moves.{IsOfRunning, MayName, IsChangeBy}
use Rattle.log_laws.specs.MoveRoom.{HasCells}
use Rattle.log_laws.proofs.Deciding.{ended_or_running, decide_equal}
use Rattle.log_laws.proofs.Growing.{numbered}
use Rattle.log_laws.proofs.Standings.{stands_one}
use Rattle.plan_records.specs.Passing.{Passes}
use Rattle.plan_records.specs.Cells.{appended}
use Rattle.plan_records.specs.Conditions.{CanUpdate, CanDelete, CanRollBack, CanCompensate, CanEndUndone, IsOfOpen, IsUpdateOf, AreLast, AreWritten}
use Rattle.plan_records.specs.HeapUpdates.{IsOldIn}
use Rattle.plan_records.proofs.HeapUpdates.{olds_meet}
use Rattle.history_laws.specs.Histories.{Entry, value_behind}
use Rattle.history_laws.specs.Stands.{kept_of}
use Rattle.history_laws.specs.UnderWay.{Added, an_update, a_deletion, a_rollback, a_compensation, an_undone_end, a_commit_end, cell_of, Adding, record_of_adding, UnderWay, IsAddedIn, IsUnderWayIn}
use Rattle.history_laws.specs.Choices.{IsChosen}
use Rattle.history_laws.specs.Moments.{CanAdd, IsOldOf, AreTogether}
use Rattle.history_laws.proofs.Folding.{value_untouched}
use Rattle.history_laws.proofs.Owning.{own_back, own_forth, own_running, own_has_of, own_undo_point, own_to_undo, latest_back, changes_back, deletions_back}

-- ---- the record of an append

pub added_plain : (x : Adding) → (record_of_adding x).kind ≢ CHECKPOINT
added_plain x = by x.added
  where
    by : (added : Added) → (appended x.place x.number (cell_of added)).kind ≢ CHECKPOINT
    by (an_update u) = λ e. omega (arith, e)
    by (a_deletion g) = λ e. omega (arith, e)
    by (a_rollback t) = λ e. omega (arith, e)
    by (a_compensation u cell) = λ e. omega (arith, e)
    by (an_undone_end t) = λ e. omega (arith, e)
    by (a_commit_end t) = λ e. omega (arith, e)

pub added_runs : (shape : Shape) (s : State) (r : Record) (added : Added) → CanAdd shape s r added → IsOfRunning shape s.log r
added_runs shape s r (an_update u) can = can.running
added_runs shape s r (a_deletion g) can = can.running
added_runs shape s r (a_rollback t) can = can.open_one.running
added_runs shape s r (a_compensation u cell) can = can.1.running
added_runs shape s r (an_undone_end t) can = can.open_one.running
added_runs shape s r (a_commit_end t) can = can.running

-- a record that bars is no checkpoint record
names_plain : (y : Record) → NamesWord y → y.kind ≢ CHECKPOINT
names_plain y (inl (inl one)) = λ five. omega (arith, one, five)
names_plain y (inl (inr two)) = λ five. omega (arith, two, five)
names_plain y (inr six) = λ five. omega (arith, six, five)

bars_names : (log : Log) (y : Record) → Bars log y → NamesWord y
bars_names log y (inl k) = k.0
bars_names log y (inr k) = inr k.0

-- what is known of the records under way in the partitions that have been gone through
pub record IsBeside (log : Log) (r y : Record) : Type 0 where
  pub together : AreTogether r y
  pub plain : y.kind ≢ CHECKPOINT
  pub runs : IsRunning log y.transaction

-- the records that bar others in x did so in s
pub bars_back : (shape : Shape) (under : ℕ → UnderWay) (n : ℕ) (s x : State) → IsChosen shape under n s x →
    ((q : ℕ) (y : Record) → q < n → IsAddedIn shape q (under q) y → IsRunning s.log y.transaction) → (y : Record) → IsAmong s.log y → IsAmong x.log y → Bars x.log y → Bars s.log y
bars_back shape under n s x c runs y ms mx (inl k) = elim (ended_or_running s.log y.transaction) [
  | inr running ↦ inl (k.0, running)
  | inl e ↦ elim (c.whole e.0 e.1 e.2.0) [
    | inl m ↦ absurd (k.1 e.0 m e.2)
    | inr none ↦ absurd (none y mx (sym e.2.1, names_plain y k.0))
  ]
]
bars_back shape under n s x c runs y ms mx (inr k) = elim (c.from k.1.0 k.1.1) [
  | inl m ↦ inr (k.0, (k.1.0, m, k.1.2))
  | inr h ↦ inl (inr k.0, subst (λ t. IsRunning s.log t) k.1.2.0.1 (runs h.0 k.1.0 h.1 h.2))
]

module _ (shape : Shape) (under : ℕ → UnderWay) (n : ℕ) (s x : State) (c : IsChosen shape under n s x) (r : Record) (place_is : part_of shape r.at ≡ n) (plain : r.kind ≢ CHECKPOINT)
    (running : IsOfRunning shape s.log r) (beside : (q : ℕ) (y : Record) → q < n → IsAddedIn shape q (under q) y → IsBeside s.log r y) where
  -- nothing of its transaction is under way in other partitions
  others : (q : ℕ) (y : Record) → q < n → IsUnderWayIn shape s.log q (under q) y → IsOf r.transaction y → ⊥
  others q y lt (inl added) of = (beside q y lt added).together.transactions of.0
  others q y lt (inr k) of = let same = running.one_part y k.0 of in let at = k.2 in omega (arith, same, at, place_is, lt)

  pub passes_there : Passes s.log r → Passes x.log r
  passes_there passes = record {
    fresh = λ y m. elim (c.from y m) [ inl k ↦ passes.fresh y k | inr k ↦ (beside k.0 y k.1 k.2).together.numbers ];
    newer = λ y m lt. elim (c.from y m) [
      | inl k ↦ passes.newer y k lt
      | inr k ↦ record { other = λ of. others k.0 y k.1 (inl k.2) of; no_checkpoint = (beside k.0 y k.1 k.2).plain; word = (beside k.0 y k.1 k.2).together.words }
    ];
    checkpoint = λ check. absurd (plain check);
  }

  running_there : IsOfRunning shape s.log r → IsOfRunning shape x.log r
  running_there of = record {
    running = own_running shape under n s x c r.transaction running.running others;
    one_part = λ y m k. of.one_part y (own_back shape under n s x c r.transaction running.running others y m k) k;
  }

  free_there : NamesWord r → MayName s.log r → MayName x.log r
  free_there names free = record {
    not_rolled = λ y m k. free.not_rolled y (own_back shape under n s x c r.transaction running.running others y m k.0) k;
    free = λ y m k. elim (c.from y m) [
      | inl ms ↦ free.free y ms (k.0, k.1, bars_back shape under n s x c (λ q z lt added. (beside q z lt added).runs) y ms m k.2)
      | inr h ↦ (beside h.0 y h.1 h.2).together.words names (bars_names x.log y k.2) k.0
    ];
  }

  cells_there : (cells : ℕ) → HasCells shape s r cells → HasCells shape x r cells
  cells_there cells h = record {
    here = (let k = h.here in omega (arith, need, room, k));
    checkpoint_here = λ two first. (let k = h.checkpoint_here two first in omega (arith, need, room, k));
    checkpoint_elsewhere = λ two other. c.spare two;
  }
    where
      need : need_in (part_of shape) (part_of shape r.at) x.log ≤ need_in (part_of shape) (part_of shape r.at) s.log
      need = c.need (part_of shape r.at) (omega (arith, place_is))

      room : s.room (part_of shape r.at) ≤ x.room (part_of shape r.at)
      room = c.room (part_of shape r.at) (omega (arith, place_is))

  -- its transaction has a record there too, or the cells are
  open_there : (cells : ℕ) → IsOfOpen shape s r cells → IsOfOpen shape x r cells
  open_there cells h = record {
    transaction = h.transaction;
    kept = elim h.kept [
      | inl k ↦ inl (k.0, own_forth shape under n s x c r.transaction running.running others k.0 k.1 k.2, k.2)
      | inr free ↦ inr (cells_there cells free)
    ];
    running = running_there h.running;
  }

  same_has_of : has_of r.transaction s.log ≡ has_of r.transaction x.log
  same_has_of = sym (own_has_of shape under n s x c r.transaction running.running others)

  pub updates_there : IsUpdate r → CanUpdate shape s r → CanUpdate shape x r
  updates_there is can = record {
    transaction = can.transaction;
    word = can.word;
    no_root = can.no_root;
    running = running_there can.running;
    free = free_there (inl (inl is)) can.free;
    cells = subst (λ b. HasCells shape x r (if b then 2 else 4)) same_has_of (cells_there (if has_of r.transaction s.log then 2 else 4) can.cells);
  }

  pub deletions_there : IsDeletion r → CanDelete shape s r → CanDelete shape x r
  deletions_there is can = record {
    transaction = can.transaction;
    block = can.block;
    running = running_there can.running;
    free = free_there (inr is) can.free;
    cells = subst (λ b. HasCells shape x r (if b then 1 else 3)) same_has_of (cells_there (if has_of r.transaction s.log then 1 else 3) can.cells);
  }

  pub rollbacks_there : CanRollBack shape s r → CanRollBack shape x r
  rollbacks_there can = record {
    open_one = open_there 2 can.open_one;
    first = λ y m k. can.first y (own_back shape under n s x c r.transaction running.running others y m k.0) k;
  }

  pub compensations_there : (u : Record) → CanCompensate shape s r u → CanCompensate shape x r u
  compensations_there u can = record {
    transaction = can.transaction;
    running = running_there can.running;
    stack = can.stack;
    newest = own_to_undo shape under n s x c r.transaction running.running others ∙ can.newest;
  }

  pub undone_ends_there : CanEndUndone shape s r → CanEndUndone shape x r
  undone_ends_there can = record { open_one = open_there 1 can.open_one; nothing_left = own_to_undo shape under n s x c r.transaction running.running others ∙ can.nothing_left }

  pub commit_ends_there : IsOfOpen shape s r 1 → IsOfOpen shape x r 1
  commit_ends_there can = open_there 1 can

  -- ---- the heap words

  pub last_there : (heap : Words) → AreLast shape s r.transaction heap → AreLast shape x r.transaction heap
  last_there heap h = λ force a y last. h force a y (latest_back shape under n s x c r.transaction running.running others a y last)

  pub written_there : (heap : Words) → AreWritten shape s r.transaction heap → AreWritten shape x r.transaction heap
  written_there heap h = λ force a y none last. h force a y (deletions_back shape under n s x c r.transaction running.running others a none)
      (latest_back shape under n s x c r.transaction running.running others a y last)

  -- An update's OLD: where its transaction hasn't changed the word, nobody else's record decides it but one that is to be redone, and the word
  -- stands at its value behind the history.
  module _ (h : Words) (flight : List Entry) (heap : Words) (sound : IsSoundState shape x) (free : MayName x.log r) (word : IsHeapWord shape r.word)
      (standing : (a : ℕ) → IsHeapWord shape a → Stands shape.policy x.log heap a (value_behind (kept_of x.log flight) a (h a))) (old : IsOldOf s h flight r) where
    none_to_undo : HasNo (IsChangeBy r.transaction r.word) x.log → HasNo (IsToUndo x.log r.word) x.log
    none_to_undo none y m u = elim (decide_equal y.transaction r.transaction) [
      | inl same ↦ none y m (inl u.0, u.1, same)
      | inr ne ↦ free.free y m (u.1, ne, inl (inl (inl u.0), u.2))
    ]

    none_deleted : HasNo (IsToDelete x.log r.word) x.log
    none_deleted y m d = elim (decide_equal y.transaction r.transaction) [
      | inl same ↦ (let e = d.2 in own_running shape under n s x c r.transaction running.running others e.0 e.1 (e.2.0.0, e.2.0.1 ∙ same))
      | inr ne ↦ free.free y m (d.1, ne, inr (d.0, d.2))
    ]

    -- where its transaction hasn't changed the word, OLD is what it stands at
    is_before : HasNo (IsChangeBy r.transaction r.word) x.log → (v : ℕ) → Stands shape.policy x.log heap r.word v → r.before ≡ v
    is_before none v st =
        old.plain (changes_back shape under n s x c r.transaction running.running others r.word none) ∙
        sym (value_untouched flight x.log r.word (h r.word) old.alone) ∙
        stands_one shape.policy x.log heap r.word (value_behind (kept_of x.log flight) r.word (h r.word)) v (numbered (part_of shape) x.log x.log sound.order) (standing r.word word) st

    pub old_there : IsOldIn shape x r heap
    old_there = record {
      own = λ y last. old.own y (latest_back shape under n s x c r.transaction running.running others r.word y last);
      redone = λ none y last. is_before none y.after (redone (none_to_undo none) none_deleted y last refl);
      plain = λ none no_redo. is_before none (heap r.word) (kept (none_to_undo none) none_deleted no_redo refl);
    }

    pub update_of_there : IsUpdateOf shape x r heap
    update_of_there = olds_meet shape x r heap sound (own_running shape under n s x c r.transaction running.running others) free
        (old.undo_next ∙ sym (own_undo_point shape under n s x c r.transaction running.running others)) old_there
