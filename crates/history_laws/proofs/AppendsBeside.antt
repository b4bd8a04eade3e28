-- An append in a state that other partitions made.
use Rattle.std.proofs.Common.{◌≡◌, ◌≢◌, ◌⊎◌, inl, inr, ℕ, ◌<◌, true, List, refl, sym, ap, ◌∙◌, subst, arith}
use Rattle.persist_model.specs.Region.{Words}
use Rattle.persist_model.specs.Progress.{latest}
use Rattle.persist_model.specs.Kinds.{CHECKPOINT, COMMITTED, END}
use Rattle.persist_model.specs.Records.{Record, Log, IsAmong, Has, HasNo, IsOf, IsEnd, IsRunning}
use Rattle.persist_model.specs.Standing.{Stands}
use Rattle.persist_model.specs.Shape.{Shape, part_of, IsHeapWord, heap_words}
use Rattle.persist_model.specs.State.{State, HasOpen, IsSoundState}
use Rattle.log_laws.specs.Moves.{IsOfRunning, IsDeletionBy, IsChangeBy}
use Rattle.log_laws.proofs.Deciding.{IsDecided, decide_equal, has_or_none}
use Rattle.log_laws.proofs.Standings.{latest_some}
use Rattle.bucket_log.specs.declared.append.Place.{Place}
use Rattle.bucket_log.specs.Appends.{region_append}
use Rattle.plan_records.specs.Cells.{appended}
use Rattle.plan_records.specs.Passing.{inserted, Passes}
use Rattle.plan_records.specs.Appends.{MayAppend, MayStandAt, Keeps, Commits, with_record}
use Rattle.plan_records.specs.Conditions.{IsUpdateOf, AreLast, AreWritten}
use Rattle.plan_records.proofs.Changes.{decide_change}
use Rattle.plan_records.proofs.Passing.{inserted_out, inserted_in}
use Rattle.plan_records.proofs.Records.{updates_keep, deletions_keep, rollbacks_keep, compensations_keep, commit_ends_write}
use Rattle.plan_records.proofs.UndoneEnds.{undone_ends_keep}
use Rattle.history_laws.specs.Histories.{Entry, value_behind, LeavesWord}
use Rattle.history_laws.specs.Stands.{has_commit, kept_of}
use Rattle.history_laws.specs.UnderWay.{Added, an_update, a_deletion, a_rollback, a_compensation, an_undone_end, a_commit_end, cell_of, UnderWay, IsAddedIn, IsUnderWayIn}
use Rattle.history_laws.specs.Choices.{IsChosen}
use Rattle.history_laws.specs.Moments.{CanAdd, Serves, IsInFlight}
use Rattle.history_laws.proofs.Folding.{IsCommitEndOf, commit_is, commit_same, value_kept, value_one, in_split}
use Rattle.history_laws.proofs.Owning.{latest_forth, changes_forth, deletions_forth, deleted_forth}
use Rattle.history_laws.proofs.Conditions.{IsBeside, updates_there, deletions_there, rollbacks_there, compensations_there, undone_ends_there, commit_ends_there, last_there, written_there, update_of_there}

-- ---- what the kind of the record asks of the heap words, and what it leaves

abbrev pub HeapMeets : Shape → State → Words → Record → Added → Type 0
HeapMeets shape x heap r (an_update u) = IsUpdateOf shape x r heap
HeapMeets shape x heap r (a_deletion g) = Unit {0}
HeapMeets shape x heap r (a_rollback t) = Unit {0}
HeapMeets shape x heap r (a_compensation u cell) = Unit {0}
HeapMeets shape x heap r (an_undone_end t) = AreLast shape x t heap
HeapMeets shape x heap r (a_commit_end t) = AreWritten shape x t heap

abbrev pub Leaves : Shape → Words → State → State → Added → Type 0
Leaves shape v x y (an_update u) = Keeps shape v x y
Leaves shape v x y (a_deletion g) = Keeps shape v x y
Leaves shape v x y (a_rollback t) = Keeps shape v x y
Leaves shape v x y (a_compensation u cell) = Keeps shape v x y
Leaves shape v x y (an_undone_end t) = Keeps shape v x y
Leaves shape v x y (a_commit_end t) = Commits shape v x t y

pub append_leaves : (shape : Shape) (p : ℕ) (w v : Words) (x : State) (chain : List ℕ) (place : Place) (number made : ℕ) (added : Added) →
    let r = appended place number (cell_of added) in
    MayAppend shape p w x chain place r → CanAdd shape x r added → HeapMeets shape x (heap_words shape v) r added → MayStandAt shape w (region_append shape p place r) made v →
    Keeps shape v x x ⊎ Leaves shape v x (with_record p x r) added
append_leaves shape p w v x chain place number made (an_update u) may can meets reached = (updates_keep shape p w x chain place number u may can).images made v meets reached
append_leaves shape p w v x chain place number made (a_deletion g) may can meets reached = (deletions_keep shape p w x chain place number g may can).images made v tt reached
append_leaves shape p w v x chain place number made (a_rollback t) may can meets reached = (rollbacks_keep shape p w x chain place number t may can).images made v tt reached
append_leaves shape p w v x chain place number made (a_compensation u cell) may can meets reached =
    (compensations_keep shape p w x chain place number u cell can.0 may can.1).images made v tt reached
append_leaves shape p w v x chain place number made (an_undone_end t) may can meets reached = (undone_ends_keep shape p w x chain place number t may can).images made v meets reached
append_leaves shape p w v x chain place number made (a_commit_end t) may can meets reached = (commit_ends_write shape p w x chain place number t may can).images made v meets reached

-- the record is a commit's end, with the transaction in flight, and the words stand as it wrote them
pub record EndsCommit (shape : Shape) (v : Words) (s : State) (h : Words) (flight : List Entry) (x y : State) (r : Record) : Type 0 where
  pub end : IsEnd r
  pub one : r.outcome ≡ COMMITTED
  pub going : IsInFlight s.log h flight r.transaction
  pub commits : Commits shape v x r.transaction y

-- or it isn't, and they stand as before
pub left_by : (shape : Shape) (v : Words) (s : State) (h : Words) (flight : List Entry) (heap : Words) (x y : State) (place : Place) (number : ℕ) (added : Added) →
    let r = appended place number (cell_of added) in
    Serves shape s h flight heap r added → Leaves shape v x y added → ((IsEnd r → r.outcome ≡ COMMITTED → ⊥) × Keeps shape v x y) ⊎ EndsCommit shape v s h flight x y r
left_by shape v s h flight heap x y place number (an_update u) serves k = inl ((λ four one. omega (arith, four)), k)
left_by shape v s h flight heap x y place number (a_deletion g) serves k = inl ((λ four one. omega (arith, four)), k)
left_by shape v s h flight heap x y place number (a_rollback t) serves k = inl ((λ four one. omega (arith, four)), k)
left_by shape v s h flight heap x y place number (a_compensation u cell) serves k = inl ((λ four one. omega (arith, four)), k)
left_by shape v s h flight heap x y place number (an_undone_end t) serves k = inl ((λ four one. omega (arith, one)), k)
left_by shape v s h flight heap x y place number (a_commit_end t) serves k = inr (record { end = refl; one = refl; going = serves.1; commits = k })

-- ---- from the settled state

module _ (shape : Shape) (under : ℕ → UnderWay) (n : ℕ) (s x : State) (c : IsChosen shape under n s x) (place : Place) (number : ℕ) where
  pub can_there : (added : Added) → let r = appended place number (cell_of added) in part_of shape r.at ≡ n → r.kind ≢ CHECKPOINT → IsOfRunning shape s.log r →
      ((q : ℕ) (y : Record) → q < n → IsAddedIn shape q (under q) y → IsBeside s.log r y) → CanAdd shape s r added → CanAdd shape x r added
  can_there (an_update u) place_is plain running beside can = updates_there shape under n s x c _ place_is plain running beside refl can
  can_there (a_deletion g) place_is plain running beside can = deletions_there shape under n s x c _ place_is plain running beside refl can
  can_there (a_rollback t) place_is plain running beside can = rollbacks_there shape under n s x c _ place_is plain running beside can
  can_there (a_compensation u cell) place_is plain running beside can = (can.0, compensations_there shape under n s x c _ place_is plain running beside u can.1)
  can_there (an_undone_end t) place_is plain running beside can = undone_ends_there shape under n s x c _ place_is plain running beside can
  can_there (a_commit_end t) place_is plain running beside can = commit_ends_there shape under n s x c _ place_is plain running beside can

  pub meets_there : (h : Words) (flight : List Entry) (heap : Words) (added : Added) → let r = appended place number (cell_of added) in
      part_of shape r.at ≡ n → r.kind ≢ CHECKPOINT → IsOfRunning shape s.log r → ((q : ℕ) (y : Record) → q < n → IsAddedIn shape q (under q) y → IsBeside s.log r y) →
      IsSoundState shape x → ((a : ℕ) → IsHeapWord shape a → Stands shape.policy x.log heap a (value_behind (kept_of x.log flight) a (h a))) →
      CanAdd shape x r added → Serves shape s h flight heap r added → HeapMeets shape x heap r added
  meets_there h flight heap (an_update u) place_is plain running beside sound standing can serves =
      update_of_there shape under n s x c _ place_is plain running beside h flight heap sound can.free can.word standing serves
  meets_there h flight heap (a_deletion g) place_is plain running beside sound standing can serves = tt
  meets_there h flight heap (a_rollback t) place_is plain running beside sound standing can serves = tt
  meets_there h flight heap (a_compensation u cell) place_is plain running beside sound standing can serves = tt
  meets_there h flight heap (an_undone_end t) place_is plain running beside sound standing can serves = last_there shape under n s x c _ place_is plain running beside heap serves
  meets_there h flight heap (a_commit_end t) place_is plain running beside sound standing can serves = written_there shape under n s x c _ place_is plain running beside heap serves.0

-- ---- the cell that recovery's checkpoint record wants

-- a record that isn't skipped leaves the log open
pub opened : (x : State) (r : Record) → r.kind ≢ CHECKPOINT → Passes x.log r → IsRunning x.log r.transaction → HasOpen (inserted r x.log)
opened x r plain passes running = (
  r,
  inserted_in r x.log r (inl refl),
  (
    plain,
    λ k. elim (inserted_out r x.log k.0 k.1) [
      | inr m ↦ running k.0 m k.2.0
      | inl e ↦ (
          let check = k.2.1.2 in
          let less = ap (λ (z : Record). z.lsn) e in
          elim (inserted_out r x.log k.2.1.0 k.2.1.1) [
            | inl same ↦ plain (ap (λ (z : Record). z.kind) (sym same) ∙ check.0)
            | inr m ↦ (passes.newer k.2.1.0 m (let lt = check.1 in omega (arith, lt, less))).no_checkpoint check.0
          ])
    ],
  ),
)

-- ---- commits in flight

-- a record that is no committed end leaves the commits as they are
pub commits_beside : (t : ℕ) (r : Record) (log : Log) → (IsCommitEndOf t r → ⊥) → has_commit t log ≡ has_commit t (inserted r log)
commits_beside t r log off = commit_same t log (inserted r log)
    (λ k. (k.0, inserted_in r log k.0 (inr k.1), k.2))
    (λ k. elim (inserted_out r log k.0 k.1) [ inl e ↦ absurd (off (subst (IsCommitEndOf t) e k.2)) | inr m ↦ (k.0, m, k.2) ])

pub decide_deletion_by : (t a : ℕ) (r : Record) → IsDecided (IsDeletionBy t a r)
decide_deletion_by t a r = elim (decide_equal r.kind 6) [
  | inr off ↦ inr (λ k. off k.0)
  | inl kind ↦ elim (decide_equal r.word a) [
    | inr off ↦ inr (λ k. off k.1)
    | inl word ↦ elim (decide_equal r.transaction t) [ inr off ↦ inr (λ k. off k.2) | inl own ↦ inl (kind, word, own) ]
  ]
]

-- With the end of a commit each word stands at its value behind the commits in flight that are there now.
module _ (shape : Shape) (under : ℕ → UnderWay) (n : ℕ) (s x : State) (c : IsChosen shape under n s x) (v : Words) (h : Words) (flight : List Entry) (t : ℕ) (r : Record)
    (own : r.transaction ≡ t) (end : r.kind ≡ END) (one : r.outcome ≡ COMMITTED) (running : IsRunning s.log t) (none : (q : ℕ) (y : Record) → q < n → IsUnderWayIn shape s.log q (under q) y → IsOf t y → ⊥)
    (going : IsInFlight s.log h flight t) (k : Commits shape v x t (with_record n x r)) where
  abbrev later : Log
  later = inserted r x.log

  abbrev StandsLater : ℕ → ℕ → Type 0
  StandsLater a u = Stands shape.policy later (heap_words shape v) a u

  there : has_commit t later ≡ true
  there = commit_is t later (r, inserted_in r x.log r (inl refl), ((end, own), one))

  by_one : (a z : ℕ) → Has (IsDeletionBy t a) s.log ⊎ Has (IsChangeBy t a) s.log → latest going.entry.writes a (h a) ≡ z → value_behind (kept_of later flight) a (h a) ≡ z
  by_one a z named makes = ap (λ es. value_behind (kept_of later es) a (h a)) going.split ∙
      value_one going.front going.entry going.rest later a (h a) z (ap (λ u. has_commit u later) going.own ∙ there) (λ f m. going.alone f m a named) makes

  by_none : (a u : ℕ) → HasNo (IsDeletionBy t a) s.log → HasNo (IsChangeBy t a) s.log → value_behind (kept_of x.log flight) a u ≡ value_behind (kept_of later flight) a u
  by_none a u nd nc = value_kept flight x.log later a u (λ e m. elim (in_split going.front going.entry going.rest e (subst (λ es. IsAmong es e) going.split m)) [
    | inl is ↦ inr (subst (λ f. LeavesWord f a) (sym is) (going.writes.others a nd nc))
    | inr other ↦ inl (commits_beside e.transaction r x.log (λ c. going.apart e other (sym c.0.1 ∙ own)))
  ])

  pub stands_committed : (a : ℕ) → Stands shape.policy x.log (heap_words shape v) a (value_behind (kept_of x.log flight) a (h a)) →
      StandsLater a (value_behind (kept_of later flight) a (h a))
  stands_committed a before = elim (has_or_none (IsDeletionBy t a) s.log (decide_deletion_by t a)) [
    | inl d ↦ subst (StandsLater a) (sym (by_one a 0 (inl d) (going.writes.deleted a d)))
        (k.standing.deleted a (deleted_forth shape under n s x c t running none a d))
    | inr nd ↦ elim (latest_some (IsChangeBy t a) s.log (decide_change t a)) [
      | inl y ↦ subst (StandsLater a) (sym (by_one a y.0.after (inr (y.0, y.1.among, y.1.has)) (going.writes.changed a y.0 nd y.1)))
          (k.standing.changed a y.0 (deletions_forth shape under n s x c t running none a nd) (latest_forth shape under n s x c t running none a y.0 y.1))
      | inr nc ↦ subst (StandsLater a) (by_none a (h a) nd nc)
          (k.standing.others a (value_behind (kept_of x.log flight) a (h a)) (deletions_forth shape under n s x c t running none a nd)
          (changes_forth shape under n s x c t running none a nc) before)
    ]
  ]
