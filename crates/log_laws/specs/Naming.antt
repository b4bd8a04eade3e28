-- The updates that are still to be undone, counted as a stack and one by one.
use Rattle.std.specs.Prelude.{◌≡◌, ℕ, ◌+◌, if◌then◌else◌, ◌∷◌, ◌++◌, length}
use Rattle.persist_model.specs.Kinds.{ROLLBACK, END}
use Rattle.persist_model.specs.Records.{Record, Log, IsAmong, HasNo, IsNewestFirst, IsRunning}
use Rattle.persist_model.specs.Order.{undo_point, FollowEach, IsInOrder}
use Rattle.persist_model.specs.Need.{to_undo, unnamed_updates, has_kind_of, sum_over, need_in}

-- In a log in order the stack of a running transaction is the list of its updates that no compensation names. Nothing is asked of room.
abbrev pub StackIsUnnamed : Type 0
StackIsUnnamed = (part : ℕ → ℕ) (log : Log) (t : ℕ) → IsInOrder part log → IsRunning log t → to_undo t log ≡ unnamed_updates t log log

-- what the undo of t appends, by the updates that no compensation names
abbrev pub unnamed_need : Log → ℕ → ℕ
unnamed_need log t = if has_kind_of t END log then 0 else (if has_kind_of t ROLLBACK log then 0 else 1) + (length (unnamed_updates t log log) + 1)

-- So the need of a partition counts them.
abbrev pub NeedIsUnnamed : Type 0
NeedIsUnnamed = (part : ℕ → ℕ) (p : ℕ) (log : Log) → IsInOrder part log → need_in part p log ≡ sum_over part p (unnamed_need log) log

-- A compensation is of an earlier update: where those before it are in order, a record that has the number of the undo point is one of them.
abbrev pub UndoPointIsEarlier : Type 0
UndoPointIsEarlier = (part : ℕ → ℕ) (log newer earlier : Log) (r u : Record) → log ≡ newer ++ r ∷ earlier → IsNewestFirst log → ((x : Record) → IsAmong log x → x.lsn ≡ 0 → ⊥) →
    FollowEach part log earlier → HasNo (λ s. s.lsn ≡ r.lsn) earlier → IsRunning log r.transaction →
    IsAmong log u → u.lsn ≡ undo_point r.transaction earlier → IsAmong earlier u
