-- The rules of records, of their order and of room can be decided, and a state is sound exactly where none fails.
use Rattle.std.proofs.Common.{◌≡◌, ◌≢◌, ◌⊎◌, inl, inr, ℕ, ◌+◌, ◌^◌, ◌<◌, ◌≤◌, [], ◌∷◌, refl, sym, subst, arith}
use Rattle.persist_model.specs.Records.{Record, Log, IsAmong, Has, HasNo, IsNewestFirst, IsUpdate, IsCompensation, IsRollback, IsEnd, IsCheckpoint, IsDeletion, IsChange, NamesWord, IsOf, IsRunning}
use Rattle.persist_model.specs.Order.{undo_point, last_new, Compensates, IsNextToUndo, UndoesWell, Bars, Follows, FollowEach}
use Rattle.persist_model.specs.Shape.{Shape, heap, words_of_shape, block, IsHeapWord, IsRootOwner, IsPlainOwner, part_of, list_words}
use Rattle.persist_model.specs.ImageRecords.{IsWellFormed, AreWellFormed}
use Rattle.persist_model.specs.Need.{need_in}
use Rattle.persist_model.specs.State.{State, HasOpen, total_need, HasRoom, HasNumbers, IsSoundState}
use Rattle.persist_model.specs.Chain.{Each}
use Rattle.persist_model.specs.Faults.{parts, IsLogFault}
use Rattle.log_laws.proofs.Deciding.{IsDecided, decide_equal, decide_less, decide_at_most, decide_not, decide_either, decide_both, decide_implies, decide_as, decide_some, decide_has, decide_has_no, decide_each, decide_running, decide_committed, decide_skipped}
use Rattle.log_laws.proofs.Tries.{CanFail, Excludes, AreOne, Alike, alike, AllGood, none_fails, none_excluded, none_one, tried_some, tried_none, tried_one, each_some, each_none, each_one, oldest_some, oldest_none, oldest_one}
use Rattle.log_laws.proofs.AddressLists.{each_in_range, of_range}

-- ---- the record rule

unfoldable pub decide_heap_word : (shape : Shape) (a : ℕ) → IsDecided (IsHeapWord shape a)
unfolding decide_both decide_at_most decide_less
decide_heap_word shape a = decide_both _ _ (decide_at_most (heap shape) a) (decide_less a (words_of_shape shape))

unfoldable pub decide_root : (shape : Shape) (a : ℕ) → IsDecided (IsRootOwner shape a)
unfolding decide_some decide_equal
decide_root shape a = decide_some (λ k. a ≡ block shape k) shape.structures (λ k. decide_equal a (block shape k))

pub plain_on : (shape : Shape) (a : ℕ) → (k : ℕ) × (k < shape.blocks) × ((shape.structures ≤ k) × (a ≡ block shape k)) → IsPlainOwner shape a
plain_on shape a h = (h.0, h.2.0, h.1, h.2.1)

pub plain_back : (shape : Shape) (a : ℕ) → IsPlainOwner shape a → (k : ℕ) × (k < shape.blocks) × ((shape.structures ≤ k) × (a ≡ block shape k))
plain_back shape a h = (h.0, h.2, (h.1, h.3))

unfoldable pub decide_plain : (shape : Shape) (a : ℕ) → IsDecided (IsPlainOwner shape a)
unfolding decide_as decide_some decide_both decide_at_most decide_equal
decide_plain shape a = decide_as _ (IsPlainOwner shape a) (plain_on shape a) (plain_back shape a)
    (decide_some (λ k. (shape.structures ≤ k) × (a ≡ block shape k)) shape.blocks (λ k. decide_both _ _ (decide_at_most shape.structures k) (decide_equal a (block shape k))))

unfoldable pub decide_change : (r : Record) → IsDecided (IsChange r)
unfolding decide_either decide_equal
decide_change r = decide_either _ _ (decide_equal r.kind 1) (decide_equal r.kind 2)

unfoldable pub decide_names_word : (r : Record) → IsDecided (NamesWord r)
unfolding decide_either decide_change decide_equal
decide_names_word r = decide_either _ _ (decide_change r) (decide_equal r.kind 6)

abbrev FormedFacts : Shape → Record → Type 0
FormedFacts shape r =
    ((1 ≤ r.kind) × (r.kind ≤ 6)) × (((IsCheckpoint r × (r.transaction ≡ 0)) ⊎ ((r.kind ≢ 5) × (1 ≤ r.transaction)))
    × ((IsChange r → IsHeapWord shape r.word × (IsRootOwner shape r.word → ⊥)) × ((IsDeletion r → IsPlainOwner shape r.word)
    × ((IsEnd r × ((r.outcome ≡ 1) ⊎ (r.outcome ≡ 2))) ⊎ ((r.kind ≢ 4) × (r.outcome ≡ 0))))))

pub formed_on : (shape : Shape) (r : Record) → FormedFacts shape r → IsWellFormed shape r
formed_on shape r h = record { kind = h.0; transaction = h.1.0; change = h.1.1.0; deletion = h.1.1.1.0; outcome = h.1.1.1.1 }

pub formed_back : (shape : Shape) (r : Record) → IsWellFormed shape r → FormedFacts shape r
formed_back shape r h = (h.kind, (h.transaction, (h.change, (h.deletion, h.outcome))))

unfoldable pub decide_formed : (shape : Shape) (r : Record) → IsDecided (IsWellFormed shape r)
unfolding decide_as decide_both decide_at_most decide_either decide_equal decide_not decide_implies decide_change decide_heap_word decide_root decide_plain
decide_formed shape r = decide_as (FormedFacts shape r) (IsWellFormed shape r) (formed_on shape r) (formed_back shape r)
    (decide_both _ _ (decide_both _ _ (decide_at_most 1 r.kind) (decide_at_most r.kind 6))
    (decide_both _ _ (decide_either _ _ (decide_both _ _ (decide_equal r.kind 5) (decide_equal r.transaction 0)) (decide_both _ _ (decide_not _ (decide_equal r.kind 5)) (decide_at_most 1 r.transaction)))
    (decide_both _ _ (decide_implies _ _ (decide_change r) (λ c. decide_both _ _ (decide_heap_word shape r.word) (decide_not _ (decide_root shape r.word))))
    (decide_both _ _ (decide_implies _ _ (decide_equal r.kind 6) (λ d. decide_plain shape r.word))
    (decide_either _ _ (decide_both _ _ (decide_equal r.kind 4) (decide_either _ _ (decide_equal r.outcome 1) (decide_equal r.outcome 2)))
    (decide_both _ _ (decide_not _ (decide_equal r.kind 4)) (decide_equal r.outcome 0)))))))

-- ---- the order rule

unfoldable pub decide_three : (P Q R : Type 0) → IsDecided P → IsDecided Q → IsDecided R → IsDecided (P × Q × R)
decide_three P Q R (inl p) (inl q) (inl r) = inl (p, q, r)
decide_three P Q R (inl p) (inl q) (inr n) = inr (λ h. n h.2)
decide_three P Q R (inl p) (inr n) d = inr (λ h. n h.1)
decide_three P Q R (inr n) d e = inr (λ h. n h.0)

unfoldable pub decide_of : (t : ℕ) (r : Record) → IsDecided (IsOf t r)
unfolding decide_both decide_equal decide_not
decide_of t r = decide_both _ _ (decide_equal r.transaction t) (decide_not _ (decide_equal r.kind 5))

unfoldable pub decide_bars : (log : Log) (s : Record) → IsDecided (Bars log s)
unfolding decide_either decide_both decide_names_word decide_running decide_equal decide_committed
decide_bars log s = decide_either _ _ (decide_both _ _ (decide_names_word s) (decide_running log s.transaction)) (decide_both _ _ (decide_equal s.kind 6) (decide_committed log s.transaction))

abbrev NextFacts : Log → Record → Record → Type 0
NextFacts earlier c u =
    (IsUpdate u × ((u.transaction ≡ c.transaction) × (u.lsn ≡ undo_point c.transaction earlier))) × ((c.word ≡ u.word) × ((c.before ≡ u.after) × ((c.after ≡ u.before) × (c.undo_next ≡ u.undo_next))))

pub next_on : (earlier : Log) (c : Record) → Has (NextFacts earlier c) earlier → (u : Record) × IsNextToUndo c.transaction earlier u × Compensates c u
next_on earlier c h = (
  h.0,
  record { among = h.1; update = h.2.0.0; owner = h.2.0.1.0; point = h.2.0.1.1 },
  record { word = h.2.1.0; before = h.2.1.1.0; after = h.2.1.1.1.0; undo_next = h.2.1.1.1.1 },
)

pub next_back : (earlier : Log) (c : Record) → (u : Record) × IsNextToUndo c.transaction earlier u × Compensates c u → Has (NextFacts earlier c) earlier
next_back earlier c h = (h.0, h.1.among, ((h.1.update, (h.1.owner, h.1.point)), (h.2.word, (h.2.before, (h.2.after, h.2.undo_next)))))

unfoldable pub decide_next : (earlier : Log) (c : Record) → IsDecided ((u : Record) × IsNextToUndo c.transaction earlier u × Compensates c u)
unfolding decide_as decide_has decide_both decide_equal
decide_next earlier c = decide_as (Has (NextFacts earlier c) earlier) _ (next_on earlier c) (next_back earlier c)
    (decide_has (NextFacts earlier c) earlier (λ u.
    decide_both _ _ (decide_both _ _ (decide_equal u.kind 1) (decide_both _ _ (decide_equal u.transaction c.transaction) (decide_equal u.lsn (undo_point c.transaction earlier))))
    (decide_both _ _ (decide_equal c.word u.word) (decide_both _ _ (decide_equal c.before u.after) (decide_both _ _ (decide_equal c.after u.before) (decide_equal c.undo_next u.undo_next))))))

abbrev UndoFacts : Log → Record → Type 0
UndoFacts earlier r =
    (IsUpdate r ⊎ IsDeletion r ⊎ IsRollback r → HasNo (λ s. IsOf r.transaction s × IsRollback s) earlier) × ((IsUpdate r → r.undo_next ≡ undo_point r.transaction earlier)
    × ((IsUpdate r → r.before ≡ last_new r.transaction r.word r.before earlier) × (IsCompensation r → (u : Record) × IsNextToUndo r.transaction earlier u × Compensates r u)))

pub undo_on : (earlier : Log) (r : Record) → UndoFacts earlier r → UndoesWell earlier r
undo_on earlier r h = record { no_rollback = h.0; undo_next = h.1.0; before = h.1.1.0; compensates = h.1.1.1 }

pub undo_back : (earlier : Log) (r : Record) → UndoesWell earlier r → UndoFacts earlier r
undo_back earlier r h = (h.no_rollback, (h.undo_next, (h.before, h.compensates)))

unfoldable pub decide_undoes : (earlier : Log) (r : Record) → IsDecided (UndoesWell earlier r)
unfolding decide_as decide_both decide_implies decide_either decide_equal decide_has_no decide_of decide_next
decide_undoes earlier r = decide_as (UndoFacts earlier r) (UndoesWell earlier r) (undo_on earlier r) (undo_back earlier r)
    (decide_both _ _ (decide_implies _ _ (decide_either _ _ (decide_equal r.kind 1) (decide_either _ _ (decide_equal r.kind 6) (decide_equal r.kind 3)))
    (λ k. decide_has_no (λ s. IsOf r.transaction s × IsRollback s) earlier (λ s. decide_both _ _ (decide_of r.transaction s) (decide_equal s.kind 3))))
    (decide_both _ _ (decide_implies _ _ (decide_equal r.kind 1) (λ k. decide_equal r.undo_next (undo_point r.transaction earlier)))
    (decide_both _ _ (decide_implies _ _ (decide_equal r.kind 1) (λ k. decide_equal r.before (last_new r.transaction r.word r.before earlier)))
    (decide_implies _ _ (decide_equal r.kind 2) (λ k. decide_next earlier r)))))

abbrev FollowFacts : (ℕ → ℕ) → Log → Log → Record → Type 0
FollowFacts part log earlier r =
    HasNo (λ s. s.lsn ≡ r.lsn) earlier × (HasNo (λ s. IsOf r.transaction s × (r.kind ≢ 5) × (part s.at ≢ part r.at)) earlier × (HasNo (λ s. IsOf r.transaction s × (r.kind ≢ 5) × IsEnd s) earlier
    × ((NamesWord r → HasNo (λ s. (s.word ≡ r.word) × (s.transaction ≢ r.transaction) × Bars log s) earlier) × ((r.kind ≢ 5) → IsRunning log r.transaction → UndoesWell earlier r))))

pub follow_on : (part : ℕ → ℕ) (log earlier : Log) (r : Record) → FollowFacts part log earlier r → Follows part log earlier r
follow_on part log earlier r h = record { fresh = h.0; one_part = h.1.0; not_ended = h.1.1.0; word = h.1.1.1.0; undo = h.1.1.1.1 }

pub follow_back : (part : ℕ → ℕ) (log earlier : Log) (r : Record) → Follows part log earlier r → FollowFacts part log earlier r
follow_back part log earlier r h = (h.fresh, (h.one_part, (h.not_ended, (h.word, h.undo))))

unfoldable pub decide_follows : (part : ℕ → ℕ) (log earlier : Log) (r : Record) → IsDecided (Follows part log earlier r)
unfolding decide_as decide_both decide_has_no decide_equal decide_three decide_of decide_not decide_implies decide_names_word decide_bars decide_running decide_undoes
decide_follows part log earlier r = decide_as (FollowFacts part log earlier r) (Follows part log earlier r) (follow_on part log earlier r) (follow_back part log earlier r)
    (decide_both _ _ (decide_has_no (λ s. s.lsn ≡ r.lsn) earlier (λ s. decide_equal s.lsn r.lsn))
    (decide_both _ _ (decide_has_no (λ s. IsOf r.transaction s × (r.kind ≢ 5) × (part s.at ≢ part r.at)) earlier
    (λ s. decide_three _ _ _ (decide_of r.transaction s) (decide_not _ (decide_equal r.kind 5)) (decide_not _ (decide_equal (part s.at) (part r.at)))))
    (decide_both _ _ (decide_has_no (λ s. IsOf r.transaction s × (r.kind ≢ 5) × IsEnd s) earlier
    (λ s. decide_three _ _ _ (decide_of r.transaction s) (decide_not _ (decide_equal r.kind 5)) (decide_equal s.kind 4)))
    (decide_both _ _ (decide_implies _ _ (decide_names_word r) (λ k. decide_has_no (λ s. (s.word ≡ r.word) × (s.transaction ≢ r.transaction) × Bars log s) earlier
    (λ s. decide_three _ _ _ (decide_equal s.word r.word) (decide_not _ (decide_equal s.transaction r.transaction)) (decide_bars log s))))
    (decide_implies _ _ (decide_not _ (decide_equal r.kind 5)) (λ k. decide_implies _ _ (decide_running log r.transaction) (λ u. decide_undoes earlier r)))))))

-- ---- room

unfoldable pub decide_open : (log : Log) → IsDecided (HasOpen log)
unfolding decide_has decide_both decide_not decide_equal decide_skipped
decide_open log = decide_has _ log (λ r. decide_both _ _ (decide_not _ (decide_equal r.kind 5)) (decide_not _ (decide_skipped log r.transaction)))

pub room_on : (shape : Shape) (log : Log) (p room : ℕ) → (need_in (part_of shape) p log ≤ room) × (p ≡ 0 → shape.policy ≡ 2 → HasOpen log → need_in (part_of shape) p log + 1 ≤ room) → HasRoom shape log p room
room_on shape log p room h = record { undo = h.0; checkpoint = h.1 }

pub room_back : (shape : Shape) (log : Log) (p room : ℕ) → HasRoom shape log p room → (need_in (part_of shape) p log ≤ room) × (p ≡ 0 → shape.policy ≡ 2 → HasOpen log → need_in (part_of shape) p log + 1 ≤ room)
room_back shape log p room h = (h.undo, h.checkpoint)

unfoldable pub decide_room : (shape : Shape) (log : Log) (p room : ℕ) → IsDecided (HasRoom shape log p room)
unfolding decide_as decide_both decide_at_most decide_implies decide_equal decide_open
decide_room shape log p room = decide_as _ (HasRoom shape log p room) (room_on shape log p room) (room_back shape log p room)
    (decide_both _ _ (decide_at_most (need_in (part_of shape) p log) room)
    (decide_implies _ _ (decide_equal p 0) (λ z. decide_implies _ _ (decide_equal shape.policy 2) (λ two. decide_implies _ _ (decide_open log) (λ o. decide_at_most (need_in (part_of shape) p log + 1) room)))))

abbrev NumberFacts : Shape → Log → Record → Type 0
NumberFacts shape log r =
    (r.lsn + total_need (part_of shape) shape.partitions log ≤ 2 ^ 63) × (shape.policy ≡ 2 → HasOpen log → r.lsn + total_need (part_of shape) shape.partitions log + 1 ≤ 2 ^ 63)

pub numbers_on : (shape : Shape) (log : Log) (r : Record) → NumberFacts shape log r → HasNumbers shape log r
numbers_on shape log r h = record { undo = h.0; checkpoint = h.1 }

pub numbers_back : (shape : Shape) (log : Log) (r : Record) → HasNumbers shape log r → NumberFacts shape log r
numbers_back shape log r h = (h.undo, h.checkpoint)

unfoldable pub decide_numbers : (shape : Shape) (log : Log) (r : Record) → IsDecided (HasNumbers shape log r)
unfolding decide_as decide_both decide_at_most decide_implies decide_equal decide_open
decide_numbers shape log r = decide_as (NumberFacts shape log r) (HasNumbers shape log r) (numbers_on shape log r) (numbers_back shape log r)
    (decide_both _ _ (decide_at_most (r.lsn + total_need (part_of shape) shape.partitions log) (2 ^ 63))
    (decide_implies _ _ (decide_equal shape.policy 2) (λ two. decide_implies _ _ (decide_open log) (λ o. decide_at_most (r.lsn + total_need (part_of shape) shape.partitions log + 1) (2 ^ 63)))))

-- ---- a state without a fault

-- what holds of a log where no rule fails
abbrev pub LogHolds : Shape → State → Type 0
LogHolds shape s =
    AllGood (λ earlier r. IsWellFormed shape r) s.log × (AllGood (Follows (part_of shape) s.log) s.log × (Each (λ p. HasRoom shape s.log p (s.room p)) (parts shape)
    × (((r : Record) → IsAmong s.log r → HasNumbers shape s.log r) × Unit {0})))

unfoldable pub log_some : (shape : Shape) (s : State) → CanFail (LogHolds shape s) (IsLogFault shape s)
unfolding oldest_some each_some tried_some none_fails decide_formed decide_follows decide_room decide_numbers decide_each
log_some shape s =
    oldest_some (λ earlier r. IsWellFormed shape r) _ 7 s.log _ (λ earlier r. decide_formed shape r) (λ h1.
    oldest_some (Follows (part_of shape) s.log) _ 8 s.log _ (decide_follows (part_of shape) s.log) (λ h2.
    each_some (λ p. HasRoom shape s.log p (s.room p)) _ 9 (λ p. list_words p + 1) (parts shape) _ (λ p. decide_room shape s.log p (s.room p)) (λ h3.
    tried_some _ (Unit {0}) 9 9 _ (decide_each (HasNumbers shape s.log) s.log (decide_numbers shape s.log)) (λ h4. none_fails))))

pub all_formed : (shape : Shape) (log : Log) → AllGood (λ earlier r. IsWellFormed shape r) log → AreWellFormed shape log
all_formed shape [] h r m = absurd m
all_formed shape (s ∷ log) h r (inl e) = subst (λ x. IsWellFormed shape x) (sym e) h.0
all_formed shape (s ∷ log) h r (inr m) = all_formed shape log h.1 r m

pub formed_all : (shape : Shape) (log : Log) → AreWellFormed shape log → AllGood (λ earlier r. IsWellFormed shape r) log
formed_all shape [] h = tt
formed_all shape (s ∷ log) h = (h s (inl refl), formed_all shape log (λ r m. h r (inr m)))

pub all_follow : (part : ℕ → ℕ) (all log : Log) → AllGood (Follows part all) log → FollowEach part all log
all_follow part all [] h = tt
all_follow part all (r ∷ log) h = (h.0, all_follow part all log h.1)

pub follow_all : (part : ℕ → ℕ) (all log : Log) → FollowEach part all log → AllGood (Follows part all) log
follow_all part all [] h = tt
follow_all part all (r ∷ log) h = (h.0, follow_all part all log h.1)

pub sound_of_holds : (shape : Shape) (s : State) → IsNewestFirst s.log → ((r : Record) → IsAmong s.log r → r.lsn ≢ 0) → LogHolds shape s → IsSoundState shape s
sound_of_holds shape s newest gates h = record {
  newest_first = newest;
  gates = gates;
  formed = all_formed shape s.log h.0;
  order = all_follow (part_of shape) s.log s.log h.1.0;
  room = λ p lt. of_range (λ q. HasRoom shape s.log q (s.room q)) 0 shape.partitions h.1.1.0 p (omega arith) (omega (arith, lt));
  numbers = h.1.1.1.0;
}

pub holds_of_sound : (shape : Shape) (s : State) → IsSoundState shape s → LogHolds shape s
holds_of_sound shape s h = (
  formed_all shape s.log h.formed,
  (follow_all (part_of shape) s.log s.log h.order, (each_in_range (λ q. HasRoom shape s.log q (s.room q)) 0 shape.partitions (λ p le lt. h.room p (omega (arith, lt))), (h.numbers, tt))),
)

pub log_none : (shape : Shape) (s : State) → LogHolds shape s → Excludes (IsLogFault shape s)
log_none shape s h =
    oldest_none _ 7 s.log _ h.0 (oldest_none _ 8 s.log _ h.1.0 (each_none _ 9 (λ p. list_words p + 1) (parts shape) _ h.1.1.0 (tried_none _ 9 9 _ h.1.1.1.0 none_excluded)))

-- two states with one log, whose partitions have the same room
pub log_one : (shape : Shape) (log : Log) (s x : State) → s.log ≡ log → x.log ≡ log → ((p : ℕ) → p < shape.partitions → s.room p ≡ x.room p) → AreOne (IsLogFault shape s) (IsLogFault shape x)
log_one shape log s x es ex room i a j b h k =
    let first : IsLogFault shape (record { log = log; words = s.words; room = s.room }) i a = subst (λ l. IsLogFault shape (record { log = l; words = s.words; room = s.room }) i a) es h in
    let second : IsLogFault shape (record { log = log; words = x.words; room = x.room }) j b = subst (λ l. IsLogFault shape (record { log = l; words = x.words; room = x.room }) j b) ex k in
    one i a j b first second
  where
    rooms : Each (λ p. Alike (HasRoom shape log p (s.room p)) (HasRoom shape log p (x.room p))) (parts shape)
    rooms = each_in_range (λ p. Alike (HasRoom shape log p (s.room p)) (HasRoom shape log p (x.room p))) 0 shape.partitions (λ p le lt.
        (subst (HasRoom shape log p) (room p (omega (arith, lt))), subst (HasRoom shape log p) (sym (room p (omega (arith, lt))))))

    one : AreOne (IsLogFault shape (record { log = log; words = s.words; room = s.room })) (IsLogFault shape (record { log = log; words = x.words; room = x.room }))
    one = oldest_one _ 7 log _ _ (oldest_one _ 8 log _ _ (each_one _ _ 9 (λ p. list_words p + 1) (parts shape) _ _ rooms (tried_one _ _ 9 9 _ _ (alike _) none_one)))
