-- A whole recovery, step by step, from any sound state: it can always be made, and it leaves no record and each word at its standing value.
use Rattle.std.proofs.Common.{◌≡◌, ◌≢◌, ◌⊎◌, inl, inr, ℕ, ◌≤◌, Bool, true, false, if◌then◌else◌, List, [], ◌∷◌, refl, sym, ap, ◌∙◌, subst, arith}
use Rattle.persist_model.specs.Region.{Words}
use Rattle.persist_model.specs.Records.{Record, Log, IsAmong, Has, HasNo, IsOf, IsUpdate, IsChange, IsRollback, IsRunning, IsEnded, IsLoser}
use Rattle.persist_model.specs.Standing.{IsToRedo, Stands}
use Rattle.persist_model.specs.Order.{is_kind_of, IsInOrder}
use Rattle.persist_model.specs.Shape.{Shape, part_of}
use Rattle.persist_model.specs.ImageRecords.{IsWellFormed}
use Rattle.persist_model.specs.Need.{to_undo}
use Rattle.persist_model.specs.State.{State, HasOpen, IsSoundState}
use Rattle.log_laws.specs.Recovery.{AreApplied, IsStored, IsOfLoser, grown, Step, stores, rolls_back, ends, checkpoints, closes, Steps, start, makes}
use Rattle.log_laws.proofs.Deciding.{IsDecided, decide_equal, decide_both, decide_not, decide_has, decide_skipped, decide_running, has_or_none}
use Rattle.log_laws.proofs.Growing.{numbered, one_before, has_back}
use Rattle.log_laws.proofs.Stacks.{is_to, IsTo, updates, compensates, neither}
use Rattle.log_laws.proofs.Keeping.{recovery_keeps, runs_keep, good_of, undone_of}
use Rattle.log_laws.proofs.Clearing.{updates_of, stack_is_part}
use Rattle.log_laws.proofs.Applying.{set_word, undone_words, undone_stored, passed_words, pass_applies, pass_covered, applied_noted, applied_ended, applied_checkpointed, all_close, stands_empty}
use Rattle.log_laws.proofs.Passes.{one_less, next_lsn, can_append, appends_with, stored_words, IsUndoing, undo_pass}

pub steps_all : (shape : Shape) (s x y : State) → Steps shape s x → Steps shape x y → Steps shape s y
steps_all shape s x _ before start = before
steps_all shape s x _ before (makes {x = z} {y = y} after last) = makes (steps_all shape s x z before after) last

in_one_part : (part : ℕ → ℕ) (log : Log) (t : ℕ) → IsInOrder part log → (x y : Record) → IsAmong log x → IsAmong log y → IsOf t x → IsOf t y → part x.at ≡ part y.at
in_one_part part log t f x y m k of_x of_y = elim (decide_equal (part x.at) (part y.at)) [
  | inl e ↦ e
  | inr ne ↦ absurd (elim (one_before part log log f x y m k) [
    | inl same ↦ ne (ap (λ (z : Record). part z.at) same)
    | inr (inl h) ↦ h.2.one_part y h.1 ((of_y.0 ∙ sym of_x.0, of_y.1), of_x.1, (λ e. ne (sym e)))
    | inr (inr h) ↦ h.2.one_part x h.1 ((of_x.0 ∙ sym of_y.0, of_x.1), of_y.1, ne)
  ])
]

updates_among : (t : ℕ) (log : Log) (u : Record) → IsAmong (updates_of t log) u → IsAmong log u × IsUpdate u × (u.transaction ≡ t)
updates_among t [] u m = absurd m
updates_among t (r ∷ log) u m = by_kind (is_to t r) (updates_among t log u)
  where
    other : is_kind_of t 1 r ≡ false → (IsAmong (updates_of t log) u → IsAmong log u × IsUpdate u × (u.transaction ≡ t)) → IsAmong (r ∷ log) u × IsUpdate u × (u.transaction ≡ t)
    other off again = let k = again (subst (λ b. IsAmong (if b then r ∷ updates_of t log else updates_of t log) u) off m) in (inr k.0, k.1, k.2)

    by_kind : IsTo t r → (IsAmong (updates_of t log) u → IsAmong log u × IsUpdate u × (u.transaction ≡ t)) → IsAmong (r ∷ log) u × IsUpdate u × (u.transaction ≡ t)
    by_kind (updates one update owner) again = elim (subst (λ b. IsAmong (if b then r ∷ updates_of t log else updates_of t log) u) one m) [
      | inl e ↦ (inl e, subst (λ (y : Record). IsUpdate y) (sym e) update, ap (λ (y : Record). y.transaction) e ∙ owner)
      | inr k ↦ (let j = again k in (inr j.0, j.1, j.2))
    ]
    by_kind (compensates off two comp owner) again = other off again
    by_kind (neither off not_two none) again = other off again

stored_is_undone : (t : ℕ) (log : Log) (w : Words) → stored_words (updates_of t log) w ≡ undone_words t log w
stored_is_undone t [] w = refl
stored_is_undone t (r ∷ log) w = by_test (is_kind_of t 1 r) (stored_is_undone t log (set_word w r.word r.before)) (stored_is_undone t log w)
  where
    by_test : (b : Bool) → stored_words (updates_of t log) (set_word w r.word r.before) ≡ undone_words t log (set_word w r.word r.before) → stored_words (updates_of t log) w ≡ undone_words t log w →
        stored_words (if b then r ∷ updates_of t log else updates_of t log) w ≡ (if b then undone_words t log (set_word w r.word r.before) else undone_words t log w)
    by_test true with_it without = with_it
    by_test false with_it without = without

-- a sound state in which all is applied, reached from s
pub record IsReached (shape : Shape) (s y : State) : Type 0 where
  pub steps : Steps shape s y
  pub sound : IsSoundState shape y
  pub applied : AreApplied shape.policy y.log y.words

abbrev plain_record : ℕ → ℕ → ℕ → ℕ → ℕ → Record
plain_record at lsn t kind outcome = record { at = at; lsn = lsn; transaction = t; kind = kind; word = 0; before = 0; after = 0; undo_next = 0; outcome = outcome }

plain_formed : (shape : Shape) (at lsn t kind outcome : ℕ) → 1 ≤ t → ((kind ≡ 3) × (outcome ≡ 0)) ⊎ ((kind ≡ 4) × (outcome ≡ 2)) → IsWellFormed shape (plain_record at lsn t kind outcome)
plain_formed shape at lsn t kind outcome some (inl h) = let k = h.0 in record {
  kind = (omega (arith, k), omega (arith, k));
  transaction = inr ((omega (arith, k)), some);
  change = λ c. elim c [ inl u ↦ absurd (omega (arith, k, u)) | inr u ↦ absurd (omega (arith, k, u)) ];
  deletion = λ d. absurd (omega (arith, k, d));
  outcome = inr ((omega (arith, k)), h.1);
}
plain_formed shape at lsn t kind outcome some (inr h) = let k = h.0 in record {
  kind = (omega (arith, k), omega (arith, k));
  transaction = inr ((omega (arith, k)), some);
  change = λ c. elim c [ inl u ↦ absurd (omega (arith, k, u)) | inr u ↦ absurd (omega (arith, k, u)) ];
  deletion = λ d. absurd (omega (arith, k, d));
  outcome = inl (k, inr h.1);
}

-- what a record of t may be in the part of another
loser_of : (shape : Shape) (s : State) (r x : Record) → IsSoundState shape s → IsRunning s.log r.transaction → IsAmong s.log x → IsOf r.transaction x → part_of shape x.at ≡ part_of shape r.at → IsOfLoser shape s.log r
loser_of shape s r x h running m of at = record {
  running = ((x, m, of), running);
  one_part = λ y k of_y. in_one_part (part_of shape) s.log r.transaction h.order y x k m of_y of ∙ at;
}

one_of : (shape : Shape) (t : ℕ) (x : Record) → IsWellFormed shape x → IsOf t x → 1 ≤ t
one_of shape t x h of = elim h.transaction [ inl z ↦ absurd (of.1 z.0) | inr z ↦ (let e = of.0 in let k = z.1 in omega (arith, e, k)) ]

-- the state in which t has a rollback record
pub record IsRolling (shape : Shape) (t : ℕ) (s y : State) : Type 0 where
  pub reached : IsReached shape s y
  pub running : IsRunning y.log t
  pub rolled : Has (λ x. IsOf t x × IsRollback x) y.log
  pub kept : (r : Record) → IsAmong s.log r → IsAmong y.log r
  pub news : (r : Record) → IsAmong y.log r → IsAmong s.log r ⊎ (r.transaction ≡ t)

roll_back : (shape : Shape) (t : ℕ) (s : State) → 1 ≤ shape.partitions → IsSoundState shape s → AreApplied shape.policy s.log s.words → IsLoser s.log t → (y : State) × IsRolling shape t s y
roll_back shape t s some h applied loser = elim (has_or_none (λ x. IsOf t x × IsRollback x) s.log (λ r. decide_both _ _ (decide_both _ _ (decide_equal r.transaction t) (decide_not _ (decide_equal r.kind 5))) (decide_equal r.kind 3))) [
  | inl rolled ↦ (s, record { reached = record { steps = start; sound = h; applied = applied }; running = loser.1; rolled = rolled; kept = λ r m. m; news = λ r m. inl m })
  | inr fresh ↦ (
      let x = loser.0.0 in
      let r = plain_record x.at (next_lsn s.log) t 3 0 in
      let room = one_less (part_of shape x.at) s.room in
      let l = loser_of shape s r x h loser.1 loser.0.1 loser.0.2 refl in
      let a = can_append shape s r x some h loser.1 loser.0.1 loser.0.2 l.one_part refl
      (plain_formed shape x.at (next_lsn s.log) t 3 0 (one_of shape t x (h.formed x loser.0.1) loser.0.2) (inl (refl, refl))) in
      let step = rolls_back r room a l refl fresh in
      let sound = (recovery_keeps shape s (grown s r room) h step).0 in (
        grown s r room,
        record {
          reached = record {
            steps = makes start step;
            sound = sound;
            applied = applied_noted shape.policy s.log s.words r ((λ z. absurd (omega (arith, z))), (λ z. absurd (omega (arith, z)))) (λ z. absurd (omega (arith, z))) loser.1
                (numbered (part_of shape) (r ∷ s.log) (r ∷ s.log) sound.order) applied;
          };
          running = λ e m end. elim m [ inl same ↦ (let k : e.kind ≡ 3 = ap (λ (y : Record). y.kind) same in let f = end.0 in absurd (omega (arith, k, f))) | inr j ↦ loser.1 e j end ];
          rolled = (r, inl refl, ((refl, λ z. absurd (omega (arith, z))), refl));
          kept = λ z m. inr m;
          news = λ z m. elim m [ inl same ↦ inr (ap (λ (y : Record). y.transaction) same) | inr j ↦ inl j ];
        },
      ))
]

had_before : (t y : ℕ) (e : Record) (later log : Log) → e.transaction ≡ t → ((r : Record) → IsAmong later r → IsAmong log r ⊎ (r.transaction ≡ t)) → Has (IsOf y) (e ∷ later) → y ≢ t → Has (IsOf y) log
had_before t y e later log owner news h ne = elim h.1 [
  | inl same ↦ absurd (ne (sym h.2.0 ∙ ap (λ (z : Record). z.transaction) same ∙ owner))
  | inr m ↦ elim (news h.0 m) [ inl k ↦ (h.0, k, h.2) | inr mine ↦ absurd (ne (sym h.2.0 ∙ mine)) ]
]

-- t is undone and ended, and no other transaction has come to run
pub record IsEndedAt (shape : Shape) (t : ℕ) (s y : State) : Type 0 where
  pub reached : IsReached shape s y
  pub ended : IsEnded y.log t
  pub losers : (x : ℕ) → IsLoser y.log x → x ≢ t → IsLoser s.log x

undo_whole : (shape : Shape) (t : ℕ) (s : State) → 1 ≤ shape.partitions → IsSoundState shape s → AreApplied shape.policy s.log s.words → IsLoser s.log t → (y : State) × IsEndedAt shape t s y
undo_whole shape t s some h applied loser =
    let roll = roll_back shape t s some h applied loser in
    let b = roll.0 in
    let x = loser.0.0 in
    let mx = roll.1.kept x loser.0.1 in
    let undoing : IsUndoing shape t b (updates_of t b.log) = record {
      sound = roll.1.reached.sound;
      running = roll.1.running;
      rolled = roll.1.rolled;
      part = part_of shape x.at;
      in_part = λ y m of. in_one_part (part_of shape) b.log t roll.1.reached.sound.order y x m mx of loser.0.2;
      applied = roll.1.reached.applied;
      updates = updates_among t b.log;
    } in
    let pass = undo_pass shape t b (to_undo t b.log) (updates_of t b.log) some (stack_is_part t b.log) refl undoing in
    let c = pass.0 in
    let mc = pass.1.kept x mx in
    let stored : IsStored t c.log c.words = λ a u first.
    ap (λ f. f a) (pass.1.words ∙ stored_is_undone t b.log b.words)
    ∙ undone_stored t b.log b.words (good_of shape b roll.1.reached.sound).falls a u (record {
      among = pass.1.updates u first.has.0 first.among;
      has = first.has;
      first = λ z m k. first.first z (pass.1.kept z m) k;
    }) in
    let e = plain_record x.at (next_lsn c.log) t 4 2 in
    let room = one_less (part_of shape x.at) c.room in
    let l = loser_of shape c e x pass.1.undoing.sound pass.1.undoing.running mc loser.0.2 refl in
    let a = can_append shape c e x some pass.1.undoing.sound pass.1.undoing.running mc loser.0.2 l.one_part refl
    (plain_formed shape x.at (next_lsn c.log) t 4 2 (one_of shape t x (h.formed x loser.0.1) loser.0.2) (inr (refl, refl))) in
    let step = ends e room a l refl refl pass.1.undoing.rolled pass.1.nothing_left stored in
    let sound = (recovery_keeps shape c (grown c e room) pass.1.undoing.sound step).0 in (
      grown c e room,
      record {
        reached = record {
          steps = makes (steps_all shape s b c roll.1.reached.steps pass.1.steps) step;
          sound = sound;
          applied = applied_ended (part_of shape) shape.policy t c.log c.words e (good_of shape c pass.1.undoing.sound)
              (undone_of shape c t pass.1.undoing.sound pass.1.undoing.running pass.1.nothing_left stored)
              (record { end = refl; owner = refl; outcome = λ z. absurd (omega (arith, z)); above = a.above })
              (numbered (part_of shape) (e ∷ c.log) (e ∷ c.log) sound.order) pass.1.undoing.applied;
        };
        ended = (e, inl refl, (refl, refl));
        losers = λ y lose ne. (had_before t y e c.log s.log refl (λ r m. elim (pass.1.news r m) [ inl k ↦ roll.1.news r k | inr mine ↦ inr mine ]) lose.0 ne, λ z m end. lose.1 z (inr (pass.1.kept z (roll.1.kept z m))) end);
      },
    )

-- all running transactions are undone, of those listed
undo_each : (shape : Shape) (ts : List ℕ) (s : State) → 1 ≤ shape.partitions → IsSoundState shape s → AreApplied shape.policy s.log s.words → ((x : ℕ) → IsLoser s.log x → IsAmong ts x) →
    (y : State) × IsReached shape s y × ((x : ℕ) → IsLoser y.log x → ⊥)
undo_each shape [] s some h applied listed = (s, record { steps = start; sound = h; applied = applied }, λ x l. listed x l)
undo_each shape (t ∷ ts) s some h applied listed = elim (decide_both _ _ (decide_has (IsOf t) s.log (λ r. decide_both _ _ (decide_equal r.transaction t) (decide_not _ (decide_equal r.kind 5)))) (decide_running s.log t)) [
  | inr not_loser ↦ undo_each shape ts s some h applied (λ x l. elim (listed x l) [ inl e ↦ absurd (not_loser (subst (λ z. IsLoser s.log z) e l)) | inr m ↦ m ])
  | inl loser ↦ (
      let z = undo_whole shape t s some h applied loser in
      let k = undo_each shape ts z.0 some z.1.reached.sound z.1.reached.applied (λ x l.
      let ne : x ≢ t = λ e. l.1 z.1.ended.0 z.1.ended.1 (z.1.ended.2.0, z.1.ended.2.1 ∙ sym e) in
      elim (listed x (z.1.losers x l ne)) [ inl e ↦ absurd (ne e) | inr m ↦ m ]) in
      (k.0, record { steps = steps_all shape s z.0 k.0 z.1.reached.steps k.1.steps; sound = k.1.sound; applied = k.1.applied }, k.2))
]

abbrev transactions : Log → List ℕ
transactions [] = []
transactions (r ∷ log) = r.transaction ∷ transactions log

listed_all : (log : Log) (x : ℕ) → Has (IsOf x) log → IsAmong (transactions log) x
listed_all [] x h = absurd h.1
listed_all (r ∷ log) x h = by_place h.1 (λ m. listed_all log x (h.0, m, h.2))
  where
    by_place : (h.0 ≡ r) ⊎ IsAmong log h.0 → (IsAmong log h.0 → IsAmong (transactions log) x) → IsAmong (transactions (r ∷ log)) x
    by_place (inl e) again = inl (sym h.2.0 ∙ ap (λ (z : Record). z.transaction) e)
    by_place (inr m) again = inr (again m)

-- the last record of a closing: all are closed
close_all : (shape : Shape) (s y : State) → IsReached shape s y → ((x : ℕ) → IsLoser y.log x → ⊥) → ((a : ℕ) → HasNo (IsToRedo shape.policy y.log a) y.log) →
    Steps shape s (record { log = []; words = y.words; room = y.room })
close_all shape s y h over nothing = makes h.steps (closes [] y.room (all_close shape.policy y.log y.words over h.applied nothing) (λ p. omega arith))

decide_open : (log : Log) → IsDecided (HasOpen log)
decide_open log = decide_has _ log (λ r. decide_both _ _ (decide_not _ (decide_equal r.kind 5)) (decide_not _ (decide_skipped log r.transaction)))

not_check : (r : Record) → IsChange r → r.kind ≢ 5
not_check r (inl u) five = absurd (omega (arith, u, five))
not_check r (inr c) five = absurd (omega (arith, c, five))

-- the checkpoint record under no-force: then nothing is to be redone
checkpointed : (shape : Shape) (s y : State) (at : ℕ) → 1 ≤ shape.partitions → part_of shape at ≡ 0 → IsReached shape s y → ((x : ℕ) → IsLoser y.log x → ⊥) → shape.policy ≡ 2 → HasOpen y.log →
    (z : State) × IsReached shape s z × ((x : ℕ) → IsLoser z.log x → ⊥) × ((a : ℕ) → HasNo (IsToRedo shape.policy z.log a) z.log)
checkpointed shape s y at some first h over two opened =
    let c = plain_record at (next_lsn y.log) 0 5 0 in
    let room = one_less (part_of shape at) y.room in
    let enough : 1 ≤ y.room (part_of shape at) = subst (λ q. 1 ≤ y.room q) (sym first) (let k = (h.sound.room 0 (omega arith)).checkpoint refl two opened in omega (arith, k)) in
    let a = appends_with shape y c opened.0 some h.sound opened.1 enough refl (record {
      kind = (omega arith, omega arith);
      transaction = inl (refl, refl);
      change = λ k. elim k [ inl u ↦ absurd (omega (arith, u)) | inr u ↦ absurd (omega (arith, u)) ];
      deletion = λ d. absurd (omega (arith, d));
      outcome = inr ((omega arith), refl);
    }) in
    let step = checkpoints c room a refl first two opened over h.applied in
    let sound = (recovery_keeps shape y (grown y c room) h.sound step).0 in (
      grown y c room,
      record {
        steps = makes h.steps step;
        sound = sound;
        applied = applied_checkpointed shape.policy y.log y.words c refl a.above (numbered (part_of shape) (c ∷ y.log) (c ∷ y.log) sound.order) h.applied;
      },
      (λ x l. over x (has_back (IsOf x) c y.log (λ k. k.1 refl) l.0, λ e m end. l.1 e (inr m) end)),
      λ b r m k. (let e = has_back _ c y.log (λ q. absurd (omega (arith, q.0))) k.3 in k.4 (e.0, inr e.1, (e.2, (c, inl refl, (refl, a.above e.0 e.1))))),
    )

-- From any sound state the steps of recovery lead to one without records, whose words are the standing ones.
pub recovery_ends : (shape : Shape) (s : State) (at : ℕ) → 1 ≤ shape.partitions → part_of shape at ≡ 0 → IsSoundState shape s → (y : State) × Steps shape s y × (y.log ≡ []) × ((a v : ℕ) → Stands shape.policy s.log s.words a v → v ≡ y.words a)
recovery_ends shape s at some first h =
    let w = passed_words shape.policy s.log s.words in
    let step : Step shape s (record { log = s.log; words = w; room = s.room }) = stores w (pass_covered shape.policy s.log s.words) in
    let x : State = record { log = s.log; words = w; room = s.room } in
    let all = undo_each shape (transactions s.log) x some (recovery_keeps shape s x h step).0 (pass_applies shape.policy s.log s.words (good_of shape s h).falls) (λ t l. listed_all s.log t l.0) in
    let y = all.0 in
    let from : Steps shape s y = steps_all shape s x y (makes start step) all.1.steps in
    let reached : IsReached shape s y = record { steps = from; sound = all.1.sound; applied = all.1.applied } in
    let closed : (z : State) × Steps shape s z × (z.log ≡ []) = close y reached all.2 in (
      closed.0,
      closed.1,
      closed.2,
      λ a v st.
          let kept = (runs_keep shape s closed.0 h closed.1).1 a v st in
          stands_empty shape.policy closed.0.words a v (subst (λ l. Stands shape.policy l closed.0.words a v) closed.2 kept),
    )
  where
    close : (y : State) → IsReached shape s y → ((x : ℕ) → IsLoser y.log x → ⊥) → (z : State) × Steps shape s z × (z.log ≡ [])
    close y reached over = elim (decide_equal shape.policy 2) [
      | inr force ↦ (record { log = []; words = y.words; room = y.room }, close_all shape s y reached over (λ a r m k. force k.0), refl)
      | inl two ↦ elim (decide_open y.log) [
        | inr shut ↦ (record { log = []; words = y.words; room = y.room }, close_all shape s y reached over (λ a r m k. shut (r, m, (not_check r k.1, k.4))), refl)
        | inl opened ↦ (
            let z = checkpointed shape s y at some first reached over two opened in
            (record { log = []; words = z.0.words; room = z.0.room }, close_all shape s z.0 z.1 z.2 z.3, refl))
      ]
    ]
