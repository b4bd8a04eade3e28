-- The undo pass over the updates of one running transaction, newest first: it can always be made, and ends with the transaction ended.
use Rattle.std.proofs.Common.{◌≡◌, ◌≢◌, ◌⊎◌, inl, inr, ℕ, ◌+◌, ◌-◌, ◌/◌, ◌<◌, ◌≤◌, ◌==◌, true, false, if◌then◌else◌, [], ◌∷◌, refl, sym, ap, ◌∙◌, subst, arith}
use Rattle.std.proofs.lemmas.Bool.Decides.{eqb_tells, nat_tests}
use Rattle.std.proofs.Math.Nat.{min-le_right}
use Rattle.persist_model.specs.Region.{Words}
use Rattle.persist_model.specs.Records.{Record, Log, IsAmong, Has, IsOf, IsUpdate, IsCompensation, IsRollback, IsRunning}
use Rattle.log_laws.specs.Closing.{IsSublog, empty, stays, goes}
use Rattle.persist_model.specs.Shape.{Shape, part_of, bucket_size}
use Rattle.persist_model.specs.ImageRecords.{IsWellFormed}
use Rattle.persist_model.specs.Need.{to_undo}
use Rattle.persist_model.specs.State.{State, IsSoundState}
use Rattle.log_laws.specs.Recovery.{AreApplied, Appends, IsOfLoser, grown, Step, stores, compensates, Steps, start, makes}
use Rattle.log_laws.proofs.Growing.{Descends, numbered}
use Rattle.log_laws.proofs.Keeping.{recovery_keeps, good_of}
use Rattle.log_laws.proofs.Clearing.{loser_needs}
use Rattle.log_laws.proofs.Applying.{set_word, applied_stored, applied_noted}

pub part_inside : (shape : Shape) (at : ℕ) → 1 ≤ shape.partitions → part_of shape at < shape.partitions
part_inside shape at some =
    let le = min-le_right (((at - 32) / bucket_size shape) / (shape.buckets / shape.partitions)) (shape.partitions - 1) in
    omega (arith, le, some)

-- the room of part q without one cell
abbrev pub one_less : ℕ → (ℕ → ℕ) → ℕ → ℕ
one_less q room = λ p. if p == q then room q - 1 else room p

pub one_less_here : (q : ℕ) (room : ℕ → ℕ) → 1 ≤ room q → one_less q room q + 1 ≡ room q
one_less_here q room some = let on : (q == q) ≡ true = grind (arith, nat_tests) in rw on (omega (arith, some))

one_less_elsewhere : (q p : ℕ) (room : ℕ → ℕ) → p ≢ q → one_less q room p ≡ room p
one_less_elsewhere q p room ne = let off : (p == q) ≡ false = grind (arith, nat_tests) in rw off refl

newest_is_above : (x : Record) (log : Log) → Descends (x ∷ log) → (s : Record) → IsAmong (x ∷ log) s → s.lsn < x.lsn + 1
newest_is_above x log falls s (inl e) = let i : s.lsn ≡ x.lsn = ap (λ (y : Record). y.lsn) e in omega (arith, i)
newest_is_above x log falls s (inr m) = let lt = falls.0 s m in omega (arith, lt)

-- the next number of a log
abbrev pub next_lsn : Log → ℕ
next_lsn [] = 1
next_lsn (r ∷ log) = r.lsn + 1

-- with a cell of room in its part a record can be appended
pub appends_with : (shape : Shape) (s : State) (r x : Record) → 1 ≤ shape.partitions → IsSoundState shape s → IsAmong s.log x → 1 ≤ s.room (part_of shape r.at) →
    r.lsn ≡ next_lsn s.log → IsWellFormed shape r → Appends shape s r (one_less (part_of shape r.at) s.room)
appends_with shape s r x some h m enough next formed = by_log s.log refl
  where
    falls : Descends s.log
    falls = (good_of shape s h).falls

    by_log : (l : Log) → s.log ≡ l → Appends shape s r (one_less (part_of shape r.at) s.room)
    by_log [] is = absurd (subst (λ l. IsAmong l x) is m)
    by_log (y ∷ l) is = record {
      formed = formed;
      above = λ z k. (let lt = newest_is_above y l (subst Descends is falls) z (subst (λ l. IsAmong l z) is k) in
          let e : r.lsn ≡ y.lsn + 1 = next ∙ ap next_lsn is in omega (arith, lt, e));
      next = (y, subst (λ l. IsAmong l y) (sym is) (inl refl), next ∙ ap next_lsn is);
      inside = part_inside shape r.at some;
      here = one_less_here (part_of shape r.at) s.room enough;
      elsewhere = λ p ne. one_less_elsewhere (part_of shape r.at) p s.room ne;
    }

-- a running transaction can append a record in its part
pub can_append : (shape : Shape) (s : State) (r x : Record) → 1 ≤ shape.partitions → IsSoundState shape s → IsRunning s.log r.transaction → IsAmong s.log x → IsOf r.transaction x →
    ((y : Record) → IsAmong s.log y → IsOf r.transaction y → part_of shape y.at ≡ part_of shape r.at) → r.lsn ≡ next_lsn s.log → IsWellFormed shape r →
    Appends shape s r (one_less (part_of shape r.at) s.room)
can_append shape s r x some h running m of one next formed =
    let n = loser_needs (part_of shape) (part_of shape r.at) r.transaction s.log running (x, m, of) one in
    let k = (h.room (part_of shape r.at) (part_inside shape r.at some)).undo in
    appends_with shape s r x some h m (omega (arith, n, k)) next formed

-- the words after the OLD of each of these was stored
abbrev pub stored_words : Log → Words → Words
stored_words [] w = w
stored_words (u ∷ us) w = stored_words us (set_word w u.word u.before)

-- The undo of t goes on: it is sound, t runs and has its rollback record, and these are updates of t.
pub record IsUndoing (shape : Shape) (t : ℕ) (s : State) (us : Log) : Type 0 where
  pub sound : IsSoundState shape s
  pub running : IsRunning s.log t
  pub rolled : Has (λ x. IsOf t x × IsRollback x) s.log
  pub part : ℕ
  pub in_part : (y : Record) → IsAmong s.log y → IsOf t y → part_of shape y.at ≡ part
  pub applied : AreApplied shape.policy s.log s.words
  pub updates : (u : Record) → IsAmong us u → IsAmong s.log u × IsUpdate u × (u.transaction ≡ t)

-- what the pass comes to
pub record IsPassed (shape : Shape) (t : ℕ) (s : State) (us : Log) (y : State) : Type 0 where
  pub steps : Steps shape s y
  pub undoing : IsUndoing shape t y []
  pub nothing_left : to_undo t y.log ≡ []
  pub words : y.words ≡ stored_words us s.words
  pub updates : (r : Record) → IsUpdate r → IsAmong y.log r → IsAmong s.log r
  pub kept : (r : Record) → IsAmong s.log r → IsAmong y.log r
  pub news : (r : Record) → IsAmong y.log r → IsAmong s.log r ⊎ (r.transaction ≡ t)

pub steps_before : (shape : Shape) (s x y : State) → Step shape s x → Steps shape x y → Steps shape s y
steps_before shape s x _ step start = makes start step
steps_before shape s x _ step (makes {x = z} {y = y} before last) = makes (steps_before shape s x z step before) last

abbrev compensation_of : Record → ℕ → ℕ → Record
compensation_of u at lsn = record { at = at; lsn = lsn; transaction = u.transaction; kind = 2; word = u.word; before = u.after; after = u.before; undo_next = u.undo_next; outcome = 0 }

-- the store of an OLD
undo_store : (shape : Shape) (t : ℕ) (s : State) (u : Record) (us : Log) → IsUndoing shape t s (u ∷ us) →
    Step shape s (record { log = s.log; words = set_word s.words u.word u.before; room = s.room })
undo_store shape t s u us h = stores (set_word s.words u.word u.before) (λ a. elim (eqb_tells a u.word) [
  | inr ne ↦ inl (let off = ne.0 in rw off refl)
  | inl e ↦ (let k = h.updates u (inl refl) in inr (inl (u, k.0, (k.1, sym e.1, subst (λ x. IsRunning s.log x) (sym k.2) h.running))))
])

undoing_stored : (shape : Shape) (t : ℕ) (s : State) (u : Record) (us : Log) → IsUndoing shape t s (u ∷ us) → IsUndoing shape t (record { log = s.log; words = set_word s.words u.word u.before; room = s.room }) us
undoing_stored shape t s u us h = record {
  sound = record { newest_first = h.sound.newest_first; gates = h.sound.gates; formed = h.sound.formed; order = h.sound.order; room = h.sound.room; numbers = h.sound.numbers };
  running = h.running;
  rolled = h.rolled;
  part = h.part;
  in_part = h.in_part;
  applied = applied_stored shape.policy s.log s.words (set_word s.words u.word u.before) (numbered (part_of shape) s.log s.log h.sound.order)
      (λ a. elim (eqb_tells a u.word) [
        | inr ne ↦ inl (let off = ne.0 in rw off refl)
        | inl e ↦ (let k = h.updates u (inl refl) in inr (u, k.0, (k.1, sym e.1, subst (λ x. IsRunning s.log x) (sym k.2) h.running)))
      ]) h.applied;
  updates = λ x m. h.updates x (inr m);
}

-- the compensation of the update on top
compensated : (shape : Shape) (t : ℕ) (s : State) (u : Record) (us stack : Log) → 1 ≤ shape.partitions → IsUndoing shape t s (u ∷ us) → to_undo t s.log ≡ u ∷ stack →
    (c : Record) × (room : ℕ → ℕ) × Step shape s (grown s c room) × IsUndoing shape t (grown s c room) (u ∷ us) × (to_undo t (c ∷ s.log) ≡ stack) × IsCompensation c × (c.transaction ≡ t)
compensated shape t s u us stack some h is =
    let k = h.updates u (inl refl) in
    let of_u : IsOf t u = (k.2, λ five. (let one = k.1 in absurd (omega (arith, one, five)))) in
    let c = compensation_of u u.at (next_lsn s.log) in
    let running : IsRunning s.log c.transaction = subst (λ x. IsRunning s.log x) (sym k.2) h.running in
    let one : (y : Record) → IsAmong s.log y → IsOf c.transaction y → part_of shape y.at ≡ part_of shape u.at =
    λ y m of. h.in_part y m (of.0 ∙ k.2, of.1) ∙ sym (h.in_part u k.0 of_u) in
    let formed_u = h.sound.formed u k.0 in
    let formed : IsWellFormed shape c = record {
      kind = (omega arith, omega arith);
      transaction = elim formed_u.transaction [ inl z ↦ (let one = k.1 in let five = z.0 in absurd (omega (arith, one, five))) | inr z ↦ inr ((omega arith), z.1) ];
      change = λ _. formed_u.change (inl k.1);
      deletion = λ six. absurd (omega arith);
      outcome = inr ((omega arith), refl);
    } in
    let appends = can_append shape s c u some h.sound running k.0 (refl, of_u.1) one refl formed in
    let loser : IsOfLoser shape s.log c = record { running = ((u, k.0, (refl, of_u.1)), running); one_part = one } in
    let shape_is : to_undo c.transaction s.log ≡ u ∷ stack = ap (λ x. to_undo x s.log) k.2 ∙ is in
    let step = compensates c u stack (one_less (part_of shape u.at) s.room) appends loser refl shape_is (record { word = refl; before = refl; after = refl; undo_next = refl }) in
    let off : (u.transaction == t) ≡ true = (let e = k.2 in grind (arith, nat_tests)) in (
      c,
      one_less (part_of shape u.at) s.room,
      step,
      record {
        sound = (recovery_keeps shape s (grown s c (one_less (part_of shape u.at) s.room)) h.sound step).0;
        running = λ e m end. elim m [ inl same ↦ (let four = end.0 in let two : e.kind ≡ 2 = ap (λ (y : Record). y.kind) same in absurd (omega (arith, four, two))) | inr j ↦ h.running e j end ];
        rolled = (h.rolled.0, inr h.rolled.1, h.rolled.2);
        part = h.part;
        in_part = λ y m of. elim m [ inl same ↦ ap (λ (z : Record). part_of shape z.at) same ∙ h.in_part u k.0 of_u | inr j ↦ h.in_part y j of ];
        applied = applied_noted shape.policy s.log s.words c ((λ z. absurd (omega (arith, z))), (λ z. absurd (omega (arith, z)))) (λ z. absurd (omega (arith, z))) running
            (numbered (part_of shape) (c ∷ s.log) (c ∷ s.log) (recovery_keeps shape s (grown s c (one_less (part_of shape u.at) s.room)) h.sound step).0.order) h.applied;
        updates = λ x m. (let j = h.updates x m in (inr j.0, j.1, j.2));
      },
      rw (off, is) refl,
      refl,
      k.2,
    )

-- The pass: at each update it finds it on top of the stack and compensates it, or passes it over; and it stores its OLD.
pub undo_pass : (shape : Shape) (t : ℕ) (s : State) (stack us : Log) → 1 ≤ shape.partitions → IsSublog (λ r. Unit {0}) stack us → to_undo t s.log ≡ stack → IsUndoing shape t s us →
    (y : State) × IsPassed shape t s us y
undo_pass shape t s _ _ some empty is h = (s, record { steps = start; undoing = h; nothing_left = is; words = refl; updates = λ r u m. m; kept = λ r m. m; news = λ r m. inl m })
undo_pass shape t s _ _ some (goes u {later = stack} {log = us} q part) is h =
    let x = set_word s.words u.word u.before in
    let step = undo_store shape t s u us h in
    let k = undo_pass shape t (record { log = s.log; words = x; room = s.room }) stack us some part is (undoing_stored shape t s u us h) in (
      k.0,
      record {
        steps = steps_before shape s (record { log = s.log; words = x; room = s.room }) k.0 step k.1.steps;
        undoing = k.1.undoing;
        nothing_left = k.1.nothing_left;
        words = k.1.words;
        updates = k.1.updates;
        kept = k.1.kept;
        news = k.1.news;
      },
    )
undo_pass shape t s _ _ some (stays u {later = stack} {log = us} part) is h =
    let c = compensated shape t s u us stack some h is in
    let z = grown s c.0 c.1 in
    let x = set_word s.words u.word u.before in
    let step = undo_store shape t z u us c.3 in
    let k = undo_pass shape t (record { log = z.log; words = x; room = z.room }) stack us some part c.4 (undoing_stored shape t z u us c.3) in (
      k.0,
      record {
        steps = steps_before shape s z k.0 c.2 (steps_before shape z (record { log = z.log; words = x; room = z.room }) k.0 step k.1.steps);
        undoing = k.1.undoing;
        nothing_left = k.1.nothing_left;
        words = k.1.words;
        updates = λ r u m. elim (k.1.updates r u m) [ inl same ↦ (let two : r.kind ≡ 2 = ap (λ (y : Record). y.kind) same ∙ c.5 in absurd (omega (arith, u, two))) | inr j ↦ j ];
        kept = λ r m. k.1.kept r (inr m);
        news = λ r m. elim (k.1.news r m) [
          | inr mine ↦ inr mine
          | inl before ↦ elim before [ inl same ↦ inr (ap (λ (y : Record). y.transaction) same ∙ c.6) | inr j ↦ inl j ]
        ];
      },
    )
