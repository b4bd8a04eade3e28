-- Each step of recovery keeps a state sound, with its standing values.
use Rattle.std.proofs.Common.{◌≡◌, ◌≢◌, ◌⊎◌, inl, inr, ℕ, ◌+◌, ◌<◌, ◌≤◌, ◌^◌, ◌==◌, true, false, [], ◌∷◌, refl, sym, ap, ◌∙◌, subst, arith}
use Rattle.std.proofs.lemmas.Bool.Decides.{eqb_tells, nat_tests}
use Rattle.persist_model.specs.Records.{Record, Log, IsAmong, IsNewestFirst, IsCheckpoint, IsRunning, IsLoser}
use Rattle.persist_model.specs.Order.{IsNextToUndo, Follows, FollowEach}
use Rattle.log_laws.specs.Closing.{IsSublog, empty, stays, goes, IsClosing}
use Rattle.persist_model.specs.Shape.{Shape, part_of}
use Rattle.persist_model.specs.ImageRecords.{IsWellFormed}
use Rattle.persist_model.specs.Need.{to_undo, need_of, need_at, sum_over, need_in}
use Rattle.persist_model.specs.State.{State, HasOpen, total_need, HasRoom, IsSoundState}
use Rattle.log_laws.specs.Recovery.{Appends, IsOfLoser, grown, IsStored, Step, stores, rolls_back, compensates, ends, checkpoints, closes, KeepsStanding, Steps, start, makes}
use Rattle.log_laws.proofs.Deciding.{ended_or_running}
use Rattle.log_laws.proofs.Standings.{stands_stored, earliest_some}
use Rattle.log_laws.proofs.Growing.{Descends, order_grown, numbered, stands_noted}
use Rattle.log_laws.proofs.Stacks.{IsUpdateBy, first_old_is, update_test, has_stack, top_lsn, IsStack}
use Rattle.log_laws.proofs.Undoing.{IsGood, IsUndone, rollback_follows, compensation_follows, end_follows, checkpoint_follows, stands_ended, stands_checkpointed}
use Rattle.log_laws.proofs.Needs.{need_rollback, need_compensation, need_end, need_fell, need_stays, total_fell, total_same, has_kind_true, has_kind_false}
use Rattle.log_laws.proofs.Closings.{part_among, skipped_on, stands_closed, order_closed}
use Rattle.log_laws.proofs.ClosingNeeds.{need_closed, total_closed}

descends_of : (part : ℕ → ℕ) (all log : Log) → FollowEach part all log → IsNewestFirst log → Descends log
descends_of part all [] f n = tt
descends_of part all (r ∷ log) f n = (λ s m. elim (n.0 s m) [ inl lt ↦ lt | inr same ↦ absurd (f.0.fresh s m same.0) ], descends_of part all log f.1 n.1)

pub good_of : (shape : Shape) (s : State) → IsSoundState shape s → IsGood (part_of shape) s.log
good_of shape s h = record { order = h.order; falls = descends_of (part_of shape) s.log s.log h.order h.newest_first; nonzero = h.gates }

-- a running transaction leaves the log open
pub loser_open : (log : Log) (t : ℕ) → IsLoser log t → HasOpen log
loser_open log t h = (h.0.0, h.0.1, (h.0.2.1, λ k. h.1 k.0 k.1 (k.2.0.0, k.2.0.1 ∙ h.0.2.0)))

-- ---- a record of a running transaction

grown_sound : (shape : Shape) (s : State) (r : Record) (room : ℕ → ℕ) → IsSoundState shape s → Appends shape s r room → IsOfLoser shape s.log r →
    Follows (part_of shape) (r ∷ s.log) s.log r → need_of (r ∷ s.log) r.transaction + 1 ≡ need_of s.log r.transaction →
    IsSoundState shape (grown s r room)
grown_sound shape s r room h a l follows less = record {
  newest_first = (λ x m. inl (a.above x m), h.newest_first);
  gates = λ x m. elim m [ inl e ↦ (λ z. let n = a.next.2 in let i : x.lsn ≡ r.lsn = ap (λ (y : Record). y.lsn) e in absurd (omega (arith, z, n, i))) | inr k ↦ h.gates x k ];
  formed = λ x m. elim m [ inl e ↦ subst (λ (y : Record). IsWellFormed shape y) (sym e) a.formed | inr k ↦ h.formed x k ];
  order = order_grown (part_of shape) r s.log (λ _. l.running.1) follows h.order;
  room = λ p lt. fits p lt (eqb_tells p (part_of shape r.at));
  numbers = λ x m. elim m [
    | inl e ↦ (let n = h.numbers a.next.0 a.next.1 in let i : x.lsn ≡ r.lsn = ap (λ (y : Record). y.lsn) e in let j = a.next.2 in let u = n.undo in let c = n.checkpoint in
        record { undo = omega (arith, i, j, u, total); checkpoint = λ two _. (let k = c two opened in omega (arith, i, j, k, total)) })
    | inr k ↦ (let n = h.numbers x k in let u = n.undo in let c = n.checkpoint in
        record { undo = omega (arith, u, total); checkpoint = λ two _. (let k = c two opened in omega (arith, k, total)) })
  ];
}
  where
    opened : HasOpen s.log
    opened = loser_open s.log r.transaction l.running

    fell : need_in (part_of shape) (part_of shape r.at) (r ∷ s.log) + 1 ≡ need_in (part_of shape) (part_of shape r.at) s.log
    fell = need_fell (part_of shape) r s.log l.running.0 l.one_part less

    same : (p : ℕ) → p ≢ part_of shape r.at → need_in (part_of shape) p (r ∷ s.log) ≡ need_in (part_of shape) p s.log
    same p ne = need_stays (part_of shape) p r s.log l.running.0 l.one_part ne

    total : total_need (part_of shape) shape.partitions (r ∷ s.log) + 1 ≡ total_need (part_of shape) shape.partitions s.log
    total = total_fell (part_of shape) shape.partitions (part_of shape r.at) s.log (r ∷ s.log) a.inside fell same

    fits : (p : ℕ) → p < shape.partitions → ((p == part_of shape r.at) ≡ true) × (p ≡ part_of shape r.at) ⊎ ((p == part_of shape r.at) ≡ false) × (p ≢ part_of shape r.at) → HasRoom shape (r ∷ s.log) p (room p)
    fits p lt (inl e) = subst (λ q. HasRoom shape (r ∷ s.log) q (room q)) (sym e.1) (
        let b = h.room (part_of shape r.at) a.inside in
        let here = a.here in let f = fell in let u = b.undo in
        record {
          undo = omega (arith, here, f, u);
          checkpoint = λ zero two _. (let c = b.checkpoint zero two opened in omega (arith, here, f, c));
        })
    fits p lt (inr ne) =
        let b = h.room p lt in let r = a.elsewhere p ne.1 in let n = same p ne.1 in let u = b.undo in
        record {
          undo = omega (arith, r, n, u);
          checkpoint = λ zero two _. (let c = b.checkpoint zero two opened in omega (arith, r, n, c));
        }

-- ---- a checkpoint record

need_checkpoint : (c : Record) (log : Log) → IsCheckpoint c → (t : ℕ) → need_of (c ∷ log) t ≡ need_of log t
need_checkpoint c log is t =
    let one : (c.kind == 1) ≡ false = grind (arith, nat_tests) in
    let two : (c.kind == 2) ≡ false = grind (arith, nat_tests) in
    let three : (c.kind == 3) ≡ false = grind (arith, nat_tests) in
    let four : (c.kind == 4) ≡ false = grind (arith, nat_tests) in
    elim (eqb_tells c.transaction t) [ inl own ↦ (rw (own.0, one, two, three, four) refl) | inr other ↦ (rw other.0 refl) ]

pub need_in_checkpoint : (part : ℕ → ℕ) (p : ℕ) (c : Record) (log : Log) → IsCheckpoint c → need_in part p (c ∷ log) ≡ need_in part p log
need_in_checkpoint part p c log is =
    let five : (c.kind == 5) ≡ true = grind (arith, nat_tests) in
    let first : need_at part p (need_of (c ∷ log)) c log ≡ 0 = rw five refl in
    let others : sum_over part p (need_of (c ∷ log)) log ≡ sum_over part p (need_of log) log = λ i. sum_over part p (λ t. need_checkpoint c log is t i) log in
    omega (arith, first, others)

checkpoint_sound : (shape : Shape) (s : State) (c : Record) (room : ℕ → ℕ) → IsSoundState shape s → Appends shape s c room → IsCheckpoint c →
    part_of shape c.at ≡ 0 → shape.policy ≡ 2 → HasOpen s.log → ((t : ℕ) → IsLoser s.log t → ⊥) → IsSoundState shape (grown s c room)
checkpoint_sound shape s c room h a is first two opened none = record {
  newest_first = (λ x m. inl (a.above x m), h.newest_first);
  gates = λ x m. elim m [ inl e ↦ (λ z. let n = a.next.2 in let i : x.lsn ≡ c.lsn = ap (λ (y : Record). y.lsn) e in absurd (omega (arith, z, n, i))) | inr k ↦ h.gates x k ];
  formed = λ x m. elim m [ inl e ↦ subst (λ (y : Record). IsWellFormed shape y) (sym e) a.formed | inr k ↦ h.formed x k ];
  order = order_grown (part_of shape) c s.log (λ e. absurd (omega (arith, is, e))) (checkpoint_follows (part_of shape) s.log c is a.above) h.order;
  room = λ p lt. fits p lt (eqb_tells p 0);
  numbers = λ x m. record { undo = number x m; checkpoint = λ _ later. absurd (shut later) };
}
  where
    shut : HasOpen (c ∷ s.log) → ⊥
    shut k = elim k.1 [
      | inl e ↦ k.2.0 (ap (λ (y : Record). y.kind) e ∙ is)
      | inr m ↦ elim (ended_or_running s.log k.0.transaction) [
        | inl e ↦ k.2.1 (e.0, inr e.1, (e.2, (c, inl refl, (is, a.above e.0 e.1))))
        | inr running ↦ none k.0.transaction ((k.0, m, (refl, k.2.0)), running)
      ]
    ]

    total : total_need (part_of shape) shape.partitions (c ∷ s.log) ≡ total_need (part_of shape) shape.partitions s.log
    total = total_same (part_of shape) shape.partitions s.log (c ∷ s.log) (λ p lt. need_in_checkpoint (part_of shape) p c s.log is)

    number : (x : Record) → IsAmong (c ∷ s.log) x → x.lsn + total_need (part_of shape) shape.partitions (c ∷ s.log) ≤ 2 ^ 63
    number x (inl e) = let n = h.numbers a.next.0 a.next.1 in let k = n.checkpoint two opened in let i : x.lsn ≡ c.lsn = ap (λ (y : Record). y.lsn) e in let j = a.next.2 in omega (arith, k, i, j, total)
    number x (inr m) = let n = (h.numbers x m).undo in omega (arith, n, total)

    fits : (p : ℕ) → p < shape.partitions → ((p == 0) ≡ true) × (p ≡ 0) ⊎ ((p == 0) ≡ false) × (p ≢ 0) → HasRoom shape (c ∷ s.log) p (room p)
    fits p lt (inl e) = record {
      undo = subst (λ q. need_in (part_of shape) q (c ∷ s.log) ≤ room q) (sym e.1) (
          let here = subst (λ q. room q + 1 ≡ s.room q) first a.here in
          let b = (h.room 0 (omega (arith, lt, e.1))).checkpoint refl two opened in
          let n = need_in_checkpoint (part_of shape) 0 c s.log is in
          omega (arith, here, b, n));
      checkpoint = λ _ _ later. absurd (shut later);
    }
    fits p lt (inr ne) = record {
      undo = (
          let same = a.elsewhere p (λ e. ne.1 (e ∙ first)) in
          let b = (h.room p lt).undo in
          let n = need_in_checkpoint (part_of shape) p c s.log is in
          omega (arith, same, b, n));
      checkpoint = λ _ _ later. absurd (shut later);
    }

-- ---- a closing

pub newest_first_part : (P : Record → Type 0) (later log : Log) → IsSublog P later log → IsNewestFirst log → IsNewestFirst later
newest_first_part P _ _ empty n = n
newest_first_part P _ _ (goes r p part) n = newest_first_part P _ _ part n.1
newest_first_part P _ _ (stays r {later = later} {log = log} part) n = (λ s m. n.0 s (part_among P later log part s m), newest_first_part P later log part n.1)

pub closing_sound : (shape : Shape) (s : State) (later : Log) (room : ℕ → ℕ) → IsSoundState shape s → IsClosing shape.policy s.log s.words later → ((p : ℕ) → s.room p ≤ room p) →
    IsSoundState shape (record { log = later; words = s.words; room = room })
closing_sound shape s later room h c more = record {
  newest_first = newest_first_part _ later s.log c.part h.newest_first;
  gates = λ x m. h.gates x (before x m);
  formed = λ x m. h.formed x (before x m);
  order = order_closed (part_of shape) shape.policy s.log s.words later c h.order;
  room = λ p lt. let b = h.room p lt in let n = need_closed (part_of shape) p shape.policy s.log s.words later c in let m = more p in let u = b.undo in record {
    undo = omega (arith, n, m, u);
    checkpoint = λ zero two o. (let k = b.checkpoint zero two (opened o) in omega (arith, n, m, k));
  };
  numbers = λ x m. let b = h.numbers x (before x m) in let n = total_closed (part_of shape) shape.partitions shape.policy s.log s.words later c in let u = b.undo in record {
    undo = omega (arith, n, u);
    checkpoint = λ two o. (let k = b.checkpoint two (opened o) in omega (arith, n, k));
  };
}
  where
    before : (x : Record) → IsAmong later x → IsAmong s.log x
    before x m = part_among _ later s.log c.part x m

    opened : HasOpen later → HasOpen s.log
    opened o = (o.0, before o.0 o.1, (o.2.0, λ k. o.2.1 (skipped_on shape.policy s.log s.words later c o.0.transaction (o.0, o.1, (refl, o.2.0)) k)))

-- ---- all steps

-- the update that the stack has on top is the next to undo
pub top_is_next : (shape : Shape) (s : State) (t : ℕ) (u : Record) (stack : Log) → IsSoundState shape s → IsRunning s.log t → to_undo t s.log ≡ u ∷ stack → IsNextToUndo t s.log u
top_is_next shape s t u stack h running is =
    let k = has_stack (part_of shape) t s.log s.log running (numbered (part_of shape) s.log s.log h.order) h.gates h.order in
    let st : IsStack t s.log (u ∷ stack) = subst (λ x. IsStack t s.log x) is k.stack in
    record { among = st.0.among; update = st.0.update; owner = st.0.owner; point = sym (k.point ∙ ap top_lsn is) }

pub undone_of : (shape : Shape) (s : State) (t : ℕ) → IsSoundState shape s → IsRunning s.log t → to_undo t s.log ≡ [] → IsStored t s.log s.words → IsUndone t s.log s.words
undone_of shape s t h running left stored = record {
  running = running;
  nothing_left = left;
  stored = λ a d some. elim (earliest_some (IsUpdateBy t a) s.log (λ r. elim (update_test t a r) [ inl k ↦ inl k.1 | inr k ↦ inr k.1 ])) [
    | inl u ↦ stored a u.0 u.1 ∙ sym (first_old_is t a d s.log u.0 (good_of shape s h).falls u.1)
    | inr none ↦ absurd (none some.0 some.1 some.2)
  ];
}

pub recovery_keeps : (shape : Shape) (s x : State) → IsSoundState shape s → Step shape s x → IsSoundState shape x × KeepsStanding shape.policy s x
recovery_keeps shape s _ h (stores w same) = (
  record { newest_first = h.newest_first; gates = h.gates; formed = h.formed; order = h.order; room = h.room; numbers = h.numbers },
  λ a v st. stands_stored shape.policy s.log s.words w a v (same a) st,
)
recovery_keeps shape s _ h (rolls_back r room a l is fresh) =
    let running = has_kind_false r.transaction 4 s.log l.running.1 in
    let rolled = has_kind_false r.transaction 3 s.log (λ y m k. fresh y m ((k.1, λ five. absurd (omega (arith, k.0, five))), k.0)) in (
      grown_sound shape s r room h a l (rollback_follows (part_of shape) s.log r is l.running.1 a.above l.one_part fresh)
          (need_rollback r.transaction r s.log is refl running rolled),
      stands_noted shape.policy s.log s.words r (λ e. absurd (omega (arith, is, e)), λ e. absurd (omega (arith, is, e))) (λ e. absurd (omega (arith, is, e))) l.running.1,
    )
recovery_keeps shape s _ h (compensates c u stack room a l is shape_is comp) =
    let running = has_kind_false c.transaction 4 s.log l.running.1 in (
      grown_sound shape s c room h a l
          (compensation_follows (part_of shape) s.log c u h.order is l.running.1 a.above l.one_part (top_is_next shape s c.transaction u stack h l.running.1 shape_is) comp)
          (need_compensation c.transaction c u stack s.log is refl running shape_is),
      stands_noted shape.policy s.log s.words c (λ e. absurd (omega (arith, is, e)), λ e. absurd (omega (arith, is, e))) (λ e. absurd (omega (arith, is, e))) l.running.1,
    )
recovery_keeps shape s _ h (ends e room a l is outcome rolled left stored) =
    let running = has_kind_false e.transaction 4 s.log l.running.1 in
    let has = has_kind_true e.transaction 3 s.log (rolled.0, rolled.1, (rolled.2.1, rolled.2.0.0)) in (
      grown_sound shape s e room h a l (end_follows (part_of shape) s.log e is l.running.1 a.above l.one_part)
          (need_end e.transaction e s.log is refl running has left),
      stands_ended (part_of shape) shape.policy e.transaction s.log s.words e (good_of shape s h) (undone_of shape s e.transaction h l.running.1 left stored)
          (record { end = is; owner = refl; outcome = λ one. absurd (omega (arith, outcome, one)); above = a.above }),
    )
recovery_keeps shape s _ h (checkpoints c room a is first two opened over applied) =
    (checkpoint_sound shape s c room h a is first two opened over, stands_checkpointed shape.policy s.log s.words c is a.above applied)
recovery_keeps shape s _ h (closes later room c more) =
    (closing_sound shape s later room h c more, stands_closed shape.policy s.log s.words later c)

pub runs_keep : (shape : Shape) (s x : State) → IsSoundState shape s → Steps shape s x → IsSoundState shape x × KeepsStanding shape.policy s x
runs_keep shape s _ h start = (h, λ a v st. st)
runs_keep shape s _ h (makes {x} {y} before step) =
    let k = runs_keep shape s x h before in
    let n = recovery_keeps shape x y k.0 step in
    (n.0, λ a v st. n.1 a v (k.1 a v st))
