-- A closing keeps standing values and the order of the log.
use Rattle.std.proofs.Common.{◌≡◌, ◌≢◌, ◌⊎◌, inl, inr, ℕ, ◌<◌, false, refl, sym, ◌∙◌, subst, arith}
use Rattle.std.proofs.lemmas.Bool.Decides.{eqb_tells}
use Rattle.persist_model.specs.Region.{Words}
use Rattle.persist_model.specs.Records.{Record, Log, IsAmong, Has, HasNo, IsCheckpoint, IsEndOf, IsOf, NamesWord, IsRunning, IsSkipped}
use Rattle.persist_model.specs.Standing.{IsToUndo, IsToDelete, IsToRedo, Stands, undone, deleted, redone, kept}
use Rattle.persist_model.specs.Order.{is_kind_of, undo_point, last_new, UndoesWell, Bars, FollowEach, IsInOrder}
use Rattle.log_laws.specs.Closing.{IsApplied, MayClose, IsSublog, empty, stays, goes, IsClosing}
use Rattle.log_laws.proofs.Deciding.{has_or_none, decide_to_delete}

pub part_among : (P : Record → Type 0) (later log : Log) → IsSublog P later log → (r : Record) → IsAmong later r → IsAmong log r
part_among P _ _ empty r m = m
part_among P _ _ (stays s part) r (inl e) = inl e
part_among P _ _ (stays s part) r (inr m) = inr (part_among P _ _ part r m)
part_among P _ _ (goes s p part) r m = inr (part_among P _ _ part r m)

pub part_cases : (P : Record → Type 0) (later log : Log) → IsSublog P later log → (r : Record) → IsAmong log r → IsAmong later r ⊎ P r
part_cases P _ _ empty r m = inl m
part_cases P _ _ (stays s part) r (inl e) = inl (inl e)
part_cases P _ _ (stays s part) r (inr m) = elim (part_cases P _ _ part r m) [ inl k ↦ inl (inr k) | inr p ↦ inr p ]
part_cases P _ _ (goes s p part) r (inl e) = inr (subst P (sym e) p)
part_cases P _ _ (goes s p part) r (inr m) = part_cases P _ _ part r m

-- ---- standing values

-- a transaction with an open record runs as it did before
pub running_back : (policy : ℕ) (log : Log) (w : Words) (later : Log) → IsClosing policy log w later →
    (t : ℕ) → Has (IsOf t) later → IsRunning later t → IsRunning log t
running_back policy log w later h t some running = λ e m end.
    elim (part_cases _ later log h.part e m) [
      | inl k ↦ running e k end
      | inr c ↦ c.whole end.0 some.0 some.1 (some.2.0 ∙ sym end.1, some.2.1)
    ]

running_on : (policy : ℕ) (log : Log) (w : Words) (later : Log) → IsClosing policy log w later →
    (t : ℕ) → IsRunning log t → IsRunning later t
running_on policy log w later h t running = λ e m end. running e (part_among _ later log h.part e m) end

undo_back : (policy : ℕ) (log : Log) (w : Words) (later : Log) → IsClosing policy log w later →
    (a : ℕ) (r : Record) → IsAmong later r → IsToUndo later a r → IsToUndo log a r
undo_back policy log w later h a r m u =
    (u.0, u.1, running_back policy log w later h r.transaction (r, m, (refl, λ e. absurd (omega (arith, u.0, e)))) u.2)

undo_on : (policy : ℕ) (log : Log) (w : Words) (later : Log) → IsClosing policy log w later →
    (a : ℕ) (r : Record) → IsAmong log r → IsToUndo log a r → IsAmong later r × IsToUndo later a r
undo_on policy log w later h a r m u = (
  elim (part_cases _ later log h.part r m) [
    | inl k ↦ k
    | inr c ↦ elim c.ended [ inl e ↦ absurd (omega (arith, u.0, e)) | inr e ↦ absurd (u.2 e.0 e.1 e.2) ]
  ],
  (u.0, u.1, running_on policy log w later h r.transaction u.2),
)

delete_back : (P : Record → Type 0) (log later : Log) → IsSublog P later log → (a : ℕ) (r : Record) → IsToDelete later a r → IsToDelete log a r
delete_back P log later part a r d = (d.0, d.1, (d.2.0, part_among _ later log part d.2.0 d.2.1, d.2.2))

-- a transaction with an open record is skipped as it was before
pub skipped_on : (policy : ℕ) (log : Log) (w : Words) (later : Log) → IsClosing policy log w later → (t : ℕ) → Has (IsOf t) later → IsSkipped log t → IsSkipped later t
skipped_on policy log w later h t some skipped = skip skipped.0 skipped.1 skipped.2.0 skipped.2.1.0 skipped.2.1.1 skipped.2.1.2
  where
    skip : (e : Record) → IsAmong log e → IsEndOf t e → (c : Record) → IsAmong log c → IsCheckpoint c × (e.lsn < c.lsn) → IsSkipped later t
    skip e me end c mc check = elim (part_cases _ later log h.part e me) [
      | inl ke ↦ elim (part_cases _ later log h.part c mc) [
        | inl kc ↦ (e, ke, (end, (c, kc, check)))
        | inr cl ↦ absurd (cl.skips check.0 e me end.0 check.1 some.0 some.1 (some.2.0 ∙ sym end.1, some.2.1))
      ]
      | inr cl ↦ absurd (cl.whole end.0 some.0 some.1 (some.2.0 ∙ sym end.1, some.2.1))
    ]

redo_none : (policy : ℕ) (log : Log) (w : Words) (later : Log) → IsClosing policy log w later → (a : ℕ) → HasNo (IsToRedo policy later a) later
redo_none policy log w later h a r m redo =
    let not_check : r.kind ≢ 5 = λ e. elim redo.1 [ inl k ↦ absurd (omega (arith, k, e)) | inr k ↦ absurd (omega (arith, k, e)) ] in
    let end = redo.3 in
    h.redone a r (part_among _ later log h.part r m) (
      redo.0,
      redo.1,
      redo.2,
      (end.0, part_among _ later log h.part end.0 end.1, end.2),
      λ skipped. redo.4 (skipped_on policy log w later h r.transaction (r, m, (refl, not_check)) skipped),
    )

-- a word whose deletion was closed has its standing value
deleted_applied : (policy : ℕ) (log : Log) (w : Words) (later : Log) → IsClosing policy log w later → (a : ℕ) →
    HasNo (IsToUndo log a) log → Has (IsToDelete log a) log → HasNo (IsToDelete later a) later → IsApplied policy log w a
deleted_applied policy log w later h a none d gone = elim (part_cases _ later log h.part d.0 d.1) [
  | inl kd ↦ elim (part_cases _ later log h.part d.2.2.0 d.2.2.1) [
    | inl ke ↦ absurd (gone d.0 kd (d.2.0, d.2.1, (d.2.2.0, ke, d.2.2.2)))
    | inr c ↦ absurd (c.whole d.2.2.2.0.0 d.0 kd (sym d.2.2.2.0.1, λ e. absurd (omega (arith, d.2.0, e))))
  ]
  | inr c ↦ elim (c.applied d.2.0 d.2.2) [
    | inl u ↦ absurd (none u.0 u.1 (u.2.0, u.2.1 ∙ d.2.1, u.2.2))
    | inr applied ↦ subst (λ x. IsApplied policy log w x) d.2.1 applied
  ]
]

pub stands_closed : (policy : ℕ) (log : Log) (w : Words) (later : Log) → IsClosing policy log w later →
    (a v : ℕ) → Stands policy log w a v → Stands policy later w a v
stands_closed policy log w later h a v (undone u first e) =
    let k = undo_on policy log w later h a u first.among first.has in
    undone u (record {
      among = k.0;
      has = k.1;
      first = λ s m q. first.first s (part_among _ later log h.part s m) (undo_back policy log w later h a s m q);
    }) e
stands_closed policy log w later h a v (redone none nd r last e) = absurd (h.redone a r last.among last.has)
stands_closed policy log w later h a v (kept none nd nr e) = kept
    (λ s m q. none s (part_among _ later log h.part s m) (undo_back policy log w later h a s m q))
    (λ s m q. nd s (part_among _ later log h.part s m) (delete_back _ log later h.part a s q))
    (redo_none policy log w later h a) e
stands_closed policy log w later h a v (deleted none d e) =
    let none_later : HasNo (IsToUndo later a) later = λ s m q. none s (part_among _ later log h.part s m) (undo_back policy log w later h a s m q) in
    elim (has_or_none (IsToDelete later a) later (decide_to_delete later a)) [
      | inl k ↦ deleted none_later k e
      | inr gone ↦ kept none_later gone (redo_none policy log w later h a)
          (deleted_applied policy log w later h a none d gone v (deleted none d e))
    ]

-- ---- the order

pub not_kind : (t k : ℕ) (r : Record) → (IsOf t r → ⊥) → k ≢ 5 → is_kind_of t k r ≡ false
not_kind t k r none ne = elim (eqb_tells r.transaction t) [
  | inl e ↦ elim (eqb_tells r.kind k) [
    | inl same ↦ absurd (none (e.1, λ five. ne (sym same.1 ∙ five)))
    | inr other ↦ (rw (e.0, other.0) refl)
  ]
  | inr other ↦ (rw other.0 refl)
]

-- where no record of t goes, its undo point and its last NEW stay
undo_point_part : (P : Record → Type 0) (t : ℕ) (later log : Log) → ((r : Record) → P r → IsOf t r → ⊥) → IsSublog P later log → undo_point t later ≡ undo_point t log
undo_point_part P t _ _ none empty = refl
undo_point_part P t _ _ none (stays r part) = rw (undo_point_part P t _ _ none part) refl
undo_point_part P t _ _ none (goes r p part) =
    rw (not_kind t 1 r (none r p) (omega arith), not_kind t 2 r (none r p) (omega arith)) (undo_point_part P t _ _ none part)

last_new_part : (P : Record → Type 0) (t a d : ℕ) (later log : Log) → ((r : Record) → P r → IsOf t r → ⊥) → IsSublog P later log → last_new t a d later ≡ last_new t a d log
last_new_part P t a d _ _ none empty = refl
last_new_part P t a d _ _ none (stays r part) = rw (last_new_part P t a d _ _ none part) refl
last_new_part P t a d _ _ none (goes r p part) =
    rw (not_kind t 1 r (none r p) (omega arith), not_kind t 2 r (none r p) (omega arith)) (last_new_part P t a d _ _ none part)

-- no record of a running transaction goes
pub none_goes : (policy : ℕ) (log : Log) (w : Words) (later : Log) (t : ℕ) → IsRunning log t → (r : Record) → MayClose policy log w later r → IsOf t r → ⊥
none_goes policy log w later t running r may of = elim may.ended [
  | inl check ↦ of.1 check
  | inr end ↦ running end.0 end.1 (end.2.0, end.2.1 ∙ of.0)
]

undoes_part : (P : Record → Type 0) (later log : Log) (r : Record) → ((s : Record) → P s → IsOf r.transaction s → ⊥) → IsSublog P later log → UndoesWell log r → UndoesWell later r
undoes_part P later log r none part h = record {
  no_rollback = λ k s m. h.no_rollback k s (part_among P later log part s m);
  undo_next = λ k. h.undo_next k ∙ sym (undo_point_part P r.transaction later log none part);
  before = λ k. h.before k ∙ sym (last_new_part P r.transaction r.word r.before later log none part);
  compensates = λ k. let c = h.compensates k in (
    c.0,
    record {
      among = elim (part_cases P later log part c.0 c.1.among) [ inl m ↦ m | inr p ↦ absurd (none c.0 p (c.1.owner, λ e. absurd (omega (arith, c.1.update, e)))) ];
      update = c.1.update;
      owner = c.1.owner;
      point = c.1.point ∙ sym (undo_point_part P r.transaction later log none part);
    },
    c.2,
  );
}

bars_back : (policy : ℕ) (log : Log) (w : Words) (later : Log) → IsClosing policy log w later → (s : Record) → IsAmong later s → Bars later s → Bars log s
bars_back policy log w later h s m (inl k) = inl (k.0, running_back policy log w later h s.transaction (s, m, (refl, not_check k.0)) k.1)
  where
    not_check : NamesWord s → s.kind ≢ 5
    not_check (inl (inl u)) e = absurd (omega (arith, u, e))
    not_check (inl (inr c)) e = absurd (omega (arith, c, e))
    not_check (inr d) e = absurd (omega (arith, d, e))
bars_back policy log w later h s m (inr k) = inr (k.0, (k.1.0, part_among _ later log h.part k.1.0 k.1.1, k.1.2))

follow_each_closed : (part_of : ℕ → ℕ) (policy : ℕ) (log : Log) (w : Words) (later : Log) → IsClosing policy log w later →
    (rest front : Log) → IsSublog (MayClose policy log w later) rest front → ((r : Record) → IsAmong rest r → IsAmong later r) →
    FollowEach part_of log front → FollowEach part_of later rest
follow_each_closed part_of policy log w later h _ _ empty inside f = f
follow_each_closed part_of policy log w later h _ _ (goes r p part) inside f = follow_each_closed part_of policy log w later h _ _ part inside f.1
follow_each_closed part_of policy log w later h _ _ (stays r {later = rest} {log = front} part) inside f = (
  record {
    fresh = λ s m. f.0.fresh s (part_among _ rest front part s m);
    one_part = λ s m. f.0.one_part s (part_among _ rest front part s m);
    not_ended = λ s m. f.0.not_ended s (part_among _ rest front part s m);
    word = λ names s m k. f.0.word names s (part_among _ rest front part s m) (k.0, k.1, bars_back policy log w later h s (inside s (inr m)) k.2);
    undo = λ ne running.
        let before = running_back policy log w later h r.transaction (r, inside r (inl refl), (refl, ne)) running in
        undoes_part _ rest front r (none_goes policy log w later r.transaction before) part (f.0.undo ne before);
  },
  follow_each_closed part_of policy log w later h rest front part (λ s m. inside s (inr m)) f.1,
)

pub order_closed : (part_of : ℕ → ℕ) (policy : ℕ) (log : Log) (w : Words) (later : Log) → IsClosing policy log w later →
    IsInOrder part_of log → IsInOrder part_of later
order_closed part_of policy log w later h f = follow_each_closed part_of policy log w later h later log h.part (λ r m. m) f
