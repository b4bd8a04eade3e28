-- Deletions of running transactions decide no word yet: a log without some of them is sound, with the same standing values.
use Rattle.std.proofs.Common.{◌≡◌, ◌≢◌, ◌⊎◌, inl, inr, ℕ, zero, suc, ◌≤◌, Bool, true, false, not, ◌==◌, ◌&&◌, ◌||◌, if◌then◌else◌, [], ◌∷◌, ◌++◌, refl, sym, ap, ◌∙◌, subst, arith}
use Rattle.std.proofs.lemmas.Bool.Decides.{eqb_tells}
use Rattle.persist_model.specs.Region.{Words}
use Rattle.persist_model.specs.Records.{Record, Log, IsAmong, HasNo, IsOf, IsChange, IsRunning, IsEnded, IsCommitted, IsSkipped}
use Rattle.persist_model.specs.Standing.{IsToUndo, IsToDelete, IsToRedo, Stands, undone, deleted, redone, kept}
use Rattle.persist_model.specs.Order.{is_kind_of, undo_point, last_new, UndoesWell, Bars, FollowEach, IsInOrder}
use Rattle.persist_model.specs.Shape.{Shape, part_of}
use Rattle.persist_model.specs.Need.{to_undo, has_kind_of, need_of, is_of, has_of, need_at, sum_over, need_in}
use Rattle.persist_model.specs.State.{State, HasOpen, total_need, IsSoundState}
use Rattle.log_laws.specs.Closing.{IsSublog, empty, stays, goes}
use Rattle.log_laws.specs.Moves.{IsDeferred}
use Rattle.log_laws.proofs.Closings.{part_among, part_cases}
use Rattle.log_laws.proofs.Growing.{one_before}
use Rattle.log_laws.proofs.Keeping.{newest_first_part}
use Rattle.log_laws.proofs.Needs.{of_test, has_of_true, counted_later}

-- ---- what hangs on no deletion

no_kind_of : (t k : ℕ) (r : Record) → r.kind ≢ k → is_kind_of t k r ≡ false
no_kind_of t k r ne = elim (eqb_tells r.transaction t) [
  | inl own ↦ elim (eqb_tells r.kind k) [ inl same ↦ absurd (ne same.1) | inr off ↦ (rw (own.0, off.0) refl) ]
  | inr other ↦ (rw other.0 refl)
]

module _ (D : Record → Type 0) (six : (d : Record) → D d → d.kind ≡ 6) where
  off : (t k : ℕ) (d : Record) → k ≢ 6 → D d → is_kind_of t k d ≡ false
  off t k d ne is = no_kind_of t k d (λ e. (let kind = six d is in ne (sym e ∙ kind)))

  undo_point_left : (t : ℕ) (later log : Log) → IsSublog D later log → undo_point t later ≡ undo_point t log
  undo_point_left t _ _ empty = refl
  undo_point_left t _ _ (stays r part) = rw (undo_point_left t _ _ part) refl
  undo_point_left t _ _ (goes d is part) = rw (off t 1 d (omega arith) is, off t 2 d (omega arith) is) (undo_point_left t _ _ part)

  last_new_left : (t a e : ℕ) (later log : Log) → IsSublog D later log → last_new t a e later ≡ last_new t a e log
  last_new_left t a e _ _ empty = refl
  last_new_left t a e _ _ (stays r part) = rw (last_new_left t a e _ _ part) refl
  last_new_left t a e _ _ (goes d is part) = rw (off t 1 d (omega arith) is, off t 2 d (omega arith) is) (last_new_left t a e _ _ part)

  to_undo_left : (t : ℕ) (later log : Log) → IsSublog D later log → to_undo t later ≡ to_undo t log
  to_undo_left t _ _ empty = refl
  to_undo_left t _ _ (stays r part) = rw (to_undo_left t _ _ part) refl
  to_undo_left t _ _ (goes d is part) = rw (off t 1 d (omega arith) is, off t 2 d (omega arith) is) (to_undo_left t _ _ part)

  has_kind_left : (t k : ℕ) (later log : Log) → k ≢ 6 → IsSublog D later log → has_kind_of t k later ≡ has_kind_of t k log
  has_kind_left t k _ _ ne empty = refl
  has_kind_left t k _ _ ne (stays r part) = rw (has_kind_left t k _ _ ne part) refl
  has_kind_left t k _ _ ne (goes d is part) = rw (off t k d ne is) (has_kind_left t k _ _ ne part)

  need_left : (t : ℕ) (later log : Log) → IsSublog D later log → need_of later t ≡ need_of log t
  need_left t later log part = rw (has_kind_left t 4 later log (omega arith) part, has_kind_left t 3 later log (omega arith) part, to_undo_left t later log part) refl

-- ---- the need

or_swap : (a b c : Bool) → (a || (b || c)) ≡ (b || (a || c))
or_swap true true c = refl
or_swap true false c = refl
or_swap false true c = refl
or_swap false false c = refl

append_one : (xs : Log) (y : Record) (ys : Log) → (xs ++ y ∷ []) ++ ys ≡ xs ++ y ∷ ys
append_one [] y ys = refl
append_one (x ∷ xs) y ys = ap (λ zs. x ∷ zs) (append_one xs y ys)

among_push : (xs : Log) (y r : Record) → IsAmong (xs ++ y ∷ []) r → IsAmong xs r ⊎ (r ≡ y)
among_push [] y r (inl e) = inr e
among_push [] y r (inr m) = absurd m
among_push (x ∷ xs) y r (inl e) = inl (inl e)
among_push (x ∷ xs) y r (inr m) = elim (among_push xs y r m) [ inl k ↦ inl (inr k) | inr e ↦ inr e ]

has_middle : (t : ℕ) (front : Log) (d : Record) (log : Log) → has_of t (front ++ d ∷ log) ≡ has_of t (d ∷ (front ++ log))
has_middle t [] d log = refl
has_middle t (x ∷ front) d log = ap (λ b. is_of t x || b) (has_middle t front d log) ∙ or_swap (is_of t x) (is_of t d) (has_of t (front ++ log))

module _ (part : ℕ → ℕ) (p : ℕ) (f : ℕ → ℕ) where
  counted_alike : (x : Record) (log later : Log) → has_of x.transaction later ≡ has_of x.transaction log → need_at part p f x later ≡ need_at part p f x log
  counted_alike x log later e = ap (λ b. if not (x.kind == 5) && (not b && (part x.at == p)) then f x.transaction else 0) e

  -- two records of one transaction in one part count alike
  counted_twin : (x d : Record) (log : Log) → (x.kind == 5) ≡ (d.kind == 5) → x.transaction ≡ d.transaction → part x.at ≡ part d.at → need_at part p f x log ≡ need_at part p f d log
  counted_twin x d log five own here = λ i. if not (five i) && (not (has_of (own i) log) && (here i == p)) then f (own i) else 0

  not_of : (t : ℕ) (r : Record) (log : Log) → is_of t r ≡ false → has_of t (r ∷ log) ≡ has_of t log
  not_of t r log e = rw e refl

  -- a record that changes places with one before it
  swap : (x d : Record) (log : Log) → d.kind ≢ 5 → (IsOf d.transaction x → part x.at ≡ part d.at) → sum_over part p f (x ∷ d ∷ log) ≡ sum_over part p f (d ∷ x ∷ log)
  swap x d log plain here = elim (of_test d.transaction x) [
    | inl own ↦ (
        let behind : need_at part p f x (d ∷ log) ≡ 0 = counted_later part p f x (d ∷ log) (has_of_true x.transaction (d ∷ log) (d, inl refl, (sym own.1.0, plain))) in
        let before : need_at part p f d (x ∷ log) ≡ 0 = counted_later part p f d (x ∷ log) (has_of_true d.transaction (x ∷ log) (x, inl refl, own.1)) in
        let twin = counted_twin x d log (own.2 ∙ sym (no_check d plain)) own.1.0 (here own.1) in
        omega (arith, behind, before, twin))
    | inr other ↦ (
        let d_same = counted_alike d log (x ∷ log) (not_of d.transaction x log other.0) in
        let x_same : need_at part p f x (d ∷ log) ≡ need_at part p f x log = by other.1 in
        omega (arith, d_same, x_same))
  ]
    where
      no_check : (r : Record) → r.kind ≢ 5 → (r.kind == 5) ≡ false
      no_check r ne = elim (eqb_tells r.kind 5) [ inl e ↦ absurd (ne e.1) | inr e ↦ e.0 ]

      by : ((x.kind == 5) ≡ true) ⊎ (x.transaction ≢ d.transaction) → need_at part p f x (d ∷ log) ≡ need_at part p f x log
      by (inl five) = rw five refl
      by (inr ne) = counted_alike x log (d ∷ log) (elim (eqb_tells d.transaction x.transaction) [ inl e ↦ absurd (ne (sym e.1)) | inr e ↦ (rw e.0 refl) ])

  middle : (front : Log) (d : Record) (log : Log) → d.kind ≢ 5 → ((x : Record) → IsAmong front x → IsOf d.transaction x → part x.at ≡ part d.at) →
      sum_over part p f (front ++ d ∷ log) ≡ sum_over part p f (d ∷ (front ++ log))
  middle [] d log plain here = refl
  middle (x ∷ front) d log plain here =
      let again = middle front d log plain (λ y m. here y (inr m)) in
      let first = counted_alike x (d ∷ (front ++ log)) (front ++ d ∷ log) (has_middle x.transaction front d log) in
      let change = swap x d (front ++ log) plain (here x (inl refl)) in
      omega (arith, again, first, change)

  -- without some records a sum isn't greater, where all records of a transaction stand in one part
  sum_left : (D : Record → Type 0) (all : Log) → ((d : Record) → D d → d.kind ≡ 6) →
      ((d x : Record) → IsAmong all d → IsAmong all x → d.kind ≢ 5 → IsOf d.transaction x → part x.at ≡ part d.at) →
      (front later log : Log) → IsSublog D later log → ((x : Record) → IsAmong front x → IsAmong all x) → ((x : Record) → IsAmong log x → IsAmong all x) →
      sum_over part p f (front ++ later) ≤ sum_over part p f (front ++ log)
  sum_left D all six same front _ _ empty inside own = omega arith
  sum_left D all six same front _ _ (stays x {later = later} {log = log} part_is) inside own =
      let again = sum_left D all six same (front ++ x ∷ []) later log part_is
      (λ y m. elim (among_push front x y m) [ inl k ↦ inside y k | inr e ↦ subst (λ z. IsAmong all z) (sym e) (own x (inl refl)) ])
      (λ y m. own y (inr m)) in
      let left : sum_over part p f ((front ++ x ∷ []) ++ later) ≡ sum_over part p f (front ++ x ∷ later) = ap (λ l. sum_over part p f l) (append_one front x later) in
      let right : sum_over part p f ((front ++ x ∷ []) ++ log) ≡ sum_over part p f (front ++ x ∷ log) = ap (λ l. sum_over part p f l) (append_one front x log) in
      omega (arith, again, left, right)
  sum_left D all six same front _ _ (goes d {later = later} {log = log} is part_is) inside own =
      let kind = six d is in
      let plain : d.kind ≢ 5 = (λ e. absurd (omega (arith, e, kind))) in
      let again = sum_left D all six same front later log part_is inside (λ y m. own y (inr m)) in
      let moved = middle front d log plain (λ x m of. same d x (own d (inl refl)) (inside x m) plain of) in
      omega (arith, again, moved)

-- by the order rule all records of a transaction stand in one part
one_part : (part : ℕ → ℕ) (log : Log) → IsInOrder part log → (d x : Record) → IsAmong log d → IsAmong log x → d.kind ≢ 5 → IsOf d.transaction x → part x.at ≡ part d.at
one_part part log f d x m k plain of = elim (one_before part log log f d x m k) [
  | inl e ↦ ap (λ (y : Record). part y.at) (sym e)
  | inr (inl h) ↦ elim (eqb_tells (part x.at) (part d.at)) [ inl e ↦ e.1 | inr ne ↦ absurd (h.2.one_part x h.1 (of, plain, ne.1)) ]
  | inr (inr h) ↦ elim (eqb_tells (part d.at) (part x.at)) [ inl e ↦ sym e.1 | inr ne ↦ absurd (h.2.one_part d h.1 ((sym of.0, plain), of.1, ne.1)) ]
]

-- ---- the log without some of them

module _ (log later : Log) (part : IsSublog (IsDeferred log) later log) where
  six : (d : Record) → IsDeferred log d → d.kind ≡ 6
  six d is = is.0

  back : (r : Record) → IsAmong later r → IsAmong log r
  back r m = part_among (IsDeferred log) later log part r m

  left : (r : Record) → IsAmong log r → r.kind ≢ 6 → IsAmong later r
  left r m ne = elim (part_cases (IsDeferred log) later log part r m) [ inl k ↦ k | inr d ↦ absurd (ne d.0) ]

  running_back : (t : ℕ) → IsRunning later t → IsRunning log t
  running_back t running = λ e m end. running e (left e m (λ six. (let four = end.0 in absurd (omega (arith, four, six))))) end

  running_on : (t : ℕ) → IsRunning log t → IsRunning later t
  running_on t running = λ e m end. running e (back e m) end

  committed_back : (t : ℕ) → IsCommitted later t → IsCommitted log t
  committed_back t h = (h.0, back h.0 h.1, h.2)

  committed_on : (t : ℕ) → IsCommitted log t → IsCommitted later t
  committed_on t h = (h.0, left h.0 h.1 (λ six. (let four = h.2.0.0 in absurd (omega (arith, four, six)))), h.2)

  ended_back : (t : ℕ) → IsEnded later t → IsEnded log t
  ended_back t h = (h.0, back h.0 h.1, h.2)

  ended_on : (t : ℕ) → IsEnded log t → IsEnded later t
  ended_on t h = (h.0, left h.0 h.1 (λ six. (let four = h.2.0 in absurd (omega (arith, four, six)))), h.2)

  skipped_back : (t : ℕ) → IsSkipped later t → IsSkipped log t
  skipped_back t h = (h.0, back h.0 h.1, (h.2.0, (h.2.1.0, back h.2.1.0 h.2.1.1, h.2.1.2)))

  skipped_on : (t : ℕ) → IsSkipped log t → IsSkipped later t
  skipped_on t h = (
    h.0,
    left h.0 h.1 (λ six. (let four = h.2.0.0 in absurd (omega (arith, four, six)))),
    (h.2.0, (h.2.1.0, left h.2.1.0 h.2.1.1 (λ six. (let five = h.2.1.2.0 in absurd (omega (arith, five, six)))), h.2.1.2)),
  )

  change_left : (r : Record) → IsAmong log r → IsChange r → IsAmong later r
  change_left r m (inl one) = left r m (λ six. absurd (omega (arith, one, six)))
  change_left r m (inr two) = left r m (λ six. absurd (omega (arith, two, six)))

  -- ---- standing values

  undo_back : (a : ℕ) (r : Record) → IsToUndo later a r → IsToUndo log a r
  undo_back a r u = (u.0, u.1, running_back r.transaction u.2)

  delete_back : (a : ℕ) (r : Record) → IsToDelete later a r → IsToDelete log a r
  delete_back a r d = (d.0, d.1, committed_back r.transaction d.2)

  redo_back : (policy a : ℕ) (r : Record) → IsToRedo policy later a r → IsToRedo policy log a r
  redo_back policy a r h = (h.0, h.1, h.2, ended_back r.transaction h.3, λ skipped. h.4 (skipped_on r.transaction skipped))

  no_undo : (a : ℕ) → HasNo (IsToUndo log a) log → HasNo (IsToUndo later a) later
  no_undo a none = λ s m q. none s (back s m) (undo_back a s q)

  no_delete : (a : ℕ) → HasNo (IsToDelete log a) log → HasNo (IsToDelete later a) later
  no_delete a none = λ s m q. none s (back s m) (delete_back a s q)

  pub stands_left : (policy : ℕ) (w : Words) (a v : ℕ) → Stands policy log w a v → Stands policy later w a v
  stands_left policy w a v (undone u first e) = undone u (record {
    among = change_left u first.among (inl first.has.0);
    has = (first.has.0, first.has.1, running_on u.transaction first.has.2);
    first = λ s m q. first.first s (back s m) (undo_back a s q);
  }) e
  stands_left policy w a v (deleted none d e) = deleted (no_undo a none) (
    d.0,
    elim (part_cases (IsDeferred log) later log part d.0 d.1) [ inl k ↦ k | inr deferred ↦ absurd (deferred.1 d.2.2.0 d.2.2.1 d.2.2.2.0) ],
    (d.2.0, d.2.1, committed_on d.0.transaction d.2.2),
  ) e
  stands_left policy w a v (redone none nd r last e) = redone (no_undo a none) (no_delete a nd) r (record {
    among = change_left r last.among last.has.1;
    has = (last.has.0, last.has.1, last.has.2, ended_on r.transaction last.has.3, λ skipped. last.has.4 (skipped_back r.transaction skipped));
    last = λ s m q. last.last s (back s m) (redo_back policy a s q);
  }) e
  stands_left policy w a v (kept none nd nr e) = kept (no_undo a none) (no_delete a nd) (λ s m q. nr s (back s m) (redo_back policy a s q)) e

  -- ---- the order

  bars_back : (s : Record) → Bars later s → Bars log s
  bars_back s (inl k) = inl (k.0, running_back s.transaction k.1)
  bars_back s (inr k) = inr (k.0, committed_back s.transaction k.1)

  undoes_left : (rest front : Log) (r : Record) → IsSublog (IsDeferred log) rest front → UndoesWell front r → UndoesWell rest r
  undoes_left rest front r cut h = record {
    no_rollback = λ k s m. h.no_rollback k s (part_among (IsDeferred log) rest front cut s m);
    undo_next = λ k. h.undo_next k ∙ sym (undo_point_left (IsDeferred log) six r.transaction rest front cut);
    before = λ k. h.before k ∙ sym (last_new_left (IsDeferred log) six r.transaction r.word r.before rest front cut);
    compensates = λ k. (let c = h.compensates k in (
      c.0,
      record {
        among = elim (part_cases (IsDeferred log) rest front cut c.0 c.1.among) [
          | inl m ↦ m
          | inr d ↦ (let one = c.1.update in let kind = d.0 in absurd (omega (arith, one, kind)))
        ];
        update = c.1.update;
        owner = c.1.owner;
        point = c.1.point ∙ sym (undo_point_left (IsDeferred log) six r.transaction rest front cut);
      },
      c.2,
    ));
  }

  follow_left : (which : ℕ → ℕ) (rest front : Log) → IsSublog (IsDeferred log) rest front → FollowEach which log front → FollowEach which later rest
  follow_left which _ _ empty f = f
  follow_left which _ _ (goes d {later = rest} {log = front} is cut) f = follow_left which rest front cut f.1
  follow_left which _ _ (stays r {later = rest} {log = front} cut) f = (
    record {
      fresh = λ s m. f.0.fresh s (part_among (IsDeferred log) rest front cut s m);
      one_part = λ s m. f.0.one_part s (part_among (IsDeferred log) rest front cut s m);
      not_ended = λ s m. f.0.not_ended s (part_among (IsDeferred log) rest front cut s m);
      word = λ names s m k. f.0.word names s (part_among (IsDeferred log) rest front cut s m) (k.0, k.1, bars_back s k.2);
      undo = λ ne running. undoes_left rest front r cut (f.0.undo ne (running_back r.transaction running));
    },
    follow_left which rest front cut f.1,
  )

  -- ---- the room

  pub needs_left : (which : ℕ → ℕ) (p : ℕ) → IsInOrder which log → need_in which p later ≤ need_in which p log
  needs_left which p order =
      let same : need_in which p later ≡ sum_over which p (need_of log) later = (λ i. sum_over which p (λ t. need_left (IsDeferred log) six t later log part i) later) in
      let less = sum_left which p (need_of log) (IsDeferred log) log six (one_part which log order) [] later log part (λ x m. absurd m) (λ x m. m) in
      omega (arith, same, less)

  total_left : (which : ℕ → ℕ) (n : ℕ) → IsInOrder which log → total_need which n later ≤ total_need which n log
  total_left which zero order = omega arith
  total_left which (suc n) order = let below = total_left which n order in let here = needs_left which n order in omega (arith, below, here)

  open_back : HasOpen later → HasOpen log
  open_back h = (h.0, back h.0 h.1, (h.2.0, λ skipped. h.2.1 (skipped_on h.0.transaction skipped)))

pub deferred_sound : (shape : Shape) (s : State) (later : Log) (room : ℕ → ℕ) → IsSoundState shape s → IsSublog (IsDeferred s.log) later s.log → ((p : ℕ) → s.room p ≤ room p) →
    IsSoundState shape (record { log = later; words = s.words; room = room })
deferred_sound shape s later room h part more = record {
  newest_first = newest_first_part (IsDeferred s.log) later s.log part h.newest_first;
  gates = λ r m. h.gates r (back s.log later part r m);
  formed = λ r m. h.formed r (back s.log later part r m);
  order = follow_left s.log later part (part_of shape) later s.log part h.order;
  room = λ p lt. (
      let b = h.room p lt in
      let u = b.undo in
      let k = more p in
      let less = needs_left s.log later part (part_of shape) p h.order in
      record {
        undo = omega (arith, u, k, less);
        checkpoint = λ zero two o. (let c = b.checkpoint zero two (open_back s.log later part o) in omega (arith, c, k, less));
      });
  numbers = λ r m. (
      let n = h.numbers r (back s.log later part r m) in
      let u = n.undo in
      let less = total_left s.log later part (part_of shape) shape.partitions h.order in
      record {
        undo = omega (arith, u, less);
        checkpoint = λ two o. (let c = n.checkpoint two (open_back s.log later part o) in omega (arith, c, less));
      });
}
