-- The stack of a running transaction is the list of its updates that no compensation names.
use Rattle.std.proofs.Common.{◌≡◌, ◌≢◌, ◌⊎◌, inl, inr, ℕ, ◌+◌, ◌≤◌, Bool, true, false, not, ◌==◌, ◌&&◌, ◌||◌, if◌then◌else◌, [], ◌∷◌, ◌++◌, length, refl, sym, ap, ◌∙◌, subst, arith}
use Rattle.std.proofs.lemmas.Bool.Decides.{eqb_tells, nat_tests}
use Rattle.persist_model.specs.Records.{Record, Log, IsAmong, IsNewer, IsNewestFirst, Has, HasNo, IsCompensation, IsRunning}
use Rattle.persist_model.specs.Order.{is_kind_of, undo_point, UndoesWell, IsNextToUndo, FollowEach, IsInOrder}
use Rattle.persist_model.specs.Need.{rest, to_undo, is_named, unnamed_updates, has_kind_of, need_of, sum_over}
use Rattle.log_laws.specs.Naming.{StackIsUnnamed, NeedIsUnnamed, UndoPointIsEarlier, unnamed_need}
use Rattle.log_laws.proofs.Standings.{AreNumbered}
use Rattle.log_laws.proofs.Growing.{numbered}
use Rattle.log_laws.proofs.Needs.{has_kind_true}
use Rattle.log_laws.proofs.Stacks.{IsTo, updates, compensates, neither, is_to, top_lsn, HasStack, IsStack, has_stack}

well_by : (part : ℕ → ℕ) (t : ℕ) (all log : Log) (r : Record) → IsRunning all t → FollowEach part all (r ∷ log) → r.transaction ≡ t → r.kind ≢ 5 → UndoesWell log r
well_by part t all log r running f e ne = f.0.undo ne (subst (λ x. IsRunning all x) (sym e) running)

-- a number that is named is that of a record
named_is_some : (part : ℕ → ℕ) (t lsn : ℕ) (all log : Log) → IsRunning all t → FollowEach part all log → is_named t lsn log ≡ true → Has (λ u. u.lsn ≡ lsn) log
named_is_some part t lsn all [] running f e = cc
named_is_some part t lsn all (r ∷ log) running f e = by_kind (is_to t r) (named_is_some part t lsn all log running f.1)
  where
    further : Has (λ u. u.lsn ≡ lsn) log → Has (λ u. u.lsn ≡ lsn) (r ∷ log)
    further h = (h.0, inr h.1, h.2)

    by_point : is_kind_of t 2 r ≡ true → IsCompensation r → r.transaction ≡ t → (is_named t lsn log ≡ true → Has (λ u. u.lsn ≡ lsn) log) → Has (λ u. u.lsn ≡ lsn) (r ∷ log)
    by_point two comp owner again = elim (eqb_tells (undo_point t log) lsn) [
      | inl same ↦ (
          let c = (well_by part t all log r running f owner (λ k. absurd (omega (arith, comp, k)))).compensates comp in
          (c.0, inr c.1.among, c.1.point ∙ ap (λ x. undo_point x log) owner ∙ same.1))
      | inr other ↦ further (again (sym ((rw (two, other.0) refl) ∙ refl) ∙ e))
    ]

    by_kind : IsTo t r → (is_named t lsn log ≡ true → Has (λ u. u.lsn ≡ lsn) log) → Has (λ u. u.lsn ≡ lsn) (r ∷ log)
    by_kind (updates one update owner) again =
        let off : (r.kind == 2) ≡ false = grind (arith, nat_tests, update) in
        let on : (r.transaction == t) ≡ true = grind (arith, nat_tests, owner) in
        let same : is_named t lsn (r ∷ log) ≡ is_named t lsn log = rw (on, off) refl in further (again (sym same ∙ e))
    by_kind (compensates not_one two comp owner) again = by_point two comp owner again
    by_kind (neither not_one not_two none) again =
        let same : is_named t lsn (r ∷ log) ≡ is_named t lsn log = rw not_two refl in further (again (sym same ∙ e))

-- ---- the list of the unnamed

unnamed_among : (t : ℕ) (names log : Log) (u : Record) → IsAmong (unnamed_updates t names log) u → IsAmong log u
unnamed_among t names [] u m = m
unnamed_among t names (r ∷ log) u m = by (λ k. unnamed_among t names log u k) (is_kind_of t 1 r && not (is_named t r.lsn names)) m
  where
    by : (IsAmong (unnamed_updates t names log) u → IsAmong log u) → (b : Bool) → IsAmong (if b then r ∷ unnamed_updates t names log else unnamed_updates t names log) u → IsAmong (r ∷ log) u
    by again true (inl e) = inl e
    by again true (inr k) = inr (again k)
    by again false k = inr (again k)

-- the same names give the same list
unnamed_same : (t : ℕ) (names others log : Log) → ((lsn : ℕ) → is_named t lsn names ≡ is_named t lsn others) → unnamed_updates t names log ≡ unnamed_updates t others log
unnamed_same t names others [] same = refl
unnamed_same t names others (r ∷ log) same =
    ap (λ b. if is_kind_of t 1 r && not b then r ∷ unnamed_updates t names log else unnamed_updates t names log) (same r.lsn)
    ∙ ap (λ l. if is_kind_of t 1 r && not (is_named t r.lsn others) then r ∷ l else l) (unnamed_same t names others log same)

-- the records without the one of this number
abbrev without_lsn : ℕ → Log → Log
without_lsn lsn [] = []
without_lsn lsn (u ∷ log) = if lsn == u.lsn then without_lsn lsn log else u ∷ without_lsn lsn log

without_none : (lsn : ℕ) (log : Log) → HasNo (λ v. v.lsn ≡ lsn) log → without_lsn lsn log ≡ log
without_none lsn [] none = refl
without_none lsn (u ∷ log) none = elim (eqb_tells lsn u.lsn) [
  | inl e ↦ absurd (none u (inl refl) (sym e.1))
  | inr ne ↦ rw ne.0 (ap (λ l. u ∷ l) (without_none lsn log (λ v m. none v (inr m))))
]

-- one name more takes the record of that number out
unnamed_less : (t point : ℕ) (names others log : Log) → ((lsn : ℕ) → is_named t lsn others ≡ ((point == lsn) || is_named t lsn names)) →
    unnamed_updates t others log ≡ without_lsn point (unnamed_updates t names log)
unnamed_less t point names others [] more = refl
unnamed_less t point names others (r ∷ log) more =
    ap (λ b. if is_kind_of t 1 r && not b then r ∷ unnamed_updates t others log else unnamed_updates t others log) (more r.lsn)
    ∙ ap (λ l. if is_kind_of t 1 r && not ((point == r.lsn) || is_named t r.lsn names) then r ∷ l else l) (unnamed_less t point names others log more)
    ∙ by (is_kind_of t 1 r) (is_named t r.lsn names) (unnamed_updates t names log)
  where
    by : (a n : Bool) (l : Log) → (if a && not ((point == r.lsn) || n) then r ∷ without_lsn point l else without_lsn point l) ≡ without_lsn point (if a && not n then r ∷ l else l)
    by false n l = refl
    by true true l = elim (eqb_tells point r.lsn) [ inl e ↦ rw e.0 refl | inr ne ↦ rw ne.0 refl ]
    by true false l = elim (eqb_tells point r.lsn) [ inl e ↦ rw e.0 refl | inr ne ↦ rw ne.0 refl ]

-- no two of them have one number
unnamed_fresh : (part : ℕ → ℕ) (t : ℕ) (all names log : Log) → FollowEach part all log → (u : Record) (us : Log) → unnamed_updates t names log ≡ u ∷ us → HasNo (λ v. v.lsn ≡ u.lsn) us
unnamed_fresh part t all names [] f u us e = absurd (subst (λ l. IsAmong l u) (sym e) (inl refl))
unnamed_fresh part t all names (r ∷ log) f u us e = by (λ k. unnamed_fresh part t all names log f.1 u us k) (is_kind_of t 1 r && not (is_named t r.lsn names)) e
  where
    by : (unnamed_updates t names log ≡ u ∷ us → HasNo (λ v. v.lsn ≡ u.lsn) us) → (b : Bool) → (if b then r ∷ unnamed_updates t names log else unnamed_updates t names log) ≡ u ∷ us → HasNo (λ v. v.lsn ≡ u.lsn) us
    by again true e =
        let head : r ≡ u = ap (λ l. first_of l) e in
        let tail : unnamed_updates t names log ≡ us = ap rest e in
        λ v m same. f.0.fresh v (unnamed_among t names log v (subst (λ l. IsAmong l v) (sym tail) m)) (same ∙ ap (λ (x : Record). x.lsn) (sym head))
      where
        first_of : Log → Record
        first_of [] = r
        first_of (x ∷ l) = x
    by again false e = again e

-- ---- the stack

-- where there is a stack, this is the number of its top
abbrev IsTop : ℕ → Log → Type 0
IsTop point [] = Unit {0}
IsTop point (u ∷ stack) = point ≡ u.lsn

-- each of the stack is a record of the log, and names the one below it
abbrev IsPile : Log → Log → Type 0
IsPile log [] = Unit {0}
IsPile log (u ∷ stack) = IsAmong log u × IsTop u.undo_next stack × IsPile log stack

-- No number is asked to be open for this: where the stack is empty, the undo point may be anything.
record HasTop (t : ℕ) (log : Log) : Type 0 where
  pub pile : IsPile log (to_undo t log)
  pub top : IsTop (undo_point t log) (to_undo t log)

pile_on : (r : Record) (log stack : Log) → IsPile log stack → IsPile (r ∷ log) stack
pile_on r log [] h = h
pile_on r log (u ∷ stack) h = (inr h.0, h.1, pile_on r log stack h.2)

top_updated : (t : ℕ) (r : Record) (log : Log) → is_kind_of t 1 r ≡ true → r.undo_next ≡ undo_point t log → HasTop t log → HasTop t (r ∷ log)
top_updated t r log one next h = record {
  pile = rw one (inl refl, subst (λ n. IsTop n (to_undo t log)) (sym next) h.top, pile_on r log (to_undo t log) h.pile);
  top = rw one refl;
}

-- a compensation of the update at the undo point, u
top_compensated : (t : ℕ) (c u : Record) (log stack : Log) → is_kind_of t 1 c ≡ false → is_kind_of t 2 c ≡ true → AreNumbered log → IsNextToUndo t log u → c.undo_next ≡ u.undo_next →
    to_undo t log ≡ stack → IsPile log stack → IsTop (undo_point t log) stack → HasTop t (c ∷ log)
top_compensated t c u log [] not_one two apart next same shape pile top = record { pile = rw (not_one, two, shape) tt; top = rw (not_one, two, shape) tt }
top_compensated t c u log (v ∷ stack) not_one two apart next same shape pile top = record {
  pile = rw (not_one, two, shape) (pile_on c log stack pile.2);
  top = rw (not_one, two, shape) (subst (λ n. IsTop n stack) (sym (same ∙ ap (λ (x : Record). x.undo_next) (apart u v next.among pile.0 (next.point ∙ top)))) pile.1);
}

has_top : (part : ℕ → ℕ) (t : ℕ) (all log : Log) → IsRunning all t → AreNumbered log → FollowEach part all log → HasTop t log
has_top part t all [] running apart f = record { pile = tt; top = tt }
has_top part t all (r ∷ log) running apart f = by_kind (is_to t r) (has_top part t all log running (λ x y m k. apart x y (inr m) (inr k)) f.1)
  where
    by_kind : IsTo t r → HasTop t log → HasTop t (r ∷ log)
    by_kind (updates one update owner) h =
        let well = well_by part t all log r running f owner (λ k. absurd (omega (arith, update, k))) in
        top_updated t r log one (subst (λ x. r.undo_next ≡ undo_point x log) owner (well.undo_next update)) h
    by_kind (compensates not_one two comp owner) h =
        let c = (well_by part t all log r running f owner (λ k. absurd (omega (arith, comp, k)))).compensates comp in
        top_compensated t r c.0 log (to_undo t log) not_one two (λ x y m k. apart x y (inr m) (inr k)) (subst (λ x. IsNextToUndo x log c.0) owner c.1) c.2.undo_next refl h.pile h.top
    by_kind (neither not_one not_two none) h = record { pile = rw (not_one, not_two) (pile_on r log (to_undo t log) h.pile); top = rw (not_one, not_two) h.top }

-- a record more
unnamed_on : (part : ℕ → ℕ) (t : ℕ) (all : Log) (r : Record) (log : Log) → IsRunning all t → AreNumbered (r ∷ log) → FollowEach part all (r ∷ log) →
    to_undo t log ≡ unnamed_updates t log log → to_undo t (r ∷ log) ≡ unnamed_updates t (r ∷ log) (r ∷ log)
unnamed_on part t all r log running apart f again = by_kind (is_to t r)
  where
    has : HasTop t log
    has = has_top part t all log running (λ x y m k. apart x y (inr m) (inr k)) f.1

    not_named : (b : Bool) → is_named t r.lsn log ≡ b → b ≡ false
    not_named true e = (let h = named_is_some part t r.lsn all log running f.1 e in absurd (f.0.fresh h.0 h.1 h.2))
    not_named false e = refl

    less : (point : ℕ) (s : Log) → IsTop point s → to_undo t log ≡ s → rest s ≡ without_lsn point s
    less point [] top e = refl
    less point (u ∷ us) top e =
        let on : (point == u.lsn) ≡ true = grind (arith, nat_tests, top) in
        let fresh = unnamed_fresh part t all log log f.1 u us (sym again ∙ e) in
        rw on (sym (without_none point us (λ v m k. fresh v m (k ∙ top))))

    by_kind : IsTo t r → to_undo t (r ∷ log) ≡ unnamed_updates t (r ∷ log) (r ∷ log)
    by_kind (updates one update owner) =
        let off : (r.kind == 2) ≡ false = grind (arith, nat_tests, update) in
        let on : (r.transaction == t) ≡ true = grind (arith, nat_tests, owner) in
        let names : (lsn : ℕ) → is_named t lsn (r ∷ log) ≡ is_named t lsn log = (λ lsn. rw (on, off) refl) in
        let fresh : is_named t r.lsn (r ∷ log) ≡ false = names r.lsn ∙ not_named (is_named t r.lsn log) refl in
        let same : unnamed_updates t (r ∷ log) log ≡ to_undo t log = unnamed_same t (r ∷ log) log log names ∙ sym again in
        updated one fresh same
      where
        updated : is_kind_of t 1 r ≡ true → is_named t r.lsn (r ∷ log) ≡ false → unnamed_updates t (r ∷ log) log ≡ to_undo t log → to_undo t (r ∷ log) ≡ unnamed_updates t (r ∷ log) (r ∷ log)
        updated one fresh same =
            ap (λ b. if b then r ∷ to_undo t log else (if is_kind_of t 2 r then rest (to_undo t log) else to_undo t log)) one
            ∙ ap (λ l. r ∷ l) (sym same)
            ∙ sym (ap (λ b. if b && not (is_named t r.lsn (r ∷ log)) then r ∷ unnamed_updates t (r ∷ log) log else unnamed_updates t (r ∷ log) log) one
            ∙ ap (λ b. if not b then r ∷ unnamed_updates t (r ∷ log) log else unnamed_updates t (r ∷ log) log) fresh)
    by_kind (compensates not_one two comp owner) =
        let names : (lsn : ℕ) → is_named t lsn (r ∷ log) ≡ ((undo_point t log == lsn) || is_named t lsn log) = (λ lsn. rw two refl) in
        let listed : unnamed_updates t (r ∷ log) log ≡ without_lsn (undo_point t log) (to_undo t log) =
        unnamed_less t (undo_point t log) log (r ∷ log) log names ∙ ap (without_lsn (undo_point t log)) (sym again) in
        let left : to_undo t (r ∷ log) ≡ rest (to_undo t log) = rw (not_one, two) refl in
        let right : unnamed_updates t (r ∷ log) (r ∷ log) ≡ unnamed_updates t (r ∷ log) log = skipped not_one in
        left ∙ less (undo_point t log) (to_undo t log) has.top refl ∙ sym listed ∙ sym right
      where
        skipped : is_kind_of t 1 r ≡ false → unnamed_updates t (r ∷ log) (r ∷ log) ≡ unnamed_updates t (r ∷ log) log
        skipped not_one = ap (λ b. if b && not (is_named t r.lsn (r ∷ log)) then r ∷ unnamed_updates t (r ∷ log) log else unnamed_updates t (r ∷ log) log) not_one
    by_kind (neither not_one not_two none) =
        let names : (lsn : ℕ) → is_named t lsn (r ∷ log) ≡ is_named t lsn log = (λ lsn. rw not_two refl) in
        let left : to_undo t (r ∷ log) ≡ to_undo t log = rw (not_one, not_two) refl in
        let right : unnamed_updates t (r ∷ log) (r ∷ log) ≡ unnamed_updates t (r ∷ log) log = skipped not_one in
        left ∙ again ∙ sym (unnamed_same t (r ∷ log) log log names) ∙ sym right
      where
        skipped : is_kind_of t 1 r ≡ false → unnamed_updates t (r ∷ log) (r ∷ log) ≡ unnamed_updates t (r ∷ log) log
        skipped not_one = ap (λ b. if b && not (is_named t r.lsn (r ∷ log)) then r ∷ unnamed_updates t (r ∷ log) log else unnamed_updates t (r ∷ log) log) not_one

unnamed_from : (part : ℕ → ℕ) (t : ℕ) (all log : Log) → IsRunning all t → AreNumbered log → FollowEach part all log → to_undo t log ≡ unnamed_updates t log log
unnamed_from part t all [] running apart f = refl
unnamed_from part t all (r ∷ log) running apart f =
    unnamed_on part t all r log running apart f (unnamed_from part t all log running (λ x y m k. apart x y (inr m) (inr k)) f.1)

pub stack_is_unnamed : StackIsUnnamed
stack_is_unnamed part log t order running = unnamed_from part t log log running (numbered part log log order) order

-- the need counts them

need_unnamed : (part : ℕ → ℕ) (log : Log) (t : ℕ) (b : Bool) → IsInOrder part log → has_kind_of t 4 log ≡ b → need_of log t ≡ unnamed_need log t
need_unnamed part log t true order ended = rw ended refl
need_unnamed part log t false order not_ended =
    ap (λ l. if has_kind_of t 4 log then 0 else (if has_kind_of t 3 log then 0 else 1) + (length l + 1)) (stack_is_unnamed part log t order running)
  where
    running : IsRunning log t
    running r m end = let on = has_kind_true t 4 log (r, m, end) in absurd (cc)

pub need_is_unnamed : NeedIsUnnamed
need_is_unnamed part p log order =
    let same : need_of log ≡ unnamed_need log = (λ i t. need_unnamed part log t (has_kind_of t 4 log) order refl i) in
    ap (λ number. sum_over part p number log) same

-- ---- the undo point

-- a record is newer than another, is it, or is earlier
among_parts : (newer : Log) (r : Record) (earlier : Log) (u : Record) → IsNewestFirst (newer ++ r ∷ earlier) → IsAmong (newer ++ r ∷ earlier) u → (r.lsn ≤ u.lsn) ⊎ IsAmong earlier u
among_parts [] r earlier u n (inl e) = inl (let same : u.lsn ≡ r.lsn = ap (λ (x : Record). x.lsn) e in omega (arith, same))
among_parts [] r earlier u n (inr m) = inr m
among_parts (x ∷ newer) r earlier u n (inr m) = among_parts newer r earlier u n.1 m
among_parts (x ∷ newer) r earlier u n (inl e) = inl (by (n.0 r (here newer)))
  where
    here : (front : Log) → IsAmong (front ++ r ∷ earlier) r
    here [] = inl refl
    here (y ∷ front) = inr (here front)

    same : u.lsn ≡ x.lsn
    same = ap (λ (y : Record). y.lsn) e

    by : IsNewer x r → r.lsn ≤ u.lsn
    by (inl lt) = omega (arith, lt, same)
    by (inr h) = let eq = h.0 in omega (arith, eq, same)

newer_than : (newer : Log) (r : Record) (earlier : Log) → IsNewestFirst (newer ++ r ∷ earlier) → (s : Record) → IsAmong earlier s → IsNewer r s
newer_than [] r earlier n s m = n.0 s m
newer_than (x ∷ newer) r earlier n s m = newer_than newer r earlier n.1 s m

among_on : (newer : Log) (r : Record) (earlier : Log) (s : Record) → IsAmong earlier s → IsAmong (newer ++ r ∷ earlier) s
among_on [] r earlier s m = inr m
among_on (x ∷ newer) r earlier s m = inr (among_on newer r earlier s m)

pub undo_point_is_earlier : UndoPointIsEarlier
undo_point_is_earlier part log newer earlier r u is newest nonzero follow fresh running m point = elim (among_parts newer r earlier u sorted (subst (λ l. IsAmong l u) is m)) [
  | inr k ↦ k
  | inl le ↦ absurd (by (to_undo r.transaction earlier) refl le)
]
  where
    sorted : IsNewestFirst (newer ++ r ∷ earlier)
    sorted = subst IsNewestFirst is newest

    stack : HasStack r.transaction earlier
    stack = has_stack part r.transaction log earlier running (numbered part log earlier follow)
        (λ x k. nonzero x (subst (λ l. IsAmong l x) (sym is) (among_on newer r earlier x k))) follow

    below : (s : Record) → IsAmong earlier s → s.lsn ≡ u.lsn → r.lsn ≤ u.lsn → ⊥
    below s k e le = lower (newer_than newer r earlier sorted s k)
      where
        lower : IsNewer r s → ⊥
        lower (inl lt) = omega (arith, lt, e, le)
        lower (inr h) = fresh s k h.0

    by : (l : Log) → to_undo r.transaction earlier ≡ l → r.lsn ≤ u.lsn → ⊥
    by [] e le = nonzero u m (point ∙ stack.point ∙ ap top_lsn e)
    by (t ∷ rest) e le =
        let s : IsStack r.transaction earlier (t ∷ rest) = subst (IsStack r.transaction earlier) e stack.stack in
        below t s.0.among (sym (point ∙ stack.point ∙ ap top_lsn e)) le
