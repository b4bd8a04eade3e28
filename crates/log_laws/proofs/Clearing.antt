-- Each part of a closing in three groups, and each part of an undo.
use Rattle.std.proofs.Common.{◌≡◌, ◌⊎◌, inl, inr, ℕ, ◌≤◌, Bool, true, false, ◌==◌, ◌||◌, if◌then◌else◌, [], ◌∷◌, refl, sym, subst, arith}
use Rattle.std.proofs.lemmas.Bool.Decides.{nat_tests}
use Rattle.persist_model.specs.Region.{Words}
use Rattle.persist_model.specs.Records.{Record, Log, IsAmong, Has, HasNo, IsEnd, IsOf, IsRunning, IsLoser}
use Rattle.persist_model.specs.Order.{is_kind_of, IsInOrder}
use Rattle.persist_model.specs.Standing.{IsToRedo}
use Rattle.log_laws.specs.Closing.{MayClose, IsSublog, empty, stays, goes, IsClosing, MayClear, IsClosedBy}
use Rattle.persist_model.specs.Need.{rest, to_undo, need_of, need_in, has_of, need_at, sum_over}
use Rattle.log_laws.specs.Recovery.{AreApplied}
use Rattle.log_laws.proofs.Deciding.{ended_or_running, decide_equal}
use Rattle.log_laws.proofs.Closings.{part_among}
use Rattle.log_laws.proofs.Growing.{one_before}
use Rattle.log_laws.proofs.Needs.{has_kind_false, has_of_true, of_test}

part_map : (P Q : Record → Type 0) (later log : Log) → ((r : Record) → IsAmong log r → P r → Q r) → IsSublog P later log → IsSublog Q later log
part_map P Q _ _ f empty = empty
part_map P Q _ _ f (stays r {later = later} {log = log} part) = stays r (part_map P Q later log (λ s m. f s (inr m)) part)
part_map P Q _ _ f (goes r {later = later} {log = log} p part) = goes r (f r (inl refl) p) (part_map P Q later log (λ s m. f s (inr m)) part)

-- a transaction has one end
one_end : (part : ℕ → ℕ) (log : Log) → IsInOrder part log → (d e : Record) → IsAmong log d → IsAmong log e → IsEnd d → IsEnd e → d.transaction ≡ e.transaction → d ≡ e
one_end part log f d e m k end_d end_e same = elim (one_before part log log f d e m k) [
  | inl is ↦ is
  | inr (inl h) ↦ absurd (h.2.not_ended e h.1 ((sym same, (λ five. absurd (omega (arith, end_e, five)))), (λ five. absurd (omega (arith, end_d, five))), end_e))
  | inr (inr h) ↦ absurd (h.2.not_ended d h.1 ((same, (λ five. absurd (omega (arith, end_d, five)))), (λ five. absurd (omega (arith, end_e, five))), end_d))
]

-- each part of a closing in three groups is a closing
pub closed_by : (part : ℕ → ℕ) (policy : ℕ) (log : Log) (w : Words) (S : Record → Type 0) (later : Log) → IsInOrder part log → MayClear policy log w S → IsClosedBy S log later → IsClosing policy log w later
closed_by part policy log w S later order may h = record {
  part = part_map _ (MayClose policy log w later) later log (λ r m k. may_close r m k.0 k.1) h.part;
  redone = may.redone;
}
  where
    before : (r : Record) → IsAmong later r → IsAmong log r
    before r m = part_among _ later log h.part r m

    may_close : (r : Record) → IsAmong log r → S r → (IsAmong later r → ⊥) → MayClose policy log w later r
    may_close r m s gone = record {
      ended = may.ended r m s;
      applied = may.applied r m s;
      whole = λ end x k of. elim (h.ends_second r m gone end x k (may.whole r m s end x (before x k) of)) [
        | inl end_x ↦ gone (subst (λ y. IsAmong later y) (one_end part log order x r (before x k) m end_x end of.0) k)
        | inr check ↦ of.1 check
      ];
      skips = λ check e k end lt x j of. of.1 (h.checkpoints_last r m gone check x j (may.skips r m s check e k end lt x (before x j) of));
    }

-- all records may be cleared where nothing runs, all is applied and nothing is to be redone
pub may_clear_all : (policy : ℕ) (log : Log) (w : Words) → ((t : ℕ) → IsLoser log t → ⊥) → AreApplied policy log w → ((a : ℕ) → HasNo (IsToRedo policy log a) log) → MayClear policy log w (λ r. Unit {0})
may_clear_all policy log w over applied nothing = record {
  ended = λ r m s. elim (decide_equal r.kind 5) [
    | inl five ↦ inl five
    | inr ne ↦ elim (ended_or_running log r.transaction) [ inl e ↦ inr e | inr running ↦ absurd (over r.transaction ((r, m, (refl, ne)), running)) ]
  ];
  applied = λ r m s _ _. applied r.word;
  whole = λ e m s end r k of. tt;
  skips = λ c m s check e k end lt r j of. tt;
  redone = nothing;
}

-- ---- the room that an undo finds

-- while a transaction runs, its part needs a cell
pub loser_needs : (part : ℕ → ℕ) (p t : ℕ) (log : Log) → IsRunning log t → Has (IsOf t) log → ((r : Record) → IsAmong log r → IsOf t r → part r.at ≡ p) → 1 ≤ need_in part p log
loser_needs part p t log running some inside = at_least log (has_of_true t log some) inside
  where
    needs : 1 ≤ need_of log t
    needs = let off = has_kind_false t 4 log running in rw off (omega arith)

    or_cases : (a b : Bool) → (a || b) ≡ true → (b ≡ true) ⊎ ((b ≡ false) × (a ≡ true))
    or_cases a true h = inl refl
    or_cases true false h = inr (refl, refl)
    or_cases false false h = cc

    at_least : (l : Log) → has_of t l ≡ true → ((r : Record) → IsAmong l r → IsOf t r → part r.at ≡ p) → 1 ≤ sum_over part p (need_of log) l
    at_least [] has inside = cc
    at_least (r ∷ l) has inside = elim (or_cases _ (has_of t l) has) [
      | inl more ↦ (let k = at_least l more (λ s m. inside s (inr m)) in omega (arith, k))
      | inr first ↦ elim (of_test t r) [
        | inr h ↦ absurd (cc)
        | inl h ↦ (
            let here : (part r.at == p) ≡ true = (let e = inside r (inl refl) h.1 in grind (arith, nat_tests)) in
            let own : r.transaction ≡ t = h.1.0 in
            let none : has_of r.transaction l ≡ false = rw own first.0 in
            let counts : need_at part p (need_of log) r l ≡ need_of log t = rw (h.2, none, here, own) refl in
            omega (arith, counts, needs))
      ]
    ]

-- ---- the undo pass over the updates of t, newest first

abbrev pub updates_of : ℕ → Log → Log
updates_of t [] = []
updates_of t (r ∷ log) = if is_kind_of t 1 r then r ∷ updates_of t log else updates_of t log

-- What is to be undone are the updates of t without some: so the pass, at each update, either finds it on top of the stack and
-- appends its compensation, or passes it over.
pub stack_is_part : (t : ℕ) (log : Log) → IsSublog (λ r. Unit {0}) (to_undo t log) (updates_of t log)
stack_is_part t [] = empty
stack_is_part t (r ∷ log) = by_tests (is_kind_of t 1 r) (is_kind_of t 2 r) (stack_is_part t log)
  where
    without_top : (stack log : Log) → IsSublog (λ r. Unit {0}) stack log → IsSublog (λ r. Unit {0}) (rest stack) log
    without_top _ _ empty = empty
    without_top _ _ (stays x part) = goes x tt part
    without_top _ _ (goes x {later = []} k part) = goes x tt part
    without_top _ _ (goes x {later = y ∷ stack} {log = log} k part) = goes x tt (without_top (y ∷ stack) log part)

    by_tests : (one two : Bool) → IsSublog (λ r. Unit {0}) (to_undo t log) (updates_of t log) →
        IsSublog (λ r. Unit {0}) (if one then r ∷ to_undo t log else (if two then rest (to_undo t log) else to_undo t log)) (if one then r ∷ updates_of t log else updates_of t log)
    by_tests true two part = stays r part
    by_tests false true part = without_top (to_undo t log) (updates_of t log) part
    by_tests false false part = part
