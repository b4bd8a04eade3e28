-- One record more in the tables.
use Rattle.std.proofs.Common.{◌≡◌, inl, inr, ℕ, ◌+◌, ◌≤◌, Bool, true, false, not, ◌==◌, ◌&&◌, ◌||◌, if◌then◌else◌, ◌∷◌, length, refl, sym, ap, ◌∙◌, subst, eq-eqb, arith, []}
use Rattle.std.specs.List.{list_any}
use Rattle.std.specs.Prelude.{Option, Some, None, unwrap_or, is_some, nat_lt}
use Rattle.std.specs.declared.cmp.Ordering.{Ordering}
use Rattle.std.specs.declared.cmp.Ordering.TheVariants.{Less, Equal, Greater}
use Rattle.std.specs.Ordering.{is_eq, nat_cmp, ordering_then}
use Rattle.std.specs.BTreeMap.{BTreeMap, get}
use Rattle.std.proofs.lemmas.Bool.Decides.{eqb_tells, nat_tests}
use Rattle.persist_model.specs.Records.{Record, Log, HasNo}
use Rattle.persist_model.specs.Order.{undo_point, last_new}
use Rattle.persist_model.specs.Need.{has_of, has_kind_of, to_undo}
use Rattle.bucket_log.specs.declared.scanning.Placed.{Placed}
use Rattle.log_tables.specs.declared.summaries.Summary.{Summary}
use Rattle.log_tables.specs.Seen.{has_other}
use Rattle.log_tables.specs.Tables.{IsSummary, no_summary, is_end_below, after_put, has_outside, has_commit_of, has_end_below, pair_cmp, holds_found, AreNumbers}

-- ---- summaries

-- a record of the transaction is taken into its summary
pub summary_behind : (part : ℕ → ℕ) (h k : Summary) (r : Record) (log : Log) → k.has_record ≡ (not (r.kind == 5) || h.has_record) →
    ((p : ℕ) → has_other k.parts p ≡ ((not (r.kind == 5) && not (part r.at == p)) || has_other h.parts p)) → k.has_rollback ≡ ((r.kind == 3) || h.has_rollback) →
    k.has_commit ≡ (((r.kind == 4) && (r.outcome == 1)) || h.has_commit) → is_some k.first_end ≡ ((r.kind == 4) || is_some h.first_end) →
    ((n : ℕ) → is_end_below k.first_end n ≡ (((r.kind == 4) && nat_lt r.lsn n) || is_end_below h.first_end n)) →
    ((l : Log) → h.undo_point ≡ undo_point r.transaction l → k.undo_point ≡ undo_point r.transaction (r ∷ l)) →
    ((l : Log) → h.undo_count ≡ length (to_undo r.transaction l) → k.undo_count ≡ length (to_undo r.transaction (r ∷ l))) → k.undo_count ≤ h.undo_count + 1 →
    IsSummary part h r.transaction log → IsSummary part k r.transaction (r ∷ log)
summary_behind part h k r log some parts rollback commit end below point count bound s = record {
  some = some ∙ ap (λ b. not (r.kind == 5) || b) s.some ∙ sym (ap (λ b. (b && not (r.kind == 5)) || has_of r.transaction log) own);
  parts = λ p. parts p ∙ ap (λ b. (not (r.kind == 5) && not (part r.at == p)) || b) (s.parts p)
      ∙ sym (ap (λ b. ((b && not (r.kind == 5)) && not (part r.at == p)) || has_outside part r.transaction p log) own);
  rollback = rollback ∙ ap (λ b. (r.kind == 3) || b) s.rollback ∙ sym (ap (λ b. (b && (r.kind == 3)) || has_kind_of r.transaction 3 log) own);
  commit = commit ∙ ap (λ b. ((r.kind == 4) && (r.outcome == 1)) || b) s.commit
      ∙ sym (ap (λ b. ((b && (r.kind == 4)) && (r.outcome == 1)) || has_commit_of r.transaction log) own);
  end = end ∙ ap (λ b. (r.kind == 4) || b) s.end ∙ sym (ap (λ b. (b && (r.kind == 4)) || has_kind_of r.transaction 4 log) own);
  below = λ n. below n ∙ ap (λ b. ((r.kind == 4) && nat_lt r.lsn n) || b) (s.below n)
      ∙ sym (ap (λ b. ((b && (r.kind == 4)) && nat_lt r.lsn n) || has_end_below r.transaction n log) own);
  point = point log s.point;
  count = count log s.count;
  bound = let le = s.bound in omega (arith, bound, le);
}
  where
    own : (r.transaction == r.transaction) ≡ true
    own = eq-eqb r.transaction r.transaction refl

-- a record of another one leaves it
summary_kept : (part : ℕ → ℕ) (h : Summary) (t : ℕ) (r : Record) (log : Log) → (r.transaction == t) ≡ false → IsSummary part h t log → IsSummary part h t (r ∷ log)
summary_kept part h t r log other s = record {
  some = rw other s.some;
  parts = λ p. rw other (s.parts p);
  rollback = rw other s.rollback;
  commit = rw other s.commit;
  end = rw other s.end;
  below = λ n. rw other (s.below n);
  point = rw other s.point;
  count = rw other s.count;
  bound = let le = s.bound in omega (arith, le);
}

pub summaries_more : (part : ℕ → ℕ) (r : Record) (log : Log) (before after : ℕ → Option Summary) (k : Summary) → ((t : ℕ) → after t ≡ after_put r.transaction k (before t) t) →
    ((t : ℕ) → IsSummary part (unwrap_or (before t) no_summary) t log) → IsSummary part k r.transaction (r ∷ log) → (t : ℕ) → IsSummary part (unwrap_or (after t) no_summary) t (r ∷ log)
summaries_more part r log before after k put old new t = elim (eqb_tells r.transaction t) [
  | inl e ↦ subst (λ s. IsSummary part s t (r ∷ log)) (sym (ap (λ o. unwrap_or o no_summary) (put t ∙ ap (λ b. if b then Some k else before t) e.0)))
      (subst (λ q. IsSummary part k q (r ∷ log)) e.1 new)
  | inr ne ↦ subst (λ s. IsSummary part s t (r ∷ log)) (sym (ap (λ o. unwrap_or o no_summary) (put t ∙ ap (λ b. if b then Some k else before t) ne.0)))
      (summary_kept part (unwrap_or (before t) no_summary) t r log ne.0 (old t))
]

-- ---- records by their numbers

none_of : (o : Option Placed) → holds_found (λ r. true) o ≡ false → o ≡ None
none_of None h = refl
none_of (Some u) h = cc

none_with : (log : Log) (n : ℕ) → HasNo (λ r. r.lsn ≡ n) log → list_any (λ (s : Record). (s.lsn == n) && true) log ≡ false
none_with [] n none = refl
none_with (r ∷ log) n none = elim (eqb_tells r.lsn n) [ inl e ↦ absurd (none r (inl refl) e.1) | inr ne ↦ rw ne.0 (none_with log n (λ s m. none s (inr m))) ]

pub number_free : (numbers : BTreeMap ℕ Placed) (log : Log) (n : ℕ) → AreNumbers numbers log → HasNo (λ r. r.lsn ≡ n) log → get nat_cmp numbers n ≡ None
number_free numbers log n are none = none_of (get nat_cmp numbers n) (sym (are (λ r. true) n) ∙ none_with log n none)

-- ---- values by transaction and word

nat_at : (a b : ℕ) → is_eq (nat_cmp a b) ≡ (a == b)
nat_at a b = grind (arith, nat_tests)

then_at : (x y : Ordering) → is_eq (ordering_then x y) ≡ (is_eq x && is_eq y)
then_at Less y = refl
then_at Equal y = refl
then_at Greater y = refl

pair_at : (a b : ℕ × ℕ) → is_eq (pair_cmp a b) ≡ ((a.0 == b.0) && (a.1 == b.1))
pair_at a b = then_at (nat_cmp a.0 b.0) (nat_cmp a.1 b.1) ∙ ap (λ s. s && is_eq (nat_cmp a.1 b.1)) (nat_at a.0 b.0) ∙ ap (λ s. (a.0 == b.0) && s) (nat_at a.1 b.1)

and_or : (s p q : Bool) → ((s && p) || (s && q)) ≡ (s && (p || q))
and_or true p q = refl
and_or false p q = refl

and_true : (t : Bool) → (t && true) ≡ t
and_true true = refl
and_true false = refl

either : (s : Bool) (v : ℕ) (o : Option ℕ) (d : ℕ) → (if s then v else unwrap_or o d) ≡ unwrap_or (if s then Some v else o) d
either true v o d = refl
either false v o d = refl

pub news_more : (r : Record) (log : Log) (before after : ℕ × ℕ → Option ℕ) → ((r.kind == 1) || (r.kind == 2)) ≡ true →
    ((q : ℕ × ℕ) → after q ≡ (if is_eq (pair_cmp (r.transaction, r.word) q) then Some r.after else before q)) → ((t a d : ℕ) → last_new t a d log ≡ unwrap_or (before (t, a)) d) →
    (t a d : ℕ) → last_new t a d (r ∷ log) ≡ unwrap_or (after (t, a)) d
news_more r log before after change put old t a d =
    ap (λ b. if b && (r.word == a) then r.after else last_new t a d log) (and_or (r.transaction == t) (r.kind == 1) (r.kind == 2) ∙ ap (λ b. (r.transaction == t) && b) change ∙ and_true (r.transaction == t))
    ∙ ap (λ n. if (r.transaction == t) && (r.word == a) then r.after else n) (old t a d)
    ∙ either ((r.transaction == t) && (r.word == a)) r.after (before (t, a)) d
    ∙ sym (ap (λ o. unwrap_or o d) (put (t, a) ∙ ap (λ b. if b then Some r.after else before (t, a)) (pair_at (r.transaction, r.word) (t, a))))
