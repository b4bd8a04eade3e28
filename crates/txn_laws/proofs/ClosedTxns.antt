-- What the log has of the transactions behind a group of a closing.
use Rattle.std.proofs.Common.{◌≡◌, ◌≢◌, inl, inr, ℕ, Bool, true, false, List, [], ◌∷◌, refl, sym, ◌∙◌, subst, arith}
use Rattle.persist_model.specs.Region.{Words}
use Rattle.persist_model.specs.Records.{Record, Log, IsAmong, Has, HasNo, IsOf, IsEnd, IsDeletion, IsEnded, IsCommitted}
use Rattle.persist_model.specs.Standing.{IsToUndo, Stands, undone, deleted, redone, kept}
use Rattle.persist_model.specs.Order.{Bars, IsInOrder}
use Rattle.persist_model.specs.Shape.{Shape}
use Rattle.log_laws.proofs.Deciding.{decide_equal, has_or_none, decide_to_undo}
use Rattle.log_laws.specs.Closing.{MayClear}
use Rattle.log_laws.proofs.Growing.{one_before}
use Rattle.log_clearing.specs.Closed.{AreGroups, IsListed}
use Rattle.log_keeper.specs.Ledger.{left_open}
use Rattle.plan_records.specs.Courses.{own_records}
use Rattle.history_laws.proofs.Owning.{deletion_of}
use Rattle.txn_laws.specs.Txns.{Txn}
use Rattle.txn_laws.specs.AreTransactions.{IsTransaction}
use Rattle.txn_laws.specs.PartsOf.{IsClosingOf}
use Rattle.txn_laws.specs.Closings.{with_words}
use Rattle.txn_laws.proofs.LeftOpen.{left_back, own_left, not_listed}
use Rattle.txn_laws.proofs.SameRecords.{transaction_same}

-- a transaction has one end
pub one_end : (part : ℕ → ℕ) (log : Log) → IsInOrder part log → (d e : Record) → IsAmong log d → IsAmong log e → IsEnd d → IsEnd e → d.transaction ≡ e.transaction → d ≡ e
one_end part log f d e m k end_d end_e same = elim (one_before part log log f d e m k) [
  | inl is ↦ is
  | inr (inl h) ↦ absurd (h.2.not_ended e h.1 ((sym same, (λ five. absurd (omega (arith, end_e, five)))), (λ five. absurd (omega (arith, end_d, five))), end_e))
  | inr (inr h) ↦ absurd (h.2.not_ended d h.1 ((same, (λ five. absurd (omega (arith, end_d, five)))), (λ five. absurd (omega (arith, end_e, five))), end_d))
]

module _ (shape : Shape) (log : Log) (h : Words) (part : ℕ → ℕ) (order : IsInOrder part log) (p : ℕ) (x : Txn) (gates ends : List ℕ) (groups : AreGroups log gates ends []) (closing : IsClosingOf log p x gates ends) where
  abbrev later : Log
  later = left_open gates ends [] log

  back : (r : Record) → IsAmong later r → IsAmong log r
  back r m = (left_back gates ends [] log r m).0

  -- nothing is left of it but an end
  pub left_is_end : (r : Record) → IsAmong later r → IsOf x.number r → IsEnd r
  left_is_end r m of = elim (decide_equal r.kind 4) [
    | inl four ↦ four
    | inr ne ↦ absurd (not_listed gates ends [] log r m (by ends refl ne))
  ]
    where
      by : (es : List ℕ) → ends ≡ es → (IsEnd r → ⊥) → IsListed gates ends [] r
      by [] none ne = inl (closing.first none r (back r m) of ne)
      by (a ∷ es) some ne =
          let among : IsAmong ends a = subst (λ l. IsAmong l a) (sym some) (inl refl) in
          let e = groups.of_ends a among in
          inr (inl (closing.rest e.0 e.1 (inr (inl (subst (IsAmong ends) (sym e.2.0) among))) e.2.1 r (back r m) of))

  pub no_bars : (r : Record) → IsEnd r → Bars later r → ⊥
  no_bars r four (inl (inl (inl one), running)) = omega (arith, four, one)
  no_bars r four (inl (inl (inr two), running)) = omega (arith, four, two)
  no_bars r four (inl (inr six, running)) = omega (arith, four, six)
  no_bars r four (inr k) = let six = k.0 in omega (arith, four, six)

  pub closed_txn : (words : ℕ → Bool) → IsTransaction shape log h x → IsTransaction shape later h (with_words words x)
  closed_txn words t = record {
    in_part = λ r m of. t.in_part r (back r m) of;
    going = λ runs. (let over = closing.is_over in let f : true ≡ false = sym over ∙ runs in cc);
    ended = λ over. record {
      has_end = λ some. (some.0, some.1, (left_is_end some.0 some.1 some.2, some.2.0));
      committed = λ commits some. (
          let c = (t.ended over).committed commits (some.0, back some.0 some.1, some.2) in
          let e : c.0 ≡ some.0 = one_end part log order c.0 some.0 c.1 (back some.0 some.1) c.2.0.0 (left_is_end some.0 some.1 some.2) (c.2.0.1 ∙ sym some.2.0) in
          (c.0, subst (λ r. IsAmong later r) (sym e) some.1, c.2));
      commits_is = λ c. (t.ended over).commits_is (c.0, back c.0 c.1, c.2);
    };
    deletions = λ a r m d. (let four = left_is_end r m (deletion_of x.number a r d) in let six = d.0 in absurd (omega (arith, four, six)));
    given = λ g m. absurd m;
    gifts_own = λ g m. absurd m;
    names = λ r m of bars. absurd (no_bars r (left_is_end r m of) bars);
  }

  -- and others have all of theirs
  none_of : (t : ℕ) → t ≢ x.number → (r : Record) → IsAmong log r → IsListed gates ends [] r → IsOf t r → ⊥
  none_of t ne r m on of = ne (sym of.0 ∙ (closing.own r m on).0)

  pub other_own : (t : ℕ) → t ≢ x.number → own_records t later ≡ own_records t log
  other_own t ne = own_left gates ends [] t log (λ r m on of. none_of t ne r m on of)

  pub other_txn : (z : Txn) → z.number ≢ x.number → IsTransaction shape log h z → IsTransaction shape later h z
  other_txn z ne t = transaction_same shape log later h z (other_own z.number ne) t

-- ---- which records may be cleared

-- The records of the group may be, where the owner words that it gave are 0.
pub group_clears : (policy : ℕ) (log : Log) (ws : Words) (p : ℕ) (x : Txn) (gates ends : List ℕ) → policy ≢ 2 → IsClosingOf log p x gates ends → (Has (IsOf x.number) log → IsEnded log x.number) →
    ((r : Record) → IsAmong log r → IsListed gates ends [] r → IsDeletion r → IsCommitted log r.transaction → ws r.word ≡ 0) → MayClear policy log ws (IsListed gates ends [])
group_clears policy log ws p x gates ends force closing has_end zero = record {
  ended = λ r m on. inr (let of = closing.own r m on in subst (IsEnded log) (sym of.0) (has_end (r, m, of)));
  applied = λ r m on six over. elim (has_or_none (IsToUndo log r.word) log (decide_to_undo log r.word)) [ inl u ↦ inl u | inr nu ↦ inr (is_zero r m on six over nu) ];
  whole = λ e m on end r k of. inr (inl (closing.rest e m on end r k (of.0 ∙ (closing.own e m on).0, of.1)));
  skips = λ c m on check. absurd ((closing.own c m on).1 check);
  redone = λ a r m redo. force redo.0;
}
  where
    is_zero : (r : Record) → IsAmong log r → IsListed gates ends [] r → IsDeletion r → IsCommitted log r.transaction → HasNo (IsToUndo log r.word) log → (u : ℕ) → Stands policy log ws r.word u → u ≡ ws r.word
    is_zero r m on six over nu u (undone y first e) = absurd (nu y first.among first.has)
    is_zero r m on six over nu u (deleted _ d e) = e ∙ sym (zero r m on six over)
    is_zero r m on six over nu u (redone _ nd y last e) = absurd (nd r m (six, refl, over))
    is_zero r m on six over nu u (kept _ nd nr e) = absurd (nd r m (six, refl, over))
