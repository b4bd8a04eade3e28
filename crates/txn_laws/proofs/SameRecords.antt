-- What the log has of a transaction hangs on its own records alone.
use Rattle.std.proofs.Common.{◌≡◌, inl, inr, ℕ, [], ◌∷◌, refl, sym, ap, ◌∙◌, subst, arith}
use Rattle.persist_model.specs.Region.{Words}
use Rattle.persist_model.specs.Records.{Record, Log, IsAmong, HasNo, IsOf, IsRunning, IsCommitted}
use Rattle.persist_model.specs.Standing.{IsLatest}
use Rattle.persist_model.specs.Order.{Bars}
use Rattle.persist_model.specs.Need.{to_undo}
use Rattle.persist_model.specs.Shape.{Shape}
use Rattle.log_laws.specs.Moves.{IsChangeBy}
use Rattle.plan_records.specs.Courses.{own_records}
use Rattle.plan_records.proofs.HeapOwn.{change_of, undo_point_stays}
use Rattle.plan_records.proofs.OwnRecords.{own_in, own_out, to_undo_own}
use Rattle.history_laws.proofs.Owning.{end_of, deletion_of}
use Rattle.txn_laws.specs.Txns.{Txn}
use Rattle.txn_laws.specs.AreTransactions.{IsGoing, IsTransaction}

module _ (t : ℕ) (log later : Log) (same : own_records t later ≡ own_records t log) where
  pub back : (y : Record) → IsAmong later y → IsOf t y → IsAmong log y
  back y m of = (own_out t log y (subst (λ l. IsAmong l y) same (own_in t later y m of))).0

  pub forth : (y : Record) → IsAmong log y → IsOf t y → IsAmong later y
  forth y m of = (own_out t later y (subst (λ l. IsAmong l y) (sym same) (own_in t log y m of))).0

  pub running_same : IsRunning log t → IsRunning later t
  running_same running e m end = running e (back e m (end_of t e end)) end

  pub running_back : IsRunning later t → IsRunning log t
  running_back running e m end = running e (forth e m (end_of t e end)) end

  pub committed_back : IsCommitted later t → IsCommitted log t
  committed_back c = (c.0, back c.0 c.1 (end_of t c.0 c.2.0), c.2)

  pub to_undo_same : to_undo t later ≡ to_undo t log
  to_undo_same = to_undo_own t later ∙ ap (to_undo t) same ∙ sym (to_undo_own t log)

  pub latest_was : (a : ℕ) (y : Record) → IsLatest (IsChangeBy t a) later y → IsLatest (IsChangeBy t a) log y
  latest_was a y h = record {
    among = back y h.among (change_of t a y h.has);
    has = h.has;
    last = λ z m k. h.last z (forth z m (change_of t a z k)) k;
  }

  pub bars_back : (r : Record) → r.transaction ≡ t → Bars later r → Bars log r
  bars_back r of (inl k) = inl (k.0, subst (IsRunning log) (sym of) (running_back (subst (IsRunning later) of k.1)))
  bars_back r of (inr k) = inr (k.0, subst (IsCommitted log) (sym of) (committed_back (subst (IsCommitted later) of k.1)))

pub going_same : (log later : Log) (h : Words) (x : Txn) → own_records x.number later ≡ own_records x.number log → IsGoing log h x → IsGoing later h x
going_same log later h x same going = record {
  running = running_same x.number log later same going.running;
  to_undo_is = to_undo_same x.number log later same ∙ going.to_undo_is;
  point_is = undo_point_stays log later x.number same ∙ going.point_is;
  rolled_is = λ unrolled r m k. going.rolled_is unrolled r (back x.number log later same r m k.0) k;
  rolled_has = λ rolled. (let b = going.rolled_has rolled in (b.0, forth x.number log later same b.0 b.1 b.2.0, b.2));
  updates_are = going.updates_are;
  changed = λ a r last. going.changed a r (latest_was x.number log later same a r last);
  unchanged = λ a none u. going.unchanged a (λ r m k. none r (forth x.number log later same r m (change_of x.number a r k)) k) u;
  covered = λ v m. (let u = going.covered v m in let one = u.2.0 in (u.0, forth x.number log later same u.0 u.1 (u.2.2, (λ five. omega (arith, one, five))), u.2));
  unzeroed = going.unzeroed;
  writes_own = going.writes_own;
}

pub transaction_same : (shape : Shape) (log later : Log) (h : Words) (x : Txn) → own_records x.number later ≡ own_records x.number log → IsTransaction shape log h x → IsTransaction shape later h x
transaction_same shape log later h x same t = record {
  in_part = λ r m of. t.in_part r (back x.number log later same r m of) of;
  going = λ runs. going_same log later h x same (t.going runs);
  ended = λ over. record {
    has_end = λ some. (
        let e = (t.ended over).has_end (some.0, back x.number log later same some.0 some.1 some.2, some.2) in
        (e.0, forth x.number log later same e.0 e.1 (end_of x.number e.0 e.2), e.2));
    committed = λ commits some. (
        let e = (t.ended over).committed commits (some.0, back x.number log later same some.0 some.1 some.2, some.2) in
        (e.0, forth x.number log later same e.0 e.1 (end_of x.number e.0 e.2.0), e.2));
    commits_is = λ c. (t.ended over).commits_is (committed_back x.number log later same c);
  };
  deletions = λ a r m d. t.deletions a r (back x.number log later same r m (deletion_of x.number a r d)) d;
  given = λ g m. (let d = t.given g m in (d.0, forth x.number log later same d.0 d.1 (deletion_of x.number g.word d.0 d.2.0), d.2));
  gifts_own = t.gifts_own;
  names = λ r m of bars. t.names r (back x.number log later same r m of) of (bars_back x.number log later same r of.0 bars);
}

-- a transaction without a record
pub own_none : (t : ℕ) (log : Log) → HasNo (IsOf t) log → own_records t log ≡ []
own_none t log none = by (own_records t log) refl
  where
    by : (own : Log) → own_records t log ≡ own → own_records t log ≡ []
    by [] is = is
    by (r ∷ own) is = let k = own_out t log r (subst (λ l. IsAmong l r) (sym is) (inl refl)) in absurd (none r k.0 k.1)
