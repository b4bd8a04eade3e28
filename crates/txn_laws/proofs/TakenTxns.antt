-- What the log has of a transaction that takes deletions back.
use Rattle.std.proofs.Common.{◌≡◌, ◌≢◌, inl, inr, ℕ, Bool, true, false, if◌then◌else◌, List, [], ◌∷◌, refl, sym, ap, ◌∙◌, subst, arith}
use Rattle.persist_model.specs.Kinds.{DELETION}
use Rattle.persist_model.specs.Region.{Words}
use Rattle.persist_model.specs.Records.{Record, Log, IsAmong, IsDeletion, IsCommitted}
use Rattle.persist_model.specs.Order.{is_kind_of, undo_point, Bars}
use Rattle.persist_model.specs.Need.{rest, to_undo}
use Rattle.persist_model.specs.ImageRecords.{record_at}
use Rattle.persist_model.specs.Shape.{Shape, log_words}
use Rattle.persist_model.specs.State.{State}
use Rattle.persist_model.specs.Sound.{HasState}
use Rattle.log_laws.specs.Closing.{IsSublog, empty, stays, goes}
use Rattle.log_laws.specs.Moves.{IsDeferred, IsChangeBy}
use Rattle.std.proofs.lemmas.Bool.Decides.{eqb_tells}
use Rattle.log_keeper.specs.Ledger.{is_in, is_listed, left_open}
use Rattle.log_keeper.proofs.Groups.{in_told, in_found, listed_found}
use Rattle.log_keeper.proofs.Progressing.{only_gates}
use Rattle.txn_laws.specs.Txns.{Gift, Txn}
use Rattle.txn_laws.specs.AreTransactions.{IsGoing, IsTransaction}
use Rattle.txn_laws.specs.PartsOf.{IsTakingBackOf}
use Rattle.txn_laws.specs.TakingsBack.{gifts_left, with_gifts_left}
use Rattle.txn_laws.proofs.LeftOpen.{left_back, left_stays, not_listed}

-- ---- a record is known by its gate

is_stored : (shape : Shape) (base : Words) (s : State) → HasState shape base s → (r : Record) → IsAmong s.log r → r ≡ record_at (log_words shape base) r.at
is_stored shape base s has r m = let k = (has.records.each r).0 m in k.2.is ∙ ap (record_at (log_words shape base)) (sym (ap (λ (x : Record). x.at) k.2.is))

pub one_record : (shape : Shape) (base : Words) (s : State) → HasState shape base s → (r x : Record) → IsAmong s.log r → IsAmong s.log x → r.at ≡ x.at → r ≡ x
one_record shape base s has r x m k e = is_stored shape base s has r m ∙ ap (record_at (log_words shape base)) e ∙ sym (is_stored shape base s has x k)

-- ---- gifts

pub gift_back : (gates : List ℕ) (gifts : List Gift) (g : Gift) → IsAmong (gifts_left gates gifts) g → IsAmong gifts g × (IsAmong gates g.gate → ⊥)
gift_back gates [] g m = absurd m
gift_back gates (f ∷ gifts) g m = by (is_in gates f.gate) refl (gift_back gates gifts g) m
  where
    by : (t : Bool) → is_in gates f.gate ≡ t → (IsAmong (gifts_left gates gifts) g → IsAmong gifts g × (IsAmong gates g.gate → ⊥)) →
        IsAmong (if t then gifts_left gates gifts else f ∷ gifts_left gates gifts) g → IsAmong (f ∷ gifts) g × (IsAmong gates g.gate → ⊥)
    by true on further k = let b = further k in (inr b.0, b.1)
    by false off further (inl e) = (inl e, λ on. (let yes = in_told gates g.gate on in let f : true ≡ false = sym yes ∙ ap (λ (x : Gift). is_in gates x.gate) e ∙ off in cc))
    by false off further (inr k) = let b = further k in (inr b.0, b.1)

pub gift_stays : (gates : List ℕ) (gifts : List Gift) (g : Gift) → IsAmong gifts g → (IsAmong gates g.gate → ⊥) → IsAmong (gifts_left gates gifts) g
gift_stays gates [] g m off = absurd m
gift_stays gates (f ∷ gifts) g m off = by (is_in gates f.gate) refl (λ k. gift_stays gates gifts g k off) m
  where
    by : (t : Bool) → is_in gates f.gate ≡ t → (IsAmong gifts g → IsAmong (gifts_left gates gifts) g) → IsAmong (f ∷ gifts) g → IsAmong (if t then gifts_left gates gifts else f ∷ gifts_left gates gifts) g
    by true on further (inl e) = absurd (off (in_found gates g.gate (ap (λ (x : Gift). is_in gates x.gate) e ∙ on)))
    by true on further (inr k) = further k
    by false none further (inl e) = inl e
    by false none further (inr k) = inr (further k)

-- ---- the log without deletions

module _ (gates : List ℕ) (all : Log) (six : (d : Record) → IsAmong all d → IsAmong gates d.at → IsDeletion d) where
  other : (t k : ℕ) (d : Record) → k ≢ DELETION → d.kind ≡ DELETION → is_kind_of t k d ≡ false
  other t k d ne kind = elim (eqb_tells d.transaction t) [
    | inl own ↦ elim (eqb_tells d.kind k) [ inl same ↦ absurd (ne (sym same.1 ∙ kind)) | inr off ↦ (rw (own.0, off.0) refl) ]
    | inr off ↦ (rw off.0 refl)
  ]

  listed_six : (r : Record) → IsAmong all r → is_listed gates [] [] r.at ≡ true → r.kind ≡ DELETION
  listed_six r m on = six r m (only_gates gates r.at (listed_found gates [] [] r.at on))

  to_undo_left : (t : ℕ) (log : Log) → ((r : Record) → IsAmong log r → IsAmong all r) → to_undo t (left_open gates [] [] log) ≡ to_undo t log
  to_undo_left t [] inside = refl
  to_undo_left t (r ∷ log) inside = by (is_listed gates [] [] r.at) refl (to_undo_left t log (λ x m. inside x (inr m)))
    where
      by : (b : Bool) → is_listed gates [] [] r.at ≡ b → to_undo t (left_open gates [] [] log) ≡ to_undo t log →
          to_undo t (if b then left_open gates [] [] log else r ∷ left_open gates [] [] log) ≡ to_undo t (r ∷ log)
      by true on same = let kind = listed_six r (inside r (inl refl)) on in rw (other t 1 r (omega arith) kind, other t 2 r (omega arith) kind) same
      by false off same = ap (λ l. if is_kind_of t 1 r then r ∷ l else (if is_kind_of t 2 r then rest l else l)) same

  undo_point_left : (t : ℕ) (log : Log) → ((r : Record) → IsAmong log r → IsAmong all r) → undo_point t (left_open gates [] [] log) ≡ undo_point t log
  undo_point_left t [] inside = refl
  undo_point_left t (r ∷ log) inside = by (is_listed gates [] [] r.at) refl (undo_point_left t log (λ x m. inside x (inr m)))
    where
      by : (b : Bool) → is_listed gates [] [] r.at ≡ b → undo_point t (left_open gates [] [] log) ≡ undo_point t log →
          undo_point t (if b then left_open gates [] [] log else r ∷ left_open gates [] [] log) ≡ undo_point t (r ∷ log)
      by true on same = let kind = listed_six r (inside r (inl refl)) on in rw (other t 1 r (omega arith) kind, other t 2 r (omega arith) kind) same
      by false off same = ap (λ n. if is_kind_of t 1 r then r.lsn else (if is_kind_of t 2 r then r.undo_next else n)) same

  abbrev later : Log
  later = left_open gates [] [] all

  back : (r : Record) → IsAmong later r → IsAmong all r
  back r m = (left_back gates [] [] all r m).0

  -- what is no deletion is left
  pub plain_stays : (r : Record) → IsAmong all r → r.kind ≢ DELETION → IsAmong later r
  plain_stays r m ne = left_stays gates [] [] all r m (λ on. ne (six r m (only_gates gates r.at on)))

  change_plain : (t a : ℕ) (r : Record) → IsChangeBy t a r → r.kind ≢ DELETION
  change_plain t a r (inl one, word, own) e = omega (arith, one, e)
  change_plain t a r (inr two, word, own) e = omega (arith, two, e)

  going_taken : (h : Words) (x : Txn) → IsGoing all h x → IsGoing later h (with_gifts_left gates x)
  going_taken h x g = record {
    running = λ r m end. g.running r (back r m) end;
    to_undo_is = to_undo_left x.number all (λ r m. m) ∙ g.to_undo_is;
    point_is = undo_point_left x.number all (λ r m. m) ∙ g.point_is;
    rolled_is = λ unrolled r m k. g.rolled_is unrolled r (back r m) k;
    rolled_has = λ rolled. (let b = g.rolled_has rolled in let three = b.2.1 in (b.0, plain_stays b.0 b.1 (λ six. omega (arith, three, six)), b.2));
    updates_are = g.updates_are;
    changed = λ a r last. g.changed a r (record {
      among = back r last.among;
      has = last.has;
      last = λ y m c. last.last y (plain_stays y m (change_plain x.number a y c)) c;
    });
    unchanged = λ a none u. g.unchanged a (λ y m c. none y (plain_stays y m (change_plain x.number a y c)) c) u;
    covered = λ v m. (let k = g.covered v m in let one = k.2.0 in (k.0, plain_stays k.0 k.1 (λ six. omega (arith, one, six)), k.2));
    unzeroed = g.unzeroed;
    writes_own = g.writes_own;
  }

  -- it runs, and so do the others' ends stay
  committed_back : (t : ℕ) → IsCommitted later t → IsCommitted all t
  committed_back t c = (c.0, back c.0 c.1, c.2)

  pub taken_bars : (r : Record) → Bars later r → Bars all r
  taken_bars r (inl k) = inl (k.0, λ y m end. k.1 y (plain_stays y m (λ six. (let four = end.0 in omega (arith, four, six)))) end)
  taken_bars r (inr k) = inr (k.0, committed_back r.transaction k.1)

  pub taken_txn : (shape : Shape) (h : Words) (p : ℕ) (x : Txn) → IsTakingBackOf all p x gates → IsTransaction shape all h x → IsTransaction shape later h (with_gifts_left gates x)
  taken_txn shape h p x taking t = record {
    in_part = λ r m of. t.in_part r (back r m) of;
    going = λ runs. going_taken h x (t.going runs);
    ended = λ over. (let runs = taking.runs in let f : true ≡ false = sym over ∙ runs in cc);
    deletions = λ a r m d. (
        let g = t.deletions a r (back r m) d in
        (g.0, gift_stays gates x.gifts g.0 g.1 (λ on. not_listed gates [] [] all r m (inl (subst (IsAmong gates) g.3 on))), g.2, g.3));
    given = λ g m. (
        let b = gift_back gates x.gifts g m in
        let d = t.given g b.0 in
        (d.0, left_stays gates [] [] all d.0 d.1 (λ on. b.1 (subst (IsAmong gates) d.2.1 (only_gates gates d.0.at on))), d.2));
    gifts_own = λ g m. t.gifts_own g (gift_back gates x.gifts g m).0;
    names = λ r m of bars. t.names r (back r m) of (taken_bars r bars);
  }

-- the rest of a log without deletions that running transactions take back
pub deferred_part : (gates : List ℕ) (all : Log) → ((d : Record) → IsAmong all d → IsAmong gates d.at → IsDeferred all d) → (log : Log) → ((r : Record) → IsAmong log r → IsAmong all r) →
    IsSublog (IsDeferred all) (left_open gates [] [] log) log
deferred_part gates all deferred [] inside = empty
deferred_part gates all deferred (r ∷ log) inside = by (is_listed gates [] [] r.at) refl (deferred_part gates all deferred log (λ y m. inside y (inr m)))
  where
    by : (b : Bool) → is_listed gates [] [] r.at ≡ b → IsSublog (IsDeferred all) (left_open gates [] [] log) log →
        IsSublog (IsDeferred all) (if b then left_open gates [] [] log else r ∷ left_open gates [] [] log) (r ∷ log)
    by true on part = goes r (deferred r (inside r (inl refl)) (only_gates gates r.at (listed_found gates [] [] r.at on))) part
    by false off part = stays r part
