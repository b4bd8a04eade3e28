-- What the log has of the transactions behind a group of a checkpoint's closing.
use Rattle.std.proofs.Common.{◌≡◌, ◌≢◌, inl, inr, ℕ, zero, suc, ◌≤◌, Bool, true, false, if◌then◌else◌, List, [], ◌∷◌, refl, sym, ap, ◌∙◌, subst, arith}
use Rattle.persist_model.specs.Region.{Words}
use Rattle.persist_model.specs.Kinds.{CHECKPOINT}
use Rattle.persist_model.specs.Records.{Record, Log, IsAmong, IsOf, IsEnd, IsRunning, IsEnded, IsCommitted}
use Rattle.persist_model.specs.Standing.{IsToDelete}
use Rattle.persist_model.specs.Order.{Bars}
use Rattle.persist_model.specs.Shape.{Shape}
use Rattle.log_clearing.specs.Closed.{IsListed}
use Rattle.log_keeper.specs.Ledger.{is_in, left_open}
use Rattle.log_keeper.proofs.Progressing.{only_gates}
use Rattle.log_keeper.proofs.Groups.{in_found, not_true}
use Rattle.plan_records.specs.Courses.{own_records}
use Rattle.txn_laws.specs.Txns.{Gift, Txn, txn_at}
use Rattle.txn_laws.specs.Owners.{IsMine, AreOwners}
use Rattle.txn_laws.specs.Flights.{is_flying}
use Rattle.txn_laws.specs.Heaps.{now_of}
use Rattle.txn_laws.specs.AreTransactions.{IsTransaction}
use Rattle.txn_laws.specs.TakingsBack.{gifts_left, with_gifts_left}
use Rattle.txn_laws.proofs.LeftOpen.{left_back, left_stays, left_or, own_left, not_listed}
use Rattle.txn_laws.proofs.SameRecords.{transaction_same}
use Rattle.txn_laws.proofs.TakenTxns.{gift_back, gift_stays}
use Rattle.redo_laws.specs.Transactions.{AreRedoTransactions}
use Rattle.redo_laws.specs.Stages.{AreSkipped, IsGroup}
use Rattle.redo_laws.specs.Clears.{shut_txn, shut_lanes, LanesAreShut}
use Rattle.redo_laws.proofs.Owned.{bars_plain}

-- ---- lanes

pub txn_shut : (gates : List ℕ) (lanes : List Txn) (l : ℕ) → txn_at (shut_lanes gates lanes) l ≡ shut_txn gates (txn_at lanes l)
txn_shut gates [] l = refl
txn_shut gates (x ∷ lanes) zero = refl
txn_shut gates (x ∷ lanes) (suc l) = txn_shut gates lanes l

-- all but the gifts is as it was
pub number_shut : (gates : List ℕ) (lanes : List Txn) (l : ℕ) → (txn_at (shut_lanes gates lanes) l).number ≡ (txn_at lanes l).number
number_shut gates lanes l = ap (λ (x : Txn). x.number) (txn_shut gates lanes l)

mine_shut : (gates : List ℕ) (lanes : List Txn) (l a : ℕ) → IsMine (txn_at (shut_lanes gates lanes) l) a → IsMine (txn_at lanes l) a
mine_shut gates lanes l a mine = subst (λ (x : Txn). IsMine x a) (txn_shut gates lanes l) mine

pub flying_shut : (gates : List ℕ) (lanes : List Txn) (l : ℕ) → is_flying (txn_at (shut_lanes gates lanes) l) ≡ is_flying (txn_at lanes l)
flying_shut gates lanes l = ap (λ (x : Txn). is_flying x) (txn_shut gates lanes l)

pub now_shut : (gates : List ℕ) (lanes : List Txn) (h : Words) (a : ℕ) → now_of (shut_lanes gates lanes) h a ≡ now_of lanes h a
now_shut gates [] h a = refl
now_shut gates (x ∷ lanes) h a = rw (now_shut gates lanes h a) refl

pub owners_shut : (shape : Shape) (gates : List ℕ) (lanes : List Txn) → AreOwners shape lanes → AreOwners shape (shut_lanes gates lanes)
owners_shut shape gates lanes owners = record {
  heap_words = λ l a m. owners.heap_words l a (mine_shut gates lanes l a m);
  apart = λ l k a m n. owners.apart l k a (mine_shut gates lanes l a m) (mine_shut gates lanes k a n);
}

-- ---- the records

module _ (log : Log) (row : List ℕ) (group : IsGroup log (IsListed row [] [])) where
  abbrev later : Log
  later = left_open row [] [] log

  back : (r : Record) → IsAmong later r → IsAmong log r
  back r m = (left_back row [] [] log r m).0

  -- while a record of a transaction is left its end is
  end_left : (r e : Record) → IsAmong later r → r.kind ≢ CHECKPOINT → IsAmong log e → IsEnd e → e.transaction ≡ r.transaction → IsAmong later e
  end_left r e m plain k end same = elim (left_or row [] [] log e k) [
    | inl left ↦ left
    | inr on ↦ absurd (not_listed row [] [] log r m (group.whole e k on end r (back r m) (sym same, plain)))
  ]

  pub ended_left : (r : Record) → IsAmong later r → r.kind ≢ CHECKPOINT → IsEnded log r.transaction → IsEnded later r.transaction
  ended_left r m plain ended = (ended.0, end_left r ended.0 m plain ended.1 ended.2.0 ended.2.1, ended.2)

  committed_left : (r : Record) → IsAmong later r → r.kind ≢ CHECKPOINT → IsCommitted log r.transaction → IsCommitted later r.transaction
  committed_left r m plain done = (done.0, end_left r done.0 m plain done.1 done.2.0.0 done.2.0.1, done.2)

  pub delete_back : (a : ℕ) (r : Record) → IsToDelete later a r → IsToDelete log a r
  delete_back a r d = let c = d.2 in (d.0, d.1, (c.0, back c.0 c.1, c.2))

  bars_back : (r : Record) → IsAmong later r → Bars later r → Bars log r
  bars_back r m (inl k) = inl (k.0, λ e among end. k.1 e (end_left r e m (bars_plain later r (inl k)) among end.0 end.1) end)
  bars_back r m (inr k) = let c = k.1 in inr (k.0, (c.0, back c.0 c.1, c.2))

  -- a running transaction has all of its records
  running_own : (t : ℕ) → IsRunning log t → own_records t later ≡ own_records t log
  running_own t running = own_left row [] [] t log (λ r m on of. elim (group.ended r m on) [
    | inl check ↦ of.1 check
    | inr end ↦ running end.0 end.1 (end.2.0, end.2.1 ∙ of.0)
  ])

  -- each end that is left is older than a checkpoint record that is left
  pub skipped_left : AreSkipped log → AreSkipped later
  skipped_left skipped e m end =
      let was = skipped e (back e m) end in
      let check = was.2.1 in
      let plain : e.kind ≢ CHECKPOINT = λ five. omega (arith, end, five) in (
        was.0,
        end_left e was.0 m plain was.1 was.2.0.0 was.2.0.1,
        (
          was.2.0,
          (
            check.0,
            elim (left_or row [] [] log check.0 check.1) [
              | inl left ↦ left
              | inr on ↦ absurd (not_listed row [] [] log e m (group.skips check.0 check.1 on check.2.0 was.0 was.1 was.2.0.0 check.2.1 e (back e m) (sym was.2.0.1, plain)))
            ],
            check.2,
          ),
        ),
      )

  -- ---- the transactions

  module _ (shape : Shape) (h : Words) where
    -- one that has ended has no more gifts than there are deletions of it
    over_left : (x : Txn) → x.over ≡ true → IsTransaction shape log h x → IsTransaction shape later h (with_gifts_left row x)
    over_left x over t = record {
      in_part = λ r m of. t.in_part r (back r m) of;
      going = λ runs. (let f : true ≡ false = sym over ∙ runs in cc);
      ended = λ over. record {
        has_end = λ some. (
            let e = (t.ended over).has_end (some.0, back some.0 some.1, some.2) in
            subst (IsEnded later) some.2.0 (ended_left some.0 some.1 some.2.1 (subst (IsEnded log) (sym some.2.0) e)));
        committed = λ commits some. (
            let c = (t.ended over).committed commits (some.0, back some.0 some.1, some.2) in
            subst (IsCommitted later) some.2.0 (committed_left some.0 some.1 some.2.1 (subst (IsCommitted log) (sym some.2.0) c)));
        commits_is = λ c. (t.ended over).commits_is (c.0, back c.0 c.1, c.2);
      };
      deletions = λ a r m d. (
          let g = t.deletions a r (back r m) d in
          (g.0, gift_stays row x.gifts g.0 g.1 (λ on. not_listed row [] [] log r m (inl (subst (IsAmong row) g.3 on))), g.2, g.3));
      given = λ g m. (
          let was = gift_back row x.gifts g m in
          let d = t.given g was.0 in
          (d.0, left_stays row [] [] log d.0 d.1 (λ on. was.1 (subst (IsAmong row) d.2.1 (only_gates row d.0.at on))), d.2));
      gifts_own = λ g m. t.gifts_own g (gift_back row x.gifts g m).0;
      names = λ r m of bars. t.names r (back r m) of (bars_back r m bars);
    }

    txn_left : (x : Txn) → IsTransaction shape log h x → IsTransaction shape later h (shut_txn row x)
    txn_left x t = by x.over refl
      where
        by : (b : Bool) → x.over ≡ b → IsTransaction shape later h (shut_txn row x)
        by true over = subst (IsTransaction shape later h) (λ i. record x { gifts = if (sym over) i then gifts_left row x.gifts else x.gifts }) (over_left x over t)
        by false runs = subst (IsTransaction shape later h) (λ i. record x { gifts = if (sym runs) i then gifts_left row x.gifts else x.gifts })
            (transaction_same shape log later h x (running_own x.number (t.going runs).running) t)

    pub transactions_left : (lanes : List Txn) → AreRedoTransactions shape log h lanes → AreRedoTransactions shape later h (shut_lanes row lanes)
    transactions_left lanes all = record {
      each = λ l. subst (IsTransaction shape later h) (sym (txn_shut row lanes l)) (txn_left (txn_at lanes l) (all.each l));
      known = λ r m plain. elim (all.known r (back r m) plain) [
        | inl k ↦ (let of = subst (λ n. (1 ≤ n) × IsOf n r) (sym (number_shut row lanes k.0)) (k.1, k.2) in inl (k.0, of.0, of.1))
        | inr gone ↦ inr (ended_left r m plain gone.0, λ l e. gone.1 l (sym (number_shut row lanes l) ∙ e))
      ];
      apart = λ l k one e. all.apart l k (subst (λ n. 1 ≤ n) (number_shut row lanes l) one) (sym (number_shut row lanes l) ∙ e ∙ number_shut row lanes k);
      barred = λ r l a m d mine. subst (λ n. IsOf n r) (sym (number_shut row lanes l)) (all.barred r l a (back r m) (delete_back a r d) (mine_shut row lanes l a mine));
    }

-- ---- where no gift's deletion is closed

gifts_stay : (gates : List ℕ) (gifts : List Gift) → ((g : Gift) → IsAmong gifts g → IsAmong gates g.gate → ⊥) → gifts_left gates gifts ≡ gifts
gifts_stay gates [] none = refl
gifts_stay gates (g ∷ gifts) none =
    let off = not_true (is_in gates g.gate) (λ on. none g (inl refl) (in_found gates g.gate on)) in
    rw off (ap (λ (later : List Gift). g ∷ later) (gifts_stay gates gifts (λ x m. none x (inr m))))

pub lanes_are_shut : LanesAreShut
lanes_are_shut gates [] none = refl
lanes_are_shut gates (x ∷ lanes) none = λ i. same x.over refl (none 0) i ∷ lanes_are_shut gates lanes (λ l. none (suc l)) i
  where
    same : (b : Bool) → x.over ≡ b → ((g : Gift) → x.over ≡ true → IsAmong x.gifts g → IsAmong gates g.gate → ⊥) → shut_txn gates x ≡ x
    same true over off =
        (λ i. record x { gifts = if over i then gifts_left gates x.gifts else x.gifts })
        ∙ (λ i. record x { gifts = gifts_stay gates x.gifts (λ g m. off g over m) i })
    same false runs off = λ i. record x { gifts = if runs i then gifts_left gates x.gifts else x.gifts }
