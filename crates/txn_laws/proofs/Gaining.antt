-- What the log has of a transaction that gains a record.
use Rattle.std.proofs.Common.{◌≡◌, ◌≢◌, ◌⊎◌, inl, inr, ℕ, ◌<◌, ◌==◌, ◌&&◌, Bool, true, false, List, [], ◌∷◌, ◌++◌, length, take, refl, sym, ap, ◌∙◌, subst, arith}
use Rattle.std.proofs.lemmas.Bool.Decides.{eqb_tells}
use Rattle.persist_model.specs.Region.{Words}
use Rattle.persist_model.specs.Kinds.{CHECKPOINT, COMMITTED, COMPENSATION, DELETION, END, ROLLBACK, UPDATE}
use Rattle.persist_model.specs.Progress.{Write, write, latest}
use Rattle.persist_model.specs.Records.{Record, Log, IsAmong, Has, HasNo, IsOf, IsUpdate, IsRollback, IsChange, NamesWord, IsRunning}
use Rattle.persist_model.specs.Standing.{IsLatest}
use Rattle.persist_model.specs.Order.{is_kind_of, undo_point, Bars}
use Rattle.persist_model.specs.Need.{to_undo, rest}
use Rattle.persist_model.specs.Shape.{Shape, part_of}
use Rattle.persist_model.proofs.Running.{take_one_more}
use Rattle.persist_model.proofs.Tracking.{latest-pushed, latest-push_other}
use Rattle.log_laws.specs.Moves.{IsDeletionBy, IsChangeBy}
use Rattle.txn_laws.specs.Txns.{Gift, Txn}
use Rattle.txn_laws.specs.Owners.{IsMine}
use Rattle.txn_laws.specs.AreTransactions.{IsUpdateAt, AreUpdatesOf, recorded, IsGoing, IsTransaction}

kind_yes : (t k : ℕ) (r : Record) → r.transaction ≡ t → r.kind ≡ k → is_kind_of t k r ≡ true
kind_yes t k r of kind = elim (eqb_tells r.transaction t) [
  | inl e ↦ elim (eqb_tells r.kind k) [ inl f ↦ (rw (e.0, f.0) refl) | inr ne ↦ absurd (ne.1 kind) ]
  | inr ne ↦ absurd (ne.1 of)
]

kind_no : (t k : ℕ) (r : Record) → r.kind ≢ k → is_kind_of t k r ≡ false
kind_no t k r ne = by (r.transaction == t)
  where
    off : (r.kind == k) ≡ false
    off = elim (eqb_tells r.kind k) [ inl e ↦ absurd (ne e.1) | inr e ↦ e.0 ]

    by : (b : Bool) → (b && (r.kind == k)) ≡ false
    by true = off
    by false = refl

-- ---- a list with one more at its end

among_end : {A : Type 0} (xs : List A) (y : A) → IsAmong (xs ++ y ∷ []) y
among_end [] y = inl refl
among_end (x ∷ xs) y = inr (among_end xs y)

among_before : {A : Type 0} (xs : List A) (y x : A) → IsAmong xs x → IsAmong (xs ++ y ∷ []) x
among_before [] y x m = absurd m
among_before (z ∷ xs) y x (inl e) = inl e
among_before (z ∷ xs) y x (inr m) = inr (among_before xs y x m)

among_either : {A : Type 0} (xs : List A) (y x : A) → IsAmong (xs ++ y ∷ []) x → IsAmong xs x ⊎ (x ≡ y)
among_either [] y x (inl e) = inr e
among_either [] y x (inr m) = absurd m
among_either (z ∷ xs) y x (inl e) = inl (inl e)
among_either (z ∷ xs) y x (inr m) = elim (among_either xs y x m) [ inl k ↦ inl (inr k) | inr e ↦ inr e ]

module _ (shape : Shape) (log : Log) (h : Words) (x : Txn) (r : Record) (t : IsTransaction shape log h x) (runs : x.over ≡ false) (of : r.transaction ≡ x.number) (plain : r.kind ≢ CHECKPOINT)
    (there : part_of shape r.at ≡ x.part) (above : (q : Record) → IsAmong log q → IsOf x.number q → q.lsn < r.lsn) (own : NamesWord r → IsMine x r.word) where
  going : IsGoing log h x
  going = t.going runs

  in_part_more : (q : Record) → IsAmong (r ∷ log) q → IsOf x.number q → part_of shape q.at ≡ x.part
  in_part_more q (inl e) o = ap (λ (z : Record). part_of shape z.at) e ∙ there
  in_part_more q (inr m) o = t.in_part q m o

  running_more : r.kind ≢ END → IsRunning (r ∷ log) x.number
  running_more no_end q (inl e) end = no_end (sym (ap (λ (z : Record). z.kind) e) ∙ end.0)
  running_more no_end q (inr m) end = going.running q m end

  names_more : (q : Record) → IsAmong (r ∷ log) q → IsOf x.number q → Bars (r ∷ log) q → IsMine x q.word
  names_more q (inl e) o bars = subst (λ (z : Record). IsMine x z.word) (sym e) (own (subst NamesWord e (named bars)))
    where
      named : Bars (r ∷ log) q → NamesWord q
      named (inl k) = k.0
      named (inr k) = inr k.0
  names_more q (inr m) o bars = t.names q m o (inl (named bars, subst (IsRunning log) (sym o.0) going.running))
    where
      named : Bars (r ∷ log) q → NamesWord q
      named (inl k) = k.0
      named (inr k) = inr k.0

  given_more : (g : Gift) → IsAmong x.gifts g → Has (λ d. IsDeletionBy x.number g.word d × (d.at ≡ g.gate)) (r ∷ log)
  given_more g m = let d = t.given g m in (d.0, inr d.1, d.2)

  deletions_more : r.kind ≢ DELETION → (a : ℕ) (q : Record) → IsAmong (r ∷ log) q → IsDeletionBy x.number a q → (g : Gift) × IsAmong x.gifts g × (g.word ≡ a) × (g.gate ≡ q.at)
  deletions_more off a q (inl e) d = absurd (off (sym (ap (λ (z : Record). z.kind) e) ∙ d.0))
  deletions_more off a q (inr m) d = t.deletions a q m d

  covered_more : (v : Write) → IsAmong (take x.stored x.writes) v → Has (λ q. IsUpdate q × (q.word ≡ v.address) × (q.transaction ≡ x.number)) (r ∷ log)
  covered_more v m = let u = going.covered v m in (u.0, inr u.1, u.2)

  unrolled_more : r.kind ≢ ROLLBACK → x.rolled ≡ false → HasNo (λ q. IsOf x.number q × IsRollback q) (r ∷ log)
  unrolled_more off unrolled q (inl e) k = off (sym (ap (λ (z : Record). z.kind) e) ∙ k.1)
  unrolled_more off unrolled q (inr m) k = going.rolled_is unrolled q m k

  rolled_more : x.rolled ≡ true → Has (λ q. IsOf x.number q × IsRollback q) (r ∷ log)
  rolled_more rolled = let b = going.rolled_has rolled in (b.0, inr b.1, b.2)

  -- the latest change is r, or it is what it was
  latest_cases : (a : ℕ) (q : Record) → IsLatest (IsChangeBy x.number a) (r ∷ log) q → (q ≡ r) ⊎ (IsLatest (IsChangeBy x.number a) log q × (IsChangeBy x.number a r → ⊥))
  latest_cases a q last = by last.among
    where
      by : IsAmong (r ∷ log) q → (q ≡ r) ⊎ (IsLatest (IsChangeBy x.number a) log q × (IsChangeBy x.number a r → ⊥))
      by (inl e) = inl e
      by (inr m) = inr (
        record { among = m; has = last.has; last = λ z k c. last.last z (inr k) c },
        (λ c. (
            let le = last.last r (inl refl) c in
            let lt = above q m (last.has.2, not_checkpoint q last.has.0) in
            omega (arith, le, lt))),
      )
        where
          not_checkpoint : (z : Record) → IsChange z → z.kind ≢ CHECKPOINT
          not_checkpoint z (inl one) = λ five. omega (arith, one, five)
          not_checkpoint z (inr two) = λ five. omega (arith, two, five)

  -- ---- an update

  abbrev updated : Txn
  updated = record x { updates = r ∷ x.updates; point = r.lsn }

  module _ (update : r.kind ≡ UPDATE) (of_write : IsUpdateAt h x.writes (length x.updates) r) where
    grown : recorded updated ≡ recorded x ++ write r.word r.after ∷ []
    grown = take_one_more x.writes (length x.updates) (write r.word r.after) of_write.of_write

    pub updated_told : IsTransaction shape (r ∷ log) h updated
    updated_told = record {
      in_part = in_part_more;
      going = λ on. record {
        running = running_more (λ e. omega (arith, e, update));
        to_undo_is = rw (kind_yes x.number UPDATE r of update) (ap (λ us. r ∷ us) going.to_undo_is);
        point_is = rw (kind_yes x.number UPDATE r of update) refl;
        rolled_is = unrolled_more (λ e. omega (arith, e, update));
        rolled_has = rolled_more;
        updates_are = (of_write, going.updates_are);
        changed = changed_more;
        unchanged = unchanged_more;
        covered = covered_more;
        unzeroed = going.unzeroed;
        writes_own = going.writes_own;
      };
      ended = λ over. (let e = sym runs ∙ over in cc);
      deletions = deletions_more (λ e. omega (arith, e, update));
      given = given_more;
      gifts_own = t.gifts_own;
      names = names_more;
    }
      where
        changed_more : (a : ℕ) (q : Record) → IsLatest (IsChangeBy x.number a) (r ∷ log) q → q.after ≡ latest (recorded updated) a (h a)
        changed_more a q last = elim (latest_cases a q last) [
          | inl e ↦ ap (λ (z : Record). z.after) e ∙ sym (ap (λ ws. latest ws a (h a)) grown
              ∙ subst (λ b. latest (recorded x ++ write r.word r.after ∷ []) b (h b) ≡ r.after) (sym (ap (λ (z : Record). z.word) e) ∙ last.has.1) (latest-pushed (recorded x) r.word r.after (h r.word)))
          | inr k ↦ going.changed a q k.0
              ∙ sym (ap (λ ws. latest ws a (h a)) grown ∙ latest-push_other (recorded x) r.word r.after a (h a) (λ e. k.1 (inl update, e, of)))
        ]

        unchanged_more : (a : ℕ) → HasNo (IsChangeBy x.number a) (r ∷ log) → (u : ℕ) → latest (recorded updated) a u ≡ u
        unchanged_more a none u = ap (λ ws. latest ws a u) grown ∙ latest-push_other (recorded x) r.word r.after a u (λ e. none r (inl refl) (inl update, e, of))
            ∙ going.unchanged a (λ q m c. none q (inr m) c) u

  -- ---- a compensation

  module _ (compensation : r.kind ≡ COMPENSATION) (u : Record) (others : List Record) (newest_is : x.updates ≡ u ∷ others) (word_is : r.word ≡ u.word) (after_is : r.after ≡ u.before) where
    abbrev undone : Txn
    undone = record x { updates = rest x.updates; point = r.undo_next }

    others_are : AreUpdatesOf h x.writes (u ∷ others)
    others_are = subst (AreUpdatesOf h x.writes) newest_is going.updates_are

    left_is : recorded undone ≡ take (length others) x.writes
    left_is = ap (λ us. take (length (rest us)) x.writes) newest_is

    whole : recorded x ≡ take (length others) x.writes ++ write r.word u.after ∷ []
    whole = ap (λ us. take (length us) x.writes) newest_is ∙ take_one_more x.writes (length others) (write u.word u.after) others_are.0.of_write
        ∙ ap (λ a. take (length others) x.writes ++ write a u.after ∷ []) (sym word_is)

    pub undone_told : IsTransaction shape (r ∷ log) h undone
    undone_told = record {
      in_part = in_part_more;
      going = λ on. record {
        running = running_more (λ e. omega (arith, e, compensation));
        to_undo_is = rw (kind_no x.number UPDATE r (λ e. omega (arith, e, compensation)), kind_yes x.number COMPENSATION r of compensation) (ap rest going.to_undo_is);
        point_is = rw (kind_no x.number UPDATE r (λ e. omega (arith, e, compensation)), kind_yes x.number COMPENSATION r of compensation) refl;
        rolled_is = unrolled_more (λ e. omega (arith, e, compensation));
        rolled_has = rolled_more;
        updates_are = subst (λ us. AreUpdatesOf h x.writes (rest us)) (sym newest_is) others_are.1;
        changed = changed_more;
        unchanged = unchanged_more;
        covered = covered_more;
        unzeroed = going.unzeroed;
        writes_own = going.writes_own;
      };
      ended = λ over. (let e = sym runs ∙ over in cc);
      deletions = deletions_more (λ e. omega (arith, e, compensation));
      given = given_more;
      gifts_own = t.gifts_own;
      names = names_more;
    }
      where
        changed_more : (a : ℕ) (q : Record) → IsLatest (IsChangeBy x.number a) (r ∷ log) q → q.after ≡ latest (recorded undone) a (h a)
        changed_more a q last = elim (latest_cases a q last) [
          | inl e ↦ ap (λ (z : Record). z.after) e ∙ after_is ∙ others_are.0.before ∙ sym (ap (λ ws. latest ws a (h a)) left_is
              ∙ ap (λ b. latest (take (length others) x.writes) b (h b)) (sym last.has.1 ∙ ap (λ (z : Record). z.word) e ∙ word_is))
          | inr k ↦ going.changed a q k.0 ∙ ap (λ ws. latest ws a (h a)) whole
              ∙ latest-push_other (take (length others) x.writes) r.word u.after a (h a) (λ e. k.1 (inr compensation, e, of)) ∙ sym (ap (λ ws. latest ws a (h a)) left_is)
        ]

        unchanged_more : (a : ℕ) → HasNo (IsChangeBy x.number a) (r ∷ log) → (v : ℕ) → latest (recorded undone) a v ≡ v
        unchanged_more a none v = ap (λ ws. latest ws a v) left_is
            ∙ sym (latest-push_other (take (length others) x.writes) r.word u.after a v (λ e. none r (inl refl) (inr compensation, e, of)))
            ∙ sym (ap (λ ws. latest ws a v) whole) ∙ going.unchanged a (λ q m c. none q (inr m) c) v

  -- ---- a record that changes no word

  module _ (no_update : r.kind ≢ UPDATE) (no_compensation : r.kind ≢ COMPENSATION) where
    no_change : (a : ℕ) → IsChangeBy x.number a r → ⊥
    no_change a c = elim c.0 [ inl one ↦ no_update one | inr two ↦ no_compensation two ]

    changed_same : (a : ℕ) (q : Record) → IsLatest (IsChangeBy x.number a) (r ∷ log) q → q.after ≡ latest (recorded x) a (h a)
    changed_same a q last = elim (latest_cases a q last) [
      | inl e ↦ absurd (no_change a (subst (IsChangeBy x.number a) e last.has))
      | inr k ↦ going.changed a q k.0
    ]

    to_undo_there : to_undo x.number (r ∷ log) ≡ x.updates
    to_undo_there = rw (kind_no x.number UPDATE r no_update, kind_no x.number COMPENSATION r no_compensation) going.to_undo_is

    point_there : undo_point x.number (r ∷ log) ≡ x.point
    point_there = rw (kind_no x.number UPDATE r no_update, kind_no x.number COMPENSATION r no_compensation) going.point_is

    pub rolled_told : r.kind ≡ ROLLBACK → r.kind ≢ END → r.kind ≢ DELETION → IsTransaction shape (r ∷ log) h (record x { rolled = true })
    rolled_told rollback no_end no_deletion = record {
      in_part = in_part_more;
      going = λ on. record {
        running = running_more no_end;
        to_undo_is = to_undo_there;
        point_is = point_there;
        rolled_is = λ e. cc;
        rolled_has = λ rolled. (r, inl refl, ((of, plain), rollback));
        updates_are = going.updates_are;
        changed = changed_same;
        unchanged = λ a none u. going.unchanged a (λ q m c. none q (inr m) c) u;
        covered = covered_more;
        unzeroed = going.unzeroed;
        writes_own = going.writes_own;
      };
      ended = λ over. (let e = sym runs ∙ over in cc);
      deletions = deletions_more no_deletion;
      given = given_more;
      gifts_own = t.gifts_own;
      names = names_more;
    }

    pub given_told : r.kind ≡ DELETION → IsTransaction shape (r ∷ log) h (record x { gifts = x.gifts ++ record { word = r.word; gate = r.at } ∷ [] })
    given_told deletion = record {
      in_part = in_part_more;
      going = λ on. record {
        running = running_more (λ e. omega (arith, e, deletion));
        to_undo_is = to_undo_there;
        point_is = point_there;
        rolled_is = unrolled_more (λ e. omega (arith, e, deletion));
        rolled_has = rolled_more;
        updates_are = going.updates_are;
        changed = changed_same;
        unchanged = λ a none u. going.unchanged a (λ q m c. none q (inr m) c) u;
        covered = covered_more;
        unzeroed = going.unzeroed;
        writes_own = going.writes_own;
      };
      ended = λ over. (let e = sym runs ∙ over in cc);
      deletions = λ a q m d. elim m [
        | inl e ↦ (record { word = r.word; gate = r.at }, among_end x.gifts (record { word = r.word; gate = r.at }), sym (ap (λ (z : Record). z.word) e) ∙ d.1, sym (ap (λ (z : Record). z.at) e))
        | inr k ↦ (let g = t.deletions a q k d in (g.0, among_before x.gifts (record { word = r.word; gate = r.at }) g.0 g.1, g.2, g.3))
      ];
      given = λ g m. elim (among_either x.gifts (record { word = r.word; gate = r.at }) g m) [
        | inr e ↦ (r, inl refl, ((deletion, sym (ap (λ (z : Gift). z.word) e), of), sym (ap (λ (z : Gift). z.gate) e)))
        | inl k ↦ given_more g k
      ];
      gifts_own = λ g m. elim (among_either x.gifts (record { word = r.word; gate = r.at }) g m) [
        | inr e ↦ subst (λ (z : Gift). IsMine x z.word) (sym e) (own (inr deletion))
        | inl k ↦ t.gifts_own g k
      ];
      names = names_more;
    }

    -- an end; nothing is asked of the history's heap any more
    pub ended_told : (later_heap : Words) → r.kind ≡ END → (x.commits ≡ true → r.outcome ≡ COMMITTED) → (r.outcome ≡ COMMITTED → x.commits ≡ true) → IsTransaction shape (r ∷ log) later_heap (record x { over = true })
    ended_told later_heap end outcome commits_is = record {
      in_part = in_part_more;
      going = λ on. cc;
      ended = λ over. record {
        has_end = λ some. (r, inl refl, (end, of));
        committed = λ commits some. (r, inl refl, ((end, of), outcome commits));
        commits_is = λ c. elim c.1 [
          | inl e ↦ commits_is (sym (ap (λ (z : Record). z.outcome) e) ∙ c.2.1)
          | inr m ↦ absurd (going.running c.0 m c.2.0)
        ];
      };
      deletions = deletions_more (λ e. omega (arith, e, end));
      given = given_more;
      gifts_own = t.gifts_own;
      names = names_more;
    }
