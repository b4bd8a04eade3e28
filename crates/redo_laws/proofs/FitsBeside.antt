-- Where another lane's record is settled, and its commit joins, what is under way elsewhere fits as it did.
use Rattle.std.proofs.Common.{◌≡◌, ◌≢◌, inl, inr, ℕ, ◌+◌, ◌≤◌, Bool, if◌then◌else◌, List, length, take, refl, sym, ap, ◌∙◌, subst, arith}
use Rattle.std.proofs.lemmas.Bool.Decides.{eqb_tells}
use Rattle.persist_model.specs.Region.{Words}
use Rattle.persist_model.specs.Progress.{latest}
use Rattle.persist_model.specs.Kinds.{CHECKPOINT}
use Rattle.persist_model.specs.Records.{Record, Log, IsAmong, IsOf, NamesWord}
use Rattle.persist_model.specs.Need.{has_of, need_in}
use Rattle.persist_model.specs.Shape.{Shape, part_of}
use Rattle.persist_model.specs.State.{State}
use Rattle.log_laws.specs.Recovering.{with_heap}
use Rattle.log_laws.specs.MoveRoom.{HasCells, HasItsCells}
use Rattle.log_laws.proofs.Needs.{has_of_true}
use Rattle.plan_records.specs.Passing.{inserted, Passes}
use Rattle.plan_records.specs.Appends.{with_record}
use Rattle.plan_records.specs.Courses.{own_records}
use Rattle.plan_records.proofs.Passing.{inserted_in, inserted_out}
use Rattle.log_keeper.specs.Parts.{CanRun}
use Rattle.history_laws.specs.UnderWay.{Added, an_update, a_deletion, a_rollback, a_compensation, an_undone_end, a_commit_end, Adding, record_of_adding, UnderWay, nothing, appends, closes, takes_back, drops, run_of}
use Rattle.history_laws.proofs.Owning.{of_cases, need_passing}
use Rattle.history_laws.proofs.Conditions.{added_plain}
use Rattle.txn_laws.specs.Txns.{Txn}
use Rattle.txn_laws.specs.Owners.{IsMine}
use Rattle.txn_laws.specs.NextRecords.{ComesNext}
use Rattle.txn_laws.specs.PartsOf.{Fits}
use Rattle.txn_laws.proofs.Moments.{record_by}
use Rattle.txn_laws.proofs.SameRecords.{back, forth}

has_same : (t : ℕ) (log later : Log) → own_records t later ≡ own_records t log → has_of t later ≡ has_of t log
has_same t log later same = elim (of_cases t later) [
  | inl k ↦ k.0 ∙ sym (has_of_true t log (k.1.0, back t log later same k.1.0 k.1.1 k.1.2, k.1.2))
  | inr k ↦ elim (of_cases t log) [
    | inl j ↦ (let on = has_of_true t later (j.1.0, forth t log later same j.1.0 j.1.1 j.1.2, j.1.2) in on ∙ sym j.0)
    | inr j ↦ k ∙ sym j
  ]
]

-- ---- r comes into the log in the partition p; z's record is under way in q

module _ (shape : Shape) (p q : ℕ) (base words : Words) (s : State) (chain : List ℕ) (h later : Words) (r : Record) (z : Txn) (spare : need_in (part_of shape) 0 (inserted r s.log) + 1 ≤ (with_record p s r).room 0) (ne : q ≢ p) (passes : Passes s.log r)
    (inside : (y : Record) → IsAmong s.log y → IsOf r.transaction y → part_of shape y.at ≡ part_of shape r.at) (here : part_of shape r.at ≡ p)
    (own_is : own_records z.number (inserted r s.log) ≡ own_records z.number s.log) (other : IsOf z.number r → ⊥) (same : (a : ℕ) → IsMine z a → later a ≡ h a) where
  abbrev behind : State
  behind = with_heap (with_record p s r) words

  room_is : behind.room q ≡ s.room q
  room_is = elim (eqb_tells q p) [ inl e ↦ absurd (ne e.1) | inr off ↦ (rw off.0 refl) ]

  cells_same : (y : Record) (n : ℕ) → part_of shape y.at ≡ q → HasCells shape s y n → HasCells shape behind y n
  cells_same y n at_q cells = record {
    here = (
        let need : need_in (part_of shape) (part_of shape y.at) (inserted r s.log) ≡ need_in (part_of shape) (part_of shape y.at) s.log =
        need_passing (part_of shape) (part_of shape y.at) r s.log passes inside (λ e. ne (sym at_q ∙ e ∙ here)) in
        let room : behind.room (part_of shape y.at) ≡ s.room (part_of shape y.at) = subst (λ k. behind.room k ≡ s.room k) (sym at_q) room_is in
        let enough = cells.here in omega (arith, need, room, enough));
    checkpoint_here = λ two first. (
        let need : need_in (part_of shape) (part_of shape y.at) (inserted r s.log) ≡ need_in (part_of shape) (part_of shape y.at) s.log =
        need_passing (part_of shape) (part_of shape y.at) r s.log passes inside (λ e. ne (sym at_q ∙ e ∙ here)) in
        let room : behind.room (part_of shape y.at) ≡ s.room (part_of shape y.at) = subst (λ k. behind.room k ≡ s.room k) (sym at_q) room_is in
        let enough = cells.checkpoint_here two first in omega (arith, need, room, enough));
    checkpoint_elsewhere = λ two other. spare;
  }

  its_same : (y : Record) (n : ℕ) → part_of shape y.at ≡ q → HasItsCells shape s y n → HasItsCells shape behind y n
  its_same y n at_q (inl some) = inl (some.0, inserted_in r s.log some.0 (inr some.1), some.2)
  its_same y n at_q (inr cells) = inr (cells_same y n at_q cells)

  comes_same : (adding : Adding) (added : Added) → let y = record_by adding added in y.transaction ≡ z.number → (NamesWord y → IsMine z y.word) → part_of shape y.at ≡ q →
      ComesNext shape s h z y added → ComesNext shape behind later z y added
  comes_same adding (an_update u) of own at_q n = record {
    no_root = n.no_root;
    of_write = record {
      of_write = n.of_write.of_write;
      before = n.of_write.before ∙ ap (latest (take (length z.updates) z.writes) u.word) (sym (same u.word (own (inl (inl refl)))));
    };
    point_is = n.point_is;
    unrolled = n.unrolled;
    cells = cells_same (record_by adding (an_update u)) _ at_q
        (subst (λ (b : Bool). HasCells shape s (record_by adding (an_update u)) (if b then 2 else 4)) (sym (has_there u.transaction of)) n.cells);
  }
    where
      has_there : (t : ℕ) → t ≡ z.number → has_of t (inserted r s.log) ≡ has_of t s.log
      has_there t e = has_same t s.log (inserted r s.log) (subst (λ k. own_records k (inserted r s.log) ≡ own_records k s.log) (sym e) own_is)
  comes_same adding (a_deletion g) of own at_q n = record {
    plain = n.plain;
    unrolled = n.unrolled;
    cells = cells_same (record_by adding (a_deletion g)) _ at_q
        (subst (λ (b : Bool). HasCells shape s (record_by adding (a_deletion g)) (if b then 1 else 3)) (sym (has_there g.transaction of)) n.cells);
  }
    where
      has_there : (t : ℕ) → t ≡ z.number → has_of t (inserted r s.log) ≡ has_of t s.log
      has_there t e = has_same t s.log (inserted r s.log) (subst (λ k. own_records k (inserted r s.log) ≡ own_records k s.log) (sym e) own_is)
  comes_same adding (a_rollback t) of own at_q n = (n.0, its_same (record_by adding (a_rollback t)) 2 at_q n.1)
  comes_same adding (a_compensation u cell) of own at_q n = n
  comes_same adding (an_undone_end t) of own at_q n =
      (n.0, record { commits_is = n.1.commits_is; fenced_is = n.1.fenced_is; stored_is = n.1.stored_is; cells = its_same (record_by adding (an_undone_end t)) 1 at_q n.1.cells })
  comes_same adding (a_commit_end t) of own at_q n =
      (n.0, record { commits_is = n.1.commits_is; fenced_is = n.1.fenced_is; stored_is = n.1.stored_is; cells = its_same (record_by adding (a_commit_end t)) 1 at_q n.1.cells })

  -- the records of the two may pass one another
  module _ (plain : r.kind ≢ CHECKPOINT) where
    passes_same : (y : Record) → y.kind ≢ CHECKPOINT → y.transaction ≡ z.number → r.lsn ≢ y.lsn → (NamesWord y → NamesWord r → r.word ≢ y.word) → Passes s.log y → Passes (inserted r s.log) y
    passes_same y no_checkpoint of differ words_apart before = record {
      fresh = λ k m. elim (inserted_out r s.log k m) [ inl e ↦ (λ same_number. differ (sym (ap (λ (n : Record). n.lsn) e) ∙ same_number)) | inr there ↦ before.fresh k there ];
      newer = λ k m lt. elim (inserted_out r s.log k m) [
        | inl e ↦ record {
          other = λ o. other (subst (λ n. IsOf n r) of (subst (IsOf y.transaction) e o));
          no_checkpoint = λ five. plain (sym (ap (λ (n : Record). n.kind) e) ∙ five);
          word = λ ny nk word. words_apart ny (subst NamesWord e nk) (sym (ap (λ (n : Record). n.word) e) ∙ word);
        }
        | inr there ↦ before.newer k there lt
      ];
      checkpoint = λ five. absurd (no_checkpoint five);
    }

    pub fits_same : (u : UnderWay) → CanRun shape q base s chain (run_of u).part → ((adding : Adding) (made : ℕ) → u ≡ appends adding made → (part_of shape (record_of_adding adding).at ≡ q) ×
        (r.lsn ≢ (record_of_adding adding).lsn) × (NamesWord (record_of_adding adding) → NamesWord r → r.word ≢ (record_of_adding adding).word)) →
        Fits shape s h q z u → Fits shape behind later q z u
    fits_same nothing can facts fits = tt
    fits_same (appends adding made) can facts fits = record {
      number = fits.number;
      of = fits.of;
      here = fits.here;
      runs = fits.runs;
      passes = passes_same (record_of_adding adding) (added_plain adding) fits.of (facts adding made refl).1 (facts adding made refl).2 fits.passes;
      own = fits.own;
      next = comes_same adding adding.added fits.of fits.own (facts adding made refl).0 fits.next;
      ended_is = fits.ended_is;
    }
    fits_same (closes gates ends made) can facts fits = record {
      number = fits.number;
      here = fits.here;
      is_over = fits.is_over;
      zeroed_all = fits.zeroed_all;
      fenced_all = fits.fenced_all;
      own = λ k m on. elim (inserted_out r s.log k m) [
        | inl e ↦ absurd (ne (sym (can.1 k.at on) ∙ ap (λ (n : Record). part_of shape n.at) e ∙ here))
        | inr there ↦ fits.own k there on
      ];
      first = λ none k m of unended. elim (inserted_out r s.log k m) [ inl e ↦ absurd (other (subst (IsOf z.number) e of)) | inr there ↦ fits.first none k there of unended ];
      rest = λ e m on end k mk of. elim (inserted_out r s.log e m) [
        | inl is ↦ absurd (ne (sym (can.1 e.at on) ∙ ap (λ (n : Record). part_of shape n.at) is ∙ here))
        | inr there ↦ (elim (inserted_out r s.log k mk) [ inl is ↦ absurd (other (subst (IsOf z.number) is of)) | inr among ↦ fits.rest e there on end k among of ])
      ];
    }
    fits_same (takes_back gates made) can facts fits = record {
      number = fits.number;
      here = fits.here;
      runs = fits.runs;
      unended = fits.unended;
      own = λ k m on. elim (inserted_out r s.log k m) [
        | inl e ↦ absurd (ne (sym (can.1 k.at on) ∙ ap (λ (n : Record). part_of shape n.at) e ∙ here))
        | inr there ↦ fits.own k there on
      ];
    }
    fits_same (drops d made) can facts fits = tt
