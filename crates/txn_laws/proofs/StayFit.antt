-- What is under way fits on where the log loses records of others.
use Rattle.std.proofs.Common.{◌≡◌, ◌≢◌, inl, inr, ℕ, zero, suc, ◌<◌, ◌≤◌, Bool, true, false, if◌then◌else◌, List, [], ◌∷◌, length, sym, ◌∙◌, subst, arith}
use Rattle.persist_model.specs.Region.{Words}
use Rattle.persist_model.specs.Records.{Record, IsAmong}
use Rattle.persist_model.specs.Need.{has_of, need_in}
use Rattle.persist_model.specs.Shape.{Shape, part_of}
use Rattle.persist_model.specs.State.{State}
use Rattle.log_laws.specs.MoveRoom.{HasCells, HasItsCells}
use Rattle.log_laws.proofs.Needs.{has_of_true}
use Rattle.plan_records.specs.Courses.{own_records}
use Rattle.log_keeper.specs.Parts.{waits_for}
use Rattle.history_laws.specs.UnderWay.{Added, an_update, a_deletion, a_rollback, a_compensation, an_undone_end, a_commit_end, Adding, record_of_adding, UnderWay, nothing, appends, closes, takes_back, drops, run_of}
use Rattle.history_laws.proofs.Owning.{of_cases}
use Rattle.txn_laws.specs.Txns.{Txn, txn_at, with_txn}
use Rattle.txn_laws.specs.NextRecords.{IsNextEnd, ComesNext, IsAppendOf}
use Rattle.txn_laws.specs.PartsOf.{IsClosingOf, IsTakingBackOf, Fits}
use Rattle.txn_laws.proofs.SameRecords.{back, forth}
use Rattle.txn_laws.proofs.Lanes.{with_other}

-- Beside a transaction's own records the later log has no record more; it needs no more, and has no less room.
pub record KeepsFor (shape : Shape) (s y : State) (t : ℕ) : Type 0 where
  pub own : own_records t y.log ≡ own_records t s.log
  pub among : (r : Record) → IsAmong y.log r → IsAmong s.log r
  pub need : (p : ℕ) → need_in (part_of shape) p y.log ≤ need_in (part_of shape) p s.log
  pub room : (p : ℕ) → s.room p ≤ y.room p

module _ (shape : Shape) (s y : State) where
  cells_stay : (t : ℕ) (r : Record) (n : ℕ) → KeepsFor shape s y t → HasCells shape s r n → HasCells shape y r n
  cells_stay t r n keeps h = record {
    here = (let a = keeps.need (part_of shape r.at) in let b = keeps.room (part_of shape r.at) in let c = h.here in omega (arith, a, b, c));
    checkpoint_here = λ two zero_part. (
        let a = keeps.need (part_of shape r.at) in let b = keeps.room (part_of shape r.at) in let c = h.checkpoint_here two zero_part in omega (arith, a, b, c));
    checkpoint_elsewhere = λ two other. (let a = keeps.need 0 in let b = keeps.room 0 in let c = h.checkpoint_elsewhere two other in omega (arith, a, b, c));
  }

  has_same : (t : ℕ) → KeepsFor shape s y t → has_of t y.log ≡ has_of t s.log
  has_same t keeps = elim (of_cases t y.log) [
    | inl h ↦ (let k = h.1 in h.0 ∙ sym (has_of_true t s.log (k.0, back t s.log y.log keeps.own k.0 k.1 k.2, k.2)))
    | inr off ↦ elim (of_cases t s.log) [
      | inl h ↦ (let k = h.1 in let on = has_of_true t y.log (k.0, forth t s.log y.log keeps.own k.0 k.1 k.2, k.2) in absurd (cc))
      | inr none ↦ off ∙ sym none
    ]
  ]

  its_cells_stay : (r : Record) (n : ℕ) → KeepsFor shape s y r.transaction → HasItsCells shape s r n → HasItsCells shape y r n
  its_cells_stay r n keeps (inl k) = inl (k.0, forth r.transaction s.log y.log keeps.own k.0 k.1 k.2, k.2)
  its_cells_stay r n keeps (inr h) = inr (cells_stay r.transaction r n keeps h)

  end_stays : (x : Txn) (r : Record) (commits : Bool) → KeepsFor shape s y r.transaction → IsNextEnd shape s x r commits → IsNextEnd shape y x r commits
  end_stays x r commits keeps is =
      record { commits_is = is.commits_is; fenced_is = is.fenced_is; stored_is = is.stored_is; cells = its_cells_stay r 1 keeps is.cells }

  next_stays : (h : Words) (x : Txn) (r : Record) (added : Added) → KeepsFor shape s y r.transaction → ComesNext shape s h x r added → ComesNext shape y h x r added
  next_stays h x r (an_update u) keeps is = record {
    no_root = is.no_root;
    of_write = is.of_write;
    point_is = is.point_is;
    unrolled = is.unrolled;
    cells = subst (λ b. HasCells shape y r (if b then 2 else 4)) (sym (has_same r.transaction keeps)) (cells_stay r.transaction r _ keeps is.cells);
  }
  next_stays h x r (a_deletion g) keeps is = record {
    plain = is.plain;
    unrolled = is.unrolled;
    cells = subst (λ b. HasCells shape y r (if b then 1 else 3)) (sym (has_same r.transaction keeps)) (cells_stay r.transaction r _ keeps is.cells);
  }
  next_stays h x r (a_rollback t) keeps is = (is.0, its_cells_stay r 2 keeps is.1)
  next_stays h x r (a_compensation u cell) keeps is = is
  next_stays h x r (an_undone_end t) keeps is = (is.0, end_stays x r false keeps is.1)
  next_stays h x r (a_commit_end t) keeps is = (is.0, end_stays x r true keeps is.1)

  append_stays : (h : Words) (p : ℕ) (x : Txn) (adding : Adding) (made : ℕ) → KeepsFor shape s y x.number → IsAppendOf shape s h p x adding made → IsAppendOf shape y h p x adding made
  append_stays h p x adding made keeps is = record {
    number = is.number;
    of = is.of;
    here = is.here;
    runs = is.runs;
    passes = record {
      fresh = λ r m. is.passes.fresh r (keeps.among r m);
      newer = λ r m. is.passes.newer r (keeps.among r m);
      checkpoint = λ five r m. is.passes.checkpoint five r (keeps.among r m);
    };
    own = is.own;
    next = next_stays h x (record_of_adding adding) adding.added (subst (KeepsFor shape s y) (sym is.of) keeps) is.next;
    ended_is = is.ended_is;
  }

  pub fits_stay : (h : Words) (p : ℕ) (x : Txn) (u : UnderWay) → KeepsFor shape s y x.number → Fits shape s h p x u → Fits shape y h p x u
  fits_stay h p x nothing keeps is = tt
  fits_stay h p x (appends adding made) keeps is = append_stays h p x adding made keeps is
  fits_stay h p x (closes gates ends made) keeps is = record {
    number = is.number;
    here = is.here;
    is_over = is.is_over;
    zeroed_all = is.zeroed_all;
    fenced_all = is.fenced_all;
    own = λ r m. is.own r (keeps.among r m);
    first = λ none r m. is.first none r (keeps.among r m);
    rest = λ e m on end r k. is.rest e (keeps.among e m) on end r (keeps.among r k);
  }
  fits_stay h p x (takes_back gates made) keeps is = record { number = is.number; here = is.here; runs = is.runs; unended = is.unended; own = λ d m. is.own d (keeps.among d m) }
  fits_stay h p x (drops r made) keeps is = tt

  -- what is under way elsewhere, where lane l's transaction becomes another
  module _ (h : Words) (l : ℕ) (z : Txn) (lanes : List Txn) (keeps : (j : ℕ) → j ≢ l → KeepsFor shape s y (txn_at lanes j).number) where
    pub others_fit : (q j : ℕ) (u : UnderWay) → waits_for (run_of u).part j ≢ l → Fits shape s h q (txn_at lanes j) u → Fits shape y h q (txn_at (with_txn l z lanes) j) u
    others_fit q j nothing alone is = tt
    others_fit q j (appends adding n) alone is = subst (λ v. IsAppendOf shape y h q v adding n) (sym (with_other l j z lanes alone)) (fits_stay h q (txn_at lanes j) (appends adding n) (keeps j alone) is)
    others_fit q j (closes gates ends n) alone is = subst (λ v. IsClosingOf y.log q v gates ends) (sym (with_other l j z lanes alone)) (fits_stay h q (txn_at lanes j) (closes gates ends n) (keeps j alone) is)
    others_fit q j (takes_back gates n) alone is = subst (λ v. IsTakingBackOf y.log q v gates) (sym (with_other l j z lanes alone)) (fits_stay h q (txn_at lanes j) (takes_back gates n) (keeps j alone) is)
    others_fit q j (drops r n) alone is = tt

-- a lane with a number is one of them
pub some_lane : (l : ℕ) (lanes : List Txn) → 1 ≤ (txn_at lanes l).number → l < length lanes
some_lane l [] one = absurd (omega (arith, one))
some_lane zero (x ∷ lanes) one = omega arith
some_lane (suc l) (x ∷ lanes) one = let lt = some_lane l lanes one in omega (arith, lt)
