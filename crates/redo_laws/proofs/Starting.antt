-- Where a world begins.
use Rattle.std.proofs.Common.{◌≡◌, inr, ℕ, zero, suc, ◌+◌, ◌<◌, ◌≤◌, true, false, [], refl, sym, ap, ◌∙◌, subst, arith}
use Rattle.persist_model.specs.Region.{Words, IsCandidate}
use Rattle.persist_model.specs.Records.{IsAmong}
use Rattle.persist_model.specs.Standing.{Stands, kept}
use Rattle.persist_model.specs.Shape.{Shape, part_of, heap, heap_words, words_of_shape, IsHeapWord}
use Rattle.persist_model.proofs.Images.{settled_is}
use Rattle.plan_records.proofs.Changes.{heap_word_is}
use Rattle.log_keeper.proofs.Starts.{starts_ordered, keepers_start}
use Rattle.txn_laws.specs.Txns.{Txn, idle, txn_at, idle_lanes}
use Rattle.txn_laws.specs.Owners.{IsMine}
use Rattle.txn_laws.specs.AreTransactions.{IsTransaction}
use Rattle.persist_model.specs.Need.{need_in}
use Rattle.redo_laws.specs.Laws.{WorldsStart}
use Rattle.txn_laws.proofs.Finding.{idle_none, now_nobodys, some_candidate}

idle_at : (n l : ℕ) → txn_at (idle_lanes n) l ≡ idle
idle_at zero l = refl
idle_at (suc n) zero = refl
idle_at (suc n) (suc l) = idle_at n l

none_mine : (n l a : ℕ) → IsMine (txn_at (idle_lanes n) l) a → ⊥
none_mine n l a m = idle_none a (subst (λ x. IsMine x a) (idle_at n l) m)

idle_told : (shape : Shape) (h : Words) → IsTransaction shape [] h idle
idle_told shape h = record {
  in_part = λ r m. absurd m;
  going = λ runs. record {
    running = λ r m. absurd m;
    to_undo_is = refl;
    point_is = refl;
    rolled_is = λ unrolled r m. absurd m;
    rolled_has = λ rolled. (let f : false ≡ true = rolled in cc);
    updates_are = tt;
    changed = λ a r last. absurd last.among;
    unchanged = λ a none u. refl;
    covered = λ v m. absurd m;
    unzeroed = refl;
    writes_own = λ v m. absurd m;
  };
  ended = λ over. record { has_end = λ some. absurd some.1; committed = λ commits some. absurd some.1; commits_is = λ c. absurd c.1 };
  deletions = λ a r m. absurd m;
  given = λ g m. absurd m;
  gifts_own = λ g m. absurd m;
  names = λ r m. absurd m;
}

pub worlds_start : WorldsStart
worlds_start shape base s chains lanes next region no_force cell numbers finished = record {
  no_force = no_force;
  log = record {
    of_shape = finished.of_shape;
    header = finished.header;
    logged = keepers_start.logged shape base s chains [] region size finished.allowed finished.has finished.no_record finished.rest (λ a lt v m. settled a (omega (arith, lt, size, inside)) v m);
    sound = finished.sound;
    ordered = starts_ordered next [] tt;
    fits = keepers_start.fits shape [];
    numbers = numbers;
  };
  spare = subst (λ log. need_in (part_of shape) 0 log + 1 ≤ s.room 0) (sym finished.no_record) cell;
  owners = record { heap_words = λ l a m. absurd (none_mine lanes l a m); apart = λ l k a m. absurd (none_mine lanes l a m) };
  transactions = record {
    each = λ l. subst (λ log. IsTransaction shape log (heap_words shape base) (txn_at (idle_lanes lanes) l)) (sym finished.no_record)
        (subst (IsTransaction shape [] (heap_words shape base)) (sym (idle_at lanes l)) (idle_told shape (heap_words shape base)));
    known = λ r m plain. absurd (subst (λ log. IsAmong log r) finished.no_record m);
    apart = λ l k one. absurd (no_number l one);
    barred = λ r l a m. absurd (subst (λ log. IsAmong log r) finished.no_record m);
  };
  heap = record {
    full = λ a m. some_candidate (region.at a) (base a) (finished.words a (within a m));
    now = λ a m none. sym (settled_is (region.at a) (base a) (finished.settled a (within a m)) (finished.words a (within a m))) ∙ sym (heap_word_is shape base a m)
        ∙ sym (now_nobodys (idle_lanes lanes) (heap_words shape base) a (λ l. none_mine lanes l a));
  };
  stands = λ a u m is. subst (λ log. Stands shape.policy log (λ b. u) a (heap_words shape base a)) (sym finished.no_record)
      (kept (λ r k. absurd k) (λ r k. absurd k) (λ r k. absurd k) (heap_word_is shape base a m ∙ sym (settled a (within a m) u is)));
  stage = record {
    told = λ a m. inr (λ v is. settled_is (region.at a) v (finished.settled a (within a m)) is);
    unmarked = λ r m. absurd (subst (λ log. IsAmong log r) finished.no_record m);
    parts = λ p lt. record { run = refl; fits = tt };
    no_closing = λ p lt. tt;
  };
}
  where
    size : region.size ≡ words_of_shape shape
    size = finished.header.long ∙ ap words_of_shape finished.of_shape

    inside : heap shape ≤ words_of_shape shape
    inside = omega arith

    within : (a : ℕ) → IsHeapWord shape a → a < region.size
    within a m = let lt = m.1 in omega (arith, lt, size)

    settled : (a : ℕ) → a < region.size → (v : ℕ) → IsCandidate (region.at a) v → v ≡ base a
    settled a lt v m = settled_is (region.at a) v (finished.settled a lt) m ∙ sym (settled_is (region.at a) (base a) (finished.settled a lt) (finished.words a lt))

    no_number : (l : ℕ) → 1 ≤ (txn_at (idle_lanes lanes) l).number → ⊥
    no_number l one = let e : (txn_at (idle_lanes lanes) l).number ≡ 0 = ap (λ (x : Txn). x.number) (idle_at lanes l) in omega (arith, one, e)
