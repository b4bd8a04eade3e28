-- The pass over the records of a transaction, newest first, with a count of the compensations whose updates are still to come.
use Rattle.std.proofs.Common.{◌≡◌, ◌≢◌, ◌⊎◌, inl, inr, ℕ, zero, suc, ◌+◌, ◌≤◌, ◌==◌, Bool, true, false, if◌then◌else◌, [], ◌∷◌, drop, refl, sym, ap, ◌∙◌, subst, arith, add-one}
use Rattle.std.proofs.lemmas.Bool.Decides.{nat_tests}
use Rattle.persist_model.specs.Records.{Record, Log, IsAmong, Has, IsOf, IsUpdate, IsCompensation, IsRollback}
use Rattle.persist_model.specs.Order.{is_kind_of}
use Rattle.persist_model.specs.Shape.{Shape, part_of}
use Rattle.persist_model.specs.Need.{rest, to_undo}
use Rattle.persist_model.specs.State.{State, IsSoundState}
use Rattle.log_laws.specs.Recovery.{IsStored, grown}
use Rattle.log_laws.specs.Recovering.{with_heap}
use Rattle.log_laws.proofs.Keeping.{good_of}
use Rattle.log_laws.proofs.Needs.{kind_test}
use Rattle.log_laws.proofs.Applying.{undone_words, undone_stored}
use Rattle.bucket_log.specs.States.{less_room}
use Rattle.persist_model.proofs.Among.{among_right, among_append}
use Rattle.recovery_run.specs.Groups.{records_of}
use Rattle.recovery_undo.specs.Numbers.{next_lsn}
use Rattle.recovery_run.specs.Reached.{with_value}
use Rattle.recovery_undo.specs.UndoProgress.{IsUndoing, IsPassing}
use Rattle.recovery_undo.specs.Records.{compensation_of, plain_record}
use Rattle.recovery_undo.proofs.RecordsOf.{to_undo-records_of, undone_words-records_of, records_of_are}
use Rattle.recovery_undo.proofs.Noting.{compensated, stored}

-- ---- a stack without its first records

drop_none : (n : ℕ) → drop {A = Record} n [] ≡ []
drop_none zero = refl
drop_none (suc n) = refl

rest_drop : (n : ℕ) (stack : Log) → rest (drop n stack) ≡ drop (n + 1) stack
rest_drop n stack = rw add-one (each n stack)
  where
    each : (n : ℕ) (stack : Log) → rest (drop n stack) ≡ drop (suc n) stack
    each zero [] = refl
    each (suc n) [] = refl
    each zero (r ∷ stack) = refl
    each (suc n) (r ∷ stack) = each n stack

drop_rest : (n : ℕ) (stack : Log) → drop n (rest stack) ≡ drop (n + 1) stack
drop_rest n stack = rw add-one (each n stack)
  where
    each : (n : ℕ) (stack : Log) → drop n (rest stack) ≡ drop (suc n) stack
    each zero [] = refl
    each (suc n) [] = refl
    each n (r ∷ stack) = refl

drop_next : (n : ℕ) (r : Record) (stack : Log) → drop (n + 1) (r ∷ stack) ≡ drop n stack
drop_next n r stack = rw add-one refl

-- ---- the pass

pub pass_begins : (shape : Shape) (t part : ℕ) (y z : State) → IsUndoing shape t part y z → Has (λ x. IsOf t x × IsRollback x) z.log → z.words ≡ y.words →
    to_undo t z.log ≡ to_undo t y.log → IsPassing shape t part y z (records_of t y.log) 0
pass_begins shape t part y z h rolled same stack = record {
  undoing = h;
  rolled = rolled;
  among = λ u m. records_of_are t y.log u m;
  left_is = stack ∙ sym (to_undo-records_of t y.log);
  words = undone_words-records_of t y.log z.words ∙ ap (undone_words t y.log) same;
}

pub rolled_stack : (t at lsn : ℕ) (log : Log) → to_undo t (plain_record at lsn t 3 0 ∷ log) ≡ to_undo t log
rolled_stack t at lsn log =
    let r = plain_record at lsn t 3 0 in
    let one : is_kind_of t 1 r ≡ false = kind_test t 1 r refl 3 refl in
    let two : is_kind_of t 2 r ≡ false = kind_test t 2 r refl 3 refl in
    by_tests (is_kind_of t 1 r) (is_kind_of t 2 r) one two
  where
    by_tests : (a b : Bool) → a ≡ false → b ≡ false → (if a then plain_record at lsn t 3 0 ∷ to_undo t log else (if b then rest (to_undo t log) else to_undo t log)) ≡ to_undo t log
    by_tests false false e f = refl
    by_tests true b e f = cc
    by_tests false true e f = cc

module _ (shape : Shape) (t part : ℕ) (y z : State) (r : Record) (left : Log) where
  abbrev owner : (counter : ℕ) → IsPassing shape t part y z (r ∷ left) counter → r.transaction ≡ t
  owner counter h = (h.among r (inl refl)).1.0

  pub passed_among : (counter : ℕ) → IsPassing shape t part y z (r ∷ left) counter → IsAmong z.log r
  passed_among counter h = subst (λ l. IsAmong l r) (sym h.undoing.log) (among_right h.undoing.news y.log r (h.among r (inl refl)).0)

  test_of : (k j : ℕ) (b : Bool) → r.transaction ≡ t → r.kind ≡ j → (j == k) ≡ b → is_kind_of t k r ≡ b
  test_of k j b own is test = kind_test t k r own j is ∙ test

  test_not : (k : ℕ) → r.transaction ≡ t → r.kind ≢ k → is_kind_of t k r ≡ false
  test_not k own ne = kind_test t k r own r.kind refl ∙ (let off : (r.kind == k) ≡ false = grind (arith, nat_tests, ne) in off)

  -- neither an update nor a compensation
  pub pass_other : (counter : ℕ) → IsPassing shape t part y z (r ∷ left) counter → r.kind ≢ 1 → r.kind ≢ 2 → IsPassing shape t part y z left counter
  pass_other counter h not_one not_two =
      let one = test_not 1 (owner counter h) not_one in
      let two = test_not 2 (owner counter h) not_two in
      record {
        undoing = h.undoing;
        rolled = h.rolled;
        among = λ u m. h.among u (inr m);
        left_is = rw (one, two) at h.left_is;
        words = rw one at h.words;
      }

  -- a compensation: its update is to come
  pub pass_compensation : (counter : ℕ) → IsPassing shape t part y z (r ∷ left) counter → IsCompensation r → IsPassing shape t part y z left (counter + 1)
  pass_compensation counter h is =
      let one = test_of 1 2 false (owner counter h) is refl in
      let two = test_of 2 2 true (owner counter h) is refl in
      record {
        undoing = h.undoing;
        rolled = h.rolled;
        among = λ u m. h.among u (inr m);
        left_is = (rw (one, two) at h.left_is) ∙ drop_rest counter (to_undo t left);
        words = rw one at h.words;
      }

  -- an update that is compensated: its OLD is stored
  pub pass_update : (few : 1 ≤ shape.partitions) (counter : ℕ) → IsPassing shape t part y z (r ∷ left) (counter + 1) → IsUpdate r →
      IsPassing shape t part y (with_heap z (with_value z.words r.word r.before)) left counter
  pass_update few counter h is =
      let one = test_of 1 1 true (owner (counter + 1) h) is refl in
      record {
        undoing = stored shape t part y z few h.undoing r (passed_among (counter + 1) h) is (owner (counter + 1) h);
        rolled = h.rolled;
        among = λ u m. h.among u (inr m);
        left_is = (rw one at h.left_is) ∙ drop_next counter r (to_undo t left);
        words = rw one at h.words;
      }

  -- an update that isn't stands on top of the stack
  pub top_is : IsPassing shape t part y z (r ∷ left) 0 → IsUpdate r → to_undo t z.log ≡ r ∷ to_undo t left
  top_is h is = let one = test_of 1 1 true (owner 0 h) is refl in rw one at h.left_is

  pub pass_compensates : (few : 1 ≤ shape.partitions) (at : ℕ) → IsPassing shape t part y z (r ∷ left) 0 → IsUpdate r → part_of shape at ≡ part →
      IsPassing shape t part y (grown z (compensation_of t r at (next_lsn z.log)) (less_room part z.room)) (r ∷ left) 1
  pass_compensates few at h is here =
      let c = compensation_of t r at (next_lsn z.log) in
      let one : is_kind_of t 1 c ≡ false = kind_test t 1 c refl 2 refl in
      let two : is_kind_of t 2 c ≡ true = kind_test t 2 c refl 2 refl in
      let top = top_is h is in
      let mine = test_of 1 1 true (owner 0 h) is refl in
      record {
        undoing = compensated shape t part y z few h.undoing r (to_undo t left) at here (passed_among 0 h) is top;
        rolled = (h.rolled.0, inr h.rolled.1, h.rolled.2);
        among = h.among;
        left_is = rw (one, two, top, mine) refl;
        words = h.words;
      }

-- ---- the end of the pass

pub pass_stack : (shape : Shape) (t part : ℕ) (y z : State) (counter : ℕ) → IsPassing shape t part y z [] counter → to_undo t z.log ≡ []
pass_stack shape t part y z counter h = h.left_is ∙ drop_none counter

pub pass_stored : (shape : Shape) (t part : ℕ) (y z : State) (counter : ℕ) → IsSoundState shape y → IsPassing shape t part y z [] counter → IsStored t z.log z.words
pass_stored shape t part y z counter sound h = λ a u first.
    ap (λ f. f a) h.words
    ∙ undone_stored t y.log y.words (good_of shape y sound).falls a u (record {
      among = by_place u first.has.0 (among_append h.undoing.news y.log u (subst (λ l. IsAmong l u) h.undoing.log first.among));
      has = first.has;
      first = λ x m k. first.first x (subst (λ l. IsAmong l x) (sym h.undoing.log) (among_right h.undoing.news y.log x m)) k;
    })
  where
    by_place : (u : Record) → IsUpdate u → IsAmong h.undoing.news u ⊎ IsAmong y.log u → IsAmong y.log u
    by_place u is (inr m) = m
    by_place u is (inl m) = absurd (elim (h.undoing.notes u m).1 [ inl two ↦ omega (arith, is, two) | inr three ↦ omega (arith, is, three) ])
