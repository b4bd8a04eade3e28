-- What an ask and a step make of two counters.
use Rattle.std.proofs.Common.{◌≡◌, ◌≢◌, ⊎_elim, ℕ, zero, suc, ◌==◌, Bool, true, false, Option, Some, None, [], ◌∷◌, refl, sym, ap, ◌∙◌, subst, unwrap_or}
use Rattle.std.specs.Prelude.{if◌then◌else◌, Result, Ok, Err, OnOk, IfErr}
use Rattle.std.proofs.lemmas.Bool.Decides.{eqb_tells}
use Rattle.lane_types.specs.declared.call.Call.{Call}
use Rattle.lane_types.specs.declared.call.Call.TheVariants.{Begin, Read, Write, Take, Give, Commit, Abort, Checkpoint, Batch, Savepoint, RollbackTo}
use Rattle.lane_types.specs.declared.call.Stepped.{Stepped}
use Rattle.lane_types.specs.declared.call.Reply.{Reply}
use Rattle.lane_types.specs.declared.face.Tally.{Tally}
use Rattle.lane_types.specs.declared.call.Phase.TheVariants.{In, Calling}
use Rattle.lane_types.specs.declared.call.Refusal.{Refusal}
use Rattle.lane_types.specs.declared.call.Refusal.TheVariants.{WrongPhase}
use Rattle.lane_types.specs.Heaps.{is_data}
use Rattle.lane_types.specs.LaneSteps.{LaneStep, one}
use Rattle.lane_types.specs.Seen.{Touches, IsAccepted, IsRefused, IsStepped}
use Rattle.hub_tests.specs.declared.deed.Nothing.{Nothing}
use Rattle.hub_tests.specs.declared.counter.Counter.{Counter}
use Rattle.hub_tests.specs.Counter.{small_heap, face_of, after, answer_of, asked_counter, phase_of}
use Rattle.hub_tests.specs.Counters.{IsOwn, IsChange, seen_of, counter_at, word_at, no_meaning}

own_write : (lane : ℕ) (call : Call Nothing) → IsOwn lane call → (v : ℕ) × (call ≡ Write (suc lane) v)
own_write lane (Write a v) own = (v, ap (λ (n : ℕ). Write n v) own)
own_write lane (Begin set) own = absurd own
own_write lane (Read a) own = absurd own
own_write lane (Take s) own = absurd own
own_write lane (Give b) own = absurd own
own_write lane (Commit deed) own = absurd own
own_write lane Abort own = absurd own
own_write lane Checkpoint own = absurd own
own_write lane (Batch writes) own = absurd own
own_write lane Savepoint own = absurd own
own_write lane (RollbackTo n) own = absurd own

first_else : (c d second : Counter) (other : ℕ) → other ≢ 0 → face_of other (counter_at d second other) ≡ face_of other (counter_at c second other)
first_else c d second zero ne = absurd (ne refl)
first_else c d second (suc zero) ne = refl
first_else c d second (suc (suc n)) ne = refl

second_else : (first c d : Counter) (other : ℕ) → other ≢ 1 → face_of other (counter_at first d other) ≡ face_of other (counter_at first c other)
second_else first c d zero ne = refl
second_else first c d (suc zero) ne = absurd (ne refl)
second_else first c d (suc (suc n)) ne = refl

pub first_asked : (c d second : Counter) (last : Option ℕ) (lane : ℕ) (call : Call Nothing) → lane ≡ 0 → IsOwn lane call → c.job ≡ None → d ≡ asked_counter call c
    → IsAccepted lane call (seen_of c second last) (seen_of d second last)
first_asked c d second last lane call at own free is =
    let w = own_write lane call own in
    let same : call ≡ Write 1 w.0 = w.1 ∙ ap (λ (n : ℕ). Write (suc n) w.0) at in
    subst (λ (n : ℕ). IsAccepted n call (seen_of c second last) (seen_of d second last)) (sym at)
    (subst (λ (x : Counter). IsAccepted 0 call (seen_of c second last) (seen_of x second last)) (sym is)
    (subst (λ (k : Call Nothing). IsAccepted 0 k (seen_of c second last) (seen_of (asked_counter k c) second last)) (sym same) record {
      ask = record { leaves = record { lanes = refl; span = refl; others = first_else c (asked_counter (Write 1 w.0) c) second }; word = refl; touched = refl };
      fits = record { phase = ap phase_of free; held = refl };
      face = refl;
    }))

pub second_asked : (first c d : Counter) (last : Option ℕ) (lane : ℕ) (call : Call Nothing) → lane ≡ 1 → IsOwn lane call → c.job ≡ None → d ≡ asked_counter call c
    → IsAccepted lane call (seen_of first c last) (seen_of first d last)
second_asked first c d last lane call at own free is =
    let w = own_write lane call own in
    let same : call ≡ Write 2 w.0 = w.1 ∙ ap (λ (n : ℕ). Write (suc n) w.0) at in
    subst (λ (n : ℕ). IsAccepted n call (seen_of first c last) (seen_of first d last)) (sym at)
    (subst (λ (x : Counter). IsAccepted 1 call (seen_of first c last) (seen_of first x last)) (sym is)
    (subst (λ (k : Call Nothing). IsAccepted 1 k (seen_of first c last) (seen_of first (asked_counter k c) last)) (sym same) record {
      ask = record { leaves = record { lanes = refl; span = refl; others = second_else first c (asked_counter (Write 2 w.0) c) }; word = refl; touched = refl };
      fits = record { phase = ap phase_of free; held = refl };
      face = refl;
    }))

twice : (b : Bool) (w v : ℕ) → (if b then Some v else None) ≡ (if b then Some v else (if b then Some w else None))
twice true w v = refl
twice false w v = refl

abbrev counter : ℕ → Option ℕ → Option Reply → Tally → Counter
counter w j answer tally = record { word = w; job = j; answer = answer; tally = tally }

first_row : (w : ℕ) (j : Option ℕ) (answer : Option Reply) (tally : Tally) → LaneStep no_meaning (answer_of j) (face_of 0 (counter w j answer tally)) (face_of 0 (after j (counter w j answer tally)))
first_row w None answer tally = record { call = refl; next = refl }
first_row w (Some v) answer tally = record {
  calling = refl;
  row = record {
    writes = record { address = 1; value = v } ∷ [];
    call = one;
    next = λ i. record (face_of 0 (after (Some v) (counter w (Some v) answer tally))) { words = record { word = λ a. twice (a == 1) w v i; owner = λ block. None; given = λ block. false } };
  };
}

second_row : (w : ℕ) (j : Option ℕ) (answer : Option Reply) (tally : Tally) → LaneStep no_meaning (answer_of j) (face_of 1 (counter w j answer tally)) (face_of 1 (after j (counter w j answer tally)))
second_row w None answer tally = record { call = refl; next = refl }
second_row w (Some v) answer tally = record {
  calling = refl;
  row = record {
    writes = record { address = 2; value = v } ∷ [];
    call = one;
    next = λ i. record (face_of 1 (after (Some v) (counter w (Some v) answer tally))) { words = record { word = λ a. twice (a == 2) w v i; owner = λ block. None; given = λ block. false } };
  };
}

-- ---- what a step touches

fact : (b : Bool) (x y r : ℕ) → (b ≡ true → x ≡ y) → (if b then x else r) ≡ (if b then y else r)
fact true x y r h = h refl
fact false x y r h = refl

named : (before now n a : ℕ) (touched : Option ℕ) → IsChange before now n touched → touched ≡ Some a → (now ≢ before) × (n ≡ a)
named before now n a touched change e =
    ⊎_elim
    (λ (t : ((before == now) ≡ true) × (before ≡ now)). let none : None ≡ Some a = sym (change.0 t.1) ∙ e in absurd (cc))
    (λ (t : ((before == now) ≡ false) × (before ≢ now)). ((λ q. t.1 (sym q)), ap (λ o. unwrap_or o 0) (sym (change.1 t.1) ∙ e)))
    (eqb_tells before now)

kept : (before now n : ℕ) (touched : Option ℕ) → IsChange before now n touched → touched ≢ Some n → now ≡ before
kept before now n touched change other =
    ⊎_elim
    (λ (t : ((before == now) ≡ true) × (before ≡ now)). sym t.1)
    (λ (t : ((before == now) ≡ false) × (before ≢ now)). absurd (other (change.1 t.1)))
    (eqb_tells before now)

is_there_at : (a n : ℕ) → (a == n) ≡ true → a ≡ n
is_there_at a n e = ⊎_elim
    (λ (t : ((a == n) ≡ true) × (a ≡ n)). t.1)
    (λ (t : ((a == n) ≡ false) × (a ≢ n)). absurd (cc))
    (eqb_tells a n)

kept_at : (before now n a : ℕ) (touched : Option ℕ) → IsChange before now n touched → touched ≢ Some a → (a == n) ≡ true → now ≡ before
kept_at before now n a touched change other e = kept before now n touched change (subst (λ (x : ℕ). touched ≢ Some x) (is_there_at a n e) other)

first_touches : (c d second : Counter) (last touched : Option ℕ) → IsChange c.word d.word 1 touched → Touches small_heap (seen_of c second last) (seen_of d second touched)
first_touches c d second last touched change = record {
  data_word = λ a e. subst (λ (n : ℕ). is_data small_heap n ≡ true) (named c.word d.word 1 a touched change e).1 refl;
  changed = λ a e. subst (λ (n : ℕ). word_at d second n ≢ word_at c second n) (named c.word d.word 1 a touched change e).1 (named c.word d.word 1 a touched change e).0;
  others = λ a e other. fact (a == 1) d.word c.word (if a == 2 then second.word else 0) (kept_at c.word d.word 1 a touched change other);
}

second_touches : (first c d : Counter) (last touched : Option ℕ) → IsChange c.word d.word 2 touched → Touches small_heap (seen_of first c last) (seen_of first d touched)
second_touches first c d last touched change = record {
  data_word = λ a e. subst (λ (n : ℕ). is_data small_heap n ≡ true) (named c.word d.word 2 a touched change e).1 refl;
  changed = λ a e. subst (λ (n : ℕ). word_at first d n ≢ word_at first c n) (named c.word d.word 2 a touched change e).1 (named c.word d.word 2 a touched change e).0;
  others = λ a e other. ap (λ (x : ℕ). if a == 1 then first.word else x) (fact (a == 2) d.word c.word 0 (kept_at c.word d.word 2 a touched change other));
}

pub first_stepped : (c d second : Counter) (last touched : Option ℕ) (lane : ℕ) (answer : Stepped) → lane ≡ 0 → answer ≡ answer_of c.job → d ≡ after c.job c
    → IsChange c.word d.word 1 touched → IsStepped no_meaning lane answer (seen_of c second last) (seen_of d second touched)
first_stepped c d second last touched lane answer at is next change =
    subst (λ (n : ℕ). IsStepped no_meaning n answer (seen_of c second last) (seen_of d second touched)) (sym at) record {
      leaves = record { lanes = refl; span = refl; others = first_else c d second };
      touches = first_touches c d second last touched change;
      step = subst (λ (x : Stepped). LaneStep no_meaning x (face_of 0 c) (face_of 0 d)) (sym is)
          (subst (λ (x : Counter). LaneStep no_meaning (answer_of c.job) (face_of 0 c) (face_of 0 x)) (sym next) (first_row c.word c.job c.answer c.tally));
    }

pub second_stepped : (first c d : Counter) (last touched : Option ℕ) (lane : ℕ) (answer : Stepped) → lane ≡ 1 → answer ≡ answer_of c.job → d ≡ after c.job c
    → IsChange c.word d.word 2 touched → IsStepped no_meaning lane answer (seen_of first c last) (seen_of first d touched)
second_stepped first c d last touched lane answer at is next change =
    subst (λ (n : ℕ). IsStepped no_meaning n answer (seen_of first c last) (seen_of first d touched)) (sym at) record {
      leaves = record { lanes = refl; span = refl; others = second_else first c d };
      touches = second_touches first c d last touched change;
      step = subst (λ (x : Stepped). LaneStep no_meaning x (face_of 1 c) (face_of 1 d)) (sym is)
          (subst (λ (x : Counter). LaneStep no_meaning (answer_of c.job) (face_of 1 c) (face_of 1 x)) (sym next) (second_row c.word c.job c.answer c.tally));
    }

-- ---- a refused ask

calling_else : Calling ≢ In
calling_else e = absurd (cc)

pub own_refused : (first second : Counter) (last : Option ℕ) (lane : ℕ) (call : Call Nothing) (refusal : Refusal) → IsOwn lane call
    → phase_of (counter_at first second lane).job ≡ Calling → refusal ≡ WrongPhase Calling
    → IsRefused lane call refusal (seen_of first second last) (seen_of first second last)
own_refused first second last lane call refusal own busy is =
    let w = own_write lane call own in
    subst (λ (r : Refusal). IsRefused lane call r (seen_of first second last) (seen_of first second last)) (sym is)
    (subst (λ (k : Call Nothing). IsRefused lane k (WrongPhase Calling) (seen_of first second last) (seen_of first second last)) (sym w.1) record {
      ask = record { leaves = record { lanes = refl; span = refl; others = λ other ne. refl }; word = refl; touched = refl };
      why = record { is = busy; other = calling_else };
      face = refl;
    })

-- ---- an ask's answers

pub first_ok : (r : Result (Unit {0}) (Refusal × Call Nothing)) (c d second : Counter) (last : Option ℕ) (lane : ℕ) (call : Call Nothing) → lane ≡ 0 → IsOwn lane call
    → OnOk r (c.job ≡ None) → OnOk r (d ≡ asked_counter call c) → OnOk r (IsAccepted lane call (seen_of c second last) (seen_of d second last))
first_ok (Ok x) c d second last lane call at own free is = first_asked c d second last lane call at own free is
first_ok (Err e) c d second last lane call at own free is = tt

pub second_ok : (r : Result (Unit {0}) (Refusal × Call Nothing)) (first c d : Counter) (last : Option ℕ) (lane : ℕ) (call : Call Nothing) → lane ≡ 1 → IsOwn lane call
    → OnOk r (c.job ≡ None) → OnOk r (d ≡ asked_counter call c) → OnOk r (IsAccepted lane call (seen_of first c last) (seen_of first d last))
second_ok (Ok x) first c d last lane call at own free is = second_asked first c d last lane call at own free is
second_ok (Err e) first c d last lane call at own free is = tt

pub first_err : (r : Result (Unit {0}) (Refusal × Call Nothing)) (c d second : Counter) (last : Option ℕ) (lane : ℕ) (call : Call Nothing) → lane ≡ 0 → IsOwn lane call
    → IfErr r (λ err. phase_of c.job ≡ Calling) → IfErr r (λ err. err.0 ≡ WrongPhase Calling) → IfErr r (λ err. d ≡ c)
    → IfErr r (λ err. IsRefused lane call err.0 (seen_of c second last) (seen_of d second last))
first_err (Ok x) c d second last lane call at own busy why same = tt
first_err (Err e) c d second last lane call at own busy why same =
    subst (λ (x : Counter). IsRefused lane call e.0 (seen_of c second last) (seen_of x second last)) (sym same)
    (own_refused c second last lane call e.0 own (subst (λ (n : ℕ). phase_of (counter_at c second n).job ≡ Calling) (sym at) busy) why)

pub second_err : (r : Result (Unit {0}) (Refusal × Call Nothing)) (first c d : Counter) (last : Option ℕ) (lane : ℕ) (call : Call Nothing) → lane ≡ 1 → IsOwn lane call
    → IfErr r (λ err. phase_of c.job ≡ Calling) → IfErr r (λ err. err.0 ≡ WrongPhase Calling) → IfErr r (λ err. d ≡ c)
    → IfErr r (λ err. IsRefused lane call err.0 (seen_of first c last) (seen_of first d last))
second_err (Ok x) first c d last lane call at own busy why same = tt
second_err (Err e) first c d last lane call at own busy why same =
    subst (λ (x : Counter). IsRefused lane call e.0 (seen_of first c last) (seen_of first x last)) (sym same)
    (own_refused first c last lane call e.0 own (subst (λ (n : ℕ). phase_of (counter_at first c n).job ≡ Calling) (sym at) busy) why)
