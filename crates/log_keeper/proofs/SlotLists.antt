-- One slot is changed.
use Rattle.std.proofs.Common.{◌≡◌, ◌≢◌, inl, inr, ℕ, zero, suc, ◌+◌, ◌*◌, ◌<◌, ◌==◌, Bool, true, false, not, nat_lt, if◌then◌else◌, List, [], ◌∷◌, length, get_or, set, Option, slice_get, refl, sym, ap, ◌∙◌, subst, arith, map, ◌≤◌}
use Rattle.std.specs.Prelude.{is_some}
use Rattle.persist_model.specs.declared.event.Event.{Event}
use Rattle.std.proofs.lemmas.Bool.Decides.{eqb_tells, nat_tests}
use Rattle.std.proofs.lemmas.Bool.{cases_lt}
use Rattle.std.proofs.lemmas.Option.{slice_get_cases}
use Rattle.persist_model.specs.Shape.{Shape}
use Rattle.persist_model.specs.ImageRecords.{cell_address}
use Rattle.region_layout.specs.declared.cell.Cell.{Cell}
use Rattle.region_layout.specs.Cell.{record_of}
use Rattle.log_keeper.specs.declared.slots.TheConstants.{NOBODY}
use Rattle.log_keeper.specs.declared.ledger.Entry.{Entry}
use Rattle.log_keeper.specs.declared.slots.Slot.{Slot}
use Rattle.log_keeper.specs.Parts.{LogPart, Running, plan_of}
use Rattle.log_keeper.specs.Ledger.{Noted, Drawn}
use Rattle.log_keeper.specs.Noting.{ledger_of}
use Rattle.log_keeper.specs.Slots.{run_of_slot}
use Rattle.log_keeper.specs.Logged.{with_run, resting, begun, one_more, ended, latched}
use Rattle.log_keeper.specs.Making.{is_over, settled_by, stored_if, gone_on, made_of_run, made_part}
use Rattle.log_keeper.specs.Keeper.{at_slot, holder_of, plain_of, begun_in, held_by, all_latched}
use Rattle.log_keeper.proofs.Progressing.{by_part}

pub read_slot : {A : Type 0} (f : Slot → A) (d : A) (xs : List Slot) (p : ℕ) (x : Slot) → p < length xs → x ≡ get_or xs p x → at_slot f d xs p ≡ f x
read_slot f d [] p x lt is = absurd (omega (arith, lt))
read_slot f d (y ∷ xs) zero x lt is = ap f (sym is)
read_slot f d (y ∷ xs) (suc p) x lt is = read_slot f d xs p x (omega (arith, lt)) is

set_same : {A : Type 0} (f : Slot → A) (d : A) (xs : List Slot) (p : ℕ) (y : Slot) → p < length xs → at_slot f d (set xs p y) p ≡ f y
set_same f d [] p y lt = absurd (omega (arith, lt))
set_same f d (x ∷ xs) zero y lt = refl
set_same f d (x ∷ xs) (suc p) y lt = set_same f d xs p y (omega (arith, lt))

set_other : {A : Type 0} (f : Slot → A) (d : A) (xs : List Slot) (p q : ℕ) (y : Slot) → q ≢ p → at_slot f d (set xs p y) q ≡ at_slot f d xs q
set_other f d [] p q y ne = refl
set_other f d (x ∷ xs) zero zero y ne = absurd (ne refl)
set_other f d (x ∷ xs) zero (suc q) y ne = refl
set_other f d (x ∷ xs) (suc p) zero y ne = refl
set_other f d (x ∷ xs) (suc p) (suc q) y ne = set_other f d xs p q y (λ e. ne (ap suc e))

-- with another slot in place of p's the values are p's new one, and those before
set_slot : {A : Type 0} (f : Slot → A) (d : A) (xs : List Slot) (p : ℕ) (y : Slot) → p < length xs → (q : ℕ) →
    at_slot f d (set xs p y) q ≡ (if q == p then f y else at_slot f d xs q)
set_slot f d xs p y lt q = by_part (λ n t. at_slot f d (set xs p y) n ≡ (if t then f y else at_slot f d xs n)) p q (set_same f d xs p y lt) (λ ne. set_other f d xs p q y ne)

same_slot : {A : Type 0} (f : Slot → A) (d : A) (xs : List Slot) (p : ℕ) (x y : Slot) → p < length xs → x ≡ get_or xs p x → f y ≡ f x → (q : ℕ) →
    at_slot f d (set xs p y) q ≡ at_slot f d xs q
same_slot f d xs p x y lt is same q = by_part (λ n t. at_slot f d (set xs p y) n ≡ at_slot f d xs n) p q
    (set_same f d xs p y lt ∙ same ∙ sym (read_slot f d xs p x lt is)) (λ ne. set_other f d xs p q y ne)

-- p's run and the ledger are others
pub run_moves : (later : List Entry) (xs : List Slot) (p : ℕ) (x y : Slot) (run : Running) (ledger : List Noted) → p < length xs → x ≡ get_or xs p x →
    run_of_slot y ≡ run → y.holder ≡ x.holder → ledger_of later ≡ ledger →
    plain_of later (set xs p y) ≡ record { ledger = ledger; runs = with_run p run (at_slot run_of_slot resting xs); holder = at_slot holder_of NOBODY xs }
run_moves later xs p x y run ledger lt is e h l = λ i. record {
  ledger = l i;
  runs = λ q. (set_slot run_of_slot resting xs p y lt q ∙ ap (λ (r : Running). if q == p then r else at_slot run_of_slot resting xs q) e) i;
  holder = λ q. same_slot holder_of NOBODY xs p x y lt is h q i;
}

-- the holder of p begins a part
pub part_begins : (later : List Entry) (xs : List Slot) (p : ℕ) (x y : Slot) (part : LogPart) (ledger : List Noted) (entries : List Entry) → p < length xs → x ≡ get_or xs p x →
    run_of_slot y ≡ begun part → y.holder ≡ x.holder → ledger_of later ≡ ledger →
    plain_of later (set xs p y) ≡ begun_in p part ledger (plain_of entries xs)
part_begins later xs p x y part ledger entries lt is e h l =
    run_moves later xs p x y (begun part) ledger lt is e h l
    ∙ (λ i. record {
      ledger = ledger;
      runs = with_run p (begun part) (at_slot run_of_slot resting xs);
      holder = λ q. by_part (λ n t. at_slot holder_of NOBODY xs n ≡ (if t then at_slot holder_of NOBODY xs p else at_slot holder_of NOBODY xs n)) p q refl (λ ne. refl) i;
    })

-- p's latch is another's
pub latch_moves : (entries : List Entry) (xs : List Slot) (p : ℕ) (x y : Slot) (lane : ℕ) → p < length xs → x ≡ get_or xs p x →
    run_of_slot y ≡ run_of_slot x → y.holder ≡ lane → plain_of entries (set xs p y) ≡ latched p lane (plain_of entries xs)
latch_moves entries xs p x y lane lt is e h = λ i. record {
  ledger = ledger_of entries;
  runs = λ q. same_slot run_of_slot resting xs p x y lt is e q i;
  holder = λ q. (set_slot holder_of NOBODY xs p y lt q ∙ ap (λ (n : ℕ). if q == p then n else at_slot holder_of NOBODY xs q) h) i;
}

-- an event of the plan is there, or there are no more
some_within : (xs : List Event) (n : ℕ) → is_some (slice_get xs n) ≡ nat_lt n (length xs)
some_within xs n = elim (slice_get_cases xs n).1 [
  | inl k ↦ (let lt = k.1 in let on : nat_lt n (length xs) ≡ true = grind (arith, nat_tests, lt) in ap is_some k.2 ∙ sym on)
  | inr k ↦ (let le = k.0 in let off : nat_lt n (length xs) ≡ false = grind (arith, nat_tests, le) in ap is_some k.1 ∙ sym off)
]

not_not : (t : Bool) → t ≡ not (not t)
not_not true = refl
not_not false = refl

pub over_is : (xs : List Event) (n : ℕ) (e : Option Event) (t : Bool) → e ≡ slice_get xs n → is_some e ≡ not t → t ≡ is_over xs n
over_is xs n e t is h = not_not t ∙ ap not (sym h ∙ ap is_some is ∙ some_within xs n)

-- what is asked of the partition's run is asked of its slot
pub part_read : (P : LogPart → Type 0) (xs : List Slot) (p : ℕ) (x : Slot) → p < length xs → x ≡ get_or xs p x → P (at_slot run_of_slot resting xs p).part → P (run_of_slot x).part
part_read P xs p x lt is k = subst (λ (run : Running). P run.part) (read_slot run_of_slot resting xs p x lt is) k

pub made_read : (xs : List Slot) (p : ℕ) (x : Slot) → p < length xs → x ≡ get_or xs p x → (at_slot run_of_slot resting xs p).made ≡ x.made
made_read xs p x lt is = ap (λ (run : Running). run.made) (read_slot run_of_slot resting xs p x lt is)

-- the part is over,
pub run_ends : (shape : Shape) (entries later : List Entry) (xs : List Slot) (p : ℕ) (x y : Slot) (over : Bool) → p < length xs → x ≡ get_or xs p x →
    over ≡ is_over (plan_of shape p (run_of_slot x).part) (x.made + 1) → over ≡ true → run_of_slot y ≡ resting → y.holder ≡ x.holder →
    ledger_of later ≡ settled_by (run_of_slot x).part (ledger_of entries) → plain_of later (set xs p y) ≡ made_part shape p (plain_of entries xs)
run_ends shape entries later xs p x y over lt is over_of on e h l =
    run_moves later xs p x y resting (settled_by (run_of_slot x).part (ledger_of entries)) lt is e h l
    ∙ ap (λ t. if t then ended p (settled_by (run_of_slot x).part (ledger_of entries)) (plain_of entries xs)
    else gone_on (is_over (plan_of shape p (run_of_slot x).part) (x.made + 2)) p (run_of_slot x) (plain_of entries xs)) (sym on ∙ over_of)
    ∙ ap (λ (r : Running). made_of_run shape p r (plain_of entries xs)) (sym (read_slot run_of_slot resting xs p x lt is))

-- or goes on
pub run_goes_on : (shape : Shape) (entries later : List Entry) (xs : List Slot) (p : ℕ) (x y : Slot) (over store : Bool) → p < length xs → x ≡ get_or xs p x →
    over ≡ is_over (plan_of shape p (run_of_slot x).part) (x.made + 1) → over ≡ false → store ≡ is_over (plan_of shape p (run_of_slot x).part) (x.made + 2) →
    run_of_slot y ≡ one_more (run_of_slot x) → y.holder ≡ x.holder → ledger_of later ≡ stored_if store (run_of_slot x).part (ledger_of entries) →
    plain_of later (set xs p y) ≡ made_part shape p (plain_of entries xs)
run_goes_on shape entries later xs p x y over store lt is over_of off store_of e h l =
    run_moves later xs p x y (one_more (run_of_slot x)) (stored_if store (run_of_slot x).part (ledger_of entries)) lt is e h l
    ∙ ap (λ t. gone_on t p (run_of_slot x) (plain_of entries xs)) store_of
    ∙ ap (λ t. if t then ended p (settled_by (run_of_slot x).part (ledger_of entries)) (plain_of entries xs)
    else gone_on (is_over (plan_of shape p (run_of_slot x).part) (x.made + 2)) p (run_of_slot x) (plain_of entries xs)) (sym off ∙ over_of)
    ∙ ap (λ (r : Running). made_of_run shape p r (plain_of entries xs)) (sym (read_slot run_of_slot resting xs p x lt is))

-- whose latch it is
nobody_told : (n : ℕ) → n ≡ NOBODY → true ≡ (n == NOBODY)
nobody_told n e = elim (eqb_tells n NOBODY) [ inl k ↦ sym k.0 | inr k ↦ absurd (k.1 e) ]

somebody_told : (n : ℕ) → n ≢ NOBODY → false ≡ (n == NOBODY)
somebody_told n ne = elim (eqb_tells n NOBODY) [ inl k ↦ absurd (ne k.1) | inr k ↦ sym k.0 ]

pub nobody_is : (xs : List Slot) (p : ℕ) (x : Slot) → p < length xs → x ≡ get_or xs p x → x.holder ≡ NOBODY → true ≡ (at_slot holder_of NOBODY xs p == NOBODY)
nobody_is xs p x lt is e = nobody_told _ (read_slot holder_of NOBODY xs p x lt is ∙ e)

pub somebody_is : (xs : List Slot) (p : ℕ) (x : Slot) → p < length xs → x ≡ get_or xs p x → x.holder ≢ NOBODY → false ≡ (at_slot holder_of NOBODY xs p == NOBODY)
somebody_is xs p x lt is ne = somebody_told _ (λ e. ne (sym (read_slot holder_of NOBODY xs p x lt is) ∙ e))

-- the record of an append is noted for the latch's holder
pub drawn_is : (later : List Noted) (xs : List Slot) (p : ℕ) (x : Slot) (bucket place : ℕ) (cell : Cell) (ledger : List Noted) → p < length xs → x ≡ get_or xs p x →
    later ≡ record { lane = x.holder; entry = record_of (bucket + 8 + 8 * place) cell; stage = Drawn } ∷ ledger →
    later ≡ record { lane = at_slot holder_of NOBODY xs p; entry = record_of (cell_address bucket place) cell; stage = Drawn } ∷ ledger
drawn_is later xs p x bucket place cell ledger lt is e =
    e ∙ ap (λ (n : ℕ). record { lane = n; entry = record_of (bucket + 8 + 8 * place) cell; stage = Drawn } ∷ ledger) (sym (read_slot holder_of NOBODY xs p x lt is))

pub add_one : (n : ℕ) → n + 1 ≡ suc n
add_one n = omega arith

-- all latches are one lane's
runs_held : (lane : ℕ) (xs : List Slot) (q : ℕ) → at_slot run_of_slot resting (map (held_by lane) xs) q ≡ at_slot run_of_slot resting xs q
runs_held lane [] q = refl
runs_held lane (x ∷ xs) zero = refl
runs_held lane (x ∷ xs) (suc q) = runs_held lane xs q

holders_in : (lane : ℕ) (xs : List Slot) (q : ℕ) → q < length xs → at_slot holder_of NOBODY (map (held_by lane) xs) q ≡ lane
holders_in lane [] q lt = absurd (omega (arith, lt))
holders_in lane (x ∷ xs) zero lt = refl
holders_in lane (x ∷ xs) (suc q) lt = holders_in lane xs q (omega (arith, lt))

holders_past : (lane : ℕ) (xs : List Slot) (q : ℕ) → length xs ≤ q → at_slot holder_of NOBODY (map (held_by lane) xs) q ≡ at_slot holder_of NOBODY xs q
holders_past lane [] q le = refl
holders_past lane (x ∷ xs) zero le = absurd (omega (arith, le))
holders_past lane (x ∷ xs) (suc q) le = holders_past lane xs q (omega (arith, le))

holders_held : (lane : ℕ) (xs : List Slot) (q : ℕ) → at_slot holder_of NOBODY (map (held_by lane) xs) q ≡ (if nat_lt q (length xs) then lane else at_slot holder_of NOBODY xs q)
holders_held lane xs q = elim (cases_lt q (length xs)) [
  | inl lt ↦ (let on : nat_lt q (length xs) ≡ true = grind (arith, nat_tests, lt) in rw on (holders_in lane xs q lt))
  | inr le ↦ (let off : nat_lt q (length xs) ≡ false = grind (arith, nat_tests, le) in rw off (holders_past lane xs q le))
]

pub all_held : (entries : List Entry) (xs later : List Slot) (lane : ℕ) → later ≡ map (held_by lane) xs → plain_of entries later ≡ all_latched lane (length xs) (plain_of entries xs)
all_held entries xs later lane is = ap (plain_of entries) is ∙ (λ i. record {
  ledger = ledger_of entries;
  runs = λ q. runs_held lane xs q i;
  holder = λ q. holders_held lane xs q i;
})

-- nothing that is told of slots has changed
pub slot_stays : (entries : List Entry) (xs : List Slot) (p : ℕ) (x y : Slot) → p < length xs → x ≡ get_or xs p x → run_of_slot y ≡ run_of_slot x → y.holder ≡ x.holder →
    plain_of entries (set xs p y) ≡ plain_of entries xs
slot_stays entries xs p x y lt is e h = λ i. record {
  ledger = ledger_of entries;
  runs = λ q. same_slot run_of_slot resting xs p x y lt is e q i;
  holder = λ q. same_slot holder_of NOBODY xs p x y lt is h q i;
}
