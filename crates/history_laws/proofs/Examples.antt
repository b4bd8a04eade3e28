-- The conditions are met where two lanes append side by side under force: transaction 1 has changed a word from 0 to 7, by the update with
-- number 5 in partition 0, and has stored the gate of its commit's end, number 7; transaction 2 has stored the gate of its first update, number 6,
-- in partition 1; neither gate is fenced.
use Rattle.std.proofs.Common.{◌≡◌, ◌≢◌, inl, inr, ℕ, zero, suc, ◌<◌, true, false, ◌==◌, if◌then◌else◌, [], ◌∷◌, length, refl, sym, ap, ◌∙◌, subst, arith}
use Rattle.std.specs.Prelude.{slice_index}
use Rattle.std.proofs.lemmas.Bool.Decides.{nat_tests, eqb_tells}
use Rattle.persist_model.specs.Region.{Words}
use Rattle.persist_model.specs.Progress.{write, latest}
use Rattle.persist_model.specs.Runs.{progress_at}
use Rattle.persist_model.specs.Kinds.{END, UPDATE}
use Rattle.persist_model.specs.Records.{Record, IsAmong, NamesWord, IsRunning}
use Rattle.persist_model.specs.Shape.{Shape, part_of, log_words, heap_words}
use Rattle.persist_model.specs.Standing.{Stands, undone, deleted, redone, kept}
use Rattle.persist_model.specs.Need.{need_in}
use Rattle.persist_model.specs.Chain.{view}
use Rattle.persist_model.specs.ImageRecords.{cell_address}
use Rattle.persist_model.specs.State.{State, IsSoundState}
use Rattle.region_layout.specs.declared.layout.Kind.TheVariants.{Cells}
use Rattle.region_layout.specs.Layout.{IsAllowed}
use Rattle.region_layout.specs.Fresh.{fresh_words, empty_state, IsEmptyRegion}
use Rattle.region_layout.proofs.Empty.{fresh_is_empty}
use Rattle.bucket_log.specs.declared.append.Place.{Place}
use Rattle.plan_records.specs.declared.parts.Update.{Update}
use Rattle.bucket_log.specs.Appends.{CanAppend, region_append}
use Rattle.plan_records.specs.Cells.{cell_of_update, appended}
use Rattle.plan_records.specs.Appends.{MayAppend, seen, Keeps, with_record}
use Rattle.plan_records.specs.Conditions.{CanUpdate, IsOfOpen, IsUpdateOf, AreWritten}
use Rattle.plan_records.proofs.Passing.{passes_above}
use Rattle.plan_records.proofs.Records.{updates_keep}
use Rattle.history_laws.specs.Histories.{Entry, LeavesWord}
use Rattle.history_laws.specs.UnderWay.{an_update, a_commit_end, Adding, record_of_adding, UnderWay, nothing, appends, IsAddedIn}
use Rattle.history_laws.specs.Moments.{IsOldOf, IsEntryOf, IsInFlight, IsAppending, IsRunningIn, AreTogether, IsMoment}

-- four buckets of one cell in each of two partitions
abbrev shape : Shape
shape = record { policy = 1; cells = 1; buckets = 8; blocks = 16; structures = 1; format = 2; partitions = 2 }

allowed : IsAllowed shape
allowed = record {
  policy = (omega arith, omega arith);
  cells = inl refl;
  buckets = (omega arith, omega arith);
  blocks = (omega arith, omega arith);
  structures = (omega arith, omega arith);
  format = (omega arith, omega arith);
  partitions = (omega arith, omega arith);
  whole = λ e. cc;
  split = omega arith;
}

abbrev words : Words
words = slice_index (fresh_words shape (Cells ∷ []))

fresh : IsEmptyRegion shape words
fresh = fresh_is_empty shape (Cells ∷ []) allowed refl

abbrev state : State
state = empty_state shape words

first_room : state.room 0 ≡ 4
first_room = fresh.room 0

second_room : state.room 1 ≡ 4
second_room = fresh.room 1

sound : IsSoundState shape state
sound = record {
  newest_first = tt;
  gates = λ r m. absurd m;
  formed = λ r m. absurd m;
  order = tt;
  room = λ p lt. record { undo = omega arith; checkpoint = λ zero two o. absurd (omega (arith, two)) };
  numbers = λ r m. absurd m;
}

-- ---- the update of transaction 1 is settled

abbrev own_update : Update
own_update = record { transaction = 1; word = 168; before = 0; after = 7; undo_next = 0 }

abbrev own_place : Place
own_place = record { bucket = 32; cell = 0; fresh = true; tail = 0 }

abbrev five : Record
five = appended own_place 5 (cell_of_update own_update)

can_five : CanAppend shape 0 (view 0 (log_words shape words)) [] own_place five
unfolding fresh_words
can_five = record {
  at_rest = record { to_append = refl; to_remove = refl; last_tail = inl refl; buckets = tt; no_repeats = tt; links = refl; links_back = tt; tail = refl };
  is_place = record { bucket = (0, omega arith, omega arith, refl); absent = tt; tail = refl; full = λ ne. absurd (ne refl) };
  below = omega arith;
  at = refl;
  gate = λ e. absurd (omega (arith, e));
}

may_five : MayAppend shape 0 words state [] own_place five
may_five = record {
  allowed = allowed;
  inside = omega arith;
  has = fresh.state;
  sound = sound;
  can = can_five;
  passes = passes_above five [] (λ x m. absurd m);
  top = 5;
  above = λ x m. absurd m;
  own = omega arith;
  numbers = omega (arith, first_room, second_room);
}

update_five : CanUpdate shape state five
update_five = record {
  transaction = omega arith;
  word = (omega arith, omega arith);
  no_root = λ h. (let lt = h.1 in let e = h.2 in absurd (omega (arith, lt, e)));
  running = record { running = λ e m end. absurd m; one_part = λ x m of. absurd m };
  free = record { not_rolled = λ x m k. absurd m; free = λ x m k. absurd m };
  cells = record { here = omega (arith, first_room); checkpoint_here = λ two. absurd (omega (arith, two)); checkpoint_elsewhere = λ two. absurd (omega (arith, two)) };
}

-- the words behind that append, with the heap as it was
abbrev base : Words
base = (progress_at words (region_append shape 0 own_place five) (length (region_append shape 0 own_place five))).durable

heap_is_fresh : heap_words shape base 168 ≡ 0
unfolding fresh_words
heap_is_fresh = refl

is_update_five : IsUpdateOf shape state five (heap_words shape base)
is_update_five = record { undo_next = refl; last = refl; standing = λ v st. inr (by v st) }
  where
    by : (v : ℕ) → Stands 1 [] (heap_words shape base) 168 v → 0 ≡ v
    by v (undone u first e) = absurd first.among
    by v (deleted none d e) = absurd d.1
    by v (redone nu nd r last e) = absurd last.among
    by v (kept nu nd nr e) = sym (e ∙ heap_is_fresh)

put_five : Keeps shape base state (with_record 0 state five)
put_five = (updates_keep shape 0 words state [] own_place 5 own_update may_five update_five).whole base is_update_five (λ a m. inl refl)

abbrev settled : State
settled = seen shape base (with_record 0 state five)

is_five : (x : Record) → IsAmong settled.log x → x ≡ five
is_five x (inl e) = e
is_five x (inr m) = absurd m

kind_five : (x : Record) → IsAmong settled.log x → x.kind ≡ UPDATE
kind_five x m = ap (λ (r : Record). r.kind) (is_five x m)

owner_five : (x : Record) → IsAmong settled.log x → x.transaction ≡ 1
owner_five x m = ap (λ (r : Record). r.transaction) (is_five x m)

word_five : (x : Record) → IsAmong settled.log x → x.word ≡ 168
word_five x m = ap (λ (r : Record). r.word) (is_five x m)

number_five : (x : Record) → IsAmong settled.log x → x.lsn ≡ 5
number_five x m = ap (λ (r : Record). r.lsn) (is_five x m)

runs_on : (t : ℕ) → IsRunning settled.log t
runs_on t e m end = let one = kind_five e m in let four = end.0 in omega (arith, one, four)

-- ---- what is under way

abbrev ending : Adding
ending = record { place = record { bucket = 48; cell = 0; fresh = true; tail = 32 }; number = 7; added = a_commit_end 1 }

abbrev beside : Adding
beside = record {
  place = record { bucket = 96; cell = 0; fresh = true; tail = 0 };
  number = 6;
  added = an_update (record { transaction = 2; word = 167; before = 0; after = 4; undo_next = 0 });
}

-- all but the last fence of each is made
abbrev under : ℕ → UnderWay
under zero = appends ending 21
under (suc zero) = appends beside 21
under (suc (suc p)) = nothing

can_end : CanAppend shape 0 (view 0 (log_words shape base)) (32 ∷ []) ending.place (record_of_adding ending)
unfolding fresh_words
can_end = record {
  at_rest = record {
    to_append = refl;
    to_remove = refl;
    last_tail = inl refl;
    buckets = ((0, omega arith, omega arith, refl), tt);
    no_repeats = (tt, tt);
    links = (refl, (λ e. absurd (omega (arith, e))), refl);
    links_back = (refl, tt);
    tail = refl;
  };
  is_place = record {
    bucket = (1, omega arith, omega arith, refl);
    absent = ((λ e. absurd (omega (arith, e))), tt);
    tail = refl;
    full = λ ne c lt e. (let zero_cell : c ≡ 0 = omega (arith, lt) in is_open c zero_cell e);
  };
  below = omega arith;
  at = refl;
  gate = λ e. absurd (omega (arith, e));
}
  where
    is_open : (c : ℕ) → c ≡ 0 → view 0 (log_words shape base) (cell_address 32 c) ≡ 0 → ⊥
    is_open c z e = let five_there : view 0 (log_words shape base) (cell_address 32 0) ≡ 5 = refl in
        let same = ap (λ n. view 0 (log_words shape base) (cell_address 32 n)) z in omega (arith, five_there, same, e)

can_beside : CanAppend shape 1 (view 1 (log_words shape base)) [] beside.place (record_of_adding beside)
unfolding fresh_words
can_beside = record {
  at_rest = record { to_append = refl; to_remove = refl; last_tail = inl refl; buckets = tt; no_repeats = tt; links = refl; links_back = tt; tail = refl };
  is_place = record { bucket = (4, omega arith, omega arith, refl); absent = tt; tail = refl; full = λ ne. absurd (ne refl) };
  below = omega arith;
  at = refl;
  gate = λ e. absurd (omega (arith, e));
}

-- the history's heap, and the heap that is found, in which the store of transaction 1 is made
abbrev history_heap : Words
history_heap = heap_words shape words

abbrev found : Words
found = λ a. if a == 168 then 7 else history_heap a

abbrev entry : Entry
entry = record { transaction = 1; writes = write 168 7 ∷ [] }

open_end : IsOfOpen shape settled (record_of_adding ending) 1
open_end = record {
  transaction = omega arith;
  kept = inl (five, inl refl, (refl, λ e. absurd (omega (arith, e))));
  running = record { running = runs_on 1; one_part = λ x m of. ap (λ (r : Record). part_of shape r.at) (is_five x m) };
}

update_beside : CanUpdate shape settled (record_of_adding beside)
update_beside = record {
  transaction = omega arith;
  word = (omega arith, omega arith);
  no_root = λ h. (let lt = h.1 in let e = h.2 in absurd (omega (arith, lt, e)));
  running = record { running = runs_on 2; one_part = λ x m of. (let one = owner_five x m in let two = of.0 in absurd (omega (arith, one, two))) };
  free = record {
    not_rolled = λ x m k. (let one = owner_five x m in let two = k.0.0 in absurd (omega (arith, one, two)));
    free = λ x m k. (let word = word_five x m in let same = k.0 in absurd (omega (arith, word, same)));
  };
  cells = record {
    here = (let need : need_in (part_of shape) 1 settled.log ≡ 0 = refl in omega (arith, second_room, need));
    checkpoint_here = λ two. absurd (omega (arith, two));
    checkpoint_elsewhere = λ two. absurd (omega (arith, two));
  };
}

written : AreWritten shape settled 1 found
written force a r none last = rw (sym last.has.1 ∙ word_five r last.among) (sym (ap (λ (x : Record). x.after) (is_five r last.among)))

makes : (a : ℕ) → a ≡ 168 → latest entry.writes a (history_heap a) ≡ 7
makes a e = rw e refl

leaves : (a : ℕ) → a ≢ 168 → LeavesWord entry a
leaves a ne u = let off : (168 == a) ≡ false = grind (arith, nat_tests, ne) in rw off refl

is_entry : IsEntryOf settled.log history_heap 1 entry
is_entry = record {
  deleted = λ a d. (let one = kind_five d.0 d.1 in let six = d.2.0 in absurd (omega (arith, one, six)));
  changed = λ a r none last. makes a (sym last.has.1 ∙ word_five r last.among) ∙ sym (ap (λ (x : Record). x.after) (is_five r last.among));
  others = λ a nd nc. leaves a (λ e. nc five (inl refl) (inl refl, sym e, refl));
}

in_flight : IsInFlight settled.log history_heap (entry ∷ []) 1
in_flight = record {
  front = [];
  entry = entry;
  rest = [];
  split = refl;
  own = refl;
  writes = is_entry;
  apart = λ e m. elim m [ inl k ↦ absurd k | inr k ↦ absurd k ];
  alone = λ e m. elim m [ inl k ↦ absurd k | inr k ↦ absurd k ];
}

old_beside : IsOldOf settled history_heap (entry ∷ []) (record_of_adding beside)
unfolding fresh_words
old_beside = record {
  undo_next = refl;
  own = λ r last. (let one = owner_five r last.among in let two = last.has.2 in absurd (omega (arith, one, two)));
  plain = λ none. refl;
  alone = λ e m. elim m [ inl is ↦ subst (λ f. LeavesWord f 167) (sym is) (leaves 167 (λ k. absurd (omega (arith, k)))) | inr k ↦ absurd k ];
}

appending_end : IsAppending shape base settled history_heap (entry ∷ []) found 0 ending 21
appending_end = record {
  chain = 32 ∷ [];
  can = can_end;
  ready = λ stored. record {
    passes = passes_above (record_of_adding ending) settled.log (λ x m. (let n = number_five x m in omega (arith, n)));
    can = open_end;
    serves = (written, in_flight);
  };
}

appending_beside : IsAppending shape base settled history_heap (entry ∷ []) found 1 beside 21
appending_beside = record {
  chain = [];
  can = can_beside;
  ready = λ stored. record {
    passes = passes_above (record_of_adding beside) settled.log (λ x m. (let n = number_five x m in omega (arith, n)));
    can = update_beside;
    serves = old_beside;
  };
}

runs_by : (p : ℕ) → p < 2 → IsRunningIn shape base settled history_heap (entry ∷ []) found p (under p)
runs_by zero lt = appending_end
runs_by (suc zero) lt = appending_beside
runs_by (suc (suc p)) lt = absurd (omega (arith, lt))

-- the one is number 7 of transaction 1 and an end, the other number 6 of transaction 2
added_end : (r : Record) → IsAddedIn shape 0 (under 0) r → (r.lsn ≡ 7) × (r.transaction ≡ 1) × (r.kind ≡ END)
added_end r a = (ap (λ (x : Record). x.lsn) a.1, ap (λ (x : Record). x.transaction) a.1, ap (λ (x : Record). x.kind) a.1)

added_beside : (r : Record) → IsAddedIn shape 1 (under 1) r → (r.lsn ≡ 6) × (r.transaction ≡ 2)
added_beside r a = (ap (λ (x : Record). x.lsn) a.1, ap (λ (x : Record). x.transaction) a.1)

no_end : (r : Record) → NamesWord r → r.kind ≢ END
no_end r (inl (inl one)) = λ four. omega (arith, one, four)
no_end r (inl (inr two)) = λ four. omega (arith, two, four)
no_end r (inr six) = λ four. omega (arith, six, four)

drawn_by : (p : ℕ) (r : Record) → p < 2 → IsAddedIn shape p (under p) r → r.lsn < 8
drawn_by zero r lt a = let n = (added_end r a).0 in omega (arith, n)
drawn_by (suc zero) r lt a = let n = (added_beside r a).0 in omega (arith, n)
drawn_by (suc (suc p)) r lt a = absurd a

together_by : (p q : ℕ) (r x : Record) → p < 2 → q < 2 → q ≢ p → IsAddedIn shape p (under p) r → IsAddedIn shape q (under q) x → AreTogether r x
together_by zero zero r x lp lq ne a b = absurd (ne refl)
together_by zero (suc zero) r x lp lq ne a b =
    let f = added_end r a in let g = added_beside x b in let fl = f.0 in let ft = f.1 in let gl = g.0 in let gt = g.1 in
    record { transactions = λ e. omega (arith, e, ft, gt); numbers = λ e. omega (arith, e, fl, gl); words = λ n m e. no_end r n f.2 }
together_by (suc zero) zero r x lp lq ne a b =
    let f = added_beside r a in let g = added_end x b in let fl = f.0 in let ft = f.1 in let gl = g.0 in let gt = g.1 in
    record { transactions = λ e. omega (arith, e, ft, gt); numbers = λ e. omega (arith, e, fl, gl); words = λ n m e. no_end x m g.2 }
together_by (suc zero) (suc zero) r x lp lq ne a b = absurd (ne refl)
together_by (suc (suc p)) q r x lp lq ne a b = absurd a
together_by zero (suc (suc q)) r x lp lq ne a b = absurd b
together_by (suc zero) (suc (suc q)) r x lp lq ne a b = absurd b

-- while the end isn't settled, the changed word stands at its value before
stands_by : (a : ℕ) → Stands 1 settled.log found a (history_heap a)
unfolding fresh_words
stands_by a = elim (eqb_tells a 168) [
  | inl e ↦ undone five (record { among = inl refl; has = (refl, sym e.1, runs_on 1); first = λ r m k. (let n = number_five r m in omega (arith, n)) })
      (ap history_heap e.1)
  | inr ne ↦ kept
      (λ r m u. ne.1 (sym u.1 ∙ word_five r m))
      (λ r m d. (let one = kind_five r m in let six = d.0 in omega (arith, one, six)))
      (λ r m k. (let two = k.0 in omega (arith, two)))
      (rw ne.0 refl)
]

moment : IsMoment shape base settled history_heap (entry ∷ []) under found
moment = record {
  allowed = allowed;
  has = put_five.has;
  sound = put_five.sound;
  runs = runs_by;
  together = together_by;
  in_flight = λ e m. runs_on e.transaction;
  spare = λ two. absurd (omega (arith, two));
  top = 8;
  above = λ r m. (let n = number_five r m in omega (arith, n));
  drawn = drawn_by;
  numbers = omega arith;
  standing = λ a m. stands_by a;
}
