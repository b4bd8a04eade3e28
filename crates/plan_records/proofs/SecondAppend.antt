-- The conditions are met where a newer record of another partition is there: a lane drew number 5 in partition 0, another lane made a whole
-- append with number 6 in partition 1, and now the first lane makes its append.
use Rattle.std.proofs.Common.{◌≡◌, inl, inr, ℕ, true, [], ◌∷◌, length, refl, sym, ap, ◌∙◌, subst, arith}
use Rattle.std.specs.Prelude.{slice_index}
use Rattle.persist_model.specs.Region.{Words}
use Rattle.persist_model.specs.Runs.{progress_at}
use Rattle.persist_model.specs.Records.{Record, IsAmong}
use Rattle.persist_model.specs.Shape.{Shape, part_of, log_words, heap_words}
use Rattle.persist_model.specs.Standing.{Stands, undone, deleted, redone, kept}
use Rattle.persist_model.specs.Chain.{view}
use Rattle.persist_model.specs.Need.{need_in}
use Rattle.persist_model.specs.State.{State, IsSoundState}
use Rattle.region_layout.specs.declared.layout.Kind.TheVariants.{Cells}
use Rattle.region_layout.specs.Layout.{IsAllowed}
use Rattle.region_layout.specs.Fresh.{fresh_words, empty_state, IsEmptyRegion}
use Rattle.region_layout.proofs.Empty.{fresh_is_empty}
use Rattle.bucket_log.specs.declared.append.Place.{Place}
use Rattle.plan_records.specs.declared.parts.Update.{Update}
use Rattle.bucket_log.specs.Appends.{CanAppend, region_append}
use Rattle.plan_records.specs.Cells.{cell_of_update, appended}
use Rattle.plan_records.specs.Passing.{MayPass, Passes}
use Rattle.plan_records.specs.Appends.{MayAppend, seen, Keeps, with_record, AppendKeeps}
use Rattle.plan_records.specs.Conditions.{CanUpdate, IsUpdateOf}
use Rattle.plan_records.proofs.Passing.{passes_above}
use Rattle.plan_records.proofs.Records.{updates_keep}

-- four buckets of one cell in each of two partitions
abbrev shape : Shape
shape = record { policy = 1; cells = 1; buckets = 8; blocks = 16; structures = 1; format = 2; partitions = 2 }

allowed : IsAllowed shape
allowed = record {
  policy = (omega arith, omega arith);
  cells = inl refl;
  buckets = (omega arith, omega arith);
  blocks = (omega arith, omega arith);
  structures = (omega arith, omega arith);
  format = (omega arith, omega arith);
  partitions = (omega arith, omega arith);
  whole = λ e. cc;
  split = omega arith;
}

abbrev words : Words
words = slice_index (fresh_words shape (Cells ∷ []))

fresh : IsEmptyRegion shape words
fresh = fresh_is_empty shape (Cells ∷ []) allowed refl

abbrev state : State
state = empty_state shape words

first_room : state.room 0 ≡ 4
first_room = fresh.room 0

second_room : state.room 1 ≡ 4
second_room = fresh.room 1

sound : IsSoundState shape state
sound = record {
  newest_first = tt;
  gates = λ r m. absurd m;
  formed = λ r m. absurd m;
  order = tt;
  room = λ p lt. record { undo = omega arith; checkpoint = λ zero two o. absurd (omega (arith, two)) };
  numbers = λ r m. absurd m;
}

-- ---- number 6 in partition 1

abbrev other_update : Update
other_update = record { transaction = 2; word = 167; before = 0; after = 4; undo_next = 0 }

abbrev other_place : Place
other_place = record { bucket = 96; cell = 0; fresh = true; tail = 0 }

abbrev six : Record
six = appended other_place 6 (cell_of_update other_update)

can_six : CanAppend shape 1 (view 1 (log_words shape words)) [] other_place six
unfolding fresh_words
can_six = record {
  at_rest = record { to_append = refl; to_remove = refl; last_tail = inl refl; buckets = tt; no_repeats = tt; links = refl; links_back = tt; tail = refl };
  is_place = record { bucket = (4, omega arith, omega arith, refl); absent = tt; tail = refl; full = λ ne. absurd (ne refl) };
  below = omega arith;
  at = refl;
  gate = λ e. absurd (omega (arith, e));
}

may_six : MayAppend shape 1 words state [] other_place six
may_six = record {
  allowed = allowed;
  inside = omega arith;
  has = fresh.state;
  sound = sound;
  can = can_six;
  passes = passes_above six [] (λ x m. absurd m);
  top = 6;
  above = λ x m. absurd m;
  own = omega arith;
  numbers = omega (arith, first_room, second_room);
}

update_six : CanUpdate shape state six
update_six = record {
  transaction = omega arith;
  word = (omega arith, omega arith);
  no_root = λ h. (let lt = h.1 in let e = h.2 in absurd (omega (arith, lt, e)));
  running = record { running = λ e m end. absurd m; one_part = λ x m of. absurd m };
  free = record { not_rolled = λ x m k. absurd m; free = λ x m k. absurd m };
  cells = record { here = omega (arith, second_room); checkpoint_here = λ two. absurd (omega (arith, two)); checkpoint_elsewhere = λ two. absurd (omega (arith, two)) };
}

-- the words behind that append
abbrev later_words : Words
later_words = (progress_at words (region_append shape 1 other_place six) (length (region_append shape 1 other_place six))).durable

heap_is_fresh : heap_words shape later_words 167 ≡ 0
unfolding fresh_words
heap_is_fresh = refl

is_update_six : IsUpdateOf shape state six (heap_words shape later_words)
is_update_six = record { undo_next = refl; last = refl; standing = λ v st. inr (by v st) }
  where
    by : (v : ℕ) → Stands 1 [] (heap_words shape later_words) 167 v → 0 ≡ v
    by v (undone u first e) = absurd first.among
    by v (deleted none d e) = absurd d.1
    by v (redone nu nd r last e) = absurd last.among
    by v (kept nu nd nr e) = sym (e ∙ heap_is_fresh)

put_six : Keeps shape later_words state (with_record 1 state six)
put_six = (updates_keep shape 1 words state [] other_place 6 other_update may_six update_six).whole later_words is_update_six (λ a m. inl refl)

abbrev later : State
later = seen shape later_words (with_record 1 state six)

-- ---- number 5 in partition 0

abbrev own_update : Update
own_update = record { transaction = 1; word = 168; before = 0; after = 7; undo_next = 0 }

abbrev own_place : Place
own_place = record { bucket = 32; cell = 0; fresh = true; tail = 0 }

abbrev five : Record
five = appended own_place 5 (cell_of_update own_update)

-- the log is in the order of the numbers
comes_behind : (with_record 0 later five).log ≡ six ∷ five ∷ []
comes_behind = refl

-- the words of partition 0 are as they were
can_five : CanAppend shape 0 (view 0 (log_words shape later_words)) [] own_place five
unfolding fresh_words
can_five = record {
  at_rest = record { to_append = refl; to_remove = refl; last_tail = inl refl; buckets = tt; no_repeats = tt; links = refl; links_back = tt; tail = refl };
  is_place = record { bucket = (0, omega arith, omega arith, refl); absent = tt; tail = refl; full = λ ne. absurd (ne refl) };
  below = omega arith;
  at = refl;
  gate = λ e. absurd (omega (arith, e));
}

number_six : (x : Record) → IsAmong later.log x → x.lsn ≡ 6
number_six x (inl e) = ap (λ (r : Record). r.lsn) e
number_six x (inr m) = absurd m

may_pass : (x : Record) → IsAmong later.log x → MayPass five x
may_pass x (inr m) = absurd m
may_pass x (inl e) = subst (λ (y : Record). MayPass five y) (sym e) (record {
  other = λ of. (let same = of.0 in omega (arith, same));
  no_checkpoint = λ k. omega (arith, k);
  word = λ names names_x same. omega (arith, same);
})

passes : Passes later.log five
passes = record {
  fresh = λ x m same. (let n = number_six x m in omega (arith, n, same));
  newer = λ x m lt. may_pass x m;
  checkpoint = λ check. absurd (omega (arith, check));
}

may_five : MayAppend shape 0 later_words later [] own_place five
may_five = record {
  allowed = allowed;
  inside = omega arith;
  has = put_six.has;
  sound = put_six.sound;
  can = can_five;
  passes = passes;
  top = 7;
  above = λ x m. (let n = number_six x m in omega (arith, n));
  own = omega arith;
  numbers = omega (arith, first_room, second_room);
}

-- nothing of partition 0 is needed for the other transaction
no_need : need_in (part_of shape) 0 later.log ≡ 0
no_need = refl

update_five : CanUpdate shape later five
update_five = record {
  transaction = omega arith;
  word = (omega arith, omega arith);
  no_root = λ h. (let lt = h.1 in let e = h.2 in absurd (omega (arith, lt, e)));
  running = record {
    running = λ e m end. (let k = one e m in let four = end.0 in absurd (omega (arith, k, four)));
    one_part = λ x m of. (let k = two x m in let own = of.0 in absurd (omega (arith, k, own)));
  };
  free = record {
    not_rolled = λ x m k. (let n = one x m in let three = k.1 in absurd (omega (arith, n, three)));
    free = λ x m k. (let n = word x m in let same = k.0 in absurd (omega (arith, n, same)));
  };
  cells = record {
    here = omega (arith, first_room, no_need);
    checkpoint_here = λ k. absurd (omega (arith, k));
    checkpoint_elsewhere = λ k. absurd (omega (arith, k));
  };
}
  where
    one : (x : Record) → IsAmong later.log x → x.kind ≡ 1
    one x (inl e) = ap (λ (r : Record). r.kind) e
    one x (inr m) = absurd m

    two : (x : Record) → IsAmong later.log x → x.transaction ≡ 2
    two x (inl e) = ap (λ (r : Record). r.transaction) e
    two x (inr m) = absurd m

    word : (x : Record) → IsAmong later.log x → x.word ≡ 167
    word x (inl e) = ap (λ (r : Record). r.word) e
    word x (inr m) = absurd m

-- so wherever its append is stopped, each image in which the word stands at its value before is sound, with the standing words before
put_five : AppendKeeps shape 0 later_words later own_place five (IsUpdateOf shape later five)
put_five = updates_keep shape 0 later_words later [] own_place 5 own_update may_five update_five
