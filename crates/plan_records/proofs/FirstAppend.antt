-- The conditions are met: the first update of a transaction in a fresh region of four buckets of one cell.
use Rattle.std.proofs.Common.{◌≡◌, inl, true, [], ◌∷◌, refl, arith}
use Rattle.std.specs.Prelude.{slice_index}
use Rattle.persist_model.specs.Region.{Words}
use Rattle.persist_model.specs.Records.{Record}
use Rattle.persist_model.specs.Shape.{Shape, log_words}
use Rattle.persist_model.specs.Chain.{view}
use Rattle.persist_model.specs.State.{State, IsSoundState}
use Rattle.region_layout.specs.declared.layout.Kind.TheVariants.{Cells}
use Rattle.region_layout.specs.Layout.{IsAllowed}
use Rattle.region_layout.specs.Fresh.{fresh_words, empty_state, IsEmptyRegion}
use Rattle.region_layout.proofs.Empty.{fresh_is_empty}
use Rattle.bucket_log.specs.declared.append.Place.{Place}
use Rattle.plan_records.specs.declared.parts.Update.{Update}
use Rattle.bucket_log.specs.Appends.{CanAppend}
use Rattle.plan_records.specs.Cells.{cell_of_update, appended}
use Rattle.plan_records.specs.Appends.{MayAppend, AppendKeeps}
use Rattle.plan_records.specs.Conditions.{CanUpdate, IsUpdateOf}
use Rattle.plan_records.proofs.Passing.{passes_above}
use Rattle.plan_records.proofs.Records.{updates_keep}

abbrev shape : Shape
shape = record { policy = 1; cells = 1; buckets = 4; blocks = 16; structures = 1; format = 2; partitions = 1 }

allowed : IsAllowed shape
allowed = record {
  policy = (omega arith, omega arith);
  cells = inl refl;
  buckets = (omega arith, omega arith);
  blocks = (omega arith, omega arith);
  structures = (omega arith, omega arith);
  format = (omega arith, omega arith);
  partitions = (omega arith, omega arith);
  whole = λ e. cc;
  split = omega arith;
}

abbrev words : Words
words = slice_index (fresh_words shape (Cells ∷ []))

fresh : IsEmptyRegion shape words
fresh = fresh_is_empty shape (Cells ∷ []) allowed refl

abbrev state : State
state = empty_state shape words

-- a put of 7 under key 3
abbrev update : Update
update = record { transaction = 1; word = 103; before = 0; after = 7; undo_next = 0 }

abbrev place : Place
place = record { bucket = 32; cell = 0; fresh = true; tail = 0 }

abbrev u : Record
u = appended place 1 (cell_of_update update)

all_room : state.room 0 ≡ 4
all_room = fresh.room 0

sound : IsSoundState shape state
sound = record {
  newest_first = tt;
  gates = λ r m. absurd m;
  formed = λ r m. absurd m;
  order = tt;
  room = λ p lt. record { undo = omega arith; checkpoint = λ zero two o. absurd (omega (arith, two)) };
  numbers = λ r m. absurd m;
}

can : CanAppend shape 0 (view 0 (log_words shape words)) [] place u
unfolding fresh_words
can = record {
  at_rest = record { to_append = refl; to_remove = refl; last_tail = inl refl; buckets = tt; no_repeats = tt; links = refl; links_back = tt; tail = refl };
  is_place = record { bucket = (0, omega arith, omega arith, refl); absent = tt; tail = refl; full = λ ne. absurd (ne refl) };
  below = omega arith;
  at = refl;
  gate = λ e. absurd (omega (arith, e));
}

may : MayAppend shape 0 words state [] place u
may = record {
  allowed = allowed;
  inside = omega arith;
  has = fresh.state;
  sound = sound;
  can = can;
  passes = passes_above u [] (λ x m. absurd m);
  top = 1;
  above = λ x m. absurd m;
  own = omega arith;
  numbers = omega (arith, all_room);
}

can_update : CanUpdate shape state u
can_update = record {
  transaction = omega arith;
  word = (omega arith, omega arith);
  no_root = λ h. (let lt = h.1 in let e = h.2 in absurd (omega (arith, lt, e)));
  running = record { running = λ e m end. absurd m; one_part = λ x m of. absurd m };
  free = record { not_rolled = λ x m k. absurd m; free = λ x m k. absurd m };
  cells = record { here = omega (arith, all_room); checkpoint_here = λ two. absurd (omega (arith, two)); checkpoint_elsewhere = λ two. absurd (omega (arith, two)) };
}

-- so wherever its append is stopped, each image in which the word stands at its value before is sound, with the standing words before
first_put : AppendKeeps shape 0 words state place u (IsUpdateOf shape state u)
first_put = updates_keep shape 0 words state [] place 1 update may can_update
