-- The lanes that the book's calls leave go on with their transaction, or are answered.
use Rattle.std.proofs.Common.{◌≡◌, ◌≢◌, ℕ, zero, suc, true, List, [], ◌∷◌, length, take, refl, sym, ◌∙◌, arith}
use Rattle.region_layout.specs.declared.cell.Cell.{Cell}
use Rattle.lane_types.specs.declared.call.Call.{Call}
use Rattle.lane_types.specs.declared.call.Phase.{Phase}
use Rattle.lane_types.specs.declared.call.Refusal.{Refusal}
use Rattle.lane_types.specs.declared.call.Reply.{Reply}
use Rattle.lane_types.specs.declared.call.Reply.TheVariants.{Saved, RolledBack}
use Rattle.lane_types.specs.declared.call.Stepped.{Stepped}
use Rattle.lane_types.specs.Faces.{phase_after}
use Rattle.lane_book.specs.declared.lane.Lane.{Lane}
use Rattle.lane_book.specs.declared.lane.Doing.{Doing}
use Rattle.lane_book.specs.Lanes.{noted, moved, closed, stored_one, stored_all, saved, point_at, rolled_back, owing, refused_lane}
use Rattle.lane_book.specs.Appends.{with_update, with_group, with_rollback, with_compensation, with_end}
use Rattle.lane_book.specs.Stores.{unstored_one}
use Rattle.lane_book.proofs.WordRows.{take_whole}
use Rattle.lawful_book.specs.LawfulBooks.{is_inside}
use Rattle.lawful_book.specs.Laws.{GoesOn, IsAnswered}

-- ---- a step

pub noted_on : {E : Type 0} (answer : Stepped) (lane : Lane E) → GoesOn lane (noted answer lane)
noted_on answer lane = record {
  same = record { held = refl; begun = refl; commits = refl; transaction = refl; joined = refl; gives = refl; entry = refl };
  writes = refl;
  phase = refl;
  doing = refl;
  entered = refl;
}

pub moved_on : {E : Type 0} (part : ℕ) (lane : Lane E) → GoesOn lane (moved part lane)
moved_on part lane = record {
  same = record { held = refl; begun = refl; commits = refl; transaction = refl; joined = refl; gives = refl; entry = refl };
  writes = refl;
  phase = refl;
  doing = refl;
  entered = refl;
}

pub stored_on : {E : Type 0} (part : ℕ) (lane : Lane E) → GoesOn lane (moved part (stored_one lane))
stored_on part lane = record {
  same = record { held = refl; begun = refl; commits = refl; transaction = refl; joined = refl; gives = refl; entry = refl };
  writes = refl;
  phase = refl;
  doing = refl;
  entered = refl;
}

pub taken_back_on : {E : Type 0} (part : ℕ) (lane : Lane E) → GoesOn lane (moved part (unstored_one lane))
taken_back_on part lane = record {
  same = record { held = refl; begun = refl; commits = refl; transaction = refl; joined = refl; gives = refl; entry = refl };
  writes = refl;
  phase = refl;
  doing = refl;
  entered = refl;
}

pub update_on : {E : Type 0} (part : ℕ) (update : Cell) (lane : Lane E) → GoesOn lane (moved part (with_update update lane))
update_on part update lane = record {
  same = record { held = refl; begun = refl; commits = refl; transaction = refl; joined = refl; gives = refl; entry = refl };
  writes = refl;
  phase = refl;
  doing = refl;
  entered = refl;
}

pub group_on : {E : Type 0} (part spare : ℕ) (updates : List Cell) (lane : Lane E) → GoesOn lane (moved part (with_group updates spare lane))
group_on part spare updates lane = record {
  same = record { held = refl; begun = refl; commits = refl; transaction = refl; joined = refl; gives = refl; entry = refl };
  writes = refl;
  phase = refl;
  doing = refl;
  entered = refl;
}

pub rollback_on : {E : Type 0} (part : ℕ) (lane : Lane E) → GoesOn lane (moved part (with_rollback lane))
rollback_on part lane = record {
  same = record { held = refl; begun = refl; commits = refl; transaction = refl; joined = refl; gives = refl; entry = refl };
  writes = refl;
  phase = refl;
  doing = refl;
  entered = refl;
}

pub compensation_on : {E : Type 0} (part : ℕ) (lane : Lane E) → GoesOn lane (moved part (with_compensation lane))
compensation_on part lane = record {
  same = record { held = refl; begun = refl; commits = refl; transaction = refl; joined = refl; gives = refl; entry = refl };
  writes = refl;
  phase = refl;
  doing = refl;
  entered = refl;
}

pub end_on : {E : Type 0} (part : ℕ) (lane : Lane E) → GoesOn lane (moved part (with_end lane))
end_on part lane = record {
  same = record { held = refl; begun = refl; commits = refl; transaction = refl; joined = refl; gives = refl; entry = refl };
  writes = refl;
  phase = refl;
  doing = refl;
  entered = refl;
}

pub owing_on : {E : Type 0} (events records : ℕ) (lane : Lane E) → GoesOn lane (owing events records lane)
owing_on events records lane = record {
  same = record { held = refl; begun = refl; commits = refl; transaction = refl; joined = refl; gives = refl; entry = refl };
  writes = refl;
  phase = refl;
  doing = refl;
  entered = refl;
}

pub refused_on : {E : Type 0} (call : Call E) (refusal : Refusal) (lane : Lane E) → GoesOn lane (refused_lane call refusal lane)
refused_on call refusal lane = record {
  same = record { held = refl; begun = refl; commits = refl; transaction = refl; joined = refl; gives = refl; entry = refl };
  writes = refl;
  phase = refl;
  doing = refl;
  entered = refl;
}

-- ---- an answer

take_none : {X : Type 0} (n : ℕ) (xs : List X) → xs ≡ [] → take n xs ≡ []
take_none zero xs none = refl
take_none (suc n) [] none = refl
take_none (suc n) (x ∷ xs) none = cc

-- a call that is asked in a transaction is about it
pub inside_of : {E : Type 0} (doing : Doing) (lane : Lane E) → lane.phase ≡ Phase.Calling → lane.doing ≡ doing → is_inside Phase.Calling doing ≡ true →
    is_inside lane.phase lane.doing ≡ true
inside_of doing lane calling is on = (λ i. is_inside (calling i) (is i)) ∙ on

pub closed_answers : {E : Type 0} (reply : Reply) (lane : Lane E) → lane.doing ≢ Doing.Commit → (phase_after reply ≡ Phase.In → is_inside lane.phase lane.doing ≡ true) →
    IsAnswered reply (length lane.writes.items) lane (closed reply lane)
closed_answers reply lane other inside = record {
  same = record { held = refl; begun = refl; commits = refl; transaction = refl; joined = refl; gives = refl; entry = refl };
  writes = sym (take_whole (length lane.writes.items) lane.writes.items (omega arith));
  phase = refl;
  doing = refl;
  entered = refl;
  other = other;
  was_inside = inside;
}

pub stored_answers : {E : Type 0} (reply : Reply) (lane : Lane E) → lane.doing ≢ Doing.Commit → (phase_after reply ≡ Phase.In → is_inside lane.phase lane.doing ≡ true) →
    IsAnswered reply (length lane.writes.items) lane (closed reply (stored_one lane))
stored_answers reply lane other inside = record {
  same = record { held = refl; begun = refl; commits = refl; transaction = refl; joined = refl; gives = refl; entry = refl };
  writes = sym (take_whole (length lane.writes.items) lane.writes.items (omega arith));
  phase = refl;
  doing = refl;
  entered = refl;
  other = other;
  was_inside = inside;
}

pub all_stored_answers : {E : Type 0} (reply : Reply) (lane : Lane E) → lane.doing ≢ Doing.Commit → (phase_after reply ≡ Phase.In → is_inside lane.phase lane.doing ≡ true) →
    IsAnswered reply (length lane.writes.items) lane (closed reply (stored_all lane))
all_stored_answers reply lane other inside = record {
  same = record { held = refl; begun = refl; commits = refl; transaction = refl; joined = refl; gives = refl; entry = refl };
  writes = sym (take_whole (length lane.writes.items) lane.writes.items (omega arith));
  phase = refl;
  doing = refl;
  entered = refl;
  other = other;
  was_inside = inside;
}

pub saved_answers : {E : Type 0} (lane : Lane E) → lane.doing ≢ Doing.Commit → (phase_after (Saved (length lane.points.items)) ≡ Phase.In → is_inside lane.phase lane.doing ≡ true) →
    IsAnswered (Saved (length lane.points.items)) (length lane.writes.items) lane (saved lane)
saved_answers lane other inside = record {
  same = record { held = refl; begun = refl; commits = refl; transaction = refl; joined = refl; gives = refl; entry = refl };
  writes = sym (take_whole (length lane.writes.items) lane.writes.items (omega arith));
  phase = refl;
  doing = refl;
  entered = refl;
  other = other;
  was_inside = inside;
}

pub rolled_back_answers : {E : Type 0} (n : ℕ) (lane : Lane E) → lane.gives.items ≡ [] → lane.doing ≢ Doing.Commit → (phase_after RolledBack ≡ Phase.In → is_inside lane.phase lane.doing ≡ true) →
    IsAnswered RolledBack (point_at n lane).writes lane (rolled_back n lane)
rolled_back_answers n lane none other inside = record {
  same = record { held = refl; begun = refl; commits = refl; transaction = refl; joined = refl; gives = take_none (point_at n lane).gives lane.gives.items none ∙ sym none; entry = refl };
  writes = refl;
  phase = refl;
  doing = refl;
  entered = refl;
  other = other;
  was_inside = inside;
}
