-- Each image of each prefix of a closing has the state of some part of the closing.
use Rattle.std.proofs.Common.{◌≡◌, ◌≢◌, ◌⊎◌, inl, ℕ, Bool, true, false, ◌<◌, ◌≤◌, if◌then◌else◌, List, refl, ap, arith, nat_lt}
use Rattle.std.proofs.lemmas.Bool.{ltb-true}
use Rattle.std.proofs.lemmas.Bool.Decides.{nat_tests}
use Rattle.persist_model.specs.Region.{Words}
use Rattle.persist_model.specs.Progress.{Reaches}
use Rattle.persist_model.specs.Runs.{progress_at}
use Rattle.persist_model.specs.Records.{Record, Log, IsAmong}
use Rattle.log_laws.specs.Closing.{IsClosedBy}
use Rattle.persist_model.specs.Shape.{Shape, heap, log_words, heap_words, IsBucketOf}
use Rattle.persist_model.specs.Chain.{view, ListRules}
use Rattle.persist_model.specs.State.{State}
use Rattle.persist_model.specs.Sound.{HasState, room_of}
use Rattle.log_clearing.specs.Plans.{closing_plan}
use Rattle.log_clearing.specs.Closed.{IsClosedIn, AreGroups, IsListed}
use Rattle.log_clearing.proofs.ClosingWords.{closing_words}
use Rattle.log_clearing.proofs.ClosedStates.{left, lists_closed, removed_closed, records_closed, is_closed_by, more_room}

-- on the log words, 0 behind
closed_log : (shape : Shape) (w v : Words) (gates ends checkpoints : List ℕ) → IsClosedIn (λ a. a < heap shape) w v gates ends checkpoints →
    IsClosedIn (λ a. Unit {0}) (log_words shape w) (log_words shape v) gates ends checkpoints
closed_log shape w v gates ends checkpoints h = record {
  each = λ a m. each a (nat_lt a (heap shape)) refl;
  second = λ a b m n ne off on. two b (nat_lt b (heap shape)) refl (λ lt. h.second a b (inside a ne) lt (really a ne) off on);
  third = λ a b m n ne off away on. two b (nat_lt b (heap shape)) refl (λ lt. h.third a b (inside a ne) lt (really a ne) off away on);
}
  where
    each : (a : ℕ) (t : Bool) → nat_lt a (heap shape) ≡ t → ((if t then v a else 0) ≡ (if t then w a else 0)) ⊎ ((IsAmong gates a ⊎ IsAmong ends a ⊎ IsAmong checkpoints a) × ((if t then v a else 0) ≡ 0))
    each a true e = h.each a (ltb-true a (heap shape) e)
    each a false e = inl refl

    two : (b : ℕ) (t : Bool) → nat_lt b (heap shape) ≡ t → (b < heap shape → v b ≡ 0) → (if t then v b else 0) ≡ 0
    two b true e f = f (ltb-true b (heap shape) e)
    two b false e f = refl

    inside_of : (a : ℕ) (t : Bool) → nat_lt a (heap shape) ≡ t → ((if t then v a else 0) ≢ (if t then w a else 0)) → (a < heap shape) × (v a ≢ w a)
    inside_of a true e ne = (ltb-true a (heap shape) e, ne)
    inside_of a false e ne = absurd (ne refl)

    inside : (a : ℕ) → log_words shape v a ≢ log_words shape w a → a < heap shape
    inside a ne = (inside_of a (nat_lt a (heap shape)) refl ne).0

    really : (a : ℕ) → log_words shape v a ≢ log_words shape w a → v a ≢ w a
    really a ne = (inside_of a (nat_lt a (heap shape)) refl ne).1

-- what of the closing is done in these words
pub record HasPart (shape : Shape) (v : Words) (s : State) (gates ends checkpoints : List ℕ) : Type 0 where
  pub later : Log
  pub part : IsClosedBy (IsListed gates ends checkpoints) s.log later
  pub room : ℕ → ℕ
  pub no_less : (p : ℕ) → s.room p ≤ room p
  pub gates_open : (r : Record) → IsAmong later r → log_words shape v r.at ≢ 0
  pub state : (words : Words) → words ≡ heap_words shape v → HasState shape v (record { log = later; words = words; room = room })

abbrev room_by : Bool → ℕ → ℕ → ℕ
room_by t now was = if t then now else was

less : (now was : ℕ) (t : Bool) → (t ≡ true → was ≤ now) → was ≤ room_by t now was
less now was true h = h refl
less now was false h = omega arith

pub closing_image : (shape : Shape) (w v : Words) (s : State) (gates ends checkpoints : List ℕ) (k : ℕ) → shape.partitions ≤ 3 → HasState shape w s →
    AreGroups s.log gates ends checkpoints → Reaches (λ a. a < heap shape) (progress_at w (closing_plan gates ends checkpoints) k) v → HasPart shape v s gates ends checkpoints
closing_image shape w v s gates ends checkpoints k few has groups r =
    let closed = closed_log shape w v gates ends checkpoints (closing_words (λ a. a < heap shape) w v gates ends checkpoints k r) in
    let lw : Words = log_words shape w in
    let lv : Words = log_words shape v in
    let rules : (p : ℕ) → p < shape.partitions → ListRules (IsBucketOf shape p) (view p lw) (has.chains p) = λ p lt. (has.lists p lt).rules in
    record {
      later = (left shape few lw lv s.log has.chains gates ends checkpoints rules has.records groups closed).0;
      part = is_closed_by shape few lw lv s.log has.chains gates ends checkpoints rules has.records groups closed;
      room = λ p. room_by (nat_lt p shape.partitions) (room_of shape lv p (has.chains p)) (s.room p);
      no_less = λ p. less (room_of shape lv p (has.chains p)) (s.room p) (nat_lt p shape.partitions) (λ t.
          let was = has.room p (ltb-true p shape.partitions t) in
          let more = more_room shape few lw lv s.log has.chains gates ends checkpoints rules has.records groups closed p in
          omega (arith, was, more));
      gates_open = (left shape few lw lv s.log has.chains gates ends checkpoints rules has.records groups closed).3;
      state = λ words is. record {
        chains = has.chains;
        lists = λ p lt. record {
          rules = lists_closed shape few lw lv s.log has.chains gates ends checkpoints rules has.records groups closed p lt;
          removed = removed_closed shape few lw lv s.log has.chains gates ends checkpoints rules has.records groups closed p lt (has.lists p lt).removed;
        };
        records = records_closed shape few lw lv s.log has.chains gates ends checkpoints rules has.records groups closed;
        words = is;
        room = λ p lt. (let on : nat_lt p shape.partitions ≡ true = grind (arith, nat_tests, lt) in ap (λ t. room_by t (room_of shape lv p (has.chains p)) (s.room p)) on);
      };
    }
