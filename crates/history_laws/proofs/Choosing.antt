-- How the choices of records go on, partition by partition.
use Rattle.std.proofs.Common.{◌≡◌, ◌≢◌, ◌⊎◌, inl, inr, ℕ, suc, ◌+◌, ◌<◌, ◌≤◌, List, [], refl, sym, ap, ◌∙◌, subst, arith}
use Rattle.persist_model.specs.Region.{Words}
use Rattle.persist_model.specs.Records.{Record, IsAmong, IsOf, IsEnded, IsRunning}
use Rattle.persist_model.specs.Need.{need_in}
use Rattle.persist_model.specs.Shape.{Shape, part_of, heap_words}
use Rattle.persist_model.specs.State.{State, IsSoundState}
use Rattle.log_laws.specs.Recovering.{with_heap}
use Rattle.log_laws.specs.Moves.{IsDeferred}
use Rattle.log_laws.proofs.ClosingNeeds.{need_closed}
use Rattle.log_laws.proofs.Closings.{part_among, part_cases}
use Rattle.log_laws.proofs.Deferring.{needs_left}
use Rattle.bucket_log.proofs.PartStates.{less_elsewhere}
use Rattle.bucket_log.specs.States.{less_room}
use Rattle.log_clearing.specs.Clearing.{IsClearing, IsDropping}
use Rattle.log_clearing.specs.Closed.{IsListed}
use Rattle.log_clearing.specs.Removals.{with_room}
use Rattle.log_clearing.proofs.ClosedStates.{part_map}
use Rattle.plan_records.specs.Appends.{with_record}
use Rattle.plan_records.specs.Courses.{own_records}
use Rattle.plan_records.specs.Passing.{inserted, Passes}
use Rattle.plan_records.proofs.Beside.{own_part, others_keep_own}
use Rattle.plan_records.proofs.OwnRecords.{own_beside}
use Rattle.plan_records.proofs.Passing.{inserted_out, inserted_in}
use Rattle.history_laws.specs.UnderWay.{UnderWay, IsAddedIn, IsClosedIn, IsUnderWayIn}
use Rattle.history_laws.specs.Choices.{IsChosen}
use Rattle.history_laws.proofs.Owning.{need_passing}

pub chosen_none : (shape : Shape) (under : ℕ → UnderWay) (s : State) (h : Words) → (shape.policy ≡ 2 → need_in (part_of shape) 0 s.log + 1 ≤ s.room 0) →
    IsChosen shape under 0 s (with_heap s h)
chosen_none shape under s h spare = record {
  from = λ r m. inl m;
  stays = λ r m. inl m;
  whole = λ e m end. inl m;
  own = λ t running others. refl;
  need = λ q le. omega arith;
  room = λ q le. omega arith;
  spare = spare;
}

module _ (shape : Shape) (under : ℕ → UnderWay) (n : ℕ) (s x : State) (c : IsChosen shape under n s x) where
  from_more : (r : Record) → IsAmong x.log r → IsAmong s.log r ⊎ (q : ℕ) × (q < suc n) × IsAddedIn shape q (under q) r × (part_of shape r.at ≡ q)
  from_more r m = elim (c.from r m) [ inl k ↦ inl k | inr k ↦ inr (k.0, (let lt = k.1 in omega (arith, lt)), k.2, k.3) ]

  abbrev GoesMore : Record → Type 0
  GoesMore r = (q : ℕ) × (q < suc n) × IsClosedIn (under q) r × (part_of shape r.at ≡ q)

  goes_more : (r : Record) → (q : ℕ) × (q < n) × IsClosedIn (under q) r × (part_of shape r.at ≡ q) → GoesMore r
  goes_more r k = (k.0, (let lt = k.1 in omega (arith, lt)), k.2, k.3)

  own_more : (t : ℕ) → IsRunning s.log t → ((q : ℕ) (r : Record) → q < suc n → IsUnderWayIn shape s.log q (under q) r → IsOf t r → ⊥) → own_records t x.log ≡ own_records t s.log
  own_more t running others = c.own t running (λ q r lt. others q r (omega (arith, lt)))

  -- the same records, and no less room
  pub chosen_kept : (h : Words) (room : ℕ → ℕ) → ((q : ℕ) → x.room q ≤ room q) → IsChosen shape under (suc n) s (with_room x room h)
  chosen_kept h room more = record {
    from = from_more;
    stays = λ r m. elim (c.stays r m) [ inl k ↦ inl k | inr k ↦ inr (goes_more r k) ];
    whole = c.whole;
    own = own_more;
    need = λ q le. c.need q (omega (arith, le));
    room = λ q le. (let was = c.room q (omega (arith, le)) in let now = more q in omega (arith, was, now));
    spare = λ two. (let was = c.spare two in let now = more 0 in omega (arith, was, now));
  }

  -- the record of the next partition
  pub chosen_added : (h : Words) (r : Record) → IsAddedIn shape n (under n) r → part_of shape r.at ≡ n → Passes x.log r → IsRunning s.log r.transaction →
      ((y : Record) → IsAmong x.log y → IsOf r.transaction y → part_of shape y.at ≡ part_of shape r.at) →
      (shape.policy ≡ 2 → need_in (part_of shape) 0 (inserted r x.log) + 1 ≤ less_room n x.room 0) → IsChosen shape under (suc n) s (with_heap (with_record n x r) h)
  chosen_added h r added at passes running inside spare = record {
    from = λ y m. elim (inserted_out r x.log y m) [
      | inl e ↦ inr (n, omega arith, subst (IsAddedIn shape n (under n)) (sym e) added, ap (λ (z : Record). part_of shape z.at) e ∙ at)
      | inr k ↦ from_more y k
    ];
    stays = λ y m. elim (c.stays y m) [ inl k ↦ inl (inserted_in r x.log y (inr k)) | inr k ↦ inr (goes_more y k) ];
    whole = λ e m end. elim (c.whole e m end) [
      | inl k ↦ inl (inserted_in r x.log e (inr k))
      | inr none ↦ inr (λ y k of. elim (inserted_out r x.log y k) [
        | inl is ↦ running e m (end, sym of.0 ∙ ap (λ (z : Record). z.transaction) is)
        | inr j ↦ none y j of
      ])
    ];
    own = λ t runs others. own_beside t r x.log (others n r (omega arith) (inl added)) ∙ own_more t runs others;
    need = λ q le. (
        let ne : q ≢ part_of shape r.at = (λ e. omega (arith, e, at, le)) in
        let same = need_passing (part_of shape) q r x.log passes inside ne in
        let was = c.need q (omega (arith, le)) in omega (arith, same, was));
    room = λ q le. (let same = less_elsewhere n x.room q (λ e. omega (arith, e, le)) in let was = c.room q (omega (arith, le)) in omega (arith, same, was));
    spare = spare;
  }

  -- some of a group of the next partition is closed
  pub chosen_closed : (v : Words) (gates ends : List ℕ) (g : IsClearing shape v x gates ends []) → shape.policy ≢ 2 →
      ((r : Record) → IsListed gates ends [] r → IsClosedIn (under n) r × (part_of shape r.at ≡ n)) →
      ((r : Record) → IsAmong s.log r → IsListed gates ends [] r → IsEnded s.log r.transaction) → IsChosen shape under (suc n) s g.state
  chosen_closed v gates ends g force listed ended = record {
    from = λ r m. from_more r (back r m);
    stays = λ r m. elim (c.stays r m) [
      | inr k ↦ inr (goes_more r k)
      | inl k ↦ elim (part_cases _ g.state.log x.log g.part.part r k) [
        | inl j ↦ inl j
        | inr gone ↦ (let on = listed r gone.0 in inr (n, omega arith, on.0, on.1))
      ]
    ];
    whole = λ e m end. elim (c.whole e m end) [
      | inl k ↦ elim (part_cases _ g.state.log x.log g.closing.part e k) [ inl j ↦ inl j | inr gone ↦ inr (gone.whole end) ]
      | inr none ↦ inr (λ y k of. none y (back y k) of)
    ];
    own = λ t running others. others_keep_own.closes t x.log g.state.log gates ends [] g.part (λ r m on of. off t running r m on of) ∙ own_more t running others;
    need = λ q le. (let now = need_closed (part_of shape) q shape.policy x.log (heap_words shape v) g.state.log g.closing in let was = c.need q (omega (arith, le)) in omega (arith, now, was));
    room = λ q le. (let now = g.no_less q in let was = c.room q (omega (arith, le)) in omega (arith, now, was));
    spare = λ two. absurd (force two);
  }
    where
      back : (r : Record) → IsAmong g.state.log r → IsAmong x.log r
      back r m = part_among _ g.state.log x.log g.part.part r m

      off : (t : ℕ) → IsRunning s.log t → (r : Record) → IsAmong x.log r → IsListed gates ends [] r → IsOf t r → ⊥
      off t running r m on of = elim (c.from r m) [
        | inl k ↦ (let e = ended r k on in running e.0 e.1 (e.2.0, e.2.1 ∙ of.0))
        | inr k ↦ (let here = (listed r on).1 in let there = k.3 in let lt = k.1 in omega (arith, here, there, lt))
      ]

  -- some deletions of running transactions are closed, which stand in the next partition
  pub chosen_taken_back : (v : Words) (gates : List ℕ) (g : IsDropping shape v x gates) → IsSoundState shape x →
      ((r : Record) → IsAmong gates r.at → IsClosedIn (under n) r × (part_of shape r.at ≡ n)) → ((r : Record) → IsAmong x.log r → IsAmong gates r.at → IsAmong s.log r) →
      IsChosen shape under (suc n) s g.state
  chosen_taken_back v gates g sound listed was = record {
    from = λ r m. from_more r (back r m);
    stays = λ r m. elim (c.stays r m) [
      | inr k ↦ inr (goes_more r k)
      | inl k ↦ elim (part_cases _ g.state.log x.log g.part r k) [
        | inl j ↦ inl j
        | inr gone ↦ (let on = listed r gone.1 in inr (n, omega arith, on.0, on.1))
      ]
    ];
    whole = λ e m end. elim (c.whole e m end) [
      | inl k ↦ elim (part_cases _ g.state.log x.log g.part e k) [ inl j ↦ inl j | inr gone ↦ absurd (let six = gone.0.0 in omega (arith, six, end)) ]
      | inr none ↦ inr (λ y k of. none y (back y k) of)
    ];
    own = λ t running others. own_part _ t g.state.log x.log (λ r m gone of. (let on = listed r gone.1 in others n r (omega arith) (inr (was r m gone.1, on.0, on.1)) of)) g.part ∙ own_more t running others;
    need = λ q le. (let now = less q in let was = c.need q (omega (arith, le)) in omega (arith, now, was));
    room = λ q le. (let now = g.no_less q in let was = c.room q (omega (arith, le)) in omega (arith, now, was));
    spare = λ two. (let was = c.spare two in let now = less 0 in let more = g.no_less 0 in omega (arith, was, now, more));
  }
    where
      back : (r : Record) → IsAmong g.state.log r → IsAmong x.log r
      back r m = part_among _ g.state.log x.log g.part r m

      less : (q : ℕ) → need_in (part_of shape) q g.state.log ≤ need_in (part_of shape) q x.log
      less q = needs_left x.log g.state.log (part_map _ (IsDeferred x.log) g.state.log x.log (λ d m both. both.0) g.part) (part_of shape) q sound.order
