-- Each image stands for the history and some of the flight: partition by partition, from the settled words to the image's.
use Rattle.std.proofs.Common.{◌≡◌, ◌⊎◌, inl, inr, ℕ, zero, suc, ◌+◌, ◌<◌, ◌≤◌, false, List, [], length, refl, sym, ◌∙◌, subst, arith}
use Rattle.std.proofs.lemmas.Bool.{cases_lt}
use Rattle.std.proofs.lemmas.Bool.Decides.{eqb_tells}
use Rattle.persist_model.specs.Region.{Words}
use Rattle.persist_model.specs.Progress.{Reaches, Wrote}
use Rattle.persist_model.specs.Runs.{progress_at}
use Rattle.persist_model.specs.Records.{Log, IsAmong}
use Rattle.persist_model.specs.Standing.{Stands}
use Rattle.persist_model.specs.Shape.{Shape, shape_of, heap, log_words, heap_words}
use Rattle.persist_model.specs.Chain.{view}
use Rattle.persist_model.specs.State.{State}
use Rattle.log_laws.specs.Recovering.{with_heap}
use Rattle.bucket_log.specs.Words.{IsPartWord}
use Rattle.bucket_log.specs.Appends.{CanAppend, region_append}
use Rattle.bucket_log.proofs.PartWords.{decide_part_word, appends_are_on_part, own_words_take}
use Rattle.bucket_log.proofs.Partitions.{part_words_apart, part_word_below, few_parts}
use Rattle.log_clearing.specs.Plans.{closing_plan}
use Rattle.log_clearing.specs.Clearing.{AreDeferred}
use Rattle.log_clearing.specs.Closed.{AreGroups}
use Rattle.log_clearing.specs.Removals.{region_removal}
use Rattle.log_clearing.proofs.ClearingStates.{sound_with_heap}
use Rattle.log_clearing.proofs.PartPlans.{removals_are_on_part, closings_are_on_part, own_words_drop}
use Rattle.plan_records.specs.Appends.{MayStandAt}
use Rattle.log_keeper.specs.Parts.{plan_of}
use Rattle.log_keeper.specs.Logged.{waiting, IsReached}
use Rattle.log_keeper.proofs.EventsPass.{tracked_images_reach}
use Rattle.log_keeper.proofs.Reading.{keepers_track}
use Rattle.log_keeper.proofs.Progressing.{only_gates}
use Rattle.history_laws.specs.Histories.{Entry, fold}
use Rattle.history_laws.specs.Stands.{has_commit}
use Rattle.history_laws.specs.UnderWay.{record_of_adding, UnderWay, nothing, appends, closes, takes_back, drops, run_of, runs_of, IsAddedIn}
use Rattle.history_laws.specs.Choices.{HasChoice}
use Rattle.history_laws.specs.Moments.{IsRunningIn, IsMoment}
use Rattle.history_laws.specs.Stands.{IsHeader}
use Rattle.history_laws.specs.Laws.{ImagesHaveChoices, ImagesStand, RegionsStand, KeptRegionsStand}
use Rattle.history_laws.proofs.Folding.{commit_cases, value_none}
use Rattle.history_laws.proofs.Headers.{header_below, header_is_none's, stands_for}
use Rattle.history_laws.proofs.PartWords.{some_part, replaced, replaced_in, replaced_out, reached_there, view_replaced, heap_words_alike, same_state}
use Rattle.history_laws.proofs.Conditions.{added_plain}
use Rattle.history_laws.proofs.Choosing.{chosen_none}
use Rattle.history_laws.proofs.Stepping.{step_nothing, step_drop, step_close, step_take_back, step_waits, step_stored}

-- deletions of running transactions are a group of a closing
deferred_groups : (log : Log) (gates : List ℕ) → AreDeferred log gates → AreGroups log gates [] []
deferred_groups log gates deferred = record {
  of_gates = λ a m. (let d = deferred a m in let six = d.2.1.0 in (d.0, d.1, (d.2.0, (λ four. absurd (omega (arith, four, six))), (λ five. absurd (omega (arith, five, six))))));
  of_ends = λ a m. absurd m;
  of_checkpoints = λ a m. absurd m;
}

module _ (shape : Shape) (base : Words) (s : State) (h : Words) (flight : List Entry) (under : ℕ → UnderWay) (i : Words)
    (moment : IsMoment shape base s h flight under (heap_words shape i)) (reached : IsReached shape base (runs_of under) i) where
  -- the image's words in the first n partitions and in the heap, the settled ones elsewhere
  record IsMixed (n : ℕ) (w : Words) : Type 0 where
    own : (q a : ℕ) → q < n → IsPartWord shape q a → w a ≡ i a
    others : (a : ℕ) → a < heap shape → ((q : ℕ) → q < n → IsPartWord shape q a → ⊥) → w a ≡ base a
    behind : (a : ℕ) → heap shape ≤ a → w a ≡ i a

  abbrev Choice : ℕ → Words → Type 0
  Choice n w = HasChoice shape under s h flight (heap_words shape i) n w

  first_choice : (w : Words) → IsMixed 0 w → Choice 0 w
  first_choice w mixed = record {
    state = with_heap s (heap_words shape w);
    has = same_state shape base w s (λ a lt. mixed.others a lt (λ q none. absurd (omega (arith, none)))) moment.has;
    sound = sound_with_heap shape s (heap_words shape w) moment.sound;
    chosen = chosen_none shape under s (heap_words shape w) moment.spare;
    standing = λ a m. subst (λ u. Stands shape.policy s.log (heap_words shape i) a u) (sym (value_none flight s.log a (h a) running)) (moment.standing a m);
  }
    where
      running : (e : Entry) → IsAmong flight e → has_commit e.transaction s.log ≡ false
      running e m = elim (commit_cases e.transaction s.log) [ inl k ↦ absurd (moment.in_flight e m k.1.0 k.1.1 k.1.2.0) | inr k ↦ k.0 ]

  -- from n partitions to one more
  module _ (n : ℕ) (inside : n < shape.partitions) (w : Words) (mixed : IsMixed (suc n) w) where
    before : Words
    before = replaced shape n base w

    apart : (q a : ℕ) → q < n → IsPartWord shape q a → IsPartWord shape n a → ⊥
    apart q a lt m k = part_words_apart shape n q a moment.allowed inside (omega (arith, lt, inside)) (λ e. omega (arith, e, lt)) m k

    before_mixed : IsMixed n before
    unfolding before
    before_mixed = record {
      own = λ q a lt m. replaced_out shape n base w a (apart q a lt m) ∙ mixed.own q a (omega (arith, lt)) m;
      others = λ a lt none. elim (decide_part_word shape n a) [
        | inl m ↦ replaced_in shape n base w a m
        | inr off ↦ replaced_out shape n base w a off ∙ mixed.others a lt (λ q le m. elim (eqb_tells q n) [
          | inl e ↦ off (subst (λ p. IsPartWord shape p a) e.1 m)
          | inr ne ↦ none q (let other = ne.1 in omega (arith, le, other)) m
        ])
      ];
      behind = λ a le. replaced_out shape n base w a (λ m. (let lt = part_word_below shape n a moment.allowed inside m in omega (arith, le, lt))) ∙ mixed.behind a le;
    }

    alike : heap_words shape w ≡ heap_words shape i
    alike = heap_words_alike shape i w mixed.behind

    part_reached : Reaches (IsPartWord shape n) (progress_at base (plan_of shape n (run_of (under n)).part) (run_of (under n)).made) w
    part_reached a m = subst (λ u. (u ≡ (progress_at base (plan_of shape n (run_of (under n)).part) (run_of (under n)).made).durable a) ⊎
        Wrote (progress_at base (plan_of shape n (run_of (under n)).part) (run_of (under n)).made).pending a u) (sym (mixed.own n a (omega arith) m)) (reached.parts n inside a m)

    next_choice : Choice n before → (u : UnderWay) → under n ≡ u → IsRunningIn shape base s h flight (heap_words shape i) n u →
        Reaches (IsPartWord shape n) (progress_at base (plan_of shape n (run_of u).part) (run_of u).made) w → Choice (suc n) w
    unfolding before
    next_choice choice nothing is runs there = step_nothing shape base s h flight under (heap_words shape i) moment n inside before w alike choice
        (λ a lt. elim (decide_part_word shape n a) [
          | inl m ↦ (elim (there a m) [ inl e ↦ e | inr k ↦ absurd k ]) ∙ sym (replaced_in shape n base w a m)
          | inr off ↦ sym (replaced_out shape n base w a off)
        ])
    next_choice choice (drops r made) is can there = step_drop shape base s h flight under (heap_words shape i) moment n inside before w alike choice r made
        (own_words_drop shape n (view n (log_words shape base)) (view n (log_words shape before)) r (view_replaced shape n base w moment.allowed inside) can)
        (reached_there shape n base w (region_removal n r) made (removals_are_on_part shape n (view n (log_words shape base)) r can) there)
    next_choice choice (closes gates ends made) is group there = step_close shape base s h flight under (heap_words shape i) moment n inside before w alike choice gates ends made is group
        (reached_there shape n base w (closing_plan gates ends []) made (closings_are_on_part shape n base s gates ends [] moment.allowed moment.has group.groups group.here) there)
    next_choice choice (takes_back gates made) is taking there = step_take_back shape base s h flight under (heap_words shape i) moment n inside before w alike choice gates made is taking
        (reached_there shape n base w (closing_plan gates [] []) made
        (closings_are_on_part shape n base s gates [] [] moment.allowed moment.has (deferred_groups s.log gates taking.deferred) (λ d m on. taking.here d m (only_gates gates d.at on))) there)
    next_choice choice (appends x made) is runs there = elim (cases_lt (length (region_append shape n x.place (record_of_adding x))) (made + 2)) [
      | inr early ↦ step_waits shape base s h flight under (heap_words shape i) moment n inside before w alike choice x.place x.number x.added made runs.chain can early made_there
      | inl stored ↦ (
          let ready = runs.ready stored in
          step_stored shape base s h flight under (heap_words shape i) moment n inside before w alike choice x.place x.number x.added made runs.chain can
          (subst (λ u. IsAddedIn shape n u (record_of_adding x)) (sym is) (stored, refl)) (added_plain x) ready.passes ready.can ready.serves made_there)
    ]
      where
        can : CanAppend shape n (view n (log_words shape before)) runs.chain x.place (record_of_adding x)
        can = own_words_take.append shape n (view n (log_words shape base)) (view n (log_words shape before)) runs.chain x.place (record_of_adding x) (view_replaced shape n base w moment.allowed inside) runs.can

        made_there : MayStandAt shape before (region_append shape n x.place (record_of_adding x)) made w
        made_there = reached_there shape n base w (region_append shape n x.place (record_of_adding x)) made
            (appends_are_on_part shape n (view n (log_words shape base)) runs.chain x.place (record_of_adding x) inside runs.can) there

  choices : (n : ℕ) → n ≤ shape.partitions → (w : Words) → IsMixed n w → Choice n w
  choices zero le w mixed = first_choice w mixed
  choices (suc n) le w mixed = next_choice n (omega (arith, le)) w mixed (choices n (omega (arith, le)) (before n (omega (arith, le)) w mixed) (before_mixed n (omega (arith, le)) w mixed))
      (under n) refl (moment.runs n (omega (arith, le))) (part_reached n (omega (arith, le)) w mixed)

  pub image_choice : Choice shape.partitions i
  image_choice = choices shape.partitions (omega arith) i (record { own = λ q a lt m. refl; others = outside; behind = λ a le. refl })
    where
      outside : (a : ℕ) → a < heap shape → ((q : ℕ) → q < shape.partitions → IsPartWord shape q a → ⊥) → i a ≡ base a
      outside a lt none = elim (cases_lt a 32) [
        | inl low ↦ reached.header a low none
        | inr high ↦ (let p = some_part shape a moment.allowed high lt in absurd (none p.0 p.1 p.2))
      ]

-- ---- the laws

pub images_have_choices : ImagesHaveChoices
images_have_choices shape base s h flight under i moment reached = image_choice shape base s h flight under i moment reached

pub images_stand : ImagesStand
images_stand size base s start history flight under i is moment reached =
    stands_for size base i is header start history flight choice.state choice.has choice.sound choice.standing
  where
    header : (a : ℕ) → IsHeader a → i a ≡ base a
    header a k = reached.header a (header_below a k) (λ p lt m. header_is_none's (shape_of base) p a (few_parts (shape_of base) p moment.allowed lt) k m)

    choice : HasChoice (shape_of base) under s (fold start history) flight (heap_words (shape_of base) i) (shape_of base).partitions i
    choice = images_have_choices (shape_of base) base s (fold start history) flight under i moment reached

pub regions_stand : RegionsStand
regions_stand base s start history flight under holder region is tracked moments i image =
    images_stand region.size base s start history flight under i is (moments i image)
    (tracked_images_reach (shape_of base) base (runs_of under) holder region i (moments i image).allowed tracked image)

pub kept_regions_stand : KeptRegionsStand
kept_regions_stand base s chains k region start history flight under is logged same moments i image =
    regions_stand base s start history flight under (waiting k) region is (keepers_track (shape_of base) base s chains k region (runs_of under) same logged) moments i image
