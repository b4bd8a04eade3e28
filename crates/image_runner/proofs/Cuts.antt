-- What a migration through a cut came to, said of the device inside.
use Rattle.std.proofs.Common.{◌≡◌, ◌≢◌, inl, inr, ℕ, ◌+◌, ◌-◌, ◌^◌, ◌<◌, ◌≤◌, ◌==◌, ◌↔◌, min, Bool, true, false, IsTrue, if◌then◌else◌, List, ◌∷◌, ◌++◌, drop, refl, sym, ◌∙◌, ap, subst, arith, slice_index, Option, Some, None, Result, Ok, Err}
use Rattle.std.proofs.lemmas.Bool.Decides.{nat_tests}
use Rattle.persist_model.specs.declared.pick.Pick.{Pick}
use Rattle.persist_model.specs.declared.pick.Pick.TheVariants.{Old, New, Mix}
use Rattle.persist_model.specs.Region.{Words, Region}
use Rattle.persist_model.specs.Shape.{SECOND_MAGIC}
use Rattle.lane_traits.specs.Device.{Counts, counted, since_load}
use Rattle.word_region.specs.Cut.{numbers, pick_numbers, cut_counts, IsCutOf, IsUsedUp}
use Rattle.image_text.specs.declared.image.Image.{Image}
use Rattle.recovery_passes.specs.declared.recovering.RecoverFault.{RecoverFault}
use Rattle.recovery_passes.specs.declared.recovering.RecoverFault.TheVariants as fault
use Rattle.migration.specs.Owed.{own_events}
use Rattle.image_runner.specs.declared.migrating.Stop.{Stop}
use Rattle.image_runner.specs.Ends.{words_of, IsLoaded}
use Rattle.image_runner.specs.Migrations.{WasMigrated, whole, stopped, WasStopped, WasBrokenOff, IsComing, IsComingTo, fault_of_cut}

-- ---- what the numbers of a device tell

drop_pick : (pick : Option Pick) (rest : List ℕ) → drop 2 (pick_numbers pick ++ rest) ≡ rest
drop_pick None rest = refl
drop_pick (Some Old) rest = refl
drop_pick (Some New) rest = refl
drop_pick (Some (Mix m)) rest = refl

drop_numbers : (c : Counts) → drop 7 (numbers c) ≡ c.origin
drop_numbers c = drop_pick c.restarts.pick c.origin

head_same : (x y : ℕ) (xs ys : List ℕ) → x ∷ xs ≡ y ∷ ys → x ≡ y
head_same x y xs ys e = ap (λ (l : List ℕ). slice_index l 0) e

tail_same : (x y : ℕ) (xs ys : List ℕ) → x ∷ xs ≡ y ∷ ys → xs ≡ ys
tail_same x y xs ys e = ap (λ (l : List ℕ). drop 1 l) e

-- what is the same of two devices whose numbers are the same
record AreSame (start c : Counts) : Type 0 where
  events : start.events ≡ c.events
  budget : start.budget ≡ c.budget
  stopped : start.stopped ≡ c.stopped
  origin : start.origin ≡ c.origin

numbers_tell : (start c : Counts) → numbers start ≡ numbers c → AreSame start c
numbers_tell start c e = record {
  events = ap (λ (l : List ℕ). slice_index l 0) e;
  budget = ap (λ (l : List ℕ). slice_index l 1) e;
  stopped = ap (λ (l : List ℕ). slice_index l 2) e;
  origin = sym (drop_numbers start) ∙ ap (drop 7) e ∙ drop_numbers c;
}

-- ---- the device inside

module _ (stop : ℕ) (first cut inner : Counts) (of : IsCutOf cut inner) (from : cut.origin ≡ stop ∷ numbers first) (fits : first.stopped < 2 ^ 64) where
  origins : of.stop ∷ numbers of.start ≡ stop ∷ numbers first
  origins = sym (ap (λ (c : Counts). c.origin) of.counts) ∙ from

  stop_is : of.stop ≡ stop
  stop_is = head_same of.stop stop (numbers of.start) (numbers first) origins

  start_is : AreSame of.start first
  start_is = numbers_tell of.start first (tail_same of.stop stop (numbers of.start) (numbers first) origins)

  events_is : inner.events ≡ cut.events
  events_is = sym (ap (λ (c : Counts). c.events) of.counts)

  restarts_is : inner.restarts ≡ cut.restarts
  restarts_is = sym (ap (λ (c : Counts). c.restarts) of.counts)

  budget_is : inner.budget ≡ first.budget
  budget_is = of.since.budget ∙ start_is.budget

  origin_is : inner.origin ≡ first.origin
  origin_is = of.since.origin ∙ start_is.origin

  pub no_further : cut.events ≤ stop + first.events
  no_further =
      let n = of.since.no_further in
      let e = events_is in
      let s = stop_is in
      let f = start_is.events in
      omega (arith, n, e, s, f)

  pub budget_of_cut : cut.budget ≡ min first.budget (stop + first.events)
  budget_of_cut =
      ap (λ (c : Counts). c.budget) of.counts
      ∙ ap (λ n. min n (of.stop + of.start.events)) budget_is
      ∙ ap (λ n. min first.budget (n + of.start.events)) stop_is
      ∙ ap (λ n. min first.budget (stop + n)) start_is.events

  stopped_by : (b : Bool) → (inner.events == of.stop + of.start.events) ≡ b → inner.stopped ≡ (if b then first.stopped else min (first.stopped + cut.stopped) (2 ^ 64 - 1))
  stopped_by b is =
      of.since.stops
      ∙ ap (λ t. if t then of.start.stopped else min (of.start.stopped + cut.stopped) (2 ^ 64 - 1)) is
      ∙ ap (λ n. if b then n else min (n + cut.stopped) (2 ^ 64 - 1)) start_is.stopped

  -- at as many events as the stop says the device inside wasn't asked
  stopped_there : cut.events ≡ stop + first.events → inner.stopped ≡ first.stopped
  stopped_there at =
      let e = events_is in
      let s = stop_is in
      let f = start_is.events in
      let same : inner.events ≡ of.stop + of.start.events = omega (arith, at, e, s, f) in
      stopped_by true (grind (arith, nat_tests, same))

  -- nor where no event was answered otherwise than as made
  stopped_nowhere : cut.stopped ≡ 0 → inner.stopped ≡ first.stopped
  stopped_nowhere none = by_test (inner.events == of.stop + of.start.events) refl
    where
      by_test : (b : Bool) → (inner.events == of.stop + of.start.events) ≡ b → inner.stopped ≡ first.stopped
      by_test true is = stopped_by true is
      by_test false is = stopped_by false is ∙ (let e : min (first.stopped + cut.stopped) (2 ^ 64 - 1) ≡ first.stopped = omega (arith, none, fits) in e)

  -- before as many it was
  stopped_before : cut.events < stop + first.events → cut.stopped ≡ 1 → inner.stopped ≡ counted first.stopped
  stopped_before less one =
      let e = events_is in
      let s = stop_is in
      let f = start_is.events in
      let apart : (inner.events == of.stop + of.start.events) ≡ false = grind (arith, nat_tests, e, s, f, less) in
      stopped_by false apart ∙ ap (λ n. min (first.stopped + n) (2 ^ 64 - 1)) one

  pub inside : (stopped' : ℕ) → inner.stopped ≡ stopped' → inner ≡ record { events = cut.events; budget = first.budget; stopped = stopped'; restarts = cut.restarts; origin = first.origin }
  inside stopped' is = λ k. record { events = events_is k; budget = budget_is k; stopped = is k; restarts = restarts_is k; origin = origin_is k }

-- ---- what it came to

-- words of format 2 take no event of their own
pub no_own : (w : Words) → w 0 ≡ SECOND_MAGIC → own_events w ≡ 0
no_own w second = ap (λ n. if n == SECOND_MAGIC then 0 else 24) second

module _ (i : Image) (stop : Stop) (region left : Region) (first cut inner : Counts) (of : IsCutOf cut inner) (fits : first.stopped < 2 ^ 64) where
  began : Counts
  began = cut_counts stop.events 0 first first

  inside_by : (c : Counts) → cut ≡ c → c.stopped ≡ 0 → c.origin ≡ stop.events ∷ numbers first
      → inner ≡ record { events = c.events; budget = first.budget; stopped = first.stopped; restarts = c.restarts; origin = first.origin }
  inside_by c is none from =
      inside stop.events first cut inner of (ap (λ (x : Counts). x.origin) is ∙ from) fits first.stopped
      (stopped_nowhere stop.events first cut inner of (ap (λ (x : Counts). x.origin) is ∙ from) fits (ap (λ (x : Counts). x.stopped) is ∙ none))
      ∙ (λ k. record { events = (is k).events; budget = first.budget; stopped = first.stopped; restarts = (is k).restarts; origin = first.origin })

  inside_loaded : IsLoaded i (cut_counts stop.events 0 first first) left cut → IsLoaded i first left inner
  inside_loaded h = record { words = h.words; unmade = inside_by (since_load (cut_counts stop.events 0 first first)) h.unmade refl refl }

  came : WasMigrated i (cut_counts stop.events 0 first first) left cut → WasStopped i stop.events first left inner
  came h =
      let origin = ap (λ (x : Counts). x.origin) h.counted in
      let events = ap (λ (x : Counts). x.events) h.counted in
      let most = no_further stop.events first cut inner of origin fits in
      record {
        admitted = h.admitted;
        each = h.migrated.each;
        events = h.events;
        within = omega (arith, events, most);
        few = h.few;
        far = whole h.migrated;
        counted = inside_by (record (since_load (cut_counts stop.events 0 first first)) { events = first.events + h.events }) h.counted refl refl;
        kept = λ finished second. record {
          settled = h.migrated.settled;
          words = h.same finished second;
          none = h.again finished ∙ no_own (words_of i) second;
        };
      }

  module _ (h : WasBrokenOff None i (cut_counts stop.events 0 first first) left cut) where
    origin_there : cut.origin ≡ stop.events ∷ numbers first
    origin_there = ap (λ (x : Counts). x.origin) h.counted

    events_there : cut.events ≡ min first.budget (stop.events + first.events)
    events_there = ap (λ (x : Counts). x.events) h.counted

    used_is : IsUsedUp cut ↔ (cut.events ≡ stop.events + first.events)
    used_is = (
      λ used. used ∙ ap (λ (l : List ℕ). slice_index l 0 + slice_index l 1) origin_there,
      λ at. at ∙ sym (ap (λ (l : List ℕ). slice_index l 0 + slice_index l 1) origin_there),
    )

    was_stopped : IsUsedUp cut → WasStopped i stop.events first left inner
    was_stopped used =
        let at = used_is.0 used in
        let events = events_there in
        let early = h.early stop.events (omega (arith, at, events)) in
        record {
          admitted = h.admitted;
          each = h.each;
          events = stop.events;
          within = omega arith;
          few = λ s n has need. (let most = early s n has need in omega (arith, most));
          far = stopped refl early;
          counted = inside stop.events first cut inner of origin_there fits first.stopped (stopped_there stop.events first cut inner of origin_there fits at)
              ∙ (λ k. record {
                events = (let e : cut.events ≡ first.events + stop.events = omega (arith, at) in e) k;
                budget = first.budget;
                stopped = first.stopped;
                restarts = ap (λ (x : Counts). x.restarts) h.counted k;
                origin = first.origin;
              });
          kept = λ finished second. absurd (h.unfinished finished second);
        }

    broke_off : (IsUsedUp cut → ⊥) → WasBrokenOff (Some stop) i first left inner
    broke_off unused =
        let most = no_further stop.events first cut inner of origin_there fits in
        let events = events_there in
        let apart : cut.events ≢ stop.events + first.events = λ at. unused (used_is.1 at) in
        let less : cut.events < stop.events + first.events = grind (arith, most, apart) in
        record {
          admitted = h.admitted;
          each = h.each;
          counted = inside stop.events first cut inner of origin_there fits (counted first.stopped)
              (stopped_before stop.events first cut inner of origin_there fits less (ap (λ (x : Counts). x.stopped) h.counted))
              ∙ (λ k. record {
                events = (let e : cut.events ≡ first.budget = omega (arith, less, events) in e) k;
                budget = first.budget;
                stopped = counted first.stopped;
                restarts = ap (λ (x : Counts). x.restarts) h.counted k;
                origin = first.origin;
              });
          early = λ n e. h.early n (omega (arith, e, less, events));
          before = λ s some. (let same : stop ≡ s = cc in let e = ap (λ (x : Stop). x.events) same in omega (arith, less, events, e));
          unfinished = h.unfinished;
        }

  pub coming_to : (result : Result ℕ RecoverFault) (used_up : Bool) → IsTrue used_up ↔ IsUsedUp cut → IsComing i region (cut_counts stop.events 0 first first) left cut result
      → IsComingTo stop i region first left inner (fault_of_cut result used_up)
  coming_to (Ok events) used_up tells h = came h
  coming_to (Err fault.Stopped) true tells h = was_stopped h (tells.0 refl)
  coming_to (Err fault.Stopped) false tells h = broke_off h (λ used. (let e = tells.1 used in cc))
  coming_to (Err (fault.Unsound found)) used_up tells h = (h.0, inside_loaded h.1)
  coming_to (Err fault.NoMemory) used_up tells (inl h) = inl (h.0, inside_by (cut_counts stop.events 0 first first) h.1 refl refl)
  coming_to (Err fault.NoMemory) used_up tells (inr h) = inr (inside_loaded h)

-- the same of what the call was given, and of what it gives back
pub came_through : (i : Image) (stop : Stop) (region region0 left0 left : Region) (first cut0 cut inner : Counts) (result : Result ℕ RecoverFault) (used_up : Bool) (why : Option RecoverFault)
    → region0 ≡ region → cut0 ≡ cut_counts stop.events 0 first first → left ≡ left0 → why ≡ fault_of_cut result used_up
    → IsCutOf cut inner → first.stopped < 2 ^ 64 → IsTrue used_up ↔ IsUsedUp cut → IsComing i region0 cut0 left0 cut result → IsComingTo stop i region first left inner why
came_through i stop region region0 left0 left first cut0 cut inner result used_up why same_region same_counts same_left is of fits tells h =
    subst (λ (x : Option RecoverFault). IsComingTo stop i region first left inner x) (sym is)
    (subst (λ (r : Region). IsComingTo stop i region first r inner (fault_of_cut result used_up)) (sym same_left)
    (coming_to i stop region left0 first cut inner of fits result used_up tells
    (subst (λ (n : Counts). IsComing i region n left0 cut result) same_counts (subst (λ (r : Region). IsComing i r cut0 left0 cut result) same_region h))))
