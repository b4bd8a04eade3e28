-- An event and the keeper's step behind it.
use Rattle.std.proofs.Common.{◌≡◌, inl, inr, ℕ, ◌+◌, ◌<◌, ◌≤◌, Bool, true, false, not, nat_lt, if◌then◌else◌, List, [], length, refl, sym, ap, ◌∙◌, subst, arith}
use Rattle.std.proofs.lemmas.Bool.Decides.{nat_tests}
use Rattle.std.proofs.lemmas.Bool.{cases_lt}
use Rattle.persist_model.specs.declared.event.Event.{Event}
use Rattle.persist_model.specs.Region.{Words, Region}
use Rattle.persist_model.specs.Progress.{Tracks}
use Rattle.persist_model.specs.Runs.{progress_at}
use Rattle.persist_model.specs.Records.{Record, IsAmong}
use Rattle.persist_model.specs.Shape.{Shape, heap_words}
use Rattle.persist_model.specs.State.{State}
use Rattle.log_laws.specs.Recovering.{with_heap}
use Rattle.bucket_log.specs.declared.append.Place.{Place}
use Rattle.bucket_log.specs.Words.{IsPartWord}
use Rattle.bucket_log.specs.Appends.{chain_behind}
use Rattle.log_clearing.specs.Removals.{with_room, more_room}
use Rattle.plan_records.specs.Appends.{with_record}
use Rattle.log_keeper.specs.Parts.{LogPart, rests, appends, closes, takes_back, drops, words_behind, waits_for}
use Rattle.log_keeper.specs.Ledger.{Noted, AreNewestFirst, IsUnsettled, settled_log, left_open}
use Rattle.log_keeper.specs.Making.{is_over, settled_by, stored_if, gone_on, made_part}
use Rattle.log_keeper.specs.Logged.{Keeping, with_chain, advanced, ended, waiting, plan_in, IsLoggedAt}
use Rattle.log_keeper.specs.Laws.{HasClosed, HasDropped, LastEventEnds}
use Rattle.log_keeper.specs.Ordered.{FitsRuns}
use Rattle.log_keeper.specs.Events.{IsNextEvent, IsLastEvent, region_made, EventsGoOn, AppendsAreMade, GroupsAreMade, TakingsBackAreMade, RemovalsAreMade, AllLatchesPass}
use Rattle.log_keeper.proofs.EventsPass.{parts_go_on}
use Rattle.log_keeper.proofs.Ending.{appends_settle, removals_settle}
use Rattle.log_keeper.proofs.Groups.{groups_settle, takings_back_settle}
use Rattle.log_keeper.proofs.Ledgers.{stores, settles, closes as closed_settled, fresh}
use Rattle.log_keeper.proofs.Steps.{last_events_end}
use Rattle.log_keeper.proofs.Orders.{stage_unsettled}

-- ---- what the step makes of the keeper

pub over_not : (plan : List Event) (n : ℕ) → n < length plan → is_over plan n ≡ false
over_not plan n lt = let on : nat_lt n (length plan) ≡ true = grind (arith, nat_tests, lt) in ap not on

pub over_yes : (plan : List Event) (n : ℕ) → length plan ≤ n → is_over plan n ≡ true
over_yes plan n le = let off : nat_lt n (length plan) ≡ false = grind (arith, nat_tests, le) in ap not off

pub goes_on : (shape : Shape) (k : Keeping) (p : ℕ) → (k.runs p).made + 1 < length (plan_in shape k p) →
    made_part shape p k ≡ gone_on (is_over (plan_in shape k p) ((k.runs p).made + 2)) p (k.runs p) k
goes_on shape k p more =
    ap (λ t. if t then ended p (settled_by (k.runs p).part k.ledger) k else gone_on (is_over (plan_in shape k p) ((k.runs p).made + 2)) p (k.runs p) k)
    (over_not (plan_in shape k p) ((k.runs p).made + 1) more)

pub unsettled_of : (shape : Shape) (k : Keeping) (p : ℕ) (place : Place) (r : Record) → FitsRuns shape k → p < shape.partitions → (k.runs p).part ≡ appends place r → IsUnsettled k.ledger r
unsettled_of shape k p place r fits inside on =
    let h = fits.noted p place r inside on in (h.0, h.1, h.2, λ e. stage_unsettled (plan_in shape k p) (k.runs p).made (sym h.3 ∙ e))

stored_same : (part : LogPart) (over : Bool) (ledger : List Noted) → AreNewestFirst ledger → ((place : Place) (r : Record) → part ≡ appends place r → IsUnsettled ledger r) →
    settled_log (stored_if over part ledger) ≡ settled_log ledger
stored_same rests true ledger first noted = refl
stored_same (appends place r) true ledger first noted = stores r ledger first (noted place r refl)
stored_same (closes gates ends checkpoints) true ledger first noted = refl
stored_same (takes_back gates) true ledger first noted = refl
stored_same (drops d) true ledger first noted = refl
stored_same part false ledger first noted = refl

-- another ledger with the same settled records
with_ledger : (shape : Shape) (base : Words) (s : State) (chains : ℕ → List ℕ) (k : Keeping) (region : Region) (ledger : List Noted) → settled_log ledger ≡ settled_log k.ledger →
    IsLoggedAt shape base s chains k region → IsLoggedAt shape base s chains (record { ledger = ledger; runs = k.runs; holder = k.holder }) region
with_ledger shape base s chains k region ledger same h = record {
  size = h.size;
  allowed = h.allowed;
  has = h.has;
  records = h.records ∙ sym same;
  rest = h.rest;
  header = h.header;
  parts = h.parts;
  can = h.can;
}

module _ (shape : Shape) (base : Words) (s : State) (chains : ℕ → List ℕ) (k : Keeping) (region : Region) (p : ℕ) (e : Event) where
  -- the region behind the event
  went : IsNextEvent shape k p e → IsLoggedAt shape base s chains k region → IsLoggedAt shape base s chains (advanced p k) (region_made k p e region)
  went next h = parts_go_on shape base s chains k region p e next.inside next.held next.alone next.next h

  goes : IsNextEvent shape k p e → (k.runs p).made + 1 < length (plan_in shape k p) → AreNewestFirst k.ledger → FitsRuns shape k →
      IsLoggedAt shape base s chains k region → IsLoggedAt shape base s chains (made_part shape p k) (region_made k p e region)
  goes next more first fits h = subst (λ (x : Keeping). IsLoggedAt shape base s chains x (region_made k p e region)) (sym (goes_on shape k p more))
      (with_ledger shape base s chains (advanced p k) (region_made k p e region) (stored_if (is_over (plan_in shape k p) ((k.runs p).made + 2)) (k.runs p).part k.ledger)
      (stored_same (k.runs p).part (is_over (plan_in shape k p) ((k.runs p).made + 2)) k.ledger first (λ place r on. unsettled_of shape k p place r fits next.inside on))
      (went next h))

  module _ (part : LogPart) (last : IsLastEvent shape k p e part) (h : IsLoggedAt shape base s chains k region) where
    abbrev ends : LastEventEnds shape k p
    ends = last_events_end shape k p last.last

    abbrev left : List Noted
    left = settled_by (k.runs p).part k.ledger

    left_is : left ≡ settled_by part k.ledger
    left_is = ap (λ (x : LogPart). settled_by x k.ledger) last.under_way

    part_there : ((advanced p k).runs p).part ≡ part
    part_there = ends.part ∙ last.under_way

pub events_go_on : EventsGoOn
events_go_on shape base s chains k region p e next more first fits h = goes shape base s chains k region p e next more first fits h

pub appends_are_made : AppendsAreMade
appends_are_made shape base s chains k region p e place r last first fits h =
    subst (λ (x : Keeping). IsLoggedAt shape (words_behind shape p (appends place r) base)
    (with_heap (with_record p s r) (heap_words shape (words_behind shape p (appends place r) base))) (with_chain p (chain_behind place (chains p)) chains) x (region_made k p e region))
    (sym (ends shape base s chains k region p e (appends place r) last h).kept)
    (appends_settle shape base s chains (advanced p k) (region_made k p e region) p place r (left shape base s chains k region p e (appends place r) last h) last.event.inside
    (part_there shape base s chains k region p e (appends place r) last h) (ends shape base s chains k region p e (appends place r) last h).whole
    (λ x m. fresh r k.ledger first unsettled x (subst (λ l. IsAmong l x) h.records m))
    (ap settled_log (left_is shape base s chains k region p e (appends place r) last h) ∙ settles r k.ledger first unsettled)
    (went shape base s chains k region p e last.event h))
  where
    unsettled : IsUnsettled k.ledger r
    unsettled = unsettled_of shape k p place r fits last.event.inside last.under_way

pub groups_are_made : GroupsAreMade
groups_are_made shape base s chains k region p e gates checks checkpoints last h =
    subst (λ (x : Keeping). HasClosed shape (words_behind shape p (closes gates checks checkpoints) base) s chains x (region_made k p e region) (left_open gates checks checkpoints s.log))
    (sym (ends shape base s chains k region p e (closes gates checks checkpoints) last h).kept)
    (groups_settle shape base s chains (advanced p k) (region_made k p e region) p gates checks checkpoints
    (left shape base s chains k region p e (closes gates checks checkpoints) last h) last.event.inside
    (part_there shape base s chains k region p e (closes gates checks checkpoints) last h) (ends shape base s chains k region p e (closes gates checks checkpoints) last h).whole
    (ap settled_log (left_is shape base s chains k region p e (closes gates checks checkpoints) last h) ∙ closed_settled gates checks checkpoints k.ledger)
    (went shape base s chains k region p e last.event h))

pub takings_back_are_made : TakingsBackAreMade
takings_back_are_made shape base s chains k region p e gates last h =
    subst (λ (x : Keeping). HasClosed shape (words_behind shape p (takes_back gates) base) s chains x (region_made k p e region) (left_open gates [] [] s.log))
    (sym (ends shape base s chains k region p e (takes_back gates) last h).kept)
    (takings_back_settle shape base s chains (advanced p k) (region_made k p e region) p gates (left shape base s chains k region p e (takes_back gates) last h) last.event.inside
    (part_there shape base s chains k region p e (takes_back gates) last h) (ends shape base s chains k region p e (takes_back gates) last h).whole
    (ap settled_log (left_is shape base s chains k region p e (takes_back gates) last h) ∙ closed_settled gates [] [] k.ledger)
    (went shape base s chains k region p e last.event h))

pub removals_are_made : RemovalsAreMade
removals_are_made shape base s chains k region p e r last h =
    subst (λ (x : Keeping). HasDropped shape (words_behind shape p (drops r) base)
    (with_room s (more_room p shape.cells s.room) (heap_words shape (words_behind shape p (drops r) base))) chains x (region_made k p e region) p)
    (ap (λ (l : List Noted). ended p l (advanced p k)) (sym (left_is shape base s chains k region p e (drops r) last h))
    ∙ sym (ends shape base s chains k region p e (drops r) last h).kept)
    (removals_settle shape base s chains (advanced p k) (region_made k p e region) p r last.event.inside
    (part_there shape base s chains k region p e (drops r) last h) (ends shape base s chains k region p e (drops r) last h).whole
    (went shape base s chains k region p e last.event h))

-- ---- all latches

pub all_latches_pass : AllLatchesPass
all_latches_pass shape base s chains k region lane n free h = record {
  size = h.size;
  allowed = h.allowed;
  has = h.has;
  records = h.records;
  rest = h.rest;
  header = h.header;
  parts = λ q lt. subst (λ (w : ℕ). Tracks (IsPartWord shape q) w (progress_at base (plan_in shape k q) (k.runs q).made) region) (alike q) (h.parts q lt);
  can = h.can;
}
  where
    alike : (q : ℕ) → waiting k q ≡ waits_for (k.runs q).part (if nat_lt q n then lane else k.holder q)
    alike q = elim (cases_lt q n) [
      | inl lt ↦ (ap (λ (x : LogPart). waits_for x (k.holder q)) (free q lt) ∙ sym (ap (λ (x : LogPart). waits_for x (if nat_lt q n then lane else k.holder q)) (free q lt)))
      | inr le ↦ (let off : nat_lt q n ≡ false = grind (arith, nat_tests, le) in ap (λ t. waits_for (k.runs q).part (if t then lane else k.holder q)) (sym off))
    ]
