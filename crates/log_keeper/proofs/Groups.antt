-- The last event of a group of a closing.
use Rattle.std.proofs.Common.{◌≡◌, ◌≢◌, ◌⊎◌, inl, inr, ℕ, ◌<◌, ◌==◌, ◌||◌, Bool, true, false, cond, nat_lt, if◌then◌else◌, List, [], ◌∷◌, length, refl, sym, ap, ◌∙◌, subst, arith}
use Rattle.std.proofs.lemmas.Bool.Decides.{eqb_tells}
use Rattle.persist_model.specs.Region.{Words, Region}
use Rattle.persist_model.specs.Progress.{Reaches, start, advance_all}
use Rattle.persist_model.specs.Runs.{progress_at}
use Rattle.persist_model.specs.Records.{Record, Log, IsAmong, Has}
use Rattle.persist_model.specs.Shape.{Shape, IsBucketOf, heap, heap_words, log_words, part_of}
use Rattle.persist_model.specs.Chain.{view, out_address}
use Rattle.persist_model.specs.ImageRecords.{cell_address}
use Rattle.persist_model.specs.State.{State}
use Rattle.persist_model.specs.Sound.{HasState}
use Rattle.log_laws.specs.Closing.{IsSublog, empty, stays, goes}
use Rattle.log_laws.proofs.SameLists.{chain_buckets}
use Rattle.log_laws.proofs.Views.{out_cases, out_behind, view-out}
use Rattle.region_layout.specs.Layout.{IsAllowed}
use Rattle.atomic_list.specs.Rules.{IsListWord, IsAtRest}
use Rattle.atomic_list.proofs.Repairs.{still}
use Rattle.bucket_log.proofs.Addresses.{list_word_is_no_cell}
use Rattle.bucket_log.proofs.AppendImages.{Each-among}
use Rattle.bucket_log.proofs.Partitions.{few_parts, registers_below}
use Rattle.bucket_log.proofs.PartStates.{log_words_same}
use Rattle.log_clearing.specs.Plans.{closing_plan}
use Rattle.log_clearing.specs.Closed.{AreGroups}
use Rattle.log_clearing.specs.Clearing.{ClosingLeaves}
use Rattle.log_clearing.proofs.ClearingStates.{closings_end}
use Rattle.log_clearing.proofs.ClosedStates.{part_in}
use Rattle.log_clearing.proofs.ClosingImages.{HasPart, closing_image}
use Rattle.log_keeper.specs.Parts.{closes, takes_back, words_behind, IsListedGate, CanRun}
use Rattle.log_keeper.specs.Ledger.{Noted, is_in, is_listed, settled_log, left_open}
use Rattle.log_keeper.specs.Laws.{HasClosed, GroupsSettle, TakingsBackSettle}
use Rattle.log_keeper.specs.Logged.{Keeping, with_chain, ended, IsLoggedAt}
use Rattle.log_keeper.proofs.Ending.{reached, ends}
use Rattle.log_keeper.proofs.Progressing.{by_part, deletion_groups, only_gates}

-- ---- what is listed

either_left : (s t : Bool) → s ≡ true → s || t ≡ true
either_left s t e = rw e refl

either_right : (s t : Bool) → t ≡ true → s || t ≡ true
either_right true t e = refl
either_right false t e = e

either : (s t : Bool) → s || t ≡ true → (s ≡ true) ⊎ (t ≡ true)
either true t h = inl refl
either false t h = inr h

pub in_told : (gates : List ℕ) (a : ℕ) → IsAmong gates a → is_in gates a ≡ true
in_told [] a m = absurd m
in_told (b ∷ gates) a (inl e) = elim (eqb_tells b a) [ inl h ↦ either_left (b == a) (is_in gates a) h.0 | inr h ↦ absurd (h.1 (sym e)) ]
in_told (b ∷ gates) a (inr m) = either_right (b == a) (is_in gates a) (in_told gates a m)

pub in_found : (gates : List ℕ) (a : ℕ) → is_in gates a ≡ true → IsAmong gates a
in_found [] a h = absurd (cc)
in_found (b ∷ gates) a h = elim (eqb_tells b a) [
  | inl e ↦ inl (sym e.1)
  | inr e ↦ inr (in_found gates a (elim (either (b == a) (is_in gates a) h) [ inl f ↦ absurd (let off = e.0 in cc) | inr f ↦ f ]))
]

pub listed_told : (gates ends checkpoints : List ℕ) (a : ℕ) → IsListedGate gates ends checkpoints a → is_listed gates ends checkpoints a ≡ true
listed_told gates ends checkpoints a (inl m) = either_left (is_in gates a) (is_in ends a || is_in checkpoints a) (in_told gates a m)
listed_told gates ends checkpoints a (inr (inl m)) =
    either_right (is_in gates a) (is_in ends a || is_in checkpoints a) (either_left (is_in ends a) (is_in checkpoints a) (in_told ends a m))
listed_told gates ends checkpoints a (inr (inr m)) =
    either_right (is_in gates a) (is_in ends a || is_in checkpoints a) (either_right (is_in ends a) (is_in checkpoints a) (in_told checkpoints a m))

pub listed_found : (gates ends checkpoints : List ℕ) (a : ℕ) → is_listed gates ends checkpoints a ≡ true → IsListedGate gates ends checkpoints a
listed_found gates ends checkpoints a h = elim (either (is_in gates a) (is_in ends a || is_in checkpoints a) h) [
  | inl e ↦ inl (in_found gates a e)
  | inr f ↦ elim (either (is_in ends a) (is_in checkpoints a) f) [ inl e ↦ inr (inl (in_found ends a e)) | inr e ↦ inr (inr (in_found checkpoints a e)) ]
]

-- a part of a log without listed records, beyond which are listed ones alone
left_of : (gates ends checkpoints : List ℕ) (P : Record → Type 0) (later log : Log) → ((r : Record) → P r → is_listed gates ends checkpoints r.at ≡ true) →
    ((r : Record) → IsAmong later r → is_listed gates ends checkpoints r.at ≡ false) → IsSublog P later log → later ≡ left_open gates ends checkpoints log
left_of gates ends checkpoints P _ _ on off empty = refl
left_of gates ends checkpoints P _ _ on off (stays r {later = later} {log = log} part) =
    let e = off r (inl refl) in
    rw e (ap (λ l. r ∷ l) (left_of gates ends checkpoints P later log on (λ x m. off x (inr m)) part))
left_of gates ends checkpoints P _ _ on off (goes r {later = later} {log = log} p part) =
    let e = on r p in
    rw e (left_of gates ends checkpoints P later log on off part)

pub not_true : (t : Bool) → (t ≡ true → ⊥) → t ≡ false
not_true true h = absurd (h refl)
not_true false h = refl

zero_log : (shape : Shape) (w : Words) (a : ℕ) → w a ≡ 0 → log_words shape w a ≡ 0
zero_log shape w a e = by (nat_lt a (heap shape))
  where
    by : (t : Bool) → cond t (w a) 0 ≡ 0
    by true = e
    by false = refl

-- ---- the group

module _ (shape : Shape) (base : Words) (s : State) (has : HasState shape base s) (ok : IsAllowed shape) (p : ℕ) (inside : p < shape.partitions) (gates ends checkpoints : List ℕ)
    (groups : AreGroups s.log gates ends checkpoints) where
  -- where a listed gate stands
  record IsCell (a : ℕ) : Type 0 where
    part : ℕ
    bucket : ℕ
    place : ℕ
    is_bucket : IsBucketOf shape part bucket
    below : place < shape.cells
    is : a ≡ cell_address bucket place

  record_of_gate : (a : ℕ) → IsListedGate gates ends checkpoints a → Has (λ r. r.at ≡ a) s.log
  record_of_gate a (inl m) = let k = groups.of_gates a m in (k.0, k.1, k.2.0)
  record_of_gate a (inr (inl m)) = let k = groups.of_ends a m in (k.0, k.1, k.2.0)
  record_of_gate a (inr (inr m)) = let k = groups.of_checkpoints a m in (k.0, k.1, k.2.0)

  cell_of : (a : ℕ) → IsListedGate gates ends checkpoints a → IsCell a
  cell_of a m =
      let r = record_of_gate a m in
      let k = (has.records.each r.0).0 r.1 in
      record {
        part = k.0;
        bucket = k.2.bucket;
        place = k.2.place;
        is_bucket = Each-among (IsBucketOf shape k.0) (has.chains k.0) k.2.bucket (chain_buckets (IsBucketOf shape k.0) (view k.0 (log_words shape base)) (has.chains k.0) (has.lists k.0 k.1).rules) k.2.is_among;
        below = k.2.below;
        is = sym r.2 ∙ ap (λ (x : Record). x.at) k.2.is;
      }

  -- it is no word of a list
  pub no_list_word : (a : ℕ) → IsListWord shape p a → IsListedGate gates ends checkpoints (out_address p a) → ⊥
  no_list_word a (inl h) on = elim (out_cases p a) [
    | inl k ↦ (
        let e = k.2 in let low = h.0 in let high = h.1 in
        let to = registers_below p (out_address p a) (few_parts shape p ok inside) (omega (arith, e, low, high)) in
        let c = cell_of (out_address p a) on in
        let b = c.is_bucket.3 in
        let f = c.is in
        omega (arith, to, b, f))
    | inr k ↦ (let low = h.0 in let high = h.1 in elim k.0 [ inl z ↦ absurd (omega (arith, z, low)) | inr z ↦ absurd (omega (arith, z, high)) ])
  ]
  no_list_word a (inr h) on =
      let above = h.1.3 in
      let behind : 12 < a = elim h.2 [ inl e ↦ omega (arith, e, above) | inr e ↦ omega (arith, e, above) ] in
      let c = cell_of (out_address p a) on in
      let below = c.below in
      let f : a ≡ cell_address c.bucket c.place = sym (out_behind p a behind) ∙ c.is in
      list_word_is_no_cell shape p c.part a c.bucket (inr h) c.is_bucket (omega (arith, f)) (omega (arith, f, below))

  leaves : ClosingLeaves base gates ends checkpoints (advance_all (start base) (closing_plan gates ends checkpoints))
  leaves = closings_end base gates ends checkpoints

  -- the list is as it was
  pub list_same : (a : ℕ) → IsListWord shape p a → view p (log_words shape (words_behind shape p (closes gates ends checkpoints) base)) a ≡ view p (log_words shape base) a
  list_same a m = view-out p (log_words shape (words_behind shape p (closes gates ends checkpoints) base)) a
      ∙ log_words_same shape base (words_behind shape p (closes gates ends checkpoints) base) (out_address p a) (λ lt. leaves.others (out_address p a) (no_list_word a m))
      ∙ sym (view-out p (log_words shape base) a)

-- what a whole closing of these gates leaves, where its part is known to end so
group_closes : (shape : Shape) (base : Words) (s : State) (chains : ℕ → List ℕ) (k : Keeping) (region : Region) (p : ℕ) (gates checks checkpoints : List ℕ) (ledger : List Noted) →
    p < shape.partitions → AreGroups s.log gates checks checkpoints → ((a : ℕ) → IsListedGate gates checks checkpoints a → part_of shape a ≡ p) →
    settled_log ledger ≡ left_open gates checks checkpoints (settled_log k.ledger) → IsLoggedAt shape base s chains k region →
    let behind = (advance_all (start base) (closing_plan gates checks checkpoints)).durable in
    Reaches (λ a. a < heap shape) (progress_at base (closing_plan gates checks checkpoints) (length (closing_plan gates checks checkpoints))) behind →
    ((x : State) → HasState shape behind x → x.log ≡ settled_log ledger → IsAtRest shape p (view p (log_words shape behind)) (chains p) →
    ((q : ℕ) → q < shape.partitions → q ≢ p → (r : Record) → part_of shape r.at ≡ q → IsAmong s.log r → IsAmong x.log r) →
    IsLoggedAt shape behind x (with_chain p (chains p) chains) (ended p ledger k) region) →
    HasClosed shape behind s chains (ended p ledger k) region (left_open gates checks checkpoints s.log)
group_closes shape base s chains k region p gates checks checkpoints ledger inside groups here log_is h reached ends = record {
  state = x;
  log_is = log_left;
  no_less = part.no_less;
  logged = subst (λ c. IsLoggedAt shape behind x c (ended p ledger k) region) same_chains
      (ends x (part.state (heap_words shape behind) refl)
      (log_left ∙ ap (left_open gates checks checkpoints) h.records ∙ sym log_is)
      (still shape p (view p (log_words shape base)) (view p (log_words shape behind)) (chains p) (h.rest p inside) (list_same shape base s h.has h.allowed p inside gates checks checkpoints groups))
      (λ q lt ne r at m. part_in _ part.later s.log part.part.part r m (λ on. ne (sym at ∙ here r.at on.0))));
}
  where
    behind : Words
    behind = (advance_all (start base) (closing_plan gates checks checkpoints)).durable

    part : HasPart shape behind s gates checks checkpoints
    part = closing_image shape base behind s gates checks checkpoints (length (closing_plan gates checks checkpoints)) h.allowed.partitions.1 h.has groups reached

    x : State
    x = record { log = part.later; words = heap_words shape behind; room = part.room }

    log_left : part.later ≡ left_open gates checks checkpoints s.log
    log_left = left_of gates checks checkpoints _ part.later s.log (λ r on. listed_told gates checks checkpoints r.at on.0)
        (λ r m. not_true (is_listed gates checks checkpoints r.at) (λ on. part.gates_open r m
        (zero_log shape behind r.at ((closings_end base gates checks checkpoints).closed r.at (listed_found gates checks checkpoints r.at on))))) part.part.part

    same_chains : with_chain p (chains p) chains ≡ chains
    same_chains = λ i q. by_part (λ n t. (if t then chains p else chains n) ≡ chains n) p q refl (λ ne. refl) i

pub groups_settle : GroupsSettle
groups_settle shape base s chains k region p gates checks checkpoints ledger inside is whole log_is h =
    group_closes shape base s chains k region p gates checks checkpoints ledger inside can.0 can.1 log_is h
    (reached shape base s chains k region p (closes gates checks checkpoints) inside is whole none h)
    (λ x has records rest there. ends shape base s chains k region p (closes gates checks checkpoints) inside is whole none h x (chains p) ledger has records rest there)
  where
    none : (advance_all (start base) (closing_plan gates checks checkpoints)).pending ≡ []
    none = (closings_end base gates checks checkpoints).nothing_pending

    can : CanRun shape p base s (chains p) (closes gates checks checkpoints)
    can = subst (CanRun shape p base s (chains p)) is (h.can p inside)

pub takings_back_settle : TakingsBackSettle
takings_back_settle shape base s chains k region p gates ledger inside is whole log_is h =
    group_closes shape base s chains k region p gates [] [] ledger inside (deletion_groups s.log gates can.0) (λ a on. can.1 a (only_gates gates a on)) log_is h
    (reached shape base s chains k region p (takes_back gates) inside is whole none h)
    (λ x has records rest there. ends shape base s chains k region p (takes_back gates) inside is whole none h x (chains p) ledger has records rest there)
  where
    none : (advance_all (start base) (closing_plan gates [] [])).pending ≡ []
    none = (closings_end base gates [] []).nothing_pending

    can : CanRun shape p base s (chains p) (takes_back gates)
    can = subst (CanRun shape p base s (chains p)) is (h.can p inside)
