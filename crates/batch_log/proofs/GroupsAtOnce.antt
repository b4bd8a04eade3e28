-- A group with each record at the place of its number.
use Rattle.std.proofs.Common.{◌≡◌, ℕ, zero, suc, List, [], ◌∷◌, ◌++◌, take, drop, refl, ap, sym, subst, ◌∙◌, append_assoc}
use Rattle.persist_model.specs.Region.{Words}
use Rattle.persist_model.specs.Records.{Record, Log}
use Rattle.persist_model.specs.Shape.{Shape, log_words, heap_words}
use Rattle.persist_model.specs.State.{State}
use Rattle.persist_model.specs.Sound.{HasState}
use Rattle.log_laws.specs.Recovering.{with_heap}
use Rattle.region_layout.specs.declared.cell.Cell.{Cell}
use Rattle.plan_records.specs.Passing.{inserted}
use Rattle.plan_records.specs.Groups.{with_all}
use Rattle.batch_log.specs.Buckets.{bucket_records, free_cells}
use Rattle.batch_log.specs.States.{AreFresh}
use Rattle.batch_log.specs.Groups.{group_records, state_of, room_behind, GroupsComeAtOnce}
use Rattle.batch_log.proofs.BucketLaws.{all_inserted, with_all_is, all_gain}
use Rattle.batch_log.proofs.GroupLaws.{groups_lead}

-- the records of the first buckets come first
front_records : (cells j : ℕ) (buckets : List ℕ) (records : List Cell) → (more : List Record) × (group_records cells buckets records ≡ group_records cells (take j buckets) records ++ more)
front_records cells zero buckets records = (group_records cells buckets records, refl)
front_records cells (suc j) [] records = ([], refl)
front_records cells (suc j) (b ∷ buckets) records =
    let rest = front_records cells j buckets (drop cells records) in (
      rest.0,
      ap (λ us. bucket_records b (take cells records) ++ us) rest.1
          ∙ sym (append_assoc (bucket_records b (take cells records)) (group_records cells (take j buckets) (drop cells records)) rest.0),
    )

fresh_front : (log : Log) (us vs : List Record) → AreFresh log (us ++ vs) → AreFresh log us
fresh_front log [] vs h = tt
fresh_front log (u ∷ us) vs h = (h.0, fresh_front (inserted u log) us vs h.1)

module _ (shape : Shape) (p free : ℕ) (s : State) (buckets : List ℕ) (records : List Cell) where
  abbrev first : ℕ → List Record
  first j = group_records shape.cells (take j buckets) records

  abbrev logs : ℕ → Log
  logs j = all_inserted s.log (first j)

  same_state : (j : ℕ) (h : Words) → with_heap (state_of shape p free s buckets records logs j) h ≡ with_heap (with_all s (first j) (room_behind p free s.room j (first j))) h
  same_state zero h = refl
  same_state (suc j) h = ap (λ (x : State). with_heap x h) (sym (with_all_is s (first (suc j)) (room_behind p free s.room (suc j) (first (suc j)))))

pub groups_come_at_once : GroupsComeAtOnce
groups_come_at_once shape p z v s chain tail buckets records k ok inside has can fresh h =
    let free : ℕ = free_cells shape (log_words shape z) chain in
    let found = groups_lead.images shape p z v s chain tail buckets records (λ j. all_inserted s.log (group_records shape.cells (take j buckets) records)) k ok inside has can
    (λ j le. (let front = front_records shape.cells j buckets records in
    all_gain s.log (group_records shape.cells (take j buckets) records) has.records.newest_first
    (fresh_front s.log (group_records shape.cells (take j buckets) records) front.0 (subst (AreFresh s.log) front.1 fresh)))) h in
    (found.0, found.1, found.2, subst (HasState shape v) (same_state shape p free s buckets records found.0 (heap_words shape v)) found.3)
