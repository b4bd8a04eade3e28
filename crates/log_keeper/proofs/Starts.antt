-- The keeper of a region at rest.
use Rattle.std.proofs.Common.{◌≡◌, inl, inr, ℕ, ◌<◌, List, [], ◌∷◌, ◌++◌, map, reverse, refl, sym, ap, ◌∙◌, subst, arith}
use Rattle.std.proofs.lemmas.List.{reverse-append}
use Rattle.persist_model.specs.Records.{Record, Log, IsAmong}
use Rattle.bucket_log.specs.declared.scanning.Placed.{Placed}
use Rattle.bucket_log.specs.Scans.{record_of_placed}
use Rattle.persist_model.proofs.Among.{among_append}
use Rattle.log_keeper.specs.declared.ledger.Entry.{Entry}
use Rattle.log_keeper.specs.declared.slots.Slot.{Slot}
use Rattle.log_keeper.specs.Parts.{rests, appends}
use Rattle.log_keeper.specs.Ledger.{Stage, Drawn, Stored, Settled, Noted, AreNewestFirst, if_settled, settled_log}
use Rattle.log_keeper.specs.Noting.{ledger_of}
use Rattle.log_keeper.specs.Keeper.{plain_of}
use Rattle.log_keeper.specs.Ordered.{IsOrdered}
use Rattle.log_keeper.specs.Starting.{found, found_entry, starting, AreFree, AreOldestFirst, KeepersStart}
use Rattle.log_keeper.proofs.EventsPass.{regions_start}
use Rattle.log_keeper.proofs.Memory.{free_runs, free_holders}

reverse-cons : {A : Type 0} (x : A) (xs : List A) → reverse (x ∷ xs) ≡ reverse xs ++ x ∷ []
reverse-cons x xs = reverse-append (x ∷ []) xs

-- ---- the ledger

pub found_ledger : (records : List Placed) → ledger_of (map found_entry records) ≡ reverse (map found records)
found_ledger [] = refl
found_ledger (x ∷ records) = ap (λ l. l ++ found x ∷ []) (found_ledger records) ∙ sym (reverse-cons (found x) (map found records))

if_settled-append : (stage : Stage) (r : Record) (log ys : Log) → if_settled stage r (log ++ ys) ≡ if_settled stage r log ++ ys
if_settled-append Drawn r log ys = refl
if_settled-append Stored r log ys = refl
if_settled-append Settled r log ys = refl

settled-push : (ledger : List Noted) (x : Placed) → settled_log (ledger ++ found x ∷ []) ≡ settled_log ledger ++ record_of_placed x ∷ []
settled-push [] x = refl
settled-push (y ∷ ledger) x = ap (if_settled y.stage y.entry) (settled-push ledger x) ∙ if_settled-append y.stage y.entry (settled_log ledger) (record_of_placed x ∷ [])

found_settled : (records : List Placed) → settled_log (reverse (map found records)) ≡ reverse (map record_of_placed records)
found_settled [] = refl
found_settled (x ∷ records) =
    ap settled_log (reverse-cons (found x) (map found records)) ∙ settled-push (reverse (map found records)) x
    ∙ ap (λ l. l ++ record_of_placed x ∷ []) (found_settled records) ∙ sym (reverse-cons (record_of_placed x) (map record_of_placed records))

found_from : (records : List Placed) (y : Noted) → IsAmong (reverse (map found records)) y → (z : Placed) × IsAmong records z × (y ≡ found z)
found_from [] y m = absurd m
found_from (x ∷ records) y m = elim (among_append (reverse (map found records)) (found x ∷ []) y (subst (λ l. IsAmong l y) (reverse-cons (found x) (map found records)) m)) [
  | inl k ↦ (let h = found_from records y k in (h.0, inr h.1, h.2))
  | inr (inl e) ↦ (x, inl refl, e)
  | inr (inr k) ↦ absurd k
]

-- ---- the order

newest-push : (ledger : List Noted) (x : Noted) → AreNewestFirst ledger → ((y : Noted) → IsAmong ledger y → x.entry.lsn < y.entry.lsn) → AreNewestFirst (ledger ++ x ∷ [])
newest-push [] x first above = ((λ y m. absurd m), tt)
newest-push (z ∷ ledger) x first above = (
  (λ y m. elim (among_append ledger (x ∷ []) y m) [
    | inl k ↦ first.0 y k
    | inr (inl e) ↦ (let lt = above z (inl refl) in let same : y.entry.lsn ≡ x.entry.lsn = ap (λ (q : Noted). q.entry.lsn) e in omega (arith, lt, same))
    | inr (inr k) ↦ absurd k
  ]),
  newest-push ledger x first.1 (λ y m. above y (inr m)),
)

found_first : (next : ℕ) (records : List Placed) → AreOldestFirst next records → AreNewestFirst (reverse (map found records))
found_first next [] order = tt
found_first next (x ∷ records) order = subst AreNewestFirst (sym (reverse-cons (found x) (map found records)))
    (newest-push (reverse (map found records)) (found x) (found_first next records order.2)
    (λ y m. (let h = found_from records y m in let lt = order.1 h.0 h.1 in let e : y.entry.lsn ≡ h.0.cell.lsn = ap (λ (q : Noted). q.entry.lsn) h.2 in omega (arith, lt, e))))

found_below : (next : ℕ) (records : List Placed) → AreOldestFirst next records → (z : Placed) → IsAmong records z → z.cell.lsn < next
found_below next [] order z m = absurd m
found_below next (x ∷ records) order z (inl e) = let lt = order.0 in let same : z.cell.lsn ≡ x.cell.lsn = ap (λ (q : Placed). q.cell.lsn) e in omega (arith, lt, same)
found_below next (x ∷ records) order z (inr m) = found_below next records order.2 z m

pub starts_ordered : (next : ℕ) (records : List Placed) → AreOldestFirst next records → IsOrdered (starting records) next
starts_ordered next records order = record {
  newest_first = found_first next records order;
  below = λ y m. (
      let h = found_from records y m in
      let lt = found_below next records order h.0 h.1 in
      let e : y.entry.lsn ≡ h.0.cell.lsn = ap (λ (q : Noted). q.entry.lsn) h.2 in
      omega (arith, lt, e));
}

-- ---- the keeper

pub starts_so : (entries : List Entry) (slots : List Slot) (records : List Placed) → entries ≡ map found_entry records → AreFree slots → plain_of entries slots ≡ starting records
starts_so entries slots records is each = λ i. record {
  ledger = (ap ledger_of is ∙ found_ledger records) i;
  runs = λ q. free_runs slots q each i;
  holder = λ q. free_holders slots q each i;
}

pub keepers_start : KeepersStart
keepers_start = record {
  logged = λ shape base s chains records region size ok has log_is rest settled.
      regions_start shape base s chains (starting records) region size ok has (log_is ∙ sym (found_settled records)) rest settled (λ p lt. refl);
  fits = λ shape records. record {
    noted = λ p place r lt on. (let e : rests ≡ appends place r = on in cc);
    apart = λ p q place there r x lp lq ne on other. (let e : rests ≡ appends place r = on in cc);
    others = λ x m ne. (let h = found_from records x m in absurd (ne (ap (λ (q : Noted). q.stage) h.2)));
  };
}
