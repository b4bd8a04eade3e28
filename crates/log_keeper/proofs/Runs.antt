-- The ledger fits the runs, as parts begin, go on and end.
use Rattle.std.proofs.Common.{◌≡◌, ◌≢◌, inl, inr, ℕ, suc, ◌+◌, ◌<◌, Bool, true, false, not, nat_lt, if◌then◌else◌, List, [], ◌∷◌, ◌++◌, length, refl, sym, ap, ◌∙◌, subst, arith, length-append}
use Rattle.std.proofs.lemmas.Bool.Decides.{nat_tests}
use Rattle.std.proofs.lemmas.List.{length-map}
use Rattle.persist_model.specs.Region.{Words, Region}
use Rattle.persist_model.specs.Records.{Record, IsAmong}
use Rattle.persist_model.specs.Shape.{Shape, IsBucketOf, part_of}
use Rattle.persist_model.specs.Chain.{out_event}
use Rattle.persist_model.specs.State.{State}
use Rattle.atomic_list.specs.Plans.{insertion}
use Rattle.region_layout.specs.Layout.{IsAllowed}
use Rattle.bucket_log.specs.declared.append.Place.{Place}
use Rattle.bucket_log.specs.Plans.{closing, cell_plan, insertion_of, append_plan}
use Rattle.bucket_log.specs.Places.{IsPlaceBy}
use Rattle.bucket_log.specs.Appends.{CanAppend, region_append}
use Rattle.bucket_log.proofs.AppendImages.{Each-among}
use Rattle.bucket_log.proofs.Partitions.{part_of_cell}
use Rattle.log_keeper.specs.Parts.{LogPart, rests, appends, closes, takes_back, drops, Running, plan_of, CanRun}
use Rattle.log_keeper.specs.Ledger.{Stage, Drawn, Stored, Settled, Noted, AreNewestFirst}
use Rattle.log_keeper.specs.Making.{is_over, settled_by, stored_if, gone_on, made_part}
use Rattle.log_keeper.specs.Keeper.{begun_in, appending}
use Rattle.log_keeper.specs.Logged.{Keeping, with_run, resting, one_more, begun, ended, plan_in, IsLoggedAt}
use Rattle.log_keeper.specs.Ordered.{IsOrdered, IsNotedAt, stage_behind, FitsRuns, Spares, IsNoAppend, RunsKeep, PartsSpare}
use Rattle.log_keeper.proofs.Progressing.{by_part, only_gates}
use Rattle.log_keeper.proofs.Ledgers.{one_entry, left_among}
use Rattle.log_keeper.proofs.Orders.{staged_here, staged_other, staged_from, noted_left, stage_unsettled}

abbrev IsAddedBy : Shape → (ℕ → Running) → Noted → Type 0
IsAddedBy shape runs x = (p : ℕ) × (p < shape.partitions) × (place : Place) × ((runs p).part ≡ appends place x.entry)

-- another partition's run has not changed
added_beside : (shape : Shape) (p : ℕ) (run : Running) (runs : ℕ → Running) (x : Noted) (q : ℕ) (place : Place) → q < shape.partitions → q ≢ p →
    (runs q).part ≡ appends place x.entry → IsAddedBy shape (with_run p run runs) x
added_beside shape p run runs x q place lt ne is =
    (q, lt, place, by_part (λ n t. q ≡ n → (if t then run else runs n).part ≡ appends place x.entry) p q (λ e. absurd (ne e)) (λ off e. is) refl)

-- a part that adds nothing is not one that adds
rests_adds : (place : Place) (r : Record) → rests ≢ appends place r
rests_adds place r e = cc

lsn_of : (place there : Place) (r x : Record) → appends place r ≡ appends there x → r.lsn ≡ x.lsn
lsn_of place there r x e = cc

-- ---- the last event

settled_noted : (k : Keeping) (part : LogPart) (r : Record) (stage : Stage) → stage ≢ Settled → Spares part k.ledger → ((place : Place) (x : Record) → part ≡ appends place x → r.lsn ≢ x.lsn) →
    IsNotedAt k.ledger r stage → IsNotedAt (settled_by part k.ledger) r stage
settled_noted k rests r stage ne spares other h = h
settled_noted k (appends place x) r stage ne spares other h = staged_other x.lsn Settled k.ledger r stage (other place x refl) h
settled_noted k (closes gates ends checkpoints) r stage ne spares other h = noted_left gates ends checkpoints k.ledger r stage spares ne h
settled_noted k (takes_back gates) r stage ne spares other h = noted_left gates [] [] k.ledger r stage spares ne h
settled_noted k (drops d) r stage ne spares other h = h

settled_others : (shape : Shape) (p : ℕ) (k : Keeping) (part : LogPart) → (k.runs p).part ≡ part → FitsRuns shape k → (x : Noted) → IsAmong (settled_by part k.ledger) x → x.stage ≢ Settled →
    IsAddedBy shape (with_run p resting k.runs) x
settled_others shape p k part is fits x m ne = by part is m
  where
    further : (part : LogPart) → (k.runs p).part ≡ part → ((place : Place) → part ≢ appends place x.entry) → IsAmong k.ledger x → IsAddedBy shape (with_run p resting k.runs) x
    further part is none m =
        let h = fits.others x m ne in
        added_beside shape p resting k.runs x h.0 h.2 h.1 (λ e. none h.2 (sym is ∙ ap (λ q. (k.runs q).part) (sym e) ∙ h.3)) h.3

    by : (part : LogPart) → (k.runs p).part ≡ part → IsAmong (settled_by part k.ledger) x → IsAddedBy shape (with_run p resting k.runs) x
    by rests is m = further rests is (λ place e. cc) m
    by (appends place r) is m = elim (staged_from r.lsn Settled k.ledger x m) [
      | inl old ↦ further (appends place r) is (λ there e. old.1 (sym (lsn_of place there r x.entry e))) old.0
      | inr new ↦ absurd (ne new.4)
    ]
    by (closes gates ends checkpoints) is m = further (closes gates ends checkpoints) is (λ place e. cc) (left_among gates ends checkpoints k.ledger x m)
    by (takes_back gates) is m = further (takes_back gates) is (λ place e. cc) (left_among gates [] [] k.ledger x m)
    by (drops d) is m = further (drops d) is (λ place e. cc) m

ended_fits : (shape : Shape) (p : ℕ) (k : Keeping) (part : LogPart) → (k.runs p).part ≡ part → p < shape.partitions → Spares part k.ledger → FitsRuns shape k →
    FitsRuns shape (ended p (settled_by part k.ledger) k)
ended_fits shape p k part is inside spares fits = record {
  noted = λ q place r lt on. by_part (λ n t. n < shape.partitions → (run n t).part ≡ appends place r →
      IsNotedAt (settled_by part k.ledger) r (stage_behind (plan_of shape n (run n t).part) (run n t).made)) p q
      (λ lt on. absurd (rests_adds place r on))
      (λ ne lt on. settled_noted k part r (stage_behind (plan_in shape k q) (k.runs q).made) (stage_unsettled (plan_in shape k q) (k.runs q).made) spares
      (λ there x e. fits.apart p q there place x r inside lt ne (is ∙ e) on) (fits.noted q place r lt on)) lt on;
  apart = λ a b place there r x la lb ne on other. by_part (λ n t. n < shape.partitions → (run n t).part ≡ appends place r → b ≢ n → x.lsn ≢ r.lsn) p a
      (λ la on. absurd (rests_adds place r on))
      (λ na la on ne. by_part (λ n t. n < shape.partitions → (run n t).part ≡ appends there x → n ≢ a → x.lsn ≢ r.lsn) p b
      (λ lb other. absurd (rests_adds there x other))
      (λ nb lb other ne. fits.apart a b place there r x la lb ne on other) lb other ne) la on ne;
  others = λ x m ne. settled_others shape p k part is fits x m ne;
}
  where
    run : ℕ → Bool → Running
    run n t = if t then resting else k.runs n

-- ---- an event that isn't the last

next_count : (n : ℕ) → suc n + 1 ≡ n + 2
next_count n = omega arith

gone_noted : (p : ℕ) (k : Keeping) (part : LogPart) (store : Bool) (r : Record) (stage : Stage) → ((place : Place) (x : Record) → part ≡ appends place x → r.lsn ≢ x.lsn) →
    IsNotedAt k.ledger r stage → IsNotedAt (stored_if store part k.ledger) r stage
gone_noted p k rests true r stage other h = h
gone_noted p k (appends place x) true r stage other h = staged_other x.lsn Stored k.ledger r stage (other place x refl) h
gone_noted p k (closes gates ends checkpoints) true r stage other h = h
gone_noted p k (takes_back gates) true r stage other h = h
gone_noted p k (drops d) true r stage other h = h
gone_noted p k part false r stage other h = h

gone_here : (k : Keeping) (place : Place) (r : Record) (store : Bool) → IsNotedAt k.ledger r Drawn → IsNotedAt (stored_if store (appends place r) k.ledger) r (if store then Stored else Drawn)
gone_here k place r true h = staged_here r.lsn Stored k.ledger r Drawn refl h
gone_here k place r false h = h

gone_others : (shape : Shape) (p : ℕ) (k : Keeping) (part : LogPart) (store : Bool) → (k.runs p).part ≡ part → p < shape.partitions → AreNewestFirst k.ledger → FitsRuns shape k →
    (x : Noted) → IsAmong (stored_if store part k.ledger) x → x.stage ≢ Settled → IsAddedBy shape k.runs x
gone_others shape p k rests true is inside first fits x m ne = fits.others x m ne
gone_others shape p k (appends place r) true is inside first fits x m ne = elim (staged_from r.lsn Stored k.ledger x m) [
  | inl old ↦ fits.others x old.0 ne
  | inr new ↦ (
      let h = fits.noted p place r inside is in
      let same : new.0 ≡ h.0 = one_entry k.ledger new.0 h.0 first new.1 h.1 (ap (λ (q : Record). q.lsn) new.2 ∙ new.3 ∙ sym (ap (λ (q : Record). q.lsn) h.2)) in
      let entry : x.entry ≡ r = sym new.2 ∙ ap (λ (q : Noted). q.entry) same ∙ h.2 in
      (p, inside, place, is ∙ ap (appends place) (sym entry)))
]
gone_others shape p k (closes gates ends checkpoints) true is inside first fits x m ne = fits.others x m ne
gone_others shape p k (takes_back gates) true is inside first fits x m ne = fits.others x m ne
gone_others shape p k (drops d) true is inside first fits x m ne = fits.others x m ne
gone_others shape p k part false is inside first fits x m ne = fits.others x m ne

part_stays : (p q : ℕ) (k : Keeping) → (with_run p (one_more (k.runs p)) k.runs q).part ≡ (k.runs q).part
part_stays p q k = by_part (λ n t. (if t then one_more (k.runs p) else k.runs n).part ≡ (k.runs n).part) p q refl (λ ne. refl)

gone_fits : (shape : Shape) (p : ℕ) (k : Keeping) (store : Bool) → is_over (plan_in shape k p) ((k.runs p).made + 1) ≡ false → is_over (plan_in shape k p) ((k.runs p).made + 2) ≡ store →
    p < shape.partitions → AreNewestFirst k.ledger → FitsRuns shape k → FitsRuns shape (gone_on store p (k.runs p) k)
gone_fits shape p k store on_going store_is inside first fits = record {
  noted = λ q place r lt on. by_part (λ n t. n < shape.partitions → (run n t).part ≡ appends place r →
      IsNotedAt (stored_if store (k.runs p).part k.ledger) r (stage_behind (plan_of shape n (run n t).part) (run n t).made)) p q
      (λ lt on. here place r on)
      (λ ne lt on. gone_noted p k (k.runs p).part store r (stage_behind (plan_in shape k q) (k.runs q).made)
      (λ there x e. fits.apart p q there place x r inside lt ne e on) (fits.noted q place r lt on)) lt on;
  apart = λ a b place there r x la lb ne on other. fits.apart a b place there r x la lb ne (sym (part_stays p a k) ∙ on) (sym (part_stays p b k) ∙ other);
  others = λ x m ne. (let h = gone_others shape p k (k.runs p).part store refl inside first fits x m ne in (h.0, h.1, h.2, part_stays p h.0 k ∙ h.3));
}
  where
    run : ℕ → Bool → Running
    run n t = if t then one_more (k.runs p) else k.runs n

    here : (place : Place) (r : Record) → (k.runs p).part ≡ appends place r →
        IsNotedAt (stored_if store (k.runs p).part k.ledger) r (stage_behind (plan_in shape k p) (suc (k.runs p).made))
    here place r on =
        let drawn : IsNotedAt k.ledger r Drawn = subst (λ t. IsNotedAt k.ledger r (if t then Stored else Drawn)) on_going (fits.noted p place r inside on) in
        let later : stage_behind (plan_in shape k p) (suc (k.runs p).made) ≡ (if store then Stored else Drawn) =
        ap (λ n. if is_over (plan_in shape k p) n then Stored else Drawn) (next_count (k.runs p).made) ∙ ap (λ t. if t then Stored else Drawn) store_is in
        subst (λ part. IsNotedAt (stored_if store part k.ledger) r (stage_behind (plan_in shape k p) (suc (k.runs p).made))) (sym on)
        (subst (IsNotedAt (stored_if store (appends place r) k.ledger) r) (sym later) (gone_here k place r store drawn))

made_fits : (shape : Shape) (p : ℕ) (k : Keeping) → p < shape.partitions → AreNewestFirst k.ledger → Spares (k.runs p).part k.ledger → FitsRuns shape k → FitsRuns shape (made_part shape p k)
made_fits shape p k inside first spares fits = by (is_over (plan_in shape k p) ((k.runs p).made + 1)) refl
  where
    by : (t : Bool) → is_over (plan_in shape k p) ((k.runs p).made + 1) ≡ t →
        FitsRuns shape (if t then ended p (settled_by (k.runs p).part k.ledger) k else gone_on (is_over (plan_in shape k p) ((k.runs p).made + 2)) p (k.runs p) k)
    by true e = ended_fits shape p k (k.runs p).part refl inside spares fits
    by false e = gone_fits shape p k (is_over (plan_in shape k p) ((k.runs p).made + 2)) e refl inside first fits

-- ---- a part begins

two_events : (shape : Shape) (p : ℕ) (place : Place) (r : Record) → 1 < length (region_append shape p place r)
two_events shape p place r =
    let e = length-map (append_plan shape.cells place r) (out_event p) in
    let f = length-append (if place.fresh then closing place.bucket shape.cells ++ insertion (insertion_of place) else []) (cell_plan r) in
    omega (arith, e, f)

starts_drawn : (shape : Shape) (p : ℕ) (place : Place) (r : Record) → stage_behind (region_append shape p place r) 0 ≡ Drawn
starts_drawn shape p place r =
    let lt = two_events shape p place r in
    let on : nat_lt 1 (length (region_append shape p place r)) ≡ true = grind (arith, nat_tests, lt) in
    ap (λ t. if not t then Stored else Drawn) on

record_of : (place there : Place) (r x : Record) → appends place r ≡ appends there x → r ≡ x
record_of place there r x e = cc

noted_below : (k : Keeping) (next : ℕ) (r : Record) (stage : Stage) → IsOrdered k next → IsNotedAt k.ledger r stage → r.lsn < next
noted_below k next r stage ordered h = let lt = ordered.below h.0 h.1 in let e : h.0.entry.lsn ≡ r.lsn = ap (λ (q : Record). q.lsn) h.2 in omega (arith, lt, e)

-- the record of an append under way isn't the one that is drawn
fresh_lsn : (shape : Shape) (next q : ℕ) (there : Place) (r x : Record) (k : Keeping) → r.lsn ≡ next → IsOrdered k next → FitsRuns shape k → q < shape.partitions →
    (k.runs q).part ≡ appends there x → x.lsn ≢ r.lsn
fresh_lsn shape next q there r x k is ordered fits lt on same = let below = noted_below k next x _ ordered (fits.noted q there x lt on) in omega (arith, below, is, same)

-- nothing is added where the partition rests
rests_beside : (shape : Shape) (p : ℕ) (run : Running) (k : Keeping) (x : Noted) → (k.runs p).part ≡ rests → IsAddedBy shape k.runs x → IsAddedBy shape (with_run p run k.runs) x
rests_beside shape p run k x free h =
    added_beside shape p run k.runs x h.0 h.2 h.1 (λ e. rests_adds h.2 x.entry (sym free ∙ ap (λ q. (k.runs q).part) (sym e) ∙ h.3)) h.3

appends_fit : (shape : Shape) (p next : ℕ) (place : Place) (r : Record) (k : Keeping) → p < shape.partitions → (k.runs p).part ≡ rests → r.lsn ≡ next → IsOrdered k next → FitsRuns shape k →
    FitsRuns shape (appending p place r k)
appends_fit shape p next place r k inside free is ordered fits = record {
  noted = λ q there x lt on. by_part (λ n t. n < shape.partitions → (run n t).part ≡ appends there x →
      IsNotedAt ledger x (stage_behind (plan_of shape n (run n t).part) (run n t).made)) p q
      (λ lt on. subst (λ (y : Record). IsNotedAt ledger y (stage_behind (region_append shape p place r) 0)) (record_of place there r x on)
      (subst (λ st. IsNotedAt ledger r st) (sym (starts_drawn shape p place r)) (drawn, inl refl, refl, refl)))
      (λ ne lt on. (let h = fits.noted q there x lt on in (h.0, inr h.1, h.2, h.3))) lt on;
  apart = λ a b at there y x la lb ne on other. by_part (λ n t. n < shape.partitions → (run n t).part ≡ appends at y → b ≢ n → x.lsn ≢ y.lsn) p a
      (λ la on ne. by_part (λ n t. n < shape.partitions → (run n t).part ≡ appends there x → n ≢ p → x.lsn ≢ y.lsn) p b
      (λ lb other off. absurd (off refl))
      (λ nb lb other off. subst (λ (z : Record). x.lsn ≢ z.lsn) (record_of place at r y on) (fresh_lsn shape next b there r x k is ordered fits lb other)) lb other ne)
      (λ na la on ne. by_part (λ n t. n < shape.partitions → (run n t).part ≡ appends there x → n ≢ a → x.lsn ≢ y.lsn) p b
      (λ lb other off same. fresh_lsn shape next a at r y k is ordered fits la on (sym same ∙ sym (ap (λ (z : Record). z.lsn) (record_of place there r x other))))
      (λ nb lb other off. fits.apart a b at there y x la lb off on other) lb other ne) la on ne;
  others = λ x m ne. elim m [
    | inl e ↦ (p, inside, place, by_part (λ n t. n ≡ p → (run n t).part ≡ appends place x.entry) p p (λ e'. ap (λ (z : Noted). appends place z.entry) (sym e)) (λ off e'. absurd (off refl)) refl)
    | inr old ↦ rests_beside shape p (begun (appends place r)) k x free (fits.others x old ne)
  ];
}
  where
    drawn : Noted
    drawn = record { lane = k.holder p; entry = r; stage = Drawn }

    ledger : List Noted
    ledger = record { lane = k.holder p; entry = r; stage = Drawn } ∷ k.ledger

    run : ℕ → Bool → Running
    run n t = if t then begun (appends place r) else k.runs n

begins_fit : (shape : Shape) (p : ℕ) (part : LogPart) (k : Keeping) → p < shape.partitions → (k.runs p).part ≡ rests → IsNoAppend part → FitsRuns shape k →
    FitsRuns shape (begun_in p part k.ledger k)
begins_fit shape p part k inside free none fits = record {
  noted = λ q there x lt on. by_part (λ n t. n < shape.partitions → (run n t).part ≡ appends there x →
      IsNotedAt k.ledger x (stage_behind (plan_of shape n (run n t).part) (run n t).made)) p q
      (λ lt on. absurd (none there x on)) (λ ne lt on. fits.noted q there x lt on) lt on;
  apart = λ a b at there y x la lb ne on other. by_part (λ n t. n < shape.partitions → (run n t).part ≡ appends at y → b ≢ n → x.lsn ≢ y.lsn) p a
      (λ la on ne. absurd (none at y on))
      (λ na la on ne. by_part (λ n t. n < shape.partitions → (run n t).part ≡ appends there x → n ≢ a → x.lsn ≢ y.lsn) p b
      (λ lb other off. absurd (none there x other))
      (λ nb lb other off. fits.apart a b at there y x la lb off on other) lb other ne) la on ne;
  others = λ x m ne. rests_beside shape p (begun part) k x free (fits.others x m ne);
}
  where
    run : ℕ → Bool → Running
    run n t = if t then begun part else k.runs n

stays_fit : (shape : Shape) (k x : Keeping) → x.ledger ≡ k.ledger → x.runs ≡ k.runs → FitsRuns shape k → FitsRuns shape x
stays_fit shape k x ledger runs fits = record {
  noted = λ p place r lt on. subst (λ (f : ℕ → Running). IsNotedAt x.ledger r (stage_behind (plan_of shape p (f p).part) (f p).made)) (sym runs)
      (subst (λ l. IsNotedAt l r (stage_behind (plan_in shape k p) (k.runs p).made)) (sym ledger) (fits.noted p place r lt (sym (ap (λ (f : ℕ → Running). (f p).part) runs) ∙ on)));
  apart = λ a b at there y z la lb ne on other. fits.apart a b at there y z la lb ne (sym (ap (λ (f : ℕ → Running). (f a).part) runs) ∙ on) (sym (ap (λ (f : ℕ → Running). (f b).part) runs) ∙ other);
  others = λ y m ne. (let h = fits.others y (subst (λ l. IsAmong l y) ledger m) ne in (h.0, h.1, h.2, ap (λ (f : ℕ → Running). (f h.0).part) runs ∙ h.3));
}

pub runs_keep : RunsKeep
runs_keep = record { appends = appends_fit; begins = begins_fit; made = made_fits; stays = stays_fit }

-- ---- a closing spares what is under way

append_part : (shape : Shape) (p : ℕ) (w : Words) (chain : List ℕ) (place : Place) (r : Record) → IsAllowed shape → p < shape.partitions → CanAppend shape p w chain place r → part_of shape r.at ≡ p
append_part shape p w chain place r ok inside can = ap (part_of shape) can.at ∙ part_of_cell shape p place.bucket place.cell ok inside (by place.fresh can.is_place) can.below
  where
    by : (fresh : Bool) → IsPlaceBy shape p w chain place fresh → IsBucketOf shape p place.bucket
    by true is = is.bucket
    by false is = Each-among (IsBucketOf shape p) chain place.bucket can.at_rest.buckets is.bucket

module _ (shape : Shape) (base : Words) (s : State) (chains : ℕ → List ℕ) (k : Keeping) (region : Region) (p : ℕ) (inside : p < shape.partitions) (fits : FitsRuns shape k)
    (h : IsLoggedAt shape base s chains k region) where
  -- an unsettled record isn't in a partition that adds none
  in_others : (x : Noted) → IsAmong k.ledger x → x.stage ≢ Settled → IsNoAppend (k.runs p).part → part_of shape x.entry.at ≢ p
  in_others x m ne none here =
      let a = fits.others x m ne in
      let can : CanRun shape a.0 base s (chains a.0) (appends a.2 x.entry) = subst (CanRun shape a.0 base s (chains a.0)) a.3 (h.can a.0 a.1) in
      let there = append_part shape a.0 _ (chains a.0) a.2 x.entry h.allowed a.1 can in
      none a.2 x.entry (ap (λ q. (k.runs q).part) (sym here ∙ there) ∙ a.3)

  spared : (part : LogPart) → (k.runs p).part ≡ part → Spares part k.ledger
  spared rests is = tt
  spared (appends place r) is = tt
  spared (closes gates ends checkpoints) is = λ x m ne on. (
      let can = subst (CanRun shape p base s (chains p)) is (h.can p inside) in
      in_others x m ne (λ place r e. (let f : closes gates ends checkpoints ≡ appends place r = sym is ∙ e in cc)) (can.1 x.entry.at on))
  spared (takes_back gates) is = λ x m ne on. (
      let can = subst (CanRun shape p base s (chains p)) is (h.can p inside) in
      in_others x m ne (λ place r e. (let f : takes_back gates ≡ appends place r = sym is ∙ e in cc)) (can.1 x.entry.at (only_gates gates x.entry.at on)))
  spared (drops d) is = tt

pub parts_spare : PartsSpare
parts_spare shape base s chains k region p inside fits h = spared shape base s chains k region p inside fits h (k.runs p).part refl
