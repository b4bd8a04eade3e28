-- The need of the newest log, in a partition where nothing is under way.
use Rattle.std.proofs.Common.{◌≡◌, ◌≢◌, ◌⊎◌, inl, inr, ℕ, ◌+◌, ◌<◌, ◌≤◌, ◌==◌, ◌&&◌, ◌||◌, false, if◌then◌else◌, List, [], ◌∷◌, length, refl, sym, ap, ◌∙◌, subst, arith}
use Rattle.std.proofs.lemmas.Bool.Decides.{eqb_tells, nat_tests}
use Rattle.persist_model.specs.Region.{Words, Region}
use Rattle.persist_model.specs.Records.{Record, Log, IsAmong, IsOf}
use Rattle.persist_model.specs.Kinds.{COMPENSATION, END, ROLLBACK, UPDATE}
use Rattle.persist_model.specs.Order.{is_kind_of}
use Rattle.persist_model.specs.Need.{rest, to_undo, has_kind_of, need_of, is_of, has_of}
use Rattle.persist_model.specs.Shape.{Shape, part_of, log_words}
use Rattle.persist_model.specs.Chain.{view}
use Rattle.persist_model.specs.State.{State}
use Rattle.bucket_log.specs.declared.append.Place.{Place}
use Rattle.log_keeper.specs.Parts.{Running, rests, appends as adds, closes as shuts, takes_back as drops_deletions, drops as takes_out, CanRun}
use Rattle.log_keeper.specs.Ledger.{Stage, Drawn, Stored, Settled, Noted, if_settled, if_stored, settled_log, newest_log}
use Rattle.log_keeper.specs.Needs.{need_at}
use Rattle.history_laws.specs.Histories.{fold}
use Rattle.history_laws.specs.UnderWay.{UnderWay, nothing, appends, closes, takes_back, drops, record_of_adding, run_of}
use Rattle.history_laws.proofs.Conditions.{added_plain}
use Rattle.txn_laws.specs.Txns.{Txn, txn_at}
use Rattle.txn_laws.specs.PartsOf.{Fits}
use Rattle.txn_laws.specs.Needs.{NeedsRest}
use Rattle.txn_laws.specs.Worlds.{World, IsWorldAt}
use Rattle.txn_laws.proofs.Moments.{append_part}
use Rattle.txn_laws.proofs.Needs.{sum_alike, spread_sum, counted}

-- ---- a log without the records of others

module _ (t : ℕ) where
  has_other : (r : Record) (log : Log) → r.transaction ≢ t → has_of t (r ∷ log) ≡ has_of t log
  has_other r log ne = let off : (r.transaction == t) ≡ false = grind (arith, nat_tests, ne) in rw off refl

  kind_other : (k : ℕ) (r : Record) (log : Log) → r.transaction ≢ t → has_kind_of t k (r ∷ log) ≡ has_kind_of t k log
  kind_other k r log ne = let off : (r.transaction == t) ≡ false = grind (arith, nat_tests, ne) in rw off refl

  undo_other : (r : Record) (log : Log) → r.transaction ≢ t → to_undo t (r ∷ log) ≡ to_undo t log
  undo_other r log ne = let off : (r.transaction == t) ≡ false = grind (arith, nat_tests, ne) in rw off refl

  -- none of the unsettled records is of t
  abbrev AreOthers : List Noted → Type 0
  AreOthers ledger = (x : Noted) → IsAmong ledger x → x.stage ≢ Settled → x.entry.transaction ≢ t

  -- what each record adds, where those of others add nothing
  alike : {A : Type 0} (f : Log → A) → ((r : Record) (log : Log) → r.transaction ≢ t → f (r ∷ log) ≡ f log) →
      ((r : Record) (l m : Log) → f l ≡ f m → f (r ∷ l) ≡ f (r ∷ m)) → (ledger : List Noted) → AreOthers ledger → f (newest_log ledger) ≡ f (settled_log ledger)
  alike f other more [] none = refl
  alike f other more (x ∷ ledger) none = by x.stage refl (alike f other more ledger (λ y m. none y (inr m)))
    where
      by : (stage : Stage) → x.stage ≡ stage → f (newest_log ledger) ≡ f (settled_log ledger) → f (if_stored stage x.entry (newest_log ledger)) ≡ f (if_settled stage x.entry (settled_log ledger))
      by Drawn is same = same
      by Stored is same = other x.entry (newest_log ledger) (none x (inl refl) (λ e. (let f : Stored ≡ Settled = sym is ∙ e in cc))) ∙ same
      by Settled is same = more x.entry (newest_log ledger) (settled_log ledger) same

  has_alike : (ledger : List Noted) → AreOthers ledger → has_of t (newest_log ledger) ≡ has_of t (settled_log ledger)
  has_alike ledger none = alike (has_of t) has_other (λ r l m e. ap (λ b. is_of t r || b) e) ledger none

  kind_alike : (k : ℕ) (ledger : List Noted) → AreOthers ledger → has_kind_of t k (newest_log ledger) ≡ has_kind_of t k (settled_log ledger)
  kind_alike k ledger none = alike (has_kind_of t k) (kind_other k) (λ r l m e. ap (λ b. is_kind_of t k r || b) e) ledger none

  undo_alike : (ledger : List Noted) → AreOthers ledger → to_undo t (newest_log ledger) ≡ to_undo t (settled_log ledger)
  undo_alike ledger none = alike (to_undo t) undo_other
      (λ r l m e. ap (λ x. if is_kind_of t UPDATE r then r ∷ x else (if is_kind_of t COMPENSATION r then rest x else x)) e) ledger none

  need_alike : (ledger : List Noted) → AreOthers ledger → need_of (newest_log ledger) t ≡ need_of (settled_log ledger) t
  need_alike ledger none =
      ap (λ b. if b then 0 else (if has_kind_of t ROLLBACK (newest_log ledger) then 0 else 1) + (length (to_undo t (newest_log ledger)) + 1)) (kind_alike END ledger none)
      ∙ ap (λ b. if has_kind_of t END (settled_log ledger) then 0 else (if b then 0 else 1) + (length (to_undo t (newest_log ledger)) + 1)) (kind_alike ROLLBACK ledger none)
      ∙ ap (λ (us : Log). if has_kind_of t END (settled_log ledger) then 0 else (if has_kind_of t ROLLBACK (settled_log ledger) then 0 else 1) + (length us + 1)) (undo_alike ledger none)

-- a record of the newest log is settled, or one that isn't
newest_cases : (ledger : List Noted) (r : Record) → IsAmong (newest_log ledger) r → IsAmong (settled_log ledger) r ⊎ (x : Noted) × IsAmong ledger x × (x.entry ≡ r) × (x.stage ≢ Settled)
newest_cases [] r m = absurd m
newest_cases (x ∷ ledger) r m = by x.stage refl (λ k. newest_cases ledger r k) m
  where
    inner : IsAmong (settled_log ledger) r ⊎ (y : Noted) × IsAmong ledger y × (y.entry ≡ r) × (y.stage ≢ Settled) → (stage : Stage) →
        IsAmong (if_settled stage x.entry (settled_log ledger)) r ⊎ (y : Noted) × IsAmong (x ∷ ledger) y × (y.entry ≡ r) × (y.stage ≢ Settled)
    inner (inl k) Drawn = inl k
    inner (inl k) Stored = inl k
    inner (inl k) Settled = inl (inr k)
    inner (inr k) stage = inr (k.0, inr k.1, k.2, k.3)

    by : (stage : Stage) → x.stage ≡ stage →
        (IsAmong (newest_log ledger) r → IsAmong (settled_log ledger) r ⊎ (y : Noted) × IsAmong ledger y × (y.entry ≡ r) × (y.stage ≢ Settled)) →
        IsAmong (if_stored stage x.entry (newest_log ledger)) r →
        IsAmong (if_settled stage x.entry (settled_log ledger)) r ⊎ (y : Noted) × IsAmong (x ∷ ledger) y × (y.entry ≡ r) × (y.stage ≢ Settled)
    by Drawn is further k = inner (further k) Drawn
    by Stored is further (inl e) = inr (x, inl refl, sym e, λ s. (let f : Stored ≡ Settled = sym is ∙ s in cc))
    by Stored is further (inr k) = inner (further k) Stored
    by Settled is further (inl e) = inl (inl e)
    by Settled is further (inr k) = inner (further k) Settled

-- ---- whose an unsettled record is

-- r is of the transaction x, whose records are in q
record IsOfLane (shape : Shape) (q : ℕ) (x : Txn) (r : Record) : Type 0 where
  number : 1 ≤ x.number
  of : IsOf x.number r
  here : x.part ≡ q
  stands : part_of shape r.at ≡ q

module _ (shape : Shape) (base : Words) (s : State) (chains : ℕ → List ℕ) (start : Words) (w : World) (region : Region) (world : IsWorldAt shape base s chains start w region) where
  added_of : (q : ℕ) (place : Place) (r : Record) → q < shape.partitions → (w.keeping.runs q).part ≡ adds place r → IsOfLane shape q (txn_at w.lanes (w.keeping.holder q)) r
  added_of q place r inside is = by (w.under q) (world.parts q inside).fits (sym (ap (λ (x : Running). x.part) (world.parts q inside).run) ∙ is)
    where
      stands_in : part_of shape r.at ≡ q
      stands_in = append_part shape q (view q (log_words shape base)) (chains q) place r world.log.logged.allowed inside
          (subst (CanRun shape q base s (chains q)) is (world.log.logged.can q inside))

      by : (u : UnderWay) → Fits shape s (fold start w.history) q (txn_at w.lanes (w.keeping.holder q)) u → (run_of u).part ≡ adds place r →
          IsOfLane shape q (txn_at w.lanes (w.keeping.holder q)) r
      by nothing fits e = let f : rests ≡ adds place r = e in cc
      by (closes gates ends made) fits e = let f : shuts gates ends [] ≡ adds place r = e in cc
      by (takes_back gates made) fits e = let f : drops_deletions gates ≡ adds place r = e in cc
      by (drops d made) fits e = let f : takes_out d ≡ adds place r = e in cc
      by (appends adding made) fits e =
          let f : adds adding.place (record_of_adding adding) ≡ adds place r = e in
          let same : record_of_adding adding ≡ r = cc in
          record {
            number = fits.number;
            of = subst (IsOf (txn_at w.lanes (w.keeping.holder q)).number) same (fits.of, added_plain adding);
            here = fits.here;
            stands = stands_in;
          }

  -- of an unsettled record
  record IsElsewhereAt (r : Record) : Type 0 where
    place_of : ℕ
    below : place_of < shape.partitions
    adding : (place : Place) × ((w.keeping.runs place_of).part ≡ adds place r)

  unsettled_of : (x : Noted) → IsAmong w.keeping.ledger x → x.stage ≢ Settled → IsElsewhereAt x.entry
  unsettled_of x m ne = let o = world.log.fits.others x m ne in record { place_of = o.0; below = o.1; adding = (o.2, o.3) }

  lane_of : (r : Record) (at : IsElsewhereAt r) → IsOfLane shape at.place_of (txn_at w.lanes (w.keeping.holder at.place_of)) r
  lane_of r at = added_of at.place_of at.adding.0 r at.below at.adding.1

  settled_is : (r : Record) → IsAmong (settled_log w.keeping.ledger) r → IsAmong s.log r
  settled_is r m = subst (λ log. IsAmong log r) (sym world.log.logged.records) m

  pub newest_part : (l : ℕ) (r : Record) → IsAmong (newest_log w.keeping.ledger) r → IsOf (txn_at w.lanes l).number r → part_of shape r.at ≡ (txn_at w.lanes l).part
  newest_part l r m of = elim (newest_cases w.keeping.ledger r m) [
    | inl k ↦ (world.transactions.each l).in_part r (settled_is r k) of
    | inr k ↦ (
        let at = subst IsElsewhereAt k.2 (unsettled_of k.0 k.1 k.3) in
        let lane = lane_of r at in
        let same = world.transactions.apart (w.keeping.holder at.place_of) l lane.number (sym lane.of.0 ∙ of.0) in
        lane.stands ∙ sym lane.here ∙ ap (λ j. (txn_at w.lanes j).part) same)
  ]

  pub newest_known : (r : Record) → IsAmong (newest_log w.keeping.ledger) r → (l : ℕ) × (1 ≤ (txn_at w.lanes l).number) × IsOf (txn_at w.lanes l).number r
  newest_known r m = elim (newest_cases w.keeping.ledger r m) [
    | inl k ↦ world.transactions.known r (settled_is r k)
    | inr k ↦ (let at = subst IsElsewhereAt k.2 (unsettled_of k.0 k.1 k.3) in let lane = lane_of r at in (w.keeping.holder at.place_of, lane.number, lane.of))
  ]

  module _ (p : ℕ) (free : (w.keeping.runs p).part ≡ rests) where
    others_there : (l : ℕ) → (txn_at w.lanes l).part ≡ p → AreOthers (txn_at w.lanes l).number w.keeping.ledger
    others_there l here x m ne of =
        let at = unsettled_of x m ne in
        let lane = lane_of x.entry at in
        let same = world.transactions.apart (w.keeping.holder at.place_of) l lane.number (sym lane.of.0 ∙ of) in
        let place_is : at.place_of ≡ p = sym lane.here ∙ ap (λ j. (txn_at w.lanes j).part) same ∙ here in
        let f : rests ≡ adds at.adding.0 x.entry = sym free ∙ ap (λ q. (w.keeping.runs q).part) (sym place_is) ∙ at.adding.1 in
        cc

    counts_same : (l : ℕ) → counted (part_of shape) p (need_of (newest_log w.keeping.ledger)) (newest_log w.keeping.ledger) (txn_at w.lanes l)
        ≡ counted (part_of shape) p (need_of (settled_log w.keeping.ledger)) (settled_log w.keeping.ledger) (txn_at w.lanes l)
    counts_same l = elim (eqb_tells (txn_at w.lanes l).part p) [
      | inr ne ↦ (rw ne.0 refl)
      | inl e ↦ (
          let t = (txn_at w.lanes l).number in
          let others = others_there l e.1 in
          ap (λ b. if ((txn_at w.lanes l).part == p) && b then need_of (newest_log w.keeping.ledger) t else 0) (has_alike t w.keeping.ledger others)
          ∙ ap (λ n. if ((txn_at w.lanes l).part == p) && has_of t (settled_log w.keeping.ledger) then n else 0) (need_alike t w.keeping.ledger others))
    ]

pub needs_rest : NeedsRest
needs_rest shape base s chains start w region p inside free world =
    let new : Log = newest_log w.keeping.ledger in
    let old : Log = settled_log w.keeping.ledger in
    spread_sum (part_of shape) p (need_of new) w.lanes new (record {
      in_part = newest_part shape base s chains start w region world;
      known = newest_known shape base s chains start w region world;
      apart = world.transactions.apart;
    })
    ∙ sum_alike (counted (part_of shape) p (need_of new) new) (counted (part_of shape) p (need_of old) old) w.lanes (counts_same shape base s chains start w region world p free)
    ∙ sym (spread_sum (part_of shape) p (need_of old) w.lanes old (record {
      in_part = λ l r m of. (world.transactions.each l).in_part r (settled_is shape base s chains start w region world r m) of;
      known = λ r m. world.transactions.known r (settled_is shape base s chains start w region world r m);
      apart = world.transactions.apart;
    }))
    ∙ ap (need_at shape p) (sym world.log.logged.records)
