-- What holds at a checkpoint's stage stays where one lane's transaction becomes another, and where a running one stores to a word of its own.
use Rattle.std.proofs.Common.{◌≡◌, ◌≢◌, ◌⊎◌, inl, inr, ℕ, ◌<◌, ◌==◌, ◌||◌, Bool, true, false, List, ◌++◌, [], ◌∷◌, length, refl, sym, ap, ◌∙◌, subst}
use Rattle.std.proofs.lemmas.Bool.Decides.{eqb_tells}
use Rattle.persist_model.specs.declared.event.Event.TheVariants.{Store}
use Rattle.persist_model.specs.declared.event.Candidate.{Candidate}
use Rattle.persist_model.specs.Region.{Words, Region, candidate, IsCandidate, newest, after}
use Rattle.persist_model.specs.Records.{Has, HasNo}
use Rattle.persist_model.specs.Standing.{IsToUndo, IsToDelete}
use Rattle.persist_model.specs.Shape.{Shape}
use Rattle.persist_model.specs.State.{State}
use Rattle.persist_model.proofs.Images.{at-with_word_other}
use Rattle.noforce_policy.specs.Backed.{TellsDirty}
use Rattle.noforce_policy.proofs.Sweeps.{sweeps_settle, sweeps_tell}
use Rattle.history_laws.specs.Histories.{Entry}
use Rattle.history_laws.specs.UnderWay.{UnderWay, nothing, appends, closes, takes_back, drops}
use Rattle.txn_laws.specs.Txns.{Txn, txn_at, with_txn}
use Rattle.txn_laws.specs.Flights.{is_flying}
use Rattle.txn_laws.specs.PartsOf.{Fits, IsPartIn}
use Rattle.txn_laws.specs.Worlds.{World, with_lane}
use Rattle.txn_laws.proofs.Lanes.{by_lane}
use Rattle.redo_laws.specs.Checkpoints.{Checkpoint, none, sweeps, swept, notes, noted, zeroed, shuts}
use Rattle.redo_laws.specs.Stages.{AreTold, IsSweptTo, IsAllSwept, AreZero, IsIdle, IsAllHeld, IsHeldAtRest, IsAtStage}
use Rattle.redo_laws.specs.Stores.{dirty_with}

pub idle_fits : (shape : Shape) (s : State) (h : Words) (p : ℕ) (x : Txn) (u : UnderWay) → IsIdle u → Fits shape s h p x u
idle_fits shape s h p x nothing idle = tt
idle_fits shape s h p x (appends adding made) idle = absurd idle
idle_fits shape s h p x (closes gates ends made) idle = absurd idle
idle_fits shape s h p x (takes_back gates made) idle = absurd idle
idle_fits shape s h p x (drops r made) idle = tt

-- ---- another transaction of a lane

module _ (shape : Shape) (s : State) (h : Words) (w : World) (dirty : ℕ → Bool) (region : Region) (l : ℕ) (y : Txn) (lane : l < length w.lanes)
    (landed : is_flying (txn_at w.lanes l) ≡ false → is_flying y ≡ false)
    (parts : (p : ℕ) → p < shape.partitions → IsPartIn shape s h w.keeping w.lanes p (w.under p) → IsPartIn shape s h w.keeping (with_txn l y w.lanes) p (w.under p)) where
  held_there : (c : ℕ) → IsAllHeld shape w c → IsAllHeld shape (with_lane l y w) c
  held_there c held = record { holder = held.holder; landed = by_lane (λ j x. is_flying x ≡ false) l y w.lanes lane (landed (held.landed l)) (λ j ne. held.landed j) }

  rest_there : (c : ℕ) → IsHeldAtRest shape w c → IsHeldAtRest shape (with_lane l y w) c
  rest_there c k = record { held = held_there c k.held; run = k.run; under = k.under }

  pub lane_stays : (c : Checkpoint) → IsAtStage shape s h w dirty c region → IsAtStage shape s h (with_lane l y w) dirty c region
  lane_stays none k = record { told = k.told; unmarked = k.unmarked; parts = λ p lt. parts p lt (k.parts p lt); no_closing = k.no_closing }
  lane_stays (sweeps c place) k = record { tells = k.tells; swept_to = k.swept_to; unmarked = k.unmarked; at_rest = rest_there c k.at_rest }
  lane_stays (swept c) k = record { told = k.told; all_swept = k.all_swept; unmarked = k.unmarked; at_rest = rest_there c k.at_rest }
  lane_stays (notes c place number made) k = record {
    told = k.told;
    all_swept = k.all_swept;
    unmarked = k.unmarked;
    held = held_there c k.held;
    run = k.run;
    others = k.others;
    under = k.under;
    can = k.can;
    passes = k.passes;
  }
  lane_stays (noted c words) k = record { tells = k.tells; told = k.told; all_swept = k.all_swept; skipped = k.skipped; at_rest = rest_there c k.at_rest; deleted = k.deleted; zero = k.zero }
  lane_stays (zeroed c) k = record {
    told = k.told;
    skipped = k.skipped;
    zero = k.zero;
    held = held_there c k.held;
    parts = λ p lt. record { run = (k.parts p lt).run; fits = idle_fits shape s h p _ (w.under p) (k.idle p lt) };
    idle = k.idle;
  }
  lane_stays (shuts c g) k = record {
    told = k.told;
    skipped = k.skipped;
    zero = k.zero;
    held = held_there c k.held;
    run = k.run;
    under = k.under;
    unfenced = k.unfenced;
    group = k.group;
  }

-- ---- a store

pub dirty_here : (dirty : ℕ → Bool) (a : ℕ) → dirty_with a dirty a ≡ true
dirty_here dirty a = elim (eqb_tells a a) [ inl e ↦ by (dirty a) e.0 | inr ne ↦ absurd (ne.1 refl) ]
  where
    by : (b : Bool) → (a == a) ≡ true → (b || (a == a)) ≡ true
    by true e = refl
    by false e = e

pub dirty_more : (dirty : ℕ → Bool) (a b : ℕ) → dirty b ≡ true → dirty_with a dirty b ≡ true
dirty_more dirty a b d = rw d refl

pub dirty_cases : (dirty : ℕ → Bool) (a b : ℕ) → dirty_with a dirty b ≡ true → (dirty b ≡ true) ⊎ (b ≡ a)
dirty_cases dirty a b d = by (dirty b) refl d
  where
    by : (t : Bool) → dirty b ≡ t → (t || (b == a)) ≡ true → (dirty b ≡ true) ⊎ (b ≡ a)
    by true is e = inl is
    by false is e = elim (eqb_tells b a) [ inl k ↦ inr k.1 | inr k ↦ (let f = sym k.0 ∙ e in cc) ]

module _ (shape : Shape) (s : State) (h : Words) (w : World) (dirty : ℕ → Bool) (region : Region) (l a v : ℕ)
    (undone : Has (IsToUndo s.log a) s.log) (free : HasNo (IsToDelete s.log a) s.log) where
  abbrev later : Region
  later = after region l (Store a v)

  same_at : (b : ℕ) → b ≢ a → later.at b ≡ region.at b
  same_at b ne = at-with_word_other a (λ cs. cs ++ candidate v 0 ∷ []) region b ne

  told_there : AreTold shape dirty region → AreTold shape (dirty_with a dirty) later
  told_there told b m = elim (eqb_tells b a) [
    | inl e ↦ inl (subst (λ c. dirty_with a dirty c ≡ true) (sym e.1) (dirty_here dirty a))
    | inr ne ↦ elim (told b m) [ inl d ↦ inl (dirty_more dirty a b d) | inr one ↦ inr (sweeps_settle.stays region l b (Store a v) ne.1 one) ]
  ]

  tells_there : (c : ℕ) → TellsDirty shape dirty c region → TellsDirty shape (dirty_with a dirty) c later
  tells_there c tells = sweeps_tell.stores shape dirty (dirty_with a dirty) c l a v region (dirty_more dirty a) (dirty_here dirty a) tells

  swept_to_there : (place : ℕ) → IsSweptTo shape s.log dirty place → IsSweptTo shape s.log (dirty_with a dirty) place
  swept_to_there place to b m lt d = elim (dirty_cases dirty a b d) [
    | inl k ↦ to b m lt k
    | inr e ↦ subst (λ c. Has (IsToUndo s.log c) s.log) (sym e) undone
  ]

  all_swept_there : IsAllSwept shape s.log dirty → IsAllSwept shape s.log (dirty_with a dirty)
  all_swept_there to b m d = elim (dirty_cases dirty a b d) [
    | inl k ↦ to b m k
    | inr e ↦ subst (λ c. Has (IsToUndo s.log c) s.log) (sym e) undone
  ]

  deleted_else : (b : ℕ) → Has (IsToDelete s.log b) s.log → b ≢ a
  deleted_else b d e = let k = subst (λ c. Has (IsToDelete s.log c) s.log) e d in free k.0 k.1 k.2

  zero_there : AreZero s.log region → AreZero s.log later
  zero_there zero b u d is = zero b u d (subst (λ (cs : List Candidate). IsCandidate cs u) (same_at b (deleted_else b d)) is)

  pub store_stays : (c : Checkpoint) → IsAtStage shape s h w dirty c region → IsAtStage shape s h w (dirty_with a dirty) c later
  store_stays none k = record { told = told_there k.told; unmarked = k.unmarked; parts = k.parts; no_closing = k.no_closing }
  store_stays (sweeps c place) k = record { tells = tells_there c k.tells; swept_to = swept_to_there place k.swept_to; unmarked = k.unmarked; at_rest = k.at_rest }
  store_stays (swept c) k = record { told = told_there k.told; all_swept = all_swept_there k.all_swept; unmarked = k.unmarked; at_rest = k.at_rest }
  store_stays (notes c place number made) k = record {
    told = told_there k.told;
    all_swept = all_swept_there k.all_swept;
    unmarked = k.unmarked;
    held = k.held;
    run = k.run;
    others = k.others;
    under = k.under;
    can = k.can;
    passes = k.passes;
  }
  store_stays (noted c words) k = record {
    tells = tells_there c k.tells;
    told = λ none_yet. told_there (k.told none_yet);
    all_swept = all_swept_there k.all_swept;
    skipped = k.skipped;
    at_rest = k.at_rest;
    deleted = k.deleted;
    zero = λ b m. ap newest (same_at b (deleted_else b (k.deleted b m).1)) ∙ k.zero b m;
  }
  store_stays (zeroed c) k = record { told = told_there k.told; skipped = k.skipped; zero = zero_there k.zero; held = k.held; parts = k.parts; idle = k.idle }
  store_stays (shuts c g) k = record {
    told = told_there k.told;
    skipped = k.skipped;
    zero = zero_there k.zero;
    held = k.held;
    run = k.run;
    under = k.under;
    unfenced = k.unfenced;
    group = k.group;
  }

-- ---- another history

module _ (shape : Shape) (s : State) (h : Words) (w : World) (dirty : ℕ → Bool) (region : Region) (history : List Entry) where
  all_held : {l : ℕ} → IsAllHeld shape w l → IsAllHeld shape (record w { history = history }) l
  all_held k = record { holder = k.holder; landed = k.landed }

  held_rest : {l : ℕ} → IsHeldAtRest shape w l → IsHeldAtRest shape (record w { history = history }) l
  held_rest k = record { held = all_held k.held; run = k.run; under = k.under }

  pub history_stays : (c : Checkpoint) → IsAtStage shape s h w dirty c region → IsAtStage shape s h (record w { history = history }) dirty c region
  history_stays none k = record { told = k.told; unmarked = k.unmarked; parts = k.parts; no_closing = k.no_closing }
  history_stays (sweeps l place) k = record { tells = k.tells; swept_to = k.swept_to; unmarked = k.unmarked; at_rest = held_rest k.at_rest }
  history_stays (swept l) k = record { told = k.told; all_swept = k.all_swept; unmarked = k.unmarked; at_rest = held_rest k.at_rest }
  history_stays (notes l place number made) k = record {
    told = k.told;
    all_swept = k.all_swept;
    unmarked = k.unmarked;
    held = all_held k.held;
    run = k.run;
    others = k.others;
    under = k.under;
    can = k.can;
    passes = k.passes;
  }
  history_stays (noted l words) k = record { tells = k.tells; told = k.told; all_swept = k.all_swept; skipped = k.skipped; at_rest = held_rest k.at_rest; deleted = k.deleted; zero = k.zero }
  history_stays (zeroed l) k = record { told = k.told; skipped = k.skipped; zero = k.zero; held = all_held k.held; parts = k.parts; idle = k.idle }
  history_stays (shuts l g) k = record {
    told = k.told;
    skipped = k.skipped;
    zero = k.zero;
    held = all_held k.held;
    run = k.run;
    under = k.under;
    unfenced = k.unfenced;
    group = k.group;
  }
