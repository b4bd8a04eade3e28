-- What an append leaves of the chains in a region's newest words.
use Rattle.std.proofs.Common.{◌≡◌, ◌≢◌, inl, inr, ℕ, ◌<◌, ◌==◌, Bool, true, false, cond, if◌then◌else◌, List, [], ◌∷◌, ◌++◌, length, refl, sym, ap, ◌∙◌, subst, arith}
use Rattle.std.proofs.lemmas.Bool.Decides.{eqb_tells, nat_tests}
use Rattle.persist_model.specs.declared.event.Event.{Event}
use Rattle.persist_model.specs.Region.{Words, Region}
use Rattle.persist_model.specs.Progress.{Reaches}
use Rattle.persist_model.specs.Runs.{progress_at}
use Rattle.persist_model.specs.Records.{Record}
use Rattle.persist_model.specs.Shape.{Shape, heap, log_words}
use Rattle.persist_model.specs.Chain.{view}
use Rattle.persist_model.specs.State.{State}
use Rattle.log_laws.specs.Parts.{after_plan}
use Rattle.log_laws.specs.Recovering.{RECOVERY_LANE}
use Rattle.atomic_list.specs.Rules.{IsAtRest, at_rest}
use Rattle.region_layout.specs.declared.cell.Cell.{Cell}
use Rattle.region_layout.specs.declared.layout.Layout.{Layout}
use Rattle.region_layout.specs.Cell.{record_of}
use Rattle.region_layout.specs.Layout.{layout_shape, IsAllowed}
use Rattle.bucket_log.specs.declared.append.Place.{Place}
use Rattle.bucket_log.specs.Appends.{CanAppend, region_append, chain_behind}
use Rattle.bucket_log.specs.Plans.{place_address}
use Rattle.bucket_log.specs.Words.{IsPartWord}
use Rattle.bucket_log.proofs.Appended.{inside_log, log_reaches, others_same, appends_leave_chains}
use Rattle.bucket_log.proofs.Partitions.{part_word_below, part_words_apart}
use Rattle.log_partition.specs.declared.used.UsedBuckets.{UsedBuckets}
use Rattle.log_partition.specs.Used.{KnowsChains, chains_in, with_bucket}
use Rattle.log_partition.proofs.Known.{knows_same}
use Rattle.recovery_run.specs.Reached.{newest_at, IsQuiet}
use Rattle.recovery_undo.specs.RecoveryAppends.{CanTake, IsPlaceFor, KnowsRegion, chains_behind}
use Rattle.recovery_undo.proofs.Chains.{log_chain, same_chain, plan_reaches}
use Rattle.recovery_undo.proofs.Places.{allowed}
use Rattle.recovery_undo.proofs.Taking.{is_append, appends}

-- the chains behind an append, one by one
behind_here : (p : ℕ) (place : Place) (chains : ℕ → List ℕ) → chains_behind p place chains p ≡ chain_behind place (chains p)
behind_here p place chains = by place.fresh
  where
    by : (fresh : Bool) → (if fresh then with_bucket p place.bucket chains else chains) p ≡ (if fresh then chains p ++ place.bucket ∷ [] else chains p)
    by true = let on : (p == p) ≡ true = grind (arith, nat_tests) in ap (λ t. cond t (chains p ++ place.bucket ∷ []) (chains p)) on
    by false = refl

behind_other : (p q : ℕ) (place : Place) (chains : ℕ → List ℕ) → q ≢ p → chains_behind p place chains q ≡ chains q
behind_other p q place chains ne = by place.fresh
  where
    by : (fresh : Bool) → (if fresh then with_bucket p place.bucket chains else chains) q ≡ chains q
    by true = let off : (q == p) ≡ false = grind (arith, nat_tests, ne) in ap (λ t. cond t (chains p ++ place.bucket ∷ []) (chains q)) off
    by false = refl

module _ (layout : Layout) (p : ℕ) (cell : Cell) (first y : State) (region : Region) (can : CanTake layout p cell first y region)
    (place : Place) (takes : IsQuiet p (newest_at region) → IsPlaceFor (layout_shape layout) p (newest_at region) place) where
  abbrev shape : Shape
  shape = layout_shape layout

  abbrev w : Words
  w = newest_at region

  abbrev r : Record
  r = record_of (place_address place) cell

  abbrev plan : List Event
  plan = region_append shape p place r

  -- the newest words behind it
  abbrev v : Words
  v = newest_at (after_plan RECOVERY_LANE region plan)

  abbrev chain : List ℕ
  chain = (takes can.quiet).chain

  ok : IsAllowed shape
  ok = allowed layout first y region can.reached

  appends_here : CanAppend shape p (view p (log_words shape w)) chain place r
  appends_here = appends layout p cell first y region can place takes

  reached : Reaches (λ a. a < heap shape) (progress_at (log_words shape w) plan (length plan)) (log_words shape v)
  reached = log_reaches shape w v plan (length plan) (plan_reaches layout first y region can.reached plan (is_append layout p cell first y region can place takes).durable)

  rests : IsAtRest shape p (view p (log_words shape v)) (chain_behind place chain)
  rests = appends_leave_chains shape p (log_words shape w) (log_words shape v) chain place r ok can.inside appends_here (λ a m. reached a (part_word_below shape p a ok can.inside m))

  -- a fresh bucket is put behind the partition's chain
  own_chain : chains_in shape v p ≡ chain_behind place (chains_in shape w p)
  own_chain =
      log_chain shape p v (chain_behind place chain) ok can.inside (at_rest rests)
      ∙ ap (chain_behind place) (sym (log_chain shape p w chain ok can.inside (at_rest appends_here.at_rest)))

  -- no word of another partition is stored to
  other_word : (q a : ℕ) → q < layout.partitions → q ≢ p → IsPartWord shape q a → v a ≡ w a
  other_word q a lt ne m =
      let below = part_word_below shape q a ok lt m in
      sym (inside_log shape v a below)
      ∙ others_same shape ok p can.inside (log_words shape w) (log_words shape v) chain place r appends_here (λ b. b < heap shape) (length plan) a below
      (λ k. part_words_apart shape p q a ok can.inside lt ne m k) reached
      ∙ inside_log shape w a below

  each_chain : (q : ℕ) → q < layout.partitions → chains_in shape v q ≡ chains_behind p place (chains_in shape w) q
  each_chain q lt = elim (eqb_tells q p) [
    | inl e ↦ subst (λ n. chains_in shape v n ≡ chains_behind p place (chains_in shape w) n) (sym e.1) (own_chain ∙ sym (behind_here p place (chains_in shape w)))
    | inr e ↦ same_chain layout first y region can.reached q v lt (λ a m. other_word q a lt e.1 m) ∙ sym (behind_other p q place (chains_in shape w) e.1)
  ]

  -- with a fresh bucket added the table has the chains behind the append
  pub knows_appended : (table : UsedBuckets) (later : Region) →
      later ≡ after_plan RECOVERY_LANE region (region_append (layout_shape layout) p place (record_of (place_address place) cell)) →
      KnowsChains (layout_shape layout) table (chains_behind p place (chains_in (layout_shape layout) (newest_at region))) → KnowsRegion layout table later
  knows_appended table later is knows = subst (λ (z : Region). KnowsRegion layout table z) (sym is)
      (knows_same shape table (chains_behind p place (chains_in shape w)) (chains_in shape v) each_chain knows)
