-- The chains that stand in a region's newest words, where words stay and where a plan is made.
use Rattle.std.proofs.Common.{◌≡◌, ◌⊎◌, inl, inr, ℕ, ◌+◌, ◌<◌, List, length, sym, ◌∙◌, subst, arith}
use Rattle.persist_model.specs.declared.event.Event.{Event}
use Rattle.persist_model.specs.Region.{Words, Region}
use Rattle.persist_model.specs.Progress.{Progress, Tracks, Reaches, Wrote, latest, start, advance_all}
use Rattle.persist_model.specs.Runs.{progress_at}
use Rattle.persist_model.specs.Shape.{Shape, heap, words_of_shape, log_words}
use Rattle.persist_model.specs.Chain.{view, out_address}
use Rattle.persist_model.specs.State.{State}
use Rattle.persist_model.proofs.Tracking.{latest_cases}
use Rattle.persist_model.proofs.Projecting.{latest_none, Reaches-same, SameOn, SameOn-events}
use Rattle.log_laws.specs.Parts.{after_plan, AreDurable}
use Rattle.log_laws.specs.Recovering.{RECOVERY_LANE}
use Rattle.log_laws.proofs.Views.{view-out}
use Rattle.atomic_list.specs.Rules.{IsList, IsListWord}
use Rattle.atomic_list.proofs.Agreeing.{lists_agree}
use Rattle.atomic_list.proofs.Walks.{chain_of_list}
use Rattle.region_layout.specs.declared.layout.Layout.{Layout}
use Rattle.region_layout.specs.Layout.{layout_shape, IsAllowed}
use Rattle.bucket_log.specs.Words.{IsPartWord}
use Rattle.bucket_log.proofs.Addresses.{list_word_is_log_word}
use Rattle.bucket_log.proofs.Appended.{inside_log}
use Rattle.bucket_log.proofs.Partitions.{log_word_out, part_word_below}
use Rattle.log_partition.specs.declared.used.UsedBuckets.{UsedBuckets}
use Rattle.log_partition.specs.Used.{chains_in}
use Rattle.log_partition.proofs.Known.{knows_same}
use Rattle.recovery_run.specs.Edges.{KeepsWords}
use Rattle.recovery_run.specs.Reached.{newest_at, AreSingle, HasReached}
use Rattle.recovery_run.proofs.Composing.{size_plan, tracks_plan}
use Rattle.recovery_run.proofs.Making.{take_whole}
use Rattle.recovery_run.proofs.Reaching.{newest_tracked, read_newest, newest_one, newest_log, log_word_one, single_plan}
use Rattle.recovery_undo.specs.RecoveryAppends.{KnowsRegion, KeepsLogWords}
use Rattle.recovery_undo.proofs.Places.{allowed, has, list_here}

-- words have the chain of their log words
pub log_chain : (shape : Shape) (p : ℕ) (w : Words) (chain : List ℕ) → IsAllowed shape → p < shape.partitions → IsList shape p (view p (log_words shape w)) chain → chains_in shape w p ≡ chain
log_chain shape p w chain ok lt list =
    (chain_of_list shape p (view p w) chain lt (lists_agree shape p (view p (log_words shape w)) (view p w) chain (λ a m. same a m) list)).0
  where
    same : (a : ℕ) → IsListWord shape p a → view p w a ≡ view p (log_words shape w) a
    same a m =
        let below = part_word_below shape p (out_address p a) ok lt (log_word_out shape p a (list_word_is_log_word shape p a m)) in
        view-out p w a ∙ sym (inside_log shape w (out_address p a) below) ∙ sym (view-out p (log_words shape w) a)

module _ (layout : Layout) (first y : State) (region : Region) (h : HasReached (layout_shape layout) first y region) where
  abbrev shape : Shape
  shape = layout_shape layout

  abbrev w : Words
  w = newest_at region

  ok : IsAllowed shape
  ok = allowed layout first y region h

  -- ---- words that aren't stored to

  -- words with the same words of a partition have the same chain there
  pub same_chain : (p : ℕ) (v : Words) → p < layout.partitions → ((a : ℕ) → IsPartWord (layout_shape layout) p a → v a ≡ newest_at region a) →
      chains_in (layout_shape layout) v p ≡ chains_in (layout_shape layout) (newest_at region) p
  same_chain p v lt same =
      let chain : List ℕ = (has layout first y region h).chains p in
      let here : IsList shape p (view p w) chain = list_here layout first y region h p lt in
      let there : IsList shape p (view p v) chain = lists_agree shape p (view p w) (view p v) chain
      (λ a m. view-out p v a ∙ same (out_address p a) (log_word_out shape p a (list_word_is_log_word shape p a m)) ∙ sym (view-out p w a)) here in
      (chain_of_list shape p (view p v) chain lt there).0 ∙ sym (chain_of_list shape p (view p w) chain lt here).0

  -- where all words below the heap are the same the table still has the chains
  pub knows_kept : (table : UsedBuckets) (later : Region) → KeepsLogWords (layout_shape layout) region later → KnowsRegion layout table region → KnowsRegion layout table later
  knows_kept table later same knows = knows_same shape table (chains_in shape w) (chains_in shape (newest_at later))
      (λ p lt. same_chain p (newest_at later) lt (λ a m. same a (part_word_below shape p a ok lt m))) knows

  -- words that a part doesn't store to are read as before
  pub log_words_kept : (A : ℕ → Type 0) (later : Region) → ((a : ℕ) → a < heap (layout_shape layout) → A a) → KeepsWords A region later → later.size ≡ region.size →
      ((a : ℕ) → 0 < length (later.at a)) → KeepsLogWords (layout_shape layout) region later
  log_words_kept A later aside keeps same_size some a lt =
      let fits : a < words_of_shape shape = omega (arith, lt) in
      let size = h.come.size in
      read_newest later a (omega (arith, fits, size, same_size))
      ∙ newest_one (later.at a) (w a) (some a) (keeps a (w a) (aside a lt) (log_word_one shape first y region h a lt))

  -- ---- a plan

  module _ (plan : List Event) (durable : AreDurable plan) where
    abbrev later : Region
    later = after_plan RECOVERY_LANE region plan

    abbrev behind : Progress
    behind = advance_all h.progress plan

    -- nothing is pending below the heap
    begins : SameOn (λ a. a < heap shape) h.progress (start w)
    begins = record {
      durable = λ a lt. h.come.rest.durable a (omega (arith, lt)) ∙ sym (newest_log shape first y region h a lt);
      pending = λ a lt v wrote. absurd (h.come.rest.log a lt v wrote);
      latests = λ a lt u. latest_none h.progress.pending a u (h.come.rest.log a lt);
    }

    tracks : Tracks (λ a. a < words_of_shape shape) RECOVERY_LANE behind later
    tracks = tracks_plan (λ a. a < words_of_shape shape) RECOVERY_LANE h.progress region plan durable h.come.tracks

    single : AreSingle behind later
    single = single_plan (words_of_shape shape) h.progress region plan h.come.size durable h.come.tracks h.single

    newest_is : (a : ℕ) → a < heap shape → newest_at later a ≡ latest behind.pending a (behind.durable a)
    newest_is a lt =
        let fits : a < words_of_shape shape = omega (arith, lt) in
        let below : a < later.size = subst (λ n. a < n) (sym (size_plan RECOVERY_LANE region plan ∙ h.come.size)) fits in
        read_newest later a below ∙ newest_tracked (RECOVERY_LANE + 1) (behind.durable a) behind.pending a (later.at a) (tracks a fits) (single a below)

    -- the newest value is durable, or pending
    each_reached : (a : ℕ) → a < heap shape → (newest_at later a ≡ behind.durable a) ⊎ Wrote behind.pending a (newest_at later a)
    each_reached a lt = elim (latest_cases behind.pending a (behind.durable a)) [
      | inl none ↦ inl (newest_is a lt ∙ none.0)
      | inr wrote ↦ inr (subst (λ v. Wrote behind.pending a v) (sym (newest_is a lt)) wrote)
    ]

    -- the newest words behind a plan are reached from the newest ones before it
    pub plan_reaches : Reaches (λ a. a < heap (layout_shape layout)) (progress_at (newest_at region) plan (length plan)) (newest_at (after_plan RECOVERY_LANE region plan))
    plan_reaches =
        subst (λ (events : List Event). Reaches (λ a. a < heap shape) (advance_all (start w) events) (newest_at later)) (sym (take_whole plan (length plan) (omega arith)))
        (Reaches-same (λ a. a < heap shape) behind (advance_all (start w) plan) (newest_at later) (SameOn-events (λ a. a < heap shape) h.progress (start w) plan begins) each_reached)
