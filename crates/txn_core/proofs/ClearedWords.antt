-- The newest words of a plain world, as a read finds them.
use Rattle.std.proofs.Common.{◌≡◌, ℕ, ◌<◌, List, refl, sym, ◌∙◌, subst, arith}
use Rattle.std.specs.Prelude.{slice_index}
use Rattle.std.proofs.Math.Logic.{∥∥₁_map, ∥∥₁_elim}
use Rattle.std.proofs.Math.Nat.{ℕ_set}
use Rattle.std.proofs.lemmas.List.FromFn.{get_or-map-range_with_len}
use Rattle.persist_model.specs.Region.{Words, Region, MayStand, newest, newest_words}
use Rattle.persist_model.specs.Shape.{Shape, shape_of, words_of_shape, IsBucketOf}
use Rattle.persist_model.specs.State.{State}
use Rattle.persist_model.specs.Sound.{IsSound}
use Rattle.persist_model.specs.Chain.{view, out_address, AreBuckets}
use Rattle.log_laws.proofs.Views.{view-out}
use Rattle.atomic_list.specs.declared.plans.Remove.{Remove}
use Rattle.atomic_list.specs.Rules.{IsAtRest, at_rest}
use Rattle.atomic_list.specs.Walk.{chain_of}
use Rattle.atomic_list.proofs.Cases.{chain_is_buckets}
use Rattle.atomic_list.proofs.Walks.{chain_of_list}
use Rattle.region_layout.specs.declared.layout.Layout.{Layout}
use Rattle.region_layout.specs.Layout.{layout_shape}
use Rattle.bucket_log.specs.Words.{IsLogWord}
use Rattle.bucket_log.proofs.Partitions.{few_parts, part_word_below, log_word_out}
use Rattle.bucket_log.proofs.PartWords.{own_words_take}
use Rattle.log_clearing.specs.Dropping.{IsFirstClosed}
use Rattle.log_partition.proofs.Marking.{allowed}
use Rattle.log_keeper.specs.Parts.{rests}
use Rattle.log_keeper.specs.Logged.{Keeping, IsLoggedAt}
use Rattle.log_keeper.proofs.EventsPass.{images_are_reached}
use Rattle.history_laws.specs.Stands.{StandsFor}
use Rattle.history_laws.proofs.Headers.{header_is_none's, header_below, same_shape}
use Rattle.txn_laws.specs.Flights.{flight_of}
use Rattle.txn_laws.specs.Worlds.{World, IsWorldAt}
use Rattle.txn_laws.proofs.Moments.{worlds_stand}
use Rattle.txn_laws.proofs.Rooms.{AreFilled, newest_stand}
use Rattle.txn_state.specs.AppendLaws.{newest_image}
use Rattle.txn_state.specs.ReadLaws.{HasLogs}
use Rattle.txn_state.proofs.NextParts.{read_list, read_chain}
use Rattle.txn_state.proofs.Viewing.{removal_same}
use Rattle.txn_core.proofs.Logs.{sound_by, logs_of_sound}

-- ---- they are an image

-- which is sound, and of the layout
pub record HasSoundWords (layout : Layout) (region : Region) : Type 0 where
  pub sound : IsSound region.size (newest_image region)
  pub of_shape : shape_of (newest_image region) ≡ layout_shape layout
  pub long : region.size ≡ words_of_shape (layout_shape layout)

module _ (layout : Layout) (base start : Words) (s : State) (chains : ℕ → List ℕ) (w : World) (region : Region) (filled : AreFilled region)
    (world : IsWorldAt (layout_shape layout) base s chains start w region) where
  image : MayStand (newest_image region) region
  image = newest_stand region (newest_image region) filled (λ a lt. refl)

  stands : StandsFor region.size start w.history (flight_of w.lanes) (newest_image region)
  stands = worlds_stand (layout_shape layout) base s chains start w region world (newest_image region) image

  pub sound_words : HasSoundWords layout region
  sound_words = record {
    sound = record { shape = stands.shape; state = stands.state; has = stands.has; sound = stands.sound };
    of_shape = same_shape region.size base (newest_image region) world.log.header (λ a m.
        (images_are_reached (layout_shape layout) base s chains w.keeping region (newest_image region) world.log.logged image).header a (header_below a m)
        (λ p inside. header_is_none's (layout_shape layout) p a (few_parts (layout_shape layout) p (allowed layout) inside) m)) ∙ world.log.of_shape;
    long = world.log.logged.size;
  }

-- whether they are is decided,
pub sound_words_by : (layout : Layout) (region : Region) → ∥ HasSoundWords layout region ∥₁ → HasSoundWords layout region
sound_words_by layout region some = record {
  sound = sound_by region.size (newest_image region) (∥∥₁_map some (λ h. h.sound));
  of_shape = ∥∥₁_elim some (hlevel ℕ_set) (λ h. h.of_shape);
  long = ∥∥₁_elim some (ℕ_set _ _) (λ h. h.long);
}

-- and where they are each partition has a list
pub logs_of_words : (layout : Layout) (region : Region) → HasSoundWords layout region → HasLogs layout (newest_words region)
logs_of_words layout region found = logs_of_sound layout region found.sound found.of_shape found.long

-- ---- the next removal

row_word : (region : Region) (a : ℕ) → a < region.size → slice_index (newest_words region) a ≡ newest (region.at a)
row_word region a lt = get_or-map-range_with_len (λ b. newest (region.at b)) 0 region.size a a 0 lt (omega arith)

module _ (shape : Shape) (base : Words) (s : State) (chains : ℕ → List ℕ) (k : Keeping) (region : Region) (p : ℕ) (inside : p < shape.partitions)
    (free : (k.runs p).part ≡ rests) (h : IsLoggedAt shape base s chains k region) (filled : AreFilled region) where
  -- the view of a row of them is that of the image
  row_words : (a : ℕ) → IsLogWord shape p a → view p (slice_index (newest_words region)) a ≡ view p (newest_image region) a
  row_words a word =
      let below = part_word_below shape p (out_address p a) h.allowed inside (log_word_out shape p a word) in
      let size = h.size in
      view-out p (slice_index (newest_words region)) a ∙ row_word region (out_address p a) (omega (arith, below, size)) ∙ sym (view-out p (newest_image region) a)

  row_list : IsAtRest shape p (view p (slice_index (newest_words region))) (chains p)
  row_list = own_words_take.at_rest shape p (view p (newest_image region)) (view p (slice_index (newest_words region))) (chains p) row_words
      (read_list shape base s chains k region p inside free h filled)

  row_chain : chain_of shape (view p (slice_index (newest_words region))) ≡ chains p
  row_chain = (chain_of_list shape p (view p (slice_index (newest_words region))) (chains p) inside (at_rest row_list)).0

  row_buckets : AreBuckets (IsBucketOf shape p) (chains p)
  row_buckets = chain_is_buckets shape p (view p (slice_index (newest_words region))) (chains p) (at_rest row_list)

  -- so that a bucket with only closed gates is the same in both
  pub removal_read : (r : Remove) → IsFirstClosed shape (view p (slice_index (newest_words region))) (chain_of shape (view p (slice_index (newest_words region)))) r →
      IsFirstClosed shape (view p (newest_image region)) (chain_of shape (view p (newest_image region))) r
  removal_read r seen = subst (λ xs. IsFirstClosed shape (view p (newest_image region)) xs r) (sym (read_chain shape base s chains k region p inside free h filled))
      (removal_same shape p (view p (slice_index (newest_words region))) (view p (newest_image region)) (chains p) (λ a word. sym (row_words a word)) row_buckets r
      (subst (λ xs. IsFirstClosed shape (view p (slice_index (newest_words region))) xs r) row_chain seen))
