-- A plan on the list words of one partition, made on the region: what it stores to, and what stays.
use Rattle.std.proofs.Common.{◌≡◌, inr, ℕ, ◌+◌, ◌*◌, ◌<◌, ◌≤◌, List, map, take, sym, ◌∙◌, subst, arith}
use Rattle.persist_model.specs.declared.event.Event.{Event}
use Rattle.persist_model.specs.Region.{Words}
use Rattle.persist_model.specs.Progress.{start, Reaches}
use Rattle.persist_model.specs.Runs.{progress_at}
use Rattle.persist_model.specs.Shape.{Shape, IsBucketOf, heap, log_words}
use Rattle.persist_model.specs.Chain.{out_address, out_event}
use Rattle.persist_model.specs.ImageRecords.{cell_address, record_at}
use Rattle.persist_model.proofs.Projecting.{AreAway-take, IsFixed-start, IsFixed-aways, Reaches-fixed}
use Rattle.log_laws.specs.Recovering.{AreOnLog}
use Rattle.log_laws.proofs.Views.{AreStoresOn, AreStoresOn-map, AreStoresOn-out, AreAway-stores, view_reaches, view_behind}
use Rattle.atomic_list.specs.Rules.{IsListWord}
use Rattle.region_layout.specs.Layout.{IsAllowed}
use Rattle.bucket_log.specs.Words.{IsLogWord, IsPartWord}
use Rattle.bucket_log.proofs.Addresses.{bucket_above, list_word_is_no_cell, list_word_is_log_word}
use Rattle.bucket_log.proofs.Appended.{AreOnLog-stores, log_reaches}
use Rattle.bucket_log.proofs.Partitions.{few_parts, log_word_out, log_word_own, part_word_below}
use Rattle.bucket_log.proofs.RecordSets.{same_cell}
use Rattle.recovery_lists.specs.Repairs.{seen}

module _ (shape : Shape) (ok : IsAllowed shape) (p : ℕ) (inside : p < shape.partitions) (w : Words) (plan : List Event) (stores : AreStoresOn (IsListWord shape p) plan) where
  pub part_stores : AreStoresOn (IsPartWord shape p) (map (out_event p) plan)
  part_stores = AreStoresOn-out (IsListWord shape p) (IsPartWord shape p) p (λ a m. log_word_out shape p a (list_word_is_log_word shape p a m)) plan stores

  pub part_on_log : AreOnLog shape (map (out_event p) plan)
  part_on_log = AreOnLog-stores shape (IsPartWord shape p) (λ a m. part_word_below shape p a ok inside m) (map (out_event p) plan) part_stores

  module _ (k : ℕ) (v : Words) (h : Reaches (λ a. a < heap shape) (progress_at w (map (out_event p) plan) k) v) where
    -- what the view reaches
    pub seen_reached : Reaches (IsLogWord shape p) (progress_at (seen shape p w) plan k) (seen shape p v)
    seen_reached = view_reaches (λ a. a < heap shape) (IsLogWord shape p) p k (log_words shape w) (log_words shape v) plan (few_parts shape p ok inside)
        (log_word_own shape p) (λ a m. part_word_below shape p (out_address p a) ok inside (log_word_out shape p a m))
        (AreStoresOn-map (IsListWord shape p) (IsLogWord shape p) (list_word_is_log_word shape p) plan stores)
        (log_reaches shape w v (map (out_event p) plan) k h)

    -- words outside the partition aren't stored to
    pub others_stay : (a : ℕ) → a < heap shape → (IsPartWord shape p a → ⊥) → v a ≡ w a
    others_stay a lt off = Reaches-fixed (λ b. b < heap shape) (progress_at w (map (out_event p) plan) k) v a (w a) lt
        (IsFixed-aways (start w) a (w a) (take k (map (out_event p) plan))
        (AreAway-take a k (map (out_event p) plan) (AreAway-stores (IsPartWord shape p) a (map (out_event p) plan) (λ b n e. off (subst (IsPartWord shape p) e n)) part_stores))
        (IsFixed-start w a)) h

    -- and no cells
    cell_word : (b a : ℕ) → IsBucketOf shape p b → b + 8 ≤ a → a < b + (8 + 8 * shape.cells) → log_words shape v a ≡ log_words shape w a
    cell_word b a is low high =
        let above = bucket_above shape p b is in
        let fixed : seen shape p v a ≡ seen shape p w a =
        Reaches-fixed (IsLogWord shape p) (progress_at (seen shape p w) plan k) (seen shape p v) a (seen shape p w a) (inr (b, is, omega (arith, low), high))
        (IsFixed-aways (start (seen shape p w)) a (seen shape p w a) (take k plan)
        (AreAway-take a k plan (AreAway-stores (IsListWord shape p) a plan (λ c n e. list_word_is_no_cell shape p p a b (subst (IsListWord shape p) e n) is low high) stores))
        (IsFixed-start (seen shape p w) a)) seen_reached in
        sym (view_behind p (log_words shape v) a (omega (arith, above, low))) ∙ fixed ∙ view_behind p (log_words shape w) a (omega (arith, above, low))

    pub gate_stays : (b c : ℕ) → IsBucketOf shape p b → c < shape.cells → log_words shape v (cell_address b c) ≡ log_words shape w (cell_address b c)
    gate_stays b c is below = cell_word b (cell_address b c) is (omega arith) (omega (arith, below))

    pub cell_stays : (b c : ℕ) → IsBucketOf shape p b → c < shape.cells → record_at (log_words shape v) (cell_address b c) ≡ record_at (log_words shape w) (cell_address b c)
    cell_stays b c is below = same_cell (log_words shape v) (log_words shape w) (cell_address b c) (λ a low high. cell_word b a is (omega (arith, low)) (omega (arith, high, below)))
