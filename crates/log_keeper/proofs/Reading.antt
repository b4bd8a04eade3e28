-- What is read where nothing is under way, and the region as histories ask of it.
use Rattle.std.proofs.Common.{◌≡◌, ◌≢◌, inr, ℕ, ◌<◌, arith, sym, ap, ◌∙◌, subst}
use Rattle.persist_model.specs.Progress.{Tracks}
use Rattle.persist_model.specs.Runs.{progress_at}
use Rattle.persist_model.specs.Shape.{log_words}
use Rattle.persist_model.specs.Chain.{view, last_or}
use Rattle.persist_model.specs.ImageRecords.{cell_address}
use Rattle.persist_model.specs.Sound.{room_of}
use Rattle.atomic_list.specs.Rules.{at_rest}
use Rattle.atomic_list.proofs.ListChains.{list_has_chain}
use Rattle.atomic_list.proofs.RulesToCases.{list_of_rules}
use Rattle.atomic_list.proofs.Unique.{chain_is_one}
use Rattle.persist_model.specs.Shape.{IsBucketOf}
use Rattle.bucket_log.specs.Words.{IsLogWord, IsPartWord}
use Rattle.bucket_log.proofs.Appended.{inside_log, next_places_take}
use Rattle.bucket_log.proofs.AppendImages.{Each-among, among_last}
use Rattle.bucket_log.proofs.Partitions.{part_word_below}
use Rattle.bucket_log.proofs.PartWords.{own_words_take}
use Rattle.bucket_log.proofs.Rooms.{room_same}
use Rattle.log_clearing.proofs.PartPlans.{own_words_drop}
use Rattle.log_keeper.specs.Parts.{Running, plan_of}
use Rattle.log_keeper.specs.Logged.{waiting}
use Rattle.log_keeper.specs.Laws.{IsAtRestIn, RestingPartsAreRead, KeepersTrack}
use Rattle.log_keeper.proofs.EventsPass.{resting_parts_are_settled}

pub resting_parts_are_read : RestingPartsAreRead
resting_parts_are_read shape base s chains k region i p inside free h image = record {
  append = λ place r next at ne. next_places_take shape p (view p (log_words shape base)) (chains p) place r (h.rest p inside)
      (own_words_take.next shape p (view p (log_words shape i)) (view p (log_words shape base)) (chains p) place back (at_rest there.list) next) at ne;
  removal = λ r can. own_words_drop shape p (view p (log_words shape i)) (view p (log_words shape base)) r back can;
  room = room_same shape (log_words shape i) (log_words shape base) p (chains p) (λ c below ne. gate_same (chain_bucket ne) c below)
      ∙ ap (room_of shape (log_words shape base) p) chain_is ∙ sym (h.has.room p inside);
}
  where
    there : IsAtRestIn shape base chains p i
    there = resting_parts_are_settled shape base s chains k region i p inside free h image

    back : (a : ℕ) → IsLogWord shape p a → view p (log_words shape base) a ≡ view p (log_words shape i) a
    back = own_words_take.views shape p i base h.allowed inside (λ a m. sym (there.words a m))

    chain_bucket : last_or 0 (chains p) ≢ 0 → IsBucketOf shape p (last_or 0 (chains p))
    chain_bucket ne = Each-among (IsBucketOf shape p) (chains p) (last_or 0 (chains p)) (h.rest p inside).buckets (among_last (chains p) ne)

    gate_same : {b : ℕ} → IsBucketOf shape p b → (c : ℕ) → c < shape.cells → log_words shape i (cell_address b c) ≡ log_words shape base (cell_address b c)
    gate_same {b} is c below =
        let m : IsPartWord shape p (cell_address b c) = inr (b, is, omega arith, omega (arith, below)) in
        let low = part_word_below shape p (cell_address b c) h.allowed inside m in
        inside_log shape i (cell_address b c) low ∙ there.words (cell_address b c) m ∙ sym (inside_log shape base (cell_address b c) low)

    chain_is : chains p ≡ h.has.chains p
    chain_is = chain_is_one (view p (log_words shape base)) (chains p) (h.has.chains p)
        (list_has_chain shape p (view p (log_words shape base)) (chains p) (at_rest (h.rest p inside)))
        (list_has_chain shape p (view p (log_words shape base)) (h.has.chains p) (list_of_rules shape p (view p (log_words shape base)) (h.has.chains p) (h.has.lists p inside).rules))

pub keepers_track : KeepersTrack
keepers_track shape base s chains k region runs same h = record {
  size = h.size;
  header = h.header;
  parts = λ p lt. subst (λ (run : Running). Tracks (IsPartWord shape p) (waiting k p) (progress_at base (plan_of shape p run.part) run.made) region) (same p lt) (h.parts p lt);
}
