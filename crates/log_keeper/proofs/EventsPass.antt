-- Events elsewhere, the next event of a part, and the begin of one.
use Rattle.std.proofs.Common.{◌≡◌, ◌≢◌, ℕ, suc, ◌<◌, ◌≤◌, Bool, if◌then◌else◌, refl, sym, ◌∙◌, subst, arith}
use Rattle.persist_model.specs.declared.event.Event.{Event}
use Rattle.persist_model.specs.declared.event.Event.TheVariants.{Store, PStore, WriteBack, Fence}
use Rattle.persist_model.specs.Region.{Words, Region, after}
use Rattle.persist_model.specs.Progress.{Tracks, IsAside, AreSettledAt, start, advance_all}
use Rattle.persist_model.specs.Runs.{progress_at}
use Rattle.persist_model.specs.Shape.{Shape, heap, log_words}
use Rattle.persist_model.specs.Chain.{view}
use Rattle.persist_model.proofs.Tracking.{Tracks-aside, Tracks-settled, Reaches-image}
use Rattle.persist_model.proofs.Running.{Tracks-makes, take_nil}
use Rattle.region_layout.specs.Layout.{IsAllowed}
use Rattle.bucket_log.specs.Words.{IsPartWord}
use Rattle.bucket_log.specs.PartWords.{IsOnPart}
use Rattle.bucket_log.proofs.Partitions.{part_words_apart, part_word_below}
use Rattle.bucket_log.proofs.PartWords.{own_words_take}
use Rattle.log_keeper.specs.declared.slots.TheConstants.{NOBODY}
use Rattle.log_keeper.specs.Parts.{LogPart, rests, Running, plan_of, waits_for, CanRun}
use Rattle.log_keeper.specs.Logged.{Keeping, one_more, begun, IsNone's, waiting, plan_in}
use Rattle.log_keeper.specs.Laws.{EventsPass, HeapEventsPass, FencesPass, PartsGoOn, PartsBegin, RegionsStart, TrackedImagesReach, ImagesAreReached, RestingPartsAreSettled}
use Rattle.log_keeper.proofs.Progressing.{by_part, settled_of, settled_aside, size_after, part_durable, durable_event, on_event, part_on, waits_is}

pub events_pass : EventsPass
events_pass shape base s chains k region by e passing h = record {
  size = size_after region by e ∙ h.size;
  allowed = h.allowed;
  has = h.has;
  records = h.records;
  rest = h.rest;
  header = settled_aside (IsNone's shape) by base region e passing.header h.header;
  parts = λ p lt. Tracks-aside (IsPartWord shape p) (waiting k p) by _ region e (passing.parts p lt) (h.parts p lt);
  can = h.can;
}

no_none : (shape : Shape) (a : ℕ) → heap shape ≤ a → IsNone's shape a → ⊥
no_none shape a le none = let low = none.0 in omega (arith, le, low)

no_part : (shape : Shape) (p a : ℕ) → IsAllowed shape → p < shape.partitions → heap shape ≤ a → IsPartWord shape p a → ⊥
no_part shape p a ok lt le m = let below = part_word_below shape p a ok lt m in omega (arith, le, below)

pub heap_events_pass : HeapEventsPass
heap_events_pass shape k by (Store a v) ok le = record { parts = λ p lt m. no_part shape p a ok lt le m; header = λ m. no_none shape a le m }
heap_events_pass shape k by (PStore a v) ok le = record { parts = λ p lt m. no_part shape p a ok lt le m; header = λ m. no_none shape a le m }
heap_events_pass shape k by (WriteBack a) ok le = record { parts = λ p lt m. no_part shape p a ok lt le m; header = λ m. no_none shape a le m }
heap_events_pass shape k by Fence ok le = absurd le

pub fences_pass : FencesPass
fences_pass shape k by lt others = record {
  parts = λ p inside e. others p inside (sym e);
  header = λ e. absurd (omega (arith, lt, e));
}

-- the words of a partition where nothing is under way are settled
rests_settled : (shape : Shape) (p : ℕ) (base : Words) (k : Keeping) (region : Region) → (k.runs p).part ≡ rests →
    Tracks (IsPartWord shape p) (waiting k p) (progress_at base (plan_in shape k p) (k.runs p).made) region → AreSettledAt (IsPartWord shape p) base region
rests_settled shape p base k region free tracks = settled_of (IsPartWord shape p) NOBODY (start base) region refl
    (subst (λ es. Tracks (IsPartWord shape p) NOBODY (advance_all (start base) es) region) (take_nil {X = Event} (k.runs p).made)
    (subst (λ (part : LogPart). Tracks (IsPartWord shape p) (waits_for part (k.holder p)) (progress_at base (plan_of shape p part) (k.runs p).made) region) free tracks))

-- an event of one partition is aside of another
aside_of : (shape : Shape) (p q lane by : ℕ) (e : Event) → IsAllowed shape → p < shape.partitions → q < shape.partitions → q ≢ p → lane ≢ by →
    IsOnPart shape p e → IsAside (IsPartWord shape q) lane by e
aside_of shape p q lane by (Store a v) ok lt lt' ne other on = λ m. part_words_apart shape p q a ok lt lt' ne m on
aside_of shape p q lane by (PStore a v) ok lt lt' ne other on = λ m. part_words_apart shape p q a ok lt lt' ne m on
aside_of shape p q lane by (WriteBack a) ok lt lt' ne other on = λ m. part_words_apart shape p q a ok lt lt' ne m on
aside_of shape p q lane by Fence ok lt lt' ne other on = λ e. other (sym e)

aside_header : (shape : Shape) (p by : ℕ) (e : Event) → p < shape.partitions → by < NOBODY → IsOnPart shape p e → IsAside (IsNone's shape) NOBODY by e
aside_header shape p by (Store a v) lt few on = λ none. none.1 p lt on
aside_header shape p by (PStore a v) lt few on = λ none. none.1 p lt on
aside_header shape p by (WriteBack a) lt few on = λ none. none.1 p lt on
aside_header shape p by Fence lt few on = λ e. absurd (omega (arith, few, e))

pub parts_go_on : PartsGoOn
parts_go_on shape base s chains k region p e inside few alone found h = record {
  size = size_after region (k.holder p) e ∙ h.size;
  allowed = h.allowed;
  has = h.has;
  records = h.records;
  rest = h.rest;
  header = settled_aside (IsNone's shape) (k.holder p) base region e (aside_header shape p (k.holder p) e inside few on) h.header;
  parts = λ q lt. by_part (λ n t. n < shape.partitions → Tracks (IsPartWord shape n) (waits_for (run n t).part (k.holder n)) (progress_at base (plan_of shape n (run n t).part) (run n t).made) later) p q
      (λ lt. own)
      (λ ne lt. Tracks-aside (IsPartWord shape q) (waiting k q) (k.holder p) _ region e (aside_of shape p q (waiting k q) (k.holder p) e h.allowed inside lt ne (alone q lt ne) on) (h.parts q lt)) lt;
  can = λ q lt. by_part (λ n t. n < shape.partitions → CanRun shape n base s (chains n) (run n t).part) p q (λ lt. h.can p lt) (λ ne lt. h.can q lt) lt;
}
  where
    run : ℕ → Bool → Running
    run n t = if t then one_more (k.runs p) else k.runs n

    later : Region
    later = after region (k.holder p) e

    on : IsOnPart shape p e
    on = on_event shape p (plan_in shape k p) (part_on shape p base s (chains p) (k.runs p).part h.allowed inside h.has (h.can p inside)) (k.runs p).made e found

    own : Tracks (IsPartWord shape p) (waiting k p) (progress_at base (plan_in shape k p) (suc (k.runs p).made)) later
    own = subst (λ l. Tracks (IsPartWord shape p) (waiting k p) (progress_at base (plan_in shape k p) (suc (k.runs p).made)) (after region l e))
        (waits_is shape p (k.runs p).part (k.holder p) (k.runs p).made e found)
        (Tracks-makes (IsPartWord shape p) (waiting k p) base (plan_in shape k p) (k.runs p).made e region found
        (durable_event (plan_in shape k p) (part_durable shape p (k.runs p).part) (k.runs p).made e found) (h.parts p inside))

-- ---- beginnings

pub parts_begin : PartsBegin
parts_begin shape base s chains k region p lane part ledger inside free can same h = record {
  size = h.size;
  allowed = h.allowed;
  has = h.has;
  records = h.records ∙ sym same;
  rest = h.rest;
  header = h.header;
  parts = λ q lt. by_part (λ n t. n < shape.partitions → Tracks (IsPartWord shape n) (waits_for (run n t).part (lane_of n t)) (progress_at base (plan_of shape n (run n t).part) (run n t).made) region) p q
      (λ lt. Tracks-settled (IsPartWord shape p) (waits_for part lane) base region settled) (λ ne lt. h.parts q lt) lt;
  can = λ q lt. by_part (λ n t. n < shape.partitions → CanRun shape n base s (chains n) (run n t).part) p q (λ lt. can) (λ ne lt. h.can q lt) lt;
}
  where
    run : ℕ → Bool → Running
    run n t = if t then begun part else k.runs n

    lane_of : ℕ → Bool → ℕ
    lane_of n t = if t then lane else k.holder n

    settled : AreSettledAt (IsPartWord shape p) base region
    settled = rests_settled shape p base k region free (h.parts p inside)

pub regions_start : RegionsStart
regions_start shape base s chains k region size ok has records rest settled resting = record {
  size = size;
  allowed = ok;
  has = has;
  records = records;
  rest = rest;
  header = λ a none. settled a (let low = none.0 in omega (arith, low));
  parts = λ p lt. subst (λ (part : LogPart). Tracks (IsPartWord shape p) (waits_for part (k.holder p)) (progress_at base (plan_of shape p part) (k.runs p).made) region) (sym (resting p lt))
      (subst (λ es. Tracks (IsPartWord shape p) NOBODY (advance_all (start base) es) region) (sym (take_nil {X = Event} (k.runs p).made))
      (Tracks-settled (IsPartWord shape p) NOBODY base region (λ a m. settled a (part_word_below shape p a ok lt m))));
  can = λ p lt. subst (CanRun shape p base s (chains p)) (sym (resting p lt)) tt;
}

-- ---- images

pub tracked_images_reach : TrackedImagesReach
tracked_images_reach shape base runs holder region i ok tracked image = record {
  header = λ a low none. tracked.header a (low, none) (i a) (image a (let size = tracked.size in omega (arith, low, size)));
  parts = λ p lt. Reaches-image (IsPartWord shape p) (holder p) (progress_at base (plan_of shape p (runs p).part) (runs p).made) region i
      (λ a m. (let size = tracked.size in let inside = part_word_below shape p a ok lt m in omega (arith, inside, size))) image (tracked.parts p lt);
}

pub images_are_reached : ImagesAreReached
images_are_reached shape base s chains k region i h image =
    tracked_images_reach shape base k.runs (waiting k) region i h.allowed (record { size = h.size; header = h.header; parts = h.parts }) image

pub resting_parts_are_settled : RestingPartsAreSettled
resting_parts_are_settled shape base s chains k region i p inside free h image = record {
  words = words;
  list = own_words_take.at_rest shape p (view p (log_words shape base)) (view p (log_words shape i)) (chains p)
      (own_words_take.views shape p base i h.allowed inside words) (h.rest p inside);
}
  where
    words : (a : ℕ) → IsPartWord shape p a → i a ≡ base a
    words a m = rests_settled shape p base k region free (h.parts p inside) a m (i a)
        (image a (let size = h.size in let below = part_word_below shape p a h.allowed inside m in omega (arith, size, below)))
