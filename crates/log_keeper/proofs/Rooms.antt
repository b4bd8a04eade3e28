-- The room of a partition in the words of one image.
use Rattle.std.proofs.Common.{◌≡◌, ◌⊎◌, inl, inr, ℕ, zero, suc, ◌+◌, ◌<◌, ◌≤◌, ◌==◌, Bool, true, false, if◌then◌else◌, List, [], ◌∷◌, ◌++◌, length, take, map, Some, slice_get, refl, sym, ap, ◌∙◌, subst, arith}
use Rattle.std.proofs.lemmas.Bool.Decides.{nat_tests}
use Rattle.std.proofs.lemmas.List.{take_all, map-append, append_assoc}
use Rattle.persist_model.specs.declared.event.Event.{Event}
use Rattle.persist_model.specs.declared.event.Event.TheVariants.{Fence, PStore}
use Rattle.persist_model.specs.declared.event.Candidate.{Candidate}
use Rattle.persist_model.specs.Region.{Words, Region, candidate, IsCandidate, MayStand, newest}
use Rattle.persist_model.specs.Progress.{Progress, Wrote, Write, latest, Tracks, Reaches, IsWordOf, start, advance, advance_all}
use Rattle.persist_model.specs.Runs.{progress_at}
use Rattle.persist_model.specs.Records.{Record}
use Rattle.persist_model.specs.Shape.{Shape, IsBucketOf, heap, heap_words, log_words}
use Rattle.persist_model.specs.Chain.{view, out_event, out_address}
use Rattle.persist_model.specs.State.{State}
use Rattle.persist_model.specs.Sound.{HasState, room_of}
use Rattle.persist_model.proofs.Candidates.{newest-push}
use Rattle.persist_model.proofs.Tracking.{latest_cases}
use Rattle.persist_model.proofs.Running.{progress-more}
use Rattle.persist_model.proofs.Projecting.{IsFixed-start, IsFixed-aways}
use Rattle.log_laws.proofs.SameLists.{chain_buckets}
use Rattle.log_laws.proofs.Views.{AreAway-stores, view-out}
use Rattle.atomic_list.specs.Plans.{insertion}
use Rattle.atomic_list.specs.Rules.{at_rest}
use Rattle.atomic_list.proofs.ListChains.{list_has_chain}
use Rattle.atomic_list.proofs.RulesToCases.{list_of_rules}
use Rattle.atomic_list.proofs.Unique.{chain_is_one}
use Rattle.region_layout.specs.Layout.{IsAllowed}
use Rattle.bucket_log.specs.declared.append.Place.{Place}
use Rattle.bucket_log.specs.Plans.{closing, body, insertion_of}
use Rattle.bucket_log.specs.Words.{IsLogWord, IsPartWord, AddsToLog}
use Rattle.bucket_log.specs.PartWords.{is_part_word, AreOnPart}
use Rattle.bucket_log.specs.Appends.{CanAppend, region_append}
use Rattle.bucket_log.proofs.Appended.{inside_log, view_room, appends_wait, append_ends}
use Rattle.bucket_log.proofs.Partitions.{part_word_below, log_word_out}
use Rattle.bucket_log.proofs.PartWords.{part_words_are_told, part_stores, own_words_take}
use Rattle.log_partition.proofs.Views.{own_words_decide}
use Rattle.log_clearing.specs.Plans.{closing_plan}
use Rattle.log_clearing.specs.Closed.{AreGroups}
use Rattle.log_clearing.specs.Removals.{more_room}
use Rattle.log_clearing.proofs.ClosingImages.{HasPart, closing_image}
use Rattle.log_clearing.proofs.RemovalStates.{removals_are_states}
use Rattle.log_keeper.specs.Parts.{LogPart, rests, appends, closes, takes_back, drops, plan_of, words_behind, CanRun}
use Rattle.log_keeper.specs.Logged.{Keeping, waiting as waits, plan_in, IsLoggedAt}
use Rattle.log_keeper.specs.Rooms.{IsRoomAt, IsRoomFrom, IsNewestOf, RoomIsOne, HasRooms, ImagesHaveRooms, StoresTakeCells}
use Rattle.log_keeper.proofs.Progressing.{durable_alike, part_on, deletion_groups}
use Rattle.log_keeper.proofs.EventsPass.{images_are_reached, resting_parts_are_settled}

-- ---- the room of words

pub room_is_one : RoomIsOne
room_is_one shape p n m i h k =
    let z : Words = view p (log_words shape i) in
    let same : h.0 ≡ k.0 = chain_is_one z h.0 k.0 (list_has_chain shape p z h.0 h.1) (list_has_chain shape p z k.0 k.1) in
    sym h.2 ∙ ap (room_of shape (view p (log_words shape i)) p) same ∙ k.2

-- that of a state
pub room_of_state : (shape : Shape) (p : ℕ) (w : Words) (x : State) → p < shape.partitions → HasState shape w x → IsRoomAt shape p w (x.room p)
room_of_state shape p w x inside has = (
  has.chains p,
  list_of_rules shape p (view p (log_words shape w)) (has.chains p) (has.lists p inside).rules,
  view_room shape p (log_words shape w) (has.chains p) (chain_buckets (IsBucketOf shape p) (view p (log_words shape w)) (has.chains p) (has.lists p inside).rules) ∙ sym (has.room p inside),
)

-- words that agree on the partition's own have the same
pub room_alike : (shape : Shape) (p n : ℕ) (w i : Words) → IsAllowed shape → p < shape.partitions → ((a : ℕ) → IsPartWord shape p a → i a ≡ w a) → IsRoomAt shape p w n → IsRoomAt shape p i n
room_alike shape p n w i ok inside same h =
    let d = own_words_decide shape p (view p (log_words shape w)) (view p (log_words shape i)) (λ a m out. own_words_take.views shape p w i ok inside same a m) in
    (h.0, d.list h.0 h.1, d.room h.0 h.1 ∙ h.2)

-- ---- an image's words of one partition, in settled words

on_take : (shape : Shape) (p k : ℕ) (plan : List Event) → AreOnPart shape p plan → AreOnPart shape p (take k plan)
on_take shape p k [] on = by k
  where
    by : (k : ℕ) → AreOnPart shape p (take k [])
    by zero = tt
    by (suc k) = tt
on_take shape p zero (e ∷ plan) on = tt
on_take shape p (suc k) (e ∷ plan) on = (on.0, on_take shape p k plan on.1)

module _ (shape : Shape) (p : ℕ) (base i : Words) where
  -- base, with i's words of p
  abbrev pub joined : Words
  joined = λ a. if is_part_word shape p a then i a else base a

  pub joined_in : (a : ℕ) → IsPartWord shape p a → joined a ≡ i a
  joined_in a m = let on : is_part_word shape p a ≡ true = (part_words_are_told shape p a).1 m in rw on refl

  -- it is reached where p's plan has reached i
  pub joined_reached : (plan : List Event) (k : ℕ) → AreOnPart shape p plan → Reaches (IsPartWord shape p) (progress_at base plan k) i →
      Reaches (λ a. a < heap shape) (progress_at base plan k) joined
  joined_reached plan k on h a lt = by (is_part_word shape p a) refl
    where
      aside : (IsPartWord shape p a → ⊥) → (progress_at base plan k).durable a ≡ base a
      aside off = (IsFixed-aways (start base) a (base a) (take k plan)
          (AreAway-stores (IsPartWord shape p) a (take k plan) (λ b n e. off (subst (IsPartWord shape p) e n)) (part_stores shape p (take k plan) (on_take shape p k plan on)))
          (IsFixed-start base a)).durable

      by : (t : Bool) → is_part_word shape p a ≡ t →
          ((if t then i a else base a) ≡ (progress_at base plan k).durable a) ⊎ Wrote (progress_at base plan k).pending a (if t then i a else base a)
      by true e = h a ((part_words_are_told shape p a).0 e)
      by false e = inl (sym (aside (λ m. (let f : is_part_word shape p a ≡ true = (part_words_are_told shape p a).1 m in let g : true ≡ false = sym f ∙ e in cc))))

module _ (shape : Shape) (base : Words) (s : State) (chains : ℕ → List ℕ) (k : Keeping) (region : Region) (p : ℕ) (i : Words) (inside : p < shape.partitions)
    (h : IsLoggedAt shape base s chains k region) (image : MayStand i region) where
  abbrev there : Words
  there = joined shape p base i

  -- what is so of those words is so of i's
  back : (n : ℕ) → IsRoomAt shape p there n → IsRoomAt shape p i n
  back n room = room_alike shape p n there i h.allowed inside (λ a m. sym (joined_in shape p base i a m)) room

  module _ (part : LogPart) (is : (k.runs p).part ≡ part) where
    can : CanRun shape p base s (chains p) part
    can = subst (CanRun shape p base s (chains p)) is (h.can p inside)

    reached : Reaches (λ a. a < heap shape) (progress_at base (plan_of shape p part) (k.runs p).made) there
    reached = joined_reached shape p base i (plan_of shape p part) (k.runs p).made (part_on shape p base s (chains p) part h.allowed inside h.has can)
        (subst (λ (x : LogPart). Reaches (IsPartWord shape p) (progress_at base (plan_of shape p x) (k.runs p).made) i) is
        ((images_are_reached shape base s chains k region i h image).parts p inside))

  rests_room : (k.runs p).part ≡ rests → IsRoomAt shape p i (s.room p)
  rests_room free = room_alike shape p (s.room p) base i h.allowed inside (λ a m. (resting_parts_are_settled shape base s chains k region i p inside free h image).words a m)
      (room_of_state shape p base s inside h.has)

  waits_room : (place : Place) (r : Record) → (k.runs p).part ≡ appends place r → (k.runs p).made + 2 ≤ length (plan_in shape k p) → IsRoomAt shape p i (s.room p)
  waits_room place r is before = back (s.room p) (room_of_state shape p there _ inside
      (appends_wait shape p base there s (chains p) place r (k.runs p).made h.allowed inside h.has (can (appends place r) is)
      (subst (λ (x : LogPart). (k.runs p).made + 2 ≤ length (plan_of shape p x)) is before) (reached (appends place r) is)))

  closed_room : (gates ends checkpoints : List ℕ) → AreGroups s.log gates ends checkpoints →
      Reaches (λ a. a < heap shape) (progress_at base (closing_plan gates ends checkpoints) (k.runs p).made) there → IsRoomFrom shape p i (s.room p)
  closed_room gates ends checkpoints groups at =
      let part : HasPart shape there s gates ends checkpoints = closing_image shape base there s gates ends checkpoints (k.runs p).made h.allowed.partitions.1 h.has groups at in
      (part.room p, back (part.room p) (room_of_state shape p there _ inside (part.state (heap_words shape there) refl)), part.no_less p)

  more_is : more_room p shape.cells s.room p ≡ s.room p + shape.cells
  more_is = let on : (p == p) ≡ true = grind (arith, nat_tests) in rw on refl

  pub has_rooms : HasRooms shape s k p i
  has_rooms = record {
    resting = rests_room;
    waiting = waits_room;
    closing = λ gates ends checkpoints is. closed_room gates ends checkpoints (can (closes gates ends checkpoints) is).0 (reached (closes gates ends checkpoints) is);
    taking_back = λ gates is. closed_room gates [] [] (deletion_groups s.log gates (can (takes_back gates) is).0) (reached (takes_back gates) is);
    dropping = λ r is. elim ((removals_are_states shape p base s r h.allowed inside h.has (can (drops r) is)).images (k.runs p).made there (reached (drops r) is)) [
      | inl has ↦ inl (back (s.room p) (room_of_state shape p there _ inside has))
      | inr has ↦ inr (back (s.room p + shape.cells) (subst (IsRoomAt shape p there) more_is (room_of_state shape p there _ inside has)))
    ];
  }

pub images_have_rooms : ImagesHaveRooms
images_have_rooms shape base s chains k region p i inside h image = has_rooms shape base s chains k region p i inside h image

-- ---- the store of a gate

newest_is : (mark d a v : ℕ) (pending : List Write) (c : List Candidate) → IsWordOf mark d pending a c → IsCandidate c v → v ≡ newest c → v ≡ latest pending a d
newest_is mark d a v pending c h m e = elim (latest_cases pending a d) [
  | inl none ↦ elim (h.values v m) [ inl is ↦ is ∙ sym none.0 | inr wrote ↦ absurd (none.1 v wrote) ]
  | inr wrote ↦ (let last = h.last (latest pending a d) wrote in e ∙ ap newest last.1 ∙ newest-push last.0 (candidate (latest pending a d) mark))
]

slice_last : (xs : List Event) (y : Event) → slice_get (xs ++ y ∷ []) (length xs) ≡ Some y
slice_last [] y = refl
slice_last (x ∷ xs) y = slice_last xs y

length_last : (xs : List Event) (y : Event) → length (xs ++ y ∷ []) ≡ length xs + 1
length_last [] y = refl
length_last (x ∷ xs) y = let e = length_last xs y in omega (arith, e)

-- the last event of an append is a fence
ends_fenced : (shape : Shape) (p made : ℕ) (place : Place) (r : Record) → made + 1 ≡ length (region_append shape p place r) → slice_get (region_append shape p place r) made ≡ Some Fence
ends_fenced shape p made place r last =
    let start_of : List Event = if place.fresh then closing place.bucket shape.cells ++ insertion (insertion_of place) else [] in
    let front : List Event = map (out_event p) (start_of ++ (body r ++ (PStore r.at r.lsn ∷ []))) in
    let is : region_append shape p place r ≡ front ++ Fence ∷ [] =
    ap (map (out_event p)) (sym (append_assoc start_of (body r ++ (PStore r.at r.lsn ∷ [])) (Fence ∷ []))) ∙ map-append (out_event p) (start_of ++ (body r ++ (PStore r.at r.lsn ∷ []))) (Fence ∷ []) in
    let count : made ≡ length front = (let e = ap length is in let f = length_last front Fence in omega (arith, last, e, f)) in
    ap (λ es. slice_get es made) is ∙ ap (slice_get (front ++ Fence ∷ [])) count ∙ slice_last front Fence

module _ (shape : Shape) (base : Words) (s : State) (chains : ℕ → List ℕ) (k : Keeping) (region : Region) (p : ℕ) (i : Words) (place : Place) (r : Record) (inside : p < shape.partitions)
    (is : (k.runs p).part ≡ appends place r) (last : (k.runs p).made + 1 ≡ length (plan_in shape k p)) (h : IsLoggedAt shape base s chains k region)
    (image : MayStand i region) (newest_are : IsNewestOf region i) where
  abbrev plan : List Event
  plan = region_append shape p place r

  abbrev before : Progress
  before = progress_at base (region_append shape p place r) (k.runs p).made

  ends_here : (k.runs p).made + 1 ≡ length (region_append shape p place r)
  ends_here = last ∙ ap (λ (x : LogPart). length (plan_of shape p x)) is

  can_append : CanAppend shape p (view p (log_words shape base)) (chains p) place r
  can_append = subst (CanRun shape p base s (chains p)) is (h.can p inside)

  tracked : Tracks (IsPartWord shape p) (waits k p) (progress_at base (region_append shape p place r) (k.runs p).made) region
  tracked = subst (λ (x : LogPart). Tracks (IsPartWord shape p) (waits k p) (progress_at base (plan_of shape p x) (k.runs p).made) region) is (h.parts p inside)

  -- the newest words are those behind the fence
  whole : advance_all (start base) (region_append shape p place r) ≡ advance (progress_at base (region_append shape p place r) (k.runs p).made) Fence
  whole = ap (advance_all (start base)) (sym (take_all (suc (k.runs p).made) (region_append shape p place r) (let e = ends_here in omega (arith, e))))
      ∙ progress-more base (region_append shape p place r) (k.runs p).made Fence (ends_fenced shape p (k.runs p).made place r ends_here)

  newest_there : (a : ℕ) → IsPartWord shape p a → i a ≡ words_behind shape p (appends place r) base a
  newest_there a m =
      let below = part_word_below shape p a h.allowed inside m in
      let size = h.size in
      let lt : a < region.size = omega (arith, below, size) in
      newest_is (waits k p + 1) (before.durable a) a (i a) before.pending (region.at a) (tracked a m) (image a lt) (newest_are a lt)
      ∙ sym (ap (λ (q : Progress). q.durable a) whole)

  abbrev leaves : Progress
  leaves = advance_all (start (log_words shape base)) (region_append shape p place r)

  adds : AddsToLog shape p (view p (log_words shape base)) (chains p) r (view p leaves.durable)
  adds = (append_ends shape p (log_words shape base) (chains p) place r h.allowed inside can_append).adds

  views_same : (a : ℕ) → IsLogWord shape p a → view p (log_words shape i) a ≡ view p leaves.durable a
  views_same a m =
      let on : IsPartWord shape p (out_address p a) = log_word_out shape p a m in
      let below = part_word_below shape p (out_address p a) h.allowed inside on in
      view-out p (log_words shape i) a ∙ inside_log shape i (out_address p a) below ∙ newest_there (out_address p a) on
      ∙ sym (durable_alike (start (log_words shape base)) (start base) (out_address p a) (region_append shape p place r) refl (inside_log shape base (out_address p a) below))
      ∙ sym (view-out p leaves.durable a)

  room_there : IsRoomAt shape p i (room_of shape (view p leaves.durable) p adds.chain)
  room_there = let d = own_words_decide shape p (view p leaves.durable) (view p (log_words shape i)) (λ a m out. views_same a m) in
      (adds.chain, d.list adds.chain (at_rest adds.at_rest), d.room adds.chain (at_rest adds.at_rest))

  room_settled : room_of shape (view p (log_words shape base)) p (chains p) ≡ s.room p
  room_settled = room_is_one shape p (room_of shape (view p (log_words shape base)) p (chains p)) (s.room p) base (chains p, at_rest (h.rest p inside), refl) (room_of_state shape p base s inside h.has)

pub stores_take_cells : StoresTakeCells
stores_take_cells shape base s chains k region p i place r inside is last h image newest_are = (
  room_of shape (view p (leaves shape base s chains k region p i place r inside is last h image newest_are).durable) p (adds shape base s chains k region p i place r inside is last h image newest_are).chain,
  room_there shape base s chains k region p i place r inside is last h image newest_are,
  (adds shape base s chains k region p i place r inside is last h image newest_are).room ∙ room_settled shape base s chains k region p i place r inside is last h image newest_are,
)
