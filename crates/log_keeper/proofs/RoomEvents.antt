-- What events make of the room in the newest words.
use Rattle.std.proofs.Common.{◌≡◌, ◌≢◌, ◌⊎◌, inl, inr, ℕ, zero, suc, ◌+◌, ◌<◌, ◌≤◌, ◌==◌, Bool, true, false, cond, if◌then◌else◌, List, [], ◌∷◌, ◌++◌, Some, slice_get, refl, sym, ap, ◌∙◌, subst, arith}
use Rattle.std.proofs.lemmas.Bool.Decides.{eqb_tells}
use Rattle.persist_model.specs.declared.event.Candidate.{Candidate}
use Rattle.persist_model.specs.declared.event.Event.{Event}
use Rattle.persist_model.specs.declared.event.Event.TheVariants.{Store, PStore, WriteBack, Fence}
use Rattle.persist_model.specs.Region.{Words, Region, candidate, with_word, mark_last, after, newest}
use Rattle.persist_model.specs.Records.{IsAmong}
use Rattle.persist_model.specs.Shape.{Shape, IsBucketOf, log_words, words_of_shape}
use Rattle.persist_model.specs.Chain.{view, last_or, out_address}
use Rattle.persist_model.specs.ImageRecords.{cell_address}
use Rattle.persist_model.specs.State.{State}
use Rattle.persist_model.specs.Sound.{HasState, closed_cells, room_of}
use Rattle.persist_model.proofs.Candidates.{newest-push, newest_same_values, map-value_of-mark_last, newest-fenced}
use Rattle.log_laws.proofs.Views.{view-out}
use Rattle.atomic_list.specs.Rules.{IsListWord, IsList}
use Rattle.atomic_list.proofs.Agreeing.{lists_agree}
use Rattle.atomic_list.proofs.Cases.{chain_is_buckets}
use Rattle.region_layout.specs.Layout.{IsAllowed}
use Rattle.bucket_log.specs.Words.{IsLogWord, IsPartWord}
use Rattle.bucket_log.proofs.Addresses.{list_word_is_log_word}
use Rattle.bucket_log.proofs.Appended.{inside_log}
use Rattle.bucket_log.proofs.AppendImages.{Each-among, among_last}
use Rattle.bucket_log.proofs.Partitions.{part_word_below, log_word_out}
use Rattle.log_clearing.specs.Plans.{closes as shuts, group, closing_plan}
use Rattle.log_clearing.specs.Closed.{AreGroups}
use Rattle.log_keeper.specs.Parts.{LogPart, closes, takes_back, plan_of, IsListedGate, CanRun}
use Rattle.log_keeper.specs.Rooms.{IsRoomAt, IsRoomFrom, IsNewestOf, IsElsewhere, RoomsStay, ClosingsRaiseRooms}
use Rattle.log_keeper.proofs.Progressing.{size_after, deletion_groups}
use Rattle.log_keeper.proofs.Groups.{no_list_word}
use Rattle.log_keeper.proofs.Rooms.{room_alike}

-- ---- the newest value of one word

abbrev IsNoStore : ℕ → Event → Type 0
IsNoStore a (Store b v) = a ≢ b
IsNoStore a (PStore b v) = a ≢ b
IsNoStore a (WriteBack b) = Unit {0}
IsNoStore a Fence = Unit {0}

other_word : (a b : ℕ) (change : List Candidate → List Candidate) (region : Region) → a ≢ b → (with_word b change region).at a ≡ region.at a
other_word a b change region ne = elim (eqb_tells a b) [ inl e ↦ absurd (ne e.1) | inr off ↦ ap (λ t. cond t (change (region.at a)) (region.at a)) off.0 ]

same_word : (a : ℕ) (change : List Candidate → List Candidate) (region : Region) → (with_word a change region).at a ≡ change (region.at a)
same_word a change region = elim (eqb_tells a a) [ inl e ↦ ap (λ t. cond t (change (region.at a)) (region.at a)) e.0 | inr off ↦ absurd (off.1 refl) ]

same_newest : (region : Region) (by a : ℕ) (e : Event) → IsNoStore a e → newest ((after region by e).at a) ≡ newest (region.at a)
same_newest region by a (Store b v) away = ap newest (other_word a b (λ cs. cs ++ candidate v 0 ∷ []) region away)
same_newest region by a (PStore b v) away = ap newest (other_word a b (λ cs. cs ++ candidate v (by + 1) ∷ []) region away)
same_newest region by a (WriteBack b) away = elim (eqb_tells a b) [
  | inl e ↦ (ap (λ t. newest (cond t (mark_last (by + 1) (region.at a)) (region.at a))) e.0
      ∙ newest_same_values (mark_last (by + 1) (region.at a)) (region.at a) (map-value_of-mark_last (by + 1) (region.at a)))
  | inr off ↦ ap (λ t. newest (cond t (mark_last (by + 1) (region.at a)) (region.at a))) off.0
]
same_newest region by a Fence away = newest-fenced (by + 1) (region.at a)

stored_newest : (region : Region) (by a v : ℕ) → newest ((after region by (PStore a v)).at a) ≡ v
stored_newest region by a v = ap newest (same_word a (λ cs. cs ++ candidate v (by + 1) ∷ []) region) ∙ newest-push (region.at a) (candidate v (by + 1))

module _ (region : Region) (by : ℕ) (e : Event) (i j : Words) (before : IsNewestOf region i) (later : IsNewestOf (after region by e) j) where
  same_value : (a : ℕ) → a < region.size → IsNoStore a e → j a ≡ i a
  same_value a lt away = let size = size_after region by e in later a (omega (arith, lt, size)) ∙ same_newest region by a e away ∙ sym (before a lt)

-- ---- events elsewhere

away_of : (shape : Shape) (p a : ℕ) (e : Event) → IsElsewhere shape p e → IsPartWord shape p a → IsNoStore a e
away_of shape p a (Store b v) off m = λ e. off (subst (IsPartWord shape p) e m)
away_of shape p a (PStore b v) off m = λ e. off (subst (IsPartWord shape p) e m)
away_of shape p a (WriteBack b) off m = tt
away_of shape p a Fence off m = tt

pub rooms_stay : RoomsStay
rooms_stay shape p by n e region i j ok inside size off before later room = room_alike shape p n i j ok inside
    (λ a m. same_value region by e i j before later a (let below = part_word_below shape p a ok inside m in omega (arith, below, size)) (away_of shape p a e off m)) room

-- ---- the events of a closing

module _ (P : ℕ → Type 0) where
  abbrev ShutsBy : Event → Type 0
  ShutsBy (Store b v) = ⊥
  ShutsBy (PStore b v) = P b × (v ≡ 0)
  ShutsBy (WriteBack b) = ⊥
  ShutsBy Fence = Unit {0}

  abbrev AllShut : List Event → Type 0
  AllShut [] = Unit {0}
  AllShut (e ∷ es) = ShutsBy e × AllShut es

  shut_append : (xs ys : List Event) → AllShut xs → AllShut ys → AllShut (xs ++ ys)
  shut_append [] ys h k = k
  shut_append (x ∷ xs) ys h k = (h.0, shut_append xs ys h.1 k)

  shut_gates : (gates : List ℕ) → ((a : ℕ) → IsAmong gates a → P a) → AllShut (shuts gates)
  shut_gates [] each = tt
  shut_gates (a ∷ gates) each = ((each a (inl refl), refl), shut_gates gates (λ b m. each b (inr m)))

  shut_group : (gates : List ℕ) → ((a : ℕ) → IsAmong gates a → P a) → AllShut (group gates)
  shut_group [] each = tt
  shut_group (a ∷ gates) each = ((each a (inl refl), refl), shut_append (shuts gates) (Fence ∷ []) (shut_gates gates (λ b m. each b (inr m))) (tt, tt))

  shut_at : (plan : List Event) (k : ℕ) (e : Event) → AllShut plan → slice_get plan k ≡ Some e → ShutsBy e
  shut_at [] k e each found = cc
  shut_at (x ∷ plan) zero e each found = let same : x ≡ e = cc in subst ShutsBy same each.0
  shut_at (x ∷ plan) (suc k) e each found = shut_at plan k e each.1 found

closing_shuts : (gates ends checkpoints : List ℕ) → AllShut (IsListedGate gates ends checkpoints) (closing_plan gates ends checkpoints)
closing_shuts gates ends checkpoints =
    shut_append (IsListedGate gates ends checkpoints) (group gates) (group ends ++ group checkpoints) (shut_group (IsListedGate gates ends checkpoints) gates (λ a m. inl m))
    (shut_append (IsListedGate gates ends checkpoints) (group ends) (group checkpoints) (shut_group (IsListedGate gates ends checkpoints) ends (λ a m. inr (inl m)))
    (shut_group (IsListedGate gates ends checkpoints) checkpoints (λ a m. inr (inr m))))

-- ---- more closed cells

abbrev count : Bool → ℕ
count t = if t then 1 else 0

count_few : (t : Bool) → count t ≤ 1
count_few true = omega arith
count_few false = omega arith

closed_more : (w v : Words) (b n : ℕ) → ((c : ℕ) → c < n → (v (cell_address b c) ≡ w (cell_address b c)) ⊎ (v (cell_address b c) ≡ 0)) → closed_cells w b n ≤ closed_cells v b n
closed_more w v b zero less = omega arith
closed_more w v b (suc n) less =
    let rest = closed_more w v b n (λ c lt. less c (omega (arith, lt))) in
    let here : count (w (cell_address b n) == 0) ≤ count (v (cell_address b n) == 0) = elim (less n (omega arith)) [
      | inl e ↦ (let same : count (v (cell_address b n) == 0) ≡ count (w (cell_address b n) == 0) = ap (λ x. count (x == 0)) e in omega (arith, same))
      | inr zero_now ↦ (let one : count (v (cell_address b n) == 0) ≡ 1 = ap (λ x. count (x == 0)) zero_now in let few = count_few (w (cell_address b n) == 0) in omega (arith, one, few))
    ] in
    omega (arith, rest, here)

room_more : (shape : Shape) (w v : Words) (p : ℕ) (chain : List ℕ) →
    (last_or 0 chain ≢ 0 → (c : ℕ) → c < shape.cells → (v (cell_address (last_or 0 chain) c) ≡ w (cell_address (last_or 0 chain) c)) ⊎ (v (cell_address (last_or 0 chain) c) ≡ 0)) →
    room_of shape w p chain ≤ room_of shape v p chain
room_more shape w v p chain less = elim (eqb_tells (last_or 0 chain) 0) [
  | inl e ↦ (rw e.0 (omega arith))
  | inr ne ↦ (let more = closed_more w v (last_or 0 chain) shape.cells (less ne.1) in rw ne.0 (omega (arith, more)))
]

module _ (shape : Shape) (base : Words) (s : State) (has : HasState shape base s) (ok : IsAllowed shape) (p : ℕ) (inside : p < shape.partitions) (gates ends checkpoints : List ℕ)
    (groups : AreGroups s.log gates ends checkpoints) (region : Region) (by n : ℕ) (i j : Words) (size : region.size ≡ words_of_shape shape)
    (before : IsNewestOf region i) (room : IsRoomAt shape p i n) where
  raised : (e : Event) → ShutsBy (IsListedGate gates ends checkpoints) e → IsNewestOf (after region by e) j → IsRoomFrom shape p j n
  raised (Store b v) shut later = absurd shut
  raised (WriteBack b) shut later = absurd shut
  raised Fence shut later = (
    n,
    room_alike shape p n i j ok inside
        (λ a m. same_value region by Fence i j before later a (let below = part_word_below shape p a ok inside m in omega (arith, below, size)) tt) room,
    omega arith,
  )
  raised (PStore b v) shut later = (room_of shape (view p (log_words shape j)) p room.0, (room.0, list, refl), (let is = room.2 in omega (arith, is, more)))
    where
      value : (a : ℕ) → IsLogWord shape p a → (j (out_address p a) ≡ i (out_address p a)) ⊎ ((j (out_address p a) ≡ 0) × (out_address p a ≡ b))
      value a m =
          let below = part_word_below shape p (out_address p a) ok inside (log_word_out shape p a m) in
          let lt : out_address p a < region.size = omega (arith, below, size) in
          elim (eqb_tells (out_address p a) b) [
            | inl at ↦ inr (
              (let long = size_after region by (PStore b v) in later (out_address p a) (omega (arith, lt, long)))
                  ∙ ap (λ x. newest ((after region by (PStore b v)).at x)) at.1 ∙ stored_newest region by b v ∙ shut.1,
              at.1,
            )
            | inr off ↦ inl (same_value region by (PStore b v) i j before later (out_address p a) lt off.1)
          ]

      seen : (w : Words) (a : ℕ) → IsLogWord shape p a → view p (log_words shape w) a ≡ w (out_address p a)
      seen w a m = view-out p (log_words shape w) a ∙ inside_log shape w (out_address p a) (part_word_below shape p (out_address p a) ok inside (log_word_out shape p a m))

      less : (a : ℕ) → IsLogWord shape p a → (view p (log_words shape j) a ≡ view p (log_words shape i) a) ⊎ (view p (log_words shape j) a ≡ 0)
      less a m = elim (value a m) [
        | inl same ↦ inl (seen j a m ∙ same ∙ sym (seen i a m))
        | inr gone ↦ inr (seen j a m ∙ gone.0)
      ]

      list_same : (a : ℕ) → IsListWord shape p a → view p (log_words shape j) a ≡ view p (log_words shape i) a
      list_same a m = elim (value a (list_word_is_log_word shape p a m)) [
        | inl same ↦ (seen j a (list_word_is_log_word shape p a m) ∙ same ∙ sym (seen i a (list_word_is_log_word shape p a m)))
        | inr gone ↦ absurd (no_list_word shape base s has ok p inside gates ends checkpoints groups a m (subst (IsListedGate gates ends checkpoints) (sym gone.1) shut.0))
      ]

      list : IsList shape p (view p (log_words shape j)) room.0
      list = lists_agree shape p (view p (log_words shape i)) (view p (log_words shape j)) room.0 list_same room.1

      more : room_of shape (view p (log_words shape i)) p room.0 ≤ room_of shape (view p (log_words shape j)) p room.0
      more = room_more shape (view p (log_words shape i)) (view p (log_words shape j)) p room.0 (λ ne c below. (
          let is : IsBucketOf shape p (last_or 0 room.0) =
          Each-among (IsBucketOf shape p) room.0 (last_or 0 room.0) (chain_is_buckets shape p (view p (log_words shape i)) room.0 room.1) (among_last room.0 ne) in
          less (cell_address (last_or 0 room.0) c) (inr (last_or 0 room.0, is, omega arith, omega (arith, below)))))

pub closings_raise_rooms : ClosingsRaiseRooms
closings_raise_rooms shape base s chains k region p n e i j gates ends checkpoints part next h before later room = by part
  where
    by : ((k.runs p).part ≡ closes gates ends checkpoints) ⊎ ((k.runs p).part ≡ takes_back gates) → IsRoomFrom shape p j n
    by (inl is) =
        let can : CanRun shape p base s (chains p) (closes gates ends checkpoints) = subst (CanRun shape p base s (chains p)) is (h.can p next.inside) in
        let found : slice_get (closing_plan gates ends checkpoints) (k.runs p).made ≡ Some e =
        subst (λ (x : LogPart). slice_get (plan_of shape p x) (k.runs p).made ≡ Some e) is next.next in
        raised shape base s h.has h.allowed p next.inside gates ends checkpoints can.0 region (k.holder p) n i j h.size before room e
        (shut_at (IsListedGate gates ends checkpoints) (closing_plan gates ends checkpoints) (k.runs p).made e (closing_shuts gates ends checkpoints) found) later
    by (inr is) =
        let can : CanRun shape p base s (chains p) (takes_back gates) = subst (CanRun shape p base s (chains p)) is (h.can p next.inside) in
        let found : slice_get (closing_plan gates [] []) (k.runs p).made ≡ Some e =
        subst (λ (x : LogPart). slice_get (plan_of shape p x) (k.runs p).made ≡ Some e) is next.next in
        raised shape base s h.has h.allowed p next.inside gates [] [] (deletion_groups s.log gates can.0) region (k.holder p) n i j h.size before room e
        (shut_at (IsListedGate gates [] []) (closing_plan gates [] []) (k.runs p).made e (closing_shuts gates [] []) found) later
